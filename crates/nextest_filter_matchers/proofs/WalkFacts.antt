-- What the flags of a walk say, and that a step keeps it so.
use Rattle.std.proofs.Common.{◌≡◌, ◌≢◌, ◌∙◌, ℕ, zero, suc, ◌+◌, ◌<◌, ◌≤◌, ◌⊎◌, ◌↔◌, inl, inr, Bool, true, false, [], ◌∷◌, ◌||◌, IsTrue, List, length, nat_eq, slice_index_or, slice_set, refl, sym, ap, subst, add-one, arith}
use Rattle.std.proofs.lemmas.Bool.{cases_lt, or_cases, or_left, or_right, and_parts, and_from, false≢true}
use Rattle.std.proofs.lemmas.List.{length-set, get_or-set_same, get_or-set_other, get_or-replicate, get_or_past, get_or_default, length-replicate, length-drop, drop_more, drop_all}
use Rattle.std.proofs.lemmas.Bool.{eqb-true, eq-eqb}
use Rattle.std.proofs.lemmas.Str.{encodes-chars}
use Rattle.std.specs.Str.{chars, encode_utf8_all}
use Rattle.std.specs.Prelude.{IsUtf8, replicate, drop}
use Rattle.nextest_filter_matchers.specs.Globs.{Glob, Token, CharacterSet, Empty, Single, Then, Either, One, AnyText, LeadingDirectories, InnerDirectories, TrailingDirectories, Character, is_in_set, IsOne, IsSlash, IsText, IsDirectories, SuitsToken, Suits, GlobMatches, spelled}
use Rattle.nextest_filter_matchers.specs.Walks.{Step, flag_at, one_step, text_step, directories_step, token_step, token_room, glob_step, room}

-- a part from one of the places to j
abbrev pub After : (ℕ → ℕ → Type 0) → (ℕ → Type 0) → ℕ → Type 0
After suits begun j = (i : ℕ) × begun i × suits i j

-- one of the places is the one before p, or any before p
abbrev Last : (ℕ → Type 0) → ℕ → Type 0
Last begun p = (i : ℕ) × begun i × (i + 1 ≡ p)

abbrev Before : (ℕ → Type 0) → ℕ → Type 0
Before begun p = (i : ℕ) × begun i × (i < p)

-- a step gives what is led, keeps what its flags say, and leaves the other flags
pub record StepsTo (count at : ℕ) (Led : Type 0) (Kept : List Bool → Type 0) (flags : List Bool) (s : Step) : Type 0 where
  pub led : IsTrue s.is_led ↔ Led
  pub keeps : Kept s.flags
  pub size : length s.flags ≡ length flags
  pub others : (k : ℕ) → ((k < at) ⊎ (at + count ≤ k)) → flag_at s.flags k ≡ flag_at flags k

-- one step and then another
on_after : (P Q : ℕ → ℕ → Type 0) (begun : ℕ → Type 0) (j : ℕ) → After Q (After P begun) j ↔ After (λ i k. (m : ℕ) × P i m × Q m k) begun j
on_after P Q begun j = (λ w. (w.1.0, w.1.1, (w.0, w.1.2, w.2)), λ w. (w.2.0, (w.0, w.1, w.2.1), w.2.2))

abbrev pred : ℕ → ℕ
pred zero = zero
pred (suc n) = n

pred_more : (p i : ℕ) → i < p → pred p + 1 ≡ p
pred_more zero i lt = absurd (omega arith)
pred_more (suc n) i lt = add-one n

iff_trans : {A B C : Type 0} → A ↔ B → B ↔ C → A ↔ C
iff_trans f g = (λ a. g.0 (f.0 a), λ c. f.1 (g.1 c))

other_place : (at k : ℕ) → ((k < at) ⊎ (at + 1 ≤ k)) → k ≢ at
other_place at k (inl a) e = absurd (omega arith)
other_place at k (inr b) e = absurd (omega arith)

further : (at k : ℕ) → ((k < at) ⊎ (at + 2 ≤ k)) → (k < at + 1) ⊎ (at + 1 + 1 ≤ k)
further at k (inl a) = inl (omega arith)
further at k (inr b) = inr (omega arith)

nearer : (at k : ℕ) → ((k < at) ⊎ (at + 2 ≤ k)) → (k < at) ⊎ (at + 1 ≤ k)
nearer at k (inl a) = inl a
nearer at k (inr b) = inr (omega arith)

apart_first : (at m n k : ℕ) → ((k < at) ⊎ (at + (m + n) ≤ k)) → (k < at) ⊎ (at + m ≤ k)
apart_first at m n k (inl a) = inl a
apart_first at m n k (inr b) = inr (omega arith)

apart_second : (at m n k : ℕ) → ((k < at) ⊎ (at + (m + n) ≤ k)) → (k < at + m) ⊎ (at + m + n ≤ k)
apart_second at m n k (inl a) = inl (omega arith)
apart_second at m n k (inr b) = inr (omega arith)

either_led : (P Q : ℕ → ℕ → Type 0) (begun : ℕ → Type 0) (j : ℕ) (a b : Bool) → (IsTrue a ↔ After P begun j) → (IsTrue b ↔ After Q begun j) → IsTrue (a || b) ↔ After (λ i k. P i k ⊎ Q i k) begun j
either_led P Q begun j a b f g = (
  λ h.
      elim (or_cases a b h) [
        | inl x ↦ let w = f.0 x in (w.0, w.1, inl w.2)
        | inr y ↦ let w = g.0 y in (w.0, w.1, inr w.2)
      ],
  λ w.
      elim w.2 [
        | inl x ↦ or_left a b (f.1 (w.0, w.1, x))
        | inr y ↦ or_right a b (g.1 (w.0, w.1, y))
      ],
)

set_others : (flags : List Bool) (at : ℕ) (x : Bool) (k : ℕ) → ((k < at) ⊎ (at + 1 ≤ k)) → flag_at (slice_set flags at x) k ≡ flag_at flags k
set_others flags at x k apart = get_or-set_other flags at k x false (other_place at k apart)

module _ (p : ℕ) (begun : ℕ → Type 0) (given : Bool) (is_given : IsTrue given ↔ begun p) (flags : List Bool) (at : ℕ) (lt : at < length flags) where
  last_kept : IsTrue (flag_at (slice_set flags at given) at) ↔ Last begun (p + 1)
  last_kept =
      let e = get_or-set_same flags at given false lt in
      (λ h. (p, is_given.0 (sym e ∙ h), refl), λ w. e ∙ is_given.1 (subst begun (omega (arith, w.2)) w.1))

  either_before : (flag : Bool) → (IsTrue flag ↔ Before begun p) → IsTrue (flag || given) ↔ Before begun (p + 1)
  either_before flag says = (
    λ h.
        elim (or_cases flag given h) [
          | inl a ↦ let w = says.0 a in (w.0, w.1, omega (arith, w.2))
          | inr b ↦ (p, is_given.0 b, omega arith)
        ],
    λ w.
        elim (cases_lt w.0 p) [
          | inl a ↦ or_left _ _ (says.1 (w.0, w.1, a))
          | inr b ↦ or_right _ _ (is_given.1 (subst begun (omega (arith, w.2, b)) w.1))
        ],
  )

  before_kept : (flag : Bool) → (IsTrue flag ↔ Before begun p) → IsTrue (flag_at (slice_set flags at (flag || given)) at) ↔ Before begun (p + 1)
  before_kept flag says =
      let e = get_or-set_same flags at (flag || given) false lt in
      let w = either_before flag says in
      (λ h. w.0 (sym e ∙ h), λ b. e ∙ w.1 b)

module _ (text : List ℕ) where
  -- what the flags of a token and of a glob say where the places before p are done
  abbrev pub KeepsToken : (ℕ → Type 0) → ℕ → Token → ℕ → List Bool → Type 0
  KeepsToken begun p (One set) at flags = IsTrue (flag_at flags at) ↔ Last begun p
  KeepsToken begun p AnyText at flags = IsTrue (flag_at flags at) ↔ Before begun p
  KeepsToken begun p LeadingDirectories at flags = IsTrue (flag_at flags at) ↔ Before begun p
  KeepsToken begun p InnerDirectories at flags = (IsTrue (flag_at flags at) ↔ Last begun p) × (IsTrue (flag_at flags (at + 1)) ↔ Before (After (IsSlash text) begun) p)
  KeepsToken begun p TrailingDirectories at flags = (IsTrue (flag_at flags at) ↔ Last begun p) × (IsTrue (flag_at flags (at + 1)) ↔ Before (After (IsSlash text) begun) p)

  abbrev pub Keeps : (ℕ → Type 0) → ℕ → Glob → ℕ → List Bool → Type 0
  Keeps begun p Empty at flags = Unit {0}
  Keeps begun p (Single token) at flags = KeepsToken begun p token at flags
  Keeps begun p (Then a b) at flags = Keeps begun p a at flags × Keeps (After (Suits text a) begun) p b (at + room a) flags
  Keeps begun p (Either a b) at flags = Keeps begun p a at flags × Keeps begun p b (at + room a) flags

  -- they speak of flags of their own alone
  same_flag : (P : Type 0) (a b : Bool) → b ≡ a → (IsTrue a ↔ P) → IsTrue b ↔ P
  same_flag P a b e h = (λ t. h.0 (sym e ∙ t), λ q. e ∙ h.1 q)

  token_alike : (begun : ℕ → Type 0) (p : ℕ) (token : Token) (at : ℕ) (f g : List Bool) → ((k : ℕ) → at ≤ k → k < at + token_room token → flag_at g k ≡ flag_at f k) → KeepsToken begun p token at f → KeepsToken begun p token at g
  token_alike begun p (One set) at f g same h = same_flag _ _ _ (same at (omega arith) (omega arith)) h
  token_alike begun p AnyText at f g same h = same_flag _ _ _ (same at (omega arith) (omega arith)) h
  token_alike begun p LeadingDirectories at f g same h = same_flag _ _ _ (same at (omega arith) (omega arith)) h
  token_alike begun p InnerDirectories at f g same h = (same_flag _ _ _ (same at (omega arith) (omega arith)) h.0, same_flag _ _ _ (same (at + 1) (omega arith) (omega arith)) h.1)
  token_alike begun p TrailingDirectories at f g same h = (same_flag _ _ _ (same at (omega arith) (omega arith)) h.0, same_flag _ _ _ (same (at + 1) (omega arith) (omega arith)) h.1)

  keeps_alike : (begun : ℕ → Type 0) (p : ℕ) (glob : Glob) (at : ℕ) (f g : List Bool) → ((k : ℕ) → at ≤ k → k < at + room glob → flag_at g k ≡ flag_at f k) → Keeps begun p glob at f → Keeps begun p glob at g
  keeps_alike begun p Empty at f g same h = tt
  keeps_alike begun p (Single token) at f g same h = token_alike begun p token at f g same h
  keeps_alike begun p (Then a b) at f g same h = (keeps_alike begun p a at f g (λ k low high. same k low (omega arith)) h.0, keeps_alike (After (Suits text a) begun) p b (at + room a) f g (λ k low high. same k (omega arith) (omega arith)) h.1)
  keeps_alike begun p (Either a b) at f g same h = (keeps_alike begun p a at f g (λ k low high. same k low (omega arith)) h.0, keeps_alike begun p b (at + room a) f g (λ k low high. same k (omega arith) (omega arith)) h.1)

  -- where no place is done no flag is set
  nothing_last : (begun : ℕ → Type 0) (b : Bool) → b ≡ false → IsTrue b ↔ Last begun 0
  nothing_last begun b e = (λ t. absurd (false≢true (sym e ∙ t)), λ w. absurd (omega (arith, w.2)))

  nothing_before : (begun : ℕ → Type 0) (b : Bool) → b ≡ false → IsTrue b ↔ Before begun 0
  nothing_before begun b e = (λ t. absurd (false≢true (sym e ∙ t)), λ w. absurd (omega (arith, w.2)))

  token_begins : (begun : ℕ → Type 0) (token : Token) (at : ℕ) (flags : List Bool) → ((k : ℕ) → flag_at flags k ≡ false) → KeepsToken begun 0 token at flags
  token_begins begun (One set) at flags unset = nothing_last begun _ (unset at)
  token_begins begun AnyText at flags unset = nothing_before begun _ (unset at)
  token_begins begun LeadingDirectories at flags unset = nothing_before begun _ (unset at)
  token_begins begun InnerDirectories at flags unset = (nothing_last begun _ (unset at), nothing_before _ _ (unset (at + 1)))
  token_begins begun TrailingDirectories at flags unset = (nothing_last begun _ (unset at), nothing_before _ _ (unset (at + 1)))

  pub keeps_none : (begun : ℕ → Type 0) (glob : Glob) (at : ℕ) (flags : List Bool) → ((k : ℕ) → flag_at flags k ≡ false) → Keeps begun 0 glob at flags
  keeps_none begun Empty at flags unset = tt
  keeps_none begun (Single token) at flags unset = token_begins begun token at flags unset
  keeps_none begun (Then a b) at flags unset = (keeps_none begun a at flags unset, keeps_none (After (Suits text a) begun) b (at + room a) flags unset)
  keeps_none begun (Either a b) at flags unset = (keeps_none begun a at flags unset, keeps_none begun b (at + room a) flags unset)

module _ (text : List ℕ) (p : ℕ) (within : p ≤ length text) (c : ℕ) (stands : (i : ℕ) → i + 1 ≡ p → slice_index_or text i 0 ≡ c) where
  module _ (begun : ℕ → Type 0) (given : Bool) (is_given : IsTrue given ↔ begun p) (flags : List Bool) (at : ℕ) (lt : at < length flags) where
    one_steps : (set : CharacterSet) → (IsTrue (flag_at flags at) ↔ Last begun p) → StepsTo 1 at (After (IsOne text set) begun p) (λ f. IsTrue (flag_at f at) ↔ Last begun (p + 1)) flags (one_step set c given flags at)
    one_steps set says = record {
      led = (
        λ h.
            let w = and_parts _ _ h in
            let l = says.0 w.0 in
            (l.0, l.1, (omega (arith, l.2), subst (λ x. is_in_set set x ≡ true) (sym (stands l.0 l.2)) w.1, sym l.2)),
        λ w.
            and_from _ _ (says.1 (w.0, w.1, sym w.2.2)) (subst (λ x. is_in_set set x ≡ true) (stands w.0 (sym w.2.2)) w.2.1),
      );
      keeps = last_kept p begun given is_given flags at lt;
      size = length-set flags at given;
      others = set_others flags at given;
    }

    text_steps : (IsTrue (flag_at flags at) ↔ Before begun p) → StepsTo 1 at (After (IsText text) begun p) (λ f. IsTrue (flag_at f at) ↔ Before begun (p + 1)) flags (text_step given flags at)
    text_steps says = record {
      led =
          let w = either_before p begun given is_given flags at lt (flag_at flags at) says in (
            λ h. let b = w.0 h in (b.0, b.1, (omega (arith, b.2), within)),
            λ a. w.1 (a.0, a.1, omega (arith, a.2.0)),
          );
      keeps = before_kept p begun given is_given flags at lt (flag_at flags at) says;
      size = length-set flags at (flag_at flags at || given);
      others = set_others flags at (flag_at flags at || given);
    }

    directories_steps : (IsTrue (flag_at flags at) ↔ Before begun p) → StepsTo 1 at (After (IsDirectories text) begun p) (λ f. IsTrue (flag_at f at) ↔ Before begun (p + 1)) flags (directories_step c given flags at)
    directories_steps says = record {
      led = (
        λ h.
            elim (or_cases _ _ h) [
              | inl a ↦ (p, is_given.0 a, inl refl)
              | inr b ↦
                  let w = and_parts _ _ b in
                  let l = says.0 w.0 in
                  let e : pred p + 1 ≡ p = pred_more p l.0 l.2 in
                  (l.0, l.1, inr (pred p, (omega (arith, e, l.2), omega (arith, e)), (omega (arith, e), subst (λ x. nat_eq x 47 ≡ true) (sym (stands (pred p) e)) w.1, sym e)))
            ],
        λ w.
            elim w.2 [
              | inl e ↦ or_left _ _ (is_given.1 (subst begun e w.1))
              | inr d ↦ or_right _ _ (and_from _ _ (says.1 (w.0, w.1, omega (arith, d.1, d.2.2))) (subst (λ x. nat_eq x 47 ≡ true) (stands d.0 (sym d.2.2)) d.2.1))
            ],
      );
      keeps = before_kept p begun given is_given flags at lt (flag_at flags at) says;
      size = length-set flags at (flag_at flags at || given);
      others = set_others flags at (flag_at flags at || given);
    }

    slash_then : (Q : ℕ → ℕ → Type 0) (keeps : List Bool → Type 0) (next : List Bool → Bool → Step)
        → (IsTrue (flag_at flags at) ↔ Last begun p)
        → ((f : List Bool) (b : Bool) → flag_at f (at + 1) ≡ flag_at flags (at + 1) → (IsTrue b ↔ After (IsSlash text) begun p) → at + 1 < length f → StepsTo 1 (at + 1) (After Q (After (IsSlash text) begun) p) keeps f (next f b))
        → at + 1 < length flags
        → let s = one_step (Character 47) c given flags at in StepsTo 2 at (After (λ i k. (m : ℕ) × IsSlash text i m × Q m k) begun p) (λ f. (IsTrue (flag_at f at) ↔ Last begun (p + 1)) × keeps f) flags (next s.flags s.is_led)
    slash_then Q keeps next says step fits =
        let s = one_steps (Character 47) says in
        let t = step (one_step (Character 47) c given flags at).flags (one_step (Character 47) c given flags at).is_led (s.others (at + 1) (inr (omega arith))) s.led (omega (arith, s.size)) in
        record {
          led = iff_trans t.led (on_after (IsSlash text) Q begun p);
          keeps = (same_flag text _ _ _ (t.others at (inl (omega arith))) s.keeps, t.keeps);
          size = t.size ∙ s.size;
          others = λ k apart. t.others k (further at k apart) ∙ s.others k (nearer at k apart);
        }

  token_steps : (begun : ℕ → Type 0) (given : Bool) → (IsTrue given ↔ begun p) → (token : Token) (flags : List Bool) (at : ℕ) → at + token_room token ≤ length flags → KeepsToken text begun p token at flags → StepsTo (token_room token) at (After (SuitsToken text token) begun p) (KeepsToken text begun (p + 1) token at) flags (token_step token c given flags at)
  token_steps begun given is_given (One set) flags at fits says = one_steps begun given is_given flags at (omega arith) set says
  token_steps begun given is_given AnyText flags at fits says = text_steps begun given is_given flags at (omega arith) says
  token_steps begun given is_given LeadingDirectories flags at fits says = directories_steps begun given is_given flags at (omega arith) says
  token_steps begun given is_given InnerDirectories flags at fits says =
      slash_then begun given is_given flags at (omega arith) (IsDirectories text) (λ f. IsTrue (flag_at f (at + 1)) ↔ Before (After (IsSlash text) begun) (p + 1)) (λ f b. directories_step c b f (at + 1)) says.0
      (λ f b same is lt. directories_steps (After (IsSlash text) begun) b is f (at + 1) lt (same_flag text _ _ _ same says.1)) (omega arith)
  token_steps begun given is_given TrailingDirectories flags at fits says =
      slash_then begun given is_given flags at (omega arith) (IsText text) (λ f. IsTrue (flag_at f (at + 1)) ↔ Before (After (IsSlash text) begun) (p + 1)) (λ f b. text_step b f (at + 1)) says.0
      (λ f b same is lt. text_steps (After (IsSlash text) begun) b is f (at + 1) lt (same_flag text _ _ _ same says.1)) (omega arith)

  pub glob_steps : (begun : ℕ → Type 0) (given : Bool) → (IsTrue given ↔ begun p) → (glob : Glob) (flags : List Bool) (at : ℕ) → at + room glob ≤ length flags → Keeps text begun p glob at flags → StepsTo (room glob) at (After (Suits text glob) begun p) (Keeps text begun (p + 1) glob at) flags (glob_step glob c given flags at)
  glob_steps begun given is_given Empty flags at fits says = record {
    led = (λ h. (p, is_given.0 h, refl), λ w. is_given.1 (subst begun w.2 w.1));
    keeps = tt;
    size = refl;
    others = λ k apart. refl;
  }
  glob_steps begun given is_given (Single token) flags at fits says = token_steps begun given is_given token flags at fits says
  glob_steps begun given is_given (Then a b) flags at fits says =
      let first = glob_step a c given flags at in
      let second = glob_step b c first.is_led first.flags (at + room a) in
      let s = glob_steps begun given is_given a flags at (omega arith) says.0 in
      let between = keeps_alike text (After (Suits text a) begun) p b (at + room a) flags first.flags (λ k low high. s.others k (inr low)) says.1 in
      let t = glob_steps (After (Suits text a) begun) first.is_led s.led b first.flags (at + room a) (omega (arith, s.size)) between in
      record {
        led = iff_trans t.led (on_after (Suits text a) (Suits text b) begun p);
        keeps = (keeps_alike text begun (p + 1) a at first.flags second.flags (λ k low high. t.others k (inl high)) s.keeps, t.keeps);
        size = t.size ∙ s.size;
        others = λ k apart. t.others k (apart_second at (room a) (room b) k apart) ∙ s.others k (apart_first at (room a) (room b) k apart);
      }
  glob_steps begun given is_given (Either a b) flags at fits says =
      let first = glob_step a c given flags at in
      let second = glob_step b c given first.flags (at + room a) in
      let s = glob_steps begun given is_given a flags at (omega arith) says.0 in
      let between = keeps_alike text begun p b (at + room a) flags first.flags (λ k low high. s.others k (inr low)) says.1 in
      let t = glob_steps begun given is_given b first.flags (at + room a) (omega (arith, s.size)) between in
      record {
        led = either_led (Suits text a) (Suits text b) begun p first.is_led second.is_led s.led t.led;
        keeps = (keeps_alike text begun (p + 1) a at first.flags second.flags (λ k low high. t.others k (inl high)) s.keeps, t.keeps);
        size = t.size ∙ s.size;
        others = λ k apart. t.others k (apart_second at (room a) (room b) k apart) ∙ s.others k (apart_first at (room a) (room b) k apart);
      }

-- a walk begins at the first place alone
abbrev pub IsFirst : ℕ → Type 0
IsFirst i = i ≡ 0

-- what ends at the last place suits the whole
pub whole_text : (text : List ℕ) (glob : Glob) (n : ℕ) (b : Bool) → n ≡ length text → (IsTrue b ↔ After (Suits text glob) IsFirst n) → IsTrue b ↔ GlobMatches glob text
whole_text text glob n b e h = (
  λ t.
      let w = h.0 t in
      subst (λ j. Suits text glob 0 j) e (subst (λ i. Suits text glob i n) w.1 w.2),
  λ m.
      h.1 (0, refl, subst (λ j. Suits text glob 0 j) (sym e) m),
)

module _ (text : List ℕ) (glob : Glob) (flags : List Bool) (c : ℕ) (given : Bool) (fits : room glob ≤ length flags) where
  -- one step of a walk that has done the places before p
  walk_steps : (p : ℕ) → p ≤ length text → ((i : ℕ) → i + 1 ≡ p → slice_index_or text i 0 ≡ c) → (IsTrue given ↔ IsFirst p) → Keeps text IsFirst p glob 0 flags → StepsTo (room glob) 0 (After (Suits text glob) IsFirst p) (Keeps text IsFirst (p + 1) glob 0) flags (glob_step glob c given flags 0)
  walk_steps p within stands is_given keeps =
      glob_steps text p within c stands IsFirst given is_given glob flags 0 (omega arith) keeps

-- what a walk keeps that has done the places up to n
pub record Walks (text : List ℕ) (glob : Glob) (n : ℕ) (is_led : Bool) (new : List Bool) : Type 0 where
  pub fits : room glob ≤ length new
  pub keeps : Keeps text IsFirst (n + 1) glob 0 new
  pub led : IsTrue is_led ↔ After (Suits text glob) IsFirst n

-- what a step makes of a walk that has done the places before n
pub walks_on : (text : List ℕ) (glob : Glob) (flags new : List Bool) (c : ℕ) (given is_led : Bool) (n m : ℕ) → room glob ≤ length flags → is_led ≡ (glob_step glob c given flags 0).is_led → new ≡ (glob_step glob c given flags 0).flags → m ≡ n → StepsTo (room glob) 0 (After (Suits text glob) IsFirst n) (Keeps text IsFirst (n + 1) glob 0) flags (glob_step glob c given flags 0) → Walks text glob m is_led new
walks_on text glob flags new c given is_led n m fits led flags_are same s = record {
  fits = omega (arith, ap length flags_are, s.size);
  keeps = subst (λ k. Keeps text IsFirst (k + 1) glob 0 new) (sym same) (subst (λ f. Keeps text IsFirst (n + 1) glob 0 f) (sym flags_are) s.keeps);
  led = subst (λ k. IsTrue is_led ↔ After (Suits text glob) IsFirst k) (sym same) (subst (λ b. IsTrue b ↔ After (Suits text glob) IsFirst n) (sym led) s.led);
}

-- the first step, at the first place
pub first_step : (text : List ℕ) (glob : Glob) (flags : List Bool) (c : ℕ) → room glob ≤ length flags → ((k : ℕ) → flag_at flags k ≡ false) → StepsTo (room glob) 0 (After (Suits text glob) IsFirst 0) (Keeps text IsFirst 1 glob 0) flags (glob_step glob c true flags 0)
first_step text glob flags c fits unset =
    walk_steps text glob flags c true fits 0 (omega arith) (λ i e. absurd (omega arith)) (λ _. refl, λ _. refl) (keeps_none text IsFirst glob 0 flags unset)

-- a further step, behind the character at n
pub further_step : (text : List ℕ) (glob : Glob) (flags : List Bool) (c n : ℕ) → room glob ≤ length flags → (n < length text) × (c ≡ slice_index_or text n c) → Keeps text IsFirst (n + 1) glob 0 flags → StepsTo (room glob) 0 (After (Suits text glob) IsFirst (n + 1)) (Keeps text IsFirst (n + 1 + 1) glob 0) flags (glob_step glob c false flags 0)
further_step text glob flags c n fits at keeps =
    walk_steps text glob flags c false fits (n + 1) (omega (arith, at.0)) (λ i e. subst (λ k. slice_index_or text k 0 ≡ c) (omega (arith, e)) (get_or_default text n 0 c at.0 ∙ sym at.1)) (λ h. absurd (false≢true h), λ e. absurd (omega (arith, e))) keeps

pub unset_at : (n i : ℕ) → flag_at (replicate n false) i ≡ false
unset_at n i =
    elim (cases_lt i n) [
      | inl a ↦ get_or-replicate n i false false a
      | inr b ↦ get_or_past (replicate n false) i false (omega (arith, length-replicate n false, b))
    ]

-- the characters of a text suit their glob, and no others
spelled_suits : (text cs : List ℕ) (i : ℕ) → i ≤ length text → Suits text (spelled cs) i (length text) → drop i text ≡ cs
spelled_suits text [] i within h = drop_all i text (omega (arith, h))
spelled_suits text (c ∷ cs) i within h =
    let same = eqb-true _ _ h.1.1 in
    let next : h.0 ≡ i + 1 = h.1.2 in
    let more = subst (λ k. drop k text ≡ cs) next (spelled_suits text cs h.0 (omega (arith, h.1.0, next)) h.2) in
    let first = drop_more text i 0 h.1.0 in
    cc

suits_spelled : (text cs : List ℕ) (i : ℕ) → i ≤ length text → drop i text ≡ cs → Suits text (spelled cs) i (length text)
suits_spelled text [] i within e = omega (arith, ap length e, length-drop i text)
suits_spelled text (c ∷ cs) i within e =
    let lt : i < length text = omega (arith, ap length e, length-drop i text) in
    let first = drop_more text i 0 lt in
    let whole : slice_index_or text i 0 ∷ drop (i + 1) text ≡ c ∷ cs = sym first ∙ e in
    let same : slice_index_or text i 0 ≡ c = cc in
    let more : drop (i + 1) text ≡ cs = cc in
    (i + 1, (lt, eq-eqb _ _ same, refl), suits_spelled text cs (i + 1) (omega arith) more)

pub spelled_matches : (text other : List ℕ) → (other ≡ text) ↔ GlobMatches (spelled other) text
spelled_matches text other = (λ e. suits_spelled text other 0 (omega arith) (sym e), λ h. sym (spelled_suits text other 0 (omega arith) h))

-- so a text is compared with the glob's, where that is plain
pub plain_matches : (text other : List ℕ) (glob : Glob) (b : Bool) → IsUtf8 text → IsUtf8 other → glob ≡ spelled (chars other) → (IsTrue b ↔ (other ≡ text)) → IsTrue b ↔ GlobMatches glob (chars text)
plain_matches text other glob b u v e h =
    let m = spelled_matches (chars text) (chars other) in
    let back : chars other ≡ chars text → other ≡ text = λ same. sym (encodes-chars other v) ∙ ap encode_utf8_all same ∙ encodes-chars text u in
    subst (λ g. IsTrue b ↔ GlobMatches g (chars text)) (sym e) (λ t. m.0 (ap chars (h.0 t)), λ w. h.1 (back (m.1 w)))
