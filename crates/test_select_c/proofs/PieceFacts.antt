-- Lists that are read one element after another.
use Rattle.std.proofs.Common.{◌≡◌, ◌↔◌, ℕ, List, [], ◌∷◌, ◌++◌, Option, Some, None, refl, sym, subst, ap, ap₂, ◌∙◌, ◌<◌, arith, Contains, IfNone, drop, get_or, length, map, true, false, true≢false, ◌==◌}
use Rattle.std.proofs.lemmas.List.{append-nil, length-append, map-append}
use Rattle.std.proofs.lemmas.Bool.Decides.{nat_tests}
use Rattle.std.specs.Str.{IsUtf8}
use mathlib.Core.List.{append_assoc}
use Rattle.list_facts.proofs.Membership.{Contains-append_right, Contains-first, Contains-rest}
use Rattle.std.specs.Int.{from_le_bytes, w64}
use Rattle.test_select_c.specs.Pieces.{BeginsFile, BeginsWord, File, Follow, nothing, first}

module _ {X : Type 0} {Begins : List ℕ → X → List ℕ → Type 0} (same : (bytes r s : List ℕ) (x y : X) → Begins bytes x r → Begins bytes y s → (x ≡ y) × (r ≡ s)) (some : (x : X) (rest : List ℕ) → ¬ (Begins [] x rest)) where
  -- the first of them, where there is one
  abbrev Unfolded : List ℕ → List X → Type 0
  Unfolded bytes [] = bytes ≡ []
  Unfolded bytes (x ∷ xs) = (rest : List ℕ) × Begins bytes x rest × Follow Begins rest xs

  unfolded : (bytes : List ℕ) (xs : List X) → Follow Begins bytes xs → Unfolded bytes xs
  unfolded bytes xs nothing = refl
  unfolded bytes xs (first {rest = rest} begins more) = (rest, begins, more)

  -- after these come the others
  abbrev pub SoFar : List ℕ → List X → List ℕ → Type 0
  SoFar bytes done rest = (all : List X) → Follow Begins bytes all ↔ ((more : List X) × Follow Begins rest more × (all ≡ done ++ more))

  pub begun : (bytes : List ℕ) → SoFar bytes [] bytes
  begun bytes all = (λ h. (all, h, refl), λ h. subst (Follow Begins bytes) (sym h.2) h.1)

  next_of : (rest behind : List ℕ) (done : List X) (x : X) (all more : List X) → Begins rest x behind → Follow Begins rest more → all ≡ done ++ more → (others : List X) × Follow Begins behind others × (all ≡ (done ++ x ∷ []) ++ others)
  next_of rest behind done x all [] begins h e =
      absurd (some x behind (subst (λ b. Begins b x behind) (unfolded rest [] h) begins))
  next_of rest behind done x all (y ∷ ys) begins h e =
      let (r, there, follow) = unfolded rest (y ∷ ys) h in
      let (is, at) = same rest behind r x y begins there in
      (ys, subst (λ b. Follow Begins b ys) (sym at) follow, e ∙ ap (λ z. done ++ z ∷ ys) (sym is) ∙ sym (append_assoc done (x ∷ []) ys))

  pub read_more : (bytes rest behind : List ℕ) (done : List X) (x : X) → SoFar bytes done rest → Begins rest x behind → SoFar bytes (done ++ x ∷ []) behind
  read_more bytes rest behind done x so begins all = (
    λ h. let (more, follow, e) = (so all).0 h in next_of rest behind done x all more begins follow e,
    λ h. (so all).1 (x ∷ h.0, first begins h.1, h.2 ∙ append_assoc done (x ∷ []) h.0),
  )

  -- where nothing is left, these are all
  pub read_all : (bytes : List ℕ) (done : List X) → SoFar bytes done [] → (all : List X) → Follow Begins bytes all ↔ (Some done ≡ Some all)
  read_all bytes done so all = (
    λ h. let (more, follow, e) = (so all).0 h in ap Some (sym (e ∙ ends more follow)),
    λ h. (so all).1 ([], nothing, sym (some_is h) ∙ sym (append-nil done)),
  )
    where
      ends : (more : List X) → Follow Begins [] more → done ++ more ≡ done
      ends [] h = append-nil done
      ends (x ∷ xs) h = let u = unfolded [] (x ∷ xs) h in absurd (some x u.0 u.1)

      some_is : Some done ≡ Some all → done ≡ all
      some_is h = ap (λ o. elim o as (λ _. List X) [ Some v ↦ v | None ↦ done ]) h

  -- where something is left that begins with none of them, there are no such
  pub read_none : (bytes rest : List ℕ) (done : List X) → SoFar bytes done rest → ¬ (rest ≡ []) → ((x : X) (behind : List ℕ) → ¬ (Begins rest x behind)) → (all : List X) → Follow Begins bytes all ↔ (None ≡ Some all)
  read_none bytes rest done so left none all = (
    λ h. let (more, follow, e) = (so all).0 h in absurd (stuck more follow),
    λ h. absurd (subst (λ o. elim o as (λ _. Type 0) [ Some v ↦ ⊥ | None ↦ Unit {0} ]) h tt),
  )
    where
      stuck : (more : List X) → Follow Begins rest more → ⊥
      stuck [] h = left (unfolded rest [] h)
      stuck (x ∷ xs) h = let u = unfolded rest (x ∷ xs) h in none x u.0 u.1

-- what begins with as many elements has the same beginning and the same end
pub same_front : {X : Type 0} (xs ys us vs : List X) → length xs ≡ length ys → xs ++ us ≡ ys ++ vs → (xs ≡ ys) × (us ≡ vs)
same_front [] [] us vs n e = (refl, e)
same_front [] (y ∷ ys) us vs n e = absurd (omega (arith, n))
same_front (x ∷ xs) [] us vs n e = absurd (omega (arith, n))
same_front (x ∷ xs) (y ∷ ys) us vs n e =
    let more = same_front xs ys us vs (omega (arith, n)) (ap (drop 1) e) in
    (ap₂ (λ z zs. z ∷ zs) (ap (λ zs. get_or zs 0 x) e) more.0, more.1)

-- what stands before the first zero, and what behind it
pub same_cut : (xs ys us vs : List ℕ) → ¬ (Contains xs 0) → ¬ (Contains ys 0) → xs ++ 0 ∷ us ≡ ys ++ 0 ∷ vs → (xs ≡ ys) × (us ≡ vs)
same_cut [] [] us vs m n e = (refl, ap (drop 1) e)
same_cut [] (y ∷ ys) us vs m n e = absurd (n (subst (Contains (y ∷ ys)) (sym (ap (λ zs. get_or zs 0 0) e)) (Contains-first y ys)))
same_cut (x ∷ xs) [] us vs m n e = absurd (m (subst (Contains (x ∷ xs)) (ap (λ zs. get_or zs 0 0) e) (Contains-first x xs)))
same_cut (x ∷ xs) (y ∷ ys) us vs m n e =
    let more = same_cut xs ys us vs (λ h. m (Contains-rest x xs 0 h)) (λ h. n (Contains-rest y ys 0 h)) (ap (drop 1) e) in
    (ap₂ (λ z zs. z ∷ zs) (ap (λ zs. get_or zs 0 x) e) more.0, more.1)

-- a word begins what has a zero, and is what stands before it
pub same_word : (bytes r s x y : List ℕ) → BeginsWord bytes x r → BeginsWord bytes y s → (x ≡ y) × (r ≡ s)
same_word bytes r s x y b d = same_cut x y r s b.ended d.ended (sym b.whole ∙ d.whole)

pub has_zero : (name rest : List ℕ) → Contains (name ++ 0 ∷ rest) 0
has_zero name rest = Contains-append_right name (0 ∷ rest) 0 (Contains-first 0 rest)

pub no_word : (x rest : List ℕ) → ¬ (BeginsWord [] x rest)
no_word x rest b = absurd (omega (arith, length-append x (0 ∷ rest), ap length b.whole))

-- the name and the size of a file that begins the bytes, and what it holds
pub named_so : (bytes name sized rest : List ℕ) (file : File) → bytes ≡ name ++ 0 ∷ sized → ¬ (Contains name 0) → (b : BeginsFile bytes file rest) → (name ≡ file.name) × (sized ≡ b.size ++ (file.content ++ rest))
named_so bytes name sized rest file e n b = same_cut name file.name sized (b.size ++ (file.content ++ rest)) n b.ended (sym e ∙ b.whole)

pub same_file : (bytes r s : List ℕ) (x y : File) → BeginsFile bytes x r → BeginsFile bytes y s → (x ≡ y) × (r ≡ s)
same_file bytes r s x y b d =
    let names = named_so bytes x.name (b.size ++ (x.content ++ r)) s y b.whole b.ended d in
    let sizes = same_front b.size d.size (x.content ++ r) (y.content ++ s) (b.eight ∙ sym d.eight) names.1 in
    let held = same_front x.content y.content r s (sym b.says ∙ ap (from_le_bytes w64) sizes.0 ∙ d.says) sizes.1 in
    (ap₂ (λ name content. record { name = name; content = content }) names.0 held.0, held.1)

pub no_file : (x : File) (rest : List ℕ) → ¬ (BeginsFile [] x rest)
no_file x rest b = absurd (omega (arith, length-append x.name (0 ∷ (b.size ++ (x.content ++ rest))), ap length b.whole))

-- no file begins bytes without a zero, or behind whose name there are no eight bytes, or less than its size
pub unnamed : (bytes : List ℕ) → ¬ (Contains bytes 0) → (file : File) (rest : List ℕ) → ¬ (BeginsFile bytes file rest)
unnamed bytes n file rest b = n (subst (λ xs. Contains xs 0) (sym b.whole) (has_zero file.name (b.size ++ (file.content ++ rest))))

pub unsized : (bytes name sized : List ℕ) → bytes ≡ name ++ 0 ∷ sized → ¬ (Contains name 0) → length sized < 8 → (file : File) (rest : List ℕ) → ¬ (BeginsFile bytes file rest)
unsized bytes name sized e n short file rest b =
    let named = named_so bytes name sized rest file e n b in
    absurd (omega (arith, short, ap length named.1, length-append b.size (file.content ++ rest), b.eight))

pub cut_off : (bytes name size behind : List ℕ) → bytes ≡ name ++ 0 ∷ (size ++ behind) → ¬ (Contains name 0) → length size ≡ 8 → length behind < from_le_bytes w64 size → (file : File) (rest : List ℕ) → ¬ (BeginsFile bytes file rest)
cut_off bytes name size behind e n eight short file rest b =
    let named = named_so bytes name (size ++ behind) rest file e n b in
    let sized = same_front size b.size behind (file.content ++ rest) (eight ∙ sym b.eight) named.1 in
    absurd (omega (arith, short, ap (from_le_bytes w64) sized.0, b.says, ap length sized.1, length-append file.content rest))

pub unnameable : (bytes name sized : List ℕ) → bytes ≡ name ++ 0 ∷ sized → ¬ (Contains name 0) → ¬ (IsUtf8 name) → (file : File) (rest : List ℕ) → ¬ (BeginsFile bytes file rest)
unnameable bytes name sized e n strange file rest b = strange (subst IsUtf8 (sym (named_so bytes name sized rest file e n b).0) b.text)

-- what is said where nothing is found
pub if_none : {X : Type 0} (P : Type 0) (found : Option X) → found ≡ None → P → IfNone found P
if_none P found e p = subst (λ o. IfNone o P) (sym e) p

-- no word begins bytes without a zero, or before whose first zero no text stands
pub unended : (bytes : List ℕ) → ¬ (Contains bytes 0) → (word rest : List ℕ) → ¬ (BeginsWord bytes word rest)
unended bytes n word rest b = n (subst (λ xs. Contains xs 0) (sym b.whole) (has_zero word rest))

pub no_text : (bytes word behind : List ℕ) → bytes ≡ word ++ 0 ∷ behind → ¬ (Contains word 0) → ¬ (IsUtf8 word) → (other rest : List ℕ) → ¬ (BeginsWord bytes other rest)
no_text bytes word behind e n strange other rest b =
    strange (subst IsUtf8 (sym (same_cut word other behind rest n b.ended (sym e ∙ b.whole)).0) b.text)

pub has_some : (bytes word behind : List ℕ) → bytes ≡ word ++ 0 ∷ behind → ¬ (bytes ≡ [])
has_some bytes word behind e is = absurd (omega (arith, length-append word (0 ∷ behind), ap length (sym is ∙ e)))

-- one more pushed, and what contracts see of it
pub pushed : {A X : Type 0} (see : A → X) (old new : List A) (x : A) → new ≡ old ++ x ∷ [] → map see old ++ see x ∷ [] ≡ map see new
pushed see old new x e = sym (ap (map see) e ∙ map-append see old (x ∷ []))

-- what an empty list is, and what one that is not
pub is_nothing : (xs : List ℕ) → true ≡ (length xs == 0) → xs ≡ []
is_nothing [] e = refl
is_nothing (x ∷ xs) e = absurd (grind (arith, nat_tests))

pub is_something : (xs : List ℕ) → false ≡ (length xs == 0) → ¬ (xs ≡ [])
is_something xs e is = absurd (true≢false (sym (e ∙ ap (λ ys. length ys == 0) is)))
