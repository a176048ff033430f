-- What an answer says of a spec.
use Rattle.std.proofs.Common.{◌≡◌, Bool, true, false, ◌&&◌, ◌||◌, not, ◌↔◌, inl, inr, List, Result, Ok, Err, IsOkAnd, IsTrue, refl, sym, subst, ◌∙◌}
use Rattle.std.proofs.lemmas.Bool.{and_parts, or_cases, false≢true}
use Rattle.workspace_record.specs.Records.{Text}
use Rattle.cargo_files.specs.Settings.{Setting}
use Rattle.cargo_files.specs.Expressions.{Cfg, CfgHolds, constant_of, name_of, pair_of, not_of, both_of, either_of, says}
use Rattle.cargo_files.specs.Specs.{IsCfg, IsSpec, Spec, SpecHolds, cfg_spec, is_expression, triple_spec}

not_true : (b : Bool) → (b ≡ true → ⊥) → not b ≡ true
not_true true h = absurd (h refl)
not_true false h = refl

true_not : (b : Bool) → not b ≡ true → b ≡ true → ⊥
true_not true h is = absurd (false≢true h)
true_not false h is = absurd (false≢true is)

both_true : (a b : Bool) → a ≡ true → b ≡ true → (a && b) ≡ true
both_true true b h i = i
both_true false b h i = absurd (false≢true h)

first_true : (a b : Bool) → a ≡ true → (a || b) ≡ true
first_true true b h = refl
first_true false b h = absurd (false≢true h)

second_true : (a b : Bool) → b ≡ true → (a || b) ≡ true
second_true true b h = refl
second_true false b h = h

mutual
  said_holds : (settings : List Setting) (x : Cfg) → says settings x ≡ true → CfgHolds settings x
  said_holds settings (constant_of b) h = h
  said_holds settings (name_of name) h = h
  said_holds settings (pair_of name value) h = h
  said_holds settings (not_of x) h = λ holds. true_not (says settings x) h (holds_said settings x holds)
  said_holds settings (both_of x y) h =
      let parts = and_parts (says settings x) (says settings y) h in
      (said_holds settings x parts.0, said_holds settings y parts.1)
  said_holds settings (either_of x y) h =
      elim (or_cases (says settings x) (says settings y) h) [ inl a ↦ inl (said_holds settings x a) | inr b ↦ inr (said_holds settings y b) ]

  holds_said : (settings : List Setting) (x : Cfg) → CfgHolds settings x → says settings x ≡ true
  holds_said settings (constant_of b) h = h
  holds_said settings (name_of name) h = h
  holds_said settings (pair_of name value) h = h
  holds_said settings (not_of x) h = not_true (says settings x) (λ e. h (said_holds settings x e))
  holds_said settings (both_of x y) h =
      both_true (says settings x) (says settings y) (holds_said settings x h.0) (holds_said settings y h.1)
  holds_said settings (either_of x y) h =
      elim h [ inl a ↦ first_true (says settings x) (says settings y) (holds_said settings x a) | inr b ↦ second_true (says settings x) (says settings y) (holds_said settings y b) ]

pub says_holds : (settings : List Setting) (x : Cfg) → IsTrue (says settings x) ↔ CfgHolds settings x
says_holds settings x = (said_holds settings x, holds_said settings x)

pub is_ok_so : {T E : Type 0} (r : Result T E) (P Q : T → Type 0) → ((x : T) → P x → Q x) → IsOkAnd r P → IsOkAnd r Q
is_ok_so (Ok x) P Q f h = f x h
is_ok_so (Err e) P Q f h = h

pub cfg_answers : {E : Type 0} (text triple : Text) (settings : List Setting) (r : Result Bool E) → is_expression text ≡ true → ((x : Cfg) → IsCfg text x → IsOkAnd r (λ b. b ≡ says settings x)) → (s : Spec) → IsSpec text s → IsOkAnd r (λ b. IsTrue b ↔ SpecHolds triple settings s)
cfg_answers text triple settings r begins only (cfg_spec x) is =
    is_ok_so r (λ b. b ≡ says settings x) (λ b. IsTrue b ↔ CfgHolds settings x) (λ b e. subst (λ v. IsTrue v ↔ CfgHolds settings x) (sym e) (says_holds settings x)) (only x is.1)
cfg_answers text triple settings r begins only (triple_spec name) is = absurd (false≢true (sym is.0 ∙ begins))
