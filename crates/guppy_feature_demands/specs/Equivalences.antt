-- Tests by what is seen of values.
use Rattle.std.specs.Ordering.{on}
use Rattle.std.specs.Cmp.{IsEquivalence}
use Rattle.std.specs.Prelude.{Bool}

pub on_equivalence : {X Y : Type 0} {E : Y → Y → Bool} (view : X → Y) → IsEquivalence E → IsEquivalence (on view E)
on_equivalence view laws = record {
  refl = λ x. laws.refl (view x);
  symm = λ x y. laws.symm (view x) (view y);
  congr = λ x y z. laws.congr (view x) (view y) (view z);
}
