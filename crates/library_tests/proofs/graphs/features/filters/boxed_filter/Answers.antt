use Rattle.std.proofs.Common.{subst, sym}
use base.Stored.{Gv}
use denote.Param.Object.{Made}
use Rattle.library_tests.proofs.graphs.features.filters.boxed_filter.OwnLists as own
use Rattle.library_tests.proofs.graphs.features.filters.boxed_filter.Goals as goal

-- what holds of each value of the type that was boxed holds of the value in the box
of_made : {X Y : Type 0} {F : X → Type 0} {code : (i : X) → F i → Gv} {coded : Y → Gv} {at i : X} {y : F i} {x : Y} (P : (i : X) → F i → Type 0) → Made code coded at i y x → ((z : F at) → P at z) → P i y
of_made {F = F} {y = y} P made all = subst (λ k. (z : F k) → P k z) (sym made.index) all y

pub taken_by-requires : goal.taken_by-requires
taken_by-requires g c = of_made (λ i f. (own.own-1.entry i).1.can_accept f) c.into_dyn_box-filter.ensures.1 (λ _. tt)
