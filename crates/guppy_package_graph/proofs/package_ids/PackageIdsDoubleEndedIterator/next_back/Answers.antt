use Rattle.std.proofs.Common.{◌∙◌, ℕ, ◌<◌, ◌∷◌, ◌++◌, [], ap, sym, length, map}
use Rattle.numbered_graph.specs.ListedViews.{listed_left}
use Rattle.guppy_package_table.specs.Tables.{id_at}
use Rattle.guppy_package_graph.proofs.LastFacts.{all_last, fewer, front_within, mapped_last}
use Rattle.guppy_package_graph.proofs.package_ids.PackageIdsDoubleEndedIterator.next_back.Goals as goal

pub invariant_of-self : goal.invariant_of-self
invariant_of-self c =
    let within : ℕ → Type 0 = λ v. v < length c.args.self.now.graph.now.packages in
    record { in_range = front_within within _ _ c.next_back.result c.next_back.ensures.steps c.args.self.now.in_range }

pub id_at-requires : goal.id_at-requires
id_at-requires c =
    let within : ℕ → Type 0 = λ v. v < length c.args.self.now.graph.now.packages in
    all_last _ _ c.in_ok-place.place c.in_ok-place.ensures.steps within c.args.self.now.in_range

pub returns : goal.returns
returns c =
    let id = id_at c.args.self.now.graph.now in
    let before = listed_left c.args.self.now.listed in
    let after = listed_left c.next_back.new.self in
    let steps = mapped_last before after c.in_ok-place.place c.in_ok-place.ensures.steps id ∙ ap (λ x. map id after ++ x ∷ []) (sym c.id_at.ensures) in
    record { steps = steps; goes = record { on = λ finite. (tt, tt, fewer _ _ _ steps); keeps = tt; rests = λ finite. tt } }
