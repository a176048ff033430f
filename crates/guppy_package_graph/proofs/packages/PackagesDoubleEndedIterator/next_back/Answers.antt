use Rattle.std.proofs.Common.{◌∙◌, ℕ, ◌<◌, ◌∷◌, ◌++◌, [], ap, sym, length, map}
use Rattle.numbered_graph.specs.ListedViews.{listed_left}
use Rattle.guppy_package_table.specs.Tables.{TableValue}
use Rattle.guppy_package_graph.specs.Views.{place_of}
use Rattle.guppy_package_graph.proofs.LastFacts.{all_last, fewer, front_within, mapped_last}
use Rattle.guppy_package_graph.proofs.packages.PackagesDoubleEndedIterator.next_back.Goals as goal

pub invariant_of-self : goal.invariant_of-self
invariant_of-self c =
    let within : ℕ → Type 0 = λ v. v < length c.args.self.now.graph.now.packages in
    record { in_range = front_within within _ _ c.next_back.result c.next_back.ensures.steps c.args.self.now.in_range }

pub metadata_at-requires : goal.metadata_at-requires
metadata_at-requires c =
    let within : ℕ → Type 0 = λ v. v < length c.args.self.now.graph.now.packages in
    all_last _ _ c.in_ok-place.place c.in_ok-place.ensures.steps within c.args.self.now.in_range

pub returns : goal.returns
returns c =
    let g = c.args.self.now.graph.now in
    let seen : ℕ → TableValue × ℕ = λ v. (g, v) in
    let before = listed_left c.args.self.now.listed in
    let after = listed_left c.next_back.new.self in
    let last = ap (λ t. (t, place_of c.metadata_at.result)) c.metadata_at.ensures.graph ∙ ap (λ v. (g, v)) c.metadata_at.ensures.place in
    let steps = mapped_last before after c.in_ok-place.place c.in_ok-place.ensures.steps seen ∙ ap (λ x. map seen after ++ x ∷ []) (sym last) in
    record { steps = steps; goes = record { on = λ finite. (tt, tt, fewer _ _ _ steps); keeps = tt; rests = λ finite. tt } }
