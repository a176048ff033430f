use Rattle.std.proofs.Common.{◌≡◌, ℕ, ◌<◌, ◌≤◌, ◌∷◌, [], ◌++◌, ◌↔◌, true, false, length, get_or, set, take, Contains, sym, subst, ◌∙◌, ⊎_elim, arith}
use Rattle.std.proofs.lemmas.List.{length-set, take_more, take_all, get_or-set_same}
use Rattle.std.proofs.lemmas.List.Elements.{Contains-push, Contains-append_left, Contains-push_cases}
use Rattle.numbered_graph.specs.Sets.{has}
use Rattle.numbered_graph.proofs.SetFacts.{has-set, has-set_elim}
use Rattle.numbered_graph.proofs.node_set.NodeSet.of.Goals as goal

pub loop-member-preserved : goal.loop-member-preserved
loop-member-preserved c =
    let members = c.args.members.now in
    let i = c.loop-member.member-index in
    let flags = c.loop-member.flags.items in
    let m = get_or members i 0 in
    let before = c.loop-member.invariant in
    let longer = take_more members i 0 c.loop-member-test.true in
    let within : m < length flags = let sized = before.sized in let below = c.requires i 0 c.loop-member-test.true in omega arith in
    record {
      sized = length-set flags m true ∙ before.sized;
      members = λ v. (λ h. subst (λ xs. Contains xs v) (sym longer) (has-set_elim (λ u. Contains (take i members ++ m ∷ []) u) flags m v (Contains-push (take i members) m) (λ old. Contains-append_left (take i members) (m ∷ []) v ((before.members v).0 old)) h), λ inside. ⊎_elim (λ old. has-set flags m v ((before.members v).1 old)) (λ e. subst (λ u. has (set flags m true) u ≡ true) e (get_or-set_same flags m true false within)) (Contains-push_cases (take i members) m v (subst (λ xs. Contains xs v) longer inside)));
    }

pub returns-clause-members : goal.returns-clause-members
returns-clause-members c =
    let members = c.args.members.now in
    let past : length members ≤ c.loop-member.member-index = omega arith in
    subst (λ xs. (v : ℕ) → (has c.loop-member.flags.items v ≡ true) ↔ Contains xs v) (take_all c.loop-member.member-index members past) c.loop-member.invariant.members
