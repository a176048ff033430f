-- Which packages are found, which are the workspace's, and which lines count.
use Rattle.std.proofs.Common.{◌≡◌, ◌≢◌, Bool, true, false, not, cond, List, [], ◌∷◌, Option, Some, None, filter, unwrap_or, Contains, refl, sym, ◌∙◌, ap, subst, ◌⊎◌, inl, inr, ⊎_elim, ◌↔◌}
use Rattle.std.specs.Bool.{Decides}
use Rattle.std.specs.List.{find, list_any}
use Rattle.std.specs.Str.{bytes_eq}
use Rattle.std.specs.Cmp.Lexicographic.{nat_list_eq_equiv}
use Rattle.std.proofs.lemmas.Bool.{cond-true, cond-false, not-true, not_from_false, cases_Bool}
use Rattle.std.proofs.lemmas.Bool.Decides.{not_from_Decides, Decides-and, Decides-like}
use Rattle.std.proofs.lemmas.Slice.Eq.{bytes_eq-Decides}
use Rattle.list_facts.proofs.Membership.{Contains-none, Contains-first, Contains-rest, Contains-cons_cases, Contains-filter, Contains-filter_cases}
use Rattle.list_facts.proofs.Quantifiers.{list_any-from_Contains, list_any_cases}
use Rattle.workspace_record.specs.Records.{Text, Package, Line, Link, Workspace}
use Rattle.workspace_record.specs.Tables.{answer}
use Rattle.workspace_record.specs.declared.choice.PlatformTable.{PlatformTable}
use Rattle.workspace_record.specs.declared.kinds.LineKind.{LineKind}
use Rattle.workspace_record.specs.declared.kinds.LineKind.TheVariants.{Normal, Build, Dev}
use Rattle.feature_account_rules.specs.IsRule.{IsMember, IsInForce, IsInWorkspace, Counts}
use Rattle.feature_account_rules.specs.Lines.{first_of_each, is_member, is_workspace_package, is_in_force, counts_for, counts, counting_lines}

-- the first package with this id
abbrev found : Text → List Package → Option Package
found id ps = find (λ q. bytes_eq id q.id) ps

-- one of the first packages of each id is the one that its id finds
pub finds-first_of_each : (ps : List Package) (p : Package) → Contains (first_of_each ps) p → found p.id ps ≡ Some p
finds-first_of_each [] p h = absurd (Contains-none p h)
finds-first_of_each (q ∷ qs) p h =
    ⊎_elim (λ e. cond-true (bytes_eq p.id q.id) (Some q) (found p.id qs) ((bytes_eq-Decides p.id q.id).1 (ap (λ (r : Package). r.id) (sym e))) ∙ ap Some e) (λ r.
    let kept = Contains-filter_cases (λ (x : Package). not (bytes_eq q.id x.id)) (first_of_each qs) p r in
    cond-false (bytes_eq p.id q.id) (Some q) (found p.id qs) (nat_list_eq_equiv.symm p.id q.id ∙ not-true _ kept.1) ∙ finds-first_of_each qs p kept.0) (Contains-cons_cases q (filter (λ (x : Package). not (bytes_eq q.id x.id)) (first_of_each qs)) p h)

-- a package that its id finds is one of the first of each id
pub Contains-first_of_each : (ps : List Package) (p : Package) → found p.id ps ≡ Some p → Contains (first_of_each ps) p
Contains-first_of_each [] p h = absurd cc
Contains-first_of_each (q ∷ qs) p h =
    let rest = filter (λ (x : Package). not (bytes_eq q.id x.id)) (first_of_each qs) in
    elim (bytes_eq p.id q.id) as (λ b. bytes_eq p.id q.id ≡ b → cond b (Some q) (found p.id qs) ≡ Some p → Contains (q ∷ rest) p) [
      | true ↦ λ t e. let same : q ≡ p = cc in subst (Contains (q ∷ rest)) same (Contains-first q rest)
      | false ↦ λ t e. Contains-rest q rest p (Contains-filter (λ (x : Package). not (bytes_eq q.id x.id)) (first_of_each qs) p (Contains-first_of_each qs p e) (not_from_false _ (nat_list_eq_equiv.symm q.id p.id ∙ t)))
    ] refl h

-- the test for an element of this name
pub named-Decides : {X : Type 0} (name_of : X → Text) (xs : List X) (name : Text) → Decides (list_any (λ x. bytes_eq name (name_of x)) xs) ((x : X) × Contains xs x × (name_of x ≡ name))
named-Decides name_of xs name =
    (λ h. let x = list_any_cases _ xs h in (x.0, x.1, sym ((bytes_eq-Decides name (name_of x.0)).0 x.2)), λ x. list_any-from_Contains _ xs x.0 x.1 ((bytes_eq-Decides name (name_of x.0)).1 (sym x.2)))

-- the test for a member
pub is_member-Decides : (w : Workspace) (id : Text) → Decides (is_member w id) (IsMember w id)
is_member-Decides w id =
    Decides-like (is_member w id) (λ m. (m.0.path, subst (λ t. Contains w.workspace.members (record { package_id = t; path = m.0.path })) m.2 m.1)) (λ m. (record { package_id = id; path = m.0 }, m.1, refl)) (named-Decides (λ m. m.package_id) w.workspace.members id)

-- the test for a workspace package
pub is_workspace_package-Decides : (w : Workspace) (id : Text) → Decides (is_workspace_package w id) (IsInWorkspace w id)
is_workspace_package-Decides w id =
    Decides-and _ (is_member w id) (named-Decides (λ p. p.id) w.packages id) (is_member-Decides w id)

-- an answer yes, or none where unknown answers count
answer-Decides : (o : Option Bool) (unknown_counts : Bool) → Decides (unwrap_or o unknown_counts) ((o ≡ Some true) ⊎ ((o ≡ None) × (unknown_counts ≡ true)))
answer-Decides None u = (λ h. inr (refl, h), λ d. ⊎_elim (λ e. absurd cc) (λ n. n.1) d)
answer-Decides (Some b) u = (λ h. inl (ap Some h), λ d. ⊎_elim (λ e. cc) (λ n. let e = n.0 in absurd cc) d)

-- the test for a spec in force
pub is_in_force-Decides : (table : PlatformTable) (spec : Option Text) → Decides (is_in_force table spec) (IsInForce table spec)
is_in_force-Decides table None = (λ h. tt, λ t. refl)
is_in_force-Decides table (Some spec) = answer-Decides (answer table spec) table.unknown_counts

-- a line that is not for development counts for every source
counts_for-Decides : {P : Type 0} (in_workspace : Bool) (kind : LineKind) → Decides in_workspace P → Decides (counts_for in_workspace kind) (kind ≡ Dev → P)
counts_for-Decides b Normal d = (λ h e. absurd cc, λ f. refl)
counts_for-Decides b Build d = (λ h e. absurd cc, λ f. refl)
counts_for-Decides b Dev d = (λ h e. d.0 h, λ f. d.1 (f refl))

-- the lines that are kept are those that count
pub counting_lines_iff : (w : Workspace) (table : PlatformTable) (link : Link) (line : Line) → Contains (counting_lines w table link) line ↔ Counts w table link line
counting_lines_iff w table link line =
    let both = Decides-and _ _ (counts_for-Decides (is_workspace_package w link.from) line.kind (is_workspace_package-Decides w link.from)) (is_in_force-Decides table line.spec) in
    (λ h. let kept = Contains-filter_cases (counts w table link.from) link.lines line h in let c = both.0 kept.1 in record { declared = kept.0; in_force = c.1; in_workspace = c.0 }, λ c. Contains-filter (counts w table link.from) link.lines line c.declared (both.1 (c.in_workspace, c.in_force)))

-- a spec with the same answer stays in force
same_force : (old new : PlatformTable) (spec : Text) → answer new spec ≡ answer old spec → (old.unknown_counts ≡ true → new.unknown_counts ≡ true) → IsInForce old (Some spec) → IsInForce new (Some spec)
same_force old new spec same unknowns h = ⊎_elim (λ e. inl (same ∙ e)) (λ n. inr (same ∙ n.0, unknowns n.1)) h

-- with the answer for one spec now yes, and the others as they were, what is in force stays so
pub in_force-with_a_yes : (old new : PlatformTable) (spec : Text) → answer new spec ≡ Some true → ((other : Text) → other ≢ spec → answer new other ≡ answer old other) → new.unknown_counts ≡ old.unknown_counts → (s : Option Text) → IsInForce old s → IsInForce new s
in_force-with_a_yes old new spec answered others unknowns None h = tt
in_force-with_a_yes old new spec answered others unknowns (Some other) h =
    ⊎_elim (λ t. inl (ap (answer new) ((bytes_eq-Decides other spec).0 t) ∙ answered)) (λ t. same_force old new other (others other (not_from_Decides _ (bytes_eq-Decides other spec) t)) (λ e. unknowns ∙ e) h) (cases_Bool (bytes_eq other spec))

-- with unknown answers made to count, and the answers as they were, what is in force stays so
pub in_force-with_unknowns : (old new : PlatformTable) → ((spec : Text) → answer new spec ≡ answer old spec) → new.unknown_counts ≡ true → (s : Option Text) → IsInForce old s → IsInForce new s
in_force-with_unknowns old new answers counted None h = tt
in_force-with_unknowns old new answers counted (Some spec) h = same_force old new spec (answers spec) (λ _. counted) h
