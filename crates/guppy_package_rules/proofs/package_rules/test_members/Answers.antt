use Rattle.std.proofs.Common.{◌≡◌, List, [], ◌∷◌, ◌∙◌, ap, map, refl, sym}
use Rattle.std.specs.Ordering.{eq_by_cmp}
use Rattle.std.specs.Str.{bytes_eq}
use Rattle.std.proofs.lemmas.Result.{err_from_is_err_and}
use Rattle.workspace_record.specs.Records.{Member}
use Rattle.guppy_package_rules.specs.Paths.{path_cmp}
use Rattle.guppy_package_rules.specs.Places.{first_repeat}
use Rattle.guppy_package_rules.specs.Rules.{first_broken, member_name}
use Rattle.guppy_package_rules.specs.declared.record_rule.RecordRule.TheVariants.{DefaultMembers, MemberNames, MemberPaths, Members, Targets}
use Rattle.guppy_package_rules.proofs.FaultFacts.{names_next, names_rule, none_next}
use Rattle.guppy_package_rules.proofs.package_rules.test_members.Goals as goal

pub returns-in_err-test-clause-refused : goal.returns-in_err-test-clause-refused
returns-in_err-test-clause-refused c =
    let p = err_from_is_err_and c.from_residual-in_err-test.result c.from_residual-in_err-test.ensures.1 in
    rw (p.1, p.2) (λ links. let broken = first_broken c.args.packages.now links c.args.workspace.now in names_rule broken Members (MemberNames ∷ (MemberPaths ∷ (DefaultMembers ∷ (Targets ∷ [])))) _ _ c.in_ok-first_bad_member.ensures c.in_err-test.ensures.refused)

pub returns-in_err-test-2-clause-refused : goal.returns-in_err-test-2-clause-refused
returns-in_err-test-2-clause-refused c =
    let members : c.deref.result.now ≡ c.args.workspace.now.members = c.deref.ensures.value ∙ ap (λ w. w.members) c.workspace.view_is in
    let names = c.in_ok-first_repeated_name.ensures ∙ ap (λ ms. first_repeat bytes_eq (map (member_name c.args.packages.now) ms)) members in
    let p = err_from_is_err_and c.from_residual-in_err-test-2.result c.from_residual-in_err-test-2.ensures.1 in
    rw (p.1, p.2) (λ links. let broken = first_broken c.args.packages.now links c.args.workspace.now in names_next broken Members (MemberNames ∷ (MemberPaths ∷ (DefaultMembers ∷ (Targets ∷ [])))) _ (sym c.in_ok-first_bad_member.ensures ∙ c.in_ok-test.ensures.kept) (names_rule broken MemberNames (MemberPaths ∷ (DefaultMembers ∷ (Targets ∷ []))) _ _ names c.in_err-test-2.ensures.refused))

pub returns-in_err-test-3-clause-refused : goal.returns-in_err-test-3-clause-refused
returns-in_err-test-3-clause-refused c =
    let members : c.deref.result.now ≡ c.args.workspace.now.members = c.deref.ensures.value ∙ ap (λ w. w.members) c.workspace.view_is in
    let names = c.in_ok-first_repeated_name.ensures ∙ ap (λ ms. first_repeat bytes_eq (map (member_name c.args.packages.now) ms)) members in
    let paths = c.in_ok-first_repeated_path.ensures ∙ ap (λ (ms : List Member). first_repeat (eq_by_cmp path_cmp) (map (λ m. m.path) ms)) (c.deref-2.ensures.value ∙ ap (λ w. w.members) c.workspace.view_is) in
    let p = err_from_is_err_and c.from_residual-in_err-test-3.result c.from_residual-in_err-test-3.ensures.1 in
    rw (p.1, p.2) (λ links. let broken = first_broken c.args.packages.now links c.args.workspace.now in names_next broken Members (MemberNames ∷ (MemberPaths ∷ (DefaultMembers ∷ (Targets ∷ [])))) _ (sym c.in_ok-first_bad_member.ensures ∙ c.in_ok-test.ensures.kept) (names_next broken MemberNames (MemberPaths ∷ (DefaultMembers ∷ (Targets ∷ []))) _ (sym names ∙ c.in_ok-test-2.ensures.kept) (names_rule broken MemberPaths (DefaultMembers ∷ (Targets ∷ [])) _ _ paths c.in_err-test-3.ensures.refused)))

pub returns-in_err-test-4-clause-refused : goal.returns-in_err-test-4-clause-refused
returns-in_err-test-4-clause-refused c =
    let members : c.deref.result.now ≡ c.args.workspace.now.members = c.deref.ensures.value ∙ ap (λ w. w.members) c.workspace.view_is in
    let names = c.in_ok-first_repeated_name.ensures ∙ ap (λ ms. first_repeat bytes_eq (map (member_name c.args.packages.now) ms)) members in
    let paths = c.in_ok-first_repeated_path.ensures ∙ ap (λ (ms : List Member). first_repeat (eq_by_cmp path_cmp) (map (λ m. m.path) ms)) (c.deref-2.ensures.value ∙ ap (λ w. w.members) c.workspace.view_is) in
    let p = err_from_is_err_and c.from_residual-in_err-test-4.result c.from_residual-in_err-test-4.ensures.1 in
    rw (p.1, p.2) (λ links. let broken = first_broken c.args.packages.now links c.args.workspace.now in names_next broken Members (MemberNames ∷ (MemberPaths ∷ (DefaultMembers ∷ (Targets ∷ [])))) _ (sym c.in_ok-first_bad_member.ensures ∙ c.in_ok-test.ensures.kept) (names_next broken MemberNames (MemberPaths ∷ (DefaultMembers ∷ (Targets ∷ []))) _ (sym names ∙ c.in_ok-test-2.ensures.kept) (names_next broken MemberPaths (DefaultMembers ∷ (Targets ∷ [])) _ (sym paths ∙ c.in_ok-test-3.ensures.kept) (names_rule broken DefaultMembers (Targets ∷ []) _ _ c.in_ok-first_unknown_default.ensures c.in_err-test-4.ensures.refused))))

pub returns-in_err-test-5-clause-refused : goal.returns-in_err-test-5-clause-refused
returns-in_err-test-5-clause-refused c =
    let members : c.deref.result.now ≡ c.args.workspace.now.members = c.deref.ensures.value ∙ ap (λ w. w.members) c.workspace.view_is in
    let names = c.in_ok-first_repeated_name.ensures ∙ ap (λ ms. first_repeat bytes_eq (map (member_name c.args.packages.now) ms)) members in
    let paths = c.in_ok-first_repeated_path.ensures ∙ ap (λ (ms : List Member). first_repeat (eq_by_cmp path_cmp) (map (λ m. m.path) ms)) (c.deref-2.ensures.value ∙ ap (λ w. w.members) c.workspace.view_is) in
    let p = err_from_is_err_and c.from_residual-in_err-test-5.result c.from_residual-in_err-test-5.ensures.1 in
    rw (p.1, p.2) (λ links. let broken = first_broken c.args.packages.now links c.args.workspace.now in names_next broken Members (MemberNames ∷ (MemberPaths ∷ (DefaultMembers ∷ (Targets ∷ [])))) _ (sym c.in_ok-first_bad_member.ensures ∙ c.in_ok-test.ensures.kept) (names_next broken MemberNames (MemberPaths ∷ (DefaultMembers ∷ (Targets ∷ []))) _ (sym names ∙ c.in_ok-test-2.ensures.kept) (names_next broken MemberPaths (DefaultMembers ∷ (Targets ∷ [])) _ (sym paths ∙ c.in_ok-test-3.ensures.kept) (names_next broken DefaultMembers (Targets ∷ []) _ (sym c.in_ok-first_unknown_default.ensures ∙ c.in_ok-test-4.ensures.kept) (names_rule broken Targets [] _ _ c.in_ok-first_repeated_target.ensures c.in_err-test-5.ensures.refused)))))

pub returns-clause-kept : goal.returns-clause-kept
returns-clause-kept c links =
    let members : c.deref.result.now ≡ c.args.workspace.now.members = c.deref.ensures.value ∙ ap (λ w. w.members) c.workspace.view_is in
    let names = c.in_ok-first_repeated_name.ensures ∙ ap (λ ms. first_repeat bytes_eq (map (member_name c.args.packages.now) ms)) members in
    let paths = c.in_ok-first_repeated_path.ensures ∙ ap (λ (ms : List Member). first_repeat (eq_by_cmp path_cmp) (map (λ m. m.path) ms)) (c.deref-2.ensures.value ∙ ap (λ w. w.members) c.workspace.view_is) in
    let broken = first_broken c.args.packages.now links c.args.workspace.now in none_next broken Members (MemberNames ∷ (MemberPaths ∷ (DefaultMembers ∷ (Targets ∷ [])))) (sym c.in_ok-first_bad_member.ensures ∙ c.in_ok-test.ensures.kept) (none_next broken MemberNames (MemberPaths ∷ (DefaultMembers ∷ (Targets ∷ []))) (sym names ∙ c.in_ok-test-2.ensures.kept) (none_next broken MemberPaths (DefaultMembers ∷ (Targets ∷ [])) (sym paths ∙ c.in_ok-test-3.ensures.kept) (none_next broken DefaultMembers (Targets ∷ []) (sym c.in_ok-first_unknown_default.ensures ∙ c.in_ok-test-4.ensures.kept) (none_next broken Targets [] (sym c.in_ok-first_repeated_target.ensures ∙ c.in_ok-test-5.ensures.kept) refl))))
