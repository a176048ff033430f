use Rattle.std.proofs.Common.{◌≡◌, ◌∙◌, ◌++◌, [], Bool, append-nil, append_assoc, ap, flat_map, if◌then◌else◌, map, string_bytes, subst, sym}
use Rattle.std.specs.Result.{OnOk}
use Rattle.workspace_record.specs.Records.{Line, Link, Text}
use Rattle.guppy_package_parts.specs.Warnings.{AddDependencyEdges}
use Rattle.guppy_package_parts.specs.WarningViews.{warning_view}
use Rattle.guppy_feature_demands.specs.Nodes.{dep_of, named_of}
use Rattle.guppy_feature_demands.specs.Warnings.{missing, optional_warnings}
use Rattle.guppy_feature_demands.proofs.warnings.push_line.Goals.{then-line+in_ok-push_missing, else-line}
use Rattle.guppy_feature_demands.proofs.warnings.push_line.Goals as goal

pub returns : goal.returns
returns c =
    let nodes = c.args.nodes.now in
    let link = c.args.link.at.row.now in
    let line = c.args.line.now in
    let was = map warning_view c.args.warnings.now.items in
    let from : c.args.link.from.text.now ≡ link.from = c.args.link.from_row in
    let to : c.args.link.to.text.now ≡ link.to = c.args.link.to_row in
    let called = ap (λ (l : Link). l.name) c.row.view_is in
    let name : c.as_str.result.now ≡ link.name = c.as_str.ensures.value ∙ called in
    let here = AddDependencyEdges c.args.link.from.text.now c.as_str.result.now in
    let by = λ (b : Bool). was ++ (if b then missing nodes here (dep_of link.from link.name) else []) in
    let flag = ap (λ (l : Line). l.optional) c.line.view_is in
    let optional : map warning_view c.if-line.warnings.items ≡ was ++ optional_warnings nodes here link line = elim c.if-line.branch [
      | then-line+in_ok-push_missing w ↦
          let again = w.as_str-then-line.ensures.value ∙ called in
          let dep = w.dep-dep.ensures ∙ λ i. dep_of (from i) (again i) in
          ap (λ v. map warning_view v.items) w.warnings-is ∙ w.in_ok-push_missing.ensures ∙ ap (λ f. was ++ missing nodes here f) dep ∙ ap by (sym w.if-line.true ∙ flag)
      | else-line w ↦ ap (λ v. map warning_view v.items) w.warnings-is ∙ sym (append-nil was) ∙ ap by (sym w.if-line.false ∙ flag)
    ] in
    let names : map string_bytes c.deref.result.now ≡ line.features = ap (map string_bytes) c.deref.ensures.value ∙ ap (λ (l : Line). l.features) c.line.view_is in
    let listed = flat_map (λ (x : Text). missing nodes here (named_of c.args.link.to.text.now x)) (map string_bytes c.deref.result.now) in
    let both = ap (λ xs. xs ++ listed) optional ∙ append_assoc was (optional_warnings nodes here link line) listed in
    let all = both ∙ λ i. was ++ (optional_warnings nodes (AddDependencyEdges (from i) (name i)) link line ++ flat_map (λ (x : Text). missing nodes (AddDependencyEdges (from i) (name i)) (named_of (to i) x)) (names i)) in
    subst (λ xs. OnOk c.push_listed.result (map warning_view c.push_listed.new.warnings.items ≡ xs)) all c.push_listed.ensures
