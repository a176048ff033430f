use Rattle.std.proofs.Common.{◌++◌, List, append-nil, map, sym, ap, ◌∙◌}
use Rattle.std.specs.List.{flat_map}
use Rattle.workspace_record.specs.Records.{Package, Text}
use Rattle.workspace_record.specs.Features.{FeatureValue}
use Rattle.workspace_record.specs.LinkNames.{link_view, links_named}
use Rattle.workspace_record.specs.declared.link_names.LentLink.{LentLink}
use Rattle.list_facts.proofs.Lists.{flat_map-append}
use Rattle.feature_account_rules.specs.RuleList.{strong_targets}
use Rattle.feature_account_rules.proofs.PushFacts.{parts_of_map, pushed_all, pushed_more}
use Rattle.feature_account_rules.proofs.KeptLinks.{strong_kept}
use Rattle.feature_account_rules.proofs.rule_list.push_links_targets.Goals as goal

pub loop-link-preserved : goal.loop-link-preserved
loop-link-preserved c =
    let entry = c.args.entry in
    let given = strong_targets c.args.index.now c.args.table.now entry.row.now entry.name.now entry.feature.now in
    pushed_more (λ (links : List LentLink). flat_map given (map link_view links)) (parts_of_map (flat_map given) link_view (flat_map-append given)) _ _ _ _ c.in-Some.links.now c.loop-link.link-index c.link-item.result c.loop-link-test.true c.link-item.is c.loop-link.invariant c.in_ok-push_strong_targets-in-Some.ensures (sym (append-nil _))

pub returns-after-loop-link : goal.returns-after-loop-link
returns-after-loop-link c =
    let w = c.args.index.now in
    let table = c.args.table.now in
    let row = c.args.entry.row.now in
    let name = c.args.entry.name.now in
    let x = c.args.entry.feature.now in
    let id_is = c.as_str.ensures.value ∙ ap (λ (p : Package). p.id) c.row.view_is in
    let group = c.in-Some.ensures.some ∙ ap (λ (id : Text). links_named w.links id name) id_is in
    pushed_all (λ (links : List LentLink). flat_map (strong_targets w table row name x) (map link_view links)) _ _ c.in-Some.links.now c.loop-link.link-index c.loop-link-test.false c.loop-link.invariant ∙ ap (λ (more : List FeatureValue). c.args.features.now.items ++ more) (ap (flat_map (strong_targets w table row name x)) group ∙ strong_kept w table row name x)

pub returns-in-None : goal.returns-in-None
returns-in-None c =
    let w = c.args.index.now in
    let table = c.args.table.now in
    let row = c.args.entry.row.now in
    let name = c.args.entry.name.now in
    let x = c.args.entry.feature.now in
    let id_is = c.as_str.ensures.value ∙ ap (λ (p : Package). p.id) c.row.view_is in
    let group = sym c.in-None.ensures.none ∙ ap (λ (id : Text). links_named w.links id name) id_is in
    sym (append-nil c.args.features.now.items) ∙ ap (λ (more : List FeatureValue). c.args.features.now.items ++ more) (ap (flat_map (strong_targets w table row name x)) group ∙ strong_kept w table row name x)
