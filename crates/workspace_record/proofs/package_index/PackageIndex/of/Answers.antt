use Rattle.std.proofs.Common.{◌∙◌, ap, map, rules, string_bytes, sym}
use Rattle.std.specs.List.{list_any}
use Rattle.std.specs.Str.{bytes_eq}
use Rattle.list_facts.proofs.Quantifiers.{list_any-map}
use Rattle.workspace_record.specs.Records.{FeatureEntry, Package}
use Rattle.workspace_record.proofs.package_index.PackageIndex.of.Goals as goal

pub invariant_of-result : goal.invariant_of-result
invariant_of-result c =
    let features = c.deref.ensures.value ∙ ap (λ (p : Package). p.features) c.row.view_is in
    let optional = ap (map string_bytes) c.deref-2.ensures.value ∙ ap (λ (p : Package). p.optional) c.row.view_is in
    record {
      named = λ x. c.in_ok-features.ensures (λ (f : FeatureEntry). f.name) (λ y t h. search rules) x ∙ ap (list_any (λ (f : FeatureEntry). bytes_eq x f.name)) features;
      dependencies = λ x. c.in-Ok.ensures string_bytes (λ y t h. search rules) x ∙ sym (list_any-map (bytes_eq x) string_bytes c.deref-2.result.now) ∙ ap (list_any (bytes_eq x)) optional;
    }
