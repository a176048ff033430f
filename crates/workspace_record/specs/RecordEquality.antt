-- When two records are equal: field by field.
use Rattle.std.specs.Prelude.{Bool, nat_eq}
use Rattle.std.specs.Ordering.{on}
use Rattle.std.specs.Option.{option_eq}
use Rattle.std.specs.Cmp.{booleans_Decides}
use Rattle.std.specs.Cmp.Lexicographic.{pointwise}
use Rattle.std.proofs.Common.{refl}
use mathlib.Core.Bool.{beq}
use Rattle.workspace_record.specs.Equality.{DecidesEquality, text_eq, pair_eq, texts_decide, lists_decide, options_decide, pairs_decide, decide_by}
use Rattle.workspace_record.specs.Kinds.{target_kind_index, line_kind_index, target_kinds_decide, line_kinds_decide}
use Rattle.workspace_record.specs.Records.{FeatureEntry, TargetDetails, Target, PackageDetails, Package, Line, Link, Member, WorkspaceDetails, Group, Workspace}

abbrev pub feature_entry_eq : FeatureEntry → FeatureEntry → Bool
feature_entry_eq = on (λ f. (f.name, f.enables)) (pair_eq text_eq (pointwise text_eq))

pub feature_entries_decide : DecidesEquality feature_entry_eq
feature_entries_decide =
    decide_by _ (λ p. record { name = p.0; enables = p.1 }) (λ f. refl) (pairs_decide texts_decide (lists_decide texts_decide))

abbrev pub target_details_eq : TargetDetails → TargetDetails → Bool
target_details_eq = on (λ t. (t.path, (t.edition, (t.crate_types, (t.doc, t.doctest))))) (pair_eq text_eq (pair_eq text_eq (pair_eq (pointwise text_eq) (pair_eq beq beq))))

pub target_details_decide : DecidesEquality target_details_eq
target_details_decide =
    decide_by _ (λ p. record { path = p.0; edition = p.1.0; crate_types = p.1.1.0; doc = p.1.1.1.0; doctest = p.1.1.1.1 }) (λ t. refl) (pairs_decide texts_decide (pairs_decide texts_decide (pairs_decide (lists_decide texts_decide) (pairs_decide booleans_Decides booleans_Decides))))

abbrev pub target_eq : Target → Target → Bool
target_eq = on (λ t. (t.kind, (t.name, (t.required_features, (t.tested, t.info))))) (pair_eq (on target_kind_index nat_eq) (pair_eq text_eq (pair_eq (pointwise text_eq) (pair_eq beq target_details_eq))))

pub targets_decide : DecidesEquality target_eq
targets_decide =
    decide_by _ (λ p. record { kind = p.0; name = p.1.0; required_features = p.1.1.0; tested = p.1.1.1.0; info = p.1.1.1.1 }) (λ t. refl) (pairs_decide target_kinds_decide (pairs_decide texts_decide (pairs_decide (lists_decide texts_decide) (pairs_decide booleans_Decides target_details_decide))))

abbrev pub package_details_eq : PackageDetails → PackageDetails → Bool
package_details_eq =
    on (λ p. ((p.source, (p.path, (p.manifest_path, (p.edition, (p.rust_version, p.publish))))), ((p.authors, (p.description, (p.license, (p.license_file, (p.categories, p.keywords))))), (p.readme, (p.repository, (p.homepage, (p.documentation, (p.links, (p.default_run, p.metadata))))))))) (pair_eq (pair_eq (option_eq text_eq) (pair_eq (option_eq text_eq) (pair_eq text_eq (pair_eq text_eq (pair_eq (option_eq text_eq) (option_eq (pointwise text_eq))))))) (pair_eq (pair_eq (pointwise text_eq) (pair_eq (option_eq text_eq) (pair_eq (option_eq text_eq) (pair_eq (option_eq text_eq) (pair_eq (pointwise text_eq) (pointwise text_eq)))))) (pair_eq (option_eq text_eq) (pair_eq (option_eq text_eq) (pair_eq (option_eq text_eq) (pair_eq (option_eq text_eq) (pair_eq (option_eq text_eq) (pair_eq (option_eq text_eq) (option_eq text_eq)))))))))

pub package_details_decide : DecidesEquality package_details_eq
package_details_decide =
    decide_by _ (λ p. record { source = p.0.0; path = p.0.1.0; manifest_path = p.0.1.1.0; edition = p.0.1.1.1.0; rust_version = p.0.1.1.1.1.0; publish = p.0.1.1.1.1.1; authors = p.1.0.0; description = p.1.0.1.0; license = p.1.0.1.1.0; license_file = p.1.0.1.1.1.0; categories = p.1.0.1.1.1.1.0; keywords = p.1.0.1.1.1.1.1; readme = p.1.1.0; repository = p.1.1.1.0; homepage = p.1.1.1.1.0; documentation = p.1.1.1.1.1.0; links = p.1.1.1.1.1.1.0; default_run = p.1.1.1.1.1.1.1.0; metadata = p.1.1.1.1.1.1.1.1 }) (λ p. refl) (pairs_decide (pairs_decide (options_decide texts_decide) (pairs_decide (options_decide texts_decide) (pairs_decide texts_decide (pairs_decide texts_decide (pairs_decide (options_decide texts_decide) (options_decide (lists_decide texts_decide))))))) (pairs_decide (pairs_decide (lists_decide texts_decide) (pairs_decide (options_decide texts_decide) (pairs_decide (options_decide texts_decide) (pairs_decide (options_decide texts_decide) (pairs_decide (lists_decide texts_decide) (lists_decide texts_decide)))))) (pairs_decide (options_decide texts_decide) (pairs_decide (options_decide texts_decide) (pairs_decide (options_decide texts_decide) (pairs_decide (options_decide texts_decide) (pairs_decide (options_decide texts_decide) (pairs_decide (options_decide texts_decide) (options_decide texts_decide)))))))))

abbrev pub package_eq : Package → Package → Bool
package_eq = on (λ p. (p.id, (p.name, (p.version, (p.features, (p.optional, (p.targets, p.info))))))) (pair_eq text_eq (pair_eq text_eq (pair_eq text_eq (pair_eq (pointwise feature_entry_eq) (pair_eq (pointwise text_eq) (pair_eq (pointwise target_eq) package_details_eq))))))

pub packages_decide : DecidesEquality package_eq
packages_decide =
    decide_by _ (λ p. record { id = p.0; name = p.1.0; version = p.1.1.0; features = p.1.1.1.0; optional = p.1.1.1.1.0; targets = p.1.1.1.1.1.0; info = p.1.1.1.1.1.1 }) (λ p. refl) (pairs_decide texts_decide (pairs_decide texts_decide (pairs_decide texts_decide (pairs_decide (lists_decide feature_entries_decide) (pairs_decide (lists_decide texts_decide) (pairs_decide (lists_decide targets_decide) package_details_decide))))))

abbrev pub line_eq : Line → Line → Bool
line_eq = on (λ l. (l.kind, (l.optional, (l.default_features, (l.features, l.spec))))) (pair_eq (on line_kind_index nat_eq) (pair_eq beq (pair_eq beq (pair_eq (pointwise text_eq) (option_eq text_eq)))))

pub lines_decide : DecidesEquality line_eq
lines_decide =
    decide_by _ (λ p. record { kind = p.0; optional = p.1.0; default_features = p.1.1.0; features = p.1.1.1.0; spec = p.1.1.1.1 }) (λ l. refl) (pairs_decide line_kinds_decide (pairs_decide booleans_Decides (pairs_decide booleans_Decides (pairs_decide (lists_decide texts_decide) (options_decide texts_decide)))))

abbrev pub link_eq : Link → Link → Bool
link_eq = on (λ l. (l.from, (l.to, (l.name, (l.requirement, (l.lines, (l.registry, l.path))))))) (pair_eq text_eq (pair_eq text_eq (pair_eq text_eq (pair_eq text_eq (pair_eq (pointwise line_eq) (pair_eq (option_eq text_eq) (option_eq text_eq)))))))

pub links_decide : DecidesEquality link_eq
links_decide =
    decide_by _ (λ p. record { from = p.0; to = p.1.0; name = p.1.1.0; requirement = p.1.1.1.0; lines = p.1.1.1.1.0; registry = p.1.1.1.1.1.0; path = p.1.1.1.1.1.1 }) (λ l. refl) (pairs_decide texts_decide (pairs_decide texts_decide (pairs_decide texts_decide (pairs_decide texts_decide (pairs_decide (lists_decide lines_decide) (pairs_decide (options_decide texts_decide) (options_decide texts_decide)))))))

abbrev pub member_eq : Member → Member → Bool
member_eq = on (λ m. (m.package_id, m.path)) (pair_eq text_eq text_eq)

pub members_decide : DecidesEquality member_eq
members_decide =
    decide_by _ (λ p. record { package_id = p.0; path = p.1 }) (λ m. refl) (pairs_decide texts_decide texts_decide)

abbrev pub workspace_details_eq : WorkspaceDetails → WorkspaceDetails → Bool
workspace_details_eq = on (λ w. (w.root, (w.target_directory, (w.build_directory, (w.members, (w.default_members, w.metadata)))))) (pair_eq text_eq (pair_eq text_eq (pair_eq (option_eq text_eq) (pair_eq (pointwise member_eq) (pair_eq (pointwise text_eq) (option_eq text_eq))))))

pub workspace_details_decide : DecidesEquality workspace_details_eq
workspace_details_decide =
    decide_by _ (λ p. record { root = p.0; target_directory = p.1.0; build_directory = p.1.1.0; members = p.1.1.1.0; default_members = p.1.1.1.1.0; metadata = p.1.1.1.1.1 }) (λ w. refl) (pairs_decide texts_decide (pairs_decide texts_decide (pairs_decide (options_decide texts_decide) (pairs_decide (lists_decide members_decide) (pairs_decide (lists_decide texts_decide) (options_decide texts_decide))))))

abbrev pub group_eq : Group → Group → Bool
group_eq = on (λ g. (g.name, g.filter)) (pair_eq text_eq text_eq)

pub groups_decide : DecidesEquality group_eq
groups_decide =
    decide_by _ (λ p. record { name = p.0; filter = p.1 }) (λ g. refl) (pairs_decide texts_decide texts_decide)

abbrev pub workspace_eq : Workspace → Workspace → Bool
workspace_eq = on (λ w. (w.packages, (w.links, (w.workspace, (w.groups, w.default_filter))))) (pair_eq (pointwise package_eq) (pair_eq (pointwise link_eq) (pair_eq workspace_details_eq (pair_eq (pointwise group_eq) (option_eq text_eq)))))

pub workspaces_decide : DecidesEquality workspace_eq
workspaces_decide =
    decide_by _ (λ p. record { packages = p.0; links = p.1.0; workspace = p.1.1.0; groups = p.1.1.1.0; default_filter = p.1.1.1.1 }) (λ w. refl) (pairs_decide (lists_decide packages_decide) (pairs_decide (lists_decide links_decide) (pairs_decide workspace_details_decide (pairs_decide (lists_decide groups_decide) (options_decide texts_decide)))))
