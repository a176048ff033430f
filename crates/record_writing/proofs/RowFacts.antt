-- Rows that were written are read as they are.
use Rattle.std.proofs.Common.{◌≡◌, refl, Some, Ok}
use Rattle.workspace_record.specs.Records.{FeatureEntry, Target, Line, Link, Member, Group}
use Rattle.workspace_record.specs.declared.kinds.LineKind.{LineKind}
use Rattle.workspace_record.specs.declared.kinds.LineKind.TheVariants.{Normal, Build, Dev}
use Rattle.workspace_record.specs.declared.kinds.TargetKind.{TargetKind}
use Rattle.workspace_record.specs.declared.kinds.TargetKind.TheVariants.{Lib, ProcMacro, Test, Bench, Bin, Example, BuildScript}
use Rattle.record_files.specs.declared.key.Key.TheVariants as key
use Rattle.record_files.specs.Links.{line_kind, line_of, link_of}
use Rattle.record_files.specs.Packages.{target_kind, feature_of, target_of}
use Rattle.record_files.specs.Workspaces.{member_of, group_of}
use Rattle.record_writing.specs.Rows.{line_kind_name, line_data, link_data, feature_data, target_kind_name, target_data, member_data, group_data}
use Rattle.record_writing.proofs.Found.{each_text_of, text_or_none, objects_each, each_same}

line_kind_read : (k : LineKind) → line_kind (line_kind_name k) ≡ Some k
line_kind_read Normal = refl
line_kind_read Build = refl
line_kind_read Dev = refl

target_kind_read : (k : TargetKind) → target_kind (target_kind_name k) ≡ Some k
target_kind_read Lib = refl
target_kind_read ProcMacro = refl
target_kind_read Test = refl
target_kind_read Bench = refl
target_kind_read Bin = refl
target_kind_read Example = refl
target_kind_read BuildScript = refl

pub line_read : (l : Line) → line_of (line_data l) ≡ Ok l
unfolding line_of
line_read l = rw (line_kind_read l.kind, each_text_of l.features, text_or_none key.Spec l.spec)

pub feature_read : (f : FeatureEntry) → feature_of (feature_data f) ≡ Ok f
unfolding feature_of
feature_read f = rw (each_text_of f.enables)

pub target_read : (t : Target) → target_of (target_data t) ≡ Ok t
unfolding target_of
target_read t = rw (target_kind_read t.kind, each_text_of t.required_features, each_text_of t.info.crate_types)

pub member_read : (m : Member) → member_of (member_data m) ≡ Ok m
unfolding member_of
member_read m = refl

pub group_read : (g : Group) → group_of (group_data g) ≡ Ok g
unfolding group_of
group_read g = refl

pub link_read : (l : Link) → link_of (link_data l) ≡ Ok l
unfolding link_of
link_read l = rw (text_or_none key.Registry l.registry, text_or_none key.Path l.path, objects_each line_data (λ x. refl) l.lines, each_same line_of line_data line_read l.lines)
