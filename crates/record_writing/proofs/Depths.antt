-- Files that were written nest no deeper than a reader goes.
use Rattle.std.proofs.Common.{ℕ, ◌≤◌, List, Bool, arith}
use Rattle.serde_json.specs.Data.{depth, boolean}
use Rattle.serde_json.specs.Read.{max_depth}
use Rattle.workspace_record.specs.Choices.{Choice}
use Rattle.workspace_record.specs.Features.{FeatureValue}
use Rattle.workspace_record.specs.Records.{FeatureEntry, Target, Package, Line, Link, Member, WorkspaceDetails, Group, Text, Workspace}
use Rattle.record_writing.specs.Choices.{choice_data, choice_members, extra_data, label_text, pair_members}
use Rattle.record_writing.specs.Maps.{listings_data, table_data, table_members}
use Rattle.record_writing.specs.Members.{texts_data}
use Rattle.record_writing.specs.Rows.{line_data, line_members, link_data, link_members, feature_data, feature_members, target_data, target_members, package_data, package_members, member_data, member_members, workspace_data, workspace_members, group_data, group_members, record_data, record_members}
use Rattle.record_writing.proofs.Shallow.{object_shallow, list_shallow, texts_shallow, text_or_null_shallow, texts_or_null_shallow, map_shallow}

line_depth : (l : Line) → depth (line_data l) ≤ 2
line_depth l = object_shallow 1 (line_members l) (omega arith, (omega arith, (omega arith, (texts_shallow 0 l.features, (text_or_null_shallow 1 l.spec, tt)))))

link_depth : (l : Link) → depth (link_data l) ≤ 4
link_depth l = object_shallow 3 (link_members l) (omega arith, (omega arith, (omega arith, (omega arith, (text_or_null_shallow 3 l.registry, (text_or_null_shallow 3 l.path, (list_shallow 2 line_data line_depth l.lines, tt)))))))

feature_depth : (f : FeatureEntry) → depth (feature_data f) ≤ 2
feature_depth f = object_shallow 1 (feature_members f) (omega arith, (texts_shallow 0 f.enables, tt))

target_depth : (t : Target) → depth (target_data t) ≤ 2
target_depth t = object_shallow 1 (target_members t) (
  omega arith,
  (
    omega arith,
    (
      texts_shallow 0 t.required_features,
      (
        omega arith,
        (
          omega arith,
          (
            omega arith,
            (
              texts_shallow 0 t.info.crate_types,
              (
                omega arith,
                (
                  omega arith,
                  tt,
                ),
              ),
            ),
          ),
        ),
      ),
    ),
  ),
)

package_depth : (p : Package) → depth (package_data p) ≤ 4
package_depth p = object_shallow 3 (package_members p) (
  text_or_null_shallow 3 p.info.source,
  (
    text_or_null_shallow 3 p.info.path,
    (
      omega arith,
      (
        omega arith,
        (
          texts_shallow 2 p.info.authors,
          (
            texts_shallow 2 p.info.categories,
            (
              texts_shallow 2 p.info.keywords,
              (
                text_or_null_shallow 3 p.info.description,
                (
                  text_or_null_shallow 3 p.info.license,
                  (
                    text_or_null_shallow 3 p.info.license_file,
                    (
                      text_or_null_shallow 3 p.info.readme,
                      (
                        text_or_null_shallow 3 p.info.repository,
                        (
                          text_or_null_shallow 3 p.info.homepage,
                          (
                            text_or_null_shallow 3 p.info.documentation,
                            (
                              text_or_null_shallow 3 p.info.links,
                              (
                                text_or_null_shallow 3 p.info.default_run,
                                (
                                  text_or_null_shallow 3 p.info.rust_version,
                                  (
                                    texts_or_null_shallow 2 p.info.publish,
                                    (
                                      omega arith,
                                      (
                                        omega arith,
                                        (
                                          omega arith,
                                          (
                                            texts_shallow 2 p.optional,
                                            (
                                              list_shallow 2 feature_data feature_depth p.features,
                                              (
                                                list_shallow 2 target_data target_depth p.targets,
                                                tt,
                                              ),
                                            ),
                                          ),
                                        ),
                                      ),
                                    ),
                                  ),
                                ),
                              ),
                            ),
                          ),
                        ),
                      ),
                    ),
                  ),
                ),
              ),
            ),
          ),
        ),
      ),
    ),
  ),
)

member_depth : (m : Member) → depth (member_data m) ≤ 1
member_depth m = object_shallow 0 (member_members m) (omega arith, (omega arith, tt))

workspace_depth : (w : WorkspaceDetails) → depth (workspace_data w) ≤ 3
workspace_depth w = object_shallow 2 (workspace_members w) (omega arith, (omega arith, (text_or_null_shallow 2 w.build_directory, (texts_shallow 1 w.default_members, (list_shallow 1 member_data member_depth w.members, tt)))))

group_depth : (g : Group) → depth (group_data g) ≤ 1
group_depth g = object_shallow 0 (group_members g) (omega arith, (omega arith, tt))

up_to : {a b n : ℕ} → a ≤ b → b ≤ n → a ≤ n
up_to h k = omega (arith, h, k)

pub record_depth : (w : Workspace) → depth (record_data w) ≤ max_depth
record_depth w = up_to (object_shallow 5 (record_members w) (text_or_null_shallow 5 w.default_filter, (list_shallow 4 package_data package_depth w.packages, (list_shallow 4 link_data link_depth w.links, (up_to (workspace_depth w.workspace) (omega arith), (up_to (list_shallow 1 group_data group_depth w.groups) (omega arith), tt)))))) (omega arith)

extra_depth : (f : FeatureValue) → depth (extra_data f) ≤ 1
extra_depth f = object_shallow 0 (pair_members f.package_id (label_text f.label)) (omega arith, (omega arith, tt))

pub choice_depth : (c : Choice) → depth (choice_data c) ≤ max_depth
choice_depth c = up_to (object_shallow 2 (choice_members c) (omega arith, (list_shallow 1 extra_data extra_depth c.extras, tt))) (omega arith)

pub table_depth : (answers : List (Text × Bool)) (unknown_counts : Bool) → depth (table_data answers unknown_counts) ≤ max_depth
table_depth answers unknown_counts = up_to (object_shallow 1 (table_members answers unknown_counts) (omega arith, (map_shallow 0 boolean (λ b. omega arith) answers, tt))) (omega arith)

pub listings_depth : (listings : List (Text × List Text)) → depth (listings_data listings) ≤ max_depth
listings_depth listings = up_to (map_shallow 1 texts_data (texts_shallow 0) listings) (omega arith)
