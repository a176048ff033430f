-- What is refused for one dependency, package or member is refused for all.
use Rattle.std.proofs.Common.{◌≡◌, true, ⊎_elim, List, Some, Contains}
use Rattle.workspace_record.specs.Records.{Text, Workspace}
use Rattle.cargo_metadata.specs.Dependencies.{Declared}
use Rattle.cargo_metadata.specs.Metadata.{Metadata}
use Rattle.cargo_metadata.specs.Packages.{Declaring}
use Rattle.cargo_metadata.specs.Resolved.{Entry, Node}
use Rattle.cargo_record.specs.Lines.{counts}
use Rattle.cargo_record.specs.Refused.{AreRows, HasNoLine, RefusesLinks, RefusesMembers, RefusesOne, RefusesPackage, RefusesPackages, RefusesRecord}
use Rattle.cargo_record.specs.declared.fault.RecordFault.{RecordFault}
use Rattle.cargo_record.specs.declared.fault.RecordFault.TheVariants.{Ambiguous, ForeignFeature, Format, Memory, NoDependency, NoMember, NoNode, NoOptional, NoPackage, NoResolve}
use Rattle.cargo_record.specs.declared.members.RequestedMembers.{RequestedMembers}

-- a dependency that has no line is refused among others
pub one_refuses : (w : Workspace) (owner : Text) (entries : List Entry) (ds : List Declared) (d : Declared) (fault : RecordFault) → Contains ds d → counts w owner d ≡ true → HasNoLine w owner entries d fault → RefusesOne w owner entries ds fault
one_refuses w owner entries ds d Format among on none = absurd none
one_refuses w owner entries ds d NoResolve among on none = absurd none
one_refuses w owner entries ds d (NoNode a) among on none = absurd none
one_refuses w owner entries ds d (NoPackage a) among on none = absurd none
one_refuses w owner entries ds d (NoMember a) among on none = absurd none
one_refuses w owner entries ds d (NoDependency a b) among on none = (d, among, on, none)
one_refuses w owner entries ds d (NoOptional a b) among on none = (d, among, on, none)
one_refuses w owner entries ds d (Ambiguous a b) among on none = (d, among, on, none)
one_refuses w owner entries ds d (ForeignFeature a b c) among on none = absurd none
one_refuses w owner entries ds d Memory among on none = tt

-- a package that is refused, among others
pub package_refuses : (w : Workspace) (packages : List Declaring) (nodes : List Node) (p : Declaring) (fault : RecordFault) → Contains packages p → RefusesPackage w nodes p fault → RefusesPackages w packages nodes fault
package_refuses w packages nodes p Format among refused = (p, among, refused)
package_refuses w packages nodes p NoResolve among refused = (p, among, refused)
package_refuses w packages nodes p (NoNode a) among refused = absurd (⊎_elim (λ t. t.1) (λ n. n.3.3) refused)
package_refuses w packages nodes p (NoPackage a) among refused = (p, among, refused)
package_refuses w packages nodes p (NoMember a) among refused = (p, among, refused)
package_refuses w packages nodes p (NoDependency a b) among refused = (p, among, refused)
package_refuses w packages nodes p (NoOptional a b) among refused = (p, among, refused)
package_refuses w packages nodes p (Ambiguous a b) among refused = (p, among, refused)
package_refuses w packages nodes p (ForeignFeature a b c) among refused = (p, among, refused)
package_refuses w packages nodes p Memory among refused = tt

-- what was resolved stands, and a package is refused
pub links_refuse : (w : Workspace) (m : Metadata) (nodes : List Node) (fault : RecordFault) → m.nodes ≡ Some nodes → RefusesPackages w m.packages nodes fault → RefusesLinks w m fault
links_refuse w m nodes Format are refused = (nodes, are, refused)
links_refuse w m nodes NoResolve are refused = absurd (⊎_elim (λ t. t.1) (λ n. n.3.3) refused.2)
links_refuse w m nodes (NoNode a) are refused = (nodes, are, refused)
links_refuse w m nodes (NoPackage a) are refused = (nodes, are, refused)
links_refuse w m nodes (NoMember a) are refused = (nodes, are, refused)
links_refuse w m nodes (NoDependency a b) are refused = (nodes, are, refused)
links_refuse w m nodes (NoOptional a b) are refused = (nodes, are, refused)
links_refuse w m nodes (Ambiguous a b) are refused = (nodes, are, refused)
links_refuse w m nodes (ForeignFeature a b c) are refused = (nodes, are, refused)
links_refuse w m nodes Memory are refused = tt

-- what refuses the links refuses the record
pub record_refuses : (m : Metadata) (asked : RequestedMembers) (w : Workspace) (fault : RecordFault) → AreRows m asked w → RefusesLinks w m fault → RefusesRecord m asked fault
record_refuses m asked w Format rows refused = absurd (⊎_elim (λ t. t.1) (λ n. n.3.3) refused.2.2)
record_refuses m asked w NoResolve rows refused = (w, rows, refused)
record_refuses m asked w (NoNode a) rows refused = (w, rows, refused)
record_refuses m asked w (NoPackage a) rows refused = absurd (⊎_elim (λ t. t.1) (λ n. n.3.3) refused.2.2)
record_refuses m asked w (NoMember a) rows refused = absurd (⊎_elim (λ t. t.1) (λ n. n.3.3) refused.2.2)
record_refuses m asked w (NoDependency a b) rows refused = (w, rows, refused)
record_refuses m asked w (NoOptional a b) rows refused = (w, rows, refused)
record_refuses m asked w (Ambiguous a b) rows refused = (w, rows, refused)
record_refuses m asked w (ForeignFeature a b c) rows refused = (w, rows, refused)
record_refuses m asked w Memory rows refused = tt

-- and so does what refuses the members
pub members_refuse : (m : Metadata) (asked : RequestedMembers) (fault : RecordFault) → RefusesMembers m asked fault → RefusesRecord m asked fault
members_refuse m asked Format refused = absurd refused
members_refuse m asked NoResolve refused = absurd refused
members_refuse m asked (NoNode a) refused = absurd refused
members_refuse m asked (NoPackage a) refused = refused
members_refuse m asked (NoMember a) refused = refused
members_refuse m asked (NoDependency a b) refused = absurd refused
members_refuse m asked (NoOptional a b) refused = absurd refused
members_refuse m asked (Ambiguous a b) refused = absurd refused
members_refuse m asked (ForeignFeature a b c) refused = absurd refused
members_refuse m asked Memory refused = tt
