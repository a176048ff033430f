use Rattle.std.proofs.Common.{◌≡◌, Bool, Result, Ok, Err, IsTrue, subst}
use Rattle.numbered_graph.specs.Sets.{has}
use Rattle.workspace_record.specs.Records.{Text}
use Rattle.guppy_package_parts.specs.declared.error.Error.{Error}
use Rattle.guppy_package_graph.specs.Finding.{IsUnknown}
use Rattle.guppy_feature_nodes.specs.Graphs.{FeatureGraphValue}
use Rattle.guppy_feature_views.specs.Labels.{labels_of}
use Rattle.guppy_feature_graph.specs.FeaturesFor.{AnswersPackage, AnswersStarts, IsRowOf}
use Rattle.guppy_feature_graph.specs.Queries.{AreInitials, QueryValue}
use Rattle.guppy_feature_graph.specs.Sets.{SetValue}
use Rattle.guppy_feature_graph.proofs.ListFacts.{starts_with}
use Rattle.guppy_feature_graph.proofs.feature_query.FeatureQuery.starts_from_package.Goals as goal

answers : (q : QueryValue) (s : SetValue) (id : Text) (r : Result Bool Error) → s.graph ≡ q.graph → AreInitials (λ v. IsTrue (has s.included v)) q.initials → AnswersPackage s id r → AnswersStarts q id r
answers q s id (Ok answer) graph initials says = record {
  place = says.place;
  row = says.row;
  is_row = subst (λ (g : FeatureGraphValue). IsRowOf g.rows id says.place says.row) graph says.is_row;
  says = starts_with q s says.row.id (labels_of says.row) answer graph initials.each says.says;
}
answers q s id (Err error) graph initials says = (subst (λ (g : FeatureGraphValue). IsUnknown g.rows id) graph says.0, says.1)

pub returns : goal.returns
returns c = record { answer = answers c.args.self.now c.initials.result.now c.args.package_id.now c.contains_package.result c.initials.ensures.graph c.initials.ensures.initials c.contains_package.ensures.answer }
