use Rattle.std.proofs.Common.{◌≡◌, Global, String, bytes_eq, rules, string_bytes, tests, true}
use Rattle.std.proofs.lemmas.Iterator.{YieldsList-from_slice}
use Rattle.std.proofs.lemmas.Iterator.Search.{any_from_yields_List}
use Rattle.cargo_metadata.proofs.Names.{new_optional}
use Rattle.cargo_metadata.proofs.package.is_new_optional.Goals as goal

pub returns-then-dependency : goal.returns-then-dependency
returns-then-dependency c =
    let on : c.args.dependency.now.line.optional ≡ true = search rules in
    new_optional c.args.seen.now c.args.dependency.now c.any.result c.name-name.result.now on c.name-name.ensures (any_from_yields_List (λ (s : String Global). bytes_eq c.name-name.result.now (string_bytes s)) _ _ c.any.result c.any.ensures.ran (YieldsList-from_slice c.args.seen.now cc) (λ x b q k. search (rules, tests)))
