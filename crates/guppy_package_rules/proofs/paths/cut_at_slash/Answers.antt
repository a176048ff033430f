use Rattle.std.proofs.Common.{Some, None, arith}
use Rattle.std.proofs.lemmas.Str.Pattern.{split_once_first}
use Rattle.guppy_package_rules.proofs.PathFacts.{parts-cut, parts-whole}
use Rattle.guppy_package_rules.proofs.paths.cut_at_slash.Goals as goal

pub returns-in-Some-clause-parts : goal.returns-in-Some-clause-parts
returns-in-Some-clause-parts c =
    let cut = split_once_first 47 c.args.path.now (Some (c.in-Some.first, c.in-Some.after)) c.in-Some.ensures.cases (omega arith) in
    rw (cut.1, cut.2) (parts-cut c.args.path.now cut.0)

pub returns-in-None-clause-parts : goal.returns-in-None-clause-parts
returns-in-None-clause-parts c =
    parts-whole c.args.path.now (split_once_first 47 c.args.path.now None c.in-None.ensures.cases (omega arith))
