use Rattle.std.proofs.Common.{◌∷◌, ap, codes}
use Rattle.guppy_package_parts.proofs.RequestFacts.{git_source-from_parts, git_source-none, parts_joined}
use Rattle.guppy_package_parts.proofs.TextParts.{last_split-from_parts, last_split-none}
use Rattle.guppy_package_parts.proofs.external_source.git_source_of.Goals as goal

pub returns-in-Some-clause-read : goal.returns-in-Some-clause-read
returns-in-Some-clause-read c =
    let parts = last_split-from_parts (codes "#") c.args.text.now _ _ c.in-Some.ensures.cases in
    git_source-from_parts c.args.text.now _ _ _ parts.0 c.git_request_of.ensures.read

pub returns-in-Some-clause-printed : goal.returns-in-Some-clause-printed
returns-in-Some-clause-printed c =
    let parts = last_split-from_parts (codes "#") c.args.text.now _ _ c.in-Some.ensures.cases in
    ap (λ t. 103 ∷ 105 ∷ 116 ∷ 43 ∷ t) (parts_joined c.args.text.now _ _ _ _ parts.1 c.git_request_of.ensures.printed)

pub returns-in-None-clause-read : goal.returns-in-None-clause-read
returns-in-None-clause-read c = git_source-none c.args.text.now (last_split-none (codes "#") c.args.text.now c.in-None.ensures.cases)
