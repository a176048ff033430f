use Rattle.std.proofs.Common.{codes, sym}
use Rattle.guppy_package_parts.proofs.RequestFacts.{asks_branch, asks_tag, asks_rev, asks_default}
use Rattle.guppy_package_parts.proofs.TextParts.{first_split-from_parts, first_split-none}
use Rattle.guppy_package_parts.proofs.external_source.git_request_of.Goals as goal

pub returns-in-Some-clause-read : goal.returns-in-Some-clause-read
returns-in-Some-clause-read c =
    let text = c.args.text.now in
    sym (asks_branch text _ _ (first_split-from_parts (codes "?branch=") text _ _ c.in-Some.ensures.cases).0)

pub returns-in-Some-split_once-clause-read : goal.returns-in-Some-split_once-clause-read
returns-in-Some-split_once-clause-read c =
    let text = c.args.text.now in
    let no_branch = first_split-none (codes "?branch=") text c.in_default.ensures.cases in
    sym (asks_tag text no_branch _ _ (first_split-from_parts (codes "?tag=") text _ _ c.in-Some-split_once.ensures.cases).0)

pub returns-in-Some-split_once-2-clause-read : goal.returns-in-Some-split_once-2-clause-read
returns-in-Some-split_once-2-clause-read c =
    let text = c.args.text.now in
    let no_branch = first_split-none (codes "?branch=") text c.in_default.ensures.cases in
    let no_tag = first_split-none (codes "?tag=") text c.in_default-split_once.ensures.cases in
    sym (asks_rev text no_branch no_tag _ _ (first_split-from_parts (codes "?rev=") text _ _ c.in-Some-split_once-2.ensures.cases).0)

pub returns-clause-read : goal.returns-clause-read
returns-clause-read c =
    let text = c.args.text.now in
    let no_branch = first_split-none (codes "?branch=") text c.in_default.ensures.cases in
    let no_tag = first_split-none (codes "?tag=") text c.in_default-split_once.ensures.cases in
    let no_rev = first_split-none (codes "?rev=") text c.in_default-split_once-2.ensures.cases in
    sym (asks_default text no_branch no_tag no_rev)
