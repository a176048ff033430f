use Rattle.std.proofs.Common.{◌++◌, List, codes, string_bytes, subst, ℕ}
use Rattle.clap.specs.Words.{subcommand_rows_of}
use Rattle.list_facts.specs.Writers.{Writes}
use Rattle.cargo_workspace.proofs.RunFacts.{printed_ends, unmade_ends}
use Rattle.cargo_workspace.proofs.program.print_made.Goals as goal

pub returns-in_err-text-clause-ends : goal.returns-in_err-text-clause-ends
returns-in_err-text-clause-ends g c =
    unmade_ends (subcommand_rows_of c.args.matches.now) c.in_err-text.field-0.0 _ _ c.from_residual.ensures.1 c.in_err-text.ensures.makes

pub returns-clause-ends : goal.returns-clause-ends
returns-clause-ends g c =
    let old = g.O.Write.contents c.args.out.now in
    let new = g.O.Write.contents c.print_text.new.out in
    printed_ends (subcommand_rows_of c.args.matches.now) (string_bytes c.in_ok-text.text) c.print_text.result old new c.in_ok-text.ensures.makes
    (subst (λ (t : List ℕ). Writes old new c.print_text.result (t ++ codes "\n")) c.as_str.ensures.value c.print_text.ensures.writes) c.print_text.ensures.fails
