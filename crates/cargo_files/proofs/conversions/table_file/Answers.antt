use Rattle.std.proofs.Common.{◌≡◌, ap, ◌∙◌, subst, sym}
use Rattle.workspace_record.specs.Records.{Workspace}
use Rattle.cargo_files.specs.TableAnswers.{IsRefusal, specs_of}
use Rattle.cargo_files.specs.Refused.{RefusesLinks}
use Rattle.cargo_files.proofs.MadeFacts.{made_table}
use Rattle.cargo_files.proofs.LinkSpecFacts.{refuses_file}
use Rattle.cargo_files.proofs.conversions.table_file.Goals as goal

pub returns-in_ok-text-in-Ok : goal.returns-in_ok-text-in-Ok
returns-in_ok-text-in-Ok c = record {
  made = made_table _ _ _ _ c.in_ok-record.record c.in-Ok.table c.in_ok-record.ensures.reads c.in-Ok.ensures.answers c.in-Ok.ensures.unknown c.in_ok-text-in-Ok.ensures.reads;
  refused = tt;
}

pub returns-in_ok-refusal-in-Err-clause-refused : goal.returns-in_ok-refusal-in-Err-clause-refused
returns-in_ok-refusal-in-Err-clause-refused c =
    let links : c.deref.result.now ≡ c.in_ok-record.record.links = c.deref.ensures.value ∙ ap (λ (w : Workspace). w.links) c.record.view_is in
    refuses_file c.args.record.now c.in_ok-record.record _ c.in_ok-record.ensures.reads
    (subst (λ ls. RefusesLinks ls c.in_ok-refusal-in-Err.field-0) links (c.in_ok-refusal-in-Err.ensures (subst (λ ls. IsRefusal (specs_of ls) c.in-Err.error) (sym links) c.in-Err.ensures.refused)))
