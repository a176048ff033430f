use Rattle.std.proofs.Common.{◌≡◌, find, string_bytes, subst}
use Rattle.std.specs.Option.{IfSome}
use Rattle.cargo_files.specs.TableAnswers.{IsRefusal, specs_of}
use Rattle.cargo_files.specs.Refused.{has_spec}
use Rattle.cargo_files.proofs.LinkSpecFacts.{no_answer}
use Rattle.cargo_files.proofs.conversions.table_refusal.Goals as goal

pub returns : goal.returns
returns c = λ refusal.
    let links = c.args.links.now in
    let told = subst (IsRefusal (specs_of links)) c.in-Spec.is refusal in
    no_answer links _ told.0 told.1
    (subst (λ t. IfSome (find (has_spec t) links) (λ l. (string_bytes c.in_ok-owner.owner ≡ l.from) × (string_bytes c.in_ok-owner.dependency ≡ l.name))) c.as_str.ensures.value c.in_ok-owner.ensures)
