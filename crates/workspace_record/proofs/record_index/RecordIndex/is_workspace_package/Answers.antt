use Rattle.std.proofs.Common.{◌∙◌, ◌&&◌, sym, ap}
use Rattle.std.specs.List.{list_any}
use Rattle.std.specs.Str.{bytes_eq}
use Rattle.workspace_record.specs.Records.{Workspace}
use Rattle.workspace_record.specs.Packages.{is_member}
use Rattle.workspace_record.proofs.PackageFacts.{id_found}
use Rattle.workspace_record.proofs.record_index.RecordIndex.is_workspace_package.Goals as goal

pub returns-then-contains_key : goal.returns-then-contains_key
returns-then-contains_key c =
    let found = c.contains_key.ensures ∙ id_found c.self.inside.record.now.packages c.self.inside.packages c.self.invariant.packages_are c.args.id.now ∙ ap (λ (w : Workspace). list_any (λ p. bytes_eq c.args.id.now p.id) w.packages) c.self.view_is in
    record { answer = c.is_member.ensures.answer ∙ ap (λ b. b && is_member c.args.self.now c.args.id.now) (sym c.if-contains_key.true ∙ found) }

pub returns-else-contains_key : goal.returns-else-contains_key
returns-else-contains_key c =
    let found = c.contains_key.ensures ∙ id_found c.self.inside.record.now.packages c.self.inside.packages c.self.invariant.packages_are c.args.id.now ∙ ap (λ (w : Workspace). list_any (λ p. bytes_eq c.args.id.now p.id) w.packages) c.self.view_is in
    record { answer = c.if-contains_key.false ∙ ap (λ b. b && is_member c.args.self.now c.args.id.now) (sym c.if-contains_key.false ∙ found) }
