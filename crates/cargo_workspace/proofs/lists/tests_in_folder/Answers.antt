use Rattle.std.proofs.Common.{◌≡◌, ◌∙◌, Err, List, None, Ok, Some, String, Vec, inl, inr, map, option_map, refl, rules, string_bytes, subst, ℕ}
use Rattle.std.specs.Global.{Global}
use Rattle.cargo_files.specs.Listed.{ArePrinted}
use Rattle.cargo_files.specs.declared.refusal.Refusal.TheVariants as refusal
use Rattle.test_select_files.specs.declared.file_source.FileFault.TheVariants as fault
use Rattle.cargo_workspace.proofs.ListFacts.{list_asks, list_memory, list_refused}
use Rattle.cargo_workspace.proofs.ReadingFacts.{asks_one}
use Rattle.cargo_workspace.proofs.lists.tests_in_folder.Goals as goal

pub returns-in_err-tests_printed-in-Ok-Some-clause-reads : goal.returns-in_err-tests_printed-in-Ok-Some-clause-reads
returns-in_err-tests_printed-in-Ok-Some-clause-reads g c =
    let lent : c.deref.result.now ≡ c.in-Ok-Some.bytes.items = search rules in
    list_refused (option_map (λ (v : Vec (String Global) Global). map string_bytes v.items)) c.args.folder.now c.args.id.now c.as_str.result.now c.from_residual-in_err-tests_printed-in-Ok-Some.result c.in_err-tests_printed-in-Ok-Some.field-0.0 c.in-Ok-Some.bytes.items c.deref.result.now c.from_residual-in_err-tests_printed-in-Ok-Some.ensures.1 (c.as_str.ensures.value ∙ c.in_ok-path.ensures.path)
    (rw c.in-Ok-Some.field-0-is at c.in-Ok-Some.ensures.0) lent c.in_err-tests_printed-in-Ok-Some.ensures.refused

pub returns-in-Ok-Some-clause-reads : goal.returns-in-Ok-Some-clause-reads
returns-in-Ok-Some-clause-reads g c =
    let lent : c.deref.result.now ≡ c.in-Ok-Some.bytes.items = search rules in
    let tests = map string_bytes c.in_ok-tests_printed-in-Ok-Some.field-0.items in
    list_asks c.args.folder.now c.args.id.now c.as_str.result.now (Ok (Some c.in-Ok-Some.bytes.items)) (Ok (Some tests)) (c.as_str.ensures.value ∙ c.in_ok-path.ensures.path) (rw c.in-Ok-Some.field-0-is at c.in-Ok-Some.ensures.0)
    (record { file = Some c.in-Ok-Some.bytes.items; only = refl; lists = subst (λ (b : List ℕ). ArePrinted b tests) lent c.in_ok-tests_printed-in-Ok-Some.ensures.listed })

pub returns-in-Ok-None-clause-reads : goal.returns-in-Ok-None-clause-reads
returns-in-Ok-None-clause-reads g c =
    list_asks c.args.folder.now c.args.id.now c.as_str.result.now (Ok None) (Ok None) (c.as_str.ensures.value ∙ c.in_ok-path.ensures.path) (rw c.in-Ok-None.field-0-is at c.in-Ok-None.ensures.0)
    (record { file = None; only = refl; lists = refl })

pub returns-in_err-from_str-in-Err-CannotRead-clause-reads : goal.returns-in_err-from_str-in-Err-CannotRead-clause-reads
returns-in_err-from_str-in-Err-CannotRead-clause-reads g c =
    list_memory (option_map (λ (v : Vec (String Global) Global). map string_bytes v.items)) c.args.folder.now c.args.id.now c.as_str.result.now c.from_residual-in_err-from_str-in-Err-CannotRead.result (Err fault.CannotRead) c.from_residual-in_err-from_str-in-Err-CannotRead.ensures.1 (rw c.in-Err-CannotRead.field-0-is at c.in-Err-CannotRead.ensures.0)

pub returns-in-Err-CannotRead-clause-reads : goal.returns-in-Err-CannotRead-clause-reads
returns-in-Err-CannotRead-clause-reads g c =
    let named = c.in_ok-from_str-in-Err-CannotRead.field-0 in
    list_asks c.args.folder.now c.args.id.now c.as_str.result.now (Err fault.CannotRead) (Err (refusal.UnreadList named)) (c.as_str.ensures.value ∙ c.in_ok-path.ensures.path) (rw c.in-Err-CannotRead.field-0-is at c.in-Err-CannotRead.ensures.0)
    (inr (inl (record { only = refl; named = named; is = refl; names = c.in_ok-from_str-in-Err-CannotRead.ensures.ok })))

pub returns-clause-reads : goal.returns-clause-reads
returns-clause-reads g c =
    asks_one c.as_str.result.now (Err fault.Memory) (rw c.in-Err-Memory.field-0-is at c.in-Err-Memory.ensures.0) (inl refl)
