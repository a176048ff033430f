use Rattle.std.proofs.Common.{◌++◌, ◌∙◌, None, Some, Bor, codes, refl, ap, sym, arith}
use Rattle.workspace_record.specs.Records.{Text}
use Rattle.test_select_tests.specs.Partitions.{AsksForPart}
use Rattle.test_select_tests.specs.PartitionView.{partition_view}
use Rattle.test_select_tests.proofs.PartitionReading.{asked_are, asked_around, asks_for, none_read, same_numbers}
use Rattle.test_select_tests.proofs.partition.Partition.from_text.Goals.{else-part-ge1-via-then-part-ge1+else-part-parts, else-part-ge1-via-else-part-ge1}
use Rattle.test_select_tests.proofs.partition.Partition.from_text.Goals as goal

pub returns-in_err-strip_prefix : goal.returns-in_err-strip_prefix
returns-in_err-strip_prefix c = record { reads = λ part parts. none_read partition_view _ (part, parts) (AsksForPart c.args.text.now part parts) c.from_residual.ensures (λ asks. c.in_err-strip_prefix.ensures.cases _ asks.whole) }

pub returns-in_err-part : goal.returns-in_err-part
returns-in_err-part c =
    let found = c.in_ok-strip_prefix.ensures.cases in
    let is = found.1.1 ∙ ap (λ rest. codes "count:" ++ rest) (sym found.2) in
    record { reads = λ part parts. none_read partition_view _ (part, parts) (AsksForPart c.args.text.now part parts) c.from_residual-in_err-part.ensures (λ asks. asked_around c.args.text.now c.in_ok-strip_prefix.field-0.now None is c.in_err-part.ensures.cases part parts asks) }

pub returns-in_err-part-2 : goal.returns-in_err-part-2
returns-in_err-part-2 c =
    let found = c.in_ok-strip_prefix.ensures.cases in
    let is = found.1.1 ∙ ap (λ rest. codes "count:" ++ rest) (sym found.2) in
    record {
      reads = λ part parts. none_read partition_view _ (part, parts) (AsksForPart c.args.text.now part parts) c.from_residual-in_err-part-2.ensures (λ asks.
          let written = asked_around c.args.text.now c.in_ok-strip_prefix.field-0.now (Some (c.in_ok-part.part, c.in_ok-part.parts)) is c.in_ok-part.ensures.cases part parts asks in
          cc ((c.in_err-part-2.ensures part).0 written.0));
    }

pub returns-in_err-parts : goal.returns-in_err-parts
returns-in_err-parts c =
    let found = c.in_ok-strip_prefix.ensures.cases in
    let is = found.1.1 ∙ ap (λ rest. codes "count:" ++ rest) (sym found.2) in
    record {
      reads = λ part parts. none_read partition_view _ (part, parts) (AsksForPart c.args.text.now part parts) c.from_residual-in_err-parts.ensures (λ asks.
          let written = asked_around c.args.text.now c.in_ok-strip_prefix.field-0.now (Some (c.in_ok-part.part, c.in_ok-part.parts)) is c.in_ok-part.ensures.cases part parts asks in
          cc ((c.in_err-parts.ensures parts).0 written.1));
    }

pub returns-then-part-parts : goal.returns-then-part-parts
returns-then-part-parts c =
    let found = c.in_ok-strip_prefix.ensures.cases in
    let is = found.1.1 ∙ ap (λ rest. codes "count:" ++ rest) (sym found.2) in
    let around : Bor Text × Bor Text = (c.in_ok-part.part, c.in_ok-part.parts) in
    let m = c.in_ok-part-2.part in
    let n = c.in_ok-parts.parts in
    record {
      reads = λ part parts. (
        λ asks.
            let are = asked_are c.args.text.now c.in_ok-strip_prefix.field-0.now around is c.in_ok-part.ensures.cases m n (λ number. (c.in_ok-part-2.ensures number).0) (λ number. (c.in_ok-parts.ensures number).0) part parts asks in
            λ i. Some (are.first i, are.second i),
        λ same.
            let numbers = same_numbers m n part parts same in
            let own = asks_for c.args.text.now c.in_ok-strip_prefix.field-0.now around is c.in_ok-part.ensures.cases m n ((c.in_ok-part-2.ensures m).1 refl) ((c.in_ok-parts.ensures n).1 refl) (omega arith) (omega arith) in
            rw (sym numbers.0, sym numbers.1) own,
      );
    }

pub returns-else-part-ge1 : goal.returns-else-part-ge1
returns-else-part-ge1 c =
    let found = c.in_ok-strip_prefix.ensures.cases in
    let is = found.1.1 ∙ ap (λ rest. codes "count:" ++ rest) (sym found.2) in
    let around : Bor Text × Bor Text = (c.in_ok-part.part, c.in_ok-part.parts) in
    let m = c.in_ok-part-2.part in
    let n = c.in_ok-parts.parts in
    record {
      reads = λ part parts. none_read partition_view None (part, parts) (AsksForPart c.args.text.now part parts) refl (λ asks.
          let are = asked_are c.args.text.now c.in_ok-strip_prefix.field-0.now around is c.in_ok-part.ensures.cases m n (λ number. (c.in_ok-part-2.ensures number).0) (λ number. (c.in_ok-parts.ensures number).0) part parts asks in
          elim c.else-part-ge1.branch [ else-part-ge1-via-then-part-ge1+else-part-parts w ↦ omega arith | else-part-ge1-via-else-part-ge1 w ↦ omega arith ]);
    }
