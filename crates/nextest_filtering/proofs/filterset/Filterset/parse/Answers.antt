use Rattle.std.proofs.Common.{◌∙◌, inl, inr, refl, sym, string_bytes}
use Rattle.std.proofs.lemmas.Str.{IsUtf8-string_bytes}
use Rattle.nextest_filtering.specs.Filters.{filter_of}
use Rattle.nextest_filtering.proofs.AcceptFacts.{accepted, group_in_tests}
use Rattle.nextest_filtering.proofs.ParseFacts.{no_items, none_in, read_as, refused_by_bans, refused_by_names, some_in, unread_as}
use Rattle.nextest_filtering.proofs.filterset.Filterset.parse.Goals as goal

pub returns-then-not-is_empty-clause-refused : goal.returns-then-not-is_empty-clause-refused
returns-then-not-is_empty-clause-refused c =
    let read = c.in_ok-tree.ensures in
    rw c.refused.ensures (refl, inl (unread_as (string_bytes c.args.input) _ c.in_ok-tree.faults c.as_str.ensures.value (some_in _ _ c.is_empty.ensures c.if-not-is_empty.true) read.within read.over read.of_tree read.reads))

pub returns-in-None-clause-refused : goal.returns-in-None-clause-refused
returns-in-None-clause-refused c =
    let read = c.in_ok-tree.ensures in
    rw c.refused-in-None.ensures (refl, inl (unread_as (string_bytes c.args.input) _ c.in_ok-tree.faults c.as_str.ensures.value (rw c.in-None.is at read.spoiled) read.within read.over read.of_tree read.reads))

pub returns-then-not-is_empty-2-clause-refused : goal.returns-then-not-is_empty-2-clause-refused
returns-then-not-is_empty-2-clause-refused c =
    let f = filter_of c.in-Some.parsed in
    let reads = read_as (string_bytes c.args.input) _ c.in_ok-tree.tree c.in-Some.parsed c.as_str.ensures.value c.in-Some.is (c.in_ok-tree.ensures.exact.0 (none_in _ _ c.is_empty.ensures c.if-not-is_empty.false)) in
    rw c.refused-then-not-is_empty-2.ensures (refl, inr (refused_by_bans c.args.cx.now c.args.known_groups.now c.args.kind _ c.in-Some.parsed reads (rw c.in-Some.is at c.in_ok-tree.ensures.as_written) (IsUtf8-string_bytes c.args.input) c.args.input c.in_ok-bans.bans (some_in _ _ c.is_empty-2.ensures c.if-not-is_empty-2.true) c.in_ok-bans.ensures))

pub compiled_with_faults-requires : goal.compiled_with_faults-requires
compiled_with_faults-requires c =
    let f = filter_of c.in-Some.parsed in
    let v = c.in_ok-bans.bans in
    record { groups = λ g. c.requires.known (group_in_tests c.args.kind f (sym c.in_ok-bans.ensures ∙ no_items v.items v.len v.ok.0 (none_in _ _ c.is_empty-2.ensures c.if-not-is_empty-2.false)) g) }

pub returns-then-not-is_empty-3-clause-refused : goal.returns-then-not-is_empty-3-clause-refused
returns-then-not-is_empty-3-clause-refused c =
    let f = filter_of c.in-Some.parsed in
    let v = c.in_ok-bans.bans in
    let no_bans = sym c.in_ok-bans.ensures ∙ no_items v.items v.len v.ok.0 (none_in _ _ c.is_empty-2.ensures c.if-not-is_empty-2.false) in
    let reads = read_as (string_bytes c.args.input) _ c.in_ok-tree.tree c.in-Some.parsed c.as_str.ensures.value c.in-Some.is (c.in_ok-tree.ensures.exact.0 (none_in _ _ c.is_empty.ensures c.if-not-is_empty.false)) in
    rw c.refused-then-not-is_empty-3.ensures (refl, inr (refused_by_names c.args.cx.now c.args.known_groups.now c.args.kind _ c.in-Some.parsed reads (rw c.in-Some.is at c.in_ok-tree.ensures.as_written) (IsUtf8-string_bytes c.args.input) c.args.input c.in_ok-compiled.unmatched (some_in _ _ c.is_empty-3.ensures c.if-not-is_empty-3.true) no_bans c.in_ok-compiled.ensures.faults))

pub returns-clause-accepted : goal.returns-clause-accepted
returns-clause-accepted c =
    let f = filter_of c.in-Some.parsed in
    let v = c.in_ok-bans.bans in
    let w = c.in_ok-compiled.unmatched in
    let no_bans = sym c.in_ok-bans.ensures ∙ no_items v.items v.len v.ok.0 (none_in _ _ c.is_empty-2.ensures c.if-not-is_empty-2.false) in
    accepted c.args.cx.now c.args.known_groups.now c.args.kind f _ no_bans c.in_ok-compiled.ensures.faults (no_items w.items w.len w.ok.0 (none_in _ _ c.is_empty-3.ensures c.if-not-is_empty-3.false))

pub returns-clause-reads : goal.returns-clause-reads
returns-clause-reads c =
    read_as (string_bytes c.args.input) _ c.in_ok-tree.tree c.in-Some.parsed c.as_str.ensures.value c.in-Some.is (c.in_ok-tree.ensures.exact.0 (none_in _ _ c.is_empty.ensures c.if-not-is_empty.false))

pub returns-clause-as_written : goal.returns-clause-as_written
returns-clause-as_written c = rw c.in-Some.is at c.in_ok-tree.ensures.as_written

pub returns-clause-compiled : goal.returns-clause-compiled
returns-clause-compiled c = c.in_ok-compiled.ensures.compiled
