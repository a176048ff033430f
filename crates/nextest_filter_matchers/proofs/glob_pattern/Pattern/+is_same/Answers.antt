use Rattle.std.proofs.Common.{◌≡◌, ◌∙◌, true, false, sym, refl}
use Rattle.std.specs.Cmp.Lexicographic.{pointwise}
use Rattle.nextest_filter_matchers.specs.declared.glob_pattern.Pattern.{Sequence, Grouped', Either'}
use Rattle.nextest_filter_matchers.specs.GlobViews.{glob_of}
use Rattle.nextest_filter_matchers.specs.Identities.{glob_eq}
use Rattle.nextest_filter_matchers.specs.Matchers.{same_token}
use Rattle.nextest_filter_matchers.proofs.SequenceFacts.{either_unlike, grouped_unlike, groups_eq, is_either, is_grouped, sequence_unlike, sequences_eq}
use Rattle.nextest_filter_matchers.proofs.glob_pattern.Pattern.+is_same.Goals as goal
use Rattle.nextest_filter_matchers.proofs.glob_pattern.Pattern.+is_same.Goals.{then-eq, else-eq}

pub returns-in-Sequence-Sequence : goal.returns-in-Sequence-Sequence
returns-in-Sequence-Sequence t c =
    rw (c.in-Sequence-Sequence.is-0, c.in-Sequence-Sequence.is-1) (c.eq.ensures ∙ sym (sequences_eq c.in-Sequence-Sequence.tokens.items c.in-Sequence-Sequence.others.items))

pub returns-then-is_same : goal.returns-then-is_same
returns-then-is_same t c =
    let both = c.in-Grouped-Grouped in
    let e = groups_eq both.tokens.items both.others.items both.a.value both.b.value both.c.value both.d.value in
    let last : c.is_same-then-is_same.result ≡ glob_eq (glob_of both.b.value) (glob_of both.d.value) = cc in
    elim c.if-eq.branch [
      | then-eq w ↦
          let tokens : pointwise same_token both.tokens.items both.others.items ≡ true = cc in
          let first : glob_eq (glob_of both.a.value) (glob_of both.c.value) ≡ true = cc in
          rw (both.is-0, both.is-1, e, tokens, first) last
      | else-eq w ↦ cc
    ]

pub returns-else-is_same : goal.returns-else-is_same
returns-else-is_same t c =
    let both = c.in-Grouped-Grouped in
    let e = groups_eq both.tokens.items both.others.items both.a.value both.b.value both.c.value both.d.value in
    elim c.if-eq.branch [
      | then-eq w ↦
          let tokens : pointwise same_token both.tokens.items both.others.items ≡ true = cc in
          let first : glob_eq (glob_of both.a.value) (glob_of both.c.value) ≡ false = cc in
          rw (both.is-0, both.is-1, e, tokens, first) c.if-is_same.false
      | else-eq w ↦
          let tokens : pointwise same_token both.tokens.items both.others.items ≡ false = cc in
          rw (both.is-0, both.is-1, e, tokens) c.if-is_same.false
    ]

pub returns-in_default : goal.returns-in_default
returns-in_default t c = rw c.in_default.is-0 (sym (sequence_unlike c.in_default.field-0-0 c.args.other.now c.in_default.not-Sequence-1))

pub returns-in_default-2 : goal.returns-in_default-2
returns-in_default-2 t c =
    let other : is_grouped c.args.other.now ≡ false = elim c.args.other.now as (λ p. p ≡ c.args.other.now → is_grouped p ≡ false) [
      | Sequence ts ↦ λ _. refl
      | Grouped' ts p a q b ↦ λ e. absurd (c.in_default.not-Grouped-1 ts (record { ptr = p.ptr; alloc = p.alloc; value = a }) (record { ptr = q.ptr; alloc = q.alloc; value = b }) (sym e))
      | Either' p a q b ↦ λ _. refl
    ] refl in
    rw c.in_default.is-0 (sym (grouped_unlike c.in_default.field-0-0 c.in_default.field-1-0.value c.in_default.field-2-0.value c.args.other.now other))

pub returns-in_default-3 : goal.returns-in_default-3
returns-in_default-3 t c =
    let other : is_either c.args.other.now ≡ false = elim c.args.other.now as (λ p. p ≡ c.args.other.now → is_either p ≡ false) [
      | Sequence ts ↦ λ _. refl
      | Grouped' ts p a q b ↦ λ _. refl
      | Either' p a q b ↦ λ e. absurd (c.in_default.not-Either-1 (record { ptr = p.ptr; alloc = p.alloc; value = a }) (record { ptr = q.ptr; alloc = q.alloc; value = b }) (sym e))
    ] refl in
    rw c.in_default.is-0 (sym (either_unlike c.in_default.field-0-0.value c.in_default.field-1-0.value c.args.other.now other))
