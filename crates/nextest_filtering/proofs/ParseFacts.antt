-- What is answered for a text, by the steps in which it is looked at.
use Rattle.std.proofs.Common.{rules, ◌≡◌, ◌∙◌, ◌↔◌, ◌<◌, ◌==◌, inl, inr, refl, sym, ap, subst, arith, ℕ, Bool, true, false, Option, Some, List, [], ◌∷◌, ◌++◌, length, Vec, Global, String}
use Rattle.std.proofs.lemmas.Bool.Decides.{nat_tests}
use Rattle.std.specs.Str.{IsUtf8}
use Rattle.workspace_record.specs.Records.{Text}
use Rattle.nextest_filter_matchers.specs.declared.source_span.SourceSpan.{SourceSpan}
use Rattle.nextest_filter_tokens.specs.declared.filterset_kind.FiltersetKind.{FiltersetKind}
use Rattle.nextest_filter_tokens.specs.declared.parse_error.ParseSingleError.{ParseSingleError}
use Rattle.nextest_filter_tokens.specs.FaultLists.{AreOver, AreWithin, syntax_faults}
use Rattle.nextest_filter_tokens.proofs.SpanFacts.{all_faults}
use Rattle.nextest_filter_syntax.specs.FiltersAsWritten.{IsExprAsWritten}
use Rattle.nextest_filter_syntax.specs.Trees.{Tree, tree_of}
use Rattle.nextest_filter_syntax.specs.Grammar.{ReadsWhole}
use Rattle.nextest_filter_syntax.specs.Reading.{part_of}
use Rattle.nextest_filter_syntax.specs.Parsing.{AreFaultsOf, AreOfTree, ReadsSome}
use Rattle.nextest_filter_syntax.specs.declared.parsing.ParseExprError.TheVariants as unread
use Rattle.nextest_filter_syntax.specs.declared.parsed_expr.ParsedExpr.{ParsedExpr}
use Rattle.nextest_filter_evaluation.specs.declared.groups.KnownGroups.{KnownGroups}
use Rattle.nextest_filtering.specs.Contexts.{ContextValue}
use Rattle.nextest_filtering.specs.Filters.{filter_of}
use Rattle.nextest_filtering.specs.Acceptance.{AreUnmatched, bans}
use Rattle.nextest_filtering.specs.Refusals.{IsRefused}
use Rattle.nextest_filtering.proofs.AcceptFacts.{banned, unmatched}
use Rattle.nextest_filtering.proofs.SpanFacts.{bans_within, unmatched_within}

pub some_in : (n : ℕ) (b : Bool) → b ≡ (n == 0) → b ≡ false → 0 < n
some_in n b e h = grind (arith, nat_tests)

pub none_in : (n : ℕ) (b : Bool) → b ≡ (n == 0) → b ≡ true → n ≡ 0
none_in n b e h = grind (arith, nat_tests)

pub no_items : {X : Type 0} (xs : List X) (n : ℕ) → n ≡ length xs → n ≡ 0 → xs ≡ []
no_items [] n e z = refl
no_items (x ∷ xs) n e z = absurd (omega (arith, e, z))

pub unread_as : (text lent : Text) (v : Vec ParseSingleError Global) → lent ≡ text → 0 < v.len → AreWithin (length lent) v.items → AreOver lent v.items → AreOfTree lent v.items → (syntax_faults v.items ≡ 0 ↔ ReadsSome lent) → AreFaultsOf text (unread.Faults v)
unread_as text lent v e some within over of_tree reads =
    subst (λ xs. AreFaultsOf xs (unread.Faults v)) e
    (some, within, over, of_tree, reads, λ r. let zero = reads.1 r in let all = all_faults v.items in let size = v.ok.0 in omega (arith, zero, all, size, some))

some_same : {A : Type 0} (d a b : A) → Some a ≡ Some b → a ≡ b
some_same d a b e = search rules

pub read_as : (text lent : Text) (o : Option (ParsedExpr SourceSpan)) (parsed : ParsedExpr SourceSpan) → lent ≡ text → o ≡ Some parsed → (t : Tree SourceSpan) × ReadsWhole lent t × (part_of o ≡ Some t) → ReadsWhole text (tree_of parsed)
read_as text lent o parsed e is (t, whole, part) =
    let same : t ≡ tree_of parsed = some_same t t (tree_of parsed) (sym part ∙ ap part_of is) in
    subst (λ xs. ReadsWhole xs (tree_of parsed)) e (subst (ReadsWhole lent) same whole)

module _ (cx : ContextValue) (groups : KnownGroups) (kind : FiltersetKind) (text : Text) (parsed : ParsedExpr SourceSpan) (reads : ReadsWhole text (tree_of parsed)) (written : IsExprAsWritten parsed) (utf8 : IsUtf8 text) (input : String Global) where
  pub refused_by_bans : (v : Vec ParseSingleError Global) → 0 < v.len → v.items ≡ bans kind (filter_of parsed) → IsRefused cx groups kind text (record { input = input; errors = v })
  refused_by_bans v some e = record {
    parsed = parsed;
    reads = reads;
    as_written = written;
    not_accepted = banned cx groups kind (filter_of parsed) v.items e (subst (λ n. 0 < n) v.ok.0 some);
    some = some;
    within = subst (AreWithin (length text)) (sym e) (bans_within text utf8 parsed reads kind);
    faults = inl e;
  }

  pub refused_by_names : (v : Vec ParseSingleError Global) → 0 < v.len → bans kind (filter_of parsed) ≡ [] → AreUnmatched cx groups (filter_of parsed) v.items → IsRefused cx groups kind text (record { input = input; errors = v })
  refused_by_names v some e u = record {
    parsed = parsed;
    reads = reads;
    as_written = written;
    not_accepted = unmatched cx groups kind (filter_of parsed) v.items u (subst (λ n. 0 < n) v.ok.0 some);
    some = some;
    within = unmatched_within text utf8 parsed reads cx groups v.items u;
    faults = inr (e, u);
  }
