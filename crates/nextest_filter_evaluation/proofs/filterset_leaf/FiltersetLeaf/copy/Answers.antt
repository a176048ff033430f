use Rattle.std.proofs.Common.{◌∙◌, sym, ap}
use Rattle.nextest_filter_evaluation.proofs.NameFacts.{same_test}
use Rattle.nextest_filter_evaluation.specs.Compiled.{Kind, Binary, BinaryId, Test, Group, leaf_of}
use Rattle.nextest_filter_evaluation.proofs.filterset_leaf.FiltersetLeaf.copy.Goals as goal

pub returns-in_ok-matcher-in-Kind : goal.returns-in_ok-matcher-in-Kind
returns-in_ok-matcher-in-Kind c =
    record { equal = ap (λ test. Kind test c.in-Kind.span) (same_test _ _ c.in_ok-matcher-in-Kind.ensures.equal c.in_ok-matcher-in-Kind.ensures.pattern) ∙ sym (ap leaf_of c.in-Kind.is) }

pub returns-in_ok-matcher-in-Binary : goal.returns-in_ok-matcher-in-Binary
returns-in_ok-matcher-in-Binary c =
    record { equal = ap (λ test. Binary test c.in-Binary.span) (same_test _ _ c.in_ok-matcher-in-Binary.ensures.equal c.in_ok-matcher-in-Binary.ensures.pattern) ∙ sym (ap leaf_of c.in-Binary.is) }

pub returns-in_ok-matcher-in-BinaryId : goal.returns-in_ok-matcher-in-BinaryId
returns-in_ok-matcher-in-BinaryId c =
    record { equal = ap (λ test. BinaryId test c.in-BinaryId.span) (same_test _ _ c.in_ok-matcher-in-BinaryId.ensures.equal c.in_ok-matcher-in-BinaryId.ensures.pattern) ∙ sym (ap leaf_of c.in-BinaryId.is) }

pub returns-in_ok-matcher-in-Test : goal.returns-in_ok-matcher-in-Test
returns-in_ok-matcher-in-Test c =
    record { equal = ap (λ test. Test test c.in-Test.span) (same_test _ _ c.in_ok-matcher-in-Test.ensures.equal c.in_ok-matcher-in-Test.ensures.pattern) ∙ sym (ap leaf_of c.in-Test.is) }

pub returns-in_ok-matcher-in-Group : goal.returns-in_ok-matcher-in-Group
returns-in_ok-matcher-in-Group c =
    record { equal = ap (λ test. Group test c.in-Group.span) (same_test _ _ c.in_ok-matcher-in-Group.ensures.equal c.in_ok-matcher-in-Group.ensures.pattern) ∙ sym (ap leaf_of c.in-Group.is) }
