-- What compiled filters of a record say, and what the filters say that they are made of.
use Rattle.std.proofs.Common.{◌↔◌, refl, sym, Bool, Option, Some, None}
use Rattle.workspace_record.specs.Records.{Text, Workspace}
use Rattle.nextest_filter_tokens.specs.declared.heads.Predicate.TheVariants as names
use Rattle.nextest_filter_evaluation.specs.NameTests.{NameTest}
use Rattle.nextest_binaries.specs.Queries as asked
use Rattle.nextest_filter_evaluation.specs.Compiled.{Leaf}
use Rattle.nextest_filter_evaluation.specs.Formulas.{Formula, leaf, Holds, SomeAnswersGive}
use Rattle.nextest_filter_evaluation.specs.Meaning.{DefaultHolds, DefaultGives, MayBe, Passes}
use Rattle.nextest_filter_evaluation.proofs.FormulaFacts.{each_of, gives_alike, holds_alike}
use Rattle.nextest_filter_evaluation.proofs.MeaningFacts.{iff_trans}
use Rattle.nextest_filtering.specs.Compiling.{IsCompiled}
use Rattle.nextest_filtering.specs.Contexts.{ContextValue}
use Rattle.nextest_filtering.specs.Filters.{FilterLeaf, Named, Platform, Default, All}
use Rattle.nextest_filtering.specs.Filters as filter
use Rattle.nextest_filtering.specs.Meaning.{FilterLeafHolds, FilterLeafGives}
use Rattle.nextest_filtering.proofs.SameFacts.{compiled_gives, compiled_holds}
use Rattle.test_select_checks.specs.Groups.{IsGroupMember, IsGroupOf}
use Rattle.test_select_checks.specs.Meaning.{DefaultGivesIn, DefaultHoldsIn, GroupHoldsIn, HoldsIn, IsInGroup}
use Rattle.test_select_checks.specs.RecordFilters.{AreCompiledOf, AreMadeOf, AreReadingsOf, CompiledFilters, FilterReadings, IsCompiledDefault, IsCompiledGroup, IsReadDefault, IsReadGroup, StandsFor}
use Rattle.test_select_checks.proofs.AlikeFacts.{alike_between}
use Rattle.test_select_checks.proofs.GroupFacts.{groups_alike}

same : (P : Type 0) → P ↔ P
same P = (λ p. p, λ p. p)

module _ (cx : ContextValue) where
  -- leaves say the same where the same is said of groups and of the default filter
  module _ (member other : NameTest → Type 0) (default another : Type 0) (t : asked.Test) (members : (m : NameTest) → member m ↔ other m) (defaults : default ↔ another) where
    leaf_alike : (l : FilterLeaf) → FilterLeafHolds cx member default t l ↔ FilterLeafHolds cx other another t l
    leaf_alike (Named names.Package test span) = same _
    leaf_alike (Named names.Deps test span) = same _
    leaf_alike (Named names.Rdeps test span) = same _
    leaf_alike (Named names.Kind test span) = same _
    leaf_alike (Named names.Binary test span) = same _
    leaf_alike (Named names.BinaryId test span) = same _
    leaf_alike (Named names.Test test span) = same _
    leaf_alike (Named names.Group test span) = members test
    leaf_alike (Named names.Feature test span) = same _
    leaf_alike (Platform platform span) = same _
    leaf_alike (Default span) = defaults
    leaf_alike All = same _
    leaf_alike filter.None = same _

    filter_alike : (f : Formula FilterLeaf) → Holds (FilterLeafHolds cx member default t) f ↔ Holds (FilterLeafHolds cx other another t) f
    filter_alike f = holds_alike _ _ f (each_of _ f leaf_alike)

  module _ (default another : Bool → Type 0) (b : asked.Binary) (defaults : (v : Bool) → default v ↔ another v) where
    leaf_gives_alike : (l : FilterLeaf) (v : Bool) → FilterLeafGives cx default b l v ↔ FilterLeafGives cx another b l v
    leaf_gives_alike (Named names.Package test span) v = same _
    leaf_gives_alike (Named names.Deps test span) v = same _
    leaf_gives_alike (Named names.Rdeps test span) v = same _
    leaf_gives_alike (Named names.Kind test span) v = same _
    leaf_gives_alike (Named names.Binary test span) v = same _
    leaf_gives_alike (Named names.BinaryId test span) v = same _
    leaf_gives_alike (Named names.Test test span) v = same _
    leaf_gives_alike (Named names.Group test span) v = same _
    leaf_gives_alike (Named names.Feature test span) v = same _
    leaf_gives_alike (Platform platform span) v = same _
    leaf_gives_alike (Default span) v = defaults v
    leaf_gives_alike All v = same _
    leaf_gives_alike filter.None v = same _

    filter_gives_alike : (f : Formula FilterLeaf) (v : Bool) → SomeAnswersGive (FilterLeafGives cx default b) f v ↔ SomeAnswersGive (FilterLeafGives cx another b) f v
    filter_gives_alike f = gives_alike _ _ f (each_of _ f leaf_gives_alike)

  module _ (r : FilterReadings) (c : CompiledFilters) (made : AreMadeOf cx r c) where
    module _ (t : asked.Test) where
      pub default_holds_iff : DefaultHolds c.default t ↔ DefaultHoldsIn cx r t
      default_holds_iff = compiled_holds cx (λ _. ⊥) ⊥ t r.default c.default made.default

      group_holds_iff : (f : Formula FilterLeaf) (d : Formula Leaf) → IsCompiled cx f d → Passes c.default (λ _. ⊥) t d ↔ GroupHoldsIn cx r t f
      group_holds_iff f d h =
          iff_trans (compiled_holds cx (λ _. ⊥) (DefaultHolds c.default t) t f d h) (filter_alike (λ _. ⊥) (λ _. ⊥) (DefaultHolds c.default t) (DefaultHoldsIn cx r t) t (λ m. same ⊥) default_holds_iff f)

      is_group_iff : (name : Text) → IsGroupOf (GroupHoldsIn cx r t) r.groups name ↔ IsGroupOf (Passes c.default (λ _. ⊥) t) c.groups name
      is_group_iff name =
          groups_alike (StandsFor cx) (GroupHoldsIn cx r t) (Passes c.default (λ _. ⊥) t) (λ f g s. sym s.name) (λ f g s. let h = group_holds_iff f.1 g.1 s.compiled in (h.1, h.0)) r.groups c.groups name made.groups

      pub member_iff : (m : NameTest) → IsGroupMember c t m ↔ IsInGroup cx r t m
      member_iff m = (
        λ h. record { name = h.0; is_its = (is_group_iff h.0).1 h.1; suits = h.2 },
        λ h. (h.name, (is_group_iff h.name).0 h.is_its, h.suits),
      )

      -- a compiled filter holds of a test exactly if the filter does
      pub holds_iff : (f : Formula FilterLeaf) (d : Formula Leaf) → IsCompiled cx f d → Passes c.default (IsGroupMember c t) t d ↔ HoldsIn cx r t f
      holds_iff f d h =
          iff_trans (compiled_holds cx (IsGroupMember c t) (DefaultHolds c.default t) t f d h) (filter_alike (IsGroupMember c t) (IsInGroup cx r t) (DefaultHolds c.default t) (DefaultHoldsIn cx r t) t member_iff default_holds_iff f)

    module _ (b : asked.Binary) where
      pub default_gives_iff : (v : Bool) → DefaultGives c.default b v ↔ DefaultGivesIn cx r b v
      default_gives_iff v = compiled_gives cx (λ _. Unit {0}) b r.default c.default made.default v

      -- and may take the values that the filter may take
      pub gives_iff : (f : Formula FilterLeaf) (d : Formula Leaf) → IsCompiled cx f d → (v : Bool) → SomeAnswersGive (MayBe c.default b) d v ↔ SomeAnswersGive (FilterLeafGives cx (DefaultGivesIn cx r b) b) f v
      gives_iff f d h v =
          iff_trans (compiled_gives cx (DefaultGives c.default b) b f d h v) (filter_gives_alike (DefaultGives c.default b) (DefaultGivesIn cx r b) b default_gives_iff f v)

  -- compiled filters of a record are made of what its texts read as
  read_default : (text : Option Text) (c : Formula Leaf) → IsCompiledDefault cx text c → (f : Formula FilterLeaf) × IsReadDefault text f × IsCompiled cx f c
  read_default (Some text) c h = (h.filter, h.accepted.of_text, h.compiled)
  read_default None c h = (leaf filter.All, refl, rw h refl)

  pub readings_of : (w : Workspace) (c : CompiledFilters) → AreCompiledOf cx w c → (r : FilterReadings) × AreReadingsOf w r × AreMadeOf cx r c
  readings_of w c h =
      let groups = alike_between (IsCompiledGroup cx) IsReadGroup (StandsFor cx) (λ g d s. ((g.name, s.compiled.filter), record { name = refl; reads = s.compiled.accepted.of_text }, record { name = s.name; compiled = s.compiled.compiled })) w.groups c.groups h.groups in
      let default = read_default w.default_filter c.default h.default in
      (record { groups = groups.0; default = default.0 }, record { groups = groups.1; default = default.1 }, record { groups = groups.2; default = default.2 })
