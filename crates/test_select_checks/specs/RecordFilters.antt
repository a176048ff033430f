-- The filters of a record: those of its groups, and the default filter. None of them may name groups, so that nothing is known of groups where they are read.
use Rattle.std.specs.Prelude.{◌≡◌, ◌⊎◌, ℕ, List, All, Option, Some, None, length, take, slice_get}
use Rattle.std.specs.Prelude.{Vec}
use Rattle.std.specs.Global.{Global}
use Rattle.workspace_record.specs.Records.{Text, Group, Workspace}
use Rattle.nextest_filter_tokens.specs.declared.filterset_kind.FiltersetKind.TheVariants.{OverrideFilter, DefaultFilter}
use Rattle.nextest_filter_tokens.specs.declared.parse_error.ParseSingleError.{ParseSingleError}
use Rattle.nextest_filter_evaluation.specs.declared.groups.KnownGroups.TheVariants.{Unavailable}
use Rattle.nextest_filter_evaluation.specs.Compiled as compiled
use Rattle.nextest_filter_evaluation.specs.Compiled.{Leaf}
use Rattle.nextest_filter_evaluation.specs.Formulas.{Formula, leaf}
use Rattle.nextest_filtering.specs.Compiling.{IsCompiled}
use Rattle.nextest_filtering.specs.Contexts.{ContextValue}
use Rattle.nextest_filtering.specs.Filters.{FilterLeaf}
use Rattle.nextest_filtering.specs.Filters as filter
use Rattle.test_select_checks.specs.Alike.{AreAlike}
use Rattle.test_select_checks.specs.Contexts.{HasNamesOf}
use Rattle.test_select_checks.specs.FilterTexts.{IsFilterOf, IsAcceptedText, IsRefusedText, IsCompiledText}

-- what the filters of a record read as: each group's name with its filter, and the default filter
pub record FilterReadings : Type 0 where
  pub groups : List (Text × Formula FilterLeaf)
  pub default : Formula FilterLeaf

-- the name of the group, with what its filter reads as
pub record IsReadGroup (g : Group) (r : Text × Formula FilterLeaf) : Type 0 where
  pub name : r.0 ≡ g.name
  pub reads : IsFilterOf g.filter r.1

-- what the default filter reads as; where there is none it holds of all tests
abbrev pub IsReadDefault : Option Text → Formula FilterLeaf → Type 0
IsReadDefault (Some text) f = IsFilterOf text f
IsReadDefault None f = f ≡ leaf filter.All

pub record AreReadingsOf (w : Workspace) (r : FilterReadings) : Type 0 where
  pub groups : AreAlike IsReadGroup w.groups r.groups
  pub default : IsReadDefault w.default_filter r.default

module _ (cx : ContextValue) where
  -- the filter of the group is accepted
  abbrev pub HasAcceptedFilter : Group → Type 0
  HasAcceptedFilter g = IsAcceptedText cx Unavailable OverrideFilter g.filter

  -- the default filter is accepted, if there is one
  abbrev pub IsAcceptedDefault : Option Text → Type 0
  IsAcceptedDefault (Some text) = IsAcceptedText cx Unavailable DefaultFilter text
  IsAcceptedDefault None = Unit {0}

  -- the default filter is refused for these faults
  abbrev pub IsRefusedDefault : Option Text → Vec ParseSingleError Global → Type 0
  IsRefusedDefault (Some text) faults = IsRefusedText cx Unavailable DefaultFilter text faults
  IsRefusedDefault None faults = ⊥

  -- each filter of the record is accepted
  pub record AreAccepted (w : Workspace) : Type 0 where
    pub groups : All HasAcceptedFilter w.groups
    pub default : IsAcceptedDefault w.default_filter

  -- the group at the place is the first whose filter is refused, for these faults
  pub record RefusesGroup (groups : List Group) (place : ℕ) (faults : Vec ParseSingleError Global) : Type 0 where
    pub before : All HasAcceptedFilter (take place groups)
    pub group : Group
    pub at : slice_get groups place ≡ Some group
    pub refused : IsRefusedText cx Unavailable OverrideFilter group.filter faults

  -- the default filter is refused, at the place behind the groups, whose filters are accepted
  pub record RefusesDefault (w : Workspace) (place : ℕ) (faults : Vec ParseSingleError Global) : Type 0 where
    pub groups : All HasAcceptedFilter w.groups
    pub at : place ≡ length w.groups
    pub refused : IsRefusedDefault w.default_filter faults

-- the filters of the record are accepted (from nextest's test groups and default filter)
abbrev pub HasAcceptedFilters : Workspace → Type 0
HasAcceptedFilters w = (cx : ContextValue) × HasNamesOf w cx × AreAccepted cx w

-- the filter at the place is the first that is refused, for these faults: of a group, or behind all groups the default filter
-- (from nextest's test groups and default filter)
abbrev pub RefusesFilter : Workspace → ℕ → Vec ParseSingleError Global → Type 0
RefusesFilter w place faults = (cx : ContextValue) × HasNamesOf w cx × (RefusesGroup cx w.groups place faults ⊎ RefusesDefault cx w place faults)

-- what is seen of compiled filters of a record: each group's name with its filter, and the default filter
pub record CompiledFilters : Type 0 where
  pub groups : List (Text × Formula Leaf)
  pub default : Formula Leaf

module _ (cx : ContextValue) where
  -- the name of the group, with its filter compiled
  pub record IsCompiledGroup (g : Group) (c : Text × Formula Leaf) : Type 0 where
    pub name : c.0 ≡ g.name
    pub compiled : IsCompiledText cx Unavailable OverrideFilter g.filter c.1

  -- the default filter, compiled
  abbrev pub IsCompiledDefault : Option Text → Formula Leaf → Type 0
  IsCompiledDefault (Some text) c = IsCompiledText cx Unavailable DefaultFilter text c
  IsCompiledDefault None c = c ≡ leaf compiled.All

  -- the groups and the default filter of the record, compiled
  pub record AreCompiledOf (w : Workspace) (filters : CompiledFilters) : Type 0 where
    pub groups : AreAlike IsCompiledGroup w.groups filters.groups
    pub default : IsCompiledDefault w.default_filter filters.default

  -- the compiled group has the name and the filter of what was read
  pub record StandsFor (r : Text × Formula FilterLeaf) (c : Text × Formula Leaf) : Type 0 where
    pub name : c.0 ≡ r.0
    pub compiled : IsCompiled cx r.1 c.1

  -- the compiled filters are made of what was read
  pub record AreMadeOf (r : FilterReadings) (c : CompiledFilters) : Type 0 where
    pub groups : AreAlike StandsFor r.groups c.groups
    pub default : IsCompiled cx r.default c.default
