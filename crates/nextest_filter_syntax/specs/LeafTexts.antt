-- How leaves are printed.
use Rattle.std.specs.Prelude.{ℕ, List, ◌++◌, codes}
use Rattle.nextest_filter_matchers.specs.Printing.{matcher_text}
use Rattle.nextest_binaries.specs.Platforms.{platform_text}
use Rattle.nextest_filter_tokens.specs.declared.heads.Predicate.{Predicate}
use Rattle.nextest_filter_tokens.specs.declared.heads.Predicate.TheVariants.{Package, Deps, Rdeps, Kind, Binary, BinaryId, Test, Group, Feature}
use Rattle.nextest_filter_syntax.specs.Leaves.{Leaf, Named, Platform, Default, All, None}

abbrev pub predicate_name : Predicate → List ℕ
predicate_name Package = codes "package"
predicate_name Deps = codes "deps"
predicate_name Rdeps = codes "rdeps"
predicate_name Kind = codes "kind"
predicate_name Binary = codes "binary"
predicate_name BinaryId = codes "binary_id"
predicate_name Test = codes "test"
predicate_name Group = codes "group"
predicate_name Feature = codes "feature"

-- how a leaf prints (from nextest's documents)
abbrev pub leaf_text : {S : Type 0} → Leaf S → List ℕ
leaf_text (Named predicate matcher span) = predicate_name predicate ++ (codes "(" ++ (matcher_text matcher ++ codes ")"))
leaf_text (Platform platform span) = codes "platform(" ++ (platform_text platform ++ codes ")")
leaf_text (Default span) = codes "default()"
leaf_text All = codes "all()"
leaf_text None = codes "none()"
