-- The links of packages by the names that they give them.
use Rattle.std.specs.Prelude.{◌≡◌, true, Bool, ◌&&◌, List, [], Option, None, Some, map, filter, ◌++◌}
use Rattle.std.specs.Ordering.{on}
use Rattle.std.specs.Cmp.{IsEquivalence}
use Rattle.std.specs.Hash as fed
use Rattle.std.specs.Str.{bytes_eq}
use Rattle.std.proofs.Common.{Global, Vec, ap}
use Rattle.indexmap.specs.IndexMap.{get}
use Rattle.workspace_record.specs.Equality.{equivalence, pair_eq, pairs_decide, text_eq, texts_decide}
use Rattle.workspace_record.specs.Records.{Text, Link}
use Rattle.workspace_record.specs.declared.link_names.LinkName.{LinkName}
use Rattle.workspace_record.specs.declared.link_names.LentLink.{LentLink}
use Rattle.workspace_record.specs.declared.link_names.LinkNames.{LinkNames}

-- the links of the package with this id under a name, in their order
abbrev pub links_named : List Link → Text → Text → List Link
links_named links from name = filter (λ l. bytes_eq from l.from && bytes_eq name l.name) links

-- a package's id and a name
abbrev pub key_view : LinkName → Text × Text
key_view q = (q.from.now, q.name.now)

abbrev pub key_eq : LinkName → LinkName → Bool
key_eq = on key_view (pair_eq text_eq text_eq)

pub keys_equivalence : IsEquivalence key_eq
keys_equivalence =
    let laws = equivalence (pairs_decide texts_decide texts_decide) in
    record {
      refl = λ x. laws.refl (key_view x);
      symm = λ x y. laws.symm (key_view x) (key_view y);
      congr = λ x y z. laws.congr (key_view x) (key_view y) (key_view z);
    }

abbrev pub key_writes : Text × Text → fed.HashWrites
key_writes k = fed.str k.0 ++ fed.str k.1

pub same_key_writes : (a b : LinkName) → key_eq a b ≡ true → key_writes (key_view a) ≡ key_writes (key_view b)
same_key_writes a b h = ap key_writes ((pairs_decide texts_decide texts_decide (key_view a) (key_view b)).0 h)

-- the link that is lent
abbrev pub link_view : LentLink → Link
link_view l = l.row.now

-- the links of a group, if there is one
abbrev pub links_in : Option (Vec LentLink Global) → List Link
links_in None = []
links_in (Some group) = map link_view group.items

-- under each name the links of that name are found, in their order
pub record NamesLinks (links : List Link) (names : LinkNames) : Type 0 where
  pub each : (q : LinkName) → links_in (get key_eq names.groups q) ≡ links_named links q.from.now q.name.now
