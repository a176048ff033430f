-- Places of ids that are known.
pub use Rattle.list_facts.proofs.Quantifiers.{ends_before}
use Rattle.std.proofs.Common.{◌≡◌, refl, sym, subst, ap, ◌∙◌, ℕ, ◌+◌, ◌<◌, List, [], ◌∷◌, Bool, not, cond, map, length, get_or, All, slice_get, find}
use Rattle.std.proofs.lemmas.List.Folds.{find_at}
use Rattle.std.proofs.lemmas.List.{length-map, get_or-map}
use Rattle.std.proofs.lemmas.List.Elements.{All-map}
use Rattle.std.specs.Cmp.Lexicographic.{bytes_decides}
use Rattle.std.specs.List.{position_or_len}
use Rattle.std.specs.Str.{bytes_eq}
use Rattle.workspace_record.specs.Records.{Text, Package, Link, Member, WorkspaceDetails}
use Rattle.guppy_package_rules.specs.Kept.{IsMemberId, IsPackageId}
use Rattle.guppy_package_table.specs.Tables.{AreKnownEnds, ids_of, place_among}

pub place_known : (packages : List Package) (id : Text) → IsPackageId packages id → place_among (ids_of packages) id < length (ids_of packages)
place_known packages id (k, x, lt, is, e) =
    ends_before (bytes_eq id) (ids_of packages) k [] (subst (λ n. k < n) (sym (length-map packages (λ p. p.id))) lt)
    ((bytes_decides id (get_or (ids_of packages) k [])).1 (sym (get_or-map (λ p. p.id) packages k x [] lt ∙ ap (λ p. p.id) is ∙ e)))

pub ends_known : (packages : List Package) (links : List Link) → All (λ l. IsPackageId packages l.from × IsPackageId packages l.to) links → AreKnownEnds (ids_of packages) links
ends_known packages links known k d lt = let h = known k d lt in (place_known packages _ h.0, place_known packages _ h.1)

at_map : {X Y : Type 0} (p : Y → Bool) (f : X → Y) (xs : List X) → position_or_len p (map f xs) ≡ position_or_len (λ x. p (f x)) xs
at_map p f [] = refl
at_map p f (x ∷ xs) = ap (λ n. cond (not (p (f x))) (1 + n) 0) (at_map p f xs)

-- what stands at the place of the first element that passes is that element
pub found_among : {X Y : Type 0} (p : Y → Bool) (f : X → Y) (xs : List X) → slice_get xs (position_or_len p (map f xs)) ≡ find (λ x. p (f x)) xs
found_among p f xs = ap (slice_get xs) (at_map p f xs) ∙ sym (find_at (λ x. p (f x)) xs)

-- what was read in one of the rows
pub same_read : {X Y Z : Type 0} (f : X → Z) (g : Y → Z) (xs : List X) (ys : List Y) (i : ℕ) (x : X) (y : Y) → map f xs ≡ map g ys → i < length xs → x ≡ get_or xs i x → y ≡ get_or ys i y → f x ≡ g y
same_read f g xs ys i x y same lt isx isy =
    let within : i < length ys = subst (λ n. i < n) (sym (length-map xs f) ∙ ap length same ∙ length-map ys g) lt in
    ap f isx ∙ sym (get_or-map f xs i x (g y) lt) ∙ ap (λ zs. get_or zs i (g y)) same ∙ get_or-map g ys i y (g y) within ∙ ap g (sym isy)

within_packages : (packages : List Package) (id : Text) → IsPackageId packages id → place_among (ids_of packages) id < length packages
within_packages packages id known = subst (λ n. place_among (ids_of packages) id < n) (length-map packages (λ p. p.id)) (place_known packages id known)

pub members_within : (packages : List Package) (members : List Member) → All (λ m. IsPackageId packages m.package_id) members → All (λ v. v < length packages) (map (λ m. place_among (ids_of packages) m.package_id) members)
members_within packages members known =
    All-map (λ v. v < length packages) (λ m. place_among (ids_of packages) m.package_id) members (λ k d lt. within_packages packages _ (known k d lt))

pub defaults_within : (packages : List Package) (workspace : WorkspaceDetails) → All (λ m. IsPackageId packages m.package_id) workspace.members → All (IsMemberId workspace) workspace.default_members → All (λ v. v < length packages) (map (place_among (ids_of packages)) workspace.default_members)
defaults_within packages workspace known defaults =
    All-map (λ v. v < length packages) (place_among (ids_of packages)) workspace.default_members (λ k d lt.
    let m = defaults k d lt in within_packages packages _ (subst (IsPackageId packages) (ap (λ x. x.package_id) m.3 ∙ m.4) (known m.0 m.1 m.2)))
