-- Names among texts, and folders of manifests.
use Rattle.std.proofs.Common.{◌≡◌, ◌-◌, ◌||◌, ◌&&◌, not, Bool, true, false, cond, List, [], ◌∷◌, ◌++◌, length, take, drop, String, Global, string_bytes, bytes_eq, codes, refl, sym, ap, ◌∙◌}
use Rattle.std.proofs.lemmas.List.{take-append-drop}
use Rattle.std.proofs.lemmas.Slice.Eq.{bytes_eq-Decides}
use Rattle.std.specs.List.{list_any}
use Rattle.list_facts.specs.Texts.{texts}
use Rattle.workspace_record.specs.Records.{Text}
use Rattle.cargo_metadata.specs.Dependencies.{Declared, name_of}
use Rattle.cargo_metadata.specs.Packages.{is_new_optional}
use Rattle.cargo_metadata.specs.Folders.{ends_as_manifest, folder_of}

pub among_texts : (name : Text) (ss : List (String Global)) → list_any (λ s. bytes_eq name (string_bytes s)) ss ≡ list_any (bytes_eq name) (texts ss)
among_texts name [] = refl
among_texts name (s ∷ ss) = ap (λ b. bytes_eq name (string_bytes s) || b) (among_texts name ss)

stays : (path : Text) (b : Bool) → ends_as_manifest path ≡ b → ((front : Text) → path ≡ front ++ codes "/Cargo.toml" → ⊥) → path ≡ cond b (take (length path - 11) path) path
stays path true is none =
    let back : drop (length path - 11) path ≡ codes "/Cargo.toml" = (bytes_eq-Decides (drop (length path - 11) path) (codes "/Cargo.toml")).0 is in
    absurd (none (take (length path - 11) path) (sym (take-append-drop (length path - 11) path) ∙ ap (λ t. take (length path - 11) path ++ t) back))
stays path false is none = refl

-- a path that ends in no manifest's name is its own folder
pub no_manifest : (path : Text) → ((front : Text) → path ≡ front ++ codes "/Cargo.toml" → ⊥) → path ≡ folder_of path
no_manifest path none = stays path (ends_as_manifest path) refl none

pub new_optional : (seen : List (String Global)) (d : Declared) (among : Bool) (name : Text) → d.line.optional ≡ true → name ≡ name_of d → among ≡ list_any (λ s. bytes_eq name (string_bytes s)) seen → not among ≡ is_new_optional (texts seen) d
new_optional seen d among name on called found =
    let here : among ≡ list_any (bytes_eq (name_of d)) (texts seen) = found ∙ among_texts name seen ∙ ap (λ n. list_any (bytes_eq n) (texts seen)) called in
    ap not here ∙ ap (λ b. b && not (list_any (bytes_eq (name_of d)) (texts seen))) (sym on)
