-- Paths of folders below another one.
use Rattle.std.proofs.Common.{◌≡◌, Bool, true, false, cond, ◌++◌, length, take, drop, bytes_eq, refl, sym, ap, ◌∙◌}
use Rattle.std.proofs.Math.Seq.{take-append_seam, drop-append_seam}
use Rattle.std.proofs.lemmas.List.{take-append-drop}
use Rattle.std.proofs.lemmas.Slice.Eq.{bytes_eq-Decides}
use Rattle.workspace_record.specs.Records.{Text}
use Rattle.cargo_record.specs.Members.{below, unslashed}

-- a folder behind the other one
pub below_root : (root rest folder : Text) → folder ≡ root ++ rest → below root folder ≡ unslashed rest
below_root root rest folder is =
    let front : bytes_eq (take (length root) (root ++ rest)) root ≡ true = (bytes_eq-Decides (take (length root) (root ++ rest)) root).1 (take-append_seam root rest) in
    ap (below root) is ∙ ap (λ b. cond b (unslashed (drop (length root) (root ++ rest))) (root ++ rest)) front ∙ ap unslashed (drop-append_seam root rest)

elsewhere : (root folder : Text) (b : Bool) → bytes_eq (take (length root) folder) root ≡ b → ((rest : Text) → folder ≡ root ++ rest → ⊥) → folder ≡ cond b (unslashed (drop (length root) folder)) folder
elsewhere root folder true is none =
    let front : take (length root) folder ≡ root = (bytes_eq-Decides (take (length root) folder) root).0 is in
    absurd (none (drop (length root) folder) (sym (take-append-drop (length root) folder) ∙ ap (λ t. t ++ drop (length root) folder) front))
elsewhere root folder false is none = refl

-- a folder elsewhere
pub not_below : (root folder : Text) → ((rest : Text) → folder ≡ root ++ rest → ⊥) → folder ≡ below root folder
not_below root folder none = elsewhere root folder (bytes_eq (take (length root) folder) root) refl none
