-- How a run over files of a list ends.
use Rattle.std.proofs.Common.{◌≡◌, ℕ, List, Option, subst}
use Rattle.workspace_record.specs.Records.{Text}
use Rattle.test_select_files.specs.Files.{Answer}
use Rattle.test_select.specs.Running.{EndsProgram}

-- a run over the same words, files and streams ends so too
pub ends_alike : (ws vs : List Text) (R Q : List ℕ → Text → Answer → List ℕ → Type 0) (old out err fresh : Option Text) (s t : List ℕ) (new told : Option Text) (status number : ℕ) → ws ≡ vs → R ≡ Q → old ≡ out → err ≡ fresh → status ≡ number → EndsProgram ws R s t old new err told status → EndsProgram vs Q s t out new fresh told number
ends_alike ws vs R Q old out err fresh s t new told status number words answers before begun same ends =
    subst (λ k. EndsProgram vs Q s t out new fresh told k) same
    (subst (λ e. EndsProgram vs Q s t out new e told status) begun
    (subst (λ o. EndsProgram vs Q s t o new err told status) before
    (subst (λ (A : List ℕ → Text → Answer → List ℕ → Type 0). EndsProgram vs A s t old new err told status) answers
    (subst (λ w. EndsProgram w R s t old new err told status) words ends))))
