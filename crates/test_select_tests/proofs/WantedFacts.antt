-- Binaries that are wanted.
use Rattle.test_select_tests.specs.Questions.{WantedIn}
use Rattle.test_select_tests.specs.declared.asked_binaries.AskedBinaries.{AskedBinaries}
use Rattle.test_select_tests.specs.declared.asked_binaries.AskedBinaries.TheVariants.{LetThrough, Available}

-- a binary that is let through is wanted
pub wanted_if : {A : Type 0} (asks : AskedBinaries) → A → WantedIn asks A
wanted_if LetThrough h = h
wanted_if Available h = tt

-- what lets more through wants more
pub wanted_in : {A B : Type 0} (asks : AskedBinaries) → (A → B) → WantedIn asks A → WantedIn asks B
wanted_in LetThrough wider h = wider h
wanted_in Available wider h = tt

-- what is not denied of being let through is not denied of being wanted
pub wanted_twice : {A : Type 0} (asks : AskedBinaries) → ((A → ⊥) → ⊥) → (WantedIn asks A → ⊥) → ⊥
wanted_twice LetThrough h = h
wanted_twice Available h = λ k. k tt
