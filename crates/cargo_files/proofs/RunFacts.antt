-- Runs are passed byte by byte.
use Rattle.std.proofs.Common.{◌≡◌, ℕ, ◌+◌, ◌≤◌, ◌<◌, true, false, cond, List, length, drop, get_or, ◌∙◌, ap, sym, arith, add-one, drop-cons}
use Rattle.std.proofs.lemmas.List.{drop_all}
use Rattle.cargo_files.specs.Bytes.{front, passes, run_end}
use Rattle.cargo_files.specs.declared.bytes.Run.{Run}

from_here : (run : Run) (text : List ℕ) (i : ℕ) → i < length text → front run (drop i text) ≡ cond (passes run (get_or text i 0)) (front run (drop (i + 1) text) + 1) 0
from_here run text i h =
    ap (front run) (drop-cons text i 0 h) ∙ ap (λ k. cond (passes run (get_or text i 0)) (front run (drop k text) + 1) 0) (sym (add-one i))

pub run_goes_on : (run : Run) (text : List ℕ) (i : ℕ) → i < length text → passes run (get_or text i 0) ≡ true → run_end run text i ≡ run_end run text (i + 1)
unfolding run_end
run_goes_on run text i h is =
    let e : front run (drop i text) ≡ front run (drop (i + 1) text) + 1 = from_here run text i h ∙ ap (λ b. cond b (front run (drop (i + 1) text) + 1) 0) is in
    omega arith

pub run_stops : (run : Run) (text : List ℕ) (i : ℕ) → i < length text → passes run (get_or text i 0) ≡ false → run_end run text i ≡ i
unfolding run_end
run_stops run text i h is =
    let e : front run (drop i text) ≡ 0 = from_here run text i h ∙ ap (λ b. cond b (front run (drop (i + 1) text) + 1) 0) is in
    omega arith

pub run_at_end : (run : Run) (text : List ℕ) (i : ℕ) → length text ≤ i → run_end run text i ≡ i
unfolding run_end
run_at_end run text i h =
    let e : front run (drop i text) ≡ 0 = rw (drop_all i text h) in
    omega arith
