-- Writes one after another, where the contents of the writer may be unknown.
use Rattle.std.proofs.Common.{◌≡◌, ℕ, ◌+◌, ◌<◌, List, ◌++◌, length, get_or, take, drop, sym, ◌∙◌, ap, append_assoc, take-append-drop, Option, None, Some, flat_map}
use Rattle.std.specs.Io.KnownBytes.{Appends}
use Rattle.std.proofs.lemmas.List.{drop_more}
use Rattle.std.proofs.lemmas.List.Concat.{flat_map-append}
use Rattle.list_facts.specs.Writers.{AddsUpTo}

pub Appends-trans : (old mid new : Option (List ℕ)) (front more : List ℕ) → Appends old mid front → Appends mid new more → Appends old new (front ++ more)
Appends-trans None mid new front more a b = tt
Appends-trans (Some xs) None new front more a b = absurd a
Appends-trans (Some xs) (Some ys) None front more a b = b
Appends-trans (Some xs) (Some ys) (Some zs) front more a b = b ∙ ap (λ l. l ++ more) a ∙ append_assoc xs front more

-- the first n bytes of what was left are written too
pub more_written : (old mid new : Option (List ℕ)) (text rest left : List ℕ) (n : ℕ) → AddsUpTo old mid text rest → Appends mid new (take n rest) → left ≡ drop n rest → AddsUpTo old new text left
more_written old mid new text rest left n a w e = record {
  front = a.front ++ take n rest;
  whole = a.whole ∙ ap (λ l. a.front ++ l) (sym (take-append-drop n rest)) ∙ sym (append_assoc a.front (take n rest) (drop n rest)) ∙ ap (λ l. (a.front ++ take n rest) ++ l) (sym e);
  added = Appends-trans old mid new a.front (take n rest) a.added w;
}

-- a text that fails part way, after all of another, leaves a beginning of both
pub fails_after : (old mid new : Option (List ℕ)) (front text tail rest : List ℕ) → Appends old mid front → AddsUpTo mid new text rest → AddsUpTo old new (front ++ (text ++ tail)) (rest ++ tail)
fails_after old mid new front text tail rest done a = record {
  front = front ++ a.front;
  whole = ap (λ l. front ++ (l ++ tail)) a.whole ∙ ap (λ l. front ++ l) (append_assoc a.front rest tail) ∙ sym (append_assoc front a.front (rest ++ tail));
  added = Appends-trans old mid new front a.front done a.added;
}

module _ {X : Type 0} (f : X → List ℕ) where
  -- the whole text, cut before and after the piece at i
  pub cut_at : (xs : List X) (i : ℕ) (d : X) → i < length xs → flat_map f xs ≡ flat_map f (take i xs) ++ (f (get_or xs i d) ++ flat_map f (drop (i + 1) xs))
  cut_at xs i d lt =
      ap (flat_map f) (sym (take-append-drop i xs)) ∙ flat_map-append f (take i xs) (drop i xs) ∙ ap (λ l. flat_map f (take i xs) ++ flat_map f l) (drop_more xs i d lt)

  -- the piece at i fails part way, after all pieces before it
  pub fails_at : (xs : List X) (i : ℕ) (d : X) → i < length xs → (old mid new : Option (List ℕ)) → Appends old mid (flat_map f (take i xs)) → (rest : List ℕ) × AddsUpTo mid new (f (get_or xs i d)) rest → (rest : List ℕ) × AddsUpTo old new (flat_map f xs) rest
  fails_at xs i d lt old mid new done fault =
      let tail = flat_map f (drop (i + 1) xs) in
      (fault.0 ++ tail, rw (cut_at xs i d lt) (fails_after old mid new (flat_map f (take i xs)) (f (get_or xs i d)) tail fault.0 done fault.1))
