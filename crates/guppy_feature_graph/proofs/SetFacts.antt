-- Sets of features: two lists compared place by place; an answer that is known.
use Rattle.std.proofs.Common.{◌≡◌, ℕ, ◌+◌, ◌<◌, List, [], ◌∷◌, ◌++◌, Result, Ok, IfOk, get_or, length, take, sym, subst, ◌∙◌}
use Rattle.std.proofs.lemmas.List.{take_more}

-- two lists of one length that are the same up to a place, and at it, are the same up to the next
pub same_more : {X : Type 0} (xs ys : List X) → length xs ≡ length ys → (i : ℕ) (d : X) → i < length xs → take i xs ≡ take i ys → get_or xs i d ≡ get_or ys i d → take (i + 1) xs ≡ take (i + 1) ys
same_more xs ys sized i d lt before here = take_more xs i d lt ∙ (λ k. before k ++ here k ∷ []) ∙ sym (take_more ys i d (subst (λ n. i < n) sized lt))

-- an answer passes where the value in it does
pub ok_is : {T E : Type 0} (P : T → Type 0) (x : T) (r : Result T E) → r ≡ Ok x → P x → IfOk r P
ok_is P x r is passes = subst (λ q. IfOk q P) (sym is) passes
