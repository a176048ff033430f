-- The rows of links, of which one gets a line more.
use Rattle.std.proofs.Common.{◌≡◌, ℕ, zero, suc, ◌<◌, inl, inr, ⊎_elim, List, [], ◌∷◌, ◌++◌, length, get_or, set, map, Contains, Option, refl, sym, subst, ap, ◌∙◌, arith, append-nil}
use Rattle.std.proofs.lemmas.List.{map-append}
use Rattle.std.proofs.lemmas.Grind.{flat_map-append}
use Rattle.list_facts.proofs.Membership.{Contains-append_cases, Contains-append_left, Contains-append_right, Contains-cons_cases, Contains-first, Contains-none}
use Rattle.workspace_record.specs.Records.{Text, Line, Link}
use Rattle.cargo_metadata.specs.Dependencies.{Declared, name_of}
use Rattle.cargo_record.specs.Lines.{IsLink, IsLinkAt, IsOneMore, line_rows, link_of, no_link, row_in, row_of}

module _ {X : Type 0} where
  pub one_of : (x y : X) → Contains (x ∷ []) y → x ≡ y
  one_of x y h = ⊎_elim (λ e. e) (λ none. absurd (Contains-none y none)) (Contains-cons_cases x [] y h)

  one_here : (x y : X) → x ≡ y → Contains (x ∷ []) y
  one_here x y e = subst (λ z. Contains (x ∷ []) z) e (Contains-first x [])

  -- at the end
  pub more_last : (xs : List X) (x : X) → IsOneMore xs x (xs ++ x ∷ [])
  more_last xs x y = (
    λ h. ⊎_elim (λ a. inl a) (λ b. inr (one_of x y b)) (Contains-append_cases xs (x ∷ []) y h),
    λ h. ⊎_elim (λ a. Contains-append_left xs (x ∷ []) y a) (λ e. Contains-append_right xs (x ∷ []) y (one_here x y e)) h,
  )

  -- behind others
  pub more_behind : (front xs new : List X) (x : X) → IsOneMore xs x new → IsOneMore (front ++ xs) x (front ++ new)
  more_behind front xs new x more y = (
    λ h. ⊎_elim (λ a. inl (Contains-append_left front xs y a)) (λ b. ⊎_elim (λ c. inl (Contains-append_right front xs y c)) (λ e. inr e) ((more y).0 b)) (Contains-append_cases front new y h),
    λ h. ⊎_elim (λ a. ⊎_elim (λ f. Contains-append_left front new y f) (λ b. Contains-append_right front new y ((more y).1 (inl b))) (Contains-append_cases front xs y a)) (λ e. Contains-append_right front new y ((more y).1 (inr e))) h,
  )

  -- in front of others
  pub more_before : (xs new back : List X) (x : X) → IsOneMore xs x new → IsOneMore (xs ++ back) x (new ++ back)
  more_before xs new back x more y = (
    λ h. ⊎_elim (λ a. ⊎_elim (λ b. inl (Contains-append_left xs back y b)) (λ e. inr e) ((more y).0 a)) (λ c. inl (Contains-append_right xs back y c)) (Contains-append_cases new back y h),
    λ h. ⊎_elim (λ a. ⊎_elim (λ b. Contains-append_left new back y ((more y).1 (inl b))) (λ c. Contains-append_right new back y c) (Contains-append_cases xs back y a)) (λ e. Contains-append_left new back y ((more y).1 (inr e))) h,
  )

-- a link with a line more
abbrev pub with_line : Link → Line → Link
with_line link line = record link { lines = link.lines ++ line ∷ [] }

rows_with_line : (link : Link) (line : Line) → map (row_in link) (with_line link line).lines ≡ map (row_in link) link.lines ++ row_in link line ∷ []
rows_with_line link line = map-append (row_in link) link.lines (line ∷ [])

-- a line more of the link at a place
pub more_at : (links : List Link) (i : ℕ) (d : Link) (line : Line) → i < length links → IsOneMore (line_rows links) (row_in (get_or links i d) line) (line_rows (set links i (with_line (get_or links i d) line)))
more_at [] i d line h = absurd (omega arith)
more_at (link ∷ links) zero d line h =
    subst (λ rows. IsOneMore (line_rows (link ∷ links)) (row_in link line) (rows ++ line_rows links)) (sym (rows_with_line link line)) (more_before (map (row_in link) link.lines) (map (row_in link) link.lines ++ row_in link line ∷ []) (line_rows links) (row_in link line) (more_last (map (row_in link) link.lines) (row_in link line)))
more_at (link ∷ links) (suc i) d line h =
    more_behind (map (row_in link) link.lines) (line_rows links) (line_rows (set links i (with_line (get_or links i d) line))) (row_in (get_or links i d) line) (more_at links i d line (omega arith))

-- a link more, with one line
pub more_links : (links : List Link) (link : Link) (line : Line) → link.lines ≡ line ∷ [] → IsOneMore (line_rows links) (row_in link line) (line_rows (links ++ link ∷ []))
more_links links link line is =
    let one : line_rows (link ∷ []) ≡ row_in link line ∷ [] = append-nil (map (row_in link) link.lines) ∙ ap (map (row_in link)) is in
    let all : line_rows (links ++ link ∷ []) ≡ line_rows links ++ row_in link line ∷ [] = flat_map-append (λ l. map (row_in l) l.lines) links (link ∷ []) ∙ ap (λ rows. line_rows links ++ rows) one in
    subst (λ rows. IsOneMore (line_rows links) (row_in link line) rows) (sym all) (more_last (line_rows links) (row_in link line))

row_is : (link : Link) (from to : Text) (d : Declared) (line : Line) → IsLink link from to (name_of d) → line ≡ d.line → row_in link line ≡ row_of from to d
row_is link from to d line is same = λ i. record { from = is.0 i; to = is.1 i; name = is.2 i; line = same i }

-- the links with a line more in that at a place
abbrev pub lined : List Link → ℕ → Line → List Link
lined links i line = set links i (with_line (get_or links i no_link) line)

pub lined_is : (links : List Link) (i : ℕ) (f t nm rq : Text) (ls new : List Line) (rg pa : Option Text) (line : Line)
    → record { from = f; to = t; name = nm; requirement = rq; lines = ls; registry = rg; path = pa } ≡ get_or links i no_link
    → new ≡ ls ++ line ∷ []
    → lined links i line ≡ set links i (record { from = f; to = t; name = nm; requirement = rq; lines = new; registry = rg; path = pa })
lined_is links i f t nm rq ls new rg pa line is items =
    ap (set links i) (ap (λ l. with_line l line) (sym is) ∙ ap (λ (x : List Line). record { from = f; to = t; name = nm; requirement = rq; lines = x; registry = rg; path = pa }) (sym items))

-- a line more in the link at a place
pub pushed_in : (links : List Link) (i : ℕ) (from to : Text) (d : Declared) (line : Line) → i < length links → IsLinkAt links i from to (name_of d) → line ≡ d.line → IsOneMore (line_rows links) (row_of from to d) (line_rows (lined links i line))
pushed_in links i from to d line lt at same =
    subst (λ r. IsOneMore (line_rows links) r (line_rows (lined links i line))) (row_is (get_or links i no_link) from to d line at same) (more_at links i no_link line lt)

-- a link more
pub pushed_new : (links : List Link) (from to : Text) (d : Declared) → IsOneMore (line_rows links) (row_of from to d) (line_rows (links ++ link_of from to d [] ∷ []))
pushed_new links from to d = more_links links (link_of from to d []) d.line refl
