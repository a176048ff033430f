-- The lines of dependencies, one dependency and one package at a time.
use Rattle.std.proofs.Common.{◌≡◌, ℕ, ◌+◌, ◌<◌, ◌≤◌, true, false, inl, inr, ⊎_elim, List, [], ◌∷◌, ◌++◌, length, take, get_or, Contains, refl, sym, subst, ap, ◌∙◌}
use Rattle.std.proofs.lemmas.Bool.{false≢true}
use Rattle.std.proofs.lemmas.List.{take_all, take_more}
use Rattle.std.specs.List.{list_any}
use Rattle.list_facts.proofs.Membership.{Contains-append_cases, Contains-append_left, Contains-append_right, Contains-first, Contains-none}
use Rattle.workspace_record.specs.Records.{Workspace}
use Rattle.cargo_metadata.specs.Dependencies.{Declared}
use Rattle.cargo_metadata.specs.Packages.{Declaring}
use Rattle.cargo_metadata.specs.Resolved.{Node}
use Rattle.cargo_record.specs.Fitting.{IsResolution, fits_to}
use Rattle.cargo_record.specs.Lines.{AreLines, IsLeftOut, IsPushed, IsResolvedLine, IsSeenTo, IsWhole, LineRow, TakesUp, counts, row_of}
use Rattle.cargo_record.proofs.RowFacts.{one_of}
use Rattle.cargo_record.specs.declared.fitting.Resolution.{Resolution}
use Rattle.cargo_record.specs.declared.fitting.Resolution.TheVariants.{Nothing, To, Several}

module _ (w : Workspace) (p : Declaring) (n : Node) where
  -- a dependency that does not count takes up nothing
  pub takes_none : (d : Declared) (rows : List LineRow) → counts w p.row.id d ≡ false → TakesUp w p n (d ∷ []) rows rows
  takes_none d rows off = record { keeps = λ row h. h; sound = λ row h. inl h; whole = λ e h counting. absurd (false≢true (sym off ∙ ap (λ x. counts w p.row.id x) (one_of d e h) ∙ counting)) }

  pub takes_one : (d : Declared) (found : Resolution) (old new : List LineRow) → counts w p.row.id d ≡ true → IsResolution w d n.dependencies found → IsPushed w p.row.id d found old new → TakesUp w p n (d ∷ []) old new
  takes_one d (To id) old new on fits pushed = record {
    keeps = λ row h. (pushed row).1 (inl h);
    sound = λ row h. ⊎_elim (λ a. inl a) (λ e. inr (d, Contains-first d [], record { counts = on; is = sym e ∙ ap (λ r. row_of p.row.id r.to d) e; resolved = subst (λ t. list_any (fits_to w d t) n.dependencies ≡ true) (ap (λ r. r.to) e) fits })) ((pushed row).0 h);
    whole = λ e h counting. inl (id.now, subst (λ x. Contains new (row_of p.row.id id.now x)) (one_of d e h) ((pushed (row_of p.row.id id.now d)).1 (inr refl)));
  }
  takes_one d Nothing old new on fits pushed = record {
    keeps = λ row h. subst (λ rows. Contains rows row) (sym pushed.0) h;
    sound = λ row h. inl (subst (λ rows. Contains rows row) pushed.0 h);
    whole = λ e h counting. inr (subst (λ x. IsLeftOut w p n x) (one_of d e h) (record { optional = pushed.1; foreign = pushed.2; nothing = fits }));
  }
  takes_one d Several old new on fits pushed = absurd pushed

  seen_still : (old new : List LineRow) (d : Declared) → ((row : LineRow) → Contains old row → Contains new row) → IsSeenTo w p n old d → IsSeenTo w p n new d
  seen_still old new d keeps (inl h) = inl (h.0, keeps (row_of p.row.id h.0 d) h.1)
  seen_still old new d keeps (inr h) = inr h

  pub takes_no_dependencies : (rows : List LineRow) → TakesUp w p n [] rows rows
  takes_no_dependencies rows = record {
    keeps = λ row h. h;
    sound = λ row h. inl h;
    whole = λ d h counting. absurd (Contains-none d h);
  }

  pub takes_more : (ds : List Declared) (d : Declared) (old mid new : List LineRow) → TakesUp w p n ds old mid → TakesUp w p n (d ∷ []) mid new → TakesUp w p n (ds ++ d ∷ []) old new
  takes_more ds d old mid new first last = record {
    keeps = λ row h. last.keeps row (first.keeps row h);
    sound = λ row h. ⊎_elim (λ a. ⊎_elim (λ b. inl b) (λ c. inr (c.0, Contains-append_left ds (d ∷ []) c.0 c.1, c.2)) (first.sound row a)) (λ c. inr (c.0, Contains-append_right ds (d ∷ []) c.0 c.1, c.2)) (last.sound row h);
    whole = λ e h counting. ⊎_elim (λ a. seen_still mid new e last.keeps (first.whole e a counting)) (λ b. last.whole e b counting) (Contains-append_cases ds (d ∷ []) e h);
  }

-- one dependency more of a list
pub takes_next : (w : Workspace) (p : Declaring) (n : Node) (ds : List Declared) (i : ℕ) (d : Declared) (old mid new : List LineRow) → i < length ds → TakesUp w p n (take i ds) old mid → TakesUp w p n (get_or ds i d ∷ []) mid new → TakesUp w p n (take (i + 1) ds) old new
takes_next w p n ds i d old mid new lt first last =
    subst (λ xs. TakesUp w p n xs old new) (sym (take_more ds i d lt)) (takes_more w p n (take i ds) (get_or ds i d) old mid new first last)

pub takes_all : (w : Workspace) (p : Declaring) (n : Node) (ds : List Declared) (i : ℕ) (old new : List LineRow) → length ds ≤ i → TakesUp w p n (take i ds) old new → TakesUp w p n ds old new
takes_all w p n ds i old new le taken = subst (λ xs. TakesUp w p n xs old new) (take_all i ds le) taken

module _ (w : Workspace) (nodes : List Node) where
  pub no_lines : AreLines w [] nodes []
  no_lines = record {
    sound = λ row h. absurd (Contains-none row h);
    whole = λ p h. absurd (Contains-none p h);
  }

  later_line : (ps : List Declaring) (p : Declaring) (row : LineRow) → IsResolvedLine w ps nodes row → IsResolvedLine w (ps ++ p ∷ []) nodes row
  later_line ps p row h =
      record { owner = h.owner; node = h.node; declared = h.declared; is_owner = Contains-append_left ps (p ∷ []) h.owner h.is_owner; is_node = h.is_node; same = h.same; is_declared = h.is_declared; line = h.line }

  still_whole : (p : Declaring) (old new : List LineRow) → ((row : LineRow) → Contains old row → Contains new row) → IsWhole w nodes old p → IsWhole w nodes new p
  still_whole p old new keeps h =
      record { node = h.node; is_node = h.is_node; same = h.same; each = λ d in_p on. seen_still w p h.node old new d keeps (h.each d in_p on) }

  pub lines_more : (ps : List Declaring) (p : Declaring) (n : Node) (old new : List LineRow) → AreLines w ps nodes old → TakesUp w p n p.dependencies old new → Contains nodes n → n.id ≡ p.row.id → AreLines w (ps ++ p ∷ []) nodes new
  lines_more ps p n old new lines taken here same = record {
    sound = λ row h. ⊎_elim (λ a. later_line ps p row (lines.sound row a)) (λ c. record { owner = p; node = n; declared = c.0; is_owner = Contains-append_right ps (p ∷ []) p (Contains-first p []); is_node = here; same = same; is_declared = c.1; line = c.2 }) (taken.sound row h);
    whole = λ q h. ⊎_elim (λ a. still_whole q old new taken.keeps (lines.whole q a)) (λ b. subst (λ x. IsWhole w nodes new x) (one_of p q b) (record { node = n; is_node = here; same = same; each = taken.whole })) (Contains-append_cases ps (p ∷ []) q h);
  }

  pub lines_next : (ps : List Declaring) (i : ℕ) (p : Declaring) (n : Node) (old new : List LineRow) → i < length ps → AreLines w (take i ps) nodes old → TakesUp w (get_or ps i p) n (get_or ps i p).dependencies old new → Contains nodes n × (n.id ≡ (get_or ps i p).row.id) → AreLines w (take (i + 1) ps) nodes new
  lines_next ps i p n old new lt lines taken here =
      subst (λ xs. AreLines w xs nodes new) (sym (take_more ps i p lt)) (lines_more (take i ps) (get_or ps i p) n old new lines taken here.0 here.1)

  pub lines_all : (ps : List Declaring) (i : ℕ) (rows : List LineRow) → length ps ≤ i → AreLines w (take i ps) nodes rows → AreLines w ps nodes rows
  lines_all ps i rows le lines = subst (λ xs. AreLines w xs nodes rows) (take_all i ps le) lines

-- the same of an equal record, and of equal rows
pub same_lines : (w v : Workspace) (packages : List Declaring) (nodes : List Node) (rows others : List LineRow) → v ≡ w → others ≡ rows → AreLines w packages nodes rows → AreLines v packages nodes others
same_lines w v packages nodes rows others is same lines =
    subst (λ x. AreLines x packages nodes others) (sym is) (subst (λ x. AreLines w packages nodes x) (sym same) lines)
