-- What `changed` comes to, by what it read, found and wrote.
use Rattle.std.proofs.Common.{◌≡◌, ◌∙◌, ◌↔◌, ◌++◌, ℕ, List, [], ◌∷◌, Bool, IsTrue, refl, ap, ap₂, map, sym, subst, inl, inr, Option, Some, None, Result, Ok, Err, slice_get, take, drop, get_or, length, ◌<◌, ◌≤◌, suc, arith}
use Rattle.std.specs.Prelude.{IsErrAnd, Vec, codes}
use Rattle.std.specs.Borrow.{Bor}
use Rattle.std.specs.Global.{Global}
use Rattle.std.specs.Io.KnownBytes.{Appends}
use Rattle.std.specs.Str.{IsUtf8, chars}
use Rattle.clap.specs.Words.{Row, first_of}
use Rattle.list_facts.specs.Writers.{AddsUpTo}
use Rattle.numbered_graph.specs.declared.direction.Direction.TheVariants as numbered
use Rattle.numbered_graph.specs.Paths.{IsReached, any_link}
use Rattle.numbered_graph.specs.Sets.{has}
use Rattle.workspace_record.specs.Records.{Text, Workspace}
use Rattle.guppy_package_parts.specs.declared.dependency_direction.DependencyDirection.{DependencyDirection}
use Rattle.guppy_package_parts.specs.declared.dependency_direction.DependencyDirection.TheVariants.{Forward}
use Rattle.guppy_package_table.specs.Tables.{TableValue, numbered_links}
use Rattle.guppy_package_graph.specs.Directions.{direction_of}
use Rattle.guppy_package_graph.specs.Queries.{AreInitials, IsQueryOf, QueryValue}
use Rattle.guppy_package_graph.specs.Resolves.{IsReachOf}
use Rattle.guppy_package_graph.specs.SetValues.{SetValue}
use Rattle.guppy_package_graph.specs.Workspaces.{IsMemberPlace}
use Rattle.nextest_filter_matchers.specs.Globs.{Glob}
use Rattle.nextest_filter_laws.specs.Laws.{bare, bare_leaf}
use Rattle.nextest_filter_syntax.specs.LeafTexts.{leaf_text}
use Rattle.nextest_filter_syntax.specs.Leaves.{Leaf, Named, Platform, Default, All, None as NoTests}
use Rattle.nextest_filter_syntax.specs.Trees.{Tree, not_of, union_of, intersection_of, difference_of, parens_of, set_of}
use Rattle.nextest_filter_syntax.specs.TreeTexts.{joined_text, tree_text}
use Rattle.nextest_filter_tokens.specs.Signs.{not_sign, or_sign, and_sign}
use Rattle.test_select_changes.specs.ChangedFilters.{changed_tree}
use Rattle.test_select_changes.specs.Changes.{AreChangedNames, BelongsTo, BelongsToName, Changes, StandsForAll}
use Rattle.test_select_changes.specs.declared.changed.Changed.{Changed}
use Rattle.test_select_changes.specs.declared.changed.Changed.TheVariants as changed
use Rattle.test_select_changes.specs.declared.changed.ChangedError.{ChangedError}
use Rattle.test_select_changes.specs.declared.changed.ChangedError.TheVariants as failed
use Rattle.test_select_checks.specs.Contexts.{IsDeclaredGraph, IsNeeded}
use Rattle.test_select_files.specs.Files.{Answer, SameAnswers}
use Rattle.test_select_files.specs.Reading.{Asks, ReadsBytes, ReadsRecord}
use Rattle.test_select_files.specs.Words.{name_in, values_of, word_or_empty}
use Rattle.test_select_files.specs.declared.run_failure.RunFailure.{RunFailure}
use Rattle.test_select_files.specs.declared.run_failure.RunFailure.TheVariants as run
use Rattle.test_select_files.proofs.ReadingFacts.{asks_such, asks_then}
use Rattle.test_select_checks.specs.Checks.{IsChecked}
use Rattle.test_select_checks.specs.Errors.{select_error_of}
use Rattle.test_select_checks.specs.declared.record_error.RecordError.{RecordError}
use Rattle.test_select_checks.specs.declared.select_error.SelectError.{SelectError}
use Rattle.std.proofs.lemmas.List.{get_or-map, length-map, map-append, take_all}
use Rattle.std.proofs.Math.Seq.{split_at}
use Rattle.std.proofs.lemmas.Option.{get_or_from_slice_get, slice_get_within}
use Rattle.std.specs.Option.{option_copied, unwrap_or}
use Rattle.std.specs.Slice.{IsItemAt}
use Rattle.nextest_filter_matchers.specs.GlobReading.{read_glob}
use Rattle.nextest_filter_matchers.specs.Matchers.{is_glob_read, tokens_of}
use Rattle.nextest_filter_matchers.specs.declared.generic_glob.GenericGlob.{GenericGlob}
use Rattle.nextest_filter_matchers.specs.declared.glob_error.GlobError.{GlobError}
use Rattle.test_select.specs.Changes.{AreAccepted, IsNotBelow, ReadAsGlobs, changed_paths, ComeTo, FindsChanges, GathersPaths, IsNoGlob, PrintsChanged, ReadsChanges, ReadsGlobs, ReadsPaths, RefusesChanges, filter_line}
use Rattle.test_select.specs.declared.changes.ChangedInputs.{ChangedInputs}
use Rattle.test_select.specs.declared.failure.Failure.{Failure}
use Rattle.test_select.specs.declared.failure.Failure.TheVariants.{BadPartition, BadGlob, NotBelow, NotText, Refused, Run}

-- ---- the files

module _ {R : List ℕ → Text → Answer → List ℕ → Type 0} {s t : List ℕ} (words : List Row) (name : Text) (is_name : name ≡ word_or_empty (codes "record") words) where
  -- the record fails
  pub record_fails : (f : RunFailure) (result : Result ChangedInputs RunFailure) → IsErrAnd result (λ y. y ≡ f) → Asks R s t (ReadsRecord name (Err f)) → Asks R s t (ReadsChanges words result)
  record_fails f (Ok x) is asks = absurd is
  record_fails f (Err y) is asks =
      subst (λ (f : RunFailure). Asks R s t (ReadsChanges words (Err f))) (sym is)
      (asks_such asks (λ a h. inl (subst (λ (n : Text). ReadsRecord n (Err f) a) is_name h)))

module _ {R Q : List ℕ → Text → Answer → List ℕ → Type 0} {s m t : List ℕ} (words : List Row) (name : Text) (is_name : name ≡ word_or_empty (codes "record") words) (paths : Option Text) (are_paths : paths ≡ first_of (codes "paths") words) (w : Workspace) where
  -- the record was read, and the file of paths fails
  pub paths_fail : (f : RunFailure) (result : Result ChangedInputs RunFailure) → IsErrAnd result (λ y. y ≡ f) → SameAnswers R Q → Asks R s m (ReadsRecord name (Ok w)) → Asks Q m t (ReadsPaths paths (Err f)) → Asks R s t (ReadsChanges words result)
  paths_fail f (Ok x) is same first next = absurd is
  paths_fail f (Err y) is same first next =
      subst (λ (f : RunFailure). Asks R s t (ReadsChanges words (Err f))) (sym is)
      (asks_then same first next (λ a b h k. inr (record {
        for_record = a;
        for_paths = b;
        in_order = refl;
        workspace = w;
        record_read = subst (λ (n : Text). ReadsRecord n (Ok w) a) is_name h;
        fails = subst (λ (n : Option Text). ReadsPaths n (Err f) b) are_paths k;
      })))

  -- both are read
  pub changes_read : (listed : Vec ℕ Global) → SameAnswers R Q → Asks R s m (ReadsRecord name (Ok w)) → Asks Q m t (ReadsPaths paths (Ok listed.items)) → Asks R s t (ReadsChanges words (Ok (record { workspace = w; listed = listed })))
  changes_read listed same first next =
      asks_then same first next (λ a b h k. record {
        for_record = a;
        for_paths = b;
        in_order = refl;
        record_read = subst (λ (n : Text). ReadsRecord n (Ok w) a) is_name h;
        paths_read = subst (λ (n : Option Text). ReadsPaths n (Ok listed.items) b) are_paths k;
      })

module _ {R : List ℕ → Text → Answer → List ℕ → Type 0} {s t : List ℕ} where
  -- a file of paths that is named is read as any other
  pub paths_named : (may_name : Option (Bor Text)) (name : Bor Text) (result : Result (List ℕ) RunFailure) → may_name ≡ Some name → Asks R s t (ReadsBytes name.now result) → Asks R s t (ReadsPaths (name_in may_name) result)
  paths_named may_name name result is h = subst (λ (o : Option (Bor Text)). Asks R s t (ReadsPaths (name_in o) result)) (sym is) h

module _ {R : List ℕ → Text → Answer → List ℕ → Type 0} {s : List ℕ} where
  -- where none is named, none is asked for
  pub paths_unnamed : (may_name : Option (Bor Text)) (bytes : List ℕ) → may_name ≡ None → bytes ≡ [] → Asks R s s (ReadsPaths (name_in may_name) (Ok bytes))
  paths_unnamed may_name bytes is none =
      subst (λ (o : Option (Bor Text)). Asks R s s (ReadsPaths (name_in o) (Ok bytes))) (sym is)
      (record { asked = []; answered = refl; holds = (none, refl) })

-- ---- the packages that members need

-- what a walk from the members reaches is needed
needed_by : (g : TableValue) (initials : List ℕ) (included : List Bool) → AreInitials (IsMemberPlace g) initials → ((v : ℕ) → IsTrue (has included v) ↔ IsReached numbered.Forward (numbered_links g) any_link initials v) → (v : ℕ) → IsTrue (has included v) ↔ IsNeeded g v
needed_by g initials included are reach v = (
  λ h. let r = (reach v).0 h in record { member = r.start; is_member = (are.each r.start).0 r.among; path = r.leads },
  λ n. (reach v).1 (record { start = n.member; among = (are.each n.member).1 n.is_member; leads = n.path }),
)

belongs_too : (g : TableValue) (P Q : ℕ → Type 0) → ((v : ℕ) → P v ↔ Q v) → (path : Text) (v : ℕ) → BelongsTo g P path v → BelongsTo g Q path v
belongs_too g P Q alike path v belongs = record {
  is_among = (alike v).0 belongs.is_among;
  folder = belongs.folder;
  has = belongs.has;
  lies = belongs.lies;
  longest = λ u other among folder lies. belongs.longest u other ((alike u).1 among) folder lies;
}

named_too : (g : TableValue) (P Q : ℕ → Type 0) → ((v : ℕ) → P v ↔ Q v) → (path name : Text) → BelongsToName g P path name → BelongsToName g Q path name
named_too g P Q alike path name named = record {
  place = named.place;
  belongs = belongs_too g P Q alike path named.place named.belongs;
  row = named.row;
  is_row = named.is_row;
  is_name = named.is_name;
}

other_way : {P Q : ℕ → Type 0} → ((v : ℕ) → P v ↔ Q v) → (v : ℕ) → Q v ↔ P v
other_way alike v = ((alike v).1, (alike v).0)

stands_too : (g : TableValue) (P Q : ℕ → Type 0) → ((v : ℕ) → P v ↔ Q v) → (path : Text) → StandsForAll g P path → StandsForAll g Q path
stands_too g P Q alike path (inl none) = inl (λ v belongs. none v (belongs_too g Q P (other_way alike) path v belongs))
stands_too g P Q alike path (inr named) = inr (named_too g P Q alike path [] named)

names_too : (g : TableValue) (P Q : ℕ → Type 0) → ((v : ℕ) → P v ↔ Q v) → (globs : List Glob) (paths names : List Text) → AreChangedNames g P globs paths names → AreChangedNames g Q globs paths names
names_too g P Q alike globs paths names are = record {
  members = λ name. (
    λ among. let m = (are.members name).0 among in (m.0, m.1, m.2, named_too g P Q alike m.0 name m.3),
    λ m. (are.members name).1 (m.0, m.1, m.2, named_too g Q P (other_way alike) m.0 name m.3),
  );
  ascending = are.ascending;
}

-- changes among packages that are the same
pub changes_alike : (g : TableValue) (P Q : ℕ → Type 0) → ((v : ℕ) → P v ↔ Q v) → (globs : List Glob) (paths : List Text) (result : Result Changed ChangedError) → Changes g P globs paths result → Changes g Q globs paths result
changes_alike g P Q alike globs paths (Ok changed.All) h = (h.0, (h.1.0, h.1.1, h.1.2, stands_too g P Q alike h.1.0 h.1.3))
changes_alike g P Q alike globs paths (Ok (changed.Packages names)) h = (
  h.0,
  λ path among looked stands. h.1 path among looked (stands_too g Q P (other_way alike) path stands),
  names_too g P Q alike globs paths _ h.2,
)
changes_alike g P Q alike globs paths (Err (failed.Path place)) h = h
changes_alike g P Q alike globs paths (Err failed.Memory) h = h

-- those that a walk from the members reaches
pub changes_needed : (g : TableValue) (q : QueryValue) (s : SetValue) (globs : List Glob) (paths : List Text) (result : Result Changed ChangedError) → IsQueryOf g Forward (IsMemberPlace g) q → IsReachOf q s → Changes s.graph (λ v. IsTrue (has s.included v)) globs paths result → Changes g (IsNeeded g) globs paths result
changes_needed g q s globs paths result asked reach h =
    let over : (v : ℕ) → IsTrue (has s.included v) ↔ IsReached (direction_of q.direction) (numbered_links g) any_link q.initials v =
    subst (λ (h : TableValue). (v : ℕ) → IsTrue (has s.included v) ↔ IsReached (direction_of q.direction) (numbered_links h) any_link q.initials v) asked.graph reach.members in
    let forward : (v : ℕ) → IsTrue (has s.included v) ↔ IsReached numbered.Forward (numbered_links g) any_link q.initials v =
    subst (λ (e : DependencyDirection). (v : ℕ) → IsTrue (has s.included v) ↔ IsReached (direction_of e) (numbered_links g) any_link q.initials v) asked.directed over in
    let there : Changes g (λ v. IsTrue (has s.included v)) globs paths result =
    subst (λ (h : TableValue). Changes h (λ v. IsTrue (has s.included v)) globs paths result) (reach.graph ∙ asked.graph) h in
    changes_alike g (λ v. IsTrue (has s.included v)) (IsNeeded g) (needed_by g q.initials s.included asked.initials forward) globs paths result there

-- ---- the filter as it is printed

leaf_printed : {S : Type 0} (l : Leaf S) → leaf_text (bare_leaf l) ≡ leaf_text l
leaf_printed (Named predicate matcher span) = refl
leaf_printed (Platform platform span) = refl
leaf_printed (Default span) = refl
leaf_printed All = refl
leaf_printed NoTests = refl

-- spans are not printed
printed_bare : {S : Type 0} (t : Tree S) → tree_text (bare t) ≡ tree_text t
printed_bare (not_of op x) = ap (λ (l : List ℕ). not_sign op ++ (codes " " ++ l)) (printed_bare x)
printed_bare (union_of op x y) = ap₂ (λ (l r : List ℕ). joined_text l (or_sign op) r) (printed_bare x) (printed_bare y)
printed_bare (intersection_of op x y) = ap₂ (λ (l r : List ℕ). joined_text l (and_sign op) r) (printed_bare x) (printed_bare y)
printed_bare (difference_of x y) = ap₂ (λ (l r : List ℕ). joined_text l (codes "-") r) (printed_bare x) (printed_bare y)
printed_bare (parens_of x) = ap (λ (l : List ℕ). codes "(" ++ (l ++ codes ")")) (printed_bare x)
printed_bare (set_of leaf) = leaf_printed leaf

-- the line of a filter for what changed
pub line_printed : {S : Type 0} (t : Tree S) (changed : Changed) → bare t ≡ changed_tree changed → tree_text t ++ codes "\n" ≡ filter_line changed
line_printed t changed is = ap (λ (l : List ℕ). l ++ codes "\n") (sym (printed_bare t) ∙ ap tree_text is)

-- ---- what is found

module _ (words : List Row) (inputs : ChangedInputs) where
  -- the file of paths is no text
  pub paths_refused : (f : Failure) (result : Result Changed Failure) → IsErrAnd result (λ y. y ≡ f) → GathersPaths words inputs.listed.items (Err f) → FindsChanges words inputs result
  paths_refused f (Ok x) is h = absurd is
  paths_refused f (Err y) is h = subst (λ (g : Failure). FindsChanges words inputs (Err g)) (sym is) (stops f h)
    where
      stops : (f : Failure) → GathersPaths words inputs.listed.items (Err f) → FindsChanges words inputs (Err f)
      stops (NotText name) h = h
      stops (Run run.Memory) h = tt
      stops (Run run.Denied) h = absurd (cc h)
      stops (Run run.CannotWrite) h = absurd (cc h)
      stops (Run (run.CommandLine error)) h = absurd (cc h)
      stops (Run (run.CannotRead name)) h = absurd (cc h)
      stops (Run (run.BadFile name error)) h = absurd (cc h)
      stops (Refused error) h = absurd (cc h)
      stops (BadPartition text) h = absurd (cc h)
      stops (BadGlob text error) h = absurd (cc h)
      stops (NotBelow path) h = absurd (cc h)

  -- a glob is refused
  pub globs_refused : (f : Failure) (result : Result Changed Failure) (texts : List Text) → IsErrAnd result (λ y. y ≡ f) → AreAccepted words inputs → texts ≡ values_of (codes "ignore") words → ReadsGlobs texts (Err f) → FindsChanges words inputs result
  globs_refused f (Ok x) texts is accepted those h = absurd is
  globs_refused f (Err y) texts is accepted those h =
      subst (λ (g : Failure). FindsChanges words inputs (Err g)) (sym is) (stops f (subst (λ (l : List Text). ReadsGlobs l (Err f)) those h))
    where
      stops : (f : Failure) → ReadsGlobs (values_of (codes "ignore") words) (Err f) → FindsChanges words inputs (Err f)
      stops (BadGlob text error) h = (accepted, h)
      stops (Run run.Memory) h = tt
      stops (Run run.Denied) h = absurd (cc h)
      stops (Run run.CannotWrite) h = absurd (cc h)
      stops (Run (run.CommandLine error)) h = absurd (cc h)
      stops (Run (run.CannotRead name)) h = absurd (cc h)
      stops (Run (run.BadFile name error)) h = absurd (cc h)
      stops (Refused error) h = absurd (cc h)
      stops (BadPartition text) h = absurd (cc h)
      stops (NotText name) h = absurd (cc h)
      stops (NotBelow path) h = absurd (cc h)

  -- the record is
  pub record_refused : IsUtf8 inputs.listed.items → (e : RecordError) (told : SelectError) → told ≡ select_error_of e → IsChecked inputs.workspace (Err e) → FindsChanges words inputs (Err (Refused told))
  record_refused text e told is checked = (text, record { refused = e; checked = checked; told = is })

  -- what the paths come to
  pub come_to : (result : Result Changed ChangedError) (globs : List Glob) (paths : List Text) (w : Workspace) → AreAccepted words inputs → ReadAsGlobs (values_of (codes "ignore") words) globs → w ≡ inputs.workspace → paths ≡ changed_paths words inputs.listed.items → (graph : TableValue) × IsDeclaredGraph w graph × Changes graph (IsNeeded graph) globs paths result → ComeTo words inputs result
  come_to result globs paths w accepted are same those h = record {
    accepted = accepted;
    globs = globs;
    are_globs = are;
    graph = h.0;
    declared = subst (λ (v : Workspace). IsDeclaredGraph v h.0) same h.1;
    changes = subst (λ (l : List Text). Changes h.0 (IsNeeded h.0) globs l result) those h.2;
  }

  -- the same of lists as they are lent
  pub come_by : (result : Result Changed ChangedError) (listed : List ℕ) (ignored : List Text) (globs lent_globs : List GenericGlob) (paths lent_paths : List (Bor Text)) (w : Workspace) → listed ≡ inputs.listed.items → IsUtf8 listed × (map (λ path. path.now) paths ≡ changed_paths words listed) → (w ≡ inputs.workspace) × IsChecked inputs.workspace (Ok tt) → ignored ≡ values_of (codes "ignore") words → ReadAsGlobs ignored (map (λ glob. tokens_of glob) globs) → lent_globs ≡ globs → lent_paths ≡ paths → (graph : TableValue) × IsDeclaredGraph w graph × Changes graph (IsNeeded graph) (map (λ glob. tokens_of glob) lent_globs) (map (λ path. path.now) lent_paths) result → ComeTo words inputs result
  come_by result listed ignored globs lent_globs paths lent_paths w same gathered checked words_are read globs_are paths_are h =
      come_to result (map tokens_of lent_globs) (map (λ (p : Bor Text). p.now) lent_paths) w
      (record { text = subst IsUtf8 same gathered.0; checked = checked.1 })
      (subst (λ (l : List Text). ReadAsGlobs l (map tokens_of lent_globs)) words_are (subst (λ (l : List GenericGlob). ReadAsGlobs ignored (map tokens_of l)) (sym globs_are) read))
      checked.0
      (ap (map (λ (p : Bor Text). p.now)) paths_are ∙ gathered.1 ∙ ap (changed_paths words) same)
      h

  -- a path is refused
  pub path_refused : (place : ℕ) (path : Text) → ComeTo words inputs (Err (failed.Path place)) → ((found : Text) → slice_get (changed_paths words inputs.listed.items) place ≡ Some found → path ≡ found) → IsNotBelow words inputs path
  path_refused place path come is = record {
    place = place;
    at = come.changes.1.1 ∙ ap (λ (t : Text). Some t) (sym (is come.changes.1.0 come.changes.1.1));
    first = come;
  }

-- ---- the texts that are globs

map_twice : {X Y Z : Type 0} (f : X → Y) (g : Y → Z) (xs : List X) → map g (map f xs) ≡ map (λ x. g (f x)) xs
map_twice f g [] = refl
map_twice f g (x ∷ xs) = ap (λ (l : List _). g (f x) ∷ l) (map_twice f g xs)

module _ (texts : List (Bor Text)) (i : ℕ) (globs : List GenericGlob) (read : map (λ text. read_glob (chars text.now)) (take i texts) ≡ map (λ glob. Ok (tokens_of glob)) globs) where
  -- the next text is none
  pub no_glob : (d : Bor Text) → i < length texts → (bytes : Text) → bytes ≡ (get_or texts i d).now → (r : Result GenericGlob GlobError) → is_glob_read bytes r → (error : GlobError) → r ≡ Err error → IsNoGlob (map (λ t. t.now) texts) (get_or texts i d).now error
  no_glob d at bytes same r is error failed = record {
    before = map (λ t. t.now) (take i texts);
    after = map (λ t. t.now) (drop (suc i) texts);
    among = ap (map (λ (t : Bor Text). t.now)) (split_at texts i d at) ∙ map-append (λ (t : Bor Text). t.now) (take i texts) (get_or texts i d ∷ drop (suc i) texts);
    globs = map tokens_of globs;
    read_before =
        map_twice (λ (t : Bor Text). t.now) (λ (t : Text). read_glob (chars t)) (take i texts) ∙ read
        ∙ sym (map_twice (λ (g : GenericGlob). tokens_of g) (λ (g : Glob). Ok g) globs);
    refused = subst (λ (b : Text). read_glob (chars b) ≡ Err error) same (subst (λ (q : Result GenericGlob GlobError). is_glob_read bytes q) failed is);
  }

  -- all are
  pub all_globs : length texts ≤ i → ReadAsGlobs (map (λ t. t.now) texts) (map (λ g. tokens_of g) globs)
  all_globs end =
      map_twice (λ (t : Bor Text). t.now) (λ (t : Text). read_glob (chars t)) texts
      ∙ ap (map (λ (t : Bor Text). read_glob (chars t.now))) (sym (take_all i texts end)) ∙ read
      ∙ sym (map_twice (λ (g : GenericGlob). tokens_of g) (λ (g : Glob). Ok g) globs)

-- ---- the path that is told

-- the paths, as they were gathered
pub told_paths : (words : List Row) (paths : List (Bor Text)) (listed of_file : List ℕ) → listed ≡ of_file → IsUtf8 listed × (map (λ path. path.now) paths ≡ changed_paths words listed) → map (λ path. path.now) paths ≡ changed_paths words of_file
told_paths words paths listed of_file same gathered = gathered.1 ∙ ap (changed_paths words) same

-- what is found at the place
pub path_found : (paths : List (Bor Text)) (place : ℕ) (lent : Option (Bor (Bor Text))) (copied : Option (Bor Text)) (otherwise path : Bor Text) → IsItemAt paths place lent → copied ≡ option_copied lent → path ≡ unwrap_or copied otherwise → (found : Text) → slice_get (map (λ p. p.now) paths) place ≡ Some found → path.now ≡ found
path_found paths place lent copied otherwise path item is_copied is found at =
    let read : path ≡ get_or paths place otherwise = is ∙ ap (λ (o : Option (Bor Text)). unwrap_or o otherwise) is_copied ∙ item.4 (omega arith) otherwise in
    let within : place < length paths = subst (λ (n : ℕ). place < n) (length-map paths (λ (p : Bor Text). p.now)) (slice_get_within (map (λ (p : Bor Text). p.now) paths) place found at) in
    ap (λ (p : Bor Text). p.now) read ∙ sym (get_or-map (λ (p : Bor Text). p.now) paths place otherwise found within)
    ∙ get_or_from_slice_get (map (λ (p : Bor Text). p.now) paths) place found found at

-- ---- what is printed

module _ (words : List Row) (inputs : ChangedInputs) where
  -- it is not said what changed, and nothing is printed
  pub refusal_prints : (f : Failure) (result : Result (Unit {0}) Failure) (old : Option Text) → IsErrAnd result (λ y. y ≡ f) → RefusesChanges words inputs f → PrintsChanged words inputs result old old
  refusal_prints f (Ok x) old is h = absurd is
  refusal_prints f (Err y) old is h = subst (λ (g : Failure). PrintsChanged words inputs (Err g) old old) (sym is) (stops f h)
    where
      stops : (f : Failure) → RefusesChanges words inputs f → PrintsChanged words inputs (Err f) old old
      stops (Run run.Memory) h = (h, refl)
      stops (NotText name) h = (h, refl)
      stops (Refused error) h = (h, refl)
      stops (BadGlob text error) h = (h, refl)
      stops (NotBelow path) h = (h, refl)
      stops (Run run.Denied) h = absurd h
      stops (Run run.CannotWrite) h = absurd h
      stops (Run (run.CommandLine error)) h = absurd h
      stops (Run (run.CannotRead name)) h = absurd h
      stops (Run (run.BadFile name error)) h = absurd h
      stops (BadPartition text) h = absurd h

  -- memory ran out before anything was printed
  pub memory_prints : (result : Result (Unit {0}) Failure) (old : Option Text) → IsErrAnd result (λ f. f ≡ Run run.Memory) → PrintsChanged words inputs result old old
  memory_prints result old is = refusal_prints (Run run.Memory) result old is tt

  module _ (changed : Changed) (come : ComeTo words inputs (Ok changed)) (line : Text) (is_line : line ≡ filter_line changed) (old new : Option Text) where
    -- the output takes no more
    pub beginning_prints : (result : Result (Unit {0}) Failure) → IsErrAnd result (λ f. f ≡ Run run.CannotWrite) → (rest : Text) × AddsUpTo old new line rest → PrintsChanged words inputs result old new
    beginning_prints (Ok x) is added = absurd is
    beginning_prints (Err f) is added =
        subst (λ (g : Failure). PrintsChanged words inputs (Err g) old new) (sym is)
        (changed, come, subst (λ (l : Text). (rest : Text) × AddsUpTo old new l rest) is_line added)

    -- the whole line is printed
    pub line_prints : Appends old new line → PrintsChanged words inputs (Ok tt) old new
    line_prints added = (changed, come, subst (λ (l : Text). Appends old new l) is_line added)
