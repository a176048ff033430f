-- What words mean, one word more at a time.
use Rattle.std.proofs.Common.{◌≡◌, ℕ, ◌+◌, ◌<◌, List, [], ◌∷◌, ◌++◌, length, take, drop, get_or, map, Contains, Bor, ⊎_elim, sym, subst, ap, ◌∙◌, append-nil}
use Rattle.std.proofs.lemmas.List.{append_assoc, map-append, take-append-drop, take_more}
use Rattle.std.proofs.lemmas.Grind.{flat_map-append}
use Rattle.list_facts.proofs.Membership.{Contains-append_cases, Contains-cons_cases, Contains-none}
use Rattle.workspace_record.specs.Records.{Text, Workspace}
use Rattle.cargo_files.specs.Meaning.{AllMean, IsFirstNone, MeansNone, NamesNoMember, Refuses, RefusesFirst, meant, meant_by}
use Rattle.cargo_files.specs.Words.{word_value}
use Rattle.cargo_files.specs.declared.choice_fault.ChoiceFault.{ChoiceFault}
use Rattle.cargo_files.specs.declared.choice_fault.ChoiceFault.TheVariants.{NoFeature, NoMember, Memory}

abbrev bytes : Bor Text → Text
bytes word = word.now

-- what stands past the last word
abbrev pub no_word : Bor Text
no_word = record { ref_ptr = (0, 0); now = [] }

only : (x y : Text) → Contains (x ∷ []) y → x ≡ y
only x y h = ⊎_elim (λ e. e) (λ none. absurd (Contains-none y none)) (Contains-cons_cases x [] y h)

pub words_more : (words : List (Bor Text)) (i : ℕ) (d : Bor Text) → i < length words → map bytes (take (i + 1) words) ≡ map bytes (take i words) ++ (get_or words i d).now ∷ []
words_more words i d lt = ap (map bytes) (take_more words i d lt) ∙ map-append bytes (take i words) (get_or words i d ∷ [])

words_parted : (words : List (Bor Text)) (i : ℕ) (d : Bor Text) → i < length words → map bytes words ≡ map bytes (take i words) ++ (get_or words i d).now ∷ map bytes (drop (i + 1) words)
words_parted words i d lt =
    let after = map bytes (drop (i + 1) words) in
    let before = map bytes (take i words) in
    sym (ap (map bytes) (take-append-drop (i + 1) words)) ∙ map-append bytes (take (i + 1) words) (drop (i + 1) words) ∙ ap (λ t. t ++ after) (words_more words i d lt) ∙ append_assoc before ((get_or words i d).now ∷ []) after

module _ (w : Workspace) where
  pub meant_more : (words : List (Bor Text)) (i : ℕ) (d : Bor Text) → i < length words → meant_by w (map bytes (take (i + 1) words)) ≡ meant_by w (map bytes (take i words)) ++ meant w (word_value (get_or words i d).now)
  meant_more words i d lt =
      let word = (get_or words i d).now in
      let before = map bytes (take i words) in
      ap (meant_by w) (words_more words i d lt) ∙ flat_map-append (λ x. meant w (word_value x)) before (word ∷ []) ∙ ap (λ t. meant_by w before ++ t) (append-nil (meant w (word_value word)))

  all_and_one : (words : List Text) (word : Text) → AllMean w words → (meant w (word_value word) ≡ [] → ⊥) → AllMean w (words ++ word ∷ [])
  all_and_one words word all one x h =
      ⊎_elim (λ a. all x a) (λ b. subst (λ y. meant w (word_value y) ≡ [] → ⊥) (only word x b) one) (Contains-append_cases words (word ∷ []) x h)

  pub all_mean_more : (words : List (Bor Text)) (i : ℕ) (d : Bor Text) → i < length words → AllMean w (map bytes (take i words)) → (meant w (word_value (get_or words i d).now) ≡ [] → ⊥) → AllMean w (map bytes (take (i + 1) words))
  all_mean_more words i d lt all one =
      subst (AllMean w) (sym (words_more words i d lt)) (all_and_one (map bytes (take i words)) (get_or words i d).now all one)

  -- a word that means nothing behind words that mean something is the first that does
  first_at : (words : List (Bor Text)) (i : ℕ) (d : Bor Text) → i < length words → AllMean w (map bytes (take i words)) → MeansNone w (get_or words i d).now → IsFirstNone w (map bytes words) (get_or words i d).now
  first_at words i d lt mean none = record {
    before = map bytes (take i words);
    after = map bytes (drop (i + 1) words);
    parted = words_parted words i d lt;
    mean = mean;
    none = none;
  }

  refuses : (words : List Text) (word : Text) (fault : ChoiceFault) → (MeansNone w word → IsFirstNone w words word) → Refuses w word fault → RefusesFirst w words fault
  refuses words word (NoFeature named near) first h =
      (subst (IsFirstNone w words) (sym h.1.0) (first h.0), subst (λ x. NamesNoMember w (word_value x) → ⊥) (sym h.1.0) h.1.1)
  refuses words word (NoMember named near) first h =
      (subst (IsFirstNone w words) (sym h.1.0) (first h.0), subst (λ x. NamesNoMember w (word_value x)) (sym h.1.0) h.1.1)
  refuses words word Memory first h = tt

  pub refuses_at : (words : List (Bor Text)) (i : ℕ) (d : Bor Text) (fault : ChoiceFault) → i < length words → AllMean w (map bytes (take i words)) → Refuses w (get_or words i d).now fault → RefusesFirst w (map bytes words) fault
  refuses_at words i d fault lt mean h =
      refuses (map bytes words) (get_or words i d).now fault (first_at words i d lt mean) h
