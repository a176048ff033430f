-- Settings that are printed, from a line on.
use Rattle.std.proofs.Common.{◌≡◌, ℕ, ◌+◌, ◌<◌, ◌≤◌, List, [], ◌∷◌, ◌++◌, length, slice_range, option_map, Some, None, nat_eq, true, refl, sym, subst, ap, ◌∙◌, arith, append_assoc, append-nil}
use Rattle.std.specs.Str.{IsUtf8}
use Rattle.cargo_files.specs.Bytes.{run_end}
use Rattle.cargo_files.specs.Heads.{head_at}
use Rattle.cargo_files.specs.Settings.{Setting}
use Rattle.cargo_files.specs.Printed.{AreSettings, BeginsLine, HasNoText, RefusesLine, RefusesSettings, RefusesText, ended, line_at, lines, next, setting_in, settings_in}
use Rattle.cargo_files.specs.declared.bytes.Run.TheVariants as run
use Rattle.cargo_files.specs.declared.head.Head.TheVariants.{Name, Pair}
use Rattle.cargo_files.specs.declared.settings.SettingsError.{SettingsError}
use Rattle.cargo_files.specs.declared.settings.SettingsError.TheVariants.{Line, NotText, Memory}

-- a line, and the settings of those behind it
pub record FirstLine (text : List ℕ) (i : ℕ) (all : List Setting) : Type 0 where
  pub line : List Setting
  pub others : List Setting
  pub is : settings_in (slice_range text i (run_end run.Line text i)) ≡ Some line
  pub more : AreSettings text (run_end run.Line text i + 1) others

pub first_line : (text : List ℕ) (i : ℕ) (all : List Setting) → i < length text → AreSettings text i all → FirstLine text i all
first_line text i all lt (ended h) = absurd (omega arith)
first_line text i all lt (lines {xs = xs} {ys = ys} h is more) = record { line = xs; others = ys; is = is; more = more }

-- a line that is not blank has the settings that it is
no_settings : (line : List ℕ) → 0 < length line → setting_in line ≡ None → settings_in line ≡ None
no_settings [] some none = absurd (omega arith)
no_settings (c ∷ line) some none = ap (option_map (λ s. s ∷ [])) none

pub line_refused : (text : List ℕ) (i e : ℕ) (error : SettingsError) → e ≡ run_end run.Line text i → i < length text → BeginsLine text i → (0 < length (slice_range text i e)) × RefusesLine (slice_range text i e) i error
    → ((xs : List Setting) → AreSettings text 0 xs → (ys : List Setting) × AreSettings text i ys) → RefusesSettings text error
line_refused text i e (Line at) end lt begins (some, told) only =
    let line : slice_range text i e ≡ line_at text i = ap (λ k. slice_range text i k) end in
    let nothing = subst (λ l. setting_in l ≡ None) line told.1 in
    let length_of = subst (λ l. 0 < length l) line some in
    subst (λ k. RefusesSettings text (Line k)) (sym told.0) (
      begins,
      length_of,
      nothing,
      λ xs all.
          let from = only xs all in
          let first = first_line text i from.0 lt from.1 in
          let wrong : None ≡ Some first.line = sym (no_settings (line_at text i) length_of nothing) ∙ first.is in
          (cc),
    )
line_refused text i e NotText end lt begins (some, refused) only =
    (i, begins, (refused.0, subst (λ k. setting_in (slice_range text i k) ≡ Some refused.0) end refused.1, refused.2))
line_refused text i e Memory end lt begins refused only = tt

-- the next line begins behind this one
pub begins_next : (text : List ℕ) (i e : ℕ) → e ≡ run_end run.Line text i → i < length text → BeginsLine text i → BeginsLine text (e + 1)
begins_next text i e end lt begins = subst (λ k. BeginsLine text (k + 1)) (sym end) (next lt begins)

-- a line more in front of those behind it
pub line_read : (text : List ℕ) (i e : ℕ) (found more new ys : List Setting) → e ≡ run_end run.Line text i → i < length text → settings_in (slice_range text i e) ≡ Some more → new ≡ found ++ more → ((zs : List Setting) → AreSettings text i zs → AreSettings text 0 (found ++ zs)) → AreSettings text (e + 1) ys → AreSettings text 0 (new ++ ys)
line_read text i e found more new ys end lt is pushed read rest =
    let here : settings_in (slice_range text i (run_end run.Line text i)) ≡ Some more = ap (λ k. settings_in (slice_range text i k)) (sym end) ∙ is in
    let behind : AreSettings text (run_end run.Line text i + 1) ys = subst (λ k. AreSettings text (k + 1) ys) end rest in
    subst (λ zs. AreSettings text 0 zs) (sym (append_assoc found more ys) ∙ ap (λ zs. zs ++ ys) (sym pushed)) (read (more ++ ys) (lines lt here behind))

pub line_passed : (text : List ℕ) (i e : ℕ) (all : List Setting) → e ≡ run_end run.Line text i → i < length text → AreSettings text i all → (ys : List Setting) × AreSettings text (e + 1) ys
line_passed text i e all end lt r =
    let first = first_line text i all lt r in
    (first.others, subst (λ k. AreSettings text (k + 1) first.others) (sym end) first.more)

pub all_read : (text : List ℕ) (i : ℕ) (found : List Setting) → length text ≤ i → ((zs : List Setting) → AreSettings text i zs → AreSettings text 0 (found ++ zs)) → AreSettings text 0 found
all_read text i found h read = subst (λ zs. AreSettings text 0 zs) (append-nil found) (read [] (ended h))

-- what is no text of a line that is a setting
pub no_text : (line : List ℕ) (at : ℕ) (s : Setting) (error : SettingsError) (bytes : List ℕ) → setting_in line ≡ Some s → RefusesText bytes error → ((IsUtf8 bytes → ⊥) → HasNoText s) → RefusesLine line at error
no_text line at s (Line i) bytes is refused has = absurd refused
no_text line at s NotText bytes is refused has = (s, is, has refused)
no_text line at s Memory bytes is refused has = tt

-- the setting that a line is, by its head
pub is_name : (line : List ℕ) (s e : ℕ) → head_at line 0 ≡ Name s e → nat_eq e (length line) ≡ true → setting_in line ≡ Some (record { name = slice_range line s e; value = None })
unfolding setting_in
is_name line s e head whole = rw (head, whole) refl

pub is_pair : (line : List ℕ) (s e q c : ℕ) → head_at line 0 ≡ Pair s e q c → nat_eq (c + 1) (length line) ≡ true → setting_in line ≡ Some (record { name = slice_range line s e; value = Some (slice_range line q c) })
unfolding setting_in
is_pair line s e q c head whole = rw (head, whole) refl
