-- What an expression begins with, by its places.
use Rattle.std.specs.Prelude.{ℕ, ◌≤◌, ◌<◌, Bool, true, false, ◌&&◌, ◌||◌, List, length, nat_eq, nat_lt, nat_le, bytes_eq, codes, slice_index_or, slice_range, Option, Some, None, if◌then◌else◌}
use Rattle.cargo_files.specs.Bytes.{after, run_end}
use Rattle.cargo_files.specs.declared.bytes.Run.TheVariants.{Blanks, Word, Quoted}
use Rattle.cargo_files.specs.declared.spec_fault.Expected.{Expected}
use Rattle.cargo_files.specs.declared.spec_fault.Expected.TheVariants as wanted
use Rattle.cargo_files.specs.declared.head.Head.{Head}
use Rattle.cargo_files.specs.declared.head.Head.TheVariants.{Group, Not, Constant, Name, Pair, Wrong}
use Rattle.cargo_files.specs.declared.head.Operator.{Operator}
use Rattle.cargo_files.specs.declared.head.Operator.TheVariants as operator

abbrev pub wrong : ℕ → Expected → Head
wrong i what = Wrong (record { at = i; wanted = what })

-- an operator, with the place after its parenthesis
abbrev pub head_of_operator : Operator → ℕ → Head
head_of_operator operator.All m = Group true m
head_of_operator operator.Any m = Group false m
head_of_operator operator.Not m = Not m

abbrev pub opened_at : Operator → ℕ → Option ℕ → Head
opened_at op e (Some m) = head_of_operator op m
opened_at op e None = wrong e wanted.Opening

-- an operator that ends at a place, and the parenthesis that has to follow
abbrev pub opened : List ℕ → Operator → ℕ → Head
opened text op e = opened_at op e (after text e 40)

abbrev pub pair_at : List ℕ → ℕ → ℕ → ℕ → Option ℕ → Head
pair_at text i e m (Some q) =
    if nat_lt (run_end Quoted text q) (length text) then Pair i e q (run_end Quoted text q) else wrong q wanted.Quote
pair_at text i e m None = wrong m wanted.Text

-- a name between two places, and the value in quotes that has to follow the place after its `=`
unfoldable pub pair_from : List ℕ → ℕ → ℕ → ℕ → Head
pair_from text i e m = pair_at text i e m (after text m 34)

-- a name that has no value
abbrev pub name_from : List ℕ → ℕ → ℕ → Head
name_from text i e =
    if bytes_eq (slice_range text i e) (codes "true") then Constant true e else (if bytes_eq (slice_range text i e) (codes "false") then Constant false e else Name i e)

abbrev pub setting_at : List ℕ → ℕ → ℕ → Option ℕ → Head
setting_at text i e (Some m) = pair_from text i e m
setting_at text i e None = name_from text i e

-- a name between two places, with the value that may follow
unfoldable pub setting_from : List ℕ → ℕ → ℕ → Head
setting_from text i e = setting_at text i e (after text e 61)

-- a word between two places: an operator, or else a name
unfoldable pub head_from : List ℕ → ℕ → ℕ → Head
head_from text i e =
    if bytes_eq (slice_range text i e) (codes "all") then opened text operator.All e else (if bytes_eq (slice_range text i e) (codes "any") then opened text operator.Any e else (if bytes_eq (slice_range text i e) (codes "not") then opened text operator.Not e else setting_from text i e))

-- the byte is a digit of ASCII
abbrev pub is_digit : ℕ → Bool
is_digit c = nat_le 48 c && nat_le c 57

abbrev pub word_at : List ℕ → ℕ → ℕ → Head
word_at text i e =
    if nat_eq i e || is_digit (slice_index_or text i 0) then wrong i wanted.Name else head_from text i e

-- what an expression begins with, behind blanks: a word that begins with no digit
unfoldable pub head_at : List ℕ → ℕ → Head
head_at text i = word_at text (run_end Blanks text i) (run_end Word text (run_end Blanks text i))

-- the places of a head go on, and lie within the text
abbrev pub HeadLiesWithin : List ℕ → ℕ → Head → Type 0
HeadLiesWithin text i (Group every m) = (i < m) × (m ≤ length text)
HeadLiesWithin text i (Not m) = (i < m) × (m ≤ length text)
HeadLiesWithin text i (Constant b e) = (i < e) × (e ≤ length text)
HeadLiesWithin text i (Name s e) = (i < e) × (s ≤ e) × (e ≤ length text)
HeadLiesWithin text i (Pair s e q c) = (i ≤ c) × (s ≤ e) × (e ≤ length text) × (q ≤ c) × (c < length text)
HeadLiesWithin text i (Wrong f) = f.at ≤ length text
