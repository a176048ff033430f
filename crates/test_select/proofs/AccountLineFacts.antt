-- The line of an account is read as it is, with its line feed.
use Rattle.std.proofs.Common.{◌≡◌, ◌∙◌, ℕ, suc, ◌<◌, ◌^◌, true, List, [], ◌∷◌, ◌++◌, None, Ok, codes, decimal, option_and_then, refl, sym, ap, subst, append_assoc, arith}
use Rattle.std.specs.List.{flat_map}
use Rattle.std.specs.Str.{IsUtf8}
use Rattle.json.specs.Json as json
use Rattle.json.specs.Lex.{between, comma, colon, fresh, lex, punctuate, token}
use Rattle.json.specs.Text.{content}
use Rattle.json.specs.Word.{ends_word}
use Rattle.json.specs.Token.{begin_array, begin_object, number, string}
use Rattle.json.proofs.Printed.Decimals.{IsNumber-decimal}
use Rattle.json.proofs.Printed.Numbers.{lex-number}
use Rattle.serde_json.specs.Read.{max_depth, of_json, read}
use Rattle.record_files.specs.Accounts.{account_file}
use Rattle.record_files.specs.Files.{Reads}
use Rattle.feature_account_making.proofs.TextFacts.{utf8_before}
use Rattle.feature_account_making.proofs.WrittenLines.{account_reads_back}
use Rattle.feature_account_making.specs.AccountText.{account_text, numbers_text}
use Rattle.feature_account_making.specs.ReadBackLaws.{AreSizes}

-- the numbers behind the first, each behind a comma
abbrev others : List ℕ → List ℕ
others = flat_map (λ n. codes "," ++ decimal n)

first_size : (n : ℕ) (ns : List ℕ) → AreSizes (n ∷ ns) → n < 2 ^ 64
first_size n ns sizes = sizes 0 n (omega arith)

later_sizes : (n : ℕ) (ns : List ℕ) → AreSizes (n ∷ ns) → AreSizes ns
later_sizes n ns sizes = λ k d below. sizes (suc k) d (omega arith)

-- a word ends before them, as before what follows
others_end : (ns r : List ℕ) → ends_word r ≡ true → ends_word (others ns ++ r) ≡ true
others_end [] r ends = ends
others_end (n ∷ ns) r ends = refl

module _ (r s : List ℕ) (one : ends_word r ≡ true) (other : ends_word s ≡ true) (same : lex between r ≡ lex between s) where
  number_alike : (n : ℕ) (t u : List ℕ) → n < 2 ^ 64 → ends_word t ≡ true → ends_word u ≡ true → lex between t ≡ lex between u → lex between (decimal n ++ t) ≡ lex between (decimal n ++ u)
  number_alike n t u size here there alike =
      lex-number (decimal n) t (IsNumber-decimal n size) here ∙ ap (λ ls. token (number (decimal n)) ∷ ls) alike ∙ sym (lex-number (decimal n) u (IsNumber-decimal n size) there)

  others_alike : (ns : List ℕ) → AreSizes ns → lex between (others ns ++ r) ≡ lex between (others ns ++ s)
  unfolding lex
  others_alike [] sizes = same
  others_alike (n ∷ ns) sizes =
      let rest = number_alike n (others ns ++ r) (others ns ++ s) (first_size n ns sizes) (others_end ns r one) (others_end ns s other) (others_alike ns (later_sizes n ns sizes)) in
      ap (λ t. lex between (44 ∷ t)) (append_assoc (decimal n) (others ns) r) ∙ ap (λ ls. comma ∷ ls) rest ∙ sym (ap (λ t. lex between (44 ∷ t)) (append_assoc (decimal n) (others ns) s))

  numbers_alike : (ns : List ℕ) → AreSizes ns → lex between (numbers_text ns ++ r) ≡ lex between (numbers_text ns ++ s)
  numbers_alike [] sizes = same
  numbers_alike (n ∷ ns) sizes =
      let rest = number_alike n (others ns ++ r) (others ns ++ s) (first_size n ns sizes) (others_end ns r one) (others_end ns s other) (others_alike ns (later_sizes n ns sizes)) in
      ap (lex between) (append_assoc (decimal n) (others ns) r) ∙ rest ∙ sym (ap (lex between) (append_assoc (decimal n) (others ns) s))

front_alike : (t u : List ℕ) → lex between t ≡ lex between u → lex between (codes "{\"rules\":[" ++ t) ≡ lex between (codes "{\"rules\":[" ++ u)
unfolding lex content
front_alike t u same = ap (λ ls. token begin_object ∷ token (string (codes "rules")) ∷ colon ∷ token begin_array ∷ ls) same

-- a line feed behind it changes nothing of what is read
pub read_line : (numbers : List ℕ) → AreSizes numbers → read (account_text numbers) ≡ read (codes "{\"rules\":[" ++ (numbers_text numbers ++ codes "]}"))
unfolding lex
read_line numbers sizes =
    let same : lex between (account_text numbers) ≡ lex between (codes "{\"rules\":[" ++ (numbers_text numbers ++ codes "]}")) = front_alike (numbers_text numbers ++ codes "]}\n") (numbers_text numbers ++ codes "]}") (numbers_alike (codes "]}\n") (codes "]}") refl refl refl numbers sizes) in
    ap (λ ls. option_and_then of_json (option_and_then (λ p. json.if_last p.0 p.1) (json.value max_depth (punctuate fresh ls)))) same

-- the line without its line feed
abbrev line_of : List ℕ → List ℕ
line_of numbers = codes "{\"rules\":[" ++ (numbers_text numbers ++ codes "]}")

ends_in_line_feed : (numbers : List ℕ) → account_text numbers ≡ line_of numbers ++ codes "\n"
ends_in_line_feed numbers = regroup (codes "{\"rules\":[") (numbers_text numbers) (codes "]}") (codes "\n")
  where
    regroup : (a n b c : List ℕ) → a ++ (n ++ (b ++ c)) ≡ (a ++ (n ++ b)) ++ c
    regroup a n b c = simp append_assoc

-- what is written of an account is read as its numbers and no goal
pub account_read : (numbers : List ℕ) → AreSizes numbers → Reads account_file (account_text numbers) (Ok (record { numbers = numbers; goal = None }))
account_read numbers sizes =
    let written = ends_in_line_feed numbers in
    let back = (account_reads_back numbers (line_of numbers) sizes written).reads in
    record {
      value = back.value;
      text = subst IsUtf8 (sym written) (utf8_before (line_of numbers) (codes "\n") refl back.text);
      reading = read_line numbers sizes ∙ back.reading;
      shape = back.shape;
    }
