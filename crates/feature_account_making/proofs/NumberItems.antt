-- A list of the numbers of rules as JSON.
use Rattle.std.proofs.Common.{◌≡◌, ℕ, suc, max, ◌<◌, ◌^◌, List, [], ◌∷◌, ◌++◌, append_assoc, true, false, Some, Ok, IsUtf8, codes, decimal, flat_map, refl, sym, ap, ◌∙◌, arith}
use Rattle.std.proofs.lemmas.Fmt.{IsAscii-decimal}
use Rattle.std.proofs.lemmas.Str.{IsUtf8-append, IsUtf8-nil, IsUtf8-from_ascii}
use Rattle.json.specs.Tree.{ItemsHaveNumbers, items_depth}
use Rattle.json.proofs.Printed.Decimals.{IsNumber-decimal}
use Rattle.serde_json.specs.Data.{unsigned, number, Items, no_items, item}
use Rattle.serde_json.specs.Read.{of_items}
use Rattle.serde_json.specs.Written.{items_outline, items_text}
use Rattle.serde_json.proofs.Numbers.{number_of-decimal}
use Rattle.record_files.specs.Accounts.{rule_of}
use Rattle.record_files.specs.Values.{each}
use Rattle.record_files.specs.declared.key.Key.{Key}
use Rattle.feature_account_making.specs.AccountText.{numbers_text}
use Rattle.feature_account_making.specs.ReadBackLaws.{AreSizes}
use Rattle.feature_account_making.proofs.TextFacts.{utf8_behind, utf8_before}

-- the numbers as values of JSON
abbrev pub number_items : List ℕ → Items
number_items [] = no_items
number_items (n ∷ ns) = item (number (unsigned n)) (number_items ns)

-- the numbers behind the first one, each behind its comma
abbrev others : List ℕ → List ℕ
others = flat_map (λ n. codes "," ++ decimal n)

-- of sizes, the first and the others are sizes
first_size : (n : ℕ) (ns : List ℕ) → AreSizes (n ∷ ns) → n < 2 ^ 64
first_size n ns sizes = sizes 0 n (omega arith)

later_sizes : (n : ℕ) (ns : List ℕ) → AreSizes (n ∷ ns) → AreSizes ns
later_sizes n ns sizes = λ k d below. sizes (suc k) d (omega arith)

-- the text of the values is what is written for the numbers, and so with the object's bracket behind it
others_text : (ns : List ℕ) → others ns ++ codes "]" ≡ items_text true (number_items ns)
others_text [] = refl
others_text (n ∷ ns) = ap (λ t. 44 ∷ t) (append_assoc (decimal n) (others ns) (codes "]") ∙ ap (λ t. decimal n ++ t) (others_text ns))

items_text_is : (ns : List ℕ) → numbers_text ns ++ codes "]" ≡ items_text false (number_items ns)
items_text_is [] = refl
items_text_is (n ∷ ns) = append_assoc (decimal n) (others ns) (codes "]") ∙ ap (λ t. decimal n ++ t) (others_text ns)

pub closed_text_is : (ns : List ℕ) → numbers_text ns ++ codes "]}" ≡ items_text false (number_items ns) ++ codes "}"
closed_text_is ns = sym (append_assoc (numbers_text ns) (codes "]") (codes "}")) ∙ ap (λ t. t ++ codes "}") (items_text_is ns)

-- that text is UTF-8
decimal_is_utf8 : (n : ℕ) → n < 2 ^ 64 → IsUtf8 (decimal n)
decimal_is_utf8 n size = IsUtf8-from_ascii (decimal n) (IsAscii-decimal n size)

others_are_utf8 : (ns : List ℕ) → AreSizes ns → IsUtf8 (others ns)
others_are_utf8 [] sizes = IsUtf8-nil
others_are_utf8 (n ∷ ns) sizes =
    IsUtf8-append (codes "," ++ decimal n) (others ns) (utf8_behind (codes ",") (decimal n) refl (decimal_is_utf8 n (first_size n ns sizes))) (others_are_utf8 ns (later_sizes n ns sizes))

numbers_are_utf8 : (ns : List ℕ) → AreSizes ns → IsUtf8 (numbers_text ns)
numbers_are_utf8 [] sizes = IsUtf8-nil
numbers_are_utf8 (n ∷ ns) sizes = IsUtf8-append (decimal n) (others ns) (decimal_is_utf8 n (first_size n ns sizes)) (others_are_utf8 ns (later_sizes n ns sizes))

pub closed_text_is_utf8 : (ns : List ℕ) → AreSizes ns → IsUtf8 (numbers_text ns ++ codes "]}")
closed_text_is_utf8 ns sizes = utf8_before (numbers_text ns) (codes "]}") refl (numbers_are_utf8 ns sizes)

-- the values are numbers of JSON, nest nothing, and are read as they are
pub items_are_numeric : (ns : List ℕ) → AreSizes ns → ItemsHaveNumbers (items_outline (number_items ns))
items_are_numeric [] sizes = tt
items_are_numeric (n ∷ ns) sizes = (IsNumber-decimal n (first_size n ns sizes), items_are_numeric ns (later_sizes n ns sizes))

pub items_are_flat : (ns : List ℕ) → items_depth (items_outline (number_items ns)) ≡ 0
items_are_flat [] = refl
items_are_flat (n ∷ ns) = ap (max 0) (items_are_flat ns)

pub items_are_read : (ns : List ℕ) → AreSizes ns → of_items (items_outline (number_items ns)) ≡ Some (number_items ns)
items_are_read [] sizes = refl
items_are_read (n ∷ ns) sizes = rw (number_of-decimal n (first_size n ns sizes), items_are_read ns (later_sizes n ns sizes))

-- each of them is the number of a rule
pub each_number : (key : Key) (ns : List ℕ) → each (rule_of key) (number_items ns) ≡ Ok ns
each_number key [] = refl
each_number key (n ∷ ns) = rw (each_number key ns)
