use Rattle.std.proofs.Common.{◌∙◌, rules, sym, string_bytes, String, Global, tests}
use Rattle.std.proofs.lemmas.Iterator.{YieldsList-from_slice}
use Rattle.std.proofs.lemmas.Iterator.Search.{any_from_yields_List}
use Rattle.std.specs.Str.{bytes_eq}
use Rattle.list_facts.proofs.Quantifiers.{list_any-map}
use Rattle.guppy_package_parts.proofs.texts.contains_text.Goals as goal

pub returns : goal.returns
returns c = any_from_yields_List (λ (name : String Global). bytes_eq c.args.text.now (string_bytes name)) _ _ _ c.any.ensures.ran (YieldsList-from_slice c.args.names.now c.iter.ensures.rest) (λ x b q k. search (rules, tests)) ∙ sym (list_any-map (bytes_eq c.args.text.now) string_bytes c.args.names.now)
