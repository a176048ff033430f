use Rattle.cargo_files.specs.Words.{WordValue, OfEach, OfMember}
use Rattle.cargo_files.specs.declared.word.Word.{Word}
use Rattle.cargo_files.specs.declared.word.Word.TheVariants as code

-- what contracts see of a word
abbrev pub word_view : Word → WordValue
word_view (code.OfEach name) = OfEach name.now
word_view (code.OfMember owner name) = OfMember owner.now name.now
