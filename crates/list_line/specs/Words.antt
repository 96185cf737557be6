-- The start of a line, to the first attribute, by the line's word.
use Rattle.std.specs.Prelude.{List, ℕ}
use Rattle.listing_rules.specs.Bytes.{text}
use Rattle.list_line.specs.declared.words.LineWord.{LineWord}
use Rattle.list_line.specs.declared.words.LineWord.TheVariants.{List as OfList, Lsub as OfLsub}

unfoldable pub start_of : LineWord → List ℕ
start_of OfList = text "* LIST ("
start_of OfLsub = text "* LSUB ("
