-- `word_of` is the table, word by word. Opens the definition; rests on the promise of `spells_word`.
use Rattle.listing_rules.proofs.Prelude.{sym}
use Rattle.listing_rules.specs.Bytes.{text}
use Rattle.command_line.specs.Words.{word_of}
use Rattle.command_line.proofs.reading.word_of.Goals as goal

pub returns-then-spells_word : goal.returns-then-spells_word
unfolding word_of text
returns-then-spells_word c = rw (sym c.if-spells_word.ensures)

pub returns-then-spells_word-2 : goal.returns-then-spells_word-2
unfolding word_of text
returns-then-spells_word-2 c = rw (sym c.if-spells_word.ensures, sym c.if-spells_word-2.ensures)

pub returns-then-spells_word-3 : goal.returns-then-spells_word-3
unfolding word_of text
returns-then-spells_word-3 c = rw (sym c.if-spells_word.ensures, sym c.if-spells_word-2.ensures, sym c.if-spells_word-3.ensures)

pub returns-then-spells_word-4 : goal.returns-then-spells_word-4
unfolding word_of text
returns-then-spells_word-4 c = rw (sym c.if-spells_word.ensures, sym c.if-spells_word-2.ensures, sym c.if-spells_word-3.ensures, sym c.if-spells_word-4.ensures)

pub returns-then-spells_word-5 : goal.returns-then-spells_word-5
unfolding word_of text
returns-then-spells_word-5 c = rw (sym c.if-spells_word.ensures, sym c.if-spells_word-2.ensures, sym c.if-spells_word-3.ensures, sym c.if-spells_word-4.ensures, sym c.if-spells_word-5.ensures)

pub returns-else-spells_word-5 : goal.returns-else-spells_word-5
unfolding word_of text
returns-else-spells_word-5 c = rw (sym c.if-spells_word.ensures, sym c.if-spells_word-2.ensures, sym c.if-spells_word-3.ensures, sym c.if-spells_word-4.ensures, sym c.if-spells_word-5.ensures)
