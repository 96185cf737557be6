-- `Place::member`: the words of both lists, word by word. Opens the definitions; rests on the promise of `spells_word`.
use Rattle.listing_rules.proofs.Prelude.{sym}
use Rattle.listing_rules.specs.Bytes.{text}
use Rattle.command_line.specs.OptionSets.{selected, returned}
use Rattle.command_line.proofs.option_list.Place.member.Goals as goal

pub returns-in-Selection : goal.returns-in-Selection
unfolding selected text
returns-in-Selection c = rw (c.in-Selection.is, sym c.if-spells_word.ensures)

pub returns-in-Selection-2 : goal.returns-in-Selection-2
unfolding selected text
returns-in-Selection-2 c = rw (c.in-Selection.is, sym c.if-spells_word.ensures, sym c.if-spells_word-2.ensures)

pub returns-in-Selection-3 : goal.returns-in-Selection-3
unfolding selected text
returns-in-Selection-3 c = rw (c.in-Selection.is, sym c.if-spells_word.ensures, sym c.if-spells_word-2.ensures, sym c.if-spells_word-3.ensures)

pub returns-in-Selection-4 : goal.returns-in-Selection-4
unfolding selected text
returns-in-Selection-4 c = rw (c.in-Selection.is, sym c.if-spells_word.ensures, sym c.if-spells_word-2.ensures, sym c.if-spells_word-3.ensures, sym c.if-spells_word-4.ensures)

pub returns-in-Return : goal.returns-in-Return
unfolding returned text
returns-in-Return c = rw (c.in-Return.is, sym c.if-spells_word-5.ensures)

pub returns-in-Return-2 : goal.returns-in-Return-2
unfolding returned text
returns-in-Return-2 c = rw (c.in-Return.is, sym c.if-spells_word-5.ensures, sym c.if-spells_word-6.ensures)

pub returns-in-Return-3 : goal.returns-in-Return-3
unfolding returned text
returns-in-Return-3 c = rw (c.in-Return.is, sym c.if-spells_word-5.ensures, sym c.if-spells_word-6.ensures, sym c.if-spells_word-7.ensures)

pub returns-in_default : goal.returns-in_default
unfolding selected text
returns-in_default c = rw (c.in-Selection.is, sym c.if-spells_word.ensures, sym c.if-spells_word-2.ensures, sym c.if-spells_word-3.ensures, sym c.if-spells_word-4.ensures)

pub returns-in_default-2 : goal.returns-in_default-2
unfolding returned text
returns-in_default-2 c = rw (c.in-Return.is, sym c.if-spells_word-5.ensures, sym c.if-spells_word-6.ensures, sym c.if-spells_word-7.ensures)
