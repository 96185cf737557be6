-- `letter` meets its contract, one law of Folded for each return.
use Rattle.listing_rules.proofs.Prelude.{◌∙◌, sym}
use Rattle.pattern.proofs.Folded.{letter_plain, letter_raised}
use Rattle.pattern.proofs.letter.Goals as goal

pub returns-then-not-fold : goal.returns-then-not-fold
returns-then-not-fold c = sym (letter_plain _ _ c.if-not-fold.true)

pub returns : goal.returns
returns c =
    c.raised_byte.ensures ∙ sym (letter_raised _ _ c.if-not-fold.false)
