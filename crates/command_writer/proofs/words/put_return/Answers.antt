-- `put_return` meets its contract: nothing, or the words between their parentheses (`put_then`).
use Rattle.listing_rules.proofs.Prelude.{◌∙◌, sym, rules}
use Rattle.listing_rules.specs.Bytes.{text}
use Rattle.listing_rules.specs.Walk.{when}
use Rattle.listing_rules.specs.Joining.{return_text}
use Rattle.octets.proofs.Puts.{put_none, put_then}
use Rattle.command_writer.specs.Words.{return_words}
use Rattle.command_writer.proofs.words.put_return.Goals as goal

pub returns-then-not-returns_any : goal.returns-then-not-returns_any
unfolding return_text when
returns-then-not-returns_any c =
    rw (sym c.returns_any.ensures ∙ c.if-not-returns_any.true) (put_none _ _ (search rules) (search rules))

pub returns : goal.returns
unfolding return_text when return_words text
returns c =
    rw (sym c.returns_any.ensures ∙ c.if-not-returns_any.false)
    (put_then c.put_all-open.ensures (put_then c.put_return_words-listed.ensures c.put.ensures))
