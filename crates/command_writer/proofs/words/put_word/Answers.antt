-- `put_word` meets its contract: nothing, or the space and the word (`gap_word`).
use Rattle.listing_rules.proofs.Prelude.{refl, rules}
use Rattle.listing_rules.specs.Walk.{when}
use Rattle.octets.proofs.Puts.{put_none, put_then}
use Rattle.command_writer.proofs.OptionWords.{gap_word}
use Rattle.command_writer.proofs.words.put_word.Goals as goal

pub returns-then-not-shown : goal.returns-then-not-shown
unfolding when
returns-then-not-shown c =
    rw c.if-not-shown.true (record { text = put_none _ _ (search rules) (search rules); first = refl })

pub returns : goal.returns
unfolding when
returns c =
    rw (c.if-not-shown.false, ← gap_word c.args.list.first c.args.word.now)
    (record { text = put_then c.put_gap-at.ensures c.put_all.ensures; first = refl })
