-- `feeder::feed` meets its contract. The loop's invariant: what is left of the chunk, from the state and the memory now, comes to what
-- the whole chunk does. Rests on FeedLaws and FeedBytes.
use Rattle.listing_rules.proofs.Prelude.{◌∙◌, refl, sym, arith}
use Rattle.feeder.specs.declared.Event.TheVariants.{Quiet}
use Rattle.feeder.specs.Feed.{outcome, answers}
use Rattle.feeder.proofs.FeedLaws.{feed_on, feed_stop, feed_end}
use Rattle.feeder.proofs.FeedBytes.{feeds_not, small_memory, large_state, feeds}
use Rattle.feeder.proofs.feed.Goals as goal
use Rattle.feeder.proofs.feed.Goals.{then-command-lt-MAX_COMMAND-via-then-command-lt-MAX_COMMAND as small}
use Rattle.feeder.proofs.feed.Goals.{then-command-lt-MAX_COMMAND-via-else-command-lt-MAX_COMMAND+then-state-gt-MAX_COMMAND as large}

pub returns-then-command-lt-MAX_COMMAND : goal.returns-then-command-lt-MAX_COMMAND
returns-then-command-lt-MAX_COMMAND c =
    let d = c.args.command.now in
    elim c.then-command-lt-MAX_COMMAND.branch [
      | small w ↦ feeds_not _ _ _ (small_memory d _ w.if-command-lt-MAX_COMMAND.true)
      | large w ↦ feeds_not _ _ _ (large_state d _ w.if-state-gt-MAX_COMMAND.true)
    ]

pub loop-i-init : goal.loop-i-init
loop-i-init c = (refl, refl)

pub loop-i-preserved : goal.loop-i-preserved
loop-i-preserved c = (
  omega arith,
  sym (feed_on _ _ _ _ _ _ c.loop-i-test.true c.feed_byte-fed.ensures c.in-Quiet.is) ∙ c.loop-i.invariant.1,
)

pub returns-in_default : goal.returns-in_default
unfolding outcome answers
returns-in_default c =
    let a = c.args in feeds _ _ _ _ _ c.if-command-lt-MAX_COMMAND.false c.if-state-gt-MAX_COMMAND.false
    (sym c.loop-i.invariant.1 ∙ feed_stop _ _ _ _ _ _ c.loop-i-test.true c.feed_byte-fed.ensures
    c.in_default.not-Quiet)

pub returns : goal.returns
unfolding outcome answers
returns c =
    let a = c.args in feeds _ _ _ _ _ c.if-command-lt-MAX_COMMAND.false c.if-state-gt-MAX_COMMAND.false
    (sym c.loop-i.invariant.1 ∙ feed_end _ _ _ _ c.loop-i.command (record { state = c.loop-i.current; used = 0; event = Quiet })
    (omega arith))
