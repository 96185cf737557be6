-- `feeder::feed_byte` meets its contract.
use Rattle.feeder.proofs.FeedLaws.{fed_byte_lem}
use Rattle.feeder.proofs.feed_byte.Goals as goal

pub returns : goal.returns
returns c =
    let a = c.args in fed_byte_lem _ _ _ _ _ _ _ c.step-stepped.ensures c.store.ensures c.advance.ensures c.event_of.ensures
