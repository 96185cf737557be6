-- `luspemaro_feed`: `feeder::feed`'s promise, in C's form. Rests on FeedingLaws.
use Rattle.exports.proofs.FeedingLaws.{feeds_chunk}
use Rattle.exports.proofs.feeding.luspemaro_feed.Goals as goal

pub returns : goal.returns
returns c =
    feeds_chunk _ _ _ _ _ c.from.ensures c.feed.ensures c.from-2.ensures
