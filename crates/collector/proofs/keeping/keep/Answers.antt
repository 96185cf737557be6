-- `keep` meets its contract: a name that is wanted is packed after the others, or there is no room for it (`PackLaws`).
use Rattle.listing_rules.proofs.Prelude.{arith}
use Rattle.listing_rules.specs.Walk.{with_name}
use Rattle.octets.proofs.Puts.{put_length, put_then}
use Rattle.collector.proofs.PackLaws.{packs_more, packs_full}
use Rattle.collector.proofs.keeping.keep.Goals as goal

pub returns-then-not-wanted : goal.returns-then-not-wanted
unfolding with_name
returns-then-not-wanted c =
    rw c.if-not-wanted.true (c.requires.at_in_bounds, λ ns p. p)

pub returns-then-buf-at : goal.returns-then-buf-at
unfolding with_name
returns-then-buf-at c =
    rw c.if-not-wanted.false (λ ns p. packs_full c.args.name.now p c.if-buf-at.true)

pub returns : goal.returns
unfolding with_name
returns c =
    let both = put_then c.put-a.ensures c.put_all-e.ensures in
    rw c.if-not-wanted.false
    (omega (arith, both.place, both.fits, put_length both), λ ns p. packs_more c.args.name.now p both c.if-buf-at.false)
