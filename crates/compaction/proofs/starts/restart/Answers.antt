-- `compaction::starts::restart` meets its contract: the words before i have their new starts. By StartLaws.
use Rattle.listing_rules.proofs.Prelude.{◌%◌, ◌/◌, ◌<◌, ℕ, arith, rules, get_or, length}
use Rattle.compaction.specs.Moves.{restarted, with_start}
use Rattle.compaction.proofs.StartLaws.{start_fits, mapped_none, mapped_read, mapped_more, mapped_all}
use Rattle.compaction.proofs.starts.restart.Goals as goal

pub loop-i-init : goal.loop-i-init
loop-i-init c = mapped_none _ _

pub overflow_add-words : goal.overflow_add-words
overflow_add-words c =
    let word : ℕ = get_or c.loop-i.words c.loop-i.i 0 in
    let place-small : get_or c.args.places.now (word / 65536 % 65536) 0 < 65536 = omega (arith, c.type_inv.places (word / 65536 % 65536)) in
    omega (arith, start_fits word _ (search rules) place-small)

pub loop-i-preserved : goal.loop-i-preserved
unfolding restarted with_start
loop-i-preserved c =
    let inside : c.loop-i.i < length c.args.words.now = omega (arith, c.loop-i-test.true, c.loop-i.invariant.size) in
    mapped_more c.loop-i.invariant inside _ (rw (mapped_read c.loop-i.invariant inside))

pub returns : goal.returns
returns c = mapped_all c.loop-i.invariant (omega (arith, c.loop-i-test.false, c.loop-i.invariant.size))
