-- `walk_table` meets its contract: the first command begins the walk, and `ask_pending` ends it (`WalkLaws`).
use Rattle.std.proofs.lemmas.Result.{err_from_is_err_and}
use Rattle.listing_rules.proofs.Prelude.{subst, arith, length}
use Rattle.listing_rules.specs.Walk.{WalkReply}
use Rattle.collector.specs.Options.{byte_of}
use Rattle.collector.specs.Walking.{Walking}
use Rattle.collector.specs.Ends.{Ends}
use Rattle.collector.specs.Held.{held_seen}
use Rattle.collector.proofs.WalkLaws.{collected_long, walk_refused_lem, walking_begins}
use Rattle.collector.proofs.walk.walk_table.Goals as goal

pub ask-requires : goal.ask-requires
ask-requires c =
    record {
      reference_len_bound = omega arith;
      inside = record { finds = omega arith; asks = omega arith };
      count_in_bounds = omega arith;
    }

pub ask_pending-requires : goal.ask_pending-requires
ask_pending-requires c =
    let begins : let scratch = c.ask.new.scratch in
    let found = c.ask.new.found in
    let pending = c.ask.new.pending in
    Walking (held_seen c.args.seen.reader c.args.seen.area.now c.args.seen.words.now) c.args.options (length scratch) (length found)
    (length pending) scratch found pending c.in_ok-first.first 0 = walking_begins (held_seen c.args.seen.reader c.args.seen.area.now c.args.seen.words.now) c.args.options
    c.args.scratch.now c.args.seen.table_passes c.requires.found_value c.requires.pending_value
    c.ask.new.scratch
    c.in_ok-first.ensures
    c.ask.auto.scratch
    c.ask.auto.found
    c.ask.auto.pending in
    record { walking = begins }

pub returns : goal.returns
returns c =
    subst (λ (w : WalkReply). Ends w c.ask_pending.new.found c.ask_pending.new.pending c.ask_pending.result)
    (collected_long (held_seen c.args.seen.reader c.args.seen.area.now c.args.seen.words.now) (byte_of c.args.options)
    c.args.scratch.now
    c.args.found.now c.args.pending.now c.ask.new.scratch c.ask.new.found c.ask.new.pending c.ask.auto.scratch c.ask.auto.found c.ask.auto.pending)
    c.ask_pending.ensures

pub returns-in_err-first : goal.returns-in_err-first
returns-in_err-first c =
    let p = err_from_is_err_and c.from_residual.result c.from_residual.ensures.1 in
    rw (p.1, p.2)
    (walk_refused_lem (held_seen c.args.seen.reader c.args.seen.area.now c.args.seen.words.now) c.args.options
    c.args.scratch.now c.args.seen.table_passes c.requires.found_value c.requires.pending_value
    c.in_err-first.ensures)
