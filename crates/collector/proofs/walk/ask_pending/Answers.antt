-- `ask_pending` meets its contract. The loop's invariant is `Walking`: what is left of the walk gives what the whole gives (`WalkLaws`).
use Rattle.std.proofs.lemmas.Result.{err_from_is_err_and}
use Rattle.listing_rules.proofs.Prelude.{◌≡◌, ap, ◌+◌, ℕ, arith, get_or}
use Rattle.listing_rules.specs.Walk.{collected}
use Rattle.collector.proofs.WalkLaws.{name_inside, name_lies, count_fits, walking_ends, walking_refused, walking_step}
use Rattle.listing_rules.proofs.Prelude.{◌≡◌}
use Rattle.collector.proofs.walk.ask_pending.Goals as goal

pub overflow_add-end : goal.overflow_add-end
overflow_add-end c =
    let end_is : let at = c.loop-at.at in at + 1 + c.from.result ≡ at + 1 + get_or
    c.loop-at.pending at 0 = ap (λ (n : ℕ). c.loop-at.at + 1 + n) c.from.ensures in
    omega (
      arith,
      name_inside c.loop-at.invariant c.loop-at-test.true end_is,
      c.loop-at.invariant.holds.asks.room,
      c.loop-at.invariant.pending_long,
      c.requires,
    )

pub ask_below-requires : goal.ask_below-requires
ask_below-requires c =
    let end_is : let at = c.loop-at.at in at + 1 + c.from.result ≡ at + 1 + get_or
    c.loop-at.pending at 0 = ap (λ (n : ℕ). c.loop-at.at + 1 + n) c.from.ensures in
    let inv = c.loop-at.invariant in
    let more = c.loop-at-test.true in
    record {
      lies = name_lies inv more end_is (omega arith);
      inside = record { finds = inv.holds.finds.room; asks = inv.holds.asks.room };
      count_in_bounds = count_fits inv more end_is;
    }

pub loop-at-preserved : goal.loop-at-preserved
loop-at-preserved c =
    let end_is : let at = c.loop-at.at in at + 1 + c.from.result ≡ at + 1 + get_or
    c.loop-at.pending at 0 = ap (λ (n : ℕ). c.loop-at.at + 1 + n) c.from.ensures in
    walking_step c.loop-at.invariant c.loop-at-test.true end_is
    c.ask_below.new.scratch
    c.in_ok-progress.ensures
    c.ask_below.auto.scratch
    c.ask_below.auto.found
    c.ask_below.auto.pending

pub returns-in_err-progress : goal.returns-in_err-progress
unfolding collected
returns-in_err-progress c =
    let end_is : let at = c.loop-at.at in at + 1 + c.from.result ≡ at + 1 + get_or
    c.loop-at.pending at 0 = ap (λ (n : ℕ). c.loop-at.at + 1 + n) c.from.ensures in
    let p = err_from_is_err_and c.from_residual.result c.from_residual.ensures.1 in
    rw (p.1, p.2)
    (walking_refused c.loop-at.invariant c.loop-at-test.true end_is
    c.in_err-progress.ensures)

pub returns : goal.returns
unfolding collected
returns c =
    walking_ends c.loop-at.invariant c.loop-at-test.false
