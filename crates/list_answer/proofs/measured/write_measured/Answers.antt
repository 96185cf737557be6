-- `list_answer::measured::write_measured` meets its contract: an answer that is too long is refused, and one that fits is written.
use Rattle.octets.proofs.Writing.{written_short, written_fits}
use Rattle.listing_rules.proofs.Prelude.{arith}
use Rattle.list_answer.proofs.measured.write_measured.Goals as goal

pub returns-then-out-need : goal.returns-then-out-need
returns-then-out-need g c =
    λ ready. written_short c.args.out.now _ (omega (arith, (c.put-need.ensures ready).place))

pub returns : goal.returns
returns g c =
    λ ready.
    let written = c.put.ensures ready in
    written_fits _ _ written (omega (arith, (c.put-need.ensures ready).place, written.fits))
