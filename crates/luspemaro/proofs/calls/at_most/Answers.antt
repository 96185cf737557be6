-- `luspemaro::calls::at_most` meets its contract, by its test.
use Rattle.listing_rules.proofs.Prelude.{sym, arith, length-take-le}
use Rattle.luspemaro.proofs.calls.at_most.Goals as goal

pub returns-then-n-text : goal.returns-then-n-text
returns-then-n-text c = (omega arith, sym (length-take-le _ _ (omega arith)))

pub returns-else-n-text : goal.returns-else-n-text
returns-else-n-text c = (omega arith, sym (length-take-le _ _ (omega arith)))
