-- `subscriptions::shift::set_flags` meets its contract: the word without its lowest 16 bits, and the flags there. By ShiftLaws.
use Rattle.listing_rules.proofs.Prelude.{refl, arith, rules, get_or}
use Rattle.subscriptions.specs.Applied.{with_flags}
use Rattle.subscriptions.proofs.ShiftLaws.{flags_fit}
use Rattle.subscriptions.proofs.shift.set_flags.Goals as goal

pub overflow_add-words : goal.overflow_add-words
overflow_add-words c =
    let a = c.args in
    let w = get_or a.words.now a.k 0 in
    omega (arith, flags_fit w a.flags (search rules) (omega arith))

pub returns : goal.returns
unfolding with_flags
returns c = refl
