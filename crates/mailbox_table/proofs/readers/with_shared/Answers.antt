-- `mailbox_table::readers::with_shared` meets its contract: the sum is the definition, opened, and the shared bytes lie in the word. By SeenLaws.
use Rattle.listing_rules.proofs.Prelude.{◌≡◌, ap, arith}
use Rattle.mailbox_table.specs.declared.rows.Row.{Row}
use Rattle.mailbox_table.specs.Words.{row_of_word, with_shared}
use Rattle.mailbox_table.proofs.SeenLaws.{shared_fits, shared_inside, with_fits}
use Rattle.mailbox_table.proofs.readers.with_shared.Goals as goal

pub overflow_mul-result : goal.overflow_mul-result
overflow_mul-result c =
    let the_shared : c.of_word-row.result.shared ≡ (row_of_word c.args.word).shared = ap (λ (r : Row). r.shared) c.of_word-row.ensures in
    omega (arith, the_shared, shared_fits c.args.word)

pub overflow_sub-result : goal.overflow_sub-result
overflow_sub-result c =
    let the_shared : c.of_word-row.result.shared ≡ (row_of_word c.args.word).shared = ap (λ (r : Row). r.shared) c.of_word-row.ensures in
    omega (arith, the_shared, shared_inside c.args.word)

pub returns : goal.returns
unfolding with_shared
returns c =
    let the_shared : c.of_word-row.result.shared ≡ (row_of_word c.args.word).shared = ap (λ (r : Row). r.shared) c.of_word-row.ensures in
    rw the_shared

pub overflow_add-result : goal.overflow_add-result
overflow_add-result c = omega (arith, returns c, with_fits _ _ c.requires c.ranges.word.fits)
