-- `records::U64FromRecord::from` meets its contract: the sum is the definition, opened, and tells the record by the widths of its fields.
use Rattle.listing_rules.proofs.Prelude.{refl, rules}
use Rattle.records.specs.Words.{cell_of, word_of, meant}
use Rattle.records.proofs.WordLaws.{word_tells}
use Rattle.records.proofs.U64FromRecord.from.Goals as goal

pub returns : goal.returns
unfolding cell_of word_of meant
returns c =
    rw (c.from.ensures, c.from-2.ensures, c.from-3.ensures, c.from-4.ensures) (refl, word_tells c.args.r (search rules) (search rules) (search rules) (search rules))
