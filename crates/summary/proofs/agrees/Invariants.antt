-- What holds at each turn of a loop of `agrees`.
use Rattle.listing_rules.proofs.Prelude.{◌≡◌, ◌≤◌, length}
use Rattle.summary.specs.Counts.{words_agree}
use Rattle.summary.proofs.AgreeLaws.{agree_from}
use Rattle.summary.proofs.agrees.Given as goal

abbrev pub invariant-loop-i : goal.invariant-loop-i
invariant-loop-i l = (length l.rows.words.now ≤ length l.sums) × (agree_from l.rows.area.now l.rows.words.now l.sums l.i ≡ words_agree l.rows.area.now l.rows.words.now l.sums)
