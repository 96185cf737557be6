-- `put_line_end` meets its contract: its four texts compute to CR LF behind CHILDINFO or nothing.
use Rattle.listing_rules.proofs.Prelude.{sym, false, true}
use Rattle.listing_rules.proofs.Keys.{open_bytes, open_lines}
use Rattle.listing_rules.specs.Options.{is_none}
use Rattle.list_line.proofs.CriteriaSets.{criteria_tests}
use Rattle.list_line.proofs.write.put_line_end.Goals as goal

pub returns-in-true-true : goal.returns-in-true-true
unfolding open_bytes open_lines is_none
returns-in-true-true c = rw (criteria_tests c.args.criteria.bits true true (sym c.in-true-true.ensures) (sym c.in-true-true.ensures')) c.put_all.ensures

pub returns-in-true-false : goal.returns-in-true-false
unfolding open_bytes open_lines is_none
returns-in-true-false c = rw (criteria_tests c.args.criteria.bits true false (sym c.in-true-false.ensures) (sym c.in-true-false.ensures')) c.put_all-in-true-false.ensures

pub returns-in-false-true : goal.returns-in-false-true
unfolding open_bytes open_lines is_none
returns-in-false-true c = rw (criteria_tests c.args.criteria.bits false true (sym c.in-false-true.ensures) (sym c.in-false-true.ensures')) c.put_all-in-false-true.ensures

pub returns-in-false-false : goal.returns-in-false-false
unfolding open_bytes open_lines is_none
returns-in-false-false c = rw (criteria_tests c.args.criteria.bits false false (sym c.in-false-false.ensures) (sym c.in-false-false.ensures')) c.put_all-in-false-false.ensures
