-- `put_patterns` meets its contract: the patterns before `i` are written, and those from `i` on are left. By `Putting` of octets and
-- PatternTexts.
use Rattle.listing_rules.proofs.Prelude.{rules}
use Rattle.octets.proofs.Puts.{putting_none, putting_on, putting_more, putting_all, put_then}
use Rattle.command_writer.proofs.PatternTexts.{text_whole, text_here, text_end}
use Rattle.command_writer.proofs.patterns.put_patterns.Goals as goal

pub loop-i-init : goal.loop-i-init
loop-i-init c = putting_on (putting_none _ _ _ (search rules) (search rules)) (text_whole _)

pub loop-i-preserved : goal.loop-i-preserved
loop-i-preserved c =
    putting_more c.loop-i.invariant (text_here _ c.pattern_at-p.ensures)
    (put_then c.put_gap-gap.ensures c.put_string-to.ensures)

pub returns : goal.returns
returns c =
    putting_all c.loop-i.invariant (text_end _ _ _ c.loop-i-test.false)
