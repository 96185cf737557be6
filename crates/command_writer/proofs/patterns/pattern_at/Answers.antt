-- `pattern_at` meets its contract: what it reads at a place is the pattern there, by the law pattern_here.
use Rattle.listing_rules.proofs.Prelude.{◌∙◌, ◌≡◌, arith, get_or}
use Rattle.command_writer.proofs.PackedPatterns.{pattern_here}
use Rattle.command_writer.proofs.patterns.pattern_at.Goals as goal

pub returns : goal.returns
returns c =
    let n : c.wide.result ≡ get_or c.args.list.now c.args.at 0 = c.wide.ensures ∙
    c.byte_at.ensures in
    pattern_here c.args.list.now c.args.at c.requires _ _ c.least.ensures (omega arith)
