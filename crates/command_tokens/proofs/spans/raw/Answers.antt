-- `raw`: the bytes between two places, for places in the line, behind it, or in the wrong order. Rests on Cuts.
use Rattle.command_tokens.specs.Spans.{raw_bytes}
use Rattle.command_tokens.proofs.Cuts.{cut_within}
use Rattle.command_tokens.proofs.spans.raw.Goals as goal

pub returns : goal.returns
unfolding raw_bytes
returns c = rw (c.min-start.ensures, c.min-end.ensures) (cut_within c.args.text.now c.args.span.start c.args.span.end)
