-- `octets::same_bytes` meets its contract: `==` compares byte by byte.
use Rattle.std.proofs.Common.{◌∙◌}
use Rattle.octets.proofs.Same.{same_pointwise}
use Rattle.octets.proofs.same_bytes.Goals as goal

pub returns : goal.returns
returns c = c.eq.ensures ∙ same_pointwise c.args.a.now c.args.b.now
