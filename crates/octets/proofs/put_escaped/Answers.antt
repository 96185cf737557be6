-- `octets::put_escaped` meets its contract: what needs no escape stands as it is (`escaped-plain`).
use Rattle.octets.proofs.Escaping.{escaped_plain}
use Rattle.listing_rules.proofs.Prelude.{arith}
use Rattle.octets.proofs.put_escaped.Goals as goal

pub returns-then-escapes-eq0 : goal.returns-then-escapes-eq0
returns-then-escapes-eq0 c =
    let escapes = c.escapes in
    rw (escaped_plain c.args.s.now (omega (arith, escapes.ensures))) c.put_all.ensures
