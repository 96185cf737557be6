-- `octets::escapes` meets its contract: a byte that is escaped takes two places.
use Rattle.std.proofs.Common.{◌≡◌, ◌||◌, arith, rules, tests, length, nat_eq}
use Rattle.std.specs.List.{filter}
use Rattle.std.proofs.lemmas.Iterator.{YieldsList-from_slice}
use Rattle.std.proofs.lemmas.Iterator.Consumers.{YieldsList-at, count_from_yields_List, YieldsList-from_filter}
use Rattle.octets.proofs.Escaping.{escaped_length}
use Rattle.octets.proofs.escapes.Goals as goal

pub returns : goal.returns
returns c =
    let s = c.args.s.now in
    let counted : c.count.result ≡ length (filter (λ b. nat_eq b 34 || nat_eq b 92) s) =
    count_from_yields_List _ _ c.count.ensures.ran (YieldsList-from_filter _ (λ b. nat_eq b 34 || nat_eq b 92) (YieldsList-at c.filter.ensures.source (YieldsList-from_slice s c.iter.ensures.rest)) c.filter.ensures.closure (λ x r q k. search (rules, tests))) in
    omega (arith, counted, escaped_length s)
