-- `is_printable` meets its contract: the closure tests one byte.
use Rattle.std.proofs.Common.{◌∙◌, rules, tests}
use Rattle.std.proofs.lemmas.Iterator.{YieldsList-from_slice}
use Rattle.std.proofs.lemmas.Iterator.Search.{all_from_yields_List}
use Rattle.listing_rules.specs.Bytes.{within}
use Rattle.octets.proofs.Every.{all_list}
use Rattle.namespace_list.proofs.is_printable.Goals as goal

pub returns : goal.returns
unfolding within
returns c =
    let s = c.args.s.now in
    all_from_yields_List (within 32 126) c.all.new.self _ c.all.result c.all.ensures.ran (YieldsList-from_slice s cc) (λ x b q k. search (rules, tests))
    ∙ all_list (within 32 126) s
