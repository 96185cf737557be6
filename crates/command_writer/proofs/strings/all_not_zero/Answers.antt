-- `all_not_zero` meets its contract: the closure tests one byte.
use Rattle.std.proofs.Common.{◌∙◌, rules, tests}
use Rattle.std.proofs.lemmas.Iterator.{YieldsList-from_slice}
use Rattle.std.proofs.lemmas.Iterator.Search.{all_from_yields_List}
use Rattle.listing_rules.proofs.Prelude.{not, eqb}
use Rattle.octets.proofs.Every.{all_list}
use Rattle.command_writer.proofs.strings.all_not_zero.Goals as goal

pub returns : goal.returns
returns c =
    let s = c.args.s.now in
    all_from_yields_List (λ x. not (eqb x 0)) c.all.new.self _ c.all.result c.all.ensures.ran (YieldsList-from_slice s cc) (λ x b q k. search (rules, tests))
    ∙ all_list (λ x. not (eqb x 0)) s
