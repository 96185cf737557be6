-- `all_of_tag` meets its contract: the closure tests one byte.
use Rattle.std.proofs.Common.{◌∙◌, rules, tests}
use Rattle.std.proofs.lemmas.Iterator.{YieldsList-from_slice}
use Rattle.std.proofs.lemmas.Iterator.Search.{all_from_yields_List}
use Rattle.listing_rules.specs.Tokens.{tag_byte}
use Rattle.octets.proofs.Every.{all_list}
use Rattle.command_writer.proofs.strings.all_of_tag.Goals as goal

pub returns : goal.returns
returns c =
    let s = c.args.s.now in
    all_from_yields_List tag_byte c.all.new.self _ c.all.result c.all.ensures.ran (YieldsList-from_slice s cc) (λ x b q k. search (rules, tests))
    ∙ all_list tag_byte s
