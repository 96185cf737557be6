-- `octets::spells_word` meets its contract: each byte raised is the word's.
use Rattle.std.proofs.Common.{◌∙◌, sym, rules, tests, nat_eq, ne_eqb}
use Rattle.std.proofs.lemmas.Iterator.{YieldsList-from_slice, YieldsList-from_zip}
use Rattle.std.proofs.lemmas.Iterator.Search.{all_from_yields_List}
use Rattle.listing_rules.specs.Bytes.{raise}
use Rattle.octets.proofs.Same.{spells_zip, spells_lengths}
use Rattle.octets.proofs.spells_word.Goals as goal

pub returns-then-s-word : goal.returns-then-s-word
returns-then-s-word c =
    let s = c.args.s.now in
    let w = c.args.word.now in
    all_from_yields_List (λ p. nat_eq (raise p.0) p.1) c.all.new.self _ c.all.result c.all.ensures.ran (YieldsList-from_zip (YieldsList-from_slice s cc) (YieldsList-from_slice w cc)) (λ x b q k. search (rules, tests))
    ∙ spells_zip s w c.if-s-word.true

pub returns-else-s-word : goal.returns-else-s-word
returns-else-s-word c =
    ne_eqb _ _ c.if-s-word.false ∙ sym (spells_lengths _ _ c.if-s-word.false)
