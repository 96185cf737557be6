-- `put_selection` meets its contract: four words one by one (`wording-more`), each shown where its bit is set (`contains-bit`).
use Rattle.listing_rules.proofs.Prelude.{◌<◌, ◌^◌, rules}
use Rattle.listing_rules.specs.Bytes.{text}
use Rattle.listing_rules.specs.Joining.{options_from, selection_text}
use Rattle.octets.proofs.Sets.{contains_bit}
use Rattle.command_writer.proofs.OptionWords.{wording_none, wording_more, wording_all}
use Rattle.command_writer.proofs.words.put_selection.Goals as goal

pub returns : goal.returns
unfolding text selection_text options_from
returns c =
    let small : c.args.at < 2 ^ 64 = search rules in
    let o = c.args.options.bits in
    rw (
      ← contains_bit 0 o,
      ← contains_bit 1 o,
      ← contains_bit 2 o,
      ← contains_bit 3 o,
      ← c.has.ensures,
      ← c.has-2.ensures,
      ← c.has-3.ensures,
      ← c.has-4.ensures,
    )
    (wording_all _ (wording_more _ _ _ _ _ _ (wording_more _ _ _ _ _ _ (wording_more _ _ _ _ _ _ (wording_more _ _ _ _ _ _
    (wording_none _ _ _ _ (search rules) small)
    c.put_word-a.ensures.text c.put_word-a.ensures.first)
    c.put_word-b.ensures.text c.put_word-b.ensures.first)
    c.put_word-c.ensures.text c.put_word-c.ensures.first)
    c.put_word-d.ensures.text c.put_word-d.ensures.first))
