-- `put_return_words` meets its contract: three words one by one (`wording-more`), each shown where its bit is set (`contains-bit`).
use Rattle.listing_rules.proofs.Prelude.{rules}
use Rattle.listing_rules.specs.Bytes.{text}
use Rattle.listing_rules.specs.Joining.{options_from}
use Rattle.octets.proofs.Sets.{contains_bit}
use Rattle.command_writer.specs.Words.{return_words}
use Rattle.command_writer.proofs.OptionWords.{wording_none, wording_more, wording_all}
use Rattle.command_writer.proofs.words.put_return_words.Goals as goal

pub returns : goal.returns
unfolding text return_words options_from
returns c =
    let o = c.args.options.bits in
    rw (← contains_bit 4 o, ← contains_bit 5 o, ← contains_bit 6 o, ← c.has.ensures, ← c.has-2.ensures, ← c.has-3.ensures)
    (wording_all _ (wording_more _ _ _ _ _ _ (wording_more _ _ _ _ _ _ (wording_more _ _ _ _ _ _
    (wording_none _ _ _ _ (search rules) (search rules))
    c.put_word-a.ensures.text c.put_word-a.ensures.first)
    c.put_word-b.ensures.text c.put_word-b.ensures.first)
    c.put_word-c.ensures.text c.put_word-c.ensures.first))
