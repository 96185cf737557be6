-- `records::copy_in` meets its contract: a turn stores one word more, which tells its record. By Copies.
use Rattle.std.proofs.Common.{◌∙◌, ap, sym, arith}
use Rattle.records.specs.Words.{word_of, record_of, meant}
use Rattle.records.proofs.Copies.{copied_more, told_more}
use Rattle.records.proofs.copy_in.Goals as goal

pub loop-i-preserved : goal.loop-i-preserved
loop-i-preserved c =
    let rs = c.args.records.now in
    let tells = told_more word_of record_of meant rs _ c.loop-i.i (omega arith) (ap record_of (sym c.from.ensures.0) ∙ c.from.ensures.1) c.loop-i.invariant.2 in
    let more = copied_more word_of c.args.words.now 0 rs _ c.loop-i.i c.loop-i.i (omega arith) (omega arith) (omega arith) in
    (omega arith, rw (c.loop-i.invariant.1, c.from.ensures.0) more, tells)
