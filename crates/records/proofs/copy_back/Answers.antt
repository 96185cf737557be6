-- `records::copy_back` meets its contract: a turn stores one record more. By Copies.
use Rattle.std.proofs.Common.{◌≡◌, ◌-◌, map, drop, arith}
use Rattle.std.proofs.Math.Seq.{paste-zero}
use Rattle.records.specs.Words.{struct_of}
use Rattle.records.proofs.Copies.{copied_same}
use Rattle.records.proofs.copy_back.Goals as goal

pub loop-i-init : goal.loop-i-init
loop-i-init c =
    let none : c.args.from - c.args.from ≡ 0 = omega arith in
    (omega arith, omega arith, rw none (paste-zero c.args.records.now c.args.from (map struct_of (drop c.args.from c.args.words.now))))

pub loop-i-preserved : goal.loop-i-preserved
loop-i-preserved c =
    let more = copied_same struct_of c.args.records.now c.args.from c.args.words.now 0 c.loop-i.i (omega arith) (omega arith) (omega arith) in
    (omega arith, omega arith, rw (c.loop-i.invariant.2, c.from.ensures) more)
