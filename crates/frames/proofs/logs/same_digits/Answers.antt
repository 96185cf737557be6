-- `frames::logs::same_digits` meets its contract: the digits and the bytes from a place on decide. By LogLaws.
use Rattle.listing_rules.proofs.Prelude.{◌∙◌, refl, sym}
use Rattle.frames.proofs.LogLaws.{digits_lengths, digits_differ, digits_step, digits_end}
use Rattle.frames.proofs.logs.same_digits.Goals as goal

pub returns-then-digits-bytes : goal.returns-then-digits-bytes
returns-then-digits-bytes c =
    sym (digits_lengths c.args.digits.now c.args.bytes.now c.if-digits-bytes.true)

pub loop-i-init : goal.loop-i-init
loop-i-init c = refl

pub returns-then-pair_value-b : goal.returns-then-pair_value-b
returns-then-pair_value-b c =
    let args = c.args in
    sym (digits_differ args.digits.now args.bytes.now c.loop-i.i c.if-digits-bytes.false c.loop-i-test.true
    (λ e. c.if-pair_value-b.true (c.pair_value.ensures ∙ e))) ∙ c.loop-i.invariant

pub loop-i-preserved : goal.loop-i-preserved
loop-i-preserved c =
    let args = c.args in
    sym (digits_step args.digits.now args.bytes.now c.loop-i.i c.if-digits-bytes.false c.loop-i-test.true
    (sym c.pair_value.ensures ∙ c.if-pair_value-b.false)) ∙ c.loop-i.invariant

pub returns : goal.returns
returns c =
    let args = c.args in
    sym (digits_end args.digits.now args.bytes.now c.loop-i.i c.if-digits-bytes.false c.loop-i-test.false) ∙ c.loop-i.invariant
