-- `read_tail` meets its contract, by its four texts (`Reading`).
use Rattle.std.specs.Prelude.{Some}
use Rattle.listing_rules.proofs.Prelude.{◌∙◌, sym}
use Rattle.listing_rules.specs.Bytes.{text}
use Rattle.line_reader.proofs.Reading.{tail_plain, tail_subscribed, tail_special, tail_both, tail_other}
use Rattle.line_reader.proofs.read_tail.Goals as goal

pub returns-then-same_bytes : goal.returns-then-same_bytes
returns-then-same_bytes c =
    tail_plain _ (sym c.same_bytes.ensures ∙ c.if-same_bytes.true)

pub returns-then-same_bytes-2 : goal.returns-then-same_bytes-2
unfolding text
returns-then-same_bytes-2 c =
    tail_subscribed _ (sym c.same_bytes.ensures ∙ c.if-same_bytes.false)
    (sym c.same_bytes-2.ensures ∙ c.if-same_bytes-2.true)

pub returns-then-same_bytes-3 : goal.returns-then-same_bytes-3
unfolding text
returns-then-same_bytes-3 c =
    tail_special _ (sym c.same_bytes.ensures ∙ c.if-same_bytes.false)
    (sym c.same_bytes-2.ensures ∙ c.if-same_bytes-2.false)
    (sym c.same_bytes-3.ensures ∙ c.if-same_bytes-3.true)

pub returns-then-same_bytes-4 : goal.returns-then-same_bytes-4
unfolding text
returns-then-same_bytes-4 c =
    (λ i. Some (record { bits = c.union.ensures i })) ∙ tail_both _ (sym c.same_bytes.ensures ∙ c.if-same_bytes.false)
    (sym c.same_bytes-2.ensures ∙ c.if-same_bytes-2.false)
    (sym c.same_bytes-3.ensures ∙ c.if-same_bytes-3.false)
    (sym c.same_bytes-4.ensures ∙ c.if-same_bytes-4.true)

pub returns : goal.returns
unfolding text
returns c =
    tail_other _ (sym c.same_bytes.ensures ∙ c.if-same_bytes.false)
    (sym c.same_bytes-2.ensures ∙ c.if-same_bytes-2.false)
    (sym c.same_bytes-3.ensures ∙ c.if-same_bytes-3.false)
    (sym c.same_bytes-4.ensures ∙ c.if-same_bytes-4.false)
