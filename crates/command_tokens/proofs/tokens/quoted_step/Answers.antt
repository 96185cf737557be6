-- `quoted_step`: each way through the tests gives the step of the definition.
use Rattle.listing_rules.proofs.Prelude.{◌∙◌, sym, eq-eqb, ne_eqb}
use Rattle.command_tokens.specs.Tokens.{quoted_step}
use Rattle.command_tokens.proofs.tokens.quoted_step.Goals as goal

pub returns-then-b : goal.returns-then-b
unfolding quoted_step
returns-then-b c =
    rw (c.if-escaped.true, c.if-b.true)

pub returns-else-b : goal.returns-else-b
unfolding quoted_step
returns-else-b c =
    rw (c.if-escaped.true, c.if-b.false)

pub returns-then-b-eq-QUOTE : goal.returns-then-b-eq-QUOTE
unfolding quoted_step
returns-then-b-eq-QUOTE c =
    rw (c.if-escaped.false, eq-eqb _ _ c.if-b-eq-QUOTE.true)

pub returns-then-is_line_byte : goal.returns-then-is_line_byte
unfolding quoted_step
returns-then-is_line_byte c =
    rw (c.if-escaped.false, ne_eqb _ _ c.if-b-eq-QUOTE.false, sym c.is_line_byte.ensures ∙ c.if-is_line_byte.true)

pub returns-else-is_line_byte : goal.returns-else-is_line_byte
unfolding quoted_step
returns-else-is_line_byte c =
    rw (c.if-escaped.false, ne_eqb _ _ c.if-b-eq-QUOTE.false, sym c.is_line_byte.ensures ∙ c.if-is_line_byte.false)
