-- `span_len`: the length of a quoted span without its escapes, of a bare one as it stands. Rests on Binds.
use Rattle.command_tokens.proofs.Binds.{bare_bytes, quoted_bytes}
use Rattle.listing_rules.proofs.Prelude.{◌∙◌, ap, sym, false, List, ℕ, length}
use Rattle.command_tokens.specs.Spans.{plain}
use Rattle.command_tokens.proofs.spans.span_len.Goals as goal

pub returns-then-span : goal.returns-then-span
returns-then-span c =
    c.plain_len.ensures ∙ ap (λ (x : List ℕ). length (plain false x)) c.raw-bytes.ensures ∙ ap (λ (x : List ℕ). length x) (sym (quoted_bytes _ _ c.if-span.true))

pub returns : goal.returns
returns c =
    ap (λ (x : List ℕ). length x) (c.raw-bytes.ensures ∙ sym (bare_bytes _ _ c.if-span.false))
