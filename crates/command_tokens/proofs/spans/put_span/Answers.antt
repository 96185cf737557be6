-- `put_span`: a quoted span is written without its escapes, a bare one as it stands. Rests on Binds.
use Rattle.command_tokens.proofs.Binds.{bare_bytes, quoted_bytes}
use Rattle.listing_rules.proofs.Prelude.{◌∙◌, ap, subst, sym, false, List, ℕ}
use Rattle.octets.specs.Put.{Put}
use Rattle.command_tokens.specs.Spans.{plain}
use Rattle.command_tokens.proofs.spans.put_span.Goals as goal

pub returns-then-span : goal.returns-then-span
returns-then-span c =
    subst (λ (x : List ℕ). Put c.args.buf.now c.put_plain.new.buf c.args.at x c.put_plain.result)
    (ap (plain false) c.raw-bytes.ensures ∙ sym (quoted_bytes _ _ c.if-span.true))
    c.put_plain.ensures

pub returns : goal.returns
returns c =
    subst (λ (x : List ℕ). Put c.args.buf.now c.put_all.new.buf c.args.at x c.put_all.result)
    (c.raw-bytes.ensures ∙ sym (bare_bytes _ _ c.if-span.false))
    c.put_all.ensures
