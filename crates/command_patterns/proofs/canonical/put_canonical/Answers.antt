-- `put_canonical`: three writes, one after the other. Rests on octets' Puts.
use Rattle.listing_rules.proofs.Prelude.{◌∙◌, ◌≡◌, ap, subst, sym, ◌++◌, ◌∷◌, ◌%◌, ℕ, length, length-append}
use Rattle.octets.specs.Put.{Put}
use Rattle.octets.proofs.Puts.{put_then}
use Rattle.command_tokens.specs.Spans.{span_bytes}
use Rattle.command_patterns.proofs.canonical.put_canonical.Goals as goal

pub returns : goal.returns
returns c =
    let reference = span_bytes c.args.line.now c.args.reference in
    let pattern = span_bytes c.args.line.now c.args.pattern in
    let head = c.span_len-head.ensures in
    let tail = c.span_len-tail.ensures in
    let size : c.length_byte.result ≡ length (reference ++ pattern) % 256 = c.length_byte.ensures ∙ rw
    (head, tail) (ap (λ (x : ℕ). x % 256) (sym (length-append reference pattern))) in
    subst (λ (x : ℕ). Put c.args.buf.now c.put_span.new.buf c.args.at (x ∷ (reference ++ pattern)) c.put_span.result) size
    (put_then (put_then c.put-first.ensures c.put_span-second.ensures) c.put_span.ensures)
