-- Laws of a quoted string without its escapes: one byte at a time; and that neither it nor a span means more bytes than there are.
use Rattle.listing_rules.proofs.Prelude.{◌≡◌, Bool, ◌&&◌, cond, false, not, true, List, [], ◌∷◌, ◌+◌, ◌-◌, ◌<◌, ◌≤◌, suc, ℕ, add-one, arith, eqb}
use Rattle.listing_rules.proofs.Prelude.{drop, drop_of_length-le, get_or, length, length-drop, length-take, drop-cons}
use Rattle.command_tokens.specs.declared.Span.{Span}
use Rattle.command_tokens.specs.Spans.{plain, raw_bytes, span_bytes}

module _ (s : List ℕ) (i : ℕ) (esc : Bool) where
  -- a backslash that escapes
  pub plain_skip : i < length s → not esc && eqb (get_or s i 0) 92 ≡ true → plain esc (drop i s) ≡ plain true (drop (i + 1) s)
  unfolding plain
  plain_skip h e = rw (add-one, drop-cons s i 0 h, e)

  -- any other byte
  pub plain_keep : i < length s → not esc && eqb (get_or s i 0) 92 ≡ false → plain esc (drop i s) ≡ get_or s i 0 ∷ plain false (drop (i + 1) s)
  unfolding plain
  plain_keep h e = rw (add-one, drop-cons s i 0 h, e)

  pub plain_out : length s ≤ i → plain esc (drop i s) ≡ []
  unfolding plain
  plain_out h = rw (drop_of_length-le s h)

plain_short : (esc : Bool) (s : List ℕ) → length (plain esc s) ≤ length s
unfolding plain
plain_short esc [] = omega arith
plain_short esc (x ∷ xs) = go (not esc && eqb x 92) (plain_short true xs) (plain_short false xs)
  where
    go : (o : Bool) → length (plain true xs) ≤ length xs → length (plain false xs) ≤ length xs → length (cond o (plain true xs) (x ∷ plain false xs)) ≤ suc (length xs)
    go true skipped kept = omega (arith, skipped)
    go false skipped kept = omega (arith, kept)

pub span_short : (s : List ℕ) (t : Span) → length (span_bytes s t) ≤ length s
unfolding span_bytes raw_bytes
span_short s t = go t.quoted
  where
    raw : length (raw_bytes s t) ≤ length s
    raw = omega (arith, length-take (t.end - t.start) (drop t.start s), length-drop t.start s)

    go : (o : Bool) → length (cond o (plain false (raw_bytes s t)) (raw_bytes s t)) ≤ length s
    go true = omega (arith, raw, plain_short false (raw_bytes s t))
    go false = raw
