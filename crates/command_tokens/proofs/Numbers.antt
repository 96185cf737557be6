-- Laws of a literal: the number in its header, one digit at a time, and the bytes behind it as a token.
use Rattle.std.specs.Prelude.{Option, Some}
use Rattle.listing_rules.proofs.Prelude.{◌∙◌, ◌≡◌, ap, refl, sym, Bool, ◌&&◌, cond, false, true, none, some, List, ◌++◌, ◌*◌, ◌+◌, ◌-◌, ◌<◌, ◌≤◌, min}
use Rattle.listing_rules.proofs.Prelude.{suc, ℕ, add-one, arith, leb, drop, drop_of_length-le, get_or, length, take, drop-cons, drop-drop, le-leb}
use Rattle.listing_rules.proofs.Prelude.{lt-leb}
use Rattle.listing_rules.specs.Bytes.{text, crlf}
use Rattle.listing_rules.specs.Tokens.{got, ◌>>=◌, after, run₁, digit_byte, decimal, number, literal}
use Rattle.command_shape.proofs.Tails.{capped_decimal}
use Rattle.command_tokens.specs.declared.Span.{Span}
use Rattle.command_tokens.specs.declared.Cursor.{Cursor}
use Rattle.command_tokens.specs.Spans.{raw_bytes, span_bytes}
use Rattle.command_tokens.specs.Tokens.{token_is, BareIn}
use Rattle.command_tokens.proofs.Binds.{bare_ahead, bare_bytes}

module _ (s : List ℕ) (i v : ℕ) where
  -- one digit more
  pub number_step : i < length s → min (decimal v (drop i s)) 1025 ≡ min (decimal (min (10 * v + (get_or s i 0 - 48)) 1025) (drop (i + 1) s)) 1025
  unfolding decimal
  number_step h = rw (drop-cons s i 0 h, add-one) (sym (capped_decimal (10 * v + (get_or s i 0 - 48)) (drop (suc i) s)))

  pub number_out : length s ≤ i → decimal v (drop i s) ≡ v
  unfolding decimal
  number_out h = rw (drop_of_length-le s h)

module _ (t : List ℕ) where
  -- no digit
  pub literal_none : run₁ digit_byte t ≡ none → literal t ≡ none
  unfolding literal number ◌>>=◌
  literal_none e = rw e

  module _ (v w : List ℕ) (e : run₁ digit_byte t ≡ some (got v w)) where
    -- the header does not end behind its digits
    pub literal_open : after (text "}" ++ crlf) w ≡ none → literal t ≡ none
    unfolding literal number ◌>>=◌ got
    literal_open f = rw (e, f)

    module _ (n : ℕ) (m : n ≡ min (decimal 0 v) 1025) (u : List ℕ) (f : after (text "}" ++ crlf) w ≡ some u) where
      behind : literal t ≡ cond (leb (decimal 0 v) 1024 && leb (decimal 0 v) (length u)) (some (got (take (decimal 0 v) u) (drop (decimal 0 v) u))) none
      unfolding literal number ◌>>=◌ got
      behind = rw (e, f)

      -- more bytes than a literal may have
      pub literal_long : 1024 < n → literal t ≡ none
      literal_long h = behind ∙ rw (lt-leb (decimal 0 v) 1024 (omega arith))

      -- fewer bytes are left
      pub literal_cut : length u < n → literal t ≡ none
      literal_cut h = behind ∙ cut (leb (decimal 0 v) 1024)
        where
          cut : (o : Bool) → cond (o && leb (decimal 0 v) (length u)) (some (got (take (decimal 0 v) u) (drop (decimal 0 v) u))) none ≡ none
          cut true = rw (lt-leb (decimal 0 v) (length u) (omega arith))
          cut false = refl

      pub literal_whole : n ≤ 1024 → n ≤ length u → literal t ≡ some (got (take n u) (drop n u))
      literal_whole h k = let same : decimal 0 v ≡ n = omega arith in behind ∙ rw (same, le-leb n 1024 h, le-leb n (length u) k)

-- the number of the digits that a bare token holds
pub digits_number : (s : List ℕ) (at : ℕ) {r : Option (Span × Cursor)} {t : Span} {c : Cursor} → BareIn s at r → r ≡ Some (t, c) → {n : ℕ} {b : List ℕ} →
    n ≡ min (decimal 0 b) 1025 → b ≡ raw_bytes s t → n ≡ min (decimal 0 (span_bytes s t)) 1025
digits_number s at {t} h q e f = e ∙ ap (λ (x : List ℕ). min (decimal 0 x) 1025) (f ∙ sym (bare_bytes s t (bare_ahead s at h q).bare))

-- n bytes from a place on, as a token
pub bytes_token : (s : List ℕ) (i n : ℕ) → token_is s (Some ((record { start = i; end = i + n; quoted = false }), (record { at = i + n }))) ≡ some (got (take n (drop i s)) (drop n (drop i s)))
unfolding token_is span_bytes raw_bytes got
bytes_token s i n = let here : i + n - i ≡ n = omega arith in rw (here, drop-drop n i s)
