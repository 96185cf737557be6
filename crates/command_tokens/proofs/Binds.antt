-- Laws of reading on: what a chain of readings gives is what its parts give; what a token that was found tells.
use Rattle.std.specs.Prelude.{Option as Maybe, Some, None}
use Rattle.listing_rules.proofs.Prelude.{◌∙◌, ◌≡◌, ap, subst, sym, false, true, Option, none, some, List, ◌<◌, ◌≤◌, ℕ, drop, length}
use Rattle.listing_rules.specs.Tokens.{Got, got, ◌>>=◌}
use Rattle.command_tokens.specs.declared.Span.{Span}
use Rattle.command_tokens.specs.declared.Cursor.{Cursor}
use Rattle.command_tokens.specs.Spans.{plain, span_bytes, raw_bytes}
use Rattle.command_tokens.specs.Tokens.{token_is, behind_is, Ahead, TokenIn, Bare, BareIn, BehindIn}

module _ {A B : Type 0} where
  pub bind_none : {x : Option A} (f : A → Option B) → x ≡ none → (x >>= f) ≡ none
  unfolding ◌>>=◌
  bind_none f e = rw e

  pub bind_go : {x : Option A} (f : A → Option B) {a : A} → x ≡ some a → (x >>= f) ≡ f a
  unfolding ◌>>=◌
  bind_go f e = rw e

-- two readings that are the same have read the same
module _ {A : Type 0} where
  val_or : A → Option (Got A) → A
  val_or d none = d
  val_or d (some g) = g.val

  pub got_val : {g h : Got A} → some g ≡ some h → g.val ≡ h.val
  unfolding val_or
  got_val {g} e = ap (val_or g.val) e

-- a token that was found, or was not
module _ (s : List ℕ) {r : Maybe (Span × Cursor)} {x : Option (Got (List ℕ))} (e : token_is s r ≡ x) where
  pub token_found : {t : Span} {c : Cursor} → r ≡ Some (t, c) → x ≡ some (got (span_bytes s t) (drop c.at s))
  unfolding token_is
  token_found q = sym e ∙ ap (token_is s) q

  pub token_missing : r ≡ None → x ≡ none
  unfolding token_is
  token_missing q = sym e ∙ ap (token_is s) q

pub token_ahead : (s : List ℕ) (at : ℕ) {r : Maybe (Span × Cursor)} {t : Span} {c : Cursor} → TokenIn s at r → r ≡ Some (t, c) → Ahead s at t c
unfolding TokenIn
token_ahead s at h q = subst (TokenIn s at) q h

pub bare_ahead : (s : List ℕ) (at : ℕ) {r : Maybe (Span × Cursor)} {t : Span} {c : Cursor} → BareIn s at r → r ≡ Some (t, c) → Bare s at t c
unfolding BareIn
bare_ahead s at h q = subst (BareIn s at) q h

pub bare_token : (s : List ℕ) (at : ℕ) (r : Maybe (Span × Cursor)) → BareIn s at r → TokenIn s at r
unfolding BareIn TokenIn
bare_token s at (Some (t, c)) h = h.ahead
bare_token s at None h = tt

pub bare_bytes : (s : List ℕ) (t : Span) → t.quoted ≡ false → span_bytes s t ≡ raw_bytes s t
unfolding span_bytes
bare_bytes s t e = rw e

pub quoted_bytes : (s : List ℕ) (t : Span) → t.quoted ≡ true → span_bytes s t ≡ plain false (raw_bytes s t)
unfolding span_bytes
quoted_bytes s t e = rw e

-- a place behind something, or none
module _ (s : List ℕ) {r : Maybe Cursor} {x : Option (List ℕ)} (e : behind_is s r ≡ x) where
  pub behind_at : {c : Cursor} → r ≡ Some c → x ≡ some (drop c.at s)
  unfolding behind_is
  behind_at q = sym e ∙ ap (behind_is s) q

  pub behind_nothing : r ≡ None → x ≡ none
  unfolding behind_is
  behind_nothing q = sym e ∙ ap (behind_is s) q

pub behind_ahead : (s : List ℕ) (at : ℕ) {r : Maybe Cursor} {c : Cursor} → BehindIn s at r → r ≡ Some c → (at < c.at) × (c.at ≤ length s)
unfolding BehindIn
behind_ahead s at h q = subst (BehindIn s at) q h
