-- The tag of a line: what the code's tests say of it.
use Rattle.std.specs.Prelude.{Option as Maybe, Some}
use Rattle.std.specs.List.{starts_with}
use Rattle.listing_rules.proofs.Prelude.{◌∙◌, ◌≡◌, ap, refl, Bool, ◌||◌, ◌&&◌, and-true, cond, false, true, Option, none, some, List, [], ◌∷◌, ℕ}
use Rattle.listing_rules.proofs.Prelude.{◌-◌, arith, eqb, drop, length, length-drop, take, take_all}
use Rattle.listing_rules.specs.Bytes.{crlf}
use Rattle.listing_rules.specs.Tokens.{got, at, after, tag_byte, run₁}
use Rattle.listing_rules.specs.Command.{is_some}
use Rattle.command_tokens.specs.declared.Span.{Span}
use Rattle.command_tokens.specs.declared.Cursor.{Cursor}
use Rattle.command_tokens.specs.Spans.{raw_bytes}
use Rattle.command_tokens.specs.Tokens.{token_is, BareIn}
use Rattle.command_tokens.proofs.Binds.{bare_bytes, bare_ahead, token_found}
use Rattle.conversation.specs.Texts.{no_tag}
use Rattle.conversation.specs.Conversation.{tag_among, tag_of}

-- no run of tag bytes
pub tag_missing : (l : List ℕ) → run₁ tag_byte l ≡ none → tag_of l ≡ no_tag
unfolding tag_of tag_among
tag_missing l e = ap tag_among e

-- a space, or the end of the line
space_begins : (d : List ℕ) → starts_with eqb d (32 ∷ []) ≡ at 32 d
unfolding at
space_begins [] = refl
space_begins (c ∷ d) = and-true (eqb 32 c)

line_ends : (d : List ℕ) → starts_with eqb d (13 ∷ 10 ∷ []) ≡ is_some (after crlf d)
unfolding after is_some crlf
line_ends [] = refl
line_ends (c ∷ []) = go (eqb 13 c)
  where
    go : (o : Bool) → (o && false) ≡ is_some (cond {A = Option (List ℕ)} o none none)
    go true = refl
    go false = refl
line_ends (c ∷ b ∷ d) = go (eqb 13 c) (eqb 10 b)
  where
    go : (o u : Bool) → (o && (u && true)) ≡ is_some (cond {A = Option (List ℕ)} o (cond u (some d) none) none)
    go true true = refl
    go true false = refl
    go false u = refl

-- a run is there; whether it is a tag hangs on what comes after it
module _ (l : List ℕ) {r : Maybe (Span × Cursor)} {t : Span} {c : Cursor} (q : r ≡ Some (t, c)) (e : token_is l r ≡ run₁ tag_byte l) (h : BareIn l 0 r) where
  abbrev behind : List ℕ
  behind = take (length l - c.at) (drop c.at l)

  pub tag_found : {o u : Bool} → o ≡ starts_with eqb behind (32 ∷ []) → u ≡ starts_with eqb behind (13 ∷ 10 ∷ []) → (b : Bool) → (o || u) ≡ b →
      tag_of l ≡ cond b (raw_bytes l t) no_tag
  unfolding tag_of tag_among got
  tag_found {o} {u} i j b k =
      let all : behind ≡ drop c.at l = take_all (length l - c.at) (drop c.at l) (omega (arith, length-drop c.at l)) in
      let space : o ≡ at 32 (drop c.at l) = i ∙ ap (λ (x : List ℕ). starts_with eqb x (32 ∷ [])) all ∙ space_begins (drop c.at l) in
      let end : u ≡ is_some (after crlf (drop c.at l)) = j ∙ ap (λ (x : List ℕ). starts_with eqb x (13 ∷ 10 ∷ [])) all ∙ line_ends (drop c.at l) in
      ap tag_among (token_found l e q) ∙ rw (← space, ← end, k, bare_bytes l t (bare_ahead l 0 h q).bare)
