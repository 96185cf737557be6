-- Laws of a quoted string: one byte at a time, that its bytes are those of a line, and what the string is as a token.
use Rattle.std.specs.Prelude.{Some, None}
use Rattle.listing_rules.proofs.Prelude.{◌∙◌, ◌≡◌, ap, refl, sym, Bool, ◌&&◌, ◌||◌, cond, false, false≢true, not, true, Option, none, some, List, []}
use Rattle.listing_rules.proofs.Prelude.{◌∷◌, ◌+◌, ◌-◌, ◌<◌, ◌≤◌, suc, ℕ, add-zero, add-one, arith, eqb, drop, drop_of_length-le, get_or, length, take}
use Rattle.listing_rules.proofs.Prelude.{drop-cons, drop-drop, eqb-true}
use Rattle.listing_rules.specs.Bytes.{quote, backslash, within, all}
use Rattle.listing_rules.specs.Tokens.{Got, got, ◌>>=◌, with_first, unquoted, line_byte, quoted_text}
use Rattle.command_tokens.specs.declared.tokens.Quote.TheVariants.{More, End, Bad}
use Rattle.command_tokens.specs.Spans.{plain, raw_bytes, span_bytes}
use Rattle.command_tokens.specs.Tokens.{token_is, quoted_step, closing, closed_at}

module _ (s : List ℕ) (b i : ℕ) (esc : Bool) where
  -- the line ends before the string does
  pub quoted_out : length s ≤ i → closed_at b i (closing esc (drop i s)) ≡ None
  unfolding closing closed_at
  quoted_out h = rw (drop_of_length-le s h)

  module _ (h : i < length s) where
    pub quoted_more : (e : Bool) → quoted_step esc (get_or s i 0) ≡ More e → closed_at b i (closing esc (drop i s)) ≡ closed_at b (i + 1) (closing e (drop (i + 1) s))
    unfolding closing closed_at ◌>>=◌
    quoted_more e q = rw (drop-cons s i 0 h, q, closing, add-one) (one_more (closing e (drop (suc i) s)))
      where
        one_more : (o : Option ℕ) → closed_at b i (o >>= λ k. some (suc k)) ≡ closed_at b (suc i) o
        one_more none = refl
        one_more (some k) = let w : i + suc k ≡ suc i + k = omega arith in rw w

    pub quoted_end : quoted_step esc (get_or s i 0) ≡ End → closed_at b i (closing esc (drop i s)) ≡ Some ((record { start = b; end = i; quoted = true }), (record { at = i + 1 }))
    unfolding closing closed_at
    quoted_end q = rw (drop-cons s i 0 h, q, closing, add-zero)

    pub quoted_bad : quoted_step esc (get_or s i 0) ≡ Bad → closed_at b i (closing esc (drop i s)) ≡ None
    unfolding closing closed_at
    quoted_bad q = rw (drop-cons s i 0 h, q, closing)

-- the string, read by the quote that closes it
behind_quote : Bool → List ℕ → ℕ → Option (Got (List ℕ))
behind_quote esc l k = some (got (plain esc (take k l)) (drop (suc k) l))

-- the first byte of the string, kept or skipped
module _ (x : ℕ) (xs : List ℕ) where
  first_kept : (esc : Bool) → not esc && eqb x 92 ≡ false → (o : Option ℕ) → (o >>= behind_quote false xs >>= λ g. some (with_first x g)) ≡ (o >>= (λ k. some (suc k)) >>= behind_quote esc (x ∷ xs))
  unfolding behind_quote plain got with_first ◌>>=◌
  first_kept esc h none = refl
  first_kept esc h (some k) = rw h

  first_skipped : eqb x 92 ≡ true → (o : Option ℕ) → (o >>= behind_quote true xs) ≡ (o >>= (λ k. some (suc k)) >>= behind_quote false (x ∷ xs))
  unfolding behind_quote plain got ◌>>=◌
  first_skipped h none = refl
  first_skipped h (some k) = rw h

-- a string of line bytes alone
of_line : Got (List ℕ) → Option (Got (List ℕ))
of_line g = cond (all line_byte g.val) (some g) none

-- the first byte of the string, of the line or not
module _ (x : ℕ) where
  line_first : line_byte x ≡ true → (o : Option (Got (List ℕ))) → (o >>= (λ g. some (with_first x g)) >>= of_line) ≡ (o >>= of_line >>= λ g. some (with_first x g))
  unfolding of_line all got with_first ◌>>=◌
  line_first h none = refl
  line_first h (some g) = rw h (go (all line_byte g.val))
    where
      go : (t : Bool) → cond t (some (with_first x g)) none ≡ (cond t (some g) none >>= λ g. some (with_first x g))
      go true = refl
      go false = refl

  other_first : line_byte x ≡ false → (o : Option (Got (List ℕ))) → (o >>= (λ g. some (with_first x g)) >>= of_line) ≡ none
  unfolding of_line all got with_first ◌>>=◌
  other_first h none = refl
  other_first h (some g) = rw h

-- a quote and a backslash may stand in a line
escaped_line : (x : ℕ) → eqb x 34 || eqb x 92 ≡ true → line_byte x ≡ true
escaped_line x h = go (eqb x 34) refl (eqb x 92) refl h
  where
    at : (k : ℕ) → line_byte k ≡ true → eqb x k ≡ true → line_byte x ≡ true
    at k l e = rw (eqb-true x k e) l

    go : (t : Bool) → eqb x 34 ≡ t → (u : Bool) → eqb x 92 ≡ u → t || u ≡ true → line_byte x ≡ true
    go true e u f k = at 34 (unfold line_byte within in refl) e
    go false e true f k = at 92 (unfold line_byte within in refl) f
    go false e false f k = absurd (false≢true k)

-- the paper's reading of a quoted string is the reading up to the closing quote
unquoted_closing : (esc : Bool) (l : List ℕ) → (unquoted esc l >>= of_line) ≡ (closing esc l >>= behind_quote esc l)
unfolding unquoted closing ◌>>=◌ quoted_step quote backslash behind_quote got plain
unquoted_closing esc [] = refl
unquoted_closing true (x ∷ xs) = go (eqb x 34 || eqb x 92) refl (unquoted_closing false xs)
  where
    go : (t : Bool) → eqb x 34 || eqb x 92 ≡ t → (unquoted false xs >>= of_line) ≡ (closing false xs >>= behind_quote false xs)
        → (cond t (unquoted false xs >>= λ g. some (with_first x g)) none >>= of_line) ≡
        ((elim (cond t (More false) Bad) [ More e ↦ (closing e xs >>= λ k. some (suc k)) | End ↦ some 0 | Bad ↦ none ]) >>= behind_quote true
        (x ∷ xs))
    go false e ih = refl
    go true e ih =
        line_first x (escaped_line x e) (unquoted false xs)
        ∙ ap (λ (o : Option (Got (List ℕ))). o >>= λ g. some (with_first x g)) ih
        ∙ first_kept x xs true refl (closing false xs)
unquoted_closing false (x ∷ xs) = go (eqb x 92) refl (eqb x 34) refl (line_byte x) refl (λ e. unquoted_closing e xs)
  where
    go : (t : Bool) → eqb x 92 ≡ t → (u : Bool) → eqb x 34 ≡ u → (v : Bool) → line_byte x ≡ v → ((e : Bool) → (unquoted e xs >>= of_line) ≡ (closing e xs >>= behind_quote e xs))
        → (cond t (unquoted true xs) (cond u (some (got [] xs)) (unquoted false xs >>= λ g. some (with_first x g))) >>= of_line) ≡
        ((elim (cond u End (cond v (More t) Bad)) [ More e ↦ (closing e xs >>= λ k. some (suc k)) | End ↦ some 0 | Bad ↦ none ]) >>= behind_quote
        false (x ∷ xs))
    go true e true f v l ih = absurd (omega (arith, eqb-true x 92 e, eqb-true x 34 f))
    go true e false f true l ih = ih true ∙ first_skipped x xs e (closing true xs)
    go true e false f false l ih = absurd (false≢true (sym l ∙ escaped_line x (rw (f, e))))
    go false e true f v l ih = unfold of_line all in refl
    go false e false f true l ih =
        line_first x l (unquoted false xs)
        ∙ ap (λ (o : Option (Got (List ℕ))). o >>= λ g. some (with_first x g)) (ih false)
        ∙ first_kept x xs false e (closing false xs)
    go false e false f false l ih = other_first x l (unquoted false xs)

-- a string whose first byte stands at a place, as a token
pub closed_is : (s : List ℕ) (at : ℕ) → token_is s (closed_at at at (closing false (drop at s))) ≡ quoted_text (drop at s)
unfolding quoted_text of_line ◌>>=◌ token_is closed_at behind_quote span_bytes raw_bytes got
closed_is s at = go (closing false (drop at s)) ∙ sym (unquoted_closing false (drop at s))
  where
    go : (o : Option ℕ) → token_is s (closed_at at at o) ≡ (o >>= behind_quote false (drop at s))
    go none = refl
    go (some k) =
        let here : at + k - at ≡ k = omega arith in
        let behind : at + k + 1 ≡ at + suc k = omega arith in
        rw (here, behind, drop-drop (suc k) at s)
