-- Laws of runs: where a run ends, and what it is as a token.
use Rattle.std.specs.List.{prefix_len, take_while}
use Rattle.std.proofs.lemmas.List.Sums.{take_while-cons}
use Rattle.listing_rules.proofs.Prelude.{◌∙◌, ◌≡◌, ap, refl, sym, Bool, cond, false, true, none, some, List, [], ◌++◌, ◌∷◌, ◌+◌, ◌-◌, ◌<◌, ◌≤◌}
use Rattle.listing_rules.proofs.Prelude.{ℕ, arith, drop, length, length-drop, length-take, take, drop_at, drop-drop, take_at}
use Rattle.listing_rules.specs.Bytes.{is_empty}
use Rattle.listing_rules.specs.Tokens.{Got, got, with_first, run, run₁, unless_empty}
use Rattle.listing_rules.proofs.TokenLaws.{run_split}
use Rattle.command_tokens.specs.Spans.{raw_bytes}
use Rattle.command_tokens.specs.Tokens.{run_end}

module _ (p : ℕ → Bool) where
  -- the run is what `take_while` takes
  run_taken : (t : List ℕ) → (run p t).val ≡ take_while p t
  unfolding run with_first got
  run_taken [] = refl
  run_taken (x ∷ xs) = go (p x) (run_taken xs) ∙ sym (take_while-cons p x xs)
    where
      go : (o : Bool) → (run p xs).val ≡ take_while p xs →
          (cond o (got (x ∷ (run p xs).val) (run p xs).rest) (got [] (x ∷ xs))).val ≡ cond o (x ∷ take_while p xs) []
      go true e = ap (λ (v : List ℕ). x ∷ v) e
      go false e = refl

  -- it ends as far on as it has bytes, which lie inside the line
  pub run_counted : (s : List ℕ) (at : ℕ) → (run_end p s at ≡ at + length (take_while p (drop at s))) × (length (take_while p (drop at s)) ≤ length s - at)
  unfolding run_end
  run_counted s at =
      (ap (λ (v : List ℕ). at + length v) (run_taken (drop at s)), omega (arith, length-take (prefix_len p (drop at s)) (drop at s), length-drop at s))

  -- an empty run is none
  pub run_missing : (s : List ℕ) (at : ℕ) → run_end p s at ≡ at → run₁ p (drop at s) ≡ none
  unfolding run_end run₁ unless_empty is_empty
  run_missing s at e = empty (run p (drop at s)) (omega arith)
    where
      empty : (g : Got (List ℕ)) → length g.val ≡ 0 → cond (is_empty g.val) none (some g) ≡ none
      empty g h = go g.val h
        where
          go : (v : List ℕ) → length v ≡ 0 → cond (is_empty v) none (some g) ≡ none
          go [] h = refl
          go (x ∷ v) h = absurd (omega arith)

  -- a run that is not empty is the token between its places
  pub run_found : (s : List ℕ) (at e : ℕ) → run_end p s at ≡ e → at < e → run₁ p (drop at s) ≡ some (got (raw_bytes s (record { start = at; end = e; quoted = false })) (drop e s))
  unfolding run_end run₁ unless_empty raw_bytes got is_empty
  run_found s at e h k = full (drop at s) (run p (drop at s)) (run_split p (drop at s)) (e - at) (omega arith) (omega arith) ∙ rw (drop-drop (e - at) at s, back)
    where
      back : at + (e - at) ≡ e
      back = omega arith

      full : (l : List ℕ) (g : Got (List ℕ)) → l ≡ g.val ++ g.rest → (n : ℕ) → length g.val ≡ n → 0 < n → cond (is_empty g.val) none (some g) ≡ some (record { val = take n l; rest = drop n l })
      full l g q n m o = some_of g.val refl ∙ ap some same
        where
          some_of : (v : List ℕ) → g.val ≡ v → cond (is_empty v) none (some g) ≡ some g
          some_of [] z = absurd (omega (arith, ap length z))
          some_of (x ∷ v) z = refl

          same : g ≡ record { val = take n l; rest = drop n l }
          same = λ i. record { val = sym (ap (take n) q ∙ take_at g.val g.rest n m) i; rest = sym (ap (drop n) q ∙ drop_at g.val g.rest n m) i }
