-- Items parted by single spaces (options, patterns): what is left is shorter, and the fuel does not matter where it is at least the bytes left. Rests on Value.
use Rattle.listing_rules.proofs.Prelude.{◌∙◌, ◌≡◌, ap, refl, sym, Bool, false, true, Option, option_none_ne_some, none, some, List, [], ◌∷◌}
use Rattle.listing_rules.proofs.Prelude.{◌<◌, ◌≤◌, suc, zero, ℕ, arith, length}
use Rattle.listing_rules.specs.Bytes.{text}
use Rattle.listing_rules.specs.Tokens.{Got, got, ◌>>=◌, at, after, with_first, atom, pattern}
use Rattle.listing_rules.specs.Command.{value_rest, Opt, option, parted}
use Rattle.listing_rules.proofs.TokenLaws.{bind_some, bind_cong, after_some, after_shorter, atom_shorter, pattern_shorter}
use Rattle.listing_rules.proofs.Value.{value_shorter}

-- what the reader leaves is shorter than what it was given
abbrev pub Shortens : {A : Type 0} → (List ℕ → Option (Got A)) → Type 0
Shortens item = (t : List ℕ) (g : Got _) → item t ≡ some g → length g.rest < length t

-- what stands behind an item, by whether that is a space; f reads the items that follow
next : {A : Type 0} → (List ℕ → Option (Got (List A))) → Got A → Bool → Option (Got (List A))
next f g b = elim b [ true ↦ after (text " ") g.rest >>= λ u. f u >>= λ r. some (with_first g.val r) | false ↦ after (text ")") g.rest >>= λ u. some (got (g.val ∷ []) u) ]

module _ {A : Type 0} (item : List ℕ → Option (Got A)) where
  parted_is : (k : ℕ) (t : List ℕ) → parted item (suc k) t ≡ (item t >>= λ g. next (parted item k) g (at 32 g.rest))
  unfolding parted next
  parted_is k t = refl

  next_shorter : (f : List ℕ → Option (Got (List A))) → Shortens f → (g : Got A) (b : Bool) (r : Got (List A)) → next f g b ≡ some r → length r.rest < length g.rest
  unfolding next text with_first got
  next_shorter f s g true r e =
      let w = bind_some (after (text " ") g.rest) (λ u. f u >>= λ r. some (with_first g.val r)) r e in
      let v = bind_some (f w.0) (λ r. some (with_first g.val r)) r w.2 in
      let q : with_first g.val v.0 ≡ r = cc v.2 in
      omega (arith, after_shorter 32 g.rest w.0 w.1, s w.0 v.0 v.1, ap (λ (x : Got (List A)). length x.rest) q)
  next_shorter f s g false r e =
      let w = bind_some (after (text ")") g.rest) (λ u. some (got (g.val ∷ []) u)) r e in
      let q : got (g.val ∷ []) w.0 ≡ r = cc w.2 in
      omega (arith, after_shorter 41 g.rest w.0 w.1, ap (λ (x : Got (List A)). length x.rest) q)

  next_cong : (f h : List ℕ → Option (Got (List A))) (g : Got A) (b : Bool) → ((v : List ℕ) → length v < length g.rest → f v ≡ h v) → next f g b ≡ next h g b
  unfolding next text
  next_cong f h g true k =
      bind_cong (after (text " ") g.rest) _ _ (λ u e. ap (λ (x : Option (Got (List A))). x >>= λ r. some (with_first g.val r)) (k u (omega (arith, after_shorter 32 g.rest u e))))
  next_cong f h g false k = refl

  pub parted_shorter : Shortens item → (k : ℕ) → Shortens (parted item k)
  unfolding parted
  parted_shorter s zero t g e = absurd (option_none_ne_some _ e)
  parted_shorter s (suc k) t g e =
      let w = bind_some (item t) (λ g. next (parted item k) g (at 32 g.rest)) g (sym (parted_is k t) ∙ e) in
      omega (arith, s t w.0 w.1, next_shorter (parted item k) (parted_shorter s k) w.0 (at 32 w.0.rest) g w.2)

  -- with nothing left there is no item
  parted_nil : Shortens item → (k : ℕ) → parted item k [] ≡ none
  unfolding parted ◌>>=◌
  parted_nil s zero = refl
  parted_nil s (suc k) = rw (none_there (item []) refl)
    where
      none_there : (o : Option (Got A)) → item [] ≡ o → item [] ≡ none
      none_there none e = e
      none_there (some g) e = absurd (omega (arith, s [] g e))

  -- the fuel does not matter where it is at least the bytes left
  parted_fuel : Shortens item → (k j : ℕ) (t : List ℕ) → length t ≤ k → length t ≤ j → parted item k t ≡ parted item j t
  parted_fuel s zero j [] h i = parted_nil s zero ∙ sym (parted_nil s j)
  parted_fuel s zero j (b ∷ t) h i = absurd (omega arith)
  parted_fuel s (suc k) zero [] h i = parted_nil s (suc k) ∙ sym (parted_nil s zero)
  parted_fuel s (suc k) zero (b ∷ t) h i = absurd (omega arith)
  parted_fuel s (suc k) (suc j) t h i =
      parted_is k t
      ∙ bind_cong (item t) (λ g. next (parted item k) g (at 32 g.rest)) (λ g. next (parted item j) g (at 32 g.rest))
      (λ g e. next_cong (parted item k) (parted item j) g (at 32 g.rest) (λ v l. parted_fuel s k j v (omega (arith, s t g e)) (omega (arith, s t g e))))
      ∙ sym (parted_is j t)

-- options and patterns
option_shorter : Shortens option
unfolding option text got
option_shorter t g e =
    let w = bind_some (atom t) _ g e in
    omega (arith, atom_shorter t w.0 w.1, value w.0 (after (text " (") w.0.rest) refl w.2)
  where
    value : (a : Got (List ℕ)) (o : Option (List ℕ)) → after (text " (") a.rest ≡ o
        → Path (Option (Got Opt)) (elim o [
          | none ↦ some (got (record { word = a.val; valued = false }) a.rest)
          | some u ↦ value_rest (length u) u >>= λ v. some (got (record { word = a.val; valued = true }) v)
        ]) (some g)
        → length g.rest ≤ length a.rest
    value a none f k = let q : a.rest ≡ g.rest = cc in omega (arith, ap length q)
    value a (some u) f k =
        let w = bind_some (value_rest (length u) u) _ g k in
        let q : w.0 ≡ g.rest = cc w.2 in
        omega (arith, ap length (after_some (text " (") a.rest u f), value_shorter (length u) u w.0 w.1, ap length q)

pub options_fuel : (k j : ℕ) (t : List ℕ) → length t ≤ k → length t ≤ j → parted option k t ≡ parted option j t
options_fuel = parted_fuel option option_shorter

pub patterns_fuel : (k j : ℕ) (t : List ℕ) → length t ≤ k → length t ≤ j → parted pattern k t ≡ parted pattern j t
patterns_fuel = parted_fuel pattern pattern_shorter
