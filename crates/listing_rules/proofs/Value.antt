-- Values of options: what is left is shorter, the fuel does not matter where it is at least the bytes left, and a value is its first item and what
-- stands behind that. Rests on TokenLaws.
use Rattle.listing_rules.proofs.Prelude.{◌∙◌, ◌≡◌, ap, refl, sym, Bool, cond, false, true, Option, option_none_ne_some, some, List, [], ◌∷◌}
use Rattle.listing_rules.proofs.Prelude.{◌<◌, ◌≤◌, suc, zero, ℕ, arith, length}
use Rattle.listing_rules.specs.Bytes.{text}
use Rattle.listing_rules.specs.Tokens.{after, ◌>>=◌, astring, at}
use Rattle.listing_rules.specs.Command.{value_rest}
use Rattle.listing_rules.proofs.Keys.{open_tokens, open_command}
use Rattle.listing_rules.proofs.TokenLaws.{bind_some, bind_cong, after_shorter, astring_shorter}

-- the first item, as a function of what reads an inner value
abbrev pub first : (List ℕ → Option (List ℕ)) → List ℕ → Option (List ℕ)
first f t = cond (at 40 t) (after (text "(") t >>= f) (astring t >>= λ g. some g.rest)

abbrev pub rest_item : (List ℕ → Option (List ℕ)) → List ℕ → Option (List ℕ)
rest_item f u = cond (at 32 u) (after (text " ") u >>= f) (after (text ")") u)

value_is : (k : ℕ) (t : List ℕ) → value_rest (suc k) t ≡ (first (value_rest k) t >>= rest_item (value_rest k))
unfolding value_rest
value_is k t = refl

-- what f leaves is no longer than what it was given
Shrinks : (List ℕ → Option (List ℕ)) → Type 0
Shrinks f = (t u : List ℕ) → f t ≡ some u → length u < length t

first_shorter : (f : List ℕ → Option (List ℕ)) → Shrinks f → Shrinks (first f)
unfolding Shrinks text
first_shorter f s t u k = go (at 40 t) k
  where
    go : (o : Bool) → cond o (after (text "(") t >>= f) (astring t >>= λ g. some g.rest) ≡ some u → length u < length t
    go true k = let w = bind_some _ _ u k in omega (arith, after_shorter 40 t w.0 w.1, s w.0 u w.2)
    go false k =
        let w = bind_some _ _ u k in
        let e : w.0.rest ≡ u = cc w.2 in
        omega (arith, astring_shorter t w.0 w.1, ap length e)

rest_shorter : (f : List ℕ → Option (List ℕ)) → Shrinks f → Shrinks (rest_item f)
unfolding Shrinks text
rest_shorter f s t u k = go (at 32 t) k
  where
    go : (o : Bool) → cond o (after (text " ") t >>= f) (after (text ")") t) ≡ some u → length u < length t
    go true k = let w = bind_some _ _ u k in omega (arith, after_shorter 32 t w.0 w.1, s w.0 u w.2)
    go false k = omega (arith, after_shorter 41 t u k)

pub value_shorter : (k : ℕ) (t u : List ℕ) → value_rest k t ≡ some u → length u < length t
unfolding Shrinks value_rest
value_shorter zero t u e = absurd (option_none_ne_some _ e)
value_shorter (suc k) t u e =
    let w = bind_some (first (value_rest k) t) (rest_item (value_rest k)) u (sym (value_is k t) ∙ e) in
    let p = first_shorter (value_rest k) (value_shorter k) t w.0 w.1 in
    let q = rest_shorter (value_rest k) (value_shorter k) w.0 u w.2 in
    omega (arith, p, q)

first_cong : (f g : List ℕ → Option (List ℕ)) (t : List ℕ) → ((v : List ℕ) → length v < length t → f v ≡ g v) → first f t ≡ first g t
unfolding text
first_cong f g t h =
    ap (λ (x : Option (List ℕ)). cond (at 40 t) x (astring t >>= λ g. some g.rest))
    (bind_cong (after (text "(") t) f g (λ v e. h v (omega (arith, after_shorter 40 t v e))))

rest_cong : (f g : List ℕ → Option (List ℕ)) (t : List ℕ) → ((v : List ℕ) → length v < length t → f v ≡ g v) → rest_item f t ≡ rest_item g t
unfolding text
rest_cong f g t h =
    ap (λ (x : Option (List ℕ)). cond (at 32 t) x (after (text ")") t))
    (bind_cong (after (text " ") t) f g (λ v e. h v (omega (arith, after_shorter 32 t v e))))

-- the fuel does not matter where it is at least the bytes left
pub value_fuel : (k j : ℕ) (t : List ℕ) → length t ≤ k → length t ≤ j → value_rest k t ≡ value_rest j t
unfolding open_command open_tokens Shrinks
value_fuel zero zero t h g = refl
value_fuel zero (suc j) [] h g = refl
value_fuel zero (suc j) (b ∷ t) h g = absurd (omega arith)
value_fuel (suc k) zero [] h g = refl
value_fuel (suc k) zero (b ∷ t) h g = absurd (omega arith)
value_fuel (suc k) (suc j) t h g =
    value_is k t
    ∙ ap (λ (x : Option (List ℕ)). x >>= rest_item (value_rest k)) (first_cong (value_rest k) (value_rest j) t (λ v l. value_fuel k j v (omega arith) (omega arith)))
    ∙ bind_cong (first (value_rest j) t) (rest_item (value_rest k)) (rest_item (value_rest j))
    (λ u e. rest_cong (value_rest k) (value_rest j) u
    (λ v l. value_fuel k j v (omega (arith, first_shorter (value_rest j) (value_shorter j) t u e))
    (omega (arith, first_shorter (value_rest j) (value_shorter j) t u e))))
    ∙ sym (value_is j t)

-- with as much fuel as there are bytes, a value is its first item and what stands behind that
abbrev value : List ℕ → Option (List ℕ)
value t = value_rest (length t) t

value_none : value [] ≡ (first value [] >>= rest_item value)
unfolding open_command open_tokens
value_none = refl

pub value_first : (t : List ℕ) → value_rest (length t) t ≡ (first (λ v. value_rest (length v) v) t >>= rest_item (λ v. value_rest (length v) v))
unfolding Shrinks
value_first [] = value_none
value_first (b ∷ t) =
    value_is (length t) (b ∷ t)
    ∙ bind_cong (first (value_rest (length t)) (b ∷ t)) (rest_item (value_rest (length t))) (rest_item value)
    (λ u e. rest_cong (value_rest (length t)) value u (λ v l. enough v (omega (arith, first_shorter (value_rest (length t)) (value_shorter (length t)) (b ∷ t) u e))))
    ∙ ap (λ (x : Option (List ℕ)). x >>= rest_item value) (first_cong (value_rest (length t)) value (b ∷ t) (λ v l. enough v (omega arith)))
  where
    enough : (v : List ℕ) → length v ≤ length t → value_rest (length t) v ≡ value_rest (length v) v
    enough v h = value_fuel (length t) (length v) v h (omega arith)
