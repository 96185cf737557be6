-- Items parted by single spaces: one item at a time. `go` is what is done with the list.
use Rattle.listing_rules.proofs.Prelude.{◌∙◌, ◌≡◌, ap, refl, sym, false, true, Option, none, some, List, [], ◌∷◌, ◌+◌, ◌-◌, ◌<◌, ◌≤◌, suc, zero, ℕ}
use Rattle.listing_rules.proofs.Prelude.{arith, drop, get_or, length, length-drop}
use Rattle.listing_rules.specs.Bytes.{text}
use Rattle.listing_rules.specs.Tokens.{Got, got, ◌>>=◌, at, after, with_first}
use Rattle.listing_rules.specs.Command.{parted}
use Rattle.command_tokens.proofs.Binds.{bind_none, bind_go}
use Rattle.command_tokens.proofs.Bytes.{at_here, at_other, after_here, after_other}

-- behind an item: a space and the next one, or the closing parenthesis
step_of : {A : Type 0} → (List ℕ → Option (Got A)) → ℕ → Got A → Option (Got (List A))
step_of item k g =
    elim (at 32 g.rest) [
      | true ↦ after (text " ") g.rest >>= λ u. parted item k u >>= λ r. some (with_first g.val r)
      | false ↦ after
          (text ")") g.rest >>= λ u. some (got (g.val ∷ []) u)
    ]

module _ {A : Type 0} (item : List ℕ → Option (Got A)) (n : ℕ) (s : List ℕ) (i : ℕ) (a : A) where
  step_close : get_or s i 0 ≡ 41 → step_of item n (got a (drop i s)) ≡ some (got (a ∷ []) (drop (i + 1) s))
  unfolding step_of got text ◌>>=◌
  step_close h = rw (at_other s i 32 (λ q. omega arith), step_of, after_here s i 41 (omega arith) h)

  step_space : get_or s i 0 ≡ 32 → step_of item n (got a (drop i s)) ≡ (parted item n (drop (i + 1) s) >>= λ r. some (with_first a r))
  unfolding step_of got text ◌>>=◌
  step_space h = rw (at_here s i 32 (omega arith) h, step_of, after_here s i 32 (omega arith) h)

  step_other : (get_or s i 0 ≡ 41 → ⊥) → (get_or s i 0 ≡ 32 → ⊥) → step_of item n (got a (drop i s)) ≡ none
  unfolding step_of got text ◌>>=◌
  step_other h k = rw (at_other s i 32 k, step_of, after_other s i 41 h)

module _ {A B : Type 0} (item : List ℕ → Option (Got A)) (go : Got (List A) → Option B) (s : List ℕ) (i : ℕ) where
  -- what is left of a list that began further on: with steps enough, it gives what the whole list does
  pub record Parting (whole : Option B) : Type 0 where
    pub steps : ℕ
    pub enough : length s - i ≤ steps
    pub is : (parted item steps (drop i s) >>= go) ≡ whole

  -- no item
  none_left : (n : ℕ) → item (drop i s) ≡ none → (parted item n (drop i s) >>= go) ≡ none
  unfolding parted ◌>>=◌
  none_left zero e = refl
  none_left (suc n) e = rw e

  module _ (whole : Option B) (p : Parting whole) where
    pub parting_off : item (drop i s) ≡ none → whole ≡ none
    parting_off e = sym p.is ∙ none_left p.steps e

    -- an item that ends at a place further on
    module _ (a : A) (to : ℕ) (e : item (drop i s) ≡ some (got a (drop to s))) (past : i < to) (within : to ≤ length s) where
      parted_step : (n : ℕ) → parted item (suc n) (drop i s) ≡ step_of item n (got a (drop to s))
      unfolding parted step_of
      parted_step n = bind_go (step_of item n) e

      one_step : suc (p.steps - 1) ≡ p.steps
      one_step = omega (arith, p.enough)

      whole_is : (step_of item (p.steps - 1) (got a (drop to s)) >>= go) ≡ whole
      whole_is = ap (λ (x : Option (Got (List A))). x >>= go) (sym (parted_step (p.steps - 1)) ∙ ap (λ (n : ℕ). parted item n (drop i s)) one_step) ∙ p.is

      pub parting_close : get_or s to 0 ≡ 41 → whole ≡ go (got (a ∷ []) (drop (to + 1) s))
      parting_close h = sym whole_is ∙ bind_go go (step_close item (p.steps - 1) s to a h)

      pub parting_other : (get_or s to 0 ≡ 41 → ⊥) → (get_or s to 0 ≡ 32 → ⊥) → whole ≡ none
      parting_other h k = sym whole_is ∙ bind_none go (step_other item (p.steps - 1) s to a h k)

      space_rest : get_or s to 0 ≡ 32 → (parted item (p.steps - 1) (drop (to + 1) s) >>= λ r. go (with_first a r)) ≡ whole
      unfolding ◌>>=◌
      space_rest h = on (parted item (p.steps - 1) (drop (to + 1) s)) ∙ ap (λ (x : Option (Got (List A))). x >>= go) (sym (step_space item (p.steps - 1) s to a h)) ∙ whole_is
        where
          on : (x : Option (Got (List A))) → (x >>= λ r. go (with_first a r)) ≡ (x >>= (λ r. some (with_first a r)) >>= go)
          on none = refl
          on (some r) = refl

-- the list from the first item on
pub parting_first : {A B : Type 0} (item : List ℕ → Option (Got A)) (go : Got (List A) → Option B) (s : List ℕ) (i : ℕ) → Parting item go s i (parted item (length (drop i s)) (drop i s) >>= go)
parting_first item go s i = record { steps = length (drop i s); enough = omega (arith, length-drop i s); is = refl }

-- after an item and a space: the item is kept in what is made of the rest
pub parting_space : {A B : Type 0} (item : List ℕ → Option (Got A)) (go go' : Got (List A) → Option B) (s : List ℕ) (i : ℕ) (whole : Option B) →
    Parting item go s i whole → (a : A) (to : ℕ) → item (drop i s) ≡ some (got a (drop to s)) → i < to → to ≤ length s → get_or s to 0 ≡ 32 →
    ((r : Got (List A)) → go (with_first a r) ≡ go' r) → Parting item go' s (to + 1) whole
unfolding ◌>>=◌
parting_space {A = A} item go go' s i whole p a to e past within h same =
    record {
      steps = p.steps - 1;
      enough = omega (arith, p.enough);
      is = on (parted item (p.steps - 1) (drop (to + 1) s)) ∙ space_rest item go s i whole p a to e past within h;
    }
  where
    on : (x : Option (Got (List A))) → (x >>= go') ≡ (x >>= λ r. go (with_first a r))
    on none = refl
    on (some r) = sym (same r)
