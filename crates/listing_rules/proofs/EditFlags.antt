-- Flags with the subscription set or cleared (W6): the other flags stay, and lawful flags stay lawful. Rests on Bools.
use Rattle.listing_rules.proofs.Prelude.{◌∙◌, ◌≡◌, ap, refl, sym, Bool, ◌&&◌, ◌||◌, cond, false, false≢true, not, true, ⊎_elim, ◌%◌, ◌+◌, ◌-◌}
use Rattle.listing_rules.proofs.Prelude.{◌/◌, ℕ, div-one, arith, eqb, eq-eqb, eqb-false, eqb-true, ne_eqb}
use Rattle.listing_rules.specs.Bytes.{bit}
use Rattle.listing_rules.specs.Flags.{exists, subscribed, no_inferiors, marked, unmarked, lawful_flags}
use Rattle.listing_rules.specs.Subscriptions.{with_subscribed, without_subscribed}
use Rattle.listing_rules.proofs.Bools.{and_l, and_r, or_cases}

-- flags without a subscription, and with it: 2 more
module _ (g : ℕ) (h : subscribed g ≡ false) where
  clear : g / 2 % 2 ≡ 0
  unfolding subscribed bit
  clear = let k = eqb-false (g / 2 % 2) 1 h in omega (arith, k)

  twin_exists : exists (g + 2) ≡ exists g
  unfolding exists bit
  twin_exists = let e : (g + 2) / 1 % 2 ≡ g / 1 % 2 = omega (arith, div-one g, div-one (g + 2)) in ap (λ (x : ℕ). eqb x 1) e

  twin_subscribed : subscribed (g + 2) ≡ true
  unfolding subscribed bit
  twin_subscribed = eq-eqb ((g + 2) / 2 % 2) 1 (omega (arith, clear))

  twin_inferiors : no_inferiors (g + 2) ≡ no_inferiors g
  unfolding no_inferiors bit
  twin_inferiors = let e : (g + 2) / 16 ≡ g / 16 = omega (arith, clear) in ap (λ (x : ℕ). eqb (x % 2) 1) e

  twin_lawful : exists g ≡ true → lawful_flags (g + 2) ≡ lawful_flags g
  unfolding lawful_flags marked unmarked bit
  twin_lawful e =
      let b5 : (g + 2) / 32 ≡ g / 32 = omega (arith, clear) in
      let b6 : (g + 2) / 64 ≡ g / 64 = omega (arith, clear) in
      let b7 : (g + 2) / 128 ≡ g / 128 = omega (arith, clear) in
      let b15 : (g + 2) / 32768 ≡ g / 32768 = omega (arith, clear) in
      rw (twin_exists, e, b5, b6, b7, b15)

-- a subscription set
module _ (f : ℕ) where
  pub set_subscribed : subscribed (with_subscribed f) ≡ true
  unfolding with_subscribed
  set_subscribed = go (subscribed f) refl
    where
      go : (o : Bool) → subscribed f ≡ o → subscribed (cond o f (f + 2)) ≡ true
      go true e = e
      go false e = twin_subscribed f e

  pub set_inferiors : no_inferiors (with_subscribed f) ≡ no_inferiors f
  unfolding with_subscribed
  set_inferiors = go (subscribed f) refl
    where
      go : (o : Bool) → subscribed f ≡ o → no_inferiors (cond o f (f + 2)) ≡ no_inferiors f
      go true e = refl
      go false e = twin_inferiors f e

  -- lawful flags are 0002, or of a mailbox that exists
  lawful_exists : lawful_flags f ≡ true → eqb f 2 ≡ false → exists f ≡ true
  unfolding lawful_flags
  lawful_exists l e =
      ⊎_elim (λ q. q) (λ q. absurd (false≢true (sym e ∙ q)))
      (or_cases (exists f) (eqb f 2) (and_r (not (bit 7 f) && not (bit 15 f)) (exists f || eqb f 2)
      (and_l ((not (bit 7 f) && not (bit 15 f)) && (exists f || eqb f 2)) (not (marked f && unmarked f)) l)))

  not_two : subscribed f ≡ false → eqb f 2 ≡ false
  unfolding subscribed bit
  not_two e = ne_eqb f 2 (λ q. false≢true (sym e ∙ ap (λ (x : ℕ). eqb (x / 2 % 2) 1) q))

  pub set_lawful : lawful_flags f ≡ true → lawful_flags (with_subscribed f) ≡ true
  unfolding with_subscribed
  set_lawful l = go (subscribed f) refl
    where
      go : (o : Bool) → subscribed f ≡ o → lawful_flags (cond o f (f + 2)) ≡ true
      go true e = l
      go false e = twin_lawful f e (lawful_exists l (not_two e)) ∙ l

  -- a subscription cleared
  twin : subscribed f ≡ true → (f ≡ f - 2 + 2) × (subscribed (f - 2) ≡ false)
  unfolding subscribed bit
  twin e =
      let k : f / 2 % 2 ≡ 1 = eqb-true (f / 2 % 2) 1 e in
      (omega (arith, k), ne_eqb ((f - 2) / 2 % 2) 1 (λ q. omega (arith, k)))

  pub clear_subscribed : subscribed (without_subscribed f) ≡ false
  unfolding without_subscribed
  clear_subscribed = go (subscribed f) refl
    where
      go : (o : Bool) → subscribed f ≡ o → subscribed (cond o (f - 2) f) ≡ false
      go true e = (twin e).1
      go false e = e

  pub clear_inferiors : no_inferiors (without_subscribed f) ≡ no_inferiors f
  unfolding without_subscribed
  clear_inferiors = go (subscribed f) refl
    where
      go : (o : Bool) → subscribed f ≡ o → no_inferiors (cond o (f - 2) f) ≡ no_inferiors f
      go true e = sym (twin_inferiors (f - 2) (twin e).1) ∙ ap no_inferiors (sym (twin e).0)
      go false e = refl

  pub clear_lawful : lawful_flags f ≡ true → eqb f 2 ≡ false → lawful_flags (without_subscribed f) ≡ true
  unfolding without_subscribed
  clear_lawful l q = go (subscribed f) refl
    where
      go : (o : Bool) → subscribed f ≡ o → lawful_flags (cond o (f - 2) f) ≡ true
      go true e =
          let w = twin e in
          sym (twin_lawful (f - 2) w.1 (sym (twin_exists (f - 2) w.1) ∙ ap exists (sym w.0) ∙ lawful_exists l q)) ∙ ap lawful_flags (sym w.0) ∙ l
      go false e = l
