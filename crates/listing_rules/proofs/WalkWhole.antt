-- Demand 3 whole: with room the walk comes to what the paper says; without it the walk is refused by 9, 10 or 11. Rests on Asked and WalkLists.
use Rattle.listing_rules.proofs.Prelude.{◌∙◌, ◌≡◌, ap, refl, subst, sym, true, ◌⊎◌, inl, inr, ⊎_elim, List, list_mem, list_mem_cases_cons}
use Rattle.listing_rules.proofs.Prelude.{list_mem_head, list_mem_not_nil, list_mem_tail, [], ◌++◌, ◌∷◌, append_assoc, append-nil, map}
use Rattle.listing_rules.proofs.Prelude.{nil≢cons, ◌+◌, ◌≤◌, suc, zero, ℕ, arith, length, length-append, drop_at}
use Rattle.listing_rules.specs.Bytes.{slash, all, within}
use Rattle.listing_rules.proofs.Keys.{open_bytes}
use Rattle.listing_rules.specs.Lists.{joined}
use Rattle.listing_rules.specs.Names.{name_byte, lawful_name}
use Rattle.listing_rules.specs.Table.{Table, rows, passes}
use Rattle.listing_rules.specs.Tokens.{line_byte}
use Rattle.listing_rules.specs.Walk.{WalkReply, walked, packed, stop, Walked, asked, walk_from, walk_all, walk_refused, ended, walk}
use Rattle.listing_rules.specs.Demand3.{meeting_names, meeting_ancestors, walk_answer}
use Rattle.listing_rules.proofs.ListLaws.{all_imp, all_append}
use Rattle.listing_rules.proofs.Levels.{Name}
use Rattle.listing_rules.proofs.LawfulNames.{good_parts}
use Rattle.listing_rules.proofs.Passes.{candidate_good}
use Rattle.listing_rules.proofs.Sent.{name_line}
use Rattle.listing_rules.proofs.Bfs.{served}
use Rattle.listing_rules.proofs.Served.{left, front}
use Rattle.listing_rules.proofs.Outcome.{with_fact, Short, scratch_short, found_short_lem, pending_short, Outcome, went, stopped, then_step}
use Rattle.listing_rules.proofs.Asked.{lists_of, Sizes, Answer-fits, asked_cases, packed_le, finds, asks}
use Rattle.listing_rules.proofs.WalkSets.{Walks}
use Rattle.listing_rules.proofs.WalkLists.{kids, finds', fuel, P, F, P-low, P-ends, P-is, F-is, low_cand}

-- a walk that ended, by what lies in found and pending
abbrev pub result : List Name → List Name → Walked
result f p = record { count = suc (length p); lists = lists_of f p }

module _ (t : Table) (o : ℕ) (wk : Walks t o) (scratch found pending : ℕ) where
  ok : passes t ≡ true
  ok = wk.0

  -- the answer to this reference fits, and those below each of these names
  abbrev Fits : Name → Type 0
  Fits ref = Answer-fits t o ref scratch

  abbrev All-fit : List Name → Type 0
  All-fit l = (a : Name) → list_mem a l → Fits (a ++ (slash ∷ []))

  abbrev Fit : List Name → List Name → Type 0
  Fit f a = Sizes found pending f a

  -- what a name adds to pending and to found, and what is served from a queue
  abbrev K : Name → List Name
  K a = kids t o wk a

  abbrev G : Name → List Name
  G a = finds' t o wk a

  abbrev S : ℕ → List Name → List Name
  S k q = served K k q

  -- one command below a name that is served
  step_cases : (a : Name) → list_mem a (P t o wk) → (f w : List Name) → Fit f w
      → Outcome (asked t o scratch found pending (lists_of f w) (a ++ (slash ∷ []))) (lists_of (f ++ G a) (w ++ K a))
      (Fits (a ++ (slash ∷ [])) × Fit (f ++ G a) (w ++ K a))
  step_cases a m f w h =
      rw bytes (asked_cases t o (a ++ (slash ∷ [])) scratch found pending wk.1 ok line_ok
      (omega (arith, length-append a (slash ∷ []), (good_parts a good).most)) f w h)
    where
      good : lawful_name a ≡ true
      good = candidate_good t ok a (low_cand t o wk a (P-low t o wk a m))

      bytes : all name_byte a ≡ true
      bytes = (good_parts a good).bytes

      line_ok : all line_byte (a ++ (slash ∷ [])) ≡ true
      line_ok = all_append line_byte a (slash ∷ []) (all_imp name_byte line_byte name_line a bytes) (unfold line_byte all within open_bytes in refl)

  -- the walk with f found and w pending, of which d were asked: it asks the names of ns too and ends with f' and w', if that fits
  abbrev Ends : ℕ → ℕ → List Name → List Name → List Name → List Name → List Name → Type 0
  Ends k d f w ns f' w' = Outcome (walk_from t o scratch found pending (suc k) d (lists_of f w)) (result f' w') (All-fit ns × Fit f' w')

  none_left : (k : ℕ) (f done : List Name) → Fit f (done ++ []) → Ends k (length done) f (done ++ []) [] (f ++ []) (done ++ [])
  unfolding walk_from
  none_left k f done h =
      went (rw (drop_at done [] (length done) refl, walk_from, append-nil f, append-nil done))
      (λ a m. absurd (list_mem_not_nil m), (rw (append-nil f) h.0, h.1))

  run_cases : (k : ℕ) (done q f : List Name) → left K k q ≡ [] → ((a : Name) → list_mem a (S k q) → list_mem a (P t o wk)) → Fit f (done ++ q)
      → Ends k (length done) f (done ++ q) (S k q) (f ++ joined (map G (S k q))) (done ++ S k q)
  unfolding left served joined walk_from
  run_cases zero done [] f e m h = none_left 0 f done h
  run_cases zero done (a ∷ q) f e m h = absurd (nil≢cons (sym e))
  run_cases (suc k) done [] f e m h = none_left (suc k) f done h
  run_cases (suc k) done (a ∷ q) f e m h =
      rw (drop_at done (a ∷ q) (length done) refl, walk_from)
      (then_step (λ u. walk_from t o scratch found pending (suc k) (suc (length done)) u)
      (step_cases a (m a (list_mem_head refl)) f (done ++ (a ∷ q)) h)
      (next (run_cases k (done ++ (a ∷ [])) (q ++ K a) (f ++ G a) e (λ z n. m z (list_mem_tail n))))
      back)
    where
      T : List Name
      T = S k (q ++ K a)

      e₁ : (done ++ (a ∷ q)) ++ K a ≡ (done ++ (a ∷ [])) ++ (q ++ K a)
      e₁ = append_assoc done (a ∷ q) (K a) ∙ sym (append_assoc done (a ∷ []) (q ++ K a))

      e₂ : suc (length done) ≡ length (done ++ (a ∷ []))
      e₂ = omega (arith, length-append done (a ∷ []))

      e₃ : (f ++ G a) ++ joined (map G T) ≡ f ++ (G a ++ joined (map G T))
      e₃ = append_assoc f (G a) (joined (map G T))

      e₄ : (done ++ (a ∷ [])) ++ T ≡ done ++ (a ∷ T)
      e₄ = append_assoc done (a ∷ []) T

      both_fit_lem : Fits (a ++ (slash ∷ [])) → All-fit T → All-fit (a ∷ T)
      both_fit_lem x y z n = ⊎_elim (λ p. subst (λ (b : Name). Fits (b ++ (slash ∷ []))) (sym p) x) (y z) (list_mem_cases_cons n)

      Later : Type 0
      Later = Fit (f ++ G a) ((done ++ (a ∷ [])) ++ (q ++ K a))
          → Ends k (length (done ++ (a ∷ []))) (f ++ G a) ((done ++ (a ∷ [])) ++ (q ++ K a)) T ((f ++ G a) ++ joined (map G T))
          ((done ++ (a ∷ [])) ++ T)

      next : Later → Fits (a ++ (slash ∷ [])) × Fit (f ++ G a) ((done ++ (a ∷ q)) ++ K a)
          → Ends k (suc (length done)) (f ++ G a) ((done ++ (a ∷ q)) ++ K a) (a ∷ T) (f ++ (G a ++ joined (map G T))) (done ++ (a ∷ T))
      next ih w =
          rw (e₂, e₁, ← e₃, ← e₄) (with_fact (λ v. (both_fit_lem w.0 v.0, v.1)) (λ v. (λ b n. v.0 b (list_mem_tail n), v.1))
          (ih (subst (λ (x : List Name). Fit (f ++ G a) x) e₁ w.1)))

      -- what this command needs is part of what the whole needs
      w : (r : List Name) × (T ≡ (q ++ K a) ++ r)
      w = front K k (q ++ K a) e

      e₅ : done ++ (a ∷ T) ≡ ((done ++ (a ∷ q)) ++ K a) ++ w.0
      e₅ =
          ap (λ (x : List Name). done ++ (a ∷ x)) (w.1 ∙ append_assoc q (K a) w.0) ∙ sym
          (append_assoc (done ++ (a ∷ q)) (K a) w.0 ∙ append_assoc done (a ∷ q) (K a ++ w.0))

      back : All-fit (a ∷ T) × Fit (f ++ (G a ++ joined (map G T))) (done ++ (a ∷ T)) →
          Fits (a ++ (slash ∷ [])) × Fit (f ++ G a) ((done ++ (a ∷ q)) ++ K a)
      back v = (
        v.0 a (list_mem_head refl),
        (
          packed_le (f ++ G a) (joined (map G T)) found (subst (λ (x : List Name). length (packed x) ≤ found) (sym e₃) v.1.0),
          packed_le ((done ++ (a ∷ q)) ++ K a) w.0 pending (subst (λ (x : List Name). length (packed x) ≤ pending) e₅ v.1.1),
        ),
      )

  -- the whole walk
  walk_cases : Outcome (walk_all t o scratch found pending (suc (fuel t o wk))) (result (F t o wk) (P t o wk))
      (Fits [] × (All-fit (P t o wk) × Fit (F t o wk) (P t o wk)))
  unfolding walk_all
  walk_cases =
      then_step _ (asked_cases t o [] scratch found pending wk.1 ok (unfold all in refl) (omega arith) [] []
      (unfold packed joined in (omega arith, omega arith)))
      (λ h. with_fact (λ v. (h.0, v)) (λ v. v.1) (run_cases (fuel t o wk) [] (asks t o []) (finds t o []) (P-ends t o wk) (λ a m. m) h.1))
      (λ v. (
        v.0,
        (
          packed_le (finds t o []) (joined (map G (P t o wk))) found v.1.1.0,
          packed_le (asks t o []) w.0 pending (subst (λ (x : List Name). length (packed x) ≤ pending) w.1 v.1.1.1),
        ),
      ))
    where
      w : (r : List Name) × (P t o wk ≡ asks t o [] ++ r)
      w = front K (fuel t o wk) (asks t o []) (P-ends t o wk)

  -- the steps suffice
  pub walk_ends : walk_all t o scratch found pending (suc (fuel t o wk)) ≡ stop 0 → ⊥
  walk_ends e = no_stop walk_cases
    where
      no_number : (k : ℕ) → Short k → k ≡ 0 → ⊥
      no_number k scratch_short z = omega arith
      no_number k found_short_lem z = omega arith
      no_number k pending_short z = omega arith

      no_stop : {u : Walked} {H : Type 0} → Outcome (walk_all t o scratch found pending (suc (fuel t o wk))) u H → ⊥
      no_stop (went d h) = let z : ◌≡◌ {A = ℕ} 0 1 = cc in omega arith
      no_stop (stopped k s d n) = no_number k s (cc)

  -- what the walk needs, said of the table alone
  pub record Room : Type 0 where
    pub first : length (walk_answer (rows t) o []) ≤ scratch
    pub next : (a : Name) → list_mem a (meeting_ancestors (rows t) o) → length (walk_answer (rows t) o (a ++ (slash ∷ []))) ≤ scratch
    pub found_fits : length (packed (meeting_names (rows t) o)) ≤ found
    pub pending_fits : length (packed (meeting_ancestors (rows t) o)) ≤ pending

  room_cases : Outcome (walk_all t o scratch found pending (suc (fuel t o wk))) (result (meeting_names (rows t) o) (meeting_ancestors (rows t) o)) Room
  unfolding walk_answer
  room_cases = with_fact to from (rw (F-is t o wk ok, P-is t o wk ok) at walk_cases)
    where
      to : Fits [] × (All-fit (meeting_ancestors (rows t) o) × Fit (meeting_names (rows t) o) (meeting_ancestors (rows t) o)) → Room
      to h = record { first = h.0; next = h.1.0; found_fits = h.1.1.0; pending_fits = h.1.1.1 }

      from : Room → Fits [] × (All-fit (meeting_ancestors (rows t) o) × Fit (meeting_names (rows t) o) (meeting_ancestors (rows t) o))
      from R = (R.first, (R.next, (R.found_fits, R.pending_fits)))

  -- what the table says of the walk
  abbrev pub declared : WalkReply
  declared = walked (1 + length (meeting_ancestors (rows t) o)) (packed (meeting_names (rows t) o)) (packed (meeting_ancestors (rows t) o))

  -- with room the walk comes to what the paper says, and it is refused exactly if there is none, by 9, 10 or 11
  pub demand_3_whole : (Room × (walk t o scratch found pending ≡ declared)) ⊎
      ((Room → ⊥) × ((k : ℕ) × Short k × (walk t o scratch found pending ≡ walk_refused k)))
  unfolding walk ended
  demand_3_whole = pick room_cases
    where
      e : suc (length (meeting_ancestors (rows t) o)) ≡ 1 + length (meeting_ancestors (rows t) o)
      e = omega arith

      pick : Outcome (walk_all t o scratch found pending (suc (fuel t o wk))) (result (meeting_names (rows t) o) (meeting_ancestors (rows t) o)) Room
          → (Room × (walk t o scratch found pending ≡ declared))
          ⊎ ((Room → ⊥) × ((k : ℕ) × Short k × (walk t o scratch found pending ≡ walk_refused k)))
      pick (went d R) = inl
          (R, rw (ok, wk.1, d) (ap (λ (n : ℕ). walked n (packed (meeting_names (rows t) o)) (packed (meeting_ancestors (rows t) o))) e))
      pick (stopped k s d n) = inr (n, (k, s, rw (ok, wk.1, d)))
