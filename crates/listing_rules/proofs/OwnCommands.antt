-- W12: "the collector never passes on 3 to 8 from one of its own commands .., from a table that passes and a lawful option byte": each command that it
-- sends is answered, so that 9 alone can come of it. So the collector has no number but 1, 6, 9, 10, 11 and 16. Rests on Asked and Demand3.
use Rattle.listing_rules.proofs.Prelude.{◌∙◌, ◌≡◌, ap, refl, subst, sym, Bool, ◌||◌, cond, false, false≢true, true, ◌⊎◌, ⊎_elim, List}
use Rattle.listing_rules.proofs.Prelude.{list_mem, list_mem_cases_cons, list_mem_not_nil, [], ◌∷◌, ◌++◌, ◌+◌, ◌≤◌, suc, zero, ℕ, arith, eqb}
use Rattle.listing_rules.proofs.Prelude.{leb, le-leb, drop, length, length-append, length-map, map, take, take-append-drop}
use Rattle.listing_rules.specs.Bytes.{text, slash, all, within, one_of}
use Rattle.listing_rules.specs.Lists.{every, joined}
use Rattle.listing_rules.specs.Names.{lawful_name, name_byte}
use Rattle.listing_rules.specs.Table.{Table, rows, passes}
use Rattle.listing_rules.specs.Readers.{is_reader}
use Rattle.listing_rules.specs.Tokens.{line_byte}
use Rattle.listing_rules.specs.Listing.{candidates, listed, listed_names}
use Rattle.listing_rules.specs.Server.{Reply, refusal, answered, is_answered, answer, limited, number_of, list_answer}
use Rattle.listing_rules.specs.Walk.{Walked, ◌then◌, walk_from, walk_all, lawful_byte, Lists, Step, stop, go, command_line, packed, asked}
use Rattle.listing_rules.specs.Walk.{WalkReply, walk_refused, walked, ended, walk, walk_count, walk_by}
use Rattle.listing_rules.specs.Demand3.{walk_options, Demand3}
use Rattle.listing_rules.specs.Sending.{going_on, references_from, references, commands_sent, WalkCountsThese, OwnCommandsAnswered}
use Rattle.listing_rules.specs.Sending.{OwnRefusalsNine, walk_numbers, allowed_walk, WalksAllowed}
use Rattle.listing_rules.proofs.Keys.{open_bytes}
use Rattle.listing_rules.proofs.Bools.{and_l}
use Rattle.listing_rules.proofs.ListLaws.{all_append, all_imp, mem_every, keep_mem, map_mem}
use Rattle.listing_rules.proofs.EditLists.{every_append, every_right}
use Rattle.listing_rules.proofs.Levels.{Name}
use Rattle.listing_rules.proofs.LawfulNames.{good_parts}
use Rattle.listing_rules.proofs.Passes.{candidate_good}
use Rattle.listing_rules.proofs.Sent.{name_line}
use Rattle.listing_rules.proofs.Outcome.{Outcome, went, stopped}
use Rattle.listing_rules.proofs.Asked.{lists_of, Sizes, pats, names_listed_lem, finds, asks, answer_is_lem, asked_cases}
use Rattle.listing_rules.proofs.Demand3.{demand_3_holds}

-- a reference that a command may have
abbrev Fit : List ℕ → Type 0
Fit r = (all line_byte r ≡ true) × (length r ≤ 254)

-- that below a lawful name is one
fit_below : (n : List ℕ) → lawful_name n ≡ true → Fit (n ++ (slash ∷ []))
fit_below n h = (
  all_append line_byte n (slash ∷ []) (all_imp name_byte line_byte name_line n (good_parts n h).bytes) (unfold line_byte all within open_bytes in refl),
  omega (arith, (good_parts n h).most, length-append n (slash ∷ [])),
)

module _ (t : Table) (o : ℕ) (ok : passes t ≡ true) (lw : lawful_byte o ≡ true) where
  -- the names that a command puts to pending are lawful
  asks_lawful : (r : List ℕ) → every lawful_name (asks t o r) ≡ true
  unfolding listed_names
  asks_lawful r =
      mem_every lawful_name (asks t o r) (λ n m. candidate_good t ok n
      (keep_mem (listed (rows t) (walk_options o) (pats t o r)) (candidates (rows t)) n (keep_mem _ (names_listed_lem t o r) n m).0).0)

  module _ (scratch found pending : ℕ) where
    -- what holds of the two lists between two commands
    abbrev Sound : Lists → Type 0
    Sound s = Sizes found pending s.finds s.asks × (every lawful_name s.asks ≡ true)

    sound_after : (s : Lists) (r : List ℕ) → Fit r → Sound s → (x : Step Lists) → asked t o scratch found pending s r ≡ x →
        (f : Lists → List (List ℕ))
        → ((u : Lists) → Sound u → (z : List ℕ) → list_mem z (f u) → Fit z) → (z : List ℕ) → list_mem z (going_on x f) → Fit z
    unfolding going_on
    sound_after s r w h (stop k) e f next z m = absurd (list_mem_not_nil m)
    sound_after s r w h (go u) e f next z m = pick (asked_cases t o r scratch found pending lw ok w.0 w.1 s.finds s.asks h.0)
      where
        pick : Outcome (asked t o scratch found pending (lists_of s.finds s.asks) r) (lists_of (s.finds ++ finds t o r) (s.asks ++ asks t o r))
            ((length (list_answer (rows t) (text "w") (walk_options o) (pats t o r)) ≤ scratch) × Sizes found pending (s.finds ++ finds t o r)
            (s.asks ++ asks t o r)) → Fit z
        pick (went q k) =
            let d : go (lists_of (s.finds ++ finds t o r) (s.asks ++ asks t o r)) ≡ go u = sym q ∙ e in
            next u (subst Sound (gone _ u d) (k.1, every_append lawful_name s.asks (asks t o r) h.1 (asks_lawful r))) z m
          where
            gone : (a b : Lists) → go a ≡ go b → a ≡ b
            gone a b p = ap (of a) p
              where
                of : Lists → Step Lists → Lists
                of d (stop k) = d
                of d (go x) = x
        pick (stopped k j q n) = absurd (clash k u (sym q ∙ e))
          where
            clash : (k : ℕ) (u : Lists) → stop k ≡ go u → ⊥
            clash k u p = subst code p tt
              where
                code : Step Lists → Type 0
                code (stop k) = Unit {0}
                code (go x) = ⊥

    dropped_lawful : (done : ℕ) (ns : List Name) → every lawful_name ns ≡ true → every lawful_name (drop done ns) ≡ true
    dropped_lawful done ns h =
        every_right lawful_name (take done ns) (drop done ns) (subst (λ (l : List Name). every lawful_name l ≡ true) (sym (take-append-drop done ns)) h)

    from_fit : (k done : ℕ) (s : Lists) → Sound s → (z : List ℕ) → list_mem z (references_from t o scratch found pending k done s) → Fit z
    unfolding references_from every
    from_fit zero done s h z m = absurd (list_mem_not_nil m)
    from_fit (suc k) done s h z m = pick (drop done s.asks) (dropped_lawful done s.asks h.1) m (λ u v y j. from_fit k (suc done) u v y j)
      where
        pick : (l : List Name) → every lawful_name l ≡ true
            → list_mem z (elim l [
              | [] ↦ []
              | n ∷
                  ns ↦ ((n ++ (slash ∷ [])) ∷
                  going_on (asked t o scratch found pending s (n ++ (slash ∷ []))) (λ u. references_from t o scratch found pending k (suc done) u))
            ])
            → ((u : Lists) → Sound u → (y : List ℕ) → list_mem y (references_from t o scratch found pending k (suc done) u) → Fit y) → Fit z
        pick [] g j next = absurd (list_mem_not_nil j)
        pick (n ∷ ns) g j next =
            let w = fit_below n (and_l (lawful_name n) (every lawful_name ns) g) in
            ⊎_elim (λ e. subst Fit (sym e) w)
            (λ i. sound_after s (n ++ (slash ∷ [])) w h (asked t o scratch found pending s (n ++ (slash ∷ []))) refl
            (λ u. references_from t o scratch found pending k (suc done) u) next z i)
            (list_mem_cases_cons j)

    references_fit : (fuel : ℕ) (z : List ℕ) → list_mem z (references t o scratch found pending fuel) → Fit z
    unfolding references
    references_fit fuel z m =
        ⊎_elim (λ e. subst Fit (sym e) empty_fit)
        (λ i. sound_after none [] empty_fit none_sound (asked t o scratch found pending none []) refl
        (λ u. references_from t o scratch found pending fuel 0 u)
        (λ u v y j. from_fit fuel 0 u v y j) z i) (list_mem_cases_cons m)
      where
        none : Lists
        none = record { finds = []; asks = [] }

        empty_fit : Fit []
        empty_fit = (unfold all in refl, omega arith)

        none_sound : Sound none
        none_sound = unfold every packed joined in ((omega arith, omega arith), refl)

    own_answer_lem : (l : List ℕ) → list_mem l (commands_sent t o scratch found pending) → (a : List ℕ) × (answer t [] l ≡ answered a)
    unfolding commands_sent
    own_answer_lem l m =
        let w = map_mem (command_line o) l (references t o scratch found pending (suc (suc (length (candidates (rows t)))))) m in
        let f = references_fit (suc (suc (length (candidates (rows t))))) w.0 w.1 in
        (list_answer (rows t) (text "w") (walk_options o) (pats t o w.0), ap (answer t []) w.2 ∙ answer_is_lem t o w.0 lw ok f.0 f.1)

-- each command that the walk sends is answered
pub own_commands : OwnCommandsAnswered
own_commands t o scratch found pending ok lw =
    mem_every (λ l. is_answered (answer t [] l)) (commands_sent t o scratch found pending)
    (λ l m. ap is_answered (own_answer_lem t o ok lw scratch found pending l m).1 ∙ (unfold is_answered in refl))

-- and 9 alone can come of it
pub own_refusals : OwnRefusalsNine
own_refusals t o scratch found pending ok lw =
    mem_every (λ l. one_of (0 ∷ 9 ∷ []) (number_of (limited scratch (answer t [] l)))) (commands_sent t o scratch found pending)
    (λ l m. let w = own_answer_lem t o ok lw scratch found pending l m in ap (λ (r : Reply). one_of (0 ∷ 9 ∷ []) (number_of (limited scratch r))) w.1 ∙
    within_room w.0)
  where
    within_room : (a : List ℕ) → one_of (0 ∷ 9 ∷ []) (number_of (limited scratch (answered a))) ≡ true
    within_room a = unfold limited in pick (leb (length a) scratch)
      where
        pick : (b : Bool) → one_of (0 ∷ 9 ∷ []) (number_of (cond b (answered a) (refusal 9))) ≡ true
        pick true = unfold number_of one_of in refl
        pick false = unfold number_of one_of in refl

refused_allowed : (k : ℕ) → one_of walk_numbers k ≡ true → allowed_walk (walk_refused k) ≡ true
unfolding allowed_walk
refused_allowed k e = e

-- "The collector's promise then allows no number but 1, 6, 9, 10, 11 and W9's 16"
pub walk_allowed : WalksAllowed
unfolding walk_by
walk_allowed reader t o scratch found pending = go (is_reader reader)
  where
    short : (k : ℕ) → one_of (9 ∷ 10 ∷ 11 ∷ []) k ≡ true → one_of walk_numbers k ≡ true
    short k e = unfold walk_numbers one_of in pick (eqb 1 k) (eqb 6 k) (eqb 9 k) (eqb 10 k) (eqb 11 k) (unfold one_of in e)
      where
        pick : (x y a b c : Bool) → (a || (b || (c || false))) ≡ true → (x || (y || (a || (b || (c || (eqb 16 k || false)))))) ≡ true
        pick true y a b c e = refl
        pick false true a b c e = refl
        pick false false true b c e = refl
        pick false false false true c e = refl
        pick false false false false true e = refl
        pick false false false false false e = absurd (false≢true e)

    owed : (r : WalkReply) → Demand3 t o scratch found pending r → allowed_walk r ≡ true
    owed (walk_refused k) d = unfold Demand3 allowed_walk in short k d.1
    owed (walked c f p) d = unfold Demand3 allowed_walk in (let q = d.1 in le-leb 1 c (omega (arith, q)))

    refused : (k : ℕ) → one_of walk_numbers k ≡ true → walk t o scratch found pending ≡ walk_refused k →
        allowed_walk (walk t o scratch found pending) ≡ true
    refused k e q = ap allowed_walk q ∙ refused_allowed k e

    by_byte : passes t ≡ true → (c : Bool) → lawful_byte o ≡ c → allowed_walk (walk t o scratch found pending) ≡ true
    by_byte h true e = owed (walk t o scratch found pending) (demand_3_holds t o scratch found pending h e)
    by_byte h false e = refused 6 (unfold walk_numbers one_of in refl) (unfold walk in rw (h, e))

    whole : (b : Bool) → passes t ≡ b → allowed_walk (walk t o scratch found pending) ≡ true
    whole true h = by_byte h (lawful_byte o) refl
    whole false h = refused 1 (unfold walk_numbers one_of in refl) (unfold walk in rw h)

    go : (b : Bool) → allowed_walk (cond b (walk t o scratch found pending) (walk_refused 16)) ≡ true
    go true = whole (passes t) refl
    go false = unfold allowed_walk walk_numbers one_of in refl

-- The list of these commands is honest: a walk that comes to its end counts exactly these.
module _ (t : Table) (o scratch found pending : ℕ) where
  gone : {A : Type 0} (a b : A) → go a ≡ go b → a ≡ b
  gone {A} a b p = ap of p
    where
      of : Step A → A
      of (stop k) = a
      of (go x) = x

  halted : {A : Type 0} (k : ℕ) (u : A) → stop k ≡ go u → ⊥
  halted {A} k u p = subst code p tt
    where
      code : Step A → Type 0
      code (stop k) = Unit {0}
      code (go x) = ⊥

  abbrev refs : ℕ → ℕ → Lists → List (List ℕ)
  refs k done s = references_from t o scratch found pending k done s

  count_step : (w : Walked) (k done : ℕ) (x : Step Lists) → (x then λ u. walk_from t o scratch found pending k (suc done) u) ≡ go w
      → ((u : Lists) → walk_from t o scratch found pending k (suc done) u ≡ go w → w.count ≡ suc (suc done + length (refs k (suc done) u)))
      → w.count ≡ suc (suc done + length (going_on x (λ u. refs k (suc done) u)))
  unfolding ◌then◌ going_on
  count_step w k done (stop j) e next = absurd (halted j w e)
  count_step w k done (go u) e next = next u e

  count_from : (k done : ℕ) (s : Lists) (w : Walked) → walk_from t o scratch found pending k done s ≡ go w →
      w.count ≡ suc (done + length (refs k done s))
  unfolding walk_from references_from
  count_from zero done s w e = absurd (halted 0 w e)
  count_from (suc k) done s w e = pick (drop done s.asks) e (λ u f. count_from k (suc done) u w f)
    where
      pick : (l : List Name)
          → elim l [
            | [] ↦ go (record { count = suc done; lists = s })
            | n ∷
                ns ↦ (asked t o scratch found pending s (n ++ (slash ∷ [])) then λ u. walk_from t o scratch found pending k (suc done) u)
          ] ≡ go w
          → ((u : Lists) → walk_from t o scratch found pending k (suc done) u ≡ go w → w.count ≡ suc (suc done + length (refs k (suc done) u)))
          → w.count ≡ suc (done + length {A = List ℕ} (elim l [
            | [] ↦ []
            | n ∷ ns ↦ ((n ++ (slash ∷ [])) ∷ going_on (asked t o scratch found pending s (n ++ (slash ∷ []))) (λ u. refs k (suc done) u))
          ]))
      pick [] e next = let q : w.count ≡ suc done = ap (λ (v : Walked). v.count) (sym (gone _ w e)) in omega (arith, q)
      pick (n ∷ ns) e next =
          let q = count_step w k done (asked t o scratch found pending s (n ++ (slash ∷ []))) e next in
          omega (arith, q)

  walk_sends : (fuel : ℕ) (w : Walked) → walk_all t o scratch found pending fuel ≡ go w → w.count ≡ length (references t o scratch found pending fuel)
  unfolding walk_all references
  walk_sends fuel w e = first (asked t o scratch found pending (record { finds = []; asks = [] }) []) e
    where
      first : (x : Step Lists) → (x then λ u. walk_from t o scratch found pending fuel 0 u) ≡ go w →
          w.count ≡ suc (length (going_on x (λ u. refs fuel 0 u)))
      first (stop j) e = absurd (halted j w (unfold ◌then◌ in e))
      first (go u) e = unfold ◌then◌ going_on in (let q = count_from fuel 0 u w e in omega (arith, q))

pub walk_counts_these : WalkCountsThese
unfolding walk ended walk_count commands_sent
walk_counts_these t o scratch found pending count f p e = pick (passes t) (lawful_byte o) e
  where
    fuel : ℕ
    fuel = suc (suc (length (candidates (rows t))))

    refused : (k : ℕ) → walk_refused k ≡ walked count f p → ⊥
    refused k q = subst code q tt
      where
        code : WalkReply → Type 0
        code (walk_refused k) = Unit {0}
        code (walked c f p) = ⊥

    counted : (x : Step Walked) → walk_all t o scratch found pending fuel ≡ x → ended x ≡ walked count f p →
        count ≡ length (map (command_line o) (references t o scratch found pending fuel))
    counted (stop k) q h = absurd (refused k h)
    counted (go w) q h = ap walk_count (sym h) ∙ walk_sends t o scratch found pending fuel w q ∙ sym
        (length-map (references t o scratch found pending fuel) (command_line o))

    pick : (a b : Bool) → cond a (cond b (ended (walk_all t o scratch found pending fuel)) (walk_refused 6)) (walk_refused 1) ≡ walked count f p
        → count ≡ length (map (command_line o) (references t o scratch found pending fuel))
    pick true true h = counted (walk_all t o scratch found pending fuel) refl h
    pick true false h = absurd (refused 6 h)
    pick false b h = absurd (refused 1 h)
