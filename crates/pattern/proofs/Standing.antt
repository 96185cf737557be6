-- Where a match stands: what is still to be looked at decides the answer. Rests on Tails, Places and Spans.
use Rattle.listing_rules.proofs.Prelude.{◌∙◌, ◌≡◌, ap, refl, sym, Bool, ◌||◌, false, false≢true, or-false, true, List, [], ◌++◌, ◌∷◌, ◌+◌, ◌-◌, ◌≤◌}
use Rattle.listing_rules.proofs.Prelude.{ℕ, arith, eqb, drop, length}
use Rattle.listing_rules.specs.Bytes.{slash, is_empty}
use Rattle.listing_rules.specs.Match.{any_tail, any_tail_in_level, wild_match}
use Rattle.listing_rules.proofs.Bools.{or_l, bools_equal}
use Rattle.pattern.specs.declared.steps.Kind.{Kind}
use Rattle.pattern.specs.declared.steps.Kind.TheVariants.{Plain, Level, Any}
use Rattle.pattern.specs.declared.steps.Known.{Known}
use Rattle.pattern.specs.declared.steps.Known.TheVariants.{Gone, Pending, Settled}
use Rattle.pattern.specs.Folded.{folded, is_wildcard}
use Rattle.pattern.proofs.Tails.{Plainly, after_slash, any_level, here_any, here_level, star_is_lem, level_is_lem, byte_same, byte_none, after_slash_lem}
use Rattle.pattern.proofs.Tails.{after_byte, any_next, level_next, level_end, star_twice, level_twice, star_level, run_match, run_any}
use Rattle.pattern.proofs.Tails.{run_level, run_after, byte_any, star_all}
use Rattle.pattern.proofs.Spans.{rest_at, span, span_rest, span_none}

-- the bytes between places a and i of the pattern are plain, and stand in the name between x and j
pub record Begun (fold : Bool) (pattern name : List ℕ) (a x i j : ℕ) : Type 0 where
  pub order : a ≤ i
  pub inside : i ≤ length pattern
  pub even : j ≡ x + (i - a)
  pub within : j ≤ length name
  pub plain : Plainly (span fold pattern a i)
  pub front : drop x name ≡ span fold pattern a i ++ drop j name

-- the tails that a run may begin at
abbrev pub tails : Kind → (List ℕ → Bool) → List ℕ → Bool
tails Plain f n = f n
tails Level f n = any_tail_in_level f n
tails Any f n = any_tail f n

-- what the "*" to go back to may still take: after the level, or from a place on
abbrev pub later : Bool → List ℕ → List ℕ → Known → ℕ → ℕ → ℕ → Bool
later fold pattern name Gone s g j = false
later fold pattern name Pending s g j = after_slash (wild_match (rest_at fold pattern s)) (drop j name)
later fold pattern name Settled s g j = any_tail (wild_match (rest_at fold pattern s)) (drop g name)

-- a run that began at a place of the pattern and one of the name, and the "*" to go back to, decide the answer; and the run could begin
-- later wherever the answer is yes
pub record Decides (fold : Bool) (pattern name : List ℕ) (k : Kind) (h : Known) (a x j s g : ℕ) : Type 0 where
  pub says : wild_match (folded fold pattern) name ≡ (tails k (wild_match (rest_at fold pattern a)) (drop x name) || later fold pattern name h s g j)
  pub far : wild_match (folded fold pattern) name ≡ true → any_tail (wild_match (rest_at fold pattern a)) (drop x name) ≡ true

module _ (fold : Bool) (pattern name : List ℕ) where
  abbrev answer : Bool
  answer = wild_match (folded fold pattern) name

  abbrev match_at : ℕ → List ℕ → Bool
  match_at a = wild_match (rest_at fold pattern a)

  -- a run of no bytes
  pub begun_here : (i j : ℕ) → i ≤ length pattern → j ≤ length name → Begun fold pattern name i j i j
  begun_here i j h g = record {
    order = omega arith;
    inside = h;
    even = omega arith;
    within = g;
    plain = rw (span_none fold pattern i) tt;
    front = rw (span_none fold pattern i);
  }

  module _ (a x i j : ℕ) (b : Begun fold pattern name a x i j) where
    run_is_lem : match_at a (drop x name) ≡ match_at i (drop j name)
    run_is_lem = rw (span_rest fold pattern a i b.order, b.front) (run_match (span fold pattern a i) (rest_at fold pattern i) (drop j name) b.plain)

    any_on : any_tail (match_at a) (drop x name) ≡ true → any_tail (match_at i) (drop j name) ≡ true
    any_on e =
        run_any (span fold pattern a i) (rest_at fold pattern i) (drop j name) b.plain (rw (span_rest fold pattern a i b.order, b.front) at e)

    level_on : any_tail_in_level (match_at a) (drop x name) ≡ true → any_tail_in_level (match_at i) (drop j name) ≡ true
    level_on e =
        run_level (span fold pattern a i) (rest_at fold pattern i) (drop j name) b.plain (rw (span_rest fold pattern a i b.order, b.front) at e)

    after_on : (f : List ℕ → Bool) → after_slash f (drop x name) ≡ after_slash f (drop j name)
    after_on f = rw b.front (run_after f (span fold pattern a i) (drop j name) b.plain)

    -- what is matched here is matched from where the run began
    here_tails : (k : Kind) → match_at i (drop j name) ≡ true → tails k (match_at a) (drop x name) ≡ true
    here_tails Plain e = run_is_lem ∙ e
    here_tails Level e = here_level (match_at a) (drop x name) (run_is_lem ∙ e)
    here_tails Any e = here_any (match_at a) (drop x name) (run_is_lem ∙ e)

    module _ (k : Kind) (h : Known) (s g : ℕ) (d : Decides fold pattern name k h a x j s g) where
      -- ---- the answer

      pub yes_here : match_at i (drop j name) ≡ true → answer ≡ true
      yes_here e = d.says ∙ or_l (tails k (match_at a) (drop x name)) (later fold pattern name h s g j) (here_tails k e)

      -- both are at their ends
      pub yes_ends : rest_at fold pattern i ≡ [] → drop j name ≡ [] → answer ≡ true
      unfolding wild_match is_empty
      yes_ends p q = yes_here (rw (p, q))

      far_here : answer ≡ true → any_tail (match_at i) (drop j name) ≡ true
      far_here e = any_on (d.far e)

      -- a byte that stands for itself, and the name at its end
      pub no_end : (c : ℕ) (r : List ℕ) → rest_at fold pattern i ≡ c ∷ r → is_wildcard c ≡ false → drop j name ≡ [] → answer ≡ false
      unfolding any_tail
      no_end c r p w q = bools_equal answer false (λ e. sym (byte_none c r w) ∙ (rw (p, q) at (far_here e))) (λ e. absurd (false≢true e))

      -- ---- at "*"

      module _ (p : rest_at fold pattern i ≡ 42 ∷ rest_at fold pattern (i + 1)) where
        star_here : match_at i (drop j name) ≡ any_tail (match_at (i + 1)) (drop j name)
        star_here = rw p (star_is_lem (rest_at fold pattern (i + 1)) (drop j name))

        star_answer : answer ≡ any_tail (match_at (i + 1)) (drop j name)
        unfolding wild_match
        star_answer = bools_equal answer (any_tail (match_at (i + 1)) (drop j name))
            (λ e. sym (star_twice (match_at (i + 1)) (drop j name)) ∙ (rw p at (far_here e))) (λ e. yes_here (star_here ∙ e))

        pub star_last : rest_at fold pattern (i + 1) ≡ [] → answer ≡ true
        star_last q = star_answer ∙ rw q (star_all (drop j name))

        pub star_decides : Decides fold pattern name Any Gone (i + 1) j j 0 0
        star_decides = record {
          says = star_answer ∙ sym (or-false (any_tail (match_at (i + 1)) (drop j name)));
          far = λ e. sym star_answer ∙ e;
        }

      -- ---- at "%"

      module _ (p : rest_at fold pattern i ≡ 37 ∷ rest_at fold pattern (i + 1)) where
        level_here : match_at i (drop j name) ≡ any_tail_in_level (match_at (i + 1)) (drop j name)
        level_here = rw p (level_is_lem (rest_at fold pattern (i + 1)) (drop j name))

        level_far : answer ≡ true → any_tail (match_at (i + 1)) (drop j name) ≡ true
        unfolding wild_match
        level_far e = star_level (match_at (i + 1)) (drop j name) (rw p at (far_here e))

        -- the tails of the level that the run may begin at
        level_tails : any_tail_in_level (match_at a) (drop x name) ≡ any_tail_in_level (match_at (i + 1)) (drop j name)
        unfolding wild_match
        level_tails = bools_equal (any_tail_in_level (match_at a) (drop x name)) (any_tail_in_level (match_at (i + 1)) (drop j name))
            (λ e. sym (level_twice (match_at (i + 1)) (drop j name)) ∙ (rw p at (level_on e))) (λ e. here_tails Level (level_here ∙ e))

        pub level_plain : k ≡ Plain → Decides fold pattern name Level h (i + 1) j j s g
        level_plain e = record {
          says = d.says ∙ rw (e, run_is_lem ∙ level_here);
          far = level_far;
        }

        pub level_level : k ≡ Level → Decides fold pattern name Level h (i + 1) j j s g
        level_level e = record { says = d.says ∙ rw (e, level_tails); far = level_far }

        pub level_any_run : k ≡ Any → h ≡ Gone → Decides fold pattern name Level Pending (i + 1) j j a 0
        level_any_run e f = record {
          says = d.says ∙ (rw (e, f) (or-false (any_tail (match_at a) (drop x name)) ∙ any_level (match_at a) (drop x name) ∙ rw (level_tails, after_on (match_at a))));
          far = level_far;
        }

      -- ---- the byte c of both

      module _ (c : ℕ) (p : rest_at fold pattern i ≡ c ∷ rest_at fold pattern (i + 1)) (q : drop j name ≡ c ∷ drop (j + 1) name) (w : is_wildcard c ≡ false) where
        byte_here : match_at i (drop j name) ≡ match_at (i + 1) (drop (j + 1) name)
        byte_here = rw (p, q) (byte_same c (rest_at fold pattern (i + 1)) (drop (j + 1) name) w)

        byte_far : answer ≡ true → any_tail (match_at (i + 1)) (drop (j + 1) name) ≡ true
        byte_far e = byte_any c (rest_at fold pattern (i + 1)) (drop (j + 1) name) w (rw (p, q) at (far_here e))

        -- no run moves: on by one byte, be it a slash or not
        pub byte_plain : k ≡ Plain → later fold pattern name h s g j ≡ later fold pattern name h s g (j + 1) → Decides fold pattern name Plain h (i + 1) (j + 1) (j + 1) s g
        byte_plain e f = record { says = d.says ∙ rw (e, f, run_is_lem, byte_here); far = byte_far }

        -- a plain byte makes the run longer
        pub later_byte : eqb c slash ≡ false → later fold pattern name h s g j ≡ later fold pattern name h s g (j + 1)
        later_byte v = go h
          where
            go : (o : Known) → later fold pattern name o s g j ≡ later fold pattern name o s g (j + 1)
            go Gone = refl
            go Pending = rw q (after_byte (match_at s) c (drop (j + 1) name) v)
            go Settled = refl

        pub byte_run : eqb c slash ≡ false → Decides fold pattern name k h a x (j + 1) s g
        byte_run v = record { says = d.says ∙ rw (later_byte v); far = d.far }

        -- a slash ends the level
        module _ (v : eqb c slash ≡ true) where
          slash_tails : any_tail_in_level (match_at a) (drop x name) ≡ match_at (i + 1) (drop (j + 1) name)
          slash_tails = bools_equal (any_tail_in_level (match_at a) (drop x name)) (match_at (i + 1) (drop (j + 1) name))
              (λ e. sym byte_here ∙ (rw (← q) at (sym (level_end (match_at i) c (drop (j + 1) name) v) ∙ (rw q at (level_on e)))))
              (λ e. here_tails Level (byte_here ∙ e))

          later_slash : later fold pattern name Pending s g j ≡ later fold pattern name Settled s (j + 1) (j + 1)
          later_slash = rw q (after_slash_lem (match_at s) c (drop (j + 1) name) v)

          pub slash_gone : k ≡ Level → h ≡ Gone → Decides fold pattern name Plain Gone (i + 1) (j + 1) (j + 1) s g
          slash_gone e f = record { says = d.says ∙ rw (e, f, slash_tails); far = byte_far }

          pub slash_pending : k ≡ Level → h ≡ Pending → Decides fold pattern name Plain Settled (i + 1) (j + 1) (j + 1) s (j + 1)
          slash_pending e f = record { says = d.says ∙ rw (e, f, slash_tails, later_slash); far = byte_far }

          pub slash_settled : k ≡ Level → h ≡ Settled → Decides fold pattern name Plain Settled (i + 1) (j + 1) (j + 1) s g
          slash_settled e f = record { says = d.says ∙ rw (e, f, slash_tails); far = byte_far }

          pub slash_any : k ≡ Any → h ≡ Gone → Decides fold pattern name Plain Settled (i + 1) (j + 1) (j + 1) a (j + 1)
          slash_any e f = record {
            says = d.says ∙ (rw (e, f) (or-false (any_tail (match_at a) (drop x name)) ∙ any_level (match_at a) (drop x name)
                ∙ rw (slash_tails, after_on (match_at a), q, after_slash_lem (match_at a) c (drop (j + 1) name) v)));
            far = byte_far;
          }

      -- ---- no match here

      module _ (o : match_at i (drop j name) ≡ false) where
        none_here : match_at a (drop x name) ≡ false
        none_here = run_is_lem ∙ o

        -- the run begins a byte later
        module _ (c : ℕ) (q : drop x name ≡ c ∷ drop (x + 1) name) where
          far_next : answer ≡ true → any_tail (match_at a) (drop (x + 1) name) ≡ true
          far_next e = sym (any_next (match_at a) c (drop (x + 1) name) (rw q at none_here)) ∙ (rw q at (d.far e))

          pub retry_any : k ≡ Any → h ≡ Gone → Decides fold pattern name Any h a (x + 1) (x + 1) s g
          retry_any e f = record {
            says = d.says ∙ (rw (e, f, q) (ap (λ (b : Bool). b || false) (any_next (match_at a) c (drop (x + 1) name) (rw q at none_here))));
            far = far_next;
          }

          later_next : eqb c slash ≡ false → later fold pattern name h s g j ≡ later fold pattern name h s g (x + 1)
          later_next v = go h
            where
              go : (z : Known) → later fold pattern name z s g j ≡ later fold pattern name z s g (x + 1)
              go Gone = refl
              go Pending = sym (after_on (match_at s)) ∙ rw q (after_byte (match_at s) c (drop (x + 1) name) v)
              go Settled = refl

          pub retry_level : k ≡ Level → eqb c slash ≡ false → Decides fold pattern name Level h a (x + 1) (x + 1) s g
          retry_level e v = record {
            says = d.says ∙ rw (e, later_next v, q, level_next (match_at a) c (drop (x + 1) name) (rw q at none_here) v);
            far = far_next;
          }

        -- the "*" goes on
        pub given_later : k ≡ Plain → answer ≡ later fold pattern name h s g j
        given_later e = d.says ∙ rw (e, none_here)

        pub level_later : (c : ℕ) (m : List ℕ) → k ≡ Level → a ≡ i → drop j name ≡ c ∷ m → eqb c slash ≡ true → answer ≡ later fold pattern name h s g j
        level_later c m e f q v =
            let w : x ≡ j = omega (arith, b.even) in
            let p : drop x name ≡ c ∷ m = ap (λ (y : ℕ). drop y name) w ∙ q in
            d.says ∙ rw (e, p, level_end (match_at a) c m v, rw p at none_here)

  -- a "*" begins where it is known to
  pub begin_decides : (s j : ℕ) → answer ≡ any_tail (match_at s) (drop j name) → Decides fold pattern name Any Gone s j j 0 0
  begin_decides s j e = record { says = e ∙ sym (or-false (any_tail (match_at s) (drop j name))); far = λ f. sym e ∙ f }

  pub later_begins : (c s g j : ℕ) → drop j name ≡ c ∷ drop (j + 1) name → eqb c slash ≡ true → later fold pattern name Pending s g j ≡ any_tail (match_at s) (drop (j + 1) name)
  later_begins c s g j q v = rw q (after_slash_lem (match_at s) c (drop (j + 1) name) v)
