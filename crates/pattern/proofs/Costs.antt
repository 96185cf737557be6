-- Steps that a match can still take, where it stands: each way of one step leaves at least one fewer. Rests on Places, Spans and Standing.
--
-- They are counted by the places of the pattern: from the "*" to go back to up to where the run began, from there to the place that
-- is looked at, and from that on.
use Rattle.listing_rules.proofs.Prelude.{◌∙◌, ◌≡◌, ap, sym, Bool, false, true, List, [], ◌++◌, ◌∷◌, append_assoc, ◌+◌, ◌<◌, ◌≤◌, ℕ, arith, eqb, drop}
use Rattle.listing_rules.proofs.Prelude.{length}
use Rattle.listing_rules.specs.Bytes.{slash}
use Rattle.pattern.specs.declared.steps.Known.{Known}
use Rattle.pattern.specs.declared.steps.Known.TheVariants.{Gone, Pending, Settled}
use Rattle.pattern.specs.Folded.{is_wildcard}
use Rattle.pattern.proofs.Tails.{PlainByte, plainly_more}
use Rattle.pattern.proofs.Places.{next_level, past, past_all, room, left, to_end, next_more, next_mono, next_run, past_wild, past_slash}
use Rattle.pattern.proofs.Places.{past_plain, all_least, all_mono, all_append, all_one, all_plain, room_anti, room_less, room_some, left_none}
use Rattle.pattern.proofs.Places.{left_one, left_anti, left_append, end_cons, end_some, end_less, end_append}
use Rattle.pattern.proofs.Spans.{rest_at, span, span_rest, span_none, span_join, span_more, span_length}
use Rattle.pattern.proofs.Standing.{Begun}

-- the steps that are left before the run, for the "*" to go back to
abbrev pub owed : Bool → List ℕ → List ℕ → Known → ℕ → ℕ → ℕ → ℕ → ℕ
owed fold pattern name Gone a j s g = 0
owed fold pattern name Pending a j s g = left name (next_level name j) (span fold pattern s a)
owed fold pattern name Settled a j s g = left name g (span fold pattern s a)

-- and all that are left
unfoldable pub due : Bool → List ℕ → List ℕ → Known → ℕ → ℕ → ℕ → ℕ → ℕ → ℕ → ℕ
due fold pattern name h a x i j s g =
    owed fold pattern name h a j s g + (left name (x + 1) (span fold pattern a i) + to_end name j (rest_at fold pattern i))

-- the "*" stands before the run; where it begins again, its bytes up to the run lead past the level of the run
abbrev pub Under : Bool → List ℕ → List ℕ → Known → ℕ → ℕ → ℕ → ℕ → Type 0
Under fold pattern name Gone a x s g = Unit {0}
Under fold pattern name Pending a x s g = s ≤ a
Under fold pattern name Settled a x s g = (s ≤ a) × (g ≤ length name) × (next_level name x ≤ past_all name g (span fold pattern s a))

module _ (fold : Bool) (pattern name : List ℕ) where
  abbrev Q : ℕ → ℕ → List ℕ
  Q a i = span fold pattern a i

  abbrev R : ℕ → List ℕ
  R a = rest_at fold pattern a

  module _ (a x i j : ℕ) (b : Begun fold pattern name a x i j) where
    -- the run leads one byte further than it stands
    run_past : past_all name (x + 1) (Q a i) ≡ j + 1
    run_past = all_plain name (Q a i) (x + 1) b.plain ∙ omega (arith, span_length fold pattern a i b.order b.inside, b.even)

    pub run_level : next_level name x ≡ next_level name j
    run_level =
        let w : x + length (Q a i) ≡ j = omega (arith, span_length fold pattern a i b.order b.inside, b.even) in
        next_run name (Q a i) x (drop j name) b.plain b.front ∙ ap (next_level name) w

    -- ---- the run

    pub begun_more : (c : ℕ) → i < length pattern → j < length name → R i ≡ c ∷ R (i + 1) → drop j name ≡ c ∷ drop (j + 1) name → PlainByte c
        → Begun fold pattern name a x (i + 1) (j + 1)
    begun_more c h g p q v = record {
      order = omega (arith, b.order);
      inside = omega arith;
      even = omega (arith, b.order, b.even);
      within = omega arith;
      plain = rw (span_more fold pattern a i c (R (i + 1)) b.order p) (plainly_more (Q a i) c b.plain v);
      front = b.front ∙ rw (span_more fold pattern a i c (R (i + 1)) b.order p, q) (sym (append_assoc (Q a i) (c ∷ []) (drop (j + 1) name)));
    }

    -- ---- the "*" to go back to, where what is before the run grows by the run and the byte c

    module _ (s w c : ℕ) (l : s ≤ a) (p : R i ≡ c ∷ R (i + 1)) (z : x + 1 ≤ past_all name w (Q s a)) where
      grown : Q s (i + 1) ≡ (Q s a ++ Q a i) ++ (c ∷ [])
      grown =
          span_more fold pattern s i c (R (i + 1)) (omega (arith, b.order)) p
          ∙ ap (λ (q : List ℕ). q ++ (c ∷ [])) (span_join fold pattern s a i l b.order)

      grown_past : j + 1 ≤ past_all name w (Q s a ++ Q a i)
      grown_past = rw (all_append name (Q s a) (Q a i) w, ← run_past) (all_mono name (Q a i) (x + 1) (past_all name w (Q s a)) z)

      pub grown_left : left name w (Q s (i + 1)) ≤ left name w (Q s a) + (left name (x + 1) (Q a i) + room name (j + 1))
      grown_left =
          rw (grown, left_append name (Q s a ++ Q a i) (c ∷ []) w, left_append name (Q s a) (Q a i) w, left_one name c (past_all name w (Q s a ++ Q a i)))
          (omega (arith, left_anti name (Q a i) (x + 1) (past_all name w (Q s a)) z, room_anti name (j + 1) (past_all name w (Q s a ++ Q a i)) grown_past))

      grown_all : past_all name w (Q s (i + 1)) ≡ past name (past_all name w (Q s a ++ Q a i)) c
      grown_all = rw (grown, all_append name (Q s a ++ Q a i) (c ∷ []) w, all_one name c (past_all name w (Q s a ++ Q a i)))

      -- after a slash
      pub grown_slash : is_wildcard c ≡ false → eqb c slash ≡ true → next_level name (j + 1) ≤ past_all name w (Q s (i + 1))
      grown_slash v u = rw (grown_all, past_slash name (past_all name w (Q s a ++ Q a i)) c v u) (next_mono name (j + 1) (past_all name w (Q s a ++ Q a i)) grown_past)

      -- after a wildcard, where the run's level is passed already
      pub grown_wild : is_wildcard c ≡ true → next_level name x ≤ past_all name w (Q s a) → next_level name j ≤ past_all name w (Q s (i + 1))
      grown_wild v u =
          rw (grown_all, past_wild name (past_all name w (Q s a ++ Q a i)) c v, all_append name (Q s a) (Q a i) w)
          (omega (arith, u, run_level, all_least name (Q a i) (past_all name w (Q s a))))

      -- after a plain byte of no run
      pub grown_plain : PlainByte c → next_level name (j + 1) ≤ next_level name x → next_level name x ≤ past_all name w (Q s a) → next_level name (j + 1) ≤ past_all name w (Q s (i + 1))
      grown_plain v t u =
          rw (grown_all, past_plain name (past_all name w (Q s a ++ Q a i)) c v, all_append name (Q s a) (Q a i) w)
          (omega (arith, t, u, all_least name (Q a i) (past_all name w (Q s a))))

    -- ---- what is left

    -- some
    pub due_some : (h : Known) (s g : ℕ) → 1 ≤ due fold pattern name h a x i j s g
    unfolding due
    due_some h s g = omega (arith, room_some name j b.within, end_some name (R i) j)

    -- a step past the byte c, to a place from which a run may begin
    pub due_past : (h k : Known) (s g t f y c : ℕ) → R i ≡ c ∷ R (i + 1) → past name j c ≡ y
        → owed fold pattern name k (i + 1) y t f ≤ owed fold pattern name h a j s g + (left name (x + 1) (Q a i) + room name (j + 1))
        → due fold pattern name k (i + 1) y (i + 1) y t f + 1 ≤ due fold pattern name h a x i j s g
    unfolding due
    due_past h k s g t f y c p e o =
        rw (span_none fold pattern (i + 1), left_none name (y + 1), p, end_cons name c (R (i + 1)) j, e)
        (omega (arith, o, room_less name j (j + 1) b.within (omega arith)))

    -- a plain byte more in the run
    pub due_run : (h : Known) (s g c : ℕ) → R i ≡ c ∷ R (i + 1) → PlainByte c → owed fold pattern name h a (j + 1) s g ≤ owed fold pattern name h a j s g
        → due fold pattern name h a x (i + 1) (j + 1) s g + 1 ≤ due fold pattern name h a x i j s g
    unfolding due
    due_run h s g c p v o =
        rw (
          span_more fold pattern a i c (R (i + 1)) b.order p,
          left_append name (Q a i) (c ∷ []) (x + 1),
          left_one name c (past_all name (x + 1) (Q a i)),
          run_past,
          p,
          end_cons name c (R (i + 1)) j,
          past_plain name j c v,
        )
        (omega (arith, o, room_less name j (j + 1) b.within (omega arith)))

    -- the run begins a byte later
    pub due_retry : (h : Known) (s g : ℕ) → owed fold pattern name h a (x + 1) s g ≤ owed fold pattern name h a j s g
        → due fold pattern name h a (x + 1) a (x + 1) s g + 1 ≤ due fold pattern name h a x i j s g
    unfolding due
    due_retry h s g o =
        rw (span_none fold pattern a, left_none name (x + 1 + 1), span_rest fold pattern a i b.order, end_append name (Q a i) (R i) (x + 1), run_past)
        (omega (arith, o, end_less name (R i) j (j + 1) b.within (omega arith)))

    -- the "*" begins again
    pub due_resume : (h : Known) (s g w : ℕ) → a ≡ i → s ≤ a → owed fold pattern name h a j s g ≡ left name w (Q s a) → next_level name x ≤ past_all name w (Q s a)
        → due fold pattern name Gone s w s w 0 0 + 1 ≤ due fold pattern name h a x i j s g
    unfolding due
    due_resume h s g w e l o z =
        rw (span_none fold pattern s, left_none name (w + 1), o, span_rest fold pattern s a l, end_append name (Q s a) (R a) w)
        (omega (arith, end_less name (R a) j (past_all name w (Q s a)) b.within (omega (arith, z, run_level, next_more name j)), ap (λ (k : ℕ). to_end name j (R k)) e))
