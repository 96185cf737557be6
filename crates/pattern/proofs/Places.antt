-- Places of the name that the places of a pattern can still meet, and how many there are. Rests on Tails.
--
-- Where a place of the pattern has met all places of the name before x, a byte after it meets none before x + 1, a "/" sends what is
-- after it to the next level, and a wildcard leaves it so.
use Rattle.listing_rules.proofs.Prelude.{◌∙◌, ◌≡◌, ap, refl, sym, Bool, cond, false, true, List, [], ◌++◌, ◌∷◌, ◌*◌, ◌+◌, ◌-◌, ◌<◌, ◌≤◌, suc, zero, ℕ}
use Rattle.listing_rules.proofs.Prelude.{suc-mul, arith, eqb, drop, length, drop-drop}
use Rattle.listing_rules.specs.Bytes.{slash}
use Rattle.pattern.specs.Folded.{is_wildcard}
use Rattle.pattern.proofs.Tails.{PlainByte, Plainly}

-- the bytes through the first slash, or one more than all
unfoldable pub through : List ℕ → ℕ
through [] = 1
through (c ∷ n) = cond (eqb c slash) 1 (suc (through n))

-- the place after the first slash from place x on, or one after the end
unfoldable pub next_level : List ℕ → ℕ → ℕ
next_level name x = x + through (drop x name)

-- the least place that is met after the byte c of the pattern, if x is that at it
unfoldable pub past : List ℕ → ℕ → ℕ → ℕ
past name x c = cond (is_wildcard c) x (cond (eqb c slash) (next_level name x) (x + 1))

unfoldable pub past_all : List ℕ → ℕ → List ℕ → ℕ
past_all name x [] = x
past_all name x (c ∷ q) = past_all name (past name x c) q

-- the places of the name from x on, its end included
unfoldable pub room : List ℕ → ℕ → ℕ
room name x = suc (length name) - x

-- the steps that are left at the places of q
unfoldable pub left : List ℕ → ℕ → List ℕ → ℕ
left name x [] = 0
left name x (c ∷ q) = room name x + left name (past name x c) q

-- and at those to the end, the end included
unfoldable pub to_end : List ℕ → ℕ → List ℕ → ℕ
to_end name x [] = room name x
to_end name x (c ∷ q) = room name x + to_end name (past name x c) q

module _ (name : List ℕ) where
  through_some : (n : List ℕ) → 0 < through n
  unfolding through
  through_some [] = omega arith
  through_some (c ∷ n) = go (eqb c slash)
    where
      go : (s : Bool) → 0 < cond s 1 (suc (through n))
      go true = omega arith
      go false = omega arith

  pub next_more : (x : ℕ) → x < next_level name x
  unfolding next_level
  next_more x = omega (arith, through_some (drop x name))

  -- past a slash, and past another byte
  pub next_slash : (x d : ℕ) (m : List ℕ) → drop x name ≡ d ∷ m → eqb d slash ≡ true → next_level name x ≡ x + 1
  unfolding next_level through
  next_slash x d m e s = rw (e, s)

  pub after : (x d : ℕ) (m : List ℕ) → drop x name ≡ d ∷ m → drop (x + 1) name ≡ m
  after x d m e = sym (drop-drop 1 x name) ∙ ap (λ (l : List ℕ). drop 1 l) e

  pub next_byte : (x d : ℕ) (m : List ℕ) → drop x name ≡ d ∷ m → eqb d slash ≡ false → next_level name x ≡ next_level name (x + 1)
  unfolding next_level through
  next_byte x d m e s = rw (after x d m e, e, s) (omega arith)

  next_end : (x : ℕ) → drop x name ≡ [] → next_level name x ≡ x + 1
  unfolding next_level through
  next_end x e = rw e

  next_step_lem : (x : ℕ) → next_level name x ≤ next_level name (x + 1)
  next_step_lem x = go (drop x name) refl
    where
      go : (l : List ℕ) → drop x name ≡ l → next_level name x ≤ next_level name (x + 1)
      go [] e = omega (arith, next_end x e, next_more (x + 1))
      go (d ∷ m) e = byte (eqb d slash) refl
        where
          byte : (s : Bool) → eqb d slash ≡ s → next_level name x ≤ next_level name (x + 1)
          byte true f = omega (arith, next_slash x d m e f, next_more (x + 1))
          byte false f = omega (arith, next_byte x d m e f)

  next_far : (k x : ℕ) → next_level name x ≤ next_level name (x + k)
  next_far zero x = let w : x + 0 ≡ x = omega arith in rw w (omega arith)
  next_far (suc k) x = let w : x + suc k ≡ x + k + 1 = omega arith in rw w (omega (arith, next_far k x, next_step_lem (x + k)))

  pub next_mono : (x y : ℕ) → x ≤ y → next_level name x ≤ next_level name y
  next_mono x y h = let w : y ≡ x + (y - x) = omega arith in rw w (next_far (y - x) x)

  -- the run q stands at place x
  pub next_run : (q : List ℕ) (x : ℕ) (m : List ℕ) → Plainly q → drop x name ≡ q ++ m → next_level name x ≡ next_level name (x + length q)
  next_run [] x m h e = let w : x + 0 ≡ x = omega arith in rw w
  next_run (c ∷ q) x m h e =
      let w : x + length (c ∷ q) ≡ x + 1 + length q = omega arith in
      next_byte x c (q ++ m) e h.0.within ∙ rw w (next_run q (x + 1) m h.1 (after x c (q ++ m) e))

  -- ---- past a byte of the pattern

  pub past_wild : (x c : ℕ) → is_wildcard c ≡ true → past name x c ≡ x
  unfolding past
  past_wild x c w = rw w

  pub past_slash : (x c : ℕ) → is_wildcard c ≡ false → eqb c slash ≡ true → past name x c ≡ next_level name x
  unfolding past
  past_slash x c w s = rw (w, s)

  pub past_plain : (x c : ℕ) → PlainByte c → past name x c ≡ x + 1
  unfolding past
  past_plain x c p = rw (p.tame, p.within)

  past_mono : (c x y : ℕ) → x ≤ y → past name x c ≤ past name y c
  unfolding past
  past_mono c x y h = go (is_wildcard c) (eqb c slash)
    where
      go : (w s : Bool) → cond w x (cond s (next_level name x) (x + 1)) ≤ cond w y (cond s (next_level name y) (y + 1))
      go true s = h
      go false true = next_mono x y h
      go false false = omega arith

  past_least : (c x : ℕ) → x ≤ past name x c
  unfolding past
  past_least c x = go (is_wildcard c) (eqb c slash)
    where
      go : (w s : Bool) → x ≤ cond w x (cond s (next_level name x) (x + 1))
      go true s = omega arith
      go false true = omega (arith, next_more x)
      go false false = omega arith

  -- ---- past several

  pub all_least : (q : List ℕ) (x : ℕ) → x ≤ past_all name x q
  unfolding past_all
  all_least [] x = omega arith
  all_least (c ∷ q) x = omega (arith, past_least c x, all_least q (past name x c))

  pub all_mono : (q : List ℕ) (x y : ℕ) → x ≤ y → past_all name x q ≤ past_all name y q
  unfolding past_all
  all_mono [] x y h = h
  all_mono (c ∷ q) x y h = all_mono q (past name x c) (past name y c) (past_mono c x y h)

  pub all_append : (p q : List ℕ) (x : ℕ) → past_all name x (p ++ q) ≡ past_all name (past_all name x p) q
  unfolding past_all
  all_append [] q x = refl
  all_append (c ∷ p) q x = all_append p q (past name x c)

  pub all_one : (c x : ℕ) → past_all name x (c ∷ []) ≡ past name x c
  unfolding past_all
  all_one c x = refl

  pub all_none : (x : ℕ) → past_all name x [] ≡ x
  unfolding past_all
  all_none x = refl

  pub all_plain : (q : List ℕ) (x : ℕ) → Plainly q → past_all name x q ≡ x + length q
  unfolding past_all
  all_plain [] x h = omega arith
  all_plain (c ∷ q) x h = rw (past_plain x c h.0) (all_plain q (x + 1) h.1 ∙ omega arith)

  -- ---- steps that are left

  pub room_anti : (x y : ℕ) → x ≤ y → room name y ≤ room name x
  unfolding room
  room_anti x y h = omega arith

  pub room_less : (x y : ℕ) → x ≤ length name → x < y → room name y + 1 ≤ room name x
  unfolding room
  room_less x y h g = omega arith

  pub room_some : (x : ℕ) → x ≤ length name → 1 ≤ room name x
  unfolding room
  room_some x h = omega arith

  pub left_none : (x : ℕ) → left name x [] ≡ 0
  unfolding left
  left_none x = refl

  pub left_one : (c x : ℕ) → left name x (c ∷ []) ≡ room name x
  unfolding left
  left_one c x = omega arith

  pub left_anti : (q : List ℕ) (x y : ℕ) → x ≤ y → left name y q ≤ left name x q
  unfolding left
  left_anti [] x y h = omega arith
  left_anti (c ∷ q) x y h = omega (arith, room_anti x y h, left_anti q (past name x c) (past name y c) (past_mono c x y h))

  pub left_append : (p q : List ℕ) (x : ℕ) → left name x (p ++ q) ≡ left name x p + left name (past_all name x p) q
  unfolding left past_all
  left_append [] q x = omega arith
  left_append (c ∷ p) q x = rw (left_append p q (past name x c)) (omega arith)

  pub end_cons : (c : ℕ) (ps : List ℕ) (x : ℕ) → to_end name x (c ∷ ps) ≡ room name x + to_end name (past name x c) ps
  unfolding to_end
  end_cons c ps x = refl

  pub end_some : (ps : List ℕ) (x : ℕ) → room name x ≤ to_end name x ps
  unfolding to_end
  end_some [] x = omega arith
  end_some (c ∷ ps) x = omega arith

  pub end_anti : (ps : List ℕ) (x y : ℕ) → x ≤ y → to_end name y ps ≤ to_end name x ps
  unfolding to_end
  end_anti [] x y h = room_anti x y h
  end_anti (c ∷ ps) x y h = omega (arith, room_anti x y h, end_anti ps (past name x c) (past name y c) (past_mono c x y h))

  pub end_less : (ps : List ℕ) (x y : ℕ) → x ≤ length name → x < y → to_end name y ps + 1 ≤ to_end name x ps
  unfolding to_end
  end_less [] x y h g = room_less x y h g
  end_less (c ∷ ps) x y h g = omega (arith, room_less x y h g, end_anti ps (past name x c) (past name y c) (past_mono c x y (omega arith)))

  pub end_append : (q ps : List ℕ) (x : ℕ) → to_end name x (q ++ ps) ≡ left name x q + to_end name (past_all name x q) ps
  unfolding to_end left past_all
  end_append [] ps x = omega arith
  end_append (c ∷ q) ps x = rw (end_append q ps (past name x c)) (omega arith)

  room_most : (x : ℕ) → room name x ≤ length name + 1
  unfolding room
  room_most x = omega arith

  pub end_most : (ps : List ℕ) (x : ℕ) → to_end name x ps ≤ (length ps + 1) * (length name + 1)
  unfolding to_end
  end_most [] x = omega (arith, room_most x)
  end_most (c ∷ ps) x =
      let w : length (c ∷ ps) + 1 ≡ suc (length ps + 1) = omega arith in
      rw (w, suc-mul (length ps + 1) (length name + 1)) (omega (arith, room_most x, end_most ps (past name x c)))
