-- Bytes gathered one by one: what stands at the front after i of them, and where each place came to lie. Rests on the library alone.
use Rattle.listing_rules.proofs.Prelude.{◌∙◌, ◌≡◌, ap, refl, sym, Bool, cond, false, true, List, [], ◌++◌, ◌∷◌, append-nil, ◌+◌, ◌<◌, ◌≤◌, suc, ℕ}
use Rattle.listing_rules.proofs.Prelude.{add-one, dec_le, arith, get_or, length, length-append, length-set, set, take, get_or-set_other, get_or-set_same}
use Rattle.listing_rules.proofs.Prelude.{length-take-le, take_all, take-suc, take-suc-set}
use Rattle.compaction.specs.Gathered.{kept, kept_before, Gathers}

-- one byte more
kept_snoc : (ms : List Bool) (bs : List ℕ) (m : Bool) (b : ℕ) → length ms ≡ length bs
    → kept (ms ++ (m ∷ [])) (bs ++ (b ∷ [])) ≡ kept ms bs ++ cond m [] (b ∷ [])
unfolding kept
kept_snoc [] [] true b e = refl
kept_snoc [] [] false b e = refl
kept_snoc [] (x ∷ bs) m b e = absurd (omega (arith, e))
kept_snoc (a ∷ ms) [] m b e = absurd (omega (arith, e))
kept_snoc (true ∷ ms) (x ∷ bs) m b e = kept_snoc ms bs m b (omega (arith, e))
kept_snoc (false ∷ ms) (x ∷ bs) m b e = ap (λ (l : List ℕ). x ∷ l) (kept_snoc ms bs m b (omega (arith, e)))

kept_most : (ms : List Bool) (bs : List ℕ) → length (kept ms bs) ≤ length bs
unfolding kept
kept_most [] bs = omega arith
kept_most (m ∷ ms) [] = omega arith
kept_most (true ∷ ms) (b ∷ bs) = omega (arith, kept_most ms bs)
kept_most (false ∷ ms) (b ∷ bs) = omega (arith, kept_most ms bs)

-- After i bytes of the area `start`: its bytes up to i that are not free stand at the front, those from i on are untouched.
-- There is room for n places.
pub record Gathering (marks : List Bool) (start area places : List ℕ) (n i end : ℕ) : Type 0 where
  pub most : i ≤ length start
  pub size : length area ≡ length start
  pub room : length places ≡ n
  pub end_is : end ≡ kept_before marks start i
  pub front : take end area ≡ kept (take i marks) (take i start)
  pub rest : (k : ℕ) → i ≤ k → get_or area k 0 ≡ get_or start k 0
  pub places_are : (k : ℕ) → k < i → get_or places k 0 ≡ kept_before marks start k

pub gathering_none : (marks : List Bool) (start places : List ℕ) → Gathering marks start start places (length places) 0 0
unfolding kept_before kept
gathering_none marks start places =
    record { most = omega arith; size = refl; room = refl; end_is = refl; front = refl; rest = λ k g. refl; places_are = λ k g. absurd (omega arith) }

module _ {marks : List Bool} {start area places : List ℕ} {n i end : ℕ} (g : Gathering marks start area places n i end) where
  -- what was gathered lies before the byte that is looked at
  pub end_most : end ≤ i
  unfolding kept_before
  end_most = omega (arith, g.end_is, g.most, kept_most (take i marks) (take i start), length-take-le i start g.most)

  module _ (sized : length marks ≡ length start) (h : i < length start) (short : length start ≤ n) where
    next : kept (take (suc i) marks) (take (suc i) start) ≡ kept (take i marks) (take i start) ++ cond (get_or marks i false) [] (get_or start i 0 ∷ [])
    next =
        (λ j. kept (take-suc marks i false (omega (arith, sized, h)) j) (take-suc start i 0 h j))
        ∙ kept_snoc (take i marks) (take i start) (get_or marks i false) (get_or start i 0) (length-take-le i marks (omega (arith, sized, h)) ∙ sym (length-take-le i start (omega arith)))

    places_next : (k : ℕ) → k < i + 1 → get_or (set places i end) k 0 ≡ kept_before marks start k
    places_next k l = go (dec_le i k)
      where
        go : Dec (i ≤ k) → get_or (set places i end) k 0 ≡ kept_before marks start k
        go (yes a) = let e : k ≡ i = omega arith in rw (e, get_or-set_same places i end 0 (omega (arith, g.room, short, h))) g.end_is
        go (no a) = get_or-set_other places i k end 0 (λ e. omega arith) ∙ g.places_are k (omega arith)

    -- the byte is free: nothing moves
    pub gathering_free : get_or marks i false ≡ true → Gathering marks start area (set places i end) n (i + 1) end
    unfolding kept_before
    gathering_free free =
        let same : kept (take (i + 1) marks) (take (i + 1) start) ≡ kept (take i marks) (take i start) =
        rw (add-one i) (next ∙ rw free (append-nil (kept (take i marks) (take i start)))) in
        record {
          most = omega arith;
          size = g.size;
          room = length-set places i end ∙ g.room;
          end_is = g.end_is ∙ sym (ap length same);
          front = g.front ∙ sym same;
          rest = λ k l. g.rest k (omega arith);
          places_are = places_next;
        }

    -- the byte is used: it moves to the end of what was gathered
    pub gathering_used : get_or marks i false ≡ false → Gathering marks start (set area end (get_or area i 0)) (set places i end) n (i + 1) (end + 1)
    unfolding kept_before
    gathering_used used =
        let whole : kept (take (i + 1) marks) (take (i + 1) start) ≡ kept (take i marks) (take i start) ++ (get_or start i 0 ∷ []) = rw (add-one i) (next ∙ rw used) in
        record {
          most = omega arith;
          size = length-set area end (get_or area i 0) ∙ g.size;
          room = length-set places i end ∙ g.room;
          end_is = omega (arith, ap length whole, length-append (kept (take i marks) (take i start)) (get_or start i 0 ∷ []), g.end_is);
          front = rw (add-one end) (take-suc-set area end (get_or area i 0) (omega (arith, end_most, g.size, h)) ∙ (λ j. g.front j ++ (g.rest i (omega arith) j ∷ []))) ∙ sym whole;
          rest = λ k l. get_or-set_other area end k (get_or area i 0) 0 (λ e. omega (arith, end_most)) ∙ g.rest k (omega arith);
          places_are = places_next;
        }

-- all bytes were looked at
pub gathering_all : {marks : List Bool} {start area places : List ℕ} {n i end : ℕ} → Gathering marks start area places n i end → length marks ≡ length start → length start ≤ n
    → length start ≤ i
    → Gathers marks start area places end
unfolding kept_before
gathering_all {marks} {start} {area} {places} {n} {i} {end} g sized short h =
    let whole : kept (take i marks) (take i start) ≡ kept marks start = (λ j. kept (take_all i marks (omega (arith, sized, h)) j) (take_all i start h j)) in
    record {
      size = g.size;
      room = omega (arith, g.room, short);
      end_most = omega (arith, end_most g, g.most);
      end_is = g.end_is ∙ ap length whole;
      front = g.front ∙ whole;
      places_are = λ k l. g.places_are k (omega arith);
    }
