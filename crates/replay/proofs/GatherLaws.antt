-- The characters of a frame in a piece of a log: those before its first line feed, as the loop finds them, as they are gathered, and as document 02 takes
-- them. Rests on HoldLaws.
use Rattle.std.specs.Prelude.{Option as Maybe, Some, None}
use Rattle.std.specs.Option.{unwrap_or}
use Rattle.std.specs.List.{position_or_len}
use Rattle.std.proofs.lemmas.List.Recursion.{is_position_or_len}
use Rattle.listing_rules.proofs.Prelude.{◌∙◌, ◌≡◌, ap, refl, sym, Bool, cond, false, not, not-true, true, none, List, [], ◌++◌, ◌∷◌, append_assoc}
use Rattle.listing_rules.proofs.Prelude.{append-nil, ◌*◌, ◌+◌, ◌-◌, ◌<◌, ◌≤◌, min, suc, ℕ, arith, eqb, leb, ltb, drop}
use Rattle.listing_rules.proofs.Prelude.{length, length-append, length-take, length-take-le, length-sets, set, sets, sets-eq, take, take_all}
use Rattle.listing_rules.proofs.Prelude.{take-append-add, take-append-le, take_at, take-nil, eqb-true, ltb-true, ltb-false}
use Rattle.listing_rules.proofs.Prelude.{leb-true, leb-false}
use Rattle.listing_rules.specs.Bytes.{all}
use Rattle.listing_rules.specs.Replay.{Replaying, with_character, replay_on, replay_byte, replay_all}
use Rattle.listing_rules.proofs.Bools.{and_l, and_r, and_i}
use Rattle.listing_rules.proofs.AnswerLines.{not_lf}
use Rattle.replay.specs.declared.Replaying.{Replaying as State}
use Rattle.replay.specs.Holding.{Memory, memory, stop_as, Holds, Notes, notes_of, line_with, note_on, note_byte, notes_after, Goes}
use Rattle.replay.specs.Running.{table}
use Rattle.replay.proofs.HoldLaws.{kept_same}
use Rattle.replay.specs.Gathering.{before_feed, kept_of, with_gathered, Gathered}

-- the characters before the line feed are as many as its place says
before_count : (s : List ℕ) → length (before_feed s) ≡ position_or_len (λ c. eqb c 10) s
unfolding before_feed
before_count = is_position_or_len (λ s. length (before_feed s)) (λ c. eqb c 10) refl step
  where
    either : (b : Bool) (x : ℕ) (r : List ℕ) → length (cond b [] (x ∷ r)) ≡ cond b 0 (1 + length r)
    either true x r = refl
    either false x r = omega arith

    step : (x : ℕ) (xs : List ℕ) → length (before_feed (x ∷ xs)) ≡ cond (eqb x 10) 0 (1 + length (before_feed xs))
    step x xs = either (eqb x 10) x (before_feed xs)

pub before_inside : (s : List ℕ) → length (before_feed s) ≤ length s
unfolding before_feed
before_inside [] = omega arith
before_inside (c ∷ t) = either (eqb c 10) (before_inside t)
  where
    either : (b : Bool) → length (before_feed t) ≤ length t → length (cond b [] (c ∷ before_feed t)) ≤ suc (length t)
    either true h = omega arith
    either false h = omega (arith, h)

-- by the library's answer
pub before_found : (s : List ℕ) (r : Maybe ℕ) (n : ℕ)
    → r ≡ cond (ltb (position_or_len (λ c. eqb c 10) s) (length s)) (Some (position_or_len (λ c. eqb c 10) s)) None → n ≡ unwrap_or r (length s)
    → n ≡ length (before_feed s)
before_found s r n e q = q ∙ ap (λ (x : Maybe ℕ). unwrap_or x (length s)) e ∙ go (ltb place (length s)) refl ∙ sym (before_count s)
  where
    place : ℕ
    place = position_or_len (λ c. eqb c 10) s

    inside : place ≤ length s
    inside = omega (arith, before_count s, before_inside s)

    go : (b : Bool) → ltb place (length s) ≡ b → unwrap_or (cond b (Some place) None) (length s) ≡ place
    go true h = refl
    go false h = omega (arith, inside, ltb-false place (length s) h)

-- a piece by its first line feed: the characters before it, itself, and the rest; or the characters alone
pub before_plain : (s : List ℕ) → all not_lf (before_feed s) ≡ true
unfolding before_feed all
before_plain [] = refl
before_plain (c ∷ t) = go (eqb c 10) refl (before_plain t)
  where
    go : (b : Bool) → eqb c 10 ≡ b → all not_lf (before_feed t) ≡ true → all not_lf (cond b [] (c ∷ before_feed t)) ≡ true
    go true e h = refl
    go false e h = and_i (not_lf c) (all not_lf (before_feed t)) (ap not e) h

pub before_fits : (s : List ℕ) → length (before_feed s) ≤ length s
unfolding before_feed
before_fits [] = omega arith
before_fits (c ∷ t) = go (eqb c 10) (before_fits t)
  where
    go : (b : Bool) → length (before_feed t) ≤ length t → length (cond b [] (c ∷ before_feed t)) ≤ suc (length t)
    go true h = omega arith
    go false h = omega (arith, h)

pub before_taken : (s : List ℕ) → take (length (before_feed s)) s ≡ before_feed s
unfolding before_feed
before_taken [] = refl
before_taken (c ∷ t) = go (eqb c 10) (before_taken t)
  where
    go : (b : Bool) → take (length (before_feed t)) t ≡ before_feed t → take (length (cond b [] (c ∷ before_feed t))) (c ∷ t) ≡ cond b [] (c ∷ before_feed t)
    go true h = refl
    go false h = ap (λ (l : List ℕ). c ∷ l) h

-- the byte after them is the line feed
pub before_then : (s : List ℕ) → length (before_feed s) < length s → take (length (before_feed s) + 1) s ≡ before_feed s ++ (10 ∷ [])
unfolding before_feed
before_then [] h = absurd (omega arith)
before_then (c ∷ t) h = go (eqb c 10) refl h (before_then t)
  where
    go : (b : Bool) → eqb c 10 ≡ b → length (cond b [] (c ∷ before_feed t)) < suc (length t)
        → (length (before_feed t) < length t → take (length (before_feed t) + 1) t ≡ before_feed t ++ (10 ∷ []))
        → take (length (cond b [] (c ∷ before_feed t)) + 1) (c ∷ t) ≡ cond b [] (c ∷ before_feed t) ++ (10 ∷ [])
    go true e h ih = ap (λ (x : ℕ). x ∷ []) (eqb-true c 10 e)
    go false e h ih =
        let n : suc (length (before_feed t)) + 1 ≡ suc (length (before_feed t) + 1) = omega arith in
        ap (λ (k : ℕ). take k (c ∷ t)) n ∙ ap (λ (l : List ℕ). c ∷ l) (ih (omega (arith, h)))

-- Characters that are no line feed are only added to the frame so far, where nothing has stopped the replay.
abbrev going : Replaying → List ℕ → Replaying
going r p = record { frames = r.frames; due = r.due; first = r.first; stop = none; left = r.left; partial = p }

module _ (spaces : List ℕ) (r : Replaying) where
  one_more : (p : List ℕ) (c : ℕ) → not_lf c ≡ true → replay_byte spaces (going r p) c ≡ going r (p ++ (c ∷ []))
  unfolding replay_byte replay_on with_character
  one_more p c h = rw (not-true (eqb c 10) h)

  characters : (p cs : List ℕ) → all not_lf cs ≡ true → replay_all spaces (going r p) cs ≡ going r (p ++ cs)
  unfolding replay_all all
  characters p [] h = ap (going r) (sym (append-nil p))
  characters p (c ∷ t) h =
      ap (λ (x : Replaying). replay_all spaces x t) (one_more p c (and_l (not_lf c) (all not_lf t) h))
      ∙ characters (p ++ (c ∷ [])) t (and_r (not_lf c) (all not_lf t) h)
      ∙ ap (going r) (append_assoc p (c ∷ []) t)

  -- what is written of them
  abbrev written : List ℕ → List ℕ → List ℕ → List ℕ
  written p line cs = sets line (length p) (kept_of (length p) cs)

  one_noted : (p : List ℕ) (n : Notes) (c : ℕ) → not_lf c ≡ true → note_byte (going r p) n c ≡ record { pending = n.pending; line = line_with p n.line c }
  unfolding note_byte note_on
  one_noted p n c h = rw (not-true (eqb c 10) h)

  written_more : (p line : List ℕ) (c : ℕ) (t : List ℕ) → written (p ++ (c ∷ [])) (line_with p line c) t ≡ written p line (c ∷ t)
  unfolding line_with
  written_more p line c t = go (ltb (length p) 32771) refl
    where
      long : length (p ++ (c ∷ [])) ≡ suc (length p)
      long = omega (arith, length-append p (c ∷ []))

      go : (b : Bool) → ltb (length p) 32771 ≡ b
          → sets (cond b (set line (length p) c) line) (length (p ++ (c ∷ []))) (kept_of (length (p ++ (c ∷ []))) t) ≡ written p line (c ∷ t)
      go true e =
          let k = ltb-true (length p) 32771 e in
          let w : 32771 - length p ≡ suc (32771 - suc (length p)) = omega (arith, k) in
          rw (long, w)
      go false e =
          let k = ltb-false (length p) 32771 e in
          let v : 32771 - suc (length p) ≡ 0 = omega (arith, k) in
          let w : 32771 - length p ≡ 0 = omega (arith, k) in
          rw (long, v, w)

  noted : (p : List ℕ) (n : Notes) (cs : List ℕ) → all not_lf cs ≡ true
      → notes_after spaces (going r p) n cs ≡ record { pending = n.pending; line = written p n.line cs }
  unfolding notes_after all
  noted p n [] h = ap (λ (l : List ℕ). record { pending = n.pending; line = sets n.line (length p) l }) (sym (take-nil (32771 - length p)))
  noted p n (c ∷ t) h =
      (λ i. notes_after spaces (one_more p c (and_l (not_lf c) (all not_lf t) h) i) (one_noted p n c (and_l (not_lf c) (all not_lf t) h) i) t)
      ∙ noted (p ++ (c ∷ [])) (record { pending = n.pending; line = line_with p n.line c }) t (and_r (not_lf c) (all not_lf t) h)
      ∙ ap (λ (l : List ℕ). record { pending = n.pending; line = l }) (written_more p n.line c t)

-- The characters that the line holds with some more, and what is written of those: all that are kept.
module _ (p cs line : List ℕ) (g : ℕ) (few : g ≤ 32771) (room : 32771 ≤ length line) (held : take 32771 p ≡ take g line) where
  held_length : length (take 32771 p) ≡ g
  held_length = ap length held ∙ length-take-le g line (omega (arith, few, room))

  abbrev more : List ℕ
  more = kept_of g cs

  more_fits : g + length more ≤ 32771
  more_fits = omega (arith, few, length-take (32771 - g) cs)

  front_of : take (g + length more) (sets line g more) ≡ take g line ++ more
  front_of =
      ap (take (g + length more)) (sets-eq more line g (omega (arith, more_fits, room)))
      ∙ take_at (take g line ++ more) (drop (g + length more) line) (g + length more)
      (omega (arith, length-append (take g line) more, length-take-le g line (omega (arith, few, room))))

  pub gathered_text_lem : (take 32771 (p ++ cs) ≡ take (g + length more) (sets line g more)) × (sets line (length p) (kept_of (length p) cs) ≡ sets line g more)
  gathered_text_lem = go (leb (length p) 32771) refl
    where
      go : (b : Bool) → leb (length p) 32771 ≡ b
          → (take 32771 (p ++ cs) ≡ take (g + length more) (sets line g more)) × (sets line (length p) (kept_of (length p) cs) ≡ sets line g more)
      go true e =
          let h = leb-true (length p) 32771 e in
          let whole : take 32771 p ≡ p = take_all 32771 p h in
          let same : length p ≡ g = sym (ap length whole) ∙ held_length in
          let n : length p + (32771 - length p) ≡ 32771 = omega (arith, h) in (
            ap (λ (k : ℕ). take k (p ++ cs)) (sym n) ∙ take-append-add p cs (32771 - length p)
                ∙ (λ i. (sym whole ∙ held) i ++ kept_of (same i) cs) ∙ sym front_of,
            λ i. sets line (same i) (kept_of (same i) cs),
          )
      go false e =
          let h = leb-false (length p) 32771 e in
          let full : g ≡ 32771 = sym held_length ∙ length-take-le 32771 p (omega (arith, h)) in
          let none_kept : more ≡ [] = ap (λ (k : ℕ). take k cs) (omega_zero full) in (
            take-append-le 32771 p cs (omega (arith, h)) ∙ held ∙ sym (append-nil (take g line)) ∙ ap (λ (l : List ℕ). take g line ++ l)
                (sym none_kept) ∙ sym front_of,
            ap (λ (k : ℕ). sets line (length p) (take k cs)) (over h) ∙ ap (sets line g) (sym none_kept),
          )
        where
          omega_zero : g ≡ 32771 → 32771 - g ≡ 0
          omega_zero q = omega (arith, q)

          over : 32771 < length p → 32771 - length p ≡ 0
          over q = omega (arith, q)

-- So a run of characters was taken.
module _ (spaces words sums area pending line cs : List ℕ) (st : State) (goes : st.stopped ≡ false) (plain : all not_lf cs ≡ true)
    (due : st.due ≤ 2050) (asked : st.due ≤ 2050 * st.frames) (few : st.gathered ≤ 32771) (room : 32771 ≤ length line) where
  unstopped : (d : Memory) (r : Replaying) → Holds d st r → r.stop ≡ none
  unstopped d r h = unfold stop_as in h.stop ∙ rw goes

  as_going : (d : Memory) (r : Replaying) → Holds d st r → r ≡ going r r.partial
  as_going d r h =
      let e = unstopped d r h in
      λ i. record { frames = r.frames; due = r.due; first = r.first; stop = e i; left = r.left; partial = r.partial }

  abbrev before : Memory
  before = memory words sums area pending line

  abbrev after : Memory
  after = memory words sums area pending (sets line st.gathered (kept_of st.gathered cs))

  abbrev state : State
  state = with_gathered st (st.gathered + length (kept_of st.gathered cs))

  taken : Goes spaces cs before after st state
  taken =
      record {
        holds = λ r h. rw (as_going before r h, characters spaces r r.partial cs plain) (record {
          frames = h.frames;
          due = h.due;
          first = h.first;
          stop = sym (unstopped before r h) ∙ h.stop;
          left = h.left;
          partial = (gathered_text_lem r.partial cs line st.gathered few room h.partial).0;
        });
        notes =
            λ r h.
            sym (ap (λ (x : Replaying). notes_after spaces x (notes_of before) cs) (as_going before r h) ∙ noted spaces r r.partial (notes_of before) cs plain
            ∙ ap (λ (l : List ℕ). record { pending = pending; line = l }) (gathered_text_lem r.partial cs line st.gathered few room h.partial).1);
        kept = kept_same (table words sums area);
        pending_long = refl;
        line_long = length-sets line st.gathered (kept_of st.gathered cs);
        due_inside = due;
        due_counted = asked;
        gathered_inside = omega (arith, few, length-take (32771 - st.gathered) cs);
        counted = omega arith;
      }

  pub goes_gathered : (e : List ℕ) (su : State) → Gathered cs line e st su → Goes spaces cs before (memory words sums area pending e) st su
  goes_gathered e su x = rw (x.state, x.line) taken

-- as many as the lesser of their number and the room that is left
pub gathered_by : (cs d e : List ℕ) (st : State) (n : ℕ) → st.gathered ≤ 32771 → n ≡ min (length cs) (32771 - st.gathered) →
    e ≡ sets d st.gathered (take n cs)
    → Gathered cs d e st (with_gathered st (st.gathered + n))
gathered_by cs d e st n few least bytes =
    record {
      state = ap (λ (k : ℕ). with_gathered st (st.gathered + k)) long;
      line = bytes ∙ ap (sets d st.gathered) same;
    }
  where
    long : n ≡ length (kept_of st.gathered cs)
    long = omega (arith, least, length-take (32771 - st.gathered) cs)

    same : take n cs ≡ kept_of st.gathered cs
    same = go (leb (length cs) (32771 - st.gathered)) refl
      where
        go : (b : Bool) → leb (length cs) (32771 - st.gathered) ≡ b → take n cs ≡ kept_of st.gathered cs
        go true q =
            let h = leb-true (length cs) (32771 - st.gathered) q in
            take_all n cs (omega (arith, h, least)) ∙ sym (take_all (32771 - st.gathered) cs h)
        go false q =
            let k : n ≡ 32771 - st.gathered = omega (arith, least, leb-false (length cs) (32771 - st.gathered) q) in
            ap (λ (j : ℕ). take j cs) k

pub gathered_stopped : {cs d e : List ℕ} {st su : State} → Gathered cs d e st su → su.stopped ≡ st.stopped
gathered_stopped x = ap (λ (s : State). s.stopped) x.state
