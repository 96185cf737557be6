-- A piece of a log taken line by line: where the loop of `feed` stands, and one law for each way through its body. Rests on HoldLaws and GatherLaws.
use Rattle.std.specs.Prelude.{Option, Some}
use Rattle.listing_rules.proofs.Prelude.{◌∙◌, ◌≡◌, ap, subst, sym, ◌&&◌, ◌||◌, false, true, ⊎_elim, List, [], ◌++◌, ◌∷◌, append_assoc, ◌*◌, ◌+◌, ◌-◌}
use Rattle.listing_rules.proofs.Prelude.{◌<◌, ◌^◌, ◌≤◌, ℕ, arith, eqb, leb, ltb, drop, length, length-drop, length-take-le, take, take_all, take-add}
use Rattle.listing_rules.proofs.Prelude.{take-append-drop, eqb-true, leb-true, ltb-true}
use Rattle.listing_rules.specs.Bytes.{all, LF}
use Rattle.listing_rules.proofs.AnswerLines.{not_lf}
use Rattle.listing_rules.proofs.Bools.{and_l, and_r, or_cases}
use Rattle.replay.specs.declared.Replaying.{Replaying as State}
use Rattle.replay.specs.Holding.{Memory, memory, Goes}
use Rattle.replay.specs.Gathering.{before_feed, Gathered}
use Rattle.replay.specs.Framing.{EndsFrame}
use Rattle.replay.specs.Feeding.{ready, ready_in, FeedIs}
use Rattle.replay.proofs.HoldLaws.{goes_then, goes_none, goes_stopped}
use Rattle.replay.proofs.GatherLaws.{before_plain, before_taken, before_then, before_fits, goes_gathered}

-- what a ready memory and state have
pub record Sized (pending line chunk : ℕ) (st : State) : Type 0 where
  pub room : 2050 ≤ pending
  pub long : 32771 ≤ line
  pub due : st.due ≤ 2050
  pub asked : st.due ≤ 2050 * st.frames
  pub few : st.gathered ≤ 32771
  pub count : st.frames + chunk < 2 ^ 64 - 1

pub sized : (pending line chunk : ℕ) (st : State) → ready pending line chunk st ≡ true → Sized pending line chunk st
sized pending line chunk st h =
    let a = leb 2050 pending in
    let b = leb 32771 line in
    let c = leb st.due 2050 in
    let d = eqb st.due 0 || ltb 0 st.frames in
    let e = leb st.gathered 32771 in
    let f = ltb st.frames (2 ^ 64 - 1 - chunk) in
    let h₁ = and_r a (b && (c && (d && (e && f)))) h in
    let h₂ = and_r b (c && (d && (e && f))) h₁ in
    let h₃ = and_r c (d && (e && f)) h₂ in
    let h₄ = and_r d (e && f) h₃ in
    let due = leb-true st.due 2050 (and_l c (d && (e && f)) h₂) in
    let fewer = ltb-true st.frames (2 ^ 64 - 1 - chunk) (and_r e f h₄) in
    record {
      room = leb-true 2050 pending (and_l a (b && (c && (d && (e && f)))) h);
      long = leb-true 32771 line (and_l b (c && (d && (e && f))) h₁);
      due = due;
      asked =
          ⊎_elim (λ q. omega (arith, eqb-true st.due 0 q)) (λ q. omega (arith, due, ltb-true 0 st.frames q))
          (or_cases (eqb st.due 0) (ltb 0 st.frames) (and_l d (e && f) h₃));
      few = leb-true st.gathered 32771 (and_l e f h₄);
      count = omega (arith, fewer);
    }

-- Where the loop stands: the first `at` bytes of the piece were taken.
pub record Part (spaces chunk : List ℕ) (d e : Memory) (st su : State) (at : ℕ) : Type 0 where
  pub inside : at ≤ length chunk
  pub sizes : Sized (length d.pending) (length d.line) (length chunk) st
  pub goes : Goes spaces (take at chunk) d e st su

pub part_start : (spaces chunk : List ℕ) (d : Memory) (st : State) → ready_in d chunk st ≡ true → Part spaces chunk d d st st 0
part_start spaces chunk d st h =
    let z = sized (length d.pending) (length d.line) (length chunk) st h in
    record { inside = omega arith; sizes = z; goes = goes_none spaces d st z.due z.asked z.few }

module _ {spaces chunk : List ℕ} {d : Memory} {st : State} {words sums area pending line : List ℕ} {su : State} {at : ℕ}
    (p : Part spaces chunk d (memory words sums area pending line) st su at) where
  abbrev here : Memory
  here = memory words sums area pending line

  -- the frames can be counted, and one more
  pub part_counted : su.frames < 2 ^ 64 - 1
  part_counted = omega (arith, p.goes.counted, p.sizes.count, p.inside, length-take-le at chunk p.inside)

  -- all of the piece was taken, or the replay has stopped
  pub part_end : length chunk ≤ at → Goes spaces chunk d here st su
  part_end h = subst (λ (l : List ℕ). Goes spaces l d here st su) (take_all at chunk h) p.goes

  pub part_stopped : su.stopped ≡ true → Goes spaces chunk d here st su
  part_stopped s =
      subst (λ (l : List ℕ). Goes spaces l d here st su) (take-append-drop at chunk)
      (goes_then p.goes (goes_stopped spaces here su p.goes.due_inside p.goes.due_counted p.goes.gathered_inside s (drop at chunk)))

  -- the characters before the next line feed
  module _ (end : ℕ) (e : end ≡ at + length (before_feed (drop at chunk))) where
    abbrev characters : List ℕ
    characters = take (end - at) (drop at chunk)

    pub line_inside : end ≤ length chunk
    line_inside = omega (arith, e, p.inside, before_fits (drop at chunk), length-drop at chunk)

    are_before : characters ≡ before_feed (drop at chunk)
    are_before =
        let n : end - at ≡ length (before_feed (drop at chunk)) = omega (arith, e) in ap (λ (k : ℕ). take k (drop at chunk)) n ∙ before_taken
        (drop at chunk)

    taken_to : take at chunk ++ characters ≡ take end chunk
    taken_to = let n : at + (end - at) ≡ end = omega (arith, e) in sym (take-add at (end - at) chunk) ∙ ap (λ (k : ℕ). take k chunk) n

    module _ (goes : su.stopped ≡ false) (line' : List ℕ) (sv : State) (g : Gathered characters line line' su sv) where
      gathered : Goes spaces (take end chunk) d (memory words sums area pending line') st sv
      gathered =
          subst (λ (l : List ℕ). Goes spaces l d (memory words sums area pending line') st sv) taken_to
          (goes_then p.goes (goes_gathered spaces words sums area pending line characters su goes plain p.goes.due_inside p.goes.due_counted
          p.goes.gathered_inside (omega (arith, p.sizes.long, p.goes.line_long)) line' sv g))
        where
          plain : all not_lf characters ≡ true
          plain = ap (all not_lf) are_before ∙ before_plain (drop at chunk)

      pub part_some : Part spaces chunk d (memory words sums area pending line') st sv end
      part_some = record { inside = line_inside; sizes = p.sizes; goes = gathered }

      -- and the line feed after them
      pub part_line : end < length chunk → (e' : Memory) (sw : State) → EndsFrame spaces (memory words sums area pending line') e' sv sw
          → Part spaces chunk d e' st sw (end + 1)
      part_line h e' sw x =
          record {
            inside = omega (arith, h);
            sizes = p.sizes;
            goes = subst (λ (l : List ℕ). Goes spaces l d e' st sw) with_feed (goes_then gathered x);
          }
        where
          with_feed : take end chunk ++ (LF ∷ []) ≡ take (end + 1) chunk
          with_feed =
              let front = before_feed (drop at chunk) in
              let n : at + (length front + 1) ≡ end + 1 = omega (arith, e) in
              ap (λ (l : List ℕ). l ++ (LF ∷ [])) (sym taken_to ∙ ap (λ (l : List ℕ). take at chunk ++ l) are_before)
              ∙ append_assoc (take at chunk) front (LF ∷ [])
              ∙ ap (λ (l : List ℕ). take at chunk ++ l) (sym (before_then (drop at chunk) (omega (arith, e, h, length-drop at chunk))))
              ∙ sym (take-add at (length front + 1) chunk)
              ∙ ap (λ (k : ℕ). take k chunk) n

-- a piece that was taken
pub feed_taken : {spaces chunk : List ℕ} {d e : Memory} {st su : State} {r : Option State} → r ≡ Some su → ready_in d chunk st ≡ true → Goes spaces chunk d e st su
    → FeedIs spaces chunk d e st r
feed_taken {spaces} {chunk} {d} {e} {st} {su} {r} q h g = subst (λ (x : Option State). FeedIs spaces chunk d e st x) (sym q) (h, g)
