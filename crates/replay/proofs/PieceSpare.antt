-- Spare records past the 512th do not matter to a piece of a log (W14): it makes of the first 512 what it would make of them alone, and leaves the
-- others. Rests on ReplaySpare of listing_rules.
use Rattle.listing_rules.proofs.Prelude.{◌∙◌, ◌≡◌, ap, refl, sym, Bool, cond, false, true, List, [], ◌∷◌, ◌<◌, ◌≤◌, min, ℕ, arith, leb, drop, length}
use Rattle.listing_rules.proofs.Prelude.{length-take, take, take-append-drop, take_all, leb-false, leb-true}
use Rattle.listing_rules.specs.Records.{Record}
use Rattle.listing_rules.specs.Summary.{Summary, Summed}
use Rattle.listing_rules.specs.Replay.{all_agree, Replaying, replay_byte, replay_all, replay_end}
use Rattle.listing_rules.proofs.SummarySpare.{with_more}
use Rattle.listing_rules.proofs.ReplaySpare.{Full, replaying_more, byte_full, byte_more, all_front, end_more}
use Rattle.replay.specs.declared.Replaying.{Replaying as State}
use Rattle.replay.specs.Holding.{Notes, note_on, note_byte, notes_after}
use Rattle.replay.specs.Feeding.{ready}
use Rattle.replay.specs.Resuming.{state_of, resumed, Pieced, pieced}

-- what comes of a piece, with more spare records
abbrev pub piece_more : List Record → List Summary → Pieced → Pieced
piece_more z y c =
    record {
      taken = c.taken;
      verdict = c.verdict;
      left = with_more c.left z y;
      state = c.state;
      pending = c.pending;
      line = c.line;
    }

-- what is written of the frames does not hang on the table
notes_more : (spaces : List ℕ) (z : List Record) (y : List Summary) (r : Replaying) (n : Notes) (bytes : List ℕ) → Full r.left
    → notes_after spaces (replaying_more z y r) n bytes ≡ notes_after spaces r n bytes
unfolding notes_after note_byte note_on
notes_more spaces z y r n [] f = refl
notes_more spaces z y r n (c ∷ t) f =
    ap (λ (x : Replaying). notes_after spaces x (note_byte r n c) t) (byte_more spaces z y r c f)
    ∙ notes_more spaces z y (replay_byte spaces r c) (note_byte r n c) t (byte_full spaces r c f)

-- of records and numbers, as many of the one as of the other, the first 512
module _ (spaces : List ℕ) (rs : List Record) (ms : List Summary) (n : ℕ) (same : length rs ≡ length ms) (e : n ≡ min (length rs) 512) (count : ℕ)
    (area : List ℕ) where
  abbrev over : List Record → List Summary → Summed
  over k j = record { store = record { records = k; count = count; area = area }; summary = j }

  module _ (st : State) (pending line piece : List ℕ) where
    abbrev begins : Summed → Replaying
    begins m = resumed m st pending line

    abbrev notes : Summed → Notes
    notes m = notes_after spaces (begins m) (record { pending = pending; line = line }) piece

    abbrev few : Replaying
    few = replay_all spaces (begins (over (take n rs) (take n ms))) piece

    front : replay_all spaces (begins (over rs ms)) piece ≡ replaying_more (drop n rs) (drop n ms) few
    unfolding resumed replay_all
    front = all_front spaces rs ms n same e count area (begins (over (take n rs) (take n ms))) refl piece

    notes_front : notes (over rs ms) ≡ notes (over (take n rs) (take n ms))
    unfolding resumed replay_all
    notes_front = go (leb (length rs) 512) refl
      where
        go : (b : Bool) → leb (length rs) 512 ≡ b → notes (over rs ms) ≡ notes (over (take n rs) (take n ms))
        go true h =
            let all : length rs ≤ n = omega (arith, e, leb-true (length rs) 512 h) in
            let every : length ms ≤ n = omega (arith, all, same) in
            sym (λ i. notes (over (take_all n rs all i) (take_all n ms every i)))
        go false h =
            let long : 512 < length rs = leb-false (length rs) 512 h in
            (λ i. notes (over (sym (take-append-drop n rs) i) (sym (take-append-drop n ms) i)))
            ∙ notes_more spaces (drop n rs) (drop n ms) (begins (over (take n rs) (take n ms))) (record { pending = pending; line = line }) piece
            (record { records = omega (arith, e, long, length-take n rs); numbers = omega (arith, e, long, same, length-take n ms) })

    -- records and numbers in two parts
    whole : over rs ms ≡ with_more (over (take n rs) (take n ms)) (drop n rs) (drop n ms)
    whole = λ i. over (sym (take-append-drop n rs) i) (sym (take-append-drop n ms) i)

    abbrev made : Replaying → Notes → Pieced
    made next k =
        record {
          taken = true;
          verdict = (replay_end next).verdict;
          left = next.left;
          state = state_of next;
          pending = k.pending;
          line = k.line;
        }

    pub piece_front : pieced (over rs ms) spaces st pending line piece
        ≡ piece_more (drop n rs) (drop n ms) (pieced (over (take n rs) (take n ms)) spaces st pending line piece)
    unfolding pieced state_of
    piece_front = go (ready (length pending) (length line) (length piece) st)
      where
        refused : Summed → Pieced
        refused m = record { taken = false; verdict = all_agree; left = m; state = st; pending = pending; line = line }

        taken_so : made (replay_all spaces (begins (over rs ms)) piece) (notes (over rs ms))
            ≡ piece_more (drop n rs) (drop n ms) (made few (notes (over (take n rs) (take n ms))))
        taken_so =
            (λ i. made (front i) (notes_front i))
            ∙ (λ i. record {
              taken = true;
              verdict = (end_more spaces rs ms n same e count area (drop n rs) (drop n ms) few i).verdict;
              left = with_more few.left (drop n rs) (drop n ms);
              state = state_of few;
              pending = (notes (over (take n rs) (take n ms))).pending;
              line = (notes (over (take n rs) (take n ms))).line;
            })

        go : (b : Bool)
            → cond b (made (replay_all spaces (begins (over rs ms)) piece) (notes (over rs ms))) (refused (over rs ms))
            ≡ piece_more (drop n rs) (drop n ms)
            (cond b (made few (notes (over (take n rs) (take n ms)))) (refused (over (take n rs) (take n ms))))
        go true = taken_so
        go false = ap refused whole
