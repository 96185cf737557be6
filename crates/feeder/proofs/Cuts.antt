-- "however the bytes are cut, commands, refusals, continuations and the state at the end are the same": a run of calls says what the
-- whole stream comes to. Rests on FeederLaws.
use Rattle.listing_rules.proofs.Prelude.{◌∙◌, ◌≡◌, ap, refl, sym, true, List, [], ◌++◌, ◌∷◌, ◌≤◌, suc, zero, ℕ, arith, leb, drop, length, take}
use Rattle.listing_rules.proofs.Prelude.{take-append-drop, leb-true}
use Rattle.listing_rules.specs.Lists.{joined}
use Rattle.listing_rules.specs.Feeder.{Feeder, first, Event as Meant, Feeding, feed_all, feed_chunks}
use Rattle.listing_rules.proofs.Bools.{and_r}
use Rattle.listing_rules.proofs.FeederLaws.{feed_append, then_fed, cut_anywhere}
use Rattle.command_shape.specs.declared.machine.Machine.{Machine}
use Rattle.command_shape.specs.Machine.{first_is, machine_of}
use Rattle.feeder.specs.Feed.{kept_of, Holds, events_of, Means, ready}
use Rattle.feeder.specs.Calls.{Call, Calls, Through, said_by, state_after}
use Rattle.command_shape.proofs.Steps.{first_is_lem}
use Rattle.feeder.proofs.FeedBytes.{is_ready}

small : (room size : ℕ) → ready room size ≡ true → size ≤ 2048
unfolding ready
small room size h = leb-true size 2048 (and_r (leb 2048 room) (leb size 2048) h)

-- a piece of the stream that lies in the chunk
piece : (n : ℕ) (a b : List ℕ) → n ≤ length a → take n (a ++ b) ≡ take n a
piece zero a b h = refl
piece (suc n) [] b h = absurd (omega arith)
piece (suc n) (x ∷ a) b h = ap (λ (l : List ℕ). x ∷ l) (piece n a b (omega arith))

feed_none : (s : Feeder) (m : Machine) → m ≡ machine_of s → ([] ≡ (feed_all s []).events) × (m ≡ machine_of (feed_all s []).state)
unfolding feed_all
feed_none s m e = (refl, e)

first_small : first_is.size ≤ 2048
first_small = omega arith

first_held : (d : List ℕ) → Holds d first_is first
unfolding first kept_of
first_held d = (first_as_lem, refl)
  where
    first_as_lem : first_is ≡ machine_of first
    first_as_lem = first_is_lem

-- from any state that is held
calls_say : (xs : List Call) (m : Machine) (d : List ℕ) (s : Feeder) (stream : List ℕ) → m.size ≤ 2048 → Holds d m s → Calls m d xs →
    Through stream xs → (said_by xs ≡ (feed_all s stream).events) × (state_after m xs ≡ machine_of (feed_all s stream).state)
unfolding said_by state_after
calls_say [] m d s stream b h c t = rw t (feed_none s m h.0)
calls_say (x ∷ xs) m d s stream b h c t =
    then (calls_say xs x.answer.state x.after (feed_all s front).state (drop x.answer.used stream)
    (small (length x.after) x.answer.state.size (c.2.fits yes)) w.holds c.3 t.1)
  where
    yes : ready (length x.before) m.size ≡ true
    yes = is_ready x.before m.size c.0 b

    w : Means s x.chunk x.after x.answer
    w = c.2.means yes s (h.0, h.1 ∙ sym c.1)

    front : List ℕ
    front = take x.answer.used x.chunk

    cut : stream ≡ front ++ drop x.answer.used stream
    cut =
        sym (take-append-drop x.answer.used stream) ∙ ap (λ (l : List ℕ). l ++ drop x.answer.used stream)
        (ap (take x.answer.used) t.0.1 ∙ piece x.answer.used x.chunk t.0.0 c.2.inside)

    whole : feed_all s stream ≡ then_fed (feed_all s front).events (feed_all (feed_all s front).state (drop x.answer.used stream))
    whole = ap (feed_all s) cut ∙ feed_append s front (drop x.answer.used stream)

    then : (said_by xs ≡ (feed_all (feed_all s front).state (drop x.answer.used stream)).events) ×
        (state_after x.answer.state xs ≡ machine_of (feed_all (feed_all s front).state (drop x.answer.used stream)).state) →
        (events_of x.after x.answer.event ++ said_by xs ≡ (feed_all s stream).events) ×
        (state_after x.answer.state xs ≡ machine_of (feed_all s stream).state)
    then ih = (
      ap (λ (es : List Meant). es ++ said_by xs) (sym w.events) ∙ ap (λ (es : List Meant). (feed_all s front).events ++ es) ih.0 ∙ ap (λ (f : Feeding). f.events) (sym whole),
      ih.1 ∙ ap (λ (f : Feeding). machine_of f.state) (sym whole),
    )

-- From the first state, whatever the memory holds.
pub however_cut : (xs : List Call) (d stream : List ℕ) → Calls first_is d xs → Through stream xs →
    (said_by xs ≡ (feed_all first stream).events) × (state_after first_is xs ≡ machine_of (feed_all first stream).state)
however_cut xs d stream c t = calls_say xs first_is d first stream first_small (first_held d) c t

-- So two ways to cut one stream say the same, and end in the same state.
pub cuts_agree : (xs ys : List Call) (d e stream : List ℕ) → Calls first_is d xs → Calls first_is e ys → Through stream xs → Through stream ys →
    (said_by xs ≡ said_by ys) × (state_after first_is xs ≡ state_after first_is ys)
cuts_agree xs ys d e stream c k t u =
    let a = however_cut xs d stream c t in
    let b = however_cut ys e stream k u in
    (a.0 ∙ sym b.0, a.1 ∙ sym b.1)

-- And they say what document 02's chunks do, one after the other.
pub chunks_agree : (xs : List Call) (d : List ℕ) (chunks : List (List ℕ)) → Calls first_is d xs → Through (joined chunks) xs →
    (said_by xs ≡ (feed_chunks first chunks).events) × (state_after first_is xs ≡ machine_of (feed_chunks first chunks).state)
chunks_agree xs d chunks c t = rw (cut_anywhere first chunks) (however_cut xs d (joined chunks) c t)
