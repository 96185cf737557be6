-- What a call that takes a piece through its first event must give: the conversation over those bytes is the reply to that event, or nothing yet.
-- Rests on CutLaws.
use Rattle.listing_rules.proofs.Prelude.{◌≡◌, refl, cond, List, [], ◌∷◌, ℕ, suc, take}
use Rattle.listing_rules.specs.Feeder.{Feeder, Event, quiet, handed, go_on, denied, fed_byte, saying as feeding, feed_all}
use Rattle.listing_rules.specs.Summary.{Summed}
use Rattle.feeder.specs.Feed.{kept_of, nothing, through_event}
use Rattle.conversation.specs.Conversation.{Setting, Said, says, silent, followed, replying, reply_to, heard_byte, conversed}
use Rattle.conversation.proofs.CutLaws.{going, followed_silent}

-- the first event of a piece, and the bytes of the command before it; quiet where there is none
pub record First : Type 0 where
  pub kept : List ℕ
  pub event : Event
  pub state : Feeder

unfoldable pub first_event : Feeder → List ℕ → First
first_event f [] = record { kept = kept_of f; event = quiet; state = f }
first_event f (c ∷ t) =
    let r = fed_byte f c in
    let more = first_event r.state t in
    cond (nothing r.event) more (record { kept = kept_of f; event = r.event; state = r.state })

-- The conversation over a piece through its first event is the reply to that event.
pub conversed_through : (w : Setting) (m : Summed) (f : Feeder) (chunk : List ℕ)
    → conversed w (going f m) (take (through_event f chunk) chunk) ≡ replying (first_event f chunk).state
    (reply_to w m (first_event f chunk).kept (first_event f chunk).event)
unfolding conversed through_event first_event replying reply_to says silent
conversed_through w m f [] = refl
conversed_through w m f (c ∷ t) = go (fed_byte f c).event refl (conversed_through w m (fed_byte f c).state t)
  where
    g : Feeder
    g = (fed_byte f c).state

    here : Event → First
    here e = record { kept = kept_of f; event = e; state = g }

    -- what is said of a byte from which this event comes
    heard : Event → List ℕ → Said
    heard e rest = let r = replying g (reply_to w m (kept_of f) e) in followed r (conversed w r.state rest)

    last : (e : Event) → heard e [] ≡ replying g (reply_to w m (kept_of f) e)
    last e = followed_silent (replying g (reply_to w m (kept_of f) e))

    go : (e : Event) → (fed_byte f c).event ≡ e
        → conversed w (going g m) (take (through_event g t) t) ≡ replying (first_event g t).state
        (reply_to w m (first_event g t).kept (first_event g t).event)
        → conversed w (going f m) (take (suc (cond (nothing (fed_byte f c).event) (through_event g t) 0)) (c ∷ t))
        ≡ replying (cond (nothing (fed_byte f c).event) (first_event g t) (here (fed_byte f c).event)).state
        (reply_to w m (cond (nothing (fed_byte f c).event) (first_event g t) (here (fed_byte f c).event)).kept
        (cond (nothing (fed_byte f c).event) (first_event g t) (here (fed_byte f c).event)).event)
    go quiet e ih = unfold nothing heard_byte followed in rw e ih
    go (handed l) e ih = unfold nothing heard_byte followed in rw e (last (handed l))
    go go_on e ih = unfold nothing heard_byte followed in rw e (last go_on)
    go (denied k) e ih = unfold nothing heard_byte followed in rw e (last (denied k))

-- The feeder's own answer to those bytes is that event.
pub through_feeds : (f : Feeder) (chunk : List ℕ)
    → feed_all f (take (through_event f chunk) chunk) ≡ feeding (first_event f chunk).event (record { state = (first_event f chunk).state; events = [] })
unfolding feed_all through_event first_event feeding nothing
through_feeds f [] = refl
through_feeds f (c ∷ t) = go (fed_byte f c).event refl (through_feeds (fed_byte f c).state t)
  where
    g : Feeder
    g = (fed_byte f c).state

    pick : Event → First
    pick e = cond (nothing e) (first_event g t) (record { kept = kept_of f; event = e; state = g })

    go : (e : Event) → (fed_byte f c).event ≡ e
        → feed_all g (take (through_event g t) t) ≡ feeding (first_event g t).event (record { state = (first_event g t).state; events = [] })
        → feed_all f (take (suc (cond (nothing (fed_byte f c).event) (through_event g t) 0)) (c ∷ t))
        ≡ feeding (pick (fed_byte f c).event).event (record { state = (pick (fed_byte f c).event).state; events = [] })
    go quiet e ih = rw e ih
    go (handed l) e ih = rw e
    go go_on e ih = rw e
    go (denied k) e ih = rw e
