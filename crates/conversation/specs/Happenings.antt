-- A conversation cut into its replies: one for each event of the feeder, in order.
use Rattle.std.specs.Prelude.{List, [], ◌∷◌, cond, ℕ}
use Rattle.listing_rules.specs.Feeder.{Feeder, Event, quiet, handed, go_on, denied, fed_byte}
use Rattle.listing_rules.specs.Summary.{Summed}
use Rattle.feeder.specs.Feed.{kept_of}
use Rattle.conversation.specs.Conversation.{Setting, reply_to}

-- an event, and the bytes of the command before the byte of the event
pub record Happening : Type 0 where
  pub kept : List ℕ
  pub event : Event

-- a quiet byte leaves no happening
unfoldable pub noted : List ℕ → Event → List Happening → List Happening
noted kept quiet hs = hs
noted kept (handed l) hs = record { kept = kept; event = handed l } ∷ hs
noted kept go_on hs = record { kept = kept; event = go_on } ∷ hs
noted kept (denied k) hs = record { kept = kept; event = denied k } ∷ hs

-- the happenings of an input, from a state of the feeder
unfoldable pub happenings : Feeder → List ℕ → List Happening
happenings f [] = []
happenings f (c ∷ t) = let r = fed_byte f c in noted (kept_of f) r.event (happenings r.state t)

-- each is replied to over what the one before left, until the connection ends
unfoldable pub replies : Setting → Summed → List Happening → List (List ℕ)
replies w m [] = []
replies w m (h ∷ hs) =
    let r = reply_to w m h.kept h.event in
    let more = replies w r.store hs in
    r.bytes ∷ cond r.ended [] more
