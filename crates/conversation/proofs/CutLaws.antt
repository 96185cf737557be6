-- Cutting the input changes nothing; after the end nothing is sent; and the output is one reply for each event of the feeder, in order.
use Rattle.listing_rules.proofs.Prelude.{◌∙◌, ◌≡◌, ap, refl, sym, Bool, ◌||◌, cond, false, true, List, [], ◌++◌, ◌∷◌, append_assoc, append-nil, map, ℕ}
use Rattle.listing_rules.specs.Lists.{joined}
use Rattle.listing_rules.specs.Feeder.{Feeder, Event, quiet, handed, go_on, denied, fed_byte, Feeding, saying as feeding, feed_all}
use Rattle.listing_rules.specs.Summary.{Summed}
use Rattle.feeder.specs.Feed.{kept_of}
use Rattle.conversation.specs.Conversation.{Setting, Talk, Said, Replied, says, silent, followed, replying, reply_to, heard_byte, conversed}
use Rattle.conversation.specs.Conversation.{conversed_in, conversation, greeting, opened, is_served, unserved}
use Rattle.conversation.specs.Texts.{welcome, farewell, refusal_text}
use Rattle.conversation.specs.Happenings.{Happening, noted, happenings, replies}

or_assoc : (a b c : Bool) → (a || (b || c)) ≡ ((a || b) || c)
or_assoc true b c = refl
or_assoc false b c = refl

or_none : (a : Bool) → (a || false) ≡ a
or_none true = refl
or_none false = refl

followed_assoc : (a b r : Said) → followed a (followed b r) ≡ followed (followed a b) r
unfolding followed
followed_assoc a b r = λ i. record {
  state = r.state;
  output = sym (append_assoc a.output b.output r.output) i;
  edits = or_assoc a.edits b.edits r.edits i;
}

-- what comes after the end of the input adds nothing
pub followed_silent : (a : Said) → followed a (silent a.state) ≡ a
unfolding followed silent
followed_silent a = λ i. record { state = a.state; output = append-nil a.output i; edits = or_none a.edits i }

-- two pieces, one after the other, are their whole
pub converse_append : (w : Setting) (k : Talk) (a b : List ℕ) →
    conversed w k (a ++ b) ≡ followed (conversed w k a) (conversed w (conversed w k a).state b)
unfolding conversed
converse_append w k [] b = unfold followed silent in refl
converse_append w k (c ∷ a) b =
    let r = heard_byte w k c in
    ap (followed r) (converse_append w r.state a b)
    ∙ followed_assoc r (conversed w r.state a) (conversed w (conversed w r.state a).state b)
    ∙ same_state r
  where
    same_state : (r : Said)
        → followed (followed r (conversed w r.state a)) (conversed w (conversed w r.state a).state b)
        ≡ followed (followed r (conversed w r.state a)) (conversed w (followed r (conversed w r.state a)).state b)
    same_state r = unfold followed in refl

-- Cutting the input anywhere changes nothing: output, edits, store and state are those of the whole, from any state.
pub cut_anywhere : (w : Setting) (k : Talk) (pieces : List (List ℕ)) → conversed_in w k pieces ≡ conversed w k (joined pieces)
unfolding conversed_in conversed joined
cut_anywhere w k [] = refl
cut_anywhere w k (x ∷ xs) =
    ap (followed (conversed w k x)) (cut_anywhere w (conversed w k x).state xs) ∙ sym (converse_append w k x (joined xs))

-- After the end nothing is sent, and nothing changes.
pub ended_silent : (w : Setting) (k : Talk) (input : List ℕ) → k.ended ≡ true → conversed w k input ≡ silent k
unfolding conversed
ended_silent w k [] h = refl
ended_silent w k (c ∷ t) h = ap (λ (r : Said). followed r (conversed w r.state t)) heard ∙ still (ended_silent w k t h)
  where
    heard : heard_byte w k c ≡ silent k
    heard = unfold heard_byte in rw h

    still : conversed w k t ≡ silent k → followed (silent k) (conversed w (silent k).state t) ≡ silent k
    still e = unfold followed silent in (ap (λ (r : Said). followed (silent k) r) e ∙ refl)

-- After the end the output is empty.
pub ended_output : (w : Setting) (k : Talk) (input : List ℕ) → k.ended ≡ true → (conversed w k input).output ≡ []
ended_output w k input h = ap (λ (r : Said). r.output) (ended_silent w k input h) ∙ none_sent
  where
    none_sent : (silent k).output ≡ []
    none_sent = unfold silent in refl

-- So bytes after LOGOUT make no difference.
pub after_the_end : (w : Setting) (k : Talk) (a b : List ℕ) → (conversed w k a).state.ended ≡ true → conversed w k (a ++ b) ≡ conversed w k a
after_the_end w k a b h =
    converse_append w k a b
    ∙ ap (followed (conversed w k a)) (ended_silent w (conversed w k a).state b h)
    ∙ followed_silent (conversed w k a)

-- Where the table, the namespace list or the reader is not served, the client is sent `* BYE` with the number and its meaning, and no more.
pub unserved_says : (w : Setting) (m : Summed) (input : List ℕ) → is_served w m ≡ false →
    conversation w m input ≡ farewell (refusal_text (unserved w m))
unfolding conversation greeting opened
unserved_says w m input h =
    ap (λ (o : List ℕ). cond (is_served w m) (welcome w.reader) (farewell (refusal_text (unserved w m))) ++ o) nothing
    ∙ append-nil (cond (is_served w m) (welcome w.reader) (farewell (refusal_text (unserved w m))))
    ∙ ap (λ (b : Bool). cond b (welcome w.reader) (farewell (refusal_text (unserved w m)))) h
  where
    nothing : (conversed w (opened w m) input).output ≡ []
    nothing = ended_output w (opened w m) input (unfold opened in rw h)

-- ---- one reply for each event

-- The happenings are the feeder's events, in their order.
pub happenings_are : (f : Feeder) (input : List ℕ) → map (λ (h : Happening). h.event) (happenings f input) ≡ (feed_all f input).events
unfolding happenings feed_all noted feeding
happenings_are f [] = refl
happenings_are f (c ∷ t) = go (fed_byte f c).event ∙ ap (λ (es : List Event). (feeding (fed_byte f c).event (feed es)).events)
    (happenings_are (fed_byte f c).state t)
  where
    hs : List Happening
    hs = happenings (fed_byte f c).state t

    feed : List Event → Feeding
    feed es = record { state = (feed_all (fed_byte f c).state t).state; events = es }

    go : (e : Event) → map (λ (h : Happening). h.event) (noted (kept_of f) e hs) ≡ (feeding e (feed (map (λ (h : Happening). h.event) hs))).events
    go quiet = refl
    go (handed l) = refl
    go go_on = refl
    go (denied k) = refl

-- a connection that goes on
abbrev pub going : Feeder → Summed → Talk
going f m = record { feeder = f; store = m; ended = false }

-- The output is the replies to the happenings, one after the other: no byte more, none less.
pub output_replies : (w : Setting) (f : Feeder) (m : Summed) (input : List ℕ) →
    (conversed w (going f m) input).output ≡ joined (replies w m (happenings f input))
unfolding conversed happenings replies joined silent heard_byte followed replying noted reply_to says
output_replies w f m [] = refl
output_replies w f m (c ∷ t) = heard ∙ go (fed_byte f c).event (λ u. output_replies w (fed_byte f c).state u t)
  where
    g : Feeder
    g = (fed_byte f c).state

    sent : Replied → List ℕ
    sent r = r.bytes ++ (conversed w (record { feeder = g; store = r.store; ended = r.ended }) t).output

    heard : (conversed w (going f m) (c ∷ t)).output ≡ sent (reply_to w m (kept_of f) (fed_byte f c).event)
    heard = refl

    rest : (r : Replied) → ((u : Summed) → (conversed w (going g u) t).output ≡ joined (replies w u (happenings g t)))
        → sent r ≡ r.bytes ++ joined (cond r.ended [] (replies w r.store (happenings g t)))
    rest r ih = ap (λ (x : List ℕ). r.bytes ++ x) (more r.ended)
      where
        more : (b : Bool) → (conversed w (record { feeder = g; store = r.store; ended = b }) t).output ≡ joined
            (cond b [] (replies w r.store (happenings g t)))
        more true = ap (λ (x : Said). x.output) (ended_silent w (record { feeder = g; store = r.store; ended = true }) t refl)
        more false = ih r.store

    go : (e : Event) → ((u : Summed) → (conversed w (going g u) t).output ≡ joined (replies w u (happenings g t)))
        → sent (reply_to w m (kept_of f) e) ≡ joined (replies w m (noted (kept_of f) e (happenings g t)))
    go quiet ih = ih m
    go (handed l) ih = rest (reply_to w m (kept_of f) (handed l)) ih
    go go_on ih = rest (reply_to w m (kept_of f) go_on) ih
    go (denied k) ih = rest (reply_to w m (kept_of f) (denied k)) ih
