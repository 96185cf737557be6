-- Each event is answered as SERVING says, in order, and none is left out. Rests on OwnLaws, ReplyLaws and CutLaws.
use Rattle.listing_rules.proofs.Prelude.{◌∙◌, ◌≡◌, ap, refl, sym, subst, Bool, ◌&&◌, cond, false, true, not, Option, none, some, List, []}
use Rattle.listing_rules.proofs.Prelude.{◌∷◌, ℕ, suc, eqb, leb, ltb, length}
use Rattle.listing_rules.proofs.Prelude.{false≢true}
use Rattle.listing_rules.specs.Lists.{joined}
use Rattle.listing_rules.specs.Table.{Table, has_row}
use Rattle.listing_rules.specs.Names.{lawful_name}
use Rattle.listing_rules.specs.Command.{Edit, subscribe, unsubscribe, Parsed, refused, namespace, listing, root_of, subscriptions, editing}
use Rattle.listing_rules.specs.Command.{parsed}
use Rattle.listing_rules.specs.Feeder.{Feeder, Event, quiet, handed, go_on, denied, fed_byte}
use Rattle.listing_rules.specs.Subscriptions.{Store, Edited, denied as refusedEdit, stored, edited, subscribing, unsubscribing, insertion, inserted}
use Rattle.listing_rules.specs.Subscriptions.{free_run, spelled, rows_before, store_rows, flagged, removed, nth, with_subscribed, without_subscribed}
use Rattle.listing_rules.specs.Subscriptions.{below_no_inferiors}
use Rattle.listing_rules.specs.Summary.{Summed, SummedCommand, summed_seen, summed_over, summed_compaction}
use Rattle.listing_rules.specs.Server.{Reply, refusal, answered, number_of, Commanded, unchanged_by, attempted, answer, concluded, commanded_over}
use Rattle.listing_rules.specs.Readers.{is_reader}
use Rattle.feeder.specs.Feed.{kept_of}
use Rattle.conversation.specs.Texts.{refusal_line}
use Rattle.conversation.specs.Conversation.{Setting, Said, tag_of, Started, started}
use Rattle.conversation.specs.Conversation.{own_answer, Replied, says, decided_over, decided, worded, replied, reply_to, silent}
use Rattle.conversation.specs.Conversation.{followed, replying, heard_byte, conversed}
use Rattle.conversation.specs.Happenings.{Happening, noted, happenings, replies}
use Rattle.conversation.specs.Closing.{own_word, word_for, untagged_word, Closes, Answers, InOrder}
use Rattle.conversation.proofs.CutLaws.{going, ended_silent, output_replies}
use Rattle.conversation.proofs.TagLaws.{started_tag}
use Rattle.conversation.proofs.ReplyLaws.{AnswerCloses, refusal_closes, answer_closes}
use Rattle.conversation.proofs.OwnLaws.{own_closes, refusal_line_lem, refusal_alone}

-- ---- commands

-- no edit is denied with 5
unfoldable NotFive : Edited → Type 0
NotFive (refusedEdit k) = eqb k 5 ≡ false
NotFive (stored t) = Unit

denied_not_5 : (k : ℕ) → eqb k 5 ≡ false → NotFive (refusedEdit k)
unfolding NotFive
denied_not_5 k h = h

stored_not_5 : (t : Store) → NotFive (stored t)
unfolding NotFive
stored_not_5 t = tt

pick_not_5 : (b : Bool) (x y : Edited) → NotFive x → NotFive y → NotFive (cond b x y)
pick_not_5 true x y h g = h
pick_not_5 false x y h g = g

insertion_not_5 : (s : Store) (n : List ℕ) → NotFive (insertion s n)
unfolding insertion
insertion_not_5 s n = go (free_run s (length n))
  where
    go : (o : Option ℕ) → NotFive (elim o [
      | none ↦ refusedEdit 15
      | some start ↦ cond (ltb s.count 512 && ltb s.count (length s.records)) (stored (inserted s (rows_before (store_rows s) n) start n))
          (refusedEdit 15)
    ])
    go none = denied_not_5 15 refl
    go (some start) =
        let t = inserted s (rows_before (store_rows s) n) start n in
        pick_not_5 (ltb s.count 512 && ltb s.count (length s.records)) (stored t) (refusedEdit 15) (stored_not_5 t) (denied_not_5 15 refl)

subscribing_not_5 : (s : Store) (n : List ℕ) → NotFive (subscribing s n)
unfolding subscribing
subscribing_not_5 s n =
    let k = rows_before (store_rows s) n in
    let set = flagged s k (with_subscribed (nth s.records k).flags) in
    let fits = lawful_name n && not (below_no_inferiors (store_rows s) n) in
    pick_not_5 (has_row (store_rows s) n) (stored set) (cond fits (insertion s n) (refusedEdit 14)) (stored_not_5 set)
    (pick_not_5 fits (insertion s n) (refusedEdit 14) (insertion_not_5 s n) (denied_not_5 14 refl))

unsubscribing_not_5 : (s : Store) (n : List ℕ) → NotFive (unsubscribing s n)
unfolding unsubscribing
unsubscribing_not_5 s n =
    let k = rows_before (store_rows s) n in
    let f = (nth s.records k).flags in
    let cleared = flagged s k (without_subscribed f) in
    pick_not_5 (has_row (store_rows s) n) (cond (eqb f 0x0002) (stored (removed s k)) (stored cleared)) (stored s)
    (pick_not_5 (eqb f 0x0002) (stored (removed s k)) (stored cleared) (stored_not_5 (removed s k)) (stored_not_5 cleared))
    (stored_not_5 s)

edited_not_5 : (s : Store) (e : Edit) → NotFive (edited s e)
unfolding edited
edited_not_5 s (subscribe n) = subscribing_not_5 s (spelled n)
edited_not_5 s (unsubscribe n) = unsubscribing_not_5 s (spelled n)

attempted_not_5 : (reader : ℕ) (s : Store) (p : Parsed) → NotFive (attempted reader s p)
unfolding attempted
attempted_not_5 reader s (editing tag e) = pick_not_5 (eqb reader 0) (edited s e) (refusedEdit 16) (edited_not_5 s e) (denied_not_5 16 refl)
attempted_not_5 reader s (refused k) = stored_not_5 s
attempted_not_5 reader s (namespace tag) = stored_not_5 s
attempted_not_5 reader s (listing tag o ps) = stored_not_5 s
attempted_not_5 reader s (root_of tag) = stored_not_5 s
attempted_not_5 reader s (subscriptions tag ps) = stored_not_5 s

module _ (l : List ℕ) where
  concluded_closes : (s : Store) (longest : ℕ) (x : Edited) (r : Reply) → NotFive x → AnswerCloses l r →
      AnswerCloses l (concluded s longest x r).reply
  unfolding concluded unchanged_by NotFive
  concluded_closes s longest x (refusal k) f c = c
  concluded_closes s longest (refusedEdit k) (answered a) f c = refusal_closes l k f
  concluded_closes s longest (stored t) (answered a) f c = go (leb (length a) longest)
    where
      go : (b : Bool) → AnswerCloses l (cond {A = Commanded} b (record { reply = answered a; store = t })
          (record { reply = refusal 9; store = s })).reply
      go true = c
      go false = refusal_closes l 9 refl

  over_closes : (reader : ℕ) (s : Store) (t : Table) (spaces : List ℕ) (longest : ℕ) →
      AnswerCloses l (commanded_over reader s t spaces l longest).reply
  unfolding commanded_over unchanged_by
  over_closes reader s t spaces longest = go (is_reader reader)
    where
      made : Commanded
      made = concluded s longest (attempted reader s (parsed l)) (answer t spaces l)

      go : (b : Bool) → AnswerCloses l (cond b made (record { reply = refusal 16; store = s })).reply
      go true =
          concluded_closes s longest (attempted reader s (parsed l)) (answer t spaces l) (attempted_not_5 reader s (parsed l))
          (answer_closes t spaces l)
      go false = refusal_closes l 16 refl

  decided_closes : (w : Setting) (m : Summed) → AnswerCloses l (decided w m l).reply
  unfolding decided decided_over summed_over
  decided_closes w m = go (w.compacts && eqb (number_of (decided_over w m l).reply) 15)
    where
      over : (m : Summed) → AnswerCloses l (decided_over w m l).reply
      over m = over_closes w.reader m.store (summed_seen w.reader m) w.namespaces w.longest

      go : (b : Bool) → AnswerCloses l (cond b (decided_over w (summed_compaction m).left l) (decided_over w m l)).reply
      go true = over (summed_compaction m).left
      go false = over m

  -- a word that the server does not know
  unknown_closes : (w : Setting) (s : Summed) → Closes (tag_of l) (own_word none) (worded w.accepts_login s l none).bytes
  unfolding worded says
  unknown_closes w s = refusal_line_lem (tag_of l) (own_word none) 5

  -- a word of the server's own
  own_word_closes : (w : Setting) (s : Summed) (x : Started) → started l ≡ some x
      → Closes (tag_of l) (own_word (some x)) (worded w.accepts_login s l (some x)).bytes
  unfolding worded
  own_word_closes w s x e =
      subst (λ (t : List ℕ). Closes t (own_word (some x)) (own_answer w.accepts_login x).lines) (started_tag l x e)
      (own_closes w.accepts_login x)

  -- a reply to a command, of what it was decided to be
  replied_closes : (w : Setting) (c : SummedCommand) → AnswerCloses l c.reply → Closes (tag_of l) (untagged_word l) (replied w l c).bytes
  replied_closes w c h = go c.reply h
    where
      says_this : Reply → Replied
      says_this r = replied w l (record { reply = r; left = c.left })

      word : (o : Option Started) → started l ≡ o → Closes (tag_of l) (own_word o) (worded w.accepts_login c.left l o).bytes
      word none e = unknown_closes w c.left
      word (some x) e = own_word_closes w c.left x e

      own_word_lem : (k : ℕ) → word_for (started l) (refused k) ≡ own_word (started l)
      own_word_lem k = unfold word_for in refl

      refused_with_lem : (k : ℕ) (b : Bool) → eqb k 5 ≡ b → (eqb k 5 ≡ true → untagged_word l ≡ word_for (started l) (refused k))
          → Closes (tag_of l) (untagged_word l) (cond b (worded w.accepts_login c.left l (started l))
          (says (refusal_line (tag_of l) k) c.left)).bytes
      refused_with_lem k true e h =
          subst (λ (x : List ℕ). Closes (tag_of l) x (worded w.accepts_login c.left l (started l)).bytes) (sym (h e ∙ own_word_lem k))
          (word (started l) refl)
      refused_with_lem k false e h = unfold says in refusal_line_lem (tag_of l) (untagged_word l) k

      go : (r : Reply) → AnswerCloses l r → Closes (tag_of l) (untagged_word l) (says_this r).bytes
      go (answered a) h = unfold replied AnswerCloses in h
      go (refusal k) h = unfold replied in refused_with_lem k (eqb k 5) refl (unfold AnswerCloses in h)

  -- The reply to a command is its untagged lines, each with the word of the command, and one line with its tag.
  pub command_closes : (w : Setting) (m : Summed) → Closes (tag_of l) (untagged_word l) (replied w l (decided w m l)).bytes
  command_closes w m = replied_closes w (decided w m l) (decided_closes w m)

-- ---- every event, in order

-- Each event is answered as `Answers` says.
pub reply_answers : (w : Setting) (s : Summed) (kept : List ℕ) (e : Event) → Answers kept e (reply_to w s kept e).bytes
unfolding Answers reply_to says
reply_answers w s kept quiet = refl
reply_answers w s kept (handed l) = command_closes l w s
reply_answers w s kept go_on = refl
reply_answers w s kept (denied k) = refusal_alone (tag_of kept) k

-- The replies are those to the happenings, each to its own, in order.
pub replies_in_order : (w : Setting) (s : Summed) (hs : List Happening) → InOrder hs (replies w s hs)
unfolding InOrder replies
replies_in_order w s [] = tt
replies_in_order w s (h ∷ hs) =
    (reply_answers w s h.kept h.event, go (reply_to w s h.kept h.event).ended (replies_in_order w (reply_to w s h.kept h.event).store hs))
  where
    go : (b : Bool) → InOrder hs (replies w (reply_to w s h.kept h.event).store hs) →
        InOrder hs (cond b [] (replies w (reply_to w s h.kept h.event).store hs))
    go true i = none hs
      where
        none : (xs : List Happening) → InOrder xs []
        none [] = tt
        none (x ∷ xs) = tt
    go false i = i

-- ---- none is left out

-- While the connection goes on, every happening is answered: none is left out.
pub all_answered : (w : Setting) (f : Feeder) (s : Summed) (input : List ℕ) → (conversed w (going f s) input).state.ended ≡ false
    → length (replies w s (happenings f input)) ≡ length (happenings f input)
unfolding conversed happenings replies silent heard_byte followed replying noted reply_to says
all_answered w f s [] h = refl
all_answered w f s (c ∷ t) h = go (fed_byte f c).event (λ u. all_answered w (fed_byte f c).state u t) h
  where
    g : Feeder
    g = (fed_byte f c).state

    ends : Replied → Bool
    ends r = (conversed w (record { feeder = g; store = r.store; ended = r.ended }) t).state.ended

    rest : (r : Replied) → ((u : Summed) → (conversed w (going g u) t).state.ended ≡ false →
        length (replies w u (happenings g t)) ≡ length (happenings g t))
        → ends r ≡ false → length (r.bytes ∷ cond r.ended [] (replies w r.store (happenings g t))) ≡ suc (length (happenings g t))
    rest r ih e = ap suc (more r.ended e)
      where
        more : (b : Bool) → (conversed w (record { feeder = g; store = r.store; ended = b }) t).state.ended ≡ false
            → length (cond b [] (replies w r.store (happenings g t))) ≡ length (happenings g t)
        more true q =
            absurd (false≢true (sym q ∙ ap (λ (x : Said). x.state.ended)
            (ended_silent w (record { feeder = g; store = r.store; ended = true }) t refl)))
        more false q = ih r.store q

    go : (e : Event) → ((u : Summed) → (conversed w (going g u) t).state.ended ≡ false →
        length (replies w u (happenings g t)) ≡ length (happenings g t))
        → ends (reply_to w s (kept_of f) e) ≡ false →
        length (replies w s (noted (kept_of f) e (happenings g t))) ≡ length (noted (kept_of f) e (happenings g t))
    go quiet ih q = ih s q
    go (handed l) ih q = rest (reply_to w s (kept_of f) (handed l)) ih q
    go go_on ih q = rest (reply_to w s (kept_of f) go_on) ih q
    go (denied k) ih q = rest (reply_to w s (kept_of f) (denied k)) ih q

-- what a client is sent, in one statement
pub record Answered (w : Setting) (f : Feeder) (s : Summed) (input : List ℕ) : Type 0 where
  pub replies_are : List (List ℕ)
  pub output : (conversed w (going f s) input).output ≡ joined replies_are
  pub in_order_lem : InOrder (happenings f input) replies_are
  pub none_missing : (conversed w (going f s) input).state.ended ≡ false → length replies_are ≡ length (happenings f input)

-- Every command gets exactly one answer of its own, in order, and nothing else is sent.
pub answered_all : (w : Setting) (f : Feeder) (s : Summed) (input : List ℕ) → Answered w f s input
answered_all w f s input =
    record {
      replies_are = replies w s (happenings f input);
      output = output_replies w f s input;
      in_order_lem = replies_in_order w s (happenings f input);
      none_missing = all_answered w f s input;
    }
