-- What a conversation leaves of the store: one that passes passes throughout; and a command that is no accepted edit leaves the store, or compacts it
-- for a SUBSCRIBE that is refused with 15 all the same, which no reader sees. Rests on CutLaws and SeenLaws.
use Rattle.listing_rules.proofs.Prelude.{◌∙◌, ◌≡◌, ap, refl, sym, subst, Bool, ◌&&◌, ◌||◌, not, cond, false, true, List, [], ◌∷◌, ℕ, eqb, leb, length, false≢true}
use Rattle.listing_rules.proofs.Prelude.{Option, none, some, replicate, length-replicate, ◌⊎◌, inl, inr, ⊎_elim}
use Rattle.listing_rules.proofs.CommandLaws.{command_passes, refusal_not}
use Rattle.listing_rules.proofs.CompactionLaws.{compacted_passes, seen_stays}
use Rattle.listing_rules.proofs.CompactionCommands.{AsBefore, compaction_before}
use Rattle.listing_rules.proofs.SummaryCommands.{refused_sums, table_with, seen_with, store_with, command_agrees, compaction_agrees}
use Rattle.listing_rules.proofs.SummaryAlike.{grown_parts}
use Rattle.listing_rules.specs.Table.{Table, passes}
use Rattle.listing_rules.specs.Readers.{is_reader}
use Rattle.listing_rules.specs.Command.{is_edit, parsed}
use Rattle.listing_rules.specs.Feeder.{Event, quiet, handed, go_on, denied, fed_byte}
use Rattle.listing_rules.specs.Subscriptions.{Store, Edited, denied as refusedEdit, stored, store_table, store_seen}
use Rattle.listing_rules.specs.Compaction.{compacted, compaction}
use Rattle.listing_rules.specs.Server.{Reply, refusal, answered, number_of, is_answered, Commanded, unchanged_by, attempted, answer, concluded, commanded_over}
use Rattle.listing_rules.specs.Summary.{Summed, SummedCommand, agrees, sums_after, summed_table, summed_seen, summed_over, summed_command, summed_compaction}
use Rattle.feeder.specs.Feed.{kept_of}
use Rattle.conversation.specs.Conversation.{Setting, Talk, Said, says, silent, followed, replying, decided_over, decided, worded, Started, started}
use Rattle.conversation.specs.Conversation.{Replied, replied, reply_to, heard_byte, conversed, tag_of}
use Rattle.conversation.specs.Texts.{refusal_line}
use Rattle.conversation.specs.Happenings.{Happening, replies}
use Rattle.conversation.proofs.SeenLaws.{calm_only, calm_over, replied_store, same_replies}

-- a store that passes with its summary
abbrev pub Sound : Summed → Type 0
Sound m = passes (summed_table m) ≡ true

sound_of : (m : Summed) → passes (store_table m.store) ≡ true → agrees m ≡ true → Sound m
sound_of m p a = ap passes (table_with m a) ∙ p

-- over an answer buffer of that many bytes, whatever they are
longest_is : (w : Setting) (m : Summed) (l : List ℕ) → decided_over w m l ≡ summed_command w.reader m w.namespaces l (replicate w.longest 0)
unfolding decided_over summed_command
longest_is w m l = ap (summed_over w.reader m (summed_seen w.reader m) w.namespaces l) (sym (length-replicate w.longest 0))

over_sound : (w : Setting) (m : Summed) (l : List ℕ) → Sound m → Sound (decided_over w m l).left
over_sound w m l h =
    subst (λ (c : SummedCommand). Sound c.left) (sym (longest_is w m l))
    (sound_of (summed_command w.reader m w.namespaces l buffer).left
    (ap (λ (s : Store). passes (store_table s)) (store_with m parts.1 w.reader w.namespaces l buffer)
    ∙ command_passes w.reader m.store w.namespaces l buffer parts.0)
    (command_agrees m parts.1 w.reader w.namespaces l buffer))
  where
    buffer : List ℕ
    buffer = replicate w.longest 0

    parts : (passes (store_table m.store) ≡ true) × (agrees m ≡ true)
    parts = grown_parts m h

compaction_left : (m : Summed) → Sound m → (summed_compaction m).left ≡ record { store = compacted m.store; summary = m.summary }
unfolding summed_compaction
compaction_left m h = rw h

compaction_sound : (m : Summed) → Sound m → Sound (summed_compaction m).left
compaction_sound m h =
    sound_of (summed_compaction m).left
    (ap (λ (n : Summed). passes (store_table n.store)) (compaction_left m h) ∙ compacted_passes m.store (grown_parts m h).0)
    (compaction_agrees m (grown_parts m h).1)

-- A command leaves a sound store sound.
pub decided_sound : (w : Setting) (m : Summed) (l : List ℕ) → Sound m → Sound (decided w m l).left
unfolding decided
decided_sound w m l h = go (w.compacts && eqb (number_of (decided_over w m l).reply) 15)
  where
    go : (b : Bool) → Sound (cond b (decided_over w (summed_compaction m).left l) (decided_over w m l)).left
    go true = over_sound w (summed_compaction m).left l (compaction_sound m h)
    go false = over_sound w m l h

-- So does any event.
pub reply_sound : (w : Setting) (m : Summed) (kept : List ℕ) (e : Event) → Sound m → Sound (reply_to w m kept e).store
unfolding reply_to says
reply_sound w m kept quiet h = h
reply_sound w m kept (handed l) h = subst (λ (u : Summed). Sound u) (sym (replied_store w l (decided w m l))) (decided_sound w m l h)
reply_sound w m kept go_on h = h
reply_sound w m kept (denied k) h = h

-- A sound store stays sound, whatever the client sends.
pub conversed_sound : (w : Setting) (k : Talk) (input : List ℕ) → Sound k.store → Sound (conversed w k input).state.store
unfolding conversed silent followed
conversed_sound w k [] h = h
conversed_sound w k (c ∷ t) h = conversed_sound w (heard_byte w k c).state t (heard k.ended)
  where
    went : Said
    went = replying (fed_byte k.feeder c).state (reply_to w k.store (kept_of k.feeder) (fed_byte k.feeder c).event)

    here : (b : Bool) → Sound (cond b (silent k) went).state.store
    here true = h
    here false = unfold replying in reply_sound w k.store (kept_of k.feeder) (fed_byte k.feeder c).event h

    heard : (b : Bool) → Sound (heard_byte w k c).state.store
    heard b = unfold heard_byte in here k.ended

-- ---- what is no accepted edit

-- The flag of a reply says exactly whether the command was an edit that was answered.
pub accepted_is : (w : Setting) (l : List ℕ) (c : SummedCommand) → (replied w l c).accepted ≡ (is_edit (parsed l) && is_answered c.reply)
accepted_is w l c = go c.reply
  where
    off : (b : Bool) → false ≡ (b && false)
    off true = refl
    off false = refl

    on : (b : Bool) → b ≡ (b && true)
    on true = refl
    on false = refl

    word : (o : Option Started) → (worded w.accepts_login c.left l o).accepted ≡ false
    word none = unfold worded says in refl
    word (some x) = unfold worded in refl

    pick : (k : ℕ) (b : Bool) → (cond b (worded w.accepts_login c.left l (started l)) (says (refusal_line (tag_of l) k) c.left)).accepted ≡ false
    pick k true = word (started l)
    pick k false = unfold says in refl

    go : (r : Reply) → (replied w l (record { reply = r; left = c.left })).accepted ≡ (is_edit (parsed l) && is_answered r)
    go (answered a) = unfold replied is_answered in on (is_edit (parsed l))
    go (refusal k) = unfold replied is_answered in (pick k (eqb k 5) ∙ off (is_edit (parsed l)))

-- what is refused is left, over whatever table it is decided
concluded_refused : (s : Store) (longest : ℕ) (x : Edited) (r : Reply) (k : ℕ) → (concluded s longest x r).reply ≡ refusal k →
    (concluded s longest x r).store ≡ s
unfolding concluded unchanged_by
concluded_refused s longest x (refusal j) k e = refl
concluded_refused s longest (refusedEdit j) (answered a) k e = refl
concluded_refused s longest (stored t) (answered a) k e = go (leb (length a) longest) e
  where
    go : (b : Bool) → (cond {A = Commanded} b (record { reply = answered a; store = t }) (record { reply = refusal 9; store = s })).reply ≡ refusal k
        → (cond {A = Commanded} b (record { reply = answered a; store = t }) (record { reply = refusal 9; store = s })).store ≡ s
    go true q = absurd (refusal_not k a (sym q))
    go false q = refl

over_refused : (w : Setting) (m : Summed) (l : List ℕ) (k : ℕ) → (decided_over w m l).reply ≡ refusal k → (decided_over w m l).left ≡ m
unfolding decided_over summed_over
over_refused w m l k e = λ i. record { store = same_store i; summary = (ap (sums_after m (parsed l)) e ∙ refused_sums m (parsed l) k) i }
  where
    t : Table
    t = summed_seen w.reader m

    made : Commanded
    made = concluded m.store w.longest (attempted w.reader m.store (parsed l)) (answer t w.namespaces l)

    same_store : (commanded_over w.reader m.store t w.namespaces l w.longest).store ≡ m.store
    same_store = unfold commanded_over unchanged_by in go (is_reader w.reader) (unfold commanded_over unchanged_by in e)
      where
        go : (b : Bool) → (cond {A = Commanded} b made (record { reply = refusal 16; store = m.store })).reply ≡ refusal k
            → (cond {A = Commanded} b made (record { reply = refusal 16; store = m.store })).store ≡ m.store
        go true q = concluded_refused m.store w.longest (attempted w.reader m.store (parsed l)) (answer t w.namespaces l) k q
        go false q = refl

over_stays : (w : Setting) (m : Summed) (l : List ℕ) → (is_edit (parsed l) && is_answered (decided_over w m l).reply) ≡ false →
    (decided_over w m l).left ≡ m
over_stays w m l h = go (is_edit (parsed l)) refl
  where
    refuses : (r : Reply) → (decided_over w m l).reply ≡ r → is_answered r ≡ false → (decided_over w m l).left ≡ m
    refuses (refusal k) e q = over_refused w m l k e
    refuses (answered a) e q = absurd (false≢true (sym q ∙ (unfold is_answered in refl)))

    go : (b : Bool) → is_edit (parsed l) ≡ b → (decided_over w m l).left ≡ m
    go false e = ap (λ (c : SummedCommand). c.left) (calm_over w m l (ap (λ (b : Bool). not b || not (eqb w.reader 0)) e))
    go true e = refuses (decided_over w m l).reply refl (ap (λ (b : Bool). b && is_answered (decided_over w m l).reply) (sym e) ∙ h)

-- the store, or the compacted one
abbrev pub SameOr : Summed → Summed → Type 0
SameOr m n = (n ≡ m) ⊎ (n ≡ (summed_compaction m).left)

-- A command that is no accepted edit leaves the store, or compacts it.
pub decided_left : (w : Setting) (m : Summed) (l : List ℕ) → (is_edit (parsed l) && is_answered (decided w m l).reply) ≡ false →
    SameOr m (decided w m l).left
unfolding decided
decided_left w m l h = go (w.compacts && eqb (number_of (decided_over w m l).reply) 15) h
  where
    picked : Bool → SummedCommand
    picked b = cond b (decided_over w (summed_compaction m).left l) (decided_over w m l)

    go : (b : Bool) → (is_edit (parsed l) && is_answered (picked b).reply) ≡ false → SameOr m (picked b).left
    go true q = inr (over_stays w (summed_compaction m).left l q)
    go false q = inl (over_stays w m l q)

-- Where nothing is compacted, every event but an accepted edit leaves the store.
pub store_stays : (w : Setting) (m : Summed) (kept : List ℕ) (e : Event) → w.compacts ≡ false → (reply_to w m kept e).accepted ≡ false
    → (reply_to w m kept e).store ≡ m
unfolding reply_to says
store_stays w m kept quiet c h = refl
store_stays w m kept (handed l) c h = replied_store w l (decided w m l) ∙ ap (λ (d : SummedCommand). d.left) once ∙ over_stays w m l unaccepted
  where
    once : decided w m l ≡ decided_over w m l
    once = unfold decided in rw c

    unaccepted : (is_edit (parsed l) && is_answered (decided_over w m l).reply) ≡ false
    unaccepted = ap (λ (d : SummedCommand). is_edit (parsed l) && is_answered d.reply) (sym once) ∙ sym (accepted_is w l (decided w m l)) ∙ h
store_stays w m kept go_on c h = refl
store_stays w m kept (denied k) c h = refl

-- With compaction it leaves the store, or the compacted one.
pub store_or_compacted : (w : Setting) (m : Summed) (kept : List ℕ) (e : Event) → (reply_to w m kept e).accepted ≡ false →
    SameOr m (reply_to w m kept e).store
unfolding reply_to says
store_or_compacted w m kept quiet h = inl refl
store_or_compacted w m kept (handed l) h =
    subst (λ (n : Summed). SameOr m n) (sym (replied_store w l (decided w m l))) (decided_left w m l (sym (accepted_is w l (decided w m l)) ∙ h))
store_or_compacted w m kept go_on h = inl refl
store_or_compacted w m kept (denied k) h = inl refl

-- A refusal of one command leaves the replies to all others as they are, edits too, where nothing is compacted.
pub refused_alone : (w : Setting) (m : Summed) (h : Happening) (hs : List Happening) → w.compacts ≡ false
    → (reply_to w m h.kept h.event).accepted ≡ false → (reply_to w m h.kept h.event).ended ≡ false
    → replies w m (h ∷ hs) ≡ (reply_to w m h.kept h.event).bytes ∷ replies w m hs
unfolding replies
refused_alone w m h hs c a e =
    ap (λ (b : Bool). r.bytes ∷ cond b [] (replies w r.store hs)) e
    ∙ ap (λ (n : Summed). r.bytes ∷ replies w n hs) (store_stays w m h.kept h.event c a)
  where
    r : Replied
    r = reply_to w m h.kept h.event

-- No reader sees whether names were compacted.
pub unaccepted_seen : (w : Setting) (m : Summed) (kept : List ℕ) (e : Event) → Sound m → (reply_to w m kept e).accepted ≡ false
    → (reader : ℕ) → summed_seen reader (reply_to w m kept e).store ≡ summed_seen reader m
unaccepted_seen w m kept e h a reader =
    ⊎_elim (λ q. ap (summed_seen reader) q) (λ q. ap (summed_seen reader) q ∙ compacted_seen) (store_or_compacted w m kept e a)
  where
    compacted_seen : summed_seen reader (summed_compaction m).left ≡ summed_seen reader m
    compacted_seen =
        seen_with (summed_compaction m).left (compaction_agrees m (grown_parts m h).1) reader
        ∙ ap (λ (n : Summed). store_seen reader n.store) (compaction_left m h)
        ∙ seen_stays m.store (grown_parts m h).0 reader
        ∙ sym (seen_with m (grown_parts m h).1 reader)

-- So with compaction a refusal of one command leaves the replies to all commands that are no edits as they are.
pub refused_unseen : (w : Setting) (m : Summed) (h : Happening) (hs : List Happening) → Sound m → calm_only w hs ≡ true
    → (reply_to w m h.kept h.event).accepted ≡ false → (reply_to w m h.kept h.event).ended ≡ false
    → replies w m (h ∷ hs) ≡ (reply_to w m h.kept h.event).bytes ∷ replies w m hs
unfolding replies
refused_unseen w m h hs s calmly a e =
    ap (λ (b : Bool). r.bytes ∷ cond b [] (replies w r.store hs)) e
    ∙ ap (λ (x : List (List ℕ)). r.bytes ∷ x) (same_replies w r.store m (unaccepted_seen w m h.kept h.event s a w.reader) hs calmly)
  where
    r : Replied
    r = reply_to w m h.kept h.event

-- And an edit after it is answered as before, but for a SUBSCRIBE that would have been refused with 15.
pub compacted_before : (m : Summed) → Sound m → (reader : ℕ) (spaces l buffer : List ℕ)
    → AsBefore reader m.store (summed_compaction m).left.store spaces l buffer
compacted_before m h reader spaces l buffer =
    subst (λ (s : Store). AsBefore reader m.store s spaces l buffer) same_left (compaction_before reader m.store spaces l buffer)
  where
    passing : (compaction m.store).store ≡ compacted m.store
    passing = unfold compaction in rw (grown_parts m h).0

    same_left : (compaction m.store).store ≡ (summed_compaction m).left.store
    same_left = passing ∙ sym (ap (λ (n : Summed). n.store) (compaction_left m h))
