-- W9's claim for a whole conversation: two stores that show the reader the same rows give the same output for every input without edits. Rests on
-- CutLaws and TagLaws.
use Rattle.listing_rules.proofs.Prelude.{◌∙◌, ◌≡◌, ap, refl, sym, subst, Bool, ◌&&◌, ◌||◌, cond, false, true, not, List, [], ◌++◌, ◌∷◌, ℕ, eqb, leb, length}
use Rattle.listing_rules.proofs.Prelude.{Option, none, some, leb-true, ne_eqb, arith, not-true}
use Rattle.listing_rules.proofs.Bools.{and_l, and_r, and_i, or_r}
use Rattle.listing_rules.proofs.CommandLaws.{concluded_reads}
use Rattle.listing_rules.proofs.SeenAlike.{ShowSame, stores_seen_alike}
use Rattle.listing_rules.specs.Lists.{every, joined}
use Rattle.listing_rules.specs.Table.{Table, Row, rows, passes}
use Rattle.listing_rules.specs.Readers.{is_reader, visible}
use Rattle.listing_rules.specs.Namespaces.{Entry, entries, namespaces_pass}
use Rattle.listing_rules.specs.Command.{Parsed, refused, namespace, listing, root_of, subscriptions, editing, parsed, is_edit}
use Rattle.listing_rules.specs.Feeder.{Feeder, first, Event, quiet, handed, go_on, denied}
use Rattle.listing_rules.specs.Subscriptions.{Store, denied as refusedEdit, edited, held, store_table}
use Rattle.listing_rules.specs.Summary.{Summary, Summed, SummedCommand, agrees, sums_after, summed_table, summed_seen, summed_over, summed_compaction}
use Rattle.listing_rules.proofs.SummaryCommands.{with_sums, refused_sums, read_sums, seen_with}
use Rattle.listing_rules.proofs.SummaryAlike.{grown_parts}
use Rattle.listing_rules.specs.Server.{unchanged_by, concluded, attempted, Reply, refusal, answered, number_of, answer_to, answer, limited, from_reader, commanded_over}
use Rattle.conversation.specs.Conversation.{Setting, Replied, says, decided_over, decided, replied, worded, Started, started, reply_to, conversed}
use Rattle.conversation.specs.Conversation.{opened, unserved, is_served, greeting, conversation, tag_of}
use Rattle.conversation.specs.Texts.{welcome, farewell, refusal_text, refusal_line}
use Rattle.conversation.specs.Happenings.{Happening, happenings, replies}
use Rattle.conversation.proofs.TagLaws.{Tagged, parsed_tag}
use Rattle.conversation.proofs.CutLaws.{going, ended_output, output_replies}

-- ---- 15 is of edits alone

not_15 : (k : ℕ) → leb k 8 ≡ true → eqb k 15 ≡ false
not_15 k h = ne_eqb k 15 (λ e. omega (arith, leb-true k 8 h))

abbrev Low : Reply → Type 0
Low r = eqb (number_of r) 15 ≡ false

answer_to_low : (rs : List Row) (es : List Entry) (l : List ℕ) (p : Parsed) → Tagged l p → Low (answer_to rs es p)
unfolding answer_to number_of Tagged
answer_to_low rs es l (refused k) h = not_15 k h
answer_to_low rs es l (namespace tag) h = refl
answer_to_low rs es l (listing tag o ps) h = refl
answer_to_low rs es l (root_of tag) h = refl
answer_to_low rs es l (subscriptions tag ps) h = refl
answer_to_low rs es l (editing tag e) h = refl

answer_low : (t : Table) (spaces l : List ℕ) → Low (answer t spaces l)
unfolding answer
answer_low t spaces l = go (passes t) (namespaces_pass spaces)
  where
    go : (b d : Bool) → Low (cond b (cond d (answer_to (rows t) (entries spaces) (parsed l)) (refusal 2)) (refusal 1))
    go true true = answer_to_low (rows t) (entries spaces) l (parsed l) (parsed_tag l)
    go true false = unfold number_of in refl
    go false d = unfold number_of in refl

limited_low : (longest : ℕ) (r : Reply) → Low r → Low (limited longest r)
unfolding limited number_of
limited_low longest (refusal k) h = h
limited_low longest (answered a) h = go (leb (length a) longest)
  where
    go : (b : Bool) → Low (cond b (answered a) (refusal 9))
    go true = refl
    go false = refl

reader_low : (reader : ℕ) (r : Reply) → Low r → Low (from_reader reader r)
unfolding from_reader
reader_low reader r h = go (is_reader reader)
  where
    go : (b : Bool) → Low (cond b r (refusal 16))
    go true = h
    go false = unfold number_of in refl

-- ---- a command that cannot change the store: no edit, or from another reader than 0

-- an edit that is on the grammar, from another reader: "edits are allowed to reader 0 only (else 16 ..)"
unfoldable pub strange : Reply → Reply
strange (refusal k) = refusal k
strange (answered a) = refusal 16

abbrev pub calm : Setting → List ℕ → Bool
calm w l = not (is_edit (parsed l)) || not (eqb w.reader 0)

-- its reply, over the table that the reader sees
unfoldable pub calm_reply : Setting → Table → List ℕ → Reply
calm_reply w t l =
    let r = answer t w.namespaces l in
    from_reader w.reader (cond (is_edit (parsed l)) (strange r) (limited w.longest r))

concluded_calm : (reader : ℕ) (s : Store) (longest : ℕ) (p : Parsed) (r : Reply) → (not (is_edit p) || not (eqb reader 0)) ≡ true
    → concluded s longest (attempted reader s p) r ≡ record { reply = cond (is_edit p) (strange r) (limited longest r); store = s }
unfolding attempted is_edit
concluded_calm reader s longest (refused k) r h = concluded_reads s longest r
concluded_calm reader s longest (namespace tag) r h = concluded_reads s longest r
concluded_calm reader s longest (listing tag o ps) r h = concluded_reads s longest r
concluded_calm reader s longest (root_of tag) r h = concluded_reads s longest r
concluded_calm reader s longest (subscriptions tag ps) r h = concluded_reads s longest r
concluded_calm reader s longest (editing tag e) r h =
    ap (λ (b : Bool). concluded s longest (cond b (edited s e) (refusedEdit 16)) r) (not-true (eqb reader 0) h) ∙ denies r
  where
    denies : (r : Reply) → concluded s longest (refusedEdit 16) r ≡ record { reply = strange r; store = s }
    denies (refusal k) = unfold concluded unchanged_by strange in refl
    denies (answered a) = unfold concluded unchanged_by strange in refl

strange_low : (r : Reply) → Low r → Low (strange r)
unfolding strange number_of
strange_low (refusal k) h = h
strange_low (answered a) h = refl

calm_low : (w : Setting) (t : Table) (l : List ℕ) → Low (calm_reply w t l)
unfolding calm_reply
calm_low w t l = reader_low w.reader _ (go (is_edit (parsed l)))
  where
    r : Reply
    r = answer t w.namespaces l

    go : (b : Bool) → Low (cond b (strange r) (limited w.longest r))
    go true = strange_low r (answer_low t w.namespaces l)
    go false = limited_low w.longest r (answer_low t w.namespaces l)

-- it leaves the summary
calm_sums : (w : Setting) (m : Summed) (l : List ℕ) → sums_after m (parsed l) (calm_reply w (summed_seen w.reader m) l) ≡ m.summary
unfolding calm_reply from_reader
calm_sums w m l = go (is_edit (parsed l)) refl
  where
    r : Reply
    r = answer (summed_seen w.reader m) w.namespaces l

    refuses : (r : Reply) → sums_after m (parsed l) (strange r) ≡ m.summary
    refuses (refusal k) = unfold strange in refused_sums m (parsed l) k
    refuses (answered a) = unfold strange in refused_sums m (parsed l) 16

    reader_of : (b : Bool) → sums_after m (parsed l) (cond b (strange r) (refusal 16)) ≡ m.summary
    reader_of true = refuses r
    reader_of false = refused_sums m (parsed l) 16

    go : (b : Bool) → is_edit (parsed l) ≡ b
        → sums_after m (parsed l) (cond (is_reader w.reader) (cond b (strange r) (limited w.longest r)) (refusal 16)) ≡ m.summary
    go true e = reader_of (is_reader w.reader)
    go false e = read_sums m (parsed l) _ e

-- It is decided by what the reader sees, and leaves the store.
pub calm_over : (w : Setting) (m : Summed) (l : List ℕ) → calm w l ≡ true
    → decided_over w m l ≡ record { reply = calm_reply w (summed_seen w.reader m) l; left = m }
unfolding decided_over summed_over
calm_over w m l h =
    ap (with_sums m (parsed l)) made
    ∙ ap {A = List Summary} {B = SummedCommand} (λ (ms : List Summary). record { reply = calm_reply w t l; left = record { store = s; summary = ms } })
    (calm_sums w m l)
  where
    s : Store
    s = m.store

    t : Table
    t = summed_seen w.reader m

    made : commanded_over w.reader s t w.namespaces l w.longest ≡ record { reply = calm_reply w t l; store = s }
    made = unfold commanded_over unchanged_by calm_reply from_reader in pick (is_reader w.reader)
      where
        r : Reply
        r = answer t w.namespaces l

        pick : (b : Bool) → cond b (concluded s w.longest (attempted w.reader s (parsed l)) r) (record { reply = refusal 16; store = s })
            ≡ record { reply = cond b (cond (is_edit (parsed l)) (strange r) (limited w.longest r)) (refusal 16); store = s }
        pick true = concluded_calm w.reader s w.longest (parsed l) r h
        pick false = refl

-- It is not tried a second time.
pub calm_decides : (w : Setting) (m : Summed) (l : List ℕ) → calm w l ≡ true →
    decided w m l ≡ record { reply = calm_reply w (summed_seen w.reader m) l; left = m }
unfolding decided
calm_decides w m l h = go w.compacts ∙ calm_over w m l h
  where
    low : Low (decided_over w m l).reply
    low = subst (λ (c : SummedCommand). Low c.reply) (sym (calm_over w m l h)) (calm_low w (summed_seen w.reader m) l)

    go : (b : Bool) → cond (b && eqb (number_of (decided_over w m l).reply) 15) (decided_over w (summed_compaction m).left l) (decided_over w m l) ≡
        decided_over w m l
    go true = rw low
    go false = refl

-- A reply keeps the store that the decision left.
pub replied_store : (w : Setting) (l : List ℕ) (c : SummedCommand) → (replied w l c).store ≡ c.left
replied_store w l c = go c.reply
  where
    word : (o : Option Started) → (worded w.accepts_login c.left l o).store ≡ c.left
    word none = unfold worded says in refl
    word (some x) = unfold worded in refl

    pick : (k : ℕ) (b : Bool) → (cond b (worded w.accepts_login c.left l (started l)) (says (refusal_line (tag_of l) k) c.left)).store ≡ c.left
    pick k true = word (started l)
    pick k false = unfold says in refl

    go : (r : Reply) → (replied w l (record { reply = r; left = c.left })).store ≡ c.left
    go (answered a) = unfold replied in refl
    go (refusal k) = unfold replied in pick k (eqb k 5)

-- what a reply shows, its bytes and whether the connection ends, is decided by the line and the decision's reply
replied_bytes : (w : Setting) (l : List ℕ) (m n : Summed) (r : Reply)
    → ((replied w l (record { reply = r; left = m })).bytes ≡ (replied w l (record { reply = r; left = n })).bytes)
    × ((replied w l (record { reply = r; left = m })).ended ≡ (replied w l (record { reply = r; left = n })).ended)
replied_bytes w l m n (answered a) = unfold replied in (refl, refl)
replied_bytes w l m n (refusal k) = unfold replied in pick (eqb k 5)
  where
    word : (o : Option Started) → ((worded w.accepts_login m l o).bytes ≡ (worded w.accepts_login n l o).bytes)
        × ((worded w.accepts_login m l o).ended ≡ (worded w.accepts_login n l o).ended)
    word none = unfold worded says in (refl, refl)
    word (some x) = unfold worded in (refl, refl)

    at : Summed → Bool → Replied
    at u b = cond b (worded w.accepts_login u l (started l)) (says (refusal_line (tag_of l) k) u)

    pick : (b : Bool) → ((at m b).bytes ≡ (at n b).bytes) × ((at m b).ended ≡ (at n b).ended)
    pick true = word (started l)
    pick false = unfold says in (refl, refl)

-- ---- the whole

-- an event that cannot change the store
abbrev pub calmly : Setting → Event → Bool
calmly w quiet = true
calmly w (handed l) = calm w l
calmly w go_on = true
calmly w (denied k) = true

-- "inputs without edits": no command that the feeder hands over is SUBSCRIBE or UNSUBSCRIBE on the grammar, or the reader is not 0
abbrev pub calm_only : Setting → List Happening → Bool
calm_only w hs = every (λ h. calmly w h.event) hs

-- Such an event leaves the store.
pub reply_keeps : (w : Setting) (s : Summed) (kept : List ℕ) (e : Event) → calmly w e ≡ true → (reply_to w s kept e).store ≡ s
unfolding reply_to says
reply_keeps w s kept quiet h = refl
reply_keeps w s kept (handed l) h = replied_store w l (decided w s l) ∙ ap (λ (c : SummedCommand). c.left) (calm_decides w s l h)
reply_keeps w s kept go_on h = refl
reply_keeps w s kept (denied k) h = refl

module _ (w : Setting) (s t : Summed) (alike : summed_seen w.reader s ≡ summed_seen w.reader t) where
  same_decided : (l : List ℕ) → calm w l ≡ true → (decided w s l).reply ≡ (decided w t l).reply
  same_decided l h =
      ap (λ (c : SummedCommand). c.reply) (calm_decides w s l h) ∙ ap (λ (x : Table). calm_reply w x l) alike ∙ sym
      (ap (λ (c : SummedCommand). c.reply) (calm_decides w t l h))

  same_reply_lem : (kept : List ℕ) (e : Event) → calmly w e ≡ true
      → ((reply_to w s kept e).bytes ≡ (reply_to w t kept e).bytes) × ((reply_to w s kept e).ended ≡ (reply_to w t kept e).ended)
  unfolding reply_to says
  same_reply_lem kept quiet h = (refl, refl)
  same_reply_lem kept (handed l) h =
      let b = replied_bytes w l (decided w s l).left (decided w t l).left (decided w s l).reply in
      let e = same_decided l h in (
        b.0 ∙ ap (λ (r : Reply). (replied w l (record { reply = r; left = (decided w t l).left })).bytes) e,
        b.1 ∙ ap (λ (r : Reply). (replied w l (record { reply = r; left = (decided w t l).left })).ended) e,
      )
  same_reply_lem kept go_on h = (refl, refl)
  same_reply_lem kept (denied k) h = (refl, refl)

  -- The replies to happenings that change no store are the same.
  pub same_replies : (hs : List Happening) → calm_only w hs ≡ true → replies w s hs ≡ replies w t hs
  unfolding replies every
  same_replies [] h = refl
  same_replies (x ∷ hs) h = go (same_replies hs (and_r (calmly w x.event) (calm_only w hs) h))
    where
      this : calmly w x.event ≡ true
      this = and_l (calmly w x.event) (calm_only w hs) h

      go : replies w s hs ≡ replies w t hs → replies w s (x ∷ hs) ≡ replies w t (x ∷ hs)
      go ih =
          let e = same_reply_lem x.kept x.event this in
          ap (λ (v : Summed). (reply_to w s x.kept x.event).bytes ∷ cond (reply_to w s x.kept x.event).ended [] (replies w v hs))
          (reply_keeps w s x.kept x.event this)
          ∙ ap (λ (a : List ℕ). a ∷ cond (reply_to w s x.kept x.event).ended [] (replies w s hs)) e.0
          ∙ ap (λ (b : Bool). (reply_to w t x.kept x.event).bytes ∷ cond b [] (replies w s hs)) e.1
          ∙ ap (λ (rs : List (List ℕ)). (reply_to w t x.kept x.event).bytes ∷ cond (reply_to w t x.kept x.event).ended [] rs) ih
          ∙ ap (λ (v : Summed). (reply_to w t x.kept x.event).bytes ∷ cond (reply_to w t x.kept x.event).ended [] (replies w v hs))
          (sym (reply_keeps w t x.kept x.event this))

  -- The output is the same from any state of the feeder.
  pub same_output : (f : Feeder) (input : List ℕ) → calm_only w (happenings f input) ≡ true →
      (conversed w (going f s) input).output ≡ (conversed w (going f t) input).output
  same_output f input h = output_replies w f s input ∙ ap joined (same_replies (happenings f input) h) ∙ sym (output_replies w f t input)

  -- A whole conversation is the same, if both stores are served or neither is.
  pub same_conversation : unserved w s ≡ unserved w t → (input : List ℕ) → calm_only w (happenings first input) ≡ true →
      conversation w s input ≡ conversation w t input
  unfolding conversation opened
  same_conversation u input h = greeted ∙ ap (λ (o : List ℕ). greeting w t ++ o) (begun (is_served w t) refl)
    where
      same_served : is_served w s ≡ is_served w t
      same_served = unfold is_served in ap (λ (k : ℕ). eqb k 0) u

      same_greeting : greeting w s ≡ greeting w t
      same_greeting = unfold greeting in
          (λ i. cond (same_served i) (welcome w.reader) (farewell (refusal_text (u i))))

      greeted : conversation w s input ≡ greeting w t ++ (conversed w (record { feeder = first; store = s; ended = not (is_served w t) }) input).output
      greeted = unfold conversation opened in
          (λ i. same_greeting i ++ (conversed w (record { feeder = first; store = s; ended = not (same_served i) }) input).output)

      begun : (b : Bool) → is_served w t ≡ b
          → (conversed w (record { feeder = first; store = s; ended = not b }) input).output ≡ (conversed w
          (record { feeder = first; store = t; ended = not b }) input).output
      begun true e = same_output first input h
      begun false e =
          ended_output w (record { feeder = first; store = s; ended = true }) input refl
          ∙ sym (ended_output w (record { feeder = first; store = t; ended = true }) input refl)

-- two stores that pass with their summaries, and show the reader the same names with the same flags
pub record AlikeTo (reader : ℕ) (s t : Summed) : Type 0 where
  pub this_passes : passes (summed_table s) ≡ true
  pub that_passes : passes (summed_table t) ≡ true
  pub shown : ShowSame (visible reader s.store.area (held s.store)) (visible reader t.store.area (held t.store))

-- A connection's output is a function of its reader's visible rows: for every input without edits, two stores that look alike to it give the same.
pub seen_conversation : (w : Setting) (s t : Summed) → AlikeTo w.reader s t
    → (input : List ℕ) → calm_only w (happenings first input) ≡ true → conversation w s input ≡ conversation w t input
seen_conversation w s t a input h = same_conversation w s t alike same_unserved input h
  where
    parts : (m : Summed) → passes (summed_table m) ≡ true → (passes (store_table m.store) ≡ true) × (agrees m ≡ true)
    parts m p = grown_parts m p

    alike : summed_seen w.reader s ≡ summed_seen w.reader t
    alike =
        seen_with s (parts s a.this_passes).1 w.reader
        ∙ (stores_seen_alike w.reader s.store t.store (parts s a.this_passes).0 (parts t a.that_passes).0 a.shown).seen_same
        ∙ sym (seen_with t (parts t a.that_passes).1 w.reader)

    same_unserved : unserved w s ≡ unserved w t
    same_unserved = unfold unserved in
        ap (λ (b : Bool). cond (is_reader w.reader) (cond b (cond (namespaces_pass w.namespaces) 0 2) 1) 16)
        (a.this_passes ∙ sym a.that_passes)

-- A connection of another reader than 0 is calm, whatever is sent.
pub guests_are_calm : (w : Setting) → eqb w.reader 0 ≡ false → (hs : List Happening) → calm_only w hs ≡ true
unfolding every
guests_are_calm w g [] = refl
guests_are_calm w g (h ∷ hs) = and_i (calmly w h.event) (calm_only w hs) (go h.event) (guests_are_calm w g hs)
  where
    go : (e : Event) → calmly w e ≡ true
    go quiet = refl
    go (handed l) = or_r (not (is_edit (parsed l))) (not (eqb w.reader 0)) (ap not g)
    go go_on = refl
    go (denied k) = refl

-- So everything that it is sent, for every input, is decided by the rows that its reader sees.
pub guest_conversation : (w : Setting) (s t : Summed) → eqb w.reader 0 ≡ false → AlikeTo w.reader s t
    → (input : List ℕ) → conversation w s input ≡ conversation w t input
guest_conversation w s t g a input = seen_conversation w s t a input (guests_are_calm w g (happenings first input))
