-- W6 over commands as they are sent, each by a reader (W9): "A refusal changes nothing", a command that is no edit is answered over the table that
-- its reader sees at that time and leaves the store, an edit is answered to reader 0 alone, by the tagged line alone, a store that does not pass is
-- left by every command, and after any series of commands check 1 passes and the subscribed names are those of a plain set. Rests on
-- SubscriptionLaws and ReaderLaws.
use Rattle.listing_rules.proofs.Prelude.{◌∙◌, ◌≡◌, ap, refl, subst, sym, Bool, cond, false, false≢true, true, List, [], ◌∷◌, ℕ, eqb, leb}
use Rattle.listing_rules.proofs.Prelude.{length}
use Rattle.listing_rules.specs.Table.{Table, rows, passes}
use Rattle.listing_rules.specs.Namespaces.{entries, namespaces_pass}
use Rattle.listing_rules.specs.Lines.{ok_line}
use Rattle.listing_rules.specs.Command.{Edit, Parsed, refused, namespace, listing, root_of, subscriptions, editing, is_edit, parsed}
use Rattle.listing_rules.specs.Readers.{is_reader}
use Rattle.listing_rules.specs.Subscriptions.{Store, store_table, store_seen, Edited, denied, stored, edited, is_in, subscribed_names}
use Rattle.listing_rules.specs.Server.{Reply, refusal, answered, answer_to, answer, limited, from_reader, Commanded, attempted, unchanged_by}
use Rattle.listing_rules.specs.Server.{concluded, commanded_over, commanded}
use Rattle.listing_rules.specs.Series.{Sent, sent_to, commanded_all, set_commanded, set_sent}
use Rattle.listing_rules.proofs.ReaderLaws.{store_seen_passes}
use Rattle.listing_rules.proofs.SubscriptionLaws.{refused_not, stored_is_lem, edited_passes, edited_set, set_alike}

-- How a command ends: it is refused and leaves the store, or it is answered and leaves what it makes of the store.
pub data Ending (s : Store) (x : Edited) (r : Reply) (c : Commanded) : Type 0 where
  left : (k : ℕ) → c ≡ unchanged_by s k → Ending s x r c
  made : (t : Store) (a : List ℕ) → x ≡ stored t → r ≡ answered a → c ≡ record { reply = answered a; store = t } → Ending s x r c

concluded_ends : (s : Store) (room : ℕ) (x : Edited) (r : Reply) → Ending s x r (concluded s room x r)
unfolding concluded
concluded_ends s room x (refusal k) = left k refl
concluded_ends s room (denied k) (answered a) = left k refl
concluded_ends s room (stored t) (answered a) = go (leb (length a) room)
  where
    go : (b : Bool) → Ending s (stored t) (answered a) (cond b (record { reply = answered a; store = t }) (unchanged_by s 9))
    go true = made t a refl refl refl
    go false = left 9 refl

command_ends : (reader : ℕ) (s : Store) (spaces l buffer : List ℕ) →
    Ending s (attempted reader s (parsed l)) (answer (store_seen reader s) spaces l) (commanded reader s spaces l buffer)
unfolding commanded commanded_over
command_ends reader s spaces l buffer = go (is_reader reader)
  where
    went : Commanded
    went = concluded s (length buffer) (attempted reader s (parsed l)) (answer (store_seen reader s) spaces l)

    go : (b : Bool) → Ending s (attempted reader s (parsed l)) (answer (store_seen reader s) spaces l) (cond b went (unchanged_by s 16))
    go true = concluded_ends s (length buffer) (attempted reader s (parsed l)) (answer (store_seen reader s) spaces l)
    go false = left 16 refl

abbrev is_refusal : Reply → Bool
is_refusal (refusal k) = true
is_refusal (answered a) = false

abbrev bytes_in : Reply → List ℕ
bytes_in (refusal k) = []
bytes_in (answered a) = a

pub refusal_not : (k : ℕ) (a : List ℕ) → refusal k ≡ answered a → ⊥
refusal_not k a e = false≢true (ap is_refusal (sym e))

-- "A refusal changes nothing"
pub refused_leaves : (reader : ℕ) (s : Store) (spaces l buffer : List ℕ) (k : ℕ) → (commanded reader s spaces l buffer).reply ≡ refusal k →
    (commanded reader s spaces l buffer).store ≡ s
unfolding unchanged_by
refused_leaves reader s spaces l buffer k e = go (commanded reader s spaces l buffer) (command_ends reader s spaces l buffer) e
  where
    go : (c : Commanded) → Ending s (attempted reader s (parsed l)) (answer (store_seen reader s) spaces l) c → c.reply ≡ refusal k → c.store ≡ s
    go c (left j q) e = ap (λ (d : Commanded). d.store) q
    go c (made t a x r q) e = absurd (refusal_not k a (sym e ∙ ap (λ (d : Commanded). d.reply) q))

-- a command that is no edit makes nothing of the store, and its reply is limited by the buffer alone
pub attempted_reads : (reader : ℕ) (s : Store) (p : Parsed) → is_edit p ≡ false → attempted reader s p ≡ stored s
unfolding attempted is_edit
attempted_reads reader s (refused k) h = refl
attempted_reads reader s (namespace tag) h = refl
attempted_reads reader s (listing tag o ps) h = refl
attempted_reads reader s (root_of tag) h = refl
attempted_reads reader s (subscriptions tag ps) h = refl
attempted_reads reader s (editing tag e) h = absurd (false≢true (sym h))

pub concluded_reads : (s : Store) (room : ℕ) (r : Reply) → concluded s room (stored s) r ≡ record { reply = limited room r; store = s }
unfolding concluded limited unchanged_by
concluded_reads s room (refusal k) = refl
concluded_reads s room (answered a) = go (leb (length a) room)
  where
    go : (b : Bool) → cond b (record { reply = answered a; store = s }) (unchanged_by s 9) ≡ record
        { reply = cond b (answered a) (refusal 9); store = s }
    go true = refl
    go false = refl

module _ (reader : ℕ) (s : Store) (spaces l buffer : List ℕ) (h : is_edit (parsed l) ≡ false) where
  read_ends : commanded reader s spaces l buffer ≡ record
      { reply = from_reader reader (limited (length buffer) (answer (store_seen reader s) spaces l)); store = s }
  unfolding commanded commanded_over from_reader unchanged_by
  read_ends = go (is_reader reader)
    where
      went : Commanded
      went = concluded s (length buffer) (attempted reader s (parsed l)) (answer (store_seen reader s) spaces l)

      said : Reply
      said = limited (length buffer) (answer (store_seen reader s) spaces l)

      go : (b : Bool) → cond b went (unchanged_by s 16) ≡ record { reply = cond b said (refusal 16); store = s }
      go true =
          ap (λ (x : Edited). concluded s (length buffer) x (answer (store_seen reader s) spaces l)) (attempted_reads reader s (parsed l) h)
          ∙ concluded_reads s (length buffer) (answer (store_seen reader s) spaces l)
      go false = refl

  -- it leaves the store
  pub read_leaves : (commanded reader s spaces l buffer).store ≡ s
  read_leaves = ap (λ (c : Commanded). c.store) read_ends

  -- and is answered over the table that its reader sees at that time
  pub read_answered : (commanded reader s spaces l buffer).reply ≡ from_reader reader (limited (length buffer) (answer (store_seen reader s) spaces l))
  read_answered = ap (λ (c : Commanded). c.reply) read_ends

-- a command that is answered: it makes what is stored then, and no refusal 1 to 8 stands before it
answered_made : (reader : ℕ) (s : Store) (spaces l buffer a : List ℕ) → (commanded reader s spaces l buffer).reply ≡ answered a
    → (attempted reader s (parsed l) ≡ stored (commanded reader s spaces l buffer).store) × (answer (store_seen reader s) spaces l ≡ answered a)
unfolding unchanged_by
answered_made reader s spaces l buffer a e = go (commanded reader s spaces l buffer) (command_ends reader s spaces l buffer) e
  where
    go : (c : Commanded) → Ending s (attempted reader s (parsed l)) (answer (store_seen reader s) spaces l) c → c.reply ≡ answered a
        → (attempted reader s (parsed l) ≡ stored c.store) × (answer (store_seen reader s) spaces l ≡ answered a)
    go c (left k q) e = absurd (refusal_not k a (sym (ap (λ (d : Commanded). d.reply) q) ∙ e))
    go c (made t b x r q) e = (x ∙ ap (λ (d : Commanded). stored d.store) (sym q), r ∙ sym (ap (λ (d : Commanded). d.reply) q) ∙ e)

-- what is answered is the answer to the line as it is read
answer_read : (table : Table) (spaces l a : List ℕ) → answer table spaces l ≡ answered a →
    answer_to (rows table) (entries spaces) (parsed l) ≡ answered a
unfolding answer
answer_read table spaces l a e = go (passes table) (namespaces_pass spaces) e
  where
    go : (b d : Bool) → cond b (cond d (answer_to (rows table) (entries spaces) (parsed l)) (refusal 2)) (refusal 1) ≡ answered a →
        answer_to (rows table) (entries spaces) (parsed l) ≡ answered a
    go true true q = q
    go true false q = absurd (refusal_not 2 a q)
    go false d q = absurd (refusal_not 1 a q)

-- "edits are allowed to reader 0 only"
allowed : (b : Bool) (x : Edited) (t : Store) → cond b x (denied 16) ≡ stored t → (b ≡ true) × (x ≡ stored t)
allowed true x t q = (refl, q)
allowed false x t q = absurd (refused_not 16 t q)

-- an edit that is answered
module _ (reader : ℕ) (s : Store) (spaces l buffer tag : List ℕ) (e : Edit) (h : parsed l ≡ editing tag e) (a : List ℕ)
    (q : (commanded reader s spaces l buffer).reply ≡ answered a) where
  -- the answer is the tagged line alone
  pub edit_answer : a ≡ ok_line tag
  unfolding answer_to
  edit_answer =
      let r = answer_read (store_seen reader s) spaces l a (answered_made reader s spaces l buffer a q).1 in
      ap bytes_in (sym r ∙ ap (answer_to (rows (store_seen reader s)) (entries spaces)) h)

  edit_made : cond (eqb reader 0) (edited s e) (denied 16) ≡ stored (commanded reader s spaces l buffer).store
  unfolding attempted
  edit_made = ap (attempted reader s) (sym h) ∙ (answered_made reader s spaces l buffer a q).0

  -- it comes from reader 0
  pub edit_reader : eqb reader 0 ≡ true
  edit_reader = (allowed (eqb reader 0) (edited s e) (commanded reader s spaces l buffer).store edit_made).0

  -- and what is stored then is what the edit makes
  pub edit_stored_lem : edited s e ≡ stored (commanded reader s spaces l buffer).store
  edit_stored_lem = (allowed (eqb reader 0) (edited s e) (commanded reader s spaces l buffer).store edit_made).1

-- A table that does not pass: every command of readers 0 to 7 is refused with 1, others with 16, and each leaves the store.
pub table_refused : (table : Table) (spaces l : List ℕ) → passes table ≡ false → answer table spaces l ≡ refusal 1
unfolding answer
table_refused table spaces l h = rw h

pub unsound_refused : (reader : ℕ) (s : Store) (spaces l buffer : List ℕ) → is_reader reader ≡ true → passes (store_table s) ≡ false
    → commanded reader s spaces l buffer ≡ unchanged_by s 1
unfolding commanded commanded_over concluded
unsound_refused reader s spaces l buffer r h =
    let went = concluded s (length buffer) (attempted reader s (parsed l)) in
    ap (λ (b : Bool). cond b (went (answer (store_seen reader s) spaces l)) (unchanged_by s 16)) r
    ∙ ap went (table_refused (store_seen reader s) spaces l (store_seen_passes reader s ∙ h))

-- "each command comes from reader 0 to 7 (above: 16, checked before 1)"
pub stranger_refused : (reader : ℕ) (s : Store) (spaces l buffer : List ℕ) → is_reader reader ≡ false →
    commanded reader s spaces l buffer ≡ unchanged_by s 16
unfolding commanded commanded_over
stranger_refused reader s spaces l buffer r = rw r

-- so it is left, whoever sends the command
pub unsound_ends : (reader : ℕ) (s : Store) (spaces l buffer : List ℕ) → passes (store_table s) ≡ false →
    (k : ℕ) × (commanded reader s spaces l buffer ≡ unchanged_by s k)
unsound_ends reader s spaces l buffer h = go (is_reader reader) refl
  where
    go : (b : Bool) → is_reader reader ≡ b → (k : ℕ) × (commanded reader s spaces l buffer ≡ unchanged_by s k)
    go true r = (1, unsound_refused reader s spaces l buffer r h)
    go false r = (16, stranger_refused reader s spaces l buffer r)

pub unsound_stays : (s : Store) (cs : List Sent) → passes (store_table s) ≡ false → commanded_all s cs ≡ s
unfolding commanded_all sent_to unchanged_by
unsound_stays s [] h = refl
unsound_stays s (c ∷ cs) h =
    ap (λ (d : Commanded). commanded_all d.store cs) (unsound_ends c.reader s c.namespaces c.line c.buffer h).1 ∙ unsound_stays s cs h

-- what a command makes of a store that passes: check 1 passes, and the set of subscribed names is given the edit, if it is one
attempted_passes : (reader : ℕ) (s t : Store) (p : Parsed) → passes (store_table s) ≡ true → attempted reader s p ≡ stored t →
    passes (store_table t) ≡ true
unfolding attempted
attempted_passes reader s t p h q = go p q
  where
    stays : stored s ≡ stored t → passes (store_table t) ≡ true
    stays q = ap (λ (x : Store). passes (store_table x)) (sym (stored_is_lem s t q)) ∙ h

    go : (p : Parsed) → attempted reader s p ≡ stored t → passes (store_table t) ≡ true
    go (refused j) q = stays q
    go (namespace tag) q = stays q
    go (listing tag o ps) q = stays q
    go (root_of tag) q = stays q
    go (subscriptions tag ps) q = stays q
    go (editing tag e) q = edited_passes s t e h (allowed (eqb reader 0) (edited s e) t q).1

attempted_set : (reader : ℕ) (s t : Store) (p : Parsed) (a : List ℕ) → passes (store_table s) ≡ true → attempted reader s p ≡ stored t → (m : List ℕ)
    → is_in (subscribed_names t) m ≡ set_commanded (is_in (subscribed_names s)) p (answered a) m
unfolding attempted set_commanded
attempted_set reader s t p a h q m = go p q
  where
    stays : stored s ≡ stored t → is_in (subscribed_names t) m ≡ is_in (subscribed_names s) m
    stays q = ap (λ (x : Store). is_in (subscribed_names x) m) (sym (stored_is_lem s t q))

    go : (p : Parsed) → attempted reader s p ≡ stored t → is_in (subscribed_names t) m ≡ set_commanded (is_in (subscribed_names s)) p (answered a) m
    go (refused j) q = stays q
    go (namespace tag) q = stays q
    go (listing tag o ps) q = stays q
    go (root_of tag) q = stays q
    go (subscriptions tag ps) q = stays q
    go (editing tag e) q = edited_set s t e h (allowed (eqb reader 0) (edited s e) t q).1 m

-- a refusal leaves the set
set_refused : (has : List ℕ → Bool) (p : Parsed) (k : ℕ) (m : List ℕ) → set_commanded has p (refusal k) m ≡ has m
unfolding set_commanded
set_refused has (refused j) k m = refl
set_refused has (namespace tag) k m = refl
set_refused has (listing tag o ps) k m = refl
set_refused has (root_of tag) k m = refl
set_refused has (subscriptions tag ps) k m = refl
set_refused has (editing tag e) k m = refl

-- One command: check 1 passes after it, and the subscribed names are those of the set that is given it.
pub command_passes : (reader : ℕ) (s : Store) (spaces l buffer : List ℕ) → passes (store_table s) ≡ true →
    passes (store_table (commanded reader s spaces l buffer).store) ≡ true
unfolding unchanged_by
command_passes reader s spaces l buffer h = go (commanded reader s spaces l buffer) (command_ends reader s spaces l buffer)
  where
    go : (c : Commanded) → Ending s (attempted reader s (parsed l)) (answer (store_seen reader s) spaces l) c → passes (store_table c.store) ≡ true
    go c (left k q) = ap (λ (d : Commanded). passes (store_table d.store)) q ∙ h
    go c (made t a x r q) = ap (λ (d : Commanded). passes (store_table d.store)) q ∙ attempted_passes reader s t (parsed l) h x

command_set : (reader : ℕ) (s : Store) (spaces l buffer m : List ℕ)
    → is_in (subscribed_names (commanded reader s spaces l buffer).store) m
    ≡ set_commanded (is_in (subscribed_names s)) (parsed l) (commanded reader s spaces l buffer).reply m
command_set reader s spaces l buffer m = sound (passes (store_table s)) refl
  where
    Given : Commanded → Type 0
    Given c = is_in (subscribed_names c.store) m ≡ set_commanded (is_in (subscribed_names s)) (parsed l) c.reply m

    kept : (k : ℕ) → Given (unchanged_by s k)
    kept k = unfold unchanged_by in sym (set_refused (is_in (subscribed_names s)) (parsed l) k m)

    go : (c : Commanded) → passes (store_table s) ≡ true → Ending s (attempted reader s (parsed l)) (answer (store_seen reader s) spaces l) c → Given c
    go c h (left k q) = subst Given (sym q) (kept k)
    go c h (made t a x r q) = subst Given (sym q) (attempted_set reader s t (parsed l) a h x m)

    sound : (b : Bool) → passes (store_table s) ≡ b → Given (commanded reader s spaces l buffer)
    sound true h = go (commanded reader s spaces l buffer) h (command_ends reader s spaces l buffer)
    sound false h = let w = unsound_ends reader s spaces l buffer h in subst Given (sym w.1) (kept w.0)

-- after any series of commands check 1 passes
sent_passes : (s : Store) (cs : List Sent) → passes (store_table s) ≡ true → passes (store_table (commanded_all s cs)) ≡ true
unfolding commanded_all sent_to
sent_passes s [] h = h
sent_passes s (c ∷ cs) h = sent_passes (commanded c.reader s c.namespaces c.line c.buffer).store cs
    (command_passes c.reader s c.namespaces c.line c.buffer h)

-- sets alike stay alike
sets_alike : (has like : List ℕ → Bool) (p : Parsed) (r : Reply) (m : List ℕ) → has m ≡ like m → set_commanded has p r m ≡ set_commanded like p r m
unfolding set_commanded
sets_alike has like (refused j) r m h = h
sets_alike has like (namespace tag) r m h = h
sets_alike has like (listing tag o ps) r m h = h
sets_alike has like (root_of tag) r m h = h
sets_alike has like (subscriptions tag ps) r m h = h
sets_alike has like (editing tag e) (refusal k) m h = h
sets_alike has like (editing tag e) (answered a) m h = set_alike has like e m h

series_set : (s : Store) (has : List ℕ → Bool) (cs : List Sent) → ((m : List ℕ) → is_in (subscribed_names s) m ≡ has m) → (m : List ℕ) →
    is_in (subscribed_names (commanded_all s cs)) m ≡ set_sent s has cs m
unfolding commanded_all set_sent sent_to
series_set s has [] like m = like m
series_set s has (c ∷ cs) like m =
    let d = commanded c.reader s c.namespaces c.line c.buffer in
    series_set d.store (set_commanded has (parsed c.line) d.reply) cs
    (λ n. command_set c.reader s c.namespaces c.line c.buffer n ∙ sets_alike (is_in (subscribed_names s)) has (parsed c.line) d.reply
    n (like n)) m

-- "After any series of edits the subscribed names are those that a plain set, starting with the table's and given the same accepted edits,
--  names so spelled, would hold": for every store, with any commands between the edits
sent_set : (s : Store) (cs : List Sent) (m : List ℕ) → is_in (subscribed_names (commanded_all s cs)) m ≡ set_sent s (is_in (subscribed_names s)) cs m
sent_set s cs m = series_set s (is_in (subscribed_names s)) cs (λ n. refl) m

-- The same of a table that passes, which then passes after them.
pub plain_set_sent : (s : Store) (cs : List Sent) → passes (store_table s) ≡ true
    → (passes (store_table (commanded_all s cs)) ≡ true)
    × ((m : List ℕ) → is_in (subscribed_names (commanded_all s cs)) m ≡ set_sent s (is_in (subscribed_names s)) cs m)
plain_set_sent s cs h = (sent_passes s cs h, sent_set s cs)
