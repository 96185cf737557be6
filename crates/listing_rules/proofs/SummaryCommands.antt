-- W13 over commands: a summary that disagrees is refused with 1; one that agrees changes no answer, and agrees after every command, after names are
-- moved together, and where it is counted first; a parent has children exactly if its summary says so. Rests on SummaryLaws and CommandLaws.
use Rattle.listing_rules.proofs.Prelude.{◌∙◌, ◌≡◌, ap, refl, sym, Bool, ◌&&◌, ◌||◌, and-false, cond, false, false≢true, not, true, none, List}
use Rattle.listing_rules.proofs.Prelude.{[], ◌∷◌, ◌-◌, ◌≤◌, suc, ℕ, arith, eqb, ltb, length, replicate, take, eq-eqb, eqb-true, le_refl}
use Rattle.listing_rules.proofs.Prelude.{lt-ltb, or-true, take_at}
use Rattle.listing_rules.specs.Lists.{any_of, keep, filled_to}
use Rattle.listing_rules.specs.Orders.{ascends}
use Rattle.listing_rules.specs.Names.{below}
use Rattle.listing_rules.specs.Flags.{exists, subscribed, remote, has_use}
use Rattle.listing_rules.specs.Options.{Options}
use Rattle.listing_rules.specs.Listing.{has_children, meets_criteria, meets_below}
use Rattle.listing_rules.specs.Table.{Row, Table, names, flags_of, passes}
use Rattle.listing_rules.specs.Command.{subscribe, unsubscribe, Parsed, refused, namespace, listing, root_of, subscriptions, editing, is_edit}
use Rattle.listing_rules.specs.Command.{parsed}
use Rattle.listing_rules.specs.Readers.{is_reader}
use Rattle.listing_rules.specs.Subscriptions.{Store, store_table, store_seen, store_rows, spelled}
use Rattle.listing_rules.specs.Server.{Reply, refusal, answered, Commanded, unchanged_by, concluded, commanded_over, commanded, changes}
use Rattle.listing_rules.specs.Series.{Sent, sent_to, commanded_all}
use Rattle.listing_rules.specs.Walk.{collected_by}
use Rattle.listing_rules.specs.Compaction.{compacted}
use Rattle.listing_rules.specs.Summary.{Summary, is_subscribed_local, is_subscribed_remote, is_existing_local, is_existing_remote, count_below, counted}
use Rattle.listing_rules.specs.Summary.{afresh, Summed, same_summary, same_summaries, agrees, grown, summed_table, summed_seen, no_summary}
use Rattle.listing_rules.specs.Summary.{sums_after, summed_over, SummedCommand, summed_command, SummedCompaction, summed_compaction, counted_first}
use Rattle.listing_rules.specs.Summary.{summed_all}
use Rattle.listing_rules.proofs.Bools.{and_l, and_r, and_i}
use Rattle.listing_rules.proofs.NameFlags.{meets_below_rows}
use Rattle.listing_rules.proofs.EditPasses.{rows_count}
use Rattle.listing_rules.proofs.CommandLaws.{refusal_not, refused_leaves, read_leaves, edit_stored_lem, table_refused, unsound_ends}
use Rattle.listing_rules.proofs.CommandLaws.{unsound_refused}
use Rattle.listing_rules.proofs.CompactionLaws.{stays}
use Rattle.listing_rules.proofs.SummaryLaws.{afresh_length, summary_kept}

-- the test is equality
pub same_is : (a b : Summary) → same_summary a b ≡ true → a ≡ b
unfolding same_summary
same_is a b h =
    let x₁ = eqb a.subscribed_local b.subscribed_local in
    let x₂ = x₁ && eqb a.subscribed_remote b.subscribed_remote in
    let x₃ = x₂ && eqb a.existing_local b.existing_local in
    let h₃ = and_l x₃ (eqb a.existing_remote b.existing_remote) h in
    let h₂ = and_l x₂ (eqb a.existing_local b.existing_local) h₃ in
    let e₁ = eqb-true a.subscribed_local b.subscribed_local (and_l x₁ (eqb a.subscribed_remote b.subscribed_remote) h₂) in
    let e₂ = eqb-true a.subscribed_remote b.subscribed_remote (and_r x₁ (eqb a.subscribed_remote b.subscribed_remote) h₂) in
    let e₃ = eqb-true a.existing_local b.existing_local (and_r x₂ (eqb a.existing_local b.existing_local) h₃) in
    let e₄ = eqb-true a.existing_remote b.existing_remote (and_r x₃ (eqb a.existing_remote b.existing_remote) h) in
    λ i. record { subscribed_local = e₁ i; subscribed_remote = e₂ i; existing_local = e₃ i; existing_remote = e₄ i }

pub same_self : (a : Summary) → same_summary a a ≡ true
unfolding same_summary
same_self a =
    rw (eq-eqb a.subscribed_local a.subscribed_local refl, eq-eqb a.subscribed_remote a.subscribed_remote refl, eq-eqb a.existing_local a.existing_local refl)
    (eq-eqb a.existing_remote a.existing_remote refl)

all_same : (xs ys : List Summary) → same_summaries xs ys ≡ true → xs ≡ ys
unfolding same_summaries
all_same [] [] h = refl
all_same [] (b ∷ ys) h = absurd (false≢true h)
all_same (a ∷ xs) [] h = absurd (false≢true h)
all_same (a ∷ xs) (b ∷ ys) h =
    let e = same_is a b (and_l (same_summary a b) (same_summaries xs ys) h) in
    let d = all_same xs ys (and_r (same_summary a b) (same_summaries xs ys) h) in
    λ i. e i ∷ d i

same_all : (xs : List Summary) → same_summaries xs xs ≡ true
unfolding same_summaries
same_all [] = refl
same_all (a ∷ xs) = and_i (same_summary a a) (same_summaries xs xs) (same_self a) (same_all xs)

pub agrees_is : (m : Summed) → agrees m ≡ true → take m.store.count m.summary ≡ afresh (store_rows m.store)
unfolding agrees
agrees_is m h = all_same _ _ h

pub is_agrees : (m : Summed) → take m.store.count m.summary ≡ afresh (store_rows m.store) → agrees m ≡ true
unfolding agrees
is_agrees m e = ap (λ (l : List Summary). same_summaries l (afresh (store_rows m.store))) e ∙ same_all (afresh (store_rows m.store))

-- what a command over the store comes to, with the summary that it leaves; and a command that is refused and leaves both
abbrev pub with_sums : Summed → Parsed → Commanded → SummedCommand
with_sums m p c = record { reply = c.reply; left = record { store = c.store; summary = sums_after m p c.reply } }

abbrev pub untouched : Summed → ℕ → SummedCommand
untouched m k = record { reply = refusal k; left = m }

-- a refusal leaves the summary, and so does a command that is no edit
pub refused_sums : (m : Summed) (p : Parsed) (k : ℕ) → sums_after m p (refusal k) ≡ m.summary
unfolding sums_after
refused_sums m (refused j) k = refl
refused_sums m (namespace tag) k = refl
refused_sums m (listing tag o ps) k = refl
refused_sums m (root_of tag) k = refl
refused_sums m (subscriptions tag ps) k = refl
refused_sums m (editing tag e) k = refl

pub read_sums : (m : Summed) (p : Parsed) (r : Reply) → is_edit p ≡ false → sums_after m p r ≡ m.summary
unfolding sums_after is_edit
read_sums m (refused j) r h = refl
read_sums m (namespace tag) r h = refl
read_sums m (listing tag o ps) r h = refl
read_sums m (root_of tag) r h = refl
read_sums m (subscriptions tag ps) r h = refl
read_sums m (editing tag e) r h = absurd (false≢true (sym h))

pub refused_with_lem : (m : Summed) (p : Parsed) (c : Commanded) (k : ℕ) → c ≡ unchanged_by m.store k → with_sums m p c ≡ untouched m k
unfolding unchanged_by
refused_with_lem m p c k e =
    ap (with_sums m p) e ∙ (λ i. record { reply = refusal k; left = record { store = m.store; summary = refused_sums m p k i } })

-- "above: 16, checked before 1"
pub stranger_summed : (reader : ℕ) (m : Summed) (spaces l buffer : List ℕ) → is_reader reader ≡ false
    → summed_command reader m spaces l buffer ≡ untouched m 16
unfolding summed_command summed_over
stranger_summed reader m spaces l buffer r =
    refused_with_lem m (parsed l) (commanded_over reader m.store (summed_seen reader m) spaces l (length buffer)) 16 went
  where
    went : commanded_over reader m.store (summed_seen reader m) spaces l (length buffer) ≡ unchanged_by m.store 16
    went = unfold commanded_over in rw r

-- "one that disagrees is refusal 1"
pub disagrees_refused : (reader : ℕ) (m : Summed) (spaces l buffer : List ℕ) → is_reader reader ≡ true → agrees m ≡ false
    → summed_command reader m spaces l buffer ≡ untouched m 1
unfolding summed_command summed_over
disagrees_refused reader m spaces l buffer r h =
    refused_with_lem m (parsed l) (commanded_over reader m.store (summed_seen reader m) spaces l (length buffer)) 1 went
  where
    went : commanded_over reader m.store (summed_seen reader m) spaces l (length buffer) ≡ unchanged_by m.store 1
    went = unfold summed_seen grown commanded_over concluded unchanged_by passes in rw (r, h, table_refused none spaces l refl)

-- "else answers are the same with and without it"
module _ (m : Summed) (h : agrees m ≡ true) where
  -- check 1 comes to the same
  pub table_with : summed_table m ≡ store_table m.store
  unfolding summed_table grown
  table_with = ap (λ (b : Bool). cond b (store_table m.store) none) h

  pub seen_with : (reader : ℕ) → summed_seen reader m ≡ store_seen reader m.store
  unfolding summed_seen grown
  seen_with reader = ap (λ (b : Bool). cond b (store_seen reader m.store) none) h

  module _ (reader : ℕ) (spaces l buffer : List ℕ) where
    abbrev plain : Commanded
    plain = commanded reader m.store spaces l buffer

    ran_with : commanded_over reader m.store (summed_seen reader m) spaces l (length buffer) ≡ commanded reader m.store spaces l buffer
    unfolding commanded
    ran_with = ap (λ (t : Table). commanded_over reader m.store t spaces l (length buffer)) (seen_with reader)

    pub summed_as : summed_command reader m spaces l buffer ≡ with_sums m (parsed l) (commanded reader m.store spaces l buffer)
    unfolding summed_command summed_over
    summed_as = ap (with_sums m (parsed l)) ran_with

    pub reply_with : (summed_command reader m spaces l buffer).reply ≡ (commanded reader m.store spaces l buffer).reply
    unfolding summed_command summed_over
    reply_with = ap (λ (c : Commanded). c.reply) ran_with

    pub store_with : (summed_command reader m spaces l buffer).left.store ≡ (commanded reader m.store spaces l buffer).store
    unfolding summed_command summed_over
    store_with = ap (λ (c : Commanded). c.store) ran_with

    -- and it agrees after the command
    Kept : Reply → Parsed → Type 0
    Kept r p = take plain.store.count (sums_after m p r) ≡ afresh (store_rows plain.store)

    left_as_it_was : (x : List Summary) → x ≡ m.summary → plain.store ≡ m.store → take plain.store.count x ≡ afresh (store_rows plain.store)
    left_as_it_was x e d = (λ i. take (d i).count (e i)) ∙ agrees_is m h ∙ ap (λ (s : Store). afresh (store_rows s)) (sym d)

    pub answer_passed : (a : List ℕ) → (commanded reader m.store spaces l buffer).reply ≡ answered a → passes (store_table m.store) ≡ true
    unfolding unchanged_by
    answer_passed a e = go (passes (store_table m.store)) refl
      where
        go : (b : Bool) → passes (store_table m.store) ≡ b → b ≡ true
        go true q = refl
        go false q =
            let w = unsound_ends reader m.store spaces l buffer q in
            absurd (refusal_not w.0 a (sym (ap (λ (c : Commanded). c.reply) w.1) ∙ e))

    command_kept : Kept plain.reply (parsed l)
    unfolding Kept sums_after is_edit
    command_kept = go plain.reply refl (parsed l) refl
      where
        reads : (p : Parsed) → parsed l ≡ p → is_edit p ≡ false → plain.store ≡ m.store
        reads p q n = read_leaves reader m.store spaces l buffer (ap is_edit q ∙ n)

        go : (r : Reply) → plain.reply ≡ r → (p : Parsed) → parsed l ≡ p →
            take plain.store.count (sums_after m p r) ≡ afresh (store_rows plain.store)
        go (refusal k) e p q = left_as_it_was (sums_after m p (refusal k)) (refused_sums m p k) (refused_leaves reader m.store spaces l buffer k e)
        go (answered a) e (refused j) q = left_as_it_was m.summary refl (reads (refused j) q refl)
        go (answered a) e (namespace tag) q = left_as_it_was m.summary refl (reads (namespace tag) q refl)
        go (answered a) e (listing tag o ps) q = left_as_it_was m.summary refl (reads (listing tag o ps) q refl)
        go (answered a) e (root_of tag) q = left_as_it_was m.summary refl (reads (root_of tag) q refl)
        go (answered a) e (subscriptions tag ps) q = left_as_it_was m.summary refl (reads (subscriptions tag ps) q refl)
        go (answered a) e (editing tag d) q =
            summary_kept m plain.store (answer_passed a e) (agrees_is m h) d (edit_stored_lem reader m.store spaces l buffer tag d q a e)

    pub command_agrees : agrees (summed_command reader m spaces l buffer).left ≡ true
    unfolding summed_command summed_over Kept
    command_agrees =
        is_agrees (summed_command reader m spaces l buffer).left
        ((λ i. take (ran_with i).store.count (sums_after m (parsed l) (ran_with i).reply)) ∙ command_kept
        ∙ ap (λ (c : Commanded). afresh (store_rows c.store)) (sym ran_with))

-- a table that does not pass without it is refused with 1, too
pub unsound_summed : (reader : ℕ) (m : Summed) (spaces l buffer : List ℕ) → is_reader reader ≡ true → passes (store_table m.store) ≡ false
    → summed_command reader m spaces l buffer ≡ untouched m 1
unsound_summed reader m spaces l buffer r h = go (agrees m) refl
  where
    go : (b : Bool) → agrees m ≡ b → summed_command reader m spaces l buffer ≡ untouched m 1
    go true e =
        summed_as m e reader spaces l buffer
        ∙ refused_with_lem m (parsed l) (commanded reader m.store spaces l buffer) 1 (unsound_refused reader m.store spaces l buffer r h)
    go false e = disagrees_refused reader m spaces l buffer r e

-- a walk too is the same with and without it
pub walk_with_lem : (m : Summed) → agrees m ≡ true → (reader o : ℕ) (scratch found pending : List ℕ)
    → collected_by reader (summed_seen reader m) o scratch found pending ≡ collected_by reader (store_seen reader m.store) o scratch found pending
walk_with_lem m h reader o scratch found pending = ap (λ (t : Table). collected_by reader t o scratch found pending) (seen_with m h reader)

-- after any series of commands it agrees, and the store is what it is without it
pub series_with : (m : Summed) (cs : List Sent) → agrees m ≡ true →
    (agrees (summed_all m cs) ≡ true) × ((summed_all m cs).store ≡ commanded_all m.store cs)
unfolding summed_all commanded_all sent_to
series_with m [] h = (h, refl)
series_with m (c ∷ cs) h =
    let left = (summed_command c.reader m c.namespaces c.line c.buffer).left in
    let w = series_with left cs (command_agrees m h c.reader c.namespaces c.line c.buffer) in
    (w.0, w.1 ∙ ap (λ (s : Store). commanded_all s cs) (store_with m h c.reader c.namespaces c.line c.buffer))

-- W7: names moved together leave it right
pub compaction_agrees : (m : Summed) → agrees m ≡ true → agrees (summed_compaction m).left ≡ true
unfolding summed_compaction
compaction_agrees m h = go (passes (summed_table m)) refl
  where
    go : (b : Bool) → passes (summed_table m) ≡ b
        → agrees (cond {A = SummedCompaction} b (record { number = 0; left = record { store = compacted m.store; summary = m.summary } })
        (record { number = 1; left = m })).left ≡ true
    go true e =
        let k = stays m.store (ap passes (sym (table_with m h)) ∙ e) in
        is_agrees (record { store = compacted m.store; summary = m.summary })
        (ap (λ (n : ℕ). take n m.summary) k.count ∙ agrees_is m h ∙ ap afresh (sym k.rows))
    go false e = h

-- counted first it agrees, whatever the store holds
pub counted_agrees : (s : Store) → s.count ≤ length s.records → agrees (counted_first s) ≡ true
unfolding counted_first filled_to
counted_agrees s h =
    is_agrees (counted_first s) (take_at (afresh (store_rows s)) (replicate (length s.records - length (afresh (store_rows s))) no_summary) s.count
    (afresh_length (store_rows s) ∙ rows_count s h))

-- no number is above that of the rows
keep_few : {A : Type 0} (p : A → Bool) (xs : List A) → length (keep p xs) ≤ length xs
unfolding keep
keep_few p [] = le_refl 0
keep_few p (x ∷ xs) = go (p x) (keep_few p xs)
  where
    go : (b : Bool) → length (keep p xs) ≤ length xs → length (cond b (x ∷ keep p xs) (keep p xs)) ≤ suc (length xs)
    go true h = omega (arith, h)
    go false h = omega (arith, h)

pub counts_few : (p : ℕ → Bool) (rs : List Row) (n : List ℕ) → count_below p rs n ≤ length rs
unfolding count_below
counts_few p rs n = keep_few (λ (r : Row). below n r.name && p r.flags) rs

-- "The server may use it": what is asked of the rows below a name is told by its numbers
some_counted : {A : Type 0} (p : A → Bool) (xs : List A) → any_of p xs ≡ ltb 0 (length (keep p xs))
unfolding any_of keep
some_counted p [] = refl
some_counted p (x ∷ xs) = go (p x) (some_counted p xs)
  where
    go : (b : Bool) → any_of p xs ≡ ltb 0 (length (keep p xs)) → (b || any_of p xs) ≡ ltb 0 (length (cond b (x ∷ keep p xs) (keep p xs)))
    go true e = sym (lt-ltb 0 (suc (length (keep p xs))) (omega arith))
    go false e = e

module _ (t : ℕ → Bool) (n : List ℕ) where
  abbrev local : ℕ → Bool
  local f = t f && not (remote f)

  abbrev distant : ℕ → Bool
  distant f = t f && remote f

  asked : Bool → Row → Bool
  asked s r = below n r.name && t r.flags && (not (remote r.flags) || s)

  split_asked : (rs : List Row) (s : Bool) → any_of (asked s) rs
      ≡ (any_of (λ (r : Row). below n r.name && (t r.flags && not (remote r.flags))) rs
      || (s && any_of (λ (r : Row). below n r.name && (t r.flags && remote r.flags)) rs))
  unfolding any_of asked
  split_asked [] s = sym (and-false s)
  split_asked (r ∷ rs) s = go (below n r.name) (t r.flags) (remote r.flags) s _ _ _ (split_asked rs s)
    where
      go : (b c d s x y z : Bool) → x ≡ (y || (s && z)) →
          (((b && c) && (not d || s)) || x) ≡ (((b && (c && not d)) || y) || (s && ((b && (c && d)) || z)))
      go true true false s x y z e = refl
      go true true true true x y z e = sym (or-true y)
      go true true true false x y z e = e
      go true false d s x y z e = e
      go false c d s x y z e = e

  by_counts : (rs : List Row) (s : Bool) → any_of (asked s) rs ≡ (ltb 0 (count_below local rs n) || (s && ltb 0 (count_below distant rs n)))
  unfolding count_below
  by_counts rs s =
      split_asked rs s
      ∙ (λ i. some_counted (λ (r : Row). below n r.name && local r.flags) rs i
      || (s && some_counted (λ (r : Row). below n r.name && distant r.flags) rs i))

pub children_told : (rs : List Row) (o : Options) (n : List ℕ)
    → has_children rs o n ≡ (ltb 0 (counted rs n).existing_local || (o.sel_remote && ltb 0 (counted rs n).existing_remote))
unfolding has_children counted is_existing_local is_existing_remote asked
children_told rs o n = by_counts exists n rs o.sel_remote

-- and CHILDINFO of SUBSCRIBED alone
subscribed_asked : (b x u m s w : Bool) → (b && (((x || true) && (not m || s)) && (not true || u) && (not false || w))) ≡ ((b && u) && (not m || s))
subscribed_asked false x u m s w = refl
subscribed_asked true true u m s w = go (not m || s) u
  where
    go : (y u : Bool) → ((true && y) && u && true) ≡ (u && y)
    go true true = refl
    go true false = refl
    go false true = refl
    go false false = refl
subscribed_asked true false u m s w = go (not m || s) u
  where
    go : (y u : Bool) → ((true && y) && u && true) ≡ (u && y)
    go true true = refl
    go true false = refl
    go false true = refl
    go false false = refl

pub childinfo_told : (rs : List Row) → ascends (names rs) ≡ true → (o : Options) (n : List ℕ) → o.sel_subscribed ≡ true → o.sel_special ≡ false
    → meets_below rs o n ≡ (ltb 0 (counted rs n).subscribed_local || (o.sel_remote && ltb 0 (counted rs n).subscribed_remote))
unfolding counted is_subscribed_local is_subscribed_remote asked meets_criteria
childinfo_told rs h o n e d =
    meets_below_rows rs h o n ∙ (λ i. any_of (λ (r : Row). test r i) rs) ∙ by_counts subscribed n rs o.sel_remote
  where
    test : (r : Row) → (below n r.name && meets_criteria o r.flags) ≡
        (below n r.name && subscribed r.flags && (not (remote r.flags) || o.sel_remote))
    test r =
        rw (e, d) (subscribed_asked (below n r.name) (exists r.flags) (subscribed r.flags) (remote r.flags) o.sel_remote
        (has_use r.flags))

-- whether a command changed a row: one that is refused did not, and else it depends on the rows alone
pub changes_refused : (s : Store) (p : Parsed) (k : ℕ) → changes s p (refusal k) ≡ false
unfolding changes
changes_refused s (refused j) k = refl
changes_refused s (namespace tag) k = refl
changes_refused s (listing tag o ps) k = refl
changes_refused s (root_of tag) k = refl
changes_refused s (subscriptions tag ps) k = refl
changes_refused s (editing tag (subscribe n)) k = refl
changes_refused s (editing tag (unsubscribe n)) k = refl

pub changes_read : (s : Store) (p : Parsed) (r : Reply) → is_edit p ≡ false → changes s p r ≡ false
unfolding changes is_edit
changes_read s (refused j) r h = refl
changes_read s (namespace tag) r h = refl
changes_read s (listing tag o ps) r h = refl
changes_read s (root_of tag) r h = refl
changes_read s (subscriptions tag ps) r h = refl
changes_read s (editing tag e) r h = absurd (false≢true (sym h))

pub changes_rows : (s t : Store) (p : Parsed) (r : Reply) → store_rows s ≡ store_rows t → changes s p r ≡ changes t p r
unfolding changes
changes_rows s t (refused j) r e = refl
changes_rows s t (namespace tag) r e = refl
changes_rows s t (listing tag o ps) r e = refl
changes_rows s t (root_of tag) r e = refl
changes_rows s t (subscriptions tag ps) r e = refl
changes_rows s t (editing tag (subscribe n)) (refusal k) e = refl
changes_rows s t (editing tag (unsubscribe n)) (refusal k) e = refl
changes_rows s t (editing tag (subscribe n)) (answered a) e = ap (λ (rs : List Row). not (subscribed (flags_of rs (spelled n)))) e
changes_rows s t (editing tag (unsubscribe n)) (answered a) e = ap (λ (rs : List Row). subscribed (flags_of rs (spelled n))) e
