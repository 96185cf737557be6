-- A summary beside the table (document 02, W13): four numbers for each record, what counting afresh gives, the check that grows by them, and
-- what an edit, a command and a compaction leave of them.
use Rattle.std.specs.Prelude.{List, [], ◌∷◌, ◌++◌, map, Bool, true, false, cond, ◌&&◌, not, eqb, length, take, drop, ℕ, suc, ◌+◌, ◌-◌}
use Rattle.std.proofs.Math.Option.{none}
use Rattle.listing_rules.specs.Lists.{keep, filled_to}
use Rattle.listing_rules.specs.Names.{below}
use Rattle.listing_rules.specs.Flags.{exists, subscribed, remote}
use Rattle.listing_rules.specs.Command.{Edit, subscribe, unsubscribe, Parsed, refused, namespace, listing, root_of, subscriptions, editing, parsed}
use Rattle.listing_rules.specs.Table.{Row, Table, rows, has_row, flags_of, passes}
use Rattle.listing_rules.specs.Subscriptions.{Store, store_table, store_seen, store_rows, spelled, rows_before, with_subscribed, without_subscribed}
use Rattle.listing_rules.specs.Server.{Reply, refusal, answered, commanded_over}
use Rattle.listing_rules.specs.Series.{Sent}
use Rattle.listing_rules.specs.Compaction.{compacted}

-- "Keep, for each record, four numbers of rows strictly below its name: subscribed local, subscribed remote, existing local, existing remote."
pub record Summary : Type 0 where
  pub subscribed_local : ℕ
  pub subscribed_remote : ℕ
  pub existing_local : ℕ
  pub existing_remote : ℕ

-- which rows each of them counts, by their flags
unfoldable pub is_subscribed_local : ℕ → Bool
is_subscribed_local f = subscribed f && not (remote f)

unfoldable pub is_subscribed_remote : ℕ → Bool
is_subscribed_remote f = subscribed f && remote f

unfoldable pub is_existing_local : ℕ → Bool
is_existing_local f = exists f && not (remote f)

unfoldable pub is_existing_remote : ℕ → Bool
is_existing_remote f = exists f && remote f

-- how many rows strictly below a name pass a test of their flags
unfoldable pub count_below : (ℕ → Bool) → List Row → List ℕ → ℕ
count_below p rs n = length (keep (λ r. below n r.name && p r.flags) rs)

-- "what counting afresh gives": for a name, and for each row
unfoldable pub counted : List Row → List ℕ → Summary
counted rs n =
    record {
      subscribed_local = count_below is_subscribed_local rs n;
      subscribed_remote = count_below is_subscribed_remote rs n;
      existing_local = count_below is_existing_local rs n;
      existing_remote = count_below is_existing_remote rs n;
    }

unfoldable pub afresh : List Row → List Summary
afresh rs = map (λ r. counted rs r.name) rs

-- a store with its summary: four numbers for each record, in the order of the records
pub record Summed : Type 0 where
  pub store : Store
  pub summary : List Summary

unfoldable pub same_summary : Summary → Summary → Bool
same_summary a b =
    eqb a.subscribed_local b.subscribed_local && eqb a.subscribed_remote b.subscribed_remote
    && eqb a.existing_local b.existing_local && eqb a.existing_remote b.existing_remote

unfoldable pub same_summaries : List Summary → List Summary → Bool
same_summaries [] [] = true
same_summaries [] (b ∷ bs) = false
same_summaries (a ∷ ms) [] = false
same_summaries (a ∷ ms) (b ∷ bs) = same_summary a b && same_summaries ms bs

-- whether the summary of the rows agrees with what counting afresh gives; that of spare records is not looked at
unfoldable pub agrees : Summed → Bool
agrees m = same_summaries (take m.store.count m.summary) (afresh (store_rows m.store))

-- "The table's check grows by the summary: one that disagrees is refusal 1": it holds no rows then.
unfoldable pub grown : Summed → Table → Table
grown m t = cond (agrees m) t none

unfoldable pub summed_table : Summed → Table
summed_table m = grown m (store_table m.store)

unfoldable pub summed_seen : ℕ → Summed → Table
summed_seen reader m = grown m (store_seen reader m.store)

-- a number once the flags of one row below are g and no longer f; a name without a row has flags 0, which no test passes
unfoldable pub one : Bool → ℕ
one b = cond b 1 0

unfoldable pub switched : (ℕ → Bool) → ℕ → ℕ → ℕ → ℕ
switched p f g k = k - one (p f) + one (p g)

unfoldable pub resummed : ℕ → ℕ → Summary → Summary
resummed f g m =
    record {
      subscribed_local = switched is_subscribed_local f g m.subscribed_local;
      subscribed_remote = switched is_subscribed_remote f g m.subscribed_remote;
      existing_local = switched is_existing_local f g m.existing_local;
      existing_remote = switched is_existing_remote f g m.existing_remote;
    }

-- "the affected ancestors only": the rows that the name lies below
unfoldable pub ancestors_resummed : ℕ → ℕ → List ℕ → List Row → List Summary → List Summary
ancestors_resummed f g n [] ms = ms
ancestors_resummed f g n (r ∷ rs) [] = []
ancestors_resummed f g n (r ∷ rs) (m ∷ ms) = cond (below r.name n) (resummed f g m) m ∷ ancestors_resummed f g n rs ms

-- four zeros, which the summary of a freed record becomes
unfoldable pub no_summary : Summary
no_summary = record { subscribed_local = 0; subscribed_remote = 0; existing_local = 0; existing_remote = 0 }

-- the summaries move as the records do: one put in at place k of the first `count`, over the first spare one; and number k of them taken out
unfoldable pub put_in : ℕ → ℕ → Summary → List Summary → List Summary
put_in count k m ms = take k ms ++ (m ∷ (drop k (take count ms) ++ drop (suc count) ms))

unfoldable pub taken_out : ℕ → ℕ → List Summary → List Summary
taken_out count k ms = take k ms ++ (drop (suc k) (take count ms) ++ (no_summary ∷ drop count ms))

-- "SUBSCRIBE and UNSUBSCRIBE keep it up to date in an inserted row and the affected ancestors only (beside W6's named row)". n is spelled.
unfoldable pub subscribing_sums : Summed → List ℕ → List Summary
subscribing_sums m n =
    let rs = store_rows m.store in
    let f = flags_of rs n in
    cond (has_row rs n)
    (ancestors_resummed f (with_subscribed f) n rs m.summary)
    (put_in m.store.count (rows_before rs n) (counted rs n) (ancestors_resummed 0 0x0002 n rs m.summary))

unfoldable pub unsubscribing_sums : Summed → List ℕ → List Summary
unsubscribing_sums m n =
    let rs = store_rows m.store in
    let f = flags_of rs n in
    cond (has_row rs n)
    (cond (eqb f 0x0002) (taken_out m.store.count (rows_before rs n) (ancestors_resummed 0x0002 0 n rs m.summary))
    (ancestors_resummed f (without_subscribed f) n rs m.summary))
    m.summary

-- an edit that is accepted
unfoldable pub sums_edited : Summed → Edit → List Summary
sums_edited m (subscribe n) = subscribing_sums m (spelled n)
sums_edited m (unsubscribe n) = unsubscribing_sums m (spelled n)

-- what a command leaves of it: only an edit that is answered changes it
unfoldable pub sums_after : Summed → Parsed → Reply → List Summary
sums_after m (editing tag e) (answered a) = sums_edited m e
sums_after m (editing tag e) (refusal k) = m.summary
sums_after m (refused k) r = m.summary
sums_after m (namespace tag) r = m.summary
sums_after m (listing tag o ps) r = m.summary
sums_after m (root_of tag) r = m.summary
sums_after m (subscriptions tag ps) r = m.summary

-- what a command comes to: its reply, and the store with its summary that it leaves
pub record SummedCommand : Type 0 where
  pub reply : Reply
  pub left : Summed

-- A reader's command over a store with its summary, and over the table that the reader sees of it: the namespace list, the line, and the size of
-- the answer buffer.
unfoldable pub summed_over : ℕ → Summed → Table → List ℕ → List ℕ → ℕ → SummedCommand
summed_over reader m table spaces l room =
    let c = commanded_over reader m.store table spaces l room in
    record { reply = c.reply; left = record { store = c.store; summary = sums_after m (parsed l) c.reply } }

-- one command: its reader, the namespace list, the line, and the answer buffer as it was lent
unfoldable pub summed_command : ℕ → Summed → List ℕ → List ℕ → List ℕ → SummedCommand
summed_command reader m spaces l buffer = summed_over reader m (summed_seen reader m) spaces l (length buffer)

-- a series of commands, each over what the one before left
unfoldable pub summed_all : Summed → List Sent → Summed
summed_all m [] = m
summed_all m (c ∷ cs) = summed_all (summed_command c.reader m c.namespaces c.line c.buffer).left cs

-- names moved together (W7): the summary stays
pub record SummedCompaction : Type 0 where
  pub number : ℕ
  pub left : Summed

unfoldable pub summed_compaction : Summed → SummedCompaction
summed_compaction m =
    cond (passes (summed_table m)) (record { number = 0; left = record { store = compacted m.store; summary = m.summary } })
    (record { number = 1; left = m })

-- a store whose summary is counted first, four zeros for each spare record
unfoldable pub counted_first : Store → Summed
counted_first s = record { store = s; summary = filled_to (length s.records) no_summary (afresh (store_rows s)) }

-- A caller's first summary: of a table that passes without one, the summaries of its rows, counted afresh, and those after them stay; of another, 1, and
-- all stay.
pub record Summarized : Type 0 where
  pub number : ℕ
  pub summary : List Summary

unfoldable pub summarized : Table → List Summary → Summarized
summarized t ms =
    cond (passes t) (record { number = 0; summary = afresh (rows t) ++ drop (length (rows t)) ms }) (record { number = 1; summary = ms })
