-- The program's summary (W13): after any input it agrees with what counting afresh gives, and no answer depends on it. Rests on ProgramStore and
-- SummaryCommands.
use Rattle.listing_rules.proofs.Prelude.{◌∙◌, ◌≡◌, ap, refl, sym, Bool, ◌&&◌, cond, false, false≢true, true, List, [], ◌∷◌, ◌++◌, ◌+◌, ◌≤◌, ℕ}
use Rattle.listing_rules.proofs.Prelude.{arith, eqb, leb, length, length-append, length-replicate, replicate, leb-true}
use Rattle.listing_rules.specs.Bytes.{LF}
use Rattle.listing_rules.specs.Table.{Table, passes, packed_table}
use Rattle.listing_rules.specs.Readers.{is_reader, seen, packed_seen}
use Rattle.listing_rules.specs.Command.{is_edit, parsed}
use Rattle.listing_rules.specs.Subscriptions.{store_seen}
use Rattle.listing_rules.specs.Server.{refusal, is_answered, answer, unchanged_by, concluded, commanded_over}
use Rattle.listing_rules.specs.Summary.{Summed, agrees, SummedCommand, summed_over}
use Rattle.listing_rules.specs.Frames.{Kept, bytes, records, Frame, table_bytes, namespace_bytes, command, walk_with, bad_frame, read_frame, Stored}
use Rattle.listing_rules.specs.Frames.{Stepped, answering, refusal_line, add_row_to, add_row, add_entry, kept_seen, kept_summed, program_summed}
use Rattle.listing_rules.specs.Frames.{command_over, accepted, command_step, framed, step, Session, start, Fed, fed, behind, fed_all}
use Rattle.listing_rules.proofs.CommandLaws.{table_refused}
use Rattle.listing_rules.proofs.SummaryCommands.{seen_with, command_agrees}
use Rattle.listing_rules.proofs.ProgramStore.{program_agrees, command_over_bytes, command_over_records}

-- what is kept is no more than 16,384 packed bytes, or records whose summary agrees
abbrev pub KeptAgrees : Kept → Type 0
KeptAgrees (bytes t) = length t ≤ 16384
KeptAgrees (records m) = agrees m ≡ true

-- an answer to a command over packed bytes says that the table passes
answered_passes : (reader : ℕ) (t spaces l : List ℕ) → is_answered (command_over reader (bytes t) spaces l).reply ≡ true →
    passes (packed_table t) ≡ true
unfolding command_over summed_over kept_seen
answered_passes reader t spaces l a = go (passes (packed_table t)) refl
  where
    s : Summed
    s = kept_summed (bytes t)

    fails : passes (packed_table t) ≡ false → answer (packed_seen reader t) spaces l ≡ refusal 1
    fails e = table_refused (packed_seen reader t) spaces l (unfold packed_seen seen passes in rw e)

    by_reader : passes (packed_table t) ≡ false → (b : Bool) → is_reader reader ≡ b
        → is_answered (commanded_over reader s.store (packed_seen reader t) spaces l 16384).reply ≡ false
    by_reader e true r = unfold commanded_over concluded unchanged_by is_answered in rw (r, fails e)
    by_reader e false r = unfold commanded_over unchanged_by is_answered in rw r

    go : (b : Bool) → passes (packed_table t) ≡ b → b ≡ true
    go true e = refl
    go false e = absurd (false≢true (sym (by_reader e (is_reader reader) refl) ∙ a))

abbrev buffer : List ℕ
buffer = replicate 16384 0

size : length buffer ≡ 16384
size = length-replicate {A = ℕ} 16384 0

-- one command
command_keeps : (reader : ℕ) (k : Kept) (spaces l : List ℕ) → KeptAgrees k → is_answered (command_over reader k spaces l).reply ≡ true
    → agrees (command_over reader k spaces l).left ≡ true
unfolding kept_summed
command_keeps reader (bytes t) spaces l h a =
    ap (λ (c : SummedCommand). agrees c.left) (command_over_bytes reader t h (answered_passes reader t spaces l a) spaces l buffer size)
    ∙ command_agrees (program_summed t) (program_agrees t) reader spaces l buffer
command_keeps reader (records m) spaces l h a =
    ap (λ (c : SummedCommand). agrees c.left) (command_over_records reader m spaces l buffer size) ∙ command_agrees m h reader spaces l buffer

step_command : (s : Stored) (reader : ℕ) (l : List ℕ) → KeptAgrees s.table → KeptAgrees (command_step s reader l).stored.table
unfolding command_step accepted
step_command s reader l h = go (is_edit (parsed l)) (is_answered c.reply) refl
  where
    c : SummedCommand
    c = command_over reader s.table s.namespaces l

    go : (e b : Bool) → is_answered c.reply ≡ b → KeptAgrees (cond (e && b) (records c.left) s.table)
    go true true q = command_keeps reader s.table s.namespaces l h q
    go true false q = h
    go false b q = h

add_row_lem : (k : Kept) (spaces bs : List ℕ) → KeptAgrees k → KeptAgrees (add_row_to k spaces bs).stored.table
unfolding add_row_to answering
add_row_lem (records m) spaces bs h = h
add_row_lem (bytes t) spaces bs h = go (leb (length t + length bs) 16384) refl
  where
    go : (b : Bool) → leb (length t + length bs) 16384 ≡ b
        → KeptAgrees (cond b (answering (record { table = bytes (t ++ bs); namespaces = spaces }) [])
        (answering (record { table = bytes t; namespaces = spaces }) (refusal_line 1))).stored.table
    go true e = omega (arith, leb-true (length t + length bs) 16384 e, length-append t bs)
    go false e = h

add_entry_lem : (s : Stored) (bs : List ℕ) → KeptAgrees s.table → KeptAgrees (add_entry s bs).stored.table
unfolding add_entry answering
add_entry_lem s bs h = go (leb (length s.namespaces + length bs) 1024)
  where
    go : (b : Bool) → KeptAgrees (cond b (answering (record { table = s.table; namespaces = s.namespaces ++ bs }) [])
        (answering s (refusal_line 2))).stored.table
    go true = h
    go false = h

frame_keeps : (s : Stored) (f : Frame) → KeptAgrees s.table → KeptAgrees (framed s f).stored.table
unfolding framed answering add_row
frame_keeps s (table_bytes bs) h = add_row_lem s.table s.namespaces bs h
frame_keeps s (namespace_bytes bs) h = add_entry_lem s bs h
frame_keeps s (command reader l) h = step_command s reader l h
frame_keeps s (walk_with reader o) h = h
frame_keeps s bad_frame h = h

fed_keeps : (s : Session) (c : ℕ) → KeptAgrees s.stored.table → KeptAgrees (fed s c).session.stored.table
unfolding fed step
fed_keeps s c h = go (eqb c LF)
  where
    r : Stepped
    r = framed s.stored (read_frame s.partial)

    go : (b : Bool) → KeptAgrees (cond {A = Fed} b (record { session = record { stored = r.stored; partial = [] }; output = r.output })
        (record { session = record { stored = s.stored; partial = s.partial ++ (c ∷ []) }; output = [] })).session.stored.table
    go true = frame_keeps s.stored (read_frame s.partial) h
    go false = h

all_keeps : (s : Session) (input : List ℕ) → KeptAgrees s.stored.table → KeptAgrees (fed_all s input).session.stored.table
unfolding fed_all behind
all_keeps s [] h = h
all_keeps s (c ∷ t) h = all_keeps (fed s c).session t (fed_keeps s c h)

-- After any input the program's summary agrees.
pub program_keeps : (input : List ℕ) → KeptAgrees (fed_all start input).session.stored.table
unfolding start
program_keeps input = all_keeps start input (omega arith)

-- And so no answer depends on it: a command is answered, and a walk goes, over the table of the store alone.
pub answers_without : (reader : ℕ) (m : Summed) (spaces l : List ℕ) → KeptAgrees (records m)
    → (command_over reader (records m) spaces l).reply ≡ (commanded_over reader m.store (store_seen reader m.store) spaces l 16384).reply
unfolding command_over summed_over kept_seen kept_summed
answers_without reader m spaces l h =
    ap (λ (t : Table). (commanded_over reader m.store t spaces l 16384).reply) (seen_with m h reader)

pub walks_without : (reader : ℕ) (m : Summed) → KeptAgrees (records m) → kept_seen reader (records m) ≡ store_seen reader m.store
unfolding kept_seen
walks_without reader m h = seen_with m h reader
