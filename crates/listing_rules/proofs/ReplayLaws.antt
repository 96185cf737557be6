-- W14: "A log of our own program's commands and answers, from the same table laid out as W6's program keeps it and the same list, no row or entry added
-- meanwhile, always agrees." Rests on ReplayFrames, ProgramSums and ProgramUnsound.
use Rattle.listing_rules.proofs.Prelude.{◌∙◌, ◌≡◌, ap, refl, subst, sym, Bool, ◌&&◌, and-false, cond, false, false≢true, true, none, List, []}
use Rattle.listing_rules.proofs.Prelude.{◌∷◌, ◌++◌, ◌≤◌, ℕ, suc, eqb, leb, length, length-replicate, replicate, eq-eqb}
use Rattle.listing_rules.specs.Bytes.{LF}
use Rattle.listing_rules.specs.Table.{Table, passes, packed_table}
use Rattle.listing_rules.specs.Readers.{is_reader, packed_seen}
use Rattle.listing_rules.specs.Command.{is_edit, parsed}
use Rattle.listing_rules.specs.Subscriptions.{Store, store_table, Edited, denied, stored as made}
use Rattle.listing_rules.specs.Server.{Reply, refusal, answered, is_answered, answer, Commanded, attempted, unchanged_by, concluded}
use Rattle.listing_rules.specs.Server.{commanded_over}
use Rattle.listing_rules.specs.Summary.{Summed, SummedCommand, sums_after, summed_over, summed_command, counted_first}
use Rattle.listing_rules.specs.Walk.{lines_of}
use Rattle.listing_rules.specs.Frames.{Frame, table_bytes, namespace_bytes, command, walk_with, bad_frame, read_frame, reply_line, Kept, bytes}
use Rattle.listing_rules.specs.Frames.{records, kept_seen, kept_summed, Stored, Stepped, command_over, accepted, command_step, framed, step}
use Rattle.listing_rules.specs.Frames.{Session, Fed, fed, behind, fed_all, start, program_summed}
use Rattle.listing_rules.specs.Replay.{asked, recorded, logged_frames, all_agree, Replayed, reporting, first_of, same_reply, noted, rerun}
use Rattle.listing_rules.specs.Replay.{replay_from, replay, is_command, logging, session_log, NoneAdded}
use Rattle.listing_rules.proofs.ListLaws.{same_refl}
use Rattle.listing_rules.proofs.CommandLaws.{attempted_reads, table_refused}
use Rattle.listing_rules.proofs.ReaderLaws.{packed_seen_passes}
use Rattle.listing_rules.proofs.SummaryCommands.{refused_sums, read_sums, refused_with_lem, untouched, unsound_summed, stranger_summed}
use Rattle.listing_rules.proofs.ProgramStore.{command_over_bytes, command_over_records}
use Rattle.listing_rules.proofs.ProgramSums.{KeptAgrees, program_keeps}
use Rattle.listing_rules.proofs.ProgramUnsound.{program_unsound}
use Rattle.listing_rules.proofs.AnswerBytes.{Loggable, command_loggable}
use Rattle.listing_rules.proofs.ReplayFrames.{exchange_frames}

buffer : List ℕ
buffer = replicate 16384 0

buffer_long : length buffer ≡ 16384
unfolding buffer
buffer_long = length-replicate {A = ℕ} 16384 0

-- what is kept after a command
abbrev pub kept_after : Kept → List ℕ → ℕ → List ℕ → Kept
kept_after k spaces reader l = let c = command_over reader k spaces l in cond (accepted (parsed l) c.reply) (records c.left) k

-- what a command answers can be logged
loggable : (k : Kept) (spaces : List ℕ) (reader : ℕ) (l : List ℕ) → Loggable (command_over reader k spaces l).reply
unfolding command_over summed_over
loggable k spaces reader l = command_loggable reader (kept_summed k).store (kept_seen reader k) spaces l

-- A command that is no accepted edit leaves the store and its summary, over whatever table it is answered.
module _ (reader : ℕ) (m : Summed) (t : Table) (spaces l : List ℕ) (room : ℕ) where
  abbrev ran : Commanded
  ran = commanded_over reader m.store t spaces l room

  store_left : accepted (parsed l) ran.reply ≡ false → ran.store ≡ m.store
  unfolding commanded_over unchanged_by accepted
  store_left h = by_reader (is_reader reader) h
    where
      ended : Reply → Edited → Commanded
      ended r x = concluded m.store room x r

      by_room : (u : Store) (a : List ℕ) → attempted reader m.store (parsed l) ≡ made u → (b : Bool)
          → (is_edit (parsed l) && is_answered (cond {A = Commanded} b (record { reply = answered a; store = u })
          (record { reply = refusal 9; store = m.store })).reply) ≡ false
          → (cond {A = Commanded} b (record { reply = answered a; store = u }) (record { reply = refusal 9; store = m.store })).store ≡ m.store
      by_room u a e false h = refl
      by_room u a e true h = made_same (sym e ∙ attempted_reads reader m.store (parsed l) (no_edit (is_edit (parsed l)) h))
        where
          no_edit : (i : Bool) → (i && is_answered (answered a)) ≡ false → i ≡ false
          no_edit true g = unfold is_answered in g
          no_edit false g = refl

          store_in : Edited → Store
          store_in (made v) = v
          store_in (denied k) = m.store

          made_same : made u ≡ made m.store → u ≡ m.store
          made_same q = ap store_in q

      by_reply : (r : Reply) (x : Edited) → attempted reader m.store (parsed l) ≡ x
          → (is_edit (parsed l) && is_answered (ended r x).reply) ≡ false → (ended r x).store ≡ m.store
      by_reply (refusal k) x e h = unfold concluded unchanged_by in refl
      by_reply (answered a) (denied k) e h = unfold concluded unchanged_by in refl
      by_reply (answered a) (made u) e h = unfold concluded unchanged_by in by_room u a e (leb (length a) room) h

      by_reader : (b : Bool)
          → (is_edit (parsed l) && is_answered (cond {A = Commanded} b (ended (answer t spaces l) (attempted reader m.store (parsed l)))
          (unchanged_by m.store 16)).reply) ≡ false
          → (cond {A = Commanded} b (ended (answer t spaces l) (attempted reader m.store (parsed l))) (unchanged_by m.store 16)).store ≡ m.store
      by_reader true h = by_reply (answer t spaces l) (attempted reader m.store (parsed l)) refl h
      by_reader false h = unfold unchanged_by in refl

  sums_left : accepted (parsed l) ran.reply ≡ false → sums_after m (parsed l) ran.reply ≡ m.summary
  unfolding accepted
  sums_left h = go (is_edit (parsed l)) refl ran.reply h
    where
      go : (i : Bool) → is_edit (parsed l) ≡ i → (r : Reply) → (i && is_answered r) ≡ false → sums_after m (parsed l) r ≡ m.summary
      go false e r h = read_sums m (parsed l) r e
      go true e (refusal k) h = refused_sums m (parsed l) k
      go true e (answered a) h = absurd (false≢true (unfold is_answered in sym h))

  pub not_accepted_leaves : accepted (parsed l) (summed_over reader m t spaces l room).reply ≡ false → (summed_over reader m t spaces l room).left ≡ m
  unfolding summed_over
  not_accepted_leaves h = λ i. record { store = store_left h i; summary = sums_left h i }

-- The program's commands, run again over the store that its table is laid out to: 16,384 packed bytes that pass, or any records.
abbrev pub Ready : Kept → Type 0
Ready (bytes t) = (length t ≤ 16384) × (passes (packed_table t) ≡ true)
Ready (records m) = Unit {0}

run_as : (k : Kept) → Ready k → (spaces : List ℕ) (reader : ℕ) (l : List ℕ) →
    command_over reader k spaces l ≡ summed_command reader (kept_summed k) spaces l buffer
run_as (bytes t) h spaces reader l = command_over_bytes reader t h.0 h.1 spaces l buffer buffer_long
run_as (records m) h spaces reader l = unfold kept_summed in command_over_records reader m spaces l buffer buffer_long

pub rerun_as : (k : Kept) → Ready k → (spaces : List ℕ) (reader : ℕ) (l : List ℕ) → rerun spaces (kept_summed k) reader l ≡ command_over reader k spaces l
unfolding rerun
rerun_as k h spaces reader l = command_over_records reader (kept_summed k) spaces l buffer buffer_long ∙ sym (run_as k h spaces reader l)

-- what is kept after a command is what the command leaves
module _ (k : Kept) (spaces : List ℕ) (reader : ℕ) (l : List ℕ) where
  abbrev done : SummedCommand
  done = command_over reader k spaces l

  pub kept_left : kept_summed (kept_after k spaces reader l) ≡ done.left
  kept_left = go (accepted (parsed l) done.reply) refl
    where
      stays : accepted (parsed l) done.reply ≡ false → done.left ≡ kept_summed k
      stays e = unfold command_over in not_accepted_leaves reader (kept_summed k) (kept_seen reader k) spaces l 16384 e

      go : (b : Bool) → accepted (parsed l) done.reply ≡ b → kept_summed (cond b (records done.left) k) ≡ done.left
      go true e = unfold kept_summed in refl
      go false e = sym (stays e)

  pub kept_ready : Ready k → Ready (kept_after k spaces reader l)
  kept_ready h = go (accepted (parsed l) done.reply)
    where
      go : (b : Bool) → Ready (cond b (records done.left) k)
      go true = tt
      go false = h

same_itself : (r : Reply) → same_reply r r ≡ true
unfolding same_reply
same_itself (refusal k) = eq-eqb k k refl
same_itself (answered a) = same_refl a

-- What a replay needs of the table that the program keeps and the store with its summary that it runs over: a command is answered alike over both, and what it leaves
-- is alike again.
pub record Alike (I : Kept → Summed → Type 0) : Type 0 where
  pub reply : (k : Kept) (s : Summed) → I k s → (spaces : List ℕ) (reader : ℕ) (l : List ℕ) →
      (rerun spaces s reader l).reply ≡ (command_over reader k spaces l).reply
  pub left : (k : Kept) (s : Summed) → I k s → (spaces : List ℕ) (reader : ℕ) (l : List ℕ) → I (kept_after k spaces reader l) (rerun spaces s reader l).left

module _ (I : Kept → Summed → Type 0) (A : Alike I) where
  -- One exchange of a log: the command is run, its reply is the recorded one, and the replay goes on.
  exchange_agrees : (k : Kept) (s : Summed) → I k s → (spaces : List ℕ) (number reader : ℕ) (f l rest : List ℕ) → read_frame f ≡ command reader l
      → replay_from spaces number none s (logged_frames ((f ++ (10 ∷ reply_line (command_over reader k spaces l).reply)) ++ rest))
      ≡ replay_from spaces (suc (suc number)) none (rerun spaces s reader l).left (logged_frames rest)
  exchange_agrees k s h spaces number reader f l rest e =
      ap (replay_from spaces number none s) (exchange_frames f reader l (command_over reader k spaces l).reply rest e (loggable k spaces reader l))
      ∙ one
    where
      one : replay_from spaces number none s (asked reader l ∷ recorded (command_over reader k spaces l).reply ∷ logged_frames rest)
          ≡ replay_from spaces (suc (suc number)) none (rerun spaces s reader l).left (logged_frames rest)
      one = unfold replay_from noted in
          ap (λ (b : Bool). replay_from spaces (suc (suc number)) (noted number b none) (rerun spaces s reader l).left (logged_frames rest))
          (ap (λ (r : Reply). same_reply (command_over reader k spaces l).reply r) (A.reply k s h spaces reader l) ∙ same_itself
          (command_over reader k spaces l).reply)

-- a frame that is a command, by its reading
frame_command : (x : Frame) → is_command x ≡ true → (r : ℕ) × (l : List ℕ) × (x ≡ command r l)
unfolding is_command
frame_command (command r l) e = (r, l, refl)
frame_command (table_bytes bs) e = absurd (false≢true e)
frame_command (namespace_bytes bs) e = absurd (false≢true e)
frame_command (walk_with r o) e = absurd (false≢true e)
frame_command bad_frame e = absurd (false≢true e)

step_command : (s : Stored) (f : List ℕ) (r : ℕ) (l : List ℕ) → read_frame f ≡ command r l → step s f ≡ command_step s r l
unfolding step framed
step_command s f r l e = ap (framed s) e

-- what a byte leaves stored: at a LF, what the frame leaves
fed_leaves : (s : Session) (c : ℕ) (b : Bool) → eqb c LF ≡ b → (fed s c).session.stored ≡ cond b (step s.stored s.partial).stored s.stored
unfolding fed
fed_leaves s c b e = ap (λ (x : Bool). (after x).session.stored) e ∙ go b
  where
    after : Bool → Fed
    after x =
        cond x (record { session = record { stored = (step s.stored s.partial).stored; partial = [] }; output = (step s.stored s.partial).output })
        (record { session = record { stored = s.stored; partial = s.partial ++ (c ∷ []) }; output = [] })

    go : (x : Bool) → (after x).session.stored ≡ cond x (step s.stored s.partial).stored s.stored
    go true = refl
    go false = refl

-- a replay that agrees, over a store alike to what is kept in the end
abbrev Agrees : (Kept → Summed → Type 0) → Kept → Replayed → Type 0
Agrees I k r = (s : Summed) × (r ≡ reporting all_agree s) × I k s

-- The whole log, from any session.
module _ (I : Kept → Summed → Type 0) (A : Alike I) where
  log_agrees : (s : Session) (input : List ℕ) (number : ℕ) (v : Summed) → I s.stored.table v → NoneAdded s input
      → Agrees I (fed_all s input).session.stored.table (replay_from s.stored.namespaces number none v (logged_frames (session_log s input)))
  log_agrees s [] number v h u = (v, unfold session_log logged_frames lines_of replay_from first_of in refl, unfold fed_all in h)
  log_agrees s (c ∷ t) number v h u = pick (eqb c LF) refl (λ x n y i j. log_agrees x t n y i j)
    where
      Later : Type 0
      Later = (x : Session) (n : ℕ) (y : Summed) → I x.stored.table y → NoneAdded x t
          → Agrees I (fed_all x t).session.stored.table (replay_from x.stored.namespaces n none y (logged_frames (session_log x t)))

      -- the session after the byte
      next : Session
      next = (fed s c).session

      Goal : List ℕ → Type 0
      Goal here = Agrees I (fed_all next t).session.stored.table (replay_from s.stored.namespaces number none v (logged_frames (here ++ session_log next t)))

      -- where what is stored stays, nothing is logged
      quiet : Later → next.stored ≡ s.stored → Goal []
      quiet later e =
          subst (λ (x : Stored). Agrees I (fed_all next t).session.stored.table
          (replay_from x.namespaces number none v (logged_frames (session_log next t)))) e
          (later next number v (subst (λ (x : Stored). I x.table v) (sym e) h) u.1)

      spoken : Later → (r : ℕ) (l : List ℕ) → read_frame s.partial ≡ command r l → next.stored ≡ (command_step s.stored r l).stored
          → Goal (s.partial ++ (10 ∷ reply_line (command_over r s.stored.table s.stored.namespaces l).reply))
      spoken later r l e q =
          let x = later next (suc (suc number)) (rerun s.stored.namespaces v r l).left
          (subst (λ (y : Stored). I y.table (rerun s.stored.namespaces v r l).left) (sym (q ∙ came))
          (A.left s.stored.table v h s.stored.namespaces r l)) u.1 in (
            x.0,
            exchange_agrees I A s.stored.table v h s.stored.namespaces number r s.partial l (session_log next t) e
                ∙ ap (λ (y : Stored). replay_from y.namespaces (suc (suc number)) none (rerun s.stored.namespaces v r l).left
                (logged_frames (session_log next t))) (sym (q ∙ came))
                ∙ x.1,
            x.2,
          )
        where
          came : (command_step s.stored r l).stored ≡ record
              { table = kept_after s.stored.table s.stored.namespaces r l; namespaces = s.stored.namespaces }
          came = unfold command_step in refl

      pick : (b : Bool) → eqb c LF ≡ b → Later
          → Agrees I (fed_all s (c ∷ t)).session.stored.table (replay_from s.stored.namespaces number none v (logged_frames (session_log s (c ∷ t))))
      pick true e later =
          unfold session_log fed_all behind in subst (λ (b : Bool). Goal (cond b (logging s.stored s.partial) [])) (sym e)
          (by_frame (is_command (read_frame s.partial)) refl)
        where
          stepped : next.stored ≡ (step s.stored s.partial).stored
          stepped = fed_leaves s c true e

          by_frame : (b : Bool) → is_command (read_frame s.partial) ≡ b → Goal (logging s.stored s.partial)
          by_frame true i =
              let w = frame_command (read_frame s.partial) i in
              let p = step_command s.stored s.partial w.0 w.1 w.2 in
              unfold logging in subst (λ (b : Bool). Goal (cond b (s.partial ++ (LF ∷ (step s.stored s.partial).output)) [])) (sym i)
              (subst (λ (x : Stepped). Goal (s.partial ++ (LF ∷ x.output))) (sym p)
              (unfold command_step in spoken later w.0 w.1 w.2 (stepped ∙ ap (λ (x : Stepped). x.stored) p)))
          by_frame false i =
              unfold logging in subst (λ (b : Bool). Goal (cond b (s.partial ++ (LF ∷ (step s.stored s.partial).output)) [])) (sym i)
              (quiet later (stepped ∙ u.0 e i))
      pick false e later =
          unfold session_log fed_all behind in subst (λ (b : Bool). Goal (cond b (logging s.stored s.partial) [])) (sym e)
          (quiet later (fed_leaves s c false e))

-- A table that passes: the replay runs over the store with its summary that the table is laid out to.
abbrev LaidOut : Kept → Summed → Type 0
LaidOut k m = Ready k × (m ≡ kept_summed k)

laid_out_lem : Alike LaidOut
laid_out_lem =
    record {
      reply = λ k m h spaces reader l.
          ap (λ (x : Summed). (rerun spaces x reader l).reply) h.1 ∙ ap (λ (c : SummedCommand). c.reply) (rerun_as k h.0 spaces reader l);
      left = λ k m h spaces reader l. (
        kept_ready k spaces reader l h.0,
        ap (λ (x : Summed). (rerun spaces x reader l).left) h.1 ∙ ap (λ (c : SummedCommand). c.left) (rerun_as k h.0 spaces reader l)
            ∙ sym (kept_left k spaces reader l),
      );
    }

-- "A log of our own program's commands and answers, from the same table laid out as W6's program keeps it and the same list, .. always agrees", and the
-- table at the end is the program's, with its summary
pub own_log_agrees : (s : Session) (input : List ℕ) → Ready s.stored.table → NoneAdded s input
    → replay (kept_summed s.stored.table) s.stored.namespaces (session_log s input)
    ≡ reporting all_agree (kept_summed (fed_all s input).session.stored.table)
unfolding replay
own_log_agrees s input h u =
    let w = log_agrees LaidOut laid_out_lem s input 1 (kept_summed s.stored.table) (h, refl) u in
    w.1 ∙ ap (reporting all_agree) w.2.1

-- A table that does not pass, which the program never lays out: every command is refused with 1 or 16, over any store that does not pass either, and
-- that one is left as it is.
module _ (t : List ℕ) (h : passes (packed_table t) ≡ false) where
  over_bytes : (spaces : List ℕ) (reader : ℕ) (l : List ℕ)
      → command_over reader (bytes t) spaces l ≡ untouched (kept_summed (bytes t)) (cond (is_reader reader) 1 16)
  unfolding command_over summed_over kept_seen
  over_bytes spaces reader l =
      refused_with_lem (kept_summed (bytes t)) (parsed l) (commanded_over reader (kept_summed (bytes t)).store (packed_seen reader t) spaces l 16384)
      (cond (is_reader reader) 1 16) (went (is_reader reader) refl)
    where
      went : (b : Bool) → is_reader reader ≡ b
          → commanded_over reader (kept_summed (bytes t)).store (packed_seen reader t) spaces l 16384 ≡ unchanged_by (kept_summed (bytes t)).store (cond b 1 16)
      went true e = unfold commanded_over concluded in rw (e, table_refused (packed_seen reader t) spaces l (packed_seen_passes reader t ∙ h))
      went false e = unfold commanded_over in rw e

  over_store : (m : Summed) → passes (store_table m.store) ≡ false → (spaces : List ℕ) (reader : ℕ) (l : List ℕ) (b : Bool) → is_reader reader ≡ b
      → rerun spaces m reader l ≡ untouched m (cond b 1 16)
  unfolding rerun
  over_store m g spaces reader l true e = command_over_records reader m spaces l buffer buffer_long ∙ unsound_summed reader m spaces l buffer e g
  over_store m g spaces reader l false e = command_over_records reader m spaces l buffer buffer_long ∙ stranger_summed reader m spaces l buffer e

  bytes_stay : (spaces : List ℕ) (reader : ℕ) (l : List ℕ) → kept_after (bytes t) spaces reader l ≡ bytes t
  bytes_stay spaces reader l = ap (λ (b : Bool). cond b (records (command_over reader (bytes t) spaces l).left) (bytes t)) not_accepted
    where
      not_accepted : accepted (parsed l) (command_over reader (bytes t) spaces l).reply ≡ false
      not_accepted = unfold accepted is_answered in rw (over_bytes spaces reader l) (and-false (is_edit (parsed l)))

  abbrev Unsound : Summed → Kept → Summed → Type 0
  Unsound v k m = (k ≡ bytes t) × (passes (store_table m.store) ≡ false) × (m ≡ v)

  unsound : (v : Summed) → Alike (Unsound v)
  unsound v =
      record {
        reply = λ k m x spaces reader l.
            ap (λ (c : SummedCommand). c.reply) (over_store m x.1 spaces reader l (is_reader reader) refl)
            ∙ sym (ap (λ (y : Kept). (command_over reader y spaces l).reply) x.0 ∙ ap (λ (c : SummedCommand). c.reply) (over_bytes spaces reader l));
        left = λ k m x spaces reader l. (
          ap (λ (y : Kept). kept_after y spaces reader l) x.0 ∙ bytes_stay spaces reader l,
          ap (λ (c : SummedCommand). passes (store_table c.left.store)) (over_store m x.1 spaces reader l (is_reader reader) refl) ∙ x.1,
          ap (λ (c : SummedCommand). c.left) (over_store m x.1 spaces reader l (is_reader reader) refl) ∙ x.2,
        );
      }

  -- over any store that does not pass, with any summary; the program keeps its bytes
  pub unsound_log_agrees : (s : Session) (input : List ℕ) (v : Summed) → s.stored.table ≡ bytes t → passes (store_table v.store) ≡ false
      → NoneAdded s input
      → (replay v s.stored.namespaces (session_log s input) ≡ reporting all_agree v) × ((fed_all s input).session.stored.table ≡ bytes t)
  unfolding replay
  unsound_log_agrees s input v e g u =
      let w = log_agrees (Unsound v) (unsound v) s input 1 v (e, g, refl) u in
      (w.1 ∙ ap (reporting all_agree) w.2.2, w.2.0)

-- "always agrees": from any session that keeps no more than 16,384 packed bytes, or records, passing or not
pub always_agrees : (s : Session) (input : List ℕ) → KeptAgrees s.stored.table → NoneAdded s input
    → replay (kept_summed s.stored.table) s.stored.namespaces (session_log s input)
    ≡ reporting all_agree (kept_summed (fed_all s input).session.stored.table)
always_agrees s input k u = go s.stored.table refl k
  where
    Agreed : Kept → Type 0
    Agreed x = replay (kept_summed x) s.stored.namespaces (session_log s input) ≡ reporting all_agree (kept_summed (fed_all s input).session.stored.table)

    sound : (x : Kept) → s.stored.table ≡ x → Ready x → Agreed x
    sound x e r =
        subst Agreed e (own_log_agrees s input (subst Ready (sym e) r) u)

    by_pass : (t : List ℕ) → s.stored.table ≡ bytes t → length t ≤ 16384 → (b : Bool) → passes (packed_table t) ≡ b → Agreed (bytes t)
    by_pass t e small true p = sound (bytes t) e (small, p)
    by_pass t e small false p =
        let w = unsound_log_agrees t p s input (kept_summed (bytes t)) e (unfold kept_summed program_summed counted_first in program_unsound t small p) u in
        w.0 ∙ ap (λ (x : Kept). reporting all_agree (kept_summed x)) (sym w.1)

    go : (x : Kept) → s.stored.table ≡ x → KeptAgrees x → Agreed x
    go (bytes t) e small = by_pass t e small (passes (packed_table t)) refl
    go (records m) e agree = sound (records m) e tt

-- and so of the program itself, whatever was fed to it first: a log of what it then answers agrees from the table and the list that it had
pub program_log_agrees : (before input : List ℕ) → NoneAdded (fed_all start before).session input
    → replay (kept_summed (fed_all start before).session.stored.table) (fed_all start before).session.stored.namespaces
    (session_log (fed_all start before).session input)
    ≡ reporting all_agree (kept_summed (fed_all (fed_all start before).session input).session.stored.table)
program_log_agrees before input u = always_agrees (fed_all start before).session input (program_keeps before) u
