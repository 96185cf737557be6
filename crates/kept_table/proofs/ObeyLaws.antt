-- Laws of commands: the line of the server's answer, what document 02 has a command leave of what is kept, and the memory that holds it.
-- Rests on LentLaws and on listing_rules' CommandLaws, SummaryCommands and ProgramStore.
use Rattle.std.specs.Prelude.{Result, Ok, Err}
use Rattle.std.specs.Result.{is_err}
use Rattle.octets.specs.declared.refusals.Refusal.{Refusal}
use Rattle.listing_rules.proofs.Prelude.{◌∙◌, ◌≡◌, ap, refl, subst, sym, Bool, and-false, cond, false, false≢true, true, List, [], ◌++◌, ◌∷◌}
use Rattle.listing_rules.proofs.Prelude.{append-nil, map, min, ◌+◌, ◌<◌, ◌≤◌, ℕ, arith, drop, drop_of_length-le, length, length-append, length-map}
use Rattle.listing_rules.proofs.Prelude.{length-take, take, drop_at, length-take-le, sets, sets-eq, take_all, take_at, take-take, le-leb, lt-leb}
use Rattle.listing_rules.specs.Table.{Table, passes, packed_table}
use Rattle.listing_rules.specs.Readers.{is_reader, packed_seen}
use Rattle.listing_rules.specs.Command.{Parsed, refused, namespace, listing, root_of, subscriptions, editing, is_edit, parsed}
use Rattle.listing_rules.specs.Subscriptions.{Store, store_table}
use Rattle.listing_rules.specs.Server.{Reply, refusal, answered, is_answered, limited, answer, served, from_reader, served_to, buffer_after, Commanded}
use Rattle.listing_rules.specs.Server.{unchanged_by, concluded, commanded_over, commanded}
use Rattle.listing_rules.specs.Summary.{Summed, agrees, sums_after, summed_seen, summed_over, SummedCommand, summed_command, counted_first}
use Rattle.listing_rules.specs.Frames.{Kept, bytes, records, Stored, Stepped, answering, answer_line, refusal_line, reply_line, program_store}
use Rattle.listing_rules.specs.Frames.{program_summed, kept_seen, kept_summed, command_over, accepted, command_step}
use Rattle.listing_rules.proofs.EditPasses.{store_parts}
use Rattle.listing_rules.proofs.ProgramStore.{program_store_seen, program_agrees, command_over_bytes, command_over_records}
use Rattle.listing_rules.proofs.SummaryCommands.{untouched, refused_sums, read_sums, stranger_summed, disagrees_refused, summed_as, reply_with}
use Rattle.listing_rules.proofs.SummaryCommands.{store_with}
use Rattle.listing_rules.proofs.CommandLaws.{refused_leaves, read_leaves, read_answered, table_refused, unsound_ends, command_passes}
use Rattle.listing_rules.proofs.ReaderLaws.{packed_seen_passes}
use Rattle.listing_rules.proofs.ReplayLaws.{not_accepted_leaves}
use Rattle.octets.specs.Put.{Put}
use Rattle.octets.specs.Refusals.{number_of, numbered}
use Rattle.octets.specs.Written.{written_is}
use Rattle.records.specs.Words.{record_of, cell_of}
use Rattle.records.specs.Numbers.{summary_word, summary_of}
use Rattle.records.specs.Lent.{word_store, lent_of, word_summed}
use Rattle.summary.proofs.AgreeLaws.{word_of_told}
use Rattle.server.specs.declared.Stored.{Stored as Answered}
use Rattle.server.specs.Answering.{memory, words_left, Answers}
use Rattle.kept_table.specs.declared.Lengths.{Lengths}
use Rattle.kept_table.specs.declared.outcome.Outcome.{Outcome}
use Rattle.kept_table.specs.Kept.{Lent, lent, summed_in, numbers_with, kept_as, kept_in, stored_in, Within, is_within, lengths_is, outcome_is, Says, Carries}
use Rattle.kept_table.specs.Commanding.{command_line, written_line, answer_length, Fits, cells_of, numbers_after, Obeys, ObeysLent}
use Rattle.kept_table.proofs.LentLaws.{length_line, says, says_refusal, whole_area, with_words, with_sums_lem, with_rest_lem, with_over, whole_numbers, carries_said}

-- The line of an answer that lies in its buffer.
module _ {w : Result ℕ ℕ} {a : List ℕ} (f : Fits w a) where
  pub answer_size_lem : (n : ℕ) → w ≡ Ok n → n ≡ length (take n a)
  unfolding answer_length
  answer_size_lem n e = sym (length-take-le n a (rw e at f.inside))

  pub answer_says : (n : ℕ) (o p : List ℕ) (r : ℕ) → w ≡ Ok n → Put o p 0 (answer_line (0x41 ∷ take n a)) r → Says (written_line w a) o p r
  unfolding written_line
  answer_says n o p r e put = rw e (says (omega (arith, length_line (0x41 ∷ take n a), length-take n a, f.small)) put)

  pub refusal_says : (k : ℕ) (o p : List ℕ) (r : ℕ) → w ≡ Err k → Put o p 0 (refusal_line k) r → Says (written_line w a) o p r
  unfolding written_line
  refusal_says k o p r e put = rw e (says_refusal k put)

-- The server's answer `w` in the buffer `a`, which was `b`, is the reply r.
reply_line_lem : (r : Reply) {w : Result ℕ ℕ} (b a : List ℕ) → w ≡ written_is r → a ≡ buffer_after b r → written_line w a ≡ reply_line r
unfolding written_line written_is reply_line buffer_after
reply_line_lem r b a e m = ap (λ (w : Result ℕ ℕ). written_line w a) e ∙ go r m
  where
    go : (r : Reply) → a ≡ buffer_after b r → written_line (written_is r) a ≡ reply_line r
    go (refusal k) m = refl
    go (answered x) m = ap (λ (l : List ℕ). answer_line (0x41 ∷ l)) (ap (take (length x)) m ∙ take_at x (drop (length x) b) (length x) refl)

reply_says : (r : Reply) {w : Result ℕ ℕ} (b a : List ℕ) {o p : List ℕ} {k : ℕ} → w ≡ written_is r → a ≡ buffer_after b r →
    Says (written_line w a) o p k → Says (reply_line r) o p k
reply_says r b a {o} {p} {k} e m x = subst (λ (line : List ℕ). Says line o p k) (reply_line_lem r b a e m) x

pub reply_fits : (r : Reply) {w : Result ℕ ℕ} (b a : List ℕ) → w ≡ written_is r → a ≡ buffer_after b r → length a ≡ 16384 → Fits w a
unfolding answer_length written_is buffer_after
reply_fits r b a e m size = record { inside = rw e (go r m); small = omega (arith, size) }
  where
    go : (r : Reply) → a ≡ buffer_after b r → answer_length (written_is r) ≤ length a
    go (refusal k) m = omega arith
    go (answered x) m = omega (arith, ap length m, length-append x (drop (length x) b))

-- a test tells which it is
pub was_err : (w : Result ℕ Refusal) → is_err w ≡ true → (j : Refusal) × (w ≡ Err j)
was_err (Err j) e = (j, refl)
was_err (Ok n) e = absurd (false≢true e)

pub was_ok : (w : Result ℕ Refusal) → is_err w ≡ false → (n : ℕ) × (w ≡ Ok n)
was_ok (Ok n) e = (n, refl)
was_ok (Err j) e = absurd (false≢true (sym e))

-- it is a refusal, or it is none
reply_refused : (r : Reply) (k : ℕ) → Err k ≡ written_is r → r ≡ refusal k
unfolding written_is
reply_refused (refusal j) k e = cc
reply_refused (answered a) k e = cc

reply_answered : (r : Reply) (n : ℕ) → Ok n ≡ written_is r → is_answered r ≡ true
unfolding written_is is_answered
reply_answered (refusal j) n e = cc
reply_answered (answered a) n e = refl

-- What the server's command over 512 words and their summary comes to: what it wrote, and the words, the summary, the area and the answer buffer then.
pub record Came (c : SummedCommand) (b vs ss us e : List ℕ) (r : Answered) : Type 0 where
  pub written : numbered r.written ≡ written_is c.reply
  pub count : r.count ≡ c.left.store.count
  pub bytes : e ≡ buffer_after b c.reply
  pub area : us ≡ c.left.store.area
  pub records : map record_of vs ≡ c.left.store.records
  pub summary : map summary_of ss ≡ c.left.summary
  pub size : length vs ≡ 512

module _ (ws sums area b : List ℕ) (count reader : ℕ) (spaces l : List ℕ) (hw : length ws ≡ 512) (hs : length sums ≡ 512) where
  abbrev all : Summed
  all = record { store = word_store ws 512 count area; summary = map summary_of sums }

  -- all of them are lent
  every_lent : lent_of ws (length ws) sums ≡ 512
  every_lent = omega (arith, hw, hs)

  all_summed : word_summed ws (length ws) count area sums ≡ all
  all_summed =
      let summary : take (lent_of ws (length ws) sums) sums ≡ sums = take_all (lent_of ws (length ws) sums) sums (omega (arith, hw, hs)) in
      λ i. record { store = word_store ws (every_lent i) count area; summary = map summary_of (summary i) }

  came_over : summed_command reader (word_summed ws (length ws) count area sums) spaces l b ≡ summed_command reader all spaces l b
  came_over = ap (λ (m : Summed). summed_command reader m spaces l b) all_summed

  pub came : {vs ss us e : List ℕ} {r : Answered} →
      Answers (memory ws sums area b) (memory vs ss us e) count reader spaces l r →
      Came (summed_command reader (record { store = word_store ws 512 count area; summary = map summary_of sums }) spaces l b) b vs ss us e r
  came {vs} {ss} {us} {e} {r} x =
      let lent-all : min (length ws) (length sums) ≡ 512 = omega (arith, hw, hs) in
      let size : length vs ≡ 512 = x.between.size ∙ hw in
      let words : take (min (length ws) (length sums)) vs ≡ vs = take_all (min (length ws) (length sums)) vs (omega (arith, size, lent-all)) in
      let none_left : drop (lent_of ws (length ws) sums) (map summary_of sums) ≡ [] = drop_of_length-le (map summary_of sums)
      {i = lent_of ws (length ws) sums}
      (omega (arith, every_lent, length-map sums summary_of, hs)) in
      record {
        written = x.written ∙ ap (λ (c : SummedCommand). written_is c.reply) came_over;
        count = x.count_is ∙ ap (λ (c : SummedCommand). c.left.store.count) came_over;
        bytes = x.bytes ∙ ap (λ (c : SummedCommand). buffer_after b c.reply) came_over;
        area = x.area_is ∙ ap (λ (c : SummedCommand). c.left.store.area) came_over;
        records = sym (ap (map record_of) words) ∙ x.records ∙ ap (λ (c : SummedCommand). c.left.store.records) came_over;
        summary = x.summary ∙ (λ i. (came_over i).left.summary ++ none_left i) ∙ append-nil (summed_command reader all spaces l b).left.summary;
        size = size;
      }

  pub came_words : {vs ss us e : List ℕ} {r : Answered} →
      Answers (memory ws sums area b) (memory vs ss us e) count reader spaces l r →
      vs ≡ words_left (parsed l)
      (summed_command reader (record { store = word_store ws 512 count area; summary = map summary_of sums }) spaces l b).reply ws 512 count area
  came_words x =
      let lent-all : min (length ws) (length sums) ≡ 512 = omega (arith, hw, hs) in
      x.words ∙ (λ i. words_left (parsed l) (came_over i).reply ws (lent-all i) count area)

-- A command that is no accepted edit leaves the words, and every number.
left_unaccepted : (p : Parsed) (r : Reply) (ws : List ℕ) (lent count : ℕ) (area : List ℕ) → accepted p r ≡ false → words_left p r ws lent count area ≡ ws
unfolding accepted is_edit is_answered words_left
left_unaccepted (editing tag e) (answered a) ws lent count area h = absurd (false≢true (sym h))
left_unaccepted (editing tag e) (refusal k) ws lent count area h = refl
left_unaccepted (refused k) r ws lent count area h = refl
left_unaccepted (namespace tag) r ws lent count area h = refl
left_unaccepted (listing tag o ps) r ws lent count area h = refl
left_unaccepted (root_of tag) r ws lent count area h = refl
left_unaccepted (subscriptions tag ps) r ws lent count area h = refl

read_unaccepted : (p : Parsed) (r : Reply) → is_edit p ≡ false → accepted p r ≡ false
unfolding accepted
read_unaccepted p r e = rw e

refused_unaccepted : (p : Parsed) (r : Reply) (j : ℕ) → r ≡ refusal j → accepted p r ≡ false
unfolding accepted is_answered
refused_unaccepted p r j e = rw e (and-false (is_edit p))

accepted_so : (p : Parsed) (r : Reply) → is_edit p ≡ true → is_answered r ≡ true → accepted p r ≡ true
unfolding accepted
accepted_so p r e a = rw (e, a)

bytes_summed : (t : List ℕ) → program_summed t ≡ kept_summed (bytes t)
unfolding kept_summed
bytes_summed t = refl

records_summed : (m : Summed) → m ≡ kept_summed (records m)
unfolding kept_summed
records_summed m = refl

numbers_stay : (s : Stored) (reader : ℕ) (l numbers : List ℕ) → accepted (parsed l) (command_over reader s.table s.namespaces l).reply ≡ false
    → numbers ≡ numbers_after s reader l numbers
unfolding numbers_after
numbers_stay s reader l numbers h = rw h

-- the numbers of a summary, from what they tell
told_numbers : (ss : List ℕ) → map summary_word (map summary_of ss) ≡ ss
told_numbers [] = refl
told_numbers (w ∷ ss) = λ i. word_of_told w i ∷ told_numbers ss i

-- an accepted edit: the words that it leaves, and their summary
numbers_made : (s : Stored) (reader : ℕ) (l numbers vs ss : List ℕ) (c : SummedCommand) → command_over reader s.table s.namespaces l ≡ c
    → accepted (parsed l) c.reply ≡ true
    → vs ≡ words_left (parsed l) c.reply (cells_of s.table numbers) 512 (kept_summed s.table).store.count (kept_summed s.table).store.area
    → map summary_of ss ≡ c.left.summary → numbers_with vs ss numbers ≡ numbers_after s reader l numbers
unfolding numbers_after
numbers_made s reader l numbers vs ss c over h words sums =
    rw (over, h) (λ i. numbers_with (words i) ((sym (told_numbers ss) ∙ ap (map summary_word) sums) i) numbers)

-- What a command leaves stored: the same where it is no edit or is refused, else the records with their summary that the edit leaves.
module _ (s : Stored) (reader : ℕ) (l : List ℕ) where
  abbrev over : SummedCommand
  over = command_over reader s.table s.namespaces l

  abbrev kept_after_lem : Bool → Stepped
  kept_after_lem b =
      record { stored = record { table = cond b (records over.left) s.table; namespaces = s.namespaces }; output = reply_line over.reply }

  by_case : (b : Bool) → accepted (parsed l) over.reply ≡ b → command_step s reader l ≡ kept_after_lem b
  unfolding command_step
  by_case b e = ap kept_after_lem e

  step_read : is_edit (parsed l) ≡ false → command_step s reader l ≡ answering s (reply_line over.reply)
  unfolding accepted answering
  step_read e = by_case false (rw e)

  step_refused : (k : ℕ) → over.reply ≡ refusal k → command_step s reader l ≡ answering s (reply_line over.reply)
  unfolding accepted is_answered answering
  step_refused k e = by_case false (rw e (and-false (is_edit (parsed l))))

  step_accepted : is_edit (parsed l) ≡ true → is_answered over.reply ≡ true → command_step s reader l ≡ kept_after_lem true
  unfolding accepted
  step_accepted e a = by_case true (rw (e, a))

-- over records with their summary
module _ (reader : ℕ) (m : Summed) (spaces l b : List ℕ) where
  abbrev done : SummedCommand
  done = summed_command reader m spaces l b

  abbrev plain : Commanded
  plain = commanded reader m.store spaces l b

  -- a summary that disagrees is refused
  disagreed : agrees m ≡ false → (k : ℕ) × (done ≡ untouched m k)
  disagreed h = go (is_reader reader) refl
    where
      go : (o : Bool) → is_reader reader ≡ o → (k : ℕ) × (done ≡ untouched m k)
      go true r = (1, disagrees_refused reader m spaces l b r h)
      go false r = (16, stranger_summed reader m spaces l b r)

  -- so a refusal leaves both, and a command that is no edit
  left_by_lem : (agrees m ≡ true → (plain.store ≡ m.store) × (sums_after m (parsed l) plain.reply ≡ m.summary)) → done.left ≡ m
  left_by_lem stay = go (agrees m) refl
    where
      go : (o : Bool) → agrees m ≡ o → done.left ≡ m
      go true h =
          ap (λ (c : SummedCommand). c.left) (summed_as m h reader spaces l b)
          ∙ (λ i. record { store = (stay h).0 i; summary = (stay h).1 i })
      go false h = ap (λ (c : SummedCommand). c.left) (disagreed h).1

  left_refused : (k : ℕ) → done.reply ≡ refusal k → done.left ≡ m
  left_refused k q = left_by_lem (λ h. let r = sym (reply_with m h reader spaces l b) ∙ q in (
    refused_leaves reader m.store spaces l b k r,
    ap (sums_after m (parsed l)) r ∙ refused_sums m (parsed l) k,
  ))

  left_read : is_edit (parsed l) ≡ false → done.left ≡ m
  left_read e = left_by_lem (λ h. (read_leaves reader m.store spaces l b e, read_sums m (parsed l) plain.reply e))

  -- no more rows than there are records, or as many as before
  few_after : m.store.count ≤ 16384 → length done.left.store.records ≤ 512 → done.left.store.count ≤ 16384
  unfolding unchanged_by
  few_after h few = go (agrees m) refl
    where
      sound : agrees m ≡ true → (o : Bool) → passes (store_table m.store) ≡ o → done.left.store.count ≤ 16384
      sound a true e =
          let same = store_with m a reader spaces l b in
          omega (
            arith,
            few,
            ap (λ (s : Store). length s.records) same,
            ap (λ (s : Store). s.count) same,
            (store_parts plain.store (command_passes reader m.store spaces l b e)).counted,
          )
      sound a false e =
          omega (
            arith,
            h,
            ap (λ (s : Store). s.count) (store_with m a reader spaces l b),
            ap (λ (c : Commanded). c.store.count) (unsound_ends reader m.store spaces l b e).1,
          )

      go : (o : Bool) → agrees m ≡ o → done.left.store.count ≤ 16384
      go true a = sound a (passes (store_table m.store)) refl
      go false a = omega (arith, h, ap (λ (c : SummedCommand). c.left.store.count) (disagreed a).1)

  module _ (size : length b ≡ 16384) where
    same : command_over reader (records m) spaces l ≡ done
    same = command_over_records reader m spaces l b size

    abbrev leaves : SummedCommand → Stepped
    leaves c = record { stored = record { table = records c.left; namespaces = spaces }; output = reply_line c.reply }

    step_records : command_step (record { table = records m; namespaces = spaces }) reader l ≡ leaves done
    unfolding answering
    step_records = go (is_edit (parsed l)) refl
      where
        stays : done.left ≡ m →
            command_step (record { table = records m; namespaces = spaces }) reader l ≡ record
            { stored = record { table = records m; namespaces = spaces }; output = reply_line (command_over reader (records m) spaces l).reply } →
            command_step (record { table = records m; namespaces = spaces }) reader l ≡ leaves done
        stays e x = x ∙ (λ i. record { stored = record { table = records (sym e i); namespaces = spaces }; output = reply_line (same i).reply })

        judged : is_edit (parsed l) ≡ true → (r : Reply) → done.reply ≡ r →
            command_step (record { table = records m; namespaces = spaces }) reader l ≡ leaves done
        judged e (refusal k) q = stays (left_refused k q)
            (step_refused (record { table = records m; namespaces = spaces }) reader l k (ap (λ (c : SummedCommand). c.reply) same ∙ q))
        judged e (answered a) q = step_accepted (record { table = records m; namespaces = spaces }) reader l e
            (unfold is_answered in ap (λ (c : SummedCommand). is_answered c.reply) same ∙ ap is_answered q) ∙ ap leaves same

        go : (o : Bool) → is_edit (parsed l) ≡ o → command_step (record { table = records m; namespaces = spaces }) reader l ≡ leaves done
        go false e = stays (left_read e) (step_read (record { table = records m; namespaces = spaces }) reader l e)
        go true e = judged e done.reply refl

-- a reader above 7
stranger_over : (reader : ℕ) (k : Kept) (spaces l : List ℕ) → is_reader reader ≡ false → (command_over reader k spaces l).reply ≡ refusal 16
unfolding command_over summed_over commanded_over unchanged_by
stranger_over reader k spaces l e = rw e

-- over packed bytes
module _ (reader : ℕ) (t spaces l : List ℕ) where
  seen_refused : passes (packed_table t) ≡ false → answer (packed_seen reader t) spaces l ≡ refusal 1
  seen_refused e = table_refused (packed_seen reader t) spaces l (packed_seen_passes reader t ∙ e)

  table_fails : is_reader reader ≡ true → passes (packed_table t) ≡ false → (command_over reader (bytes t) spaces l).reply ≡ refusal 1
  unfolding command_over summed_over commanded_over kept_seen concluded unchanged_by
  table_fails r e = rw (r, seen_refused e)

  -- a command that is no edit is answered as the packed bytes are read
  reads_packed : (b : List ℕ) → length b ≡ 16384 → length t ≤ 16384 → is_edit (parsed l) ≡ false
      → served_to reader (packed_seen reader t) spaces l b ≡ (command_over reader (bytes t) spaces l).reply
  unfolding served_to served kept_seen kept_summed program_summed counted_first
  reads_packed b size short e = go (passes (packed_table t)) refl
    where
      fails : (o : Bool) → is_reader reader ≡ o → passes (packed_table t) ≡ false
          → from_reader reader (limited (length b) (answer (packed_seen reader t) spaces l)) ≡ (command_over reader (bytes t) spaces l).reply
      fails true r p = unfold from_reader limited in rw (r, seen_refused p) (sym (table_fails r p))
      fails false r p = unfold from_reader in rw r (sym (stranger_over reader (bytes t) spaces l r))

      go : (o : Bool) → passes (packed_table t) ≡ o
          → from_reader reader (limited (length b) (answer (packed_seen reader t) spaces l)) ≡ (command_over reader (bytes t) spaces l).reply
      go true p =
          ap (λ (u : Table). from_reader reader (limited (length b) (answer u spaces l))) (sym (program_store_seen t short p reader))
          ∙ sym (read_answered reader (program_store t) spaces l b e)
          ∙ sym (reply_with (program_summed t) (program_agrees t) reader spaces l b)
          ∙ sym (ap (λ (c : SummedCommand). c.reply) (command_over_bytes reader t short p spaces l b size))
      go false p = fails (is_reader reader) refl p

  pub reads_line : (b a o p : List ℕ) (w : Result ℕ ℕ) (r : ℕ) → length b ≡ 16384 → length t ≤ 16384 → is_edit (parsed l) ≡ false →
      w ≡ written_is (served_to reader (packed_seen reader t) spaces l b) → a ≡ buffer_after b (served_to reader (packed_seen reader t) spaces l b)
      → Says (written_line w a) o p r → Says (command_line reader (bytes t) spaces l) o p r
  reads_line b a o p w r size short e i m x =
      subst (λ (line : List ℕ). Says line o p r) (ap reply_line (reads_packed b size short e))
      (reply_says (served_to reader (packed_seen reader t) spaces l b) b a i m x)

  -- an edit is judged on the store that the packed bytes become, with its first summary
  first_over : (m : Summed) (b : List ℕ) → length b ≡ 16384 → length t ≤ 16384 → passes (packed_table t) ≡ true → m ≡ program_summed t →
      command_over reader (bytes t) spaces l ≡ summed_command reader m spaces l b
  unfolding kept_summed
  first_over m b size short p is =
      command_over_bytes reader t short p spaces l b size ∙ ap (λ (s : Summed). summed_command reader s spaces l b) (sym is)

-- The memory that was `d`, of which `n` is stored, after the command l.
module _ (d : Lent) (n : Lengths) (x : Within n d.table d.records d.namespaces) (reader : ℕ) (l : List ℕ) where
  abbrev spaces : List ℕ
  spaces = take n.namespaces d.namespaces

  abbrev packed : List ℕ
  packed = take n.table d.table

  kept_bytes : n.edited ≡ false → kept_in d n ≡ bytes packed
  kept_bytes e = ap (λ (b : Bool). kept_as b n.table d.table d.records) e

  kept_records : n.edited ≡ true → kept_in d n ≡ records (summed_in n.table d.table d.records)
  kept_records e = ap (λ (b : Bool). kept_as b n.table d.table d.records) e

  -- nothing but the output changes where it is no edit, and where it is refused
  pub obeys_read : (o : List ℕ) (k : ℕ) → n.edited ≡ false → is_edit (parsed l) ≡ false →
      Says (command_line reader (bytes packed) spaces l) d.out o k →
      Obeys n reader l d (lent d.table d.records d.namespaces o) (outcome_is n k)
  obeys_read o k e r s =
      record {
        carried =
            rw (step_read (stored_in d n) reader l r) (carries_said d n x.held.rows x.entries (command_line reader (kept_in d n) spaces l) o k
            (rw (kept_bytes e) s));
        numbers = numbers_stay (stored_in d n) reader l d.records (read_unaccepted (parsed l) _ r);
      }

  pub obeys_refused : (j : ℕ) (o : List ℕ) (k : ℕ) → n.edited ≡ false → (command_over reader (bytes packed) spaces l).reply ≡ refusal j →
      Says (command_line reader (bytes packed) spaces l) d.out o k →
      Obeys n reader l d (lent d.table d.records d.namespaces o) (outcome_is n k)
  obeys_refused j o k e r s =
      let refused_so : (command_over reader (kept_in d n) spaces l).reply ≡ refusal j = rw (kept_bytes e) r in
      record {
        carried =
            rw (step_refused (stored_in d n) reader l j refused_so)
            (carries_said d n x.held.rows x.entries (command_line reader (kept_in d n) spaces l) o k (rw (kept_bytes e) s));
        numbers = numbers_stay (stored_in d n) reader l d.records (refused_unaccepted (parsed l) _ j refused_so);
      }

  obeys_number : (j : ℕ) (o : List ℕ) (k : ℕ) → n.edited ≡ false → (command_over reader (bytes packed) spaces l).reply ≡ refusal j →
      Put d.out o 0 (refusal_line j) k →
      Obeys n reader l d (lent d.table d.records d.namespaces o) (outcome_is n k)
  unfolding reply_line
  obeys_number j o k e r put =
      obeys_refused j o k e r (subst (λ (line : List ℕ). Says line d.out o k) (sym (ap reply_line r)) (says_refusal j put))

  -- an edit of a reader above 7
  pub first_stranger : (o : List ℕ) (k : ℕ) → n.edited ≡ false → 7 < reader → Put d.out o 0 (refusal_line 16) k →
      Obeys n reader l d (lent d.table d.records d.namespaces o) (outcome_is n k)
  first_stranger o k e r put = obeys_number 16 o k e (stranger_over reader (bytes packed) spaces l (unfold is_reader in lt-leb reader 7 r)) put

  -- an edit of a table that does not pass
  pub first_fails : (o : List ℕ) (k : ℕ) → n.edited ≡ false → reader ≤ 7 → passes (packed_table packed) ≡ false → Put d.out o 0 (refusal_line 1) k →
      Obeys n reader l d (lent d.table d.records d.namespaces o) (outcome_is n k)
  first_fails o k e r f put = obeys_number 1 o k e (table_fails reader packed spaces l (unfold is_reader in le-leb reader 7 r) f) put

  -- records are kept where it leaves what c has left: the area lies in the table's memory, words and summary in the numbers
  module _ (c : SummedCommand) (us vs ss : List ℕ) (area : us ≡ c.left.store.area) (told : map record_of vs ≡ c.left.store.records)
      (summed : map summary_of ss ≡ c.left.summary) (hu : length us ≡ 16384) (hv : length vs ≡ 512) (hs : length ss ≡ 512) where
    obeys_kept : (o : List ℕ) (k : ℕ) →
        command_step (stored_in d n) reader l ≡ record
        { stored = record { table = records c.left; namespaces = spaces }; output = reply_line c.reply }
        → c.left.store.count ≤ 16384 → Says (reply_line c.reply) d.out o k
        → Carries (command_step (stored_in d n) reader l) d (lent (us ++ drop 16384 d.table) (numbers_with vs ss d.records) d.namespaces o)
        (outcome_is (lengths_is c.left.store.count n.namespaces true) k)
    obeys_kept o k step few s =
        let area_is = take_at us (drop 16384 d.table) 16384 hu ∙ area in
        let records_are = ap (map record_of) (with_words vs ss d.records hv hs) ∙ told in
        let summary_is = ap (map summary_of) (with_sums_lem vs ss d.records hv hs) ∙ summed in
        rw step (record {
          table = λ i. records (record {
            store = record { records = records_are i; count = c.left.store.count; area = area_is i };
            summary = summary_is i;
          });
          namespaces = refl;
          table_room = few;
          namespaces_room = x.entries;
          table_behind = drop_at us (drop 16384 d.table) 16384 hu;
          records_behind = with_rest_lem vs ss d.records hv hs;
          records_stay = λ e. absurd (false≢true (sym e));
          namespaces_behind = refl;
          says = s;
        })

    few_records : length c.left.store.records ≤ 512
    few_records = omega (arith, sym (ap length told), length-map vs record_of, hv)

  -- over the records: what the server's command over them came to
  module _ (e : n.edited ≡ true) (b sums : List ℕ) (size : length b ≡ 16384) (are : sums ≡ take 512 (drop 512 d.records)) where
    abbrev held : Summed
    held = record { store = word_store (take 512 d.records) 512 n.table (take 16384 d.table); summary = map summary_of sums }

    kept_as_lem : kept_in d n ≡ records held
    kept_as_lem =
        let again = sym (take-take 512 512 d.records (omega arith)) in
        let was = sym are in
        kept_records e ∙ (λ i. records (record
        { store = record { records = map record_of (again i); count = n.table; area = take 16384 d.table }; summary = map summary_of (was i) }))

    stored_as : command_step (stored_in d n) reader l ≡ record {
      stored = record { table = records (summed_command reader held spaces l b).left; namespaces = spaces };
      output = reply_line (summed_command reader held spaces l b).reply;
    }
    stored_as = (λ i. command_step (record { table = kept_as_lem i; namespaces = spaces }) reader l) ∙ step_records reader held spaces l b size

    -- every number, where the words are those that the command leaves
    numbers_as : (vs ss : List ℕ) → vs ≡ words_left (parsed l) (summed_command reader held spaces l b).reply (take 512 d.records) 512 n.table
        (take 16384 d.table)
        → map summary_of ss ≡ (summed_command reader held spaces l b).left.summary
        → numbers_with vs ss d.records ≡ numbers_after (stored_in d n) reader l d.records
    numbers_as vs ss words summed =
        go (accepted (parsed l) done.reply) refl
        ∙ sym (λ i. numbers_after (record { table = kept_as_lem i; namespaces = spaces }) reader l d.records)
      where
        done : SummedCommand
        done = summed_command reader held spaces l b

        over : command_over reader (records held) spaces l ≡ done
        over = same reader held spaces l b size

        go : (o : Bool) → accepted (parsed l) done.reply ≡ o
            → numbers_with vs ss d.records ≡ numbers_after (record { table = records held; namespaces = spaces }) reader l d.records
        go true h =
            numbers_made (record { table = records held; namespaces = spaces }) reader l d.records vs ss done over h
            (words ∙ (λ i. words_left (parsed l) done.reply (take 512 d.records) 512 (records_summed held i).store.count
            (records_summed held i).store.area))
            summed
        go false h =
            let unchanged : done.left ≡ held = unfold summed_command in not_accepted_leaves reader held (summed_seen reader held) spaces l (length b) h in
            let alike : ss ≡ take 512 (drop 512 d.records) = sym (told_numbers ss)
            ∙ ap (map summary_word) (summed ∙ ap (λ (m : Summed). m.summary) unchanged) ∙ told_numbers sums ∙ are in
            let front : vs ≡ take 512 d.records = words ∙ left_unaccepted (parsed l) done.reply (take 512 d.records) 512 n.table (take 16384 d.table) h in
            (λ i. numbers_with (front i) (alike i) d.records)
            ∙ whole_numbers d.records
            ∙ numbers_stay (record { table = records held; namespaces = spaces }) reader l d.records
            (ap (λ (c : SummedCommand). accepted (parsed l) c.reply) over ∙ h)

    pub obeys_records : (us vs ss f o : List ℕ) (r : Answered) (k : ℕ) →
        Came (summed_command reader (record
        { store = word_store (take 512 d.records) 512 n.table (take 16384 d.table); summary = map summary_of sums }) spaces l b)
        b vs ss us f r
        → vs ≡ words_left (parsed l) (summed_command reader (record
        { store = word_store (take 512 d.records) 512 n.table (take 16384 d.table); summary = map summary_of sums }) spaces l b).reply
        (take 512 d.records) 512 n.table (take 16384 d.table)
        → length us ≡ length (take 16384 d.table) → length ss ≡ 512 → Says (written_line (numbered r.written) f) d.out o k
        → Obeys n reader l d
        (lent (us ++ drop 16384 d.table) (numbers_with (take 512 (vs ++ drop 512 d.records)) ss (vs ++ drop 512 d.records)) d.namespaces o)
        (outcome_is (lengths_is r.count n.namespaces true) k)
    obeys_records us vs ss f o r k c words lu hs s =
        let hu : length us ≡ 16384 = lu ∙ sym (whole_area x.held) in
        let done = summed_command reader held spaces l b in
        let few = few_after reader held spaces l b x.held.rows (few_records done us vs ss c.area c.records c.summary hu c.size hs) in
        rw (c.count, with_over vs ss d.records c.size hs)
        (record {
          carried =
              obeys_kept done us vs ss c.area c.records c.summary hu c.size hs o k stored_as few
              (reply_says done.reply b f c.written c.bytes s);
          numbers = numbers_as vs ss words c.summary;
        })

  -- over the packed bytes, an edit: the store that they become, with its first summary, is m
  module _ (e : n.edited ≡ false) (edit : is_edit (parsed l) ≡ true) (m : Summed) (b : List ℕ) (size : length b ≡ 16384)
      (p : passes (packed_table packed) ≡ true) (is : m ≡ program_summed packed) where
    abbrev made : SummedCommand
    made = summed_command reader m spaces l b

    over_made : command_over reader (bytes packed) spaces l ≡ made
    over_made = first_over reader packed spaces l m b size (omega (arith, length-take n.table d.table, x.held.rows)) p is

    -- it is refused
    pub first_refused : (vs ss us f o : List ℕ) (r : Answered) (j : Refusal) (k : ℕ) → Came (summed_command reader m spaces l b) b vs ss us f r →
        r.written ≡ Err j → Says (written_line (numbered r.written) f) d.out o k →
        Obeys n reader l d (lent d.table d.records d.namespaces o) (outcome_is n k)
    first_refused vs ss us f o r j k c q s =
        obeys_refused (number_of j) o k e (ap (λ (y : SummedCommand). y.reply) over_made ∙ reply_refused made.reply (number_of j) (ap numbered (sym q) ∙ c.written))
        (rw over_made (reply_says made.reply b f c.written c.bytes s))

    step_made : is_answered made.reply ≡ true →
        command_step (stored_in d n) reader l ≡ record
        { stored = record { table = records made.left; namespaces = spaces }; output = reply_line made.reply }
    step_made r =
        (λ i. command_step (record { table = kept_bytes e i; namespaces = spaces }) reader l)
        ∙ step_accepted (record { table = bytes packed; namespaces = spaces }) reader l edit
        (ap (λ (c : SummedCommand). is_answered c.reply) over_made ∙ r)
        ∙ ap (λ (c : SummedCommand). record { stored = record { table = records c.left; namespaces = spaces }; output = reply_line c.reply })
        over_made

    -- it is accepted: area, words and summary lie in the memory now
    pub first_accepted : (vs ss us f o : List ℕ) (r : Answered) (j k : ℕ) → Came (summed_command reader m spaces l b) b vs ss us f r →
        (ws : List ℕ) → ws ≡ map cell_of (program_store packed).records
        → vs ≡ words_left (parsed l) (summed_command reader m spaces l b).reply ws 512 m.store.count m.store.area →
        r.written ≡ Ok j → m.store.count ≤ 16384 → length us ≡ 16384 → length ss ≡ 512 → Says (written_line (numbered r.written) f) d.out o k
        → Obeys n reader l d (lent (sets d.table 0 us) (numbers_with vs ss d.records) d.namespaces o)
        (outcome_is (lengths_is r.count n.namespaces true) k)
    first_accepted vs ss us f o r j k c ws cells words q counted hu hs s =
        let end : 0 + length us ≡ 16384 = omega (arith, hu) in
        let bytes_are : sets d.table 0 us ≡ us ++ drop 16384 d.table = sets-eq us d.table 0 (omega (arith, hu, x.held.table)) ∙ ap
        (λ (i : ℕ). us ++ drop i d.table) end in
        let few = few_after reader m spaces l b counted (few_records made us vs ss c.area c.records c.summary hu c.size hs) in
        let answered-so = reply_answered made.reply j (ap numbered (sym q) ∙ c.written) in
        let summed : m ≡ kept_summed (bytes packed) = is ∙ bytes_summed packed in
        let words-first : words_left (parsed l) made.reply ws 512 m.store.count m.store.area
        ≡ words_left (parsed l) made.reply (cells_of (bytes packed) d.records) 512 (kept_summed (bytes packed)).store.count
        (kept_summed (bytes packed)).store.area
        = λ i. words_left (parsed l) made.reply (cells i) 512 (summed i).store.count (summed i).store.area in
        rw (c.count, bytes_are)
        (record {
          carried =
              obeys_kept made us vs ss c.area c.records c.summary hu c.size hs o k (step_made answered-so) few
              (reply_says made.reply b f c.written c.bytes s);
          numbers =
              numbers_made (record { table = bytes packed; namespaces = spaces }) reader l d.records vs ss made over_made
              (accepted_so (parsed l) made.reply edit answered-so) (words ∙ words-first) c.summary
              ∙ sym (λ i. numbers_after (record { table = kept_bytes e i; namespaces = spaces }) reader l d.records);
        })

-- what is promised of any memory: a command carried out where what is stored lies within it, and nothing done elsewhere
module _ (d : Lent) (n : Lengths) (reader : ℕ) (l : List ℕ) where
  pub lent_obeyed : {e : Lent} {r : Outcome} → is_within n d.table d.records d.namespaces ≡ true → Obeys n reader l d e r →
      ObeysLent n reader l d e r
  lent_obeyed so x = record { obeys = λ h. x; refuses = λ h. absurd (false≢true (sym h ∙ so)) }

  pub lent_refused : {r : Outcome} → is_within n d.table d.records d.namespaces ≡ false → r ≡ outcome_is n 0 → ObeysLent n reader l d d r
  lent_refused none is = record { obeys = λ h. absurd (false≢true (sym none ∙ h)); refuses = λ h. (is, refl) }
