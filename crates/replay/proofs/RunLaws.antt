-- One command run again: its reply beside the answer recorded, and what it leaves of the lent table. Rests on ReplayLaws, SummaryCommands and SummaryLengths
-- of listing_rules.
use Rattle.std.specs.Prelude.{Result, Ok, Err}
use Rattle.octets.specs.declared.refusals.Refusal.{Refusal}
use Rattle.listing_rules.proofs.Prelude.{◌∙◌, ◌≡◌, ap, refl, sym, Bool, ◌&&◌, false, false≢true, true, List, [], ◌∷◌, ◌++◌, map, ◌+◌, ◌-◌, ◌*◌, ◌/◌}
use Rattle.listing_rules.proofs.Prelude.{◌%◌, ◌≤◌, min, ℕ, arith, div-div-eq-div-mul, drop, get_or, length, length-append, length-drop, length-map}
use Rattle.listing_rules.proofs.Prelude.{length-take, take, take_at, drop_at, drop-drop, drop-paste, paste}
use Rattle.listing_rules.specs.Command.{Parsed, refused, namespace, listing, root_of, subscriptions, editing, Edit, is_edit, parsed}
use Rattle.listing_rules.specs.Server.{Reply, refusal, answered, is_answered, commanded, buffer_after}
use Rattle.listing_rules.specs.Summary.{Summary, Summed, agrees, sums_after, SummedCommand, summed_seen, summed_over, summed_command}
use Rattle.listing_rules.specs.Frames.{accepted}
use Rattle.listing_rules.specs.Replay.{rerun}
use Rattle.listing_rules.specs.Readers.{is_reader}
use Rattle.listing_rules.proofs.ListLaws.{map_take, map_drop}
use Rattle.listing_rules.proofs.ProgramStore.{command_over_records}
use Rattle.listing_rules.proofs.CommandLaws.{refusal_not, edit_stored_lem}
use Rattle.listing_rules.proofs.SummaryCommands.{stranger_summed, disagrees_refused, reply_with, answer_passed}
use Rattle.listing_rules.proofs.SummaryLengths.{edited_length}
use Rattle.listing_rules.proofs.ReplayLaws.{not_accepted_leaves}
use Rattle.octets.specs.Refusals.{numbered, number_of}
use Rattle.octets.specs.Written.{written_is}
use Rattle.records.specs.Words.{record_of}
use Rattle.records.specs.Numbers.{summary_of}
use Rattle.records.specs.Lent.{lent_of}
use Rattle.records.specs.Stores.{Between}
use Rattle.server.specs.declared.Stored.{Stored}
use Rattle.server.specs.Answering.{memory, Answers}
use Rattle.frames.specs.declared.logs.Recorded.{Recorded}
use Rattle.replay.specs.Running.{agreeing, said_so, answer_length, table, summed_in, TableKept, rerun_of, Runs}

-- by what the code knows of the reply and of the frame
pub said_by_lem : {w v : Result ℕ Refusal} {f g : Recorded} {b : Bool} (answer digits : List ℕ) → w ≡ v → f ≡ g → b ≡ said_so v answer g digits → b ≡ said_so w answer f digits
said_by_lem answer digits e q h = h ∙ sym (λ i. said_so (e i) answer (q i) digits)

-- the server's answer lies in its buffer, and is the reply
pub answer_fits : (r : Reply) (w : Result ℕ Refusal) (b a : List ℕ) → numbered w ≡ written_is r → a ≡ buffer_after b r → answer_length w ≤ length a
unfolding answer_length written_is buffer_after
answer_fits r (Err k) b a e m = omega arith
answer_fits (refusal k) (Ok n) b a e m = cc
answer_fits (answered x) (Ok n) b a e m = let z : n ≡ length x = cc in omega (arith, z, ap length m, length-append x (drop (length x) b))

said_is : (r : Reply) (w : Result ℕ Refusal) (b a : List ℕ) (f : Recorded) (digits : List ℕ) → numbered w ≡ written_is r → a ≡ buffer_after b r →
    said_so w a f digits ≡ agreeing r f digits
unfolding said_so written_is buffer_after
said_is (refusal k) (Err j) b a f digits e m = let z : number_of j ≡ k = cc in ap (λ (n : ℕ). agreeing (refusal n) f digits) z
said_is (refusal k) (Ok n) b a f digits e m = cc
said_is (answered x) (Err j) b a f digits e m = cc
said_is (answered x) (Ok n) b a f digits e m =
    let z : n ≡ length x = cc in
    ap (λ (l : List ℕ). agreeing (answered l) f digits)
    (ap (λ (k : ℕ). take k a) z ∙ ap (take (length x)) m ∙ take_at x (drop (length x) b) (length x) refl)

-- words after those that are lent stay
behind_stays : {us vs : List ℕ} {lent start to : ℕ} → Between us vs lent start to → drop lent vs ≡ drop lent us
behind_stays {us} {vs} {lent} {start} {to} w =
    let n : start + (to - start) ≡ to = omega (arith, w.order) in
    let k : to + (lent - to) ≡ lent = omega (arith, w.lent_only) in
    let at : drop to vs ≡ drop to us =
    ap (drop to) w.others ∙ ap (λ (x : ℕ). drop x (paste us start (drop start vs) (to - start))) (sym n)
    ∙ drop-paste us start (drop start vs) (to - start) (omega (arith, w.order, w.within)) (omega (arith, w.order, w.within, w.size, length-drop start vs))
    ∙ ap (λ (x : ℕ). drop x us) n in
    ap (λ (x : ℕ). drop x vs) (sym k) ∙ sym (drop-drop (lent - to) to vs) ∙ ap (drop (lent - to)) at ∙ drop-drop (lent - to) to us ∙ ap (λ (x : ℕ). drop x us) k

-- a number of the summary is what it says
same_number : (w v : ℕ) → summary_of w ≡ summary_of v → w ≡ v
unfolding summary_of
same_number w v e =
    let a : w % 65536 ≡ v % 65536 = ap (λ (m : Summary). m.subscribed_local) e in
    let b : w / 65536 % 65536 ≡ v / 65536 % 65536 = ap (λ (m : Summary). m.subscribed_remote) e in
    let c : w / 4294967296 % 65536 ≡ v / 4294967296 % 65536 = ap (λ (m : Summary). m.existing_local) e in
    let d : w / 281474976710656 ≡ v / 281474976710656 = ap (λ (m : Summary). m.existing_remote) e in
    parts w ∙ (λ i. a i + 65536 * b i + 4294967296 * c i + 281474976710656 * d i) ∙ sym (parts v)
  where
    parts : (x : ℕ) → x ≡ x % 65536 + 65536 * (x / 65536 % 65536) + 4294967296 * (x / 4294967296 % 65536) + 281474976710656 * (x / 281474976710656)
    parts x = omega (arith, div-div-eq-div-mul x 65536 65536, div-div-eq-div-mul x 4294967296 65536)

same_numbers : (xs ys : List ℕ) → map summary_of xs ≡ map summary_of ys → xs ≡ ys
same_numbers [] [] e = refl
same_numbers [] (y ∷ ys) e = absurd (omega (arith, ap length e))
same_numbers (x ∷ xs) [] e = absurd (omega (arith, ap length e))
same_numbers (x ∷ xs) (y ∷ ys) e =
    let h : summary_of x ≡ summary_of y = ap (λ (l : List Summary). get_or l 0 (summary_of x)) e in
    let t : map summary_of xs ≡ map summary_of ys = ap (drop 1) e in
    λ i. same_number x y h i ∷ same_numbers xs ys t i

-- a command leaves as many summaries as there were, where there is one for each record
module _ (reader : ℕ) (m : Summed) (spaces l buffer : List ℕ) (sized : length m.summary ≡ length m.store.records) where
  abbrev came : SummedCommand
  came = summed_command reader m spaces l buffer

  edit_length : agrees m ≡ true → (tag : List ℕ) (d : Edit) → parsed l ≡ editing tag d → (a : List ℕ) → came.reply ≡ answered a
      → length (sums_after m (editing tag d) (answered a)) ≡ length m.summary
  unfolding sums_after
  edit_length h tag d q a r =
      edited_length m (commanded reader m.store spaces l buffer).store (answer_passed m h reader spaces l buffer a replied) sized d
      (edit_stored_lem reader m.store spaces l buffer tag d q a replied)
    where
      replied : (commanded reader m.store spaces l buffer).reply ≡ answered a
      replied = sym (reply_with m h reader spaces l buffer) ∙ r

  left_length : length came.left.summary ≡ length m.summary
  left_length = go (accepted (parsed l) came.reply) refl
    where
      agreed : (b : Bool) → agrees m ≡ b → (a : List ℕ) → came.reply ≡ answered a → agrees m ≡ true
      agreed true h a r = h
      agreed false h a r = absurd (refusal_not (number (is_reader reader)) a (sym (refuses (is_reader reader) refl h) ∙ r))
        where
          number : Bool → ℕ
          number true = 1
          number false = 16

          refuses : (b : Bool) → is_reader reader ≡ b → agrees m ≡ false → came.reply ≡ refusal (number b)
          refuses true e h = ap (λ (c : SummedCommand). c.reply) (disagrees_refused reader m spaces l buffer e h)
          refuses false e h = ap (λ (c : SummedCommand). c.reply) (stranger_summed reader m spaces l buffer e)

      by_reply : (p : Parsed) → parsed l ≡ p → (r : Reply) → came.reply ≡ r → (is_edit p && is_answered r) ≡ true
          → length (sums_after m p r) ≡ length m.summary
      by_reply (editing tag d) q (answered a) r h = edit_length (agreed (agrees m) refl a r) tag d q a r
      by_reply (editing tag d) q (refusal k) r h = absurd (false≢true (unfold is_edit is_answered in h))
      by_reply (refused k) q x r h = absurd (false≢true (unfold is_edit in h))
      by_reply (namespace tag) q x r h = absurd (false≢true (unfold is_edit in h))
      by_reply (listing tag o ps) q x r h = absurd (false≢true (unfold is_edit in h))
      by_reply (root_of tag) q x r h = absurd (false≢true (unfold is_edit in h))
      by_reply (subscriptions tag ps) q x r h = absurd (false≢true (unfold is_edit in h))

      stays : accepted (parsed l) came.reply ≡ false → came.left ≡ m
      stays e = unfold summed_command in not_accepted_leaves reader m (summed_seen reader m) spaces l (length buffer) e

      go : (b : Bool) → accepted (parsed l) came.reply ≡ b → length came.left.summary ≡ length m.summary
      go true e = unfold summed_command summed_over in by_reply (parsed l) refl came.reply refl (unfold accepted in e)
      go false e = ap (λ (x : Summed). length x.summary) (stays e)

-- The server's command over lent words is the definition's, and leaves the table that the definition leaves.
module _ (words sums area spaces command l answer : List ℕ) (rows : ℕ) (line : l ≡ drop 1 command) (long : length answer ≡ 16384)
    (words' sums' area' answer' : List ℕ) (done : Stored)
    (a : Answers (memory words sums area answer) (memory words' sums' area' answer') rows (get_or command 0 0) spaces l done) where
  abbrev m : Summed
  m = summed_in (table words sums area) rows

  abbrev n : ℕ
  n = lent_of words (length words) sums

  abbrev here : SummedCommand
  here = summed_command (get_or command 0 0) m spaces l answer

  lent_is : min (length words) (length sums) ≡ n
  lent_is = omega arith

  as_rerun : here ≡ rerun_of spaces command m
  as_rerun =
      ap (λ (x : List ℕ). summed_command (get_or command 0 0) m spaces x answer) line
      ∙ sym (unfold rerun in command_over_records (get_or command 0 0) m spaces (drop 1 command) answer long)

  sized : length m.summary ≡ length m.store.records
  sized = omega (arith, length-map (take n sums) summary_of, length-map (take n words) record_of, length-take n sums, length-take n words)

  summary_long : length here.left.summary ≡ n
  summary_long =
      omega (arith, left_length (get_or command 0 0) m spaces l answer sized, length-map (take n sums) summary_of, length-take n sums)

  -- every number of the summary
  numbers : map summary_of sums' ≡ here.left.summary ++ drop n (map summary_of sums)
  numbers = a.summary

  sums_long : length sums' ≡ length sums
  sums_long =
      omega (
        arith,
        ap length numbers,
        length-map sums' summary_of,
        length-append here.left.summary (drop n (map summary_of sums)),
        length-drop n (map summary_of sums),
        length-map sums summary_of,
        summary_long,
      )

  same_lent : lent_of words' (length words') sums' ≡ n
  same_lent = λ i. min (a.between.size i) (min (a.between.size i) (sums_long i))

  run_left : summed_in (table words' sums' area') done.count ≡ (rerun_of spaces command m).left
  run_left =
      (λ i. record { store = record { records = records_are i; count = a.count_is i; area = a.area_is i }; summary = summary_is i }) ∙ ap
      (λ (c : SummedCommand). c.left) as_rerun
    where
      records_are : map record_of (take (lent_of words' (length words') sums') words') ≡ here.left.store.records
      records_are = ap (λ (k : ℕ). map record_of (take k words')) (same_lent ∙ sym lent_is) ∙ a.records

      summary_is : map summary_of (take (lent_of words' (length words') sums') sums') ≡ here.left.summary
      summary_is =
          ap (λ (k : ℕ). map summary_of (take k sums')) same_lent ∙ map_take summary_of n sums' ∙ ap (take n) numbers
          ∙ take_at here.left.summary (drop n (map summary_of sums)) n summary_long

  run_kept : length area' ≡ length area → TableKept (table words sums area) (table words' sums' area')
  run_kept k =
      record {
        words_after_lem = ap (λ (x : ℕ). drop x words') (sym lent_is) ∙ behind_stays a.between ∙ ap (λ (x : ℕ). drop x words) lent_is;
        sums_after_lem =
            same_numbers (drop n sums') (drop n sums)
            (map_drop summary_of n sums' ∙ ap (drop n) numbers ∙ drop_at here.left.summary (drop n (map summary_of sums)) n summary_long ∙ sym
            (map_drop summary_of n sums));
        words_long = a.between.size;
        sums_long = sums_long;
        area_long = k;
      }

  run_said : (seen : Recorded) (digits : List ℕ) (b : Bool) → b ≡ said_so done.written answer' seen digits →
      b ≡ agreeing (rerun_of spaces command m).reply seen digits
  run_said seen digits b e =
      e ∙ said_is here.reply done.written answer answer' seen digits a.written a.bytes
      ∙ ap (λ (c : SummedCommand). agreeing c.reply seen digits) as_rerun

  pub run_fits : answer_length done.written ≤ length answer'
  run_fits = answer_fits here.reply done.written answer answer' a.written a.bytes

  pub runs : length area' ≡ length area → (seen : Recorded) (digits : List ℕ) (b : Bool) → b ≡ said_so done.written answer' seen digits
      → Runs spaces command seen digits rows (table words sums area) (table words' sums' area') (record { rows = done.count; same = b })
  runs k seen digits b e = record { same = run_said seen digits b e; left = run_left; kept = run_kept k }
