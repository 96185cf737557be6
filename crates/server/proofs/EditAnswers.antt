-- An edit of reader 0: what `subscriptions::edit` returned and left is what the command comes to. Rests on AnswerLaws and EditedLaws.
use Rattle.std.specs.Prelude.{Result, Ok, Err}
use Rattle.octets.specs.declared.refusals.Refusal.{Refusal}
use Rattle.listing_rules.proofs.Prelude.{◌∙◌, ◌≡◌, ap, refl, sym, Bool, false, false≢true, true, List, ◌++◌, map, map-append, min, ℕ, arith, leb, leb-true}
use Rattle.listing_rules.proofs.Prelude.{drop, length, take, take-append-drop, take_at}
use Rattle.listing_rules.specs.Table.{passes}
use Rattle.listing_rules.specs.Command.{editing, parsed}
use Rattle.listing_rules.specs.Namespaces.{namespaces_pass}
use Rattle.listing_rules.specs.Readers.{is_reader}
use Rattle.listing_rules.specs.Subscriptions.{spelled}
use Rattle.listing_rules.specs.Lines.{ok_line}
use Rattle.listing_rules.specs.Server.{answered, limited, changes}
use Rattle.listing_rules.specs.Summary.{Summed, sums_edited, SummedCommand, summed_command}
use Rattle.listing_rules.proofs.ListLaws.{map_drop}
use Rattle.listing_rules.proofs.SummaryCommands.{untouched}
use Rattle.octets.specs.Refusals.{number_of}
use Rattle.octets.specs.Written.{Gives}
use Rattle.octets.specs.Put.{Put}
use Rattle.octets.proofs.Writing.{written_fits}
use Rattle.records.specs.Words.{record_of}
use Rattle.records.specs.Numbers.{summary_of}
use Rattle.records.specs.Lent.{lent_of, word_summed, words_summed, words_table}
use Rattle.command_line.specs.declared.Command.{Command}
use Rattle.command_line.specs.Commands.{name_of}
use Rattle.command_tokens.specs.Spans.{span_bytes}
use Rattle.subscriptions.specs.declared.Change.{Change}
use Rattle.subscriptions.specs.Plans.{Decision, edited_name}
use Rattle.subscriptions.specs.Applied.{words_after, area_after, change_of}
use Rattle.subscriptions.specs.Summed.{numbers_after}
use Rattle.subscriptions.specs.Stored.{whole_store, plan_of, Decides, is_done, KeepsSums}
use Rattle.subscriptions.specs.Editing.{Cells, cells, lent_plan, lent_front, with_rest, cells_after, Edits}
use Rattle.server.specs.declared.Stored.{Stored}
use Rattle.server.specs.Answering.{memory, words_left, change_left, Answers}
use Rattle.server.specs.Edits.{Reads, edit_kind, subscribe_kind, edit_of, edit_command}
use Rattle.server.proofs.EditLaws.{an_edit, comes_edit}
use Rattle.server.proofs.EditedLaws.{refused_plan, done_plan, refuses_same, plan_1, plan_refuses, decided, keeps, plan_own, plan_done, plan_fitting, name_is_lem}
use Rattle.server.proofs.AnswerLaws.{between_front, front_size, sums_size, front_inside, front_is_lem, passes_on, comes_unsound, alone_refused}

-- An edit of reader 0, beside a namespace list that passes: what `subscriptions::edit` returned and left.
module _ (ws sums : List ℕ) (count : ℕ) (area l : List ℕ) (c : Command) (out : List ℕ) (reads : Reads l c) (k : edit_kind c.kind ≡ true)
    (spaces : List ℕ) (listed : namespaces_pass spaces ≡ true) where
  abbrev n : ℕ
  n = min (length ws) (length sums)

  abbrev front : List ℕ
  front = take n ws

  abbrev numbers : List ℕ
  numbers = take n sums

  abbrev all : Summed
  all = words_summed (take n ws) count area (take n sums)

  abbrev own : Decision
  own = plan_of (take n ws) count area (edit_of l c)

  abbrev tag : List ℕ
  tag = span_bytes l c.tag

  abbrev plan : Decision
  plan = lent_plan (cells ws sums area) count (subscribe_kind c.kind) (spelled (name_of l c)) (leb (length (ok_line tag)) (length out))

  abbrev result : SummedCommand
  result = summed_command 0 (word_summed ws (length ws) count area sums) spaces l out

  sized : length (take n ws) ≡ length (take n sums)
  sized = sym (front_size ws sums n refl) ∙ sums_size ws sums n refl

  known : is_reader 0 ≡ true
  unfolding is_reader
  known = refl

  same : all ≡ word_summed ws (length ws) count area sums
  same = front_is_lem ws sums count 0 area spaces l out n refl

  -- where the table passes
  comes : passes (words_table front count area numbers) ≡ true → edit_command all l c out ≡ result
  comes h =
      ap (λ (t : Summed). edit_command t l c out) same
      ∙ sym (comes_edit 0 (word_summed ws (length ws) count area sums) spaces l out known (passes_on ws sums count 0 area spaces l out n refl known h) listed c
      (an_edit l c reads k))

  refuses : (j : ℕ) → plan ≡ Err j → result ≡ untouched (word_summed ws (length ws) count area sums) j
  refuses j e = go (passes (words_table front count area numbers)) refl
    where
      go : (b : Bool) → passes (words_table front count area numbers) ≡ b → result ≡ untouched (word_summed ws (length ws) count area sums) j
      go true h =
          sym (comes h) ∙ plan_refuses front numbers count area l c out sized h j e ∙ ap (λ (t : Summed). untouched t j) same
      go false h =
          let number : 1 ≡ j = refuses_same 1 j (sym (plan_1 front numbers count area l c out sized h) ∙ e) in
          comes_unsound ws sums count 0 area spaces l out n refl known h ∙ ap (untouched (word_summed ws (length ws) count area sums)) number

  -- the words that are lent, and those after them
  whole_words : take n ws ++ drop n ws ≡ ws
  whole_words = take-append-drop n ws

  whole_sums : take n sums ++ drop n sums ≡ sums
  whole_sums = take-append-drop n sums

  pub edit_refused : (j : Refusal) (d : Cells) (r : Stored) → Edits (cells ws sums area) d count (subscribe_kind c.kind) (spelled (name_of l c))
      (leb (length (ok_line tag)) (length out)) (Err j)
      → r ≡ record { written = Err j; count = count; from = 0; to = 0 }
      → Answers (memory ws sums area out) (memory d.words d.sums d.area out) count 0 spaces l r
  unfolding words_after area_after numbers_after
  edit_refused j d r x e =
      let p = refused_plan plan count (number_of j) x.answer in
      let left : d ≡ cells ws sums area = x.leaves ∙ rw p (λ i. cells (whole_words i) (whole_sums i) area) in
      rw left (alone_refused ws sums count 0 area spaces l out j r (refuses (number_of j) p) e)

  -- where it was made, the table passes
  sound : is_done plan ≡ true → passes (words_table front count area numbers) ≡ true
  sound h = go (passes (words_table front count area numbers)) refl
    where
      go : (b : Bool) → passes (words_table front count area numbers) ≡ b → passes (words_table front count area numbers) ≡ true
      go true e = e
      go false e = absurd (false≢true (ap is_done (sym (plan_1 front numbers count area l c out sized e)) ∙ h))

  pub edit_done : (ch : Change) (d : Cells) (out' : List ℕ) (end : ℕ) → Edits (cells ws sums area) d count (subscribe_kind c.kind) (spelled (name_of l c))
      (leb (length (ok_line tag)) (length out)) (Ok ch)
      → Put out out' 0 (ok_line tag) end
      → Answers (memory ws sums area out) (memory d.words d.sums d.area out') count 0 spaces l
      (record { written = Ok end; count = ch.count; from = ch.from; to = ch.to })
  unfolding words_left change_left limited
  edit_done ch d out' end x put =
      rw (left, changed) (record {
        written = gives.0 ∙ rw (← said, fits);
        count_is = ap (λ (y : SummedCommand). y.left.store.count) (sym made);
        changed =
            keeping.changes_so done tag ok
            ∙ (λ i. changes (same i).store (sym edits i) (sym said i));
        bytes = gives.1 ∙ rw (← said, fits);
        area_is = ap (λ (y : SummedCommand). y.left.store.area) (sym made);
        records = ap (map record_of) taken ∙ ap (λ (y : SummedCommand). y.left.store.records) (sym made);
        summary =
            map-append summary_of ts (drop n sums)
            ∙ (λ i. (keeping.leaves done ∙ ap (λ (y : SummedCommand). y.left.summary) (sym made)) i
            ++ (map_drop summary_of n sums ∙ ap (λ (j : ℕ). drop j (map summary_of sums)) whole) i);
        words = sym (λ i. words_left (edits i) (said i) ws n count area);
        change = sym (λ i. change_left (edits i) (said i) ws n count area);
        between =
            between_front ws es n (length front) n (change_of own count).from (change_of own count).to (front_inside ws sums n refl)
            (omega (arith, front_size ws sums n refl)) deciding.between;
      })
    where
      ok : List ℕ
      ok = ok_line tag

      N : List ℕ
      N = edited_name (edit_of l c)

      planned : (ch ≡ change_of plan count) × (is_done plan ≡ true)
      planned = done_plan plan count ch x.answer

      h : passes (words_table front count area numbers) ≡ true
      h = sound planned.1

      own_is : plan ≡ own
      own_is = plan_own front numbers count area l c out sized h planned.1

      done : is_done own ≡ true
      done = ap is_done (sym own_is) ∙ planned.1

      changed : ch ≡ change_of own count
      changed = planned.0 ∙ ap (λ (p : Decision). change_of p count) own_is

      deciding : Decides front count area (edit_of l c) own
      deciding = decided front numbers count area l c out sized h

      keeping : KeepsSums front count area numbers (edit_of l c) own
      keeping = keeps front numbers count area l c out sized h

      es : List ℕ
      es = words_after own front count N

      ts : List ℕ
      ts = numbers_after own numbers (take count front) area N

      left : d ≡ cells (es ++ drop n ws) (ts ++ drop n sums) (area_after own front area N)
      left = x.leaves ∙ (λ i. with_rest (cells ws sums area) (cells_after (own_is i) (lent_front (cells ws sums area)) count (sym (name_is_lem l c) i)))

      made : result
          ≡ record
          { reply = answered ok; left = record { store = whole_store es (change_of own count).count (area_after own front area N); summary = sums_edited all (edit_of l c) } }
      made = sym (comes h) ∙ plan_done front numbers count area l c out sized h planned.1

      said : result.reply ≡ answered ok
      said = ap (λ (y : SummedCommand). y.reply) made

      edits : parsed l ≡ editing tag (edit_of l c)
      edits = an_edit l c reads k

      fits : leb (length ok) (length out) ≡ true
      fits = plan_fitting front numbers count area l c out sized h planned.1

      gives : Gives (answered ok) out out' (Ok end)
      gives = written_fits out ok put (leb-true (length ok) (length out) fits)

      whole : n ≡ lent_of ws (length ws) sums
      whole = omega arith

      taken : take n (es ++ drop n ws) ≡ es
      taken = take_at es (drop n ws) n (deciding.between.size ∙ sym (front_size ws sums n refl))

-- Of what `edit_line` has at hand: whether it is SUBSCRIBE, the name, the tag, and whether the answer fits
module _ (ws sums : List ℕ) (count : ℕ) (area l : List ℕ) (c : Command) (out : List ℕ) (reads : Reads l c) (k : edit_kind c.kind ≡ true)
    (spaces : List ℕ) (listed : namespaces_pass spaces ≡ true) (b : Bool) (n t : List ℕ) (f : Bool) (eb : b ≡ subscribe_kind c.kind)
    (en : n ≡ spelled (name_of l c)) (et : t ≡ span_bytes l c.tag) (ef : f ≡ leb (length (ok_line t)) (length out)) where
  pub line_refused : (j : Refusal) (d : Cells) (res : Result Change Refusal) (r : Stored) → Edits (cells ws sums area) d count b n f res → res ≡ Err j
      → r ≡ record { written = Err j; count = count; from = 0; to = 0 }
      → Answers (memory ws sums area out) (memory d.words d.sums d.area out) count 0 spaces l r
  line_refused j d res r x e h =
      edit_refused ws sums count area l c out reads k spaces listed j d r (rw (eb, en, ef, et, e) at x) h

  pub line_done : (ch : Change) (d : Cells) (res : Result Change Refusal) (out' : List ℕ) (end : ℕ) → Edits (cells ws sums area) d count b n f res → res ≡ Ok ch
      → Put out out' 0 (ok_line t) end
      → Answers (memory ws sums area out) (memory d.words d.sums d.area out') count 0 spaces l
      (record { written = Ok end; count = ch.count; from = ch.from; to = ch.to })
  line_done ch d res out' end x e put =
      edit_done ws sums count area l c out reads k spaces listed ch d out' end (rw (eb, en, ef, et, e) at x) (rw et at put)
