-- One command over words and numbers of which as many are lent as there are of both: from what it comes to over those alone. Rests on Order and EditLaws.
use Rattle.std.specs.Prelude.{Result, Err}
use Rattle.octets.specs.declared.refusals.Refusal.{Refusal}
use Rattle.octets.specs.declared.refusals.Refusal.TheVariants.{Reader, Table}
use Rattle.octets.specs.Refusals.{number_of, numbered}
use Rattle.listing_rules.proofs.Prelude.{◌∙◌, ◌≡◌, ap, refl, subst, sym, eqb, false, false≢true, true, List, ◌++◌, append_assoc, map, ◌+◌, ◌-◌, ◌≤◌}
use Rattle.listing_rules.proofs.Prelude.{min, ℕ, arith, drop, length, length-append, length-drop, take, take-append-drop, drop-append-le}
use Rattle.listing_rules.proofs.Prelude.{length-take-le, Bool, paste, paste-zero, take-append-le}
use Rattle.listing_rules.specs.Table.{passes}
use Rattle.listing_rules.specs.Command.{Parsed, refused, namespace, listing, root_of, subscriptions, editing, parsed, is_edit}
use Rattle.listing_rules.specs.Namespaces.{namespaces_pass}
use Rattle.listing_rules.specs.Readers.{is_reader, visible}
use Rattle.listing_rules.specs.Subscriptions.{held}
use Rattle.listing_rules.specs.Server.{Reply, refusal, limited, buffer_after, changes}
use Rattle.listing_rules.specs.Summary.{Summary, Summed, summed_table, SummedCommand, summed_command}
use Rattle.listing_rules.proofs.ListLaws.{map_take}
use Rattle.listing_rules.proofs.SummaryCommands.{untouched, changes_refused, changes_read}
use Rattle.octets.specs.Written.{written_is, Gives}
use Rattle.records.specs.Words.{record_of}
use Rattle.records.specs.Numbers.{summary_of}
use Rattle.records.specs.Lent.{lent_of, word_store, word_summed, words_summed, words_table}
use Rattle.records.specs.Stores.{Between}
use Rattle.command_line.specs.declared.Command.{Command}
use Rattle.mailbox_table.specs.Index.{rows_at}
use Rattle.mailbox_table.specs.Seen.{seen_words}
use Rattle.mailbox_table.proofs.SeenLaws.{seen_rows}
use Rattle.server.specs.declared.Stored.{Stored}
use Rattle.server.specs.Replies.{read_only, command_reply, seen_reply}
use Rattle.server.specs.Answering.{Memory, memory, words_left, change_left, Answers}
use Rattle.server.specs.Edits.{Reading}
use Rattle.server.proofs.Order.{refused_with_lem, seen_2, seen_16, seen_on}
use Rattle.server.proofs.EditLaws.{an_edit, reads, edit_read, comes_16, comes_1, comes_2, comes_read, comes_edit}

-- words that change at the front of others
paste_front : (f es rest : List ℕ) (from m : ℕ) → length es ≡ length f → from + m ≤ length f → es ≡ paste f from (drop from es) m
    → es ++ rest ≡ paste (f ++ rest) from (drop from (es ++ rest)) m
paste_front f es rest from m l h e =
    let d : drop from (es ++ rest) ≡ drop from es ++ rest = drop-append-le from es rest (omega (arith, l, h)) in
    let t : take m (drop from es ++ rest) ≡ take m (drop from es) = take-append-le m (drop from es) rest (omega (arith, l, h, length-drop from es)) in
    ap (λ (x : List ℕ). x ++ rest) e
    ∙ rw (take-append-le from f rest (omega (arith, h)), d, t, drop-append-le (from + m) f rest h)
    (append_assoc (take from f ++ take m (drop from es)) (drop (from + m) f) rest)

pub between_front : (ws es : List ℕ) (n m k from to : ℕ) → n ≤ length ws → m ≤ k → Between (take n ws) es m from to →
    Between ws (es ++ drop n ws) k from to
between_front ws es n m k from to inside h b =
    let last : from + (to - from) ≡ to = omega (arith, b.order) in
    let front : length (take n ws) ≡ n = length-take-le n ws inside in
    record {
      order = b.order;
      lent_only = omega (arith, b.lent_only, h);
      within = omega (arith, b.within, front, inside);
      size = omega (arith, length-append es (drop n ws), b.size, front, length-drop n ws, inside);
      others =
          subst (λ (z : List ℕ). es ++ drop n ws ≡ paste z from (drop from (es ++ drop n ws)) (to - from)) (take-append-drop n ws)
          (paste_front (take n ws) es (drop n ws) from (to - from) b.size (omega (arith, last, b.within)) b.others);
    }

-- as many words as there are words and numbers
module _ (ws sums : List ℕ) (n : ℕ) (least : n ≡ min (length ws) (length sums)) where
  pub front_size : n ≡ length (take n ws)
  front_size = sym (length-take-le n ws (omega (arith, least)))

  pub sums_size : n ≡ length (take n sums)
  sums_size = sym (length-take-le n sums (omega (arith, least)))

  pub front_inside : n ≤ length ws
  front_inside = omega (arith, least)

  pub sums_inside : n ≤ length sums
  sums_inside = omega (arith, least)

-- a command that leaves the words: a refusal, or one that reads
pub left_refused : (p : Parsed) (k : ℕ) (ws : List ℕ) (lent count : ℕ) (area : List ℕ)
    → (words_left p (refusal k) ws lent count area ≡ ws) × (change_left p (refusal k) ws lent count area ≡ record { from = 0; to = 0; count = count })
unfolding words_left change_left
left_refused (editing tag e) k ws lent count area = (refl, refl)
left_refused (refused j) k ws lent count area = (refl, refl)
left_refused (namespace tag) k ws lent count area = (refl, refl)
left_refused (listing tag o ps) k ws lent count area = (refl, refl)
left_refused (root_of tag) k ws lent count area = (refl, refl)
left_refused (subscriptions tag ps) k ws lent count area = (refl, refl)

pub left_read : (p : Parsed) (r : Reply) (ws : List ℕ) (lent count : ℕ) (area : List ℕ) → is_edit p ≡ false
    → (words_left p r ws lent count area ≡ ws) × (change_left p r ws lent count area ≡ record { from = 0; to = 0; count = count })
unfolding words_left change_left is_edit
left_read (editing tag e) r ws lent count area h = absurd (false≢true (sym h))
left_read (refused j) r ws lent count area h = (refl, refl)
left_read (namespace tag) r ws lent count area h = (refl, refl)
left_read (listing tag o ps) r ws lent count area h = (refl, refl)
left_read (root_of tag) r ws lent count area h = (refl, refl)
left_read (subscriptions tag ps) r ws lent count area h = (refl, refl)

module _ (ws sums : List ℕ) (count reader : ℕ) (area spaces l out : List ℕ) where
  -- the command over what is lent
  abbrev m : Summed
  m = word_summed ws (length ws) count area sums

  abbrev C : SummedCommand
  C = summed_command reader m spaces l out

  -- the memory, with another answer buffer
  abbrev before : Memory
  before = memory ws sums area out

  -- how many are lent
  lent_is : lent_of ws (length ws) sums ≡ min (length ws) (length sums)
  lent_is = omega arith

  -- nothing changed
  pub alone : (w : Result ℕ Refusal) (out' : List ℕ) (r : Stored) → C.left ≡ m → changes m.store (parsed l) C.reply ≡ false
      → (words_left (parsed l) C.reply ws (min (length ws) (length sums)) count area ≡ ws)
      × (change_left (parsed l) C.reply ws (min (length ws) (length sums)) count area ≡ record { from = 0; to = 0; count = count })
      → numbered w ≡ written_is C.reply → out' ≡ buffer_after out C.reply
      → r ≡ record { written = w; count = count; from = 0; to = 0 } → Answers before (memory ws sums area out') count reader spaces l r
  alone w out' r e d stay f g h =
      rw h (record {
        written = f;
        count_is = ap (λ (t : Summed). t.store.count) (sym e);
        changed = sym d;
        bytes = g;
        area_is = ap (λ (t : Summed). t.store.area) (sym e);
        records = ap (λ (k : ℕ). map record_of (take k ws)) (sym lent_is) ∙ ap (λ (t : Summed). t.store.records) (sym e);
        summary =
            sym (take-append-drop (lent_of ws (length ws) sums) (map summary_of sums))
            ∙ ap (λ (x : List Summary). x ++ drop (lent_of ws (length ws) sums) (map summary_of sums))
            (sym (map_take summary_of (lent_of ws (length ws) sums) sums) ∙ ap (λ (t : Summed). t.summary) (sym e));
        words = sym stay.0;
        change = sym stay.1;
        between = record { order = omega arith; lent_only = omega arith; within = omega arith; size = refl; others = paste-zero ws 0 ws };
      })

  -- by a refusal
  pub alone_short : (k : ℕ) (w : Result ℕ Refusal) (out' : List ℕ) (r : Stored) → C ≡ untouched m k → Gives (refusal k) out out' w
      → r ≡ record { written = w; count = count; from = 0; to = 0 } → Answers before (memory ws sums area out') count reader spaces l r
  unfolding limited
  alone_short k w out' r e g h =
      alone w out' r (ap (λ (x : SummedCommand). x.left) e)
      (ap (λ (x : SummedCommand). changes m.store (parsed l) x.reply) e ∙ changes_refused m.store (parsed l) k)
      (rw e (left_refused (parsed l) k ws (min (length ws) (length sums)) count area))
      (g.0 ∙ ap (λ (x : SummedCommand). written_is x.reply) (sym e)) (g.1 ∙ ap (λ (x : SummedCommand). buffer_after out x.reply) (sym e)) h

  pub alone_refused : (e : Refusal) (r : Stored) → C ≡ untouched m (number_of e) → r ≡ record { written = Err e; count = count; from = 0; to = 0 }
      → Answers before before count reader spaces l r
  alone_refused e r f h = alone_short (number_of e) (Err e) out r f (refused_with_lem e out) h

  -- 16 above reader 7
  pub refused_16 : (r : Stored) → is_reader reader ≡ false → r ≡ record { written = Err Reader; count = count; from = 0; to = 0 }
      → Answers before before count reader spaces l r
  refused_16 r h e = alone_refused Reader r (comes_16 reader m spaces l out h) e

  -- the words and numbers that are lent, n of them
  module _ (n : ℕ) (least : n ≡ min (length ws) (length sums)) where
    whole : n ≡ lent_of ws (length ws) sums
    whole = least ∙ sym lent_is

    pub front_is_lem : words_summed (take n ws) count area (take n sums) ≡ m
    front_is_lem = λ i. record { store = word_store ws (whole i) count area; summary = map summary_of (take (whole i) sums) }

    -- 1, 2, and a command that reads, of a reader up to 7
    module _ (known : is_reader reader ≡ true) where
      pub comes_unsound : passes (words_table (take n ws) count area (take n sums)) ≡ false → C ≡ untouched m 1
      comes_unsound h = comes_1 reader m spaces l out known (ap (λ (t : Summed). passes (summed_table t)) (sym front_is_lem) ∙ h)

      pub refused_1 : (r : Stored) → passes (words_table (take n ws) count area (take n sums)) ≡ false
          → r ≡ record { written = Err Table; count = count; from = 0; to = 0 } → Answers before before count reader spaces l r
      refused_1 r h e = alone_refused Table r (comes_unsound h) e

      module _ (passed : passes (words_table (take n ws) count area (take n sums)) ≡ true) where
        pub passes_on : passes (summed_table m) ≡ true
        passes_on = ap (λ (t : Summed). passes (summed_table t)) (sym front_is_lem) ∙ passed

        -- over an index that tells the records: 2, then the line, where an edit is of another reader than 0
        module _ (read : Result Command Refusal) (told : Reading l read)
            (other : namespaces_pass spaces ≡ true → is_edit (parsed l) ≡ true → eqb reader 0 ≡ false)
            (index : List ℕ) (is_told : map record_of index ≡ take count (map record_of (take n ws))) where
          stranger : namespaces_pass spaces ≡ true → is_edit (parsed l) ≡ true → C ≡ untouched m 16
          stranger listed edits =
              let c = edit_read l read told edits in
              comes_edit reader m spaces l out known passes_on listed c.0 (an_edit l c.0 (reads l read told c.0 c.1) c.2) ∙ rw (other listed edits)

          module _ {out' : List ℕ} {w : Result ℕ Refusal} (r : Stored) (e : r ≡ record { written = w; count = count; from = 0; to = 0 }) where
            -- the rows that the reader sees
            reading : namespaces_pass spaces ≡ true → is_edit (parsed l) ≡ false
                → Gives (command_reply area (seen_words reader index) spaces l) out out' w
                → Answers before (memory ws sums area out') count reader spaces l r
            unfolding held read_only
            reading listed plain g =
                let x = comes_read reader m spaces l out known passes_on listed plain in
                let rows_are : rows_at area (seen_words reader index) ≡ visible reader area (take count m.store.records)
                = seen_rows reader area index ∙ ap (visible reader area) (is_told ∙ ap (λ (t : Summed). take count t.store.records) front_is_lem) in
                let y : C ≡ record { reply = limited (length out) (command_reply area (seen_words reader index) spaces l); left = m } = x ∙ rw
                (rows_are, plain) in
                alone w out' r (ap (λ (d : SummedCommand). d.left) y) (changes_read m.store (parsed l) C.reply plain)
                (left_read (parsed l) C.reply ws (min (length ws) (length sums)) count area plain)
                (g.0 ∙ ap (λ (d : SummedCommand). written_is d.reply) (sym y))
                (g.1 ∙ ap (λ (d : SummedCommand). buffer_after out d.reply) (sym y)) e

            pub answered_read : Gives (seen_reply area (seen_words reader index) spaces l) out out' w
                → Answers before (memory ws sums area out') count reader spaces l r
            answered_read g = go (namespaces_pass spaces) refl
              where
                by : (p : Reply) → seen_reply area (seen_words reader index) spaces l ≡ p → Gives p out out' w
                by p h = subst (λ (q : Reply). Gives q out out' w) h g

                on : namespaces_pass spaces ≡ true → (b : Bool) → is_edit (parsed l) ≡ b → Answers before (memory ws sums area out') count reader spaces l r
                on f true h = alone_short 16 w out' r (stranger f h) (by (refusal 16) (seen_16 area (seen_words reader index) spaces l f h)) e
                on f false h = reading f h (by (command_reply area (seen_words reader index) spaces l) (seen_on area (seen_words reader index) spaces l f h))

                go : (b : Bool) → namespaces_pass spaces ≡ b → Answers before (memory ws sums area out') count reader spaces l r
                go false f =
                    alone_short 2 w out' r (comes_2 reader m spaces l out known passes_on f)
                    (by (refusal 2) (seen_2 area (seen_words reader index) spaces l f)) e
                go true f = on f (is_edit (parsed l)) refl
