-- The result of a command by its kind and the refusals in their order; and the name of an edit in its buffer. Rests on laws of listing_rules.
use Rattle.std.specs.Prelude.{Some, None, Result, Ok, Err}
use Rattle.octets.specs.declared.refusals.Refusal.{Refusal}
use Rattle.octets.specs.Refusals.{number_of}
use Rattle.listing_rules.proofs.Prelude.{◌∙◌, ◌≡◌, ap, refl, subst, sym, Bool, ◌&&◌, cond, false, false≢true, true, List, ◌++◌, ◌≤◌, ℕ, arith, eqb, drop}
use Rattle.listing_rules.proofs.Prelude.{length, length-append, take, length-take-le, take-append_seam, take_at}
use Rattle.octets.specs.Put.{Put}
use Rattle.octets.proofs.Puts.{put_length, front}
use Rattle.listing_rules.specs.Command.{Parsed, refused, editing, parsed, is_edit}
use Rattle.listing_rules.specs.Namespaces.{entries, namespaces_pass}
use Rattle.listing_rules.specs.Table.{rows, passes}
use Rattle.listing_rules.specs.Readers.{is_reader, visible}
use Rattle.listing_rules.specs.Subscriptions.{Store, store_table, store_seen, held, spelled, denied, edited}
use Rattle.listing_rules.proofs.ReaderLaws.{records_seen_is, store_seen_passes}
use Rattle.listing_rules.proofs.CommandLaws.{attempted_reads, concluded_reads}
use Rattle.listing_rules.specs.Lines.{ok_line}
use Rattle.listing_rules.specs.Server.{answered, answer_to, answer, limited, attempted, unchanged_by, concluded, commanded_over, commanded}
use Rattle.listing_rules.specs.Summary.{Summed, agrees, summed_table, summed_command}
use Rattle.listing_rules.proofs.SummaryCommands.{with_sums, untouched, stranger_summed, unsound_summed, disagrees_refused, table_with, summed_as}
use Rattle.listing_rules.proofs.SummaryCommands.{refused_with_lem, read_sums}
use Rattle.listing_rules.proofs.SummaryAlike.{grown_parts}
use Rattle.command_line.specs.declared.Kind.{Kind}
use Rattle.command_line.specs.declared.Kind.TheVariants.{List as Listing, Root, Namespace, Lsub, Subscribe, Unsubscribe}
use Rattle.command_line.specs.declared.Command.{Command}
use Rattle.command_line.specs.Commands.{meaning_of, meaning_as}
use Rattle.command_tokens.specs.Spans.{span_bytes}
use Rattle.server.specs.Edits.{Fronts, Reads, Reading, edit_kind, own_edit, edit_as, edit_of, edit_stored, edit_parsed, edit_command}

-- a command that was read is an edit exactly if its kind is one, and then it is this edit
module _ (l : List ℕ) (c : Command) (r : Reads l c) where
  as_kind : (k : Kind) → c.kind ≡ k → meaning_as k l c ≡ parsed l
  unfolding meaning_of
  as_kind k e = ap (λ (q : Kind). meaning_as q l c) (sym e) ∙ r.means

  pub no_edit : edit_kind c.kind ≡ false → is_edit (parsed l) ≡ false
  unfolding meaning_as is_edit
  no_edit = go c.kind refl
    where
      go : (k : Kind) → c.kind ≡ k → edit_kind k ≡ false → is_edit (parsed l) ≡ false
      go Listing e h = ap is_edit (sym (as_kind Listing e))
      go Root e h = ap is_edit (sym (as_kind Root e))
      go Namespace e h = ap is_edit (sym (as_kind Namespace e))
      go Lsub e h = ap is_edit (sym (as_kind Lsub e))
      go Subscribe e h = absurd (false≢true (sym h))
      go Unsubscribe e h = absurd (false≢true (sym h))

  pub an_edit : edit_kind c.kind ≡ true → parsed l ≡ editing (span_bytes l c.tag) (edit_of l c)
  unfolding meaning_as edit_as
  an_edit = go c.kind refl
    where
      go : (k : Kind) → c.kind ≡ k → edit_kind k ≡ true → parsed l ≡ editing (span_bytes l c.tag) (edit_of l c)
      go Subscribe e h = sym (as_kind Subscribe e) ∙ rw e
      go Unsubscribe e h = sym (as_kind Unsubscribe e) ∙ rw e
      go Listing e h = absurd (false≢true h)
      go Root e h = absurd (false≢true h)
      go Namespace e h = absurd (false≢true h)
      go Lsub e h = absurd (false≢true h)

  pub kind_is_lem : edit_kind c.kind ≡ is_edit (parsed l)
  unfolding is_edit
  kind_is_lem = go (edit_kind c.kind) refl
    where
      go : (b : Bool) → edit_kind c.kind ≡ b → b ≡ is_edit (parsed l)
      go true e = ap is_edit (sym (an_edit e))
      go false e = sym (no_edit e)

-- a line that was read as a command, or refused
module _ (l : List ℕ) (r : Result Command Refusal) (told : Reading l r) where
  pub reads : (c : Command) → r ≡ Ok c → Reads l c
  reads c e =
      let t : Reading l (Ok c) = subst (λ (q : Result Command Refusal). Reading l q) e told in
      record { means = t.means; inside = t.inside }

  pub refuses : (e : Refusal) → r ≡ Err e → refused (number_of e) ≡ parsed l
  refuses e h = (subst (λ (q : Result Command Refusal). Reading l q) h told).means

  -- what is an edit was read as one, and is no reader's own but of reader 0
  pub edit_read : is_edit (parsed l) ≡ true → (c : Command) × (r ≡ Ok c) × (edit_kind c.kind ≡ true)
  unfolding is_edit
  edit_read h = go r refl
    where
      go : (q : Result Command Refusal) → r ≡ q → (c : Command) × (r ≡ Ok c) × (edit_kind c.kind ≡ true)
      go (Ok c) e = (c, e, kind_is_lem l c (reads c e) ∙ h)
      go (Err k) e = absurd (false≢true (ap is_edit (refuses k e) ∙ h))

not_own : (b k n : Bool) → (b && (k && n)) ≡ false → k ≡ true → n ≡ true → b ≡ false
not_own false k n h e f = refl
not_own true true true h e f = h
not_own true true false h e f = sym f
not_own true false n h e f = sym e

-- an edit that its reader may make
pub own_edit_is : (r : Result Command Refusal) (reader : ℕ) (spaces : List ℕ) (c : Command) → own_edit r reader spaces ≡ Some c →
    (r ≡ Ok c) × ((eqb reader 0 && (edit_kind c.kind && namespaces_pass spaces)) ≡ true)
own_edit_is (Ok d) reader spaces c e = go (eqb reader 0 && (edit_kind d.kind && namespaces_pass spaces)) refl e
  where
    go : (b : Bool) → (eqb reader 0 && (edit_kind d.kind && namespaces_pass spaces)) ≡ b → cond b (Some d) None ≡ Some c →
        (◌≡◌ {A = Result Command Refusal} (Ok d) (Ok c)) × ((eqb reader 0 && (edit_kind c.kind && namespaces_pass spaces)) ≡ true)
    go true f h = let same : d ≡ c = cc in (ap Ok same, subst (λ (x : Command). (eqb reader 0 && (edit_kind x.kind && namespaces_pass spaces)) ≡ true) same f)
    go false f h = cc
own_edit_is (Err k) reader spaces c e = cc

pub not_own_edit : (r : Result Command Refusal) (reader : ℕ) (spaces : List ℕ) → own_edit r reader spaces ≡ None → (c : Command) → r ≡ Ok c →
    (eqb reader 0 && (edit_kind c.kind && namespaces_pass spaces)) ≡ false
not_own_edit r reader spaces h c e =
    go (eqb reader 0 && (edit_kind c.kind && namespaces_pass spaces)) refl (ap (λ (q : Result Command Refusal). own_edit q reader spaces) (sym e) ∙ h)
  where
    go : (b : Bool) → (eqb reader 0 && (edit_kind c.kind && namespaces_pass spaces)) ≡ b → cond b (Some c) None ≡ None →
        (eqb reader 0 && (edit_kind c.kind && namespaces_pass spaces)) ≡ false
    go true f g = cc
    go false f g = f

-- an edit that its reader may not make, beside a namespace list that passes, is of another reader than 0
pub stranger : (l : List ℕ) (r : Result Command Refusal) → Reading l r → (reader : ℕ) (spaces : List ℕ) → own_edit r reader spaces ≡ None →
    namespaces_pass spaces ≡ true → is_edit (parsed l) ≡ true → eqb reader 0 ≡ false
stranger l r told reader spaces h listed edits =
    let c = edit_read l r told edits in
    not_own (eqb reader 0) (edit_kind c.0.kind) (namespaces_pass spaces) (not_own_edit r reader spaces h c.0 c.1) c.2 listed

-- what a reader's command over a store comes to where its table and the list pass
module _ (reader : ℕ) (s : Store) (spaces l out : List ℕ) (known : is_reader reader ≡ true) (passed : passes (store_table s) ≡ true) where
  stored_2 : namespaces_pass spaces ≡ false → commanded reader s spaces l out ≡ unchanged_by s 2
  unfolding commanded commanded_over answer concluded
  stored_2 f = rw (known, store_seen_passes reader s, passed, f)

  -- a command that reads is answered over what the reader sees
  seen_rows : rows (store_seen reader s) ≡ visible reader s.area (held s)
  unfolding store_seen store_table held rows
  seen_rows = ap rows (records_seen_is reader s.area s.records s.count passed)

  stored_read : namespaces_pass spaces ≡ true → is_edit (parsed l) ≡ false
      → commanded reader s spaces l out
      ≡ record { reply = limited (length out) (answer_to (visible reader s.area (held s)) (entries spaces) (parsed l)); store = s }
  unfolding commanded commanded_over answer
  stored_read f g =
      rw (known, store_seen_passes reader s, passed, f, attempted_reads reader s (parsed l) g, seen_rows)
      (concluded_reads s (length out) (answer_to (visible reader s.area (held s)) (entries spaces) (parsed l)))

  stored_edit : namespaces_pass spaces ≡ true → (c : Command) → parsed l ≡ edit_parsed l c
      → commanded reader s spaces l out ≡ cond (eqb reader 0) (edit_stored s l c out) (unchanged_by s 16)
  unfolding commanded commanded_over answer answer_to attempted concluded
  stored_edit f c g = rw (known, store_seen_passes reader s, passed, f, g) (go (eqb reader 0))
    where
      go : (b : Bool) → concluded s (length out) (cond b (edited s (edit_of l c)) (denied 16)) (answered (ok_line (span_bytes l c.tag)))
          ≡ cond b (edit_stored s l c out) (unchanged_by s 16)
      go true = refl
      go false = refl

-- what it comes to with the summary, by the refusals in their order
module _ (reader : ℕ) (m : Summed) (spaces l out : List ℕ) where
  pub comes_16 : is_reader reader ≡ false → summed_command reader m spaces l out ≡ untouched m 16
  comes_16 = stranger_summed reader m spaces l out

  module _ (known : is_reader reader ≡ true) where
    pub comes_1 : passes (summed_table m) ≡ false → summed_command reader m spaces l out ≡ untouched m 1
    comes_1 e = go (agrees m) refl
      where
        go : (b : Bool) → agrees m ≡ b → summed_command reader m spaces l out ≡ untouched m 1
        go true a = unsound_summed reader m spaces l out known (ap passes (sym (table_with m a)) ∙ e)
        go false a = disagrees_refused reader m spaces l out known a

    module _ (passed : passes (summed_table m) ≡ true) where
      -- as without it
      without : summed_command reader m spaces l out ≡ with_sums m (parsed l) (commanded reader m.store spaces l out)
      without = summed_as m (grown_parts m passed).1 reader spaces l out

      sound : passes (store_table m.store) ≡ true
      sound = (grown_parts m passed).0

      pub comes_2 : namespaces_pass spaces ≡ false → summed_command reader m spaces l out ≡ untouched m 2
      comes_2 f =
          without
          ∙ refused_with_lem m (parsed l) (commanded reader m.store spaces l out) 2 (stored_2 reader m.store spaces l out known sound f)

      pub comes_read : namespaces_pass spaces ≡ true → is_edit (parsed l) ≡ false
          → summed_command reader m spaces l out
          ≡ record
          { reply = limited (length out) (answer_to (visible reader m.store.area (held m.store)) (entries spaces) (parsed l)); left = m }
      comes_read f g =
          without
          ∙ ap (with_sums m (parsed l)) (stored_read reader m.store spaces l out known sound f g)
          ∙ (let r = limited (length out) (answer_to (visible reader m.store.area (held m.store)) (entries spaces) (parsed l)) in
          λ i. record { reply = r; left = record { store = m.store; summary = read_sums m (parsed l) r g i } })

      pub comes_edit : namespaces_pass spaces ≡ true → (c : Command) → parsed l ≡ edit_parsed l c
          → summed_command reader m spaces l out ≡ cond (eqb reader 0) (edit_command m l c out) (untouched m 16)
      comes_edit f c g = without ∙ ap (with_sums m (parsed l)) (stored_edit reader m.store spaces l out known sound f c g) ∙ go (eqb reader 0)
        where
          go : (b : Bool) → with_sums m (parsed l) (cond b (edit_stored m.store l c out) (unchanged_by m.store 16))
              ≡ cond b (edit_command m l c out) (untouched m 16)
          go true = ap (λ (p : Parsed). with_sums m p (edit_stored m.store l c out)) g
          go false = refused_with_lem m (parsed l) (unchanged_by m.store 16) 16 refl

-- a name put at the front of a buffer, and spelled there
pub put_front : (d e bs : List ℕ) (r : ℕ) → Put d e 0 bs r → length bs ≤ length d → Fronts bs e r
put_front d e bs r p h =
    record {
      within = omega (arith, whole, put_length p, h);
      size = sym (length-take-le r e (omega (arith, whole, put_length p, h)));
      bytes = ap (λ (n : ℕ). take n e) whole ∙ ap (take (length bs)) (p.bytes ∙ front d bs h) ∙ take-append_seam bs (drop (length bs) d);
    }
  where
    whole : r ≡ length bs
    whole = omega (arith, p.place, p.fits, h)

pub spelled_front : (e es bs : List ℕ) (r : ℕ) → Fronts bs e r → es ≡ spelled (take r e) → length es ≡ length (take r e) →
    Fronts (spelled bs) (es ++ drop r e) r
spelled_front e es bs r f s k =
    let size : length es ≡ r = k ∙ sym f.size in
    record {
      within = omega (arith, size, length-append es (drop r e));
      size = sym (ap length (take_at es (drop r e) r size) ∙ size);
      bytes = take_at es (drop r e) r size ∙ s ∙ ap spelled f.bytes;
    }
