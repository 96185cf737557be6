-- Laws of frames carried out: bytes added, and what each kind of frame leaves. Rests on LentLaws and frames' StoreLaws.
use Rattle.std.specs.Prelude.{Option, Some, None}
use Rattle.listing_rules.proofs.Prelude.{◌∙◌, ◌≡◌, ap, refl, sym, Bool, cond, false, true, List, [], ◌++◌, ◌+◌, ◌≤◌, ℕ, arith, leb, drop, length}
use Rattle.listing_rules.proofs.Prelude.{length-append, take, drop_at, length-take-le, sets, sets-eq, le-leb, leb-true}
use Rattle.listing_rules.specs.Walk.{walk_by}
use Rattle.listing_rules.specs.Frames.{bytes, Stored, Stepped, refusal_line, walk_line, kept_seen, answering, add_row_to, add_row, add_entry, framed}
use Rattle.octets.specs.Put.{Put}
use Rattle.frames.specs.declared.reading.Frame.{Frame}
use Rattle.frames.specs.declared.reading.Frame.TheVariants.{Table, Namespaces, Command, Walk}
use Rattle.frames.specs.Reading.{frame_is, size_of}
use Rattle.frames.specs.Storing.{has_place, Stores}
use Rattle.frames.proofs.StoreLaws.{stored_now, stored_full}
use Rattle.kept_table.specs.declared.Lengths.{Lengths}
use Rattle.kept_table.specs.declared.outcome.Outcome.{Outcome}
use Rattle.session.specs.declared.carrying.Added.{Added}
use Rattle.kept_table.specs.Kept.{Lent, lent, kept_of, kept_in, stored_in, Within, is_held, lengths_is, outcome_is, Says, Carries}
use Rattle.session.specs.Carrying.{Keeps, AddsRow, numbers_framed, CarriesOut, Ended}
use Rattle.frames.specs.declared.gathering.Gathered.{Gathered}
use Rattle.frames.specs.Gathering.{GatheredRead}
use Rattle.kept_table.specs.Commanding.{ObeysLent}
use Rattle.kept_table.proofs.LentLaws.{says_none, says_refusal, is_held_lem, is_within_lem, carries_said}

-- bytes after those that were added stay
behind_added : (d bs : List ℕ) (used : ℕ) → used + length bs ≤ length d → drop (used + length bs) (sets d used bs) ≡ drop (used + length bs) d
behind_added d bs used h =
    ap (drop (used + length bs)) (sets-eq bs d used h)
    ∙ drop_at (take used d ++ bs) (drop (used + length bs) d) (used + length bs)
    (omega (arith, length-append (take used d) bs, length-take-le used d (omega arith)))

-- bytes added, or no room for them
module _ {d e : List ℕ} {used limit : ℕ} {bs : List ℕ} {r : Option ℕ} (inside : limit ≤ length d) (s : Stores d e used limit bs r) where
  pub keeps_now : (number u : ℕ) (o : List ℕ) → r ≡ Some u → Keeps limit number used bs d e o o (record { len = u; written = 0 })
  unfolding has_place
  keeps_now number u o a =
      let q = stored_now s a in
      let few = leb-true (used + length bs) limit q.0 in
      let now : e ≡ sets d used bs = s.bytes ∙ rw (le-leb limit (length d) inside, q.0) in
      record {
        front = q.2 ∙ rw q.0;
        behind = rw (now, q.1) (behind_added d bs used (omega arith));
        room = omega arith;
        says = rw q.0 (says_none o);
      }

  pub keeps_full : (number w : ℕ) (o p : List ℕ) → used ≤ limit → r ≡ None → Put o p 0 (refusal_line number) w →
      Keeps limit number used bs d e o p (record { len = used; written = w })
  keeps_full number w o p h a put =
      let q = stored_full s a inside in
      record {
        front = ap (take used) q.1 ∙ rw q.0;
        behind = ap (drop used) q.1;
        room = h;
        says = rw q.0 (says_refusal number put);
      }

-- What adding bytes comes to, of an area that holds `area`: they are stored after the others, or there is no room.
abbrev added : ℕ → ℕ → List ℕ → List ℕ → (List ℕ → Stored) → Stepped
added limit number area bs stored =
    let room = leb (length area + length bs) limit in
    record { stored = stored (cond room (area ++ bs) area); output = cond room [] (refusal_line number) }

-- with room for them or without
adding : (b : Bool) (number : ℕ) (area bs : List ℕ) (stored : List ℕ → Stored) →
    ◌≡◌ {A = Stepped} (cond b (answering (stored (area ++ bs)) []) (answering (stored area) (refusal_line number)))
    (record { stored = stored (cond b (area ++ bs) area); output = cond b [] (refusal_line number) })
unfolding answering
adding true number area bs stored = refl
adding false number area bs stored = refl

row_added : (t spaces bs : List ℕ) →
    add_row (record { table = bytes t; namespaces = spaces }) bs ≡ added 16384 1 t bs (λ (u : List ℕ). record { table = bytes u; namespaces = spaces })
unfolding add_row add_row_to
row_added t spaces bs = adding (leb (length t + length bs) 16384) 1 t bs (λ (u : List ℕ). record { table = bytes u; namespaces = spaces })

entry_added : (s : Stored) (bs : List ℕ) →
    add_entry s bs ≡ added 1024 2 s.namespaces bs (λ (n : List ℕ). record { table = s.table; namespaces = n })
unfolding add_entry
entry_added s bs =
    adding (leb (length s.namespaces + length bs) 1024) 2 s.namespaces bs (λ (n : List ℕ). record { table = s.table; namespaces = n })

-- A row: 13 where records are kept, else added or not for want of room.
module _ (n : Lengths) (row t o : List ℕ) (rows : n.table ≤ 16384) where
  row_refused : n.edited ≡ true → (w spaces : List ℕ) →
      add_row (record { table = kept_of n t w; namespaces = spaces }) row ≡ answering (record { table = kept_of n t w; namespaces = spaces })
      (refusal_line 13)
  unfolding add_row add_row_to
  row_refused e w spaces = rw e

  pub adds_not : (p : List ℕ) (k : ℕ) → n.edited ≡ true → Put o p 0 (refusal_line 13) k → AddsRow n row t t o p (outcome_is n k)
  adds_not p k e put w m entries =
      rw (row_refused e w (take n.namespaces m)) (carries_said (lent t w m o) n rows entries (refusal_line 13) p k (says_refusal 13 put))

  pub adds_row : (u p : List ℕ) (r : Added) → n.edited ≡ false → 16384 ≤ length t → Keeps 16384 1 n.table row t u o p r →
      AddsRow n row t u o p (outcome_is (lengths_is r.len n.namespaces n.edited) r.written)
  adds_row u p r e room x w m entries =
      rw (e, row_added (take n.table t) (take n.namespaces m) row, length-take-le n.table t (omega (arith, rows, room))) (record {
        table = ap bytes x.front;
        namespaces = refl;
        table_room = x.room;
        namespaces_room = entries;
        table_behind = x.behind;
        records_behind = refl;
        records_stay = λ e. refl;
        namespaces_behind = refl;
        says = x.says;
      })

-- a frame by the code's answer to its characters, over the bytes at its side
module _ (d : Lent) (n : Lengths) (w : Within n d.table d.records d.namespaces) (f : Option Frame) (bs : List ℕ) where
  pub kind_row : (size : ℕ) (t o : List ℕ) (r : Outcome) → f ≡ Some (Table size) → AddsRow n (take size bs) d.table t d.out o r →
      CarriesOut n bs f d (lent t d.records d.namespaces o) r
  unfolding framed frame_is numbers_framed
  kind_row size t o r e x = rw e (record { carried = x d.records d.namespaces w.entries; numbers = refl })

  pub kind_entry : (size : ℕ) (m o : List ℕ) (k : Added) → f ≡ Some (Namespaces size) →
      Keeps 1024 2 n.namespaces (take size bs) d.namespaces m d.out o k →
      CarriesOut n bs f d (lent d.table d.records m o) (outcome_is (lengths_is n.table k.len n.edited) k.written)
  unfolding framed frame_is numbers_framed
  kind_entry size m o k e x = rw e (record { carried = entry; numbers = refl })
    where
      entry : Carries (add_entry (stored_in d n) (take size bs)) d (lent d.table d.records m o)
          (outcome_is (lengths_is n.table k.len n.edited) k.written)
      entry =
          rw (entry_added (stored_in d n) (take size bs), length-take-le n.namespaces d.namespaces (omega (arith, w.entries, w.namespaces)))
          (record {
            table = refl;
            namespaces = x.front;
            table_room = w.held.rows;
            namespaces_room = x.room;
            table_behind = refl;
            records_behind = refl;
            records_stay = λ e. refl;
            namespaces_behind = x.behind;
            says = x.says;
          })

  pub kind_command : (reader size part : ℕ) (t v o : List ℕ) (r : Outcome) → f ≡ Some (Command reader size) →
      ObeysLent n reader (take part (drop 1 bs)) d (lent t v d.namespaces o) r →
      part ≡ size → CarriesOut n bs f d (lent t v d.namespaces o) r
  unfolding framed frame_is numbers_framed
  kind_command reader size part t v o r e x same =
      let y = x.obeys (is_within_lem w) in
      rw (e, sym same) (record { carried = y.carried; numbers = y.numbers })

  pub kind_walk : (reader option : ℕ) (o : List ℕ) (k : ℕ) → f ≡ Some (Walk reader option) →
      Says (cond (is_held n d.table d.records) (walk_line (walk_by reader (kept_seen reader (kept_in d n)) option 16384 8192 8192)) [])
      d.out o k →
      CarriesOut n bs f d (lent d.table d.records d.namespaces o) (outcome_is n k)
  unfolding framed frame_is numbers_framed
  kind_walk reader option o k e x =
      rw e (record {
        carried =
            carries_said d n w.held.rows w.entries (walk_line (walk_by reader (kept_seen reader (kept_in d n)) option 16384 8192 8192)) o k
            (rw (is_held_lem w.held) at x);
        numbers = refl;
      })

  pub kind_bad : (o : List ℕ) (k : ℕ) → f ≡ None → Put d.out o 0 (refusal_line 13) k →
      CarriesOut n bs f d (lent d.table d.records d.namespaces o) (outcome_is n k)
  unfolding framed frame_is numbers_framed
  kind_bad o k e x =
      rw e (record { carried = carries_said d n w.held.rows w.entries (refusal_line 13) o k (says_refusal 13 x); numbers = refl })

-- the bytes that a frame speaks of are there
module _ {f : Option Frame} {n : ℕ} (s : List ℕ) (h : size_of f ≤ length s) where
  pub whole_row : f ≡ Some (Table n) → n ≡ length (take n s)
  unfolding size_of
  whole_row e = sym (length-take-le n s (rw e at h))

  pub whole_entry : f ≡ Some (Namespaces n) → n ≡ length (take n s)
  unfolding size_of
  whole_entry e = sym (length-take-le n s (rw e at h))

  pub whole_command : {reader : ℕ} → f ≡ Some (Command reader n) → n + 1 ≤ length s
  unfolding size_of
  whole_command e = rw e at h

-- the frame of the characters gathered, carried out
pub ended : {line : List ℕ} {g : Gathered} {n : Lengths} {d e : Lent} (bs cs : List ℕ) (read f : Option Frame) (r : Outcome)
    → GatheredRead line g bs cs read → 2050 ≤ length bs → read ≡ f → CarriesOut n cs f d e r → Ended line g n d e r
ended bs cs read f r x room q y =
    record {
      frame = _;
      read = λ p h. ap (frame_is cs) (sym q) ∙ x.means room p h;
      carried = y.carried;
      numbers = y.numbers;
    }
