-- Laws of feeding: what a ready memory is, that it holds a session always, and what a piece without a line feed and one with it
-- come to. Rests on LineLaws and LentLaws.
use Rattle.std.specs.Prelude.{Option, Some, None}
use Rattle.listing_rules.proofs.Prelude.{◌∙◌, ◌≡◌, ap, refl, subst, sym, Bool, ◌&&◌, cond, false, true, List, [], ◌++◌, ◌+◌, ◌<◌, ◌≤◌, ℕ, arith}
use Rattle.listing_rules.proofs.Prelude.{leb, length, length-replicate, replicate, take, take_all, le-leb, le-ltb, leb-true, lt-ltb}
use Rattle.listing_rules.specs.Frames.{Stepped, Session, Fed as Came, refusal_line, read_frame, framed, step, fed_all, at_end, start}
use Rattle.listing_rules.proofs.Bools.{and_l, and_r}
use Rattle.frames.specs.declared.gathering.Gathered.{Gathered}
use Rattle.frames.specs.Gathering.{HoldsLen, Holds as HoldsFrame, gathered_none, IsEmpty}
use Rattle.frames.proofs.GatherLaws.{holds_none}
use Rattle.session.specs.declared.State.{State}
use Rattle.session.specs.declared.Taken.{Taken as Took}
use Rattle.kept_table.specs.declared.outcome.Outcome.{Outcome}
use Rattle.kept_table.specs.Kept.{Lent, stored_in, Within, Says}
use Rattle.session.specs.Carrying.{numbers_framed, Ended}
use Rattle.session.specs.Feeding.{start_is, len_within, ready, ready_in, Holds, through_line, before_line, gathered_all, line_after, Comes, Feeds, FeedIs}
use Rattle.session.specs.Feeding.{has_line, numbers_fed, Finishes}
use Rattle.session.proofs.LineLaws.{before_all, through_line_lem, holds_all, fed_before, fed_line}
use Rattle.kept_table.proofs.LentLaws.{says_none}

-- what a ready memory is
pub record Sizes (t w n l o : ℕ) (st : State) : Type 0 where
  pub table : 16384 ≤ t
  pub records : 1024 ≤ w
  pub namespaces : 1024 ≤ n
  pub line : 4102 ≤ l
  pub out : 32771 ≤ o
  pub rows : st.stored.table ≤ 16384
  pub entries : st.stored.namespaces ≤ 1024
  pub digits : len_within st.gathered.len ≡ true

pub sizes : (t w n l o : ℕ) (st : State) → ready t w n l o st ≡ true → Sizes t w n l o st
sizes t w n l o st h =
    let d = len_within st.gathered.len in
    let e = leb st.stored.namespaces 1024 && d in
    let r = leb st.stored.table 16384 && e in
    let u = leb 32771 o && r in
    let v = leb 4102 l && u in
    let x = leb 1024 n && v in
    let y = leb 1024 w && x in
    let hy = and_r (leb 16384 t) y h in
    let hx = and_r (leb 1024 w) x hy in
    let hv = and_r (leb 1024 n) v hx in
    let hu = and_r (leb 4102 l) u hv in
    let hr = and_r (leb 32771 o) r hu in
    let he = and_r (leb st.stored.table 16384) e hr in
    record {
      table = leb-true 16384 t (and_l (leb 16384 t) y h);
      records = leb-true 1024 w (and_l (leb 1024 w) x hy);
      namespaces = leb-true 1024 n (and_l (leb 1024 n) v hx);
      line = leb-true 4102 l (and_l (leb 4102 l) u hv);
      out = leb-true 32771 o (and_l (leb 32771 o) r hu);
      rows = leb-true st.stored.table 16384 (and_l (leb st.stored.table 16384) e hr);
      entries = leb-true st.stored.namespaces 1024 (and_l (leb st.stored.namespaces 1024) d he);
      digits = and_r (leb st.stored.namespaces 1024) d he;
    }

pub within : (d : Lent) (line : List ℕ) (st : State) → ready_in d line st ≡ true → Within st.stored d.table d.records d.namespaces
within d line st h =
    let z = sizes (length d.table) (length d.records) (length d.namespaces) (length line) (length d.out) st h in
    record {
      held = record { rows = z.rows; table = z.table; records = z.records };
      entries = z.entries;
      namespaces = z.namespaces;
    }

pub ready_again : (t w n l o : ℕ) (st : State) → Sizes t w n l o st → ready t w n l o st ≡ true
ready_again t w n l o st z =
    rw (
      le-leb 16384 t z.table,
      le-leb 1024 w z.records,
      le-leb 1024 n z.namespaces,
      le-leb 4102 l z.line,
      le-leb 32771 o z.out,
      le-leb st.stored.table 16384 z.rows,
      le-leb st.stored.namespaces 1024 z.entries,
    ) z.digits

-- at the start any memory holds the session at its start
pub holds_start : (d : Lent) (line : List ℕ) → Holds d line (start_is) start
unfolding start
holds_start d line = record { table = refl; namespaces = refl; frame = holds_none line }

-- a ready memory holds some session always
frame_some : (g : Option ℕ) (line : List ℕ) → 4102 ≤ length line → len_within g ≡ true → (p : List ℕ) × HoldsLen g line p
frame_some None line h e = (replicate 4103 0, omega (arith, length-replicate {A = ℕ} 4103 0))
frame_some (Some len) line h e = (take len line, (refl, omega (arith, h, leb-true len 4102 e), leb-true len 4102 e))

pub holds_some : (d : Lent) (line : List ℕ) (st : State) → ready_in d line st ≡ true → (s : Session) × Holds d line st s
holds_some d line st h =
    let z = sizes (length d.table) (length d.records) (length d.namespaces) (length line) (length d.out) st h in
    let f = frame_some st.gathered.len line z.line z.digits in
    (record { stored = stored_in d st.stored; partial = f.0 }, record { table = refl; namespaces = refl; frame = f.1 })

frame_bounded : (g : Option ℕ) (line p : List ℕ) → HoldsLen g line p → len_within g ≡ true
frame_bounded None line p h = refl
frame_bounded (Some len) line p h = le-leb len 4102 h.2

-- the stored bytes of a session that the memory holds
stored_is_lem : {d : Lent} {line : List ℕ} {st : State} {s : Session} → Holds d line st s → stored_in d st.stored ≡ s.stored
stored_is_lem h = λ i. record { table = h.table i; namespaces = h.namespaces i }

module _ (chunk : List ℕ) (d : Lent) (line line' : List ℕ) (st : State) (g : Gathered) (h : ready_in d line st ≡ true)
    (run : g ≡ gathered_all (length line) st.gathered (before_line chunk)) (bytes : line' ≡ line_after line st.gathered (before_line chunk)) where
  is_sized : Sizes (length d.table) (length d.records) (length d.namespaces) (length line) (length d.out) st
  is_sized = sizes (length d.table) (length d.records) (length d.namespaces) (length line) (length d.out) st h

  -- the line holds the characters before the line feed too
  goes_on_lem : (p : List ℕ) → HoldsFrame line st.gathered p → HoldsFrame line' g (p ++ before_line chunk)
  goes_on_lem p x = rw (run, bytes) (holds_all (before_line chunk) line st.gathered p is_sized.line x)

  -- the numbers without a line feed, and at one
  no_line : has_line chunk ≡ false → (s : Session) (numbers : List ℕ) → numbers ≡ numbers_fed s chunk numbers
  unfolding numbers_fed
  no_line e s numbers = rw e

  at_line : has_line chunk ≡ true → (s : Session) (numbers : List ℕ) →
      numbers_framed s.stored (read_frame (s.partial ++ before_line chunk)) numbers ≡ numbers_fed s chunk numbers
  unfolding numbers_fed
  at_line e s numbers = rw e

  -- a piece without a line feed
  pub feeds_part : (used : ℕ) → used ≡ length (before_line chunk) → length chunk ≤ used →
      Feeds chunk d d line line' st (record { state = record { stored = st.stored; gathered = g }; used = used; written = 0 })
  feeds_part used u all =
      let w = before_all chunk (omega arith) in
      let whole : take (through_line chunk) chunk ≡ before_line chunk = take_all (through_line chunk) chunk (omega (arith, w.1)) ∙ sym w.0 in
      let z = is_sized in
      let some = frame_some st.gathered.len line z.line z.digits in
      record {
        used = omega (arith, u, w.1, ap length w.0);
        comes =
            λ s x.
            subst (λ (f : Came). Comes f d d line' (record { state = record { stored = st.stored; gathered = g }; used = used; written = 0 }))
            (sym (ap (fed_all s) whole ∙ fed_before chunk s))
            (record {
              holds = record { table = x.table; namespaces = x.namespaces; frame = goes_on_lem s.partial x.frame };
              says = says_none d.out;
            });
        numbers = λ s x. no_line (le-ltb (length (before_line chunk)) (length chunk) (omega arith)) s d.records;
        table_behind = refl;
        records_behind = refl;
        records_stay = λ e. refl;
        namespaces_behind = refl;
        line_bytes = bytes;
        gathered = run ∙ rw (le-ltb (length (before_line chunk)) (length chunk) (omega arith));
        ready_on =
            ready_again (length d.table) (length d.records) (length d.namespaces) (length line) (length d.out)
            (record { stored = st.stored; gathered = g })
            (record {
              table = z.table;
              records = z.records;
              namespaces = z.namespaces;
              line = z.line;
              out = z.out;
              rows = z.rows;
              entries = z.entries;
              digits = frame_bounded g.len line' (some.0 ++ before_line chunk) (goes_on_lem some.0 some.1);
            });
      }

  -- a piece with a line feed, at which the frame was carried out
  pub feeds_line : (e : Lent) (used : ℕ) (r : Outcome) → used ≡ length (before_line chunk) → used < length chunk → Ended line' g st.stored d e r →
      Feeds chunk d e line line' st (record { state = record { stored = r.stored; gathered = gathered_none }; used = used + 1; written = r.written })
  unfolding step
  feeds_line e used r u less x =
      let w = through_line_lem chunk (omega arith) in
      let z = is_sized in
      let c = x.carried in
      record {
        used = omega (arith, u, w.0);
        comes =
            λ s y.
            let same : framed (stored_in d st.stored) x.frame ≡ step s.stored (s.partial ++ before_line chunk) = λ i. framed (stored_is_lem y i)
            (x.read (s.partial ++ before_line chunk) (goes_on_lem s.partial y.frame) i) in
            subst (λ (f : Came). Comes f d e line' (record
            { state = record { stored = r.stored; gathered = gathered_none }; used = used + 1; written = r.written }))
            (sym (ap (fed_all s) w.1 ∙ fed_line chunk s ∙ sym
            (ap (λ (f : Stepped). record { session = record { stored = f.stored; partial = [] }; output = f.output }) same)))
            (record { holds = record { table = c.table; namespaces = c.namespaces; frame = holds_none line' }; says = c.says });
        numbers =
            λ s y.
            x.numbers
            ∙ (λ i. numbers_framed (stored_is_lem y i) (x.read (s.partial ++ before_line chunk) (goes_on_lem s.partial y.frame) i) d.records)
            ∙ at_line (lt-ltb (length (before_line chunk)) (length chunk) (omega arith)) s d.records;
        table_behind = c.table_behind;
        records_behind = c.records_behind;
        records_stay = c.records_stay;
        namespaces_behind = c.namespaces_behind;
        line_bytes = bytes;
        gathered = rw (lt-ltb (length (before_line chunk)) (length chunk) (omega arith));
        ready_on =
            ready_again (length d.table) (length d.records) (length d.namespaces) (length line) (length d.out)
            (record { stored = r.stored; gathered = gathered_none })
            (record {
              table = z.table;
              records = z.records;
              namespaces = z.namespaces;
              line = z.line;
              out = z.out;
              rows = c.table_room;
              entries = c.namespaces_room;
              digits = refl;
            });
      }

-- an answer by the piece that was taken
pub feed_taken : {chunk : List ℕ} {d e : Lent} {line line' : List ℕ} {st : State} {r : Option Took} (t : Took) → r ≡ Some t → ready_in d line st ≡ true →
    Feeds chunk d e line line' st t → FeedIs chunk d e line line' st r
feed_taken {chunk} {d} {e} {line} {line'} {st} t q so f = subst (λ (x : Option Took). FeedIs chunk d e line line' st x) (sym q) (so, f)

-- the end of the input: nothing was gathered, or a frame without its line feed
pub finishes : (o p : List ℕ) (st : State) (r : ℕ) (empty : Bool) → IsEmpty st.gathered empty → Says (cond empty [] (refusal_line 13)) o p r →
    Finishes o p st r
unfolding at_end
finishes o p st r empty i x =
    record {
      says = λ d line s h. rw (i.holds line s.partial h.frame) at x;
      answer = rw i.answer at x;
    }
