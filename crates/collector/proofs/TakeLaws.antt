-- One line of an answer taken in: what the reader's answer tells of the line, and what is kept of it. Rests on PackLaws and
-- FindLaws and on the laws of the reader.
use Rattle.std.specs.Prelude.{Option as Maybe, Some, None, Result, Ok, Err, ok_or}
use Rattle.listing_rules.proofs.Prelude.{◌∙◌, ◌≡◌, ap, refl, subst, sym, Bool, false, not, ◌⊎◌, inl, inr, List, ◌++◌, ◌-◌, ◌≤◌, ℕ, arith, length}
use Rattle.listing_rules.proofs.Prelude.{length-append, replicate, take, take_at}
use Rattle.listing_rules.proofs.Keys.{open_bytes}
use Rattle.listing_rules.specs.Options.{Criteria, is_none, criteria_of, criteria_number}
use Rattle.listing_rules.specs.Lines.{root_line}
use Rattle.listing_rules.specs.LineReader.{Read, line, root, bad, read_line, name_read, name_bytes}
use Rattle.listing_rules.specs.Walk.{Lists, Step, stop, go, ◌then◌, packed, is_find, with_name, fits, taken_in}
use Rattle.listing_rules.proofs.LawfulNames.{good_parts}
use Rattle.listing_rules.proofs.ReaderWriter.{Taken, read_line_only}
use Rattle.list_line.specs.Members.{members, set_of}
use Rattle.octets.specs.declared.refusals.Refusal.{Refusal}
use Rattle.octets.specs.Refusals.{numbered}
use Rattle.line_reader.specs.Lines.{parts_of, line_is}
use Rattle.list_line.specs.declared.attributes.Attributes.{Attributes}
use Rattle.list_line.specs.declared.criteria.Criteria.{Criteria as Set}
use Rattle.line_reader.specs.declared.Parts.{Parts}
use Rattle.list_line.proofs.Members.{members_set_of}
use Rattle.listing_rules.proofs.RoundTrip.{criteria_number_lem}
use Rattle.collector.specs.Names.{Keeps}
use Rattle.collector.specs.Options.{byte_of}
use Rattle.collector.specs.Taking.{Inside, Holds, Goes, line_step}
use Rattle.collector.specs.declared.lines.Progress.{Progress}
use Rattle.collector.specs.declared.options.WalkOptions.{WalkOptions}
use Rattle.collector.proofs.FindLaws.{root_finds_none}
use Rattle.collector.proofs.PackLaws.{fits_go, fits_stop}

-- the two lists, with a name put into each or not, if they fit
abbrev pub both_fit : ℕ → ℕ → List (List ℕ) → List (List ℕ) → Step Lists
both_fit found pending f a = fits 10 found f then λ x. fits 11 pending a then λ y. go (record { finds = x; asks = y })

-- whether CHILDINFO names a criterion
abbrev pub parent_of : Set → Bool
parent_of k = not (is_none (criteria_of k.bits))

-- the finds and the names to ask below, with a line's name put in if it is a find, or a parent
abbrev pub finds_with : WalkOptions → Attributes → List ℕ → Lists → List (List ℕ)
finds_with w t n s = with_name (is_find (byte_of w) (members t.bits)) n s.finds

abbrev pub asks_with : Bool → List ℕ → Lists → List (List ℕ)
asks_with c n s = with_name c n s.asks

-- The line is read into these parts: the length of the name, whose bytes stand at the front, and what the line adds to the two lists.
pub record ReadAs (l : List ℕ) (q : Parts) : Type 0 where
  pub short : q.len ≤ 200
  pub inside : q.len ≤ length q.name
  pub taken : (w : WalkOptions) (found pending : ℕ) (s : Lists) → length (packed s.finds) ≤ found → length (packed s.asks) ≤ pending →
      taken_in (byte_of w) found pending s (read_line l) ≡ both_fit found pending (finds_with w q.attributes (take q.len q.name) s) (asks_with (parent_of q.criteria) (take q.len q.name) s)

module _ (l : List ℕ) (q : Parts) where
  as_line : (bs : List Bool) (m : List ℕ) (d : Criteria) → read_line l ≡ line bs m d → length bs ≡ 16 → length m ≤ 200 →
      parts_of (line bs m d) ≡ Some q → ReadAs l q
  unfolding parts_of name_bytes name_read taken_in
  as_line bs m d r h f e =
      record {
        short = omega (arith, size);
        inside = omega (arith, size, ap length whole, length-append m (replicate (200 - length m) 0));
        taken = λ w found pending s x y. rw r (λ i. both_fit found pending (with_name (is_find (byte_of w) (attributes i)) (bytes i) s.finds) (with_name (child i) (bytes i) s.asks));
      }
    where
      same : record { attributes = record { bits = set_of bs }; name = m ++ replicate (200 - length m) 0; len = length m; criteria = record { bits = criteria_number d } } ≡ q
      same = cc

      size : length m ≡ q.len
      size = ap (λ (x : Parts). x.len) same

      whole : m ++ replicate (200 - length m) 0 ≡ q.name
      whole = ap (λ (x : Parts). x.name) same

      child : not (is_none d) ≡ parent_of q.criteria
      child = ap (λ (y : Criteria). not (is_none y)) (sym (criteria_number_lem d)) ∙ ap (λ (x : Parts). parent_of x.criteria) same

      attributes : bs ≡ members q.attributes.bits
      attributes = sym (members_set_of bs h) ∙ ap (λ (x : Parts). members x.attributes.bits) same

      bytes : m ≡ take q.len q.name
      bytes = sym (ap (take q.len) (sym whole) ∙ take_at m (replicate (200 - length m) 0) q.len size)

  -- the root line is no find and has no CHILDINFO
  as_root : read_line l ≡ root → parts_of root ≡ Some q → ReadAs l q
  unfolding parts_of taken_in with_name is_none criteria_of open_bytes ◌then◌
  as_root r e =
      record {
        short = omega (arith, size);
        inside = omega (arith, size);
        taken =
            λ w found pending s x y. rw r (sym (rw (root_finds_none w, fits_go 10 found s.finds x, fits_go 11 pending s.asks y)) ∙ λ i. both_fit
            found pending (finds_with w (attributes i) (take q.len q.name) s) (asks_with (child i) (take q.len q.name) s));
      }
    where
      same : record { attributes = record { bits = 4 }; name = name_bytes root; len = 0; criteria = record { bits = 0 } } ≡ q
      same = cc

      size : 0 ≡ q.len
      size = ap (λ (x : Parts). x.len) same

      child : false ≡ parent_of q.criteria
      child = ap (λ (x : Parts). parent_of x.criteria) same

      attributes : record { bits = 4 } ≡ q.attributes
      attributes = ap (λ (x : Parts). x.attributes) same

  bad_has_none : parts_of bad ≡ Some q → ⊥
  unfolding parts_of
  bad_has_none z = cc

  -- what the code learns of the reader's answer
  pub read_as : {r : Result Parts Refusal} → numbered r ≡ line_is (read_line l) → r ≡ Ok q → ReadAs l q
  unfolding line_is
  read_as a told = pick (read_line_only l)
    where
      is : (x : Maybe Parts) → ok_or {E = ℕ} x 12 ≡ Ok q → x ≡ Some q
      is (Some x) z = cc
      is None z = cc

      e : parts_of (read_line l) ≡ Some q
      e = is (parts_of (read_line l)) (sym a ∙ ap numbered told)

      pick : (read_line l ≡ bad) ⊎ ((l ≡ root_line) × (read_line l ≡ root)) ⊎ Taken l (read_line l) → ReadAs l q
      pick (inl r) = absurd (bad_has_none (ap parts_of (sym r) ∙ e))
      pick (inr (inl r)) = as_root r.1 (ap parts_of (sym r.1) ∙ e)
      pick (inr (inr r)) = as_line r.attrs r.name r.child r.is r.sixteen (good_parts r.name r.good).most (ap parts_of (sym r.is) ∙ e)

-- a line that the reader refuses
read_bad : (l : List ℕ) {k : ℕ} → line_is (read_line l) ≡ Err k → read_line l ≡ bad
unfolding line_is parts_of
read_bad l {k} e = pick (read_line l) e
  where
    pick : (r : Read) → line_is r ≡ Err k → r ≡ bad
    pick (line bs m d) z = cc
    pick root z = cc
    pick bad z = refl

pub line_skipped : (l : List ℕ) (w : WalkOptions) {r : Result Parts Refusal} {k : Refusal} {d b : List ℕ} {p : Progress} → numbered r ≡ line_is (read_line l) → r ≡ Err k →
    Inside d b p → Goes (line_step w l d b) p.count d b p d b p
unfolding taken_in
line_skipped l w a e h = record { inside = h; counted = refl; lists = λ s g. (s, rw (read_bad l (sym a ∙ ap numbered e)), g) }

-- the promise of `keep` where its question and its answer are known
keeps_as : {v v' : Bool} {r r' : Maybe ℕ} (n d : List ℕ) (at : ℕ) (e : List ℕ) → v ≡ v' → r ≡ r' → Keeps v n d at e r → Keeps v' n d at e r'
keeps_as {v} {v'} {r} {r'} n d at e p q k = subst (λ (x : Bool). Keeps x n d at e r') p (subst (λ (y : Maybe ℕ). Keeps v n d at e y) q k)

-- a line that is read: its name is kept in found, in pending, in both or in neither
module _ {l : List ℕ} {x : Parts} (R : ReadAs l x) (w : WalkOptions) {d b : List ℕ} {p : Progress} where
  parts_step : {s : Lists} → Holds s d b p → line_step w l d b s ≡ both_fit (length d) (length b) (finds_with w x.attributes (take x.len x.name) s) (asks_with (parent_of x.criteria) (take x.len x.name) s)
  parts_step {s} h = R.taken w (length d) (length b) s (omega (arith, h.finds.counted, h.finds.room)) (omega (arith, h.asks.counted, h.asks.room))

  pub find_full : {v : Bool} {r : Maybe ℕ} (d' : List ℕ) → v ≡ is_find (byte_of w) (members x.attributes.bits) → r ≡ None →
      Keeps v (take x.len x.name) d p.found d' r → (s : Lists) → Holds s d b p → line_step w l d b s ≡ stop 10
  unfolding ◌then◌
  find_full d' a e k s h =
      let full = keeps_as (take x.len x.name) d p.found d' a e k in
      parts_step h ∙ rw (fits_stop 10 (length d) (finds_with w x.attributes (take x.len x.name) s) (full s.finds h.finds))

  module _ {v : Bool} {r : Maybe ℕ} {f : ℕ} (d' : List ℕ) (a : v ≡ is_find (byte_of w) (members x.attributes.bits)) (e : r ≡ Some f) (k : Keeps v (take x.len x.name) d p.found d' r) (same : length d' ≡ length d) where
    found_fits : {s : Lists} → Holds s d b p → fits 10 (length d) (finds_with w x.attributes (take x.len x.name) s) ≡ go (finds_with w x.attributes (take x.len x.name) s)
    found_fits {s} h =
        let y = (keeps_as (take x.len x.name) d p.found d' a e k).1 s.finds h.finds in
        fits_go 10 (length d) (finds_with w x.attributes (take x.len x.name) s) (omega (arith, y.counted, y.room))

    pub ask_full : {u : Bool} {q : Maybe ℕ} (b' : List ℕ) → u ≡ parent_of x.criteria → q ≡ None → Keeps u (take x.len x.name) b p.pending b' q → (s : Lists) → Holds s d b p → line_step w l d b s ≡ stop 11
    unfolding ◌then◌
    ask_full b' a' e' k' s h =
        let full = keeps_as (take x.len x.name) b p.pending b' a' e' k' in
        parts_step h ∙ rw (found_fits h, fits_stop 11 (length b) (asks_with (parent_of x.criteria) (take x.len x.name) s) (full s.asks h.asks))

    pub line_taken : {u : Bool} {q : Maybe ℕ} {g : ℕ} (b' : List ℕ) → u ≡ parent_of x.criteria → q ≡ Some g → Keeps u (take x.len x.name) b p.pending b' q →
        length b' ≡ length b → Goes (line_step w l d b) p.count d b p d' b' (record { count = p.count; found = f; pending = g })
    unfolding ◌then◌
    line_taken b' a' e' k' same' =
        let finds = keeps_as (take x.len x.name) d p.found d' a e k in
        let asks = keeps_as (take x.len x.name) b p.pending b' a' e' k' in
        record {
          inside = record { finds = finds.0; asks = asks.0 };
          counted = refl;
          lists = λ s h. let y = asks.1 s.asks h.asks in (
            record { finds = finds_with w x.attributes (take x.len x.name) s; asks = asks_with (parent_of x.criteria) (take x.len x.name) s },
            parts_step h ∙ rw (found_fits h, fits_go 11 (length b) (asks_with (parent_of x.criteria) (take x.len x.name) s) (omega (arith, y.counted, y.room))),
            record { finds = finds.1 s.finds h.finds; asks = y },
          );
        }
