-- Where rows gain subscriptions (W10): flags set in rows or records, and SUBSCRIBE; so after any commands of which none is UNSUBSCRIBE, each reader
-- sees rows that gained at most subscriptions. Rests on GainLaws, EditReaders and CommandLaws.
use Rattle.listing_rules.proofs.Prelude.{◌∙◌, ◌≡◌, ap, refl, subst, sym, Bool, cond, false, false≢true, not, true, ◌⊎◌, inl, inr, ⊎_elim, List}
use Rattle.listing_rules.proofs.Prelude.{list_mem, list_mem_append_cases, list_mem_head, list_mem_not_nil, mem_append_left}
use Rattle.listing_rules.proofs.Prelude.{mem_append_right, [], ◌∷◌, ◌++◌, Ordering, ordering_lt, ordering_eq, ordering_gt, ◌+◌, ℕ, take, drop}
use Rattle.listing_rules.proofs.Prelude.{list_mem_eq_of_singleton, not-true}
use Rattle.listing_rules.specs.Bytes.{bit, same}
use Rattle.listing_rules.specs.Lists.{every, any_of, keep}
use Rattle.listing_rules.specs.Orders.{byte_order, is_lt, ascends}
use Rattle.listing_rules.specs.Table.{Row, rows, names, has_row, flags_of, passes}
use Rattle.listing_rules.specs.Records.{Record, row_of, record_rows}
use Rattle.listing_rules.specs.Readers.{sees, visible}
use Rattle.listing_rules.specs.Command.{subscribe, unsubscribe, Parsed, refused, namespace, listing, root_of, subscriptions, editing, is_edit}
use Rattle.listing_rules.specs.Command.{parsed}
use Rattle.listing_rules.specs.Listing.{implied}
use Rattle.listing_rules.specs.Subscriptions.{Store, store_table, store_seen, held, store_rows, spelled, with_subscribed, stored, edited}
use Rattle.listing_rules.specs.Server.{Reply, refusal, answered, commanded}
use Rattle.listing_rules.specs.Series.{Sent, sent_to, commanded_all}
use Rattle.listing_rules.specs.Evidence.{Gains, RecordsGain, takes_away, none_takes_away}
use Rattle.listing_rules.proofs.Bools.{and_l, and_r}
use Rattle.listing_rules.proofs.Keys.{open_bytes, open_flags}
use Rattle.listing_rules.proofs.ListLaws.{mem_some, keep_mem, mem_keep, map_mem, mem_map_lem, same_refl}
use Rattle.listing_rules.proofs.Order.{bytes_total, swap}
use Rattle.listing_rules.proofs.NameFlags.{candidate_row, row_flags, implied_flags}
use Rattle.listing_rules.proofs.Passes.{rows_parts}
use Rattle.listing_rules.proofs.ReaderLaws.{visible_pass, held_parts, records_seen_is}
use Rattle.listing_rules.proofs.EditRows.{rows_with}
use Rattle.listing_rules.proofs.EditFlags.{set_subscribed}
use Rattle.listing_rules.proofs.SubscriptionLaws.{row_set, edited_passes}
use Rattle.listing_rules.proofs.EditReaders.{own_seen, edited_seen}
use Rattle.listing_rules.proofs.CommandLaws.{refused_leaves, read_leaves, edit_stored_lem, command_passes}

-- nothing gained, and gained twice
pub gains_none : (rs : List Row) → Gains rs rs
gains_none rs = record { stay = λ n h. h; gain = λ n. inl refl }

set_twice : (f : ℕ) → with_subscribed (with_subscribed f) ≡ with_subscribed f
set_twice f = unfold with_subscribed in ap (λ (b : Bool). cond b (with_subscribed f) (with_subscribed f + 2)) (set_subscribed f)

pub gains_both : (rs qs us : List Row) → Gains rs qs → Gains qs us → Gains rs us
gains_both rs qs us v w =
    record {
      stay = λ n h. w.stay n (v.stay n h);
      gain = λ n. ⊎_elim (λ e. ⊎_elim (λ d. inl (e ∙ d)) (λ d. inr (e ∙ d)) (v.gain n))
          (λ e. ⊎_elim (λ d. inr (e ∙ ap with_subscribed d)) (λ d. inr (e ∙ ap with_subscribed d ∙ set_twice (flags_of rs n))) (v.gain n)) (w.gain n);
    }

-- rows one by one: the same names, and the same flags or those with the subscription
abbrev pub EachGains : List Row → List Row → Type 0
EachGains [] [] = Unit {0}
EachGains [] (q ∷ qs) = ⊥
EachGains (r ∷ rs) [] = ⊥
EachGains (r ∷ rs) (q ∷ qs) = ((q.name ≡ r.name) × ((q.flags ≡ r.flags) ⊎ (q.flags ≡ with_subscribed r.flags))) × EachGains rs qs

has_same : (rs qs : List Row) → EachGains rs qs → (n : List ℕ) → has_row qs n ≡ has_row rs n
unfolding has_row any_of
has_same [] [] w n = refl
has_same [] (q ∷ qs) w n = absurd w
has_same (r ∷ rs) [] w n = absurd w
has_same (r ∷ rs) (q ∷ qs) w n = rw (w.0.0, has_same rs qs w.1 n)

flags_gained : (rs qs : List Row) → EachGains rs qs → (n : List ℕ) → (flags_of qs n ≡ flags_of rs n) ⊎ (flags_of qs n ≡ with_subscribed (flags_of rs n))
unfolding flags_of
flags_gained [] [] w n = inl refl
flags_gained [] (q ∷ qs) w n = absurd w
flags_gained (r ∷ rs) [] w n = absurd w
flags_gained (r ∷ rs) (q ∷ qs) w n = rw w.0.0 (go (same r.name n) w.0.1 (flags_gained rs qs w.1 n))
  where
    go : (b : Bool) → (q.flags ≡ r.flags) ⊎ (q.flags ≡ with_subscribed r.flags) →
        (flags_of qs n ≡ flags_of rs n) ⊎ (flags_of qs n ≡ with_subscribed (flags_of rs n))
        → (cond b q.flags (flags_of qs n) ≡ cond b r.flags (flags_of rs n)) ⊎
        (cond b q.flags (flags_of qs n) ≡ with_subscribed (cond b r.flags (flags_of rs n)))
    go true x y = x
    go false x y = y

pub each_gains : (rs qs : List Row) → EachGains rs qs → Gains rs qs
each_gains rs qs w = record { stay = λ n h. has_same rs qs w n ∙ h; gain = flags_gained rs qs w }

-- the same of records over one area, and so of the rows that a reader sees of them
records_gain : (reader : ℕ) (area : List ℕ) (rs qs : List Record) → RecordsGain rs qs → EachGains (visible reader area rs) (visible reader area qs)
unfolding visible record_rows keep sees row_of
records_gain reader area [] [] w = tt
records_gain reader area [] (q ∷ qs) w = absurd w
records_gain reader area (r ∷ rs) [] w = absurd w
records_gain reader area (r ∷ rs) (q ∷ qs) w =
    subst (λ (x : ℕ). EachGains (record_rows area (cond (bit reader r.readers) (r ∷ keep (sees reader) rs) (keep (sees reader) rs)))
    (record_rows area (cond (bit reader x) (q ∷ keep (sees reader) qs) (keep (sees reader) qs)))) (sym w.0.2)
    (go (bit reader r.readers) (records_gain reader area rs qs w.1))
  where
    go : (b : Bool) → EachGains (visible reader area rs) (visible reader area qs)
        → EachGains (record_rows area (cond b (r ∷ keep (sees reader) rs) (keep (sees reader) rs)))
        (record_rows area (cond b (q ∷ keep (sees reader) qs) (keep (sees reader) qs)))
    go true ih = (((λ i. take (w.0.1 i) (drop (w.0.0 i) area)), w.0.3), ih)
    go false ih = ih

pub gains_records : (reader : ℕ) (area : List ℕ) (rs qs : List Record) → RecordsGain rs qs → Gains (visible reader area rs) (visible reader area qs)
gains_records reader area rs qs w = each_gains (visible reader area rs) (visible reader area qs) (records_gain reader area rs qs w)

-- A name's row put in place of the one that it had, or inserted: rows that ascend, before and after.
module _ (rs : List Row) (n : List ℕ) (new : List Row) (asc : ascends (names rs) ≡ true) (asc' : ascends (names (rows_with rs n new)) ≡ true)
    (own : (r : Row) → list_mem r new → r.name ≡ n)
    (set : has_row rs n ≡ true → (r : Row) × list_mem r new × (r.flags ≡ with_subscribed (flags_of rs n)))
    (put : has_row rs n ≡ false → (r : Row) → list_mem r new → r.flags ≡ 2) where
  abbrev after : List Row
  after = rows_with rs n new

  abbrev low : Row → Bool
  low r = is_lt (byte_order r.name n)

  abbrev high : Row → Bool
  high r = is_lt (byte_order n r.name)

  new_after : (r : Row) → list_mem r new → list_mem r after
  unfolding rows_with
  new_after r m = mem_append_right (keep low rs) (mem_append_left (keep high rs) m)

  -- a row is still there, or is the name's
  located : (r : Row) → list_mem r rs → list_mem r after ⊎ (r.name ≡ n)
  unfolding rows_with is_lt
  located r m = go (byte_order r.name n) refl
    where
      go : (o : Ordering) → byte_order r.name n ≡ o → list_mem r after ⊎ (r.name ≡ n)
      go ordering_lt e = inl (mem_append_left (new ++ keep high rs) (mem_keep low rs r m (ap is_lt e)))
      go ordering_eq e = inr (bytes_total.equal r.name n e)
      go ordering_gt e =
          inl (mem_append_right (keep low rs) (mem_append_right new (mem_keep high rs r m (ap is_lt (bytes_total.turned r.name n ∙ ap swap e)))))

  -- and what is there was there, or is new
  came : (r : Row) → list_mem r after → list_mem r rs ⊎ list_mem r new
  unfolding rows_with
  came r m =
      ⊎_elim (λ k. inl (keep_mem low rs r k).0) (λ k. ⊎_elim inr (λ j. inl (keep_mem high rs r j).0) (list_mem_append_cases new k))
      (list_mem_append_cases (keep low rs) m)

  has : (qs : List Row) (r : Row) (m : List ℕ) → list_mem r qs → r.name ≡ m → has_row qs m ≡ true
  unfolding has_row
  has qs r m k e = mem_some (λ (q : Row). same q.name m) qs r k (ap (λ (x : List ℕ). same x m) e ∙ same_refl m)

  flags_at : (qs : List Row) → ascends (names qs) ≡ true → (r : Row) (m : List ℕ) → list_mem r qs → r.name ≡ m → flags_of qs m ≡ r.flags
  flags_at qs h r m k e = ap (flags_of qs) (sym e) ∙ row_flags qs h r k

  no_flags : (qs : List Row) (m : List ℕ) → has_row qs m ≡ false → flags_of qs m ≡ 0
  no_flags qs m e = implied_flags qs m (unfold implied in ap not e)

  gains_at : (m : List ℕ) → (has_row rs m ≡ true → has_row after m ≡ true) ×
      ((flags_of after m ≡ flags_of rs m) ⊎ (flags_of after m ≡ with_subscribed (flags_of rs m)))
  gains_at m = go (has_row rs m) refl
    where
      Claim : Bool → Type 0
      Claim b = (b ≡ true → has_row after m ≡ true) × ((flags_of after m ≡ flags_of rs m) ⊎ (flags_of after m ≡ with_subscribed (flags_of rs m)))

      changed : (r : Row) → list_mem r rs → r.name ≡ m → r.name ≡ n → Claim true
      changed r k e f =
          let q : n ≡ m = sym f ∙ e in
          let w = set (has rs r n k f) in
          let nm : w.0.name ≡ m = own w.0 w.1 ∙ q in (
            λ h. has after w.0 m (new_after w.0 w.1) nm,
            inr (flags_at after asc' w.0 m (new_after w.0 w.1) nm ∙ w.2 ∙ ap (λ (x : List ℕ). with_subscribed (flags_of rs x)) q),
          )

      inserted : (q : Row) → list_mem q after → q.name ≡ m → has_row rs m ≡ false → Claim false
      inserted q k e h =
          ⊎_elim (λ j. absurd (false≢true (sym h ∙ has rs q m j e)))
          (λ j.
          let f : n ≡ m = sym (own q j) ∙ e in (
            λ d. absurd (false≢true d),
            inr (flags_at after asc' q m k e ∙ put (ap (has_row rs) f ∙ h) q j ∙ two ∙ ap with_subscribed (sym (no_flags rs m h))),
          )) (came q k)
        where
          two : 2 ≡ with_subscribed 0
          two = unfold with_subscribed open_flags open_bytes in refl

      none : has_row rs m ≡ false → (b : Bool) → has_row after m ≡ b → Claim false
      none h true e = let w = candidate_row after m e in inserted w.0 w.1 w.2 h
      none h false e = (λ d. absurd (false≢true d), inl (no_flags after m e ∙ sym (no_flags rs m h)))

      go : (b : Bool) → has_row rs m ≡ b → Claim b
      go true e =
          let w = candidate_row rs m e in
          ⊎_elim (λ k. (λ h. has after w.0 m k w.2, inl (flags_at after asc' w.0 m k w.2 ∙ sym (flags_at rs asc w.0 m w.1 w.2))))
          (λ f. changed w.0 w.1 w.2 f) (located w.0 w.1)
      go false e = none e (has_row after m) refl

  gains_with : Gains rs after
  gains_with = record { stay = λ m h. (gains_at m).0 h; gain = λ m. (gains_at m).1 }

-- An accepted SUBSCRIBE: each reader sees rows that gained it, where it sees the name's row or where that was inserted.
module _ (reader : ℕ) (s t : Store) (n : List ℕ) (h : passes (store_table s) ≡ true) (q : edited s (subscribe n) ≡ stored t) where
  abbrev vs : List Row
  vs = visible reader s.area (held s)

  abbrev row : List Row
  row = cond (own_seen reader (store_rows s) vs (spelled n)) (row_set (store_rows s) (spelled n)) []

  seen_asc : (u : Store) → passes (store_table u) ≡ true → ascends (names (visible reader u.area (held u))) ≡ true
  unfolding store_table held
  seen_asc u k = (rows_parts _ (visible_pass reader u.area (held u) (held_parts u.area u.records u.count k).rows_pass_lem)).ascend

  all_asc : ascends (names (store_rows s)) ≡ true
  unfolding store_table held store_rows
  all_asc = (rows_parts _ (held_parts s.area s.records s.count h).rows_pass_lem).ascend

  -- what is visible is among all rows
  among : (r : Row) → list_mem r vs → list_mem r (store_rows s)
  unfolding visible record_rows store_rows
  among r m =
      let w = map_mem (row_of s.area) r (keep (sees reader) (held s)) m in
      subst (λ (y : Row). list_mem y (store_rows s)) (sym w.2) (mem_map_lem (row_of s.area) (keep_mem (sees reader) (held s) w.0 w.1).0)

  has_all : has_row vs (spelled n) ≡ true → has_row (store_rows s) (spelled n) ≡ true
  has_all e =
      let w = candidate_row vs (spelled n) e in
      unfold has_row in mem_some (λ (r : Row). same r.name (spelled n)) (store_rows s) w.0 (among w.0 w.1)
      (ap (λ (x : List ℕ). same x (spelled n)) w.2 ∙ same_refl (spelled n))

  flags_all : has_row vs (spelled n) ≡ true → flags_of (store_rows s) (spelled n) ≡ flags_of vs (spelled n)
  flags_all e =
      let w = candidate_row vs (spelled n) e in
      ap (flags_of (store_rows s)) (sym w.2) ∙ row_flags (store_rows s) all_asc w.0 (among w.0 w.1)
      ∙ sym (row_flags vs (seen_asc s h) w.0 w.1) ∙ ap (flags_of vs) w.2

  own_name : (r : Row) → list_mem r row → r.name ≡ spelled n
  own_name r m = go (own_seen reader (store_rows s) vs (spelled n)) m
    where
      go : (b : Bool) → list_mem r (cond b (row_set (store_rows s) (spelled n)) []) → r.name ≡ spelled n
      go true k = ap (λ (x : Row). x.name) (list_mem_eq_of_singleton k)
      go false k = absurd (list_mem_not_nil k)

  set_row : has_row vs (spelled n) ≡ true → (r : Row) × list_mem r row × (r.flags ≡ with_subscribed (flags_of vs (spelled n)))
  set_row e = (
    record { flags = cond (has_row (store_rows s) (spelled n)) (with_subscribed (flags_of (store_rows s) (spelled n))) 0x0002; name = spelled n },
    subst (λ (b : Bool). list_mem (record
        { flags = cond (has_row (store_rows s) (spelled n)) (with_subscribed (flags_of (store_rows s) (spelled n))) 0x0002; name = spelled n })
        (cond b (row_set (store_rows s) (spelled n)) [])) (sym is_seen) (list_mem_head refl),
    ap (λ (b : Bool). cond b (with_subscribed (flags_of (store_rows s) (spelled n))) 0x0002) (has_all e) ∙ ap with_subscribed (flags_all e),
  )
    where
      is_seen : own_seen reader (store_rows s) vs (spelled n) ≡ true
      is_seen = ap (λ (b : Bool). cond b (has_row vs (spelled n)) (bit reader 0xFF)) (has_all e) ∙ e

  put_row : has_row vs (spelled n) ≡ false → (r : Row) → list_mem r row → r.flags ≡ 2
  put_row e r m = go (has_row (store_rows s) (spelled n)) (bit reader 0xFF) m
    where
      Row' : Bool → Row
      Row' b = record { flags = cond b (with_subscribed (flags_of (store_rows s) (spelled n))) 0x0002; name = spelled n }

      go : (b x : Bool) → list_mem r (cond (cond b (has_row vs (spelled n)) x) (Row' b ∷ []) []) → r.flags ≡ 2
      go true x k = absurd (list_mem_not_nil (subst (λ (z : Bool). list_mem r (cond z (Row' true ∷ []) [])) e k))
      go false true k = ap (λ (y : Row). y.flags) (list_mem_eq_of_singleton k)
      go false false k = absurd (list_mem_not_nil k)

  pub subscribe_gains : Gains vs (visible reader t.area (held t))
  subscribe_gains =
      let e = edited_seen reader s t (subscribe n) h q in
      subst (λ (l : List Row). Gains vs l) (sym e)
      (gains_with vs (spelled n) row (seen_asc s h) (subst (λ (l : List Row). ascends (names l) ≡ true) e
      (seen_asc t (edited_passes s t (subscribe n) h q))) own_name set_row put_row)

-- one command that is no UNSUBSCRIBE, whoever sends it
module _ (reader from : ℕ) (s : Store) (spaces l buffer : List ℕ) (h : passes (store_table s) ≡ true) (k : takes_away (parsed l) ≡ false) where
  abbrev then : Store
  then = (commanded from s spaces l buffer).store

  unchanged : then ≡ s → Gains (visible reader s.area (held s)) (visible reader then.area (held then))
  unchanged e =
      subst (λ (t : Store). Gains (visible reader s.area (held s)) (visible reader t.area (held t))) (sym e)
      (gains_none (visible reader s.area (held s)))

  by_edit : (tag n : List ℕ) → parsed l ≡ editing tag (subscribe n) → (r : Reply) → (commanded from s spaces l buffer).reply ≡ r
      → Gains (visible reader s.area (held s)) (visible reader then.area (held then))
  by_edit tag n p (refusal j) e = unchanged (refused_leaves from s spaces l buffer j e)
  by_edit tag n p (answered a) e = subscribe_gains reader s then n h (edit_stored_lem from s spaces l buffer tag (subscribe n) p a e)

  pub command_gains : Gains (visible reader s.area (held s)) (visible reader then.area (held then))
  command_gains = go (parsed l) refl
    where
      reads : (p : Parsed) → parsed l ≡ p → is_edit p ≡ false → Gains (visible reader s.area (held s)) (visible reader then.area (held then))
      reads p e i = unchanged (read_leaves from s spaces l buffer (ap is_edit e ∙ i))

      go : (p : Parsed) → parsed l ≡ p → Gains (visible reader s.area (held s)) (visible reader then.area (held then))
      go (editing tag (subscribe n)) e = by_edit tag n e (commanded from s spaces l buffer).reply refl
      go (editing tag (unsubscribe n)) e = absurd (false≢true (sym (k) ∙ ap takes_away e ∙ (unfold takes_away in refl)))
      go (refused j) e = reads (refused j) e (unfold is_edit in refl)
      go (namespace tag) e = reads (namespace tag) e (unfold is_edit in refl)
      go (listing tag o ps) e = reads (listing tag o ps) e (unfold is_edit in refl)
      go (root_of tag) e = reads (root_of tag) e (unfold is_edit in refl)
      go (subscriptions tag ps) e = reads (subscriptions tag ps) e (unfold is_edit in refl)

-- and any number of them
pub series_gains : (reader : ℕ) (s : Store) (cs : List Sent) → passes (store_table s) ≡ true → none_takes_away cs ≡ true
    → Gains (visible reader s.area (held s)) (visible reader (commanded_all s cs).area (held (commanded_all s cs)))
unfolding commanded_all sent_to every
series_gains reader s [] h k = gains_none (visible reader s.area (held s))
series_gains reader s (c ∷ cs) h k =
    let u = (commanded c.reader s c.namespaces c.line c.buffer).store in
    gains_both (visible reader s.area (held s)) (visible reader u.area (held u)) _
    (command_gains reader c.reader s c.namespaces c.line c.buffer h
    (not-true (takes_away (parsed c.line)) (and_l (not (takes_away (parsed c.line))) (none_takes_away cs) k)))
    (series_gains reader u cs (command_passes c.reader s c.namespaces c.line c.buffer h)
    (and_r (not (takes_away (parsed c.line))) (none_takes_away cs) k))

-- the table that a reader sees of a store that passes
pub seen_rows : (reader : ℕ) (s : Store) → passes (store_table s) ≡ true → rows (store_seen reader s) ≡ visible reader s.area (held s)
unfolding rows store_seen store_table held
seen_rows reader s h = ap rows (records_seen_is reader s.area s.records s.count h)
