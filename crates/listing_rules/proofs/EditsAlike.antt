-- How a command ends over two stores that pass and have the same rows: as over the other, but where one alone has room for a row. Rests on
-- SubscriptionLaws and FreeRuns.
use Rattle.listing_rules.proofs.Prelude.{◌∙◌, ◌≡◌, ap, refl, subst, sym, Bool, ◌&&◌, cond, false, not, true, ◌⊎◌, inl, inr, Option, none, some}
use Rattle.listing_rules.proofs.Prelude.{List, ◌<◌, ℕ, eqb, leb, ltb, length, ltb-true}
use Rattle.listing_rules.specs.Names.{lawful_name}
use Rattle.listing_rules.specs.Table.{Row, Table, has_row, passes}
use Rattle.listing_rules.specs.Command.{Edit, subscribe, unsubscribe, Parsed, refused, namespace, listing, root_of, subscriptions, editing}
use Rattle.listing_rules.specs.Command.{parsed}
use Rattle.listing_rules.specs.Readers.{is_reader}
use Rattle.listing_rules.specs.Subscriptions.{Store, store_table, store_seen, store_rows, spelled, rows_before, below_no_inferiors, free_run}
use Rattle.listing_rules.specs.Subscriptions.{with_subscribed, without_subscribed, nth, flagged, inserted, removed, Edited, denied, stored}
use Rattle.listing_rules.specs.Subscriptions.{insertion, subscribing, unsubscribing, edited}
use Rattle.listing_rules.specs.Server.{Reply, refusal, answered, answer, limited, Commanded, attempted, unchanged_by, concluded, commanded_over}
use Rattle.listing_rules.specs.Server.{commanded}
use Rattle.listing_rules.proofs.Bools.{and_l, and_r}
use Rattle.listing_rules.proofs.FreeRuns.{FreeAt, run_free}
use Rattle.listing_rules.proofs.EditRows.{rows_with}
use Rattle.listing_rules.proofs.SubscriptionLaws.{name_of, subscribes, row_after, room_for_row, edited_rows}

-- what an edit comes to, over any store
module _ (s : Store) (n : List ℕ) where
  subscribing_sets : has_row (store_rows s) n ≡ true → (t : Store) × (subscribing s n ≡ stored t)
  unfolding subscribing
  subscribing_sets h =
      let k = rows_before (store_rows s) n in
      (flagged s k (with_subscribed (nth s.records k).flags), rw h)

  subscribing_refused : has_row (store_rows s) n ≡ false → (lawful_name n && not (below_no_inferiors (store_rows s) n)) ≡ false →
      subscribing s n ≡ denied 14
  unfolding subscribing
  subscribing_refused h e = rw (h, e)

  pub subscribing_puts : has_row (store_rows s) n ≡ false → (lawful_name n && not (below_no_inferiors (store_rows s) n)) ≡ true →
      subscribing s n ≡ insertion s n
  unfolding subscribing
  subscribing_puts h e = rw (h, e)

  unsubscribing_made : (t : Store) × (unsubscribing s n ≡ stored t)
  unfolding unsubscribing
  unsubscribing_made = go (has_row (store_rows s) n) (eqb (nth s.records (rows_before (store_rows s) n)).flags 0x0002)
    where
      k : ℕ
      k = rows_before (store_rows s) n

      go : (o b : Bool) → (t : Store) × (cond o (cond b (stored (removed s k)) (stored (flagged s k (without_subscribed (nth s.records k).flags))))
          (stored s) ≡ stored t)
      go true true = (removed s k, refl)
      go true false = (flagged s k (without_subscribed (nth s.records k).flags), refl)
      go false b = (s, refl)

  -- an insertion is refused with 15, or there is room for it
  pub record Put : Type 0 where
    pub after : Store
    pub made : insertion s n ≡ stored after
    pub few : s.count < 512
    pub room : s.count < length s.records
    pub start : ℕ
    pub run : FreeAt s (length n) start

  pub insertion_ends : (insertion s n ≡ denied 15) ⊎ Put
  insertion_ends = run (free_run s (length n)) refl
    where
      go : (start : ℕ) → free_run s (length n) ≡ some start → (o : Bool) → room_for_row s ≡ o → (insertion s n ≡ denied 15) ⊎ Put
      go start f true e =
          inr
          (record {
            after = inserted s (rows_before (store_rows s) n) start n;
            made = unfold insertion in rw (f, e, insertion);
            few = ltb-true s.count 512 (and_l (ltb s.count 512) (ltb s.count (length s.records)) e);
            room = ltb-true s.count (length s.records) (and_r (ltb s.count 512) (ltb s.count (length s.records)) e);
            start = start;
            run = run_free s (length n) start f;
          })
      go start f false e = inl (unfold insertion in rw (f, e, insertion))

      run : (r : Option ℕ) → free_run s (length n) ≡ r → (insertion s n ≡ denied 15) ⊎ Put
      run none f = inl (unfold insertion in rw (f, insertion))
      run (some start) f = go start f (room_for_row s) refl

-- whether a line is SUBSCRIBE
abbrev pub is_subscribe : Parsed → Bool
is_subscribe (refused k) = false
is_subscribe (namespace tag) = false
is_subscribe (listing tag o ps) = false
is_subscribe (root_of tag) = false
is_subscribe (subscriptions tag ps) = false
is_subscribe (editing tag e) = subscribes e

-- What a command makes of a store (x), and of one that has room for more (y).
data Tried (p : Parsed) (x y : Edited) : Type 0 where
  both_refused : (k : ℕ) → x ≡ denied k → y ≡ denied k → Tried p x y
  both_made : (t u : Store) → x ≡ stored t → y ≡ stored u → store_rows u ≡ store_rows t → Tried p x y
  room_made : is_subscribe p ≡ true → (u : Store) → x ≡ denied 15 → y ≡ stored u → Tried p x y

-- "edits are allowed to reader 0 only"
allowed_tried : (p : Parsed) (b : Bool) (x y : Edited) → Tried p x y → Tried p (cond b x (denied 16)) (cond b y (denied 16))
allowed_tried p true x y w = w
allowed_tried p false x y w = both_refused 16 refl refl

-- How a command ends over a store (d), and over one that has room for more (e).
pub data Ended (p : Parsed) (room : ℕ) (r : Reply) (d e : Commanded) : Type 0 where
  as_before : e.reply ≡ d.reply → store_rows e.store ≡ store_rows d.store → Ended p room r d e
  room_given : is_subscribe p ≡ true → d.reply ≡ refusal 15 → e.reply ≡ limited room r → Ended p room r d e

tried_ends : (s c : Store) → store_rows c ≡ store_rows s → (p : Parsed) (room : ℕ) (r : Reply) (x y : Edited) → Tried p x y →
    Ended p room r (concluded s room x r) (concluded c room y r)
unfolding concluded unchanged_by limited
tried_ends s c q p room r x y w = go r w
  where
    over : (r : Reply) (x' y' : Edited) → x ≡ x' → y ≡ y' → Ended p room r (concluded s room x' r) (concluded c room y' r) →
        Ended p room r (concluded s room x r) (concluded c room y r)
    over r x' y' e f d =
        subst (λ (z : Edited). Ended p room r (concluded s room z r) (concluded c room y r)) (sym e)
        (subst (λ (z : Edited). Ended p room r (concluded s room x' r) (concluded c room z r)) (sym f) d)

    made : (t u : Store) (a : List ℕ) → store_rows u ≡ store_rows t → (b : Bool)
        → Ended p room (answered a) (cond b (record { reply = answered a; store = t }) (unchanged_by s 9))
        (cond b (record { reply = answered a; store = u }) (unchanged_by c 9))
    made t u a e true = as_before refl e
    made t u a e false = as_before refl q

    given : (u : Store) (a : List ℕ) → is_subscribe p ≡ true → (b : Bool) → leb (length a) room ≡ b
        → Ended p room (answered a) (unchanged_by s 15) (cond b (record { reply = answered a; store = u }) (unchanged_by c 9))
    given u a i true e = room_given i refl (rw e)
    given u a i false e = room_given i refl (rw e)

    go : (r : Reply) → Tried p x y → Ended p room r (concluded s room x r) (concluded c room y r)
    go (refusal k) w = as_before refl q
    go (answered a) (both_refused k e f) = over (answered a) (denied k) (denied k) e f (as_before refl q)
    go (answered a) (both_made t u e f g) = over (answered a) (stored t) (stored u) e f (made t u a g (leb (length a) room))
    go (answered a) (room_made i u e f) = over (answered a) (denied 15) (stored u) e f (given u a i (leb (length a) room) refl)

-- Two stores that pass and have the same rows, where the second (c) has room for every row that the first has room for.
module _ (s c : Store) (h : passes (store_table s) ≡ true) (g : passes (store_table c) ≡ true) (same_rows : store_rows c ≡ store_rows s)
    (room_stays : (n : List ℕ) → lawful_name n ≡ true → Put s n → insertion c n ≡ denied 15 → ⊥) where
  pub row_alike : (n : List ℕ) {o : Bool} → has_row (store_rows s) n ≡ o → has_row (store_rows c) n ≡ o
  row_alike n e = ap (λ (r : List Row). has_row r n) same_rows ∙ e

  pub lawful_alike : (n : List ℕ) {o : Bool} → (lawful_name n && not (below_no_inferiors (store_rows s) n)) ≡ o →
      (lawful_name n && not (below_no_inferiors (store_rows c) n)) ≡ o
  lawful_alike n e = ap (λ (r : List Row). lawful_name n && not (below_no_inferiors r n)) same_rows ∙ e

  -- edits that both accept leave the same rows
  made_alike : (e : Edit) (t u : Store) → edited s e ≡ stored t → edited c e ≡ stored u → store_rows u ≡ store_rows t
  made_alike e t u x y =
      edited_rows c u e g y
      ∙ ap (λ (l : List Row). rows_with l (name_of e) (row_after l e)) same_rows
      ∙ sym (edited_rows s t e h x)

  subscribe_tried : (tag n : List ℕ) → Tried (editing tag (subscribe n)) (edited s (subscribe n)) (edited c (subscribe n))
  unfolding edited
  subscribe_tried tag n = row (has_row (store_rows s) (spelled n)) refl
    where
      Both : Type 0
      Both = Tried (editing tag (subscribe n)) (subscribing s (spelled n)) (subscribing c (spelled n))

      put : lawful_name (spelled n) ≡ true → subscribing s (spelled n) ≡ insertion s (spelled n)
          → subscribing c (spelled n) ≡ insertion c (spelled n) → (insertion s (spelled n) ≡ denied 15) ⊎ Put s (spelled n)
          → (insertion c (spelled n) ≡ denied 15) ⊎ Put c (spelled n) → Both
      put l x y (inl e) (inl f) = both_refused 15 (x ∙ e) (y ∙ f)
      put l x y (inl e) (inr f) = room_made refl f.after (x ∙ e) (y ∙ f.made)
      put l x y (inr e) (inl f) = absurd (room_stays (spelled n) l e f)
      put l x y (inr e) (inr f) = both_made e.after f.after (x ∙ e.made) (y ∙ f.made)
          (made_alike (subscribe n) e.after f.after (x ∙ e.made) (y ∙ f.made))

      lawful : has_row (store_rows s) (spelled n) ≡ false → (o : Bool) →
          (lawful_name (spelled n) && not (below_no_inferiors (store_rows s) (spelled n))) ≡ o → Both
      lawful e true l =
          put (and_l (lawful_name (spelled n)) (not (below_no_inferiors (store_rows s) (spelled n))) l) (subscribing_puts s (spelled n) e l)
          (subscribing_puts c (spelled n) (row_alike (spelled n) e) (lawful_alike (spelled n) l))
          (insertion_ends s (spelled n)) (insertion_ends c (spelled n))
      lawful e false l =
          both_refused 14 (subscribing_refused s (spelled n) e l)
          (subscribing_refused c (spelled n) (row_alike (spelled n) e) (lawful_alike (spelled n) l))

      row : (o : Bool) → has_row (store_rows s) (spelled n) ≡ o → Both
      row true e =
          let x = subscribing_sets s (spelled n) e in
          let y = subscribing_sets c (spelled n) (row_alike (spelled n) e) in
          both_made x.0 y.0 x.1 y.1 (made_alike (subscribe n) x.0 y.0 x.1 y.1)
      row false e = lawful e (lawful_name (spelled n) && not (below_no_inferiors (store_rows s) (spelled n))) refl

  unsubscribe_tried : (tag n : List ℕ) → Tried (editing tag (unsubscribe n)) (edited s (unsubscribe n)) (edited c (unsubscribe n))
  unfolding edited
  unsubscribe_tried tag n =
      let x = unsubscribing_made s (spelled n) in
      let y = unsubscribing_made c (spelled n) in
      both_made x.0 y.0 x.1 y.1 (made_alike (unsubscribe n) x.0 y.0 x.1 y.1)

  command_tried : (reader : ℕ) (p : Parsed) → Tried p (attempted reader s p) (attempted reader c p)
  unfolding attempted
  command_tried reader (refused k) = both_made s c refl refl same_rows
  command_tried reader (namespace tag) = both_made s c refl refl same_rows
  command_tried reader (listing tag o ps) = both_made s c refl refl same_rows
  command_tried reader (root_of tag) = both_made s c refl refl same_rows
  command_tried reader (subscriptions tag ps) = both_made s c refl refl same_rows
  command_tried reader (editing tag (subscribe n)) =
      allowed_tried (editing tag (subscribe n)) (eqb reader 0) (edited s (subscribe n)) (edited c (subscribe n)) (subscribe_tried tag n)
  command_tried reader (editing tag (unsubscribe n)) =
      allowed_tried (editing tag (unsubscribe n)) (eqb reader 0) (edited s (unsubscribe n)) (edited c (unsubscribe n))
      (unsubscribe_tried tag n)

  -- how a command of a reader who sees the same rows of both ends
  pub command_ended : (reader : ℕ) → store_seen reader c ≡ store_seen reader s → (spaces l buffer : List ℕ)
      → Ended (parsed l) (length buffer) (answer (store_seen reader s) spaces l) (commanded reader s spaces l buffer)
      (commanded reader c spaces l buffer)
  unfolding commanded commanded_over unchanged_by
  command_ended reader seen spaces l buffer = go (is_reader reader)
    where
      said : Reply
      said = answer (store_seen reader s) spaces l

      over : Store → Reply → Commanded
      over v r = concluded v (length buffer) (attempted reader v (parsed l)) r

      went : Ended (parsed l) (length buffer) said (over s said) (over c (answer (store_seen reader c) spaces l))
      went =
          subst (λ (r : Reply). Ended (parsed l) (length buffer) said (over s said) (over c r))
          (ap (λ (t : Table). answer t spaces l) (sym seen))
          (tried_ends s c same_rows (parsed l) (length buffer) said (attempted reader s (parsed l))
          (attempted reader c (parsed l)) (command_tried reader (parsed l)))

      go : (b : Bool) → Ended (parsed l) (length buffer) said (cond b (over s said) (unchanged_by s 16))
          (cond b (over c (answer (store_seen reader c) spaces l)) (unchanged_by c 16))
      go true = went
      go false = as_before refl same_rows
