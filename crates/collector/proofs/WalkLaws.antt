-- The walk command by command: what is left of it gives what the whole gives. Rests on QueueLaws and GrowLaws, and on the law that
-- the bound on the steps does not matter (`walk-fuel`).
use Rattle.listing_rules.proofs.Prelude.{◌∙◌, ◌≡◌, ap, sym, true, List, [], ◌++◌, ◌∷◌, ◌+◌, ◌-◌, ◌<◌, ◌≤◌, suc, ℕ, arith, drop, get_or, length}
use Rattle.listing_rules.proofs.Prelude.{length-append, replicate, take, take-append-le}
use Rattle.listing_rules.specs.Bytes.{slash}
use Rattle.listing_rules.specs.Table.{Table, rows, passes}
use Rattle.listing_rules.specs.Listing.{candidates}
use Rattle.listing_rules.specs.Walk.{Lists, Step, stop, go, ◌then◌, packed, asked, walk_from, walk_all, WalkReply, walk_refused, walked, ended, walk}
use Rattle.listing_rules.specs.Walk.{collected}
use Rattle.listing_rules.proofs.WalkFuel.{walk_fuel}
use Rattle.collector.specs.Names.{Lies, name_at}
use Rattle.collector.specs.Options.{byte_of}
use Rattle.collector.specs.Taking.{Holds, Goes, command_step}
use Rattle.collector.specs.Walking.{Walking}
use Rattle.collector.specs.Ends.{Comes}
use Rattle.collector.specs.declared.lines.Progress.{Progress}
use Rattle.collector.specs.declared.options.WalkOptions.{WalkOptions}
use Rattle.collector.proofs.OptionLaws.{byte_lawful}
use Rattle.collector.proofs.PackLaws.{packed_none, packs_none}
use Rattle.collector.proofs.QueueLaws.{NextName, queue_end, queue_next, packed_longer}
use Rattle.collector.proofs.GrowLaws.{asked_grows}

-- the bound on the steps that `walk` gives
abbrev steps_of : Table → ℕ
steps_of table = suc (suc (length (candidates (rows table))))

-- nothing is found, and no command was sent
abbrev no_lists : Lists
no_lists = record { finds = []; asks = [] }

abbrev pub no_progress : Progress
no_progress = record { count = 0; found = 0; pending = 0 }

-- the walk of a table that passes, with any bound on the steps that is large enough
walks : (table : Table) (w : WalkOptions) (scratch found pending k : ℕ) → passes table ≡ true → steps_of table ≤ k →
    walk table (byte_of w) scratch found pending ≡ ended (walk_all table (byte_of w) scratch found pending k)
unfolding walk
walks table w scratch found pending k ok h =
    rw (ok, byte_lawful w) (ap ended (sym (walk_fuel table (byte_of w) scratch found pending k (ok, byte_lawful w) h)))

-- one collection goes by the lengths of the buffers
pub collected_long : (table : Table) (o : ℕ) (s d b s' d' b' : List ℕ) → length s' ≡ length s → length d' ≡ length d → length b' ≡ length b → collected table o s' d' b' ≡ collected table o s d b
unfolding collected
collected_long table o s d b s' d' b' l₀ l₁ l₂ = λ i. walk table o (l₀ i) (l₁ i) (l₂ i)

-- The first command. The table passes, and found and pending are zero.
module _ (table : Table) (w : WalkOptions) (s : List ℕ) {d b : List ℕ} (ok : passes table ≡ true) (zd : d ≡ replicate (length d) 0) (zb : b ≡ replicate (length b) 0) where
  holds_none : Holds no_lists d b no_progress
  holds_none = record { finds = packs_none d zd; asks = packs_none b zb }

  first_step : (k : ℕ) (x : Step Lists) → command_step table w [] s d b no_lists ≡ x → steps_of table ≤ k →
      ended (x then λ u. walk_from table (byte_of w) (length s) (length d) (length b) k 0 u) ≡ collected table (byte_of w) s d b
  unfolding walk_all collected
  first_step k x e h =
      ap (λ (y : Step Lists). ended (y then λ u. walk_from table (byte_of w) (length s) (length d) (length b) k 0 u)) (sym e)
      ∙ sym (walks table w (length s) (length d) (length b) k ok h)

  pub walk_refused_lem : {k : ℕ} → ((u : Lists) → Holds u d b no_progress → command_step table w [] s d b u ≡ stop k) → collected table (byte_of w) s d b ≡ walk_refused k
  unfolding ◌then◌ ended
  walk_refused_lem {k} f = sym (first_step (steps_of table) (stop k) (f no_lists holds_none) (omega arith))

  pub walking_begins : (s' : List ℕ) {d' b' : List ℕ} {q : Progress} → Goes (command_step table w [] s d b) 1 d b no_progress d' b' q →
      length s' ≡ length s → length d' ≡ length d → length b' ≡ length b → Walking table w (length s') (length d') (length b') s' d' b' q 0
  unfolding ◌then◌ collected
  walking_begins s' g l₀ l₁ l₂ =
      let u = g.lists no_lists holds_none in
      let k = steps_of table + suc (length b) in
      rw (l₀, l₁, l₂)
      (record {
        scratch_long = l₀;
        found_long = l₁;
        pending_long = l₂;
        lists = u.0;
        holds = u.2;
        done = 0;
        asked_before = omega arith;
        place = sym (ap length packed_none);
        counted = g.counted;
        fuel = k;
        left = omega arith;
        rest = first_step k (go u.0) u.1 (omega arith);
      })

-- Between two commands.
module _ {table : Table} {w : WalkOptions} {scratch found pending : ℕ} {s d b : List ℕ} {p : Progress} {at : ℕ} (W : Walking table w scratch found pending s d b p at) where
  -- one step is left at least
  left_as_lem : {x : WalkReply} → ended (walk_from table (byte_of w) scratch found pending (suc (W.fuel - 1)) W.done W.lists) ≡ x → x ≡ walk table (byte_of w) scratch found pending
  left_as_lem e =
      let k : suc (W.fuel - 1) ≡ W.fuel = omega (arith, W.left) in
      sym e ∙ ap (λ (n : ℕ). ended (walk_from table (byte_of w) scratch found pending n W.done W.lists)) k ∙ W.rest

  -- no name is left
  pub walking_ends : p.pending ≤ at → Comes (walk table (byte_of w) scratch found pending) d b p.count p.found
  unfolding walk_from ended
  walking_ends h =
      record {
        finds = packed W.lists.finds;
        asks = packed W.lists.asks;
        is =
            sym (left_as_lem (rw (queue_end W.holds.asks W.asked_before W.place h, walk_from))) ∙ ap
            (λ (n : ℕ). walked n (packed W.lists.finds) (packed W.lists.asks)) (sym W.counted);
        counted = W.holds.finds.counted;
        found = W.holds.finds.bytes;
        pending = W.holds.asks.bytes;
      }

  -- the next name, whose length byte stands at the place
  module _ (h : at < p.pending) {end : ℕ} (e : end ≡ at + 1 + get_or b at 0) where
    next : NextName b p.pending W.done W.lists.asks at
    next = queue_next W.holds.asks W.asked_before W.place h

    pub name_inside : end ≤ p.pending
    name_inside = omega (arith, next.inside, next.size)

    pub name_lies : get_or b at 0 ≤ 255 → Lies (record { from = at + 1; end = end }) b
    name_lies few = record { ordered = omega arith; inside = omega (arith, name_inside, W.holds.asks.room); short = omega arith }

    pub count_fits : p.count ≤ length b
    count_fits = omega (arith, W.counted, next.more, packed_longer W.lists.asks, W.holds.asks.counted, W.holds.asks.room)

    name_is_lem : name_at (record { from = at + 1; end = end }) b ≡ next.name
    name_is_lem = let k : end - (at + 1) ≡ length next.name = omega (arith, next.size) in ap (λ (n : ℕ). take n (drop (at + 1) b)) k ∙ next.bytes

    -- the command below it
    abbrev next_step : Lists → Step Lists
    next_step = command_step table w (name_at (record { from = at + 1; end = end }) b ++ (slash ∷ [])) s d b

    walk_on : (x : Step Lists) → next_step W.lists ≡ x →
        ended (x then λ u. walk_from table (byte_of w) scratch found pending (W.fuel - 1) (suc W.done) u) ≡ walk table (byte_of w) scratch found
        pending
    unfolding walk_from
    walk_on x g =
        ap (λ (y : Step Lists). ended (y then λ u. walk_from table (byte_of w) scratch found pending (W.fuel - 1) (suc W.done) u)) (sym (same_step ∙ g))
        ∙ left_as_lem (rw (next.queue, walk_from))
      where
        same_step : asked table (byte_of w) scratch found pending W.lists (next.name ++ (slash ∷ [])) ≡ next_step W.lists
        same_step = λ i. asked table (byte_of w) (sym W.scratch_long i) (sym W.found_long i) (sym W.pending_long i) W.lists (sym name_is_lem i ++ (slash ∷ []))

    pub walking_refused : {k : ℕ} → ((u : Lists) → Holds u d b p → next_step u ≡ stop k) → walk table (byte_of w) scratch found pending ≡ walk_refused k
    unfolding ◌then◌ ended
    walking_refused {k} f = sym (walk_on (stop k) (f W.lists W.holds))

    pub walking_step : (s' : List ℕ) {d' b' : List ℕ} {q : Progress} → Goes next_step (p.count + 1) d b p d' b' q → length s' ≡ length s →
        length d' ≡ length d → length b' ≡ length b → Walking table w scratch found pending s' d' b' q end
    unfolding ◌then◌
    walking_step s' g l₀ l₁ l₂ =
        let u = g.lists W.lists W.holds in
        let m = asked_grows (byte_of w) (length d) (length b) table (length s) W.lists u.0 (name_at (record { from = at + 1; end = end }) b ++ (slash ∷ [])) u.1 in
        record {
          scratch_long = l₀ ∙ W.scratch_long;
          found_long = l₁ ∙ W.found_long;
          pending_long = l₂ ∙ W.pending_long;
          lists = u.0;
          holds = u.2;
          done = suc W.done;
          asked_before = omega (arith, next.more, ap length m.1, length-append W.lists.asks m.0);
          place =
              omega (
                arith,
                e,
                next.size,
                next.place,
                ap (λ (x : List (List ℕ)). length (packed (take (suc W.done) x))) m.1,
                ap (λ (x : List (List ℕ)). length (packed x)) (take-append-le (suc W.done) W.lists.asks m.0 next.more),
              );
          counted = omega (arith, g.counted, W.counted);
          fuel = W.fuel - 1;
          left = omega (arith, W.left, W.pending_long, next.inside, next.size, W.holds.asks.room);
          rest = walk_on (go u.0) u.1;
        }
