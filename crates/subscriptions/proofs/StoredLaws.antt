-- An edit of a store whose records are the words: the plan for it fits, and done it leaves that store. Rests on PlanLaws, FitLaws and
-- AppliedLaws, and on the parts of a store that passes.
use Rattle.std.specs.Prelude.{Ok, Err}
use Rattle.listing_rules.proofs.Prelude.{◌∙◌, ◌≡◌, ap, refl, subst, sym, true, List, [], ◌++◌, ◌∷◌, append_assoc, map, map-append, ◌+◌, ◌-◌, ◌<◌, ◌≤◌}
use Rattle.listing_rules.proofs.Prelude.{suc, zero, ℕ, add-one, arith, leb, drop, get_or, length, length-append, length-drop, length-map, length-set}
use Rattle.listing_rules.proofs.Prelude.{set, take, append_snoc, drop_at, length-take-le, paste-zero, set_split, leb-true}
use Rattle.listing_rules.specs.Lists.{every}
use Rattle.listing_rules.specs.Orders.{ascends}
use Rattle.listing_rules.specs.Table.{Row, names, passes}
use Rattle.listing_rules.specs.Records.{Record, record_rows, lies_inside}
use Rattle.listing_rules.specs.Command.{Edit}
use Rattle.listing_rules.specs.Subscriptions.{Store, store_table, store_rows, held}
use Rattle.listing_rules.proofs.Bools.{and_l, and_r}
use Rattle.listing_rules.proofs.ListLaws.{map_take, map_drop}
use Rattle.listing_rules.proofs.EditPasses.{StoreParts, store_parts, rows_count}
use Rattle.records.specs.Words.{record_of}
use Rattle.records.specs.Stores.{Between}
use Rattle.mailbox_table.specs.Words.{row_of_word}
use Rattle.subscriptions.specs.declared.Plan.TheVariants.{Keep, Flag, Insert, Remove}
use Rattle.subscriptions.specs.declared.Change.{Change}
use Rattle.subscriptions.specs.Plans.{Decision, Ordered, subscribes, edited_name}
use Rattle.subscriptions.specs.Applied.{with_flags, new_word, inserted_at, removed_at, words_after, area_after, change_of, changed_records, Applies}
use Rattle.subscriptions.specs.Applied.{Fits, FlagFits, InsertFits, RemoveFits}
use Rattle.subscriptions.specs.Stored.{whole_store, plan_of, Decides}
use Rattle.subscriptions.proofs.PlanLaws.{edited_plan}
use Rattle.subscriptions.proofs.FitLaws.{plan_fits}
use Rattle.subscriptions.proofs.PlaceLaws.{rows_are}
use Rattle.subscriptions.proofs.AppliedLaws.{taken_insert, taken_remove, applied_store}
use Rattle.subscriptions.proofs.ShiftLaws.{length_middle}

-- every name of the words lies inside the area
inside_each : (area ws : List ℕ) → every (lies_inside area) (map record_of ws) ≡ true → (k : ℕ) → k < length ws
    → (row_of_word (get_or ws k 0)).start + (row_of_word (get_or ws k 0)).len ≤ length area
unfolding every lies_inside record_of row_of_word
inside_each area [] h k l = absurd (omega arith)
inside_each area (w ∷ ws) h zero l =
    let r = record_of w in
    leb-true (r.start + r.len) (length area) (and_l (leb (r.start + r.len) (length area)) (every (lies_inside area) (map record_of ws)) h)
inside_each area (w ∷ ws) h (suc k) l = inside_each area ws (and_r (lies_inside area (record_of w)) (every (lies_inside area) (map record_of ws)) h) k (omega (arith, l))

-- what is known of words whose table passes
pub record Passing (ws : List ℕ) (count : ℕ) (area : List ℕ) : Type 0 where
  pub counted : count ≤ length ws
  pub few : count ≤ 512
  pub small : length area ≤ 32768
  pub ordered : Ordered area (take count ws)

pub words_pass_lem : (ws : List ℕ) (count : ℕ) (area : List ℕ) → passes (store_table (whole_store ws count area)) ≡ true → Passing ws count area
unfolding store_rows held
words_pass_lem ws count area h =
    record {
      counted = counted;
      few = omega (arith, p.parts.few, rows_count s p.counted);
      small = p.laid.small;
      ordered = record {
        ascend = subst (λ (rs : List Row). ascends (names rs) ≡ true) (ap (record_rows area) front ∙ rows_are area (take count ws)) p.parts.ascend;
        inside = inside_each area (take count ws) (subst (λ (rs : List Record). every (lies_inside area) rs ≡ true) front p.laid.inside);
      };
    }
  where
    s : Store
    s = whole_store ws count area

    p : StoreParts s
    p = store_parts s h

    counted : count ≤ length ws
    counted = omega (arith, p.counted, length-map ws record_of)

    front : take count (map record_of ws) ≡ map record_of (take count ws)
    front = sym (map_take record_of count ws)

-- the words that a plan leaves alone
module _ (ws : List ℕ) where
  nothing_between : Between ws ws (length ws) 0 0
  nothing_between = record { order = omega arith; lent_only = omega arith; within = omega arith; size = refl; others = paste-zero ws 0 ws }

  flag_between : (count k f : ℕ) → FlagFits ws count k f → Between ws (set ws k (with_flags f (get_or ws k 0))) (length ws) k (k + 1)
  flag_between count k f fit =
      let h : k < length ws = omega (arith, fit.row, fit.words) in
      let w : ℕ = with_flags f (get_or ws k 0) in
      let one : k + 1 - k ≡ 1 = omega arith in
      record {
        order = omega arith;
        lent_only = omega (arith, h);
        within = omega (arith, h);
        size = length-set ws k w;
        others =
            rw (one, set_split ws k w h, drop_at (take k ws) (w ∷ drop (suc k) ws) k (length-take-le k ws (omega (arith, h))), add-one k)
            (sym (append_assoc (take k ws) (w ∷ []) (drop (suc k) ws)));
      }

  insert_between : (count : ℕ) (area n : List ℕ) (k start : ℕ) → InsertFits ws count area n k start
      → Between ws (inserted_at ws count k (new_word start (length n))) (length ws) k (count + 1)
  unfolding inserted_at
  insert_between count area n k start fit =
      let m : count + 1 - k ≡ suc (count - k) = omega (arith, fit.place) in
      let e : k + suc (count - k) ≡ suc count = omega (arith, fit.place) in
      let w : ℕ = new_word start (length n) in
      record {
        order = omega (arith, fit.place);
        lent_only = omega (arith, fit.room);
        within = omega (arith, fit.room);
        size =
            omega (
              arith,
              fit.place,
              fit.room,
              length-append (take k ws) (w ∷ (drop k (take count ws) ++ drop (suc count) ws)),
              length-take-le k ws (omega (arith, fit.place, fit.room)),
              length-append (drop k (take count ws)) (drop (suc count) ws),
              length_middle k count ws (omega (arith, fit.room)),
              length-drop (suc count) ws,
            );
        others =
            rw (
              m,
              e,
              taken_insert ws k (count - k) w (drop k (take count ws)) (drop (suc count) ws) (length-take-le k ws (omega (
                arith,
                fit.place,
                fit.room,
              ))) (length_middle k count ws (omega (arith, fit.room))),
            )
            (sym (append_assoc (take k ws) (w ∷ drop k (take count ws)) (drop (suc count) ws)));
      }

  remove_between : (count : ℕ) (area : List ℕ) (k : ℕ) → RemoveFits ws count area k → Between ws (removed_at ws count k) (length ws) k count
  unfolding removed_at
  remove_between count area k fit =
      let m : count - k ≡ suc (count - suc k) = omega (arith, fit.row) in
      let e : k + suc (count - suc k) ≡ count = omega (arith, fit.row) in
      record {
        order = omega (arith, fit.row);
        lent_only = fit.words;
        within = fit.words;
        size =
            omega (
              arith,
              fit.row,
              fit.words,
              length-append (take k ws) (drop (suc k) (take count ws) ++ (0 ∷ drop count ws)),
              length-take-le k ws (omega (arith, fit.row, fit.words)),
              length-append (drop (suc k) (take count ws)) (0 ∷ drop count ws),
              length_middle (suc k) count ws fit.words,
              length-drop count ws,
            );
        others =
            rw (
              m,
              e,
              taken_remove ws k (count - suc k) (drop (suc k) (take count ws)) (drop count ws) (length-take-le k ws (omega (
                arith,
                fit.row,
                fit.words,
              ))) (length_middle (suc k) count ws fit.words),
            )
            (ap (λ (l : List ℕ). take k ws ++ l) (sym (append_snoc (drop (suc k) (take count ws)) 0 (drop count ws))) ∙ sym
            (append_assoc (take k ws) (drop (suc k) (take count ws) ++ (0 ∷ [])) (drop count ws)));
      }

  plan_between : (p : Decision) (count : ℕ) (area n : List ℕ) → Fits p ws count area n
      → Between ws (words_after p ws count n) (length ws) (change_of p count).from (change_of p count).to
  unfolding words_after change_of
  plan_between (Ok Keep) count area n fit = nothing_between
  plan_between (Ok (Flag k f)) count area n fit = flag_between count k f fit
  plan_between (Ok (Insert k start)) count area n fit = insert_between count area n k start fit
  plan_between (Ok (Remove k)) count area n fit = remove_between count area k fit
  plan_between (Err x) count area n fit = nothing_between

-- the records that changed, between those that stay, are those of the words
changed_words : (ws vs : List ℕ) (c : Change) → Between ws vs (length ws) c.from c.to → changed_records (map record_of ws) c vs ≡ map record_of vs
unfolding changed_records
changed_words ws vs c b =
    let e : c.from + (c.to - c.from) ≡ c.to = omega (arith, b.order) in
    let part : List ℕ = take (c.to - c.from) (drop c.from vs) in
    let whole : vs ≡ take c.from ws ++ (part ++ drop c.to ws) = b.others ∙ rw e (append_assoc (take c.from ws) part (drop c.to ws)) in
    sym (ap (map record_of) whole ∙ map-append record_of (take c.from ws) (part ++ drop c.to ws)
    ∙ rw (map-append record_of part (drop c.to ws), map_take record_of c.from ws, map_drop record_of c.to ws))

-- The plan for an edit of words whose table passes.
pub plan_decides : (ws : List ℕ) (count : ℕ) (area : List ℕ) (e : Edit) → passes (store_table (whole_store ws count area)) ≡ true → Decides ws count area e (plan_of ws count area e)
unfolding held
plan_decides ws count area e h =
    record {
      comes_to_lem = edited_plan s e (omega (arith, q.counted, number)) ∙ rw (← front, number);
      fits = fits;
      leaves = λ t f. left t (applied_store p s t ws count area n refl refl (sym front) fits f);
      between = plan_between ws p count area n fits;
    }
  where
    s : Store
    s = whole_store ws count area

    p : Decision
    p = plan_of ws count area e

    n : List ℕ
    n = edited_name e

    q : Passing ws count area
    q = words_pass_lem ws count area h

    number : length (map record_of ws) ≡ length ws
    number = length-map ws record_of

    front : map record_of (take count ws) ≡ take count (map record_of ws)
    front = map_take record_of count ws

    fits : Fits p ws count area n
    fits = plan_fits ws count (length ws) area (subscribes e) n q.ordered q.counted q.small (λ a b. b)

    left : (t : Store) → Applies p s t ws count area n → t ≡ whole_store (words_after p ws count n) (change_of p count).count (area_after p ws area n)
    left t a =
        let records = a.records_are ∙ changed_words ws (words_after p ws count n) (change_of p count) (plan_between ws p count area n fits) in
        λ i. record { records = records i; count = a.count_is i; area = a.area_is i }
