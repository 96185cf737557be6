-- Check 1 of the rows of words as the code decides it: one pass over the words, and one over the rows with no inferiors. Rests on LinkLaws
-- and RightLaws, and on the parts of check 1 in listing_rules.
use Rattle.listing_rules.proofs.Prelude.{◌∙◌, ◌≡◌, ap, refl, sym, Bool, ◌&&◌, false, true, List, [], ◌∷◌, map, ◌≤◌, ℕ, arith, length}
use Rattle.listing_rules.specs.Lists.{every}
use Rattle.listing_rules.specs.Orders.{byte_order, is_lt, ascends, ascends_from}
use Rattle.listing_rules.specs.Names.{lawful_name}
use Rattle.listing_rules.specs.Table.{Row, names, rows_pass}
use Rattle.listing_rules.specs.Records.{lies_inside}
use Rattle.listing_rules.proofs.Bools.{and_l, and_r, and_i, and_assoc, bools_equal}
use Rattle.listing_rules.proofs.LawfulNames.{good_parts}
use Rattle.listing_rules.proofs.Passes.{rows_parts, parts_pass}
use Rattle.records.specs.Words.{record_of}
use Rattle.mailbox_table.specs.Index.{rows_at}
use Rattle.mailbox_table.specs.Below.{all_none_below}
use Rattle.mailbox_table.specs.Link.{rows_right, linked, Same, Links, words_pass}
use Rattle.mailbox_table.proofs.WordLaws.{rows_records}
use Rattle.mailbox_table.proofs.SharedLaws.{order_nil_cons}
use Rattle.mailbox_table.proofs.BelowLaws.{ascends_tail}
use Rattle.mailbox_table.proofs.IndexLaws.{rows_length}
use Rattle.mailbox_table.proofs.RightLaws.{RightParts, right_parts, parts_right}
use Rattle.mailbox_table.proofs.LinkLaws.{linked_is}

-- nothing comes before a lawful name, so the first row may be compared with an empty name
nil_before : (n : List ℕ) → 1 ≤ length n → is_lt (byte_order [] n) ≡ true
nil_before [] h = absurd (omega arith)
nil_before (b ∷ n) h = order_nil_cons b n

from_nil : (rs : List Row) → every (λ r. lawful_name r.name) rs ≡ true → ascends (names rs) ≡ true → ascends_from [] (names rs) ≡ true
unfolding every names ascends ascends_from
from_nil [] e l = refl
from_nil (r ∷ rs) e l =
    and_i (is_lt (byte_order [] r.name)) (ascends_from r.name (names rs))
    (nil_before r.name (good_parts r.name (and_l (lawful_name r.name) (every (λ q. lawful_name q.name) rs) e)).least)
    l

-- the two passes decide
two_passes : (rs : List Row) → length rs ≤ 512 → (rows_right [] rs && all_none_below rs) ≡ rows_pass rs
two_passes rs h = bools_equal (rows_right [] rs && all_none_below rs) (rows_pass rs) there back
  where
    there : (rows_right [] rs && all_none_below rs) ≡ true → rows_pass rs ≡ true
    there e =
        let p = right_parts [] rs (and_l (rows_right [] rs) (all_none_below rs) e) in
        parts_pass rs
        (record {
          few = h;
          lawful_names = p.lawful;
          lawful_flags_lem = p.flagged;
          ascend = ascends_tail [] (names rs) p.ascend;
          inferiors = and_r (rows_right [] rs) (all_none_below rs) e;
        })

    back : rows_pass rs ≡ true → (rows_right [] rs && all_none_below rs) ≡ true
    back e =
        let q = rows_parts rs e in
        let r : RightParts [] rs = record { lawful = q.lawful_names; flagged = q.lawful_flags_lem; ascend = from_nil rs q.lawful_names q.ascend } in
        and_i (rows_right [] rs) (all_none_below rs) (parts_right [] rs r) q.inferiors

passes_is : (area ws : List ℕ) → length ws ≤ 512 → (linked area [] ws && all_none_below (rows_at area ws)) ≡ words_pass area ws
passes_is area ws h =
    let rs = rows_at area ws in
    let inside = every (lies_inside area) (map record_of ws) in
    rw (linked_is area [] ws)
    (and_assoc inside (rows_right [] rs) (all_none_below rs) ∙ ap (λ (b : Bool). inside && b) (two_passes rs (omega (arith, rows_length area ws))))

-- what the two passes answer
module _ {area before after : List ℕ} (few : length before ≤ 512) where
  pub passes_bad : Links area before after (linked area [] before) false → Links area before after (words_pass area before) false
  passes_bad l = record { answer = sym (sym (passes_is area before few) ∙ rw (sym l.answer)); room = l.room; same = tt }

  pub passes_linked : Links area before after (linked area [] before) true → (r : Bool) → r ≡ all_none_below (rows_at area after)
      → Links area before after (words_pass area before) r
  passes_linked l r e = record { answer = decided; room = l.room; same = same_any r }
    where
      rows_same : rows_at area after ≡ rows_at area before
      rows_same = rw (rows_records area after, l.same.0, ← rows_records area before)

      decided : r ≡ words_pass area before
      decided = e ∙ rw (rows_same) (sym (sym (passes_is area before few) ∙ rw (sym l.answer)))

      same_any : (b : Bool) → Same area before after b
      same_any false = tt
      same_any true = l.same
