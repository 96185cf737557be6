-- Rows that are right one after the other: every one is lawful, and they ascend. Rests on the definitions alone.
use Rattle.listing_rules.proofs.Prelude.{◌≡◌, refl, Bool, ◌&&◌, true, List, [], ◌∷◌, ℕ}
use Rattle.listing_rules.specs.Lists.{every}
use Rattle.listing_rules.specs.Orders.{byte_order, is_lt, ascends_from}
use Rattle.listing_rules.specs.Names.{lawful_name}
use Rattle.listing_rules.specs.Flags.{lawful_flags}
use Rattle.listing_rules.specs.Table.{Row, names}
use Rattle.mailbox_table.specs.Link.{rows_right}
use Rattle.listing_rules.proofs.Bools.{and_l, and_r, and_i}

-- rows that are right from x on: each is lawful, and they ascend from x on
pub record RightParts (x : List ℕ) (rs : List Row) : Type 0 where
  pub lawful : every (λ r. lawful_name r.name) rs ≡ true
  pub flagged : every (λ r. lawful_flags r.flags) rs ≡ true
  pub ascend : ascends_from x (names rs) ≡ true

module _ (x : List ℕ) (r : Row) (rs : List Row) where
  abbrev flags_ok : Bool
  flags_ok = lawful_flags r.flags

  abbrev name_ok : Bool
  name_ok = lawful_name r.name

  abbrev order_ok : Bool
  order_ok = is_lt (byte_order x r.name)

  more_parts : (flags_ok && name_ok && order_ok) ≡ true → RightParts r.name rs → RightParts x (r ∷ rs)
  unfolding every names ascends_from
  more_parts e p =
      record {
        lawful = and_i name_ok (every (λ q. lawful_name q.name) rs) (and_r flags_ok name_ok (and_l (flags_ok && name_ok) order_ok e)) p.lawful;
        flagged = and_i flags_ok (every (λ q. lawful_flags q.flags) rs) (and_l flags_ok name_ok (and_l (flags_ok && name_ok) order_ok e)) p.flagged;
        ascend = and_i order_ok (ascends_from r.name (names rs)) (and_r (flags_ok && name_ok) order_ok e) p.ascend;
      }

  first_part : RightParts x (r ∷ rs) → (flags_ok && name_ok && order_ok) ≡ true
  unfolding every names ascends_from
  first_part p =
      and_i (flags_ok && name_ok) order_ok
      (and_i flags_ok name_ok (and_l flags_ok (every (λ q. lawful_flags q.flags) rs) p.flagged) (and_l name_ok (every (λ q. lawful_name q.name) rs) p.lawful))
      (and_l order_ok (ascends_from r.name (names rs)) p.ascend)

  other_parts : RightParts x (r ∷ rs) → RightParts r.name rs
  unfolding every names ascends_from
  other_parts p =
      record {
        lawful = and_r name_ok (every (λ q. lawful_name q.name) rs) p.lawful;
        flagged = and_r flags_ok (every (λ q. lawful_flags q.flags) rs) p.flagged;
        ascend = and_r order_ok (ascends_from r.name (names rs)) p.ascend;
      }

pub right_parts : (x : List ℕ) (rs : List Row) → rows_right x rs ≡ true → RightParts x rs
unfolding rows_right every names ascends_from
right_parts x [] e = record { lawful = refl; flagged = refl; ascend = refl }
right_parts x (r ∷ rs) e =
    let g = lawful_flags r.flags && lawful_name r.name && is_lt (byte_order x r.name) in
    more_parts x r rs (and_l g (rows_right r.name rs) e) (right_parts r.name rs (and_r g (rows_right r.name rs) e))

pub parts_right : (x : List ℕ) (rs : List Row) → RightParts x rs → rows_right x rs ≡ true
unfolding rows_right
parts_right x [] p = refl
parts_right x (r ∷ rs) p =
    and_i (lawful_flags r.flags && lawful_name r.name && is_lt (byte_order x r.name)) (rows_right r.name rs)
    (first_part x r rs p)
    (parts_right r.name rs (other_parts x r rs p))
