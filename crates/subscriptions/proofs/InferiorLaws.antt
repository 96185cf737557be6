-- A name below a row with no inferiors, as the code's tests find it. Rests on the library alone.
use Rattle.std.specs.List.{list_any}
use Rattle.listing_rules.proofs.Prelude.{◌≡◌, refl, sym, ◌&&◌, and_assoc, and-false, false, List, [], ◌∷◌, ◌<◌, ◌≤◌, ℕ, arith}
use Rattle.listing_rules.proofs.Prelude.{eqb, get_or, length, take}
use Rattle.listing_rules.specs.Bytes.{slash, same}
use Rattle.listing_rules.specs.Lists.{any_of}
use Rattle.listing_rules.specs.Names.{below}
use Rattle.listing_rules.specs.Subscriptions.{below_no_inferiors}
use Rattle.mailbox_table.specs.Index.{row_at_word, rows_at}
use Rattle.subscriptions.specs.Plans.{bars_below}

-- a name that goes on after another lies below it by the bytes that they share and the byte after them
pub below_at : (a n : List ℕ) → length a < length n → below a n ≡ (same a (take (length a) n) && eqb (get_or n (length a) 0) 47)
unfolding below same slash
below_at a [] h = absurd (omega arith)
below_at [] (c ∷ n) h = refl
below_at (b ∷ a) (c ∷ n) h = rw (below_at a n (omega arith)) (sym (and_assoc (eqb b c) (same a (take (length a) n)) (eqb (get_or n (length a) 0) 47)))

pub below_short : (a n : List ℕ) → length n ≤ length a → below a n ≡ false
unfolding below
below_short [] [] h = refl
below_short [] (c ∷ n) h = absurd (omega arith)
below_short (b ∷ a) [] h = refl
below_short (b ∷ a) (c ∷ n) h = rw (below_short a n (omega arith)) (and-false (eqb b c))

-- some row of the words bars it
pub bars_any : (area words n : List ℕ) → list_any (λ w. bars_below n (row_at_word area w)) words ≡ below_no_inferiors (rows_at area words) n
unfolding below_no_inferiors any_of bars_below
bars_any area [] n = refl
bars_any area (w ∷ ws) n = rw (bars_any area ws n)
