-- Laws of option values: one item at a time, with no bound on the steps. Rests on Value of the definitions.
use Rattle.listing_rules.proofs.Prelude.{◌≡◌, none, some, List, ◌+◌, ℕ, arith, drop, get_or}
use Rattle.listing_rules.specs.Bytes.{text}
use Rattle.listing_rules.specs.Tokens.{◌>>=◌}
use Rattle.listing_rules.proofs.Value.{value_first}
use Rattle.command_tokens.specs.Values.{value_of, string_item, first_item, behind_item}
use Rattle.command_tokens.proofs.Bytes.{at_here, at_other, after_here, after_other}

-- a value is its first item and what stands behind that
pub value_step : (t : List ℕ) → value_of t ≡ (first_item value_of t >>= behind_item value_of)
unfolding value_of first_item string_item behind_item
value_step t = value_first t

module _ (s : List ℕ) (i : ℕ) where
  -- an inner parenthesis begins a value
  pub item_value : get_or s i 0 ≡ 40 → first_item value_of (drop i s) ≡ value_of (drop (i + 1) s)
  unfolding first_item text ◌>>=◌
  item_value h = rw (at_here s i 40 (omega arith) h, after_here s i 40 (omega arith) h)

  pub item_string : (get_or s i 0 ≡ 40 → ⊥) → first_item value_of (drop i s) ≡ string_item (drop i s)
  unfolding first_item
  item_string h = rw (at_other s i 40 h)

  pub behind_close : get_or s i 0 ≡ 41 → behind_item value_of (drop i s) ≡ some (drop (i + 1) s)
  unfolding behind_item text
  behind_close h = rw (at_other s i 32 (λ q. omega arith)) (after_here s i 41 (omega arith) h)

  pub behind_space : get_or s i 0 ≡ 32 → behind_item value_of (drop i s) ≡ value_of (drop (i + 1) s)
  unfolding behind_item text ◌>>=◌
  behind_space h = rw (at_here s i 32 (omega arith) h, after_here s i 32 (omega arith) h)

  pub behind_off : (get_or s i 0 ≡ 41 → ⊥) → (get_or s i 0 ≡ 32 → ⊥) → behind_item value_of (drop i s) ≡ none
  unfolding behind_item text
  behind_off h k = rw (at_other s i 32 k) (after_other s i 41 h)
