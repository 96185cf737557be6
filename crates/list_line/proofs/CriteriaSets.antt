-- A set of criteria by the code's tests of its two members.
use Rattle.listing_rules.proofs.Prelude.{◌∙◌, ◌≡◌, sym, Bool, ◌||◌, not, ℕ}
use Rattle.listing_rules.specs.Options.{is_none, criteria_of}
use Rattle.octets.specs.Sets.{contains}
use Rattle.octets.proofs.Sets.{contains_bit}
use Rattle.list_line.specs.CriteriaSets.{these}

-- the set, by the code's two tests
pub criteria_tests : (s : ℕ) (a b : Bool) → contains s 1 ≡ a → contains s 2 ≡ b → criteria_of s ≡ these a b
unfolding criteria_of
criteria_tests s a b e f = λ i. these ((sym (contains_bit 0 s) ∙ e) i) ((sym (contains_bit 1 s) ∙ f) i)

-- no criterion is in, by the code's two tests
pub none_tests : (s : ℕ) → not (contains s 1 || contains s 2) ≡ is_none (criteria_of s)
unfolding is_none criteria_of
none_tests s = λ i. not (contains_bit 0 s i || contains_bit 1 s i)
