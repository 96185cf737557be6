-- Lists of anything: tests on all or some of their members, members that pass a test, lists joined.
use Rattle.std.specs.Prelude.{List, [], ◌∷◌, ◌++◌, Bool, true, false, cond, ◌&&◌, ◌||◌, length, replicate, ℕ, ◌-◌}

module _ {A : Type 0} where
  -- every member passes
  unfoldable pub every : (A → Bool) → List A → Bool
  every p [] = true
  every p (x ∷ xs) = p x && every p xs

  -- some member passes
  unfoldable pub any_of : (A → Bool) → List A → Bool
  any_of p [] = false
  any_of p (x ∷ xs) = p x || any_of p xs

  -- the members that pass, in their order
  unfoldable pub keep : (A → Bool) → List A → List A
  keep p [] = []
  keep p (x ∷ xs) = let r = keep p xs in cond (p x) (x ∷ r) r

  -- one list after the other
  unfoldable pub joined : List (List A) → List A
  joined [] = []
  joined (x ∷ xs) = x ++ joined xs

  -- one member more at the front of the first list
  unfoldable pub on_first : A → List (List A) → List (List A)
  on_first b [] = (b ∷ []) ∷ []
  on_first b (l ∷ ls) = (b ∷ l) ∷ ls

  -- n members, z where the list has no more
  unfoldable pub filled_to : ℕ → A → List A → List A
  filled_to n z xs = xs ++ replicate (n - length xs) z
