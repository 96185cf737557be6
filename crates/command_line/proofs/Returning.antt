-- The selection part and the return part: what each leaves in the set, step by step. Rests on listing_rules' TokenLaws.
use Rattle.listing_rules.proofs.Prelude.{◌∙◌, ◌≡◌, refl, Bool, cond, false, true, Option, none, some, List, [], ◌∷◌, ◌<◌, ◌≤◌, suc, ℕ, drop}
use Rattle.listing_rules.proofs.Prelude.{drop_of_length-le, get_or, length, drop-cons}
use Rattle.listing_rules.specs.Bytes.{text, spells, is_empty}
use Rattle.listing_rules.specs.Tokens.{Got, got, ◌>>=◌, after, atom}
use Rattle.listing_rules.specs.Command.{Opt, options, selection_part, return_part}
use Rattle.listing_rules.proofs.TokenLaws.{bind_cong}
use Rattle.command_line.specs.declared.option_list.Place.TheVariants.{Return}
use Rattle.command_line.specs.OptionSets.{Marks, no_marks, marked, summed, marks_of, ended}

-- the end of the line, or not
module _ (s : List ℕ) (i : ℕ) where
  pub empty_out : length s ≤ i → is_empty (drop i s) ≡ true
  unfolding is_empty
  empty_out h = rw (drop_of_length-le s h)

  pub empty_not : i < length s → is_empty (drop i s) ≡ false
  unfolding is_empty
  empty_not h = rw (drop-cons s i 0 h)

-- the selection part
module _ (t : List ℕ) where
  pub selection_list : (u : List ℕ) → after (text " (") t ≡ some u → selection_part t ≡ options u
  unfolding selection_part
  selection_list u e = rw (e, selection_part)

  pub selection_none : after (text " (") t ≡ none → selection_part t ≡ some (got [] t)
  unfolding selection_part
  selection_none e = rw (e, selection_part)

-- what a return part leaves
return_marks : Option (List Opt) → Option (Got Marks)
return_marks x = marks_of Return (ended x)

pass : {A : Type 0} (x : Option A) (f : A → Option (List Opt)) → return_marks (x >>= f) ≡ (x >>= λ a. return_marks (f a))
unfolding return_marks marks_of ended ◌>>=◌
pass none f = refl
pass (some a) f = refl

-- a list after which the line ends
unfoldable pub at_end : Option (Got Marks) → Option (Got Marks)
at_end x = x >>= λ g. cond (is_empty g.rest) (some (got g.val [])) none

line_end : Got (List Opt) → Option (List Opt)
line_end r = cond (is_empty r.rest) (some r.val) none

last : (x : Option (Got (List Opt))) → return_marks (x >>= line_end) ≡ at_end (marks_of Return x)
unfolding return_marks marks_of ended summed line_end at_end ◌>>=◌ got
last none = refl
last (some g) = go (is_empty g.rest)
  where
    go : (o : Bool) → return_marks (cond o (some g.val) none) ≡ cond o (some (got (marked Return no_marks g.val) [])) none
    go true = refl
    go false = refl

abbrev pub behind_return : Got (List ℕ) → Option (List ℕ)
behind_return w = cond (spells w.val (text "RETURN")) (after (text " (") w.rest) none

-- the word is RETURN in any case, or not
pub word_return : (w u : List ℕ) (x : Option (List ℕ)) → spells w (text "RETURN") ≡ true → after (text " (") u ≡ x → behind_return (got w u) ≡ x
unfolding got
word_return w u x e q = rw e q

pub word_other : (w u : List ℕ) → spells w (text "RETURN") ≡ false → behind_return (got w u) ≡ none
unfolding got
word_other w u e = rw e

-- after the word: a list of options, and the end of the line
unfoldable pub after_return : Got (List ℕ) → Option (Got Marks)
after_return w = behind_return w >>= λ v. at_end (marks_of Return (options v))

-- after the space
unfoldable pub after_space : List ℕ → Option (Got Marks)
after_space u = atom u >>= after_return

-- the return part of a line that has one
return_chain : (b : ℕ) (t : List ℕ) → return_marks (return_part (b ∷ t)) ≡ (after (text " ") (b ∷ t) >>= after_space)
unfolding return_part line_end after_space after_return
return_chain b t =
    pass (after (text " ") (b ∷ t)) (λ u. atom u >>= λ w. behind_return w >>= λ v. options v >>= line_end)
    ∙ bind_cong (after (text " ") (b ∷ t)) _ _ (λ u e.
    pass (atom u) (λ w. behind_return w >>= λ v. options v >>= line_end)
    ∙ bind_cong (atom u) _ _ (λ w q.
    pass (behind_return w) (λ v. options v >>= line_end)
    ∙ bind_cong (behind_return w) _ _ (λ v o. last (options v))))

pub return_is : (s : List ℕ) (i : ℕ) → i < length s → marks_of Return (ended (return_part (drop i s))) ≡ (after (text " ") (drop i s) >>= after_space)
unfolding return_marks
return_is s i h = rw (drop-cons s i 0 h) (return_chain (get_or s i 0) (drop (suc i) s))

-- the return part of a line that has none
pub return_none : (s : List ℕ) (i : ℕ) → length s ≤ i → marks_of Return (ended (return_part (drop i s))) ≡ some (got no_marks [])
unfolding return_part marks_of ended summed marked ◌>>=◌ got
return_none s i h = rw (drop_of_length-le s h)

pub at_end_lem : (m : Marks) (u : List ℕ) {x : Option (Got Marks)} → x ≡ some (got m u) → is_empty u ≡ true → at_end x ≡ some (got m [])
unfolding at_end ◌>>=◌ got
at_end_lem m u e q = rw (e, q)

pub not_at_end : (m : Marks) (u : List ℕ) {x : Option (Got Marks)} → x ≡ some (got m u) → is_empty u ≡ false → at_end x ≡ none
unfolding at_end ◌>>=◌ got
not_at_end m u e q = rw (e, q)

pub no_end : {x : Option (Got Marks)} → x ≡ none → at_end x ≡ none
unfolding at_end ◌>>=◌
no_end e = rw e
