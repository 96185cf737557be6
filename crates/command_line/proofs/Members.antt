-- Laws of option sets: which bit a word sets, and what a list of options leaves in the set.
use Rattle.listing_rules.proofs.Prelude.{◌∙◌, ◌≡◌, ap, refl, subst, sym, Bool, ◌&&◌, ◌||◌, and_assoc, and-true, cond, false, not, or_assoc, or-false}
use Rattle.listing_rules.proofs.Prelude.{true, Option, some, List, [], ◌∷◌, ◌<◌, ◌^◌, ℕ, arith, eqb}
use lib.Bits.{or_lt}
use Rattle.listing_rules.specs.Bytes.{text, bit, spells, same, raised}
use Rattle.listing_rules.specs.Lists.{every, any_of}
use Rattle.listing_rules.specs.Tokens.{Got, got}
use Rattle.listing_rules.specs.Command.{Opt, selection_words, return_words, known_in, named, options_of}
use Rattle.listing_rules.proofs.ListLaws.{any_cong, same_true}
use Rattle.listing_rules.proofs.TokenLaws.{bind_some}
use Rattle.octets.specs.Sets.{union}
use Rattle.octets.proofs.Sets.{union_bit}
use Rattle.command_line.specs.declared.option_list.Place.{Place}
use Rattle.command_line.specs.declared.option_list.Place.TheVariants.{Selection, Return}
use Rattle.command_line.specs.OptionSets.{options_is, selected, returned, member_of, words_of, Marks, no_marks, marking, marked, summed, marks_of}
use Rattle.command_tokens.proofs.Binds.{got_val}

-- a word that spells one text spells another exactly if the two are the same
spells_as : (w a b : List ℕ) → spells w a ≡ true → spells w b ≡ same a b
unfolding spells
spells_as w a b h = ap (λ (x : List ℕ). same x b) (same_true (raised w) a h)

-- a known word names a member, and no other word does
pub member_known : (p : Place) (w : List ℕ) → any_of (λ x. spells w x) (words_of p) ≡ not (eqb (member_of p w) 0)
unfolding any_of selection_words return_words selected returned
member_known Selection w = go (spells w (text "SUBSCRIBED")) (spells w (text "REMOTE")) (spells w (text "RECURSIVEMATCH")) (spells w (text "SPECIAL-USE"))
  where
    go : (a b c d : Bool) → (a || (b || (c || (d || false)))) ≡ not (eqb (cond a 1 (cond b 2 (cond c 4 (cond d 8 0)))) 0)
    go true b c d = refl
    go false true c d = refl
    go false false true d = refl
    go false false false true = refl
    go false false false false = refl
member_known Return w = go (spells w (text "SUBSCRIBED")) (spells w (text "CHILDREN")) (spells w (text "SPECIAL-USE"))
  where
    go : (a b c : Bool) → (a || (b || (c || false))) ≡ not (eqb (cond a 16 (cond b 32 (cond c 64 0))) 0)
    go true b c = refl
    go false true c = refl
    go false false true = refl
    go false false false = refl

-- what a list leaves in the set
marked_bit : (k : ℕ) (p : Place) (m : Marks) (os : List Opt) → bit k (marked p m os).set ≡ (bit k m.set || any_of (λ o. bit k (member_of p o.word)) os)
unfolding marked any_of
marked_bit k p m [] = sym (or-false (bit k m.set))
marked_bit k p m (o ∷ os) =
    marked_bit k p (marking p m o) os
    ∙ ap (λ (x : Bool). x || any_of (λ o. bit k (member_of p o.word)) os) (union_bit k m.set (member_of p o.word))
    ∙ or_assoc (bit k m.set) (bit k (member_of p o.word)) (any_of (λ o. bit k (member_of p o.word)) os)

-- and whether each is known
pub marked_known : (p : Place) (m : Marks) (os : List Opt) → (marked p m os).known ≡ (m.known && every (known_in (words_of p)) os)
unfolding marked every
marked_known p m [] = sym (and-true m.known)
marked_known p m (o ∷ os) = marked_known p (marking p m o) os ∙ and_assoc m.known (known_in (words_of p) o) (every (known_in (words_of p)) os)

any_never : (f : Opt → Bool) → ((o : Opt) → f o ≡ false) → (os : List Opt) → any_of f os ≡ false
unfolding any_of
any_never f h [] = refl
any_never f h (o ∷ os) = rw (h o, any_never f h os)

-- a word does not spell two different texts
apart : (w a b : List ℕ) → same a b ≡ false → spells w a ≡ true → spells w b ≡ false
apart w a b h e = spells_as w a b e ∙ h

-- the bits that a word of the selection list sets
module _ (w : List ℕ) where
  selected_is : (k : ℕ) → bit k (selected w) ≡ cond (spells w (text "SUBSCRIBED")) (bit k 1)
      (cond (spells w (text "REMOTE")) (bit k 2) (cond (spells w (text "RECURSIVEMATCH")) (bit k 4)
      (cond (spells w (text "SPECIAL-USE")) (bit k 8) (bit k 0))))
  unfolding selected
  selected_is k = go (spells w (text "SUBSCRIBED")) (spells w (text "REMOTE")) (spells w (text "RECURSIVEMATCH")) (spells w (text "SPECIAL-USE"))
    where
      go : (a b c d : Bool) → bit k (cond a 1 (cond b 2 (cond c 4 (cond d 8 0)))) ≡ cond a (bit k 1) (cond b (bit k 2) (cond c (bit k 4) (cond d (bit k 8) (bit k 0))))
      go true b c d = refl
      go false true c d = refl
      go false false true d = refl
      go false false false true = refl
      go false false false false = refl

  sel_subscribed_lem : bit 0 (selected w) ≡ spells w (text "SUBSCRIBED")
  unfolding bit
  sel_subscribed_lem = selected_is 0 ∙ go (spells w (text "SUBSCRIBED")) (spells w (text "REMOTE")) (spells w (text "RECURSIVEMATCH")) (spells w (text "SPECIAL-USE"))
    where
      go : (a b c d : Bool) → cond a true (cond b false (cond c false (cond d false false))) ≡ a
      go true b c d = refl
      go false true c d = refl
      go false false true d = refl
      go false false false true = refl
      go false false false false = refl

  sel_remote_lem : bit 1 (selected w) ≡ spells w (text "REMOTE")
  unfolding bit text same
  sel_remote_lem =
      selected_is 1 ∙ go (spells w (text "SUBSCRIBED")) (spells w (text "REMOTE")) (spells w (text "RECURSIVEMATCH")) (spells w (text "SPECIAL-USE"))
      (apart w (text "SUBSCRIBED") (text "REMOTE") refl)
    where
      go : (a b c d : Bool) → (a ≡ true → b ≡ false) → cond a false (cond b true (cond c false (cond d false false))) ≡ b
      go true b c d h = sym (h refl)
      go false true c d h = refl
      go false false true d h = refl
      go false false false true h = refl
      go false false false false h = refl

  sel_recursive_lem : bit 2 (selected w) ≡ spells w (text "RECURSIVEMATCH")
  unfolding bit text same
  sel_recursive_lem =
      selected_is 2 ∙ go (spells w (text "SUBSCRIBED")) (spells w (text "REMOTE")) (spells w (text "RECURSIVEMATCH")) (spells w (text "SPECIAL-USE"))
      (apart w (text "SUBSCRIBED") (text "RECURSIVEMATCH") refl) (apart w (text "REMOTE") (text "RECURSIVEMATCH") refl)
    where
      go : (a b c d : Bool) → (a ≡ true → c ≡ false) → (b ≡ true → c ≡ false) → cond a false (cond b false (cond c true (cond d false false))) ≡ c
      go true b c d h k = sym (h refl)
      go false true c d h k = sym (k refl)
      go false false true d h k = refl
      go false false false true h k = refl
      go false false false false h k = refl

  sel_special_lem : bit 3 (selected w) ≡ spells w (text "SPECIAL-USE")
  unfolding bit text same
  sel_special_lem =
      selected_is 3 ∙ go (spells w (text "SUBSCRIBED")) (spells w (text "REMOTE")) (spells w (text "RECURSIVEMATCH")) (spells w (text "SPECIAL-USE"))
      (apart w (text "SUBSCRIBED") (text "SPECIAL-USE") refl) (apart w (text "REMOTE") (text "SPECIAL-USE") refl)
      (apart w (text "RECURSIVEMATCH") (text "SPECIAL-USE") refl)
    where
      go : (a b c d : Bool) → (a ≡ true → d ≡ false) → (b ≡ true → d ≡ false) → (c ≡ true → d ≡ false) → cond a false (cond b false (cond c false (cond d true false))) ≡ d
      go true b c d h k l = sym (h refl)
      go false true c d h k l = sym (k refl)
      go false false true d h k l = sym (l refl)
      go false false false true h k l = refl
      go false false false false h k l = refl

  -- and no other
  sel_never : (k : ℕ) → bit k 1 ≡ false → bit k 2 ≡ false → bit k 4 ≡ false → bit k 8 ≡ false → bit k 0 ≡ false → bit k (selected w) ≡ false
  sel_never k p q r t z = selected_is k ∙ rw (p, q, r, t, z) (go (spells w (text "SUBSCRIBED")) (spells w (text "REMOTE")) (spells w (text "RECURSIVEMATCH")) (spells w (text "SPECIAL-USE")))
    where
      go : (a b c d : Bool) → cond a false (cond b false (cond c false (cond d false false))) ≡ false
      go true b c d = refl
      go false true c d = refl
      go false false true d = refl
      go false false false true = refl
      go false false false false = refl

  -- the bits that a word of the return list sets
  returned_is : (k : ℕ) → bit k (returned w) ≡ cond (spells w (text "SUBSCRIBED")) (bit k 16) (cond (spells w (text "CHILDREN")) (bit k 32) (cond (spells w (text "SPECIAL-USE")) (bit k 64) (bit k 0)))
  unfolding returned
  returned_is k = go (spells w (text "SUBSCRIBED")) (spells w (text "CHILDREN")) (spells w (text "SPECIAL-USE"))
    where
      go : (a b c : Bool) → bit k (cond a 16 (cond b 32 (cond c 64 0))) ≡ cond a (bit k 16) (cond b (bit k 32) (cond c (bit k 64) (bit k 0)))
      go true b c = refl
      go false true c = refl
      go false false true = refl
      go false false false = refl

  ret_subscribed_lem : bit 4 (returned w) ≡ spells w (text "SUBSCRIBED")
  unfolding bit
  ret_subscribed_lem = returned_is 4 ∙ go (spells w (text "SUBSCRIBED")) (spells w (text "CHILDREN")) (spells w (text "SPECIAL-USE"))
    where
      go : (a b c : Bool) → cond a true (cond b false (cond c false false)) ≡ a
      go true b c = refl
      go false true c = refl
      go false false true = refl
      go false false false = refl

  ret_children_lem : bit 5 (returned w) ≡ spells w (text "CHILDREN")
  unfolding bit text same
  ret_children_lem = returned_is 5 ∙ go (spells w (text "SUBSCRIBED")) (spells w (text "CHILDREN")) (spells w (text "SPECIAL-USE")) (apart w (text "SUBSCRIBED") (text "CHILDREN") refl)
    where
      go : (a b c : Bool) → (a ≡ true → b ≡ false) → cond a false (cond b true (cond c false false)) ≡ b
      go true b c h = sym (h refl)
      go false true c h = refl
      go false false true h = refl
      go false false false h = refl

  ret_special_lem : bit 6 (returned w) ≡ spells w (text "SPECIAL-USE")
  unfolding bit text same
  ret_special_lem =
      returned_is 6 ∙ go (spells w (text "SUBSCRIBED")) (spells w (text "CHILDREN")) (spells w (text "SPECIAL-USE"))
      (apart w (text "SUBSCRIBED") (text "SPECIAL-USE") refl) (apart w (text "CHILDREN") (text "SPECIAL-USE") refl)
    where
      go : (a b c : Bool) → (a ≡ true → c ≡ false) → (b ≡ true → c ≡ false) → cond a false (cond b false (cond c true false)) ≡ c
      go true b c h k = sym (h refl)
      go false true c h k = sym (k refl)
      go false false true h k = refl
      go false false false h k = refl

  ret_never : (k : ℕ) → bit k 16 ≡ false → bit k 32 ≡ false → bit k 64 ≡ false → bit k 0 ≡ false → bit k (returned w) ≡ false
  ret_never k p q r z = returned_is k ∙ rw (p, q, r, z) (go (spells w (text "SUBSCRIBED")) (spells w (text "CHILDREN")) (spells w (text "SPECIAL-USE")))
    where
      go : (a b c : Bool) → cond a false (cond b false (cond c false false)) ≡ false
      go true b c = refl
      go false true c = refl
      go false false true = refl
      go false false false = refl

-- the two lists together: the set has the members that they name
module _ (os rs : List Opt) where
  both : ℕ
  both = union (marked Selection no_marks os).set (marked Return no_marks rs).set

  both_bit : (k : ℕ) → bit k 0 ≡ false → bit k both ≡ (any_of (λ o. bit k (selected o.word)) os || any_of (λ o. bit k (returned o.word)) rs)
  unfolding both
  both_bit k z =
      union_bit k (marked Selection no_marks os).set (marked Return no_marks rs).set
      ∙ rw (marked_bit k Selection no_marks os, marked_bit k Return no_marks rs, z)

  from_selection : (k : ℕ) (word : List ℕ) → bit k 0 ≡ false → ((w : List ℕ) → bit k (selected w) ≡ spells w word) → ((w : List ℕ) → bit k (returned w) ≡ false) → named word os ≡ bit k both
  unfolding named
  from_selection k word z h g =
      sym (both_bit k z ∙ rw
      (any_cong (λ o. bit k (selected o.word)) (λ o. spells o.word word) (λ o. h o.word) os, any_never (λ o. bit k (returned o.word)) (λ o. g o.word) rs)
      (or-false (any_of (λ o. spells o.word word) os)))

  from_return : (k : ℕ) (word : List ℕ) → bit k 0 ≡ false → ((w : List ℕ) → bit k (selected w) ≡ false) → ((w : List ℕ) → bit k (returned w) ≡ spells w word) → named word rs ≡ bit k both
  unfolding named
  from_return k word z h g =
      sym (both_bit k z ∙ rw
      (any_never (λ o. bit k (selected o.word)) (λ o. h o.word) os, any_cong (λ o. bit k (returned o.word)) (λ o. spells o.word word) (λ o. g o.word) rs))

  pub options_named : (h p r : Bool) (ref : List ℕ) (ps : List (List ℕ)) →
      options_of (record { selection = os; has_selection = h; reference = ref; pats = ps; in_parens = p; returns = rs; has_return = r }) ≡ options_is
      (record { bits = union (marked Selection no_marks os).set (marked Return no_marks rs).set })
  unfolding options_of options_is both bit
  options_named h p r ref ps = λ i.
      record {
        sel_subscribed = from_selection 0 (text "SUBSCRIBED") refl sel_subscribed_lem (λ w. ret_never w 0 refl refl refl refl) i;
        sel_remote = from_selection 1 (text "REMOTE") refl sel_remote_lem (λ w. ret_never w 1 refl refl refl refl) i;
        sel_recursive = from_selection 2 (text "RECURSIVEMATCH") refl sel_recursive_lem (λ w. ret_never w 2 refl refl refl refl) i;
        sel_special = from_selection 3 (text "SPECIAL-USE") refl sel_special_lem (λ w. ret_never w 3 refl refl refl refl) i;
        ret_subscribed = from_return 4 (text "SUBSCRIBED") refl (λ w. sel_never w 4 refl refl refl refl refl) ret_subscribed_lem i;
        ret_children = from_return 5 (text "CHILDREN") refl (λ w. sel_never w 5 refl refl refl refl refl) ret_children_lem i;
        ret_special = from_return 6 (text "SPECIAL-USE") refl (λ w. sel_never w 6 refl refl refl refl refl) ret_special_lem i;
      }

-- no option sets a bit but the seven
member_seven : (p : Place) (w : List ℕ) → member_of p w < 2 ^ 7
unfolding selected returned
member_seven Selection w = go (spells w (text "SUBSCRIBED")) (spells w (text "REMOTE")) (spells w (text "RECURSIVEMATCH")) (spells w (text "SPECIAL-USE"))
  where
    go : (a b c d : Bool) → cond a 1 (cond b 2 (cond c 4 (cond d 8 0))) < 128
    go true b c d = omega arith
    go false true c d = omega arith
    go false false true d = omega arith
    go false false false true = omega arith
    go false false false false = omega arith
member_seven Return w = go (spells w (text "SUBSCRIBED")) (spells w (text "CHILDREN")) (spells w (text "SPECIAL-USE"))
  where
    go : (a b c : Bool) → cond a 16 (cond b 32 (cond c 64 0)) < 128
    go true b c = omega arith
    go false true c = omega arith
    go false false true = omega arith
    go false false false = omega arith

marked_seven : (p : Place) (m : Marks) (os : List Opt) → m.set < 2 ^ 7 → (marked p m os).set < 2 ^ 7
unfolding marked
marked_seven p m [] h = h
marked_seven p m (o ∷ os) h = marked_seven p (marking p m o) os (or_lt 7 m.set (member_of p o.word) h (member_seven p o.word))

marks_seven : (p : Place) (x : Option (Got (List Opt))) (m : Marks) (u : List ℕ) → marks_of p x ≡ some (got m u) → m.set < 2 ^ 7
unfolding marks_of summed got
marks_seven p x m u e = let w = bind_some x (summed p no_marks) (got m u) e in subst (λ (y : Marks). y.set < 2 ^ 7) (got_val w.2) (marked_seven p no_marks w.0.val (omega arith))

-- nor do the two lists together
pub both_seven : (x y : Option (Got (List Opt))) (m m' : Marks) (u u' : List ℕ) → marks_of Selection x ≡ some (got m u) → marks_of Return y ≡ some (got m' u') → union m.set m'.set < 2 ^ 7
both_seven x y m m' u u' e f = or_lt 7 m.set m'.set (marks_seven Selection x m u e) (marks_seven Return y m' u' f)
