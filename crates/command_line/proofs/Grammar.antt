-- What stands after the word LIST, as the code reads it: part by part, and what is kept of the parts is judged. Rests on Members,
-- Returning and Refusing.
use Rattle.std.specs.Prelude.{Option as Maybe, Some}
use Rattle.listing_rules.proofs.Prelude.{◌∙◌, ◌≡◌, ap, refl, sym, Bool, ◌&&◌, ◌||◌, cond, false, not, true, Option, none, some, List, [], ℕ, dec_le}
use Rattle.listing_rules.proofs.Prelude.{arith, eqb, leb, ltb, drop, get_or, length, eqb-false, eqb-true, le-ltb, lt-ltb}
use Rattle.listing_rules.specs.Bytes.{text, is_empty}
use Rattle.listing_rules.specs.Lists.{every}
use Rattle.listing_rules.specs.Tokens.{Got, got, ◌>>=◌, at, after}
use Rattle.listing_rules.specs.Options.{lawful_options}
use Rattle.listing_rules.specs.Command.{Opt, ListArgs, Parsed, refused, listing, root_of, selection_part, patterns, return_part, is_some, list_args}
use Rattle.listing_rules.specs.Command.{extended, known_in, selection_words, return_words, options_of, canonical, few_patterns, asks_root, judged, or_refuse}
use Rattle.octets.specs.Sets.{union}
use Rattle.command_tokens.specs.declared.Cursor.{Cursor}
use Rattle.command_tokens.specs.Tokens.{behind_is}
use Rattle.command_tokens.proofs.Bytes.{at_here, at_other}
use Rattle.command_patterns.specs.Places.{eight, join_to, up_to_eight}
use Rattle.command_line.specs.declared.option_list.Place.TheVariants.{Selection, Return}
use Rattle.command_line.specs.OptionSets.{options_is, Marks, no_marks, marked, summed, marks_of, ended}
use Rattle.command_line.specs.Commands.{short, Kept, decided, decided_as, extended_at}
use Rattle.command_line.proofs.Returning.{empty_out, empty_not}
use Rattle.command_line.proofs.Refusing.{refuse_bind, refuse_map, refuse_cong, referred, referred_is}
use Rattle.command_line.proofs.Members.{marked_known, options_named}

-- a command is extended: by its selection list, by parentheses, by what stands after the patterns
pub extended_list : (x : Option (List ℕ)) (s : List ℕ) {r : Maybe Cursor} {c : Cursor} (a b : Bool) → behind_is s r ≡ x → r ≡ Some c → true ≡ (is_some x || a || b)
unfolding is_some behind_is
extended_list x s a b e q = rw (← e, q)

opens_is : (s : List ℕ) (i : ℕ) → eqb (get_or s i 0) 40 ≡ at 40 (drop i s)
opens_is s i = go (eqb (get_or s i 0) 40) refl
  where
    go : (o : Bool) → eqb (get_or s i 0) 40 ≡ o → o ≡ at 40 (drop i s)
    go true e = sym (at_here s i 40 (omega arith) (eqb-true (get_or s i 0) 40 e))
    go false e = sym (at_other s i 40 (eqb-false (get_or s i 0) 40 e))

more_is : (s : List ℕ) (i : ℕ) → ltb i (length s) ≡ not (is_empty (drop i s))
more_is s i = elim (dec_le (length s) i) [ yes h ↦ le-ltb i (length s) h ∙ sym (ap not (empty_out s i h)) | no h ↦ lt-ltb i (length s) (omega arith) ∙ sym (ap not (empty_not s i (omega arith))) ]

pub extended_else : (s : List ℕ) (first patterns rest : ℕ) → after (text " (") (drop first s) ≡ none → (eqb (get_or s patterns 0) 40 || ltb rest (length s)) ≡ extended_at s first patterns rest
unfolding is_some
extended_else s first patterns rest e = rw (e, opens_is s patterns, more_is s rest)

-- what is kept of a LIST command that is on the grammar
kept_of : ListArgs → Kept
kept_of a =
    record {
      known = every (known_in selection_words) a.selection && every (known_in return_words) a.returns;
      set = options_of a;
      extended = extended a;
      reference = a.reference;
      pats = eight a.pats;
    }

-- and it is enough for the judgement
judged_decided : (tag : List ℕ) (a : ListArgs) → judged tag a ≡ decided tag (kept_of a)
unfolding judged decided decided_as kept_of few_patterns asks_root eight
judged_decided tag a =
    ap (λ (x : Parsed). cond (every (known_in selection_words) a.selection && every (known_in return_words) a.returns)
    (cond (lawful_options (options_of a)) x (refused 7)) (refused 6)) (go (leb (length a.pats) 8))
  where
    fine : Parsed
    fine = cond (not (extended a) && every is_empty a.pats) (root_of tag) (listing tag (options_of a) (canonical a.reference a.pats))

    go : (o : Bool) → cond (o && every short (canonical a.reference a.pats)) fine (refused 8) ≡ decided_as tag (kept_of a) (cond o (some a.pats) none)
    go true = refl
    go false = refl

-- ---- the parts, one after the other

-- after the patterns: RETURN or nothing, and the judgement of what is kept
unfoldable pub after_patterns : List ℕ → Bool → Marks → List ℕ → List ℕ → Got (Option (List (List ℕ))) → Parsed
after_patterns tag has m ref v p =
    or_refuse 4 (marks_of Return (ended (return_part p.rest))) (λ e.
    decided tag
    (record {
      known = m.known && e.val.known;
      set = options_is (record { bits = union m.set e.val.set });
      extended = has || at 40 v || not (is_empty p.rest);
      reference = ref;
      pats = p.val;
    }))

-- after the space before the patterns
unfoldable pub after_space : List ℕ → Bool → Marks → List ℕ → List ℕ → Parsed
after_space tag has m ref v = or_refuse 4 (up_to_eight (patterns v)) (after_patterns tag has m ref v)

-- after the selection part
unfoldable pub after_selection : List ℕ → Bool → Got Marks → Parsed
after_selection tag has m = referred m.rest (after_space tag has m.val)

-- ---- and so it is in document 01

-- the options that are selected
sel : Got (List Opt) → Marks
sel s = marked Selection no_marks s.val

module _ (tag t : List ℕ) where
  -- the arguments, once they are read
  args : Got (List Opt) → Got (List ℕ) → List ℕ → Got (List (List ℕ)) → List Opt → ListArgs
  args s r v p e =
      record {
        selection = s.val;
        has_selection = is_some (after (text " (") t);
        reference = r.val;
        pats = p.val;
        in_parens = at 40 v;
        returns = e;
        has_return = not (is_empty p.rest);
      }

  module _ (s : Got (List Opt)) (r : Got (List ℕ)) (v : List ℕ) (p : Got (List (List ℕ))) where
    judged_is : (e : List Opt) →
        judged tag (args s r v p e) ≡ decided tag (record {
          known = (sel s).known && (marked Return no_marks e).known;
          set = options_is (record { bits = union (sel s).set (marked Return no_marks e).set });
          extended = is_some (after (text " (") t) || at 40 v || not (is_empty p.rest);
          reference = r.val;
          pats = eight p.val;
        })
    unfolding kept_of args extended sel
    judged_is e =
        judged_decided tag (args s r v p e) ∙ ap (decided tag)
        (λ i. record
        { known = known_is i; set = set_is i; extended = is_some (after (text " (") t) || at 40 v || not (is_empty p.rest); reference = r.val; pats = eight p.val })
      where
        known_is : (every (known_in selection_words) s.val && every (known_in return_words) e) ≡ ((marked Selection no_marks s.val).known && (marked Return no_marks e).known)
        known_is = rw (marked_known Selection no_marks s.val, marked_known Return no_marks e)

        set_is : options_of (args s r v p e) ≡ options_is (record { bits = union (marked Selection no_marks s.val).set (marked Return no_marks e).set })
        set_is = options_named s.val e (is_some (after (text " (") t)) (at 40 v) (not (is_empty p.rest)) r.val p.val

    patterns_are : or_refuse 4 (return_part p.rest >>= λ e. some (args s r v p e)) (judged tag) ≡ after_patterns tag (is_some (after (text " (") t)) (sel s) r.val v (got (eight p.val) p.rest)
    unfolding after_patterns got sel
    patterns_are =
        refuse_map (return_part p.rest) (args s r v p) (judged tag)
        ∙ refuse_cong (return_part p.rest) _ _ judged_is
        ∙ sym (returned (return_part p.rest) _)
      where
        returned : (x : Option (List Opt)) (go : Got Marks → Parsed) → or_refuse 4 (marks_of Return (ended x)) go ≡ or_refuse 4 x (λ e. go (got (marked Return no_marks e) []))
        returned none go = unfold marks_of ended summed or_refuse ◌>>=◌ in refl
        returned (some e) go = unfold marks_of ended summed or_refuse ◌>>=◌ in refl

  module _ (s : Got (List Opt)) (r : Got (List ℕ)) where
    space_is : (v : List ℕ) → or_refuse 4 (patterns v >>= λ p. return_part p.rest >>= λ e. some (args s r v p e)) (judged tag) ≡ after_space tag (is_some (after (text " (") t)) (sel s) r.val v
    unfolding after_space sel
    space_is v =
        refuse_bind (patterns v) _ (judged tag)
        ∙ refuse_cong (patterns v) _ _ (λ p. patterns_are s r v p)
        ∙ sym (joined (patterns v) (after_patterns tag (is_some (after (text " (") t)) (marked Selection no_marks s.val) r.val v))
      where
        joined : (x : Option (Got (List (List ℕ)))) (go : Got (Option (List (List ℕ))) → Parsed) → or_refuse 4 (up_to_eight x) go ≡ or_refuse 4 x (λ p. go (got (eight p.val) p.rest))
        joined none go = unfold up_to_eight join_to or_refuse ◌>>=◌ in refl
        joined (some p) go = unfold up_to_eight join_to or_refuse ◌>>=◌ in refl

  -- LIST, part by part
  pub list_is : or_refuse 4 (list_args t) (judged tag) ≡ or_refuse 4 (marks_of Selection (selection_part t)) (after_selection tag (is_some (after (text " (") t)))
  unfolding list_args after_selection args got
  list_is =
      refuse_bind (selection_part t) _ (judged tag)
      ∙ refuse_cong (selection_part t) _ (λ s. referred s.rest (after_space tag has (sel s))) (λ s. referred_is s.rest _ (judged tag) (after_space tag has (sel s)) (space_is s))
      ∙ sym (selected (selection_part t) (after_selection tag has))
    where
      has : Bool
      has = is_some (after (text " (") t)

      selected : (x : Option (Got (List Opt))) (go : Got Marks → Parsed) → or_refuse 4 (marks_of Selection x) go ≡ or_refuse 4 x (λ s. go (got (sel s) s.rest))
      selected none go = unfold marks_of summed or_refuse ◌>>=◌ in refl
      selected (some s) go = unfold marks_of summed or_refuse ◌>>=◌ sel in refl
