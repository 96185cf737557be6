-- The canonical patterns of a command that lists are few and short. Rests on Bools of the definitions.
use Rattle.listing_rules.proofs.Prelude.{◌≡◌, refl, Bool, ◌&&◌, cond, false, true, Option, none, some, List, [], ◌++◌, ◌∷◌, ◌≤◌, suc, ℕ, arith, leb}
use Rattle.listing_rules.proofs.Prelude.{length, leb-true}
use Rattle.listing_rules.specs.Bytes.{text, spells, is_empty}
use Rattle.listing_rules.specs.Lists.{every}
use Rattle.listing_rules.specs.Tokens.{Got, after, run, run₁, tag_byte, atom_byte}
use Rattle.listing_rules.specs.Options.{Options, lawful_options}
use Rattle.listing_rules.specs.Command.{Parsed, listing, refused, namespace, root_of, subscriptions, editing, subscribe, unsubscribe, ListArgs}
use Rattle.listing_rules.specs.Command.{LsubArgs, parsed, line_text, tagged, worded, judged, or_refuse, list_args, lsub_args, judged_lsub, name_arg}
use Rattle.listing_rules.specs.Command.{few_patterns, canonical, asks_root, options_of, known_in, selection_words, return_words}
use Rattle.listing_rules.proofs.Bools.{and_l, and_r}
use Rattle.command_patterns.specs.Canonical.{Few}

canonical_few : (r : List ℕ) (ps : List (List ℕ)) → length (canonical r ps) ≤ length ps
unfolding canonical
canonical_few r [] = omega arith
canonical_few r (p ∷ ps) = go (is_empty p) (canonical_few r ps)
  where
    go : (b : Bool) → length (canonical r ps) ≤ length ps → length (cond b (canonical r ps) ((r ++ p) ∷ canonical r ps)) ≤ suc (length ps)
    go true h = omega arith
    go false h = omega arith

-- what a listing carries
abbrev Carries : Parsed → Type 0
Carries (refused k) = Unit {0}
Carries (namespace tag) = Unit {0}
Carries (listing tag o ps) = Few ps
Carries (root_of tag) = Unit {0}
Carries (subscriptions tag ps) = Few ps × (length ps ≤ 1)
Carries (editing tag e) = Unit {0}

judged_few : (tag : List ℕ) (a : ListArgs) → Carries (judged tag a)
unfolding judged
judged_few tag a =
    go (every (known_in selection_words) a.selection && every (known_in return_words) a.returns) (lawful_options (options_of a)) (few_patterns a) refl (asks_root a)
  where
    go : (k l f : Bool) → few_patterns a ≡ f → (r : Bool) →
        Carries (cond k (cond l (cond f (cond r (root_of tag) (listing tag (options_of a) (canonical a.reference a.pats))) (refused 8))
        (refused 7)) (refused 6))
    go false l f e r = tt
    go true false f e r = tt
    go true true false e r = tt
    go true true true e true = tt
    go true true true e false = unfold few_patterns in record {
      few =
          omega
          (arith, canonical_few a.reference a.pats, leb-true (length a.pats) 8 (and_l (leb (length a.pats) 8) (every (λ p. leb (length p) 255) (canonical a.reference a.pats)) e));
      brief = and_r (leb (length a.pats) 8) (every (λ p. leb (length p) 255) (canonical a.reference a.pats)) e;
    }

lsub_few : (tag : List ℕ) (a : LsubArgs) → Carries (judged_lsub tag a)
unfolding judged_lsub
lsub_few tag a = go (every (λ p. leb (length p) 255) ps) refl
  where
    ps : List (List ℕ)
    ps = canonical a.reference (a.pat ∷ [])

    one : length ps ≤ 1
    one = omega (arith, canonical_few a.reference (a.pat ∷ []))

    go : (b : Bool) → every (λ p. leb (length p) 255) ps ≡ b → Carries (cond b (subscriptions tag ps) (refused 8))
    go true e = (record { few = omega (arith, one); brief = e }, one)
    go false e = tt

or_carries : {A : Type 0} (k : ℕ) (x : Option A) (f : A → Parsed) → ((a : A) → Carries (f a)) → Carries (or_refuse k x f)
unfolding or_refuse
or_carries k none f h = tt
or_carries k (some a) f h = h a

worded_few : (tag : List ℕ) (w : Got (List ℕ)) → Carries (worded tag w)
unfolding worded
worded_few tag w =
    go (spells w.val (text "LIST")) (spells w.val (text "NAMESPACE")) (spells w.val (text "LSUB")) (spells w.val (text "SUBSCRIBE"))
    (spells w.val (text "UNSUBSCRIBE")) (is_empty w.rest)
  where
    lsub : Parsed
    lsub = or_refuse 4 (lsub_args w.rest) (judged_lsub tag)

    adding : Parsed
    adding = or_refuse 4 (name_arg w.rest) (λ n. editing tag (subscribe n))

    taking : Parsed
    taking = or_refuse 4 (name_arg w.rest) (λ n. editing tag (unsubscribe n))

    go : (l n s a t e : Bool)
        → Carries (cond l (or_refuse 4 (list_args w.rest) (judged tag)) (cond n (cond e (namespace tag) (refused 4)) (cond s lsub (cond a adding (cond t taking (refused 5))))))
    go true n s a t e = or_carries 4 (list_args w.rest) (judged tag) (judged_few tag)
    go false true s a t true = tt
    go false true s a t false = tt
    go false false true a t e = or_carries 4 (lsub_args w.rest) (judged_lsub tag) (lsub_few tag)
    go false false false true t e = or_carries 4 (name_arg w.rest) (λ n. editing tag (subscribe n)) (λ n. tt)
    go false false false false true e = or_carries 4 (name_arg w.rest) (λ n. editing tag (unsubscribe n)) (λ n. tt)
    go false false false false false e = tt

parsed_few : (l : List ℕ) → Carries (parsed l)
unfolding parsed tagged
parsed_few l =
    or_carries 3 (line_text l) tagged
    (λ t. or_carries 4 (run₁ tag_byte t) (λ tag. or_refuse 4 (after (text " ") tag.rest) (λ u. worded tag.val (run atom_byte u)))
    (λ tag. or_carries 4 (after (text " ") tag.rest) (λ u. worded tag.val (run atom_byte u)) (λ u. worded_few tag.val (run atom_byte u))))

pub listing_few : (l tag : List ℕ) (o : Options) (ps : List (List ℕ)) → parsed l ≡ listing tag o ps → Few ps
listing_few l tag o ps e = rw e at (parsed_few l)

pub subscriptions_few : (l tag : List ℕ) (ps : List (List ℕ)) → parsed l ≡ subscriptions tag ps → Few ps × (length ps ≤ 1)
subscriptions_few l tag ps e = rw e at (parsed_few l)
