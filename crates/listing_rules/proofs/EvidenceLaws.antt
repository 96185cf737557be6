-- W10 over commands: "for one table, one reader, one reference and one set of options, both commands extended and accepted, the second with a pattern
-- more". Rests on AnswerReads, PatternLaws and GainLaws.
use Rattle.listing_rules.proofs.Prelude.{◌∙◌, ◌≡◌, ap, refl, subst, sym, Bool, cond, false, false≢true, not, true, ◌⊎◌, inl, inr, ⊎_elim, List}
use Rattle.listing_rules.proofs.Prelude.{list_mem, list_mem_append_cases, list_mem_cases_cons, list_mem_head, list_mem_not_nil}
use Rattle.listing_rules.proofs.Prelude.{list_mem_tail, mem_append_left, mem_append_right, [], ◌∷◌, ◌++◌, ℕ}
use Rattle.listing_rules.specs.Bytes.{is_empty}
use Rattle.listing_rules.specs.Lists.{every}
use Rattle.listing_rules.specs.Table.{Table, rows}
use Rattle.listing_rules.specs.Options.{Options, is_none}
use Rattle.listing_rules.specs.Command.{canonical}
use Rattle.listing_rules.specs.Match.{matches_any}
use Rattle.listing_rules.specs.Listing.{candidates, candidate_meets, child_info, listed, listed_names}
use Rattle.listing_rules.specs.Server.{line_of}
use Rattle.listing_rules.specs.Evidence.{ListCommand, options_in, reference_in, written_in, patterns_in, lines_for, listed_in, child_info_in}
use Rattle.listing_rules.specs.Evidence.{PatternMore, meeting_below, NothingLost, AddingAPattern, Gains, AskSame, NoneLost, GainingSubscriptions}
use Rattle.listing_rules.proofs.Bools.{bools_equal}
use Rattle.listing_rules.proofs.PatternLaws.{Within, line_same, meeting_stays, plain_stays, recursive_goes}
use Rattle.listing_rules.proofs.GainLaws.{gain_candidates, gain_listed, gain_child_info}
use Rattle.listing_rules.proofs.AnswerReads.{AnsweredBy, accepted_is, lines_named, listed_in_lem, in_listed, listed_tests, tests_listed, child_in}
use Rattle.listing_rules.proofs.AnswerReads.{in_child}

-- the canonical patterns of patterns that stand in another list
canonical_mem : (r : List ℕ) (ps : List (List ℕ)) (x : List ℕ) → list_mem x (canonical r ps) →
    (p : List ℕ) × list_mem p ps × (is_empty p ≡ false) × (x ≡ r ++ p)
unfolding canonical
canonical_mem r [] x m = absurd (list_mem_not_nil m)
canonical_mem r (p ∷ ps) x m = go (is_empty p) refl m (canonical_mem r ps x)
  where
    Found : List (List ℕ) → Type 0
    Found l = (q : List ℕ) × list_mem q l × (is_empty q ≡ false) × (x ≡ r ++ q)

    later : Found ps → Found (p ∷ ps)
    later w = (w.0, list_mem_tail w.1, w.2, w.3)

    go : (b : Bool) → is_empty p ≡ b → list_mem x (cond b (canonical r ps) ((r ++ p) ∷ canonical r ps)) → (list_mem x (canonical r ps) → Found ps) →
        Found (p ∷ ps)
    go true e k ih = later (ih k)
    go false e k ih = ⊎_elim (λ q. (p, list_mem_head refl, e, q)) (λ j. later (ih j)) (list_mem_cases_cons k)

mem_canonical : (r : List ℕ) (ps : List (List ℕ)) (p : List ℕ) → list_mem p ps → is_empty p ≡ false → list_mem (r ++ p) (canonical r ps)
unfolding canonical
mem_canonical r [] p m e = absurd (list_mem_not_nil m)
mem_canonical r (q ∷ ps) p m e = go (is_empty q) refl (list_mem_cases_cons m) (λ k. mem_canonical r ps p k e)
  where
    go : (b : Bool) → is_empty q ≡ b → (p ≡ q) ⊎ list_mem p ps → (list_mem p ps → list_mem (r ++ p) (canonical r ps))
        → list_mem (r ++ p) (cond b (canonical r ps) ((r ++ q) ∷ canonical r ps))
    go true f (inl s) ih = absurd (false≢true (sym e ∙ ap is_empty s ∙ f))
    go true f (inr k) ih = ih k
    go false f (inl s) ih = list_mem_head (ap (λ (z : List ℕ). r ++ z) s)
    go false f (inr k) ih = list_mem_tail (ih k)

pub canonical_within : (r : List ℕ) (ps qs : List (List ℕ)) → Within ps qs → Within (canonical r ps) (canonical r qs)
canonical_within r ps qs w x m =
    let c = canonical_mem r ps x m in
    subst (λ (z : List ℕ). list_mem z (canonical r qs)) (sym c.3) (mem_canonical r qs c.0 (w c.0 c.1) c.2)

-- two LIST commands with one reference and one set of options, every pattern of the first in the second
pub record MorePatterns (c d : ListCommand) : Type 0 where
  pub one_reference : reference_in d ≡ reference_in c
  pub one_set : options_in d ≡ options_in c
  pub patterns_stay : Within (written_in c) (written_in d)

-- "the second with a pattern more"
pub pattern_more : (c d : ListCommand) → PatternMore c d → MorePatterns c d
pattern_more c d w = record { one_reference = w.one_reference; one_set = w.one_set; patterns_stay = there }
  where
    there : Within (written_in c) (written_in d)
    there p m =
        subst (λ (l : List (List ℕ)). list_mem p l) (sym w.more)
        (⊎_elim (λ k. mem_append_left (w.extra ∷ w.back) k) (λ k. mem_append_right w.front (list_mem_tail k))
        (list_mem_append_cases w.front (subst (λ (l : List (List ℕ)). list_mem p l) w.fewer m)))

module _ (t : Table) (c d : ListCommand) (a b : List ℕ) (before : AnsweredBy t c a) (after : AnsweredBy t d b) (w : MorePatterns c d)
    (n : List ℕ) where
  pub within : Within (patterns_in c) (patterns_in d)
  within =
      subst (λ (r : List ℕ). Within (patterns_in c) (canonical r (written_in d))) (sym w.one_reference)
      (canonical_within (reference_in c) (written_in c) (written_in d) w.patterns_stay)

  -- whether a candidate is listed after, by the definitions, with the options of the first command
  after_is : list_mem n (candidates (rows t)) → listed_in b n ≡ listed (rows t) (options_in c) (patterns_in d) n
  after_is m =
      bools_equal (listed_in b n) (listed (rows t) (options_in c) (patterns_in d) n)
      (λ h. subst (λ (o : Options). listed (rows t) o (patterns_in d) n ≡ true) w.one_set
      (listed_tests t d b after n (listed_in_lem t d b after n h)).1)
      (λ h. in_listed t d b after n (tests_listed t d b after n m
      (subst (λ (o : Options). listed (rows t) o (patterns_in d) n ≡ true) (sym w.one_set) h)))

  module _ (was : listed_in a n ≡ true) where
    tests : list_mem n (candidates (rows t)) × (listed (rows t) (options_in c) (patterns_in c) n ≡ true)
    tests = listed_tests t c a before n (listed_in_lem t c a before n was)

    -- "without RECURSIVEMATCH, every name listed before is listed after"
    pub stays_listed : (options_in c).sel_recursive ≡ false → listed_in b n ≡ true
    stays_listed r = after_is tests.0 ∙ plain_stays (rows t) (options_in c) (patterns_in c) (patterns_in d) within n r tests.1

    -- "With RECURSIVEMATCH the same holds, except for a name that did not meet the criteria"
    pub meeting_stays_listed : candidate_meets (rows t) (options_in c) n ≡ true → listed_in b n ≡ true
    meeting_stays_listed m = after_is tests.0 ∙ meeting_stays (rows t) (options_in c) (patterns_in c) (patterns_in d) within n tests.1 m

    -- "that one goes exactly if each of its meeting descendants now matches a pattern"
    pub goes_listed : (options_in c).sel_recursive ≡ true → candidate_meets (rows t) (options_in c) n ≡ false
        → listed_in b n ≡ not (every (matches_any (patterns_in d)) (meeting_below (rows t) (options_in c) n))
    goes_listed r m = after_is tests.0 ∙ recursive_goes (rows t) (options_in c) (patterns_in c) (patterns_in d) within n r m tests.1

    -- and with the line that it had
    pub stays_line : listed_in b n ≡ true → lines_for b n ≡ lines_for a n
    stays_line h =
        lines_named t d b after n (listed_in_lem t d b after n h)
        ∙ ap (λ (l : List ℕ). l ∷ [])
        (ap (λ (o : Options). line_of (rows t) o (patterns_in d) n) w.one_set
        ∙ line_same (rows t) (options_in c) (patterns_in d) (patterns_in c) n (sym (after_is tests.0) ∙ h) tests.1)
        ∙ sym (lines_named t c a before n (listed_in_lem t c a before n was))

pub nothing_lost : (t : Table) (c d : ListCommand) (a b : List ℕ) → AnsweredBy t c a → AnsweredBy t d b → MorePatterns c d →
    NothingLost (rows t) c d a b
nothing_lost t c d a b x y w =
    record {
      plain_stays = λ r n h. stays_listed t c d a b x y w n h r;
      meeting_stays = λ n m h. meeting_stays_listed t c d a b x y w n h m;
      goes_exactly = λ r n m h. goes_listed t c d a b x y w n h r m;
      keeps_line = λ n h g. stays_line t c d a b x y w n h g;
    }

-- W10's first claim: adding a pattern must not lose evidence
pub adding_a_pattern : AddingAPattern
adding_a_pattern reader t spaces l buffer spaces' m buffer' c d a b x y w =
    nothing_lost t c d a b (accepted_is reader t spaces l buffer c a x) (accepted_is reader t spaces' m buffer' d b y) (pattern_more c d w)

-- "If rows gain subscriptions instead, no listed name and no CHILDINFO is lost": one command, or two that ask the same, over two tables
module _ (t u : Table) (c d : ListCommand) (a b : List ℕ) (before : AnsweredBy t c a) (after : AnsweredBy u d b) (w : AskSame c d)
    (g : Gains (rows t) (rows u)) where
  one_list : patterns_in d ≡ patterns_in c
  one_list = λ i. canonical (w.one_reference i) (w.same_patterns i)

  gained_name : (n : List ℕ) → list_mem n (candidates (rows t)) × (listed (rows t) (options_in c) (patterns_in c) n ≡ true)
      → list_mem n (listed_names (rows u) (options_in d) (patterns_in d))
  gained_name n x =
      tests_listed u d b after n (gain_candidates (rows t) (rows u) g n x.0)
      ((λ i. listed (rows u) (w.one_set i) (one_list i) n) ∙ gain_listed (rows t) (rows u) g (options_in c) (patterns_in c) n x.1)

  gained_listed : (n : List ℕ) → listed_in a n ≡ true → listed_in b n ≡ true
  gained_listed n h = in_listed u d b after n (gained_name n (listed_tests t c a before n (listed_in_lem t c a before n h)))

  gained_child : (n : List ℕ) → child_info_in a n ≡ true → child_info_in b n ≡ true
  gained_child n h =
      let x = child_in t c a before n h in
      in_child u d b after n (gained_name n (listed_tests t c a before n x.0))
      (ap (λ (o : Options). is_none (child_info (rows u) o n)) w.one_set
      ∙ ap is_none (gain_child_info (rows t) (rows u) g (options_in c) n x.1) ∙ x.1)

  pub none_lost : NoneLost a b
  none_lost = record { name_stays = gained_listed; childinfo_stays = gained_child }

-- W10's second claim
pub gaining_subscriptions : GainingSubscriptions
gaining_subscriptions reader t u spaces l buffer spaces' m buffer' c d a b x y w g =
    none_lost t u c d a b (accepted_is reader t spaces l buffer c a x) (accepted_is reader u spaces' m buffer' d b y) w g
