-- W11 over commands: "the LIST lines of the joined command are those of the two merged in name order with equal lines once. Joining is indifferent to
-- order, to grouping, and to joining a list with itself". Rests on AnswerReads, PatternLaws, EvidenceLaws and WalkOrder.
use Rattle.listing_rules.proofs.Prelude.{◌∙◌, ◌≡◌, ap, refl, subst, sym, Bool, cond, false, true, ◌⊎◌, inl, inr, ⊎_elim, List, list_mem}
use Rattle.listing_rules.proofs.Prelude.{list_mem_append_cases, list_mem_head, list_mem_tail, mem_append_left, mem_append_right, [], ◌∷◌}
use Rattle.listing_rules.proofs.Prelude.{◌++◌, append_assoc, map, Ordering, ordering_lt, ℕ}
use Rattle.listing_rules.specs.Bytes.{is_empty}
use Rattle.listing_rules.specs.Lists.{keep}
use Rattle.listing_rules.specs.Orders.{then_by, byte_order}
use Rattle.listing_rules.specs.Table.{Table, rows}
use Rattle.listing_rules.specs.Options.{Options}
use Rattle.listing_rules.specs.Command.{canonical}
use Rattle.listing_rules.specs.Listing.{candidates, listed, listed_names}
use Rattle.listing_rules.specs.Subscriptions.{store_seen}
use Rattle.listing_rules.specs.Server.{line_of}
use Rattle.listing_rules.specs.Evidence.{ListCommand, options_in, reference_in, written_in, patterns_in, list_lines, line_name}
use Rattle.listing_rules.specs.Joining.{line_order, merged_lines, Joins, JoiningTwo, JoiningTwoOver, BothAccepted, BothAcceptedOver}
use Rattle.listing_rules.specs.Joining.{JoiningIndifferent, MergingIndifferent}
use Rattle.listing_rules.proofs.Bools.{or_cases}
use Rattle.listing_rules.proofs.Order.{Total, bytes_total}
use Rattle.listing_rules.proofs.WalkOrder.{both_total}
use Rattle.listing_rules.proofs.Sorted.{Above, Asc, asc_sorted, sorted_mem, mem_sorted, decided}
use Rattle.listing_rules.proofs.PatternLaws.{Within, plain_stays, line_same}
use Rattle.listing_rules.proofs.JoinedPatterns.{listed_either, same_listed, same_line}
use Rattle.listing_rules.proofs.AnswerReads.{AnsweredBy, accepted_is, names_listed, names_asc, answer_lines, name_of_line, line_named}
use Rattle.listing_rules.proofs.AnswerReads.{named_line, listed_tests, tests_listed}
use Rattle.listing_rules.proofs.EvidenceLaws.{MorePatterns, canonical_within, within}
use Rattle.listing_rules.proofs.StoreEvidence.{over_store}

-- the order of lines is total, so merging is what the members say
line_total : Total line_order
unfolding line_order
line_total = both_total byte_order byte_order bytes_total bytes_total line_name (λ (l : List ℕ). l) (λ a b e. e)

-- merged lists, whatever they hold: the order and the grouping do not matter, and a list that ascends is merged with itself
module _ where
  merged_mem : (ks ls : List (List ℕ)) (z : List ℕ) → list_mem z (merged_lines ks ls) → list_mem z ks ⊎ list_mem z ls
  unfolding merged_lines
  merged_mem ks ls z m = list_mem_append_cases ks (mem_sorted line_order line_total z (ks ++ ls) m)

  mem_merged : (ks ls : List (List ℕ)) (z : List ℕ) → list_mem z ks ⊎ list_mem z ls → list_mem z (merged_lines ks ls)
  unfolding merged_lines
  mem_merged ks ls z (inl m) = sorted_mem line_order line_total z (ks ++ ls) (mem_append_left ls m)
  mem_merged ks ls z (inr m) = sorted_mem line_order line_total z (ks ++ ls) (mem_append_right ks m)

  pub merged_asc : (ks ls : List (List ℕ)) → Asc line_order (merged_lines ks ls)
  unfolding merged_lines
  merged_asc ks ls = asc_sorted line_order line_total (ks ++ ls)

  pub merged_is : (ks ls ms : List (List ℕ)) → Asc line_order ms → ((z : List ℕ) → list_mem z ms → list_mem z ks ⊎ list_mem z ls)
      → ((z : List ℕ) → list_mem z ks → list_mem z ms) → ((z : List ℕ) → list_mem z ls → list_mem z ms) → ms ≡ merged_lines ks ls
  merged_is ks ls ms s f g h =
      decided line_order line_total ms (merged_lines ks ls) s (merged_asc ks ls) (λ z m. mem_merged ks ls z (f z m))
      (λ z m. ⊎_elim (g z) (h z) (merged_mem ks ls z m))

  pub merged_order : (ks ls : List (List ℕ)) → merged_lines ks ls ≡ merged_lines ls ks
  merged_order ks ls =
      merged_is ls ks (merged_lines ks ls) (merged_asc ks ls) (λ z m. ⊎_elim inr inl (merged_mem ks ls z m)) (λ z m. mem_merged ks ls z (inr m))
      (λ z m. mem_merged ks ls z (inl m))

  pub merged_grouping : (ks ls ms : List (List ℕ)) → merged_lines (merged_lines ks ls) ms ≡ merged_lines ks (merged_lines ls ms)
  merged_grouping ks ls ms =
      merged_is ks (merged_lines ls ms) (merged_lines (merged_lines ks ls) ms) (merged_asc (merged_lines ks ls) ms)
      (λ z m. ⊎_elim (λ k. ⊎_elim inl (λ j. inr (mem_merged ls ms z (inl j))) (merged_mem ks ls z k)) (λ k. inr (mem_merged ls ms z (inr k)))
      (merged_mem (merged_lines ks ls) ms z m))
      (λ z m. mem_merged (merged_lines ks ls) ms z (inl (mem_merged ks ls z (inl m))))
      (λ z m. ⊎_elim (λ k. mem_merged (merged_lines ks ls) ms z (inl (mem_merged ks ls z (inr k)))) (λ k. mem_merged (merged_lines ks ls) ms z (inr k))
      (merged_mem ls ms z m))

  pub merged_itself : (ks : List (List ℕ)) → Asc line_order ks → merged_lines ks ks ≡ ks
  merged_itself ks s = sym (merged_is ks ks ks s (λ z m. inl m) (λ z m. m) (λ z m. m))

-- the lines of an answer ascend by name
module _ (L : List ℕ → List ℕ) where
  above_lines : (x : List ℕ) (ns : List (List ℕ)) → line_name (L x) ≡ x → ((n : List ℕ) → list_mem n ns → line_name (L n) ≡ n) → Above byte_order x ns →
      Above line_order (L x) (map L ns)
  above_lines x [] e f a = tt
  above_lines x (n ∷ ns) e f a = (lower, above_lines x ns e (λ m k. f m (list_mem_tail k)) a.1)
    where
      lower : line_order (L x) (L n) ≡ ordering_lt
      lower = unfold line_order then_by in
          ap (λ (o : Ordering). then_by o (byte_order (L x) (L n))) ((λ i. byte_order (e i) (f n (list_mem_head refl) i)) ∙ a.0)

  asc_lines : (ns : List (List ℕ)) → ((n : List ℕ) → list_mem n ns → line_name (L n) ≡ n) → Asc byte_order ns → Asc line_order (map L ns)
  asc_lines [] f s = tt
  asc_lines (n ∷ ns) f s =
      (above_lines n ns (f n (list_mem_head refl)) (λ m k. f m (list_mem_tail k)) s.0, asc_lines ns (λ m k. f m (list_mem_tail k)) s.1)

pub answer_asc : (t : Table) (c : ListCommand) (a : List ℕ) → AnsweredBy t c a → Asc line_order (list_lines a)
answer_asc t c a h =
    subst (Asc line_order) (sym (answer_lines t c a h))
    (asc_lines (line_of (rows t) (options_in c) (patterns_in c)) (names_listed t c a h) (name_of_line t c a h) (names_asc t c a h))

-- the canonical patterns of two lists joined
pub canonical_joined : (r : List ℕ) (ps qs : List (List ℕ)) → canonical r (ps ++ qs) ≡ canonical r ps ++ canonical r qs
unfolding canonical
canonical_joined r [] qs = refl
canonical_joined r (p ∷ ps) qs = go (is_empty p) (canonical_joined r ps qs)
  where
    go : (b : Bool) → canonical r (ps ++ qs) ≡ canonical r ps ++ canonical r qs
        → cond b (canonical r (ps ++ qs)) ((r ++ p) ∷ canonical r (ps ++ qs)) ≡ cond b (canonical r ps) ((r ++ p) ∷ canonical r ps) ++ canonical r qs
    go true e = e
    go false e = ap (λ (l : List (List ℕ)). (r ++ p) ∷ l) e

-- a joined command has the patterns of each of the two
joins_first : (c d j : ListCommand) → Joins c d j → MorePatterns c j
joins_first c d j w =
    record {
      one_reference = w.reference_first;
      one_set = w.options_first;
      patterns_stay = λ p m. subst (λ (l : List (List ℕ)). list_mem p l) (sym w.joined_patterns) (mem_append_left (written_in d) m);
    }

joins_second : (c d j : ListCommand) → Joins c d j → MorePatterns d j
joins_second c d j w =
    record {
      one_reference = w.reference_second;
      one_set = w.options_second;
      patterns_stay = λ p m. subst (λ (l : List (List ℕ)). list_mem p l) (sym w.joined_patterns) (mem_append_right (written_in c) m);
    }

-- "Without RECURSIVEMATCH, and if all three commands are extended and accepted, the LIST lines of the joined command are those of the two merged in
-- name order with equal lines once."
module _ (t : Table) (c d j : ListCommand) (a b e : List ℕ) (first : AnsweredBy t c a) (second : AnsweredBy t d b) (both : AnsweredBy t j e)
    (w : Joins c d j) (plain : (options_in j).sel_recursive ≡ false) where
  patterns_are : patterns_in j ≡ patterns_in c ++ patterns_in d
  patterns_are =
      ap (canonical (reference_in j)) w.joined_patterns ∙ canonical_joined (reference_in j) (written_in c) (written_in d)
      ∙ (λ i. canonical (w.reference_first i) (written_in c) ++ canonical (w.reference_second i) (written_in d))

  -- a line of a name that a command lists is the joined command's
  of_part : (x : ListCommand) (f : List ℕ) → AnsweredBy t x f → options_in j ≡ options_in x → (n : List ℕ) → list_mem n (candidates (rows t))
      → listed (rows t) (options_in j) (patterns_in j) n ≡ true → listed (rows t) (options_in j) (patterns_in x) n ≡ true
      → list_mem (line_of (rows t) (options_in j) (patterns_in j) n) (list_lines f)
  of_part x f h o n m p q =
      subst (λ (k : List ℕ). list_mem k (list_lines f))
      (ap (λ (y : Options). line_of (rows t) y (patterns_in x) n) (sym o) ∙ line_same (rows t) (options_in j) (patterns_in x) (patterns_in j) n q p)
      (named_line t x f h n (tests_listed t x f h n m (subst (λ (y : Options). listed (rows t) y (patterns_in x) n ≡ true) o q)))

  from_two : (k : List ℕ) → list_mem k (list_lines e) → list_mem k (list_lines a) ⊎ list_mem k (list_lines b)
  from_two k m =
      let x = line_named t j e both k m in
      let y = listed_tests t j e both (line_name k) x.0 in
      ⊎_elim (λ p. inl (back (sym x.1) (of_part c a first w.options_first (line_name k) y.0 y.1 p)))
      (λ p. inr (back (sym x.1) (of_part d b second w.options_second (line_name k) y.0 y.1 p)))
      (or_cases (listed (rows t) (options_in j) (patterns_in c) (line_name k)) (listed (rows t) (options_in j) (patterns_in d) (line_name k))
      (sym (listed_either (rows t) (options_in j) plain (patterns_in c) (patterns_in d) (line_name k))
      ∙ ap (λ (ps : List (List ℕ)). listed (rows t) (options_in j) ps (line_name k)) (sym patterns_are) ∙ y.1))
    where
      back : {f : List (List ℕ)} {l : List ℕ} → l ≡ k → list_mem l f → list_mem k f
      back {f} q m = subst (λ (z : List ℕ). list_mem z f) q m

  to_joined : (x : ListCommand) (f : List ℕ) (h : AnsweredBy t x f) (m : MorePatterns x j) → (k : List ℕ) → list_mem k (list_lines f) →
      list_mem k (list_lines e)
  to_joined x f h m k l =
      let y = line_named t x f h k l in
      let z = listed_tests t x f h (line_name k) y.0 in
      let o : options_in j ≡ options_in x = m.one_set in
      let p : listed (rows t) (options_in x) (patterns_in j) (line_name k) ≡ true =
      plain_stays (rows t) (options_in x) (patterns_in x) (patterns_in j) (within t x j f e h both m (line_name k)) (line_name k)
      (ap (λ (q : Options). q.sel_recursive) (sym o) ∙ plain) z.1 in
      subst (λ (q : List ℕ). list_mem q (list_lines e))
      (ap (λ (q : Options). line_of (rows t) q (patterns_in j) (line_name k)) o
      ∙ line_same (rows t) (options_in x) (patterns_in j) (patterns_in x) (line_name k) p z.1 ∙ sym y.1)
      (named_line t j e both (line_name k)
      (tests_listed t j e both (line_name k) z.0 (subst (λ (q : Options). listed (rows t) q (patterns_in j) (line_name k) ≡ true) (sym o) p)))

  pub joined_lines : list_lines e ≡ merged_lines (list_lines a) (list_lines b)
  joined_lines =
      merged_is (list_lines a) (list_lines b) (list_lines e) (answer_asc t j e both) from_two
      (to_joined c a first (joins_first c d j w)) (to_joined d b second (joins_second c d j w))

-- Commands with one reference, one set of options and the same patterns, in whatever order and however often, have the same LIST lines. This holds
-- with RECURSIVEMATCH too.
pub record SamePatterns (c d : ListCommand) : Type 0 where
  pub one_reference : reference_in d ≡ reference_in c
  pub one_set : options_in d ≡ options_in c
  pub there : Within (written_in c) (written_in d)
  pub back : Within (written_in d) (written_in c)

pub same_lines : (t : Table) (c d : ListCommand) (a b : List ℕ) → AnsweredBy t c a → AnsweredBy t d b → SamePatterns c d → list_lines a ≡ list_lines b
unfolding listed_names
same_lines t c d a b x y w =
    answer_lines t c a x
    ∙ (λ i. map (λ n. same_line (rows t) (options_in c) (patterns_in c) ps to from n i)
    (keep (λ n. same_listed (rows t) (options_in c) (patterns_in c) ps to from n i) (candidates (rows t))))
    ∙ sym (λ i. map (line_of (rows t) (w.one_set i) (canonical (w.one_reference i) (written_in d)))
    (keep (listed (rows t) (w.one_set i) (canonical (w.one_reference i) (written_in d))) (candidates (rows t))))
    ∙ sym (answer_lines t d b y)
  where
    ps : List (List ℕ)
    ps = canonical (reference_in c) (written_in d)

    to : Within (patterns_in c) ps
    to = canonical_within (reference_in c) (written_in c) (written_in d) w.there

    from : Within ps (patterns_in c)
    from = canonical_within (reference_in c) (written_in d) (written_in c) w.back

-- "Joining is indifferent to order, to grouping, and to joining a list with itself, where that is accepted."
either : (ps qs : List (List ℕ)) (p : List ℕ) → list_mem p (ps ++ qs) → list_mem p (qs ++ ps)
either ps qs p m = ⊎_elim (λ k. mem_append_right qs k) (λ k. mem_append_left ps k) (list_mem_append_cases ps m)

pub joined_order : (t : Table) (c d j k : ListCommand) (a b : List ℕ) → AnsweredBy t j a → AnsweredBy t k b → Joins c d j → Joins d c k →
    list_lines a ≡ list_lines b
joined_order t c d j k a b x y u v =
    same_lines t j k a b x y (record {
      one_reference = v.reference_second ∙ sym u.reference_first;
      one_set = v.options_second ∙ sym u.options_first;
      there =
          λ p m. subst (λ (l : List (List ℕ)). list_mem p l) (sym v.joined_patterns)
          (either (written_in c) (written_in d) p (subst (λ (l : List (List ℕ)). list_mem p l) u.joined_patterns m));
      back =
          λ p m. subst (λ (l : List (List ℕ)). list_mem p l) (sym u.joined_patterns)
          (either (written_in d) (written_in c) p (subst (λ (l : List (List ℕ)). list_mem p l) v.joined_patterns m));
    })

-- c and d joined to j, then j and f to l; d and f joined to k, then c and k to m
pub joined_grouping : (t : Table) (c d f j k l m : ListCommand) (a b : List ℕ) → AnsweredBy t l a → AnsweredBy t m b
    → Joins c d j → Joins j f l → Joins d f k → Joins c k m → list_lines a ≡ list_lines b
joined_grouping t c d f j k l m a b x y cd jf df ck =
    same_lines t l m a b x y (record {
      one_reference = ck.reference_first ∙ sym cd.reference_first ∙ sym jf.reference_first;
      one_set = ck.options_first ∙ sym cd.options_first ∙ sym jf.options_first;
      there = λ p h. subst (λ (q : List (List ℕ)). list_mem p q) one h;
      back = λ p h. subst (λ (q : List (List ℕ)). list_mem p q) (sym one) h;
    })
  where
    one : written_in l ≡ written_in m
    one =
        jf.joined_patterns ∙ ap (λ (q : List (List ℕ)). q ++ written_in f) cd.joined_patterns
        ∙ append_assoc (written_in c) (written_in d) (written_in f)
        ∙ ap (λ (q : List (List ℕ)). written_in c ++ q) (sym df.joined_patterns) ∙ sym ck.joined_patterns

pub joined_itself : (t : Table) (c j : ListCommand) (a b : List ℕ) → AnsweredBy t c a → AnsweredBy t j b → Joins c c j → list_lines a ≡ list_lines b
joined_itself t c j a b x y w =
    same_lines t c j a b x y (record {
      one_reference = w.reference_first;
      one_set = w.options_first;
      there = λ p m. subst (λ (l : List (List ℕ)). list_mem p l) (sym w.joined_patterns) (mem_append_left (written_in c) m);
      back =
          λ p m. ⊎_elim (λ k. k) (λ k. k) (list_mem_append_cases (written_in c)
          (subst (λ (l : List (List ℕ)). list_mem p l) w.joined_patterns m));
    })

-- W11's claims
pub joining_two : JoiningTwo
joining_two reader t spaces l buffer spaces' m buffer' spaces'' k buffer'' c d j a b e x y z w r =
    joined_lines t c d j a b e (accepted_is reader t spaces l buffer c a x) (accepted_is reader t spaces' m buffer' d b y)
    (accepted_is reader t spaces'' k buffer'' j e z) w r

pub joining_two_over : JoiningTwoOver
joining_two_over reader s spaces l buffer spaces' m buffer' spaces'' k buffer'' c d j a b e x y z w r =
    joined_lines (store_seen reader s) c d j a b e (over_store reader s spaces l buffer c a x) (over_store reader s spaces' m buffer' d b y)
    (over_store reader s spaces'' k buffer'' j e z) w r

-- two commands that were both accepted are answered over one table
abbrev Answered : (ListCommand → ListCommand → List ℕ → List ℕ → Type 0) → Type 0
Answered Both = (c d : ListCommand) (a b : List ℕ) → Both c d a b → (t : Table) × AnsweredBy t c a × AnsweredBy t d b

indifferent : (Both : ListCommand → ListCommand → List ℕ → List ℕ → Type 0) → Answered Both → JoiningIndifferent Both
indifferent Both f =
    record {
      of_order = λ c d j k a b h u v. let w = f j k a b h in joined_order w.0 c d j k a b w.1 w.2 u v;
      of_grouping = λ c d e j k l m a b h u v x y. let w = f l m a b h in joined_grouping w.0 c d e j k l m a b w.1 w.2 u v x y;
      of_itself = λ c j a b h u. let w = f c j a b h in joined_itself w.0 c j a b w.1 w.2 u;
    }

pub joining_indifferent : JoiningIndifferent BothAccepted
joining_indifferent =
    indifferent BothAccepted (λ c d a b h. (
      h.table,
      accepted_is h.reader h.table h.spaces_first h.line_first h.buffer_first c a h.first,
      accepted_is h.reader h.table h.spaces_second h.line_second h.buffer_second d b h.second,
    ))

pub joining_indifferent_over : JoiningIndifferent BothAcceptedOver
joining_indifferent_over =
    indifferent BothAcceptedOver (λ c d a b h. (
      store_seen h.reader h.store,
      over_store h.reader h.store h.spaces_first h.line_first h.buffer_first c a h.first,
      over_store h.reader h.store h.spaces_second h.line_second h.buffer_second d b h.second,
    ))

pub merging_indifferent : MergingIndifferent
merging_indifferent =
    record {
      of_order = merged_order;
      of_grouping = merged_grouping;
      of_itself = λ ks ls. merged_itself (merged_lines ks ls) (merged_asc ks ls);
      of_an_answer =
          λ reader t spaces l buffer c a h. merged_itself (list_lines a) (answer_asc t c a (accepted_is reader t spaces l buffer c a h));
    }
