-- What is shown of a name, by the tests of `decide`; and its text. Rests on Levels.
use Rattle.std.specs.Prelude.{Some, None}
use Rattle.listing_rules.proofs.Prelude.{◌∙◌, ◌≡◌, ap, refl, sym, Bool, ◌&&◌, ◌||◌, and-false, cond, false, not, true, List, [], ℕ, drop, length}
use Rattle.listing_rules.proofs.Prelude.{take, length-take-le, take_all, min, dec_le, arith}
use Rattle.listing_rules.specs.Flags.{exists, subscribed}
use Rattle.listing_rules.specs.Table.{Row, flags_of}
use Rattle.listing_rules.specs.Options.{Options, Criteria, no_criteria, criteria, criteria_of, criteria_number}
use Rattle.listing_rules.specs.Listing.{meets_criteria, candidate_meets, meets_below, meets_unmatched_below, level_above, listed, child_info, has_children}
use Rattle.listing_rules.specs.Listing.{attributes, attributes_for, in_order}
use Rattle.listing_rules.specs.Lines.{word_line}
use Rattle.listing_rules.specs.Lsub.{is_subscribed, lsub_attributes}
use Rattle.listing_rules.proofs.NameFlags.{meets_zero}
use Rattle.list_line.specs.declared.attributes.Attributes.{Attributes}
use Rattle.list_line.specs.declared.criteria.Criteria.{Criteria as CriteriaBits}
use Rattle.list_line.specs.declared.words.LineWord.{LineWord}
use Rattle.list_line.specs.declared.words.LineWord.TheVariants.{List as OfList, Lsub as OfLsub}
use Rattle.list_line.specs.Members.{members, set_of}
use Rattle.list_line.specs.Words.{start_of}
use Rattle.listing_rules.proofs.RoundTrip.{criteria_number_lem}
use Rattle.list_line.proofs.Members.{members_set_of}
use Rattle.mailbox_table.specs.declared.rows.Row.{Row as Place}
use Rattle.mailbox_table.specs.Words.{row_of_word}
use Rattle.mailbox_table.specs.Index.{name_at}
use Rattle.list_answer.specs.Marks.{levels_asked}
use Rattle.list_answer.specs.Shown.{by_right, as_level, matches_for, attributes_on, criteria_on, line_on, line_of, shown_is, shown_text}
use Rattle.list_answer.proofs.Levels.{listed_for, level_matched}

-- the name of a row that was looked up
pub named : (area : List ℕ) (w : ℕ) (r : Place) → r ≡ row_of_word w → (n : List ℕ) → n ≡ take r.len (drop r.start area) → n ≡ name_at area w
unfolding name_at
named area w r e n f = f ∙ ap (λ (q : Place). take q.len (drop q.start area)) e

-- its first k bytes, or all of them where it has fewer
pub fronted : (area : List ℕ) (w : ℕ) (r : Place) → r ≡ row_of_word w → (k : ℕ) (n : List ℕ) → n ≡ take k (take r.len (drop r.start area)) →
    n ≡ take k (name_at area w)
fronted area w r e k n f = f ∙ ap (λ (l : List ℕ). take k l) (named area w r e (take r.len (drop r.start area)) refl)

module _ (k : ℕ) (l : List ℕ) (e : ℕ) (h : e ≡ min k (length l)) where
  pub front_size : e ≡ length (take e l)
  front_size = sym (length-take-le e l (omega arith))

  pub front_is_lem : take e l ≡ take k l
  front_is_lem =
      elim (dec_le k (length l)) [
        | yes g ↦ let same : e ≡ k = omega arith in ap (λ (j : ℕ). take j l) same
        | no g ↦ take_all e l (omega arith) ∙ sym (take_all k l (omega arith))
      ]

-- the last two of the sixteen are shown with CHILDREN alone, but for a level, so children need not be looked for without it
children_asked : (f : ℕ) (o : Options) (h v : Bool) → attributes_for f o (o.ret_children && h) v ≡ attributes_for f o h v
unfolding attributes_for in_order
children_asked f o h v = rw (twice o.ret_children h, without o.ret_children h)
  where
    twice : (a b : Bool) → (a && (a && b)) ≡ (a && b)
    twice true b = refl
    twice false b = refl

    without : (a b : Bool) → (a && not (a && b)) ≡ (a && not b)
    without true b = refl
    without false b = refl

module _ (w : LineWord) (rs : List Row) (o : Options) (ps : List (List ℕ)) (n : List ℕ) where
  -- what stands on a LIST line and on an LSUB line
  list_attributes : w ≡ OfList → attributes_on w rs o ps n ≡ attributes_for (flags_of rs n) o (has_children rs o n) (level_above rs o ps n)
  unfolding attributes_on attributes attributes_for in_order
  list_attributes e = rw e

  list_criteria : w ≡ OfList → criteria_on w rs o n ≡ cond (o.sel_recursive && meets_below rs o n) (criteria o) no_criteria
  unfolding criteria_on child_info
  list_criteria e = rw e

  lsub_shows : w ≡ OfLsub → attributes_on w rs o ps n ≡ lsub_attributes (not (subscribed (flags_of rs n)))
  unfolding attributes_on is_subscribed
  lsub_shows e = rw e

  lsub_names_lem : w ≡ OfLsub → criteria_on w rs o n ≡ no_criteria
  unfolding criteria_on
  lsub_names_lem e = rw e

  -- By what the code found of the name: whether it can be a level, and whether it is listed if it matches
  module _ (level counts : Bool) (el : level ≡ as_level rs o ps n) (ec : counts ≡ (by_right rs o ps n || level)) where
    counts_are : counts ≡ (by_right rs o ps n || as_level rs o ps n)
    counts_are = ec ∙ ap (λ (b : Bool). by_right rs o ps n || b) el

    out : listed rs o ps n ≡ false → None ≡ shown_is w rs o ps n
    unfolding shown_is
    out e = rw e

    pub shown_not : counts ≡ false → None ≡ shown_is w rs o ps n
    shown_not e = out (listed_for rs o ps n ∙ ap (λ (b : Bool). matches_for rs o ps n && b) (sym counts_are ∙ e) ∙ and-false (matches_for rs o ps n))

    module _ (e : counts ≡ true) (m : Bool) (em : (by_right rs o ps n || as_level rs o ps n) ≡ true → m ≡ matches_for rs o ps n) where
      match_is : matches_for rs o ps n ≡ m
      match_is = sym (em (sym counts_are ∙ e))

      pub shown_unmatched : m ≡ false → None ≡ shown_is w rs o ps n
      shown_unmatched f = out (listed_for rs o ps n ∙ ap (λ (b : Bool). b && (by_right rs o ps n || as_level rs o ps n)) (match_is ∙ f))

      -- what matches is shown, with what stands on a line with this word
      line : m ≡ true → (bits : Attributes) → set_of (attributes_on w rs o ps n) ≡ bits.bits → (named : CriteriaBits) →
          criteria_number (criteria_on w rs o n) ≡ named.bits → Some (record { attributes = bits; criteria = named }) ≡ shown_is w rs o ps n
      unfolding shown_is
      line f bits eb named en =
          sym
          (ap (λ (b : Bool). cond b (Some (line_of w rs o ps n)) None) shows
          ∙ (λ j. Some (record { attributes = record { bits = eb j }; criteria = record { bits = en j } })))
        where
          shows : listed rs o ps n ≡ true
          shows = listed_for rs o ps n ∙ (λ i. (match_is ∙ f) i && (sym counts_are ∙ e) i)

      pub shown_list : w ≡ OfList → m ≡ true → (flags : ℕ) → flags ≡ flags_of rs n → (children : Bool) →
          children ≡ (o.ret_children && has_children rs o n) → (bits : Attributes) → bits.bits ≡ set_of (attributes_for flags o children level) →
          (info : Bool) → info ≡ (o.sel_recursive && meets_below rs o n) → (named : CriteriaBits) →
          named.bits ≡ criteria_number (cond info (criteria o) no_criteria) → Some (record { attributes = bits; criteria = named }) ≡ shown_is w rs o ps n
      shown_list ew f flags ef children ek bits eb info ei named en = line f bits shown_bits named shown_info
        where
          above : level_above rs o ps n ≡ level
          above = level_matched rs o ps n (match_is ∙ f) ∙ sym el

          shown_bits : set_of (attributes_on w rs o ps n) ≡ bits.bits
          shown_bits =
              ap set_of (list_attributes ew ∙ sym (children_asked (flags_of rs n) o (has_children rs o n) (level_above rs o ps n)) ∙
              (λ i. attributes_for (sym ef i) o (sym ek i) (above i)))
              ∙ sym eb

          shown_info : criteria_number (criteria_on w rs o n) ≡ named.bits
          shown_info = ap criteria_number (list_criteria ew ∙ ap (λ (b : Bool). cond b (criteria o) no_criteria) (sym ei)) ∙ sym en

      pub shown_lsub : w ≡ OfLsub → m ≡ true → (flags : ℕ) → flags ≡ flags_of rs n → (bits : Attributes) →
          bits.bits ≡ set_of (lsub_attributes (not (subscribed flags))) → (named : CriteriaBits) → named.bits ≡ 0 →
          Some (record { attributes = bits; criteria = named }) ≡ shown_is w rs o ps n
      unfolding no_criteria criteria_number
      shown_lsub ew f flags ef bits eb named en =
          line f bits (ap set_of (lsub_shows ew ∙ ap (λ (k : ℕ). lsub_attributes (not (subscribed k))) (sym ef)) ∙ sym eb)
          named (ap criteria_number (lsub_names_lem ew) ∙ sym en)

  -- A name without a row is listed under RECURSIVEMATCH or as a level alone
  pub text_implied : flags_of rs n ≡ 0 → (o.sel_recursive || levels_asked o ps) ≡ false → shown_text w rs o ps n ≡ []
  unfolding shown_text candidate_meets
  text_implied e f = rw (listed_for rs o ps n, none) (ap (λ (b : Bool). cond b (line_on w rs o ps n) []) (and-false (matches_for rs o ps n)))
    where
      go : (r l s t d : Bool) → (r || l) ≡ false → ((false || (r && s)) || ((l && t) && d)) ≡ false
      go true l s t d g = cc
      go false true s t d g = cc
      go false false s t d g = refl

      none : (by_right rs o ps n || as_level rs o ps n) ≡ false
      none =
          ap (λ (b : Bool). (b || (o.sel_recursive && meets_unmatched_below rs o ps n)) || as_level rs o ps n) (ap (meets_criteria o) e ∙ meets_zero o)
          ∙ go o.sel_recursive (levels_asked o ps) (meets_unmatched_below rs o ps n) (not (exists (flags_of rs n))) (meets_below rs o n) f

  -- The text of what is shown
  pub text_none : shown_is w rs o ps n ≡ None → shown_text w rs o ps n ≡ []
  unfolding shown_is shown_text
  text_none e = go (listed rs o ps n) e
    where
      go : (b : Bool) → cond b (Some (line_of w rs o ps n)) None ≡ None → cond b (line_on w rs o ps n) [] ≡ []
      go true f = cc
      go false f = refl

  sixteen : length (attributes_on w rs o ps n) ≡ 16
  sixteen = go w
    where
      go : (v : LineWord) → length (attributes_on v rs o ps n) ≡ 16
      go OfList = unfold attributes_on attributes attributes_for in_order in refl
      go OfLsub = unfold attributes_on lsub_attributes in_order in refl

  pub text_line : (a : Attributes) (c : CriteriaBits) → shown_is w rs o ps n ≡ Some (record { attributes = a; criteria = c }) →
      shown_text w rs o ps n ≡ word_line (start_of w) (members a.bits) n (criteria_of c.bits)
  unfolding shown_is shown_text line_on
  text_line a c e = go (listed rs o ps n) e
    where
      go : (b : Bool) → cond b (Some (line_of w rs o ps n)) None ≡ Some (record { attributes = a; criteria = c }) → cond b (word_line (start_of w) (attributes_on w rs o ps n) n (criteria_on w rs o n)) [] ≡ word_line (start_of w)
          (members a.bits) n (criteria_of c.bits)
      go true f =
          let g : (line_of w rs o ps n).attributes ≡ a = cc in
          let h : (line_of w rs o ps n).criteria ≡ c = cc in
          ap (λ (k : Criteria). word_line (start_of w) (attributes_on w rs o ps n) n k)
          (sym (criteria_number_lem (criteria_on w rs o n)) ∙ ap (λ (x : CriteriaBits). criteria_of x.bits) h)
          ∙ ap (λ (l : List Bool). word_line (start_of w) l n (criteria_of c.bits))
          (sym (members_set_of (attributes_on w rs o ps n) sixteen) ∙ ap (λ (x : Attributes). members x.bits) g)
      go false f = cc
