-- The tag of a line: what it may be, and that every command which is read has it. Rests on laws of listing_rules.
use Rattle.listing_rules.proofs.Prelude.{◌∙◌, ◌≡◌, ap, refl, sym, Bool, ◌&&◌, ◌||◌, cond, false, true, not, Option, none, some, List, [], ◌++◌}
use Rattle.listing_rules.proofs.Prelude.{◌∷◌, ℕ, ◌-◌, eqb, leb, length, take, drop, take-append-drop}
use Rattle.listing_rules.proofs.Prelude.{option_some_injective, le-leb, leb-true, arith, ◌+◌}
use Rattle.listing_rules.proofs.Prelude.{◌⊎◌, inl, inr, ⊎_elim, eqb-true}
use Rattle.listing_rules.proofs.Keys.{open_bytes, open_tokens}
use Rattle.listing_rules.proofs.Bools.{and_l, and_r, and_i, or_cases}
use Rattle.listing_rules.proofs.ListLaws.{all_imp}
use Rattle.listing_rules.proofs.TokenLaws.{bind_some, after_some}
use Rattle.listing_rules.specs.Bytes.{text, crlf, within, all, is_empty, spells}
use Rattle.listing_rules.specs.Lists.{every}
use Rattle.listing_rules.specs.Tokens.{Got, got, at, after, with_first, tag_byte, atom_byte, run, run₁, unless_empty, atom}
use Rattle.listing_rules.specs.Options.{Options, lawful_options}
use Rattle.listing_rules.specs.Command.{known_in, selection_words, return_words, options_of, few_patterns, asks_root, canonical, Parsed, refused, namespace}
use Rattle.listing_rules.specs.Command.{listing, root_of, subscriptions, editing, or_refuse, worded, tagged, parsed, line_text, Edit, subscribe}
use Rattle.listing_rules.specs.Command.{unsubscribe, judged, judged_lsub, list_args, lsub_args, name_arg, ListArgs, LsubArgs, is_some}
use Rattle.listing_rules.specs.Feeder.{first, one_command}
use Rattle.conversation.specs.Texts.{no_tag}
use Rattle.conversation.specs.Conversation.{tag_among, tag_of, Started, started}
use Rattle.conversation.specs.Closing.{printable}
use Rattle.conversation.proofs.TalkKeys.{open_texts}

-- a run that ends at a byte ends there whatever comes after
run_front : (p : ℕ → Bool) (t x : List ℕ) (b : ℕ) (u : List ℕ) → (run p t).rest ≡ b ∷ u → p b ≡ false
    → run p (t ++ x) ≡ got (run p t).val (b ∷ (u ++ x))
unfolding run with_first got
run_front p [] x b u e f = absurd (nil_not e)
  where
    nil_not : {A : Type 0} {a : A} {l : List A} → [] ≡ a ∷ l → ⊥
    nil_not q = Rattle.listing_rules.proofs.Prelude.nil≢cons q
run_front p (c ∷ t) x b u e f = go (p c) e (run_front p t x b u)
  where
    go : (o : Bool) → (cond o (with_first c (run p t)) (got [] (c ∷ t))).rest ≡ b ∷ u
        → ((run p t).rest ≡ b ∷ u → p b ≡ false → run p (t ++ x) ≡ got (run p t).val (b ∷ (u ++ x)))
        → cond o (with_first c (run p (t ++ x))) (got [] (c ∷ (t ++ x))) ≡ got (cond o (with_first c (run p t)) (got [] (c ∷ t))).val (b ∷ (u ++ x))
    go true q ih = ap (with_first c) (ih q f)
    go false q ih = ap (λ (l : List ℕ). got [] (l ++ x)) q

-- what is left after a space begins with it
after_space_lem : (t u : List ℕ) → after (text " ") t ≡ some u → t ≡ 32 ∷ u
unfolding text
after_space_lem t u e = after_some (32 ∷ []) t u e

-- A run of one byte or more is the longest run.
pub run₁_is : (p : ℕ → Bool) (t : List ℕ) (g : Got (List ℕ)) → run₁ p t ≡ some g → (run p t ≡ g) × (is_empty g.val ≡ false)
unfolding run₁ unless_empty
run₁_is p t g e = go (run p t) (is_empty (run p t).val) refl e
  where
    go : (r : Got (List ℕ)) (b : Bool) → is_empty r.val ≡ b → cond b none (some r) ≡ some g → (r ≡ g) × (is_empty g.val ≡ false)
    go r true q e = absurd (Rattle.listing_rules.proofs.Prelude.option_none_ne_some g e)
    go r false q e = let w = option_some_injective r g e in (w, ap (λ (x : Got (List ℕ)). is_empty x.val) (sym w) ∙ q)

-- the tag of a line whose front is a tag and a space
tag_front : (t x : List ℕ) (g : Got (List ℕ)) (u : List ℕ) → run₁ tag_byte t ≡ some g → after (text " ") g.rest ≡ some u → tag_of (t ++ x) ≡ g.val
unfolding tag_of run₁ unless_empty tag_among got at
tag_front t x g u e a =
    let r = run₁_is tag_byte t g e in
    let q = ap (λ (y : Got (List ℕ)). y.rest) r.0 ∙ after_space_lem g.rest u a in
    let w = run_front tag_byte t x 32 u q space_not in
    ap (λ (y : Got (List ℕ)). tag_among (cond (is_empty y.val) none (some y))) w
    ∙ ap (λ (v : List ℕ). tag_among (cond (is_empty v) none (some (got v (32 ∷ (u ++ x)))))) (ap (λ (y : Got (List ℕ)). y.val) r.0)
    ∙ ap (λ (b : Bool). tag_among (cond b none (some (got g.val (32 ∷ (u ++ x)))))) r.1
  where
    space_not : tag_byte 32 ≡ false
    space_not = unfold open_tokens open_bytes in refl

-- the text of a line is its front
text_front : (l t : List ℕ) → line_text l ≡ some t → (x : List ℕ) × (l ≡ t ++ x)
unfolding line_text
text_front l t e = go (one_command first l) e
  where
    go : (b : Bool) → cond b (some (take (length l - 2) l)) none ≡ some t → (x : List ℕ) × (l ≡ t ++ x)
    go true q =
        (drop (length l - 2) l, sym (take-append-drop (length l - 2) l) ∙ ap (λ (y : List ℕ). y ++ drop (length l - 2) l) (option_some_injective (take (length l - 2) l) t q))
    go false q = absurd (Rattle.listing_rules.proofs.Prelude.option_none_ne_some t q)

line_tag : (l t : List ℕ) (g : Got (List ℕ)) (u : List ℕ) → line_text l ≡ some t → run₁ tag_byte t ≡ some g → after (text " ") g.rest ≡ some u →
    g.val ≡ tag_of l
line_tag l t g u e r a = let w = text_front l t e in sym (ap tag_of w.1 ∙ tag_front t w.0 g u r a)

-- a command that is read has the line's tag; a line that is refused has a number up to 8
unfoldable pub Tagged : List ℕ → Parsed → Type 0
Tagged l (refused k) = leb k 8 ≡ true
Tagged l (namespace tag) = tag ≡ tag_of l
Tagged l (listing tag o ps) = tag ≡ tag_of l
Tagged l (root_of tag) = tag ≡ tag_of l
Tagged l (subscriptions tag ps) = tag ≡ tag_of l
Tagged l (editing tag e) = tag ≡ tag_of l

no_tag_lem : (l : List ℕ) (k : ℕ) → leb k 8 ≡ true → Tagged l (refused k)
unfolding Tagged
no_tag_lem l k h = h

or_refuse_lem : {A : Type 0} (l : List ℕ) (k : ℕ) → leb k 8 ≡ true → (o : Option A) (go : A → Parsed) → ((a : A) → o ≡ some a → Tagged l (go a)) →
    Tagged l (or_refuse k o go)
unfolding or_refuse
or_refuse_lem l k h none go f = no_tag_lem l k h
or_refuse_lem l k h (some a) go f = f a refl

choose : (l : List ℕ) (b : Bool) (p q : Parsed) → Tagged l p → Tagged l q → Tagged l (cond b p q)
choose l true p q x y = x
choose l false p q x y = y

module _ (l tag : List ℕ) (e : tag ≡ tag_of l) where
  root_tag : Tagged l (root_of tag)
  unfolding Tagged
  root_tag = e

  spaces_tag : Tagged l (namespace tag)
  unfolding Tagged
  spaces_tag = e

  list_tag : (o : Options) (ps : List (List ℕ)) → Tagged l (listing tag o ps)
  unfolding Tagged
  list_tag o ps = e

  lsub_tag : (ps : List (List ℕ)) → Tagged l (subscriptions tag ps)
  unfolding Tagged
  lsub_tag ps = e

  edit_tag : (x : Edit) → Tagged l (editing tag x)
  unfolding Tagged
  edit_tag x = e

  judged_tag : (a : ListArgs) → Tagged l (judged tag a)
  unfolding judged
  judged_tag a =
      let ps = canonical a.reference a.pats in
      let fine = cond (asks_root a) (root_of tag) (listing tag (options_of a) ps) in
      let e8 = cond (few_patterns a) fine (refused 8) in
      let e7 = cond (lawful_options (options_of a)) e8 (refused 7) in
      choose l (every (known_in selection_words) a.selection && every (known_in return_words) a.returns) e7 (refused 6)
      (choose l (lawful_options (options_of a)) e8 (refused 7)
      (choose l (few_patterns a) fine (refused 8) (choose l (asks_root a) (root_of tag) (listing tag (options_of a) ps) root_tag
      (list_tag (options_of a) ps)) (no_tag_lem l 8 refl))
      (no_tag_lem l 7 refl))
      (no_tag_lem l 6 refl)

  judged_lsub_tag : (a : LsubArgs) → Tagged l (judged_lsub tag a)
  unfolding judged_lsub
  judged_lsub_tag a =
      let ps = canonical a.reference (a.pat ∷ []) in
      choose l (every (λ p. leb (length p) 255) ps) (subscriptions tag ps) (refused 8) (lsub_tag ps) (no_tag_lem l 8 refl)

  worded_tag : (w : Got (List ℕ)) → Tagged l (worded tag w)
  unfolding worded
  worded_tag w =
      let list = or_refuse 4 (list_args w.rest) (judged tag) in
      let spaces = cond (is_empty w.rest) (namespace tag) (refused 4) in
      let subscribed = or_refuse 4 (lsub_args w.rest) (judged_lsub tag) in
      let adding = or_refuse 4 (name_arg w.rest) (λ n. editing tag (subscribe n)) in
      let taking = or_refuse 4 (name_arg w.rest) (λ n. editing tag (unsubscribe n)) in
      let last = cond (spells w.val (text "UNSUBSCRIBE")) taking (refused 5) in
      let fourth = cond (spells w.val (text "SUBSCRIBE")) adding last in
      let third = cond (spells w.val (text "LSUB")) subscribed fourth in
      let second = cond (spells w.val (text "NAMESPACE")) spaces third in
      choose l (spells w.val (text "LIST")) list second (or_refuse_lem l 4 refl (list_args w.rest) (judged tag) (λ a q. judged_tag a))
      (choose l (spells w.val (text "NAMESPACE")) spaces third
      (choose l (is_empty w.rest) (namespace tag) (refused 4) spaces_tag (no_tag_lem l 4 refl))
      (choose l (spells w.val (text "LSUB")) subscribed fourth
      (or_refuse_lem l 4 refl (lsub_args w.rest) (judged_lsub tag) (λ a q. judged_lsub_tag a))
      (choose l (spells w.val (text "SUBSCRIBE")) adding last
      (or_refuse_lem l 4 refl (name_arg w.rest) (λ n. editing tag (subscribe n)) (λ a q. edit_tag (subscribe a)))
      (choose l (spells w.val (text "UNSUBSCRIBE")) taking (refused 5)
      (or_refuse_lem l 4 refl (name_arg w.rest) (λ n. editing tag (unsubscribe n)) (λ a q. edit_tag (unsubscribe a))) (no_tag_lem l 5 refl)))))

-- Every command that is read has the tag of its line.
pub parsed_tag : (l : List ℕ) → Tagged l (parsed l)
unfolding parsed tagged
parsed_tag l =
    or_refuse_lem l 3 refl (line_text l) tagged
    (λ t e. or_refuse_lem l 4 refl (run₁ tag_byte t) _
    (λ g r. or_refuse_lem l 4 refl (after (text " ") g.rest) _
    (λ u a. worded_tag l g.val (line_tag l t g u e r a) (run atom_byte u))))

-- So has a line up to its word.
pub started_tag : (l : List ℕ) (w : Started) → started l ≡ some w → w.tag ≡ tag_of l
unfolding started
started_tag l w e =
    let a = bind_some (line_text l) _ w e in
    let b = bind_some (run₁ tag_byte a.0) _ w a.2 in
    let c = bind_some (after (text " ") b.0.rest) _ w b.2 in
    let d = bind_some (atom c.0) _ w c.2 in
    ap (λ (x : Started). x.tag) (sym (option_some_injective _ w d.2)) ∙ line_tag l a.0 b.0 c.0 a.1 b.1 c.1

-- ---- what a tag may be

tag_byte_plain : (b : ℕ) → tag_byte b ≡ true → printable b ≡ true
unfolding tag_byte atom_byte printable
tag_byte_plain b h = go (or_cases (atom_byte b) (eqb b 93) (and_l (atom_byte b || eqb b 93) (not (eqb b 43)) h))
  where
    atom_low : within 0x21 0x7E b ≡ true → within 0x20 0x7E b ≡ true
    atom_low q = unfold within in
        (let low = and_l (leb 0x21 b) (leb b 0x7E) (unfold within in q) in
        let high = and_r (leb 0x21 b) (leb b 0x7E) (unfold within in q) in
        and_i (leb 0x20 b) (leb b 0x7E) (le-leb 0x20 b (omega (arith, leb-true 0x21 b low))) high)

    ninety_three : within 0x20 0x7E 93 ≡ true
    ninety_three = unfold within in refl

    go : (atom_byte b ≡ true) ⊎ (eqb b 93 ≡ true) → within 0x20 0x7E b ≡ true
    go (inl q) = atom_low (and_l (within 0x21 0x7E b) _ q)
    go (inr q) = ap (within 0x20 0x7E) (eqb-true b 93 q) ∙ ninety_three

run_all : (p : ℕ → Bool) (t : List ℕ) → all p (run p t).val ≡ true
unfolding run with_first got all
run_all p [] = refl
run_all p (b ∷ t) = go (p b) refl (run_all p t)
  where
    go : (o : Bool) → p b ≡ o → all p (run p t).val ≡ true → all p (cond o (with_first b (run p t)) (got [] (b ∷ t))).val ≡ true
    go true e h = rw (e, h)
    go false e h = refl

-- A tag is `*` where the line has none that is lawful; else bytes of a tag, one or more, so that it begins with neither `*` nor `+`.
pub tag_cases : (l : List ℕ) → (tag_of l ≡ no_tag) ⊎ ((all tag_byte (tag_of l) ≡ true) × (is_empty (tag_of l) ≡ false))
unfolding tag_of run₁ unless_empty tag_among
tag_cases l = go (is_empty (run tag_byte l).val) refl
  where
    g : Got (List ℕ)
    g = run tag_byte l

    pick : (b : Bool) → is_empty g.val ≡ false →
        (cond b g.val no_tag ≡ no_tag) ⊎ ((all tag_byte (cond b g.val no_tag) ≡ true) × (is_empty (cond b g.val no_tag) ≡ false))
    pick true e = inr (run_all tag_byte l, e)
    pick false e = inl refl

    go : (b : Bool) → is_empty g.val ≡ b
        → (tag_among (cond b none (some g)) ≡ no_tag) ⊎ ((all tag_byte (tag_among (cond b none (some g))) ≡ true) ×
        (is_empty (tag_among (cond b none (some g))) ≡ false))
    go true e = inl refl
    go false e = pick (at 32 g.rest || is_some (after crlf g.rest)) e

-- A tag is printable.
pub tag_plain : (l : List ℕ) → all printable (tag_of l) ≡ true
tag_plain l = ⊎_elim (λ e. ap (all printable) e ∙ star_plain) (λ h. all_imp tag_byte printable tag_byte_plain (tag_of l) h.0) (tag_cases l)
  where
    star_plain : all printable no_tag ≡ true
    star_plain = unfold open_texts open_bytes printable in refl
