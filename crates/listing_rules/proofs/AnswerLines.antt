-- The lines of an answer are split again as they were joined. Rests on TokenLaws and LawfulNames.
use Rattle.listing_rules.proofs.Prelude.{◌∙◌, ◌≡◌, ap, refl, sym, Bool, false, not, true, List, [], ◌++◌, ◌∷◌, append_assoc, map, ℕ, arith}
use Rattle.listing_rules.proofs.Prelude.{eqb, ne_eqb, not-true}
use Rattle.listing_rules.specs.Bytes.{text, quote, all}
use Rattle.listing_rules.specs.Lists.{every, joined, on_first}
use Rattle.listing_rules.specs.Names.{name_byte}
use Rattle.listing_rules.specs.Options.{Criteria}
use Rattle.listing_rules.specs.Lines.{attribute_names, chosen, spaced, spaced_tail, escaped, quoted, child_info_text, list_line, ok_line}
use Rattle.listing_rules.proofs.Keys.{open_bytes, open_lists, open_options, open_lines}
use Rattle.listing_rules.specs.Walk.{lines_of}
use Rattle.listing_rules.proofs.Bools.{and_l, and_r, and_i}
use Rattle.listing_rules.proofs.ListLaws.{all_append}
use Rattle.listing_rules.proofs.TokenLaws.{all_escaped}
use Rattle.listing_rules.proofs.LawfulNames.{name_range}

abbrev pub not_lf : ℕ → Bool
not_lf b = not (eqb b 10)

pub line_split : (y t : List ℕ) → all not_lf y ≡ true → lines_of (y ++ (10 ∷ t)) ≡ (y ++ (10 ∷ [])) ∷ lines_of t
unfolding lines_of on_first all
line_split [] t h = refl
line_split (b ∷ y) t h = rw (not-true (eqb b 10) (and_l (not_lf b) (all not_lf y) h), line_split y t (and_r (not_lf b) (all not_lf y) h))

pub name_not_lf : (b : ℕ) → name_byte b ≡ true → not_lf b ≡ true
name_not_lf b h = ap not (ne_eqb b 10 (λ e. omega (arith, (name_range b h).0)))

pub every_chosen : (p : List ℕ → Bool) (bs : List Bool) (ns : List (List ℕ)) → every p ns ≡ true → every p (chosen bs ns) ≡ true
unfolding every chosen
every_chosen p [] ns h = refl
every_chosen p (b ∷ bs) [] h = refl
every_chosen p (true ∷ bs) (n ∷ ns) h = and_i (p n) (every p (chosen bs ns)) (and_l (p n) (every p ns) h) (every_chosen p bs ns (and_r (p n) (every p ns) h))
every_chosen p (false ∷ bs) (n ∷ ns) h = every_chosen p bs ns (and_r (p n) (every p ns) h)

-- texts with one space between two, where each is of bytes that pass and so is the space
module _ (p : ℕ → Bool) (s : p 32 ≡ true) where
  all_spaced_tail : (ns : List (List ℕ)) → every (all p) ns ≡ true → all p (spaced_tail ns) ≡ true
  unfolding every spaced_tail open_bytes
  all_spaced_tail [] h = refl
  all_spaced_tail (n ∷ ns) h =
      and_i (p 32) (all p (n ++ spaced_tail ns)) s
      (all_append p n (spaced_tail ns) (and_l (all p n) (every (all p) ns) h) (all_spaced_tail ns (and_r (all p n) (every (all p) ns) h)))

  pub all_spaced : (ns : List (List ℕ)) → every (all p) ns ≡ true → all p (spaced ns) ≡ true
  unfolding all every spaced
  all_spaced [] h = refl
  all_spaced (n ∷ ns) h = all_append p n (spaced_tail ns) (and_l (all p n) (every (all p) ns) h) (all_spaced_tail ns (and_r (all p n) (every (all p) ns) h))

-- a line before its LF
pub line_body : List Bool → List ℕ → Criteria → List ℕ
line_body bs n c = text "* LIST (" ++ (spaced (chosen bs attribute_names) ++ (text ") \"/\" " ++ (quoted n ++ (child_info_text c ++ (13 ∷ [])))))

pub line_body_lem : (bs : List Bool) (n : List ℕ) (c : Criteria) → list_line bs n c ≡ line_body bs n c ++ (10 ∷ [])
unfolding line_body open_lines open_bytes
line_body_lem bs n c = simp append_assoc

pub body_not_lf : (bs : List Bool) (n : List ℕ) (c : Criteria) → all not_lf n ≡ true → all not_lf (line_body bs n c) ≡ true
unfolding line_body open_lines open_bytes open_lists open_options
body_not_lf bs n c h =
    all_append not_lf (spaced (chosen bs attribute_names)) _ (all_spaced not_lf refl (chosen bs attribute_names) (every_chosen (all not_lf) bs attribute_names refl))
    (all_append not_lf (escaped n ++ (quote ∷ [])) (child_info_text c ++ (13 ∷ [])) (all_append not_lf (escaped n) (quote ∷ []) (all_escaped not_lf refl n h) refl) (child c.subscribed c.special))
  where
    child : (a b : Bool) → all not_lf (child_info_text (record { subscribed = a; special = b }) ++ (13 ∷ [])) ≡ true
    child true true = refl
    child true false = refl
    child false true = refl
    child false false = refl

-- any lines, each with one LF at its end
pub lines_joined : {A : Type 0} (f g : A → List ℕ) → ((a : A) → f a ≡ g a ++ (10 ∷ [])) → (l : List A) (t : List ℕ)
    → every (λ a. all not_lf (g a)) l ≡ true → lines_of (joined (map f l) ++ t) ≡ map f l ++ lines_of t
unfolding joined every
lines_joined f g e [] t h = refl
lines_joined f g e (a ∷ rest) t h =
    ap lines_of (append_assoc (f a) (joined (map f rest)) t ∙ ap (λ (x : List ℕ). x ++ (joined (map f rest) ++ t)) (e a) ∙ append_assoc (g a) (10 ∷ []) (joined (map f rest) ++ t))
    ∙ line_split (g a) (joined (map f rest) ++ t) (and_l (all not_lf (g a)) (every (λ a. all not_lf (g a)) rest) h)
    ∙ ap (λ (x : List (List ℕ)). (g a ++ (10 ∷ [])) ∷ x) (lines_joined f g e rest t (and_r (all not_lf (g a)) (every (λ a. all not_lf (g a)) rest) h))
    ∙ ap (λ (x : List ℕ). x ∷ (map f rest ++ lines_of t)) (sym (e a))

pub ok_lines : lines_of (ok_line (text "w")) ≡ ok_line (text "w") ∷ []
unfolding open_lines open_bytes open_lists lines_of
ok_lines = refl
