-- The reader takes exactly the root line and the writer's lines, and reads their parts. Rests on TokenLaws and ListLaws.
use Rattle.listing_rules.proofs.Prelude.{◌∙◌, ◌≡◌, ap, refl, subst, sym, Bool, ◌&&◌, cond, false, true, ◌⊎◌, inl, inr, Option}
use Rattle.listing_rules.proofs.Prelude.{option_none_ne_some, none, some, List, [], ◌++◌, ◌∷◌, append_assoc, suc, ℕ, arith, length}
use Rattle.listing_rules.specs.Bytes.{text, quote, space, crlf, same}
use Rattle.listing_rules.specs.Lists.{every}
use Rattle.listing_rules.specs.Names.{lawful_name}
use Rattle.listing_rules.specs.Tokens.{Got, got, ◌>>=◌, after, with_first}
use Rattle.listing_rules.specs.Options.{Criteria}
use Rattle.listing_rules.specs.Lines.{attribute_names, chosen, spaced_tail, spaced, escaped, quoted, child_info_text, list_line, root_line}
use Rattle.listing_rules.specs.LineReader.{Read, line, root, bad, separated, read_chosen, criteria_sets, read_among, child_info_read, read_parts, or_bad}
use Rattle.listing_rules.specs.LineReader.{read_line}
use Rattle.listing_rules.proofs.Keys.{open_bytes, open_lists, open_names, open_tokens, open_options, open_lines, open_reader}
use Rattle.listing_rules.proofs.Bools.{and_l, and_r}
use Rattle.listing_rules.proofs.ListLaws.{same_true}
use Rattle.listing_rules.proofs.TokenLaws.{bind_some, after_append, after_some, clash, after_clash, unquoted_escaped, unquoted_some}

-- the attributes
abbrev pub tail_text : Bool → List (List ℕ) → List ℕ
tail_text true ns = spaced ns
tail_text false ns = spaced_tail ns

-- n differs from each of ns at some place of both
abbrev pub clashes : List ℕ → List (List ℕ) → Bool
clashes n ns = every (clash n) ns

abbrev pub apart : List (List ℕ) → Bool
apart [] = true
apart (n ∷ ns) = clash n (41 ∷ []) && clashes n ns && apart ns

miss : (first : Bool) (n : List ℕ) (ns : List (List ℕ)) (bs : List Bool) (t : List ℕ) → clash n (41 ∷ []) ≡ true → clashes n ns ≡ true
    → after (separated first n) (tail_text first (chosen bs ns) ++ (41 ∷ t)) ≡ none
unfolding open_bytes open_lists open_lines open_tokens open_reader
miss true n ns [] t c h = after_clash n (41 ∷ []) t c
miss false n ns [] t c h = refl
miss true n [] (b ∷ bs) t c h = after_clash n (41 ∷ []) t c
miss false n [] (b ∷ bs) t c h = refl
miss first n (m ∷ ns) (false ∷ bs) t c h = miss first n ns bs t c (and_r (clash n m) (clashes n ns) h)
miss true n (m ∷ ns) (true ∷ bs) t c h = rw append_assoc (after_clash n m _ (and_l (clash n m) (clashes n ns) h))
miss false n (m ∷ ns) (true ∷ bs) t c h = rw append_assoc (after_clash n m _ (and_l (clash n m) (clashes n ns) h))

pub read_chosen_written : (first : Bool) (ns : List (List ℕ)) (bs : List Bool) (t : List ℕ) → apart ns ≡ true → length bs ≡ length ns
    → read_chosen first ns (tail_text first (chosen bs ns) ++ (41 ∷ t)) ≡ got bs (41 ∷ t)
unfolding open_bytes open_lines open_tokens open_reader
read_chosen_written true [] [] t a e = refl
read_chosen_written false [] [] t a e = refl
read_chosen_written first [] (b ∷ bs) t a e = absurd (omega arith)
read_chosen_written first (n ∷ ns) [] t a e = absurd (omega arith)
read_chosen_written first (n ∷ ns) (false ∷ bs) t a e =
    let c = and_l (clash n (41 ∷ [])) (clashes n ns) (and_l (clash n (41 ∷ []) && clashes n ns) (apart ns) a) in
    let d = and_r (clash n (41 ∷ [])) (clashes n ns) (and_l (clash n (41 ∷ []) && clashes n ns) (apart ns) a) in
    rw (miss first n ns bs t c d, read_chosen) (ap (with_first false) (read_chosen_written first ns bs t (and_r (clash n (41 ∷ []) && clashes n ns) (apart ns) a) (omega arith)))
read_chosen_written true (n ∷ ns) (true ∷ bs) t a e =
    rw (append_assoc n (spaced_tail (chosen bs ns)) (41 ∷ t), after_append n (spaced_tail (chosen bs ns) ++ (41 ∷ t)), read_chosen)
    (ap (with_first true) (read_chosen_written false ns bs t (and_r (clash n (41 ∷ []) && clashes n ns) (apart ns) a) (omega arith)))
read_chosen_written false (n ∷ ns) (true ∷ bs) t a e =
    rw (append_assoc n (spaced_tail (chosen bs ns)) (41 ∷ t), after_append n (spaced_tail (chosen bs ns) ++ (41 ∷ t)), read_chosen)
    (ap (with_first true) (read_chosen_written false ns bs t (and_r (clash n (41 ∷ []) && clashes n ns) (apart ns) a) (omega arith)))

read_parts_written : (bs : List Bool) (n : List ℕ) (c : Criteria) → length bs ≡ 16 → lawful_name n ≡ true → read_parts (list_line bs n c) ≡ some (line bs n c)
unfolding open_bytes open_lists open_lines open_tokens open_options open_reader
read_parts_written bs n c h g =
    rw (
      read_chosen_written true attribute_names bs (text " \"/\" " ++ (quoted n ++ (child_info_text c ++ crlf))) refl h,
      append_assoc (escaped n) (quote ∷ []) (child_info_text c ++ crlf),
      unquoted_escaped n (child_info_text c ++ crlf),
    )
    (tail c.subscribed c.special)
  where
    tail : (a b : Bool)
        → (child_info_read (child_info_text (record { subscribed = a; special = b }) ++ crlf) >>= λ e. cond (lawful_name n) (some (line bs n e)) none)
        ≡ some (line bs n (record { subscribed = a; special = b }))
    tail true true = rw g
    tail true false = rw g
    tail false true = rw g
    tail false false = rw g

-- the reader takes every line of the writer
pub read_line_written : (bs : List Bool) (n : List ℕ) (c : Criteria) → length bs ≡ 16 → lawful_name n ≡ true → read_line (list_line bs n c) ≡ line bs n c
unfolding open_bytes open_names open_lines open_tokens open_options open_reader
read_line_written bs n c h g = go (same (list_line bs n c) root_line) refl
  where
    go : (o : Bool) → same (list_line bs n c) root_line ≡ o → cond o root (or_bad (read_parts (list_line bs n c))) ≡ line bs n c
    go true e =
        let p : read_parts root_line ≡ some (line bs n c) = subst (λ (l : List ℕ). read_parts l ≡ some (line bs n c)) (same_true (list_line bs n c) root_line e) (read_parts_written bs n c h g) in
        let q : read_parts root_line ≡ none = refl in
        cc
    go false e = ap or_bad (read_parts_written bs n c h g)

pub read_line_root : read_line root_line ≡ root
unfolding open_bytes open_lines open_reader
read_line_root = refl

-- and no other. First what each reader tells of the text before its rest
abbrev pub ReadOff : Bool → List (List ℕ) → List ℕ → Got (List Bool) → Type 0
ReadOff first ns t g = (t ≡ tail_text first (chosen g.val ns) ++ g.rest) × (length g.val ≡ length ns)

read_chosen_off : (first : Bool) (ns : List (List ℕ)) (t : List ℕ) → ReadOff first ns t (read_chosen first ns t)
unfolding open_lines open_tokens open_reader
read_chosen_off true [] t = (refl, refl)
read_chosen_off false [] t = (refl, refl)
read_chosen_off first (n ∷ ns) t = go first (after (separated first n) t) refl (read_chosen_off first ns t) (read_chosen_off false ns)
  where
    go : (first : Bool) (o : Option (List ℕ)) → after (separated first n) t ≡ o → ReadOff first ns t (read_chosen first ns t)
        → ((u : List ℕ) → ReadOff false ns u (read_chosen false ns u)) → ReadOff first (n ∷ ns) t (read_chosen first (n ∷ ns) t)
    go first none e ih jh = rw (e, read_chosen) (ih.0, ap suc ih.1)
    go true (some u) e ih jh =
        rw (e, read_chosen) (after_some n t u e ∙ ap (λ (x : List ℕ). n ++ x) (jh u).0 ∙ sym (append_assoc n _ _), ap suc (jh u).1)
    go false (some u) e ih jh =
        rw (e, read_chosen) (after_some (space ∷ n) t u e ∙ ap (λ (x : List ℕ). space ∷ (n ++ x)) (jh u).0 ∙ ap (λ (x : List ℕ). space ∷ x) (sym (append_assoc n _ _)), ap suc (jh u).1)

read_among_some : (cs : List Criteria) (t : List ℕ) (c : Criteria) → read_among cs t ≡ some c → t ≡ child_info_text c ++ crlf
unfolding read_among
read_among_some [] t c k = absurd (option_none_ne_some _ k)
read_among_some (d ∷ cs) t c k = go (same t (child_info_text d ++ crlf)) refl k (read_among_some cs t c)
  where
    go : (o : Bool) → same t (child_info_text d ++ crlf) ≡ o → cond o (some d) (read_among cs t) ≡ some c → (read_among cs t ≡ some c → t ≡ child_info_text c ++ crlf) → t ≡ child_info_text c ++ crlf
    go true e k ih = let v : d ≡ c = cc in subst (λ (x : Criteria). t ≡ child_info_text x ++ crlf) v (same_true t (child_info_text d ++ crlf) e)
    go false e k ih = ih k

child_info_read_some : (t : List ℕ) (c : Criteria) → child_info_read t ≡ some c → t ≡ child_info_text c ++ crlf
unfolding child_info_read
child_info_read_some t c k = read_among_some criteria_sets t c k

-- the parts of a line that the reader takes
pub record Taken (l : List ℕ) (r : Read) : Type 0 where
  pub attrs : List Bool
  pub name : List ℕ
  pub child : Criteria
  pub is : r ≡ line attrs name child
  pub sixteen : length attrs ≡ 16
  pub good : lawful_name name ≡ true
  pub text_is_lem : l ≡ list_line attrs name child

finish : (l t u : List ℕ) (g : Got (List ℕ)) (c : Criteria) (r : Read) → l ≡ text "* LIST (" ++ t
    → (read_chosen true attribute_names t).rest ≡ text ") \"/\" \"" ++ u → u ≡ escaped g.val ++ (quote ∷ g.rest)
    → g.rest ≡ child_info_text c ++ crlf
    → cond (lawful_name g.val) (some (line (read_chosen true attribute_names t).val g.val c)) none ≡ some r → Taken l r
unfolding open_bytes open_lines
finish l t u g c r p₁ p₂ p₃ p₄ k = go (lawful_name g.val) refl k
  where
    bs : List Bool
    bs = (read_chosen true attribute_names t).val

    name_part : u ≡ (escaped g.val ++ (quote ∷ [])) ++ (child_info_text c ++ crlf)
    name_part = rw (append_assoc (escaped g.val) (quote ∷ []) (child_info_text c ++ crlf)) (p₃ ∙ ap (λ (x : List ℕ). escaped g.val ++ (quote ∷ x)) p₄)

    whole : l ≡ list_line bs g.val c
    whole =
        p₁
        ∙ ap (λ (x : List ℕ). text "* LIST (" ++ x)
        ((read_chosen_off true attribute_names t).0 ∙ ap (λ (x : List ℕ). spaced (chosen bs attribute_names) ++ x) (p₂ ∙ ap (λ (x : List ℕ). text ") \"/\" \"" ++ x) name_part))

    go : (o : Bool) → lawful_name g.val ≡ o → cond o (some (line bs g.val c)) none ≡ some r → Taken l r
    go true e j =
        record { attrs = bs; name = g.val; child = c; is = cc; sixteen = (read_chosen_off true attribute_names t).1; good = e; text_is_lem = whole }
    go false e j = absurd (option_none_ne_some _ j)

read_parts_some : (l : List ℕ) (r : Read) → read_parts l ≡ some r → Taken l r
unfolding read_parts
read_parts_some l r k =
    let w₁ = bind_some _ _ r k in
    let w₂ = bind_some _ _ r w₁.2 in
    let w₃ = bind_some _ _ r w₂.2 in
    let w₄ = bind_some _ _ r w₃.2 in
    finish l w₁.0 w₂.0 w₃.0 w₄.0 r
    (after_some _ _ w₁.0 w₁.1)
    (after_some _ _ w₂.0 w₂.1)
    (unquoted_some _ _ _ w₃.1)
    (child_info_read_some _ _ w₄.1)
    w₄.2

-- what the reader takes is the root line, or the writer's line of the parts that it reads
pub read_line_only : (l : List ℕ) → (read_line l ≡ bad) ⊎ ((l ≡ root_line) × (read_line l ≡ root)) ⊎ Taken l (read_line l)
unfolding or_bad read_line
read_line_only l = go (same l root_line) refl (read_parts l) refl
  where
    go : (o : Bool) → same l root_line ≡ o → (q : Option Read) → read_parts l ≡ q → (cond o root (or_bad q) ≡ bad) ⊎ ((l ≡ root_line) × (cond o root (or_bad q) ≡ root)) ⊎ Taken l (cond o root (or_bad q))
    go true e q f = inr (inl (same_true l root_line e, refl))
    go false e none f = inl refl
    go false e (some r) f = inr (inr (read_parts_some l r f))
