-- The tokens of a line: what each reader takes and leaves, and that a quoted name is read back as it was. Rests on Bools.
use Rattle.listing_rules.proofs.Prelude.{◌∙◌, ◌≡◌, ap, refl, subst, Bool, ◌&&◌, ◌||◌, cond, false, false≢true, not, true, Option}
use Rattle.listing_rules.proofs.Prelude.{option_none_ne_some, none, some, List, [], ◌++◌, ◌∷◌, ◌*◌, ◌<◌, ◌≤◌, suc, ℕ, arith, eqb, leb, drop}
use Rattle.listing_rules.proofs.Prelude.{length, length-append, length-drop, take, eq-eqb, eqb-true}
use Rattle.listing_rules.specs.Bytes.{text, crlf, quote, backslash, all, is_empty}
use Rattle.listing_rules.specs.Tokens.{Got, got, ◌>>=◌, after, with_first, run, unless_empty, run₁, atom_byte, astring_byte, pattern_byte, atom}
use Rattle.listing_rules.specs.Tokens.{unquoted, line_byte, quoted_text, digit_byte, decimal, number, literal, string_or, astring, pattern}
use Rattle.listing_rules.specs.Lines.{escaped}
use Rattle.listing_rules.proofs.Keys.{open_bytes, open_tokens, open_lines}
use Rattle.listing_rules.proofs.Bools.{and_l, and_r, and_i}

-- readers one after the other
pub bind_some : {A B : Type 0} (x : Option A) (f : A → Option B) (y : B) → (x >>= f) ≡ some y → (a : A) × (x ≡ some a) × (f a ≡ some y)
unfolding ◌>>=◌
bind_some none f y e = absurd (option_none_ne_some _ e)
bind_some (some a) f y e = (a, refl, e)

pub bind_cong : {A B : Type 0} (x : Option A) (f g : A → Option B) → ((a : A) → x ≡ some a → f a ≡ g a) → (x >>= f) ≡ (x >>= g)
unfolding ◌>>=◌
bind_cong none f g h = refl
bind_cong (some a) f g h = h a refl

-- a given text
pub after_append : (p t : List ℕ) → after p (p ++ t) ≡ some t
unfolding after
after_append [] t = refl
after_append (x ∷ p) t = rw (eq-eqb x x refl) (after_append p t)

pub after_some : (p t u : List ℕ) → after p t ≡ some u → t ≡ p ++ u
unfolding after
after_some [] t u e = cc
after_some (x ∷ p) [] u e = cc
after_some (x ∷ p) (y ∷ t) u e = go (eqb x y) refl e (after_some p t u)
  where
    go : (o : Bool) → eqb x y ≡ o → cond o (after p t) none ≡ some u → (after p t ≡ some u → t ≡ p ++ u) → Path (List ℕ) (y ∷ t) (x ∷ (p ++ u))
    go true h k ih = let a : x ≡ y = eqb-true x y h in let b : t ≡ p ++ u = ih k in cc
    go false h k ih = cc

pub after_shorter : (c : ℕ) (t u : List ℕ) → after (c ∷ []) t ≡ some u → length t ≡ suc (length u)
after_shorter c t u e = ap length (after_some (c ∷ []) t u e)

-- two texts that differ at some place of both
abbrev pub clash : List ℕ → List ℕ → Bool
clash [] ys = false
clash (x ∷ xs) [] = false
clash (x ∷ xs) (y ∷ ys) = not (eqb x y) || clash xs ys

pub after_clash : (p q t : List ℕ) → clash p q ≡ true → after p (q ++ t) ≡ none
unfolding after
after_clash [] q t e = absurd (false≢true e)
after_clash (x ∷ p) [] t e = absurd (false≢true e)
after_clash (x ∷ p) (y ∷ q) t e = go (eqb x y) e (after_clash p q t)
  where
    go : (o : Bool) → (not o || clash p q) ≡ true → (clash p q ≡ true → after p (q ++ t) ≡ none) → cond o (after p (q ++ t)) none ≡ none
    go true k ih = ih k
    go false k ih = refl

-- runs of bytes
pub run_split : (p : ℕ → Bool) (t : List ℕ) → t ≡ (run p t).val ++ (run p t).rest
unfolding run got with_first
run_split p [] = refl
run_split p (b ∷ t) = go (p b) (run_split p t)
  where
    go : (o : Bool) → t ≡ (run p t).val ++ (run p t).rest → Path (List ℕ) (b ∷ t) ((cond o (with_first b (run p t)) (got [] (b ∷ t))).val ++ (cond o (with_first b (run p t)) (got [] (b ∷ t))).rest)
    go true ih = ap (λ (x : List ℕ). b ∷ x) ih
    go false ih = refl

pub run₁_split : (p : ℕ → Bool) (t : List ℕ) (g : Got (List ℕ)) → run₁ p t ≡ some g → t ≡ g.val ++ g.rest
unfolding run₁ unless_empty
run₁_split p t g k = go (is_empty (run p t).val) k
  where
    go : (o : Bool) → cond o none (some (run p t)) ≡ some g → t ≡ g.val ++ g.rest
    go true f = absurd (option_none_ne_some _ f)
    go false f = let e : run p t ≡ g = cc in subst (λ (h : Got (List ℕ)). t ≡ h.val ++ h.rest) e (run_split p t)

run₁_shorter : (p : ℕ → Bool) (t : List ℕ) (g : Got (List ℕ)) → run₁ p t ≡ some g → length g.rest < length t
unfolding run₁ unless_empty is_empty
run₁_shorter p t g k = go (run p t) k (run_split p t)
  where
    nonempty : (v r : List ℕ) → cond (is_empty v) none (some (record { val = v; rest = r })) ≡ some g → t ≡ v ++ r → length g.rest < length t
    nonempty [] r k e = absurd (option_none_ne_some _ k)
    nonempty (x ∷ v) r k e =
        let same : r ≡ g.rest = ap (λ (o : Option (Got (List ℕ))). rest_or r o) k in
        omega (arith, ap length e, length-append (x ∷ v) r, ap length same)
      where
        rest_or : List ℕ → Option (Got (List ℕ)) → List ℕ
        rest_or d none = d
        rest_or d (some h) = h.rest

    go : (h : Got (List ℕ)) → cond (is_empty h.val) none (some h) ≡ some g → t ≡ h.val ++ h.rest → length g.rest < length t
    go h k e = nonempty h.val h.rest k e

-- a run ends at the first byte that does not pass
pub run_ends : (p : ℕ → Bool) (u : List ℕ) (c : ℕ) (t : List ℕ) → all p u ≡ true → p c ≡ false → run p (u ++ (c ∷ t)) ≡ got u (c ∷ t)
unfolding run all with_first got
run_ends p [] c t h e = rw e
run_ends p (b ∷ u) c t h e = rw (and_l (p b) (all p u) h, run_ends p u c t (and_r (p b) (all p u) h) e)

pub run₁_ends : (p : ℕ → Bool) (u : List ℕ) (c : ℕ) (t : List ℕ) → is_empty u ≡ false → all p u ≡ true → p c ≡ false
    → run₁ p (u ++ (c ∷ t)) ≡ some (got u (c ∷ t))
unfolding run₁ unless_empty got
run₁_ends p u c t n h e = rw (run_ends p u c t h e, n)

pub atom_shorter : (t : List ℕ) (g : Got (List ℕ)) → atom t ≡ some g → length g.rest < length t
unfolding atom
atom_shorter t g k = run₁_shorter atom_byte t g k

-- quoted strings
pub length_escaped : (n : List ℕ) → length (escaped n) ≤ 2 * length n
unfolding escaped
length_escaped [] = omega arith
length_escaped (b ∷ n) = go (eqb b quote || eqb b backslash) (length_escaped n)
  where
    go : (o : Bool) → length (escaped n) ≤ 2 * length n → length (cond o (backslash ∷ b ∷ escaped n) (b ∷ escaped n)) ≤ 2 * suc (length n)
    go true h = omega arith
    go false h = omega arith

pub all_escaped : (p : ℕ → Bool) → p backslash ≡ true → (n : List ℕ) → all p n ≡ true → all p (escaped n) ≡ true
unfolding all escaped
all_escaped p s [] h = refl
all_escaped p s (b ∷ n) h = go (eqb b quote || eqb b backslash) (all_escaped p s n (and_r (p b) (all p n) h))
  where
    go : (o : Bool) → all p (escaped n) ≡ true → all p (cond o (backslash ∷ b ∷ escaped n) (b ∷ escaped n)) ≡ true
    go true ih = and_i (p backslash) (p b && all p (escaped n)) s (and_i (p b) (all p (escaped n)) (and_l (p b) (all p n) h) ih)
    go false ih = and_i (p b) (all p (escaped n)) (and_l (p b) (all p n) h) ih

pub unquoted_escaped : (n t : List ℕ) → unquoted false (escaped n ++ (quote ∷ t)) ≡ some (got n t)
unfolding open_bytes open_tokens open_lines
unquoted_escaped [] t = refl
unquoted_escaped (b ∷ n) t = go (eqb b quote) (eqb b backslash) refl refl (unquoted_escaped n t)
  where
    go : (o p : Bool) → eqb b quote ≡ o → eqb b backslash ≡ p → unquoted false (escaped n ++ (quote ∷ t)) ≡ some (got n t)
        → unquoted false (cond (o || p) (backslash ∷ b ∷ escaped n) (b ∷ escaped n) ++ (quote ∷ t)) ≡ some (got (b ∷ n) t)
    go true p e f ih = simp (e, ih)
    go false true e f ih = simp (e, f, ih)
    go false false e f ih = simp (e, f, ih)

-- what stands before the rest: behind a backslash, and not
abbrev pub Unq : Bool → List ℕ → Got (List ℕ) → Type 0
Unq false t g = t ≡ escaped g.val ++ (quote ∷ g.rest)
Unq true t g = Path (List ℕ) (backslash ∷ t) (escaped g.val ++ (quote ∷ g.rest))

pub unquoted_some : (e : Bool) (t : List ℕ) (g : Got (List ℕ)) → unquoted e t ≡ some g → Unq e t g
unfolding escaped got unquoted with_first
unquoted_some e [] g k = absurd (option_none_ne_some _ k)
unquoted_some true (b ∷ t) g k = go (eqb b quote || eqb b backslash) refl k (unquoted_some false t)
  where
    go : (o : Bool) → (eqb b quote || eqb b backslash) ≡ o → cond o (unquoted false t >>= λ g. some (with_first b g)) none ≡ some g
        → ((g : Got (List ℕ)) → unquoted false t ≡ some g → Unq false t g) → Unq true (b ∷ t) g
    go false f k ih = absurd (option_none_ne_some _ k)
    go true f k ih =
        let w = bind_some (unquoted false t) (λ g. some (with_first b g)) g k in
        let u : t ≡ escaped w.0.val ++ (quote ∷ w.0.rest) = ih w.0 w.1 in
        let v : with_first b w.0 ≡ g = cc in
        subst (λ (x : Got (List ℕ)). Unq true (b ∷ t) x) v (rw f (ap (λ (x : List ℕ). backslash ∷ b ∷ x) u))
unquoted_some false (b ∷ t) g k = go (eqb b backslash) (eqb b quote) refl refl k (unquoted_some true t) (unquoted_some false t)
  where
    go : (o p : Bool) → eqb b backslash ≡ o → eqb b quote ≡ p
        → cond o (unquoted true t) (cond p (some (got [] t)) (unquoted false t >>= λ g. some (with_first b g))) ≡ some g
        → ((g : Got (List ℕ)) → unquoted true t ≡ some g → Unq true t g) → ((g : Got (List ℕ)) → unquoted false t ≡ some g → Unq false t g)
        → Unq false (b ∷ t) g
    go true p e f k ih jh = rw (eqb-true b backslash e) (ih g k)
    go false true e f k ih jh =
        let v : got [] t ≡ g = cc in
        subst (λ (x : Got (List ℕ)). Unq false (b ∷ t) x) v (rw (eqb-true b quote f))
    go false false e f k ih jh =
        let w = bind_some (unquoted false t) (λ g. some (with_first b g)) g k in
        let u : t ≡ escaped w.0.val ++ (quote ∷ w.0.rest) = jh w.0 w.1 in
        let v : with_first b w.0 ≡ g = cc in
        subst (λ (x : Got (List ℕ)). Unq false (b ∷ t) x) v (rw (e, f) (ap (λ (x : List ℕ). b ∷ x) u))

unquoted_shorter : (t : List ℕ) (g : Got (List ℕ)) → unquoted false t ≡ some g → length g.rest < length t
unquoted_shorter t g k = omega (arith, ap length (unquoted_some false t g k), length-append (escaped g.val) (quote ∷ g.rest))

-- a quoted string of a line
quoted_text_some : (t : List ℕ) (g : Got (List ℕ)) → quoted_text t ≡ some g → unquoted false t ≡ some g
unfolding quoted_text
quoted_text_some t g k =
    let w = bind_some (unquoted false t) (λ h. cond (all line_byte h.val) (some h) none) g k in
    w.1 ∙ go (all line_byte w.0.val) w.2
  where
    go : {h : Got (List ℕ)} (o : Bool) → cond o (some h) none ≡ some g → some h ≡ some g
    go true e = e
    go false e = absurd (option_none_ne_some _ e)

pub quoted_text_escaped : (n t : List ℕ) → all line_byte n ≡ true → quoted_text (escaped n ++ (quote ∷ t)) ≡ some (got n t)
unfolding quoted_text got ◌>>=◌
quoted_text_escaped n t h = rw (unquoted_escaped n t, h)

-- a number
number_shorter : (t : List ℕ) (g : Got ℕ) → number t ≡ some g → length g.rest < length t
unfolding number got
number_shorter t g k =
    let w = bind_some (run₁ digit_byte t) (λ h. some (got (decimal 0 h.val) h.rest)) g k in
    let e : got (decimal 0 w.0.val) w.0.rest ≡ g = cc in
    omega (arith, run₁_shorter digit_byte t w.0 w.1, ap (λ (x : Got ℕ). length x.rest) e)

-- a literal
literal_shorter : (t : List ℕ) (g : Got (List ℕ)) → literal t ≡ some g → length g.rest < length t
unfolding literal got
literal_shorter t g k =
    let w = bind_some (number t) (λ n. after (text "}" ++ crlf) n.rest >>= behind_header n.val) g k in
    let v = bind_some (after (text "}" ++ crlf) w.0.rest) (behind_header w.0.val) g w.2 in
    omega (arith, number_shorter t w.0 w.1, ap length (after_some (text "}" ++ crlf) w.0.rest v.0 v.1), length-append (text "}" ++ crlf) v.0, left w.0.val v.0 v.2)
  where
    behind_header : ℕ → List ℕ → Option (Got (List ℕ))
    behind_header n u = cond (leb n 1024 && leb n (length u)) (some (got (take n u) (drop n u))) none

    left : (n : ℕ) (u : List ℕ) → behind_header n u ≡ some g → length g.rest ≤ length u
    left n u e = go (leb n 1024 && leb n (length u)) e
      where
        go : (o : Bool) → cond o (some (got (take n u) (drop n u))) none ≡ some g → length g.rest ≤ length u
        go true f = let h : got (take n u) (drop n u) ≡ g = cc in omega (arith, length-drop n u, ap (λ (x : Got (List ℕ)). length x.rest) h)
        go false f = absurd (option_none_ne_some _ f)

-- a quoted string, a literal, or a run
string_or_shorter : (p : ℕ → Bool) (t : List ℕ) (g : Got (List ℕ)) → string_or p t ≡ some g → length g.rest < length t
unfolding string_or
string_or_shorter p [] g k = absurd (option_none_ne_some _ k)
string_or_shorter p (b ∷ t) g k = go (eqb b quote) (eqb b 123) k
  where
    go : (o q : Bool) → cond o (quoted_text t) (cond q (literal t) (run₁ p (b ∷ t))) ≡ some g → length g.rest < suc (length t)
    go true q k = omega (arith, unquoted_shorter t g (quoted_text_some t g k))
    go false true k = omega (arith, literal_shorter t g k)
    go false false k = run₁_shorter p (b ∷ t) g k

pub astring_shorter : (t : List ℕ) (g : Got (List ℕ)) → astring t ≡ some g → length g.rest < length t
unfolding astring
astring_shorter t g k = string_or_shorter astring_byte t g k

pub pattern_shorter : (t : List ℕ) (g : Got (List ℕ)) → pattern t ≡ some g → length g.rest < length t
unfolding pattern
pattern_shorter t g k = string_or_shorter pattern_byte t g k
