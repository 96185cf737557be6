-- The beginnings that the server looks at ascend, and every non-empty beginning of a row's name is among them.
use Rattle.listing_rules.proofs.Prelude.{◌∙◌, ◌≡◌, ap, refl, subst, sym, Bool, cond, false, true, ◌⊎◌, inl, inr, ⊎_elim, List, list_mem}
use Rattle.listing_rules.proofs.Prelude.{list_mem_append_cases, list_mem_cases_cons, list_mem_head, list_mem_not_nil, list_mem_tail, [], ◌++◌}
use Rattle.listing_rules.proofs.Prelude.{◌∷◌, append_assoc, append-nil, nil≢cons, ordering_gt, ordering_lt, ◌<◌, ◌≤◌, compare, suc, ℕ, dec_le}
use Rattle.listing_rules.proofs.Prelude.{arith, eqb, drop, get_or, length, take, take-append-drop, drop-append-le, drop-cons, split_at, take-append-le}
use Rattle.listing_rules.proofs.Prelude.{eqb-false, eqb-true}
use Rattle.listing_rules.specs.Orders.{lex_by, byte_order, then_by, ascends}
use Rattle.listing_rules.specs.Table.{Row, names}
use Rattle.listing_rules.proofs.Order.{bytes_total, eq_compare, View, view, less, equal, more}
use Rattle.listing_rules.proofs.Sorted.{Above, Asc, above_all, asc_append, ascends_asc}
use Rattle.listing_rules.proofs.ListLaws.{map_mem}
use Rattle.mailbox_table.specs.Shared.{shared_len}
use Rattle.list_answer.specs.Prefixes.{growing, longer, prefixes_after, prefixes}

-- p < q by bytes
abbrev pub Less : List ℕ → List ℕ → Type 0
Less p q = byte_order p q ≡ ordering_lt

-- members of two lists, one after the other
mem_left : {A : Type 0} {x : A} {l : List A} (m : List A) → list_mem x l → list_mem x (l ++ m)
mem_left m (list_mem_head e) = list_mem_head e
mem_left m (list_mem_tail k) = list_mem_tail (mem_left m k)

pub mem_right : {A : Type 0} {x : A} (l : List A) {m : List A} → list_mem x m → list_mem x (l ++ m)
mem_right [] k = k
mem_right (y ∷ l) k = list_mem_tail (mem_right l k)

-- A beginning comes before what it begins

pub prefix_less : (p q : List ℕ) (b : ℕ) → Less p (p ++ (b ∷ q))
unfolding byte_order lex_by then_by
prefix_less [] q b = refl
prefix_less (x ∷ p) q b = rw (eq_compare x) (prefix_less p q b)

-- The beginnings beyond a place

-- each is what was done and one byte more at least
growing_mem : (done rest p : List ℕ) → list_mem p (growing done rest) → (b : ℕ) × (q : List ℕ) × (r : List ℕ) × (p ≡ done ++ (b ∷ q)) × (rest ≡ b ∷ (q ++ r))
unfolding growing
growing_mem done [] p m = absurd (list_mem_not_nil m)
growing_mem done (b ∷ rest) p m = go (list_mem_cases_cons m) (λ k. growing_mem (done ++ (b ∷ [])) rest p k)
  where
    go : (p ≡ done ++ (b ∷ [])) ⊎ list_mem p (growing (done ++ (b ∷ [])) rest) →
        (list_mem p (growing (done ++ (b ∷ [])) rest) →
        (c : ℕ) × (q : List ℕ) × (r : List ℕ) × (p ≡ (done ++ (b ∷ [])) ++ (c ∷ q)) × (rest ≡ c ∷ (q ++ r))) →
        (c : ℕ) × (q : List ℕ) × (r : List ℕ) × (p ≡ done ++ (c ∷ q)) × (Path (List ℕ) (b ∷ rest) (c ∷ (q ++ r)))
    go (inl e) ih = (b, [], rest, e, refl)
    go (inr k) ih =
        let w = ih k in
        (b, w.0 ∷ w.1, w.2, w.3 ∙ append_assoc done (b ∷ []) (w.0 ∷ w.1), ap (λ (l : List ℕ). b ∷ l) w.4)

mem_growing : (done q r : List ℕ) (b : ℕ) → list_mem (done ++ (b ∷ q)) (growing done (b ∷ (q ++ r)))
unfolding growing
mem_growing done [] r b = list_mem_head refl
mem_growing done (c ∷ q) r b =
    list_mem_tail (subst (λ (p : List ℕ). list_mem p (growing (done ++ (b ∷ [])) (c ∷ (q ++ r)))) (append_assoc done (b ∷ []) (c ∷ q)) (mem_growing (done ++ (b ∷ [])) q r c))

growing_asc : (done rest : List ℕ) → Asc byte_order (growing done rest)
unfolding growing
growing_asc done [] = tt
growing_asc done (b ∷ rest) = (
  above_all byte_order (done ++ (b ∷ [])) (growing (done ++ (b ∷ [])) rest)
      (λ z m. let w = growing_mem (done ++ (b ∷ [])) rest z m in rw w.3 (prefix_less (done ++ (b ∷ [])) w.1 w.0)),
  growing_asc (done ++ (b ∷ [])) rest,
)

-- What a name shares with the one before

-- a beginning beyond what is shared comes after the name before
shared_less : (a n : List ℕ) → Less a n → (b : ℕ) (q r : List ℕ) → drop (shared_len a n) n ≡ b ∷ (q ++ r) → Less a (take (shared_len a n) n ++ (b ∷ q))
unfolding shared_len byte_order lex_by then_by
shared_less [] n h b q r e = refl
shared_less (x ∷ a) [] h b q r e = cc
shared_less (x ∷ a) (y ∷ n) h b q r e = go (eqb x y) refl e (view x y) h (λ k. shared_less a n k b q r)
  where
    -- the bytes are the same, and what follows decides
    go : (o : Bool) → eqb x y ≡ o → drop {A = ℕ} (cond o (suc (shared_len a n)) 0) (y ∷ n) ≡ b ∷ (q ++ r) → View x y →
        then_by (compare x y) (lex_by compare a n) ≡ ordering_lt →
        (Less a n → drop (shared_len a n) n ≡ b ∷ (q ++ r) → Less a (take (shared_len a n) n ++ (b ∷ q))) →
        Less (x ∷ a) (take {A = ℕ} (cond o (suc (shared_len a n)) 0) (y ∷ n) ++ (b ∷ q))
    go true f e (less c l) h ih = rw c
    go true f e (equal c l) h ih = rw c (ih (rw c at h) e)
    go true f e (more c l) h ih = absurd (omega (arith, eqb-true x y f))
    go false f e (less c l) h ih = let w : y ≡ b = cc in rw (← w, c)
    go false f e (equal c l) h ih = absurd (eqb-false x y f l)
    go false f e (more c l) h ih = let z : ordering_gt ≡ ordering_lt = rw c at h in cc

-- a beginning that lies within what is shared begins the name before too
shared_begins : (a p s : List ℕ) → length p ≤ shared_len a (p ++ s) → (t : List ℕ) × (a ≡ p ++ t)
unfolding shared_len
shared_begins a [] s h = (a, refl)
shared_begins [] (b ∷ p) s h = absurd (omega arith)
shared_begins (x ∷ a) (b ∷ p) s h = go (eqb x b) refl h (λ k. shared_begins a p s k)
  where
    go : (o : Bool) → eqb x b ≡ o → suc (length p) ≤ cond o (suc (shared_len a (p ++ s))) 0 →
        (length p ≤ shared_len a (p ++ s) → (t : List ℕ) × (a ≡ p ++ t)) → (t : List ℕ) × (Path (List ℕ) (x ∷ a) (b ∷ (p ++ t)))
    go true f h ih = let w = ih (omega arith) in let e : x ≡ b = eqb-true x b f in let g : a ≡ p ++ w.0 = w.1 in (w.0, cc)
    go false f h ih = absurd (omega arith)

-- a beginning longer than k bytes is among those beyond k
pub longer_has : (k : ℕ) (p s : List ℕ) → k < length p → list_mem p (longer k (p ++ s))
unfolding longer
longer_has k p s h =
    subst (λ (x : List ℕ). list_mem x (growing (take k (p ++ s)) (drop k (p ++ s)))) (sym (split_at p k 0 h))
    (rw (take-append-le k p s (omega arith), drop-append-le k p s (omega arith), drop-cons p k 0 h) (mem_growing (take k p) (drop (suc k) p) s (get_or p k 0)))

-- every non-empty beginning of a row's name is looked at, or begins the name before the first row
prefixes_after_lem : (prev : List ℕ) (rs : List Row) (r : Row) (b : ℕ) (p s : List ℕ) → list_mem r rs → r.name ≡ (b ∷ p) ++ s →
    list_mem (b ∷ p) (prefixes_after prev rs) ⊎ ((t : List ℕ) × (prev ≡ (b ∷ p) ++ t))
unfolding prefixes_after
prefixes_after_lem prev [] r b p s m e = absurd (list_mem_not_nil m)
prefixes_after_lem prev (q ∷ rs) r b p s m e = ⊎_elim (λ i. here s (ap (λ (x : Row). x.name) (sym i) ∙ e)) (λ k. later (prefixes_after_lem q.name rs r b p s k e)) (list_mem_cases_cons m)
  where
    Found : Type 0
    Found = list_mem (b ∷ p) (longer (shared_len prev q.name) q.name ++ prefixes_after q.name rs) ⊎ ((t : List ℕ) × (prev ≡ (b ∷ p) ++ t))

    here : (u : List ℕ) → q.name ≡ (b ∷ p) ++ u → Found
    here u f =
        elim (dec_le (length (b ∷ p)) (shared_len prev q.name)) [
          | yes h ↦ inr (shared_begins prev (b ∷ p) u (subst (λ (n : List ℕ). length (b ∷ p) ≤ shared_len prev n) f h))
          | no h ↦ inl (mem_left (prefixes_after q.name rs)
              (subst (λ (n : List ℕ). list_mem (b ∷ p) (longer (shared_len prev q.name) n)) (sym f)
              (longer_has (shared_len prev q.name) (b ∷ p) u (omega arith))))
        ]

    later : list_mem (b ∷ p) (prefixes_after q.name rs) ⊎ ((t : List ℕ) × (q.name ≡ (b ∷ p) ++ t)) → Found
    later (inl k) = inl (mem_right (longer (shared_len prev q.name) q.name) k)
    later (inr w) = here w.0 w.1

pub prefixes_have : (rs : List Row) (r : Row) (b : ℕ) (p s : List ℕ) → list_mem r rs → r.name ≡ (b ∷ p) ++ s → list_mem (b ∷ p) (prefixes rs)
unfolding prefixes
prefixes_have rs r b p s m e = ⊎_elim (λ k. k) (λ w. absurd (nil≢cons w.1)) (prefixes_after_lem [] rs r b p s m e)

-- a beginning of a name, longer than what the name shares with the one before, lies between the two
pub longer_between : (prev n p : List ℕ) → Less prev n → list_mem p (longer (shared_len prev n) n) → Less prev p × ((p ≡ n) ⊎ Less p n)
unfolding longer
longer_between prev n p h m = (rw w.3 (shared_less prev n h w.0 w.1 w.2 w.4), upper w.2 w.4)
  where
    k : ℕ
    k = shared_len prev n

    w : (b : ℕ) × (q : List ℕ) × (r : List ℕ) × (p ≡ take k n ++ (b ∷ q)) × (drop k n ≡ b ∷ (q ++ r))
    w = growing_mem (take k n) (drop k n) p m

    whole : (r : List ℕ) → drop k n ≡ w.0 ∷ (w.1 ++ r) → n ≡ p ++ r
    whole r e = sym (take-append-drop k n) ∙ ap (λ (x : List ℕ). take k n ++ x) e ∙ sym (append_assoc (take k n) (w.0 ∷ w.1) r) ∙ ap (λ (x : List ℕ). x ++ r) (sym w.3)

    upper : (r : List ℕ) → drop k n ≡ w.0 ∷ (w.1 ++ r) → (p ≡ n) ⊎ Less p n
    upper [] e = inl (sym (append-nil p) ∙ sym (whole [] e))
    upper (c ∷ r) e = inr (rw (whole (c ∷ r) e) (prefix_less p r c))

-- the beginnings of one row, before those of the rows after it
row_above : (prev n : List ℕ) (there : List (List ℕ)) → Less prev n → Asc byte_order there × ((z : List ℕ) → list_mem z there → Less n z) →
    Asc byte_order (longer (shared_len prev n) n ++ there) × ((z : List ℕ) → list_mem z (longer (shared_len prev n) n ++ there) → Less prev z)
row_above prev n there h ih = (
  asc_append byte_order here there (unfold longer in growing_asc (take k n) (drop k n)) ih.0 across,
  λ z m. ⊎_elim (first z) (λ u. bytes_total.trans prev n z h (ih.1 z u)) (list_mem_append_cases here m),
)
  where
    k : ℕ
    k = shared_len prev n

    here : List (List ℕ)
    here = longer k n

    first : (z : List ℕ) → list_mem z here → Less prev z
    first z m = (longer_between prev n z h m).0

    across : (x y : List ℕ) → list_mem x here → list_mem y there → Less x y
    across x y m u = ⊎_elim (λ e. rw e (ih.1 y u)) (λ l. bytes_total.trans x n y l (ih.1 y u)) (longer_between prev n x h m).1

-- all beginnings to look at lie after the name before, and ascend
prefixes_above : (prev : List ℕ) (rs : List Row) → Above byte_order prev (names rs) → Asc byte_order (names rs) →
    Asc byte_order (prefixes_after prev rs) × ((z : List ℕ) → list_mem z (prefixes_after prev rs) → Less prev z)
unfolding prefixes_after names
prefixes_above prev [] a s = (tt, λ z m. absurd (list_mem_not_nil m))
prefixes_above prev (r ∷ rs) a s = row_above prev r.name (prefixes_after r.name rs) a.0 (prefixes_above r.name rs s.0 s.1)

-- every name has a byte
abbrev pub AllFull : List Row → Type 0
AllFull rs = (r : Row) → list_mem r rs → 1 ≤ length r.name

nil_less : (n : List ℕ) → 1 ≤ length n → Less [] n
unfolding byte_order lex_by
nil_less [] h = absurd (omega arith)
nil_less (b ∷ n) h = refl

pub prefixes_asc : (rs : List Row) → ascends (names rs) ≡ true → AllFull rs → Asc byte_order (prefixes rs)
unfolding prefixes names
prefixes_asc rs a f =
    (prefixes_above [] rs
    (above_all byte_order [] (names rs) (λ z m. let w = map_mem (λ (r : Row). r.name) z rs m in rw w.2 (nil_less w.0.name (f w.0 w.1))))
    (ascends_asc (names rs) a)
    ).0
