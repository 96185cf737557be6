-- "pending is never shortened": a step only puts names after those that are to be asked. Rests on the library alone.
use Rattle.listing_rules.proofs.Prelude.{◌∙◌, ◌≡◌, ap, refl, sym, Bool, cond, false, not, true, List, [], ◌++◌, ◌∷◌, append_assoc, append-nil, ℕ}
use Rattle.listing_rules.proofs.Prelude.{arith, leb, length}
use Rattle.listing_rules.specs.Table.{Table}
use Rattle.listing_rules.specs.Options.{is_none}
use Rattle.listing_rules.specs.LineReader.{Read, line, root, bad, read_line}
use Rattle.listing_rules.specs.Walk.{Lists, Step, stop, go, ◌then◌, lines_of, packed, with_name, fits, taken_in, taken_all, asked}

-- more names stand after those of s
abbrev pub Grows : Lists → Lists → Type 0
Grows s u = (more : List (List ℕ)) × (u.asks ≡ s.asks ++ more)

grows_as : (s u : Lists) → s ≡ u → Grows s u
grows_as s u e = ([], ap (λ (x : Lists). x.asks) (sym e) ∙ sym (append-nil s.asks))

grows_on : (s u v : Lists) → Grows s u → Grows u v → Grows s v
grows_on s u v g h = (g.0 ++ h.0, h.1 ∙ ap (λ (x : List (List ℕ)). x ++ h.0) g.1 ∙ append_assoc s.asks g.0 h.0)

-- a step that went on, taken apart
bind_went : {A B : Type 0} (x : Step A) (f : A → Step B) (v : B) → (x then f) ≡ go v → (a : A) × (x ≡ go a) × (f a ≡ go v)
unfolding ◌then◌
bind_went (stop k) f v e = let y : ◌≡◌ {A = ℕ} 0 1 = cc in absurd (omega arith)
bind_went (go a) f v e = (a, refl, e)

fits_same : (k room : ℕ) (ns xs : List (List ℕ)) → fits k room ns ≡ go xs → xs ≡ ns
unfolding fits
fits_same k room ns xs e = pick (leb (length (packed ns)) room) e
  where
    pick : (o : Bool) → cond o (go ns) (stop k) ≡ go xs → xs ≡ ns
    pick true z = cc
    pick false z = cc

with_more_lem : (o : Bool) (n : List ℕ) (ns : List (List ℕ)) → (more : List (List ℕ)) × (with_name o n ns ≡ ns ++ more)
unfolding with_name
with_more_lem true n ns = (n ∷ [], refl)
with_more_lem false n ns = ([], sym (append-nil ns))

module _ (o found pending : ℕ) where
  line_grows : (s u : Lists) (r : Read) → taken_in o found pending s r ≡ go u → Grows s u
  unfolding taken_in
  line_grows s u (line bs n c) e =
      let w = bind_went _ _ u e in
      let v = bind_went _ _ u w.2 in
      let m = with_more_lem (not (is_none c)) n s.asks in
      let y : record { finds = w.0; asks = v.0 } ≡ u = cc in
      (m.0, ap (λ (x : Lists). x.asks) (sym y) ∙ fits_same 11 pending (with_name (not (is_none c)) n s.asks) v.0 v.1 ∙ m.1)
  line_grows s u root e = let y : s ≡ u = cc in grows_as s u y
  line_grows s u bad e = grows_as s u (cc)

  lines_grow : (ls : List (List ℕ)) (s u : Lists) → taken_all o found pending s ls ≡ go u → Grows s u
  unfolding taken_all
  lines_grow [] s u e = grows_as s u (cc)
  lines_grow (l ∷ ls) s u e =
      let w = bind_went _ _ u e in grows_on s w.0 u (line_grows s w.0 (read_line l) w.1) (lines_grow ls w.0 u w.2)

  pub asked_grows : (table : Table) (scratch : ℕ) (s u : Lists) (reference : List ℕ) → asked table o scratch found pending s reference ≡ go u → Grows s u
  unfolding asked
  asked_grows table scratch s u reference e = let w = bind_went _ _ u e in lines_grow (lines_of w.0) s u w.2
