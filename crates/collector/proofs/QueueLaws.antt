-- The pending names as they lie in the buffer: the next one to be asked. Rests on PackLaws.
use Rattle.listing_rules.proofs.Prelude.{◌∙◌, ◌≡◌, ap, refl, sym, List, [], ◌++◌, ◌∷◌, append_assoc, ◌+◌, ◌-◌, ◌<◌, ◌≤◌, suc, ℕ, arith, drop, get_or}
use Rattle.listing_rules.proofs.Prelude.{length, length-append, replicate, take, take-append-drop, drop-append-add, get_or_at, length-take-le}
use Rattle.listing_rules.proofs.Prelude.{take-append-add, take_at}
use Rattle.listing_rules.specs.Lists.{joined}
use Rattle.listing_rules.specs.Walk.{packed, zero_behind}
use Rattle.listing_rules.proofs.Asked.{packed_append}
use Rattle.collector.specs.Names.{Packs}
use Rattle.collector.proofs.PackLaws.{packed_none, packed_more}

packed_cons : (n : List ℕ) (ns : List (List ℕ)) → packed (n ∷ ns) ≡ length n ∷ (n ++ packed ns)
unfolding packed joined
packed_cons n ns = refl

-- a name takes a byte at least
pub packed_longer : (ns : List (List ℕ)) → length ns ≤ length (packed ns)
packed_longer [] = omega arith
packed_longer (n ∷ ns) = rw (packed_cons n ns) (omega (arith, packed_longer ns, length-append n (packed ns)))

packed_split : (k : ℕ) (ns : List (List ℕ)) → packed ns ≡ packed (take k ns) ++ packed (drop k ns)
packed_split k ns = sym (ap packed (take-append-drop k ns)) ∙ packed_append (take k ns) (drop k ns)

-- the name at a place of the buffer
pub record NextName (b : List ℕ) (len done : ℕ) (ns : List (List ℕ)) (at : ℕ) : Type 0 where
  pub name : List ℕ
  pub others : List (List ℕ)
  pub queue : drop done ns ≡ name ∷ others
  pub size : get_or b at 0 ≡ length name
  pub inside : at + 1 + length name ≤ len
  pub bytes : take (length name) (drop (at + 1) b) ≡ name
  pub place : at + 1 + length name ≡ length (packed (take (suc done) ns))
  pub more : suc done ≤ length ns

module _ {b : List ℕ} {len : ℕ} {ns : List (List ℕ)} (p : Packs b len ns) {done at : ℕ} (h : done ≤ length ns) (e : at ≡ length (packed (take done ns))) where
  -- the bytes from the place on
  left : (x : List (List ℕ)) → drop done ns ≡ x → len ≡ at + length (packed x)
  left x w =
      omega
      (arith, p.counted, ap length (packed_split done ns), length-append (packed (take done ns)) (packed (drop done ns)), ap (λ (y : List (List ℕ)). length (packed y)) w)

  -- none is left
  pub queue_end : len ≤ at → drop done ns ≡ []
  queue_end l = pick (drop done ns) refl
    where
      pick : (x : List (List ℕ)) → drop done ns ≡ x → x ≡ []
      pick [] w = refl
      pick (n ∷ others) w = absurd (omega (arith, left (n ∷ others) w, ap length (packed_cons n others)))

  -- one is left
  module _ (n : List ℕ) (others : List (List ℕ)) (w : drop done ns ≡ n ∷ others) where
    others_on : List ℕ
    others_on = packed others ++ replicate (length b - length (packed ns)) 0

    whole : b ≡ packed (take done ns) ++ (length n ∷ (n ++ others_on))
    unfolding zero_behind others_on
    whole =
        p.bytes ∙ ap (λ (x : List ℕ). x ++ replicate (length b - length (packed ns)) 0)
        (packed_split done ns ∙ ap (λ (y : List (List ℕ)). packed (take done ns) ++ packed y) w ∙ ap (λ (x : List ℕ). packed (take done ns) ++ x)
        (packed_cons n others)) ∙ simp append_assoc

    from_next : drop (at + 1) b ≡ n ++ others_on
    from_next =
        ap (drop (at + 1)) whole ∙ ap (λ (k : ℕ). drop (k + 1) (packed (take done ns) ++ (length n ∷ (n ++ others_on)))) e ∙ drop-append-add
        (packed (take done ns)) (length n ∷ (n ++ others_on)) 1

    taken : take (suc done) ns ≡ take done ns ++ (n ∷ [])
    taken =
        let k : suc done ≡ length (take done ns) + 1 = omega (arith, length-take-le done ns h) in
        ap (take (suc done)) (sym (take-append-drop done ns) ∙ ap (λ (y : List (List ℕ)). take done ns ++ y) w)
        ∙ ap (λ (j : ℕ). take j (take done ns ++ (n ∷ others))) k
        ∙ take-append-add (take done ns) (n ∷ others) 1

    next : NextName b len done ns at
    next =
        record {
          name = n;
          others = others;
          queue = w;
          size = ap (λ (x : List ℕ). get_or x at 0) whole ∙ get_or_at (packed (take done ns)) (length n) (n ++ others_on) 0 at (sym e);
          inside = omega (arith, left (n ∷ others) w, ap length (packed_cons n others), length-append n (packed others));
          bytes = ap (take (length n)) from_next ∙ take_at n others_on (length n) refl;
          place = omega (arith, e, ap (λ (y : List (List ℕ)). length (packed y)) taken, ap length (packed_more (take done ns) n), length-append (packed (take done ns)) (length n ∷ n));
          more = omega (arith, ap length (take-append-drop done ns), length-append (take done ns) (drop done ns), length-take-le done ns h, ap length w);
        }

  pub queue_next : at < len → NextName b len done ns at
  queue_next l = pick (drop done ns) refl
    where
      pick : (x : List (List ℕ)) → drop done ns ≡ x → NextName b len done ns at
      pick [] w = absurd (omega (arith, left [] w, ap length packed_none))
      pick (n ∷ others) w = next n others w
