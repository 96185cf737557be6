-- A quoted name byte by byte: what stands next, what is read, and what is left to read.
use Rattle.std.specs.Prelude.{Some, None}
use Rattle.listing_rules.proofs.Prelude.{◌∙◌, ◌≡◌, ap, refl, subst, sym, ◌||◌, false, true, ⊎_elim, IsSome, Option, none, some, List, [], ◌++◌}
use Rattle.listing_rules.proofs.Prelude.{◌∷◌, append_assoc, append-nil, ◌+◌, ◌<◌, ◌≤◌, suc, ℕ, zero-add, add-one, dec_le, arith, eqb}
use Rattle.listing_rules.proofs.Prelude.{list_get_or_eq_default, drop, drop_of_length-le, get_or, length, length-append, length-set, set, drop-cons, sets}
use Rattle.listing_rules.proofs.Prelude.{eq-eqb, ne_eqb}
use Rattle.listing_rules.specs.Bytes.{quote, backslash}
use Rattle.listing_rules.specs.Tokens.{Got, got, with_first, unquoted, ◌>>=◌}
use Rattle.octets.proofs.Puts.{either, sets_append}
use Rattle.line_reader.specs.Parts.{Next, Names}
use Rattle.line_reader.specs.declared.Piece.TheVariants.{Byte, End, Missing as NoPiece}

-- what stands at a place
module _ (l : List ℕ) (i : ℕ) where
  pub piece_out : length l ≤ i → Next l i NoPiece
  unfolding unquoted
  piece_out h = rw (drop_of_length-le l h)

  module _ (h : i < length l) where
    pub piece_end : get_or l i 0 ≡ 34 → Next l i (End (i + 1))
    unfolding unquoted quote backslash
    piece_end e =
        let o : eqb (get_or l i 0) 92 ≡ false = ne_eqb (get_or l i 0) 92 (λ f. omega arith) in
        (rw (drop-cons l i 0 h, o, eq-eqb (get_or l i 0) 34 e, add-one), omega arith)

    pub piece_byte : (get_or l i 0 ≡ 34 → ⊥) → (get_or l i 0 ≡ 92 → ⊥) → Next l i (Byte (get_or l i 0) (i + 1))
    unfolding unquoted quote backslash
    piece_byte e f = (rw (drop-cons l i 0 h, ne_eqb (get_or l i 0) 92 f, ne_eqb (get_or l i 0) 34 e, add-one), omega arith, omega arith)

    behind : get_or l i 0 ≡ 92 → unquoted false (drop i l) ≡ unquoted true (drop (i + 1) l)
    unfolding unquoted quote backslash
    behind e = rw (drop-cons l i 0 h, eq-eqb (get_or l i 0) 92 e, add-one)

    -- 0 is no escape, so an escaped byte lies inside
    escape_inside : (eqb (get_or l (i + 1) 0) 34 || eqb (get_or l (i + 1) 0) 92) ≡ true → i + 1 < length l
    escape_inside e = ⊎_elim outside (λ g. g) (either (length l) (i + 1))
      where
        outside : length l ≤ i + 1 → i + 1 < length l
        outside g =
            let z : get_or l (i + 1) 0 ≡ 0 = list_get_or_eq_default l 0 g in
            let w : false ≡ true = rw z at e in
            let v : ◌≡◌ {A = ℕ} 0 1 = cc in
            absurd (omega arith)

    pub piece_escaped : get_or l i 0 ≡ 92 → (eqb (get_or l (i + 1) 0) 34 || eqb (get_or l (i + 1) 0) 92) ≡ true → Next l i (Byte (get_or l (i + 1) 0) (i + 2))
    unfolding unquoted quote backslash
    piece_escaped e f = (behind e ∙ taken, omega arith, omega (arith, escape_inside f))
      where
        taken : unquoted true (drop (i + 1) l) ≡ (unquoted false (drop (i + 2) l) >>= λ g. some (with_first (get_or l (i + 1) 0) g))
        taken = let w : i + 2 ≡ suc (i + 1) = omega arith in rw (w, drop-cons l (i + 1) 0 (escape_inside f), f)

    pub piece_bad : get_or l i 0 ≡ 92 → (eqb (get_or l (i + 1) 0) 34 || eqb (get_or l (i + 1) 0) 92) ≡ false → Next l i NoPiece
    unfolding unquoted quote backslash
    piece_bad e f = behind e ∙ elim (dec_le (length l) (i + 1)) [ yes g ↦ outside g | no g ↦ inside (omega arith) ]
      where
        outside : length l ≤ i + 1 → unquoted true (drop (i + 1) l) ≡ none
        outside g = rw (drop_of_length-le l g)

        inside : i + 1 < length l → unquoted true (drop (i + 1) l) ≡ none
        inside g = rw (drop-cons l (i + 1) 0 g, f)

-- a name behind the bytes that were read before
unfoldable pub afterwards : List ℕ → Option (Got (List ℕ)) → Option (Got (List ℕ))
afterwards acc o = o >>= λ g. some (got (acc ++ g.val) g.rest)

afterwards_none : (o : Option (Got (List ℕ))) → afterwards [] o ≡ o
unfolding afterwards ◌>>=◌ got
afterwards_none none = refl
afterwards_none (some g) = refl

afterwards_one : (acc : List ℕ) (b : ℕ) (o : Option (Got (List ℕ))) → afterwards acc (o >>= λ g. some (with_first b g)) ≡ afterwards (acc ++ (b ∷ [])) o
unfolding afterwards ◌>>=◌ got with_first
afterwards_one acc b none = refl
afterwards_one acc b (some g) = ap (λ (x : List ℕ). some (got x g.rest)) (sym (append_assoc acc (b ∷ []) g.val))

-- what was read before is at the front of the name
afterwards_long : (acc : List ℕ) (o : Option (Got (List ℕ))) (g : Got (List ℕ)) → afterwards acc o ≡ some g → length acc ≤ length g.val
unfolding afterwards ◌>>=◌ got
afterwards_long acc none g e = absurd (subst IsSome (sym e) tt)
afterwards_long acc (some p) g e =
    let w : got (acc ++ p.val) p.rest ≡ g = cc in
    subst (λ (x : Got (List ℕ)). length acc ≤ length x.val) w (omega (arith, length-append acc p.val))

-- `len` bytes of the name are read into the buffer, up to the place i
pub record Naming (l : List ℕ) (start : ℕ) (d e : List ℕ) (len i : ℕ) : Type 0 where
  pub acc : List ℕ
  pub counted : length acc ≡ len
  pub room : len ≤ length d
  pub long : length e ≡ length d
  pub bytes : e ≡ sets d 0 acc
  pub whole : unquoted false (drop start l) ≡ afterwards acc (unquoted false (drop i l))

pub naming_none : (l : List ℕ) (start : ℕ) (d : List ℕ) → Naming l start d d 0 start
naming_none l start d =
    record { acc = []; counted = refl; room = omega arith; long = refl; bytes = refl; whole = sym (afterwards_none (unquoted false (drop start l))) }

module _ {l : List ℕ} {start : ℕ} {d e : List ℕ} {len i : ℕ} (s : Naming l start d e len i) where
  one_more : (b j : ℕ) → Next l i (Byte b j) → unquoted false (drop start l) ≡ afterwards (s.acc ++ (b ∷ [])) (unquoted false (drop j l))
  one_more b j n = s.whole ∙ rw n.0 (afterwards_one s.acc b (unquoted false (drop j l)))

  pub naming_byte : (b j : ℕ) → Next l i (Byte b j) → len < length e → Naming l start d (set e len b) (len + 1) j
  naming_byte b j n h =
      record {
        acc = s.acc ++ (b ∷ []);
        counted = omega (arith, length-append s.acc (b ∷ []), s.counted);
        room = omega (arith, s.long);
        long = length-set e len b ∙ s.long;
        bytes = rw (s.bytes, ← s.counted) (sym (sets_append d 0 s.acc (b ∷ []) ∙ rw zero-add));
        whole = one_more b j n;
      }

  pub naming_full : (b j : ℕ) → Next l i (Byte b j) → length e ≤ len → Names l start d e None
  naming_full b j n h g w =
      let z = afterwards_long (s.acc ++ (b ∷ [])) (unquoted false (drop j l)) g (sym (one_more b j n) ∙ w) in
      omega (arith, z, length-append s.acc (b ∷ []), s.counted, s.long)

  pub naming_end : (j : ℕ) → Next l i (End j) → Names l start d e (Some (len, j))
  unfolding afterwards ◌>>=◌ got
  naming_end j n = (s.acc, s.whole ∙ rw n.0 done, n.1, sym s.counted, s.room, s.bytes)
    where
      done : afterwards s.acc (some (got [] (drop j l))) ≡ some (got s.acc (drop j l))
      done = rw append-nil

  pub naming_torn : Next l i NoPiece → Names l start d e None
  unfolding afterwards ◌>>=◌
  naming_torn n g w =
      let z : none ≡ some g = sym (s.whole ∙ rw n) ∙ w in
      absurd (subst IsSome (sym z) tt)
