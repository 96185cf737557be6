-- Words that move by one place, one by one, and bytes that are cleared. Rests on the library alone.
use borrow.Rule.Slice.PartMut.{put_mid}
use Rattle.std.proofs.lemmas.List.{drop-take}
use Rattle.listing_rules.proofs.Prelude.{drop-drop}
use Rattle.listing_rules.proofs.Prelude.{◌∙◌, ◌≡◌, ap, refl, subst, sym, List, ◌++◌, ◌∷◌, append_assoc, ◌%◌, ◌+◌, ◌-◌, ◌<◌, ◌≤◌, suc, ℕ}
use Rattle.listing_rules.proofs.Prelude.{arith, list_get_or_append, drop, drop_of_length-le, get_or, length}
use Rattle.listing_rules.proofs.Prelude.{length-append, length-drop, length-replicate, length-set, length-take, replicate, set, take}
use Rattle.listing_rules.proofs.Prelude.{take-append-drop, append_snoc, drop-cons, get_or-append-add, get_or-drop, get_or-take, length_paste_head}
use Rattle.listing_rules.proofs.Prelude.{length-take-le, paste, paste-suc, paste-zero, set_at, sets, sets-eq, take-suc}
use Rattle.listing_rules.specs.Subscriptions.{overwritten}
use Rattle.subscriptions.specs.Applied.{inserted_at, removed_at}

-- a word with other flags fits
pub flags_fit : (w f : ℕ) → w < 18446744073709551616 → f < 65536 → w - w % 65536 + f < 18446744073709551616
flags_fit w f h g = omega arith

pub length_middle : (n m : ℕ) (l : List ℕ) → m ≤ length l → length (drop n (take m l)) ≡ m - n
length_middle n m l h = length-drop n (take m l) ∙ rw (length-take-le m l h)

-- a store at the last place of a front
set_last : (ws r : List ℕ) (k a : ℕ) → k < length ws → set (take (suc k) ws ++ r) k a ≡ take k ws ++ (a ∷ r)
set_last ws r k a h =
    rw (take-suc ws k 0 h, append_snoc (take k ws) (get_or ws k 0) r)
    (set_at (take k ws) (get_or ws k 0) r a k (length-take-le k ws (omega arith)))

-- The words from i on, of the first `count`, have moved up by one place.
pub record Raised (ws e : List ℕ) (count i : ℕ) : Type 0 where
  pub most : i ≤ count
  pub size : length e ≡ length ws
  pub words : e ≡ take (suc i) ws ++ (drop i (take count ws) ++ drop (suc count) ws)

pub raised_none : (ws : List ℕ) (count : ℕ) → count < length ws → Raised ws ws count count
raised_none ws count h =
    record {
      most = omega arith;
      size = refl;
      words = sym (rw (drop_of_length-le (take count ws) {i = count} (omega (arith, length-take count ws))) (take-append-drop (suc count) ws));
    }

raised_step : (ws e : List ℕ) (count j : ℕ) → Raised ws e count (suc j) → count < length ws → Raised ws (set e (suc j) (get_or e j 0)) count j
raised_step ws e count j m h = record { most = omega (arith, m.most); size = length-set e (suc j) (get_or e j 0) ∙ m.size; words = moved }
  where
    rest : List ℕ
    rest = drop (suc j) (take count ws) ++ drop (suc count) ws

    read : get_or e j 0 ≡ get_or ws j 0
    read =
        rw m.words
        (list_get_or_append (take (suc (suc j)) ws) rest 0 j (omega (arith, length-take-le (suc (suc j)) ws (omega (arith, m.most)))) ∙ get_or-take (suc (suc j)) ws j 0 (omega arith))

    front : drop j (take count ws) ≡ get_or ws j 0 ∷ drop (suc j) (take count ws)
    front =
        drop-cons (take count ws) j 0 (omega (arith, length-take-le count ws (omega arith), m.most))
        ∙ rw (get_or-take count ws j 0 (omega (arith, m.most)))

    moved : set e (suc j) (get_or e j 0) ≡ take (suc j) ws ++ (drop j (take count ws) ++ drop (suc count) ws)
    moved = rw (read, front) (ap (λ (l : List ℕ). set l (suc j) (get_or ws j 0)) m.words ∙ set_last ws rest (suc j) (get_or ws j 0) (omega (arith, m.most)))

pub raised_more : {ws e : List ℕ} {count i : ℕ} → Raised ws e count i → count < length ws → 0 < i → Raised ws (set e i (get_or e (i - 1) 0)) count (i - 1)
raised_more {ws} {e} {count} {i} m h g =
    let p : i ≡ suc (i - 1) = omega arith in
    subst (λ (n : ℕ). Raised ws (set e n (get_or e (i - 1) 0)) count (i - 1)) (sym p)
    (raised_step ws e count (i - 1) (subst (λ (n : ℕ). Raised ws e count n) p m) h)

-- and a word stored where the first of them lay
pub inserted_set : (ws : List ℕ) (count k w : ℕ) → k ≤ count → count < length ws → set (take (suc k) ws ++ (drop k (take count ws) ++ drop (suc count) ws)) k w ≡ inserted_at ws count k w
unfolding inserted_at
inserted_set ws count k w h g = set_last ws (drop k (take count ws) ++ drop (suc count) ws) k w (omega arith)

-- The words after k, up to i, have moved down by one place.
pub record Lowered (ws e : List ℕ) (k i : ℕ) : Type 0 where
  pub least : k ≤ i
  pub size : length e ≡ length ws
  pub words : e ≡ paste ws k (drop (suc k) ws) (i - k)

pub lowered_none : (ws : List ℕ) (k : ℕ) → Lowered ws ws k k
lowered_none ws k = let z : k - k ≡ 0 = omega arith in record { least = omega arith; size = refl; words = rw z (paste-zero ws k (drop (suc k) ws)) }

pub lowered_more : {ws e : List ℕ} {k i : ℕ} → Lowered ws e k i → suc i < length ws → Lowered ws (set e i (get_or e (i + 1) 0)) k (i + 1)
lowered_more {ws} {e} {k} {i} m h = record { least = omega (arith, m.least); size = length-set e i (get_or e (i + 1) 0) ∙ m.size; words = moved }
  where
    j : ℕ
    j = i - k

    place : k + j ≡ i
    place = omega (arith, m.least)

    after : List ℕ
    after = drop (suc k) ws

    head : length (take k ws ++ take j after) ≡ k + j
    head = length_paste_head ws k after j (omega (arith, m.least)) (omega (arith, length-drop (suc k) ws, m.least))

    read : get_or e (i + 1) 0 ≡ get_or after j 0
    read =
        let z : i + 1 ≡ length (take k ws ++ take j after) + 1 = omega (arith, head, place) in
        let y : k + j + 1 ≡ suc k + j = omega arith in
        rw (m.words, z, get_or-append-add (take k ws ++ take j after) (drop (k + j) ws) 1 0, get_or-drop (k + j) ws 1 0, y) (sym (get_or-drop (suc k) ws j 0))

    moved : set e i (get_or e (i + 1) 0) ≡ paste ws k after (i + 1 - k)
    moved =
        let z : i + 1 - k ≡ suc j = omega (arith, m.least) in
        rw (read, z)
        (ap (λ (l : List ℕ). set l i (get_or after j 0)) m.words
        ∙ ap (λ (n : ℕ). set (paste ws k after j) n (get_or after j 0)) (sym place)
        ∙ paste-suc ws k after j 0 (omega (arith, place)) (omega (arith, length-drop (suc k) ws, m.least)))

pub lowered_all : {ws e : List ℕ} {k i : ℕ} → Lowered ws e k i → e ≡ take k ws ++ (drop (suc k) (take (suc i) ws) ++ drop i ws)
lowered_all {ws} {e} {k} {i} m =
    let z : suc k + (i - k) ≡ suc i = omega (arith, m.least) in
    let y : k + (i - k) ≡ i = omega (arith, m.least) in
    m.words
    ∙ append_assoc (take k ws) (take (i - k) (drop (suc k) ws)) (drop (k + (i - k)) ws)
    ∙ rw (y, ← drop-take (suc k) (i - k) ws, z)

-- and a zero stored where the last of them lay
pub removed_set : (ws : List ℕ) (count k : ℕ) → k < count → count ≤ length ws
    → set (take k ws ++ (drop (suc k) (take (suc (count - 1)) ws) ++ drop (count - 1) ws)) (count - 1) 0 ≡ removed_at ws count k
unfolding removed_at
removed_set ws count k h g =
    let z : suc (count - 1) ≡ count = omega arith in
    rw (drop-cons ws (count - 1) 0 (omega arith), z, ← append_assoc (take k ws) (drop (suc k) (take count ws)) (get_or ws (count - 1) 0 ∷ drop count ws))
    (set_at (take k ws ++ drop (suc k) (take count ws)) (get_or ws (count - 1) 0) (drop count ws) 0 (count - 1)
    (omega (arith, length-append (take k ws) (drop (suc k) (take count ws)), length-take-le k ws (omega arith), length_middle (suc k) count ws g))
    ∙ append_assoc (take k ws) (drop (suc k) (take count ws)) (0 ∷ drop count ws))

-- The bytes from a start on are zero.
pub cleared : (d ys : List ℕ) (start len : ℕ) → start + len ≤ length d → ys ≡ replicate (length (take (start + len - start) (drop start d))) 0
    → put_mid start (start + len - start) d ys ≡ overwritten d start (replicate len 0)
unfolding overwritten
cleared d ys start len h e =
    let z : start + len - start ≡ len = omega arith in
    let n : length (take (start + len - start) (drop start d)) ≡ len = omega (arith, length-take (start + len - start) (drop start d), length-drop start d) in
    rw (e, n, z, length-replicate {A = ℕ} len 0, drop-drop len start d)

-- bytes stored one by one where they lie inside
pub put_over : (d e : List ℕ) (start : ℕ) (bs : List ℕ) → e ≡ sets d start bs → start + length bs ≤ length d → e ≡ overwritten d start bs
unfolding overwritten
put_over d e start bs w h = w ∙ sets-eq bs d start h ∙ append_assoc (take start d) bs (drop (start + length bs) d)
