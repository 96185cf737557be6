-- Names below a name among names that ascend: where they begin, where they end, and that nothing is missed.
use Rattle.listing_rules.proofs.Prelude.{◌∙◌, ◌≡◌, ap, refl, sym, Bool, ◌&&◌, false, false≢true, true, List, [], ◌++◌, ◌∷◌, ◌+◌, ◌-◌, ◌<◌, ◌≤◌, suc}
use Rattle.listing_rules.proofs.Prelude.{zero, ℕ, add-one, dec_le, arith, eqb, drop, get_or, length, take, eq-eqb, eqb-true, le-ltb, lt-ltb, ltb-true}
use Rattle.listing_rules.proofs.Prelude.{ne_eqb}
use Rattle.listing_rules.specs.Bytes.{slash}
use Rattle.listing_rules.specs.Orders.{byte_order, is_lt, ascends_from, ascends}
use Rattle.listing_rules.specs.Names.{below}
use Rattle.listing_rules.proofs.Sorted.{order_trans}
use Rattle.mailbox_table.specs.Shared.{shared_len}
use Rattle.listing_rules.proofs.Bools.{and_l, and_r, and_i}
use Rattle.mailbox_table.proofs.SharedLaws.{shared_le_r, order_same, shared_same, order_other, shared_other, order_nil_cons, order_cons_nil}
use Rattle.mailbox_table.proofs.SharedLaws.{order_to_nil}

-- a name begins with p
unfoldable pub starts : List ℕ → List ℕ → Bool
starts [] c = true
starts (x ∷ p) [] = false
starts (x ∷ p) (y ∷ c) = eqb x y && starts p c

pub starts_take : (n : ℕ) (a : List ℕ) → starts (take n a) a ≡ true
unfolding starts
starts_take zero a = refl
starts_take (suc n) [] = refl
starts_take (suc n) (x ∷ a) = rw (eq-eqb x x refl) (starts_take n a)

-- what is shared is enough
pub starts_on : (p a b : List ℕ) → starts p a ≡ true → length p ≤ shared_len a b → starts p b ≡ true
unfolding starts
starts_on [] a b e h = refl
starts_on (x ∷ p) [] b e h = absurd (false≢true e)
starts_on (x ∷ p) (y ∷ a) [] e h = absurd (omega (arith, shared_le_r (y ∷ a) []))
starts_on (x ∷ p) (y ∷ a) (z ∷ b) e h = go (eqb y z) refl (starts_on p a b (and_r (eqb x y) (starts p a) e))
  where
    go : (o : Bool) → eqb y z ≡ o → (length p ≤ shared_len a b → starts p b ≡ true) → (eqb x z && starts p b) ≡ true
    go true k ih =
        and_i (eqb x z) (starts p b) (eq-eqb x z (eqb-true x y (and_l (eqb x y) (starts p a) e) ∙ eqb-true y z k)) (ih (omega (arith, shared_same y z a b k)))
    go false k ih = absurd (omega (arith, shared_other y z a b k))

-- below p is p and a slash
pub starts_below : (p c : List ℕ) → starts p c ≡ true → below p c ≡ eqb (get_or c (length p) 0) 47
unfolding starts below slash
starts_below [] [] e = refl
starts_below [] (y ∷ c) e = refl
starts_below (x ∷ p) [] e = absurd (false≢true e)
starts_below (x ∷ p) (y ∷ c) e = rw (and_l (eqb x y) (starts p c) e) (starts_below p c (and_r (eqb x y) (starts p c) e))

-- c lies behind all that lies below p: it does not come before p and a 0, which stands behind the slash
abbrev pub Behind : List ℕ → List ℕ → Type 0
Behind p c = is_lt (byte_order c (p ++ 48 ∷ [])) ≡ false

eqb_turn : (x y : ℕ) → eqb x y ≡ true → eqb y x ≡ true
eqb_turn x y e = eq-eqb y x (sym (eqb-true x y e))

pub behind_below : (p c : List ℕ) → Behind p c → below p c ≡ false
unfolding below slash
behind_below [] [] e = refl
behind_below [] (y ∷ c) e = go (eqb y 47) refl
  where
    go : (o : Bool) → eqb y 47 ≡ o → o ≡ false
    go false k = refl
    go true k =
        let w : y ≡ 47 = eqb-true y 47 k in
        absurd (false≢true (sym e ∙ order_other y 48 c [] (ne_eqb y 48 (λ d. omega arith)) ∙ lt-ltb y 48 (omega arith)))
behind_below (x ∷ p) [] e = refl
behind_below (x ∷ p) (y ∷ c) e = go (eqb x y) refl (behind_below p c)
  where
    go : (o : Bool) → eqb x y ≡ o → (Behind p c → below p c ≡ false) → (o && below p c) ≡ false
    go false k ih = refl
    go true k ih = ih (sym (ap is_lt (order_same y x c (p ++ 48 ∷ []) (eqb_turn x y k))) ∙ e)

-- a name that goes on behind p with a byte above the slash
pub behind_byte : (p c : List ℕ) → starts p c ≡ true → 47 < get_or c (length p) 0 → Behind p c
unfolding starts
behind_byte [] [] e h = absurd (omega arith)
behind_byte [] (y ∷ c) e h = go (eqb y 48) refl
  where
    go : (o : Bool) → eqb y 48 ≡ o → is_lt (byte_order (y ∷ c) (48 ∷ [])) ≡ false
    go true k = rw (order_same y 48 c [] k) (order_to_nil c)
    go false k = rw (order_other y 48 c [] k) (le-ltb y 48 (omega arith))
behind_byte (x ∷ p) [] e h = absurd (false≢true e)
behind_byte (x ∷ p) (y ∷ c) e h =
    rw (order_same y x c (p ++ 48 ∷ []) (eqb_turn x y (and_l (eqb x y) (starts p c) e))) (behind_byte p c (and_r (eqb x y) (starts p c) e) h)

-- a name that shares less with a name before it that begins with p
pub behind_shared : (p a b : List ℕ) → starts p a ≡ true → is_lt (byte_order a b) ≡ true → shared_len a b < length p → Behind p b
unfolding starts
behind_shared [] a b e l h = absurd (omega arith)
behind_shared (x ∷ p) [] b e l h = absurd (false≢true e)
behind_shared (x ∷ p) (y ∷ a) [] e l h = absurd (false≢true (sym (order_cons_nil y a) ∙ l))
behind_shared (x ∷ p) (y ∷ a) (z ∷ b) e l h = go (eqb y z) refl (behind_shared p a b (and_r (eqb x y) (starts p a) e))
  where
    head : x ≡ y
    head = eqb-true x y (and_l (eqb x y) (starts p a) e)

    go : (o : Bool) → eqb y z ≡ o → (is_lt (byte_order a b) ≡ true → shared_len a b < length p → Behind p b) → is_lt (byte_order (z ∷ b) (x ∷ (p ++ 48 ∷ []))) ≡ false
    go true k ih =
        rw (order_same z x b (p ++ 48 ∷ []) (eq-eqb z x (sym (head ∙ eqb-true y z k))))
        (ih (sym (ap is_lt (order_same y z a b k)) ∙ l) (omega (arith, shared_same y z a b k)))
    go false k ih =
        let w : y < z = ltb-true y z (sym (order_other y z a b k) ∙ l) in
        order_other z x b (p ++ 48 ∷ []) (ne_eqb z x (λ d. omega (arith, head))) ∙ le-ltb z x (omega (arith, head))

pub behind_on : (p c d : List ℕ) → Behind p c → is_lt (byte_order c d) ≡ true → Behind p d
behind_on p c d e l = go (is_lt (byte_order d (p ++ 48 ∷ []))) refl
  where
    go : (o : Bool) → is_lt (byte_order d (p ++ 48 ∷ [])) ≡ o → o ≡ false
    go false k = refl
    go true k = absurd (false≢true (sym e ∙ order_trans c d (p ++ 48 ∷ []) l k))

-- a name that comes before p
before_below : (p c : List ℕ) → is_lt (byte_order c p) ≡ true → below p c ≡ false
unfolding below
before_below [] c l = absurd (false≢true (sym (order_to_nil c) ∙ l))
before_below (x ∷ p) [] l = refl
before_below (x ∷ p) (y ∷ c) l = go (eqb x y) refl (before_below p c)
  where
    go : (o : Bool) → eqb x y ≡ o → (is_lt (byte_order c p) ≡ true → below p c ≡ false) → (o && below p c) ≡ false
    go false k ih = refl
    go true k ih = ih (sym (ap is_lt (order_same y x c p (eqb_turn x y k))) ∙ l)

-- a name before the first that begins with p
before_first : (p a b : List ℕ) → starts p b ≡ true → is_lt (byte_order a b) ≡ true → shared_len a b < length p → is_lt (byte_order a p) ≡ true
unfolding starts
before_first [] a b e l h = absurd (omega arith)
before_first (x ∷ p) a [] e l h = absurd (false≢true e)
before_first (x ∷ p) [] (z ∷ b) e l h = order_nil_cons x p
before_first (x ∷ p) (y ∷ a) (z ∷ b) e l h = go (eqb y z) refl (before_first p a b (and_r (eqb x z) (starts p b) e))
  where
    head : x ≡ z
    head = eqb-true x z (and_l (eqb x z) (starts p b) e)

    go : (o : Bool) → eqb y z ≡ o → (is_lt (byte_order a b) ≡ true → shared_len a b < length p → is_lt (byte_order a p) ≡ true) → is_lt (byte_order (y ∷ a) (x ∷ p)) ≡ true
    go true k ih =
        rw (order_same y x a p (eq-eqb y x (eqb-true y z k ∙ sym head)))
        (ih (sym (ap is_lt (order_same y z a b k)) ∙ l) (omega (arith, shared_same y z a b k)))
    go false k ih =
        let w : y < z = ltb-true y z (sym (order_other y z a b k) ∙ l) in
        order_other y x a p (ne_eqb y x (λ d. omega (arith, head))) ∙ lt-ltb y x (omega (arith, head))

-- names that ascend, by their places
above_first : (x : List ℕ) (ns : List (List ℕ)) (k : ℕ) → ascends_from x ns ≡ true → k < length ns → is_lt (byte_order x (get_or ns k [])) ≡ true
unfolding ascends_from
above_first x [] k l h = absurd (omega arith)
above_first x (n ∷ ns) zero l h = and_l (is_lt (byte_order x n)) (ascends_from n ns) l
above_first x (n ∷ ns) (suc k) l h =
    order_trans x n (get_or ns k []) (and_l (is_lt (byte_order x n)) (ascends_from n ns) l) (above_first n ns k (and_r (is_lt (byte_order x n)) (ascends_from n ns) l) (omega arith))

pub ascends_tail : (x : List ℕ) (ns : List (List ℕ)) → ascends_from x ns ≡ true → ascends ns ≡ true
unfolding ascends ascends_from
ascends_tail x [] l = refl
ascends_tail x (n ∷ ns) l = and_r (is_lt (byte_order x n)) (ascends_from n ns) l

-- of two names that ascend the earlier comes before the later
pub ascends_at : (ns : List (List ℕ)) (j k : ℕ) → ascends ns ≡ true → j < k → k < length ns → is_lt (byte_order (get_or ns j []) (get_or ns k [])) ≡ true
unfolding ascends
ascends_at [] j k l h g = absurd (omega arith)
ascends_at (n ∷ ns) j zero l h g = absurd (omega arith)
ascends_at (n ∷ ns) zero (suc k) l h g = above_first n ns k l (omega arith)
ascends_at (n ∷ ns) (suc j) (suc k) l h g = ascends_at ns j k (ascends_tail n ns l) (omega arith) (omega arith)

-- what follows a place ascends from it
from_at : (ns : List (List ℕ)) (k : ℕ) → ascends ns ≡ true → k < length ns → ascends_from (get_or ns k []) (drop (suc k) ns) ≡ true
unfolding ascends
from_at [] k l h = absurd (omega arith)
from_at (n ∷ ns) zero l h = l
from_at (n ∷ ns) (suc k) l h = from_at ns k (ascends_tail n ns l) (omega arith)

pub ascends_from_lem : (ns : List (List ℕ)) (k : ℕ) → ascends ns ≡ true → k < length ns → ascends_from (get_or ns k []) (drop (k + 1) ns) ≡ true
ascends_from_lem ns k l h = rw (add-one k) (from_at ns k l h)

-- Names before the first that begins with p do not lie below it.
pub earlier_below : (p : List ℕ) (ns : List (List ℕ)) (i : ℕ) → ascends ns ≡ true → i < length ns → starts p (get_or ns i []) ≡ true →
    ((k : ℕ) → k + 1 ≡ i → shared_len (get_or ns k []) (get_or ns i []) < length p) → (k : ℕ) → k < i → below p (get_or ns k []) ≡ false
earlier_below p ns i l h e f k g = before_below p (get_or ns k []) (go (dec_le (k + 2) i))
  where
    last : (j : ℕ) → j + 1 ≡ i → is_lt (byte_order (get_or ns j []) p) ≡ true
    last j d = before_first p (get_or ns j []) (get_or ns i []) e (ascends_at ns j i l (omega arith) h) (f j d)

    go : Dec (k + 2 ≤ i) → is_lt (byte_order (get_or ns k []) p) ≡ true
    go (yes d) = order_trans (get_or ns k []) (get_or ns (i - 1) []) p (ascends_at ns k (i - 1) l (omega arith) (omega arith)) (last (i - 1) (omega arith))
    go (no d) = last k (omega arith)
