-- The rows that a reader sees, of an index: the bit of a reader, a word with another number of shared bytes, that the seen words tell the seen
-- records and are an index of their rows, and the pass that moves them to the front. Rests on WordLaws, SharedLaws, and the sets of octets.
use Rattle.listing_rules.proofs.Prelude.{◌∙◌, ◌≡◌, ap, refl, sym, Bool, cond, false, false≢true, or-false, true, List, [], ◌++◌, ◌∷◌, append_assoc}
use Rattle.listing_rules.proofs.Prelude.{append-nil, map, ◌%◌, ◌*◌, ◌+◌, ◌-◌, ◌/◌, ◌<◌, ◌^◌, ◌≤◌, min, suc, zero, ℕ, div-eq_of_lt, add-one}
use Rattle.listing_rules.proofs.Prelude.{arith, eqb, leb, drop, drop_of_length-le, get_or, length, length-append, length-drop, length-map, length-set}
use Rattle.listing_rules.proofs.Prelude.{length-take, set, take, take-append-drop, append_snoc, drop-cons, drop-drop, drop-set-lt, get_or-drop}
use Rattle.listing_rules.proofs.Prelude.{length-take-le, take_at, take-suc-set, eq-eqb, eqb-false, eqb-true, le-leb, leb-false, lt-leb, ltb-true}
use Rattle.listing_rules.proofs.Prelude.{ne_eqb}
use lib.Bits.{and_zero_r, or_zero_r}
use lib.Pow.{pow_mono}
use Rattle.listing_rules.specs.Bytes.{bit}
use Rattle.listing_rules.specs.Lists.{every, any_of, keep}
use Rattle.listing_rules.specs.Orders.{byte_order, is_lt, ascends_from, ascends}
use Rattle.listing_rules.specs.Names.{lawful_name}
use Rattle.listing_rules.specs.Table as Table
use Rattle.listing_rules.specs.Table.{names}
use Rattle.listing_rules.specs.Records.{record_rows}
use Rattle.listing_rules.specs.Readers.{is_reader, sees, visible}
use Rattle.listing_rules.proofs.Bools.{and_l, and_r, and_i}
use Rattle.listing_rules.proofs.ListLaws.{keep_length}
use Rattle.listing_rules.proofs.Sorted.{order_trans}
use Rattle.octets.specs.Sets.{touches, set_with}
use Rattle.octets.proofs.Sets.{touches_bits}
use Rattle.records.specs.Words.{record_of}
use Rattle.mailbox_table.specs.Words.{row_of_word, with_shared}
use Rattle.mailbox_table.specs.Shared.{shared_len}
use Rattle.mailbox_table.specs.Index.{name_at, nth_row, nth_name, row_at_word, rows_at, Indexed, Index}
use Rattle.mailbox_table.specs.Seen.{member_of, seen_from, seen_words}
use Rattle.mailbox_table.proofs.WordLaws.{shared_parts, place_fits, rows_records}
use Rattle.mailbox_table.proofs.SharedLaws.{order_same, shared_same, order_other, shared_other, shared_nil_l, shared_le_r, order_nil_cons}
use Rattle.mailbox_table.proofs.SharedLaws.{order_cons_nil}

-- one member of a set
touches_one : (k s : ℕ) → touches s (2 ^ k) ≡ bit k s
unfolding set_with any_of
touches_one k s = ap (touches s) (sym (or_zero_r (2 ^ k))) ∙ touches_bits s (k ∷ []) ∙ or-false (bit k s)

-- a byte has no bit above 7
byte_ends : (k x : ℕ) → 7 < k → x % 256 / 2 ^ k ≡ 0
byte_ends k x h = div-eq_of_lt (let wide : 2 ^ 8 ≤ 2 ^ k = pow_mono {i = 8} {j = k} (omega arith) in omega (arith, wide))

-- the reader's bit is set in the word exactly if the reader sees its record
pub member_sees : (reader w : ℕ) → touches (record_of w).readers (member_of reader) ≡ sees reader (record_of w)
unfolding member_of is_reader sees record_of bit
member_sees reader w = go (leb reader 7) refl
  where
    readers : ℕ
    readers = w / 281474976710656 % 256

    go : (o : Bool) → leb reader 7 ≡ o → touches readers (cond o (2 ^ reader) 0) ≡ eqb (readers / 2 ^ reader % 2) 1
    go true e = touches_one reader readers
    go false e = rw (and_zero_r readers, byte_ends reader (w / 281474976710656) (leb-false reader 7 e))

-- a word with another number of shared bytes: the same record, and the same row but for that number
module _ (n w : ℕ) (h : n < 256) where
  pub shared_with : row_of_word (with_shared n w) ≡ record { flags = (row_of_word w).flags; start = (row_of_word w).start; len = (row_of_word w).len; shared = n }
  unfolding row_of_word
  shared_with = λ i. record { flags = record { bits = bits_are i }; start = start_is_lem i; len = len_is i; shared = shared_is i }
    where
      bits_are : with_shared n w % 65536 ≡ w % 65536
      bits_are = omega (arith, shared_parts n w h)

      start_is_lem : with_shared n w / 65536 % 65536 ≡ w / 65536 % 65536
      start_is_lem = omega (arith, shared_parts n w h)

      len_is : with_shared n w / 4294967296 % 256 ≡ w / 4294967296 % 256
      len_is = omega (arith, shared_parts n w h)

      shared_is : with_shared n w / 1099511627776 % 256 ≡ n
      shared_is = omega (arith, shared_parts n w h)

  pub shared_record : record_of (with_shared n w) ≡ record_of w
  unfolding record_of
  shared_record = λ i. record { flags = flags_are i; start = start_is_lem i; len = len_is i; readers = readers_are i }
    where
      flags_are : with_shared n w % 65536 ≡ w % 65536
      flags_are = omega (arith, shared_parts n w h)

      start_is_lem : with_shared n w / 65536 % 65536 ≡ w / 65536 % 65536
      start_is_lem = omega (arith, shared_parts n w h)

      len_is : with_shared n w / 4294967296 % 256 ≡ w / 4294967296 % 256
      len_is = omega (arith, shared_parts n w h)

      readers_are : with_shared n w / 281474976710656 % 256 ≡ w / 281474976710656 % 256
      readers_are = omega (arith, shared_parts n w h)

  shared_name : (area : List ℕ) → name_at area (with_shared n w) ≡ name_at area w
  unfolding name_at
  shared_name area = rw shared_with

-- the bit of a reader
pub member_none : (reader : ℕ) → 7 < reader → 0 ≡ member_of reader
unfolding member_of is_reader
member_none reader h = rw (lt-leb reader 7 h)

pub member_is : (reader : ℕ) → reader ≤ 7 → 1 * 2 ^ reader % 256 ≡ member_of reader
unfolding member_of is_reader
member_is reader h =
    let small : 2 ^ reader ≤ 2 ^ 7 = pow_mono {i = reader} {j = 7} h in rw (le-leb reader 7 h) (omega (arith, small))

-- the number of a word's shared bytes, in the word
pub shared_fits : (w : ℕ) → (row_of_word w).shared < 256
unfolding row_of_word
shared_fits w = omega arith

pub shared_inside : (w : ℕ) → 1099511627776 * (row_of_word w).shared ≤ w
unfolding row_of_word
shared_inside w = omega arith

pub with_fits : (n w : ℕ) → n < 256 → w < 2 ^ 64 → with_shared n w < 2 ^ 64
with_fits n w h g = omega (arith, shared_parts n w h)

-- Of names that ascend, the first and the last share the least of what neighbours do.
shared_over : (a b c : List ℕ) → is_lt (byte_order a b) ≡ true → is_lt (byte_order b c) ≡ true → min (shared_len a b) (shared_len b c) ≡ shared_len a c
shared_over [] b c p q = rw (shared_nil_l b, shared_nil_l c) (omega arith)
shared_over (x ∷ a) [] c p q = absurd (false≢true (sym (order_cons_nil x a) ∙ p))
shared_over (x ∷ a) (y ∷ b) [] p q = absurd (false≢true (sym (order_cons_nil y b) ∙ q))
shared_over (x ∷ a) (y ∷ b) (z ∷ c) p q = go (eqb x y) (eqb y z) refl refl (shared_over a b c)
  where
    go : (o u : Bool) → eqb x y ≡ o → eqb y z ≡ u
        → (is_lt (byte_order a b) ≡ true → is_lt (byte_order b c) ≡ true → min (shared_len a b) (shared_len b c) ≡ shared_len a c)
        → min (shared_len (x ∷ a) (y ∷ b)) (shared_len (y ∷ b) (z ∷ c)) ≡ shared_len (x ∷ a) (z ∷ c)
    go true true d e ih =
        rw (shared_same x y a b d, shared_same y z b c e, shared_same x z a c (eq-eqb x z (eqb-true x y d ∙ eqb-true y z e)))
        (omega (arith, ih (sym (ap is_lt (order_same x y a b d)) ∙ p) (sym (ap is_lt (order_same y z b c e)) ∙ q)))
    go true false d e ih =
        rw (shared_other y z b c e, shared_other x z a c (ne_eqb x z (λ k. eqb-false y z e (sym (eqb-true x y d) ∙ k)))) (omega arith)
    go false true d e ih =
        rw (shared_other x y a b d, shared_other x z a c (ne_eqb x z (λ k. eqb-false x y d (k ∙ sym (eqb-true y z e))))) (omega arith)
    go false false d e ih =
        let l : x < y = ltb-true x y (sym (order_other x y a b d) ∙ p) in
        let m : y < z = ltb-true y z (sym (order_other y z b c e) ∙ q) in
        rw (shared_other x y a b d, shared_other y z b c e, shared_other x z a c (ne_eqb x z (λ k. omega arith))) (omega arith)

-- The seen words tell the records that the reader sees.
module _ (reader : ℕ) where
  from_records : (low : ℕ) (ws : List ℕ) → low < 256 → map record_of (seen_from reader low ws) ≡ keep (sees reader) (map record_of ws)
  unfolding seen_from keep
  from_records low [] h = refl
  from_records low (w ∷ ws) h = pick (sees reader (record_of w)) (from_records (min low (row_of_word w).shared) ws (omega arith))
      (from_records 255 ws (omega arith))
    where
      pick : (o : Bool) → map record_of (seen_from reader (min low (row_of_word w).shared) ws) ≡ keep (sees reader) (map record_of ws)
          → map record_of (seen_from reader 255 ws) ≡ keep (sees reader) (map record_of ws)
          → map record_of (cond o (with_shared (min low (row_of_word w).shared) w ∷ seen_from reader 255 ws)
          (seen_from reader (min low (row_of_word w).shared) ws))
          ≡ cond o (record_of w ∷ keep (sees reader) (map record_of ws)) (keep (sees reader) (map record_of ws))
      pick true a b =
          let head : record_of (with_shared (min low (row_of_word w).shared) w) ≡ record_of w = shared_record (min low (row_of_word w).shared) w
          (omega arith) in
          λ i. head i ∷ b i
      pick false a b = a

  pub seen_records : (ws : List ℕ) → map record_of (seen_words reader ws) ≡ keep (sees reader) (map record_of ws)
  unfolding seen_words
  seen_records ws = from_records 255 ws (omega arith)

  pub seen_rows : (area ws : List ℕ) → rows_at area (seen_words reader ws) ≡ visible reader area (map record_of ws)
  unfolding visible
  seen_rows area ws = rows_records area (seen_words reader ws) ∙ ap (record_rows area) (seen_records ws)

  pub seen_length : (ws : List ℕ) → length (seen_words reader ws) ≤ length ws
  seen_length ws =
      omega (
        arith,
        length-map (seen_words reader ws) record_of,
        ap length (seen_records ws),
        keep_length (sees reader) (map record_of ws),
        length-map ws record_of,
      )

-- A word that goes on behind the name x: what an index has of a word, with x as the name before it.
record Next (area x : List ℕ) (w : ℕ) : Type 0 where
  ascends_by : is_lt (byte_order x (name_at area w)) ≡ true
  shares_with : (row_of_word w).shared ≡ shared_len x (name_at area w)
  full : 0 < (row_of_word w).len
  inside : (row_of_word w).start + (row_of_word w).len ≤ length area

-- every word goes on behind the one before it, the first behind x
abbrev Chain : List ℕ → List ℕ → List ℕ → Type 0
Chain area x [] = Unit {0}
Chain area x (w ∷ ws) = Next area x w × Chain area (name_at area w) ws

-- a name has fewer than 256 bytes, and one that lies in the area is not empty where its length is not 0
name_short : (area : List ℕ) (w : ℕ) → length (name_at area w) < 256
unfolding name_at
name_short area w = simp length-take (omega (arith, (place_fits w).1))

name_full : (area : List ℕ) (w : ℕ) → 0 < (row_of_word w).len → (row_of_word w).start + (row_of_word w).len ≤ length area → 0 < length (name_at area w)
unfolding name_at
name_full area w f i = simp (length-take, length-drop) (omega arith)

-- the empty name stands before every other
nil_before : (a : List ℕ) → 0 < length a → is_lt (byte_order [] a) ≡ true
nil_before [] h = absurd (omega arith)
nil_before (x ∷ a) h = order_nil_cons x a

-- an index is a chain behind the empty name
module _ (area : List ℕ) where
  places_chain : (x ws : List ℕ) → ascends_from x (names (rows_at area ws)) ≡ true
      → (0 < length ws → (nth_row ws 0).shared ≡ shared_len x (nth_name area ws 0))
      → ((k : ℕ) → suc k < length ws → (nth_row ws (suc k)).shared ≡ shared_len (nth_name area ws k) (nth_name area ws (suc k)))
      → ((k : ℕ) → k < length ws → 0 < (nth_row ws k).len)
      → ((k : ℕ) → k < length ws → (nth_row ws k).start + (nth_row ws k).len ≤ length area)
      → Chain area x ws
  unfolding ascends_from names
  places_chain x [] a f s l i = tt
  places_chain x (w ∷ ws) a f s l i =
      let n = name_at area w in (
        record {
          ascends_by = and_l (is_lt (byte_order x n)) (ascends_from n (names (rows_at area ws))) a;
          shares_with = f (omega arith);
          full = l 0 (omega arith);
          inside = i 0 (omega arith);
        },
        places_chain n ws (and_r (is_lt (byte_order x n)) (ascends_from n (names (rows_at area ws))) a) (λ h. s 0 (omega arith))
            (λ k h. s (suc k) (omega arith))
            (λ k h. l (suc k) (omega arith)) (λ k h. i (suc k) (omega arith)),
      )

  indexed_chain : (ws : List ℕ) → Indexed area ws → Chain area [] ws
  indexed_chain ws x =
      places_chain [] ws (rises ws x.ascend x.full x.inside) (λ h. x.first ∙ sym (shared_nil_l (nth_name area ws 0)))
      (λ k h. rw add-one at (x.shares k (omega arith))) x.full x.inside
    where
      rises : (vs : List ℕ) → ascends (names (rows_at area vs)) ≡ true → ((k : ℕ) → k < length vs → 0 < (nth_row vs k).len)
          → ((k : ℕ) → k < length vs → (nth_row vs k).start + (nth_row vs k).len ≤ length area)
          → ascends_from [] (names (rows_at area vs)) ≡ true
      rises [] a l i = unfold ascends_from names in refl
      rises (w ∷ vs) a l i =
          unfold ascends_from ascends names in
          and_i (is_lt (byte_order [] (name_at area w))) (ascends_from (name_at area w) (names (rows_at area vs)))
          (nil_before (name_at area w) (name_full area w (l 0 (omega arith)) (i 0 (omega arith)))) a

  chain_ascends : (x ws : List ℕ) → Chain area x ws → ascends_from x (names (rows_at area ws)) ≡ true
  unfolding ascends_from names
  chain_ascends x [] c = refl
  chain_ascends x (w ∷ ws) c = and_i (is_lt (byte_order x (name_at area w))) (ascends_from (name_at area w) (names (rows_at area ws))) c.0.ascends_by
      (chain_ascends (name_at area w) ws c.1)

  chain_shares : (x ws : List ℕ) → Chain area x ws → (k : ℕ) → suc k < length ws →
      (nth_row ws (suc k)).shared ≡ shared_len (nth_name area ws k) (nth_name area ws (suc k))
  chain_shares x [] c k h = absurd (omega arith)
  chain_shares x (w ∷ []) c k h = absurd (omega arith)
  chain_shares x (w ∷ v ∷ ws) c zero h = c.1.0.shares_with
  chain_shares x (w ∷ v ∷ ws) c (suc k) h = chain_shares (name_at area w) (v ∷ ws) c.1 k (omega arith)

  chain_each : (x ws : List ℕ) → Chain area x ws → (k : ℕ) → k < length ws →
      (0 < (nth_row ws k).len) × ((nth_row ws k).start + (nth_row ws k).len ≤ length area)
  chain_each x [] c k h = absurd (omega arith)
  chain_each x (w ∷ ws) c zero h = (c.0.full, c.0.inside)
  chain_each x (w ∷ ws) c (suc k) h = chain_each (name_at area w) ws c.1 k (omega arith)

  chain_indexed : (ws : List ℕ) → Chain area [] ws → Indexed area ws
  chain_indexed ws c =
      record {
        ascend = rises ws c;
        first = first ws c;
        shares = λ k h. rw add-one (chain_shares [] ws c k (omega arith));
        full = λ k h. (chain_each [] ws c k h).0;
        inside = λ k h. (chain_each [] ws c k h).1;
      }
    where
      rises : (vs : List ℕ) → Chain area [] vs → ascends (names (rows_at area vs)) ≡ true
      rises [] d = unfold ascends names in refl
      rises (w ∷ vs) d = unfold ascends names in chain_ascends (name_at area w) vs d.1

      first : (vs : List ℕ) → Chain area [] vs → (nth_row vs 0).shared ≡ 0
      first [] d = unfold row_of_word in refl
      first (w ∷ vs) d = d.0.shares_with ∙ shared_nil_l (name_at area w)

  -- x is the name that was seen last, y the name before the words that are left: every name behind y comes behind x, and shares with x the least of
  -- `low` and of what it shares with y.
  Since : List ℕ → List ℕ → ℕ → Type 0
  Since x y low =
      (z : List ℕ) → length z < 256 → is_lt (byte_order y z) ≡ true → (is_lt (byte_order x z) ≡ true) × (min low (shared_len y z) ≡ shared_len x z)

  since_seen : (x : List ℕ) → Since x x 255
  unfolding Since
  since_seen x z h e = (e, omega (arith, shared_le_r x z))

  since_passed : (x y n : List ℕ) (low : ℕ) → Since x y low → length n < 256 → is_lt (byte_order y n) ≡ true → Since x n (min low (shared_len y n))
  unfolding Since
  since_passed x y n low s h e z g f =
      let t = s n h e in
      (order_trans x n z t.0 f, ap (λ (k : ℕ). min k (shared_len n z)) t.1 ∙ shared_over x n z t.0 f)

  module _ (reader : ℕ) where
    -- the seen words are a chain too
    seen_chain : (x y : List ℕ) (low : ℕ) (ws : List ℕ) → low < 256 → Since x y low → Chain area y ws → Chain area x (seen_from reader low ws)
    unfolding seen_from
    seen_chain x y low [] h s c = tt
    seen_chain x y low (w ∷ ws) h s c =
        pick (sees reader (record_of w)) (seen_chain (name_at area w) (name_at area w) 255 ws (omega arith) (since_seen (name_at area w)) c.1)
        (seen_chain x (name_at area w) least ws least_fits passed c.1)
      where
        least : ℕ
        least = min low (row_of_word w).shared

        least_fits : least < 256
        least_fits = omega arith

        behind : (is_lt (byte_order x (name_at area w)) ≡ true) × (min low (shared_len y (name_at area w)) ≡ shared_len x (name_at area w))
        behind = unfold Since in s (name_at area w) (name_short area w) c.0.ascends_by

        passed : Since x (name_at area w) least
        passed = rw c.0.shares_with (since_passed x y (name_at area w) low s (name_short area w) c.0.ascends_by)

        pick : (o : Bool) → Chain area (name_at area w) (seen_from reader 255 ws) → Chain area x (seen_from reader least ws)
            → Chain area x (cond o (with_shared least w ∷ seen_from reader 255 ws) (seen_from reader least ws))
        pick true a b = (
          record {
            ascends_by = rw (shared_name least w least_fits area) behind.0;
            shares_with = rw (shared_name least w least_fits area, shared_with least w least_fits, c.0.shares_with) behind.1;
            full = rw (shared_with least w least_fits) c.0.full;
            inside = rw (shared_with least w least_fits) c.0.inside;
          },
          rw (shared_name least w least_fits area) a,
        )
        pick false a b = b

    seen_every : (q : Table.Row → Bool) (low : ℕ) (ws : List ℕ) → low < 256 → every q (rows_at area ws) ≡ true →
        every q (rows_at area (seen_from reader low ws)) ≡ true
    unfolding seen_from every
    seen_every q low [] h e = refl
    seen_every q low (w ∷ ws) h e =
        pick (sees reader (record_of w)) (seen_every q 255 ws (omega arith) later)
        (seen_every q (min low (row_of_word w).shared) ws (omega arith) later)
      where
        later : every q (rows_at area ws) ≡ true
        later = and_r (q (row_at_word area w)) (every q (rows_at area ws)) e

        least : ℕ
        least = min low (row_of_word w).shared

        least_fits : least < 256
        least_fits = omega arith

        same : row_at_word area (with_shared least w) ≡ row_at_word area w
        same = λ i. record { flags = (shared_with least w least_fits i).flags.bits; name = shared_name least w least_fits area i }

        pick : (o : Bool) → every q (rows_at area (seen_from reader 255 ws)) ≡ true → every q (rows_at area (seen_from reader least ws)) ≡ true
            → every q (rows_at area (cond o (with_shared least w ∷ seen_from reader 255 ws) (seen_from reader least ws))) ≡ true
        pick true a b =
            and_i (q (row_at_word area (with_shared least w))) (every q (rows_at area (seen_from reader 255 ws)))
            (ap q same ∙ and_l (q (row_at_word area w)) (every q (rows_at area ws)) e) a
        pick false a b = b

-- the seen words of an index are an index of the seen rows
pub seen_indexed : (reader : ℕ) {area ws : List ℕ} → Indexed area ws → Indexed area (seen_words reader ws)
unfolding seen_words
seen_indexed reader {area} {ws} x =
    chain_indexed area (seen_from reader 255 ws) (seen_chain area reader [] [] 255 ws (omega arith) (since_seen area []) (indexed_chain area ws x))

pub seen_index : (reader : ℕ) {area ws : List ℕ} → Index area ws → Index area (seen_words reader ws)
seen_index reader {area} {ws} x =
    record {
      indexed = seen_indexed reader x.indexed;
      few = omega (arith, seen_length reader ws, x.few);
      lawful = unfold seen_words in seen_every area reader (λ (r : Table.Row). lawful_name r.name) 255 ws (omega arith) x.lawful;
    }

-- After i words of the index `before`: the words at the front are those seen so far, `low` is the least since the last of them, and what stands from
-- there on is untouched.
pub record Seeing (reader : ℕ) (before words : List ℕ) (seen low i : ℕ) : Type 0 where
  pub most : i ≤ length before
  pub behind : seen ≤ i
  pub size : length words ≡ length before
  pub low_fits : low < 256
  pub whole : seen_words reader before ≡ take seen words ++ seen_from reader low (drop i before)
  pub rest : drop seen words ≡ drop seen before

pub seeing_none : (reader : ℕ) (before : List ℕ) → Seeing reader before before 0 255 0
unfolding seen_words
seeing_none reader before = record { most = omega arith; behind = omega arith; size = refl; low_fits = omega arith; whole = refl; rest = refl }

-- the first word that is left, by whether the reader sees it
module _ (reader low w : ℕ) (ws : List ℕ) where
  from_seen : sees reader (record_of w) ≡ true → seen_from reader low (w ∷ ws) ≡ with_shared (min low (row_of_word w).shared) w ∷ seen_from reader 255 ws
  unfolding seen_from
  from_seen e = rw e

  from_hidden : sees reader (record_of w) ≡ false → seen_from reader low (w ∷ ws) ≡ seen_from reader (min low (row_of_word w).shared) ws
  unfolding seen_from
  from_hidden e = rw e

module _ {reader : ℕ} {before words : List ℕ} {seen low i : ℕ} (s : Seeing reader before words seen low i) (h : i < length before) where
  -- the word that is looked at is still the index's
  word_same : get_or words i 0 ≡ get_or before i 0
  word_same =
      let place : seen + (i - seen) ≡ i = omega (arith, s.behind) in
      ap (λ (k : ℕ). get_or words k 0) (sym place)
      ∙ sym (get_or-drop seen words (i - seen) 0)
      ∙ ap (λ (l : List ℕ). get_or l (i - seen) 0) s.rest
      ∙ get_or-drop seen before (i - seen) 0
      ∙ ap (λ (k : ℕ). get_or before k 0) place

  least_fits : min low (row_of_word (get_or words i 0)).shared < 256
  least_fits = omega (arith, s.low_fits)

  left : drop i before ≡ get_or words i 0 ∷ drop (i + 1) before
  left = rw (add-one i, word_same) (drop-cons before i 0 h)

  pub seeing_hidden : touches (record_of (get_or words i 0)).readers (member_of reader) ≡ false →
      Seeing reader before words seen (min low (row_of_word (get_or words i 0)).shared) (i + 1)
  seeing_hidden e =
      record {
        most = omega arith;
        behind = omega (arith, s.behind);
        size = s.size;
        low_fits = least_fits;
        whole = s.whole
            ∙ ap (λ (l : List ℕ). take seen words ++ seen_from reader low l) left
            ∙ ap (λ (l : List ℕ). take seen words ++ l) (from_hidden reader low (get_or words i 0) (drop (i + 1) before)
            (sym (member_sees reader (get_or words i 0)) ∙ e));
        rest = s.rest;
      }

  pub seeing_seen : touches (record_of (get_or words i 0)).readers (member_of reader) ≡ true
      → Seeing reader before (set words seen (with_shared (min low (row_of_word (get_or words i 0)).shared) (get_or words i 0))) (seen + 1) 255 (i + 1)
  seeing_seen e =
      record {
        most = omega arith;
        behind = omega (arith, s.behind);
        size = length-set words seen new ∙ s.size;
        low_fits = omega arith;
        whole = s.whole
            ∙ ap (λ (l : List ℕ). take seen words ++ seen_from reader low l) left
            ∙ ap (λ (l : List ℕ). take seen words ++ l) (from_seen reader low (get_or words i 0) (drop (i + 1) before)
            (sym (member_sees reader (get_or words i 0)) ∙ e))
            ∙ sym (append_snoc (take seen words) new (seen_from reader 255 (drop (i + 1) before)))
            ∙ ap (λ (l : List ℕ). l ++ seen_from reader 255 (drop (i + 1) before)) (sym front);
        rest = drop-set-lt (seen + 1) words seen new (omega arith)
            ∙ sym (drop-drop 1 seen words)
            ∙ ap (drop 1) s.rest
            ∙ drop-drop 1 seen before;
      }
    where
      new : ℕ
      new = with_shared (min low (row_of_word (get_or words i 0)).shared) (get_or words i 0)

      front : take (seen + 1) (set words seen new) ≡ take seen words ++ (new ∷ [])
      front = rw (add-one seen) (take-suc-set words seen new (omega (arith, s.behind, s.size)))

-- all words were looked at
pub seeing_all : {reader : ℕ} {before words : List ℕ} {seen low i : ℕ} → Seeing reader before words seen low i → length before ≤ i
    → (seen ≡ length (seen_words reader before)) × (words ≡ seen_words reader before ++ drop seen before)
seeing_all {reader} {before} {words} {seen} {low} {i} s h = (
  sym (length-take-le seen words (omega (arith, s.behind, s.most, s.size))) ∙ ap length (sym front),
  sym (take-append-drop seen words) ∙ ap (λ (l : List ℕ). take seen words ++ l) s.rest ∙ ap (λ (l : List ℕ). l ++ drop seen before) (sym front),
)
  where
    front : seen_words reader before ≡ take seen words
    front = unfold seen_from in
        s.whole ∙ ap (λ (l : List ℕ). take seen words ++ seen_from reader low l) (drop_of_length-le before h) ∙ append-nil (take seen words)

-- What `see_rows` leaves at the front of an array whose first n words were the index of a table, and of which `behind` stands after those.
pub record Front (reader : ℕ) (index behind exit : List ℕ) (r : ℕ) : Type 0 where
  pub inside : r ≤ length (exit ++ behind)
  pub size : r ≡ length (take r (exit ++ behind))
  pub words : take r (exit ++ behind) ≡ seen_words reader index

pub seen_front : (reader : ℕ) {index exit : List ℕ} {r : ℕ} (behind : List ℕ)
    → (r ≡ length (seen_words reader index)) × (exit ≡ seen_words reader index ++ drop r index) → Front reader index behind exit r
seen_front reader {index} {exit} {r} behind p = record { inside = within; size = sym (length-take-le r (exit ++ behind) within); words = front }
  where
    ws : List ℕ
    ws = seen_words reader index

    whole : exit ++ behind ≡ ws ++ (drop r index ++ behind)
    whole = ap (λ (l : List ℕ). l ++ behind) p.1 ∙ append_assoc ws (drop r index) behind

    within : r ≤ length (exit ++ behind)
    within = omega (arith, ap length whole, length-append ws (drop r index ++ behind), p.0)

    front : take r (exit ++ behind) ≡ ws
    front = ap (take r) whole ∙ take_at ws (drop r index ++ behind) r (sym p.0)
