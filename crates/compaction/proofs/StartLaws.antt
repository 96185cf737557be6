-- Words with other starts: what they mean, and a loop over them. Rests on the library alone.
use Rattle.listing_rules.proofs.Prelude.{◌∙◌, ◌≡◌, ap, refl, sym, List, [], ◌++◌, ◌∷◌, append-nil, map, ◌%◌, ◌*◌, ◌+◌, ◌-◌, ◌/◌, ◌<◌, ◌≤◌, suc, ℕ}
use Rattle.listing_rules.proofs.Prelude.{add-one, arith, drop, drop_of_length-le, get_or, length, length-map, length-set, set, take, append_snoc}
use Rattle.listing_rules.proofs.Prelude.{drop-cons, get_or_at, length-take-le, set_at, take_all, take-suc}
use Rattle.records.specs.Words.{record_of}
use Rattle.compaction.specs.Moves.{with_start}

-- a word with another start fits, and means the record with that start
pub start_fits : (w s : ℕ) → w < 18446744073709551616 → s < 65536 → w - 65536 * (w / 65536 % 65536) + 65536 * s < 18446744073709551616
start_fits w s h g = omega arith

-- a number by its parts: what lies above the start, the start, the flags
parts_are : (w s : ℕ) → w - 65536 * (w / 65536 % 65536) + 65536 * s ≡ 65536 * (65536 * (w / 65536 / 65536) + s) + w % 65536
parts_are w s = omega arith

flags_part : (b s f : ℕ) → f < 65536 → (65536 * (65536 * b + s) + f) % 65536 ≡ f
flags_part b s f h = omega arith

upper_part : (b s f : ℕ) → f < 65536 → (65536 * (65536 * b + s) + f) / 65536 ≡ 65536 * b + s
upper_part b s f h = omega arith

top_part : (b s f : ℕ) → s < 65536 → f < 65536 → (65536 * (65536 * b + s) + f) / 4294967296 ≡ b
top_part b s f h g = omega arith

start_part : (b s : ℕ) → s < 65536 → (65536 * b + s) % 65536 ≡ s
start_part b s h = omega arith

top_is : (w : ℕ) → w / 65536 / 65536 ≡ w / 4294967296
top_is w = omega arith

readers_top : (w : ℕ) → w / 281474976710656 % 256 ≡ w / 4294967296 / 65536 % 256
readers_top w = omega arith

pub start_means : (w s : ℕ) → s < 65536 →
    record_of (with_start s w) ≡ record { flags = (record_of w).flags; start = s; len = (record_of w).len; readers = (record_of w).readers }
unfolding record_of with_start
start_means w s h =
    let b : ℕ = w / 65536 / 65536 in
    let f : ℕ = w % 65536 in
    let small : f < 65536 = omega arith in
    rw (parts_are w s) (λ i. record {
      flags = flags_part b s f small i;
      start = (ap (λ (n : ℕ). n % 65536) (upper_part b s f small) ∙ start_part b s h) i;
      len = ap (λ (n : ℕ). n % 256) (top_part b s f h small ∙ top_is w) i;
      readers =
          (readers_top (65536 * (65536 * b + s) + f) ∙ ap (λ (n : ℕ). n / 65536 % 256) (top_part b s f h small ∙ top_is w) ∙ sym (readers_top w)) i;
    })

-- A loop that changes word after word by f: those before i are changed.
pub record Mapped (f : ℕ → ℕ) (ws e : List ℕ) (i : ℕ) : Type 0 where
  pub most : i ≤ length ws
  pub size : length e ≡ length ws
  pub words : e ≡ map f (take i ws) ++ drop i ws

pub mapped_none : (f : ℕ → ℕ) (ws : List ℕ) → Mapped f ws ws 0
mapped_none f ws = record { most = omega arith; size = refl; words = refl }

map_snoc : (f : ℕ → ℕ) (l : List ℕ) (x : ℕ) → map f (l ++ (x ∷ [])) ≡ map f l ++ (f x ∷ [])
map_snoc f [] x = refl
map_snoc f (y ∷ l) x = ap (λ (r : List ℕ). f y ∷ r) (map_snoc f l x)

module _ {f : ℕ → ℕ} {ws e : List ℕ} {i : ℕ} (m : Mapped f ws e i) where
  front_length : length (map f (take i ws)) ≡ i
  front_length = length-map (take i ws) f ∙ length-take-le i ws m.most

  pub mapped_read : i < length ws → get_or e i 0 ≡ get_or ws i 0
  mapped_read h = rw (m.words, drop-cons ws i 0 h) (get_or_at (map f (take i ws)) (get_or ws i 0) (drop (suc i) ws) 0 i front_length)

  pub mapped_more : i < length ws → (x : ℕ) → x ≡ f (get_or ws i 0) → Mapped f ws (set e i x) (i + 1)
  mapped_more h x q =
      record {
        most = omega arith;
        size = length-set e i x ∙ m.size;
        words =
            ap (λ (l : List ℕ). set l i x) (m.words ∙ ap (λ (r : List ℕ). map f (take i ws) ++ r) (drop-cons ws i 0 h))
            ∙ set_at (map f (take i ws)) (get_or ws i 0) (drop (suc i) ws) x i front_length
            ∙ rw (q, add-one i, take-suc ws i 0 h, map_snoc f (take i ws) (get_or ws i 0))
            (sym (append_snoc (map f (take i ws)) (f (get_or ws i 0)) (drop (suc i) ws)));
      }

  pub mapped_all : length ws ≤ i → e ≡ map f ws
  mapped_all h = m.words ∙ (λ j. map f (take_all i ws h j) ++ drop_of_length-le ws {i = i} h j) ∙ append-nil (map f ws)
