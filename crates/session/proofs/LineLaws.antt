-- Laws of a piece of input: the characters before its first line feed, as the loop meets them, as they are gathered, and as
-- document 01 feeds them. Rests on frames' GatherLaws and listing_rules' InputCut.
use Rattle.listing_rules.proofs.Prelude.{◌∙◌, ◌≡◌, ap, refl, sym, Bool, cond, false, true, List, [], ◌++◌, ◌∷◌, append_assoc, append-nil, ◌+◌, ◌-◌}
use Rattle.listing_rules.proofs.Prelude.{◌<◌, ◌≤◌, suc, ℕ, add-one, arith, eqb, drop, drop_of_length-le, get_or, length, take, drop-cons, eq-eqb}
use Rattle.listing_rules.proofs.Prelude.{eqb-true, ne_eqb}
use Rattle.listing_rules.specs.Frames.{Session, step, fed, behind, fed_all}
use Rattle.listing_rules.proofs.InputCut.{fed_all_append}
use Rattle.frames.specs.declared.gathering.Gathered.{Gathered}
use Rattle.frames.specs.Gathering.{Holds, Gathers, gathered_is, gathered_line}
use Rattle.frames.proofs.GatherLaws.{gathers}
use Rattle.session.specs.Feeding.{through_line, before_line, gathered_all, line_after, Runs}

-- the characters before the line feed, from a place on
module _ (s : List ℕ) (i : ℕ) where
  before_more : i < length s → (get_or s i 0 ≡ 10 → ⊥) → before_line (drop i s) ≡ get_or s i 0 ∷ before_line (drop (i + 1) s)
  unfolding before_line
  before_more h e = rw (add-one, drop-cons s i 0 h, ne_eqb (get_or s i 0) 10 e)

  before_feed_lem : i < length s → get_or s i 0 ≡ 10 → before_line (drop i s) ≡ []
  unfolding before_line
  before_feed_lem h e = rw (drop-cons s i 0 h, eq-eqb (get_or s i 0) 10 e)

  before_end : length s ≤ i → before_line (drop i s) ≡ []
  unfolding before_line
  before_end h = rw (drop_of_length-le s h)

-- a piece without a line feed, of which all stands before it
pub before_all : (s : List ℕ) → length s ≤ length (before_line s) → (before_line s ≡ s) × (through_line s ≡ length s)
unfolding before_line through_line
before_all [] h = (refl, refl)
before_all (c ∷ t) h = go (eqb c 10) h (before_all t)
  where
    go : (o : Bool) → suc (length t) ≤ length (cond o [] (c ∷ before_line t)) →
        (length t ≤ length (before_line t) → (before_line t ≡ t) × (through_line t ≡ length t)) →
        (cond o [] (c ∷ before_line t) ≡ c ∷ t) × (cond o 1 (suc (through_line t)) ≡ suc (length t))
    go true g ih = absurd (omega arith)
    go false g ih = let w = ih (omega arith) in (ap (λ (l : List ℕ). c ∷ l) w.0, ap suc w.1)

-- a piece with a line feed: what is taken are the characters before it and itself
pub through_line_lem : (s : List ℕ) → length (before_line s) < length s →
    (through_line s ≡ length (before_line s) + 1) × (take (through_line s) s ≡ before_line s ++ (10 ∷ []))
unfolding before_line through_line
through_line_lem [] h = absurd (omega arith)
through_line_lem (c ∷ t) h = go (eqb c 10) refl h (through_line_lem t)
  where
    go : (o : Bool) → eqb c 10 ≡ o → length (cond o [] (c ∷ before_line t)) < suc (length t) →
        (length (before_line t) < length t → (through_line t ≡ length (before_line t) + 1) × (take (through_line t) t ≡ before_line t ++ (10 ∷ []))) →
        (cond o 1 (suc (through_line t)) ≡ length (cond o [] (c ∷ before_line t)) + 1) ×
        (take (cond o 1 (suc (through_line t))) (c ∷ t) ≡ cond o [] (c ∷ before_line t) ++ (10 ∷ []))
    go true e g ih = (refl, ap (λ (x : ℕ). x ∷ []) (eqb-true c 10 e))
    go false e g ih = let w = ih (omega arith) in (omega (arith, w.0), ap (λ (l : List ℕ). c ∷ l) w.1)

-- what is taken lies in the piece, and is a byte at least where there is one
pub through_inside : (s : List ℕ) → through_line s ≤ length s
unfolding through_line
through_inside [] = omega arith
through_inside (c ∷ t) = go (eqb c 10) (through_inside t)
  where
    go : (o : Bool) → through_line t ≤ length t → cond o 1 (suc (through_line t)) ≤ suc (length t)
    go true h = omega arith
    go false h = omega arith

pub through_less : (s : List ℕ) → length s - through_line s ≤ length s - 1
unfolding through_line
through_less [] = omega arith
through_less (c ∷ t) = go (eqb c 10)
  where
    go : (o : Bool) → suc (length t) - cond o 1 (suc (through_line t)) ≤ suc (length t) - 1
    go true = omega arith
    go false = omega arith

-- a line that holds characters goes on holding them with some more
pub holds_all : (cs d : List ℕ) (g : Gathered) (p : List ℕ) → 4102 ≤ length d → Holds d g p →
    Holds (line_after d g cs) (gathered_all (length d) g cs) (p ++ cs)
unfolding line_after gathered_all
holds_all [] d g p room h = rw (append-nil p) h
holds_all (c ∷ cs) d g p room h =
    let w : Gathers d (gathered_line d g c) g c (gathered_is (length d) g) = gathers d (gathered_line d g c) g c (gathered_is (length d) g) refl refl in
    let more = holds_all cs (gathered_line d g c) (gathered_is (length d) g) (p ++ (c ∷ [])) (omega (arith, w.kept)) (w.holds room p h) in
    rw (w.kept, append_assoc p (c ∷ []) cs) at more

-- characters that are no line feed are only gathered
pub fed_before : (chunk : List ℕ) (s : Session) →
    fed_all s (before_line chunk) ≡ record { session = record { stored = s.stored; partial = s.partial ++ before_line chunk }; output = [] }
unfolding before_line fed_all fed behind
fed_before [] s = rw (append-nil s.partial)
fed_before (c ∷ t) s = go (eqb c 10) refl (fed_before t)
  where
    go : (o : Bool) → eqb c 10 ≡ o →
        ((u : Session) → fed_all u (before_line t) ≡ record
        { session = record { stored = u.stored; partial = u.partial ++ before_line t }; output = [] }) →
        fed_all s (cond o [] (c ∷
        before_line t)) ≡ record { session = record { stored = s.stored; partial = s.partial ++ cond o [] (c ∷ before_line t) }; output = [] }
    go true e ih = rw (append-nil s.partial)
    go false e ih =
        rw (e, ih (record { stored = s.stored; partial = s.partial ++ (c ∷ []) }), append_assoc s.partial (c ∷ []) (before_line t))

-- and the line feed carries the frame out
pub fed_line : (chunk : List ℕ) (s : Session) →
    fed_all s (before_line chunk ++ (10 ∷
    [])) ≡ record
    { session = record { stored = (step s.stored (s.partial ++ before_line chunk)).stored; partial = [] }; output = (step s.stored (s.partial ++ before_line chunk)).output }
unfolding fed_all fed behind
fed_line chunk s =
    fed_all_append s (before_line chunk) (10 ∷ [])
    ∙ rw (fed_before chunk s, append-nil (step s.stored (s.partial ++ before_line chunk)).output)

-- Where the loop of `gather_line` stands: behind the first i characters of the piece, none of which is a line feed, the line is `e`
-- and `q` is gathered in it. What is left gives the answer of the whole.
pub record Part (chunk d : List ℕ) (g : Gathered) (e : List ℕ) (q : Gathered) (i : ℕ) : Type 0 where
  pub inside : i ≤ length chunk
  pub kept : length e ≡ length d
  pub used : i + length (before_line (drop i chunk)) ≡ length (before_line chunk)
  pub gathered : gathered_all (length d) q (before_line (drop i chunk)) ≡ gathered_all (length d) g (before_line chunk)
  pub line : line_after e q (before_line (drop i chunk)) ≡ line_after d g (before_line chunk)

pub part_start : (chunk d : List ℕ) (g : Gathered) → Part chunk d g d g 0
part_start chunk d g = record { inside = omega arith; kept = refl; used = omega arith; gathered = refl; line = refl }

module _ {chunk d : List ℕ} {g : Gathered} {e : List ℕ} {q : Gathered} {i : ℕ} (p : Part chunk d g e q i) where
  pub part_more : (e' : List ℕ) (q' : Gathered) → i < length chunk → (get_or chunk i 0 ≡ 10 → ⊥) → Gathers e e' q (get_or chunk i 0) q' →
      Part chunk d g e' q' (i + 1)
  unfolding gathered_all line_after
  part_more e' q' h x w =
      let rest = before_line (drop (i + 1) chunk) in
      let b = before_more chunk i h x in
      let a : q' ≡ gathered_is (length d) q = w.answer ∙ ap (λ (n : ℕ). gathered_is n q) p.kept in
      let l : line_after e' q' rest ≡ line_after e q (get_or chunk i 0 ∷ rest) = λ j. line_after (w.bytes j) (w.answer j) rest in
      record {
        inside = omega arith;
        kept = w.kept ∙ p.kept;
        used = omega (arith, p.used, ap length b);
        gathered = ap (λ (y : Gathered). gathered_all (length d) y rest) a ∙ sym (ap (gathered_all (length d) q) b) ∙ p.gathered;
        line = l ∙ sym (ap (line_after e q) b) ∙ p.line;
      }

  -- nothing is left before the line feed, or before the end
  ends : before_line (drop i chunk) ≡ [] → Runs chunk d e g (record { gathered = q; used = i })
  unfolding gathered_all line_after
  ends b =
      record {
        used = omega (arith, p.used, ap length b);
        gathered = sym (ap (gathered_all (length d) q) b) ∙ p.gathered;
        line = sym (ap (line_after e q) b) ∙ p.line;
      }

  pub part_feed : i < length chunk → get_or chunk i 0 ≡ 10 → Runs chunk d e g (record { gathered = q; used = i })
  part_feed h x = ends (before_feed_lem chunk i h x)

  pub part_end : length chunk ≤ i → Runs chunk d e g (record { gathered = q; used = length chunk })
  part_end h =
      let w = ends (before_end chunk i h) in record { used = omega (arith, h, p.inside, w.used); gathered = w.gathered; line = w.line }
