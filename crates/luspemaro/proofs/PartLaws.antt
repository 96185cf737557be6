-- Laws of parts of the input that were answered in turn: one part more, one run of parts after another, and what they come to. Rests on
-- listing_rules' InputCut.
use Rattle.listing_rules.proofs.Prelude.{◌∙◌, ◌≡◌, ap, refl, subst, sym, List, [], ◌++◌, ◌∷◌, append_assoc, append-nil, ℕ}
use Rattle.listing_rules.specs.Frames.{Session, Fed as Came, behind, fed_all}
use Rattle.listing_rules.proofs.InputCut.{fed_all_append}
use Rattle.luspemaro.specs.Serving.{Memory, HoldsIn, Part, Answers, left_by, InTurn, input_of, all_sent, Through}

-- the first parts and those after them
left_append : (m : Memory) (xs ys : List Part) → left_by m (ys ++ xs) ≡ left_by (left_by m xs) ys
left_append m xs [] = refl
left_append m xs (y ∷ ys) = refl

in_turn_append : (m : Memory) (xs ys : List Part) → InTurn m xs → InTurn (left_by m xs) ys → InTurn m (ys ++ xs)
in_turn_append m xs [] p q = p
in_turn_append m xs (y ∷ ys) p q = (in_turn_append m xs ys p q.0, subst (λ (z : Memory). Answers z y) (sym (left_append m xs ys)) q.1)

input_append : (xs ys : List Part) → input_of (ys ++ xs) ≡ input_of xs ++ input_of ys
unfolding input_of
input_append xs [] = sym (append-nil (input_of xs))
input_append xs (y ∷ ys) = ap (λ (l : List ℕ). l ++ y.bytes) (input_append xs ys) ∙ append_assoc (input_of xs) (input_of ys) y.bytes

pub through_none : (m : Memory) → Through [] m m
unfolding input_of
through_none m = record { parts = []; in_turn = tt; left = refl; input = refl }

pub through_part : {bytes : List ℕ} {m n : Memory} (x : Part) → Through bytes m n → Answers n x → Through (bytes ++ x.bytes) m x.left
unfolding input_of
through_part x t a =
    record {
      parts = x ∷ t.parts;
      in_turn = (t.in_turn, subst (λ (z : Memory). Answers z x) (sym t.left) a);
      left = refl;
      input = ap (λ (l : List ℕ). l ++ x.bytes) t.input;
    }

pub through_append : {a b : List ℕ} {m n k : Memory} → Through a m n → Through b n k → Through (a ++ b) m k
through_append {m = m} {k = k} t u =
    let same = subst (λ (z : Memory). InTurn z u.parts) (sym t.left) u.in_turn in
    record {
      parts = u.parts ++ t.parts;
      in_turn = in_turn_append m t.parts u.parts t.in_turn same;
      left = left_append m t.parts u.parts ∙ ap (λ (z : Memory). left_by z u.parts) t.left ∙ u.left;
      input = input_append t.parts u.parts ∙ (λ i. t.input i ++ u.input i);
    }

-- what parts come to that were answered in turn: the memory holds the session after their bytes, and what was sent is what that answers
none_held : (m : Memory) (s : Session) → HoldsIn m s → HoldsIn m (fed_all s []).session × ([] ≡ (fed_all s []).output)
unfolding fed_all
none_held m s h = (h, refl)

pub in_turn_says : (m : Memory) (xs : List Part) → InTurn m xs → (s : Session) → HoldsIn m s →
    HoldsIn (left_by m xs) (fed_all s (input_of xs)).session × (all_sent xs ≡ (fed_all s (input_of xs)).output)
unfolding input_of all_sent behind
in_turn_says m [] t s h = none_held m s h
in_turn_says m (x ∷ xs) t s h =
    let before = in_turn_says m xs t.0 s h in
    let then = (fed_all s (input_of xs)).session in
    let joined = fed_all_append s (input_of xs) x.bytes in (
      subst (λ (f : Came). HoldsIn x.left f.session) (sym joined) (t.1.holds then before.0),
      (λ i. before.1 i ++ t.1.says then before.0 i) ∙ sym (ap (λ (f : Came). f.output) joined),
    )
