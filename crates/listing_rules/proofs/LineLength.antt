-- A line that is one command has at most 2,048 bytes. Rests on Bools.
use Rattle.listing_rules.proofs.Prelude.{◌∙◌, ◌≡◌, refl, sym, Bool, ◌||◌, cond, false, false≢true, not, true, Option, none, some, List, []}
use Rattle.listing_rules.proofs.Prelude.{◌++◌, ◌∷◌, ◌+◌, ◌-◌, ◌≤◌, suc, ℕ, add-one, arith, eqb, leb, length, length-append, take, leb-true}
use Rattle.listing_rules.specs.Bytes.{is_empty}
use Rattle.listing_rules.specs.Command.{line_text, parsed, or_refuse, is_edit, tagged}
use Rattle.listing_rules.specs.Feeder.{Feeder, reading, in_literal, dropping, first, AfterByte, quiet, go_on, denied, gives, offends, refusing}
use Rattle.listing_rules.specs.Feeder.{awaiting, line_ended, text_byte, fed_byte, ends_line, announced, allowed, still_one, one_command}
use Rattle.listing_rules.proofs.Bools.{and_r}

-- the bytes of the command so far
abbrev kept_length : Feeder → ℕ
kept_length (reading kept line) = length kept
kept_length (in_literal kept n) = length kept
kept_length (dropping cr) = 0

abbrev Reading : Feeder → Type 0
Reading (reading kept line) = Unit {0}
Reading (in_literal kept n) = Unit {0}
Reading (dropping cr) = ⊥

-- what the rest of the line comes to after this step, where it is one command
abbrev Goes : AfterByte → List ℕ → ℕ → Type 0
Goes r t k = still_one r.event (is_empty t) (one_command r.state t) ≡ true → k + length t ≤ 2048

empty_nil : (t : List ℕ) → is_empty t ≡ true → length t ≡ 0
unfolding is_empty
empty_nil [] e = refl
empty_nil (c ∷ t) e = absurd (false≢true e)

within_room : (kept : List ℕ) (c : ℕ) → offends kept c ≡ false → leb (suc (length kept)) 2048 ≡ true
unfolding offends
within_room kept c e = go (leb (suc (length kept)) 2048) refl e
  where
    go : (b : Bool) → leb (suc (length kept)) 2048 ≡ b → (not b || eqb c 0) ≡ false → b ≡ true
    go true h f = refl
    go false h f = absurd (false≢true (sym f))

-- one byte more, where the rest is short from any state
module _ (t : List ℕ) (shorter : (s : Feeder) → Reading s → one_command s t ≡ true → kept_length s + length t ≤ 2048) (kept : List ℕ) (c : ℕ) where
  abbrev more : List ℕ
  more = kept ++ (c ∷ [])

  held : length more ≡ suc (length kept)
  held = length-append kept (c ∷ []) ∙ add-one (length kept)

  waits : (n : ℕ) (z : Bool) → one_command (cond z (reading more []) (in_literal more n)) t ≡ true → suc (length kept) + length t ≤ 2048
  waits n true f = omega (arith, shorter (reading more []) tt f, held)
  waits n false f = omega (arith, shorter (in_literal more n) tt f, held)

  announces : (n : ℕ) (b : Bool) → Goes (cond b (gives (awaiting more n) go_on) (gives first (denied 3))) t (suc (length kept))
  unfolding awaiting gives still_one
  announces n true f = waits n (eqb n 0) f
  announces n false f = absurd (false≢true f)

  ended : leb (suc (length kept)) 2048 ≡ true → (a : Option ℕ) → Goes (line_ended more a) t (suc (length kept))
  unfolding line_ended gives still_one
  ended few none e = omega (arith, leb-true (suc (length kept)) 2048 few, empty_nil t e)
  ended few (some n) e = announces n (leb n 1024) e

  texts : leb (suc (length kept)) 2048 ≡ true → (line : List ℕ) (b : Bool) → Goes (cond b (line_ended more (announced line)) (gives (reading more line) quiet)) t (suc (length kept))
  unfolding gives still_one
  texts few line true f = ended few (announced line) f
  texts few line false f = omega (arith, shorter (reading more line) tt f, held)

  text_short : (line : List ℕ) (o : Bool) → offends kept c ≡ o → Goes (cond o (refusing kept c) (text_byte more line)) t (suc (length kept))
  unfolding refusing gives text_byte still_one
  text_short line true e f = absurd (false≢true f)
  text_short line false e f = texts (within_room kept c e) line (ends_line line) f

  literal_short : (n : ℕ) (o : Bool) → offends kept c ≡ o → Goes (cond o (refusing kept c) (gives (awaiting more n) quiet)) t (suc (length kept))
  unfolding refusing gives awaiting still_one
  literal_short n true e f = absurd (false≢true f)
  literal_short n false e f = waits n (eqb n 0) f

one_short : (t : List ℕ) (s : Feeder) → Reading s → one_command s t ≡ true → kept_length s + length t ≤ 2048
unfolding one_command fed_byte
one_short [] s r h = absurd (false≢true h)
one_short (c ∷ t) (reading kept line) r h =
    omega (arith, text_short t (one_short t) kept c (line ++ (c ∷ [])) (offends kept c) refl (and_r (allowed (reading kept line) c) _ h))
one_short (c ∷ t) (in_literal kept n) r h = omega (arith, literal_short t (one_short t) kept c (n - 1) (offends kept c) refl (and_r (allowed (in_literal kept n) c) _ h))
one_short (c ∷ t) (dropping cr) r h = absurd r

-- so has the line of an edit
pub edit_short : (l : List ℕ) → is_edit (parsed l) ≡ true → length l ≤ 2048
unfolding parsed line_text or_refuse is_edit first
edit_short l h = go (one_command first l) refl h
  where
    go : (b : Bool) → one_command first l ≡ b → is_edit (or_refuse 3 (cond b (some (take (length l - 2) l)) none) tagged) ≡ true → length l ≤ 2048
    go true e f = omega (arith, one_short l first tt e)
    go false e f = absurd (false≢true f)
