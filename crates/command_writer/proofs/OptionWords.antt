-- Words with one space between two, written one by one: what is written, and what is left. Rests on octets' laws of writes.
use Rattle.listing_rules.proofs.Prelude.{◌≡◌, refl, Bool, ◌&&◌, false, not, true, List, [], ◌++◌, ◌∷◌, ◌+◌, ◌<◌, ◌^◌, ℕ, length}
use Rattle.listing_rules.specs.Lines.{chosen, spaced, spaced_tail}
use Rattle.listing_rules.specs.LineReader.{separated}
use Rattle.listing_rules.specs.Walk.{when}
use Rattle.octets.specs.Put.{Put}
use Rattle.octets.proofs.Puts.{Putting, putting_none, putting_more, putting_all}
use Rattle.command_writer.specs.declared.words.Words.{Words}

-- the text of the words that are left, at the begin or after another
unfoldable pub tail_text : Bool → List (List ℕ) → List ℕ
tail_text true ns = spaced ns
tail_text false ns = spaced_tail ns

pub tail_next : (first : Bool) (n : List ℕ) (ns : List (List ℕ)) → tail_text first (n ∷ ns) ≡ separated first n ++ tail_text false ns
unfolding tail_text spaced spaced_tail separated
tail_next true n ns = refl
tail_next false n ns = refl

pub tail_none : (first : Bool) → tail_text first [] ≡ []
unfolding tail_text spaced spaced_tail
tail_none true = refl
tail_none false = refl

-- the space, then the word
pub gap_word : (first : Bool) (n : List ℕ) → separated first [] ++ n ≡ separated first n
unfolding separated
gap_word true n = refl
gap_word false n = refl

-- the next word, which is shown or not
word_next : (first b : Bool) (bs : List Bool) (n : List ℕ) (ns : List (List ℕ))
    → tail_text first (chosen (b ∷ bs) (n ∷ ns)) ≡ when b (separated first n) ++ tail_text (not b && first) (chosen bs ns)
unfolding chosen when
word_next first true bs n ns = tail_next first n (chosen bs ns)
word_next first false bs n ns = refl

-- The words before are written as a list stands, and of `ns` those that `bs` shows are left.
abbrev pub Wording : List ℕ → List ℕ → ℕ → List ℕ → List Bool → List (List ℕ) → Words → Type 0
Wording d e at whole bs ns w = Putting d e at whole (tail_text w.first (chosen bs ns)) w.to

pub wording_none : (d : List ℕ) (at : ℕ) (bs : List Bool) (ns : List (List ℕ)) → length d + 1 < 2 ^ 64 → at < 2 ^ 64
    → Wording d d at (spaced (chosen bs ns)) bs ns (record { to = at; first = true })
unfolding tail_text
wording_none d at bs ns h g = putting_none d at (spaced (chosen bs ns)) h g

module _ (b : Bool) (bs : List Bool) (n : List ℕ) (ns : List (List ℕ)) (w v : Words) {d e f : List ℕ} {at : ℕ} {whole : List ℕ} where
  pub wording_more : Wording d e at whole (b ∷ bs) (n ∷ ns) w → Put e f w.to (when b (separated w.first n)) v.to →
      v.first ≡ (not b && w.first)
      → Wording d f at whole bs ns v
  wording_more p q g = rw g (putting_more p (word_next w.first b bs n ns) q)

pub wording_all : (w : Words) {d e : List ℕ} {at : ℕ} {whole : List ℕ} → Wording d e at whole [] [] w → Put d e at whole w.to
unfolding chosen
wording_all w p = putting_all p (tail_none w.first)
