-- The attributes' names in one text, and where each stands in it.
use Rattle.std.specs.Prelude.{◌≡◌, Bool, cond, List, [], ◌∷◌, ℕ, ◌+◌, ◌-◌, ◌≤◌, leb, get_or, take, drop, length}
use Rattle.listing_rules.specs.Lines.{attribute_names, spaced_tail}
use Rattle.listing_rules.specs.LineReader.{separated}
use Rattle.list_line.specs.declared.texts.Span.{Span}

-- every name behind a space
unfoldable pub all_names : List ℕ
all_names = spaced_tail attribute_names

-- where the space before each name stands in it, and the end of the last
unfoldable pub name_places : List ℕ
name_places = 0 ∷ 8 ∷ 18 ∷ 28 ∷ 41 ∷ 49 ∷ 61 ∷ 74 ∷ 79 ∷ 88 ∷ 96 ∷ 105 ∷ 111 ∷ 117 ∷ 124 ∷ 137 ∷ 152 ∷ []

unfoldable pub name_of : ℕ → List ℕ
name_of k = get_or attribute_names k []

-- the part of a text that a table of places has at place k: from there, or one byte later, up to the next place; past the table, nothing
abbrev pub span_in : List ℕ → ℕ → Bool → Span
span_in places k first =
    cond (leb (length places) k) (record { start = 0; end = 0 })
    (record { start = cond first (get_or places k 0 + 1) (get_or places k 0); end = get_or places (k + 1) 0 })

-- s is the part of the text that is name k, with the space before it unless it is the first on its line
pub record NameSpan (k : ℕ) (first : Bool) (s : Span) : Type 0 where
  pub order : s.start ≤ s.end
  pub inside : s.end ≤ length all_names
  pub name : take (s.end - s.start) (drop s.start all_names) ≡ separated first (name_of k)
