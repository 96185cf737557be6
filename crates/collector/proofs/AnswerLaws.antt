-- The lines of an answer taken in one after the other. Rests on the library alone.
use Rattle.listing_rules.proofs.Prelude.{◌∙◌, ◌≡◌, ap, sym, List, ◌<◌, suc, ℕ, arith, drop, drop_of_length-le, drop-cons, get_or, length}
use Rattle.listing_rules.specs.LineReader.{read_line}
use Rattle.listing_rules.specs.Walk.{Lists, Step, stop, go, ◌then◌, lines_of, taken_in, taken_all}
use Rattle.collector.specs.Options.{byte_of}
use Rattle.collector.specs.Taking.{Inside, Holds, Goes, line_step, answer_step}
use Rattle.collector.specs.declared.lines.Progress.{Progress}
use Rattle.collector.specs.declared.options.WalkOptions.{WalkOptions}

-- what lines give to the two lists
abbrev lines_step : WalkOptions → List (List ℕ) → List ℕ → List ℕ → Lists → Step Lists
lines_step w ls found pending s = taken_all (byte_of w) (length found) (length pending) s ls

-- So many lines were taken: those that are left give what all lines give to the lists that lay in the buffers at first.
pub record Taking (w : WalkOptions) (answer : List ℕ) (p : Progress) (found pending found' pending' : List ℕ) (q : Progress) (at : ℕ) : Type 0 where
  pub inside : Inside found' pending' q
  pub found_long : length found' ≡ length found
  pub pending_long : length pending' ≡ length pending
  pub counted : q.count ≡ p.count
  pub lists : (s : Lists) → Holds s found pending p →
      (u : Lists) × (lines_step w (drop at (lines_of answer)) found pending u ≡ answer_step w answer found pending s) × Holds u found' pending' q

module _ {w : WalkOptions} {answer : List ℕ} {p : Progress} {d b d₁ b₁ : List ℕ} {q : Progress} {at : ℕ} (T : Taking w answer p d b d₁ b₁ q at) where
  -- no line is left
  pub taking_end : at ≡ length (lines_of answer) → Goes (answer_step w answer d b) p.count d b p d₁ b₁ q
  unfolding taken_all
  taking_end h =
      record {
        inside = T.inside;
        counted = T.counted;
        lists = λ s g. let t = T.lists s g in (t.0, sym t.1 ∙ rw (drop_of_length-le (lines_of answer) {i = at} (omega arith)), t.2);
      }

  -- one line more
  module _ (line : List ℕ) (h : at < length (lines_of answer)) (e : line ≡ get_or (lines_of answer) at line) where
    step_on : (u : Lists) (x : Step Lists) → line_step w line d₁ b₁ u ≡ x →
        lines_step w (drop at (lines_of answer)) d b u ≡ (x then lines_step w (drop (suc at) (lines_of answer)) d b)
    unfolding taken_all
    step_on u x g =
        rw (drop-cons (lines_of answer) at line h, ← e)
        (ap (λ (y : Step Lists). y then lines_step w (drop (suc at) (lines_of answer)) d b)
        ((λ i. taken_in (byte_of w) (sym T.found_long i) (sym T.pending_long i) u (read_line line)) ∙ g))

    pub taking_line : {d₂ b₂ : List ℕ} {r : Progress} {next : ℕ} → next ≡ suc at → Goes (line_step w line d₁ b₁) q.count d₁ b₁ q d₂ b₂ r →
        length d₂ ≡ length d₁ → length b₂ ≡ length b₁ → Taking w answer p d b d₂ b₂ r next
    unfolding ◌then◌
    taking_line one g l₁ l₂ =
        rw one
        (record {
          inside = g.inside;
          found_long = l₁ ∙ T.found_long;
          pending_long = l₂ ∙ T.pending_long;
          counted = g.counted ∙ T.counted;
          lists = λ s k. let t = T.lists s k in let v = g.lists t.0 t.2 in (v.0, sym (step_on t.0 (go v.0) v.1) ∙ t.1, v.2);
        })

    pub taking_refused : {k : ℕ} → ((s : Lists) → Holds s d₁ b₁ q → line_step w line d₁ b₁ s ≡ stop k) → (s : Lists) → Holds s d b p → answer_step w answer d b s ≡ stop k
    unfolding ◌then◌
    taking_refused {k} f s g = let t = T.lists s g in sym t.1 ∙ step_on t.0 (stop k) (f t.0 t.2)
