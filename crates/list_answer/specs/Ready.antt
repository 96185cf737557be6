-- What the functions over the rows rely on.
use Rattle.std.specs.Prelude.{◌≡◌, Bool, cond, List, ℕ, ◌≤◌, ◌<◌, length, get_or}
use Rattle.listing_rules.specs.Lists.{any_of}
use Rattle.listing_rules.specs.Options.{Options as Named}
use Rattle.listing_rules.specs.Listing.{ends_in_percent}
use Rattle.list_line.specs.declared.words.LineWord.TheVariants.{List as OfList, Lsub as OfLsub}
use Rattle.command_line.specs.declared.Options.{Options}
use Rattle.command_line.specs.OptionSets.{options_is}
use Rattle.mailbox_table.specs.Index.{nth_row, row_at_word, Index}
use Rattle.mailbox_table.specs.Below.{marks_of}
use Rattle.pattern.specs.Packed.{unpacked}
use Rattle.list_answer.specs.declared.question.Question.{Question}
use Rattle.list_answer.specs.declared.decide.Beginning.{Beginning}
use Rattle.list_answer.specs.declared.view.View.{View}
use Rattle.list_answer.specs.Marks.{levels_asked, row_marks}

-- a question knows whether levels are listed
abbrev pub Knows : List ℕ → Question → Type 0
Knows patterns q = q.levels ≡ levels_asked (options_is q.options) (unpacked patterns)

-- what `Question::of` promises: the options as they are, the word LIST, and what it knows
abbrev pub Asks : List ℕ → Options → Question → Type 0
Asks patterns o q = (q.options ≡ o) × (q.word ≡ OfList) × Knows patterns q

-- the set of SUBSCRIBED, which is 1, and REMOTE, 2, with RECURSIVEMATCH, 4, or without
abbrev pub lsub_set : Bool → ℕ
lsub_set recursive = cond recursive 7 3

-- what `Question::lsub` promises: RECURSIVEMATCH exactly if a pattern ends in "%", and the word LSUB
abbrev pub AsksLsub : List ℕ → Question → Type 0
AsksLsub patterns q = (q.options.bits ≡ lsub_set (any_of ends_in_percent (unpacked patterns))) × (q.word ≡ OfLsub) × Knows patterns q

-- every row has its marks
abbrev pub Marked : List ℕ → List ℕ → Named → List (List ℕ) → Type 0
Marked area words o ps = (k : ℕ) → k < length words → marks_of (get_or words k 0) ≡ row_marks o ps (row_at_word area (get_or words k 0))

-- the index of a table that passes, its rows marked for the question and the patterns
pub record Ready (area words patterns : List ℕ) (q : Question) : Type 0 where
  pub index : Index area words
  pub marked : Marked area words (options_is q.options) (unpacked patterns)
  pub knows : Knows patterns q

-- the rows of a view are ready for its question and its patterns
abbrev pub IsReady : View → Type 0
IsReady v = Ready v.area.now v.words.now v.patterns.now v.question

-- a beginning of a row's name, longer than what it shares with the name before
pub record At (words : List ℕ) (b : Beginning) : Type 0 where
  pub row : b.row < length words
  pub beyond : (nth_row words b.row).shared < b.len
  pub within : b.len ≤ (nth_row words b.row).len
