-- What the answer shows of a name.
use Rattle.std.specs.Prelude.{Option, Some, None}
use Rattle.std.specs.Prelude.{◌≡◌, Bool, true, cond, ◌&&◌, ◌||◌, not, List, [], ◌++◌, map, ℕ, leb, length}
use Rattle.listing_rules.specs.Lists.{joined}
use Rattle.listing_rules.specs.Table.{Row, flags_of}
use Rattle.listing_rules.specs.Options.{Options, Criteria, no_criteria, criteria_number}
use Rattle.listing_rules.specs.Match.{matches_any}
use Rattle.listing_rules.specs.Listing.{candidate_meets, meets_below, meets_unmatched_below, listed, attributes, child_info, listed_names}
use Rattle.listing_rules.specs.Lines.{word_line, ok_line}
use Rattle.listing_rules.specs.Lsub.{is_subscribed, lsub_attributes}
use Rattle.listing_rules.specs.Server.{Reply, refusal, answered, list_answer, lsub_answer}
use Rattle.list_line.specs.declared.words.LineWord.{LineWord}
use Rattle.list_line.specs.declared.words.LineWord.TheVariants.{List as OfList, Lsub as OfLsub}
use Rattle.list_line.specs.Members.{set_of}
use Rattle.list_line.specs.Words.{start_of}
use Rattle.mailbox_table.specs.Index.{nth_row, nth_name, rows_at}
use Rattle.mailbox_table.specs.Below.{below_from, prefix_of}
use Rattle.pattern.specs.Packed.{unpacked}
use Rattle.pattern.specs.Chosen.{chosen}
use Rattle.command_line.specs.declared.Options.{Options as OptionSet}
use Rattle.command_line.specs.OptionSets.{options_is}
use Rattle.list_answer.specs.declared.question.Question.{Question}
use Rattle.list_answer.specs.declared.decide.Beginning.{Beginning}
use Rattle.list_answer.specs.declared.decide.Line.{Line}
use Rattle.list_answer.specs.declared.view.View.{View}
use Rattle.list_answer.specs.declared.decide.Standing.{Standing}
use Rattle.list_answer.specs.Prefixes.{longer, prefixes}
use Rattle.list_answer.specs.Marks.{level_only}
use Rattle.list_answer.specs.Ready.{Ready, At}

-- A name that matches is listed by its own right, or as a level

-- it meets the criteria, or, under RECURSIVEMATCH, something below it does that matches no pattern
abbrev pub by_right : List Row → Options → List (List ℕ) → List ℕ → Bool
by_right rs o ps n = candidate_meets rs o n || (o.sel_recursive && meets_unmatched_below rs o ps n)

-- levels are listed, it does not exist, and something below it meets the criteria
abbrev pub as_level : List Row → Options → List (List ℕ) → List ℕ → Bool
as_level rs o ps n = level_only o ps (flags_of rs n) && meets_below rs o n

-- it matches a pattern that counts for it
abbrev pub matches_for : List Row → Options → List (List ℕ) → List ℕ → Bool
matches_for rs o ps n = matches_any (chosen (level_only o ps (flags_of rs n)) ps) n

-- What is shown

-- the attributes on a line with this word, and the criteria that its CHILDINFO names
unfoldable pub attributes_on : LineWord → List Row → Options → List (List ℕ) → List ℕ → List Bool
attributes_on OfList rs o ps n = attributes rs o ps n
attributes_on OfLsub rs o ps n = lsub_attributes (not (is_subscribed rs n))

unfoldable pub criteria_on : LineWord → List Row → Options → List ℕ → Criteria
criteria_on OfList rs o n = child_info rs o n
criteria_on OfLsub rs o n = no_criteria

-- a listed name's line
unfoldable pub line_on : LineWord → List Row → Options → List (List ℕ) → List ℕ → List ℕ
line_on w rs o ps n = word_line (start_of w) (attributes_on w rs o ps n) n (criteria_on w rs o n)

-- what it shows of the name: the attributes, and the criteria in CHILDINFO
abbrev pub line_of : LineWord → List Row → Options → List (List ℕ) → List ℕ → Line
line_of w rs o ps n =
    record {
      attributes = record { bits = set_of (attributes_on w rs o ps n) };
      criteria = record { bits = criteria_number (criteria_on w rs o n) };
    }

-- a line, or nothing
unfoldable pub shown_is : LineWord → List Row → Options → List (List ℕ) → List ℕ → Option Line
shown_is w rs o ps n = cond (listed rs o ps n) (Some (line_of w rs o ps n)) None

-- the text of a name's line, or none
unfoldable pub shown_text : LineWord → List Row → Options → List (List ℕ) → List ℕ → List ℕ
shown_text w rs o ps n = cond (listed rs o ps n) (line_on w rs o ps n) []

-- The same of what the code has: an index, packed patterns, a question

-- the name that a beginning tells of
abbrev pub begun : List ℕ → List ℕ → Beginning → List ℕ
begun area words b = prefix_of area words b.row b.len

-- some row below it has these marks
abbrev pub found_below : List ℕ → List ℕ → ℕ → Beginning → Bool
found_below area words m b = below_from area words m (begun area words b) b.row

abbrev pub shown_at : List ℕ → List ℕ → List ℕ → Question → Beginning → Option Line
shown_at area words patterns q b = shown_is q.word (rows_at area words) (options_is q.options) (unpacked patterns) (begun area words b)

-- What the code promises of a name, where the rows are ready for the question and the patterns and the name is one to look at

-- what `decide` promises
abbrev pub Decided : List ℕ → List ℕ → List ℕ → Question → Beginning → Option Line → Type 0
Decided area words patterns q b r = Ready area words patterns q → At words b → r ≡ shown_at area words patterns q b

-- what the rows say of a name
pub record Stands (area words patterns : List ℕ) (q : Question) (b : Beginning) (s : Standing) : Type 0 where
  pub flags : s.flags.bits ≡ flags_of (rows_at area words) (begun area words b)
  pub level : s.level ≡ as_level (rows_at area words) (options_is q.options) (unpacked patterns) (begun area words b)
  pub counts : s.counts ≡ (by_right (rows_at area words) (options_is q.options) (unpacked patterns) (begun area words b) || s.level)

-- what `look_at` promises: for whatever patterns the rows are marked
abbrev pub StandsFor : List ℕ → List ℕ → Question → Beginning → Standing → Type 0
StandsFor area words q b s = (patterns : List ℕ) → Ready area words patterns q → At words b → Stands area words patterns q b s

-- what `is_matched` promises: where the name is listed if it matches, whether it does
abbrev pub Matched : List ℕ → List ℕ → List ℕ → Question → Beginning → Bool → Type 0
Matched area words patterns q b r =
    let rs = rows_at area words in
    let o = options_is q.options in
    let ps = unpacked patterns in
    let n = begun area words b in
    Ready area words patterns q → At words b → (by_right rs o ps n || as_level rs o ps n) ≡ true → r ≡ matches_for rs o ps n

-- the texts of a name, of the names that begin at row i, and of all rows
abbrev pub text_of : List ℕ → List ℕ → List ℕ → Question → List ℕ → List ℕ
text_of area words patterns q n = shown_text q.word (rows_at area words) (options_is q.options) (unpacked patterns) n

abbrev pub text_at : List ℕ → List ℕ → List ℕ → Question → Beginning → List ℕ
text_at area words patterns q b = text_of area words patterns q (begun area words b)

abbrev pub row_text : List ℕ → List ℕ → List ℕ → Question → ℕ → List ℕ
row_text area words patterns q i = joined (map (text_of area words patterns q) (longer (nth_row words i).shared (nth_name area words i)))

abbrev pub rows_text : List ℕ → List ℕ → List ℕ → Question → List ℕ
rows_text area words patterns q = joined (map (text_of area words patterns q) (prefixes (rows_at area words)))

-- the whole answer, and the reply that it is
unfoldable pub answer_for : LineWord → List Row → List ℕ → Options → List (List ℕ) → List ℕ
answer_for w rs tag o ps = joined (map (line_on w rs o ps) (listed_names rs o ps)) ++ ok_line tag

abbrev pub answer_text : List ℕ → List ℕ → List ℕ → Question → List ℕ → List ℕ
answer_text area words patterns q tag = answer_for q.word (rows_at area words) tag (options_is q.options) (unpacked patterns)

abbrev pub reply_to : List ℕ → List ℕ → List ℕ → Question → List ℕ → Reply
reply_to area words patterns q tag = answered (answer_text area words patterns q tag)

-- The same of a view: of a name, of the names that begin at row i, of all rows, and the whole answer

abbrev pub view_name : View → Beginning → List ℕ
view_name v b = text_at v.area.now v.words.now v.patterns.now v.question b

abbrev pub view_row : View → ℕ → List ℕ
view_row v i = row_text v.area.now v.words.now v.patterns.now v.question i

abbrev pub view_rows : View → List ℕ
view_rows v = rows_text v.area.now v.words.now v.patterns.now v.question

abbrev pub view_answer : View → List ℕ → List ℕ
view_answer v tag = answer_text v.area.now v.words.now v.patterns.now v.question tag

-- The replies of the two commands

abbrev pub list_reply : List ℕ → List ℕ → List ℕ → OptionSet → List ℕ → Reply
list_reply area words patterns o tag = answered (list_answer (rows_at area words) tag (options_is o) (unpacked patterns))

-- LSUB has "a single pattern": a second one is 4, as on its line
abbrev pub lsub_reply : List ℕ → List ℕ → List ℕ → List ℕ → Reply
lsub_reply area words patterns tag =
    cond (leb (length (unpacked patterns)) 1) (answered (lsub_answer (rows_at area words) tag (unpacked patterns))) (refusal 4)
