-- What a row is marked with, once a command.
use Rattle.std.specs.Prelude.{Bool, ◌&&◌, ◌||◌, not, List, [], ◌∷◌, ℕ}
use Rattle.listing_rules.specs.Lists.{any_of}
use Rattle.listing_rules.specs.Flags.{exists, remote}
use Rattle.listing_rules.specs.Table.{Row}
use Rattle.listing_rules.specs.Options.{Options}
use Rattle.listing_rules.specs.Match.{matches_any}
use Rattle.listing_rules.specs.Listing.{meets_criteria, unselective, ends_in_percent}
use Rattle.list_line.specs.Members.{set_of}
use Rattle.command_line.specs.OptionSets.{options_is}
use Rattle.mailbox_table.specs.Index.{row_at_word}
use Rattle.mailbox_table.specs.Below.{with_marks}
use Rattle.pattern.specs.Packed.{unpacked}
use Rattle.pattern.specs.Chosen.{chosen}
use Rattle.list_answer.specs.declared.question.Question.{Question}

-- the command lists levels
abbrev pub levels_asked : Options → List (List ℕ) → Bool
levels_asked o ps = unselective o && any_of ends_in_percent ps

-- a name with flags f can be listed as a level alone: levels are listed, and it does not exist
abbrev pub level_only : Options → List (List ℕ) → ℕ → Bool
level_only o ps f = levels_asked o ps && not (exists f)

-- the row meets the criteria
abbrev pub meets_mark : Options → Row → Bool
meets_mark o r = meets_criteria o r.flags

-- it meets them and matches no pattern, which matters under RECURSIVEMATCH alone
abbrev pub unmatched_mark : Options → List (List ℕ) → Row → Bool
unmatched_mark o ps r = o.sel_recursive && (meets_criteria o r.flags && not (matches_any ps r.name))

-- it makes a name above it one with children
abbrev pub child_mark : Options → Row → Bool
child_mark o r = exists r.flags && (not (remote r.flags) || o.sel_remote)

-- it can be listed, and its name matches a pattern that counts for it
abbrev pub matched_mark : Options → List (List ℕ) → Row → Bool
matched_mark o ps r =
    let level = level_only o ps r.flags in
    ((meets_criteria o r.flags || o.sel_recursive) || level) && matches_any (chosen level ps) r.name

-- the set of its marks: MEETING is 1, UNMATCHED 2, CHILD 4, MATCHED 8
unfoldable pub row_marks : Options → List (List ℕ) → Row → ℕ
row_marks o ps r = set_of (meets_mark o r ∷ unmatched_mark o ps r ∷ child_mark o r ∷ matched_mark o ps r ∷ [])

-- a row's word with its marks
unfoldable pub marked_word : List ℕ → List ℕ → Question → ℕ → ℕ
marked_word area patterns q w = with_marks (row_marks (options_is q.options) (unpacked patterns) (row_at_word area w)) w
