-- The joined command by the code's tests, in the server's order: each refusal where the tests before it pass, then the line. Rests on the
-- library alone.
use Rattle.listing_rules.proofs.Prelude.{◌∙◌, ◌≡◌, Bool, ◌&&◌, cond, false, not, true, List, ◌<◌, ◌≤◌, ℕ, leb, length, le-leb, lt-leb}
use Rattle.listing_rules.specs.Bytes.{all, is_empty}
use Rattle.listing_rules.specs.Lists.{every}
use Rattle.listing_rules.specs.Tokens.{tag_byte}
use Rattle.listing_rules.specs.Options.{lawful_options}
use Rattle.listing_rules.specs.Command.{canonical}
use Rattle.listing_rules.specs.Joining.{lawful_set, options_from, packed_patterns, patterns_fill, can_stand, joined_text, joined_line}
use Rattle.listing_rules.specs.Server.{Reply, refusal, answered}
use Rattle.listing_rules.proofs.Bools.{and_assoc}
use Rattle.command_writer.specs.Patterns.{short}

module _ (tag : List ℕ) (k : ℕ) (r list : List ℕ) where
  abbrev pub joined : List ℕ
  joined = joined_text tag (options_from k) r (packed_patterns list)

  -- a line can hold the strings
  abbrev pub stands : Bool
  stands = can_stand r && every can_stand (packed_patterns list)

  abbrev pub grammatical : Bool
  grammatical = not (is_empty tag) && all tag_byte tag && not (is_empty list) && patterns_fill 0 list

  abbrev pub few : Bool
  few = leb (length (packed_patterns list)) 8 && every short (canonical r (packed_patterns list))

  -- what is decided once a line can hold the command
  abbrev rest : Reply
  rest =
      cond grammatical (cond (lawful_set k) (cond (lawful_options (options_from k)) (cond few (answered joined) (refusal 8)) (refusal 7)) (refusal 6))
      (refusal 4)

  line_opened : joined_line tag k r list ≡ cond (leb (length joined) 2048 && stands) rest (refusal 3)
  unfolding joined_line
  line_opened = rw (and_assoc (leb (length joined) 2048) (can_stand r) (every can_stand (packed_patterns list)))

  pub line_long : 2048 < length joined → joined_line tag k r list ≡ refusal 3
  line_long h = line_opened ∙ rw (lt-leb (length joined) 2048 h)

  module _ (fits : length joined ≤ 2048) where
    pub line_unheld : stands ≡ false → joined_line tag k r list ≡ refusal 3
    line_unheld a = line_opened ∙ rw (le-leb (length joined) 2048 fits, a)

    held : stands ≡ true → joined_line tag k r list ≡ rest
    held a = line_opened ∙ rw (le-leb (length joined) 2048 fits, a)

    pub line_off : stands ≡ true → grammatical ≡ false → joined_line tag k r list ≡ refusal 4
    line_off a b = held a ∙ rw b

    pub line_unknown : stands ≡ true → grammatical ≡ true → lawful_set k ≡ false → joined_line tag k r list ≡ refusal 6
    line_unknown a b c = held a ∙ rw (b, c)

    pub line_alone : stands ≡ true → grammatical ≡ true → lawful_set k ≡ true → lawful_options (options_from k) ≡ false →
        joined_line tag k r list ≡ refusal 7
    line_alone a b c d = held a ∙ rw (b, c, d)

    pub line_many : stands ≡ true → grammatical ≡ true → lawful_set k ≡ true → lawful_options (options_from k) ≡ true → few ≡ false
        → joined_line tag k r list ≡ refusal 8
    line_many a b c d e = held a ∙ rw (b, c, d, e)

    pub line_joined : stands ≡ true → grammatical ≡ true → lawful_set k ≡ true → lawful_options (options_from k) ≡ true → few ≡ true
        → joined_line tag k r list ≡ answered joined
    line_joined a b c d e = held a ∙ rw (b, c, d, e)
