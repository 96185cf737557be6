-- What a command that was read means in document 01, and where its spans lie.
use Rattle.std.specs.Prelude.{Result, Ok, Err, IfOk, ◌≡◌, Bool, false, cond, ◌&&◌, ◌||◌, not, List as Seq, ◌++◌, ℕ, ◌-◌, ◌≤◌, ◌<◌, take, drop, get_or, replicate}
use Rattle.std.proofs.Math.Option.{Option, none, some}
use Rattle.listing_rules.specs.Bytes.{text, is_empty}
use Rattle.listing_rules.specs.Tokens.{at, after}
use Rattle.listing_rules.specs.Lists.{every}
use Rattle.listing_rules.specs.Options.{Options as Named, lawful_options}
use Rattle.listing_rules.specs.Command.{Parsed, refused, namespace, listing, root_of, subscriptions, editing, subscribe, unsubscribe, canonical, is_some}
use Rattle.octets.specs.declared.refusals.Refusal.{Refusal}
use Rattle.octets.specs.declared.refusals.Refusal.TheVariants.{Grammar}
use Rattle.octets.specs.Refusals.{number_of}
use Rattle.command_tokens.specs.declared.Span.{Span}
use Rattle.command_line.specs.declared.Kind.{Kind}
use Rattle.command_line.specs.declared.Kind.TheVariants.{List, Root, Namespace, Lsub, Subscribe, Unsubscribe}
use Rattle.command_line.specs.declared.Options.{Options}
use Rattle.command_line.specs.declared.Command.{Command}
use Rattle.command_line.specs.declared.list_command.Arguments.{Arguments}
use Rattle.command_tokens.specs.Spans.{span_bytes, Lies, nowhere}
use Rattle.command_line.specs.OptionSets.{options_is}
use Rattle.command_patterns.specs.declared.Patterns.{Patterns}
use Rattle.command_patterns.specs.Places.{no_patterns, kept, Placed}
use Rattle.command_patterns.specs.Canonical.{canonical_of}
pub use Rattle.command_patterns.specs.Canonical.{short, Few}
unfoldable pub use Rattle.command_patterns.specs.Canonical.{packed_bytes}

-- the canonical patterns of a command: the reference and each pattern that is not empty
unfoldable pub patterns_of : Seq ℕ → Command → Seq (Seq ℕ)
patterns_of s c = canonical_of s c.reference c.patterns

-- the name of an edit, which stands in the place of the reference
unfoldable pub name_of : Seq ℕ → Command → Seq ℕ
name_of s c = span_bytes s c.reference

-- the command by its kind
unfoldable pub meaning_as : Kind → Seq ℕ → Command → Parsed
meaning_as List s c = listing (span_bytes s c.tag) (options_is c.options) (patterns_of s c)
meaning_as Root s c = root_of (span_bytes s c.tag)
meaning_as Namespace s c = namespace (span_bytes s c.tag)
meaning_as Lsub s c = subscriptions (span_bytes s c.tag) (patterns_of s c)
meaning_as Subscribe s c = editing (span_bytes s c.tag) (subscribe (name_of s c))
meaning_as Unsubscribe s c = editing (span_bytes s c.tag) (unsubscribe (name_of s c))

-- a command that was read, as document 01 has it
unfoldable pub meaning_of : Seq ℕ → Command → Parsed
meaning_of s c = meaning_as c.kind s c

-- what the reading of a line comes to, as document 01 has it: a command, or the number of its refusal
abbrev pub meaning : Seq ℕ → Result Command Refusal → Parsed
meaning s (Ok c) = meaning_of s c
meaning s (Err e) = refused (number_of e)

-- no option
abbrev pub no_options : Options
no_options = record { bits = 0 }

-- a command of which its kind, its tag and a name are kept
abbrev pub named_command : Kind → Span → Span → Command
named_command k t n =
    record {
      kind = k;
      tag = t;
      options = no_options;
      reference = n;
      patterns = no_patterns;
    }

-- a command of which nothing but its kind and its tag is kept
abbrev pub bare_command : Kind → Span → Command
bare_command k t = named_command k t nowhere

-- of the eight places as many as there are patterns
abbrev pub first_places : Patterns → Patterns
first_places p = record { spans = take p.count p.spans ++ replicate (8 - p.count) nowhere; count = p.count }

-- a command with its reference, and of the eight places as many as it has patterns
abbrev pub with_patterns : Kind → Options → Command → Command
with_patterns k o c =
    record {
      kind = k;
      tag = c.tag;
      options = o;
      reference = c.reference;
      patterns = first_places c.patterns;
    }

-- The command of which all is empty that its kind does not use: LIST uses every field, LSUB all but the options; an edit uses the tag
-- and the name, the root line and NAMESPACE the tag alone.
unfoldable pub used_only : Kind → Command → Command
used_only List c = with_patterns List c.options c
used_only Lsub c = with_patterns Lsub no_options c
used_only Subscribe c = named_command Subscribe c.tag c.reference
used_only Unsubscribe c = named_command Unsubscribe c.tag c.reference
used_only Root c = bare_command Root c.tag
used_only Namespace c = bare_command Namespace c.tag

-- What a command holds beside its meaning: every part of it lies inside the line, and what its kind does not use is empty.
pub record Inside (s : Seq ℕ) (c : Command) : Type 0 where
  pub tag : Lies s c.tag
  -- the tag is never a quoted string, and stands at the line's front
  pub bare : c.tag.quoted ≡ false
  pub front : c.tag.start ≡ 0
  -- no bit but those of the seven options
  pub seven : c.options.bits < 128
  pub reference : Lies s c.reference
  pub patterns : (k : ℕ) → Lies s (get_or c.patterns.spans k nowhere)
  pub few : c.patterns.count ≤ 8
  pub rest : c ≡ used_only c.kind c

-- what is kept of the words after LIST
pub record Kept : Type 0 where
  -- each option is known and has no value
  pub known : Bool
  pub set : Named
  pub extended : Bool
  pub reference : Seq ℕ
  -- the patterns, unless they are more than eight
  pub pats : Option (Seq (Seq ℕ))

unfoldable pub arguments_is : Seq ℕ → Arguments → Kept
arguments_is s a =
    record {
      known = a.known;
      set = options_is a.options;
      extended = a.extended;
      reference = span_bytes s a.reference;
      pats = kept s a.patterns;
    }

-- 8, and what the command asks for
unfoldable pub decided_as : Seq ℕ → Kept → Option (Seq (Seq ℕ)) → Parsed
decided_as tag k none = refused 8
decided_as tag k (some ps) =
    let root = root_of tag in
    let list = listing tag k.set (canonical k.reference ps) in
    cond (every short (canonical k.reference ps)) (cond (not k.extended && every is_empty ps) root list) (refused 8)

-- 6, then 7, then 8, over what is kept
unfoldable pub decided : Seq ℕ → Kept → Parsed
decided tag k =
    let e7 = cond (lawful_options k.set) (decided_as tag k k.pats) (refused 7) in
    cond k.known e7 (refused 6)

-- a tag: bare, at the front of the line
pub record TagIn (s : Seq ℕ) (t : Span) : Type 0 where
  pub lies : Lies s t
  pub bare : t.quoted ≡ false
  pub front : t.start ≡ 0

-- the parts that a command is made of lie inside the line
pub record Given (s : Seq ℕ) (tag : Span) (a : Arguments) : Type 0 where
  pub tagged : TagIn s tag
  pub seven : a.options.bits < 128
  pub reference : Lies s a.reference
  pub patterns : Placed s a.patterns

-- a selection list at first, parentheses around the patterns, or something after them
abbrev pub extended_at : Seq ℕ → ℕ → ℕ → ℕ → Bool
extended_at s first patterns rest = is_some (after (text " (") (drop first s)) || at 40 (drop patterns s) || not (is_empty (drop rest s))

-- What the reading r of the text s comes to means p; and a command holds what it should, where that is given which its parts were made of.
pub record Answers (s : Seq ℕ) (p : Parsed) (given : Type 0) (r : Result Command Refusal) : Type 0 where
  pub means : meaning s r ≡ p
  pub inside : given → IfOk r (Inside s)

-- The command r of this kind and tag has the name that was read of the text s, by a span that lies inside; with no name it is 4.
unfoldable pub NameRead : Seq ℕ → Kind → Span → Option (Seq ℕ) → Result Command Refusal → Type 0
NameRead s k t none r = r ≡ Err Grammar
NameRead s k t (some n) r = (name : Span) × Lies s name × (span_bytes s name ≡ n) × (r ≡ Ok (named_command k t name))
