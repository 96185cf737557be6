-- The judgement: which refusal, or which command, what is kept gives; and that a command's parts lie inside the line. Rests on Counting
-- and Filling of command_patterns.
use Rattle.std.specs.Prelude.{Result, Ok, Err}
use Rattle.listing_rules.proofs.Prelude.{◌∙◌, ◌≡◌, ap, refl, sym, Bool, ◌&&◌, cond, false, not, true, none, some, List as Seq, [], ◌++◌, ◌∷◌}
use Rattle.listing_rules.proofs.Prelude.{◌<◌, ◌≤◌, suc, zero, ℕ, arith, eqb, get_or, length, take, take-append-drop, le-leb, lt-leb}
use Rattle.listing_rules.specs.Lists.{every}
use Rattle.listing_rules.specs.Options.{lawful_options}
use Rattle.listing_rules.specs.Command.{Parsed, refused, namespace, listing, root_of, canonical}
use Rattle.octets.specs.declared.refusals.Refusal.{Refusal}
use Rattle.octets.specs.Refusals.{number_of, numbered}
use Rattle.command_tokens.specs.declared.Span.{Span}
use Rattle.command_line.specs.declared.Kind.{Kind}
use Rattle.command_line.specs.declared.Kind.TheVariants.{List, Root, Namespace, Lsub, Subscribe, Unsubscribe}
use Rattle.command_line.specs.declared.Options.{Options}
use Rattle.command_line.specs.declared.Command.{Command}
use Rattle.command_patterns.specs.declared.Patterns.{Patterns}
use Rattle.command_line.specs.declared.list_command.Arguments.{Arguments}
use Rattle.command_tokens.specs.Spans.{span_bytes, Lies, nowhere}
use Rattle.command_patterns.specs.Places.{no_patterns, held, kept, Places, Placed}
use Rattle.command_line.specs.Commands.{meaning, meaning_of, meaning_as, Inside, no_options, named_command, bare_command, first_places, with_patterns}
use Rattle.command_line.specs.Commands.{used_only}
use Rattle.command_line.specs.Commands.{short, Kept, decided, decided_as, TagIn, Given, Answers}
use Rattle.command_patterns.proofs.Counting.{none_written}
use Rattle.command_tokens.proofs.Cuts.{lies_nowhere}
use Rattle.command_patterns.proofs.Filling.{filled_none}

-- eight patterns or fewer are kept, more are not
pub kept_few : (s : Seq ℕ) (p : Patterns) → p.count ≤ 8 → kept s p ≡ some (held s p)
unfolding kept
kept_few s p h = rw (le-leb p.count 8 h)

pub kept_many : (s : Seq ℕ) (p : Patterns) → 8 < p.count → kept s p ≡ none
unfolding kept
kept_many s p h = rw (lt-leb p.count 8 h)

module _ (tag : Seq ℕ) (k : Kept) where
  pub decided_6 : k.known ≡ false → decided tag k ≡ refused 6
  unfolding decided
  decided_6 e = rw e

  module _ (known : k.known ≡ true) where
    pub decided_7 : lawful_options k.set ≡ false → decided tag k ≡ refused 7
    unfolding decided
    decided_7 e = rw (known, e)

    module _ (lawful : lawful_options k.set ≡ true) where
      lawfully : decided tag k ≡ decided_as tag k k.pats
      unfolding decided
      lawfully = rw (known, lawful)

      pub decided_many : k.pats ≡ none → decided tag k ≡ refused 8
      unfolding decided_as
      decided_many e = lawfully ∙ ap (decided_as tag k) e

      module _ (ps : Seq (Seq ℕ)) (few : k.pats ≡ some ps) where
        pub decided_long : every short (canonical k.reference ps) ≡ false → decided tag k ≡ refused 8
        unfolding decided_as
        decided_long e = lawfully ∙ ap (decided_as tag k) few ∙ rw e

        module _ (fit : every short (canonical k.reference ps) ≡ true) where
          asks : (o : Bool) → (not k.extended && eqb (length (canonical k.reference ps)) 0) ≡ o → decided tag k ≡ cond o (root_of tag) (listing tag k.set (canonical k.reference ps))
          unfolding decided_as
          asks o e = lawfully ∙ ap (decided_as tag k) few ∙ rw (fit, none_written k.reference ps, e)

          pub decided_root : (not k.extended && eqb (length (canonical k.reference ps)) 0) ≡ true → decided tag k ≡ root_of tag
          decided_root e = asks true e

          pub decided_list : (not k.extended && eqb (length (canonical k.reference ps)) 0) ≡ false → decided tag k ≡ listing tag k.set (canonical k.reference ps)
          decided_list e = asks false e

-- a command of which nothing but its kind and its tag is kept
meaning_root : (s : Seq ℕ) (t : Span) → meaning_of s (bare_command Root t) ≡ root_of (span_bytes s t)
unfolding meaning_of meaning_as
meaning_root s t = refl

meaning_namespace : (s : Seq ℕ) (t : Span) → meaning_of s (bare_command Namespace t) ≡ namespace (span_bytes s t)
unfolding meaning_of meaning_as
meaning_namespace s t = refl

-- the places of a list of them lie inside the line
places_at : (s : Seq ℕ) (ts : Seq Span) → Places s ts → (k : ℕ) → Lies s (get_or ts k nowhere)
places_at s [] h k = lies_nowhere s
places_at s (t ∷ ts) h zero = h.0
places_at s (t ∷ ts) h (suc k) = places_at s ts h.1 k

pub inside_named : (s : Seq ℕ) (k : Kind) (t n : Span) → TagIn s t → Lies s n → named_command k t n ≡ used_only k (named_command k t n) → Inside s (named_command k t n)
inside_named s k t n h l e =
    record {
      tag = h.lies;
      bare = h.bare;
      front = h.front;
      seven = omega arith;
      reference = l;
      patterns = places_at s no_patterns.spans (filled_none s).places;
      few = omega arith;
      rest = e;
    }

inside_bare : (s : Seq ℕ) (k : Kind) (t : Span) → TagIn s t → bare_command k t ≡ used_only k (bare_command k t) → Inside s (bare_command k t)
inside_bare s k t h e = inside_named s k t nowhere h (lies_nowhere s) e

inside_root : (s : Seq ℕ) (t : Span) → TagIn s t → Inside s (bare_command Root t)
unfolding used_only
inside_root s t h = inside_bare s Root t h refl

inside_namespace : (s : Seq ℕ) (t : Span) → TagIn s t → Inside s (bare_command Namespace t)
unfolding used_only
inside_namespace s t h = inside_bare s Namespace t h refl

-- the command of the parts that were read
unfoldable pub command_of : Kind → Options → Span → Span → Patterns → Command
command_of k o t r p = record { kind = k; tag = t; options = o; reference = r; patterns = p }

inside_parts : (s : Seq ℕ) (c : Command) → TagIn s c.tag → c.options.bits < 128 → Lies s c.reference →
    Placed s c.patterns → c.patterns.count ≤ 8 → used_only c.kind c ≡ with_patterns c.kind c.options c →
    Inside s c
inside_parts s c t o r p h e =
    record {
      tag = t.lies;
      bare = t.bare;
      front = t.front;
      seven = o;
      reference = r;
      patterns = places_at s c.patterns.spans p.places;
      few = h;
      rest = (λ i. record { kind = c.kind; tag = c.tag; options = c.options; reference = c.reference; patterns = record { spans = places i; count = c.patterns.count } }) ∙ sym e;
    }
  where
    places : c.patterns.spans ≡ (first_places c.patterns).spans
    places = sym (take-append-drop c.patterns.count c.patterns.spans) ∙ ap (λ (x : Seq Span). take c.patterns.count c.patterns.spans ++ x) p.unused

module _ (s : Seq ℕ) (t : Span) where
  pub inside_list : (a : Arguments) → Given s t a → a.patterns.count ≤ 8 → Inside s (command_of List a.options t a.reference a.patterns)
  unfolding used_only command_of
  inside_list a g h = inside_parts s _ g.tagged g.seven g.reference g.patterns h refl

  pub inside_lsub : (r : Span) (p : Patterns) → TagIn s t → Lies s r → Placed s p → p.count ≤ 8 → Inside s (command_of Lsub no_options t r p)
  unfolding used_only command_of
  inside_lsub r p g l w h = inside_parts s _ g (omega arith) l w h refl

-- a line that document 01 refuses is refused by just that number
pub refused_whole : (s : Seq ℕ) (r : Result Command Refusal) (k : ℕ) → meaning s r ≡ refused k → numbered r ≡ Err k
unfolding meaning_of meaning_as
refused_whole s (Err e) k h = cc
refused_whole s (Ok c) k h = go c.kind h
  where
    go : (q : Kind) → meaning_as q s c ≡ refused k → numbered (Ok c) ≡ Err k
    go List e = cc
    go Root e = cc
    go Namespace e = cc
    go Lsub e = cc
    go Subscribe e = cc
    go Unsubscribe e = cc

-- a refusal, where the definition gives its number
pub refuses : (s : Seq ℕ) (e : Refusal) {p : Parsed} {g : Type 0} → p ≡ refused (number_of e) → Answers s p g (Err e)
refuses s e f = record { means = sym f; inside = λ h. tt }

-- NAMESPACE, and the root line
pub asks_namespace : (s : Seq ℕ) (t : Span) {c : Command} {p : Parsed} {g : Type 0} → c ≡ bare_command Namespace t → p ≡ namespace (span_bytes s t) → (g → TagIn s t) → Answers s p g (Ok c)
asks_namespace s t e f h = record { means = ap (meaning_of s) e ∙ meaning_namespace s t ∙ sym f; inside = λ x. rw e (inside_namespace s t (h x)) }

pub asks_root_lem : (s : Seq ℕ) (t : Span) {c : Command} {p : Parsed} {g : Type 0} → c ≡ bare_command Root t → p ≡ root_of (span_bytes s t) → (g → TagIn s t) → Answers s p g (Ok c)
asks_root_lem s t e f h = record { means = ap (meaning_of s) e ∙ meaning_root s t ∙ sym f; inside = λ x. rw e (inside_root s t (h x)) }

-- an answer to the same, given as much
pub answers_as : {s : Seq ℕ} {p q : Parsed} {g h : Type 0} {r : Result Command Refusal} → Answers s p g r → q ≡ p → (h → g) → Answers s q h r
answers_as w e f = record { means = w.means ∙ sym e; inside = λ x. w.inside (f x) }
