-- What stands after the words SUBSCRIBE and UNSUBSCRIBE, as the code reads it: a name and the end of the line; and what the command with
-- that name asks for. Rests on Returning and Judging, and on Binds and Plain of command_tokens.
use Rattle.std.specs.Prelude.{Result, Ok, Err}
use Rattle.listing_rules.proofs.Prelude.{◌∙◌, ◌≡◌, ap, refl, cond, Option, none, some, List as Seq, ◌<◌, ◌≤◌, ℕ, drop, length}
use Rattle.listing_rules.specs.Bytes.{text, is_empty}
use Rattle.listing_rules.specs.Tokens.{Got, got, ◌>>=◌, after, astring}
use Rattle.listing_rules.specs.Command.{Edit, subscribe, unsubscribe, editing, name_arg, or_refuse}
use Rattle.octets.specs.declared.refusals.Refusal.{Refusal}
use Rattle.octets.specs.declared.refusals.Refusal.TheVariants.{Grammar}
use Rattle.command_tokens.specs.declared.Span.{Span}
use Rattle.command_tokens.specs.Spans.{span_bytes, Lies}
use Rattle.command_tokens.specs.Tokens.{argument}
use Rattle.command_tokens.proofs.Binds.{bind_none, bind_go}
use Rattle.command_tokens.proofs.Plain.{span_short}
use Rattle.command_line.specs.declared.Kind.{Kind}
use Rattle.command_line.specs.declared.Kind.TheVariants.{Subscribe, Unsubscribe}
use Rattle.command_line.specs.declared.reading.Word.TheVariants.{Subscribe as SubscribeWord, Unsubscribe as UnsubscribeWord}
use Rattle.command_line.specs.declared.Command.{Command}
use Rattle.command_line.specs.Words.{worded_as}
use Rattle.command_line.specs.Commands.{meaning, meaning_of, meaning_as, name_of, named_command, used_only, TagIn, Answers, NameRead}
use Rattle.command_line.proofs.Returning.{empty_out, empty_not}
use Rattle.command_line.proofs.Judging.{refuses, inside_named}

-- ---- the name

-- after the name: the end of the line
last_name : Got (Seq ℕ) → Option (Seq ℕ)
last_name n = cond (is_empty n.rest) (some n.val) none

-- a space and the name, and then the end of the line
name_is_lem : (t : Seq ℕ) → name_arg t ≡ (argument t >>= last_name)
unfolding name_arg argument last_name ◌>>=◌
name_is_lem t = go (after (text " ") t)
  where
    go : (x : Option (Seq ℕ)) → (x >>= λ u. astring u >>= last_name) ≡ ((x >>= λ u. astring u) >>= last_name)
    go none = refl
    go (some u) = refl

module _ (t : Seq ℕ) where
  pub name_off : argument t ≡ none → name_arg t ≡ none
  name_off e = name_is_lem t ∙ bind_none last_name e

  module _ (s : Seq ℕ) (i : ℕ) (n : Seq ℕ) (e : argument t ≡ some (got n (drop i s))) where
    pub name_goes_on : i < length s → name_arg t ≡ none
    unfolding last_name got
    name_goes_on h = name_is_lem t ∙ bind_go last_name e ∙ rw (empty_not s i h)

    pub name_ends : length s ≤ i → name_arg t ≡ some n
    unfolding last_name got
    name_ends h = name_is_lem t ∙ bind_go last_name e ∙ rw (empty_out s i h)

-- a name has no more bytes than the line
pub name_short : (s : Seq ℕ) (c : Command) → length (name_of s c) ≤ length s
unfolding name_of
name_short s c = span_short s c.reference

-- ---- the command

module _ (s : Seq ℕ) (k : Kind) (t : Span) {x : Option (Seq ℕ)} where
  pub no_name : x ≡ none → NameRead s k t x (Err Grammar)
  unfolding NameRead
  no_name e = rw e refl

  pub one_name : (n : Span) {c : Command} → x ≡ some (span_bytes s n) → Lies s n → c ≡ named_command k t n → NameRead s k t x (Ok c)
  unfolding NameRead
  one_name n e l q = rw e (n, l, refl, ap Ok q)

-- the command with the name, where its kind means an edit and uses the name
module _ (s : Seq ℕ) (t : Span) (k : Kind) (edit : Seq ℕ → Edit) where
  asks_edit : ((n : Span) → meaning_of s (named_command k t n) ≡ editing (span_bytes s t) (edit (span_bytes s n))) →
      ((n : Span) → named_command k t n ≡ used_only k (named_command k t n)) → (x : Option (Seq ℕ)) {r : Result Command Refusal} → NameRead s k t x r →
      Answers s (or_refuse 4 x (λ n. editing (span_bytes s t) (edit n))) (TagIn s t) r
  unfolding NameRead or_refuse
  asks_edit m u none w = rw w (refuses s Grammar refl)
  asks_edit m u (some n) w =
      record {
        means = ap (meaning s) w.3 ∙ m w.0 ∙ ap (λ (x : Seq ℕ). editing (span_bytes s t) (edit x)) w.2;
        inside = λ h. rw w.3 (inside_named s k t w.0 h w.1 (u w.0));
      }

module _ (s : Seq ℕ) (t : Span) (u : Seq ℕ) {r : Result Command Refusal} where
  pub asks_subscribe : NameRead s Subscribe t (name_arg u) r → Answers s (worded_as SubscribeWord (span_bytes s t) u) (TagIn s t) r
  unfolding worded_as meaning_of meaning_as name_of used_only
  asks_subscribe w = asks_edit s t Subscribe subscribe (λ n. refl) (λ n. refl) (name_arg u) w

  pub asks_unsubscribe : NameRead s Unsubscribe t (name_arg u) r → Answers s (worded_as UnsubscribeWord (span_bytes s t) u) (TagIn s t) r
  unfolding worded_as meaning_of meaning_as name_of used_only
  asks_unsubscribe w = asks_edit s t Unsubscribe unsubscribe (λ n. refl) (λ n. refl) (name_arg u) w
