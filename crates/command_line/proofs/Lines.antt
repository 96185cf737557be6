-- The line against its text, which stands before CR LF: what a command of the text is in the line. Rests on nothing.
use Rattle.std.specs.Prelude.{Result, Ok, Err, IfOk}
use Rattle.listing_rules.proofs.Prelude.{◌∙◌, ◌≡◌, ap, refl, sym, cond, false, true, List as Seq, [], ◌∷◌, map, ◌-◌, suc, zero, ℕ, arith, drop, get_or}
use Rattle.listing_rules.proofs.Prelude.{length, length-drop, length-take, take, take-append-drop, drop-append-le, take-append-le}
use Rattle.listing_rules.specs.Feeder.{first, one_command}
use Rattle.listing_rules.specs.Command.{refused, line_text, or_refuse, tagged, parsed}
use Rattle.octets.specs.declared.refusals.Refusal.{Refusal}
use Rattle.command_tokens.specs.declared.Span.{Span}
use Rattle.command_line.specs.declared.Kind.{Kind}
use Rattle.command_line.specs.declared.Kind.TheVariants.{List, Root, Namespace, Lsub, Subscribe, Unsubscribe}
use Rattle.command_line.specs.declared.Command.{Command}
use Rattle.command_tokens.specs.Spans.{plain, raw_bytes, span_bytes, Lies, nowhere}
use Rattle.command_patterns.specs.Places.{held}
use Rattle.command_line.specs.Commands.{patterns_of, name_of, meaning, meaning_of, meaning_as, Inside}

-- the line is not one command, or is
module _ (l : Seq ℕ) where
  pub line_off : one_command first l ≡ false → parsed l ≡ refused 3
  unfolding parsed or_refuse line_text
  line_off e = rw e

  pub line_read : one_command first l ≡ true → parsed l ≡ tagged (take (length l - 2) l)
  unfolding parsed or_refuse line_text
  line_read e = rw e

-- a part of the text is the same part of the line
module _ (l : Seq ℕ) (n : ℕ) where
  raw_line : (t : Span) → Lies (take n l) t → raw_bytes (take n l) t ≡ raw_bytes l t
  unfolding raw_bytes
  raw_line t h =
      sym (ap (λ (x : Seq ℕ). take (t.end - t.start) (drop t.start x)) (sym (take-append-drop n l))
      ∙ ap (take (t.end - t.start)) (drop-append-le t.start (take n l) (drop n l) (omega (arith, h.order, h.inside)))
      ∙ take-append-le (t.end - t.start) (drop t.start (take n l)) (drop n l) (omega (arith, h.order, h.inside, length-drop t.start (take n l))))

  span_line : (t : Span) → Lies (take n l) t → span_bytes (take n l) t ≡ span_bytes l t
  unfolding span_bytes
  span_line t h = ap (λ (x : Seq ℕ). cond t.quoted (plain false x) x) (raw_line t h)

  lies_line : (t : Span) → Lies (take n l) t → Lies l t
  lies_line t h = record { order = h.order; inside = omega (arith, h.inside, length-take n l) }

  spans_line : (k : ℕ) (ts : Seq Span) → ((i : ℕ) → Lies (take n l) (get_or ts i nowhere)) → map (span_bytes (take n l)) (take k ts) ≡ map (span_bytes l) (take k ts)
  spans_line zero ts h = refl
  spans_line (suc k) [] h = refl
  spans_line (suc k) (t ∷ ts) h =
      let first : span_bytes (take n l) t ≡ span_bytes l t = span_line t (h 0) in
      let rest : map (span_bytes (take n l)) (take k ts) ≡ map (span_bytes l) (take k ts) = spans_line k ts (λ i. h (suc i)) in
      cc

  command_line : (c : Command) → Inside (take n l) c → meaning_of (take n l) c ≡ meaning_of l c
  unfolding meaning_of meaning_as patterns_of name_of held
  command_line c h = go c.kind
    where
      tag : span_bytes (take n l) c.tag ≡ span_bytes l c.tag
      tag = span_line c.tag h.tag

      patterns : patterns_of (take n l) c ≡ patterns_of l c
      patterns = rw (span_line c.reference h.reference, spans_line c.patterns.count c.patterns.spans h.patterns)

      name : name_of (take n l) c ≡ name_of l c
      name = span_line c.reference h.reference

      go : (k : Kind) → meaning_as k (take n l) c ≡ meaning_as k l c
      go List = rw (tag, patterns)
      go Root = rw tag
      go Namespace = rw tag
      go Lsub = rw (tag, patterns)
      go Subscribe = rw (tag, name)
      go Unsubscribe = rw (tag, name)

  command_inside : (c : Command) → Inside (take n l) c → Inside l c
  command_inside c h =
      record {
        tag = lies_line c.tag h.tag;
        bare = h.bare;
        front = h.front;
        seven = h.seven;
        reference = lies_line c.reference h.reference;
        patterns = λ k. lies_line (get_or c.patterns.spans k nowhere) (h.patterns k);
        few = h.few;
        rest = h.rest;
      }

  -- what the reading of the text comes to is the same of the line
  pub meaning_line : (r : Result Command Refusal) → IfOk r (Inside (take n l)) → meaning (take n l) r ≡ meaning l r
  meaning_line (Ok c) h = command_line c h
  meaning_line (Err e) h = refl

  pub inside_line : (r : Result Command Refusal) → IfOk r (Inside (take n l)) → IfOk r (Inside l)
  inside_line (Ok c) h = command_inside c h
  inside_line (Err e) h = tt
