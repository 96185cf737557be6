-- The reply to a question is that of the LIST or the LSUB command that asked it, and which packed patterns LSUB refuses. LSUB rests on
-- listing_rules' LsubLaws.
use Rattle.std.specs.Prelude.{Err}
use Rattle.octets.specs.declared.refusals.Refusal.TheVariants.{Grammar}
use Rattle.listing_rules.proofs.Prelude.{◌∙◌, ◌≡◌, ap, refl, sym, Bool, cond, false, true, List, [], ◌++◌, ◌∷◌, map, ◌+◌, ◌<◌, ◌≤◌, suc, zero, ℕ}
use Rattle.listing_rules.proofs.Prelude.{dec_le, arith, leb, get_or, length, take, le-leb, leb-true, lt-leb}
use Rattle.listing_rules.specs.Bytes.{bit}
use Rattle.listing_rules.specs.Lists.{any_of, joined}
use Rattle.listing_rules.specs.Table.{Row}
use Rattle.listing_rules.specs.Options.{Options as Named}
use Rattle.listing_rules.specs.Listing.{ends_in_percent, unselective}
use Rattle.listing_rules.specs.Lines.{list_line, ok_line}
use Rattle.listing_rules.specs.Lsub.{lsub_line}
use Rattle.listing_rules.specs.Server.{refusal, answered, limited, buffer_after, line_of, list_answer, lsub_answer}
use Rattle.listing_rules.proofs.LsubLaws.{subscribing, lsub_as_list}
use Rattle.octets.specs.Written.{written_is, Gives}
use Rattle.list_line.specs.declared.words.LineWord.TheVariants.{List as OfList, Lsub as OfLsub}
use Rattle.list_line.specs.Words.{start_of}
use Rattle.command_line.specs.declared.Options.{Options}
use Rattle.command_line.specs.OptionSets.{options_is}
use Rattle.mailbox_table.specs.Index.{rows_at}
use Rattle.pattern.specs.Packed.{unpacked_after, unpacked}
use Rattle.list_answer.specs.declared.question.Question.{Question}
use Rattle.list_answer.specs.Marks.{levels_asked}
use Rattle.list_answer.specs.Ready.{Asks, AsksLsub, lsub_set}
use Rattle.list_answer.specs.Shown.{attributes_on, criteria_on, line_on, answer_for, reply_to, list_reply, lsub_reply}

list_answer_lem : (rs : List Row) (tag : List ℕ) (o : Named) (ps : List (List ℕ)) → answer_for OfList rs tag o ps ≡ list_answer rs tag o ps
unfolding answer_for list_answer line_on line_of list_line start_of attributes_on criteria_on
list_answer_lem rs tag o ps = refl

lsub_answer_lem : (rs : List Row) (tag : List ℕ) (ps : List (List ℕ)) (r : Bool) → r ≡ any_of ends_in_percent ps → length ps ≤ 1 →
    answer_for OfLsub rs tag (subscribing r) ps ≡ lsub_answer rs tag ps
unfolding answer_for lsub_answer line_on lsub_line start_of attributes_on criteria_on
lsub_answer_lem rs tag ps r e h = rw e (ap (λ (ns : List (List ℕ)). joined (map (lsub_line rs) ns) ++ ok_line tag) (sym (lsub_as_list rs ps h)))

-- the options of an LSUB question
pub lsub_options_lem : (o : Options) (r : Bool) → o.bits ≡ lsub_set r → options_is o ≡ subscribing r
unfolding options_is bit
lsub_options_lem o true e = rw e
lsub_options_lem o false e = rw e

-- which lists no levels, since SUBSCRIBED is selected
pub lsub_levels : (o : Options) (r : Bool) (ps : List (List ℕ)) → o.bits ≡ lsub_set r → levels_asked (options_is o) ps ≡ false
unfolding unselective
lsub_levels o r ps e = rw (lsub_options_lem o r e) (go r)
  where
    go : (c : Bool) → levels_asked (subscribing c) ps ≡ false
    go true = refl
    go false = refl

module _ (area words patterns tag : List ℕ) (q : Question) where
  pub list_reply_lem : (o : Options) → Asks patterns o q → reply_to area words patterns q tag ≡ list_reply area words patterns o tag
  list_reply_lem o a =
      (λ i. answered (answer_for (a.1 i) (rows_at area words) tag (options_is (a.0 i)) (unpacked patterns)))
      ∙ ap answered (list_answer_lem (rows_at area words) tag (options_is o) (unpacked patterns))

  pub lsub_reply_lem : AsksLsub patterns q → leb (length (unpacked patterns)) 1 ≡ true →
      reply_to area words patterns q tag ≡ lsub_reply area words patterns tag
  lsub_reply_lem a h =
      (λ i. answered (answer_for (a.1 i) (rows_at area words) tag (lsub_options_lem q.options (any_of ends_in_percent (unpacked patterns)) a.0 i)
      (unpacked patterns)))
      ∙ ap answered (lsub_answer_lem (rows_at area words) tag (unpacked patterns) (any_of ends_in_percent (unpacked patterns)) refl
      (leb-true (length (unpacked patterns)) 1 h))
      ∙ sym (ap (λ (one : Bool). cond one (answered (lsub_answer (rows_at area words) tag (unpacked patterns))) (refusal 4)) h)

-- a second pattern is refused, and no byte of the buffer changes
pub lsub_second : (area words patterns tag d : List ℕ) → leb (length (unpacked patterns)) 1 ≡ false →
    Gives (lsub_reply area words patterns tag) d d (Err Grammar)
unfolding limited written_is buffer_after
lsub_second area words patterns tag d e = rw e (refl, refl)

-- Packed patterns are one at most where the bytes of the first are all that follows its length

none_left : (k : ℕ) (l : List ℕ) → length l ≤ k → length (unpacked_after k l) ≡ 0
unfolding unpacked_after
none_left zero [] h = refl
none_left (suc k) [] h = refl
none_left zero (b ∷ l) h = absurd (omega arith)
none_left (suc k) (b ∷ l) h = none_left k l (omega arith)

some_left : (k : ℕ) (l : List ℕ) → k < length l → 0 < length (unpacked_after k l)
unfolding unpacked_after
some_left k [] h = absurd (omega arith)
some_left zero (b ∷ l) h = omega arith
some_left (suc k) (b ∷ l) h = some_left k l (omega arith)

pub one_at_most : (l : List ℕ) → leb (length l) (1 + get_or l 0 0) ≡ leb (length (unpacked l)) 1
unfolding unpacked unpacked_after
one_at_most [] = refl
one_at_most (n ∷ l) =
    elim (dec_le (length l) n) [
      | yes h ↦
          le-leb (length (n ∷ l)) (1 + n) (omega arith)
          ∙ sym (le-leb (length (take n l ∷ unpacked_after n l)) 1 (omega (arith, none_left n l h)))
      | no h ↦
          lt-leb (length (n ∷ l)) (1 + n) (omega arith)
          ∙ sym (lt-leb (length (take n l ∷ unpacked_after n l)) 1 (omega (arith, some_left n l (omega arith))))
    ]
