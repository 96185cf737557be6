-- An edit by its plan: what `subscriptions::edit` returns and leaves is what the command comes to. Rests on EditLaws and on the laws of plans.
use Rattle.std.specs.Prelude.{Ok, Err}
use Rattle.listing_rules.proofs.Prelude.{◌∙◌, ◌≡◌, ap, refl, subst, sym, Bool, cond, false, false≢true, true, List, map, ℕ, leb, length, take}
use Rattle.listing_rules.specs.Table.{passes}
use Rattle.listing_rules.specs.Subscriptions.{Store, spelled, Edited, stored}
use Rattle.listing_rules.specs.Lines.{ok_line}
use Rattle.listing_rules.specs.Server.{Reply, refusal, answered, limited, Commanded, concluded, unchanged_by}
use Rattle.listing_rules.specs.Summary.{Summed, sums_edited, sums_after, SummedCommand}
use Rattle.listing_rules.proofs.SummaryAlike.{grown_parts}
use Rattle.listing_rules.proofs.SummaryCommands.{with_sums, untouched}
use Rattle.records.specs.Words.{record_of}
use Rattle.records.specs.Lent.{words_summed, words_table}
use Rattle.command_line.specs.declared.Command.{Command}
use Rattle.command_line.specs.Commands.{name_of}
use Rattle.command_tokens.specs.Spans.{span_bytes}
use Rattle.subscriptions.specs.declared.Plan.TheVariants.{Keep, Flag, Insert, Remove}
use Rattle.subscriptions.specs.declared.Change.{Change}
use Rattle.subscriptions.specs.Plans.{Decision, plan_for, subscribes, carried, edited_name}
use Rattle.subscriptions.proofs.StoredLaws.{plan_decides}
use Rattle.subscriptions.proofs.PlanSums.{plan_keeps}
use Rattle.subscriptions.proofs.EditingLaws.{plan_refused, plan_passed}
use Rattle.subscriptions.specs.Applied.{words_after, area_after, change_of}
use Rattle.subscriptions.specs.Stored.{whole_store, plan_of, Decides, is_done, KeepsSums}
use Rattle.subscriptions.specs.Editing.{cells, if_fits, plan_over, edited_is}
use Rattle.server.specs.Edits.{subscribe_kind, edit_as, edit_of, edit_stored, edit_parsed, edit_command}

-- what is answered to an edit by what was decided
abbrev plan_reply : Decision → List ℕ → Reply
plan_reply (Ok p) tag = answered (ok_line tag)
plan_reply (Err k) tag = refusal k

-- 9 is given by the plan, too
limited_plan : (p : Decision) (tag : List ℕ) (size : ℕ) → limited size (plan_reply p tag) ≡ plan_reply (if_fits (leb (length (ok_line tag)) size) p) tag
unfolding limited if_fits
limited_plan (Ok p) tag size = go (leb (length (ok_line tag)) size)
  where
    go : (b : Bool) → cond b (answered (ok_line tag)) (refusal 9) ≡ plan_reply (if_fits b (Ok p)) tag
    go true = refl
    go false = refl
limited_plan (Err k) tag size = go (leb (length (ok_line tag)) size)
  where
    go : (b : Bool) → refusal k ≡ plan_reply (if_fits b (Err k)) tag
    go true = refl
    go false = refl

-- what was decided, by the answer to it
pub refused_plan : (p : Decision) (count k : ℕ) → Err k ≡ edited_is p count → p ≡ Err k
refused_plan (Ok p) count k e = cc
refused_plan (Err j) count k e = let z : k ≡ j = cc in ap Err (sym z)

pub refuses_same : (j k : ℕ) → ◌≡◌ {A = Decision} (Err j) (Err k) → j ≡ k
refuses_same j k e = cc

pub done_plan : (p : Decision) (count : ℕ) (c : Change) → Ok c ≡ edited_is p count → (c ≡ change_of p count) × (is_done p ≡ true)
done_plan (Ok p) count c e = (cc, refl)
done_plan (Err j) count c e = cc

-- a plan that is no refusal fits, and is answered
if_done : (b : Bool) (p : Decision) → is_done (if_fits b p) ≡ true → if_fits b p ≡ p
unfolding if_fits
if_done true p h = refl
if_done false (Ok p) h = absurd (false≢true h)
if_done false (Err k) h = refl

fitting : (b : Bool) (p : Decision) → is_done (if_fits b p) ≡ true → b ≡ true
unfolding if_fits
fitting true p h = refl
fitting false (Ok p) h = h
fitting false (Err k) h = h

done_reply : (p : Decision) (tag : List ℕ) → is_done p ≡ true → plan_reply p tag ≡ answered (ok_line tag)
done_reply (Ok p) tag h = refl
done_reply (Err k) tag h = absurd (false≢true h)

-- an edit by its plan
module _ (ws sums : List ℕ) (count : ℕ) (area l : List ℕ) (c : Command) (out : List ℕ) (p : Decision) (d : Decides ws count area (edit_of l c) p)
    (q : KeepsSums ws count area sums (edit_of l c) p) where
  abbrev whole : Store
  whole = whole_store ws count area

  abbrev all : Summed
  all = words_summed ws count area sums

  abbrev name : List ℕ
  name = edited_name (edit_of l c)

  abbrev tag : List ℕ
  tag = span_bytes l c.tag

  abbrev ok : List ℕ
  ok = ok_line tag

  -- the store that the plan makes, and its summary
  abbrev made : Store
  made = whole_store (words_after p ws count name) (change_of p count).count (area_after p ws area name)

  -- what an edit comes to, by what is answered to it
  abbrev closing : Reply → Commanded
  closing (refusal k) = unchanged_by whole k
  closing (answered a) = record { reply = answered a; store = made }

  abbrev closing_sums : Reply → SummedCommand
  closing_sums (refusal k) = untouched all k
  closing_sums (answered a) = record { reply = answered a; left = record { store = made; summary = sums_edited all (edit_of l c) } }

  measured : (t : Store) → t ≡ made → concluded whole (length out) (stored t) (answered ok) ≡ closing (limited (length out) (answered ok))
  unfolding concluded limited
  measured t e = rw e (go (leb (length ok) (length out)))
    where
      go : (b : Bool) → cond b (record { reply = answered ok; store = made }) (unchanged_by whole 9) ≡ closing (cond b (answered ok) (refusal 9))
      go true = refl
      go false = refl

  by_plan : (x : Decision) → p ≡ x → concluded whole (length out) (carried whole name x) (answered ok) ≡ closing (limited (length out) (plan_reply x tag))
  unfolding carried limited concluded
  by_plan (Ok Keep) e = measured whole (d.leaves whole (rw e))
  by_plan (Ok (Flag k f)) e = measured _ (d.leaves _ (rw e))
  by_plan (Ok (Insert k start)) e = measured _ (d.leaves _ (rw e))
  by_plan (Ok (Remove k)) e = measured _ (d.leaves _ (rw e))
  by_plan (Err k) e = refl

  edit_comes : edit_stored whole l c out ≡ closing (limited (length out) (plan_reply p tag))
  edit_comes = ap (λ (x : Edited). concluded whole (length out) x (answered ok)) d.comes_to_lem ∙ by_plan p refl

  closes : (r : Reply) → with_sums all (edit_parsed l c) (closing r) ≡ closing_sums r
  unfolding sums_after unchanged_by
  closes (refusal k) = refl
  closes (answered a) = refl

  sums_come : edit_command all l c out ≡ closing_sums (limited (length out) (plan_reply p tag))
  sums_come = ap (with_sums all (edit_parsed l c)) edit_comes ∙ closes (limited (length out) (plan_reply p tag))

  -- by the plan once the length of the answer is known
  abbrev fits : Bool
  fits = leb (length ok) (length out)

  pub comes_refused : (k : ℕ) → if_fits fits p ≡ Err k → edit_command all l c out ≡ untouched all k
  comes_refused k e = sums_come ∙ ap closing_sums (limited_plan p tag (length out) ∙ ap (λ (x : Decision). plan_reply x tag) e)

  pub comes_done : is_done (if_fits fits p) ≡ true → edit_command all l c out
      ≡ record { reply = answered ok; left = record { store = made; summary = sums_edited all (edit_of l c) } }
  comes_done h = sums_come ∙ ap closing_sums (limited_plan p tag (length out) ∙ done_reply (if_fits fits p) tag h)

-- an edit taken apart
edit_parts : (b : Bool) (n : List ℕ) → (subscribes (edit_as b n) ≡ b) × (edited_name (edit_as b n) ≡ spelled n)
unfolding edit_as subscribes edited_name
edit_parts true n = (refl, refl)
edit_parts false n = (refl, refl)

-- The plan that was decided on, over words that are all lent, each with a number.
module _ (ws sums : List ℕ) (count : ℕ) (area l : List ℕ) (c : Command) (out : List ℕ) (sized : length ws ≡ length sums) where
  abbrev own : Decision
  own = plan_of ws count area (edit_of l c)

  abbrev roomy : Bool
  roomy = leb (length (ok_line (span_bytes l c.tag))) (length out)

  abbrev plan : Decision
  plan = plan_over (cells ws sums area) count (subscribe_kind c.kind) (spelled (name_of l c)) roomy

  pub plan_1 : passes (words_table ws count area sums) ≡ false → plan ≡ Err 1
  plan_1 h = plan_refused (cells ws sums area) count (subscribe_kind c.kind) (spelled (name_of l c)) roomy h

  module _ (passed : passes (words_table ws count area sums) ≡ true) where
    pub plan_is : plan ≡ if_fits roomy own
    plan_is =
        let q = edit_parts (subscribe_kind c.kind) (name_of l c) in
        plan_passed (cells ws sums area) count passed (subscribe_kind c.kind) (spelled (name_of l c)) roomy
        ∙ (λ i. if_fits roomy (plan_for (map record_of (take count ws)) (length ws) area (sym q.0 i) (sym q.1 i)))

    pub decided : Decides ws count area (edit_of l c) own
    decided = plan_decides ws count area (edit_of l c) (grown_parts (words_summed ws count area sums) passed).0

    pub keeps : KeepsSums ws count area sums (edit_of l c) own
    keeps =
        let parts = grown_parts (words_summed ws count area sums) passed in
        plan_keeps ws count area sums parts.0 parts.1 sized (edit_of l c)

    pub plan_refuses : (k : ℕ) → plan ≡ Err k → edit_command (words_summed ws count area sums) l c out ≡ untouched (words_summed ws count area sums) k
    plan_refuses k e = comes_refused ws sums count area l c out own decided keeps k (sym plan_is ∙ e)

    module _ (done : is_done plan ≡ true) where
      own_done : is_done (if_fits roomy own) ≡ true
      own_done = subst (λ (p : Decision). is_done p ≡ true) plan_is done

      pub plan_own : plan ≡ own
      plan_own = plan_is ∙ if_done roomy own own_done

      pub plan_fitting : roomy ≡ true
      plan_fitting = fitting roomy own own_done

      pub plan_done : edit_command (words_summed ws count area sums) l c out
          ≡ record {
            reply = answered (ok_line (span_bytes l c.tag));
            left = record {
              store = whole_store (words_after own ws count (edited_name (edit_of l c))) (change_of own count).count
                  (area_after own ws area (edited_name (edit_of l c)));
              summary = sums_edited (words_summed ws count area sums) (edit_of l c);
            };
          }
      plan_done = comes_done ws sums count area l c out own decided keeps own_done

pub name_is_lem : (l : List ℕ) (c : Command) → edited_name (edit_of l c) ≡ spelled (name_of l c)
name_is_lem l c = (edit_parts (subscribe_kind c.kind) (name_of l c)).1
