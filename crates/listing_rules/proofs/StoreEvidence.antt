-- W10 over the server's commands on records: one store and one reader, and edits between two commands. Rests on EvidenceLaws, GainedRows and
-- SeenAlike.
use Rattle.listing_rules.proofs.Prelude.{◌∙◌, ◌≡◌, ap, refl, subst, sym, Bool, ◌&&◌, cond, false, true, List, ℕ}
use Rattle.listing_rules.specs.Lists.{every}
use Rattle.listing_rules.specs.Readers.{visible}
use Rattle.listing_rules.specs.Table.{Row, rows, passes}
use Rattle.listing_rules.specs.Options.{lawful_options}
use Rattle.listing_rules.specs.Command.{Parsed, refused, listing, root_of, ListArgs, known_in, selection_words, return_words, options_of, canonical}
use Rattle.listing_rules.specs.Command.{few_patterns, asks_root, judged, is_edit}
use Rattle.listing_rules.specs.Subscriptions.{Store, store_table, store_seen, held}
use Rattle.listing_rules.specs.Series.{commanded_all}
use Rattle.listing_rules.specs.Evidence.{ListCommand, AcceptedOver, AddingAPatternOver, Gains, AskSame, NoneLost, GainingInRecords}
use Rattle.listing_rules.specs.Evidence.{GainingInASeries}
use Rattle.listing_rules.proofs.SeenAlike.{command_reading}
use Rattle.listing_rules.proofs.ReaderLaws.{store_seen_passes}
use Rattle.listing_rules.proofs.AnswerReads.{command_parsed, AnsweredBy, accepted_is}
use Rattle.listing_rules.proofs.EvidenceLaws.{pattern_more, nothing_lost, none_lost}
use Rattle.listing_rules.proofs.GainedRows.{gains_records, series_gains, seen_rows}

-- LIST is no edit
judged_reads : (tag : List ℕ) (x : ListArgs) → is_edit (judged tag x) ≡ false
unfolding judged is_edit
judged_reads tag x =
    go (every (known_in selection_words) x.selection && every (known_in return_words) x.returns) (lawful_options (options_of x)) (few_patterns x)
    (asks_root x)
  where
    fine : Parsed
    fine = listing tag (options_of x) (canonical x.reference x.pats)

    go : (k l f y : Bool) → is_edit (cond k (cond l (cond f (cond y (root_of tag) fine) (refused 8)) (refused 7)) (refused 6)) ≡ false
    go true true true true = refl
    go true true true false = refl
    go true true false y = refl
    go true false f y = refl
    go false l f y = refl

-- an accepted command over records is answered over the table that its reader sees
pub over_store : (reader : ℕ) (s : Store) (spaces l buffer : List ℕ) (c : ListCommand) (a : List ℕ) → AcceptedOver reader s spaces l buffer c a
    → AnsweredBy (store_seen reader s) c a
over_store reader s spaces l buffer c a h =
    accepted_is reader (store_seen reader s) spaces l buffer c a (record {
      reads = h.reads;
      is_extended = h.is_extended;
      is_answered_lem =
          sym (command_reading reader s spaces l buffer (ap is_edit (command_parsed l c h.reads).0 ∙ judged_reads c.tag c.args)) ∙
          h.is_answered_lem;
    })

-- W10's claims over records
pub adding_a_pattern_over : AddingAPatternOver
adding_a_pattern_over reader s spaces l buffer spaces' m buffer' c d a b x y w =
    nothing_lost (store_seen reader s) c d a b (over_store reader s spaces l buffer c a x) (over_store reader s spaces' m buffer' d b y)
    (pattern_more c d w)

-- "If rows gain subscriptions instead, no listed name and no CHILDINFO is lost": two stores of which a reader's rows gained
module _ (reader : ℕ) (s t : Store) (spaces l buffer spaces' m buffer' : List ℕ) (c d : ListCommand) (a b : List ℕ)
    (before : AcceptedOver reader s spaces l buffer c a) (after : AcceptedOver reader t spaces' m buffer' d b) (same : AskSame c d)
    (g : Gains (visible reader s.area (held s)) (visible reader t.area (held t))) where
  seen_passes : (u : Store) (q : ListCommand) (e : List ℕ) → AnsweredBy (store_seen reader u) q e → passes (store_table u) ≡ true
  seen_passes u q e h = sym (store_seen_passes reader u) ∙ h.table_passes

  gained_over : NoneLost a b
  gained_over =
      let first = over_store reader s spaces l buffer c a before in
      let second = over_store reader t spaces' m buffer' d b after in
      none_lost (store_seen reader s) (store_seen reader t) c d a b first second same
      (subst (λ (rs : List Row). Gains rs (rows (store_seen reader t))) (sym (seen_rows reader s (seen_passes s c a first)))
      (subst (λ (rs : List Row). Gains (visible reader s.area (held s)) rs) (sym (seen_rows reader t (seen_passes t d b second))) g))

pub gaining_in_records : GainingInRecords
gaining_in_records reader s t spaces l buffer spaces' m buffer' c d a b x y w q g =
    gained_over reader s t spaces l buffer spaces' m buffer' c d a b x y w
    (subst (λ (area : List ℕ). Gains (visible reader s.area (held s)) (visible reader area (held t))) (sym q)
    (gains_records reader s.area (held s) (held t) g))

pub gaining_in_a_series : GainingInASeries
gaining_in_a_series reader s cs spaces l buffer spaces' m buffer' c d a b x y w k =
    gained_over reader s (commanded_all s cs) spaces l buffer spaces' m buffer' c d a b x y w
    (series_gains reader s cs (sym (store_seen_passes reader s) ∙ (over_store reader s spaces l buffer c a x).table_passes) k)
