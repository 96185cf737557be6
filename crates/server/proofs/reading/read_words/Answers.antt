-- `server::reading::read_words` meets its contract: refusals 16 and 1, and what `read_seen` gives over the index. By Order; the index by HeldLaws of
-- mailbox_table.
use Rattle.listing_rules.proofs.Prelude.{◌∙◌, ◌≡◌, ap, true, length, take, le-leb, lt-leb}
use Rattle.std.specs.Result.{result_ok}
use Rattle.std.proofs.lemmas.Result.{err_from_is_err_and}
use Rattle.octets.specs.declared.refusals.Refusal.TheVariants.{Reader, Table}
use Rattle.listing_rules.specs.Readers.{is_reader}
use Rattle.listing_rules.proofs.ReaderLaws.{records_seen_passes}
use Rattle.mailbox_table.proofs.HeldLaws.{Held, index_held, index_refused}
use Rattle.server.proofs.Order.{refused_with_lem, none_refused, read_16, read_1, records_on}
use Rattle.server.proofs.reading.read_words.Goals as goal

pub returns-then-reader-gt-MAX_READER : goal.returns-then-reader-gt-MAX_READER
unfolding is_reader
returns-then-reader-gt-MAX_READER c = rw (read_16 _ _ _ _ (lt-leb _ 7 c.if-reader-gt-MAX_READER.true)) (refused_with_lem Reader _)

pub returns-in_err-n : goal.returns-in_err-n
returns-in_err-n c =
    let known : is_reader c.args.reader ≡ true = unfold is_reader in le-leb _ 7 c.if-reader-gt-MAX_READER.false in
    let p = err_from_is_err_and c.from_residual.result c.from_residual.ensures.1 in
    let none = none_refused Table c.in_err-n.ensures.value in
    let fails = index_refused c.index_words.ensures (ap length c.no_words-rows.ensures) none.0 in
    rw (read_1 _ _ _ _ known (records_seen_passes _ _ _ _ ∙ fails), p.1, p.2, none.1) (refused_with_lem Table _)

pub slice_bounds-rows-end : goal.slice_bounds-rows-end
slice_bounds-rows-end c =
    let found : Held c.index_words.ensures c.in_ok-n.n = index_held c.index_words.ensures _ (c.ok_or.ensures.ok_part ∙ ap result_ok c.in_ok-n.was) in
    found.inside

pub slice_bounds-read_seen-end : goal.slice_bounds-read_seen-end
slice_bounds-read_seen-end c =
    let found : Held c.index_words.ensures c.in_ok-n.n = index_held c.index_words.ensures _ (c.ok_or.ensures.ok_part ∙ ap result_ok c.in_ok-n.was) in
    found.size

pub read_seen-requires : goal.read_seen-requires
read_seen-requires c =
    let found : Held c.index_words.ensures c.in_ok-n.n = index_held c.index_words.ensures _ (c.ok_or.ensures.ok_part ∙ ap result_ok c.in_ok-n.was) in
    found.index

pub returns : goal.returns
returns c =
    let known : is_reader c.args.reader ≡ true = unfold is_reader in le-leb _ 7 c.if-reader-gt-MAX_READER.false in
    let found : Held c.index_words.ensures c.in_ok-n.n = index_held c.index_words.ensures _ (c.ok_or.ensures.ok_part ∙ ap result_ok c.in_ok-n.was) in
    let rows = take c.in_ok-n.n _ in
    rw (records_on _ _ rows _ _ known _ _ found.table_passes found.told)
    c.read_seen.ensures
