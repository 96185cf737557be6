-- `server::answer_words` meets its contract: refusals 16, 1 and 2, an edit, or what `respond` gives over the rows that the reader sees. By AnswerLaws;
-- the index by HeldLaws, the rows seen by SeenLaws of mailbox_table.
use Rattle.listing_rules.proofs.Prelude.{◌∙◌, ◌≡◌, ap, sym, true, length, eqb, eqb-true, le-leb, lt-leb}
use Rattle.listing_rules.specs.Namespaces.{namespaces_pass}
use Rattle.listing_rules.specs.Readers.{is_reader}
use Rattle.listing_rules.proofs.Bools.{and_l, and_r}
use Rattle.mailbox_table.proofs.HeldLaws.{Held, index_held, index_refused}
use Rattle.server.specs.Edits.{Reading, edit_kind}
use Rattle.server.proofs.EditLaws.{reads, own_edit_is, stranger}
use Rattle.server.proofs.AnswerLaws.{front_size, sums_size, front_inside, sums_inside, refused_16, refused_1, answered_read}
use Rattle.server.proofs.answer_words.Goals as goal

pub returns-then-reader-gt-MAX_READER : goal.returns-then-reader-gt-MAX_READER
unfolding is_reader
returns-then-reader-gt-MAX_READER c = refused_16 _ _ _ _ _ _ _ _ _ (lt-leb _ 7 c.if-reader-gt-MAX_READER.true) c.unchanged.ensures

pub invariant_of-edit_line : goal.invariant_of-edit_line
invariant_of-edit_line c =
    let a = c.args in
    let told : Reading a.line.now c.read_command-read.result = record { means = c.read_command-read.ensures.result_value; inside = c.read_command-read.ensures.inside } in
    record { reads = reads _ _ told _ (own_edit_is _ a.reader a.namespaces.now _ (sym c.own_edit.ensures ∙ c.in-Some.is)).0 }

pub edit_line-requires : goal.edit_line-requires
edit_line-requires c =
    let a = c.args in
    let own = own_edit_is _ a.reader a.namespaces.now _ (sym c.own_edit.ensures ∙ c.in-Some.is) in
    and_l (edit_kind _) (namespaces_pass a.namespaces.now) (and_r (eqb a.reader 0) _ own.1)

pub returns-in-Some : goal.returns-in-Some
returns-in-Some c =
    let a = c.args in
    let own = own_edit_is _ a.reader a.namespaces.now _ (sym c.own_edit.ensures ∙ c.in-Some.is) in
    rw (eqb-true a.reader 0 (and_l (eqb a.reader 0) _ own.1))
    (c.edit_line.ensures a.namespaces.now (and_r (edit_kind _) _ (and_r (eqb a.reader 0) _ own.1)))

pub slice_bounds-index_summed-end : goal.slice_bounds-index_summed-end
slice_bounds-index_summed-end c =
    let a = c.args in
    front_inside a.words.now a.sums.now _ c.min-n.ensures

pub slice_bounds-index_summed-end-2 : goal.slice_bounds-index_summed-end-2
slice_bounds-index_summed-end-2 c =
    let a = c.args in
    front_size a.words.now a.sums.now _ c.min-n.ensures

pub slice_bounds-index_summed-end-3 : goal.slice_bounds-index_summed-end-3
slice_bounds-index_summed-end-3 c =
    let a = c.args in
    sums_inside a.words.now a.sums.now _ c.min-n.ensures

pub slice_bounds-index_summed-end-4 : goal.slice_bounds-index_summed-end-4
slice_bounds-index_summed-end-4 c =
    let a = c.args in
    sums_size a.words.now a.sums.now _ c.min-n.ensures

pub returns-in_default-index_summed : goal.returns-in_default-index_summed
returns-in_default-index_summed c =
    let known-reader : is_reader c.args.reader ≡ true = unfold is_reader in le-leb _ 7 c.if-reader-gt-MAX_READER.false in
    let fails = index_refused c.index_summed.ensures (ap length c.no_words-rows.ensures) c.in_default-index_summed.is in
    refused_1 _ _ _ _ _ _ _ _ _ c.min-n.ensures known-reader _ fails c.unchanged-in_default-index_summed.ensures

pub slice_bounds-rows-end : goal.slice_bounds-rows-end
slice_bounds-rows-end c =
    let known : Held c.index_summed.ensures c.in-Some-index_summed.m = index_held c.index_summed.ensures _ c.in-Some-index_summed.is in
    known.inside

pub slice_bounds-answer_read-end : goal.slice_bounds-answer_read-end
slice_bounds-answer_read-end c =
    let known : Held c.index_summed.ensures c.in-Some-index_summed.m = index_held c.index_summed.ensures _ c.in-Some-index_summed.is in
    known.size

pub answer_read-written-requires-clause-index : goal.answer_read-written-requires-clause-index
answer_read-written-requires-clause-index c =
    let known : Held c.index_summed.ensures c.in-Some-index_summed.m = index_held c.index_summed.ensures _ c.in-Some-index_summed.is in
    known.index

pub answer_read-written-requires-clause-reads : goal.answer_read-written-requires-clause-reads
answer_read-written-requires-clause-reads c =
    record { means = c.read_command-read.ensures.result_value; inside = c.read_command-read.ensures.inside }

pub returns : goal.returns
returns c =
    let a = c.args in
    let known-reader : is_reader a.reader ≡ true = unfold is_reader in le-leb _ 7 c.if-reader-gt-MAX_READER.false in
    let told : Reading a.line.now c.read_command-read.result = record { means = c.read_command-read.ensures.result_value; inside = c.read_command-read.ensures.inside } in
    let known : Held c.index_summed.ensures c.in-Some-index_summed.m = index_held c.index_summed.ensures _ c.in-Some-index_summed.is in
    let other = stranger _ _ told a.reader a.namespaces.now (sym c.own_edit.ensures ∙ c.in_default.is) in
    answered_read _ _ _ _ _ a.namespaces.now a.line.now a.out.now
    c.min-n.result c.min-n.ensures known-reader known.table_passes _ told other _ known.told
    c.unchanged-2.result c.unchanged-2.ensures c.answer_read-written.ensures
