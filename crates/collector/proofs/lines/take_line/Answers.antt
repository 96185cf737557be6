-- `take_line` meets its contract: what the reader's answer tells of the line, and what is kept of it (`TakeLaws`).
use Rattle.std.proofs.lemmas.Result.{err_from_is_err_and}
use Rattle.listing_rules.proofs.Prelude.{ap, not, arith, length-take}
use Rattle.octets.specs.declared.refusals.Refusal.TheVariants.{FoundFull, PendingFull}
use Rattle.collector.proofs.TakeLaws.{read_as, line_skipped, find_full, ask_full, line_taken}
use Rattle.collector.proofs.OptionLaws.{none_refused, some_kept}
use Rattle.collector.proofs.lines.take_line.Goals as goal

pub returns-in_default : goal.returns-in_default
returns-in_default c =
    line_skipped c.args.line.now c.args.options c.read_line.ensures c.in_default.is c.requires

pub slice_bounds-name-end : goal.slice_bounds-name-end
slice_bounds-name-end c =
    let told = read_as c.args.line.now c.in-Ok.parts c.read_line.ensures c.in-Ok.is in
    simp length-take (omega (arith, told.inside))

pub shared_ref_as_front-name : goal.shared_ref_as_front-name
shared_ref_as_front-name c =
    let told = read_as c.args.line.now c.in-Ok.parts c.read_line.ensures c.in-Ok.is in
    told.short

pub keep-requires : goal.keep-requires
keep-requires c =
    let told = read_as c.args.line.now c.in-Ok.parts c.read_line.ensures c.in-Ok.is in
    record { at_in_bounds = omega (arith, c.requires); name_len_bound = simp length-take (omega (arith, told.short)) }

pub returns-in_err-found_end : goal.returns-in_err-found_end
returns-in_err-found_end c =
    let told = read_as c.args.line.now c.in-Ok.parts c.read_line.ensures c.in-Ok.is in
    let p = err_from_is_err_and c.from_residual.result c.from_residual.ensures.1 in
    let full = none_refused FoundFull c.in_err-found_end.ensures.value in
    rw (p.1, p.2, full.1) (find_full told c.args.options c.keep.new.buf c.is_find-find.ensures full.0 c.keep.ensures)

pub keep-requires-2 : goal.keep-requires-2
keep-requires-2 c =
    let told = read_as c.args.line.now c.in-Ok.parts c.read_line.ensures c.in-Ok.is in
    record { at_in_bounds = omega (arith, c.requires); name_len_bound = simp length-take (omega (arith, told.short)) }

pub returns-in_err-pending_end : goal.returns-in_err-pending_end
returns-in_err-pending_end c =
    let told = read_as c.args.line.now c.in-Ok.parts c.read_line.ensures c.in-Ok.is in
    let p = err_from_is_err_and c.from_residual-in_err-pending_end.result c.from_residual-in_err-pending_end.ensures.1 in
    let full = none_refused PendingFull c.in_err-pending_end.ensures.value in
    rw (p.1, p.2, full.1)
    (ask_full told c.args.options c.keep.new.buf c.is_find-find.ensures (some_kept FoundFull c.in_ok-found_end.ensures.value) c.keep.ensures
    c.keep.auto.buf c.keep-2.new.buf (ap not c.is_none-parent.ensures) full.0 c.keep-2.ensures)

pub returns : goal.returns
returns c =
    let told = read_as c.args.line.now c.in-Ok.parts c.read_line.ensures c.in-Ok.is in
    line_taken told c.args.options c.keep.new.buf c.is_find-find.ensures (some_kept FoundFull c.in_ok-found_end.ensures.value) c.keep.ensures
    c.keep.auto.buf c.keep-2.new.buf (ap not c.is_none-parent.ensures) (some_kept PendingFull c.in_ok-pending_end.ensures.value) c.keep-2.ensures
    c.keep-2.auto.buf
