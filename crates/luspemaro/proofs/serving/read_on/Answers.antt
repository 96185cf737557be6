-- `luspemaro::serving::read_on` meets its contract: bytes, the end of the input, or a failure. Rests on ServeLaws.
use Rattle.luspemaro.proofs.ServeLaws.{got, room_of, reads_bytes, reads_end, reads_none, whole_by}
use Rattle.kept_table.specs.Kept.{Lent, lent}
use Rattle.listing_rules.proofs.Prelude.{refl, subst, sym, ℕ, ◌<◌, arith, length-take-le}
use Rattle.luspemaro.proofs.serving.read_on.Goals as goal

pub slice_bounds-chunk-end : goal.slice_bounds-chunk-end
slice_bounds-chunk-end c =
    omega (arith, (got c.read_some.ensures c.in-Bytes.is).1, c.read_some.auto.chunk)

pub slice_bounds-serve-end : goal.slice_bounds-serve-end
slice_bounds-serve-end c =
    sym (length-take-le _ _ (omega
    (arith, (got c.read_some.ensures c.in-Bytes.is).1, c.read_some.auto.chunk)))

pub answer_end-requires : goal.answer_end-requires
answer_end-requires c =
    let memory : Lent = lent c.args.table.now c.args.records.now c.args.namespaces.now c.args.out.now in
    room_of memory
    c.args.line.now c.args.place.state c.requires

pub returns-in-Err : goal.returns-in-Err
returns-in-Err c =
    let memory : Lent = lent c.args.table.now c.args.records.now c.args.namespaces.now c.args.out.now in
    rw
    c.write_failed.ensures (reads_none memory _ _ _ c.requires c.answer_end.auto.out _)

pub returns-in-Bytes : goal.returns-in-Bytes
returns-in-Bytes c =
    let some = got c.read_some.ensures c.in-Bytes.is in
    reads_bytes c.serve.ensures
    (subst (λ (k : ℕ). 0 < k) (sym (length-take-le _ _ (omega (arith, some.1, c.read_some.auto.chunk)))) some.0)

pub returns-in_default : goal.returns-in_default
returns-in_default c =
    let memory : Lent = lent c.args.table.now c.args.records.now c.args.namespaces.now c.args.out.now in
    rw
    c.place_at.ensures (reads_end memory _ _ _ c.requires c.answer_end.auto.out _
    c.answer_end.result c.answer_end.ensures
    (whole_by _ c.in_default.not-Err))

pub returns-in-Failed : goal.returns-in-Failed
returns-in-Failed c =
    let memory : Lent = lent c.args.table.now c.args.records.now c.args.namespaces.now c.args.out.now in
    rw
    c.read_failed.ensures (reads_none memory _ _ _ c.requires refl _)
