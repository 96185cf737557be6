-- `ask_below` meets its contract: the reference is the pending name and "/" (`AskLaws`).
use Rattle.listing_rules.proofs.Prelude.{[], ◌++◌, ◌∷◌, arith, length-append, length-take}
use Rattle.listing_rules.specs.Bytes.{slash}
use Rattle.collector.specs.Names.{name_at}
use Rattle.collector.specs.Rooms.{reference_room}
use Rattle.collector.proofs.AskLaws.{put_fronts}
use Rattle.collector.proofs.walk.ask_below.Goals as goal

pub slice_bounds-reference-end : goal.slice_bounds-reference-end
slice_bounds-reference-end c =
    let below = put_fronts _ _ (name_at c.args.name c.args.pending.now ++ (slash ∷ [])) _ reference_room c.filled-reference.ensures c.put_below-n.ensures
    (simp (length-append, length-take) (omega (arith, c.requires.lies))) in
    below.inside

pub slice_bounds-ask-end : goal.slice_bounds-ask-end
slice_bounds-ask-end c =
    let below = put_fronts _ _ (name_at c.args.name c.args.pending.now ++ (slash ∷ [])) _ reference_room c.filled-reference.ensures c.put_below-n.ensures
    (simp (length-append, length-take) (omega (arith, c.requires.lies))) in
    simp length-take (omega (arith, below.inside))

pub ask-requires : goal.ask-requires
ask-requires c =
    let below = put_fronts _ _ (name_at c.args.name c.args.pending.now ++ (slash ∷ [])) _ reference_room c.filled-reference.ensures c.put_below-n.ensures
    (simp (length-append, length-take) (omega (arith, c.requires.lies))) in
    record {
      reference_len_bound = rw below.bytes (simp (length-append, length-take) (omega (arith, c.requires.lies)));
      inside = c.requires.inside;
      count_in_bounds = c.requires.count_in_bounds;
    }

pub returns : goal.returns
returns c =
    let below = put_fronts _ _ (name_at c.args.name c.args.pending.now ++ (slash ∷ [])) _ reference_room c.filled-reference.ensures c.put_below-n.ensures
    (simp (length-append, length-take) (omega (arith, c.requires.lies))) in
    rw (← below.bytes) c.ask.ensures
