-- `ask` meets its contract: the command stands in the line, the answer in scratch, and its lines are taken in (`AskLaws`).
use Rattle.listing_rules.proofs.Prelude.{◌+◌, arith, length-take, take}
use Rattle.collector.specs.Held.{held_seen}
use Rattle.collector.proofs.AskLaws.{sent, serves, server_done, asked_done, asked_refused, takes_step}
use Rattle.collector.proofs.walk.ask.Goals as goal

pub slice_bounds-line-end : goal.slice_bounds-line-end
slice_bounds-line-end c =
    let front = sent c.args.options c.args.reference.now c.filled-line.ensures c.requires.reference_len_bound c.put_command-n.ensures in
    front.inside

pub slice_bounds-read_words-end-2 : goal.slice_bounds-read_words-end-2
slice_bounds-read_words-end-2 c =
    let front = sent c.args.options c.args.reference.now c.filled-line.ensures c.requires.reference_len_bound c.put_command-n.ensures in
    simp length-take (omega (arith, front.inside))

pub slice_bounds-take_lines-end : goal.slice_bounds-take_lines-end
slice_bounds-take_lines-end c =
    let args = c.args in
    let table = held_seen args.seen.reader args.seen.area.now args.seen.words.now in
    let front = sent c.args.options c.args.reference.now c.filled-line.ensures c.requires.reference_len_bound c.put_command-n.ensures in
    let said = serves args.options args.reference.now args.seen.reader table args.scratch.now c.read_words.result front args.seen.known c.read_words.ensures in
    let done = server_done table (take c.put_command-n.result c.put_command-n.new.buf) args.scratch.now c.read_words.new.out c.in-Ok.len said.0 c.in-Ok.is said.1 in
    done.0

pub slice_bounds-take_lines-end-2 : goal.slice_bounds-take_lines-end-2
slice_bounds-take_lines-end-2 c =
    let args = c.args in
    let table = held_seen args.seen.reader args.seen.area.now args.seen.words.now in
    let front = sent c.args.options c.args.reference.now c.filled-line.ensures c.requires.reference_len_bound c.put_command-n.ensures in
    let said = serves args.options args.reference.now args.seen.reader table args.scratch.now c.read_words.result front args.seen.known c.read_words.ensures in
    let done = server_done table (take c.put_command-n.result c.put_command-n.new.buf) args.scratch.now c.read_words.new.out c.in-Ok.len said.0 c.in-Ok.is said.1 in
    simp length-take (omega (arith, done.0))

pub returns-in_default : goal.returns-in_default
returns-in_default c =
    let args = c.args in
    let table = held_seen args.seen.reader args.seen.area.now args.seen.words.now in
    let front = sent c.args.options c.args.reference.now c.filled-line.ensures c.requires.reference_len_bound c.put_command-n.ensures in
    let said = serves args.options args.reference.now args.seen.reader table args.scratch.now c.read_words.result front args.seen.known c.read_words.ensures in
    λ s h. asked_refused table args.options args.reference.now args.scratch.now front said.0 c.in_default.is args.found.now args.pending.now s

pub returns : goal.returns
returns c =
    let args = c.args in
    let table = held_seen args.seen.reader args.seen.area.now args.seen.words.now in
    let front = sent c.args.options c.args.reference.now c.filled-line.ensures c.requires.reference_len_bound c.put_command-n.ensures in
    let said = serves args.options args.reference.now args.seen.reader table args.scratch.now c.read_words.result front args.seen.known c.read_words.ensures in
    let done = server_done table (take c.put_command-n.result c.put_command-n.new.buf) args.scratch.now c.read_words.new.out c.in-Ok.len said.0 c.in-Ok.is said.1 in
    takes_step _ _ _ (args.start.count + 1) args.start args.found.now args.pending.now c.take_lines.new.found c.take_lines.new.pending
    c.take_lines.result
    (asked_done table args.options args.reference.now args.scratch.now front done.1 args.found.now args.pending.now)
    c.take_lines.ensures
