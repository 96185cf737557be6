-- How the input is cut into pieces, and a piece into calls of `feed`, makes no difference: the calls hand out what document 01 says of
-- the whole input. Rests on LineLaws, FeedLaws and listing_rules' InputCut.
use Rattle.std.specs.Prelude.{Option, Some, None}
use Rattle.listing_rules.proofs.Prelude.{◌∙◌, ◌≡◌, ap, refl, sym, true, List, [], ◌++◌, ◌∷◌, ◌+◌, ◌≤◌, ℕ, arith, drop, length, take}
use Rattle.listing_rules.proofs.Prelude.{take-append-drop, sets-eq, take-append-le, take_at}
use Rattle.listing_rules.specs.Lists.{joined}
use Rattle.listing_rules.specs.Frames.{Session, Fed as Came, behind, fed_all, start, at_end, program_output}
use Rattle.listing_rules.proofs.InputCut.{fed_all_append}
use Rattle.frames.specs.Gathering.{HoldsLen}
use Rattle.session.specs.declared.State.{State}
use Rattle.kept_table.specs.Kept.{Lent, Says}
use Rattle.session.specs.Feeding.{start_is, ready_in, Holds, Comes, FeedIs, Finishes, through_line}
use Rattle.session.specs.Cutting.{feedings, Call, held_len, LentAgain, Calls, Through, said_by, state_after}
use Rattle.session.proofs.LineLaws.{through_inside}
use Rattle.session.proofs.FeedLaws.{sizes, holds_start}

-- Theorem: however the input is cut, empty pieces too, the pieces come to what the whole comes to, in the answers and in the
-- session that is left.
cutting : (s : Session) (ps : List (List ℕ)) → feedings s ps ≡ fed_all s (joined ps)
unfolding feedings joined fed_all
cutting s [] = refl
cutting s (p ∷ ps) =
    let f = fed_all s p in
    ap (behind f.output) (cutting f.session ps) ∙ sym (fed_all_append s p (joined ps))

-- So two ways of cutting the same input come to the same.
pub cut_anyhow : (s : Session) (ps qs : List (List ℕ)) → joined ps ≡ joined qs → feedings s ps ≡ feedings s qs
cut_anyhow s ps qs e = cutting s ps ∙ ap (fed_all s) e ∙ sym (cutting s qs)

-- Theorem: the program that is fed its input in pieces answers, with the end of the input, what document 01 has it answer.
pub program_cut : (ps : List (List ℕ)) → (feedings start ps).output ++ at_end (feedings start ps).session ≡ program_output (joined ps)
unfolding program_output
program_cut ps = ap (λ (f : Came). f.output ++ at_end f.session) (cutting start ps)

-- a ready memory is never refused
pub never_refused : (chunk : List ℕ) (d e : Lent) (line line' : List ℕ) (st : State) → ready_in d line st ≡ true →
    FeedIs chunk d e line line' st None → ⊥
never_refused chunk d e line line' st h r = let z : ◌≡◌ {A = ℕ} 0 1 = cc in absurd (omega arith)

-- a line that is said lies at the front of an output with room for it
pub said_front : {line o p : List ℕ} {r : ℕ} → Says line o p r → length line ≤ length o → take r p ≡ line
said_front {line} {o} {p} {r} x h =
    ap (take r) (x.bytes ∙ sets-eq line o 0 (omega arith)) ∙ take_at line (drop (0 + length line) o) r (sym x.written)

-- memory that is lent again holds the same session
lent_frame : (g : Option ℕ) (line line' p : List ℕ) → 4102 ≤ length line' → take (held_len g) line' ≡ take (held_len g) line → HoldsLen g line p →
    HoldsLen g line' p
lent_frame None line line' p room e h = h
lent_frame (Some len) line line' p room e h = (h.0 ∙ sym e, omega (arith, room, h.2), h.2)

holds_again : {d e : Lent} {line line' : List ℕ} {st : State} {s : Session} → LentAgain st d e line line' → ready_in e line' st ≡ true →
    Holds d line st s → Holds e line' st s
holds_again {d} {e} {line} {line'} {st} {s} a r h =
    let z = sizes (length e.table) (length e.records) (length e.namespaces) (length line') (length e.out) st r in
    record {
      table = a.table ∙ h.table;
      namespaces = a.namespaces ∙ h.namespaces;
      frame = lent_frame st.gathered.len line line' s.partial z.line a.frame h.frame;
    }

-- what calls come to: what they said, and a memory that holds the session
abbrev Come : Came → List ℕ → State → Type 0
Come f said st = (said ≡ f.output) × ((e : Lent) × ((line : List ℕ) × Holds e line st f.session))

none_fed : (s : Session) (d : Lent) (line : List ℕ) (st : State) → Holds d line st s → Come (fed_all s []) [] st
unfolding fed_all
none_fed s d line st h = (refl, (d, (line, h)))

-- from any session that the memory holds
calls_come : (xs : List Call) (st : State) (d : Lent) (line : List ℕ) (s : Session) (input : List ℕ) → Holds d line st s → Calls st d line xs →
    Through input xs → Come (fed_all s input) (said_by xs) (state_after st xs)
unfolding said_by state_after behind
calls_come [] st d line s input h c t = rw t (none_fed s d line st h)
calls_come (x ∷ xs) st d line s input h c t =
    then (calls_come xs x.answer.state x.after x.line' (fed_all s front).session (drop x.answer.used input) w.holds c.2 t.1)
  where
    ready : ready_in x.before x.line st ≡ true
    ready = c.1.0

    front : List ℕ
    front = take (through_line x.chunk) x.chunk

    w : Comes (fed_all s front) x.before x.after x.line' x.answer
    w = c.1.1.comes s (holds_again c.0 ready h)

    said : take x.answer.written x.after.out ≡ (fed_all s front).output
    said =
        let z = sizes (length x.before.table) (length x.before.records) (length x.before.namespaces) (length x.line)
        (length x.before.out) st ready in
        said_front w.says (omega (arith, w.says.fits, z.out))

    taken : take x.answer.used input ≡ front
    taken =
        ap (take x.answer.used) t.0.1
        ∙ take-append-le x.answer.used x.chunk t.0.0 (omega (arith, c.1.1.used, through_inside x.chunk))
        ∙ ap (λ (n : ℕ). take n x.chunk) c.1.1.used

    cut : input ≡ front ++ drop x.answer.used input
    cut = sym (take-append-drop x.answer.used input) ∙ ap (λ (l : List ℕ). l ++ drop x.answer.used input) taken

    whole : fed_all s input ≡ behind (fed_all s front).output (fed_all (fed_all s front).session (drop x.answer.used input))
    whole = ap (fed_all s) cut ∙ fed_all_append s front (drop x.answer.used input)

    then : Come (fed_all (fed_all s front).session (drop x.answer.used input)) (said_by xs) (state_after x.answer.state xs) →
        Come (fed_all s input) (take x.answer.written x.after.out ++ said_by xs) (state_after x.answer.state xs)
    then ih = rw whole (ap (λ (l : List ℕ). l ++ said_by xs) said ∙ ap (λ (l : List ℕ). (fed_all s front).output ++ l) ih.0, ih.1)

-- Theorem: from the start, whatever the memory holds and however the input is cut, the lines that the calls of `feed` hand out, joined,
-- and then that of `finish`, are the program's output.
pub however_cut : (xs : List Call) (d : Lent) (line input o p : List ℕ) (r : ℕ) → Calls start_is d line xs → Through input xs → 32771 ≤ length o →
    Finishes o p (state_after start_is xs) r → said_by xs ++ take r p ≡ program_output input
unfolding program_output
however_cut xs d line input o p r c t room f =
    let w = calls_come xs start_is d line start input (holds_start d line) c t in
    let end = f.says w.1.0 w.1.1.0 (fed_all start input).session w.1.1.1 in
    ap (λ (l : List ℕ). l ++ take r p) w.0 ∙ ap (λ (l : List ℕ). (fed_all start input).output ++ l) (said_front end (omega (arith, end.fits)))
