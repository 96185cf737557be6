-- Laws of bytes that are fed frame by frame, their answers gathered in one output: as the loop of `feed_all` meets them, and where it
-- ends. Rests on session's LineLaws, FeedLaws and Cut, and on listing_rules' InputCut.
use Rattle.std.specs.Prelude.{Option, Some, None}
use Rattle.listing_rules.proofs.Prelude.{◌∙◌, ◌≡◌, ap, refl, subst, sym, Bool, cond, false, true, ◌⊎◌, inl, inr, List, [], ◌++◌, ◌∷◌, ◌*◌, ◌+◌, ◌-◌}
use Rattle.listing_rules.proofs.Prelude.{◌<◌, ◌≤◌, suc, ℕ, arith, eqb, drop, get_or, length, length-append, length-drop, take, get_or-drop}
use Rattle.listing_rules.proofs.Prelude.{length-take-le, take-add, take_all, take-append-add, take-append-le}
use borrow.Rule.Slice.PartMut.{put_mid, post_of, same_len_mid}
use Rattle.listing_rules.specs.Frames.{Session, Fed as Came, behind, fed_all}
use Rattle.listing_rules.proofs.InputCut.{fed_all_append}
use Rattle.session.specs.declared.State.{State}
use Rattle.session.specs.declared.Taken.{Taken as Took}
use Rattle.kept_table.specs.Kept.{Lent, lent}
use Rattle.session.specs.Feeding.{ready_in, Holds, through_line, Feeds, FeedIs}
use Rattle.session.proofs.LineLaws.{through_inside, through_less}
use Rattle.session.proofs.FeedLaws.{Sizes, sizes, ready_again, holds_some}
use Rattle.session.proofs.Cut.{never_refused, said_front}
use Rattle.luspemaro.specs.Serving.{turn_is, ends_frame, frames_in, Answered, Turns}

-- frames that end in bytes, and in bytes after them
pub frames_append : (a b : List ℕ) → frames_in (a ++ b) ≡ frames_in a + frames_in b
unfolding frames_in
frames_append [] b = omega arith
frames_append (c ∷ a) b = omega (arith, frames_append a b)

ends_once : (c : ℕ) → ends_frame c ≤ 1
ends_once c = go (eqb c 10)
  where
    go : (o : Bool) → cond o 1 0 ≤ 1
    go true = omega arith
    go false = omega arith

-- what a call takes ends in a line feed, or holds none
frames_through : (s : List ℕ) → 0 < length s → frames_in (take (through_line s) s) ≡ ends_frame (get_or s (through_line s - 1) 0)
unfolding frames_in through_line
frames_through [] h = absurd (omega arith)
frames_through (c ∷ t) h = go (eqb c 10) refl t (frames_through t) (through_less t)
  where
    go : (o : Bool) → eqb c 10 ≡ o → (u : List ℕ) → (0 < length u → frames_in (take (through_line u) u) ≡ ends_frame (get_or u (through_line u - 1) 0)) →
        length u - through_line u ≤ length u - 1 →
        frames_in (take (cond o 1 (suc (through_line u))) (c ∷ u)) ≡ ends_frame (get_or (c ∷ u) (cond o 1 (suc (through_line u)) - 1) 0)
    go true e u ih l = omega arith
    go false e [] ih l = omega arith
    go false e (x ∷ v) ih l =
        let k = through_line (x ∷ v) in
        let w : suc k - 1 ≡ suc (k - 1) = omega (arith, l) in
        rw (e, w) (omega (arith, ih (omega arith)))

-- Where the loop of `feed_all` stands: the first `used` bytes are fed to the memory that was `d` and `line`, and is `e` and `line'`.
pub record SoFar (bytes : List ℕ) (d : Lent) (line : List ℕ) (st : State) (e : Lent) (line' : List ℕ) (st' : State) (used frames written : ℕ) : Type 0 where
  pub inside : used ≤ length bytes
  pub came : (s : Session) → Holds d line st s → Answered (fed_all s (take used bytes)) e line' st' written
  pub room : written ≤ length e.out
  pub are : frames ≡ frames_in (take used bytes)
  pub few : frames ≤ used
  pub most : written ≤ 32771 * used
  pub ready_on : ready_in e line' st' ≡ true
  pub table : length e.table ≡ length d.table
  pub records : length e.records ≡ length d.records
  pub namespaces : length e.namespaces ≡ length d.namespaces
  pub digits : length line' ≡ length line
  pub out : length e.out ≡ length d.out

sized : (d : Lent) (line : List ℕ) (st : State) → ready_in d line st ≡ true → Sizes (length d.table) (length d.records) (length d.namespaces) (length line) (length d.out) st
sized d line st h = sizes (length d.table) (length d.records) (length d.namespaces) (length line) (length d.out) st h

none_answered : (d : Lent) (line : List ℕ) (st : State) (s : Session) → Holds d line st s → Answered (fed_all s []) d line st 0
unfolding fed_all
none_answered d line st s h = record { holds = h; answers = refl; count = refl }

pub so_far_none : (bytes : List ℕ) (d : Lent) (line : List ℕ) (st : State) → ready_in d line st ≡ true → SoFar bytes d line st d line st 0 0 0
unfolding frames_in
so_far_none bytes d line st h =
    record {
      inside = omega arith;
      came = λ s x. none_answered d line st s x;
      room = omega arith;
      are = refl;
      few = omega arith;
      most = omega arith;
      ready_on = h;
      table = refl;
      records = refl;
      namespaces = refl;
      digits = refl;
      out = refl;
    }

-- the first answers, and those of the bytes after them
take_after : (w x : List ℕ) (n k : ℕ) → length w ≡ n → take (n + k) (w ++ x) ≡ w ++ take k x
take_after w x n k e = subst (λ (m : ℕ). take (m + k) (w ++ x) ≡ w ++ take k x) e (take-append-add w x k)

module _ (s : Session) (a b : List ℕ) where
  abbrev then : Came
  then = fed_all (fed_all s a).session b

  answered_more : (o p rest : List ℕ) (e : Lent) (line : List ℕ) (st : State) (n k : ℕ) → n ≤ length o → k ≤ length p →
      take n o ≡ (fed_all s a).output → n ≡ length (fed_all s a).output → take k p ≡ then.output → k ≡ length then.output →
      Holds e line st then.session →
      Answered (fed_all s (a ++ b)) (lent e.table e.records e.namespaces (take n o ++ (p ++ rest))) line st (n + k)
  unfolding behind
  answered_more o p rest e line st n k i j x m y m' h =
      rw (fed_all_append s a b)
      (record {
        holds = record { table = h.table; namespaces = h.namespaces; frame = h.frame };
        answers = take_after (take n o) (p ++ rest) n k (length-take-le n o i) ∙ ap (λ (l : List ℕ). take n o ++ l) (take-append-le k p rest j) ∙ (λ z. x z ++ y z);
        count = omega (arith, m, m', length-append (fed_all s a).output then.output);
      })

-- One call of `feed` more: the rest of the bytes is fed, and the rest of the output takes its line.
module _ {bytes : List ℕ} {d : Lent} {line : List ℕ} {st : State} {t w n o l : List ℕ} {st₁ : State} {used frames written : ℕ}
    (so : SoFar bytes d line st (lent t w n o) l st₁ used frames written) where
  abbrev left : List ℕ
  left = take (length bytes - used) (drop used bytes)

  abbrev room_left : List ℕ
  room_left = take (length o - written) (drop written o)

  left_all : left ≡ drop used bytes
  left_all = take_all (length bytes - used) (drop used bytes) (omega (arith, length-drop used bytes))

  left_length : length left ≡ length bytes - used
  left_length = omega (arith, ap length left_all, length-drop used bytes)

  room_length : length room_left ≡ length o - written
  room_length = length-take-le (length o - written) (drop written o) (omega (arith, length-drop written o))

  -- the memory is ready for it, and so it is never refused
  still_ready : 32771 ≤ length o - written → ready_in (lent t w n room_left) l st₁ ≡ true
  still_ready h =
      let z = sized (lent t w n o) l st₁ so.ready_on in
      ready_again (length t) (length w) (length n) (length l) (length room_left) st₁
      (record { table = z.table; records = z.records; namespaces = z.namespaces; line = z.line; out = omega (arith, room_length); rows = z.rows; entries = z.entries; digits = z.digits })

  pub dead : (e : Lent) (l' : List ℕ) (r : Option Took) → 32771 ≤ length o - written → FeedIs left (lent t w n room_left) e l l' st₁ r → r ≡ None → ⊥
  dead e l' r h f q = never_refused left (lent t w n room_left) e l l' st₁ (still_ready h) (subst (λ (x : Option Took). FeedIs left (lent t w n room_left) e l l' st₁ x) q f)

  module _ (t' w' n' p l' : List ℕ) (x : Option Took) (r : Took) (more : used < length bytes) (room : 32771 ≤ length o - written)
      (answer : FeedIs left (lent t w n room_left) (lent t' w' n' p) l l' st₁ x) (known : x ≡ Some r) where
    f : Feeds left (lent t w n room_left) (lent t' w' n' p) l l' st₁ r
    f = (subst (λ (y : Option Took). FeedIs left (lent t w n room_left) (lent t' w' n' p) l l' st₁ y) known answer).1

    -- it takes a byte at least, and none behind the last
    pub takes : (used + r.used ≤ length bytes) × (0 < r.used)
    takes = (omega (arith, f.used, through_inside left, left_length), omega (arith, f.used, through_less left, left_length))

    taken_bytes : take (used + r.used) bytes ≡ take used bytes ++ take (through_line left) left
    taken_bytes = rw (f.used, left_all) (take-add used (through_line (drop used bytes)) bytes)

    last_byte_lem : get_or left (through_line left - 1) 0 ≡ get_or bytes (used + r.used - 1) 0
    last_byte_lem =
        ap (λ (s : List ℕ). get_or s (through_line left - 1) 0) left_all
        ∙ get_or-drop used bytes (through_line left - 1) 0
        ∙ ap (λ (i : ℕ). get_or bytes i 0) (omega (arith, f.used, takes.1))

    frames_more : frames_in (take (used + r.used) bytes) ≡ frames_in (take used bytes) + ends_frame (get_or bytes (used + r.used - 1) 0)
    frames_more =
        ap frames_in taken_bytes
        ∙ frames_append (take used bytes) (take (through_line left) left)
        ∙ ap (λ (k : ℕ). frames_in (take used bytes) + k) (frames_through left (omega (arith, left_length)) ∙ ap ends_frame last_byte_lem)

    came_more : length p ≡ length room_left → (s : Session) → Holds d line st s →
        Answered (fed_all s (take (used + r.used) bytes)) (lent t' w' n' (put_mid written (length o - written) o p)) l' r.state
        (written + r.written)
    came_more hp s h₀ =
        let a = so.came s h₀ in
        let h = a.holds in
        let y = f.comes (fed_all s (take used bytes)).session (record { table = h.table; namespaces = h.namespaces; frame = h.frame }) in
        let fits = y.says.fits in
        rw taken_bytes (answered_more s (take used bytes) (take (through_line left) left) o p (post_of written (length o - written) o) (lent t' w' n' p)
        l' r.state written r.written so.room (omega (arith, room_length, y.says.written, fits)) a.answers a.count
        (said_front y.says (omega (arith, room_length, fits))) y.says.written y.holds)

    -- its line is no longer than any
    pub writes : r.written ≤ 32771
    writes =
        let h = holds_some (lent t w n room_left) l st₁ (still_ready room) in
        let y = (f.comes h.0 h.1).says in
        omega (arith, y.written, y.fits)

    pub so_far_more : length t' ≡ length t → length w' ≡ length w → length n' ≡ length n → length l' ≡ length l → length p ≡ length room_left →
        SoFar bytes d line st (lent t' w' n' (put_mid written (length o - written) o p)) l' r.state (used + r.used)
        (frames + ends_frame (get_or bytes (used + r.used - 1) 0)) (written + r.written)
    so_far_more ht hw hn hl hp =
        let out = put_mid written (length o - written) o p in
        let same : length out ≡ length o = same_len_mid written (length o - written) o p hp in
        let z = sized (lent t w n o) l st₁ so.ready_on in
        let y = sized (lent t w n room_left) l r.state f.ready_on in
        record {
          inside = takes.0;
          came = came_more hp;
          room = omega (arith, same, writes);
          are = ap (λ (k : ℕ). k + ends_frame (get_or bytes (used + r.used - 1) 0)) so.are ∙ sym frames_more;
          few = omega (arith, so.few, takes.1, ends_once (get_or bytes (used + r.used - 1) 0));
          most = omega (arith, so.most, takes.1, writes);
          ready_on =
              ready_again (length t') (length w') (length n') (length l') (length out) r.state
              (record {
                table = omega (arith, ht, z.table);
                records = omega (arith, hw, z.records);
                namespaces = omega (arith, hn, z.namespaces);
                line = omega (arith, hl, z.line);
                out = omega (arith, same, z.out);
                rows = y.rows;
                entries = y.entries;
                digits = y.digits;
              });
          table = ht ∙ so.table;
          records = hw ∙ so.records;
          namespaces = hn ∙ so.namespaces;
          digits = hl ∙ so.digits;
          out = same ∙ so.out;
        }

  -- the loop ends: no byte is left, or no room for a line
  turns : (used ≡ length bytes) ⊎ (length o < written + 32771) → (0 < length bytes → 0 < used) → Turns bytes d (lent t w n o) line l st (turn_is st₁ used frames written)
  turns stop on =
      record {
        inside = so.inside;
        came = so.came;
        room = so.room;
        frames = so.are;
        stops = stop;
        onward = on;
        ready_on = so.ready_on;
      }

  pub turn_ends : length bytes ≤ used → Turns bytes d (lent t w n o) line l st (turn_is st₁ used frames written)
  turn_ends h = turns (inl (omega (arith, so.inside))) (λ e. omega arith)

  pub turn_full : length o - written < 32771 → Turns bytes d (lent t w n o) line l st (turn_is st₁ used frames written)
  turn_full h =
      let z = sized (lent t w n o) l st₁ so.ready_on in
      turns (inr (omega (arith, so.room))) (λ e. omega (arith, so.most, z.out))
