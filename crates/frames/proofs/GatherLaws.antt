-- Laws of gathered characters: one character more, none yet, and the frame of what was gathered. Rests on FrameLaws.
use Rattle.std.specs.Prelude.{Option as Maybe, Some, None}
use Rattle.listing_rules.proofs.Prelude.{◌∙◌, ◌≡◌, ap, refl, sym, Bool, ◌&&◌, cond, false, true, List, [], ◌++◌, ◌∷◌, ◌+◌, ◌<◌, ◌≤◌, ℕ, add-one}
use Rattle.listing_rules.proofs.Prelude.{arith, ltb, length, length-append, length-set, set, length-take-le, take-suc-set, eq-eqb, le-ltb}
use Rattle.listing_rules.proofs.Prelude.{lt-ltb, ltb-false, ltb-true, ne_eqb}
use Rattle.listing_rules.specs.Bytes.{is_empty}
use Rattle.listing_rules.specs.Frames.{read_frame}
use Rattle.frames.specs.declared.gathering.Gathered.{Gathered}
use Rattle.frames.specs.declared.reading.Frame.{Frame}
use Rattle.frames.specs.Reading.{FrameRead}
use Rattle.frames.specs.Gathering.{HoldsLen, Holds, gathered_none, has_room, len_more, line_more, gathered_is, gathered_line, none_yet, text_of, gathered_text}
use Rattle.frames.specs.Gathering.{Gathers, IsEmpty, GatheredRead}
use Rattle.frames.proofs.FrameLaws.{bad_long, bad_short}

-- at the start no character is held, in any line
pub holds_none : (line : List ℕ) → Holds line gathered_none []
holds_none line = (refl, omega arith, omega arith)

-- one character more, in a line of 4,102 bytes or more
holds_more : (g : Maybe ℕ) (d p : List ℕ) (c : ℕ) → 4102 ≤ length d → HoldsLen g d p → HoldsLen (len_more (length d) g) (line_more d g c) (p ++ (c ∷ []))
unfolding has_room
holds_more None d p c room h = omega (arith, h, length-append p (c ∷ []))
holds_more (Some len) d p c room h = go (ltb len 4102) refl
  where
    go : (o : Bool) → ltb len 4102 ≡ o →
        HoldsLen (cond (o && ltb len (length d)) (Some (len + 1)) None) (cond (o && ltb len (length d)) (set d len c) d) (p ++ (c ∷ []))
    go true e =
        let inside : len < length d = omega (arith, ltb-true len 4102 e) in
        rw (lt-ltb len (length d) inside)
        (rw (h.0, add-one) (sym (take-suc-set d len c inside)), omega (arith, length-set d len c), omega (arith, ltb-true len 4102 e))
    go false e = omega (arith, ltb-false len 4102 e, length-append p (c ∷ []), ap length h.0, length-take-le len d h.1)

-- the answer and the bytes are all that a character more promises
pub gathers : (d e : List ℕ) (g : Gathered) (c : ℕ) (r : Gathered) → r ≡ gathered_is (length d) g → e ≡ gathered_line d g c → Gathers d e g c r
unfolding gathered_is gathered_line
gathers d e g c r a b =
    record {
      holds = λ room p h. rw (a, b) (holds_more g.len d p c room h);
      answer = a;
      bytes = b;
      kept = ap length b ∙ same g.len;
    }
  where
    same_when : (o : Bool) (len : ℕ) → length (cond o (set d len c) d) ≡ length d
    same_when true len = length-set d len c
    same_when false len = refl

    same : (q : Maybe ℕ) → length (line_more d q c) ≡ length d
    same None = refl
    same (Some len) = same_when (has_room (length d) len) len

-- by what was gathered before: overlong, or so many characters, with room for one more or without
module _ (d : List ℕ) (g : Gathered) (c : ℕ) where
  pub gathers_over : g.len ≡ None → Gathers d d g c g
  unfolding gathered_is gathered_line
  gathers_over e = gathers d d g c g (over g e) (sym (ap (λ (q : Maybe ℕ). line_more d q c) e))
    where
      over : (q : Gathered) → q.len ≡ None → q ≡ record { len = len_more (length d) q.len }
      over q z = λ i. record { len = (z ∙ sym (ap (len_more (length d)) z)) i }

  pub gathers_more : (len : ℕ) → g.len ≡ Some len → len < 4102 → len < length d → Gathers d (set d len c) g c (record { len = Some (len + 1) })
  unfolding gathered_is gathered_line has_room
  gathers_more len e h k = gathers d (set d len c) g c (record { len = Some (len + 1) }) (rw (e, lt-ltb len 4102 h, lt-ltb len (length d) k)) (rw (e, lt-ltb len 4102 h, lt-ltb len (length d) k))

  pub gathers_full : (len : ℕ) → g.len ≡ Some len → has_room (length d) len ≡ false → Gathers d d g c (record { len = None })
  unfolding gathered_is gathered_line
  gathers_full len e h = gathers d d g c (record { len = None }) (rw (e, h)) (rw (e, h))

-- whether there is no character yet
pub empty_is : (g : Maybe ℕ) (line p : List ℕ) → HoldsLen g line p → none_yet g ≡ is_empty p
unfolding is_empty
empty_is None line [] h = absurd (omega (arith, h))
empty_is None line (x ∷ t) h = refl
empty_is (Some len) line [] h = eq-eqb len 0 (omega (arith, ap length h.0, length-take-le len line h.1))
empty_is (Some len) line (x ∷ t) h = ne_eqb len 0 (λ e. omega (arith, ap length h.0, length-take-le len line h.1))

pub empty_by : (g : Gathered) (q : Maybe ℕ) → g.len ≡ q → (r : Bool) → r ≡ none_yet q → IsEmpty g r
empty_by g q e r a =
    let so : r ≡ none_yet g.len = a ∙ sym (ap none_yet e) in record { holds = λ line p h. so ∙ empty_is g.len line p h; answer = so }

-- the characters that are read make the same frame as those that came
text_read : (g : Maybe ℕ) (line p : List ℕ) → HoldsLen g line p → read_frame (text_of line g) ≡ read_frame p
text_read None line p h = bad_short [] (omega arith) ∙ sym (bad_long p h)
text_read (Some len) line p h = rw (le-ltb (length line) len h.1) (ap read_frame (sym h.0))

-- so the reading of the text means the frame of those that came
pub gathered_read : (line : List ℕ) (g : Gathered) (d e : List ℕ) (r : Maybe Frame) → FrameRead (gathered_text line g) d e r → GatheredRead line g d e r
unfolding gathered_text
gathered_read line g d e r f = record { means = λ room p h. f.means room ∙ text_read g.len line p h; read = f }
