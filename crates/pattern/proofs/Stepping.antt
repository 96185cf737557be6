-- One step from where a match stands: it leads to where the match stands again, with fewer steps left, or gives the answer. Rests on
-- Standing and Costs.
use Rattle.listing_rules.proofs.Prelude.{◌∙◌, ◌≡◌, ap, refl, sym, Bool, cond, false, true, List, [], ◌++◌, ◌∷◌, ◌+◌, ◌-◌, ◌<◌, ◌≤◌, ℕ, arith, eqb}
use Rattle.listing_rules.proofs.Prelude.{drop, length, length-drop, eqb-false, eqb-true}
use Rattle.listing_rules.specs.Bytes.{slash, is_empty}
use Rattle.listing_rules.specs.Match.{wild_match}
use Rattle.pattern.specs.declared.steps.Kind.{Kind}
use Rattle.pattern.specs.declared.steps.Kind.TheVariants.{Plain, Level, Any}
use Rattle.pattern.specs.declared.steps.Known.{Known}
use Rattle.pattern.specs.declared.steps.Known.TheVariants.{Gone, Pending, Settled}
use Rattle.pattern.specs.declared.steps.Going.{Going}
use Rattle.pattern.specs.declared.steps.Going.TheVariants.{On, Matched, Missed}
use Rattle.pattern.specs.declared.steps.At.{At}
use Rattle.pattern.specs.Folded.{folded, is_wildcard}
use Rattle.pattern.specs.Steps.{retried_is, resumed_as, given_up_as, given_up_is, star_is, pending_as, level_is, fixed_as, settled_as, slash_is, plain_run}
use Rattle.pattern.specs.Steps.{went_is, byte_is, name_is, looked_at, step_is, begun_is}
use Rattle.pattern.proofs.Tails.{PlainByte, Plainly, byte_other}
use Rattle.pattern.proofs.Places.{next_level, past, past_all, room, left, next_more, next_slash, next_byte, after, past_wild, past_slash}
use Rattle.pattern.proofs.Places.{past_plain, all_least, all_none, left_none}
use Rattle.pattern.proofs.Spans.{rest_at, span, span_none, span_length, rest_next, rest_inside}
use Rattle.pattern.proofs.Standing.{Begun, Decides, later, begun_here, yes_ends, no_end, star_last, star_decides, level_plain, level_level}
use Rattle.pattern.proofs.Standing.{level_any_run, byte_plain, byte_run, slash_gone, slash_pending, slash_settled, slash_any, retry_any}
use Rattle.pattern.proofs.Standing.{retry_level, given_later, level_later, begin_decides, later_begins}
use Rattle.pattern.proofs.Costs.{owed, due, Under, run_level, begun_more, grown_left, grown_slash, grown_wild, grown_plain, due_past, due_run}
use Rattle.pattern.proofs.Costs.{due_retry, due_resume}

-- a run after a "*" has no other to go back to, and what is pending belongs to a run in a level
abbrev pub Fits : Kind → Known → Type 0
Fits Plain Gone = Unit {0}
Fits Plain Pending = ⊥
Fits Plain Settled = Unit {0}
Fits Level h = Unit {0}
Fits Any Gone = Unit {0}
Fits Any Pending = ⊥
Fits Any Settled = ⊥

any_gone : (h : Known) → Fits Any h → h ≡ Gone
any_gone Gone f = refl
any_gone Pending f = absurd f
any_gone Settled f = absurd f

-- the name has a byte at place x, which is no slash if the condition holds
record First (name : List ℕ) (x : ℕ) (when : Type 0) : Type 0 where
  byte : ℕ
  stands : drop x name ≡ byte ∷ drop (x + 1) name
  within : when → eqb byte slash ≡ false

pub record Stands (fold : Bool) (pattern name : List ℕ) (k : Kind) (h : Known) (a x i j s g : ℕ) : Type 0 where
  pub begun : Begun fold pattern name a x i j
  pub decides : Decides fold pattern name k h a x j s g
  pub fits : Fits k h
  pub under : Under fold pattern name h a x s g

-- where the run began
abbrev pub base_of : Kind → ℕ → ℕ → ℕ
base_of Plain back i = i
base_of Level back i = back
base_of Any back i = back

abbrev pub base_at : At → ℕ
base_at t = base_of t.run.kind t.run.back t.i

pub record Good (fold : Bool) (pattern name : List ℕ) (t : At) : Type 0 where
  pub start : ℕ
  pub stands : Stands fold pattern name t.run.kind t.star.known (base_at t) start t.i t.j t.star.place t.star.from

-- the steps that are left
unfoldable pub due_at : Bool → List ℕ → List ℕ → At → ℕ
due_at fold pattern name t =
    due fold pattern name t.star.known (base_at t) (t.j - (t.i - base_at t)) t.i t.j t.star.place t.star.from

-- the state after a step, with fewer left than before
pub record Goes (fold : Bool) (pattern name : List ℕ) (most : ℕ) (u : At) : Type 0 where
  pub good : Good fold pattern name u
  pub fewer : due_at fold pattern name u + 1 ≤ most

abbrev pub Outcome : Bool → List ℕ → List ℕ → ℕ → At → Going → Type 0
Outcome fold pattern name most u On = Goes fold pattern name most u
Outcome fold pattern name most u Matched = wild_match (folded fold pattern) name ≡ true
Outcome fold pattern name most u Missed = wild_match (folded fold pattern) name ≡ false

module _ (fold : Bool) (pattern name : List ℕ) where
  abbrev R : ℕ → List ℕ
  R a = rest_at fold pattern a

  abbrev Then : ℕ → At → Type 0
  Then most u = Outcome fold pattern name most u u.going

  pub due_is : (t : At) (g : Good fold pattern name t)
      → due_at fold pattern name t ≡ due fold pattern name t.star.known (base_at t) g.start t.i t.j t.star.place t.star.from
  unfolding due_at
  due_is t g =
      let w : t.j - (t.i - base_at t) ≡ g.start = omega (arith, g.stands.begun.even) in
      ap (λ (x : ℕ). due fold pattern name t.star.known (base_at t) x t.i t.j t.star.place t.star.from) w

  goes : (u : At) (x most : ℕ) → Stands fold pattern name u.run.kind u.star.known (base_at u) x u.i u.j u.star.place u.star.from
      → due fold pattern name u.star.known (base_at u) x u.i u.j u.star.place u.star.from + 1 ≤ most → Goes fold pattern name most u
  goes u x most b l =
      let g : Good fold pattern name u = record { start = x; stands = b } in
      record { good = g; fewer = rw (due_is u g) l }

  -- ---- the "*" to go back to, past the byte c

  module _ (a x i j : ℕ) (b : Begun fold pattern name a x i j) (c : ℕ) (p : R i ≡ c ∷ R (i + 1)) where
    over : (s w : ℕ) → next_level name x ≤ past_all name w (span fold pattern s a) → x + 1 ≤ past_all name w (span fold pattern s a)
    over s w z = omega (arith, z, next_more name x)

    -- a "*" that is pending leads past the level wherever it stands
    pending_over : (s : ℕ) → next_level name x ≤ past_all name (next_level name j) (span fold pattern s a)
    pending_over s = omega (arith, run_level fold pattern name a x i j b, all_least name (span fold pattern s a) (next_level name j))

    under_wild : (h : Known) (s g : ℕ) → is_wildcard c ≡ true → Under fold pattern name h a x s g → Under fold pattern name h (i + 1) j s g
    under_wild Gone s g w u = tt
    under_wild Pending s g w u = omega (arith, b.order)
    under_wild Settled s g w u =
        (omega (arith, b.order, u.0), u.1, grown_wild fold pattern name a x i j b s g c u.0 p (over s g u.2) w u.2)

    under_slash : (h : Known) (s g : ℕ) → Fits Plain h → is_wildcard c ≡ false → eqb c slash ≡ true → Under fold pattern name h a x s g → Under fold pattern name h (i + 1) (j + 1) s g
    under_slash Gone s g f w v u = tt
    under_slash Pending s g f w v u = absurd f
    under_slash Settled s g f w v u =
        (omega (arith, b.order, u.0), u.1, grown_slash fold pattern name a x i j b s g c u.0 p (over s g u.2) w v)

    under_plain : (h : Known) (s g : ℕ) → Fits Plain h → PlainByte c → next_level name (j + 1) ≤ next_level name x
        → Under fold pattern name h a x s g → Under fold pattern name h (i + 1) (j + 1) s g
    under_plain Gone s g f v n u = tt
    under_plain Pending s g f v n u = absurd f
    under_plain Settled s g f v n u =
        (omega (arith, b.order, u.0), u.1, grown_plain fold pattern name a x i j b s g c u.0 p (over s g u.2) v n u.2)

    -- what is owed for it
    abbrev most_owed : Known → ℕ → ℕ → ℕ
    most_owed h s g = owed fold pattern name h a j s g + (left name (x + 1) (span fold pattern a i) + room name (j + 1))

    owed_wild : (h : Known) (s g : ℕ) → Under fold pattern name h a x s g → owed fold pattern name h (i + 1) j s g ≤ most_owed h s g
    owed_wild Gone s g u = omega arith
    owed_wild Pending s g u = grown_left fold pattern name a x i j b s (next_level name j) c u p (over s (next_level name j) (pending_over s))
    owed_wild Settled s g u = grown_left fold pattern name a x i j b s g c u.0 p (over s g u.2)

    owed_byte : (h : Known) (s g : ℕ) → Fits Plain h → Under fold pattern name h a x s g → owed fold pattern name h (i + 1) (j + 1) s g ≤ most_owed h s g
    owed_byte Gone s g f u = omega arith
    owed_byte Pending s g f u = absurd f
    owed_byte Settled s g f u = grown_left fold pattern name a x i j b s g c u.0 p (over s g u.2)

    -- where the run began after a "*", that is the one to go back to
    module _ (w : ℕ) (z : x + 1 ≤ w) where
      none_past : x + 1 ≤ past_all name w (span fold pattern a a)
      none_past = rw (span_none fold pattern a, all_none name w) z

      owed_any : left name w (span fold pattern a (i + 1)) ≤ most_owed Gone 0 0
      owed_any =
          let e : left name w (span fold pattern a a) ≡ 0 = rw (span_none fold pattern a) (left_none name w) in
          omega (arith, e, grown_left fold pattern name a x i j b a w c (omega arith) p none_past)

      slash_any_past : is_wildcard c ≡ false → eqb c slash ≡ true → next_level name (j + 1) ≤ past_all name w (span fold pattern a (i + 1))
      slash_any_past v u = grown_slash fold pattern name a x i j b a w c (omega arith) p none_past v u

  -- ---- the ways of a step

  module _ (t : At) where
    abbrev i : ℕ
    i = t.i

    abbrev j : ℕ
    j = t.j

    abbrev h : Known
    h = t.star.known

    abbrev s : ℕ
    s = t.star.place

    abbrev g : ℕ
    g = t.star.from

    abbrev base : Kind → ℕ
    base k = base_of k t.run.back i

    abbrev Here : Kind → Known → ℕ → Type 0
    Here k o x = Stands fold pattern name k o (base k) x i j s g

    abbrev due_here : Kind → Known → ℕ → ℕ
    due_here k o x = due fold pattern name o (base k) x i j s g

    -- a "*" begins
    begins : (y z most : ℕ) → y ≤ length pattern → z ≤ length name → Decides fold pattern name Any Gone y z z 0 0
        → due fold pattern name Gone y z y z 0 0 + 1 ≤ most → Goes fold pattern name most (begun_is t y z)
    begins y z most p q d l =
        goes (begun_is t y z) z most (record { begun = begun_here fold pattern name y z p q; decides = d; fits = tt; under = tt }) l

    star_goes : (k : Kind) (x : ℕ) → Here k h x → R i ≡ 42 ∷ R (i + 1) → Goes fold pattern name (due_here k h x) (begun_is t (i + 1) j)
    star_goes k x b p =
        begins (i + 1) j (due_here k h x) (omega (arith, rest_inside fold pattern i 42 (R (i + 1)) p)) b.begun.within
        (star_decides fold pattern name (base k) x i j b.begun k h s g b.decides p)
        (due_past fold pattern name (base k) x i j b.begun h Gone s g 0 0 j 42 p (past_wild name j 42 refl) (omega arith))

    -- ---- at "%"

    module _ (x : ℕ) (p : R i ≡ 37 ∷ R (i + 1)) where
      abbrev level_to : Kind → At
      level_to k = went_is t (i + 1) j (record { kind = Level; back = i + 1 }) (pending_as k t)

      level_begun : (k : Kind) → Here k h x → Begun fold pattern name (i + 1) j (i + 1) j
      level_begun k b = begun_here fold pattern name (i + 1) j (omega (arith, rest_inside fold pattern i 37 (R (i + 1)) p)) b.begun.within

      -- the "*" to go back to stays
      level_same : (k : Kind) → Here k h x → Decides fold pattern name Level h (i + 1) j j s g
          → Goes fold pattern name (due_here k h x) (went_is t (i + 1) j (record { kind = Level; back = i + 1 }) t.star)
      level_same k b d =
          goes (went_is t (i + 1) j (record { kind = Level; back = i + 1 }) t.star) j (due_here k h x)
          (record {
            begun = level_begun k b;
            decides = d;
            fits = tt;
            under = under_wild (base k) x i j b.begun 37 p h s g refl b.under;
          })
          (due_past fold pattern name (base k) x i j b.begun h h s g s g j 37 p (past_wild name j 37 refl) (owed_wild (base k) x i j b.begun 37 p h s g b.under))

      level_goes : (k : Kind) → Here k h x → Goes fold pattern name (due_here k h x) (level_to k)
      unfolding pending_as
      level_goes Plain b = level_same Plain b (level_plain fold pattern name i x i j b.begun Plain h s g b.decides p refl)
      level_goes Level b = level_same Level b (level_level fold pattern name t.run.back x i j b.begun Level h s g b.decides p refl)
      level_goes Any b =
          let back = t.run.back in
          goes (level_to Any) j (due_here Any h x)
          (record {
            begun = level_begun Any b;
            decides = level_any_run fold pattern name back x i j b.begun Any h s g b.decides p refl (any_gone h b.fits);
            fits = tt;
            under = omega (arith, b.begun.order);
          })
          (due_past fold pattern name back x i j b.begun h Pending s g back 0 j 37 p (past_wild name j 37 refl)
          (omega (arith, owed_any back x i j b.begun 37 p (next_level name j) (omega (arith, run_level fold pattern name back x i j b.begun, next_more name x)))))

    -- ---- a byte of both

    module _ (x c : ℕ) (p : R i ≡ c ∷ R (i + 1)) (q : drop j name ≡ c ∷ drop (j + 1) name) (w : is_wildcard c ≡ false) (n : j < length name) where
      on_begun : Begun fold pattern name (i + 1) (j + 1) (i + 1) (j + 1)
      on_begun = begun_here fold pattern name (i + 1) (j + 1) (omega (arith, rest_inside fold pattern i c (R (i + 1)) p)) (omega arith)

      abbrev slash_to : Kind → At
      slash_to k = went_is t (i + 1) (j + 1) plain_run (settled_as k t)

      later_same : (o : Known) → Fits Plain o → later fold pattern name o s g j ≡ later fold pattern name o s g (j + 1)
      later_same Gone f = refl
      later_same Pending f = absurd f
      later_same Settled f = refl

      -- a slash
      module _ (v : eqb c slash ≡ true) where
        past_both : past name j c ≡ j + 1
        past_both = past_slash name j c w v ∙ next_slash name j c (drop (j + 1) name) q v

        -- a level ends; the "*" to go back to stays, or is settled now
        slash_stays : (o : Known) → h ≡ o → Fits Plain o → Here Level o x → Decides fold pattern name Plain o (i + 1) (j + 1) (j + 1) s g
            → Goes fold pattern name (due_here Level o x) (went_is t (i + 1) (j + 1) plain_run t.star)
        slash_stays o e f b d =
            goes (went_is t (i + 1) (j + 1) plain_run t.star) (j + 1) (due_here Level o x)
            (rw e (record { begun = on_begun; decides = d; fits = f; under = under_slash (base Level) x i j b.begun c p o s g f w v b.under }))
            (rw e (due_past fold pattern name (base Level) x i j b.begun o o s g s g (j + 1) c p past_both (owed_byte (base Level) x i j b.begun c p o s g f b.under)))

        slash_level : (o : Known) → h ≡ o → Here Level o x → Goes fold pattern name (due_here Level o x) (went_is t (i + 1) (j + 1) plain_run (fixed_as o t.star (j + 1)))
        unfolding fixed_as
        slash_level Gone e b = slash_stays Gone e tt b (slash_gone fold pattern name (base Level) x i j b.begun Level Gone s g b.decides c p q w v refl refl)
        slash_level Settled e b = slash_stays Settled e tt b (slash_settled fold pattern name (base Level) x i j b.begun Level Settled s g b.decides c p q w v refl refl)
        slash_level Pending e b =
            let z : x + 1 ≤ past_all name (j + 1) (span fold pattern s (base Level)) = omega (arith, b.begun.even, all_least name (span fold pattern s (base Level)) (j + 1)) in
            goes (went_is t (i + 1) (j + 1) plain_run (record { known = Settled; place = s; from = j + 1 })) (j + 1) (due_here Level Pending x)
            (record {
              begun = on_begun;
              decides = slash_pending fold pattern name (base Level) x i j b.begun Level Pending s g b.decides c p q w v refl refl;
              fits = tt;
              under = (omega (arith, b.begun.order, b.under), omega arith, grown_slash fold pattern name (base Level) x i j b.begun s (j + 1) c b.under p z w v);
            })
            (due_past fold pattern name (base Level) x i j b.begun Pending Settled s g s (j + 1) (j + 1) c p past_both
            (rw (next_slash name j c (drop (j + 1) name) q v) (grown_left fold pattern name (base Level) x i j b.begun s (j + 1) c b.under p z)))

        slash_goes : (k : Kind) → Here k h x → Goes fold pattern name (due_here k h x) (slash_to k)
        unfolding settled_as
        slash_goes Plain b =
            goes (slash_to Plain) (j + 1) (due_here Plain h x)
            (record {
              begun = on_begun;
              decides = byte_plain fold pattern name i x i j b.begun Plain h s g b.decides c p q w refl (later_same h b.fits);
              fits = b.fits;
              under = under_slash i x i j b.begun c p h s g b.fits w v b.under;
            })
            (due_past fold pattern name i x i j b.begun h h s g s g (j + 1) c p past_both (owed_byte i x i j b.begun c p h s g b.fits b.under))
        slash_goes Level b = slash_level h refl b
        slash_goes Any b =
            let back = t.run.back in
            goes (slash_to Any) (j + 1) (due_here Any h x)
            (record {
              begun = on_begun;
              decides = slash_any fold pattern name back x i j b.begun Any h s g b.decides c p q w v refl (any_gone h b.fits);
              fits = tt;
              under = (omega (arith, b.begun.order), omega arith, slash_any_past back x i j b.begun c p (j + 1) (omega (arith, b.begun.even)) w v);
            })
            (due_past fold pattern name back x i j b.begun h Settled s g back (j + 1) (j + 1) c p past_both
            (omega (arith, owed_any back x i j b.begun c p (j + 1) (omega (arith, b.begun.even)))))

      -- a plain byte
      module _ (v : PlainByte c) where
        abbrev byte_to : At
        byte_to = went_is t (i + 1) (j + 1) t.run t.star

        owed_next : (o : Known) (a : ℕ) → owed fold pattern name o a (j + 1) s g ≤ owed fold pattern name o a j s g
        owed_next Gone a = omega arith
        owed_next Pending a = rw (next_byte name j c (drop (j + 1) name) q v.within) (omega arith)
        owed_next Settled a = omega arith

        -- the run is longer
        byte_longer : (k : Kind) → t.run.kind ≡ k → (base k ≡ base_of k t.run.back (i + 1)) → Here k h x → Goes fold pattern name (due_here k h x) byte_to
        byte_longer k e f b =
            goes byte_to x (due_here k h x)
            (rw (e, ← f) (record {
              begun = begun_more fold pattern name (base k) x i j b.begun c (rest_inside fold pattern i c (R (i + 1)) p) n p q v;
              decides = byte_run fold pattern name (base k) x i j b.begun k h s g b.decides c p q w v.within;
              fits = b.fits;
              under = b.under;
            }))
            (rw (e, ← f) (due_run fold pattern name (base k) x i j b.begun h s g c p v (owed_next h (base k))))

        byte_goes : (k : Kind) → t.run.kind ≡ k → Here k h x → Goes fold pattern name (due_here k h x) byte_to
        byte_goes Plain e b =
            let m : next_level name (j + 1) ≤ next_level name x = omega (arith, run_level fold pattern name i x i j b.begun, next_byte name j c (drop (j + 1) name) q v.within) in
            goes byte_to (j + 1) (due_here Plain h x)
            (rw e (record {
              begun = on_begun;
              decides = byte_plain fold pattern name i x i j b.begun Plain h s g b.decides c p q w refl (later_same h b.fits);
              fits = b.fits;
              under = under_plain i x i j b.begun c p h s g b.fits v m b.under;
            }))
            (rw e (due_past fold pattern name i x i j b.begun h h s g s g (j + 1) c p (past_plain name j c v) (owed_byte i x i j b.begun c p h s g b.fits b.under)))
        byte_goes Level e b = byte_longer Level e refl b
        byte_goes Any e b = byte_longer Any e refl b

    -- ---- no match here

    module _ (x d : ℕ) (o : wild_match (R i) (drop j name) ≡ false) (q : drop j name ≡ d ∷ drop (j + 1) name) (n : j < length name) where
      any_under : (z : Known) (a y : ℕ) → Fits Any z → Under fold pattern name z a y s g
      any_under Gone a y f = tt
      any_under Pending a y f = absurd f
      any_under Settled a y f = absurd f

      any_owed : (z : Known) (a y : ℕ) → Fits Any z → owed fold pattern name z a y s g ≤ owed fold pattern name z a j s g
      any_owed Gone a y f = omega arith
      any_owed Pending a y f = absurd f
      any_owed Settled a y f = absurd f

      -- the first byte of the run, or the byte here
      module _ (a : ℕ) (b : Begun fold pattern name a x i j) where
        first : First name x (i ≡ a → eqb d slash ≡ false)
        first = go (span fold pattern a i) refl
          where
            go : (l : List ℕ) → span fold pattern a i ≡ l → First name x (i ≡ a → eqb d slash ≡ false)
            go [] e =
                let m : i ≡ a = omega (arith, ap length e, span_length fold pattern a i b.order b.inside, b.order) in
                let w : x ≡ j = omega (arith, b.even) in
                record {
                  byte = d;
                  stands = ap (λ (y : ℕ). drop y name) w ∙ q ∙ ap (λ (y : ℕ). d ∷ drop (y + 1) name) (sym w);
                  within = λ f. f m;
                }
            go (c ∷ l) e =
                let f : drop x name ≡ c ∷ (l ++ drop j name) = b.front ∙ rw e in
                let v : Plainly (c ∷ l) = rw e at b.plain in
                record {
                  byte = c;
                  stands = f ∙ ap (λ (m : List ℕ). c ∷ m) (sym (after name x c (l ++ drop j name) f));
                  within = λ _. v.0.within;
                }

      -- the run begins a byte later
      retry_goes : (k : Kind) → t.run.kind ≡ k → base_of k t.run.back t.run.back ≡ t.run.back → Stands fold pattern name k h t.run.back x i j s g
          → Decides fold pattern name k h t.run.back (x + 1) (x + 1) s g → Under fold pattern name h t.run.back (x + 1) s g
          → owed fold pattern name h t.run.back (x + 1) s g ≤ owed fold pattern name h t.run.back j s g
          → Goes fold pattern name (due fold pattern name h t.run.back x i j s g) (retried_is t)
      retry_goes k e f b m u l =
          let back = t.run.back in
          let w : j + 1 - (i - back) ≡ x + 1 = omega (arith, b.begun.even, b.begun.order) in
          goes (retried_is t) (x + 1) (due fold pattern name h back x i j s g)
          (rw (e, f, w) (record {
            begun = begun_here fold pattern name back (x + 1) (omega (arith, b.begun.order, b.begun.inside)) (omega (arith, b.begun.even));
            decides = m;
            fits = b.fits;
            under = u;
          }))
          (rw (e, f, w) (due_retry fold pattern name back x i j b.begun h s g l))

      retried_any : t.run.kind ≡ Any → Here Any h x → Goes fold pattern name (due_here Any h x) (retried_is t)
      retried_any e b =
          let back = t.run.back in
          let c = first back b.begun in
          retry_goes Any e refl b
          (retry_any fold pattern name back x i j b.begun Any h s g b.decides o c.byte c.stands refl (any_gone h b.fits))
          (any_under h back (x + 1) b.fits) (any_owed h back (x + 1) b.fits)

      -- within a level, where no slash is passed
      under_next : (z : Known) (a : ℕ) → next_level name x ≡ next_level name (x + 1) → Under fold pattern name z a x s g → Under fold pattern name z a (x + 1) s g
      under_next Gone a e u = tt
      under_next Pending a e u = u
      under_next Settled a e u = (u.0, u.1, rw (← e) u.2)

      owed_back : (z : Known) (a : ℕ) → next_level name j ≡ next_level name (x + 1) → owed fold pattern name z a (x + 1) s g ≤ owed fold pattern name z a j s g
      owed_back Gone a e = omega arith
      owed_back Pending a e = rw e (omega arith)
      owed_back Settled a e = omega arith

      retried_level : t.run.kind ≡ Level → (i ≡ t.run.back → eqb d slash ≡ false) → Here Level h x → Goes fold pattern name (due_here Level h x) (retried_is t)
      retried_level e f b =
          let back = t.run.back in
          let c = first back b.begun in
          let v = c.within f in
          let m = next_byte name x c.byte (drop (x + 1) name) c.stands v in
          retry_goes Level e refl b
          (retry_level fold pattern name back x i j b.begun Level h s g b.decides o c.byte c.stands refl v)
          (under_next h back m b.under) (owed_back h back (sym (run_level fold pattern name back x i j b.begun) ∙ m))

      -- the "*" goes on
      module _ (a : ℕ) (b : Begun fold pattern name a x i j) (z : a ≡ i) where
        abbrev resume_due : Known → ℕ
        resume_due r = due fold pattern name r a x i j s g

        resumed : (r : Known) → wild_match (folded fold pattern) name ≡ later fold pattern name r s g j → (r ≡ Pending → eqb d slash ≡ true)
            → Under fold pattern name r a x s g → Then (resume_due r) (resumed_as r t)
        unfolding resumed_as
        resumed Gone e f u = e
        resumed Pending e f u =
            let v = f refl in
            let m : next_level name j ≡ j + 1 = next_slash name j d (drop (j + 1) name) q v in
            begins s (j + 1) (resume_due Pending) (omega (arith, u, b.order, b.inside)) (omega arith)
            (begin_decides fold pattern name s (j + 1) (e ∙ later_begins fold pattern name d s g j q v))
            (due_resume fold pattern name a x i j b Pending s g (j + 1) z u (rw m)
            (omega (arith, m, run_level fold pattern name a x i j b, all_least name (span fold pattern s a) (j + 1))))
        resumed Settled e f u =
            begins s g (resume_due Settled) (omega (arith, u.0, b.order, b.inside)) u.1 (begin_decides fold pattern name s g e)
            (due_resume fold pattern name a x i j b Settled s g g z u.0 refl u.2)

      -- by the kind of the run
      no_pending : (r : Known) → Fits Plain r → r ≡ Pending → eqb d slash ≡ true
      no_pending Gone f e = cc
      no_pending Pending f e = absurd f
      no_pending Settled f e = cc

      gave_up : (k : Kind) → t.run.kind ≡ k → Here k h x → Then (due_here k h x) (given_up_as k t d)
      unfolding given_up_as
      gave_up Plain e b =
          resumed i b.begun refl h (given_later fold pattern name i x i j b.begun Plain h s g b.decides o refl) (no_pending h b.fits) b.under
      gave_up Any e b = retried_any e b
      gave_up Level e b = go (eqb d slash) (eqb i t.run.back) refl refl
        where
          go : (u v : Bool) → eqb d slash ≡ u → eqb i t.run.back ≡ v
              → Then (due_here Level h x) (cond u (cond v (resumed_as h t) (retried_is t)) (retried_is t))
          go false v f m = retried_level e (λ _. f) b
          go true false f m = retried_level e (λ r. absurd (eqb-false i t.run.back m r)) b
          go true true f m =
              let r : t.run.back ≡ i = sym (eqb-true i t.run.back m) in
              resumed t.run.back b.begun r h
              (level_later fold pattern name t.run.back x i j b.begun Level h s g b.decides o d (drop (j + 1) name) refl r q f) (λ _. f) b.under

    -- ---- any place

    name_inside : (d : ℕ) (m : List ℕ) → drop j name ≡ d ∷ m → j < length name
    name_inside d m q = omega (arith, ap length q, length-drop j name)

    name_next : (d : ℕ) (m : List ℕ) → drop j name ≡ d ∷ m → drop j name ≡ d ∷ drop (j + 1) name
    name_next d m q = q ∙ ap (λ (l : List ℕ). d ∷ l) (sym (after name j d m q))

    rest_here : (c : ℕ) (ps : List ℕ) → R i ≡ c ∷ ps → R i ≡ c ∷ R (i + 1)
    rest_here c ps p = p ∙ ap (λ (l : List ℕ). c ∷ l) (sym (rest_next fold pattern i c ps p))

    module _ (x : ℕ) (b : Here t.run.kind h x) where
      abbrev k : Kind
      k = t.run.kind

      abbrev most : ℕ
      most = due_here k h x

      -- at the end of the pattern, with a byte of the name left
      none_over : (d : ℕ) (m : List ℕ) → R i ≡ [] → drop j name ≡ d ∷ m → wild_match (R i) (drop j name) ≡ false
      unfolding wild_match is_empty
      none_over d m p q = rw (p, q)

      over_end : (d : ℕ) (m : List ℕ) → R i ≡ [] → drop j name ≡ d ∷ m → Then most (given_up_is t d)
      over_end d m p q = gave_up x d (none_over d m p q) (name_next d m q) (name_inside d m q) k refl b

      star_place : (ps : List ℕ) → R i ≡ 42 ∷ ps → Then most (star_is (is_empty ps) t)
      unfolding star_is is_empty
      star_place [] p =
          star_last fold pattern name (base k) x i j b.begun k h s g b.decides (rest_here 42 [] p) (rest_next fold pattern i 42 [] p)
      star_place (c ∷ ps) p = star_goes k x b (rest_here 42 (c ∷ ps) p)

      -- a byte of the pattern that stands for itself
      module _ (c : ℕ) (ps : List ℕ) (p : R i ≡ c ∷ ps) (w : is_wildcard c ≡ false) where
        byte_place : (d : ℕ) (m : List ℕ) → drop j name ≡ d ∷ m → Then most (byte_is c d t)
        unfolding byte_is
        byte_place d m q = go (eqb c d) (eqb c slash) refl refl
          where
            go : (u v : Bool) → eqb c d ≡ u → eqb c slash ≡ v → Then most (cond u (cond v (slash_is t) (went_is t (i + 1) (j + 1) t.run t.star)) (given_up_is t d))
            go false v e f =
                let o : wild_match (R i) (drop j name) ≡ false = rw (p, q) (byte_other c d ps m w e) in
                gave_up x d o (name_next d m q) (name_inside d m q) k refl b
            go true true e f =
                let r : c ≡ d = eqb-true c d e in
                slash_goes x c (rest_here c ps p) (rw r (name_next d m q)) w (name_inside d m q) f k b
            go true false e f =
                let r : c ≡ d = eqb-true c d e in
                byte_goes x c (rest_here c ps p) (rw r (name_next d m q)) w (name_inside d m q) (record { tame = w; within = f }) k refl b

        name_place : (m : List ℕ) → drop j name ≡ m → Then most (name_is c m t)
        unfolding name_is
        name_place [] q = no_end fold pattern name (base k) x i j b.begun k h s g b.decides c ps p w q
        name_place (d ∷ m) q = byte_place d m q

      looked : (ps m : List ℕ) → R i ≡ ps → drop j name ≡ m → Then most (looked_at ps m t)
      unfolding looked_at
      looked [] [] p q = yes_ends fold pattern name (base k) x i j b.begun k h s g b.decides p q
      looked [] (d ∷ m) p q = over_end d m p q
      looked (c ∷ ps) m p q = go (eqb c 42) (eqb c 37) refl refl
        where
          go : (u v : Bool) → eqb c 42 ≡ u → eqb c 37 ≡ v → Then most (cond u (star_is (is_empty ps) t) (cond v (level_is t) (name_is c m t)))
          go true v e f = star_place ps (rw (← eqb-true c 42 e) p)
          go false true e f = level_goes x (rw (← eqb-true c 37 f) (rest_here c ps p)) k b
          go false false e f = name_place c ps p (rw (e, f)) m q

    pub stepped : (b : Good fold pattern name t) → Then (due_at fold pattern name t) (step_is fold pattern name t)
    unfolding step_is
    stepped b = rw (due_is t b) (looked b.start b.stands (R i) (drop j name) refl refl)
