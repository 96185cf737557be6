-- The line of a joined command is read as what it was made of, and the line with the patterns of two lists joins the lines of the two. Rests on
-- JoinedShape, TokenLaws and AnswerReads.
use Rattle.listing_rules.proofs.Prelude.{◌∙◌, ◌≡◌, ap, ap₂, refl, sym, Bool, ◌&&◌, ◌||◌, cond, false, false≢true, not, true, some, List, []}
use Rattle.listing_rules.proofs.Prelude.{◌++◌, ◌∷◌, append_assoc, map, ℕ, zero, suc, ◌+◌, ◌≤◌, ◌<◌, arith, leb, length, length-append, take}
use Rattle.listing_rules.proofs.Prelude.{take-append_seam, drop-append_seam, take-append-le, le-leb, leb-true, not-true}
use Rattle.listing_rules.specs.Bytes.{text, crlf, all, is_empty}
use Rattle.listing_rules.specs.Lists.{every}
use Rattle.listing_rules.specs.Tokens.{got, ◌>>=◌, at, after, with_first, run, run₁, tag_byte, atom_byte, line_byte, literal, string_or, astring}
use Rattle.listing_rules.specs.Tokens.{pattern, quoted_text}
use Rattle.listing_rules.specs.Options.{Options, lawful_options}
use Rattle.listing_rules.specs.Command.{Opt, parted, options, patterns, selection_part, return_part, ListArgs, list_args, extended, selection_words}
use Rattle.listing_rules.specs.Command.{return_words, known_in, named, options_of, canonical, few_patterns, asks_root, judged, listing, line_text}
use Rattle.listing_rules.specs.Command.{is_some}
use Rattle.listing_rules.specs.Lines.{chosen, spaced, spaced_tail, escaped, quoted}
use Rattle.listing_rules.specs.Server.{Reply, refusal, answered}
use Rattle.listing_rules.specs.Walk.{when}
use Rattle.listing_rules.specs.Evidence.{ListCommand, list_command}
use Rattle.listing_rules.specs.Joining.{lawful_set, options_from, patterns_after, packed_patterns, patterns_fill, decimal_text, string_text, can_stand}
use Rattle.listing_rules.specs.Joining.{selection_text, returns_any, return_text, joined_text, joined_line, ReadsAs, JoinedLineReads}
use Rattle.listing_rules.specs.Joining.{JoinedLineJoins}
use Rattle.listing_rules.proofs.Keys.{open_bytes, open_lists, open_tokens, open_command, open_lines}
use Rattle.listing_rules.proofs.Bools.{and_l, and_r}
use Rattle.listing_rules.proofs.TokenLaws.{run₁_ends, quoted_text_escaped}
use Rattle.listing_rules.proofs.CommandLaws.{refusal_not}
use Rattle.listing_rules.proofs.AnswerReads.{answered_is, command_parsed}
use Rattle.listing_rules.proofs.JoinedShape.{number_reads, stands_literal, upto_patterns, joined_shape}

-- A string is read as it was, whatever follows it.
literal_reads : (x t : List ℕ) → length x ≤ 1024 → literal (decimal_text (length x) ++ (125 ∷ (crlf ++ (x ++ t)))) ≡ some (got x t)
unfolding literal ◌>>=◌ after got open_bytes
literal_reads x t h =
    let there = le-leb (length x) (length (x ++ t)) (omega (arith, length-append x t)) in
    rw (number_reads (length x) (13 ∷ 10 ∷ (x ++ t)) (omega arith), le-leb (length x) 1024 h, there, take-append_seam x t, drop-append_seam x t)

string_reads : (p : ℕ → Bool) (x t : List ℕ) → can_stand x ≡ true → string_or p (string_text x ++ t) ≡ some (got x t)
unfolding string_text string_or open_bytes
string_reads p x t h = go (all line_byte x) refl
  where
    go : (o : Bool) → all line_byte x ≡ o
        → string_or p (cond o (quoted x) (123 ∷ (decimal_text (length x) ++ (125 ∷ 13 ∷ 10 ∷ x))) ++ t) ≡ some (got x t)
    go true e = unfold quoted in ap quoted_text (append_assoc (escaped x) (34 ∷ []) t) ∙ quoted_text_escaped x t e
    go false e = ap literal (append_assoc (decimal_text (length x)) (125 ∷ 13 ∷ 10 ∷ x) t) ∙ literal_reads x t (stands_literal x h e).0

-- Strings parted by spaces are read as patterns, with as many steps as there are patterns.
patterns_read : (k : ℕ) (p : List ℕ) (ps : List (List ℕ)) (w : List ℕ) → every can_stand (p ∷ ps) ≡ true → length ps < k
    → parted pattern k (spaced (map string_text (p ∷ ps)) ++ (41 ∷ w)) ≡ some (got (p ∷ ps) w)
unfolding every parted pattern spaced spaced_tail ◌>>=◌ at after with_first got open_bytes
patterns_read zero p ps w h s = absurd (omega arith)
patterns_read (suc k) p [] w h s = rw (append_assoc (string_text p) [] (41 ∷ w), string_reads _ p (41 ∷ w) (and_l (can_stand p) true h))
patterns_read (suc k) p (q ∷ ps) w h s =
    let more = spaced (map string_text (q ∷ ps)) in
    rw (
      append_assoc (string_text p) (32 ∷ more) (41 ∷ w),
      string_reads _ p (32 ∷ (more ++ (41 ∷ w))) (and_l (can_stand p) (every can_stand (q ∷ ps)) h),
      patterns_read k q ps w (and_r (can_stand p) (every can_stand (q ∷ ps)) h) (omega arith),
    )

-- The words of options are read as they were chosen: none has a value, all are known, and each is named exactly if it was chosen.
abbrev plain : List ℕ → Opt
plain w = record { word = w; valued = false }

-- in the order in which they are written: of the selection SUBSCRIBED, RECURSIVEMATCH, SPECIAL-USE, REMOTE; ..
abbrev selected : Bool → Bool → Bool → Bool → List (List ℕ)
selected a b c d = chosen (a ∷ b ∷ c ∷ d ∷ []) (text "SUBSCRIBED" ∷ text "RECURSIVEMATCH" ∷ text "SPECIAL-USE" ∷ text "REMOTE" ∷ [])

record Selects (a b c d : Bool) (w : List ℕ) : Type 0 where
  read : options (spaced (selected a b c d) ++ (41 ∷ w)) ≡ some (got (map plain (selected a b c d)) w)
  known : every (known_in selection_words) (map plain (selected a b c d)) ≡ true
  of_subscribed : named (text "SUBSCRIBED") (map plain (selected a b c d)) ≡ a
  of_recursive : named (text "RECURSIVEMATCH") (map plain (selected a b c d)) ≡ b
  of_special : named (text "SPECIAL-USE") (map plain (selected a b c d)) ≡ c
  of_remote : named (text "REMOTE") (map plain (selected a b c d)) ≡ d

selects : (a b c d : Bool) (w : List ℕ) → Selects a b c d w
unfolding open_bytes open_lists open_tokens open_command open_lines
selects true true true true w = search
selects true true true false w = search
selects true true false true w = search
selects true true false false w = search
selects true false true true w = search
selects true false true false w = search
selects true false false true w = search
selects true false false false w = search
selects false true true true w = search
selects false true true false w = search
selects false true false true w = search
selects false true false false w = search
selects false false true true w = search
selects false false true false w = search
selects false false false true w = search
selects false false false false w = search

abbrev selects_in : (o : Options) (w : List ℕ) → Selects o.sel_subscribed o.sel_recursive o.sel_special o.sel_remote w
selects_in o w = selects o.sel_subscribed o.sel_recursive o.sel_special o.sel_remote w

-- .. to be returned SUBSCRIBED, CHILDREN, SPECIAL-USE
abbrev returned : Bool → Bool → Bool → List (List ℕ)
returned a b c = chosen (a ∷ b ∷ c ∷ []) (text "SUBSCRIBED" ∷ text "CHILDREN" ∷ text "SPECIAL-USE" ∷ [])

record Returns (a b c : Bool) : Type 0 where
  read : return_part (when (a || b || c) (text " RETURN (" ++ (spaced (returned a b c) ++ text ")"))) ≡ some (map plain (returned a b c))
  known : every (known_in return_words) (map plain (returned a b c)) ≡ true
  of_subscribed : named (text "SUBSCRIBED") (map plain (returned a b c)) ≡ a
  of_children : named (text "CHILDREN") (map plain (returned a b c)) ≡ b
  of_special : named (text "SPECIAL-USE") (map plain (returned a b c)) ≡ c

returns : (a b c : Bool) → Returns a b c
unfolding open_bytes open_lists open_tokens open_command open_lines when
returns true true true = search
returns true true false = search
returns true false true = search
returns true false false = search
returns false true true = search
returns false true false = search
returns false false true = search
returns false false false = search

abbrev returns_in : (o : Options) → Returns o.ret_subscribed o.ret_children o.ret_special
returns_in o = returns o.ret_subscribed o.ret_children o.ret_special

-- What stands after the word LIST is read as the parts.
abbrev args_of : Options → List ℕ → List (List ℕ) → ListArgs
args_of o r ps =
    record {
      selection = map plain (selected o.sel_subscribed o.sel_recursive o.sel_special o.sel_remote);
      has_selection = true;
      reference = r;
      pats = ps;
      in_parens = true;
      returns = map plain (returned o.ret_subscribed o.ret_children o.ret_special);
      has_return = not (is_empty (return_text o));
    }

abbrev after_word : Options → List ℕ → List (List ℕ) → List ℕ
after_word o r ps =
    32 ∷ 40 ∷ (selection_text o ++ (41 ∷ 32 ∷ (string_text r ++ (32 ∷ 40 ∷ (spaced (map string_text ps) ++ (41 ∷ return_text o))))))

spaces_enough : (ps : List (List ℕ)) → length ps ≤ length (spaced_tail (map string_text ps))
unfolding spaced_tail
spaces_enough [] = omega arith
spaces_enough (p ∷ ps) = omega (arith, spaces_enough ps, length-append (string_text p) (spaced_tail (map string_text ps)))

fuel_enough : (p : List ℕ) (ps : List (List ℕ)) (w : List ℕ) → length ps < length (spaced (map string_text (p ∷ ps)) ++ (41 ∷ w))
unfolding spaced
fuel_enough p ps w =
    let tail = spaced_tail (map string_text ps) in
    omega (arith, spaces_enough ps, length-append (string_text p) tail, length-append (string_text p ++ tail) (41 ∷ w))

args_read : (o : Options) (r p : List ℕ) (ps : List (List ℕ)) → can_stand r ≡ true → every can_stand (p ∷ ps) ≡ true
    → list_args (after_word o r (p ∷ ps)) ≡ some (args_of o r (p ∷ ps))
unfolding list_args selection_part patterns astring after at is_some got ◌>>=◌ open_bytes selection_text
args_read o r p ps h hs =
    let behind = spaced (map string_text (p ∷ ps)) ++ (41 ∷ return_text o) in
    rw (
      (selects_in o (32 ∷ (string_text r ++ (32 ∷ 40 ∷ behind)))).read,
      string_reads _ r (32 ∷ 40 ∷ behind) h,
      patterns_read (length behind) p ps (return_text o) hs (fuel_enough p ps (return_text o)),
      returning,
    )
  where
    returning : return_part (return_text o) ≡ some (map plain (returned o.ret_subscribed o.ret_children o.ret_special))
    returning = unfold return_text returns_any in (returns_in o).read

-- The line is read as the command of its parts, ..
abbrev command_of : List ℕ → Options → List ℕ → List (List ℕ) → ListCommand
command_of tag o r ps = record { tag = tag; args = args_of o r ps }

line_reads : (l tag : List ℕ) (o : Options) (r p : List ℕ) (ps : List (List ℕ)) → is_empty tag ≡ false → all tag_byte tag ≡ true → can_stand r ≡ true
    → every can_stand (p ∷ ps) ≡ true → line_text l ≡ some (upto_patterns tag o r (p ∷ ps) ++ (41 ∷ return_text o))
    → list_command l ≡ some (command_of tag o r (p ∷ ps))
line_reads l tag o r p ps n t h hs e =
    finish (upto_patterns tag o r (p ∷ ps) ++ (41 ∷ return_text o)) _ (args_of o r (p ∷ ps)) e
    (ap (run₁ tag_byte) splits ∙ run₁_ends tag_byte tag 32 (76 ∷ 73 ∷ 83 ∷ 84 ∷ after_word o r (p ∷ ps)) n t (unfold open_tokens open_bytes in refl))
    (args_read o r p ps h hs)
  where
    splits : upto_patterns tag o r (p ∷ ps) ++ (41 ∷ return_text o) ≡ tag ++ (32 ∷ 76 ∷ 73 ∷ 83 ∷ 84 ∷ after_word o r (p ∷ ps))
    splits = unfold open_bytes in simp append_assoc

    finish : (t w : List ℕ) (a : ListArgs) → line_text l ≡ some t → run₁ tag_byte t ≡ some (got tag (32 ∷ 76 ∷ 73 ∷ 83 ∷ 84 ∷ 32 ∷ w))
        → list_args (32 ∷ w) ≡ some a → list_command l ≡ some (record { tag = tag; args = a })
    finish t w a et eg ea = unfold list_command ◌>>=◌ got after with_first run atom_byte open_bytes in rw (et, eg, ea)

-- .. which is extended, has these options and is judged as lawful
options_are : (o : Options) (r : List ℕ) (ps : List (List ℕ)) → options_of (args_of o r ps) ≡ o
unfolding options_of
options_are o r ps =
    let s = selects_in o [] in
    let e = returns_in o in
    λ i.
    record {
      sel_subscribed = s.of_subscribed i;
      sel_remote = s.of_remote i;
      sel_recursive = s.of_recursive i;
      sel_special = s.of_special i;
      ret_subscribed = e.of_subscribed i;
      ret_children = e.of_children i;
      ret_special = e.of_special i;
    }

judged_lawful : (tag : List ℕ) (o : Options) (r : List ℕ) (ps : List (List ℕ)) → lawful_options o ≡ true
    → (leb (length ps) 8 && every (λ p. leb (length p) 255) (canonical r ps)) ≡ true → judged tag (args_of o r ps) ≡ listing tag o (canonical r ps)
unfolding judged few_patterns asks_root extended
judged_lawful tag o r ps h f = rw ((selects_in o []).known, (returns_in o).known, options_are o r ps, h, f)

-- What an answered line says of its parts.
record Parts (tag : List ℕ) (k : ℕ) (r list l : List ℕ) : Type 0 where
  written : l ≡ joined_text tag (options_from k) r (packed_patterns list)
  short : length (joined_text tag (options_from k) r (packed_patterns list)) ≤ 2048
  reference_stands : can_stand r ≡ true
  patterns_stand : every can_stand (packed_patterns list) ≡ true
  some_tag : is_empty tag ≡ false
  tag_bytes : all tag_byte tag ≡ true
  some_pattern : is_empty list ≡ false
  fills : patterns_fill 0 list ≡ true
  lawful : lawful_options (options_from k) ≡ true
  few : (leb (length (packed_patterns list)) 8 && every (λ p. leb (length p) 255) (canonical r (packed_patterns list))) ≡ true

answered_if : (b : Bool) (x : Reply) (k : ℕ) (l : List ℕ) → cond b x (refusal k) ≡ answered l → (b ≡ true) × (x ≡ answered l)
answered_if true x k l e = (refl, e)
answered_if false x k l e = absurd (refusal_not k l e)

line_parts : (tag : List ℕ) (k : ℕ) (r list l : List ℕ) → joined_line tag k r list ≡ answered l → Parts tag k r list l
unfolding joined_line
line_parts tag k r list l e =
    let a = answered_if (stands && every can_stand ps) _ 3 l e in
    let b = answered_if (spelled && patterns_fill 0 list) _ 4 l a.1 in
    let c = answered_if (lawful_set k) _ 6 l b.1 in
    let d = answered_if (lawful_options (options_from k)) _ 7 l c.1 in
    let f = answered_if (leb (length ps) 8 && every (λ p. leb (length p) 255) (canonical r ps)) _ 8 l d.1 in
    let at_front = and_l stands (every can_stand ps) a.0 in
    let at_tag = and_l spelled (patterns_fill 0 list) b.0 in
    let of-tag = and_l (not (is_empty tag) && all tag_byte tag) (not (is_empty list)) at_tag in
    record {
      written = sym (answered_is (joined_text tag (options_from k) r ps) l f.1);
      short =
          leb-true (length (joined_text tag (options_from k) r ps)) 2048
          (and_l (leb (length (joined_text tag (options_from k) r ps)) 2048) (can_stand r) at_front);
      reference_stands = and_r (leb (length (joined_text tag (options_from k) r ps)) 2048) (can_stand r) at_front;
      patterns_stand = and_r stands (every can_stand ps) a.0;
      some_tag = not-true (is_empty tag) (and_l (not (is_empty tag)) (all tag_byte tag) of-tag);
      tag_bytes = and_r (not (is_empty tag)) (all tag_byte tag) of-tag;
      some_pattern = not-true (is_empty list) (and_r (not (is_empty tag) && all tag_byte tag) (not (is_empty list)) at_tag);
      fills = and_r spelled (patterns_fill 0 list) b.0;
      lawful = d.0;
      few = f.0;
    }
  where
    ps : List (List ℕ)
    ps = packed_patterns list

    stands : Bool
    stands = leb (length (joined_text tag (options_from k) r ps)) 2048 && can_stand r

    spelled : Bool
    spelled = not (is_empty tag) && all tag_byte tag && not (is_empty list)

pub joined_line_reads : JoinedLineReads
joined_line_reads tag k r list l e = go list (line_parts tag k r list l e)
  where
    go : (list : List ℕ) → Parts tag k r list l → ReadsAs l tag (options_from k) r (packed_patterns list)
    go [] w = absurd (false≢true (sym (unfold is_empty in w.some_pattern)))
    go (n ∷ list) w =
        let o = options_from k in
        let ps = packed_patterns (n ∷ list) in
        let shape = ap line_text w.written ∙ joined_shape tag o r ps w.tag_bytes w.reference_stands w.patterns_stand w.short in
        let read = first_of w.some_tag w.tag_bytes w.reference_stands w.patterns_stand shape in
        record {
          command = command_of tag o r ps;
          reads = read;
          same_tag = refl;
          same_set = options_are o r ps;
          same_reference = refl;
          same_patterns = refl;
          is_extended = unfold extended in refl;
          is_lawful = (command_parsed l (command_of tag o r ps) read).0 ∙ judged_lawful tag o r ps w.lawful w.few;
        }
      where
        first_of : is_empty tag ≡ false → all tag_byte tag ≡ true → can_stand r ≡ true → every can_stand (packed_patterns (n ∷ list)) ≡ true
            → line_text l ≡ some (upto_patterns tag (options_from k) r (packed_patterns (n ∷ list)) ++ (41 ∷ return_text (options_from k)))
            → list_command l ≡ some (command_of tag (options_from k) r (packed_patterns (n ∷ list)))
        first_of = unfold packed_patterns patterns_after in line_reads l tag (options_from k) r (take n list) (patterns_after n list)

-- A list that its patterns fill, and another after it: the patterns of the first, then those of the second.
fills_within : (k : ℕ) (t : List ℕ) → patterns_fill k t ≡ true → k ≤ length t
unfolding patterns_fill
fills_within zero t h = omega arith
fills_within (suc k) [] h = absurd (false≢true h)
fills_within (suc k) (n ∷ t) h = omega (arith, fills_within k t h)

patterns_append : (k : ℕ) (t u : List ℕ) → patterns_fill k t ≡ true → patterns_after k (t ++ u) ≡ patterns_after k t ++ patterns_after 0 u
unfolding patterns_fill patterns_after
patterns_append zero [] u h = refl
patterns_append (suc k) [] u h = absurd (false≢true h)
patterns_append zero (n ∷ t) u h =
    ap₂ (λ (p : List ℕ) (ps : List (List ℕ)). p ∷ ps) (take-append-le n t u (fills_within n t h)) (patterns_append n t u h)
patterns_append (suc k) (n ∷ t) u h = patterns_append k t u h

pub packed_append : (t u : List ℕ) → patterns_fill 0 t ≡ true → packed_patterns (t ++ u) ≡ packed_patterns t ++ packed_patterns u
unfolding packed_patterns
packed_append t u h = patterns_append 0 t u h

pub joined_line_joins : JoinedLineJoins
joined_line_joins tag tag' tag'' k r list list' l m n el em en =
    let c = joined_line_reads tag k r list l el in
    let d = joined_line_reads tag' k r list' m em in
    let j = joined_line_reads tag'' k r (list ++ list') n en in (
      c.command,
      d.command,
      j.command,
      c.reads,
      d.reads,
      j.reads,
      record {
        reference_first = j.same_reference ∙ sym c.same_reference;
        reference_second = j.same_reference ∙ sym d.same_reference;
        options_first = j.same_set ∙ sym c.same_set;
        options_second = j.same_set ∙ sym d.same_set;
        joined_patterns = j.same_patterns ∙ packed_append list list' (line_parts tag k r list l el).fills
            ∙ ap₂ (λ (ps qs : List (List ℕ)). ps ++ qs) (sym c.same_patterns) (sym d.same_patterns);
      },
    )
