-- The collector's commands are read as what they mean. Rests on FeederLaws and LawfulNames.
use Rattle.listing_rules.proofs.Prelude.{◌∙◌, ◌≡◌, ap, refl, sym, Bool, ◌||◌, false, false≢true, not, true, none, List, [], ◌++◌, ◌∷◌}
use Rattle.listing_rules.proofs.Prelude.{append_assoc, ◌≤◌, ℕ, arith, leb, length, length-append, le-leb, ne_eqb}
use Rattle.listing_rules.specs.Bytes.{text, crlf, all, within}
use Rattle.listing_rules.specs.Names.{name_byte}
use Rattle.listing_rules.specs.Tokens.{line_byte}
use Rattle.listing_rules.specs.Feeder.{announced}
use Rattle.listing_rules.specs.Options.{Options}
use Rattle.listing_rules.specs.Command.{listing, parsed, or_refuse, tagged}
use Rattle.listing_rules.specs.Lines.{escaped, quoted}
use Rattle.listing_rules.proofs.Keys.{open_bytes, open_lists, open_tokens, open_options, open_command, open_lines}
use Rattle.listing_rules.specs.Walk.{command_line, drops_subscribed, lawful_byte, wants_special, wants_remote, when}
use Rattle.listing_rules.specs.Demand3.{walk_options}
use Rattle.listing_rules.proofs.Bools.{and_r}
use Rattle.listing_rules.proofs.ListLaws.{all_append}
use Rattle.listing_rules.proofs.TokenLaws.{quoted_text_escaped, length_escaped, all_escaped}
use Rattle.listing_rules.proofs.FeederLaws.{plain_line, other_announces_none}
use Rattle.listing_rules.proofs.LawfulNames.{name_range}

-- a byte of a name may stand in a line
pub name_line : (b : ℕ) → name_byte b ≡ true → line_byte b ≡ true
unfolding line_byte within
name_line b h =
    let w = name_range b h in
    simp (le-leb 1 b (omega (arith, w.0)), le-leb b 127 (omega (arith, w.1)), ne_eqb b 13 (λ e. omega (arith, w.0)), ne_eqb b 10 (λ e. omega (arith, w.0)))

-- what stands before the reference and behind it: whether SUBSCRIBED is dropped, SPECIAL-USE and REMOTE are wanted
abbrev before : Bool → Bool → Bool → List ℕ
before false true true = text "w LIST (SUBSCRIBED RECURSIVEMATCH SPECIAL-USE REMOTE) \""
before false true false = text "w LIST (SUBSCRIBED RECURSIVEMATCH SPECIAL-USE) \""
before false false true = text "w LIST (SUBSCRIBED RECURSIVEMATCH REMOTE) \""
before false false false = text "w LIST (SUBSCRIBED RECURSIVEMATCH) \""
before true true true = text "w LIST (RECURSIVEMATCH SPECIAL-USE REMOTE) \""
before true true false = text "w LIST (RECURSIVEMATCH SPECIAL-USE) \""
before true false true = text "w LIST (RECURSIVEMATCH REMOTE) \""
before true false false = text "w LIST (RECURSIVEMATCH) \""

abbrev body : Bool → Bool → Bool → List ℕ → List ℕ
body d s r n = before d s r ++ (escaped n ++ text "\" \"%\"")

abbrev options_for : Bool → Bool → Bool → Options
options_for d s r =
    record {
      sel_subscribed = not d;
      sel_remote = r;
      sel_recursive = true;
      sel_special = s;
      ret_subscribed = false;
      ret_children = false;
      ret_special = false;
    }

body_bytes : (d s r : Bool) (n : List ℕ) → all line_byte n ≡ true → all line_byte (body d s r n) ≡ true
unfolding open_bytes line_byte
body_bytes false true true n h = all_append line_byte (escaped n) (text "\" \"%\"") (all_escaped line_byte refl n h) refl
body_bytes false true false n h = all_append line_byte (escaped n) (text "\" \"%\"") (all_escaped line_byte refl n h) refl
body_bytes false false true n h = all_append line_byte (escaped n) (text "\" \"%\"") (all_escaped line_byte refl n h) refl
body_bytes false false false n h = all_append line_byte (escaped n) (text "\" \"%\"") (all_escaped line_byte refl n h) refl
body_bytes true true true n h = all_append line_byte (escaped n) (text "\" \"%\"") (all_escaped line_byte refl n h) refl
body_bytes true true false n h = all_append line_byte (escaped n) (text "\" \"%\"") (all_escaped line_byte refl n h) refl
body_bytes true false true n h = all_append line_byte (escaped n) (text "\" \"%\"") (all_escaped line_byte refl n h) refl
body_bytes true false false n h = all_append line_byte (escaped n) (text "\" \"%\"") (all_escaped line_byte refl n h) refl

fits : (n : List ℕ) → length n ≤ 254 → leb (length (n ++ (37 ∷ []))) 255 ≡ true
fits n h = le-leb (length (n ++ (37 ∷ []))) 255 (omega (arith, length-append n (37 ∷ [])))

body_read : (d s r : Bool) (n : List ℕ) → (not d || s) ≡ true → all line_byte n ≡ true → length n ≤ 254 → tagged (body d s r n) ≡ listing (text "w") (options_for d s r) ((n ++ text "%") ∷ [])
unfolding open_bytes open_lists open_tokens open_command open_options
body_read false true true n l b h = rw (quoted_text_escaped n (text " \"%\"") b, fits n h)
body_read false true false n l b h = rw (quoted_text_escaped n (text " \"%\"") b, fits n h)
body_read false false true n l b h = rw (quoted_text_escaped n (text " \"%\"") b, fits n h)
body_read false false false n l b h = rw (quoted_text_escaped n (text " \"%\"") b, fits n h)
body_read true true true n l b h = rw (quoted_text_escaped n (text " \"%\"") b, fits n h)
body_read true true false n l b h = rw (quoted_text_escaped n (text " \"%\"") b, fits n h)
body_read true false r n l b h = absurd (false≢true l)

-- a command of the collector, read
line_is_lem : (o : ℕ) (n : List ℕ) → command_line o n ≡ body (drops_subscribed o) (wants_special o) (wants_remote o) n ++ crlf
unfolding open_bytes open_lines command_line when
line_is_lem o n = go (drops_subscribed o) (wants_special o) (wants_remote o)
  where
    go : (d s r : Bool)
        → (text "w LIST (" ++ (when (not d) (text "SUBSCRIBED ")
        ++ (text "RECURSIVEMATCH" ++ (when s (text " SPECIAL-USE")
        ++ (when r (text " REMOTE") ++ (text ") " ++ (quoted n ++ (text " \"%\"" ++ crlf)))))))) ≡ body d s r n ++ crlf
    go false true true = simp append_assoc
    go false true false = simp append_assoc
    go false false true = simp append_assoc
    go false false false = simp append_assoc
    go true true true = simp append_assoc
    go true true false = simp append_assoc
    go true false true = simp append_assoc
    go true false false = simp append_assoc

short : (d s r : Bool) (n : List ℕ) → length n ≤ 254 → length (body d s r n ++ crlf) ≤ 2048
unfolding open_bytes
short false true true n h = simp length-append (omega (arith, length_escaped n))
short false true false n h = simp length-append (omega (arith, length_escaped n))
short false false true n h = simp length-append (omega (arith, length_escaped n))
short false false false n h = simp length-append (omega (arith, length_escaped n))
short true true true n h = simp length-append (omega (arith, length_escaped n))
short true true false n h = simp length-append (omega (arith, length_escaped n))
short true false true n h = simp length-append (omega (arith, length_escaped n))
short true false false n h = simp length-append (omega (arith, length_escaped n))

-- its last byte is a quote, so it announces no literal
announces_none : (d s r : Bool) (n : List ℕ) → announced (body d s r n ++ crlf) ≡ none
unfolding open_bytes
announces_none d s r n =
    ap announced (append_assoc (before d s r) (escaped n ++ text "\" \"%\"") crlf
    ∙ ap (λ (l : List ℕ). before d s r ++ l) (append_assoc (escaped n) (text "\" \"%\"") crlf) ∙ sym (append_assoc (before d s r) (escaped n) _)
    ∙ sym (append_assoc (before d s r ++ escaped n) (text "\" \"%") (34 ∷ crlf)))
    ∙ other_announces_none 34 refl ((before d s r ++ escaped n) ++ text "\" \"%")

pub sent : (o : ℕ) (n : List ℕ) → lawful_byte o ≡ true → all line_byte n ≡ true → length n ≤ 254 → parsed (command_line o n) ≡ listing (text "w") (walk_options o) ((n ++ text "%") ∷ [])
unfolding parsed or_refuse walk_options lawful_byte
sent o n l h k =
    let d = drops_subscribed o in
    let s = wants_special o in
    let r = wants_remote o in
    rw (line_is_lem o n, plain_line (body d s r n) (body_bytes d s r n h) (short d s r n k) (announces_none d s r n)) (body_read d s r n (and_r (leb o 7) (not d || s) l) h k)
