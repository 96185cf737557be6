-- A LIST command that is extended and accepted is answered by the lines of the listed names, and what its answer says, read back line by line, is what
-- the definitions of LIST say. Rests on Passes, ReaderWriter and AnswerLines.
use Rattle.listing_rules.proofs.Prelude.{◌∙◌, ◌≡◌, ap, refl, subst, sym, Bool, ◌&&◌, cond, false, false≢true, not, true, Option, none, some}
use Rattle.listing_rules.proofs.Prelude.{◌⊎◌, inl, inr, ⊎_elim, option_none_ne_some, option_some_injective, List, list_mem, [], ◌∷◌, ◌++◌}
use Rattle.listing_rules.proofs.Prelude.{map, append_assoc, append-nil, ℕ, arith, ordering_lt, ordering_eq, list_mem_cases_cons}
use Rattle.listing_rules.proofs.Prelude.{list_mem_head, list_mem_tail, list_mem_not_nil, list_mem_eq_of_singleton, eqb, leb, length}
use Rattle.listing_rules.proofs.Prelude.{eq-eqb, ne_eqb, eqb-true, not-true}
use Rattle.listing_rules.specs.Bytes.{text, all, same, spells, is_empty}
use Rattle.listing_rules.specs.Lists.{every, keep, joined}
use Rattle.listing_rules.specs.Orders.{byte_order}
use Rattle.listing_rules.specs.Names.{lawful_name, name_byte}
use Rattle.listing_rules.specs.Table.{Row, Table, rows, passes}
use Rattle.listing_rules.specs.Readers.{is_reader}
use Rattle.listing_rules.specs.Namespaces.{Entry, entries, namespaces_pass}
use Rattle.listing_rules.specs.Tokens.{Got, got, with_first, after, tag_byte, atom_byte, run, run₁, unless_empty}
use Rattle.listing_rules.specs.Options.{Options, Criteria, is_none, lawful_options}
use Rattle.listing_rules.specs.Command.{Parsed, refused, listing, root_of, ListArgs, line_text, list_args, extended, known_in, selection_words}
use Rattle.listing_rules.specs.Command.{return_words, options_of, canonical, few_patterns, asks_root, judged, or_refuse, worded, tagged, parsed}
use Rattle.listing_rules.specs.Listing.{candidates, attributes, attributes_for, in_order, child_info, listed, listed_names}
use Rattle.listing_rules.specs.Lines.{ok_line}
use Rattle.listing_rules.specs.Server.{Reply, refusal, answered, answer_to, answer, limited, served, from_reader, served_to, line_of, list_answer}
use Rattle.listing_rules.specs.LineReader.{Read, line, bad, read_line, read_number, name_read, child_info_of}
use Rattle.listing_rules.specs.Walk.{lines_of}
use Rattle.listing_rules.specs.Evidence.{ListCommand, list_command, list_lines, line_name, lines_for, listed_in, child_info_in, Accepted, options_in}
use Rattle.listing_rules.specs.Evidence.{patterns_in}
use Rattle.listing_rules.proofs.Keys.{open_bytes, open_lines, open_tokens, open_reader}
use Rattle.listing_rules.proofs.Bools.{and_l, and_r, and_i}
use Rattle.listing_rules.proofs.ListLaws.{all_append, all_imp, mem_every, keep_mem, mem_keep, some_mem, mem_some, map_mem, mem_map_lem, same_refl}
use Rattle.listing_rules.proofs.ListLaws.{same_true}
use Rattle.listing_rules.proofs.TokenLaws.{bind_some}
use Rattle.listing_rules.proofs.Order.{bytes_total}
use Rattle.listing_rules.proofs.Sorted.{Asc, above_mem, asc_keep, asc_sorted}
use Rattle.listing_rules.proofs.LawfulNames.{good_parts}
use Rattle.listing_rules.proofs.Passes.{candidate_good}
use Rattle.listing_rules.proofs.ReaderWriter.{read_line_written}
use Rattle.listing_rules.proofs.AnswerLines.{not_lf, name_not_lf, line_body, line_body_lem, body_not_lf, lines_joined}
use Rattle.listing_rules.proofs.EditLists.{keep_append, keep_none, keep_all}
use Rattle.listing_rules.proofs.CommandLaws.{refusal_not}

-- A line that is a LIST command is judged as one; its tag is of the bytes of a tag.
abbrev pub is_some_tag : List ℕ → Type 0
is_some_tag tag = (b : ℕ) × (t : List ℕ) × (tag ≡ b ∷ t) × (all tag_byte tag ≡ true)

run_all : (p : ℕ → Bool) (t : List ℕ) → all p (run p t).val ≡ true
unfolding run all
run_all p [] = unfold got in refl
run_all p (b ∷ t) = go (p b) refl (run_all p t)
  where
    go : (o : Bool) → p b ≡ o → all p (run p t).val ≡ true → all p (cond o (with_first b (run p t)) (got [] (b ∷ t))).val ≡ true
    go true e ih = unfold with_first got in and_i (p b) (all p (run p t).val) e ih
    go false e ih = unfold got in refl

pub run₁_tag : (t : List ℕ) (g : Got (List ℕ)) → run₁ tag_byte t ≡ some g → is_some_tag g.val
unfolding run₁ unless_empty is_empty
run₁_tag t g k = go (run tag_byte t) (run_all tag_byte t) k
  where
    go : (r : Got (List ℕ)) → all tag_byte r.val ≡ true → cond (is_empty r.val) none (some r) ≡ some g → is_some_tag g.val
    go r h e = pick r.val refl
      where
        pick : (v : List ℕ) → r.val ≡ v → is_some_tag g.val
        pick [] q = absurd (option_none_ne_some g (sym (ap (λ (x : List ℕ). cond (is_empty x) none (some r)) q) ∙ e))
        pick (b ∷ v) q =
            let f : r ≡ g = option_some_injective r g (sym (ap (λ (x : List ℕ). cond (is_empty x) none (some r)) q) ∙ e) in
            (b, v, ap (λ (x : Got (List ℕ)). x.val) (sym f) ∙ q, subst (λ (x : Got (List ℕ)). all tag_byte x.val ≡ true) f h)

-- so its tag ends no line, and its tagged line is no LIST line
tag_not_lf : (b : ℕ) → tag_byte b ≡ true → not_lf b ≡ true
unfolding open_tokens open_bytes
tag_not_lf b h = go (eqb b 10) refl
  where
    go : (o : Bool) → eqb b 10 ≡ o → not o ≡ true
    go true e = absurd (false≢true (subst (λ (x : ℕ). tag_byte x ≡ true) (eqb-true b 10 e) h))
    go false e = refl

tag_no_star : (b : ℕ) → tag_byte b ≡ true → eqb 42 b ≡ false
unfolding open_tokens open_bytes
tag_no_star b h = go (eqb 42 b) refl
  where
    go : (o : Bool) → eqb 42 b ≡ o → o ≡ false
    go true e = absurd (false≢true (subst (λ (x : ℕ). tag_byte x ≡ true) (sym (eqb-true 42 b e)) h))
    go false e = refl

-- a command that is on the grammar as LIST is judged as LIST
pub command_parsed : (l : List ℕ) (c : ListCommand) → list_command l ≡ some c → (parsed l ≡ judged c.tag c.args) × is_some_tag c.tag
unfolding list_command parsed tagged worded or_refuse
command_parsed l c e =
    let t = bind_some (line_text l) _ c e in
    let g = bind_some (run₁ tag_byte t.0) _ c t.2 in
    let u = bind_some (after (text " ") g.0.rest) _ c g.2 in
    let a = bind_some (cond (spells (run atom_byte u.0).val (text "LIST")) (list_args (run atom_byte u.0).rest) none) _ c u.2 in
    let q : record { tag = g.0.val; args = a.0 } ≡ c = option_some_injective _ c a.2 in
    finish t.0 g.0 u.0 a.0 t.1 g.1 u.1 a.1 q
  where
    finish : (t : List ℕ) (g : Got (List ℕ)) (u : List ℕ) (a : ListArgs) → line_text l ≡ some t → run₁ tag_byte t ≡ some g →
        after (text " ") g.rest ≡ some u
        → cond (spells (run atom_byte u).val (text "LIST")) (list_args (run atom_byte u).rest) none ≡ some a
        → record { tag = g.val; args = a } ≡ c → (parsed l ≡ judged c.tag c.args) × is_some_tag c.tag
    finish t g u a et eg eu ea q =
        (rw (et, eg, eu) (word (spells (run atom_byte u).val (text "LIST")) refl ea ∙ named), subst is_some_tag (ap (λ (x : ListCommand). x.tag) q) (run₁_tag t g eg))
      where
        named : judged g.val a ≡ judged c.tag c.args
        named = ap (λ (x : ListCommand). judged x.tag x.args) q

        word : (b : Bool) → spells (run atom_byte u).val (text "LIST") ≡ b → cond b (list_args (run atom_byte u).rest) none ≡ some a
            → worded g.val (run atom_byte u) ≡ judged g.val a
        word true h k = rw (h, k)
        word false h k = absurd (option_none_ne_some a k)

-- what stands behind an accepted reply
abbrev bytes_in : Reply → List ℕ
bytes_in (refusal k) = []
bytes_in (answered a) = a

pub answered_is : (a b : List ℕ) → answered a ≡ answered b → a ≡ b
answered_is a b e = ap bytes_in e

limited_is : (room : ℕ) (r : Reply) (a : List ℕ) → limited room r ≡ answered a → r ≡ answered a
unfolding limited
limited_is room (refusal k) a e = absurd (refusal_not k a e)
limited_is room (answered b) a e = go (leb (length b) room) e
  where
    go : (o : Bool) → cond o (answered b) (refusal 9) ≡ answered a → answered b ≡ answered a
    go true e = e
    go false e = absurd (refusal_not 9 a e)

from_is : (reader : ℕ) (r : Reply) (a : List ℕ) → from_reader reader r ≡ answered a → r ≡ answered a
unfolding from_reader
from_is reader r a e = go (is_reader reader) e
  where
    go : (o : Bool) → cond o r (refusal 16) ≡ answered a → r ≡ answered a
    go true e = e
    go false e = absurd (refusal_not 16 a e)

answer_is_lem : (t : Table) (spaces l a : List ℕ) → answer t spaces l ≡ answered a →
    (passes t ≡ true) × (answer_to (rows t) (entries spaces) (parsed l) ≡ answered a)
unfolding answer
answer_is_lem t spaces l a e = go (passes t) refl (namespaces_pass spaces) e
  where
    r : Reply
    r = answer_to (rows t) (entries spaces) (parsed l)

    go : (b : Bool) → passes t ≡ b → (d : Bool) → cond b (cond d r (refusal 2)) (refusal 1) ≡ answered a → (passes t ≡ true) × (r ≡ answered a)
    go true h true e = (h, e)
    go true h false e = absurd (refusal_not 2 a e)
    go false h d e = absurd (refusal_not 1 a e)

judged_is : (rs : List Row) (es : List Entry) (tag : List ℕ) (x : ListArgs) (a : List ℕ) → extended x ≡ true →
    answer_to rs es (judged tag x) ≡ answered a
    → a ≡ list_answer rs tag (options_of x) (canonical x.reference x.pats)
unfolding judged asks_root answer_to
judged_is rs es tag x a h e =
    go (every (known_in selection_words) x.selection && every (known_in return_words) x.returns) (lawful_options (options_of x)) (few_patterns x)
    (extended x) h e
  where
    fine : Parsed
    fine = listing tag (options_of x) (canonical x.reference x.pats)

    go : (k l f y : Bool) → y ≡ true
        → answer_to rs es (cond k (cond l (cond f (cond (not y && every is_empty x.pats) (root_of tag) fine) (refused 8)) (refused 7)) (refused 6)) ≡
        answered a
        → a ≡ list_answer rs tag (options_of x) (canonical x.reference x.pats)
    go true true true true h e = sym (answered_is (list_answer rs tag (options_of x) (canonical x.reference x.pats)) a e)
    go true true true false h e = absurd (false≢true h)
    go true true false y h e = absurd (refusal_not 8 a e)
    go true false f y h e = absurd (refusal_not 7 a e)
    go false l f y h e = absurd (refusal_not 6 a e)

-- What an accepted command is answered: the lines of the names that the definitions list, then the tagged line.
pub record AnsweredBy (t : Table) (c : ListCommand) (a : List ℕ) : Type 0 where
  pub table_passes : passes t ≡ true
  pub lawful_tag : is_some_tag c.tag
  pub answer_bytes : a ≡ list_answer (rows t) c.tag (options_in c) (patterns_in c)

pub accepted_is : (reader : ℕ) (t : Table) (spaces l buffer : List ℕ) (c : ListCommand) (a : List ℕ) → Accepted reader t spaces l buffer c a →
    AnsweredBy t c a
unfolding served_to served
accepted_is reader t spaces l buffer c a h =
    let p = command_parsed l c h.reads in
    let w = answer_is_lem t spaces l a (limited_is (length buffer) (answer t spaces l) a
    (from_is reader (limited (length buffer) (answer t spaces l)) a h.is_answered_lem)) in
    record {
      table_passes = w.0;
      lawful_tag = p.1;
      answer_bytes =
          judged_is (rows t) (entries spaces) c.tag c.args a h.is_extended (sym (ap (answer_to (rows t) (entries spaces)) p.0) ∙ w.1);
    }

-- The lines of an answer: those of the listed names, as the reader reads them, and the tagged line, which it refuses.
module _ (tag : List ℕ) (h : is_some_tag tag) where
  ok_body : ok_line tag ≡ (tag ++ text " OK done\r") ++ (10 ∷ [])
  unfolding ok_line open_bytes
  ok_body = sym (append_assoc tag (text " OK done\r") (10 ∷ []))

  tagged_lines : lines_of (ok_line tag) ≡ ok_line tag ∷ []
  tagged_lines =
      ap lines_of (sym (append-nil (ok_line tag ++ []) ∙ append-nil (ok_line tag)))
      ∙ one
    where
      one : lines_of ((ok_line tag ++ []) ++ []) ≡ ok_line tag ∷ []
      one = unfold joined every lines_of in
          lines_joined {A = Unit {0}} (λ u. ok_line tag) (λ u. tag ++ text " OK done\r") (λ u. ok_body) (tt ∷ []) []
          (and_i (all not_lf (tag ++ text " OK done\r")) true (all_append not_lf tag (text " OK done\r") (all_imp tag_byte not_lf tag_not_lf tag h.3)
          (unfold open_bytes in refl)) refl)

  tagged_refused : read_line (ok_line tag) ≡ bad
  tagged_refused = subst (λ (x : List ℕ). read_line (ok_line x) ≡ bad) (sym h.2) (star h.0 h.1 (tag_no_star h.0 first))
    where
      first : tag_byte h.0 ≡ true
      first = unfold all in and_l (tag_byte h.0) (all tag_byte h.1) (subst (λ (x : List ℕ). all tag_byte x ≡ true) h.2 h.3)

      star : (b : ℕ) (t : List ℕ) → eqb 42 b ≡ false → read_line (ok_line (b ∷ t)) ≡ bad
      star b t e = unfold open_reader open_tokens open_bytes open_lines in rw (e, sym_star) refl
        where
          sym_star : eqb b 42 ≡ false
          sym_star = ne_eqb b 42 (λ q. false≢true (sym e ∙ eq-eqb 42 b (sym q)))

module _ (t : Table) (pass : passes t ≡ true) (o : Options) (ps : List (List ℕ)) where
  lawful_listed : (n : List ℕ) → list_mem n (listed_names (rows t) o ps) → lawful_name n ≡ true
  unfolding listed_names
  lawful_listed n m = candidate_good t pass n (keep_mem (listed (rows t) o ps) (candidates (rows t)) n m).0

  pub line_read : (n : List ℕ) → lawful_name n ≡ true →
      read_line (line_of (rows t) o ps n) ≡ line (attributes (rows t) o ps n) n (child_info (rows t) o n)
  unfolding line_of
  line_read n g = read_line_written (attributes (rows t) o ps n) n (child_info (rows t) o n) (unfold attributes attributes_for in_order in refl) g

  pub lines_listed : (tag : List ℕ) → is_some_tag tag →
      list_lines (list_answer (rows t) tag o ps) ≡ map (line_of (rows t) o ps) (listed_names (rows t) o ps)
  unfolding list_lines list_answer
  lines_listed tag h =
      ap (keep taken) (split ∙ ap (λ (x : List (List ℕ)). map L ns ++ x) (tagged_lines tag h))
      ∙ keep_append taken (map L ns) (ok_line tag ∷ [])
      ∙ (λ i. keep_all taken (map L ns) (mem_every taken (map L ns) each) i ++ last i)
      ∙ append-nil (map L ns)
    where
      ns : List (List ℕ)
      ns = listed_names (rows t) o ps

      L : List ℕ → List ℕ
      L n = line_of (rows t) o ps n

      taken : List ℕ → Bool
      taken l = eqb (read_number (read_line l)) 0

      split : lines_of (joined (map L ns) ++ ok_line tag) ≡ map L ns ++ lines_of (ok_line tag)
      split =
          lines_joined L (λ n. line_body (attributes (rows t) o ps n) n (child_info (rows t) o n))
          (λ n. unfold line_of in line_body_lem (attributes (rows t) o ps n) n (child_info (rows t) o n)) ns (ok_line tag)
          (mem_every (λ n. all not_lf (line_body (attributes (rows t) o ps n) n (child_info (rows t) o n))) ns
          (λ n m. body_not_lf (attributes (rows t) o ps n) n (child_info (rows t) o n)
          (all_imp name_byte not_lf name_not_lf n (good_parts n (lawful_listed n m)).bytes)))

      each : (l : List ℕ) → list_mem l (map L ns) → taken l ≡ true
      each l m =
          let w = map_mem L l ns m in
          ap taken w.2 ∙ ap (λ (r : Read). eqb (read_number r) 0) (line_read w.0 (lawful_listed w.0 w.1)) ∙ number
          (attributes (rows t) o ps w.0) w.0 (child_info (rows t) o w.0)
        where
          number : (bs : List Bool) (n : List ℕ) (c : Criteria) → eqb (read_number (line bs n c)) 0 ≡ true
          number bs n c = unfold read_number in refl

      last : keep taken (ok_line tag ∷ []) ≡ []
      last =
          keep_none taken (ok_line tag ∷
          []) (λ z m. ap taken (list_mem_eq_of_singleton m) ∙ ap (λ (r : Read). eqb (read_number r) 0) (tagged_refused tag h) ∙
          (unfold read_number in refl))

lt_not_eq : ordering_lt ≡ ordering_eq → ⊥
lt_not_eq e = let z : ◌≡◌ {A = ℕ} 0 1 = cc in omega arith

-- of lines of names that ascend, those that name n: one
module _ (L : List ℕ → List ℕ) (n : List ℕ) where
  other_name : (m : List ℕ) → byte_order m n ≡ ordering_lt ⊎ byte_order n m ≡ ordering_lt → same m n ≡ false
  other_name m e = go (same m n) refl
    where
      apart : m ≡ n → ⊥
      apart q = ⊎_elim (λ h. lt_not_eq (sym h ∙ ap (λ (x : List ℕ). byte_order x n) q ∙ bytes_total.same n))
          (λ h. lt_not_eq (sym h ∙ ap (byte_order n) q ∙ bytes_total.same n)) e

      go : (b : Bool) → same m n ≡ b → b ≡ false
      go true h = absurd (apart (same_true m n h))
      go false h = refl

  one_named : (ns : List (List ℕ)) → ((m : List ℕ) → list_mem m ns → line_name (L m) ≡ m) → Asc byte_order ns → list_mem n ns
      → keep (λ k. same (line_name k) n) (map L ns) ≡ L n ∷ []
  unfolding keep
  one_named [] f s m = absurd (list_mem_not_nil m)
  one_named (x ∷ ns) f s m = ⊎_elim first (λ k. later k (one_named ns (λ z j. f z (list_mem_tail j)) s.1 k)) (list_mem_cases_cons m)
    where
      named : (line_name (L x)) ≡ x
      named = f x (list_mem_head refl)

      first : n ≡ x → cond (same (line_name (L x)) n) (L x ∷ keep (λ k. same (line_name k) n) (map L ns)) (keep (λ k. same (line_name k) n) (map L ns)) ≡
          L n ∷ []
      first e =
          rw (ap (λ (z : List ℕ). same z n) (named ∙ sym e) ∙ same_refl n, none)
          (ap (λ (z : List ℕ). L z ∷ []) (sym e))
        where
          none : keep (λ k. same (line_name k) n) (map L ns) ≡ []
          none =
              keep_none (λ k. same (line_name k) n) (map L ns)
              (λ z k.
              let w = map_mem L z ns k in
              ap (λ (y : List ℕ). same (line_name y) n) w.2 ∙ ap (λ (y : List ℕ). same y n) (f w.0 (list_mem_tail w.1))
              ∙ other_name w.0 (inr (subst (λ (y : List ℕ). byte_order y w.0 ≡ ordering_lt) (sym e)
              (above_mem byte_order bytes_total x w.0 ns s.0 w.1))))

      later : list_mem n ns → keep (λ k. same (line_name k) n) (map L ns) ≡ L n ∷ []
          → cond (same (line_name (L x)) n) (L x ∷ keep (λ k. same (line_name k) n) (map L ns)) (keep (λ k. same (line_name k) n) (map L ns)) ≡ L n ∷ []
      later k ih = rw (ap (λ (z : List ℕ). same z n) named ∙ other_name x (inl (above_mem byte_order bytes_total x n ns s.0 k))) ih

-- What an answer says of a name is what the definitions say: the name is a candidate and listed; the CHILDINFO of its line is its own.
module _ (t : Table) (c : ListCommand) (a : List ℕ) (h : AnsweredBy t c a) where
  abbrev o : Options
  o = options_in c

  abbrev ps : List (List ℕ)
  ps = patterns_in c

  abbrev pub names_listed : List (List ℕ)
  names_listed = listed_names (rows t) o ps

  pub answer_lines : list_lines a ≡ map (line_of (rows t) o ps) names_listed
  answer_lines = ap list_lines h.answer_bytes ∙ lines_listed t h.table_passes o ps c.tag h.lawful_tag

  pub names_asc : Asc byte_order names_listed
  unfolding listed_names candidates
  names_asc = asc_keep byte_order (listed (rows t) o ps) (candidates (rows t)) (asc_sorted byte_order bytes_total _)

  name_lawful : (n : List ℕ) → list_mem n names_listed → lawful_name n ≡ true
  name_lawful n m = lawful_listed t h.table_passes o ps n m

  pub name_of_line : (n : List ℕ) → list_mem n names_listed → line_name (line_of (rows t) o ps n) ≡ n
  unfolding line_name name_read
  name_of_line n m = ap name_read (line_read t h.table_passes o ps n (name_lawful n m))

  child_of_line : (n : List ℕ) → list_mem n names_listed → child_info_of (read_line (line_of (rows t) o ps n)) ≡ child_info (rows t) o n
  unfolding child_info_of
  child_of_line n m = ap child_info_of (line_read t h.table_passes o ps n (name_lawful n m))

  -- a line of the answer is the line of a listed name
  pub line_named : (k : List ℕ) → list_mem k (list_lines a) → list_mem (line_name k) names_listed × (k ≡ line_of (rows t) o ps (line_name k))
  line_named k m =
      let w = map_mem (line_of (rows t) o ps) k names_listed (subst (λ (ls : List (List ℕ)). list_mem k ls) answer_lines m) in
      let e : line_name k ≡ w.0 = ap line_name w.2 ∙ name_of_line w.0 w.1 in
      (subst (λ (n : List ℕ). list_mem n names_listed) (sym e) w.1, w.2 ∙ ap (line_of (rows t) o ps) (sym e))

  pub named_line : (n : List ℕ) → list_mem n names_listed → list_mem (line_of (rows t) o ps n) (list_lines a)
  named_line n m = subst (λ (ls : List (List ℕ)). list_mem (line_of (rows t) o ps n) ls) (sym answer_lines) (mem_map_lem (line_of (rows t) o ps) m)

  -- each listed name has one line
  pub lines_named : (n : List ℕ) → list_mem n names_listed → lines_for a n ≡ line_of (rows t) o ps n ∷ []
  unfolding lines_for
  lines_named n m =
      ap (keep (λ k. same (line_name k) n)) answer_lines ∙ one_named (line_of (rows t) o ps) n names_listed name_of_line names_asc m

  pub listed_in_lem : (n : List ℕ) → listed_in a n ≡ true → list_mem n names_listed
  unfolding listed_in
  listed_in_lem n e =
      let w = some_mem (λ k. same (line_name k) n) (list_lines a) e in
      subst (λ (x : List ℕ). list_mem x names_listed) (same_true (line_name w.0) n w.2) (line_named w.0 w.1).0

  pub in_listed : (n : List ℕ) → list_mem n names_listed → listed_in a n ≡ true
  unfolding listed_in
  in_listed n m =
      mem_some (λ k. same (line_name k) n) (list_lines a) (line_of (rows t) o ps n) (named_line n m)
      (ap (λ (x : List ℕ). same x n) (name_of_line n m) ∙ same_refl n)

  pub listed_tests : (n : List ℕ) → list_mem n names_listed → list_mem n (candidates (rows t)) × (listed (rows t) o ps n ≡ true)
  unfolding listed_names
  listed_tests n m = keep_mem (listed (rows t) o ps) (candidates (rows t)) n m

  pub tests_listed : (n : List ℕ) → list_mem n (candidates (rows t)) → listed (rows t) o ps n ≡ true → list_mem n names_listed
  unfolding listed_names
  tests_listed n m e = mem_keep (listed (rows t) o ps) (candidates (rows t)) n m e

  pub child_in : (n : List ℕ) → child_info_in a n ≡ true → list_mem n names_listed × (is_none (child_info (rows t) o n) ≡ false)
  unfolding child_info_in
  child_in n e =
      let w = some_mem (λ k. same (line_name k) n && not (is_none (child_info_of (read_line k)))) (list_lines a) e in
      let x = line_named w.0 w.1 in
      let q = same_true (line_name w.0) n (and_l (same (line_name w.0) n) (not (is_none (child_info_of (read_line w.0)))) w.2) in (
        subst (λ (z : List ℕ). list_mem z names_listed) q x.0,
        subst (λ (z : List ℕ). is_none (child_info (rows t) o z) ≡ false) q
            (ap is_none (sym (child_of_line (line_name w.0) x.0) ∙ ap (λ (z : List ℕ). child_info_of (read_line z)) (sym x.1))
            ∙ not-true (is_none (child_info_of (read_line w.0)))
            (and_r (same (line_name w.0) n) (not (is_none (child_info_of (read_line w.0)))) w.2)),
      )

  pub in_child : (n : List ℕ) → list_mem n names_listed → is_none (child_info (rows t) o n) ≡ false → child_info_in a n ≡ true
  unfolding child_info_in
  in_child n m e =
      mem_some (λ k. same (line_name k) n && not (is_none (child_info_of (read_line k)))) (list_lines a) (line_of (rows t) o ps n) (named_line n m)
      (and_i (same (line_name (line_of (rows t) o ps n)) n) (not (is_none (child_info_of (read_line (line_of (rows t) o ps n)))))
      (ap (λ (x : List ℕ). same x n) (name_of_line n m) ∙ same_refl n)
      (ap (λ (x : Criteria). not (is_none x)) (child_of_line n m) ∙ ap not e))
