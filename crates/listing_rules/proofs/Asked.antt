-- One command of the collector: what its answer adds to found and pending, if there is room for it. Rests on Sent, AnswerLines, ReaderWriter,
-- Passes and Outcome.
use Rattle.listing_rules.proofs.Prelude.{◌∙◌, ◌≡◌, ap, refl, sym, Bool, cond, false, not, true, List, [], ◌++◌, ◌∷◌, append_assoc, append-nil}
use Rattle.listing_rules.proofs.Prelude.{map, ◌≤◌, ℕ, arith, leb, length, length-append, leb-false, leb-true}
use Rattle.listing_rules.specs.Bytes.{text, all}
use Rattle.listing_rules.specs.Lists.{every, keep, joined}
use Rattle.listing_rules.specs.Names.{lawful_name, name_byte}
use Rattle.listing_rules.specs.Table.{Table, rows, passes}
use Rattle.listing_rules.specs.Tokens.{line_byte}
use Rattle.listing_rules.specs.Options.{Criteria, is_none}
use Rattle.listing_rules.specs.Listing.{candidates, attributes, attributes_for, in_order, child_info, listed, listed_names}
use Rattle.listing_rules.specs.Lines.{list_line, ok_line}
use Rattle.listing_rules.specs.Server.{answered, refusal, answer, answer_to, limited, line_of, list_answer}
use Rattle.listing_rules.specs.LineReader.{line, read_line}
use Rattle.listing_rules.proofs.Keys.{open_bytes, open_lists, open_namespaces, open_tokens, open_lines, open_reader}
use Rattle.listing_rules.specs.Walk.{lawful_byte, Lists, stop, ◌then◌, command_line, lines_of, packed, go, is_find, with_name, fits, taken_in}
use Rattle.listing_rules.specs.Walk.{taken_all, replied, asked}
use Rattle.listing_rules.specs.Demand3.{walk_options}
use Rattle.listing_rules.proofs.Bools.{and_l, and_r}
use Rattle.listing_rules.proofs.ListLaws.{all_imp, every_mem, mem_every, keep_mem}
use Rattle.listing_rules.proofs.Levels.{Name}
use Rattle.listing_rules.proofs.LawfulNames.{good_parts}
use Rattle.listing_rules.proofs.Passes.{candidate_good}
use Rattle.listing_rules.proofs.ReaderWriter.{read_line_written}
use Rattle.listing_rules.proofs.AnswerLines.{not_lf, name_not_lf, line_body, line_body_lem, body_not_lf, lines_joined, ok_lines}
use Rattle.listing_rules.proofs.Sent.{sent}
use Rattle.listing_rules.proofs.Outcome.{Short, scratch_short, found_short_lem, pending_short, Outcome, went, stopped, with_fact, then_step}

-- sizes
pub packed_append : (a b : List (List ℕ)) → packed (a ++ b) ≡ packed a ++ packed b
unfolding packed joined
packed_append [] b = refl
packed_append (n ∷ a) b = ap (λ (x : List ℕ). (length n ∷ n) ++ x) (packed_append a b) ∙ sym (append_assoc (length n ∷ n) (packed a) (packed b))

pub packed_le : (a b : List (List ℕ)) (room : ℕ) → length (packed (a ++ b)) ≤ room → length (packed a) ≤ room
packed_le a b room h = omega (arith, ap length (packed_append a b), length-append (packed a) (packed b))

with_keep : (F : List ℕ → Bool) (n : List ℕ) (ns rest : List (List ℕ)) → with_name (F n) n ns ++ keep F rest ≡ ns ++ keep F (n ∷ rest)
unfolding with_name keep
with_keep F n ns rest = pick (F n)
  where
    pick : (o : Bool) → with_name o n ns ++ keep F rest ≡ ns ++ cond o (n ∷ keep F rest) (keep F rest)
    pick true = append_assoc ns (n ∷ []) (keep F rest)
    pick false = refl

-- the two lists of the walk, and that they fit
abbrev pub lists_of : List Name → List Name → Lists
lists_of f a = record { finds = f; asks = a }

abbrev pub Sizes : ℕ → ℕ → List Name → List Name → Type 0
Sizes found pending f a = (length (packed f) ≤ found) × (length (packed a) ≤ pending)

fits_cases : (k room : ℕ) (ns : List Name) → Short k → Outcome (fits k room ns) ns (length (packed ns) ≤ room)
unfolding fits
fits_cases k room ns s = pick (leb (length (packed ns)) room) refl
  where
    pick : (o : Bool) → leb (length (packed ns)) room ≡ o → Outcome (cond o (go ns) (stop k)) ns (length (packed ns) ≤ room)
    pick true e = went refl (leb-true (length (packed ns)) room e)
    pick false e = stopped k s refl (λ h. omega (arith, leb-false (length (packed ns)) room e))

answer_cases : (scratch : ℕ) (a : List ℕ) → Outcome (replied (limited scratch (answered a))) a (length a ≤ scratch)
unfolding replied limited
answer_cases scratch a = pick (leb (length a) scratch) refl
  where
    pick : (c : Bool) → leb (length a) scratch ≡ c → Outcome (replied (cond c (answered a) (refusal 9))) a (length a ≤ scratch)
    pick true e = went refl (leb-true (length a) scratch e)
    pick false e = stopped 9 scratch_short refl (λ h. omega (arith, leb-false (length a) scratch e))

-- the lines of an answer, taken in one after the other
module _ (o found pending : ℕ) (L : Name → List ℕ) (B : Name → List Bool) (C : Name → Criteria) (reads : (n : Name) → lawful_name n ≡ true → read_line (L n) ≡ line (B n) n (C n)) where
  abbrev finds_among : List Name → List Name
  finds_among ns = keep (λ n. is_find o (B n)) ns

  abbrev named : Name → Bool
  named n = not (is_none (C n))

  taken_cases : (ns f a : List Name) → every lawful_name ns ≡ true → Sizes found pending f a
      → Outcome (taken_all o found pending (lists_of f a) (map L ns ++ (ok_line (text "w") ∷ []))) (lists_of (f ++ finds_among ns) (a ++ keep named ns))
      (Sizes found pending (f ++ finds_among ns) (a ++ keep named ns))
  unfolding taken_all taken_in open_bytes open_lists open_lines open_tokens open_reader
  taken_cases [] f a g h = rw (append-nil f, append-nil a) (went (unfold ◌then◌ in refl) h)
  taken_cases (n ∷ ns) f a g h =
      rw (reads n (and_l (lawful_name n) (every lawful_name ns) g), ← with_keep (λ n. is_find o (B n)) n f ns, ← with_keep named n a ns)
      (then_step _
      (then_step _ (fits_cases 10 found f' found_short_lem) (λ h₁. then_step _ (fits_cases 11 pending a' pending_short) (λ h₂. went refl (h₁, h₂)) (λ s. s.1)) (λ s. s.0))
      (λ s. taken_cases ns f' a' (and_r (lawful_name n) (every lawful_name ns) g) s)
      (λ s. (packed_le f' (finds_among ns) found s.0, packed_le a' (keep named ns) pending s.1)))
    where
      f' : List Name
      f' = with_name (is_find o (B n)) n f

      a' : List Name
      a' = with_name (named n) n a

-- the collector's line of a name
module _ (t : Table) (o : ℕ) (ref : List ℕ) where
  abbrev pub pats : List (List ℕ)
  pats = (ref ++ text "%") ∷ []

  abbrev pub attrs_of : List ℕ → List Bool
  attrs_of n = attributes (rows t) (walk_options o) pats n

  abbrev pub child_of : List ℕ → Criteria
  child_of n = child_info (rows t) (walk_options o) n

  abbrev pub names_listed_lem : List (List ℕ)
  names_listed_lem = listed_names (rows t) (walk_options o) pats

  pub sixteen : (n : List ℕ) → length (attrs_of n) ≡ 16
  unfolding attributes attributes_for in_order
  sixteen n = refl

  pub answer_is_lem : lawful_byte o ≡ true → passes t ≡ true → all line_byte ref ≡ true → length ref ≤ 254 → answer t [] (command_line o ref) ≡ answered (list_answer (rows t) (text "w") (walk_options o) pats)
  unfolding answer answer_to open_namespaces open_lists
  answer_is_lem y h b l = rw (h, sent o ref y b l)

  good_listed : passes t ≡ true → every lawful_name names_listed_lem ≡ true
  unfolding listed_names
  good_listed h = mem_every lawful_name names_listed_lem (λ n m. candidate_good t h n (keep_mem (listed (rows t) (walk_options o) pats) (candidates (rows t)) n m).0)

  lines_are : passes t ≡ true → lines_of (list_answer (rows t) (text "w") (walk_options o) pats) ≡ map (λ n. list_line (attrs_of n) n (child_of n)) names_listed_lem ++ (ok_line (text "w") ∷ [])
  unfolding list_answer line_of
  lines_are h =
      lines_joined (λ n. list_line (attrs_of n) n (child_of n)) (λ n. line_body (attrs_of n) n (child_of n)) (λ n. line_body_lem (attrs_of n) n (child_of n)) names_listed_lem (ok_line (text "w"))
      (mem_every (λ n. all not_lf (line_body (attrs_of n) n (child_of n))) names_listed_lem
      (λ n m. body_not_lf (attrs_of n) n (child_of n) (all_imp name_byte not_lf name_not_lf n (good_parts n (every_mem lawful_name names_listed_lem (good_listed h) n m)).bytes)))
      ∙ ap (λ (x : List (List ℕ)). map (λ n. list_line (attrs_of n) n (child_of n)) names_listed_lem ++ x) ok_lines

  -- the answer fits
  abbrev pub Answer-fits : ℕ → Type 0
  Answer-fits scratch = length (list_answer (rows t) (text "w") (walk_options o) pats) ≤ scratch

  -- what one command adds, if there is room for it
  abbrev pub finds : List Name
  finds = keep (λ n. is_find o (attrs_of n)) names_listed_lem

  abbrev pub asks : List Name
  asks = keep (λ n. not (is_none (child_of n))) names_listed_lem

  pub asked_cases : (scratch found pending : ℕ) → lawful_byte o ≡ true → passes t ≡ true → all line_byte ref ≡ true → length ref ≤ 254
      → (f a : List Name) → Sizes found pending f a
      → Outcome (asked t o scratch found pending (lists_of f a) ref) (lists_of (f ++ finds) (a ++ asks))
      (Answer-fits scratch × Sizes found pending (f ++ finds) (a ++ asks))
  unfolding asked
  asked_cases scratch found pending y ok b l f a h =
      rw (answer_is_lem y ok b l) (then_step _ (answer_cases scratch (list_answer (rows t) (text "w") (walk_options o) pats))
      (λ k. with_fact (λ s. (k, s)) (λ w. w.1) (rw (lines_are ok) taken)) (λ w. w.0))
    where
      taken : Outcome (taken_all o found pending (lists_of f a)
          (map (λ n. list_line (attrs_of n) n (child_of n)) names_listed_lem ++ (ok_line (text "w") ∷ []))) (lists_of (f ++ finds) (a ++ asks))
          (Sizes found pending (f ++ finds) (a ++ asks))
      taken = taken_cases o found pending (λ n. list_line (attrs_of n) n (child_of n)) attrs_of child_of
          (λ n g. read_line_written (attrs_of n) n (child_of n) (sixteen n) g) names_listed_lem f a (good_listed ok) h
