-- Every answer is of bytes, and every refusal has a number of one byte, so that both can be written as frames and read again (W14). Rests on Passes,
-- TokenLaws and AnswerReads.
use Rattle.listing_rules.proofs.Prelude.{◌∙◌, ◌≡◌, refl, subst, sym, Bool, ◌&&◌, ◌||◌, cond, false, false≢true, not, true, ◌⊎◌, ⊎_elim, Option}
use Rattle.listing_rules.proofs.Prelude.{none, some, List, list_mem, list_mem_head, list_mem_tail, [], ◌∷◌, ◌++◌, map, ◌≤◌, ℕ, arith, eqb}
use Rattle.listing_rules.proofs.Prelude.{leb, ltb, length, eqb-true, le-leb, leb-true}
use Rattle.listing_rules.specs.Bytes.{text, quote, crlf, all, within, spells, is_empty}
use Rattle.listing_rules.specs.Lists.{every, keep, joined}
use Rattle.listing_rules.specs.Names.{lawful_name, name_byte}
use Rattle.listing_rules.specs.Table.{Table, rows, passes, has_row}
use Rattle.listing_rules.specs.Readers.{is_reader}
use Rattle.listing_rules.specs.Namespaces.{Entry, entries, lawful_entry, classes_rise, entries_fill, of_class, namespaces_pass}
use Rattle.listing_rules.specs.Tokens.{Got, tag_byte, atom_byte, after, run, run₁}
use Rattle.listing_rules.specs.Options.{Options, Criteria, lawful_options}
use Rattle.listing_rules.specs.Command.{Parsed, refused, namespace, listing, root_of, subscriptions, editing, Edit, subscribe, unsubscribe}
use Rattle.listing_rules.specs.Command.{ListArgs, LsubArgs, line_text, list_args, known_in, selection_words, return_words, options_of, canonical}
use Rattle.listing_rules.specs.Command.{few_patterns, asks_root, judged, lsub_args, judged_lsub, name_arg, or_refuse, worded, tagged, parsed}
use Rattle.listing_rules.specs.Listing.{candidates, attributes, child_info, listed, listed_names}
use Rattle.listing_rules.specs.Lines.{attribute_names, chosen, spaced, spaced_tail, escaped, quoted, child_info_text, word_line, list_line, root_line}
use Rattle.listing_rules.specs.Lines.{ok_line}
use Rattle.listing_rules.specs.Lsub.{lsub_listed, lsub_names, lsub_line}
use Rattle.listing_rules.specs.Subscriptions.{Store, store_rows, spelled, rows_before, below_no_inferiors, free_run, Edited, denied, stored}
use Rattle.listing_rules.specs.Subscriptions.{inserted, insertion, subscribing, unsubscribing, edited, nth}
use Rattle.listing_rules.specs.Server.{Reply, refusal, answered, line_of, list_answer, lsub_answer, delimiter_text, entry_text, class_text}
use Rattle.listing_rules.specs.Server.{namespace_answer, answer_to, answer, attempted, unchanged_by, concluded, commanded_over, Commanded}
use Rattle.listing_rules.proofs.Keys.{open_bytes, open_lists, open_lines, open_options}
use Rattle.listing_rules.proofs.Bools.{and_l, and_r, and_i, or_cases}
use Rattle.listing_rules.proofs.ListLaws.{all_append, all_imp, every_mem, keep_mem, map_mem}
use Rattle.listing_rules.proofs.TokenLaws.{all_escaped}
use Rattle.listing_rules.proofs.LawfulNames.{good_parts, name_range}
use Rattle.listing_rules.proofs.Passes.{candidate_good}
use Rattle.listing_rules.proofs.AnswerReads.{run₁_tag}

abbrev pub is_byte : ℕ → Bool
is_byte b = leb b 255

abbrev pub Bytes : List ℕ → Type 0
Bytes t = all is_byte t ≡ true

bytes_append : (a b : List ℕ) → Bytes a → Bytes b → Bytes (a ++ b)
bytes_append a b h g = all_append is_byte a b h g

within_byte : (lo hi b : ℕ) → hi ≤ 255 → within lo hi b ≡ true → is_byte b ≡ true
unfolding within
within_byte lo hi b l h = le-leb b 255 (omega (arith, l, leb-true b hi (and_r (leb lo b) (leb b hi) h)))

name_byte_lem : (b : ℕ) → name_byte b ≡ true → is_byte b ≡ true
name_byte_lem b h = le-leb b 255 (omega (arith, (name_range b h).1))

atom_or_bracket : (b : ℕ) → (atom_byte b || eqb b 93) ≡ true → is_byte b ≡ true
unfolding atom_byte
atom_or_bracket b h =
    ⊎_elim (λ e. within_byte 0x21 0x7E b (omega arith) (and_l (within 0x21 0x7E b) _ e)) (λ e. le-leb b 255 (omega (arith, eqb-true b 93 e)))
    (or_cases (atom_byte b) (eqb b 93) h)

tag_byte_lem : (b : ℕ) → tag_byte b ≡ true → is_byte b ≡ true
unfolding tag_byte
tag_byte_lem b h = atom_or_bracket b (and_l (atom_byte b || eqb b 93) (not (eqb b 43)) h)

-- lines
module _ where
  bytes_joined : (ls : List (List ℕ)) → ((l : List ℕ) → list_mem l ls → Bytes l) → Bytes (joined ls)
  unfolding joined
  bytes_joined [] f = unfold all in refl
  bytes_joined (l ∷ ls) f = bytes_append l (joined ls) (f l (list_mem_head refl)) (bytes_joined ls (λ z m. f z (list_mem_tail m)))

  every_chosen : (bs : List Bool) (ns : List (List ℕ)) → every (all is_byte) ns ≡ true → every (all is_byte) (chosen bs ns) ≡ true
  unfolding every chosen
  every_chosen [] ns h = refl
  every_chosen (b ∷ bs) [] h = refl
  every_chosen (true ∷ bs) (n ∷ ns) h = and_i (all is_byte n) (every (all is_byte) (chosen bs ns)) (and_l (all is_byte n) (every (all is_byte) ns) h)
      (every_chosen bs ns (and_r (all is_byte n) (every (all is_byte) ns) h))
  every_chosen (false ∷ bs) (n ∷ ns) h = every_chosen bs ns (and_r (all is_byte n) (every (all is_byte) ns) h)

  bytes_tail : (ns : List (List ℕ)) → every (all is_byte) ns ≡ true → Bytes (spaced_tail ns)
  unfolding every spaced_tail open_bytes
  bytes_tail [] h = refl
  bytes_tail (n ∷ ns) h = bytes_append n (spaced_tail ns) (and_l (all is_byte n) (every (all is_byte) ns) h)
      (bytes_tail ns (and_r (all is_byte n) (every (all is_byte) ns) h))

  bytes_spaced : (ns : List (List ℕ)) → every (all is_byte) ns ≡ true → Bytes (spaced ns)
  unfolding all every spaced
  bytes_spaced [] h = refl
  bytes_spaced (n ∷ ns) h = bytes_append n (spaced_tail ns) (and_l (all is_byte n) (every (all is_byte) ns) h)
      (bytes_tail ns (and_r (all is_byte n) (every (all is_byte) ns) h))

  bytes_quoted : (t : List ℕ) → Bytes t → Bytes (quoted t)
  unfolding quoted open_bytes
  bytes_quoted t h = bytes_append (escaped t) (quote ∷ []) (all_escaped is_byte refl t h) refl

  bytes_child : (c : Criteria) → Bytes (child_info_text c)
  unfolding open_lines open_bytes open_lists open_options
  bytes_child c = go c.subscribed c.special
    where
      go : (a b : Bool) → Bytes (child_info_text (record { subscribed = a; special = b }))
      go true true = refl
      go true false = refl
      go false true = refl
      go false false = refl

  bytes_crlf : Bytes crlf
  unfolding open_bytes
  bytes_crlf = refl

  names_bytes : every (all is_byte) attribute_names ≡ true
  unfolding open_lines open_bytes open_lists
  names_bytes = refl

  bytes_line : (start : List ℕ) (bs : List Bool) (n : List ℕ) (c : Criteria) → Bytes start → Bytes n → Bytes (word_line start bs n c)
  unfolding word_line
  bytes_line start bs n c s h =
      bytes_append start _ s
      (bytes_append (spaced (chosen bs attribute_names)) _ (bytes_spaced (chosen bs attribute_names) (every_chosen bs attribute_names names_bytes))
      (bytes_append (text ") \"/\" ") _ (unfold open_bytes in refl)
      (bytes_append (quoted n) _ (bytes_quoted n h) (bytes_append (child_info_text c) crlf (bytes_child c) bytes_crlf))))

  bytes_ok : (tag : List ℕ) → all tag_byte tag ≡ true → Bytes (ok_line tag)
  unfolding ok_line
  bytes_ok tag h = bytes_append tag _ (all_imp tag_byte is_byte tag_byte_lem tag h) (bytes_append (text " OK done") crlf (unfold open_bytes in refl) bytes_crlf)

-- answers of LIST and LSUB, from a table that passes
module _ (t : Table) (pass : passes t ≡ true) where
  name_bytes_lem : (n : List ℕ) → list_mem n (candidates (rows t)) → Bytes n
  name_bytes_lem n m = all_imp name_byte is_byte name_byte_lem n (good_parts n (candidate_good t pass n m)).bytes

  bytes_list : (tag : List ℕ) (o : Options) (ps : List (List ℕ)) → all tag_byte tag ≡ true → Bytes (list_answer (rows t) tag o ps)
  unfolding list_answer listed_names
  bytes_list tag o ps h =
      bytes_append (joined (map (line_of (rows t) o ps) (keep (listed (rows t) o ps) (candidates (rows t))))) (ok_line tag)
      (bytes_joined _ (λ l m. let w = map_mem (line_of (rows t) o ps) l (keep (listed (rows t) o ps) (candidates (rows t))) m in
      subst Bytes (sym w.2) (one w.0 (name_bytes_lem w.0 (keep_mem (listed (rows t) o ps) (candidates (rows t)) w.0 w.1).0))))
      (bytes_ok tag h)
    where
      one : (n : List ℕ) → Bytes n → Bytes (line_of (rows t) o ps n)
      one n k = unfold line_of list_line in bytes_line (text "* LIST (") (attributes (rows t) o ps n) n (child_info (rows t) o n) (unfold open_bytes in refl) k

  bytes_lsub : (tag : List ℕ) (ps : List (List ℕ)) → all tag_byte tag ≡ true → Bytes (lsub_answer (rows t) tag ps)
  unfolding lsub_answer lsub_names
  bytes_lsub tag ps h =
      bytes_append (joined (map (lsub_line (rows t)) (keep (lsub_listed (rows t) ps) (candidates (rows t))))) (ok_line tag)
      (bytes_joined _ (λ l m. let w = map_mem (lsub_line (rows t)) l (keep (lsub_listed (rows t) ps) (candidates (rows t))) m in
      subst Bytes (sym w.2) (one w.0 (name_bytes_lem w.0 (keep_mem (lsub_listed (rows t) ps) (candidates (rows t)) w.0 w.1).0))))
      (bytes_ok tag h)
    where
      one : (n : List ℕ) → Bytes n → Bytes (lsub_line (rows t) n)
      one n k = unfold lsub_line in bytes_line (text "* LSUB (") _ n _ (unfold open_bytes in refl) k

-- the answer of NAMESPACE, from a list that passes
lawful_entries : (spaces : List ℕ) → namespaces_pass spaces ≡ true → every lawful_entry (entries spaces) ≡ true
unfolding namespaces_pass
lawful_entries spaces h =
    let f = entries_fill 0 spaces in
    let e = every lawful_entry (entries spaces) in
    let c = classes_rise 0 (entries spaces) in
    let x = leb (length (of_class 0 (entries spaces))) 4 in
    let y = leb (length (of_class 1 (entries spaces))) 4 in
    let z = leb (length (of_class 2 (entries spaces))) 4 in
    and_r f e (and_l (f && e) c (and_l ((f && e) && c) x (and_l (((f && e) && c) && x) y (and_l ((((f && e) && c) && x) && y) z h))))

single : (b : ℕ) → is_byte b ≡ true → Bytes (b ∷ [])
unfolding all
single b h = and_i (is_byte b) true h refl

module _ (e : Entry) (h : lawful_entry e ≡ true) where
  entry_prefix : Bytes e.prefix
  unfolding lawful_entry
  entry_prefix =
      let a = leb e.class 2 && leb (length e.prefix) 64 in
      all_imp (within 0x20 0x7E) is_byte (λ b k. within_byte 0x20 0x7E b (omega arith) k) e.prefix
      (and_r a (all (within 0x20 0x7E) e.prefix) (and_l (a && all (within 0x20 0x7E) e.prefix)
      (eqb e.delimiter 0 || within 0x21 0x7E e.delimiter) h))

  entry_delimiter : Bytes (delimiter_text e.delimiter)
  unfolding delimiter_text lawful_entry
  entry_delimiter = go (eqb e.delimiter 0) refl
    where
      own : (eqb e.delimiter 0 || within 0x21 0x7E e.delimiter) ≡ true
      own =
          and_r ((leb e.class 2 && leb (length e.prefix) 64) && all (within 0x20 0x7E) e.prefix)
          (eqb e.delimiter 0 || within 0x21 0x7E e.delimiter) h

      go : (b : Bool) → eqb e.delimiter 0 ≡ b → Bytes (cond b (text "NIL") (quoted (e.delimiter ∷ [])))
      go true k = unfold open_bytes in refl
      go false k =
          bytes_quoted (e.delimiter ∷ [])
          (⊎_elim (λ d. absurd (false≢true (sym k ∙ d))) (λ d. single e.delimiter (within_byte 0x21 0x7E e.delimiter (omega arith) d))
          (or_cases (eqb e.delimiter 0) (within 0x21 0x7E e.delimiter) own))

  bytes_entry : Bytes (entry_text e)
  unfolding entry_text
  bytes_entry =
      bytes_append (text "(") _ (unfold open_bytes in refl)
      (bytes_append (quoted e.prefix) _ (bytes_quoted e.prefix entry_prefix)
      (bytes_append (text " ") _ (unfold open_bytes in refl) (bytes_append (delimiter_text e.delimiter) (text ")") entry_delimiter
      (unfold open_bytes in refl))))

bytes_class : (es : List Entry) → ((e : Entry) → list_mem e es → lawful_entry e ≡ true) → Bytes (class_text es)
unfolding class_text
bytes_class [] f = unfold open_bytes in refl
bytes_class (e ∷ es) f =
    bytes_append (text " (") _ (unfold open_bytes in refl)
    (bytes_append (joined (map entry_text (e ∷ es))) (text ")")
    (bytes_joined (map entry_text (e ∷ es)) (λ l m. let w = map_mem entry_text l (e ∷ es) m in subst Bytes (sym w.2) (bytes_entry w.0 (f w.0 w.1))))
    (unfold open_bytes in refl))

bytes_namespace : (spaces tag : List ℕ) → namespaces_pass spaces ≡ true → all tag_byte tag ≡ true → Bytes (namespace_answer (entries spaces) tag)
unfolding namespace_answer
bytes_namespace spaces tag h g =
    bytes_append (text "* NAMESPACE") _ (unfold open_bytes in refl)
    (bytes_append (class_text (of_class 0 (entries spaces))) _ (class 0)
    (bytes_append (class_text (of_class 1 (entries spaces))) _ (class 1)
    (bytes_append (class_text (of_class 2 (entries spaces))) _ (class 2) (bytes_append crlf (ok_line tag) bytes_crlf (bytes_ok tag g)))))
  where
    class : (c : ℕ) → Bytes (class_text (of_class c (entries spaces)))
    class c =
        bytes_class (of_class c (entries spaces)) (λ e m. every_mem lawful_entry (entries spaces) (lawful_entries spaces h) e
        (unfold of_class in (keep_mem (λ (x : Entry). eqb x.class c) (entries spaces) e m).0))

-- what a line is read as: the number of a refusal is one byte, and a tag is of the bytes of a tag
abbrev Read : Parsed → Type 0
Read (refused k) = k ≤ 255
Read (namespace tag) = all tag_byte tag ≡ true
Read (listing tag o ps) = all tag_byte tag ≡ true
Read (root_of tag) = all tag_byte tag ≡ true
Read (subscriptions tag ps) = all tag_byte tag ≡ true
Read (editing tag e) = all tag_byte tag ≡ true

or_read : {A : Type 0} (k : ℕ) (x : Option A) (go : A → Parsed) → k ≤ 255 → ((a : A) → x ≡ some a → Read (go a)) → Read (or_refuse k x go)
unfolding or_refuse
or_read k none go l f = l
or_read k (some a) go l f = f a refl

cond_read : (b : Bool) (p q : Parsed) → Read p → Read q → Read (cond b p q)
cond_read true p q h g = h
cond_read false p q h g = g

judged_read : (tag : List ℕ) (a : ListArgs) → all tag_byte tag ≡ true → Read (judged tag a)
unfolding judged
judged_read tag a h =
    cond_read (every (known_in selection_words) a.selection && every (known_in return_words) a.returns) _ _
    (cond_read (lawful_options (options_of a)) _ _ (cond_read (few_patterns a) _ _ (cond_read (asks_root a) _ _ h h) (omega arith)) (omega arith)) (omega arith)

lsub_read : (tag : List ℕ) (a : LsubArgs) → all tag_byte tag ≡ true → Read (judged_lsub tag a)
unfolding judged_lsub
lsub_read tag a h = cond_read (every (λ p. leb (length p) 255) (canonical a.reference (a.pat ∷ []))) _ _ h (omega arith)

worded_read : (tag : List ℕ) (w : Got (List ℕ)) → all tag_byte tag ≡ true → Read (worded tag w)
unfolding worded
worded_read tag w h =
    cond_read (spells w.val (text "LIST")) _ _ (or_read 4 (list_args w.rest) (judged tag) (omega arith) (λ a e. judged_read tag a h))
    (cond_read (spells w.val (text "NAMESPACE")) _ _ (cond_read (is_empty w.rest) (namespace tag) (refused 4) h (omega arith))
    (cond_read (spells w.val (text "LSUB")) _ _ (or_read 4 (lsub_args w.rest) (judged_lsub tag) (omega arith) (λ a e. lsub_read tag a h))
    (cond_read (spells w.val (text "SUBSCRIBE")) _ _ (or_read 4 (name_arg w.rest) (λ n. editing tag (subscribe n)) (omega arith) (λ a e. h))
    (cond_read (spells w.val (text "UNSUBSCRIBE")) _ _ (or_read 4 (name_arg w.rest) (λ n. editing tag (unsubscribe n)) (omega arith) (λ a e. h))
    (omega arith)))))

parsed_read : (l : List ℕ) → Read (parsed l)
unfolding parsed tagged
parsed_read l =
    or_read 3 (line_text l) tagged (omega arith) (λ t e.
    or_read 4 (run₁ tag_byte t) _ (omega arith) (λ tag k.
    or_read 4 (after (text " ") tag.rest) _ (omega arith) (λ u j. worded_read tag.val (run atom_byte u) (run₁_tag t tag k).3)))

-- an edit is denied with 14 or 15
abbrev Denied : Edited → Type 0
Denied (denied k) = k ≤ 255
Denied (stored t) = Unit {0}

cond_denied : (b : Bool) (p q : Edited) → Denied p → Denied q → Denied (cond b p q)
cond_denied true p q h g = h
cond_denied false p q h g = g

insertion_denied : (s : Store) (n : List ℕ) → Denied (insertion s n)
unfolding insertion
insertion_denied s n = go (free_run s (length n))
  where
    go : (r : Option ℕ) → Denied (elim r [
      | none ↦ denied 15
      | some start ↦ cond (ltb s.count 512 && ltb s.count (length s.records))
          (stored (inserted s (rows_before (store_rows s) n) start n)) (denied 15)
    ])
    go none = omega arith
    go (some start) = cond_denied (ltb s.count 512 && ltb s.count (length s.records)) _ (denied 15) tt (omega arith)

edited_denied : (s : Store) (e : Edit) → Denied (edited s e)
unfolding edited subscribing unsubscribing
edited_denied s (subscribe n) =
    cond_denied (has_row (store_rows s) (spelled n)) _ _ tt
    (cond_denied (lawful_name (spelled n) && not (below_no_inferiors (store_rows s) (spelled n))) _ (denied 14) (insertion_denied s (spelled n)) (omega arith))
edited_denied s (unsubscribe n) =
    cond_denied (has_row (store_rows s) (spelled n)) _ _ (cond_denied (eqb (nth s.records (rows_before (store_rows s) (spelled n))).flags 2) _ _ tt tt) tt

-- A reply that can stand in a log: of bytes, no longer than the program's buffer; a number of one byte.
abbrev pub Loggable : Reply → Type 0
Loggable (refusal k) = k ≤ 255
Loggable (answered a) = Bytes a × (length a ≤ 16384)

abbrev Sayable : Reply → Type 0
Sayable (refusal k) = k ≤ 255
Sayable (answered a) = Bytes a

answer_sayable : (t : Table) (spaces l : List ℕ) → Sayable (answer t spaces l)
unfolding answer
answer_sayable t spaces l = go (passes t) refl (namespaces_pass spaces) refl
  where
    said : passes t ≡ true → namespaces_pass spaces ≡ true → (p : Parsed) → Read p → Sayable (answer_to (rows t) (entries spaces) p)
    said h g (refused k) r = unfold answer_to in r
    said h g (namespace tag) r = unfold answer_to in bytes_namespace spaces tag g r
    said h g (listing tag o ps) r = unfold answer_to in bytes_list t h tag o ps r
    said h g (root_of tag) r = unfold answer_to in bytes_append root_line (ok_line tag) (unfold open_lines open_bytes in refl) (bytes_ok tag r)
    said h g (subscriptions tag ps) r = unfold answer_to in bytes_lsub t h tag ps r
    said h g (editing tag e) r = unfold answer_to in bytes_ok tag r

    go : (b : Bool) → passes t ≡ b → (d : Bool) → namespaces_pass spaces ≡ d →
        Sayable (cond b (cond d (answer_to (rows t) (entries spaces) (parsed l)) (refusal 2)) (refusal 1))
    go true h true g = said h g (parsed l) (parsed_read l)
    go true h false g = omega arith
    go false h d g = omega arith

attempted_denied : (reader : ℕ) (s : Store) (p : Parsed) → Denied (attempted reader s p)
unfolding attempted
attempted_denied reader s (editing tag e) = cond_denied (eqb reader 0) (edited s e) (denied 16) (edited_denied s e) (omega arith)
attempted_denied reader s (refused k) = tt
attempted_denied reader s (namespace tag) = tt
attempted_denied reader s (listing tag o ps) = tt
attempted_denied reader s (root_of tag) = tt
attempted_denied reader s (subscriptions tag ps) = tt

pub command_loggable : (reader : ℕ) (s : Store) (t : Table) (spaces l : List ℕ) → Loggable (commanded_over reader s t spaces l 16384).reply
unfolding commanded_over unchanged_by
command_loggable reader s t spaces l = go (is_reader reader)
  where
    done : (x : Edited) (r : Reply) → Denied x → Sayable r → Loggable (concluded s 16384 x r).reply
    done x (refusal k) d h = unfold concluded unchanged_by in h
    done (denied k) (answered a) d h = unfold concluded unchanged_by in d
    done (stored u) (answered a) d h = unfold concluded unchanged_by in fits (leb (length a) 16384) refl
      where
        fits : (b : Bool) → leb (length a) 16384 ≡ b →
            Loggable (cond {A = Commanded} b (record { reply = answered a; store = u }) (record { reply = refusal 9; store = s })).reply
        fits true e = (h, leb-true (length a) 16384 e)
        fits false e = omega arith

    go : (b : Bool) → Loggable (cond {A = Commanded} b (concluded s 16384 (attempted reader s (parsed l)) (answer t spaces l))
        (record { reply = refusal 16; store = s })).reply
    go true = done (attempted reader s (parsed l)) (answer t spaces l) (attempted_denied reader s (parsed l)) (answer_sayable t spaces l)
    go false = omega arith
