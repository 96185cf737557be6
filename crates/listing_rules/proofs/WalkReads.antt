-- The walk's commands only read (W6): each begins with the word LIST, so whatever its reference and its shape come to, it is no edit. Rests on Keys
-- alone.
use Rattle.listing_rules.proofs.Prelude.{◌∙◌, ◌≡◌, ap, refl, Bool, ◌&&◌, cond, false, not, true, Option, none, some, List, ◌++◌, ◌+◌, ◌-◌, ◌≤◌}
use Rattle.listing_rules.proofs.Prelude.{ℕ, arith, length, length-append, take, take-append-add}
use Rattle.listing_rules.specs.Bytes.{text, crlf}
use Rattle.listing_rules.specs.Lists.{every}
use Rattle.listing_rules.specs.Lines.{quoted}
use Rattle.listing_rules.specs.Feeder.{first, one_command}
use Rattle.listing_rules.specs.Options.{lawful_options}
use Rattle.listing_rules.specs.Command.{line_text, ListArgs, list_args, known_in, selection_words, return_words, few_patterns, options_of, asks_root}
use Rattle.listing_rules.specs.Command.{canonical, refused, root_of, listing, is_edit, judged, or_refuse, worded, tagged, parsed}
use Rattle.listing_rules.specs.Walk.{drops_subscribed, wants_special, wants_remote, when, command_line}
use Rattle.listing_rules.proofs.Keys.{open_bytes, open_tokens}

-- a LIST command on the grammar
judged_reads : (tag : List ℕ) (a : ListArgs) → is_edit (judged tag a) ≡ false
unfolding judged is_edit
judged_reads tag a =
    go (every (known_in selection_words) a.selection && every (known_in return_words) a.returns) (lawful_options (options_of a)) (few_patterns a) (asks_root a)
  where
    go : (known lawful few asks : Bool)
        → is_edit (cond known (cond lawful (cond few (cond asks (root_of tag) (listing tag (options_of a) (canonical a.reference a.pats)))
        (refused 8)) (refused 7)) (refused 6)) ≡ false
    go true true true true = refl
    go true true true false = refl
    go true true false k = refl
    go true false f k = refl
    go false l f k = refl

-- and one that may be off it
list_reads : (tag : List ℕ) (a : Option ListArgs) → is_edit (or_refuse 4 a (judged tag)) ≡ false
unfolding or_refuse is_edit
list_reads tag none = refl
list_reads tag (some a) = judged_reads tag a

worded_list : (t : List ℕ) → tagged (text "w LIST (" ++ t) ≡ or_refuse 4 (list_args (text " (" ++ t)) (judged (text "w"))
unfolding open_bytes open_tokens tagged worded or_refuse
worded_list t = refl

-- the last two bytes stand behind the word
word_first : (t : List ℕ) → 2 ≤ length t → take (length (text "w LIST (" ++ t) - 2) (text "w LIST (" ++ t) ≡ text "w LIST (" ++ take (length t - 2) t
word_first t h =
    let w = text "w LIST (" in
    let n : length (w ++ t) - 2 ≡ length w + (length t - 2) = omega (arith, h, length-append w t) in
    ap (λ (k : ℕ). take k (w ++ t)) n ∙ take-append-add w t (length t - 2)

line_reads : (t : List ℕ) → 2 ≤ length t → is_edit (parsed (text "w LIST (" ++ t)) ≡ false
unfolding parsed line_text or_refuse
line_reads t h = go (one_command first (text "w LIST (" ++ t))
  where
    u : List ℕ
    u = take (length t - 2) t

    go : (b : Bool) → is_edit (or_refuse 3 (cond b (some (take (length (text "w LIST (" ++ t) - 2) (text "w LIST (" ++ t))) none) tagged) ≡ false
    go true = ap (λ (l : List ℕ). is_edit (tagged l)) (word_first t h) ∙ ap is_edit (worded_list u) ∙ list_reads (text "w") (list_args (text " (" ++ u))
    go false = unfold is_edit in refl

pub walk_command_reads : (o : ℕ) (r : List ℕ) → is_edit (parsed (command_line o r)) ≡ false
unfolding command_line
walk_command_reads o r = line_reads (subscribed ++ (text "RECURSIVEMATCH" ++ rest)) long
  where
    subscribed : List ℕ
    subscribed = when (not (drops_subscribed o)) (text "SUBSCRIBED ")

    rest : List ℕ
    rest = when (wants_special o) (text " SPECIAL-USE") ++ (when (wants_remote o) (text " REMOTE") ++ (text ") " ++ (quoted r ++ (text " \"%\"" ++ crlf))))

    word : 2 ≤ length (text "RECURSIVEMATCH" ++ rest)
    word = unfold text in omega arith

    long : 2 ≤ length (subscribed ++ (text "RECURSIVEMATCH" ++ rest))
    long = omega (arith, length-append subscribed (text "RECURSIVEMATCH" ++ rest), word)
