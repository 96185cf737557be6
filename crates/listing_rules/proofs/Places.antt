-- The places of the attributes that the collector asks for are those of their names, and the root line's one attribute is \Noselect. Rests on
-- Keys alone: each is computed.
use Rattle.listing_rules.proofs.Prelude.{◌≡◌, refl, List, [], ◌∷◌, map, ℕ, get_or}
use Rattle.listing_rules.specs.Bytes.{text, same}
use Rattle.listing_rules.specs.Lines.{attribute_names, remote_place, subscribed_place, all_place, archive_place, drafts_place, flagged_place}
use Rattle.listing_rules.specs.Lines.{junk_place, sent_place, trash_place}
use Rattle.listing_rules.specs.LineReader.{root_attributes}
use Rattle.listing_rules.proofs.Keys.{open_bytes, open_lines, open_reader}

abbrev places : List ℕ
places = remote_place ∷ subscribed_place ∷ all_place ∷ archive_place ∷ drafts_place ∷ flagged_place ∷ junk_place ∷ sent_place ∷ trash_place ∷ []

abbrev spelled : List (List ℕ)
spelled =
    text "\\Remote" ∷ text "\\Subscribed" ∷ text "\\All" ∷ text "\\Archive" ∷ text "\\Drafts" ∷ text "\\Flagged" ∷ text "\\Junk" ∷ text "\\Sent" ∷ text "\\Trash" ∷ []

pub places_named : map (λ k. get_or attribute_names k []) places ≡ spelled
unfolding open_bytes open_lines
places_named = refl

pub root_named : root_attributes ≡ map (λ n. same n (text "\\Noselect")) attribute_names
unfolding open_bytes open_lines open_reader
root_named = refl
