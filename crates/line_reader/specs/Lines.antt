-- What the reader answers, in document 01's terms.
use Rattle.std.specs.Prelude.{Option as Maybe, Some, None, Result, ok_or, ℕ, length}
use Rattle.listing_rules.specs.LineReader.{Read, line, root, bad, name_bytes}
use Rattle.list_line.specs.Members.{set_of}
use Rattle.listing_rules.specs.Options.{criteria_number}
use Rattle.line_reader.specs.declared.Parts.{Parts}

-- the parts that are read: the set of the attributes, the name's 200 bytes and its length, and the set of the criteria that
-- CHILDINFO names; the root line has \Noselect, an empty name and no CHILDINFO
unfoldable pub parts_of : Read → Maybe Parts
parts_of (line bs n c) =
    Some (record { attributes = record { bits = set_of bs }; name = name_bytes (line bs n c); len = length n; criteria = record { bits = criteria_number c } })
parts_of root = Some (record { attributes = record { bits = 4 }; name = name_bytes root; len = 0; criteria = record { bits = 0 } })
parts_of bad = None

-- what is read, with the number of the refusal: the parts, and 12 for all else
unfoldable pub line_is : Read → Result Parts ℕ
line_is r = ok_or (parts_of r) 12
