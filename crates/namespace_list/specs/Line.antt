-- The line that shows a namespace list.
use Rattle.std.specs.Prelude.{List, ◌++◌, map, ℕ}
use Rattle.listing_rules.specs.Bytes.{text, crlf}
use Rattle.listing_rules.specs.Lists.{joined}
use Rattle.listing_rules.specs.Namespaces.{Entry, of_class}
use Rattle.listing_rules.specs.Server.{entry_text, class_text}

-- entries one behind the other
abbrev pub entries_text : List Entry → List ℕ
entries_text es = joined (map entry_text es)

-- "NAMESPACE: `* NAMESPACE` and three classes", without the tagged line behind it
unfoldable pub namespace_line : List Entry → List ℕ
namespace_line es =
    text "* NAMESPACE" ++ (class_text (of_class 0 es) ++ (class_text (of_class 1 es) ++ (class_text (of_class 2 es) ++ crlf)))
