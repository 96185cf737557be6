-- The words of a command's options.
use Rattle.std.specs.Prelude.{List, [], ◌∷◌, ℕ}
use Rattle.listing_rules.specs.Bytes.{text}
use Rattle.listing_rules.specs.Lines.{chosen, spaced}
use Rattle.listing_rules.specs.Options.{Options}

-- what stands in the parentheses of RETURN
unfoldable pub return_words : Options → List ℕ
return_words o =
    spaced (chosen (o.ret_subscribed ∷ o.ret_children ∷ o.ret_special ∷ []) (text "SUBSCRIBED" ∷ text "CHILDREN" ∷ text "SPECIAL-USE" ∷ []))
