-- The six lawful option bytes, and what each asks for.
use Rattle.std.specs.Prelude.{Option, Some, None}
use Rattle.std.specs.Prelude.{Bool, true, false, cond, ℕ, ◌+◌}
use Rattle.listing_rules.specs.Walk.{wants_remote, wants_special, drops_subscribed, lawful_byte}
use Rattle.collector.specs.declared.options.WalkCriteria.{WalkCriteria}
use Rattle.collector.specs.declared.options.WalkCriteria.TheVariants.{Subscribed, Both, SpecialUse}
use Rattle.collector.specs.declared.options.WalkOptions.{WalkOptions}

-- what the criteria select
abbrev pub with_subscribed : WalkCriteria → Bool
with_subscribed Subscribed = true
with_subscribed Both = true
with_subscribed SpecialUse = false

abbrev pub with_special_use : WalkCriteria → Bool
with_special_use Subscribed = false
with_special_use Both = true
with_special_use SpecialUse = true

-- the option byte of a walk's options: "1 REMOTE, 2 SPECIAL-USE"; 4 drops SUBSCRIBED
unfoldable pub byte_of : WalkOptions → ℕ
byte_of w = cond w.remote 1 0 + cond (with_special_use w.criteria) 2 0 + cond (with_subscribed w.criteria) 0 4

-- the criteria of a lawful byte, which drops SUBSCRIBED only where SPECIAL-USE is asked
unfoldable pub criteria_of : ℕ → WalkCriteria
criteria_of o = cond (drops_subscribed o) SpecialUse (cond (wants_special o) Both Subscribed)

-- what a byte asks for, if it is lawful
unfoldable pub asked_by : ℕ → Option WalkOptions
asked_by o = cond (lawful_byte o) (Some (record { criteria = criteria_of o; remote = wants_remote o })) None
