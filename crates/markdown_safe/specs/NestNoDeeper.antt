-- Events that nest no deeper than a limit: no more Starts are open after any of them.
use Rattle.std.specs.Prelude.{ℕ, Bool, not, List, [], length, nat_lt}
use Rattle.markdown_base.specs.Event.{EventView}
use Rattle.markdown_base.specs.declared.tag.TagEnd.{TagEnd}
use Rattle.markdown_event_laws.specs.NestedEvents.{awaited_after, each_passes}

-- no more Ends are awaited after the event than the limit, where these are before it
abbrev pub stays_within : (limit : ℕ) → EventView → (awaited : List TagEnd) → Bool
stays_within limit e awaited = not (nat_lt limit (length (awaited_after e awaited)))

-- nor after each of these events
abbrev pub nest_no_deeper : (limit : ℕ) → List EventView → Bool
nest_no_deeper limit events = each_passes (stays_within limit) [] events
