-- The ranges of events: a range of the source, or none.
use Rattle.std.specs.Prelude.{ℕ}
use Rattle.std.specs.declared.ops.Range.{Range}
use Rattle.markdown_base.specs.declared.event.Event.{Event}

-- an event without a range
abbrev pub bare : Event → Event × Unit {0}
bare event = (event, tt)

-- from the beginning of the first to the end of the last, where events have no range
abbrev pub nowhere : Unit {0} → Unit {0} → Unit {0}
nowhere first last = first

-- an event with its range
abbrev pub with_range : Event × Range ℕ → Event × Range ℕ
with_range placed = placed

-- from the start of the first range to the end of the last
abbrev pub through_ranges : Range ℕ → Range ℕ → Range ℕ
through_ranges first last = record { start = first.start; end = last.end }
