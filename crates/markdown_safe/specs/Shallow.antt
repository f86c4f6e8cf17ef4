-- Events that nest no deeper than a limit: a Start for which no level is left is an empty Text, with its End, and so
-- are those within it; what they hold stays.
use Rattle.std.specs.Prelude.{ℕ, Bool, false, [], ◌+◌, ◌-◌, ◌||◌, nat_lt, if◌then◌else◌}
use Rattle.markdown_base.specs.Event.{EventView, start, end, tag_end, text}
use Rattle.markdown_base.specs.declared.tag.TagEnd.{TagEnd}
use Rattle.markdown_base.specs.declared.tag.TagEnd.TheVariants as closes
use Rattle.markdown_safe.specs.declared.nesting.Depth.{Depth}

-- The levels that a tag with this End needs: its own, and those of what stands directly in it, where only that may. A
-- table holds heads and rows, these hold cells, and a list holds items.
abbrev pub levels : TagEnd → ℕ
levels closes.Table = 3
levels closes.TableHead = 2
levels closes.TableRow = 2
levels (closes.List ordered) = 2
levels other = 1

-- the Start with this End is left out: one around it is, or too few levels are left
abbrev pub is_left_out : (limit : ℕ) → Depth → TagEnd → Bool
is_left_out limit depth e = nat_lt 0 depth.left_out || nat_lt limit (depth.kept + levels e)

-- the event is a Start that is left out, or the End of one
abbrev pub is_emptied : (limit : ℕ) → Depth → EventView → Bool
is_emptied limit depth (start tag) = is_left_out limit depth (tag_end tag)
is_emptied limit depth (end e) = nat_lt 0 depth.left_out
is_emptied limit depth other = false

-- the event, but an empty Text for those
abbrev pub shallow : (limit : ℕ) → Depth → EventView → EventView
shallow limit depth e = if is_emptied limit depth e then text [] else e

-- before the first event
abbrev pub no_depth : Depth
no_depth = record { kept = 0; left_out = 0 }

-- what is open within a Start that is left out, or stays
abbrev pub depth_within : (left_out : Bool) → Depth → Depth
depth_within left_out depth =
    if left_out then record { kept = depth.kept; left_out = depth.left_out + 1 }
    else record { kept = depth.kept + 1; left_out = depth.left_out }

-- what is open after the End of the innermost
abbrev pub depth_around : Depth → Depth
depth_around depth =
    if nat_lt 0 depth.left_out then record { kept = depth.kept; left_out = depth.left_out - 1 }
    else record { kept = depth.kept - 1; left_out = depth.left_out }

-- what is open after an event
abbrev pub depth_after : (limit : ℕ) → EventView → Depth → Depth
depth_after limit (start tag) depth = depth_within (is_left_out limit depth (tag_end tag)) depth
depth_after limit (end e) depth = depth_around depth
depth_after limit other depth = depth
