-- The statement of the law that the outline of merged events is that of the events.
use Rattle.std.specs.Prelude.{◌≡◌, ℕ, List, map, Ok}
use Rattle.std.specs.declared.ops.Range.{Range}
use Rattle.markdown_out.specs.Merge.{Item, merged}
use Rattle.markdown_out.specs.EventRanges.{through_ranges}
use Rattle.markdown_outline.specs.Outline.{Ranged, entries_of}

-- events with their ranges, as items of a merge
abbrev pub merge_items : List Ranged → List (Item (Range ℕ))
merge_items events = map (λ e. Ok e) events

-- where the merge of these events is a list of events, it has the same entries
abbrev pub MergingKeepsOutline : Type 0
MergingKeepsOutline = (events given : List Ranged) → merged through_ranges (merge_items events) ≡ merge_items given
    → entries_of given ≡ entries_of events
