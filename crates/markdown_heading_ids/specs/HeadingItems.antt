-- Ids of headings among items, which are events with their ranges, and errors: a heading ends with an error too.
use Rattle.std.specs.Prelude.{ℕ, Bool, true, false, not, List, [], ◌∷◌, ◌++◌, Ok, Err, is_some}
use Rattle.std.specs.declared.ops.Range.{Range}
use Rattle.markdown_heading_ids.specs.HeadingIds.{Id, given_id, with_given}
use Rattle.markdown_out.specs.Merge.{Item}
use Rattle.markdown_outline.specs.Outline.{Ranged, ends_heading, opened_heading}

-- an event with its range, or an error
abbrev pub RangedItem : Type 0
RangedItem = Item (Range ℕ)

-- the events before the first error
abbrev pub until_error : List RangedItem → List Ranged
until_error [] = []
until_error (Err fault ∷ items) = []
until_error (Ok e ∷ items) = e ∷ until_error items

-- items, of which the first is inside a heading or outside, with the ids that are given to the headings that begin
-- among them, where these ids are taken: those of `with_ids_from`, but that after an error the next item is outside
abbrev pub items_with_ids : (inside : Bool) → (taken : List Id) → List RangedItem → List RangedItem
items_with_ids inside taken [] = []
items_with_ids inside taken (Err fault ∷ items) = Err fault ∷ items_with_ids false taken items
items_with_ids true taken (Ok e ∷ items) = Ok e ∷ items_with_ids (not (ends_heading e.0)) taken items
items_with_ids false taken (Ok e ∷ items) =
    Ok (with_given (given_id (opened_heading e.0) taken (until_error items)) e)
    ∷ items_with_ids (is_some (opened_heading e.0)) (given_id (opened_heading e.0) taken (until_error items) ++ taken)
    items
