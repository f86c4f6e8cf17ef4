-- What a merge holds, as items that have been read and not returned yet.
use Rattle.std.specs.Prelude.{List, [], ◌∷◌, Result, string_bytes}
use Rattle.markdown_base.specs.declared.event.Event.{Event}
use Rattle.markdown_base.specs.declared.fault.Fault.{Fault}
use Rattle.markdown_out.specs.Merge.{Item, text_item}
use Rattle.markdown_out.specs.MergeNext.{formed_view}
use Rattle.markdown_out.specs.TextForms.{Formed, boxed_form}
use Rattle.markdown_out.specs.declared.merge.held.Held.{Held}
use Rattle.markdown_out.specs.declared.merge.held.Held.TheVariants as held

-- an event with its range and the forms of its texts, or an error, as the merge is defined
abbrev pub placed_view : {P : Type 0} → Result (Event × P) Fault → Item (Formed P)
placed_view x = formed_view (λ placed. placed) x

-- the items that are held: joined texts count as one boxed text of all their bytes at the first range, and an empty one
-- at the last range
abbrev pub held_items : {P : Type 0} → Held P → List (Item (Formed P))
held_items held.Nothing = []
held_items (held.Item x) = placed_view x ∷ []
held_items (held.Texts t) =
    text_item (record { bytes = string_bytes t.bytes; range = (t.first, boxed_form ∷ []) })
    ∷ text_item (record { bytes = []; range = (t.last, boxed_form ∷ []) }) ∷ []
