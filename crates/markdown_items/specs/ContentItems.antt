-- The inline items of a line's content, open or settled, in the order of the text.
use Rattle.std.specs.Prelude.{◌≡◌, ℕ, zero, suc, ◌+◌, ◌-◌, false, true, not, nat_le, nat_lt, List, [], ◌∷◌, ◌++◌}
use Rattle.std.specs.Prelude.{slice_index, encode_utf8, if◌then◌else◌}
use Rattle.markdown_base.specs.declared.item.ItemBody.TheVariants as body
use Rattle.markdown_builder.specs.BuilderView.{BuilderView, with_items}
use Rattle.markdown_builder.specs.Shown.{Shown, plain_item, run_items, synthesized_item}
use Rattle.markdown_items.specs.declared.extensions.ItemSyntax.{ItemSyntax}
use Rattle.markdown_items.specs.declared.found.LineRange.{LineRange}
use Rattle.markdown_items.specs.Dashes.{dashes_for, dashes_in_utf8, ellipsis}
use Rattle.markdown_items.specs.Found.{found_at}
use Rattle.markdown_items.specs.FoundView as found
use Rattle.markdown_items.specs.FoundView.{FoundView}
use Rattle.markdown_items.specs.LineItems.{is_after_backslash, is_special}

-- the text from one byte offset up to another, if there is any
abbrev pub text_between : List ℕ → LineRange → ℕ → ℕ → List Shown
text_between text line from to =
    if nat_lt from to then plain_item from to (body.Text (is_after_backslash text line.start from)) ∷ [] else []

-- What is found at a byte offset, after the text that began at `from`; `more` is what follows, from where its text
-- begins and from where it is read on. A backslash that escapes is in no item.
abbrev pub put_found : List ℕ → LineRange → (ℕ → ℕ → List Shown) → (from at : ℕ) → FoundView → List Shown
put_found text line more from at (found.Text next) = more from next
put_found text line more from at found.Escape = text_between text line from at ++ more (at + 1) (at + 2)
put_found text line more from at (found.Mark mark) =
    text_between text line from at ++ plain_item at (at + 1) mark ∷ more (at + 1) (at + 1)
put_found text line more from at found.Image =
    text_between text line from at ++ plain_item at (at + 2) body.MaybeImage ∷ more (at + 2) (at + 2)
put_found text line more from at (found.Backticks stop) =
    text_between text line from at ++ plain_item at stop (body.MaybeCode (stop - at) false) ∷ more stop stop
put_found text line more from at (found.EscapedBackticks stop) =
    text_between text line from at
    ++ plain_item (at + 1) stop (body.MaybeCode (stop - (at + 1)) true) ∷ more stop stop
put_found text line more from at (found.DelimiterRun stop flags) =
    text_between text line from at ++ run_items stop flags.opens flags.closes (stop - at) ++ more stop stop
put_found text line more from at (found.Entity stop characters) =
    text_between text line from at ++ synthesized_item at stop characters ∷ more stop stop
put_found text line more from at (found.Dashes stop) =
    text_between text line from at
    ++ synthesized_item at stop (dashes_in_utf8 (dashes_for (stop - at))) ∷ more stop stop
put_found text line more from at found.Ellipsis =
    text_between text line from at
    ++ synthesized_item at (at + 3) (encode_utf8 ellipsis) ∷ more (at + 3) (at + 3)

-- the items of a line's content from byte offset `at` on, in at most `n` steps, where a text began at `from`
unfoldable pub items_read_from : ℕ → List ℕ → LineRange → (from at : ℕ) → List Shown
items_read_from zero text line from at = []
items_read_from (suc n) text line from at =
    if nat_le line.end at then text_between text line from line.end
    else if not (is_special line.extensions.dashes (slice_index text at)) then items_read_from n text line from (at + 1)
    else put_found text line (items_read_from n text line) from at (found_at line text at)

-- the items of a line's content
abbrev pub content_items : List ℕ → ItemSyntax → (start end : ℕ) → List Shown
content_items text extensions start end =
    items_read_from (suc (end - start)) text (record { start = start; end = end; extensions = extensions }) start start

-- items were appended to the open leaf, and nothing else was made of the closed trees
abbrev pub AddsItems : BuilderView → BuilderView → Type 0
AddsItems old new = (items : List Shown) × (new.levels ≡ with_items old.levels items)

-- texts may follow those that blocks and items referred to
abbrev pub AddsTexts : BuilderView → BuilderView → Type 0
AddsTexts old new = (texts : List (List ℕ)) × (new.texts ≡ old.texts ++ texts)
