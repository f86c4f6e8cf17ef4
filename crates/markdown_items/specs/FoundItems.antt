-- For private clauses: the items that are appended for what is found at a special byte, and where reading goes on.
use Rattle.std.specs.Prelude.{ℕ, ◌+◌, ◌-◌, true, false, List, [], ◌∷◌, ◌++◌, encode_utf8}
use Rattle.markdown_base.specs.declared.item.ItemBody.TheVariants as body
use Rattle.markdown_builder.specs.Shown.{Shown, plain_item, run_items, synthesized_item}
use Rattle.markdown_items.specs.declared.found.LineRange.{LineRange}
use Rattle.markdown_items.specs.ContentItems.{text_between}
use Rattle.markdown_items.specs.Dashes.{dashes_for, dashes_in_utf8, ellipsis}
use Rattle.markdown_items.specs.FoundView as found
use Rattle.markdown_items.specs.FoundView.{FoundView}

-- what is found at a byte offset, without the text before it
abbrev pub items_at : ℕ → FoundView → List Shown
items_at at (found.Text next) = []
items_at at found.Escape = []
items_at at (found.Mark mark) = plain_item at (at + 1) mark ∷ []
items_at at found.Image = plain_item at (at + 2) body.MaybeImage ∷ []
items_at at (found.Backticks stop) = plain_item at stop (body.MaybeCode (stop - at) false) ∷ []
items_at at (found.EscapedBackticks stop) = plain_item (at + 1) stop (body.MaybeCode (stop - (at + 1)) true) ∷ []
items_at at (found.DelimiterRun stop flags) = run_items stop flags.opens flags.closes (stop - at)
items_at at (found.Entity stop characters) = synthesized_item at stop characters ∷ []
items_at at (found.Dashes stop) = synthesized_item at stop (dashes_in_utf8 (dashes_for (stop - at))) ∷ []
items_at at found.Ellipsis = synthesized_item at (at + 3) (encode_utf8 ellipsis) ∷ []

-- the items that are appended for what is found, after the text that began at `from`; text goes on
abbrev pub found_items : List ℕ → LineRange → (from at : ℕ) → FoundView → List Shown
found_items text line from at (found.Text next) = []
found_items text line from at f = text_between text line from at ++ items_at at f

-- where the text after what is found begins
abbrev pub text_from : (from at : ℕ) → FoundView → ℕ
text_from from at (found.Text next) = from
text_from from at found.Escape = at + 1
text_from from at (found.Mark mark) = at + 1
text_from from at found.Image = at + 2
text_from from at (found.Backticks stop) = stop
text_from from at (found.EscapedBackticks stop) = stop
text_from from at (found.DelimiterRun stop flags) = stop
text_from from at (found.Entity stop characters) = stop
text_from from at (found.Dashes stop) = stop
text_from from at found.Ellipsis = at + 3

-- where reading goes on
abbrev pub read_on : ℕ → FoundView → ℕ
read_on at (found.Text next) = next
read_on at found.Escape = at + 2
read_on at (found.Mark mark) = at + 1
read_on at found.Image = at + 2
read_on at (found.Backticks stop) = stop
read_on at (found.EscapedBackticks stop) = stop
read_on at (found.DelimiterRun stop flags) = stop
read_on at (found.Entity stop characters) = stop
read_on at (found.Dashes stop) = stop
read_on at found.Ellipsis = at + 3
