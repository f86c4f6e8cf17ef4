-- What is made of a line so far, and what is still to be read of it; and the delimiter run that was appended last.
use Rattle.std.specs.Prelude.{◌≡◌, ◌≢◌, ℕ, ◌-◌, ◌<◌, List, Some, true, slice_index}
use Rattle.markdown_base.specs.Forest.{Forest}
use Rattle.markdown_builder.specs.BuilderView.{BuilderView, with_items}
use Rattle.markdown_builder.specs.Shown.{Shown}
use Rattle.markdown_items.specs.declared.found.LineRange.{LineRange}
use Rattle.markdown_items.specs.declared.extensions.ItemSyntax.{ItemSyntax}
use Rattle.markdown_items.specs.ContentItems.{items_read_from}
use Rattle.markdown_items.specs.LineItems.{is_special}

-- where a line's content that ends at `end` is read on directly after the run appended last, another character is there
abbrev pub RunIsOver : ℕ → BuilderView → ℕ → Type 0
RunIsOver end view at =
    (byte : ℕ) → view.run ≡ Some byte → view.at ≡ at → at < end → slice_index view.text at ≢ byte

-- the run appended last, if no item followed it, is of a special byte
abbrev pub HasSpecialRun : ItemSyntax → BuilderView → Type 0
HasSpecialRun extensions view =
    (byte : ℕ) → view.run ≡ Some byte → is_special extensions.dashes byte ≡ true

-- with the items that are read from a byte offset on, all of a line's items are made
pub record AwaitsRest (line : LineRange) (all : List (Forest Shown)) (view : BuilderView) (at : ℕ) : Type 0 where
  pub steps : ℕ
  pub enough : line.end - at < steps
  pub rest : with_items view.levels (items_read_from steps view.text line view.at at) ≡ all
  pub over : RunIsOver line.end view at
