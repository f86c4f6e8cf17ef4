-- For private clauses: what is found in a line's content fits it, and the builder after it is appended.
use Rattle.std.specs.Prelude.{◌≡◌, ◌≢◌, ℕ, ◌+◌, ◌-◌, ◌<◌, ◌≤◌, true, nat_lt, List, [], ◌∷◌, ◌++◌, Option, Some, None}
use Rattle.std.specs.Prelude.{length, slice_index, encode_utf8, if◌then◌else◌}
use Rattle.std.specs.Str.{IsCharBoundary}
use Rattle.markdown_base.specs.Bytes.{backtick, exclamation_mark, open_bracket}
use Rattle.markdown_base.specs.Forest.{Forest}
use Rattle.markdown_base.specs.WellFormed.{is_delimiter}
use Rattle.markdown_builder.specs.Bodies.{mark_byte}
use Rattle.markdown_builder.specs.BuilderView.{BuilderView, IsRunOf, follows_run, with_items}
use Rattle.markdown_builder.specs.Shown.{Shown}
use Rattle.markdown_items.specs.Dashes.{dashes_for, dashes_in_utf8, ellipsis}
use Rattle.markdown_items.specs.declared.found.Found.{Found}
use Rattle.markdown_items.specs.declared.found.Found.TheVariants as found
use Rattle.markdown_items.specs.declared.found.LineRange.{LineRange}
use Rattle.markdown_items.specs.Found.{found_at}
use Rattle.markdown_items.specs.FoundItems.{found_items}
use Rattle.markdown_items.specs.FoundView.{found_view}
use Rattle.markdown_items.specs.LineItems.{is_special}
use Rattle.markdown_scan.specs.Entity.{text_in_utf8}

-- there is a special byte at an offset in a line's content
pub record IsAtSpecial (text : List ℕ) (line : LineRange) (at : ℕ) : Type 0 where
  pub start : IsCharBoundary text line.start
  pub begun : line.start ≤ at
  pub more : at < line.end
  pub end : IsCharBoundary text line.end
  pub special : is_special line.extensions.dashes (slice_index text at) ≡ true

-- an item may be appended at an offset: a leaf is open, what was appended ends before it, and a special byte is there
pub record MayAppendAt (view : BuilderView) (line : LineRange) (at : ℕ) : Type 0 where
  pub inside : view.leaf ≡ true
  pub placed : view.at ≤ at
  pub here : IsAtSpecial view.text line at

-- the offset at which to continue after what was found at an offset
abbrev pub next_after : ℕ → Found → ℕ
next_after at (found.Text next) = next
next_after at found.Escape = at + 2
next_after at (found.Mark mark) = at + 1
next_after at found.Image = at + 2
next_after at (found.Backticks stop) = stop
next_after at (found.EscapedBackticks stop) = stop
next_after at (found.Run stop flags) = stop
next_after at (found.Entity stop characters) = stop
next_after at (found.Dashes stop) = stop
next_after at found.Ellipsis = at + 3

-- one offset is after another, in a line's content that ends at `end`
pub record LiesFurther (end at next : ℕ) : Type 0 where
  pub past : at < next
  pub within : next ≤ end

-- what a builder requires of what is found at an offset in a line's content that ends at `end`
abbrev pub FoundFits : List ℕ → ℕ → ℕ → Found → Type 0
FoundFits text end at (found.Text next) = LiesFurther end at next
FoundFits text end at found.Escape = (at + 1 < end) × IsCharBoundary text (at + 1)
FoundFits text end at (found.Mark body) = mark_byte body ≡ Some (slice_index text at)
FoundFits text end at found.Image = (at + 1 < end) × (slice_index text at ≡ exclamation_mark)
    × (slice_index text (at + 1) ≡ open_bracket)
FoundFits text end at (found.Backticks stop) = LiesFurther end at stop × IsRunOf backtick text at stop
FoundFits text end at (found.EscapedBackticks stop) =
    LiesFurther end (at + 1) stop × IsRunOf backtick text (at + 1) stop × IsCharBoundary text (at + 1)
FoundFits text end at (found.Run stop flags) =
    LiesFurther end at stop × IsRunOf (slice_index text at) text at stop × (is_delimiter (slice_index text at) ≡ true)
    × (stop < end → slice_index text stop ≢ slice_index text at)
FoundFits text end at (found.Entity stop characters) =
    LiesFurther end at stop × IsCharBoundary text stop × (length (text_in_utf8 characters) ≤ 6)
FoundFits text end at (found.Dashes stop) =
    LiesFurther end at stop × IsCharBoundary text stop × (at + 2 ≤ stop)
FoundFits text end at found.Ellipsis = (at + 3 ≤ end) × IsCharBoundary text (at + 3)

-- the character of the run appended last, after the text up to an offset is appended: none if there is any such text
abbrev pub run_after_text : BuilderView → ℕ → Option ℕ
run_after_text view to = if nat_lt view.at to then None else view.run

-- the levels after the text before an offset and the item found there are appended
abbrev pub levels_after : BuilderView → LineRange → ℕ → Found → List (Forest Shown)
levels_after view line at f = with_items view.levels (found_items view.text line view.at at (found_view f))

-- the builder after the text before an offset and the item found there are appended; a run that directly continues the
-- one appended last becomes text
abbrev pub view_after : BuilderView → LineRange → ℕ → Found → BuilderView
view_after view line at (found.Text next) = view
view_after view line at found.Escape =
    record view { at = at + 1; run = run_after_text view at; levels = levels_after view line at found.Escape }
view_after view line at (found.Mark body) =
    record view { at = at + 1; run = None; levels = levels_after view line at (found.Mark body) }
view_after view line at found.Image =
    record view { at = at + 2; run = None; levels = levels_after view line at found.Image }
view_after view line at (found.Backticks stop) =
    record view { at = stop; run = None; levels = levels_after view line at (found.Backticks stop) }
view_after view line at (found.EscapedBackticks stop) =
    record view { at = stop; run = None; levels = levels_after view line at (found.EscapedBackticks stop) }
view_after view line at (found.Run stop flags) =
    if follows_run (run_after_text view at) (slice_index view.text at) then view
    else record view {
      at = stop;
      run = Some (slice_index view.text at);
      levels = levels_after view line at (found.Run stop flags);
    }
view_after view line at (found.Entity stop characters) = record view {
  at = stop;
  run = None;
  texts = view.texts ++ text_in_utf8 characters ∷ [];
  levels = levels_after view line at (found.Entity stop characters);
}
view_after view line at (found.Dashes stop) = record view {
  at = stop;
  run = None;
  texts = view.texts ++ dashes_in_utf8 (dashes_for (stop - at)) ∷ [];
  levels = levels_after view line at (found.Dashes stop);
}
view_after view line at found.Ellipsis = record view {
  at = at + 3;
  run = None;
  texts = view.texts ++ encode_utf8 ellipsis ∷ [];
  levels = levels_after view line at found.Ellipsis;
}

-- what begins at a byte offset is appended, after the text before it, and reading goes on after it
pub record AppendsFound (old : BuilderView) (line : LineRange) (at : ℕ) (new : BuilderView) (next : ℕ) : Type 0 where
  pub found : Found
  pub value : found_view found ≡ found_at line old.text at
  pub fits : FoundFits old.text line.end at found
  pub after : new ≡ view_after old line at found
  pub further : next ≡ next_after at found
