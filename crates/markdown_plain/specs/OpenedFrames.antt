-- Containers that are opened, and blocks that are appended in the innermost of the open ones.
use Rattle.std.specs.Prelude.{◌≡◌, ◌==◌, Bool, false, List, [], ◌∷◌, Option, Some, None, length}
use Rattle.std.specs.Prelude.{if◌then◌else◌}
use Rattle.markdown_base.specs.Forest.{Forest, nil}
use Rattle.markdown_base.specs.declared.tag.BlockQuoteKind.{BlockQuoteKind}
use Rattle.markdown_base.specs.Source.{Source}
use Rattle.markdown_lines.specs.declared.list_marker.ListMarker.{ListMarker}
use Rattle.markdown_block_rules.specs.BlockGrowth as was
use Rattle.markdown_block_rules.specs.BlockGrowth.{Block, Kind}
use Rattle.markdown_plain.specs.Frames.{Frame, closed_in, innermost_is, is_list, outer_within, room_depth}
use Rattle.markdown_plain.specs.Settled.{IsBuilt, IsLooseAs}
use Rattle.markdown_plain.specs.declared.pass.Pass.{Pass}

-- open containers with one more, in which nothing is yet, after the blocks in the innermost of them
abbrev pub with_frame : List Frame → Forest Block → Block → List Frame
with_frame frames inside b = record { before = inside; block = b } ∷ frames

-- the kind of a block quote, or of an alert
abbrev pub quote_kind : Option BlockQuoteKind → Kind
quote_kind None = was.quote_container
quote_kind (Some kind) = was.alert_container kind

-- the kind is that of a list which an item with a marker continues
abbrev pub is_list_for : ListMarker → Kind → Bool
is_list_for found (was.list_container marker) = found.character == marker.character
is_list_for found other = false

-- open containers with a list, which is put after another one where that is the innermost
abbrev pub with_list : Block → List Frame → Forest Block → List Frame
with_list list frames inside =
    let depth = room_depth (length frames) frames in
    with_frame (outer_within depth frames) (closed_in depth frames inside) list

-- open containers with an item: in the list that it continues, or else in a new one
abbrev pub with_item : ListMarker → (list item : Block) → List Frame → Forest Block → List Frame
with_item marker list item frames inside =
    if innermost_is (is_list_for marker) frames then with_frame frames inside item
    else with_frame (with_list list frames inside) nil item

-- nothing but these containers is open, the innermost of which is empty and no list, so that a block may begin in it
pub record MayOpen (s : Source) (pass : Pass) (frames : List Frame) : Type 0 where
  pub built : IsBuilt s pass.placing.builder frames nil
  pub loose : IsLooseAs pass.looseness frames nil
  pub lines : pass.lines.items ≡ []
  pub blanks : pass.blanks.items ≡ []
  pub free : innermost_is is_list frames ≡ false
