-- Blocks with some of the containers on their right edge apart: those that are open while a line is read. To close a
-- container is to forget that it is open: the blocks are the same.
use Rattle.std.specs.Prelude.{◌≡◌, ℕ, ◌-◌, Bool, true, false, not, ◌&&◌, List, [], ◌∷◌, Option, Some, None, length}
use Rattle.std.specs.Prelude.{nat_lt, if◌then◌else◌}
use Rattle.std.specs.Option.{option_map}
use Rattle.markdown_base.specs.Forest.{Forest, nil, node}
use Rattle.markdown_base.specs.Source.{Source}
use Rattle.markdown_scan.specs.ContainerParts.{past_footnote, past_indent, past_quote}
use Rattle.markdown_lines.specs.SourceLines.{SourceLine, is_blank_rest, rest_inside}
use Rattle.markdown_builder.specs.TreeLevels.{followed_by}
use Rattle.markdown_block_rules.specs.BlockGrowth as was
use Rattle.markdown_block_rules.specs.BlockGrowth.{Block, Kind, goes_on, is_nil}
use Rattle.markdown_block_rules.specs.BlockGrowth.{with_lazy}

-- an open container, and the blocks before it
pub record Frame : Type 0 where
  pub before : Forest Block
  pub block : Block

-- an open container that goes on in a line
abbrev pub touched : SourceLine → Frame → Frame
touched l f = record f { block = record f.block { last = l.next } }

-- a container that is closed, with what is in it, after the blocks before it
abbrev pub forgotten : Frame → Forest Block → Forest Block
forgotten f inside = followed_by f.before (node f.block inside nil)

-- open containers, the innermost first, with these blocks in the innermost
abbrev pub rebuilt : List Frame → Forest Block → Forest Block
rebuilt [] inside = inside
rebuilt (f ∷ outer) inside = rebuilt outer (forgotten f inside)

-- the kind is that of a list
abbrev pub is_list : Kind → Bool
is_list (was.list_container marker) = true
is_list other = false

-- the kind is that of a list item
abbrev pub is_item : Kind → Bool
is_item (was.item_container indent) = true
is_item other = false

-- the kind is that of a block quote
abbrev pub is_quote : Kind → Bool
is_quote was.quote_container = true
is_quote (was.alert_container kind) = true
is_quote other = false

-- the kind is that of a container
abbrev pub IsContainer : Kind → Type 0
IsContainer was.quote_container = Unit
IsContainer (was.alert_container kind) = Unit
IsContainer (was.list_container marker) = Unit
IsContainer (was.item_container indent) = Unit
IsContainer (was.footnote_container label) = Unit
IsContainer other = ⊥

-- open blocks are containers
abbrev pub AreContainers : List Frame → Type 0
AreContainers [] = Unit
AreContainers (f ∷ frames) = IsContainer f.block.kind × AreContainers frames

-- the innermost open container passes a test of its kind
abbrev pub innermost_is : (Kind → Bool) → List Frame → Bool
innermost_is test [] = false
innermost_is test (f ∷ outer) = test f.block.kind

-- directly in a list there are items, and nowhere else
abbrev pub AreNested : List Frame → Type 0
AreNested [] = Unit
AreNested (f ∷ outer) = (innermost_is is_list outer ≡ is_item f.block.kind) × AreNested outer

-- the outermost of some open containers, up to a number of them
abbrev pub outer_within : ℕ → List Frame → List Frame
outer_within depth [] = []
outer_within depth (f ∷ outer) = if nat_lt (length outer) depth then f ∷ outer else outer_within depth outer

-- the blocks in the innermost of these, once the others are closed
abbrev pub closed_in : ℕ → List Frame → Forest Block → Forest Block
closed_in depth [] inside = inside
closed_in depth (f ∷ outer) inside =
    if nat_lt (length outer) depth then inside else closed_in depth outer (forgotten f inside)

-- the number of the open containers that a block that is no item may begin in: the outermost `depth`, without the
-- innermost of them where that is a list
abbrev pub room_depth : ℕ → List Frame → ℕ
room_depth depth frames = if innermost_is is_list (outer_within depth frames) then depth - 1 else depth

-- What is left of a line in a container, after what that takes of it, where it goes on in the line; it may be empty so
-- far. A list takes nothing, and goes on as long as its last item does, or another one follows.
abbrev pub inside_container : Source → SourceLine → (empty : Bool) → Kind → Option SourceLine
inside_container s l empty (was.item_container indent) =
    if is_blank_rest l && empty then None else option_map (λ rest. rest_inside rest l) (past_indent indent l.left)
inside_container s l empty (was.footnote_container label) =
    if is_blank_rest l && s.syntax.old_footnotes then None
    else option_map (λ rest. rest_inside rest l) (past_footnote (not s.syntax.old_footnotes) l.left)
inside_container s l empty was.quote_container = option_map (λ rest. rest_inside rest l) (past_quote l.left)
inside_container s l empty (was.alert_container kind) = option_map (λ rest. rest_inside rest l) (past_quote l.left)
inside_container s l empty other = Some l

-- Blocks go on in no line, lazily neither: the last one, if there is one, is a leaf that has ended.
abbrev pub AreOver : Source → Forest Block → Type 0
AreOver s blocks = (l : SourceLine) → (goes_on s blocks l ≡ None) × (with_lazy l blocks ≡ None)

-- how far open containers go on in a line: those that do, the others, and what is left of the line inside the former
pub record Reached : Type 0 where
  pub outer : List Frame
  pub inner : List Frame
  pub rest : SourceLine

-- what is reached with the innermost of those that go on, by what is left of the line in it, if it goes on
abbrev pub reached_past : Frame → Reached → Option SourceLine → Reached
reached_past f r None = record r { inner = f ∷ [] }
reached_past f r (Some rest) = record { outer = f ∷ r.outer; inner = []; rest = rest }

-- what is reached with one container more, which may be empty, by those that do not go on around it
abbrev pub reached_in : Source → Frame → (empty : Bool) → Reached → List Frame → Reached
reached_in s f empty r [] = reached_past f r (inside_container s r.rest empty f.block.kind)
reached_in s f empty r (g ∷ inner) = record r { inner = f ∷ g ∷ inner }

-- The open containers that go on in a line, with these blocks in the innermost: each that takes its part of the line,
-- and around which all do.
unfoldable pub reached : Source → List Frame → Forest Block → SourceLine → Reached
reached s [] inside l = record { outer = []; inner = []; rest = l }
reached s (f ∷ outer) inside l =
    let r = reached s outer (forgotten f inside) l in reached_in s f (is_nil inside) r r.inner
