-- Containers (CommonMark 5.1, 5.2, and footnote definitions): how they continue in a line, and where they end. A line
-- is represented by its rest, in bytes and in columns.
use Rattle.std.specs.Prelude.{◌≡◌, ℕ, ◌+◌, Bool, true, false, not, ◌&&◌, nat_le, List, [], ◌∷◌}
use Rattle.std.specs.Prelude.{Option, Some, None, slice_range, if◌then◌else◌}
use Rattle.std.specs.List.{prefix_len}
use Rattle.markdown_base.specs.declared.item.ItemBody.{ItemBody}
use Rattle.markdown_base.specs.declared.item.ItemBody.TheVariants as body
use Rattle.markdown_builder.specs.declared.open_block.OpenBlock.{OpenBlock}
use Rattle.markdown_scan.specs.ContainerParts.{past_part}
use Rattle.markdown_scan.specs.LineStart.{LineLeft}
use Rattle.markdown_lines.specs.declared.line.Line.{Line}
use Rattle.markdown_lines.specs.declared.position.Position.{Position}
use Rattle.markdown_lines.specs.Lines.{is_space_or_tab}
use Rattle.markdown_lines.specs.Positions.{left_from}
use Rattle.markdown_plain.specs.declared.containers.Reached.{Reached}
use Rattle.markdown_plain.specs.declared.pass.Pass.{Pass}
use Rattle.markdown_plain.specs.OpenBlocks.{innermost_is, is_quote}

-- the byte offset at which the innermost open block ends when it is closed: for a block quote, after the last line in
-- which it continued
abbrev pub closing_place : Pass → ℕ
closing_place pass =
    if innermost_is is_quote pass.placing.builder.blocks then pass.placed else pass.placing.builder.at

-- the rest of a line begins at a place of a text, where there is a rest
abbrev pub LeftAt : List ℕ → ℕ → Option LineLeft → Option Position → Type 0
LeftAt text stop left None = left ≡ None
LeftAt text stop left (Some position) = left ≡ Some (left_from text position stop)

-- an open container ends before a line, blank or not: an item that is empty so far ends before a blank one, and so does
-- a footnote definition in the old style
abbrev pub ends_before : (old empty blank : Bool) → ItemBody → Bool
ends_before old empty blank (body.ListItem indent) = blank && empty
ends_before old empty blank (body.FootnoteDefinition ix) = blank && old
ends_before old empty blank other = false

-- the rest after what an open container takes of a line, blank or not, if it continues in it
abbrev pub past_container : (old empty blank : Bool) → ItemBody → LineLeft → Option LineLeft
past_container old empty blank block left =
    if ends_before old empty blank block then None else past_part (not old) block left

-- the body is that of a container; lists count as such
abbrev pub is_container : ItemBody → Bool
is_container (body.BlockQuote kind) = true
is_container (body.List tight character first) = true
is_container (body.ListItem indent) = true
is_container (body.FootnoteDefinition ix) = true
is_container other = false

-- how far the open containers continue in a line
pub record Reach : Type 0 where
  -- the number of open blocks that continue
  pub depth : ℕ
  -- all open containers are among them
  pub all : Bool
  -- the rest of the line
  pub left : LineLeft
  -- the byte offset of the first byte of the rest that is not a space or tab
  pub content : ℕ
  -- the number of open blocks down to the innermost block quote that continues, with that included; 0 where there is
  -- none
  pub quoted : ℕ

-- the byte offset of the first byte of the rest that is not a space or tab
abbrev pub content_of : LineLeft → ℕ
content_of left = left.scanned + prefix_len is_space_or_tab left.bytes

-- what is reached with one more container, after which this is the rest
abbrev pub reach_after : ItemBody → LineLeft → Reach → Reach
reach_after block left reach = record {
  depth = reach.depth + 1;
  all = true;
  left = left;
  content = if is_quote block then content_of left else reach.content;
  quoted = if is_quote block then reach.depth + 1 else reach.quoted;
}

-- what is reached where the next container does not continue, or where it does and those inside it are examined
abbrev pub reach_past : (Reach → Reach) → ItemBody → Option LineLeft → Reach → Reach
reach_past inside block None reach = record reach { all = false }
reach_past inside block (Some left) reach = inside (reach_after block left reach)

-- there is no block inside
abbrev pub is_innermost : List OpenBlock → Bool
is_innermost [] = true
is_innermost (block ∷ blocks) = false

-- How far open blocks continue in a line whose content ends before `stop`, from what was reached outside them. `old` is
-- whether footnotes are in the old style, and `empty`, whether the item that was opened last is empty so far.
unfoldable pub reach_from : (old empty : Bool) (stop : ℕ) → List OpenBlock → Reach → Reach
reach_from old empty stop [] reach = reach
reach_from old empty stop (block ∷ blocks) reach =
    if not (is_container block.body) then reach
    else reach_past (reach_from old empty stop blocks) block.body
    (past_container old (is_innermost blocks && empty) (nat_le stop reach.content) block.body reach.left) reach

-- what is reached before any of the open blocks
abbrev pub reach_start : LineLeft → Reach
reach_start left = record { depth = 0; all = true; left = left; content = content_of left; quoted = 0 }

-- the rest of a line of which nothing is read yet
abbrev pub whole_line : List ℕ → Line → LineLeft
whole_line text line =
    record { scanned = line.start; owed = 0; column = 0; bytes = slice_range text line.start line.stop }

-- what was reached, with the rest of the line
abbrev pub reach_of : List ℕ → ℕ → Reached → Reach
reach_of text stop reached = record {
  depth = reached.depth;
  all = reached.all;
  left = left_from text reached.position stop;
  content = reached.content;
  quoted = reached.quoted;
}
