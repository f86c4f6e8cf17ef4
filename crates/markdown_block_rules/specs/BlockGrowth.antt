-- The blocks of a document, line by line. A tree of blocks takes one line more: the last block goes on in it, or a
-- block begins, or the line is blank (CommonMark, chapters 4 and 5, and the appendix on parsing, phase 1). Nothing is
-- known of the tree but the tree: the blocks that are open are those on its right edge.
use Rattle.std.specs.Prelude.{ℕ, zero, suc, Bool, true, false, not, ◌==◌, ◌&&◌, ◌||◌, nat_lt, List, [], ◌∷◌}
use Rattle.std.specs.Prelude.{◌+◌, ◌++◌, nat_le, Option, Some, None, length, unwrap_or, codes, if◌then◌else◌}
use Rattle.std.specs.List.{fold}
use Rattle.std.specs.Option.{option_map, option_or}
use Rattle.markdown_base.specs.Forest.{Forest, nil, node}
use Rattle.markdown_lines.specs.declared.atx_heading.AtxHeading.{AtxHeading}
use Rattle.markdown_lines.specs.declared.fence.Fence.{Fence}
use Rattle.markdown_lines.specs.declared.fence.OpeningFence.{OpeningFence}
use Rattle.markdown_lines.specs.declared.html_kind.HtmlKind.{HtmlKind}
use Rattle.markdown_lines.specs.declared.list_marker.ListMarker.{ListMarker}
use Rattle.markdown_base.specs.declared.tag.Alignment.{Alignment}
use Rattle.markdown_base.specs.declared.tag.BlockQuoteKind.{BlockQuoteKind}
use Rattle.markdown_base.specs.declared.tag.HeadingLevel.{HeadingLevel}
use Rattle.markdown_base.specs.declared.tag.MetadataBlockKind.{MetadataBlockKind}
use Rattle.markdown_lines.specs.declared.block_start.Before.TheVariants as paragraph
use Rattle.markdown_lines.specs.BlockBeginnings as line
use Rattle.markdown_base.specs.Source.{Source}
use Rattle.markdown_lines.specs.BlockBeginnings.{Beginning, begins, break_in_line, first_found, item_in_line}
use Rattle.markdown_lines.specs.CodeFences.{closes_fence}
use Rattle.markdown_lines.specs.DefinitionRules.{divided}
use Rattle.markdown_scan.specs.ContainerParts.{past_footnote, past_indent, past_quote}
use Rattle.markdown_scan.specs.Entity.{entity_names}
use Rattle.markdown_lines.specs.HtmlKinds.{ends_at_blank, ends_in}
use Rattle.markdown_scan.specs.LineStart.{LineLeft, leading_space}
use Rattle.markdown_lines.specs.MetadataBlocks.{closes_metadata}
use Rattle.markdown_lines.specs.SourceLines.{SourceLine, cut, is_blank_rest, lines_of_text, past_white, rest_inside}
use Rattle.markdown_lines.specs.SourceLines.{end_of_line, stop_of, text_line}
use Rattle.markdown_block_rules.specs.TableLines.{all_added, alignments_for, further_line, is_row, most_added}
use Rattle.markdown_block_rules.specs.TableLines.{reads_tables}
use Rattle.markdown_builder.specs.TreeLevels.{followed_by}

-- what a block is; a blank line is kept where it is, since it may separate blocks
pub data Kind : Type 0 where
  blank_line : Kind
  paragraph_leaf : List SourceLine → Kind
  underlined_leaf : HeadingLevel → List SourceLine → Kind
  heading_leaf : AtxHeading → Kind
  break_leaf : Kind
  indented_leaf : List SourceLine → Kind
  -- whether it is closed
  fenced_leaf : OpeningFence → Bool → List SourceLine → Kind
  html_leaf : HtmlKind → Bool → List SourceLine → Kind
  metadata_leaf : MetadataBlockKind → Bool → List SourceLine → Kind
  -- whether it is ended, its head, the alignments of its columns, and its rows
  table_leaf : Bool → SourceLine → List Alignment → List SourceLine → Kind
  quote_container : Kind
  alert_container : BlockQuoteKind → Kind
  list_container : ListMarker → Kind
  item_container : ℕ → Kind
  footnote_container : List ℕ → Kind

-- a block: the byte offsets at which it begins, and at which its first and its last line end
pub record Block : Type 0 where
  pub start : ℕ
  pub first : ℕ
  pub last : ℕ
  pub kind : Kind

abbrev pub is_nil : {A : Type 0} → Forest A → Bool
is_nil nil = true
is_nil (node a below after) = false

-- a block that begins with a line at a byte offset, with these blocks inside
abbrev pub new_block : ℕ → SourceLine → Kind → Forest Block → Forest Block
new_block start l kind below =
    node (record { start = start; first = l.next; last = l.next; kind = kind }) below nil

-- the byte offset of the first byte of a line that is not white space
abbrev pub content_of : SourceLine → ℕ
content_of l = (past_white l.left).scanned

-- a line that is not blank ends an HTML block of this kind
abbrev pub ends_html : HtmlKind → SourceLine → Bool
ends_html kind l = ends_in kind l.left.bytes

-- a list item, where `inside` are the blocks that begin with the rest of a line
abbrev pub new_item : (LineLeft → Forest Block) → SourceLine → ℕ → LineLeft → Forest Block
new_item inside l indent rest = new_block (content_of l) l (item_container indent) (inside rest)

-- the paragraph that may begin after the marker of an alert: nothing is left of its first line
abbrev pub after_alert : SourceLine → Forest Block
after_alert l = new_block (stop_of l) l (paragraph_leaf (end_of_line l ∷ [])) nil

-- the block that a line begins
abbrev pub new_blocks : (LineLeft → Forest Block) → SourceLine → Beginning → Forest Block
new_blocks inside l (line.begins_indented rest) =
    new_block rest.scanned l (indented_leaf (record l { left = rest } ∷ [])) nil
new_blocks inside l (line.begins_quote rest) = new_block (content_of l) l quote_container (inside rest)
new_blocks inside l (line.begins_alert kind) = new_block (content_of l) l (alert_container kind) (after_alert l)
new_blocks inside l (line.begins_heading found) = new_block (content_of l) l (heading_leaf found) nil
new_blocks inside l (line.begins_fence opening) = new_block (content_of l) l (fenced_leaf opening false []) nil
new_blocks inside l (line.begins_html kind) =
    new_block (content_of l) l (html_leaf kind (ends_html kind l) (l ∷ [])) nil
new_blocks inside l (line.begins_footnote label rest) =
    new_block (content_of l) l (footnote_container label) (inside rest)
new_blocks inside l line.begins_break = new_block (content_of l) l break_leaf nil
new_blocks inside l (line.begins_item marker indent rest) =
    new_block (content_of l) l (list_container marker) (new_item inside l indent rest)
new_blocks inside l (line.begins_metadata kind) = new_block (content_of l) l (metadata_leaf kind false []) nil
new_blocks inside l other = new_block (content_of l) l (paragraph_leaf (text_line l ∷ [])) nil

-- the blocks that begin with the rest of a line: none where it is blank
abbrev pub inside_of : (SourceLine → Forest Block) → SourceLine → LineLeft → Forest Block
inside_of begun l rest =
    if is_blank_rest (rest_inside rest l) then nil else begun (rest_inside rest l)

-- the blocks that begin with a line that is not blank, containers in containers at most `n` deep
unfoldable pub begun_in : ℕ → Source → SourceLine → Forest Block
begun_in zero s l = nil
begun_in (suc n) s l = new_blocks (inside_of (begun_in n s) l) l (begins s paragraph.NoParagraph l)

-- the blocks that begin with a line that is not blank: each container takes at least one byte
abbrev pub begun_by : Source → SourceLine → Forest Block
begun_by s l = begun_in (suc (length l.left.bytes)) s l

-- a line as a block: what begins with it, or a blank line
abbrev pub line_block : Source → SourceLine → Forest Block
line_block s l = if is_blank_rest l then new_block l.left.scanned l blank_line nil else begun_by s l

-- a fence closes a code block, after at most three columns of space
abbrev pub closes : Source → SourceLine → Fence → Bool
closes s l opening =
    let space = leading_space 4 l.left in
    nat_lt space.columns 4 && closes_fence s.text space.after.scanned (stop_of l) opening

-- a paragraph with one more line, where that is text
abbrev pub paragraph_with_text : Source → SourceLine → List SourceLine → Beginning → Option Kind
paragraph_with_text s l lines line.begins_text = Some (paragraph_leaf (lines ++ further_line s l ∷ []))
paragraph_with_text s l lines other = None

-- what a line that reaches a paragraph begins where it is no underline: a thematic break, an item that may interrupt a
-- paragraph, or text
abbrev pub begins_but_underline : Source → SourceLine → Beginning
begins_but_underline s l =
    let space = leading_space 4 l.left in
    first_found (break_in_line space.after ∷ item_in_line s paragraph.Reached space.columns space.after ∷ [])

-- a paragraph with one more line, where that begins nothing else: as text, or as the heading that its underline makes
-- of it. Where the paragraph holds definitions only, there is nothing that a line could underline.
abbrev pub paragraph_with : Source → SourceLine → List SourceLine → Beginning → Option Kind
paragraph_with s l lines (line.begins_underline level) =
    if length (divided (entity_names s.syntax) s.text lines).lines == 0
    then paragraph_with_text s l lines (begins_but_underline s l) else Some (underlined_leaf level lines)
paragraph_with s l lines other = paragraph_with_text s l lines other

-- a leaf with one more line, where it goes on in it
abbrev pub leaf_with : Source → SourceLine → Kind → Option Kind
leaf_with s l (paragraph_leaf lines) =
    if is_blank_rest l then None else paragraph_with s l lines (begins s paragraph.Reached l)
leaf_with s l (indented_leaf lines) =
    if is_blank_rest l || ((leading_space 4 l.left).columns == 4) then Some (indented_leaf (lines ++ cut 4 l ∷ []))
    else None
leaf_with s l (fenced_leaf opening closed lines) =
    if closed then None
    else if closes s l opening.fence then Some (fenced_leaf opening true lines)
    else Some (fenced_leaf opening false (lines ++ cut opening.fence.indent l ∷ []))
leaf_with s l (html_leaf kind closed lines) =
    if closed || (is_blank_rest l && ends_at_blank kind) then None
    else Some (html_leaf kind (ends_html kind l) (lines ++ l ∷ []))
leaf_with s l (metadata_leaf kind closed lines) =
    if closed then None
    else if closes_metadata kind l.left.bytes then Some (metadata_leaf kind true lines)
    else Some (metadata_leaf kind false (lines ++ l ∷ []))
leaf_with s l (table_leaf ended head alignments rows) =
    if ended || is_blank_rest l || not (is_row s (text_line l)) then None
    else Some (table_leaf false head alignments (rows ++ text_line l ∷ []))
leaf_with s l other = None

-- the lines of a paragraph before a table's head, of which the last ends at a byte offset
abbrev pub cut_paragraph : Block → ℕ → List SourceLine → Forest Block
cut_paragraph b end [] = nil
cut_paragraph b end (l ∷ lines) = node (record b { last = end; kind = paragraph_leaf (l ∷ lines) }) nil nil

-- a table with these alignments, after the lines before it; nothing where there are no alignments
abbrev pub table_after : SourceLine → Forest Block → SourceLine → Option (List Alignment) → Option (Forest Block)
table_after l before head None = None
table_after l before head (Some alignments) = Some (followed_by before (node (record {
  start = head.left.scanned;
  first = head.next;
  last = l.next;
  kind = table_leaf false head alignments [];
}) nil nil))

-- The last of some lines as the head of a table, of which a line is the delimiter row; `before` are the lines before
-- these, and the last of those ends at `end`.
abbrev pub table_of_lines : Source → SourceLine → Block → (end : ℕ) → (before lines : List SourceLine)
    → Option (Forest Block)
table_of_lines s l b end before [] = None
table_of_lines s l b end before (head ∷ []) =
    table_after l (cut_paragraph b end before) head (alignments_for s l before head)
table_of_lines s l b end before (first ∷ next ∷ lines) =
    table_of_lines s l b first.next (before ++ first ∷ []) (next ∷ lines)

-- a paragraph that a line makes end with a table, as its delimiter row
abbrev pub table_with : Source → SourceLine → Block → Kind → Option (Forest Block)
table_with s l b (paragraph_leaf lines) =
    if is_blank_rest l || not (reads_tables s) then None else table_of_lines s l b b.first [] lines
table_with s l b other = None

abbrev pub with_lazy_text : SourceLine → Block → Forest Block → Kind → Option (Forest Block)
with_lazy_text l b below (paragraph_leaf lines) =
    Some (node (record b { last = l.next; kind = paragraph_leaf (lines ++ text_line l ∷ []) }) below nil)
with_lazy_text l b below other = None

-- the last block's paragraph, at any depth, with a lazy continuation line (5.1); none where it does not end with one
unfoldable pub with_lazy : SourceLine → Forest Block → Option (Forest Block)
with_lazy l nil = None
with_lazy l (node b below after) =
    if is_nil after
    then option_or (with_lazy_text l b below b.kind)
    (option_map (λ f. node (record b { last = l.next }) f nil) (with_lazy l below))
    else option_map (node b below) (with_lazy l after)

abbrev pub is_text : Beginning → Bool
is_text line.begins_text = true
is_text other = false

-- what is in a container, with a line that lacks the container's prefix
abbrev pub lazily : Source → SourceLine → Forest Block → Option (Forest Block)
lazily s l below =
    if not (is_blank_rest l) && is_text (begins s paragraph.Lazy l) then with_lazy l below else None

-- What is in a container, with one more line, from the rest of the line inside it; `inside` is what is in it where its
-- last block goes on.
abbrev pub with_rest : Source → SourceLine → Forest Block → (SourceLine → Option (Forest Block)) → Option LineLeft
    → Option (Forest Block)
with_rest s l below inside None = lazily s l below
with_rest s l below inside (Some rest) =
    Some (unwrap_or (inside (rest_inside rest l)) (followed_by below (line_block s (rest_inside rest l))))

-- another item of a list, where a line begins one of its kind
abbrev pub another_item : Source → SourceLine → ListMarker → Beginning → Option (Forest Block)
another_item s l marker (line.begins_item found indent rest) =
    if found.character == marker.character then Some (new_item (inside_of (begun_by s) l) l indent rest) else None
another_item s l marker other = None

-- the items of a list with a line in which the last item does not go on; a blank line is after an empty item
abbrev pub next_item : Source → SourceLine → ListMarker → Option (Forest Block)
next_item s l marker =
    if is_blank_rest l then Some (line_block s l) else another_item s l marker (begins s paragraph.Lazy l)

-- What is in a container, with one more line, where the container goes on in it. An item that is empty so far ends
-- before a blank line, and so does a footnote definition in the old style.
abbrev pub container_with : Source → SourceLine → Forest Block → (SourceLine → Option (Forest Block)) → Kind
    → Option (Forest Block)
container_with s l below inside quote_container = with_rest s l below inside (past_quote l.left)
container_with s l below inside (alert_container kind) = with_rest s l below inside (past_quote l.left)
container_with s l below inside (list_container marker) =
    option_or (inside l) (option_map (followed_by below) (next_item s l marker))
container_with s l below inside (item_container indent) =
    if is_blank_rest l && is_nil below then None else with_rest s l below inside (past_indent indent l.left)
container_with s l below inside (footnote_container label) =
    if is_blank_rest l && s.syntax.old_footnotes then None
    else with_rest s l below inside (past_footnote (not s.syntax.old_footnotes) l.left)
container_with s l below inside other = None

-- one block with one more line, where it goes on in it
abbrev pub block_with : Source → SourceLine → Block → Forest Block → (SourceLine → Option (Forest Block))
    → Option (Forest Block)
block_with s l b below inside =
    option_or (table_with s l b b.kind)
    (option_or (option_map (λ kind. node (record b { last = l.next; kind = kind }) below nil) (leaf_with s l b.kind))
    (option_map (λ f. node (record b { last = l.next }) f nil) (container_with s l below inside b.kind)))

-- blocks with one more line, where the last of them goes on in it
unfoldable pub goes_on : Source → Forest Block → SourceLine → Option (Forest Block)
goes_on s nil l = None
goes_on s (node b below after) l =
    if is_nil after then block_with s l b below (goes_on s below)
    else option_map (node b below) (goes_on s after l)

-- blocks with one more line
abbrev pub with_line : Source → Forest Block → SourceLine → Forest Block
with_line s blocks l = unwrap_or (goes_on s blocks l) (followed_by blocks (line_block s l))

-- the cells that are added to the rows of a block, and of some blocks
abbrev pub added_in_block : Kind → ℕ
added_in_block (table_leaf ended head alignments rows) = all_added (length alignments) rows
added_in_block other = 0

abbrev pub added_in : Forest Block → ℕ
added_in nil = 0
added_in (node b below after) = added_in_block b.kind + (added_in below + added_in after)

abbrev pub table_ended : Kind → Kind
table_ended (table_leaf done head alignments rows) = table_leaf true head alignments rows
table_ended other = other

-- blocks of which the last, at any depth, is ended where it is a table
abbrev pub with_ended_table : Forest Block → Forest Block
with_ended_table nil = nil
with_ended_table (node b below after) =
    if is_nil after then node (record b { kind = table_ended b.kind }) (with_ended_table below) nil
    else node b below (with_ended_table after)

-- blocks that a line makes of others, or what they are where it is no row: a row adds no more cells to a text than may
-- be added
abbrev pub within_limit : Source → SourceLine → (before grown : Forest Block) → Forest Block
within_limit s l before grown =
    if nat_le (added_in grown) (most_added s.text) then grown else with_line s (with_ended_table before) l

-- blocks of a text with one more line of it
abbrev pub with_next_line : Source → Forest Block → SourceLine → Forest Block
with_next_line s blocks l =
    if reads_tables s then within_limit s l blocks (with_line s blocks l) else with_line s blocks l

-- the blocks of a text
abbrev pub blocks_of : Source → Forest Block
blocks_of s = fold (with_next_line s) nil (lines_of_text s.text)
