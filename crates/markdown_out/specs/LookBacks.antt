-- What the HTML of an event depends on in the events before it. Each look-back goes through these, of which the latest
-- is first. Events inside an image count only for the numbers of footnotes, and for where the image ends. Whether a
-- line is fresh depends on the bytes written: `EventHtml` defines it.
--
-- Each function below names the events that it looks for; its last clause is for all others, which change nothing. A
-- new event or tag belongs there unless it opens or closes an image, metadata, a table's head, row or cell, or names
-- a footnote.
use Rattle.std.specs.Prelude.{◌≤◌, ℕ, zero, suc, ◌+◌, ◌^◌, Bool, true, false, List, [], ◌∷◌, ◌++◌, if◌then◌else◌}
use Rattle.std.specs.Prelude.{reverse, Option, Some, None, nat_eq, IsSomeAnd}
use Rattle.std.specs.List.{list_any, position_or_len}
use Rattle.std.specs.Fmt.{decimal}
use Rattle.std.specs.Cmp.Lexicographic.{pointwise}
use Rattle.markdown_base.specs.Event.{EventView, start, end, footnote_reference, image, table, table_head, table_row}
use Rattle.markdown_base.specs.Event.{footnote_definition, metadata_block}
use Rattle.markdown_base.specs.declared.tag.Alignment.{Alignment}
use Rattle.markdown_base.specs.declared.tag.TagEnd.TheVariants as closes
use Rattle.markdown_out.specs.declared.html.rules.HtmlRules.{HtmlRules}

-- an image whose End has not come: the number of Starts inside it that have no End yet, and its title
pub record OpenImageView : Type 0 where
  pub starts : ℕ
  pub title : List ℕ

-- the image that is open after an event: an End inside an image ends the last open Start inside it, or, where there is
-- none, the image
abbrev pub image_after : Option OpenImageView → EventView → Option OpenImageView
image_after None (start (image i)) = Some (record { starts = 0; title = i.title })
image_after None e = None
image_after (Some i) (start tag) = Some (record { starts = suc i.starts; title = i.title })
image_after (Some i) (end tag) =
    elim i.starts [ zero ↦ None | suc starts ↦ Some (record { starts = starts; title = i.title }) ]
image_after (Some i) e = Some i

-- the image that is open after these events
abbrev pub image_before : List EventView → Option OpenImageView
image_before [] = None
image_before (e ∷ before) = image_after (image_before before) e

-- an event inside an image changes nothing
abbrev pub unless_inside : {A : Type 0} → (A → EventView → A) → Option OpenImageView → A → EventView → A
unless_inside after None told e = after told e
unless_inside after (Some i) told e = told

-- what these events tell, where each that is not inside an image changes what those before it tell
abbrev pub told_by : {A : Type 0} → (A → EventView → A) → (at_first : A) → List EventView → A
told_by after at_first [] = at_first
told_by after at_first (e ∷ before) = unless_inside after (image_before before) (told_by after at_first before) e

-- whether a metadata block is open after an event
abbrev pub metadata_after : Bool → EventView → Bool
metadata_after inside (start (metadata_block kind)) = true
metadata_after inside (end (closes.MetadataBlock kind)) = false
metadata_after inside e = inside

-- whether table cells belong to a head after an event
abbrev pub head_after : Bool → EventView → Bool
head_after head (start table_head) = true
head_after head (end closes.TableHead) = false
head_after head e = head

-- the column of the next cell after an event
abbrev pub cell_column_after : ℕ → EventView → ℕ
cell_column_after column (start table_head) = 0
cell_column_after column (start table_row) = 0
cell_column_after column (end closes.TableCell) = column + 1
cell_column_after column e = column

-- the alignments of the last table after an event
abbrev pub alignments_after : List Alignment → EventView → List Alignment
alignments_after last (start (table alignments)) = alignments
alignments_after last e = last

-- two names are equal
abbrev pub are_same_names : List ℕ → List ℕ → Bool
are_same_names = pointwise nat_eq

-- the position of a name among the names, or their number where it is new
abbrev pub place : List ℕ → List (List ℕ) → ℕ
place name names = position_or_len (are_same_names name) names

-- the names, followed by this one where it is new
abbrev pub with_name : List ℕ → List (List ℕ) → List (List ℕ)
with_name name names = if list_any (are_same_names name) names then names else names ++ name ∷ []

-- the names after an event, which may be inside an image
abbrev pub names_after : Option OpenImageView → List (List ℕ) → EventView → List (List ℕ)
names_after within names (footnote_reference name) = with_name name names
names_after None names (start (footnote_definition name)) = with_name name names
names_after within names e = names

-- the different names of footnotes, in the order of their first occurrence
abbrev pub names_before : List EventView → List (List ℕ)
names_before [] = []
names_before (e ∷ before) = names_after (image_before before) (names_before before) e

-- what the HTML of an event depends on: the rules, and what the events before it tell
pub record Past : Type 0 where
  -- the rules by which it is written
  pub rules : HtmlRules
  -- whether the line is fresh: what is written next counts as its beginning
  pub fresh : Bool
  -- whether a metadata block is open
  pub in_metadata : Bool
  -- whether table cells belong to a head: its Start came after the last End of one, or neither has come
  pub in_head : Bool
  -- the number of cells that have ended since the last Start of a head or a row
  pub column : ℕ
  -- the alignments of the last table's columns
  pub alignments : List Alignment
  -- the names of footnotes, in the order of their first occurrence
  pub names : List (List ℕ)
  -- the image whose End has not come, if there is one
  pub open_image : Option OpenImageView

-- the number of a footnote, in decimal: one more than the position of its name
abbrev pub footnote_number : Past → List ℕ → List ℕ
footnote_number past name = decimal (place name past.names + 1)

-- more than 2^64 - 1 Starts have no End yet in the image that is open after these events
abbrev pub IsTooDeep : List EventView → Type 0
IsTooDeep events = IsSomeAnd (image_before (reverse events)) (λ i. 2 ^ 64 ≤ i.starts)
