-- What the calls of `Allocations` find and leave: entries that were assigned a number, one more entry, and an empty one
-- in the place of one that was taken.
use Rattle.std.specs.Prelude.{◌≡◌, ℕ, ◌<◌, ◌≤◌, List, [], ◌∷◌, ◌++◌, length, slice_set}
use Rattle.std.specs.declared.alloc.Global.{Global}
use Rattle.std.specs.declared.vec.Vec.{Vec}
use Rattle.markdown_base.specs.CowText.{text_of}
use Rattle.markdown_base.specs.declared.block_parts.BlockParts.{BlockParts}
use Rattle.markdown_base.specs.declared.block_parts.HeadingAttributes.{HeadingAttributes}
use Rattle.markdown_base.specs.declared.cow_str.CowStr.{CowStr}
use Rattle.markdown_base.specs.declared.index.AlignmentIndex.{AlignmentIndex}
use Rattle.markdown_base.specs.declared.index.CowIndex.{CowIndex}
use Rattle.markdown_base.specs.declared.index.HeadingIndex.{HeadingIndex}
use Rattle.markdown_base.specs.declared.index.LinkIndex.{LinkIndex}
use Rattle.markdown_base.specs.declared.tag.Alignment.{Alignment}
use Rattle.markdown_base.specs.declared.tag.LinkType.TheVariants.{ShortcutUnknown}
use Rattle.markdown_defs.specs.Definitions.{firsts, find_definition}
use Rattle.markdown_defs.specs.Footnotes.{footnote_at}
use Rattle.markdown_defs.specs.FootnoteCounts.{unused_at}
use Rattle.markdown_defs.specs.Allocations.{LinkParts, Allocated}

-- the number was assigned to a text
abbrev pub HasCow : Allocated → CowIndex → Type 0
HasCow held ix = ix.0 < length held.cows

-- the number was assigned to a link
abbrev pub HasLink : Allocated → LinkIndex → Type 0
HasLink held ix = ix.0 < length held.links

-- the number was assigned to a table's alignments
abbrev pub HasAlignment : Allocated → AlignmentIndex → Type 0
HasAlignment held ix = ix.0 < length held.alignments

-- the number was assigned to the attributes of a heading, counted from 1
abbrev pub HasHeading : Allocated → HeadingIndex → Type 0
HasHeading held ix = (1 ≤ ix.0) × (ix.0 ≤ length held.headings)

-- with one more text
abbrev pub with_cow : Allocated → CowStr → Allocated
with_cow held cow = record held { cows = held.cows ++ cow ∷ [] }

-- with one more link
abbrev pub with_link : Allocated → LinkParts → Allocated
with_link held link = record held { links = held.links ++ link ∷ [] }

-- with the alignments of one more table
abbrev pub with_alignment : Allocated → Vec Alignment Global → Allocated
with_alignment held alignment = record held { alignments = held.alignments ++ alignment ∷ [] }

-- with the attributes of one more heading
abbrev pub with_heading : Allocated → HeadingAttributes → Allocated
with_heading held heading = record held { headings = held.headings ++ heading ∷ [] }

-- a link with three empty texts
pub record IsEmptyLink (link : LinkParts) : Type 0 where
  pub kind : link.0 ≡ ShortcutUnknown
  pub destination : text_of link.1 ≡ []
  pub title : text_of link.2 ≡ []
  pub id : text_of link.3 ≡ []

-- an empty text is in the place of one text, and everything else is unchanged
pub record LeavesEmptyCow (old new : Allocated) (ix : CowIndex) : Type 0 where
  pub left : CowStr
  pub empty : text_of left ≡ []
  pub others : new ≡ record old { cows = slice_set old.cows ix.0 left }

-- an empty link is in the place of one link, and everything else is unchanged
pub record LeavesEmptyLink (old new : Allocated) (ix : LinkIndex) : Type 0 where
  pub left : LinkParts
  pub empty : IsEmptyLink left
  pub others : new ≡ record old { links = slice_set old.links ix.0 left }

-- an empty list is in the place of one table's alignments, and everything else is unchanged
pub record LeavesEmptyAlignment (old new : Allocated) (ix : AlignmentIndex) : Type 0 where
  pub left : Vec Alignment Global
  pub empty : left.items ≡ []
  pub others : new ≡ record old { alignments = slice_set old.alignments ix.0 left }

-- what is held initially: the parts of a block result, and no links
pub record HoldsParts (parts : BlockParts) (held : Allocated) : Type 0 where
  pub definitions : held.refdefs ≡ firsts parts.definitions.items
  -- so a key finds the first definition of the block result with its folding
  pub found : (key : List ℕ) → find_definition key held.refdefs ≡ find_definition key parts.definitions.items
  pub footnotes : (name : List ℕ) → footnote_at held.footdefs name ≡ unused_at parts.footnotes.items name
  pub cows : held.cows ≡ parts.cows.items
  pub links : held.links ≡ []
  pub alignments : held.alignments ≡ parts.alignments.items
  pub headings : held.headings ≡ parts.headings.items
