-- What items refer to by number: texts, links, the alignments of tables and the attributes of headings.
use Rattle.std.specs.Prelude.{ℕ, zero, suc, ◌-◌, List, [], ◌∷◌, Option, Some, None}
use Rattle.std.specs.declared.alloc.Global.{Global}
use Rattle.std.specs.declared.vec.Vec.{Vec}
use Rattle.markdown_base.specs.CowText.{text_of}
use Rattle.markdown_base.specs.Event.{LinkView, HeadingView, link_view}
use Rattle.markdown_base.specs.HeadingWords.{words_of, worded_heading}
use Rattle.markdown_base.specs.declared.block_parts.BlockParts.{BlockParts}
use Rattle.markdown_base.specs.declared.block_parts.HeadingAttributes.{HeadingAttributes}
use Rattle.markdown_base.specs.declared.cow_str.CowStr.{CowStr}
use Rattle.markdown_base.specs.declared.index.HeadingIndex.{HeadingIndex}
use Rattle.markdown_base.specs.declared.tag.Alignment.{Alignment}
use Rattle.markdown_base.specs.declared.tag.HeadingLevel.{HeadingLevel}
use Rattle.markdown_base.specs.declared.tag.LinkType.TheVariants.{ShortcutUnknown}
use Rattle.markdown_document.specs.LinkOrigins.{LinkOrigins, titles_for}
use Rattle.markdown_document.specs.Origins.{Origin, made, origin_of}
use Rattle.markdown_defs.specs.Allocations.{Allocated, LinkParts}

-- the entries that can be referred to
pub record Tables : Type 0 where
  pub cows : List CowStr
  pub links : List LinkParts
  pub alignments : List (Vec Alignment Global)
  pub headings : List HeadingAttributes

-- the entries that are held
abbrev pub tables_of : Allocated → Tables
tables_of held = record { cows = held.cows; links = held.links; alignments = held.alignments; headings = held.headings }

-- the entries of a block result, which has no links
abbrev pub tables_at_start : BlockParts → Tables
tables_at_start parts = record {
  cows = parts.cows.items;
  links = [];
  alignments = parts.alignments.items;
  headings = parts.headings.items;
}

-- no entries
abbrev pub no_tables : Tables
no_tables = record { cows = []; links = []; alignments = []; headings = [] }

-- the text with this number
abbrev pub text_at : List CowStr → ℕ → List ℕ
text_at [] ix = []
text_at (c ∷ cows) zero = text_of c
text_at (c ∷ cows) (suc ix) = text_at cows ix

-- the link with this number
abbrev pub link_at : List LinkParts → ℕ → LinkView
link_at [] ix = record { kind = ShortcutUnknown; destination = []; title = []; label = [] }
link_at (l ∷ links) zero = link_view l
link_at (l ∷ links) (suc ix) = link_at links ix

-- the origins of a link's destination and title
abbrev pub link_origins : LinkParts → LinkOrigins
link_origins link = record { destination = origin_of link.1; title = origin_of link.2 }

-- the origins of the destination and the title of the link with this number
abbrev pub link_origins_at : List LinkParts → ℕ → LinkOrigins
link_origins_at [] ix = record { destination = made; title = made }
link_origins_at (l ∷ links) zero = link_origins l
link_origins_at (l ∷ links) (suc ix) = link_origins_at links ix

-- the origin of the title of the link with this number, if the link is inline
abbrev pub titles_at : List LinkParts → ℕ → List Origin
titles_at links ix = titles_for (link_at links ix).kind (link_origins_at links ix).title

-- the alignments with this number
abbrev pub alignments_at : List (Vec Alignment Global) → ℕ → List Alignment
alignments_at [] ix = []
alignments_at (a ∷ alignments) zero = a.items
alignments_at (a ∷ alignments) (suc ix) = alignments_at alignments ix

-- a heading without attributes
abbrev pub plain_heading : HeadingLevel → HeadingView
plain_heading level = record { level = level; id = None; classes = []; attributes = [] }

-- a heading with the attributes that follow it in braces: an id, classes, and others, each with its value if it has one
abbrev pub heading_with : HeadingLevel → HeadingAttributes → HeadingView
heading_with level a = worded_heading level (words_of a)

-- a heading with the attributes at this position of the table, from 0
abbrev pub heading_at : HeadingLevel → List HeadingAttributes → ℕ → HeadingView
heading_at level [] n = plain_heading level
heading_at level (a ∷ headings) zero = heading_with level a
heading_at level (a ∷ headings) (suc n) = heading_at level headings n

-- a heading with the attributes that it refers to, which are numbered from 1, or with none
abbrev pub heading_for : HeadingLevel → List HeadingAttributes → Option HeadingIndex → HeadingView
heading_for level headings None = plain_heading level
heading_for level headings (Some ix) = heading_at level headings (ix.0 - 1)
