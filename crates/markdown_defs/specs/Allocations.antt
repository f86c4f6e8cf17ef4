-- What allocations hold, by the numbers that were assigned.
use Rattle.std.specs.Prelude.{List}
use Rattle.std.specs.declared.alloc.Global.{Global}
use Rattle.std.specs.declared.vec.Vec.{Vec}
use Rattle.markdown_base.specs.declared.block_parts.HeadingAttributes.{HeadingAttributes}
use Rattle.markdown_base.specs.declared.cow_str.CowStr.{CowStr}
use Rattle.markdown_base.specs.declared.tag.Alignment.{Alignment}
use Rattle.markdown_base.specs.declared.tag.LinkType.{LinkType}
use Rattle.markdown_defs.specs.Definitions.{Labelled}
use Rattle.markdown_defs.specs.declared.footnotes.FootnoteDefs.{FootnoteDefs}

-- a link's type, destination, title and id
abbrev pub LinkParts : Type 0
LinkParts = LinkType × CowStr × CowStr × CowStr

-- what was added, in order, and what is looked up by labels and names
pub record Allocated : Type 0 where
  -- the definitions that can be found
  pub refdefs : List Labelled
  pub footdefs : FootnoteDefs
  pub cows : List CowStr
  pub links : List LinkParts
  pub alignments : List (Vec Alignment Global)
  pub headings : List HeadingAttributes
