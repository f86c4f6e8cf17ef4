-- Link reference definitions for comparison: without the memory that holds their texts.
use Rattle.std.specs.Prelude.{ℕ, List, Option}
use Rattle.std.specs.Option.{option_map}
use Rattle.std.specs.declared.ops.Range.{Range}
use Rattle.markdown_base.specs.CowText.{text_of}
use Rattle.markdown_base.specs.declared.block_parts.LinkDef.{LinkDef}

-- a definition's destination, its title if it has one, and its source range in bytes
pub record DefinitionView : Type 0 where
  pub destination : List ℕ
  pub title : Option (List ℕ)
  pub span : Range ℕ

-- the view of a definition
abbrev pub definition_view : LinkDef → DefinitionView
definition_view d = record {
  destination = text_of d.dest;
  title = option_map text_of d.title;
  span = d.span;
}
