-- Stored definitions, without the memory that holds their texts.
use Rattle.std.specs.Prelude.{ℕ, List}
use Rattle.markdown_base.specs.BlockParts.{definition_view}
use Rattle.markdown_base.specs.declared.block_parts.LinkDef.{LinkDef}
use Rattle.markdown_defs.specs.Definitions.{Labelled}
use Rattle.markdown_defs.specs.DefinitionsLeft.{with_text}
use Rattle.markdown_records.specs.RecordEntry.{LabelledView}

-- a definition with the text of its label
abbrev pub worded_view : List ℕ × LinkDef → LabelledView
worded_view d = record { label = d.0; definition = definition_view d.1 }

-- a stored one
abbrev pub labelled_view : Labelled → LabelledView
labelled_view d = worded_view (with_text d)
