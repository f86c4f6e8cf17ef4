-- The document of a text, by definition: the tree of its blocks, whose items hold what they refer to.
use Rattle.std.specs.Prelude.{ℕ, List, [], ◌∷◌, Option, Some, None, slice_range}
use Rattle.markdown_base.specs.Event.{HeadingView, heading, table}
use Rattle.markdown_base.specs.Forest.{Forest, relabelled}
use Rattle.markdown_base.specs.Item.{range_of}
use Rattle.markdown_base.specs.declared.cow_str.CowStr.{CowStr}
use Rattle.markdown_base.specs.declared.cow_str.CowStr.TheVariants.{Borrowed}
use Rattle.markdown_base.specs.declared.item.ItemBody.{ItemBody}
use Rattle.markdown_base.specs.declared.item.ItemBody.TheVariants as body
use Rattle.markdown_base.specs.declared.tag.Alignment.{Alignment}
use Rattle.markdown_block_rules.specs.BlockRules.{block_tree}
use Rattle.markdown_builder.specs.Shown.{Shown}
use Rattle.markdown_document.specs.Document.{Plain, Shape, block_of, enclosed, shape_of}
use Rattle.markdown_document.specs.Tables.{Tables, no_tables}
use Rattle.markdown_base.specs.Source.{Source}

-- bytes as the text of an event, wherever they are in memory
abbrev pub cow_of : List ℕ → CowStr
cow_of bytes = Borrowed (record { ref_ptr = (0, 0); now = bytes })

-- the text that an item refers to, as the first of its table
abbrev pub tables_for : Option (List ℕ) → Tables
tables_for None = no_tables
tables_for (Some text) = record no_tables { cows = cow_of text ∷ [] }

-- how a body reads with what it refers to: a text, a heading with attributes, or the alignments of a table
abbrev pub shape_with : Option (List ℕ) → Option HeadingView → List Alignment → List ℕ → ItemBody → Shape
shape_with text (Some view) alignments source b = enclosed (heading view) []
shape_with text None alignments source (body.Table ix) = enclosed (table alignments) []
shape_with text None alignments source other = shape_of (tables_for text) source other

-- the node of an item with what it refers to
abbrev pub node_shown : List ℕ → Shown → Plain
node_shown source a = record {
  note = tt;
  part = record {
    shape = shape_with a.text a.heading a.alignments (slice_range source a.item.start a.item.end) a.item.body;
    range = range_of a.item;
    block = block_of a.item.body;
  };
}

-- the document of a text
abbrev pub document_of : Source → Forest Plain
document_of s = relabelled (node_shown s.text) (block_tree s)
