-- The texts of events, tags and definitions in order, and which of them a copy borrows.
use Rattle.std.specs.Prelude.{List, [], ◌∷◌, ◌++◌, Option, flat_map}
use Rattle.std.specs.Option.{option_to_list}
use Rattle.markdown_base.specs.StoredTexts.{IsBorrowed}
use Rattle.markdown_base.specs.declared.block_parts.LinkDef.{LinkDef}
use Rattle.markdown_base.specs.declared.cow_str.CowStr.{CowStr}
use Rattle.markdown_base.specs.declared.tag.CodeBlockKind.{CodeBlockKind}
use Rattle.markdown_base.specs.declared.tag.CodeBlockKind.TheVariants as code_block
use Rattle.markdown_base.specs.declared.tag.Tag.{Tag}
use Rattle.markdown_base.specs.declared.tag.Tag.TheVariants as opens
use Rattle.markdown_base.specs.declared.event.Event.{Event}
use Rattle.markdown_base.specs.declared.event.Event.TheVariants as step

-- there are as many copies as texts, and the copy of each slice of the source is such a slice
abbrev pub KeepsSlices : List CowStr → List CowStr → Type 0
KeepsSlices [] [] = Unit {0}
KeepsSlices (text ∷ texts) (copy ∷ copies) =
    (IsBorrowed text → IsBorrowed copy) × KeepsSlices texts copies
KeepsSlices [] (copy ∷ copies) = ⊥
KeepsSlices (text ∷ texts) [] = ⊥

-- an attribute's name, and its value if it has one
abbrev pub texts_of_attribute : CowStr × Option CowStr → List CowStr
texts_of_attribute attribute = attribute.0 ∷ option_to_list attribute.1

-- the texts of a heading: its id if it has one, its classes and its attributes
abbrev pub texts_of_heading : Option CowStr → List CowStr → List (CowStr × Option CowStr)
    → List CowStr
texts_of_heading id classes attributes =
    option_to_list id ++ (classes ++ flat_map texts_of_attribute attributes)

-- the info string of a fenced code block
abbrev pub texts_of_code_block : CodeBlockKind → List CowStr
texts_of_code_block code_block.Indented = []
texts_of_code_block (code_block.Fenced info) = info ∷ []

-- the texts of a tag
abbrev pub texts_of_tag : Tag → List CowStr
texts_of_tag (opens.Heading level id classes attributes) =
    texts_of_heading id classes.items attributes.items
texts_of_tag (opens.CodeBlock kind) = texts_of_code_block kind
texts_of_tag (opens.FootnoteDefinition name) = name ∷ []
texts_of_tag (opens.Link kind destination title label) = destination ∷ title ∷ label ∷ []
texts_of_tag (opens.Image kind destination title label) = destination ∷ title ∷ label ∷ []
texts_of_tag opens.Paragraph = []
texts_of_tag (opens.BlockQuote kind) = []
texts_of_tag opens.HtmlBlock = []
texts_of_tag (opens.List first) = []
texts_of_tag opens.Item = []
texts_of_tag opens.DefinitionList = []
texts_of_tag opens.DefinitionListTitle = []
texts_of_tag opens.DefinitionListDefinition = []
texts_of_tag (opens.Table alignments) = []
texts_of_tag opens.TableHead = []
texts_of_tag opens.TableRow = []
texts_of_tag opens.TableCell = []
texts_of_tag opens.Emphasis = []
texts_of_tag opens.Strong = []
texts_of_tag opens.Strikethrough = []
texts_of_tag opens.Superscript = []
texts_of_tag opens.Subscript = []
texts_of_tag (opens.MetadataBlock kind) = []

-- the texts of an event
abbrev pub texts_of_event : Event → List CowStr
texts_of_event (step.Start tag) = texts_of_tag tag
texts_of_event (step.Text text) = text ∷ []
texts_of_event (step.Code text) = text ∷ []
texts_of_event (step.InlineMath text) = text ∷ []
texts_of_event (step.DisplayMath text) = text ∷ []
texts_of_event (step.Html text) = text ∷ []
texts_of_event (step.InlineHtml text) = text ∷ []
texts_of_event (step.FootnoteReference name) = name ∷ []
texts_of_event (step.End tag) = []
texts_of_event step.SoftBreak = []
texts_of_event step.HardBreak = []
texts_of_event step.Rule = []
texts_of_event (step.TaskListMarker done) = []

-- a definition's destination, and its title if it has one
abbrev pub texts_of_definition : LinkDef → List CowStr
texts_of_definition d = d.dest ∷ option_to_list d.title
