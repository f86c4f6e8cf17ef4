-- The JSON of the types of the code, by way of the views of their texts. Only private clauses cite this.
use Rattle.std.specs.Prelude.{ℕ, List, [], ◌∷◌, Option, map, codes}
use Rattle.std.specs.Option.{option_map}
use Rattle.markdown_base.specs.CowText.{text_of}
use Rattle.markdown_base.specs.Event.{HeadingView, LinkView, attribute_view}
use Rattle.markdown_base.specs.declared.cow_str.CowStr.{CowStr}
use Rattle.markdown_base.specs.declared.tag.CodeBlockKind.{CodeBlockKind}
use Rattle.markdown_base.specs.declared.tag.CodeBlockKind.TheVariants as code_block
use Rattle.markdown_base.specs.declared.tag.TagEnd.{TagEnd}
use Rattle.markdown_base.specs.declared.tag.TagEnd.TheVariants as closes
use Rattle.markdown_out.specs.ByteLists.{joined}
use Rattle.markdown_json.specs.Json.{string, variant, attribute_json}
use Rattle.markdown_json.specs.declared.heading.HeadingFields.{HeadingFields}
use Rattle.markdown_json.specs.declared.link.LinkFields.{LinkFields}

-- a range, from the digits of its ends
abbrev pub range_json : List ℕ → List ℕ → List ℕ
range_json start end = joined (codes ",{\"start\":" ∷ start ∷ codes ",\"end\":" ∷ end ∷ codes "}" ∷ [])

-- a text in any of its forms
abbrev pub text_json : CowStr → List ℕ
text_json text = string (text_of text)

-- an attribute of a heading
abbrev pub pair_json : CowStr × Option CowStr → List ℕ
pair_json attribute = attribute_json (attribute_view attribute)

-- the value of a code block's tag
abbrev pub code_block_json : CodeBlockKind → List ℕ
code_block_json code_block.Indented = codes "\"Indented\""
code_block_json (code_block.Fenced info) = variant (codes "Fenced") (text_json info)

-- the fields of a heading, with the bytes of their texts
abbrev pub heading_of : HeadingFields → HeadingView
heading_of h = record {
  level = h.level;
  id = option_map text_of h.id.now;
  classes = map text_of h.classes.now.items;
  attributes = map attribute_view h.attributes.now.items;
}

-- the fields of a link, with the bytes of their texts
abbrev pub link_of : LinkFields → LinkView
link_of l = record {
  kind = l.link_type;
  destination = l.dest_url.now;
  title = l.title.now;
  label = l.id.now;
}

-- an end without a value. A new one without a text in `fixed_end_text` is refused there.
abbrev pub IsFixedEnd : TagEnd → Type 0
IsFixedEnd (closes.Heading level) = ⊥
IsFixedEnd (closes.BlockQuote kind) = ⊥
IsFixedEnd (closes.List ordered) = ⊥
IsFixedEnd (closes.MetadataBlock kind) = ⊥
IsFixedEnd tag = Unit {0}
