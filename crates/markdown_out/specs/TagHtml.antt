-- The HTML of tags: what the Start and the End of a block or of inline markup write outside images, in parts, which
-- `joined` puts together.
use Rattle.std.specs.Prelude.{ℕ, Bool, true, false, List, [], ◌∷◌, ◌++◌, ◌==◌, ◌&&◌, ◌||◌, codes, if◌then◌else◌}
use Rattle.std.specs.Prelude.{Option, Some, None, nat_eq, slice_get}
use Rattle.std.specs.Char.{is_ascii_alphabetic, is_ascii_alphanumeric}
use Rattle.std.specs.Option.{option_map_or}
use Rattle.std.specs.List.{flat_map, before_first, list_any, starts_with}
use Rattle.std.specs.Fmt.{decimal}
use Rattle.markdown_base.specs.Bytes.{colon, space}
use Rattle.markdown_base.specs.Event as event
use Rattle.markdown_base.specs.Event.{TagView, HeadingView}
use Rattle.markdown_base.specs.declared.tag.Alignment.{Alignment}
use Rattle.markdown_base.specs.declared.tag.Alignment.TheVariants as align
use Rattle.markdown_base.specs.declared.tag.BlockQuoteKind.{BlockQuoteKind}
use Rattle.markdown_base.specs.declared.tag.BlockQuoteKind.TheVariants as quote
use Rattle.markdown_base.specs.declared.tag.HeadingLevel.{HeadingLevel}
use Rattle.markdown_base.specs.declared.tag.HeadingLevel.TheVariants as level
use Rattle.markdown_base.specs.declared.tag.LinkType.{LinkType}
use Rattle.markdown_base.specs.declared.tag.LinkType.TheVariants as written
use Rattle.markdown_base.specs.declared.tag.TagEnd.{TagEnd}
use Rattle.markdown_base.specs.declared.tag.TagEnd.TheVariants as closes
use Rattle.markdown_out.specs.ByteLists.{joined}
use Rattle.markdown_out.specs.Escapes.{attribute_escaped, destination_escaped}
use Rattle.markdown_out.specs.LookBacks.{Past, footnote_number}

-- a newline where the line is not fresh
abbrev pub new_line : Bool → List ℕ
new_line fresh = if fresh then [] else codes "\n"

-- the digit of a heading's level
abbrev pub level_digit : HeadingLevel → List ℕ
level_digit level.H1 = codes "1"
level_digit level.H2 = codes "2"
level_digit level.H3 = codes "3"
level_digit level.H4 = codes "4"
level_digit level.H5 = codes "5"
level_digit level.H6 = codes "6"

-- the `id` attribute of a heading
abbrev pub id_attribute : Option (List ℕ) → List ℕ
id_attribute None = []
id_attribute (Some id) = joined (codes " id=\"" ∷ attribute_escaped id ∷ codes "\"" ∷ [])

-- a class after another
abbrev pub further_class : List ℕ → List ℕ
further_class class = codes " " ++ attribute_escaped class

-- the `class` attribute of a heading
abbrev pub class_attribute : List (List ℕ) → List ℕ
class_attribute [] = []
class_attribute (first ∷ others) =
    joined (codes " class=\"" ∷ attribute_escaped first ∷ flat_map further_class others ∷ codes "\"" ∷ [])

-- another attribute of a heading; without a value, its value is empty
abbrev pub other_attribute : List ℕ × Option (List ℕ) → List ℕ
other_attribute a = joined (codes " " ∷ attribute_escaped a.0 ∷ codes "=\""
    ∷ option_map_or attribute_escaped a.1 [] ∷ codes "\"" ∷ [])

-- a heading's Start
abbrev pub heading_parts : Bool → HeadingView → List (List ℕ)
heading_parts fresh h = new_line fresh ∷ codes "<h" ∷ level_digit h.level ∷ id_attribute h.id
    ∷ class_attribute h.classes ∷ flat_map other_attribute h.attributes ∷ codes ">" ∷ []

-- the `class` attribute of a block quote
abbrev pub quote_class : Option BlockQuoteKind → List ℕ
quote_class None = []
quote_class (Some quote.Note) = codes " class=\"markdown-alert-note\""
quote_class (Some quote.Tip) = codes " class=\"markdown-alert-tip\""
quote_class (Some quote.Important) = codes " class=\"markdown-alert-important\""
quote_class (Some quote.Warning) = codes " class=\"markdown-alert-warning\""
quote_class (Some quote.Caution) = codes " class=\"markdown-alert-caution\""

-- the language of an info string: the text before its first space
abbrev pub language : List ℕ → List ℕ
language info = before_first (λ b. b == space) info

-- a code block's Start, from its language
abbrev pub code_block_parts : Bool → List ℕ → List (List ℕ)
code_block_parts fresh [] = new_line fresh ∷ codes "<pre><code>" ∷ []
code_block_parts fresh (b ∷ name) = new_line fresh ∷ codes "<pre><code class=\"language-"
    ∷ attribute_escaped (b ∷ name) ∷ codes "\">" ∷ []

-- the Start of an ordered list whose first number is not 1
abbrev pub numbered_list_parts : Bool → List ℕ → List (List ℕ)
numbered_list_parts fresh number = new_line fresh ∷ codes "<ol start=\"" ∷ number ∷ codes "\">\n" ∷ []

-- the alignment of a cell, by the attribute `align` or by its style, and the end of its tag
abbrev pub cell_style : (align : Bool) → Option Alignment → List ℕ
cell_style by_align (Some align.Left) =
    if by_align then codes " align=\"left\">" else codes " style=\"text-align: left\">"
cell_style by_align (Some align.Center) =
    if by_align then codes " align=\"center\">" else codes " style=\"text-align: center\">"
cell_style by_align (Some align.Right) =
    if by_align then codes " align=\"right\">" else codes " style=\"text-align: right\">"
cell_style by_align (Some align.None) = codes ">"
cell_style by_align None = codes ">"

-- the scheme that is written before a link's destination
abbrev pub link_scheme : LinkType → List ℕ
link_scheme written.Email = codes "mailto:"
link_scheme written.Inline = []
link_scheme written.Reference = []
link_scheme written.ReferenceUnknown = []
link_scheme written.Collapsed = []
link_scheme written.CollapsedUnknown = []
link_scheme written.Shortcut = []
link_scheme written.ShortcutUnknown = []
link_scheme written.Autolink = []
link_scheme (written.WikiLink has_pothole) = []

-- the `title` attribute of a link or an image, where the title is not empty
abbrev pub title_parts : List ℕ → List (List ℕ)
title_parts [] = []
title_parts (b ∷ title) = codes " title=\"" ∷ attribute_escaped (b ∷ title) ∷ codes "\"" ∷ []

-- a scheme may have this byte: an ASCII letter or digit, or `+`, `-` or `.`
abbrev pub may_be_in_scheme : ℕ → Bool
may_be_in_scheme b = is_ascii_alphanumeric b || list_any (λ mark. mark == b) (codes "+-.")

-- bytes of a scheme up to a colon follow
abbrev pub scheme_goes_on : List ℕ → Bool
scheme_goes_on [] = false
scheme_goes_on (b ∷ bytes) = (b == colon) || (may_be_in_scheme b && scheme_goes_on bytes)

-- a destination begins with a scheme: a letter, then letters, digits, `+`, `-` or `.` up to a colon
abbrev pub begins_with_scheme : List ℕ → Bool
begins_with_scheme [] = false
begins_with_scheme (b ∷ bytes) = is_ascii_alphabetic b && scheme_goes_on bytes

-- a link leads to another site: what is written of its destination begins with a scheme or with two slashes. A browser
-- finds a scheme or a host nowhere else: the bytes that it passes over or takes for a slash, which are spaces, control
-- bytes and backslashes, are percent-encoded by `destination_escaped`.
abbrev pub leaves_site : LinkType → List ℕ → Bool
leaves_site written.Email destination = true
leaves_site other destination = begins_with_scheme destination || starts_with nat_eq destination (codes "//")

-- the `rel` attribute of a link, where it has one
abbrev pub rel_attribute : Bool → List ℕ
rel_attribute true = codes " rel=\"nofollow ugc noopener\""
rel_attribute false = []

-- a link's Start, with a `rel` or without
abbrev pub link_tag : (has_rel : Bool) → LinkType → List ℕ → List ℕ → List (List ℕ)
link_tag has_rel kind destination title =
    (codes "<a href=\"" ∷ link_scheme kind ∷ destination_escaped destination ∷ codes "\"" ∷ [])
    ++ (title_parts title ++ rel_attribute has_rel ∷ codes ">" ∷ [])

-- a link's Start, with a `rel` where `rel` asks for it and the link leads to another site
abbrev pub link_parts : (rel : Bool) → LinkType → List ℕ → List ℕ → List (List ℕ)
link_parts rel kind destination title = link_tag (rel && leaves_site kind destination) kind destination title

-- an image's Start, up to its alt text
abbrev pub image_parts : List ℕ → List (List ℕ)
image_parts destination = codes "<img src=\"" ∷ destination_escaped destination ∷ codes "\" alt=\"" ∷ []

-- what closes an image, from the quote after its alt text on
abbrev pub image_end : List ℕ → List ℕ
image_end title = joined (codes "\"" ∷ (title_parts title ++ codes " />" ∷ []))

-- the Start of a footnote definition, from its name and its number
abbrev pub definition_parts : Bool → List ℕ → List ℕ → List (List ℕ)
definition_parts fresh name number =
    new_line fresh ∷ codes "<div class=\"footnote-definition\" id=\"" ∷ attribute_escaped name
    ∷ codes "\"><sup class=\"footnote-definition-label\">" ∷ number ∷ codes "</sup>" ∷ []

-- what a Start writes outside images: nothing for HTML blocks and metadata
abbrev pub start_parts : Past → TagView → List (List ℕ)
start_parts past event.paragraph = new_line past.fresh ∷ codes "<p>" ∷ []
start_parts past (event.heading h) = heading_parts past.fresh h
start_parts past (event.block_quote kind) =
    new_line past.fresh ∷ codes "<blockquote" ∷ quote_class kind ∷ codes ">\n" ∷ []
start_parts past event.indented_code = code_block_parts past.fresh []
start_parts past (event.fenced_code info) = code_block_parts past.fresh (language info)
start_parts past (event.list None) = new_line past.fresh ∷ codes "<ul>\n" ∷ []
start_parts past (event.list (Some first)) =
    if first == 1 then new_line past.fresh ∷ codes "<ol>\n" ∷ [] else numbered_list_parts past.fresh (decimal first)
start_parts past event.list_item = new_line past.fresh ∷ codes "<li>" ∷ []
start_parts past (event.footnote_definition name) = definition_parts past.fresh name (footnote_number past name)
start_parts past event.definition_list = new_line past.fresh ∷ codes "<dl>\n" ∷ []
start_parts past event.definition_list_title = new_line past.fresh ∷ codes "<dt>" ∷ []
start_parts past event.definition_list_definition = new_line past.fresh ∷ codes "<dd>" ∷ []
start_parts past (event.table alignments) = codes "<table>" ∷ []
start_parts past event.table_head = codes "<thead><tr>" ∷ []
start_parts past event.table_row = codes "<tr>" ∷ []
start_parts past event.table_cell =
    (if past.in_head then codes "<th" else codes "<td")
    ∷ cell_style past.rules.align (slice_get past.alignments past.column) ∷ []
start_parts past event.emphasis = codes "<em>" ∷ []
start_parts past event.strong = codes "<strong>" ∷ []
start_parts past event.strikethrough = codes "<del>" ∷ []
start_parts past event.superscript = codes "<sup>" ∷ []
start_parts past event.subscript = codes "<sub>" ∷ []
start_parts past (event.link l) = link_parts past.rules.rel l.kind l.destination l.title
start_parts past (event.image i) = image_parts i.destination
start_parts past event.html_block = []
start_parts past (event.metadata_block kind) = []

-- what an End writes outside images: nothing for HTML blocks, metadata, and the End of an image
abbrev pub end_parts : Past → TagEnd → List (List ℕ)
end_parts past closes.Paragraph = codes "</p>\n" ∷ []
end_parts past (closes.Heading level) = codes "</h" ∷ level_digit level ∷ codes ">\n" ∷ []
end_parts past (closes.BlockQuote kind) = codes "</blockquote>\n" ∷ []
end_parts past closes.CodeBlock = codes "</code></pre>\n" ∷ []
end_parts past (closes.List true) = codes "</ol>\n" ∷ []
end_parts past (closes.List false) = codes "</ul>\n" ∷ []
end_parts past closes.Item = codes "</li>\n" ∷ []
end_parts past closes.FootnoteDefinition = codes "</div>\n" ∷ []
end_parts past closes.DefinitionList = codes "</dl>\n" ∷ []
end_parts past closes.DefinitionListTitle = codes "</dt>\n" ∷ []
end_parts past closes.DefinitionListDefinition = codes "</dd>\n" ∷ []
end_parts past closes.Table = codes "</tbody></table>\n" ∷ []
end_parts past closes.TableHead = codes "</tr></thead><tbody>\n" ∷ []
end_parts past closes.TableRow = codes "</tr>\n" ∷ []
end_parts past closes.TableCell = (if past.in_head then codes "</th>" else codes "</td>") ∷ []
end_parts past closes.Emphasis = codes "</em>" ∷ []
end_parts past closes.Strong = codes "</strong>" ∷ []
end_parts past closes.Strikethrough = codes "</del>" ∷ []
end_parts past closes.Superscript = codes "</sup>" ∷ []
end_parts past closes.Subscript = codes "</sub>" ∷ []
end_parts past closes.Link = codes "</a>" ∷ []
end_parts past closes.HtmlBlock = []
end_parts past (closes.MetadataBlock kind) = []
end_parts past closes.Image = []
