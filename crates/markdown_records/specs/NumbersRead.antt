-- Kinds, levels and types by their numbers in records; None for a number that is none of theirs.
use Rattle.std.specs.Prelude.{ℕ, Bool, true, false, ◌==◌, if◌then◌else◌, Option, Some, None}
use Rattle.std.specs.Option.{option_map}
use Rattle.markdown_base.specs.declared.tag.Alignment.{Alignment}
use Rattle.markdown_base.specs.declared.tag.Alignment.TheVariants as align
use Rattle.markdown_base.specs.declared.tag.BlockQuoteKind.{BlockQuoteKind}
use Rattle.markdown_base.specs.declared.tag.BlockQuoteKind.TheVariants as quote
use Rattle.markdown_base.specs.declared.tag.HeadingLevel.{HeadingLevel}
use Rattle.markdown_base.specs.declared.tag.HeadingLevel.TheVariants as level
use Rattle.markdown_base.specs.declared.tag.LinkType.{LinkType}
use Rattle.markdown_base.specs.declared.tag.LinkType.TheVariants as written
use Rattle.markdown_base.specs.declared.tag.MetadataBlockKind.{MetadataBlockKind}
use Rattle.markdown_base.specs.declared.tag.MetadataBlockKind.TheVariants as fence
use Rattle.markdown_base.specs.declared.tag.TagEnd.{TagEnd}
use Rattle.markdown_base.specs.declared.tag.TagEnd.TheVariants as closes

abbrev pub level_numbered : ℕ → Option HeadingLevel
level_numbered n =
    if n == 1 then Some level.H1
    else if n == 2 then Some level.H2
    else if n == 3 then Some level.H3
    else if n == 4 then Some level.H4
    else if n == 5 then Some level.H5
    else if n == 6 then Some level.H6
    else None

abbrev pub quote_numbered : ℕ → Option (Option BlockQuoteKind)
quote_numbered n =
    if n == 0 then Some None
    else if n == 1 then Some (Some quote.Note)
    else if n == 2 then Some (Some quote.Tip)
    else if n == 3 then Some (Some quote.Important)
    else if n == 4 then Some (Some quote.Warning)
    else if n == 5 then Some (Some quote.Caution)
    else None

abbrev pub metadata_of : ℕ → Option MetadataBlockKind
metadata_of n =
    if n == 0 then Some fence.YamlStyle
    else if n == 1 then Some fence.PlusesStyle
    else None

abbrev pub bool_of : ℕ → Option Bool
bool_of n =
    if n == 0 then Some false
    else if n == 1 then Some true
    else None

abbrev pub link_type_of : ℕ → Option LinkType
link_type_of n =
    if n == 0 then Some written.Inline
    else if n == 1 then Some written.Reference
    else if n == 2 then Some written.ReferenceUnknown
    else if n == 3 then Some written.Collapsed
    else if n == 4 then Some written.CollapsedUnknown
    else if n == 5 then Some written.Shortcut
    else if n == 6 then Some written.ShortcutUnknown
    else if n == 7 then Some written.Autolink
    else if n == 8 then Some written.Email
    else if n == 9 then Some (written.WikiLink false)
    else if n == 10 then Some (written.WikiLink true)
    else None

abbrev pub alignment_of : ℕ → Option Alignment
alignment_of n =
    if n == 110 then Some align.None
    else if n == 108 then Some align.Left
    else if n == 99 then Some align.Center
    else if n == 114 then Some align.Right
    else None

-- an End without a detail, by the kind of its Start
abbrev pub bare_end_of : ℕ → Option TagEnd
bare_end_of kind =
    if kind == 0x01 then Some closes.Paragraph
    else if kind == 0x04 then Some closes.CodeBlock
    else if kind == 0x05 then Some closes.HtmlBlock
    else if kind == 0x07 then Some closes.Item
    else if kind == 0x08 then Some closes.FootnoteDefinition
    else if kind == 0x09 then Some closes.DefinitionList
    else if kind == 0x0A then Some closes.DefinitionListTitle
    else if kind == 0x0B then Some closes.DefinitionListDefinition
    else if kind == 0x0C then Some closes.Table
    else if kind == 0x0D then Some closes.TableHead
    else if kind == 0x0E then Some closes.TableRow
    else if kind == 0x0F then Some closes.TableCell
    else if kind == 0x10 then Some closes.Emphasis
    else if kind == 0x11 then Some closes.Strong
    else if kind == 0x12 then Some closes.Strikethrough
    else if kind == 0x13 then Some closes.Superscript
    else if kind == 0x14 then Some closes.Subscript
    else if kind == 0x15 then Some closes.Link
    else if kind == 0x16 then Some closes.Image
    else None

-- an End by the kind of its Start, and its detail
abbrev pub end_numbered : (kind detail : ℕ) → Option TagEnd
end_numbered kind detail =
    if kind == 0x02 then option_map (λ level. closes.Heading level) (level_numbered detail)
    else if kind == 0x03 then option_map (λ quote. closes.BlockQuote quote) (quote_numbered detail)
    else if kind == 0x06 then option_map (λ ordered. closes.List ordered) (bool_of detail)
    else if kind == 0x17 then option_map (λ fence. closes.MetadataBlock fence) (metadata_of detail)
    else if detail == 0 then bare_end_of kind
    else None
