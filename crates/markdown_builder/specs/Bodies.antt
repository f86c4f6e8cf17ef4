-- The bodies that a builder places, by the calls that place them. A body that a function below does not name, a new one
-- too, is refused by the call.
use Rattle.std.specs.Prelude.{ℕ, Bool, true, false, cond, ◌==◌, ◌||◌, Option, Some, None}
use Rattle.markdown_base.specs.Bytes.{apostrophe, close_bracket, dollar_sign, double_quote, less_than, open_bracket}
pub use Rattle.markdown_base.specs.Item.{is_leaf}
use Rattle.markdown_base.specs.declared.item.ItemBody.{ItemBody}
use Rattle.markdown_base.specs.declared.item.ItemBody.TheVariants as body

-- a block that is opened as it is: it refers to no part, and may have children
abbrev pub is_plain_block : ItemBody → Bool
is_plain_block body.Paragraph = true
is_plain_block (body.Heading level None) = true
is_plain_block body.IndentCodeBlock = true
is_plain_block body.HtmlBlock = true
is_plain_block (body.BlockQuote kind) = true
is_plain_block (body.List tight marker first) = true
is_plain_block (body.ListItem indent) = true
is_plain_block (body.MetadataBlock kind) = true
is_plain_block (body.DefinitionList tight) = true
is_plain_block body.DefinitionListTitle = true
is_plain_block (body.DefinitionListDefinition indent) = true
is_plain_block body.TableHead = true
is_plain_block body.TableRow = true
is_plain_block body.TableCell = true
is_plain_block other = false

-- an inline item that is appended as it is: it is settled, and refers to no part
abbrev pub is_settled : ItemBody → Bool
is_settled (body.TaskListMarker done) = true
is_settled body.InlineHtml = true
is_settled body.Html = true
is_settled (body.SynthesizeChar c) = true
is_settled (body.Text escaped) = true
is_settled body.SoftBreak = true
is_settled (body.HardBreak backslash) = true
is_settled other = false

-- a byte, where it is a quotation mark
abbrev pub quote_byte : ℕ → Option ℕ
quote_byte quote = cond ((quote == double_quote) || (quote == apostrophe)) (Some quote) None

-- the byte of an open item for one byte
abbrev pub mark_byte : ItemBody → Option ℕ
mark_byte (body.MaybeMath opens closes context) = Some dollar_sign
mark_byte (body.MaybeSmartQuote quote opens closes) = quote_byte quote
mark_byte body.MaybeHtml = Some less_than
mark_byte body.MaybeLinkOpen = Some open_bracket
mark_byte (body.MaybeLinkClose reference) = Some close_bracket
mark_byte other = None
