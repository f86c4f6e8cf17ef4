-- The HTML of the text `hello world`, by computation.
use Rattle.std.proofs.Common.{◌≡◌, refl}
use Rattle.std.specs.Prelude.{codes}
use Rattle.std.specs.Str.{chars}
use Rattle.markdown.specs.HtmlWords.{html_of_text}
use Rattle.markdown.specs.OptionWords.{commonmark, source_as}
use Rattle.markdown_block_rules.specs.BlockGrowth.{begun_in, goes_on, with_lazy}
use Rattle.markdown_block_rules.specs.BlockRules.{definitions_in, footnotes_in, shown_blocks}
use Rattle.markdown_items.specs.ContentItems.{items_read_from}
use Rattle.markdown_lines.specs.DefinitionRules.{divided_in}
use Rattle.markdown_lines.specs.SourceLines.{lines_from}

pub computed : html_of_text (source_as commonmark (codes "hello world")) ≡ codes "<p>hello world</p>\n"
unfolding begun_in goes_on with_lazy definitions_in footnotes_in shown_blocks items_read_from divided_in lines_from
    chars
computed = refl
