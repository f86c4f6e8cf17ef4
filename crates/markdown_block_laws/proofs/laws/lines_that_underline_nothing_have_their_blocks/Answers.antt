use Rattle.std.proofs.Common.{refl}
use Rattle.markdown_block_rules.specs.BlockGrowth.{begun_in, goes_on, with_lazy}
use Rattle.markdown_block_rules.specs.BlockRules.{definitions_in, shown_blocks}
use Rattle.markdown_items.specs.ContentItems.{items_read_from}
use Rattle.markdown_lines.specs.DefinitionRules.{divided_in}
use Rattle.markdown_lines.specs.SourceLines.{lines_from}
use Rattle.markdown_lines.specs.HtmlBeginnings.{block_tags, is_same_name, verbatim_tags}
use Rattle.markdown_raw_html.specs.HtmlTag.{all, both, either, nonempty, often, often_past, one, optional}
use Rattle.markdown_items.specs.Found.{entity_at, escape_at, found_at, image_at, mark_at, run_at}
use Rattle.std.specs.Str.{chars}
use lib.Utf8.{encode}
use Rattle.markdown_block_laws.specs.ExamplesOfUnderlines.{examples_of_underlines}
use Rattle.markdown_block_laws.proofs.laws.lines_that_underline_nothing_have_their_blocks.Goals as goal

pub returns : goal.returns
unfolding
    examples_of_underlines
    begun_in goes_on with_lazy
    definitions_in shown_blocks
    items_read_from
    divided_in
    lines_from
    block_tags is_same_name verbatim_tags
    all both either nonempty often often_past one optional
    entity_at escape_at found_at image_at mark_at run_at
    chars
    encode
returns c = refl
