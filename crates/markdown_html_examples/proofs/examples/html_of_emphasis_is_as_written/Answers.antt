use Rattle.std.proofs.Common.{refl}
use Rattle.markdown_block_rules.specs.BlockGrowth.{begun_in, goes_on, with_lazy}
use Rattle.markdown_block_rules.specs.BlockRules.{definitions_in, footnotes_in, shown_blocks}
use Rattle.markdown_items.specs.ContentItems.{items_read_from}
use Rattle.markdown_lines.specs.DefinitionRules.{divided_in}
use Rattle.markdown_lines.specs.SourceLines.{lines_from}
use Rattle.markdown_lines.specs.HtmlBeginnings.{block_tags, is_same_name, verbatim_tags}
use Rattle.markdown_raw_html.specs.HtmlTag.{all, both, either, nonempty, often, often_past, one, optional}
use Rattle.markdown_items.specs.Found.{entity_at, escape_at, found_at, image_at, mark_at, run_at}
use Rattle.std.specs.Str.{chars}
use lib.Utf8.{encode}
use Rattle.markdown_defs.specs.Folding.{case_folding}
use Rattle.markdown_spans.specs.CodeText.{replaced_past}
use Rattle.markdown_spans.specs.Finds.{read_tree}
use Rattle.markdown_spans.specs.AfterLess.{markup_at}
use Rattle.markdown_brackets.specs.BracketDecision.{decided}
use Rattle.markdown_brackets.specs.ReadChain.{read_chain}
use Rattle.markdown_brackets.specs.ClosingBracket.{closed}
use Rattle.markdown_delims.specs.Quotes.{with_quotes}
use Rattle.markdown_delims.specs.Pairing.{closed_by, reads_from, runs_paired, paired}
use Rattle.markdown_resolver.specs.Resolved.{resolved}
use Rattle.markdown_resolver.specs.PassOne.{pass_one}
use Rattle.caseless.specs.Caseless.{default_case_fold}
use Rattle.ucd_case.specs.CaseFolding.{full_folding}
use Rattle.ucd_case.specs.FullFoldingRows.{full_folding_rows}
use Rattle.ucd_table.specs.Rows.{value_in}
use Rattle.percent_encoding.specs.AsciiSet.{should_percent_encode}
use Rattle.percent_encoding.specs.Percent.{percent_encode_byte}
use Rattle.markdown_html_examples.specs.HtmlOfEmphasis.{html_of_emphasis}
use Rattle.markdown_html_examples.proofs.examples.html_of_emphasis_is_as_written.Goals as goal

pub returns : goal.returns
unfolding
    html_of_emphasis
    begun_in goes_on with_lazy
    definitions_in footnotes_in shown_blocks
    items_read_from
    divided_in
    lines_from
    block_tags is_same_name verbatim_tags
    all both either nonempty often often_past one optional
    entity_at escape_at found_at image_at mark_at run_at
    chars
    encode
    case_folding
    replaced_past
    read_tree
    markup_at
    decided
    read_chain
    closed
    with_quotes
    closed_by reads_from runs_paired paired
    resolved
    pass_one
    default_case_fold
    full_folding
    full_folding_rows
    value_in
    should_percent_encode
    percent_encode_byte
returns c = refl
