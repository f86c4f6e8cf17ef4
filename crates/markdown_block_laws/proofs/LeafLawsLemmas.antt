-- Proofs of the sentences about where leaf blocks end.
use Rattle.std.proofs.Common.{◌≡◌, None, true, refl}
use Rattle.std.specs.Prelude.{Option}
use Rattle.markdown_base.specs.Forest.{Forest, nil}
use Rattle.markdown_base.specs.Source.{Source}
use Rattle.markdown_lines.specs.SourceLines.{SourceLine}
use Rattle.markdown_block_rules.specs.BlockGrowth as was
use Rattle.markdown_block_rules.specs.BlockGrowth.{Block, Kind, container_with, goes_on, leaf_with, table_with}
use Rattle.markdown_block_laws.specs.LeafLaws.{HeadingsAndBreaksEnd, IndentedCodeEndsBeforeText, FencedCodeGoesOn}
use Rattle.markdown_block_laws.specs.LeafLaws.{ClosingFenceClosesCode, ClosedCodeEnds, HtmlGoesOn, EndConditionEndsHtml}
use Rattle.markdown_block_laws.specs.LeafLaws.{ClosedMetadataEnds, ClosingLineClosesMetadata, MetadataGoesOn}
use Rattle.markdown_block_laws.specs.LeafLaws.{BlankLineEndsHtml, BlankLineEndsParagraph, ends_with_its_line}

-- no line goes on in a block that ends with its line
no_line_more : (s : Source) (l : SourceLine) (b : Block) (kind : Kind)
    (inside : SourceLine → Option (Forest Block)) → ends_with_its_line kind ≡ true
    → (table_with s l b kind ≡ None) × (leaf_with s l kind ≡ None) × (container_with s l nil inside kind ≡ None)
no_line_more s l b was.blank_line inside is = cc
no_line_more s l b (was.paragraph_leaf lines) inside is = cc
no_line_more s l b (was.underlined_leaf level lines) inside is = (refl, refl, refl)
no_line_more s l b (was.heading_leaf found) inside is = (refl, refl, refl)
no_line_more s l b was.break_leaf inside is = (refl, refl, refl)
no_line_more s l b (was.indented_leaf lines) inside is = cc
no_line_more s l b (was.fenced_leaf opening closed lines) inside is = cc
no_line_more s l b (was.html_leaf kind closed lines) inside is = cc
no_line_more s l b (was.metadata_leaf kind closed lines) inside is = cc
no_line_more s l b (was.table_leaf ended head alignments rows) inside is = cc
no_line_more s l b was.quote_container inside is = cc
no_line_more s l b (was.alert_container kind) inside is = cc
no_line_more s l b (was.list_container marker) inside is = cc
no_line_more s l b (was.item_container indent) inside is = cc
no_line_more s l b (was.footnote_container label) inside is = cc

pub headings_end : HeadingsAndBreaksEnd
unfolding goes_on
headings_end s b l is =
    let none = no_line_more s l b b.kind (goes_on s nil) is in rw (none.0, none.1, none.2) refl

pub indented_code_ends : IndentedCodeEndsBeforeText
unfolding goes_on
indented_code_ends s b l lines is filled other = rw (is, filled, other) refl

pub fenced_code_goes_on : FencedCodeGoesOn
unfolding goes_on
fenced_code_goes_on s b l opening lines is unclosed = rw (is, unclosed) refl

pub closing_fence_closes : ClosingFenceClosesCode
unfolding goes_on
closing_fence_closes s b l opening lines is closing = rw (is, closing) refl

pub closed_code_ends : ClosedCodeEnds
unfolding goes_on
closed_code_ends s b l opening lines is = rw is refl

pub html_goes_on : HtmlGoesOn
unfolding goes_on
html_goes_on s b l html lines is other = rw (is, other) refl

pub end_condition_ends : EndConditionEndsHtml
unfolding goes_on
end_condition_ends s b l html lines is = rw is refl

pub blank_line_ends_html : BlankLineEndsHtml
unfolding goes_on
blank_line_ends_html s b l html lines is blank = rw (is, blank) refl

pub metadata_goes_on : MetadataGoesOn
unfolding goes_on
metadata_goes_on s b l kind lines is other = rw (is, other) refl

pub closing_line_closes : ClosingLineClosesMetadata
unfolding goes_on
closing_line_closes s b l kind lines is closing = rw (is, closing) refl

pub closed_metadata_ends : ClosedMetadataEnds
unfolding goes_on
closed_metadata_ends s b l kind lines is = rw is refl

pub blank_line_ends_paragraph : BlankLineEndsParagraph
unfolding goes_on
blank_line_ends_paragraph s b l lines is blank = rw (is, blank) refl
