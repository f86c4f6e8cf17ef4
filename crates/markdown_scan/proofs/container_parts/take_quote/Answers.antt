-- The marker comes after fewer than four columns of space.
use Rattle.markdown_scan.specs.LineView.{line_left}
use Rattle.markdown_scan.proofs.ContainerPartsLemmas.{quote_part}
use Rattle.markdown_scan.proofs.container_parts.take_quote.Goals as goal

pub returns-then-scan_space_upto-lt4 : goal.returns-then-scan_space_upto-lt4
returns-then-scan_space_upto-lt4 c =
    quote_part (line_left c.args.line.now) (line_left c.scan_space_upto.new.self)
    (line_left c.scan_blockquote_marker.new.self) c.scan_space_upto.result c.scan_blockquote_marker.result
    c.scan_space_upto.ensures.columns c.scan_space_upto.ensures.left c.if-scan_space_upto-lt4.true
    c.scan_blockquote_marker.ensures.value c.scan_blockquote_marker.ensures.left
