-- The first closing bytes of the whole are those of the rest.
use Rattle.std.proofs.Common.{◌≡◌, ◌+◌, length}
use Rattle.std.specs.Option.{option_map}
use Rattle.markdown_raw_html.specs.RawHtml.{through_first}
use Rattle.markdown_raw_html.proofs.closing.find_closing.Given as goal

abbrev pub invariant-loop-tail : goal.invariant-loop-tail
invariant-loop-tail l = record {
  sum : l.at + length l.rest ≡ length l.bytes;
  found : through_first l.closing l.bytes
      ≡ option_map (λ n. l.at + n) (through_first l.closing l.rest);
}

abbrev pub decreases-loop-tail : goal.decreases-loop-tail
decreases-loop-tail l = length l.rest
