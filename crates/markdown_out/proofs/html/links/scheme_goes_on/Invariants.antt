-- The bytes left decide.
use Rattle.std.proofs.Common.{◌≡◌}
use Rattle.std.proofs.Math.ListN.{drop}
use Rattle.markdown_out.specs.TagHtml.{scheme_goes_on}
use Rattle.markdown_out.proofs.html.links.scheme_goes_on.Given as goal

abbrev pub invariant-loop-byte : goal.invariant-loop-byte
invariant-loop-byte l = scheme_goes_on l.bytes ≡ scheme_goes_on (drop l.byte-index l.bytes)
