-- The bytes so far stay as they are: the rest tells of the whole.
use Rattle.std.proofs.Common.{◌≡◌, drop, true}
use Rattle.markdown_scan.specs.LabelScan.{is_collapsed}
use Rattle.markdown_scan.proofs.label.is_shown_whole.Given as goal

abbrev pub invariant-loop-byte : goal.invariant-loop-byte
invariant-loop-byte l = is_collapsed true l.source ≡ is_collapsed l.spaced (drop l.byte-index l.source)
