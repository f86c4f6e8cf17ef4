-- What the containers read so far leave is read by the others.
use Rattle.std.proofs.Common.{◌≡◌, drop}
use Rattle.markdown_spans.specs.ContainerPrefix.{past_blocks}
use Rattle.markdown_spans.specs.PrefixView.{bodies_of}
use Rattle.markdown_scan.specs.LineView.{line_left}
use Rattle.markdown_spans.proofs.prefixes.ContainerPrefix.length_of.Given as goal

abbrev pub invariant-containers : goal.invariant-containers
invariant-containers l =
    past_blocks l.self.gfm_footnotes (bodies_of l.self.containers.now)
    (record { scanned = 0; owed = 0; column = 0; bytes = l.rest })
    ≡ past_blocks l.self.gfm_footnotes (bodies_of (drop l.container-index l.self.containers.now)) (line_left l.line)
