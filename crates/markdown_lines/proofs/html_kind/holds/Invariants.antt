-- At no offset so far do the bytes begin with them.
use Rattle.std.proofs.Common.{◌≡◌, drop}
use Rattle.markdown_lines.specs.HtmlKinds.{holds}
use Rattle.markdown_lines.proofs.html_kind.holds.Given as goal

abbrev pub invariant-loop-at : goal.invariant-loop-at
invariant-loop-at l = holds l.bytes l.others ≡ holds (drop l.at l.bytes) l.others
