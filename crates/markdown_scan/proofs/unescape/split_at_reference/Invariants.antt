-- The bytes so far stand for themselves.
use Rattle.std.proofs.Common.{◌≡◌, ◌++◌, take, drop}
use Rattle.markdown_scan.specs.Unescape.{unescaped}
use Rattle.markdown_scan.proofs.unescape.split_at_reference.Given as goal

abbrev pub invariant-loop-at : goal.invariant-loop-at
invariant-loop-at l =
    unescaped l.names l.in_table l.text ≡ take l.at l.text ++ unescaped l.names l.in_table (drop l.at l.text)
