-- What was written, and then what the rest stands for.
use denote.Shadow.{shadow}
use denote.Text.{Utf8}
use Rattle.std.proofs.Common.{◌≡◌, ◌++◌, length}
use Rattle.std.specs.String.{string_bytes}
use Rattle.markdown_scan.specs.Unescape.{unescaped}
use Rattle.markdown_scan.proofs.unescape.unescaped_copy.Given as goal

abbrev pub invariant-loop-before : goal.invariant-loop-before
invariant-loop-before l = record {
  text : shadow (Utf8 l.rest);
  same : unescaped l.names l.in_table l.text ≡ string_bytes l.made ++ unescaped l.names l.in_table l.rest;
}

abbrev pub decreases-loop-before : goal.decreases-loop-before
decreases-loop-before l = length l.rest
