-- The bytes of the Texts so far.
use Rattle.std.proofs.Common.{◌≡◌, map, string_bytes, take}
use Rattle.markdown_autolinks.specs.LinkedRuns.{shown_bytes}
use Rattle.markdown_autolinks.specs.RunRead.{run_text_view}
use Rattle.markdown_autolinks.proofs.runs.shown_text_of.Given as goal

abbrev pub invariant-loop-part : goal.invariant-loop-part
invariant-loop-part l = string_bytes l.text ≡ shown_bytes (map run_text_view (take l.part-index l.run))
