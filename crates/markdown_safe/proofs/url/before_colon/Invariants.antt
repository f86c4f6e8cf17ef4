use Rattle.std.proofs.Common.{◌≡◌}
use Rattle.std.proofs.Math.ListN.{drop}
use Rattle.markdown_safe.specs.SafeUrl.{before_colon}
use Rattle.markdown_safe.proofs.UrlLemmas.{onto}
use Rattle.markdown_safe.proofs.url.before_colon.Given as goal

-- what is before the colon is what was found so far, and then what is before it of the bytes left
abbrev pub invariant-loop-byte : goal.invariant-loop-byte
invariant-loop-byte l = before_colon l.url ≡ onto l.found.items (before_colon (drop l.byte-index l.url))
