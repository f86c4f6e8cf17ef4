-- None of the names so far is this one.
use Rattle.std.proofs.Common.{◌≡◌, false, take}
use Rattle.std.specs.List.{list_any}
use Rattle.markdown_lines.specs.HtmlBeginnings.{is_same_name}
use Rattle.markdown_lines.proofs.html_kind.is_one_of.Given as goal

abbrev pub invariant-loop-known : goal.invariant-loop-known
invariant-loop-known l = list_any (λ known. is_same_name l.name known.now) (take l.known-index l.names) ≡ false
