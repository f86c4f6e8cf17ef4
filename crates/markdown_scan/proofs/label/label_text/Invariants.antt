use Rattle.std.proofs.Common.{◌≡◌, length, false}
use denote.Shadow.{shadow}
use denote.Text.{Utf8}
use Rattle.std.specs.Option.{option_map}
use Rattle.markdown_scan.specs.Label.{collapse_whitespace}
use Rattle.markdown_scan.specs.LabelScan.{found_in}
use Rattle.markdown_scan.specs.LabelText.{completed}
use Rattle.markdown_scan.proofs.label.label_text.Given as goal

-- the whole text is what was read of it and, after that, what is left
abbrev pub invariant-loop-c : goal.invariant-loop-c
invariant-loop-c g l = record {
  utf8 : shadow (Utf8 l.rest);
  source : l.found.source.now ≡ l.source;
  value : option_map (λ f. collapse_whitespace false false f.1)
      (found_in (g.R.LineRule.skipped l.rule) l.in_table false l.text)
      ≡ option_map (λ f. completed l.found f.1) (found_in (g.R.LineRule.skipped l.rule) l.in_table l.escaped l.rest);
}

abbrev pub decreases-loop-c : goal.decreases-loop-c
decreases-loop-c g l = length l.rest
