-- The items up to here are appended but for a text, and a special byte comes next.
use Rattle.std.proofs.Common.{◌≡◌, ◌-◌, ◌<◌, ◌≤◌, true, slice_index}
use Rattle.markdown_builder.specs.BuilderView.{with_items}
use Rattle.markdown_items.specs.ContentItems.{AddsItems, AddsTexts, content_items}
use Rattle.markdown_items.specs.LineItems.{is_special}
use Rattle.markdown_items.specs.RestOfLine.{AwaitsRest, HasSpecialRun, RunIsOver}
use Rattle.markdown_items.proofs.line_items.items.Given as goal

abbrev pub invariant-line : goal.invariant-line
invariant-line l = record {
  same : l.builder ≡ record l.fn.builder {
    at = l.builder.at;
    run = l.builder.run;
    levels = l.builder.levels;
    texts = l.builder.texts;
  };
  inside : AddsItems l.fn.builder l.builder;
  texts : AddsTexts l.fn.builder l.builder;
  begun : l.fn.builder.at ≤ l.builder.at;
  placed : l.builder.at ≤ l.at;
  within : l.at ≤ l.end;
  special : l.at < l.end → is_special l.dashes (slice_index l.bytes l.at) ≡ true;
  over : HasSpecialRun l.line.extensions l.fn.builder → HasSpecialRun l.line.extensions l.builder;
  rest : RunIsOver l.end l.fn.builder l.fn.builder.at
      → AwaitsRest l.line (with_items l.fn.builder.levels
      (content_items l.fn.builder.text l.line.extensions l.fn.builder.at l.end)) l.builder l.at;
}

abbrev pub decreases-line : goal.decreases-line
decreases-line l = l.end - l.at
