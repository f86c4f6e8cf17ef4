-- The lines written are those of the entries.
use Rattle.std.proofs.Common.{◌∙◌, ◌++◌, List, ap, map}
use Rattle.markdown_outline.specs.Outline.{entry_view}
use Rattle.markdown_outline.specs.declared.entry.Entry.{Entry}
use Rattle.markdown_text_json.specs.OutlineJson.{outline_lines}
use Rattle.markdown_text_json.proofs.outline.outline_json_source.Goals as goal

pub returns-clause-json : goal.returns-clause-json
returns-clause-json c =
    c.in_ok-push_outline.ensures.ok
    ∙ (ap (λ bytes. bytes ++ outline_lines (map entry_view c.as_slice.result.now)) c.new-json.ensures.bytes
    ∙ (ap (λ (es : List Entry). outline_lines (map entry_view es)) c.as_slice.ensures.value
    ∙ ap outline_lines c.in_ok-entries.ensures.entries))
