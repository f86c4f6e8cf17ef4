-- An event is written by its variant.
use Rattle.markdown_json.proofs.events.EventValue.push.Goals as goal

pub returns-in-Start-clause-ok : goal.returns-in-Start-clause-ok
returns-in-Start-clause-ok c = rw c.in-Start.is c.push_variant.ensures.ok

pub returns-in-Start-clause-err : goal.returns-in-Start-clause-err
returns-in-Start-clause-err c = rw c.in-Start.is c.push_variant.ensures.err

pub returns-in-End-clause-ok : goal.returns-in-End-clause-ok
returns-in-End-clause-ok c = rw c.in-End.is c.push_variant-in-End.ensures.ok

pub returns-in-End-clause-err : goal.returns-in-End-clause-err
returns-in-End-clause-err c = rw c.in-End.is c.push_variant-in-End.ensures.err

pub returns-in-Text-clause-ok : goal.returns-in-Text-clause-ok
returns-in-Text-clause-ok c = rw c.in-Text.is c.push_variant-in-Text.ensures.ok

pub returns-in-Text-clause-err : goal.returns-in-Text-clause-err
returns-in-Text-clause-err c = rw c.in-Text.is c.push_variant-in-Text.ensures.err

pub returns-in-Code-clause-ok : goal.returns-in-Code-clause-ok
returns-in-Code-clause-ok c = rw c.in-Code.is c.push_variant-in-Code.ensures.ok

pub returns-in-Code-clause-err : goal.returns-in-Code-clause-err
returns-in-Code-clause-err c = rw c.in-Code.is c.push_variant-in-Code.ensures.err

pub returns-in-InlineMath-clause-ok : goal.returns-in-InlineMath-clause-ok
returns-in-InlineMath-clause-ok c = rw c.in-InlineMath.is c.push_variant-in-InlineMath.ensures.ok

pub returns-in-InlineMath-clause-err : goal.returns-in-InlineMath-clause-err
returns-in-InlineMath-clause-err c = rw c.in-InlineMath.is c.push_variant-in-InlineMath.ensures.err

pub returns-in-DisplayMath-clause-ok : goal.returns-in-DisplayMath-clause-ok
returns-in-DisplayMath-clause-ok c = rw c.in-DisplayMath.is c.push_variant-in-DisplayMath.ensures.ok

pub returns-in-DisplayMath-clause-err : goal.returns-in-DisplayMath-clause-err
returns-in-DisplayMath-clause-err c = rw c.in-DisplayMath.is c.push_variant-in-DisplayMath.ensures.err

pub returns-in-Html-clause-ok : goal.returns-in-Html-clause-ok
returns-in-Html-clause-ok c = rw c.in-Html.is c.push_variant-in-Html.ensures.ok

pub returns-in-Html-clause-err : goal.returns-in-Html-clause-err
returns-in-Html-clause-err c = rw c.in-Html.is c.push_variant-in-Html.ensures.err

pub returns-in-InlineHtml-clause-ok : goal.returns-in-InlineHtml-clause-ok
returns-in-InlineHtml-clause-ok c = rw c.in-InlineHtml.is c.push_variant-in-InlineHtml.ensures.ok

pub returns-in-InlineHtml-clause-err : goal.returns-in-InlineHtml-clause-err
returns-in-InlineHtml-clause-err c = rw c.in-InlineHtml.is c.push_variant-in-InlineHtml.ensures.err

pub returns-in-FootnoteReference-clause-ok : goal.returns-in-FootnoteReference-clause-ok
returns-in-FootnoteReference-clause-ok c = rw c.in-FootnoteReference.is c.push_variant-in-FootnoteReference.ensures.ok

pub returns-in-FootnoteReference-clause-err : goal.returns-in-FootnoteReference-clause-err
returns-in-FootnoteReference-clause-err c = rw c.in-FootnoteReference.is c.push_variant-in-FootnoteReference.ensures.err

pub returns-in-SoftBreak-clause-ok : goal.returns-in-SoftBreak-clause-ok
returns-in-SoftBreak-clause-ok c = rw c.in-SoftBreak.is c.push_raw.ensures.ok

pub returns-in-SoftBreak-clause-err : goal.returns-in-SoftBreak-clause-err
returns-in-SoftBreak-clause-err c = rw c.in-SoftBreak.is c.push_raw.ensures.err

pub returns-in-HardBreak-clause-ok : goal.returns-in-HardBreak-clause-ok
returns-in-HardBreak-clause-ok c = rw c.in-HardBreak.is c.push_raw-in-HardBreak.ensures.ok

pub returns-in-HardBreak-clause-err : goal.returns-in-HardBreak-clause-err
returns-in-HardBreak-clause-err c = rw c.in-HardBreak.is c.push_raw-in-HardBreak.ensures.err

pub returns-in-Rule-clause-ok : goal.returns-in-Rule-clause-ok
returns-in-Rule-clause-ok c = rw c.in-Rule.is c.push_raw-in-Rule.ensures.ok

pub returns-in-Rule-clause-err : goal.returns-in-Rule-clause-err
returns-in-Rule-clause-err c = rw c.in-Rule.is c.push_raw-in-Rule.ensures.err

pub returns-in-TaskListMarker-clause-ok : goal.returns-in-TaskListMarker-clause-ok
returns-in-TaskListMarker-clause-ok c = rw c.in-TaskListMarker.is c.push_variant-in-TaskListMarker.ensures.ok

pub returns-in-TaskListMarker-clause-err : goal.returns-in-TaskListMarker-clause-err
returns-in-TaskListMarker-clause-err c = rw c.in-TaskListMarker.is c.push_variant-in-TaskListMarker.ensures.err
