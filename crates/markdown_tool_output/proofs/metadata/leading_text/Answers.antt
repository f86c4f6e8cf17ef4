-- Each Text is added, and the first other event ends them.
use Rattle.std.proofs.Common.{◌∙◌, ◌++◌, append-nil, ap, string_bytes, sym}
use Rattle.markdown_tool_output.specs.Metadata.{leading_text}
use Rattle.markdown_tool_output.proofs.MetadataLemmas.{events_left, stays_alone, text_taken}
use Rattle.markdown_tool_output.proofs.metadata.leading_text.Goals as goal

pub returns-then-not-is_text-clause-text : goal.returns-then-not-is_text-clause-text
returns-then-not-is_text-clause-text c =
    let added = rw c.if-not-is_text.true at (c.in_ok-is_text.ensures (leading_text (events_left c.next.new.self))) in
    sym (append-nil (string_bytes c.add_text.new.text))
    ∙ added
    ∙ ap (λ x. string_bytes c.events.text ++ x)
    (sym (text_taken _ _ _ _ c.in_ok-event.event c.in-Some.ensures.steps c.in_ok-event.was c.events.invariant.alone))
    ∙ c.events.invariant.texts

pub events-preserved : goal.events-preserved
events-preserved c =
    let added = rw c.if-not-is_text.false at (c.in_ok-is_text.ensures (leading_text (events_left c.next.new.self))) in
    record {
      alone = stays_alone _ _ _ _ c.in_ok-event.event c.in-Some.ensures.steps c.in_ok-event.was
          c.events.invariant.alone;
      texts = added
          ∙ ap (λ x. string_bytes c.events.text ++ x)
          (sym (text_taken _ _ _ _ c.in_ok-event.event c.in-Some.ensures.steps c.in_ok-event.was
          c.events.invariant.alone))
          ∙ c.events.invariant.texts;
    }
