-- Each definition is written after those before it.
use Rattle.markdown_text_records.proofs.DefinitionsLemmas.{written_all, written_more, written_refused}
use Rattle.markdown_text_records.proofs.definitions.push_definitions.Goals as goal

pub loop-label-preserved : goal.loop-label-preserved
loop-label-preserved c =
    written_more (c.in-Some.label.now, c.in-Some.definition.now) c.in-Some.ensures.steps c.loop-label.invariant
    c.in_ok-push_definition.ensures

pub returns-in_err-push_definition : goal.returns-in_err-push_definition
returns-in_err-push_definition c =
    written_refused c.next.new.self (c.in-Some.label.now, c.in-Some.definition.now) c.in-Some.ensures.steps
    c.loop-label.invariant c.from_residual.ensures.1 c.in_err-push_definition.ensures

pub returns : goal.returns
returns c = written_all c.in-None.ensures.steps.0 c.loop-label.invariant
