-- What follows the mark, where a text begins with it.
use Rattle.markdown_tool_output.proofs.FileTextLemmas.{marked, unmarked}
use Rattle.markdown_tool_output.proofs.text.without_mark.Goals as goal

pub returns-in-Some : goal.returns-in-Some
returns-in-Some c =
    let s = c.in-Some.ensures.cases in
    marked c.args.text.now c.in-Some.rest.now s.0 s.1.0 s.1.1 s.2

pub returns-in-None : goal.returns-in-None
returns-in-None c = unmarked c.args.text.now c.in-None.ensures.cases
