-- What was built is the block result of the text.
use Rattle.markdown_plain.proofs.WholeTextsLemmas.{result_of}
use Rattle.markdown_plain.proofs.block_pass.blocks.Goals as goal

pub returns : goal.returns
returns c =
    let made = c.in_ok-placing.ensures in let finished = c.finish.ensures in
    result_of _ _ _ _ made.built finished.tree finished.parts made.built.text finished.formed finished.covered
    finished.tight finished.headings
