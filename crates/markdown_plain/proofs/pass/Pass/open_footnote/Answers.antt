-- The footnote definition is one more open container, and its label one more text.
use Rattle.std.proofs.Common.{◌∙◌, refl}
use Rattle.std.proofs.lemmas.Result.{IfOk-weaker}
use Rattle.markdown_base.specs.CowText.{text_of}
use Rattle.markdown_plain.proofs.OpenedFramesLemmas.{both_ok, note_is_built}
use Rattle.markdown_plain.proofs.pass.Pass.open_footnote.Goals as goal

pub returns-clause-frame : goal.returns-clause-frame
returns-clause-frame c = IfOk-weaker c.open_note.result _ _ (λ done told s frames inside b built free start same.
    let first = c.step_to.ensures.steps in let old = c.args.self.now.placing.builder in
    note_is_built s old c.open_note.new.self.builder frames inside b c.args.at (text_of c.args.label)
    (rw first at told.0) (told.1 ∙ rw (first, c.in_ok-listed.ensures.text) refl) start same free built)
    (both_ok c.open_note.result _ _ c.open_note.ensures.opens c.open_note.ensures.listed)
