-- The quote is one more open container.
use Rattle.std.proofs.Common.{◌∙◌, sym}
use Rattle.std.proofs.lemmas.Result.{IfOk-weaker}
use Rattle.markdown_plain.specs.OpenedFrames.{quote_kind}
use Rattle.markdown_plain.proofs.OpenedFramesLemmas.{plain_is_built, quote_is, quote_outside}
use Rattle.markdown_base.specs.declared.item.ItemBody.TheVariants as body
use Rattle.markdown_plain.proofs.pass.Pass.open_quote.Goals as goal

pub returns-clause-frame : goal.returns-clause-frame
returns-clause-frame c = IfOk-weaker c.open_block.result _ _ (λ done opens s frames inside b built fits start same.
    plain_is_built s c.args.self.now.placing.builder c.open_block.new.self.builder frames inside b c.args.at
    (quote_kind c.args.kind) (body.BlockQuote c.args.kind) (quote_is c.args.kind) (rw c.step_to.ensures.steps at opens)
    start same (fits ∙ sym (quote_outside c.args.kind)) built) c.open_block.ensures.opens
