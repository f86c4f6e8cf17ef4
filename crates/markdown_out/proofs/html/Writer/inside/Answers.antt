use Rattle.std.proofs.Common.{refl}
use Rattle.std.proofs.lemmas.Result.{IfErr-weaker}
use Rattle.markdown_base.specs.Event.{tag_view}
use Rattle.markdown_out.specs.Writer.{view, image_view}
use Rattle.markdown_out.proofs.ByteListsLemmas.{prefix-none}
use Rattle.markdown_out.proofs.WriterLemmas.{refused_start}
use Rattle.markdown_out.proofs.html.Writer.inside.Goals as goal

pub returns-in-Start-clause-err : goal.returns-in-Start-clause-err
returns-in-Start-clause-err c =
    rw c.in-Start.is (IfErr-weaker c.start_inside.result _ _ (λ fault h. (
      refused_start
          (view c.args.self.now) (image_view c.args.image) (tag_view c.in-Start.tag) fault h.0 h.1,
      prefix-none _ _ _ refl,
    )) c.start_inside.ensures.err)
