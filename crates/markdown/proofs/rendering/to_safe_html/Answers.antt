-- The HTML is the one that is defined of the text, and safe, and its elements stand where a browser leaves them.
use Rattle.std.proofs.Common.{refl}
use Rattle.std.proofs.lemmas.Result.{IfOk-weaker}
use Rattle.markdown.proofs.rendering.to_safe_html.Goals as goal

pub returns : goal.returns
returns c =
    let alone = c.safe_html_extended.ensures.alone refl in
    record {
      html = alone.output;
      safe = c.safe_html_extended.ensures.safe;
      placed = IfOk-weaker c.safe_html_extended.result _ _ (λ html is. is.tree) c.safe_html_extended.ensures.html;
      faults = alone.faults;
    }
