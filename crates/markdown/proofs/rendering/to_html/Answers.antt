-- The HTML is the one that is defined of the text.
use Rattle.std.proofs.Common.{refl}
use Rattle.markdown.proofs.rendering.to_html.Goals as goal

pub returns : goal.returns
returns c =
    let alone = c.render_extended.ensures.alone refl in
    record { html = alone.output; faults = alone.faults }
