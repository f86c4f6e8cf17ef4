-- The two are the same bytes.
use Rattle.std.proofs.Common.{refl}
use Rattle.markdown_page.specs.PageStyle.{default_style}
use Rattle.markdown_page.proofs.style.default_style.Goals as goal

pub returns : goal.returns
unfolding default_style
returns c = refl
