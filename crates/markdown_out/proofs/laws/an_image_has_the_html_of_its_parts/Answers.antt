use Rattle.markdown_out.proofs.ImageHtmlLemmas.{images_have_parts}
use Rattle.markdown_out.proofs.laws.an_image_has_the_html_of_its_parts.Goals as goal

pub returns : goal.returns
returns c = images_have_parts
