-- What is written is the HTML that is defined of the text.
use Rattle.std.proofs.Common.{◌≡◌, ◌∙◌, ap, refl}
use Rattle.std.proofs.lemmas.Result.{IfOk-weaker}
use Rattle.std.specs.Prelude.{codes, string_bytes}
use Rattle.markdown.specs.HtmlWords.{html_of_text}
use Rattle.markdown.specs.OptionWords.{Options, profile_syntax, source_as}
use Rattle.markdown_callers.proofs.HelloLemmas.{computed}
use Rattle.markdown_callers.proofs.hello.hello_page.Goals as goal

pub returns : goal.returns
returns c =
    IfOk-weaker c.render.result _ _ (λ html is. is
    ∙ (ap (λ (o : Options). html_of_text (source_as (profile_syntax o) (codes "hello world"))) c.empty.ensures
    ∙ computed)) (c.render.ensures.alone refl).output
