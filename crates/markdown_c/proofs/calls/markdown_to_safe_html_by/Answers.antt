-- The outcome is that of the library, and the number is returned unchanged.
use Rattle.std.proofs.Common.{◌∙◌, rules, to_z-of_z, w64, SFits}
use Rattle.markdown_c.specs.CallsFromC.{bytes_of}
use Rattle.markdown_c.proofs.calls.markdown_to_safe_html_by.Goals as goal

pub returns : goal.returns
returns c =
    let fits : SFits w64 c.answer.result = search rules in (
      bytes_of c.chosen_html_of.result,
      c.chosen_html_of.ensures,
      to_z-of_z fits ∙ c.answer.ensures.number,
      c.answer.ensures.buffer,
    )
