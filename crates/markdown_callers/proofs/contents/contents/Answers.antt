-- What is printed for the headings of the text is its table of contents.
use Rattle.std.proofs.Common.{◌≡◌, ◌∙◌, List, ap, map}
use Rattle.std.specs.Prelude.{string_bytes}
use Rattle.std.proofs.lemmas.Result.{IfOk-weaker}
use Rattle.markdown.specs.OutlineWords.{Entry, entry_view}
use Rattle.markdown_contents.specs.Contents.{contents_of}
use Rattle.markdown_callers.specs.ContentsOfText.{contents_in}
use Rattle.markdown_callers.proofs.contents.contents.Goals as goal

pub returns-clause-contents : goal.returns-clause-contents
returns-clause-contents c =
    IfOk-weaker c.list_of.result (λ list. string_bytes list ≡ contents_of (map entry_view c.as_slice.result.now))
    (λ list. string_bytes list ≡ contents_in c.args.source.now)
    (λ list is. is ∙ (ap (λ (es : List Entry). contents_of (map entry_view es)) c.as_slice.ensures.value
    ∙ ap contents_of c.in_ok-headings.ensures.headings)) c.list_of.ensures.list
