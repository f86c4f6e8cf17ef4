use Rattle.std.proofs.Common.{◌≡◌, true, drop, codes, sym, ◌∙◌}
use Rattle.std.proofs.lemmas.List.{take_rest}
use Rattle.markdown_scan.specs.Beginnings.{begins_with_letter}
use Rattle.markdown_raw_html.specs.RawHtml.{declaration}
use Rattle.markdown_raw_html.proofs.RawHtmlLemmas.{closed_by, declaration-ends, end_if}
use Rattle.markdown_raw_html.proofs.raw_html.RawHtmlScanner.scan_declaration.Goals as goal

pub returns-clause-value : goal.returns-clause-value
returns-clause-value c =
    let self = c.args.self.now in
    let begins : begins_with_letter (drop c.args.start self.text.now) ≡ true =
    rw take_rest at (sym c.begins_with_letter.ensures.value ∙ c.if-not-begins_with_letter.false) in
    let found = rw (self.declarations_of, self.declarations_end) at c.end.ensures.value in
    found ∙ end_if (codes ">") self.text.now c.args.start 1
    (begins_with_letter (drop c.args.start self.text.now)) begins

pub returns-clause-closed : goal.returns-clause-closed
returns-clause-closed c =
    closed_by declaration c.args.self.now.text.now c.args.start c.end.result declaration-ends
    (returns-clause-value c)
