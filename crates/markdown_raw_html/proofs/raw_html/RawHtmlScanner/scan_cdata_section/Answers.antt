use Rattle.std.proofs.Common.{◌≡◌, true, false, arith, drop, codes, refl, sym, ◌∙◌}
use Rattle.std.proofs.lemmas.List.{take_rest}
use Rattle.markdown_scan.specs.Beginnings.{begins_with}
use Rattle.markdown_raw_html.specs.RawHtml.{cdata_section}
use Rattle.markdown_raw_html.proofs.RawHtmlLemmas.{cdata_section-ends, closed_by, end_if, opening_fits}
use Rattle.markdown_raw_html.proofs.raw_html.RawHtmlScanner.scan_cdata_section.Goals as goal

pub returns-then-not-starts_with-clause-value : goal.returns-then-not-starts_with-clause-value
returns-then-not-starts_with-clause-value c =
    let no : begins_with (codes "[CDATA[") (drop c.args.start c.args.self.now.text.now) ≡ false =
    rw take_rest at (sym c.starts_with.ensures.value ∙ c.if-not-starts_with.true) in
    rw no refl

pub end-requires : goal.end-requires
end-requires c =
    let self = c.args.self.now in
    let begins : begins_with (codes "[CDATA[") (drop c.args.start self.text.now) ≡ true =
    rw take_rest at (sym c.starts_with.ensures.value ∙ c.if-not-starts_with.false) in
    rw self.cdata_sections_of (opening_fits (codes "[CDATA[") self.text.now c.args.start c.requires
    begins)

pub overflow_add-start : goal.overflow_add-start
overflow_add-start c = omega (arith, end-requires c)

pub returns-clause-value : goal.returns-clause-value
returns-clause-value c =
    let self = c.args.self.now in
    let begins : begins_with (codes "[CDATA[") (drop c.args.start self.text.now) ≡ true =
    rw take_rest at (sym c.starts_with.ensures.value ∙ c.if-not-starts_with.false) in
    let found = rw (self.cdata_sections_of, self.cdata_sections_end) at c.end.ensures.value in
    found ∙ end_if (codes "]]>") self.text.now c.args.start 7
    (begins_with (codes "[CDATA[") (drop c.args.start self.text.now)) begins

pub returns-clause-closed : goal.returns-clause-closed
returns-clause-closed c =
    closed_by cdata_section c.args.self.now.text.now c.args.start c.end.result cdata_section-ends
    (returns-clause-value c)
