use Rattle.std.proofs.Common.{◌≡◌, Some, None, sym}
use Rattle.markdown_spans.specs.PrefixView.{length_by}
use Rattle.markdown_scan.specs.Autolink.{uri_autolink}
use Rattle.markdown_spans.specs.AfterLess.{address_at}
use Rattle.markdown_spans.proofs.AfterLessLemmas.{unbroken_html}
use Rattle.markdown_spans.proofs.after_less.scan_after_less.Goals as goal

pub returns-in_err-scan_html-clause-plain : goal.returns-in_err-scan_html-clause-plain
returns-in_err-scan_html-clause-plain c =
    λ h.
    let less = c.args.less.now in
    let no_uri : uri_autolink less.text.now less.at ≡ None = sym c.in_default.ensures.value in
    let no_address : address_at less.addresses less.text.now less.at ≡ None =
    sym c.in_default-scan_address.ensures.value in
    let plain = unbroken_html (λ rest. Some (length_by c.args.prefix.now rest)) less.addresses less.text.now less.start
    less.at no_uri no_address h in
    let ok = c.in_err-scan_html.ensures.plain plain in
    absurd (cc ok)
