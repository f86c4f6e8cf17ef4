-- Three parts are appended.
use Rattle.std.proofs.Common.{codes, string_bytes}
use Rattle.markdown_page.specs.PageHtml.{after_language, language_attribute}
use Rattle.markdown_page.proofs.AppendedPartsLemmas.{three_parts}
use Rattle.markdown_page.proofs.page.push_before_title.Goals as goal

pub returns-clause-ok : goal.returns-clause-ok
returns-clause-ok c =
    three_parts (string_bytes c.args.html.now) (codes "<!DOCTYPE html>\n<html") (language_attribute c.args.language)
    after_language _ _ _ c.in_ok-push_str.ensures.bytes c.in_ok-push_language.ensures.ok
    c.in_ok-push_str-2.ensures.bytes
