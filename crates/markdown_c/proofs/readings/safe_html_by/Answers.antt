-- What is written of bytes that are text, as the bits ask.
use Rattle.std.proofs.Common.{ap, ◌∙◌}
use Rattle.std.proofs.lemmas.Result.{err_from_is_err_and}
use Rattle.markdown_additions.specs.Additions.{added_events}
use Rattle.markdown_additions.specs.Written.{as_safe_html, bare_events, written_of_text}
use Rattle.markdown_base.specs.Source.{source_as}
use Rattle.markdown_safe.specs.SafeRules.{html_rules, rules_view}
use Rattle.markdown_safe.proofs.SafeEventsByRulesLemmas.{html_is_safe}
use Rattle.markdown_c.specs.CallsFromC.{IsSafeHtmlOf, IsTooDeepAsAsked, additions_by_bits}
use Rattle.markdown_c.proofs.OutcomeLemmas.{faults_as_asked, refused_of, written_of}
use Rattle.markdown_c.proofs.readings.safe_html_by.Goals as goal

pub returns : goal.returns
returns c =
    let bits = c.args.bits in
    let rules = rules_view c.args.rules in
    let s = source_as c.in_ok-syntax.syntax c.in_ok-text.text.now in
    let events = bare_events (added_events (additions_by_bits bits) s) in
    let is = c.in_ok-written_source.ensures.written
    ∙ ap (λ a. written_of_text (as_safe_html rules) a s) c.additions_of-additions.ensures in
    written_of (IsSafeHtmlOf rules bits) (IsTooDeepAsAsked (as_safe_html rules) bits) _ c.args.bytes.now _ bits
    c.in_ok-syntax.ensures.known c.in_ok-text.ensures.text _
    (record {
      is = is;
      safe = rw is (html_is_safe rules (html_rules rules) events);
      tree = c.in_ok-written_source.ensures.tree;
    })

pub returns-in_err-written_source : goal.returns-in_err-written_source
returns-in_err-written_source c =
    let bits = c.args.bits in
    let form = as_safe_html (rules_view c.args.rules) in
    let p = err_from_is_err_and c.from_residual-in_err-written_source.result
    c.from_residual-in_err-written_source.ensures.1 in
    rw (p.1, p.2)
    (refused_of (IsSafeHtmlOf (rules_view c.args.rules) bits) (IsTooDeepAsAsked form bits) _ c.args.bytes.now _ bits
    c.in_ok-syntax.ensures.known c.in_ok-text.ensures.text _
    (faults_as_asked form (source_as c.in_ok-syntax.syntax c.in_ok-text.text.now) _
    c.additions_of-additions.ensures c.in_err-written_source.ensures.faults))
