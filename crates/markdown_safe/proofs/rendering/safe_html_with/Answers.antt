-- What was written is the HTML of the safe events of the parser, and so it is safe.
use Rattle.std.proofs.lemmas.Result.{err_from_is_err_and}
use Rattle.markdown_base.specs.Source.{source_as}
use Rattle.markdown_safe.specs.SafeRules.{rules_view}
use Rattle.markdown_safe.proofs.SafeRenderingLemmas.{faults, faults_alone, html_alone, is_safe, rendering}
use Rattle.markdown_safe.proofs.rendering.safe_html_with.Goals as goal

pub returns-clause-html : goal.returns-clause-html
returns-clause-html g c =
    rendering g.F.BrokenLinkCallback.answers (rules_view c.args.rules) (source_as c.args.syntax c.args.text.now)
    c.args.callback c.in_ok-parser.parser c.with_rules-safe.result c.with_rules-safe.ensures c.in_ok-parser.ensures.left
    c.in_ok-parser.ensures.callback c.html.result c.html.ensures _ _ c.new-html.ensures.bytes
    c.in_ok-push_items_by.ensures.ok

pub returns-clause-safe : goal.returns-clause-safe
returns-clause-safe g c =
    is_safe g.F.BrokenLinkCallback.answers (rules_view c.args.rules) c.args.callback
    (source_as c.args.syntax c.args.text.now) _ (returns-clause-html g c)

pub returns-clause-alone : goal.returns-clause-alone
returns-clause-alone g c none = record {
  output = html_alone g.F.BrokenLinkCallback.answers (rules_view c.args.rules) c.args.callback
      (source_as c.args.syntax c.args.text.now) _ (returns-clause-html g c) none;
  faults = tt;
}

pub returns-in_err-push_items_by-clause-faults : goal.returns-in_err-push_items_by-clause-faults
returns-in_err-push_items_by-clause-faults g c =
    let p = err_from_is_err_and c.from_residual-in_err-push_items_by.result
    c.from_residual-in_err-push_items_by.ensures.1 in
    rw (p.1, p.2)
    (faults g.F.BrokenLinkCallback.answers (rules_view c.args.rules) (source_as c.args.syntax c.args.text.now)
    c.args.callback c.in_ok-parser.parser c.with_rules-safe.result c.with_rules-safe.ensures c.in_ok-parser.ensures.left
    c.in_ok-parser.ensures.callback c.html.result c.html.ensures _ _ _ c.in_err-push_items_by.ensures.err)

pub returns-in_err-push_items_by-clause-alone : goal.returns-in_err-push_items_by-clause-alone
returns-in_err-push_items_by-clause-alone g c none =
    let p = err_from_is_err_and c.from_residual-in_err-push_items_by.result
    c.from_residual-in_err-push_items_by.ensures.1 in
    rw (p.1, p.2) (record {
      output = tt;
      faults = faults_alone g.F.BrokenLinkCallback.answers (rules_view c.args.rules) c.args.callback
          (source_as c.args.syntax c.args.text.now) _
          (faults g.F.BrokenLinkCallback.answers (rules_view c.args.rules) (source_as c.args.syntax c.args.text.now)
          c.args.callback c.in_ok-parser.parser c.with_rules-safe.result c.with_rules-safe.ensures
          c.in_ok-parser.ensures.left c.in_ok-parser.ensures.callback c.html.result c.html.ensures _ _ _
          c.in_err-push_items_by.ensures.err) none;
    })
