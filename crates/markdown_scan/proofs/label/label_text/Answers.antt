use Rattle.std.proofs.Common.{sym, ◌∙◌, ap, false, take}
use Rattle.std.specs.Option.{option_map}
use Rattle.markdown_base.specs.Bytes.{backslash}
use Rattle.markdown_scan.specs.Backslash.{is_bare}
use Rattle.markdown_scan.specs.Label.{collapse_whitespace}
use Rattle.markdown_scan.specs.LabelScan.{character_shown, found_in}
use Rattle.markdown_scan.specs.LabelText.{completed}
use Rattle.markdown_scan.proofs.LabelTextLemmas.{on_err, read_step, read_differs}
use Rattle.markdown_scan.proofs.LabelWholeLemmas.{source_is_text}
use Rattle.markdown_scan.proofs.label.label_text.Goals as goal

pub returns-then-is_shown_whole-clause-value : goal.returns-then-is_shown_whole-clause-value
returns-then-is_shown_whole-clause-value g c =
    source_is_text (g.R.LineRule.skipped c.args.rule.now) c.args.in_table c.args.source.now c.args.text.now c.requires
    (sym c.is_shown_whole.ensures ∙ c.if-is_shown_whole.true)

pub returns-in_err-put_shown-clause-differs : goal.returns-in_err-put_shown-clause-differs
returns-in_err-put_shown-clause-differs g c =
    let skipped = g.R.LineRule.skipped c.args.rule.now in
    let in_table = c.args.in_table in
    let escaped = c.loop-c.escaped in
    let next = c.in-Some.ensures.next in_table in
    on_err c.from_residual.result _ (
    read_differs (found_in skipped in_table false c.args.text.now) (found_in skipped in_table escaped c.loop-c.rest.now)
    (found_in skipped in_table (is_bare escaped c.in-Some.c backslash) c.in-Some.tail.now) next.0
    (character_shown in_table c.in-Some.c c.in-Some.tail.now) c.args.source.now
    (collapse_whitespace false false) (completed c.loop-c.found) c.loop-c.invariant.value next.1
    (λ rest n e. c.in_err-put_shown.ensures.differs rest n (e ∙ ap (take n) (sym c.loop-c.invariant.source))))

pub loop-c-preserved : goal.loop-c-preserved
loop-c-preserved g c =
    let skipped = g.R.LineRule.skipped c.args.rule.now in
    let in_table = c.args.in_table in
    let escaped = c.loop-c.escaped in
    let next = c.in-Some.ensures.next in_table in
    record {
      utf8 = c.in-Some.ensures.text;
      source = ap (λ source. source.now) c.in_ok-put_shown.ensures.source ∙ c.loop-c.invariant.source;
      value = rw c.is_bare-escaped.ensures (
          read_step (option_map (λ f. collapse_whitespace false false f.1)
          (found_in skipped in_table false c.args.text.now))
          (found_in skipped in_table escaped c.loop-c.rest.now)
          (found_in skipped in_table (is_bare escaped c.in-Some.c backslash) c.in-Some.tail.now) next.0
          (character_shown in_table c.in-Some.c c.in-Some.tail.now)
          (completed c.loop-c.found) (completed c.put_shown.new.self) c.loop-c.invariant.value next.1
          c.in_ok-put_shown.ensures.text);
    }
