-- The pass stands for the blocks of the lines that were read, and then all of them are closed.
use Rattle.std.proofs.Common.{◌≡◌, ◌<◌, ◌≤◌, ◌∙◌, List, ap, arith, length, rules, sym, ℕ}
use Rattle.std.proofs.lemmas.Result.{IfOk-weaker}
use Rattle.std.proofs.lemmas.Str.{IsCharBoundary-start}
use Rattle.markdown_base.specs.Source.{Source}
use Rattle.markdown_plain.specs.Readable.{MayReadText}
use Rattle.markdown_plain.specs.declared.pass.Pass.{Pass}
use Rattle.markdown_plain.proofs.ReadyLinesLemmas.{next_between}
use Rattle.markdown_plain.proofs.WholeTextsLemmas.{IsNextLine, may_read_next, stands_first, stands_next, white_left}
use Rattle.markdown_plain.proofs.WholeTextsLemmas.{whole_text}
use Rattle.markdown_plain.proofs.pass.Pass.read_lines.Goals.{After-line_from-line}
use Rattle.markdown_plain.proofs.pass.Pass.read_lines.Goals as goal

pub lines-init : goal.lines-init
lines-init c = record {
  text = c.text-text.ensures;
  ahead = c.new-ahead.ensures;
  boundary = IsCharBoundary-start c.text-text.result.now c.text-text.utf8;
  made = stands_first;
}

-- what is read is the text
own_text : {text : List ℕ} {pass : Pass} → text ≡ pass.placing.builder.text → (may : MayReadText pass)
    → text ≡ may.s.text
own_text text may = text ∙ ap (λ (s : Source). s.text) may.stands.source

-- and the line is one of it
next : (c : After-line_from-line) (may : MayReadText c.args.self.now)
    → IsNextLine may.s c.lines.ahead.text.now c.lines.from c.line_from-line.result
next c may =
    let less : c.lines.from < length c.text-text.result.now = search rules in
    let text = own_text c.text-text.ensures may in
    record {
      same = c.lines.invariant.ahead ∙ text;
      less = rw (← text) less;
      is = rw (← text) (c.line_from-line.ensures.value (omega (arith, less)));
      boundary = rw (← text) c.lines.invariant.boundary;
      utf8 = rw (← text) c.text-text.utf8;
    }

pub lines-preserved : goal.lines-preserved
lines-preserved c =
    let less : c.lines.from < length c.text-text.result.now = search rules in
    record {
      text = search rules;
      ahead = search rules;
      boundary = next_between c.text-text.result.now c.lines.from c.line_from-line.result c.text-text.utf8
          (c.line_from-line.ensures.value (omega (arith, less)));
      made = λ may.
          stands_next (next (goal.at.lines-preserved c).After-line_from-line may) (c.lines.invariant.made may)
          c.in_ok-read_line.ensures.reads;
    }

pub returns-clause-built : goal.returns-clause-built
returns-clause-built c = IfOk-weaker c.close_down.result _ _ (λ done closes may.
    let end : length c.text-text.result.now ≤ c.lines.from = search rules in
    whole_text may.s c.lines.self c.close_down.new.self c.lines.from (rw (← own_text c.text-text.ensures may) end)
    (c.lines.invariant.made may) closes) c.close_down.ensures

pub returns-clause-left : goal.returns-clause-left
returns-clause-left c = IfOk-weaker c.close_down.result _ _ (λ done closes.
    let end : length c.text-text.result.now ≤ c.lines.from = search rules in
    let so_far = c.lines.invariant.made c.requires in
    let whole = closes.text ∙ (ap (λ (s : Source). s.text) so_far.stands.stands.source
    ∙ sym (own_text c.text-text.ensures c.requires)) in
    white_left c.requires.s c.lines.self c.close_down.new.self c.lines.from (rw whole end) so_far closes.here closes.are
    closes.text) c.close_down.ensures

-- ---- the calls

pub read_line-requires : goal.read_line-requires
read_line-requires c =
    may_read_next (next (goal.at.read_line-requires c).After-line_from-line c.requires)
    (c.lines.invariant.made c.requires)

pub close_down-requires : goal.close_down-requires
close_down-requires c = λ some. (c.lines.invariant.made c.requires).stands.stands.ready.closable
