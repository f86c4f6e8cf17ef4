-- The line is a row of the open table, by what begins in it and by its cells.
use Rattle.std.proofs.Common.{◌≡◌, ◌∙◌, ap, refl, rules}
use Rattle.markdown_plain.proofs.Names.{Source, SourceLine, Before}
use Rattle.markdown_plain.specs.ReachedTables.{ReachesTable}
use Rattle.markdown_plain.specs.TableRows.{is_text_start}
use Rattle.markdown_plain.proofs.AddedRowsLemmas.{is_row_text, row_begun}
use Rattle.markdown_plain.proofs.pass.Pass.is_row.Goals.{In_ok-begun, else-is_text, then-is_text}
use Rattle.markdown_plain.proofs.pass.Pass.is_row.Goals as goal

-- the reader reads what is left of the line from its first byte of content on
begins : (c : In_ok-begun) (s : Source) (before : Before) (source : SourceLine) → c.args.ahead.now.text.now ≡ s.text
    → ReachesTable s c.args.self.now c.args.line c.args.reached before source
    → is_text_start c.in_ok-begun.begun.start ≡ is_row_text s before source
begins c s before source text reaches =
    row_begun s c.args.self.now c.args.line c.args.reached before source reaches.by reaches.filled c.new-reader.result
    c.new.result (record {
      text = c.new-reader.ensures.text ∙ text;
      syntax = c.new-reader.ensures.syntax ∙ ap (λ (r : Source). r.syntax) reaches.by.stands.source;
      stop = c.new-reader.ensures.stop;
      next = c.new-reader.ensures.next;
      inside = c.new-reader.ensures.outermost;
      at = c.new.ensures.at;
      owed = c.new.ensures.owed;
      column = c.new.ensures.column;
    }) c.in_ok-begun.begun.start c.in_ok-begun.ensures.begins

pub returns-clause-value : goal.returns-clause-value
returns-clause-value c = λ s before source text reaches.
    let text_is : c.is_text.result ≡ is_row_text s before source =
    c.is_text.ensures ∙ begins ((goal.at.returns-clause-value c).In_ok-begun) s before source text reaches in
    elim c.if-is_text.branch [
      | then-is_text w ↦ rw (w.result-is, ← text_is, w.if-is_text.true) (search rules)
      | else-is_text w ↦ rw (w.result-is, ← text_is, w.if-is_text.false) refl
    ]
