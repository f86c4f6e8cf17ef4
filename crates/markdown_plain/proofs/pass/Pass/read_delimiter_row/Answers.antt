-- No paragraph that the line reaches, or no tables; and a table that begins, or none.
use Rattle.std.proofs.Common.{◌≡◌, ◌∙◌, Some, None, List, Option, not, refl, true, false, sym, ap, true≢false}
use Rattle.markdown_plain.proofs.Names.{Forest, Source, SourceLine, Block, reads_tables, Frame, Line, has_paragraph}
use Rattle.markdown_plain.proofs.Names.{Pass, IsReachedBy, reached_of, IfParagraphLast, IsUntabled, Remembers}
use Rattle.std.proofs.lemmas.Result.{IfOk-weaker}
use Rattle.std.proofs.lemmas.Bool.{not-true}
use Rattle.markdown_plain.specs.Readable.{MayReadRest}
use Rattle.markdown_plain.specs.declared.containers.Reached.{Reached}
use Rattle.markdown_plain.proofs.PlacedTablesLemmas.{ReachesParagraph, row_fits, row_places, row_untabled}
use Rattle.markdown_plain.proofs.ReadyTextsLemmas.{no_paragraph_last, of_paragraph, untabled_lazily}
use Rattle.markdown_plain.proofs.pass.Pass.read_delimiter_row.Goals.{then-not-reached-via-then-not-reached}
use Rattle.markdown_plain.proofs.pass.Pass.read_delimiter_row.Goals.{
  then-not-reached-via-else-not-reached+then-not-has_paragraph,
}
use Rattle.markdown_plain.proofs.pass.Pass.read_delimiter_row.Goals.{
  then-not-reached-via-else-not-reached+else-not-has_paragraph+then-not-self,
}
use Rattle.markdown_plain.proofs.pass.Pass.read_delimiter_row.Goals as goal

pub returns-then-not-reached-clause-none : goal.returns-then-not-reached-clause-none
returns-then-not-reached-clause-none c = λ _. record {
  same = refl;
  untabled = λ may. by_last may.s may.before.frames may.before.inside may.before.last may.source may.by;
}
  where
    by_last : (s : Source) (frames : List Frame) (inside : Forest Block) (last : Option Block) (source : SourceLine)
        → IsReachedBy s c.args.self.now c.args.line c.args.reached
        (record { frames = frames; inside = inside; last = last }) source
        → IfParagraphLast s (IsUntabled s c.args.self.now c.args.line.start
        (reached_of s (record { frames = frames; inside = inside; last = last }) source)) last
    by_last s frames inside None source by = tt
    by_last s frames inside (Some b) source by =
        let pass = c.args.self.now in
        let r = reached_of s (record { frames = frames; inside = inside; last = Some b }) source in
        of_paragraph s (Remembers s pass c.args.line.start) (IsUntabled s pass c.args.line.start r) b.kind
        (λ sources kind reads remembers. elim c.then-not-reached.branch [
          | then-not-reached-via-then-not-reached w ↦ untabled_lazily s pass c.args.line.start r sources
              (sym by.reaches.all ∙ not-true c.args.reached.all w.if-not-reached.true)
              (by.reaches.indent ∙ by.is.indent) remembers
          | then-not-reached-via-else-not-reached+then-not-has_paragraph w ↦
              absurd (true≢false (sym (no_paragraph_last s pass frames inside b sources by.stands.unended kind)
              ∙ (sym w.has_paragraph.ensures ∙ w.if-not-has_paragraph.true)))
          | then-not-reached-via-else-not-reached+else-not-has_paragraph+then-not-self w ↦
              absurd (true≢false (sym reads ∙ (sym (ap (λ (s : Source). reads_tables s) by.stands.source)
              ∙ w.if-not-self.true)))
        ]) by.stands.remembers

-- the line reaches the open paragraph, where tables are read
reaches : {pass : Pass} {line : Line} {found : Reached}
    (may : MayReadRest pass line found false) → not found.all ≡ false
    → has_paragraph pass ≡ true → pass.syntax.tables ≡ true
    → ReachesParagraph may.s pass line found may.before may.source
reaches may all some reads = record {
  by = may.by;
  all = all;
  some = some;
  reads = ap (λ (s : Source). reads_tables s) (sym may.by.stands.source) ∙ reads;
}

pub returns-clause-row : goal.returns-clause-row
returns-clause-row c = IfOk-weaker c.begin_table.result _ _ (λ is begins yes.
    let begun = begins yes in
    record {
      places = λ may.
          row_places may.s c.args.self.now c.begin_table.new.self c.args.line c.args.reached may.before.frames
          may.before.inside may.before.last may.source
          (reaches may c.if-not-reached.false (sym c.if-not-has_paragraph.ensures) c.if-not-self.false) may.left begun;
      tables = ap (λ (p : Pass). p.tables) begun.table.same;
    }) c.begin_table.ensures.begins

pub returns-clause-none : goal.returns-clause-none
returns-clause-none c = IfOk-weaker c.begin_table.result _ _ (λ is none no.
    let begun = none no in
    record {
      same = begun.same;
      untabled = λ may.
          row_untabled may.s c.args.self.now c.begin_table.new.self c.args.line c.args.reached may.before.frames
          may.before.inside may.before.last may.source
          (reaches may c.if-not-reached.false (sym c.if-not-has_paragraph.ensures) c.if-not-self.false) begun;
    }) c.begin_table.ensures.none

-- where it fits
pub begin_table-requires : goal.begin_table-requires
begin_table-requires c =
    let may = c.requires in
    row_fits may.s c.args.self.now c.args.line c.args.reached may.before.frames may.before.inside may.before.last
    may.source (reaches may c.if-not-reached.false (sym c.if-not-has_paragraph.ensures) c.if-not-self.false)
