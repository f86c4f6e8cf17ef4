-- The open leaf block goes on in the line, by its kind, or none does.
use Rattle.std.proofs.Common.{◌≡◌, ◌<◌, ◌∙◌, [], ap, sym, true, false, true≢false, nat_le, arith, rules}
use Rattle.markdown_plain.proofs.Names.{nat_tests, Source, left_from, SourceLine, Line, leading_space, are_none}
use Rattle.markdown_plain.proofs.Names.{LeavesOff, reached_of, Pass}
use Rattle.std.proofs.lemmas.Bool.{not-false, not-true}
use Rattle.std.specs.Prelude.{◌&&◌}
use Rattle.markdown_lines.specs.HtmlKinds.{ends_at_blank}
use Rattle.markdown_plain.specs.ReachedTables.{ReachesTable}
use Rattle.markdown_plain.specs.Readable.{GoesOnAs, MayReadOn}
use Rattle.markdown_plain.specs.declared.block_pass.Continued.TheVariants as continued
use Rattle.markdown_plain.specs.declared.containers.Reached.{Reached}
use Rattle.markdown_plain.proofs.AddedRowsLemmas.{read_off}
use Rattle.markdown_plain.proofs.BlankStandingLemmas.{none_inside}
use Rattle.markdown_plain.proofs.BegunLeavesLemmas.{html_leaves_off, indented_leaves_off}
use Rattle.markdown_plain.proofs.PlacedTablesLemmas.{blank_leaves_off, goes_off_as, nothing_leaves_off}
use Rattle.markdown_plain.proofs.pass.Pass.what_goes_on.Goals.{else-not-blank-via-else-not-blank}
use Rattle.markdown_plain.proofs.pass.Pass.what_goes_on.Goals.{else-not-blank-via-then-not-blank+else-is_in_table}
use Rattle.markdown_plain.proofs.pass.Pass.what_goes_on.Goals.{
  else-not-blank-via-then-not-blank+then-is_in_table+in_ok-is_row+else-branch,
}
use Rattle.markdown_plain.proofs.pass.Pass.what_goes_on.Goals as goal

module _ {pass : Pass} {line : Line} {found : Reached} where
  abbrev rest : MayReadOn pass line found → SourceLine
  rest may = (reached_of may.s may.before may.source).rest

  -- no leaf block goes on where the last block leaves off
  none_goes : ((may : MayReadOn pass line found) → (reached_of may.s may.before may.source).inner ≡ []
      → LeavesOff may.s (rest may) may.before.last) → GoesOnAs pass line found continued.Nothing
  none_goes off = λ may.
      goes_off_as may.s pass line found may.source may.before may.by may.counted (off may)

  -- a line with content reaches the open table
  reaches_table : found.all ≡ true → found.content < line.stop → (may : MayReadOn pass line found)
      → ReachesTable may.s pass line found may.before may.source
  reaches_table all content may =
      let filled : nat_le line.stop found.content ≡ false = grind (arith, nat_tests, content) in
      record {
        by = may.by;
        none = none_inside _ (sym may.by.reaches.all ∙ all);
        filled = sym may.by.reaches.blank ∙ filled;
        counted = may.counted;
      }

pub returns-then-not-reached-clause-goes_on : goal.returns-then-not-reached-clause-goes_on
returns-then-not-reached-clause-goes_on c =
    none_goes (λ may inner.
    absurd (true≢false (sym (may.by.reaches.all ∙ ap are_none inner) ∙ not-true _ c.if-not-reached.true)))

pub returns-then-branch-clause-goes_on : goal.returns-then-branch-clause-goes_on
returns-then-branch-clause-goes_on c = (
  sym c.is_in_table.ensures ∙ c.if-is_in_table.true,
  λ may.
      let reaches = reaches_table (not-false _ c.if-not-reached.false) c.if-not-blank.true may in (
        reaches,
        sym (c.in_ok-is_row.ensures.value may.s may.before may.source
            (c.requires.text ∙ ap (λ (s : Source). s.text) may.by.stands.source) reaches) ∙ c.if-branch.true,
      ),
)

pub returns-then-ends_at_blank-clause-goes_on : goal.returns-then-ends_at_blank-clause-goes_on
returns-then-ends_at_blank-clause-goes_on c =
    let kind = c.in-Html.kind in
    let white : nat_le c.args.line.stop c.args.reached.content ≡ true = grind (arith, nat_tests, c.if-blank.true) in
    none_goes (λ may inner.
    html_leaves_off may.s c.args.self.now c.args.line c.args.reached may.before may.source kind c.in-Html.is
    (search rules) (ap (λ t. t && ends_at_blank kind) white ∙ (sym c.ends_at_blank.ensures ∙ c.if-ends_at_blank.true))
    may.by may.by)

pub returns-then-blank-2-clause-goes_on : goal.returns-then-blank-2-clause-goes_on
returns-then-blank-2-clause-goes_on c = none_goes (λ may inner.
    indented_leaves_off may.s c.args.self.now c.args.line c.args.reached may.before may.source c.in-Indented.is
    (search rules) (λ filled. absurd (grind (arith, nat_tests, c.if-blank-2.true, filled))) may.by may.by)

pub returns-then-before-lt4-clause-goes_on : goal.returns-then-before-lt4-clause-goes_on
returns-then-before-lt4-clause-goes_on c =
    let left = left_from c.args.self.now.placing.builder.text c.args.reached.position c.args.line.stop in
    let columns : c.read_space-before.result.columns ≡ (leading_space 4 left).columns = search rules in
    none_goes (λ may inner.
    indented_leaves_off may.s c.args.self.now c.args.line c.args.reached may.before may.source c.in-Indented.is
    (search rules) (λ filled. grind (arith, nat_tests, columns, c.if-before-lt4.true)) may.by may.by)

pub returns-then-not-is_in_leaf-clause-goes_on : goal.returns-then-not-is_in_leaf-clause-goes_on
returns-then-not-is_in_leaf-clause-goes_on c = λ may.
    let pass = c.args.self.now in let line = c.args.line in let found = c.args.reached in
    let outside : pass.placing.builder.leaf ≡ false = search rules in
    elim c.else-not-blank.branch [
      | else-not-blank-via-then-not-blank+then-is_in_table+in_ok-is_row+else-branch w ↦
          let reaches = reaches_table (not-false _ c.if-not-reached.false) w.if-not-blank.true may in
          read_off may.s pass line found may.before may.source (sym w.is_in_table.ensures ∙ w.if-is_in_table.true)
          reaches (sym (w.in_ok-is_row.ensures.value may.s may.before may.source
          (c.requires.text ∙ ap (λ (s : Source). s.text) may.by.stands.source) reaches) ∙ w.if-branch.false)
      | else-not-blank-via-then-not-blank+else-is_in_table w ↦
          none_goes (λ may inner. nothing_leaves_off may.s pass (rest may) may.before may.by.stands.unended outside
          (sym w.is_in_table.ensures ∙ w.if-is_in_table.false)) may
      | else-not-blank-via-else-not-blank w ↦
          let content = w.if-not-blank.false in
          let blank : nat_le line.stop found.content ≡ true = grind (arith, nat_tests, content) in
          none_goes (λ may inner. blank_leaves_off may.s pass (rest may) may.before may.by.stands.unended outside
          (sym may.by.reaches.blank ∙ blank)) may
    ]
