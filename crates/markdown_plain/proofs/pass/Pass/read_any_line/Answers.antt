-- The open leaf block goes on in the line, the line is blank, or what is left of it begins something.
use Rattle.std.proofs.Common.{◌≡◌, ◌∙◌, ℕ, Bool, ap, arith, nat_le, sym, refl, rules, []}
use Rattle.markdown_plain.proofs.Names.{and_parts, nat_tests, SourceLine, Line, with_next_line, Block, blocks_before}
use Rattle.markdown_plain.proofs.Names.{IsReachedBy, reached_of, PlacesFor, IsLeafKind, HoldsBlanks, IsCounted}
use Rattle.markdown_plain.proofs.Names.{LeafKind, Pass}
use Rattle.std.proofs.lemmas.Result.{IfOk-weaker}
use Rattle.markdown_plain.specs.Fits.{MayEndWith}
use Rattle.markdown_plain.specs.LeafGrowth.{GrowsLeaf}
use Rattle.markdown_plain.specs.Readable.{GoesOnAs, MayReadLine, MayReadOn, MayReadRest, ReachesLeaf, ReadsRest}
use Rattle.markdown_plain.specs.Readable.{StandsCounted}
use Rattle.markdown_plain.specs.declared.block_pass.Continued.TheVariants as continued
use Rattle.markdown_plain.specs.declared.containers.Reached as code
use Rattle.markdown_plain.proofs.AddedCellsLemmas.{counted_on, next_as_line}
use Rattle.markdown_plain.proofs.AddedRowsLemmas.{read_fits, read_places}
use Rattle.markdown_plain.proofs.BlankStandingLemmas.{none_inside, before_last}
use Rattle.markdown_plain.proofs.BegunLeavesLemmas.{code_grown, fenced_grown, html_grown, leaf_places, GrownFrom}
use Rattle.markdown_plain.proofs.BegunLeavesLemmas.{line_rest, metadata_grown, metadata_line}
use Rattle.markdown_plain.proofs.PlacedTablesLemmas.{leaf_no_table, off_counted}
use Rattle.markdown_plain.proofs.ReadyLinesLemmas.{IsPlaceIn, line_fits, line_fits_after, place_after_space}
use Rattle.markdown_plain.proofs.ReadyLinesLemmas.{place_first, place_reached}
use Rattle.markdown_plain.proofs.TextReachedLemmas.{reached_by}
use Rattle.markdown_plain.proofs.pass.Pass.read_any_line.Goals.{After-reach-reached}
use Rattle.markdown_plain.proofs.pass.Pass.read_any_line.Goals.{in-FencedCode+in_ok-add_fenced-in-FencedCode}
use Rattle.markdown_plain.proofs.pass.Pass.read_any_line.Goals.{in-Html+in_ok-add_html-in-Html}
use Rattle.markdown_plain.proofs.pass.Pass.read_any_line.Goals.{in-IndentedCode+in_ok-add_indented-in-IndentedCode}
use Rattle.markdown_plain.proofs.pass.Pass.read_any_line.Goals.{in-Metadata+in_ok-add_metadata-in-Metadata}
use Rattle.markdown_plain.proofs.pass.Pass.read_any_line.Goals.{in-Table+in_ok-add_row-in-Table}
use Rattle.markdown_plain.proofs.pass.Pass.read_any_line.Goals as goal

-- these containers go on in the line
abbrev reads_on : (c : After-reach-reached) → MayReadLine c.args.ahead.now.text.now c.args.self.now c.args.line
    → MayReadOn c.args.self.now c.args.line c.reach-reached.result
reads_on c may = record {
  s = may.s;
  before = may.before;
  source = may.source;
  by = reached_by may.s c.args.self.now c.args.line c.reach-reached.result may.before may.source may.stands may.is
      (c.reach-reached.ensures.frames may.s);
  counted = may.counted;
}

module _ {old : Pass} {line : Line} {found : code.Reached} (may : MayReadOn old line found) where
  module _ {blank : Bool} (none : GoesOnAs old line found continued.Nothing)
      (end : nat_le line.stop found.content ≡ blank) where
    -- the last block does not go on, so that the rest may be read
    abbrev reads_rest : MayReadRest old line found blank
    reads_rest =
        let off = none may in
        record {
          s = may.s;
          before = off.before;
          source = may.source;
          by = off.by;
          left = sym off.by.reaches.blank ∙ end;
          off = off.off;
        }

    -- and what is made of it is what the line makes
    rest_stands : {new : Pass} → ReadsRest old line found blank new
        → StandsCounted may.s new line.next (with_next_line may.s (blocks_before may.before) may.source)
    rest_stands {new} told =
        let off = none may in
        record {
          stands = rw off.same (told.stands reads_rest);
          counted = off_counted may.s old new line found may.before may.source off told.tables may.counted;
        }

  -- the line was placed, and what is counted is right
  abbrev HasPlaced : Pass → Type 0
  HasPlaced new = PlacesFor may.s new line.next (with_next_line may.s (blocks_before may.before) may.source)
      × IsCounted may.s new (with_next_line may.s (blocks_before may.before) may.source)

  -- it was added to the open leaf
  leaf_placed : {new : Pass} {how : LeafKind} {may_be : SourceLine → Type 0} → ReachesLeaf old found how
      → new ≡ record old { placing = new.placing; blanks = new.blanks }
      → new.placing.builder.text ≡ old.placing.builder.text → GrowsLeaf old new how may_be
      → ((b : Block) → IsReachedBy may.s old line found (before_last may.before.frames may.before.inside b) may.source
      → (reached_of may.s (before_last may.before.frames may.before.inside b) may.source).inner ≡ []
      → IsLeafKind how b.kind → HoldsBlanks old.blanks.items b.kind
      → GrownFrom may.s new (reached_of may.s (before_last may.before.frames may.before.inside b) may.source).rest how
      may_be b.kind) → HasPlaced new
  leaf_placed {new} {how} {may_be} leaf same text grows goes =
      let before = may.before in let stands = may.by.stands in
      let no_table = leaf_no_table may.s old before.frames before.inside before.last stands.unended leaf.some in (
        rw (next_as_line may.s old before may.source line.start stands may.counted no_table).0
            (leaf_places may.s old new line found before may.source how may_be leaf.kind leaf.some same text grows goes
            may.by may.by (none_inside _ (sym may.by.reaches.all ∙ leaf.all))),
        counted_on may.s old new before may.source line.start stands no_table (search rules) may.counted,
      )

  -- the open leaf has room for the line from a place in it on
  leaf_fits : {how : LeafKind} {at : ℕ} → ReachesLeaf old found how → IsPlaceIn old.placing.builder.text line at
      → MayEndWith old.placing.builder at line.next
  leaf_fits leaf place = record {
    line = line_fits old line _ may.by.stands.ready leaf.some place;
    ordered = omega (arith, place.high, place.ends);
  }

  rest_place : IsPlaceIn old.placing.builder.text line found.position.at
  rest_place = place_reached may.s old line found may.before may.source may.by

pub what_goes_on-requires-clause-may : goal.what_goes_on-requires-clause-may
what_goes_on-requires-clause-may c =
    reads_on (goal.at.what_goes_on-requires-clause-may c).After-reach-reached c.requires

-- ---- a leaf block goes on

pub returns-clause-reads : goal.returns-clause-reads
returns-clause-reads c = λ may.
    let on = reads_on (goal.at.returns-clause-reads c).After-reach-reached may in let old = c.args.self.now in
    let line = c.args.line in let found = c.reach-reached.result in let goes = c.in_ok-fence.ensures.goes_on in
    let placed : HasPlaced on c.match-branch-2.self = elim c.match-branch-2.branch [
      | in-FencedCode+in_ok-add_fenced-in-FencedCode w ↦
          let told = w.in_ok-add_fenced-in-FencedCode.ensures in
          rw w.self-is (leaf_placed on (rw w.in-FencedCode.is at goes) (rw told.same refl) told.text told.leaf
          (λ b by none. fenced_grown may.s old w.add_fenced.new.self _ w.in-FencedCode.fence _ b.kind
          (line_rest may.s old line found _ may.source by) (ap (λ (p : Pass). p.blanks.items) told.same)))
      | in-Html+in_ok-add_html-in-Html w ↦
          let told = w.in_ok-add_html-in-Html.ensures in let html = rw w.in-Html.is at goes in
          rw w.self-is (leaf_placed on html.0 (rw told.same refl) told.text told.leaf
          (λ b by none. html_grown may.s old w.add_html.new.self _ w.in-Html.kind _ b.kind
          (rw by.reaches.blank at html.1) (line_rest may.s old line found _ may.source by)
          (ap (λ (p : Pass). p.blanks.items) told.same)))
      | in-IndentedCode+in_ok-add_indented-in-IndentedCode w ↦
          let told = w.in_ok-add_indented-in-IndentedCode.ensures in let code = rw w.in-IndentedCode.is at goes in
          rw w.self-is (leaf_placed on code.0 told.same told.text told.leaf
          (λ b by none known held. code_grown may.s old w.add_indented.new.self line found may.before.frames
          may.before.inside b may.source w.in-IndentedCode.code by told.emptied code.1.space.after code.1.filled
          (grind (arith, nat_tests, code.1.space.columns)) known))
      | in-Metadata+in_ok-add_metadata-in-Metadata w ↦
          let told = w.in_ok-add_metadata-in-Metadata.ensures in
          rw w.self-is (leaf_placed on (rw w.in-Metadata.is at goes) (rw told.same refl) told.text told.leaf
          (λ b by none known. metadata_grown may.s old w.add_metadata.new.self _ w.in-Metadata.kind _ b.kind
          (metadata_line may.s old line found may.before.frames may.before.inside b may.source w.in-Metadata.kind by
          none known) (ap (λ (p : Pass). p.blanks.items) told.same) known))
      | in-Table+in_ok-add_row-in-Table w ↦
          let table = rw w.in-Table.is at goes in let row = table.1 on in let tests = and_parts _ _ row.1 in
          rw w.self-is (read_places may.s old w.add_row.new.self line found may.before may.source table.0 row.0 tests.0
          tests.1 (w.in_ok-add_row-in-Table.ensures tests.1))
    ] in
    record {
      stands = c.see_content.ensures.stands may.s _ placed.0;
      counted = record {
        added = ap (λ t. t.added) c.see_content.ensures.tables ∙ placed.1.added;
        most = ap (λ t. t.most) c.see_content.ensures.tables ∙ placed.1.most;
        few = placed.1.few;
        unended = placed.1.unended;
      };
    }

pub add_fenced-requires : goal.add_fenced-requires
add_fenced-requires c =
    let on = reads_on (goal.at.add_fenced-requires c).After-reach-reached c.requires in
    leaf_fits on (rw c.in-FencedCode.is at c.in_ok-fence.ensures.goes_on) (rest_place on)

pub add_html-requires : goal.add_html-requires
add_html-requires c =
    let on = reads_on (goal.at.add_html-requires c).After-reach-reached c.requires in
    (leaf_fits on (rw c.in-Html.is at c.in_ok-fence.ensures.goes_on).0 (rest_place on)).line

pub add_indented-requires : goal.add_indented-requires
add_indented-requires c =
    let on = reads_on (goal.at.add_indented-requires c).After-reach-reached c.requires in
    let code = rw c.in-IndentedCode.is at c.in_ok-fence.ensures.goes_on in
    line_fits_after c.args.self.now c.args.line _ on.by.stands.ready code.0.some
    (place_after_space _ c.args.line c.reach-reached.result.position 4 _ on.by.is.utf8 code.1.space (rest_place on))

pub add_metadata-requires : goal.add_metadata-requires
add_metadata-requires c =
    let on = reads_on (goal.at.add_metadata-requires c).After-reach-reached c.requires in
    leaf_fits on (rw c.in-Metadata.is at c.in_ok-fence.ensures.goes_on)
    (place_first on.s c.args.self.now c.args.line c.reach-reached.result on.before on.source on.by)

pub add_row-requires : goal.add_row-requires
add_row-requires c =
    let on = reads_on (goal.at.add_row-requires c).After-reach-reached c.requires in
    let table = rw c.in-Table.is at c.in_ok-fence.ensures.goes_on in
    read_fits on.s c.args.self.now c.args.line c.reach-reached.result on.before on.source table.0 on.by
    (table.1 on).0.filled

-- ---- none does

pub returns-then-reached-line-clause-reads : goal.returns-then-reached-line-clause-reads
returns-then-reached-line-clause-reads c =
    IfOk-weaker c.read_blank.result _ _ (λ done told may.
    rest_stands (reads_on (goal.at.returns-then-reached-line-clause-reads c).After-reach-reached may)
    (rw c.in-Nothing.is at c.in_ok-fence.ensures.goes_on) (grind (arith, nat_tests, c.if-reached-line.true)) told)
    c.read_blank.ensures

pub returns-in-Nothing-clause-reads : goal.returns-in-Nothing-clause-reads
returns-in-Nothing-clause-reads c =
    IfOk-weaker c.read_filled.result _ _ (λ done told may.
    rest_stands (reads_on (goal.at.returns-in-Nothing-clause-reads c).After-reach-reached may)
    (rw c.in-Nothing.is at c.in_ok-fence.ensures.goes_on) (grind (arith, nat_tests, c.if-reached-line.false)) told)
    c.read_filled.ensures.reads

pub read_blank-requires : goal.read_blank-requires
read_blank-requires c =
    reads_rest (reads_on (goal.at.read_blank-requires c).After-reach-reached c.requires)
    (rw c.in-Nothing.is at c.in_ok-fence.ensures.goes_on) (grind (arith, nat_tests, c.if-reached-line.true))

pub read_filled-requires-clause-may : goal.read_filled-requires-clause-may
read_filled-requires-clause-may c =
    reads_rest (reads_on (goal.at.read_filled-requires-clause-may c).After-reach-reached c.requires)
    (rw c.in-Nothing.is at c.in_ok-fence.ensures.goes_on) (grind (arith, nat_tests, c.if-reached-line.false))
