-- What was made is well formed, covers the text, has its tight paragraphs, and no block in a heading.
use Rattle.std.proofs.Common.{ap, refl, ◌∙◌}
use Rattle.markdown_builder.specs.Standing.{standpoint}
use Rattle.markdown_builder.proofs.FormedLemmas.{keeps_formed, headings_hold_inline, covers_at_end}
use Rattle.markdown_builder.proofs.CallLemmas.{finish_spine, finish_tight, finished_rows}
use Rattle.markdown_builder.specs.BuilderView.{BuilderView}
use Rattle.markdown_builder.proofs.builder.Builder.finish.Goals as goal

pub returns-clause-formed : goal.returns-clause-formed
returns-clause-formed c = let k = c.self.invariant.0 in
    rw (← c.self.view_is) (keeps_formed c.self.inside.text.now c.self.inside.tree.nodes _ k.stands.nodes k.runs)

pub returns-clause-covered : goal.returns-clause-covered
returns-clause-covered c = covers_at_end (standpoint c.args.self) (record {
  definitions = c.self.inside.definitions;
  footnotes = c.self.inside.footnotes;
  cows = c.self.inside.cows;
  alignments = c.self.inside.alignments;
  headings = c.self.inside.headings;
}) c.self.invariant.0.stands (ap standpoint c.self.view_is) refl c.requires.closed c.requires.read

pub returns-clause-tight : goal.returns-clause-tight
returns-clause-tight c =
    finish_tight (standpoint c.args.self) c.self.invariant.0 (ap standpoint c.self.view_is) c.requires.closed

pub returns-clause-headings : goal.returns-clause-headings
returns-clause-headings c =
    headings_hold_inline c.self.inside.text.now _ c.self.inside.tree.nodes c.self.invariant.0.stands.nodes

pub returns-clause-rows : goal.returns-clause-rows
returns-clause-rows c = let none = finish_spine (standpoint c.args.self) c.self.invariant.0
    (ap standpoint c.self.view_is) c.requires.closed in
    finished_rows _ c.self.inside.blocks.items _ _
    (ap (λ (v : BuilderView). v.blocks) c.self.view_is ∙ c.requires.closed) (rw none refl) c.self.invariant.1

pub returns-clause-tree : goal.returns-clause-tree
returns-clause-tree c = let none = finish_spine (standpoint c.args.self) c.self.invariant.0
    (ap standpoint c.self.view_is) c.requires.closed in
    rw (← c.self.view_is) (rw none refl)

pub returns-clause-parts : goal.returns-clause-parts
returns-clause-parts c = rw (← c.self.view_is)
    (record { texts = refl; headings = refl; alignments = refl; definitions = refl; footnotes = refl })
