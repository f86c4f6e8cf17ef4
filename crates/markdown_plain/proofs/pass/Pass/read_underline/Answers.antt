-- The underlined paragraph is a heading, or the line is text of it, or is read once more.
use Rattle.std.proofs.Common.{◌≡◌, Bool, false, rules, true}
use Rattle.std.proofs.lemmas.Result.{IfOk-weaker}
use Rattle.markdown_plain.specs.Paragraphs.{UnderlinesNothing}
use Rattle.markdown_lines.specs.declared.block_start.BlockStart.TheVariants as start
use Rattle.markdown_plain.proofs.OpenTablesLemmas.{here_room}
use Rattle.markdown_plain.proofs.UnderlinesLemmas.{underline_begun, underline_fits}
use Rattle.markdown_plain.proofs.pass.Pass.read_underline.Goals as goal
use Rattle.markdown_plain.proofs.pass.Pass.read_underline.Goals.{In_ok-underlines_nothing}

-- what was found of the line
finds : (c : In_ok-underlines_nothing) (nothing : Bool) → c.in_ok-underlines_nothing.field-0 ≡ nothing
    → UnderlinesNothing c.args.self.now c.args.rest.now.line c.args.at nothing
finds c nothing is = rw is at c.in_ok-underlines_nothing.ensures

pub read_text-requires : goal.read_text-requires
read_text-requires c =
    let may = c.requires in here_room may.s c.args.self.now c.args.rest.now may.turn may.source may.blocks may.here

pub returns-then-branch : goal.returns-then-branch
returns-then-branch c =
    IfOk-weaker c.read_text.result _ _ (λ more told. told (start.Underline c.args.level)
    (finds (goal.at.returns-then-branch c).In_ok-underlines_nothing true c.if-branch.true)) c.read_text.ensures

pub returns : goal.returns
returns c = record {
  begun = λ may.
      let ends = c.in_ok-is_heading.ensures in
      underline_begun may.turn may.blocks may.here may.found c.in_ok-is_heading.is_heading
      (finds (goal.at.returns c).In_ok-underlines_nothing false c.if-branch.false) (assumption ends);
  tables = search rules;
}

pub end_paragraph-requires : goal.end_paragraph-requires
end_paragraph-requires c = let may = c.requires in underline_fits may.turn may.blocks may.here may.found
