-- What begins is what the definition says, by what the reader found.
use Rattle.std.proofs.Common.{◌≡◌, Bool, IfOk, Result, refl}
use Rattle.markdown_plain.proofs.Names.{BlockStart, LineRest, Pass}
use Rattle.std.proofs.lemmas.Result.{IfOk-weaker}
use Rattle.std.specs.declared.alloc.AllocError.{AllocError}
use Rattle.markdown_lines.specs.declared.block_start.BlockStart.TheVariants as start
use Rattle.markdown_plain.specs.Beginning.{Begins, MayBeginBlock, Reads}
use Rattle.markdown_plain.proofs.FoundPlacesLemmas.{Finds, may_begin, reads_block}
use Rattle.markdown_plain.proofs.BegunLeavesLemmas.{nothing_fits}
use Rattle.markdown_plain.proofs.OpenTablesLemmas.{here_room}
use Rattle.markdown_plain.proofs.pass.Pass.read_block.Goals.{In_ok-begun}
use Rattle.markdown_plain.proofs.pass.Pass.read_block.Goals as goal

module _ (c : In_ok-begun) where
  -- what the reader says, and what is read of the line then
  finds : Finds c.args.rest.now c.beginning.new.self c.in_ok-begun.begun.at c.in_ok-begun.begun.start
  finds =
      let begun = c.in_ok-begun.ensures in
      record { begins = begun.begins; place = begun.at; same = begun.same }

  abbrev rest : LineRest
  rest = record c.args.rest.now { reader = c.beginning.new.self }

  may : (start : BlockStart) → c.in_ok-begun.begun.start ≡ start
      → MayBeginBlock c.args.self.now rest c.in_ok-begun.begun.at start
  may start is = may_begin start finds is c.requires

  -- so what an arm begins is begun
  arm : (start : BlockStart) (new : Pass) (now : LineRest) (result : Result Bool AllocError)
      → IfOk result (λ more. Begins c.args.self.now rest c.in_ok-begun.begun.at start new now more)
      → c.in_ok-begun.begun.start ≡ start → IfOk result (λ more. Reads c.args.self.now c.args.rest.now new now more)
  arm start new now result told is = IfOk-weaker result _ _ (λ more. reads_block start more finds is) told

pub returns-in-Nothing : goal.returns-in-Nothing
returns-in-Nothing c = arm (goal.at.returns-in-Nothing c).In_ok-begun _ _ _ _
    (IfOk-weaker c.skip_blank.result _ _ (λ more told. told (rest (goal.at.returns-in-Nothing c).In_ok-begun)
    c.in_ok-begun.begun.at refl) c.skip_blank.ensures) c.in-Nothing.is

pub returns-in-Text : goal.returns-in-Text
returns-in-Text c = arm (goal.at.returns-in-Text c).In_ok-begun _ _ _ _
    (IfOk-weaker c.read_text.result _ _ (λ more told. told start.Text tt) c.read_text.ensures) c.in-Text.is

pub returns-in-IndentedCode : goal.returns-in-IndentedCode
returns-in-IndentedCode c = arm (goal.at.returns-in-IndentedCode c).In_ok-begun _ _ _ _
    (IfOk-weaker c.read_indented.result _ _ (λ more told. told c.in_ok-begun.begun.at) c.read_indented.ensures)
    c.in-IndentedCode.is

pub returns-in-Quote : goal.returns-in-Quote
returns-in-Quote c = arm (goal.at.returns-in-Quote c).In_ok-begun _ _ _ _ c.read_quote.ensures c.in-Quote.is

pub returns-in-Alert : goal.returns-in-Alert
returns-in-Alert c = arm (goal.at.returns-in-Alert c).In_ok-begun _ _ _ _ c.read_alert.ensures c.in-Alert.is

pub returns-in-Heading : goal.returns-in-Heading
returns-in-Heading c = arm (goal.at.returns-in-Heading c).In_ok-begun _ _ _ _ c.read_heading.ensures c.in-Heading.is

pub returns-in-Fence : goal.returns-in-Fence
returns-in-Fence c = arm (goal.at.returns-in-Fence c).In_ok-begun _ _ _ _ c.read_fence.ensures c.in-Fence.is

pub returns-in-Html : goal.returns-in-Html
returns-in-Html c = arm (goal.at.returns-in-Html c).In_ok-begun _ _ _ _
    (IfOk-weaker c.read_html.result _ _ (λ more told. told c.in_ok-begun.begun.at) c.read_html.ensures) c.in-Html.is

pub returns-in-Footnote : goal.returns-in-Footnote
returns-in-Footnote c = arm (goal.at.returns-in-Footnote c).In_ok-begun _ _ _ _ c.read_footnote.ensures
    (rw (c.in-Footnote.label-is, c.in-Footnote.inside-is) c.in-Footnote.is)

pub returns-in-Underline : goal.returns-in-Underline
returns-in-Underline c =
    arm (goal.at.returns-in-Underline c).In_ok-begun _ _ _ _ c.read_underline.ensures c.in-Underline.is

pub returns-in-ThematicBreak : goal.returns-in-ThematicBreak
returns-in-ThematicBreak c =
    arm (goal.at.returns-in-ThematicBreak c).In_ok-begun _ _ _ _ c.read_break.ensures c.in-ThematicBreak.is

pub returns-in-Item : goal.returns-in-Item
returns-in-Item c = arm (goal.at.returns-in-Item c).In_ok-begun _ _ _ _ c.read_item.ensures c.in-Item.is

pub returns-in-Metadata : goal.returns-in-Metadata
returns-in-Metadata c = arm (goal.at.returns-in-Metadata c).In_ok-begun _ _ _ _
    (IfOk-weaker c.read_metadata.result _ _ (λ more told. told c.in_ok-begun.begun.at) c.read_metadata.ensures)
    c.in-Metadata.is

-- ---- the calls

pub skip_blank-requires : goal.skip_blank-requires
skip_blank-requires c =
    let c' = (goal.at.skip_blank-requires c).In_ok-begun in let begin = may c' start.Nothing c.in-Nothing.is in
    nothing_fits begin.s c.args.self.now (rest c') begin.turn begin.source c.in_ok-begun.begun.at begin.blocks
    begin.here begin.found

pub read_text-requires : goal.read_text-requires
read_text-requires c =
    here_room c.requires.s c.args.self.now c.args.rest.now c.requires.turn c.requires.source c.requires.blocks
    c.requires.here

pub read_indented-requires : goal.read_indented-requires
read_indented-requires c =
    (c.in_ok-begun.begun.at, may (goal.at.read_indented-requires c).In_ok-begun _ c.in-IndentedCode.is)

pub read_quote-requires : goal.read_quote-requires
read_quote-requires c = may (goal.at.read_quote-requires c).In_ok-begun _ c.in-Quote.is

pub read_alert-requires : goal.read_alert-requires
read_alert-requires c = may (goal.at.read_alert-requires c).In_ok-begun _ c.in-Alert.is

pub read_heading-requires : goal.read_heading-requires
read_heading-requires c = may (goal.at.read_heading-requires c).In_ok-begun _ c.in-Heading.is

pub read_fence-requires : goal.read_fence-requires
read_fence-requires c = may (goal.at.read_fence-requires c).In_ok-begun _ c.in-Fence.is

pub read_html-requires : goal.read_html-requires
read_html-requires c = (c.in_ok-begun.begun.at, may (goal.at.read_html-requires c).In_ok-begun _ c.in-Html.is)

pub read_footnote-requires : goal.read_footnote-requires
read_footnote-requires c = rw (c.in-Footnote.label-is, c.in-Footnote.inside-is)
    (may (goal.at.read_footnote-requires c).In_ok-begun (start.Footnote c.in-Footnote.label c.in-Footnote.inside)
    c.in-Footnote.is)

pub read_underline-requires : goal.read_underline-requires
read_underline-requires c = may (goal.at.read_underline-requires c).In_ok-begun _ c.in-Underline.is

pub read_break-requires : goal.read_break-requires
read_break-requires c = may (goal.at.read_break-requires c).In_ok-begun _ c.in-ThematicBreak.is

pub read_item-requires : goal.read_item-requires
read_item-requires c = may (goal.at.read_item-requires c).In_ok-begun _ c.in-Item.is

pub read_metadata-requires : goal.read_metadata-requires
read_metadata-requires c =
    (c.in_ok-begun.begun.at, may (goal.at.read_metadata-requires c).In_ok-begun _ c.in-Metadata.is)
