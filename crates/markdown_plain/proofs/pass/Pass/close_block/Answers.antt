-- A container that is closed leaves the blocks as they are: it is made what it is closed as, where it is closed.
use Rattle.std.proofs.Common.{refl, rules, ap, ◌∙◌, ◌≡◌, true, false}
use Rattle.markdown_plain.specs.OpenBlocks.{innermost_is, is_quote}
use Rattle.markdown_plain.specs.declared.pass.Pass.{Pass}
use Rattle.markdown_plain.proofs.ClosableLemmas.{innermost_no_row}
use Rattle.markdown_plain.proofs.ClosedFramesLemmas.{IsSettled, closed_so, forgotten_so, list_settled, other_settled}
use Rattle.markdown_plain.proofs.LeafTreesLemmas.{innermost_of_opened}
use Rattle.markdown_plain.proofs.pass.Pass.close_block.Goals.{in-Some-List, in-Some-BlockQuote}
use Rattle.markdown_plain.proofs.pass.Pass.close_block.Goals.{in-Some+in-MaybeEmphasis-1, in-None-1}
use Rattle.markdown_plain.proofs.pass.Pass.close_block.Goals as goal

pub close-requires-clause-other : goal.close-requires-clause-other
close-requires-clause-other c =
    let none = innermost_no_row _ c.requires.closable.containers in
    elim c.match-innermost.branch [
      | in-Some-List w ↦ rw (w.self-is, w.change.ensures.changes.becomes, innermost_of_opened) refl
      | in-Some-BlockQuote w ↦ rw (w.self-is, w.step_to.ensures.steps) none
      | in-Some+in-MaybeEmphasis-1 w ↦ rw w.self-is none
      | in-None-1 w ↦ rw w.self-is none
    ]

-- the innermost block is as it is closed
settled : (c : goal.After-close) → IsSettled c.args.self.now c.match-innermost.self
settled c =
    elim c.match-innermost.branch [
      | in-Some-List w ↦
          rw w.self-is (list_settled _ _ w.in-Some-List.field-0-0 w.close_list-loose.result w.in-Some-List.character
          w.in-Some-List.first (search rules) w.change.ensures.same w.change.ensures.changes
          w.close_list-loose.ensures.ends (search rules))
      | in-Some-BlockQuote w ↦
          let quote : innermost_is is_quote c.args.self.now.placing.builder.blocks ≡ true = search rules in
          rw w.self-is (other_settled _ _ c.requires.some (w.step_to.ensures.steps ∙ rw quote refl) (search rules) refl)
      | in-Some+in-MaybeEmphasis-1 w ↦
          let other : innermost_is is_quote c.args.self.now.placing.builder.blocks ≡ false = search rules in
          rw w.self-is (other_settled _ _ c.requires.some (rw other refl) (search rules) refl)
      | in-None-1 w ↦
          let other : innermost_is is_quote c.args.self.now.placing.builder.blocks ≡ false = search rules in
          rw w.self-is (other_settled _ _ c.requires.some (rw other refl) (search rules) refl)
    ]

pub returns : goal.returns
returns c = record {
  closes = closed_so c.args.self.now c.match-innermost.self c.close.new.self.builder (settled c) c.close.ensures.closes;
  forgets = λ s frames f inside may.
      forgotten_so s c.args.self.now c.match-innermost.self _ (settled c) c.close.ensures.closes c.close.ensures.tree
      refl f
      frames inside may;
  same = ap (λ (p : Pass). record p { placing = c.close.new.self }) (settled c).same;
}
