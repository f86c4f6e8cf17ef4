-- A list that is in the way is closed, with what is in it.
use Rattle.std.proofs.Common.{◌∙◌, ap, rules, subst, sym, true≢false}
use Rattle.markdown_plain.specs.Closable.{AreClosable}
use Rattle.markdown_plain.specs.OpenBlocks.{innermost_is, is_list}
use Rattle.markdown_plain.specs.declared.pass.Pass.{Pass}
use Rattle.markdown_plain.proofs.ClosingDownLemmas.{ClosesList, closed_list, no_list, room_made}
use Rattle.markdown_plain.proofs.OpenTablesLemmas.{not_room}
use Rattle.markdown_plain.proofs.pass.Pass.make_room.Goals.{then-is_in_list, else-is_in_list}
use Rattle.markdown_plain.proofs.pass.Pass.make_room.Goals as goal

cleared : (c : goal.After-add_block) → ClosesList c.close_down.new.self c.if-is_in_list.self
cleared c =
    elim c.if-is_in_list.branch [
      | then-is_in_list w ↦ rw w.self-is (closed_list (search rules) w.close_block.ensures)
      | else-is_in_list w ↦ no_list (search rules) w.self-is
    ]

pub returns : goal.returns
returns c =
    room_made c.args.self.now c.close_down.new.self c.if-is_in_list.self c.add_block.new.self c.args.depth
    c.in_ok-close_down.ensures (cleared c)
    (λ texts frames inside these. c.add_block.ensures.begins texts frames inside (rw c.open_blocks.ensures these))

-- a list in the way is closed with what is in it
pub close_block-requires-clause-closable : goal.close_block-requires-clause-closable
close_block-requires-clause-closable c =
    let old = c.args.self.now in let down = c.close_down.new.self in let done = c.in_ok-close_down.ensures in
    let list = sym c.is_in_list.ensures ∙ c.if-is_in_list.true in
    let filled = not_room old c.args.depth (λ room.
    let kept = done.kept room.leaf room.lines room.few in
    absurd (true≢false (sym list ∙ (ap (λ (p : Pass). innermost_is is_list p.placing.builder.blocks) kept
    ∙ room.other)))) in
    subst (AreClosable down.placing.builder) (sym (ap (λ (p : Pass). p.placed) done.same))
    (done.here (c.requires filled))
