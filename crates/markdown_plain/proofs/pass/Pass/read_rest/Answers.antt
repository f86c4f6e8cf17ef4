-- At each turn a block begins, of which more is to be read, or not.
use Rattle.std.proofs.Common.{arith, rules}
use Rattle.markdown_plain.proofs.TurnsLemmas.{before_turns, last_turn, may_still, next_turn, text_turn, turns_end}
use Rattle.markdown_plain.proofs.OpenTablesLemmas.{here_room}
use Rattle.markdown_plain.proofs.pass.Pass.read_rest.Goals as goal

pub blocks-2-init : goal.blocks-2-init
blocks-2-init c = before_turns c.args.self.now c.args.rest.now

pub blocks-2-preserved : goal.blocks-2-preserved
blocks-2-preserved c = next_turn c.blocks-2.invariant c.if-not-branch.false c.in_ok-read_block.ensures

pub returns-in_ok-add_text : goal.returns-in_ok-add_text
returns-in_ok-add_text c =
    text_turn (next_turn c.blocks-2.invariant c.if-not-branch.false c.in_ok-read_block.ensures) c.in_ok-add_text.ensures
    (search rules) (rw (← c.text.ensures) (c.is_text_from.ensures c.if-is_text_from.true))

pub returns-then-not-branch : goal.returns-then-not-branch
returns-then-not-branch c = last_turn c.blocks-2.invariant c.if-not-branch.true c.in_ok-read_block.ensures

pub returns-after-blocks-2 : goal.returns-after-blocks-2
returns-after-blocks-2 c = absurd (turns_end c.blocks-2.invariant (omega arith) c.requires)

-- text is added where the rest of the line is read
pub add_text-requires : goal.add_text-requires
add_text-requires c =
    let may = may_still (next_turn c.blocks-2.invariant c.if-not-branch.false c.in_ok-read_block.ensures) c.requires in
    here_room may.s c.read_block.new.self c.read_block.new.rest may.turn may.source may.blocks may.here

pub read_block-requires : goal.read_block-requires
read_block-requires c = may_still c.blocks-2.invariant c.requires
