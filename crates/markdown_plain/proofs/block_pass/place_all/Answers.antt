-- All lines were read: no block is open then, and only white space is left.
use Rattle.std.proofs.Common.{◌≡◌, [], length, rules}
use Rattle.markdown_base.specs.Source.{Source}
use Rattle.markdown_block_rules.specs.BlockGrowth.{blocks_of}
use Rattle.markdown_plain.specs.Readable.{MayReadText}
use Rattle.markdown_plain.specs.Settled.{IsBuilt}
use Rattle.markdown_plain.proofs.WholeTextsLemmas.{nothing_counted, nothing_stands}
use Rattle.markdown_plain.proofs.BegunLeavesLemmas.{built_at}
use Rattle.markdown_plain.proofs.block_pass.place_all.Goals.{In_ok-pass}
use Rattle.markdown_plain.proofs.block_pass.place_all.Goals as goal

-- what is asked
abbrev asked : In_ok-pass → Source
asked c = record { text = c.args.text.now; syntax = c.args.syntax }

may_read : (c : In_ok-pass) → MayReadText c.in_ok-pass.pass
may_read c = record {
  s = asked c;
  stands = nothing_stands (asked c) c.in_ok-pass.pass c.in_ok-pass.ensures c.utf8.text;
  counted = nothing_counted (asked c) c.in_ok-pass.pass c.in_ok-pass.ensures;
}

pub read_lines-requires : goal.read_lines-requires
read_lines-requires c = may_read (goal.at.read_lines-requires c).In_ok-pass

-- only white space is left
pub step_to-requires : goal.step_to-requires
step_to-requires c =
    let may = may_read (goal.at.step_to-requires c).In_ok-pass in
    let end : length c.into_placing-placing.result.builder.text ≡ length c.as_bytes.result.now = search rules in
    record {
      ahead = (search rules, search rules);
      white = λ none. rw (← end, c.into_placing-placing.ensures) c.in_ok-read_lines.ensures.left;
    }

-- all blocks are made
all_made : (c : goal.After-step_to) (may : MayReadText c.in_ok-pass.pass)
    → IsBuilt may.s c.step_to.new.self.builder [] (blocks_of may.s)
all_made c may =
    let view = c.into_placing-placing.result.builder in
    let built : IsBuilt may.s view [] (blocks_of may.s) =
    rw c.into_placing-placing.ensures (c.in_ok-read_lines.ensures.built may) in
    built_at may.s view c.step_to.new.self.builder (length view.text) [] (blocks_of may.s) (search rules) built

pub returns-clause-built : goal.returns-clause-built
unfolding may_read
returns-clause-built c = all_made c (may_read (goal.at.returns-clause-built c).In_ok-pass)
