-- Each move is that of the shape that the item opens to.
use Rattle.std.proofs.Common.{◌≡◌, refl, rules}
use Rattle.markdown_base.specs.BlockTree.{no_item}
use Rattle.markdown_document.specs.Tables.{tables_of}
use Rattle.markdown_inline.specs.WalkSteps.{IsRefused}
use Rattle.markdown_inline.proofs.TakingLemmas.{open-visit}
use Rattle.markdown_inline.proofs.WalkStepsLemmas.{passed_over, passed_in, passed_plain, refused_at}
use Rattle.markdown_inline.proofs.step.step_at.Goals as goal

pub returns-in-Open-clause-gives : goal.returns-in-Open-clause-gives
returns-in-Open-clause-gives c source held w = (
  record {
    cursor = c.requires.at_ix;
    is_open = rw (← (c.item-item.ensures no_item)) (open-visit c.item-item.result.now.body c.in-Open.ensures);
  },
  refl,
)

pub returns-in-Leaf-clause-gives : goal.returns-in-Leaf-clause-gives
returns-in-Leaf-clause-gives c source held w = (
  passed_over source c.args.tree.now c.next_sibling.new.self held c.args.ix c.item-item.result.now w c.requires.at_ix
      (c.item-item.ensures no_item) c.in-Leaf.ensures c.next_sibling.ensures.goes,
  c.in-Leaf.ensures,
)

pub returns-in_ok-push-in-Start-clause-gives : goal.returns-in_ok-push-in-Start-clause-gives
returns-in_ok-push-in-Start-clause-gives c source held w =
    let went = c.in_ok-push-in-Start.ensures.goes in
    let e : c.in_ok-push-in-Start.field-0 ≡ c.args.ix = cc (went.0, c.requires.at_ix) in (
      passed_in source c.args.tree.now c.push.new.self held c.args.ix c.item-item.result.now w c.requires.at_ix
          (c.item-item.ensures no_item) c.in-Start.ensures (rw e at went.1),
      c.in-Start.ensures,
    )

pub returns-in_ok-push-in-Plain-clause-gives : goal.returns-in_ok-push-in-Plain-clause-gives
returns-in_ok-push-in-Plain-clause-gives c source held w =
    let went = c.in_ok-push-in-Plain.ensures.goes in
    let e : c.in_ok-push-in-Plain.field-0 ≡ c.args.ix = cc (went.0, c.requires.at_ix) in
    passed_plain source c.args.tree.now c.push-in-Plain.new.self held c.args.ix c.item-item.result.now w
    c.requires.at_ix
    (c.item-item.ensures no_item) c.in-Plain.ensures (rw e at went.1)

pub returns-in_err-push-in-Start-clause-gives : goal.returns-in_err-push-in-Start-clause-gives
returns-in_err-push-in-Start-clause-gives c source held w =
    let refused : IsRefused c.args.tree.now c.push.new.self =
    refused_at source (tables_of held) c.args.tree.now c.push.new.self c.args.ix w c.requires.at_ix
    c.in_err-push-in-Start.ensures.refused in
    search rules

pub returns-in_err-push-in-Plain-clause-gives : goal.returns-in_err-push-in-Plain-clause-gives
returns-in_err-push-in-Plain-clause-gives c source held w =
    let refused : IsRefused c.args.tree.now c.push-in-Plain.new.self =
    refused_at source (tables_of held) c.args.tree.now c.push-in-Plain.new.self c.args.ix w c.requires.at_ix
    c.in_err-push-in-Plain.ensures.refused in
    search rules

pub returns-in_err-enter-in-Start-clause-gives : goal.returns-in_err-enter-in-Start-clause-gives
returns-in_err-enter-in-Start-clause-gives c source held w =
    let refused : IsRefused c.args.tree.now c.args.tree.now =
    refused_at source (tables_of held) c.args.tree.now c.args.tree.now c.args.ix w c.requires.at_ix refl in
    search rules

pub returns-in_err-enter-in-Plain-clause-gives : goal.returns-in_err-enter-in-Plain-clause-gives
returns-in_err-enter-in-Plain-clause-gives c source held w =
    let refused : IsRefused c.args.tree.now c.args.tree.now =
    refused_at source (tables_of held) c.args.tree.now c.args.tree.now c.args.ix w c.requires.at_ix refl in
    search rules
