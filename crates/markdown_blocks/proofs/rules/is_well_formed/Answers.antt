-- What is tested is what the rules require.
use Rattle.markdown_blocks.proofs.rules.is_well_formed.Goals.{then-not-top_is_closed-via-then-not-top_is_closed}
use Rattle.markdown_blocks.proofs.rules.is_well_formed.Goals.{
  then-not-top_is_closed-via-else-not-top_is_closed+then-not-all_keep_rules,
}
use Rattle.std.proofs.lemmas.Result.{IfOk-weaker}
use Rattle.markdown_blocks.proofs.NodeRulesLemmas.{reachable_below, there_below, IsWellFormed-from_IsTested}
use Rattle.markdown_blocks.proofs.NodeRulesLemmas.{IsTested-from_IsWellFormed}
use Rattle.markdown_blocks.proofs.rules.is_well_formed.Goals as goal

pub all_keep_rules-requires : goal.all_keep_rules-requires
all_keep_rules-requires c = reachable_below c.args.tree.now.nodes c.args.order.now c.requires.once c.requires.order

pub named_once-requires : goal.named_once-requires
named_once-requires c = there_below c.args.tree.now.nodes c.args.order.now c.requires.once c.requires.order

pub named_once-requires-2 : goal.named_once-requires-2
named_once-requires-2 c = there_below c.args.tree.now.nodes c.args.order.now c.requires.once c.requires.order

pub returns-then-not-top_is_closed : goal.returns-then-not-top_is_closed
returns-then-not-top_is_closed c = (
  λ h. cc h,
  λ w.
      let tested = IsTested-from_IsWellFormed c.args.text.now c.args.tree.now.nodes c.args.parts.now c.args.order.now
      c.requires.order w in
      elim c.then-not-top_is_closed.branch [
        | then-not-top_is_closed-via-then-not-top_is_closed b ↦ let yes = c.top_is_closed.ensures.1 tested.top
            in let no = b.if-not-top_is_closed.true in cc
        | then-not-top_is_closed-via-else-not-top_is_closed+then-not-all_keep_rules b ↦ let yes
            = b.all_keep_rules.ensures.1 tested.kept
            in let no = b.if-not-all_keep_rules.true in cc
      ],
)

pub returns-then-not-branch : goal.returns-then-not-branch
returns-then-not-branch c = (
  λ h. cc h,
  λ w.
      let tested = IsTested-from_IsWellFormed c.args.text.now c.args.tree.now.nodes c.args.parts.now c.args.order.now
      c.requires.order w in
      let yes = c.in_ok-named_once.ensures.1 (rw (c.len.ensures, c.args.parts.now.cows.ok.0) tested.texts) in
      let no = c.if-not-branch.true in
      cc,
)

pub returns : goal.returns
returns c =
    let nodes = c.args.tree.now.nodes in
    let text = c.args.text.now in
    let parts = c.args.parts.now in
    let order = c.args.order.now in
    IfOk-weaker c.named_once-2.result _ _
    (λ kept k. (
      λ h. IsWellFormed-from_IsTested text nodes parts order c.requires.once c.requires.order (record {
        top = c.top_is_closed.ensures.0 c.if-not-top_is_closed.false;
        kept = c.all_keep_rules.ensures.0 c.if-not-all_keep_rules.false;
        texts = rw (c.len.ensures, parts.cows.ok.0) at (c.in_ok-named_once.ensures.0 c.if-not-branch.false);
        alignments = rw (c.len-2.ensures, parts.alignments.ok.0) at (k.0 h);
      }),
      λ w. k.1 (rw (c.len-2.ensures, parts.alignments.ok.0)
          (IsTested-from_IsWellFormed text nodes parts order c.requires.order
          w).alignments),
    ))
    c.named_once-2.ensures
