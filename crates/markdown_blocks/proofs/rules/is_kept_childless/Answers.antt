-- Nothing is below a node just where its link leads to nothing.
use Rattle.std.proofs.Common.{◌∙◌, sym, ap}
use Rattle.std.specs.Prelude.{is_some}
use Rattle.markdown_base.specs.Arena.{child_of}
use Rattle.markdown_base.specs.BlockTree.{no_item}
use Rattle.markdown_base.specs.Item.{is_childless}
use Rattle.markdown_blocks.proofs.NodeLemmas.{nothing_tested}
use Rattle.markdown_blocks.proofs.rules.is_kept_childless.Goals as goal

pub returns : goal.returns
returns c =
    let nodes = c.args.tree.now.nodes in
    let kept = nothing_tested nodes (child_of nodes c.args.ix) c.is_none.result c.requires.below
    (sym (ap is_some c.child.ensures.value)
    ∙ c.is_none.ensures) in
    let body = c.is_childless.ensures ∙ ap (λ i. is_childless i.body) (c.item.ensures no_item) in (
      λ h b. kept.0 (c.implies.ensures.0 h (body ∙ b)),
      λ h. c.implies.ensures.1 (λ b. kept.1 (h (sym body ∙ b))),
    )
