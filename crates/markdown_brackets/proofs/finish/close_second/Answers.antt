-- The nearest opener that is left is a node.
use Rattle.std.proofs.Common.{◌<◌, ℕ, length, ◌∙◌, sym, subst}
use Rattle.markdown_brackets.specs.Decides.{EachOpener}
use Rattle.markdown_brackets.proofs.FinishLemmas.{each_before, first_each}
use Rattle.markdown_brackets.proofs.finish.close_second.Goals as goal

pub leads_to-requires : goal.leads_to-requires
leads_to-requires c =
    let size : ℕ = length c.args.tree.now.nodes in
    let each : EachOpener (λ n. n < size) c.drop_from.new.self =
    subst (EachOpener (λ n. n < size)) (sym c.drop_from.ensures)
    (each_before (λ n. n < size) c.args.node c.args.openers.now.wikilinks
    c.requires) in
    first_each (λ n. n < size) c.drop_from.new.self c.in-Some.nearest (sym c.nearest.ensures ∙ c.in-Some.is) each
