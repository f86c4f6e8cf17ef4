-- What was put over an opener, as trees in the arena: the first nodes of the chain read as them, and those after them
-- as what is left.
use Rattle.std.proofs.Common.{◌≡◌, ℕ, suc, List, length, Some, ap, ◌∙◌}
use Rattle.markdown_base.specs.Forest.{Forest, node, roots}
use Rattle.markdown_base.specs.declared.item.Item.{Item}
use Rattle.markdown_base.specs.declared.node.Node.{Node}
use Rattle.markdown_document.specs.ChainRest.{joined_chains, past}
use Rattle.markdown_document.specs.Document.{Plain}
use Rattle.markdown_document.specs.Places.{trees_from}
use Rattle.markdown_document.specs.Tables.{Tables}
use Rattle.markdown_resolver.specs.Chains.{CanResolve}
use Rattle.markdown_resolver.specs.ClosedOver.{Enclosing, PutsOver, closed_over, first_trees, trees_past}
use Rattle.markdown_resolver.specs.Kept.{IsQuiet}
use Rattle.markdown_resolver.specs.PutsTrees.{PutsTrees}
use Rattle.markdown_resolver.specs.declared.continuation.Continuation.{Continuation}
use Rattle.markdown_resolver.proofs.ComposeLemmas.{stands_ready}
use Rattle.markdown_resolver.proofs.PutLemmas.{rewrites_none}
use Rattle.markdown_resolver.proofs.PutsTreesLemmas.{puts_trees}

-- the first tree becomes what is put, with the trees inside, and what follows the closer is left past a byte
pub over_trees : {source : List ℕ} {opener closer : ℕ} {inside : List ℕ} {trees : Enclosing} {goes_on : ℕ}
    {standing : List ℕ} {rest : Continuation} {old new : List (Node Item)} {tables tables' : Tables}
    {a : Plain} {below after : Forest Plain} → CanResolve source tables old (Some opener)
    → trees_from source tables old (Some opener) ≡ node a below after
    → IsQuiet (trees a (first_trees (length inside) after))
    → PutsOver source opener closer inside trees goes_on standing rest old new tables tables'
    → ((a : Plain) (inside : Forest Plain) → length (roots (trees a inside)) ≡ length standing)
    → PutsTrees source opener rest.next (trees a (first_trees (length inside) after))
    (past (Some goes_on) (trees_past (suc (length inside)) after)) old new tables tables'
over_trees {source} {opener} {closer} {inside} {trees} {goes_on} {standing} {rest} {old} {new} {tables} {tables'} {a}
    {below} {after} ready reads quiet puts many =
    let k = length inside in
    let r = puts.whole (λ f. f) new tables' (rewrites_none (stands_ready puts.leaves.ready)) in
    let whole : trees_from source tables' new (Some opener) ≡ joined_chains (trees a (first_trees k after))
    (past (Some goes_on) (trees_past (suc k) after)) =
    r.rewritten ∙ ap (λ (f : Forest Plain). closed_over k trees goes_on (λ g. g) f) reads in
    puts_trees source opener rest.next (trees a (first_trees k after)) (past (Some goes_on) (trees_past (suc k) after))
    standing old new tables
    tables' r.changes r.runs whole puts.numbers (many a (first_trees k after)) quiet puts.leaves.ready
