-- A container is the last of those that were noted; of what is none, what was searched is forgotten.
use Rattle.std.proofs.Common.{◌≡◌, ◌∙◌, [], ◌∷◌, true, false, sym, arith}
use Rattle.std.proofs.lemmas.List.Elements.{filter-append}
use Rattle.markdown_base.specs.declared.item.Item.{Item}
use Rattle.markdown_spans.specs.ContainerPrefix.{has_prefix}
use Rattle.markdown_resolver.specs.BlocksAbove.{containers_in}
use Rattle.markdown_resolver.proofs.BlocksAboveLemmas.{container_searched, known_cut, known_fewer}
use Rattle.markdown_resolver.proofs.BlocksAboveLemmas.{known_less, known_reset, without_last}
use Rattle.markdown_resolver.proofs.blocks_above.BlocksAbove.leave.Goals as goal

pub returns-then-has_prefix-clause-left : goal.returns-then-has_prefix-clause-left
returns-then-has_prefix-clause-left c gfm items count known =
    let item = c.args.item in
    let k = rw (← c.self.view_is) at known in
    let has : has_prefix gfm item.body ≡ true = rw (← k.style) (sym c.has_prefix.ensures ∙ c.if-has_prefix.true) in
    let whole = k.containers ∙ filter-append (λ (i : Item). has_prefix gfm i.body) items (item ∷ []) ∙ rw has in
    known_less gfm items item _ _ k (container_searched gfm items item _ k has)
    (without_last _ _ (containers_in gfm items) item _ c.pop.ensures.rest whole c.self.inside.containers.ok.0)

pub returns-then-outer-self-2-clause-left : goal.returns-then-outer-self-2-clause-left
returns-then-outer-self-2-clause-left c gfm items count known =
    let k = rw (← c.self.view_is) at known in
    let other : has_prefix gfm c.args.item.body ≡ false =
    rw (← k.style) (sym c.has_prefix.ensures ∙ c.if-has_prefix.false) in
    rw (← count) (known_cut gfm items c.args.item _ k other (omega (arith, count, c.if-outer-self.true))
    (omega (arith, count, c.if-outer-self-2.true)))

pub returns-else-outer-self-2-clause-left : goal.returns-else-outer-self-2-clause-left
returns-else-outer-self-2-clause-left c gfm items count known =
    let k = rw (← c.self.view_is) at known in
    let other : has_prefix gfm c.args.item.body ≡ false =
    rw (← k.style) (sym c.has_prefix.ensures ∙ c.if-has_prefix.false) in
    known_reset gfm items c.args.item _ k other

pub returns-else-outer-self-clause-left : goal.returns-else-outer-self-clause-left
returns-else-outer-self-clause-left c gfm items count known =
    let k = rw (← c.self.view_is) at known in
    let other : has_prefix gfm c.args.item.body ≡ false =
    rw (← k.style) (sym c.has_prefix.ensures ∙ c.if-has_prefix.false) in
    rw (← c.self.view_is) (known_fewer gfm items c.args.item _ k other (omega (arith, count, c.if-outer-self.false)))
