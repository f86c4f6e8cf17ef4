-- The place is that inside the last block.
use Rattle.std.proofs.Common.{◌≡◌, ◌∙◌, ◌-◌, Some, get_or, sym, ap, false, map, arith}
use Rattle.std.specs.List.{slice_get}
use Rattle.std.proofs.lemmas.Option.{slice_get-get_or, slice_get-map}
use Rattle.std.specs.Option.{option_map}
use Rattle.markdown_base.specs.BlockTree.{item_at, no_item}
use Rattle.markdown_base.specs.declared.item.Item.{Item}
use Rattle.markdown_resolver.proofs.BlocksAboveLemmas.{above_within, last_inside, none_inside}
use Rattle.markdown_resolver.proofs.blocks_above.end_at.Goals as goal

pub returns-then-count-eq0 : goal.returns-then-count-eq0
returns-then-count-eq0 c is =
    sym (none_inside (map (item_at c.args.tree.now.nodes) c.args.tree.now.spine) (c.args.text_end, false)
    (is ∙ c.if-count-eq0.true))

pub item-block-requires : goal.item-block-requires
item-block-requires c =
    rw c.walk_spine.ensures (above_within c.requires.above.0 c.args.tree.now.nodes c.requires.above.1
    c.args.tree.now.spine (c.args.count - 1) c.requires.above.2
    (omega (arith, c.requires.count, c.if-count-eq0.false)))

pub returns : goal.returns
returns c is =
    let tree = c.args.tree.now in
    let n = c.args.count - 1 in
    let item = c.item-block.result.now in
    let same : item ≡ item_at tree.nodes (get_or tree.spine n 0) =
    rw c.walk_spine.ensures at (c.item-block.ensures no_item) in
    let found : slice_get (map (item_at tree.nodes) tree.spine) n ≡ Some item =
    slice_get-map (item_at tree.nodes) tree.spine n
    ∙ ap (option_map (item_at tree.nodes)) (slice_get-get_or tree.spine n 0
    (omega (arith, c.requires.count, c.if-count-eq0.false)))
    ∙ ap (λ (i : Item). Some i) (sym same) in
    ap (λ cell. (item.end, cell)) c.is_table_cell.ensures
    ∙ sym (last_inside (map (item_at tree.nodes) tree.spine) (c.args.text_end, false) n item
    (is ∙ omega (arith, c.if-count-eq0.false)) found)
