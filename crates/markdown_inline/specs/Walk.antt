-- What is left of a walk over an arena with this cursor, below the nodes of a spine.
use Rattle.std.specs.Prelude.{ℕ, List, [], ◌∷◌, Option, Some, None}
use Rattle.std.specs.declared.ops.Range.{Range}
use Rattle.markdown_base.specs.Arena.{sibling_of, Arena}
use Rattle.markdown_base.specs.BlockTree.{item_at}
use Rattle.markdown_base.specs.Event.{end, tag_end}
use Rattle.markdown_base.specs.Item.{range_of}
use Rattle.markdown_base.specs.declared.item.Item.{Item}
use Rattle.markdown_base.specs.declared.item.ItemBody.{ItemBody}
use Rattle.markdown_base.specs.declared.node.Node.{Node}
use Rattle.markdown_base.specs.declared.tag.TagEnd.{TagEnd}
use Rattle.markdown_document.specs.Document.{no_notes, Shape, leaf, enclosed, plain, backslash_break, unresolved}
use Rattle.markdown_document.specs.Document.{shape_of}
use Rattle.markdown_inline.specs.Elements.{Reading, nothing_read, then_reads}
use Rattle.markdown_inline.specs.Reading.{reading}
use Rattle.markdown_document.specs.EnclosingBlocks.{EnclosingBlocks, no_blocks, inside_item, above_at}
use Rattle.markdown_document.specs.Setting.{Setting}
use Rattle.markdown_document.specs.Places.{trees_from}
use Rattle.markdown_document.specs.Tables.{Tables, no_tables}

-- the End of a tree of this shape that was begun
abbrev pub end_of_shape : Shape → Option TagEnd
end_of_shape (leaf e origins) = None
end_of_shape (enclosed tag origins) = Some (tag_end tag)
end_of_shape plain = None
end_of_shape backslash_break = None
end_of_shape (unresolved b) = None

-- the End depends on the body alone: what the Start referred to has been taken by then
abbrev pub end_of_body : ItemBody → Option TagEnd
end_of_body b = end_of_shape (shape_of no_tables [] b)

-- the End, where there is one, and then what comes after it
abbrev pub ended : Option TagEnd → Range ℕ → Reading → Reading
ended None range after = after
ended (Some e) range after = then_reads (end e, range, []) after

-- what comes after the chain at hand, where these blocks are open above the spine: each tree that was begun ends, the
-- innermost first, and the trees after it are read
abbrev pub after_chain : Setting → EnclosingBlocks → Tables → List (Node Item) → List ℕ → Reading → Reading
after_chain s above tables nodes [] after = after
after_chain s above tables nodes (ix ∷ deeper) after =
    after_chain s (inside_item (item_at nodes ix) above) tables nodes deeper
    (ended (end_of_body (item_at nodes ix).body) (range_of (item_at nodes ix))
    (reading s no_notes above (trees_from s.text tables nodes (sibling_of nodes ix)) after))

-- what is left of a walk
unfoldable pub left_of : Setting → Tables → List (Node Item) → Option ℕ → List ℕ → Reading
left_of s tables nodes cursor spine =
    reading s no_notes (above_at s.text nodes spine) (trees_from s.text tables nodes cursor)
    (after_chain s (no_blocks s.text) tables nodes spine nothing_read)

-- what is left of the walk of a tree
abbrev pub tree_left : Setting → Tables → Arena Item → Reading
tree_left s tables arena = left_of s tables arena.nodes arena.cursor arena.spine
