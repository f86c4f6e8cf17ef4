-- The ids of stored blocks, by the parts that they refer to. Only private clauses cite this.
use Rattle.std.specs.Prelude.{ℕ, List, [], ◌∷◌, ◌++◌, map}
use Rattle.markdown_base.specs.BlockTree.{item_at}
use Rattle.markdown_base.specs.CowText.{text_of}
use Rattle.markdown_base.specs.HeadingWords.{words_of}
use Rattle.markdown_base.specs.declared.block_parts.BlockParts.{BlockParts}
use Rattle.markdown_base.specs.declared.item.Item.{Item}
use Rattle.markdown_base.specs.declared.item.ItemBody.{ItemBody}
use Rattle.markdown_base.specs.declared.node.Node.{Node}
use Rattle.markdown_builder.specs.Shown.{heading_shown, text_shown}
use Rattle.markdown_heading_ids.specs.HeadingIds.{Id}
use Rattle.markdown_heading_ids.specs.IdsOfText.{block_ids}

-- the id that a block has, with the parts that it refers to
abbrev pub ids_of_body : BlockParts → ItemBody → List Id
ids_of_body parts b = block_ids (text_shown (map text_of parts.cows.items) b)
    (heading_shown (map words_of parts.headings.items) b) b

-- the id that the block of a node has
abbrev pub ids_at : BlockParts → List (Node Item) → ℕ → List Id
ids_at parts nodes ix = ids_of_body parts (item_at nodes ix).body

-- what is taken after the ids of these, one by one
abbrev pub taken_after : {X : Type 0} → (X → List Id) → List X → (taken : List Id) → List Id
taken_after ids [] taken = taken
taken_after ids (x ∷ xs) taken = taken_after ids xs (ids x ++ taken)
