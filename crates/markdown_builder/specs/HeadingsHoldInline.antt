-- Headings hold inline items alone (CommonMark 4.2 and 4.3): no block stands in a heading, at any depth.
use Rattle.std.specs.Prelude.{Bool, true, false, IsTrue}
use Rattle.markdown_base.specs.declared.item.ItemBody.{ItemBody}
use Rattle.markdown_base.specs.declared.item.ItemBody.TheVariants as body
use Rattle.markdown_base.specs.BlockTree.{Numbered}
use Rattle.markdown_base.specs.Forest.{Forest, Throughout, Each}
use Rattle.markdown_base.specs.Item.{is_inline}

-- it is a heading
abbrev pub is_heading_block : ItemBody → Bool
is_heading_block (body.Heading level attributes) = true
is_heading_block other = false

-- each item below a heading of a tree, at any depth, is inline
abbrev pub HeadingsHoldInline : Forest Numbered → Type 0
HeadingsHoldInline tree =
    Throughout (λ a below after. IsTrue (is_heading_block a.item.body)
    → Each (λ b. IsTrue (is_inline b.item.body)) below) tree
