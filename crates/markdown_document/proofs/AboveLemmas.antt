-- Which items are blocks.
use Rattle.std.proofs.Common.{◌≡◌, true, false, None}
use Rattle.markdown_base.specs.Item.{is_block, is_open}
use Rattle.markdown_base.specs.declared.item.ItemBody.{ItemBody}
use Rattle.markdown_base.specs.declared.item.ItemBody.TheVariants as body
use Rattle.markdown_document.specs.Document.{block_of}

-- an open item is not a block
pub block-open : (b : ItemBody) → is_open b ≡ true → block_of b ≡ None
block-open body.Paragraph h = cc h
block-open other h = cc h

pub open-no-block : (b : ItemBody) → is_open b ≡ true → is_block b ≡ false
open-no-block body.Paragraph h = cc h
open-no-block other h = cc h
