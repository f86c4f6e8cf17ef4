-- What is put in place of what was found at a `<`: the terms of private contracts.
use Rattle.std.specs.Prelude.{ℕ, ◌-◌, ◌<◌, false, List}
use Rattle.markdown_base.specs.BlockTree.{item_at}
use Rattle.markdown_base.specs.Item.{LiesIn}
use Rattle.markdown_base.specs.declared.item.Item.{Item}
use Rattle.markdown_base.specs.declared.item.ItemBody.{ItemBody}
use Rattle.markdown_base.specs.declared.item.ItemBody.TheVariants as body
use Rattle.markdown_base.specs.declared.node.Node.{Node}
use Rattle.markdown_document.specs.Origins.{IsSliceWithin}
use Rattle.markdown_document.specs.Setting.{Rules, setting_of}
use Rattle.markdown_document.specs.Tables.{Tables}
use Rattle.markdown_spans.specs.AfterLess.{Markup, autolink, html_markup}
use Rattle.markdown_spans.specs.Finds.{end_of_markup, markup_trees}
use Rattle.markdown_resolver.specs.Rewritten.{IsFoundAt, Standing}

-- an item from where a node's item starts up to a byte offset
abbrev pub item_to : List (Node Item) → (ix end : ℕ) → ItemBody → Item
item_to nodes ix end b = record { start = (item_at nodes ix).start; end = end; body = b }

-- the text of an autolink that ends at a byte offset: what is between its `<` and its `>`
abbrev pub address_to : List (Node Item) → (ix end : ℕ) → Item
address_to nodes ix end = record { start = (item_at nodes ix).end; end = end - 1; body = body.Text false }

-- the text of an autolink is not empty and lies in the source, and the URI or the address is a slice of its range there
pub record IsAddress (source : List ℕ) (nodes : List (Node Item)) (ix end : ℕ) (bytes : List ℕ) : Type 0 where
  pub some : (item_at nodes ix).end < end
  pub lies : LiesIn source (address_to nodes ix end)
  pub slice : IsSliceWithin source (item_at nodes ix).start end bytes

-- where an autolink was found, it has such a text
abbrev pub HasAddress : List ℕ → List (Node Item) → ℕ → Markup → Type 0
HasAddress source nodes ix (autolink kind end bytes) = IsAddress source nodes ix end bytes
HasAddress source nodes ix (html_markup end bytes) = Unit {0}

-- this was found at a node, and can be put in place
pub record IsMarkupAt (source : List ℕ) (tables : Tables) (nodes : List (Node Item)) (ix : ℕ) (m : Markup) : Type 0
  where
    pub found : IsFoundAt source tables nodes ix (end_of_markup m)
    pub lies : LiesIn source (item_to nodes ix (end_of_markup m) (body.Text false))
    pub address : HasAddress source nodes ix m

-- the trees that replace the `<`
abbrev pub standing_for : List ℕ → Rules → Markup → Standing
standing_for source rules m a below = markup_trees (setting_of source rules) tt a m
