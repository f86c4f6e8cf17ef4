-- A code span that is put in the place of its opener: the terms of private contracts.
use Rattle.std.specs.Prelude.{ℕ, ◌<◌, ◌+◌, Bool, true, false, List, length}
use Rattle.markdown_base.specs.BlockTree.{item_at}
use Rattle.markdown_base.specs.declared.item.Item.{Item}
use Rattle.markdown_base.specs.declared.item.ItemBody.{ItemBody}
use Rattle.markdown_base.specs.declared.item.ItemBody.TheVariants as body
use Rattle.markdown_base.specs.declared.node.Node.{Node}
use Rattle.markdown_document.specs.Tables.{Tables}
use Rattle.markdown_document.specs.NamedEntries.{HasGrown}
use Rattle.markdown_spans.specs.Finds.{is_escaped}
use Rattle.markdown_resolver.specs.Rewritten.{CanPut, CanPutPair, IsFoundAt, Standing, one_item, pair}

-- the first backtick of an opener, as a Text
abbrev pub first_backtick : Item → Item
first_backtick opener = record { start = opener.start; end = opener.start + 1; body = body.Text false }

-- an item from an opener up to the end of its closer
abbrev pub span_item : (opener closer : Item) → ItemBody → Item
span_item opener closer b = record { start = opener.start; end = closer.end; body = b }

-- an item from after the opener's first backtick, which is escaped, up to the end of its closer
abbrev pub span_past_backtick : (opener closer : Item) → ItemBody → Item
span_past_backtick opener closer b = record { start = opener.start + 1; end = closer.end; body = b }

-- the trees of a code span, with a Text for the first backtick where it is escaped
abbrev pub code_standing : List ℕ → Tables → (escaped : Bool) → (opener closer : Item) → ItemBody → Standing
code_standing source tables false opener closer b = one_item source tables (span_item opener closer b)
code_standing source tables true opener closer b =
    pair source tables (first_backtick opener) (span_past_backtick opener closer b)

-- the items of these trees can be put in place
abbrev pub CanPutSpan : List ℕ → (tables tables' : Tables) → List (Node Item) → (ix closer : ℕ) → ItemBody
    → (escaped : Bool) → Type 0
CanPutSpan source tables tables' nodes ix closer b false =
    CanPut source tables tables' (span_item (item_at nodes ix) (item_at nodes closer) b)
CanPutSpan source tables tables' nodes ix closer b true =
    CanPutPair source tables tables' nodes ix closer
    (first_backtick (item_at nodes ix)) (span_past_backtick (item_at nodes ix) (item_at nodes closer) b)

-- a code span can be put into the node of its opener
pub record CanPutCode (source : List ℕ) (tables tables' : Tables) (nodes : List (Node Item)) (ix closer : ℕ)
    (b : ItemBody) : Type 0 where
  pub grown : HasGrown tables tables'
  pub found : IsFoundAt source tables nodes ix (item_at nodes closer).end
  pub closer_within : closer < length nodes
  pub opener_within : ix < length nodes
  pub span : CanPutSpan source tables tables' nodes ix closer b (is_escaped (item_at nodes ix).body)
