-- The place of a chain, as a `ChainPlace` represents it.
use Rattle.std.specs.Prelude.{◌≡◌, ℕ, List, Some}
use Rattle.std.specs.Str.{IsCharBoundary, IsUtf8}
use Rattle.markdown_base.specs.Arena.{Arena}
use Rattle.markdown_base.specs.Syntax.{gfm_footnotes}
use Rattle.markdown_base.specs.declared.item.Item.{Item}
use Rattle.markdown_brackets.specs.LeftList.{Entry}
use Rattle.markdown_brackets.specs.Openers.{Waiting}
use Rattle.markdown_document.specs.ResolverStates.{above_cursor}
use Rattle.markdown_document.specs.Places.{trees_from}
use Rattle.markdown_document.specs.Tables.{tables_of}
use Rattle.markdown_spans.specs.ContainerPrefix.{prefix_length}
use Rattle.markdown_spans.specs.PrefixView.{bodies_of}
use Rattle.markdown_resolver.specs.Chains.{AreAbove, CanResolve}
use Rattle.markdown_resolver.specs.Unread.{IsUnread}
use Rattle.markdown_resolver.specs.ReadOn.{AreHeld, StandsTo}
use Rattle.markdown_document.specs.declared.chain_place.ChainPlace.{ChainPlace}
use Rattle.markdown_defs.specs.Allocations.{Allocated}

-- the place is that of the chain at the cursor of a tree
pub record IsPlaceOf (place : ChainPlace) (tree : Arena Item) : Type 0 where
  pub block_end : place.block_end ≡ (above_cursor place.text.now tree).block_end
  pub in_table : place.in_table ≡ (above_cursor place.text.now tree).in_table
  -- its containers have the prefixes of all blocks above it
  pub containers : (bytes : List ℕ)
      → prefix_length (gfm_footnotes place.syntax) (bodies_of place.containers.now) bytes
      ≡ prefix_length (gfm_footnotes place.syntax) (above_cursor place.text.now tree).bodies bytes
  pub boundary : IsCharBoundary place.text.now place.block_end
  pub utf8 : IsUtf8 place.text.now

-- the item of a node at this place can be read
pub record CanReadItem (place : ChainPlace) (tree : Arena Item) (held : Allocated) (ix : ℕ) : Type 0 where
  pub stands : IsPlaceOf place tree
  pub ready : CanResolve place.text.now (tables_of held) tree.nodes (Some ix)
  pub unread : IsUnread (trees_from place.text.now (tables_of held) tree.nodes (Some ix))
  pub above : AreAbove place.text.now tree.nodes (Some ix) tree.spine

-- a chain was read up to the item of a node, which can be read: from the node `first` on is a left list, whose openers
-- are in two stacks
pub record CanReadOn (place : ChainPlace) (tree : Arena Item) (held : Allocated) (brackets wikilinks : List Waiting)
    (first ix : ℕ) (left : List (Entry ℕ)) : Type 0 where
  pub stands : IsPlaceOf place tree
  pub above : AreAbove place.text.now tree.nodes (Some first) tree.spine
  pub so_far : StandsTo place.text.now (tables_of held) tree.nodes first (Some ix) left
  pub unread : IsUnread (trees_from place.text.now (tables_of held) tree.nodes (Some ix))
  pub openers : AreHeld brackets wikilinks left
