-- Where the body of a wikilink begins in an arena.
use Rattle.std.specs.Prelude.{ℕ, ◌==◌, ◌<◌, List, Option, Some, None, IfSome, if◌then◌else◌, length}
use Rattle.std.specs.Option.{option_and_then}
use Rattle.std.specs.Str.{IsCharBoundary}
use Rattle.markdown_base.specs.Arena.{sibling_of}
use Rattle.markdown_base.specs.BlockTree.{item_at}
use Rattle.markdown_base.specs.declared.item.Item.{Item}
use Rattle.markdown_base.specs.declared.node.Node.{Node}
use Rattle.markdown_brackets.specs.ChainAhead.{IsChain}

-- a node, unless it is the `]`
abbrev pub unless_is : ℕ → Option ℕ → Option ℕ
unless_is closer None = None
unless_is closer (Some ix) = if ix == closer then None else Some ix

-- the second node after an opener, if both precede the `]`
abbrev pub body_start : List (Node Item) → (opener closer : ℕ) → Option ℕ
body_start nodes opener closer =
    option_and_then (λ ix. unless_is closer (sibling_of nodes ix)) (unless_is closer (sibling_of nodes opener))

-- a wikilink can be searched for: the body's first item and the `]` start between characters of the text
pub record CanFindWikilink (nodes : List (Node Item)) (text : List ℕ) (opener closer : ℕ) : Type 0 where
  pub opens : opener < length nodes
  pub closes : closer < length nodes
  pub starts : IfSome (body_start nodes opener closer) (λ first.
      IsChain nodes (Some first) × IsCharBoundary text (item_at nodes first).start)
  pub stops : IsCharBoundary text (item_at nodes closer).start
