-- Which texts of a resolved chain are slices of the source within the ranges of their own trees: code, math, the
-- destinations of autolinks, and the names of wikilinks. Only the first tree that a wikilink shows after its pipe may
-- have a slice that begins before it, since the pipe may cut off what the tree begins with.
use Rattle.std.specs.Prelude.{◌≡◌, ℕ, ⊤, Bool, false, List, [], ◌∷◌}
use Rattle.markdown_base.specs.Event.{EventView, LinkView, code, inline_math, display_math, link, image}
use Rattle.markdown_base.specs.Forest.{Forest, nil, node}
use Rattle.markdown_base.specs.WellFormed.{IsWellFormed}
use Rattle.markdown_base.specs.declared.block_parts.BlockParts.{BlockParts}
use Rattle.markdown_base.specs.declared.item.Item.{Item}
use Rattle.markdown_base.specs.declared.node.Node.{Node}
use Rattle.markdown_base.specs.declared.tag.LinkType.{LinkType}
use Rattle.markdown_base.specs.declared.tag.LinkType.TheVariants as kind
use Rattle.markdown_document.specs.Document.{Plain, Shape, TreeNode, document, enclosed, leaf, no_notes}
use Rattle.markdown_document.specs.ChainRest.{end_of, start_of}
use Rattle.markdown_document.specs.EnclosingBlocks.{EnclosingBlocks}
use Rattle.markdown_document.specs.LinkOrigins.{destination_origin}
use Rattle.markdown_document.specs.Origins.{IsSliceWithin, IsSlicedOf, Origin, sliced}
use Rattle.markdown_document.specs.Setting.{ReferenceState, Rules, Setting, setting_of}
use Rattle.markdown_document.specs.Tables.{Tables}
use Rattle.markdown_resolver.specs.Kept.{EachChain}
use Rattle.markdown_resolver.specs.Resolved.{all_paired, resolved}

-- bytes are a slice of the source within these byte offsets, if the first of these origins says so
abbrev pub IsSlicedFirst : List ℕ → (start end : ℕ) → List Origin → List ℕ → Type 0
IsSlicedFirst source start end [] bytes = ⊤
IsSlicedFirst source start end (origin ∷ origins) bytes = IsSlicedOf source start end origin bytes

-- the text of code and of math is one, if its origin says so
abbrev pub SpanIsIn : List ℕ → (start end : ℕ) → List Origin → EventView → Type 0
SpanIsIn source start end origins (code bytes) = IsSlicedFirst source start end origins bytes
SpanIsIn source start end origins (inline_math bytes) = IsSlicedFirst source start end origins bytes
SpanIsIn source start end origins (display_math bytes) = IsSlicedFirst source start end origins bytes
SpanIsIn source start end origins other = ⊤

-- a link or an image leads to one, if it is an autolink or a wikilink
abbrev pub LinkIsIn : List ℕ → (start end : ℕ) → LinkView → Type 0
LinkIsIn source start end v = destination_origin v.kind ≡ sliced → IsSliceWithin source start end v.destination

-- what a tree of this shape over this range refers to is a slice within the range
abbrev pub IsInPlace : List ℕ → (start end : ℕ) → Shape → Type 0
IsInPlace source start end (leaf e origins) = SpanIsIn source start end origins e
IsInPlace source start end (enclosed (link v) titles) = LinkIsIn source start end v
IsInPlace source start end (enclosed (image v) titles) = LinkIsIn source start end v
IsInPlace source start end other = ⊤

-- the link is a wikilink with a pipe
abbrev pub has_pipe : LinkType → Bool
has_pipe (kind.WikiLink has_pothole) = has_pothole
has_pipe other = false

-- what is below a tree of this shape is what a wikilink shows after its pipe
abbrev pub shows_after_pipe : Shape → Bool
shows_after_pipe (enclosed (link v) titles) = has_pipe v.kind
shows_after_pipe (enclosed (image v) titles) = has_pipe v.kind
shows_after_pipe other = false

-- each tree of a chain has its slices in its own range, but for the first if a pipe may have cut it; and so have those
-- of the chains below
abbrev pub SlicesInPlace : {A : Type 0} → List ℕ → (cut : Bool) → Forest (TreeNode A) → Type 0
SlicesInPlace source cut nil = ⊤
SlicesInPlace source cut (node a below after) =
    (cut ≡ false → IsInPlace source (start_of a) (end_of a) a.part.shape)
    × SlicesInPlace source (shows_after_pipe a.part.shape) below × SlicesInPlace source false after

-- so have those of what a chain is resolved to, whatever blocks are open above it, and whatever is known when it is
-- reached
abbrev pub ResolvesInPlace : Setting → Forest Plain → Type 0
ResolvesInPlace s chain = (above : EnclosingBlocks) (state : ReferenceState)
    → SlicesInPlace s.text false (all_paired s (resolved s no_notes above chain state).forest)

-- this is true of each chain of a well-formed block result
abbrev pub DocumentSlicesLaw : Type 0
DocumentSlicesLaw = (source : List ℕ) (nodes : List (Node Item)) (parts : BlockParts) (tables : Tables) (rules : Rules)
    → IsWellFormed source nodes parts
    → EachChain (ResolvesInPlace (setting_of source rules)) (document source tables nodes)
