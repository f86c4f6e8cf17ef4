-- The entries that bodies refer to by number: that they exist, how often a body refers to one, and which of them stay
-- the same when tables change.
use Rattle.std.specs.Prelude.{◌≡◌, ℕ, zero, suc, ◌<◌, ◌≤◌, List, [], ◌∷◌, ◌++◌, Option, Some, None, IfSome, length}
pub use Rattle.markdown_base.specs.Item.{link_named}
use Rattle.markdown_base.specs.Item.{text_named, alignments_named, attributes_named}
use Rattle.markdown_base.specs.declared.cow_str.CowStr.{CowStr}
use Rattle.markdown_base.specs.declared.item.ItemBody.{ItemBody}
use Rattle.markdown_base.specs.BlockTree.{item_at}
use Rattle.markdown_base.specs.declared.item.Item.{Item}
use Rattle.markdown_base.specs.declared.node.Node.{Node}
use Rattle.markdown_defs.specs.Allocations.{LinkParts}
use Rattle.markdown_document.specs.Origins.{origin_at}
pub use Rattle.markdown_document.specs.Tables.{link_origins_at}
use Rattle.markdown_document.specs.Tables.{Tables, text_at, link_at, alignments_at}
use Rattle.markdown_document.specs.Totals.{same}

-- an entry that an event takes out of its table, so that no two items may refer to it. Heading attributes are copied,
-- and two headings may share them.
pub data Named : Type 0 where
  some_text : ℕ → Named
  some_link : ℕ → Named
  some_alignments : ℕ → Named

-- the number of an entry in its table
abbrev pub number_of : Named → ℕ
number_of (some_text n) = n
number_of (some_link n) = n
number_of (some_alignments n) = n

-- how many entries there are of its kind
abbrev pub size_for : Tables → Named → ℕ
size_for tables (some_text n) = length tables.cows
size_for tables (some_link n) = length tables.links
size_for tables (some_alignments n) = length tables.alignments

-- each number that a body refers to is that of an entry
pub record NamesEntries (tables : Tables) (b : ItemBody) : Type 0 where
  pub text : IfSome (text_named b) (λ n. n < length tables.cows)
  pub link : IfSome (link_named b) (λ n. n < length tables.links)
  pub alignments : IfSome (alignments_named b) (λ n. n < length tables.alignments)
  pub attributes : IfSome (attributes_named b) (λ n. (1 ≤ n) × (n ≤ length tables.headings))

-- an entry is the same in two tables; of a text, and of a link's destination and title, the origin is the same too
abbrev pub IsSameEntry : (tables tables' : Tables) → Named → Type 0
IsSameEntry tables tables' (some_text n) =
    (text_at tables'.cows n ≡ text_at tables.cows n) × (origin_at tables'.cows n ≡ origin_at tables.cows n)
IsSameEntry tables tables' (some_link n) =
    (link_at tables'.links n ≡ link_at tables.links n)
    × (link_origins_at tables'.links n ≡ link_origins_at tables.links n)
IsSameEntry tables tables' (some_alignments n) = alignments_at tables'.alignments n ≡ alignments_at tables.alignments n

-- the second tables are no shorter than the first, and have the same heading attributes, which nothing adds or takes
pub record IsNoShorter (tables tables' : Tables) : Type 0 where
  pub sizes : (n : Named) → size_for tables n ≤ size_for tables' n
  pub headings : tables'.headings ≡ tables.headings

-- tables have grown at their ends, by texts and by links
pub record HasGrown (tables tables' : Tables) : Type 0 where
  pub more_cows : List CowStr
  pub more_links : List LinkParts
  pub grown : tables' ≡ record tables { cows = tables.cows ++ more_cows; links = tables.links ++ more_links }

-- 1 where there is a number and it is this one, and otherwise 0
abbrev pub same_as : ℕ → Option ℕ → ℕ
same_as n None = 0
same_as n (Some m) = same n m

-- how often a body refers to an entry
abbrev pub times_named : Named → ItemBody → ℕ
times_named (some_text n) b = same_as n (text_named b)
times_named (some_link n) b = same_as n (link_named b)
times_named (some_alignments n) b = same_as n (alignments_named b)

-- how often a node refers to an entry
abbrev pub naming : List (Node Item) → Named → ℕ → ℕ
naming nodes n ix = times_named n (item_at nodes ix).body
