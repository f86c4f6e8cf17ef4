-- The part of a chain of an arena whose quotes have been read, and the rest.
use Rattle.std.specs.Prelude.{◌≡◌, ℕ, ◌⊎◌, Bool, ◌==◌, List, if◌then◌else◌, Option, Some, None}
use Rattle.std.specs.Prelude.{IfSome, is_some}
use Rattle.markdown_base.specs.declared.item.Item.{Item}
use Rattle.markdown_base.specs.declared.node.Node.{Node}
use Rattle.markdown_base.specs.Arena.{Arena, sibling_of}
use Rattle.markdown_base.specs.ArenaForest.{links_of, Spells}
use Rattle.markdown_base.specs.BlockTree.{numbered}
use Rattle.markdown_base.specs.Forest.{Forest, nil, node, roots, relabelled}
use Rattle.markdown_document.specs.Document.{TreeNode, shaped}
use Rattle.markdown_document.specs.Setting.{Setting}
use Rattle.markdown_document.specs.Tables.{Tables}
use Rattle.markdown_delims.specs.declared.quotes.Kind.{Kind}
use Rattle.markdown_delims.specs.declared.quotes.OpenQuotes.{OpenQuotes}
use Rattle.markdown_delims.specs.ChainReading.{is_among, labels, IsSpelled}
use Rattle.markdown_delims.specs.ChainStanding.{Chain, view, read_back}
use Rattle.markdown_delims.specs.Quotes.{kind_of_shape, is_closed_later, is_end, left_single, quotes_after, with_quotes}
use Rattle.markdown_delims.specs.RunReading.{delimiters_of}
use Rattle.markdown_delims.specs.Views.{Cut, Kept, AllTouched}

-- a number is that of a tree of a left list that is no block
abbrev pub IsRoot : ℕ → Forest (TreeNode ℕ) → Type 0
IsRoot ix nil = ⊥
IsRoot ix (node a below before) = ((a.note ≡ ix) × (a.part.block ≡ None)) ⊎ IsRoot ix before

-- the left list with a left quotation mark at the tree of a number
abbrev pub left_quoted : ℕ → Forest (TreeNode ℕ) → Forest (TreeNode ℕ)
left_quoted ix nil = nil
left_quoted ix (node a below before) = if a.note == ix then node (shaped left_single a) below before
    else node a below (left_quoted ix before)

-- the left list, in which the remembered `'` is a left quotation mark if it is closed later
abbrev pub remembered_as : Option ℕ → Bool → Forest (TreeNode ℕ) → Forest (TreeNode ℕ)
remembered_as None later read = read
remembered_as (Some ix) later read = if later then left_quoted ix read else read

-- the whole chain, from the part that was read and the rest
abbrev pub quoted_from : Option ℕ → Bool → Forest (TreeNode ℕ) → Forest (TreeNode ℕ) → Forest (TreeNode ℕ)
quoted_from single double read rest = read_back (remembered_as single (is_closed_later rest) read)
    (quotes_after (is_some single) double rest)

-- what was read of the chain is a left list, which contains the remembered `'`
pub record QuotesStand (h : Chain) (s : Arena Item) (read : Forest (TreeNode ℕ)) (single l : Option ℕ)
    (rest : Forest (TreeNode ℕ)) : Type 0 where
  pub cut : Cut h.touched (view h s) h.first read l rest h.bound
  pub remembered : IfSome single (λ ix. IsRoot ix read)
  pub left_touched : AllTouched h.touched read
  pub rest_touched : AllTouched h.touched rest

-- a tree was read, and the whole chain becomes the same
pub record QuotesOn (h : Chain) (s t : Arena Item) (begun whole : Forest (TreeNode ℕ)) (single : Option ℕ)
    (double : Bool) (single' : Option ℕ) (double' : Bool) (l : Option ℕ) (rest : Forest (TreeNode ℕ)) : Type 0 where
  pub read : Forest (TreeNode ℕ)
  pub stands : QuotesStand h t read single' l rest
  pub kept : Kept h.touched s t
  pub same : quoted_from single' double' read rest ≡ quoted_from single double begun whole

-- the first tree of the rest, which is of this kind, is read
abbrev pub QuotesTree : Kind → ℕ → Bool → Arena Item → Arena Item → OpenQuotes → OpenQuotes → Type 0
QuotesTree kind ix last s t opened opened' =
    (h : Chain) (begun : Forest (TreeNode ℕ)) (a : TreeNode ℕ) (below after : Forest (TreeNode ℕ))
    → QuotesStand h s begun opened.single (Some ix) (node a below after) → kind ≡ kind_of_shape a.part.shape
    → last ≡ is_end after
    → QuotesOn h s t begun (node a below after) opened.single opened.double opened'.single opened'.double
    (sibling_of s.nodes ix) after

-- there is such a tree
pub record CanQuote (ix : ℕ) (s : Arena Item) (single : Option ℕ) : Type 0 where
  pub chain : Chain
  pub begun : Forest (TreeNode ℕ)
  pub rest : Forest (TreeNode ℕ)
  pub stands : QuotesStand chain s begun single (Some ix) rest

-- the links still lead through the same nodes, with their quotes replaced, and no other node has changed
pub record IsQuoted (s : Setting) (tables : Tables) (old new : Arena Item) (first : ℕ) (f : Forest ℕ) : Type 0 where
  pub spelled : Spells (links_of new.nodes) (Some first) f
  pub quotes : labels s tables new.nodes f ≡ with_quotes (labels s tables old.nodes f)
  pub kept : Kept (is_among (roots f)) old new

-- there is a chain from `first` on
pub record CanQuoteChain (nodes : List (Node Item)) (first : ℕ) : Type 0 where
  pub setting : Setting
  pub forest : Forest ℕ
  pub is : IsSpelled nodes first forest

-- the quotes of any such chain are replaced
abbrev pub QuotesChain : Arena Item → Arena Item → ℕ → Type 0
QuotesChain old new first =
    (s : Setting) (tables : Tables) (f : Forest ℕ) → IsSpelled old.nodes first f → IsQuoted s tables old new first f

-- its delimiter characters are counted
abbrev pub Counts : List (Node Item) → ℕ → ℕ → Type 0
Counts nodes first count =
    (f : Forest ℕ) → IsSpelled nodes first f → count ≡ delimiters_of (relabelled (numbered nodes) f)
