-- What a `]` in an arena becomes: what can be put in its place, and what was put.
use Rattle.std.specs.Prelude.{◌≡◌, ℕ, ◌<◌, ◌≤◌, ⊤, Bool, true, false, not, ◌&&◌, List, Some, None, nat_le}
use Rattle.std.specs.Str.{IsCharBoundary}
use Rattle.markdown_base.specs.Arena.{sibling_of}
use Rattle.markdown_base.specs.BlockTree.{item_at}
use Rattle.markdown_base.specs.Forest.{Forest, nil, node}
use Rattle.markdown_base.specs.declared.item.Item.{Item}
use Rattle.markdown_base.specs.declared.item.ItemBody.TheVariants as body
use Rattle.markdown_base.specs.declared.node.Node.{Node}
use Rattle.markdown_brackets.specs.BracketDecision.{BracketContext, Becomes, a_text, a_link, a_footnote, a_wikilink}
use Rattle.markdown_brackets.specs.BracketDecision.{Closing}
use Rattle.markdown_brackets.specs.BracketDecision.{Progress, past_second}
use Rattle.markdown_brackets.specs.ClosingBracket.{put}
use Rattle.markdown_brackets.specs.Finish.{SplitsAs}
use Rattle.markdown_brackets.specs.LeftList.{Entry, inside}
use Rattle.markdown_brackets.specs.HeldOpeners.{brackets_of, wikilinks_of}
use Rattle.markdown_brackets.specs.SpentEnds.{is_spent}
use Rattle.markdown_brackets.specs.declared.spent_ends.SpentEnds.{SpentEnds}
use Rattle.markdown_document.specs.ChainRest.{end_of, past, past_byte, start_of}
use Rattle.markdown_document.specs.Document.{TreeNode, is_unresolved}
use Rattle.markdown_document.specs.LinkOrigins.{destination_origin}
use Rattle.markdown_document.specs.Origins.{IsSliceWithin, made}
use Rattle.markdown_document.specs.Places.{trees_from}
use Rattle.markdown_document.specs.Tables.{Tables}
use Rattle.markdown_spans.specs.SpanClosers.{HoldsFrom, Learned}
use Rattle.markdown_spans.specs.declared.span_text.SpanKind.{SpanKind}
use Rattle.markdown_resolver.specs.Chains.{ChangesChain}
use Rattle.markdown_resolver.specs.Unread.{IsUnmade}
use Rattle.markdown_resolver.specs.PutsTrees.{numbered_from, numbered_node}
use Rattle.markdown_resolver.specs.ReadOn.{StandsTo, left_without_numbers}
use Rattle.markdown_resolver.specs.Rewritten.{Passes}
use Rattle.markdown_resolver.specs.declared.continuation.Continuation.{Continuation}

-- a `]` of an arena, with the chain after it
abbrev pub closing_at : List ℕ → Tables → List (Node Item) → SpentEnds → (could_be : Bool) → ℕ → Closing ℕ
closing_at source tables nodes spent could_be ix = record {
  node = numbered_node source tables nodes ix;
  could_be_reference = could_be && not (is_spent spent (end_of (numbered_node source tables nodes ix)));
  rest = numbered_from source tables nodes (sibling_of nodes ix);
}

-- no open item has bytes both before and after a byte offset: the first that ends past it starts there or later, or is
-- not open
abbrev pub IsNotCut : (ends : Bool) → ℕ → TreeNode ℕ → (later : Type 0) → Type 0
IsNotCut true i a later = later
IsNotCut false i a later = start_of a < i → is_unresolved a.part.shape ≡ false

-- no open item of a chain has bytes both before and after a byte offset
abbrev pub NoneOpenAround : ℕ → Forest (TreeNode ℕ) → Type 0
NoneOpenAround i nil = ⊤
NoneOpenAround i (node a below after) = IsNotCut (nat_le (end_of a) i) i a (NoneOpenAround i after)

-- the chain after a `]` can continue at a byte offset
pub record CanGoOn (source : List ℕ) (c : Closing ℕ) (byte : ℕ) : Type 0 where
  pub after : end_of c.node ≤ byte
  pub between : IsCharBoundary source byte
  pub none_around : NoneOpenAround byte c.rest

-- the first tree, if there is one, starts and ends between characters
abbrev pub FirstLies : List ℕ → Forest (TreeNode ℕ) → Type 0
FirstLies source nil = ⊤
FirstLies source (node a below after) = (start_of a ≤ end_of a) × IsCharBoundary source (start_of a)
    × IsCharBoundary source (end_of a)

-- a wikilink's name is a slice of the source from the start of the first tree of its body on
abbrev pub IsNamedIn : List ℕ → (body : Forest (TreeNode ℕ)) → (end : ℕ) → (name : List ℕ) → Type 0
IsNamedIn source nil end name = ⊥
IsNamedIn source (node a below after) end name = IsSliceWithin source (start_of a) end name

-- what a wikilink shows of its body starts and ends between characters, and is not cut where it is open
pub record ShowsWell (source : List ℕ) (body children : Forest (TreeNode ℕ)) : Type 0 where
  pub lies : FirstLies source children
  pub not_cut : (at : ℕ) → past_byte at body ≡ children → NoneOpenAround at body

-- what a `]` becomes ends between characters, at or after the end of the `]`, and no later than where the chain
-- continues; a link is neither an autolink nor a wikilink; and the name of a wikilink is a slice of its body in the
-- source
abbrev pub EndsWell : List ℕ → Closing ℕ → Becomes ℕ → Type 0
EndsWell source c a_text = ⊤
EndsWell source c (a_link o target titles end next) =
    CanGoOn source c next × IsCharBoundary source end × (end_of c.node ≤ end) × (end ≤ next)
    × (destination_origin target.kind ≡ made)
EndsWell source c (a_footnote o name) = CanGoOn source c (end_of c.node)
EndsWell source c (a_wikilink o found end) =
    CanGoOn source c end × ShowsWell source (past_second (inside o)) found.children
    × IsNamedIn source (past_second (inside o)) end found.name

-- after a left list there is a `]` of an arena, which becomes this
pub record ClosesAt (source : List ℕ) (tables : Tables) (nodes : List (Node Item)) (first closer : ℕ)
    (left : List (Entry ℕ)) (w : BracketContext) (c : Closing ℕ) (becomes : Becomes ℕ) : Type 0 where
  pub stands : StandsTo source tables nodes first (Some closer) left
  pub closes : (could_be : Bool) × ((item_at nodes closer).body ≡ body.MaybeLinkClose could_be)
  pub node_is : c.node ≡ numbered_node source tables nodes closer
  pub rest_is : c.rest ≡ numbered_from source tables nodes (sibling_of nodes closer)
  pub text_is : w.setting.text ≡ source
  pub unmade : IsUnmade (trees_from source tables nodes (sibling_of nodes closer))
  pub splits : SplitsAs left becomes
  pub ends : EndsWell source c becomes

-- what the `]` becomes was put in place
pub record PutsClosed (source : List ℕ) (first closer : ℕ) (rest : Continuation) (left : List (Entry ℕ))
    (w : BracketContext)
    (c : Closing ℕ) (becomes : Becomes ℕ) (old new : List (Node Item)) (tables tables' : Tables) : Type 0 where
  pub changes : ChangesChain source (Some first) old new tables tables'
  -- the left list that the arena holds now: what `put` gives, apart from the numbers, with the same openers
  pub left_then : List (Entry ℕ)
  pub stands : StandsTo source tables' new first rest.next left_then
  pub puts : (p : Progress ℕ) → p.left ≡ left
      → left_without_numbers left_then ≡ left_without_numbers (put w c becomes p).left
  pub brackets : (p : Progress ℕ) → p.left ≡ left → brackets_of left_then ≡ brackets_of (put w c becomes p).left
  pub wikilinks : (p : Progress ℕ) → p.left ≡ left → wikilinks_of left_then ≡ wikilinks_of (put w c becomes p).left
  -- what is left of the chain
  pub rest_is : (p : Progress ℕ) → p.goes_on ≡ None
      → trees_from source tables' new rest.next
      ≡ past (put w c becomes p).goes_on (trees_from source tables old (sibling_of old closer))
  pub passes : Passes closer rest old new
  -- what searches have learned of what follows the `]` is true of what is left
  pub holds : (kind : SpanKind) (learned : Learned) → HoldsFrom kind learned old (sibling_of old closer)
      → HoldsFrom kind learned new rest.next
