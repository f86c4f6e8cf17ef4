-- The decision at a `]` of an arena, with stacks of waiting openers.
use Rattle.std.specs.Prelude.{◌≡◌, ℕ, ◌<◌, ◌≤◌, length, ◌++◌, ◌||◌, ◌-◌, List, [], ◌∷◌, Option, Some}
use Rattle.markdown_base.specs.ArenaForest.{links_of, forest_at}
use Rattle.markdown_base.specs.Forest.{nil, node}
use Rattle.markdown_base.specs.Questions.{Question, Answer, Answers}
use Rattle.markdown_base.specs.declared.item.Item.{Item}
use Rattle.markdown_base.specs.declared.node.Node.{Node}
use Rattle.markdown_document.specs.ChainRest.{start_of, end_of}
use Rattle.markdown_document.specs.Tables.{Tables}
use Rattle.markdown_defs.specs.Callback.{Asks}
use Rattle.markdown_brackets.specs.BracketDecision.{BracketContext, Becomes, Closing, Progress, decided, to_be}
use Rattle.markdown_brackets.specs.ChainHeld.{Holds, numbers_of, times_of}
use Rattle.markdown_brackets.specs.DecisionView.{IsBecome, knowing}
use Rattle.markdown_brackets.specs.Finish.{SplitsAs}
use Rattle.markdown_brackets.specs.LeftList.{Entry, trees_onto}
use Rattle.markdown_brackets.specs.HeldOpeners.{brackets_of, wikilinks_of}
use Rattle.markdown_brackets.specs.Openers.{Waiting}
use Rattle.markdown_brackets.specs.ReadChain.{among}
use Rattle.markdown_brackets.specs.SpentEnds.{is_spent}
use Rattle.markdown_brackets.specs.WikilinkNodes.{CanFindWikilink}
use Rattle.markdown_brackets.specs.declared.chain_openers.ChainOpeners.{ChainOpeners}
use Rattle.markdown_brackets.specs.declared.closing_bracket.ClosedBracket.{ClosedBracket}
use Rattle.markdown_brackets.specs.declared.spent_ends.SpentEnds.{SpentEnds}
use Rattle.markdown_document.specs.declared.chain_place.ChainPlace.{ChainPlace}
use Rattle.std.specs.Str.{IsCharBoundary}
use Rattle.markdown_base.specs.Arena.{sibling_of}
use Rattle.markdown_base.specs.BlockTree.{item_at}
use Rattle.markdown_brackets.specs.ChainAhead.{IsChain, starts_from}

-- the `]` of a node can be read, and a label to it from a byte offset: the `]` is in a chain, it ends between
-- characters, as each item after it starts, and the label's `[` precedes it
pub record CanRead (nodes : List (Node Item)) (place : ChainPlace) (closer start : ℕ) : Type 0 where
  pub within : closer < length nodes
  pub chain : IsChain nodes (sibling_of nodes closer)
  pub block : IsCharBoundary place.text.now place.block_end
  pub later : (n s : ℕ) → starts_from nodes (sibling_of nodes closer) n ≡ Some s
      → IsCharBoundary place.text.now s
  pub some : 0 < (item_at nodes closer).end
  pub opens : IsCharBoundary place.text.now start
  pub closes : IsCharBoundary place.text.now (item_at nodes closer).end
  pub order : start ≤ (item_at nodes closer).end

-- an opener can be tried: it is a node, it has bytes, and its `[` is at a byte offset from which the text can be read
pub record CanTry (nodes : List (Node Item)) (place : ChainPlace) (closer opener : ℕ) : Type 0 where
  pub within : opener < length nodes
  pub opens : (item_at nodes opener).start < (item_at nodes opener).end
  pub reads : CanRead nodes place closer ((item_at nodes opener).end - 1)

-- p holds for each waiting opener
abbrev pub EachOpener : (ℕ → Type 0) → List Waiting → Type 0
EachOpener p [] = Unit {0}
EachOpener p (t ∷ held) = p t.opener.node × EachOpener p held

-- it can be decided what the `]` of a node becomes: each opener that waits can be tried
pub record CanDecide (nodes : List (Node Item)) (place : ChainPlace) (closer : ℕ) (openers : ChainOpeners) : Type 0
  where
    pub within : closer < length nodes
    pub brackets : EachOpener (CanTry nodes place closer) openers.brackets
    pub wikilinks : EachOpener (λ n. CanFindWikilink nodes place.text.now n closer) openers.wikilinks

-- an arena contains a left list, followed by the `]` of a node and a chain, with no node twice
pub record StandsBefore (nodes : List (Node Item)) (closer : ℕ) (left : List (Entry ℕ)) (c : Closing ℕ) : Type 0 where
  pub source : List ℕ
  pub tables : Tables
  pub first : Option ℕ
  pub holds : Holds source tables nodes first (trees_onto left (node c.node nil c.rest))
  pub found : forest_at (links_of nodes) first ≡ numbers_of (trees_onto left (node c.node nil c.rest))
  pub once : (n : ℕ) → times_of n (trees_onto left (node c.node nil c.rest)) ≤ 1
  pub number : c.node.note ≡ closer
  pub order : start_of c.node ≤ end_of c.node

-- the decision: the callback answered these questions, at most one, and the result is what the rules say whatever
-- answers follow, which are left; the stacks contain the openers that are left
pub record Decides {C : Type 0} (step : C → Question → Option Answer → C → Type 0) (w : BracketContext) (c : Closing ℕ)
    (left : List (Entry ℕ)) (limit limit' : ℕ) (uses uses' : List ℕ → ℕ) (spent spent' : SpentEnds)
    (callback callback' : Option C) (brackets wikilinks : List Waiting) (found : ClosedBracket) : Type 0 where
  pub answers : Answers
  pub questions : List Question
  pub asked : Asks step callback questions answers callback'
  pub becomes : Becomes ℕ
  pub is : IsBecome w becomes found
  pub left_then : List (Entry ℕ)
  pub splits : SplitsAs left_then becomes
  pub more : List ℕ
  pub decides : (p : Progress ℕ) (later : Answers)
      → decided w c (knowing limit (answers ++ later) uses (record p { left = left }))
      ≡ to_be becomes (record (knowing limit' later uses' p)
      { left = left_then; spent = more ++ p.spent; asked = p.asked ++ questions })
  pub spends : (end : ℕ) → is_spent spent' end ≡ (among end more || is_spent spent end)
  pub brackets_are : brackets ≡ brackets_of left_then
  pub wikilinks_are : wikilinks ≡ wikilinks_of left_then
