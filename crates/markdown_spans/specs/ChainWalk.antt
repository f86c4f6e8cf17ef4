-- A search along a chain of an arena for the next mark with the wanted key.
use Rattle.std.specs.Prelude.{◌≡◌, ℕ, Bool, true, false, List, [], ◌∷◌, ◌++◌, Option, length}
use Rattle.markdown_base.specs.declared.item.Item.{Item}
use Rattle.markdown_base.specs.declared.node.Node.{Node}
use Rattle.markdown_base.specs.BlockTree.{Numbered}
use Rattle.markdown_spans.specs.ChainInArena.{LeadsThrough}
use Rattle.markdown_spans.specs.SpanClosers.{RisesBy}
use Rattle.markdown_spans.specs.SpanMarks.{is_wanted, mark_at, marks_in}
use Rattle.markdown_spans.specs.declared.span_marks.SpanMark.{SpanMark}
use Rattle.markdown_spans.specs.declared.span_text.SpanKind.{SpanKind}

-- an item is a mark with the wanted key
abbrev pub is_sought : SpanKind → Option ℕ → Numbered → Bool
is_sought kind wanted a = is_wanted wanted (mark_at kind a.number a.item.body)

-- none of these items is such a mark
abbrev pub NoneSought : SpanKind → Option ℕ → List Numbered → Type 0
NoneSought kind wanted [] = Unit {0}
NoneSought kind wanted (a ∷ after) = (is_sought kind wanted a ≡ false) × NoneSought kind wanted after

-- the first of these items, if any, is such a mark
abbrev pub FirstIsSought : SpanKind → Option ℕ → List Numbered → Type 0
FirstIsSought kind wanted [] = Unit {0}
FirstIsSought kind wanted (a ∷ after) = is_sought kind wanted a ≡ true

-- 1 if the list is not empty, and 0 otherwise
abbrev pub one_of : {A : Type 0} → List A → ℕ
one_of [] = 0
one_of (a ∷ after) = 1

-- the search has passed items of a chain, none of which is such a mark: each was examined, and the marks among them
-- were recorded
pub record Passes (kind : SpanKind) (wanted : Option ℕ) (nodes : List (Node Item)) (chain : List Numbered)
    (link : Option ℕ)
    (old new : List SpanMark) (visits visits' : ℕ) : Type 0 where
  pub passed : List Numbered
  pub rest : List Numbered
  pub parts : chain ≡ passed ++ rest
  pub none : NoneSought kind wanted passed
  pub notes : new ≡ old ++ marks_in kind passed
  pub counts : RisesBy (length passed) visits visits'
  pub low : ℕ
  pub leads : LeadsThrough nodes low link rest

-- the search has passed such items and is at the first such mark, which was examined too, or at the end
pub record WalksTo (kind : SpanKind) (wanted : Option ℕ) (nodes : List (Node Item)) (chain : List Numbered)
    (found : Option ℕ)
    (old new : List SpanMark) (visits visits' : ℕ) : Type 0 where
  pub before : ℕ
  pub passes : Passes kind wanted nodes chain found old new visits before
  pub stops : FirstIsSought kind wanted passes.rest
  pub counts : RisesBy (one_of passes.rest) before visits'

-- the search has examined some items, none of which is such a mark, and no others
pub record LooksAlong (kind : SpanKind) (wanted : Option ℕ) (chain : List Numbered) (visits visits' : ℕ) : Type 0 where
  pub passed : List Numbered
  pub rest : List Numbered
  pub parts : chain ≡ passed ++ rest
  pub none : NoneSought kind wanted passed
  pub counts : RisesBy (length passed) visits visits'
