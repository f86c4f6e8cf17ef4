-- The opener that a `]` becomes something with is in the left list, and what is added there takes off waiting openers.
use Rattle.std.specs.Prelude.{◌≡◌, ℕ, ◌<◌, ◌++◌, ⊤, List, [], ◌∷◌}
use Rattle.markdown_base.specs.Forest.{Forest, nil, roots}
use Rattle.markdown_document.specs.Document.{TreeNode}
use Rattle.markdown_brackets.specs.BracketDecision.{Becomes, a_text, a_link, a_footnote, a_wikilink}
use Rattle.markdown_brackets.specs.ChainHeld.{numbers_of}
use Rattle.markdown_brackets.specs.LeftList.{Entry, waits, OpenerState, Split, trees_onto}

-- the left list, from which openers that were tried may have been taken off, still contains the opener: the entries
-- after it have the same trees, and those before it are the same
pub record IsSplit (left : List (Entry ℕ)) (o : Split ℕ) : Type 0 where
  pub after_then : List (Entry ℕ)
  pub mark_then : OpenerState
  pub left_is : left ≡ after_then ++ waits mark_then o.opener ∷ o.before
  pub same_trees : (later : Forest (TreeNode ℕ)) → trees_onto after_then later ≡ trees_onto o.after later

-- the opener of what a `]` becomes is in the left list
abbrev pub SplitsAs : List (Entry ℕ) → Becomes ℕ → Type 0
SplitsAs left a_text = ⊤
SplitsAs left (a_link o target titles end next) = IsSplit left o
SplitsAs left (a_footnote o name) = IsSplit left o
SplitsAs left (a_wikilink o found end) = IsSplit left o

-- all numbers are greater than n
abbrev pub AreNumbersAfter : ℕ → List ℕ → Type 0
AreNumbersAfter n [] = ⊤
AreNumbersAfter n (m ∷ numbers) = (n < m) × AreNumbersAfter n numbers

-- numbers rise
abbrev pub AreRising : List ℕ → Type 0
AreRising [] = ⊤
AreRising (n ∷ numbers) = AreNumbersAfter n numbers × AreRising numbers

-- the numbers of the trees of a left list rise
abbrev pub LeftRises : List (Entry ℕ) → Type 0
LeftRises left = AreRising (roots (numbers_of (trees_onto left nil)))
