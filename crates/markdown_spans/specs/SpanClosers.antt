-- What searches for closers of spans find in a chain of an arena, what they have learned about it, and the number of
-- items that they examine.
use Rattle.std.specs.Prelude.{◌≡◌, ℕ, ◌<◌, Bool, not, ◌&&◌, ◌||◌, List, [], ◌∷◌, ◌++◌, Option}
use Rattle.std.specs.Prelude.{Some, None, is_some, length}
use Rattle.std.specs.Option.{option_map}
use Rattle.markdown_base.specs.declared.item.Item.{Item}
use Rattle.markdown_base.specs.declared.node.Node.{Node}
use Rattle.markdown_base.specs.Arena.{sibling_of}
use Rattle.markdown_base.specs.BlockTree.{Numbered, item_at}
use Rattle.markdown_document.specs.Counts.{RisesAtMost, risen}
use Rattle.markdown_spans.specs.ChainInArena.{HasChain, LeadsThrough}
use Rattle.markdown_spans.specs.Closers.{MathClose, code_close, math_close_from}
use Rattle.markdown_spans.specs.CloserSearches.{looked_for_code_close, looked_for_math_from}
use Rattle.markdown_spans.specs.SpanMarks.{known_closers, marks_in}
use Rattle.markdown_spans.specs.declared.span_closers.FoundMath.{FoundMath}
use Rattle.markdown_spans.specs.declared.span_marks.KnownCloser.{KnownCloser}
use Rattle.markdown_spans.specs.declared.span_text.SpanKind.{SpanKind}

-- a numbered item without its number
abbrev pub item_in : Numbered → Item
item_in a = a.item

-- what closes math, by the numbers of nodes
abbrev pub found_math : MathClose Numbered → FoundMath
found_math m = record { display = m.display; closer = m.closer.number; last = m.last.number }

-- a count rises by n, up to its maximum
abbrev pub RisesBy : ℕ → (old new : ℕ) → Type 0
RisesBy n old new = new ≡ risen n old

-- the number of the node that closes the code span that a node opens
abbrev pub ClosesCode : List (Node Item) → (opener : ℕ) → Option ℕ → Type 0
ClosesCode nodes opener found =
    (low : ℕ) (after : List Numbered) → LeadsThrough nodes low (sibling_of nodes opener) after
    → option_map (λ a. a.number) (code_close item_in (item_at nodes opener).body after) ≡ found

-- what closes the math span that a node opens
abbrev pub ClosesMath : List (Node Item) → (opener : ℕ) → Option FoundMath → Type 0
ClosesMath nodes opener found =
    (low : ℕ) (after : List Numbered) → LeadsThrough nodes low (sibling_of nodes opener) after
    → option_map found_math (math_close_from item_in (item_at nodes opener) after) ≡ found

-- the numbers that were found are those of nodes
pub record StandsIn (nodes : List (Node Item)) (found : FoundMath) : Type 0 where
  pub closer : found.closer < length nodes
  pub last : found.last < length nodes

-- what searches have learned about a chain: nothing until one fails, and then closers of its marks
abbrev pub Learned : Type 0
Learned = Option (List KnownCloser)

-- a search has failed
abbrev pub has_failed : Learned → Bool
has_failed learned = is_some learned

-- a search has failed by now: an earlier one, or this one, if there was one
abbrev pub failed_by_now : (before : Learned) → (searched found : Bool) → Bool
failed_by_now before searched found = has_failed before || (searched && not found)

-- the number of items that a search examines: none once an earlier search has failed
abbrev pub unless_failed : Learned → ℕ → ℕ
unless_failed None looked = looked
unless_failed (Some closers) looked = 0

-- a search for the end of code examines exactly the items that the definition counts
abbrev pub LooksForCode : Learned → List (Node Item) → (opener : ℕ) → ℕ → ℕ → Type 0
LooksForCode learned nodes opener visits visits' =
    (low : ℕ) (after : List Numbered) → LeadsThrough nodes low (sibling_of nodes opener) after
    → RisesBy (unless_failed learned (looked_for_code_close item_in (item_at nodes opener).body after)) visits visits'

-- a search for the end of math examines exactly the items that the definition counts
abbrev pub LooksForMath : Learned → List (Node Item) → (opener : ℕ) → ℕ → ℕ → Type 0
LooksForMath learned nodes opener visits visits' =
    (low : ℕ) (after : List Numbered) → LeadsThrough nodes low (sibling_of nodes opener) after
    → RisesBy (unless_failed learned (looked_for_math_from item_in (item_at nodes opener) after)) visits visits'

-- a search for the end of code examines at most those items
abbrev pub LooksForCodeAtMost : Learned → List (Node Item) → (opener : ℕ) → ℕ → ℕ → Type 0
LooksForCodeAtMost learned nodes opener visits visits' =
    (low : ℕ) (after : List Numbered) → LeadsThrough nodes low (sibling_of nodes opener) after
    → RisesAtMost (unless_failed learned (looked_for_code_close item_in (item_at nodes opener).body after)) visits
    visits'

-- a search for the end of math examines at most those items
abbrev pub LooksForMathAtMost : Learned → List (Node Item) → (opener : ℕ) → ℕ → ℕ → Type 0
LooksForMathAtMost learned nodes opener visits visits' =
    (low : ℕ) (after : List Numbered) → LeadsThrough nodes low (sibling_of nodes opener) after
    → RisesAtMost (unless_failed learned (looked_for_math_from item_in (item_at nodes opener) after)) visits visits'

-- a number is less than those of a chain
abbrev pub IsBefore : List Numbered → ℕ → Type 0
IsBefore [] number = Unit {0}
IsBefore (a ∷ after) number = number < a.number

-- all these marks precede this chain
abbrev pub AllBefore : List Numbered → List KnownCloser → Type 0
AllBefore chain [] = Unit {0}
AllBefore chain (k ∷ known) = IsBefore chain k.number × AllBefore chain known

-- the known closers are those of the marks of a chain, perhaps after known closers of earlier marks
pub record KnowsClosers (kind : SpanKind) (known : List KnownCloser) (chain : List Numbered) : Type 0 where
  pub passed : List KnownCloser
  pub before : AllBefore chain passed
  pub closers : known ≡ passed ++ known_closers (marks_in kind chain)

-- what was learned holds for a chain
abbrev pub HoldsOf : SpanKind → Learned → List Numbered → Type 0
HoldsOf kind None chain = Unit {0}
HoldsOf kind (Some known) chain = KnowsClosers kind known chain

-- what was learned holds for the chain from a link on
abbrev pub HoldsFrom : SpanKind → Learned → List (Node Item) → Option ℕ → Type 0
HoldsFrom kind learned nodes link =
    (low : ℕ) (chain : List Numbered) → LeadsThrough nodes low link chain → HoldsOf kind learned chain

-- the chain from an opener on can be searched: what was learned holds for it
pub record CanSearch (kind : SpanKind) (learned : Learned) (nodes : List (Node Item)) (opener : ℕ) : Type 0 where
  pub chain : HasChain nodes (Some opener)
  pub holds : HoldsFrom kind learned nodes (Some opener)
