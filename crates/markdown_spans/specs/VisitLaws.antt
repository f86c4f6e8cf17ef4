-- Why the number of visits in a chain is at most its number of items: a search examines at most the items after its
-- opener, and if it succeeds, none after the closer. (Once a search has failed, later ones examine none.)
use Rattle.std.specs.Prelude.{◌≡◌, ◌+◌, ◌≤◌, true, List, ◌∷◌, ◌++◌, Some, length, is_some}
use Rattle.markdown_base.specs.declared.item.Item.{Item}
use Rattle.markdown_base.specs.declared.item.ItemBody.{ItemBody}
use Rattle.markdown_base.specs.BlockTree.{Numbered}
use Rattle.markdown_spans.specs.Closers.{Dollar, code_close, context_of, first_dollar, math_close_from}
use Rattle.markdown_spans.specs.CloserSearches.{looked_for_code_close, looked_for_math_from, searched_for_math}
use Rattle.markdown_spans.specs.SpanClosers.{item_in}

-- the law of searches for backticks
pub record CodeVisitLaw : Type 0 where
  pub within : (b : ItemBody) (after : List Numbered) → looked_for_code_close item_in b after ≤ length after
  pub before : (b : ItemBody) (passed later : List Numbered) (closer : Numbered)
      → code_close item_in b (passed ++ closer ∷ later) ≡ Some closer
      → looked_for_code_close item_in b (passed ++ closer ∷ later) + length later ≤ length (passed ++ closer ∷ later)

-- the law of searches for a `$`
pub record MathVisitLaw : Type 0 where
  pub within : (opener : Item) (after : List Numbered) → looked_for_math_from item_in opener after ≤ length after
  pub before : (opener : Item) (after : List Numbered) (d : Dollar Numbered)
      → is_some (math_close_from item_in opener after) ≡ true
      → first_dollar item_in (context_of opener.body) (searched_for_math item_in after) ≡ Some d
      → looked_for_math_from item_in opener after + length d.after ≤ length after
