-- What is true of each item of a block result, and remains so while chains are resolved: the rules of a block result
-- that resolving relies on.
use Rattle.std.specs.Prelude.{◌≡◌, ℕ, true, false, List, Option, None, IfSome}
use Rattle.std.proofs.Props.{props}
use Rattle.markdown_base.specs.BlockTree.{Numbered}
use Rattle.markdown_base.specs.Item.{is_block, is_open}
use Rattle.markdown_base.specs.OneWay.{StandsOverMarkup-prop, StandsInRun-prop, link-set}
use Rattle.markdown_base.specs.WellFormed.{Precedes, MarkupIsThere, RunsAreWhole, source_of}

-- of two neighbours that are not blocks, the first precedes the second, in the text and by its number
abbrev pub ComesBefore : Numbered → Option Numbered → Type 0
ComesBefore a next = IfSome next (λ b. is_block a.item.body ≡ false → is_block b.item.body ≡ false → Precedes a b)

-- the rules of an item, with its first child and the item after it
pub record KeepsItemRules (text : List ℕ) (a : Numbered) (child : Option ℕ) (next : Option Numbered) : Type 0 where
  pub in_order : ComesBefore a next
  pub markup_is_there : MarkupIsThere text a.item
  pub runs_are_whole : RunsAreWhole text a next
  -- an open item has no children
  pub childless : is_open a.item.body ≡ true → child ≡ None

-- that an item keeps the rules has at most one proof
pub KeepsItemRules-prop : (text : List ℕ) (a : Numbered) (child : Option ℕ) (next : Option Numbered)
    → IsProp (KeepsItemRules text a child next)
KeepsItemRules-prop text a child next =
    let markup = StandsOverMarkup-prop (source_of text a.item) a.item.body in
    let run = StandsInRun-prop text a next in
    let link = link-set child None in
    hlevel (props, markup, run, link)
