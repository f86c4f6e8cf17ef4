-- Well-formed block results: the nine rules that every block pass keeps, and every traversal relies on. Rules 2 to 9
-- concern an item, the forest below it and the item after it (`KeepsRules`); the parts of rules 4 and 8 that concern
-- more are in `IsWellFormed`. The root is not an item: its own range and body are not restricted.
use Rattle.std.specs.Prelude.{◌≡◌, ℕ, zero, suc, ◌<◌, ◌≤◌, Bool, true, false, IsTrue, ◌==◌, ◌||◌, List, [], ◌∷◌, Option}
use Rattle.std.specs.Prelude.{Some, None, IfSome, nat_eq, codes, length, replicate, slice_index, slice_range}
use Rattle.std.specs.List.{IsDistinct, filter_map, list_all, list_any}
use Rattle.markdown_base.specs.declared.block_parts.BlockParts.{BlockParts}
use Rattle.markdown_base.specs.declared.item.Item.{Item}
use Rattle.markdown_base.specs.declared.item.ItemBody.{ItemBody}
use Rattle.markdown_base.specs.declared.item.ItemBody.TheVariants as body
use Rattle.markdown_base.specs.declared.node.Node.{Node}
use Rattle.markdown_base.specs.Arena.{child_of}
use Rattle.markdown_base.specs.ArenaForest.{links_of, Spells, numbers_below}
use Rattle.markdown_base.specs.BlockTree.{Numbered, tree_of}
use Rattle.markdown_base.specs.Bytes.{apostrophe, asterisk, backtick, caret, double_quote, tilde, underscore}
use Rattle.markdown_base.specs.Forest.{Forest, nil, Throughout, preorder, roots, first_root}
use Rattle.markdown_base.specs.Item.{LiesIn, is_open, is_inline, is_childless, is_resolved, is_tight_paragraph}
use Rattle.markdown_base.specs.Item.{is_unplaced, text_named, alignments_named, attributes_named}

-- 1. The tree is finite, and no node is reached twice, nor the root again.
pub record IsReachedOnce (nodes : List (Node Item)) : Type 0 where
  pub finite : Spells (links_of nodes) (child_of nodes 0) (numbers_below nodes)
  pub once : IsDistinct nat_eq (0 ∷ preorder (numbers_below nodes))

-- one item precedes another: in the text, and by its number
pub record Precedes (a b : Numbered) : Type 0 where
  pub ends : a.item.end ≤ b.item.start
  pub numbers : a.number < b.number

-- 3. Where an item and the next are both inline, the first precedes the second.
abbrev pub InlineInOrder : Numbered → Option Numbered → Type 0
InlineInOrder a next = IfSome next (λ b. IsTrue (is_inline a.item.body) → IsTrue (is_inline b.item.body) → Precedes a b)

-- some item of a chain is open
abbrev pub has_open : Forest Numbered → Bool
has_open chain = list_any (λ n. is_open n.item.body) (roots chain)

-- each item of a chain is an inline item
abbrev pub all_inline : Forest Numbered → Bool
all_inline chain = list_all (λ n. is_inline n.item.body) (roots chain)

-- 4. Inline items and thematic breaks have no children. A chain with an open item consists of inline items (and is not
-- directly below the root).
pub record ChainsAreKept (above : ItemBody) (below : Forest Numbered) : Type 0 where
  pub childless : IsTrue (is_childless above) → below ≡ nil
  pub inline_only : IsTrue (has_open below) → IsTrue (all_inline below)

-- the source text of an item
abbrev pub source_of : List ℕ → Item → List ℕ
source_of text item = slice_range text item.start item.end

-- an item that is not open may stand over any source text
abbrev pub StandsOverAny : (is_open : Bool) → Type 0
StandsOverAny true = ⊥
StandsOverAny false = Unit {0}

-- the source text of an open item is the markup that its body names; rule 7 says what delimiter runs stand over.
-- Another body that is open has its markup here: without it, nothing with such an item is well-formed.
abbrev pub StandsOverMarkup : List ℕ → ItemBody → Type 0
StandsOverMarkup source (body.MaybeEmphasis count opens closes) = Unit {0}
StandsOverMarkup source (body.MaybeMath opens closes context) = source ≡ codes "$"
StandsOverMarkup source (body.MaybeSmartQuote quote opens closes) = (source ≡ quote ∷ [])
    × IsTrue ((quote == double_quote) || (quote == apostrophe))
StandsOverMarkup source (body.MaybeCode count escaped) = (source ≡ replicate count backtick) × (1 ≤ count)
StandsOverMarkup source body.MaybeHtml = source ≡ codes "<"
StandsOverMarkup source body.MaybeLinkOpen = source ≡ codes "["
StandsOverMarkup source (body.MaybeLinkClose reference) = source ≡ codes "]"
StandsOverMarkup source body.MaybeImage = source ≡ codes "!["
StandsOverMarkup source other = StandsOverAny (is_open other)

-- 6. The source text of brackets, quotation marks, dollars, backticks and `<` is their markup.
abbrev pub MarkupIsThere : List ℕ → Item → Type 0
MarkupIsThere text item = StandsOverMarkup (source_of text item) item.body

-- a character of a delimiter run: the number of characters from this one to the run's end, and whether the run can
-- open, and can close
pub record RunCharacter : Type 0 where
  pub count : ℕ
  pub can_open : Bool
  pub can_close : Bool

-- the character of a delimiter run that a body describes, if any: no other body describes one
abbrev pub run_character : ItemBody → Option RunCharacter
run_character (body.MaybeEmphasis count opens closes) =
    Some (record { count = count; can_open = opens; can_close = closes })
run_character other = None

-- one of the characters of delimiter runs: the set is written here, and in code in `is_delimiter` of `byte_tests`
abbrev pub is_delimiter : ℕ → Bool
is_delimiter byte = (byte == asterisk) || ((byte == underscore) || ((byte == tilde) || (byte == caret)))

-- the first byte of an item's source text
abbrev pub byte_of : List ℕ → Item → ℕ
byte_of text item = slice_index text item.start

-- `b` is the character after `a` in the same run
pub record GoesOn (text : List ℕ) (a b : Numbered) (count : ℕ) (opens closes : Bool) : Type 0 where
  pub body : run_character b.item.body ≡ Some (record { count = count; can_open = opens; can_close = closes })
  pub same : byte_of text b.item ≡ byte_of text a.item
  pub touches : b.item.start ≡ a.item.end
  pub number : b.number ≡ suc a.number

-- the last character of a run is not followed by an item of a run of the same character
abbrev pub EndsRun : List ℕ → Numbered → Option Numbered → Type 0
EndsRun text a next = IfSome next (λ b. IfSome (run_character b.item.body)
    (λ c. (byte_of text b.item == byte_of text a.item) ≡ false))

-- what follows a character of a run, by the number of characters from it to the run's end
abbrev pub RunGoesOn : List ℕ → Numbered → ℕ → Bool → Bool → Option Numbered → Type 0
RunGoesOn text a zero opens closes next = ⊥
RunGoesOn text a (suc zero) opens closes next = EndsRun text a next
RunGoesOn text a (suc (suc count)) opens closes None = ⊥
RunGoesOn text a (suc (suc count)) opens closes (Some b) = GoesOn text a b (suc count) opens closes

-- one byte of a delimiter run, followed as the run requires
pub record StandsInRun (text : List ℕ) (a : Numbered) (next : Option Numbered) (c : RunCharacter) : Type 0 where
  pub one_byte : a.item.end ≡ suc a.item.start
  pub delimiter : IsTrue (is_delimiter (byte_of text a.item))
  pub goes_on : RunGoesOn text a c.count c.can_open c.can_close next

-- 7. A delimiter run of n characters is n adjacent siblings of one byte each, with consecutive numbers, the same flags,
-- and the counts n, n - 1, .., 1. Two runs of one character have another item between them.
abbrev pub RunsAreWhole : List ℕ → Numbered → Option Numbered → Type 0
RunsAreWhole text a next = IfSome (run_character a.item.body) (StandsInRun text a next)

-- the number of parts of each kind
pub record PartCounts : Type 0 where
  pub texts : ℕ
  pub alignments : ℕ
  pub attributes : ℕ

-- the number of parts of each kind in a block result
abbrev pub counts_of : BlockParts → PartCounts
counts_of parts = record {
  texts = length parts.cows.items;
  alignments = length parts.alignments.items;
  attributes = length parts.headings.items;
}

-- 8. Each number in a body refers to an existing part. (No text and no list of alignments is referred to twice.)
pub record PartsAreNamed (counts : PartCounts) (b : ItemBody) : Type 0 where
  pub text : IfSome (text_named b) (λ ix. ix < counts.texts)
  pub alignments : IfSome (alignments_named b) (λ ix. ix < counts.alignments)
  pub attributes : IfSome (attributes_named b) (λ ix. (1 ≤ ix) × (ix ≤ counts.attributes))

-- some item of a chain is a tight paragraph
abbrev pub has_tight_paragraph : Forest Numbered → Bool
has_tight_paragraph chain = list_any (λ n. is_tight_paragraph n.item.body) (roots chain)

-- 9. No item is a root or an undecided block, and no tight paragraph is a child of another.
pub record BlocksAreSettled (above : ItemBody) (below : Forest Numbered) : Type 0 where
  pub placed : is_unplaced above ≡ false
  pub tight : IsTrue (is_tight_paragraph above) → has_tight_paragraph below ≡ false

-- rules 2 to 9 for one item, with the forest below it and the item after it
pub record KeepsRules (text : List ℕ) (counts : PartCounts) (a : Numbered) (below : Forest Numbered)
    (next : Option Numbered) : Type 0 where
  -- 2. The range lies in the text, between characters.
  pub ranges_lie_in : LiesIn text a.item
  pub inline_in_order : InlineInOrder a next
  pub chains_are_kept : ChainsAreKept a.item.body below
  -- 5. Nothing is resolved yet.
  pub nothing_resolved : is_resolved a.item.body ≡ false
  pub markup_is_there : MarkupIsThere text a.item
  pub runs_are_whole : RunsAreWhole text a next
  pub parts_are_named : PartsAreNamed counts a.item.body
  pub blocks_are_settled : BlocksAreSettled a.item.body below

-- rules 2 to 9 for each item of a forest
abbrev pub AllKeepRules : List ℕ → PartCounts → Forest Numbered → Type 0
AllKeepRules text counts tree = Throughout (λ a below after. KeepsRules text counts a below (first_root after)) tree

-- the numbers that the items of a tree hold for one kind of part
abbrev pub all_named : (ItemBody → Option ℕ) → Forest Numbered → List ℕ
all_named name tree = filter_map (λ n. name n.item.body) (preorder tree)

-- all nine
pub record IsWellFormed (text : List ℕ) (nodes : List (Node Item)) (parts : BlockParts) : Type 0 where
  -- 1
  pub reached_once : IsReachedOnce nodes
  -- 2 to 9, for each item
  pub rules : AllKeepRules text (counts_of parts) (tree_of nodes)
  -- 4: no child of the root is open
  pub top_is_closed : has_open (tree_of nodes) ≡ false
  -- 8: no part is referred to twice
  pub each_text_once : IsDistinct nat_eq (all_named text_named (tree_of nodes))
  pub each_alignments_once : IsDistinct nat_eq (all_named alignments_named (tree_of nodes))
