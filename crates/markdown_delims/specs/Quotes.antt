-- Quotes of a chain under smart punctuation, and a hard break by a backslash at its end.
use Rattle.std.specs.Prelude.{ℕ, encode_utf8, Bool, true, false, ◌&&◌, ◌||◌, ◌==◌, if◌then◌else◌, [], ◌∷◌}
use Rattle.markdown_base.specs.Bytes.{apostrophe, backslash}
use Rattle.markdown_base.specs.Event.{text}
use Rattle.markdown_base.specs.Forest.{Forest, nil, node}
use Rattle.markdown_base.specs.declared.item.ItemBody.TheVariants as body
use Rattle.markdown_document.specs.Document.{Shape, leaf, backslash_break, unresolved, TreeNode, shaped, inlined}
use Rattle.markdown_delims.specs.declared.quotes.Kind.{Kind}
use Rattle.markdown_delims.specs.declared.quotes.Kind.TheVariants as kind

-- a Text of one character
abbrev pub synthesized : ℕ → Shape
synthesized c = leaf (text (encode_utf8 c)) (inlined ∷ [])

-- a left single quotation mark
abbrev pub left_single : Shape
left_single = synthesized 8216

-- a right single quotation mark
abbrev pub right_single : Shape
right_single = synthesized 8217

-- a left double quotation mark
abbrev pub left_double : Shape
left_double = synthesized 8220

-- a right double quotation mark
abbrev pub right_double : Shape
right_double = synthesized 8221

-- the kind of a shape, for reading quotes: a `'` or a `"`, with whether it can open and can close, or a break by a
-- backslash
abbrev pub kind_of_shape : Shape → Kind
kind_of_shape backslash_break = kind.Break
kind_of_shape (unresolved (body.MaybeSmartQuote quote opens closes)) =
    if quote == apostrophe then kind.Single opens closes else kind.Double opens closes
kind_of_shape other = kind.Other

-- whether the `'` that is remembered is closed later: the next one that can close or open decides
abbrev pub closes_later : Kind → Bool → Bool
closes_later (kind.Single opens closes) later = if closes then true else if opens then false else later
closes_later _ later = later

-- whether it is closed in the chain after it
abbrev pub is_closed_later : {A : Type 0} → Forest (TreeNode A) → Bool
is_closed_later nil = false
is_closed_later (node a below after) = closes_later (kind_of_shape a.part.shape) (is_closed_later after)

-- a chain is empty
abbrev pub is_end : {A : Type 0} → Forest A → Bool
is_end nil = true
is_end (node a below after) = false

-- what a tree becomes, and whether a `'` is remembered and a `"` is open after it
pub record QuoteTurn : Type 0 where
  pub made : Shape
  pub single : Bool
  pub double : Bool

-- a `'` that closes the remembered one is a right quotation mark; another one is a left quotation mark if it is closed
-- later
abbrev pub single_turn : (is_closing opens single double later : Bool) → QuoteTurn
single_turn true opens single double later = record { made = right_single; single = false; double = double }
single_turn false opens single double later =
    record { made = if opens && later then left_single else right_single; single = opens || single; double = double }

-- a `"` that closes an open one is a right quotation mark, and any other a left one
abbrev pub double_turn : (is_closing opens single double : Bool) → QuoteTurn
double_turn true opens single double = record { made = right_double; single = single; double = false }
double_turn false opens single double = record { made = left_double; single = single; double = opens || double }

-- what an item becomes by its kind, and which quotes are remembered afterwards
abbrev pub turn_by : Kind → Shape → (single double later last : Bool) → QuoteTurn
turn_by (kind.Single opens closes) shape single double later last =
    single_turn (single && closes) opens single double later
turn_by (kind.Double opens closes) shape single double later last = double_turn (double && closes) opens single double
turn_by kind.Break shape single double later last =
    record { made = if last then synthesized backslash else shape; single = single; double = double }
turn_by kind.Other shape single double later last = record { made = shape; single = single; double = double }

-- what a chain's first tree becomes
abbrev pub first_turn : {A : Type 0} → TreeNode A → Forest (TreeNode A) → (single double : Bool) → QuoteTurn
first_turn a after single double =
    turn_by (kind_of_shape a.part.shape) a.part.shape single double (is_closed_later after) (is_end after)

-- a chain with its quotes replaced, after a remembered `'` or an open `"` or neither
abbrev pub quotes_after : {A : Type 0} → (single double : Bool) → Forest (TreeNode A) → Forest (TreeNode A)
quotes_after single double nil = nil
quotes_after single double (node a below after) =
    node (shaped (first_turn a after single double).made a) below
    (quotes_after (first_turn a after single double).single (first_turn a after single double).double after)

-- a chain with its quotes and its last break replaced
unfoldable pub with_quotes : {A : Type 0} → Forest (TreeNode A) → Forest (TreeNode A)
with_quotes chain = quotes_after false false chain
