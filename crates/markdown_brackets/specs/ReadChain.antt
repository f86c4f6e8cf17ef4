-- Reading a chain from left to right, each item once: brackets by their rules, and all other items by a given rule.
use Rattle.std.specs.Prelude.{ℕ, Bool, true, false, not, ◌&&◌, ◌||◌, ◌==◌, List, [], ◌∷◌, Option, Some, None}
use Rattle.std.specs.Prelude.{if◌then◌else◌, nat_le}
use Rattle.markdown_base.specs.Forest.{Forest, nil, node}
use Rattle.markdown_base.specs.declared.item.ItemBody.{ItemBody}
use Rattle.markdown_base.specs.declared.item.ItemBody.TheVariants as body
use Rattle.markdown_document.specs.Document.{TreeNode, as_text}
use Rattle.markdown_document.specs.Setting.{ReferenceState}
use Rattle.markdown_document.specs.ChainRest.{begun_at, end_of, open_body}
use Rattle.markdown_brackets.specs.BracketDecision.{BracketContext, Closing, Progress, Step}
use Rattle.markdown_brackets.specs.ClosingBracket.{closed}
use Rattle.markdown_brackets.specs.LeftList.{waits, live, gone}
use Rattle.markdown_brackets.specs.Reference.{is_opener}

-- the progress before anything is read
abbrev pub begun : {A : Type 0} → ReferenceState → Progress A
begun state = record { left = []; goes_on = None; spent = []; asked = []; state = state; made = 0 }

-- the first item of a chain is of this kind
abbrev pub is_next : {A : Type 0} → (ItemBody → Bool) → Forest (TreeNode A) → Bool
is_next test nil = false
is_next test (node a below after) = test (open_body a.part.shape)

-- a `[` or `![` is read: if wikilinks are enabled, one directly before a `[` item opens a wikilink too
abbrev pub opened : {A : Type 0} → BracketContext → (is_image : Bool) → TreeNode A → Forest (TreeNode A) → Step A
opened w is_image a rest p = record p {
  left = waits (record {
    is_image = is_image;
    bracket = live;
    wikilink = if w.setting.rules.syntax.wikilinks && is_next is_opener rest then live else gone;
  }) (as_text w.setting.text a) ∷ p.left;
}

-- a number is among these
abbrev pub among : ℕ → List ℕ → Bool
among n [] = false
among n (m ∷ others) = (n == m) || among n others

-- a `]` that ends the label of an earlier reference cannot be a reference
abbrev pub closing_of : {A : Type 0} → (could_be_reference : Bool) → TreeNode A → Forest (TreeNode A) → Progress A
    → Closing A
closing_of could_be_reference a rest p =
    record { node = a; could_be_reference = could_be_reference && not (among (end_of a) p.spent); rest = rest }

-- the effect of an item, from its node, the trees below it and the chain after it
abbrev pub Reader : Type 0 → Type 0
Reader A = TreeNode A → Forest (TreeNode A) → Forest (TreeNode A) → Step A

-- the effect of an item with this body; each body of kind `undecided_bracket` has its case
abbrev pub read_as : {A : Type 0} → BracketContext → Reader A → ItemBody → Reader A
read_as w others body.MaybeLinkOpen a below rest p = opened w false a rest p
read_as w others body.MaybeImage a below rest p = opened w true a rest p
read_as w others (body.MaybeLinkClose could_be_reference) a below rest p =
    closed w (closing_of could_be_reference a rest p) p
read_as w others other a below rest p = others a below rest p

-- the effect of an item
abbrev pub read : {A : Type 0} → BracketContext → Reader A → Reader A
read w others a below rest p = read_as w others (open_body a.part.shape) a below rest p

-- after something was found that ends at the byte offset i, items that end there or before are left out, and the next
-- item begins at i or later
abbrev pub read_past : {A : Type 0} → BracketContext → Reader A → Option ℕ → Reader A
read_past w others None a below rest p = read w others a below rest p
read_past w others (Some i) a below rest p =
    if nat_le (end_of a) i then p else read w others (begun_at i a) below rest (record p { goes_on = None })

-- the items of a chain are read
unfoldable pub read_chain : {A : Type 0} → BracketContext → Reader A → Forest (TreeNode A) → Step A
read_chain w others nil p = p
read_chain w others (node a below rest) p = read_chain w others rest (read_past w others p.goes_on a below rest p)
