-- What a closing bracket becomes (CommonMark 6.3 and 6.4, with footnotes and wikilinks), from the left list before it,
-- the chain after it and what is known: the decision, before the tree is changed. With two `]` a wikilink is looked
-- for, then an inline link, and then a reference; the first of them that is found is carried out.
use Rattle.std.specs.Prelude.{ℕ, ◌+◌, ◌-◌, Bool, false, ◌&&◌, ◌==◌, List, [], ◌∷◌, ◌++◌, Option, Some, None}
use Rattle.std.specs.Prelude.{if◌then◌else◌, nat_lt, min, ◌^◌, slice_range, take, unwrap_or}
use Rattle.std.specs.Option.{option_and_then, option_map, option_or}
use Rattle.markdown_base.specs.Event.{LinkView}
use Rattle.markdown_base.specs.Forest.{Forest, nil, node, first_root}
use Rattle.markdown_base.specs.Questions.{Question}
use Rattle.markdown_base.specs.declared.tag.LinkType.{LinkType}
use Rattle.markdown_base.specs.declared.tag.LinkType.TheVariants as kind
use Rattle.markdown_defs.specs.Folding.{is_match}
use Rattle.markdown_document.specs.EnclosingBlocks.{EnclosingBlocks}
use Rattle.markdown_document.specs.ChainRest.{start_of, end_of, open_body, as_item, past_byte}
use Rattle.markdown_document.specs.Document.{Origin, Shape, TreeNode, text_over}
use Rattle.markdown_document.specs.LinkTitle.{title_origin}
use Rattle.markdown_document.specs.Setting.{Setting, ReferenceState}
use Rattle.markdown_scan.specs.Entity.{entity_names}
use Rattle.markdown_scan.specs.Unescape.{unescaped}
use Rattle.markdown_scan.specs.declared.entity.EntityNames.{EntityNames}
use Rattle.markdown_brackets.specs.FootnoteUse.{footnote_style}
use Rattle.markdown_brackets.specs.FootnoteUse.{is_reference}
use Rattle.markdown_brackets.specs.LeftList.{Entry, Split, inside, is_live, nearest, opens_bracket, opens_wikilink}
use Rattle.markdown_brackets.specs.LeftList.{bracket_taken, wikilink_taken}
use Rattle.markdown_brackets.specs.LinkTail.{LinkTail, link_tail}
use Rattle.markdown_brackets.specs.Lookup.{LookedUp, look_up}
use Rattle.markdown_brackets.specs.Reference.{FoundLabel, Form, reference, collapsed, shortcut, form_at, own_label}
use Rattle.markdown_brackets.specs.Reference.{is_closing_bracket}
use Rattle.markdown_brackets.specs.Wikilink.{WikilinkBody, Shows, shows_name, shows_nothing, shows_from, has_pothole}
use Rattle.markdown_brackets.specs.Wikilink.{wikilink_body}

-- what reading the brackets of a chain depends on: the text with its rules; the blocks above; and the length in bytes
-- of the line prefix after a line ending
pub record BracketContext : Type 0 where
  pub setting : Setting
  pub above : EnclosingBlocks
  pub skipped : List ℕ → ℕ

-- the text continues after each line ending, past the line's prefix
abbrev pub lines : BracketContext → List ℕ → Option ℕ
lines w bytes = Some (w.skipped bytes)

-- a `]`: its node, whether it could be a reference, and the chain after it
pub record Closing (A : Type 0) : Type 0 where
  pub node : TreeNode A
  pub could_be_reference : Bool
  pub rest : Forest (TreeNode A)

-- how far a chain was read: the left list; after something was found, the byte offset up to which the chain is left
-- out; the ends of the `]` that can no longer be references; the questions asked; what is known; and the number of
-- trees that were made without an item
pub record Progress (A : Type 0) : Type 0 where
  pub left : List (Entry A)
  pub goes_on : Option ℕ
  pub spent : List ℕ
  pub asked : List Question
  pub state : ReferenceState
  pub made : ℕ

-- the effect of an item on what was read
abbrev pub Step : Type 0 → Type 0
Step A = Progress A → Progress A

-- a wikilink: its name, whether its body contains a pipe, and the trees that it shows
pub record Wikilink (A : Type 0) : Type 0 where
  pub name : List ℕ
  pub has_pothole : Bool
  pub children : Forest (TreeNode A)

-- what a `]` becomes: a Text; a link or an image, with the origin of its title if it is inline, from its opener to a
-- byte offset, with the offset where the chain continues; a footnote reference, to the `]`; or a wikilink, to a byte
-- offset
pub data Becomes (A : Type 0) : Type 0 where
  a_text : Becomes A
  a_link : Split A → LinkView → (titles : List Origin) → (end next : ℕ) → Becomes A
  a_footnote : Split A → List ℕ → Becomes A
  a_wikilink : Split A → Wikilink A → (end : ℕ) → Becomes A

-- the decision: what the `]` becomes, and how far the chain was read: openers that were tried are taken off, and
-- questions are asked, but nothing is added to the left list yet
pub record Decision (A : Type 0) : Type 0 where
  pub becomes : Becomes A
  pub progress : Progress A

-- the `]` becomes this, and nothing else changes
abbrev pub to_be : {A : Type 0} → Becomes A → Progress A → Decision A
to_be becomes p = record { becomes = becomes; progress = p }

-- a reference to a link: its type, its link label, the byte offset where it ends and the one where the chain continues,
-- and the ends of the `]` that can no longer be references after it
pub record LinkReference : Type 0 where
  pub link_type : LinkType
  pub label : List ℕ
  pub end : ℕ
  pub next : ℕ
  pub spends : List ℕ

-- what is written from an opener to its `]`: an inline link, with its tail; a reference to a link, or to a footnote;
-- or a wikilink, to a byte offset
pub data Written (A : Type 0) : Type 0 where
  inline_link : Split A → LinkTail → Written A
  link_reference : Split A → LinkReference → Written A
  footnote_label : Split A → List ℕ → Written A
  wikilink : Split A → Wikilink A → (end : ℕ) → Written A

-- the text up to the block's end, beyond which nothing is scanned
abbrev pub block_text : BracketContext → List ℕ
block_text w = take w.above.block_end w.setting.text

-- a node with the same note over another range
abbrev pub over : {A : Type 0} → TreeNode A → Shape → (start end : ℕ) → TreeNode A
over a shape start end =
    record { note = a.note; part = record { shape = shape; range = record { start = start; end = end }; block = None } }

-- a Text over a range
abbrev pub text_from : {A : Type 0} → BracketContext → TreeNode A → (start end : ℕ) → TreeNode A
text_from w a start end = over a (text_over (slice_range w.setting.text start end)) start end

-- a chain past its first item, which after the opener of a wikilink is the second `[`
abbrev pub past_second : {A : Type 0} → Forest (TreeNode A) → Forest (TreeNode A)
past_second nil = nil
past_second (node a below after) = after

-- the start of the first item that ends after a byte offset
abbrev pub start_of_first_past : {A : Type 0} → Forest (TreeNode A) → ℕ → Option ℕ
start_of_first_past nil i = None
start_of_first_past (node a below after) i =
    if nat_lt i (end_of a) then Some (start_of a) else start_of_first_past after i

-- the first item that ends at a byte offset or later is a `]` that ends there
abbrev pub closer_ends_at : {A : Type 0} → ℕ → Forest (TreeNode A) → Bool
closer_ends_at i nil = false
closer_ends_at i (node a below after) =
    if nat_lt (end_of a) i then closer_ends_at i after else is_closing_bracket (open_body a.part.shape) &&
    (end_of a == i)

-- a footnote label is a reference if it is defined, and always in the old style
abbrev pub footnote_written : {A : Type 0} → BracketContext → Split A → List ℕ → Option (Written A)
footnote_written w o name =
    if is_reference (footnote_style w.setting.rules.syntax) (w.setting.rules.is_footnote name)
    then Some (footnote_label o name) else None

-- the reference of this type, by the label from the opener to the `]`
abbrev pub own_written : {A : Type 0} → BracketContext → Split A → LinkType → (end next : ℕ) → FoundLabel → Option
    (Written A)
own_written w o link_type end next l =
    if l.is_footnote then footnote_written w o l.name
    else Some (link_reference o
    (record { link_type = link_type; label = l.name; end = end; next = next; spends = [] }))

-- a full reference, whose label ends at a byte offset: its `]` is then that of no other reference
abbrev pub full : List ℕ → (end : ℕ) → LinkReference
full label end = record { link_type = kind.Reference; label = label; end = end; next = end; spends = end ∷ [] }

-- the reference of a `]` that ends at a byte offset: full, if a `]` ends the label that follows; collapsed or a
-- shortcut, if there is a label from the opener to the `]`
abbrev pub reference_written : {A : Type 0} → BracketContext → Split A → (end : ℕ) → (closes : ℕ → Bool)
    → Option FoundLabel
    → Form → Option (Written A)
reference_written w o end closes own (reference label to) =
    if closes to then Some (link_reference o (full label to)) else None
reference_written w o end closes own collapsed = option_and_then (own_written w o kind.Collapsed end (end + 2)) own
reference_written w o end closes own shortcut = option_and_then (own_written w o kind.Shortcut end end) own

-- the label from the opener's `[` to this `]`, if it could be a reference and the bytes between are exactly one label
-- in the block
abbrev pub label_of_opener : {A : Type 0} → BracketContext → Closing A → Split A → Option FoundLabel
label_of_opener w c o =
    if c.could_be_reference
    then own_label (footnote_style w.setting.rules.syntax) (lines w) w.above.in_table (block_text w)
    (end_of o.opener - 1) (end_of c.node)
    else None

-- the form of a reference at a `]`, from the two items after it
abbrev pub form_of : {A : Type 0} → BracketContext → Closing A → Form
form_of w c =
    form_at (footnote_style w.setting.rules.syntax) (lines w) w.above.in_table (block_text w) (end_of c.node)
    (option_map as_item (first_root c.rest)) (option_map as_item (first_root (past_second c.rest)))

-- what is written from an opener on: an inline link, or else a reference
abbrev pub written : {A : Type 0} → BracketContext → Closing A → Split A → Option (Written A)
written w c o =
    option_or
    (option_map (inline_link o) (link_tail (lines w) (start_of_first_past c.rest) (block_text w) (end_of c.node)))
    (reference_written w o (end_of c.node) (λ i. closer_ends_at i c.rest) (label_of_opener w c o) (form_of w c))

-- a chain, if it is not empty
abbrev pub if_some : {A : Type 0} → Forest (TreeNode A) → Option (Forest (TreeNode A))
if_some nil = None
if_some (node a below after) = Some (node a below after)

-- what a wikilink shows: its name, or the text after its pipe, which must not be empty if the body does not end at the
-- pipe
abbrev pub shown_children : {A : Type 0} → BracketContext → TreeNode A → Forest (TreeNode A) → (end : ℕ) → Shows
    → Option (Forest (TreeNode A))
shown_children w first trees end shows_name = Some (node (text_from w first (start_of first) end) nil nil)
shown_children w first trees end (shows_nothing at) = Some (node (text_from w first at at) nil nil)
shown_children w first trees end (shows_from at) = if_some (past_byte at trees)

-- the wikilink with this body, if it shows anything
abbrev pub wikilink_by : {A : Type 0} → BracketContext → TreeNode A → Forest (TreeNode A) → (end : ℕ) → WikilinkBody
    → Option (Wikilink A)
wikilink_by w first trees end b = option_map
    (λ children. record { name = b.name; has_pothole = has_pothole b.shows; children = children })
    (shown_children w first trees end b.shows)

-- the wikilink whose body consists of these trees and ends at a byte offset
abbrev pub wikilink_in : {A : Type 0} → BracketContext → Forest (TreeNode A) → (end : ℕ) → Option (Wikilink A)
wikilink_in w nil end = None
wikilink_in w (node first below after) end =
    option_and_then (wikilink_by w first (node first below after) end)
    (wikilink_body w.setting.text w.above.block_end (start_of first) end)

-- the end of a second `]` right after a `]`, if wikilinks are enabled
abbrev pub second_end : {A : Type 0} → BracketContext → Forest (TreeNode A) → Option ℕ
second_end w nil = None
second_end w (node a below after) =
    if w.setting.rules.syntax.wikilinks && is_closing_bracket (open_body a.part.shape) then Some
    (end_of a) else None

-- what is written from an opener to its `]`, if the opener is live
abbrev pub bracket_found : {A : Type 0} → BracketContext → Closing A → Split A → Option (Written A)
bracket_found w c o = if is_live o.state.bracket then written w c o else None

-- the wikilink from an opener to a second `]`, which ends at a byte offset, if the opener is live
abbrev pub wikilink_found : {A : Type 0} → BracketContext → Closing A → (end : ℕ) → Split A → Option (Written A)
wikilink_found w c end o =
    if is_live o.state.wikilink
    then option_map (λ v. wikilink o v end) (wikilink_in w (past_second (inside o)) (start_of c.node)) else None

-- what is left of the left list for the first `]`: where a second one follows, the nearest opener of a wikilink is
-- tried and taken off
abbrev pub left_for_one : {A : Type 0} → (second : Option ℕ) → List (Entry A) → List (Entry A)
left_for_one None left = left
left_for_one (Some end) left = wikilink_taken left

-- what is found at a `]`: a wikilink, where a second one follows; or else what its nearest opener makes
abbrev pub found : {A : Type 0} → BracketContext → Closing A → (second : Option ℕ) → List (Entry A) → Option (Written A)
found w c second left =
    option_or
    (option_and_then
    (λ end. option_and_then (wikilink_found w c end) (nearest opens_wikilink (bracket_taken left))) second)
    (option_and_then (bracket_found w c) (nearest opens_bracket (left_for_one second left)))

-- the names by which entities are read
abbrev pub names_read : BracketContext → EntityNames
names_read w = entity_names w.setting.rules.syntax

-- the target of an inline link
abbrev pub inline_target : BracketContext → LinkTail → LinkView
inline_target w t = record {
  kind = kind.Inline;
  destination = unescaped (names_read w) w.above.in_table t.destination;
  title = unescaped (names_read w) w.above.in_table t.title;
  label = [];
}

-- the origin of its title
abbrev pub inline_title : BracketContext → LinkTail → Origin
inline_title w t = title_origin (names_read w) w.above.in_table t.title t.is_joined

-- the number of uses of each footnote, after one more use of this one
abbrev pub uses_once_more : List ℕ → (List ℕ → ℕ) → (List ℕ → ℕ)
uses_once_more name uses = λ other. if is_match name other then min (uses other + 1) (2 ^ 64 - 1) else uses other

-- the question about the link label of a reference, over the range from its opener on
abbrev pub question_at : {A : Type 0} → Split A → LinkReference → Question
question_at o r =
    record { span = record { start = start_of o.opener; end = r.end }; link_type = r.link_type; reference = r.label }

-- a link label was looked up: the `]` becomes a link or an image, if a target was found, and otherwise a Text
abbrev pub looked_up : {A : Type 0} → Split A → LinkReference → LookedUp → Progress A → Decision A
looked_up o r result p =
    to_be (unwrap_or (option_map (λ t. a_link o t [] r.end r.next) result.target) a_text) (record p {
      spent = r.spends ++ p.spent;
      asked = p.asked ++ result.questions;
      state = record { limit = result.limit; answers = result.answers; uses = p.state.uses };
    })

-- what was found is carried out: a link label is looked up, and a use of a footnote is counted if it is defined
abbrev pub carried_out : {A : Type 0} → BracketContext → Option (Written A) → Progress A → Decision A
carried_out w None p = to_be a_text p
carried_out w (Some (inline_link o t)) p =
    to_be (a_link o (inline_target w t) (inline_title w t ∷ []) t.ends t.ends) p
carried_out w (Some (link_reference o r)) p =
    let rules = w.setting.rules in
    looked_up o r (look_up rules.definitions rules.asks p.state.limit p.state.answers (question_at o r)) p
carried_out w (Some (footnote_label o name)) p = to_be (a_footnote o name) (record p {
  state = record p.state {
    uses = if w.setting.rules.is_footnote name then uses_once_more name p.state.uses else p.state.uses;
  };
})
carried_out w (Some (wikilink o v end)) p = to_be (a_wikilink o v end) p

-- what a `]` becomes: what was found is carried out, without the openers that were tried
unfoldable pub decided : {A : Type 0} → BracketContext → Closing A → Progress A → Decision A
decided w c p =
    let second = second_end w c.rest in
    carried_out w (found w c second p.left) (record p { left = bracket_taken (left_for_one second p.left) })
