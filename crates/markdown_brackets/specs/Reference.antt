-- Labels, and the form of a reference (CommonMark 6.3), from the text and the items after a `]`. `skipped` returns the
-- length of the line prefix that the bytes after a line ending begin with.
use Rattle.std.specs.Prelude.{ℕ, ◌+◌, ◌-◌, Bool, false, true, ◌&&◌, ◌==◌, List, [], ◌∷◌, Option, Some, None}
use Rattle.std.specs.Prelude.{if◌then◌else◌, drop, slice_range, option_and_then}
use Rattle.std.specs.Option.{option_map, option_or}
use Rattle.markdown_base.specs.Bytes.{caret, open_bracket}
use Rattle.markdown_base.specs.declared.item.Item.{Item}
use Rattle.markdown_base.specs.declared.item.ItemBody.{ItemBody}
use Rattle.markdown_base.specs.declared.item.ItemBody.TheVariants as body
use Rattle.markdown_scan.specs.Label.{link_label}
use Rattle.markdown_brackets.specs.declared.footnote.FootnoteStyle.{FootnoteStyle}
use Rattle.markdown_brackets.specs.declared.footnote.FootnoteStyle.TheVariants as style

-- a label that was read: whether it is that of a footnote, its length in bytes through the closing bracket, and its
-- text
pub record FoundLabel : Type 0 where
  pub is_footnote : Bool
  pub length : ℕ
  pub name : List ℕ

-- the bytes after this byte, if they begin with it
abbrev pub stripped : ℕ → List ℕ → Option (List ℕ)
stripped byte [] = None
stripped byte (b ∷ bytes) = if b == byte then Some bytes else None

-- a label after its first n bytes
abbrev pub label_past : Bool → ℕ → Option (ℕ × List ℕ) → Option FoundLabel
label_past is_footnote n found =
    option_map (λ f. record { is_footnote = is_footnote; length = n + f.0; name = f.1 }) found

-- the rule by which no line ending is allowed
abbrev pub on_one_line : List ℕ → Option ℕ
on_one_line rest = None

-- the label after this byte, if the bytes begin with it
abbrev pub label_after : ℕ → (List ℕ → Option ℕ) → Bool → List ℕ → Option (ℕ × List ℕ)
label_after byte skipped in_table bytes = option_and_then (link_label skipped in_table) (stripped byte bytes)

-- the footnote label, `[^name]`, that these bytes continue after its `[`; in GitHub's style, it is on one line
abbrev pub footnote_label_in : FootnoteStyle → (List ℕ → Option ℕ) → Bool → List ℕ → Option FoundLabel
footnote_label_in style.Off skipped in_table bytes = None
footnote_label_in style.Gfm skipped in_table bytes = label_past true 2 (label_after caret on_one_line in_table bytes)
footnote_label_in style.Old skipped in_table bytes = label_past true 2 (label_after caret skipped in_table bytes)

-- the footnote label or else the link label that these bytes continue after its `[`
abbrev pub label_after_bracket : FootnoteStyle → (List ℕ → Option ℕ) → Bool → List ℕ → Option FoundLabel
label_after_bracket style skipped in_table bytes =
    option_or (footnote_label_in style skipped in_table bytes) (label_past false 1 (link_label skipped in_table bytes))

-- the label that the bytes begin with, from its `[` on
abbrev pub bracket_label : FootnoteStyle → (List ℕ → Option ℕ) → Bool → List ℕ → Option FoundLabel
bracket_label style skipped in_table bytes =
    option_and_then (label_after_bracket style skipped in_table) (stripped open_bracket bytes)

-- a label, if it has exactly n bytes
abbrev pub of_length : ℕ → Option FoundLabel → Option FoundLabel
of_length n None = None
of_length n (Some l) = if l.length == n then Some l else None

-- the bytes from an opener's `[` at `start` through its `]`, which ends at `end`, if they are exactly one label
abbrev pub own_label : FootnoteStyle → (List ℕ → Option ℕ) → Bool → List ℕ → ℕ → ℕ → Option FoundLabel
own_label style skipped in_table text start end =
    of_length (end - start) (bracket_label style skipped in_table (slice_range text start end))

-- the form of a reference: `[text][label]`, with the link label and the byte offset after it; `[label][]`; or `[label]`
pub data Form : Type 0 where
  reference : List ℕ → ℕ → Form
  collapsed : Form
  shortcut : Form

-- the body is a `[`
abbrev pub is_opener : ItemBody → Bool
is_opener body.MaybeLinkOpen = true
is_opener other = false

-- the body is a `]`
abbrev pub is_closing_bracket : ItemBody → Bool
is_closing_bracket (body.MaybeLinkClose could_be_ref) = true
is_closing_bracket other = false

-- the body is a `]` that could be a reference
abbrev pub could_be_reference : ItemBody → Bool
could_be_reference (body.MaybeLinkClose could_be_ref) = could_be_ref
could_be_reference other = false

-- the item starts at this byte offset and is of this kind
abbrev pub stands_at : ℕ → (ItemBody → Bool) → Option Item → Bool
stands_at at is_kind None = false
stands_at at is_kind (Some item) = (item.start == at) && is_kind item.body

-- the form if this label is at the byte offset p: a footnote label does not count
abbrev pub form_by_label : ℕ → Option FoundLabel → Form
form_by_label p None = shortcut
form_by_label p (Some l) = if l.is_footnote then shortcut else reference l.name (p + l.length)

-- the form of a reference whose `]` ends at the byte offset p, from the two items after it
abbrev pub form_at : FootnoteStyle → (List ℕ → Option ℕ) → Bool → List ℕ → ℕ → Option Item → Option Item → Form
form_at style skipped in_table text p next after =
    if stands_at p is_opener next && stands_at (p + 1) is_closing_bracket after then collapsed
    else if stands_at p (λ b. true) next then form_by_label p (bracket_label style skipped in_table (drop p text))
    else shortcut
