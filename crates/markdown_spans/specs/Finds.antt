-- What code spans (CommonMark 6.1), math spans, autolinks (6.5) and raw HTML (6.6) make of a chain. At each item
-- something is found among the items after it, or nothing; trees replace it; and the chain continues where it ends.
use Rattle.std.specs.Prelude.{ℕ, ◌+◌, ◌-◌, Bool, true, false, List, [], ◌∷◌, Option, Some, None}
use Rattle.std.specs.Prelude.{slice_range, take}
use Rattle.std.specs.Option.{option_map_or}
use Rattle.markdown_base.specs.Syntax.{gfm_footnotes}
use Rattle.markdown_base.specs.Event.{LinkView, code, inline_html, link}
use Rattle.markdown_base.specs.Forest.{Forest, nil, node, roots}
use Rattle.markdown_base.specs.declared.item.ItemBody.{ItemBody}
use Rattle.markdown_base.specs.declared.item.ItemBody.TheVariants as body
use Rattle.markdown_base.specs.declared.tag.LinkType.{LinkType}
use Rattle.markdown_base.specs.declared.tag.LinkType.TheVariants as written
use Rattle.markdown_document.specs.EnclosingBlocks.{EnclosingBlocks}
use Rattle.markdown_document.specs.Document.{Origin, sliced, made, Shape, leaf, enclosed, TreeNode, Notes, math}
use Rattle.markdown_document.specs.Document.{text_over}
use Rattle.markdown_document.specs.Document.{as_text}
use Rattle.markdown_document.specs.Setting.{Setting}
use Rattle.markdown_document.specs.Waiting.{is_quiet}
use Rattle.markdown_spans.specs.AfterLess.{Markup, autolink, html_markup, markup_at}
use Rattle.markdown_document.specs.ChainRest.{start_of, end_of, open_body, as_item, next_starts_at}
use Rattle.markdown_spans.specs.Closers.{MathClose, code_close, dollar_next, math_close_from}
use Rattle.markdown_spans.specs.CodeText.{span_origin, span_text}
use Rattle.markdown_spans.specs.ContainerPrefix.{prefix_length}
use Rattle.markdown_spans.specs.declared.after_less.AutolinkKind.{AutolinkKind}
use Rattle.markdown_spans.specs.declared.after_less.AutolinkKind.TheVariants.{Uri, Email}
use Rattle.markdown_spans.specs.declared.span_text.SpanKind.{SpanKind}
use Rattle.markdown_spans.specs.declared.span_text.SpanKind.TheVariants.{Code, Math}

-- the length in bytes of the prefix after a line ending, by the blocks above
abbrev pub prefix_below : Setting → EnclosingBlocks → List ℕ → ℕ
prefix_below s above bytes = prefix_length (gfm_footnotes s.rules.syntax) above.bodies bytes

-- the text of a span, and its origin
pub record SpanText : Type 0 where
  pub bytes : List ℕ
  pub origin : Origin

-- the text of a span between two byte offsets, with its origin
abbrev pub span_between : Setting → EnclosingBlocks → SpanKind → (start end : ℕ) → SpanText
span_between s above kind start end = record {
  bytes = span_text kind above.in_table (prefix_below s above) (slice_range s.text start end);
  origin = span_origin above.in_table (slice_range s.text start end);
}

-- what is found at an item: a code span with its text and the item that closes it; a math span with its text and the
-- byte offset where it ends; what begins at a `<`; or nothing
pub data Find (A : Type 0) : Type 0 where
  code_span : SpanText → TreeNode A → Find A
  math_span : (display : Bool) → SpanText → (end : ℕ) → Find A
  markup : Markup → Find A
  nothing : Find A

-- backticks open a code span, if an item closes it: its text lies between the two
abbrev pub code_found : {A : Type 0} → Setting → EnclosingBlocks → TreeNode A → Option (TreeNode A) → Find A
code_found s above a None = nothing
code_found s above a (Some closer) = code_span (span_between s above Code (end_of a) (start_of closer)) closer

-- the byte offset of the text of a math span that a `$` opens: after the `$`, or after both if the next item is a `$`
-- too
abbrev pub math_text_start : {A : Type 0} → TreeNode A → List (TreeNode A) → ℕ
math_text_start a after = option_map_or end_of (dollar_next as_item after) (end_of a)

-- a math span, by what closes it
abbrev pub math_found : {A : Type 0} → Setting → EnclosingBlocks → TreeNode A → List (TreeNode A) → Option (MathClose
    (TreeNode A))
    → Find A
math_found s above a after None = nothing
math_found s above a after (Some m) =
    math_span m.display (span_between s above Math (math_text_start a after) (start_of m.closer)) (end_of m.last)

-- what begins at a `<`, up to the block's end, if the next item starts directly after the `<`; the full reading has
-- addresses
abbrev pub markup_found : {A : Type 0} → Setting → EnclosingBlocks → TreeNode A → (is_followed : Bool) → Find A
markup_found s above a false = nothing
markup_found s above a true = option_map_or markup
    (markup_at (λ bytes. Some (prefix_below s above bytes)) s.rules.syntax.addresses (take above.block_end s.text)
    (start_of a) (end_of a)) nothing

-- what is found at an item with this body, from the chain after it. Each body of kind `undecided_span` has its case:
-- without one, it becomes a Text.
abbrev pub find_by : {A : Type 0} → Setting → EnclosingBlocks → ItemBody → TreeNode A → Forest (TreeNode A) → Find A
find_by s above (body.MaybeCode count escaped) a rest =
    code_found s above a (code_close as_item (body.MaybeCode count escaped) (roots rest))
find_by s above (body.MaybeMath opens closes context) a rest =
    math_found s above a (roots rest) (math_close_from as_item (as_item a) (roots rest))
find_by s above body.MaybeHtml a rest = markup_found s above a (next_starts_at (end_of a) rest)
find_by s above other a rest = nothing

-- what is found at an item, from the chain after it
abbrev pub find : {A : Type 0} → Setting → EnclosingBlocks → TreeNode A → Forest (TreeNode A) → Find A
find s above a rest = find_by s above (open_body a.part.shape) a rest

-- a node over a range
abbrev pub node_over : {A : Type 0} → A → Shape → (start end : ℕ) → TreeNode A
node_over tag shape start end =
    record { note = tag; part = record { shape = shape; range = record { start = start; end = end }; block = None } }

-- a Text over a range
abbrev pub text_node : {A : Type 0} → Setting → A → (start end : ℕ) → TreeNode A
text_node s tag start end = node_over tag (text_over (slice_range s.text start end)) start end

-- the first backtick of an opener is escaped
abbrev pub is_escaped : ItemBody → Bool
is_escaped (body.MaybeCode count escaped) = escaped
is_escaped other = false

-- a code span; if the first backtick of its opener is escaped, that backtick becomes a Text, and the code takes the
-- closer's note
abbrev pub code_trees : {A : Type 0} → Setting → (escaped : Bool) → TreeNode A → SpanText → TreeNode A → Forest
    (TreeNode A)
code_trees s false a t closer =
    node (node_over a.note (leaf (code t.bytes) (t.origin ∷ [])) (start_of a) (end_of closer)) nil nil
code_trees s true a t closer =
    node (text_node s a.note (start_of a) (start_of a + 1)) nil
    (node (node_over closer.note (leaf (code t.bytes) (t.origin ∷ [])) (start_of a + 1) (end_of closer)) nil nil)

-- the type of the link that an autolink is
abbrev pub link_type : AutolinkKind → LinkType
link_type Uri = written.Autolink
link_type Email = written.Email

-- an autolink is a link to what is between `<` and `>`, which is also the text below it
abbrev pub address : AutolinkKind → List ℕ → LinkView
address kind bytes = record { kind = link_type kind; destination = bytes; title = []; label = [] }

-- the trees of what begins at a `<`
abbrev pub markup_trees : {A : Type 0} → Setting → (new : A) → TreeNode A → Markup → Forest (TreeNode A)
markup_trees s new a (autolink kind end bytes) =
    node (node_over a.note (enclosed (link (address kind bytes)) []) (start_of a) end)
    (node (text_node s new (end_of a) (end - 1)) nil nil) nil
markup_trees s new a (html_markup end None) =
    node (node_over a.note (leaf (inline_html (slice_range s.text (start_of a) end)) (sliced ∷ [])) (start_of a) end)
    nil nil
markup_trees s new a (html_markup end (Some bytes)) =
    node (node_over a.note (leaf (inline_html bytes) (made ∷ [])) (start_of a) end) nil nil

-- the trees that replace what is found at an item: a Text if nothing is found
abbrev pub trees_for : {A : Type 0} → Setting → (new : A) → TreeNode A → Find A → Forest (TreeNode A)
trees_for s new a (code_span t closer) = code_trees s (is_escaped (open_body a.part.shape)) a t closer
trees_for s new a (math_span display t end) =
    node (node_over a.note (leaf (math display t.bytes) (t.origin ∷ [])) (start_of a) end) nil nil
trees_for s new a (markup m) = markup_trees s new a m
trees_for s new a nothing = node (as_text s.text a) nil nil

-- the byte offset where the markup ends
abbrev pub end_of_markup : Markup → ℕ
end_of_markup (autolink kind end bytes) = end
end_of_markup (html_markup end bytes) = end

-- the byte offset where what was found ends, if anything was
abbrev pub end_of_find : {A : Type 0} → Find A → Option ℕ
end_of_find (code_span t closer) = Some (end_of closer)
end_of_find (math_span display t end) = Some end
end_of_find (markup m) = Some (end_of_markup m)
end_of_find nothing = None

-- the number of additional trees that are made: one for the text of an autolink
abbrev pub made_by : {A : Type 0} → Find A → ℕ
made_by (markup (autolink kind end bytes)) = 1
made_by other = 0

-- what was read: the trees that replace it; if something was found, the byte offset where the chain continues; and the
-- number of additional trees made so far
pub record Passed (A : Type 0) : Type 0 where
  pub trees : Forest (TreeNode A)
  pub goes_on : Option ℕ
  pub made : ℕ

-- the trees that replace an item, where the chain continues, and the number of additional trees made so far
abbrev pub passed : {A : Type 0} → Setting → Notes A → (made : ℕ) → TreeNode A → Find A → Passed A
passed s notes n a found = record {
  trees = trees_for s (notes.of_made n) a found;
  goes_on = end_of_find found;
  made = n + made_by found;
}

-- a tree that is not open, or that waits for pairing, is kept
abbrev pub read_unless : {A : Type 0} → (is_quiet : Bool) → Setting → Notes A → EnclosingBlocks → (made : ℕ)
    → TreeNode A
    → (below rest : Forest (TreeNode A)) → Passed A
read_unless true s notes above n a below rest = record { trees = node a below nil; goes_on = None; made = n }
read_unless false s notes above n a below rest = passed s notes n a (find s above a rest)

-- a tree other than a bracket is read, by its node, the trees below it and the chain after it; n additional trees were
-- made before
unfoldable pub read_tree : {A : Type 0} → Setting → Notes A → EnclosingBlocks → (made : ℕ) → TreeNode A
    → (below rest : Forest (TreeNode A)) → Passed A
read_tree s notes above n a below rest = read_unless (is_quiet a.part.shape) s notes above n a below rest
