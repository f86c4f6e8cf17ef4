-- What code spans, math spans, autolinks and raw HTML make of small chains.
use Rattle.std.proofs.Common.{◌≡◌, ℕ, ◌+◌, Bool, true, false, List, [], ◌∷◌, Option, Some, None, length, refl}
use Rattle.std.specs.Prelude.{codes, nat_le, if◌then◌else◌}
use Rattle.markdown_base.specs.Syntax.{commonmark}
use Rattle.markdown_base.specs.Event.{EventView, code, inline_math, display_math, inline_html, link}
use Rattle.markdown_base.specs.Forest.{Forest, nil, node}
use Rattle.markdown_base.specs.declared.item.Item.{Item}
use Rattle.markdown_base.specs.declared.item.ItemBody.{ItemBody}
use Rattle.markdown_base.specs.declared.item.ItemBody.TheVariants as body
use Rattle.markdown_document.specs.EnclosingBlocks.{EnclosingBlocks}
use Rattle.markdown_document.specs.Document.{sliced, made, leaf, enclosed, TreeNode, Notes, part_of}
use Rattle.markdown_document.specs.Setting.{Setting}
use Rattle.markdown_document.specs.Tables.{no_tables}
use Rattle.markdown_raw_html.specs.HtmlTag.{all, both, either, nonempty, often, often_past, one, optional}
use Rattle.markdown_spans.specs.AfterLess.{markup_at}
use Rattle.markdown_document.specs.ChainRest.{begun_at, end_of, past}
use Rattle.markdown_spans.specs.CodeText.{is_sliced, replaced_past}
use Rattle.markdown_spans.specs.declared.after_less.AutolinkKind.TheVariants.{Uri}
use Rattle.markdown_spans.specs.Finds.{address, node_over, read_tree, text_node}

-- GFM footnotes are on, and nothing is defined
abbrev setting : List ℕ → Setting
setting source = record {
  text = source;
  rules = record {
    syntax = record commonmark { footnotes = true };
    definitions = λ label. None;
    is_footnote = λ name. false;
    asks = false;
  };
}

-- a paragraph, and one in a block quote
abbrev in_paragraph : List ℕ → EnclosingBlocks
in_paragraph source = record { block_end = length source; in_table = false; bodies = body.Paragraph ∷ [] }

abbrev in_quote : List ℕ → EnclosingBlocks
in_quote source =
    record { block_end = length source; in_table = false; bodies = body.BlockQuote None ∷ body.Paragraph ∷ [] }

abbrev in_cell : List ℕ → EnclosingBlocks
in_cell source = record { block_end = length source; in_table = true; bodies = body.TableCell ∷ [] }

-- items: a text, a line ending, backticks, a `$`, a `<`
abbrev item : ℕ → ℕ → ItemBody → Item
item start end b = record { start = start; end = end; body = b }

abbrev plain_text : ℕ → ℕ → Item
plain_text start end = item start end (body.Text false)

abbrev ticks : ℕ → ℕ → Item
ticks start n = item start (start + n) (body.MaybeCode n false)

abbrev dollar : ℕ → (opens closes : Bool) → Item
dollar start opens closes = item start (start + 1) (body.MaybeMath opens closes 0)

abbrev less : ℕ → Item
less start = item start (start + 1) body.MaybeHtml

-- a chain of items, which are numbered from n on; what is made is numbered from 100 on
abbrev chain_from : ℕ → List ℕ → List Item → Forest (TreeNode ℕ)
chain_from n source [] = nil
chain_from n source (i ∷ items) =
    node (record { note = n; part = part_of source no_tables i }) nil (chain_from (n + 1) source items)

abbrev notes : Notes ℕ
notes = record { of_made = λ n. 100 + n }

-- a chain whose trees are read one after the other
abbrev onto : Forest (TreeNode ℕ) → Forest (TreeNode ℕ) → Forest (TreeNode ℕ)
onto nil later = later
onto (node a below after) later = node a below (onto after later)

abbrev leaves : Option ℕ → TreeNode ℕ → Bool
leaves None a = false
leaves (Some i) a = nat_le (end_of a) i

abbrev begun : Option ℕ → TreeNode ℕ → TreeNode ℕ
begun None a = a
begun (Some i) a = begun_at i a

abbrev read_on : Setting → EnclosingBlocks → ℕ → Option ℕ → Forest (TreeNode ℕ) → Forest (TreeNode ℕ)
read_on s above n goes_on nil = nil
read_on s above n goes_on (node a below rest) =
    if leaves goes_on a then read_on s above n goes_on rest
    else (let found = read_tree s notes above n (begun goes_on a) below rest in
    onto found.trees (read_on s above found.made found.goes_on rest))

abbrev read_chain : (List ℕ → EnclosingBlocks) → List ℕ → List Item → Forest (TreeNode ℕ)
read_chain above source items = read_on (setting source) (above source) 0 None (chain_from 0 source items)

-- nodes: a text, what was made of other bytes, and the text of a span that is a slice of the source
abbrev text_at : List ℕ → ℕ → ℕ → ℕ → TreeNode ℕ
text_at source n start end = text_node (setting source) n start end

abbrev made_at : ℕ → EventView → ℕ → ℕ → TreeNode ℕ
made_at n e start end = node_over n (leaf e (made ∷ [])) start end

abbrev sliced_at : ℕ → EventView → ℕ → ℕ → TreeNode ℕ
sliced_at n e start end = node_over n (leaf e (sliced ∷ [])) start end

-- code over two lines of a block quote
abbrev two_lines : List ℕ
two_lines = codes "> `a\n> b`"

row_two_lines : read_chain in_quote two_lines
    (ticks 2 1 ∷ plain_text 3 4 ∷ item 4 7 body.SoftBreak ∷ plain_text 7 8 ∷ ticks 8 1 ∷ [])
    ≡ node (made_at 0 (code (codes "a b")) 2 9) nil nil
unfolding read_tree replaced_past is_sliced
row_two_lines = refl

-- backticks of another length close nothing
abbrev lengths : List ℕ
lengths = codes "``a`b``"

row_lengths : read_chain in_paragraph lengths
    (ticks 0 2 ∷ plain_text 2 3 ∷ ticks 3 1 ∷ plain_text 4 5 ∷ ticks 5 2 ∷ [])
    ≡ node (sliced_at 0 (code (codes "a`b")) 0 7) nil nil
unfolding read_tree replaced_past is_sliced
row_lengths = refl

row_no_closer : read_chain in_paragraph (codes "``a`") (ticks 0 2 ∷ plain_text 2 3 ∷ ticks 3 1 ∷ [])
    ≡ node (text_at (codes "``a`") 0 0 2) nil
    (node (text_at (codes "``a`") 1 2 3) nil (node (text_at (codes "``a`") 2 3 4) nil nil))
unfolding read_tree
row_no_closer = refl

-- an escaped backtick stays a text, and the code takes the closer's place
abbrev escaped : List ℕ
escaped = codes "\\``a`"

row_escaped : read_chain in_paragraph escaped (item 1 3 (body.MaybeCode 2 true) ∷ plain_text 3 4 ∷ ticks 4 1 ∷ [])
    ≡ node (text_at escaped 0 1 2) nil (node (sliced_at 2 (code (codes "a")) 2 5) nil nil)
unfolding read_tree replaced_past is_sliced
row_escaped = refl

-- one alone opens nothing
row_escaped_alone : read_chain in_paragraph (codes "\\`a`")
    (item 1 2 (body.MaybeCode 1 true) ∷ plain_text 2 3 ∷ ticks 3 1 ∷ [])
    ≡ node (text_at (codes "\\`a`") 0 1 2) nil
    (node (text_at (codes "\\`a`") 1 2 3) nil (node (text_at (codes "\\`a`") 2 3 4) nil nil))
unfolding read_tree
row_escaped_alone = refl

-- in a table `\|` becomes `|`
row_pipe : read_chain in_cell (codes "`a\\|b`") (ticks 0 1 ∷ plain_text 1 5 ∷ ticks 5 1 ∷ [])
    ≡ node (made_at 0 (code (codes "a|b")) 0 6) nil nil
unfolding read_tree replaced_past is_sliced
row_pipe = refl

-- an empty item at the end of what is found leaves
row_empty_item : read_chain in_paragraph (codes "`a`b")
    (ticks 0 1 ∷ plain_text 1 2 ∷ ticks 2 1 ∷ plain_text 3 3 ∷ plain_text 3 4 ∷ [])
    ≡ node (sliced_at 0 (code (codes "a")) 0 3) nil (node (text_at (codes "`a`b") 4 3 4) nil nil)
unfolding read_tree replaced_past is_sliced
row_empty_item = refl

-- only the next `$` is examined: it closes nothing, but it opens
abbrev dollars : List ℕ
dollars = codes "$a $b$"

row_dollars : read_chain in_paragraph dollars
    (dollar 0 true false ∷ plain_text 1 3 ∷ dollar 3 true false ∷ plain_text 4 5 ∷ dollar 5 false true ∷ [])
    ≡ node (text_at dollars 0 0 1) nil
    (node (text_at dollars 1 1 3) nil (node (sliced_at 2 (inline_math (codes "b")) 3 6) nil nil))
unfolding read_tree replaced_past is_sliced
row_dollars = refl

row_display : read_chain in_paragraph (codes "$$c$$")
    (dollar 0 true false ∷ dollar 1 true false ∷ plain_text 2 3 ∷ dollar 3 false true ∷ dollar 4 false true ∷ [])
    ≡ node (sliced_at 0 (display_math (codes "c")) 0 5) nil nil
unfolding read_tree replaced_past is_sliced
row_display = refl

-- an autolink, and the text below it, which is made; the text that reaches past it is cut
abbrev link_to : ℕ → List ℕ → ℕ → ℕ → TreeNode ℕ
link_to n uri start end = node_over n (enclosed (link (address Uri uri)) []) start end

abbrev linked : List ℕ
linked = codes "<http://a.b> c"

row_autolink : read_chain in_paragraph linked (less 0 ∷ plain_text 1 14 ∷ [])
    ≡ node (link_to 0 (codes "http://a.b") 0 12) (node (text_at linked 100 1 11) nil nil)
    (node (text_at linked 1 12 14) nil nil)
unfolding read_tree markup_at all both either nonempty often often_past one optional
row_autolink = refl

-- raw HTML, a slice of the source
abbrev tag : List ℕ
tag = codes "a <b> c"

row_tag : read_chain in_paragraph tag (plain_text 0 2 ∷ less 2 ∷ plain_text 3 7 ∷ [])
    ≡ node (text_at tag 0 0 2) nil
    (node (node_over 1 (leaf (inline_html (codes "<b>")) (sliced ∷ [])) 2 5) nil (node (text_at tag 2 5 7) nil nil))
unfolding read_tree markup_at all both either nonempty often often_past one optional
row_tag = refl

-- and made, where the prefix of a line is removed
row_tag_over_lines : read_chain in_quote (codes "> <foo\n> bar>")
    (less 2 ∷ plain_text 3 6 ∷ item 6 9 body.SoftBreak ∷ plain_text 9 13 ∷ [])
    ≡ node (made_at 0 (inline_html (codes "<foo\nbar>")) 2 13) nil nil
unfolding read_tree markup_at all both either nonempty often often_past one optional
row_tag_over_lines = refl

-- a `<` that begins nothing, and one whose next item does not start directly after it
row_nothing : read_chain in_paragraph (codes "< a") (less 0 ∷ plain_text 1 3 ∷ [])
    ≡ node (text_at (codes "< a") 0 0 1) nil (node (text_at (codes "< a") 1 1 3) nil nil)
unfolding read_tree markup_at all both either nonempty often often_past one optional
row_nothing = refl

abbrev not_directly : List ℕ
not_directly = codes "<\\!-- x -->"

row_not_directly : read_chain in_paragraph not_directly (less 0 ∷ plain_text 2 11 ∷ [])
    ≡ node (text_at not_directly 0 0 1) nil (node (text_at not_directly 1 2 11) nil nil)
unfolding read_tree
row_not_directly = refl

-- past byte 3: what ends there or before leaves, also where it is empty, and the first that is left is cut
abbrev rest_of : List ℕ
rest_of = codes "abcdefg"

row_past : past (Some 3)
    (chain_from 0 rest_of (plain_text 1 2 ∷ ticks 2 1 ∷ plain_text 3 3 ∷ plain_text 2 5 ∷ ticks 5 2 ∷ []))
    ≡ chain_from 3 rest_of (plain_text 3 5 ∷ ticks 5 2 ∷ [])
row_past = refl
