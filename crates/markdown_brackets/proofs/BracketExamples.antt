-- What becomes of small chains of brackets, by the definitions.
use Rattle.std.proofs.Common.{◌≡◌, ℕ, ◌+◌, ◌-◌, Bool, true, false, ◌==◌, List, [], ◌∷◌, ◌++◌, Option, Some, None}
use Rattle.std.proofs.Common.{length, nat_lt, refl}
use Rattle.std.specs.Prelude.{codes, bytes_eq, map}
use Rattle.markdown_base.specs.Syntax.{commonmark}
use Rattle.markdown_base.specs.declared.syntax.Syntax.{Syntax}
use Rattle.markdown_base.specs.Event.{TagView, EventView, text, link, image, footnote_reference}
use Rattle.markdown_base.specs.Forest.{Forest, nil, node}
use Rattle.markdown_base.specs.Questions.{Answer, Answers}
use Rattle.markdown_base.specs.declared.item.Item.{Item}
use Rattle.markdown_base.specs.declared.item.ItemBody.{ItemBody}
use Rattle.markdown_base.specs.declared.item.ItemBody.TheVariants as body
use Rattle.markdown_base.specs.declared.tag.LinkType.TheVariants as kind
use Rattle.markdown_document.specs.Document.{Shape, leaf, enclosed, Plain, tree_node_of}
use Rattle.markdown_document.specs.Tables.{no_tables}
use Rattle.markdown_brackets.specs.BracketDecision.{BracketContext, Progress, uses_once_more, decided}
use Rattle.markdown_brackets.specs.ClosingBracket.{closed}
use Rattle.markdown_brackets.specs.LeftList.{done, trees_onto}
use Rattle.markdown_brackets.specs.ReadChain.{begun, read_chain}

-- the items of a line: brackets, and texts between them; a backslash is in no item
abbrev item_if : Bool → ItemBody → ℕ → ℕ → List Item → List Item
item_if true body i j items = record { start = i; end = j; body = body } ∷ items
item_if false body i j items = items

abbrev item_text : ℕ → ℕ → List Item → List Item
item_text i j items = item_if (nat_lt i j) (body.Text false) i j items

-- from byte j on, where a text began at byte i: the byte before was a `!`, or a backslash
abbrev items_from : ℕ → ℕ → (bang escaped : Bool) → List ℕ → List Item
items_from i j bang escaped [] = item_text i j []
items_from i j bang true (b ∷ bytes) = items_from i (j + 1) false false bytes
items_from i j bang false (b ∷ bytes) =
    elim (b == 91) [
      | true ↦ elim bang [
        | true ↦ item_text i (j - 1) (record { start = j - 1; end = j + 1; body = body.MaybeImage } ∷ items_from (j + 1)
            (j + 1) false false
            bytes)
        | false ↦ item_text i j
            (record { start = j; end = j + 1; body = body.MaybeLinkOpen } ∷ items_from (j + 1) (j + 1) false false
            bytes)
      ]
      | false ↦ elim (b == 93) [
        | true ↦ item_text i j (record { start = j; end = j + 1; body = body.MaybeLinkClose true } ∷ items_from (j + 1)
            (j + 1) false false
            bytes)
        | false ↦ elim (b == 92) [
          | true ↦ item_text i j (items_from (j + 1) (j + 1) false true bytes)
          | false ↦ items_from i (j + 1) (b == 33) false bytes
        ]
      ]
    ]

abbrev chain_of : List ℕ → List Item → Forest Plain
chain_of source [] = nil
chain_of source (item ∷ items) = node (tree_node_of source no_tables item) nil (chain_of source items)

-- a link as `{destination title:text}`, an image as `!{..}`, a footnote reference as `^{name}`
abbrev leaf_bytes : EventView → List ℕ
leaf_bytes (text t) = t
leaf_bytes (footnote_reference name) = codes "^{" ++ name ++ codes "}"
leaf_bytes other = codes "?"

abbrev around_bytes : TagView → List ℕ → List ℕ
around_bytes (link v) inner = codes "{" ++ v.destination ++ v.title ++ codes ":" ++ inner ++ codes "}"
around_bytes (image v) inner = codes "!{" ++ v.destination ++ v.title ++ codes ":" ++ inner ++ codes "}"
around_bytes other inner = codes "?"

abbrev shape_bytes : Shape → List ℕ → List ℕ
shape_bytes (leaf e origins) inner = leaf_bytes e
shape_bytes (enclosed tag origins) inner = around_bytes tag inner
shape_bytes other inner = codes "?"

abbrev shown : Forest Plain → List ℕ
shown nil = []
shown (node a below after) = shape_bytes a.part.shape (shown below) ++ shown after

-- the ranges of all trees, in preorder
abbrev range_pair : Plain → ℕ × ℕ
range_pair a = (a.part.range.start, a.part.range.end)

abbrev ranges : Forest Plain → List (ℕ × ℕ)
ranges nil = []
ranges (node a below after) = range_pair a ∷ (ranges below ++ ranges after)

-- lines have no prefix, and nothing is defined except, if footnotes are enabled, the footnote `a`
abbrev bracket_context : Syntax → Bool → List ℕ → BracketContext
bracket_context syntax asks source = record {
  setting = record {
    text = source;
    rules = record {
      syntax = syntax;
      definitions = λ label. None;
      is_footnote = bytes_eq (codes "a");
      asks = asks;
    };
  };
  above = record { block_end = length source; in_table = false; bodies = [] };
  skipped = λ rest. 0;
}

abbrev progress : Syntax → Bool → ℕ → Answers → List ℕ → Progress (Unit {0})
progress syntax asks limit answers source =
    read_chain (bracket_context syntax asks source) (λ a below rest p. record p { left = done a below ∷ p.left })
    (chain_of source (items_from 0 0 false false source))
    (begun (record { limit = limit; answers = answers; uses = λ name. 0 }))

abbrev forest_of : Progress (Unit {0}) → Forest Plain
forest_of p = trees_onto p.left nil

-- with this syntax and nobody to ask
abbrev read_with : Syntax → List ℕ → List ℕ
read_with syntax source = shown (forest_of (progress syntax false 100 [] source))

-- CommonMark with one extension
abbrev with_wikilinks : Syntax
with_wikilinks = record commonmark { wikilinks = true }

abbrev with_footnotes : Syntax
with_footnotes = record commonmark { footnotes = true }

abbrev with_old_footnotes : Syntax
with_old_footnotes = record commonmark { footnotes = true; old_footnotes = true }

-- where each question is answered so
abbrev answer : List ℕ → List ℕ → Option Answer
answer destination title = Some (record { destination = destination; title = title })

-- tables of sources, each with what is shown of it, its trees' ranges, or the number of questions that are asked if
-- each is refused
abbrev Shows : Syntax → List (List ℕ × List ℕ) → Type 0
Shows syntax rows = map (λ row. read_with syntax row.0) rows ≡ map (λ row. row.1) rows

abbrev HasRanges : Syntax → List (List ℕ × List (ℕ × ℕ)) → Type 0
HasRanges syntax rows = map (λ row. ranges (forest_of (progress syntax false 100 [] row.0))) rows
    ≡ map (λ row. row.1) rows

abbrev Asks : List (List ℕ × ℕ) → Type 0
Asks rows = map (λ row. length (progress commonmark true 100 [] row.0).asked) rows ≡ map (λ row. row.1) rows

-- inline links and images; a link contains no link, but it may contain an image, and an image a link
links_and_images : Shows commonmark (
    (codes "a [b](c) d", codes "a {c:b} d")
    ∷ (codes "[a [b](c) d](e)", codes "[a {c:b} d](e)")
    ∷ (codes "![a *b*](c \"t\")", codes "!{ct:a *b*}")
    ∷ (codes "[![a](b)](c)", codes "{c:!{b:a}}")
    ∷ (codes "![[a](b)](c)", codes "!{c:{b:a}}")
    -- no opener
    ∷ (codes "a](b)", codes "a](b)")
    -- no wikilink without the option
    ∷ (codes "[[foo]]", codes "[[foo]]")
    ∷ [])
unfolding read_chain closed decided
links_and_images = refl

link_ranges : HasRanges commonmark ((codes "a [b](c) d", (0, 2) ∷ (2, 8) ∷ (3, 4) ∷ (8, 10) ∷ []) ∷ [])
unfolding read_chain closed decided
link_ranges = refl

-- footnotes in GitHub's style (4): a defined one is a reference, takes no `[]` after it, and no opener before it opens
-- a link
footnotes : Shows with_footnotes (
    (codes "this![^a] out", codes "this!^{a} out")
    ∷ (codes "a[^b]", codes "a[^b]")
    ∷ (codes "[^a][]", codes "^{a}[]")
    ∷ (codes "[b[^a]](c)", codes "[b^{a}](c)")
    ∷ [])
unfolding read_chain closed decided
footnotes = refl

-- in the old style (516) what is not defined is one too
old_footnotes : Shows with_old_footnotes ((codes "a[^b]", codes "a^{b}") ∷ [])
unfolding read_chain closed decided
old_footnotes = refl

-- an image's mark before a footnote is a text
footnote_ranges : HasRanges with_footnotes ((codes "this![^a] out", (0, 4) ∷ (4, 5) ∷ (5, 9) ∷ (9, 13) ∷ []) ∷ [])
unfolding read_chain closed decided
footnote_ranges = refl

-- uses are counted
used_twice : (progress with_footnotes false 100 [] (codes "[^a] [^a]")).state.uses
    ≡ uses_once_more (codes "a") (uses_once_more (codes "a") (λ name. 0))
unfolding read_chain closed decided
used_twice = refl

-- wikilinks, without a pipe and with one
many_wikilinks : Shows with_wikilinks (
    (codes "[[foo]] [[bar|baz]]", codes "{foo:foo} {bar:baz}")
    -- no name
    ∷ (codes "[[|b]]", codes "[[|b]]")
    -- an escape in the shown text stays one
    ∷ (codes "[[a|\\*b]]", codes "{a:*b}")
    -- what was found leaves no opener inside it
    ∷ (codes "![[a]] b](c)", codes "!{a:a} b](c)")
    ∷ (codes "[[ ![p ![q ]] r](z) tail", codes "{ ![p ![q : ![p ![q } r](z) tail")
    -- an opener whose second bracket became a link opens no wikilink
    ∷ (codes "![[a](b) c]]", codes "![{b:a} c]]")
    ∷ [])
unfolding read_chain closed decided
many_wikilinks = refl

wikilink_ranges : HasRanges with_wikilinks (
    (codes "[[foo]] [[bar|baz]]", (0, 7) ∷ (2, 5) ∷ (7, 8) ∷ (8, 19) ∷ (14, 17) ∷ [])
    -- nothing is shown
    ∷ (codes "[[a|]]", (0, 6) ∷ (4, 4) ∷ [])
    ∷ [])
unfolding read_chain closed decided
wikilink_ranges = refl

-- none is asked twice for one bracket
questions : Asks (
    (codes "[g][crate::g].", 1)
    ∷ (codes "[g][crate::g][].", 1)
    ∷ (codes "[one] and [two]", 2)
    ∷ [])
unfolding read_chain closed decided
questions = refl

-- an escaped bracket opens no label: both are shortcuts
escaped_bracket : shown (forest_of (progress commonmark true 100
    (answer (codes "u") [] ∷ None ∷ []) (codes "[a]\\[b]")))
    ≡ codes "{u:a}[b]"
unfolding read_chain closed decided
escaped_bracket = refl

-- without footnotes the label is a link's
no_footnotes : shown (forest_of (progress commonmark true 100 (answer (codes "yolo") [] ∷ []) (codes "a [^a]")))
    ≡ codes "a {yolo:^a}"
unfolding read_chain closed decided
no_footnotes = refl

-- a reference in full: its range ends with its label, and who is asked is told the form
abbrev asks_world : Progress (Unit {0})
asks_world = progress commonmark true 100 (answer (codes "YOLO") (codes "SWAG") ∷ []) (codes "no def: [hello][world]")

full_reference : (asks_world.asked
    ≡ record { span = record { start = 8; end = 22 }; link_type = kind.Reference; reference = codes "world" } ∷ [])
    × (shown (forest_of asks_world) ≡ codes "no def: {YOLOSWAG:hello}")
    × (ranges (forest_of asks_world) ≡ (0, 8) ∷ (8, 22) ∷ (9, 14) ∷ [])
unfolding read_chain closed decided
full_reference = (refl, refl, refl)

-- the range of a collapsed one ends before its `[]`
abbrev asks_foo : Progress (Unit {0})
asks_foo = progress commonmark true 100 (answer (codes "u") [] ∷ []) (codes "[foo][]")

collapsed_reference : (asks_foo.asked
    ≡ record { span = record { start = 0; end = 5 }; link_type = kind.Collapsed; reference = codes "foo" } ∷ [])
    × (ranges (forest_of asks_foo) ≡ (0, 5) ∷ (1, 4) ∷ [])
unfolding read_chain closed decided
collapsed_reference = (refl, refl)

-- a target may be longer than what is left of the limit, but then no further question is asked
abbrev asks_two : Progress (Unit {0})
asks_two = progress commonmark true 3 (answer (codes "long") [] ∷ answer (codes "v") [] ∷ []) (codes "[a] [b]")

second_is_text : (shown (forest_of asks_two) ≡ codes "{long:a} [b]")
    × (length asks_two.asked ≡ 1)
    × (asks_two.state.answers ≡ answer (codes "v") [] ∷ [])
unfolding read_chain closed decided
second_is_text = (refl, refl, refl)
