-- The tables of a text are whole, with their parts alone, its list items stand in lists, and its headings apart: its
-- blocks hold them in place, resolving chains keeps them there, and the events of such a tree keep them so.
use Rattle.std.proofs.Common.{◌≡◌, ◌&&◌, ◌||◌, ℕ, Bool, true, false, List, [], ◌∷◌, ◌++◌, None, Some, append-nil}
use Rattle.std.proofs.Common.{append_assoc, ap, map, refl, subst, sym, ◌∙◌}
use Rattle.std.specs.List.{list_any}
use Rattle.std.proofs.Math.Bool.{or-true}
use Rattle.std.specs.Prelude.{IsTrue, not, slice_range}
use Rattle.std.specs.declared.ops.Range.{Range}
use Rattle.std.proofs.lemmas.Bool.{and_parts}
use Rattle.markdown_base.specs.BlockTree.{Numbered, tree_of}
use Rattle.markdown_base.specs.Event.{EventView, TagView, end, heading, list, list_item, start, tag_end, table}
use Rattle.markdown_base.specs.Event.{table_cell, table_head, table_row}
use Rattle.markdown_base.specs.Forest.{Each, Forest, nil, node, relabelled}
use Rattle.markdown_base.specs.Item.{is_inline, is_open}
use Rattle.markdown_base.specs.WellFormed.{AllKeepRules, PartCounts, all_inline, counts_of, has_open}
use Rattle.markdown_base.specs.declared.item.ItemBody.{ItemBody}
use Rattle.markdown_base.specs.declared.item.ItemBody.TheVariants as body
use Rattle.markdown_base.specs.declared.tag.TagEnd.{TagEnd}
use Rattle.markdown_base.specs.declared.tag.TagEnd.TheVariants as closes
use Rattle.markdown_base.specs.Source.{Source}
use Rattle.markdown_base.proofs.WellFormedLemmas.{inline_childless}
use Rattle.markdown_block_laws.proofs.TableLawsLemmas.{items_in_place, tables_in_place}
use Rattle.markdown_block_laws.specs.ItemsInPlace.{ItemsInPlace, is_list}
use Rattle.markdown_block_laws.specs.TaskLaws.{is_list_item}
use Rattle.markdown_block_laws.specs.TableLaws.{AreCells, AreHeadAndRows, AreRows}
use Rattle.markdown_block_laws.specs.TablesInPlace.{StandsOutside, TablesInPlace}
use Rattle.markdown_blocks.specs.Blocks.{IsBlocksOf, block_arena, block_parts, text_of_blocks}
use Rattle.markdown_blocks.specs.declared.blocks.Blocks.{Blocks}
use Rattle.markdown_builder.specs.HeadingsHoldInline.{HeadingsHoldInline, is_heading_block}
use Rattle.markdown_builder.specs.Shown.{Parts, Shown, shown_item, stored_parts, unnumbered}
use Rattle.markdown_document.proofs.PlaceLemmas.{open-unresolved}
use Rattle.markdown_document.specs.ChainRest.{cut_shape}
use Rattle.markdown_document.specs.Document.{Plain, Shape, TreeNode, backslash_break, document, enclosed, is_unresolved}
use Rattle.markdown_document.specs.Document.{leaf, no_notes, plain, shape_of, tree_node_of, unresolved}
use Rattle.markdown_document.specs.EnclosingBlocks.{EnclosingBlocks, inside_node, no_blocks}
use Rattle.markdown_document.specs.Setting.{ReferenceState, Setting, setting_of}
use Rattle.markdown_document.specs.Tables.{Tables, tables_at_start}
use Rattle.markdown_event_laws.specs.EventsOfTexts.{ReadingsPass, TextsPass}
use Rattle.markdown_event_laws.specs.NestedEvents.{awaited_after, closes_heading, each_passes, ends_cells, ends_list}
use Rattle.markdown_event_laws.specs.NestedEvents.{ends_rows_or_cells, ends_table, headings_are_apart}
use Rattle.markdown_event_laws.specs.NestedEvents.{items_are_in_lists, keep_tables_whole, keeps_headings_apart}
use Rattle.markdown_event_laws.specs.NestedEvents.{keeps_items_in_lists, keeps_table_parts_alone, keeps_tables_whole}
use Rattle.markdown_event_laws.specs.NestedEvents.{nearest_is, starts_table, table_parts_are_alone, tables_are_whole}
use Rattle.markdown_inline.proofs.ReadingOfTextLemmas.{text-law}
use Rattle.markdown_inline.proofs.ResolvedShapesLemmas.{shapes-law}
use Rattle.markdown_inline.proofs.WholeReadingLemmas.{block_tree-law}
use Rattle.markdown_inline.specs.Elements.{Element, Placed, events_of}
use Rattle.markdown_inline.specs.ParserLeft.{reading_of, rules_of, state_at_start}
use Rattle.markdown_inline.specs.ResolvedDocument.{Resolving, resolved_blocks, resolved_chain, resolved_document}
use Rattle.markdown_inline.specs.ResolvedDocument.{resolved_tree}
use Rattle.markdown_inline.specs.ResolvedShapes.{IsMadeShape, IsMadeTag}
use Rattle.markdown_inline.specs.TreeReading.{GivesBoth, IsLone, events_in, tree_events}

-- ---- tables, lists and headings in place, in a tree as it is read

-- the event keeps tables whole, list items in lists, headings apart, and the parts of tables alone
abbrev keeps_all : EventView → (awaited : List TagEnd) → (first : Bool) → Bool
keeps_all e awaited first = keeps_tables_whole e awaited first
    && (keeps_items_in_lists e awaited && (keeps_headings_apart e awaited && keeps_table_parts_alone e awaited))

abbrev keep_all : (awaited : List TagEnd) → (first : Bool) → List EventView → Bool
keep_all awaited first [] = true
keep_all awaited first (e ∷ events) =
    keeps_all e awaited first && keep_all (awaited_after e awaited) (starts_table e) events

-- what has no place of its own may stand here: the nearest awaited End is neither that of a list nor of a table, a head
-- or a row
record HoldsAny (awaited : List TagEnd) : Type 0 where
  lists : nearest_is ends_list awaited ≡ false
  parts : nearest_is ends_rows_or_cells awaited ≡ false

-- an event that is no Start of a list item or of a table's head, row or cell may stand here
abbrev IsFree : (awaited : List TagEnd) → (first : Bool) → Type 0
IsFree awaited first = (first ≡ false) × HoldsAny awaited

-- the tag is that of a table, a list or a heading, or of a part of one
abbrev is_placed : TagView → Bool
is_placed (heading h) = true
is_placed (list number) = true
is_placed list_item = true
is_placed (table alignments) = true
is_placed table_head = true
is_placed table_row = true
is_placed table_cell = true
is_placed other = false

abbrev not_placed : Shape → Bool
not_placed (enclosed tag origins) = not (is_placed tag)
not_placed other = true

-- A tree of this shape keeps all of these, where these Ends are awaited before it and the event before it is the Start
-- of a table or is not: by itself, in what is below it, and in what comes after it. An open one begins a chain that
-- holds none of them.
abbrev StandsAt : Shape → (awaited : List TagEnd) → (first : Bool) → (chain : Type 0)
    → (below : List TagEnd → Bool → Type 0) → (after : Type 0) → Type 0
StandsAt (leaf e origins) awaited first chain below after = IsFree awaited first × after
StandsAt (enclosed tag origins) awaited first chain below after =
    (keeps_all (start tag) awaited first ≡ true)
    × below (tag_end tag ∷ awaited) (starts_table (start tag)) × after
StandsAt plain awaited first chain below after = IsFree awaited first × below awaited false × after
StandsAt backslash_break awaited first chain below after = IsFree awaited first × after
StandsAt (unresolved b) awaited first chain below after = IsFree awaited first × chain

-- another tag keeps all of these wherever it is free to stand
record IsOther (tag : TagView) : Type 0 where
  keeps : (awaited : List TagEnd) → HoldsAny awaited → keeps_all (start tag) awaited false ≡ true
  starts : starts_table (start tag) ≡ false
  tables : ends_table (tag_end tag) ≡ false
  lists : ends_list (tag_end tag) ≡ false
  headings : closes_heading (tag_end tag) ≡ false
  parts : ends_rows_or_cells (tag_end tag) ≡ false

other_tag : (tag : TagView) → not (is_placed tag) ≡ true → IsOther tag
other_tag (heading h) n = absurd (cc n)
other_tag (list number) n = absurd (cc n)
other_tag list_item n = absurd (cc n)
other_tag (table alignments) n = absurd (cc n)
other_tag table_head n = absurd (cc n)
other_tag table_row n = absurd (cc n)
other_tag table_cell n = absurd (cc n)
other_tag other n = record {
  keeps = λ awaited free. rw (free.lists, free.parts) refl;
  starts = refl;
  tables = refl;
  lists = refl;
  headings = refl;
  parts = refl;
}

-- these Ends are awaited below such a tag, where others are awaited before it
record AreInside (awaited ends : List TagEnd) : Type 0 where
  tables : list_any ends_table ends ≡ list_any ends_table awaited
  headings : list_any closes_heading ends ≡ list_any closes_heading awaited
  free : HoldsAny ends

other_stands : (shape : Shape) (awaited : List TagEnd) (chain : Type 0) (below : List TagEnd → Bool → Type 0)
    (after : Type 0)
    → not_placed shape ≡ true → HoldsAny awaited
    → ((ends : List TagEnd) → AreInside awaited ends → below ends false) → after
    → (is_unresolved shape ≡ true → chain) → StandsAt shape awaited false chain below after
other_stands (leaf e origins) awaited chain below after n free i l c = ((refl, free), l)
other_stands (enclosed tag origins) awaited chain below after n free i l c =
    let o = other_tag tag n in (
      o.keeps awaited free,
      rw o.starts (i (tag_end tag ∷ awaited)
          (record {
            tables = rw o.tables refl;
            headings = rw o.headings refl;
            free = record { lists = o.lists; parts = o.parts };
          })),
      l,
    )
other_stands plain awaited chain below after n free i l c =
    ((refl, free), i awaited (record { tables = refl; headings = refl; free = free }), l)
other_stands backslash_break awaited chain below after n free i l c = ((refl, free), l)
other_stands (unresolved b) awaited chain below after n free i l c = ((refl, free), c refl)

-- events keep all of these
abbrev AreWhole : (awaited : List TagEnd) → (first : Bool) → List Placed → Type 0
AreWhole awaited first events = keep_all awaited first (map (λ (e : Placed). e.0) events) ≡ true

lone_whole : (e : EventView) (awaited : List TagEnd) (events : List EventView) → IsLone e → HoldsAny awaited
    → keep_all awaited false events ≡ true → keep_all awaited false (e ∷ events) ≡ true
lone_whole (start tag) awaited events lone free w = absurd lone
lone_whole (end x) awaited events lone free w = absurd lone
lone_whole other awaited events lone free w = rw (free.lists, free.parts) w

end_whole : (e : TagEnd) (awaited : List TagEnd) (events : List EventView) → keep_all awaited false events ≡ true
    → keep_all (e ∷ awaited) false (end e ∷ events) ≡ true
end_whole e awaited events w = rw (ends (ends_list e)) w
  where
    ends : (is : Bool) → (is || not is) ≡ true
    ends true = refl
    ends false = refl

module _ {A : Type 0} where
  -- none of these trees is a table, a list, a heading or a part of one, at any depth
  abbrev HoldNone : Forest (TreeNode A) → Type 0
  HoldNone f = Each (λ (a : TreeNode A). not_placed a.part.shape ≡ true) f

  -- these trees keep all of these, where these Ends are awaited before the first
  abbrev AreInPlace : (awaited : List TagEnd) → (first : Bool) → Forest (TreeNode A) → Type 0
  AreInPlace awaited first nil = first ≡ false
  AreInPlace awaited first (node a below after) =
      StandsAt a.part.shape awaited first (HoldNone (node a below after))
      (λ ends starts. AreInPlace ends starts below) (AreInPlace awaited false after)

  without_placed : (f : Forest (TreeNode A)) (awaited : List TagEnd) → HoldsAny awaited → HoldNone f
      → AreInPlace awaited false f
  without_placed nil awaited free n = refl
  without_placed (node a below after) awaited free n =
      other_stands a.part.shape awaited (HoldNone (node a below after))
      (λ ends starts. AreInPlace ends starts below) (AreInPlace awaited false after) n.0 free
      (λ ends is. without_placed below ends is.free n.1) (without_placed after awaited free n.2) (λ is. n)

  -- ---- the events of such a tree

  -- a tree before others, and its forest
  tree_whole : (shape : Shape) (range : Range ℕ) (a : TreeNode A) (below after : Forest (TreeNode A))
      (awaited : List TagEnd) (first : Bool) (rest : List Placed) → GivesBoth shape
      → StandsAt shape awaited first (HoldNone (node a below after))
      (λ ends starts. AreInPlace ends starts below) (AreInPlace awaited false after)
      → ((ends : List TagEnd) (starts : Bool) (more : List Placed) → AreInPlace ends starts below
      → AreWhole ends false more → AreWhole ends starts (events_in below ++ more))
      → (AreInPlace awaited false after → AreWhole awaited false (events_in after ++ rest))
      → AreWhole awaited first (tree_events shape range (events_in below) (events_in after) ++ rest)
  tree_whole (leaf e origins) range a below after awaited first rest and_parts p i l =
      rw p.0.0 (lone_whole e awaited (map (λ (e : Placed). e.0) (events_in after ++ rest)) and_parts p.0.1
      (l p.1))
  tree_whole (enclosed tag origins) range a below after awaited first rest and_parts p i l =
      rw (p.0, append_assoc (events_in below) ((end (tag_end tag), range, []) ∷ events_in after) rest)
      (i (tag_end tag ∷ awaited) (starts_table (start tag)) ((end (tag_end tag), range, []) ∷ (events_in after ++ rest))
      p.1 (end_whole (tag_end tag) awaited (map (λ (e : Placed). e.0) (events_in after ++ rest)) (l p.2)))
  tree_whole plain range a below after awaited first rest and_parts p i l =
      rw (p.0.0, append_assoc (events_in below) (events_in after) rest)
      (i awaited false (events_in after ++ rest) p.1 (l p.2))
  tree_whole backslash_break range a below after awaited first rest and_parts p i l =
      rw (p.0.0, p.0.1.lists, p.0.1.parts) (l p.1)
  tree_whole (unresolved b) range a below after awaited first rest and_parts p i l =
      rw p.0.0 (l (without_placed after awaited p.0.1 p.1.2))

  events_whole : (f : Forest (TreeNode A)) (awaited : List TagEnd) (first : Bool) (rest : List Placed)
      → Each (λ (a : TreeNode A). GivesBoth a.part.shape) f → AreInPlace awaited first f → AreWhole awaited false rest
      → AreWhole awaited first (events_in f ++ rest)
  events_whole nil awaited first rest and_parts p w = rw p w
  events_whole (node a below after) awaited first rest and_parts p w =
      tree_whole a.part.shape a.part.range a below after awaited first rest and_parts.0 p
      (λ ends starts more q v. events_whole below ends starts more and_parts.1 q v)
      (λ q. events_whole after awaited false rest and_parts.2 q w)

-- ---- resolving keeps them in place

made_tag : (tag : TagView) → IsMadeTag tag → not (is_placed tag) ≡ true
made_tag (heading h) m = absurd m
made_tag (list number) m = absurd m
made_tag list_item m = absurd m
made_tag (table alignments) m = absurd m
made_tag table_head m = absurd m
made_tag table_row m = absurd m
made_tag table_cell m = absurd m
made_tag other m = refl

made : (shape : Shape) → IsMadeShape shape → not_placed shape ≡ true
made (enclosed tag origins) m = made_tag tag m
made other m = refl

cuts : (n : ℕ) (shape : Shape) → not_placed (cut_shape n shape) ≡ not_placed shape
cuts n (leaf e origins) = refl
cuts n other = refl

-- what is below a tree, what comes after it, and the chain that it may begin, stay in place
record StayInPlace (a : Plain) (below after : Forest Plain) (inside later chain : Resolving (Unit {0})) : Type 0 where
  below_stays : (awaited : List TagEnd) (first : Bool) (state : ReferenceState) → AreInPlace awaited first below
      → AreInPlace awaited first (inside state).trees
  after_stays : (awaited : List TagEnd) (state : ReferenceState) → AreInPlace awaited false after
      → AreInPlace awaited false (later state).trees
  chain_stays : (awaited : List TagEnd) (state : ReferenceState) → HoldsAny awaited → HoldNone (node a below after)
      → AreInPlace awaited false (chain state).trees

tree_stays : (shape : Shape) (a : Plain) (below after : Forest Plain) (inside later chain : Resolving (Unit {0}))
    (awaited : List TagEnd) (first : Bool) (state : ReferenceState) → a.part.shape ≡ shape
    → StayInPlace a below after inside later chain
    → StandsAt shape awaited first (HoldNone (node a below after)) (λ ends starts. AreInPlace ends starts below)
    (AreInPlace awaited false after)
    → AreInPlace awaited first (resolved_tree shape a inside later chain state).trees
tree_stays (leaf e origins) a below after inside later chain awaited first state is k p =
    rw is (p.0, k.after_stays awaited state p.1)
tree_stays (enclosed tag origins) a below after inside later chain awaited first state is k p =
    rw is (
      p.0,
      k.below_stays (tag_end tag ∷ awaited) (starts_table (start tag)) state p.1,
      k.after_stays awaited (inside state).state p.2,
    )
tree_stays plain a below after inside later chain awaited first state is k p =
    rw is (p.0, k.below_stays awaited false state p.1, k.after_stays awaited (inside state).state p.2)
tree_stays backslash_break a below after inside later chain awaited first state is k p =
    rw is (p.0, k.after_stays awaited state p.1)
tree_stays (unresolved b) a below after inside later chain awaited first state is k p =
    rw p.0.0 (k.chain_stays awaited state p.0.1 p.1)

document_stays : (s : Setting) (above : EnclosingBlocks) (f : Forest Plain) (awaited : List TagEnd) (first : Bool)
    (state : ReferenceState) → AreInPlace awaited first f
    → AreInPlace awaited first (resolved_document s no_notes above f state).trees
document_stays s above nil awaited first state p = p
document_stays s above (node a below after) awaited first state p =
    let chain : Resolving (Unit {0}) = λ k. resolved_chain s no_notes above (node a below after) k in
    tree_stays a.part.shape a below after (λ k. resolved_document s no_notes (inside_node a above) below k)
    (λ k. resolved_document s no_notes above after k) chain awaited first state refl (record {
      below_stays = λ ends starts k q. document_stays s (inside_node a above) below ends starts k q;
      after_stays = λ ends k q. document_stays s above after ends false k q;
      chain_stays = λ ends k free n. without_placed (chain k).trees ends free
          (shapes-law not_placed made cuts s no_notes above (node a below after) k n);
    }) p

-- ---- the tree of a text's blocks

-- a part of a table refers to nothing, so it is shown as it is
abbrev is_part : ItemBody → Bool
is_part body.TableHead = true
is_part body.TableRow = true
is_part body.TableCell = true
is_part other = false

same_part : (b : ItemBody) → is_part (unnumbered b) ≡ true → unnumbered b ≡ b
same_part (body.SynthesizeText ix) h = cc h
same_part (body.FencedCodeBlock ix) h = cc h
same_part (body.FootnoteDefinition ix) h = cc h
same_part (body.Heading level (Some ix)) h = cc h
same_part (body.Table ix) h = cc h
same_part other h = refl

-- an inline item is none of these, and has no children
inline_shape : (tables : Tables) (bytes : List ℕ) (b : ItemBody) → is_inline (unnumbered b) ≡ true
    → not_placed (shape_of tables bytes b) ≡ true
inline_shape tables bytes (body.Heading level (Some ix)) h = cc h
inline_shape tables bytes (body.Heading level None) h = cc h
inline_shape tables bytes (body.List tight marker number) h = cc h
inline_shape tables bytes (body.ListItem indent) h = cc h
inline_shape tables bytes (body.Table ix) h = cc h
inline_shape tables bytes body.TableHead h = cc h
inline_shape tables bytes body.TableRow h = cc h
inline_shape tables bytes body.TableCell h = cc h
inline_shape tables bytes (body.HardBreak true) h = refl
inline_shape tables bytes (body.HardBreak false) h = refl
inline_shape tables bytes other h = refl

inline_shown : (b : ItemBody) → is_inline b ≡ true → is_inline (unnumbered b) ≡ true
inline_shown (body.Heading level (Some ix)) h = h
inline_shown other h = h

-- no table and no heading is open, nor, nearest of all, a head or a row
abbrev AreOutside : (awaited : List TagEnd) → Type 0
AreOutside awaited = (list_any ends_table awaited ≡ false) × (list_any closes_heading awaited ≡ false)
    × (nearest_is ends_rows_or_cells awaited ≡ false)

-- an item outside of tables and headings, in a list if it is a list item
module _ (tables : Tables) (bytes : List ℕ) (shown : Forest Shown) (inner : Type 0) (awaited : List TagEnd)
    (chain : Type 0) (below : List TagEnd → Bool → Type 0) (after : Type 0) (out : AreOutside awaited)
    (rows : AreHeadAndRows shown → below (closes.Table ∷ awaited) true) where
  abbrev BodyStands : ItemBody → Type 0
  BodyStands b =
      nearest_is ends_list awaited ≡ is_list_item (unnumbered b) → StandsOutside (unnumbered b) shown inner
      → (IsTrue (is_heading_block b) → (ends : List TagEnd) → HoldsAny ends → below ends false)
      → (inner → (ends : List TagEnd) → AreOutside ends → nearest_is ends_list ends ≡ is_list (unnumbered b)
      → below ends false)
      → after → (is_unresolved (shape_of tables bytes b) ≡ true → chain)
      → StandsAt (shape_of tables bytes b) awaited false chain below after

  body_stands : (b : ItemBody) → BodyStands b
  body_stands (body.Table ix) at h heads i l c = (rw (at, out.0, out.2) refl, rows h, l)
  body_stands body.TableHead at h heads i l c = absurd h
  body_stands body.TableRow at h heads i l c = absurd h
  body_stands body.TableCell at h heads i l c = absurd h
  body_stands (body.Heading level None) at h heads i l c =
      (rw (at, out.1, out.2) refl, heads refl _ (record { lists = refl; parts = refl }), l)
  body_stands (body.Heading level (Some ix)) at h heads i l c =
      (rw (at, out.1, out.2) refl, heads refl _ (record { lists = refl; parts = refl }), l)
  body_stands (body.List tight marker number) at h heads i l c =
      (rw (at, out.2) refl, i h _ (out.0, out.1, refl) refl, l)
  body_stands (body.ListItem indent) at h heads i l c = (rw (at, out.2) refl, i h _ (out.0, out.1, refl) refl, l)
  body_stands (body.HardBreak true) at h heads i l c = ((refl, record { lists = at; parts = out.2 }), l)
  body_stands (body.HardBreak false) at h heads i l c = ((refl, record { lists = at; parts = out.2 }), l)
  body_stands other at h heads i l c =
      other_stands (shape_of tables bytes other) awaited chain below after refl (record { lists = at; parts = out.2 })
      (λ ends is. i h ends (is.tables ∙ out.0, is.headings ∙ out.1, is.free.parts) is.free.lists) l c

module _ (source : List ℕ) (tables : Tables) (held : Parts) (counts : PartCounts) where
  -- the items as they are shown, and as they are read
  abbrev shown : Forest Numbered → Forest Shown
  shown f = relabelled (shown_item held) (relabelled (λ (n : Numbered). n.item) f)

  abbrev labelled : Forest Numbered → Forest Plain
  labelled f = relabelled (λ (n : Numbered). tree_node_of source tables n.item) f

  abbrev read_as : Numbered → Shape
  read_as a = shape_of tables (slice_range source a.item.start a.item.end) a.item.body

  part_shape : (a : Numbered) (b : ItemBody) → is_part b ≡ true → unnumbered a.item.body ≡ b
      → read_as a ≡ shape_of tables (slice_range source a.item.start a.item.end) b
  part_shape a b is e = ap (shape_of tables (slice_range source a.item.start a.item.end))
      (sym (same_part a.item.body (ap is_part e ∙ is)) ∙ e)

  inline_items : (f : Forest Numbered) → Each (λ (a : Shown). IsTrue (is_inline a.item.body)) (shown f)
      → HoldNone (labelled f)
  inline_items nil h = tt
  inline_items (node a below after) h =
      (inline_shape tables _ a.item.body h.0, inline_items below h.1, inline_items after h.2)

  -- what is in a heading
  below_heading : (f : Forest Numbered) → Each (λ (a : Numbered). IsTrue (is_inline a.item.body)) f
      → HoldNone (labelled f)
  below_heading nil h = tt
  below_heading (node a below after) h = (
    inline_shape tables _ a.item.body (inline_shown a.item.body h.0),
    below_heading below h.1,
    below_heading after h.2,
  )

  -- an inline chain holds none of these
  inline_chain : (f : Forest Numbered) → AllKeepRules source counts f → all_inline f ≡ true → HoldNone (labelled f)
  inline_chain nil k h = tt
  inline_chain (node a below after) k h =
      let h = and_parts (is_inline a.item.body) (all_inline after) h in (
        inline_shape tables _ a.item.body (inline_shown a.item.body h.0),
        subst (λ (f : Forest Numbered). HoldNone (labelled f))
            (sym (k.0.chains_are_kept.childless (inline_childless a.item.body h.0))) tt,
        inline_chain after k.2 h.1,
      )

  cells_in_place : (f : Forest Numbered) (awaited : List TagEnd) → nearest_is ends_cells awaited ≡ true
      → nearest_is ends_list awaited ≡ false → AreCells (shown f) → AreInPlace awaited false (labelled f)
  cells_in_place nil awaited near free c = refl
  cells_in_place (node a below after) awaited near free c =
      rw (part_shape a body.TableCell refl c.0) (
        rw (near, free) refl,
        without_placed (labelled below) (closes.TableCell ∷ awaited) (record { lists = refl; parts = refl })
            (inline_items below c.1),
        cells_in_place after awaited near free c.2,
      )

  rows_in_place : (f : Forest Numbered) (awaited : List TagEnd) → AreRows (shown f)
      → AreInPlace (closes.Table ∷ awaited) false (labelled f)
  rows_in_place nil awaited r = refl
  rows_in_place (node a below after) awaited r =
      rw (part_shape a body.TableRow refl r.0) (
        refl,
        cells_in_place below (closes.TableRow ∷ closes.Table ∷ awaited) refl refl r.1,
        rows_in_place after awaited r.2,
      )

  head_in_place : (f : Forest Numbered) (awaited : List TagEnd) → AreHeadAndRows (shown f)
      → AreInPlace (closes.Table ∷ awaited) true (labelled f)
  head_in_place nil awaited h = absurd h
  head_in_place (node a below after) awaited h =
      rw (part_shape a body.TableHead refl h.0) (
        refl,
        cells_in_place below (closes.TableHead ∷ closes.Table ∷ awaited) refl refl h.1,
        rows_in_place after awaited h.2,
      )

  blocks_in_place : (f : Forest Numbered) (awaited : List TagEnd) (in_list : Bool) → AreOutside awaited
      → nearest_is ends_list awaited ≡ in_list → TablesInPlace (shown f) → ItemsInPlace in_list (shown f)
      → HeadingsHoldInline f → AllKeepRules source counts f → (has_open f ≡ true → all_inline f ≡ true)
      → AreInPlace awaited false (labelled f)
  blocks_in_place nil awaited in_list out at t items heads k o = refl
  blocks_in_place (node a below after) awaited in_list out at t items heads k o =
      body_stands tables (slice_range source a.item.start a.item.end) (shown below) (TablesInPlace (shown below))
      awaited (HoldNone (labelled (node a below after))) (λ ends starts. AreInPlace ends starts (labelled below))
      (AreInPlace awaited false (labelled after)) out (λ h. head_in_place below awaited h) a.item.body
      (at ∙ sym items.0) t.0
      (λ is ends free. without_placed (labelled below) ends free (below_heading below (heads.0 is)))
      (λ h ends outer near. blocks_in_place below ends (is_list (unnumbered a.item.body)) outer near h items.1 heads.1
      k.1 k.0.chains_are_kept.inline_only)
      (blocks_in_place after awaited in_list out at t.1 items.2 heads.2 k.2
      (λ later. (and_parts (is_inline a.item.body) (all_inline after)
      (o (rw later (or-true (is_open a.item.body))))).1))
      (λ is. inline_chain (node a below after) k (o (rw (open-unresolved tables _ a.item.body is) refl)))

-- ---- the events of a text

-- the tree of a text's blocks
text_in_place : (s : Source) (blocks : Blocks) → IsBlocksOf s blocks
    → AreInPlace [] false
    (document (text_of_blocks blocks) (tables_at_start (block_parts blocks)) (block_arena blocks).nodes)
text_in_place s blocks of =
    let parts = block_parts blocks in
    blocks_in_place (text_of_blocks blocks) (tables_at_start parts)
    (stored_parts parts.cows.items parts.headings.items parts.alignments.items) (counts_of parts)
    (tree_of (block_arena blocks).nodes) [] false (refl, refl, refl) refl
    (subst TablesInPlace (sym of.by_rules.tree) (tables_in_place s))
    (subst (ItemsInPlace false) (sym of.by_rules.tree) (items_in_place s)) of.by_rules.headings_hold_inline
    blocks.well_formed.rules (λ o. cc (o, blocks.well_formed.top_is_closed))

-- events that keep all of these keep each
all_kept : (events : List EventView) (awaited : List TagEnd) (first : Bool) → keep_all awaited first events ≡ true
    → (keep_tables_whole awaited first events ≡ true) × (each_passes keeps_items_in_lists awaited events ≡ true)
    × (each_passes keeps_headings_apart awaited events ≡ true)
    × (each_passes keeps_table_parts_alone awaited events ≡ true)
all_kept [] awaited first h = (refl, refl, refl, refl)
all_kept (e ∷ events) awaited first h =
    let more = keep_all (awaited_after e awaited) (starts_table e) events in
    let headings_and_parts = keeps_headings_apart e awaited && keeps_table_parts_alone e awaited in
    let kept = and_parts (keeps_all e awaited first) more h in
    let own =
    and_parts (keeps_tables_whole e awaited first) (keeps_items_in_lists e awaited && headings_and_parts) kept.0 in
    let others = and_parts (keeps_items_in_lists e awaited) headings_and_parts own.1 in
    let last = and_parts (keeps_headings_apart e awaited) (keeps_table_parts_alone e awaited) others.1 in
    let rest = all_kept events (awaited_after e awaited) (starts_table e) kept.1 in
    (rw own.0 rest.0, rw others.0 rest.1, rw last.0 rest.2, rw last.1 rest.3)

-- a test that such events pass
readings_pass : (test : List EventView → Bool)
    → ((events : List EventView) → keep_all [] false events ≡ true → test events ≡ true) → ReadingsPass test
readings_pass test passes s blocks of asks answers =
    let reads = block_tree-law blocks asks answers in
    let trees : Forest Plain = (resolved_blocks blocks asks answers).trees in
    let text = text_of_blocks blocks in
    let place = document_stays (setting_of text (rules_of blocks asks)) (no_blocks text)
    (document text (tables_at_start (block_parts blocks)) (block_arena blocks).nodes) [] false
    (state_at_start text answers) (text_in_place s blocks of) in
    passes (map (λ (e : Placed). e.0) (events_of (reading_of blocks asks answers)))
    (subst (AreWhole [] false) (append-nil (events_in trees) ∙ sym reads.events)
    (events_whole trees [] false [] reads.both place refl))

pub whole_readings : ReadingsPass tables_are_whole
whole_readings = readings_pass tables_are_whole (λ events kept. (all_kept events [] false kept).0)

pub items_of_readings : ReadingsPass items_are_in_lists
items_of_readings = readings_pass items_are_in_lists (λ events kept. (all_kept events [] false kept).1)

pub headings_of_readings : ReadingsPass headings_are_apart
headings_of_readings = readings_pass headings_are_apart (λ events kept. (all_kept events [] false kept).2)

pub alone_readings : ReadingsPass table_parts_are_alone
alone_readings = readings_pass table_parts_are_alone (λ events kept. (all_kept events [] false kept).3)

-- the events of a text are those of its block result
texts_pass : (test : List EventView → Bool) → ReadingsPass test → TextsPass test
texts_pass test readings s blocks of =
    subst (λ (read : List Element). test (map (λ (e : Placed). e.0) (events_of read)) ≡ true)
    (text-law s blocks of false []) (readings s blocks of false [])

pub whole_texts : TextsPass tables_are_whole
whole_texts = texts_pass tables_are_whole whole_readings

pub items_of_texts : TextsPass items_are_in_lists
items_of_texts = texts_pass items_are_in_lists items_of_readings

pub headings_of_texts : TextsPass headings_are_apart
headings_of_texts = texts_pass headings_are_apart headings_of_readings

pub alone_texts : TextsPass table_parts_are_alone
alone_texts = texts_pass table_parts_are_alone alone_readings
