-- Where elements may stand, and which events are a part of a page, on small examples.
use Rattle.std.proofs.Common.{◌≡◌, ◌&&◌, true, false, List, [], ◌∷◌, refl, codes, None}
use Rattle.markdown_base.specs.Event.{EventView, start, end, emphasis, list, list_item, paragraph, table, table_head}
use Rattle.markdown_base.specs.Event.{text}
use Rattle.markdown_base.specs.declared.tag.TagEnd.TheVariants as closes
use Rattle.markdown_event_laws.specs.NestedEvents.{headings_are_apart, items_are_in_lists, table_parts_are_alone}
use Rattle.markdown_event_laws.specs.NestedEvents.{tables_are_whole}
use Rattle.markdown_safe.specs.LinksApart.{links_are_apart}
use Rattle.markdown_safe.specs.PageParts.{is_page_part}
use Rattle.markdown_safe.specs.PlacedTree.{may_stand}

-- a link stands in emphasis, but not where that is in a link
link_in_emphasis : may_stand (codes "a") (codes "em" ∷ codes "p" ∷ []) ≡ true
link_in_emphasis = refl

link_in_link : may_stand (codes "a") (codes "em" ∷ codes "a" ∷ []) ≡ false
link_in_link = refl

heading_in_quote_in_heading : may_stand (codes "h2") (codes "blockquote" ∷ codes "h1" ∷ []) ≡ false
heading_in_quote_in_heading = refl

-- an item stands in a list, and a list in an item, but not in a list
item_in_list : may_stand (codes "li") (codes "ol" ∷ []) ≡ true
item_in_list = refl

item_in_page : may_stand (codes "li") [] ≡ false
item_in_page = refl

list_in_item : may_stand (codes "ul") (codes "li" ∷ codes "ul" ∷ []) ≡ true
list_in_item = refl

list_in_list : may_stand (codes "ul") (codes "ul" ∷ []) ≡ false
list_in_list = refl

-- a cell stands in a row alone
cell_in_row : may_stand (codes "td") (codes "tr" ∷ codes "tbody" ∷ codes "table" ∷ []) ≡ true
cell_in_row = refl

cell_in_body : may_stand (codes "td") (codes "tbody" ∷ codes "table" ∷ []) ≡ false
cell_in_body = refl

row_in_table : may_stand (codes "tr") (codes "table" ∷ []) ≡ false
row_in_table = refl

-- emphasis between the head of a table and the table's End passes all tests but that of table parts, and a browser
-- moves it out of the table
abbrev emphasis_in_table : List EventView
emphasis_in_table = start (table []) ∷ start table_head ∷ end closes.TableHead ∷ start emphasis ∷ end closes.Emphasis
    ∷ end closes.Table ∷ []

passes_others : (tables_are_whole emphasis_in_table && (items_are_in_lists emphasis_in_table
    && (headings_are_apart emphasis_in_table && links_are_apart emphasis_in_table))) ≡ true
passes_others = refl

table_parts_are_not_alone : table_parts_are_alone emphasis_in_table ≡ false
table_parts_are_not_alone = refl

emphasis_is_moved : may_stand (codes "em") (codes "tbody" ∷ codes "table" ∷ []) ≡ false
emphasis_is_moved = refl

-- a list of one item is a part of a page; without its End it is none, nor with a paragraph around the item
list_is_part : is_page_part (start (list None) ∷ start list_item ∷ text (codes "a") ∷ end closes.Item
    ∷ end (closes.List false) ∷ []) ≡ true
list_is_part = refl

open_list_is_none : is_page_part (start (list None) ∷ start list_item ∷ end closes.Item ∷ []) ≡ false
open_list_is_none = refl

list_of_another_end_is_none : is_page_part (start (list None) ∷ end (closes.List true) ∷ []) ≡ false
list_of_another_end_is_none = refl

paragraph_in_list_is_none : is_page_part (start (list None) ∷ start paragraph ∷ end closes.Paragraph
    ∷ end (closes.List false) ∷ []) ≡ false
paragraph_in_list_is_none = refl
