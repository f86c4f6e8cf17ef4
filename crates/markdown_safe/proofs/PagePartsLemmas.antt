-- Events that are a part of a page by themselves are those that pass each of the tests that it is made of.
use Rattle.std.proofs.Common.{◌≡◌, ◌==◌, Bool, true, false, List, [], ◌∷◌, refl, sym, ap, ◌∙◌, Some, None}
use Rattle.std.specs.Prelude.{slice_index_or}
use Rattle.std.proofs.lemmas.Bool.{and_parts, eqb-true, eq-eqb}
use Rattle.markdown_base.specs.Event.{EventView, end}
use Rattle.markdown_base.specs.declared.tag.BlockQuoteKind.TheVariants as quote
use Rattle.markdown_base.specs.declared.tag.HeadingLevel.TheVariants as level
use Rattle.markdown_base.specs.declared.tag.MetadataBlockKind.TheVariants as metadata
use Rattle.markdown_base.specs.declared.tag.TagEnd.{TagEnd}
use Rattle.markdown_base.specs.declared.tag.TagEnd.TheVariants as closes
use Rattle.markdown_event_laws.specs.NestedEvents.{awaited_after, IsAwaited, NestFrom, AreNested, starts_table}
use Rattle.markdown_event_laws.specs.NestedEvents.{keeps_tables_whole, keep_tables_whole, tables_are_whole, each_passes}
use Rattle.markdown_event_laws.specs.NestedEvents.{keeps_items_in_lists, keeps_headings_apart, items_are_in_lists}
use Rattle.markdown_event_laws.specs.NestedEvents.{headings_are_apart, keeps_table_parts_alone, table_parts_are_alone}
use Rattle.markdown_safe.specs.PageParts.{end_number, is_awaited, none_is_awaited, may_come, is_part_from, is_page_part}

-- the Ends by their numbers
abbrev ends : List TagEnd
ends = closes.Paragraph ∷ closes.Heading level.H1 ∷ closes.Heading level.H2 ∷ closes.Heading level.H3
    ∷ closes.Heading level.H4 ∷ closes.Heading level.H5 ∷ closes.Heading level.H6 ∷ closes.BlockQuote None
    ∷ closes.BlockQuote (Some quote.Note) ∷ closes.BlockQuote (Some quote.Tip)
    ∷ closes.BlockQuote (Some quote.Important) ∷ closes.BlockQuote (Some quote.Warning)
    ∷ closes.BlockQuote (Some quote.Caution) ∷ closes.CodeBlock ∷ closes.HtmlBlock ∷ closes.List false
    ∷ closes.List true ∷ closes.Item ∷ closes.FootnoteDefinition ∷ closes.DefinitionList
    ∷ closes.DefinitionListTitle ∷ closes.DefinitionListDefinition ∷ closes.Table ∷ closes.TableHead
    ∷ closes.TableRow ∷ closes.TableCell ∷ closes.Emphasis ∷ closes.Strong ∷ closes.Strikethrough
    ∷ closes.Superscript ∷ closes.Subscript ∷ closes.Link ∷ closes.Image ∷ closes.MetadataBlock metadata.YamlStyle
    ∷ closes.MetadataBlock metadata.PlusesStyle ∷ []

numbered : (e : TagEnd) → slice_index_or ends (end_number e) closes.Paragraph ≡ e
numbered (closes.Heading level.H1) = refl
numbered (closes.Heading level.H2) = refl
numbered (closes.Heading level.H3) = refl
numbered (closes.Heading level.H4) = refl
numbered (closes.Heading level.H5) = refl
numbered (closes.Heading level.H6) = refl
numbered (closes.BlockQuote None) = refl
numbered (closes.BlockQuote (Some quote.Note)) = refl
numbered (closes.BlockQuote (Some quote.Tip)) = refl
numbered (closes.BlockQuote (Some quote.Important)) = refl
numbered (closes.BlockQuote (Some quote.Warning)) = refl
numbered (closes.BlockQuote (Some quote.Caution)) = refl
numbered (closes.List false) = refl
numbered (closes.List true) = refl
numbered (closes.MetadataBlock metadata.YamlStyle) = refl
numbered (closes.MetadataBlock metadata.PlusesStyle) = refl
numbered other = refl

-- so Ends of one number are one
pub same_end : (e x : TagEnd) → (end_number e == end_number x) ≡ true → e ≡ x
same_end e x h =
    sym (numbered e) ∙ (ap (λ n. slice_index_or ends n closes.Paragraph) (eqb-true _ _ h) ∙ numbered x)

awaited_is : (e : EventView) (awaited : List TagEnd) → is_awaited e awaited ≡ true → IsAwaited e awaited
awaited_is (end x) [] h = cc h
awaited_is (end x) (nearest ∷ awaited) h = same_end x nearest h
awaited_is other awaited h = tt

is_so_awaited : (e : EventView) (awaited : List TagEnd) → IsAwaited e awaited → is_awaited e awaited ≡ true
is_so_awaited (end x) [] h = absurd h
is_so_awaited (end x) (nearest ∷ awaited) h = eq-eqb _ _ (ap end_number h)
is_so_awaited other awaited h = refl

none_are : (awaited : List TagEnd) → none_is_awaited awaited ≡ true → awaited ≡ []
none_are [] h = refl
none_are (nearest ∷ awaited) h = cc h

-- these events pass each test, from where these Ends are awaited on
record PassEach (awaited : List TagEnd) (first : Bool) (events : List EventView) : Type 0 where
  pub nest : NestFrom awaited events
  pub whole : keep_tables_whole awaited first events ≡ true
  pub alone : each_passes keeps_table_parts_alone awaited events ≡ true
  pub items : each_passes keeps_items_in_lists awaited events ≡ true
  pub headings : each_passes keeps_headings_apart awaited events ≡ true

pass_each : (awaited : List TagEnd) (first : Bool) (events : List EventView)
    → is_part_from awaited first events ≡ true → PassEach awaited first events
pass_each awaited first [] h =
    record { nest = none_are awaited h; whole = refl; alone = refl; items = refl; headings = refl }
pass_each awaited first (e ∷ events) h =
    let a = and_parts (may_come e awaited first) _ h in
    let b = and_parts (is_awaited e awaited) _ a.0 in
    let c = and_parts (keeps_tables_whole e awaited first) _ b.1 in
    let d = and_parts (keeps_table_parts_alone e awaited) _ c.1 in
    let f = and_parts (keeps_items_in_lists e awaited) _ d.1 in
    let rest = pass_each (awaited_after e awaited) (starts_table e) events a.1 in record {
      nest = (awaited_is e awaited b.0, rest.nest);
      whole = rw c.0 rest.whole;
      alone = rw d.0 rest.alone;
      items = rw f.0 rest.items;
      headings = rw f.1 rest.headings;
    }

is_part : (awaited : List TagEnd) (first : Bool) (events : List EventView) → PassEach awaited first events
    → is_part_from awaited first events ≡ true
is_part awaited first [] p = rw p.nest refl
is_part awaited first (e ∷ events) p =
    let c = and_parts (keeps_tables_whole e awaited first) _ p.whole in
    let d = and_parts (keeps_table_parts_alone e awaited) _ p.alone in
    let f = and_parts (keeps_items_in_lists e awaited) _ p.items in
    let g = and_parts (keeps_headings_apart e awaited) _ p.headings in
    rw (is_so_awaited e awaited p.nest.0, c.0, d.0, f.0, g.0) (is_part (awaited_after e awaited) (starts_table e) events
    (record { nest = p.nest.1; whole = c.1; alone = d.1; items = f.1; headings = g.1 }))

-- a part of a page passes each test, and what passes each is one
pub page_part_passes : (events : List EventView) → is_page_part events ≡ true
    → AreNested events × (tables_are_whole events ≡ true) × (table_parts_are_alone events ≡ true)
    × (items_are_in_lists events ≡ true) × (headings_are_apart events ≡ true)
page_part_passes events h =
    let p = pass_each [] false events h in (p.nest, p.whole, p.alone, p.items, p.headings)

pub is_part_by_tests : (events : List EventView)
    → AreNested events × (tables_are_whole events ≡ true) × (table_parts_are_alone events ≡ true)
    × (items_are_in_lists events ≡ true) × (headings_are_apart events ≡ true) → is_page_part events ≡ true
is_part_by_tests events t = is_part [] false events
    (record { nest = t.0; whole = t.1; alone = t.2; items = t.3; headings = t.4 })
