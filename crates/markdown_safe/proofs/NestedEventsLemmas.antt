-- The tags of nested events nest.
use Rattle.std.proofs.Common.{◌≡◌, ◌++◌, ℕ, zero, suc, Bool, true, false, not, List, [], ◌∷◌, map, reverse, length}
use Rattle.std.proofs.Common.{refl, sym, ap, ◌∙◌, append_assoc, append-nil, codes, Option, Some, None, subst}
use Rattle.std.specs.List.{list_any}
use Rattle.std.proofs.lemmas.List.{reverse-append}
use Rattle.std.proofs.lemmas.Bool.{not-true, and_parts}
use Rattle.markdown_base.specs.Event as event
use Rattle.markdown_base.specs.Event.{EventView, TagView, start, end, tag_end}
use Rattle.markdown_base.specs.declared.tag.TagEnd.{TagEnd}
use Rattle.markdown_base.specs.declared.tag.TagEnd.TheVariants as tag_ends
use Rattle.markdown_out.specs.EventHtml.{html_by}
use Rattle.markdown_out.specs.LookBacks.{OpenImageView, image_after, image_before, told_by, head_after, unless_inside}
use Rattle.markdown_out.specs.declared.html.rules.HtmlRules.{HtmlRules}
use Rattle.markdown_safe.specs.SafeEvents.{safe_event}
use Rattle.markdown_event_laws.specs.NestedEvents.{past_nearest, awaited_after, IsAwaited, NestFrom, AreNested}
use Rattle.markdown_event_laws.specs.NestedEvents.{ends_table, ends_cells, nearest_is, starts_table, keeps_tables_whole}
use Rattle.markdown_event_laws.specs.NestedEvents.{keep_tables_whole, tables_are_whole}
use Rattle.markdown_safe.proofs.SafeHtmlLemmas.{Turn}
use Rattle.markdown_safe.proofs.SafeTagsLemmas.{event_turns, start_turns, end_turns, level_name, cell_name}
use Rattle.markdown_safe.proofs.SafeEventsLemmas.{turns_by_image, turns_before, html_is_markup}
use Rattle.markdown_safe.proofs.HtmlTreeLemmas.{TurnsTo, turns-append, IsTreeOf, tree_of_markup}

-- the End is that of a table's head
abbrev pub ends_head : TagEnd → Bool
ends_head tag_ends.TableHead = true
ends_head other = false

-- The elements of a tag whose End is awaited, the innermost first. A table has no `tbody` yet where its head is still
-- to come, or open; a cell is that of a head where it stands in one.
abbrev pub own : (bare : Bool) → (in_head : Bool) → TagEnd → List (List ℕ)
own bare head tag_ends.Paragraph = codes "p" ∷ []
own bare head (tag_ends.Heading l) = level_name l ∷ []
own bare head (tag_ends.BlockQuote kind) = codes "blockquote" ∷ []
own bare head tag_ends.CodeBlock = codes "code" ∷ codes "pre" ∷ []
own bare head tag_ends.HtmlBlock = []
own bare head (tag_ends.List true) = codes "ol" ∷ []
own bare head (tag_ends.List false) = codes "ul" ∷ []
own bare head tag_ends.Item = codes "li" ∷ []
own bare head tag_ends.FootnoteDefinition = codes "div" ∷ []
own bare head tag_ends.DefinitionList = codes "dl" ∷ []
own bare head tag_ends.DefinitionListTitle = codes "dt" ∷ []
own bare head tag_ends.DefinitionListDefinition = codes "dd" ∷ []
own true head tag_ends.Table = codes "table" ∷ []
own false head tag_ends.Table = codes "tbody" ∷ codes "table" ∷ []
own bare head tag_ends.TableHead = codes "tr" ∷ codes "thead" ∷ []
own bare head tag_ends.TableRow = codes "tr" ∷ []
own bare head tag_ends.TableCell = cell_name head ∷ []
own bare head tag_ends.Emphasis = codes "em" ∷ []
own bare head tag_ends.Strong = codes "strong" ∷ []
own bare head tag_ends.Strikethrough = codes "del" ∷ []
own bare head tag_ends.Superscript = codes "sup" ∷ []
own bare head tag_ends.Subscript = codes "sub" ∷ []
own bare head tag_ends.Link = codes "a" ∷ []
own bare head tag_ends.Image = []
own bare head (tag_ends.MetadataBlock kind) = []

-- the elements that are open where these Ends are awaited; `bare`: the nearest is a table whose head is still to come
abbrev pub elements : (bare : Bool) → List TagEnd → List (List ℕ)
elements bare [] = []
elements bare (e ∷ awaited) = own bare (nearest_is ends_head awaited) e ++ elements (ends_head e) awaited

-- what stands directly around the tag of an End: a table around a head and a row, a head or a row around a cell, and
-- no table around a table
abbrev pub Fits : TagEnd → List TagEnd → Type 0
Fits tag_ends.TableHead awaited = nearest_is ends_table awaited ≡ true
Fits tag_ends.TableRow awaited = nearest_is ends_table awaited ≡ true
Fits tag_ends.TableCell awaited = nearest_is ends_cells awaited ≡ true
Fits tag_ends.Table awaited = list_any ends_table awaited ≡ false
Fits other awaited = Unit {0}

-- so it is with all
abbrev pub AllFit : List TagEnd → Type 0
AllFit [] = Unit {0}
AllFit (e ∷ awaited) = Fits e awaited × AllFit awaited

-- whether cells belong to a head where these Ends are awaited, if that can be told: the innermost table has a head, and
-- it is open or not
abbrev pub in_head : (bare : Bool) → List TagEnd → Option Bool
in_head bare [] = None
in_head bare (tag_ends.TableHead ∷ awaited) = Some true
in_head true (tag_ends.Table ∷ awaited) = None
in_head false (tag_ends.Table ∷ awaited) = Some false
in_head bare (other ∷ awaited) = in_head false awaited

abbrev pub Agrees : Option Bool → Bool → Type 0
Agrees None head = Unit {0}
Agrees (Some told) head = head ≡ told

-- what holds outside images, between two events
pub record Stands (turns : List Turn) (head bare : Bool) (awaited : List TagEnd) : Type 0 where
  pub nest : TurnsTo [] turns (elements bare awaited)
  pub fit : AllFit awaited
  pub told : Agrees (in_head bare awaited) head
  pub near : bare ≡ true → nearest_is ends_table awaited ≡ true

-- and inside an image: the Starts inside it are awaited before its End
pub record IsInImage (starts : ℕ) (turns : List Turn) (head : Bool) (awaited : List TagEnd) : Type 0 where
  pub inner : List TagEnd
  pub outer : List TagEnd
  pub are : awaited ≡ inner ++ tag_ends.Image ∷ outer
  pub count : length inner ≡ starts
  pub outside : Stands turns head false outer

abbrev pub StandsBy : Option OpenImageView → List Turn → (head bare : Bool) → List TagEnd → Type 0
StandsBy None turns head bare awaited = Stands turns head bare awaited
StandsBy (Some i) turns head bare awaited = IsInImage i.starts turns head awaited

pub no : {A : Type 0} → false ≡ true → A
no h = cc h

is_table : (e : TagEnd) → ends_table e ≡ true → e ≡ tag_ends.Table
is_table tag_ends.Table h = refl
is_table other h = no h

-- a table is the nearest
pub record IsNearTable (awaited : List TagEnd) : Type 0 where
  pub rest : List TagEnd
  pub are : awaited ≡ tag_ends.Table ∷ rest

pub near_table : (awaited : List TagEnd) → nearest_is ends_table awaited ≡ true → IsNearTable awaited
near_table [] h = no h
near_table (e ∷ awaited) h = record { rest = awaited; are = ap (λ x. x ∷ awaited) (is_table e h) }

-- where no table is open, no head is
no_table : (awaited : List TagEnd) → list_any ends_table awaited ≡ false → AllFit awaited → in_head false awaited ≡ None
no_table [] h fit = refl
no_table (tag_ends.TableHead ∷ awaited) h fit =
    let t = near_table awaited fit.0 in
    let clash : true ≡ false = subst (λ l. list_any ends_table l ≡ false) t.are h in
    cc clash
no_table (tag_ends.Table ∷ awaited) h fit = cc h
no_table (other ∷ awaited) h fit = no_table awaited h fit.1

-- where the nearest is a head or a row, it is told which
cell_head : (awaited : List TagEnd) (head : Bool) → nearest_is ends_cells awaited ≡ true → AllFit awaited
    → Agrees (in_head false awaited) head → head ≡ nearest_is ends_head awaited
cell_head [] head h fit told = no h
cell_head (tag_ends.TableHead ∷ awaited) head h fit told = told
cell_head (tag_ends.TableRow ∷ awaited) head h fit told =
    let t = near_table awaited fit.0 in
    subst (λ l. Agrees (in_head false l) head) t.are told
cell_head (other ∷ awaited) head h fit told = no h

-- after more turns
further : {turns : List Turn} {head bare : Bool} {awaited : List TagEnd} (more : List Turn) (around : List (List ℕ))
    → Stands turns head bare awaited → TurnsTo (elements bare awaited) more around → TurnsTo [] (turns ++ more) around
further {turns} {head} {bare} {awaited} more around s h =
    turns-append [] turns (elements bare awaited) more around s.nest h

-- a Start outside images, but for that of an image
abbrev BeginsAt : TagView → List Turn → (head : Bool) → List TagEnd → Type 0
BeginsAt (event.image i) turns head awaited = Unit {0}
BeginsAt tag turns head awaited = Stands (turns ++ start_turns head tag)
    (head_after head (start tag)) (starts_table (start tag)) (tag_end tag ∷ awaited)

head_begins : (turns : List Turn) (head : Bool) (awaited : List TagEnd) → Stands turns head true awaited
    → BeginsAt event.table_head turns head awaited
head_begins turns head awaited s =
    let t = near_table awaited (s.near refl) in
    subst (λ l. Stands turns head true l → BeginsAt event.table_head turns head l) (sym t.are)
    (λ s. record { nest = further _ _ s refl; fit = (refl, s.fit); told = refl; near = λ h. no h }) s

cell_begins : (turns : List Turn) (head : Bool) (awaited : List TagEnd) → Stands turns head false awaited
    → nearest_is ends_cells awaited ≡ true → BeginsAt event.table_cell turns head awaited
cell_begins turns head awaited s k = record {
  nest = further _ _ s (ap (λ b. cell_name b ∷ elements false awaited) (cell_head awaited head k s.fit s.told));
  fit = (k, s.fit);
  told = s.told;
  near = λ h. no h;
}

begins : (tag : TagView) (turns : List Turn) (head bare : Bool) (awaited : List TagEnd)
    → Stands turns head bare awaited → keeps_tables_whole (start tag) awaited bare ≡ true
    → BeginsAt tag turns head awaited
begins (event.image i) turns head bare awaited s k = tt
begins event.table_head turns head true awaited s k = head_begins turns head awaited s
begins event.table_head turns head false awaited s k = no k
begins (event.table alignments) turns head false awaited s k =
    record { nest = further _ _ s refl; fit = (not-true _ k, s.fit); told = tt; near = λ h. refl }
begins event.table_row turns head false awaited s k =
    record { nest = further _ _ s refl; fit = (k, s.fit); told = s.told; near = λ h. no h }
begins event.table_cell turns head false awaited s k = cell_begins turns head awaited s k
begins (event.list None) turns head false awaited s k =
    record { nest = further _ _ s refl; fit = (tt, s.fit); told = s.told; near = λ h. no h }
begins (event.list (Some first)) turns head false awaited s k =
    record { nest = further _ _ s refl; fit = (tt, s.fit); told = s.told; near = λ h. no h }
begins (event.footnote_definition name) turns head false awaited s k =
    record { nest = further _ _ s (refl, refl); fit = (tt, s.fit); told = s.told; near = λ h. no h }
begins tag turns head false awaited s k =
    record { nest = further _ _ s refl; fit = (tt, s.fit); told = s.told; near = λ h. no h }
begins tag turns head true awaited s k = no k

-- an End outside images
abbrev EndsAt : TagEnd → List Turn → (head : Bool) → List TagEnd → Type 0
EndsAt e turns head awaited = Stands (turns ++ end_turns head e) (head_after head (end e)) false awaited

head_ends : (turns : List Turn) (head : Bool) (awaited : List TagEnd)
    → Stands turns head false (tag_ends.TableHead ∷ awaited) → EndsAt tag_ends.TableHead turns head awaited
head_ends turns head awaited s =
    let t = near_table awaited s.fit.0 in
    subst (λ l. Stands turns head false (tag_ends.TableHead ∷ l) → EndsAt tag_ends.TableHead turns head l) (sym t.are)
    (λ s. record { nest = further _ _ s (refl, (refl, refl)); fit = s.fit.1; told = refl; near = λ h. no h }) s

table_ends : (turns : List Turn) (head : Bool) (awaited : List TagEnd)
    → Stands turns head false (tag_ends.Table ∷ awaited) → EndsAt tag_ends.Table turns head awaited
table_ends turns head awaited s = record {
  nest = further _ _ s (refl, (refl, refl));
  fit = s.fit.1;
  told = subst (λ o. Agrees o head) (sym (no_table awaited s.fit.0 s.fit.1)) tt;
  near = λ h. no h;
}

cell_ends : (turns : List Turn) (head : Bool) (awaited : List TagEnd)
    → Stands turns head false (tag_ends.TableCell ∷ awaited) → EndsAt tag_ends.TableCell turns head awaited
cell_ends turns head awaited s = record {
  nest = further _ _ s (ap cell_name (cell_head awaited head s.fit.0 s.fit.1 s.told), refl);
  fit = s.fit.1;
  told = s.told;
  near = λ h. no h;
}

ending : (e : TagEnd) (turns : List Turn) (head bare : Bool) (awaited : List TagEnd)
    → Stands turns head bare (e ∷ awaited) → not bare ≡ true → EndsAt e turns head awaited
ending tag_ends.Table turns head false awaited s k = table_ends turns head awaited s
ending tag_ends.TableHead turns head false awaited s k = head_ends turns head awaited s
ending tag_ends.TableCell turns head false awaited s k = cell_ends turns head awaited s
ending tag_ends.CodeBlock turns head false awaited s k =
    record { nest = further _ _ s (refl, (refl, refl)); fit = s.fit.1; told = s.told; near = λ h. no h }
ending tag_ends.HtmlBlock turns head false awaited s k =
    record { nest = further _ _ s refl; fit = s.fit.1; told = s.told; near = λ h. no h }
ending tag_ends.Image turns head false awaited s k =
    record { nest = further _ _ s refl; fit = s.fit.1; told = s.told; near = λ h. no h }
ending (tag_ends.MetadataBlock kind) turns head false awaited s k =
    record { nest = further _ _ s refl; fit = s.fit.1; told = s.told; near = λ h. no h }
ending (tag_ends.List true) turns head false awaited s k =
    record { nest = further _ _ s (refl, refl); fit = s.fit.1; told = s.told; near = λ h. no h }
ending (tag_ends.List false) turns head false awaited s k =
    record { nest = further _ _ s (refl, refl); fit = s.fit.1; told = s.told; near = λ h. no h }
ending e turns head false awaited s k =
    record { nest = further _ _ s (refl, refl); fit = s.fit.1; told = s.told; near = λ h. no h }
ending e turns head true awaited s k = no k

-- another event outside images
abbrev OtherAt : EventView → List Turn → (head bare : Bool) → List TagEnd → Type 0
OtherAt (start tag) turns head bare awaited = Unit {0}
OtherAt (end e) turns head bare awaited = Unit {0}
OtherAt e turns head bare awaited = Stands (turns ++ event_turns head e) head bare awaited

other_event : (e : EventView) (turns : List Turn) (head bare : Bool) (awaited : List TagEnd)
    → Stands turns head bare awaited → OtherAt e turns head bare awaited
other_event (start tag) turns head bare awaited s = tt
other_event (end e) turns head bare awaited s = tt
other_event (event.code t) turns head bare awaited s =
    record { nest = further _ _ s (refl, refl); fit = s.fit; told = s.told; near = s.near }
other_event (event.inline_math t) turns head bare awaited s =
    record { nest = further _ _ s (refl, refl); fit = s.fit; told = s.told; near = s.near }
other_event (event.display_math t) turns head bare awaited s =
    record { nest = further _ _ s (refl, refl); fit = s.fit; told = s.told; near = s.near }
other_event (event.footnote_reference name) turns head bare awaited s =
    record { nest = further _ _ s (refl, (refl, refl)); fit = s.fit; told = s.told; near = s.near }
other_event e turns head bare awaited s =
    record { nest = further _ _ s refl; fit = s.fit; told = s.told; near = s.near }

-- what holds after an event
abbrev pub After : Option OpenImageView → EventView → List Turn → (head : Bool) → List TagEnd → Type 0
After image e turns head awaited = StandsBy (image_after image e)
    (turns ++ turns_by_image image head e) (unless_inside head_after image head e)
    (starts_table e) (awaited_after e awaited)

-- a Start inside an image, an End, and another event
start_inside : (starts : ℕ) (title : List ℕ) (tag : TagView) (turns : List Turn) (head : Bool) (awaited : List TagEnd)
    → IsInImage starts turns head awaited → IsInImage (suc starts) turns head (tag_end tag ∷ awaited)
start_inside starts title tag turns head awaited s = record {
  inner = tag_end tag ∷ s.inner;
  outer = s.outer;
  are = ap (λ l. tag_end tag ∷ l) s.are;
  count = ap suc s.count;
  outside = s.outside;
}

image_ends : (turns : List Turn) (head : Bool) (awaited : List TagEnd) → IsInImage 0 turns head awaited
    → Stands turns head false (past_nearest awaited)
image_ends turns head awaited s = by_inner s.inner s.are s.count
  where
    by_inner : (inner : List TagEnd) → awaited ≡ inner ++ tag_ends.Image ∷ s.outer → length inner ≡ 0
        → Stands turns head false (past_nearest awaited)
    by_inner [] are count = subst (λ l. Stands turns head false (past_nearest l)) (sym are) s.outside
    by_inner (e ∷ inner) are count = cc count

end_inside : (starts : ℕ) (turns : List Turn) (head : Bool) (awaited : List TagEnd)
    → IsInImage (suc starts) turns head awaited → IsInImage starts turns head (past_nearest awaited)
end_inside starts turns head awaited s = by_inner s.inner s.are s.count
  where
    by_inner : (inner : List TagEnd) → awaited ≡ inner ++ tag_ends.Image ∷ s.outer → length inner ≡ suc starts
        → IsInImage starts turns head (past_nearest awaited)
    by_inner [] are count = cc count
    by_inner (e ∷ inner) are count = record {
      inner = inner;
      outer = s.outer;
      are = ap past_nearest are;
      count = cc count;
      outside = s.outside;
    }

inside_after : (starts : ℕ) (title : List ℕ) (e : EventView) (turns : List Turn) (head : Bool) (awaited : List TagEnd)
    → IsInImage starts turns head awaited
    → StandsBy (image_after (Some (record { starts = starts; title = title })) e) turns head
    (starts_table e) (awaited_after e awaited)
inside_after zero title (start tag) turns head awaited s = start_inside zero title tag turns head awaited s
inside_after (suc n) title (start tag) turns head awaited s = start_inside (suc n) title tag turns head awaited s
inside_after zero title (end e) turns head awaited s = image_ends turns head awaited s
inside_after (suc n) title (end e) turns head awaited s = end_inside n turns head awaited s
inside_after zero title e turns head awaited s = s
inside_after (suc n) title e turns head awaited s = s

-- one more event
image_begins : (turns : List Turn) (head bare : Bool) (awaited : List TagEnd) → Stands turns head bare awaited
    → not bare ≡ true → IsInImage 0 (turns ++ []) head (tag_ends.Image ∷ awaited)
image_begins turns head false awaited s k = record {
  inner = [];
  outer = awaited;
  are = refl;
  count = refl;
  outside = subst (λ ts. Stands ts head false awaited) (sym (append-nil turns)) s;
}
image_begins turns head true awaited s k = no k

end_outside : (e : TagEnd) (turns : List Turn) (head bare : Bool) (awaited : List TagEnd)
    → Stands turns head bare awaited → IsAwaited (end e) awaited → not bare ≡ true
    → EndsAt e turns head (past_nearest awaited)
end_outside e turns head bare [] s is k = absurd is
end_outside e turns head bare (nearest ∷ awaited) s is k =
    ending e turns head bare awaited (subst (λ x. Stands turns head bare (x ∷ awaited)) (sym is) s) k

not_bare : {turns : List Turn} {head : Bool} {awaited : List TagEnd} (bare : Bool) → not bare ≡ true
    → Stands turns head bare awaited → Stands turns head false awaited
not_bare false k s = s
not_bare true k s = no k

outside_after : (e : EventView) (turns : List Turn) (head bare : Bool) (awaited : List TagEnd)
    → Stands turns head bare awaited → IsAwaited e awaited → keeps_tables_whole e awaited bare ≡ true
    → After None e turns head awaited
outside_after (start (event.image i)) turns head bare awaited s is k = image_begins turns head bare awaited s k
outside_after (start tag) turns head bare awaited s is k = begins tag turns head bare awaited s k
outside_after (end e) turns head bare awaited s is k = end_outside e turns head bare awaited s is k
outside_after e turns head bare awaited s is k = other_event e turns head false awaited (not_bare bare k s)

pub event_after : (image : Option OpenImageView) (e : EventView) (turns : List Turn) (head bare : Bool)
    (awaited : List TagEnd) → StandsBy image turns head bare awaited → IsAwaited e awaited
    → keeps_tables_whole e awaited bare ≡ true → After image e turns head awaited
event_after None e turns head bare awaited s is k = outside_after e turns head bare awaited s is k
event_after (Some i) e turns head bare awaited s is k =
    subst (λ ts. StandsBy (image_after (Some i) e) ts head (starts_table e) (awaited_after e awaited))
    (sym (append-nil turns)) (inside_after i.starts i.title e turns head awaited s)

-- after the last event nothing is open
at_end : (image : Option OpenImageView) (turns : List Turn) (head bare : Bool) → StandsBy image turns head bare []
    → TurnsTo [] turns []
at_end None turns head bare s = s.nest
at_end (Some i) turns head bare s = by_inner s.inner s.are
  where
    by_inner : (inner : List TagEnd) → [] ≡ inner ++ tag_ends.Image ∷ s.outer → TurnsTo [] turns []
    by_inner [] are = cc are
    by_inner (e ∷ inner) are = cc are

-- event by event
nests : (left before : List EventView) (awaited : List TagEnd) (bare : Bool)
    → StandsBy (image_before before) (turns_before before)
    (told_by head_after true before) bare awaited
    → NestFrom awaited left → keep_tables_whole awaited bare left ≡ true
    → TurnsTo [] (turns_before (reverse left ++ before)) []
nests [] before awaited bare s nest whole =
    at_end (image_before before) (turns_before before)
    (told_by head_after true before) bare
    (subst (λ l. StandsBy (image_before before) (turns_before before)
    (told_by head_after true before) bare l) nest s)
nests (e ∷ left) before awaited bare s nest whole =
    let k = and_parts (keeps_tables_whole e awaited bare)
    (keep_tables_whole (awaited_after e awaited) (starts_table e) left) whole in
    let after = event_after (image_before before) e (turns_before before)
    (told_by head_after true before) bare awaited s nest.0 k.0 in
    subst (λ l. TurnsTo [] (turns_before l) [])
    (sym (append_assoc (reverse left) (e ∷ []) before) ∙ ap (λ l. l ++ before) (sym (reverse-append (e ∷ []) left)))
    (nests left (e ∷ before) (awaited_after e awaited) (starts_table e) after nest.1 k.1)

-- the HTML of nested events that are made safe is a safe tree, whose tags do what those of the events do
pub tree_of_events : (form : HtmlRules) (prefix : List ℕ) (events : List EventView) → AreNested events
    → tables_are_whole events ≡ true
    → IsTreeOf (html_by form (map (safe_event prefix) events)) (turns_before (reverse events))
tree_of_events form prefix events nest whole =
    let turns = nests events [] [] false (record { nest = refl; fit = tt; told = tt; near = λ h. no h }) nest whole in
    tree_of_markup (html_by form (map (safe_event prefix) events)) (html_is_markup form prefix events)
    (subst (λ l. TurnsTo [] (turns_before l) []) (append-nil (reverse events)) turns)
