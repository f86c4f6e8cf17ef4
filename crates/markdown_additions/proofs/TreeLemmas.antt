-- The safe HTML of a text with what is added is a tree whose elements stand where a browser leaves them: with what is
-- added, events are a part of a page where they were one. Ids and their prefix open and close nothing, and links of
-- bare addresses stand where a Text stood.
use Rattle.std.proofs.Common.{◌≡◌, ◌⊎◌, inl, inr, ℕ, zero, suc, ◌-◌, Bool, false, true, List, [], ◌∷◌, ◌++◌, length}
use Rattle.std.proofs.Common.{map, ap, refl, subst, sym, ◌∙◌, append_assoc, append-nil}
use Rattle.std.proofs.lemmas.Bool.{and_parts}
use Rattle.std.specs.declared.ops.Range.{Range}
use Rattle.either.specs.declared.Either.TheVariants.{Left, Right}
use Rattle.markdown_additions.specs.Additions.{AdditionsView, IdsView, added_events, adds_ids, adds_no_ids}
use Rattle.markdown_additions.specs.Additions.{adds_prefixed_ids, text_events, with_added_ids}
use Rattle.markdown_additions.specs.TextEvents.{IsNewAdded, IsNewText, IsNewWithAddedIds, NestedEvents, ParsedEvents}
use Rattle.markdown_additions.specs.TextEvents.{nested_events}
use Rattle.markdown_additions.specs.Written.{as_safe_html, bare_events, written_of_text}
use Rattle.markdown_additions.specs.declared.events.TextEvents.{TextEvents}
use Rattle.markdown_autolinks.specs.Addresses.{address_destination, addresses_in}
use Rattle.markdown_autolinks.specs.LinkedEvents.{Texts, left_alone_after, texts_events, with_addresses_after}
use Rattle.markdown_autolinks.specs.LinkedRuns.{RunTextView, address_link_type, link_over, linked_events, merged_run}
use Rattle.markdown_autolinks.specs.LinkedRuns.{run_events, run_left, run_range, run_text, run_with, searched_bytes}
use Rattle.markdown_autolinks.specs.LinkedRuns.{shown_bytes, take_run, text_of_run, text_unless_empty}
use Rattle.markdown_autolinks.specs.declared.address.Address.{Address}
use Rattle.markdown_base.specs.Event.{EventView, TagView, end, footnote_definition, footnote_reference, heading, link}
use Rattle.markdown_base.specs.Event.{start, text}
use Rattle.markdown_base.specs.Source.{Source}
use Rattle.markdown_base.specs.declared.tag.LinkType.{LinkType}
use Rattle.markdown_base.specs.declared.tag.TagEnd.{TagEnd}
use Rattle.markdown_base.specs.declared.tag.TagEnd.TheVariants as closes
use Rattle.markdown_blocks.specs.Blocks.{IsBlocksOf}
use Rattle.markdown_blocks.specs.declared.blocks.Blocks.{Blocks}
use Rattle.markdown_event_laws.proofs.NestedTextsLemmas.{nested_texts}
use Rattle.markdown_event_laws.proofs.WholeTablesLemmas.{alone_texts, headings_of_texts, items_of_texts, whole_texts}
use Rattle.markdown_heading_ids.specs.HeadingIds.{Id, with_given, with_ids, with_ids_from}
use Rattle.markdown_heading_ids.specs.IdsOfText.{taken_in_text}
use Rattle.markdown_heading_ids.specs.Prefixes.{prefixed_event, prefixed_events, prefixed_tag}
use Rattle.markdown_heading_ids.proofs.IdsOfEventsLemmas.{Gets, gets, gets_id, gets_none}
use Rattle.markdown_inline.specs.Balanced.{ranged}
use Rattle.markdown_inline.specs.Elements.{Placed}
use Rattle.markdown_inline.specs.ReadingOfText.{events_of_text}
use Rattle.markdown_outline.specs.Outline.{Ranged}
use Rattle.markdown_safe.specs.PageParts.{is_page_part, is_part_from, may_come}
use Rattle.markdown_safe.specs.PlacedTree.{IsPlacedTree}
use Rattle.markdown_safe.specs.SafeRules.{SafeRulesView}
use Rattle.markdown_event_laws.specs.NestedEvents.{awaited_after, starts_table}
use Rattle.markdown_safe.proofs.PagePartsLemmas.{is_part_by_tests}
use Rattle.markdown_safe.proofs.SafeEventsByRulesLemmas.{page_part_is_placed}

-- ---- what is added opens and closes nothing

-- the second event opens and ends what the first does, and may come wherever that may
record IsAlike (e f : EventView) : Type 0 where
  after : (awaited : List TagEnd) → awaited_after f awaited ≡ awaited_after e awaited
  table : starts_table f ≡ starts_table e
  comes : (awaited : List TagEnd) (first : Bool) → may_come f awaited first ≡ may_come e awaited first

same : (e : EventView) → IsAlike e e
same e = record { after = λ a. refl; table = refl; comes = λ a first. refl }

-- each of these events is such a one of those
abbrev AreAlike : List EventView → List EventView → Type 0
AreAlike [] [] = Unit {0}
AreAlike (e ∷ es) (f ∷ fs) = IsAlike e f × AreAlike es fs
AreAlike es fs = ⊥

part_alike : (awaited : List TagEnd) (first : Bool) (es fs : List EventView) → AreAlike es fs
    → is_part_from awaited first fs ≡ is_part_from awaited first es
part_alike awaited first [] [] k = refl
part_alike awaited first (e ∷ es) (f ∷ fs) k =
    rw (
      k.0.comes awaited first,
      k.0.after awaited,
      k.0.table,
      part_alike (awaited_after e awaited) (starts_table e) es fs k.1,
    ) refl
part_alike awaited first es fs k = absurd k

-- an id
alike_given : (e : Ranged) {ids : List Id} → Gets e ids → IsAlike e.0 (with_given ids e).0
alike_given e {ids} (gets_none none has) = rw none (same e.0)
alike_given e {ids} (gets_id h id is lacks given) =
    rw (given, is) (record { after = λ a. refl; table = refl; comes = λ a first. refl })

alike_ids : (events : List Ranged) (inside : Bool) (taken : List Id)
    → AreAlike (bare_events events) (bare_events (with_ids_from inside taken events))
alike_ids [] inside taken = tt
alike_ids (e ∷ events) true taken = (same e.0, alike_ids events _ taken)
alike_ids (e ∷ events) false taken = (alike_given e (gets e taken events), alike_ids events _ _)

-- a prefix
alike_tag : (prefix : List ℕ) (tag : TagView) → IsAlike (start tag) (start (prefixed_tag prefix tag))
alike_tag prefix (heading h) = record { after = λ a. refl; table = refl; comes = λ a first. refl }
alike_tag prefix (footnote_definition name) =
    record { after = λ a. refl; table = refl; comes = λ a first. refl }
alike_tag prefix (link l) = record { after = λ a. refl; table = refl; comes = λ a first. refl }
alike_tag prefix tag = same (start tag)

alike_event : (prefix : List ℕ) (e : EventView) → IsAlike e (prefixed_event prefix e)
alike_event prefix (start tag) = alike_tag prefix tag
alike_event prefix (footnote_reference name) =
    record { after = λ a. refl; table = refl; comes = λ a first. refl }
alike_event prefix e = same e

alike_prefixed : (prefix : List ℕ) (events : List Ranged)
    → AreAlike (bare_events events) (bare_events (prefixed_events prefix events))
alike_prefixed prefix [] = tt
alike_prefixed prefix (e ∷ events) = (alike_event prefix e.0, alike_prefixed prefix events)

-- ---- links of bare addresses

-- such events are a part of a page, where these Ends are awaited before the first, and the event before it is the Start
-- of a table or is not
record IsPartFrom (awaited : List TagEnd) (first : Bool) (events : List Ranged) : Type 0 where
  part : is_part_from awaited first (bare_events events) ≡ true

part_more : (a : List TagEnd) (first : Bool) (e : Ranged) (events : List Ranged) → may_come e.0 a first ≡ true
    → IsPartFrom (awaited_after e.0 a) (starts_table e.0) events → IsPartFrom a first (e ∷ events)
part_more a first e events comes t = record { part = rw (comes, t.part) refl }

part_first : (a : List TagEnd) (first : Bool) (e : Ranged) (events : List Ranged) → IsPartFrom a first (e ∷ events)
    → may_come e.0 a first ≡ true
part_first a first e events t = (and_parts (may_come e.0 a first) _ t.part).0

part_rest : (a : List TagEnd) (first : Bool) (e : Ranged) (events : List Ranged) → IsPartFrom a first (e ∷ events)
    → IsPartFrom (awaited_after e.0 a) (starts_table e.0) events
part_rest a first e events t = record { part = (and_parts (may_come e.0 a first) _ t.part).1 }

-- a Text may come here, and so may the Start of a link
abbrev TextMayCome : List TagEnd → Bool → Type 0
TextMayCome a first = may_come (text []) a first ≡ true

-- these events may stand before such events, where a Text may come
abbrev Passes : List Ranged → Type 0
Passes xs = (a : List TagEnd) (rest : List Ranged) → TextMayCome a false → IsPartFrom a false rest
    → IsPartFrom a false (xs ++ rest)

passes_append : (xs ys : List Ranged) → Passes xs → Passes ys → Passes (xs ++ ys)
passes_append xs ys p q a rest may t =
    subst (λ (es : List Ranged). IsPartFrom a false es) (sym (append_assoc xs ys rest))
    (p a (ys ++ rest) may (q a rest may t))

text_passes : (bytes : List ℕ) (range : Range ℕ) → Passes (text_unless_empty bytes range)
text_passes [] range a rest may t = t
text_passes (b ∷ bytes) range a rest may t = part_more a false (text (b ∷ bytes), range) rest may t

run_text_passes : (run : List RunTextView) → Passes (text_of_run run)
run_text_passes [] a rest may t = t
run_text_passes (x ∷ run) a rest may t = text_passes (shown_bytes (x ∷ run)) (run_range x run) a rest may t

link_passes : (kind : LinkType) (destination : List ℕ) (run : List RunTextView)
    → Passes (link_over kind destination run)
link_passes kind destination [] a rest may t = t
link_passes kind destination (x ∷ run) a rest may t =
    part_more a false _ _ may (part_more (closes.Link ∷ a) false _ _ refl
    (part_more (closes.Link ∷ a) false (end closes.Link, run_range x run) rest refl t))

linked_passes : (searched : List ℕ) (used : ℕ) (run : List RunTextView) (addresses : List Address)
    → Passes (linked_events searched used run addresses)
linked_passes searched used run [] = run_text_passes (take_run (length searched - used) run)
linked_passes searched used run (x ∷ addresses) =
    let one = run_left (x.start - used) run in
    let between = text_of_run (take_run (x.start - used) run) in
    let link = link_over (address_link_type x.form) (address_destination searched x) (take_run (x.end - x.start) one) in
    passes_append (between ++ link) (linked_events searched x.end (run_left (x.end - x.start) one) addresses)
    (passes_append between link (run_text_passes (take_run (x.start - used) run))
    (link_passes (address_link_type x.form) (address_destination searched x) (take_run (x.end - x.start) one)))
    (linked_passes searched x.end (run_left (x.end - x.start) one) addresses)

merged_passes : (run : List RunTextView) → Passes (merged_run run)
merged_passes [] a rest may t = t
merged_passes (x ∷ []) a rest may t = part_more a false (text x.shown, x.range) rest may t
merged_passes (x ∷ y ∷ run) a rest may t = run_text_passes (x ∷ y ∷ run) a rest may t

run_passes : (run : List RunTextView) → Passes (run_events run)
run_passes run = by (addresses_in (searched_bytes run))
  where
    by : (addresses : List Address) → Passes (run_with run addresses)
    by [] = merged_passes run
    by (x ∷ addresses) = linked_passes (searched_bytes run) 0 run (x ∷ addresses)

-- a run of Texts stands before such events, where a Text may come or the run is empty
run_before : (source : List ℕ) (texts : Texts) (a : List TagEnd) (first : Bool) (rest : List Ranged)
    → TextMayCome a first ⊎ (texts ≡ []) → IsPartFrom a first rest
    → IsPartFrom a first (texts_events source texts ++ rest)
run_before source texts a false rest (inl may) t = run_passes (map (run_text source) texts) a rest may t
run_before source texts a true rest (inl may) t = cc may
run_before source texts a first rest (inr none) t =
    subst (λ (ts : Texts). IsPartFrom a first (texts_events source ts ++ rest)) (sym none) t

part_linked_from : (source : List ℕ) (inside : ℕ) (texts : Texts) (events : List Ranged) (a : List TagEnd)
    (first : Bool) → TextMayCome a first ⊎ (texts ≡ []) → IsPartFrom a first events
    → IsPartFrom a first (with_addresses_after source inside texts events)
part_linked_from source inside texts [] a first may t =
    subst (λ (es : List Ranged). IsPartFrom a first es) (append-nil (texts_events source texts))
    (run_before source texts a first [] may t)
part_linked_from source zero texts ((text bytes, range) ∷ events) a false may t =
    part_linked_from source zero (texts ++ (bytes, range) ∷ []) events a false
    (inl (part_first a false (text bytes, range) events t)) (part_rest a false (text bytes, range) events t)
part_linked_from source zero texts ((text bytes, range) ∷ events) a true may t =
    cc (part_first a true (text bytes, range) events t)
part_linked_from source zero texts ((v, range) ∷ events) a first may t =
    run_before source texts a first _ may (part_more a first (v, range) _ (part_first a first (v, range) events t)
    (part_linked_from source (left_alone_after zero v) [] events (awaited_after v a) (starts_table v) (inr refl)
    (part_rest a first (v, range) events t)))
part_linked_from source (suc n) texts (e ∷ events) a first may t =
    run_before source texts a first _ may (part_more a first e _ (part_first a first e events t)
    (part_linked_from source (left_alone_after (suc n) e.0) [] events (awaited_after e.0 a) (starts_table e.0)
    (inr refl) (part_rest a first e events t)))

-- ---- so the HTML is a tree

-- these events are a part of a page
abbrev ArePart : List Ranged → Type 0
ArePart events = IsPartFrom [] false events

part_of_alike : (events others : List Ranged) → AreAlike (bare_events events) (bare_events others) → ArePart events
    → ArePart others
part_of_alike events others k t = record { part = part_alike [] false _ _ k ∙ t.part }

part_of_text : (autolinks : Bool) (s : Source) → ArePart (ranged (events_of_text s))
    → ArePart (text_events autolinks s)
part_of_text false s t = t
part_of_text true s t = part_linked_from s.text 0 [] (ranged (events_of_text s)) [] false (inr refl) t

part_with_ids : (taken : List Id) (events : List Ranged) → ArePart events → ArePart (with_ids taken events)
part_with_ids taken events t = part_of_alike _ _ (alike_ids events false taken) t

part_with_added_ids : (view : IdsView) (taken : List Id) (events : List Ranged) → ArePart events
    → ArePart (with_added_ids view taken events)
part_with_added_ids adds_no_ids taken events t = t
part_with_added_ids adds_ids taken events t = part_with_ids taken events t
part_with_added_ids (adds_prefixed_ids prefix) taken events t =
    part_of_alike _ _ (alike_prefixed prefix (with_ids taken events)) (part_with_ids taken events t)

bare_ranged : (placed : List Placed) → bare_events (ranged placed) ≡ map (λ (e : Placed). e.0) placed
bare_ranged [] = refl
bare_ranged (e ∷ placed) = ap (λ (es : List EventView). e.0 ∷ es) (bare_ranged placed)

blocks_of_text : {F : Type 0} (autolinks : Bool) (s : Source) (events : ParsedEvents F) → IsNewText autolinks s events
    → (blocks : Blocks) × IsBlocksOf s blocks
blocks_of_text false s (Left o) new = (new.blocks, new.of_text)
blocks_of_text true s (Right l) new = (new.parser.blocks, new.parser.of_text)
blocks_of_text autolinks s events new = absurd new

blocks_of_new : {F : Type 0} (view : IdsView) (autolinks : Bool) (s : Source) (events : NestedEvents F)
    → IsNewWithAddedIds view autolinks s events → (blocks : Blocks) × IsBlocksOf s blocks
blocks_of_new adds_no_ids autolinks s (Left events) new = blocks_of_text autolinks s events new
blocks_of_new adds_ids autolinks s (Right (Left h)) new = blocks_of_text autolinks s _ new.text
blocks_of_new (adds_prefixed_ids prefix) autolinks s (Right (Right p)) new = blocks_of_text autolinks s _ new.0.text
blocks_of_new view autolinks s events new = absurd new

pub tree_of_new : (rules : SafeRulesView) (view : AdditionsView) (s : Source) (events : TextEvents)
    → IsNewAdded view s events → IsPlacedTree (written_of_text (as_safe_html rules) view s)
tree_of_new rules view s events new =
    let (blocks, of) = blocks_of_new view.ids view.autolinks s (nested_events events) new in
    let text = is_part_by_tests (map (λ (e : Placed). e.0) (events_of_text s)) (
      nested_texts s blocks of,
      whole_texts s blocks of,
      alone_texts s blocks of,
      items_of_texts s blocks of,
      headings_of_texts s blocks of,
    ) in
    page_part_is_placed rules (bare_events (added_events view s))
    (part_with_added_ids view.ids (taken_in_text s) (text_events view.autolinks s)
    (part_of_text view.autolinks s
    (record { part = ap is_page_part (bare_ranged (events_of_text s)) ∙ text }))).part
