-- A container that is opened is one more frame; those that go on in a line are open as before; and directly in lists
-- there are items and blank lines.
use Rattle.std.proofs.Common.{◌≡◌, ℕ, suc, true, false, List, [], ◌∷◌, ◌++◌, Some, refl, sym, ap, ◌∙◌, ◌-◌, ◌<◌, ◌≤◌}
use Rattle.std.proofs.Common.{Option, None, length, take, take_all, arith, append-nil, map, zero, Bool, not, ◌||◌}
use Rattle.std.proofs.Common.{IfSome, length-append}
use Rattle.markdown_plain.proofs.Names.{nat_tests, Forest, nil, node, ItemBody, BlockQuoteKind, OpenBlock, BuilderView}
use Rattle.markdown_plain.proofs.Names.{Opens, entity_names, Source, divided, divided_in, ListMarker, Block, Kind}
use Rattle.markdown_plain.proofs.Names.{another_item, begun_by, begun_in, container_with, goes_on}
use Rattle.markdown_plain.proofs.Names.{inside_of, leaf_with, line_block, new_blocks, next_item}
use Rattle.markdown_plain.proofs.Names.{paragraph_with, table_of_lines, table_with, with_lazy, with_line}
use Rattle.markdown_plain.proofs.Names.{definitions_in, footnotes_in, label_of, paragraph_lines, shown_blocks, Around}
use Rattle.markdown_plain.proofs.Names.{is_blank_block, stepped, AreNested, Frame, forgotten, innermost_is, is_item}
use Rattle.markdown_plain.proofs.Names.{is_list, rebuilt, outer_within, room_depth, touched, closed_in, AreOpen}
use Rattle.markdown_plain.proofs.Names.{IsBodyOf, IsBuilt, QuotesEnd, around_in, around_innermost, with_frame}
use Rattle.markdown_plain.proofs.Names.{SourceLine, is_blank_rest, rest_inside, Line, Pass, HoldsParagraph}
use Rattle.markdown_plain.proofs.Names.{AreItemsOpenedIn, EndsFrom, first_task, AreOpenedBefore, Alignment, followed_by}
use Rattle.markdown_plain.proofs.Names.{past_footnote, past_indent, past_quote, LineLeft, Beginning, begins}
use Rattle.markdown_plain.proofs.Names.{alignments_for, reads_tables, either, AreItemsInLists, MayBeIn}
use Rattle.std.specs.Prelude.{◌==◌, Result, Ok, Err, nat_le, nat_lt}
use Rattle.std.specs.Result.{IfOk}
use Rattle.std.proofs.lemmas.List.{take-append-le}
use Rattle.std.proofs.lemmas.Bool.{true≢false}
use Rattle.std.specs.Option.{option_map}
use Rattle.markdown_builder.specs.Bodies.{is_leaf}
use Rattle.markdown_builder.specs.BuilderView.{OpensNaming}
use Rattle.markdown_block_rules.specs.BlockGrowth.{block_with, cut_paragraph, begins_but_underline, paragraph_with_text}
use Rattle.markdown_block_rules.specs.BlockGrowth.{table_after, with_lazy_text, with_rest}
use Rattle.markdown_plain.specs.Settled.{levels_shown}
use Rattle.markdown_plain.specs.OpenedFrames.{is_list_for, quote_kind, with_item, with_list}
use Rattle.markdown_plain.specs.OpenBlocks.{is_list_of}
use Rattle.markdown_base.proofs.OptionLemmas.{if_or}
use Rattle.markdown_block_rules.proofs.GrowthLemmas.{chosen, mapped, unwrapped}
use Rattle.markdown_base.specs.declared.item.ItemBody.TheVariants as body
use Rattle.markdown_block_rules.specs.BlockGrowth as was
use Rattle.markdown_plain.specs.OpenBlocks as own
use Rattle.markdown_lines.specs.declared.block_start.Before.TheVariants as paragraph
use Rattle.markdown_lines.specs.BlockBeginnings as line
use Rattle.markdown_plain.proofs.ClosedFramesLemmas.{definitions_appended, footnotes_appended, open_after, gathered_in}
use Rattle.markdown_plain.proofs.ClosedFramesLemmas.{IsGathered, definitions_gathered, gathered_before, exact_depth}
use Rattle.markdown_plain.proofs.ClosedFramesLemmas.{footnotes_gathered}
use Rattle.markdown_plain.proofs.FramesLemmas.{as_many_open, all_within, list_no_item, within_parts}
use Rattle.markdown_plain.proofs.LeafTreesLemmas.{by_test}
use Rattle.markdown_plain.proofs.FramesLemmas.{inner_alike, list_of_open, innermost_apart, tests_alike}
use Rattle.markdown_plain.proofs.LeafTreesLemmas.{get_last, on_test}

-- ---- what is built

-- a container has no lines of its own, and so no definitions
no_definitions : (s : Source) (texts : List (List ℕ)) (b : Block) (now : ItemBody) → IsBodyOf texts b.kind now
    → definitions_in s (node b nil nil) ≡ []
unfolding definitions_in divided_in
no_definitions s texts b now is =
    ap (λ lines. (divided (entity_names s.syntax) s.text lines).definitions ++ ([] ++ [])) (none b.kind is)
  where
    none : (kind : Kind) → IsBodyOf texts kind now → paragraph_lines kind ≡ []
    none (was.paragraph_leaf lines) is = absurd is
    none (was.underlined_leaf level lines) is = absurd is
    none other is = refl

own_label : (b : Block) → footnotes_in (node b nil nil) ≡ label_of b.kind
unfolding footnotes_in
own_label b = append-nil (label_of b.kind)

nothing_shown : (s : Source) (around : Around) → shown_blocks s around nil ≡ nil
unfolding shown_blocks
nothing_shown s around = refl

-- a builder has opened a container, and changed nothing else, but that texts may follow the others
opened_is_built : (s : Source) (old new : BuilderView) (frames : List Frame) (inside : Forest Block) (b : Block)
    (at : ℕ) (now : ItemBody) (more : List (List ℕ)) → new ≡ record (stepped old at) {
      blocks = old.blocks ++ record { start = b.start; body = now } ∷ [];
      leaf = false;
      run = None;
      levels = old.levels ++ nil ∷ [];
      texts = old.texts ++ more;
      footnotes = old.footnotes ++ label_of b.kind;
    } → IsBodyOf (old.texts ++ more) b.kind now → innermost_is is_list frames ≡ is_item b.kind
    → IsBuilt s old frames inside → IsBuilt s new (with_frame frames inside b) nil
opened_is_built s old new frames inside b at now more opens is fits built = rw opens (record {
  text = built.text;
  blocks = (
    record { start = b.start; body = now },
    old.blocks,
    refl,
    record { start = refl; body = is },
    open_after old.texts more old.blocks frames built.blocks,
  );
  nested = (fits, built.nested);
  outside = refl;
  levels = rw (built.levels, nothing_shown) refl;
  definitions = rw built.definitions (sym (definitions_appended s frames inside (node b nil nil)
      ∙ rw (no_definitions s (old.texts ++ more) b now is) (append-nil _)));
  footnotes = rw built.footnotes (sym (footnotes_appended frames inside (node b nil nil) ∙ rw own_label refl));
})

-- ---- containers that refer to nothing

pub record IsPlain (kind : Kind) (b : ItemBody) : Type 0 where
  pub inner : is_leaf b ≡ false
  pub is : (texts : List (List ℕ)) → IsBodyOf texts kind b
  pub unnamed : label_of kind ≡ []

pub quote_is : (kind : Option BlockQuoteKind) → IsPlain (quote_kind kind) (body.BlockQuote kind)
quote_is None = record { inner = refl; is = λ texts. refl; unnamed = refl }
quote_is (Some kind) = record { inner = refl; is = λ texts. refl; unnamed = refl }

pub quote_outside : (kind : Option BlockQuoteKind) → is_item (quote_kind kind) ≡ false
quote_outside None = refl
quote_outside (Some kind) = refl

-- one of these is opened at a byte offset
pub plain_is_built : (s : Source) (old new : BuilderView) (frames : List Frame) (inside : Forest Block) (b : Block)
    (at : ℕ) (kind : Kind) (now : ItemBody) → IsPlain kind now → Opens (stepped old at) new now
    → b.start ≡ at → b.kind ≡ kind → innermost_is is_list frames ≡ is_item kind → IsBuilt s old frames inside
    → IsBuilt s new (with_frame frames inside b) nil
plain_is_built s old new frames inside b at kind now plain opens start same fits built =
    opened_is_built s old new frames inside b at now []
    (rw (start, same, plain.unnamed, append-nil old.texts, append-nil old.footnotes) (rw plain.inner at opens))
    (rw same (plain.is (old.texts ++ []))) (rw same fits) built

-- ---- the innermost container, as an open block

pub as_many_containers : (s : Source) (view : BuilderView) (frames : List Frame) (inside : Forest Block)
    → IsBuilt s view frames inside → length view.blocks ≡ length frames
as_many_containers s view frames inside built = as_many_open view.texts view.blocks frames built.blocks

pub list_innermost : (s : Source) (view : BuilderView) (frames : List Frame) (inside : Forest Block)
    → IsBuilt s view frames inside → own.innermost_is own.is_list view.blocks ≡ innermost_is is_list frames
list_innermost s view frames inside built = list_of_open view.texts view.blocks frames built.blocks

pub list_goes_on : (marker : ListMarker) (s : Source) (view : BuilderView) (frames : List Frame)
    (inside : Forest Block) → IsBuilt s view frames inside
    → own.innermost_is (is_list_of marker.character) view.blocks ≡ innermost_is (is_list_for marker) frames
list_goes_on marker s view frames inside built =
    inner_alike (is_list_of marker.character) (is_list_for marker)
    (tests_alike (is_list_of marker.character) (is_list_for marker) refl (λ kind. refl)
    (λ found. grind (arith, nat_tests)) (λ indent. refl) (λ ix label. refl)) view.texts view.blocks frames built.blocks

pub list_is : (marker : ListMarker) → IsPlain (was.list_container marker) (body.List true marker.character marker.first)
list_is marker = record { inner = refl; is = λ texts. refl; unnamed = refl }

pub item_is : (indent : ℕ) → IsPlain (was.item_container indent) (body.ListItem indent)
item_is indent = record { inner = refl; is = λ texts. refl; unnamed = refl }

-- ---- footnote definitions

-- one is opened at a byte offset, with its label as the last text
pub note_is_built : (s : Source) (old new : BuilderView) (frames : List Frame) (inside : Forest Block) (b : Block)
    (at : ℕ) (label : List ℕ) → OpensNaming (stepped old at) new body.FootnoteDefinition label
    → new.footnotes ≡ old.footnotes ++ label ∷ [] → b.start ≡ at → b.kind ≡ was.footnote_container label
    → innermost_is is_list frames ≡ false → IsBuilt s old frames inside → IsBuilt s new (with_frame frames inside b) nil
note_is_built s old new frames inside b at label opens listed start same fits built =
    opened_is_built s old new frames inside b at (body.FootnoteDefinition (record { 0 = length old.texts }))
    (label ∷ [])
    (rw (start, same, ← listed) opens) (rw same (record { 0 = length old.texts }, refl, get_last old.texts label))
    (rw same fits) built

-- what two clauses say of a result
pub both_ok : {T E : Type 0} (r : Result T E) (P Q : T → Type 0) → IfOk r P → IfOk r Q → IfOk r (λ x. P x × Q x)
both_ok (Ok x) P Q p q = (p, q)
both_ok (Err e) P Q p q = tt

-- ---- where a container is opened

-- a list that goes on is a list
pub list_for_item : (marker : ListMarker) (frames : List Frame) → innermost_is (is_list_for marker) frames ≡ true
    → innermost_is is_list frames ≡ true
list_for_item marker [] e = e
list_for_item marker (f ∷ outer) e = is f.block.kind e
  where
    is : (kind : Kind) → is_list_for marker kind ≡ true → is_list kind ≡ true
    is (was.list_container found) e = refl
    is other e = absurd (true≢false (sym e))

-- of open containers the outermost are nested too
pub nested_within : (depth : ℕ) (frames : List Frame) → AreNested frames → AreNested (outer_within depth frames)
nested_within depth [] nested = tt
nested_within depth (f ∷ outer) nested =
    on_test AreNested (nat_lt (length outer) depth) _ _ (λ less. nested) (λ more. nested_within depth outer nested.1)

-- and they are open as the outermost blocks
pub open_within : (texts : List (List ℕ)) (depth : ℕ) (blocks : List OpenBlock) (frames : List Frame)
    → AreOpen texts blocks frames → AreOpen texts (take depth blocks) (outer_within depth frames)
open_within texts depth blocks [] none = rw none (take_all depth [] (omega arith))
open_within texts depth blocks (f ∷ outer) (block, others, are, is, around) =
    let many = as_many_open texts others outer around in
    on_test (AreOpen texts (take depth blocks)) (nat_lt (length outer) depth) (f ∷ outer) (outer_within depth outer)
    (λ less.
    let few : length blocks ≤ depth =
    grind (arith, nat_tests, less, many, ap length are, length-append others (block ∷ [])) in
    rw (take_all depth blocks few) (block, others, are, is, around)) (λ more.
    let few : depth ≤ length others = grind (arith, nat_tests, more, many) in
    rw (are, take-append-le depth others (block ∷ []) few) (open_within texts depth others outer around))

-- of these the outermost are the same
pub outermost_twice : (n depth : ℕ) (frames : List Frame) → n ≤ depth
    → outer_within n (outer_within depth frames) ≡ outer_within n frames
outermost_twice n depth [] few = refl
outermost_twice n depth (f ∷ outer) few =
    by_test (nat_lt (length outer) depth) (λ less. rw less refl) (λ more.
    let other : nat_lt (length outer) n ≡ false = grind (arith, nat_tests, more, few) in
    rw (more, other) (outermost_twice n depth outer few))

-- the innermost of these containers is no list
pub room_is_free : (depth : ℕ) (frames : List Frame) → depth ≤ length frames → AreNested frames
    → innermost_is is_list (outer_within (room_depth depth frames) frames) ≡ false
room_is_free depth frames few nested =
    on_test (λ n. innermost_is is_list (outer_within n frames) ≡ false)
    (innermost_is is_list (outer_within depth frames))
    (depth - 1) depth (λ list.
    let these = innermost_apart is_list (outer_within depth frames) list in
    let count : depth - 1 ≡ length these.outer = omega (arith, exact_depth depth frames few, ap length these.are) in
    rw (← outermost_twice (depth - 1) depth frames (omega arith), these.are)
    (rw (within_parts (these.last ∷ []) these.outer (depth - 1) count).0
    ((rw these.are at (nested_within depth frames nested)).0 ∙ list_no_item these.last.block.kind these.passes)))
    (λ none. none)

-- a list is put into what is no list
list_in_free : (list : Block) (frames : List Frame) (inside : Forest Block) → innermost_is is_list frames ≡ false
    → with_list list frames inside ≡ with_frame frames inside list
list_in_free list frames inside free =
    let whole = all_within frames (length frames) (omega arith) in rw (whole.0, free, whole.0, whole.1 inside) refl

-- or after another list
list_after : (list : Block) (f : Frame) (outer : List Frame) (inside : Forest Block) → is_list f.block.kind ≡ true
    → with_list list (f ∷ outer) inside ≡ with_frame outer (forgotten f inside) list
list_after list f outer inside is =
    let there = within_parts (f ∷ []) outer (length outer) refl in
    let whole = all_within (f ∷ outer) (suc (length outer)) (omega arith) in
    let depth : room_depth (suc (length outer)) (f ∷ outer) ≡ length outer = rw (whole.0, is) (omega arith) in
    ap (λ n. with_frame (outer_within n (f ∷ outer)) (closed_in n (f ∷ outer) inside) list) depth
    ∙ rw (there.0, there.1 inside) refl

-- An item is put into the list that it continues, or into one that is put into what is no list, or that is put after
-- another list.
pub item_placed : (P : List Frame → Type 0) (marker : ListMarker) (list item : Block) (frames : List Frame)
    (inside : Forest Block) → (innermost_is (is_list_for marker) frames ≡ true → P (with_frame frames inside item))
    → (innermost_is is_list frames ≡ false → P (with_frame (with_frame frames inside list) nil item))
    → ((f : Frame) (outer : List Frame) → frames ≡ f ∷ outer → is_list f.block.kind ≡ true
    → is_list_for marker f.block.kind ≡ false → P (with_frame (with_frame outer (forgotten f inside) list) nil item))
    → P (with_item marker list item frames inside)
item_placed P marker list item frames inside goes_on begins changes =
    on_test P (innermost_is (is_list_for marker) frames) _ _ goes_on (λ other. by_test (innermost_is is_list frames)
    (λ one.
    let these = innermost_apart is_list frames one in
    rw (these.are, list_after list these.last these.outer inside these.passes)
    (changes these.last these.outer these.are these.passes (rw these.are at other)))
    (λ free. rw (list_in_free list frames inside free) (begins free)))

-- ---- what is built

open_touched : (l : SourceLine) (texts : List (List ℕ)) (blocks : List OpenBlock) (frames : List Frame)
    → AreOpen texts blocks frames → AreOpen texts blocks (map (touched l) frames)
open_touched l texts blocks [] none = none
open_touched l texts blocks (f ∷ outer) (block, others, are, is, around) =
    (block, others, are, record { start = is.start; body = is.body }, open_touched l texts others outer around)

nested_touched : (l : SourceLine) (frames : List Frame) → AreNested frames → AreNested (map (touched l) frames)
nested_touched l [] nested = tt
nested_touched l (f ∷ []) nested = nested
nested_touched l (f ∷ g ∷ outer) nested = (nested.0, nested_touched l (g ∷ outer) nested.1)

around_same : (l : SourceLine) (f : Frame) (kind : Kind) → around_in (touched l f).block kind ≡ around_in f.block kind
around_same l f (was.item_container indent) = refl
around_same l f other = refl

pub around_touched : (l : SourceLine) (frames : List Frame)
    → around_innermost (map (touched l) frames) ≡ around_innermost frames
around_touched l [] = refl
around_touched l (f ∷ outer) = around_same l f f.block.kind

levels_touched : (l : SourceLine) (s : Source) (frames : List Frame) (inside : Forest Block)
    → levels_shown s (map (touched l) frames) inside ≡ levels_shown s frames inside
levels_touched l s [] inside = refl
levels_touched l s (f ∷ outer) inside = rw (levels_touched l s outer f.before, around_same l f f.block.kind) refl

gathered_touched : {A : Type 0} (own : Block → List A) (all : Forest Block → List A) → IsGathered own all
    → ((l : SourceLine) (f : Frame) → own (touched l f).block ≡ own f.block)
    → (l : SourceLine) (frames : List Frame) (inside : Forest Block)
    → all (rebuilt (map (touched l) frames) inside) ≡ all (rebuilt frames inside)
gathered_touched own all is same l frames inside =
    rw (gathered_in own all is, gathered_in own all is, before frames) refl
  where
    before : (frames : List Frame) → gathered_before own all (map (touched l) frames) ≡ gathered_before own all frames
    before [] = refl
    before (f ∷ outer) = rw (before outer, same l f) refl

pub built_touched : (l : SourceLine) (s : Source) (view : BuilderView) (frames : List Frame) (inside : Forest Block)
    → IsBuilt s view frames inside → IsBuilt s view (map (touched l) frames) inside
built_touched l s view frames inside built = record {
  text = built.text;
  blocks = open_touched l view.texts view.blocks frames built.blocks;
  nested = nested_touched l frames built.nested;
  outside = built.outside;
  levels = built.levels ∙ sym (levels_touched l s frames inside);
  definitions = built.definitions
      ∙ sym (gathered_touched _ (definitions_in s) (definitions_gathered s) (λ m f. refl) l frames inside);
  footnotes = built.footnotes ∙ sym (gathered_touched _ footnotes_in footnotes_gathered (λ m f. refl) l frames inside);
}

-- ---- a paragraph in them

pub holds_touched : (l : SourceLine) (s : Source) (pass : Pass) (frames : List Frame) (inside : Forest Block)
    (b : Block) (sources : List SourceLine) → HoldsParagraph s pass frames inside b sources
    → HoldsParagraph s pass (map (touched l) frames) inside b sources
holds_touched l s pass frames inside b sources holds =
    let built = built_touched l s pass.placing.builder frames inside holds.built in
    let task : pass.task ≡ first_task s (around_innermost (map (touched l) frames)).marked sources =
    rw (around_touched l frames) holds.task in
    let from : EndsFrom (around_innermost (map (touched l) frames)).marked sources =
    rw (around_touched l frames) holds.from in
    assumption (built, task, from, holds)

-- ---- the blocks around it

pub quotes_touched : (l : SourceLine) (to : ℕ) → l.next ≡ to → (frames : List Frame)
    → QuotesEnd to (map (touched l) frames)
quotes_touched l to ends [] = tt
quotes_touched l to ends (f ∷ frames) = (λ quote. ends, quotes_touched l to ends frames)

-- ---- when they were opened

pub earlier_touched : (l : SourceLine) (from to : ℕ) → from ≤ to → (frames : List Frame) → AreOpenedBefore from frames
    → AreOpenedBefore to (map (touched l) frames)
earlier_touched l from to less [] earlier = tt
earlier_touched l from to less (f ∷ frames) earlier = (
  λ item. record {
    start = omega (arith, (earlier.0 item).start, less);
    first = omega (arith, (earlier.0 item).first, less);
  },
  earlier_touched l from to less frames earlier.1,
)

-- the outermost of some containers were opened as early
pub earlier_outer : (from : ℕ) (inner outer : List Frame) → AreOpenedBefore from (inner ++ outer)
    → AreOpenedBefore from outer
earlier_outer from [] outer earlier = earlier
earlier_outer from (f ∷ inner) outer earlier = earlier_outer from inner outer earlier.1

pub earlier_taken : (from n : ℕ) (frames : List Frame) → AreOpenedBefore from frames
    → AreOpenedBefore from (outer_within n frames)
earlier_taken from n [] earlier = tt
earlier_taken from n (f ∷ outer) earlier =
    on_test (AreOpenedBefore from) (nat_lt (length outer) n) _ _ (λ less. earlier)
    (λ more. earlier_taken from n outer earlier.1)

-- items that were opened before a line were not opened in it
pub not_opened : (line : Line) (frames : List Frame) → line.start < line.next → AreOpenedBefore line.start frames
    → AreItemsOpenedIn line frames
not_opened line [] after earlier = tt
not_opened line (f ∷ frames) after earlier = (
  λ item.
      let start = (earlier.0 item).start in let first = (earlier.0 item).first in
      let not_at : nat_le line.start f.block.start ≡ false = grind (arith, nat_tests, start) in
      let not_there : (line.next == f.block.first) ≡ false = grind (arith, nat_tests, first, after) in
      record { same = not_at ∙ sym not_there; before = omega (arith, first, after) },
  not_opened line frames after earlier.1,
)

-- ---- what begins

both_placed : (in_list : Bool) (f g : Forest Block) → AreItemsInLists in_list f → AreItemsInLists in_list g
    → AreItemsInLists in_list (followed_by f g)
both_placed in_list nil g are more = more
both_placed in_list (node b below after) g are more = (are.0, are.1, both_placed in_list after g are.2 more)

new_placed : (inside : LineLeft → Forest Block) (l : SourceLine)
    → ((rest : LineLeft) → AreItemsInLists false (inside rest)) → (b : Beginning)
    → AreItemsInLists false (new_blocks inside l b)
new_placed inside l placed (line.begins_quote rest) = (λ e. refl, placed rest, tt)
new_placed inside l placed (line.begins_alert kind) = (λ e. refl, (λ e. refl, tt, tt), tt)
new_placed inside l placed (line.begins_footnote label rest) = (λ e. refl, placed rest, tt)
new_placed inside l placed (line.begins_item marker indent rest) = (λ e. refl, (λ e. refl, placed rest, tt), tt)
new_placed inside l placed other = (λ e. refl, tt, tt)

inside_placed : (f : SourceLine → Forest Block) (l : SourceLine) → ((m : SourceLine) → AreItemsInLists false (f m))
    → (rest : LineLeft) → AreItemsInLists false (inside_of f l rest)
inside_placed f l placed rest = either (AreItemsInLists false) _ nil _ tt (placed (rest_inside rest l))

begun_placed : (n : ℕ) (s : Source) (l : SourceLine) → AreItemsInLists false (begun_in n s l)
unfolding begun_in
begun_placed zero s l = tt
begun_placed (suc n) s l =
    new_placed _ l (inside_placed (begun_in n s) l (begun_placed n s)) (begins s paragraph.NoParagraph l)

line_placed : (s : Source) (l : SourceLine) → AreItemsInLists false (line_block s l)
line_placed s l =
    either (AreItemsInLists false) (is_blank_rest l) (was.new_block l.left.scanned l was.blank_line nil) _
    (λ e. refl, tt, tt) (begun_placed (suc (length l.left.bytes)) s l)

another_placed : (s : Source) (m : SourceLine) (marker : ListMarker) (b : Beginning)
    → IfSome (another_item s m marker b) (AreItemsInLists true)
another_placed s m marker (line.begins_item found indent rest) =
    chosen (AreItemsInLists true) (found.character == marker.character) _ _
    (λ e. refl, inside_placed (begun_by s) m (λ l. begun_placed (suc (length l.left.bytes)) s l) rest, tt) tt
another_placed s m marker other = tt

next_placed : (s : Source) (m : SourceLine) (marker : ListMarker) → IfSome (next_item s m marker) (AreItemsInLists true)
next_placed s m marker = by_test (is_blank_rest m) (λ blank. rw blank (λ e. absurd (true≢false e), tt, tt))
    (λ filled. rw filled (another_placed s m marker (begins s paragraph.Lazy m)))

-- ---- leaves that go on

-- a kind may be in a list, or hold what a list does, where another may
abbrev IsPlacedAs : Kind → Kind → Type 0
IsPlacedAs kind grown = (is_blank_block grown ≡ is_blank_block kind) × (is_item grown ≡ is_item kind)
    × (is_list grown ≡ is_list kind)

text_same : (s : Source) (m : SourceLine) (lines : List SourceLine) (b : Beginning)
    → IfSome (paragraph_with_text s m lines b) (IsPlacedAs (was.paragraph_leaf lines))
text_same s m lines line.begins_text = (refl, refl, refl)
text_same s m lines other = tt

paragraph_same : (s : Source) (m : SourceLine) (lines : List SourceLine) (b : Beginning)
    → IfSome (paragraph_with s m lines b) (IsPlacedAs (was.paragraph_leaf lines))
paragraph_same s m lines (line.begins_underline level) =
    chosen (IsPlacedAs (was.paragraph_leaf lines)) (length (divided (entity_names s.syntax) s.text lines).lines == 0) _
    _ (text_same s m lines (begins_but_underline s m)) (refl, refl, refl)
paragraph_same s m lines other = text_same s m lines other

leaf_same : (s : Source) (m : SourceLine) (kind : Kind) → IfSome (leaf_with s m kind) (IsPlacedAs kind)
leaf_same s m (was.paragraph_leaf lines) = either (λ o. IfSome o (IsPlacedAs (was.paragraph_leaf lines)))
    (is_blank_rest m) None _ tt (paragraph_same s m lines (begins s paragraph.Reached m))
leaf_same s m (was.indented_leaf lines) = search (chosen)
leaf_same s m (was.fenced_leaf opening closed lines) = search (chosen)
leaf_same s m (was.html_leaf html closed lines) = search (chosen)
leaf_same s m (was.metadata_leaf kind closed lines) = search (chosen)
leaf_same s m (was.table_leaf ended head alignments rows) = search (chosen)
leaf_same s m other = tt

-- a paragraph whose end becomes a table
lines_placed : (s : Source) (m : SourceLine) (b : Block) (end : ℕ) (before lines : List SourceLine)
    → IfSome (table_of_lines s m b end before lines) (AreItemsInLists false)
lines_placed s m b end before [] = tt
lines_placed s m b end before (head ∷ []) = after before (alignments_for s m before head)
  where
    after : (before : List SourceLine) (found : Option (List Alignment))
        → IfSome (table_after m (cut_paragraph b end before) head found) (AreItemsInLists false)
    after before None = tt
    after [] (Some alignments) = (λ e. refl, tt, tt)
    after (l ∷ before) (Some alignments) = (λ e. refl, tt, (λ e. refl, tt, tt))
lines_placed s m b end before (first ∷ next ∷ lines) =
    lines_placed s m b first.next (before ++ first ∷ []) (next ∷ lines)

table_placed : (in_list : Bool) (s : Source) (m : SourceLine) (b : Block) (kind : Kind) → MayBeIn in_list kind
    → IfSome (table_with s m b kind) (AreItemsInLists in_list)
table_placed true s m b (was.paragraph_leaf lines) may = absurd (true≢false (sym (may refl)))
table_placed false s m b (was.paragraph_leaf lines) may =
    chosen (AreItemsInLists false) (is_blank_rest m || not (reads_tables s)) None _ tt
    (lines_placed s m b b.first [] lines)
table_placed in_list s m b other may = tt

-- a paragraph that goes on lazily
lazy_text_placed : (in_list : Bool) (m : SourceLine) (b : Block) (below : Forest Block) (kind : Kind)
    → MayBeIn in_list kind → AreItemsInLists (is_list kind) below
    → IfSome (with_lazy_text m b below kind) (AreItemsInLists in_list)
lazy_text_placed in_list m b below (was.paragraph_leaf lines) may are = (may, are, tt)
lazy_text_placed in_list m b below other may are = tt

lazy_placed : (in_list : Bool) (m : SourceLine) (blocks : Forest Block) → AreItemsInLists in_list blocks
    → IfSome (with_lazy m blocks) (AreItemsInLists in_list)
unfolding with_lazy
lazy_placed in_list m nil are = tt
lazy_placed in_list m (node b below nil) are =
    if_or (AreItemsInLists in_list) (with_lazy_text m b below b.kind) _
    (lazy_text_placed in_list m b below b.kind are.0 are.1)
    (mapped (AreItemsInLists (is_list b.kind)) (AreItemsInLists in_list) _ (λ f placed. (are.0, placed, tt))
    (with_lazy m below) (lazy_placed (is_list b.kind) m below are.1))
lazy_placed in_list m (node b below (node c others after)) are =
    mapped (AreItemsInLists in_list) (AreItemsInLists in_list) _ (λ f placed. (are.0, are.1, placed))
    (with_lazy m (node c others after)) (lazy_placed in_list m (node c others after) are.2)

-- ---- containers that go on

-- a fact of what is in a container, from what a line makes of that
module _ (s : Source) (m : SourceLine) (below : Forest Block) (inner : SourceLine → Option (Forest Block)) where
  rest_placed : AreItemsInLists false below → ((n : SourceLine) → IfSome (inner n) (AreItemsInLists false))
      → (rest : Option LineLeft) → IfSome (with_rest s m below inner rest) (AreItemsInLists false)
  rest_placed are placed None = chosen (AreItemsInLists false) _ _ None (lazy_placed false m below are) tt
  rest_placed are placed (Some rest) =
      unwrapped (AreItemsInLists false) _ _ (placed (rest_inside rest m))
      (both_placed false below _ are (line_placed s (rest_inside rest m)))

  container_placed : (kind : Kind) → AreItemsInLists (is_list kind) below
      → ((n : SourceLine) → IfSome (inner n) (AreItemsInLists (is_list kind)))
      → IfSome (container_with s m below inner kind) (AreItemsInLists (is_list kind))
  container_placed was.quote_container are placed = rest_placed are placed (past_quote m.left)
  container_placed (was.alert_container kind) are placed = rest_placed are placed (past_quote m.left)
  container_placed (was.list_container marker) are placed =
      if_or (AreItemsInLists true) (inner m) _ (placed m)
      (mapped (AreItemsInLists true) (AreItemsInLists true) _ (λ new more. both_placed true below new are more)
      (next_item s m marker) (next_placed s m marker))
  container_placed (was.item_container indent) are placed =
      chosen (AreItemsInLists false) _ None _ tt (rest_placed are placed (past_indent indent m.left))
  container_placed (was.footnote_container label) are placed =
      chosen (AreItemsInLists false) _ None _ tt
      (rest_placed are placed (past_footnote (not s.syntax.old_footnotes) m.left))
  container_placed other are placed = tt

  block_placed : (in_list : Bool) (b : Block) → MayBeIn in_list b.kind → AreItemsInLists (is_list b.kind) below
      → ((n : SourceLine) → IfSome (inner n) (AreItemsInLists (is_list b.kind)))
      → IfSome (block_with s m b below inner) (AreItemsInLists in_list)
  block_placed in_list b may are placed =
      if_or (AreItemsInLists in_list) (table_with s m b b.kind) _ (table_placed in_list s m b b.kind may)
      (if_or (AreItemsInLists in_list) (option_map _ (leaf_with s m b.kind)) _
      (mapped (IsPlacedAs b.kind) (AreItemsInLists in_list) _
      (λ kind same. (λ e. same.1 ∙ may (sym same.0 ∙ e), rw same.2 are, tt)) (leaf_with s m b.kind)
      (leaf_same s m b.kind))
      (mapped (AreItemsInLists (is_list b.kind)) (AreItemsInLists in_list) _ (λ f more. (may, more, tt))
      (container_with s m below inner b.kind) (container_placed b.kind are placed)))

-- ---- a line more

goes_placed : (in_list : Bool) (s : Source) (blocks : Forest Block) → AreItemsInLists in_list blocks
    → (m : SourceLine) → IfSome (goes_on s blocks m) (AreItemsInLists in_list)
unfolding goes_on
goes_placed in_list s nil are m = tt
goes_placed in_list s (node b below nil) are m =
    block_placed s m below (goes_on s below) in_list b are.0 are.1 (goes_placed (is_list b.kind) s below are.1)
goes_placed in_list s (node b below (node c others after)) are m =
    mapped (AreItemsInLists in_list) (AreItemsInLists in_list) _ (λ f placed. (are.0, are.1, placed))
    (goes_on s (node c others after) m) (goes_placed in_list s (node c others after) are.2 m)

pub line_keeps : (s : Source) (blocks : Forest Block) (l : SourceLine) → AreItemsInLists false blocks
    → AreItemsInLists false (with_line s blocks l)
line_keeps s blocks l are =
    unwrapped (AreItemsInLists false) (goes_on s blocks l) _ (goes_placed false s blocks are l)
    (both_placed false blocks _ are (line_placed s l))
