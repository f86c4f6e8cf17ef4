-- What is open before a line; a leaf that goes on in the line, or leaves off; and text, which the line reaches or
-- which continues a paragraph lazily.
use Rattle.std.proofs.Common.{◌≡◌, slice_range, ℕ, Bool, true, false, not, ◌&&◌, ◌||◌, List, [], ◌∷◌, ◌++◌, Option}
use Rattle.std.proofs.Common.{Some, None, map, option_map, IfSome, IsCharBoundary, IsUtf8, length-append, refl, sym, ap}
use Rattle.std.proofs.Common.{◌∙◌, append-nil, true≢false, ◌+◌, ◌-◌, ◌<◌, ◌≤◌, ◌==◌, length, get_or, codes, nat_le}
use Rattle.std.proofs.Common.{nat_lt, arith, subst}
use Rattle.markdown_plain.proofs.Names.{and-false, or-false, option_or, prefix_len, and_parts, or_parts, nat_tests}
use Rattle.markdown_plain.proofs.Names.{IsCharBoundary-after_ascii, Forest, nil, node, BuilderView, followed_by}
use Rattle.markdown_plain.proofs.Names.{OpenBlock, Source, SourceLine, is_blank_rest, text_line, rest_inside, stop_of}
use Rattle.markdown_plain.proofs.Names.{Line, Block, Kind, container_with, goes_on, is_nil, leaf_with, table_with}
use Rattle.markdown_plain.proofs.Names.{with_line, is_text, with_lazy, paragraph_with, content_of, lazily}
use Rattle.markdown_plain.proofs.Names.{are_separated, ends_blank, is_blank_block, is_loose, Looseness, Pass, MayEnd}
use Rattle.markdown_plain.proofs.Names.{AreItemsInLists, is_innermost, forgotten, AreContainers, AreNested, Frame}
use Rattle.markdown_plain.proofs.Names.{is_list, reached, rebuilt, touched, Reached, innermost_is, is_item}
use Rattle.markdown_plain.proofs.Names.{inside_container, without_leaf, IsOpenIn, is_leaf, leaf_block, IsBefore}
use Rattle.markdown_plain.proofs.Names.{IsReached, are_none, Before, IsReachedBy, blocks_in, LeavesOff, reached_of}
use Rattle.markdown_plain.proofs.Names.{AreOpen, EmptyKnown, EmptyKnownIn, IsBuilt, IsLooseAs, placed_end}
use Rattle.markdown_plain.proofs.Names.{IsLooseBefore, HasLast, IsSource, Stands, with_last, begins, further_line}
use Rattle.markdown_plain.proofs.Names.{next_line, IsContentAt, IsTextFrom, paragraph_before, past_footnote}
use Rattle.markdown_plain.proofs.Names.{past_indent, past_quote, begins_with, LineLeft, Space, column_after}
use Rattle.markdown_plain.proofs.Names.{leading_space, past_marker, past_one_byte, is_line_over, space_from}
use Rattle.markdown_plain.proofs.Names.{space_width, Position, IsRest, is_space_or_tab, slice_same, in_part}
use Rattle.markdown_plain.proofs.Names.{has_paragraph, source_of}
use Rattle.markdown_plain.specs.ReachedFrames.{IsAtMostLeaf}
use Rattle.markdown_plain.specs.Settled.{are_loose}
use Rattle.markdown_plain.specs.TextLines.{with_text, IsTextHere}
use Rattle.markdown_scan.specs.LineStart.{next_column}
use Rattle.markdown_plain.proofs.OpenListsLemmas.{same_touched, closed_separated, loose_by_last, loose_alike}
use Rattle.markdown_plain.proofs.FramesLemmas.{ends_in_block, goes_on_last, last_goes_on, reached_parts, all_outer}
use Rattle.markdown_plain.proofs.FramesLemmas.{with_lazy_last, all_go_on, inner_containers, inner_goes_lazily}
use Rattle.markdown_plain.proofs.FramesLemmas.{on_reached}
use Rattle.markdown_plain.proofs.LeafTreesLemmas.{by_test, on_test}
use Rattle.markdown_plain.proofs.LinedLeavesLemmas.{grown_to}
use Rattle.markdown_plain.proofs.OpenTablesLemmas.{leaf_alone, without_built, without_open}
use Rattle.markdown_plain.proofs.OpenedFramesLemmas.{around_touched, built_touched}
use Rattle.markdown_plain.proofs.ClosedFramesLemmas.{items_inside}
use Rattle.markdown_plain.proofs.ReachedFramesLemmas.{line_goes_lazily, lazily_inside, nothing_goes_on}
use Rattle.markdown_plain.proofs.ReachedFramesLemmas.{open_are_containers}
use Rattle.markdown_plain.proofs.HeldLinesLemmas.{MakesNoTable, has_held}
use Rattle.markdown_plain.proofs.BegunLemmas.{IsLeftOf, next_is_of}
use Rattle.markdown_block_rules.specs.BlockGrowth as was
use Rattle.markdown_plain.specs.OpenLeaves as leaves
use Rattle.markdown_plain.specs.declared.containers.Reached as code
use Rattle.markdown_lines.specs.declared.block_start.Before.TheVariants as paragraph
use Rattle.markdown_lines.specs.BlockBeginnings as line

-- ---- what is open before a line

-- it is known that the innermost container is no empty item, where there is a block in it
known_filled : (empty : Bool) (frames : List Frame) (inside : Forest Block) → empty ≡ false → is_nil inside ≡ false
    → EmptyKnown empty frames inside
known_filled empty [] inside is some = tt
known_filled empty (f ∷ outer) inside is some = by_kind f.block.kind
  where
    by_kind : (kind : Kind) → EmptyKnownIn empty inside kind
    by_kind (was.item_container indent) = is ∙ sym some
    by_kind (was.list_container marker) = tt
    by_kind other = is

-- the open blocks are these containers, and a leaf in them or nothing
pub record OpenParts (pass : Pass) (frames : List Frame) (now : Forest Block) : Type 0 where
  pub containers : List OpenBlock
  pub leaf : List OpenBlock
  pub blocks : pass.placing.builder.blocks ≡ containers ++ leaf
  pub without : without_leaf pass.placing.builder ≡ containers
  pub alone : IsAtMostLeaf leaf
  pub are : AreOpen pass.placing.builder.texts containers frames
  pub nested : AreNested frames
  pub empty : EmptyKnown (is_innermost leaf && pass.looseness.item_is_empty) frames now

-- no leaf is open
no_leaf_parts : (s : Source) (pass : Pass) (frames : List Frame) (inside now : Forest Block)
    → IsBuilt s pass.placing.builder frames inside → IsLooseAs pass.looseness frames now → OpenParts pass frames now
no_leaf_parts s pass frames inside now built loose = record {
  containers = pass.placing.builder.blocks;
  leaf = [];
  blocks = sym (append-nil pass.placing.builder.blocks);
  without = without_built s pass.placing.builder frames inside built;
  alone = tt;
  are = built.blocks;
  nested = built.nested;
  empty = loose.empty;
}

pub open_parts : (s : Source) (pass : Pass) (frames : List Frame) (inside : Forest Block) (last : Option Block)
    → HasLast s pass frames inside last → IsLooseAs pass.looseness frames (with_last inside last)
    → OpenParts pass frames (with_last inside last)
open_parts s pass frames inside None has loose = no_leaf_parts s pass frames inside inside has.0.stands.built loose
open_parts s pass frames inside (Some b) (Some sources, may, knows) loose =
    no_leaf_parts s pass frames inside _ may.unended.built loose
open_parts s pass frames inside (Some b) (None, may, knows) loose =
    let is = may.unended.1 in let view = pass.placing.builder in
    record {
      containers = is.outer;
      leaf = is.block ∷ [];
      blocks = is.blocks;
      without = without_open s view frames inside b is;
      alone = (leaf_alone s view frames inside b (not (leaves.is_table b.kind)) pass.leaf knows.0 is).0;
      are = is.around.blocks;
      nested = is.around.nested;
      empty = known_filled false frames (followed_by inside (leaf_block b)) refl (ends_in_block inside b nil);
    }

-- so it is known how far a line reaches
pub before_line : (s : Source) (pass : Pass) (line : Line) (frames : List Frame) (inside : Forest Block)
    (last : Option Block) (source : SourceLine) → Stands s pass frames inside last line.start
    → IsSource pass line source → IsBefore pass line s frames (with_last inside last) source
before_line s pass line frames inside last source stands is =
    let parts = open_parts s pass frames inside last stands.unended stands.loose in
    record {
      containers = parts.containers;
      leaf = parts.leaf;
      blocks = parts.blocks;
      alone = parts.alone;
      are = parts.are;
      empty = parts.empty;
      syntax = ap (λ (source : Source). source.syntax) stands.source;
      left = is.left;
      stop = is.stop;
      next = is.next;
    }

-- and with that, what the line is read by
pub reached_by : (s : Source) (pass : Pass) (line : Line) (found : code.Reached) (before : Before)
    (source : SourceLine) → Stands s pass before.frames before.inside before.last line.start → IsSource pass line source
    → ((frames : List Frame) (inside : Forest Block) (source : SourceLine) → IsBefore pass line s frames inside source
    → IsReached pass.placing.builder.text line source found (reached s frames inside source))
    → IsReachedBy s pass line found before source
reached_by s pass line found before source stands is reaches =
    assumption (reaches before.frames (blocks_in before) source
    (before_line s pass line before.frames before.inside before.last source stands is))

-- ---- whether a leaf goes on

-- a leaf is no paragraph, and no container
no_other : (s : Source) (l : SourceLine) (b : Block) (kind : Kind) → is_leaf kind ≡ true
    → (table_with s l b kind ≡ None) × (container_with s l nil (goes_on s nil) kind ≡ None)
no_other s l b (was.paragraph_leaf lines) leaf = absurd (true≢false (sym leaf))
no_other s l b was.quote_container leaf = absurd (true≢false (sym leaf))
no_other s l b (was.alert_container kind) leaf = absurd (true≢false (sym leaf))
no_other s l b (was.list_container marker) leaf = absurd (true≢false (sym leaf))
no_other s l b (was.item_container indent) leaf = absurd (true≢false (sym leaf))
no_other s l b (was.footnote_container label) leaf = absurd (true≢false (sym leaf))
no_other s l b other leaf = (refl, refl)

-- what a line makes of it, after other blocks
goes_on_leaf : (s : Source) (l : SourceLine) (inside : Forest Block) (b : Block) → is_leaf b.kind ≡ true
    → goes_on s (followed_by inside (leaf_block b)) l
    ≡ option_map (λ now. followed_by inside (leaf_block (grown_to b l.next now))) (leaf_with s l b.kind)
unfolding goes_on
goes_on_leaf s l inside b leaf =
    let no = no_other s l b b.kind leaf in rw (goes_on_last s inside b nil l, no.0, no.1) (grown (leaf_with s l b.kind))
  where
    grown : (now : Option Kind) → option_map (followed_by inside)
        (option_or (option_map (λ kind. leaf_block (grown_to b l.next kind)) now) None)
        ≡ option_map (λ kind. followed_by inside (leaf_block (grown_to b l.next kind))) now
    grown None = refl
    grown (Some kind) = refl

pub leaf_leaves_off : (s : Source) (l : SourceLine) (inside : Forest Block) (b : Block) → is_leaf b.kind ≡ true
    → leaf_with s l b.kind ≡ None → goes_on s (followed_by inside (leaf_block b)) l ≡ None
leaf_leaves_off s l inside b leaf none = rw (goes_on_leaf s l inside b leaf, none) refl

-- what a line reaches where this block is the last
abbrev pub reached_last : Source → List Frame → Forest Block → Block → SourceLine → Reached
reached_last s frames inside b l = reached s frames (followed_by inside (leaf_block b)) l

-- a line that reaches all containers makes the leaf grow
pub leaf_grows : (s : Source) (frames : List Frame) (inside : Forest Block) (b : Block) (l : SourceLine) (now : Kind)
    → AreContainers frames → AreNested frames → (reached_last s frames inside b l).inner ≡ [] → is_leaf b.kind ≡ true
    → leaf_with s (reached_last s frames inside b l).rest b.kind ≡ Some now
    → with_line s (rebuilt frames (followed_by inside (leaf_block b))) l ≡ rebuilt (map (touched l) frames)
    (followed_by inside (leaf_block (grown_to b (reached_last s frames inside b l).rest.next now)))
leaf_grows s frames inside b l now are nested none leaf grown =
    let before = followed_by inside (leaf_block b) in let r = reached_last s frames inside b l in
    let all = all_outer s frames before l none in
    last_goes_on s frames before l are nested (followed_by inside (leaf_block (grown_to b r.rest.next now)))
    (rw (none, goes_on_leaf s r.rest inside b leaf, grown) refl) ∙ rw all refl

-- ---- which lists are loose, with one leaf instead of another

pub empty_alike : (empty : Bool) (frames : List Frame) (one other : Forest Block) → is_nil one ≡ is_nil other
    → EmptyKnown empty frames one → EmptyKnown empty frames other
empty_alike empty [] one other same known = tt
empty_alike empty (f ∷ outer) one other same known = by_kind f.block.kind known
  where
    by_kind : (kind : Kind) → EmptyKnownIn empty one kind → EmptyKnownIn empty other kind
    by_kind (was.item_container indent) known = known ∙ same
    by_kind (was.list_container marker) known = tt
    by_kind otherwise known = known

-- what is remembered of lists is so with another leaf
loose_with_other : (now : Looseness) (frames : List Frame) (inside : Forest Block) (b c : Block)
    → is_blank_block b.kind ≡ is_blank_block c.kind → IsLooseAs now frames (followed_by inside (leaf_block b))
    → IsLooseAs now frames (followed_by inside (leaf_block c))
loose_with_other now frames inside b c same loose =
    let f : Frame = record { before = inside; block = b } in let g : Frame = record { before = inside; block = c } in
    let one = forgotten f nil in let other = forgotten g nil in
    let apart : are_separated one ≡ are_separated other =
    rw (closed_separated f nil, closed_separated g nil, same) refl in
    let alike : is_loose one ≡ is_loose other = rw (loose_by_last f nil, loose_by_last g nil, apart) refl in
    record {
      lists = loose.lists ∙ loose_alike frames one other apart alike;
      empty = empty_alike now.item_is_empty frames one other
          (ends_in_block inside b nil ∙ sym (ends_in_block inside c nil)) loose.empty;
    }

pub loose_as_leaf : (now : Looseness) (frames : List Frame) (inside : Forest Block) (b c : Block)
    → is_blank_block b.kind ≡ false → is_blank_block c.kind ≡ false
    → IsLooseAs now frames (followed_by inside (leaf_block b))
    → IsLooseAs now frames (followed_by inside (leaf_block c))
loose_as_leaf now frames inside b c filled also loose = loose_with_other now frames inside b c (filled ∙ sym also) loose

-- a leaf with one more line
pub loose_grown : (l : SourceLine) (now : Looseness) (frames : List Frame) (inside : Forest Block) (b c : Block)
    → is_blank_block b.kind ≡ is_blank_block c.kind → IsLooseAs now frames (followed_by inside (leaf_block b))
    → IsLooseAs now (map (touched l) frames) (followed_by inside (leaf_block c))
loose_grown l now frames inside b c same loose =
    same_touched l now frames _ (loose_with_other now frames inside b c same loose)

-- and with a blank line after them
pub lists_before_blank : (frames : List Frame) (inside : Forest Block) (b : Block) → b.kind ≡ was.blank_line
    → are_loose frames inside ≡ are_loose frames (followed_by inside (leaf_block b))
lists_before_blank frames inside b blank =
    let f : Frame = record { before = inside; block = b } in
    let all : are_separated (forgotten f nil) ≡ are_separated inside =
    rw (closed_separated f nil, blank, and-false (ends_blank false inside)) (or-false (are_separated inside)) in
    (loose_alike frames inside (forgotten f nil) (sym all)
    (rw (loose_by_last f nil, all) (sym (or-false (is_loose inside)))))

-- and with a leaf that has just begun
pub loose_with_leaf : (now : Looseness) (frames : List Frame) (inside : Forest Block) (b : Block)
    → is_blank_block b.kind ≡ false → IsLooseBefore now frames inside
    → IsLooseAs now frames (followed_by inside (leaf_block b))
loose_with_leaf now frames inside b filled loose =
    let empty = known_filled now.item_is_empty frames _ loose.empty (ends_in_block inside b nil) in
    record { lists = loose.lists (leaf_block b) (filled, refl); empty = empty }

-- ---- an open leaf in containers that go on

pub end_touched : (l : SourceLine) (frames : List Frame) (inside : Forest Block)
    → placed_end (map (touched l) frames) inside ≡ placed_end frames inside
end_touched l [] inside = refl
end_touched l (f ∷ outer) inside = refl

pub open_leaf_touched : (l : SourceLine) (s : Source) (view : BuilderView) (frames : List Frame)
    (inside : Forest Block) (in_leaf : Bool) (b : Block) → IsOpenIn s view frames inside in_leaf b
    → IsOpenIn s view (map (touched l) frames) inside in_leaf b
open_leaf_touched l s view frames inside in_leaf b is = record {
  outer = is.outer;
  block = is.block;
  levels = is.levels;
  below = is.below;
  around = built_touched l s _ frames inside is.around;
  blocks = is.blocks;
  leaf = is.leaf;
  trees = is.trees;
  shown = rw (around_touched l frames) is.shown;
  end = is.end ∙ sym (end_touched l frames (followed_by inside (leaf_block b)));
}

-- ---- the definition

-- a line that reaches a paragraph of these lines is text of it
abbrev pub IsFurtherText : Source → SourceLine → List SourceLine → Type 0
IsFurtherText s l lines =
    paragraph_with s l lines (begins s paragraph.Reached l) ≡ Some (was.paragraph_leaf (lines ++ further_line s l ∷ []))

-- a line is the next one of the last paragraph, which it reaches
text_reaches : (s : Source) (l : SourceLine) (before : Forest Block) (b : Block) (lines : List SourceLine)
    → ((b : Block) → table_with s l b (was.paragraph_leaf lines) ≡ None) → b.kind ≡ was.paragraph_leaf lines
    → is_blank_rest l ≡ false → IsFurtherText s l lines → with_line s (followed_by before (leaf_block b)) l
    ≡ followed_by before (leaf_block (with_text l (further_line s l) b lines))
unfolding goes_on
text_reaches s l before b lines untabled is filled text =
    rw (goes_on_last s before b nil l, is, untabled b, filled, text) refl

-- or continues it lazily
text_continues : (l : SourceLine) (before : Forest Block) (b : Block) (lines : List SourceLine)
    → b.kind ≡ was.paragraph_leaf lines → with_lazy l (followed_by before (leaf_block b))
    ≡ Some (followed_by before (leaf_block (with_text l (text_line l) b lines)))
unfolding with_lazy
text_continues l before b lines is = rw (with_lazy_last before b nil l, is) refl

-- ---- what is known of lists

-- a block that is no item is not in a list
in_no_list : (in_list : Bool) (before : Forest Block) (b : Block) → is_item b.kind ≡ false
    → is_blank_block b.kind ≡ false → AreItemsInLists in_list (followed_by before (leaf_block b)) → in_list ≡ false
in_no_list in_list nil b item filled are = sym (are.0 filled) ∙ item
in_no_list in_list (node a below after) b item filled are = in_no_list in_list after b item filled are.2

pub around_text : (frames : List Frame) (inside : Forest Block) (b : Block) → is_item b.kind ≡ false
    → is_blank_block b.kind ≡ false → AreItemsInLists false (rebuilt frames (followed_by inside (leaf_block b)))
    → innermost_is is_list frames ≡ false
around_text frames inside b item filled are =
    in_no_list (innermost_is is_list frames) inside b item filled (items_inside frames _ are)

-- ---- the containers around a paragraph

-- the next line of a paragraph of these lines, which it reaches with all open containers, or continues lazily
pub data GoesAs (s : Source) (r : Reached) (lines : List SourceLine) : Type 0 where
  reaches : r.inner ≡ [] → IsFurtherText s r.rest lines → GoesAs s r lines
  continues : (f : Frame) (others : List Frame) → r.inner ≡ f ∷ others
      → begins s paragraph.Lazy r.rest ≡ line.begins_text → GoesAs s r lines

pub paragraph_line : (s : Source) (frames : List Frame) (inside : Forest Block) (b : Block) (lines : List SourceLine)
    (l : SourceLine) → MakesNoTable s (reached_last s frames inside b l) lines → AreContainers frames → AreNested frames
    → AreItemsInLists false (rebuilt frames (followed_by inside (leaf_block b))) → b.kind ≡ was.paragraph_leaf lines
    → is_blank_rest (reached_last s frames inside b l).rest ≡ false → GoesAs s (reached_last s frames inside b l) lines
    → with_line s (rebuilt frames (followed_by inside (leaf_block b))) l
    ≡ rebuilt (map (touched l) frames) (followed_by inside (leaf_block
    (with_text (reached_last s frames inside b l).rest (next_line s (reached_last s frames inside b l)) b lines)))
paragraph_line s frames inside b lines l untabled are nested items is filled (reaches all text) =
    let r = reached_last s frames inside b l in
    all_go_on s frames (followed_by inside (leaf_block b)) l are nested all
    (around_text frames inside b (ap is_item is) (ap is_blank_block is) items)
    ∙ rw (text_reaches s r.rest inside b lines (untabled (ap are_none all)) is filled text, all) refl
paragraph_line s frames inside b lines l untabled are nested items is filled (continues f others some text) =
    let r = reached_last s frames inside b l in
    line_goes_lazily s frames (followed_by inside (leaf_block b)) l are nested f others _ some filled (ap is_text text)
    (text_continues r.rest inside b lines is) ∙ rw some refl

-- ---- where it begins

-- what is left of a line of a text, which begins there between characters, not before a byte offset
pub record IsWithin (text : List ℕ) (from : ℕ) (left : LineLeft) : Type 0 where
  pub own : IsLeftOf text left
  pub boundary : IsCharBoundary text left.scanned
  pub low : from ≤ left.scanned

narrow : (column b : ℕ) → (space_width column b == 0) ≡ false → b < 128
narrow column b some = by_test (b == 32) (λ is. grind (arith, nat_tests, is))
    (λ is. by_test (b == 9) (λ also. grind (arith, nat_tests, also))
    (λ also. absurd (true≢false (rw (is, also) at some))))

module _ (text : List ℕ) (from : ℕ) (utf8 : IsUtf8 text) where
  -- a byte fewer
  pub next_within : (scanned owed next column after b : ℕ) (bytes : List ℕ) → b < 128
      → IsWithin text from (record { scanned = scanned; owed = owed; column = column; bytes = b ∷ bytes })
      → IsWithin text from (record { scanned = scanned + 1; owed = next; column = after; bytes = bytes })
  next_within scanned owed next column after b bytes ascii is =
      let there = in_part text (b ∷ bytes) scanned (scanned + length (b ∷ bytes)) 0 (sym is.own) (omega arith) in
      let place : scanned + 0 ≡ scanned = omega arith in
      let same : get_or text scanned 0 ≡ b = ap (λ n. get_or text n 0) (sym place) ∙ sym there.byte in
      record {
        own = next_is_of text scanned owed next column after b bytes is.own;
        boundary = IsCharBoundary-after_ascii text scanned utf8 (omega (arith, there)) (omega (arith, same, ascii));
        low = omega (arith, is);
      }

  space_from_within : (n scanned column : ℕ) (bytes : List ℕ)
      → IsWithin text from (record { scanned = scanned; owed = 0; column = column; bytes = bytes })
      → IsWithin text from (space_from n scanned column bytes).after
  space_from_within n scanned column [] is = is
  space_from_within n scanned column (b ∷ bytes) is =
      let width = space_width column b in let next = column_after column b in
      on_test (λ (s : Space). IsWithin text from s.after) ((n == 0) || (width == 0)) _ _ (λ e. is) (λ some.
      let ascii = narrow column b (or_parts (n == 0) (width == 0) some).1 in
      on_test (λ (s : Space). IsWithin text from s.after) (nat_lt n width) _ _
      (λ more. next_within scanned 0 (width - n) column next b bytes ascii is)
      (λ less. space_from_within (n - width) (scanned + 1) next bytes
      (next_within scanned 0 0 column next b bytes ascii is)))

  pub space_within : (n : ℕ) (left : LineLeft) → IsWithin text from left
      → IsWithin text from (leading_space n left).after
  space_within n left is = on_test (λ (s : Space). IsWithin text from s.after) (nat_le n left.owed) _ _
      (λ e. assumption) (λ e. space_from_within (n - left.owed) left.scanned left.column left.bytes assumption)

  pub marker_within : (scanned owed column : ℕ) (bytes : List ℕ) → begins_with (codes ">") bytes ≡ true
      → IsWithin text from (record { scanned = scanned; owed = owed; column = column; bytes = bytes })
      → IsWithin text from (past_marker (record { scanned = scanned; owed = owed; column = column; bytes = bytes }))
  marker_within scanned owed column [] begins is = absurd (true≢false (sym begins))
  marker_within scanned owed column (b ∷ bytes) begins is =
      let ascii : b < 128 = grind (arith, nat_tests, begins) in
      space_within 1 (past_one_byte (record { scanned = scanned; owed = owed; column = column; bytes = b ∷ bytes }))
      (next_within scanned owed 0 column (next_column column) b bytes ascii is)

  -- what a container leaves of the line, if it takes a part
  abbrev IsTaken : SourceLine → Option LineLeft → Type 0
  IsTaken l o = IfSome (option_map (λ rest. rest_inside rest l) o) (λ m. IsWithin text from m.left)

  quote_within : (l : SourceLine) → IsWithin text from l.left → IsTaken l (past_quote l.left)
  quote_within l is =
      let space = leading_space 4 l.left in let begins = begins_with (codes ">") space.after.bytes in
      on_test (IsTaken l) (nat_lt space.columns 4 && begins) _ None (λ there.
      marker_within space.after.scanned space.after.owed space.after.column space.after.bytes
      (and_parts (nat_lt space.columns 4) begins there).1 (space_within 4 l.left is)) (λ e. tt)

  indentation_within : (indent : ℕ) (l : SourceLine) → IsWithin text from l.left → IsTaken l (past_indent indent l.left)
  indentation_within indent l is =
      let space = leading_space indent l.left in
      on_test (IsTaken l) ((space.columns == indent) || is_line_over space.after.bytes) _ None
      (λ e. space_within indent l.left is) (λ e. tt)

  footnote_within : (gfm : Bool) (l : SourceLine) → IsWithin text from l.left → IsTaken l (past_footnote gfm l.left)
  footnote_within true l is = indentation_within 4 l is
  footnote_within false l is = is

  container_within : (s : Source) (l : SourceLine) (empty : Bool) (kind : Kind) → IsWithin text from l.left
      → IfSome (inside_container s l empty kind) (λ m. IsWithin text from m.left)
  container_within s l empty was.quote_container is = quote_within l is
  container_within s l empty (was.alert_container kind) is = quote_within l is
  container_within s l empty (was.item_container indent) is =
      on_test (λ o. IfSome o (λ m. IsWithin text from m.left)) (is_blank_rest l && empty) None _ (λ e. tt)
      (λ e. indentation_within indent l is)
  container_within s l empty (was.footnote_container label) is =
      let old = s.syntax.old_footnotes in
      on_test (λ o. IfSome o (λ m. IsWithin text from m.left)) (is_blank_rest l && old) None _ (λ e. tt)
      (λ e. footnote_within (not old) l is)
  container_within s l empty other is = is

  -- so does what is left of it inside the containers that it reaches
  pub reached_within : (s : Source) (frames : List Frame) (inside : Forest Block) (l : SourceLine)
      → IsWithin text from l.left → IsWithin text from (reached s frames inside l).rest.left
  unfolding reached
  reached_within s [] inside l is = is
  reached_within s (f ∷ outer) inside l is =
      let others = reached_within s outer (forgotten f inside) l is in
      let within = container_within s (reached s outer (forgotten f inside) l).rest (is_nil inside) f.block.kind
      others in
      on_reached (λ r. IsWithin text from r.rest.left) s f outer inside l (λ rest all takes. rw takes at within)
      (λ all takes. others) (λ g inner some. others)

  -- and its first byte of content does
  pub content_within : (scanned owed column : ℕ) (bytes : List ℕ)
      → IsWithin text from (record { scanned = scanned; owed = owed; column = column; bytes = bytes })
      → IsCharBoundary text (scanned + prefix_len is_space_or_tab bytes)
  content_within scanned owed column [] is = subst (IsCharBoundary text) (omega arith) is.boundary
  content_within scanned owed column (b ∷ bytes) is =
      on_test (λ n. IsCharBoundary text (scanned + n)) (is_space_or_tab b) _ _ (λ white.
      let next = next_within scanned owed 0 column column b bytes (grind (arith, nat_tests, white)) is in
      subst (IsCharBoundary text) (omega arith) (content_within (scanned + 1) 0 column bytes next))
      (λ other. subst (IsCharBoundary text) (omega arith) is.boundary)

-- ---- what goes on in it

-- a leaf goes on lazily behind no containers
behind_none : (s : Source) (l : SourceLine) (frames : List Frame) (inside : Forest Block) (b : Block) → is_leaf b.kind
    ≡ true → AreContainers frames → lazily s l (rebuilt frames (followed_by inside (leaf_block b))) ≡ None
unfolding with_lazy
behind_none s l frames inside b leaf are =
    let now = followed_by inside (leaf_block b) in
    on_test (λ o. o ≡ None) (not (is_blank_rest l) && is_text (begins s paragraph.Lazy l)) _ None (λ test.
    rw (lazily_inside l frames now are, with_lazy_last inside b nil l, stays b.kind leaf) refl) (λ test. refl)
  where
    stays : (kind : Kind) → is_leaf kind ≡ true → with_lazy l (leaf_block (record b { kind = kind })) ≡ None
    stays (was.paragraph_leaf lines) leaf = absurd (true≢false (sym leaf))
    stays other leaf = refl

-- a list is empty, or begins with an element
pub by_list : {A P : Type 0} (xs : List A) → (xs ≡ [] → P) → ((x : A) (more : List A) → xs ≡ x ∷ more → P) → P
by_list [] none some = none refl
by_list (x ∷ more) none some = some x more refl

-- behind the containers that a line reaches nothing goes on, where nothing does in the innermost, nor lazily
pub none_behind : (s : Source) (frames : List Frame) (now : Forest Block) (l : SourceLine) → AreContainers frames
    → ((reached s frames now l).inner ≡ [] → goes_on s now (reached s frames now l).rest ≡ None)
    → lazily s (reached s frames now l).rest (rebuilt (reached s frames now l).inner now) ≡ None
    → goes_on s (rebuilt (reached s frames now l).inner now) (reached s frames now l).rest ≡ None
none_behind s frames now l are last lazy = by_list (reached s frames now l).inner (λ is. rw is (last is))
    (λ f others is. inner_goes_lazily s frames now l f others are is ∙ lazy)

pub leaf_ends : (s : Source) (frames : List Frame) (inside : Forest Block) (b : Block) (l : SourceLine)
    → is_leaf b.kind ≡ true → AreContainers frames → ((reached_last s frames inside b l).inner ≡ []
    → leaf_with s (reached_last s frames inside b l).rest b.kind ≡ None)
    → goes_on s (rebuilt (reached_last s frames inside b l).inner (followed_by inside (leaf_block b)))
    (reached_last s frames inside b l).rest ≡ None
leaf_ends s frames inside b l leaf are off =
    let r = reached_last s frames inside b l in
    none_behind s frames (followed_by inside (leaf_block b)) l are (λ all. leaf_leaves_off s r.rest inside b leaf
    (off all)) (behind_none s r.rest r.inner inside b leaf (inner_containers r.inner r.outer (rw reached_parts are)))

-- where no paragraph is open, and an open leaf that the line reaches leaves off, nothing goes on
pub nothing_left : (s : Source) (pass : Pass) (from : ℕ) (frames : List Frame) (inside : Forest Block)
    (last : Option Block) (source : SourceLine) → Stands s pass frames inside last from
    → is_blank_rest (reached s frames (with_last inside last) source).rest ≡ false
    → ((reached s frames (with_last inside last) source).inner ≡ []
    → LeavesOff s (reached s frames (with_last inside last) source).rest last) → has_paragraph pass ≡ false
    → goes_on s (rebuilt (reached s frames (with_last inside last) source).inner (with_last inside last))
    (reached s frames (with_last inside last) source).rest ≡ None
nothing_left s pass from frames inside None source stands filled off none = nothing_goes_on s frames inside source
    (open_are_containers pass.placing.builder.texts pass.placing.builder.blocks frames
    stands.unended.0.stands.built.blocks) stands.unended.2
nothing_left s pass from frames inside (Some b) source stands filled off none =
    by_held stands.unended.0 stands.unended.1
  where
    by_held : (held : Option (List SourceLine)) → MayEnd s pass frames inside b held
        → goes_on s (rebuilt (reached_last s frames inside b source).inner (followed_by inside (leaf_block b)))
        (reached_last s frames inside b source).rest ≡ None
    by_held None may = leaf_ends s frames inside b source may.unended.0
        (open_are_containers pass.placing.builder.texts may.unended.1.outer frames may.unended.1.around.blocks)
        (λ all. off all may.unended.0 (rw filled refl))
    by_held (Some sources) may = absurd (true≢false (sym (has_held s pass frames inside b sources may.unended) ∙ none))

-- ---- text

-- before a line, what is left of it is the line
pub whole_within : (pass : Pass) (line : Line) (source : SourceLine) → IsSource pass line source
    → IsWithin pass.placing.builder.text line.start source.left
whole_within pass line source is = rw (← is.left) (record {
  own = slice_same pass.placing.builder.text line.start line.stop;
  boundary = is.boundary;
  low = omega arith;
})

-- the rest of a line that is not blank has content
pub content_at : {text : List ℕ} {position : Position} {line : Line} {rest : SourceLine} (at : ℕ) → IsUtf8 text
    → IsWithin text line.start rest.left → IsRest text position line rest → line.stop ≡ stop_of rest
    → is_blank_rest rest ≡ false → at ≡ content_of rest → IsContentAt text line rest at
content_at {text} {position} {line} {rest} at utf8 within is stop filled here =
    let boundary : IsCharBoundary text at = rw here (content_within text line.start utf8 rest.left.scanned
    rest.left.owed rest.left.column rest.left.bytes
    (record { own = within.own; boundary = within.boundary; low = within.low })) in
    let bytes : slice_range text rest.left.scanned line.stop ≡ rest.left.bytes = rw (← is.left) refl in
    assumption (filled, here, boundary, bytes, within, stop, is)

-- what is left of a line inside the containers that it reaches is text where its first byte of content shows that
pub text_here : {s : Source} {pass : Pass} {line : Line} {position : Position} {depth : ℕ} (inside : Forest Block)
    (r : Reached) → source_of pass ≡ s → IsUtf8 pass.placing.builder.text
    → IsWithin pass.placing.builder.text line.start r.rest.left → IsRest pass.placing.builder.text position line r.rest
    → line.stop ≡ stop_of r.rest → IsTextFrom pass.placing.builder.text position line.stop → depth ≡ length r.outer
    → (is_blank_rest r.rest ≡ false → has_paragraph pass ≡ false → goes_on s (rebuilt r.inner inside) r.rest ≡ None)
    → IsTextHere s pass line position.at depth inside r
text_here {s} {pass} {line} {position} inside r source utf8 within rest stop shows depth over =
    let left = sym rest.left in let filled = shows.filled r.rest left in
    let content = content_at position.at utf8 within rest stop filled (sym (shows.here r.rest left)) in
    let text = shows.begins_it s (paragraph_before pass (are_none r.inner)) r.rest
    (sym (ap (λ (s : Source). s.text) source)) left in
    assumption (depth, content, text, over filled)

-- what the line reaches is text where its first byte of content shows that, and a leaf that it reaches leaves off
pub text_reached : (s : Source) (pass : Pass) (line : Line) (found : code.Reached) (before : Before)
    (source : SourceLine) → IsUtf8 pass.placing.builder.text → IsReachedBy s pass line found before source
    → IsTextFrom pass.placing.builder.text found.position line.stop
    → ((reached_of s before source).inner ≡ [] → LeavesOff s (reached_of s before source).rest before.last)
    → IsTextHere s pass line found.position.at found.depth (blocks_in before) (reached_of s before source)
text_reached s pass line found before source utf8 by shows off =
    text_here (blocks_in before) (reached_of s before source) by.stands.source utf8
    (reached_within pass.placing.builder.text line.start utf8 s before.frames (blocks_in before) source
    (whole_within pass line source by.is)) by.reaches.rest by.reaches.stop shows by.reaches.depth
    (λ filled. nothing_left s pass line.start before.frames before.inside before.last source by.stands filled off)

-- ---- outside all blocks

-- where no block is open, no leaf is the last block that has not ended
pub leaves_off_outside : (s : Source) (pass : Pass) (frames : List Frame) (inside : Forest Block) (last : Option Block)
    (rest : SourceLine) → HasLast s pass frames inside last → pass.placing.builder.blocks ≡ [] → LeavesOff s rest last
leaves_off_outside s pass frames inside None rest has none = tt
leaves_off_outside s pass frames inside (Some b) rest (None, may, knows) none =
    let is = may.unended.1 in
    absurd (omega (arith, ap length (sym none ∙ is.blocks), length-append is.outer (is.block ∷ [])))
leaves_off_outside s pass frames inside (Some b) rest (Some sources, may, knows) none =
    λ leaf. absurd (true≢false (sym leaf ∙ ap is_leaf may.unended.kind))
