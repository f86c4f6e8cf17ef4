-- Room for the block that the rest of a line begins; items that begin with it, in the list that goes on with them or
-- in a new one; and where they may be opened.
use Rattle.std.proofs.Common.{◌≡◌, ℕ, ◌<◌, ◌≤◌, Bool, true, false, not, List, [], ◌∷◌, Option, Some, None, length, map}
use Rattle.std.proofs.Common.{take, refl, sym, ap, ◌∙◌, arith, ◌++◌, append_assoc, ◌==◌, true≢false, length-append}
use Rattle.std.proofs.Common.{if◌then◌else◌, option_map, IsCharBoundary}
use Rattle.markdown_plain.proofs.Names.{and-false, and_parts, none-some, same_Some, list_all, Block, Kind, another_item}
use Rattle.markdown_plain.proofs.Names.{begun_by, goes_on, is_nil, lazily, next_item, paragraph_with, content_of}
use Rattle.markdown_plain.proofs.Names.{inside_of, line_block, new_blocks, with_line, HasRoom, HoldsLast, IsFirst}
use Rattle.markdown_plain.proofs.Names.{IsFound, IsHere, IsLeft, MayBegin, Turn, Forest, nil, node, followed_by}
use Rattle.markdown_plain.proofs.Names.{LineLeft, Source, Beginning, begins, beginning_found, left_at, SourceLine}
use Rattle.markdown_plain.proofs.Names.{is_blank_rest, rest_inside, BlockStart, ListMarker, LineRest, Pass}
use Rattle.markdown_plain.proofs.Names.{AreItemsInLists, AreContainers, AreNested, Frame, IsContainer, innermost_is}
use Rattle.markdown_plain.proofs.Names.{inside_container, Reached, is_list, reached, rebuilt, room_depth, touched}
use Rattle.markdown_plain.proofs.Names.{forgotten, outer_within, closed_in, without_leaf, outer_of, MakesRoom, between}
use Rattle.markdown_plain.proofs.Names.{has_paragraph, source_of, are_none, Before, blocks_in, reached_of}
use Rattle.markdown_plain.proofs.Names.{blocks_before, IsLooseBefore, placed_end, AreOpen, with_last, AreOpenedBefore}
use Rattle.markdown_plain.proofs.Names.{paragraph_before, IfParagraphLast, IsUntabled, Line, MayOpen, with_frame}
use Rattle.markdown_plain.proofs.Names.{OpenBlock}
use Rattle.markdown_plain.specs.Beginning.{IsInside, NeedsRoom, ReadsOn, begun_in_rest}
use Rattle.markdown_plain.specs.OpenBlocks.{room_in, without_list}
use Rattle.markdown_plain.specs.PassSteps.{IsRoomIn, OpensItem, opened as opened_here}
use Rattle.markdown_lines.specs.declared.block_start.ItemStart.{ItemStart}
use Rattle.markdown_plain.specs.OpenedFrames.{is_list_for, with_item}
use Rattle.markdown_plain.specs.Closable.{MayOpenItem, MayOpenItemAfter, by_closing, in_room}
use Rattle.markdown_plain.proofs.ClosedFramesLemmas.{exact_depth}
use Rattle.markdown_plain.proofs.HeldLinesLemmas.{makes_no_table, remembered_kind, has_held}
use Rattle.markdown_plain.proofs.BegunLemmas.{BeginsBlock, begins_alone, block_needed, is_no_text, IsLeftOf, item_begun}
use Rattle.markdown_plain.proofs.BegunLemmas.{begun_once, block_begun}
use Rattle.markdown_plain.proofs.OpenListsLemmas.{lists_touched, same_touched}
use Rattle.markdown_plain.proofs.ClosableLemmas.{no_paragraph, white_both}
use Rattle.markdown_plain.proofs.FoundBlocksLemmas.{found_begins, begun_block, source_kept}
use Rattle.markdown_plain.proofs.FramesLemmas.{goes_on_last, outer_nested, inner_goes_lazily, all_within, list_no_item}
use Rattle.markdown_plain.proofs.FramesLemmas.{on_reached, outer_taken, reached_parts, innermost_apart, marker_of_list}
use Rattle.markdown_plain.proofs.FramesLemmas.{block_begins, inner_left, item_begins, list_ends, list_of_open}
use Rattle.markdown_plain.proofs.FramesLemmas.{reached_next, none_within, as_many_open}
use Rattle.markdown_plain.proofs.LeafTreesLemmas.{by_test, on_test, outer_of_these}
use Rattle.markdown_plain.proofs.OpenedFramesLemmas.{line_keeps, room_is_free, built_touched, earlier_touched}
use Rattle.markdown_plain.proofs.OpenedFramesLemmas.{quotes_touched, earlier_taken, not_opened, item_placed}
use Rattle.markdown_plain.proofs.OpenedFramesLemmas.{list_for_item, earlier_outer, open_within}
use Rattle.markdown_plain.proofs.ReachedFramesLemmas.{open_are_containers}
use Rattle.markdown_plain.proofs.ReadyLinesLemmas.{no_frames}
use Rattle.markdown_plain.proofs.ClosingDownLemmas.{HasOpen, room_here, begins_in_room, last_open}
use Rattle.markdown_plain.proofs.OpenTablesLemmas.{room_inside}
use Rattle.markdown_plain.proofs.BegunLeavesLemmas.{IsReadyIn, nothing_taken, ready_first, ready_later}
use Rattle.markdown_plain.proofs.BegunContainersLemmas.{content_before, own_left, place_left, rest_begun, AreInLine}
use Rattle.markdown_plain.proofs.BegunContainersLemmas.{container_inside, in_line_more, rest_inside_of}
use Rattle.markdown_plain.proofs.FoundPlacesLemmas.{left_content}
use Rattle.markdown_plain.proofs.ReadyTextsLemmas.{line_white}
use Rattle.markdown_plain.proofs.TextReachedLemmas.{by_list}
use Rattle.markdown_lines.specs.BlockBeginnings as beginning
use Rattle.markdown_lines.specs.declared.block_start.Before.TheVariants as paragraph
use Rattle.markdown_block_rules.specs.BlockGrowth as was
use Rattle.markdown_plain.specs.Beginning as turn
use Rattle.markdown_lines.specs.declared.block_start.BlockStart.TheVariants as start
use Rattle.markdown_plain.specs.OpenBlocks as own

-- ---- a line that goes on with no paragraph

-- a paragraph does not go on with a block
no_paragraph_with : (s : Source) (l : SourceLine) (lines : List SourceLine) (b : Beginning) → BeginsBlock b
    → paragraph_with s l lines b ≡ None
no_paragraph_with s l lines beginning.begins_text block = absurd block
no_paragraph_with s l lines (beginning.begins_underline level) block = absurd block
no_paragraph_with s l lines other block = refl

-- none of the blocks that a line does not reach goes on in it, if a block begins and they do not go on where no
-- paragraph is held back
none_goes_on : (s : Source) (pass : Pass) (frames : List Frame) (inside : Forest Block) (last : Option Block)
    (r : Reached) (begun : Beginning) (from : ℕ) → IfParagraphLast s (IsUntabled s pass from r) last
    → HoldsLast s pass frames inside last → is_blank_rest r.rest ≡ false
    → begins s (paragraph_before pass (are_none r.inner)) r.rest ≡ begun → BeginsBlock begun
    → (has_paragraph pass ≡ false → goes_on s (rebuilt r.inner (with_last inside last)) r.rest ≡ None)
    → ((f : Frame) (others : List Frame) → r.inner ≡ f ∷ others
    → goes_on s (rebuilt r.inner (with_last inside last)) r.rest
    ≡ lazily s r.rest (rebuilt r.inner (with_last inside last)))
    → goes_on s (rebuilt r.inner (with_last inside last)) r.rest ≡ None
unfolding goes_on
none_goes_on s pass frames inside None r begun from untabled holds filled is block over lazy =
    over (no_paragraph pass holds.1)
none_goes_on s pass frames inside (Some b) r begun from untabled (None, may, empty) filled is block over lazy =
    over (no_paragraph pass empty)
none_goes_on s pass frames inside (Some b) r begun from untabled (Some sources, may, other) filled is block over lazy =
    let none = makes_no_table s pass from r sources
    (remembered_kind s (IsUntabled s pass from r) b.kind sources may.unended.kind untabled) in
    let here = rw (has_held s pass frames inside b sources may.unended) at is in
    by_list r.inner (λ all.
    let reached = rw all at here in let stops = no_paragraph_with s r.rest sources begun block in
    rw all (goes_on_last s inside b nil r.rest
    ∙ rw (may.unended.kind, none (rw all refl) b, filled, reached, stops) refl)) (λ f others some.
    let lazily = rw some at here in
    lazy f others some ∙ rw (lazily, is_no_text begun block, and-false (not (is_blank_rest r.rest))) refl)

-- a block that is no item is not the next one of a list
no_item : (s : Source) (l : SourceLine) (marker : ListMarker) (b : Beginning) → NeedsRoom b
    → another_item s l marker b ≡ None
no_item s l marker (beginning.begins_item found indent rest) needs = absurd needs
no_item s l marker other needs = refl

-- ---- a line directly under the root

-- what is left of a line inside a container that is no list is under that, also where that may end before the line
under_going_on : {P : Type 0} (l rest : SourceLine) (ends : Bool) (o : Option LineLeft)
    → (if ends then None else option_map (λ left. rest_inside left l) o) ≡ Some rest → rest.outermost ≡ true → P
under_going_on l rest false (Some left) takes outermost =
    absurd (true≢false (sym outermost ∙ rw (← same_Some (rest_inside left l) rest takes) refl))
under_going_on l rest ends o takes outermost = absurd (none-some rest takes)

under_container : (s : Source) (empty : Bool) (l rest : SourceLine) (kind : Kind) → IsContainer kind
    → inside_container s l empty kind ≡ Some rest → rest.outermost ≡ true → (l.outermost ≡ true) × (is_list kind ≡ true)
under_container s empty l rest was.quote_container is takes = under_going_on l rest false _ takes
under_container s empty l rest (was.alert_container kind) is takes = under_going_on l rest false _ takes
under_container s empty l rest (was.footnote_container label) is takes = under_going_on l rest _ _ takes
under_container s empty l rest (was.item_container indent) is takes = under_going_on l rest _ _ takes
under_container s empty l rest (was.list_container marker) is takes =
    λ outermost. (rw (same_Some l rest takes) outermost, refl)
under_container s empty l rest other is takes = absurd is

-- if what is left of a line is directly under the root, the line was, and reached lists alone
lists_reached : (s : Source) (frames : List Frame) (inside : Forest Block) (l : SourceLine) → AreContainers frames
    → (reached s frames inside l).rest.outermost ≡ true → (l.outermost ≡ true)
    × (list_all (λ (f : Frame). is_list f.block.kind) (reached s frames inside l).outer ≡ true)
unfolding reached
lists_reached s [] inside l are = λ outermost. (outermost, refl)
lists_reached s (f ∷ outer) inside l are =
    let others = lists_reached s outer (forgotten f inside) l are.1 in
    on_reached (λ r. r.rest.outermost ≡ true → (l.outermost ≡ true)
    × (list_all (λ (g : Frame). is_list g.block.kind) r.outer ≡ true)) s f outer inside l (λ rest all takes outermost.
    let is = under_container s (is_nil inside) _ rest f.block.kind are.0 takes outermost in
    let both = others is.0 in (both.0, rw (is.1, both.1) refl)) (λ all takes. others) (λ g inner some. others)

-- there is one list at most, which is closed
room_at_root : (outer frames : List Frame) → list_all (λ (f : Frame). is_list f.block.kind) outer ≡ true
    → AreNested outer → outer_within (length outer) frames ≡ outer → room_depth (length outer) frames ≡ 0
room_at_root [] frames lists nested taken = rw taken refl
room_at_root (f ∷ []) frames lists nested taken = rw (taken, (and_parts (is_list f.block.kind) true lists).0) refl
room_at_root (f ∷ g ∷ outer) frames lists nested taken =
    let all = λ (fs : List Frame). list_all (λ (h : Frame). is_list h.block.kind) fs in
    let parts = and_parts (is_list f.block.kind) (all (g ∷ outer)) lists in
    absurd (true≢false (sym (and_parts (is_list g.block.kind) (all outer) parts.1).0
    ∙ (nested.0 ∙ list_no_item f.block.kind parts.0)))

-- where no block is left without the list at the end, that list was alone
last_alone : (blocks others : List OpenBlock) (block : OpenBlock) → blocks ≡ others ++ block ∷ []
    → without_list blocks ≡ [] → (own.innermost_is own.is_list blocks ≡ true) × (others ≡ [])
last_alone blocks others block same =
    let many = length-append others (block ∷ []) in
    on_test (λ (bs : List OpenBlock). bs ≡ [] → (own.innermost_is own.is_list blocks ≡ true) × (others ≡ []))
    (own.innermost_is own.is_list blocks) (outer_of blocks) blocks
    (λ list none. (list, sym (outer_of_these blocks others block same) ∙ none))
    (λ plain none. absurd (omega (arith, many, ap length same, ap length none)))

-- room outside all blocks is outside all containers
room_outside : (texts : List (List ℕ)) (n : ℕ) (blocks : List OpenBlock) (frames : List Frame)
    → AreOpen texts blocks frames → n ≤ length frames → room_in n blocks ≡ []
    → outer_within (room_depth n frames) frames ≡ []
room_outside texts n blocks frames are few none =
    by_frames (outer_within n frames) refl (open_within texts n blocks frames are)
  where
    by_frames : (fs : List Frame) → outer_within n frames ≡ fs → AreOpen texts (take n blocks) fs
        → outer_within (room_depth n frames) frames ≡ []
    by_frames [] is are = rw is is
    by_frames (f ∷ outer) is (block, others, same, opened, around) =
        let alike = list_of_open texts (take n blocks) (f ∷ outer) (block, others, same, opened, around) in
        let alone = last_alone (take n blocks) others block same none in
        let one : length (f ∷ outer) ≡ 1 = omega (arith, as_many_open texts others outer around, ap length alone.1) in
        let number : n ≡ 1 = omega (arith, exact_depth n frames few, ap length is, one) in
        rw (is, sym alike ∙ alone.0, number) (none_within frames).0

-- ---- containers that go on in the line

-- the innermost container is a list as before
free_touched : (l : SourceLine) (frames : List Frame)
    → innermost_is is_list (map (touched l) frames) ≡ innermost_is is_list frames
free_touched l [] = refl
free_touched l (f ∷ outer) = refl

-- containers that were open before the line, and go on in it
line_touched : (to : Line) (l : SourceLine) (frames : List Frame) → l.next ≡ to.next → to.start < to.next
    → AreOpenedBefore to.start frames → AreInLine to (map (touched l) frames)
line_touched to l frames next after earlier =
    let before = earlier_touched l to.start to.start (omega arith) frames earlier in
    let now = earlier_touched l to.start to.next (omega (arith, after)) frames earlier in
    assumption (quotes_touched l to.next next frames, not_opened to (map (touched l) frames) after before, now)

-- where room was made in them, a block may begin
pub may_begin_touched : (s : Source) (old new : Pass) (line : Line) (l : SourceLine) (depth : ℕ) (frames : List Frame)
    (inside : Forest Block) → source_of old ≡ s → MakesRoom old new depth → IsRoomIn s new frames inside
    → l.next ≡ line.next → line.start < line.next → AreOpenedBefore line.start frames
    → MayBegin s new line (map (touched l) frames) inside
may_begin_touched s old new line l depth frames inside source makes there next after earlier =
    let loose : IsLooseBefore new.looseness (map (touched l) frames) inside = record {
      lists = λ m one. there.loose.lists m one ∙ sym (lists_touched l frames (followed_by inside m));
      empty = there.loose.empty;
    } in
    let of = source_kept s old new makes.text (ap (λ (p : Pass). p.syntax) makes.same) source in
    let touches = line_touched line l frames next after earlier in assumption (of, loose, touches)

-- a container that ends with the line is the same, whether or not it goes on in it
touched_more : (l : SourceLine) (frames : List Frame) (inside : Forest Block) (b : Block) → b.last ≡ l.next
    → map (touched l) (with_frame frames inside b) ≡ with_frame (map (touched l) frames) inside b
touched_more l frames inside b ends =
    ap (λ n. with_frame (map (touched l) frames) inside (record b { last = n })) (sym ends)

-- the containers that go on in the line are the same to the pass
may_open_touched : (l : SourceLine) (s : Source) (pass : Pass) (frames : List Frame) → MayOpen s pass frames
    → MayOpen s pass (map (touched l) frames)
may_open_touched l s pass frames may =
    let built = built_touched l s pass.placing.builder frames nil may.built in
    let loose = same_touched l pass.looseness frames nil may.loose in
    let free = free_touched l frames ∙ may.free in assumption (built, loose, free)

-- a line that is not blank has a byte
line_some : {s : Source} {rest : LineRest} {source : SourceLine} → IsLeft s rest source
    → is_blank_rest source ≡ false → rest.line.start < rest.line.next
line_some {source = source} left filled =
    omega (arith, place_left left, content_before source.left filled, left.after, left.is.stop, left.is.ends)

-- ---- after the containers that go on in the line

module _ {s : Source} {old : Pass} {rest : LineRest} {before : Before} {l source : SourceLine} {blocks : Forest Block}
    {b : Beginning} (state : IsFirst s old rest before l source blocks) (is : begins s rest.before source ≡ b)
    (block : BeginsBlock b) where
  -- it begins the same where there is no paragraph
  first_begins : begins s paragraph.NoParagraph source ≡ b
  first_begins = begins_alone s rest.before source b (own_left state.left) is block

  first_open : HasOpen s old before.frames (blocks_in before)
  first_open = last_open s old before.frames before.inside before.last state.holds.unended

  first_containers : AreContainers before.frames
  first_containers =
      open_are_containers first_open.texts (without_leaf old.placing.builder) before.frames first_open.are

  -- there are no more of them than are open
  first_few : length (reached_of s before l).outer ≤ length before.frames
  first_few =
      let r = reached_of s before l in
      omega (arith, ap length (reached_parts s before.frames (blocks_in before) l), length-append r.inner r.outer)

  -- where a block begins outside all containers, nothing of the line was taken
  first_starts : outer_within (room_depth (length (reached_of s before l).outer) before.frames) before.frames ≡ []
      → source.left.scanned ≡ rest.line.start
  first_starts none = ap (λ (m : SourceLine). m.left.scanned)
      (state.reached ∙ nothing_taken s before.frames (blocks_in before) l none)
      ∙ sym (ap (λ (left : LineLeft). left.scanned) state.is.left)

  -- no block goes on in it
  first_stops : goes_on s (rebuilt (reached_of s before l).inner (blocks_in before)) (reached_of s before l).rest ≡ None
  first_stops =
      let r = reached_of s before l in let filled : is_blank_rest r.rest ≡ false = rw state.reached at state.filled in
      let begun : begins s (paragraph_before old (are_none r.inner)) r.rest ≡ b =
      rw (state.paragraph, state.reached) at is in
      none_goes_on s old before.frames before.inside before.last r b rest.line.start state.untabled
      state.holds.unended filled begun block (λ no_paragraph. rw state.reached at (state.over no_paragraph))
      (λ f others same. inner_goes_lazily s before.frames (blocks_in before) l f others first_containers same)

  first_room : (new : Pass) → NeedsRoom b → MakesRoom old new rest.depth → HasRoom s new rest source b blocks
  first_room new needs makes =
      let frames = before.frames in let inside = blocks_in before in let r = reached_of s before l in
      let n = room_depth (length r.outer) frames in let holds = state.holds in let same = state.reached in
      let nested = first_open.nested in let text = ap (λ (r : Source). r.text) holds.source in
      let room : MakesRoom old new (length r.outer) = rw state.depth at makes in
      let there = room.room s frames before.inside before.last (between holds.unended holds.blanks holds.unheld)
      first_few in
      let ready = ready_first s old new.placing.builder rest source text (makes.text ∙ text) holds.ready
      (makes.here holds.ready.closable) state.left state.filled (λ none.
      place_left state.left ∙ first_starts (no_frames new.placing.builder.texts new.placing.builder.blocks
      (outer_within n frames) there.built.blocks none)) in
      let filled : is_blank_rest r.rest ≡ false = rw same at state.filled in
      let own : IsLeftOf s.text r.rest.left = rw same at (own_left state.left) in
      let alone : begins s paragraph.NoParagraph r.rest ≡ b = rw same at first_begins in
      record {
        frames = map (touched l) (outer_within n frames);
        inside = closed_in n frames inside;
        may = may_begin_touched s old new rest.line l (length r.outer) (outer_within n frames)
            (closed_in n frames inside)
            holds.source room there (sym state.is.next) (line_some state.left state.filled)
            (earlier_taken rest.line.start n frames holds.earlier);
        built = built_touched l s new.placing.builder (outer_within n frames) (closed_in n frames inside) there.built;
        ready = ready.ready;
        low = ready.low;
        free = free_touched l (outer_within n frames) ∙ room_is_free (length r.outer) frames first_few nested;
        outermost = λ outermost. ap (λ m. map (touched l) (outer_within m frames)) (room_at_root r.outer frames
            (lists_reached s frames inside l first_containers (rw same at outermost)).1 (outer_nested r.inner r.outer
            (rw reached_parts nested)) (outer_taken s frames inside l)) ∙ ap (map (touched l)) (none_within frames).0;
        left = state.left;
        filled = state.filled;
        is = first_begins;
        whole = state.whole ∙ (begins_in_room s frames inside l first_containers nested first_stops
            (λ marker. item_begun s r.rest marker own filled ∙ rw alone (no_item s r.rest marker b needs))
            ∙ rw (filled, same) refl);
        items = rw state.whole (line_keeps s (rebuilt frames inside) l first_open.items);
      }

  -- an item may be opened there
  first_may_open : (at : ℕ) → at ≡ content_of source → MayOpenItemAfter old rest.depth at
  first_may_open at place =
      let text : old.placing.builder.text ≡ s.text = ap (λ (r : Source). r.text) state.holds.source in
      let ready = state.holds.ready in let content = left_content s rest source at state.left state.filled place in
      record {
        closable = ready.closable;
        low = omega (arith, ready.low, state.left.after, place_left state.left, place);
        boundary = rw text content.boundary;
        white = λ none.
            let begins = first_starts (room_outside first_open.texts _ (without_leaf old.placing.builder) before.frames
            first_open.are first_few (rw state.depth at none)) in
            white_both old.placing.builder.text old.placed rest.line.start at ready.white
            (rw text (line_white s.text rest.line source at content state.left.from state.left.utf8 begins));
      }

-- ---- inside containers that it opened

-- a block may begin there
later_ready : {s : Source} {pass : Pass} {rest : LineRest} {frames : List Frame} {source : SourceLine}
    {blocks : Forest Block} → IsInside s pass rest frames source blocks → is_blank_rest source ≡ false
    → IsReadyIn pass.placing.builder rest source
later_ready {s} {pass} {rest} {frames} {source} state filled =
    let view = pass.placing.builder in let opened = state.opened in
    ready_later s view rest source opened.free.built.text (λ none.
    let alone = no_frames view.texts view.blocks frames opened.free.built.blocks none in
    let at : 0 ≡ rest.line.next = ap (λ (fs : List Frame). placed_end fs nil) (sym alone) ∙ opened.first in
    absurd (omega (arith, at, line_some state.left filled))) state.ahead state.left filled

pub later_room : (s : Source) (old new : Pass) (rest : LineRest) (frames : List Frame) (source : SourceLine)
    (b : Beginning) (blocks : Forest Block) → IsInside s old rest frames source blocks → is_blank_rest source ≡ false
    → begins s rest.before source ≡ b → MakesRoom old new rest.depth → HasRoom s new rest source b blocks
later_room s old new rest frames source b blocks state filled is makes =
    let opened = state.opened in let there = room_here s old new rest.depth frames makes opened.free state.depth in
    let same = makes.kept (room_inside s old frames rest.depth opened.free state.depth) in
    let is_now : new.placing.builder ≡ old.placing.builder = ap (λ (p : Pass). p.placing.builder) same in
    let ready : IsReadyIn new.placing.builder rest source = rw is_now (later_ready state filled) in
    record {
      frames = frames;
      inside = nil;
      may = assumption (source_kept s old new makes.text (ap (λ (p : Pass). p.syntax) makes.same) opened.source);
      built = there.built;
      ready = ready.ready;
      low = ready.low;
      free = opened.free.free;
      outermost = λ outermost. absurd (true≢false (sym outermost ∙ state.inner));
      left = state.left;
      filled = filled;
      is = rw state.before at is;
      whole = state.whole ∙ rw filled refl;
      items = state.items;
    }

-- ---- in either case

-- there is room for the block that was found
pub room_for : (s : Source) (old new : Pass) (rest : LineRest) (turn : Turn) (source : SourceLine) (at : ℕ)
    (start : BlockStart) (b : Beginning) (blocks : Forest Block) → MakesRoom old new rest.depth
    → IsHere s old rest turn source blocks → IsFound s rest source at start → beginning_found rest.reader start ≡ Some b
    → NeedsRoom b → HasRoom s new rest source b blocks
room_for s old new rest (turn.first before l) source at start b blocks makes state found begins needs =
    first_room state (found_begins s rest source at start b found begins).1 (block_needed b needs) new needs makes
room_for s old new rest (turn.later frames) source at start b blocks makes state found begins needs =
    let begun = found_begins s rest source at start b found begins in
    later_room s old new rest frames source b blocks state begun.0 begun.1 makes

-- in either case, an item may be opened where it was found
pub may_open_item : (s : Source) (old : Pass) (rest : LineRest) (turn : Turn) (source : SourceLine)
    (blocks : Forest Block) (item : ItemStart) (at : ℕ) → IsHere s old rest turn source blocks
    → IsFound s rest source at (start.Item item) → MayOpenItem old rest.depth at
may_open_item s old rest (turn.first before l) source blocks item at state found =
    by_closing (first_may_open state (found_begins s rest source at (start.Item item) _ found refl).1 tt at
    found.begins)
may_open_item s old rest (turn.later frames) source blocks item at state found =
    in_room (room_inside s old frames rest.depth state.opened.free state.depth)
    (rw found.begins (later_ready state (found_begins s rest source at (start.Item item) _ found refl).0).ready)

-- ---- the rest of the line is read inside an item that begins with it

-- an item and a list that begin with the rest of a line, as blocks, and the item with what is in it
abbrev item_block : SourceLine → ItemStart → Block
item_block l item = begun_block l (was.item_container item.indent)

abbrev list_block : SourceLine → ItemStart → Block
list_block l item = begun_block l (was.list_container item.marker)

abbrev item_made : Source → LineRest → SourceLine → ItemStart → Forest Block
item_made s rest l item =
    node (item_block l item) (begun_in_rest s (rest_inside (left_at rest.reader item.inside) l)) nil

-- an item, as what begins
abbrev begun_item : LineRest → ItemStart → Beginning
begun_item rest item = beginning.begins_item item.marker item.indent (left_at rest.reader item.inside)

-- an item in no list begins one
item_in_new_list : (marker : ListMarker) (list item : Block) (frames : List Frame) → innermost_is is_list frames ≡ false
    → with_item marker list item frames nil ≡ with_frame (with_frame frames nil list) nil item
item_in_new_list marker list item frames free = by_test (innermost_is (is_list_for marker) frames)
    (λ goes. absurd (true≢false (sym (list_for_item marker frames goes) ∙ free))) (λ goes.
    let all = all_within frames (length frames) (omega arith) in rw (goes, all.0, free, all.0, all.1 nil) refl)

module _ {s : Source} {rest : LineRest} {source : SourceLine} {item : ItemStart} {at : ℕ} (left : IsLeft s rest source)
    (found : IsFound s rest source at (start.Item item)) where
  item_filled : is_blank_rest source ≡ false
  item_filled = (found_begins s rest source at (start.Item item) (begun_item rest item) found refl).0

  item_begins_it : begins s rest.before source ≡ begun_item rest item
  item_begins_it = (found_begins s rest source at (start.Item item) (begun_item rest item) found refl).1

  item_alone : begins s paragraph.NoParagraph source ≡ begun_item rest item
  item_alone = begins_alone s rest.before source (begun_item rest item) (own_left left) item_begins_it tt

module _ {s : Source} {old now : Pass} {rest next : LineRest} {source : SourceLine} {blocks : Forest Block}
    {item : ItemStart} {at : ℕ} (left : IsLeft s rest source) (found : IsFound s rest source at (start.Item item))
    (boundary : IsCharBoundary s.text item.inside.at) (goes : next ≡ rest_inside_of now rest item.inside)
    (opens : OpensItem old now item at rest.depth) (of : source_of old ≡ s) (items : AreItemsInLists false blocks) where
  -- it is inside some containers
  item_inside : (outer : List Frame) (inner : Forest Block) → AreInLine rest.line outer
      → blocks ≡ rebuilt outer (followed_by inner (item_made s rest source item))
      → MayOpen s now (with_frame outer inner (item_block source item)) → ReadsOn s now rest next blocks
  item_inside outer inner are whole may =
      let is = rest_begun left (item_alone left found) in
      container_inside s now rest next outer inner source blocks item.inside (was.item_container item.indent) left
      (item_filled left found) goes is boundary (omega (arith, is.past, opens.here, found.begins))
      (source_kept s old now opens.text (ap (λ (p : Pass). p.syntax) opens.same) of) may are whole items

  -- or inside a list that it begins in them
  list_inside : (outer : List Frame) (inner : Forest Block) → AreInLine rest.line outer
      → blocks ≡ rebuilt outer (followed_by inner (node (list_block source item) (item_made s rest source item) nil))
      → MayOpen s now (with_frame (with_frame outer inner (list_block source item)) nil (item_block source item))
      → ReadsOn s now rest next blocks
  list_inside outer inner are whole =
      item_inside (with_frame outer inner (list_block source item)) nil
      (in_line_more (was.list_container item.marker) outer inner left (item_filled left found) are) whole

-- after the containers that go on in the line
module _ {s : Source} {old now : Pass} {rest next : LineRest} {source : SourceLine} {blocks : Forest Block}
    {item : ItemStart} {at : ℕ} {before : Before} {l : SourceLine}
    (state : IsFirst s old rest before l source blocks) (found : IsFound s rest source at (start.Item item))
    (boundary : IsCharBoundary s.text item.inside.at) (goes : next ≡ rest_inside_of now rest item.inside)
    (opens : OpensItem old now item at rest.depth) where
  same_end : source.next ≡ l.next
  same_end = rw state.reached (reached_next s before.frames (blocks_in before) l)

  items_kept : AreItemsInLists false blocks
  items_kept = rw state.whole (line_keeps s (blocks_before before) l
      (first_open state (item_begins_it state.left found) tt).items)

  -- the line as an item of a list
  next_there : (marker : ListMarker) → next_item s (reached_of s before l).rest marker
      ≡ (if item.marker.character == marker.character then Some (item_made s rest source item) else None)
  next_there marker = ap (λ m. next_item s m marker) (sym state.reached)
      ∙ (item_begun s source marker (own_left state.left) (item_filled state.left found)
      ∙ ap (another_item s source marker) (item_alone state.left found))

  -- some of the containers go on in the line
  in_line : (more some : List Frame) → more ++ some ≡ before.frames → AreInLine rest.line (map (touched l) some)
  in_line more some parts = line_touched rest.line l some (sym state.is.next)
      (line_some state.left (item_filled state.left found))
      (earlier_outer rest.line.start more some (rw parts state.holds.earlier))

  -- the item begins a list after these blocks
  in_new_list : (more some : List Frame) (inner : Forest Block) → more ++ some ≡ before.frames
      → with_line s (blocks_before before) l
      ≡ rebuilt (map (touched l) some) (followed_by inner (line_block s (reached_of s before l).rest))
      → MayOpen s now (with_frame (with_frame some inner (list_block source item)) nil (item_block source item))
      → ReadsOn s now rest next blocks
  in_new_list more some inner parts makes may =
      let list = list_block source item in let b = item_block source item in
      let both = touched_more l (with_frame some inner list) nil b same_end
      ∙ ap (λ fs. with_frame fs nil b) (touched_more l some inner list same_end) in
      let there = ap (line_block s) (sym state.reached) ∙ (block_begun s source (item_filled state.left found)
      ∙ ap (new_blocks (inside_of (begun_by s) source) source) (item_alone state.left found)) in
      list_inside state.left found boundary goes opens state.holds.source items_kept (map (touched l) some) inner
      (in_line more some parts)
      (state.whole ∙ (makes ∙ ap (λ made. rebuilt (map (touched l) some) (followed_by inner made)) there))
      (rw both at (may_open_touched l s now _ may))

  item_first : ReadsOn s now rest next blocks
  item_first =
      let frames = before.frames in let inside = blocks_in before in let holds = state.holds in
      let begins_it = item_begins_it state.left found in let are = first_containers state begins_it tt in
      let nested = (first_open state begins_it tt).nested in let none = first_stops state begins_it tt in
      let outer = (reached_of s before l).outer in let inner = (reached_of s before l).inner in
      let below = rebuilt inner inside in let list = list_block source item in let b = item_block source item in
      let parts = reached_parts s frames inside l in
      let may = opens.opens s frames before.inside before.last list b
      (between holds.unended holds.blanks holds.unheld) (sym found.begins) refl (sym found.begins) refl in
      item_placed (λ fs. MayOpen s now fs → ReadsOn s now rest next blocks) item.marker list b outer below
      (λ goes_on may.
      let last = innermost_apart is_list outer (list_for_item item.marker outer goes_on) in
      let marked = marker_of_list last.last.block.kind last.passes in
      let passes : is_list_for item.marker last.last.block.kind ≡ true =
      ap (innermost_is (is_list_for item.marker)) (sym last.are) ∙ goes_on in
      let same = rw marked.is at passes in
      item_inside state.left found boundary goes opens holds.source items_kept (map (touched l) outer) below
      (in_line inner outer parts)
      (state.whole ∙ (item_begins s frames inside l are nested last.outer last.last marked.marker last.are marked.is
      none (item_made s rest source item) (next_there marked.marker ∙ rw same refl)
      ∙ ap (λ fs. rebuilt (map (touched l) fs) (followed_by below (item_made s rest source item))) (sym last.are)))
      (rw (touched_more l outer below b same_end) at (may_open_touched l s now _ may)))
      (λ plain. in_new_list inner outer below parts (block_begins s frames inside l are nested none plain))
      (λ f others ends listed other.
      let marked = marker_of_list f.block.kind listed in let changes = rw marked.is at other in
      in_new_list (inner ++ f ∷ []) others (forgotten f below)
      (append_assoc inner (f ∷ []) others ∙ (ap (λ fs. inner ++ fs) (sym ends) ∙ parts))
      (list_ends s frames inside l are nested others f marked.marker ends marked.is none
      (next_there marked.marker ∙ rw changes refl)))
      (rw (state.depth, outer_taken s frames inside l, inner_left s frames inside l) at may)

-- in either case
pub item_reads_on : (s : Source) (old now : Pass) (rest next : LineRest) (turn : Turn) (source : SourceLine)
    (blocks : Forest Block) (item : ItemStart) (at : ℕ) → IsHere s old rest turn source blocks
    → IsFound s rest source at (start.Item item) → IsCharBoundary s.text item.inside.at
    → next ≡ rest_inside_of now rest item.inside → OpensItem old now item at rest.depth → ReadsOn s now rest next blocks
item_reads_on s old now rest next (turn.first before l) source blocks item at state found boundary goes opens =
    item_first state found boundary goes opens
item_reads_on s old now rest next (turn.later frames) source blocks item at state found boundary goes opens =
    let opened = state.opened in let list = list_block source item in let b = item_block source item in
    let all = all_within frames (length frames) (omega arith) in
    let one = item_in_new_list item.marker list b frames opened.free.free in
    let may = opens.opens s frames nil None list b (opened_here opened.free refl state.depth) (sym found.begins) refl
    (sym found.begins) refl in
    list_inside state.left found boundary goes opens opened.source state.items frames nil
    (record { quotes = opened.quotes; items = opened.items; earlier = opened.earlier })
    (state.whole ∙ rw (item_filled state.left found) (ap (rebuilt frames) (begun_once s source
    ∙ ap (new_blocks (inside_of (begun_by s) source) source) (item_alone state.left found))))
    (rw (state.depth, all.0, all.1 nil, one) at may)
