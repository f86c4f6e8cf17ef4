-- Lines of text, and the turns at the rest of a line: what the pass has placed once text is added, whether a
-- paragraph was open or not, at the first turn and at later ones.
use Rattle.markdown_plain.proofs.Names.{list_all, nat_tests, Forest, followed_by, Line, Source, begins}
use Rattle.markdown_plain.proofs.Names.{SourceLine, is_blank_rest, Block, another_item, begun_by, inside_of}
use Rattle.markdown_plain.proofs.Names.{new_blocks, with_line, paragraph_with, content_of}
use Rattle.markdown_plain.proofs.Names.{is_blank_block, reads_tables, Pass, IsFirst, IsFound, IsHere}
use Rattle.markdown_plain.proofs.Names.{Turn, first, later, IsLeft, MayBegin, AreClosable, IsReadyAfter, IsInText}
use Rattle.markdown_plain.proofs.Names.{AreItemsInLists, MayEnd, Frame, reached, rebuilt, room_depth, touched, Reached}
use Rattle.markdown_plain.proofs.Names.{is_list, outer_within, closed_in, BeginsText, HoldsParagraph, leaf_block}
use Rattle.markdown_plain.proofs.Names.{source_of, task_at, has_paragraph, IsBuilt, AreOpen, IsSource, PlacesFor}
use Rattle.markdown_plain.proofs.Names.{Stands, with_last, IsUntabled, next_line, IfParagraphLast, IsContentAt}
use Rattle.markdown_plain.proofs.Names.{held_line, paragraph_before, IsTextFrom, without_leaf, between, MakesRoom}
use Rattle.markdown_plain.proofs.Names.{are_none, LineLeft, LineRest, AreInParagraph, IsRest, Before, blocks_in}
use Rattle.markdown_plain.proofs.Names.{reached_of, IsReachedBy, LeavesOff, blocks_before, left_from, any_metadata}
use Rattle.markdown_plain.proofs.Names.{OpenBlock, IsLineFrom, AllPass, is_in_blank_line, Position, MayStep}
use Rattle.std.proofs.lemmas.List.Folds.{list_all-append}
use Rattle.std.proofs.Common.{◌≡◌, ℕ, ◌≤◌, true, false, List, [], ◌∷◌, ◌++◌, Some, None, arith, length, map, take, refl}
use Rattle.std.proofs.Common.{sym, ap, ◌∙◌, subst, true≢false, Bool, Option, ◌+◌, ◌&&◌, ◌==◌}
use Rattle.std.specs.Prelude.{if◌then◌else◌}
use Rattle.std.proofs.lemmas.List.{length-append, take-append-le}
use Rattle.std.specs.Str.{IsUtf8}
use Rattle.markdown_plain.specs.Beginning.{Holds, HoldsNone, HasBegun, MayRead, Reads, turn_place, IsMadeOf}
use Rattle.markdown_plain.specs.TextLines.{with_text, IsTextHere}
use Rattle.markdown_plain.specs.PassSteps.{AddsText}
use Rattle.markdown_lines.specs.declared.block_start.Before.TheVariants as paragraph
use Rattle.markdown_lines.specs.BlockBeginnings as beginning
use Rattle.markdown_block_rules.specs.BlockGrowth as was
use Rattle.markdown_lines.specs.declared.block_start.BlockStart.TheVariants as start
use Rattle.markdown_plain.specs.declared.containers.Reached as code
use Rattle.markdown_plain.specs.OpenBlocks as by_body
use Rattle.markdown_plain.proofs.HeldLinesLemmas.{line_added, paragraph_begun, held_before, makes_no_table}
use Rattle.markdown_plain.proofs.HeldLinesLemmas.{more_remembered, next_comes, next_of, has_held, remembered_kind}
use Rattle.markdown_plain.proofs.HeldLinesLemmas.{holds_all_tried, made_untried, source_tried}
use Rattle.markdown_plain.proofs.TextReachedLemmas.{GoesAs, loose_as_leaf, paragraph_line, continues, reaches}
use Rattle.markdown_plain.proofs.TextReachedLemmas.{open_parts, nothing_left, reached_within, whole_within}
use Rattle.markdown_plain.proofs.BegunLemmas.{IsLeftOf, block_begun, item_begun}
use Rattle.markdown_plain.proofs.OpenListsLemmas.{same_touched, ends_more}
use Rattle.markdown_plain.proofs.FoundBlocksLemmas.{begins_block, comes_after, ends_after, source_kept, found_begins}
use Rattle.markdown_plain.proofs.FoundBlocksLemmas.{here_left, here_text, begun_in_room}
use Rattle.markdown_plain.proofs.OpenedFramesLemmas.{line_keeps, earlier_taken, earlier_touched, holds_touched}
use Rattle.markdown_plain.proofs.OpenedFramesLemmas.{quotes_touched, built_touched, open_within}
use Rattle.markdown_plain.proofs.ReachedFramesLemmas.{open_are_containers}
use Rattle.markdown_plain.proofs.ReadyLinesLemmas.{no_frames, are_bodies, ending_white}
use Rattle.markdown_plain.proofs.ReadyTextsLemmas.{BeginsReady, begun_ready, further_ready, none_left, first_ready}
use Rattle.markdown_plain.proofs.ReadyTextsLemmas.{line_in_text}
use Rattle.markdown_plain.proofs.FramesLemmas.{reached_indent, reached_parts, outer_taken, list_alike}
use Rattle.markdown_plain.proofs.ClosingDownLemmas.{begins_in_room, holds_last, last_open}
use Rattle.markdown_plain.proofs.BegunLeavesLemmas.{nothing_taken, text_begins, text_inside}
use Rattle.markdown_plain.proofs.ClosableLemmas.{no_paragraph}
use Rattle.markdown_plain.proofs.FramesLemmas.{as_many_open, lists_leave}
use Rattle.markdown_plain.proofs.FoundPlacesLemmas.{left_content, left_stands}
use Rattle.markdown_plain.proofs.BegunItemsLemmas.{later_room, may_begin_touched}
use Rattle.markdown_plain.proofs.BegunContainersLemmas.{place_left, turn_near}

-- ---- a line more

-- a line was added to the lines that are held back
pub record AddsLine (old new : Pass) (line : Line) (start : ℕ) : Type 0 where
  pub same : new ≡ record old { lines = new.lines }
  pub lines : new.lines.items ≡ old.lines.items ++ held_line line start ∷ []

-- the paragraph that is the last block has one more
pub text_added : (s : Source) (old new : Pass) (line : Line) (start : ℕ) (frames : List Frame) (inside : Forest Block)
    (b : Block) (sources : List SourceLine) (source : SourceLine) → (reads_tables s ≡ true
    → IsUntabled s old line.start (reached s frames (followed_by inside (leaf_block b)) source) sources)
    → Holds s old frames inside (Some b) line.start → MayEnd s old frames inside b (Some sources)
    → IsSource old line source → AddsLine old new line start → IsContentAt old.placing.builder.text line
    (reached s frames (followed_by inside (leaf_block b)) source).rest start
    → GoesAs s (reached s frames (followed_by inside (leaf_block b)) source) sources
    → PlacesFor s new line.next (with_line s (rebuilt frames (followed_by inside (leaf_block b))) source)
text_added s old new line start frames inside b sources source untabled stands may is adds at goes =
    let text = old.placing.builder.text in let blocks = followed_by inside (leaf_block b) in
    let r = reached s frames blocks source in let next = next_line s r in let lines = sources ++ next ∷ [] in
    let holds = may.unended in let grown = with_text r.rest next b sources in
    let low : line.start ≤ line.next = omega (arith, ends_after text line r.rest start at is.from) in
    let loose = loose_as_leaf old.looseness frames inside b grown (ap is_blank_block holds.kind) refl stands.loose in
    let containers = open_are_containers old.placing.builder.texts old.placing.builder.blocks frames
    holds.built.blocks in
    let added : HoldsParagraph s new frames inside grown lines =
    subst (λ n. HoldsParagraph s new frames inside (record b { last = n; kind = was.paragraph_leaf lines }) lines)
    (next_of s r) (line_added s old new frames inside b sources (held_line line start) next adds.same adds.lines holds
    (next_comes s r text old.lines.items (held_line line start)
    (comes_after text line r.rest start at is.from old.lines.items stands.before))) in
    let whole = paragraph_line s frames inside b sources source (makes_no_table s old line.start r sources untabled)
    containers holds.built.nested may.items holds.kind at.filled goes in
    record {
      frames = map (touched source) frames;
      inside = inside;
      last = Some grown;
      places = record {
        source = ap source_of adds.same ∙ stands.source;
        unended = (Some lines, holds_touched source s new frames inside grown lines added, tt);
        quotes = quotes_touched source line.next (sym is.next) frames;
        items = subst (AreItemsInLists false) whole (line_keeps s (rebuilt frames blocks) source may.items);
        loose = same_touched source new.looseness frames (followed_by inside (leaf_block grown))
            (rw (ap (λ (p : Pass). p.looseness) adds.same) loose);
        filled = ends_more false inside (leaf_block grown);
        before = let end = added.last in omega (arith, end, at.next);
        unheld = rw adds.same stands.unheld;
        earlier = earlier_touched source line.start line.next low frames stands.earlier;
        alone = λ metadata. absurd (true≢false (sym metadata));
        remembers = λ reads. more_remembered s old new line start frames blocks source sources adds.same adds.lines
            holds.some (held_before s old line frames inside b sources source stands may is)
            (reached_indent s frames blocks source ∙ is.indent) reads (untabled reads);
        ready = further_ready old new line start r.rest source adds.same adds.lines holds.built.outside holds.some
            stands.ready is at (λ none. none_left s frames blocks source
            (no_frames old.placing.builder.texts old.placing.builder.blocks frames holds.built.blocks none))
            added.lines.inside;
      };
      whole = whole;
    }

-- ---- a paragraph that begins

-- a line is held back as the first one of a paragraph that begins where there is room for it
pub text_begun : {s : Source} {mid new : Pass} {line : Line} {start : ℕ} {frames : List Frame} {inside : Forest Block}
    {blocks : Forest Block} {b : Block} {l : SourceLine} → MayBegin s mid line frames inside
    → IsBuilt s mid.placing.builder frames inside
    → new ≡ record mid { lines = new.lines; task = new.task; tried = false }
    → new.lines.items ≡ held_line line start ∷ [] → new.task ≡ task_at new line start
    → BeginsText s.text (held_line line start) l b → blocks ≡ rebuilt frames (followed_by inside (leaf_block b))
    → AreItemsInLists false blocks → IsReadyAfter new line.next → PlacesFor s new line.next blocks
text_begun {s} {mid} {new} {line} {start} {frames} {inside} {blocks} {b} {l} may built same lines task begins whole
    items ready =
    let of : source_of new ≡ s = source_kept s mid new (ap (λ (p : Pass). p.placing.builder.text) same)
    (ap (λ (p : Pass). p.syntax) same) may.source in
    let holds = paragraph_begun s new frames inside b line (held_line line start) l refl refl lines task
    (rw (ap (λ (p : Pass). p.placing) same) built) (sym (ap (λ (r : Source). r.syntax) of))
    (rw (ap (λ (r : Source). r.text) of) begins) may.items in
    text_inside s new line start frames inside blocks b l begins.kind of holds may.quotes may.earlier
    (rw (ap (λ (p : Pass). p.looseness) same) may.loose) (ap (λ (p : Pass). p.blanks.items) same ∙ may.blanks) lines
    whole items (ap (λ (p : Pass). p.tried) same) ready

-- it may be placed in containers that the line opened, or where it is ahead of what was placed
pub text_ready : {s : Source} (new : Pass) {line : Line} {start : ℕ} {frames : List Frame} {inside : Forest Block}
    → IsBuilt s new.placing.builder frames inside → new.lines.items ≡ held_line line start ∷ []
    → new.task ≡ task_at new line start → AreInParagraph s.text (held_line line start ∷ [])
    → IsInText s.text (held_line line start) → IsLineFrom s.text line.start line
    → new.placing.builder.at ≤ start → (new.placing.builder.blocks ≡ []
    → AllPass is_in_blank_line s.text new.placing.builder.at start) → IsReadyAfter new line.next
text_ready {s} new {line} {start} {frames} {inside} built lines task held is from low white =
    first_ready new line start (record {
      outside = built.outside;
      containers = are_bodies new.placing.builder.texts new.placing.builder.blocks frames built.blocks;
      lines = lines;
      task = task;
      inside = rw built.text held;
      next = record {
        low = low;
        is = rw built.text is;
        white = λ none. rw built.text (white none, ending_white s.text line.start line from);
      };
    })

-- ---- what the pass stands for before the line

-- whether or not the last block goes on in the line
pub stands_holds : (s : Source) (pass : Pass) (frames : List Frame) (inside : Forest Block) (last : Option Block)
    (from : ℕ) → Stands s pass frames inside last from → Holds s pass frames inside last from
stands_holds s pass frames inside last from stands = assumption (holds_last s pass frames inside last stands.unended)

-- ---- the line

-- how the line goes on with a paragraph, by what it reaches
goes_as : (s : Source) (pass : Pass) (r : Reached) (lines : List SourceLine) → has_paragraph pass ≡ true
    → begins s (paragraph_before pass (are_none r.inner)) r.rest ≡ beginning.begins_text → GoesAs s r lines
goes_as s pass r lines some text = by_inner r.inner refl (rw some at text)
  where
    by_inner : (inner : List Frame) → r.inner ≡ inner
        → begins s (if are_none r.inner then paragraph.Reached else paragraph.Lazy) r.rest ≡ beginning.begins_text
        → GoesAs s r lines
    by_inner [] is same =
        let reached : begins s paragraph.Reached r.rest ≡ beginning.begins_text = rw is at same in
        reaches is (ap (paragraph_with s r.rest lines) reached)
    by_inner (f ∷ others) is same = continues f others is (rw is at same)

module _ (s : Source) (old new : Pass) (line : Line) (start depth : ℕ) (source : SourceLine)
    (adds : AddsText old new line start depth) (is : IsSource old line source) where
  -- a paragraph begins
  begins_there : (frames : List Frame) (inside : Forest Block) (last : Option Block)
      → Holds s old frames inside last line.start → has_paragraph old ≡ false → IsTextHere s old line start depth
      (with_last inside last) (reached s frames (with_last inside last) source)
      → PlacesFor s new line.next (with_line s (rebuilt frames (with_last inside last)) source)
  begins_there frames inside last stands none here =
      let blocks = with_last inside last in let around = last_open s old frames inside last stands.unended in
      let are = open_are_containers around.texts (without_leaf old.placing.builder) frames around.are in
      let r = reached s frames blocks source in let n = room_depth (length r.outer) frames in
      let begun = adds.begins none in let lines : new.lines.items ≡ held_line line start ∷ [] = rw none at adds.lines in
      let room : MakesRoom old begun.mid (length r.outer) = rw here.depth_is at begun.room in
      let there = room.room s frames inside last (between stands.unended stands.blanks stands.unheld)
      (omega (arith, ap length (reached_parts s frames blocks source), length-append r.inner r.outer)) in
      let text = ap (λ (r : Source). r.text) stands.source in let at = here.content in
      let own : IsLeftOf s.text r.rest.left = rw (text, at.stop) at at.bytes in
      let alone : begins s paragraph.NoParagraph r.rest ≡ beginning.begins_text = rw none at here.text in
      let begins_it = begins_block old.placing.builder.text line r.rest start at is.from in
      let same = ap (λ (p : Pass). p.placing) begun.same in let outer = outer_within n frames in
      let now = closed_in n frames blocks in
      let built : IsBuilt s new.placing.builder outer now = rw same there.built in
      let text_same = ap (λ (p : Pass). p.placing.builder.text) begun.same ∙ begun.room.text in
      let closable : AreClosable new.placing.builder old.placed = rw same (begun.room.here stands.ready.closable) in
      let ready : BeginsReady old new line start = assumption (text_same, closable, lines, begun.task, stands.ready) in
      text_begun
      (may_begin_touched s old begun.mid line source (length r.outer) outer now stands.source room there (sym is.next)
      (ends_after old.placing.builder.text line r.rest start at is.from)
      (earlier_taken line.start n frames stands.earlier))
      (built_touched source s begun.mid.placing.builder outer now there.built) begun.same lines begun.task
      (rw text at begins_it) (begins_in_room s frames blocks source are around.nested (here.over none)
      (λ marker. item_begun s r.rest marker own at.filled ∙ ap (another_item s r.rest marker) alone)
      ∙ ap (λ made. rebuilt (map (touched source) outer) (followed_by now made))
      (block_begun s r.rest at.filled ∙ ap (new_blocks (inside_of (begun_by s) r.rest) r.rest) alone))
      (line_keeps s (rebuilt frames blocks) source around.items)
      (begun_ready old new line start r.rest source ready is at (λ closed. nothing_taken s frames blocks source
      (no_frames new.placing.builder.texts new.placing.builder.blocks outer built.blocks closed))
      (rw text_same begins_it.inside))

  -- the pass has placed the line
  pub text_places : (frames : List Frame) (inside : Forest Block) (last : Option Block)
      → IfParagraphLast s (IsUntabled s old line.start (reached s frames (with_last inside last) source)) last
      → Holds s old frames inside last line.start → IsTextHere s old line start depth (with_last inside last)
      (reached s frames (with_last inside last) source)
      → PlacesFor s new line.next (with_line s (rebuilt frames (with_last inside last)) source)
  text_places frames inside None untabled stands here =
      begins_there frames inside None stands (no_paragraph old stands.unended.1) here
  text_places frames inside (Some b) untabled stands here = by_held stands.unended.0 stands.unended.1 stands.unended.2
    where
      by_held : (held : Option (List SourceLine)) → MayEnd s old frames inside b held → HoldsNone old held
          → PlacesFor s new line.next (with_line s (rebuilt frames (followed_by inside (leaf_block b))) source)
      by_held None may empty = begins_there frames inside (Some b) stands (no_paragraph old empty) here
      by_held (Some sources) may none =
          let r = reached s frames (followed_by inside (leaf_block b)) source in
          let some = has_held s old frames inside b sources may.unended in
          text_added s old new line start frames inside b sources source
          (remembered_kind s (IsUntabled s old line.start r) b.kind sources may.unended.kind untabled) stands may is
          (record { same = adds.goes_on some; lines = rw some at adds.lines }) here.content
          (goes_as s old r sources some here.text)

-- ---- text that is left of a line

-- what is left of a line is text, whose first byte of content is at a byte offset
pub record IsTextLeft (s : Source) (rest : LineRest) (source : SourceLine) (at : ℕ) : Type 0 where
  pub filled : is_blank_rest source ≡ false
  pub here : at ≡ content_of source
  pub text : begins s rest.before source ≡ beginning.begins_text

-- where text was found, it is
pub found_text : (s : Source) (rest : LineRest) (source : SourceLine) (at : ℕ) → IsFound s rest source at start.Text
    → IsTextLeft s rest source at
found_text s rest source at found =
    let is = found_begins s rest source at start.Text beginning.begins_text found refl in
    record { filled = is.0; here = found.begins; text = is.1 }

-- the line is placed at either turn: after the containers that go on in it, or inside containers that it opened
pub text_here : (s : Source) (old new : Pass) (rest : LineRest) (at : ℕ) (turn : Turn) (source : SourceLine)
    (blocks : Forest Block) → AddsText old new rest.line at rest.depth → IsHere s old rest turn source blocks
    → IsTextLeft s rest source at → PlacesFor s new rest.line.next blocks
text_here s old new rest at (first before line) source blocks adds state left =
    let same : s.text ≡ old.placing.builder.text = sym (ap (λ (s : Source). s.text) state.holds.source) in
    let content = left_content s rest source at state.left left.filled left.here in
    rw state.whole (text_places s old new rest.line at rest.depth line adds state.is before.frames before.inside
    before.last state.untabled state.holds (record {
      depth_is = state.depth;
      content = rw (← same, ← state.reached) content;
      text = rw (← state.reached, ← state.paragraph) left.text;
      over = λ none. rw (← state.reached) (state.over none);
    }))
text_here s old new rest at (later frames) source blocks adds state left =
    let begun = adds.begins (no_paragraph old state.opened.free.lines) in
    let room = later_room s old begun.mid rest frames source beginning.begins_text blocks state left.filled left.text
    begun.room in
    let content = left_content s rest source at state.left left.filled left.here in
    let begins_it = text_begins s.text rest.position rest.line source at state.left.is left.here
    (left_stands s rest source at state.left left.filled left.here) in
    let lines : new.lines.items ≡ held_line rest.line at ∷ [] =
    rw (no_paragraph old state.opened.free.lines) at adds.lines in
    let placing = ap (λ (p : Pass). p.placing) begun.same in
    let now : MayStep new.placing.builder at = rw (left.here, placing) room.ready in
    let built : IsBuilt s new.placing.builder room.frames room.inside = rw placing room.built in
    text_begun room.may room.built begun.same lines begun.task begins_it (begun_in_room room) room.items
    (text_ready new built lines begun.task begins_it.inside
    (line_in_text s.text rest.line source at content state.left.from state.left.utf8) state.left.from now.ahead.0
    (λ none. rw (← built.text) (now.white none)))

-- ---- the open leaf

-- the open leaf does not go on in a line that reaches all containers
abbrev pub LeafLeavesOff : Source → Before → SourceLine → Type 0
LeafLeavesOff s before source =
    (reached_of s before source).inner ≡ [] → LeavesOff s (reached_of s before source).rest before.last

-- ---- what is directly under the root

-- lists take nothing of a line
lists_take_nothing : (s : Source) (frames : List Frame) (inside : Forest Block) (l : SourceLine)
    → list_all (λ f. is_list f.block.kind) (reached s frames inside l).outer ≡ true
    → (reached s frames inside l).rest.left ≡ l.left
lists_take_nothing s frames inside l lists = ap (λ (m : SourceLine). m.left) (lists_leave s frames inside l lists)

-- the outermost open blocks are lists where the outermost open containers are
lists_alike : (texts : List (List ℕ)) (n : ℕ) (containers leaf : List OpenBlock) (frames : List Frame)
    → AreOpen texts containers frames → n ≤ length frames → list_all (λ block. by_body.is_list block.body)
    (take n (containers ++ leaf)) ≡ list_all (λ f. is_list f.block.kind) (outer_within n frames)
lists_alike texts n containers leaf frames are few =
    rw (take-append-le n containers leaf (omega (arith, few, as_many_open texts containers frames are)))
    (all_alike (take n containers) (outer_within n frames) (open_within texts n containers frames are))
  where
    turned : (a b : Bool) → (a && (b && true)) ≡ (b && a)
    turned true true = refl
    turned true false = refl
    turned false true = refl
    turned false false = refl

    all_alike : (blocks : List OpenBlock) (fs : List Frame) → AreOpen texts blocks fs
        → list_all (λ block. by_body.is_list block.body) blocks ≡ list_all (λ f. is_list f.block.kind) fs
    all_alike blocks [] none = rw none refl
    all_alike blocks (f ∷ outer) (block, others, are, is, around) =
        rw (are, list_all-append, list_alike texts f.block.kind block.body is.body, all_alike others outer around)
        (turned (list_all (λ f. is_list f.block.kind) outer) (is_list f.block.kind))

-- ---- the rest of a line, as it is read first

first_left : (s : Source) (pass : Pass) (found : code.Reached) (before : Before) (source : SourceLine)
    (rest : LineRest) → IsUtf8 pass.placing.builder.text → IsReachedBy s pass rest.line found before source
    → IsMadeOf s pass found rest → IsLeft s rest (reached_of s before source).rest
first_left s pass found before source rest utf8 by made =
    let r = reached_of s before source in
    let same : pass.placing.builder.text ≡ s.text = ap (λ (s : Source). s.text) by.stands.source in
    let syntax : pass.syntax ≡ s.syntax = ap (λ (s : Source). s.syntax) by.stands.source in
    let within = reached_within pass.placing.builder.text rest.line.start utf8 s before.frames (blocks_in before) source
    (whole_within pass rest.line source by.is) in
    record {
      is = record {
        rest = rw made.position (subst (λ t. IsRest t found.position rest.line r.rest) same by.reaches.rest);
        stop = by.reaches.stop;
        ends = omega (arith, by.is.from.ends);
      };
      text = rw (made.text, made.syntax, syntax) refl;
      stop = made.stop;
      start = made.start;
      next = made.next ∙ by.reaches.rest.next;
      indent = by.reaches.indent ∙ by.is.indent;
      outermost = λ reads. rw (reader_outermost (rw syntax reads))
          (by_lists lists refl ∙ (sym (ap (λ t. t && lists) by.is.outermost) ∙ sym by.reaches.outermost));
      after = rw place within.low;
      boundary = rw (← same, place) within.boundary;
      from = rw (← same) by.is.from;
      utf8 = rw (← same) utf8;
    }
  where
    lists : Bool
    lists = list_all (λ f. is_list f.block.kind) (reached_of s before source).outer

    place : rest.position.at ≡ (reached_of s before source).rest.left.scanned
    place = ap (λ (p : Position). p.at) made.position ∙ ap (λ (left : LineLeft). left.scanned) by.reaches.rest.left

    reader_outermost : any_metadata pass.syntax ≡ true → rest.reader.outermost ≡ lists
    reader_outermost reads =
        let r = reached_of s before source in let whole = reached_parts s before.frames (blocks_in before) source in
        let parts = open_parts s pass before.frames before.inside before.last by.stands.unended by.stands.loose in
        made.outermost ∙ rw (reads, by.reaches.depth, parts.blocks)
        (lists_alike pass.placing.builder.texts (length r.outer) parts.containers parts.leaf before.frames parts.are
        (omega (arith, ap length whole, length-append r.inner r.outer))
        ∙ ap (list_all (λ f. is_list f.block.kind)) (outer_taken s before.frames (blocks_in before) source))

    by_lists : (test : Bool) → lists ≡ test → (test && (rest.position.at == rest.reader.start)) ≡ test
    by_lists true are =
        let at = place ∙ ap (λ (left : LineLeft). left.scanned)
        (lists_take_nothing s before.frames (blocks_in before) source are ∙ sym by.is.left) in
        let here : rest.position.at ≡ rest.reader.start = omega (arith, at, made.start) in
        grind (arith, nat_tests, here)
    by_lists false some = refl

pub first_turn : (s : Source) (old now : Pass) (found : code.Reached) (before : Before) (source : SourceLine)
    (rest : LineRest) → now ≡ record old { tried = now.tried } → IsUtf8 old.placing.builder.text
    → IfParagraphLast s (IsUntabled s now rest.line.start (reached_of s before source)) before.last
    → IsReachedBy s old rest.line found before source → IsMadeOf s now found rest
    → is_blank_rest (reached_of s before source).rest ≡ false → LeafLeavesOff s before source
    → IsFirst s now rest before source (reached_of s before source).rest (with_line s (blocks_before before) source)
first_turn s old now found before source rest same utf8 untabled by made filled off =
    let r = reached_of s before source in
    let was = made_untried old now.tried s found rest (subst (λ (p : Pass). IsMadeOf s p found rest) same made) in
    subst (λ (p : Pass). IsFirst s p rest before source r.rest (with_line s (blocks_before before) source)) (sym same)
    (record {
      untabled = subst (λ (p : Pass). IfParagraphLast s (IsUntabled s p rest.line.start r) before.last) same untabled;
      holds = holds_all_tried old now.tried s before.frames before.inside before.last rest.line.start
          (stands_holds s old before.frames before.inside before.last rest.line.start by.stands);
      is = source_tried old now.tried rest.line source by.is;
      reached = refl;
      left = first_left s old found before source rest utf8 by was;
      depth = was.depth ∙ by.reaches.depth;
      paragraph = was.before ∙ ap (paragraph_before old) by.reaches.all;
      filled = filled;
      over = nothing_left s old rest.line.start before.frames before.inside before.last source by.stands filled off;
      whole = refl;
    })

-- ---- turn by turn

-- more is to be read of the same line, after turns that went on to a place
record StillReads (s : Source) (pass : Pass) (old now : LineRest) (blocks : Forest Block) (place : ℕ) : Type 0 where
  turn : Turn
  source : SourceLine
  here : IsHere s pass now turn source blocks
  line : now.line ≡ old.line
  far : place ≤ turn_place now

-- what was to be read of a line is still to be read, and no cell was added to a table
pub record KeepsReading (before now : Pass) (old rest : LineRest) (place : ℕ) : Type 0 where
  still : (may : MayRead before old) → StillReads may.s now old rest may.blocks place
  tables : now.tables ≡ before.tables

-- so it may be read
abbrev pub may_still : {before now : Pass} {old rest : LineRest} {place : ℕ} → KeepsReading before now old rest place
    → MayRead before old → MayRead now rest
may_still {before} {now} {old} {rest} {place} keeps may =
    let still = keeps.still may in
    record { s = may.s; turn = still.turn; source = still.source; blocks = may.blocks; here = still.here }

-- before the first turn
pub before_turns : (pass : Pass) (rest : LineRest) → KeepsReading pass pass rest rest rest.line.start
before_turns pass rest = record {
  still = λ may. record {
    turn = may.turn;
    source = may.source;
    here = may.here;
    line = refl;
    far = omega (arith, (here_left may.s pass rest may.turn may.source may.blocks may.here).after);
  };
  tables = refl;
}

module _ {before now : Pass} {old rest : LineRest} {place : ℕ} (keeps : KeepsReading before now old rest place) where
  -- after a turn that left more of the line
  pub next_turn : {new : Pass} {next : LineRest} {more : Bool} → more ≡ true → Reads now rest new next more
      → KeepsReading before new old next (place + 1)
  next_turn {new} {next} {more} is reads = record {
    still = λ may.
        let still = keeps.still may in
        let begun = subst (HasBegun may.s new rest next may.blocks) is (reads.begun (may_still keeps may)) in
        record {
          turn = begun.turn;
          source = begun.source;
          here = begun.here;
          line = begun.line ∙ still.line;
          far = omega (arith, still.far, begun.later);
        };
    tables = reads.tables ∙ keeps.tables;
  }

  -- after one that left nothing
  pub last_turn : {new : Pass} {next : LineRest} {more : Bool} → more ≡ false → Reads now rest new next more
      → Reads before old new next false
  last_turn {new} {next} {more} is reads = record {
    begun = λ may.
        let begun = subst (HasBegun may.s new rest next may.blocks) is (reads.begun (may_still keeps may)) in
        rw (← (keeps.still may).line) begun;
    tables = reads.tables ∙ keeps.tables;
  }

  -- what is left is text
  pub text_turn : {new : Pass} → AddsText now new rest.line rest.position.at rest.depth → new.tables ≡ now.tables
      → IsTextFrom now.placing.builder.text rest.position rest.line.stop → Reads before old new rest false
  text_turn {new} adds tables shows = record {
    begun = λ may.
        let still = keeps.still may in
        let left = here_left may.s now rest still.turn still.source may.blocks still.here in
        let same = here_text may.s now rest still.turn still.source may.blocks still.here in
        let bytes : still.source.left ≡ left_from now.placing.builder.text rest.position rest.line.stop =
        rw same (sym left.is.rest.left) in
        rw (← still.line) (text_here may.s now new rest rest.position.at still.turn still.source may.blocks adds
        still.here (record {
          filled = shows.filled still.source bytes;
          here = sym (shows.here still.source bytes);
          text = shows.begins_it may.s rest.before still.source (sym same) bytes;
        }));
    tables = tables ∙ keeps.tables;
  }

  -- no turn goes on past the end of the line, so that there are fewer than there may be
  pub turns_end : old.line.next + 3 ≤ place → MayRead before old → ⊥
  turns_end many may =
      let still = keeps.still may in
      let left = here_left may.s now rest still.turn still.source may.blocks still.here in
      let line = ap (λ (line : Line). line.next) still.line in
      omega (arith, many, left.is.stop, place_left left, left.is.ends, still.far, turn_near rest, line)
