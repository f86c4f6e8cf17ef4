-- Calls that fit: where a builder is after one of them, the next fits; and a placed line leaves the pass ready for
-- the next one.
use Rattle.std.proofs.Common.{◌≡◌, ℕ, zero, suc, ◌-◌, ◌≤◌, Bool, true, false, List, [], ◌∷◌, ◌++◌, Option, Some, None}
use Rattle.std.proofs.Common.{slice_get, slice_index, slice_range, IsCharBoundary, IsUtf8, length-take, get_or-drop}
use Rattle.std.proofs.Common.{get_or-take, length-drop, drop, take, refl, sym, ap, ◌∙◌, arith, true≢false, ◌+◌, ◌<◌}
use Rattle.std.proofs.Common.{◌||◌, not, get_or, length, ⊎_elim, ◌&&◌}
use Rattle.markdown_plain.proofs.Names.{same_Some, list_all, or-true, or-false, or_assoc, cases_lt, or_parts}
use Rattle.markdown_plain.proofs.Names.{IsCharBoundary-after_ascii, ItemBody, Forest, nil, node, BuilderView, Opens}
use Rattle.markdown_plain.proofs.Names.{is_table_row, OpenBlock, Shown, unnumbered, LineLeft, HeldLine, Position}
use Rattle.markdown_plain.proofs.Names.{left_from, Source, SourceLine, is_blank_rest, Block, Kind, is_nil, Around}
use Rattle.markdown_plain.proofs.Names.{after_line, GoesOn, stepped, MayStep, Frame, inside_container, reached}
use Rattle.markdown_plain.proofs.Names.{forgotten, IsOpenIn, around_innermost, AreOpen, AllPass, IsLineFrom}
use Rattle.markdown_plain.proofs.Names.{is_in_blank_line, is_space_or_tab, Line, Pass, IsReadyAfter, leaf_end}
use Rattle.markdown_plain.proofs.Names.{AreClosable, IsReady, has_quote, is_container, without_leaf, GoesOnBy}
use Rattle.markdown_plain.proofs.Names.{PlacesLast, LeafKind, part_length, in_part, source_of, Before, IsReachedBy}
use Rattle.markdown_plain.proofs.Names.{blocks_in, reached_of}
use Rattle.std.proofs.Math.Bool.{or_comm}
use Rattle.std.proofs.lemmas.List.Sums.{AllPass-from_list_all}
use Rattle.markdown_builder.specs.Bodies.{is_leaf}
use Rattle.markdown_builder.specs.EvenRows.{is_in_row}
use Rattle.markdown_lines.specs.declared.space.Space.{Space}
use Rattle.markdown_lines.specs.Positions.{IsSpaceAt}
use Rattle.markdown_plain.specs.Fits.{AreLinesFrom, IsInLeaf, MayAddLine, MayAddAfter, MayAddBefore, after_lines}
use Rattle.markdown_plain.specs.Frames.{is_quote as is_quote_kind}
use Rattle.markdown_lines.specs.Lines.{IsLineEnd, ending_length, is_line_ending}
use Rattle.markdown_lines.proofs.HeldLinesLemmas.{ends_within, line_left}
use Rattle.markdown_lines.proofs.LinesAheadLemmas.{in_ending}
use Rattle.markdown_lines.proofs.LinesLemmas.{ending_ascii, AllPass-none}
use Rattle.markdown_lines.proofs.TitleLemmas.{ending_bytes}
use Rattle.markdown_plain.specs.Closable.{AreContainers}
use Rattle.markdown_plain.proofs.LinedLeavesLemmas.{cut_within, shown_alone, shown_of_kind}
use Rattle.markdown_plain.proofs.BegunLemmas.{left_from_is_of}
use Rattle.markdown_plain.proofs.LeafTreesLemmas.{innermost_of_opened, by_test}
use Rattle.markdown_plain.proofs.TextReachedLemmas.{by_list, space_within, reached_within, whole_within}
use Rattle.markdown_plain.proofs.ClosableLemmas.{innermost_no_row, leaf_end_here, no_task, none_ahead, no_paragraph}
use Rattle.markdown_plain.proofs.ClosableLemmas.{white_both}
use Rattle.markdown_plain.proofs.FramesLemmas.{as_many_open, on_reached, tests_alike, quote_alike}
use Rattle.markdown_plain.proofs.OpenTablesLemmas.{without_open, without_closable}
use Rattle.markdown_plain.proofs.ReachedFramesLemmas.{goes_on_in, indented_alike, note_alike}
use Rattle.markdown_plain.proofs.OpenListsLemmas.{has_quote as quotes_in}
use Rattle.markdown_plain.specs.OpenBlocks as own
use Rattle.markdown_plain.specs.declared.pass.LeafKind.TheVariants as leaf
use Rattle.markdown_base.specs.declared.item.ItemBody.TheVariants as body
use Rattle.markdown_block_rules.specs.BlockGrowth as was
use Rattle.markdown_plain.specs.OpenLeaves as leaves
use Rattle.markdown_plain.specs.declared.containers.Reached as code

-- ---- steps

-- inside a block, a step needs no white space
pub may_step : (view : BuilderView) (to : ℕ) → view.at ≤ to → IsCharBoundary view.text to
    → (view.blocks ≡ [] → ⊥) → MayStep view to
may_step view to low boundary some = record { ahead = (low, boundary); white = λ none. absurd (some none) }

-- a block is open after one was opened
pub some_opened : (blocks outer : List OpenBlock) (block : OpenBlock) → blocks ≡ outer ++ block ∷ [] → blocks ≡ [] → ⊥
some_opened blocks [] block is none = cc
some_opened blocks (first ∷ outer) block is none = cc

-- ---- leaves

-- no leaf is a row
leaf_is_no_row : (b : ItemBody) → is_leaf b ≡ true → is_table_row b ≡ false
leaf_is_no_row body.TableHead leaf = absurd (true≢false (sym leaf))
leaf_is_no_row body.TableRow leaf = absurd (true≢false (sym leaf))
leaf_is_no_row other leaf = refl

-- a builder whose innermost open block is a leaf is in that leaf
pub in_leaf : (view : BuilderView) (outer : List OpenBlock) (block : OpenBlock) → view.blocks ≡ outer ++ block ∷ []
    → view.leaf ≡ true → is_leaf block.body ≡ true → IsInLeaf view
in_leaf view outer block blocks leaf is = record {
  leaf = leaf;
  some = some_opened view.blocks outer block blocks;
  plain = rw (blocks, innermost_of_opened) (leaf_is_no_row block.body is);
}

-- a builder is in a leaf, at a byte offset of a text
pub record IsInLeafAt (text : List ℕ) (at : ℕ) (view : BuilderView) : Type 0 where
  pub inside : IsInLeaf view
  pub same : view.text ≡ text
  pub here : view.at ≡ at

-- it is in the leaf that was opened
pub opened_at : (old now : BuilderView) (b : ItemBody) → Opens old now b → is_leaf b ≡ true
    → IsInLeafAt old.text old.at now
opened_at old now b opens leaf =
    rw opens (record { inside = in_leaf _ old.blocks _ refl leaf leaf; same = refl; here = refl })

-- the same after a step
pub opened_from : (old first now : BuilderView) (at : ℕ) (b : ItemBody) → first ≡ stepped old at → Opens first now b
    → is_leaf b ≡ true → IsInLeafAt old.text at now
opened_from old first now at b steps opens leaf = opened_at (stepped old at) now b (rw steps at opens) leaf

-- more is appended to the leaf
pub goes_at : (text : List ℕ) (at to : ℕ) (old new : BuilderView) → GoesOn old new to → IsInLeafAt text at old
    → IsInLeafAt text to new
goes_at text at to old new goes is = rw goes (search (arith, is))

-- a step ahead of the place fits
pub step_at : (text : List ℕ) (at to : ℕ) (view : BuilderView) → IsInLeafAt text at view → at ≤ to
    → IsCharBoundary text to → MayStep view to
step_at text at to view is low boundary =
    may_step view to (omega (arith, is.here, low)) (rw is.same boundary) is.inside.some

-- a step stays in the leaf
pub stepped_at : (text : List ℕ) (at to : ℕ) (old new : BuilderView) → new ≡ stepped old to → IsInLeafAt text at old
    → IsInLeafAt text to new
stepped_at text at to old new steps is = goes_at text at to old new (rw steps) is

-- a line fits into the leaf
pub line_at : (text : List ℕ) (at from to : ℕ) (view : BuilderView) → IsInLeafAt text at view → at ≤ from
    → IsCharBoundary text from → IsCharBoundary text to → MayAddLine view from to
line_at text at from to view is low boundary next =
    record { inside = is.inside; ahead = (omega (arith, is.here, low), rw is.same boundary); next = rw is.same next }

-- a line fits that goes on from there
pub goes_on_fits : (old new : BuilderView) (at from to : ℕ) → GoesOn old new at → IsInLeaf old → at ≤ from
    → IsCharBoundary old.text from → IsCharBoundary old.text to → MayAddLine new from to
goes_on_fits old new at from to goes inside low boundary next =
    line_at old.text at from to new
    (goes_at old.text old.at at old new goes (record { inside = inside; same = refl; here = refl })) low boundary next

-- ---- lines of code

-- a line of this number comes after those before it
pub record ComesNext (text : List ℕ) (from : ℕ) (lines : List HeldLine) (number : ℕ) (line : HeldLine) : Type 0 where
  pub low : after_lines from (take number lines) ≤ line.start
  pub boundary : IsCharBoundary text line.start
  pub next : IsCharBoundary text line.next

pub comes_next : (text : List ℕ) (from : ℕ) (lines : List HeldLine) (number : ℕ) (line : HeldLine)
    → AreLinesFrom text from lines → slice_get lines number ≡ Some line → ComesNext text from lines number line
comes_next text from [] number line are e = absurd (grind (arith, e))
comes_next text from (first ∷ lines) zero line are e =
    rw (← same_Some first line e) (record { low = are.0; boundary = are.1; next = are.2 })
comes_next text from (first ∷ lines) (suc number) line are e =
    let rest = comes_next text (after_line first.start first.next) lines number line are.3 e in assumption (rest)

-- a line more fits after these
lines_more : (text : List ℕ) (from : ℕ) (lines : List HeldLine) (line : HeldLine) → AreLinesFrom text from lines
    → after_lines from lines ≤ line.start → IsCharBoundary text line.start → IsCharBoundary text line.next
    → AreLinesFrom text from (lines ++ line ∷ [])
    × (after_lines from (lines ++ line ∷ []) ≡ after_line line.start line.next)
lines_more text from [] line are low boundary next = ((low, boundary, next, tt), refl)
lines_more text from (first ∷ lines) line are low boundary next =
    let more = lines_more text (after_line first.start first.next) lines line are.3 low boundary next in
    ((are.0, are.1, are.2, more.0), more.1)

-- such a line may be held back too
pub held_fits : (view : BuilderView) (lines : List HeldLine) (line : HeldLine)
    → MayAddAfter view lines line.start line.next → line.start ≤ line.next
    → MayAddBefore view (lines ++ line ∷ []) line.next
held_fits view lines line may ordered =
    let more = lines_more view.text view.at lines line may.before.may.are may.before.low may.boundary may.next in
    record { may = record { inside = may.before.may.inside; are = more.0 }; low = omega (arith, more.1, ordered) }

-- ---- space

-- white space that is read ends between characters, if it begins there
pub space_ahead : (text : List ℕ) (position : Position) (stop most : ℕ) (read : Space) → IsUtf8 text
    → IsSpaceAt text position stop most read → IsCharBoundary text position.at
    → IsCharBoundary text read.after.at × (position.at ≤ read.after.at)
space_ahead text position stop most read utf8 is boundary =
    let within = rw (← is.after) at (space_within text position.at utf8 most (left_from text position stop)
    (record { own = left_from_is_of text position stop _ refl; boundary = boundary; low = omega arith })) in
    (within.boundary, within.low)

-- it ends in its line
pub space_stops : (text : List ℕ) (position : Position) (stop most : ℕ) (read : Space)
    → IsSpaceAt text position stop most read → position.at ≤ stop → read.after.at ≤ stop
space_stops text position stop most read is within =
    let l : SourceLine = record { left = left_from text position stop; next = stop; outermost = true; indent = None } in
    let cut = rw (← is.after) at (cut_within most l) in
    omega (arith, cut, length-take (stop - position.at) (drop position.at text), within)

-- ---- leaves that are open

-- the first of some trees is a row
abbrev first_is_row : Forest Shown → Bool
first_is_row nil = false
first_is_row (node a below after) = is_table_row a.item.body

-- no leaf is shown as a row
leaf_shown_no_row : (s : Source) (around : Around) (b : Block) (how : LeafKind) (kind : Kind) → GoesOnBy how kind
    → first_is_row (shown_of_kind s around b kind) ≡ false
leaf_shown_no_row s around b leaf.Indented (was.indented_leaf lines) known = refl
leaf_shown_no_row s around b (leaf.Fenced fence) (was.fenced_leaf opening closed lines) known = refl
leaf_shown_no_row s around b (leaf.Html found) (was.html_leaf kind closed lines) known = refl
leaf_shown_no_row s around b (leaf.Metadata found) (was.metadata_leaf kind closed lines) known = refl
leaf_shown_no_row s around b how (was.table_leaf ended head alignments rows) known = refl
leaf_shown_no_row s around b how other known = absurd known

same_row : (b : ItemBody) → is_table_row (unnumbered b) ≡ is_table_row b
same_row (body.Heading level None) = refl
same_row (body.Heading level (Some ix)) = refl
same_row other = refl

-- so an open leaf is none
no_row_open : (s : Source) (view : BuilderView) (frames : List Frame) (inside : Forest Block) (in_leaf : Bool)
    (b : Block) (how : LeafKind) → GoesOnBy how b.kind → IsOpenIn s view frames inside in_leaf b
    → is_in_row view.blocks ≡ false
no_row_open s view frames inside in_leaf b how known is =
    let around = around_innermost frames in
    rw (is.blocks, innermost_of_opened) (sym (same_row is.block.body)
    ∙ (ap first_is_row (is.shown ∙ shown_alone s around b b.kind refl) ∙ leaf_shown_no_row s around b how b.kind known))

-- ---- where a line ends

-- its ending is white space
pub ending_white : (text : List ℕ) (at : ℕ) (line : Line) → IsLineFrom text at line
    → AllPass is_in_blank_line text line.stop line.next
ending_white text at line is = λ k more high.
    let place : line.stop + (k - line.stop) ≡ k = omega (arith, more) in
    rw (rw (get_or-drop line.stop text (k - line.stop) 0, place) at (in_ending (drop line.stop text) (k - line.stop)
    (omega (arith, more, high, is.ends)))) (or-true (is_space_or_tab (get_or text k 0)))

-- the content of a line ends between characters
pub stop_between : (text : List ℕ) (from stop : ℕ) → IsLineEnd text from stop → IsCharBoundary text stop
stop_between text from stop ends =
    (ends.high, λ less high. absurd (omega (arith, ending_ascii (slice_index text stop) (ends.stops less), high)))

-- and so does the line, with its line ending
pub next_between : (text : List ℕ) (from : ℕ) (line : Line) → IsUtf8 text → IsLineFrom text from line
    → IsCharBoundary text line.next
next_between text from line utf8 is =
    let rest = drop line.stop text in let n = ending_length rest in
    ⊎_elim (λ (some : 0 < n).
    let few = ends_within rest in
    let passes = ending_bytes rest (line_left text line.stop is.content.high is.content.stops) in
    let ascii = ending_ascii (get_or (take n rest) (n - 1) 0) (AllPass-from_list_all is_line_ending (take n rest) passes
    (n - 1) 0 (omega (arith, some, few, length-take n rest))) in
    let place : (line.stop + (n - 1)) + 1 ≡ line.next = omega (arith, some, is.ends) in
    rw (← place) (IsCharBoundary-after_ascii text (line.stop + (n - 1)) utf8
    (omega (arith, some, few, length-drop line.stop text, is.content.high))
    (omega (arith, ascii, get_or-take n rest (n - 1) 0, get_or-drop line.stop text (n - 1) 0, some))))
    (λ (none : n ≤ 0).
    let same : line.next ≡ line.stop = omega (arith, none, is.ends) in
    rw same (stop_between text from line.stop is.content)) (cases_lt 0 n)

-- ---- open containers

-- open blocks that are these containers have the bodies of containers
pub are_bodies : (texts : List (List ℕ)) (blocks : List OpenBlock) (frames : List Frame) → AreOpen texts blocks frames
    → AreContainers blocks
are_bodies texts blocks [] none = rw none tt
are_bodies texts blocks (f ∷ outer) (block, others, are, is, around) =
    rw are (containers_with others block (are_bodies texts others outer around)
    (tests_alike is_container (λ kind. true) refl (λ kind. refl) (λ marker. refl) (λ indent. refl) (λ ix label. refl)
    texts f.block.kind block.body is.body))
  where
    containers_with : (others : List OpenBlock) (block : OpenBlock) → AreContainers others
        → is_container block.body ≡ true → AreContainers (others ++ block ∷ [])
    containers_with [] block are is = (is, tt)
    containers_with (first ∷ others) block are is = (are.0, containers_with others block are.1 is)

-- and where none are open, there are none of them
pub no_frames : (texts : List (List ℕ)) (blocks : List OpenBlock) (frames : List Frame) → AreOpen texts blocks frames
    → blocks ≡ [] → frames ≡ []
no_frames texts blocks frames are none = by_list frames (λ same. same)
    (λ f outer some. absurd (omega (arith, as_many_open texts blocks frames are, ap length none, ap length some)))

-- ---- nothing is held back

-- no leaf is open, no lines are held back, and what is open may be closed
pub record IsRead (pass : Pass) (to : ℕ) : Type 0 where
  pub closable : AreClosable pass.placing.builder pass.placed
  pub lines : pass.lines.items ≡ []
  pub low : pass.placed ≤ to
  pub boundary : IsCharBoundary pass.placing.builder.text to
  pub white : AllPass is_in_blank_line pass.placing.builder.text pass.placed to

pub read_ready : (pass : Pass) (to : ℕ) → IsRead pass to → IsReady pass to
read_ready pass to is =
    let view = pass.placing.builder in let without = without_closable view is.closable.outside is.closable.containers in
    let here = leaf_end_here pass is.lines in
    record {
      closable = record {
        some = λ leaf. absurd (true≢false (sym leaf ∙ is.closable.outside));
        other = innermost_no_row view.blocks is.closable.containers;
        held = λ outside. none_ahead view pass.lines.items is.lines;
        task = no_task view.text pass.task pass.lines.items is.lines;
        containers = rw without is.closable.containers;
        alone = λ has. absurd (true≢false (sym has ∙ no_paragraph pass is.lines));
        low = rw here is.closable.low;
        boundary = is.closable.boundary;
        white = λ none. rw here (is.closable.white (rw without at none));
      };
      low = is.low;
      boundary = is.boundary;
      white = is.white;
      blanks = λ leaf. absurd (true≢false (sym leaf ∙ is.closable.outside));
    }

-- a line was placed up to a byte offset, and the last block is ended, or is an open leaf: the next line may be read
pub ready_last : (s : Source) (pass : Pass) (frames : List Frame) (inside : Forest Block) (last : Option Block) (to : ℕ)
    → PlacesLast s pass frames inside last → pass.lines.items ≡ [] → pass.blanks.items ≡ []
    → pass.placing.builder.at ≡ to → IsCharBoundary pass.placing.builder.text to → IsReadyAfter pass to
ready_last s pass frames inside None to places lines blanks at boundary =
    let view = pass.placing.builder in let over = AllPass-none is_in_blank_line view.text to in
    let low : view.at ≤ to = omega (arith, at) in let here : to ≤ to = omega arith in
    let white : has_quote view.blocks ≡ false → AllPass is_in_blank_line view.text view.at to = λ none. rw at over in
    let are = are_bodies view.texts view.blocks frames places.0.built.blocks in
    read_ready (record pass { placed = to }) to
    (assumption (places.0.built.outside, are, low, boundary, white, lines, here, over))
ready_last s pass frames inside (Some b) to (Some sources, is, knows) lines blanks at boundary =
    absurd (omega (arith, is.some, ap length lines))
ready_last s pass frames inside (Some b) to (None, is, knows) lines blanks at boundary =
    let view = pass.placing.builder in let over = AllPass-none is_in_blank_line view.text to in
    let here : leaf_end pass ≡ to = leaf_end_here pass lines ∙ at in
    let some = some_opened view.blocks is.1.outer is.1.block is.1.blocks in
    let plain = no_row_open s view frames inside (not (leaves.is_table b.kind)) b pass.leaf knows.0 is.1 in
    record {
      closable = record {
        some = λ leaf. some;
        other = plain;
        held = λ outside. none_ahead view pass.lines.items lines;
        task = no_task view.text pass.task pass.lines.items lines;
        containers = rw (without_open s view frames inside b is.1)
            (are_bodies view.texts is.1.outer frames is.1.around.blocks);
        alone = λ has. absurd (true≢false (sym has ∙ no_paragraph pass lines));
        low = omega (arith, here);
        boundary = boundary;
        white = λ none. rw here over;
      };
      low = omega arith;
      boundary = boundary;
      white = over;
      blanks = λ leaf. rw blanks (record {
        may = record { inside = record { leaf = leaf; some = some; plain = plain }; are = tt };
        low = omega (arith, at);
      });
    }

-- ---- a line

-- a line of the text that the pass reads ends between characters
pub stop_read : {text : List ℕ} {s : Source} (pass : Pass) (line : Line) → text ≡ s.text → source_of pass ≡ s
    → IsLineFrom pass.placing.builder.text line.start line → IsCharBoundary text line.stop
stop_read {text} {s} pass line same source is =
    let here : pass.placing.builder.text ≡ text = ap (λ (s : Source). s.text) source ∙ sym same in
    rw here at (stop_between pass.placing.builder.text line.start line.stop is.content)

-- where a number of bytes of a part of a text are white space, they are so in the text
pub part_white : (text bytes : List ℕ) (from stop n : ℕ) → bytes ≡ slice_range text from stop → n ≤ length bytes
    → ((i : ℕ) → i < n → is_space_or_tab (get_or bytes i 0) ≡ true) → AllPass is_in_blank_line text from (from + n)
part_white text bytes from stop n are few passes = λ k low high.
    let inside : k - from < n = omega (arith, low, high) in let place : from + (k - from) ≡ k = omega (arith, low) in
    let byte = rw place at (in_part text bytes from stop (k - from) are (omega (arith, inside, few))).byte in
    let white = rw byte at (passes (k - from) inside) in rw white refl

-- a line is white space, with its ending, where its content is
white_line : (text : List ℕ) (line : Line) → IsLineFrom text line.start line
    → list_all is_space_or_tab (slice_range text line.start line.stop) ≡ true
    → AllPass is_in_blank_line text line.start line.next
white_line text line is white =
    let bytes = slice_range text line.start line.stop in
    let stop : line.start + length bytes ≡ line.stop =
    omega (arith, part_length text line.start line.stop is.content.high, is.content.low) in
    let content = rw stop at (part_white text bytes line.start line.stop (length bytes) refl (omega arith)
    (λ i less. AllPass-from_list_all is_space_or_tab bytes white i 0 less)) in
    white_both text line.start line.stop line.next content (ending_white text line.start line is)

-- ---- places in a line

-- a byte offset is in a line, between characters
pub record IsPlaceIn (text : List ℕ) (line : Line) (at : ℕ) : Type 0 where
  pub low : line.start ≤ at
  pub high : at ≤ line.stop
  pub boundary : IsCharBoundary text at
  pub ends : line.stop ≤ line.next
  pub next : IsCharBoundary text line.next

module _ (s : Source) (old : Pass) (line : Line) (found : code.Reached) (before : Before) (source : SourceLine)
    (by : IsReachedBy s old line found before source) where
  -- the place is in the line that what is left of it begins at
  pub place_reached : IsPlaceIn old.placing.builder.text line found.position.at
  place_reached =
      let text = old.placing.builder.text in
      let within = rw (← by.reaches.rest.left) at (reached_within text line.start by.is.utf8 s before.frames
      (blocks_in before) source (whole_within old line source by.is)) in
      let same = ap (λ (left : LineLeft). left.scanned) by.reaches.rest.left in
      let high : found.position.at ≤ line.stop = omega (arith, same, by.reaches.stop) in
      let ends : line.stop ≤ line.next = omega (arith, by.is.from.ends) in
      assumption (within, high, ends, next_between text line.start line by.is.utf8 by.is.from)

  -- so is its beginning
  pub place_first : IsPlaceIn old.placing.builder.text line line.start
  place_first =
      let high : line.start ≤ line.stop = omega (arith, place_reached) in
      let low : line.start ≤ line.start = omega arith in assumption (low, high, by.is.boundary, place_reached)

-- and the place after white space
pub place_after_space : (text : List ℕ) (line : Line) (position : Position) (most : ℕ) (read : Space) → IsUtf8 text
    → IsSpaceAt text position line.stop most read → IsPlaceIn text line position.at → IsPlaceIn text line read.after.at
place_after_space text line position most read utf8 is place =
    let ahead = space_ahead text position line.stop most read utf8 is place.boundary in
    let low : line.start ≤ read.after.at = omega (arith, place.low, ahead.1) in
    assumption (low, space_stops text position line.stop most read is place.high, ahead.0, place)

-- ---- lines in the open leaf

module _ (pass : Pass) (line : Line) (at : ℕ) (ready : IsReady pass line.start)
    (leaf : pass.placing.builder.leaf ≡ true) (place : IsPlaceIn pass.placing.builder.text line at) where
  -- the rest of the next line fits into it
  pub line_fits : MayAddLine pass.placing.builder at line.next
  line_fits =
      let end : leaf_end pass ≡ pass.placing.builder.at = rw leaf refl in
      let low : pass.placing.builder.at ≤ at = omega (arith, end, ready.closable.low, ready.low, place.low) in
      assumption (leaf, ready.closable.some leaf, ready.closable.other, low, place)

  -- after the lines that were held back too
  pub line_fits_after : MayAddAfter pass.placing.builder pass.blanks.items at line.next
  line_fits_after =
      let held = ready.blanks leaf in
      let low : after_lines pass.placing.builder.at pass.blanks.items ≤ at = omega (arith, held.low, place.low) in
      assumption (low, held, place)

-- ---- blank lines

quotes_alike : (texts : List (List ℕ)) (blocks : List OpenBlock) (frames : List Frame) → AreOpen texts blocks frames
    → has_quote blocks ≡ quotes_in frames
quotes_alike texts blocks [] none = rw none refl
quotes_alike texts blocks (f ∷ outer) (block, others, are, is, around) =
    let both = quote_with others block ∙ or_comm (has_quote others) (own.is_quote block.body) in
    let alike = quote_alike texts f.block.kind block.body is.body in
    rw (are, both, alike, quotes_alike texts others outer around) refl
  where
    quote_with : (others : List OpenBlock) (block : OpenBlock)
        → has_quote (others ++ block ∷ []) ≡ (has_quote others || own.is_quote block.body)
    quote_with [] block = or-false (own.is_quote block.body)
    quote_with (first ∷ others) block = rw (quote_with others block)
        (sym (or_assoc (own.is_quote first.body) (has_quote others) (own.is_quote block.body)))

-- what a container other than a block quote leaves of a line is as blank as the line
taken_alike : (s : Source) (l m : SourceLine) (empty : Bool) (kind : Kind) → is_quote_kind kind ≡ false
    → inside_container s l empty kind ≡ Some m → is_blank_rest m ≡ is_blank_rest l
taken_alike s l m empty was.quote_container plain takes = absurd (true≢false plain)
taken_alike s l m empty (was.alert_container kind) plain takes = absurd (true≢false plain)
taken_alike s l m empty (was.item_container indent) plain takes =
    indented_alike l m indent (goes_on_in (is_blank_rest l && empty) _ m takes)
taken_alike s l m empty (was.footnote_container label) plain takes =
    note_alike l m (not s.syntax.old_footnotes) (goes_on_in (is_blank_rest l && s.syntax.old_footnotes) _ m takes)
taken_alike s l m empty other plain takes = ap is_blank_rest (sym (same_Some l m takes))

-- so is what is left where no block quote goes on
unquoted_alike : (s : Source) (frames : List Frame) (inside : Forest Block) (l : SourceLine)
    → quotes_in (reached s frames inside l).outer ≡ false
    → is_blank_rest (reached s frames inside l).rest ≡ is_blank_rest l
unfolding reached
unquoted_alike s [] inside l = λ none. refl
unquoted_alike s (f ∷ outer) inside l =
    let others = unquoted_alike s outer (forgotten f inside) l in
    on_reached (λ r. quotes_in r.outer ≡ false → is_blank_rest r.rest ≡ is_blank_rest l) s f outer inside l
    (λ rest all takes none.
    let parts = or_parts (is_quote_kind f.block.kind) _ none in
    taken_alike s _ rest (is_nil inside) f.block.kind parts.0 takes ∙ others parts.1) (λ all takes. others)
    (λ g inner some. others)

-- the byte offset up to which lines are not blank moves past a blank line, or stays
pub record SeesBlank (old : Pass) (line : Line) (source : SourceLine) (placed : ℕ) : Type 0 where
  pub moves : is_blank_rest source ≡ false → placed ≡ line.next
  pub stays : is_blank_rest source ≡ true → placed ≡ old.placed

-- it moves over white space where no block quote is open, and there is white space after it
pub record MovesOver (text : List ℕ) (blocks : List OpenBlock) (from placed to : ℕ) : Type 0 where
  pub low : from ≤ placed
  pub high : placed ≤ to
  pub boundary : IsCharBoundary text placed
  pub next : IsCharBoundary text to
  pub before : has_quote blocks ≡ false → AllPass is_in_blank_line text from placed
  pub after : AllPass is_in_blank_line text placed to

pub blank_moves : {s : Source} {old : Pass} {line : Line} {found : code.Reached} {before : Before}
    {source : SourceLine} {placed : ℕ} (texts : List (List ℕ)) (blocks : List OpenBlock)
    → IsReachedBy s old line found before source → is_blank_rest (reached_of s before source).rest ≡ true
    → SeesBlank old line source placed → AreOpen texts blocks (reached_of s before source).outer
    → MovesOver old.placing.builder.text blocks old.placed placed line.next
blank_moves {s} {old} {line} {found} {before} {source} texts blocks by blank sees are =
    let text = old.placing.builder.text in let ready = by.stands.ready in
    let place = place_first s old line found before source by in
    by_test (is_blank_rest source) (λ is. rw (sees.stays is) (record {
      low = omega arith;
      high = omega (arith, ready.low, place);
      boundary = ready.closable.boundary;
      next = place.next;
      before = λ none. AllPass-none is_in_blank_line text old.placed;
      after = white_both text old.placed line.start line.next ready.white (white_line text line by.is.from
          (ap (λ (left : LineLeft). list_all is_space_or_tab left.bytes) by.is.left ∙ is));
    })) (λ is. rw (sees.moves is) (record {
      low = omega (arith, ready.low, place);
      high = omega arith;
      boundary = place.next;
      next = place.next;
      before = λ none. absurd (true≢false (sym blank ∙ (unquoted_alike s before.frames (blocks_in before) source
          (sym (quotes_alike texts blocks (reached_of s before source).outer are) ∙ none) ∙ is)));
      after = AllPass-none is_in_blank_line text line.next;
    }))

-- after a blank line, where the containers were closed that it does not reach
pub closed_ready : (old new : Pass) (to : ℕ) → AreClosable new.placing.builder old.placed → new.lines.items ≡ []
    → new.placing.builder.text ≡ old.placing.builder.text
    → MovesOver old.placing.builder.text new.placing.builder.blocks old.placed new.placed to → IsReady new to
closed_ready old new to closable lines text was =
    let view = new.placing.builder in
    let moves : MovesOver view.text view.blocks old.placed new.placed to = rw text was in
    let low : view.at ≤ new.placed = omega (arith, closable.low, moves.low) in
    let white = λ (none : has_quote view.blocks ≡ false).
    white_both view.text view.at old.placed new.placed (closable.white none) (moves.before none) in
    read_ready new to (assumption (low, white, closable, moves))

-- after one that is held back
pub held_ready : (old now : Pass) (from to : ℕ) → IsReady old from
    → MayAddBefore old.placing.builder now.blanks.items to
    → MovesOver old.placing.builder.text (without_leaf old.placing.builder) old.placed now.placed to
    → IsReady (record old { blanks = now.blanks; looseness = now.looseness; placed = now.placed }) to
held_ready old now from to ready held moves =
    let view = old.placing.builder in
    let low : leaf_end old ≤ now.placed = omega (arith, ready.closable.low, moves.low) in
    let white = λ (none : has_quote (without_leaf view) ≡ false).
    white_both view.text (leaf_end old) old.placed now.placed (ready.closable.white none) (moves.before none) in
    assumption (low, ready, moves, white, λ (leaf : view.leaf ≡ true). held)

-- ---- the end

-- once all blocks are closed only white space is left
pub white_at_end : (old new : Pass) (from : ℕ) → IsReady old from → AreClosable new.placing.builder old.placed
    → new.placing.builder.blocks ≡ [] → new.placing.builder.text ≡ old.placing.builder.text
    → length new.placing.builder.text ≤ from
    → AllPass is_in_blank_line new.placing.builder.text new.placing.builder.at (length new.placing.builder.text)
white_at_end old new from ready closable none text end k low high =
    let view = new.placing.builder in
    white_both view.text view.at old.placed from (closable.white (ap has_quote none)) (rw text ready.white) k low
    (omega (arith, high, end))
