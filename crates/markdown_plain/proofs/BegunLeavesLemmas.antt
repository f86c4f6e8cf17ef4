-- Leaves and paragraphs that begin with the rest of a line, in the containers where there is room for them: what the
-- pass has placed then, and that they fit.
use Rattle.std.proofs.Common.{◌≡◌, ℕ, ◌≤◌, Bool, true, false, ◌&&◌, List, [], ◌∷◌, ◌++◌, Option, Some, None, map, refl}
use Rattle.std.proofs.Common.{sym, ap, ◌∙◌, subst, true≢false, arith, ◌==◌, if◌then◌else◌, nat_le, append-nil, ◌<◌, ◌+◌}
use Rattle.std.proofs.Common.{◌-◌, drop, slice_range, length, append_assoc, slice_index, unwrap_or, get_or-drop}
use Rattle.std.proofs.Common.{get_or-take, IsCharBoundary, option_and_then}
use Rattle.markdown_plain.proofs.Names.{and-true, or-true, Forest, nil, MetadataBlockKind, BuilderView, followed_by}
use Rattle.markdown_plain.proofs.Names.{LineLeft, leading_space, Space, Source, SourceLine, cut, is_blank_rest, stop_of}
use Rattle.markdown_plain.proofs.Names.{text_line, Line, HtmlKind, Position, left_from, Block, Kind, closes, ends_html}
use Rattle.markdown_plain.proofs.Names.{leaf_with, with_line, begun_by, content_of, inside_of, new_blocks, LeafKind}
use Rattle.markdown_plain.proofs.Names.{Pass, MayEnd, AreItemsInLists, Frame, touched, rebuilt, innermost_is, is_list}
use Rattle.markdown_plain.proofs.Names.{reached, room_depth, outer_within, IsLineRest, IsPlaced, leaf_block, is_leaf}
use Rattle.markdown_plain.proofs.Names.{is_table, BeginsText, HoldsParagraph, Before, IsReachedBy, LeavesOff}
use Rattle.markdown_plain.proofs.Names.{blocks_before, is_indented, reached_of, HasLast, HoldsBlanks, IsLeafKind}
use Rattle.markdown_plain.proofs.Names.{IsSource, PlacesFor, AreOpenedBefore, PlacesLast, with_last, none-some}
use Rattle.markdown_plain.proofs.Names.{prefix_len-le-length, prefix_len_passes, prefix_len, list_all, and_parts}
use Rattle.markdown_plain.proofs.Names.{or_right, nat_tests, Beginning, begins, begins_after, metadata_begun, left_at}
use Rattle.markdown_plain.proofs.Names.{HeldLine, ends_blank, block_end, is_blank_block, HasRoom, IsFound, IsHere}
use Rattle.markdown_plain.proofs.Names.{IsLeft, Turn, first, later, IfParagraphLast, Remembers, IsHeldLine}
use Rattle.markdown_plain.proofs.Names.{is_space_or_tab, is_in_blank_line, LineRest, Placing, IsReadyAfter, AreClosable}
use Rattle.markdown_plain.proofs.Names.{IsReady, has_quote, stepped, lines_end, source_of, IsBuilt, IsLooseAs}
use Rattle.markdown_plain.proofs.Names.{QuotesEnd, placed_end, IsLooseBefore, MayStep, held_line, AtxHeading}
use Rattle.markdown_plain.proofs.Names.{any_metadata, hyphen, Syntax, rest_of_part}
use Rattle.markdown_lines.specs.SourceLines.{end_of_line}
use Rattle.markdown_lines.specs.HtmlKinds.{ends_at_blank}
use Rattle.markdown_lines.specs.MetadataBlocks.{closes_metadata, is_three_of, metadata_opened}
use Rattle.markdown_lines.specs.declared.fence.Fence.{Fence}
use Rattle.markdown_plain.specs.LeafGrowth.{GrowsLeaf, IsCode, BeginsLeaf}
use Rattle.markdown_plain.specs.OpenLeaves.{IsLeafIn, has_ended}
use Rattle.markdown_plain.specs.Standing.{is_metadata, MetadataAlone, Places}
use Rattle.markdown_block_rules.specs.BlockRules.{block_ends_blank, last_is_blank}
use Rattle.markdown_plain.specs.Beginning.{IsInside, IsHeadingIn}
use Rattle.markdown_lines.specs.Lines.{IsFirstOther, IsNextContent}
use Rattle.markdown_plain.specs.Fitting.{IsAhead}
use Rattle.markdown_plain.specs.Fits.{MayAddHeading, MayOpenHtml, MayOpenLeaf}
use Rattle.markdown_base.specs.Syntax.{reads_metadata}
use Rattle.markdown_base.specs.Bytes.{plus_sign}
use Rattle.markdown_block_rules.specs.BlockGrowth as was
use Rattle.markdown_plain.specs.declared.pass.LeafKind.TheVariants as leaf
use Rattle.markdown_plain.specs.declared.containers.Reached as code
use Rattle.markdown_lines.specs.BlockBeginnings as line
use Rattle.markdown_lines.specs.declared.block_start.Before.TheVariants as paragraph
use Rattle.markdown_lines.specs.declared.block_start.BlockStart.TheVariants as start
use Rattle.markdown_base.specs.declared.tag.MetadataBlockKind.TheVariants as metadata
use Rattle.markdown_plain.proofs.FoundBlocksLemmas.{source_kept, KeepsRest, begun_in_room, still_may, begun_block}
use Rattle.markdown_plain.proofs.ReachedFramesLemmas.{blank_alike, whole_left, open_are_containers, space_alike}
use Rattle.markdown_plain.proofs.ReachedFramesLemmas.{AreAlike, is_over, leaf_is_over, nothing_is_over}
use Rattle.markdown_plain.proofs.OpenTablesLemmas.{in_leaf_open, leaf_known, leaf_goes_by, nothing_remembered}
use Rattle.markdown_plain.proofs.BlankStandingLemmas.{all_reached, before_last, next_after}
use Rattle.markdown_plain.proofs.OpenedFramesLemmas.{line_keeps, built_touched, earlier_touched, quotes_touched}
use Rattle.markdown_plain.proofs.TextReachedLemmas.{end_touched, leaf_grows, loose_grown, open_leaf_touched}
use Rattle.markdown_plain.proofs.TextReachedLemmas.{loose_with_leaf}
use Rattle.markdown_plain.proofs.OpenListsLemmas.{ends_more}
use Rattle.markdown_plain.proofs.LeafTreesLemmas.{few_owed, by_test}
use Rattle.markdown_plain.proofs.LinedLeavesLemmas.{grown_to, code_to_end, end_of_last, leaf_end}
use Rattle.markdown_plain.proofs.ReadyLinesLemmas.{next_between, ready_last, may_step, no_frames}
use Rattle.markdown_plain.proofs.BegunLemmas.{left_from_is_of, opens_metadata, sign_of, BeginsInside, after_inside}
use Rattle.markdown_plain.proofs.BegunContainersLemmas.{HoldsRest, begins_rest}
use Rattle.markdown_plain.proofs.HeldLinesLemmas.{first_remembered, kind_remembered}
use Rattle.markdown_plain.proofs.ClosableLemmas.{white_both}
use Rattle.markdown_plain.proofs.FoundPlacesLemmas.{left_stands}
use Rattle.markdown_plain.proofs.FramesLemmas.{reached_parts, within_parts, outer_taken, lists_leave}

-- ---- leaves that begin

-- what is built does not depend on the place
pub built_at : (s : Source) (old new : BuilderView) (to : ℕ) (frames : List Frame) (inside : Forest Block)
    → new ≡ stepped old to → IsBuilt s old frames inside → IsBuilt s new frames inside
built_at s old new to frames inside is built = rw is assumption

-- ---- the leaf

-- what a leaf is with which a line was placed, up to a byte offset: it has ended, or goes on as the pass remembers
pub record IsLeafOf (how : LeafKind) (kind : Kind) (to : ℕ) : Type 0 where
  pub leaf : is_leaf kind ≡ true
  pub plain : is_table kind ≡ false
  pub over : has_ended kind ≡ true → is_over kind ≡ true
  pub filled : block_ends_blank false kind ≡ false
  pub end : (b : Block) → b.last ≡ to → block_end b b.first kind ≡ to
  pub knows : has_ended kind ≡ false → IsLeafKind how kind
  pub holds : HoldsBlanks [] kind

-- a heading, a thematic break, code between fences, HTML and metadata end with their last line
abbrev pub ends_last : Kind → Bool
ends_last (was.fenced_leaf opening closed lines) = true
ends_last (was.html_leaf kind closed lines) = true
ends_last (was.metadata_leaf kind closed lines) = true
ends_last (was.heading_leaf found) = true
ends_last was.break_leaf = true
ends_last other = false

pub ends_last_is : {how : LeafKind} {to : ℕ} (kind : Kind) → ends_last kind ≡ true
    → (has_ended kind ≡ false → IsLeafKind how kind) → IsLeafOf how kind to
ends_last_is (was.fenced_leaf opening closed lines) is knows = assumption knows
ends_last_is (was.html_leaf kind closed lines) is knows = assumption knows
ends_last_is (was.metadata_leaf kind closed lines) is knows = assumption knows
ends_last_is (was.heading_leaf found) is knows = assumption knows
ends_last_is was.break_leaf is knows = assumption knows
ends_last_is other is knows = absurd (true≢false (sym is))

-- a leaf is no blank line
pub no_blank_line : (kind : Kind) → is_leaf kind ≡ true → is_blank_block kind ≡ false
no_blank_line was.blank_line leaf = absurd (true≢false (sym leaf))
no_blank_line other leaf = refl

-- in the containers that are open after a line, these blocks are in the innermost, and make all of these with them
pub record IsMade (s : Source) (now : Pass) (to : ℕ) (frames : List Frame) (inside blocks : Forest Block) : Type 0 where
  pub source : source_of now ≡ s
  pub quotes : QuotesEnd to frames
  pub earlier : AreOpenedBefore to frames
  pub loose : IsLooseAs now.looseness frames inside
  pub filled : ends_blank false inside ≡ false
  pub blanks : now.blanks.items ≡ []
  pub whole : blocks ≡ rebuilt frames inside
  pub items : AreItemsInLists false blocks

pub no_paragraph : (lines : List HeldLine) (to : ℕ) → lines ≡ [] → lines_end lines ≤ to
no_paragraph lines to none = rw none (omega arith)

module _ {s : Source} {now : Pass} {to : ℕ} {frames : List Frame} {inside blocks : Forest Block}
    (made : IsMade s now to frames inside blocks) where
  -- the line is placed, whether or not the last block has ended
  line_places : (before : Forest Block) (last : Option Block) → with_last before last ≡ inside
      → PlacesLast s now frames before last → MetadataAlone last frames → IfParagraphLast s (Remembers s now to) last
      → lines_end now.lines.items ≤ to → IsReadyAfter now to → PlacesFor s now to blocks
  line_places before last is unended alone remembers ends ready =
      let now_inside = with_last before last in let whole : blocks ≡ rebuilt frames now_inside = rw is made.whole in
      let items : AreItemsInLists false (rebuilt frames now_inside) = rw whole at made.items in
      let loose : IsLooseAs now.looseness frames now_inside = rw is made.loose in
      let filled : ends_blank false now_inside ≡ false = rw is made.filled in
      let placed : Places s now frames before last to =
      assumption (items, loose, filled, λ (e : now.placing.builder.leaf ≡ false). made.blanks) in
      record { frames = frames; inside = before; last = last; places = placed; whole = whole }

  -- where no lines are held back
  pub none_held : (before : Forest Block) (last : Option Block) → with_last before last ≡ inside
      → PlacesLast s now frames before last → MetadataAlone last frames → IfParagraphLast s (Remembers s now to) last
      → now.lines.items ≡ [] → now.placing.builder.at ≡ to → IsCharBoundary now.placing.builder.text to
      → PlacesFor s now to blocks
  none_held before last is unended alone remembers lines at boundary =
      line_places before last is unended alone remembers (no_paragraph now.lines.items to lines)
      (ready_last s now frames before last to unended lines made.blanks at boundary)

-- the line is placed by a leaf
pub leaf_is_placed : {s : Source} {now : Pass} {to next : ℕ} {frames : List Frame} {blocks : Forest Block}
    (before : Forest Block) (b : Block) → IsMade s now to frames (followed_by before (leaf_block b)) blocks
    → IsLeafOf now.leaf b.kind next → b.last ≡ next → to ≡ next → now.lines.items ≡ []
    → (is_metadata b.kind ≡ true → frames ≡ []) → IsCharBoundary now.placing.builder.text to
    → IsLeafIn s now.placing.builder frames before b (has_ended b.kind) → PlacesFor s now to blocks
leaf_is_placed {s} {now} {to} {frames = frames} {blocks} before b made of last same lines alone boundary =
    by_end (has_ended b.kind) refl
  where
    at_end : now.placing.builder.at ≡ placed_end frames (followed_by before (leaf_block b))
        → now.placing.builder.at ≡ to
    at_end at = at ∙ (leaf_end frames before b of.leaf ∙ (of.end b last ∙ sym same))

    by_end : (ended : Bool) → has_ended b.kind ≡ ended → IsLeafIn s now.placing.builder frames before b ended
        → PlacesFor s now to blocks
    by_end true ends is = none_held made (followed_by before (leaf_block b)) None refl
        (is, lines, leaf_is_over s before b (of.over ends)) tt tt lines (at_end is.at) boundary
    by_end false ends is = none_held made before (Some b) refl (
      None,
      (of.leaf, rw of.plain is),
      (leaf_goes_by now.leaf b.kind of.plain (of.knows ends), rw made.blanks of.holds, lines),
    ) alone (nothing_remembered s (Remembers s now to) b.kind of.leaf) lines (at_end is.end) boundary

-- the line is placed by a leaf that begins where there is room for it, after a step
pub leaf_in_room : {s : Source} {room now : Pass} {rest : LineRest} {source : SourceLine} {begun : Beginning}
    {blocks : Forest Block} {to : ℕ} (has : HasRoom s room rest source begun blocks) (placing : Placing) (kind : Kind)
    (start : ℕ) → placing.builder ≡ stepped room.placing.builder to → KeepsRest room now
    → BeginsLeaf (record room { placing = placing }) now kind start rest.line.next (has_ended kind)
    → IsLeafOf now.leaf kind source.next → (is_metadata kind ≡ true → has.frames ≡ [])
    → new_blocks (inside_of (begun_by s) source) source begun
    ≡ leaf_block (record { start = start; first = source.next; last = source.next; kind = kind })
    → PlacesFor s now rest.line.next blocks
leaf_in_room {s} {room} {now} {rest} {source} {to = to} has placing kind start steps keeps leaf of alone begins =
    let b : Block = record { start = start; first = source.next; last = source.next; kind = kind } in
    let may = still_may s room now rest.line has.frames has.inside has.may keeps in
    let loose = loose_with_leaf now.looseness has.frames has.inside b (no_blank_line kind of.leaf) may.loose in
    leaf_is_placed has.inside b (assumption (
      may,
      has,
      loose,
      ends_more false has.inside (leaf_block b) ∙ of.filled,
      rw begins at (begun_in_room has),
    )) of refl has.left.is.rest.next may.lines alone (rw (ap (λ (r : Source). r.text) may.source)
    (next_between s.text rest.line.start rest.line has.left.utf8 has.left.from)) (leaf s has.frames has.inside b
    (built_at s room.placing.builder placing.builder to has.frames has.inside steps has.built)
    (sym (ap (λ (r : Source). r.syntax) has.may.source)) refl refl (sym has.left.is.rest.next))

-- ---- nothing

-- what the open containers left of a line is not blank, so that it begins something
nothing_later : {s : Source} {old : Pass} {rest : LineRest} {source : SourceLine} {at : ℕ} {blocks : Forest Block}
    (turn : Turn) → IsHere s old rest turn source blocks → IsFound s rest source at start.Nothing
    → (frames : List Frame) × IsInside s old rest frames source blocks
nothing_later {s} {rest = rest} {source} (first before line) here found =
    absurd (none-some (begins s rest.before source) (rw here.filled at found.is))
nothing_later (later frames) here found = (frames, here)

-- the line is placed by the containers alone
pub nothing_places : (s : Source) (old now : Pass) (rest : LineRest) (turn : Turn) (source : SourceLine)
    (at : ℕ) (blocks : Forest Block) → IsHere s old rest turn source blocks
    → IsFound s rest source at start.Nothing → now ≡ record old { placing = now.placing }
    → now.placing.builder ≡ stepped old.placing.builder rest.line.next → PlacesFor s now rest.line.next blocks
nothing_places s old now rest turn source at blocks here found same steps =
    let later = nothing_later turn here found in
    let frames = later.0 in let state = later.1 in let opened = state.opened in let free = opened.free in
    let text : now.placing.builder.text ≡ old.placing.builder.text = rw steps refl in
    let lines : now.lines.items ≡ [] = rw same free.lines in
    let loose : IsLooseAs now.looseness frames nil = rw same free.loose in
    let blanks : now.blanks.items ≡ [] = rw same free.blanks in
    let whole : blocks ≡ rebuilt frames nil = by_test (is_blank_rest source) (λ blank. rw blank at state.whole)
    (λ other. absurd (none-some (begins s paragraph.NoParagraph source) (rw (state.before, other) at found.is))) in
    let made : IsMade s now rest.line.next frames nil blocks =
    assumption (source_kept s old now text (ap (λ (p : Pass). p.syntax) same) opened.source, opened, state, whole) in
    none_held made nil None refl (
      record {
        built = built_at s old.placing.builder now.placing.builder rest.line.next frames nil steps free.built;
        at = rw steps (sym opened.first);
      },
      lines,
      nothing_is_over s,
    ) tt tt lines (rw steps refl) (rw (text, ap (λ (r : Source). r.text) opened.source)
    (next_between s.text rest.line.start rest.line state.left.utf8 state.left.from))

-- ---- an HTML block

-- the byte that begins the content of a line's rest is the next that is in no blank line
pub content_next : (text : List ℕ) (position : Position) (line : Line) (source : SourceLine) (held : HeldLine)
    → IsLineRest text position line source → held.start ≡ content_of source → IsHeldLine text held
    → IsNextContent text position.at (Some (content_of source))
content_next text position line source held is place holds =
    let here : position.at ≡ source.left.scanned = ap (λ (l : LineLeft). l.scanned) is.rest.left in
    let white = prefix_len is_space_or_tab source.left.bytes in
    let within = prefix_len-le-length is_space_or_tab source.left.bytes in
    rw (← place) (
      omega (arith, holds.some, holds.content.high),
      record {
        low = omega (arith, place, here);
        boundary = holds.boundary;
        passes = λ at from before.
            let k : position.at + (at - position.at) ≡ at = omega (arith, from) in
            let few : at - position.at < white = omega (arith, from, before, place, here) in
            let byte : slice_index source.left.bytes (at - position.at) ≡ slice_index text at =
            ap (λ (bs : List ℕ). slice_index bs (at - position.at)) (sym (ap (λ (l : LineLeft). l.bytes) is.rest.left))
            ∙ (get_or-take (line.stop - position.at) (drop position.at text) (at - position.at) 0
            (omega (arith, few, within, is.stop, here))
            ∙ (get_or-drop position.at text (at - position.at) 0 ∙ ap (slice_index text) k)) in
            rw (← byte, prefix_len_passes is_space_or_tab source.left.bytes (at - position.at) 0 few) refl;
        stops = λ more. rw holds.first (holds.content.content held.start (omega arith) holds.some);
      },
    )

-- ---- indented code

last_filled : (lines : List SourceLine) (l : SourceLine) → is_blank_rest l ≡ false
    → last_is_blank (lines ++ l ∷ []) ≡ false
last_filled [] l some = some
last_filled (m ∷ []) l some = some
last_filled (m ∷ n ∷ lines) l some = last_filled (n ∷ lines) l some

-- indented code with a line that is not blank ends with it, and no blank lines are held back
pub code_is : (lines : List SourceLine) (l : SourceLine) → is_blank_rest l ≡ false
    → IsLeafOf leaf.Indented (was.indented_leaf (lines ++ l ∷ [])) l.next
code_is lines l filled = record {
  leaf = refl;
  plain = refl;
  over = λ e. e;
  filled = last_filled lines l filled;
  end = λ b e. rw (code_to_end lines l filled) (end_of_last b.first lines l);
  knows = λ e. tt;
  holds = ([], sym (append-nil _ ∙ code_to_end lines l filled), tt);
}

-- ---- paragraphs that begin

-- the rest of a line, from a byte offset on
abbrev pub held_from : Line → ℕ → HeldLine
held_from line at = record { start = at; stop = line.stop; next = line.next; owed = 0 }

-- text that begins with the rest of a line
pub text_begins : (text : List ℕ) (position : Position) (line : Line) (source : SourceLine) (at : ℕ)
    → IsLineRest text position line source → at ≡ content_of source → IsHeldLine text (held_from line at)
    → BeginsText text (held_from line at) (text_line source)
    (begun_block source (was.paragraph_leaf (text_line source ∷ [])))
text_begins text position line source at is place held =
    let white = prefix_len is_space_or_tab source.left.bytes in
    let from : at ≡ position.at + white =
    omega (arith, place, ap (λ (l : LineLeft). l.scanned) is.rest.left) in
    let other : (at == line.stop) ≡ false = grind (arith, nat_tests, held.some) in
    record {
      is = record {
        start = place;
        bytes = ap (λ n. slice_range text n line.stop) from ∙ (sym (rest_of_part text position.at line.stop white)
            ∙ ap (λ (l : LineLeft). drop white l.bytes) is.rest.left);
        next = is.rest.next;
      };
      inside = rw other (omega arith, (held, tt));
      some = omega (arith, held.some, is.ends);
      kind = refl;
      last = refl;
    }

-- a line that is not blank does not end at 0
filled_end : (bytes : List ℕ) (scanned stop : ℕ) → list_all is_space_or_tab bytes ≡ false
    → stop ≡ scanned + length bytes → 0 < stop
filled_end [] scanned stop filled is = absurd (true≢false filled)
filled_end (b ∷ bytes) scanned stop filled is = omega (arith, is)

-- the paragraph that may follow an alert's marker
abbrev pub end_block : SourceLine → Block
end_block l = record {
  start = stop_of l;
  first = l.next;
  last = l.next;
  kind = was.paragraph_leaf (end_of_line l ∷ []);
}

pub end_begins : (text : List ℕ) (position : Position) (line : Line) (source : SourceLine)
    → IsLineRest text position line source → is_blank_rest source ≡ false
    → BeginsText text (held_from line line.stop) (end_of_line source) (end_block source)
end_begins text position line source is filled =
    let none : line.stop - line.stop ≡ 0 = omega arith in
    let over : (line.stop == line.stop) ≡ true = grind (arith, nat_tests) in
    record {
      is = record { start = is.stop; bytes = rw none refl; next = is.rest.next };
      inside = rw over tt;
      some = omega (arith, is.ends, filled_end source.left.bytes source.left.scanned line.stop filled is.stop);
      kind = refl;
      last = refl;
    }

-- the line is placed by a paragraph that begins
pub text_inside : (s : Source) (now : Pass) (line : Line) (at : ℕ) (frames : List Frame) (before blocks : Forest Block)
    (b : Block) (source : SourceLine) → b.kind ≡ was.paragraph_leaf (source ∷ []) → source_of now ≡ s
    → HoldsParagraph s now frames before b (source ∷ []) → QuotesEnd line.next frames → AreOpenedBefore line.next frames
    → IsLooseBefore now.looseness frames before → now.blanks.items ≡ [] → now.lines.items ≡ held_from line at ∷ []
    → blocks ≡ rebuilt frames (followed_by before (leaf_block b)) → AreItemsInLists false blocks → now.tried ≡ false
    → IsReadyAfter now line.next → PlacesFor s now line.next blocks
text_inside s now line at frames before blocks b source kind same holds quotes earlier loose blanks lines begins
    items untried ready =
    let last_loose = loose_with_leaf now.looseness frames before b (rw kind refl) loose in
    let filled : ends_blank false (followed_by before (leaf_block b)) ≡ false =
    ends_more false before (leaf_block b) ∙ rw kind refl in
    line_places (assumption (last_loose, filled)) before (Some b) refl (Some (source ∷ []), holds, tt)
    (λ is. absurd (true≢false (sym is ∙ rw kind refl)))
    (kind_remembered s (Remembers s now line.next) b.kind (source ∷ []) kind
    (λ reads. first_remembered s now line.next (held_from line at) source lines refl untried))
    (rw lines (omega arith)) ready

-- the white space before the content of a line's rest
content_white : (s : Source) (rest : LineRest) (source : SourceLine) → IsLeft s rest source
    → is_blank_rest source ≡ false → IsFirstOther is_in_blank_line s.text rest.position.at (content_of source)
content_white s rest source left filled =
    (content_next s.text rest.position rest.line source (held_line rest.line (content_of source)) left.is refl
    (left_stands s rest source (content_of source) left filled refl)).1

-- ---- a line that no container took anything of

-- where none stays open for a block that begins, there was one list at most
pub nothing_taken : (s : Source) (frames : List Frame) (inside : Forest Block) (l : SourceLine)
    → outer_within (room_depth (length (reached s frames inside l).outer) frames) frames ≡ []
    → (reached s frames inside l).rest ≡ l
nothing_taken s frames inside l none = lists_leave s frames inside l (by_outer _ refl (rw outer_taken at none))
  where
    by_outer : (outer : List Frame) → (reached s frames inside l).outer ≡ outer
        → outer_within (if innermost_is is_list (reached s frames inside l).outer
        then length (reached s frames inside l).outer - 1 else length (reached s frames inside l).outer) frames ≡ []
        → list_all (λ (f : Frame). is_list f.block.kind) (reached s frames inside l).outer ≡ true
    by_outer [] is none = rw is refl
    by_outer (f ∷ outer) is none =
        let r = reached s frames inside l in
        by_test (is_list f.block.kind) (λ list.
        let size : length r.outer - 1 ≡ length outer = omega (arith, ap length is) in
        let parts : (r.inner ++ f ∷ []) ++ outer ≡ frames = append_assoc r.inner (f ∷ []) outer
        ∙ (ap (λ (fs : List Frame). r.inner ++ fs) (sym is) ∙ reached_parts s frames inside l) in
        let there = rw parts at (within_parts (r.inner ++ f ∷ []) outer (length outer) refl).0 in
        let alone : outer ≡ [] = sym there ∙ (rw (ap (innermost_is is_list) is ∙ list, size) at none) in
        rw (is, alone, list) refl) (λ plain.
        absurd (omega (
          arith,
          ap length is,
          ap length (sym (outer_taken s frames inside l) ∙ (rw (ap (innermost_is is_list) is ∙ plain) at none)),
        )))

-- ---- where room was made

-- a step to the content of a line's rest fits, and the rest begins not before the current byte offset
pub record IsReadyIn (view : BuilderView) (rest : LineRest) (source : SourceLine) : Type 0 where
  pub ready : MayStep view (content_of source)
  pub low : view.at ≤ rest.position.at

-- after the containers that go on in the line; where no block is open, none of them took anything of it
pub ready_first : (s : Source) (old : Pass) (view : BuilderView) (rest : LineRest) (source : SourceLine)
    → old.placing.builder.text ≡ s.text → view.text ≡ s.text → IsReady old rest.line.start
    → AreClosable view old.placed → IsLeft s rest source → is_blank_rest source ≡ false
    → (view.blocks ≡ [] → rest.position.at ≡ rest.line.start) → IsReadyIn view rest source
ready_first s old view rest source text now ready is left filled whole =
    let content = content_white s rest source left filled in
    record {
      ready = record {
        ahead = (omega (arith, is, ready, left.after, content.low), rw now content.boundary);
        white = λ none. rw now (white_both s.text view.at old.placed (content_of source)
            (rw now at (is.white (ap has_quote none)))
            (white_both s.text old.placed rest.line.start (content_of source) (rw text at ready.white)
            (rw (whole none) at content.passes)));
      };
      low = omega (arith, is, ready, left.after);
    }

-- inside containers that the line opened, of which there is one
pub ready_later : (s : Source) (view : BuilderView) (rest : LineRest) (source : SourceLine) → view.text ≡ s.text
    → (view.blocks ≡ [] → ⊥) → view.at ≤ rest.position.at → IsLeft s rest source → is_blank_rest source ≡ false
    → IsReadyIn view rest source
ready_later s view rest source now some low left filled =
    let content = content_white s rest source left filled in
    let ready = may_step view (content_of source) (omega (arith, low, content)) (rw now content.boundary) some in
    record { ready = ready; low = low }

-- ---- they fit

module _ {s : Source} {room : Pass} {rest : LineRest} {source : SourceLine} {begun : Beginning} {blocks : Forest Block}
    (has : HasRoom s room rest source begun blocks) where
  -- the text is that of the definition
  room_text : room.placing.builder.text ≡ s.text
  room_text = ap (λ (r : Source). r.text) has.may.source

  -- the line ends between characters
  room_next : IsCharBoundary room.placing.builder.text rest.line.next
  room_next = rw room_text (next_between s.text rest.line.start rest.line has.left.utf8 has.left.from)

  -- it is the line of the definition
  pub room_rest : IsLineRest room.placing.builder.text rest.position rest.line source
  room_rest = rw room_text has.left.is

  -- its content is in the line
  content_within_line : content_of source ≤ rest.line.next
  content_within_line =
      omega (arith, prefix_len-le-length is_space_or_tab source.left.bytes, has.left.is.stop, has.left.is.ends)

  -- a leaf fits that begins in the rest of the line, before its content or there
  leaf_at : (at : ℕ) → at ≤ content_of source → MayStep room.placing.builder at
      → MayOpenLeaf room.placing.builder at rest.line.next
  leaf_at at high begins = record {
    outside = has.built.outside;
    begins = begins;
    ordered = omega (arith, high, content_within_line);
    next = room_next;
  }

  leaf_fits : (at : ℕ) → rest.position.at ≤ at → at ≤ content_of source
      → IsCharBoundary room.placing.builder.text at → MayOpenLeaf room.placing.builder at rest.line.next
  leaf_fits at low high boundary = leaf_at at high (record {
    ahead = (omega (arith, has.low, low), boundary);
    white = λ none k from less. has.ready.white none k from (omega (arith, less, high));
  })

  -- and one that begins at its content
  pub content_fits : (at : ℕ) → at ≡ content_of source → MayOpenLeaf room.placing.builder at rest.line.next
  content_fits at here = leaf_at at (omega (arith, here)) (rw here has.ready)

  -- the line ends after that place
  pub next_ahead : (view : BuilderView) (at : ℕ) → at ≡ content_of source → view ≡ stepped room.placing.builder at
      → IsAhead view rest.line.next
  next_ahead view at here is = rw is (omega (arith, here, content_within_line), room_next)

  -- a heading fits there that is in the line
  pub heading_fits : (view : BuilderView) (at : ℕ) (heading : AtxHeading) → at ≡ content_of source
      → view ≡ stepped room.placing.builder at → IsHeadingIn room.placing.builder.text rest.line at heading
      → MayAddHeading view rest.line heading
  heading_fits view at heading here is in_line = rw is (record {
    outside = has.built.outside;
    from = (in_line.after, in_line.from);
    ordered = in_line.ordered;
    to = in_line.to;
    within = omega (arith, in_line.within, has.left.is.ends);
    next = room_next;
  })

  -- an HTML block fits, and has its first content byte there
  pub html_next : (at : ℕ) → at ≡ content_of source → IsHeldLine room.placing.builder.text (held_line rest.line at)
      → IsNextContent room.placing.builder.text rest.position.at (Some (content_of source))
  html_next at here holds =
      content_next room.placing.builder.text rest.position rest.line source (held_line rest.line at) room_rest here
      holds

  pub html_fits : (at : ℕ) → at ≡ content_of source → IsHeldLine room.placing.builder.text (held_line rest.line at)
      → MayOpenHtml room.placing.builder rest.line rest.position
  html_fits at here holds =
      let next = html_next at here holds in (
        leaf_fits rest.position.at (omega arith) next.1.low (rw room_text has.left.boundary),
        record { content = content_of source; next = next; within = content_within_line },
      )

-- ---- where there is room for indented code

module _ {s : Source} {room : Pass} {rest : LineRest} {source : SourceLine} {blocks : Forest Block} (code : Position)
    (has : HasRoom s room rest source (line.begins_indented (left_at rest.reader code)) blocks) where
  -- the code that begins where there is room has the content of the line's rest
  pub code_in_room : AreAlike (left_at rest.reader code) source.left × ((left_at rest.reader code).owed ≤ 3)
      × (source.left.scanned ≤ code.at)
  code_in_room =
      let is = has.left.is.rest in
      subst (HoldsRest source.left) has.is (begins_rest s paragraph.NoParagraph source
      (left_from_is_of s.text rest.position rest.line.stop source.left is.left) (rw (← is.left) is.few))

  -- what is left of the line is its first line
  pub code_rest : IsLineRest room.placing.builder.text code rest.line
      (record source { left = left_at rest.reader code })
  code_rest =
      let left = has.left in
      let is : IsLineRest s.text code rest.line (record source { left = left_at rest.reader code }) = record {
        rest = record { left = rw (← left.stop, ← left.text) refl; few = code_in_room.1; next = left.is.rest.next };
        stop = left.is.stop ∙ sym code_in_room.0.end;
        ends = left.is.ends;
      } in
      rw (ap (λ (r : Source). r.text) has.may.source) is

  -- it fits after its space
  pub code_fits : IsCharBoundary room.placing.builder.text code.at
      → MayOpenLeaf room.placing.builder code.at rest.line.next
  code_fits boundary =
      leaf_fits has code.at (omega (arith, ap (λ (l : LineLeft). l.scanned) has.left.is.rest.left, code_in_room.2))
      (omega (arith, code_in_room.0.content)) boundary

-- ---- nothing

-- the line is passed over in the container that was opened in it
pub nothing_fits : (s : Source) (old : Pass) (rest : LineRest) (turn : Turn) (source : SourceLine) (at : ℕ)
    (blocks : Forest Block) → IsHere s old rest turn source blocks → IsFound s rest source at start.Nothing
    → MayStep old.placing.builder rest.line.next
nothing_fits s old rest turn source at blocks here found =
    let later = nothing_later turn here found in
    let state = later.1 in let view = old.placing.builder in let left = state.left in
    record {
      ahead = (
        omega (arith, state.ahead, ap (λ (l : LineLeft). l.scanned) left.is.rest.left, left.is.stop, left.is.ends),
        rw (ap (λ (r : Source). r.text) state.opened.source)
            (next_between s.text rest.line.start rest.line left.utf8 left.from),
      );
      white = λ none at from less.
          let alone = no_frames view.texts view.blocks later.0 state.opened.free.built.blocks none in
          let over : 0 ≡ rest.line.next = rw alone at state.opened.first in absurd (omega (arith, over, less));
    }

-- ---- metadata

-- three times a byte that is no space begin with no space
no_space : (byte : ℕ) (content : List ℕ) → is_space_or_tab byte ≡ false → is_three_of byte content ≡ true
    → prefix_len is_space_or_tab content ≡ 0
no_space byte [] solid three = refl
no_space byte (b ∷ bytes) solid three = by_test (b == byte) (λ e.
    let first : b ≡ byte = grind (arith, nat_tests, e) in rw (first, solid) refl)
    (λ e. absurd (true≢false (sym (rw e at three))))

-- what opens metadata begins with no space, and metadata is read
opens_is : (kind : MetadataBlockKind) (syntax : Syntax) (content : List ℕ) → reads_metadata syntax kind ≡ true
    → is_three_of (sign_of kind) content ≡ true
    → (any_metadata syntax ≡ true) × (prefix_len is_space_or_tab content ≡ 0)
opens_is metadata.YamlStyle syntax content read three = (rw read refl, no_space hyphen content refl three)
opens_is metadata.PlusesStyle syntax content read three =
    (or_right syntax.yaml (reads_metadata syntax metadata.PlusesStyle) read, no_space plus_sign content refl three)

-- a line begins metadata where that is read, directly under the root, and with its first byte
pub record IsMetadata (s : Source) (l : SourceLine) : Type 0 where
  pub outermost : l.outermost ≡ true
  pub read : any_metadata s.syntax ≡ true
  pub solid : prefix_len is_space_or_tab l.left.bytes ≡ 0

metadata_begins : (s : Source) (l : SourceLine) (kind : MetadataBlockKind)
    → begins s paragraph.NoParagraph l ≡ line.begins_metadata kind → IsMetadata s l
metadata_begins s l kind is = by_test (space.columns == 4) (λ full. absurd (subst BeginsInside (rw full at is) tt))
    (λ few. by_opened l.outermost (metadata_opened s.syntax s.text l.left.bytes l.next) refl refl (rw few at is))
  where
    space : Space
    space = leading_space 4 l.left

    after : Beginning
    after = begins_after s paragraph.NoParagraph space.columns space.after

    not_after : after ≡ line.begins_metadata kind → IsMetadata s l
    not_after is = absurd (subst BeginsInside is (after_inside s paragraph.NoParagraph space.columns space.after refl))

    by_opened : (outermost : Bool) (opened : Option MetadataBlockKind) → l.outermost ≡ outermost
        → metadata_opened s.syntax s.text l.left.bytes l.next ≡ opened
        → unwrap_or (if outermost then option_and_then (metadata_begun paragraph.NoParagraph) opened else None) after
        ≡ line.begins_metadata kind → IsMetadata s l
    by_opened true (Some found) under opens is =
        let of = opens_metadata s.syntax s.text l.left.bytes l.next found opens in
        let is = opens_is found s.syntax l.left.bytes of.read of.three in
        record { outermost = under; read = is.0; solid = is.1 }
    by_opened outermost opened under opens is = not_after is

-- ---- where there is room for it

module _ {s : Source} {room : Pass} {rest : LineRest} {source : SourceLine} {blocks : Forest Block}
    (kind : MetadataBlockKind) (has : HasRoom s room rest source (line.begins_metadata kind) blocks) where
  -- it is in no container
  pub metadata_alone : has.frames ≡ []
  metadata_alone = has.outermost (metadata_begins s source kind has.is).outermost

  -- and begins where its line does
  pub metadata_starts : content_of source ≡ rest.line.start
  metadata_starts =
      let is = metadata_begins s source kind has.is in
      let first = (and_parts rest.reader.outermost (rest.position.at == rest.reader.start)
      (has.left.outermost is.read ∙ is.outermost)).1 in
      let same : rest.position.at ≡ rest.reader.start = grind (arith, nat_tests, first) in
      omega (arith, is.solid, has.left.start, ap (λ (l : LineLeft). l.scanned) has.left.is.rest.left, same)

-- ---- an open leaf with one more line

pub placed_touched : (l : SourceLine) (s : Source) (view : BuilderView) (frames : List Frame) (inside : Forest Block)
    → IsPlaced s view frames inside → IsPlaced s view (map (touched l) frames) inside
placed_touched l s view frames inside placed = record {
  built = built_touched l s view frames inside placed.built;
  at = placed.at ∙ sym (end_touched l frames inside);
}

leaf_touched : (l : SourceLine) (s : Source) (view : BuilderView) (frames : List Frame) (inside : Forest Block)
    (b : Block) (ended : Bool) → IsLeafIn s view frames inside b ended
    → IsLeafIn s view (map (touched l) frames) inside b ended
leaf_touched l s view frames inside b true is = placed_touched l s view frames (followed_by inside (leaf_block b)) is
leaf_touched l s view frames inside b false is = open_leaf_touched l s view frames inside true b is

-- a leaf of a kind is another with a line, which may be added to it, and no line is held back then
pub record GrownTo (new : Pass) (rest : SourceLine) (how : LeafKind) (may_be : SourceLine → Type 0) (kind : Kind)
    (grown : Option Kind) : Type 0 where
  pub now : Kind
  pub line : may_be rest
  pub is : grown ≡ Some now
  pub of : IsLeafOf how now rest.next
  pub alone : is_metadata now ≡ is_metadata kind
  pub held : new.blanks.items ≡ []

-- this is so where it is known what it is
grown_is : {new : Pass} {rest : SourceLine} {how : LeafKind} {may_be : SourceLine → Type 0} {kind : Kind} (now : Kind)
    → may_be rest → IsLeafOf how now rest.next → is_metadata now ≡ is_metadata kind → new.blanks.items ≡ []
    → GrownTo new rest how may_be kind (Some now)
grown_is now line of alone held =
    record { now = now; line = line; is = refl; of = of; alone = alone; held = held }

-- it grows by the rest of a line
abbrev pub GrownFrom : Source → Pass → SourceLine → LeafKind → (SourceLine → Type 0) → Kind → Type 0
GrownFrom s new rest how may_be kind = GrownTo new rest how may_be kind (leaf_with s rest kind)

-- ---- the open leaf, by its kind

-- the last block before a line is a leaf, where one is open
leaf_case : (P : Before → Type 0) (s : Source) (pass : Pass) (before : Before) (how : LeafKind)
    → HasLast s pass before.frames before.inside before.last → pass.leaf ≡ how → pass.placing.builder.leaf ≡ true
    → ((b : Block) → MayEnd s pass before.frames before.inside b None → IsLeafKind how b.kind
    → HoldsBlanks pass.blanks.items b.kind → pass.lines.items ≡ [] → P (before_last before.frames before.inside b))
    → P before
leaf_case P s pass before how has how_is leaf some = by_last before.last has
  where
    by_last : (last : Option Block) → HasLast s pass before.frames before.inside last
        → P (record { frames = before.frames; inside = before.inside; last = last })
    by_last None has = absurd (true≢false (sym leaf ∙ has.0.stands.built.outside))
    by_last (Some b) (None, may, knows) =
        some b may (subst (λ h. IsLeafKind h b.kind) how_is
        (leaf_known pass.leaf b.kind (sym may.unended.1.leaf ∙ leaf) knows.0)) knows.1 knows.2
    by_last (Some b) (Some sources, may, knows) = absurd (true≢false (sym leaf ∙ may.unended.built.outside))

-- the rest of the line
pub line_rest : (s : Source) (pass : Pass) (line : Line) (found : code.Reached) (before : Before)
    (source : SourceLine) → IsReachedBy s pass line found before source
    → IsLineRest pass.placing.builder.text found.position line (reached_of s before source).rest
line_rest s pass line found before source by =
    let ends = by.is.from.ends in let high : line.stop ≤ line.next = omega (arith, ends) in
    assumption (by.reaches, high)

-- the pass with one more line placed, where a leaf is open
abbrev pub PlacesLine : Source → Pass → Pass → Line → code.Reached → SourceLine → Before → Type 0
PlacesLine s old new line found source before =
    IsReachedBy s old line found before source → (reached_of s before source).inner ≡ []
    → PlacesFor s new line.next (with_line s (blocks_before before) source)

-- the line is placed by a leaf that is open, and grows by it
pub leaf_places : (s : Source) (old new : Pass) (line : Line) (found : code.Reached) (before : Before)
    (source : SourceLine) (how : LeafKind) (may_be : SourceLine → Type 0) → old.leaf ≡ how
    → old.placing.builder.leaf ≡ true → new ≡ record old { placing = new.placing; blanks = new.blanks }
    → new.placing.builder.text ≡ old.placing.builder.text → GrowsLeaf old new how may_be
    → ((b : Block) → IsReachedBy s old line found (before_last before.frames before.inside b) source
    → (reached_of s (before_last before.frames before.inside b) source).inner ≡ []
    → IsLeafKind how b.kind → HoldsBlanks old.blanks.items b.kind
    → GrownFrom s new (reached_of s (before_last before.frames before.inside b) source).rest how may_be b.kind)
    → IsReachedBy s old line found before source → PlacesLine s old new line found source before
leaf_places s old new line found before source how may_be how_is open_leaf same text grows goes by =
    leaf_case (PlacesLine s old new line found source) s old before how by.stands.unended how_is open_leaf placed
  where
    placed : (b : Block) → MayEnd s old before.frames before.inside b None → IsLeafKind how b.kind
        → HoldsBlanks old.blanks.items b.kind → old.lines.items ≡ []
        → PlacesLine s old new line found source (before_last before.frames before.inside b)
    placed b may known held empty by none =
        let frames = before.frames in let inside = before.inside in
        let rest = (reached_of s (before_last frames inside b) source).rest in let g = goes b by none known held in
        let c = grown_to b rest.next g.now in let around = may.unended.1.around in
        let leaf_is : new.leaf ≡ how = rw same how_is in
        leaf_is_placed inside c (record {
          source = source_kept s old new text (ap (λ (p : Pass). p.syntax) same) by.stands.source;
          quotes = quotes_touched source line.next (sym by.is.next) frames;
          earlier = earlier_touched source line.start line.next (next_after old line source by.is) frames
              by.stands.earlier;
          loose = rw (ap (λ (p : Pass). p.looseness) same) (loose_grown source old.looseness frames inside b c
              (no_blank_line b.kind may.unended.0 ∙ sym (no_blank_line g.now g.of.leaf)) by.stands.loose);
          filled = ends_more false inside (leaf_block c) ∙ g.of.filled;
          blanks = g.held;
          whole = leaf_grows s frames inside b source g.now (open_are_containers old.placing.builder.texts
              may.unended.1.outer frames around.blocks) around.nested none may.unended.0 g.is;
          items = line_keeps s (blocks_before (before_last frames inside b)) source may.items;
        }) (rw leaf_is g.of) refl by.reaches.rest.next (rw same empty)
        (λ metadata. ap (map (touched source)) (by.stands.alone (sym g.alone ∙ metadata)))
        (rw text (next_between old.placing.builder.text line.start line by.is.utf8 by.is.from))
        (leaf_touched source s new.placing.builder frames inside c (has_ended g.now)
        (grows s frames inside b rest g.now (in_leaf_open s old frames inside b may open_leaf) known held g.line g.is))

-- ---- how each kind of leaf grows

-- an open leaf of a kind, as the pass remembers it, grows by a line of the definition
abbrev pub GrowsWith : Source → Pass → Pass → SourceLine → LeafKind → (SourceLine → Type 0) → Kind → Type 0
GrowsWith s old new rest how may_be kind =
    may_be rest → new.blanks.items ≡ old.blanks.items → IsLeafKind how kind → HoldsBlanks old.blanks.items kind
    → GrownFrom s new rest how may_be kind

-- a leaf ends with a line, or has one line more
ends_or_grows : {new : Pass} {rest : SourceLine} {how : LeafKind} {may_be : SourceLine → Type 0}
    (kind : Bool → List SourceLine → Kind) (lines : List SourceLine) (more : SourceLine) (test : Bool) → may_be rest
    → new.blanks.items ≡ [] → ((ended : Bool) (lines : List SourceLine) → IsLeafOf how (kind ended lines) rest.next)
    → ((ended : Bool) (now : List SourceLine) → is_metadata (kind ended now) ≡ is_metadata (kind false lines))
    → GrownTo new rest how may_be (kind false lines)
    (if test then Some (kind true lines) else Some (kind false (lines ++ more ∷ [])))
ends_or_grows kind lines more true line held of alone =
    grown_is (kind true lines) line (of true lines) (alone true lines) held
ends_or_grows kind lines more false line held of alone =
    let now = lines ++ more ∷ [] in grown_is (kind false now) line (of false now) (alone false now) held

pub fenced_grown : (s : Source) (old new : Pass) (rest : SourceLine) (fence : Fence) (may_be : SourceLine → Type 0)
    (kind : Kind) → GrowsWith s old new rest (leaf.Fenced fence) may_be kind
fenced_grown s old new rest fence may_be (was.fenced_leaf opening false lines) line kept how held =
    ends_or_grows (was.fenced_leaf opening) lines (cut opening.fence.indent rest) (closes s rest opening.fence) line
    (kept ∙ held) (λ ended now. ends_last_is (was.fenced_leaf opening ended now) refl (λ e. rw e how))
    (λ ended now. refl)
fenced_grown s old new rest fence may_be other line kept how held = absurd how

pub metadata_grown : (s : Source) (old new : Pass) (rest : SourceLine) (kind : MetadataBlockKind)
    (may_be : SourceLine → Type 0) (k : Kind) → GrowsWith s old new rest (leaf.Metadata kind) may_be k
metadata_grown s old new rest kind may_be (was.metadata_leaf found false lines) line kept how held =
    ends_or_grows (was.metadata_leaf found) lines rest (closes_metadata found rest.left.bytes) line (kept ∙ held)
    (λ ended now. ends_last_is (was.metadata_leaf found ended now) refl (λ e. rw e how)) (λ ended now. refl)
metadata_grown s old new rest kind may_be other line kept how held = absurd how

pub html_grown : (s : Source) (old new : Pass) (rest : SourceLine) (kind : HtmlKind) (may_be : SourceLine → Type 0)
    (k : Kind) → (is_blank_rest rest && ends_at_blank kind) ≡ false → GrowsWith s old new rest (leaf.Html kind) may_be k
html_grown s old new rest kind may_be (was.html_leaf found false lines) more line kept how held =
    let now = was.html_leaf kind (ends_html kind rest) (lines ++ rest ∷ []) in
    rw (how, more) (grown_is now line (ends_last_is now refl (λ e. rw e refl)) refl (kept ∙ held))
html_grown s old new rest kind may_be other more line kept how held = absurd how

-- the rest of a line after at most four columns of space
rest_cut : (text : List ℕ) (position after : Position) (line : Line) (l : SourceLine)
    → left_from text after line.stop ≡ (leading_space 4 (left_from text position line.stop)).after
    → IsLineRest text position line l → IsLineRest text after line (cut 4 l)
rest_cut text position after line l read is = record {
  rest = record {
    left = rw (← is.rest.left) read;
    few = subst (λ (left : LineLeft). left.owed ≤ 3) (sym read)
        (few_owed 4 (left_from text position line.stop) is.rest.few);
    next = is.rest.next;
  };
  stop = is.stop ∙ sym (space_alike 4 l.left).end;
  ends = is.ends;
}

-- a line of indented code that is not blank is added after the blank lines that were held back
pub code_grown : (s : Source) (old new : Pass) (line : Line) (found : code.Reached) (frames : List Frame)
    (inside : Forest Block) (b : Block) (source : SourceLine) (after : Position)
    → IsReachedBy s old line found (before_last frames inside b) source → new.blanks.items ≡ []
    → left_from old.placing.builder.text after line.stop
    ≡ (leading_space 4 (left_from old.placing.builder.text found.position line.stop)).after
    → nat_le line.stop found.content ≡ false
    → ((leading_space 4 (left_from old.placing.builder.text found.position line.stop)).columns == 4) ≡ true
    → IsLeafKind leaf.Indented b.kind → GrownFrom s new (reached_of s (before_last frames inside b) source).rest
    leaf.Indented (IsCode old.placing.builder.text after line) b.kind
code_grown s old new line found frames inside b source after by emptied read some four = grown b.kind
  where
    rest : SourceLine
    rest = (reached_of s (before_last frames inside b) source).rest

    filled : is_blank_rest rest ≡ false
    filled = sym by.reaches.blank ∙ some

    grown : (kind : Kind) → IsLeafKind leaf.Indented kind
        → GrownFrom s new rest leaf.Indented (IsCode old.placing.builder.text after line) kind
    grown (was.indented_leaf lines) how =
        let enough : ((leading_space 4 rest.left).columns == 4) ≡ true = rw (← by.reaches.rest.left) four in
        rw (enough, or-true (is_blank_rest rest)) (grown_is (was.indented_leaf (lines ++ cut 4 rest ∷ [])) (record {
          rest = rest_cut old.placing.builder.text found.position after line rest read
              (line_rest s old line found (before_last frames inside b) source by);
          filled = filled;
        }) (code_is lines (cut 4 rest) (blank_alike 4 rest.left ∙ filled)) refl emptied)
    grown other how = absurd how

-- metadata is open in no container, so that all of the line is left
pub metadata_line : (s : Source) (old : Pass) (line : Line) (found : code.Reached) (frames : List Frame)
    (inside : Forest Block) (b : Block) (source : SourceLine) (kind : MetadataBlockKind)
    → IsReachedBy s old line found (before_last frames inside b) source
    → (reached_of s (before_last frames inside b) source).inner ≡ [] → IsLeafKind (leaf.Metadata kind) b.kind
    → IsSource old line (reached_of s (before_last frames inside b) source).rest
metadata_line s old line found frames inside b source kind by none how =
    let open_blocks = followed_by inside (leaf_block b) in
    rw (whole_left s frames open_blocks source (all_reached s frames open_blocks source none
    ∙ by.stands.alone (is b.kind how))) by.is
  where
    is : (k : Kind) → IsLeafKind (leaf.Metadata kind) k → is_metadata k ≡ true
    is (was.metadata_leaf found false lines) how = refl
    is other how = absurd how

-- ---- where it leaves off

-- the open leaf does not go on in what is left of a line
abbrev pub LeavesLine : Source → Pass → Line → code.Reached → SourceLine → Before → Type 0
LeavesLine s old line found source before =
    IsReachedBy s old line found before source → LeavesOff s (reached_of s before source).rest before.last

html_off : (s : Source) (rest : SourceLine) (how : HtmlKind) (kind : Kind) → IsLeafKind (leaf.Html how) kind
    → (is_blank_rest rest && ends_at_blank how) ≡ true → leaf_with s rest kind ≡ None
html_off s rest how (was.html_leaf found false lines) is white = rw (is, white) refl
html_off s rest how other is white = absurd is

pub html_leaves_off : (s : Source) (old : Pass) (line : Line) (found : code.Reached) (before : Before)
    (source : SourceLine) (kind : HtmlKind) → old.leaf ≡ leaf.Html kind → old.placing.builder.leaf ≡ true
    → (nat_le line.stop found.content && ends_at_blank kind) ≡ true
    → IsReachedBy s old line found before source → LeavesLine s old line found source before
html_leaves_off s old line found before source kind how open_leaf ends by =
    leaf_case (LeavesLine s old line found source) s old before (leaf.Html kind) by.stands.unended how open_leaf
    (λ b may known held empty by leaf other.
    html_off s (reached_of s (before_last before.frames before.inside b) source).rest kind b.kind known
    (rw by.reaches.blank at ends))

indented_off : (s : Source) (rest : SourceLine) (kind : Kind) → IsLeafKind leaf.Indented kind
    → (is_blank_rest rest && is_indented kind) ≡ false → (is_blank_rest rest ≡ false
    → ((leading_space 4 rest.left).columns == 4) ≡ false) → leaf_with s rest kind ≡ None
indented_off s rest (was.indented_leaf lines) is other few =
    let filled = sym (and-true (is_blank_rest rest)) ∙ other in rw (filled, few filled) refl
indented_off s rest kind is other few = absurd is

pub indented_leaves_off : (s : Source) (old : Pass) (line : Line) (found : code.Reached) (before : Before)
    (source : SourceLine) → old.leaf ≡ leaf.Indented → old.placing.builder.leaf ≡ true
    → (nat_le line.stop found.content ≡ false
    → ((leading_space 4 (left_from old.placing.builder.text found.position line.stop)).columns == 4) ≡ false)
    → IsReachedBy s old line found before source → LeavesLine s old line found source before
indented_leaves_off s old line found before source how open_leaf few by =
    leaf_case (LeavesLine s old line found source) s old before leaf.Indented by.stands.unended how open_leaf
    (λ b may known held empty by leaf other.
    indented_off s (reached_of s (before_last before.frames before.inside b) source).rest b.kind known other
    (λ filled. rw (← by.reaches.rest.left) (few (by.reaches.blank ∙ filled))))
