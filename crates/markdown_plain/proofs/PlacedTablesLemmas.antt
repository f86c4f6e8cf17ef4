-- What the pass has placed with the delimiter row of a table: the table, which is open, after the lines before its
-- head; and what a line makes of a last block in which it does not go on.
use Rattle.std.proofs.Common.{◌≡◌, true, false, not, List, [], ◌∷◌, Option, Some, None, refl, sym, ap, ◌∙◌, arith}
use Rattle.std.proofs.Common.{subst, true≢false, ℕ, ◌-◌, ◌<◌, ◌≤◌, ◌++◌, length, map, get_or, option_to_list}
use Rattle.markdown_plain.proofs.Names.{or-false, get_or_from_slice_get, slice_get_within, Forest, nil, Source}
use Rattle.markdown_plain.proofs.Names.{SourceLine, is_blank_rest, Line, Block, Kind, added_in, leaf_with, with_line}
use Rattle.markdown_plain.proofs.Names.{with_next_line, goes_on, Pass, Frame, Reached, reached, rebuilt, touched}
use Rattle.markdown_plain.proofs.Names.{is_leaf, is_table, HoldsParagraph, leaf_block, IsOpenIn, are_none, Before}
use Rattle.markdown_plain.proofs.Names.{IsReachedBy, LeavesOff, blocks_before, is_indented, reached_of, HasLast}
use Rattle.markdown_plain.proofs.Names.{with_last, PlacesFor, IsCounted, PutsTrees, BuilderView, followed_by}
use Rattle.markdown_plain.proofs.Names.{followed_by-nil, followed_by-assoc, AllPass, is_in_blank_line, HeldLine}
use Rattle.markdown_plain.proofs.Names.{shown_row, are_separated, is_blank_block, is_loose, AreAhead, AreApart}
use Rattle.markdown_plain.proofs.Names.{AreInText, IsInText, MayStep, AreTextLines, IsTextLine, AreOpen}
use Rattle.markdown_plain.proofs.Names.{around_innermost, IsBuilt, IsLooseAs, past, has_paragraph, last_of, IfParagraph}
use Rattle.markdown_plain.proofs.Names.{IfParagraphLast, IsUntabled, stepped, Alignment, open_columns, OpenBlock}
use Rattle.markdown_plain.proofs.Names.{no_items, alignments_for, reads_tables, Placing, Looseness}
use Rattle.std.proofs.lemmas.List.{length_push}
use Rattle.std.proofs.lemmas.Bool.{and_right, not-false, not-true}
use Rattle.markdown_plain.specs.OpenBlocks.{innermost_is}
use Rattle.markdown_plain.specs.ReachedLines.{GoesOffAs}
use Rattle.markdown_plain.specs.TableRows.{line_row}
use Rattle.markdown_builder.specs.BuilderView.{OpensTable}
use Rattle.markdown_block_rules.specs.BlockRules.{lines_end as last_next}
use Rattle.markdown_plain.specs.TableHeads.{before_table, TurnsToTable, begun_table, BeginsNoTable, BeginsTable}
use Rattle.markdown_plain.specs.TableHeads.{FollowsLast, MayBeginTable}
use Rattle.markdown_block_rules.specs.BlockGrowth as was
use Rattle.markdown_plain.specs.declared.containers.Reached as code
use Rattle.markdown_plain.specs.OpenBlocks as by_body
use Rattle.markdown_base.specs.declared.item.ItemBody.TheVariants as body
use Rattle.markdown_plain.proofs.AddedCellsLemmas.{HasNoTable, begun_same, blocks_begin, frames_of, line_unended}
use Rattle.markdown_plain.proofs.AddedCellsLemmas.{counted_with, next_as_line, within_line}
use Rattle.markdown_plain.proofs.OpenTablesLemmas.{last_is_table, table_none_last, table_open}
use Rattle.markdown_plain.proofs.TextReachedLemmas.{leaf_ends, loose_as_leaf, empty_alike, open_leaf_touched}
use Rattle.markdown_plain.proofs.ClosableLemmas.{past_is_end, no_paragraph}
use Rattle.markdown_plain.proofs.ShownRowsLemmas.{row_shown}
use Rattle.markdown_plain.proofs.ClosedFramesLemmas.{open_after}
use Rattle.markdown_plain.proofs.LeafTreesLemmas.{get_last, no_text, trees_last, innermost_of_opened, by_test}
use Rattle.markdown_plain.proofs.LinedLeavesLemmas.{filled_leaf, leaf_end, shown_alone}
use Rattle.markdown_plain.proofs.OpenListsLemmas.{same_touched, closed_separated, ends_more, loose_by_last, loose_alike}
use Rattle.markdown_plain.proofs.BlankStandingLemmas.{before_last, next_after, none_inside}
use Rattle.markdown_plain.proofs.FramesLemmas.{ends_in_block, goes_on_last, last_goes_on, all_outer}
use Rattle.markdown_plain.proofs.OpenedFramesLemmas.{line_keeps, earlier_touched, quotes_touched}
use Rattle.markdown_plain.proofs.ReachedFramesLemmas.{open_are_containers}
use Rattle.markdown_plain.proofs.ReadyLinesLemmas.{next_between}
use Rattle.markdown_plain.proofs.BegunLeavesLemmas.{IsMade, none_held}
use Rattle.markdown_plain.proofs.DelimiterRowsLemmas.{inside_front, table_some, text_front}
use Rattle.markdown_plain.proofs.ReadyTextsLemmas.{HasLastLine, IsOpenParagraph, last_line_of, open_paragraph}
use Rattle.markdown_plain.proofs.ReadyTextsLemmas.{untabled_line}

-- ---- a last block that has ended

-- all open containers go on in a line
pub some_inside : (frames : List Frame) → are_none frames ≡ false → frames ≡ [] → ⊥
some_inside frames some none = true≢false (rw none at some)

-- where a leaf of the builder is open, no table is
pub leaf_no_table : (s : Source) (pass : Pass) (frames : List Frame) (inside : Forest Block) (last : Option Block)
    → HasLast s pass frames inside last → pass.placing.builder.leaf ≡ true → HasNoTable last
leaf_no_table s pass frames inside None has leaf = tt
leaf_no_table s pass frames inside (Some b) (None, may, knows) leaf = not-true _ (sym may.unended.1.leaf ∙ leaf)
leaf_no_table s pass frames inside (Some b) (Some sources, may, knows) leaf = ap is_table may.unended.kind

-- where none is, a leaf block that is open is a table, and leaves off if such a table does
leaves_off : (s : Source) (pass : Pass) (frames : List Frame) (inside : Forest Block) (last : Option Block)
    (rest : SourceLine) → HasLast s pass frames inside last → pass.placing.builder.leaf ≡ false
    → ((b : Block) → last ≡ Some b → is_table b.kind ≡ true → leaf_with s rest b.kind ≡ None) → LeavesOff s rest last
leaves_off s pass frames inside None rest has outside off = tt
leaves_off s pass frames inside (Some b) rest (None, may, knows) outside off =
    λ leaf code. off b refl (not-false _ (sym may.unended.1.leaf ∙ outside))
leaves_off s pass frames inside (Some b) rest (Some sources, may, knows) outside off =
    λ leaf code. absurd (true≢false (sym leaf ∙ ap is_leaf may.unended.kind))

-- a blank line ends a table
pub blank_leaves_off : (s : Source) (pass : Pass) (rest : SourceLine) (before : Before)
    → HasLast s pass before.frames before.inside before.last → pass.placing.builder.leaf ≡ false
    → is_blank_rest rest ≡ true → LeavesOff s rest before.last
blank_leaves_off s pass rest before has outside blank =
    leaves_off s pass before.frames before.inside before.last rest has outside (λ b is. no_row b.kind)
  where
    no_row : (kind : Kind) → is_table kind ≡ true → leaf_with s rest kind ≡ None
    no_row (was.table_leaf true head alignments rows) table = refl
    no_row (was.table_leaf false head alignments rows) table = rw blank
    no_row other table = absurd (true≢false (sym table))

-- and there may be no leaf block
pub nothing_leaves_off : (s : Source) (pass : Pass) (rest : SourceLine) (before : Before)
    → HasLast s pass before.frames before.inside before.last → pass.placing.builder.leaf ≡ false
    → innermost_is by_body.is_table pass.placing.builder.blocks ≡ false → LeavesOff s rest before.last
nothing_leaves_off s pass rest before has outside none =
    leaves_off s pass before.frames before.inside before.last rest has outside (λ b is table. absurd (true≢false (cc
    (table, ap last_is_table is, table_open s pass before.frames before.inside before.last has, none))))

-- where the last block leaves off, no cell is added
module _ (s : Source) (pass : Pass) (line : Line) (found : code.Reached) (source : SourceLine) where
  table_adds_none : (frames : List Frame) (inside : Forest Block) (last : Option Block)
      → HasLast s pass frames inside last → last_is_table last ≡ true
      → ((reached s frames (with_last inside last) source).inner ≡ []
      → LeavesOff s (reached s frames (with_last inside last) source).rest last)
      → added_in (with_line s (rebuilt frames (with_last inside last)) source)
      ≡ added_in (rebuilt frames (with_last inside last))
  table_adds_none frames inside None has table off = absurd (true≢false (sym table))
  table_adds_none frames inside (Some b) has table off =
      let opened = frames_of s pass frames inside (Some b) has in let kind = of_kind b.kind table in
      begun_same source (blocks_begin s frames (followed_by inside (leaf_block b)) source opened
      (leaf_ends s frames inside b source kind.0 opened.containers (λ all. off all kind.0 (and_right _ _ kind.1))))
    where
      of_kind : (kind : Kind) → is_table kind ≡ true → (is_leaf kind ≡ true) × (is_indented kind ≡ false)
      of_kind (was.table_leaf ended head alignments rows) table = (refl, refl)
      of_kind other table = absurd (true≢false (sym table))

  pub goes_off_as : (before : Before) → IsReachedBy s pass line found before source
      → IsCounted s pass (blocks_before before)
      → ((reached_of s before source).inner ≡ [] → LeavesOff s (reached_of s before source).rest before.last)
      → GoesOffAs s pass line found before source
  goes_off_as before by counted off =
      let same : added_in (with_line s (blocks_before before) source) ≡ added_in (blocks_before before) =
      by_test (last_is_table before.last)
      (λ table. table_adds_none before.frames before.inside before.last by.stands.unended table off)
      (λ none. (next_as_line s pass before source line.start by.stands counted (table_none_last before.last none)).1) in
      record {
        before = before;
        by = by;
        off = off;
        same = within_line s (blocks_before before) source (omega (arith, same, counted.few));
        added = same;
        unended = line_unended s (blocks_before before) source counted.unended;
      }

-- after such a line what is counted stays right
pub off_counted : (s : Source) (old new : Pass) (line : Line) (found : code.Reached) (made : Before)
    (source : SourceLine) → GoesOffAs s old line found made source → new.tables ≡ old.tables
    → IsCounted s old (blocks_before made) → IsCounted s new (with_next_line s (blocks_before made) source)
off_counted s old new line found made source goes same counted =
    rw goes.same (counted_with same goes.added goes.unended counted)

-- ---- lists of lines

-- these lines and the last one are all of them
pub with_head : {lines : List HeldLine} (front : List HeldLine) {count : ℕ} {found : Option HeldLine} {head : HeldLine}
    → count ≡ length lines → lines ≡ front ++ option_to_list found
    → ((d : HeldLine) → 0 < count → found ≡ Some (get_or lines (count - 1) d))
    → last_of lines ≡ Some head → lines ≡ front ++ head ∷ []
with_head {lines} front {head = head} size parts is there =
    let last = get_or_from_slice_get lines (length lines - 1) head head there in
    let some = slice_get_within lines (length lines - 1) head there in
    let made = rw (size, last) at (is head (omega (arith, size, some))) in rw made at parts

-- the head is after the lines before it
after_front : (text : List ℕ) (from : ℕ) (front : List HeldLine) (head : HeldLine)
    → AreInText text from (front ++ head ∷ [])
    → AreInText text from front × (past from front ≤ head.start) × IsInText text head
after_front text from [] head are = (tt, are.0, are.1.0)
after_front text from (line ∷ front) head are =
    let rest = after_front text line.next front head are.1.1 in ((are.0, (are.1.0, rest.0)), rest.1, rest.2)

-- and only white space is around them
apart_front : (text : List ℕ) (from : ℕ) (front : List HeldLine) (head : HeldLine)
    → AreApart text from (front ++ head ∷ [])
    → AreApart text from front × AllPass is_in_blank_line text (past from front) head.start
apart_front text from [] head apart = (tt, apart.0)
apart_front text from (line ∷ front) head apart =
    let rest = apart_front text line.next front head apart.1.1 in ((apart.0, (apart.1.0, rest.0)), rest.1)

-- a paragraph was ended, and the builder is at a byte offset
pub record IsEndedAt (old new : BuilderView) (at : ℕ) : Type 0 where
  pub text : new.text ≡ old.text
  pub blocks : new.blocks ≡ old.blocks
  pub here : new.at ≡ at

module _ {view : BuilderView} (front : List HeldLine) (head : HeldLine)
    (ahead : AreAhead view (front ++ head ∷ [])) where
  pub ahead_front : AreAhead view front
  ahead_front = record {
    inside = (inside_front view.text front head ahead.inside).0;
    order = (after_front view.text view.at front head ahead.order).0;
    apart = λ none. (apart_front view.text view.at front head (ahead.apart none)).0;
  }

  pub head_in_text : IsInText view.text head
  head_in_text = (after_front view.text view.at front head ahead.order).2

  -- a step to the head fits once the lines before it have ended
  pub may_step_to_head : {new : BuilderView} → IsEndedAt view new (past view.at front) → MayStep new head.start
  may_step_to_head ended =
      let after = after_front view.text view.at front head ahead.order in record {
        ahead = (omega (arith, ended.here, after.1), rw ended.text after.2.start);
        white = λ none. rw (ended.text, ended.here)
            (apart_front view.text view.at front head (ahead.apart (sym ended.blocks ∙ none))).1;
      }

-- lines end where those of the definition do
ends_alike : (text : List ℕ) (lines : List HeldLine) (sources : List SourceLine) (n : ℕ)
    → AreTextLines text lines sources → last_next n sources ≡ past n lines
ends_alike text [] [] n are = refl
ends_alike text (line ∷ lines) (l ∷ sources) n are = rw are.0.next (ends_alike text lines sources l.next are.1)
ends_alike text [] (l ∷ sources) n are = absurd are
ends_alike text (line ∷ lines) [] n are = absurd are

-- ---- the paragraph that they are

-- a paragraph that ends with these lines
abbrev pub cut_block : Block → List SourceLine → Block
cut_block b before = record b { last = last_next b.first before; kind = was.paragraph_leaf before }

-- the last line of a paragraph, and those before it
pub record HasFront (s : Source) (pass : Pass) (frames : List Frame) (inside : Forest Block) (b : Block)
    (before : List SourceLine) (from : SourceLine) (front : List HeldLine) (head : HeldLine) : Type 0 where
  pub holds : HoldsParagraph s pass frames inside b (before ++ from ∷ [])
  pub all : pass.lines.items ≡ front ++ head ∷ []

module _ {s : Source} {old : Pass} {frames : List Frame} {inside : Forest Block} {b : Block} {from : SourceLine}
    {head : HeldLine} where
  -- as those of the definition
  pub front_are : (before : List SourceLine) (front : List HeldLine)
      → HasFront s old frames inside b before from front head
      → AreTextLines old.placing.builder.text front before × IsTextLine old.placing.builder.text head from
  front_are before front has =
      text_front old.placing.builder.text front head before from (rw has.all at has.holds.lines.are)

  pub front_none : (before : List SourceLine) → HasFront s old frames inside b before from [] head
      → before_table inside b before ≡ inside
  front_none [] has = followed_by-nil inside
  front_none (l ∷ before) has = absurd (front_are (l ∷ before) [] has).0

  -- the lines before the last are a paragraph too
  pub front_holds : (before : List SourceLine) (front : List HeldLine) (now : Pass)
      → HasFront s old frames inside b before from front head → now ≡ record old { lines = now.lines }
      → now.lines.items ≡ front → 0 < length front → HoldsParagraph s now frames inside (cut_block b before) before
      × (before_table inside b before ≡ followed_by inside (leaf_block (cut_block b before)))
  front_holds before [] now has same lines some = absurd (omega (arith, some))
  front_holds [] (line ∷ front) now has same lines some = absurd (front_are [] (line ∷ front) has).0
  front_holds (l ∷ before) (line ∷ front) now has same lines some =
      let text = old.placing.builder.text in let are = (front_are (l ∷ before) (line ∷ front) has).0 in
      let within = (inside_front text (line ∷ front) head (rw has.all at has.holds.lines.inside)).0 in (
        rw same (record {
          built = has.holds.built;
          some = rw lines some;
          kind = refl;
          lines = rw lines (record { inside = within; are = are });
          task = has.holds.task;
          from = has.holds.from;
          last = rw (lines, past_is_end line front, are.0.next) (ends_alike text front before l.next are.1);
        }),
        refl,
      )

-- ---- what is built

-- the table that is opened with its head
pub table_begun : {s : Source} {frames : List Frame} {inside : Forest Block} {head : HeldLine} {from : SourceLine}
    (found : List Alignment) {first second third last : BuilderView} → IsBuilt s first frames inside
    → second ≡ stepped first head.start → OpensTable second third found
    → PutsTrees third last head.next (line_row s (open_columns third) body.TableHead head)
    → IsTextLine s.text head from → IsOpenIn s last frames inside false (begun_table from from.next found)
table_begun {s} {frames} {inside} {head} {from} found {first} {third = third} {last = view} built steps opened puts is =
    let opens = opened.2 in let placed = puts.placed in let b = begun_table from from.next found in
    let block : OpenBlock = record { start = head.start; body = body.Table opened.0 } in
    let row = shown_row s (length found) body.TableHead from in let last = get_last first.alignments found in
    -- it has as many columns as the delimiter row has cells
    let columns : open_columns third ≡ length found =
    rw (opens, steps, innermost_of_opened first.blocks block, opened.1, steps, last) in
    let levels : third.levels ≡ first.levels ++ nil ∷ [] = rw (opens, steps) in
    let row_is = row_shown s (length found) body.TableHead head from is in
    let alone = shown_alone s (around_innermost frames) b b.kind refl in
    record {
      outer = first.blocks;
      block = block;
      levels = first.levels;
      below = row;
      around =
          let still : AreOpen view.texts first.blocks frames = rw (puts.texts.are, opens, steps)
          (open_after first.texts puts.texts.more first.blocks frames built.blocks) in
          rw (placed, opens, steps) (assumption still);
      blocks = rw (placed, opens, steps);
      leaf = rw placed;
      trees = puts.trees (λ none. omega (arith, length_push first.levels nil, ap length (sym levels ∙ none)))
          ∙ rw (levels, columns, row_is) (trees_last first.levels nil row);
      shown = rw (placed, opens, steps, opened.1, steps, last, is.start, is.next, alone);
      end = rw (placed, leaf_end frames inside b refl) is.next;
    }

-- the table was opened after the pass recorded that it was tried; then the builder moves on, and the table ends later
pub turned_on : {old now opened : Pass} (placing : Placing) {last to : ℕ} {found : List Alignment}
    → now ≡ record old { tried = now.tried } → TurnsToTable now opened last found
    → placing.builder ≡ stepped opened.placing.builder to
    → TurnsToTable old (record opened { placing = placing }) to found
turned_on {old} {opened = opened} placing {last} {to} {found} same table steps = record {
  same = rw (table.same, same);
  text = rw (steps, table.text, same);
  ended = table.ended;
  here = rw steps;
  some = rw steps table.some;
  opened = λ s frames inside b before from source holds.
      let view = opened.placing.builder in
      let was_open = table.opened s frames inside b before from (rw same source) (rw same (assumption holds)) in
      let short = begun_table from last found in let long = begun_table from to found in
      let around = around_innermost frames in let first = before_table inside b before in
      rw steps (filled_leaf s view (stepped view to) frames first false short long refl (record {
        items = [];
        goes_on = refl;
        texts = no_text view (stepped view to) refl;
        added = sym (no_items view.levels);
        named = rw (shown_alone s around short short.kind refl);
        shown = rw (shown_alone s around short short.kind refl, shown_alone s around long long.kind refl);
        end = refl;
      }) was_open);
}

-- ---- which lists are loose

-- the lines before the head, if there are any, and the table are as loose as the paragraph was
loose_with_table : (now : Looseness) (frames : List Frame) (inside : Forest Block) (b t : Block)
    (before : List SourceLine) → is_blank_block b.kind ≡ false → is_blank_block t.kind ≡ false
    → IsLooseAs now frames (followed_by inside (leaf_block b))
    → IsLooseAs now frames (followed_by (before_table inside b before) (leaf_block t))
loose_with_table now frames inside b t [] filled also loose =
    rw (followed_by-nil inside) (loose_as_leaf now frames inside b t filled also loose)
loose_with_table now frames inside b t (l ∷ before) filled also loose =
    let one = before_table inside b (l ∷ before) in let other = followed_by one (leaf_block t) in
    let cut = cut_block b (l ∷ before) in let loose = loose_as_leaf now frames inside b cut filled refl loose in
    let apart : are_separated other ≡ are_separated one = closed_separated (record { before = one; block = t }) nil
    ∙ rw (ends_more false inside (leaf_block cut)) (or-false (are_separated one)) in
    let same : is_loose other ≡ is_loose one = loose_by_last (record { before = one; block = t }) nil
    ∙ rw (apart, or-false (is_loose one)) in
    record {
      lists = loose.lists ∙ loose_alike frames one other (sym apart) (sym same);
      empty = empty_alike now.item_is_empty frames one other
          (ends_in_block inside cut nil ∙ sym (ends_in_block one t nil)) loose.empty;
    }

-- ---- the line that is read

-- a line reaches the open paragraph, where tables are read
pub record ReachesParagraph (s : Source) (pass : Pass) (line : Line) (found : code.Reached) (before : Before)
    (source : SourceLine) : Type 0 where
  pub by : IsReachedBy s pass line found before source
  pub all : not found.all ≡ false
  pub some : has_paragraph pass ≡ true
  pub reads : reads_tables s ≡ true

-- a paragraph whose last line becomes the head of a table goes on in the line
table_goes_on : (s : Source) (l : SourceLine) (b : Block) (grown : Forest Block)
    → was.table_with s l b b.kind ≡ Some grown → goes_on s (leaf_block b) l ≡ Some grown
unfolding goes_on
table_goes_on s l b grown is = rw is

module _ {s : Source} {old : Pass} {line : Line} {found : code.Reached} (frames : List Frame) (inside : Forest Block)
    (b : Block) {source : SourceLine}
    (reaches : ReachesParagraph s old line found (before_last frames inside b) source) where
  abbrev r : Reached
  r = reached_of s (before_last frames inside b) source

  -- it does so with all open containers
  all_reached : are_none r.inner ≡ true
  all_reached = sym reaches.by.reaches.all ∙ not-false found.all reaches.all

  -- the paragraph that it follows, with its last line
  paragraph : IsOpenParagraph s old frames inside line.start b
  paragraph = open_paragraph s old frames inside b line.start reaches.by.stands.unended reaches.by.stands.remembers
      reaches.some reaches.reads

  last : HasLastLine s old paragraph.sources
  last = last_line_of s old frames inside b paragraph.sources line.start reaches.by.stands.source
      paragraph.may.unended paragraph.remembers

  follows : FollowsLast s old line found.position last.before last.last r.rest
  follows = record {
    head = last.head;
    last = last.is;
    rest = record { reads = reaches.reads; rest = reaches.by.reaches.rest; stop = reaches.by.reaches.stop };
  }

  -- where the last line becomes the head of a table, these are the containers and what is in the innermost
  table_line : (alignments : List Alignment) → is_blank_rest r.rest ≡ false
      → alignments_for s r.rest last.before last.last ≡ Some alignments
      → with_line s (rebuilt frames (followed_by inside (leaf_block b))) source
      ≡ rebuilt (map (touched source) frames) (followed_by (before_table inside b last.before)
      (leaf_block (begun_table last.last line.next alignments)))
  table_line alignments filled begins =
      let blocks = followed_by inside (leaf_block b) in let built = paragraph.may.unended.built in
      let none = none_inside r.inner all_reached in let kind = rw last.are at paragraph.may.unended.kind in
      let all = all_outer s frames blocks source none in
      let table = leaf_block (begun_table last.last r.rest.next alignments) in
      let now = followed_by (before_table inside b last.before) table in
      let begun = table_goes_on s r.rest b _ (ap (was.table_with s r.rest b) kind
      ∙ table_some s r.rest last.last b last.before alignments filled reaches.reads begins) in
      let grown : goes_on s blocks r.rest ≡ Some now =
      rw (goes_on_last s inside b nil r.rest, begun) (ap Some (sym (followed_by-assoc inside _ table))) in
      rw (all, ← reaches.by.reaches.rest.next) at (last_goes_on s frames blocks source
      (open_are_containers old.placing.builder.texts old.placing.builder.blocks frames built.blocks) built.nested now
      (rw none grown))

  table_places : (new : Pass) → is_blank_rest r.rest ≡ false → BeginsTable old new line found.position
      → PlacesFor s new line.next (with_line s (rebuilt frames (followed_by inside (leaf_block b))) source)
  table_places new filled begins =
      let by = reaches.by in let turns = begins.table in let may = rw last.are at paragraph.may in
      let t = begun_table last.last line.next begins.found in let first = before_table inside b last.before in
      let outer = map (touched source) frames in
      let whole = table_line begins.found filled (begins.fits s last.before last.last r.rest follows) in
      let opened = open_leaf_touched source s new.placing.builder frames first false t
      (turns.opened s frames inside b last.before last.last by.stands.source may.unended) in
      let blanks : new.blanks.items ≡ [] = rw turns.same (by.stands.unheld may.unended.built.outside) in
      let made : IsMade s new line.next outer (followed_by first (leaf_block t))
      (with_line s (rebuilt frames (followed_by inside (leaf_block b))) source) =
      record {
        source = rw (turns.text, turns.same) by.stands.source;
        quotes = quotes_touched source line.next (sym by.is.next) frames;
        earlier = earlier_touched source line.start line.next (next_after old line source by.is) frames
            by.stands.earlier;
        loose = same_touched source new.looseness frames (followed_by first (leaf_block t)) (rw turns.same
            (loose_with_table old.looseness frames inside b t last.before (rw may.unended.kind) refl by.stands.loose));
        filled = ends_more false first (leaf_block t);
        blanks = blanks;
        whole = whole;
        items = line_keeps s (rebuilt frames (followed_by inside (leaf_block b))) source may.items;
      } in
      none_held made first (Some t) refl (None, (refl, opened), (tt, blanks, turns.ended))
      (λ metadata. absurd (true≢false (sym metadata))) tt turns.ended turns.here
      (rw turns.text (next_between old.placing.builder.text line.start line by.is.utf8 by.is.from))

pub row_places : (s : Source) (old new : Pass) (line : Line) (found : code.Reached) (frames : List Frame)
    (inside : Forest Block) (last : Option Block) (source : SourceLine)
    → ReachesParagraph s old line found (record { frames = frames; inside = inside; last = last }) source
    → is_blank_rest (reached_of s (record { frames = frames; inside = inside; last = last }) source).rest ≡ false
    → BeginsTable old new line found.position → PlacesFor s new line.next
    (with_line s (blocks_before (record { frames = frames; inside = inside; last = last })) source)
row_places s old new line found frames inside None source reaches filled begins =
    absurd (true≢false (sym reaches.some ∙ no_paragraph old reaches.by.stands.unended.1))
row_places s old new line found frames inside (Some b) source reaches filled begins =
    table_places frames inside b reaches new filled begins

-- a head may be read of the lines that are held back
pub row_fits : (s : Source) (old : Pass) (line : Line) (found : code.Reached) (frames : List Frame)
    (inside : Forest Block) (last : Option Block) (source : SourceLine)
    → ReachesParagraph s old line found (record { frames = frames; inside = inside; last = last }) source
    → MayBeginTable old line
row_fits s old line found frames inside None source reaches =
    absurd (true≢false (sym reaches.some ∙ no_paragraph old reaches.by.stands.unended.1))
row_fits s old line found frames inside (Some b) source reaches =
    let by = reaches.by in let outside = (paragraph frames inside b reaches).may.unended.built.outside in
    record {
      outside = outside;
      ahead = by.stands.ready.closable.held outside;
      task = by.stands.ready.closable.task;
      before = omega (arith, by.stands.before, next_after old line source by.is);
      next = next_between old.placing.builder.text line.start line by.is.utf8 by.is.from;
    }

pub row_untabled : (s : Source) (old new : Pass) (line : Line) (found : code.Reached) (frames : List Frame)
    (inside : Forest Block) (last : Option Block) (source : SourceLine)
    → ReachesParagraph s old line found (record { frames = frames; inside = inside; last = last }) source
    → BeginsNoTable old new line found.position → IfParagraphLast s (IsUntabled s new line.start
    (reached_of s (record { frames = frames; inside = inside; last = last }) source)) last
row_untabled s old new line found frames inside None source reaches none = tt
row_untabled s old new line found frames inside (Some b) source reaches none =
    let r = reached_of s (before_last frames inside b) source in let was_open = paragraph frames inside b reaches in
    let line_last = last frames inside b reaches in
    let fits = none.fits s line_last.before line_last.last r.rest (follows frames inside b reaches) in
    subst (IfParagraph s (IsUntabled s new line.start r)) (sym was_open.may.unended.kind)
    (λ _. untabled_line s old new line.start r was_open.sources (all_reached frames inside b reaches)
    was_open.remembers line_last none.same fits.0 fits.1)
