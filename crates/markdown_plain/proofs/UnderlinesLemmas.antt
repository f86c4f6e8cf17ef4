-- A line that underlines the paragraph that it reaches: this becomes a heading. Where it holds definitions alone, the
-- line is text of it, or a thematic break, before which it ends, and which is read once more.
use Rattle.std.proofs.Common.{◌≡◌, ℕ, ◌==◌, ◌&&◌, Bool, true, false, not, List, [], ◌∷◌, Option, Some, None, map}
use Rattle.std.proofs.Common.{length, refl, sym, ap, ◌∙◌, subst, arith, ◌⊎◌, inl, inr, ⊎_elim, ◌+◌, drop, true≢false}
use Rattle.std.proofs.Common.{slice_range, if◌then◌else◌, option_map, IsCharBoundary, IsUtf8}
use Rattle.markdown_plain.proofs.Names.{none-some, same_Some, option_or, and-false, nat_tests, list_all, prefix_len}
use Rattle.markdown_plain.proofs.Names.{Forest, nil, HeadingLevel, BuilderView, followed_by, entity_names}
use Rattle.markdown_plain.proofs.Names.{leading_space, LineLeft, Source, Beginning, begins, begins_after, is_paragraph}
use Rattle.markdown_plain.proofs.Names.{is_reached, item_in_line, item_of, divided, IsLineFrom, is_space_or_tab}
use Rattle.markdown_plain.proofs.Names.{SourceLine, is_blank_rest, Line, Block, goes_on, table_with, content_of}
use Rattle.markdown_plain.proofs.Names.{LineRest, Pass, HoldsLast, IsFirst, IsFound, IsHere, IsLeft, Turn, first, later}
use Rattle.markdown_plain.proofs.Names.{MayEnd, EndsTo, Frame, reached, rebuilt, touched, IsParagraph, HoldsParagraph}
use Rattle.markdown_plain.proofs.Names.{IsPlaced, leaf_block, has_paragraph, are_none, reached_of, IsLooseAs, PlacesFor}
use Rattle.markdown_plain.proofs.Names.{with_last, IsContentAt, IsUntabled}
use Rattle.std.proofs.Math.Bool.{not-not}
use Rattle.markdown_lines.specs.ThematicBreaks.{is_thematic_break, setext_level, underline_level}
use Rattle.markdown_block_rules.specs.BlockGrowth.{begins_but_underline}
use Rattle.markdown_plain.specs.Beginning.{HasBegun}
use Rattle.markdown_plain.specs.Containers.{whole_line}
use Rattle.markdown_plain.specs.ParagraphSteps.{MayEndParagraph, ended_at}
use Rattle.markdown_plain.specs.OpenLeaves.{ended_block}
use Rattle.markdown_plain.specs.Paragraphs.{UnderlinesNothing, divided_of}
use Rattle.markdown_plain.specs.Settled.{IsAtEnd}
use Rattle.markdown_plain.specs.PassSteps.{AddsText}
use Rattle.markdown_lines.specs.ListMarkers.{if_it_stands, marker_of}
use Rattle.markdown_lines.specs.BlockBeginnings as line
use Rattle.markdown_lines.specs.declared.block_start.Before as block_start
use Rattle.markdown_lines.specs.declared.block_start.Before.TheVariants as paragraph
use Rattle.markdown_lines.specs.declared.block_start.BlockStart.TheVariants as start
use Rattle.markdown_block_rules.specs.BlockGrowth as was
use Rattle.markdown_plain.proofs.LeafTreesLemmas.{on_option, on_test, by_test}
use Rattle.markdown_plain.proofs.HeldLinesLemmas.{has_held, makes_no_table, remembered_kind}
use Rattle.markdown_plain.proofs.TextReachedLemmas.{IsFurtherText, around_text, loose_as_leaf}
use Rattle.markdown_plain.proofs.FoundBlocksLemmas.{source_kept}
use Rattle.markdown_plain.proofs.BegunLeavesLemmas.{no_paragraph, none_held, placed_touched}
use Rattle.markdown_plain.proofs.BlankStandingLemmas.{next_after, none_inside}
use Rattle.markdown_plain.proofs.OpenListsLemmas.{ends_more, same_touched}
use Rattle.markdown_plain.proofs.FoundPlacesLemmas.{left_content}
use Rattle.markdown_plain.proofs.FramesLemmas.{goes_on_last, all_go_on, reached_next}
use Rattle.markdown_plain.proofs.BegunLemmas.{IfFound, any_holds, begins_holds, leaves_hold, IsLeftOf, left_from_is_of}
use Rattle.markdown_plain.proofs.BegunLemmas.{space_is_of}
use Rattle.markdown_plain.proofs.OpenedFramesLemmas.{line_keeps, earlier_touched, quotes_touched}
use Rattle.markdown_plain.proofs.ReachedFramesLemmas.{leaf_is_over, open_are_containers, space_alike}
use Rattle.markdown_plain.proofs.TurnsLemmas.{text_added}
use Rattle.markdown_plain.proofs.ReadyLinesLemmas.{next_between}
use Rattle.markdown_plain.proofs.ReadyTextsLemmas.{again_ready}
use Rattle.markdown_plain.proofs.TextReachedLemmas as added
use Rattle.markdown_plain.proofs.ClosableLemmas as held

-- ---- the bytes of a line that looks like an underline

-- it is a row of one character
row_of : (head : ℕ) (bytes : List ℕ) (level : HeadingLevel) → setext_level (head ∷ bytes) ≡ Some level
    → ((head ≡ 61) ⊎ (head ≡ 45))
    × (list_all is_space_or_tab (drop (prefix_len (λ b. b == head) (head ∷ bytes)) (head ∷ bytes)) ≡ true)
row_of head bytes level is =
    by_test (list_all is_space_or_tab (drop (prefix_len (λ b. b == head) (head ∷ bytes)) (head ∷ bytes)))
    (λ white. (by_mark (rw white at is), white)) (λ white. absurd (none-some level (rw white at is)))
  where
    by_mark : underline_level head ≡ Some level → (head ≡ 61) ⊎ (head ≡ 45)
    by_mark is = by_test (head == 61) (λ one. inl (grind (arith, nat_tests, one))) (λ one. by_test (head == 45)
        (λ other. inr (grind (arith, nat_tests, other))) (λ other. absurd (none-some level (rw (one, other) at is))))

-- it begins with no white space
no_white : (bytes : List ℕ) (level : HeadingLevel) → setext_level bytes ≡ Some level
    → prefix_len is_space_or_tab bytes ≡ 0
no_white [] level is = refl
no_white (head ∷ bytes) level is = ⊎_elim (λ same. rw same refl) (λ same. rw same refl) (row_of head bytes level is).0

-- a hyphen marks no item that may interrupt a paragraph, if more hyphens or only white space follow it
hyphens_mark_none : (bytes : List ℕ)
    → list_all is_space_or_tab (drop (prefix_len (λ b. b == 45) (45 ∷ bytes)) (45 ∷ bytes)) ≡ true
    → if_it_stands (marker_of (45 ∷ bytes)) (45 ∷ bytes) true ≡ None
hyphens_mark_none [] white = refl
hyphens_mark_none (b ∷ bytes) white = by_test (b == 45)
    (λ same. let is : b ≡ 45 = grind (arith, nat_tests, same) in rw is refl)
    (λ other. let rest : list_all is_space_or_tab (b ∷ bytes) ≡ true = rw other at white in
    rw (rest, and-false (is_space_or_tab b)) refl)

row_marks_none : (bytes : List ℕ) (level : HeadingLevel) → setext_level bytes ≡ Some level
    → if_it_stands (marker_of bytes) bytes true ≡ None
row_marks_none [] level is = refl
row_marks_none (head ∷ bytes) level is =
    let row = row_of head bytes level is in
    ⊎_elim (λ same. rw same refl) (λ same. rw same (hyphens_mark_none bytes
    (subst (λ byte. list_all is_space_or_tab (drop (prefix_len (λ b. b == byte) (byte ∷ bytes)) (byte ∷ bytes)) ≡ true)
    same row.1))) row.0

-- ---- what such a line begins

-- an underline that a line begins has this content, and the line reaches a paragraph
abbrev HasLevel : block_start.Before → List ℕ → Beginning → Type 0
HasLevel before bytes (line.begins_underline level) = (is_reached before ≡ true) × (setext_level bytes ≡ Some level)
HasLevel before bytes other = Unit

after_level : (s : Source) (before : block_start.Before) (columns : ℕ) (here : LineLeft)
    → HasLevel before here.bytes (begins_after s before columns here)
after_level s before columns here =
    let has = HasLevel before here.bytes in
    any_holds has s before columns here
    (leaves_hold has s before columns here tt (λ heading. tt) (λ opening. tt) (λ kind. tt)
    (on_test (IfFound has) (is_reached before) (option_map line.begins_underline (setext_level here.bytes)) None
    (λ reaches. on_option (λ (found : Option HeadingLevel). IfFound has (option_map line.begins_underline found))
    (setext_level here.bytes) tt (λ level is. (reaches, is))) (λ off. tt)) tt) (record {
      quote = λ rest is. tt;
      alert = λ kind. tt;
      footnote = λ label rest is. tt;
      item = λ marker indent rest is. tt;
    })

level_of : (s : Source) (before : block_start.Before) (l : SourceLine) (level : HeadingLevel)
    → begins s before l ≡ line.begins_underline level
    → (is_reached before ≡ true) × (setext_level (leading_space 4 l.left).after.bytes ≡ Some level)
level_of s before l level is =
    let space = leading_space 4 l.left in let has = HasLevel before space.after.bytes in
    subst has is (begins_holds has s before l tt tt (λ kind. tt) (after_level s before space.columns space.after))

-- where it underlines nothing
row_begins : (s : Source) (before : block_start.Before) (l : SourceLine) (level : HeadingLevel)
    → IsLeftOf s.text l.left → begins s before l ≡ line.begins_underline level → begins_but_underline s l
    ≡ (if is_thematic_break (leading_space 4 l.left).after.bytes then line.begins_break else line.begins_text)
row_begins s before l level own is =
    let here = (leading_space 4 l.left).after in let columns = (leading_space 4 l.left).columns in
    let no_item : item_in_line s paragraph.Reached columns here ≡ None =
    ap (λ content. option_map (item_of columns here) (if_it_stands (marker_of content) content true))
    (space_is_of s.text 4 l.left own) ∙ rw (row_marks_none here.bytes level (level_of s before l level is).1) refl in
    rw no_item (by_test (is_thematic_break here.bytes) (λ e. rw e refl) (λ e. rw e refl))

row_is_left : (s : Source) (rest : LineRest) (source : SourceLine) → IsLeft s rest source → IsLeftOf s.text source.left
row_is_left s rest source left = left_from_is_of s.text rest.position rest.line.stop source.left left.is.rest.left

-- the pass reads its bytes
row_bytes : (s : Source) (rest : LineRest) (source : SourceLine) (at : ℕ) (level : HeadingLevel)
    → IsLeft s rest source → at ≡ content_of source → begins s rest.before source ≡ line.begins_underline level
    → slice_range s.text at rest.line.stop ≡ (leading_space 4 source.left).after.bytes
row_bytes s rest source at level left there is =
    let here = (leading_space 4 source.left).after in let alike = space_alike 4 source.left in
    let from : at ≡ here.scanned =
    omega (arith, there, alike.content, no_white here.bytes level (level_of s rest.before source level is).1) in
    let to : rest.line.stop ≡ here.scanned + length here.bytes = omega (arith, left.is.stop, alike.end) in
    rw (from, to) (space_is_of s.text 4 source.left (row_is_left s rest source left))

-- what was found is what the line begins
pub found_begins : (b got : Beginning) (blank : Bool) → Some b ≡ (if blank then None else Some got) → got ≡ b
found_begins b got true is = absurd (none-some b (sym is))
found_begins b got false is = sym (same_Some b got is)

-- it reaches a paragraph where one is held back and all open containers go on
reached_all : (some all : Bool)
    → is_reached (if some then (if all then paragraph.Reached else paragraph.Lazy) else paragraph.NoParagraph) ≡ true
    → (some ≡ true) × (all ≡ true)
reached_all true true reaches = (refl, refl)
reached_all true false reaches = absurd (true≢false (sym reaches))
reached_all false all reaches = absurd (true≢false (sym reaches))

is_reached_one : (before : block_start.Before) → is_reached before ≡ true → before ≡ paragraph.Reached
is_reached_one paragraph.Reached reaches = refl
is_reached_one other reaches = absurd (true≢false (sym reaches))

-- nothing is left of a paragraph's lines after its definitions
abbrev is_defining : Source → List SourceLine → Bool
is_defining s lines = length (divided (entity_names s.syntax) s.text lines).lines == 0

-- the heading that a line makes of a paragraph
abbrev headed : Block → HeadingLevel → List SourceLine → ℕ → Block
headed b level lines to = record b { last = to; kind = was.underlined_leaf level lines }

-- the open paragraph was ended with its underline, and something was left of it after its definitions, or not
pub record EndsUnderlined (old new : Pass) (level : HeadingLevel) (line : Line) (some : Bool) : Type 0 where
  pub same : new ≡ record old { placing = new.placing; lines = new.lines }
  pub emptied : new.lines.items ≡ []
  pub left : (sources : List SourceLine) → IsParagraph old.placing.builder.text old.lines.items sources
      → some ≡ not (length (divided_of old sources).lines == 0)
  pub frame : (s : Source) (frames : List Frame) (inside : Forest Block) (b : Block) (sources : List SourceLine)
      → HoldsParagraph s old frames inside b sources → s.syntax ≡ old.syntax → IsPlaced s new.placing.builder frames
      (followed_by inside (leaf_block (ended_block b sources some (Some (level, line)))))
  pub ends : EndsTo old.placing.builder new.placing.builder (ended_at old some (Some (level, line)))

-- where the pass finds that the line underlines nothing, it is text that follows definitions alone
nothing_is : (break defining : Bool) → true ≡ (not break && defining) → (break ≡ false) × (defining ≡ true)
nothing_is false true is = (refl, refl)
nothing_is break defining is = absurd (true≢false is)

-- and otherwise it is a thematic break where it follows definitions alone
break_is : (break defining : Bool) → false ≡ (not break && defining) → defining ≡ true → break ≡ true
break_is true defining is alone = refl
break_is false defining is alone = absurd (true≢false (sym alone ∙ sym is))

-- a line reaches a paragraph whose lines are held back, which is the last block, and is its underline
record IsUnderline (s : Source) (old : Pass) (rest : LineRest) (source : SourceLine) (at : ℕ) (level : HeadingLevel)
    (blocks : Forest Block) : Type 0 where
  frames : List Frame
  inside : Forest Block
  b : Block
  sources : List SourceLine
  l : SourceLine
  here : IsFirst s old rest (record { frames = frames; inside = inside; last = Some b }) l source blocks
  may : MayEnd s old frames inside b (Some sources)
  all : (reached s frames (followed_by inside (leaf_block b)) l).inner ≡ []
  reaches : rest.before ≡ paragraph.Reached
  underlines : begins s paragraph.Reached source ≡ line.begins_underline level
  begins : at ≡ content_of source

-- this is so where the line begins an underline
underline_is : {s : Source} {old : Pass} {rest : LineRest} {source : SourceLine} {at : ℕ} {level : HeadingLevel}
    {blocks : Forest Block} (turn : Turn) → IsHere s old rest turn source blocks
    → IsFound s rest source at (start.Underline level) → IsUnderline s old rest source at level blocks
underline_is {s} {old} {rest} {source} {at} {level} {blocks} turn here found = by_turn turn here
  where
    begun : begins s rest.before source ≡ line.begins_underline level
    begun = found_begins (line.begins_underline level) (begins s rest.before source) (is_blank_rest source) found.is

    reaches : is_reached rest.before ≡ true
    reaches = (level_of s rest.before source level begun).0

    by_last : (frames : List Frame) (inside : Forest Block) (last : Option Block) (l : SourceLine)
        → IsFirst s old rest (record { frames = frames; inside = inside; last = last }) l source blocks
        → has_paragraph old ≡ true → (reached s frames (with_last inside last) l).inner ≡ []
        → HoldsLast s old frames inside last → IsUnderline s old rest source at level blocks
    by_last frames inside None l here some all holds = absurd (true≢false (sym some ∙ held.no_paragraph old holds.1))
    by_last frames inside (Some b) l here some all (None, may, empty) =
        absurd (true≢false (sym some ∙ held.no_paragraph old empty))
    by_last frames inside (Some b) l here some all (Some sources, may, other) = record {
      frames = frames;
      inside = inside;
      b = b;
      sources = sources;
      l = l;
      here = here;
      may = may;
      all = all;
      reaches = is_reached_one rest.before reaches;
      underlines = ap (λ now. begins s now source) (sym (is_reached_one rest.before reaches)) ∙ begun;
      begins = found.begins;
    }

    by_turn : (turn : Turn) → IsHere s old rest turn source blocks → IsUnderline s old rest source at level blocks
    by_turn (first before l) here =
        let inner = (reached_of s before l).inner in
        let all = reached_all (has_paragraph old) (are_none inner) (sym (ap is_reached here.paragraph) ∙ reaches) in
        by_last before.frames before.inside before.last l here all.0 (none_inside inner all.1) here.holds.unended
    by_turn (later frames) here = absurd (true≢false (sym reaches ∙ ap is_reached here.before))

module _ {s : Source} {old : Pass} {rest : LineRest} {source : SourceLine} {at : ℕ} {level : HeadingLevel}
    {blocks : Forest Block} (u : IsUnderline s old rest source at level blocks) where
  abbrev now : Forest Block
  now = followed_by u.inside (leaf_block u.b)

  holds : HoldsParagraph s old u.frames u.inside u.b u.sources
  holds = u.may.unended

  -- ---- what the line makes of the paragraph

  -- no table
  untabled : (c : Block) → table_with s source c (was.paragraph_leaf u.sources) ≡ None
  untabled =
      let r = reached s u.frames now u.l in
      rw u.here.reached (makes_no_table s old rest.line.start r u.sources
      (remembered_kind s (IsUntabled s old rest.line.start r) u.b.kind u.sources holds.kind u.here.untabled)
      (ap are_none u.all))

  -- so it goes on as its kind does
  paragraph_goes : goes_on s now source ≡ option_map (followed_by u.inside) (option_or
      (option_map (λ kind. leaf_block (record u.b { last = source.next; kind = kind }))
      (was.leaf_with s source (was.paragraph_leaf u.sources))) None)
  unfolding goes_on
  paragraph_goes =
      goes_on_last s u.inside u.b nil source ∙ ap (option_map (followed_by u.inside))
      (ap (λ kind. goes_on s (leaf_block (record u.b { kind = kind })) source) holds.kind
      ∙ ap (λ (made : Option (Forest Block)). option_or made (option_or
      (option_map (λ kind. leaf_block (record u.b { last = source.next; kind = kind }))
      (was.leaf_with s source (was.paragraph_leaf u.sources))) None))
      (untabled (record u.b { kind = was.paragraph_leaf u.sources })))

  -- where something is left of it, it is a heading then
  heading_made : is_defining s u.sources ≡ false → blocks ≡ rebuilt (map (touched u.l) u.frames) (followed_by u.inside
      (leaf_block (headed u.b level u.sources rest.line.next)))
  heading_made some =
      let next : source.next ≡ rest.line.next = ap (λ (m : SourceLine). m.next) u.here.reached
      ∙ (reached_next s u.frames now u.l ∙ sym u.here.is.next) in
      u.here.whole ∙ (all_go_on s u.frames now u.l
      (open_are_containers old.placing.builder.texts old.placing.builder.blocks u.frames holds.built.blocks)
      holds.built.nested u.all (around_text u.frames u.inside u.b (rw holds.kind refl) (rw holds.kind refl)
      u.may.items) ∙ rw (← u.here.reached, paragraph_goes, u.here.filled, u.underlines, some, next) refl)

  -- ---- what the pass finds of the line

  told : (nothing : Bool) → UnderlinesNothing old rest.line at nothing
      → nothing ≡ (not (is_thematic_break (slice_range s.text at rest.line.stop)) && is_defining s u.sources)
  told nothing tells = rw (← u.here.holds.source) (tells u.sources holds.lines)

  -- what else it begins
  begins_else : (break : Bool) → is_thematic_break (slice_range s.text at rest.line.stop) ≡ break
      → begins_but_underline s source ≡ (if break then line.begins_break else line.begins_text)
  begins_else break is =
      let begun = ap (λ now. begins s now source) u.reaches ∙ u.underlines in
      row_begins s rest.before source level (row_is_left s rest source u.here.left) begun
      ∙ rw (← row_bytes s rest source at level u.here.left u.begins begun, is) refl

  -- a thematic break, where it is read once more
  breaks_there : UnderlinesNothing old rest.line at false → is_defining s u.sources ≡ true
      → begins_but_underline s source ≡ line.begins_break
  breaks_there tells alone = begins_else true (break_is _ (is_defining s u.sources) (told false tells) alone)

  -- and otherwise text of the paragraph
  text_there : UnderlinesNothing old rest.line at true → IsFurtherText s source u.sources
  text_there tells =
      let is = nothing_is _ (is_defining s u.sources) (told true tells) in
      rw (u.underlines, is.1, begins_else false is.0) refl

  -- ---- what the pass makes of it

  defining : {new : Pass} {some : Bool} → EndsUnderlined old new level rest.line some
      → is_defining s u.sources ≡ not some
  defining ends = rw (← u.here.holds.source) (sym (ap not (ends.left u.sources holds.lines) ∙ not-not _))

  -- what is built then
  frame : {new : Pass} {some : Bool} → EndsUnderlined old new level rest.line some
      → IsPlaced s new.placing.builder u.frames (followed_by u.inside
      (leaf_block (ended_block u.b u.sources some (Some (level, rest.line)))))
  frame ends = ends.frame s u.frames u.inside u.b u.sources holds u.may.syntax

  -- a heading
  heading_placed : {new : Pass} → EndsUnderlined old new level rest.line true → PlacesFor s new rest.line.next blocks
  heading_placed {new} ends =
      let text = ap (λ (b : BuilderView). b.text) ends.ends in let h = headed u.b level u.sources rest.line.next in
      let at_end = followed_by u.inside (leaf_block h) in
      let loose : IsLooseAs new.looseness u.frames now = rw ends.same u.here.holds.loose in
      none_held (record {
        source = source_kept s old new text (ap (λ (p : Pass). p.syntax) ends.same) u.here.holds.source;
        quotes = quotes_touched u.l rest.line.next (sym u.here.is.next) u.frames;
        earlier = earlier_touched u.l rest.line.start rest.line.next (next_after old rest.line u.l u.here.is) u.frames
            u.here.holds.earlier;
        loose = same_touched u.l new.looseness u.frames at_end
            (loose_as_leaf new.looseness u.frames u.inside u.b h (rw holds.kind refl) refl loose);
        filled = ends_more false u.inside (leaf_block h);
        blanks = rw ends.same (u.here.holds.unheld holds.built.outside);
        whole = heading_made (defining ends);
        items = rw u.here.whole (line_keeps s (rebuilt u.frames now) u.l u.may.items);
      }) at_end None refl (
        placed_touched u.l s new.placing.builder u.frames at_end (frame ends),
        ends.emptied,
        leaf_is_over s u.inside h refl,
      ) tt tt ends.emptied (ap (λ (b : BuilderView). b.at) ends.ends)
      (rw text (next_between old.placing.builder.text rest.line.start rest.line u.here.is.utf8 u.here.is.from))

  -- otherwise the line is still to be read
  here_again : {new : Pass} → UnderlinesNothing old rest.line at false → EndsUnderlined old new level rest.line false
      → IsFirst s new (record rest { before = paragraph.NoParagraph })
      (record { frames = u.frames; inside = now; last = None }) u.l source blocks
  here_again {new} tells ends =
      let text = ap (λ (b : BuilderView). b.text) ends.ends in let placed = frame ends in let none = defining ends in
      let loose : IsLooseAs new.looseness u.frames now = rw ends.same u.may.loose in
      let at_end : IsAtEnd new u.frames now = record { at = placed.at; quotes = rw ends.same u.may.quotes } in
      record {
        untabled = tt;
        holds = record {
          source = source_kept s old new text (ap (λ (p : Pass). p.syntax) ends.same) u.here.holds.source;
          unended = (record { stands = assumption (placed, at_end, u.may); loose = loose }, ends.emptied);
          loose = loose;
          blanks = rw ends.same u.here.holds.blanks;
          before = no_paragraph new.lines.items rest.line.start ends.emptied;
          unheld = λ e. rw ends.same (u.here.holds.unheld holds.built.outside);
          earlier = u.here.holds.earlier;
          ready = again_ready old new rest.line.start (assumption (
            has_held s old u.frames u.inside u.b u.sources holds,
            ap (λ (p : Pass). p.placed) ends.same,
            placed,
          )) u.here.holds.ready;
        };
        is = let is = u.here.is in assumption (
          ap (λ text. whole_line text rest.line) text ∙ is.left,
          is,
          subst (λ text. IsLineFrom text rest.line.start rest.line) (sym text) is.from,
          subst (λ text. IsCharBoundary text rest.line.start) (sym text) is.boundary,
          subst IsUtf8 (sym text) is.utf8,
        );
        reached = u.here.reached;
        left = assumption (u.here.left);
        depth = u.here.depth;
        paragraph = rw (held.no_paragraph new ends.emptied) refl;
        filled = u.here.filled;
        over = λ free. ap (λ (fs : List Frame). goes_on s (rebuilt fs now) source) u.all
            ∙ rw (paragraph_goes, u.here.filled, u.underlines, none, breaks_there tells none) refl;
        whole = u.here.whole;
      }

-- the line is text of the paragraph
pub underline_added : (s : Source) (old new : Pass) (rest : LineRest) (turn : Turn) (source : SourceLine) (at : ℕ)
    (blocks : Forest Block) (level : HeadingLevel) → IsHere s old rest turn source blocks
    → IsFound s rest source at (start.Underline level) → UnderlinesNothing old rest.line at true
    → AddsText old new rest.line at rest.depth → PlacesFor s new rest.line.next blocks
underline_added s old new rest turn source at blocks level here found tells adds =
    let u = underline_is turn here found in let r = reached s u.frames (now u) u.l in
    let some = has_held s old u.frames u.inside u.b u.sources u.may.unended in
    let same : source ≡ r.rest = u.here.reached in
    rw u.here.whole (text_added s old new rest.line at u.frames u.inside u.b u.sources u.l
    (remembered_kind s (IsUntabled s old rest.line.start r) u.b.kind u.sources u.may.unended.kind u.here.untabled)
    u.here.holds u.may u.here.is (record { same = adds.goes_on some; lines = rw some at adds.lines })
    (subst (λ text. IsContentAt text rest.line r.rest at) (sym (ap (λ (s : Source). s.text) u.here.holds.source))
    (rw (← same) (left_content s rest source at u.here.left u.here.filled found.begins)))
    (added.reaches u.all (rw (← same) (text_there u tells))))

module _ {s : Source} {old : Pass} {rest : LineRest} {source : SourceLine} {at : ℕ} {level : HeadingLevel}
    (turn : Turn) (blocks : Forest Block) (here : IsHere s old rest turn source blocks)
    (found : IsFound s rest source at (start.Underline level)) where
  -- or it underlines the paragraph, or is read once more
  pub underline_begun : {new : Pass} (some : Bool) → UnderlinesNothing old rest.line at false
      → EndsUnderlined old new level rest.line some
      → HasBegun s new rest (record rest { before = paragraph.NoParagraph }) blocks (not some)
  underline_begun true tells ends = heading_placed (underline_is turn here found) ends
  underline_begun false tells ends =
      let u = underline_is turn here found in
      let place : ◌≡◌ {A = ℕ} (if is_paragraph rest.before then 0 else 1) 0 = rw u.reaches refl in
      record {
        turn = first (record { frames = u.frames; inside = now u; last = None }) u.l;
        source = source;
        here = here_again u tells ends;
        later = omega (arith, place);
        line = refl;
      }

  -- the paragraph may end there
  pub underline_fits : MayEndParagraph old (Some (level, rest.line))
  underline_fits =
      let u = underline_is turn here found in let outside = u.may.unended.built.outside in let is = u.here.is in
      record {
        outside = outside;
        ahead = u.here.holds.ready.closable.held outside;
        task = u.here.holds.ready.closable.task;
        heading_ends = (
          omega (arith, u.here.holds.before, next_after old rest.line u.l is),
          next_between old.placing.builder.text rest.line.start rest.line is.utf8 is.from,
        );
      }
