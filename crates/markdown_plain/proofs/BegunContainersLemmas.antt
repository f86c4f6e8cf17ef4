-- Containers that begin with the rest of a line, and what is left of the line inside them.
use Rattle.std.proofs.Common.{◌≡◌, ℕ, zero, suc, ◌+◌, ◌<◌, ◌≤◌, true, false, List, [], ◌∷◌, refl, sym, ap, ◌∙◌, arith}
use Rattle.std.proofs.Common.{length, ◌&&◌, ◌==◌, nat_le, subst, true≢false, length-drop, slice_index, IsCharBoundary}
use Rattle.markdown_plain.proofs.Names.{and_parts, nat_tests, list_all, prefix_len, and-false, begins_with, LineLeft}
use Rattle.markdown_plain.proofs.Names.{leading_space, past_one_byte, is_space_or_tab, Source, Beginning, begins}
use Rattle.markdown_plain.proofs.Names.{past_bytes, is_paragraph, SourceLine, is_blank_rest, rest_inside, either}
use Rattle.markdown_plain.proofs.Names.{Forest, nil, node, followed_by, Position, Line, left_at, Block, Kind, begun_by}
use Rattle.markdown_plain.proofs.Names.{content_of, inside_of, new_blocks, is_blank_block, Pass, AreOpenedBefore}
use Rattle.markdown_plain.proofs.Names.{AreItemsInLists, source_of, IsBuilt, EmptyKnownIn, IsLooseAs, QuotesEnd}
use Rattle.markdown_plain.proofs.Names.{LineRest, HasRoom, IsLeft, MayBegin, Frame, is_list, rebuilt, AreItemsOpenedIn}
use Rattle.markdown_plain.proofs.Names.{IsLineRest, any_metadata, MayOpen, with_frame}
use Rattle.markdown_lines.specs.declared.block_start.Before.{Before}
use Rattle.markdown_block_rules.proofs.BlockBeginningsLemmas.{space_left}
use Rattle.markdown_plain.specs.Containers.{content_of as left_content}
use Rattle.markdown_plain.specs.Beginning.{ReadsOn, begun_in_rest, turn_place}
use Rattle.markdown_plain.proofs.BegunLemmas.{IsLeftOf, space_is_of, after_holds, begins_holds, leaves_hold}
use Rattle.markdown_plain.proofs.BegunLemmas.{underline_holds, left_from_is_of}
use Rattle.markdown_plain.proofs.LeafTreesLemmas.{few_owed}
use Rattle.markdown_plain.proofs.ReachedFramesLemmas.{AreAlike, blank_at, end_of, space_alike}
use Rattle.markdown_plain.proofs.FoundBlocksLemmas.{KeepsRest, begun_block, begun_in_room, still_may}
use Rattle.markdown_plain.proofs.OpenedFramesLemmas.{as_many_containers}
use Rattle.markdown_lines.specs.BlockBeginnings as line
use Rattle.markdown_lines.specs.declared.block_start.Before.TheVariants as paragraph
use Rattle.markdown_plain.specs.Beginning as here

-- ---- what is left inside

-- a rest begins after another, past the first byte of its content, and ends with it; its first tab owes at most three
-- columns
pub record IsRestOf (left rest : LineLeft) : Type 0 where
  pub end : rest.scanned + length rest.bytes ≡ left.scanned + length left.bytes
  pub few : rest.owed ≤ 3
  pub after : left.scanned < rest.scanned
  pub past : left_content left ≤ rest.scanned

-- so does the rest in a container that begins
abbrev pub HoldsRest : LineLeft → Beginning → Type 0
HoldsRest left (line.begins_quote rest) = IsRestOf left rest
HoldsRest left (line.begins_footnote label rest) = IsRestOf left rest
HoldsRest left (line.begins_item marker indent rest) = IsRestOf left rest
HoldsRest left (line.begins_indented rest) = AreAlike rest left × (rest.owed ≤ 3) × (left.scanned ≤ rest.scanned)
HoldsRest left other = Unit

-- space is read forwards
space_after : (n : ℕ) (whole : LineLeft) → whole.scanned ≤ (leading_space n whole).after.scanned
space_after n whole = omega (arith, (space_alike n whole).end, space_left n whole)

-- what begins after the first byte of a rest's content, and ends with it, is one after space too
after_space : (whole left : LineLeft) (n : ℕ) → end_of left ≡ end_of whole → left.owed ≤ 3
    → left_content whole < left.scanned → IsRestOf whole (leading_space n left).after
after_space whole left n end few less =
    let here = space_after n left in
    record {
      end = (space_alike n left).end ∙ end;
      few = few_owed n left few;
      after = omega (arith, less, here);
      past = omega (arith, less, here);
    }

-- bytes that begin with one that is not white are some, and begin with content
first_other : (byte : ℕ) (more bytes : List ℕ) → is_space_or_tab byte ≡ false
    → begins_with (byte ∷ more) bytes ≡ true → (0 < length bytes) × (prefix_len is_space_or_tab bytes ≡ 0)
first_other byte more [] other is = absurd (true≢false (sym is))
first_other byte more (b ∷ bytes) other is =
    let same : byte ≡ b = grind (arith, nat_tests, (and_parts (byte == b) (begins_with more bytes) is).0) in
    (omega arith, rw (rw same at other) refl)

-- there is a colon
colon_there : (bytes : List ℕ) (k : ℕ) → (slice_index bytes k == 58) ≡ true → k < length bytes
colon_there (c ∷ bytes) zero is = omega arith
colon_there (c ∷ bytes) (suc k) is = omega (arith, colon_there bytes k is)
colon_there bytes k is = absurd (true≢false (sym is))

pub begins_rest : (s : Source) (before : Before) (l : SourceLine) → IsLeftOf s.text l.left → l.left.owed ≤ 3
    → HoldsRest l.left (begins s before l)
begins_rest s before l own few =
    let whole = l.left in let space = leading_space 4 whole in let here = space.after in
    let end : end_of here ≡ end_of whole = (space_alike 4 whole).end in
    let same : left_content here ≡ left_content whole = (space_alike 4 whole).content in
    begins_holds (HoldsRest whole) s before l tt (space_alike 4 whole, few_owed 4 whole few, space_after 4 whole)
    (λ kind. tt)
    (after_holds (HoldsRest whole) (IsRestOf whole) s before space.columns here (space_is_of s.text 4 whole own)
    (leaves_hold (HoldsRest whole) s before space.columns here tt (λ heading. tt) (λ opening. tt) (λ kind. tt)
    (underline_holds (HoldsRest whole) before here (λ level. tt)) tt) (record {
      quote = λ rest is. is;
      alert = λ kind. tt;
      footnote = λ label rest is. is;
      item = λ marker indent rest is. is;
    }) (record {
      quote = λ marker.
          let some = first_other 62 [] here.bytes refl marker in
          after_space whole (past_one_byte here) 1 (omega (arith, end, some, length-drop 1 here.bytes)) (omega arith)
          (omega (arith, same, some));
      footnote = λ n opened colon.
          let none = first_other 91 (94 ∷ []) here.bytes refl opened in let there = colon_there here.bytes n colon in
          record {
            end = omega (arith, end, there, length-drop (n + 1) here.bytes);
            few = omega arith;
            after = omega (arith, same, none);
            past = omega (arith, same, none);
          };
      item = λ marker n is. after_space whole (past_bytes marker.width here) n
          (omega (arith, end, is.width, is.less, length-drop marker.width here.bytes)) (omega arith)
          (omega (arith, same, is.width, is.first));
    }))

module _ {s : Source} {rest : LineRest} {source : SourceLine} (left : IsLeft s rest source) where
  -- what is left of a line is in its text, and begins where the rest of the line is read
  pub own_left : IsLeftOf s.text source.left
  own_left = left_from_is_of s.text rest.position rest.line.stop source.left left.is.rest.left

  pub place_left : rest.position.at ≡ source.left.scanned
  place_left = ap (λ (l : LineLeft). l.scanned) left.is.rest.left

  -- so the rest inside what begins with it is one of it
  pub rest_begun : {b : Beginning} → begins s paragraph.NoParagraph source ≡ b → HoldsRest source.left b
  rest_begun {b} is = subst (HoldsRest source.left) is (begins_rest s paragraph.NoParagraph source own_left
      (rw (← ap (λ (l : LineLeft). l.owed) left.is.rest.left) left.is.rest.few))

-- a rest is blank where one is that begins its content and ends where it does
pub blank_alike : (one other : LineLeft) → AreAlike one other
    → list_all is_space_or_tab one.bytes ≡ list_all is_space_or_tab other.bytes
blank_alike one other alike = rw (← blank_at one, ← blank_at other, alike.end, alike.content) refl

-- ---- one more container

-- a kind of container that holds no items, and is none
pub record HoldsBlocks (kind : Kind) : Type 0 where
  pub filled : is_blank_block kind ≡ false
  pub free : is_list kind ≡ false
  pub empty : EmptyKnownIn false nil kind

-- ---- what is left inside it

-- the rest of a line inside a container that it begins
left_inside : (s : Source) (rest : LineRest) (source : SourceLine) (inside : Position) (depth : ℕ) (before : Before)
    → IsLeft s rest source → IsRestOf source.left (left_at rest.reader inside) → IsCharBoundary s.text inside.at
    → IsLeft s (record rest { position = inside; depth = depth; before = before })
    (rest_inside (left_at rest.reader inside) source)
left_inside s rest source inside depth before left is boundary =
    let here = place_left left in
    let later : rest.reader.start < inside.at = omega (arith, left.start, left.after, here, is.after) in
    let other : (inside.at == rest.reader.start) ≡ false = grind (arith, nat_tests, later) in
    let rest_is : IsLineRest s.text inside rest.line (rest_inside (left_at rest.reader inside) source) = record {
      rest = record {
        left = rw (← left.stop, ← ap (λ (r : Source). r.text) left.text) refl;
        few = is.few;
        next = left.is.rest.next;
      };
      stop = left.is.stop ∙ sym is.end;
      ends = left.is.ends;
    } in
    let outermost : any_metadata s.syntax ≡ true → (rest.reader.outermost && (inside.at == rest.reader.start)) ≡ false =
    λ reads. rw (other, and-false rest.reader.outermost) refl in
    let after : rest.line.start ≤ inside.at = omega (arith, left.after, here, is.after) in
    assumption (rest_is, outermost, after)

-- the turn at it is at its byte offset, or one further
pub turn_near : (rest : LineRest) → turn_place rest ≤ rest.position.at + 1
turn_near rest =
    either (λ n. rest.position.at + n ≤ rest.position.at + 1) (is_paragraph rest.before) 0 1 (omega arith) (omega arith)

-- these containers go on in a line, or were opened in it
pub record AreInLine (line : Line) (frames : List Frame) : Type 0 where
  pub quotes : QuotesEnd line.next frames
  pub items : AreItemsOpenedIn line frames
  pub earlier : AreOpenedBefore line.next frames

-- the content of a rest that is not blank begins before its end
pub content_before : (left : LineLeft) → list_all is_space_or_tab left.bytes ≡ false → left_content left < end_of left
content_before left filled = grind (arith, nat_tests, blank_at left ∙ filled)

-- one more that was opened in it, which begins with the rest of it
pub in_line_more : {s : Source} {rest : LineRest} {source : SourceLine} (kind : Kind) (frames : List Frame)
    (inside : Forest Block) → IsLeft s rest source → is_blank_rest source ≡ false → AreInLine rest.line frames
    → AreInLine rest.line (with_frame frames inside (begun_block source kind))
in_line_more {s} {rest} {source} kind frames inside left filled are =
    let next = left.is.rest.next in
    let from : rest.line.start ≤ content_of source = omega (arith, left.after, place_left left) in
    let starts : nat_le rest.line.start (content_of source) ≡ true = grind (arith, nat_tests, from) in
    let ends : (rest.line.next == source.next) ≡ true = grind (arith, nat_tests, next) in
    record {
      quotes = (λ quote. sym next, are.quotes);
      items = (λ item. record { same = starts ∙ sym ends; before = omega (arith, next) }, are.items);
      earlier = (
        λ item. record {
          start = omega (arith, content_before source.left filled, left.is.stop, left.is.ends);
          first = omega (arith, next);
        },
        are.earlier,
      );
    }

-- a block that is no list may begin in a container that was opened where a block might begin, and loosens as any does
pub opened_in : (s : Source) (now : Pass) (line : Line) (frames : List Frame) (inside : Forest Block) (b : Block)
    → MayBegin s now line frames inside → IsBuilt s now.placing.builder (with_frame frames inside b) nil
    → HoldsBlocks b.kind → MayOpen s now (with_frame frames inside b)
opened_in s now line frames inside b may built holds =
    let loose : IsLooseAs now.looseness (with_frame frames inside b) nil = record {
      lists = rw holds.free (may.loose.lists (node b nil nil) (holds.filled, refl));
      empty = rw may.loose.empty holds.empty;
    } in assumption (loose, holds.free)

-- the rest of a line from a place on, inside all open blocks, where no paragraph is before it
abbrev pub rest_inside_of : Pass → LineRest → Position → LineRest
rest_inside_of now rest inside = record rest {
  position = inside;
  depth = length now.placing.builder.blocks;
  before = paragraph.NoParagraph;
}

-- the rest of the line is read inside it
pub container_inside : (s : Source) (now : Pass) (rest next : LineRest) (outer : List Frame) (before : Forest Block)
    (source : SourceLine) (blocks : Forest Block) (inside : Position) (kind : Kind) → IsLeft s rest source
    → is_blank_rest source ≡ false → next ≡ rest_inside_of now rest inside
    → IsRestOf source.left (left_at rest.reader inside) → IsCharBoundary s.text inside.at
    → now.placing.builder.at ≤ inside.at → source_of now ≡ s
    → MayOpen s now (with_frame outer before (begun_block source kind)) → AreInLine rest.line outer
    → blocks ≡ rebuilt outer (followed_by before (node (begun_block source kind)
    (begun_in_rest s (rest_inside (left_at rest.reader inside) source)) nil))
    → AreItemsInLists false blocks → ReadsOn s now rest next blocks
container_inside s now rest next outer before source blocks inside kind left filled goes is boundary ahead of opens
    are whole items =
    let b = begun_block source kind in let f : Frame = record { before = before; block = b } in
    let deep = length now.placing.builder.blocks in let line = in_line_more kind outer before left filled are in
    rw goes (record {
      turn = here.later (with_frame outer before b);
      source = rest_inside (left_at rest.reader inside) source;
      here = record {
        opened = assumption (line, sym left.is.rest.next);
        left = left_inside s rest source inside deep paragraph.NoParagraph left is boundary;
        inner = refl;
        depth = as_many_containers s now.placing.builder (with_frame outer before b) nil opens.built;
        before = refl;
        whole = whole;
        items = items;
        ahead = ahead;
      };
      later = omega (arith, place_left left, turn_near rest, is.after);
      line = refl;
    })

-- ---- where there is room for it

module _ {s : Source} {pass : Pass} {rest : LineRest} {source : SourceLine} {b : Beginning} {blocks : Forest Block}
    (room : HasRoom s pass rest source b blocks) where
  -- the rest inside what begins there
  pub rest_in_room : HoldsRest source.left b
  rest_in_room = rest_begun room.left room.is

  -- its containers go on in the line
  pub line_in_room : AreInLine rest.line room.frames
  line_in_room = record { quotes = room.may.quotes; items = room.may.items; earlier = room.may.earlier }

  -- the rest of the line is read inside a container that begins there
  pub room_inside : {now : Pass} {next : LineRest} (inside : Position) (kind : Kind)
      → next ≡ rest_inside_of now rest inside → IsRestOf source.left (left_at rest.reader inside)
      → now.placing.builder.at ≡ content_of source → IsCharBoundary s.text inside.at → KeepsRest pass now
      → IsBuilt s now.placing.builder (with_frame room.frames room.inside (begun_block source kind)) nil
      → HoldsBlocks kind → new_blocks (inside_of (begun_by s) source) source b
      ≡ node (begun_block source kind) (begun_in_rest s (rest_inside (left_at rest.reader inside) source)) nil
      → ReadsOn s now rest next blocks
  room_inside {now} {next} inside kind goes is at boundary keeps built holds new =
      let may = still_may s pass now rest.line room.frames room.inside room.may keeps in
      container_inside s now rest next room.frames room.inside source blocks inside kind room.left room.filled goes is
      boundary (omega (arith, is.past, at)) may.source
      (opened_in s now rest.line room.frames room.inside (begun_block source kind) may built holds) line_in_room
      (begun_in_room room ∙ ap (λ made. rebuilt room.frames (followed_by room.inside made)) new) room.items
