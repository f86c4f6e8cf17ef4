-- What a reader of the rest of a line finds is what the line begins, as the definition says, in the containers where
-- there is room for it; and text that is found there, as a line of a paragraph.
use Rattle.std.proofs.Common.{◌≡◌, ℕ, ◌==◌, ◌&&◌, Bool, true, false, List, Option, Some, None, refl, sym, ap, rules}
use Rattle.std.proofs.Common.{◌∙◌, subst, inl, inr, ◌<◌, ◌≤◌, length, drop, arith}
use Rattle.markdown_plain.proofs.Names.{none-some, prefix_len, or_parts, eqb_tells, nat_tests, prefix_len-le-length}
use Rattle.markdown_plain.proofs.Names.{any_metadata, Forest, Syntax, MetadataBlockKind, LineLeft, Source, Beginning}
use Rattle.markdown_plain.proofs.Names.{begins, metadata_in_line, beginning_found, left_at, line_at, source_read}
use Rattle.markdown_plain.proofs.Names.{is_space_or_tab, IsLineFrom, left_from, SourceLine, is_blank_rest, text_line}
use Rattle.markdown_plain.proofs.Names.{BlockStart, LineReader, Block, Kind, begun_by, content_of, inside_of}
use Rattle.markdown_plain.proofs.Names.{new_blocks, LineRest, Pass, IsFound, IsHere, IsLeft, Turn, first, later}
use Rattle.markdown_plain.proofs.Names.{HasRoom, MayBegin, Frame, rebuilt, followed_by, Line, Looseness, source_of}
use Rattle.markdown_plain.proofs.Names.{lines_end, IsLooseBefore, IsHeldLine, HeldLine, in_part, rest_of_part}
use Rattle.markdown_plain.proofs.Names.{IsTextLine, BeginsText, IsContentAt, held_line}
use Rattle.std.specs.Prelude.{if◌then◌else◌, unwrap_or, slice_range, slice_index}
use Rattle.std.specs.Option.{option_and_then}
use Rattle.std.proofs.lemmas.Bool.{true≢false}
use Rattle.std.proofs.lemmas.List.Sums.{prefix_len_stops}
use Rattle.markdown_lines.specs.BlockStarts.{IsSameLine}
use Rattle.markdown_lines.specs.MetadataBlocks.{line_opens, opened_before}
use Rattle.markdown_lines.specs.declared.block_start.Before.{Before}
use Rattle.markdown_plain.specs.Beginning.{MayBeginBlock}
use Rattle.markdown_lines.proofs.BlockStartsLemmas.{is_blank}
use Rattle.markdown_plain.specs.OpenLeaves.{ComesAfter}
use Rattle.markdown_plain.specs.TextLines.{text_block}
use Rattle.markdown_base.specs.declared.tag.MetadataBlockKind.TheVariants as metadata
use Rattle.markdown_lines.specs.declared.block_start.BlockStart.TheVariants as start
use Rattle.markdown_plain.proofs.BegunLemmas.{begun_once}

-- ---- what a reader finds

-- a reader of the same line has found the same
pub found_same : (old new : LineReader) (start : BlockStart) → IsSameLine old new
    → beginning_found new start ≡ beginning_found old start
found_same old new (start.IndentedCode code) same = rw (same.text, same.stop) refl
found_same old new (start.Quote inside) same = rw (same.text, same.stop) refl
found_same old new (start.Footnote label inside) same = rw (same.text, same.stop) refl
found_same old new (start.Item item) same = rw (same.text, same.stop) refl
found_same old new other same = refl

-- the rest of a line is the same for it
left_same : (s : Source) (rest : LineRest) (new : LineReader) (source : SourceLine) → IsSameLine rest.reader new
    → IsLeft s rest source → IsLeft s (record rest { reader = new }) source
left_same s rest new source same left =
    let text : source_read new ≡ s = rw (same.text, same.syntax) left.text in
    let outermost : any_metadata s.syntax ≡ true
    → (new.outermost && (rest.position.at == new.start)) ≡ source.outermost =
    rw (same.outermost, same.start) left.outermost in
    assumption (text, same.stop ∙ left.stop, same.start ∙ left.start, same.next ∙ left.next, outermost, left)

pub here_same : (s : Source) (pass : Pass) (rest : LineRest) (new : LineReader) (turn : Turn) (source : SourceLine)
    (blocks : Forest Block) → IsSameLine rest.reader new → IsHere s pass rest turn source blocks
    → IsHere s pass (record rest { reader = new }) turn source blocks
here_same s pass rest new (first before line) source blocks same state =
    assumption (left_same s rest new source same state.left)
here_same s pass rest new (later frames) source blocks same state =
    assumption (left_same s rest new source same state.left)

-- what is left of the line is known at either turn
pub here_left : (s : Source) (pass : Pass) (rest : LineRest) (turn : Turn) (source : SourceLine)
    (blocks : Forest Block) → IsHere s pass rest turn source blocks → IsLeft s rest source
here_left s pass rest (first before line) source blocks state = state.left
here_left s pass rest (later frames) source blocks state = state.left

-- the pass reads the text of which it stands for blocks
pub here_text : (s : Source) (pass : Pass) (rest : LineRest) (turn : Turn) (source : SourceLine) (blocks : Forest Block)
    → IsHere s pass rest turn source blocks → pass.placing.builder.text ≡ s.text
here_text s pass rest (first before line) source blocks state = ap (λ (s : Source). s.text) state.holds.source
here_text s pass rest (later frames) source blocks state = ap (λ (s : Source). s.text) state.opened.source

-- ---- what was found

-- where no metadata is read, a line opens none
none_opens : (syntax : Syntax) (text : List ℕ) (next : ℕ) (opens : Option MetadataBlockKind)
    → any_metadata syntax ≡ false → option_and_then (opened_before syntax text next) opens ≡ None
none_opens syntax text next None none = refl
none_opens syntax text next (Some metadata.YamlStyle) none = rw (or_parts syntax.yaml syntax.pluses none).0 refl
none_opens syntax text next (Some metadata.PlusesStyle) none = rw (or_parts syntax.yaml syntax.pluses none).1 refl

-- so whether it is directly under the root is not asked
same_metadata : (s : Source) (before : Before) (left : LineLeft) (next : ℕ) (one other reads : Bool)
    → any_metadata s.syntax ≡ reads → (reads ≡ true → one ≡ other)
    → metadata_in_line s before (record { left = left; next = next; outermost = one; indent = None })
    ≡ metadata_in_line s before (record { left = left; next = next; outermost = other; indent = None })
same_metadata s before left next one other true reads same = rw (same refl) refl
same_metadata s before left next one other false reads same = none_of one ∙ sym (none_of other)
  where
    none_of : (outermost : Bool)
        → metadata_in_line s before (record { left = left; next = next; outermost = outermost; indent = None }) ≡ None
    none_of true = rw (none_opens s.syntax s.text next (line_opens left.bytes) reads) refl
    none_of false = refl

-- what two lines begin of which the same is left
same_begins : (s : Source) (before : Before) (one other : SourceLine) → one.left ≡ other.left → one.next ≡ other.next
    → (any_metadata s.syntax ≡ true → one.outermost ≡ other.outermost) → begins s before one ≡ begins s before other
same_begins s before one other left next outermost =
    rw (
      left,
      next,
      same_metadata s before other.left other.next one.outermost other.outermost (any_metadata s.syntax)
          refl outermost,
    ) refl

-- the line as the reader has it
pub line_same : (s : Source) (rest : LineRest) (source : SourceLine) (before : Before) → IsLeft s rest source
    → (left_at rest.reader rest.position ≡ source.left)
    × (begins s before (line_at rest.reader rest.position) ≡ begins s before source)
line_same s rest source before left =
    let same : left_at rest.reader rest.position ≡ source.left =
    ap (λ stop. left_from rest.reader.text.now rest.position stop) left.stop
    ∙ (ap (λ (r : Source). left_from r.text rest.position rest.line.stop) left.text ∙ left.is.rest.left) in (
      same,
      same_begins s before (line_at rest.reader rest.position) source same left.next left.outermost,
    )

-- a line that begins something is not blank, and begins this
some_begun : (b begun : Beginning) (blank : Bool) → Some b ≡ (if blank then None else Some begun)
    → (blank ≡ false) × (begun ≡ b)
some_begun b begun true is = absurd (none-some b (sym is))
some_begun b begun false is = (refl, sym (ap (λ (o : Option Beginning). unwrap_or o b) is))

pub found_begins : (s : Source) (rest : LineRest) (source : SourceLine) (at : ℕ) (start : BlockStart) (b : Beginning)
    → IsFound s rest source at start → beginning_found rest.reader start ≡ Some b
    → (is_blank_rest source ≡ false) × (begins s rest.before source ≡ b)
found_begins s rest source at start b is found =
    some_begun b (begins s rest.before source) (is_blank_rest source) (sym found ∙ is.is)

-- ---- what the calls leave as it is

-- beside what is built, a pass is the same
pub record KeepsRest (old now : Pass) : Type 0 where
  pub text : now.placing.builder.text ≡ old.placing.builder.text
  pub syntax : now.syntax ≡ old.syntax
  pub lines : now.lines.items ≡ old.lines.items
  pub blanks : now.blanks.items ≡ old.blanks.items
  pub looseness : now.looseness ≡ old.looseness

pub keeps_rest : (old now : Pass) → now ≡ record old { placing = now.placing; leaf = now.leaf }
    → now.placing.builder.text ≡ old.placing.builder.text → KeepsRest old now
keeps_rest old now same text = search (rules, text, same)

pub keeps_leaf : (old now : Pass) → now ≡ record old { placing = now.placing }
    → now.placing.builder.text ≡ old.placing.builder.text → KeepsRest old now
keeps_leaf old now same text = search (rules, text, same)

-- the text and its syntax stay
pub source_kept : (s : Source) (old now : Pass) → now.placing.builder.text ≡ old.placing.builder.text
    → now.syntax ≡ old.syntax → source_of old ≡ s → source_of now ≡ s
source_kept s old now text syntax source = rw (text, syntax) source

-- a block may still begin once it was made
pub still_may : (s : Source) (room now : Pass) (line : Line) (frames : List Frame) (inside : Forest Block)
    → MayBegin s room line frames inside → KeepsRest room now → MayBegin s now line frames inside
still_may s room now line frames inside may keeps =
    assumption (
      source_kept s room now keeps.text keeps.syntax may.source,
      keeps.lines ∙ may.lines,
      keeps.blanks ∙ may.blanks,
      subst (λ (n : Looseness). IsLooseBefore n frames inside) (sym keeps.looseness) may.loose,
    )

-- ---- the block

-- a block that begins with the rest of a line
abbrev pub begun_block : SourceLine → Kind → Block
begun_block l kind = record { start = content_of l; first = l.next; last = l.next; kind = kind }

-- the line makes the blocks so far these ones with the block that it begins
pub begun_in_room : {s : Source} {pass : Pass} {rest : LineRest} {source : SourceLine} {b : Beginning}
    {blocks : Forest Block} (room : HasRoom s pass rest source b blocks)
    → blocks ≡ rebuilt room.frames (followed_by room.inside (new_blocks (inside_of (begun_by s) source) source b))
begun_in_room {s} {pass} {rest} {source} {b} {blocks} room =
    room.whole ∙ ap (λ made. rebuilt room.frames (followed_by room.inside made))
    (begun_once s source ∙ ap (new_blocks (inside_of (begun_by s) source) source) room.is)

-- where room was made the text is the same
pub room_kept : {old room : Pass} {rest : LineRest} {at : ℕ} {start : BlockStart} {b : Beginning}
    (may : MayBeginBlock old rest at start) → HasRoom may.s room rest may.source b may.blocks
    → room.placing.builder.text ≡ old.placing.builder.text
room_kept {old} {room} {rest} may has =
    ap (λ (s : Source). s.text) has.may.source ∙ sym (here_text may.s old rest may.turn may.source may.blocks may.here)

-- ---- text

-- a line that is not blank has fewer bytes of white space than bytes
filled_first : (rest : SourceLine) → is_blank_rest rest ≡ false
    → prefix_len is_space_or_tab rest.left.bytes < length rest.left.bytes
filled_first rest filled =
    let within = prefix_len-le-length is_space_or_tab rest.left.bytes in
    elim (eqb_tells (prefix_len is_space_or_tab rest.left.bytes) (length rest.left.bytes)) [
      | inl all ↦ absurd (true≢false (sym (is_blank rest.left.bytes all.1) ∙ filled))
      | inr some ↦ omega (arith, within, some.1)
    ]

module _ (text : List ℕ) (line : Line) (rest : SourceLine) (start : ℕ) (at : IsContentAt text line rest start) where
  -- the first byte of content is in the line
  pub starts_before : start < line.stop
  starts_before = omega (arith, filled_first rest at.filled, at.here, at.stop)

  pub starts_after : line.start ≤ start
  starts_after = omega (arith, at.low, at.here)

  is_text_line : IsTextLine text (held_line line start) (text_line rest)
  is_text_line = record {
    start = at.here;
    bytes = ap (λ n. slice_range text n line.stop) at.here
        ∙ (sym (rest_of_part text rest.left.scanned line.stop (prefix_len is_space_or_tab rest.left.bytes))
        ∙ ap (drop (prefix_len is_space_or_tab rest.left.bytes)) at.bytes);
    next = at.next;
  }

  first_is_content : is_space_or_tab (slice_index text start) ≡ false
  first_is_content =
      let white = prefix_len is_space_or_tab rest.left.bytes in let some = filled_first rest at.filled in
      let there = in_part text rest.left.bytes rest.left.scanned line.stop white (sym at.bytes) some in
      ap (λ n. is_space_or_tab (slice_index text n)) at.here
      ∙ (sym (ap is_space_or_tab there.byte) ∙ prefix_len_stops is_space_or_tab rest.left.bytes 0 some)

  module _ (from : IsLineFrom text line.start line) where
    pub ends_after : line.start < line.next
    ends_after = omega (arith, starts_before, starts_after, from.ends)

    pub is_held_line : IsHeldLine text (held_line line start)
    is_held_line = record {
      boundary = at.boundary;
      some = starts_before;
      first = first_is_content;
      content = record {
        low = omega (arith, starts_before);
        high = from.content.high;
        content = λ k low high. from.content.content k (omega (arith, low, starts_after)) high;
        stops = from.content.stops;
      };
      ends = from.ends;
    }

    -- it comes after the lines of a paragraph that end before the line
    pub comes_after : (lines : List HeldLine) → lines_end lines ≤ line.start
        → ComesAfter text lines (held_line line start) (text_line rest)
    comes_after lines before =
        record { is = is_text_line; held = is_held_line; after = omega (arith, before, starts_after) }

    -- or a paragraph begins with it
    pub begins_block : BeginsText text (held_line line start) (text_line rest) (text_block rest)
    begins_block =
        let some : (start == line.stop) ≡ false = grind (arith, nat_tests, starts_before) in
        record {
          is = is_text_line;
          inside = rw some (omega arith, (is_held_line, tt));
          some = omega (arith, ends_after);
          kind = refl;
          last = refl;
        }
