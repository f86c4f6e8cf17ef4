-- The blocks of a whole text, line by line: what the pass stands for after each of its lines, and the block result
-- once all blocks are closed.
use Rattle.std.proofs.Common.{◌≡◌, ℕ, ◌<◌, ◌≤◌, List, [], ◌∷◌, None, drop, length, arith, refl, sym, ap, ◌∙◌, subst}
use Rattle.markdown_plain.proofs.Names.{part_length, Forest, nil, BuilderView, parts_of, Source, AllPass, IsLineFrom}
use Rattle.markdown_plain.proofs.Names.{is_in_blank_line, Line, Block, with_next_line, definitions_in, footnotes_in}
use Rattle.markdown_plain.proofs.Names.{shown_blocks, Pass, AreClosable, IsReady, ClosesDown, IsSource, Stands}
use Rattle.markdown_plain.proofs.Names.{with_last, blocks_before, IsBuilt, IsCounted}
use Rattle.std.specs.Prelude.{slice_range}
use Rattle.std.specs.List.{fold}
use Rattle.std.specs.Str.{IsCharBoundary, IsUtf8}
use Rattle.std.proofs.lemmas.Str.{IsCharBoundary-start}
use Rattle.markdown_base.specs.Forest.{relabelled}
use Rattle.markdown_builder.specs.BuilderView.{nothing_made, HasParts}
use Rattle.markdown_lines.specs.MetadataBlocks.{lines_at}
use Rattle.markdown_lines.specs.SourceLines.{first_line}
use Rattle.markdown_lines.proofs.LinesAheadLemmas.{line_read, lines_step, no_lines}
use Rattle.markdown_block_rules.specs.BlockGrowth.{blocks_of}
use Rattle.markdown_plain.proofs.FramesLemmas.{none_within}
use Rattle.markdown_plain.specs.Closable.{IsClosable}
use Rattle.markdown_plain.specs.Readable.{HasNothing, MayReadLine, MayReadText, ReadsLine}
use Rattle.markdown_plain.specs.Standing.{StandsFor}
use Rattle.markdown_base.specs.BlockTree.{tree_of}
use Rattle.markdown_base.specs.Coverage.{Covers}
use Rattle.markdown_base.specs.WellFormed.{IsWellFormed}
use Rattle.markdown_base.specs.declared.block_parts.BlockParts.{BlockParts}
use Rattle.markdown_base.specs.declared.item.Item.{Item}
use Rattle.markdown_base.specs.declared.node.Node.{Node}
use Rattle.markdown_builder.specs.HeadingsHoldInline.{HeadingsHoldInline}
use Rattle.markdown_builder.specs.Tightness.{TightInTightLists}
use Rattle.markdown_builder.specs.Shown.{shown_trees}
use Rattle.markdown_block_rules.specs.BlockResults.{IsBlockResult}
use Rattle.markdown_plain.proofs.ClosingDownLemmas.{holds_last}
use Rattle.markdown_plain.proofs.BegunLeavesLemmas.{no_paragraph}
use Rattle.markdown_plain.proofs.ReachedFramesLemmas.{nothing_is_over}
use Rattle.markdown_plain.proofs.ReadyLinesLemmas.{read_ready, white_at_end}

-- ---- one line

-- the line at a byte offset, as the pass reads it, is that of the definition
pub source_at : (pass : Pass) (at : ℕ) (line : Line) → IsLineFrom pass.placing.builder.text at line
    → IsCharBoundary pass.placing.builder.text at → IsUtf8 pass.placing.builder.text
    → IsSource pass line (first_line at (drop at pass.placing.builder.text))
source_at pass at line is boundary utf8 =
    let text = pass.placing.builder.text in let read = line_read text at line is in let begins = is.begins in
    let size = ap length read.0 ∙ part_length text line.start line.stop is.content.high in
    record {
      left = ap (λ n. record { scanned = n; owed = 0; column = 0; bytes = slice_range text line.start line.stop })
          begins ∙ ap (λ (bytes : List ℕ). record { scanned = at; owed = 0; column = 0; bytes = bytes }) (sym read.0);
      stop = omega (arith, size, is.content.low, begins);
      next = sym read.1;
      outermost = refl;
      indent = refl;
      from = subst (λ n. IsLineFrom text n line) (sym begins) is;
      boundary = rw begins boundary;
      utf8 = utf8;
    }

-- ---- line by line

-- the pass stands for some blocks, and these with the lines from a byte offset on are the blocks of the text
pub record StandsAt (s : Source) (pass : Pass) (from : ℕ) : Type 0 where
  pub blocks : Forest Block
  pub stands : StandsFor s pass from blocks
  pub counted : IsCounted s pass blocks
  pub whole : blocks_of s ≡ fold (with_next_line s) blocks (lines_at s.text from)

pub stands_first : {pass : Pass} (may : MayReadText pass) → StandsAt may.s pass 0
stands_first may = record {
  blocks = nil;
  stands = record { frames = []; inside = nil; last = None; stands = may.stands; whole = refl };
  counted = may.counted;
  whole = refl;
}

-- a line of the text is the next
pub record IsNextLine (s : Source) (text : List ℕ) (at : ℕ) (line : Line) : Type 0 where
  pub same : text ≡ s.text
  pub less : at < length s.text
  pub is : IsLineFrom s.text at line
  pub boundary : IsCharBoundary s.text at
  pub utf8 : IsUtf8 s.text

-- so that it may be read
abbrev pub may_read_next : {s : Source} {old : Pass} {text : List ℕ} {at : ℕ} {line : Line}
    → IsNextLine s text at line → StandsAt s old at → MayReadLine text old line
may_read_next {s} {old} {text} {at} {line} next so_far =
    let were = so_far.stands in
    let own : old.placing.builder.text ≡ s.text = ap (λ (s : Source). s.text) were.stands.source in
    record {
      s = s;
      before = record { frames = were.frames; inside = were.inside; last = were.last };
      source = first_line at (drop at s.text);
      same = next.same;
      stands = rw next.is.begins were.stands;
      is = rw (← own) (source_at old at line (rw own next.is) (rw own next.boundary) (rw own next.utf8));
      counted = rw (← were.whole) so_far.counted;
    }

-- and the pass stands after it
pub stands_next : {s : Source} {old new : Pass} {text : List ℕ} {at : ℕ} {line : Line} → IsNextLine s text at line
    → StandsAt s old at → ReadsLine text old line new → StandsAt s new line.next
stands_next {s} {old} {new} {text} {at} {line} next so_far reads =
    let may = may_read_next next so_far in let read = reads may in
    record {
      blocks = with_next_line s (blocks_before may.before) may.source;
      stands = read.stands;
      counted = read.counted;
      whole = so_far.whole
          ∙ rw (lines_step s.text at next.less, so_far.stands.whole, ← (line_read s.text at line next.is).1) refl;
    }

-- ---- the end

-- at the end of the text the blocks are those of all lines
pub whole_text : (s : Source) (old new : Pass) (from : ℕ) → length s.text ≤ from → StandsAt s old from
    → ClosesDown old new 0 → IsBuilt s new.placing.builder [] (blocks_of s)
whole_text s old new from end so_far closes =
    let at = so_far.stands in
    let whole = so_far.whole ∙ (ap (fold (with_next_line s) so_far.blocks) (no_lines s.text from end) ∙ at.whole) in
    let none = none_within at.frames in
    rw whole (rw (none.0, none.1 (with_last at.inside at.last)) at (closes.forgets s at.frames at.inside at.last
    (holds_last s old at.frames at.inside at.last at.stands.unended)).stands.built)

-- only white space is left of it
pub white_left : (s : Source) (old new : Pass) (from : ℕ) → length new.placing.builder.text ≤ from
    → StandsAt s old from → (IsClosable old → AreClosable new.placing.builder old.placed)
    → new.placing.builder.blocks ≡ [] → new.placing.builder.text ≡ old.placing.builder.text
    → AllPass is_in_blank_line new.placing.builder.text new.placing.builder.at (length new.placing.builder.text)
white_left s old new from end so_far closes none text =
    let ready = so_far.stands.stands.ready in white_at_end old new from ready (closes ready.closable) none text end

-- ---- from nothing to the tree

nothing_ready : (s : Source) (pass : Pass) → HasNothing s pass → IsUtf8 s.text → IsReady pass 0
nothing_ready s pass is utf8 =
    let view = pass.placing.builder in let at : view.at ≡ 0 = ap (λ (view : BuilderView). view.at) is.made in
    let start : IsCharBoundary view.text 0 = rw is.made (IsCharBoundary-start s.text utf8) in let placed = is.placed in
    read_ready pass 0 (record {
      closable = record {
        outside = ap (λ (view : BuilderView). view.leaf) is.made;
        containers = rw is.made tt;
        low = omega (arith, at);
        boundary = rw placed start;
        white = λ quotes k low high. absurd (omega (arith, placed, high));
      };
      lines = is.lines;
      low = omega (arith, placed);
      boundary = start;
      white = λ k low high. absurd (omega (arith, high));
    })

nothing_built : (s : Source) → IsBuilt s (nothing_made s.text) [] nil
unfolding shown_blocks definitions_in footnotes_in
nothing_built s = record {
  text = refl;
  blocks = refl;
  nested = tt;
  outside = refl;
  levels = refl;
  definitions = refl;
  footnotes = refl;
}

-- it stands for no blocks
pub nothing_stands : (s : Source) (pass : Pass) → HasNothing s pass → IsUtf8 s.text → Stands s pass [] nil None 0
nothing_stands s pass is utf8 = record {
  source = rw (is.made, is.syntax) refl;
  unended = (
    record {
      stands = record {
        built = rw is.made (nothing_built s);
        ends = record { at = ap (λ (view : BuilderView). view.at) is.made; quotes = tt };
        items = tt;
      };
      loose = record { lists = is.lists; empty = tt };
    },
    is.lines,
    nothing_is_over s,
  );
  loose = record { lists = is.lists; empty = tt };
  blanks = tt;
  before = no_paragraph pass.lines.items 0 is.lines;
  unheld = λ outside. is.blanks;
  earlier = tt;
  alone = tt;
  remembers = tt;
  ready = nothing_ready s pass is utf8;
}

-- nor did it add any cells
pub nothing_counted : (s : Source) (pass : Pass) → HasNothing s pass → IsCounted s pass nil
nothing_counted s pass is = record { added = is.added; most = is.most; few = omega arith; unended = refl }

-- ---- the block result

pub result_of : (s : Source) (view : BuilderView) (nodes : List (Node Item)) (parts : BlockParts)
    → IsBuilt s view [] (blocks_of s)
    → view.levels ≡ shown_trees (parts_of view) (relabelled (λ n. n.item) (tree_of nodes)) ∷ []
    → HasParts view parts → view.text ≡ s.text → IsWellFormed view.text nodes parts → Covers view.text nodes parts
    → TightInTightLists nodes → HeadingsHoldInline (tree_of nodes) → IsBlockResult s nodes parts
result_of s view nodes parts built tree has text formed covered tight headings = record {
  tree = rw (has.texts, has.headings, has.alignments) (cc (built.levels, tree));
  definitions = has.definitions ∙ built.definitions;
  footnotes = has.footnotes ∙ built.footnotes;
  well_formed = rw (← text) formed;
  covers = rw (← text) covered;
  tight = tight;
  headings_hold_inline = headings;
}
