-- What the pass stands for after a line that was placed, and after a blank line: the containers that this does not
-- reach are closed.
use Rattle.std.proofs.Common.{◌≡◌, subst, ℕ, ◌≤◌, true, false, not, List, [], ◌∷◌, ◌++◌, Option, Some, None, length}
use Rattle.std.proofs.Common.{map, refl, sym, ap, ◌∙◌, true≢false, arith, append_assoc}
use Rattle.markdown_plain.proofs.Names.{and-false, Forest, nil, followed_by, LineLeft, Source, SourceLine, cut}
use Rattle.markdown_plain.proofs.Names.{is_blank_rest, Line, Block, goes_on, leaf_with, line_block, Kind, with_line}
use Rattle.markdown_plain.proofs.Names.{ends_blank, is_blank_block, Pass, AreItemsInLists, MayEnd, ClosesDown}
use Rattle.markdown_plain.proofs.Names.{AreContainers, AreNested, Frame, innermost_is, is_list, reached, rebuilt}
use Rattle.markdown_plain.proofs.Names.{touched, AreHeld, is_table, leaf_block, are_none, quote_depth, without_leaf}
use Rattle.markdown_plain.proofs.Names.{LeafKind, BlanksKnown, IsLooseAs, QuotesEnd, Before, IsReachedBy, LeavesOff}
use Rattle.markdown_plain.proofs.Names.{blocks_before, blocks_in, is_indented, reached_of, Stands, GoesOnBy, HasLast}
use Rattle.markdown_plain.proofs.Names.{HoldsBlanks, IsLeafKind, IsSource, with_last, PlacesFor, PlacesLast}
use Rattle.markdown_block_rules.specs.BlockRules.{code_lines, last_is_blank}
use Rattle.markdown_plain.specs.ListLooseness.{blank_from}
use Rattle.markdown_plain.specs.Fits.{MayAddBefore}
use Rattle.markdown_plain.specs.Standing.{StandsFor, Places}
use Rattle.markdown_plain.proofs.ClosingDownLemmas.{holds_last, known_of_outermost}
use Rattle.markdown_plain.proofs.ClosedFramesLemmas.{blank_is_at_end, blank_is_built}
use Rattle.markdown_plain.proofs.ReachedFramesLemmas.{blank_alike, blank_quotes, empty_blank, item_reached}
use Rattle.markdown_plain.proofs.ReachedFramesLemmas.{leaf_is_over, open_are_containers}
use Rattle.markdown_plain.proofs.OpenListsLemmas.{blank_at_end, blank_known, known_touched, same_touched, ends_more}
use Rattle.markdown_plain.proofs.OpenListsLemmas.{content_known}
use Rattle.markdown_plain.proofs.FramesLemmas.{goes_on_last, innermost_apart, marker_of_list, block_begins, inner_left}
use Rattle.markdown_plain.proofs.FramesLemmas.{item_begins, outer_taken, reached_parts, all_outer}
use Rattle.markdown_plain.proofs.LeafTreesLemmas.{by_test}
use Rattle.markdown_plain.proofs.OpenedFramesLemmas.{line_keeps, built_touched, earlier_outer, earlier_touched}
use Rattle.markdown_plain.proofs.OpenedFramesLemmas.{quotes_touched}
use Rattle.markdown_plain.proofs.OpenTablesLemmas.{in_leaf_open, leaf_known}
use Rattle.markdown_plain.proofs.TextReachedLemmas.{end_touched, leaf_grows, leaf_leaves_off, lists_before_blank}
use Rattle.markdown_plain.proofs.TextReachedLemmas.{loose_grown, none_behind, open_leaf_touched, open_parts}
use Rattle.markdown_plain.proofs.LinedLeavesLemmas.{blank_held, code_before_blank, grown_to}
use Rattle.markdown_plain.proofs.ReadyLinesLemmas.{SeesBlank, blank_moves, closed_ready, held_ready}
use Rattle.markdown_plain.proofs.HeldLinesLemmas.{seen_remembered}
use Rattle.markdown_block_rules.specs.BlockGrowth as was
use Rattle.markdown_plain.specs.declared.pass.LeafKind.TheVariants as leaf
use Rattle.markdown_plain.specs.declared.containers.Reached as code

-- ---- what goes on in a blank line

indented_is : (how : LeafKind) (kind : Kind) → GoesOnBy how kind
    → (how ≡ leaf.Indented → not (is_table kind) ≡ true → ⊥) → is_indented kind ≡ false
indented_is leaf.Indented (was.indented_leaf lines) is other = absurd (other refl refl)
indented_is how (was.indented_leaf lines) is other = absurd is
indented_is how kind is other = refl

-- neither a paragraph does, nor a leaf that is no indented code
last_leaves_off : (s : Source) (pass : Pass) (frames : List Frame) (inside : Forest Block) (last : Option Block)
    (rest : SourceLine) → HasLast s pass frames inside last → is_blank_rest rest ≡ true → LeavesOff s rest last
    → (pass.leaf ≡ leaf.Indented → pass.placing.builder.leaf ≡ true → ⊥) → goes_on s (with_last inside last) rest ≡ None
unfolding goes_on
last_leaves_off s pass frames inside None rest has blank off other = (has.2 rest).0
last_leaves_off s pass frames inside (Some b) rest (Some sources, may, knows) blank off other =
    rw (goes_on_last s inside b nil rest, may.unended.kind, blank) refl
last_leaves_off s pass frames inside (Some b) rest (None, may, knows) blank off other =
    let plain = indented_is pass.leaf b.kind knows.0 (λ how leaf. other how (may.unended.1.leaf ∙ leaf)) in
    leaf_leaves_off s rest inside b may.unended.0 (off may.unended.0 (rw plain (and-false (is_blank_rest rest))))

-- ---- what it makes of the blocks

-- a blank line as a block
abbrev pub blank_of : SourceLine → Block
blank_of l = record { start = l.left.scanned; first = l.next; last = l.next; kind = was.blank_line }

-- the line follows there
blank_follows : (s : Source) (frames : List Frame) (now : Forest Block) (l : SourceLine) → AreContainers frames
    → AreNested frames → goes_on s (rebuilt (reached s frames now l).inner now) (reached s frames now l).rest ≡ None
    → is_blank_rest (reached s frames now l).rest ≡ true → with_line s (rebuilt frames now) l
    ≡ rebuilt (map (touched l) (reached s frames now l).outer)
    (followed_by (rebuilt (reached s frames now l).inner now) (leaf_block (blank_of (reached s frames now l).rest)))
blank_follows s frames now l are nested none blank =
    let r = reached s frames now l in let line : line_block s r.rest ≡ leaf_block (blank_of r.rest) = rw blank refl in
    by_test (innermost_is is_list r.outer) (λ is.
    let list = innermost_apart is_list r.outer is in let marked = marker_of_list list.last.block.kind list.passes in
    rw list.are (item_begins s frames now l are nested list.outer list.last marked.marker list.are marked.is none _
    (rw blank refl))) (λ plain. block_begins s frames now l are nested none plain ∙ rw line refl)

-- ---- where the open block quotes end

-- each that the line reaches went on in it; none is reached by a line that is all white space
blank_ends : {s : Source} {old : Pass} {line : Line} {found : code.Reached} {before : Before} {source : SourceLine}
    (placed : ℕ) → IsReachedBy s old line found before source → SeesBlank old line source placed
    → QuotesEnd placed (map (touched source) (reached_of s before source).outer)
blank_ends {s} {before = before} {source = source} placed by sees = by_test (is_blank_rest source)
    (λ is. (blank_quotes s before.frames (blocks_in before) source source placed is).0)
    (λ is. quotes_touched source placed (sym (sees.moves is ∙ by.is.next)) (reached_of s before source).outer)

-- ---- what the pass stands for

-- the pass once a line was seen that is blank for the open blocks from a number on
abbrev pub blank_seen : Pass → (quoted placed : ℕ) → Pass
blank_seen pass quoted placed = record pass {
  looseness = record pass.looseness { blank_from = Some (blank_from pass.looseness.blank_from quoted) };
  placed = placed;
}

items_of : (s : Source) (pass : Pass) (frames : List Frame) (inside : Forest Block) (last : Option Block)
    → HasLast s pass frames inside last → AreItemsInLists false (rebuilt frames (with_last inside last))
items_of s pass frames inside None has = has.0.stands.items
items_of s pass frames inside (Some b) has = has.1.items

-- a line begins before the next one, or where that does
pub next_after : (pass : Pass) (line : Line) (source : SourceLine) → IsSource pass line source → line.start ≤ line.next
next_after pass line source is = omega (arith, ap (λ (left : LineLeft). left.scanned) is.left, is.stop, is.from.ends)

-- a blank line after the blocks in the innermost container that it reaches, once the others are closed
pub blank_stands : (s : Source) (old mid : Pass) (line : Line) (found : code.Reached) (before : Before)
    (source : SourceLine) (placed : ℕ) → IsReachedBy s old line found before source
    → is_blank_rest (reached_of s before source).rest ≡ true
    → ((reached_of s before source).inner ≡ [] → LeavesOff s (reached_of s before source).rest before.last)
    → ((reached_of s before source).inner ≡ [] → old.leaf ≡ leaf.Indented → old.placing.builder.leaf ≡ true → ⊥)
    → ClosesDown old mid found.depth → SeesBlank old line source placed
    → StandsFor s (blank_seen mid found.quoted placed) line.next (with_line s (blocks_before before) source)
blank_stands s old mid line found before source placed by blank off other closes sees =
    let stands = by.stands in let now = blocks_in before in let r = reached_of s before source in
    let parts = open_parts s old before.frames before.inside before.last stands.unended stands.loose in
    let are = open_are_containers old.placing.builder.texts parts.containers before.frames parts.are in
    let none = none_behind s before.frames now source are (λ all. last_leaves_off s old before.frames before.inside
    before.last r.rest stands.unended blank (off all) (other all)) (rw blank refl) in
    let whole = blank_follows s before.frames now source are parts.nested none blank in
    let inside = rebuilt r.inner now in let b = blank_of r.rest in let all = followed_by inside (leaf_block b) in
    let outer = map (touched source) r.outer in let view = mid.placing.builder in
    let may = rw (by.reaches.depth, outer_taken s before.frames now source, inner_left s before.frames now source)
    at (closes.forgets s before.frames before.inside before.last
    (holds_last s old before.frames before.inside before.last stands.unended)) in
    let built = may.stands.built in let new = blank_seen mid (quote_depth r.outer) placed in
    let known = rw (outer_taken s before.frames now source, inner_left s before.frames now source)
    at (known_of_outermost old.looseness.blank_from (length r.outer) before.frames now stands.blanks) in
    let loose : IsLooseAs new.looseness outer all = same_touched source new.looseness r.outer all (record {
      lists = may.loose.lists ∙ lists_before_blank r.outer inside b refl;
      empty = empty_blank mid.looseness.item_is_empty r.outer inside b
          (item_reached s before.frames now source blank) may.loose.empty;
    }) in
    rw by.reaches.quoted (record {
      frames = outer;
      inside = all;
      last = None;
      stands = record {
        source = rw (closes.text, ap (λ (p : Pass). p.syntax) closes.same) stands.source;
        unended = (
          record {
            stands = record {
              built = blank_is_built s view outer inside b refl (built_touched source s view r.outer inside built);
              ends = blank_is_at_end new outer inside b refl (record {
                at = may.stands.ends.at ∙ sym (end_touched source r.outer inside);
                quotes = blank_ends placed by sees;
              });
              items = rw (← whole) (line_keeps s (blocks_before before) source
                  (items_of s old before.frames before.inside before.last stands.unended));
            };
            loose = loose;
          },
          closes.ended,
          leaf_is_over s inside b refl,
        );
        loose = loose;
        blanks = known_touched source new.looseness.blank_from r.outer all
            (blank_known mid.looseness.blank_from view.texts view.blocks r.outer inside all built.blocks
            (rw (ap (λ (p : Pass). p.looseness.blank_from) closes.same) known) (blank_at_end inside b refl));
        before = rw closes.ended (omega arith);
        unheld = λ outside. closes.unheld stands.unheld;
        remembers = tt;
        earlier = earlier_touched source line.start line.next (next_after old line source by.is) r.outer
            (earlier_outer line.start r.inner r.outer (rw reached_parts stands.earlier));
        alone = tt;
        ready = closed_ready old new line.next (closes.here stands.ready.closable) closes.ended closes.text
            (blank_moves view.texts view.blocks by blank sees built.blocks);
      };
      whole = whole;
    })

-- ---- a blank line in indented code

-- whether the last of some lines is blank
last_blank : (lines : List SourceLine) (l : SourceLine) → last_is_blank (lines ++ l ∷ []) ≡ is_blank_rest l
last_blank [] l = refl
last_blank (m ∷ []) l = refl
last_blank (m ∷ n ∷ lines) l = last_blank (n ∷ lines) l

-- all containers go on
pub all_reached : (s : Source) (frames : List Frame) (now : Forest Block) (l : SourceLine)
    → (reached s frames now l).inner ≡ [] → (reached s frames now l).outer ≡ frames
all_reached s frames now l none = all_outer s frames now l none

-- the open leaf is indented code with these lines, the blank ones of which are held back at its end
record IsIndented (s : Source) (pass : Pass) (frames : List Frame) (inside : Forest Block) (b : Block) : Type 0 where
  lines : List SourceLine
  kind : b.kind ≡ was.indented_leaf lines
  may : MayEnd s pass frames inside b None
  holds : HoldsBlanks pass.blanks.items (was.indented_leaf lines)
  empty : pass.lines.items ≡ []

is_indented_code : (s : Source) (pass : Pass) (frames : List Frame) (inside : Forest Block) (b : Block)
    → HasLast s pass frames inside (Some b) → pass.leaf ≡ leaf.Indented → pass.placing.builder.leaf ≡ true
    → IsIndented s pass frames inside b
is_indented_code s pass frames inside b (Some sources, may, knows) how open_leaf =
    absurd (true≢false (sym open_leaf ∙ may.unended.built.outside))
is_indented_code s pass frames inside b (None, may, knows) how open_leaf =
    let code = lines_of b.kind (rw how at (leaf_known pass.leaf b.kind (sym may.unended.1.leaf ∙ open_leaf) knows.0)) in
    record { lines = code.0; kind = code.1; may = may; holds = rw code.1 at knows.1; empty = knows.2 }
  where
    lines_of : (kind : Kind) → IsLeafKind leaf.Indented kind
        → (lines : List SourceLine) × (kind ≡ was.indented_leaf lines)
    lines_of (was.indented_leaf lines) is = (lines, refl)
    lines_of other is = absurd is

abbrev pub before_last : List Frame → Forest Block → Block → Before
before_last frames inside b = record { frames = frames; inside = inside; last = Some b }

-- a blank line that reaches all containers is one more line of it
pub code_stands : (s : Source) (old mid : Pass) (line : Line) (found : code.Reached) (frames : List Frame)
    (inside : Forest Block) (last : Option Block) (source : SourceLine) (placed : ℕ)
    → IsReachedBy s old line found (record { frames = frames; inside = inside; last = last }) source
    → is_blank_rest (reached s frames (with_last inside last) source).rest ≡ true
    → (reached s frames (with_last inside last) source).inner ≡ [] → old.leaf ≡ leaf.Indented
    → old.placing.builder.leaf ≡ true → ((blank : List SourceLine) → AreHeld old.blanks.items blank
    → AreHeld mid.blanks.items (blank ++ cut 4 (reached s frames (with_last inside last) source).rest ∷ []))
    → SeesBlank old line source placed → MayAddBefore old.placing.builder mid.blanks.items line.next
    → StandsFor s (blank_seen (record old { blanks = mid.blanks }) found.quoted placed) line.next
    (with_line s (rebuilt frames (with_last inside last)) source)
code_stands s old mid line found frames inside None source placed by blank none how open_leaf holds sees fits =
    absurd (true≢false (sym open_leaf ∙ by.stands.unended.0.stands.built.outside))
code_stands s old mid line found frames inside (Some b) source placed by blank none how open_leaf holds sees fits =
    let stands = by.stands in let now = followed_by inside (leaf_block b) in let r = reached s frames now source in
    let all = all_reached s frames now source none in
    let is = is_indented_code s old frames inside b stands.unended how open_leaf in let view = old.placing.builder in
    let open_in = is.may.unended.1 in let white = blank_alike 4 r.rest.left ∙ blank in
    let grown = was.indented_leaf (is.lines ++ cut 4 r.rest ∷ []) in let c = grown_to b r.rest.next grown in
    let after = followed_by inside (leaf_block c) in
    let whole = leaf_grows s frames inside b source grown
    (open_are_containers view.texts open_in.outer frames open_in.around.blocks) open_in.around.nested none
    is.may.unended.0 (ap (leaf_with s r.rest) is.kind ∙ rw blank refl) in
    let new = blank_seen (record old { blanks = mid.blanks }) (quote_depth frames) placed in
    let loose = loose_grown source new.looseness frames inside b c (ap is_blank_block is.kind)
    (record { lists = stands.loose.lists; empty = stands.loose.empty }) in
    let later = next_after old line source by.is in
    let parts = open_parts s old frames inside (Some b) stands.unended stands.loose in
    rw (by.reaches.quoted, all) (record {
      frames = map (touched source) frames;
      inside = inside;
      last = Some c;
      stands = record {
        source = stands.source;
        unended = (
          None,
          record {
            unended = (
              refl,
              open_leaf_touched source s view frames inside true c (blank_held s view frames inside b is.lines r.rest
                  (in_leaf_open s old frames inside b is.may open_leaf) is.kind blank),
            );
            syntax = is.may.syntax;
            quotes = rw all at (blank_ends placed by sees);
            items = rw (← whole) (line_keeps s (rebuilt frames now) source is.may.items);
            loose = loose;
          },
          (
            subst (λ how. IsLeafKind how grown) (sym how) tt,
            (
              is.holds.0 ++ cut 4 r.rest ∷ [],
              ap (λ ls. ls ++ cut 4 r.rest ∷ []) is.holds.1 ∙ rw (code_before_blank is.lines (cut 4 r.rest) white)
                  (append_assoc (code_lines is.lines) is.holds.0 (cut 4 r.rest ∷ [])),
              holds is.holds.0 is.holds.2,
            ),
            is.empty,
          ),
        );
        loose = loose;
        blanks = known_touched source new.looseness.blank_from frames after
            (blank_known old.looseness.blank_from view.texts open_in.outer frames now after open_in.around.blocks
            stands.blanks (ends_more false inside (leaf_block c) ∙ last_blank is.lines (cut 4 r.rest) ∙ white));
        before = omega (arith, stands.before, later);
        unheld = λ outside. absurd (true≢false (sym open_leaf ∙ outside));
        earlier = earlier_touched source line.start line.next later frames stands.earlier;
        alone = λ metadata. absurd (true≢false (sym metadata));
        remembers = tt;
        ready = held_ready old new line.start line.next stands.ready fits
            (blank_moves view.texts (without_leaf view) by blank sees (rw (parts.without, all) parts.are));
      };
      whole = whole;
    })

pub none_inside : (frames : List Frame) → are_none frames ≡ true → frames ≡ []
none_inside [] none = refl
none_inside (f ∷ frames) none = absurd (true≢false (sym none))

-- ---- after a line

-- no blank line is known of where a line that is not blank was placed
known_when_placed : (s : Source) (pass : Pass) (frames : List Frame) (inside : Forest Block) (last : Option Block)
    → PlacesLast s pass frames inside last → ends_blank false (with_last inside last) ≡ false
    → BlanksKnown None frames (with_last inside last)
known_when_placed s pass frames inside None is filled =
    content_known pass.placing.builder.texts pass.placing.builder.blocks frames inside is.0.built.blocks filled
known_when_placed s pass frames inside (Some b) (None, is, knows) filled =
    content_known pass.placing.builder.texts is.1.outer frames _ is.1.around.blocks filled
known_when_placed s pass frames inside (Some b) (Some sources, is, knows) filled =
    content_known pass.placing.builder.texts pass.placing.builder.blocks frames _ is.built.blocks filled

-- the pass after a line that is not blank, and ends at a byte offset
abbrev pub content_seen : Pass → ℕ → Pass
content_seen pass to = record pass { looseness = record pass.looseness { blank_from = None }; placed = to }

seen_last : (s : Source) (pass : Pass) (to : ℕ) (frames : List Frame) (inside : Forest Block) (last : Option Block)
    → Places s pass frames inside last to → PlacesLast s pass frames inside last
    → HasLast s (content_seen pass to) frames inside last
seen_last s pass to frames inside None places (is, lines, over) = (assumption (is, places), lines, over)
seen_last s pass to frames inside (Some b) places (None, is, knows) =
    (None, assumption (ap (λ (source : Source). source.syntax) (sym places.source), is, places), knows)
seen_last s pass to frames inside (Some b) places (Some sources, is, knows) =
    (Some sources, assumption (ap (λ (source : Source). source.syntax) (sym places.source), is, places), knows)

-- once a line that is not blank is placed, and this is recorded, the pass stands for the blocks that the line made
pub placed_stands : (s : Source) (old new : Pass) (to : ℕ) (blocks : Forest Block) → new ≡ content_seen old to
    → PlacesFor s old to blocks → StandsFor s new to blocks
placed_stands s old new to blocks same places =
    let p = places.places in let last = seen_last s old to places.frames places.inside places.last p p.unended in
    let known = known_when_placed s old places.frames places.inside places.last p.unended p.filled in
    let remembers = seen_remembered s old (content_seen old to) to places.last refl p.remembers in
    let stands : Stands s (content_seen old to) places.frames places.inside places.last to =
    assumption (p, last, known, remembers) in
    rw same (record { frames = _; inside = _; last = _; stands = stands; whole = places.whole })
