-- A line that is added to the paragraph whose lines are held back, or with which one begins; and what is remembered
-- of the paragraph then.
use Rattle.std.proofs.Common.{◌≡◌, ◌∙◌, ℕ, ◌<◌, ◌≤◌, Bool, true, false, List, [], ◌∷◌, ◌++◌, None, arith, length, refl}
use Rattle.std.proofs.Common.{sym, ap, ◌-◌, Option, Some, length-append, slice_get, append-nil, ◌==◌}
use Rattle.markdown_plain.proofs.Names.{option_map_or, nat_tests, same_Some, slice_get-get_or, Forest, OpenBlock}
use Rattle.markdown_plain.proofs.Names.{innermost_block, Source, AreHeldFrom, IsHeldLine, SourceLine, is_blank_rest}
use Rattle.markdown_plain.proofs.Names.{text_line, HeldLine, Line, Block, Kind, table_with, Pass, Frame, is_item}
use Rattle.markdown_plain.proofs.Names.{Reached, reached, AreInOrder, AreTextLines, IsParagraph, IsTextLine}
use Rattle.markdown_plain.proofs.Names.{AreItemsOpenedIn, BeginsText, HoldsParagraph, leaf_block, around_innermost}
use Rattle.markdown_plain.proofs.Names.{AreOpen, IsBodyOf, IsBuilt, around_in, EndsFrom, first_task, has_paragraph}
use Rattle.markdown_plain.proofs.Names.{lines_end, task_at, past, end_of, followed_by, reads_tables, HoldsLast, MayEnd}
use Rattle.markdown_plain.proofs.Names.{IsBefore, are_none, IsSource, IfParagraph, IfParagraphLast, IsUntabled}
use Rattle.markdown_plain.proofs.Names.{Remembers, last_of, next_line, held_line, LineRest, IsReady}
use Rattle.std.proofs.lemmas.List.{get_or_append_left}
use Rattle.markdown_plain.specs.OpenLeaves.{ComesAfter, IsOpenedIn}
use Rattle.markdown_plain.specs.Paragraphs.{is_item_in}
use Rattle.markdown_plain.specs.Beginning.{Holds, IsMadeOf}
use Rattle.markdown_plain.specs.TableHeads.{indent_of}
use Rattle.markdown_block_rules.specs.BlockGrowth as was
use Rattle.markdown_plain.specs.declared.containers.Reached as code
use Rattle.markdown_plain.proofs.ClosableLemmas.{past_is_end}
use Rattle.markdown_plain.proofs.DefinitionsLemmas.{as_many}
use Rattle.markdown_plain.proofs.LeafTreesLemmas.{by_test, get_last, innermost_of_opened}

-- ---- a line more

-- the last of some lines and one more
last_added : (lines : List HeldLine) (line : HeldLine) → last_of (lines ++ line ∷ []) ≡ Some line
last_added lines line =
    ap (slice_get (lines ++ line ∷ [])) (omega (arith, length-append lines (line ∷ []))) ∙ get_last lines line

pub end_after : (lines : List HeldLine) (line : HeldLine) → lines_end (lines ++ line ∷ []) ≡ line.next
end_after lines line = rw (last_added lines line) refl

held_after : (text : List ℕ) (from : ℕ) (lines : List HeldLine) (line : HeldLine) → AreHeldFrom text from lines
    → past from lines ≤ line.start → IsHeldLine text line → AreHeldFrom text from (lines ++ line ∷ [])
held_after text from [] line are low held = (low, (held, tt))
held_after text from (m ∷ lines) line are low held =
    (are.0, (are.1.0, held_after text m.next lines line are.1.1 low held))

order_after : (empty : Bool) (text : List ℕ) (first : HeldLine) (lines : List HeldLine) (line : HeldLine)
    → AreInOrder empty text first lines → past first.next lines ≤ line.start → IsHeldLine text line
    → AreInOrder empty text first (lines ++ line ∷ [])
order_after true text first lines line are low held = held_after text first.next lines line are low held
order_after false text first lines line are low held = held_after text 0 (first ∷ lines) line are low held

text_after : (text : List ℕ) (lines : List HeldLine) (sources : List SourceLine) (line : HeldLine) (source : SourceLine)
    → AreTextLines text lines sources → IsTextLine text line source
    → AreTextLines text (lines ++ line ∷ []) (sources ++ source ∷ [])
text_after text [] [] line source are is = (is, tt)
text_after text (l ∷ lines) (m ∷ sources) line source are is =
    (are.0, text_after text lines sources line source are.1 is)
text_after text lines sources line source are is = absurd are

paragraph_after : (text : List ℕ) (lines : List HeldLine) (sources : List SourceLine) (line : HeldLine)
    (source : SourceLine) → 0 < length lines → IsParagraph text lines sources → ComesAfter text lines line source
    → IsParagraph text (lines ++ line ∷ []) (sources ++ source ∷ [])
paragraph_after text [] sources line source some is comes = absurd (omega (arith, some))
paragraph_after text (first ∷ lines) sources line source some is comes = record {
  inside = order_after (first.start == first.stop) text first lines line is.inside
      (rw (past_is_end first lines) at comes.after) comes.held;
  are = text_after text (first ∷ lines) sources line source is.are comes.is;
}

-- what is known of the first line stays
first_stays : (s : Source) (marked : ℕ) (sources more : List SourceLine) → 0 < length sources → EndsFrom marked sources
    → (first_task s marked (sources ++ more) ≡ first_task s marked sources) × EndsFrom marked (sources ++ more)
first_stays s marked [] more some from = absurd (omega (arith, some))
first_stays s marked (l ∷ sources) more some from = (refl, from)

pub line_added : (s : Source) (old new : Pass) (frames : List Frame) (inside : Forest Block) (b : Block)
    (sources : List SourceLine) (line : HeldLine) (source : SourceLine) → new ≡ record old { lines = new.lines }
    → new.lines.items ≡ old.lines.items ++ line ∷ [] → HoldsParagraph s old frames inside b sources
    → ComesAfter old.placing.builder.text old.lines.items line source → HoldsParagraph s new frames inside
    (record b { last = source.next; kind = was.paragraph_leaf (sources ++ source ∷ []) }) (sources ++ source ∷ [])
line_added s old new frames inside b sources line source same lines holds comes =
    let text = old.placing.builder.text in
    let first = first_stays s (around_innermost frames).marked sources (source ∷ [])
    (omega (arith, as_many text old.lines.items sources holds.lines.are, holds.some)) holds.from in
    let built : new.placing ≡ old.placing = ap (λ (p : Pass). p.placing) same in
    record {
      built = rw built holds.built;
      some = rw lines (omega (arith, length-append old.lines.items (line ∷ [])));
      kind = refl;
      lines = rw (built, lines) (paragraph_after text old.lines.items sources line source holds.some holds.lines comes);
      task = ap (λ (p : Pass). p.task) same ∙ (holds.task ∙ sym first.0);
      from = first.1;
      last = rw (lines, end_after old.lines.items line) (sym comes.is.next);
    }

-- ---- the first line, and its task marker

-- an open block is an item that was opened in a line, where the first line of the block ends with that
item_is_marked : (texts : List (List ℕ)) (line : Line) (b : Block) (kind : Kind) (block : OpenBlock)
    → block.start ≡ b.start → IsBodyOf texts kind block.body → (is_item kind ≡ true → IsOpenedIn line b)
    → 0 < line.next → is_item_in block line ≡ (line.next == (around_in b kind).marked)
item_is_marked texts line b kind block start is opened some = by_kind kind is opened
  where
    nowhere : false ≡ (line.next == 0)
    nowhere = grind (arith, nat_tests, some)

    by_kind : (kind : Kind) → IsBodyOf texts kind block.body → (is_item kind ≡ true → IsOpenedIn line b)
        → is_item_in block line ≡ (line.next == (around_in b kind).marked)
    by_kind was.quote_container is opened = rw is nowhere
    by_kind (was.alert_container kind) is opened = rw is nowhere
    by_kind (was.list_container marker) is opened = rw is nowhere
    by_kind (was.item_container indent) is opened = rw (is, start) (opened refl).same
    by_kind (was.footnote_container label) is opened = rw is.1 nowhere
    by_kind other is opened = absurd is

-- so is the innermost
innermost_is_marked : (texts : List (List ℕ)) (line : Line) (blocks : List OpenBlock) (frames : List Frame)
    → AreOpen texts blocks frames → AreItemsOpenedIn line frames → 0 < line.next
    → option_map_or (λ block. is_item_in block line) (innermost_block blocks) false
    ≡ (line.next == (around_innermost frames).marked)
innermost_is_marked texts line blocks [] none opened some = rw none (grind (arith, nat_tests, some))
innermost_is_marked texts line blocks (f ∷ outer) (block, others, are, is, around) opened some =
    rw (are, innermost_of_opened) (item_is_marked texts line f.block f.block.kind block is.start is.body opened.0 some)

marked_before : (line : Line) (frames : List Frame) → AreItemsOpenedIn line frames
    → (around_innermost frames).marked ≤ line.next
marked_before line [] opened = omega arith
marked_before line (f ∷ outer) opened = by_kind f.block.kind opened.0
  where
    by_kind : (kind : Kind) → (is_item kind ≡ true → IsOpenedIn line f.block)
        → (around_in f.block kind).marked ≤ line.next
    by_kind (was.item_container indent) opened = (opened refl).before
    by_kind other opened = omega arith

pub paragraph_begun : (s : Source) (new : Pass) (frames : List Frame) (inside : Forest Block) (b : Block) (line : Line)
    (held : HeldLine) (source : SourceLine) → held.stop ≡ line.stop → held.next ≡ line.next
    → new.lines.items ≡ held ∷ [] → new.task ≡ task_at new line held.start → IsBuilt s new.placing.builder frames inside
    → s.syntax ≡ new.syntax → BeginsText new.placing.builder.text held source b → AreItemsOpenedIn line frames
    → HoldsParagraph s new frames inside b (source ∷ [])
paragraph_begun s new frames inside b line held source stop next lines task built syntax begins opened =
    let view = new.placing.builder in let ends : line.next ≡ source.next = sym next ∙ begins.is.next in
    let some : 0 < line.next = rw (← next) begins.some in
    record {
      built = built;
      some = rw lines (omega arith);
      kind = begins.kind;
      lines = rw lines (record { inside = begins.inside; are = (begins.is, tt) });
      task = task ∙ rw (
        innermost_is_marked view.texts line view.blocks frames built.blocks opened some,
        ends,
        ← stop,
        begins.is.bytes,
        syntax,
      ) refl;
      from = rw (← ends) (marked_before line frames opened);
      last = rw (lines, begins.last) (sym begins.is.next);
    }

-- ---- whether a paragraph is open

pub has_held : (s : Source) (pass : Pass) (frames : List Frame) (inside : Forest Block) (b : Block)
    (sources : List SourceLine) → HoldsParagraph s pass frames inside b sources → has_paragraph pass ≡ true
has_held s pass frames inside b sources holds =
    let is : (length pass.lines.items == 0) ≡ false = grind (arith, nat_tests, holds.some) in
    rw (holds.built.outside, is) refl

-- ---- the next line

-- it has the bytes of the rest of the line
pub next_same : (s : Source) (r : Reached)
    → next_line s r ≡ record (text_line r.rest) { indent = (next_line s r).indent }
next_same s r =
    by_test (are_none r.inner) (λ e. by_test (reads_tables s) (λ reads. rw (e, reads) refl) (λ off. rw (e, off) refl))
    (λ e. rw e refl)

pub next_of : (s : Source) (r : Reached) → (next_line s r).next ≡ r.rest.next
next_of s r = ap (λ (l : SourceLine). l.next) (next_same s r)

pub next_comes : (s : Source) (r : Reached) (text : List ℕ) (lines : List HeldLine) (line : HeldLine)
    → ComesAfter text lines line (text_line r.rest) → ComesAfter text lines line (next_line s r)
next_comes s r text lines line comes = record {
  is = rw (next_same s r) (record { start = comes.is.start; bytes = comes.is.bytes; next = comes.is.next });
  held = comes.held;
  after = comes.after;
}

-- its indentation is that of the rest of the line, if it reaches the paragraph
next_indent : (s : Source) (r : Reached) → reads_tables s ≡ true → r.rest.indent ≡ None
    → (next_line s r).indent ≡ indent_of r
next_indent s r reads none = by_test (are_none r.inner) (λ e. rw (e, reads) refl) (λ e. rw e none)

-- where no tables are read, a line makes none
untabled_off : (s : Source) (l : SourceLine) (b : Block) (kind : Kind) → reads_tables s ≡ false
    → table_with s l b kind ≡ None
untabled_off s l b (was.paragraph_leaf lines) off = by_test (is_blank_rest l) (λ e. rw e refl) (λ e. rw (e, off) refl)
untabled_off s l b other off = refl

-- a line makes no table of the paragraph of these lines, if it reaches that
abbrev pub MakesNoTable : Source → Reached → List SourceLine → Type 0
MakesNoTable s r lines = are_none r.inner ≡ true → (b : Block) → table_with s r.rest b (was.paragraph_leaf lines) ≡ None

pub makes_no_table : (s : Source) (pass : Pass) (from : ℕ) (r : Reached) (sources : List SourceLine)
    → (reads_tables s ≡ true → IsUntabled s pass from r sources) → MakesNoTable s r sources
makes_no_table s pass from r sources untabled = by_test (reads_tables s) (λ reads. (untabled reads).none)
    (λ off all b. untabled_off s r.rest b (was.paragraph_leaf sources) off)

-- ---- lists

-- two lists that are the same have the same last element
last_alike : {A : Type 0} (xs ys : List A) (x y : A) → xs ++ x ∷ [] ≡ ys ++ y ∷ [] → x ≡ y
last_alike xs ys x y same =
    let size : length xs ≡ length ys =
    omega (arith, ap length same, length-append xs (x ∷ []), length-append ys (y ∷ [])) in
    same_Some x y (sym (get_last xs x) ∙ rw (same, size) (get_last ys y))

-- where the lines before it end
front_end : (lines : List HeldLine) (line : HeldLine) (n : ℕ) → 0 < length lines → n ≡ length lines
    → end_of (lines ++ line ∷ []) n ≡ lines_end lines
front_end lines line n some size =
    rw (
      size,
      slice_get-get_or (lines ++ line ∷ []) (length lines - 1) line (omega (arith, length-append lines (line ∷ []))),
      slice_get-get_or lines (length lines - 1) line (omega (arith, some)),
      get_or_append_left lines (line ∷ []) line (length lines - 1) (omega (arith, some)),
    ) refl

-- ---- what is remembered

-- of a paragraph that begins
pub first_remembered : (s : Source) (pass : Pass) (to : ℕ) (line : HeldLine) (source : SourceLine)
    → pass.lines.items ≡ line ∷ [] → line.next ≡ to → pass.tried ≡ false → Remembers s pass to (source ∷ [])
first_remembered s pass to line source lines next untried = record {
  ends = ap lines_end lines ∙ next;
  tried = untried;
  further = λ head before last there same some.
      absurd (omega (arith, ap length same, length-append before (last ∷ []), some));
}

-- what is remembered of the last block, if that is a paragraph of these lines
pub kind_remembered : (s : Source) (So : List SourceLine → Type 0) (kind : Kind) (sources : List SourceLine)
    → kind ≡ was.paragraph_leaf sources → (reads_tables s ≡ true → So sources) → IfParagraph s So kind
kind_remembered s So kind sources is so = rw is so

pub remembered_kind : (s : Source) (So : List SourceLine → Type 0) (kind : Kind) (sources : List SourceLine)
    → kind ≡ was.paragraph_leaf sources → IfParagraph s So kind → reads_tables s ≡ true → So sources
remembered_kind s So kind sources is so = rw is at so

-- the containers before a line, where a paragraph is the last block
pub held_before : (s : Source) (pass : Pass) (line : Line) (frames : List Frame) (inside : Forest Block) (b : Block)
    (sources : List SourceLine) (source : SourceLine) → Holds s pass frames inside (Some b) line.start
    → MayEnd s pass frames inside b (Some sources) → IsSource pass line source
    → IsBefore pass line s frames (followed_by inside (leaf_block b)) source
held_before s pass line frames inside b sources source holds may is = record {
  containers = pass.placing.builder.blocks;
  leaf = [];
  blocks = sym (append-nil pass.placing.builder.blocks);
  alone = tt;
  are = may.unended.built.blocks;
  empty = holds.loose.empty;
  syntax = ap (λ (source : Source). source.syntax) holds.source;
  left = is.left;
  stop = is.stop;
  next = is.next;
}

-- a line that is read changes nothing of what is before another
before_kept : {s : Source} {pass new : Pass} {line : Line} {frames : List Frame} {inside : Forest Block}
    {source : SourceLine} → new ≡ record pass {
      lines = new.lines;
      looseness = record pass.looseness { blank_from = new.looseness.blank_from };
      placed = new.placed;
    } → IsBefore pass line s frames inside source → IsBefore new line s frames inside source
before_kept same is = rw same (record {
  containers = is.containers;
  leaf = is.leaf;
  blocks = is.blocks;
  alone = is.alone;
  are = is.are;
  empty = is.empty;
  syntax = is.syntax;
  left = is.left;
  stop = is.stop;
  next = is.next;
})

-- of a paragraph with one more line, which makes no table of it
pub more_remembered : (s : Source) (old new : Pass) (line : Line) (start : ℕ) (frames : List Frame)
    (now : Forest Block) (source : SourceLine) (sources : List SourceLine) → new ≡ record old { lines = new.lines }
    → new.lines.items ≡ old.lines.items ++ held_line line start ∷ [] → 0 < length old.lines.items
    → IsBefore old line s frames now source → (reached s frames now source).rest.indent ≡ None
    → reads_tables s ≡ true → IsUntabled s old line.start (reached s frames now source) sources
    → Remembers s new line.next (sources ++ next_line s (reached s frames now source) ∷ [])
more_remembered s old new line start frames now source sources same lines some before indent reads untabled =
    let r = reached s frames now source in let held = held_line line start in
    record {
      ends = rw lines (end_after old.lines.items held);
      tried = rw same untabled.tried;
      further = λ head front last there all more.
          let is_head = same_Some head held (sym there ∙ (ap last_of lines ∙ last_added old.lines.items held)) in
          let ends : end_of new.lines.items (length new.lines.items - 1) ≡ line.start =
          rw lines (front_end old.lines.items held _ some
          (omega (arith, length-append old.lines.items (held ∷ []))) ∙ untabled.ends) in
          rw (is_head, ends, ← last_alike sources front (next_line s r) last all) (record {
            frames = frames;
            inside = now;
            source = source;
            before = before_kept (rw same refl) before;
            indent = next_indent s r reads indent;
          });
    }

-- ---- once a line that is not blank was read

-- as much is remembered
pub seen_remembered : (s : Source) (pass new : Pass) (to : ℕ) (last : Option Block) → new ≡ record pass
    { looseness = record pass.looseness { blank_from = new.looseness.blank_from }; placed = new.placed }
    → IfParagraphLast s (Remembers s pass to) last → IfParagraphLast s (Remembers s new to) last
seen_remembered s pass new to None same is = tt
seen_remembered s pass new to (Some b) same is = by_kind b.kind is
  where
    by_kind : (kind : Kind) → IfParagraph s (Remembers s pass to) kind → IfParagraph s (Remembers s new to) kind
    by_kind (was.paragraph_leaf sources) is = λ reads.
        let remembered = is reads in let lines : new.lines ≡ pass.lines = rw same refl in
        record {
          ends = rw lines remembered.ends;
          tried = rw same remembered.tried;
          further = λ head before last there all more.
              let further = remembered.further head before last (rw lines at there) all more in
              rw lines (record {
                frames = further.frames;
                inside = further.inside;
                source = further.source;
                before = before_kept (rw same refl) further.before;
                indent = further.indent;
              });
        }
    by_kind other is = tt

module _ (pass : Pass) (tried : Bool) where
  -- the pass where that was so
  abbrev pub now : Pass
  now = record pass { tried = tried }

  last_tried : (s : Source) (frames : List Frame) (inside : Forest Block) (last : Option Block)
      → HoldsLast s pass frames inside last → HoldsLast s now frames inside last
  last_tried s frames inside None holds =
      let stands = holds.0.stands in let ends = stands.ends in (assumption (holds.0, stands, ends), holds.1)
  last_tried s frames inside (Some b) (None, may, empty) = (None, assumption may, empty)
  last_tried s frames inside (Some b) (Some sources, may, other) =
      let is = may.unended in let held : HoldsParagraph s now frames inside b sources = assumption is in
      (Some sources, assumption (held, may), tt)

  pub holds_all_tried : (s : Source) (frames : List Frame) (inside : Forest Block) (last : Option Block) (from : ℕ)
      → Holds s pass frames inside last from → Holds s now frames inside last from
  holds_all_tried s frames inside last from holds =
      let ready = holds.ready in let now_ready : IsReady now from = assumption in
      assumption (last_tried s frames inside last holds.unended, now_ready)

  pub source_tried : (line : Line) (source : SourceLine) → IsSource pass line source → IsSource now line source
  source_tried line source is = assumption

  pub made_untried : (s : Source) (found : code.Reached) (rest : LineRest) → IsMadeOf s now found rest
      → IsMadeOf s pass found rest
  made_untried s found rest made = assumption
