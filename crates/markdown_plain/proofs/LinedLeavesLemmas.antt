-- Leaves in the innermost open container: put there whole, opened, filled, and closed; and those that consist of
-- lines, and grow line by line.
use Rattle.std.proofs.Common.{◌≡◌, ℕ, zero, suc, Bool, true, false, List, [], ◌∷◌, ◌++◌, Option, Some, None, refl, sym}
use Rattle.std.proofs.Common.{⊎_elim, ap, ◌∙◌, subst, not, append-nil, true≢false, append_assoc, arith, ◌||◌, slice_get}
use Rattle.std.proofs.Common.{◌&&◌, ◌≤◌, ◌==◌, nat_lt, if◌then◌else◌}
use Rattle.markdown_plain.proofs.Names.{same_Some, cases_lt, Forest, nil, node, ItemBody, OpenBlock, BuilderView}
use Rattle.markdown_plain.proofs.Names.{parts_of, with_items, Opens, Shown, chain_of, shown_item, unnumbered}
use Rattle.markdown_plain.proofs.Names.{followed_by, with_trees, Source, content_items, Braces, divided_in, Block, Kind}
use Rattle.markdown_plain.proofs.Names.{closes, ends_html, leaf_with, Around, block_end, definitions_in, footnotes_in}
use Rattle.markdown_plain.proofs.Names.{label_of, paragraph_lines, shown_block, shown_blocks, shown_heading, shown_over}
use Rattle.markdown_plain.proofs.Names.{GoesOn, PutsBlock, closed, OpensHeadingOf, stepped, Frame, HasItems}
use Rattle.markdown_plain.proofs.Names.{HasMoreTexts, outer_of, around_innermost, AreOpen, IsBuilt, placed_end}
use Rattle.markdown_plain.proofs.Names.{IsOpenIn, IsPlaced, is_leaf, leaf_block, IsLineRest, MetadataBlockKind}
use Rattle.markdown_plain.proofs.Names.{LineLeft, leading_space, SourceLine, cut, is_blank_rest, stop_of, AtxHeading}
use Rattle.markdown_plain.proofs.Names.{HeldLine, HtmlKind, Line, Position, Pass, after_line, AreHeld, HoldsBlanks}
use Rattle.markdown_plain.proofs.Names.{IsLeafKind, IsSource, followed_by-nil, no_items}
use Rattle.markdown_builder.specs.BuilderView.{AppendsItem}
use Rattle.markdown_builder.specs.Shown.{text_shown, with_block}
use Rattle.markdown_builder.specs.Tightness.{is_tight_list}
use Rattle.markdown_items.specs.LineItems.{item_syntax}
use Rattle.markdown_block_rules.specs.BlockRules.{last_end, before_code, code_lines, info_of, lines_end}
use Rattle.markdown_plain.specs.Fitting.{BeginsAtContent}
use Rattle.markdown_plain.specs.LeafTrees.{ClosesIf, AddsLines}
use Rattle.markdown_plain.specs.OpenLeaves.{IsLeafIn, has_ended}
use Rattle.markdown_lines.specs.declared.fence.Fence.{Fence}
use Rattle.markdown_lines.specs.declared.fence.OpeningFence.{OpeningFence}
use Rattle.markdown_lines.specs.CodeFences.{closes_fence}
use Rattle.markdown_lines.specs.HeadingAttributes.{heading_of_words, words_in}
use Rattle.markdown_lines.specs.HtmlKinds.{ends_at_blank}
use Rattle.markdown_lines.specs.Lines.{IsNextContent}
use Rattle.markdown_lines.specs.MetadataBlocks.{closes_metadata}
use Rattle.markdown_block_rules.specs.LineContents.{source_lines}
use Rattle.markdown_plain.specs.CodeLines.{ends_html_at, is_closed_at, whole_of}
use Rattle.markdown_plain.specs.HeldSources.{IsHeld}
use Rattle.markdown_base.specs.declared.item.ItemBody.TheVariants as body
use Rattle.markdown_block_rules.specs.BlockGrowth as was
use Rattle.markdown_plain.specs.declared.pass.LeafKind.TheVariants as leaf
use Rattle.markdown_plain.proofs.ClosedFramesLemmas.{appended_is_built, end_appended, open_after, some_level}
use Rattle.markdown_plain.proofs.LeafTreesLemmas.{closed_tree, no_text, same_block, settled_leaf, trees_last}
use Rattle.markdown_plain.proofs.LeafTreesLemmas.{outer_of_these, attributed_shown, lines_append, texts_after}
use Rattle.markdown_plain.proofs.ReachedFramesLemmas.{blank_alike, space_alike}

-- ---- leaves

-- a leaf as it is shown among these open containers
abbrev pub shown_leaf : Source → List Frame → Block → Forest Shown
shown_leaf s frames b = shown_blocks s (around_innermost frames) (leaf_block b)

-- a block of a kind, with nothing inside
abbrev pub shown_of_kind : Source → Around → Block → Kind → Forest Shown
shown_of_kind s around b kind =
    followed_by (shown_block s around b (block_end b b.first kind) nil (λ inside. nil) kind) nil

pub shown_alone : (s : Source) (around : Around) (b : Block) (kind : Kind) → b.kind ≡ kind
    → shown_blocks s around (leaf_block b) ≡ shown_of_kind s around b kind
unfolding shown_blocks
shown_alone s around b kind is = ap (shown_of_kind s around b) is

-- a leaf defines nothing
nothing_defined : (s : Source) (b : Block) → is_leaf b.kind ≡ true
    → (definitions_in s (leaf_block b) ≡ []) × (footnotes_in (leaf_block b) ≡ [])
unfolding definitions_in divided_in footnotes_in
nothing_defined s b leaf = rw (none b.kind leaf).0 (rw (none b.kind leaf).1 (refl, refl))
  where
    none : (kind : Kind) → is_leaf kind ≡ true → (paragraph_lines kind ≡ []) × (label_of kind ≡ [])
    none (was.paragraph_leaf lines) e = absurd (true≢false (sym e))
    none (was.underlined_leaf level lines) e = absurd (true≢false (sym e))
    none (was.footnote_container label) e = absurd (true≢false (sym e))
    none other e = (refl, refl)

-- blocks end where a leaf ends that is the last of them
pub leaf_end : (frames : List Frame) (inside : Forest Block) (b : Block) → is_leaf b.kind ≡ true
    → placed_end frames (followed_by inside (leaf_block b)) ≡ block_end b b.first b.kind
leaf_end frames inside b leaf =
    end_appended frames inside (leaf_block b) ∙ no_blank (placed_end frames inside) b.kind leaf
  where
    no_blank : (before : ℕ) (kind : Kind) → is_leaf kind ≡ true
        → last_end before (leaf_block (record b { kind = kind })) ≡ block_end b b.first kind
    no_blank before was.blank_line e = absurd (true≢false (sym e))
    no_blank before other e = refl

-- ---- a leaf that is put there whole

pub placed_leaf : (s : Source) (old new : BuilderView) (frames : List Frame) (inside : Forest Block) (b : Block)
    → is_leaf b.kind ≡ true → IsBuilt s old frames inside
    → new ≡ record old { at = new.at; run = new.run; levels = new.levels; texts = new.texts } → HasMoreTexts old new
    → new.levels ≡ with_trees old.levels (shown_leaf s frames b) → new.at ≡ block_end b b.first b.kind
    → IsPlaced s new frames (followed_by inside (leaf_block b))
placed_leaf s old new frames inside b leaf built same texts trees end = record {
  built = appended_is_built s frames inside (leaf_block b) old new (record {
    more = texts.more;
    text = rw same refl;
    blocks = rw same refl;
    outside = rw same built.outside;
    levels = trees;
    texts = texts.are;
    definitions = rw (same, (nothing_defined s b leaf).0) (sym (append-nil old.definitions));
    footnotes = rw (same, (nothing_defined s b leaf).1) (sym (append-nil old.footnotes));
  }) built;
  at = end ∙ sym (leaf_end frames inside b leaf);
}

-- ---- a leaf that is opened, and filled

-- a leaf with a body was opened after these blocks, and starts at a byte offset
abbrev pub opened_as : BuilderView → ℕ → ItemBody → BuilderView → BuilderView
opened_as old start body now = record old {
  at = now.at;
  blocks = old.blocks ++ record { start = start; body = body } ∷ [];
  leaf = true;
  run = now.run;
  levels = old.levels ++ nil ∷ [];
  texts = now.texts;
}

-- a builder has opened a leaf, and put items into it; closed here, it is this block
opened_leaf : {s : Source} {old new : BuilderView} {frames : List Frame} {inside : Forest Block} (b : Block) (start : ℕ)
    (body : ItemBody) (items : List Shown) → is_leaf b.kind ≡ true → IsBuilt s old frames inside
    → new ≡ record (opened_as old start body new) { levels = new.levels; headings = new.headings }
    → new.levels ≡ with_items (old.levels ++ nil ∷ []) items → HasMoreTexts old new
    → node (shown_item (parts_of new) (record { start = start; end = new.at; body = body })) (chain_of items) nil
    ≡ shown_leaf s frames b → new.at ≡ block_end b b.first b.kind → IsOpenIn s new frames inside true b
opened_leaf {old = old} {new} {frames} {inside} b start body items leaf built same levels texts shown end = record {
  outer = old.blocks;
  block = _;
  levels = old.levels;
  below = chain_of items;
  around =
      let still : AreOpen new.texts old.blocks frames =
      rw texts.are (open_after old.texts texts.more old.blocks frames built.blocks) in
      rw same (assumption still);
  blocks = ap (λ (v : BuilderView). v.blocks) same;
  leaf = ap (λ (v : BuilderView). v.leaf) same;
  trees = levels ∙ trees_last old.levels nil (chain_of items);
  shown = shown;
  end = end ∙ sym (leaf_end frames inside b leaf);
}

-- a body refers to a text
abbrev pub names_text : ItemBody → Bool
names_text (body.SynthesizeText ix) = true
names_text (body.FencedCodeBlock ix) = true
names_text (body.FootnoteDefinition ix) = true
names_text other = false

abbrev pub is_some : {A : Type 0} → Option A → Bool
is_some None = false
is_some (Some a) = true

-- the text that the first item refers to is there, if it refers to one
abbrev pub has_its_text : Forest Shown → Bool
has_its_text nil = false
has_its_text (node a below after) = not (names_text a.item.body) || is_some a.text

get_stays : (xs ys : List (List ℕ)) (n : ℕ) → is_some (slice_get xs n) ≡ true → slice_get (xs ++ ys) n ≡ slice_get xs n
get_stays [] ys n e = absurd (true≢false (sym e))
get_stays (x ∷ xs) ys zero e = refl
get_stays (x ∷ xs) ys (suc n) e = get_stays xs ys n e

-- a body refers to the same text where there are more
text_stays : (texts more : List (List ℕ)) (b : ItemBody)
    → (not (names_text (unnumbered b)) || is_some (text_shown texts b)) ≡ true
    → text_shown (texts ++ more) b ≡ text_shown texts b
text_stays texts more (body.SynthesizeText ix) there = get_stays texts more ix.0 there
text_stays texts more (body.FencedCodeBlock ix) there = get_stays texts more ix.0 there
text_stays texts more (body.FootnoteDefinition ix) there = get_stays texts more ix.0 there
text_stays texts more other there = refl

-- the first of some trees, with another end, and more items at the end of what is in it
abbrev pub more_in_first : ℕ → List Shown → Forest Shown → Forest Shown
more_in_first to items nil = nil
more_in_first to items (node a below after) =
    node (record a { item = record a.item { end = to } }) (followed_by below (chain_of items)) after

-- a builder has put items into the open leaf, which is this block if it is closed before, and this one after that
pub record FillsLeaf (s : Source) (frames : List Frame) (old new : BuilderView) (b c : Block) : Type 0 where
  pub items : List Shown
  pub goes_on : GoesOn old new new.at
  pub texts : HasMoreTexts old new
  pub added : HasItems old new items
  pub named : has_its_text (shown_leaf s frames b) ≡ true
  pub shown : more_in_first new.at items (shown_leaf s frames b) ≡ shown_leaf s frames c
  pub end : new.at ≡ block_end c c.first c.kind

pub filled_leaf : (s : Source) (old new : BuilderView) (frames : List Frame) (inside : Forest Block) (leaf : Bool)
    (b c : Block) → is_leaf c.kind ≡ true → FillsLeaf s frames old new b c → IsOpenIn s old frames inside leaf b
    → IsOpenIn s new frames inside leaf c
filled_leaf s old new frames inside leaf b c is fills is_open =
    let block = is_open.block in let around = is_open.around in let same = fills.goes_on in
    let text : text_shown new.texts block.body ≡ text_shown old.texts block.body =
    ap (λ texts. text_shown texts block.body) fills.texts.are
    ∙ text_stays old.texts fills.texts.more block.body (ap has_its_text is_open.shown ∙ fills.named) in
    record {
      outer = is_open.outer;
      block = block;
      levels = is_open.levels;
      below = followed_by is_open.below (chain_of fills.items);
      around =
          let still : AreOpen new.texts is_open.outer frames =
          rw fills.texts.are (open_after old.texts fills.texts.more is_open.outer frames around.blocks) in
          rw same (assumption still);
      blocks = ap (λ (v : BuilderView). v.blocks) same ∙ is_open.blocks;
      leaf = ap (λ (v : BuilderView). v.leaf) same ∙ is_open.leaf;
      trees = fills.added ∙ (ap (λ ls. with_items ls fills.items) is_open.trees
          ∙ trees_last is_open.levels is_open.below (chain_of fills.items));
      shown = rw (text, ap (λ (v : BuilderView). v.headings) same, ap (λ (v : BuilderView). v.alignments) same)
          (ap (more_in_first new.at fills.items) is_open.shown ∙ fills.shown);
      end = fills.end ∙ sym (leaf_end frames inside c is);
    }

-- ---- a leaf that is closed

abbrev first_is_tight : Forest Shown → Bool
first_is_tight nil = false
first_is_tight (node a below after) = is_tight_list a.item.body

-- a leaf is no list
leaf_unlisted : (s : Source) (around : Around) (b : Block) (kind : Kind) → is_leaf kind ≡ true
    → first_is_tight (shown_of_kind s around b kind) ≡ false
leaf_unlisted s around b (was.heading_leaf found) leaf = untitled found.braces
  where
    untitled : (braces : Option Braces) → first_is_tight (followed_by (shown_heading s b.start b.last found.level braces
        (chain_of (content_items s.text (item_syntax s.syntax) found.from found.to))) nil) ≡ false
    untitled None = refl
    untitled (Some braces) = refl
leaf_unlisted s around b (was.paragraph_leaf lines) leaf = absurd (true≢false (sym leaf))
leaf_unlisted s around b (was.underlined_leaf level lines) leaf = absurd (true≢false (sym leaf))
leaf_unlisted s around b (was.list_container marker) leaf = absurd (true≢false (sym leaf))
leaf_unlisted s around b other leaf = refl

-- a leaf, or a table, is closed where the builder is
pub closed_leaf : (s : Source) (old new : BuilderView) (frames : List Frame) (inside : Forest Block) (leaf : Bool)
    (b : Block) → is_leaf b.kind ≡ true → new ≡ closed old new.levels → PutsBlock old new
    → IsOpenIn s old frames inside leaf b → IsPlaced s new frames (followed_by inside (leaf_block b))
closed_leaf s old new frames inside leaf b is closes put is_open =
    let around : BuilderView = record old { blocks = is_open.outer; leaf = false; levels = is_open.levels } in
    let shown_as = λ (block : OpenBlock). shown_item (parts_of old)
    (record { start = block.start; end = old.at; body = block.body }) in
    let a = shown_as is_open.block in
    let unlisted : is_tight_list a.item.body ≡ false =
    ap first_is_tight (is_open.shown ∙ shown_alone s (around_innermost frames) b b.kind refl)
    ∙ leaf_unlisted s (around_innermost frames) b b.kind is in
    let outer = outer_of_these old.blocks is_open.outer is_open.block is_open.blocks in
    let same = same_block old.blocks (outer_of old.blocks) is_open.outer put.block is_open.block put.was
    is_open.blocks in
    placed_leaf s around new frames inside b is is_open.around (rw (closes, outer) refl)
    (no_text around new (ap (λ (v : BuilderView). v.texts) closes))
    (put.levels ∙ (ap (λ block. with_block old.levels (shown_as block)) same ∙ rw (
      is_open.trees,
      closed_tree is_open.levels is_open.below a (λ e. some_level s frames inside (sym is_open.around.levels ∙ e)),
      settled_leaf a is_open.below unlisted,
      is_open.shown,
    ) refl)) (ap (λ (v : BuilderView). v.at) closes ∙ (is_open.end ∙ leaf_end frames inside b is))

-- it is closed where it has ended, and else still open
pub closed_if : (s : Source) (old new : BuilderView) (frames : List Frame) (inside : Forest Block) (b : Block)
    (ended : Bool) → is_leaf b.kind ≡ true → ClosesIf ended old new → IsOpenIn s old frames inside true b
    → IsLeafIn s new frames inside b ended
closed_if s old new frames inside b true leaf closes is_open =
    closed_leaf s old new frames inside true b leaf closes.is closes.puts is_open
closed_if s old new frames inside b false leaf same is_open = rw same is_open

-- the text stays in either case
pub closed_text : (old new : BuilderView) (ended : Bool) → ClosesIf ended old new → new.text ≡ old.text
closed_text old new true closes = rw closes.is refl
closed_text old new false same = rw same refl

-- ---- what is shown of lines

chain_of_both : {A : Type 0} (xs ys : List A) → followed_by (chain_of xs) (chain_of ys) ≡ chain_of (xs ++ ys)
chain_of_both [] ys = refl
chain_of_both (x ∷ xs) ys = ap (node x nil) (chain_of_both xs ys)

-- Closed here, a leaf is shown with this body, consists of these lines, and ends at a byte offset.
pub record IsLined (s : Source) (frames : List Frame) (b : Block) (body : ItemBody) (text : Option (List ℕ))
    (line : ItemBody) (lines : List SourceLine) (to : ℕ) : Type 0 where
  pub leaf : is_leaf b.kind ≡ true
  pub named : (not (names_text body) || is_some text) ≡ true
  pub end : block_end b b.first b.kind ≡ to
  pub shown : shown_leaf s frames b ≡ shown_over b.start to body text (chain_of (source_lines line lines))

-- this is so by the kind
lined_by : {s : Source} {frames : List Frame} {b : Block} {body : ItemBody} {text : Option (List ℕ)} {line : ItemBody}
    {lines : List SourceLine} {to : ℕ} (kind : Kind) → b.kind ≡ kind → is_leaf kind ≡ true
    → (not (names_text body) || is_some text) ≡ true → block_end b b.first kind ≡ to
    → shown_of_kind s (around_innermost frames) b kind
    ≡ shown_over b.start to body text (chain_of (source_lines line lines)) → IsLined s frames b body text line lines to
lined_by {s} {frames} {b} kind is leaf named end shown = record {
  leaf = rw is leaf;
  named = named;
  end = rw is end;
  shown = shown_alone s (around_innermost frames) b kind is ∙ shown;
}

-- ---- items that are put into a leaf

-- items were put into the open leaf, and the builder may have moved
pub record PutsItems (old new : BuilderView) (items : List Shown) : Type 0 where
  pub goes_on : GoesOn old new new.at
  pub texts : HasMoreTexts old new
  pub added : HasItems old new items

-- those of lines
pub puts_lines : {old new : BuilderView} {line : ItemBody} {lines : List HeldLine} (sources : List SourceLine)
    → AddsLines old new line lines → AreHeld lines sources → PutsItems old new (source_lines line sources)
puts_lines {old} {new} sources adds are = record {
  goes_on = subst (GoesOn old new) (sym (ap (λ (v : BuilderView). v.at) adds.goes_on)) adds.goes_on;
  texts = adds.texts;
  added = adds.items sources are;
}

-- none, by a step
pub puts_none : (old new : BuilderView) (to : ℕ) → new ≡ stepped old to → PutsItems old new []
puts_none old new to is = record {
  goes_on = rw is refl;
  texts = no_text old new (rw is refl);
  added = rw is (sym (no_items old.levels));
}

-- ---- a leaf that is opened

pub lined_opened : {s : Source} {old now new : BuilderView} {frames : List Frame} {inside : Forest Block} {b : Block}
    {to : ℕ} (opened : ItemBody) {body : ItemBody} {text : Option (List ℕ)} {line : ItemBody} {lines : List SourceLine}
    → IsBuilt s old frames inside → IsLined s frames b body text line lines to → to ≡ new.at
    → now ≡ opened_as old b.start opened now → HasMoreTexts old now → PutsItems now new (source_lines line lines)
    → ((below : Forest Shown)
    → node (shown_item (parts_of new) (record { start = b.start; end = new.at; body = opened })) below nil
    ≡ shown_over b.start new.at body text below) → IsOpenIn s new frames inside true b
lined_opened {s} {old} {now} {new} {frames} {inside} {b} opened {line = line} {lines} built is same opens texts puts
    shown =
    opened_leaf b b.start opened (source_lines line lines) is.leaf built (rw (puts.goes_on, opens) refl)
    (puts.added ∙ ap (λ (v : BuilderView). with_items v.levels (source_lines line lines)) opens)
    (texts_after old now new texts puts.texts) (shown (chain_of (source_lines line lines)) ∙ rw (is.shown, same) refl)
    (rw (is.end, same) refl)

-- ---- a leaf that grows

abbrev pub grown_to : Block → ℕ → Kind → Block
grown_to b to kind = record b { last = to; kind = kind }

-- a leaf that consists of lines is another kind of leaf with these lines after them, and has ended or not
pub record Grows (s : Source) (frames : List Frame) (b : Block) (now : Kind) (next : ℕ) (line : ItemBody)
    (more : List SourceLine) (ended : Bool) : Type 0 where
  pub body : ItemBody
  pub text : Option (List ℕ)
  pub before : List SourceLine
  pub from : ℕ
  pub was : IsLined s frames b body text line before from
  pub is : IsLined s frames (grown_to b next now) body text line (before ++ more) next
  pub ends : has_ended now ≡ ended

-- the lines were added to it where it is open, and it was closed if it has ended
pub grown_leaf : {s : Source} {frames : List Frame} {b : Block} {now : Kind} {next : ℕ} {line : ItemBody}
    {more : List SourceLine} {ended : Bool} (old mid new : BuilderView) (inside : Forest Block)
    → Grows s frames b now next line more ended → IsOpenIn s old frames inside true b
    → PutsItems old mid (source_lines line more) → mid.at ≡ next → ClosesIf ended mid new
    → IsLeafIn s new frames inside (grown_to b next now) (has_ended now)
grown_leaf {s} {frames} {b} {now} {next} {line} {more} {ended} old mid new inside g is_open puts at closes =
    rw g.ends (closed_if s mid new frames inside (grown_to b next now) ended g.is.leaf closes
    (filled_leaf s old mid frames inside true b (grown_to b next now) g.is.leaf (record {
      items = source_lines line more;
      goes_on = puts.goes_on;
      texts = puts.texts;
      added = puts.added;
      named = rw g.was.shown g.was.named;
      shown = rw (g.was.shown, g.is.shown, at, lines_append line g.before more)
          (ap (shown_over b.start next g.body g.text) (chain_of_both (source_lines line g.before) _));
      end = at ∙ sym g.is.end;
    }) is_open))

-- a leaf with delimiters is shown as its lines, and ends with its last; it is known whether it has ended
abbrev IsDelimited : Source → List Frame → (Bool → List SourceLine → Kind) → ItemBody → Option (List ℕ) → ItemBody
    → Type 0
IsDelimited s frames kind body text line =
    (b : Block) (ended : Bool) (lines : List SourceLine) → b.kind ≡ kind ended lines
    → IsLined s frames b body text line lines b.last × (has_ended (kind ended lines) ≡ ended)

-- it has more lines then
delimited_grows : {s : Source} {frames : List Frame} {b : Block} (kind : Bool → List SourceLine → Kind)
    {body : ItemBody} {text : Option (List ℕ)} {line : ItemBody} → IsDelimited s frames kind body text line
    → (source : SourceLine) (before more : List SourceLine) (ended : Bool) → b.kind ≡ kind false before
    → Grows s frames b (kind ended (before ++ more)) source.next line more ended
delimited_grows {b = b} kind lined source before more ended is =
    let grown = lined (grown_to b source.next (kind ended (before ++ more))) ended (before ++ more) refl in
    let was = (lined b false before is).0 in
    record { body = _; text = _; before = before; from = _; was = was; is = grown.0; ends = grown.1 }

-- it ends with a line that is not one of its own, or has one line more
grows_or_ends : {s : Source} {frames : List Frame} {b : Block} (kind : Bool → List SourceLine → Kind)
    {body : ItemBody} {text : Option (List ℕ)} {line : ItemBody} → IsDelimited s frames kind body text line
    → (source one : SourceLine) (before : List SourceLine) (now : Kind) (test ended : Bool) → b.kind ≡ kind false before
    → (if test then Some (kind true before) else Some (kind false (before ++ one ∷ []))) ≡ Some now → test ≡ ended
    → Grows s frames b now source.next line (if ended then [] else one ∷ []) ended
grows_or_ends {b = b} kind lined source one before now test true is goes same =
    rw (← same_Some (kind true before) now (rw same at goes))
    (rw (append-nil before) at (delimited_grows {b = b} kind lined source before [] true is))
grows_or_ends kind lined source one before now test false is goes same =
    rw (← same_Some (kind false (before ++ one ∷ [])) now (rw same at goes))
    (delimited_grows kind lined source before (one ∷ []) false is)

-- ---- where lines end

-- what is left of a line after some space begins before its content ends
pub cut_within : (columns : ℕ) (l : SourceLine) → (cut columns l).left.scanned ≤ stop_of l
cut_within columns l = omega (arith, (space_alike columns l.left).end)

-- a line's content begins before the next line
pub rest_ordered : {text : List ℕ} {position : Position} {line : Line} {source : SourceLine}
    → IsLineRest text position line source → stop_of source ≤ source.next
rest_ordered is = omega (arith, is.stop, is.ends, is.rest.next)

-- the builder is where a line ends that was added last
pub ends_with : {old new : BuilderView} {body : ItemBody} {line : HeldLine} (source : SourceLine)
    → AddsLines old new body (line ∷ []) → IsHeld line source → source.left.scanned ≤ source.next → new.at ≡ source.next
ends_with {line = line} source adds is less =
    let end : after_line line.start line.next ≡ source.next = omega (arith, is.start, is.next, less) in
    ap (λ (v : BuilderView). v.at) adds.goes_on ∙ end

-- a whole line is held
pub whole_held : (pass : Pass) (line : Line) (source : SourceLine) → IsSource pass line source
    → IsHeld (whole_of line) source
whole_held pass line source is = record {
  start = ap (λ (left : LineLeft). left.scanned) is.left;
  owed = ap (λ (left : LineLeft). left.owed) is.left;
  few = omega arith;
  next = is.next;
}

-- ---- fenced code

abbrev pub fenced_body : ItemBody
fenced_body = body.FencedCodeBlock (record { 0 = 0 })

pub fenced_lined : (s : Source) (frames : List Frame) (opening : OpeningFence)
    → IsDelimited s frames (was.fenced_leaf opening) fenced_body (Some (info_of s opening)) (body.Text false)
fenced_lined s frames opening b ended lines is =
    (lined_by (was.fenced_leaf opening ended lines) is refl refl refl refl, refl)

pub closes_alike : (s : Source) {text : List ℕ} {position : Position} {line : Line} {source : SourceLine}
    (fence : Fence) → text ≡ s.text → IsLineRest text position line source
    → is_closed_at text position line fence ≡ closes s source fence
closes_alike s {text} {line = line} fence same is =
    ap (λ left. nat_lt (leading_space 4 left).columns 4
    && closes_fence text (leading_space 4 left).after.scanned line.stop fence) is.rest.left ∙ rw (is.stop, same) refl

pub fenced_grows : (s : Source) (frames : List Frame) (b : Block) (source : SourceLine) (now : Kind) (fence : Fence)
    (ended : Bool) (kind : Kind) → b.kind ≡ kind → IsLeafKind (leaf.Fenced fence) kind
    → leaf_with s source kind ≡ Some now → closes s source fence ≡ ended
    → Grows s frames b now source.next (body.Text false) (if ended then [] else cut fence.indent source ∷ []) ended
fenced_grows s frames b source now fence ended (was.fenced_leaf opening false lines) is same goes closes_now =
    rw (← same) (grows_or_ends (was.fenced_leaf opening) (fenced_lined s frames opening) source
    (cut opening.fence.indent source) lines now (closes s source opening.fence) ended is goes (rw same closes_now))
fenced_grows s frames b source now fence ended other is same goes closes_now = absurd same

-- ---- metadata

pub metadata_lined : (s : Source) (frames : List Frame) (kind : MetadataBlockKind)
    → IsDelimited s frames (was.metadata_leaf kind) (body.MetadataBlock kind) None (body.Text false)
metadata_lined s frames kind b ended lines is =
    (lined_by (was.metadata_leaf kind ended lines) is refl refl refl refl, refl)

pub metadata_grows : (s : Source) (frames : List Frame) (b : Block) (source : SourceLine) (now : Kind)
    (how : MetadataBlockKind) (ended : Bool) (kind : Kind) → b.kind ≡ kind → IsLeafKind (leaf.Metadata how) kind
    → leaf_with s source kind ≡ Some now → closes_metadata how source.left.bytes ≡ ended
    → Grows s frames b now source.next (body.Text false) (if ended then [] else source ∷ []) ended
metadata_grows s frames b source now how ended (was.metadata_leaf found false lines) is same goes closes_now =
    grows_or_ends (was.metadata_leaf found) (metadata_lined s frames found) source source lines now
    (closes_metadata found source.left.bytes) ended is goes (rw same closes_now)
metadata_grows s frames b source now how ended other is same goes closes_now = absurd same

-- ---- HTML blocks

html_lined : (s : Source) (frames : List Frame) (kind : HtmlKind)
    → IsDelimited s frames (was.html_leaf kind) body.HtmlBlock None body.Html
html_lined s frames kind b ended lines is = (lined_by (was.html_leaf kind ended lines) is refl refl refl refl, refl)

-- a line ends a block where that of the definition does
pub html_alike : {text : List ℕ} {position : Position} {line : Line} {source : SourceLine} (kind : HtmlKind)
    → IsLineRest text position line source → ends_html_at text position line kind ≡ ends_html kind source
html_alike kind is = rw (← is.rest.left) refl

-- there is one next content byte
pub same_content : (text : List ℕ) (from a b : ℕ) → IsNextContent text from (Some a) → IsNextContent text from (Some b)
    → a ≡ b
same_content text from a b one two = omega (arith, before a b one two, before b a two one)
  where
    before : (m n : ℕ) → IsNextContent text from (Some m) → IsNextContent text from (Some n) → n ≤ m
    before m n first second = ⊎_elim (λ less. absurd (true≢false (sym (second.1.passes m first.1.low less)
        ∙ first.1.stops first.0))) (λ more. more) (cases_lt m n)

-- an HTML block was opened at a byte offset, filled, and moved to its first content byte
pub record BeginsHtml (old begun : BuilderView) (from : ℕ) : Type 0 where
  pub start : ℕ
  pub content : IsNextContent old.text from (Some start)
  pub blocks : begun.blocks ≡ old.blocks ++ record { start = start; body = body.HtmlBlock } ∷ []

pub html_begins : (old now filled begun : BuilderView) (from to : ℕ) → Opens (stepped old from) now body.HtmlBlock
    → GoesOn now filled to → BeginsAtContent filled begun → BeginsHtml old begun from
html_begins old now filled begun from to opens goes_on begins =
    let block : OpenBlock = record { start = from; body = body.HtmlBlock } in
    let there : filled.blocks ≡ old.blocks ++ block ∷ [] = rw (goes_on, opens) refl in
    let text : filled.text ≡ old.text = rw (goes_on, opens) refl in
    let first = same_block filled.blocks (outer_of filled.blocks) old.blocks begins.blocks.block block
    begins.blocks.was there in
    record {
      start = begins.start;
      content = rw text at (rw first at begins.content);
      blocks = begins.blocks.becomes ∙ rw (outer_of_these filled.blocks old.blocks block there, first) refl;
    }

-- its first line is in it
pub html_begun : (s : Source) (old now filled begun : BuilderView) (frames : List Frame) (inside : Forest Block)
    (b : Block) (kind : HtmlKind) (ended : Bool) (source : SourceLine) (from : ℕ) {line : HeldLine}
    → IsBuilt s old frames inside → Opens (stepped old from) now body.HtmlBlock
    → AddsLines now filled body.Html (line ∷ []) → IsHeld line source → begun ≡ record filled { blocks = begun.blocks }
    → (begins : BeginsHtml old begun from) → b.start ≡ begins.start → b.kind ≡ was.html_leaf kind ended (source ∷ [])
    → b.last ≡ begun.at → IsOpenIn s begun frames inside true b
html_begun s old now filled begun frames inside b kind ended source from built opens adds held same begins start is
    last =
    let moved : BuilderView = record now { blocks = begun.blocks } in
    lined_opened {old = old} {now = moved} body.HtmlBlock built
    (html_lined s frames kind b ended (source ∷ []) is).0 last (rw (start, opens, begins.blocks) refl)
    (no_text old moved (rw opens refl)) (record {
      goes_on = rw (same, adds.goes_on) refl;
      texts = record { more = adds.texts.more; are = rw same adds.texts.are };
      added = rw same (adds.items (source ∷ []) (held, tt));
    }) (λ below. refl)

-- the one that a test lets through
if_some : {A : Type 0} (test : Bool) (one now : A) → (if test then Some one else None) ≡ Some now → one ≡ now
if_some true one now e = same_Some one now e
if_some false one now e = cc (e)

if_none : {A : Type 0} (test : Bool) (one now : A) → (if test then None else Some one) ≡ Some now → one ≡ now
if_none true one now e = cc (e)
if_none false one now e = same_Some one now e

pub html_grows : (s : Source) (frames : List Frame) (b : Block) (source : SourceLine) (now : Kind) (how : HtmlKind)
    (kind : Kind) → b.kind ≡ kind → IsLeafKind (leaf.Html how) kind → leaf_with s source kind ≡ Some now
    → Grows s frames b now source.next body.Html (source ∷ []) (ends_html how source)
html_grows s frames b source now how (was.html_leaf found false lines) is same goes =
    rw (← if_none (is_blank_rest source && ends_at_blank found) _ now goes, ← same)
    (delimited_grows (was.html_leaf found) (html_lined s frames found) source lines (source ∷ [])
    (ends_html found source) is)
html_grows s frames b source now how other is same goes = absurd same

-- ---- the lines of code

-- a line that is not blank is the last one of code
pub code_to_end : (lines : List SourceLine) (l : SourceLine) → is_blank_rest l ≡ false
    → code_lines (lines ++ l ∷ []) ≡ lines ++ l ∷ []
code_to_end [] l some = rw some refl
code_to_end (m ∷ []) l some = ap (before_code m) (code_to_end [] l some)
code_to_end (m ∷ n ∷ lines) l some = ap (before_code m) (code_to_end (n ∷ lines) l some)

-- and a blank line is not
pub code_before_blank : (lines : List SourceLine) (l : SourceLine) → is_blank_rest l ≡ true
    → code_lines (lines ++ l ∷ []) ≡ code_lines lines
code_before_blank [] l blank = rw blank refl
code_before_blank (m ∷ lines) l blank = ap (before_code m) (code_before_blank lines l blank)

pub end_of_last : (before : ℕ) (lines : List SourceLine) (l : SourceLine) → lines_end before (lines ++ l ∷ []) ≡ l.next
end_of_last before [] l = refl
end_of_last before (m ∷ lines) l = end_of_last m.next lines l

-- ---- indented code

-- the blank lines at its end are not shown
pub code_lined : (s : Source) (frames : List Frame) (b : Block) (lines code : List SourceLine) (to : ℕ)
    → b.kind ≡ was.indented_leaf lines → code_lines lines ≡ code → lines_end b.first code ≡ to
    → IsLined s frames b body.IndentCodeBlock None (body.Text false) code to
code_lined s frames b lines code to is same end =
    lined_by (was.indented_leaf lines) is refl refl (rw same end) (rw (same, end) refl)

-- the lines that a line adds are the blank lines that were held back, and itself
pub code_grows : (s : Source) (frames : List Frame) (b : Block) (source : SourceLine) (now : Kind)
    (held : List HeldLine) (kind : Kind) → b.kind ≡ kind → IsLeafKind leaf.Indented kind → HoldsBlanks held kind
    → leaf_with s source kind ≡ Some now → is_blank_rest source ≡ false → (blank : List SourceLine)
    × AreHeld held blank × Grows s frames b now source.next (body.Text false) (blank ++ cut 4 source ∷ []) false
code_grows s frames b source now held (was.indented_leaf lines) is same holds goes filled =
    let one = cut 4 source in
    let parts : lines ++ one ∷ [] ≡ code_lines lines ++ (holds.0 ++ one ∷ []) =
    ap (λ ls. ls ++ one ∷ []) holds.1 ∙ append_assoc (code_lines lines) holds.0 (one ∷ []) in (
      holds.0,
      holds.2,
      rw (← if_some (is_blank_rest source || ((leading_space 4 source.left).columns == 4)) _ now goes) (record {
        body = body.IndentCodeBlock;
        text = None;
        before = code_lines lines;
        from = lines_end b.first (code_lines lines);
        was = code_lined s frames b lines (code_lines lines) _ is refl refl;
        is = code_lined s frames _ (lines ++ one ∷ []) _ source.next refl
            (code_to_end lines one (blank_alike 4 source.left ∙ filled) ∙ parts)
            (rw (← parts) (end_of_last b.first lines one));
        ends = refl;
      }),
    )
code_grows s frames b source now held other is same holds goes filled = absurd same

-- a blank line that is held back changes nothing of it
pub blank_held : (s : Source) (view : BuilderView) (frames : List Frame) (inside : Forest Block) (b : Block)
    (lines : List SourceLine) (source : SourceLine) → IsOpenIn s view frames inside true b
    → b.kind ≡ was.indented_leaf lines → is_blank_rest source ≡ true
    → IsOpenIn s view frames inside true (grown_to b source.next (was.indented_leaf (lines ++ cut 4 source ∷ [])))
blank_held s view frames inside b lines source is_open same blank =
    let c = grown_to b source.next (was.indented_leaf (lines ++ cut 4 source ∷ [])) in
    let one = code_lined s frames b lines (code_lines lines) _ same refl refl in
    let other = code_lined s frames c _ (code_lines lines) _ refl
    (code_before_blank lines (cut 4 source) (blank_alike 4 source.left ∙ blank)) refl in
    record {
      outer = is_open.outer;
      block = is_open.block;
      levels = is_open.levels;
      below = is_open.below;
      around = is_open.around;
      blocks = is_open.blocks;
      leaf = is_open.leaf;
      trees = is_open.trees;
      shown = is_open.shown ∙ (one.shown ∙ sym other.shown);
      end = is_open.end ∙ rw (leaf_end frames inside b one.leaf, leaf_end frames inside c refl, one.end, other.end)
          refl;
    }

-- ---- thematic breaks and headings

pub break_placed : (s : Source) (old new : BuilderView) (frames : List Frame) (inside : Forest Block) (b : Block)
    → IsBuilt s old frames inside → AppendsItem old new body.Rule b.last → b.kind ≡ was.break_leaf
    → b.start ≡ old.at → IsPlaced s new frames (followed_by inside (leaf_block b))
break_placed s old new frames inside b built appends kind start =
    placed_leaf s old new frames inside b (rw kind refl) built (rw appends refl) (no_text old new (rw appends refl))
    (ap (λ (v : BuilderView). v.levels) appends
    ∙ rw (shown_alone s (around_innermost frames) b was.break_leaf kind, start) refl)
    (ap (λ (v : BuilderView). v.at) appends ∙ rw kind refl)

-- a heading was opened, and filled with the items of its content
pub heading_opened : (s : Source) (old opened now : BuilderView) (frames : List Frame) (inside : Forest Block)
    (b : Block) (heading : AtxHeading) {items : List Shown} → IsBuilt s old frames inside
    → OpensHeadingOf old opened heading.level heading.braces → PutsItems opened now items
    → items ≡ content_items s.text (item_syntax s.syntax) heading.from heading.to
    → b.kind ≡ was.heading_leaf heading → b.start ≡ old.at → b.last ≡ now.at → IsOpenIn s now frames inside true b
heading_opened s old opened now frames inside b heading {items} built opens puts content kind start last =
    by_braces heading.braces refl opens
  where
    by_body : (h : ItemBody) → opened ≡ opened_as (record old { headings = opened.headings }) old.at h opened
        → opened.texts ≡ old.texts
        → node (shown_item (parts_of now) (record { start = old.at; end = now.at; body = h })) (chain_of items) nil
        ≡ shown_heading s old.at now.at heading.level heading.braces (chain_of items)
        → IsOpenIn s now frames inside true b
    by_body h opens none shown =
        opened_leaf b old.at h items (rw kind refl) built (rw (puts.goes_on, opens) refl)
        (puts.added ∙ ap (λ (v : BuilderView). with_items v.levels items) opens)
        (texts_after old opened now (no_text old opened none) puts.texts)
        (shown ∙ sym (shown_alone s (around_innermost frames) b (was.heading_leaf heading) kind
        ∙ (followed_by-nil _ ∙ rw (start, last, content) refl))) (rw kind (sym last))

    by_braces : (braces : Option Braces) → heading.braces ≡ braces → OpensHeadingOf old opened heading.level braces
        → IsOpenIn s now frames inside true b
    by_braces None none opens = by_body (body.Heading heading.level None) (rw opens refl) (rw opens refl) (rw none refl)
    by_braces (Some braces) some opens =
        by_body (body.Heading heading.level (Some opens.2.0)) (rw opens.2.2 refl) (rw opens.2.2 refl)
        (rw some (ap (λ a. node a (chain_of items) nil)
        (attributed_shown now.texts now.alignments now.headings old.headings opens.0 _ heading.level opens.2.0 old.at
        now.at (ap (λ (v : BuilderView). v.headings) puts.goes_on ∙ ap (λ (v : BuilderView). v.headings) opens.2.2)
        opens.2.1 (opens.1 ∙ ap (λ t. heading_of_words heading.level (words_in t braces)) built.text))))
