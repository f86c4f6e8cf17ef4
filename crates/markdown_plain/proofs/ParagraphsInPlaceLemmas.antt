-- A paragraph, or the heading that it turned out to be, as the last block in the innermost open container.
use Rattle.std.proofs.Common.{◌≡◌, ◌∙◌, ℕ, Bool, true, false, List, [], ◌∷◌, ◌++◌, Option, Some, None, append-nil}
use Rattle.std.proofs.Common.{arith, drop, length, not, refl, sym, ap, MatchOption, zero, suc, ◌<◌, ◌≤◌, ◌-◌, ◌==◌}
use Rattle.std.proofs.Common.{if◌then◌else◌, length-take, IsCharBoundary}
use Rattle.markdown_plain.proofs.Names.{nat_tests, Forest, nil, node, HeadingLevel, BuilderView, Opens, Shown, chain_of}
use Rattle.markdown_plain.proofs.Names.{plain_item, followed_by, with_trees, followed_by-nil, entity_names, Source}
use Rattle.markdown_plain.proofs.Names.{divided, divided_in, SourceLine, Line, Block, Around, block_end, definitions_in}
use Rattle.markdown_plain.proofs.Names.{footnotes_in, is_blank_block, label_of, paragraph_lines, shown_block}
use Rattle.markdown_plain.proofs.Names.{shown_blocks, last_braces, shown_heading, HasMoreTexts, HasTrees, HasItems}
use Rattle.markdown_plain.proofs.Names.{Pass, Frame, HoldsParagraph, IsPlaced, leaf_block, around_innermost, IsBuilt}
use Rattle.markdown_plain.proofs.Names.{placed_end, EndsTo, lines_end, source_of, first_task, EndsFrom, past, OpenBlock}
use Rattle.markdown_plain.proofs.Names.{Braces, GoesOn, OpensHeadingOf, PutsBlock, closed, stepped, AreInText, HeldLine}
use Rattle.markdown_plain.proofs.Names.{no_items, AreHeldFrom, AreTextLines, IsParagraph, Placing}
use Rattle.std.proofs.lemmas.List.{drop_all}
use Rattle.markdown_lines.specs.DefinitionRules.{definition_in, lines_behind, more_definitions, text_of_lines}
use Rattle.markdown_block_rules.specs.BlockRules.{paragraph_body, shown_setext, shown_text, before_braces}
use Rattle.markdown_block_rules.specs.BlockRules.{paragraph_items}
use Rattle.markdown_plain.specs.LeafTrees.{Appends}
use Rattle.markdown_plain.specs.OpenLeaves.{ended_block}
use Rattle.markdown_plain.specs.ParagraphSteps.{ended_at, PlacesLines, TakesLines}
use Rattle.markdown_plain.specs.Paragraphs.{divided_of, paragraph_end, shown_ended, IsPlacedTo}
use Rattle.markdown_plain.specs.Fitting.{OpensHeading}
use Rattle.markdown_plain.specs.Closable.{EndsHeading}
use Rattle.markdown_plain.specs.ParagraphItems.{heading_braces, text_items, AreSome}
use Rattle.markdown_scan.specs.declared.entity.EntityNames.{EntityNames}
use Rattle.markdown_plain.proofs.ClosedFramesLemmas.{appended_is_built, end_appended, some_level, loose_around}
use Rattle.markdown_plain.proofs.ClosableLemmas.{past_end, all_taken}
use Rattle.markdown_plain.proofs.LeafTreesLemmas.{on_option, put_heading, put_opened, no_text, texts_after}
use Rattle.markdown_plain.proofs.LeafTreesLemmas.{outer_of_opened, by_test}
use Rattle.markdown_plain.proofs.ParagraphTreesLemmas.{heading_open, items_before_braces, not_cut}
use Rattle.markdown_plain.proofs.DefinitionsLemmas.{AreFilled, as_many, fewer_behind, filled_behind, filled_left}
use Rattle.markdown_plain.proofs.DefinitionsLemmas.{held_behind, line_some}
use Rattle.markdown_base.specs.declared.item.ItemBody.TheVariants as body
use Rattle.markdown_block_rules.specs.BlockGrowth as was

-- ---- a text that was opened, filled and closed

-- what was opened, filled and closed is put into the innermost level as the definition says
pub placed_tree : (s : Source) (old opened filled new : BuilderView) (to marked : ℕ) (b : Block)
    (heading : Option (HeadingLevel × Line)) (l : SourceLine) (lines : List SourceLine) → s.text ≡ old.text
    → MatchOption heading (Opens (stepped old l.left.scanned) opened body.Paragraph)
    (λ h. OpensHeadingOf (stepped old l.left.scanned) opened h.0 (heading_braces s.syntax heading (l ∷ lines)))
    → GoesOn opened filled to → HasItems opened filled (text_items s (first_task s marked (l ∷ lines))
    (before_braces (heading_braces s.syntax heading (l ∷ lines)) (l ∷ lines))) → PutsBlock (stepped filled b.last) new
    → HasTrees old new (shown_ended s marked b heading (l ∷ lines))
placed_tree s old opened filled new to marked b None l lines text opens goes fills put some =
    let all = l ∷ lines in let items = text_items s (first_task s marked all) (before_braces None all) in
    let same = items_before_braces s marked None all tt ∙ ap (paragraph_items s marked) (not_cut all) in
    put_opened old.levels (stepped filled b.last) new old.blocks
    (record { start = l.left.scanned; body = body.Paragraph }) items (plain_item l.left.scanned b.last body.Paragraph)
    (rw (goes, opens) refl) (rw (fills, opens) refl) refl refl put some
    ∙ ap (λ is. with_trees old.levels (node (plain_item l.left.scanned b.last body.Paragraph) (chain_of is) nil)) same
placed_tree s old opened filled new to marked b (Some heading) l lines text opens goes fills put some =
    let all = l ∷ lines in let found = last_braces s.syntax all in
    put_heading s (stepped old l.left.scanned) opened (stepped filled b.last) new heading.0 found
    (text_items s (first_task s marked all) (before_braces found all)) text opens (rw goes refl) (rw goes refl) fills
    put some
    ∙ ap (λ items. with_trees old.levels (shown_heading s l.left.scanned b.last heading.0 found (chain_of items)))
    (items_before_braces s marked found all (heading_open s.syntax (Some heading) all))

-- no delimiter run is in a block that was just opened
pub none_run : (begun opened : BuilderView) (heading : Option (HeadingLevel × Line)) (braces : Option Braces)
    → MatchOption heading (Opens begun opened body.Paragraph) (λ h. OpensHeadingOf begun opened h.0 braces)
    → opened.run ≡ None
none_run begun opened None braces opens = rw opens refl
none_run begun opened (Some heading) None opens = rw opens refl
none_run begun opened (Some heading) (Some braces) opens = rw opens.2.2 refl

-- a text was opened in a block of its own
pub record OpensText (old new : BuilderView) : Type 0 where
  pub block : OpenBlock
  pub same : new ≡ record old {
    blocks = old.blocks ++ block ∷ [];
    leaf = true;
    run = None;
    levels = old.levels ++ nil ∷ [];
    headings = new.headings;
  }

pub opens_text : (old new : BuilderView) (heading : Option (HeadingLevel × Line))
    → MatchOption heading (Opens old new body.Paragraph) (λ h. OpensHeading old new h.0) → OpensText old new
opens_text old new None opens = record { block = record { start = old.at; body = body.Paragraph }; same = rw opens }
opens_text old new (Some heading) opens =
    record { block = record { start = old.at; body = body.Heading heading.0 opens.0 }; same = opens.1 }

last_between : (text : List ℕ) (at from before : ℕ) (lines : List HeldLine) → from < length lines
    → AreInText text at (drop from lines) → IsCharBoundary text (past before lines)
last_between text at from before [] less are = absurd (omega (arith, less))
last_between text at zero before (line ∷ []) less are = are.1.0.next
last_between text at zero before (line ∷ m ∷ lines) less are =
    last_between text line.next zero line.next (m ∷ lines) (omega arith) are.1.1
last_between text at (suc from) before (line ∷ lines) less are =
    last_between text at from line.next lines (omega (arith, less)) are

-- a paragraph ends with its last line or after it, and between characters
pub paragraph_ends : (text : List ℕ) (at from : ℕ) (lines : List HeldLine) (heading : Option (HeadingLevel × Line))
    → from < length lines → AreInText text at (drop from lines) → EndsHeading text lines heading
    → (lines_end lines ≤ paragraph_end lines heading) × IsCharBoundary text (paragraph_end lines heading)
paragraph_ends text at from lines None less are ends =
    (omega arith, rw (past_end at lines (omega (arith, less))) at (last_between text at from at lines less are))
paragraph_ends text at from lines (Some heading) less are ends = ends

-- it was opened after a step, filled, and closed after another
module _ (old : BuilderView) {start end : ℕ} {opened filled new : BuilderView} {to : ℕ}
    (opens : OpensText (stepped old start) opened) (fills : Appends opened filled to)
    (closes : new ≡ closed (stepped filled end) new.levels) where
  pub text_placed : IsPlacedTo old new end
  text_placed = rw (closes, fills.goes_on, opens.same, outer_of_opened old.blocks opens.block) refl

  pub texts_placed : HasMoreTexts old new
  texts_placed = record { more = fills.texts.more; are = rw (closes, fills.texts.are, opens.same) refl }

-- ---- there is something in each line that is left

are_some : {text : List ℕ} {lines : List HeldLine} {sources : List SourceLine} → AreFilled text lines sources
    → AreSome sources
are_some {lines = []} {sources = []} filled = tt
are_some {text} {lines = line ∷ lines} {sources = source ∷ sources} filled =
    (line_some text line source filled.held.1.0 filled.are.0, are_some (filled_left 1 filled))
are_some filled = absurd filled.are

-- definitions take no more lines than there are
fewer_divided : (names : EntityNames) (n : ℕ) (text : List ℕ) (lines : List SourceLine)
    → length (divided_in names n text lines).lines ≤ length lines
unfolding divided_in
fewer_divided names zero text lines = omega arith
fewer_divided names (suc n) text lines =
    on_option (λ found. length (more_definitions (divided_in names n text) lines found).lines ≤ length lines)
    (definition_in names (text_of_lines text lines)) (omega arith)
    (λ d _. omega (arith, fewer_behind lines d.length, fewer_divided names n text (lines_behind lines d.length)))

-- and a first line of which nothing is left is taken
some_left_over : (names : EntityNames) (text : List ℕ) (lines : List HeldLine) (sources : List SourceLine)
    (taken : ℕ) → IsParagraph text lines sources → drop taken sources ≡ (divided names text sources).lines
    → AreSome (drop taken sources)
some_left_over names text [] [] taken is e =
    let filled : AreFilled text [] [] = record { held = tt; are = tt } in are_some (filled_left taken filled)
some_left_over names text (line ∷ lines) (source ∷ sources) zero is e =
    by_test (line.start == line.stop) (λ same.
    let size = length-take (line.stop - line.start) (drop line.start text) in
    let none : (length source.left.bytes == 0) ≡ true =
    grind (arith, nat_tests, same, size, ap length is.are.0.bytes) in
    let few = fewer_divided names (suc (length sources)) text sources in
    absurd (omega (arith, few, ap length (rw none at e)))) (λ other.
    let filled : AreFilled text (line ∷ lines) (source ∷ sources) =
    record { held = rw other at is.inside; are = is.are } in
    are_some filled)
some_left_over names text (line ∷ lines) (source ∷ sources) (suc taken) is e =
    are_some (filled_left taken (filled_behind is))
some_left_over names text lines sources taken is e = absurd is.are

-- ---- only the first of all lines may begin with a task marker

no_later_task : (s : Source) (marked from : ℕ) (lines : List HeldLine) (sources : List SourceLine) (taken : ℕ)
    → AreHeldFrom s.text from lines → AreTextLines s.text lines sources → marked ≤ from
    → None ≡ first_task s marked (drop taken sources)
no_later_task s marked from [] [] zero are there low = refl
no_later_task s marked from [] [] (suc taken) are there low = refl
no_later_task s marked from (line ∷ lines) (source ∷ sources) zero are there low =
    let after : marked < source.next = omega (arith, are.1.0.some, are.1.0.ends, are.0, there.0.next, low) in
    let other : (source.next == marked) ≡ false = grind (arith, nat_tests, after) in rw other
no_later_task s marked from (line ∷ lines) (source ∷ sources) (suc taken) are there low =
    no_later_task s marked line.next lines sources taken are.1.1 there.1
    (omega (arith, are.1.0.some, are.1.0.ends, are.0, low))
no_later_task s marked from lines sources taken are there low = absurd there

task_left_over : (s : Source) (marked : ℕ) (task : Option Bool) (lines : List HeldLine) (sources : List SourceLine)
    (taken : ℕ) → IsParagraph s.text lines sources → EndsFrom marked sources → task ≡ first_task s marked sources
    → (if taken == 0 then task else None) ≡ first_task s marked (drop taken sources)
task_left_over s marked task lines sources zero is ends e = e
task_left_over s marked task [] [] (suc taken) is ends e =
    let past : (suc taken == 0) ≡ false = grind (arith, nat_tests) in rw past
task_left_over s marked task (line ∷ lines) (source ∷ sources) (suc taken) is ends e =
    let past : (suc taken == 0) ≡ false = grind (arith, nat_tests) in
    rw past (no_later_task s marked line.next lines sources taken (held_behind is) is.are.1
    (omega (arith, ends, is.are.0.next)))
task_left_over s marked task lines sources (suc taken) is ends e = absurd is.are

-- ---- nothing is left

nothing_shown : (s : Source) (marked : ℕ) (b : Block) (heading : Option (HeadingLevel × Line)) (lines : List SourceLine)
    (levels : List (Forest Shown)) → lines ≡ [] → levels ≡ with_trees levels (shown_ended s marked b heading lines)
nothing_shown s marked b None lines levels none = rw none (sym (no_items levels))
nothing_shown s marked b (Some heading) lines levels none = rw none (sym (no_items levels))

-- ---- what was made of the lines

-- definitions were taken, and what is left was placed
pub record HasEnded (pass : Pass) (heading : Option (HeadingLevel × Line)) (taken : ℕ) (left : Bool)
    (defined new : BuilderView) : Type 0 where
  pub ends : EndsTo pass.placing.builder new (ended_at pass left heading)
  pub definitions : new.definitions ≡ defined.definitions
  pub texts : HasMoreTexts pass.placing.builder new
  pub tree : (sources : List SourceLine) (marked : ℕ) (b : Block)
      → IsParagraph pass.placing.builder.text pass.lines.items sources
      → drop taken sources ≡ (divided_of pass sources).lines → pass.task ≡ first_task (source_of pass) marked sources
      → EndsFrom marked sources → b.last ≡ paragraph_end pass.lines.items heading → HasTrees pass.placing.builder new
      (shown_ended (source_of pass) marked b heading (divided_of pass sources).lines)

ends_placed : (pass : Pass) (heading : Option (HeadingLevel × Line)) → 0 < length pass.lines.items
    → paragraph_end pass.lines.items heading ≡ ended_at pass true heading
ends_placed pass None some = sym (past_end pass.placing.builder.at pass.lines.items some)
ends_placed pass (Some heading) some = refl

ends_defined : (pass : Pass) (heading : Option (HeadingLevel × Line))
    → past pass.placing.builder.at pass.lines.items ≡ ended_at pass false heading
ends_defined pass None = refl
ends_defined pass (Some heading) = refl

pub placed_ended : {pass : Pass} {heading : Option (HeadingLevel × Line)} {taken : ℕ} (defined : Placing)
    {new : BuilderView} → pass.placing.builder.leaf ≡ false → taken < length pass.lines.items
    → TakesLines pass.placing.builder defined.builder pass.lines.items taken
    → IsPlacedTo defined.builder new (paragraph_end pass.lines.items heading) → HasMoreTexts defined.builder new
    → PlacesLines (record pass { placing = defined }) taken heading new
    → HasEnded pass heading taken true defined.builder new
placed_ended {pass} {heading} {taken} defined {new} outside less takes placed texts places =
    let old = pass.placing.builder in
    let same : defined.builder.text ≡ old.text = ap (λ (v : BuilderView). v.text) takes.moves in
    let levels : defined.builder.levels ≡ old.levels = ap (λ (v : BuilderView). v.levels) takes.moves in
    record {
      ends = rw (← ends_placed pass heading (omega (arith, less)), placed, takes.moves, outside) refl;
      definitions = rw placed refl;
      texts = texts_after old defined.builder new (no_text old defined.builder (rw takes.moves refl)) texts;
      tree = λ sources marked b is behind task from end some.
          rw (← behind, ← same, ← levels) (places sources marked b (rw same is.are)
          (some_left_over (entity_names pass.syntax) old.text pass.lines.items sources taken is behind)
          (rw same (task_left_over (source_of pass) marked pass.task pass.lines.items sources taken is from task)) end
          (rw levels some));
    }

pub nothing_ended : {pass : Pass} {heading : Option (HeadingLevel × Line)} {taken : ℕ} {defined : BuilderView}
    → TakesLines pass.placing.builder defined pass.lines.items taken → length pass.lines.items ≤ taken
    → HasEnded pass heading taken false defined defined
nothing_ended {pass} {heading} {taken} {defined} takes all =
    let old = pass.placing.builder in
    record {
      ends = rw (← ends_defined pass heading) (all_taken takes all);
      definitions = refl;
      texts = no_text old defined (rw takes.moves refl);
      tree = λ sources marked b is behind task from end some.
          let none = drop_all taken sources (omega (arith, all, as_many old.text pass.lines.items sources is.are)) in
          ap (λ (v : BuilderView). v.levels) takes.moves
          ∙ nothing_shown (source_of pass) marked b heading _ old.levels (sym behind ∙ none);
    }

-- ---- a leaf that is made of lines

-- the lines after its definitions
abbrev rest_of : Source → List SourceLine → List SourceLine
rest_of s lines = (divided (entity_names s.syntax) s.text lines).lines

paragraph_shown : (s : Source) (around : Around) (b : Block) (sources : List SourceLine) → around.tight ≡ false
    → b.kind ≡ was.paragraph_leaf sources
    → shown_blocks s around (leaf_block b) ≡ shown_text s around.marked b body.Paragraph (rest_of s sources)
unfolding shown_blocks
paragraph_shown s around b sources loose is =
    ap (λ kind. followed_by (shown_block s around b (block_end b b.first kind) nil (λ inside. nil) kind) nil) is
    ∙ (followed_by-nil _ ∙ ap (λ tight. shown_text s around.marked b (paragraph_body tight) (rest_of s sources)) loose)

heading_shown : (s : Source) (around : Around) (b : Block) (level : HeadingLevel) (sources : List SourceLine)
    → b.kind ≡ was.underlined_leaf level sources
    → shown_blocks s around (leaf_block b) ≡ shown_setext s around.marked b level (rest_of s sources)
unfolding shown_blocks
heading_shown s around b level sources is =
    ap (λ kind. followed_by (shown_block s around b (block_end b b.first kind) nil (λ inside. nil) kind) nil) is
    ∙ followed_by-nil _

text_defines : (s : Source) (b : Block) (sources : List SourceLine) → paragraph_lines b.kind ≡ sources
    → definitions_in s (leaf_block b) ≡ (divided (entity_names s.syntax) s.text sources).definitions
unfolding definitions_in
text_defines s b sources is = append-nil _ ∙ ap (λ lines. (divided (entity_names s.syntax) s.text lines).definitions) is

nothing_named : (b : Block) → label_of b.kind ≡ [] → footnotes_in (leaf_block b) ≡ []
unfolding footnotes_in
nothing_named b none = append-nil (label_of b.kind) ∙ none

-- a block that is a paragraph's lines, and ends with its last line
pub record IsTextBlock (sources : List SourceLine) (b : Block) : Type 0 where
  pub lines : paragraph_lines b.kind ≡ sources
  pub unnamed : label_of b.kind ≡ []
  pub some : is_blank_block b.kind ≡ false
  pub end : (inside : ℕ) → block_end b inside b.kind ≡ b.last

paragraph_is : (sources : List SourceLine) (b : Block) → b.kind ≡ was.paragraph_leaf sources → IsTextBlock sources b
paragraph_is sources b is =
    record { lines = rw is refl; unnamed = rw is refl; some = rw is refl; end = λ inside. rw is refl }

-- ---- it is put into the innermost open container

-- its definitions were taken, and these trees put into the innermost level, up to a byte offset
pub record EndsText (s : Source) (sources : List SourceLine) (trees : Forest Shown) (old new : BuilderView) (to : ℕ)
    : Type 0 where
  pub ends : EndsTo old new to
  pub shown : HasTrees old new trees
  pub texts : HasMoreTexts old new
  pub definitions : new.definitions ≡ old.definitions ++ (divided (entity_names s.syntax) s.text sources).definitions

text_is_placed : (s : Source) (sources : List SourceLine) (trees : Forest Shown) (old new : BuilderView) (to : ℕ)
    (frames : List Frame) (inside : Forest Block) (b : Block) → trees ≡ shown_blocks s (around_innermost frames)
    (leaf_block b) → IsTextBlock sources b → to ≡ b.last → EndsText s sources trees old new to
    → IsBuilt s old frames inside → IsPlaced s new frames (followed_by inside (leaf_block b))
text_is_placed s sources trees old new to frames inside b shown is at text built = record {
  built = appended_is_built s frames inside (leaf_block b) old new (record {
    more = text.texts.more;
    text = rw text.ends refl;
    blocks = rw text.ends refl;
    outside = rw text.ends built.outside;
    levels = rw (← shown) (text.shown (λ none. some_level s frames inside (sym built.levels ∙ none)));
    texts = text.texts.are;
    definitions = rw (text_defines s b sources is.lines) text.definitions;
    footnotes = rw (text.ends, nothing_named b is.unnamed) (sym (append-nil old.footnotes));
  }) built;
  at = ap (λ (v : BuilderView). v.at) text.ends ∙ (at ∙ sym (end_appended frames inside (leaf_block b)
      ∙ (ap (λ blank. if blank then placed_end frames inside else block_end b b.first b.kind) is.some
      ∙ is.end b.first)));
}

-- the heading that a paragraph with an underline is, if it holds more than definitions
abbrev pub headed_block : Block → List SourceLine → Option (HeadingLevel × Line) → Block
headed_block b sources heading = ended_block b sources true heading

pub headed_last : (pass : Pass) (b : Block) (sources : List SourceLine) (heading : Option (HeadingLevel × Line))
    → b.last ≡ lines_end pass.lines.items
    → (headed_block b sources heading).last ≡ paragraph_end pass.lines.items heading
headed_last pass b sources None last = last
headed_last pass b sources (Some heading) last = refl

pub ended_is_placed : (pass : Pass) (new : BuilderView) (frames : List Frame) (inside : Forest Block) (b : Block)
    (sources : List SourceLine) (left : Bool) (heading : Option (HeadingLevel × Line))
    → HoldsParagraph (source_of pass) pass frames inside b sources
    → (left ≡ false → (divided_of pass sources).lines ≡ [])
    → EndsText (source_of pass) sources (shown_ended (source_of pass) (around_innermost frames).marked (headed_block b
    sources heading) heading (divided_of pass sources).lines) pass.placing.builder new (ended_at pass left heading)
    → IsPlaced (source_of pass) new frames (followed_by inside (leaf_block (ended_block b sources left heading)))
ended_is_placed pass new frames inside b sources left None holds none ends =
    text_is_placed (source_of pass) sources _ pass.placing.builder new _ frames inside b
    (sym (paragraph_shown (source_of pass) _ b sources (loose_around frames) holds.kind))
    (paragraph_is sources b holds.kind) (past_end _ pass.lines.items holds.some ∙ sym holds.last) ends holds.built
ended_is_placed pass new frames inside b sources true (Some heading) holds none ends =
    let c = headed_block b sources (Some heading) in
    text_is_placed (source_of pass) sources _ pass.placing.builder new _ frames inside c
    (sym (heading_shown (source_of pass) _ c heading.0 sources refl))
    (record { lines = refl; unnamed = refl; some = refl; end = λ inside. refl }) refl ends holds.built
ended_is_placed pass new frames inside b sources false (Some heading) holds none ends =
    text_is_placed (source_of pass) sources _ pass.placing.builder new _ frames inside b
    (sym (paragraph_shown (source_of pass) _ b sources (loose_around frames) holds.kind
    ∙ rw (none refl) refl)) (paragraph_is sources b holds.kind)
    (past_end _ pass.lines.items holds.some ∙ sym holds.last) ends holds.built

pub nothing_left : (rest : List SourceLine) (left : Bool) → left ≡ false → left ≡ not (length rest == 0) → rest ≡ []
nothing_left [] left none is = refl
nothing_left (l ∷ rest) left none is = absurd (grind (arith, nat_tests, none, is))
