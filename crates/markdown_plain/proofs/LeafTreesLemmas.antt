-- The open blocks, as one is opened, closed or replaced; items in an open leaf, lines of code among them, and whole
-- leaves.
use Rattle.std.proofs.Common.{◌≡◌, ℕ, zero, suc, ◌-◌, ◌<◌, Bool, true, false, ◌||◌, List, [], ◌∷◌, ◌++◌, Some, length}
use Rattle.std.proofs.Common.{drop, take, refl, ap, ◌∙◌, arith, ◌+◌, ◌≤◌, sym, append_assoc, append-nil, if◌then◌else◌}
use Rattle.std.proofs.Common.{Option, None, cond, nat_le, nat_lt, ◌==◌, replicate, slice_get, true≢false}
use Rattle.std.proofs.Common.{take-append-drop}
use native.Mathlib.Numerals.{unary_clauses}
use Rattle.markdown_plain.proofs.Names.{nat_tests, same_Some, OpenBlock, BuilderView, innermost_block, parts_of}
use Rattle.markdown_plain.proofs.Names.{with_items, has_leaf, outer_of, without_leaf, space, Forest, nil, node}
use Rattle.markdown_plain.proofs.Names.{ItemBody, Alignment, HeadingLevel, Shown, chain_of, plain_item, settled_below}
use Rattle.markdown_plain.proofs.Names.{shown_item, followed_by, with_trees, more_items, no_items, LineLeft}
use Rattle.markdown_plain.proofs.Names.{column_after, leading_space, space_from, space_width, HeldLine, Line, Position}
use Rattle.markdown_plain.proofs.Names.{left_from, Braces, Source, SourceLine, cut, shown_heading, Placing, GoesOn}
use Rattle.markdown_plain.proofs.Names.{OpensHeadingOf, PutsBlock, stepped, HasItems, HasMoreTexts, HasTrees}
use Rattle.markdown_plain.proofs.Names.{after_line, AreHeld, IsRest}
use Rattle.markdown_builder.specs.BuilderView.{AppendsItem, AppendsText}
use Rattle.markdown_base.specs.Event.{HeadingView}
use Rattle.markdown_base.specs.HeadingWords.{HeadingWords, words_of, worded_heading}
use Rattle.markdown_base.specs.declared.block_parts.HeadingAttributes.{HeadingAttributes}
use Rattle.markdown_base.specs.declared.index.HeadingIndex.{HeadingIndex}
use Rattle.markdown_builder.specs.Shown.{synthesized_item, tight_shown, with_block}
use Rattle.markdown_builder.specs.Tightness.{is_tight_list}
use Rattle.markdown_builder.specs.TreeLevels.{items_changed}
use Rattle.markdown_lines.specs.HeadingAttributes.{AreAttributes, heading_of_words}
use Rattle.markdown_block_rules.specs.LineContents.{source_line, source_lines}
use Rattle.markdown_plain.specs.Fits.{after_lines}
use Rattle.markdown_plain.specs.LeafTrees.{AddsLines}
use Rattle.markdown_plain.specs.CodeLines.{owed_spaces, rest_from}
use Rattle.markdown_plain.specs.HeldSources.{IsHeld}
use Rattle.markdown_base.specs.declared.item.ItemBody.TheVariants as body

-- ---- cases

-- a test passes or fails
pub by_test : {P : Type 0} (b : Bool) → (b ≡ true → P) → (b ≡ false → P) → P
by_test true first second = first refl
by_test false first second = second refl

-- there is something, or not
pub by_option : {A P : Type 0} (o : Option A) → (o ≡ None → P) → ((x : A) → o ≡ Some x → P) → P
by_option None none some = none refl
by_option (Some x) none some = some x refl

-- ---- the open blocks

-- the blocks before the last one are those outside it
pub outer_of_opened : (outer : List OpenBlock) (block : OpenBlock) → outer_of (outer ++ block ∷ []) ≡ outer
unfolding outer_of
outer_of_opened [] block = refl
outer_of_opened (first ∷ []) block = refl
outer_of_opened (first ∷ second ∷ outer) block = ap (λ blocks. first ∷ blocks) (outer_of_opened (second ∷ outer) block)

-- the same, by an equation
pub outer_of_these : (blocks outer : List OpenBlock) (block : OpenBlock) → blocks ≡ outer ++ block ∷ []
    → outer_of blocks ≡ outer
outer_of_these blocks outer block e = rw e (outer_of_opened outer block)

-- no leaf block is open, so that the open blocks are those without one
pub outside_leaf : (view : BuilderView) → has_leaf view ≡ false → without_leaf view ≡ view.blocks
outside_leaf view outside = ap (λ leaf. if leaf then outer_of view.blocks else view.blocks) outside

pub no_leaf_there : (view : BuilderView) → has_leaf view ≡ false → view.leaf ≡ false
no_leaf_there view outside = by_test view.leaf (λ leaf. absurd (true≢false (rw leaf at outside))) (λ closed. closed)

-- those around an open leaf block
pub around_leaf : (view : BuilderView) (outer : List OpenBlock) (block : OpenBlock) → has_leaf view ≡ true
    → view.blocks ≡ outer ++ block ∷ [] → without_leaf view ≡ outer
around_leaf view outer block leaf is =
    ap (λ leaf. if leaf then outer_of view.blocks else view.blocks) leaf ∙ outer_of_these view.blocks outer block is

-- the last block is the innermost
pub innermost_of_opened : (outer : List OpenBlock) (block : OpenBlock)
    → innermost_block (outer ++ block ∷ []) ≡ Some block
innermost_of_opened [] block = refl
innermost_of_opened (first ∷ []) block = refl
innermost_of_opened (first ∷ second ∷ outer) block =
    simp unary_clauses (simp unary_clauses at (innermost_of_opened (second ∷ outer) block))

-- there is one block less outside the innermost
pub length_of_outer : (blocks : List OpenBlock) → length (outer_of blocks) ≡ length blocks - 1
unfolding outer_of
length_of_outer [] = simp unary_clauses
length_of_outer (block ∷ []) = simp unary_clauses
length_of_outer (block ∷ inner ∷ blocks) = let h = length_of_outer (inner ∷ blocks) in omega (arith, h)

-- the outermost blocks are the same without the innermost
pub take_of_outer : (depth : ℕ) (blocks : List OpenBlock) → depth < length blocks
    → take depth (outer_of blocks) ≡ take depth blocks
unfolding outer_of
take_of_outer zero blocks more = refl
take_of_outer (suc depth) [] more = absurd (omega (arith, more))
take_of_outer (suc depth) (block ∷ []) more = absurd (omega (arith, more))
take_of_outer (suc depth) (block ∷ inner ∷ blocks) more =
    ap (λ (b : List OpenBlock). block ∷ b) (take_of_outer depth (inner ∷ blocks) (omega (arith, more)))

-- some blocks, the last apart
pub record Parted (blocks : List OpenBlock) : Type 0 where
  pub block : OpenBlock
  pub is : blocks ≡ outer_of blocks ++ block ∷ []

-- a list of blocks that is not empty has a last one
pub last_apart : (blocks : List OpenBlock) → (blocks ≡ [] → ⊥) → Parted blocks
unfolding outer_of
last_apart [] some = absurd (some refl)
last_apart (first ∷ []) some = record { block = first; is = refl }
last_apart (first ∷ second ∷ blocks) some =
    let p = last_apart (second ∷ blocks) (λ e. cc (e)) in
    record { block = p.block; is = ap (λ (b : List OpenBlock). first ∷ b) p.is }

-- ---- levels

-- trees at the end of the innermost level
pub trees_last : {A : Type 0} (outer : List (Forest A)) (level trees : Forest A)
    → with_trees (outer ++ level ∷ []) trees ≡ outer ++ followed_by level trees ∷ []
trees_last [] level trees = refl
trees_last (a ∷ []) level trees = refl
trees_last (a ∷ b ∷ outer) level trees = ap (λ ls. a ∷ ls) (trees_last (b ∷ outer) level trees)

-- the innermost block, closed, is a tree of the level around it
pub closed_tree : (outer : List (Forest Shown)) (inside : Forest Shown) (a : Shown) → (outer ≡ [] → ⊥)
    → with_block (outer ++ inside ∷ []) a ≡ with_trees outer (node a (settled_below a inside) nil)
closed_tree [] inside a some = absurd (some refl)
closed_tree (l ∷ []) inside a some = refl
closed_tree (l ∷ m ∷ []) inside a some = refl
closed_tree (l ∷ m ∷ n ∷ outer) inside a some = ap (λ ls. l ∷ ls) (closed_tree (m ∷ n ∷ outer) inside a (λ e. cc (e)))

-- a block that is no tight list keeps what is in it
pub settled_leaf : (a : Shown) (inside : Forest Shown) → is_tight_list a.item.body ≡ false
    → settled_below a inside ≡ inside
settled_leaf a inside e = ap (λ b. cond b (items_changed tight_shown inside) inside) e

-- the innermost block is the last
pub same_block : (blocks outer others : List OpenBlock) (a b : OpenBlock) → blocks ≡ outer ++ a ∷ []
    → blocks ≡ others ++ b ∷ [] → a ≡ b
same_block blocks outer others a b e f =
    same_Some a b (sym (innermost_of_opened outer a) ∙ (ap innermost_block (sym e ∙ f) ∙ innermost_of_opened others b))

-- the leaf that was opened and filled is put into the innermost level, as it is shown
pub put_opened : (levels : List (Forest Shown)) (now new : BuilderView) (outer : List OpenBlock) (block : OpenBlock)
    (items : List Shown) (a : Shown)
    → now.blocks ≡ outer ++ block ∷ [] → now.levels ≡ with_items (levels ++ nil ∷ []) items
    → shown_item (parts_of now) (record { start = block.start; end = now.at; body = block.body }) ≡ a
    → is_tight_list a.item.body ≡ false → PutsBlock now new → (levels ≡ [] → ⊥)
    → new.levels ≡ with_trees levels (node a (chain_of items) nil)
put_opened levels now new outer block items a blocks filled is leaf put some =
    let same = same_block now.blocks outer (outer_of now.blocks) block put.block blocks put.was in
    let below = chain_of items in
    rw (put.levels, ← same, is, filled, trees_last levels nil below, closed_tree levels below a some)
    (rw (settled_leaf a below leaf) refl)

-- ---- headings

-- the last of some, by their number
pub get_last : {A : Type 0} (xs : List A) (x : A) → slice_get (xs ++ x ∷ []) (length xs) ≡ Some x
get_last [] x = refl
get_last (y ∷ xs) x = get_last xs x

-- attributes are those of these words
pub words_heading : (level : HeadingLevel) (made : HeadingAttributes) (words : List (List ℕ)) → AreAttributes made words
    → worded_heading level (words_of made) ≡ heading_of_words level words
words_heading level made words are = rw (are.id, are.classes, are.names) refl

-- a heading as it is shown, where its attributes were appended last
pub attributed_shown : (texts : List (List ℕ)) (alignments : List (List Alignment))
    (headings before : List HeadingWords) (words : HeadingWords) (h : HeadingView) (level : HeadingLevel)
    (ix : HeadingIndex) (start end : ℕ) → headings ≡ before ++ words ∷ [] → ix.0 ≡ length before + 1
    → worded_heading level words ≡ h
    → shown_item (record { texts = texts; headings = headings; alignments = alignments })
    (record { start = start; end = end; body = body.Heading level (Some ix) }) ≡ record {
      item = record { start = start; end = end; body = body.Heading level (Some (record { 0 = 1 })) };
      text = None;
      heading = Some h;
      alignments = [];
    }
attributed_shown texts alignments headings before words h level ix start end more number is =
    let place : ix.0 - 1 ≡ length before = omega (arith, number) in rw (place, more, get_last before words, is) refl

-- a heading that was opened and filled is put into the innermost level
pub put_heading : (s : Source) (old opened now new : BuilderView) (level : HeadingLevel) (braces : Option Braces)
    (items : List Shown) → s.text ≡ old.text → OpensHeadingOf old opened level braces → now.blocks ≡ opened.blocks
    → now.headings ≡ opened.headings → now.levels ≡ with_items opened.levels items → PutsBlock now new
    → HasTrees old new (shown_heading s old.at now.at level braces (chain_of items))
put_heading s old opened now new level None items text opens blocks headings filled put some =
    put_opened old.levels now new old.blocks (record { start = old.at; body = body.Heading level None }) items _
    (rw (blocks, opens) refl) (rw (filled, opens) refl) refl refl put some
put_heading s old opened now new level (Some braces) items text opens blocks headings filled put some =
    let ix = opens.2.0 in let is = opens.2.2 in
    put_opened old.levels now new old.blocks (record { start = old.at; body = body.Heading level (Some ix) }) items _
    (rw (blocks, is) refl) (rw (filled, is) refl)
    (attributed_shown now.texts now.alignments now.headings old.headings opens.0 _ level ix old.at now.at
    (rw (headings, is) refl) opens.2.1 (rw text opens.1)) refl put some

-- ---- lines of code

owed_is : (n : ℕ) → 0 < n → n ≤ 3 → owed_spaces n ≡ replicate n space
owed_is (suc zero) some few = refl
owed_is (suc (suc zero)) some few = refl
owed_is (suc (suc (suc zero))) some few = refl
owed_is n some few = absurd (omega (arith, some, few))

-- what holds of either value of a test
pub on_test : {A : Type 0} (P : A → Type 0) (test : Bool) (x y : A) → (test ≡ true → P x) → (test ≡ false → P y)
    → P (if test then x else y)
on_test P true x y first second = first refl
on_test P false x y first second = second refl

-- what holds of a value that may be there
pub on_option : {A : Type 0} (P : Option A → Type 0) (value : Option A) → P None
    → ((a : A) → value ≡ Some a → P (Some a)) → P value
on_option P None none some = none
on_option P (Some a) none some = some a refl

-- texts after more texts
pub texts_after : (old now new : BuilderView) → HasMoreTexts old now → HasMoreTexts now new → HasMoreTexts old new
texts_after old now new first second =
    record { more = first.more ++ second.more; are = rw (second.are, first.are, append_assoc) refl }

-- no text was added
pub no_text : (old new : BuilderView) → new.texts ≡ old.texts → HasMoreTexts old new
no_text old new same = record { more = []; are = same ∙ sym (append-nil old.texts) }

-- the columns that a tab owes at a byte offset were added to the open leaf
pub record OwedAdded (old now : BuilderView) (start owed : ℕ) : Type 0 where
  pub goes_on : GoesOn old now start
  pub texts : HasMoreTexts old now
  pub none : owed ≡ 0 → now.levels ≡ old.levels
  pub some : 0 < owed → now.levels ≡ with_items old.levels (synthesized_item start start (owed_spaces owed) ∷ [])

pub owed_added : (old here new : Placing) (start owed : ℕ) → here.builder ≡ stepped old.builder start
    → (0 < owed → AppendsText here.builder new.builder here.builder.at (owed_spaces owed)) → (owed ≡ 0 → new ≡ here)
    → OwedAdded old.builder new.builder start owed
owed_added old here new start zero step some none =
    let is : new.builder ≡ stepped old.builder start = ap (λ (p : Placing). p.builder) (none refl) ∙ step in
    record {
      goes_on = rw is refl;
      texts = no_text old.builder new.builder (rw is refl);
      none = λ e. rw is refl;
      some = λ more. absurd (omega (arith, more));
    }
owed_added old here new start (suc owed) step some none =
    let is = rw step at (some (omega arith)) in
    record {
      goes_on = rw is refl;
      texts = record { more = owed_spaces (suc owed) ∷ []; are = ap (λ (v : BuilderView). v.texts) is };
      none = λ e. absurd (omega (arith, e));
      some = λ more. ap (λ (v : BuilderView). v.levels) is;
    }

-- the columns that a tab owes before a line, and then the line, are the items of a line of code
code_line : (old owed whole : BuilderView) (b : ItemBody) (line : HeldLine) (source : SourceLine) → IsHeld line source
    → OwedAdded old owed line.start line.owed → (line.next ≤ line.start → whole.levels ≡ owed.levels)
    → (line.start < line.next → whole.levels ≡ with_items owed.levels (plain_item line.start line.next b ∷ []))
    → HasItems old whole (source_line b source)
code_line old owed whole b line source is o over more =
    let start = source.left.scanned in
    let first : owed.levels ≡ with_items old.levels (if source.left.owed == 0 then []
    else synthesized_item start start (replicate source.left.owed space) ∷ []) = by_test (source.left.owed == 0)
    (λ e. rw (e, no_items old.levels) (o.none (grind (arith, nat_tests, e, is.owed)))) (λ e.
    let any : 0 < line.owed = grind (arith, nat_tests, e, is.owed) in
    rw (e, ← is.start, ← is.owed, ← owed_is line.owed any is.few) (o.some any)) in
    let after = if nat_lt start source.next then plain_item start source.next b ∷ [] else [] in
    let rest : whole.levels ≡ with_items owed.levels after = by_test (nat_lt start source.next)
    (λ e. rw (e, ← is.start, ← is.next) (more (grind (arith, nat_tests, e, is.start, is.next))))
    (λ e. rw (e, no_items owed.levels) (over (grind (arith, nat_tests, e, is.start, is.next)))) in
    rest ∙ (ap (λ ls. with_items ls after) first ∙ more_items old.levels _ after)

-- ---- lines that are added

-- the items of one line
one_line : (old new : BuilderView) (b : ItemBody) (line : HeldLine)
    → ((source : SourceLine) → IsHeld line source → HasItems old new (source_line b source))
    → (sources : List SourceLine) → AreHeld (line ∷ []) sources → HasItems old new (source_lines b sources)
one_line old new b line one [] are = absurd are
one_line old new b line one (source ∷ []) are =
    one source are.0 ∙ ap (with_items old.levels) (sym (append-nil (source_line b source)))
one_line old new b line one (source ∷ other ∷ sources) are = absurd are.1

-- a line that is over when what a tab owes was added
pub line_over : (old now : BuilderView) (b : ItemBody) (line : HeldLine) → OwedAdded old now line.start line.owed
    → line.next ≤ line.start → AddsLines old now b (line ∷ [])
line_over old now b line o over = record {
  goes_on = let end : after_line line.start line.next ≡ line.start = omega (arith, over) in rw end o.goes_on;
  texts = o.texts;
  items = one_line old now b line (λ source is. code_line old now now b line source is o (λ e. refl)
      (λ more. absurd (omega (arith, more, over))));
}

-- a line that is added after what a tab owes
pub line_added : (old now new : BuilderView) (b : ItemBody) (line : HeldLine) → OwedAdded old now line.start line.owed
    → line.start < line.next → AppendsItem now new b line.next → AddsLines old new b (line ∷ [])
line_added old now new b line o more adds = record {
  goes_on =
      let end : after_line line.start line.next ≡ line.next = omega (arith, more) in rw (end, adds, o.goes_on) refl;
  texts = texts_after old now new o.texts (no_text now new (rw adds refl));
  items = one_line old new b line (λ source is. code_line old now new b line source is o
      (λ over. absurd (omega (arith, more, over))) (λ any. rw (adds, o.goes_on) refl));
}

pub lines_append : (b : ItemBody) (xs ys : List SourceLine)
    → source_lines b (xs ++ ys) ≡ source_lines b xs ++ source_lines b ys
lines_append b [] ys = refl
lines_append b (x ∷ xs) ys =
    ap (λ items. source_line b x ++ items) (lines_append b xs ys) ∙ sym (append_assoc (source_line b x) _ _)

-- lines that are held are those of the definition, the first and the last of them apart
held_parts : (xs ys : List HeldLine) (sources : List SourceLine) → AreHeld (xs ++ ys) sources
    → AreHeld xs (take (length xs) sources) × AreHeld ys (drop (length xs) sources)
held_parts [] ys sources are = (tt, are)
held_parts (x ∷ xs) ys [] are = absurd are
held_parts (x ∷ xs) ys (source ∷ sources) are = let p = held_parts xs ys sources are.1 in ((are.0, p.0), p.1)

after_both : (from : ℕ) (xs ys : List HeldLine) → after_lines from (xs ++ ys) ≡ after_lines (after_lines from xs) ys
after_both from [] ys = refl
after_both from (x ∷ xs) ys = after_both (after_line x.start x.next) xs ys

-- no line is added
pub adds_none : (old : BuilderView) (b : ItemBody) → AddsLines old old b []
adds_none old b = record { goes_on = refl; texts = no_text old old refl; items = nothing }
  where
    nothing : (sources : List SourceLine) → AreHeld [] sources → HasItems old old (source_lines b sources)
    nothing [] are = sym (no_items old.levels)
    nothing (source ∷ sources) are = absurd are

-- lines are added after others
pub adds_more : {old mid new : BuilderView} {b : ItemBody} {xs ys : List HeldLine} → AddsLines old mid b xs
    → AddsLines mid new b ys → AddsLines old new b (xs ++ ys)
adds_more {old} {mid} {new} {b} {xs} {ys} one two = record {
  goes_on = rw (after_both old.at xs ys, two.goes_on, one.goes_on) refl;
  texts = texts_after old mid new one.texts two.texts;
  items = λ sources are.
      let p = held_parts xs ys sources are in let first = take (length xs) sources in
      let last = drop (length xs) sources in let whole = take-append-drop (length xs) sources in
      rw (two.items last p.1, one.items first p.0, more_items, ← lines_append b first last, whole) refl;
}

-- ---- what a partly read tab owes

width_of : (column b : ℕ) → space_width column b ≤ 4
width_of column b = grind (arith, nat_tests)

few_from : (n scanned column : ℕ) (bytes : List ℕ) → (space_from n scanned column bytes).after.owed ≤ 3
few_from n scanned column [] = omega arith
few_from n scanned column (b ∷ bytes) =
    by_test ((n == 0) || (space_width column b == 0)) (λ none. rw none (omega arith)) (λ some.
    by_test (nat_lt n (space_width column b)) (λ more.
    let any : 1 ≤ n = grind (arith, nat_tests, some) in rw (some, more) (omega (arith, width_of column b, any)))
    (λ less. rw (some, less) (few_from (n - space_width column b) (scanned + 1) (column_after column b) bytes)))

pub few_owed : (columns : ℕ) (left : LineLeft) → left.owed ≤ 3 → (leading_space columns left).after.owed ≤ 3
few_owed columns left few =
    by_test (nat_le columns left.owed) (λ e. rw e (omega (arith, few)))
    (λ e. rw e (few_from (columns - left.owed) left.scanned left.column left.bytes))

pub rest_held : (text : List ℕ) (position : Position) (line : Line) (source : SourceLine)
    → IsRest text position line source → IsHeld (rest_from line position) source
rest_held text position line source is = record {
  start = ap (λ (left : LineLeft). left.scanned) is.left;
  owed = ap (λ (left : LineLeft). left.owed) is.left;
  few = is.few;
  next = is.next;
}

-- what is left of a line after some space is the line of the definition that is cut there
pub cut_held : (text : List ℕ) (position after : Position) (line : Line) (source : SourceLine) (columns : ℕ)
    → left_from text after line.stop ≡ (leading_space columns (left_from text position line.stop)).after
    → IsRest text position line source → IsHeld (rest_from line after) (cut columns source)
cut_held text position after line source columns read is =
    let same : left_from text after line.stop ≡ (leading_space columns source.left).after =
    read ∙ ap (λ left. (leading_space columns left).after) is.left in
    let few = few_owed columns (left_from text position line.stop) is.few in
    record {
      start = ap (λ (left : LineLeft). left.scanned) same;
      owed = ap (λ (left : LineLeft). left.owed) same;
      few = omega (arith, ap (λ (left : LineLeft). left.owed) read, few);
      next = is.next;
    }

-- a line more is held
pub held_more : (lines : List HeldLine) (sources : List SourceLine) (line : HeldLine) (source : SourceLine)
    → AreHeld lines sources → IsHeld line source → AreHeld (lines ++ line ∷ []) (sources ++ source ∷ [])
held_more [] [] line source are is = (is, tt)
held_more (l ∷ lines) (m ∷ sources) line source are is = (are.0, held_more lines sources line source are.1 is)
held_more lines sources line source are is = absurd are
