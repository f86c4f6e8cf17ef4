-- Lines with a list marker, or with the indentation of an item.
use Rattle.std.proofs.Common.{◌≡◌, ℕ, suc, ◌<◌, Bool, true, false, List, [], ◌∷◌, ◌++◌, Option, Some, None, subst, refl}
use Rattle.std.proofs.Common.{ap, ◌∙◌, arith, length, not, ◌&&◌, ◌||◌}
use Rattle.std.specs.Prelude.{⊤, unwrap_or}
use Rattle.std.specs.Option.{option_map, option_or}
use Rattle.std.proofs.lemmas.Bool.{and_right}
use Rattle.markdown_base.specs.Forest.{Forest, nil, node}
use Rattle.markdown_base.specs.declared.tag.Alignment.{Alignment}
use Rattle.markdown_lines.specs.declared.block_start.Before.TheVariants as paragraph
use Rattle.markdown_lines.specs.BlockBeginnings as line
use Rattle.markdown_base.specs.Source.{Source}
use Rattle.markdown_lines.specs.BlockBeginnings.{begins}
use Rattle.markdown_block_rules.specs.BlockGrowth.{Block, begun_in, block_with, container_with, goes_on, inside_of}
use Rattle.markdown_block_rules.specs.BlockGrowth.{is_nil, item_container, list_container, leaf_with, line_block}
use Rattle.markdown_block_rules.specs.BlockGrowth.{new_blocks, Kind, cut_paragraph, paragraph_leaf, table_after}
use Rattle.markdown_block_rules.specs.BlockGrowth.{table_leaf, table_of_lines, table_with, with_line}
use Rattle.markdown_block_rules.specs.TableLines.{alignments_for, reads_tables}
use Rattle.markdown_block_laws.specs.BlockLaws.{AreIndented, no_indented, one_indented, IndentedLinesMakeItem}
use Rattle.markdown_block_laws.specs.BlockLaws.{ItemMayBeginWithBlankLine, item_from, list_from, lone, one_item_list}
use Rattle.markdown_block_laws.specs.BlockLaws.{rest_of, to_line, to_lines, with_lines}
use Rattle.markdown_scan.specs.LineStart.{LineLeft}
use Rattle.markdown_lines.specs.SourceLines.{SourceLine, is_blank_rest}
use Rattle.markdown_lines.specs.declared.list_marker.ListMarker.{ListMarker}
use Rattle.markdown_block_rules.proofs.BlockBeginningsLemmas.{HoldsLess, begins_less, begun_same, either}
use Rattle.markdown_block_laws.proofs.BlockLawsLemmas.{ends_in_block, indented_line}
use Rattle.markdown_builder.specs.TreeLevels.{followed_by}

-- there are blocks, where there is a result
abbrev IfThere : Option (Forest Block) → Type 0
IfThere None = ⊤
IfThere (Some blocks) = is_nil blocks ≡ false

mapped_there : {A : Type 0} (f : A → Forest Block) (found : Option A) → ((a : A) → is_nil (f a) ≡ false)
    → IfThere (option_map f found)
mapped_there f None there = tt
mapped_there f (Some a) there = there a

one_there : (a b : Option (Forest Block)) → IfThere a → IfThere b → IfThere (option_or a b)
one_there None b first second = second
one_there (Some blocks) b first second = first

-- a table is there after the lines before it
after_there : (l : SourceLine) (before : Forest Block) (head : SourceLine) (found : Option (List Alignment))
    → IfThere (table_after l before head found)
after_there l before head None = tt
after_there l before head (Some alignments) =
    ends_in_block before (record {
      start = head.left.scanned;
      first = head.next;
      last = l.next;
      kind = table_leaf false head alignments [];
    }) nil

lines_there : (s : Source) (l : SourceLine) (b : Block) (end : ℕ) (before lines : List SourceLine)
    → IfThere (table_of_lines s l b end before lines)
lines_there s l b end before [] = tt
lines_there s l b end before (head ∷ []) =
    after_there l (cut_paragraph b end before) head (alignments_for s l before head)
lines_there s l b end before (first ∷ next ∷ lines) =
    lines_there s l b first.next (before ++ first ∷ []) (next ∷ lines)

table_there : (s : Source) (l : SourceLine) (b : Block) (kind : Kind) → IfThere (table_with s l b kind)
table_there s l b (paragraph_leaf lines) =
    either IfThere (is_blank_rest l || not (reads_tables s)) None (table_of_lines s l b b.first [] lines) tt
    (lines_there s l b b.first [] lines)
table_there s l b other = tt

grown_there : (s : Source) (blocks : Forest Block) (l : SourceLine) → IfThere (goes_on s blocks l)
unfolding goes_on
grown_there s nil l = tt
grown_there s (node b below after) l =
    either IfThere (is_nil after) (block_with s l b below (goes_on s below))
    (option_map (node b below) (goes_on s after l))
    (one_there (table_with s l b b.kind)
    (option_or (option_map (λ kind. node (record b { last = l.next; kind = kind }) below nil) (leaf_with s l b.kind))
    (option_map (λ f. node (record b { last = l.next }) f nil) (container_with s l below (goes_on s below) b.kind)))
    (table_there s l b b.kind)
    (one_there
    (option_map (λ kind. node (record b { last = l.next; kind = kind }) below nil) (leaf_with s l b.kind))
    (option_map (λ f. node (record b { last = l.next }) f nil) (container_with s l below (goes_on s below) b.kind))
    (mapped_there (λ kind. node (record b { last = l.next; kind = kind }) below nil) (leaf_with s l b.kind) (λ a. refl))
    (mapped_there (λ f. node (record b { last = l.next }) f nil) (container_with s l below (goes_on s below) b.kind)
    (λ a. refl))))
    (mapped_there (node b below) (goes_on s after l) (λ a. refl))

begun_there : (f : LineLeft → Forest Block) (l : SourceLine) (b : line.Beginning) → is_nil (new_blocks f l b) ≡ false
begun_there f l (line.begins_indented rest) = refl
begun_there f l (line.begins_quote rest) = refl
begun_there f l (line.begins_alert kind) = refl
begun_there f l (line.begins_heading found) = refl
begun_there f l (line.begins_fence opening) = refl
begun_there f l (line.begins_html kind) = refl
begun_there f l (line.begins_footnote label rest) = refl
begun_there f l line.begins_break = refl
begun_there f l (line.begins_metadata kind) = refl
begun_there f l (line.begins_item marker indent rest) = refl
begun_there f l line.begins_text = refl
begun_there f l (line.begins_underline level) = refl

line_there : (s : Source) (l : SourceLine) → is_nil (line_block s l) ≡ false
unfolding begun_in
line_there s l = decided (is_blank_rest l) refl
  where
    decided : (test : Bool) → is_blank_rest l ≡ test → is_nil (line_block s l) ≡ false
    decided true is = rw is refl
    decided false is =
        rw is
        (begun_there (inside_of (begun_in (length l.left.bytes) s) l) l (begins s paragraph.NoParagraph l))

both_there : (blocks new : Forest Block) → is_nil new ≡ false → is_nil (followed_by blocks new) ≡ false
both_there nil new there = there
both_there (node b below after) new there = refl

-- blocks with one more line are some
with_line_there : (s : Source) (blocks : Forest Block) (l : SourceLine) → is_nil (with_line s blocks l) ≡ false
with_line_there s blocks l =
    result_there (goes_on s blocks l) (followed_by blocks (line_block s l)) (grown_there s blocks l)
    (both_there blocks (line_block s l) (line_there s l))
  where
    result_there : (grown : Option (Forest Block)) (new : Forest Block) → IfThere grown → is_nil new ≡ false
        → is_nil (unwrap_or grown new) ≡ false
    result_there None new there other = other
    result_there (Some f) new there other = there

-- lines in an item that is not empty
pub indented_lines : (s : Source) (indent : ℕ) (marker : ListMarker) (list b : Block) (below : Forest Block)
    (lines rests : List SourceLine)
    → list.kind ≡ list_container marker → b.kind ≡ item_container indent → is_nil below ≡ false → AreIndented indent
    lines rests
    → with_lines s (lone list (lone b below)) lines
    ≡ lone (to_lines lines list) (lone (to_lines lines b) (with_lines s below rests))
indented_lines s indent marker list b below [] [] lists is there no_indented = refl
indented_lines s indent marker list b below _ _ lists is there (one_indented l rest lines rests indented more) =
    ap (λ (f : Forest Block). with_lines s f lines)
    (indented_line s list b marker indent below l rest lists is (and_right (is_blank_rest l) (is_nil below) there)
    indented)
    ∙ indented_lines s indent marker (to_line l list) (to_line l b) (with_line s below (rest_of l rest)) lines rests
    lists is (with_line_there s below (rest_of l rest)) more

holds_less : (s : Source) (l : SourceLine) (marker : ListMarker) (indent : ℕ) (rest : LineLeft)
    → begins s paragraph.NoParagraph l ≡ line.begins_item marker indent rest → length rest.bytes < length l.left.bytes
holds_less s l marker indent rest is = subst (HoldsLess (length l.left.bytes)) is (begins_less s
    paragraph.NoParagraph l)

-- the first line of an item
item_begins : (s : Source) (l : SourceLine) (marker : ListMarker) (indent : ℕ) (rest : LineLeft)
    → is_blank_rest l ≡ false → begins s paragraph.NoParagraph l ≡ line.begins_item marker indent rest → is_blank_rest
    (rest_of l rest) ≡ false
    → line_block s l ≡ one_item_list marker indent l [] (line_block s (rest_of l rest))
unfolding begun_in
item_begins s l marker indent rest line_full is full =
    let less = holds_less s l marker indent rest is in
    let same = begun_same (length l.left.bytes) (suc (length rest.bytes)) s (rest_of l rest) less (omega arith) in
    rw (line_full, is, full, same) refl

empty_item_begins : (s : Source) (l : SourceLine) (marker : ListMarker) (indent : ℕ) (rest : LineLeft)
    → is_blank_rest l ≡ false → begins s paragraph.NoParagraph l ≡ line.begins_item marker indent rest → is_blank_rest
    (rest_of l rest) ≡ true
    → line_block s l ≡ one_item_list marker indent l [] nil
unfolding begun_in
empty_item_begins s l marker indent rest line_full is blank = rw (line_full, is, blank) refl

pub item_of_lines : IndentedLinesMakeItem
unfolding goes_on
item_of_lines s l marker indent rest lines rests line_full is full more =
    ap (λ (f : Forest Block). with_lines s f lines) (item_begins s l marker indent rest line_full is full)
    ∙ indented_lines s indent marker (list_from marker l) (item_from indent l) (line_block s (rest_of l rest)) lines
    rests refl refl (line_there s (rest_of l rest)) more

pub item_after_blank : ItemMayBeginWithBlankLine
unfolding goes_on
item_after_blank s l _ marker indent rest _ _ line_full is blank full
    (one_indented m rest_of_m lines rests indented more) =
    ap (λ (f : Forest Block). with_lines s f (m ∷ lines)) (empty_item_begins s l marker indent rest line_full is blank)
    ∙ (ap (λ (f : Forest Block). with_lines s f lines)
    (indented_line s (list_from marker l) (item_from indent l) marker indent nil m rest_of_m refl refl
    (ap (λ test. test && true) full) indented)
    ∙ indented_lines s indent marker (to_line m (list_from marker l)) (to_line m (item_from indent l))
    (with_line s nil (rest_of m rest_of_m)) lines rests refl refl (with_line_there s nil (rest_of m rest_of_m)) more)
