-- Each line of a text leaves list items directly in lists and nowhere else, and nothing else but blank lines in lists.
use Rattle.std.proofs.Common.{◌≡◌, ℕ, zero, suc, Bool, true, false, not, ◌&&◌, ◌||◌, List, [], ◌∷◌, ◌++◌, ◌==◌, Option}
use Rattle.std.proofs.Common.{Some, None, IfSome, refl, ◌∙◌, fold, length, nat_le}
use Rattle.std.specs.Prelude.{⊤, if◌then◌else◌}
use Rattle.std.specs.Option.{option_map}
use Rattle.markdown_base.specs.Forest.{Forest, nil, node}
use Rattle.markdown_base.specs.Source.{Source}
use Rattle.markdown_base.specs.declared.tag.Alignment.{Alignment}
use Rattle.markdown_base.proofs.OptionLemmas.{if_or}
use Rattle.markdown_block_rules.proofs.BlockBeginningsLemmas.{either}
use Rattle.markdown_block_rules.proofs.GrowthLemmas.{chosen, mapped, unwrapped}
use Rattle.markdown_block_rules.specs.BlockGrowth as was
use Rattle.markdown_block_rules.specs.BlockGrowth.{Block, Kind, added_in, another_item, begins_but_underline, begun_by}
use Rattle.markdown_block_rules.specs.BlockGrowth.{begun_in, block_with, blocks_of, closes, container_with}
use Rattle.markdown_block_rules.specs.BlockGrowth.{cut_paragraph, goes_on, inside_of, is_nil, is_text, leaf_with}
use Rattle.markdown_block_rules.specs.BlockGrowth.{line_block, new_blocks, next_item, paragraph_with}
use Rattle.markdown_block_rules.specs.BlockGrowth.{paragraph_with_text, table_after, table_ended, table_of_lines}
use Rattle.markdown_block_rules.specs.BlockGrowth.{table_with, with_ended_table, with_lazy, with_lazy_text, with_line}
use Rattle.markdown_block_rules.specs.BlockGrowth.{with_next_line, with_rest, within_limit}
use Rattle.markdown_block_rules.specs.TableLines.{alignments_for, is_row, most_added, reads_tables}
use Rattle.markdown_builder.specs.TreeLevels.{followed_by}
use Rattle.markdown_lines.specs.BlockBeginnings as line
use Rattle.markdown_lines.specs.BlockBeginnings.{Beginning, begins}
use Rattle.markdown_lines.specs.DefinitionRules.{divided}
use Rattle.markdown_lines.specs.HtmlKinds.{ends_at_blank}
use Rattle.markdown_lines.specs.MetadataBlocks.{closes_metadata}
use Rattle.markdown_lines.specs.SourceLines.{SourceLine, is_blank_rest, lines_of_text, rest_inside, text_line}
use Rattle.markdown_lines.specs.declared.block_start.Before.TheVariants as paragraph
use Rattle.markdown_lines.specs.declared.list_marker.ListMarker.{ListMarker}
use Rattle.markdown_scan.specs.ContainerParts.{past_footnote, past_indent, past_quote}
use Rattle.markdown_scan.specs.Entity.{entity_names}
use Rattle.markdown_scan.specs.LineStart.{LineLeft, leading_space}

-- a block of this kind may stand directly in a list, or elsewhere: an item, or any other; a blank line may in both
abbrev pub fits : (in_list : Bool) → Kind → Bool
fits in_list was.blank_line = true
fits in_list (was.item_container indent) = in_list
fits in_list other = not in_list

-- blocks in a block of this kind are directly in a list
abbrev pub holds_items : Kind → Bool
holds_items (was.list_container marker) = true
holds_items other = false

-- that is so of these blocks, which stand directly in a list or do not, and of those in them
abbrev pub Fit : (in_list : Bool) → Forest Block → Type 0
Fit in_list nil = ⊤
Fit in_list (node b below after) =
    (fits in_list b.kind ≡ true) × Fit (holds_items b.kind) below × Fit in_list after

-- a kind may stand where another may, and hold what that may
abbrev Alike : (old new : Kind) → Type 0
Alike old new = (holds_items new ≡ holds_items old) × ((in_list : Bool) → fits in_list new ≡ fits in_list old)

joined : (in_list : Bool) (f g : Forest Block) → Fit in_list f → Fit in_list g → Fit in_list (followed_by f g)
joined in_list nil g first second = second
joined in_list (node b below after) g first second = (first.0, first.1, joined in_list after g first.2 second)

-- what a line begins
new_fit : (inside : LineLeft → Forest Block) (l : SourceLine) → ((rest : LineLeft) → Fit false (inside rest))
    → (b : Beginning) → Fit false (new_blocks inside l b)
new_fit inside l fit (line.begins_quote rest) = (refl, fit rest, tt)
new_fit inside l fit (line.begins_alert kind) = (refl, (refl, tt, tt), tt)
new_fit inside l fit (line.begins_footnote label rest) = (refl, fit rest, tt)
new_fit inside l fit (line.begins_item marker indent rest) = (refl, (refl, fit rest, tt), tt)
new_fit inside l fit other = (refl, tt, tt)

inside_fit : (f : SourceLine → Forest Block) (l : SourceLine) → ((m : SourceLine) → Fit false (f m))
    → (rest : LineLeft) → Fit false (inside_of f l rest)
inside_fit f l fit rest =
    either (Fit false) (is_blank_rest (rest_inside rest l)) nil (f (rest_inside rest l)) tt (fit (rest_inside rest l))

begun_fit : (n : ℕ) (s : Source) (l : SourceLine) → Fit false (begun_in n s l)
unfolding begun_in
begun_fit zero s l = tt
begun_fit (suc n) s l =
    new_fit (inside_of (begun_in n s) l) l (inside_fit (begun_in n s) l (begun_fit n s))
    (begins s paragraph.NoParagraph l)

line_fit : (s : Source) (l : SourceLine) → Fit false (line_block s l)
line_fit s l =
    either (Fit false) (is_blank_rest l) (was.new_block l.left.scanned l was.blank_line nil) (begun_by s l)
    (refl, tt, tt) (begun_fit (suc (length l.left.bytes)) s l)

-- a leaf with one more line is a leaf
text_alike : (s : Source) (l : SourceLine) (lines : List SourceLine) (b : Beginning)
    → IfSome (paragraph_with_text s l lines b) (Alike (was.paragraph_leaf lines))
text_alike s l lines line.begins_text = (refl, λ in_list. refl)
text_alike s l lines other = tt

paragraph_alike : (s : Source) (l : SourceLine) (lines : List SourceLine) (b : Beginning)
    → IfSome (paragraph_with s l lines b) (Alike (was.paragraph_leaf lines))
paragraph_alike s l lines (line.begins_underline level) =
    chosen (Alike (was.paragraph_leaf lines)) (length (divided (entity_names s.syntax) s.text lines).lines == 0) _ _
    (text_alike s l lines (begins_but_underline s l)) (refl, λ in_list. refl)
paragraph_alike s l lines other = text_alike s l lines other

leaf_alike : (s : Source) (l : SourceLine) (kind : Kind) → IfSome (leaf_with s l kind) (Alike kind)
leaf_alike s l (was.paragraph_leaf lines) =
    chosen (Alike (was.paragraph_leaf lines)) (is_blank_rest l) _ _ tt
    (paragraph_alike s l lines (begins s paragraph.Reached l))
leaf_alike s l (was.indented_leaf lines) =
    chosen (Alike (was.indented_leaf lines)) (is_blank_rest l || ((leading_space 4 l.left).columns == 4)) _ _
    (refl, λ in_list. refl) tt
leaf_alike s l (was.fenced_leaf opening true lines) = tt
leaf_alike s l (was.fenced_leaf opening false lines) =
    chosen (Alike (was.fenced_leaf opening false lines)) (closes s l opening.fence) _ _
    (refl, λ in_list. refl) (refl, λ in_list. refl)
leaf_alike s l (was.html_leaf kind closed lines) =
    chosen (Alike (was.html_leaf kind closed lines)) (closed || (is_blank_rest l && ends_at_blank kind)) _ _ tt
    (refl, λ in_list. refl)
leaf_alike s l (was.metadata_leaf kind true lines) = tt
leaf_alike s l (was.metadata_leaf kind false lines) =
    chosen (Alike (was.metadata_leaf kind false lines)) (closes_metadata kind l.left.bytes) _ _
    (refl, λ in_list. refl) (refl, λ in_list. refl)
leaf_alike s l (was.table_leaf ended head alignments rows) =
    chosen (Alike (was.table_leaf ended head alignments rows))
    (ended || is_blank_rest l || not (is_row s (text_line l))) _ _ tt
    (refl, λ in_list. refl)
leaf_alike s l other = tt

-- a paragraph that a line makes end with a table
after_fit : (l : SourceLine) (before : Forest Block) (head : SourceLine) (found : Option (List Alignment))
    → Fit false before → IfSome (table_after l before head found) (Fit false)
after_fit l before head None fit = tt
after_fit l before head (Some alignments) fit = joined false before _ fit (refl, tt, tt)

cut_fit : (b : Block) (end : ℕ) (lines : List SourceLine) → Fit false (cut_paragraph b end lines)
cut_fit b end [] = tt
cut_fit b end (l ∷ lines) = (refl, tt, tt)

lines_fit : (s : Source) (l : SourceLine) (b : Block) (end : ℕ) (before lines : List SourceLine)
    → IfSome (table_of_lines s l b end before lines) (Fit false)
lines_fit s l b end before [] = tt
lines_fit s l b end before (head ∷ []) =
    after_fit l (cut_paragraph b end before) head (alignments_for s l before head) (cut_fit b end before)
lines_fit s l b end before (first ∷ next ∷ lines) =
    lines_fit s l b first.next (before ++ first ∷ []) (next ∷ lines)

table_fit : (s : Source) (l : SourceLine) (b : Block) (in_list : Bool) (kind : Kind) → fits in_list kind ≡ true
    → IfSome (table_with s l b kind) (Fit in_list)
table_fit s l b true (was.paragraph_leaf lines) is = absurd (cc is)
table_fit s l b false (was.paragraph_leaf lines) is =
    chosen (Fit false) (is_blank_rest l || not (reads_tables s)) _ _ tt (lines_fit s l b b.first [] lines)
table_fit s l b in_list other is = tt

-- a paragraph at the end that goes on lazily
lazy_text_fit : (l : SourceLine) (b : Block) (below : Forest Block) (in_list : Bool) (kind : Kind)
    → fits in_list kind ≡ true → Fit (holds_items kind) below → IfSome (with_lazy_text l b below kind) (Fit in_list)
lazy_text_fit l b below in_list (was.paragraph_leaf lines) is fit = (is, fit, tt)
lazy_text_fit l b below in_list other is fit = tt

lazy_fit : (l : SourceLine) (in_list : Bool) (blocks : Forest Block) → Fit in_list blocks
    → IfSome (with_lazy l blocks) (Fit in_list)
unfolding with_lazy
lazy_fit l in_list nil fit = tt
lazy_fit l in_list (node b below nil) fit =
    if_or (Fit in_list) (with_lazy_text l b below b.kind) _ (lazy_text_fit l b below in_list b.kind fit.0 fit.1)
    (mapped (Fit (holds_items b.kind)) (Fit in_list) _ (λ f inner. (fit.0, inner, tt)) (with_lazy l below)
    (lazy_fit l (holds_items b.kind) below fit.1))
lazy_fit l in_list (node b below (node c others after)) fit =
    mapped (Fit in_list) (Fit in_list) _ (λ f later. (fit.0, fit.1, later)) (with_lazy l (node c others after))
    (lazy_fit l in_list (node c others after) fit.2)

-- another item of a list, or a blank line in it
item_fit : (s : Source) (l : SourceLine) (marker : ListMarker) (b : Beginning)
    → IfSome (another_item s l marker b) (Fit true)
item_fit s l marker (line.begins_item found indent rest) =
    chosen (Fit true) (found.character == marker.character) _ _
    (refl, inside_fit (begun_by s) l (λ m. begun_fit (suc (length m.left.bytes)) s m) rest, tt) tt
item_fit s l marker other = tt

next_fit : (s : Source) (l : SourceLine) (marker : ListMarker) → IfSome (next_item s l marker) (Fit true)
next_fit s l marker = decided (is_blank_rest l)
  where
    decided : (blank : Bool)
        → IfSome (if blank
        then Some (if blank then was.new_block l.left.scanned l was.blank_line nil else begun_by s l)
        else another_item s l marker (begins s paragraph.Lazy l)) (Fit true)
    decided true = (refl, tt, tt)
    decided false = item_fit s l marker (begins s paragraph.Lazy l)

-- one block, from what a line makes of what is in it
module _ (s : Source) (l : SourceLine) (below : Forest Block) (inner : SourceLine → Option (Forest Block)) where
  rest_fit : (rest : Option LineLeft) → Fit false below → ((m : SourceLine) → IfSome (inner m) (Fit false))
      → IfSome (with_rest s l below inner rest) (Fit false)
  rest_fit None fit goes =
      chosen (Fit false) (not (is_blank_rest l) && is_text (begins s paragraph.Lazy l)) _ _
      (lazy_fit l false below fit) tt
  rest_fit (Some rest) fit goes =
      unwrapped (Fit false) (inner (rest_inside rest l)) _ (goes (rest_inside rest l))
      (joined false below _ fit (line_fit s (rest_inside rest l)))

  container_fit : (kind : Kind) → Fit (holds_items kind) below
      → ((m : SourceLine) → IfSome (inner m) (Fit (holds_items kind)))
      → IfSome (container_with s l below inner kind) (Fit (holds_items kind))
  container_fit was.quote_container fit goes = rest_fit (past_quote l.left) fit goes
  container_fit (was.alert_container kind) fit goes = rest_fit (past_quote l.left) fit goes
  container_fit (was.list_container marker) fit goes =
      if_or (Fit true) (inner l) _ (goes l)
      (mapped (Fit true) (Fit true) _ (λ new fresh. joined true below new fit fresh) (next_item s l marker)
      (next_fit s l marker))
  container_fit (was.item_container indent) fit goes =
      chosen (Fit false) (is_blank_rest l && is_nil below) _ _ tt (rest_fit (past_indent indent l.left) fit goes)
  container_fit (was.footnote_container label) fit goes =
      chosen (Fit false) (is_blank_rest l && s.syntax.old_footnotes) _ _ tt
      (rest_fit (past_footnote (not s.syntax.old_footnotes) l.left) fit goes)
  container_fit other fit goes = tt

  block_fit : (b : Block) (in_list : Bool) → fits in_list b.kind ≡ true → Fit (holds_items b.kind) below
      → ((m : SourceLine) → IfSome (inner m) (Fit (holds_items b.kind)))
      → IfSome (block_with s l b below inner) (Fit in_list)
  block_fit b in_list is fit goes =
      if_or (Fit in_list) (table_with s l b b.kind) _ (table_fit s l b in_list b.kind is)
      (if_or (Fit in_list) (option_map _ (leaf_with s l b.kind)) _
      (mapped (Alike b.kind) (Fit in_list) _ (λ kind a. (a.1 in_list ∙ is, rw a.0 fit, tt)) (leaf_with s l b.kind)
      (leaf_alike s l b.kind))
      (mapped (Fit (holds_items b.kind)) (Fit in_list) _ (λ f grown. (is, grown, tt))
      (container_with s l below inner b.kind)
      (container_fit b.kind fit goes)))

goes_fit : (s : Source) (in_list : Bool) (blocks : Forest Block) → Fit in_list blocks → (l : SourceLine)
    → IfSome (goes_on s blocks l) (Fit in_list)
unfolding goes_on
goes_fit s in_list nil fit l = tt
goes_fit s in_list (node b below nil) fit l =
    block_fit s l below (goes_on s below) b in_list fit.0 fit.1 (goes_fit s (holds_items b.kind) below fit.1)
goes_fit s in_list (node b below (node c others after)) fit l =
    mapped (Fit in_list) (Fit in_list) _ (λ f grown. (fit.0, fit.1, grown)) (goes_on s (node c others after) l)
    (goes_fit s in_list (node c others after) fit.2 l)

-- one more line of a text
grown_fit : (s : Source) (blocks : Forest Block) (l : SourceLine) → Fit false blocks → Fit false (with_line s blocks l)
grown_fit s blocks l fit =
    unwrapped (Fit false) (goes_on s blocks l) _ (goes_fit s false blocks fit l)
    (joined false blocks _ fit (line_fit s l))

ended_alike : (kind : Kind) → Alike kind (table_ended kind)
ended_alike (was.table_leaf ended head alignments rows) = (refl, λ in_list. refl)
ended_alike other = (refl, λ in_list. refl)

ended_fit : (in_list : Bool) (blocks : Forest Block) → Fit in_list blocks → Fit in_list (with_ended_table blocks)
ended_fit in_list nil fit = tt
ended_fit in_list (node b below nil) fit =
    let a = ended_alike b.kind in
    (a.1 in_list ∙ fit.0, rw a.0 (ended_fit (holds_items b.kind) below fit.1), tt)
ended_fit in_list (node b below (node c others after)) fit =
    (fit.0, fit.1, ended_fit in_list (node c others after) fit.2)

next_line_fit : (s : Source) (blocks : Forest Block) (l : SourceLine) → Fit false blocks
    → Fit false (with_next_line s blocks l)
next_line_fit s blocks l fit =
    let grown = grown_fit s blocks l fit in
    either (Fit false) (reads_tables s) (within_limit s l blocks (with_line s blocks l)) (with_line s blocks l)
    (either (Fit false) (nat_le (added_in (with_line s blocks l)) (most_added s.text)) (with_line s blocks l)
    (with_line s (with_ended_table blocks) l) grown
    (grown_fit s (with_ended_table blocks) l (ended_fit false blocks fit))) grown

all_fit : (s : Source) (lines : List SourceLine) (blocks : Forest Block) → Fit false blocks
    → Fit false (fold (with_next_line s) blocks lines)
all_fit s [] blocks fit = fit
all_fit s (l ∷ lines) blocks fit = all_fit s lines (with_next_line s blocks l) (next_line_fit s blocks l fit)

pub text_fit : (s : Source) → Fit false (blocks_of s)
text_fit s = all_fit s (lines_of_text s.text) nil tt
