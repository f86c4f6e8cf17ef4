-- What one more line makes of blocks: the last block, at any depth, goes on in it, and then only its own kind changes,
-- or it makes a table of a paragraph's end; or blocks begin after it.
use Rattle.std.proofs.Common.{◌≡◌, ℕ, zero, suc, Bool, true, false, not, ◌||◌, ◌&&◌, ◌==◌, List, [], ◌∷◌, ◌++◌, Option}
use Rattle.std.proofs.Common.{Some, None, IfSome, length, refl, sym, ap, ◌∙◌, subst, append_assoc}
use Rattle.std.proofs.lemmas.Bool.{true≢false}
use Rattle.std.specs.Prelude.{⊤, unwrap_or, if◌then◌else◌}
use Rattle.std.specs.List.{AllByRecursion}
use Rattle.std.specs.Option.{option_map, option_or}
use Rattle.markdown_base.specs.Forest.{Forest, nil, node}
use Rattle.markdown_base.specs.declared.tag.Alignment.{Alignment}
use Rattle.markdown_base.specs.declared.tag.HeadingLevel.{HeadingLevel}
use Rattle.markdown_base.specs.declared.tag.MetadataBlockKind.{MetadataBlockKind}
use Rattle.markdown_lines.specs.declared.block_start.Before.TheVariants as paragraph
use Rattle.markdown_lines.specs.declared.fence.OpeningFence.{OpeningFence}
use Rattle.markdown_lines.specs.declared.html_kind.HtmlKind.{HtmlKind}
use Rattle.markdown_lines.specs.declared.list_marker.ListMarker.{ListMarker}
use Rattle.markdown_lines.specs.BlockBeginnings as line
use Rattle.markdown_base.specs.Source.{Source}
use Rattle.markdown_base.proofs.OptionLemmas.{if_or}
use Rattle.markdown_lines.specs.BlockBeginnings.{Beginning, begins}
use Rattle.markdown_lines.specs.DefinitionRules.{divided}
use Rattle.markdown_lines.specs.HtmlKinds.{ends_at_blank}
use Rattle.markdown_lines.specs.MetadataBlocks.{closes_metadata}
use Rattle.markdown_lines.specs.SourceLines.{SourceLine, cut, is_blank_rest, rest_inside, text_line}
use Rattle.markdown_scan.specs.ContainerParts.{past_footnote, past_indent, past_quote}
use Rattle.markdown_scan.specs.Entity.{entity_names}
use Rattle.markdown_scan.specs.LineStart.{LineLeft, leading_space}
use Rattle.markdown_block_rules.specs.BlockGrowth as was
use Rattle.markdown_block_rules.specs.BlockGrowth.{Block, Kind, another_item, begun_by, begun_in, block_with, closes}
use Rattle.markdown_block_rules.specs.BlockGrowth.{container_with, cut_paragraph, ends_html, goes_on, inside_of, is_nil}
use Rattle.markdown_block_rules.specs.BlockGrowth.{is_text, leaf_with, line_block, new_blocks, next_item}
use Rattle.markdown_block_rules.specs.BlockGrowth.{begins_but_underline, paragraph_with, paragraph_with_text}
use Rattle.markdown_block_rules.specs.BlockGrowth.{table_after, table_of_lines, table_with, with_lazy, with_lazy_text}
use Rattle.markdown_block_rules.specs.BlockGrowth.{with_line, with_rest}
use Rattle.markdown_block_rules.specs.TableLines.{alignments_for, fitting, further_line, is_row, may_be_head}
use Rattle.markdown_block_rules.specs.TableLines.{reads_tables}
use Rattle.markdown_block_rules.proofs.BlockBeginningsLemmas.{either}
use Rattle.markdown_block_rules.proofs.OpeningLemmas.{Opens, begins_inside}
use Rattle.markdown_builder.specs.TreeLevels.{followed_by}

-- a fact of the kind of each block, and of whether the block is directly under the root
abbrev pub Held : (Bool → Kind → Type 0) → Bool → Forest Block → Type 0
Held p top nil = ⊤
Held p top (node b below after) = p top b.kind × Held p false below × Held p top after

-- the kind of a block that a line begins after which the next line begins at `next`
abbrev pub Fresh : (next : ℕ) → Bool → Kind → Type 0
Fresh next top (was.paragraph_leaf lines) = AllByRecursion (λ (l : SourceLine). l.next ≡ next) lines
Fresh next top (was.underlined_leaf level lines) = ⊥
Fresh next top (was.metadata_leaf kind closed lines) = (top ≡ true) × (lines ≡ [])
Fresh next top (was.table_leaf ended head alignments rows) = ⊥
Fresh next top other = ⊤

-- what a line makes of the kind of a block that goes on in it
pub data KindGrows (l : SourceLine) (top : Bool) : Kind → Kind → Type 0 where
  text_more : (lines : List SourceLine) (m : SourceLine) → m.next ≡ l.next
      → KindGrows l top (was.paragraph_leaf lines) (was.paragraph_leaf (lines ++ m ∷ []))
  underlined : (level : HeadingLevel) (lines : List SourceLine)
      → KindGrows l top (was.paragraph_leaf lines) (was.underlined_leaf level lines)
  indented_more : (lines more : List SourceLine) → KindGrows l top (was.indented_leaf lines) (was.indented_leaf more)
  fenced_more : (opening : OpeningFence) (closed after : Bool) (lines more : List SourceLine)
      → KindGrows l top (was.fenced_leaf opening closed lines) (was.fenced_leaf opening after more)
  html_more : (html : HtmlKind) (closed after : Bool) (lines more : List SourceLine)
      → KindGrows l top (was.html_leaf html closed lines) (was.html_leaf html after more)
  metadata_more : (kind : MetadataBlockKind) (closed : Bool) (lines : List SourceLine) (m : SourceLine)
      → (top ≡ true → m ≡ l)
      → KindGrows l top (was.metadata_leaf kind closed lines) (was.metadata_leaf kind false (lines ++ m ∷ []))
  metadata_closed : (kind : MetadataBlockKind) (closed : Bool) (lines : List SourceLine)
      → KindGrows l top (was.metadata_leaf kind closed lines) (was.metadata_leaf kind true lines)
  row_more : (head : SourceLine) (alignments : List Alignment) (rows : List SourceLine) (row : SourceLine)
      → KindGrows l top (was.table_leaf false head alignments rows)
      (was.table_leaf false head alignments (rows ++ row ∷ []))

-- what a line makes of blocks
pub data Grown (s : Source) (l : SourceLine) : Bool → Forest Block → Forest Block → Type 0 where
  all_begun : (top : Bool) (new : Forest Block) → Held (Fresh l.next) top new → Grown s l top nil new
  later_grown : (top : Bool) (b : Block) (below after grown : Forest Block) → Grown s l top after grown
      → Grown s l top (node b below after) (node b below grown)
  inside_grown : (top : Bool) (b c : Block) (below grown : Forest Block) → c.kind ≡ b.kind → Grown s l false below grown
      → Grown s l top (node b below nil) (node c grown nil)
  leaf_grown : (top : Bool) (b c : Block) (below : Forest Block) (kind : Kind) → b.kind ≡ kind
      → KindGrows l top kind c.kind
      → Grown s l top (node b below nil) (node c below nil)
  table_made : (top : Bool) (b c : Block) (below : Forest Block) (head row : SourceLine) (alignments : List Alignment)
      → reads_tables s ≡ true → b.kind ≡ was.paragraph_leaf (head ∷ []) → fitting s head row ≡ Some alignments
      → c.kind ≡ was.table_leaf false head alignments []
      → Grown s l top (node b below nil) (node c nil nil)
  table_made_behind : (top : Bool) (b c d : Block) (below : Forest Block) (before : List SourceLine)
      (head row : SourceLine) (alignments : List Alignment)
      → reads_tables s ≡ true → b.kind ≡ was.paragraph_leaf (before ++ head ∷ [])
      → fitting s head row ≡ Some alignments → d.kind ≡ was.paragraph_leaf before
      → c.kind ≡ was.table_leaf false head alignments []
      → Grown s l top (node b below nil) (node d nil (node c nil nil))

pub mapped : {A B : Type 0} (p : A → Type 0) (q : B → Type 0) (f : A → B) → ((a : A) → p a → q (f a)) → (o : Option A)
    → IfSome o p → IfSome (option_map f o) q
mapped p q f h None there = tt
mapped p q f h (Some a) there = h a there

pub unwrapped : {A : Type 0} (p : A → Type 0) (o : Option A) (d : A) → IfSome o p → p d → p (unwrap_or o d)
unwrapped p None d there other = other
unwrapped p (Some a) d there other = there

pub chosen : {A : Type 0} (p : A → Type 0) (test : Bool) (a b : Option A) → IfSome a p → IfSome b p
    → IfSome (if test then a else b) p
chosen p true a b first second = first
chosen p false a b first second = second

known : {A : Type 0} (o : Option A) → IfSome o (λ a. o ≡ Some a)
known None = tt
known (Some a) = refl

-- the blocks that a line begins
new_fresh : (inside : LineLeft → Forest Block) (l : SourceLine) (top : Bool)
    → ((rest : LineLeft) → Held (Fresh l.next) false (inside rest)) → (b : Beginning) → (Opens b → top ≡ true)
    → Held (Fresh l.next) top (new_blocks inside l b)
new_fresh inside l top fresh line.begins_text opens = ((refl, tt), tt, tt)
new_fresh inside l top fresh (line.begins_indented rest) opens = (tt, tt, tt)
new_fresh inside l top fresh (line.begins_quote rest) opens = (tt, fresh rest, tt)
new_fresh inside l top fresh (line.begins_alert kind) opens = (tt, ((refl, tt), tt, tt), tt)
new_fresh inside l top fresh (line.begins_heading found) opens = (tt, tt, tt)
new_fresh inside l top fresh (line.begins_fence opening) opens = (tt, tt, tt)
new_fresh inside l top fresh (line.begins_html kind) opens = (tt, tt, tt)
new_fresh inside l top fresh (line.begins_footnote label rest) opens = (tt, fresh rest, tt)
new_fresh inside l top fresh (line.begins_underline level) opens = ((refl, tt), tt, tt)
new_fresh inside l top fresh line.begins_break opens = (tt, tt, tt)
new_fresh inside l top fresh (line.begins_item marker indent rest) opens = (tt, (tt, fresh rest, tt), tt)
new_fresh inside l top fresh (line.begins_metadata kind) opens = ((opens tt, refl), tt, tt)

inside_fresh : (f : SourceLine → Forest Block) (l : SourceLine)
    → ((m : SourceLine) → m.outermost ≡ false → Held (Fresh m.next) false (f m)) → (rest : LineLeft)
    → Held (Fresh l.next) false (inside_of f l rest)
inside_fresh f l fresh rest =
    either (Held (Fresh l.next) false) (is_blank_rest (rest_inside rest l)) nil (f (rest_inside rest l)) tt
    (fresh (rest_inside rest l) refl)

begun_inside : (n : ℕ) (s : Source) (l : SourceLine) → l.outermost ≡ false
    → Held (Fresh l.next) false (begun_in n s l)
unfolding begun_in
begun_inside zero s l inner = tt
begun_inside (suc n) s l inner =
    new_fresh (inside_of (begun_in n s) l) l false
    (inside_fresh (begun_in n s) l (λ m is. begun_inside n s m is)) (begins s paragraph.NoParagraph l)
    (λ opens. absurd (begins_inside s paragraph.NoParagraph l inner opens))

by_inside : (s : Source) (l : SourceLine) → l.outermost ≡ false → Held (Fresh l.next) false (begun_by s l)
by_inside s l inner = begun_inside (suc (length l.left.bytes)) s l inner

begun_outermost : (n : ℕ) (s : Source) (l : SourceLine) → Held (Fresh l.next) true (begun_in n s l)
unfolding begun_in
begun_outermost zero s l = tt
begun_outermost (suc n) s l =
    new_fresh (inside_of (begun_in n s) l) l true
    (inside_fresh (begun_in n s) l (λ m is. begun_inside n s m is)) (begins s paragraph.NoParagraph l) (λ opens. refl)

block_inside : (s : Source) (l : SourceLine) → l.outermost ≡ false → Held (Fresh l.next) false (line_block s l)
block_inside s l inner =
    either (Held (Fresh l.next) false) (is_blank_rest l) (was.new_block l.left.scanned l was.blank_line nil)
    (begun_by s l) (tt, tt, tt) (by_inside s l inner)

pub block_outermost : (s : Source) (l : SourceLine) → Held (Fresh l.next) true (line_block s l)
block_outermost s l =
    either (Held (Fresh l.next) true) (is_blank_rest l) (was.new_block l.left.scanned l was.blank_line nil)
    (begun_by s l) (tt, tt, tt) (begun_outermost (suc (length l.left.bytes)) s l)

-- what begins after blocks
begun_after : (s : Source) (l : SourceLine) (top : Bool) (blocks new : Forest Block) → Held (Fresh l.next) top new
    → Grown s l top blocks (followed_by blocks new)
begun_after s l top nil new fresh = all_begun top new fresh
begun_after s l top (node b below after) new fresh =
    later_grown top b below after (followed_by after new) (begun_after s l top after new fresh)

-- what a line that has the rest of another makes
moved : (l m : SourceLine) (new : Forest Block) → m.next ≡ l.next → Held (Fresh m.next) false new
    → Held (Fresh l.next) false new
moved l m new next fresh = subst (λ (n : ℕ). Held (Fresh n) false new) next fresh

-- what a leaf becomes
further_grows : (s : Source) (l m : SourceLine) (top : Bool) (lines : List SourceLine) → m.next ≡ l.next
    → (b : Beginning) → IfSome (paragraph_with_text s m lines b) (KindGrows l top (was.paragraph_leaf lines))
further_grows s l m top lines next line.begins_text =
    text_more lines (further_line s m) (further_next (reads_tables s))
  where
    further_next : (test : Bool)
        → (if test then record (text_line m) { indent = Some (leading_space 4 m.left).columns } else text_line m).next
        ≡ l.next
    further_next true = next
    further_next false = next
further_grows s l m top lines next other = tt

text_grows : (s : Source) (l m : SourceLine) (top : Bool) (lines : List SourceLine) → m.next ≡ l.next → (b : Beginning)
    → IfSome (paragraph_with s m lines b) (KindGrows l top (was.paragraph_leaf lines))
text_grows s l m top lines next (line.begins_underline level) =
    let rest = (divided (entity_names s.syntax) s.text lines).lines in
    chosen (KindGrows l top (was.paragraph_leaf lines)) (length rest == 0)
    (paragraph_with_text s m lines (begins_but_underline s m)) (Some (was.underlined_leaf level lines))
    (further_grows s l m top lines next (begins_but_underline s m)) (underlined level lines)
text_grows s l m top lines next other = further_grows s l m top lines next other

leaf_grows : (s : Source) (l m : SourceLine) (top : Bool) → m.next ≡ l.next → (top ≡ true → m ≡ l) → (kind : Kind)
    → IfSome (leaf_with s m kind) (KindGrows l top kind)
leaf_grows s l m top next same (was.paragraph_leaf lines) =
    chosen (KindGrows l top (was.paragraph_leaf lines)) (is_blank_rest m) None
    (paragraph_with s m lines (begins s paragraph.Reached m)) tt
    (text_grows s l m top lines next (begins s paragraph.Reached m))
leaf_grows s l m top next same (was.indented_leaf lines) =
    chosen (KindGrows l top (was.indented_leaf lines)) (is_blank_rest m || ((leading_space 4 m.left).columns == 4))
    (Some (was.indented_leaf (lines ++ cut 4 m ∷ []))) None (indented_more lines (lines ++ cut 4 m ∷ [])) tt
leaf_grows s l m top next same (was.fenced_leaf opening closed lines) =
    let more = lines ++ cut opening.fence.indent m ∷ [] in
    let grows = KindGrows l top (was.fenced_leaf opening closed lines) in
    chosen grows closed None
    (if closes s m opening.fence then Some (was.fenced_leaf opening true lines)
    else Some (was.fenced_leaf opening false more)) tt
    (chosen grows (closes s m opening.fence) (Some (was.fenced_leaf opening true lines))
    (Some (was.fenced_leaf opening false more)) (fenced_more opening closed true lines lines)
    (fenced_more opening closed false lines more))
leaf_grows s l m top next same (was.html_leaf html closed lines) =
    chosen (KindGrows l top (was.html_leaf html closed lines)) (closed || (is_blank_rest m && ends_at_blank html)) None
    (Some (was.html_leaf html (ends_html html m) (lines ++ m ∷ []))) tt
    (html_more html closed (ends_html html m) lines (lines ++ m ∷ []))
leaf_grows s l m top next same (was.metadata_leaf kind closed lines) =
    let grows = KindGrows l top (was.metadata_leaf kind closed lines) in
    let more = lines ++ m ∷ [] in
    chosen grows closed None
    (if closes_metadata kind m.left.bytes then Some (was.metadata_leaf kind true lines)
    else Some (was.metadata_leaf kind false more)) tt
    (chosen grows (closes_metadata kind m.left.bytes) (Some (was.metadata_leaf kind true lines))
    (Some (was.metadata_leaf kind false more)) (metadata_closed kind closed lines)
    (metadata_more kind closed lines m same))
leaf_grows s l m top next same (was.table_leaf true head alignments rows) = tt
leaf_grows s l m top next same (was.table_leaf false head alignments rows) =
    chosen (KindGrows l top (was.table_leaf false head alignments rows))
    (is_blank_rest m || not (is_row s (text_line m))) None
    (Some (was.table_leaf false head alignments (rows ++ text_line m ∷ []))) tt
    (row_more head alignments rows (text_line m))
leaf_grows s l m top next same other = tt

-- a paragraph of which the last line is the head of a table
after_grows : (s : Source) (l m : SourceLine) (top : Bool) (b : Block) (below : Forest Block) (end : ℕ)
    (before : List SourceLine) (head row : SourceLine) → reads_tables s ≡ true
    → b.kind ≡ was.paragraph_leaf (before ++ head ∷ []) → (found : Option (List Alignment))
    → IfSome found (λ alignments. fitting s head row ≡ Some alignments)
    → IfSome (table_after m (cut_paragraph b end before) head found) (Grown s l top (node b below nil))
after_grows s l m top b below end before head row reads is None fits = tt
after_grows s l m top b below end [] head row reads is (Some alignments) fits =
    table_made top b (record {
      start = head.left.scanned;
      first = head.next;
      last = m.next;
      kind = was.table_leaf false head alignments [];
    }) below head row alignments reads is fits refl
after_grows s l m top b below end (first ∷ before) head row reads is (Some alignments) fits =
    table_made_behind top b (record {
      start = head.left.scanned;
      first = head.next;
      last = m.next;
      kind = was.table_leaf false head alignments [];
    }) (record b { last = end; kind = was.paragraph_leaf (first ∷ before) }) below (first ∷ before) head row alignments
    reads is fits refl refl

lines_grow : (s : Source) (l m : SourceLine) (top : Bool) (b : Block) (below : Forest Block) (end : ℕ)
    (before lines : List SourceLine) → reads_tables s ≡ true → b.kind ≡ was.paragraph_leaf (before ++ lines)
    → IfSome (table_of_lines s m b end before lines) (Grown s l top (node b below nil))
lines_grow s l m top b below end before [] reads is = tt
lines_grow s l m top b below end before (head ∷ []) reads is =
    after_grows s l m top b below end before head (further_line s m) reads is (alignments_for s m before head)
    (chosen (λ alignments. fitting s head (further_line s m) ≡ Some alignments) (may_be_head s before head)
    (fitting s head (further_line s m)) None (known (fitting s head (further_line s m))) tt)
lines_grow s l m top b below end before (first ∷ next ∷ lines) reads is =
    lines_grow s l m top b below first.next (before ++ first ∷ []) (next ∷ lines) reads
    (is ∙ ap was.paragraph_leaf (sym (append_assoc before (first ∷ []) (next ∷ lines))))

table_grows : (s : Source) (l m : SourceLine) (top : Bool) (b : Block) (below : Forest Block) (kind : Kind)
    → b.kind ≡ kind → IfSome (table_with s m b kind) (Grown s l top (node b below nil))
table_grows s l m top b below (was.paragraph_leaf lines) is = decided (is_blank_rest m) (reads_tables s) refl
  where
    decided : (blank reads : Bool) → reads_tables s ≡ reads
        → IfSome (if blank || not reads then None else table_of_lines s m b b.first [] lines)
        (Grown s l top (node b below nil))
    decided true reads same = tt
    decided false false same = tt
    decided false true same = lines_grow s l m top b below b.first [] lines same is
table_grows s l m top b below other is = tt

-- a paragraph at the end that goes on lazily
lazy_text_grows : (s : Source) (l m : SourceLine) (top : Bool) (b : Block) (below : Forest Block) → m.next ≡ l.next
    → (kind : Kind) → b.kind ≡ kind → IfSome (with_lazy_text m b below kind) (Grown s l top (node b below nil))
lazy_text_grows s l m top b below next (was.paragraph_leaf lines) is =
    leaf_grown top b (record b { last = m.next; kind = was.paragraph_leaf (lines ++ text_line m ∷ []) }) below
    (was.paragraph_leaf lines) is (text_more lines (text_line m) next)
lazy_text_grows s l m top b below next other is = tt

lazy_grows : (s : Source) (l m : SourceLine) (top : Bool) → m.next ≡ l.next → (blocks : Forest Block)
    → IfSome (with_lazy m blocks) (Grown s l top blocks)
unfolding with_lazy
lazy_grows s l m top next nil = tt
lazy_grows s l m top next (node b below nil) =
    if_or (Grown s l top (node b below nil)) (with_lazy_text m b below b.kind)
    (option_map (λ f. node (record b { last = m.next }) f nil) (with_lazy m below))
    (lazy_text_grows s l m top b below next b.kind refl)
    (mapped (Grown s l false below) (Grown s l top (node b below nil)) (λ f. node (record b { last = m.next }) f nil)
    (λ f grown. inside_grown top b (record b { last = m.next }) below f refl grown) (with_lazy m below)
    (lazy_grows s l m false next below))
lazy_grows s l m top next (node b below (node c others after)) =
    mapped (Grown s l top (node c others after)) (Grown s l top (node b below (node c others after))) (node b below)
    (λ f grown. later_grown top b below (node c others after) f grown) (with_lazy m (node c others after))
    (lazy_grows s l m top next (node c others after))

-- another item of a list, or a blank line in it
item_fresh : (s : Source) (m : SourceLine) (marker : ListMarker) (b : Beginning)
    → IfSome (another_item s m marker b) (Held (Fresh m.next) false)
item_fresh s m marker (line.begins_item found indent rest) =
    chosen (Held (Fresh m.next) false) (found.character == marker.character)
    (Some (was.new_item (inside_of (begun_by s) m) m indent rest)) None
    (tt, inside_fresh (begun_by s) m (λ l inner. by_inside s l inner) rest, tt) tt
item_fresh s m marker other = tt

pub next_fresh : (s : Source) (m : SourceLine) (marker : ListMarker)
    → IfSome (next_item s m marker) (Held (Fresh m.next) false)
next_fresh s m marker = decided (is_blank_rest m)
  where
    decided : (blank : Bool)
        → IfSome (if blank
        then Some (if blank then was.new_block m.left.scanned m was.blank_line nil else begun_by s m)
        else another_item s m marker (begins s paragraph.Lazy m)) (Held (Fresh m.next) false)
    decided true = (tt, tt, tt)
    decided false = item_fresh s m marker (begins s paragraph.Lazy m)

-- a fact of what is in a container, from what a line makes of that
module _ (s : Source) (l m : SourceLine) (below : Forest Block) (next : m.next ≡ l.next)
    (inner : SourceLine → Option (Forest Block))
    (grows : (n : SourceLine) → n.next ≡ l.next → IfSome (inner n) (Grown s l false below)) where
  rest_grows : (rest : Option LineLeft) → IfSome (with_rest s m below inner rest) (Grown s l false below)
  rest_grows None =
      chosen (Grown s l false below) (not (is_blank_rest m) && is_text (begins s paragraph.Lazy m)) (with_lazy m below)
      None (lazy_grows s l m false next below) tt
  rest_grows (Some rest) =
      unwrapped (Grown s l false below) (inner (rest_inside rest m))
      (followed_by below (line_block s (rest_inside rest m))) (grows (rest_inside rest m) next)
      (begun_after s l false below (line_block s (rest_inside rest m))
      (moved l (rest_inside rest m) (line_block s (rest_inside rest m)) next
      (block_inside s (rest_inside rest m) refl)))

  container_grows : (kind : Kind) → IfSome (container_with s m below inner kind) (Grown s l false below)
  container_grows was.quote_container = rest_grows (past_quote m.left)
  container_grows (was.alert_container kind) = rest_grows (past_quote m.left)
  container_grows (was.list_container marker) =
      if_or (Grown s l false below) (inner m) (option_map (followed_by below) (next_item s m marker)) (grows m next)
      (mapped (Held (Fresh m.next) false) (Grown s l false below) (followed_by below)
      (λ new fresh. begun_after s l false below new (moved l m new next fresh)) (next_item s m marker)
      (next_fresh s m marker))
  container_grows (was.item_container indent) =
      chosen (Grown s l false below) (is_blank_rest m && is_nil below) None
      (with_rest s m below inner (past_indent indent m.left)) tt (rest_grows (past_indent indent m.left))
  container_grows (was.footnote_container label) =
      let part = past_footnote (not s.syntax.old_footnotes) m.left in
      chosen (Grown s l false below) (is_blank_rest m && s.syntax.old_footnotes) None
      (with_rest s m below inner part) tt (rest_grows part)
  container_grows other = tt

  block_grows : (top : Bool) → (top ≡ true → m ≡ l) → (b : Block)
      → IfSome (block_with s m b below inner) (Grown s l top (node b below nil))
  block_grows top same b =
      let grown = Grown s l top (node b below nil) in
      let as_leaf : Kind → Forest Block = λ kind. node (record b { last = m.next; kind = kind }) below nil in
      let around : Forest Block → Forest Block = λ f. node (record b { last = m.next }) f nil in
      if_or grown (table_with s m b b.kind)
      (option_or (option_map as_leaf (leaf_with s m b.kind))
      (option_map around (container_with s m below inner b.kind)))
      (table_grows s l m top b below b.kind refl)
      (if_or grown (option_map as_leaf (leaf_with s m b.kind))
      (option_map around (container_with s m below inner b.kind))
      (mapped (KindGrows l top b.kind) grown as_leaf
      (λ kind more. leaf_grown top b (record b { last = m.next; kind = kind }) below b.kind refl more)
      (leaf_with s m b.kind)
      (leaf_grows s l m top next same b.kind))
      (mapped (Grown s l false below) grown around
      (λ f more. inside_grown top b (record b { last = m.next }) below f refl more)
      (container_with s m below inner b.kind)
      (container_grows b.kind)))

-- where blocks go on in a line
goes_grown : (s : Source) (l m : SourceLine) (top : Bool) → m.next ≡ l.next → (top ≡ true → m ≡ l)
    → (blocks : Forest Block) → IfSome (goes_on s blocks m) (Grown s l top blocks)
unfolding goes_on
goes_grown s l m top next same nil = tt
goes_grown s l m top next same (node b below nil) =
    block_grows s l m below next (goes_on s below)
    (λ n is. goes_grown s l n false is (λ outermost. absurd (true≢false (sym outermost))) below) top same b
goes_grown s l m top next same (node b below (node c others after)) =
    mapped (Grown s l top (node c others after)) (Grown s l top (node b below (node c others after))) (node b below)
    (λ f grown. later_grown top b below (node c others after) f grown) (goes_on s (node c others after) m)
    (goes_grown s l m top next same (node c others after))

-- what a line makes of the blocks of a text
pub line_grows : (s : Source) (blocks : Forest Block) (l : SourceLine) → Grown s l true blocks (with_line s blocks l)
line_grows s blocks l =
    unwrapped (Grown s l true blocks) (goes_on s blocks l) (followed_by blocks (line_block s l))
    (goes_grown s l l true refl (λ outermost. refl) blocks)
    (begun_after s l true blocks (line_block s l) (block_outermost s l))
