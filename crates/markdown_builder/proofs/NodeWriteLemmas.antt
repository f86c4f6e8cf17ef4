-- What the rules require of a body by itself, for the bodies that a builder places, and the markup of open items; what
-- an append and a written item make of a list of nodes, number by number, and that the rules at each number and link
-- and that of delimiter runs are kept.
use Rattle.std.proofs.Common.{◌≡◌, ℕ, ◌+◌, ◌≤◌, List, Option, Some, None, true, false, refl, arith, zero, suc, ◌-◌, ◌<◌}
use Rattle.std.proofs.Common.{[], ◌∷◌, Bool, cond, length, get_or, take, drop, replicate, ap, ◌∙◌, ◌++◌, map, sym, ◌⊎◌}
use Rattle.std.proofs.Common.{⊎_elim}
use Rattle.markdown_builder.specs.EvenRows.{is_table, is_table_row}
use Rattle.markdown_builder.specs.Shown.{Parts, plain_item, shown_item}
use Rattle.std.specs.Prelude.{IfSome, Bool, ◌==◌, ◌||◌, slice_index, slice_range, slice_index_or}
use Rattle.markdown_base.specs.declared.index.AlignmentIndex.{AlignmentIndex}
use Rattle.markdown_base.specs.declared.index.HeadingIndex.{HeadingIndex}
use Rattle.markdown_base.specs.declared.item.Item.{Item}
use Rattle.markdown_base.specs.declared.item.ItemBody.{ItemBody}
use Rattle.markdown_base.specs.declared.item.ItemBody.TheVariants as body
use Rattle.markdown_base.specs.declared.tag.HeadingLevel.{HeadingLevel}
use Rattle.markdown_base.specs.BlockTree.{Numbered, item_at, no_item, numbered}
use Rattle.markdown_base.specs.Forest.{nil, node}
use Rattle.markdown_base.specs.Item.{LiesIn, is_open, is_inline, is_childless, is_resolved, is_tight_paragraph}
use Rattle.markdown_base.specs.Item.{is_unplaced, text_named, alignments_named, attributes_named}
use Rattle.markdown_base.specs.WellFormed.{BlocksAreSettled, ChainsAreKept, MarkupIsThere, StandsOverMarkup}
use Rattle.markdown_base.specs.WellFormed.{run_character, PartCounts, PartsAreNamed, RunCharacter, EndsRun, RunGoesOn}
use Rattle.markdown_base.specs.WellFormed.{StandsInRun, RunsAreWhole}
use Rattle.markdown_base.proofs.WellFormedLemmas.{HasMore, named_more}
use Rattle.markdown_builder.specs.Bodies.{is_leaf, is_plain_block, is_settled, mark_byte}
use Rattle.markdown_builder.specs.BuilderRules.{ItemFits, NamesNew, MayReplace, LinkFits, KeepsNodes, KeepsRuns}
use Rattle.std.specs.Str.{IsCharBoundary, IsUtf8}
use Rattle.std.proofs.Math.Seq.{drop-cons}
use Rattle.std.proofs.lemmas.Bool.Decides.{nat_tests}
use Rattle.std.proofs.lemmas.Str.{IsCharBoundary-after_ascii}
use Rattle.markdown_builder.specs.BuilderView.{IsRunOf}
use Rattle.std.proofs.lemmas.List.{length-append}
use Rattle.markdown_base.specs.declared.node.Node.{Node}
use Rattle.markdown_base.specs.Arena.{Arena, sibling_of}
use Rattle.markdown_base.specs.ArenaChanges.{innermost, changed_at, follower, led_to, appended}
use Rattle.markdown_base.specs.ArenaForest.{links_of}
use Rattle.markdown_base.proofs.ArenaLemmas.{length-changed_at, length-led_to}
use Rattle.markdown_builder.specs.Rising.{link_of, place_down, place_at, AreRising}
use Rattle.markdown_builder.specs.Standing.{with_item}
use Rattle.std.proofs.lemmas.Bool.{cases_lt}
use Rattle.std.specs.Option.{option_map}
use Rattle.markdown_base.specs.ArenaRules.{next_at}

-- a body that refers to nothing
pub record IsPlain (b : ItemBody) : Type 0 where
  pub unresolved : is_resolved b ≡ false
  pub no_run : run_character b ≡ None
  pub placed : is_unplaced b ≡ false
  pub texts : text_named b ≡ None
  pub alignments : alignments_named b ≡ None
  pub attributes : attributes_named b ≡ None
  pub loose : is_tight_paragraph b ≡ false

pub plain : {b : ItemBody}
    → is_resolved b ≡ false → run_character b ≡ None → is_unplaced b ≡ false → text_named b ≡ None
    → alignments_named b ≡ None → attributes_named b ≡ None → is_tight_paragraph b ≡ false → IsPlain b
plain unresolved no_run placed texts alignments attributes loose = search (arith)

-- blocks that are opened as they are are plain, and may have children
pub block_facts : (b : ItemBody) → is_plain_block b ≡ true → IsPlain b × (is_childless b ≡ false)
block_facts b h = grind (arith)

-- what may have children is not inline
pub parent_not_inline : (b : ItemBody) → is_childless b ≡ false → is_inline b ≡ false
parent_not_inline b h = grind (arith)

-- a body of an inline item that stands over this markup, refers to nothing, and is no table and no row
pub record StandsOver (b : ItemBody) (source : List ℕ) : Type 0 where
  pub plain : IsPlain b
  pub inline : is_inline b ≡ true
  pub apart : (is_table b ≡ false) × (is_table_row b ≡ false)
  pub shown : (parts : Parts) (start end : ℕ)
      → shown_item parts (record { start = start; end = end; body = b }) ≡ plain_item start end b
  pub markup : StandsOverMarkup source b

-- settled inline items require no markup
pub settled_facts : (b : ItemBody) (source : List ℕ) → is_settled b ≡ true → StandsOver b source
settled_facts b source h = grind (arith)

-- a block is not open
pub not_open : (b : ItemBody) → is_inline b ≡ false → is_open b ≡ false
not_open b h = grind (arith)

-- one item below another is a chain that is kept just where the one above may have children
pub chain_of_one : (above : ItemBody) (b : Numbered) → is_childless above ≡ false → ChainsAreKept above (node b nil nil)
chain_of_one above b parent = search (arith, is_open, false, is_inline, true)

pub parent_of_one : (above : ItemBody) (b : Numbered)
    → ChainsAreKept above (node b nil nil) → is_childless above ≡ false
parent_of_one above b h1 = grind (arith, is_childless)

-- a block is not a character of a run
pub block_no_run : (b : ItemBody) → is_inline b ≡ false → run_character b ≡ None
block_no_run b h = grind (arith)

-- a block requires no markup
pub block_markup : (b : ItemBody) (source : List ℕ) → is_inline b ≡ false → StandsOverMarkup source b
block_markup b source h = grind (arith)

-- an inline item is no tight paragraph
pub inline_loose : (b : ItemBody) → is_inline b ≡ true → is_tight_paragraph b ≡ false
inline_loose b h = grind (arith)

-- a tight paragraph is a leaf
pub tight_leaf : (b : ItemBody) → is_tight_paragraph b ≡ true → is_leaf b ≡ true
tight_leaf b h = grind (arith)

-- what holds of each value that an option may have
pub if_some : {A : Type 0} (o : Option A) (P : A → Type 0) → ((a : A) → o ≡ Some a → P a) → IfSome o P
if_some o P h1 = grind (arith)

-- anything is true of the number that a body refers to where there is none
pub no_name : {A : Type 0} (o : Option A) (P : A → Type 0) → o ≡ None → IfSome o P
no_name o P e = rw e tt

-- an item over a range
abbrev pub item_over : ℕ → ℕ → ItemBody → Item
item_over start end b = record { start = start; end = end; body = b }

-- a body may be placed, over its markup, where some parts were there before, and more are there now
pub record MayBePlaced (few many : PartCounts) (b : ItemBody) : Type 0 where
  pub more : HasMore few many
  pub unresolved : is_resolved b ≡ false
  pub no_run : run_character b ≡ None
  pub placed : is_unplaced b ≡ false
  pub named : PartsAreNamed many b
  pub texts : IfSome (text_named b) (λ ix. few.texts ≤ ix)
  pub alignments : IfSome (alignments_named b) (λ ix. few.alignments ≤ ix)
  pub loose : is_tight_paragraph b ≡ false

-- no parts are lost
pub same_parts : (counts : PartCounts) → HasMore counts counts
same_parts counts = record { texts = omega arith; alignments = omega arith; attributes = omega arith }

-- a plain body
pub plain_placed : (counts : PartCounts) (b : ItemBody) → IsPlain b → MayBePlaced counts counts b
plain_placed counts b p = search (arith, same_parts, no_name)

-- a block with nothing below it is settled where it may occur in the tree
pub settled_alone : (b : ItemBody) → is_unplaced b ≡ false → BlocksAreSettled b nil
settled_alone b placed = record { placed = placed; tight = λ t. refl }

-- a body that may be placed fits wherever its item lies in the text, over its markup
pub placed_fits : (text : List ℕ) (few many : PartCounts) (start end : ℕ) (b : ItemBody)
    → MayBePlaced few many b → MarkupIsThere text (item_over start end b)
    → LiesIn text (item_over start end b) → ItemFits text many (item_over start end b)
placed_fits text few many start end b p markup range = search (arith, settled_alone)

-- a body that may be placed refers to what is new
pub placed_new : (few many : PartCounts) (start end : ℕ) (b : ItemBody)
    → MayBePlaced few many b → NamesNew few (item_over start end b)
placed_new few many start end b p = record { texts = p.texts; alignments = p.alignments }

-- the parts with one text more
abbrev pub one_text_more : PartCounts → PartCounts → Type 0
one_text_more few many = (many.texts ≡ few.texts + 1) × (many.alignments ≡ few.alignments)
    × (many.attributes ≡ few.attributes)

-- a body that names the text of a number, and nothing else
pub record NamesText (b : ItemBody) (ix : ℕ) : Type 0 where
  pub unresolved : is_resolved b ≡ false
  pub no_run : run_character b ≡ None
  pub placed : is_unplaced b ≡ false
  pub text : text_named b ≡ Some ix
  pub alignments : alignments_named b ≡ None
  pub attributes : attributes_named b ≡ None
  pub loose : is_tight_paragraph b ≡ false

-- the newest text may be named
pub text_placed : (few many : PartCounts) (b : ItemBody) (ix : ℕ)
    → ix ≡ few.texts → one_text_more few many → NamesText b ix → MayBePlaced few many b
text_placed few many b ix e more n = search (arith, no_name, alignments_named, attributes_named, n.text)

-- the newest alignments may be named by a table
pub table_placed : (few many : PartCounts) (ix : AlignmentIndex)
    → ix.0 ≡ few.alignments → many.alignments ≡ few.alignments + 1
    → many.texts ≡ few.texts → many.attributes ≡ few.attributes → MayBePlaced few many (body.Table ix)
table_placed few many ix e alignments texts attributes = search (arith)

-- the newest attributes may be named by a heading
pub heading_placed : (few many : PartCounts) (level : HeadingLevel) (ix : HeadingIndex)
    → ix.0 ≡ many.attributes → many.attributes ≡ few.attributes + 1
    → many.texts ≡ few.texts → many.alignments ≡ few.alignments → MayBePlaced few many (body.Heading level (Some ix))
heading_placed few many level ix e attributes texts alignments = search (arith)

-- ---- markup: the text of the ranges over which open items are placed

-- the bytes from a place on, where each is a given one
bytes_same : (n : ℕ) (text : List ℕ) (at byte : ℕ) → at + n ≤ length text
    → ((p : ℕ) → at ≤ p → p < at + n → get_or text p 0 ≡ byte) → take n (drop at text) ≡ replicate n byte
bytes_same zero text at byte low h = refl
bytes_same (suc n) text at byte low h = let head : get_or text at 0 ≡ byte = h at (omega arith) (omega arith) in
    let tail : take n (drop (suc at) text) ≡ replicate n byte =
    bytes_same n text (suc at) byte (omega (arith, low)) (λ p a b. h p (omega (arith, a)) (omega (arith, b))) in
    search (arith, take, drop-cons, drop)

-- the bytes of a run are copies of its byte
pub run_source : (text : List ℕ) (from to byte : ℕ)
    → IsRunOf byte text from to → slice_range text from to ≡ replicate (to - from) byte
run_source text from to byte r = bytes_same (to - from) text from byte
    (omega (arith, r.more, r.within)) (λ p a b. r.same p a (omega (arith, b, r.more)))

-- one byte
pub one_source : (text : List ℕ) (at : ℕ) → at < length text → slice_range text at (at + 1) ≡ slice_index text at ∷ []
one_source text at low = run_source text at (at + 1) (slice_index text at) (record {
  more = omega arith;
  within = omega (arith, low);
  same = λ p a b. let e : p ≡ at = omega (arith, a, b) in ap (slice_index text) e;
}) ∙ (let n : (at + 1) - at ≡ 1 = omega arith in rw n refl)

-- two bytes
pub two_source : (text : List ℕ) (at : ℕ)
    → at + 1 < length text → slice_range text at (at + 2) ≡ slice_index text at ∷ slice_index text (at + 1) ∷ []
two_source text at low = search (arith, take, drop-cons, slice_index)

-- after each byte of a run of ASCII a character begins
pub run_boundary : (text : List ℕ) (from to byte : ℕ)
    → IsUtf8 text → IsRunOf byte text from to → byte < 128 → (p : ℕ) → from < p → p ≤ to → IsCharBoundary text p
run_boundary text from to byte utf8 r ascii p low high = let back : (p - 1) + 1 ≡ p = omega (arith, low) in
    let here = r.same (p - 1) (omega (arith, low)) (omega (arith, low, high)) in rw back at
    (IsCharBoundary-after_ascii text (p - 1) utf8 (omega (arith, low, high, r.within)) (omega (arith, here, ascii)))

-- a quotation mark is one of two bytes
quote_is : (test : Bool) (quote byte : ℕ) → cond test (Some quote) None ≡ Some byte → (quote ≡ byte) × (test ≡ true)
quote_is test quote byte h1 = grind (arith)

quote_ascii : (quote : ℕ) → ((quote == 34) || (quote == 39)) ≡ true → quote < 128
quote_ascii quote h = grind (arith, nat_tests)

-- an open item over one byte
pub mark_facts : (b : ItemBody) (byte : ℕ) → mark_byte b ≡ Some byte → StandsOver b (byte ∷ []) × (byte < 128)
mark_facts b byte h1 = grind (arith, plain, quote_is, quote_ascii)

-- ---- one field of the nodes

-- a new node whose field is the default changes nothing
field_more : {X : Type 0} (g : Node Item → X) (x : Node Item) (d : X) → g x ≡ d → (nodes : List (Node Item)) (i : ℕ)
    → slice_index_or (map g (nodes ++ x ∷ [])) i d ≡ slice_index_or (map g nodes) i d
field_more g x d e [] zero = e
field_more g x d e [] (suc i) = refl
field_more g x d e (n ∷ nodes) zero = refl
field_more g x d e (n ∷ nodes) (suc i) = field_more g x d e nodes i

-- the old nodes' fields stay
field_old : {X : Type 0} (g : Node Item → X) (x : Node Item) (d : X) (nodes : List (Node Item)) (i : ℕ)
    → i < length nodes → slice_index_or (map g (nodes ++ x ∷ [])) i d ≡ slice_index_or (map g nodes) i d
field_old g x d [] i h = absurd (omega (arith, h))
field_old g x d (n ∷ nodes) zero h = refl
field_old g x d (n ∷ nodes) (suc i) h = field_old g x d nodes i (omega (arith, h))

-- the new node's field
field_new : {X : Type 0} (g : Node Item → X) (x : Node Item) (d : X) (nodes : List (Node Item))
    → slice_index_or (map g (nodes ++ x ∷ [])) (length nodes) d ≡ g x
field_new g x d [] = refl
field_new g x d (n ∷ nodes) = field_new g x d nodes

-- there is nothing at larger numbers
field_none : {X : Type 0} (g : Node Item → X) (d : X) (nodes : List (Node Item)) (i : ℕ)
    → length nodes ≤ i → slice_index_or (map g nodes) i d ≡ d
field_none g d [] i h = refl
field_none g d (n ∷ nodes) zero h = absurd (omega (arith, h))
field_none g d (n ∷ nodes) (suc i) h = field_none g d nodes i (omega (arith, h))

-- a change elsewhere
field_elsewhere : {X : Type 0} (g : Node Item → X)
    (d : X) (change : Node Item → Node Item) (ix i : ℕ) (nodes : List (Node Item))
    → (i ≡ ix → ⊥) → slice_index_or (map g (changed_at ix change nodes)) i d ≡ slice_index_or (map g nodes) i d
field_elsewhere g d change ix i [] h = refl
field_elsewhere g d change zero zero (n ∷ nodes) h = absurd (h refl)
field_elsewhere g d change zero (suc i) (n ∷ nodes) h = refl
field_elsewhere g d change (suc ix) zero (n ∷ nodes) h = refl
field_elsewhere g d change (suc ix) (suc i) (n ∷ nodes) h = field_elsewhere g d change ix i nodes (λ e. h (ap suc e))

-- a change of other fields
field_kept : {X : Type 0} (g : Node Item → X) (d : X) (change : Node Item → Node Item)
    → ((n : Node Item) → g (change n) ≡ g n) → (ix i : ℕ) (nodes : List (Node Item))
    → slice_index_or (map g (changed_at ix change nodes)) i d ≡ slice_index_or (map g nodes) i d
field_kept g d change k ix i [] = refl
field_kept g d change k zero zero (n ∷ nodes) = k n
field_kept g d change k zero (suc i) (n ∷ nodes) = refl
field_kept g d change k (suc ix) zero (n ∷ nodes) = refl
field_kept g d change k (suc ix) (suc i) (n ∷ nodes) = field_kept g d change k ix i nodes

-- a change here
field_here : {X : Type 0} (g : Node Item → X) (d v : X) (change : Node Item → Node Item)
    → ((n : Node Item) → g (change n) ≡ v) → (ix : ℕ) (nodes : List (Node Item))
    → ix < length nodes → slice_index_or (map g (changed_at ix change nodes)) ix d ≡ v
field_here g d v change k ix [] h = absurd (omega (arith, h))
field_here g d v change k zero (n ∷ nodes) h = k n
field_here g d v change k (suc ix) (n ∷ nodes) h = field_here g d v change k ix nodes (omega (arith, h))

-- ---- an append

-- what an append after a free place does
pub record Grows (old new : List (Node Item)) (down : Bool) (at : ℕ) (item : Item) : Type 0 where
  pub size : length new ≡ suc (length old)
  pub old_items : (i : ℕ) → i < length old → item_at new i ≡ item_at old i
  pub new_item : item_at new (length old) ≡ item
  pub other_links : (d : Bool) (i : ℕ)
      → ((d ≡ down) × (i ≡ at) → ⊥) → link_of (links_of new) d i ≡ link_of (links_of old) d i
  pub new_link : link_of (links_of new) down at ≡ Some (length old)

-- a node's link, and the node with another
abbrev link : Bool → Node Item → Option ℕ
link true = λ n. n.child
link false = λ n. n.next

abbrev linked : Bool → ℕ → Node Item → Node Item
linked true to = λ n. record n { child = Some to }
linked false to = λ n. record n { next = Some to }

-- the link of a number is a field of its node
link_field : (d : Bool) (nodes : List (Node Item)) (i : ℕ)
    → link_of (links_of nodes) d i ≡ slice_index_or (map (link d) nodes) i None
link_field d nodes i = grind (arith)

-- a node that is linked keeps its item and has that link
item_linked : (down : Bool) (to : ℕ) (n : Node Item) → (linked down to n).item ≡ n.item
item_linked down to n = grind (arith)

link_linked : (down : Bool) (to : ℕ) (n : Node Item) → link down (linked down to n) ≡ Some to
link_linked down to n = grind (arith)

-- other links stay
others_linked : (down d : Bool) (to at i : ℕ) (nodes : List (Node Item)) → ((d ≡ down) × (i ≡ at) → ⊥) → slice_index_or
    (map (link d) (changed_at at (linked down to) nodes)) i None ≡ slice_index_or (map (link d) nodes) i None
others_linked down d to at i nodes h1 = grind (arith, field_elsewhere, field_kept)

-- a node without links
abbrev alone : Item → Node Item
alone item = record { item = item; child = None; next = None }

link_alone : (d : Bool) (item : Item) → link d (alone item) ≡ None
link_alone d item = grind (arith)

-- an append at a place
grows_at : (down : Bool) (old : List (Node Item)) (at : ℕ) (item : Item)
    → at < length old → Grows old (changed_at at (linked down (length old)) (old ++ alone item ∷ [])) down at item
grows_at down old at item h = let x = alone item in
    let change = linked down (length old) in
    let more = old ++ x ∷ [] in
    let new = changed_at at change more in
    let l : length more ≡ length old + 1 = length-append old (x ∷ []) in
    record {
      size = length-changed_at at change more ∙ omega (arith, l);
      old_items = λ i k. field_kept (λ n. n.item) no_item change (item_linked down (length old)) at i more
          ∙ field_old (λ n. n.item) x no_item old i k;
      new_item = field_kept (λ n. n.item) no_item change (item_linked down (length old)) at (length old) more
          ∙ field_new (λ n. n.item) x no_item old;
      other_links = search (arith, link_field, others_linked, field_more, link_alone);
      new_link = link_field down new at ∙ field_here (link down) None
          (Some (length old)) change (link_linked down (length old)) at more (omega (arith, l, h));
    }

-- an append at a free place
pub append_grows : (nodes : List (Node Item)) (spine : List ℕ) (cursor : Option ℕ) (item : Item)
    → place_at spine cursor < length nodes → link_of (links_of nodes) (place_down cursor) (place_at spine cursor) ≡ None
    → Grows nodes (appended (record { nodes = nodes; spine = spine; cursor = cursor }) item).nodes
    (place_down cursor) (place_at spine cursor) item
append_grows nodes spine (Some before) item h free = rw free (grows_at false nodes before item h)
append_grows nodes spine None item h free = rw free (grows_at true nodes (innermost spine) item h)

-- ---- a written item

-- what a written item does
pub record Writes (old new : List (Node Item)) (at : ℕ) (item : Item) : Type 0 where
  pub size : length new ≡ length old
  pub old_items : (i : ℕ) → (i ≡ at → ⊥) → item_at new i ≡ item_at old i
  pub new_item : item_at new at ≡ item
  pub all_links : (d : Bool) (i : ℕ) → link_of (links_of new) d i ≡ link_of (links_of old) d i

pub item_writes : (nodes : List (Node Item)) (at : ℕ) (item : Item)
    → at < length nodes → Writes nodes (changed_at at (λ n. record n { item = item }) nodes) at item
item_writes nodes at item h = search (arith, length-changed_at, field_elsewhere, field_here, links)
  where
    links : (nodes : List (Node Item)) (at : ℕ) (item : Item) (d : Bool) (i : ℕ)
        → link_of (links_of (changed_at at (λ n. record n { item = item }) nodes)) d i ≡ link_of (links_of nodes) d i
    links nodes at item true i = field_kept (λ n. n.child) None (λ n. record n { item = item }) (λ n. refl) at i nodes
    links nodes at item false i = field_kept (λ n. n.next) None (λ n. record n { item = item }) (λ n. refl) at i nodes

-- no item stands at a number that no node has
pub item_beyond : (nodes : List (Node Item)) (i : ℕ) → length nodes ≤ i → item_at nodes i ≡ no_item
item_beyond nodes i h = field_none (λ n. n.item) no_item nodes i h

-- ---- a written item of the node that was appended last

-- two changes of different fields
changes_commute : (f g : Node Item → Node Item) → ((n : Node Item) → f (g n) ≡ g (f n)) → (i j : ℕ)
    → (nodes : List (Node Item)) → changed_at i f (changed_at j g nodes) ≡ changed_at j g (changed_at i f nodes)
changes_commute f g c i j [] = refl
changes_commute f g c zero zero (n ∷ nodes) = ap (λ (m : Node Item). m ∷ nodes) (c n)
changes_commute f g c zero (suc j) (n ∷ nodes) = refl
changes_commute f g c (suc i) zero (n ∷ nodes) = refl
changes_commute f g c (suc i) (suc j) (n ∷ nodes) = cc (changes_commute f g c i j nodes)

-- a change of the last node
last_changed : (f : Node Item → Node Item) (nodes : List (Node Item)) (n : Node Item)
    → changed_at (length nodes) f (nodes ++ n ∷ []) ≡ nodes ++ f n ∷ []
last_changed f [] n = refl
last_changed f (m ∷ nodes) n = cc (last_changed f nodes n)

last_led : (y : Item) (nodes : List (Node Item)) (n : Node Item) (spine : List ℕ) (cursor : Option ℕ)
    → changed_at (length nodes) (λ m. record m { item = y }) (led_to (length nodes) spine cursor (nodes ++ n ∷ []))
    ≡ led_to (length nodes) spine cursor (nodes ++ record n { item = y } ∷ [])
last_led y nodes n spine cursor = grind (arith, changes_commute, length, changed_at, last_changed, innermost)

-- an item that is appended and then replaced by another is as that other one appended
pub appended_then_written : (tree : Arena Item) (x y : Item)
    → with_item (appended tree x) (length tree.nodes) y ≡ appended tree y
appended_then_written tree x y = cc (last_led y tree.nodes _ tree.spine tree.cursor)

-- its number is that of a node
pub appended_number : (tree : Arena Item) (x : Item) → length tree.nodes < length (appended tree x).nodes
appended_number tree x =
    search (arith, follower, length-led_to, length, length-append, tree.nodes, tree.spine, tree.cursor)

-- ---- the rules at each number and link

-- two numbers are one, or they are not
pub same_or_not : (i j : ℕ) → (i ≡ j) ⊎ (i ≡ j → ⊥)
same_or_not i j = grind (arith, cases_lt i j, cases_lt j i)

-- two places are one, or they are not
pub same_place : (d down : Bool) (i at : ℕ) → ((d ≡ down) × (i ≡ at)) ⊎ ((d ≡ down) × (i ≡ at) → ⊥)
same_place d down i at = grind (arith, same_or_not)

-- the link that an append makes
pub record IsNewLink (size : ℕ) (down d : Bool) (at i j : ℕ) : Type 0 where
  pub side : d ≡ down
  pub from : i ≡ at
  pub to : j ≡ size

-- each link was there, or is the new one
pub which_link : (old new : List (Node Item)) (down : Bool) (at : ℕ) (x : Item)
    → Grows old new down at x → (d : Bool) (i j : ℕ)
    → link_of (links_of new) d i ≡ Some j → IsNewLink (length old) down d at i j ⊎ (link_of (links_of old) d i ≡ Some j)
which_link old new down at x h1 d i j h2 = grind (arith, same_place, length, link_of, links_of)

-- links rise
append_rising : (old new : List (Node Item)) (down : Bool) (at : ℕ) (x : Item)
    → at < length old → AreRising (links_of old) → Grows old new down at x → AreRising (links_of new)
append_rising old new down at x low r g = search (arith, length, link_of, links_of, which_link, r.rises, r.once)

-- other items stay, whatever the number
pub same_item : (old new : List (Node Item)) (down : Bool) (at : ℕ) (x : Item)
    → Grows old new down at x → (i : ℕ) → (i ≡ length old → ⊥) → item_at new i ≡ item_at old i
same_item old new down at x g i n = search (arith, length, item_beyond, cases_lt, g.old_items)

-- an item fits where there are more parts
pub fits_more : (text : List ℕ) (few many : PartCounts) (item : Item)
    → HasMore few many → ItemFits text few item → ItemFits text many item
fits_more text few many item m f = assumption (named_more few many item.body m f.parts_are_named)

-- what is true of a reference where there is one is true of this one
of_name : (o : Option ℕ) (P : ℕ → Type 0) (t : ℕ) → IfSome o P → o ≡ Some t → P t
of_name o P t h1 h2 = grind (arith)

-- old names are small
low_names : (name : ItemBody → Option ℕ) (nodes : List (Node Item)) (count : ℕ)
    → name body.Root ≡ None → (item_at nodes 0).body ≡ body.Root
    → ((i : ℕ) → 0 < i → i < length nodes → IfSome (name (item_at nodes i).body) (λ ix. ix < count))
    → (i t : ℕ) → name (item_at nodes i).body ≡ Some t → t < count
low_names name nodes count h1 h2 h3 i t h4 = grind (arith, item_at, length, of_name, item_beyond, cases_lt)

-- entries are referred to once where a new item refers to a new one
once_more : (name : ItemBody → Option ℕ) (old new : List (Node Item)) (down : Bool) (at : ℕ) (x : Item) (count : ℕ)
    → Grows old new down at x
    → ((i t : ℕ) → name (item_at old i).body ≡ Some t → t < count) → IfSome (name x.body) (λ ix. count ≤ ix)
    → ((i j t : ℕ) → name (item_at old i).body ≡ Some t → name (item_at old j).body ≡ Some t → i ≡ j)
    → (i j t : ℕ) → name (item_at new i).body ≡ Some t → name (item_at new j).body ≡ Some t → i ≡ j
once_more name old new down at x count g low high once i j t e f =
    search (arith, at_old, of_name, at_new, same_or_not, x.body)
  where
    at_old : (i : ℕ) → (i ≡ length old → ⊥) → name (item_at new i).body ≡ Some t → name (item_at old i).body ≡ Some t
    at_old i n e = rw (same_item old new down at x g i n) at e

    at_new : (i : ℕ) → i ≡ length old → name (item_at new i).body ≡ Some t → name x.body ≡ Some t
    at_new i q e = rw (q, g.new_item) at e

-- an append keeps all
pub append_keeps : (text : List ℕ)
    (few many : PartCounts) (old new : List (Node Item)) (down : Bool) (at : ℕ) (x : Item) → KeepsNodes text few old
    → Grows old new down at x → at < length old → HasMore few many → ItemFits text many x → NamesNew few x
    → LinkFits down (numbered old at) (record { number = length old; item = x }) → KeepsNodes text many new
append_keeps text few many old new down at x k g low more fits names link = record {
  rising = append_rising old new down at x low k.rising g;
  rooted = omega (arith, g.size);
  root = ap (λ (y : Item). y.body) (g.old_items 0 k.rooted) ∙ k.root;
  items = λ i a b. ⊎_elim (λ (q : i ≡ length old). rw (q, g.new_item) fits)
      (search (arith, same_item, fits_more, before, k.items)) (same_or_not i (length old));
  links = λ d i j e. ⊎_elim (λ (n : IsNewLink (length old) down d at i j). new_fits d i j n)
      (λ (o : link_of (links_of old) d i ≡ Some j). old_fits d i j o) (which_link old new down at x g d i j e);
  texts = once_more text_named old new down at x few.texts g (low_names text_named old few.texts refl k.root
      (λ i a b. (k.items i a b).parts_are_named.text)) names.texts k.texts;
  alignments = once_more alignments_named old new down at x few.alignments g
      (low_names alignments_named old few.alignments refl k.root (λ i a b. (k.items i a b).parts_are_named.alignments))
      names.alignments k.alignments;
}
  where
    before : (i : ℕ) → i < length new → (i ≡ length old → ⊥) → i < length old
    before i b q = omega (arith, b, q, g.size)

    new_fits : (d : Bool) (i j : ℕ)
        → IsNewLink (length old) down d at i j → LinkFits d (numbered new i) (numbered new j)
    new_fits d i j n = rw (n.side, n.from, n.to, g.old_items at low, g.new_item) link

    old_fits : (d : Bool) (i j : ℕ) → link_of (links_of old) d i ≡ Some j → LinkFits d (numbered new i) (numbered new j)
    old_fits d i j o = let r = k.rising.rises d i j o in
        rw (g.old_items i (omega (arith, r.0, r.1)), g.old_items j r.1) (k.links d i j o)

-- ---- a written item

-- a link fits with another item at its start
pub fits_from : (d : Bool) (a b : Numbered) (c : Numbered)
    → a.number ≡ b.number → MayReplace a.item b.item → LinkFits d a c → LinkFits d b c
fits_from d a b c h1 h2 h3 = grind (arith, chain_of_one, parent_of_one, is_inline)

-- and at its end
fits_to : (d : Bool) (a b : Numbered) (c : Numbered)
    → a.number ≡ b.number → MayReplace a.item b.item → LinkFits d c a → LinkFits d c b
fits_to d a b c h1 h2 h3 = grind (arith, chain_of_one, parent_of_one, is_inline)

-- what holds of the item of a number still does, where it does of the one that is written there
pub stays_fit : (P : Numbered → Type 0) (old new : List (Node Item)) (at i : ℕ) (x : Item)
    → Writes old new at x → (i ≡ at → P (record { number = i; item = x })) → P (numbered old i) → P (numbered new i)
stays_fit P old new at i x h1 h2 h3 = grind (arith, same_or_not)

-- a written item keeps all
pub write_keeps : (text : List ℕ) (counts : PartCounts) (old new : List (Node Item)) (at : ℕ) (x : Item)
    → KeepsNodes text counts old
    → Writes old new at x → 0 < at → ItemFits text counts x → MayReplace (item_at old at) x → KeepsNodes text counts new
write_keeps text counts old new at x k w low fits m = record {
  rising = search (arith, k.rising.rises, w.all_links, w.size, k.rising.once);
  rooted = omega (arith, w.size, k.rooted);
  root = cc (w.old_items 0 (λ e. absurd (omega (arith, e, low))), k.root);
  items = λ i a b. stays_fit (λ y. ItemFits text counts y.item) old new at i x w (λ q. fits)
      (k.items i a (omega (arith, b, w.size)));
  links = λ d i j e. right d i j (left d i j (k.links d i j (sym (w.all_links d i) ∙ e)));
  texts = λ i j t e f. k.texts i j t (named_before text_named m.texts i t e) (named_before text_named m.texts j t f);
  alignments = λ i j t e f. k.alignments i j t (named_before alignments_named m.alignments i t e)
      (named_before alignments_named m.alignments j t f);
}
  where
    replaced : (i : ℕ) → i ≡ at → MayReplace (item_at old i) x
    replaced i q = rw q m

    left : (d : Bool) (i j : ℕ)
        → LinkFits d (numbered old i) (numbered old j) → LinkFits d (numbered new i) (numbered old j)
    left d i j l = stays_fit (λ y. LinkFits d y (numbered old j)) old new at i x w
        (λ q. fits_from d (numbered old i) (record { number = i; item = x }) (numbered old j) refl (replaced i q) l) l

    right : (d : Bool) (i j : ℕ)
        → LinkFits d (numbered new i) (numbered old j) → LinkFits d (numbered new i) (numbered new j)
    right d i j l = stays_fit (λ y. LinkFits d (numbered new i) y) old new at j x w
        (λ q. fits_to d (numbered old j) (record { number = j; item = x }) (numbered new i) refl (replaced j q) l) l

    named_before : (name : ItemBody → Option ℕ) → ((t : ℕ) → name x.body ≡ Some t → name (item_at old at).body ≡ Some t)
        → (i t : ℕ) → name (item_at new i).body ≡ Some t → name (item_at old i).body ≡ Some t
    named_before name h i t e = ⊎_elim (λ (q : i ≡ at). rw q (h t (rw (q, w.new_item) at e)))
        (λ (q : i ≡ at → ⊥). rw (w.old_items i q) at e) (same_or_not i at)

-- ---- the rule of delimiter runs

-- an item with a number
abbrev pub at_number : ℕ → Item → Numbered
at_number number item = record { number = number; item = item }

-- a run's character stays whole where its run continues with the new next item as it did with the old one
character_followed : (text : List ℕ) (a : Numbered) (old new : Option Numbered)
    → ((count : ℕ) (opens closes : Bool) → RunGoesOn text a count opens closes old
    → RunGoesOn text a count opens closes new) → RunsAreWhole text a old → RunsAreWhole text a new
character_followed text a old new h1 h2 = grind (arith, run_character)

-- the last item of a chain may be followed by one that ends its run
pub run_followed : (text : List ℕ) (a b : Numbered)
    → EndsRun text a (Some b) → RunsAreWhole text a None → RunsAreWhole text a (Some b)
run_followed text a b h1 = grind (arith, character_followed)

-- an item that is no character of a run may be replaced by one that ends the run before it
pub character_replaced : (text : List ℕ) (a b c : Numbered) (r : RunCharacter) → run_character b.item.body ≡ None
    → EndsRun text a (Some c) → StandsInRun text a (Some b) r → StandsInRun text a (Some c) r
character_replaced text a b c r h1 h2 h3 = grind (arith)

pub run_replaced : (text : List ℕ) (a b c : Numbered) → run_character b.item.body ≡ None
    → EndsRun text a (Some c) → RunsAreWhole text a (Some b) → RunsAreWhole text a (Some c)
run_replaced text a b c h1 h2 h3 = grind (arith, run_character, character_replaced)

-- what is no character of a run ends each
pub ends_run : (text : List ℕ) (a b : Numbered) → run_character b.item.body ≡ None → EndsRun text a (Some b)
ends_run text a b none = rw none tt

-- the same node is followed by the same item
next_same : (old new : List (Node Item)) (o p : Option ℕ) → p ≡ o
    → ((j : ℕ) → o ≡ Some j → item_at new j ≡ item_at old j) → option_map (numbered new) p ≡ option_map (numbered old) o
next_same old new o p h1 h2 = grind (arith, option_map, numbered)

-- one more item keeps all runs whole, if it is no character of a run
pub runs_appended : (text : List ℕ) (old new : List (Node Item)) (down : Bool) (at : ℕ) (x : Item)
    → AreRising (links_of old) → Grows old new down at x
    → link_of (links_of old) down at ≡ None → run_character x.body ≡ None → KeepsRuns text old → KeepsRuns text new
runs_appended text old new down at x r g free none k i = ⊎_elim (λ (q : i ≡ length old). new_node q)
    (λ (n : i ≡ length old → ⊥). old_node down free g n) (same_or_not i (length old))
  where
    new_node : i ≡ length old → RunsAreWhole text (numbered new i) (next_at new i)
    new_node q = rw (q, g.new_item, none) tt

    same_here : (i ≡ length old → ⊥) → numbered new i ≡ numbered old i
    same_here n = ap (at_number i) (same_item old new down at x g i n)

    elsewhere : (i ≡ length old → ⊥)
        → sibling_of new i ≡ sibling_of old i → RunsAreWhole text (numbered new i) (next_at new i)
    elsewhere n e = let next : next_at new i ≡ next_at old i = next_same old new
        (sibling_of old i) (sibling_of new i) e (λ j q. g.old_items j (r.rises false i j q).1) in
        rw (same_item old new down at x g i n, next) (k i)

    old_node : (d : Bool) → link_of (links_of old) d at ≡ None
        → Grows old new d at x → (i ≡ length old → ⊥) → RunsAreWhole text (numbered new i) (next_at new i)
    old_node true f h n = elsewhere n (h.other_links false i (λ p. let e = p.0 in cc (e)))
    old_node false f h n = ⊎_elim (search (arith, run_followed, ends_run, same_here, h.new_link, h.new_item))
        (λ (m : i ≡ at → ⊥). elsewhere n (h.other_links false i (λ p. m p.1))) (same_or_not i at)

-- an item is written that is whole, and by which the run before it stays whole
pub runs_rewritten : (text : List ℕ) (old new : List (Node Item)) (at : ℕ) (x : Item)
    → AreRising (links_of old) → Writes old new at x
    → ((i : ℕ) → sibling_of old i ≡ Some at → RunsAreWhole text (numbered old i) (Some (numbered old at))
    → RunsAreWhole text (numbered old i) (Some (at_number at x)))
    → RunsAreWhole text (at_number at x) (next_at old at) → KeepsRuns text old → KeepsRuns text new
runs_rewritten text old new at x r w replaced here k i =
    ⊎_elim (λ (q : i ≡ at). written q) (λ (n : i ≡ at → ⊥). other n (sibling_of old i) refl) (same_or_not i at)
  where
    next_of : (o : Option ℕ)
        → sibling_of old i ≡ o → ((j : ℕ) → o ≡ Some j → j ≡ at → ⊥) → next_at new i ≡ next_at old i
    next_of o e n = next_same old new (sibling_of old i) (sibling_of new i) (w.all_links false i)
        (λ j q. w.old_items j (n j (sym e ∙ q)))

    written : i ≡ at → RunsAreWhole text (numbered new i) (next_at new i)
    written q = let next : next_at new i ≡ next_at old at = cc (
      next_of (sibling_of old i) refl (λ j e f. let h = r.rises false i j e in absurd (omega (arith, h.0, q, f))),
      q,
    ) in
        search (arith, at_number)

    other : (i ≡ at → ⊥) → (o : Option ℕ) → sibling_of old i ≡ o → RunsAreWhole text (numbered new i) (next_at new i)
    other n None e = let next : next_at new i ≡ next_at old i = next_of None e (λ j f. cc (f)) in
        search (arith, at_number, w.old_items)
    other n (Some j) e = ⊎_elim (λ (q : j ≡ at). let link : sibling_of old i ≡ Some at = e ∙ ap Some q in
        let now : next_at new i ≡ Some (at_number at x) = cc (w.all_links false i, link, w.new_item) in
        search (arith, at_number, replaced, w.old_items)) (λ (q : j ≡ at → ⊥).
        let next : next_at new i ≡ next_at old i = next_of (Some j) e (λ h f g. let y : j ≡ h = cc (f) in q (y ∙ g)) in
        search (arith, at_number, w.old_items)) (same_or_not j at)

-- an item that is not a character of a run is replaced by another such item
pub runs_written : (text : List ℕ) (old new : List (Node Item)) (at : ℕ) (x : Item)
    → AreRising (links_of old) → Writes old new at x
    → run_character (item_at old at).body ≡ None → run_character x.body ≡ None → KeepsRuns text old → KeepsRuns text new
runs_written text old new at x r w was none = runs_rewritten text old new at x r w
    (λ i e h. run_replaced text (numbered old i)
    (numbered old at) (at_number at x) was (ends_run text (numbered old i) (at_number at x) none) h) (rw none tt)
