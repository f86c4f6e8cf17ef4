-- Open containers that are closed, where the blocks are the same, and blocks that are appended in the innermost open
-- container.
use Rattle.std.proofs.Common.{◌≡◌, ◌∙◌, ℕ, Bool, true, false, List, [], ◌∷◌, Option, Some, None, refl, sym, ap}
use Rattle.std.proofs.Common.{true≢false, zero, suc, ◌-◌, ◌<◌, ◌≤◌, ◌++◌, not, length, arith, subst, append_assoc}
use Rattle.std.proofs.Common.{append-nil, length-append}
use Rattle.markdown_plain.proofs.Names.{same_Some, Forest, nil, node, HeadingLevel, Shown, plain_item, settled_below}
use Rattle.markdown_plain.proofs.Names.{shown_item, followed_by, with_trees, Source, SourceLine, divided, divided_in}
use Rattle.markdown_plain.proofs.Names.{Braces, entity_names, Block, Kind, Around, block_end, last_braces, shown_block}
use Rattle.markdown_plain.proofs.Names.{shown_blocks, shown_heading, shown_over, is_blank_block, is_loose}
use Rattle.markdown_plain.proofs.Names.{definitions_in, footnotes_in, label_of, paragraph_lines, AreItemsInLists}
use Rattle.markdown_plain.proofs.Names.{MayBeIn, is_list, AreNested, Frame, forgotten, innermost_is, is_quote, rebuilt}
use Rattle.markdown_plain.proofs.Names.{room_depth, outer_within, closed_in, ItemBody, OpenBlock, BuilderView}
use Rattle.markdown_plain.proofs.Names.{innermost_block, parts_of, followed_by-assoc, followed_by-nil, Pass, PutsBlock}
use Rattle.markdown_plain.proofs.Names.{closed, stepped, outer_of, AreOpen, IsBodyOf, IsLooseAs, around_in, placed_end}
use Rattle.markdown_plain.proofs.Names.{IsBuilt, around_innermost, nat_tests}
use Rattle.std.specs.Prelude.{if◌then◌else◌, slice_get, nat_lt}
use Rattle.std.specs.Option.{option_map}
use Rattle.markdown_builder.specs.Shown.{tight_shown, Parts}
use Rattle.markdown_builder.specs.TreeLevels.{items_changed, roots_changed}
use Rattle.markdown_block_rules.specs.BlockRules.{in_no_item, last_end, shown_setext, shown_text}
use Rattle.markdown_plain.specs.Closing.{MayClose}
use Rattle.markdown_plain.specs.Fitting.{HasBody}
use Rattle.markdown_plain.specs.Containers.{closing_place}
use Rattle.markdown_plain.proofs.OpenListsLemmas.{other_closed}
use Rattle.markdown_plain.specs.Settled.{IsOpen, levels_shown, IsAtEnd}
use Rattle.markdown_base.specs.declared.item.ItemBody.TheVariants as body
use Rattle.markdown_block_rules.specs.BlockGrowth as was
use Rattle.markdown_plain.specs.OpenBlocks as blocks
use Rattle.markdown_plain.proofs.FramesLemmas.{as_many_open, list_alike, quote_alike}
use Rattle.markdown_plain.proofs.LeafTreesLemmas.{by_test, closed_tree, same_block, innermost_of_opened, outer_of_these}
use Rattle.markdown_plain.proofs.LeafTreesLemmas.{on_test, outer_of_opened, trees_last}

-- ---- forests one after the other

roots_of_both : (f g : Forest Shown) → roots_changed tight_shown (followed_by f g)
    ≡ followed_by (roots_changed tight_shown f) (roots_changed tight_shown g)
roots_of_both nil g = refl
roots_of_both (node a below after) g = ap (λ rest. node (tight_shown a) below rest) (roots_of_both after g)

items_of_both : (f g : Forest Shown) → items_changed tight_shown (followed_by f g)
    ≡ followed_by (items_changed tight_shown f) (items_changed tight_shown g)
items_of_both nil g = refl
items_of_both (node a below after) g =
    ap (λ rest. node a (roots_changed tight_shown below) rest) (items_of_both after g)

-- ---- blocks in an item

-- in an item of a list that is tight, or not
abbrev in_item : Bool → ℕ → Around
in_item tight marked = record { tight = tight; marked = marked }

text_made_tight : (s : Source) (marked : ℕ) (b : Block) (lines : List SourceLine)
    → roots_changed tight_shown (shown_text s marked b body.Paragraph lines)
    ≡ shown_text s marked b body.TightParagraph lines
text_made_tight s marked b [] = refl
text_made_tight s marked b (l ∷ lines) = refl

heading_stays : (s : Source) (start end : ℕ) (level : HeadingLevel) (braces : Option Braces) (below : Forest Shown)
    → roots_changed tight_shown (shown_heading s start end level braces below)
    ≡ shown_heading s start end level braces below
heading_stays s start end level None below = refl
heading_stays s start end level (Some braces) below = refl

setext_stays : (s : Source) (marked : ℕ) (b : Block) (level : HeadingLevel) (lines : List SourceLine)
    → roots_changed tight_shown (shown_setext s marked b level lines) ≡ shown_setext s marked b level lines
setext_stays s marked b level [] = refl
setext_stays s marked b level (l ∷ lines) =
    heading_stays s l.left.scanned b.last level (last_braces s.syntax (l ∷ lines)) _

-- a block directly in an item, which is no item
block_made_tight : (s : Source) (marked : ℕ) (b : Block) (end : ℕ) (below : Forest Block)
    (inside : Around → Forest Shown) (kind : Kind) → MayBeIn false kind
    → roots_changed tight_shown (shown_block s (in_item false marked) b end below inside kind)
    ≡ shown_block s (in_item true marked) b end below inside kind
block_made_tight s marked b end below inside (was.paragraph_leaf lines) may =
    text_made_tight s marked b (divided (entity_names s.syntax) s.text lines).lines
block_made_tight s marked b end below inside (was.underlined_leaf level lines) may =
    setext_stays s marked b level (divided (entity_names s.syntax) s.text lines).lines
block_made_tight s marked b end below inside (was.heading_leaf found) may =
    heading_stays s b.start end found.level found.braces _
block_made_tight s marked b end below inside (was.item_container indent) may = absurd (true≢false (may refl))
block_made_tight s marked b end below inside other may = refl

blocks_made_tight : (s : Source) (marked : ℕ) (blocks : Forest Block) → AreItemsInLists false blocks
    → roots_changed tight_shown (shown_blocks s (in_item false marked) blocks)
    ≡ shown_blocks s (in_item true marked) blocks
unfolding shown_blocks
blocks_made_tight s marked nil are = refl
blocks_made_tight s marked (node b below after) are =
    let end = block_end b (last_end b.first below) b.kind in
    let inside : Around → Forest Shown = λ around. shown_blocks s around below in
    roots_of_both (shown_block s (in_item false marked) b end below inside b.kind)
    (shown_blocks s (in_item false marked) after)
    ∙ (ap (λ first. followed_by first (roots_changed tight_shown (shown_blocks s (in_item false marked) after)))
    (block_made_tight s marked b end below inside b.kind are.0)
    ∙ ap (λ rest. followed_by (shown_block s (in_item true marked) b end below inside b.kind) rest)
    (blocks_made_tight s marked after are.2))

-- ---- items

-- a block directly in a list, which is an item or a blank line
item_made_tight : (s : Source) (b : Block) (end : ℕ) (below : Forest Block) (kind : Kind) → MayBeIn true kind
    → AreItemsInLists (is_list kind) below → items_changed tight_shown
    (shown_block s in_no_item b end below (λ around. shown_blocks s around below) kind)
    ≡ shown_block s (in_item true 0) b end below (λ around. shown_blocks s around below) kind
item_made_tight s b end below was.blank_line may are = refl
item_made_tight s b end below (was.item_container indent) may are =
    ap (λ inside. shown_over b.start end (body.ListItem indent) None inside) (blocks_made_tight s b.first below are)
item_made_tight s b end below other may are = absurd (true≢false (sym (may refl)))

-- the items of a tight list, with the paragraphs directly in them made tight
pub items_made_tight : (s : Source) (items : Forest Block) → AreItemsInLists true items
    → items_changed tight_shown (shown_blocks s in_no_item items)
    ≡ shown_blocks s (record { tight = true; marked = 0 }) items
unfolding shown_blocks
items_made_tight s nil are = refl
items_made_tight s (node b below after) are =
    let end = block_end b (last_end b.first below) b.kind in
    let inside : Around → Forest Shown = λ around. shown_blocks s around below in
    items_of_both (shown_block s in_no_item b end below inside b.kind) (shown_blocks s in_no_item after)
    ∙ (ap (λ first. followed_by first (items_changed tight_shown (shown_blocks s in_no_item after)))
    (item_made_tight s b end below b.kind are.0 are.1)
    ∙ ap (λ rest. followed_by (shown_block s (in_item true 0) b end below inside b.kind) rest)
    (items_made_tight s after are.2))

-- ---- the blocks

-- what is in the innermost container is placed as it may be there
pub last_items : (in_list : Bool) (before : Forest Block) (b : Block) (below : Forest Block)
    → AreItemsInLists in_list (followed_by before (node b below nil)) → AreItemsInLists (is_list b.kind) below
last_items in_list nil b below are = are.1
last_items in_list (node a others after) b below are = last_items in_list after b below are.2

pub items_inside : (frames : List Frame) (inside : Forest Block) → AreItemsInLists false (rebuilt frames inside)
    → AreItemsInLists (innermost_is is_list frames) inside
items_inside [] inside are = are
items_inside (f ∷ outer) inside are =
    last_items (innermost_is is_list outer) f.before f.block inside (items_inside outer (forgotten f inside) are)

-- ---- the closed trees

pub shown_of_both : (s : Source) (around : Around) (f g : Forest Block)
    → shown_blocks s around (followed_by f g) ≡ followed_by (shown_blocks s around f) (shown_blocks s around g)
unfolding shown_blocks
shown_of_both s around nil g = refl
shown_of_both s around (node b below after) g = rw (shown_of_both s around after g, followed_by-assoc)

-- in an open container no list is tight yet
pub none_tight : (b : Block) (kind : Kind) → (around_in b kind).tight ≡ false
none_tight b (was.item_container indent) = refl
none_tight b other = refl

pub loose_around : (frames : List Frame) → (around_innermost frames).tight ≡ false
loose_around [] = refl
loose_around (f ∷ outer) = none_tight f.block f.block.kind

pub some_level : (s : Source) (frames : List Frame) (inside : Forest Block) → levels_shown s frames inside ≡ [] → ⊥
some_level s [] inside e = cc (e)
some_level s (f ∷ outer) inside e = absurd (omega (
  arith,
  ap length e,
  length-append (levels_shown s outer f.before) (shown_blocks s (around_in f.block f.block.kind) inside ∷ []),
))

-- blocks are put at the end of the innermost level
levels_appended : (s : Source) (frames : List Frame) (inside new : Forest Block)
    → levels_shown s frames (followed_by inside new)
    ≡ with_trees (levels_shown s frames inside) (shown_blocks s (around_innermost frames) new)
levels_appended s [] inside new = rw shown_of_both refl
levels_appended s (f ∷ outer) inside new =
    rw (
      shown_of_both,
      trees_last (levels_shown s outer f.before) _
          (shown_blocks s (around_in f.block f.block.kind) new),
    )
    refl

-- ---- the item of a container

-- the body that a block is closed with: of a list it is known then whether it is loose
abbrev pub closed_body : Bool → ItemBody → ItemBody
closed_body loose (body.List tight character first) = body.List (not loose) character first
closed_body loose other = other

-- an open block as an item that ends at a byte offset, where it is loose if it is a list
abbrev closed_as : Parts → OpenBlock → ℕ → Bool → Shown
closed_as parts block end loose =
    shown_item parts (record { start = block.start; end = end; body = closed_body loose block.body })

abbrev IsShownClosed : Source → Parts → Around → Block → Forest Block → Kind → ItemBody → Type 0
IsShownClosed s parts around b inside kind opened =
    let end = block_end b (last_end b.first inside) kind in
    let a = closed_as parts (record { start = b.start; body = opened }) end (is_loose inside) in
    node a (settled_below a (shown_blocks s (around_in b kind) inside)) nil
    ≡ followed_by (shown_block s around b end inside (λ inner. shown_blocks s inner inside) kind) nil

list_shown : (s : Source) (start end character first : ℕ) (inside : Forest Block)
    → AreItemsInLists true inside → (loose : Bool) → shown_over start end (body.List (not loose) character first) None
    (settled_below (plain_item start end (body.List (not loose) character first)) (shown_blocks s in_no_item inside))
    ≡ shown_over start end (body.List (not loose) character first) None
    (shown_blocks s (record { tight = not loose; marked = 0 }) inside)
list_shown s start end character first inside items true = refl
list_shown s start end character first inside items false = rw (items_made_tight s inside items)

container_shown : (s : Source) (parts : Parts) (around : Around) (b : Block) (inside : Forest Block) (kind : Kind)
    (opened : ItemBody) → IsBodyOf parts.texts kind opened → AreItemsInLists (is_list kind) inside
    → around.tight ≡ false → IsShownClosed s parts around b inside kind opened
container_shown s parts around b inside was.quote_container opened is items loose = rw is
container_shown s parts around b inside (was.alert_container kind) opened is items loose = rw is
container_shown s parts around b inside (was.list_container marker) opened is items loose =
    rw is (list_shown s b.start _ marker.character marker.first inside items (is_loose inside))
container_shown s parts around b inside (was.item_container indent) opened is items loose = rw (is, loose)
container_shown s parts around b inside (was.footnote_container label) opened is items loose = rw (is.1, is.2)
container_shown s parts around b inside other opened is items loose = absurd is

-- ---- where blocks end

pub end_of_both : (before : ℕ) (f g : Forest Block) → last_end before (followed_by f g) ≡ last_end (last_end before f) g
end_of_both before nil g = refl
end_of_both before (node b below after) g =
    end_of_both (if is_blank_block b.kind then before else block_end b (last_end b.first below) b.kind) after g

-- once the innermost container is closed, the one around it ends where it does
end_closed : (frames : List Frame) (f : Frame) (inside : Forest Block) → is_blank_block f.block.kind ≡ false
    → placed_end frames (forgotten f inside) ≡ block_end f.block (last_end f.block.first inside) f.block.kind
end_closed [] f inside some = rw (end_of_both 0 f.before (node f.block inside nil), some)
end_closed (g ∷ outer) f inside some = rw (end_of_both g.block.first f.before (node f.block inside nil), some)

-- ---- one container closed

no_blank : (texts : List (List ℕ)) (kind : Kind) (block : ItemBody) → IsBodyOf texts kind block
    → is_blank_block kind ≡ false
no_blank texts was.blank_line block is = absurd is
no_blank texts other block is = refl

-- where a container ends that is no block quote, and one that is
ends_inside : (texts : List (List ℕ)) (kind : Kind) (block : ItemBody) → IsBodyOf texts kind block
    → is_quote kind ≡ false → (b : Block) (inside : ℕ) → block_end b inside kind ≡ inside
ends_inside texts was.quote_container block is other b inside = cc (other)
ends_inside texts (was.alert_container kind) block is other b inside = cc (other)
ends_inside texts (was.list_container marker) block is other b inside = refl
ends_inside texts (was.item_container indent) block is other b inside = refl
ends_inside texts (was.footnote_container label) block is other b inside = refl
ends_inside texts kind block is other b inside = absurd is

ends_itself : (kind : Kind) → is_quote kind ≡ true → (b : Block) (inside : ℕ) → block_end b inside kind ≡ b.last
ends_itself was.quote_container quote b inside = refl
ends_itself (was.alert_container kind) quote b inside = refl
ends_itself other quote b inside = absurd (true≢false (sym quote))

body_stays : (one other : Bool) (block : ItemBody) → (blocks.is_list block ≡ true → one ≡ other)
    → closed_body one block ≡ closed_body other block
body_stays one other (body.List tight character first) same = rw (same refl)
body_stays one other block same = refl

-- The innermost open block is as it is closed, and where: of a list it is known whether it is loose, and a block quote
-- ends after its last line.
pub record IsSettled (old mid : Pass) : Type 0 where
  pub block : OpenBlock
  pub loose : Bool
  pub was : old.placing.builder.blocks ≡ outer_of old.placing.builder.blocks ++ block ∷ []
  pub builder : mid.placing.builder ≡ record old.placing.builder {
    blocks = outer_of old.placing.builder.blocks ++ record block { body = closed_body loose block.body } ∷ [];
    at = if blocks.is_quote block.body then old.placed else old.placing.builder.at;
  }
  pub decides : (frames : List Frame) (f : Frame) (inside : Forest Block) → is_list f.block.kind
      ≡ blocks.is_list block.body
      → AreNested (f ∷ frames) → IsLooseAs old.looseness (f ∷ frames) inside
      → (blocks.is_list block.body ≡ true → loose ≡ is_loose inside) × IsLooseAs mid.looseness frames
      (forgotten f inside)
  pub same : mid ≡ record old {
    placing = mid.placing;
    looseness = record old.looseness { lists = mid.looseness.lists; item_is_empty = mid.looseness.item_is_empty };
  }

-- some open blocks have an innermost one
last_block : (these : List OpenBlock) → (these ≡ [] → ⊥) → (block : OpenBlock) × (these ≡ outer_of these ++ block ∷ [])
unfolding outer_of
last_block [] some = absurd (some refl)
last_block (block ∷ []) some = (block, refl)
last_block (block ∷ inner ∷ these) some =
    let last = last_block (inner ∷ these) (λ none. cc (none)) in (last.0, ap (λ bs. block ∷ bs) last.1)

innermost_test : (test : ItemBody → Bool) (these outer : List OpenBlock) (block : OpenBlock)
    → these ≡ outer ++ block ∷ [] → blocks.innermost_is test these ≡ test block.body
innermost_test test these outer block is = cc (ap innermost_block is, innermost_of_opened outer block)

-- a list is given its looseness
pub list_settled : (old mid : Pass) (tight loose : Bool) (character first : ℕ)
    → option_map (λ b. b.body) (innermost_block old.placing.builder.blocks) ≡ Some (body.List tight character first)
    → mid.placing.builder ≡ record old.placing.builder { blocks = mid.placing.builder.blocks }
    → HasBody old.placing.builder mid.placing.builder (body.List (not loose) character first)
    → ((frames : List Frame) (f : Frame) (inside : Forest Block) → is_list f.block.kind ≡ true
    → IsLooseAs old.looseness (f ∷ frames) inside
    → (loose ≡ is_loose inside) × IsLooseAs mid.looseness frames (forgotten f inside)) → mid ≡ record old {
      placing = mid.placing;
      looseness = record old.looseness { lists = mid.looseness.lists; item_is_empty = mid.looseness.item_is_empty };
    } → IsSettled old mid
list_settled old mid tight loose character first innermost same settles decides kept =
    let here : settles.block.body ≡ body.List tight character first =
    same_Some _ _ (sym (ap (option_map (λ b. b.body)) (ap innermost_block settles.was
    ∙ innermost_of_opened (outer_of old.placing.builder.blocks) settles.block)) ∙ innermost) in
    record {
      block = settles.block;
      loose = loose;
      was = settles.was;
      builder = same ∙ rw (settles.becomes, here) refl;
      decides = λ frames f inside alike nested before.
          let both = decides frames f inside (alike ∙ ap blocks.is_list here) before in (λ list. both.0, both.1);
      same = kept;
    }

-- another container stays as it is, where it is closed
pub other_settled : (old mid : Pass) → (old.placing.builder.blocks ≡ [] → ⊥)
    → mid.placing.builder ≡ stepped old.placing.builder (closing_place old)
    → blocks.innermost_is blocks.is_list old.placing.builder.blocks ≡ false → mid ≡ record old { placing = mid.placing }
    → IsSettled old mid
other_settled old mid some steps other same =
    let these = old.placing.builder.blocks in let last = last_block these some in
    let test = λ (of : ItemBody → Bool). innermost_test of these (outer_of these) last.0 last.1 in
    let plain : blocks.is_list last.0.body ≡ false = sym (test blocks.is_list) ∙ other in
    record {
      block = last.0;
      loose = false;
      was = last.1;
      builder = steps ∙ rw (test blocks.is_quote, as_it_is last.0.body plain, ← last.1) refl;
      decides = λ frames f inside alike nested before. (
        λ list. absurd (true≢false (sym list ∙ plain)),
        other_closed old.looseness mid.looseness frames f inside (ap (λ (p : Pass). p.looseness.lists.items) same)
            (ap (λ (p : Pass). p.looseness.item_is_empty) same) (alike ∙ plain) nested before,
      );
      same = rw same refl;
    }
  where
    as_it_is : (block : ItemBody) → blocks.is_list block ≡ false → closed_body false block ≡ block
    as_it_is (body.List tight character first) list = absurd (true≢false list)
    as_it_is block list = refl

-- where it is closed, its container ends
closes_at : (texts : List (List ℕ)) (block : OpenBlock) (f : Frame) (inside : Forest Block) (at placed : ℕ)
    → IsOpen texts block f → at ≡ last_end f.block.first inside → (is_quote f.block.kind ≡ true → f.block.last ≡ placed)
    → (if blocks.is_quote block.body then placed else at)
    ≡ block_end f.block (last_end f.block.first inside) f.block.kind
closes_at texts block f inside at placed opened is quote =
    on_test (λ n. n ≡ block_end f.block (last_end f.block.first inside) f.block.kind) (blocks.is_quote block.body)
    placed at
    (λ test.
    let quoted = sym (quote_alike texts f.block.kind block.body opened.body) ∙ test in
    cc (quote quoted, ends_itself f.block.kind quoted f.block (last_end f.block.first inside))) (λ test.
    let other = sym (quote_alike texts f.block.kind block.body opened.body) ∙ test in
    cc (is, ends_inside texts f.block.kind block.body opened.body other f.block (last_end f.block.first inside)))

-- the innermost container is closed
pub forgotten_so : (s : Source) (old mid new : Pass) → IsSettled old mid
    → new.placing.builder ≡ closed mid.placing.builder new.placing.builder.levels
    → PutsBlock mid.placing.builder new.placing.builder → new ≡ record mid { placing = new.placing }
    → (f : Frame) (outer : List Frame) (inside : Forest Block)
    → MayClose s old (f ∷ outer) inside → MayClose s new outer (forgotten f inside)
unfolding shown_blocks
forgotten_so s old mid new is closes puts same f outer inside may =
    let before = old.placing.builder in let built = may.stands.built in
    let now : OpenBlock = record is.block { body = closed_body is.loose is.block.body } in
    let (block, others, are, opened, around) = built.blocks in
    let this : block ≡ is.block = same_block before.blocks others (outer_of before.blocks) block is.block are is.was in
    let opened_is : IsOpen before.texts is.block f = rw (← this) opened in
    let outside : outer_of before.blocks ≡ others = outer_of_these before.blocks others block are in
    let mids : mid.placing.builder.blocks ≡ outer_of before.blocks ++ now ∷ [] = rw is.builder refl in
    let put : puts.block ≡ now = same_block mid.placing.builder.blocks _ _ puts.block now puts.was mids in
    let listed = list_alike before.texts f.block.kind is.block.body opened_is.body in
    let decided = is.decides outer f inside (sym listed) built.nested may.loose in
    let stays = body_stays is.loose (is_loose inside) is.block.body decided.0 in
    let end = closes_at before.texts is.block f inside before.at old.placed opened_is may.stands.ends.at
    may.stands.ends.quotes.0 in
    let item = container_shown s (parts_of before) (around_innermost outer) f.block inside f.block.kind is.block.body
    opened_is.body (items_inside (f ∷ outer) inside may.stands.items) (loose_around outer) in
    record {
      stands = record {
        built = record {
          text = rw (closes, is.builder) built.text;
          blocks = rw (closes, mids, outer_of_opened, outside, is.builder) around;
          nested = built.nested.1;
          outside = rw closes refl;
          levels = puts.levels ∙ rw (put, is.builder, built.levels, closed_tree _ _ _ (some_level s outer f.before))
              (rw (end, stays, opened_is.start, item) (sym (levels_appended s outer f.before
              (node f.block inside nil))));
          definitions = rw (closes, is.builder) built.definitions;
          footnotes = rw (closes, is.builder) built.footnotes;
        };
        ends = record {
          at = rw (closes, is.builder, end) (sym (end_closed outer f inside
              (no_blank before.texts f.block.kind is.block.body
              opened_is.body)));
          quotes = rw (same, ap (λ (p : Pass). p.placed) is.same) may.stands.ends.quotes.1;
        };
        items = may.stands.items;
      };
      loose = rw same decided.1;
    }

-- and the builder is the same but for that
pub closed_so : (old mid : Pass) (new : BuilderView) → IsSettled old mid → new ≡ closed mid.placing.builder new.levels
    → new ≡ record (closed old.placing.builder new.levels) { at = closing_place old }
closed_so old mid new is closes =
    closes ∙ rw (is.builder, outer_of_opened, innermost_test blocks.is_quote _ _ is.block is.was) refl

-- ---- more containers closed

-- as many are open as there are
pub open_containers : (s : Source) (pass : Pass) (frames : List Frame) (inside : Forest Block)
    → MayClose s pass frames inside → length pass.placing.builder.blocks ≡ length frames
open_containers s pass frames inside may =
    as_many_open pass.placing.builder.texts pass.placing.builder.blocks frames may.stands.built.blocks

-- containers and the blocks in them of which a fact holds once those inside a number of them are closed
abbrev pub ClosedTo : (List Frame → Forest Block → Type 0) → ℕ → List Frame → Forest Block → Type 0
ClosedTo P depth frames inside = P (outer_within depth frames) (closed_in depth frames inside)

-- no more are open, or one less is
pub within : (P : List Frame → Forest Block → Type 0) (depth : ℕ) (frames : List Frame) (inside : Forest Block)
    → length frames ≤ depth → P frames inside → ClosedTo P depth frames inside
within P depth [] inside few p = p
within P depth (f ∷ outer) inside few p =
    let less : nat_lt (length outer) depth ≡ true = grind (arith, nat_tests, few) in rw less p

pub one_less : (P Q : List Frame → Forest Block → Type 0) (depth : ℕ) (frames : List Frame) (inside : Forest Block)
    → ((f : Frame) (outer : List Frame) (below : Forest Block) → P (f ∷ outer) below → Q outer (forgotten f below))
    → length (outer_within (suc depth) frames) ≡ suc depth
    → ClosedTo P (suc depth) frames inside → ClosedTo Q depth frames inside
one_less P Q depth [] inside step many = λ p. absurd (omega (arith, many))
one_less P Q depth (f ∷ outer) inside step many =
    by_test (nat_lt (length outer) (suc depth)) (λ is. by_test (nat_lt (length outer) depth) (λ less.
    let few : length outer < depth = grind (arith, nat_tests, less) in absurd (omega (arith, few, rw is at many)))
    (λ more.
    let few : length outer ≤ depth = grind (arith, nat_tests, is) in
    rw (is, more) (λ p. within Q depth outer (forgotten f inside) few (step f outer inside p)))) (λ is.
    let other : nat_lt (length outer) depth ≡ false = grind (arith, nat_tests, is) in
    rw (is, other) (one_less P Q depth outer (forgotten f inside) step (rw is at many)))

-- where there are as many, they are as many
pub exact_depth : (depth : ℕ) (frames : List Frame) → depth ≤ length frames → length (outer_within depth frames) ≡ depth
exact_depth depth [] few = omega (arith, few)
exact_depth depth (f ∷ outer) few =
    on_test (λ (fs : List Frame). length fs ≡ depth) (nat_lt (length outer) depth) _ _
    (λ less. grind (arith, nat_tests, less, few)) (λ more. exact_depth depth outer (grind (arith, nat_tests, more)))

-- ---- room for a block

-- the innermost of these containers, which is a list, is closed
pub room_of : (P Q : List Frame → Forest Block → Type 0) (depth : ℕ) (frames : List Frame) (inside : Forest Block)
    → depth ≤ length frames → innermost_is is_list (outer_within depth frames) ≡ true
    → ((f : Frame) (outer : List Frame) (below : Forest Block) → P (f ∷ outer) below → Q outer (forgotten f below))
    → ClosedTo P depth frames inside → ClosedTo Q (room_depth depth frames) frames inside
room_of P Q depth frames inside few list step p =
    let many = exact_depth depth frames few in
    let next : suc (depth - 1) ≡ depth = omega (arith, some (outer_within depth frames) list, many) in
    rw list (one_less P Q (depth - 1) frames inside step (rw next many) (rw next p))
  where
    some : (fs : List Frame) → innermost_is is_list fs ≡ true → 0 < length fs
    some [] list = absurd (true≢false (sym list))
    some (f ∷ outer) list = omega arith

-- ---- what is gathered from blocks in the order of the text, where each block has some of its own

pub record IsGathered {A : Type 0} (own : Block → List A) (all : Forest Block → List A) : Type 0 where
  pub none : all nil ≡ []
  pub block : (b : Block) (below after : Forest Block) → all (node b below after) ≡ own b ++ (all below ++ all after)

gathered_followed : {A : Type 0} (own : Block → List A) (all : Forest Block → List A) → IsGathered own all
    → (blocks new : Forest Block) → all (followed_by blocks new) ≡ all blocks ++ all new
gathered_followed own all is nil new = ap (λ xs. xs ++ all new) (sym is.none)
gathered_followed own all is (node b below after) new =
    is.block b below (followed_by after new)
    ∙ (ap (λ xs. own b ++ (all below ++ xs)) (gathered_followed own all is after new)
    ∙ (ap (λ xs. own b ++ xs) (sym (append_assoc (all below) (all after) (all new)))
    ∙ (sym (append_assoc (own b) (all below ++ all after) (all new))
    ∙ ap (λ xs. xs ++ all new) (sym (is.block b below after)))))

-- what is gathered before the blocks in the innermost of some open containers
abbrev pub gathered_before : {A : Type 0} (own : Block → List A) (all : Forest Block → List A) → List Frame → List A
gathered_before own all [] = []
gathered_before own all (f ∷ outer) = gathered_before own all outer ++ (all f.before ++ own f.block)

pub gathered_in : {A : Type 0} (own : Block → List A) (all : Forest Block → List A) → IsGathered own all
    → (frames : List Frame) (inside : Forest Block)
    → all (rebuilt frames inside) ≡ gathered_before own all frames ++ all inside
gathered_in own all is [] inside = refl
gathered_in own all is (f ∷ outer) inside =
    rw (
      gathered_in own all is outer (forgotten f inside),
      gathered_followed own all is,
      is.block,
      is.none,
      append-nil,
      append_assoc,
      append_assoc,
    ) refl

gathered_appended : {A : Type 0} (own : Block → List A) (all : Forest Block → List A) → IsGathered own all
    → (frames : List Frame) (inside new : Forest Block)
    → all (rebuilt frames (followed_by inside new)) ≡ all (rebuilt frames inside) ++ all new
gathered_appended own all is frames inside new =
    rw (
      gathered_in own all is frames (followed_by inside new),
      gathered_followed own all is,
      gathered_in own all is frames inside,
      append_assoc,
    ) refl

pub definitions_gathered : (s : Source)
    → IsGathered (λ b. (divided (entity_names s.syntax) s.text (paragraph_lines b.kind)).definitions) (definitions_in s)
unfolding definitions_in
definitions_gathered s = record { none = refl; block = λ b below after. refl }

pub footnotes_gathered : IsGathered (λ b. label_of b.kind) footnotes_in
unfolding footnotes_in
footnotes_gathered = record { none = refl; block = λ b below after. refl }

pub definitions_appended : (s : Source) (frames : List Frame) (inside new : Forest Block)
    → definitions_in s (rebuilt frames (followed_by inside new))
    ≡ definitions_in s (rebuilt frames inside) ++ definitions_in s new
definitions_appended s frames inside new =
    gathered_appended _ (definitions_in s) (definitions_gathered s) frames inside new

pub footnotes_appended : (frames : List Frame) (inside new : Forest Block)
    → footnotes_in (rebuilt frames (followed_by inside new)) ≡ footnotes_in (rebuilt frames inside) ++ footnotes_in new
footnotes_appended frames inside new = gathered_appended _ footnotes_in footnotes_gathered frames inside new

-- ---- where they end

pub end_appended : (frames : List Frame) (inside new : Forest Block)
    → placed_end frames (followed_by inside new) ≡ last_end (placed_end frames inside) new
end_appended [] inside new = end_of_both 0 inside new
end_appended (f ∷ outer) inside new = end_of_both f.block.first inside new

-- ---- what is built

-- with more texts a body is that of the same container
body_after : (texts more : List (List ℕ)) (kind : Kind) (b : ItemBody) → IsBodyOf texts kind b
    → IsBodyOf (texts ++ more) kind b
body_after texts more was.quote_container b is = is
body_after texts more (was.alert_container kind) b is = is
body_after texts more (was.list_container marker) b is = is
body_after texts more (was.item_container indent) b is = is
body_after texts more (was.footnote_container label) b is = (is.0, is.1, get_after texts more is.0.0 label is.2)
  where
    get_after : (xs ys : List (List ℕ)) (n : ℕ) (x : List ℕ) → slice_get xs n ≡ Some x → slice_get (xs ++ ys) n ≡ Some x
    get_after [] ys n x e = absurd (grind (arith, e))
    get_after (y ∷ xs) ys zero x e = e
    get_after (y ∷ xs) ys (suc n) x e = get_after xs ys n x e
body_after texts more other b is = absurd is

pub open_after : (texts more : List (List ℕ)) (blocks : List OpenBlock) (frames : List Frame)
    → AreOpen texts blocks frames → AreOpen (texts ++ more) blocks frames
open_after texts more blocks [] none = none
open_after texts more blocks (f ∷ outer) (block, others, are, is, around) = (
  block,
  others,
  are,
  record { start = is.start; body = body_after texts more f.block.kind block.body is.body },
  open_after texts more others outer around,
)

-- a builder has appended, in the innermost of these open containers, what is shown of some blocks, with the texts that
-- this refers to, and what they define
pub record AppendsBlocks (s : Source) (frames : List Frame) (new : Forest Block) (old now : BuilderView) : Type 0 where
  pub more : List (List ℕ)
  pub text : now.text ≡ old.text
  pub blocks : now.blocks ≡ old.blocks
  pub outside : now.leaf ≡ false
  pub levels : now.levels ≡ with_trees old.levels (shown_blocks s (around_innermost frames) new)
  pub texts : now.texts ≡ old.texts ++ more
  pub definitions : now.definitions ≡ old.definitions ++ definitions_in s new
  pub footnotes : now.footnotes ≡ old.footnotes ++ footnotes_in new

pub appended_is_built : (s : Source) (frames : List Frame) (inside new : Forest Block) (old now : BuilderView)
    → AppendsBlocks s frames new old now → IsBuilt s old frames inside → IsBuilt s now frames (followed_by inside new)
appended_is_built s frames inside new old now appends built =
    let open_still : AreOpen now.texts old.blocks frames =
    subst (λ texts. AreOpen texts old.blocks frames) (sym appends.texts)
    (open_after old.texts appends.more old.blocks frames built.blocks) in
    record {
      text = appends.text ∙ built.text;
      blocks = subst (λ blocks. AreOpen now.texts blocks frames) (sym appends.blocks) open_still;
      nested = built.nested;
      outside = appends.outside;
      levels = appends.levels ∙ (ap (λ ls. with_trees ls (shown_blocks s (around_innermost frames) new))
          built.levels ∙ sym (levels_appended s frames inside new));
      definitions = appends.definitions ∙ (ap (λ ds. ds ++ definitions_in s new) built.definitions
          ∙ sym (definitions_appended s frames inside new));
      footnotes = appends.footnotes ∙ (ap (λ ls. ls ++ footnotes_in new) built.footnotes
          ∙ sym (footnotes_appended frames inside new));
    }

-- ---- a blank line, which changes none of them

nothing_shown : (s : Source) (around : Around) (b : Block) → b.kind ≡ was.blank_line
    → shown_blocks s around (node b nil nil) ≡ nil
unfolding shown_blocks
nothing_shown s around b blank =
    ap (λ kind. followed_by (shown_block s around b (block_end b b.first kind) nil (λ inside. nil) kind) nil) blank

nothing_defined : (s : Source) (b : Block) → b.kind ≡ was.blank_line → definitions_in s (node b nil nil) ≡ []
unfolding definitions_in divided_in
nothing_defined s b blank =
    ap (λ kind. (divided (entity_names s.syntax) s.text (paragraph_lines kind)).definitions ++ ([] ++ [])) blank

nothing_named : (b : Block) → b.kind ≡ was.blank_line → footnotes_in (node b nil nil) ≡ []
unfolding footnotes_in
nothing_named b blank = ap (λ kind. label_of kind ++ ([] ++ [])) blank

with_no_trees : {A : Type 0} (levels : List (Forest A)) → with_trees levels nil ≡ levels
with_no_trees [] = refl
with_no_trees (level ∷ []) = ap (λ f. f ∷ []) (followed_by-nil level)
with_no_trees (level ∷ inner ∷ levels) = ap (λ ls. level ∷ ls) (with_no_trees (inner ∷ levels))

pub blank_is_built : (s : Source) (view : BuilderView) (frames : List Frame) (inside : Forest Block) (b : Block)
    → b.kind ≡ was.blank_line → IsBuilt s view frames inside
    → IsBuilt s view frames (followed_by inside (node b nil nil))
blank_is_built s view frames inside b blank built =
    appended_is_built s frames inside (node b nil nil) view view (record {
      more = [];
      text = refl;
      blocks = refl;
      outside = built.outside;
      levels = sym (ap (with_trees view.levels) (nothing_shown s (around_innermost frames) b blank)
          ∙ with_no_trees view.levels);
      texts = sym (append-nil view.texts);
      definitions = sym (ap (λ ds. view.definitions ++ ds) (nothing_defined s b blank) ∙ append-nil view.definitions);
      footnotes = sym (ap (λ ls. view.footnotes ++ ls) (nothing_named b blank) ∙ append-nil view.footnotes);
    }) built

pub blank_is_at_end : (pass : Pass) (frames : List Frame) (inside : Forest Block) (b : Block)
    → b.kind ≡ was.blank_line → IsAtEnd pass frames inside → IsAtEnd pass frames (followed_by inside (node b nil nil))
blank_is_at_end pass frames inside b blank ends = record {
  at = ends.at ∙ sym (end_appended frames inside (node b nil nil)
      ∙ ap (λ kind. if is_blank_block kind then placed_end frames inside else block_end b b.first kind) blank);
  quotes = ends.quotes;
}
