-- What each call of a builder keeps, by what its caller sees, and that it keeps what holds of the rows of open tables.
use Rattle.markdown_builder.specs.Shown.{Parts, shown_item, shown_levels, with_block, Shown, alignments_shown, chain_of}
use Rattle.markdown_builder.specs.Shown.{run_items, settled_below, shown_trees, tight_shown, unnumbered}
use Rattle.std.proofs.lemmas.Option.{slice_get_within}
use Rattle.markdown_builder.proofs.ShownStepsLemmas.{get_of_more, closed_shown, relabelled_followed, trees_shown}
use Rattle.markdown_builder.proofs.StepLemmas.{added_placed, skipped, after_item, opened, opened_alone, after_opening}
use Rattle.markdown_builder.proofs.StepLemmas.{more_parts, closed, defined, IsLeft}
use Rattle.std.specs.Prelude.{slice_index, IfSome, unwrap_or}
use Rattle.std.proofs.Common.{◌≡◌, ℕ, suc, ◌+◌, ◌-◌, ◌<◌, ◌≤◌, List, [], ◌∷◌, ◌++◌, Some, None, Bool, true, false}
use Rattle.std.proofs.Common.{length, refl, sym, ap, ◌∙◌, arith, ◌⊎◌, ⊎_elim, zero, cond}
use Rattle.std.specs.Str.{IsCharBoundary}
use Rattle.std.proofs.lemmas.Str.{IsCharBoundary-after_ascii}
use Rattle.markdown_base.specs.declared.block_parts.LinkDef.{LinkDef}
use Rattle.markdown_base.specs.declared.cow_str.CowStr.{CowStr}
use Rattle.markdown_base.specs.declared.index.CowIndex.{CowIndex}
use Rattle.markdown_base.specs.declared.item.Item.{Item}
use Rattle.markdown_base.specs.declared.item.ItemBody.{ItemBody}
use Rattle.markdown_base.specs.declared.item.ItemBody.TheVariants as body
use Rattle.markdown_base.specs.declared.node.Node.{Node}
use Rattle.markdown_base.specs.Arena.{Arena}
use Rattle.markdown_base.specs.ArenaChanges.{appended, changed_at}
use Rattle.markdown_base.specs.Item.{is_childless}
use Rattle.markdown_base.specs.WellFormed.{PartCounts, source_of, is_delimiter}
use Rattle.markdown_base.proofs.WellFormedLemmas.{HasMore}
use Rattle.markdown_builder.specs.declared.open_block.OpenBlock.{OpenBlock}
use Rattle.markdown_builder.specs.Bodies.{is_leaf, is_plain_block, is_settled, mark_byte}
use Rattle.markdown_builder.specs.BuilderView.{IsWhite, IsRunOf, follows_run, innermost_block, with_items}
use Rattle.markdown_builder.specs.Standing.{State, Standpoint, seen, open_item, with_item, AreOpen, IsSound}
use Rattle.markdown_builder.specs.TreeLevels.{levels_of, followed_by, items_changed, roots_changed, tight_body}
use Rattle.markdown_builder.specs.TreeLevels.{with_trees}
use Rattle.markdown_builder.specs.TreeSteps.{TightensList, texts_appended, run_marked, byte_text}
use Rattle.markdown_builder.specs.Tightness.{TightInTightLists, is_tight_list}
use Rattle.markdown_builder.proofs.LaidLemmas.{close_is_laid, write_levels, close_levels, IsLeftTree, leave_laid}
use Rattle.markdown_builder.proofs.LaidLemmas.{byte_texts, append_levels, texts_levels}
use Rattle.markdown_builder.proofs.ClosedListLemmas.{tight_in_tight_lists}
use Rattle.markdown_builder.proofs.NodeWriteLemmas.{item_over, MayBePlaced, plain_placed, block_facts, settled_facts}
use Rattle.markdown_builder.proofs.NodeWriteLemmas.{plain, one_text_more, NamesText, text_placed, mark_facts}
use Rattle.markdown_builder.proofs.NodeWriteLemmas.{one_source, two_source, run_source, run_boundary}
use Rattle.markdown_builder.proofs.WrittenLemmas.{delimiter_ascii, run_sound, TextsStand, texts_stand, list_made_tight}
use Rattle.markdown_builder.proofs.WrittenLemmas.{changed, begun_later}
use Rattle.markdown_base.specs.declared.tag.Alignment.{Alignment}
use Rattle.markdown_base.specs.Forest.{Forest, nil, node, roots}
use Rattle.markdown_builder.specs.EvenRows.{EachRowContains, HasEvenRows, KeepsRows, is_table_row, is_table}
use Rattle.markdown_builder.specs.Levels.{IsLaidOut}
use Rattle.markdown_builder.specs.OpenRows.{KeepOpenRows, KeepsRowsIn}

-- `skip`
pub skip_keeps : {s : State} (now : Standpoint) (to : ℕ)
    → IsSound s → seen s ≡ now → now.at ≤ to → IsCharBoundary now.text to
    → (now.leaf ≡ false → now.blocks ≡ [] → IsWhite now.text now.at to) → IsSound (record s { at = to })
skip_keeps {s} now to k e = rw (← e) (skipped s to k)

-- a block that goes into the tree with its parts
pub placed_keeps : {s : State} (now : Standpoint) (many : PartCounts) (b : ItemBody) → IsSound s → seen s ≡ now
    → now.leaf ≡ false → MayBePlaced s.counts many b → is_childless b ≡ false → IsSound (after_opening s many b)
placed_keeps {s} now many b k e outside placed parent = opened s many b k (ap (λ (v : Standpoint). v.leaf) e ∙ outside)
    placed parent

-- a block whose parts were pushed, and that was not entered: an empty paragraph may be there in its place
pub refused_keeps : {s : State} (now : Standpoint) (many : PartCounts) (tree : Arena Item)
    → IsSound s → seen s ≡ now → now.leaf ≡ false
    → HasMore s.counts many → (tree ≡ s.tree) ⊎ (tree ≡ appended s.tree (item_over s.at s.at body.Paragraph))
    → IsSound (record s { counts = many; tree = tree })
refused_keeps {s} now many tree k e outside more =
    let placed : MayBePlaced s.counts many body.Paragraph = search (arith) in
    ⊎_elim (λ (q : tree ≡ s.tree). rw q (more_parts s many more k))
    (λ (q : tree ≡ appended s.tree (item_over s.at s.at body.Paragraph)).
    rw q (opened_alone s many body.Paragraph s.run k (ap (λ (v : Standpoint). v.leaf) e ∙ outside) placed refl))

-- a block that names the text which was pushed: it goes into the tree
pub named_keeps : {s : State} (now : Standpoint) (many : PartCounts) (b : ItemBody) (ix : CowIndex)
    → IsSound s → seen s ≡ now → now.leaf ≡ false → ix.0 ≡ s.counts.texts
    → one_text_more s.counts many → NamesText b ix.0 → is_childless b ≡ false → IsSound (after_opening s many b)
named_keeps {s} now many b ix k e outside n more names parent = placed_keeps now many b k e outside
    (text_placed s.counts many b ix.0 n more names) parent

-- `open`
pub open_keeps : {s : State} (now : Standpoint) (b : ItemBody)
    → IsSound s → seen s ≡ now → is_plain_block b ≡ true → now.leaf ≡ false → IsSound (after_opening s s.counts b)
open_keeps {s} now b k e h outside = let f = block_facts b h in
    placed_keeps now s.counts b k e outside (plain_placed s.counts b f.0) f.1

-- `inline`
pub inline_keeps : {s : State} (now : Standpoint) (end : ℕ) (b : ItemBody)
    → IsSound s → seen s ≡ now → is_settled b ≡ true
    → now.leaf ≡ true → now.at ≤ end → IsCharBoundary now.text end → IsSound (after_item s s.counts end b None)
inline_keeps {s} now end b k e h = rw (← e) (λ within low boundary.
    let f = settled_facts b (source_of s.text (item_over s.at end b)) h in
    added_placed s s.counts end b None k
    (plain_placed s.counts b f.plain) f.markup low boundary (f.inline ∙ sym within))

-- a spine whose nodes hold open blocks ends with a number
spine_last : (nodes : List (Node Item)) (spine : List ℕ) (blocks : List OpenBlock) (block : OpenBlock)
    → AreOpen nodes spine (blocks ++ block ∷ []) → (outer : List ℕ) × (n : ℕ) × (spine ≡ outer ++ n ∷ [])
spine_last nodes [] [] block o = absurd o
spine_last nodes [] (b ∷ blocks) block o = absurd o
spine_last nodes (s ∷ []) [] block o = ([], s, refl)
spine_last nodes (s ∷ t ∷ spine) [] block o = absurd o.2
spine_last nodes (s ∷ spine) (b ∷ blocks) block o =
    let r = spine_last nodes spine blocks block o.2 in (s ∷ r.0, r.1, ap (λ (x : List ℕ). s ∷ x) r.2)

-- the number of the innermost open block
pub innermost_open : (s : State) (rest : List OpenBlock) (block : OpenBlock)
    → IsSound s → s.blocks ≡ rest ++ block ∷ [] → (outer : List ℕ) × (n : ℕ) × (s.tree.spine ≡ outer ++ n ∷ [])
innermost_open s rest block k e = spine_last s.tree.nodes s.tree.spine rest block (rw e at k.stands.are_open)

-- the node of a block that is closed is left, with the block's end written
abbrev pub LeavesBlock : State → OpenBlock → Arena Item → Type 0
LeavesBlock s block new = (outer : List ℕ) (ix : ℕ) → s.tree.spine ≡ outer ++ ix ∷ [] → new ≡ record {
  nodes = changed_at ix (λ m. record m { item = item_over block.start s.at block.body }) s.tree.nodes;
  spine = outer;
  cursor = Some ix;
}

-- `close`: the block is left
pub close_left : {s : State} (rest : List OpenBlock) (block : OpenBlock) (new : Arena Item)
    → IsSound s → s.blocks ≡ rest ++ block ∷ [] → LeavesBlock s block new
    → (n : ℕ) × (new.cursor ≡ Some n) × IsLeft n (record s { tree = new; blocks = rest; leaf = false; run = None })
    × IsLeftTree s.tree new n (item_over block.start s.at block.body)
close_left {s} rest block new k e left = let l = innermost_open s rest block k e in
    let made = left l.0 l.1 l.2 in (
      l.1,
      ap (λ (t : Arena Item). t.cursor) made,
      rw made (closed s l.0 rest l.1 block k e l.2),
      rw made (leave_laid s.tree l.0 l.1 (item_over block.start s.at block.body) k.laid l.2),
    )

pub close_keeps : {s : State} (rest : List OpenBlock) (block : OpenBlock) (new tree : Arena Item)
    → IsSound s → s.blocks ≡ rest ++ block ∷ []
    → LeavesBlock s block new → ((list : ℕ) → new.cursor ≡ Some list → TightensList list new tree)
    → IsSound (record s { tree = tree; blocks = rest; leaf = false; run = None })
close_keeps {s} rest block new tree k e left tightens = let l = close_left rest block new k e left in
    let t = tightens l.0 l.1 in
    list_made_tight l.0 (record s { tree = new; blocks = rest; leaf = false; run = None }) tree l.2 l.1 t
    (close_is_laid s.tree new tree l.0 _ l.3 t)

-- its levels then
pub close_levels_of : {s : State} (parts : Parts) (rest : List OpenBlock) (block : OpenBlock) (new tree : Arena Item)
    → IsSound s → s.blocks ≡ rest ++ block ∷ [] → LeavesBlock s block new
    → ((list : ℕ) → new.cursor ≡ Some list → TightensList list new tree) → shown_levels parts (levels_of tree)
    ≡ with_block (shown_levels parts (levels_of s.tree)) (shown_item parts (item_over block.start s.at block.body))
close_levels_of {s} parts rest block new tree k e left tightens = let l = close_left rest block new k e left in
    rw (close_levels s.tree new tree l.0 _ l.3 (tightens l.0 l.1)) (closed_shown parts (levels_of s.tree) _)

-- `rule`
pub rule_keeps : {s : State} (now : Standpoint) (end : ℕ) → IsSound s → seen s ≡ now
    → now.leaf ≡ false → now.at ≤ end → IsCharBoundary now.text end → IsSound (after_item s s.counts end body.Rule None)
rule_keeps {s} now end k e = rw (← e) (λ outside low boundary. added_placed s s.counts end body.Rule None k
    (plain_placed s.counts body.Rule (plain refl refl refl refl refl refl refl)) tt low boundary (sym outside))

-- `synthesize`
pub synthesize_keeps : {s : State} (now : Standpoint) (many : PartCounts) (end : ℕ) (ix : CowIndex)
    → IsSound s → seen s ≡ now → ix.0 ≡ s.counts.texts → one_text_more s.counts many → now.leaf ≡ true
    → now.at ≤ end → IsCharBoundary now.text end → IsSound (after_item s many end (body.SynthesizeText ix) None)
synthesize_keeps {s} now many end ix k e n more = rw (← e)
    (λ within low boundary. added_placed s many end (body.SynthesizeText ix) None k (text_placed s.counts many
    (body.SynthesizeText ix) ix.0 n more (search (arith))) tt low boundary (sym within))

-- a text that was pushed, and that nothing refers to
pub one_more_text : (few many : PartCounts) → one_text_more few many → HasMore few many
one_more_text few many more = search (arith)

-- `mark`
pub mark_keeps : {s : State} (now : Standpoint) (b : ItemBody)
    → IsSound s → seen s ≡ now → now.leaf ≡ true → now.at < length now.text
    → mark_byte b ≡ Some (slice_index now.text now.at) → IsSound (after_item s s.counts (s.at + 1) b None)
mark_keeps {s} now b k e = rw (← e) (λ within low byte. let m = mark_facts b (slice_index s.text s.at) byte in
    added_placed s s.counts (s.at + 1) b None k (plain_placed s.counts b m.0.plain)
    (rw (one_source s.text s.at low) m.0.markup) (omega arith)
    (IsCharBoundary-after_ascii s.text s.at k.utf8 low m.1) (m.0.inline ∙ sym within))

-- `image`
pub image_keeps : {s : State} (now : Standpoint)
    → IsSound s → seen s ≡ now → now.leaf ≡ true → now.at + 1 < length now.text → slice_index now.text now.at ≡ 33
    → slice_index now.text (now.at + 1) ≡ 91 → IsSound (after_item s s.counts (s.at + 2) body.MaybeImage None)
image_keeps {s} now k e = rw (← e) (λ within low first second. let two : (s.at + 1) + 1 ≡ s.at + 2 = omega arith in
    added_placed s s.counts (s.at + 2) body.MaybeImage None k (plain_placed s.counts body.MaybeImage
    (plain refl refl refl refl refl refl refl)) (two_source s.text s.at low ∙ rw (first, second) refl) (omega arith)
    (rw two at (IsCharBoundary-after_ascii s.text (s.at + 1) k.utf8 low (omega (arith, second)))) (sym within))

-- `backticks`
pub backticks_keeps : {s : State} (now : Standpoint) (end : ℕ) (escaped : Bool)
    → IsSound s → seen s ≡ now → now.leaf ≡ true
    → IsRunOf 96 now.text now.at end → IsSound (after_item s s.counts end (body.MaybeCode (end - s.at) escaped) None)
backticks_keeps {s} now end escaped k e = rw (← e) (λ within run. let b = body.MaybeCode (end - s.at) escaped in
    added_placed s s.counts end b None k (plain_placed s.counts b (plain refl refl refl refl refl refl refl))
    (run_source s.text s.at end 96 run, omega (arith, run.more)) (omega (arith, run.more))
    (run_boundary s.text s.at end 96 k.utf8 run (omega arith) end run.more (omega arith)) (sym within))

-- `run`: what it requires
pub record RunMayCome (now : Standpoint) (byte end : ℕ) : Type 0 where
  pub inside : now.leaf ≡ true
  pub delimiter : is_delimiter byte ≡ true
  pub whole : IsRunOf byte now.text now.at end
  pub other : follows_run now.run byte ≡ false

-- the Texts of a run so far
run_texts : (s : State) (byte end count : ℕ) → IsSound s
    → RunMayCome (seen s) byte end → s.at + count ≤ end → TextsStand s byte count (texts_appended s.tree s.at count)
run_texts s byte end count k may low = search (arith, texts_stand, delimiter_ascii, may.inside)

-- there are nodes enough to make characters of
pub run_nodes : {s : State} (now : Standpoint) (byte end : ℕ) → IsSound s
    → seen s ≡ now → RunMayCome now byte end → end - s.at ≤ length (texts_appended s.tree s.at (end - s.at)).nodes
run_nodes {s} now byte end k e may = let here : RunMayCome (seen s) byte end = rw e may in
    let p = run_texts s byte end (end - s.at) k here (omega (arith, here.whole.more)) in omega (arith, p.size)

-- after an error, some of the run's bytes are Texts
pub run_refused : {s : State} (now : Standpoint) (byte end count : ℕ)
    → IsSound s → seen s ≡ now → RunMayCome now byte end
    → s.at + count ≤ end → IsSound (record s { tree = texts_appended s.tree s.at count; at = end })
run_refused {s} now byte end count k e may low = let here : RunMayCome (seen s) byte end = rw e may in
    let p = run_texts s byte end count k here low in
    let ascii = delimiter_ascii byte here.delimiter in
    skipped (record s { tree = texts_appended s.tree s.at count; at = s.at + count }) end p.sound low
    (run_boundary s.text s.at end byte k.utf8 here.whole ascii end here.whole.more (omega arith))
    (λ outside. let none : ⊥ = cc (here.inside, outside) in absurd none)

-- otherwise all of them are characters of the run
pub run_keeps : {s : State} (now : Standpoint) (byte end : ℕ) (opens closes : Bool) → IsSound s → seen s ≡ now
    → RunMayCome now byte end → IsSound (record s {
      tree = run_marked (texts_appended s.tree s.at (end - s.at)) end opens closes (end - s.at);
      at = end;
      run =
          Some byte;
    })
run_keeps {s} now byte end opens closes k e may = let here : RunMayCome (seen s) byte end = rw e may in
    run_sound s byte end (end - s.at) opens closes k here.inside here.whole here.delimiter here.other
    (omega (arith, here.whole.more))

-- `define`
pub define_keeps : {s : State} (now : Standpoint) (to : ℕ) (d : CowStr × LinkDef)
    → IsSound s → seen s ≡ now → now.at ≤ to
    → IsCharBoundary now.text to → slice_index now.text now.at ≡ 91 → d.1.span ≡ record { start = s.at; end = to }
    → IsSound (record s { definitions = s.definitions ++ d ∷ []; at = to })
define_keeps {s} now to d k e = rw (← e) (defined s to d k)

-- two lists that end with a block are one
last_same : (xs ys : List OpenBlock) (x y : OpenBlock) → xs ++ x ∷ [] ≡ ys ++ y ∷ [] → (xs ≡ ys) × (x ≡ y)
last_same [] [] x y e = (refl, cc (e))
last_same [] (z ∷ []) x y e = cc (e)
last_same [] (z ∷ w ∷ ys) x y e = cc (e)
last_same (z ∷ []) [] x y e = cc (e)
last_same (z ∷ w ∷ xs) [] x y e = cc (e)
last_same (z ∷ xs) (w ∷ ys) x y e = let tail : xs ++ x ∷ [] ≡ ys ++ y ∷ [] = cc (e) in
    let head : z ≡ w = cc (e) in
    let r = last_same xs ys x y tail in
    (rw (head, r.0) refl, r.1)

-- where a block is the innermost, the open blocks end with it
pub record EndsWith (blocks : List OpenBlock) (block : OpenBlock) : Type 0 where
  pub outer : List OpenBlock
  pub whole : blocks ≡ outer ++ block ∷ []

pub ends_with : (blocks : List OpenBlock) (block : OpenBlock)
    → Some block ≡ innermost_block blocks → EndsWith blocks block
ends_with [] block e = cc (e)
ends_with (b ∷ []) block e = record { outer = []; whole = ap (λ (x : OpenBlock). x ∷ []) (cc (e)) }
ends_with (b ∷ c ∷ blocks) block e = let next : length (b ∷ c ∷ blocks) - 1 ≡ suc (length blocks) = omega arith in
    let same : length blocks ≡ length (c ∷ blocks) - 1 = omega arith in
    let inner : Some block ≡ innermost_block (c ∷ blocks) = cc (e, next, same) in
    let r = ends_with (c ∷ blocks) block inner in
    record { outer = b ∷ r.outer; whole = ap (λ (x : List OpenBlock). b ∷ x) r.whole }

-- what is written where the innermost block is replaced
abbrev pub IsRewritten : Arena Item → Arena Item → OpenBlock → Type 0
IsRewritten old new block = (outer : List ℕ) (ix : ℕ) → old.spine ≡ outer ++ ix ∷ [] → new
    ≡ with_item old ix (open_item block)

abbrev pub IsReplaced : List OpenBlock → List OpenBlock → OpenBlock → Type 0
IsReplaced old new block = (outer : List OpenBlock) (last : OpenBlock) → old ≡ outer ++ last ∷ [] → new
    ≡ outer ++ block ∷ []

-- the levels stay
pub rewritten_levels : {s : State} (inner block : OpenBlock) (new : Arena Item) → IsSound s
    → Some inner ≡ innermost_block s.blocks → IsRewritten s.tree new block → levels_of new ≡ levels_of s.tree
rewritten_levels {s} inner block new k last write = let r = ends_with s.blocks inner last in
    search (arith, innermost_open, write_levels, r.outer, r.whole, s.tree, k.laid)

-- `change`
pub change_keeps : {s : State} (now : Standpoint) (inner : OpenBlock) (b : ItemBody) (blocks : List OpenBlock)
    (new : Arena Item) → IsSound s → seen s ≡ now → is_plain_block b ≡ true → is_leaf b ≡ now.leaf
    → Some inner ≡ innermost_block s.blocks → IsReplaced s.blocks blocks (record inner { body = b })
    → IsRewritten s.tree new (record inner { body = b }) → IsSound (record s { tree = new; blocks = blocks })
change_keeps {s} now inner b blocks new k e h leaf last replace write = let r = ends_with s.blocks inner last in
    let l = innermost_open s r.outer inner k r.whole in
    let p = block_facts b h in
    rw (replace r.outer inner r.whole, write l.0 l.1 l.2) (changed s l.0 r.outer l.1 inner b k r.whole l.2
    (leaf ∙ sym (ap (λ (v : Standpoint). v.leaf) e)) (plain_placed s.counts b p.0) p.0.texts p.0.alignments p.1)

-- `begin_later`
pub begin_later_keeps : {s : State} (now : Standpoint) (inner : OpenBlock)
    (start : ℕ) (blocks : List OpenBlock) (new : Arena Item) → IsSound s → seen s ≡ now → start ≤ now.at
    → IsCharBoundary now.text start → IfSome (innermost_block now.blocks) (λ block. IsWhite now.text block.start start)
    → Some inner ≡ innermost_block s.blocks → IsReplaced s.blocks blocks (record inner { start = start })
    → IsRewritten s.tree new (record inner { start = start }) → IsSound (record s { tree = new; blocks = blocks })
begin_later_keeps {s} now inner start blocks new k e low boundary white last replace write =
    let r = ends_with s.blocks inner last in
    let l = innermost_open s r.outer inner k r.whole in
    rw (replace r.outer inner r.whole, write l.0 l.1 l.2) (begun_later s l.0 r.outer l.1 inner start k r.whole l.2
    (rw (← e) at low) (rw (← e) at boundary) (rw (← last) at (rw (← e) at white)))

-- `finish`
none_entered : (nodes : List (Node Item)) (spine : List ℕ) → AreOpen nodes spine [] → spine ≡ []
none_entered nodes [] o = refl
none_entered nodes (s ∷ spine) o = absurd o

pub finish_spine : {s : State} (now : Standpoint) → IsSound s → seen s ≡ now → now.blocks ≡ [] → s.tree.spine ≡ []
finish_spine {s} now k e closed = none_entered s.tree.nodes s.tree.spine
    (rw (ap (λ (v : Standpoint). v.blocks) e ∙ closed) at k.stands.are_open)

pub finish_tight : {s : State} (now : Standpoint)
    → IsSound s → seen s ≡ now → now.blocks ≡ [] → TightInTightLists s.tree.nodes
finish_tight {s} now k e closed = tight_in_tight_lists s.tree (finish_spine now k e closed) k.lists

-- ---- trees after others

even_followed : (f g : Forest Shown) → HasEvenRows f → HasEvenRows g → HasEvenRows (followed_by f g)
even_followed nil g e h = h
even_followed (node a below after) g e h = (e.0, e.1, even_followed after g e.2 h)

contains_followed : (count : ℕ) (f g : Forest Shown)
    → EachRowContains count f → EachRowContains count g → EachRowContains count (followed_by f g)
contains_followed count nil g e h = h
contains_followed count (node a below after) g e h = (e.0, contains_followed count after g e.1 h)

-- among these trees there is no table and no row, and the rows in them are even
pub record AreApart (trees : Forest Shown) : Type 0 where
  pub even : HasEvenRows trees
  pub none : (count : ℕ) → EachRowContains count trees

-- an item that is no table and no row
one_apart : (a : Shown) → is_table a.item.body ≡ false → is_table_row a.item.body ≡ false → AreApart (node a nil nil)
one_apart a h1 h2 = grind (arith)

in_followed : (listed : List (List Alignment)) (b : ItemBody) (f g : Forest Shown)
    → KeepsRowsIn listed b f → AreApart g → KeepsRowsIn listed b (followed_by f g)
in_followed listed b f g h1 h2 = grind (arith, contains_followed, length)

-- there is a level
some_level : {X : Type 0} (listed : List (List Alignment)) (around : ItemBody) (blocks : List OpenBlock)
    → KeepOpenRows listed around blocks [] → X
some_level listed around [] k = absurd k
some_level listed around (block ∷ blocks) k = absurd k

-- they are appended
appended_rows : (listed : List (List Alignment))
    (around : ItemBody) (blocks : List OpenBlock) (levels : List (Forest Shown)) (trees : Forest Shown) → AreApart trees
    → KeepOpenRows listed around blocks levels → KeepOpenRows listed around blocks (with_trees levels trees)
appended_rows listed around [] (level ∷ []) trees apart k =
    (even_followed level trees k.0 apart.even, in_followed listed around level trees k.1 apart)
appended_rows listed around (block ∷ blocks) (level ∷ inner ∷ levels) trees apart k =
    (k.0, k.1, appended_rows listed block.body blocks (inner ∷ levels) trees apart k.2)
appended_rows listed around (block ∷ blocks) (level ∷ []) trees apart k = some_level listed block.body blocks k.2
appended_rows listed around blocks levels trees apart k = absurd k

-- ---- more alignments are listed

in_more : (listed more : List (List Alignment)) (b : ItemBody) (trees : Forest Shown)
    → KeepsRowsIn listed b trees → KeepsRowsIn (listed ++ more) b trees
in_more listed more b trees h1 = grind (arith, get_of_more, slice_get_within)

pub more_listed_rows : (listed more : List (List Alignment))
    (around : ItemBody) (blocks : List OpenBlock) (levels : List (Forest Shown))
    → KeepOpenRows listed around blocks levels → KeepOpenRows (listed ++ more) around blocks levels
more_listed_rows listed more around [] (level ∷ []) k = (k.0, in_more listed more around level k.1)
more_listed_rows listed more around (block ∷ blocks) (level ∷ levels) k =
    (k.0, in_more listed more around level k.1, more_listed_rows listed more block.body blocks levels k.2)
more_listed_rows listed more around blocks levels k = search (arith)

-- ---- a block is opened

opened_rows : (listed : List (List Alignment)) (around : ItemBody)
    (blocks : List OpenBlock) (block : OpenBlock) (levels : List (Forest Shown)) → KeepsRowsIn listed block.body nil
    → KeepOpenRows listed around blocks levels → KeepOpenRows listed around (blocks ++ block ∷ []) (levels ++ nil ∷ [])
opened_rows listed around [] block (level ∷ []) new k = (k.0, k.1, (tt, new))
opened_rows listed around (b ∷ blocks) block (level ∷ levels) new k =
    (k.0, k.1, opened_rows listed b.body blocks block levels new k.2)
opened_rows listed around blocks block levels new k = search (arith)

-- a block that is no table
pub in_no_table : (listed : List (List Alignment)) (b : ItemBody) (trees : Forest Shown)
    → is_table b ≡ false → KeepsRowsIn listed b trees
in_no_table listed b trees e = grind (arith)

pub plain_no_table : (b : ItemBody) → is_plain_block b ≡ true → is_table b ≡ false
plain_no_table b h = grind (arith)

-- ---- the innermost open block is replaced

rewritten_rows : (listed : List (List Alignment))
    (around : ItemBody) (outer : List OpenBlock) (block now : OpenBlock) (levels : List (Forest Shown))
    → ((trees : Forest Shown) → KeepsRowsIn listed block.body trees → KeepsRowsIn listed now.body trees)
    → KeepOpenRows listed around (outer ++ block ∷ []) levels → KeepOpenRows listed around (outer ++ now ∷ []) levels
rewritten_rows listed around [] block now (level ∷ inner ∷ []) h k = (k.0, k.1, (k.2.0, h inner k.2.1))
rewritten_rows listed around (b ∷ outer) block now (level ∷ levels) h k =
    (k.0, k.1, rewritten_rows listed b.body outer block now levels h k.2)
rewritten_rows listed around outer block now levels h k = search (arith)

-- ---- the innermost open block is closed

same_body : (b : ItemBody) → (is_table (tight_body b) ≡ is_table b) × (is_table_row (tight_body b) ≡ is_table_row b)
same_body b = grind (arith)

same_shown : (b : ItemBody) → (is_table (unnumbered b) ≡ is_table b) × (is_table_row (unnumbered b) ≡ is_table_row b)
same_shown b = grind (arith)

contains_tight : (count : ℕ) (f : Forest Shown)
    → EachRowContains count f → EachRowContains count (roots_changed tight_shown f)
contains_tight count nil e = tt
contains_tight count (node a below after) e =
    ((λ h. e.0 (sym (same_body a.item.body).1 ∙ h)), contains_tight count after e.1)

even_tight : (f : Forest Shown) → HasEvenRows f → HasEvenRows (roots_changed tight_shown f)
even_tight nil e = tt
even_tight (node a below after) e = ((λ h. e.0 (sym (same_body a.item.body).0 ∙ h)), e.1, even_tight after e.2)

even_items : (f : Forest Shown) → HasEvenRows f → HasEvenRows (items_changed tight_shown f)
even_items nil e = tt
even_items (node a below after) e =
    ((λ h. contains_tight (length a.alignments) below (e.0 h)), even_tight below e.1, even_items after e.2)

roots_items : (f : Forest Shown) → roots (items_changed tight_shown f) ≡ roots f
roots_items nil = refl
roots_items (node a below after) = ap (λ (xs : List Shown). a ∷ xs) (roots_items after)

even_chosen : (tight : Bool) (f : Forest Shown)
    → HasEvenRows f → HasEvenRows (cond tight (items_changed tight_shown f) f)
even_chosen tight f h1 = grind (arith, even_items)

roots_chosen : (tight : Bool) (f : Forest Shown) → roots (cond tight (items_changed tight_shown f) f) ≡ roots f
roots_chosen tight f = grind (arith, roots_items)

table_is_no_list : (b : ItemBody) → is_table b ≡ true → is_tight_list b ≡ false
table_is_no_list b h = grind (arith)

-- what is in a block keeps its rows when it is closed
kept_below : (a : Shown) (inside : Forest Shown) → KeepsRows a inside → KeepsRows a (settled_below a inside)
kept_below a inside k h = rw (table_is_no_list a.item.body h) (k h)

-- the item of a block that is closed
closed_item : (parts : Parts) (item : Item) (trees : Forest Shown)
    → KeepsRowsIn parts.alignments item.body trees → KeepsRows (shown_item parts item) trees
closed_item parts item trees h1 = grind (arith, is_table, unnumbered, length, alignments_shown)

-- where the innermost of some blocks is a row directly in a table, it contains as many items as that has alignments
abbrev pub IsEvenIn : List (List Alignment) → List OpenBlock → List (Forest Shown) → Type 0
IsEvenIn listed blocks levels = (outer : List OpenBlock) (table row : OpenBlock) (around : List (Forest Shown))
    (cells : Forest Shown) → blocks ≡ outer ++ table ∷ row ∷ [] → levels ≡ around ++ cells ∷ []
    → is_table table.body ≡ true → is_table_row row.body ≡ true
    → length (roots cells) ≡ length (alignments_shown listed table.body)

-- a row among the trees in a table
in_closed : (listed : List (List Alignment)) (b : ItemBody) (level : Forest Shown) (a : Shown) (below : Forest Shown)
    → (is_table b ≡ true → is_table_row a.item.body ≡ true → length (roots below) ≡ length (alignments_shown listed b))
    → KeepsRowsIn listed b level → KeepsRowsIn listed b (followed_by level (node a below nil))
in_closed listed b level a below h1 h2 = grind (arith, contains_followed, length, unwrap_or)

closed_rows : (parts : Parts) (around : OpenBlock)
    (any : Forest Shown) (outer : List OpenBlock) (block : OpenBlock) (item : Item) (levels : List (Forest Shown))
    → item.body ≡ block.body → IsEvenIn parts.alignments (around ∷ outer ++ block ∷ []) (any ∷ levels)
    → KeepOpenRows parts.alignments around.body (outer ++ block ∷ []) levels
    → KeepOpenRows parts.alignments around.body outer (with_block levels (shown_item parts item))
closed_rows parts around any [] block item (level ∷ inside ∷ []) same even k = let a = shown_item parts item in
    let settled = settled_below a inside in
    let count : length (roots settled) ≡ length (roots inside) = cc (roots_chosen (is_tight_list a.item.body) inside) in
    let item_keeps : KeepsRows a inside = closed_item parts item inside (rw same k.2.1) in (
      even_followed level (node a settled nil) k.0
          (kept_below a inside item_keeps, even_chosen (is_tight_list a.item.body) inside k.2.0, tt),
      in_closed parts.alignments around.body level a settled
          (λ table row. count ∙ even [] around block (any ∷ level ∷ []) inside refl refl table
          (ap is_table_row (sym same) ∙ (sym (same_shown item.body).1 ∙ row))) k.1,
    )
closed_rows parts around any (b ∷ outer) block item (level ∷ inner ∷ deeper ∷ levels) same even k = (
  k.0,
  k.1,
  closed_rows parts b level outer block item (inner ∷ deeper ∷ levels) same
      (λ before table row rest cells x y. even (around ∷ before) table row (any ∷ rest) cells
      (ap (λ (bs : List OpenBlock). around ∷ bs) x) (ap (λ (ls : List (Forest Shown)). any ∷ ls) y)) k.2,
)
closed_rows parts around any (b ∷ outer) block item (level ∷ []) same even k =
    some_level parts.alignments b.body (outer ++ block ∷ []) k.2
closed_rows parts around any (b ∷ []) block item (level ∷ inner ∷ []) same even k = absurd k.2.2
closed_rows parts around any (b ∷ c ∷ outer) block item (level ∷ inner ∷ []) same even k =
    some_level parts.alignments c.body (outer ++ block ∷ []) k.2.2
closed_rows parts around any outer block item levels same even k = search (arith)

-- no block is around the outermost
abbrev root_block : OpenBlock
root_block = record { start = 0; body = body.Root }

even_in_root : (listed : List (List Alignment)) (blocks : List OpenBlock) (levels : List (Forest Shown))
    → IsEvenIn listed blocks levels
    → KeepOpenRows listed body.Root blocks levels → IsEvenIn listed (root_block ∷ blocks) (nil ∷ levels)
even_in_root listed blocks levels even k [] table row around cells x y is_t is_r =
    let e : root_block ≡ table = cc (x) in
    let root : is_table body.Root ≡ true = ap (λ (b : OpenBlock). is_table b.body) e ∙ is_t in cc (root)
even_in_root listed blocks [] even k (b ∷ outer) table row around cells x y is_t is_r =
    some_level listed body.Root blocks k
even_in_root listed blocks (l ∷ levels) even k (b ∷ outer) table row [] cells x y is_t is_r = cc (y)
even_in_root listed blocks (l ∷ levels) even k (b ∷ outer) table row (first ∷ around) cells x y is_t is_r =
    even outer table row around cells (cc (x)) (cc (y)) is_t is_r

-- ---- by what the levels are

-- an item is appended that is no table and no row
pub item_rows : (listed : List (List Alignment)) (blocks : List OpenBlock) (levels now : List (Forest Shown))
    (a : Shown) → now ≡ with_items levels (a ∷ []) → (is_table a.item.body ≡ false) × (is_table_row a.item.body ≡ false)
    → KeepOpenRows listed body.Root blocks levels → KeepOpenRows listed body.Root blocks now
item_rows listed blocks levels now a e apart k =
    rw e (appended_rows listed body.Root blocks levels (node a nil nil) (one_apart a apart.0 apart.1) k)

-- the characters of a delimiter run are appended
apart_run : (stop : ℕ) (opens closes : Bool) (count : ℕ) → AreApart (chain_of (run_items stop opens closes count))
apart_run stop opens closes zero = record { even = tt; none = λ count. tt }
apart_run stop opens closes (suc count) = let rest = apart_run stop opens closes count in
    record { even = ((λ h. cc (h)), tt, rest.even); none = λ many. ((λ h. cc (h)), rest.none many) }

pub run_rows : (listed : List (List Alignment)) (blocks : List OpenBlock) (levels now : List (Forest Shown))
    (stop : ℕ) (opens closes : Bool) (count : ℕ) → now ≡ with_items levels (run_items stop opens closes count)
    → KeepOpenRows listed body.Root blocks levels → KeepOpenRows listed body.Root blocks now
run_rows listed blocks levels now stop opens closes count e k =
    rw e (appended_rows listed body.Root blocks levels _ (apart_run stop opens closes count) k)

-- some of the Texts of which they are made
apart_followed : (f g : Forest Shown) → AreApart f → AreApart g → AreApart (followed_by f g)
apart_followed f g h1 h2 = grind (arith, even_followed, contains_followed)

apart_texts : (parts : Parts) (start count : ℕ) → AreApart (shown_trees parts (byte_texts start count))
apart_texts parts start zero = record { even = tt; none = λ count. tt }
apart_texts parts start (suc count) = rw (relabelled_followed
    (shown_item parts) (byte_texts start count) (node (byte_text (start + count)) nil nil)) (apart_followed _ _
    (apart_texts parts start count) (one_apart (shown_item parts (byte_text (start + count))) refl refl))

pub texts_rows : (parts : Parts) (blocks : List OpenBlock) (tree : Arena Item) (start count : ℕ)
    → IsLaidOut tree → KeepOpenRows parts.alignments body.Root blocks (shown_levels parts (levels_of tree))
    → KeepOpenRows parts.alignments body.Root blocks (shown_levels parts (levels_of (texts_appended tree start count)))
texts_rows parts blocks tree start count laid k =
    rw (texts_levels tree start count laid, trees_shown parts (levels_of tree) (byte_texts start count))
    (appended_rows parts.alignments body.Root blocks _ _ (apart_texts parts start count) k)

-- a block is opened
pub block_rows : (listed : List (List Alignment)) (blocks : List OpenBlock) (block : OpenBlock)
    (levels now : List (Forest Shown)) → now ≡ levels ++ nil ∷ [] → KeepsRowsIn listed block.body nil
    → KeepOpenRows listed body.Root blocks levels → KeepOpenRows listed body.Root (blocks ++ block ∷ []) now
block_rows listed blocks block levels now e new k = rw e (opened_rows listed body.Root blocks block levels new k)

-- a block is not entered, and an empty paragraph may be there in its place
pub refused_rows : (parts : Parts) (blocks : List OpenBlock) (tree now : Arena Item) (at : ℕ)
    → (levels : List (Forest Shown)) → shown_levels parts (levels_of tree) ≡ levels
    → IsLaidOut tree → (now ≡ tree) ⊎ (now ≡ appended tree (record { start = at; end = at; body = body.Paragraph }))
    → KeepOpenRows parts.alignments body.Root blocks levels
    → KeepOpenRows parts.alignments body.Root blocks (shown_levels parts (levels_of now))
refused_rows parts blocks tree now at levels h1 h2 h3 h4 =
    grind (arith, append_levels, trees_shown, levels_of, appended_rows, one_apart, shown_item)

-- the innermost open block is replaced
pub replaced_rows : (listed : List (List Alignment)) (inner block : OpenBlock) (old new : List OpenBlock)
    (levels : List (Forest Shown)) → Some inner ≡ innermost_block old → IsReplaced old new block
    → ((trees : Forest Shown) → KeepsRowsIn listed inner.body trees → KeepsRowsIn listed block.body trees)
    → KeepOpenRows listed body.Root old levels → KeepOpenRows listed body.Root new levels
replaced_rows listed inner block old new levels last replace h k = let r = ends_with old inner last in
    rw (replace r.outer inner r.whole) (rewritten_rows listed body.Root r.outer inner block levels h (rw r.whole at k))

-- the innermost open block is closed
pub block_closed_rows : (parts : Parts) (blocks outer : List OpenBlock)
    (block : OpenBlock) (item : Item) (levels now : List (Forest Shown)) → blocks ≡ outer ++ block ∷ []
    → item.body ≡ block.body → IsEvenIn parts.alignments blocks levels → now ≡ with_block levels (shown_item parts item)
    → KeepOpenRows parts.alignments body.Root blocks levels → KeepOpenRows parts.alignments body.Root outer now
block_closed_rows parts blocks outer block item levels now whole same even e k = rw e
    (closed_rows parts root_block nil outer block item levels same
    (rw whole at (even_in_root parts.alignments blocks levels even k)) (rw whole at k))

-- nothing is open
pub finished_rows : (listed : List (List Alignment))
    (blocks : List OpenBlock) (trees : Forest Shown) (levels : List (Forest Shown))
    → blocks ≡ [] → levels ≡ trees ∷ [] → KeepOpenRows listed body.Root blocks levels → HasEvenRows trees
finished_rows listed blocks trees levels h1 h2 h3 = grind (arith)
