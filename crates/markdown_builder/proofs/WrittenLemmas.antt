-- What a builder keeps where an item is written in the place of another: another open block; where none is open, a
-- tight paragraph; and the characters of a delimiter run in the place of the Texts of its bytes.
use Rattle.std.proofs.Common.{◌≡◌, ℕ, ◌<◌, ◌≤◌, List, [], ◌∷◌, ◌++◌, Option, Some, None, Bool, true, false, length}
use Rattle.std.proofs.Common.{refl, sym, ap, ◌∙◌, subst, arith, ⊎_elim, zero, suc, ◌+◌, ◌-◌}
use Rattle.std.specs.Prelude.{⊤, IfSome, ◌==◌, slice_index}
use Rattle.std.specs.List.{AllByRecursion}
use Rattle.std.specs.Str.{IsCharBoundary}
use Rattle.std.proofs.lemmas.Bool.{cases_lt}
use Rattle.markdown_base.specs.declared.block_parts.LinkDef.{LinkDef}
use Rattle.markdown_base.specs.declared.cow_str.CowStr.{CowStr}
use Rattle.markdown_base.specs.declared.item.Item.{Item}
use Rattle.markdown_base.specs.declared.item.ItemBody.{ItemBody}
use Rattle.markdown_base.specs.declared.item.ItemBody.TheVariants as body
use Rattle.markdown_base.specs.declared.node.Node.{Node}
use Rattle.markdown_base.specs.Arena.{Arena, sibling_of}
use Rattle.markdown_base.specs.ArenaForest.{links_of}
use Rattle.markdown_base.specs.BlockTree.{Numbered, item_at, numbered}
use Rattle.markdown_base.specs.Coverage.{is_inside}
use Rattle.markdown_base.specs.Item.{range_of, is_inline, is_childless, is_tight_paragraph, text_named}
use Rattle.markdown_base.specs.Item.{alignments_named}
use Rattle.markdown_base.specs.WellFormed.{source_of, run_character, byte_of, is_delimiter, EndsRun, RunGoesOn}
use Rattle.markdown_base.specs.WellFormed.{RunsAreWhole}
use Rattle.markdown_base.proofs.ArenaLemmas.{All-snoc, All-front, All-last}
use Rattle.markdown_builder.specs.declared.open_block.OpenBlock.{OpenBlock}
use Rattle.markdown_builder.specs.Bodies.{is_leaf}
use Rattle.markdown_builder.specs.BuilderView.{IsWhite, IsRunOf, follows_run}
use Rattle.markdown_builder.specs.Rising.{link_of, place_down, place_at}
use Rattle.markdown_builder.specs.BuilderRules.{ItemFits, LinkFits, MayReplace, KeepsRuns}
use Rattle.markdown_builder.specs.Standing.{State, open_item, with_item, AreOpen, OnlyLastIsLeaf, IsTopPlace}
use Rattle.markdown_builder.specs.Standing.{covered_to, AreCovered, Stands, LastRun, IsSound, IsOpenAt}
use Rattle.markdown_builder.specs.Levels.{IsLaidOut}
use Rattle.markdown_builder.specs.TreeSteps.{Tightens, none_tight, one_tight, TightensList, is_paragraph, tight}
use Rattle.markdown_builder.specs.TreeSteps.{byte_text, texts_appended, run_marked}
use Rattle.markdown_builder.specs.ClosedLists.{IsNotOpen, ListsAreTight}
use Rattle.markdown_builder.proofs.NodeWriteLemmas.{item_over, MayBePlaced, placed_fits, block_no_run, block_markup}
use Rattle.markdown_builder.proofs.NodeWriteLemmas.{settled_alone, parent_not_inline, plain, plain_placed, placed_new}
use Rattle.markdown_builder.proofs.NodeWriteLemmas.{run_boundary, same_or_not, fits_from, stays_fit, write_keeps}
use Rattle.markdown_builder.proofs.NodeWriteLemmas.{Writes, item_writes, runs_written, IsNewLink, which_link, Grows}
use Rattle.markdown_builder.proofs.NodeWriteLemmas.{at_number, character_replaced, runs_rewritten}
use Rattle.markdown_builder.proofs.LaidLemmas.{write_is_laid, run_is_laid}
use Rattle.markdown_builder.proofs.ClosedListLemmas.{is_a_paragraph, lists_written, open_is_loose, lists_closed}
use Rattle.markdown_builder.proofs.StepLemmas.{IsInnermost, open_snoc, open_unsnoc, open_written, top_stays, not_inside}
use Rattle.markdown_builder.proofs.StepLemmas.{covered_stays, covered_white, block_replaces, IsLeft, Appended}
use Rattle.markdown_builder.proofs.StepLemmas.{appended_fits, link_stays, added}
use Rattle.markdown_base.specs.ArenaChanges.{appended}
use Rattle.std.specs.Option.{option_map}
use Rattle.std.proofs.lemmas.Bool.Decides.{nat_tests}
use Rattle.markdown_base.specs.ArenaRules.{next_at}
use Rattle.markdown_builder.specs.Tightness.{is_tight_list}
use Rattle.markdown_builder.specs.TreeLevels.{run_item}

-- what may follow at a place may follow where an item of the same kind is written
still_fits : (old new : List (Node Item)) (number place : ℕ) (x y : Item) (d : Bool) → Writes old new number x
    → MayReplace (item_at old number) x → LinkFits d (numbered old place) (record { number = length old; item = y })
    → LinkFits d (numbered new place) (record { number = length new; item = y })
still_fits old new number place x y d w m l = let z : Numbered = record { number = length old; item = y } in
    rw w.size (stays_fit (λ (a : Numbered). LinkFits d a z) old new number place x w
    (λ q. fits_from d (numbered old place) (record { number = place; item = x }) z refl
    (subst (λ (n : ℕ). MayReplace (item_at old n) x) (sym q) m) l) l)

-- what stands on top stays there
top_kept : (old new : List (Node Item))
    → ((d : Bool) (i j : ℕ) → link_of (links_of old) d i ≡ Some j → link_of (links_of new) d i ≡ Some j)
    → (spine : List ℕ) (cursor : Option ℕ) → IsTopPlace old spine cursor → IsTopPlace new spine cursor
top_kept old new h1 spine cursor h2 = grind (arith, top_stays)

-- an item is written where it covers what the one there covered, and the open blocks may have changed with it
pub written : (s : State) (number : ℕ) (x : Item) (blocks : List OpenBlock) → Stands s → 0 < number
    → number < length s.tree.nodes → ItemFits s.text s.counts x → MayReplace (item_at s.tree.nodes number) x
    → ((p : ℕ) → is_inside p (range_of (item_at s.tree.nodes number)) ≡ true → is_inside p (range_of x) ≡ true)
    → AreOpen (with_item s.tree number x).nodes s.tree.spine blocks
    → OnlyLastIsLeaf blocks s.leaf → AreCovered s.text s.tree.nodes s.definitions (covered_to blocks s.at)
    → AllByRecursion (λ b. b.start ≤ s.at) blocks
    → Stands (record s { tree = with_item s.tree number x; blocks = blocks })
written s number x blocks h positive low fits m stays opens leaves covered begun = let old = s.tree.nodes in
    let new = (with_item s.tree number x).nodes in
    let w : Writes old new number x = item_writes old number x low in
    let links : (d : Bool) (i j : ℕ) → link_of (links_of old) d i ≡ Some j
    → link_of (links_of new) d i ≡ Some j = λ d i j q. w.all_links d i ∙ q in
    record {
      nodes = write_keeps s.text s.counts old new number x h.nodes w positive fits m;
      low = omega (arith, h.low, w.size);
      free = w.all_links (place_down s.tree.cursor) (place_at s.tree.spine s.tree.cursor) ∙ h.free;
      fits = λ y q l. still_fits old new number (place_at s.tree.spine s.tree.cursor) x y (place_down s.tree.cursor) w m
          (h.fits y q l);
      are_open = opens;
      leaves = leaves;
      after = h.after;
      top = top_kept old new links s.tree.spine s.tree.cursor h.top;
      covered = covered_stays s.text old new s.definitions (covered_to blocks s.at) (λ p b. record {
        number = b.number;
        top = top_stays old new links b.number b.top;
        inside = ⊎_elim (λ (q : b.number ≡ number). rw (q, w.new_item) (stays p (rw q at b.inside)))
            (λ (q : b.number ≡ number → ⊥). rw (w.old_items b.number q) b.inside) (same_or_not b.number number);
      }) covered;
      boundary = h.boundary;
      begun = begun;
      ranges = h.ranges;
    }

-- where no character of a run is written, the run in focus stays
last_written : (text : List ℕ) (old new : List (Node Item)) (number : ℕ) (x : Item) (cursor run : Option ℕ)
    → Writes old new number x → run_character x.body ≡ None → LastRun text old cursor run → LastRun text new cursor run
last_written text old new number x cursor run h1 h2 h3 = grind (arith, item_at, run_character, byte_of, same_or_not)

-- a block is written in the place of a block
pub block_written : (s : State) (number : ℕ) (x : Item) (blocks : List OpenBlock)
    → IsSound s → number < length s.tree.nodes → is_inline (item_at s.tree.nodes number).body ≡ false
    → is_inline x.body ≡ false → is_tight_paragraph x.body ≡ false → (IsNotOpen s.tree.spine number → ⊥)
    → IsLaidOut (with_item s.tree number x) → Stands (record s { tree = with_item s.tree number x; blocks = blocks })
    → IsSound (record s { tree = with_item s.tree number x; blocks = blocks })
block_written s number x blocks k low was now loose is_in laid h = let old = s.tree.nodes in
    let new = (with_item s.tree number x).nodes in
    let w : Writes old new number x = item_writes old number x low in
    let none = block_no_run x.body now in
    search (arith, runs_written, block_no_run, last_written, lists_written, k.stands.nodes.rising, k.lists)

-- nothing is required of the nodes that were entered
pub all_true : (spine : List ℕ) → AllByRecursion (λ t. ⊤) spine
all_true [] = tt
all_true (t ∷ spine) = (tt, all_true spine)

-- ---- tight paragraphs

-- what is kept of a builder in which the blocks before a number are open, where paragraphs from there on are made tight
pub record StandsBelow (from : ℕ) (s : State) : Type 0 where
  pub below : AllByRecursion (λ t. t < from) s.tree.spine
  pub stands : Stands s
  pub runs : KeepsRuns s.text s.tree.nodes
  pub last_run : LastRun s.text s.tree.nodes s.tree.cursor s.run

-- a paragraph is made tight
made_tight : (from : ℕ) (s : State) (number : ℕ) → StandsBelow from s
    → from ≤ number → number < length s.tree.nodes → is_paragraph (item_at s.tree.nodes number).body ≡ true
    → StandsBelow from (record s { tree = with_item s.tree number (tight (item_at s.tree.nodes number)) })
made_tight from s number k after low passes = let old = s.tree.nodes in
    let item = item_at old number in
    let x = tight item in
    let new = (with_item s.tree number x).nodes in
    let w : Writes old new number x = item_writes old number x low in
    let p : item.body ≡ body.Paragraph = is_a_paragraph item.body passes in
    let positive : 0 < number = search (arith, item_at, cases_lt) in
    let range = (k.stands.nodes.items number positive low).ranges_lie_in in
    let was : is_inline item.body ≡ false = rw p refl in
    let fits : ItemFits s.text s.counts x = search (arith, settled_alone, range.ordered, range.start, range.end) in
    let m : MayReplace item x = block_replaces item x was refl (rw p refl) (rw p refl) (λ t e. cc (e)) (λ t e. cc (e))
    in
    let opens : AreOpen new s.tree.spine s.blocks =
    search (arith, open_written, s.tree.spine, s.blocks, k.below, k.stands.are_open) in
    search (arith, written, runs_written, block_no_run, last_written)

-- some paragraphs are made tight
tightens_keeps : (from : ℕ) (s : State) (tree : Arena Item)
    → StandsBelow from s → Tightens from s.tree tree → StandsBelow from (record s { tree = tree })
tightens_keeps from s tree k none_tight = k
tightens_keeps from s tree k (one_tight t number before after low p) = made_tight from (record s { tree = t }) number
    (tightens_keeps from s t k before) after low p

-- the list that was left is made tight, if it is a tight list
pub list_made_tight : (n : ℕ) (s : State) (tree : Arena Item) → IsLeft n s
    → s.tree.cursor ≡ Some n → TightensList n s.tree tree → IsLaidOut tree → IsSound (record s { tree = tree })
list_made_tight n s tree k at t laid =
    search (arith, tightens_keeps, lists_closed, t.steps, s.tree, k.stands.nodes.rising, k.low, k.below, k.others)

-- ---- another open block in the place of the innermost

-- the innermost open block is open
is_open : (all spine : List ℕ) (n : ℕ) → all ≡ spine ++ n ∷ [] → IsNotOpen all n → ⊥
is_open all spine n split o = All-last (λ t. t ≡ n → ⊥) spine n (rw split at o) refl

-- the innermost open block is a leaf just where a leaf is open
leaf_last : (blocks : List OpenBlock) (block : OpenBlock) (leaf : Bool)
    → OnlyLastIsLeaf (blocks ++ block ∷ []) leaf → leaf ≡ is_leaf block.body
leaf_last [] block leaf h = h
leaf_last (b ∷ []) block leaf h = h.1
leaf_last (b ∷ c ∷ blocks) block leaf h = leaf_last (c ∷ blocks) block leaf h.1

leaves_changed : (blocks : List OpenBlock) (block other : OpenBlock) (leaf : Bool) → leaf ≡ is_leaf other.body
    → OnlyLastIsLeaf (blocks ++ block ∷ []) leaf → OnlyLastIsLeaf (blocks ++ other ∷ []) leaf
leaves_changed [] block other leaf e h = e
leaves_changed (b ∷ []) block other leaf e h = (h.0, e)
leaves_changed (b ∷ c ∷ blocks) block other leaf e h = (h.0, leaves_changed (c ∷ blocks) block other leaf e h.1)

-- the innermost open block, as it stands
pub record StandsInnermost (s : State) (n : ℕ) (block : OpenBlock) (spine : List ℕ) (blocks : List OpenBlock) : Type 0
  where
    pub innermost : IsInnermost s.tree.nodes n block spine blocks
    pub fits : ItemFits s.text s.counts (open_item block)
    pub leaves : OnlyLastIsLeaf (blocks ++ block ∷ []) s.leaf
    pub begun : AllByRecursion (λ c. c.start ≤ s.at) (blocks ++ block ∷ [])
    pub covered : AreCovered s.text s.tree.nodes s.definitions (covered_to (blocks ++ block ∷ []) s.at)

pub innermost_stands : (s : State) (spine : List ℕ) (blocks : List OpenBlock) (n : ℕ) (block : OpenBlock) → IsSound s
    → s.blocks ≡ blocks ++ block ∷ [] → s.tree.spine ≡ spine ++ n ∷ [] → StandsInnermost s n block spine blocks
innermost_stands s spine blocks n block h1 h2 h3 = grind (arith, open_unsnoc)

-- another block is open in its place: of the same kind, and all before it is covered
pub replaced : (s : State) (spine : List ℕ) (blocks : List OpenBlock) (n : ℕ) (block other : OpenBlock)
    → IsSound s → s.tree.spine ≡ spine ++ n ∷ []
    → StandsInnermost s n block spine blocks → ItemFits s.text s.counts (open_item other)
    → MayReplace (open_item block) (open_item other) → is_tight_paragraph other.body ≡ false
    → other.start ≤ s.at → AreCovered s.text s.tree.nodes s.definitions (covered_to (blocks ++ other ∷ []) s.at)
    → IsSound (record s { tree = with_item s.tree n (open_item other); blocks = blocks ++ other ∷ [] })
replaced s spine blocks n block other k split o fits may loose begun covered = let h = o.innermost.here in
    let x : Item = open_item other in
    let old = s.tree.nodes in
    let new = (with_item s.tree n x).nodes in
    let w : Writes old new n x = item_writes old n x h.low in
    let inline : is_inline block.body ≡ false = parent_not_inline block.body h.parent in
    let was : is_inline (item_at old n).body ≡ false = ap (λ (y : Item). is_inline y.body) h.item ∙ inline in
    let m : MayReplace (item_at old n) x = rw h.item may in
    let others : AreOpen new spine blocks = open_written (λ t. t < n) old new n x w
    (λ t c l q z. absurd (omega (arith, z, l))) spine blocks o.innermost.above o.innermost.others in
    let opens : AreOpen new (spine ++ n ∷ []) (blocks ++ other ∷ []) = open_snoc new n other spine blocks others
    o.innermost.above (record {
      positive = h.positive;
      low = omega (arith, h.low, w.size);
      last = w.all_links false n ∙ h.last;
      item = w.new_item;
      parent = may.childless ∙ h.parent;
    }) in
    block_written s n x
    (blocks ++ other ∷ []) k h.low was (may.inline ∙ inline) loose (is_open s.tree.spine spine n split)
    (write_is_laid s.tree spine n x k.laid split) (written s n x (blocks ++ other ∷ []) k.stands h.positive h.low fits m
    (λ p i. absurd (not_inside p block.start (rw h.item at i))) (rw split opens)
    (leaves_changed blocks block other s.leaf (leaf_last blocks block s.leaf o.leaves ∙ sym may.leaf) o.leaves) covered
    (All-snoc (λ c. c.start ≤ s.at) blocks other (All-front (λ c. c.start ≤ s.at) blocks block o.begun) begun))

-- as much is covered where it begins there too
covered_changed : (text : List ℕ) (nodes : List (Node Item))
    (definitions : List (CowStr × LinkDef)) (blocks : List OpenBlock) (block : OpenBlock) (b : ItemBody) (at : ℕ)
    → AreCovered text nodes definitions (covered_to (blocks ++ block ∷ []) at)
    → AreCovered text nodes definitions (covered_to (blocks ++ record block { body = b } ∷ []) at)
covered_changed text nodes definitions [] block b at c = c
covered_changed text nodes definitions (x ∷ blocks) block b at c = c

-- and where it begins after white space
covered_later : (text : List ℕ) (nodes : List (Node Item))
    (definitions : List (CowStr × LinkDef)) (blocks : List OpenBlock) (block : OpenBlock) (start at : ℕ)
    → AreCovered text nodes definitions (covered_to (blocks ++ block ∷ []) at) → IsWhite text block.start start
    → AreCovered text nodes definitions (covered_to (blocks ++ record block { start = start } ∷ []) at)
covered_later text nodes definitions [] block start at c w = covered_white text nodes definitions block.start start c w
covered_later text nodes definitions (x ∷ blocks) block start at c w = c

-- the innermost open block gets another body of the same kind
pub changed : (s : State) (spine : List ℕ) (blocks : List OpenBlock) (n : ℕ) (block : OpenBlock) (b : ItemBody)
    → IsSound s → s.blocks ≡ blocks ++ block ∷ [] → s.tree.spine ≡ spine ++ n ∷ [] → is_leaf b ≡ s.leaf
    → MayBePlaced s.counts s.counts b → text_named b ≡ None → alignments_named b ≡ None → is_childless b ≡ false
    → IsSound (record s {
      tree = with_item s.tree n (item_over block.start block.start b);
      blocks = blocks ++ record block { body = b } ∷ [];
    })
changed s spine blocks n block b k whole split leaf placed no_text no_alignments parent =
    let other : OpenBlock = record block { body = b } in
    let o = innermost_stands s spine blocks n block k whole split in
    let inline : is_inline b ≡ false = parent_not_inline b parent in
    let same_leaf : is_leaf b ≡ is_leaf block.body = leaf ∙ leaf_last blocks block s.leaf o.leaves in
    replaced s spine blocks n block other k split o
    (placed_fits s.text s.counts s.counts block.start block.start b placed
    (block_markup b (source_of s.text (open_item other)) inline)
    (record { ordered = omega arith; start = o.fits.ranges_lie_in.start; end = o.fits.ranges_lie_in.start }))
    (block_replaces (open_item block) (open_item other) (parent_not_inline block.body o.innermost.here.parent) inline
    same_leaf (parent ∙ sym o.innermost.here.parent) (λ t e. cc (no_text, e))
    (λ t e. cc (no_alignments, e))) placed.loose (All-last (λ c. c.start ≤ s.at) blocks block o.begun)
    (covered_changed s.text s.tree.nodes s.definitions blocks block b s.at o.covered)

-- the innermost open block begins later, after white space
pub begun_later : (s : State) (spine : List ℕ) (blocks : List OpenBlock) (n : ℕ) (block : OpenBlock) (start : ℕ)
    → IsSound s → s.blocks ≡ blocks ++ block ∷ [] → s.tree.spine ≡ spine ++ n ∷ [] → start ≤ s.at
    → IsCharBoundary s.text start → IsWhite s.text block.start start → IsSound (record s {
      tree = with_item s.tree n (item_over start start block.body);
      blocks = blocks ++ record block { start = start } ∷ [];
    })
begun_later s spine blocks n block start k whole split low boundary white = let b = block.body in
    let other : OpenBlock = record block { start = start } in
    let o = innermost_stands s spine blocks n block k whole split in
    let inline : is_inline b ≡ false = parent_not_inline b o.innermost.here.parent in
    replaced s spine blocks n block other k split o (record {
      ranges_lie_in = record { ordered = omega arith; start = boundary; end = boundary };
      nothing_resolved = o.fits.nothing_resolved;
      markup_is_there = block_markup b (source_of s.text (open_item other)) inline;
      parts_are_named = o.fits.parts_are_named;
      blocks_are_settled = o.fits.blocks_are_settled;
    }) (block_replaces (open_item block) (open_item other) inline inline refl refl (λ t e. e) (λ t e. e))
    (ap (λ (y : Item). is_tight_paragraph y.body) (sym o.innermost.here.item)
    ∙ open_is_loose s.tree.nodes s.tree.spine s.tree.cursor n k.stands.nodes.rising k.lists
    (is_open s.tree.spine spine n split)) low
    (covered_later s.text s.tree.nodes s.definitions blocks block start s.at o.covered white)

-- ---- the Texts of a delimiter run

-- an item that may directly precede a run of a character: it does not end a run of the same character
abbrev pub MayPrecede : List ℕ → ℕ → Item → Type 0
MayPrecede text byte item = IfSome (run_character item.body) (λ c. (byte == byte_of text item) ≡ false)

-- the item at the cursor may, where the run that callers see is of another character
last_precedes : (text : List ℕ) (nodes : List (Node Item)) (cursor run : Option ℕ) (c byte : ℕ) → cursor ≡ Some c
    → LastRun text nodes cursor run → follows_run run byte ≡ false → MayPrecede text byte (item_at nodes c)
last_precedes text nodes cursor run c byte h1 h2 h3 = grind (arith, byte_of, item_at)

-- a number of Texts follow what was there
pub record TextsStand (s : State) (byte count : ℕ) (t : Arena Item) : Type 0 where
  pub sound : IsSound (record s { tree = t; at = s.at + count })
  pub size : length t.nodes ≡ length s.tree.nodes + count
  pub texts : (n : ℕ)
      → length s.tree.nodes ≤ n → n < length t.nodes → item_at t.nodes n ≡ byte_text (s.at + (n - length s.tree.nodes))
  pub next : (n : ℕ) → length s.tree.nodes ≤ n → suc n < length t.nodes → sibling_of t.nodes n ≡ Some (suc n)
  pub before : (i n : ℕ)
      → length s.tree.nodes ≤ n → sibling_of t.nodes i ≡ Some n → MayPrecede s.text byte (item_at t.nodes i)
  pub cursor : (k : ℕ) → count ≡ suc k → t.cursor ≡ Some (length s.tree.nodes + k)

pub texts_stand : (s : State) (byte end count : ℕ)
    → IsSound s → s.leaf ≡ true → IsRunOf byte s.text s.at end → byte < 128
    → follows_run s.run byte ≡ false → s.at + count ≤ end → TextsStand s byte count (texts_appended s.tree s.at count)
texts_stand s byte end zero k leaf run ascii other low = record {
  sound = let e : s.at ≡ s.at + 0 = omega arith in rw e at k;
  size = omega arith;
  texts = λ n a b. absurd (omega (arith, a, b));
  next = λ n a b. absurd (omega (arith, a, b));
  before = λ i n a e. let r = k.stands.nodes.rising.rises false i n e in absurd (omega (arith, a, r.1));
  cursor = λ j e. absurd (omega (arith, e));
}
texts_stand s byte end (suc count) k leaf run ascii other low =
    let p = texts_stand s byte end count k leaf run ascii other (omega (arith, low)) in
    let t = texts_appended s.tree s.at count in
    let here : State = record s { tree = t; at = s.at + count } in
    let b = body.Text false in
    let x : Item = byte_text (s.at + count) in
    let placed = plain_placed s.counts b (plain refl refl refl refl refl refl refl) in
    let fits = placed_fits s.text s.counts s.counts (s.at + count) (s.at + count + 1) b placed tt (record {
      ordered = omega arith;
      start = p.sound.stands.boundary;
      end = run_boundary s.text s.at end byte k.utf8 run ascii (s.at + count + 1) (omega arith) (omega (arith, low));
    }) in
    let names = placed_new s.counts s.counts (s.at + count) (s.at + count + 1) b placed in
    let a : Appended here s.counts x = appended_fits here s.counts x p.sound.stands placed.more fits names (sym leaf)
    (omega arith) in
    let new = (appended t x).nodes in
    let g = a.grows in
    let old_link : (d : Bool) (i j : ℕ) → link_of (links_of t.nodes) d i ≡ Some j → link_of (links_of new) d i
    ≡ Some j = link_stays t.nodes new (place_down t.cursor) (place_at t.spine t.cursor) x g p.sound.stands.free in
    record {
      sound = let e : s.at + count + 1 ≡ s.at + suc count = omega arith in
          rw (← e) (added here s.counts (s.at + count + 1) b s.run p.sound placed.more fits names (sym leaf) refl refl);
      size = omega (arith, g.size, p.size);
      texts = search (arith, cases_lt, t.nodes, g.old_items, p.texts, g.size, s.at, s.tree.nodes, p.size, g.new_item);
      next = λ n lo hi. ⊎_elim (λ (h : suc n < length t.nodes). old_link false n (suc n) (p.next n lo h))
          (λ (h : length t.nodes ≤ suc n). newest n lo (omega (arith, h, hi, g.size)) p g)
          (cases_lt (suc n) (length t.nodes));
      before = λ i n lo e. ⊎_elim
          (λ (q : IsNewLink (length t.nodes) (place_down t.cursor) false (place_at t.spine t.cursor) i n).
          first_before i q.side q.from p g)
          (λ (q : link_of (links_of t.nodes) false i ≡ Some n). let r = p.sound.stands.nodes.rising.rises false i n q in
          rw (g.old_items i (omega (arith, r.0, r.1))) (p.before i n lo q))
          (which_link t.nodes new (place_down t.cursor) (place_at t.spine t.cursor) x g false i n e);
      cursor = search (arith, t.nodes, s.tree.nodes, p.size);
    }
  where
    newest : (n : ℕ) → length s.tree.nodes ≤ n → suc n ≡ length (texts_appended s.tree s.at count).nodes
        → TextsStand s byte count (texts_appended s.tree s.at count)
        → Grows (texts_appended s.tree s.at count).nodes (appended (texts_appended s.tree s.at count)
        (byte_text (s.at + count))).nodes (place_down (texts_appended s.tree s.at count).cursor) (place_at
        (texts_appended s.tree s.at count).spine (texts_appended s.tree s.at count).cursor) (byte_text (s.at + count))
        → sibling_of (appended (texts_appended s.tree s.at count) (byte_text (s.at + count))).nodes n ≡ Some (suc n)
    newest n lo q p g = let t = texts_appended s.tree s.at count in
        let k : ℕ = n - length s.tree.nodes in
        let c : t.cursor ≡ Some (length s.tree.nodes + k) = p.cursor k (omega (arith, lo, q, p.size)) in
        search (arith, s.tree.nodes, t.nodes, t.spine, g.new_link)

    first_before : (i : ℕ) → false ≡ place_down (texts_appended s.tree s.at count).cursor
        → i ≡ place_at (texts_appended s.tree s.at count).spine (texts_appended s.tree s.at count).cursor
        → TextsStand s byte count (texts_appended s.tree s.at count) → Grows (texts_appended s.tree s.at count).nodes
        (appended (texts_appended s.tree s.at count) (byte_text (s.at + count))).nodes
        (place_down (texts_appended s.tree s.at count).cursor) (place_at (texts_appended s.tree s.at count).spine
        (texts_appended s.tree s.at count).cursor) (byte_text (s.at + count)) → MayPrecede s.text byte
        (item_at (appended (texts_appended s.tree s.at count) (byte_text (s.at + count))).nodes i)
    first_before i side from p g = search (arith, of_cursor, s.tree, s.at, p.sound.stands.low, g.old_items)
      where
        of_cursor : (o : Option ℕ) → (texts_appended s.tree s.at count).cursor ≡ o → false ≡ place_down
            (texts_appended s.tree s.at count).cursor → i ≡ place_at (texts_appended s.tree s.at count).spine
            (texts_appended s.tree s.at count).cursor → TextsStand s byte count (texts_appended s.tree s.at count)
            → MayPrecede s.text byte (item_at (texts_appended s.tree s.at count).nodes i)
        of_cursor None e side from p = let d : false ≡ true = side ∙ ap place_down e in cc (d)
        of_cursor (Some c) e side from p = search (arith, last_precedes)

-- ---- the characters of a delimiter run

-- a character of runs is ASCII
pub delimiter_ascii : (byte : ℕ) → is_delimiter byte ≡ true → byte < 128
delimiter_ascii byte h = grind (arith, nat_tests)

-- the last `count` items are made characters of a run; the other items and all links stay
pub record RunStands (s : State) (byte end : ℕ) (opens closes : Bool) (texts : Arena Item) (count : ℕ) (t : Arena Item)
    : Type 0 where
  pub stands : Stands (record s { tree = t; at = end; run = Some byte })
  pub runs : KeepsRuns s.text t.nodes
  pub lists : ListsAreTight t
  pub size : length t.nodes ≡ length texts.nodes
  pub cursor : t.cursor ≡ texts.cursor
  pub links : (d : Bool) (i : ℕ) → link_of (links_of t.nodes) d i ≡ link_of (links_of texts.nodes) d i
  pub others : (n : ℕ) → n + count < length texts.nodes → item_at t.nodes n ≡ item_at texts.nodes n
  pub marked : (n left : ℕ)
      → n + left ≡ length texts.nodes → 1 ≤ left → left ≤ count → item_at t.nodes n ≡ run_item end opens closes left

-- the invariant, apart from runs, does not depend on the run that callers see
stands_with_run : (s : State) (run : Option ℕ) → Stands s → Stands (record s { run = run })
stands_with_run s run h = search (arith)

-- a Text is no open block
text_not_open : (nodes : List (Node Item)) (n a start : ℕ) (b : OpenBlock)
    → item_at nodes n ≡ byte_text start → a ≡ n → IsOpenAt nodes a b → ⊥
text_not_open nodes n a start b was z q = search (arith, is_inline, item_at, parent_not_inline, b.body, q.parent)

-- a character of another byte ends a run
byte_ends : (text : List ℕ) (byte : ℕ) (a c : Numbered)
    → byte_of text c.item ≡ byte → (byte == byte_of text a.item) ≡ false → EndsRun text a (Some c)
byte_ends text byte a c h1 h2 = grind (arith, run_character, byte_of)

-- what may precede a run of a byte stays whole where an item that is not a run's character becomes one of this byte
before_run : (text : List ℕ) (byte : ℕ) (a b c : Numbered)
    → run_character b.item.body ≡ None → byte_of text c.item ≡ byte
    → MayPrecede text byte a.item → RunsAreWhole text a (Some b) → RunsAreWhole text a (Some c)
before_run text byte a b c h1 h2 h3 h4 = grind (arith, run_character, byte_of, character_replaced, byte_ends)

-- the last item of a chain ends its run
last_ends : (text : List ℕ) (nodes : List (Node Item)) (a : Numbered) (o : Option ℕ)
    → ((j : ℕ) → o ≡ Some j → ⊥) → EndsRun text a (option_map (numbered nodes) o)
last_ends text nodes a o h1 = grind (arith)

-- the character that is written next continues with those after it
goes_on : (s : State) (byte end total : ℕ) (opens closes : Bool) (t old : Arena Item) (m : ℕ)
    → IsRunOf byte s.text s.at end
    → s.at + total ≡ end → TextsStand s byte total t → RunStands s byte end opens closes t m old
    → suc m ≤ total → RunGoesOn s.text (at_number (length t.nodes - suc m) (run_item end opens closes (suc m)))
    (suc m) opens closes (next_at old.nodes (length t.nodes - suc m))
goes_on s byte end total opens closes t old zero run whole p r low = let n : ℕ = length t.nodes - 1 in
    last_ends s.text old.nodes (at_number n (run_item end opens closes 1)) (sibling_of old.nodes n)
    (λ j e. let q = r.stands.nodes.rising.rises false n j e in absurd (omega (arith, q.0, q.1, r.size)))
goes_on s byte end total opens closes t old (suc m) run whole p r low = let n : ℕ = length t.nodes - suc (suc m) in
    let link : sibling_of old.nodes n ≡ Some (suc n) = r.links false n
    ∙ p.next n (omega (arith, p.size, low)) (omega (arith, p.size, low)) in
    let item : item_at old.nodes (suc n) ≡ run_item end opens closes (suc m) =
    r.marked (suc n) (suc m) (omega (arith, p.size, low)) (omega arith) (omega arith) in
    search (arith, at_number, s.text, run.same, run.more)

-- one Text more is made a character
one_marked : (s : State) (byte end total : ℕ) (opens closes : Bool) (t old : Arena Item) (m : ℕ)
    → 0 < length s.tree.nodes → IsRunOf byte s.text s.at end → is_delimiter byte ≡ true → s.at + total ≡ end
    → TextsStand s byte total t → RunStands s byte end opens closes t m old → suc m ≤ total → RunStands
    s byte end opens closes t (suc m) (with_item old (length t.nodes - suc m) (run_item end opens closes (suc m)))
one_marked s byte end total opens closes t old m rooted run delimiter whole p r low =
    let n : ℕ = length t.nodes - suc m in
    let start : ℕ = end - suc m in
    let x : Item = run_item end opens closes (suc m) in
    let new = (with_item old n x).nodes in
    let here : State = record s { tree = old; at = end; run = Some byte } in
    let first : length s.tree.nodes ≤ n = omega (arith, p.size, low) in
    let within : n < length t.nodes = omega (arith, p.size, low) in
    let in_old : n < length old.nodes = omega (arith, within, r.size) in
    let w : Writes old.nodes new n x = item_writes old.nodes n x in_old in
    let offset : s.at + (n - length s.tree.nodes) ≡ start = omega (arith, p.size, low, whole) in
    let was : item_at old.nodes n ≡ byte_text start =
    cc (r.others n (omega (arith, p.size, low)), p.texts n first within, offset) in
    let same : slice_index s.text start ≡ byte = run.same start (omega (arith, whole, low)) (omega (arith, run.more)) in
    let no_run : run_character (item_at old.nodes n).body ≡ None = ap (λ (y : Item). run_character y.body) was in
    let fit : ItemFits s.text s.counts (byte_text start) = rw was at
    (r.stands.nodes.items n (omega (arith, first, rooted)) in_old) in
    let fits : ItemFits s.text s.counts x = search (arith, settled_alone) in
    let replaces : MayReplace (item_at old.nodes n) x = rw was (search (arith)) in
    let blocks : AreOpen new old.spine s.blocks = open_written (λ a. ⊤) old.nodes new n x w
    (λ a b l q z. text_not_open old.nodes n a start b was z q) old.spine s.blocks
    (all_true old.spine) r.stands.are_open in
    let whole_here : RunsAreWhole s.text (at_number n x) (next_at old.nodes n) = record {
      one_byte = omega arith;
      delimiter = rw same delimiter;
      goes_on = goes_on s byte end total opens closes t old m run whole p r low;
    } in
    record {
      stands = written here n x s.blocks r.stands (omega (arith, first, rooted)) in_old fits replaces
          (λ q i. rw was at i) blocks r.stands.leaves r.stands.covered r.stands.begun;
      runs = runs_rewritten s.text old.nodes new n x r.stands.nodes.rising w (λ i e h.
          let rise = r.stands.nodes.rising.rises false i n e in
          let stays : item_at old.nodes i ≡ item_at t.nodes i = r.others i (omega (arith, rise.0, p.size, low)) in
          let may : MayPrecede s.text byte (item_at old.nodes i) =
          rw stays (p.before i n first (sym (r.links false i) ∙ e)) in
          before_run s.text byte (numbered old.nodes i) (numbered old.nodes n) (at_number n x) no_run same may h)
          whole_here r.runs;
      lists = lists_written old.nodes new old.spine old.cursor n x r.stands.nodes.rising w r.lists refl
          (λ o. (ap (λ (y : Item). is_tight_list y.body) was, refl, λ q. cc (q)));
      size = w.size ∙ r.size;
      cursor = r.cursor;
      links = λ d i. w.all_links d i ∙ r.links d i;
      others = λ i h. w.old_items i (λ z. absurd (omega (arith, z, h, within))) ∙ r.others i (omega (arith, h));
      marked = search (arith, cases_lt, w.new_item, w.old_items, p.size, r.marked);
    }

-- a number of Texts are made characters
run_stands : (s : State) (byte end total : ℕ) (opens closes : Bool) (t : Arena Item) (m : ℕ)
    → 0 < length s.tree.nodes → IsRunOf byte s.text s.at end → is_delimiter byte ≡ true → s.at + total ≡ end
    → TextsStand s byte total t → m ≤ total → RunStands s byte end opens closes t m (run_marked t end opens closes m)
run_stands s byte end total opens closes t zero rooted run delimiter whole p low = record {
  stands = rw whole at (stands_with_run (record s { tree = t; at = s.at + total }) (Some byte) p.sound.stands);
  runs = p.sound.runs;
  lists = p.sound.lists;
  size = refl;
  cursor = refl;
  links = λ d i. refl;
  others = λ n h. refl;
  marked = λ n left e a b. absurd (omega (arith, a, b));
}
run_stands s byte end total opens closes t (suc m) rooted run delimiter whole p low =
    one_marked s byte end total opens closes t (run_marked t end opens closes m) m rooted run delimiter whole p
    (run_stands s byte end total opens closes t m rooted run delimiter whole p (omega (arith, low))) low

-- all Texts of the run are made characters
pub run_sound : (s : State) (byte end total : ℕ) (opens closes : Bool) → IsSound s → s.leaf ≡ true
    → IsRunOf byte s.text s.at end → is_delimiter byte ≡ true → follows_run s.run byte ≡ false → s.at + total ≡ end
    → IsSound (record s {
      tree = run_marked (texts_appended s.tree s.at total) end opens closes total;
      at = end;
      run = Some byte;
    })
run_sound s byte end total opens closes k leaf run delimiter other whole =
    let texts = texts_appended s.tree s.at total in
    let t = run_marked texts end opens closes total in
    let p : TextsStand s byte total texts = texts_stand s byte end total k leaf run
    (delimiter_ascii byte delimiter) other (omega (arith, whole)) in
    let r : RunStands s byte end opens closes texts total t =
    run_stands s byte end total opens closes texts total k.stands.nodes.rooted run delimiter whole p (omega arith) in
    let last : ℕ = length s.tree.nodes + (total - 1) in
    let cursor : t.cursor ≡ Some last = r.cursor ∙ p.cursor (total - 1) (omega (arith, whole, run.more)) in
    search (arith, run_is_laid)
