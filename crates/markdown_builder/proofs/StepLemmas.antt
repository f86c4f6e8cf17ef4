-- The steps of a builder: how it begins, and what each step keeps and makes of it.
use Rattle.markdown_base.specs.WellFormed.{MarkupIsThere, PartCounts, source_of, run_character, RunsAreWhole}
use Rattle.std.proofs.Common.{◌≡◌, ℕ, suc, ◌<◌, ◌≤◌, List, [], ◌∷◌, ◌++◌, Option, Some, None, Bool, true, false, length}
use Rattle.std.proofs.Common.{refl, ◌∙◌, arith, inl, inr, ⊎_elim, zero, sym, ap, subst, ◌⊎◌}
use Rattle.std.specs.Prelude.{IfSome, IsTrue, ◌||◌, slice_index}
use Rattle.std.specs.List.{AllByRecursion}
use Rattle.std.proofs.lemmas.Bool.Decides.{nat_tests}
use Rattle.markdown_base.specs.declared.block_parts.LinkDef.{LinkDef}
use Rattle.markdown_base.specs.declared.cow_str.CowStr.{CowStr}
use Rattle.markdown_base.specs.declared.item.Item.{Item}
use Rattle.markdown_base.specs.declared.node.Node.{Node}
use Rattle.markdown_base.specs.ArenaChanges.{innermost, appended, single, changed_at}
use Rattle.markdown_base.specs.ArenaForest.{Links, links_of}
use Rattle.markdown_base.specs.Coverage.{is_inside, IsDefinitionRange}
use Rattle.markdown_base.specs.Item.{is_inline, is_childless, is_tight_paragraph, text_named, alignments_named}
use Rattle.markdown_base.proofs.ArenaLemmas.{All-snoc, All-front, All-last, innermost-snoc}
use Rattle.markdown_base.proofs.ForestLemmas.{All-weaker}
use Rattle.markdown_base.proofs.WellFormedLemmas.{HasMore}
use Rattle.markdown_builder.specs.declared.open_block.OpenBlock.{OpenBlock}
use Rattle.markdown_builder.specs.Rising.{link_of, AreRising, IsOnTop, first_block, next_block, place_down, place_at}
use Rattle.markdown_builder.specs.BuilderRules.{NamesNew, ItemFits, KeepsNodes, LinkFits, MayReplace, KeepsRuns}
use Rattle.markdown_builder.specs.Standing.{State, IsOpenAt, AreOpen, IsTopPlace, IsUnderTop, is_in_definition}
use Rattle.markdown_builder.specs.Standing.{covered_to, AreCovered, Stands, open_item, entered, OnlyLastIsLeaf, LastRun}
use Rattle.markdown_builder.specs.Standing.{IsSound}
use Rattle.markdown_builder.proofs.NodeWriteLemmas.{Grows, Writes, append_grows, item_beyond, same_or_not, same_item}
use Rattle.markdown_builder.proofs.NodeWriteLemmas.{append_keeps, fits_more, write_keeps, item_writes, runs_appended}
use Rattle.markdown_builder.proofs.NodeWriteLemmas.{runs_written, item_over, MayBePlaced, placed_fits, placed_new}
use Rattle.markdown_builder.proofs.NodeWriteLemmas.{block_markup, block_no_run, chain_of_one, parent_not_inline}
use Rattle.std.specs.Str.{IsCharBoundary, IsUtf8}
use Rattle.std.proofs.lemmas.Bool.{cases_lt}
use Rattle.std.proofs.lemmas.List.Folds.{list_any-append}
use Rattle.std.proofs.lemmas.Str.{IsCharBoundary-start}
use Rattle.markdown_base.specs.declared.item.ItemBody.{ItemBody}
use Rattle.markdown_base.specs.declared.item.ItemBody.TheVariants as body
use Rattle.markdown_base.specs.Arena.{Arena, child_of}
use Rattle.markdown_base.specs.ArenaRules.{next_at}
use Rattle.markdown_base.specs.BlockTree.{item_at, numbered}
use Rattle.markdown_base.specs.Forest.{nil}
use Rattle.markdown_builder.specs.Bodies.{is_leaf}
use Rattle.markdown_builder.specs.BuilderView.{IsWhite}
use Rattle.markdown_builder.specs.Tightness.{is_tight_list}
use Rattle.markdown_builder.specs.ClosedLists.{IsNotOpen, ListsAreTight}
use Rattle.markdown_builder.proofs.ClosedListLemmas.{not_both, lists_appended, lists_entered, lists_written}
use Rattle.markdown_builder.proofs.ClosedListLemmas.{open_is_loose, OthersAreTight, lists_left}
use Rattle.markdown_builder.proofs.LaidLemmas.{append_is_laid, enter_is_laid}

-- what holds of each value holds of those of a list
All-always : {X : Type 0} (P : X → Type 0) → ((x : X) → P x) → (xs : List X) → AllByRecursion P xs
All-always P h [] = tt
All-always P h (x ∷ xs) = (h x, All-always P h xs)

-- ---- links

-- a link that leads nowhere
nowhere : (o : Option ℕ) → ((j : ℕ) → o ≡ Some j → ⊥) → o ≡ None
nowhere o h1 = grind (arith)

-- the newest node has no links
newest_free : (k : Links) (n : ℕ) (d : Bool) → AreRising k → k.size ≡ suc n → link_of k d n ≡ None
newest_free k n d r e = nowhere (link_of k d n) (λ j h. let p = r.rises d n j h in omega (arith, p, e))

-- ---- open blocks

-- open blocks stay open where each does
pub open_map : (P : ℕ → Type 0) (old new : List (Node Item))
    → ((s : ℕ) (b : OpenBlock) → P s → IsOpenAt old s b → IsOpenAt new s b) → (spine : List ℕ) (blocks : List OpenBlock)
    → AllByRecursion P spine → AreOpen old spine blocks → AreOpen new spine blocks
open_map P old new h [] [] a o = tt
open_map P old new h (s ∷ spine) (b ∷ blocks) a o = (h s b a.0 o.0, o.1, open_map P old new h spine blocks a.1 o.2)
open_map P old new h spine blocks a o = absurd o

-- open blocks stay open where an item is written into a node that holds none of them
pub open_written : (P : ℕ → Type 0) (old new : List (Node Item)) (at : ℕ) (x : Item) → Writes old new at x
    → ((s : ℕ) (b : OpenBlock) → P s → IsOpenAt old s b → s ≡ at → ⊥) → (spine : List ℕ) (blocks : List OpenBlock)
    → AllByRecursion P spine → AreOpen old spine blocks → AreOpen new spine blocks
open_written P old new at x w other spine blocks =
    open_map P old new (λ s b p o. search (arith, w.all_links false s, w.old_items s (other s b p o))) spine blocks

-- their numbers are those of nodes
pub open_low : (nodes : List (Node Item)) (spine : List ℕ) (blocks : List OpenBlock)
    → AreOpen nodes spine blocks → AllByRecursion (λ s. s < length nodes) spine
open_low nodes [] [] o = tt
open_low nodes (s ∷ spine) (b ∷ blocks) o = (o.0.low, open_low nodes spine blocks o.2)
open_low nodes spine blocks o = absurd o

-- one more open block
pub open_snoc : (nodes : List (Node Item)) (n : ℕ) (block : OpenBlock) (spine : List ℕ) (blocks : List OpenBlock)
    → AreOpen nodes spine blocks → AllByRecursion (λ s. s < n) spine
    → IsOpenAt nodes n block → AreOpen nodes (spine ++ n ∷ []) (blocks ++ block ∷ [])
open_snoc nodes n block [] [] o a i = (i, tt, tt)
open_snoc nodes n block (s ∷ spine) (b ∷ blocks) o a i =
    (o.0, All-snoc (λ t. s < t) spine n o.1 a.0, open_snoc nodes n block spine blocks o.2 a.1 i)
open_snoc nodes n block spine blocks o a i = absurd o

-- the innermost open block, and the others
pub record IsInnermost (nodes : List (Node Item)) (n : ℕ) (block : OpenBlock) (spine : List ℕ) (blocks : List OpenBlock)
    : Type 0 where
  pub here : IsOpenAt nodes n block
  pub others : AreOpen nodes spine blocks
  pub above : AllByRecursion (λ s. s < n) spine

pub open_unsnoc : (nodes : List (Node Item)) (n : ℕ) (block : OpenBlock) (spine : List ℕ) (blocks : List OpenBlock)
    → AreOpen nodes (spine ++ n ∷ []) (blocks ++ block ∷ []) → IsInnermost nodes n block spine blocks
open_unsnoc nodes n block [] [] o = record { here = o.0; others = tt; above = tt }
open_unsnoc nodes n block [] (b ∷ []) o = absurd o.2
open_unsnoc nodes n block [] (b ∷ c ∷ blocks) o = absurd o.2
open_unsnoc nodes n block (s ∷ []) [] o = absurd o.2
open_unsnoc nodes n block (s ∷ t ∷ spine) [] o = absurd o.2
open_unsnoc nodes n block (s ∷ spine) (b ∷ blocks) o = let r = open_unsnoc nodes n block spine blocks o.2 in
    record {
      here = r.here;
      others = (o.0, All-front (λ t. s < t) spine n o.1, r.others);
      above = (All-last (λ t. s < t) spine n o.1, r.above);
    }

-- ---- what an append keeps

-- a link that led somewhere still does
pub link_stays : (old new : List (Node Item)) (down : Bool) (at : ℕ) (x : Item)
    → Grows old new down at x → link_of (links_of old) down at ≡ None
    → (d : Bool) (i j : ℕ) → link_of (links_of old) d i ≡ Some j → link_of (links_of new) d i ≡ Some j
link_stays old new down at x g free d i j e =
    g.other_links d i (λ p. let h : link_of (links_of old) d i ≡ None = rw (p.0, p.1) free in cc (h, e)) ∙ e

-- what is on top stays there
pub top_stays : (old new : List (Node Item))
    → ((d : Bool) (i j : ℕ) → link_of (links_of old) d i ≡ Some j → link_of (links_of new) d i ≡ Some j)
    → (j : ℕ) → IsOnTop (links_of old) j → IsOnTop (links_of new) j
top_stays old new h j (first_block _ e) = first_block j (h true 0 j e)
top_stays old new h j (next_block i _ t e) = next_block i j (top_stays old new h i t) (h false i j e)

-- no byte lies in an empty range
pub not_inside : (p at : ℕ) → is_inside p (record { start = at; end = at }) ≡ true → ⊥
not_inside p at h = grind (arith, nat_tests)

-- a byte from one place up to another is inside
pub inside : (p first end : ℕ) → first ≤ p → p < end → is_inside p (record { start = first; end = end }) ≡ true
inside p first end low high = grind (arith, nat_tests)

-- what is covered stays so
pub covered_stays : (text : List ℕ) (old new : List (Node Item)) (definitions : List (CowStr × LinkDef)) (to : ℕ)
    → ((p : ℕ) → IsUnderTop old p → IsUnderTop new p)
    → AreCovered text old definitions to → AreCovered text new definitions to
covered_stays text old new definitions to h c p low dark = ⊎_elim (λ (b : IsUnderTop old p). inl (h p b))
    (λ (d : IsTrue (is_in_definition definitions p)). inr d) (c p low dark)

-- a node appended at a free place
pub record Appended (s : State) (many : PartCounts) (x : Item) : Type 0 where
  pub grows : Grows s.tree.nodes (appended s.tree x).nodes (place_down s.tree.cursor)
      (place_at s.tree.spine s.tree.cursor) x
  pub nodes : KeepsNodes s.text many (appended s.tree x).nodes
  pub free : (d : Bool) → link_of (links_of (appended s.tree x).nodes) d (length s.tree.nodes) ≡ None
  pub are_open : AreOpen (appended s.tree x).nodes s.tree.spine s.blocks
  pub after : AllByRecursion (λ o. o < length s.tree.nodes) s.tree.spine
  pub top : IsTopPlace (appended s.tree x).nodes s.tree.spine (Some (length s.tree.nodes))
  pub covered : AreCovered s.text (appended s.tree x).nodes s.definitions (covered_to s.blocks s.at)

-- the new node is on top, or what was on top stays there
top_appended : (old new : List (Node Item)) (spine : List ℕ) (cursor : Option ℕ) (x : Item)
    → Grows old new (place_down cursor) (place_at spine cursor) x
    → link_of (links_of old) (place_down cursor) (place_at spine cursor) ≡ None
    → IsTopPlace old spine cursor → IsTopPlace new spine (Some (length old))
top_appended old new [] None x g free t = first_block (length old) g.new_link
top_appended old new [] (Some before) x g free t =
    next_block before (length old) (top_stays old new (link_stays old new false before x g free) before t) g.new_link
top_appended old new (s ∷ spine) cursor x g free t =
    top_stays old new (link_stays old new (place_down cursor) (place_at (s ∷ spine) cursor) x g free) s t

-- the open blocks are not where the new node is put
off_place : (spine : List ℕ) (outer : List ℕ) (cursor : Option ℕ)
    → IfSome cursor (λ c. AllByRecursion (λ s. s < c) spine)
    → AllByRecursion (λ s. (false ≡ place_down cursor) × (s ≡ place_at outer cursor) → ⊥) spine
off_place spine outer None b = All-always (λ s. (false ≡ true) × (s ≡ innermost outer) → ⊥)
    (λ s p. let e = p.0 in cc (e)) spine
off_place spine outer (Some before) b = All-weaker (λ s. s < before)
    (λ s. (false ≡ false) × (s ≡ before) → ⊥) (λ s l p. absurd (omega (arith, l, p.1))) spine b

-- an item that fits is appended
pub appended_fits : (s : State) (many : PartCounts) (x : Item) → Stands s → HasMore s.counts many
    → ItemFits s.text many x → NamesNew s.counts x → is_inline x.body ≡ s.leaf → s.at ≤ x.start → Appended s many x
appended_fits s many x h more fits names kind low = let old = s.tree.nodes in
    let new = (appended s.tree x).nodes in
    let down = place_down s.tree.cursor in
    let place = place_at s.tree.spine s.tree.cursor in
    let g : Grows old new down place x = append_grows old s.tree.spine s.tree.cursor x h.low h.free in
    let k : KeepsNodes s.text many new = append_keeps s.text s.counts many old new down place x h.nodes g h.low more
    fits names (h.fits x kind low) in
    record {
      grows = g;
      nodes = k;
      free = λ d. newest_free (links_of new) (length old) d k.rising g.size;
      are_open = open_map (λ t. (false ≡ down) × (t ≡ place) → ⊥) old new
          (λ t b n o. search (arith, g.other_links false t n, g.old_items t o.low, g.size)) s.tree.spine s.blocks
          (off_place s.tree.spine s.tree.spine s.tree.cursor h.after) h.are_open;
      after = open_low old s.tree.spine s.blocks h.are_open;
      top = top_appended old new s.tree.spine s.tree.cursor x g h.free h.top;
      covered = covered_stays s.text old new s.definitions (covered_to s.blocks s.at) (λ p b. under_top p b g)
          h.covered;
    }
  where
    under_top : (p : ℕ) → IsUnderTop s.tree.nodes p → Grows s.tree.nodes (appended s.tree x).nodes
        (place_down s.tree.cursor) (place_at s.tree.spine s.tree.cursor) x → IsUnderTop (appended s.tree x).nodes p
    under_top p b g = search (arith, top_stays, link_stays, inside, not_inside, item_beyond, same_item, same_or_not)

-- ---- how a builder begins, and its steps

-- of two tests one passes
pub either_passes : (a b : Bool) → (a ≡ true) ⊎ IsTrue b → IsTrue (a || b)
either_passes a b h1 = grind (arith)

-- ---- the beginning

-- the root alone
abbrev pub root_nodes : List (Node Item)
root_nodes = single (record { start = 0; end = 0; body = body.Root }) ∷ []

root_links : (d : Bool) (i : ℕ) → link_of (links_of root_nodes) d i ≡ None
root_links d i = grind (arith)

root_item : (i : ℕ) → (item_at root_nodes i).body ≡ body.Root
root_item i = grind (arith)

no_root_link : (d : Bool) (i j : ℕ) → link_of (links_of root_nodes) d i ≡ Some j → ⊥
no_root_link d i j e = let h = root_links d i in cc (h, e)

root_names : (name : ItemBody → Option ℕ)
    → name body.Root ≡ None → (i t : ℕ) → name (item_at root_nodes i).body ≡ Some t → ⊥
root_names name n i t e = let h : name (item_at root_nodes i).body ≡ None = rw (root_item i) n in cc (h, e)

-- a builder before its first step
abbrev pub beginning : List ℕ → PartCounts → Arena Item → State
beginning text counts tree = record {
  text = text;
  counts = counts;
  tree = tree;
  definitions = [];
  blocks = [];
  leaf = false;
  run = None;
  at = 0;
}

-- it begins with the root alone
pub begun : (text : List ℕ) (counts : PartCounts) (tree : Arena Item) → IsUtf8 text
    → tree ≡ record { nodes = root_nodes; spine = []; cursor = None } → IsSound (beginning text counts tree)
begun text counts tree utf8 e = subst (λ (t : Arena Item). IsSound (beginning text counts t)) (sym e) (record {
  utf8 = utf8;
  stands = record {
    nodes = record {
      rising = record {
        rises = λ d i j e. absurd (no_root_link d i j e);
        once = λ d b i h j e f. absurd (no_root_link d i j e);
      };
      rooted = omega arith;
      root = refl;
      items = λ i a b. absurd (omega (arith, a, b));
      links = λ d i j e. absurd (no_root_link d i j e);
      texts = λ i j t e f. absurd (root_names text_named refl i t e);
      alignments = λ i j t e f. absurd (root_names alignments_named refl i t e);
    };
    low = omega arith;
    free = refl;
    fits = λ x k l. record {
      kind = k;
      chains_are_kept = chain_of_one body.Root (record { number = 1; item = x }) refl;
    };
    are_open = tt;
    leaves = refl;
    after = tt;
    top = tt;
    covered = λ p l dark. absurd (omega (arith, l));
    boundary = IsCharBoundary-start text utf8;
    begun = tt;
    ranges = tt;
  };
  runs = λ i. no_run_at i;
  last_run = tt;
  lists = record {
    lists = λ list t o. absurd (not_both t (ap is_tight_list (root_item list)));
    only = λ p q. let e = sym q ∙ root_item p in cc (e);
  };
  laid = record { frames = []; inside = nil; is = refl };
})
  where
    no_run_at : (i : ℕ) → RunsAreWhole text (numbered root_nodes i) (next_at root_nodes i)
    no_run_at zero = tt
    no_run_at (suc i) = tt

-- ---- a step over bytes

-- what is covered up to a place is covered over white space after it
pub covered_white : (text : List ℕ) (nodes : List (Node Item)) (definitions : List (CowStr × LinkDef)) (from to : ℕ)
    → AreCovered text nodes definitions from → IsWhite text from to → AreCovered text nodes definitions to
covered_white text nodes definitions from to c w p l dark =
    ⊎_elim (λ (h : p < from). c p h dark) (λ (h : from ≤ p). let q = w p h l in cc (q, dark)) (cases_lt p from)

-- a builder moves to a byte offset, where all before that is covered, by the definitions that it has then
moved : (s : State) (to : ℕ) (definitions : List (CowStr × LinkDef)) → IsSound s
    → s.at ≤ to → IsCharBoundary s.text to → AreCovered s.text s.tree.nodes definitions (covered_to s.blocks to)
    → AllByRecursion (λ d. IsDefinitionRange s.text d.1.span) definitions
    → IsSound (record s { definitions = definitions; at = to })
moved s to definitions k low boundary covered ranges = search (arith, All-weaker, is_inline, s.blocks, k.stands.fits)

-- bytes are stepped over: white space, where no block is open
pub skipped : (s : State) (to : ℕ) → IsSound s → s.at ≤ to → IsCharBoundary s.text to
    → (s.leaf ≡ false → s.blocks ≡ [] → IsWhite s.text s.at to) → IsSound (record s { at = to })
skipped s to k low boundary white =
    moved s to s.definitions k low boundary (over s.blocks k.stands.leaves k.stands.covered white) k.stands.ranges
  where
    over : (blocks : List OpenBlock)
        → OnlyLastIsLeaf blocks s.leaf → AreCovered s.text s.tree.nodes s.definitions (covered_to blocks s.at)
        → (s.leaf ≡ false → blocks ≡ [] → IsWhite s.text s.at to)
        → AreCovered s.text s.tree.nodes s.definitions (covered_to blocks to)
    over [] l c w = covered_white s.text s.tree.nodes s.definitions s.at to c (w l refl)
    over (b ∷ blocks) l c w = c

-- ---- an item without children

-- what is covered, with a new item on top or inside a block
covered_added : (text : List ℕ) (nodes : List (Node Item))
    (definitions : List (CowStr × LinkDef)) (spine : List ℕ) (blocks : List OpenBlock) (number at to : ℕ) (b : ItemBody)
    → AreOpen nodes spine blocks → IsTopPlace nodes spine (Some number)
    → item_at nodes number ≡ item_over at to b → AreCovered text nodes definitions (covered_to blocks at)
    → AreCovered text nodes definitions (covered_to blocks to)
covered_added text nodes definitions spine blocks number at to b h1 h2 h3 h4 = grind (arith, inside, cases_lt)

-- the state with an item appended, which ends at a place
abbrev pub after_item : State → PartCounts → ℕ → ItemBody → Option ℕ → State
after_item s many to b run = record s
    { counts = many; tree = appended s.tree (item_over s.at to b); run = run; at = to }

-- an item that has no children is appended
pub added : (s : State) (many : PartCounts) (to : ℕ) (b : ItemBody) (run : Option ℕ) → IsSound s → HasMore s.counts many
    → ItemFits s.text many (item_over s.at to b) → NamesNew s.counts (item_over s.at to b) → is_inline b ≡ s.leaf
    → run_character b ≡ None → is_tight_paragraph b ≡ false → IsSound (after_item s many to b run)
added s many to b run k more fits names kind no_run loose = let x : Item = item_over s.at to b in
    let a = appended_fits s many x k.stands more fits names kind (omega arith) in
    let low : s.at ≤ to = fits.ranges_lie_in.ordered in
    let n = length s.tree.nodes in
    let new = (appended s.tree x).nodes in
    let none : run_character (item_at new n).body ≡ None = rw a.grows.new_item no_run in
    let last : LastRun s.text new (Some n) run = rw none tt in
    let within : n < length new = omega (arith, a.grows.size) in
    let follows : (y : Item) → is_inline y.body ≡ s.leaf → to ≤ y.start
    → LinkFits false (numbered new n) (record { number = length new; item = y }) = λ y e l. rw a.grows.new_item
    (record { kind = e ∙ sym kind; inline_in_order = λ h i. record { ends = l; numbers = within } }) in
    assumption (
      a.free false,
      fits.ranges_lie_in.end,
      covered_added s.text new s.definitions s.tree.spine s.blocks n s.at to b
          a.are_open a.top a.grows.new_item a.covered,
      All-weaker (λ q. q.start ≤ s.at) (λ q. q.start ≤ to) (λ q h. omega (arith, h, low)) s.blocks k.stands.begun,
      runs_appended s.text s.tree.nodes new (place_down s.tree.cursor) (place_at s.tree.spine s.tree.cursor) x
          k.stands.nodes.rising a.grows k.stands.free no_run k.runs,
      lists_appended s.tree.nodes new s.tree.spine s.tree.cursor x k.stands.nodes.rising a.nodes.rising
          k.stands.nodes.root (open_low s.tree.nodes s.tree.spine s.blocks k.stands.are_open) a.grows k.stands.free
          k.lists loose,
      append_is_laid s.tree x k.laid,
    )

-- an item that may be placed is appended, over its markup
pub added_placed : (s : State) (many : PartCounts) (to : ℕ) (b : ItemBody) (run : Option ℕ)
    → IsSound s → MayBePlaced s.counts many b → MarkupIsThere s.text (item_over s.at to b)
    → s.at ≤ to → IsCharBoundary s.text to → is_inline b ≡ s.leaf → IsSound (after_item s many to b run)
added_placed s many to b run k placed markup low boundary kind = added s many to b run k placed.more
    (placed_fits s.text s.counts many s.at to b placed markup
    (record { ordered = low; start = k.stands.boundary; end = boundary }))
    (placed_new s.counts many s.at to b placed) kind placed.no_run placed.loose

-- ---- a block is opened

-- with another open block, as much is covered
covered_open : (blocks : List OpenBlock) (block : OpenBlock)
    → covered_to (blocks ++ block ∷ []) block.start ≡ covered_to blocks block.start
covered_open blocks block = grind (arith)

-- the outermost open block is on top
top_open : (nodes : List (Node Item)) (spine : List ℕ) (n : ℕ)
    → IsTopPlace nodes spine (Some n) → IsTopPlace nodes (spine ++ n ∷ []) None
top_open nodes spine n h1 = grind (arith)

-- a block is open inside blocks that are no leaves
leaves_open : (blocks : List OpenBlock) (block : OpenBlock)
    → OnlyLastIsLeaf blocks false → OnlyLastIsLeaf (blocks ++ block ∷ []) (is_leaf block.body)
leaves_open [] block h = refl
leaves_open (b ∷ []) block h = (sym h, refl)
leaves_open (b ∷ c ∷ blocks) block h = (h.0, leaves_open (c ∷ blocks) block h.1)

-- the state with a block that begins here and is entered
abbrev pub after_opening : State → PartCounts → ItemBody → State
after_opening s many b = let block : OpenBlock = record { start = s.at; body = b } in
    record s {
      counts = many;
      tree = entered s.tree (open_item block);
      blocks = s.blocks ++ block ∷ [];
      leaf = is_leaf b;
      run = None;
    }

-- a block is appended and gone into
pub opened : (s : State) (many : PartCounts) (b : ItemBody) → IsSound s
    → s.leaf ≡ false → MayBePlaced s.counts many b → is_childless b ≡ false → IsSound (after_opening s many b)
opened s many b k outside placed parent = let block : OpenBlock = record { start = s.at; body = b } in
    let x : Item = open_item block in
    let n = length s.tree.nodes in
    let fits = placed_fits s.text s.counts many s.at s.at b placed
    (block_markup b (source_of s.text (item_over s.at s.at b)) (parent_not_inline b parent))
    (record { ordered = omega arith; start = k.stands.boundary; end = k.stands.boundary }) in
    let a = appended_fits s many x k.stands placed.more fits
    (placed_new s.counts many s.at s.at b placed) ((parent_not_inline b parent) ∙ sym outside) (omega arith) in
    let i = innermost-snoc s.tree.spine n in
    let new = (appended s.tree x).nodes in
    let below : child_of new n ≡ None = a.free true in
    rw below (record {
      utf8 = k.utf8;
      stands = record {
        nodes = a.nodes;
        low = rw i (omega (arith, a.grows.size));
        free = rw i (a.free true);
        fits = λ y e l. rw (i, a.grows.new_item)
            (record { kind = e; chains_are_kept = chain_of_one b (record { number = length new; item = y }) parent });
        are_open = open_snoc new n block s.tree.spine s.blocks a.are_open a.after (record {
          positive = k.stands.nodes.rooted;
          low = omega (arith, a.grows.size);
          last = a.free false;
          item = a.grows.new_item;
          parent = parent;
        });
        leaves = leaves_open s.blocks block (rw outside at k.stands.leaves);
        after = tt;
        top = top_open new s.tree.spine n a.top;
        covered = rw (covered_open s.blocks block) a.covered;
        boundary = k.stands.boundary;
        begun = All-snoc (λ q. q.start ≤ s.at) s.blocks block k.stands.begun (omega arith);
        ranges = k.stands.ranges;
      };
      runs = runs_appended s.text s.tree.nodes new (place_down s.tree.cursor)
          (place_at s.tree.spine s.tree.cursor) x k.stands.nodes.rising a.grows k.stands.free placed.no_run k.runs;
      last_run = tt;
      lists = lists_entered s.tree.nodes new s.tree.spine s.tree.cursor x k.stands.nodes.rising k.stands.nodes.root
          a.grows k.stands.free k.lists placed.loose;
      laid = rw below at (enter_is_laid s.tree x k.laid);
    })

-- a block is appended alone
pub opened_alone : (s : State) (many : PartCounts) (b : ItemBody) (run : Option ℕ) → IsSound s
    → s.leaf ≡ false → MayBePlaced s.counts many b → is_childless b ≡ false → IsSound (after_item s many s.at b run)
opened_alone s many b run k outside placed parent = added_placed s many s.at b run k placed
    (block_markup b (source_of s.text (item_over s.at s.at b)) (parent_not_inline b parent))
    (omega arith) k.stands.boundary (parent_not_inline b parent ∙ sym outside)

-- with more parts the invariant still holds
pub more_parts : (s : State) (many : PartCounts)
    → HasMore s.counts many → IsSound s → IsSound (record s { counts = many })
more_parts s many more k =
    search (arith, length, fits_more, item_at, s.text, s.counts, s.tree.nodes, k.stands.nodes.items)

-- ---- a block is closed

-- a block with another end or body in place of the open one
pub block_replaces : (a b : Item)
    → is_inline a.body ≡ false → is_inline b.body ≡ false → is_leaf b.body ≡ is_leaf a.body
    → is_childless b.body ≡ is_childless a.body → ((t : ℕ) → text_named b.body ≡ Some t → text_named a.body ≡ Some t)
    → ((t : ℕ) → alignments_named b.body ≡ Some t → alignments_named a.body ≡ Some t) → MayReplace a b
block_replaces a b was inline leaf childless texts alignments = search (arith)

-- it fits where the open one did
closed_fits : (text : List ℕ) (counts : PartCounts) (b : ItemBody) (start end : ℕ)
    → is_inline b ≡ false → start ≤ end → IsCharBoundary text end
    → ItemFits text counts (item_over start start b) → ItemFits text counts (item_over start end b)
closed_fits text counts b start end h low boundary f =
    assumption (block_markup b (source_of text (item_over start end b)) h)

-- the outermost open block, or the one that was left, is on top
top_closed : (old new : List (Node Item)) (spine : List ℕ) (n : ℕ)
    → ((d : Bool) (i j : ℕ) → link_of (links_of old) d i ≡ Some j → link_of (links_of new) d i ≡ Some j)
    → IsTopPlace old (spine ++ n ∷ []) None → IsTopPlace new spine (Some n)
top_closed old new spine n h1 h2 = grind (arith, top_stays)

-- what is covered where a block was closed
covered_closed : (text : List ℕ) (nodes : List (Node Item)) (definitions : List (CowStr × LinkDef))
    (spine : List ℕ) (blocks : List OpenBlock) (n at : ℕ) (block : OpenBlock) → AreOpen nodes spine blocks
    → IsTopPlace nodes spine (Some n) → item_at nodes n ≡ item_over block.start at block.body
    → AreCovered text nodes definitions (covered_to (blocks ++ block ∷ []) at)
    → AreCovered text nodes definitions (covered_to blocks at)
covered_closed text nodes definitions spine blocks n at block h1 h2 h3 h4 = grind (arith, covered_added)

-- outside the innermost block no leaf is open
leaves_closed : (blocks : List OpenBlock) (block : OpenBlock) (leaf : Bool)
    → OnlyLastIsLeaf (blocks ++ block ∷ []) leaf → OnlyLastIsLeaf blocks false
leaves_closed [] block leaf h = refl
leaves_closed (b ∷ []) block leaf h = sym h.0
leaves_closed (b ∷ c ∷ blocks) block leaf h = (h.0, leaves_closed (c ∷ blocks) block leaf h.1)

-- what stands on top with the innermost block's number apart
whole_top : (old : List (Node Item)) (all spine : List ℕ) (n : ℕ) (cursor : Option ℕ)
    → all ≡ spine ++ n ∷ [] → IsTopPlace old all cursor → IsTopPlace old (spine ++ n ∷ []) None
whole_top old all spine n cursor h1 h2 = grind (arith)

-- the state with a block left, whose end is written
abbrev pub after_closing : State → List ℕ → List OpenBlock → ℕ → OpenBlock → State
after_closing s spine blocks n block = record s {
  tree = record {
    nodes = changed_at n (λ m. record m { item = item_over block.start s.at block.body }) s.tree.nodes;
    spine = spine;
    cursor = Some n;
  };
  blocks = blocks;
  leaf = false;
  run = None;
}

-- the invariant of a builder that has left a block, but for the block's own list
pub record IsLeft (n : ℕ) (s : State) : Type 0 where
  pub utf8 : IsUtf8 s.text
  pub stands : Stands s
  pub runs : KeepsRuns s.text s.tree.nodes
  pub last_run : LastRun s.text s.tree.nodes s.tree.cursor s.run
  pub low : n < length s.tree.nodes
  pub below : AllByRecursion (λ t. t < n) s.tree.spine
  pub others : OthersAreTight n s.tree

-- the innermost block is left, and its end is written
pub closed : (s : State) (spine : List ℕ) (blocks : List OpenBlock) (n : ℕ) (block : OpenBlock) → IsSound s
    → s.blocks ≡ blocks ++ block ∷ [] → s.tree.spine ≡ spine ++ n ∷ [] → IsLeft n (after_closing s spine blocks n block)
closed s spine blocks n block k whole split = let at = s.at in
    let x : Item = item_over block.start at block.body in
    let old = s.tree.nodes in
    let made = changed_at n (λ m. record m { item = x }) old in
    let both : AreOpen old (spine ++ n ∷ []) (blocks ++ block ∷ []) = search (arith) in
    let o : IsInnermost old n block spine blocks = open_unsnoc old n block spine blocks both in
    let h = o.here in
    let w : Writes old made n x = item_writes old n x h.low in
    let begun_all : AllByRecursion (λ b. b.start ≤ at) (blocks ++ block ∷ []) = rw whole at k.stands.begun in
    let start : block.start ≤ at = All-last (λ b. b.start ≤ at) blocks block begun_all in
    let fit : ItemFits s.text s.counts (open_item block) = rw h.item at (k.stands.nodes.items n h.positive h.low) in
    let nodes : KeepsNodes s.text s.counts made = search (
      arith,
      write_keeps,
      closed_fits,
      parent_not_inline,
      block_replaces,
      s.counts,
      k.stands.nodes,
      h.positive,
      h.parent,
      k.stands.boundary,
      h.item,
    ) in
    let links : (d : Bool) (i j : ℕ) → link_of (links_of old) d i ≡ Some j
    → link_of (links_of made) d i ≡ Some j = λ d i j q. w.all_links d i ∙ q in
    let opens : AreOpen made spine blocks = open_written (λ t. t < n) old made n x w
    (λ t b l q z. absurd (omega (arith, z, l))) spine blocks o.above o.others in
    let top_was : IsTopPlace old (spine ++ n ∷ []) None = whole_top old s.tree.spine spine n s.tree.cursor split
    k.stands.top in
    let top : IsTopPlace made spine (Some n) = top_closed old made spine n links top_was in
    let covered_was : AreCovered s.text old s.definitions (covered_to (blocks ++ block ∷ []) at) =
    rw whole at k.stands.covered in
    let none : run_character x.body ≡ None = block_no_run block.body (parent_not_inline block.body h.parent) in
    let lists : ListsAreTight (record { nodes = old; spine = spine ++ n ∷ []; cursor = s.tree.cursor }) =
    rw split at k.lists in
    let is_in : IsNotOpen (spine ++ n ∷ []) n → ⊥ = λ q. All-last (λ t. t ≡ n → ⊥) spine n q refl in
    let none_was : run_character (item_at old n).body ≡ None = ap (λ (y : Item). run_character y.body) h.item ∙ none in
    let none_now : run_character (item_at made n).body ≡ None = ap (λ (y : Item). run_character y.body) w.new_item
    ∙ none in
    record {
      utf8 = k.utf8;
      stands = record {
        nodes = nodes;
        low = omega (arith, h.low, w.size);
        free = w.all_links false n ∙ h.last;
        fits = search (arith, parent_not_inline, w.new_item, block.body, h.parent);
        are_open = opens;
        leaves = leaves_closed blocks block s.leaf (rw whole at k.stands.leaves);
        after = o.above;
        top = top;
        covered = covered_closed s.text made s.definitions spine blocks n at block opens top w.new_item
            (covered_stays s.text old made s.definitions (covered_to (blocks ++ block ∷ []) at) (λ p b. record {
              number = b.number;
              top = top_stays old made links b.number b.top;
              inside = ⊎_elim (λ (q : b.number ≡ n). absurd
                  (not_inside p block.start (rw (ap (λ (m : ℕ). item_at old m) q ∙ h.item) at b.inside)))
                  (λ (q : b.number ≡ n → ⊥). rw (w.old_items b.number q) b.inside) (same_or_not b.number n);
            }) covered_was);
        boundary = k.stands.boundary;
        begun = All-front (λ b. b.start ≤ at) blocks block begun_all;
        ranges = k.stands.ranges;
      };
      runs = runs_written s.text old made n x k.stands.nodes.rising w none_was none k.runs;
      last_run = rw none_now tt;
      low = omega (arith, h.low, w.size);
      below = o.above;
      others = lists_left made spine n s.tree.cursor
          (lists_written old made (spine ++ n ∷ []) s.tree.cursor n x k.stands.nodes.rising w lists
          (ap (λ (y : Item). is_tight_paragraph y.body) (sym h.item)
          ∙ open_is_loose old (spine ++ n ∷ []) s.tree.cursor n k.stands.nodes.rising lists is_in)
          (λ q. absurd (is_in q)));
    }

-- ---- definitions

-- a byte in one of some definitions, or in one more
in_more : (definitions : List (CowStr × LinkDef)) (d : CowStr × LinkDef) (p : ℕ)
    → IsTrue (is_in_definition definitions p) → IsTrue (is_in_definition (definitions ++ d ∷ []) p)
in_more definitions d p h = search (arith, list_any-append, either_passes, inl)

in_last : (definitions : List (CowStr × LinkDef)) (d : CowStr × LinkDef) (p : ℕ)
    → is_inside p d.1.span ≡ true → IsTrue (is_in_definition (definitions ++ d ∷ []) p)
in_last definitions d p h = search (arith, is_in_definition, list_any-append, is_inside, either_passes, inr)

-- a definition is added, which stands from here up to a place
pub defined : (s : State) (to : ℕ) (d : CowStr × LinkDef) → IsSound s
    → s.at ≤ to → IsCharBoundary s.text to → slice_index s.text s.at ≡ 91 → d.1.span ≡ record { start = s.at; end = to }
    → IsSound (record s { definitions = s.definitions ++ d ∷ []; at = to })
defined s to d k low boundary bracket span = moved s to (s.definitions ++ d ∷ []) k low boundary
    (over s.blocks k.stands.covered) (All-snoc (λ x. IsDefinitionRange s.text x.1.span) s.definitions d k.stands.ranges
    (rw span (record { ordered = low; start = k.stands.boundary; end = boundary; bracket = bracket })))
  where
    widened : (end : ℕ) → AreCovered s.text s.tree.nodes s.definitions end
        → AreCovered s.text s.tree.nodes (s.definitions ++ d ∷ []) end
    widened end c p l dark = search (arith, inl, inr, in_more, s.tree.nodes, s.definitions)

    over : (blocks : List OpenBlock) → AreCovered s.text s.tree.nodes s.definitions (covered_to blocks s.at)
        → AreCovered s.text s.tree.nodes (s.definitions ++ d ∷ []) (covered_to blocks to)
    over [] c = λ p l dark. ⊎_elim (λ (h : p < s.at). widened s.at c p h dark)
        (λ (h : s.at ≤ p). inr (in_last s.definitions d p (rw span (inside p s.at to h l)))) (cases_lt p s.at)
    over (b ∷ blocks) c = widened b.start c
