-- What a walk has left where nodes and entries that it does not lead to were changed: the same.
use Rattle.std.proofs.Common.{◌≡◌, ℕ, ◌<◌, ◌≤◌, List, [], ◌∷◌, Option, length, refl, arith}
use Rattle.markdown_base.specs.Arena.{sibling_of}
use Rattle.markdown_base.specs.ArenaForest.{links_of, forest_at}
use Rattle.markdown_base.specs.ArenaWalk.{AllReach}
use Rattle.markdown_inline.specs.Elements.{Reading, nothing_read}
use Rattle.markdown_base.specs.declared.item.Item.{Item}
use Rattle.markdown_base.specs.declared.node.Node.{Node}
use Rattle.markdown_document.specs.PlacedNodes.{IsSameAt, IsPlaced}
use Rattle.markdown_inline.specs.Walk.{after_chain, left_of}
use Rattle.markdown_document.specs.EnclosingBlocks.{EnclosingBlocks, no_blocks, inside_all}
use Rattle.markdown_document.specs.Setting.{Setting}
use Rattle.markdown_document.specs.Totals.{same, weight_at}
use Rattle.markdown_document.specs.NamedEntries.{naming, Named, IsSameEntry, IsNoShorter}
use Rattle.markdown_inline.specs.WalkTotals.{climbed, left_total, times_left}
use Rattle.markdown_inline.specs.Standing.{AboveKept, SpineLies, Stands, named_left}
use Rattle.markdown_document.proofs.FrameLemmas.{framed, stay_throughout}
use Rattle.markdown_document.proofs.TablesLemmas.{same-refl}
use Rattle.markdown_document.specs.Tables.{Tables}

-- the same of what is above the chain at hand
pub record AboveFramed (s : Setting) (tables tables' : Tables) (nodes nodes' : List (Node Item)) (spine : List ℕ) : Type
    0 where
  pub reach : AllReach (links_of nodes') (IsPlaced s.text tables' nodes') spine
  pub kept : AboveKept s.text tables' nodes' spine
  pub lies : SpineLies s.text nodes' spine
  pub times : (n : ℕ) → climbed (same n) (same n) (links_of nodes') spine ≡ climbed (same n) (same n) (links_of nodes)
      spine
  pub naming : (n : Named) → climbed (λ ix. 0) (naming nodes' n) (links_of nodes') spine
      ≡ climbed (λ ix. 0) (naming nodes n) (links_of nodes) spine
  pub steps : climbed (λ ix. 1) (weight_at nodes') (links_of nodes') spine
      ≡ climbed (λ ix. 1) (weight_at nodes) (links_of nodes) spine
  pub around : (above : EnclosingBlocks) (after : Reading) → after_chain s above tables' nodes' spine after
      ≡ after_chain s above tables nodes spine after
  pub blocks : (above : EnclosingBlocks) → inside_all nodes' spine above ≡ inside_all nodes spine above

pub above_framed : (s : Setting) (tables tables' : Tables) (nodes nodes' : List (Node Item)) (spine : List ℕ)
    → length nodes ≤ length nodes'
    → IsNoShorter tables tables'
    → AllReach (links_of nodes) (IsPlaced s.text tables nodes) spine → AboveKept s.text tables nodes spine
    → SpineLies s.text nodes spine
    → ((n : ℕ) → 0 < climbed (same n) (same n) (links_of nodes) spine → IsSameAt nodes nodes' n)
    → ((n : Named) → 0 < climbed (λ ix. 0) (naming nodes n) (links_of nodes) spine → IsSameEntry tables tables' n)
    → AboveFramed s tables tables' nodes nodes' spine
above_framed s tables tables' nodes nodes' [] z y r k lies h t = record {
  reach = tt;
  kept = tt;
  lies = tt;
  times = λ n. refl;
  naming =
      λ n. refl;
  steps = refl;
  around = λ above after. refl;
  blocks = λ above. refl;
}
above_framed s tables tables' nodes nodes' (ix ∷ deeper) z y r k lies h t =
    let at : IsSameAt nodes nodes' ix = h ix (omega (arith, same-refl ix)) in
    let stay = stay_throughout tables tables' nodes nodes' (forest_at (links_of nodes) (sibling_of nodes ix)) y.headings
    (λ n l. h n (omega (arith, l))) (λ n l. t n (omega (arith, l))) in
    let here = framed s.text tables tables' nodes nodes' (sibling_of nodes ix) z y r.1 stay in
    let others = above_framed s tables tables' nodes nodes' deeper z y r.2 k.1 lies.1 (λ n l. h n (omega (arith, l)))
    (λ n l. t n (omega (arith, l))) in
    record {
      reach = (omega (arith, r.0, z), rw at.next here.reaches, others.reach);
      kept = (rw (at.next, here.trees) k.0, others.kept);
      lies = (rw at.item lies.0, others.lies);
      times = λ n. rw (at.next, here.forest, others.times n) refl;
      naming = λ n. rw (at.next, here.naming n, others.naming n) refl;
      steps = rw (at.next, here.weight, others.steps) refl;
      around = λ above after. rw (at.next, at.item, here.trees) (others.around _ _);
      blocks = λ above. rw at.item (others.blocks _);
    }

-- what is left of a walk, where all that it leads to stays
pub record LeftFramed (s : Setting) (tables tables' : Tables) (nodes nodes' : List (Node Item)) (l : Option ℕ)
    (spine : List ℕ) : Type 0
  where
    pub stands : Stands s.text tables' nodes' l spine
    pub left : left_of s tables' nodes' l spine ≡ left_of s tables nodes l spine

pub left_framed : (s : Setting) (tables tables' : Tables) (nodes nodes' : List (Node Item)) (l : Option ℕ)
    (spine : List ℕ) → length nodes ≤ length nodes' → IsNoShorter tables tables'
    → Stands s.text tables nodes l spine
    → ((n : ℕ) → 0 < times_left (links_of nodes) l spine n → IsSameAt nodes nodes' n)
    → ((n : Named) → 0 < named_left nodes l spine n → IsSameEntry tables tables' n)
    → LeftFramed s tables tables' nodes nodes' l spine
unfolding left_total left_of
left_framed s tables tables' nodes nodes' l spine z y w h t =
    let stay = stay_throughout tables tables' nodes nodes' (forest_at (links_of nodes) l) y.headings
    (λ n x. h n (omega (arith, x)))
    (λ n x. t n (omega (arith, x))) in
    let here = framed s.text tables tables' nodes nodes' l z y w.walk.here stay in
    let above = above_framed s tables tables' nodes nodes' spine z y w.walk.above w.above_kept w.spine_lies
    (λ n x. h n (omega (arith, x)))
    (λ n x. t n (omega (arith, x))) in
    record {
      stands = record {
        walk = record { here = here.reaches; above = above.reach };
        once = λ n. rw (here.forest, above.times n) (w.once n);
        named_once = λ n. rw (here.naming n, above.naming n) (w.named_once n);
        here_kept = rw here.trees w.here_kept;
        above_kept = above.kept;
        spine_lies = above.lies;
      };
      left = rw (
        here.trees,
        above.blocks (no_blocks s.text),
        above.around
            (no_blocks s.text) nothing_read,
      ) refl;
    }
