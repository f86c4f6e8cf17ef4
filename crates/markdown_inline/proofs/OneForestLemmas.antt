-- Where a walk stands in an arena, what is left is one forest.
use Rattle.std.proofs.Common.{ℕ, List, [], ◌∷◌}
use Rattle.markdown_base.specs.ArenaForest.{Links, links_of}
use Rattle.markdown_base.specs.ArenaWalk.{AllReach}
use Rattle.markdown_base.specs.Arena.{Arena}
use Rattle.markdown_base.specs.declared.item.Item.{Item}
use Rattle.markdown_document.specs.Tables.{Tables}
use Rattle.markdown_inline.specs.OneForest.{AllSpell, IsOneForest}
use Rattle.markdown_inline.specs.WalkSteps.{TreeStands}

all_spell : (k : Links) (p : ℕ → Type 0) (spine : List ℕ) → AllReach k p spine → AllSpell k spine
all_spell k p [] r = tt
all_spell k p (ix ∷ deeper) r = (r.1.spelled, all_spell k p deeper r.2)

pub one_forest : (source : List ℕ) (tables : Tables) (tree : Arena Item) → TreeStands source tables tree
    → IsOneForest tree
one_forest source tables tree w = record {
  here = w.walk.here.spelled;
  after = all_spell (links_of tree.nodes) _ tree.spine w.walk.above;
  once = w.once;
}
