-- How the trees from a link on open, node by node, and what that says of the chain that the link
-- begins.
use Rattle.std.proofs.Common.{◌≡◌, ℕ, ◌<◌, List, Option, Some, None, Bool, true, false, length, refl, sym, ap, ◌∙◌}
use Rattle.std.proofs.Common.{arith}
use Rattle.std.specs.Prelude.{⊤, IsTrue, ◌↔◌, ◌||◌, ◌&&◌, not, is_some}
use Rattle.std.proofs.Math.Bool.{or-false}
use Rattle.markdown_base.specs.declared.item.Item.{Item}
use Rattle.markdown_base.specs.declared.node.Node.{Node}
use Rattle.markdown_base.specs.Arena.{child_of, sibling_of}
use Rattle.markdown_base.specs.ArenaForest.{links_of, forest_at}
use Rattle.markdown_base.specs.BlockTree.{numbered, item_at, trees_at}
use Rattle.markdown_base.specs.Forest.{nil, node, roots, relabelled}
use Rattle.markdown_base.specs.Item.{is_open, is_inline, is_tight_paragraph}
use Rattle.markdown_base.specs.WellFormed.{has_open, all_inline, has_tight_paragraph}
use Rattle.markdown_base.proofs.ArenaForestLemmas.{opens, forest_at-none}
use Rattle.markdown_base.proofs.ForestLemmas.{Each-always}
use Rattle.markdown_blocks.specs.declared.chain.ChainKinds.{ChainKinds}
use Rattle.markdown_blocks.specs.NodeRules.{LeadsOn, Tells}

-- a link to a node leads to that node, to what is below it and to what follows it
pub record OpensAt (nodes : List (Node Item)) (ix : ℕ) : Type 0 where
  pub within : ix < length nodes
  pub after : LeadsOn nodes (sibling_of nodes ix)
  pub here : trees_at nodes (Some ix) ≡ node (numbered nodes ix) (trees_at nodes (child_of nodes ix))
      (trees_at nodes (sibling_of nodes ix))

-- each link that leads on opens so
pub opens_at : (nodes : List (Node Item)) (ix : ℕ) → LeadsOn nodes (Some ix) → OpensAt nodes ix
opens_at nodes ix l =
    let k = links_of nodes in
    let o = opens k (λ i. ⊤) ix (record { spelled = l.spelled; each = Each-always (forest_at k (Some ix)) }) in
    record {
      within = o.within;
      after = record { spelled = o.after.spelled };
      here = ap (relabelled (numbered nodes)) o.here;
    }

-- a link to nothing leads to nothing
pub trees_at-none : (nodes : List (Node Item)) → trees_at nodes None ≡ nil
trees_at-none nodes = ap (relabelled (numbered nodes)) (forest_at-none (links_of nodes))

-- the number of items of the chain that a link begins
abbrev pub chain_length : List (Node Item) → Option ℕ → ℕ
chain_length nodes link = length (roots (trees_at nodes link))

-- what was found of the items before a link, in the chain that another link begins
pub record TellsSoFar (nodes : List (Node Item)) (first link : Option ℕ)
    (kinds : ChainKinds) : Type 0 where
  pub leads : LeadsOn nodes link
  pub any_open : (kinds.any_open || has_open (trees_at nodes link)) ≡ has_open (trees_at nodes first)
  pub only_inline : (kinds.only_inline && all_inline (trees_at nodes link)) ≡ all_inline (trees_at nodes first)
  pub any_tight : (kinds.any_tight || has_tight_paragraph (trees_at nodes link))
      ≡ has_tight_paragraph (trees_at nodes first)

-- three tests, one of which passes, taken two by two
or-or : (a b c : Bool) → ((a || b) || c) ≡ (a || (b || c))
or-or true b c = refl
or-or false b c = refl

-- three tests that all pass, taken two by two
and-and : (a b c : Bool) → ((a && b) && c) ≡ (a && (b && c))
and-and true b c = refl
and-and false b c = refl

-- a test that passes takes nothing away
and-all : (a : Bool) → (a && true) ≡ a
and-all true = refl
and-all false = refl

-- the next item is counted among the kinds
pub tells_more : (nodes : List (Node Item)) (first : Option ℕ) (ix : ℕ) (kinds more : ChainKinds) (link : Option ℕ)
    → TellsSoFar nodes first (Some ix) kinds
    → more.any_open ≡ (kinds.any_open || is_open (item_at nodes ix).body)
    → more.only_inline ≡ (kinds.only_inline && is_inline (item_at nodes ix).body)
    → more.any_tight ≡ (kinds.any_tight || is_tight_paragraph (item_at nodes ix).body)
    → link ≡ sibling_of nodes ix → TellsSoFar nodes first link more
tells_more nodes first ix kinds more link w o i t e =
    let opened = opens_at nodes ix w.leads in
    record {
      leads = rw e opened.after;
      any_open = rw (e, o) (or-or kinds.any_open _ _
          ∙ (sym (ap (λ c. kinds.any_open || has_open c) opened.here) ∙ w.any_open));
      only_inline = rw (e, i)
          (and-and kinds.only_inline _ _ ∙ (sym (ap (λ c. kinds.only_inline && all_inline c) opened.here)
          ∙ w.only_inline));
      any_tight = rw (e, t)
          (or-or kinds.any_tight _ _ ∙ (sym (ap (λ c. kinds.any_tight || has_tight_paragraph c) opened.here)
          ∙ w.any_tight));
    }

-- and fewer are left
pub chain_falls : (nodes : List (Node Item)) (ix : ℕ) (link : Option ℕ) → LeadsOn nodes (Some ix)
    → link ≡ sibling_of nodes ix → chain_length nodes link < chain_length nodes (Some ix)
chain_falls nodes ix link l e =
    let opened = opens_at nodes ix l in
    rw (e, opened.here) (omega arith)

-- at the chain's end all items are counted among the kinds
pub tells_all : (nodes : List (Node Item)) (first link : Option ℕ) (kinds : ChainKinds)
    → TellsSoFar nodes first link kinds → link ≡ None → Tells kinds (trees_at nodes first)
tells_all nodes first link kinds w e =
    let none : trees_at nodes link ≡ nil = ap (trees_at nodes) e ∙ trees_at-none nodes in
    record {
      any_open = sym (or-false kinds.any_open) ∙ (sym (ap (λ c. kinds.any_open || has_open c) none) ∙ w.any_open);
      only_inline = sym (and-all kinds.only_inline)
          ∙ (sym (ap (λ c. kinds.only_inline && all_inline c) none) ∙ w.only_inline);
      any_tight = sym (or-false kinds.any_tight)
          ∙ (sym (ap (λ c. kinds.any_tight || has_tight_paragraph c) none) ∙ w.any_tight);
    }

-- where a link leads to nothing it begins nothing
none-trees_at : (nodes : List (Node Item)) (link : Option ℕ) → link ≡ None
    → trees_at nodes link ≡ nil
none-trees_at nodes link e = ap (trees_at nodes) e ∙ trees_at-none nodes

-- where a link begins nothing it leads to nothing
trees_at-nil : (nodes : List (Node Item)) (link : Option ℕ) → LeadsOn nodes link
    → trees_at nodes link ≡ nil → link ≡ None
trees_at-nil nodes None l e = refl
trees_at-nil nodes (Some ix) l e = cc (sym (opens_at nodes ix l).here ∙ e)

-- where a link is tested to be none it leads to nothing
none_tested : (link : Option ℕ) (b : Bool) → is_some link ≡ not b → IsTrue b → link ≡ None
none_tested None b e h = refl
none_tested (Some ix) true e h = cc
none_tested (Some ix) false e h = cc

-- where it leads to nothing the test says so
tested_none : (link : Option ℕ) (b : Bool) → is_some link ≡ not b → link ≡ None → IsTrue b
tested_none None true e h = refl
tested_none None false e h = cc
tested_none (Some ix) b e h = cc

-- so what it begins is nothing just where it is tested to be none
pub nothing_tested : (nodes : List (Node Item)) (link : Option ℕ) (b : Bool) → LeadsOn nodes link
    → is_some link ≡ not b → IsTrue b ↔ (trees_at nodes link ≡ nil)
nothing_tested nodes link b l e = (
  λ h. none-trees_at nodes link (none_tested link b e h),
  λ h. tested_none link b e
      (trees_at-nil nodes link l h),
)
