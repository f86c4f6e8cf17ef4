-- A chain of an arena from a link on: it opens node by node, and what a byte leaves of it a later byte leaves of that.
use Rattle.std.proofs.Common.{◌≡◌, ℕ, ◌<◌, ◌≤◌, Bool, true, false, List, Option, Some, None, length, refl, subst, sym}
use Rattle.std.proofs.Common.{◌∙◌, arith, nat_lt, ap}
use Rattle.std.specs.Prelude.{if◌then◌else◌, ⊤}
use Rattle.std.proofs.lemmas.Bool.Decides.{nat_tests}
use Rattle.std.proofs.lemmas.Bool.{lt-ltb, le-ltb}
use Rattle.markdown_base.specs.Arena.{child_of, sibling_of}
use Rattle.markdown_base.specs.ArenaForest.{links_of, forest_at}
use Rattle.markdown_base.specs.BlockTree.{item_at}
use Rattle.markdown_base.specs.Forest.{Forest, nil, node, first_root, roots}
use Rattle.markdown_base.specs.declared.item.Item.{Item}
use Rattle.markdown_base.specs.declared.node.Node.{Node}
use Rattle.markdown_base.proofs.ArenaForestLemmas.{opens, forest_at-none}
use Rattle.markdown_brackets.specs.ChainAhead.{IsChain, numbers_past}

-- how many trees there are from a link on
abbrev pub trees_ahead : List (Node Item) → Option ℕ → ℕ
trees_ahead nodes link = length (roots (forest_at (links_of nodes) link))

-- a chain that begins at a node, and what of it is past a byte
pub record StepsOn (nodes : List (Node Item)) (byte ix : ℕ) (past : Forest ℕ) : Type 0 where
  pub within : ix < length nodes
  pub later : IsChain nodes (sibling_of nodes ix)
  pub falls : trees_ahead nodes (sibling_of nodes ix) < trees_ahead nodes (Some ix)
  pub stops : byte < (item_at nodes ix).end
      → (forest_at (links_of nodes) (Some ix) ≡ past) × (Some ix ≡ first_root past)
  pub passes : (item_at nodes ix).end ≤ byte
      → numbers_past nodes byte (forest_at (links_of nodes) (sibling_of nodes ix)) ≡ past

pub is_not_below : (i j : ℕ) → nat_lt i j ≡ false → j ≤ i
is_not_below i j h = grind (arith, nat_tests)

past_goes : (nodes : List (Node Item)) (byte ix : ℕ) (below after : Forest ℕ) → (item_at nodes ix).end ≤ byte
    → numbers_past nodes byte (node ix below after) ≡ numbers_past nodes byte after
past_goes nodes byte ix below after h = rw (le-ltb byte (item_at nodes ix).end h) refl

pub steps_at : (nodes : List (Node Item)) (byte : ℕ) (link : Option ℕ) (ix : ℕ) (past : Forest ℕ) → link ≡ Some ix
    → IsChain nodes link → numbers_past nodes byte (forest_at (links_of nodes) link) ≡ past → StepsOn nodes byte ix past
steps_at nodes byte link ix past e chain same =
    let o = opens (links_of nodes) (λ ix. ⊤) ix (subst (IsChain nodes) e chain) in
    let all : Forest ℕ = node ix (forest_at (links_of nodes) (child_of nodes ix))
    (forest_at (links_of nodes) (sibling_of nodes ix)) in
    let here : numbers_past nodes byte all ≡ past = rw (e, o.here) at same in
    let stays : byte < (item_at nodes ix).end → all ≡ past = λ h.
    rw (lt-ltb byte (item_at nodes ix).end h) at here in
    record {
      within = o.within;
      later = o.after;
      falls = rw o.here (omega arith);
      stops = λ h. (o.here ∙ stays h, ap first_root (stays h));
      passes = λ h. sym (past_goes nodes byte ix _ _ h) ∙ here;
    }

-- nothing is past a byte where nothing is
pub past_none : (nodes : List (Node Item)) (byte : ℕ) → numbers_past nodes byte (forest_at (links_of nodes) None)
    ≡ forest_at (links_of nodes) None
past_none nodes byte = rw (forest_at-none (links_of nodes)) refl

pub root_none : (nodes : List (Node Item)) → first_root (forest_at (links_of nodes) None) ≡ None
root_none nodes = rw (forest_at-none (links_of nodes)) refl

-- what a byte leaves is what it leaves of what an earlier one leaves
pub past_twice : (nodes : List (Node Item)) (i j : ℕ) (f : Forest ℕ) → i ≤ j
    → numbers_past nodes j (numbers_past nodes i f)
    ≡ numbers_past nodes j f
past_twice nodes i j nil h = refl
past_twice nodes i j (node ix below after) h = by (nat_lt i (item_at nodes ix).end) refl (past_twice nodes i j after h)
  where
    by : (b : Bool) → nat_lt i (item_at nodes ix).end ≡ b → numbers_past nodes j (numbers_past nodes i after)
        ≡ numbers_past nodes j after
        → numbers_past nodes j (if b then node ix below after else numbers_past nodes i after)
        ≡ numbers_past nodes j (node ix below after)
    by true e more = refl
    by false e more = more ∙ sym (past_goes nodes j ix below after (let before = is_not_below i (item_at nodes ix).end e
        in omega (arith, before, h)))
