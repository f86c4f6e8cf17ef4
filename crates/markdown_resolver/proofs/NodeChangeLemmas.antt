-- What a change of one node is to an arena.
use Rattle.std.proofs.Common.{◌≡◌, ℕ, zero, suc, ◌<◌, List, [], ◌∷◌, Option, length, refl, ap, ◌∙◌, arith}
use Rattle.markdown_base.specs.Arena.{Arena, child_of, sibling_of}
use Rattle.markdown_base.specs.ArenaChanges.{changed_at}
use Rattle.markdown_base.specs.BlockTree.{item_at}
use Rattle.markdown_base.specs.declared.item.Item.{Item}
use Rattle.markdown_base.specs.declared.node.Node.{Node}
use Rattle.markdown_base.proofs.ArenaLemmas.{length-changed_at}
use Rattle.markdown_document.specs.PlacedNodes.{IsSameAt}
use Rattle.markdown_resolver.specs.LiteralText.{IsWritten}

-- the others stay
pub changed_other : (nodes : List (Node Item)) (ix : ℕ) (change : Node Item → Node Item) (n : ℕ) → (n ≡ ix → ⊥)
    → IsSameAt nodes (changed_at ix change nodes) n
changed_other [] ix change n h = record { child = refl; next = refl; item = refl }
changed_other (m ∷ nodes) zero change zero h = absurd (h refl)
changed_other (m ∷ nodes) zero change (suc n) h = record { child = refl; next = refl; item = refl }
changed_other (m ∷ nodes) (suc ix) change zero h = record { child = refl; next = refl; item = refl }
changed_other (m ∷ nodes) (suc ix) change (suc n) h =
    let s = changed_other nodes ix change n (λ e. h (ap suc e)) in record
    { child = s.child; next = s.next; item = s.item }

-- the node of a number
abbrev pub node_at : List (Node Item) → ℕ → Node Item
node_at nodes ix = record { item = item_at nodes ix; child = child_of nodes ix; next = sibling_of nodes ix }

-- it is what the change makes of it
pub record IsChanged (change : Node Item → Node Item) (nodes : List (Node Item)) (ix : ℕ) : Type 0 where
  pub item : item_at (changed_at ix change nodes) ix ≡ (change (node_at nodes ix)).item
  pub child : child_of (changed_at ix change nodes) ix ≡ (change (node_at nodes ix)).child
  pub next : sibling_of (changed_at ix change nodes) ix ≡ (change (node_at nodes ix)).next

pub changed_here : (nodes : List (Node Item)) (ix : ℕ) (change : Node Item → Node Item) → ix < length nodes
    → IsChanged change nodes ix
changed_here [] ix change l = absurd (omega (arith, l))
changed_here (n ∷ nodes) zero change l = record { item = refl; child = refl; next = refl }
changed_here (n ∷ nodes) (suc ix) change l =
    let rest = changed_here nodes ix change (omega (arith, l)) in
    record { item = rest.item; child = rest.child; next = rest.next }

-- an item that is written again
pub item_again : (nodes : List (Node Item)) (ix : ℕ) → changed_at ix (λ n. record n { item = item_at nodes ix }) nodes
    ≡ nodes
item_again [] ix = refl
item_again (m ∷ nodes) zero = refl
item_again (m ∷ nodes) (suc ix) = ap (λ (rest : List (Node Item)). m ∷ rest) (item_again nodes ix)

-- a node whose item and then whose link was changed is written
pub written_nodes : (nodes : List (Node Item)) (ix : ℕ) (item : Item) (next : Option ℕ) → ix < length nodes
    → IsWritten nodes (changed_at ix (λ n. record n { next = next })
    (changed_at ix (λ n. record n { item = item }) nodes)) ix item next
written_nodes nodes ix item next l =
    let mid = changed_at ix (λ n. record n { item = item }) nodes in
    let size = length-changed_at ix (λ n. record n { item = item }) nodes in
    let size' = length-changed_at ix (λ n. record n { next = next }) mid in
    let p = changed_here nodes ix (λ n. record n { item = item }) l in
    let q = changed_here mid ix (λ n. record n { next = next }) (omega (arith, size, l)) in
    record {
      size = size' ∙ size;
      item_is = q.item ∙ p.item;
      child_is = q.child ∙ p.child;
      next_is = q.next;
      others = λ n d.
          let a = changed_other nodes ix (λ n. record n { item = item }) n d in
          let b = changed_other mid ix (λ n. record n { next = next }) n d in
          record { child = b.child ∙ a.child; next = b.next ∙ a.next; item = b.item ∙ a.item };
    }

pub written_tree : (s t u : Arena Item) (ix : ℕ) (item : Item) (next : Option ℕ) → ix < length s.nodes
    → t ≡ record s { nodes = changed_at ix (λ n. record n { item = item }) s.nodes }
    → u ≡ record t { nodes = changed_at ix (λ n. record n { next = next }) t.nodes }
    → IsWritten s.nodes u.nodes ix item next
written_tree s t u ix item next l e f =
    let nodes : t.nodes ≡ changed_at ix (λ n. record n { item = item }) s.nodes = ap (λ (a : Arena Item). a.nodes) e in
    let nodes' : u.nodes ≡ changed_at ix (λ n. record n { next = next })
    (changed_at ix (λ n. record n { item = item }) s.nodes) =
    ap (λ (a : Arena Item). a.nodes) f
    ∙ ap (λ (ns : List (Node Item)). changed_at ix (λ n. record n { next = next }) ns) nodes in
    rw nodes' (written_nodes s.nodes ix item next l)

pub size_written : (s t : Arena Item) (ix : ℕ) (item : Item)
    → t ≡ record s { nodes = changed_at ix (λ n. record n { item = item }) s.nodes } → length t.nodes ≡ length s.nodes
size_written s t ix item e = ap (λ (a : Arena Item). length a.nodes) e
    ∙ length-changed_at ix (λ n. record n { item = item }) s.nodes
