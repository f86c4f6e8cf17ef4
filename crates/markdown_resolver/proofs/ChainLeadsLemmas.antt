-- Links lead along a chain that can be resolved, and what searches have learned of it stays true as it is read on.
use Rattle.std.proofs.Common.{◌≡◌, ℕ, suc, ◌≤◌, Bool, true, false, List, [], ◌∷◌, Option, Some, None, refl, arith}
use Rattle.std.specs.Prelude.{IfSome, is_some, if◌then◌else◌, nat_le}
use Rattle.std.specs.Option.{option_map}
use Rattle.markdown_base.specs.Arena.{sibling_of}
use Rattle.markdown_base.specs.ArenaForest.{links_of, Spells, forest_at}
use Rattle.markdown_base.specs.BlockTree.{Numbered, numbered, item_at}
use Rattle.markdown_base.specs.Forest.{Forest, nil, node, Each, relabelled}
use Rattle.markdown_base.specs.Item.{is_block}
use Rattle.markdown_base.specs.declared.item.Item.{Item}
use Rattle.markdown_base.specs.declared.item.ItemBody.{ItemBody}
use Rattle.markdown_base.specs.declared.node.Node.{Node}
use Rattle.markdown_document.specs.Document.{block_of}
use Rattle.markdown_document.specs.ItemRules.{ComesBefore}
use Rattle.markdown_document.specs.Places.{tree_node_at}
use Rattle.markdown_document.specs.PlacedNodes.{IsPlaced}
use Rattle.markdown_document.specs.Tables.{Tables}
use Rattle.markdown_spans.specs.ChainInArena.{LeadsThrough, HasChain}
use Rattle.markdown_spans.specs.SpanClosers.{HoldsFrom, HoldsOf, Learned}
use Rattle.markdown_spans.specs.declared.span_text.SpanKind.{SpanKind}
use Rattle.markdown_spans.proofs.LearnedElsewhereLemmas.{holds_alike, holds_from}
use Rattle.markdown_spans.proofs.LearnedLemmas as before
use Rattle.markdown_resolver.specs.Chains.{CanResolve}
use Rattle.markdown_resolver.specs.Kept.{IsQuietBelow}
use Rattle.markdown_builder.specs.Shown.{unnumbered}
use Rattle.markdown_resolver.specs.Rewritten.{numbered_past, numbered_past_byte, begun_item}

-- the items of a chain, each with its number
abbrev pub items_along : List (Node Item) → Forest ℕ → List Numbered
items_along nodes nil = []
items_along nodes (node ix below after) = numbered nodes ix ∷ items_along nodes after

-- an item that is not a block, as it reads
pub no_block : (b : ItemBody) → is_some (block_of b) ≡ false → is_block b ≡ false
no_block b h = by_block (is_block b) h
  where
    by_block : (x : Bool) → is_some (if x then Some (unnumbered b) else None) ≡ false → x ≡ false
    by_block true h = cc h
    by_block false h = refl

-- the numbers of a chain rise, since each item precedes the next one
pub next_above : (source : List ℕ) (tables : Tables) (nodes : List (Node Item)) (ix : ℕ) (l : Option ℕ) (f : Forest ℕ)
    → Spells (links_of nodes) l f → is_block (item_at nodes ix).body ≡ false
    → IsQuietBelow (relabelled (tree_node_at source tables nodes) f)
    → ComesBefore (numbered nodes ix) (option_map (numbered nodes) l) → IfSome l (λ n. suc ix ≤ n)
next_above source tables nodes ix l nil s b q stands = rw s tt
next_above source tables nodes ix l (node j below after) s b q stands =
    rw s.0 (let p = (rw s.0 at stands) b (no_block (item_at nodes j).body q.0) in omega (arith, p.numbers))

pub leads_along : (source : List ℕ) (tables : Tables) (nodes : List (Node Item)) (low : ℕ) (l : Option ℕ) (f : Forest ℕ)
    → Spells (links_of nodes) l f → Each (IsPlaced source tables nodes) f
    → IsQuietBelow (relabelled (tree_node_at source tables nodes) f) → IfSome l (λ n. low ≤ n)
    → LeadsThrough nodes low l (items_along nodes f)
leads_along source tables nodes low l nil s p q from = s
leads_along source tables nodes low l (node ix below after) s p q from =
    let above : low ≤ ix = rw s.0 at from in (
      s.0,
      above,
      s.1,
      refl,
      leads_along source tables nodes (suc ix) (sibling_of nodes ix) after s.3 p.2 q.2
          (next_above source tables nodes ix (sibling_of nodes ix) after s.3 (no_block (item_at nodes ix).body q.0) q.2
          p.0.keeps.in_order),
    )

pub any_link : (l : Option ℕ) → IfSome l (λ n. 0 ≤ n)
any_link None = tt
any_link (Some n) = omega arith

-- links lead along the items of a chain that can be resolved
pub leads_items : (source : List ℕ) (tables : Tables) (nodes : List (Node Item)) (l : Option ℕ)
    → CanResolve source tables nodes l → LeadsThrough nodes 0 l (items_along nodes (forest_at (links_of nodes) l))
leads_items source tables nodes l ready =
    leads_along source tables nodes 0 l (forest_at (links_of nodes) l) ready.reaches.spelled ready.reaches.each
    ready.quiet_below (any_link l)

pub chain_leads : {source : List ℕ} {tables : Tables} {nodes : List (Node Item)} {l : Option ℕ}
    → CanResolve source tables nodes l → HasChain nodes l
chain_leads {source} {tables} {nodes} {l} ready =
    record {
      low = 0;
      chain = items_along nodes (forest_at (links_of nodes) l);
      leads = leads_items source tables nodes l ready;
    }

abbrev begun_number : ℕ → Numbered → Numbered
begun_number i a = record { number = a.number; item = begun_item i a.item }

-- what was learned of a chain is true of what is left of it past a byte offset
holds_past_byte : (kind : SpanKind) (learned : Learned) (nodes : List (Node Item)) (i low : ℕ) (l : Option ℕ)
    (chain : List Numbered)
    → LeadsThrough nodes low l chain → HoldsOf kind learned chain → HoldsOf kind learned (numbered_past_byte i chain)
holds_past_byte kind learned nodes i low l [] h holds = holds
holds_past_byte kind learned nodes i low l (a ∷ after) h holds =
    by_end (nat_le a.item.end i)
    (holds_past_byte kind learned nodes i (suc a.number) (sibling_of nodes a.number) after h.4
    (before.holds_next_of kind nodes a (sibling_of nodes a.number) after learned h.4 holds))
  where
    by_end : (ended : Bool) → HoldsOf kind learned (numbered_past_byte i after)
        → HoldsOf kind learned (if ended then numbered_past_byte i after else begun_number i a ∷ after)
    by_end true later = later
    by_end false later = holds_alike kind (a ∷ after) (begun_number i a ∷ after) learned (λ n stands. stands) refl holds

holds_of_past : (kind : SpanKind) (learned : Learned) (nodes : List (Node Item)) (goes_on : Option ℕ) (low : ℕ)
    (l : Option ℕ) (chain : List Numbered)
    → LeadsThrough nodes low l chain → HoldsOf kind learned chain → HoldsOf kind learned (numbered_past goes_on chain)
holds_of_past kind learned nodes None low l chain h holds = holds
holds_of_past kind learned nodes (Some i) low l chain h holds = holds_past_byte kind learned nodes i low l chain h holds

-- so it is where the chain was rewritten up to that offset
pub holds_past : (kind : SpanKind) (learned : Learned) (old new : List (Node Item)) (ix : ℕ) (goes_on next : Option ℕ)
    → HasChain old (sibling_of old ix)
    → ((low : ℕ) (after : List Numbered) → LeadsThrough old low (sibling_of old ix) after
    → LeadsThrough new low next (numbered_past goes_on after))
    → HoldsFrom kind learned old (sibling_of old ix) → HoldsFrom kind learned new next
holds_past kind learned old new ix goes_on next has leads holds =
    holds_from kind new has.low next (numbered_past goes_on has.chain) learned (leads has.low has.chain has.leads)
    (holds_of_past kind learned old goes_on has.low (sibling_of old ix) has.chain has.leads
    (holds has.low has.chain has.leads))

-- and of the items after its first one
pub holds_next : (kind : SpanKind) (learned : Learned) (nodes : List (Node Item)) (ix : ℕ) → HasChain nodes (Some ix)
    → HoldsFrom kind learned nodes (Some ix) → HoldsFrom kind learned nodes (sibling_of nodes ix)
holds_next kind learned nodes ix has holds = before.holds_next kind nodes ix learned has holds
