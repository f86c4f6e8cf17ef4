-- What follows an item that pass one has still to read was not made, and neither was what is left of it.
use Rattle.std.proofs.Common.{◌≡◌, ℕ, ◌-◌, Bool, true, false, List, Option, Some, None, refl, sym, ap, subst, ◌∙◌}
use Rattle.std.specs.Prelude.{if◌then◌else◌, nat_le, slice_range}
use Rattle.markdown_base.specs.Arena.{sibling_of}
use Rattle.markdown_base.specs.BlockTree.{item_at}
use Rattle.markdown_base.specs.Forest.{Forest, nil, node, relabelled, roots}
use Rattle.markdown_base.specs.Item.{is_open}
use Rattle.markdown_base.specs.declared.item.Item.{Item}
use Rattle.markdown_base.specs.declared.item.ItemBody.{ItemBody}
use Rattle.markdown_base.specs.declared.item.ItemBody.TheVariants as body
use Rattle.markdown_base.specs.declared.node.Node.{Node}
use Rattle.markdown_document.specs.ChainRest.{begun_at, cut_shape, end_of, past, past_byte}
use Rattle.markdown_document.specs.Document.{TreeNode, Plain, Shape, leaf, shape_of}
use Rattle.markdown_document.specs.Places.{tree_node_at, trees_from}
use Rattle.markdown_document.specs.PlacedNodes.{HasSlices}
use Rattle.markdown_document.specs.Tables.{Tables}
use Rattle.markdown_document.specs.Waiting.{is_quiet, waits_for_pairing}
use Rattle.markdown_document.proofs.PlaceLemmas.{shape-open}
use Rattle.markdown_resolver.specs.Chains.{CanResolve}
use Rattle.markdown_resolver.specs.Unread.{IsUnmade, IsUnread, is_made}
use Rattle.markdown_resolver.specs.Rewritten.{MayBeCut, first_past}
use Rattle.markdown_resolver.proofs.FollowersLemmas.{opens_chain}

-- an item that was not made refers to nothing that has to come from the source
unmade_slices : (tables : Tables) (bytes : List ℕ) (b : ItemBody) → is_made (shape_of tables bytes b) ≡ false
    → (source : List ℕ) (tables' : Tables) (start end : ℕ) → HasSlices source tables' start end b
unmade_slices tables bytes (body.Code ix) h source tables' start end = cc h
unmade_slices tables bytes (body.Math ix true) h source tables' start end = cc h
unmade_slices tables bytes (body.Math ix false) h source tables' start end = cc h
unmade_slices tables bytes (body.Link ix) h source tables' start end = cc h
unmade_slices tables bytes (body.Image ix) h source tables' start end = cc h
unmade_slices tables bytes other h source tables' start end = tt

-- so the first that ends past a byte offset may be cut where it is not open
pub first_cut : (source : List ℕ) (tables : Tables) (nodes : List (Node Item)) (i n : ℕ) (f : Forest ℕ)
    → IsUnmade (relabelled (tree_node_at source tables nodes) f) → first_past nodes i (roots f) ≡ Some n
    → is_open (item_at nodes n).body ≡ false → MayBeCut (item_at nodes n).body
first_cut source tables nodes i n nil h first closed = cc first
first_cut source tables nodes i n (node ix below after) h first closed =
    by (nat_le (item_at nodes ix).end i) first (λ later. first_cut source tables nodes i n after h.1 later closed)
  where
    by : (ended : Bool) → (if ended then first_past nodes i (roots after) else Some ix) ≡ Some n
        → (first_past nodes i (roots after) ≡ Some n → MayBeCut (item_at nodes n).body)
        → MayBeCut (item_at nodes n).body
    by true first further = further first
    by false first further =
        let same : ix ≡ n = cc first in
        let item = item_at nodes ix in
        record {
          closed = closed;
          no_slices = subst (λ m. (source : List ℕ) (tables : Tables) (start end : ℕ)
              → HasSlices source tables start end (item_at nodes m).body)
              same (unmade_slices tables (slice_range source item.start item.end) item.body h.0);
        }

-- what follows the first item of a chain
pub unread_after : (source : List ℕ) (tables : Tables) (nodes : List (Node Item)) (ix : ℕ)
    → CanResolve source tables nodes (Some ix) → IsUnread (trees_from source tables nodes (Some ix))
    → IsUnread (trees_from source tables nodes (sibling_of nodes ix))
unread_after source tables nodes ix ready h = (subst (λ (f : Forest Plain). IsUnread f) (opens_chain ready).trees h).1

pub unmade_after : {source : List ℕ} {tables : Tables} {nodes : List (Node Item)} {ix : ℕ}
    → CanResolve source tables nodes (Some ix)
    → is_open (item_at nodes ix).body ≡ true → waits_for_pairing (item_at nodes ix).body ≡ false
    → IsUnread (trees_from source tables nodes (Some ix))
    → IsUnmade (trees_from source tables nodes (sibling_of nodes ix))
unmade_after {source} {tables} {nodes} {ix} ready opens waits h =
    let item = item_at nodes ix in
    let shape = shape-open tables (slice_range source item.start item.end) item.body opens in
    (subst (λ (f : Forest Plain). IsUnread f) (opens_chain ready).trees h).0 (ap is_quiet shape ∙ waits)

-- what is left of a chain past a byte offset
quiet_cut : (n : ℕ) (shape : Shape) → is_quiet (cut_shape n shape) ≡ is_quiet shape
quiet_cut n (leaf e origins) = refl
quiet_cut n other = refl

module _ {A : Type 0} where
  pub unread_past_byte : (i : ℕ) (f : Forest (TreeNode A)) → IsUnread f → IsUnread (past_byte i f)
  unread_past_byte i nil h = tt
  unread_past_byte i (node a below after) h = by (nat_le (end_of a) i) (unread_past_byte i after h.1)
    where
      by : (ended : Bool) → IsUnread (past_byte i after)
          → IsUnread (if ended then past_byte i after else node (begun_at i a) below after)
      by true later = later
      by false later = (λ read. h.0 (sym (quiet_cut (i - a.part.range.start) a.part.shape) ∙ read), h.1)

  pub unread_past : (goes_on : Option ℕ) (f : Forest (TreeNode A)) → IsUnread f → IsUnread (past goes_on f)
  unread_past None f h = h
  unread_past (Some i) f h = unread_past_byte i f h
