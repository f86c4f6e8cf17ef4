-- What an arena says from a link on stays the same where the nodes and the entries that the link leads to stay.
use Rattle.markdown_base.specs.declared.item.ItemBody.TheVariants as body
use Rattle.std.proofs.Common.{◌≡◌, ℕ, ◌<◌, ◌≤◌, List, Option, length, refl, ap, arith}
use Rattle.std.specs.Prelude.{slice_range}
use Rattle.markdown_base.specs.Arena.{child_of, sibling_of}
use Rattle.markdown_base.specs.ArenaForest.{links_of, Spells, forest_at}
use Rattle.markdown_base.specs.ArenaWalk.{Reaches}
use Rattle.std.specs.Option.{option_map}
use Rattle.markdown_base.specs.BlockTree.{item_at, numbered}
use Rattle.markdown_base.specs.Forest.{Forest, nil, node, Each, relabelled}
use Rattle.markdown_base.specs.Item.{range_of}
use Rattle.markdown_base.specs.declared.item.Item.{Item}
use Rattle.markdown_base.specs.declared.item.ItemBody.{ItemBody}
use Rattle.markdown_base.specs.declared.node.Node.{Node}
use Rattle.markdown_base.proofs.ArenaForestLemmas.{forest_at-height, forest_at-fits}
use Rattle.markdown_document.specs.Places.{tree_node_at, trees_from, origin_start}
use Rattle.markdown_document.specs.PlacedNodes.{IsSameAt, HasSlices, IsPlaced}
use Rattle.markdown_document.specs.Totals.{total, same, weight_at}
use Rattle.markdown_document.specs.NamedEntries.{naming, times_named, Named, some_text, some_link, some_alignments}
use Rattle.markdown_document.specs.NamedEntries.{IsSameEntry, IsNoShorter}
use Rattle.markdown_document.specs.Document.{Plain, shape_of, block_of}
use Rattle.markdown_document.specs.Tables.{Tables}
use Rattle.markdown_document.proofs.TablesLemmas.{same-refl, entries-longer}

-- a node stays, and so do the entries that it names
pub record Stays (tables tables' : Tables) (nodes nodes' : List (Node Item)) (n : ℕ) : Type 0 where
  pub at : IsSameAt nodes nodes' n
  pub entries : (m : Named) → 0 < naming nodes m n → IsSameEntry tables tables' m
  pub headings : tables'.headings ≡ tables.headings

-- a body reads the same by the same entries
shape-same : (tables tables' : Tables) (source : List ℕ) (body : ItemBody)
    → ((m : Named) → 0 < times_named m body → IsSameEntry tables tables' m) → tables'.headings ≡ tables.headings
    → shape_of tables' source body ≡ shape_of tables source body
shape-same tables tables' source (body.SynthesizeText ix) h e = rw
    ((h (some_text ix.0) (omega (arith, same-refl ix.0))).0) refl
shape-same tables tables' source (body.OwnedInlineHtml ix) h e = rw
    ((h (some_text ix.0) (omega (arith, same-refl ix.0))).0) refl
shape-same tables tables' source (body.Code ix) h e = let same = h (some_text ix.0) (omega (arith, same-refl ix.0))
    in rw (same.0, same.1) refl
shape-same tables tables' source (body.Math ix display) h e = let same = h (some_text ix.0)
    (omega (arith, same-refl ix.0))
    in rw (same.0, same.1) refl
shape-same tables tables' source (body.FootnoteReference ix) h e = rw
    ((h (some_text ix.0) (omega (arith, same-refl ix.0))).0) refl
shape-same tables tables' source (body.FencedCodeBlock ix) h e = rw
    ((h (some_text ix.0) (omega (arith, same-refl ix.0))).0) refl
shape-same tables tables' source (body.FootnoteDefinition ix) h e = rw
    ((h (some_text ix.0) (omega (arith, same-refl ix.0))).0) refl
shape-same tables tables' source (body.Table ix) h e = rw (h (some_alignments ix.0) (omega (arith, same-refl ix.0)))
    refl
shape-same tables tables' source (body.Link ix) h e = let same = h (some_link ix.0) (omega (arith, same-refl ix.0))
    in rw (same.0, same.1) refl
shape-same tables tables' source (body.Image ix) h e = let same = h (some_link ix.0) (omega (arith, same-refl ix.0))
    in rw (same.0, same.1) refl
shape-same tables tables' source (body.Heading level named) h e = rw e refl
shape-same tables tables' source other h e = refl

-- what is a slice of the source stays one
pub slices-same : (source : List ℕ) (tables tables' : Tables) (start end : ℕ) (b : ItemBody)
    → ((m : Named) → 0 < times_named m b → IsSameEntry tables tables' m) → HasSlices source tables start end b
    → HasSlices source tables' start end b
slices-same source tables tables' start end (body.Code ix) h p = let same = h (some_text ix.0)
    (omega (arith, same-refl ix.0))
    in rw (same.0, same.1) p
slices-same source tables tables' start end (body.Math ix display) h p = let same = h (some_text ix.0)
    (omega (arith, same-refl ix.0))
    in rw (same.0, same.1) p
slices-same source tables tables' start end (body.Link ix) h p = let same = h (some_link ix.0)
    (omega (arith, same-refl ix.0))
    in rw (same.0, same.1) p
slices-same source tables tables' start end (body.Image ix) h p = let same = h (some_link ix.0)
    (omega (arith, same-refl ix.0))
    in rw (same.0, same.1) p
slices-same source tables tables' start end other h p = tt

pub label-same : (source : List ℕ) (tables tables' : Tables) (nodes nodes' : List (Node Item)) (n : ℕ)
    → Stays tables tables' nodes nodes' n
    → tree_node_at source tables' nodes' n ≡ tree_node_at source tables nodes n
label-same source tables tables' nodes nodes' n h =
    rw h.at.item (ap (λ shape. let a : Plain = record {
      note = tt;
      part = record {
        shape = shape;
        range = range_of (item_at nodes n);
        block =
            block_of (item_at nodes n).body;
      };
    } in a)
    (shape-same tables tables' (slice_range source (item_at nodes n).start (item_at nodes n).end) (item_at nodes n).body
    h.entries
    h.headings))

-- where all nodes of a forest stay, with the entries that they name
pub stay_throughout : (tables tables' : Tables) (nodes nodes' : List (Node Item)) (f : Forest ℕ) → tables'.headings
    ≡ tables.headings
    → ((n : ℕ) → 0 < total (same n) f → IsSameAt nodes nodes' n) → ((n : Named) → 0 < total (naming nodes n) f
    → IsSameEntry tables tables' n) → Each (Stays tables tables' nodes nodes') f
stay_throughout tables tables' nodes nodes' nil e h t = tt
stay_throughout tables tables' nodes nodes' (node ix below after) e h t = (
  record {
    at = h ix (omega (arith, same-refl ix));
    entries = λ m l. t m (omega (arith, l));
    headings = e;
  },
  stay_throughout tables tables' nodes nodes' below e (λ n l. h n (omega (arith, l))) (λ n l. t n (omega (arith, l))),
  stay_throughout tables tables' nodes nodes' after e (λ n l. h n (omega (arith, l))) (λ n l. t n (omega (arith, l))),
)

-- the links lead through it as before
spells_same : (tables tables' : Tables) (nodes nodes' : List (Node Item)) (l : Option ℕ) (f : Forest ℕ)
    → length nodes ≤ length nodes'
    → Spells (links_of nodes) l f
    → Each (Stays tables tables' nodes nodes') f → Spells (links_of nodes') l f
spells_same tables tables' nodes nodes' l nil z s h = s
spells_same tables tables' nodes nodes' l (node ix below after) z s h = (
  s.0,
  omega (arith, s.1, z),
  rw h.0.at.child (spells_same tables tables' nodes nodes' (child_of nodes ix) below z s.2 h.1),
  rw h.0.at.next (spells_same tables tables' nodes nodes' (sibling_of nodes ix) after z s.3 h.2),
)

-- what a link leads to is the same item
following_same : (tables tables' : Tables) (nodes nodes' : List (Node Item)) (l : Option ℕ) (f : Forest ℕ)
    → Spells (links_of nodes) l f
    → Each (Stays tables tables' nodes nodes') f
    → option_map (numbered nodes') l ≡ option_map (numbered nodes) l
following_same tables tables' nodes nodes' l nil s h = rw s refl
following_same tables tables' nodes nodes' l (node ix below after) s h = rw (s.0, h.0.at.item) refl

-- its items are placed as before
placed_same : (source : List ℕ) (tables tables' : Tables) (nodes nodes' : List (Node Item)) (l : Option ℕ)
    (f : Forest ℕ) → Spells (links_of nodes) l f → IsNoShorter tables tables'
    → Each (Stays tables tables' nodes nodes') f → Each (IsPlaced source tables nodes) f
    → Each (IsPlaced source tables' nodes') f
placed_same source tables tables' nodes nodes' l nil s z h p = tt
placed_same source tables tables' nodes nodes' l (node ix below after) s z h p = (
  record {
    lies = rw h.0.at.item p.0.lies;
    named = rw h.0.at.item (entries-longer tables tables' (item_at nodes ix).body z p.0.named);
    slices = rw h.0.at.item
        (slices-same source tables tables' (origin_start source (item_at nodes ix).start) (item_at nodes ix).end
        (item_at nodes ix).body
        h.0.entries p.0.slices);
    keeps = rw (
      h.0.at.next,
      h.0.at.child,
      h.0.at.item,
      following_same tables tables' nodes nodes' (sibling_of nodes ix)
          after s.3 h.2,
    )
        p.0.keeps;
  },
  placed_same source tables tables' nodes nodes' (child_of nodes ix) below s.2 z h.1 p.1,
  placed_same source tables tables' nodes nodes' (sibling_of nodes ix) after s.3 z h.2 p.2,
)

relabelled_same : (source : List ℕ) (tables tables' : Tables) (nodes nodes' : List (Node Item)) (f : Forest ℕ)
    → Each (Stays tables tables' nodes nodes') f
    → relabelled (tree_node_at source tables' nodes') f ≡ relabelled (tree_node_at source tables nodes) f
relabelled_same source tables tables' nodes nodes' nil h = refl
relabelled_same source tables tables' nodes nodes' (node ix below after) h =
    rw (
      label-same source tables tables' nodes nodes' ix h.0,
      relabelled_same source tables tables' nodes nodes' below h.1,
      relabelled_same
          source tables tables' nodes nodes' after h.2,
    ) refl

naming_same : (tables tables' : Tables) (nodes nodes' : List (Node Item)) (n : Named) (f : Forest ℕ)
    → Each (Stays tables tables' nodes nodes') f → total (naming nodes' n) f ≡ total (naming nodes n) f
naming_same tables tables' nodes nodes' n nil h = refl
naming_same tables tables' nodes nodes' n (node ix below after) h =
    rw (
      h.0.at.item,
      naming_same tables tables' nodes nodes' n below h.1,
      naming_same tables tables' nodes nodes' n
          after h.2,
    ) refl

weight_same : (tables tables' : Tables) (nodes nodes' : List (Node Item)) (f : Forest ℕ)
    → Each (Stays tables tables' nodes nodes') f
    → total (weight_at nodes') f ≡ total (weight_at nodes) f
weight_same tables tables' nodes nodes' nil h = refl
weight_same tables tables' nodes nodes' (node ix below after) h =
    rw (
      h.0.at.item,
      weight_same tables tables' nodes nodes' below h.1,
      weight_same tables tables' nodes nodes' after
          h.2,
    ) refl

-- all that is said of a link that leads to nodes and entries that stay
pub record Framed (source : List ℕ) (tables tables' : Tables) (nodes nodes' : List (Node Item)) (l : Option ℕ) : Type 0
  where
    pub forest : forest_at (links_of nodes') l ≡ forest_at (links_of nodes) l
    pub reaches : Reaches (links_of nodes') (IsPlaced source tables' nodes') l
    pub trees : trees_from source tables' nodes' l ≡ trees_from source tables nodes l
    pub naming : (n : Named) → total (naming nodes' n) (forest_at (links_of nodes') l)
        ≡ total (naming nodes n) (forest_at (links_of nodes) l)
    pub weight : total (weight_at nodes') (forest_at (links_of nodes') l)
        ≡ total (weight_at nodes) (forest_at (links_of nodes) l)

pub framed : (source : List ℕ) (tables tables' : Tables) (nodes nodes' : List (Node Item)) (l : Option ℕ)
    → length nodes ≤ length nodes'
    → IsNoShorter tables tables'
    → Reaches (links_of nodes) (IsPlaced source tables nodes) l → Each (Stays tables tables' nodes nodes')
    (forest_at (links_of nodes) l)
    → Framed source tables tables' nodes nodes' l
framed source tables tables' nodes nodes' l z y r h =
    let f = forest_at (links_of nodes) l in
    let s : Spells (links_of nodes') l f = spells_same tables tables' nodes nodes' l f z r.spelled h in
    let e : forest_at (links_of nodes') l ≡ f = forest_at-fits (links_of nodes') l f s
    (omega (arith, forest_at-height (links_of nodes) l, z)) in
    record {
      forest = e;
      reaches = record {
        spelled = rw e s;
        each = rw e
            (placed_same source tables tables' nodes nodes' l f r.spelled y h r.each);
      };
      trees = rw e (relabelled_same source tables tables' nodes nodes' f h);
      naming = λ n. rw e (naming_same tables tables' nodes nodes' n f h);
      weight = rw e (weight_same tables tables' nodes nodes' f h);
    }
