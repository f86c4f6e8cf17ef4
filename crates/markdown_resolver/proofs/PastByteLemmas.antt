-- What is left of a chain in an arena past a byte offset: items leave it up to there, and the first that is left begins
-- there.
use Rattle.markdown_base.specs.declared.item.ItemBody.TheVariants as body
use Rattle.std.proofs.Common.{[], ◌∷◌, ◌≡◌, ℕ, zero, suc, ◌+◌, ◌-◌, ◌<◌, ◌≤◌, max, Bool, true, false, ⊎_elim, List}
use Rattle.std.proofs.Common.{length, take, drop, Option, Some, None, refl, sym, ap, ◌∙◌, subst, arith, if◌then◌else◌}
use Rattle.std.proofs.Common.{nat_le}
use Rattle.std.proofs.lemmas.Bool.{cases_lt}
use Rattle.std.proofs.lemmas.Bool.Decides.{nat_tests}
use Rattle.std.proofs.lemmas.List.{drop-take, drop-drop}
use Rattle.std.specs.Prelude.{⊤, slice_range, IsCharBoundary}
use Rattle.markdown_base.specs.Arena.{child_of, sibling_of}
use Rattle.markdown_base.specs.ArenaForest.{Links, Spells, followed, forest_at, links_of}
use Rattle.markdown_base.specs.ArenaRules.{next_at}
use Rattle.markdown_base.specs.BlockTree.{Numbered, item_at}
use Rattle.markdown_base.specs.Forest.{Forest, nil, node, relabelled, roots}
use Rattle.markdown_base.specs.Item.{is_open}
use Rattle.markdown_base.specs.declared.item.Item.{Item}
use Rattle.markdown_base.specs.declared.item.ItemBody.{ItemBody}
use Rattle.markdown_base.specs.declared.node.Node.{Node}
use Rattle.markdown_base.proofs.ArenaForestLemmas.{opens, forest_at-none}
use Rattle.markdown_base.proofs.ArenaLemmas.{length-changed_at}
use Rattle.markdown_base.specs.Event.{code}
use Rattle.markdown_base.proofs.ForestLemmas.{Each-always}
use Rattle.markdown_document.specs.Origins.{Origin, inlined, made, origin_at, sliced}
use Rattle.markdown_document.specs.ChainRest.{begun_at, end_of, cut_shape, past_byte}
use Rattle.markdown_document.specs.Document.{TreeNode, Plain, block_of, tree_node_of, shape_of, leaf, math}
use Rattle.markdown_document.specs.ItemRules.{ComesBefore, KeepsItemRules}
use Rattle.markdown_document.specs.Places.{tree_node_at, trees_from}
use Rattle.markdown_document.specs.PlacedNodes.{IsPlaced, ComesFromPlace}
use Rattle.markdown_document.specs.ResolverStates.{items_from}
use Rattle.markdown_document.specs.Tables.{Tables, text_at}
use Rattle.markdown_document.proofs.ItemRulesLemmas.{keeps-closed}
use Rattle.markdown_document.proofs.TablesLemmas.{grown-nothing}
use Rattle.markdown_resolver.specs.Rewritten.{IsRestPast, Passes, begun_item, first_past}
use Rattle.markdown_resolver.specs.LiteralText.{begun_from}
use Rattle.markdown_resolver.specs.declared.continuation.Continuation.{Continuation}
use Rattle.markdown_resolver.proofs.NodeChangeLemmas.{changed_other, changed_here}
use Rattle.markdown_resolver.proofs.ComposeLemmas.{Stands, Moves, moves_none, moves_twice, first_leaves, HeadWritten}
use Rattle.markdown_resolver.proofs.ComposeLemmas.{head_moves, after_head, below_kept, following_kept}

-- what is left of a chain past a byte, with the first item as it is; and that begun there
abbrev pub left_past : {A : Type 0} → ℕ → Forest (TreeNode A) → Forest (TreeNode A)
left_past i nil = nil
left_past i (node a below after) = if nat_le (end_of a) i then left_past i after else node a below after

abbrev pub first_begun : {A : Type 0} → ℕ → Forest (TreeNode A) → Forest (TreeNode A)
first_begun i nil = nil
first_begun i (node a below after) = node (begun_at i a) below after

past_if : (b : Bool) (i : ℕ) (a : Plain) (below after : Forest Plain) → past_byte i after
    ≡ first_begun i (left_past i after)
    → (if b then past_byte i after else node (begun_at i a) below after) ≡ first_begun i (if b then left_past i after
    else node a below after)
past_if true i a below after e = e
past_if false i a below after e = refl

pub past_is : (i : ℕ) (f : Forest Plain) → past_byte i f ≡ first_begun i (left_past i f)
past_is i nil = refl
past_is i (node a below after) = past_if (nat_le (end_of a) i) i a below after (past_is i after)

-- the chain from a link on became what another link leads to, which reads as this
pub record Dropped (source : List ℕ) (tables : Tables) (nodes : List (Node Item)) (l l' : Option ℕ)
    (trees : Forest Plain) : Type 0 where
  pub moves : Moves source l l' nodes nodes tables tables
  pub reads : trees_from source tables nodes l' ≡ trees

dropped_if : (b : Bool) (source : List ℕ) (tables : Tables) (nodes : List (Node Item)) (ix : ℕ) (l : Option ℕ)
    (trees : Forest Plain) → Stands source tables nodes (Some ix) → Dropped source tables nodes (Some ix) l trees
    → Dropped source tables nodes (Some ix) (if b then l else Some ix)
    (if b then trees else trees_from source tables nodes (Some ix))
dropped_if true source tables nodes ix l trees s d = d
dropped_if false source tables nodes ix l trees s d = record { moves = moves_none s; reads = refl }

-- items leave a chain up to a byte
pub dropped : (source : List ℕ) (tables : Tables) (nodes : List (Node Item)) (i : ℕ) (f : Forest ℕ) (l : Option ℕ)
    → forest_at (links_of nodes) l ≡ f → Stands source tables nodes l
    → Dropped source tables nodes l (first_past nodes i (roots f)) (left_past i (trees_from source tables nodes l))
dropped source tables nodes i nil l e s =
    let none : l ≡ None = rw e at s.reaches.spelled in
    rw (none, forest_at-none (links_of nodes)) (record {
      moves = moves_none (rw none at s);
      reads = rw (forest_at-none (links_of nodes)) refl;
    })
dropped source tables nodes i (node ix below after) l e s =
    let one : l ≡ Some ix = (rw e at s.reaches.spelled).0 in
    let at : Stands source tables nodes (Some ix) = rw one at s in
    let o = opens (links_of nodes) (IsPlaced source tables nodes) ix at.reaches in
    let e' : forest_at (links_of nodes) (Some ix) ≡ node ix below after = rw one at e in
    let follows : forest_at (links_of nodes) (sibling_of nodes ix) ≡ after = cc (e', o.here) in
    let leaves = first_leaves at in
    let d = dropped source tables nodes i after (sibling_of nodes ix) follows leaves.stands in
    let link = first_past nodes i (roots after) in
    let first : Dropped source tables nodes (Some ix) link
    (left_past i (trees_from source tables nodes (sibling_of nodes ix))) =
    record {
      moves = moves_twice leaves d.moves;
      reads = d.reads;
    } in
    let all = dropped_if (nat_le (item_at nodes ix).end i) source tables nodes ix link
    (left_past i (trees_from source tables nodes (sibling_of nodes ix))) at first in
    let is : trees_from source tables nodes (Some ix)
    ≡ node (tree_node_at source tables nodes ix) (trees_from source tables nodes (child_of nodes ix))
    (trees_from source tables nodes (sibling_of nodes ix)) = rw o.here refl in
    rw one (record {
      moves = all.moves;
      reads = all.reads ∙ ap (λ t. if nat_le (item_at nodes ix).end i
          then left_past i (trees_from source tables nodes (sibling_of nodes ix)) else t) is ∙ rw is refl;
    })

-- where a chain reads as what is left of another past a byte offset, that many items are left
pub as_many : (g : ℕ → Plain) (f : Forest ℕ) → length (roots (relabelled g f)) ≡ length (roots f)
as_many g nil = refl
as_many g (node ix below after) = ap suc (as_many g after)

many_begun : (i : ℕ) (f : Forest Plain) → length (roots (first_begun i f)) ≡ length (roots f)
many_begun i nil = refl
many_begun i (node a below after) = refl

pub passes_past : (source : List ℕ) (tables t : Tables) (old new : List (Node Item)) (ix i : ℕ) (rest : Continuation)
    → Stands source tables old (Some ix) → IsRestPast old i (sibling_of old ix) rest
    → trees_from source t new rest.next ≡ past_byte i (trees_from source tables old (sibling_of old ix))
    → Passes ix rest old new
passes_past source tables t old new ix i rest s past reads =
    let l = sibling_of old ix in
    let after = trees_from source tables old l in
    let o = opens (links_of old) (IsPlaced source tables old) ix s.reaches in
    let d = dropped source tables old i (forest_at (links_of old) l) l refl (first_leaves s).stands in
    let left : length (roots (trees_from source t new rest.next))
    ≡ length (roots (trees_from source tables old rest.next)) =
    ap (λ (f : Forest Plain). length (roots f)) (reads ∙ past_is i after) ∙ many_begun i (left_past i after)
    ∙ ap (λ (f : Forest Plain). length (roots f)) (sym d.reads ∙ ap (trees_from source tables old) (sym past.next_is))
    in
    let many = as_many (tree_node_at source t new) (forest_at (links_of new) rest.next) in
    let many' = as_many (tree_node_at source tables old) (forest_at (links_of old) rest.next) in
    rw o.here (omega (arith, past.counted, left, many, many'))

-- the bytes of an item that is cut at a byte offset
slice_begun : (source : List ℕ) (start end i : ℕ) → i ≤ end → start ≤ end → slice_range source (max start i) end
    ≡ drop (i - start) (slice_range source start end)
slice_begun source start end i le ordered =
    let n = i - start in
    let m = end - max start i in
    let all : end - start ≡ n + m = omega arith in
    let to : start + n ≡ max start i = omega arith in
    sym (ap (λ k. drop n (take k (drop start source))) all ∙ drop-take n m (drop start source)
    ∙ ap (λ (xs : List ℕ). take m xs) (drop-drop n start source) ∙ ap (λ k. take m (drop k source)) to)

shape_begun : (tables : Tables) (bytes : List ℕ) (n : ℕ) (b : ItemBody)
    → shape_of tables (drop n bytes) b ≡ cut_shape n (shape_of tables bytes b)
shape_begun tables bytes n (body.HardBreak true) = refl
shape_begun tables bytes n (body.HardBreak false) = refl
shape_begun tables bytes n (body.Code ix) = by (origin_at tables.cows ix.0)
  where
    by : (origin : Origin) → leaf (code (text_at tables.cows ix.0)) (origin ∷ [])
        ≡ cut_shape n (leaf (code (text_at tables.cows ix.0)) (origin ∷ []))
    by sliced = refl
    by inlined = refl
    by made = refl
shape_begun tables bytes n (body.Math ix display) = by display (origin_at tables.cows ix.0)
  where
    by : (display : Bool) (origin : Origin) → leaf (math display (text_at tables.cows ix.0)) (origin ∷ [])
        ≡ cut_shape n (leaf (math display (text_at tables.cows ix.0)) (origin ∷ []))
    by true sliced = refl
    by true inlined = refl
    by true made = refl
    by false sliced = refl
    by false inlined = refl
    by false made = refl
shape_begun tables bytes n other = refl

node_begun : (source : List ℕ) (tables : Tables) (i : ℕ) (item : Item) → i ≤ item.end → item.start ≤ item.end
    → tree_node_of source tables (begun_item i item) ≡ begun_at i (tree_node_of source tables item)
node_begun source tables i item le ordered =
    let e : shape_of tables (slice_range source (max item.start i) item.end) item.body
    ≡ cut_shape (i - item.start) (shape_of tables (slice_range source item.start item.end) item.body) =
    ap (λ bytes. shape_of tables bytes item.body) (slice_begun source item.start item.end i le ordered)
    ∙ shape_begun tables (slice_range source item.start item.end) (i - item.start) item.body in
    ap (λ shape. let a : Plain = record {
      note = tt;
      part =
          record {
            shape = shape;
            range = record { start = max item.start i; end = item.end };
            block = block_of item.body;
          };
    } in a) e

-- it keeps the rules of items, where it is not cut if it is open
stands_begun : (ix i : ℕ) (item : Item) (next : Option Numbered) → ComesBefore (record { number = ix; item = item })
    next → ComesBefore (record { number = ix; item = begun_item i item }) next
stands_begun ix i item None h = tt
stands_begun ix i item (Some b) h = λ x y. let p = h x y in record { ends = p.ends; numbers = p.numbers }

keeps_begun : (source : List ℕ) (ix i : ℕ) (item : Item) (child : Option ℕ) (next : Option Numbered)
    → (item.start < i → is_open item.body ≡ false)
    → KeepsItemRules source (record { number = ix; item = item }) child next
    → KeepsItemRules source (record { number = ix; item = begun_item i item }) child next
keeps_begun source ix i item child next closed h = ⊎_elim
    (λ (l : item.start < i). keeps-closed source (record { number = ix; item = begun_item i item }) child next
    (closed l) (stands_begun ix i item next h.in_order))
    (λ (l : i ≤ item.start). let e : item.start ≡ max item.start i = omega arith in
    subst (λ (start : ℕ). KeepsItemRules source
    (record { number = ix; item = record { start = start; end = item.end; body = item.body } })
    child next) e h) (cases_lt item.start i)

pub boundary_begun : (source : List ℕ) (start i : ℕ) → IsCharBoundary source start → IsCharBoundary source i
    → IsCharBoundary source (max start i)
boundary_begun source start i s b = ⊎_elim
    (λ (l : start < i). let e : i ≡ max start i = omega arith in subst (λ (n : ℕ). IsCharBoundary source n) e b)
    (λ (l : i ≤ start). let e : start ≡ max start i = omega arith in subst (λ (n : ℕ). IsCharBoundary source n) e s)
    (cases_lt start i)

pub tree_same : {a b : Plain} {below below' after after' : Forest Plain} → a ≡ b → below ≡ below' → after ≡ after'
    → node a below after ≡ node b below' after'
tree_same p q r = rw (p, q, r) refl

-- the first item of a chain begins at a byte
pub record Begun (source : List ℕ) (tables : Tables) (l : Option ℕ) (i : ℕ) (nodes nodes' : List (Node Item)) : Type 0
  where
    pub moves : Moves source l l nodes nodes' tables tables
    pub reads : trees_from source tables nodes' l ≡ first_begun i (trees_from source tables nodes l)

-- what it refers to comes from where it is, if it does where the item is cut
slices_begun : (source : List ℕ) (tables : Tables) (i : ℕ) (item : Item)
    → (item.start < i → ComesFromPlace source tables (begun_item i item))
    → ComesFromPlace source tables item → ComesFromPlace source tables (begun_item i item)
slices_begun source tables i item cut h = ⊎_elim (λ (l : item.start < i). cut l)
    (λ (l : i ≤ item.start). let e : item.start ≡ max item.start i = omega arith in
    subst (λ (start : ℕ). ComesFromPlace source tables (record { start = start; end = item.end; body = item.body })) e
    h) (cases_lt item.start i)

begun_moves : (source : List ℕ) (tables : Tables) (nodes : List (Node Item)) (ix i : ℕ)
    → Stands source tables nodes (Some ix) → IsCharBoundary source i → i ≤ (item_at nodes ix).end
    → ((item_at nodes ix).start < i → is_open (item_at nodes ix).body ≡ false)
    → ((item_at nodes ix).start < i → ComesFromPlace source tables (begun_item i (item_at nodes ix)))
    → Begun source tables (Some ix) i nodes (begun_from (Some ix) i nodes)
begun_moves source tables nodes ix i s boundary le closed cut =
    let item = item_at nodes ix in
    let new = begun_from (Some ix) i nodes in
    let o = opens (links_of nodes) (IsPlaced source tables nodes) ix s.reaches in
    let c = changed_here nodes ix (λ n. record n { item = begun_item i item }) o.within in
    let lies = o.holds.lies in
    let size = length-changed_at ix (λ n. record n { item = begun_item i item }) nodes in
    let keeps = keeps_begun source ix i item (child_of nodes ix) (next_at nodes ix) closed o.holds.keeps in
    let h : HeadWritten source ix nodes new tables tables = record {
      others = λ n l d. changed_other nodes ix (λ n. record n { item = begun_item i item }) n d;
      more = omega (arith, size);
      grown = grown-nothing tables;
      lies = rw c.item (let ordered = lies.ordered in record {
        ordered = omega arith;
        start = boundary_begun source item.start i lies.start boundary;
        end = lies.end;
      });
      entries = rw c.item o.holds.named;
      slices = rw c.item (slices_begun source tables i item cut o.holds.slices);
      markup = rw c.item keeps.markup_is_there;
      childless = rw (c.item, c.child) keeps.childless;
      named = λ n l. rw c.item (omega arith);
    } in
    let a = after_head s h in
    let m : Moves source (sibling_of nodes ix) (sibling_of new ix) new new tables tables =
    rw c.next (moves_none a.stands) in
    let kept = below_kept (sibling_of new ix) s h m c.child (rw c.item (omega arith)) in
    let follows = following_kept source ix nodes new tables tables s h in
    let hm = head_moves source ix nodes new new tables tables tables s h m kept.below
    (rw (c.next, follows, c.item) keeps.in_order) (rw (c.next, follows, c.item) keeps.runs_are_whole) in
    let label : tree_node_of source tables (item_at new ix) ≡ begun_at i (tree_node_at source tables nodes ix) = ap
    (λ x. tree_node_of source tables x) c.item ∙ node_begun source tables i item le lies.ordered in
    let after : trees_from source tables new (sibling_of new ix) ≡ trees_from source tables nodes (sibling_of nodes ix)
    = ap (λ (l : Option ℕ). trees_from source tables new l) c.next ∙ a.rest.trees in
    record {
      moves = hm.moves;
      reads = rw o.here (hm.trees ∙ tree_same label kept.trees after);
    }

-- where there is one
pub begun_is : (source : List ℕ) (tables : Tables) (nodes : List (Node Item)) (l : Option ℕ) (i : ℕ)
    → Stands source tables nodes l → IsCharBoundary source i
    → ((ix : ℕ) → l ≡ Some ix → i ≤ (item_at nodes ix).end) → ((ix : ℕ) → l ≡ Some ix → (item_at nodes ix).start < i
    → is_open (item_at nodes ix).body ≡ false) → ((ix : ℕ) → l ≡ Some ix → (item_at nodes ix).start < i
    → ComesFromPlace source tables (begun_item i (item_at nodes ix)))
    → Begun source tables l i nodes (begun_from l i nodes)
begun_is source tables nodes None i s boundary ends closed cut = record {
  moves = moves_none s;
  reads = rw (forest_at-none (links_of nodes)) refl;
}
begun_is source tables nodes (Some ix) i s boundary ends closed cut = begun_moves source tables nodes ix i s boundary
    (ends ix refl) (closed ix refl) (cut ix refl)

-- a link to a node, and what follows that
pub record SpelledAt (nodes : List (Node Item)) (ix : ℕ) : Type 0 where
  pub within : ix < length nodes
  pub here : forest_at (links_of nodes) (Some ix) ≡ node ix (forest_at (links_of nodes) (child_of nodes ix))
      (forest_at (links_of nodes) (sibling_of nodes ix))
  pub after : Spells (links_of nodes) (sibling_of nodes ix) (forest_at (links_of nodes) (sibling_of nodes ix))

pub spelled_at : (nodes : List (Node Item)) (l : Option ℕ) (ix : ℕ) → l ≡ Some ix
    → Spells (links_of nodes) l (forest_at (links_of nodes) l) → SpelledAt nodes ix
spelled_at nodes l ix e s =
    let o = opens (links_of nodes) (λ n. ⊤) ix
    (record { spelled = rw e at s; each = Each-always (forest_at (links_of nodes) (Some ix)) }) in
    record { within = o.within; here = o.here; after = o.after.spelled }

-- the first that ends past a byte is here, or further on
pub first_here : (nodes : List (Node Item)) (i ix : ℕ) → SpelledAt nodes ix → i < (item_at nodes ix).end
    → first_past nodes i (roots (forest_at (links_of nodes) (Some ix))) ≡ Some ix
first_here nodes i ix s l =
    let test : nat_le (item_at nodes ix).end i ≡ false = grind (arith, nat_tests, l) in
    rw (s.here, test) refl

pub first_later : (nodes : List (Node Item)) (i ix : ℕ) → SpelledAt nodes ix → (item_at nodes ix).end ≤ i
    → first_past nodes i (roots (forest_at (links_of nodes) (Some ix)))
    ≡ first_past nodes i (roots (forest_at (links_of nodes) (sibling_of nodes ix)))
first_later nodes i ix s l =
    let test : nat_le (item_at nodes ix).end i ≡ true = grind (arith, nat_tests, l) in
    rw (s.here, test) refl

pub first_none : (nodes : List (Node Item)) (i : ℕ) → first_past nodes i (roots (forest_at (links_of nodes) None))
    ≡ None
first_none nodes i = rw (forest_at-none (links_of nodes)) refl

pub items_fall : (nodes : List (Node Item)) (ix : ℕ) → SpelledAt nodes ix
    → items_from nodes (Some ix) ≡ suc (items_from nodes (sibling_of nodes ix))
items_fall nodes ix s = rw s.here refl

-- no chain has more items than there are nodes
followed_few : (n : ℕ) (k : Links) (l : Option ℕ) → length (roots (followed n k l)) ≤ n
followed_few zero k l = omega arith
followed_few (suc n) k None = omega arith
followed_few (suc n) k (Some ix) = omega (arith, followed_few n k (k.next ix))

pub items_few : (nodes : List (Node Item)) (l : Option ℕ) → items_from nodes l ≤ length nodes
unfolding forest_at
items_few nodes l = followed_few (length nodes) (links_of nodes) l
