-- An item that was found is put into the node of its opener, with what is below it.
use Rattle.std.proofs.Common.{◌≡◌, ℕ, zero, suc, ◌<◌, ◌≤◌, true, false, List, [], ◌∷◌, ◌++◌, length, Option, Some, None}
use Rattle.std.proofs.Common.{refl, sym, ap, ◌∙◌, arith}
use Rattle.std.specs.Option.{option_map}
use Rattle.markdown_base.specs.Arena.{Arena, child_of, sibling_of}
use Rattle.markdown_base.specs.ArenaChanges.{changed_at, single}
use Rattle.markdown_base.specs.ArenaForest.{Spells, forest_at, links_of}
use Rattle.markdown_base.specs.ArenaRules.{next_at}
use Rattle.markdown_base.specs.BlockTree.{numbered, item_at}
use Rattle.markdown_base.specs.Forest.{Forest, nil, node, roots}
use Rattle.markdown_base.specs.Item.{LiesIn, is_open}
use Rattle.markdown_base.specs.WellFormed.{MarkupIsThere}
use Rattle.markdown_base.specs.declared.item.Item.{Item}
use Rattle.markdown_base.specs.declared.node.Node.{Node}
use Rattle.markdown_base.proofs.ArenaForestLemmas.{opens, forest_at-none}
use Rattle.markdown_base.proofs.ArenaLemmas.{length-changed_at}
use Rattle.markdown_document.specs.ChainRest.{joined_chains, past_byte}
use Rattle.markdown_document.specs.Document.{Plain, tree_node_of}
use Rattle.markdown_document.specs.Places.{tree_node_at, trees_from, origin_start}
use Rattle.markdown_document.specs.PlacedNodes.{HasSlices, IsSameAt, IsPlaced}
use Rattle.markdown_document.specs.ResolverStates.{times_in}
use Rattle.markdown_document.specs.Tables.{Tables}
use Rattle.markdown_document.specs.NamedEntries.{Named, number_of, size_for, NamesEntries, HasGrown, times_named}
use Rattle.markdown_document.specs.Totals.{same}
use Rattle.markdown_document.proofs.FoundLemmas.{found}
use Rattle.markdown_document.proofs.FrameLemmas.{Stays, label-same}
use Rattle.markdown_document.proofs.ItemRulesLemmas.{keeps-closed}
use Rattle.markdown_document.proofs.PlaceLemmas.{times-past, slices-none}
use Rattle.markdown_document.proofs.TablesLemmas.{same_once, same-apart, grown-longer, entries-longer}
use Rattle.markdown_resolver.specs.Chains.{CanResolve}
use Rattle.markdown_resolver.specs.Rewritten.{Standing, Rewrites, replaced, one_item, parent, IsFoundAt, IsRestPast}
use Rattle.markdown_resolver.specs.Rewritten.{CanPut, CanPutParent, Puts}
use Rattle.markdown_resolver.specs.declared.continuation.Continuation.{Continuation}
use Rattle.markdown_resolver.specs.LiteralText.{IsWritten, begun_from}
use Rattle.markdown_resolver.proofs.ChainOrderLemmas.{rest_past}
use Rattle.markdown_resolver.proofs.ComposeLemmas.{same_trans, Stands, stands_ready, Moves, changes_move, moves_twice}
use Rattle.markdown_resolver.proofs.ComposeLemmas.{HeadWritten, head_moves, after_head, Below, below_kept}
use Rattle.markdown_resolver.proofs.NodeChangeLemmas.{changed_other, changed_here}
use Rattle.markdown_resolver.proofs.PastByteLemmas.{passes_past, tree_same}
use Rattle.markdown_resolver.proofs.PutLemmas.{leaves_rest, whole_put, ClosesAt, before_closed, runs_closed}
use Rattle.markdown_resolver.proofs.PutLemmas.{no_run_here, rest_past_is, rewrites_none, next_from, over_numbers}
use Rattle.markdown_document.proofs.OriginLemmas.{slices_from_place}

-- no markup is required of what is not open
pub no_markup : (source : List ℕ) (item : Item) → is_open item.body ≡ false → MarkupIsThere source item
no_markup source item closed
    = (keeps-closed source (record { number = 0; item = item }) None None closed tt).markup_is_there

-- a node into which an item was written that is not open
pub closed_head : (source : List ℕ) (ix : ℕ) (item : Item) (old mid : List (Node Item)) (tables t : Tables)
    → HasGrown tables t → is_open item.body ≡ false → LiesIn source item → NamesEntries t item.body
    → HasSlices source t item.start item.end item.body
    → ((n : Named) → number_of n < size_for tables n → times_named n item.body ≡ 0) → item_at mid ix ≡ item
    → length old ≤ length mid
    → ((n : ℕ) → n < length old → (n ≡ ix → ⊥) → IsSameAt old mid n) → HeadWritten source ix old mid tables t
closed_head source ix item old mid tables t grown closed lies entries slices names is more others = record {
  others = others;
  more = more;
  grown = grown;
  lies = rw is lies;
  entries = rw is entries;
  slices = rw is (slices_from_place source t item slices);
  markup = rw is (no_markup source item closed);
  childless = rw is (λ e. absurd (let no : true ≡ false = sym e ∙ closed in cc no));
  named = λ n l. rw is (let z = names n l in omega arith);
}

-- what is below the item, once all is done, reads so
pub record BelowReads (source : List ℕ) (ix : ℕ) (old mid new : List (Node Item)) (later : Tables)
    (inside : Forest Plain) : Type 0 where
  pub below : Below source ix old mid new later
  pub reads : trees_from source later new (child_of mid ix) ≡ inside

-- nothing was below an open item
pub none_below : {source : List ℕ} {ix : ℕ} {old mid new : List (Node Item)} {tables t later : Tables} {next : Option ℕ}
    → Stands source tables old (Some ix) → HeadWritten source ix old mid tables t
    → Moves source (sibling_of old ix) next mid new t later
    → is_open (item_at old ix).body ≡ true → is_open (item_at mid ix).body ≡ false → child_of mid ix ≡ child_of old ix
    → BelowReads source ix old mid new later nil
none_below {source} {ix} {old} {mid} {new} {tables} {t} {later} {next} s h m was_open closed child =
    let o = opens (links_of old) (IsPlaced source tables old) ix s.reaches in
    let kept = below_kept next s h m child (rw (was_open, closed) (omega arith)) in
    record {
      below = kept.below;
      reads = kept.trees ∙ rw (o.holds.keeps.childless was_open, forest_at-none (links_of old)) refl;
    }

-- what is written: the item into the node of its opener, and what is below it, which may be new
pub record Written (source : List ℕ) (ix : ℕ) (item : Item) (next : Option ℕ) (old mid : List (Node Item))
    (tables t : Tables) (inside : Forest Plain) : Type 0 where
  pub item_is : item_at mid ix ≡ item
  pub next_is : sibling_of mid ix ≡ next
  pub head : HeadWritten source ix old mid tables t
  pub below : (new : List (Node Item)) (later : Tables) → Moves source (sibling_of old ix) next mid new t later
      → BelowReads source ix old mid new later inside

-- so the trees of what was put replace what was found, and the chain continues after it
pub put_written : (source : List ℕ) (ix : ℕ) (item : Item) (rest : Continuation) (old mid : List (Node Item))
    (tables t : Tables) (inside : Forest Plain) (trees : Standing)
    → IsFoundAt source tables old ix item.end → CanPut source tables t item → item.start ≡ (item_at old ix).start
    → IsRestPast old item.end (sibling_of old ix) rest → Written source ix item rest.next old mid tables t inside
    → ((a : Plain) (below : Forest Plain) → trees a below ≡ node (tree_node_of source t item) inside nil)
    → Puts source ix trees (Some item.end) rest old (begun_from rest.next item.end mid) tables t
put_written source ix item rest old mid tables t inside trees finds puts starts past w stand =
    let next = rest.next in
    let s = stands_ready finds.ready in
    let a = after_head s w.head in
    let closed : is_open (item_at mid ix).body ≡ false = rw w.item_is puts.closed in
    let closes : ClosesAt ix old mid = record {
      was_open = finds.was_open;
      was_no_run = finds.no_run;
      closed = closed;
      starts = rw w.item_is starts;
    } in
    let p = rest_past_is source ix item.end old mid tables t next (item_at old ix).end s w.head past.next_is
    (rest_past finds.ready) (λ n e. finds.between n (sym past.next_is ∙ e)) puts.lies.end in
    let place = begun_from next item.end mid in
    let whole : (rule : Forest Plain → Forest Plain) (new : List (Node Item)) (later : Tables)
    → Rewrites source rule next place new t later
    → Rewrites source (replaced trees (Some item.end) rule) (Some ix) old new tables later = λ rule new later r.
    let m = moves_twice p.moves (changes_move r.changes) in
    let b = w.below new later m in
    let ends : (item_at mid ix).end ≤ item.end = rw w.item_is (omega arith) in
    let follows = r.changes.before (numbered mid ix) (p.follows (numbered mid ix) refl ends) in
    let hm = head_moves source ix old mid new tables t later s w.head (rw w.next_is m) b.below (rw w.next_is follows)
    (no_run_here source (numbered mid ix) (option_map (numbered new) (sibling_of mid ix)) closed) in
    let beyond = past_byte item.end (trees_from source tables old (sibling_of old ix)) in
    let after : trees_from source later new (sibling_of mid ix) ≡ rule beyond =
    ap (λ (l : Option ℕ). trees_from source later new l) w.next_is ∙ r.rewritten ∙ ap rule p.reads in
    whole_put source ix old mid new tables t later trees (Some item.end) rule finds.ready w.head hm
    (λ x stands. before_closed ix old mid x closes stands) (runs_closed source ix old mid closes)
    (tree_same (ap (λ x. tree_node_of source t x) w.item_is) b.reads after
    ∙ ap (λ (f : Forest Plain). joined_chains f (rule beyond))
    (sym (stand (tree_node_at source tables old ix) (trees_from source tables old (child_of old ix))))) in
    let all = whole (λ f. f) place t (rewrites_none p.moves.stands) in
    record {
      whole = whole;
      leaves = leaves_rest source ix old mid place tables t t next (Some item.end) finds.ready w.head p.moves p.reads;
      passes = passes_past source tables t old place ix item.end rest s past p.reads;
      leads = p.leads;
      standing = ix ∷ [];
      numbers = over_numbers source ix next place t all.changes.reaches (next_from mid next item.end ix ∙ w.next_is);
      as_many = λ a below. ap (λ (f : Forest Plain). length (roots f)) (stand a below);
    }

-- nothing is put below it
pub found_puts : {source : List ℕ} {ix : ℕ} {item : Item} {rest : Continuation} {old mid : List
    (Node Item)} {tables t : Tables}
    → HasGrown tables t
    → IsFoundAt source tables old ix item.end → CanPut source tables t item → item.start ≡ (item_at old ix).start
    → IsRestPast old item.end (sibling_of old ix) rest → IsWritten old mid ix item rest.next
    → Puts source ix (one_item source t item) (Some item.end) rest old (begun_from rest.next item.end mid) tables t
found_puts {source} {ix} {item} {rest} {old} {mid} {tables} {t} grown finds puts starts past w =
    let s = stands_ready finds.ready in
    let size = w.size in
    let h = closed_head source ix item old mid tables t grown puts.closed puts.lies puts.named puts.slices
    puts.new_names w.item_is (omega (arith, size)) (λ n l d. w.others n d) in
    put_written source ix item rest old mid tables t nil (one_item source t item) finds puts starts past (record {
      item_is = w.item_is;
      next_is = w.next_is;
      head = h;
      below = λ new later m. none_below s h m finds.was_open (rw w.item_is puts.closed) w.child_is;
    }) (λ a below. refl)

pub same_before : (n m : ℕ) → n < m → same n m ≡ 0
same_before zero zero l = absurd (omega (arith, l))
same_before zero (suc m) l = refl
same_before (suc n) zero l = refl
same_before (suc n) (suc m) l = same_before n m (omega (arith, l))

-- a new node that nothing follows, and that has nothing below it
pub record NewBelow (ix : ℕ) (inside : Item) (old mid : List (Node Item)) : Type 0 where
  pub size : length mid ≡ suc (length old)
  pub link : child_of mid ix ≡ Some (length old)
  pub item_is : item_at mid (length old) ≡ inside
  pub child_is : child_of mid (length old) ≡ None
  pub next_is : sibling_of mid (length old) ≡ None

-- it is what is below the item
pub leaf_below : (source : List ℕ) (ix : ℕ) (inside : Item) (old mid new : List (Node Item)) (tables t later : Tables)
    (next : Option ℕ) → Stands source tables old (Some ix) → HeadWritten source ix old mid tables t
    → Moves source (sibling_of old ix) next mid new t later
    → NewBelow ix inside old mid → CanPut source tables t inside → ((n : Named) → times_named n inside.body ≡ 0)
    → is_open (item_at old ix).body ≡ true → is_open (item_at mid ix).body ≡ false
    → BelowReads source ix old mid new later (node (tree_node_of source t inside) nil nil)
leaf_below source ix inside old mid new tables t later next s h m b puts names was_open closed =
    let a = after_head s h in
    let k = length old in
    let size = b.size in
    let more : length mid ≤ length new = m.more_nodes in
    let none : times_in mid (sibling_of old ix) k ≡ 0 =
    rw a.rest.forest (times-past (links_of old) (sibling_of old ix) (forest_at (links_of old) (sibling_of old ix)) k
    a.after.spelled (omega arith)) in
    let at : IsSameAt mid new k = m.outside k (omega (arith, size)) none in
    let child : child_of new k ≡ None = at.child ∙ b.child_is in
    let follows : sibling_of new k ≡ None = at.next ∙ b.next_is in
    let item : item_at new k ≡ inside = at.item ∙ b.item_is in
    let spelled : Spells (links_of new) (Some k) (node k nil nil) = (refl, omega (arith, size, more), child, follows) in
    let here : forest_at (links_of new) (Some k) ≡ node k nil nil = found (links_of new) (Some k) (node k nil nil)
    spelled (λ n. let x = same_once n k in omega arith) in
    let longer = grown-longer t later m.grown in
    let placed : IsPlaced source later new k = record {
      lies = rw item puts.lies;
      named = rw item (entries-longer t later inside.body longer puts.named);
      slices = rw item (slices-none source later (origin_start source inside.start) inside.end inside.body names);
      keeps = keeps-closed source (numbered new k) (child_of new k) (next_at new k) (rw item puts.closed)
          (rw follows tt);
    } in
    let stays : Stays t later mid new k = record {
      at = at;
      entries = λ n l. absurd (let z : times_named n (item_at mid k).body
          ≡ 0 = rw b.item_is (names n) in omega (arith, l, z));
      headings = longer.headings;
    } in
    record {
      below = record {
        reaches = rw b.link (record { spelled = rw here spelled; each = rw here (placed, tt, tt) });
        once = λ n. let x = same_once n k in rw (b.link, here) (omega arith);
        of_chain = λ n l. let x = same_before n k l in rw (b.link, here) (omega arith);
        none_new = λ n l. let x = same-apart n k (omega (arith, size, l)) in rw (b.link, here) (omega arith);
        named = λ n. let z = names n in rw (b.link, here, item) (omega arith);
        no_heavier = rw (b.link, here, item, closed, was_open, puts.closed) (omega arith);
      };
      reads = rw (b.link, here, label-same source t later mid new k stays, b.item_is) refl;
    }

-- an item with one child is put there
pub parent_puts : {source : List ℕ} {ix : ℕ} {item inside : Item} {rest : Continuation} {old mid : List (Node Item)}
    {tables t : Tables} → HasGrown tables t
    → IsFoundAt source tables old ix item.end → CanPutParent source tables t old ix item inside
    → IsRestPast old item.end (sibling_of old ix) rest → item_at mid ix ≡ item → sibling_of mid ix ≡ rest.next
    → ((n : ℕ) → n < length old → (n ≡ ix → ⊥) → IsSameAt old mid n) → NewBelow ix inside old mid
    → Puts source ix (parent source t item inside) (Some item.end) rest old (begun_from rest.next item.end mid) tables t
parent_puts {source} {ix} {item} {inside} {rest} {old} {mid} {tables} {t} grown finds can past item_is next_is others b
    =
    let s = stands_ready finds.ready in
    let puts = can.puts in
    let size = b.size in
    let h = closed_head source ix item old mid tables t grown puts.closed puts.lies puts.named puts.slices
    puts.new_names item_is (omega (arith, size)) others in
    put_written source ix item rest old mid tables t (node (tree_node_of source t inside) nil nil)
    (parent source t item inside) finds puts can.starts past (record {
      item_is = item_is;
      next_is = next_is;
      head = h;
      below = λ new later m. leaf_below source ix inside old mid new tables t later rest.next s h m b can.puts_inside
          can.names_nothing finds.was_open (rw item_is puts.closed);
    }) (λ a below. refl)

-- what follows the first item of a chain is spelled
pub rest_spelled : (source : List ℕ) (tables : Tables) (nodes : List (Node Item)) (ix : ℕ)
    → CanResolve source tables nodes (Some ix)
    → Spells (links_of nodes) (sibling_of nodes ix) (forest_at (links_of nodes) (sibling_of nodes ix))
rest_spelled source tables nodes ix ready
    = (opens (links_of nodes) (IsPlaced source tables nodes) ix ready.reaches).after.spelled

-- an arena with one node more
added_same : (nodes : List (Node Item)) (x : Node Item) (n : ℕ) → n < length nodes → IsSameAt nodes (nodes ++ x ∷ []) n
added_same [] x n l = absurd (omega (arith, l))
added_same (m ∷ nodes) x zero l = record { child = refl; next = refl; item = refl }
added_same (m ∷ nodes) x (suc n) l =
    let s = added_same nodes x n (omega (arith, l)) in record { child = s.child; next = s.next; item = s.item }

record IsAdded (nodes nodes' : List (Node Item)) (x : Node Item) : Type 0 where
  size : length nodes' ≡ suc (length nodes)
  item_is : item_at nodes' (length nodes) ≡ x.item
  child_is : child_of nodes' (length nodes) ≡ x.child
  next_is : sibling_of nodes' (length nodes) ≡ x.next

added_new : (nodes : List (Node Item)) (x : Node Item) → IsAdded nodes (nodes ++ x ∷ []) x
added_new [] x = record { size = refl; item_is = refl; child_is = refl; next_is = refl }
added_new (m ∷ nodes) x =
    let a = added_new nodes x in record
    { size = ap suc a.size; item_is = a.item_is; child_is = a.child_is; next_is = a.next_is }

-- a new node is hung below one, which then is written
pub record HungBelow (ix : ℕ) (item inside : Item) (next : Option ℕ) (old mid : List (Node Item)) : Type 0 where
  pub item_is : item_at mid ix ≡ item
  pub next_is : sibling_of mid ix ≡ next
  pub others : (n : ℕ) → n < length old → (n ≡ ix → ⊥) → IsSameAt old mid n
  pub new_below : NewBelow ix inside old mid

pub record IsHung (s t : Arena Item) (ix child : ℕ) (inside : Item) : Type 0 where
  pub number : child ≡ length s.nodes
  pub nodes : t.nodes ≡ changed_at ix (λ n. record n { child = Some child }) (s.nodes ++ single inside ∷ [])

pub is_hung : (s t u : Arena Item) (ix child : ℕ) (inside : Item) → child ≡ length s.nodes
    → t ≡ record s { nodes = s.nodes ++ single inside ∷ [] }
    → u ≡ record t { nodes = changed_at ix (λ n. record n { child = Some child }) t.nodes } → IsHung s u ix child inside
is_hung s t u ix child inside number made hung = record {
  number = number;
  nodes = ap (λ (a : Arena Item). a.nodes) hung
      ∙ ap (λ (a : Arena Item). changed_at ix (λ n. record n { child = Some child }) a.nodes) made;
}

pub hung_size : (s t : Arena Item) (ix child : ℕ) (inside : Item) → IsHung s t ix child inside → length t.nodes
    ≡ suc (length s.nodes)
hung_size s t ix child inside h =
    ap (λ (ns : List (Node Item)). length ns) h.nodes ∙ length-changed_at ix (λ n. record n { child = Some child })
    (s.nodes ++ single inside ∷ []) ∙ (added_new s.nodes (single inside)).size

pub hung_below : (s t : Arena Item) (mid : List (Node Item)) (ix child : ℕ) (item inside : Item) (next : Option ℕ)
    → ix < length s.nodes → IsHung s t ix child inside → IsWritten t.nodes mid ix item next
    → HungBelow ix item inside next s.nodes mid
hung_below s t mid ix child item inside next within h w =
    let old = s.nodes in
    let more = old ++ single inside ∷ [] in
    let change : Node Item → Node Item = λ n. record n { child = Some child } in
    let added = added_new old (single inside) in
    let size = added.size in
    let c = changed_here more ix change (omega (arith, size, within)) in
    let apart : length old ≡ ix → ⊥ = λ e. absurd (omega (arith, e, within)) in
    let last = changed_other more ix change (length old) apart in
    let kept = w.others (length old) apart in
    let child_is : child_of t.nodes ix ≡ Some (length old) = rw (h.nodes, ← h.number) c.child in
    let hung : (n : ℕ) → (n ≡ ix → ⊥) → IsSameAt more t.nodes n = λ n d. rw h.nodes (changed_other more ix change n d)
    in
    record {
      item_is = w.item_is;
      next_is = w.next_is;
      others = λ n l d. same_trans (same_trans (added_same old (single inside) n l) (hung n d)) (w.others n d);
      new_below = record {
        size = w.size ∙ hung_size s t ix child inside h;
        link = w.child_is ∙ child_is;
        item_is = kept.item ∙ (hung (length old) apart).item ∙ added.item_is;
        child_is = kept.child ∙ (hung (length old) apart).child ∙ added.child_is;
        next_is = kept.next ∙ (hung (length old) apart).next ∙ added.next_is;
      };
    }
