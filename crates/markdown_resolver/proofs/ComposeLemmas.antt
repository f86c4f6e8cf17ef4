-- A chain that is changed in place: from one link on it becomes what another link leads to. Such changes follow one
-- another, and a first item is written before a rest that changes.
use Rattle.std.proofs.Common.{◌≡◌, ℕ, ◌+◌, ◌<◌, ◌≤◌, true, List, length, Option, Some, None, ⊎_elim, refl, sym, ◌∙◌}
use Rattle.std.proofs.Common.{subst, arith}
use Rattle.std.proofs.lemmas.Bool.{cases_lt}
use Rattle.std.specs.Option.{option_map}
use Rattle.markdown_base.specs.Arena.{child_of, sibling_of}
use Rattle.markdown_base.specs.ArenaForest.{links_of, Spells, forest_at}
use Rattle.markdown_base.specs.ArenaWalk.{Reaches}
use Rattle.markdown_base.specs.BlockTree.{Numbered, numbered, item_at}
use Rattle.markdown_base.specs.Forest.{Forest, nil, node, Each}
use Rattle.markdown_base.specs.Item.{LiesIn, is_open}
use Rattle.markdown_base.specs.WellFormed.{MarkupIsThere, RunsAreWhole}
use Rattle.markdown_base.specs.declared.item.Item.{Item}
use Rattle.markdown_base.specs.declared.item.ItemBody.{ItemBody}
use Rattle.markdown_base.specs.declared.node.Node.{Node}
use Rattle.markdown_base.proofs.ArenaForestLemmas.{opens}
use Rattle.markdown_document.specs.Document.{tree_node_of}
use Rattle.markdown_document.specs.ItemRules.{ComesBefore}
use Rattle.markdown_document.specs.Places.{tree_node_at, trees_from, origin_start}
use Rattle.markdown_document.specs.PlacedNodes.{IsSameAt, IsPlaced, ComesFromPlace}
use Rattle.markdown_document.specs.ResolverStates.{times_in, named_in, weight_in}
use Rattle.markdown_document.specs.Tables.{Tables}
use Rattle.markdown_document.specs.NamedEntries.{Named, number_of, size_for, NamesEntries, IsNoShorter, HasGrown}
use Rattle.markdown_document.specs.NamedEntries.{naming, times_named}
use Rattle.markdown_document.specs.Totals.{total, same, weight_at}
use Rattle.markdown_document.proofs.FoundLemmas.{found}
use Rattle.markdown_document.proofs.FrameLemmas.{Stays, label-same, stay_throughout, Framed, framed, slices-same}
use Rattle.markdown_document.proofs.PlaceLemmas.{times-past, named-past}
use Rattle.markdown_document.proofs.TablesLemmas.{same-refl, same-apart, named-once, named-apart, same_entry-trans}
use Rattle.markdown_document.proofs.TablesLemmas.{grown-same, grown-longer, grown-nothing, grown-twice, longer-trans}
use Rattle.markdown_document.proofs.TablesLemmas.{entries-longer}
use Rattle.markdown_resolver.specs.Chains.{CanResolve, ChangesChain}

-- a node that stayed, and stayed again
pub same_trans : {a b c : List (Node Item)} {n : ℕ} → IsSameAt a b n → IsSameAt b c n → IsSameAt a c n
same_trans p q = record { child = q.child ∙ p.child; next = q.next ∙ p.next; item = q.item ∙ p.item }

-- the chain from a link on exists, and nothing occurs or is referred to twice in it
pub record Stands (source : List ℕ) (tables : Tables) (nodes : List (Node Item)) (l : Option ℕ) : Type 0 where
  pub reaches : Reaches (links_of nodes) (IsPlaced source tables nodes) l
  pub once : (n : ℕ) → times_in nodes l n ≤ 1
  pub named_once : (n : Named) → named_in nodes l n ≤ 1

pub stands_ready : {source : List ℕ} {tables : Tables} {nodes : List (Node Item)} {l : Option ℕ}
    → CanResolve source tables nodes l → Stands source tables nodes l
stands_ready ready = record { reaches = ready.reaches; once = ready.once; named_once = ready.named_once }

-- the chain from the link l on became what the link l' leads to
pub record Moves (source : List ℕ) (l l' : Option ℕ) (old new : List (Node Item)) (tables tables' : Tables) : Type 0
  where
    pub stands : Stands source tables' new l'
    pub of_chain : (n : ℕ) → n < length old → times_in new l' n ≤ times_in old l n
    pub more_nodes : length old ≤ length new
    pub outside : (n : ℕ) → n < length old → times_in old l n ≡ 0 → IsSameAt old new n
    pub grown : HasGrown tables tables'
    pub named : (n : Named) → number_of n < size_for tables n → named_in new l' n ≤ named_in old l n
    pub no_heavier : weight_in new l' ≤ weight_in old l

-- a change from a link on that stays is such a change
pub changes_move : {source : List ℕ} {l : Option ℕ} {old new : List (Node Item)} {tables tables' : Tables}
    → ChangesChain source l old new tables tables' → Moves source l l old new tables tables'
changes_move c = record {
  stands = record { reaches = c.reaches; once = c.once; named_once = c.named_once };
  of_chain = c.of_chain;
  more_nodes = c.more_nodes;
  outside = c.outside;
  grown = c.grown;
  named = c.named;
  no_heavier = c.no_heavier;
}

pub moves_change : {source : List ℕ} {l : Option ℕ} {old new : List (Node Item)} {tables tables' : Tables}
    → Moves source l l old new tables tables'
    → ((a : Numbered) → ComesBefore a (option_map (numbered old) l) → ComesBefore a (option_map (numbered new) l))
    → ChangesChain source l old new tables tables'
moves_change m before = record {
  reaches = m.stands.reaches;
  once = m.stands.once;
  of_chain = m.of_chain;
  more_nodes = m.more_nodes;
  outside = m.outside;
  grown = m.grown;
  named_once = m.stands.named_once;
  named = m.named;
  before = before;
  no_heavier = m.no_heavier;
}

-- nothing is changed
pub moves_none : {source : List ℕ} {l : Option ℕ} {nodes : List (Node Item)} {tables : Tables}
    → Stands source tables nodes l → Moves source l l nodes nodes tables tables
moves_none {source} {l} {nodes} {tables} s = record {
  stands = s;
  of_chain = λ n h. omega arith;
  more_nodes = omega arith;
  outside = λ n h z. record { child = refl; next = refl; item = refl };
  grown = grown-nothing tables;
  named = λ n h. omega arith;
  no_heavier = omega arith;
}

-- one change, and then another
pub moves_twice : {source : List ℕ} {l l' l'' : Option ℕ} {a b c : List (Node Item)} {t u v : Tables}
    → Moves source l l' a b t u → Moves source l' l'' b c u v → Moves source l l'' a c t v
moves_twice {source} {l} {l'} {l''} {a} {b} {c} {t} {u} {v} p q =
    let longer = grown-longer t u p.grown in
    let more : length a ≤ length b = p.more_nodes in
    record {
      stands = q.stands;
      of_chain = λ n h. omega (arith, p.of_chain n h, q.of_chain n (omega (arith, h, more)));
      more_nodes = omega (arith, p.more_nodes, q.more_nodes);
      outside = λ n h z. same_trans (p.outside n h z)
          (q.outside n (omega (arith, h, more)) (omega (arith, p.of_chain n h, z)));
      grown = grown-twice t u v p.grown q.grown;
      named = λ n h. omega (arith, p.named n h, q.named n (omega (arith, h, longer.sizes n)));
      no_heavier = omega (arith, p.no_heavier, q.no_heavier);
    }

-- the first item leaves the chain
pub first_leaves : {source : List ℕ} {ix : ℕ} {nodes : List (Node Item)} {tables : Tables}
    → Stands source tables nodes (Some ix) → Moves source (Some ix) (sibling_of nodes ix) nodes nodes tables tables
first_leaves {source} {ix} {nodes} {tables} s =
    let o = opens (links_of nodes) (IsPlaced source tables nodes) ix s.reaches in
    record {
      stands = record {
        reaches = o.after;
        once = λ n. let x = rw o.here at (s.once n) in omega arith;
        named_once = λ n. let x = rw o.here at (s.named_once n) in omega arith;
      };
      of_chain = λ n h. rw o.here (omega arith);
      more_nodes = omega arith;
      outside = λ n h z. record { child = refl; next = refl; item = refl };
      grown = grown-nothing tables;
      named = λ n h. rw o.here (omega arith);
      no_heavier = rw o.here (omega arith);
    }

-- one node was written, and others may have been added; its item can be there, as far as it does not depend on what
-- follows
pub record HeadWritten (source : List ℕ) (ix : ℕ) (nodes nodes' : List (Node Item)) (tables tables' : Tables) : Type 0
  where
    pub others : (n : ℕ) → n < length nodes → (n ≡ ix → ⊥) → IsSameAt nodes nodes' n
    pub more : length nodes ≤ length nodes'
    pub grown : HasGrown tables tables'
    pub lies : LiesIn source (item_at nodes' ix)
    pub entries : NamesEntries tables' (item_at nodes' ix).body
    pub slices : ComesFromPlace source tables' (item_at nodes' ix)
    pub markup : MarkupIsThere source (item_at nodes' ix)
    pub childless : is_open (item_at nodes' ix).body ≡ true → child_of nodes' ix ≡ None
    pub named : (n : Named) → number_of n < size_for tables n → naming nodes' n ix ≤ naming nodes n ix

pub head_longer : (source : List ℕ) (ix : ℕ) (nodes nodes' : List (Node Item)) (tables tables' : Tables)
    → HeadWritten source ix nodes nodes' tables tables' → IsNoShorter tables tables'
head_longer source ix nodes nodes' tables tables' h = grown-longer tables tables' h.grown

-- a forest without that node stays
rest_stays : (source : List ℕ) (ix : ℕ) (nodes nodes' : List (Node Item)) (tables tables' : Tables) (l : Option ℕ)
    (f : Forest ℕ) → HeadWritten source ix nodes nodes' tables tables'
    → total (same ix) f ≡ 0 → Spells (links_of nodes) l f → Each (IsPlaced source tables nodes) f
    → Each (Stays tables tables' nodes nodes') f
rest_stays source ix nodes nodes' tables tables' l f h z spelled placed =
    stay_throughout tables tables' nodes nodes' f (head_longer source ix nodes nodes' tables tables' h).headings
    (λ n k. h.others n (⊎_elim (λ x. x) (λ x. absurd (omega (arith, times-past (links_of nodes) l f n spelled x, k)))
    (cases_lt n (length nodes)))
    (λ e. let none : total (same n) f ≡ 0 = subst (λ (m : ℕ). total (same m) f ≡ 0) (sym e) z in absurd
    (omega (arith, k, none)))) (λ n k. grown-same tables tables' n h.grown
    (⊎_elim (λ x. x) (λ x. absurd (omega (arith, named-past source tables nodes f n placed x, k)))
    (cases_lt (number_of n) (size_for tables n))))

-- what follows the written node is as it was
pub record After (source : List ℕ) (ix : ℕ) (nodes nodes' : List (Node Item)) (tables tables' : Tables) : Type 0 where
  pub within : ix < length nodes
  pub holds : IsPlaced source tables nodes ix
  pub here : forest_at (links_of nodes) (Some ix) ≡ node ix (forest_at (links_of nodes) (child_of nodes ix))
      (forest_at (links_of nodes) (sibling_of nodes ix))
  pub below : Reaches (links_of nodes) (IsPlaced source tables nodes) (child_of nodes ix)
  pub after : Reaches (links_of nodes) (IsPlaced source tables nodes) (sibling_of nodes ix)
  pub not_below : times_in nodes (child_of nodes ix) ix ≡ 0
  pub not_after : times_in nodes (sibling_of nodes ix) ix ≡ 0
  pub rest : Framed source tables tables' nodes nodes' (sibling_of nodes ix)
  pub stands : Stands source tables' nodes' (sibling_of nodes ix)

pub after_head : {source : List ℕ} {ix : ℕ} {nodes nodes' : List (Node Item)} {tables tables' : Tables}
    → Stands source tables nodes (Some ix) → HeadWritten source ix nodes nodes' tables tables'
    → After source ix nodes nodes' tables tables'
after_head {source} {ix} {nodes} {nodes'} {tables} {tables'} s h =
    let o = opens (links_of nodes) (IsPlaced source tables nodes) ix s.reaches in
    let once = rw o.here at (s.once ix) in
    let one = same-refl ix in
    let z : times_in nodes (sibling_of nodes ix) ix ≡ 0 = omega (arith, once, one) in
    let rest = framed source tables tables' nodes nodes' (sibling_of nodes ix) h.more
    (head_longer source ix nodes nodes' tables tables' h) o.after
    (rest_stays source ix nodes nodes' tables tables' (sibling_of nodes ix)
    (forest_at (links_of nodes) (sibling_of nodes ix)) h z o.after.spelled o.after.each) in
    record {
      within = o.within;
      holds = o.holds;
      here = o.here;
      below = o.below;
      after = o.after;
      not_below = omega (arith, once, one);
      not_after = z;
      rest = rest;
      stands = record {
        reaches = rest.reaches;
        once = λ n. rw rest.forest (let x = rw o.here at (s.once n) in omega arith);
        named_once = λ n. rw (rest.naming n) (let x = rw o.here at (s.named_once n) in omega arith);
      };
    }

-- what is below the written node in the end
pub record Below (source : List ℕ) (ix : ℕ) (old mid new : List (Node Item)) (later : Tables) : Type 0 where
  pub reaches : Reaches (links_of new) (IsPlaced source later new) (child_of mid ix)
  pub once : (n : ℕ) → times_in new (child_of mid ix) n ≤ 1
  pub of_chain : (n : ℕ) → n < length old → times_in new (child_of mid ix) n ≤ times_in old (child_of old ix) n
  pub none_new : (n : ℕ) → length mid ≤ n → times_in new (child_of mid ix) n ≡ 0
  pub named : (n : Named) → named_in new (child_of mid ix) n ≤ named_in old (child_of old ix) n
  pub no_heavier : weight_at mid ix + weight_in new (child_of mid ix) ≤ weight_at old ix + weight_in old
      (child_of old ix)

-- the first item was written, and what follows it was changed
pub record HeadMoved (source : List ℕ) (ix : ℕ) (old mid new : List (Node Item)) (tables tables' later : Tables) : Type
    0 where
  pub moves : Moves source (Some ix) (Some ix) old new tables later
  pub item : item_at new ix ≡ item_at mid ix
  pub trees : trees_from source later new (Some ix)
      ≡ node (tree_node_of source tables' (item_at mid ix)) (trees_from source later new (child_of mid ix))
      (trees_from source later new (sibling_of mid ix))

named_within : (tables : Tables) (b : ItemBody) (n : Named) → NamesEntries tables b → 0 < times_named n b
    → number_of n < size_for tables n
named_within tables b n h l = ⊎_elim (λ x. x) (λ x. absurd (omega (arith, named-apart n tables b h x, l)))
    (cases_lt (number_of n) (size_for tables n))

module _ (source : List ℕ) (ix : ℕ) (old mid new : List (Node Item)) (tables tables' later : Tables)
    (s : Stands source tables old (Some ix)) (h : HeadWritten source ix old mid tables tables')
    (m : Moves source (sibling_of old ix) (sibling_of mid ix) mid new tables' later)
    (below : Below source ix old mid new later) where
  -- the written node stays while what follows it is changed
  head_stays : IsSameAt mid new ix
  head_stays =
      let a = after_head s h in
      let size = h.more in
      m.outside ix (omega (arith, a.within, size)) (rw a.rest.forest a.not_after)

  -- what follows it then was in the chain
  rest_times : (n : ℕ) → n < length mid → times_in new (sibling_of mid ix) n ≤ times_in old (sibling_of old ix) n
  rest_times n l = rw (← (after_head s h).rest.forest) (m.of_chain n l)

  rest_named : (n : Named) → number_of n < size_for tables' n → named_in new (sibling_of mid ix) n ≤ named_in old
      (sibling_of old ix) n
  rest_named n l = rw (← (after_head s h).rest.naming n) (m.named n l)

  -- nothing occurs twice in the whole
  abbrev now : Forest ℕ
  now = node ix (forest_at (links_of new) (child_of mid ix)) (forest_at (links_of new) (sibling_of mid ix))

  now_spelled : Spells (links_of new) (Some ix) now
  now_spelled =
      let within = (after_head s h).within in
      let size = h.more in
      let more = m.more_nodes in (
        refl,
        omega (arith, within, size, more),
        rw head_stays.child below.reaches.spelled,
        rw head_stays.next m.stands.reaches.spelled,
      )

  now_once : (n : ℕ) → total (same n) now ≤ 1
  now_once n =
      let a = after_head s h in
      let size = h.more in
      ⊎_elim (λ (l : n < length old). let x = rw a.here at (s.once n) in let y = rest_times n (omega (arith, l, size))
      in let z = below.of_chain n l in omega arith)
      (λ (l : length old ≤ n). let x = same-apart n ix (omega (arith, a.within, l)) in
      let none = times-past (links_of old) (sibling_of old ix) (forest_at (links_of old) (sibling_of old ix)) n
      a.after.spelled l in ⊎_elim
      (λ (k : n < length mid). let y = rest_times n k in let z = below.once n in omega arith)
      (λ (k : length mid ≤ n). let y = m.stands.once n in let z = below.none_new n k in omega arith)
      (cases_lt n (length mid))) (cases_lt n (length old))

  now_here : forest_at (links_of new) (Some ix) ≡ now
  now_here = found (links_of new) (Some ix) now now_spelled now_once

  -- nothing is referred to twice either
  now_named_once : (n : Named)
      → naming mid n ix + (named_in new (child_of mid ix) n + named_in new (sibling_of mid ix) n) ≤ 1
  now_named_once n =
      let a = after_head s h in
      let z = below.named n in
      let longer = head_longer source ix old mid tables tables' h in
      ⊎_elim (λ (l : number_of n < size_for tables n). let x = rw a.here at (s.named_once n) in let k = h.named n l
      in let y = rest_named n (omega (arith, l, longer.sizes n)) in omega arith)
      (λ (l : size_for tables n ≤ number_of n).
      let none = named-past source tables old (forest_at (links_of old) (child_of old ix)) n a.below.each l in
      let none' = named-past source tables old (forest_at (links_of old) (sibling_of old ix)) n a.after.each l in
      let one = named-once n (item_at mid ix).body in ⊎_elim
      (λ (k : number_of n < size_for tables' n). let y = rest_named n k in omega arith)
      (λ (k : size_for tables' n ≤ number_of n). let x = named-apart n tables' (item_at mid ix).body h.entries k
      in let y = m.stands.named_once n in omega arith) (cases_lt (number_of n) (size_for tables' n)))
      (cases_lt (number_of n) (size_for tables n))

  -- its item is placed, if it directly precedes what follows it
  head_placed : ComesBefore (numbered mid ix) (option_map (numbered new) (sibling_of mid ix))
      → RunsAreWhole source (numbered mid ix) (option_map (numbered new) (sibling_of mid ix))
      → IsPlaced source later new ix
  head_placed follows goes_on = record {
    lies = rw head_stays.item h.lies;
    named = rw head_stays.item (entries-longer tables' later (item_at mid ix).body (grown-longer tables' later m.grown)
        h.entries);
    slices = rw head_stays.item
        (slices-same source tables' later (origin_start source (item_at mid ix).start) (item_at mid ix).end
        (item_at mid ix).body (λ n l. grown-same tables' later n m.grown
        (named_within tables' (item_at mid ix).body n h.entries l)) h.slices);
    keeps = record {
      in_order = rw (head_stays.next, head_stays.item) follows;
      markup_is_there = rw head_stays.item h.markup;
      runs_are_whole = rw (head_stays.next, head_stays.item) goes_on;
      childless = rw (head_stays.item, head_stays.child) h.childless;
    };
  }

  head_node : tree_node_at source later new ix ≡ tree_node_of source tables' (item_at mid ix)
  head_node = label-same source tables' later mid new ix (record {
    at = head_stays;
    entries = λ n l. grown-same tables' later n m.grown (named_within tables' (item_at mid ix).body n h.entries l);
    headings = (grown-longer tables' later m.grown).headings;
  })

  whole_outside : (n : ℕ) → n < length old → times_in old (Some ix) n ≡ 0 → IsSameAt old new n
  whole_outside n l z =
      let a = after_head s h in
      let size = h.more in
      let x : total (same n)
      (node ix (forest_at (links_of old) (child_of old ix)) (forest_at (links_of old) (sibling_of old ix)))
      ≡ 0 = rw a.here at z in
      let other = λ (e : n ≡ ix). let one : same n ix ≡ 1 = subst (λ (m : ℕ). same n m ≡ 1) e (same-refl n)
      in let y : ⊥ = absurd (omega (arith, x, one)) in y in
      let apart : times_in mid (sibling_of old ix) n ≡ 0 = rw a.rest.forest (omega (arith, x)) in
      same_trans (h.others n l other) (m.outside n (omega (arith, l, size)) apart)

  pub head_moves : ComesBefore (numbered mid ix) (option_map (numbered new) (sibling_of mid ix))
      → RunsAreWhole source (numbered mid ix) (option_map (numbered new) (sibling_of mid ix))
      → HeadMoved source ix old mid new tables tables' later
  head_moves follows goes_on =
      let a = after_head s h in
      let size = h.more in
      let more = m.more_nodes in
      let longer = head_longer source ix old mid tables tables' h in
      let item = head_stays.item in
      let weight : weight_in new (sibling_of mid ix) ≤ weight_in old (sibling_of old ix) = rw (← a.rest.weight)
      m.no_heavier in
      let lighter = below.no_heavier in
      record {
        moves = record {
          stands = record {
            reaches = record {
              spelled = rw now_here now_spelled;
              each = rw now_here (
                head_placed follows goes_on,
                below.reaches.each,
                m.stands.reaches.each,
              );
            };
            once = λ n. rw now_here (now_once n);
            named_once = λ n. rw (now_here, item) (now_named_once n);
          };
          of_chain = λ n l. let y = rest_times n (omega (arith, l, size)) in let z = below.of_chain n l
              in rw (now_here, a.here) (omega arith);
          more_nodes = omega (arith, size, more);
          outside = whole_outside;
          grown = grown-twice tables tables' later h.grown m.grown;
          named = λ n l. let k = h.named n l in let y = rest_named n (omega (arith, l, longer.sizes n)) in let z
              = below.named n
              in rw (now_here, a.here, item) (omega arith);
          no_heavier = rw (now_here, a.here, item) (omega arith);
        };
        item = item;
        trees = rw (now_here, head_node) refl;
      }

-- what was below the item stays below it
pub record KeptBelow (source : List ℕ) (ix : ℕ) (old mid new : List (Node Item)) (tables later : Tables) : Type 0 where
  pub below : Below source ix old mid new later
  pub trees : trees_from source later new (child_of mid ix) ≡ trees_from source tables old (child_of old ix)

pub below_kept : {source : List ℕ} {ix : ℕ} {old mid new : List (Node Item)} {tables tables' later : Tables}
    (l' : Option ℕ) → Stands source tables old (Some ix) → HeadWritten source ix old mid tables tables'
    → Moves source (sibling_of old ix) l' mid new tables' later
    → child_of mid ix ≡ child_of old ix → weight_at mid ix ≤ weight_at old ix
    → KeptBelow source ix old mid new tables later
below_kept {source} {ix} {old} {mid} {new} {tables} {tables'} {later} l' s h m child lighter =
    let a = after_head s h in
    let size : length old ≤ length mid = h.more in
    let more : length mid ≤ length new = m.more_nodes in
    let longer_head = head_longer source ix old mid tables tables' h in
    let longer_all = longer-trans tables tables' later longer_head (grown-longer tables' later m.grown) in
    let f = forest_at (links_of old) (child_of old ix) in
    let stay = stay_throughout tables later old new f longer_all.headings (λ n l.
    let once = rw a.here at (s.once n) in
    let other = λ (e : n ≡ ix). let z : total (same n) f ≡ 0 = subst (λ (m : ℕ). total (same m) f ≡ 0) (sym e)
    a.not_below
    in let y : ⊥ = absurd (omega (arith, l, z)) in y in
    let within : n < length old = ⊎_elim (λ x. x)
    (λ x. absurd (omega (arith, times-past (links_of old) (child_of old ix) f n a.below.spelled x, l)))
    (cases_lt n (length old)) in
    let apart : times_in mid (sibling_of old ix) n ≡ 0 = rw a.rest.forest (omega (arith, once, l)) in
    same_trans (h.others n within other) (m.outside n (omega (arith, within, size)) apart)) (λ n l.
    let within : number_of n < size_for tables n = ⊎_elim (λ x. x)
    (λ x. absurd (omega (arith, named-past source tables old f n a.below.each x, l)))
    (cases_lt (number_of n) (size_for tables n)) in
    same_entry-trans tables tables' later n (grown-same tables tables' n h.grown within)
    (grown-same tables' later n m.grown (omega (arith, within, longer_head.sizes n)))) in
    let b = framed source tables later old new (child_of old ix) (omega (arith, size, more)) longer_all a.below stay in
    let at_once : (n : ℕ) → times_in old (child_of old ix) n ≤ 1 = λ n. let x = rw a.here at (s.once n) in omega arith
    in
    record {
      below = record {
        reaches = rw child b.reaches;
        once = λ n. rw (child, b.forest) (at_once n);
        of_chain = λ n l. rw (child, b.forest) (omega arith);
        none_new = λ n l. rw (child, b.forest)
            (times-past (links_of old) (child_of old ix) f n a.below.spelled (omega (arith, size, l)));
        named = λ n. rw (child, b.naming n) (omega arith);
        no_heavier = rw (child, b.weight) (omega arith);
      };
      trees = rw child b.trees;
    }

-- what follows the written node is the same item
following_of : (source : List ℕ) (ix : ℕ) (nodes nodes' : List (Node Item)) (tables tables' : Tables) (l : Option ℕ)
    (f : Forest ℕ) → HeadWritten source ix nodes nodes' tables tables'
    → Spells (links_of nodes) l f → total (same ix) f ≡ 0 → option_map (numbered nodes') l
    ≡ option_map (numbered nodes) l
following_of source ix nodes nodes' tables tables' l nil h s z = rw s refl
following_of source ix nodes nodes' tables tables' l (node j below after) h s z =
    let one = same-refl j in
    let other = λ (e : j ≡ ix). let apart : same j j ≡ 0 = subst (λ (m : ℕ). same m j ≡ 0) (sym e) (omega (arith, z))
    in let y : ⊥ = absurd (omega (arith, apart, one)) in y in
    rw (s.0, (h.others j s.1 other).item) refl

pub following_kept : (source : List ℕ) (ix : ℕ) (nodes nodes' : List (Node Item)) (tables tables' : Tables)
    → Stands source tables nodes (Some ix) → HeadWritten source ix nodes nodes' tables tables'
    → option_map (numbered nodes') (sibling_of nodes ix) ≡ option_map (numbered nodes) (sibling_of nodes ix)
following_kept source ix nodes nodes' tables tables' s h =
    let a = after_head s h in
    following_of source ix nodes nodes' tables tables' (sibling_of nodes ix)
    (forest_at (links_of nodes) (sibling_of nodes ix)) h a.after.spelled a.not_after

-- the first item is written, and then leaves the chain
pub head_leaves : {source : List ℕ} {ix : ℕ} {nodes nodes' : List (Node Item)} {tables tables' : Tables}
    → Stands source tables nodes (Some ix) → HeadWritten source ix nodes nodes' tables tables'
    → Moves source (Some ix) (sibling_of nodes ix) nodes nodes' tables tables'
head_leaves {source} {ix} {nodes} {nodes'} {tables} {tables'} s h =
    let a = after_head s h in
    record {
      stands = a.stands;
      of_chain = λ n l. rw (a.rest.forest, a.here) (omega arith);
      more_nodes = h.more;
      outside = λ n l z.
          let x : total (same n) (node ix (forest_at (links_of nodes) (child_of nodes ix))
          (forest_at (links_of nodes) (sibling_of nodes ix))) ≡ 0 = rw a.here at z in
          let one = same-refl n in
          h.others n l (λ e. let at : same n ix ≡ 1 = subst (λ (m : ℕ). same n m ≡ 1) e one in absurd
          (omega (arith, x, at)));
      grown = h.grown;
      named = λ n l. rw (a.rest.naming n, a.here) (omega arith);
      no_heavier = rw (a.rest.weight, a.here) (omega arith);
    }
