-- A wikilink is put into the node of its opener, with what is inside from a byte offset on below it.
use Rattle.std.proofs.Common.{◌≡◌, ℕ, ◌+◌, ◌-◌, ◌<◌, ◌≤◌, max, false, List, [], ◌∷◌, ◌++◌, length, Option, Some, None}
use Rattle.std.proofs.Common.{refl, sym, ap, ◌∙◌, subst, ⊎_elim, arith, nat_le, true}
use Rattle.std.proofs.lemmas.Bool.{cases_eq, cases_lt}
use Rattle.std.proofs.lemmas.Bool.Decides.{nat_tests}
use Rattle.std.specs.Prelude.{IsCharBoundary}
use Rattle.markdown_base.specs.Arena.{child_of, sibling_of}
use Rattle.markdown_base.specs.ArenaChanges.{changed_at}
use Rattle.markdown_base.specs.ArenaForest.{forest_at, links_of}
use Rattle.markdown_base.specs.BlockTree.{item_at}
use Rattle.markdown_base.specs.Forest.{Forest, roots}
use Rattle.markdown_base.specs.Item.{is_open}
use Rattle.markdown_base.specs.declared.item.Item.{Item}
use Rattle.markdown_base.specs.declared.node.Node.{Node}
use Rattle.markdown_base.proofs.ArenaForestLemmas.{opens, forest_at-none}
use Rattle.markdown_base.proofs.ArenaLemmas.{length-changed_at}
use Rattle.markdown_document.specs.ChainRest.{begun_at, past_byte}
use Rattle.markdown_document.specs.Document.{Plain}
use Rattle.markdown_document.specs.Places.{tree_node_at, trees_from, follows_pipe}
use Rattle.markdown_document.specs.PlacedNodes.{IsSameAt, IsPlaced, ComesFromPlace}
use Rattle.markdown_document.specs.ResolverStates.{times_in, named_in}
use Rattle.markdown_document.specs.Tables.{Tables}
use Rattle.markdown_document.specs.NamedEntries.{HasGrown, Named, number_of, size_for, naming}
use Rattle.markdown_document.specs.Totals.{total, same}
use Rattle.markdown_document.proofs.FrameLemmas.{Framed, framed, stay_throughout}
use Rattle.markdown_document.proofs.PlaceLemmas.{times-past, named-past}
use Rattle.markdown_document.proofs.TablesLemmas.{same-refl, same_entry-refl, grown-longer, grown-nothing}
use Rattle.markdown_resolver.specs.ClosedOver.{first_trees, trees_past, last_inside, over_shown, CanClose, CanPutOver}
use Rattle.markdown_resolver.specs.ClosedOver.{CanShow, PutsOver, IsEnclosed}
use Rattle.markdown_resolver.specs.Rewritten.{IsRestPast, begun_item}
use Rattle.markdown_resolver.specs.declared.continuation.Continuation.{Continuation}
use Rattle.markdown_resolver.specs.LiteralText.{IsWritten, begun_from}
use Rattle.markdown_resolver.proofs.ComposeLemmas.{same_trans, Stands, Moves, moves_none, moves_twice, first_leaves}
use Rattle.markdown_resolver.proofs.EncloseLemmas.{with_child, inside_forest, inside_reads, total_parts}
use Rattle.markdown_resolver.proofs.FoldLemmas.{IsFolded, enclosed_folds, counted_among, first_roots, stands_once}
use Rattle.markdown_resolver.proofs.FoldLemmas.{whole_childless}
use Rattle.markdown_resolver.proofs.NodeChangeLemmas.{changed_other, changed_here}
use Rattle.markdown_resolver.proofs.PastByteLemmas.{Begun, Dropped, begun_is, first_begun}
use Rattle.markdown_resolver.proofs.PutLinkLemmas.{fold_puts}
use Rattle.markdown_document.proofs.OriginLemmas.{slices_past_pipe}

-- the first of a chain leave it, up to a node
drops : (source : List ℕ) (tables : Tables) (nodes : List (Node Item)) (skipped : List ℕ) (first : ℕ) (shown : List ℕ)
    (l : Option ℕ) → Stands source tables nodes l → roots (forest_at (links_of nodes) l) ≡ skipped ++ first ∷ shown
    → Dropped source tables nodes l (Some first) (trees_past (length skipped) (trees_from source tables nodes l))
drops source tables nodes skipped first shown None s e = no_chain skipped
    (sym (ap (λ (f : Forest ℕ). roots f) (forest_at-none (links_of nodes))) ∙ e)
  where
    no_chain : (xs : List ℕ) → [] ≡ xs ++ first ∷ shown → Dropped source tables nodes None (Some first)
        (trees_past (length skipped) (trees_from source tables nodes None))
    no_chain [] h = cc h
    no_chain (x ∷ xs) h = cc h
drops source tables nodes [] first shown (Some ix) s e =
    let o = opens (links_of nodes) (IsPlaced source tables nodes) ix s.reaches in
    let all : ix ∷ roots (forest_at (links_of nodes) (sibling_of nodes ix))
    ≡ first ∷ shown = sym (ap (λ (f : Forest ℕ). roots f) o.here) ∙ e in
    let is : ix ≡ first = cc all in
    subst (λ (n : ℕ). Dropped source tables nodes (Some ix) (Some n) (trees_from source tables nodes (Some ix))) is
    (record { moves = moves_none s; reads = refl })
drops source tables nodes (x ∷ skipped) first shown (Some ix) s e =
    let o = opens (links_of nodes) (IsPlaced source tables nodes) ix s.reaches in
    let all : ix ∷ roots (forest_at (links_of nodes) (sibling_of nodes ix)) ≡ x ∷ (skipped ++ first ∷ shown) =
    sym (ap (λ (f : Forest ℕ). roots f) o.here) ∙ e in
    let leaves = first_leaves s in
    let d = drops source tables nodes skipped first shown (sibling_of nodes ix) leaves.stands (cc all) in
    record {
      moves = moves_twice leaves d.moves;
      reads = rw o.here d.reads;
    }

-- the first item of a chain begins at a byte offset, which has to be between characters only if it cuts the item
begun_there : (source : List ℕ) (tables : Tables) (nodes : List (Node Item)) (ix i : ℕ)
    → Stands source tables nodes (Some ix) → ((item_at nodes ix).start < i → IsCharBoundary source i)
    → i < (item_at nodes ix).end → ((item_at nodes ix).start < i → is_open (item_at nodes ix).body ≡ false)
    → follows_pipe source i ≡ true → Begun source tables (Some ix) i nodes (begun_from (Some ix) i nodes)
begun_there source tables nodes ix i s boundary ends closed piped =
    let item = item_at nodes ix in
    let o = opens (links_of nodes) (IsPlaced source tables nodes) ix s.reaches in
    ⊎_elim (λ (l : item.start < i). begun_is source tables nodes (Some ix) i s (boundary l)
    (λ n e. let is : ix ≡ n = cc e in subst (λ (m : ℕ). i ≤ (item_at nodes m).end) is (omega (arith, ends)))
    (λ n e. let is : ix ≡ n = cc e in subst (λ (m : ℕ). (item_at nodes m).start < i → is_open (item_at nodes m).body
    ≡ false) is closed) (λ n e. let is : ix ≡ n = cc e in subst (λ (m : ℕ). (item_at nodes m).start < i
    → ComesFromPlace source tables (begun_item i (item_at nodes m))) is (λ k.
    let there : i ≡ max item.start i = omega arith in
    subst (λ (start : ℕ). ComesFromPlace source tables (record { start = start; end = item.end; body = item.body }))
    there (slices_past_pipe source tables item i piped o.holds.slices)))) (λ (l : i ≤ item.start).
    let lies = o.holds.lies in
    let b = begun_is source tables nodes (Some ix) item.start s lies.start
    (λ n e. let is : ix ≡ n = cc e in subst (λ (m : ℕ). item.start ≤ (item_at nodes m).end) is lies.ordered)
    (λ n e. let is : ix ≡ n = cc e in subst (λ (m : ℕ). (item_at nodes m).start < item.start
    → is_open (item_at nodes m).body ≡ false) is (λ k. absurd (omega (arith, k))))
    (λ n e. let is : ix ≡ n = cc e in subst (λ (m : ℕ). (item_at nodes m).start < item.start
    → ComesFromPlace source tables (begun_item item.start (item_at nodes m))) is (λ k. absurd (omega (arith, k)))) in
    let e : max item.start item.start ≡ max item.start i = omega arith in
    let d : item.start - item.start ≡ i - item.start = omega arith in
    let label : begun_at item.start (tree_node_at source tables nodes ix) ≡ begun_at i
    (tree_node_at source tables nodes ix)
    = rw (d, e) refl in
    let reads : first_begun item.start (trees_from source tables nodes (Some ix))
    ≡ first_begun i (trees_from source tables nodes (Some ix)) = rw o.here (rw label refl) in
    subst (λ (start : ℕ). Begun source tables (Some ix) i nodes
    (changed_at ix (λ n. record n { item = record { start = start; end = item.end; body = item.body } }) nodes)) e
    (record { moves = b.moves; reads = b.reads ∙ reads })) (cases_lt item.start i)

-- what is left of a chain whose first item ends past a byte
past_first : (source : List ℕ) (tables : Tables) (nodes : List (Node Item)) (ix i : ℕ)
    → Stands source tables nodes (Some ix) → i < (item_at nodes ix).end
    → first_begun i (trees_from source tables nodes (Some ix)) ≡ past_byte i (trees_from source tables nodes (Some ix))
past_first source tables nodes ix i s ends =
    let o = opens (links_of nodes) (IsPlaced source tables nodes) ix s.reaches in
    let test : nat_le (item_at nodes ix).end i ≡ false = grind (arith, nat_tests, ends) in
    rw (o.here, test) refl

-- two arenas with a node that is the same, once an item begins at a byte in both
begun_same : (a b : List (Node Item)) (jx i n : ℕ) → jx < length a → length b ≡ length a → IsSameAt a b jx
    → IsSameAt a b n → IsSameAt (begun_from (Some jx) i a) (begun_from (Some jx) i b) n
begun_same a b jx i n within size first at =
    let change : Node Item → Node Item = λ m. record m { item = begun_item i (item_at a jx) } in
    let change' : Node Item → Node Item = λ m. record m { item = begun_item i (item_at b jx) } in
    ⊎_elim (λ (e : n ≡ jx).
    let p = changed_here a jx change within in
    let q = changed_here b jx change' (omega (arith, size, within)) in
    let here : IsSameAt (begun_from (Some jx) i a) (begun_from (Some jx) i b) jx =
    record {
      child = q.child ∙ first.child ∙ sym p.child;
      next = q.next ∙ first.next ∙ sym p.next;
      item = q.item ∙ ap (λ (x : Item). begun_item i x) first.item ∙ sym p.item;
    } in
    subst (λ (m : ℕ). IsSameAt (begun_from (Some jx) i a) (begun_from (Some jx) i b) m) (sym e) here)
    (λ (d : n ≡ jx → ⊥).
    let p = changed_other a jx change n d in
    let q = changed_other b jx change' n d in
    record {
      child = q.child ∙ at.child ∙ sym p.child;
      next = q.next ∙ at.next ∙ sym p.next;
      item = q.item ∙ at.item ∙ sym p.item;
    }) (cases_eq n jx)

-- what is inside was put below the opener, and then what precedes a node left it, which begins at a byte offset
module _ {source : List ℕ} {tables : Tables} {old enclosed : List (Node Item)} {opener last closer : ℕ}
    {inside skipped : List ℕ} {first from byte : ℕ}
    (can : CanClose source tables old opener closer inside byte) (is : last_inside opener inside ≡ last)
    (v : IsEnclosed old enclosed opener last closer) (shows : CanShow source old inside skipped first from) where
  abbrev k : ℕ
  k = length inside

  abbrev f : Forest ℕ
  f = forest_at (links_of old) (sibling_of old opener)

  abbrev begun : List (Node Item)
  begun = begun_from (Some first) from enclosed

  abbrev hung : List (Node Item)
  hung = with_child opener (Some first) enclosed

  abbrev place : List (Node Item)
  place = begun_from (Some first) from hung

  folds : IsFolded source tables old enclosed opener closer k
  folds = enclosed_folds can is v

  listed : roots (first_trees k f) ≡ skipped ++ first ∷ shows.shown
  listed = first_roots inside (closer ∷ can.after) f can.follows ∙ shows.inside_is

  first_there : 0 < total (same first) (first_trees k f)
  first_there = omega (
    arith,
    counted_among (same first) first skipped shows.shown (first_trees k f) listed,
    same-refl first,
  )

  opener_apart : total (same opener) (first_trees k f) ≡ 0
  opener_apart =
      let once = stands_once can opener in
      let parts = total_parts (same opener) k f in
      omega (arith, once, parts, same-refl opener)

  first_apart : opener ≡ first → ⊥
  first_apart e = let z : 0 < total (same opener) (first_trees k f) = subst
      (λ (m : ℕ). 0 < total (same m) (first_trees k f)) (sym e) first_there in absurd (omega (arith, z, opener_apart))

  below_listed : roots (forest_at (links_of enclosed) (child_of enclosed opener)) ≡ skipped ++ first ∷ shows.shown
  below_listed = ap (λ (g : Forest ℕ). roots g) (inside_forest can is v) ∙ listed

  dropped_there : Dropped source tables enclosed (child_of enclosed opener) (Some first)
      (trees_past (length skipped) (trees_from source tables enclosed (child_of enclosed opener)))
  dropped_there = drops source tables enclosed skipped first shows.shown (child_of enclosed opener) folds.below
      below_listed

  ends_past : from < (item_at enclosed first).end
  ends_past = rw (v.items first) shows.ends_past

  begins : Begun source tables (Some first) from enclosed begun
  begins = begun_there source tables enclosed first from dropped_there.moves.stands (rw (v.items first) shows.boundary)
      ends_past (rw (v.items first) shows.not_cut) shows.piped

  moved : Moves source (child_of enclosed opener) (Some first) enclosed begun tables tables
  moved = moves_twice dropped_there.moves begins.moves

  first_within : first < length enclosed
  first_within = (opens (links_of enclosed) (IsPlaced source tables enclosed) first
      dropped_there.moves.stands.reaches).within

  opener_within : opener < length enclosed
  opener_within = let size = v.size in let within
      = (opens (links_of old) (IsPlaced source tables old) opener can.ready.reaches).within
      in omega (arith, size, within)

  hung_size : length hung ≡ length enclosed
  hung_size = length-changed_at opener (λ n. record n { child = Some first }) enclosed

  place_size : length place ≡ length enclosed
  place_size = length-changed_at first (λ n. record n { item = begun_item from (item_at hung first) }) hung ∙ hung_size

  pub shown_size : length place ≡ length old
  shown_size = place_size ∙ v.size

  begun_size : length begun ≡ length enclosed
  begun_size = length-changed_at first (λ n. record n { item = begun_item from (item_at enclosed first) }) enclosed

  hung_same : (n : ℕ) → (n ≡ opener → ⊥) → IsSameAt enclosed hung n
  hung_same n d = changed_other enclosed opener (λ n. record n { child = Some first }) n d

  place_same : (n : ℕ) → (n ≡ opener → ⊥) → IsSameAt begun place n
  place_same n d = begun_same enclosed hung first from n first_within hung_size
      (hung_same first (λ e. first_apart (sym e))) (hung_same n d)

  -- the first that is shown is written there
  below_apart : (n : ℕ) → 0 < total (same n) (forest_at (links_of begun) (Some first)) → n ≡ opener → ⊥
  below_apart n l e =
      let z : 0 < times_in begun (Some first) opener = subst (λ (m : ℕ). 0 < times_in begun (Some first) m) e l in
      let below = folds.below_of opener in
      let of_chain = moved.of_chain opener opener_within in
      absurd (omega (arith, z, below, of_chain, opener_apart))

  shown_framed : Framed source tables tables begun place (Some first)
  shown_framed =
      framed source tables tables begun place (Some first) (omega (arith, place_size, begun_size))
      (grown-longer tables tables (grown-nothing tables)) moved.stands.reaches
      (stay_throughout tables tables begun place (forest_at (links_of begun) (Some first)) refl
      (λ n l. place_same n (below_apart n l)) (λ n l. same_entry-refl tables n))

  shown_of : (n : ℕ) → times_in place (Some first) n ≤ total (same n) (first_trees k f)
  shown_of n =
      let below = folds.below_of n in
      rw shown_framed.forest (⊎_elim
      (λ (l : n < length enclosed). let of_chain = moved.of_chain n l in omega (arith, below, of_chain))
      (λ (l : length enclosed ≤ n).
      let none = times-past (links_of begun) (Some first) (forest_at (links_of begun) (Some first)) n
      moved.stands.reaches.spelled (omega (arith, begun_size, l)) in omega (arith, none))
      (cases_lt n (length enclosed)))

  shown_named : (n : Named) → named_in place (Some first) n ≤ total (naming old n) (first_trees k f)
  shown_named n =
      let below = folds.below_named n in
      let at = shown_framed.naming n in
      ⊎_elim (λ (l : number_of n < size_for tables n). let named = moved.named n l in omega (arith, at, below, named))
      (λ (l : size_for tables n ≤ number_of n). let none = named-past source tables begun
      (forest_at (links_of begun) (Some first)) n
      moved.stands.reaches.each l in omega (arith, at, none)) (cases_lt (number_of n) (size_for tables n))

  opener_same : IsSameAt hung place opener
  opener_same = changed_other hung first (λ n. record n { item = begun_item from (item_at hung first) }) opener
      first_apart

  child_shown : child_of place opener ≡ Some first
  child_shown = opener_same.child
      ∙ (changed_here enclosed opener (λ n. record n { child = Some first }) opener_within).child

  other_same : (n : ℕ) → IsSameAt old enclosed n → (n ≡ opener → ⊥) → (n ≡ first → ⊥) → IsSameAt old place n
  other_same n at d d' =
      same_trans (same_trans at (hung_same n d))
      (changed_other hung first (λ n. record n { item = begun_item from (item_at hung first) }) n d')

  after_shown : (n : ℕ) → 0 < total (same n) (trees_past k f) → IsSameAt old place n
  after_shown n l =
      let once = stands_once can n in
      let parts = total_parts (same n) k f in
      other_same n (folds.after n l)
      (λ e. let one : same n opener ≡ 1 = subst (λ (m : ℕ). same n m ≡ 1) e (same-refl n) in absurd
      (omega (arith, once, one, parts, l)))
      (λ e. let z : 0 < total (same n) (first_trees k f) = subst (λ (m : ℕ). 0 < total (same m) (first_trees k f))
      (sym e) first_there
      in absurd (omega (arith, once, z, parts, l)))

  outside_shown : (n : ℕ) → n < length old → times_in old (Some opener) n ≡ 0 → IsSameAt old place n
  outside_shown n l z =
      let none : same n opener + total (same n) f ≡ 0 = (let x = rw (whole_childless can) at z
      in omega arith) in
      let parts = total_parts (same n) k f in
      other_same n (folds.outside n l z)
      (λ e. let one : same n opener ≡ 1 = subst (λ (m : ℕ). same n m ≡ 1) e (same-refl n) in absurd
      (omega (arith, none, one)))
      (λ e. let y : 0 < total (same n) (first_trees k f) = subst (λ (m : ℕ). 0 < total (same m) (first_trees k f))
      (sym e) first_there
      in absurd (omega (arith, none, y, parts)))

  pub shown_folds : IsFolded source tables old place opener closer k
  shown_folds =
      let leads = changed_here enclosed opener (λ n. record n { child = Some first }) opener_within in
      let at = shown_framed.weight in
      let lighter = moved.no_heavier in
      let below = folds.below_weight in
      record {
        size = shown_size;
        item_is = opener_same.item ∙ leads.item ∙ v.items opener;
        next_is = opener_same.next ∙ leads.next ∙ v.next_is;
        below = rw child_shown (record {
          reaches = shown_framed.reaches;
          once = λ n. rw shown_framed.forest (moved.stands.once n);
          named_once = λ n. rw (shown_framed.naming n) (moved.stands.named_once n);
        });
        below_of = λ n. rw child_shown (shown_of n);
        below_named = λ n. rw child_shown (shown_named n);
        below_weight = rw child_shown (omega (arith, at, lighter, below));
        after = after_shown;
        outside = outside_shown;
      }

  pub shown_reads : trees_from source tables place (child_of place opener) ≡ past_byte from (trees_past (length skipped)
      (first_trees k (trees_from source tables old (sibling_of old opener))))
  shown_reads =
      ap (λ (l : Option ℕ). trees_from source tables place l) child_shown ∙ shown_framed.trees ∙ begins.reads
      ∙ past_first source tables enclosed first from dropped_there.moves.stands ends_past
      ∙ ap (λ (g : Forest Plain). past_byte from g)
      (dropped_there.reads ∙ ap (λ (g : Forest Plain). trees_past (length skipped) g) (inside_reads can is v))

  -- the nodes that are written are there
  pub shown_within : first < length hung
  shown_within = omega (arith, hung_size, first_within)

  pub opener_shown : opener < length place
  opener_shown = omega (arith, place_size, opener_within)

-- so a wikilink is put over what it shows
pub shown_puts : {source : List ℕ} {opener last closer : ℕ} {item : Item} {inside skipped : List ℕ} {first from : ℕ}
    {rest : Continuation} {old enclosed place mid : List (Node Item)} {tables t : Tables}
    → HasGrown tables t → CanClose source tables old opener closer inside item.end
    → CanPutOver source tables t old opener item item.end → last_inside opener inside ≡ last
    → IsEnclosed old enclosed opener last closer → CanShow source old inside skipped first from
    → place ≡ begun_from (Some first) from (with_child opener (Some first) enclosed)
    → IsRestPast old item.end (sibling_of old closer) rest → IsWritten place mid opener item rest.next
    → PutsOver source opener closer inside (over_shown source t item (length skipped) from) item.end (opener ∷ []) rest
    old (begun_from rest.next item.end mid) tables t
shown_puts {source} {opener} {last} {closer} {item} {inside} {skipped} {first} {from} {rest} {old} {enclosed} {place}
    {mid} {tables} {t} grown can over is v shows place_is past w =
    let there = begun_from (Some first) from (with_child opener (Some first) enclosed) in
    let folds = shown_folds can is v shows in
    fold_puts grown can over folds past (rw place_is at w) (λ g. past_byte from (trees_past (length skipped) g))
    (shown_reads can is v shows)
