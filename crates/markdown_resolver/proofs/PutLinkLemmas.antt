-- What a closing bracket becomes is put into the node of its opener, which is a Text by now, with what is below that.
use Rattle.std.proofs.Common.{◌≡◌, ℕ, zero, suc, ◌+◌, ◌<◌, ◌≤◌, true, false, List, [], ◌∷◌, ◌++◌, length, Option, Some}
use Rattle.std.proofs.Common.{refl, sym, ap, ◌∙◌, subst, arith, nat_le}
use Rattle.std.proofs.lemmas.Bool.Decides.{nat_tests}
use Rattle.std.specs.Prelude.{IsCharBoundary}
use Rattle.std.specs.Option.{option_map}
use Rattle.markdown_base.specs.Arena.{child_of, sibling_of}
use Rattle.markdown_base.specs.ArenaForest.{Spells, forest_at, links_of}
use Rattle.markdown_base.specs.BlockTree.{Numbered, numbered, item_at}
use Rattle.markdown_base.specs.Forest.{Forest, nil, node, relabelled, roots}
use Rattle.markdown_base.specs.Item.{is_block, is_open}
use Rattle.markdown_base.specs.declared.item.Item.{Item}
use Rattle.markdown_base.specs.declared.node.Node.{Node}
use Rattle.markdown_base.proofs.ArenaForestLemmas.{opens}
use Rattle.markdown_base.proofs.WellFormedLemmas.{closed_no_run}
use Rattle.markdown_document.specs.ChainRest.{past_byte}
use Rattle.markdown_document.specs.Document.{Plain, tree_node_of}
use Rattle.markdown_document.specs.ItemRules.{ComesBefore}
use Rattle.markdown_document.specs.Places.{tree_node_at, trees_from}
use Rattle.markdown_document.specs.PlacedNodes.{IsSameAt, IsPlaced}
use Rattle.markdown_document.specs.ResolverStates.{weight_in}
use Rattle.markdown_document.specs.Tables.{Tables}
use Rattle.markdown_document.specs.NamedEntries.{HasGrown}
use Rattle.markdown_document.specs.Totals.{total, same, weight_at}
use Rattle.markdown_document.proofs.PlaceLemmas.{some_weight}
use Rattle.markdown_document.proofs.TablesLemmas.{same-refl}
use Rattle.markdown_spans.specs.ChainInArena.{LeadsThrough}
use Rattle.markdown_resolver.specs.Chains.{CanResolve}
use Rattle.markdown_resolver.specs.ClosedOver.{Enclosing, first_trees, trees_past, closed_over, over_inside}
use Rattle.markdown_resolver.specs.ClosedOver.{last_inside, CanClose, CanPutOver, PutsOver, IsEnclosed}
use Rattle.markdown_resolver.specs.Kept.{IsQuietBelow}
use Rattle.markdown_resolver.specs.Rewritten.{RunsGoOn, Rewrites, IsRestPast, LeavesRest, CanPut, first_past}
use Rattle.markdown_resolver.specs.Rewritten.{numbered_past_byte, MayBeCut}
use Rattle.markdown_resolver.specs.declared.continuation.Continuation.{Continuation}
use Rattle.markdown_resolver.specs.LiteralText.{IsWritten, begun_from}
use Rattle.markdown_resolver.proofs.ChainLeadsLemmas.{no_block}
use Rattle.markdown_resolver.proofs.ChainOrderLemmas.{AllPast, leads_kept, leads_left, numbered_left, numbered_past_is}
use Rattle.markdown_resolver.proofs.ComposeLemmas.{same_trans, Stands, Moves, changes_move, moves_change, moves_twice}
use Rattle.markdown_resolver.proofs.ComposeLemmas.{HeadWritten, HeadMoved, head_moves, head_leaves, after_head}
use Rattle.markdown_resolver.proofs.ComposeLemmas.{below_kept}
use Rattle.markdown_resolver.proofs.EncloseLemmas.{OpensAt, opens_at, inside_reads, spelled_past, spelled_kept}
use Rattle.markdown_resolver.proofs.EncloseLemmas.{total_parts}
use Rattle.markdown_resolver.proofs.FoldLemmas.{IsFolded, after_past, after_reads, closer_opens, enclosed_folds}
use Rattle.markdown_resolver.proofs.FoldLemmas.{first_after, folded_moves, item_after, next_after, stands_once}
use Rattle.markdown_resolver.proofs.FoldLemmas.{whole_childless}
use Rattle.markdown_resolver.proofs.PastByteLemmas.{tree_same}
use Rattle.markdown_resolver.proofs.PutFoundLemmas.{closed_head}
use Rattle.markdown_resolver.proofs.PutLemmas.{rewrites_none, next_from, over_numbers, quiet_past_byte, leads_begun}
use Rattle.markdown_resolver.proofs.PutLemmas.{no_run_here, run_closed, first_kept, RestPast, rest_past_is}

-- what is left of a quiet chain is quiet
quiet_trees : (k : ℕ) (f : Forest Plain) → IsQuietBelow f → IsQuietBelow (trees_past k f)
quiet_trees zero f h = h
quiet_trees (suc k) nil h = h
quiet_trees (suc k) (node a below after) h = quiet_trees k after h.2

-- an item was put into a first node that is not open; what is left of what follows it begins at a byte
pub record HeadPut (source : List ℕ) (ix i : ℕ) (item : Item) (next : Option ℕ) (nodes mid : List (Node Item))
    (tables t : Tables) : Type 0
  where
    pub head : HeadWritten source ix nodes mid tables t
    pub rest : RestPast source ix i nodes mid tables t next
    pub item_is : item_at mid ix ≡ item
    pub next_is : sibling_of mid ix ≡ next
    pub closed : is_open item.body ≡ false
    pub ends : item.end ≤ i

pub head_put : (source : List ℕ) (ix i : ℕ) (item : Item) (next : Option ℕ) (nodes mid : List (Node Item))
    (tables t : Tables) → HasGrown tables t → Stands source tables nodes (Some ix)
    → CanPut source tables t item → item.end ≤ i → IsWritten nodes mid ix item next → (byte : ℕ)
    → AllPast nodes ix byte (roots (forest_at (links_of nodes) (sibling_of nodes ix)))
    → next ≡ first_past nodes i (roots (forest_at (links_of nodes) (sibling_of nodes ix)))
    → ((n : ℕ) → next ≡ Some n → (item_at nodes n).start < i → MayBeCut (item_at nodes n).body)
    → IsCharBoundary source i → HeadPut source ix i item next nodes mid tables t
head_put source ix i item next nodes mid tables t grown s puts ends w byte past link between boundary =
    let size = w.size in
    let h = closed_head source ix item nodes mid tables t grown puts.closed puts.lies puts.named puts.slices
    puts.new_names w.item_is (omega (arith, size)) (λ n l d. w.others n d) in
    record {
      head = h;
      rest = rest_past_is source ix i nodes mid tables t next byte s h link past between boundary;
      item_is = w.item_is;
      next_is = w.next_is;
      closed = puts.closed;
      ends = ends;
    }

-- once what is left is rewritten, the first item, with what was below it, precedes that
pub record HeadStands (source : List ℕ) (ix i : ℕ) (item : Item) (rule : Forest Plain → Forest Plain)
    (nodes mid new : List (Node Item)) (tables t later : Tables) : Type 0 where
  pub moved : HeadMoved source ix nodes mid new tables t later
  pub reads : trees_from source later new (Some ix)
      ≡ node (tree_node_of source t item) (trees_from source tables nodes (child_of nodes ix))
      (rule (past_byte i (trees_from source tables nodes (sibling_of nodes ix))))

pub head_stands : {source : List ℕ} {ix i : ℕ} {item : Item} {next : Option ℕ} {nodes mid : List (Node Item)}
    {tables t : Tables} → Stands source tables nodes (Some ix)
    → child_of mid ix ≡ child_of nodes ix → HeadPut source ix i item next nodes mid tables t
    → (rule : Forest Plain → Forest Plain) (new : List (Node Item)) (later : Tables)
    → Rewrites source rule next (begun_from next i mid) new t later
    → HeadStands source ix i item rule nodes mid new tables t later
head_stands {source} {ix} {i} {item} {next} {nodes} {mid} {tables} {t} s child p rule new later r =
    let m = moves_twice p.rest.moves (changes_move r.changes) in
    let closed : is_open (item_at mid ix).body ≡ false = rw p.item_is p.closed in
    let kept = below_kept next s p.head m child (rw closed (some_weight (is_open (item_at nodes ix).body))) in
    let ends : (item_at mid ix).end ≤ i = rw p.item_is p.ends in
    let follows = r.changes.before (numbered mid ix) (p.rest.follows (numbered mid ix) refl ends) in
    let hm = head_moves source ix nodes mid new tables t later s p.head (rw p.next_is m) kept.below
    (rw p.next_is follows)
    (no_run_here source (numbered mid ix) (option_map (numbered new) (sibling_of mid ix)) closed) in
    let after : trees_from source later new (sibling_of mid ix)
    ≡ rule (past_byte i (trees_from source tables nodes (sibling_of nodes ix))) =
    ap (λ (l : Option ℕ). trees_from source later new l) p.next_is ∙ r.rewritten ∙ ap rule p.rest.reads in
    record {
      moved = hm;
      reads = hm.trees ∙ tree_same (ap (λ x. tree_node_of source t x) p.item_is) kept.trees after;
    }

-- an item is where another was that was neither open nor a block
pub first_no_block : (source : List ℕ) (tables : Tables) (nodes : List (Node Item)) (ix : ℕ)
    → CanResolve source tables nodes (Some ix) → is_block (item_at nodes ix).body ≡ false
first_no_block source tables nodes ix ready =
    let o = opens (links_of nodes) (IsPlaced source tables nodes) ix ready.reaches in
    no_block (item_at nodes ix).body (rw o.here at ready.quiet_below).0

pub before_text : (ix : ℕ) (old new : List (Node Item)) (a : Numbered) → is_block (item_at old ix).body ≡ false
    → (item_at new ix).start ≡ (item_at old ix).start
    → ComesBefore a (Some (numbered old ix)) → ComesBefore a (Some (numbered new ix))
before_text ix old new a plain starts h = λ x y. let p = h x plain in record
    { ends = rw starts p.ends; numbers = p.numbers }

pub runs_text : (source : List ℕ) (ix : ℕ) (old new : List (Node Item)) → is_open (item_at old ix).body ≡ false
    → is_open (item_at new ix).body ≡ false → RunsGoOn source old new (Some ix)
runs_text source ix old new closed closed' = λ a whole.
    run_closed source a (numbered old ix) (numbered new ix) _ (closed_no_run (item_at old ix).body closed)
    (closed_no_run (item_at new ix).body closed') whole

-- the closer is not left past a byte
pub past_closer : (source : List ℕ) (tables : Tables) (nodes : List (Node Item)) (k closer i : ℕ) (after : List ℕ)
    (f : Forest ℕ) → OpensAt k closer after f → (item_at nodes closer).end ≤ i
    → past_byte i (trees_past k (relabelled (tree_node_at source tables nodes) f))
    ≡ past_byte i (trees_past (suc k) (relabelled (tree_node_at source tables nodes) f))
past_closer source tables nodes zero closer i after nil o ends = refl
past_closer source tables nodes zero closer i after (node n below rest) o ends =
    let is : n ≡ closer = cc (o.is) in
    let test : nat_le (item_at nodes n).end i
    ≡ true = (let e : (item_at nodes n).end ≤ i = subst (λ (m : ℕ). (item_at nodes m).end ≤ i)
    (sym is) ends in grind (arith, nat_tests, e)) in
    rw test refl
past_closer source tables nodes (suc k) closer i after nil o ends = refl
past_closer source tables nodes (suc k) closer i after (node n below rest) o ends =
    past_closer source tables nodes k closer i after rest (record { below = o.below; is = o.is; follow = o.follow })
    ends

-- what is left can be read, and is less, where the chain from the opener on became that
pub over_leaves : (source : List ℕ) (opener k byte : ℕ) (next : Option ℕ) (old place : List (Node Item))
    (tables t : Tables) (f : Forest ℕ) → CanResolve source tables old (Some opener)
    → forest_at (links_of old) (Some opener) ≡ node opener nil f → Moves source (Some opener) next old place tables t
    → weight_in place next < weight_in old (Some opener)
    → trees_from source t place next ≡ past_byte byte (trees_past k (relabelled (tree_node_at source tables old) f))
    → LeavesRest source opener next old place t
over_leaves source opener k byte next old place tables t f ready whole left lighter reads =
    let chain = relabelled (tree_node_at source tables old) f in
    let quiet : IsQuietBelow chain = (rw whole at ready.quiet_below).2 in
    record {
      ready = record {
        reaches = left.stands.reaches;
        once = left.stands.once;
        named_once = left.stands.named_once;
        quiet_below = rw reads (quiet_past_byte byte (trees_past k chain) (quiet_trees k chain quiet));
      };
      lighter = lighter;
      of_chain = left.of_chain;
      more_nodes = left.more_nodes;
      outside = left.outside;
    }

-- the links after the closer lead on past a byte offset, where the nodes there are unchanged
pub after_leads : (old mid : List (Node Item)) (opener closer byte : ℕ) (inside after : List ℕ) (next : Option ℕ)
    (f : Forest ℕ) → roots f ≡ inside ++ closer ∷ after
    → Spells (links_of old) (sibling_of old opener) f → length old ≤ length mid
    → ((n : ℕ) → 0 < total (same n) (trees_past (suc (length inside)) f) → IsSameAt old mid n)
    → first_past old byte after ≡ next → (low : ℕ) (chain : List Numbered)
    → LeadsThrough old low (sibling_of old closer) chain
    → LeadsThrough (begun_from next byte mid) low next (numbered_past_byte byte chain)
after_leads old mid opener closer byte inside after next f listed spelled size kept first low chain e =
    let o = opens_at inside after closer f listed in
    let later = trees_past (suc (length inside)) f in
    let at : Spells (links_of old) (Some closer) (node closer o.below (trees_past (suc (length inside)) f)) =
    rw o.is at (spelled_past old inside after closer (sibling_of old opener) f listed spelled) in
    let there = spelled_kept old mid (sibling_of old closer) later size kept at.3 in
    let leads = leads_kept old mid (sibling_of old closer) later low chain at.3 size (λ n l some. kept n some) e in
    let link : first_past mid byte (roots later) ≡ next =
    first_kept old mid byte later (λ n some. (kept n some).item) ∙ ap (λ (ns : List ℕ). first_past old byte ns)
    o.follow ∙ first in
    let left : LeadsThrough mid low next (numbered_left byte chain) = rw link at
    (leads_left mid byte (sibling_of old closer) later low chain there leads) in
    rw (numbered_past_is byte chain) (leads_begun mid byte next low (numbered_left byte chain) left)

-- one item, with what a rule shows of what is inside below it
abbrev pub over_shape : List ℕ → Tables → Item → (shown : Forest Plain → Forest Plain) → Enclosing
over_shape source tables item shown a inside = node (tree_node_of source tables item) (shown inside) nil

-- the opener's node was written once it was folded
module _ {source : List ℕ} {opener closer : ℕ} {item : Item} {byte : ℕ} {inside : List ℕ} {rest : Continuation}
    {old folded mid : List (Node Item)} {tables t : Tables} (grown : HasGrown tables t)
    (can : CanClose source tables old opener closer inside byte)
    (over : CanPutOver source tables t old opener item byte)
    (v : IsFolded source tables old folded opener closer (length inside))
    (past : IsRestPast old byte (sibling_of old closer) rest) (w : IsWritten folded mid opener item rest.next) where
  abbrev next : Option ℕ
  next = rest.next

  next_first : first_past old byte can.after ≡ next
  next_first = next_after can ∙ sym past.next_is

  abbrev k : ℕ
  k = length inside

  abbrev f : Forest ℕ
  f = forest_at (links_of old) (sibling_of old opener)

  abbrev chain : Forest Plain
  chain = trees_from source tables old (sibling_of old opener)

  abbrev place : List (Node Item)
  place = begun_from next byte mid

  whole_old : forest_at (links_of old) (Some opener) ≡ node opener nil f
  whole_old = whole_childless can

  moved : Moves source (Some opener) (Some opener) old folded tables tables
  moved = folded_moves can folded v

  rest_all_past : AllPast folded opener (item_at old opener).end
      (roots (forest_at (links_of folded) (sibling_of folded opener)))
  rest_all_past = rw v.next_is (after_past can folded v.size v.after)

  link_on : next ≡ first_past folded byte (roots (forest_at (links_of folded) (sibling_of folded opener)))
  link_on = rw v.next_is (sym (first_after can folded v.size v.after ∙ next_first))

  puts : HeadPut source opener byte item next folded mid tables t
  puts =
      head_put source opener byte item next folded mid tables t grown moved.stands over.puts over.ends w
      (item_at old opener).end rest_all_past link_on
      (λ n e. rw (item_after can folded v.size v.after n (next_first ∙ e))
      (can.between n (next_first ∙ e))) can.boundary

  rest_is : past_byte byte (trees_from source tables folded (sibling_of folded opener))
      ≡ past_byte byte (trees_past (suc k) chain)
  rest_is =
      ap (λ (l : Option ℕ). past_byte byte (trees_from source tables folded l)) v.next_is
      ∙ ap (λ (g : Forest Plain). past_byte byte g) (after_reads can folded v.size v.after)
      ∙ past_closer source tables old k closer byte can.after f (closer_opens can) can.closer_ends

  left_moves : Moves source (Some opener) next old place tables t
  left_moves = moves_twice moved (moves_twice (head_leaves moved.stands puts.head) puts.rest.moves)

  fold_leaves : LeavesRest source opener next old place t
  fold_leaves =
      let a = after_head moved.stands puts.head in
      let two : 2 ≤ weight_at folded opener = some_weight (is_open (item_at folded opener).body) in
      let all : weight_in folded (Some opener) ≡ weight_at folded opener + (weight_in folded (child_of folded opener)
      + weight_in folded (sibling_of folded opener)) =
      ap (λ (g : Forest ℕ). total (weight_at folded) g) a.here in
      let rest : weight_in place next ≤ weight_in folded (sibling_of folded opener) = rw (← a.rest.weight)
      puts.rest.moves.no_heavier in
      let weight = moved.no_heavier in
      over_leaves source opener (suc k) byte next old place tables t f can.ready whole_old left_moves
      (omega (arith, two, all, rest, weight)) (puts.rest.reads ∙ rest_is)

  after_same : (n : ℕ) → 0 < total (same n) (trees_past (suc k) f) → IsSameAt old mid n
  after_same n l =
      let o = closer_opens can in
      let one : total (same n) (trees_past k f)
      ≡ same n closer + (total (same n) o.below + total (same n) (trees_past (suc k) f)) =
      ap (λ (g : Forest ℕ). total (same n) g) o.is in
      let parts = total_parts (same n) k f in
      let once = stands_once can n in
      same_trans (v.after n (omega (arith, one, l)))
      (w.others n (λ q. let self : same n opener ≡ 1 = subst (λ (m : ℕ). same n m ≡ 1) q (same-refl n)
      in absurd (omega (arith, once, self, parts, one, l))))

  fold_leads : (low : ℕ) (after : List Numbered) → LeadsThrough old low (sibling_of old closer) after
      → LeadsThrough place low next (numbered_past_byte byte after)
  fold_leads =
      let o = opens (links_of old) (IsPlaced source tables old) opener can.ready.reaches in
      let size = v.size in
      let size' = w.size in
      after_leads old mid opener closer byte inside can.after next f can.follows o.after.spelled
      (omega (arith, size, size')) after_same next_first

  -- so the item replaces what was found, with what is shown of what was inside
  module _ (shown : Forest Plain → Forest Plain) (reads : trees_from source tables folded (child_of folded opener)
      ≡ shown (first_trees k chain)) where
    fold_whole : (rule : Forest Plain → Forest Plain) (new : List (Node Item)) (later : Tables)
        → Rewrites source rule next place new t later
        → Rewrites source (closed_over k (over_shape source t item shown) byte rule) (Some opener) old new tables later
    fold_whole rule new later r =
        let h = head_stands moved.stands w.child_is puts rule new later r in
        let m = moves_twice moved h.moved.moves in
        let item_is : item_at new opener ≡ item = h.moved.item ∙ puts.item_is in
        record {
          changes = moves_change m
              (λ a stands. before_text opener old new a (first_no_block source tables old opener can.ready)
              (rw item_is over.starts) stands);
          runs = runs_text source opener old new can.opener_closed (rw item_is puts.closed);
          rewritten = h.reads ∙ tree_same refl reads (ap rule rest_is) ∙ rw whole_old refl;
        }

    fold_numbers : roots (forest_at (links_of place) (Some opener)) ≡ opener ∷ roots (forest_at (links_of place) next)
    fold_numbers =
        let r = fold_whole (λ g. g) place t (rewrites_none left_moves.stands) in
        over_numbers source opener next place t r.changes.reaches (next_from mid next byte opener ∙ w.next_is)

    pub fold_puts : PutsOver source opener closer inside (over_shape source t item shown) byte (opener ∷ []) rest old
        place tables t
    fold_puts = record {
      whole = fold_whole;
      leaves = fold_leaves;
      past = past;
      leads = fold_leads;
      numbers = fold_numbers;
    }

-- a link is over all that is inside
pub link_puts : {source : List ℕ} {opener last closer : ℕ} {item : Item} {byte : ℕ} {inside : List ℕ} {rest :
    Continuation}
    {old folded mid : List (Node Item)} {tables t : Tables} → HasGrown tables t
    → CanClose source tables old opener closer inside byte → CanPutOver source tables t old opener item byte
    → last_inside opener inside ≡ last → IsEnclosed old folded opener last closer
    → IsRestPast old byte (sibling_of old closer) rest → IsWritten folded mid opener item rest.next
    → PutsOver source opener closer inside (over_inside source t item) byte (opener ∷ []) rest old
    (begun_from rest.next byte mid) tables t
link_puts grown can over is enclosed past w =
    fold_puts grown can over (enclosed_folds can is enclosed) past w (λ f. f) (inside_reads can is enclosed)
