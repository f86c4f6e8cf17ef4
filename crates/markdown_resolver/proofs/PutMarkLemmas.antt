-- A Text for the first byte of an opener is put into its node, and a reference into its closer's: what was inside
-- leaves the chain.
use Rattle.std.proofs.Common.{◌≡◌, ℕ, suc, ◌+◌, ◌<◌, ◌≤◌, false, List, [], ◌∷◌, ◌++◌, length, Option, Some, None, refl}
use Rattle.std.proofs.Common.{sym, ap, ◌∙◌, subst, arith}
use Rattle.std.specs.Option.{option_map}
use Rattle.markdown_base.specs.Arena.{child_of, sibling_of}
use Rattle.markdown_base.specs.ArenaForest.{forest_at, links_of}
use Rattle.markdown_base.specs.BlockTree.{Numbered, numbered, item_at}
use Rattle.markdown_base.specs.Forest.{Forest, nil, node, roots}
use Rattle.markdown_base.specs.Item.{is_open}
use Rattle.markdown_base.specs.declared.item.Item.{Item}
use Rattle.markdown_base.specs.declared.node.Node.{Node}
use Rattle.markdown_base.proofs.ArenaForestLemmas.{opens, Opened, forest_at-none}
use Rattle.markdown_document.specs.ChainRest.{past_byte}
use Rattle.markdown_document.specs.Document.{Plain, tree_node_of}
use Rattle.markdown_document.specs.ItemRules.{ComesBefore}
use Rattle.markdown_document.specs.Places.{trees_from}
use Rattle.markdown_document.specs.PlacedNodes.{IsSameAt, IsPlaced}
use Rattle.markdown_document.specs.ResolverStates.{weight_in}
use Rattle.markdown_document.specs.Tables.{Tables}
use Rattle.markdown_document.specs.NamedEntries.{HasGrown}
use Rattle.markdown_document.specs.Totals.{total, same, weight_at}
use Rattle.markdown_document.proofs.PlaceLemmas.{slices-none, some_weight}
use Rattle.markdown_document.proofs.TablesLemmas.{same-refl, grown-nothing}
use Rattle.markdown_spans.specs.ChainInArena.{LeadsThrough}
use Rattle.markdown_resolver.specs.Chains.{CanResolve}
use Rattle.markdown_resolver.specs.ClosedOver.{trees_past, closed_over, after_mark, CanClose, CanPutMark, PutsOver}
use Rattle.markdown_resolver.specs.Rewritten.{Rewrites, IsRestPast, LeavesRest, first_past, numbered_past_byte}
use Rattle.markdown_resolver.specs.declared.continuation.Continuation.{Continuation}
use Rattle.markdown_resolver.specs.LiteralText.{IsWritten, begun_from}
use Rattle.markdown_resolver.proofs.ChainOrderLemmas.{rest_past}
use Rattle.markdown_resolver.proofs.ComposeLemmas.{same_trans, Stands, stands_ready, Moves, moves_change, moves_twice}
use Rattle.markdown_resolver.proofs.ComposeLemmas.{HeadWritten, After, below_kept, head_moves, head_leaves, after_head}
use Rattle.markdown_resolver.proofs.EncloseLemmas.{opens_at, total_parts}
use Rattle.markdown_resolver.proofs.FoldLemmas.{next_after}
use Rattle.markdown_resolver.proofs.PastByteLemmas.{tree_same}
use Rattle.markdown_resolver.proofs.PutFoundLemmas.{closed_head}
use Rattle.markdown_resolver.proofs.PutLemmas.{rewrites_none, next_from, over_numbers, no_run_here, first_kept}
use Rattle.markdown_resolver.proofs.PutLemmas.{first_there, rest_same, rest_within}
use Rattle.markdown_resolver.proofs.PutLinkLemmas.{HeadPut, head_put, HeadStands, head_stands, first_no_block}
use Rattle.markdown_resolver.proofs.PutLinkLemmas.{before_text, runs_text, over_leaves, after_leads}
use Rattle.markdown_resolver.proofs.PutPairLemmas.{Skips, skips, past_at, entries_of_none, tree_node_of_none}
use Rattle.markdown_resolver.proofs.PutReferenceLemmas.{past_inside, first_after}

-- the mark was written, and is followed by the closer; then the closer was written
module _ {source : List ℕ} {opener closer : ℕ} {mark item : Item} {inside : List ℕ} {old mid : List (Node Item)}
    {tables t : Tables} (grown : HasGrown tables t) (can : CanClose source tables old opener closer inside item.end)
    (over : CanPutMark source tables t old opener closer mark item)
    (v : IsWritten old mid opener mark (Some closer)) where
  abbrev k : ℕ
  k = length inside

  abbrev l : Option ℕ
  l = sibling_of old opener

  abbrev f : Forest ℕ
  f = forest_at (links_of old) l

  abbrev chain : Forest Plain
  chain = trees_from source tables old l

  opened : Opened (links_of old) (IsPlaced source tables old) opener
  opened = opens (links_of old) (IsPlaced source tables old) opener can.ready.reaches

  stands : Stands source tables old (Some opener)
  stands = stands_ready can.ready

  whole_old : forest_at (links_of old) (Some opener) ≡ node opener nil f
  whole_old = opened.here ∙ ap (λ x. node opener (forest_at (links_of old) x) f) can.childless
      ∙ ap (λ g. node opener g f) (forest_at-none (links_of old))

  head : HeadWritten source opener old mid tables tables
  head =
      let puts = over.puts_mark in
      let size = v.size in
      closed_head source opener mark old mid tables tables (grown-nothing tables) puts.closed puts.lies
      (entries_of_none tables t mark.body grown over.names_nothing puts.named)
      (slices-none source tables mark.start mark.end mark.body over.names_nothing) (λ n x. over.names_nothing n)
      v.item_is (omega (arith, size)) (λ n x d. v.others n d)

  after_mark_is : After source opener old mid tables tables
  after_mark_is = after_head stands head

  number : opener < closer
  number = (past_at old opener (item_at old opener).end closer inside can.after
      (rw can.follows at (rest_past can.ready))).number

  closer_same : IsSameAt old mid closer
  closer_same = v.others closer (λ e. absurd (let p = number in omega (arith, p, e)))

  ready : CanResolve source tables mid l
  ready = record {
    reaches = after_mark_is.stands.reaches;
    once = after_mark_is.stands.once;
    named_once = after_mark_is.stands.named_once;
    quiet_below = rw after_mark_is.rest.trees (rw after_mark_is.here at can.ready.quiet_below).2;
  }

  listed : roots (forest_at (links_of mid) l) ≡ inside ++ closer ∷ can.after
  listed = ap (λ (g : Forest ℕ). roots g) after_mark_is.rest.forest ∙ can.follows

  skipped_there : Skips source tables mid item.end l closer
  skipped_there = skips source tables mid item.end closer inside can.after l ready listed (over.ends
      ∙ ap (λ (x : Item). x.end) (sym closer_same.item))

  closer_stands : Stands source tables mid (Some closer)
  closer_stands = stands_ready skipped_there.ready

  closer_opened : Opened (links_of mid) (IsPlaced source tables mid) closer
  closer_opened = opens (links_of mid) (IsPlaced source tables mid) closer skipped_there.ready.reaches

  closer_childless : child_of mid closer ≡ None
  closer_childless = closer_opened.holds.keeps.childless (rw closer_same.item over.closer_open)

  after_reads : past_byte item.end (trees_from source tables mid (sibling_of mid closer))
      ≡ past_byte item.end (trees_past (suc k) chain)
  after_reads =
      sym skipped_there.reads ∙ ap (λ (g : Forest Plain). past_byte item.end g) after_mark_is.rest.trees
      ∙ past_inside can over.ends

  module _ (rest : Continuation) (last : List (Node Item)) (past : IsRestPast old item.end (sibling_of old closer) rest)
      (w : IsWritten mid last closer item rest.next) where
    abbrev next : Option ℕ
    next = rest.next

    abbrev place : List (Node Item)
    place = begun_from next item.end last

    items_same : (n : ℕ) → 0 < total (same n) f → item_at mid n ≡ item_at old n
    items_same n z = (rest_same stands head n (rest_within stands head n z) z).item

    next_first : first_past old item.end can.after ≡ next
    next_first = next_after can ∙ sym past.next_is

    next_all : first_past old item.end (roots f) ≡ next
    next_all = first_after can over.ends ∙ next_first

    link : next ≡ first_past mid item.end (roots (forest_at (links_of mid) (sibling_of mid closer)))
    link =
        sym next_all ∙ sym (first_kept old mid item.end f items_same)
        ∙ ap (λ (g : Forest ℕ). first_past mid item.end (roots g)) (sym after_mark_is.rest.forest) ∙ skipped_there.first

    puts : HeadPut source closer item.end item next mid last tables t
    puts =
        head_put source closer item.end item next mid last tables t grown closer_stands over.puts (omega arith) w
        (item_at mid closer).end (rest_past skipped_there.ready)
        link (λ n e. rw (items_same n (first_there old item.end n f (next_all ∙ e))) (can.between n (next_first ∙ e)))
        can.boundary

    closer_put : (rule : Forest Plain → Forest Plain) (new : List (Node Item)) (later : Tables)
        → Rewrites source rule next place new t later
        → HeadStands source closer item.end item rule mid last new tables t later
    closer_put rule new later r = head_stands closer_stands w.child_is puts rule new later r

    mark_closed : is_open (item_at mid opener).body ≡ false
    mark_closed = rw v.item_is over.puts_mark.closed

    mark_whole : (rule : Forest Plain → Forest Plain) (new : List (Node Item)) (later : Tables)
        → Rewrites source rule next place new t later
        → Rewrites source (closed_over k (after_mark source t mark item) item.end rule) (Some opener) old new tables
        later
    mark_whole rule new later r =
        let h = closer_put rule new later r in
        let m = moves_twice skipped_there.moves h.moved.moves in
        let kept = below_kept (Some closer) stands head m v.child_is
        (rw mark_closed (some_weight (is_open (item_at old opener).body))) in
        let follows : ComesBefore (numbered mid opener) (Some (numbered new closer)) =
        λ x y. record { ends = rw (v.item_is, h.moved.item, w.item_is) over.in_order; numbers = number } in
        let hm = head_moves source opener old mid new tables tables later stands head (rw v.next_is m) kept.below
        (rw v.next_is follows)
        (no_run_here source (numbered mid opener) (option_map (numbered new) (sibling_of mid opener)) mark_closed) in
        let none : trees_from source tables old (child_of old opener)
        ≡ nil = rw (can.childless, forest_at-none (links_of old)) refl in
        let none' : trees_from source tables mid (child_of mid closer)
        ≡ nil = rw (closer_childless, forest_at-none (links_of mid)) refl in
        let label = tree_node_of_none source tables t mid opener grown (rw v.item_is over.names_nothing)
        ∙ ap (λ x. tree_node_of source t x) v.item_is in
        let after = ap (λ (x : Option ℕ). trees_from source later new x) v.next_is ∙ h.reads
        ∙ tree_same refl none' (ap rule after_reads) in
        let item_is : item_at new opener ≡ mark = hm.item ∙ v.item_is in
        record {
          changes = moves_change hm.moves
              (λ a before. before_text opener old new a (first_no_block source tables old opener can.ready)
              (rw item_is over.starts) before);
          runs = runs_text source opener old new can.opener_closed (rw item_is over.puts_mark.closed);
          rewritten = hm.trees ∙ tree_same label (kept.trees ∙ none) after ∙ rw whole_old refl;
        }

    left_from : Moves source l next mid place tables t
    left_from = moves_twice skipped_there.moves (moves_twice (head_leaves closer_stands puts.head) puts.rest.moves)

    left_moves : Moves source (Some opener) next old place tables t
    left_moves = moves_twice (head_leaves stands head) left_from

    mark_leaves : LeavesRest source opener next old place t
    mark_leaves =
        let two : 2 ≤ weight_at old opener = some_weight (is_open (item_at old opener).body) in
        let all : weight_in old (Some opener) ≡ weight_at old opener
        + (0 + weight_in old l) = ap (λ (g : Forest ℕ). total (weight_at old) g) whole_old in
        let rest : weight_in place next ≤ weight_in old l = rw (← after_mark_is.rest.weight) left_from.no_heavier in
        over_leaves source opener (suc k) item.end next old place tables t f can.ready whole_old left_moves
        (omega (arith, two, all, rest)) (puts.rest.reads ∙ after_reads)

    after_same : (n : ℕ) → 0 < total (same n) (trees_past (suc k) f) → IsSameAt old last n
    after_same n x =
        let o = opens_at inside can.after closer f can.follows in
        let one : total (same n) (trees_past k f)
        ≡ same n closer + (total (same n) o.below + total (same n) (trees_past (suc k) f)) =
        ap (λ (g : Forest ℕ). total (same n) g) o.is in
        let parts = total_parts (same n) k f in
        let once : same n opener + total (same n) f ≤ 1 = (let z = rw whole_old at (can.ready.once n) in omega arith) in
        same_trans (v.others n (λ q. let self : same n opener ≡ 1 = subst (λ (m : ℕ). same n m ≡ 1) q (same-refl n)
        in absurd (omega (arith, once, self, parts, one, x))))
        (w.others n (λ q. let self : same n closer ≡ 1 = subst (λ (m : ℕ). same n m ≡ 1) q (same-refl n)
        in absurd (omega (arith, once, self, parts, one, x))))

    mark_leads : (low : ℕ) (after : List Numbered) → LeadsThrough old low (sibling_of old closer) after
        → LeadsThrough place low next (numbered_past_byte item.end after)
    mark_leads =
        let size = v.size in
        let size' = w.size in
        after_leads old last opener closer item.end inside can.after next f can.follows opened.after.spelled
        (omega (arith, size, size')) after_same next_first

    mark_numbers : roots (forest_at (links_of place) (Some opener))
        ≡ opener ∷ closer ∷ roots (forest_at (links_of place) next)
    mark_numbers =
        let r = mark_whole (λ g. g) place t (rewrites_none left_moves.stands) in
        let h = closer_put (λ g. g) place t (rewrites_none left_moves.stands) in
        let opener_next : sibling_of place opener ≡ Some closer = next_from last next item.end opener
        ∙ (w.others opener (λ e. absurd (let p = number in omega (arith, p, e)))).next ∙ v.next_is in
        over_numbers source opener (Some closer) place t r.changes.reaches opener_next
        ∙ ap (λ (ns : List ℕ). opener ∷ ns) (over_numbers source closer next place t h.moved.moves.stands.reaches
        (next_from last next item.end closer ∙ w.next_is))

    -- so both replace what was found
    pub mark_puts : PutsOver source opener closer inside (after_mark source t mark item) item.end (opener ∷ closer ∷ [])
        rest old place tables t
    mark_puts = record {
      whole = mark_whole;
      leaves = mark_leaves;
      past = past;
      leads = mark_leads;
      numbers = mark_numbers;
    }
