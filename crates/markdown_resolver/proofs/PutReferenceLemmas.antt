-- A footnote reference is put into the node of its opener, which is a Text by now: what was inside leaves the chain.
use Rattle.std.proofs.Common.{◌≡◌, ℕ, suc, ◌+◌, ◌<◌, ◌≤◌, List, [], ◌∷◌, length, Option, Some, refl, sym, ap, ◌∙◌}
use Rattle.std.proofs.Common.{subst, arith}
use Rattle.markdown_base.specs.Arena.{child_of, sibling_of}
use Rattle.markdown_base.specs.ArenaForest.{forest_at, links_of}
use Rattle.markdown_base.specs.BlockTree.{Numbered, item_at}
use Rattle.markdown_base.specs.Forest.{Forest, nil, node, relabelled, roots}
use Rattle.markdown_base.specs.Item.{is_open}
use Rattle.markdown_base.specs.declared.item.Item.{Item}
use Rattle.markdown_base.specs.declared.node.Node.{Node}
use Rattle.markdown_base.proofs.ArenaForestLemmas.{opens, forest_at-none}
use Rattle.markdown_document.specs.ChainRest.{past_byte}
use Rattle.markdown_document.specs.Document.{Plain}
use Rattle.markdown_document.specs.Places.{tree_node_at, trees_from}
use Rattle.markdown_document.specs.PlacedNodes.{IsSameAt, IsPlaced}
use Rattle.markdown_document.specs.ResolverStates.{weight_in}
use Rattle.markdown_document.specs.Tables.{Tables}
use Rattle.markdown_document.specs.NamedEntries.{HasGrown}
use Rattle.markdown_document.specs.Totals.{total, same, weight_at}
use Rattle.markdown_document.proofs.PlaceLemmas.{some_weight}
use Rattle.markdown_document.proofs.TablesLemmas.{same-refl}
use Rattle.markdown_spans.specs.ChainInArena.{LeadsThrough}
use Rattle.markdown_resolver.specs.ClosedOver.{trees_past, closed_over, in_place_of, CanClose, CanPutOver, PutsOver}
use Rattle.markdown_resolver.specs.Rewritten.{Rewrites, IsRestPast, LeavesRest, first_past, numbered_past_byte}
use Rattle.markdown_resolver.specs.declared.continuation.Continuation.{Continuation}
use Rattle.markdown_resolver.specs.LiteralText.{IsWritten, begun_from}
use Rattle.markdown_resolver.proofs.ChainOrderLemmas.{rest_past}
use Rattle.markdown_resolver.proofs.ComposeLemmas.{Stands, stands_ready, Moves, moves_change, moves_twice, head_leaves}
use Rattle.markdown_resolver.proofs.ComposeLemmas.{after_head}
use Rattle.markdown_resolver.proofs.EncloseLemmas.{read_past, total_parts}
use Rattle.markdown_resolver.proofs.FoldLemmas.{after_is, next_after, stands_once, whole_childless}
use Rattle.markdown_resolver.proofs.PastByteLemmas.{tree_same}
use Rattle.markdown_resolver.proofs.PutLemmas.{rewrites_none, next_from, over_numbers}
use Rattle.markdown_resolver.proofs.PutLinkLemmas.{HeadPut, head_put, head_stands, first_no_block, before_text}
use Rattle.markdown_resolver.proofs.PutLinkLemmas.{runs_text, over_leaves, after_leads}
use Rattle.markdown_resolver.proofs.PutPairLemmas.{Skips, skips, ready_next}

-- what is inside, and the closer, are not left past the closer's end
module _ {source : List ℕ} {tables : Tables} {old : List (Node Item)} {opener closer byte : ℕ} {inside : List ℕ}
    (can : CanClose source tables old opener closer inside byte) (ends : byte ≡ (item_at old closer).end) where
  abbrev many : ℕ
  many = length inside

  abbrev numbers : Forest ℕ
  numbers = forest_at (links_of old) (sibling_of old opener)

  abbrev trees : Forest Plain
  trees = trees_from source tables old (sibling_of old opener)

  skipped_there : Skips source tables old byte (sibling_of old opener) closer
  skipped_there = skips source tables old byte closer inside can.after (sibling_of old opener)
      (ready_next source tables old opener can.ready) can.follows ends

  pub past_inside : past_byte byte trees ≡ past_byte byte (trees_past (suc many) trees)
  past_inside =
      skipped_there.reads ∙ ap (λ (g : Forest ℕ). past_byte byte (relabelled (tree_node_at source tables old) g))
      (after_is can)
      ∙ ap (λ (g : Forest Plain). past_byte byte g) (read_past (tree_node_at source tables old) (suc many) numbers)

  pub first_after : first_past old byte (roots numbers) ≡ first_past old byte can.after
  first_after = skipped_there.first ∙ sym (next_after can)

-- an opener is written in place of what is inside
module _ {source : List ℕ} {opener closer : ℕ} {item : Item} {inside : List ℕ} {old : List (Node Item)}
    {tables t : Tables} (grown : HasGrown tables t) (can : CanClose source tables old opener closer inside item.end)
    (over : CanPutOver source tables t old opener item item.end) (ends : item.end ≡ (item_at old closer).end) where
  abbrev k : ℕ
  k = length inside

  abbrev f : Forest ℕ
  f = forest_at (links_of old) (sibling_of old opener)

  abbrev chain : Forest Plain
  chain = trees_from source tables old (sibling_of old opener)

  stands : Stands source tables old (Some opener)
  stands = stands_ready can.ready

  whole : forest_at (links_of old) (Some opener) ≡ node opener nil f
  whole = whole_childless can

  after_reads : past_byte item.end chain ≡ past_byte item.end (trees_past (suc k) chain)
  after_reads = past_inside can ends

  module _ (rest : Continuation) (mid : List (Node Item)) (past : IsRestPast old item.end (sibling_of old closer) rest)
      (w : IsWritten old mid opener item rest.next) where
    abbrev next : Option ℕ
    next = rest.next

    abbrev place : List (Node Item)
    place = begun_from next item.end mid

    next_first : first_past old item.end can.after ≡ next
    next_first = next_after can ∙ sym past.next_is

    puts : HeadPut source opener item.end item next old mid tables t
    puts =
        head_put source opener item.end item next old mid tables t grown stands over.puts over.ends w
        (item_at old opener).end (rest_past can.ready)
        (sym (first_after can ends ∙ next_first)) (λ n e. can.between n (next_first ∙ e)) can.boundary

    none_inside : trees_from source tables old (child_of old opener) ≡ nil
    none_inside = rw (can.childless, forest_at-none (links_of old)) refl

    reference_whole : (rule : Forest Plain → Forest Plain) (new : List (Node Item)) (later : Tables)
        → Rewrites source rule next place new t later
        → Rewrites source (closed_over k (in_place_of source t item) item.end rule) (Some opener) old new tables later
    reference_whole rule new later r =
        let h = head_stands stands w.child_is puts rule new later r in
        let item_is : item_at new opener ≡ item = h.moved.item ∙ puts.item_is in
        record {
          changes = moves_change h.moved.moves
              (λ a before. before_text opener old new a (first_no_block source tables old opener can.ready)
              (rw item_is over.starts) before);
          runs = runs_text source opener old new can.opener_closed (rw item_is puts.closed);
          rewritten = h.reads ∙ tree_same refl none_inside (ap rule after_reads) ∙ rw whole refl;
        }

    left_moves : Moves source (Some opener) next old place tables t
    left_moves = moves_twice (head_leaves stands puts.head) puts.rest.moves

    reference_leaves : LeavesRest source opener next old place t
    reference_leaves =
        let a = after_head stands puts.head in
        let two : 2 ≤ weight_at old opener = some_weight (is_open (item_at old opener).body) in
        let all : weight_in old (Some opener) ≡ weight_at old opener + (0 + weight_in old (sibling_of old opener)) =
        ap (λ (g : Forest ℕ). total (weight_at old) g) whole in
        let rest : weight_in place next ≤ weight_in old (sibling_of old opener) = rw (← a.rest.weight)
        puts.rest.moves.no_heavier in
        over_leaves source opener (suc k) item.end next old place tables t f can.ready whole left_moves
        (omega (arith, two, all, rest)) (puts.rest.reads ∙ after_reads)

    after_same : (n : ℕ) → 0 < total (same n) (trees_past (suc k) f) → IsSameAt old mid n
    after_same n l =
        let parts = total_parts (same n) (suc k) f in
        let once = stands_once can n in
        w.others n (λ q. let self : same n opener ≡ 1 = subst (λ (m : ℕ). same n m ≡ 1) q (same-refl n)
        in absurd (omega (arith, once, self, parts, l)))

    reference_leads : (low : ℕ) (after : List Numbered) → LeadsThrough old low (sibling_of old closer) after
        → LeadsThrough place low next (numbered_past_byte item.end after)
    reference_leads =
        let size = w.size in
        after_leads old mid opener closer item.end inside can.after next f can.follows
        (opens (links_of old) (IsPlaced source tables old)
        opener can.ready.reaches).after.spelled (omega (arith, size)) after_same next_first

    reference_numbers : roots (forest_at (links_of place) (Some opener))
        ≡ opener ∷ roots (forest_at (links_of place) next)
    reference_numbers =
        let r = reference_whole (λ g. g) place t (rewrites_none left_moves.stands) in
        over_numbers source opener next place t r.changes.reaches (next_from mid next item.end opener ∙ w.next_is)

    -- so the item replaces what was found
    pub reference_puts : PutsOver source opener closer inside (in_place_of source t item) item.end (opener ∷ []) rest
        old place tables t
    reference_puts =
        record {
          whole = reference_whole;
          leaves = reference_leaves;
          past = past;
          leads = reference_leads;
          numbers = reference_numbers;
        }
