-- What is left of a walk, before and after a move over, into or out of a node.
use Rattle.markdown_base.specs.declared.item.ItemBody.TheVariants as body
use Rattle.std.proofs.Common.{◌≡◌, ℕ, zero, suc, ◌+◌, ◌-◌, ◌<◌, ◌≤◌, true, false, List, [], ◌∷◌, ◌++◌, Option, Some}
use Rattle.std.proofs.Common.{None, refl, arith, ap, sym, ◌∙◌}
use Rattle.std.specs.Prelude.{slice_range}
use Rattle.markdown_base.specs.Arena.{child_of, sibling_of}
use Rattle.markdown_base.specs.ArenaForest.{Links, links_of, forest_at}
use Rattle.markdown_base.specs.ArenaWalk.{Reaches, AllReach}
use Rattle.markdown_base.specs.BlockTree.{item_at}
use Rattle.markdown_inline.specs.Elements.{Placed, Reading, nothing_read, then_reads}
use Rattle.markdown_inline.specs.WalkSteps.{events_first, event_of_shape}
use Rattle.markdown_document.specs.EnclosingBlocks.{EnclosingBlocks, no_blocks, inside_item, inside_all, above_at}
use Rattle.markdown_document.specs.Setting.{ReferenceState, Setting}
use Rattle.std.specs.declared.ops.Range.{Range}
use Rattle.markdown_base.specs.Event.{EventView, TagView, start, tag_end, hard_break}
use Rattle.markdown_base.specs.Item.{LiesIn, range_of, is_open}
use Rattle.markdown_base.specs.declared.block_parts.HeadingAttributes.{HeadingAttributes}
use Rattle.markdown_base.specs.declared.index.HeadingIndex.{HeadingIndex}
use Rattle.markdown_base.specs.declared.item.Item.{Item}
use Rattle.markdown_base.specs.declared.item.ItemBody.{ItemBody}
use Rattle.markdown_base.specs.declared.node.Node.{Node}
use Rattle.markdown_base.specs.declared.tag.HeadingLevel.{HeadingLevel}
use Rattle.markdown_base.specs.declared.tag.TagEnd.TheVariants as closes
use Rattle.markdown_base.proofs.ArenaForestLemmas.{opens, forest_at-none}
use Rattle.markdown_base.proofs.ArenaLemmas.{All-front}
use Rattle.markdown_base.proofs.ForestLemmas.{All-append}
use Rattle.markdown_inline.specs.Reading.{reading_opened, reading}
use Rattle.markdown_inline.specs.Walk.{ended, after_chain, left_of, end_of_body, end_of_shape}
use Rattle.markdown_document.specs.Places.{tree_node_at, trees_from}
use Rattle.markdown_document.specs.PlacedNodes.{IsPlaced}
use Rattle.markdown_document.specs.Totals.{total, same, weight_at}
use Rattle.markdown_document.specs.NamedEntries.{naming, Named}
use Rattle.markdown_document.specs.Tables.{Tables, heading_at, heading_for}
use Rattle.markdown_inline.specs.WalkTotals.{climbed, left_total, waits_at, steps_of}
use Rattle.markdown_inline.specs.Standing.{AboveKept, Stands, named_left}
use Rattle.markdown_document.specs.Document.{no_notes, Origin, Shape, leaf, enclosed, plain, backslash_break}
use Rattle.markdown_document.specs.Document.{unresolved, shape_of}
use Rattle.markdown_document.proofs.PlaceLemmas.{some_weight}
use Rattle.markdown_delims.proofs.PairingLemmas.{one_at_most}

-- a walk went from l below spine to m below deeper, and gave these events
pub record Moves (s : Setting) (tables : Tables) (nodes : List (Node Item)) (l : Option ℕ) (spine : List ℕ)
    (m : Option ℕ) (deeper : List ℕ) (given : List Placed) : Type 0 where
  pub stands : Stands s.text tables nodes m deeper
  pub left : (state : ReferenceState) → left_of s tables nodes l spine state
      ≡ events_first given (left_of s tables nodes m deeper state)
  pub falls : steps_of nodes m deeper < steps_of nodes l spine

-- a chain that waits is one step
waits_once : (nodes : List (Node Item)) (l : Option ℕ) → waits_at nodes l ≤ 1
waits_once nodes None = omega arith
waits_once nodes (Some ix) = one_at_most (is_open (item_at nodes ix).body)

-- one more node is entered
AllReach-snoc : (k : Links) (p : ℕ → Type 0) (spine : List ℕ) (ix : ℕ) → AllReach k p spine → ix < k.size
    → Reaches k p (k.next ix)
    → AllReach k p (spine ++ ix ∷ [])
AllReach-snoc k p [] ix a within follows = (within, follows, tt)
AllReach-snoc k p (j ∷ js) ix a within follows = (a.0, a.1, AllReach-snoc k p js ix a.2 within follows)

AboveKept-snoc : (source : List ℕ) (tables : Tables) (nodes : List (Node Item)) (spine : List ℕ) (ix : ℕ)
    → AboveKept source tables nodes spine
    → AboveKept source tables nodes (ix ∷ []) → AboveKept source tables nodes (spine ++ ix ∷ [])
AboveKept-snoc source tables nodes [] ix a h = h
AboveKept-snoc source tables nodes (j ∷ js) ix a h = (a.0, AboveKept-snoc source tables nodes js ix a.1 h)

-- the last of them is left
AllReach-front : (k : Links) (p : ℕ → Type 0) (spine : List ℕ) (ix : ℕ) → AllReach k p (spine ++ ix ∷ [])
    → AllReach k p spine
AllReach-front k p [] ix a = tt
AllReach-front k p (j ∷ js) ix a = (a.0, a.1, AllReach-front k p js ix a.2)

AboveKept-front : (source : List ℕ) (tables : Tables) (nodes : List (Node Item)) (spine : List ℕ) (ix : ℕ)
    → AboveKept source tables nodes (spine ++ ix ∷ [])
    → AboveKept source tables nodes spine
AboveKept-front source tables nodes [] ix a = tt
AboveKept-front source tables nodes (j ∷ js) ix a = (a.0, AboveKept-front source tables nodes js ix a.1)

-- what follows it is reached
pub AllReach-last : (k : Links) (p : ℕ → Type 0) (spine : List ℕ) (ix : ℕ) → AllReach k p (spine ++ ix ∷ [])
    → (ix < k.size) × Reaches k p (k.next ix)
AllReach-last k p [] ix a = (a.0, a.1)
AllReach-last k p (j ∷ js) ix a = AllReach-last k p js ix a.2

AboveKept-last : (source : List ℕ) (tables : Tables) (nodes : List (Node Item)) (spine : List ℕ) (ix : ℕ)
    → AboveKept source tables nodes (spine ++ ix ∷ [])
    → AboveKept source tables nodes (ix ∷ [])
AboveKept-last source tables nodes [] ix a = a
AboveKept-last source tables nodes (j ∷ js) ix a = AboveKept-last source tables nodes js ix a.1

-- the node that was entered last ends first
around-snoc : (s : Setting) (above : EnclosingBlocks) (tables : Tables) (nodes : List (Node Item))
    (spine : List ℕ) (ix : ℕ) (after : Reading) → after_chain s above tables nodes (spine ++ ix ∷ []) after
    ≡ ended (end_of_body (item_at nodes ix).body) (range_of (item_at nodes ix))
    (reading s no_notes (inside_all nodes spine above) (trees_from s.text tables nodes (sibling_of nodes ix))
    (after_chain s above tables nodes spine after))
around-snoc s above tables nodes [] ix after = refl
around-snoc s above tables nodes (j ∷ js) ix after = around-snoc s (inside_item
    (item_at nodes j) above) tables nodes js
    ix _

-- what is below it is inside it
inside_all-snoc : (nodes : List (Node Item)) (spine : List ℕ) (ix : ℕ) (above : EnclosingBlocks)
    → inside_all nodes (spine ++ ix ∷ []) above
    ≡ inside_item (item_at nodes ix) (inside_all nodes spine above)
inside_all-snoc nodes [] ix above = refl
inside_all-snoc nodes (j ∷ js) ix above = inside_all-snoc nodes js ix (inside_item (item_at nodes j) above)

climbed-snoc : (gone count : ℕ → ℕ) (k : Links) (spine : List ℕ) (ix : ℕ) → climbed gone count k (spine ++ ix ∷ [])
    ≡ (gone ix + total count (forest_at k (k.next ix))) + climbed gone count k spine
climbed-snoc gone count k [] ix = omega arith
climbed-snoc gone count k (j ∷ js) ix = omega (arith, climbed-snoc gone count k js ix)

-- a heading keeps its level, whichever attributes it refers to
heading_at-level : (level : HeadingLevel) (headings : List HeadingAttributes) (n : ℕ)
    → (heading_at level headings n).level ≡ level
heading_at-level level [] n = refl
heading_at-level level (a ∷ headings) zero = refl
heading_at-level level (a ∷ headings) (suc n) = heading_at-level level headings n

heading_for-level : (level : HeadingLevel) (headings : List HeadingAttributes) (named : Option HeadingIndex)
    → (heading_for level headings named).level ≡ level
heading_for-level level headings None = refl
heading_for-level level headings (Some ix) = heading_at-level level headings (ix.0 - 1)

-- how a tree ends depends on its body alone
closing-enclosed : (tables : Tables) (source : List ℕ) (body : ItemBody) (tag : TagView) (origins : List Origin)
    → shape_of tables source body ≡ enclosed tag origins
    → end_of_body body ≡ Some (tag_end tag)
closing-enclosed tables source body.Paragraph tag origins h = cc h
closing-enclosed tables source body.TightParagraph tag origins h = cc h
closing-enclosed tables source (body.HardBreak true) tag origins h = cc h
closing-enclosed tables source (body.HardBreak false) tag origins h = cc h
closing-enclosed tables source (body.Heading level named) tag origins h =
    ap (λ l. Some (closes.Heading l))
    (heading_for-level level [] named ∙ sym (heading_for-level level tables.headings named))
    ∙ ap end_of_shape h
closing-enclosed tables source other tag origins h = cc h

closing-plain : (tables : Tables) (source : List ℕ) (body : ItemBody) → shape_of tables source body ≡ plain
    → end_of_body body ≡ None
closing-plain tables source body.Paragraph h = cc h
closing-plain tables source body.TightParagraph h = refl
closing-plain tables source (body.HardBreak true) h = cc h
closing-plain tables source (body.HardBreak false) h = cc h
closing-plain tables source other h = cc h

-- a tree that reads as one event
reads-event : (shape : Shape) (range : Range ℕ) (inside : Reading → Reading) (after whole : Reading) (e : EventView)
    (origins : List Origin) → event_of_shape shape ≡ Some (e, origins)
    → reading_opened shape range inside after whole ≡ then_reads (e, range, origins) after
reads-event (leaf d origins') range inside after whole e origins h =
    let same : (d, origins')
    ≡ (e, origins) = cc h in ap (λ (x : EventView × List Origin). then_reads (x.0, range, x.1) after) same
reads-event (enclosed tag others) range inside after whole e origins h = cc h
reads-event plain range inside after whole e origins h = cc h
reads-event backslash_break range inside after whole e origins h =
    let same : (hard_break, [])
    ≡ (e, origins) = cc h in ap (λ (x : EventView × List Origin). then_reads (x.0, range, x.1) after) same
reads-event (unresolved b) range inside after whole e origins h = cc h

-- over a node that reads as one event
pub moves_on : (s : Setting) (tables : Tables) (nodes : List (Node Item)) (ix : ℕ) (spine : List ℕ) (e : EventView)
    (origins : List Origin)
    → Stands s.text tables nodes (Some ix) spine → event_of_shape (tree_node_at s.text tables nodes ix).part.shape
    ≡ Some (e, origins)
    → Moves s tables nodes (Some ix) spine (sibling_of nodes ix) spine ((e, range_of (item_at nodes ix), origins) ∷ [])
unfolding left_of left_total
moves_on s tables nodes ix spine e origins w h =
    let o = opens (links_of nodes) (IsPlaced s.text tables nodes) ix w.walk.here in
    let two = some_weight (is_open (item_at nodes ix).body) in
    record {
      stands = record {
        walk = record { here = o.after; above = w.walk.above };
        once = λ n. let x = rw o.here at (w.once n) in omega arith;
        named_once = λ n. let x = rw o.here at (w.named_once n) in omega arith;
        here_kept = (rw o.here at w.here_kept).2;
        above_kept = w.above_kept;
        spine_lies = w.spine_lies;
      };
      left = λ state. rw o.here
          (ap (λ (r : Reading). r state) (reads-event (tree_node_at s.text tables nodes ix).part.shape _ _ _ _ e origins
          h));
      falls = let waits = waits_once nodes (sibling_of nodes ix) in rw o.here (omega arith);
    }

-- no entry that it refers to is referred to afterwards
pub moves_past : (source : List ℕ) (tables : Tables) (nodes : List (Node Item)) (ix : ℕ) (spine : List ℕ) (n : Named)
    → Stands source tables nodes (Some ix) spine → naming nodes n ix + named_left nodes (sibling_of nodes ix) spine n ≤
    1
unfolding left_total
moves_past source tables nodes ix spine n w =
    let o = opens (links_of nodes) (IsPlaced source tables nodes) ix w.walk.here in
    let x = rw o.here at (w.named_once n) in
    omega arith

pub moves_past_in : (source : List ℕ) (tables : Tables) (nodes : List (Node Item)) (ix : ℕ) (spine : List ℕ) (n : Named)
    → Stands source tables nodes (Some ix) spine → naming nodes n ix + named_left nodes (child_of nodes ix)
    (spine ++ ix ∷ []) n ≤ 1
unfolding left_total
moves_past_in source tables nodes ix spine n w =
    let o = opens (links_of nodes) (IsPlaced source tables nodes) ix w.walk.here in
    rw (climbed-snoc (λ ix. 0) (naming nodes n) (links_of nodes) spine ix)
    (let x = rw o.here at (w.named_once n) in omega arith)

-- into a node that reads as a Start, its children and an End
pub moves_in : (s : Setting) (tables : Tables) (nodes : List (Node Item)) (ix : ℕ) (spine : List ℕ) (tag : TagView)
    (origins : List Origin) → Stands s.text tables nodes (Some ix) spine
    → (tree_node_at s.text tables nodes ix).part.shape ≡ enclosed tag origins
    → Moves s tables nodes (Some ix) spine (child_of nodes ix) (spine ++ ix ∷ [])
    ((start tag, range_of (item_at nodes ix), origins) ∷ [])
unfolding left_of left_total
moves_in s tables nodes ix spine tag origins w h =
    let o = opens (links_of nodes) (IsPlaced s.text tables nodes) ix w.walk.here in
    let kept = rw o.here at w.here_kept in
    let two = some_weight (is_open (item_at nodes ix).body) in
    let c = closing-enclosed tables (slice_range s.text (item_at nodes ix).start (item_at nodes ix).end)
    (item_at nodes ix).body tag origins h in
    record {
      stands = record {
        walk = record {
          here = o.below;
          above = AllReach-snoc (links_of nodes) (IsPlaced s.text tables nodes) spine ix w.walk.above o.within
              o.after;
        };
        once = λ n. rw (climbed-snoc (same n) (same n) (links_of nodes) spine ix)
            (let x = rw o.here at (w.once n) in omega arith);
        named_once = λ n. rw (climbed-snoc (λ ix. 0) (naming nodes n) (links_of nodes) spine ix)
            (let x = rw o.here at (w.named_once n)
            in omega arith);
        here_kept = kept.1;
        above_kept = AboveKept-snoc s.text tables nodes spine ix w.above_kept (kept.2, tt);
        spine_lies = All-append (λ n. LiesIn s.text (item_at nodes n)) spine (ix ∷ []) w.spine_lies (o.holds.lies, tt);
      };
      left = λ state. rw (
        o.here,
        around-snoc s (no_blocks s.text) tables nodes spine ix nothing_read,
        inside_all-snoc nodes spine ix
            (no_blocks s.text),
        c,
        h,
      ) refl;
      falls = let waits = waits_once nodes (child_of nodes ix)
          in rw (o.here, climbed-snoc (λ ix. 1) (weight_at nodes) (links_of nodes) spine ix) (omega arith);
    }

-- into a node that reads as its children alone
pub moves_in_plain : (s : Setting) (tables : Tables) (nodes : List (Node Item)) (ix : ℕ) (spine : List ℕ)
    → Stands s.text tables nodes (Some ix) spine → (tree_node_at s.text tables nodes ix).part.shape ≡ plain
    → Moves s tables nodes (Some ix) spine (child_of nodes ix) (spine ++ ix ∷ []) []
unfolding left_of left_total
moves_in_plain s tables nodes ix spine w h =
    let o = opens (links_of nodes) (IsPlaced s.text tables nodes) ix w.walk.here in
    let kept = rw o.here at w.here_kept in
    let two = some_weight (is_open (item_at nodes ix).body) in
    let c = closing-plain tables (slice_range s.text (item_at nodes ix).start (item_at nodes ix).end)
    (item_at nodes ix).body h in
    record {
      stands = record {
        walk = record {
          here = o.below;
          above = AllReach-snoc (links_of nodes) (IsPlaced s.text tables nodes) spine ix w.walk.above o.within
              o.after;
        };
        once = λ n. rw (climbed-snoc (same n) (same n) (links_of nodes) spine ix)
            (let x = rw o.here at (w.once n) in omega arith);
        named_once = λ n. rw (climbed-snoc (λ ix. 0) (naming nodes n) (links_of nodes) spine ix)
            (let x = rw o.here at (w.named_once n)
            in omega arith);
        here_kept = kept.1;
        above_kept = AboveKept-snoc s.text tables nodes spine ix w.above_kept (kept.2, tt);
        spine_lies = All-append (λ n. LiesIn s.text (item_at nodes n)) spine (ix ∷ []) w.spine_lies (o.holds.lies, tt);
      };
      left = λ state. rw (
        o.here,
        around-snoc s (no_blocks s.text) tables nodes spine ix nothing_read,
        inside_all-snoc nodes spine ix
            (no_blocks s.text),
        c,
        h,
      ) refl;
      falls = let waits = waits_once nodes (child_of nodes ix)
          in rw (o.here, climbed-snoc (λ ix. 1) (weight_at nodes) (links_of nodes) spine ix) (omega arith);
    }

-- out of a node that ends like this
pub moves_out : (s : Setting) (tables : Tables) (nodes : List (Node Item)) (ix : ℕ) (spine : List ℕ)
    (given : List Placed) → Stands s.text tables nodes None (spine ++ ix ∷ [])
    → ((after : Reading) (state : ReferenceState) → ended (end_of_body (item_at nodes ix).body) (range_of
    (item_at nodes ix))
    after state
    ≡ events_first given (after state))
    → Moves s tables nodes None (spine ++ ix ∷ []) (sibling_of nodes ix) spine given
unfolding left_of left_total
moves_out s tables nodes ix spine given w h =
    record {
      stands = record {
        walk = record {
          here = (AllReach-last (links_of nodes) (IsPlaced s.text tables nodes) spine ix w.walk.above).1;
          above =
              AllReach-front (links_of nodes) (IsPlaced s.text tables nodes) spine ix w.walk.above;
        };
        once = λ n. let x = rw (climbed-snoc (same n) (same n) (links_of nodes) spine ix) at (w.once n) in omega arith;
        named_once = λ n. let x = rw (climbed-snoc (λ ix. 0) (naming nodes n) (links_of nodes) spine ix) at
            (w.named_once n) in omega arith;
        here_kept = (AboveKept-last s.text tables nodes spine ix w.above_kept).0;
        above_kept = AboveKept-front s.text tables nodes spine ix w.above_kept;
        spine_lies = All-front (λ n. LiesIn s.text (item_at nodes n)) spine ix w.spine_lies;
      };
      left = λ state. rw (
        forest_at-none (links_of nodes),
        around-snoc s (no_blocks s.text) tables nodes spine ix
            nothing_read,
      )
          (h (reading s no_notes (above_at s.text nodes spine) (trees_from s.text tables nodes (sibling_of nodes ix))
          (after_chain s (no_blocks s.text) tables nodes spine nothing_read)) state);
      falls = let waits = waits_once nodes (sibling_of nodes ix)
          in rw (forest_at-none (links_of nodes), climbed-snoc (λ ix. 1) (weight_at nodes) (links_of nodes) spine ix)
          (omega arith);
    }

-- at the end nothing is left
pub left_of-end : (s : Setting) (tables : Tables) (nodes : List (Node Item)) (state : ReferenceState)
    → left_of s tables nodes None [] state ≡ nothing_read state
unfolding left_of
left_of-end s tables nodes state = rw (forest_at-none (links_of nodes)) refl

-- with a node at the cursor there are steps to come
pub steps-some : (source : List ℕ) (tables : Tables) (nodes : List (Node Item)) (ix : ℕ) (spine : List ℕ)
    → Stands source tables nodes (Some ix) spine → 0 < steps_of nodes (Some ix) spine
unfolding left_total
steps-some source tables nodes ix spine w =
    let o = opens (links_of nodes) (IsPlaced source tables nodes) ix w.walk.here in
    let two = some_weight (is_open (item_at nodes ix).body) in
    rw o.here (omega arith)

pub steps-end : (nodes : List (Node Item)) → steps_of nodes None [] ≡ 0
unfolding left_total
steps-end nodes = rw (forest_at-none (links_of nodes)) (omega arith)

pub stands-end : (source : List ℕ) (tables : Tables) (nodes : List (Node Item)) → Stands source tables nodes None []
unfolding left_total
stands-end source tables nodes =
    let e = forest_at-none (links_of nodes) in
    record {
      walk = record { here = record { spelled = rw e refl; each = rw e tt }; above = tt };
      once = λ n. rw e (omega arith);
      named_once = λ n. rw e (omega arith);
      here_kept = rw e tt;
      above_kept = tt;
      spine_lies = tt;
    }
