-- What is above a chain: of the nodes that were entered, only the blocks contribute to a line's prefix, and of these
-- the containers.
use Rattle.std.proofs.Common.{◌≡◌, ℕ, Bool, true, false, List, [], ◌∷◌, ◌++◌, Option, Some, None, length, map, IsUtf8}
use Rattle.std.proofs.Common.{refl, sym, ap, ◌∙◌, append_assoc, append-nil}
use Rattle.std.specs.Prelude.{if◌then◌else◌}
use Rattle.std.specs.Str.{IsCharBoundary}
use Rattle.std.proofs.lemmas.Str.{IsCharBoundary-end}
use Rattle.markdown_base.specs.Arena.{Arena}
use Rattle.markdown_base.specs.BlockTree.{item_at}
use Rattle.markdown_base.specs.Item.{is_block, range_of, is_table_cell}
use Rattle.markdown_base.specs.declared.item.Item.{Item}
use Rattle.markdown_base.specs.declared.item.ItemBody.{ItemBody}
use Rattle.markdown_base.specs.declared.item.ItemBody.TheVariants as body
use Rattle.markdown_base.specs.declared.node.Node.{Node}
use Rattle.markdown_document.specs.EnclosingBlocks.{EnclosingBlocks, inside_block, inside_all, inside_item, no_blocks}
use Rattle.markdown_document.specs.EnclosingBlocks.{above_at}
use Rattle.markdown_document.specs.ResolverStates.{above_cursor}
use Rattle.markdown_builder.specs.Shown.{unnumbered}
use Rattle.markdown_document.specs.Document.{block_of}
use Rattle.markdown_document.specs.Setting.{Setting}
use Rattle.markdown_spans.specs.ContainerPrefix.{has_prefix, past_blocks, prefix_length}
use Rattle.markdown_spans.specs.ContainerParts.{past_part}
use Rattle.markdown_base.specs.Syntax.{gfm_footnotes}
use Rattle.markdown_spans.specs.Finds.{prefix_below}
use Rattle.markdown_spans.specs.PrefixView.{bodies_of, length_by}
use Rattle.markdown_spans.specs.declared.prefixes.ContainerPrefix.{ContainerPrefix}
use Rattle.markdown_spans.specs.LineStart.{LineLeft}
use Rattle.markdown_spans.proofs.ContainerPrefixLemmas.{takes_nothing}
use Rattle.markdown_resolver.specs.BlocksAbove.{Above, IsKnownAt, blocks_in, containers_in, place_inside}
use Rattle.markdown_resolver.specs.ChainPlace.{IsPlaceOf}
use Rattle.markdown_resolver.specs.Chains.{AreAbove}
use Rattle.markdown_document.specs.declared.chain_place.ChainPlace.{ChainPlace}

-- the bodies of the blocks among some nodes
pub with_block : Option ItemBody → List ItemBody → List ItemBody
with_block None others = others
with_block (Some block) others = block ∷ others

pub bodies_above : List (Node Item) → List ℕ → List ItemBody
bodies_above nodes [] = []
bodies_above nodes (ix ∷ deeper) = with_block (block_of (item_at nodes ix).body) (bodies_above nodes deeper)

-- these are what the nodes of a spine add
bodies_inside : (nodes : List (Node Item)) (spine : List ℕ) (above : EnclosingBlocks) →
    (inside_all nodes spine above).bodies
    ≡ above.bodies ++ bodies_above nodes spine
unfolding bodies_above with_block
bodies_inside nodes [] above = sym (append-nil above.bodies)
bodies_inside nodes (ix ∷ deeper) above =
    bodies_inside nodes deeper (inside_item (item_at nodes ix) above) ∙ added (block_of (item_at nodes ix).body)
  where
    added : (block : Option ItemBody) → (inside_block block (range_of (item_at nodes ix)) above).bodies ++ bodies_above
        nodes deeper ≡ above.bodies ++ with_block block (bodies_above nodes deeper)
    added None = refl
    added (Some block) = append_assoc above.bodies (block ∷ []) (bodies_above nodes deeper)

-- what is not a block has no part in a line
pub no_prefix : (gfm : Bool) (b : ItemBody) → is_block b ≡ false → has_prefix gfm b ≡ false
no_prefix gfm (body.BlockQuote kind) h = cc h
no_prefix gfm (body.ListItem indent) h = cc h
no_prefix gfm (body.DefinitionListDefinition indent) h = cc h
no_prefix gfm (body.FootnoteDefinition name) h = cc h
no_prefix gfm other h = refl

-- what a block takes of a line, and whether it is a cell, does not depend on the part that it refers to
same_taken : (gfm : Bool) (b : ItemBody) (line : LineLeft) → past_part gfm (unnumbered b) line ≡ past_part gfm b line
same_taken gfm (body.SynthesizeText ix) line = refl
same_taken gfm (body.FencedCodeBlock ix) line = refl
same_taken true (body.FootnoteDefinition ix) line = refl
same_taken false (body.FootnoteDefinition ix) line = refl
same_taken gfm (body.Heading level (Some ix)) line = refl
same_taken gfm (body.Table ix) line = refl
same_taken gfm other line = refl

same_cell : (b : ItemBody) → is_table_cell (unnumbered b) ≡ is_table_cell b
same_cell (body.SynthesizeText ix) = refl
same_cell (body.FencedCodeBlock ix) = refl
same_cell (body.FootnoteDefinition ix) = refl
same_cell (body.Heading level (Some ix)) = refl
same_cell (body.Table ix) = refl
same_cell other = refl

-- so all nodes of a spine take what the blocks among them take
same_left : (gfm : Bool) (nodes : List (Node Item)) (spine : List ℕ) (line : LineLeft)
    → past_blocks gfm (bodies_of (map (item_at nodes) spine)) line ≡ past_blocks gfm (bodies_above nodes spine) line
unfolding bodies_above with_block
same_left gfm nodes [] line = refl
same_left gfm nodes (ix ∷ deeper) line = by_block (is_block (item_at nodes ix).body) refl
    (λ after. same_left gfm nodes deeper after)
  where
    read : (found : Option LineLeft)
        → ((after : LineLeft) → past_blocks gfm (bodies_of (map (item_at nodes) deeper)) after
        ≡ past_blocks gfm (bodies_above nodes deeper) after) → elim found as (λ x. LineLeft)
        [ Some after ↦ past_blocks gfm (bodies_of (map (item_at nodes) deeper)) after | None ↦ line ]
        ≡ elim found as (λ x. LineLeft) [ Some after ↦ past_blocks gfm (bodies_above nodes deeper) after | None ↦ line ]
    read None later = refl
    read (Some after) later = later after

    by_block : (is : Bool) → is_block (item_at nodes ix).body ≡ is
        → ((after : LineLeft) → past_blocks gfm (bodies_of (map (item_at nodes) deeper)) after
        ≡ past_blocks gfm (bodies_above nodes deeper)
        after) → elim (past_part gfm (item_at nodes ix).body line) as (λ x. LineLeft)
        [ Some after ↦ past_blocks gfm (bodies_of (map (item_at nodes) deeper)) after | None ↦ line ]
        ≡ past_blocks gfm
        (with_block (if is then Some (unnumbered (item_at nodes ix).body) else None) (bodies_above nodes deeper)) line
    by_block true e later =
        read (past_part gfm (item_at nodes ix).body line) later
        ∙ sym (ap (λ (found : Option LineLeft). elim found as (λ x. LineLeft)
        [ Some after ↦ past_blocks gfm (bodies_above nodes deeper) after | None ↦ line ])
        (same_taken gfm (item_at nodes ix).body line))
    by_block false e later =
        rw (takes_nothing gfm (item_at nodes ix).body line (no_prefix gfm (item_at nodes ix).body e)) (later line)

-- and all items take what those with a part take
same_contained : (gfm : Bool) (items : List Item) (line : LineLeft)
    → past_blocks gfm (bodies_of (containers_in gfm items)) line ≡ past_blocks gfm (bodies_of items) line
same_contained gfm [] line = refl
same_contained gfm (item ∷ items) line =
    by_prefix (has_prefix gfm item.body) refl (λ after. same_contained gfm items after)
  where
    read : (found : Option LineLeft)
        → ((after : LineLeft) → past_blocks gfm (bodies_of (containers_in gfm items)) after
        ≡ past_blocks gfm (bodies_of items) after) → elim found as (λ x. LineLeft)
        [ Some after ↦ past_blocks gfm (bodies_of (containers_in gfm items)) after | None ↦ line ]
        ≡ elim found as (λ x. LineLeft) [ Some after ↦ past_blocks gfm (bodies_of items) after | None ↦ line ]
    read None later = refl
    read (Some after) later = later after

    by_prefix : (has : Bool) → has_prefix gfm item.body ≡ has
        → ((after : LineLeft) → past_blocks gfm (bodies_of (containers_in gfm items)) after
        ≡ past_blocks gfm (bodies_of items) after)
        → past_blocks gfm (bodies_of (containers_in gfm (item ∷ items))) line
        ≡ elim (past_part gfm item.body line) as (λ x. LineLeft)
        [ Some after ↦ past_blocks gfm (bodies_of items) after | None ↦ line ]
    by_prefix true e later = rw e (read (past_part gfm item.body line) later)
    by_prefix false e later = rw (e, takes_nothing gfm item.body line e) (later line)

-- the prefix that the containers of a spine give is that of all blocks above
contained_prefix : (gfm : Bool) (source : List ℕ) (nodes : List (Node Item)) (spine bytes : List ℕ)
    → prefix_length gfm (bodies_of (containers_in gfm (map (item_at nodes) spine))) bytes
    ≡ prefix_length gfm (above_at source nodes spine).bodies bytes
contained_prefix gfm source nodes spine bytes =
    let line : LineLeft = record { scanned = 0; owed = 0; column = 0; bytes = bytes } in
    ap (λ (left : LineLeft). left.scanned)
    (same_contained gfm (map (item_at nodes) spine) line ∙ same_left gfm nodes spine line)
    ∙ ap (λ (blocks : List ItemBody). prefix_length gfm blocks bytes)
    (sym (bodies_inside nodes spine (no_blocks source)))

-- the prefix that is read at a place is that of the blocks above
pub prefix_is : (prefix : ContainerPrefix) (place : ChainPlace) (tree : Arena Item) (s : Setting)
    → prefix.containers.now ≡ place.containers.now → prefix.gfm_footnotes ≡ gfm_footnotes place.syntax
    → gfm_footnotes s.rules.syntax ≡ gfm_footnotes place.syntax → s.text ≡ place.text.now
    → IsPlaceOf place tree → (bytes : List ℕ) → length_by prefix bytes ≡ prefix_below s (above_cursor s.text tree) bytes
unfolding length_by
prefix_is prefix place tree s containers gfm same text stands bytes =
    rw (containers, gfm, same, text) (stands.containers bytes)

-- the place inside one more item
step_inside : (item : Item) (rest : List Item) (above : EnclosingBlocks) (is : Bool) → is_block item.body ≡ is
    → place_inside rest ((inside_item item above).block_end, (inside_item item above).in_table)
    ≡ place_inside (if is_block item.body then item ∷ rest else rest) (above.block_end, above.in_table)
unfolding place_inside
step_inside item rest above true e =
    ap (λ (block : Bool). let inner = inside_block (if block then Some (unnumbered item.body) else None) (range_of item)
    above in place_inside rest (inner.block_end, inner.in_table)) e
    ∙ ap (λ (cell : Bool). place_inside rest (item.end, cell)) (same_cell item.body)
    ∙ sym (ap (λ (block : Bool). place_inside (if block then item ∷ rest else rest)
    (above.block_end, above.in_table)) e)
step_inside item rest above false e =
    ap (λ (block : Bool). let inner = inside_block (if block then Some (unnumbered item.body) else None) (range_of item)
    above in place_inside rest (inner.block_end, inner.in_table)) e
    ∙ sym (ap (λ (block : Bool). place_inside (if block then item ∷ rest else rest)
    (above.block_end, above.in_table)) e)

-- and inside the nodes of a spine
ends_inside : (nodes : List (Node Item)) (spine : List ℕ) (above : EnclosingBlocks)
    → ((inside_all nodes spine above).block_end, (inside_all nodes spine above).in_table)
    ≡ place_inside (blocks_in (map (item_at nodes) spine)) (above.block_end, above.in_table)
unfolding place_inside
ends_inside nodes [] above = refl
ends_inside nodes (ix ∷ deeper) above =
    ends_inside nodes deeper (inside_item (item_at nodes ix) above)
    ∙ step_inside (item_at nodes ix) (blocks_in (map (item_at nodes) deeper)) above
    (is_block (item_at nodes ix).body) refl

-- it ends between characters
boundary_inside : (source : List ℕ) (nodes : List (Node Item)) (l : Option ℕ) (spine : List ℕ)
    (above : EnclosingBlocks) → AreAbove source nodes l spine → IsCharBoundary source above.block_end
    → IsCharBoundary source (inside_all nodes spine above).block_end
boundary_inside source nodes l [] above are boundary = boundary
boundary_inside source nodes l (ix ∷ deeper) above are boundary =
    boundary_inside source nodes l deeper (inside_item (item_at nodes ix) above) are.1
    (inside (block_of (item_at nodes ix).body))
  where
    inside : (block : Option ItemBody)
        → IsCharBoundary source (inside_block block (range_of (item_at nodes ix)) above).block_end
    inside None = boundary
    inside (Some block) = are.0.lies.end

-- what is known of the nodes above is the place of the chain below them
pub place_stands : (place : ChainPlace) (tree : Arena Item) (first : Option ℕ) (above : Above)
    → AreAbove place.text.now tree.nodes first tree.spine
    → IsKnownAt (gfm_footnotes place.syntax) tree.nodes tree.spine above → IsUtf8 place.text.now
    → (place.block_end, place.in_table)
    ≡ place_inside (blocks_in (map (item_at tree.nodes) tree.spine)) (length place.text.now, false)
    → place.containers.now ≡ above.containers → IsPlaceOf place tree
place_stands place tree first above are known utf8 end containers =
    let source = place.text.now in
    let inside = end ∙ sym (ends_inside tree.nodes tree.spine (no_blocks source)) in
    let block_end : place.block_end ≡ (above_cursor source tree).block_end = ap (λ (p : ℕ × Bool). p.0) inside in
    record {
      block_end = block_end;
      in_table = ap (λ (p : ℕ × Bool). p.1) inside;
      containers = λ bytes.
          ap (λ (items : List Item). prefix_length (gfm_footnotes place.syntax) (bodies_of items) bytes)
          (containers ∙ known.containers)
          ∙ contained_prefix (gfm_footnotes place.syntax) source tree.nodes tree.spine bytes;
      boundary = rw block_end (boundary_inside source tree.nodes first tree.spine (no_blocks source) are
          (IsCharBoundary-end source));
      utf8 = utf8;
    }
