-- A walk at the start of a whole block result.
use Rattle.markdown_base.specs.declared.item.ItemBody.TheVariants as body
use Rattle.std.proofs.Common.{not, ◌≡◌, ◌≤◌, ℕ, ◌+◌, Bool, true, false, ◌||◌, List, [], ◌++◌, Option, Some, None}
use Rattle.std.proofs.Common.{Result, Ok, Err, refl, ap, ◌∙◌, arith}
use Rattle.std.specs.Prelude.{IfOk, if◌then◌else◌, IsTrue, nat_eq, is_some, slice_range}
use Rattle.std.proofs.Math.Path.{fun_ext}
use Rattle.markdown_base.specs.CowText.{text_of}
use Rattle.markdown_base.specs.declared.fault.Fault.{Fault}
use Rattle.markdown_base.specs.Source.{Source}
use Rattle.markdown_base.specs.declared.syntax.Syntax.{Syntax}
use Rattle.markdown_defs.specs.Allocations.{Allocated}
use Rattle.markdown_defs.specs.AllocationCalls.{HoldsParts}
use Rattle.markdown_defs.specs.Folding.{is_match}
use Rattle.markdown_defs.specs.Footnotes.{footnote_at}
use Rattle.markdown_defs.specs.FootnoteCounts.{unused}
use Rattle.markdown_document.proofs.FoundLemmas.{listed, listed-append, total-preorder, listed_once}
use Rattle.std.specs.List.{list_any, cons_option, filter_map}
use Rattle.std.proofs.lemmas.List.Elements.{filter_map-append}
use Rattle.std.proofs.lemmas.Map.Keys.{IsDistinct-tail}
use Rattle.markdown_base.specs.Arena.{Arena, child_of, sibling_of}
use Rattle.markdown_base.specs.ArenaForest.{links_of, Spells, numbers_below}
use Rattle.std.proofs.lemmas.Bool.{or_right}
use Rattle.markdown_document.specs.ItemRules.{ComesBefore}
use Rattle.markdown_base.specs.BlockTree.{Numbered, numbered, item_at, tree_of}
use Rattle.markdown_base.specs.Forest.{Forest, nil, node, Each, Throughout, preorder, first_root, relabelled}
use Rattle.markdown_base.specs.Item.{alignments_named, is_childless, is_inline, is_open, is_resolved, text_named}
use Rattle.markdown_base.specs.WellFormed.{InlineInOrder, PartCounts, KeepsRules, IsWellFormed, PartsAreNamed}
use Rattle.markdown_base.specs.WellFormed.{counts_of, all_named, has_open, all_inline}
use Rattle.markdown_base.specs.declared.block_parts.BlockParts.{BlockParts}
use Rattle.markdown_base.specs.declared.item.Item.{Item}
use Rattle.markdown_base.specs.declared.item.ItemBody.{ItemBody}
use Rattle.markdown_base.specs.declared.node.Node.{Node}
use Rattle.markdown_base.proofs.ForestLemmas.{Throughout-weaker, relabelled-Throughout, relabelled-relabelled}
use Rattle.markdown_base.specs.Questions.{Answers}
use Rattle.markdown_base.proofs.BoolLemmas.{and_first, and_second}
use Rattle.markdown_base.proofs.ArenaRulesLemmas.{first_spelled}
use Rattle.markdown_blocks.specs.Blocks.{IsBlocksOf, block_arena, block_parts, block_source, text_of_blocks}
use Rattle.markdown_blocks.specs.declared.blocks.Blocks.{Blocks}
use Rattle.markdown_inline.specs.ParserLeft.{elements, rules_of, reading_of, expansion_limit, ReadsBlocks, ReadsText}
use Rattle.markdown_inline.specs.ParserLeft.{findable_definitions, parser_callback, parser_definitions}
use Rattle.markdown_inline.specs.Walk.{left_of}
use Rattle.markdown_document.specs.Places.{tree_node_at, trees_from, origin_start}
use Rattle.markdown_document.specs.PlacedNodes.{IsPlaced, HasSlices}
use Rattle.markdown_document.specs.Document.{block_of, tree_node_of, document, shape_of}
use Rattle.markdown_document.specs.Setting.{Rules, by_label, rules_from, use_count, uses_of}
use Rattle.markdown_resolver.specs.Kept.{IsQuiet, IsQuietBelow}
use Rattle.markdown_resolver.specs.Unread.{IsUnmade, IsUnread, is_made}
use Rattle.markdown_resolver.specs.KeptChains.{IsKept}
use Rattle.markdown_document.specs.Totals.{total, same}
use Rattle.markdown_document.specs.NamedEntries.{same_as, naming, Named, some_text, some_link, some_alignments}
use Rattle.markdown_document.specs.NamedEntries.{link_named, NamesEntries}
use Rattle.markdown_inline.specs.WalkTotals.{left_total}
use Rattle.markdown_inline.specs.Standing.{Stands}
use Rattle.markdown_inline.specs.declared.walk.Parser.{Parser}
use Rattle.markdown_document.specs.Tables.{Tables, tables_of, tables_at_start}
use Rattle.markdown_document.proofs.PlaceLemmas.{named-past, open-unresolved}
use Rattle.markdown_inline.proofs.ParserLemmas.{elements-left}
use Rattle.markdown_inline.proofs.ReadingOfTextLemmas.{same_definitions, text-law}
use Rattle.markdown_inline.specs.ReadingOfText.{defined_by}

-- the texts that are referred to
listed-cons : (n : ℕ) (o : Option ℕ) (xs : List ℕ) → listed (same n) (cons_option o xs)
    ≡ same_as n o + listed (same n) xs
listed-cons n None xs = omega arith
listed-cons n (Some m) xs = refl

named-listed : (name : ItemBody → Option ℕ) (nodes : List (Node Item)) (n : ℕ) (f : Forest ℕ)
    → total (λ ix. same_as n (name (item_at nodes ix).body)) f
    ≡ listed (same n) (all_named name (relabelled (numbered nodes) f))
named-listed name nodes n nil = refl
named-listed name nodes n (node ix below after) =
    let of = λ (a : Numbered). name a.item.body in
    let b = filter_map of (preorder (relabelled (numbered nodes) below)) in
    let a = filter_map of (preorder (relabelled (numbered nodes) after)) in
    rw (
      listed-cons n (name (item_at nodes ix).body) (filter_map of (preorder (relabelled (numbered nodes) below)
          ++ preorder (relabelled (numbered nodes) after))),
      filter_map-append of (preorder (relabelled (numbered nodes) below))
          (preorder (relabelled (numbered nodes) after)),
    )
    (omega (arith, listed-append (same n) b a, named-listed name nodes n below, named-listed name nodes n after))

-- nothing is resolved, so no link is referred to
no_link : (b : ItemBody) → is_resolved b ≡ false → link_named b ≡ None
no_link (body.Link ix) r = cc r
no_link (body.Image ix) r = cc r
no_link other r = refl

-- nor is a link, code or math, whose text would have to be a slice
unresolved_slices : (source : List ℕ) (tables : Tables) (start end : ℕ) (b : ItemBody) → is_resolved b ≡ false
    → HasSlices source tables start end b
unresolved_slices source tables start end (body.Code ix) r = cc r
unresolved_slices source tables start end (body.Math ix display) r = cc r
unresolved_slices source tables start end (body.Link ix) r = cc r
unresolved_slices source tables start end (body.Image ix) r = cc r
unresolved_slices source tables start end other r = tt

entries_named : (parts : BlockParts) (b : ItemBody) → PartsAreNamed (counts_of parts) b → is_resolved b ≡ false
    → NamesEntries (tables_at_start parts) b
entries_named parts b p r = record
    { text = p.text; link = rw (no_link b r) tt; alignments = p.alignments; attributes = p.attributes }

-- no entry is referred to twice
starts_once : (source : List ℕ) (nodes : List (Node Item)) (parts : BlockParts) (n : Named)
    → IsWellFormed source nodes parts
    → Each (IsPlaced source (tables_at_start parts) nodes) (numbers_below nodes)
    → total (naming nodes n) (numbers_below nodes) ≤ 1
starts_once source nodes parts (some_text n) w placed =
    omega (
      arith,
      named-listed text_named nodes n (numbers_below nodes),
      listed_once n (all_named text_named (tree_of nodes))
          w.each_text_once,
    )
starts_once source nodes parts (some_link n) w placed =
    omega (
      arith,
      named-past source (tables_at_start parts) nodes (numbers_below nodes) (some_link n) placed
          (omega arith),
    )
starts_once source nodes parts (some_alignments n) w placed =
    omega (
      arith,
      named-listed alignments_named nodes n (numbers_below nodes),
      listed_once n (all_named alignments_named (tree_of nodes))
          w.each_alignments_once,
    )

no_child : (nodes : List (Node Item)) (l : Option ℕ) (f : Forest ℕ) → Spells (links_of nodes) l f
    → relabelled (numbered nodes) f ≡ nil
    → l ≡ None
no_child nodes l nil s h = s
no_child nodes l (node ix below after) s h = cc h

-- where nothing is resolved, what is no block is inline, and what is open has no children
inline_from : (inline resolved : Bool) → not (inline || resolved) ≡ false → resolved ≡ false → inline ≡ true
inline_from true resolved h r = refl
inline_from false true h r = cc r
inline_from false false h r = cc h

open_childless : (b : ItemBody) → is_open b ≡ true → is_childless b ≡ true
open_childless body.Paragraph h = cc h
open_childless other h = cc h

abbrev AllKept : List ℕ → PartCounts → Forest Numbered → Type 0
AllKept source counts trees = Throughout (λ a below after. KeepsRules source counts a below (first_root after)) trees

in_order_from : (source : List ℕ) (counts : PartCounts) (a : Numbered) (after : Forest Numbered)
    → is_resolved a.item.body ≡ false
    → AllKept source counts after → InlineInOrder a (first_root after)
    → ComesBefore a (first_root after)
in_order_from source counts a nil r w h = tt
in_order_from source counts a (node b below after) r w h = λ x y. h
    (inline_from (is_inline a.item.body) (is_resolved a.item.body) x r)
    (inline_from (is_inline b.item.body) (is_resolved b.item.body) y w.0.nothing_resolved)

-- the facts of each number are one
each_placed : (source : List ℕ) (counts : PartCounts) (tables : Tables) (nodes : List (Node Item)) (l : Option ℕ)
    (f : Forest ℕ) → Spells (links_of nodes) l f → AllKept source counts (relabelled (numbered nodes) f)
    → Each (λ ix. NamesEntries tables (item_at nodes ix).body) f → Each (IsPlaced source tables nodes) f
each_placed source counts tables nodes l nil s w named = tt
each_placed source counts tables nodes l (node ix below after) s w named =
    let k = w.0 in (
      record {
        lies = k.ranges_lie_in;
        named = named.0;
        slices = unresolved_slices source tables (origin_start source (item_at nodes ix).start) (item_at nodes ix).end
            (item_at nodes ix).body
            k.nothing_resolved;
        keeps = rw (first_spelled nodes (sibling_of nodes ix) after s.3) (record {
          in_order = in_order_from source counts (numbered nodes ix) (relabelled (numbered nodes) after)
              k.nothing_resolved w.2
              k.inline_in_order;
          markup_is_there = k.markup_is_there;
          runs_are_whole = k.runs_are_whole;
          childless = λ e. no_child nodes (child_of nodes ix) below s.2
              (k.chains_are_kept.childless (open_childless (item_at nodes ix).body e));
        });
      },
      each_placed source counts tables nodes (child_of nodes ix) below s.2 w.1 named.1,
      each_placed source counts tables nodes (sibling_of nodes ix) after s.3 w.2 named.2,
    )

-- what is below a chain of inline items is quiet: nothing is there
childless-inline : (body : ItemBody) → is_inline body ≡ true → is_childless body ≡ true
childless-inline body.Rule h = refl
childless-inline other h = h

nothing_below : (source : List ℕ) (tables : Tables) (nodes : List (Node Item)) (f : Forest ℕ)
    → relabelled (numbered nodes) f ≡ nil
    → IsQuiet (relabelled (tree_node_at source tables nodes) f)
nothing_below source tables nodes nil h = tt
nothing_below source tables nodes (node ix below after) h = cc h

-- an inline item is no block
inline_no_block : (b : ItemBody) → is_inline b ≡ true → is_some (block_of b) ≡ false
inline_no_block b h = rw h refl

-- inline items have no children
abbrev Childless : Forest Numbered → Type 0
Childless f = Throughout (λ a below after. IsTrue (is_childless a.item.body) → below ≡ nil) f

quiet_inline : (source : List ℕ) (tables : Tables) (nodes : List (Node Item)) (f : Forest ℕ)
    → Childless (relabelled (numbered nodes) f)
    → all_inline (relabelled (numbered nodes) f) ≡ true
    → IsQuietBelow (relabelled (tree_node_at source tables nodes) f)
quiet_inline source tables nodes nil c h = tt
quiet_inline source tables nodes (node ix below after) c h =
    let here = and_first (is_inline (item_at nodes ix).body) (all_inline (relabelled (numbered nodes) after)) h in (
      inline_no_block (item_at nodes ix).body here,
      nothing_below source tables nodes below (c.0 (childless-inline (item_at nodes ix).body here)),
      quiet_inline source tables nodes after c.2 (and_second (is_inline (item_at nodes ix).body)
          (all_inline (relabelled (numbered nodes) after)) h),
    )

-- nothing was made, so what has still to be read comes last
inline_unmade : (tables : Tables) (bytes : List ℕ) (b : ItemBody) → is_inline b ≡ true
    → is_made (shape_of tables bytes b) ≡ false
inline_unmade tables bytes (body.HardBreak true) h = refl
inline_unmade tables bytes (body.HardBreak false) h = refl
inline_unmade tables bytes (body.Code ix) h = cc h
inline_unmade tables bytes (body.Math ix display) h = cc h
inline_unmade tables bytes (body.Link ix) h = cc h
inline_unmade tables bytes (body.Image ix) h = cc h
inline_unmade tables bytes other h = refl

unmade_inline : (source : List ℕ) (tables : Tables) (nodes : List (Node Item)) (f : Forest ℕ)
    → all_inline (relabelled (numbered nodes) f) ≡ true → IsUnmade (relabelled (tree_node_at source tables nodes) f)
unmade_inline source tables nodes nil h = tt
unmade_inline source tables nodes (node ix below after) h =
    let item = item_at nodes ix in
    let rest = all_inline (relabelled (numbered nodes) after) in (
      inline_unmade tables (slice_range source item.start item.end) item.body (and_first (is_inline item.body) rest h),
      unmade_inline source tables nodes after (and_second (is_inline item.body) rest h),
    )

unread_inline : (source : List ℕ) (tables : Tables) (nodes : List (Node Item)) (f : Forest ℕ)
    → all_inline (relabelled (numbered nodes) f) ≡ true → IsUnread (relabelled (tree_node_at source tables nodes) f)
unread_inline source tables nodes nil h = tt
unread_inline source tables nodes (node ix below after) h =
    let item = item_at nodes ix in
    let later = and_second (is_inline item.body) (all_inline (relabelled (numbered nodes) after)) h in
    (λ read. unmade_inline source tables nodes after later, unread_inline source tables nodes after later)

abbrev InlineOnly : Forest Numbered → Type 0
InlineOnly f = Throughout (λ a below after. IsTrue (has_open below) → IsTrue (all_inline below)) f

kept_from : (source : List ℕ) (tables : Tables) (nodes : List (Node Item)) (f : Forest ℕ)
    → Childless (relabelled (numbered nodes) f)
    → InlineOnly (relabelled (numbered nodes) f)
    → (IsTrue (has_open (relabelled (numbered nodes) f)) → IsTrue (all_inline (relabelled (numbered nodes) f)))
    → IsKept (relabelled (tree_node_at source tables nodes) f)
kept_from source tables nodes nil c i h = tt
kept_from source tables nodes (node ix below after) c i h =
    let item = item_at nodes ix in (
      λ e. let o = open-unresolved tables (slice_range source item.start item.end) item.body e
          in let all = h (rw o refl)
          in (
            quiet_inline source tables nodes (node ix below after) c all,
            unread_inline source tables nodes
                (node ix below after) all,
          ),
      kept_from source tables nodes below c.1 i.1 i.0,
      kept_from source tables nodes after c.2 i.2
          (λ o. and_second (is_inline item.body) (all_inline (relabelled (numbered nodes) after))
          (h (or_right (is_open item.body) (has_open (relabelled (numbered nodes) after)) o))),
    )

-- the walk is before the first block
pub starts_stands : (source : List ℕ) (nodes : List (Node Item)) (parts : BlockParts) → IsWellFormed source nodes parts
    → Stands source (tables_at_start parts) nodes (child_of nodes 0) []
unfolding left_total
starts_stands source nodes parts w =
    let f = numbers_below nodes in
    let keeps = λ (a : Numbered) (below after : Forest Numbered). KeepsRules source (counts_of parts) a below
    (first_root after) in
    let tables = tables_at_start parts in
    let entries = relabelled-Throughout (numbered nodes) (λ n below after. NamesEntries tables n.item.body) f
    (Throughout-weaker keeps (λ n below after. NamesEntries tables n.item.body)
    (λ a below after k. entries_named parts a.item.body
    k.parts_are_named k.nothing_resolved) (tree_of nodes) w.rules) in
    let placed = each_placed source (counts_of parts) tables nodes (child_of nodes 0) f w.reached_once.finite w.rules
    entries in
    let childless : Childless (tree_of nodes) = Throughout-weaker keeps
    (λ a below after. IsTrue (is_childless a.item.body)
    → below ≡ nil) (λ a below after k. k.chains_are_kept.childless) (tree_of nodes) w.rules in
    let inline_only : InlineOnly (tree_of nodes) = Throughout-weaker keeps (λ a below after. IsTrue (has_open below)
    → IsTrue (all_inline below)) (λ a below after k. k.chains_are_kept.inline_only) (tree_of nodes) w.rules in
    record {
      walk = record { here = record { spelled = w.reached_once.finite; each = placed }; above = tt };
      once = λ n. let a = total-preorder (same n) f
          in let b = listed_once n (preorder f) (IsDistinct-tail nat_eq 0 (preorder f) w.reached_once.once) in omega
          arith;
      named_once = λ n. omega (arith, starts_once source nodes parts n w placed);
      here_kept = kept_from source tables nodes f childless inline_only (λ o. cc (o, w.top_is_closed));
      above_kept = tt;
      spine_lies = tt;
    }

some_if : {A : Type 0} (a : A) (b : Bool) → is_some (if b then Some a else None) ≡ b
some_if a true = refl
some_if a false = refl

-- the document's tree is that of the trees from the first block on
document-trees : (source : List ℕ) (tables : Tables) (nodes : List (Node Item))
    → document source tables nodes ≡ trees_from source tables nodes (child_of nodes 0)
document-trees source tables nodes = relabelled-relabelled (numbered nodes) (λ n. tree_node_of source tables n.item)
    (numbers_below nodes)

-- the tables are those of the block result
pub tables_held : (parts : BlockParts) (held : Allocated) → HoldsParts parts held → tables_of held
    ≡ tables_at_start parts
tables_held parts held h = rw (h.cows, h.links, h.alignments, h.headings) refl

-- what is held at first gives the rules of the block result
rules_held : (blocks : Blocks) (held : Allocated) (syntax : Syntax) (asks : Bool)
    → HoldsParts (block_parts blocks) held
    → syntax ≡ (block_source blocks).syntax → rules_from syntax held asks ≡ rules_of blocks asks
rules_held blocks held syntax asks h o =
    let is_name : List ℕ → Bool = λ name. list_any (λ n. is_match (text_of n) name) (block_parts blocks).footnotes.items
    in
    let is_held : List ℕ → Bool = λ name. is_some (footnote_at held.footdefs name) in
    let named : is_held ≡ is_name = fun_ext (λ name. ap is_some (h.footnotes name) ∙ some_if unused (is_name name)) in
    rw (o, h.definitions) (ap (λ (f : List ℕ → Bool). let r : Rules = record {
      syntax = (block_source blocks).syntax;
      definitions = by_label (findable_definitions blocks);
      is_footnote = f;
      asks = asks;
    } in r) named)

-- and no footnote was used
none_used : (named : Bool) → use_count (if named then Some unused else None) ≡ 0
none_used true = refl
none_used false = refl

uses_held : (blocks : Blocks) (held : Allocated) → HoldsParts (block_parts blocks) held → uses_of held.footdefs
    ≡ (λ name. 0)
uses_held blocks held h =
    let none : List ℕ → ℕ = λ name. 0 in
    let same : uses_of held.footdefs ≡ none = fun_ext (λ name. ap use_count (h.footnotes name)
    ∙ none_used (list_any (λ n. is_match (text_of n) name) (block_parts blocks).footnotes.items)) in
    same

-- at the start what is left is the whole reading
pub starts_left : {F : Type 0} (blocks : Blocks) (p : Parser F) (answers : Answers) → p.resolver.text.now
    ≡ text_of_blocks blocks
    → p.resolver.syntax ≡ (block_source blocks).syntax → HoldsParts (block_parts blocks) p.resolver.lookup.tables
    → (tree : Arena Item) → tree ≡ block_arena blocks → p.tree
    ≡ record tree { spine = []; cursor = child_of tree.nodes 0 }
    → p.resolver.lookup.limit ≡ expansion_limit (text_of_blocks blocks)
    → elements p answers ≡ reading_of blocks (is_some p.resolver.lookup.callback) answers
unfolding left_of
starts_left blocks p answers text syntax held tree same reset limit =
    elements-left p answers
    ∙ rw (
      reset,
      same,
      text,
      tables_held (block_parts blocks) p.resolver.lookup.tables held,
      limit,
      uses_held blocks p.resolver.lookup.tables held,
      rules_held blocks p.resolver.lookup.tables p.resolver.syntax (is_some p.resolver.lookup.callback) held syntax,
      ← document-trees
          (text_of_blocks blocks) (tables_at_start (block_parts blocks)) (block_arena blocks).nodes,
    ) refl

-- a parser of a block result of a source reads the source
pub of_some_text : {F : Type 0} (s : Source) (blocks : Blocks) (made : Result (Parser F) Fault) → IsBlocksOf s blocks
    → IfOk made (ReadsBlocks blocks) → IfOk made (λ p. parser_definitions p ≡ findable_definitions blocks)
    → IfOk made (ReadsText s)
of_some_text s blocks (Ok p) of left found = record {
  left = λ answers. left answers ∙ text-law s blocks of (is_some (parser_callback p)) answers;
  definitions = ap by_label found
      ∙ (same_definitions (block_parts blocks).definitions.items ∙ ap defined_by of.by_rules.definitions);
  blocks = blocks;
  of_text = of;
  of_blocks = left;
}
of_some_text s blocks (Err fault) of left found = tt
