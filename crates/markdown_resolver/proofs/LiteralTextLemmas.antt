-- One item of a chain at which nothing is found becomes literal text, in one node of an arena.
use Rattle.markdown_base.specs.declared.item.ItemBody.TheVariants as body
use Rattle.std.proofs.Common.{◌≡◌, ℕ, zero, suc, ◌<◌, ◌≤◌, Bool, true, false, List, [], ◌∷◌, length, Option, Some, None}
use Rattle.std.proofs.Common.{refl, sym, ap, ◌∙◌, arith}
use Rattle.std.specs.Prelude.{not, ◌&&◌, slice_range, IfSome}
use Rattle.std.specs.Option.{option_map}
use Rattle.markdown_base.specs.Arena.{Arena, child_of, sibling_of}
use Rattle.markdown_base.specs.ArenaChanges.{changed_at}
use Rattle.markdown_base.specs.ArenaForest.{forest_at, links_of}
use Rattle.markdown_base.specs.ArenaRules.{next_at}
use Rattle.markdown_base.specs.BlockTree.{Numbered, numbered, item_at}
use Rattle.markdown_base.specs.Forest.{Forest, nil, node, roots}
use Rattle.markdown_base.specs.Item.{is_block, is_open}
use Rattle.markdown_base.specs.WellFormed.{RunCharacter, run_character, RunGoesOn, StandsInRun}
use Rattle.markdown_base.specs.declared.item.Item.{Item}
use Rattle.markdown_base.specs.declared.item.ItemBody.{ItemBody}
use Rattle.markdown_base.specs.declared.node.Node.{Node}
use Rattle.markdown_base.proofs.ArenaForestLemmas.{opens, forest_at-none}
use Rattle.markdown_base.proofs.ArenaLemmas.{length-changed_at}
use Rattle.markdown_document.specs.ChainRest.{joined_chains}
use Rattle.markdown_document.specs.Document.{Plain, shape_of, tree_node_of}
use Rattle.markdown_document.specs.ItemRules.{ComesBefore, KeepsItemRules}
use Rattle.markdown_document.specs.Places.{trees_from, origin_start}
use Rattle.markdown_document.specs.PlacedNodes.{HasSlices, IsPlaced}
use Rattle.markdown_document.specs.Tables.{Tables}
use Rattle.markdown_document.specs.NamedEntries.{Named, some_text, NamesEntries, times_named}
use Rattle.markdown_document.specs.Totals.{same, weight_if}
use Rattle.markdown_document.specs.Waiting.{waits_for_pairing, is_quiet}
use Rattle.markdown_document.proofs.AboveLemmas.{block-open, open-no-block}
use Rattle.markdown_document.proofs.ItemRulesLemmas.{keeps-closed}
use Rattle.markdown_document.proofs.PlaceLemmas.{shape-open, some_weight}
use Rattle.markdown_document.proofs.TablesLemmas.{grown-nothing}
use Rattle.markdown_delims.proofs.PairingLemmas.{closed_shape}
use Rattle.markdown_resolver.specs.Chains.{CanResolve}
use Rattle.markdown_resolver.specs.Rewritten.{Puts, Rewrites, replaced, text_unless, literal}
use Rattle.markdown_resolver.specs.LiteralText.{becomes_text, literal_if, literal_item, literal_at}
use Rattle.markdown_resolver.proofs.PassOneQuietLemmas.{closed_quiet}
use Rattle.markdown_resolver.proofs.ChainOrderLemmas.{leads_kept}
use Rattle.markdown_resolver.proofs.ComposeLemmas.{Stands, stands_ready, changes_move, moves_none, HeadWritten}
use Rattle.markdown_resolver.proofs.ComposeLemmas.{head_moves, after_head, below_kept, following_kept}
use Rattle.markdown_resolver.proofs.NodeChangeLemmas.{changed_other, changed_here, item_again}
use Rattle.markdown_resolver.proofs.PastByteLemmas.{tree_same}
use Rattle.markdown_resolver.proofs.PutLemmas.{rest_same, leaves_rest, whole_put, rewrites_none, over_numbers}

-- an item that is written as a Text where it becomes one becomes literal text, and another is kept as it is
pub settled_open : (tree tree' : Arena Item) (ix : ℕ) (item : Item) → item ≡ item_at tree.nodes ix
    → becomes_text item.body ≡ true → tree' ≡ record tree {
      nodes = changed_at ix
          (λ n. record n { item = record { start = item.start; end = item.end; body = body.Text false } }) tree.nodes;
    } → tree' ≡ record tree { nodes = literal_at ix tree.nodes }
settled_open tree tree' ix item same is made =
    let text : Item = record { start = item.start; end = item.end; body = body.Text false } in
    let e : text ≡ literal_item item = ap (λ x. let t : Item = record item { body = literal_if x item.body } in t)
    (sym is) in
    made ∙ ap (λ (x : Item). let t : Arena Item = record tree
    { nodes = changed_at ix (λ n. record n { item = x }) tree.nodes } in t) (e ∙ ap literal_item same)

pub settled_closed : (tree : Arena Item) (ix : ℕ) → becomes_text (item_at tree.nodes ix).body ≡ false
    → tree ≡ record tree { nodes = literal_at ix tree.nodes }
settled_closed tree ix is =
    let item = item_at tree.nodes ix in
    let e : item ≡ literal_item item = ap (λ x. let t : Item = record item { body = literal_if x item.body } in t)
    (sym is) in
    ap (λ (nodes : List (Node Item)). let t : Arena Item = record tree { nodes = nodes } in t)
    (sym (item_again tree.nodes ix)) ∙ ap (λ (x : Item). let t : Arena Item = record tree
    { nodes = changed_at ix (λ n. record n { item = x }) tree.nodes } in t) e

-- what a literal item refers to, and its weight
pub names_nothing : (n : Named) → times_named n (body.Text false) ≡ 0
names_nothing (some_text n) = refl
names_nothing other = refl

named_settled : (is : Bool) (b : ItemBody) (n : Named) → times_named n (literal_if is b) ≤ times_named n b
named_settled true b n = omega (arith, names_nothing n)
named_settled false b n = omega arith

in_table_settled : (is : Bool) (b : ItemBody) (tables : Tables) → NamesEntries tables b
    → NamesEntries tables (literal_if is b)
in_table_settled true b tables h = record { text = tt; link = tt; alignments = tt; attributes = tt }
in_table_settled false b tables h = h

slices_settled : (source : List ℕ) (is : Bool) (start end : ℕ) (b : ItemBody) (tables : Tables)
    → HasSlices source tables start end b → HasSlices source tables start end (literal_if is b)
slices_settled source true start end b tables h = tt
slices_settled source false start end b tables h = h

weight_settled : (is : Bool) (b : ItemBody) → weight_if (is_open (literal_if is b)) ≤ weight_if (is_open b)
weight_settled true b = some_weight (is_open b)
weight_settled false b = omega arith

-- what becomes a Text is open, and is not a run's character
text_open : (b : ItemBody) → becomes_text b ≡ true → is_open b ≡ true
text_open b h = by_open (is_open b) (waits_for_pairing b) h
  where
    by_open : (is waits : Bool) → (is && not waits) ≡ true → is ≡ true
    by_open true waits h = refl
    by_open false waits h = cc h

text_no_run : (b : ItemBody) → becomes_text b ≡ true → run_character b ≡ None
text_no_run (body.MaybeEmphasis n opens closes) h = cc h
text_no_run other h = refl

quiet_shape : (tables : Tables) (source : List ℕ) (b : ItemBody) → is_quiet (shape_of tables source b)
    ≡ not (becomes_text b)
quiet_shape tables source b = by_open (is_open b) refl
  where
    not_twice : (x : Bool) → x ≡ not (not x)
    not_twice true = refl
    not_twice false = refl

    by_open : (is : Bool) → is_open b ≡ is → is_quiet (shape_of tables source b) ≡ not (is && not (waits_for_pairing b))
    by_open true e = rw (shape-open tables source b e) (not_twice (waits_for_pairing b))
    by_open false e = closed_quiet (shape_of tables source b) (closed_shape tables source b e)

-- it reads as what replaces the node of what it was, where nothing is below what becomes a Text
reads_settled : (source : List ℕ) (tables : Tables) (item : Item) (below rest : Forest Plain) (is : Bool)
    → becomes_text item.body ≡ is → (is_open item.body ≡ true → below ≡ nil)
    → node (tree_node_of source tables (record item { body = literal_if is item.body })) below rest
    ≡ joined_chains (text_unless (not is) source (tree_node_of source tables item) below) rest
reads_settled source tables item below rest true e childless = rw (
  block-open item.body (text_open item.body e),
  childless (text_open item.body e),
) refl
reads_settled source tables item below rest false e childless = refl

literal_reads : (source : List ℕ) (tables : Tables) (item : Item) (below rest : Forest Plain)
    → (is_open item.body ≡ true → below ≡ nil) → node (tree_node_of source tables (literal_item item)) below rest
    ≡ joined_chains (literal source (tree_node_of source tables item) below) rest
literal_reads source tables item below rest childless =
    reads_settled source tables item below rest (becomes_text item.body) refl childless
    ∙ ap (λ quiet. joined_chains (text_unless quiet source (tree_node_of source tables item) below) rest)
    (sym (quiet_shape tables (slice_range source item.start item.end) item.body))

-- the node is there
pub node_within : {source : List ℕ} {tables : Tables} {nodes : List (Node Item)} {ix : ℕ}
    → CanResolve source tables nodes (Some ix) → ix < length nodes
node_within {source} {tables} {nodes} {ix} ready
    = (opens (links_of nodes) (IsPlaced source tables nodes) ix ready.reaches).within

-- what a literal item precedes and follows, and the rules that it keeps
block_settled : (is : Bool) (b : ItemBody) → becomes_text b ≡ is → is_block (literal_if is b) ≡ false → is_block b
    ≡ false
block_settled true b e h = open-no-block b (text_open b e)
block_settled false b e h = h

before_settled : (a : Numbered) (nodes nodes' : List (Node Item)) (ix : ℕ) → item_at nodes' ix
    ≡ literal_item (item_at nodes ix)
    → ComesBefore a (Some (numbered nodes ix)) → ComesBefore a (Some (numbered nodes' ix))
before_settled a nodes nodes' ix e stands = rw e (λ x y.
    let p = stands x (block_settled (becomes_text (item_at nodes ix).body) (item_at nodes ix).body refl y) in
    record { ends = p.ends; numbers = p.numbers })

follows_settled : (ix : ℕ) (item : Item) (next : Option Numbered) → becomes_text item.body ≡ true
    → ComesBefore (record { number = ix; item = item }) next
    → ComesBefore (record { number = ix; item = record item { body = body.Text false } }) next
follows_settled ix item None e stands = tt
follows_settled ix item (Some b) e stands = λ x y.
    let p = stands (open-no-block item.body (text_open item.body e)) y in
    record { ends = p.ends; numbers = p.numbers }

keeps_settled : (source : List ℕ) (ix : ℕ) (item : Item) (child : Option ℕ) (next : Option Numbered) (is : Bool)
    → becomes_text item.body ≡ is → KeepsItemRules source (record { number = ix; item = item }) child next
    → KeepsItemRules source (record { number = ix; item = record item { body = literal_if is item.body } }) child next
keeps_settled source ix item child next true e h =
    keeps-closed source (record { number = ix; item = record item { body = body.Text false } }) child next refl
    (follows_settled ix item next e h.in_order)
keeps_settled source ix item child next false e h = h

-- a run that an item continues still does where that item becomes literal text, which changes no run's character
goes_on_settled : (source : List ℕ) (a b : Numbered) (count : ℕ) (opens closes is : Bool) → becomes_text b.item.body
    ≡ is → RunGoesOn source a count opens closes (Some b) → RunGoesOn source a count opens closes
    (Some (record { number = b.number; item = record b.item { body = literal_if is b.item.body } }))
goes_on_settled source a b zero opens closes is e h = h
goes_on_settled source a b (suc zero) opens closes true e h = tt
goes_on_settled source a b (suc (suc n)) opens closes true e h = let none = text_no_run b.item.body e in cc
    (none, h.body)
goes_on_settled source a b (suc zero) opens closes false e h = h
goes_on_settled source a b (suc (suc n)) opens closes false e h = h

run_settled : (source : List ℕ) (a b : Numbered) (o : Option RunCharacter) → IfSome o (StandsInRun source a (Some b))
    → IfSome o (StandsInRun source a (Some (record { number = b.number; item = literal_item b.item })))
run_settled source a b None h = h
run_settled source a b (Some c) h = record {
  one_byte = h.one_byte;
  delimiter = h.delimiter;
  goes_on = goes_on_settled source a b c.count c.can_open c.can_close (becomes_text b.item.body) refl h.goes_on;
}

-- the node of an item is written
head_settled : (source : List ℕ) (tables : Tables) (nodes : List (Node Item)) (ix : ℕ)
    → Stands source tables nodes (Some ix) → HeadWritten source ix nodes (literal_at ix nodes) tables tables
head_settled source tables nodes ix s =
    let o = opens (links_of nodes) (IsPlaced source tables nodes) ix s.reaches in
    let item = item_at nodes ix in
    let c = changed_here nodes ix (λ n. record n { item = literal_item item }) o.within in
    let lies = o.holds.lies in
    let size = length-changed_at ix (λ n. record n { item = literal_item item }) nodes in
    let keeps = keeps_settled source ix item (child_of nodes ix) (next_at nodes ix) (becomes_text item.body) refl
    o.holds.keeps in
    record {
      others = λ n l d. changed_other nodes ix (λ n. record n { item = literal_item item }) n d;
      more = omega (arith, size);
      grown = grown-nothing tables;
      lies = rw c.item (record { ordered = lies.ordered; start = lies.start; end = lies.end });
      slices = rw c.item (slices_settled source (becomes_text item.body) (origin_start source item.start) item.end
          item.body tables o.holds.slices);
      entries = rw c.item (in_table_settled (becomes_text item.body) item.body tables o.holds.named);
      markup = rw c.item keeps.markup_is_there;
      childless = rw (c.item, c.child) keeps.childless;
      named = λ n l. rw c.item (named_settled (becomes_text item.body) item.body n);
    }

-- one tree replaces it
one_settled : (quiet : Bool) (source : List ℕ) (a : Plain) (below : Forest Plain)
    → length (roots (text_unless quiet source a below)) ≡ 1
one_settled true source a below = refl
one_settled false source a below = refl

-- what replaces it is put in place
pub settle_puts : {source : List ℕ} {tables : Tables} {nodes : List (Node Item)} {ix : ℕ}
    → CanResolve source tables nodes (Some ix)
    → Puts source ix (literal source) None (record { next = sibling_of nodes ix; passed = 0 }) nodes
    (literal_at ix nodes) tables tables
settle_puts {source} {tables} {nodes} {ix} ready =
    let s = stands_ready ready in
    let item = item_at nodes ix in
    let mid = literal_at ix nodes in
    let o = opens (links_of nodes) (IsPlaced source tables nodes) ix s.reaches in
    let c = changed_here nodes ix (λ n. record n { item = literal_item item }) o.within in
    let h = head_settled source tables nodes ix s in
    let a = after_head s h in
    let keeps = keeps_settled source ix item (child_of nodes ix) (next_at nodes ix) (becomes_text item.body) refl
    o.holds.keeps in
    let following = following_kept source ix nodes mid tables tables s h in
    let l = sibling_of nodes ix in
    let whole : (rule : Forest Plain → Forest Plain) (new : List (Node Item)) (later : Tables)
    → Rewrites source rule l mid new tables later
    → Rewrites source (replaced (literal source) None rule) (Some ix) nodes new tables later = λ rule new later r.
    let m = changes_move r.changes in
    let kept = below_kept l s h m c.child (rw c.item (weight_settled (becomes_text item.body) item.body)) in
    let follows : ComesBefore (numbered mid ix) (option_map (numbered new) l) = r.changes.before (numbered mid ix)
    (rw (following, c.item) keeps.in_order) in
    let goes_on = r.runs (numbered mid ix) (rw (following, c.item) keeps.runs_are_whole) in
    let hm = head_moves source ix nodes mid new tables tables later s h (rw c.next m) kept.below (rw c.next follows)
    (rw c.next goes_on) in
    let none : is_open item.body ≡ true → trees_from source tables nodes (child_of nodes ix)
    ≡ nil = λ e. rw (o.holds.keeps.childless e, forest_at-none (links_of nodes)) refl in
    let rest : trees_from source later new (sibling_of mid ix) ≡ rule (trees_from source tables nodes l) =
    ap (λ (k : Option ℕ). trees_from source later new k) c.next ∙ r.rewritten ∙ ap rule a.rest.trees in
    whole_put source ix nodes mid new tables tables later (literal source) None rule ready h hm
    (λ b stands. before_settled b nodes mid ix c.item stands)
    (λ b whole. rw c.item (run_settled source b (numbered nodes ix) (run_character b.item.body) whole))
    (tree_same (ap (λ x. tree_node_of source tables x) c.item) kept.trees rest
    ∙ literal_reads source tables item (trees_from source tables nodes (child_of nodes ix))
    (rule (trees_from source tables nodes l)) none) in
    let all = whole (λ f. f) mid tables (rewrites_none a.stands) in
    record {
      whole = whole;
      leaves = leaves_rest source ix nodes mid mid tables tables tables l None ready h
          (moves_none a.stands) a.rest.trees;
      passes = rw (o.here, a.rest.forest) (omega arith);
      leads = λ low chain k. leads_kept nodes mid l (forest_at (links_of nodes) l) low chain a.after.spelled h.more
          (rest_same s h) k;
      standing = ix ∷ [];
      numbers = over_numbers source ix l mid tables all.changes.reaches c.next;
      as_many = λ x below. one_settled (is_quiet x.part.shape) source x below;
    }
