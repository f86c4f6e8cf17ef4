-- What was put for an item of a chain is what pass one reads of it, and is quiet.
use Rattle.std.proofs.Common.{◌≡◌, ℕ, Bool, true, false, List, Option, Some, None, refl, sym, ap, ◌∙◌, subst}
use Rattle.std.specs.Prelude.{is_some, slice_range}
use Rattle.markdown_base.specs.Arena.{child_of, sibling_of}
use Rattle.markdown_base.specs.BlockTree.{item_at}
use Rattle.markdown_base.specs.Forest.{Forest, node}
use Rattle.markdown_base.specs.Item.{is_open}
use Rattle.markdown_base.specs.declared.item.Item.{Item}
use Rattle.markdown_base.specs.declared.item.ItemBody.{ItemBody}
use Rattle.markdown_base.specs.declared.node.Node.{Node}
use Rattle.markdown_document.specs.EnclosingBlocks.{EnclosingBlocks}
use Rattle.markdown_document.specs.ChainRest.{open_body, past}
use Rattle.markdown_document.specs.Document.{Plain, no_notes, unresolved}
use Rattle.markdown_document.specs.Places.{trees_from, tree_node_at}
use Rattle.markdown_document.specs.Setting.{Setting}
use Rattle.markdown_document.specs.Tables.{Tables}
use Rattle.markdown_document.specs.Waiting.{is_quiet, waits_for_pairing}
use Rattle.markdown_document.proofs.PlaceLemmas.{shape-open}
use Rattle.markdown_spans.specs.AfterLess.{Markup, autolink, html_markup}
use Rattle.markdown_spans.specs.Finds.{Find, SpanText, code_span, code_trees, find, find_by, is_escaped, markup}
use Rattle.markdown_spans.specs.Finds.{markup_trees, math_span, nothing, passed, read_tree, read_unless, trees_for}
use Rattle.markdown_spans.specs.SpanClosers.{HoldsFrom, Learned}
use Rattle.markdown_spans.specs.declared.span_text.SpanKind.{SpanKind}
use Rattle.markdown_spans.proofs.ChainWalkLemmas.{chain_at}
use Rattle.markdown_resolver.specs.declared.continuation.Continuation.{Continuation}
use Rattle.markdown_resolver.specs.Chains.{CanResolve}
use Rattle.markdown_resolver.specs.Kept.{IsQuiet, IsQuietBelow}
use Rattle.markdown_resolver.specs.PutsTrees.{PutsTrees}
use Rattle.markdown_resolver.specs.ReadsItem.{ReadsItem, read_at}
use Rattle.markdown_resolver.specs.Rewritten.{Puts, Standing}
use Rattle.markdown_resolver.proofs.ChainLeadsLemmas.{chain_leads, holds_past}
use Rattle.markdown_resolver.proofs.FollowersLemmas.{opens_chain}
use Rattle.markdown_resolver.proofs.PutsTreesLemmas.{put_trees}

-- trees are put in place of an item as pass one defines them
pub record ReadsAs (s : Setting) (above : EnclosingBlocks) (tables : Tables) (nodes : List (Node Item)) (ix : ℕ)
    (trees : Standing) (goes_on : Option ℕ) : Type 0 where
  pub standing : (read_at s above tables nodes ix).trees ≡ trees (tree_node_at s.text tables nodes ix)
      (trees_from s.text tables nodes (child_of nodes ix))
  pub ends : (read_at s above tables nodes ix).goes_on ≡ goes_on

-- what replaces what is found is quiet
quiet_code : (s : Setting) (escaped : Bool) (a : Plain) (t : SpanText) (closer : Plain)
    → IsQuiet (code_trees s escaped a t closer)
quiet_code s false a t closer = (refl, refl, tt, tt)
quiet_code s true a t closer = (refl, refl, tt, (refl, refl, tt, tt))

quiet_markup : (s : Setting) (a : Plain) (m : Markup) → IsQuiet (markup_trees s tt a m)
quiet_markup s a (autolink kind end bytes) = (refl, refl, (refl, refl, tt, tt), tt)
quiet_markup s a (html_markup end None) = (refl, refl, tt, tt)
quiet_markup s a (html_markup end (Some bytes)) = (refl, refl, tt, tt)

quiet_found : (s : Setting) (a : Plain) (f : Find (Unit {0})) → is_some a.part.block ≡ false
    → IsQuiet (trees_for s tt a f)
quiet_found s a (code_span t closer) plain = quiet_code s (is_escaped (open_body a.part.shape)) a t closer
quiet_found s a (math_span display t end) plain = (refl, refl, tt, tt)
quiet_found s a (markup m) plain = quiet_markup s a m
quiet_found s a nothing plain = (refl, plain, tt, tt)

-- so is what is read of a tree, where what is below it is
pub quiet_read : (s : Setting) (above : EnclosingBlocks) (a : Plain) (below after : Forest Plain)
    → IsQuietBelow (node a below after) → IsQuiet (read_tree s no_notes above 0 a below after).trees
unfolding read_tree
quiet_read s above a below after quiet = by_quiet (is_quiet a.part.shape) refl
  where
    by_quiet : (is : Bool) → is_quiet a.part.shape ≡ is
        → IsQuiet (read_unless is s no_notes above 0 a below after).trees
    by_quiet true e = (e, quiet.0, quiet.1, tt)
    by_quiet false e = quiet_found s a (find s above a after) quiet.0

-- what searches have learned of what follows an item is true of what is left
pub holds_put : {source : List ℕ} {ix : ℕ} {trees : Standing} {goes_on : Option ℕ} {rest : Continuation}
    {old new : List (Node Item)} {tables tables' : Tables} (kind : SpanKind) (learned : Learned)
    → CanResolve source tables old (Some ix) → Puts source ix trees goes_on rest old new tables tables'
    → HoldsFrom kind learned old (sibling_of old ix) → HoldsFrom kind learned new rest.next
holds_put {source} {ix} {trees} {goes_on} {rest} {old} {new} {tables} kind learned ready puts =
    holds_past kind learned old new ix goes_on rest.next (chain_at old ix (chain_leads ready)).later puts.leads

-- so the item is read
pub reads_item : {s : Setting} {above : EnclosingBlocks} {ix : ℕ} {trees : Standing} {goes_on : Option ℕ} {rest :
    Continuation}
    {old new : List (Node Item)} {tables tables' : Tables}
    → CanResolve s.text tables old (Some ix) → ReadsAs s above tables old ix trees goes_on
    → Puts s.text ix trees goes_on rest old new tables tables' → ReadsItem s above ix rest old new tables tables'
reads_item {s} {above} {ix} {trees} {goes_on} {rest} {old} {new} {tables} {tables'} ready reads puts =
    let o = opens_chain ready in
    let a = tree_node_at s.text tables old ix in
    let below = trees_from s.text tables old (child_of old ix) in
    let after = trees_from s.text tables old (sibling_of old ix) in
    let quiet : IsQuiet (read_at s above tables old ix).trees = quiet_read s above a below after
    (rw o.trees at ready.quiet_below) in
    let p = put_trees ready puts (subst (λ (f : Forest Plain). IsQuiet f) reads.standing quiet) in
    let q = subst (λ (f : Forest Plain). PutsTrees s.text ix rest.next f (past goes_on after) old new tables tables')
    (sym reads.standing) p in
    record {
      puts = subst (λ (goes_on : Option ℕ). PutsTrees s.text ix rest.next (read_at s above tables old ix).trees
          (past goes_on after) old new tables tables') (sym reads.ends) q;
      leaves = puts.leaves;
      passes = puts.passes;
      holds = λ kind learned. holds_put kind learned ready puts;
    }

-- the shape of an open item
pub opener_shape : (s : Setting) (tables : Tables) (nodes : List (Node Item)) (ix : ℕ) (b : ItemBody)
    → (item_at nodes ix).body ≡ b → is_open b ≡ true → (tree_node_at s.text tables nodes ix).part.shape ≡ unresolved b
opener_shape s tables nodes ix b is opens =
    let item = item_at nodes ix in
    shape-open tables (slice_range s.text item.start item.end) item.body (ap is_open is ∙ opens) ∙ ap unresolved is

-- what is read of an item that is open and does not wait for pairing is what is found at it
pub read_opener : (s : Setting) (above : EnclosingBlocks) (tables : Tables) (nodes : List (Node Item)) (ix : ℕ)
    (b : ItemBody) → (item_at nodes ix).body ≡ b → is_open b ≡ true → waits_for_pairing b ≡ false
    → read_at s above tables nodes ix ≡ passed s no_notes 0 (tree_node_at s.text tables nodes ix)
    (find_by s above b (tree_node_at s.text tables nodes ix) (trees_from s.text tables nodes (sibling_of nodes ix)))
unfolding read_tree
read_opener s above tables nodes ix b is opens waits = rw (opener_shape s tables nodes ix b is opens, waits) refl

pub opener_unquiet : (s : Setting) (tables : Tables) (nodes : List (Node Item)) (ix : ℕ) (b : ItemBody)
    → (item_at nodes ix).body ≡ b → is_open b ≡ true → waits_for_pairing b ≡ false
    → is_quiet (tree_node_at s.text tables nodes ix).part.shape ≡ false
opener_unquiet s tables nodes ix b is opens waits = ap is_quiet (opener_shape s tables nodes ix b is opens) ∙ waits
