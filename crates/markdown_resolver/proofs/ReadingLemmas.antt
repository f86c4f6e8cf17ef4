-- A chain is read in place, item by item: what is true of the items that are left.
use Rattle.std.proofs.Common.{◌≡◌, ℕ, suc, ◌+◌, ◌≤◌, Bool, true, false, List, rules, Some, None, refl, sym, subst}
use Rattle.std.proofs.Common.{arith, ◌∙◌, ap}
use Rattle.std.proofs.lemmas.Result.{IfOk-weaker}
use Rattle.std.specs.Prelude.{Result, Ok, Err, IfOk, slice_range}
use Rattle.markdown_base.specs.Arena.{Arena, sibling_of, child_of}
use Rattle.markdown_base.specs.ArenaForest.{links_of}
use Rattle.markdown_base.specs.BlockTree.{item_at}
use Rattle.markdown_base.specs.Forest.{Forest}
use Rattle.markdown_base.specs.Item.{is_open}
use Rattle.markdown_base.specs.declared.item.Item.{Item}
use Rattle.markdown_base.specs.declared.item.ItemBody.{ItemBody}
use Rattle.markdown_base.specs.declared.item.ItemBody.TheVariants as body
use Rattle.markdown_base.specs.declared.node.Node.{Node}
use Rattle.markdown_base.proofs.ArenaForestLemmas.{opens, forest_at-none}
use Rattle.markdown_document.specs.EnclosingBlocks.{EnclosingBlocks}
use Rattle.markdown_document.specs.ChainRest.{open_body}
use Rattle.markdown_document.specs.Counts.{risen}
use Rattle.markdown_document.specs.Document.{Plain, no_notes, Shape, unresolved, is_unresolved, shape_of}
use Rattle.markdown_document.specs.Places.{tree_node_at, trees_from}
use Rattle.markdown_document.specs.Setting.{Rules, Setting, setting_of}
use Rattle.markdown_document.specs.ResolverStates.{items_from, above_cursor}
use Rattle.markdown_document.specs.Tables.{Tables}
use Rattle.markdown_document.specs.Waiting.{is_quiet}
use Rattle.markdown_document.proofs.PlaceLemmas.{shape-open}
use Rattle.markdown_spans.specs.Finds.{nothing, Passed, find, find_by, read_tree}
use Rattle.markdown_spans.specs.SpanClosers.{HoldsFrom, Learned}
use Rattle.markdown_spans.specs.declared.span_text.SpanKind.{SpanKind}
use Rattle.markdown_delims.proofs.PairingLemmas.{closed_shape}
use Rattle.markdown_resolver.specs.Chains.{CanResolve}
use Rattle.markdown_resolver.specs.Rewritten.{Puts, literal}
use Rattle.markdown_resolver.specs.declared.continuation.Continuation.{Continuation}
use Rattle.markdown_resolver.specs.ReadsItem.{LooksAt, LooksAtMost, ReadsItem}
use Rattle.markdown_document.specs.declared.chain_place.ChainPlace.{ChainPlace}
use Rattle.markdown_resolver.proofs.ChainLeadsLemmas.{chain_leads, holds_next}
use Rattle.markdown_resolver.proofs.ReadsItemLemmas.{reads_item}
use Rattle.markdown_document.proofs.CountLemmas.{risen_twice}

-- nothing is left of a chain that has ended
pub items_none : (nodes : List (Node Item)) → items_from nodes None ≡ 0
items_none nodes = rw (forest_at-none (links_of nodes)) refl

-- of all items some were counted, and the others follow
pub record Counted (old now all rest : ℕ) : Type 0 where
  pub done : ℕ
  pub is_all : all ≡ done + rest
  pub count : now ≡ risen done old

-- none was counted yet
pub counted_none : (old all : ℕ) → Counted old old all all
counted_none old all = record { done = 0; is_all = omega arith; count = refl }

-- some more were counted
pub counted_more : (old now new all rest n more : ℕ) → Counted old now all rest → rest ≡ n + more → new ≡ risen n now
    → Counted old new all more
counted_more old now new all rest n more c r e = record {
  done = c.done + n;
  is_all = omega (arith, c.is_all, r);
  count = e ∙ ap (risen n) c.count ∙ risen_twice c.done n old;
}

-- so in the end all were counted
pub counted_all : (old now all rest : ℕ) → Counted old now all rest → rest ≡ 0 → now ≡ risen all old
counted_all old now all rest c r = let whole : c.done ≡ all = omega (arith, c.is_all, r) in c.count
    ∙ ap (λ n. risen n old) whole

-- nothing is found at an item with this body
pub record FindsNothing (b : ItemBody) : Type 0 where
  pub finds : (s : Setting) (above : EnclosingBlocks) (a : Plain) (after : Forest Plain)
      → find_by s above b a after ≡ nothing

-- so it is where it is no opener of code or math and no `<`
pub finds_nothing : (b : ItemBody) → ((count : ℕ) (escaped : Bool) → b ≡ body.MaybeCode count escaped → ⊥)
    → ((opens closes : Bool) (context : ℕ) → b ≡ body.MaybeMath opens closes context → ⊥) → (b ≡ body.MaybeHtml → ⊥)
    → FindsNothing b
finds_nothing (body.MaybeCode count escaped) code math html = absurd (code count escaped refl)
finds_nothing (body.MaybeMath opens closes context) code math html = absurd (math opens closes context refl)
finds_nothing body.MaybeHtml code math html = absurd (html refl)
finds_nothing other code math html = record { finds = λ s above a after. refl }

-- nothing is found either at a node that has the shape of such a body
finds_in_shape : (s : Setting) (above : EnclosingBlocks) (a : Plain) (after : Forest Plain) (tables : Tables)
    (source : List ℕ)
    (b : ItemBody) → FindsNothing b → find_by s above (open_body (shape_of tables source b)) a after ≡ nothing
finds_in_shape s above a after tables source b h = by_open (is_open b) refl
  where
    closed : (shape : Shape) → is_unresolved shape ≡ false → find_by s above (open_body shape) a after ≡ nothing
    closed (unresolved b) h = cc h
    closed other h = refl

    by_open : (is : Bool) → is_open b ≡ is → find_by s above (open_body (shape_of tables source b)) a after ≡ nothing
    by_open true e = rw (shape-open tables source b e) (h.finds s above a after)
    by_open false e = closed (shape_of tables source b) (closed_shape tables source b e)

-- a tree at which nothing is found becomes literal text
reads_settled : (s : Setting) (above : EnclosingBlocks) (a : Plain) (below after : Forest Plain)
    → find s above a after ≡ nothing
    → (let r : Passed (Unit {0}) = read_tree s no_notes above 0 a below after in (r.trees ≡ literal s.text a below)
    × (r.goes_on ≡ None))
unfolding read_tree
reads_settled s above a below after none = by_quiet (is_quiet a.part.shape) refl
  where
    by_quiet : (quiet : Bool) → is_quiet a.part.shape ≡ quiet
        → (let r : Passed (Unit {0}) = read_tree s no_notes above 0 a below after in
        (r.trees ≡ literal s.text a below) × (r.goes_on ≡ None))
    by_quiet true e = rw e (refl, refl)
    by_quiet false e = rw (e, none) (refl, refl)

-- an item at which nothing is found is read when it becomes literal text
pub literal_reads : (s : Setting) (above : EnclosingBlocks) (ix : ℕ) (rest : Continuation)
    (old new : List (Node Item)) (tables : Tables)
    → CanResolve s.text tables old (Some ix) → FindsNothing (item_at old ix).body
    → Puts s.text ix (literal s.text) None rest old new tables tables → ReadsItem s above ix rest old new tables tables
literal_reads s above ix rest old new tables ready nothing_there puts =
    let item = item_at old ix in
    let a = tree_node_at s.text tables old ix in
    let after = trees_from s.text tables old (sibling_of old ix) in
    let none : find s above a after ≡ nothing = finds_in_shape s above a after tables
    (slice_range s.text item.start item.end) item.body nothing_there in
    let reads = reads_settled s above a (trees_from s.text tables old (child_of old ix)) after none in
    reads_item ready (record { standing = reads.0; ends = reads.1 }) puts

-- where no search was made, none examined an item
pub looks_at_none : (failed : Bool) (visits items passed items' : ℕ) → items ≡ suc (passed + items')
    → LooksAt failed failed visits visits items items'
looks_at_none failed visits items passed items' left = record {
  more = 0;
  counted = refl;
  within = omega arith;
  none = λ e. (refl, e);
  past = λ e. omega arith;
}

-- nor did any if an allocation failed
pub stops_at_none : (failed : Bool) (visits items : ℕ) → LooksAtMost failed failed visits visits items
stops_at_none failed visits items = record {
  more = 0;
  counted = refl;
  within = omega arith;
  none = λ e. (refl, e);
  past = λ e. omega arith;
}

-- an item was read, unless memory was refused: what other searches have learned is true of what is left, and they have
-- examined no item
pub record ReadsAlone {E : Type 0} (r : Result Continuation E) (s : Setting) (above : EnclosingBlocks) (ix : ℕ)
    (old new : List (Node Item)) (tables tables' : Tables) : Type 0 where
  pub reads : IfOk r (λ rest. ReadsItem s above ix rest old new tables tables')
  pub holds : (kind : SpanKind) (learned : Learned) → HoldsFrom kind learned old (Some ix)
      → IfOk r (λ rest. HoldsFrom kind learned new rest.next)
  pub looks : (failed : Bool) (visits : ℕ)
      → IfOk r (λ rest. LooksAt failed failed visits visits (items_from old (Some ix)) (items_from new rest.next))

pub reads_alone : {E : Type 0} (r : Result Continuation E) (s : Setting) (above : EnclosingBlocks) (ix : ℕ)
    (old new : List (Node Item)) (tables tables' : Tables) → CanResolve s.text tables old (Some ix)
    → IfOk r (λ rest. ReadsItem s above ix rest old new tables tables') → ReadsAlone r s above ix old new tables tables'
reads_alone (Ok rest) s above ix old new tables tables' ready reads = record {
  reads = reads;
  holds = λ kind learned h. reads.holds kind learned (holds_next kind learned old ix (chain_leads ready) h);
  looks = λ failed visits. looks_at_none failed visits (items_from old (Some ix)) rest.passed (items_from new rest.next)
      reads.passes;
}
reads_alone (Err fault) s above ix old new tables tables' ready reads = record {
  reads = tt;
  holds = λ kind learned h. tt;
  looks = λ failed visits. tt;
}

-- so it is by the rules of a setting, where it is so by any rules with its syntax
pub reads_by_rules : {E : Type 0} (r : Result Continuation E) (place : ChainPlace) (source : List ℕ) (rules : Rules)
    (tree : Arena Item)
    (ix : ℕ) (new : List (Node Item)) (tables tables' : Tables) → CanResolve place.text.now tables tree.nodes (Some ix)
    → place.text.now ≡ source → place.syntax ≡ rules.syntax
    → IfOk r (λ rest. (rules : Rules) → rules.syntax ≡ place.syntax
    → ReadsItem (setting_of place.text.now rules) (above_cursor place.text.now tree) ix rest tree.nodes new tables
    tables') → ReadsAlone r (setting_of source rules) (above_cursor source tree) ix tree.nodes new tables tables'
reads_by_rules r place source rules tree ix new tables tables' ready same syntax reads =
    subst (λ (t : List ℕ). ReadsAlone r (setting_of t rules) (above_cursor t tree) ix tree.nodes new tables tables')
    same
    (reads_alone r (setting_of place.text.now rules) (above_cursor place.text.now tree) ix tree.nodes new tables tables'
    ready (IfOk-weaker r _ _ (λ rest by_any. by_any rules (sym syntax)) reads))

-- searches have examined some items of a chain, of which some are left: none of those, unless one has failed
pub record LookedUpTo (failed : Bool) (old now all rest : ℕ) : Type 0 where
  pub more : ℕ
  pub counted : now ≡ risen more old
  pub within : more ≤ all
  pub past : failed ≡ false → more + rest ≤ all

-- no search was made yet
pub looked_none : (failed : Bool) (old all : ℕ) → LookedUpTo failed old old all all
looked_none failed old all = record { more = 0; counted = refl; within = omega arith; past = λ e. omega arith }

-- one more search was made, or none
pub looked_more : (before after : Bool) (old now new all items items' : ℕ) → LookedUpTo before old now all items
    → LooksAt before after now new items items' → LookedUpTo after old new all items'
looked_more true after old now new all items items' l a =
    let none = a.none refl in
    record {
      more = l.more + a.more;
      counted = a.counted ∙ ap (risen a.more) l.counted ∙ risen_twice l.more a.more old;
      within = omega (arith, l.within, none.0);
      past = λ e. cc (none.1, e);
    }
looked_more false after old now new all items items' l a =
    let past = l.past refl in
    record {
      more = l.more + a.more;
      counted = a.counted ∙ ap (risen a.more) l.counted ∙ risen_twice l.more a.more old;
      within = omega (arith, past, a.within);
      past = λ e. omega (arith, past, a.past e);
    }
