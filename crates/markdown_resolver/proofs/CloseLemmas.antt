-- What a `]` becomes is put in the place of its opener in the left list, over what is inside: what can be put there,
-- and what is there then.
use Rattle.std.proofs.Common.{◌≡◌, ℕ, suc, ◌<◌, ◌≤◌, Bool, true, false, List, [], ◌∷◌, length, Option, Some, refl, sym}
use Rattle.std.proofs.Common.{ap, ◌∙◌, subst, if◌then◌else◌, nat_le}
use Rattle.std.specs.Prelude.{slice_range}
use Rattle.markdown_base.specs.Arena.{sibling_of}
use Rattle.markdown_base.specs.ArenaForest.{forest_at, links_of}
use Rattle.markdown_base.specs.BlockTree.{item_at}
use Rattle.markdown_base.specs.Forest.{Forest, nil, node, relabelled, roots}
use Rattle.markdown_base.specs.Item.{is_open}
use Rattle.markdown_base.specs.WellFormed.{run_character}
use Rattle.markdown_base.specs.declared.item.Item.{Item}
use Rattle.markdown_base.specs.declared.item.ItemBody.{ItemBody}
use Rattle.markdown_base.specs.declared.node.Node.{Node}
use Rattle.markdown_brackets.specs.BracketDecision.{BracketContext, Becomes, Closing, Progress}
use Rattle.markdown_brackets.specs.ClosingBracket.{put}
use Rattle.markdown_brackets.specs.Finish.{IsSplit}
use Rattle.markdown_brackets.specs.LeftList.{Entry, done, waits, Split, inside, trees_onto, all_done}
use Rattle.markdown_brackets.specs.HeldOpeners.{brackets_of, wikilinks_of}
use Rattle.markdown_document.specs.ChainRest.{end_of, past, past_byte}
use Rattle.markdown_document.specs.Document.{TreeNode, Plain, is_unresolved, shape_of}
use Rattle.markdown_document.specs.Places.{tree_node_at, trees_from}
use Rattle.markdown_document.specs.Tables.{Tables}
use Rattle.markdown_document.proofs.PlaceLemmas.{shape-open}
use Rattle.markdown_spans.proofs.ChainWalkLemmas.{chain_at}
use Rattle.markdown_resolver.specs.Chains.{CanResolve}
use Rattle.markdown_resolver.specs.ClosedOver.{CanClose, Enclosing, PutsOver, first_trees, trees_past}
use Rattle.markdown_resolver.specs.Closes.{CanGoOn, ClosesAt, IsNotCut, NoneOpenAround, PutsClosed}
use Rattle.markdown_resolver.specs.Kept.{IsQuiet}
use Rattle.markdown_resolver.specs.PutsTrees.{PutsTrees, numbered_node, without_numbers}
use Rattle.markdown_resolver.specs.ReadOn.{IsOpener, StandsTo, left_without_numbers}
use Rattle.markdown_resolver.specs.Rewritten.{first_past}
use Rattle.markdown_resolver.specs.declared.continuation.Continuation.{Continuation}
use Rattle.markdown_resolver.proofs.ChainLeadsLemmas.{chain_leads, holds_past}
use Rattle.markdown_resolver.proofs.FollowersLemmas.{InOrder, opens_chain, order_around}
use Rattle.markdown_resolver.proofs.FollowsLemmas.{puts_after}
use Rattle.markdown_resolver.proofs.LeftTreesLemmas.{onto_appended, quiet_annotated}
use Rattle.markdown_resolver.proofs.OverTreesLemmas.{over_trees}
use Rattle.markdown_resolver.proofs.ComposeLemmas.{stands_ready}
use Rattle.markdown_resolver.proofs.PastByteLemmas.{passes_past}
use Rattle.markdown_resolver.proofs.StandsToLemmas.{stands_at_opener, stands_rest}
use Rattle.markdown_resolver.proofs.SplitLemmas.{InsideOf, inside_numbers, inside_of, opens_numbered}
use Rattle.markdown_resolver.proofs.UnreadLemmas.{first_cut}

-- an opener of a left list in an arena, with what is inside and a `]` after that
pub record OpenerAt (source : List ℕ) (tables : Tables) (nodes : List (Node Item)) (first closer : ℕ) (o : Split ℕ)
    : Type 0 where
  pub stands : StandsTo source tables nodes first (Some o.opener.note) o.before
  pub opener : IsOpener source nodes o.opener.note
  pub ready : CanResolve source tables nodes (Some o.opener.note)
  pub ready_closer : CanResolve source tables nodes (Some closer)
  pub around : InsideOf source tables nodes closer o

pub opener_at : {source : List ℕ} {tables : Tables} {nodes : List (Node Item)} {first closer : ℕ}
    {left : List (Entry ℕ)} {o : Split ℕ} → StandsTo source tables nodes first (Some closer) left → IsSplit left o
    → OpenerAt source tables nodes first closer o
opener_at {source} {tables} {nodes} {first} {closer} {left} {o} stands splits =
    let at = stands_at_opener stands splits in
    let ready' = stands_rest stands in
    record {
      stands = at.stands;
      opener = at.opener;
      ready = at.ready;
      ready_closer = ready';
      around = inside_of source tables nodes closer o at.ready ready' at.trees;
    }

-- an item whose node is not open is not open
not_open : (tables : Tables) (source : List ℕ) (b : ItemBody) → is_unresolved (shape_of tables source b) ≡ false
    → is_open b ≡ false
not_open tables source b closed = by (is_open b) refl
  where
    by : (opens : Bool) → is_open b ≡ opens → is_open b ≡ false
    by false e = e
    by true e = cc (ap is_unresolved (shape-open tables source b e), closed)

-- the first node that ends past a byte is not open where it starts before it
pub none_open : (source : List ℕ) (tables : Tables) (nodes : List (Node Item)) (byte next : ℕ) (f : Forest ℕ)
    → NoneOpenAround byte (relabelled (numbered_node source tables nodes) f)
    → first_past nodes byte (roots f) ≡ Some next → (item_at nodes next).start < byte
    → is_open (item_at nodes next).body ≡ false
none_open source tables nodes byte next nil h first before = cc first
none_open source tables nodes byte next (node n below after) h first before =
    by (nat_le (item_at nodes n).end byte) h first (none_open source tables nodes byte next after)
  where
    by : (ended : Bool) → IsNotCut ended byte (numbered_node source tables nodes n)
        (NoneOpenAround byte (relabelled (numbered_node source tables nodes) after))
        → (if ended then first_past nodes byte (roots after) else Some n) ≡ Some next
        → (NoneOpenAround byte (relabelled (numbered_node source tables nodes) after)
        → first_past nodes byte (roots after) ≡ Some next → (item_at nodes next).start < byte
        → is_open (item_at nodes next).body ≡ false) → is_open (item_at nodes next).body ≡ false
    by true h first later = later h first before
    by false h first later =
        let same : n ≡ next = cc first in
        let item = item_at nodes n in
        subst (λ (m : ℕ). is_open (item_at nodes m).body ≡ false) same
        (not_open tables (slice_range source item.start item.end) item.body
        (h (subst (λ (m : ℕ). (item_at nodes m).start < byte) (sym same) before)))

-- something that is found can end at a byte offset there
pub can_close : {source : List ℕ} {tables : Tables} {nodes : List (Node Item)} {first closer : ℕ}
    {left : List (Entry ℕ)} {w : BracketContext} {c : Closing ℕ} {becomes : Becomes ℕ} {o : Split ℕ} {byte : ℕ}
    → ClosesAt source tables nodes first closer left w c becomes → OpenerAt source tables nodes first closer o
    → CanGoOn source c byte → CanClose source tables nodes o.opener.note closer (inside_numbers o) byte
can_close {source} {tables} {nodes} {first} {closer} {left} {w} {c} {becomes} {o} {byte} closes at can = record {
  ready = at.ready;
  opener_closed = at.opener.closed;
  childless = at.opener.childless;
  after = roots (forest_at (links_of nodes) (sibling_of nodes closer));
  follows = at.around.follows;
  closer_no_run = ap run_character closes.closes.1;
  closer_ends = subst (λ (a : TreeNode ℕ). end_of a ≤ byte) closes.node_is can.after;
  boundary = can.between;
  between = λ next first before. first_cut source tables nodes byte next
      (forest_at (links_of nodes) (sibling_of nodes closer))
      closes.unmade first (none_open source tables nodes byte next
      (forest_at (links_of nodes) (sibling_of nodes closer))
      (subst (NoneOpenAround byte) closes.rest_is can.none_around) first before);
}

-- the opener ends where the `]` starts at the latest
pub opener_before : {source : List ℕ} {tables : Tables} {nodes : List (Node Item)} {first closer : ℕ} {o : Split ℕ}
    → OpenerAt source tables nodes first closer o → (item_at nodes o.opener.note).end ≤ (item_at nodes closer).start
opener_before {source} {tables} {nodes} {first} {closer} {o} at =
    let chain = opens_chain at.ready in
    (order_around nodes (item_at nodes o.opener.note).end (inside_numbers o) closer
    (roots (forest_at (links_of nodes) (sibling_of nodes closer)))
    (subst (InOrder nodes (item_at nodes o.opener.note).end) at.around.follows chain.ordered)).from

-- trees that are done: without the numbers, and their openers
pub without_done : (f : Forest (TreeNode ℕ)) (left : List (Entry ℕ)) → left_without_numbers (all_done f left)
    ≡ all_done (without_numbers f) (left_without_numbers left)
without_done nil left = refl
without_done (node a below after) left = without_done after (done a below ∷ left)

pub brackets_done : (f : Forest (TreeNode ℕ)) (left : List (Entry ℕ)) → brackets_of (all_done f left) ≡ brackets_of left
brackets_done nil left = refl
brackets_done (node a below after) left = brackets_done after (done a below ∷ left)

pub wikilinks_done : (f : Forest (TreeNode ℕ)) (left : List (Entry ℕ)) → wikilinks_of
    (all_done f left) ≡ wikilinks_of left
wikilinks_done nil left = refl
wikilinks_done (node a below after) left = wikilinks_done after (done a below ∷ left)

-- what is inside an opener of a left list is quiet
quiet_later : (left : List (Entry ℕ)) (later : Forest (TreeNode ℕ)) → IsQuiet (trees_onto left later) → IsQuiet later
quiet_later [] later h = h
quiet_later (done a below ∷ left) later h = (quiet_later left (node a below later) h).3
quiet_later (waits m a ∷ left) later h = (quiet_later left (node a nil later) h).3

pub quiet_inside : (left : List (Entry ℕ)) (o : Split ℕ) → IsSplit left o → IsQuiet (trees_onto left nil)
    → IsQuiet (inside o)
quiet_inside left o splits quiet =
    let whole : trees_onto left nil ≡ trees_onto o.before (node o.opener nil (inside o)) =
    ap (λ (l : List (Entry ℕ)). trees_onto l nil) splits.left_is ∙ onto_appended splits.after_then o.before
    splits.mark_then o.opener nil
    ∙ ap (λ (f : Forest (TreeNode ℕ)). trees_onto o.before (node o.opener nil f)) (splits.same_trees nil) in
    (quiet_later o.before (node o.opener nil (inside o)) (subst IsQuiet whole quiet)).3

-- what is put in place: these trees after this left list, up to a byte offset
pub record PutsWhat (w : BracketContext) (c : Closing ℕ) (left : List (Entry ℕ)) (becomes : Becomes ℕ)
    (trees : Forest (TreeNode ℕ)) (before : List (Entry ℕ)) (goes_on : ℕ) : Type 0 where
  pub left_is : (p : Progress ℕ) → p.left ≡ left → (put w c becomes p).left ≡ all_done trees before
  pub goes : (p : Progress ℕ) → (put w c becomes p).goes_on ≡ Some goes_on

-- so it is in the left list
pub puts_closed : {source : List ℕ} {first closer : ℕ} {rest : Continuation} {left : List
    (Entry ℕ)} {w : BracketContext}
    {c : Closing ℕ} {becomes : Becomes ℕ} {o : Split ℕ} {old new : List (Node Item)} {tables tables' : Tables}
    {before : List (Entry ℕ)} {trees : Enclosing} {goes_on : ℕ} {standing : List ℕ} (what : Forest (TreeNode ℕ))
    → ClosesAt source tables old first closer left w c becomes → OpenerAt source tables old first closer o
    → PutsOver source o.opener.note closer (inside_numbers o) trees goes_on standing rest old new tables tables'
    → StandsTo source tables old first (Some o.opener.note) before → PutsWhat w c left becomes what before goes_on
    → trees (tree_node_at source tables old o.opener.note) (without_numbers (inside o)) ≡ without_numbers what
    → IsQuiet what
    → ((a : Plain) (i : Forest Plain) → length (roots (trees a i)) ≡ length standing)
    → PutsClosed source first closer rest left w c becomes old new tables tables'
puts_closed {source} {first} {closer} {rest} {left} {w} {c} {becomes} {o} {old} {new} {tables} {tables'} {before}
    {trees} {goes_on} {standing} what closes at over stands puts reads quiet many =
    let ix = o.opener.note in
    let a = tree_node_at source tables old ix in
    let after = trees_from source tables old (sibling_of old ix) in
    let next = rest.next in
    let later = trees_from source tables old (sibling_of old closer) in
    let opened = opens_numbered at.ready in
    let is : trees a (first_trees (length (inside_numbers o)) after)
    ≡ without_numbers what = ap (trees a) at.around.inside_is ∙ reads in
    let put_there = over_trees at.ready opened.trees
    (subst IsQuiet (sym is) (quiet_annotated (λ n. tt) what quiet)) over many in
    let so : PutsTrees source ix next (without_numbers what) (past_byte goes_on later) old new tables tables' =
    subst (λ (f : Forest Plain). PutsTrees source ix next (without_numbers what) (past_byte goes_on f) old new tables
    tables') at.around.after_is (subst (λ (f : Forest Plain). PutsTrees source ix next f
    (past_byte goes_on (trees_past (suc (length (inside_numbers o))) after)) old new tables tables') is put_there) in
    let b = puts_after stands so in
    record {
      changes = b.changes;
      left_then = all_done b.standing before;
      stands = b.stands;
      puts = λ p e. without_done b.standing before ∙ ap (λ (f : Forest Plain). all_done f (left_without_numbers before))
          b.reads ∙ sym (without_done what before) ∙ ap left_without_numbers (sym (puts.left_is p e));
      brackets = λ p e. brackets_done b.standing before ∙ sym (brackets_done what before)
          ∙ ap brackets_of (sym (puts.left_is p e));
      wikilinks = λ p e. wikilinks_done b.standing before ∙ sym (wikilinks_done what before)
          ∙ ap wikilinks_of (sym (puts.left_is p e));
      rest_is = λ p e. b.rest_is ∙ ap (λ (g : Option ℕ). past g later) (sym (puts.goes p));
      passes = passes_past source tables tables' old new closer goes_on rest
          (stands_ready at.ready_closer) over.past b.rest_is;
      holds = λ kind learned. holds_past kind learned old new closer (Some goes_on) next
          (chain_at old closer (chain_leads at.ready_closer)).later over.leads;
    }
