-- From what was put in place for an item that is not a bracket to how far the chain was read: the trees there follow
-- the left list, no question was asked, and what is left is what the rule for the item leaves.
use Rattle.std.proofs.Common.{◌≡◌, ℕ, ◌+◌, Bool, true, false, List, [], Option, Some, None, refl, sym, ap, ◌∙◌}
use Rattle.std.proofs.Common.{append-nil}
use Rattle.markdown_base.specs.Arena.{child_of, sibling_of}
use Rattle.markdown_base.specs.BlockTree.{item_at}
use Rattle.markdown_base.specs.Forest.{Forest}
use Rattle.markdown_base.specs.Item.{is_open}
use Rattle.markdown_base.specs.Questions.{Question, Answer}
use Rattle.markdown_base.specs.declared.item.ItemBody.{ItemBody}
use Rattle.markdown_brackets.specs.LeftList.{Entry, all_done}
use Rattle.markdown_brackets.specs.Openers.{Waiting}
use Rattle.markdown_brackets.specs.declared.spent_ends.SpentEnds.{SpentEnds}
use Rattle.markdown_document.specs.EnclosingBlocks.{EnclosingBlocks}
use Rattle.markdown_document.specs.ChainRest.{open_body, past}
use Rattle.markdown_document.specs.Document.{TreeNode, Plain, shape_of}
use Rattle.markdown_document.specs.Places.{tree_node_at, trees_from}
use Rattle.markdown_document.specs.Setting.{ReferenceState, Setting}
use Rattle.markdown_document.specs.ResolverStates.{ResolverState, chain_at, state_at}
use Rattle.markdown_document.specs.Tables.{Tables}
use Rattle.markdown_document.proofs.PlaceLemmas.{shape-open}
use Rattle.markdown_spans.specs.Finds.{Passed}
use Rattle.markdown_delims.proofs.PairingLemmas.{closed_shape}
use Rattle.markdown_resolver.specs.declared.continuation.Continuation.{Continuation}
use Rattle.markdown_resolver.specs.ReadOn.{AreHeld, PutsAfter, ReadsOn, StandsTo, all_read, at_left}
use Rattle.markdown_resolver.specs.ReadOn.{left_without_numbers}
use Rattle.markdown_resolver.specs.ReadsItem.{ReadsItem, read_at}
use Rattle.markdown_resolver.proofs.CloseLemmas.{brackets_done, wikilinks_done, without_done}
use Rattle.markdown_resolver.proofs.FollowsLemmas.{puts_after}
use Rattle.markdown_resolver.proofs.FollowersLemmas.{opens_chain}
use Rattle.markdown_resolver.proofs.PassOneLemmas.{NoBracket, closed_no_bracket, reads_other}
use Rattle.markdown_resolver.proofs.StandsToLemmas.{stands_rest}

-- the shape of an item that is not a bracket is not that of one
pub shape_no_bracket : (tables : Tables) (source : List ℕ) (b : ItemBody) → NoBracket b
    → NoBracket (open_body (shape_of tables source b))
shape_no_bracket tables source b h = by_open (is_open b) refl
  where
    by_open : (x : Bool) → is_open b ≡ x → NoBracket (open_body (shape_of tables source b))
    by_open true e = rw (shape-open tables source b e) h
    by_open false e = closed_no_bracket (shape_of tables source b) (closed_shape tables source b e)

-- trees that are done hold no openers
pub held_done : (trees : Forest (TreeNode ℕ)) (left : List (Entry ℕ)) (brackets wikilinks : List Waiting)
    → AreHeld brackets wikilinks left → AreHeld brackets wikilinks (all_done trees left)
held_done trees left brackets wikilinks held = record {
  brackets_are = held.brackets_are ∙ sym (brackets_done trees left);
  wikilinks_are = held.wikilinks_are ∙ sym (wikilinks_done trees left);
}

-- an item that is not a bracket was read
pub reads_on_item : {C : Type 0} (step : C → Question → Option Answer → C → Type 0) (s : Setting)
    (above : EnclosingBlocks) (first ix : ℕ) (rest : Continuation) (left : List (Entry ℕ)) (old new : ResolverState C)
    (spent : SpentEnds) (brackets wikilinks : List Waiting) → new
    ≡ record old { nodes = new.nodes; tables = new.tables }
    → StandsTo s.text old.tables old.nodes first (Some ix) left → AreHeld brackets wikilinks left
    → NoBracket (item_at old.nodes ix).body → ReadsItem s above ix rest old.nodes new.nodes old.tables new.tables
    → ReadsOn step s above first (Some ix) rest.next left old new spent spent brackets wikilinks
reads_on_item {C} step s above first ix rest left old new spent brackets wikilinks same stands held other reads =
    let ready = stands_rest stands in
    let o = opens_chain ready in
    let a = tree_node_at s.text old.tables old.nodes ix in
    let below = trees_from s.text old.tables old.nodes (child_of old.nodes ix) in
    let next = rest.next in
    let after = trees_from s.text old.tables old.nodes (sibling_of old.nodes ix) in
    let r : Passed (Unit {0}) = read_at s above old.tables old.nodes ix in
    let b : PutsAfter s.text first next left r.trees (past r.goes_on after) old.nodes new.nodes old.tables new.tables
    = puts_after stands reads.puts in
    let then = all_done b.standing left in
    let lefts : all_done r.trees (left_without_numbers left) ≡ left_without_numbers then =
    ap (λ (f : Forest Plain). all_done f (left_without_numbers left)) (sym b.reads)
    ∙ sym (without_done b.standing left) in
    record {
      changes = b.changes;
      left_then = then;
      stands = b.stands;
      held = held_done b.standing left brackets wikilinks held;
      answers = [];
      questions = [];
      asked = ap (λ (t : ResolverState C). t.callback) (sym same);
      ends = [];
      spends = λ end. refl;
      made = r.made;
      reads = λ p later are.
          let k : state_at old later ≡ state_at new later = ap (λ (t : ResolverState C). state_at t later) (sym same) in
          ap (λ (f : Forest Plain). all_read s above f (at_left left old later p)) o.trees
          ∙ reads_other s above a below after (at_left left old later p) refl
          (shape_no_bracket old.tables _ (item_at old.nodes ix).body
          other) ∙ ap (λ (f : Forest Plain). all_read s above f (record p {
            left = all_done r.trees (left_without_numbers left);
            goes_on = None;
            state = state_at old later;
            made = p.made + r.made;
          })) (sym b.rest_is) ∙ ap (λ (l : List (Entry (Unit {0}))). all_read s above (chain_at s.text new next)
          (record p { left = l; goes_on = None; state = state_at old later; made = p.made + r.made })) lefts
          ∙ ap (λ (state : ReferenceState). all_read s above (chain_at s.text new next)
          (record p { left = left_without_numbers then; goes_on = None; state = state; made = p.made + r.made })) k
          ∙ ap (λ (asked : List Question). all_read s above (chain_at s.text new next) (at_left
          then new later (record p { asked = asked; made = p.made + r.made }))) (sym (append-nil p.asked));
    }
