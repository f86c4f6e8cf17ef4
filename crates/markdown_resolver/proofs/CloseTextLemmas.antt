-- A `]` that is a Text, after a left list in an arena.
use Rattle.std.proofs.Common.{◌≡◌, ℕ, Bool, false, List, Option, None, refl, sym, ap, ◌∙◌, subst}
use Rattle.std.specs.Prelude.{is_some, slice_range}
use Rattle.markdown_base.specs.Arena.{child_of, sibling_of}
use Rattle.markdown_base.specs.BlockTree.{item_at}
use Rattle.markdown_base.specs.Forest.{Forest, nil, node}
use Rattle.markdown_base.specs.declared.item.Item.{Item}
use Rattle.markdown_base.specs.declared.item.ItemBody.{ItemBody}
use Rattle.markdown_base.specs.declared.item.ItemBody.TheVariants as body
use Rattle.markdown_base.specs.declared.node.Node.{Node}
use Rattle.markdown_brackets.specs.BracketDecision.{BracketContext, Becomes, Closing, a_text}
use Rattle.markdown_brackets.specs.DecisionView.{IsBecome}
use Rattle.markdown_brackets.specs.LeftList.{Entry, all_done}
use Rattle.markdown_brackets.specs.HeldOpeners.{brackets_of, wikilinks_of}
use Rattle.markdown_brackets.specs.declared.closing_bracket.ClosedBracket.TheVariants.{Text}
use Rattle.markdown_document.specs.ChainRest.{past}
use Rattle.markdown_document.specs.Document.{TreeNode, Plain, Shape, as_text, block_of, shape_of, unresolved}
use Rattle.markdown_document.specs.Places.{tree_node_at, trees_from}
use Rattle.markdown_document.specs.Tables.{Tables}
use Rattle.markdown_document.specs.Waiting.{is_quiet}
use Rattle.markdown_resolver.specs.Closes.{ClosesAt, PutsClosed}
use Rattle.markdown_resolver.specs.Kept.{IsQuiet}
use Rattle.markdown_resolver.specs.PutsTrees.{PutsTrees, without_numbers}
use Rattle.markdown_resolver.specs.ReadOn.{left_without_numbers}
use Rattle.markdown_resolver.specs.Rewritten.{Puts, literal, text_unless}
use Rattle.markdown_resolver.specs.declared.continuation.Continuation.{Continuation}
use Rattle.markdown_resolver.proofs.FollowsLemmas.{puts_after}
use Rattle.markdown_resolver.proofs.CloseLemmas.{brackets_done, wikilinks_done, without_done}
use Rattle.markdown_resolver.proofs.PutsTreesLemmas.{put_trees}
use Rattle.markdown_resolver.proofs.ReadsItemLemmas.{holds_put}
use Rattle.markdown_resolver.proofs.StandsToLemmas.{stands_rest}

pub becomes_text : (w : BracketContext) (becomes : Becomes ℕ) → IsBecome w becomes Text → becomes ≡ a_text
becomes_text w a_text h = refl
becomes_text w other h = absurd h

-- a `]` becomes a Text
closer_settled : (source : List ℕ) (tables : Tables) (nodes : List (Node Item)) (closer : ℕ) (could_be : Bool)
    → (item_at nodes closer).body ≡ body.MaybeLinkClose could_be
    → literal source (tree_node_at source tables nodes closer) (trees_from source tables nodes (child_of nodes closer))
    ≡ node (as_text source (tree_node_at source tables nodes closer)) nil nil
closer_settled source tables nodes closer could_be is =
    let item = item_at nodes closer in
    let a = tree_node_at source tables nodes closer in
    let shape : a.part.shape ≡ unresolved (body.MaybeLinkClose could_be) =
    ap (λ (b : ItemBody). shape_of tables (slice_range source item.start item.end) b) is in
    ap (λ (s : Shape). text_unless (is_quiet s) source a (trees_from source tables nodes (child_of nodes closer))) shape

pub text_closed : (source : List ℕ) (tables : Tables) (old new : List (Node Item)) (first closer : ℕ)
    (rest : Continuation) (left : List (Entry ℕ)) (w : BracketContext) (c : Closing ℕ)
    → ClosesAt source tables old first closer left w c a_text → Puts source closer (literal source) None rest old new
    tables tables → PutsClosed source first closer rest left w c a_text old new tables tables
text_closed source tables old new first closer rest left w c closes puts =
    let next = rest.next in
    let ready = stands_rest closes.stands in
    let a = tree_node_at source tables old closer in
    let after = trees_from source tables old (sibling_of old closer) in
    let what : Forest (TreeNode ℕ) = node (as_text w.setting.text c.node) nil nil in
    let is = closer_settled source tables old closer closes.closes.0 closes.closes.1 in
    let no_block : is_some a.part.block ≡ false = ap (λ (b : ItemBody). is_some (block_of b)) closes.closes.1 in
    let quiet : IsQuiet (node (as_text source a) nil nil) = (refl, no_block, tt, tt) in
    let p = put_trees ready puts (subst IsQuiet (sym is) quiet) in
    let b = puts_after
    closes.stands (subst (λ (f : Forest Plain). PutsTrees source closer next f after old new tables tables) is p) in
    let reads : node (as_text source a) nil nil ≡ without_numbers what =
    ap (λ (text : List ℕ). node (as_text text a) nil nil) (sym closes.text_is)
    ∙ ap (λ (l : TreeNode ℕ). without_numbers (node (as_text w.setting.text l) nil nil)) (sym closes.node_is) in
    record {
      changes = b.changes;
      left_then = all_done b.standing left;
      stands = b.stands;
      puts = λ q e. without_done b.standing left ∙ ap (λ (f : Forest Plain). all_done f (left_without_numbers left))
          (b.reads ∙ reads) ∙ ap (λ (l : List (Entry ℕ)). left_without_numbers (all_done what l)) (sym e);
      brackets = λ q e. brackets_done b.standing left ∙ ap brackets_of (sym e);
      wikilinks = λ q e. wikilinks_done b.standing left ∙ ap wikilinks_of (sym e);
      rest_is = λ q e. b.rest_is ∙ ap (λ (g : Option ℕ). past g after) (sym e);
      passes = puts.passes;
      holds = λ kind learned. holds_put kind learned ready puts;
    }
