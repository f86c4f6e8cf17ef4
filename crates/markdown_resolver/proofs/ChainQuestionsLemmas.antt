-- What pass one asks is what brackets ask of the chain; and in a chain of a well-formed block result in which an item
-- is open, all items are inline, so they are in order.
use Rattle.std.proofs.Common.{◌≡◌, ℕ, true, false, List, ◌≤◌, refl}
use Rattle.std.specs.Prelude.{IfSome, IsTrue, slice_range}
use Rattle.std.specs.List.{list_all}
use Rattle.std.proofs.lemmas.Bool.{or_right, and_parts}
use Rattle.markdown_base.specs.BlockTree.{Numbered, tree_of}
use Rattle.markdown_base.specs.Forest.{Forest, nil, node, relabelled, first_root, roots}
use Rattle.markdown_base.specs.Item.{is_inline, is_open}
use Rattle.markdown_base.specs.WellFormed.{AllKeepRules, InlineInOrder, IsWellFormed, PartCounts, StandsOverMarkup}
use Rattle.markdown_base.specs.WellFormed.{all_inline, counts_of, has_open}
use Rattle.markdown_base.specs.declared.block_parts.BlockParts.{BlockParts}
use Rattle.markdown_base.specs.declared.item.Item.{Item}
use Rattle.markdown_base.specs.declared.item.ItemBody.{ItemBody}
use Rattle.markdown_base.specs.declared.item.ItemBody.TheVariants as body
use Rattle.markdown_base.specs.declared.node.Node.{Node}
use Rattle.markdown_brackets.specs.QuestionEnds.{AsksNothing, HoldsNoOpener, StandInLine}
use Rattle.markdown_brackets.specs.QuestionsAsked.{AsksAtMost, EndApart, closers_among}
use Rattle.markdown_brackets.proofs.QuestionEndsLemmas.{asks_at_most, end_apart, stays_zero}
use Rattle.markdown_document.specs.EnclosingBlocks.{EnclosingBlocks}
use Rattle.markdown_document.specs.ChainRest.{end_of, open_body, start_of}
use Rattle.markdown_document.specs.Document.{TreeNode, Plain, Notes, document, is_unresolved, tree_node_of, shape_of}
use Rattle.markdown_document.specs.Setting.{ReferenceState, Setting}
use Rattle.markdown_document.specs.Tables.{Tables}
use Rattle.markdown_document.proofs.PlaceLemmas.{open-unresolved}
use Rattle.markdown_base.specs.Syntax.{gfm_footnotes}
use Rattle.markdown_spans.proofs.ContainerPrefixLemmas.{prefix_opens_none}
use Rattle.markdown_resolver.specs.Kept.{EachChain}
use Rattle.markdown_resolver.specs.PassOne.{bracket_context, pass_one, read_other}
use Rattle.markdown_resolver.specs.Resolved.{resolved}

module _ {A : Type 0} (s : Setting) (notes : Notes A) (above : EnclosingBlocks) where
  -- an item that is not a bracket asks nothing
  other_asks_nothing : AsksNothing (read_other s notes above)
  other_asks_nothing a below rest p = refl

  -- the prefix of a line contains no `[`
  prefix_holds_none : HoldsNoOpener (bracket_context s above).skipped
  prefix_holds_none bytes = prefix_opens_none (gfm_footnotes s.rules.syntax) above.bodies bytes

  pub resolved_asks : (chain : Forest (TreeNode A)) (state : ReferenceState)
      → AsksAtMost (closers_among (roots chain)) state.limit (resolved s notes above chain state).questions
  unfolding resolved pass_one
  resolved_asks chain state = asks_at_most (bracket_context s above)
      (read_other s notes above) other_asks_nothing chain state

  -- a limit of 0 stays
  pub resolved_stays_zero : (chain : Forest (TreeNode A)) (state : ReferenceState) → state.limit ≡ 0
      → (resolved s notes above chain state).state.limit ≡ 0
  unfolding resolved pass_one
  resolved_stays_zero chain state z = stays_zero (bracket_context s above)
      (read_other s notes above) other_asks_nothing chain
      state z

  pub resolved_ends : (chain : Forest (TreeNode A)) (state : ReferenceState) → StandInLine s.text chain
      → EndApart (resolved s notes above chain state).questions
  unfolding resolved pass_one
  resolved_ends chain state stand =
      end_apart (bracket_context s above)
      (read_other s notes above) other_asks_nothing prefix_holds_none chain state stand

-- the markup of an item is that of its node
markup_seen : (tables : Tables) (source bytes : List ℕ) (b : ItemBody) → StandsOverMarkup bytes b
    → StandsOverMarkup bytes (open_body (shape_of tables source b))
markup_seen tables source bytes (body.HardBreak true) h = h
markup_seen tables source bytes (body.HardBreak false) h = h
markup_seen tables source bytes other h = h

module _ (source : List ℕ) (tables : Tables) (counts : PartCounts) where
  -- the node of an item
  abbrev seen : Numbered → Plain
  seen a = tree_node_of source tables a.item

  before_next : (a : Numbered) (after : Forest Numbered) → InlineInOrder a (first_root after)
      → IsTrue (is_inline a.item.body) → IsTrue (all_inline after)
      → IfSome (first_root (relabelled seen after)) (λ b. end_of (seen a) ≤ start_of b)
  before_next a nil h inline all = tt
  before_next a (node b below after) h inline all =
      (h inline (and_parts (is_inline b.item.body) (list_all (λ n. is_inline n.item.body) (roots after)) all).0).ends

  in_line : (f : Forest Numbered) → AllKeepRules source counts f → IsTrue (all_inline f)
      → StandInLine source (relabelled seen f)
  in_line nil h all = tt
  in_line (node a below after) h all =
      let inline = and_parts (is_inline a.item.body) (list_all (λ n. is_inline n.item.body) (roots after)) all in
      let lies = h.0.ranges_lie_in in
      let bytes : List ℕ = slice_range source a.item.start a.item.end in (
        record {
          lies = record { ordered = lies.ordered; start = lies.start; end = lies.end };
          markup_is_there = markup_seen tables bytes bytes a.item.body h.0.markup_is_there;
          in_order = before_next a after h.0.inline_in_order inline.0 inline.1;
        },
        in_line after h.2 inline.1,
      )

  -- in a chain in which an item is open all items are inline, and so it is below
  chains_in_line : (f : Forest Numbered) → AllKeepRules source counts f → (IsTrue (has_open f) → IsTrue (all_inline f))
      → EachChain (StandInLine source) (relabelled seen f)
  chains_in_line nil h kept = tt
  chains_in_line (node a below after) h kept = (
    (λ opens. in_line (node a below after) h (kept (open_here opens))),
    chains_in_line below h.1 h.0.chains_are_kept.inline_only,
    chains_in_line after h.2 (λ opens. all_later (kept (or_right (is_open a.item.body) (has_open after) opens))),
  )
    where
      all_later : IsTrue (all_inline (node a below after)) → IsTrue (all_inline after)
      all_later all = (and_parts (is_inline a.item.body) (list_all (λ n. is_inline n.item.body) (roots after)) all).1

      open_here : is_unresolved (seen a).part.shape ≡ true → IsTrue (has_open (node a below after))
      open_here opens =
          let is : is_open a.item.body ≡ true = open-unresolved tables (slice_range source a.item.start a.item.end)
          a.item.body opens in
          rw is refl

pub document_in_line : (source : List ℕ) (nodes : List (Node Item)) (parts : BlockParts) (tables : Tables)
    → IsWellFormed source nodes parts → EachChain (StandInLine source) (document source tables nodes)
document_in_line source nodes parts tables formed =
    chains_in_line source tables (counts_of parts) (tree_of nodes) formed.rules
    (λ opens. absurd (cc (opens, formed.top_is_closed)))
