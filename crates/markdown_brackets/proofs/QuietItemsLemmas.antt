-- Where nothing is open but runs and quotes, each item is put as it is.
use Rattle.std.proofs.Common.{◌≡◌, true, List, [], ◌∷◌, None, refl, ap, ◌∙◌}
use Rattle.markdown_base.specs.Forest.{Forest, nil, node}
use Rattle.markdown_base.specs.declared.item.ItemBody.{ItemBody}
use Rattle.markdown_base.specs.declared.item.ItemBody.TheVariants as body
use Rattle.markdown_document.specs.ChainRest.{open_body}
use Rattle.markdown_document.specs.Document.{Shape, unresolved, TreeNode}
use Rattle.markdown_document.specs.Waiting.{is_quiet, waits_for_pairing}
use Rattle.markdown_brackets.specs.BracketDecision.{BracketContext, Progress}
use Rattle.markdown_brackets.specs.LeftList.{Entry, done, trees_onto, all_done}
use Rattle.markdown_brackets.specs.QuietItems.{LeavesQuiet, QuietItemsLaw, WaitsAtMost}
use Rattle.markdown_brackets.specs.ReadChain.{Reader, begun, read_as, read_chain, read_past}

-- the trees put are the chain's, after those that stood there
pub all_done_trees : {A : Type 0} (chain : Forest (TreeNode A)) (left : List (Entry A))
    → trees_onto (all_done chain left) nil
    ≡ trees_onto left chain
all_done_trees nil left = refl
all_done_trees (node a below after) left = all_done_trees after (done a below ∷ left)

module _ {A : Type 0} (w : BracketContext) (others : Reader A) (leaves : LeavesQuiet others) where
  -- it is no bracket
  waits_elsewhere : (b : ItemBody) (a : TreeNode A) (below rest : Forest (TreeNode A)) (p : Progress A)
      → waits_for_pairing b
      ≡ true
      → read_as w others b a below rest p ≡ others a below rest p
  waits_elsewhere body.MaybeLinkOpen a below rest p h = cc
  waits_elsewhere body.MaybeImage a below rest p h = cc
  waits_elsewhere (body.MaybeLinkClose could) a below rest p h = cc
  waits_elsewhere other a below rest p h = refl

  read_elsewhere : (shape : Shape) (a : TreeNode A) (below rest : Forest (TreeNode A)) (p : Progress A) → is_quiet shape
      ≡ true
      → read_as w others (open_body shape) a below rest p ≡ others a below rest p
  read_elsewhere (unresolved b) a below rest p h = waits_elsewhere b a below rest p h
  read_elsewhere other a below rest p h = refl

  all_left : (chain : Forest (TreeNode A)) (p : Progress A) → p.goes_on ≡ None → WaitsAtMost chain
      → read_chain w others chain p ≡ record p { left = all_done chain p.left }
  unfolding read_chain
  all_left nil p none h = refl
  all_left (node a below rest) p none h =
      ap (λ goes_on. read_chain w others rest (read_past w others goes_on a below rest p)) none
      ∙ ap (read_chain w others rest) (read_elsewhere a.part.shape a below rest p h.0 ∙ leaves a below rest p h.0 none)
      ∙ all_left rest (record p { left = done a below ∷ p.left }) none h.1

pub quiet_items_law : {A : Type 0} → QuietItemsLaw A
quiet_items_law w others leaves chain state h =
    record { reads = all_left w others leaves chain (begun state) refl h; trees = all_done_trees chain [] }
