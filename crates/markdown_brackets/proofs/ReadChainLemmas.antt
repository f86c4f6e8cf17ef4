-- What stays true while a chain is read, item by item.
use Rattle.std.proofs.Common.{◌≡◌, ℕ, Bool, true, false, Option, Some, None, refl, nat_le}
use Rattle.std.specs.Prelude.{if◌then◌else◌}
use Rattle.markdown_base.specs.Forest.{Forest, nil, node}
use Rattle.markdown_base.specs.declared.item.ItemBody.{ItemBody}
use Rattle.markdown_base.specs.declared.item.ItemBody.TheVariants as body
use Rattle.markdown_document.specs.ChainRest.{begun_at, end_of, open_body}
use Rattle.markdown_document.specs.Document.{TreeNode}
use Rattle.markdown_brackets.specs.BracketDecision.{BracketContext, Progress}
use Rattle.markdown_brackets.specs.ClosingBracket.{closed}
use Rattle.markdown_brackets.specs.ReadChain.{Reader, closing_of, opened, read, read_as, read_chain, read_past}

-- what holds of the chain that is left to read and of the progress stays true at each kind of item, where one is left
-- out, and where one begins later
pub record Reads {A : Type 0} (w : BracketContext) (others : Reader A) (holds : Forest (TreeNode A) → Progress A
    → Type 0)
    : Type 0 where
  pub opens : (is_image : Bool) (a : TreeNode A) (below rest : Forest (TreeNode A)) (p : Progress A)
      → holds (node a below rest) p → holds rest (opened w is_image a rest p)
  pub closes : (could : Bool) (a : TreeNode A) (below rest : Forest (TreeNode A)) (p : Progress A)
      → open_body a.part.shape ≡ body.MaybeLinkClose could → holds (node a below rest) p
      → holds rest (closed w (closing_of could a rest p) p)
  pub other : (a : TreeNode A) (below rest : Forest (TreeNode A)) (p : Progress A) → holds (node a below rest) p
      → holds rest (others a below rest p)
  pub passes : (a : TreeNode A) (below rest : Forest (TreeNode A)) (p : Progress A) → holds (node a below rest) p
      → holds rest p
  pub cuts : (i : ℕ) (a : TreeNode A) (below rest : Forest (TreeNode A)) (p : Progress A) → holds (node a below rest) p
      → holds (node (begun_at i a) below rest) (record p { goes_on = None })

module _ {A : Type 0} {w : BracketContext} {others : Reader A} {holds : Forest (TreeNode A) → Progress A → Type 0}
    (k : Reads w others holds) where
  as_keeps : (b : ItemBody) (a : TreeNode A) (below rest : Forest (TreeNode A)) (p : Progress A)
      → open_body a.part.shape ≡ b → holds (node a below rest) p → holds rest (read_as w others b a below rest p)
  as_keeps body.MaybeLinkOpen a below rest p e h = k.opens false a below rest p h
  as_keeps body.MaybeImage a below rest p e h = k.opens true a below rest p h
  as_keeps (body.MaybeLinkClose could) a below rest p e h = k.closes could a below rest p e h
  as_keeps b a below rest p e h = k.other a below rest p h

  past_keeps : (goes_on : Option ℕ) (a : TreeNode A) (below rest : Forest (TreeNode A)) (p : Progress A)
      → holds (node a below rest) p → holds rest (read_past w others goes_on a below rest p)
  past_keeps None a below rest p h = as_keeps (open_body a.part.shape) a below rest p refl h
  past_keeps (Some i) a below rest p h = by (nat_le (end_of a) i)
    where
      by : (b : Bool)
          → holds rest (if b then p else read w others (begun_at i a) below rest (record p { goes_on = None }))
      by true = k.passes a below rest p h
      by false = as_keeps (open_body (begun_at i a).part.shape) (begun_at i a) below rest
          (record p { goes_on = None }) refl (k.cuts i a below rest p h)

  pub chain_keeps : (chain : Forest (TreeNode A)) (p : Progress A) → holds chain p
      → holds nil (read_chain w others chain p)
  unfolding read_chain
  chain_keeps nil p h = h
  chain_keeps (node a below rest) p h =
      chain_keeps rest (read_past w others p.goes_on a below rest p) (past_keeps p.goes_on a below rest p h)
