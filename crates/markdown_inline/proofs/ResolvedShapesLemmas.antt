-- A test that accepts all that can be made and all of a chain accepts all that the chain is resolved to: what it does
-- not accept is counted, and what is made adds nothing.
use Rattle.std.proofs.Common.{◌≡◌, ℕ, Bool, true, false, List, [], ◌∷◌, refl, ap, arith}
use Rattle.std.specs.Prelude.{if◌then◌else◌}
use Rattle.markdown_base.specs.Event.{TagView, link, image}
use Rattle.markdown_base.specs.Forest.{Forest, nil, node, Each}
use Rattle.markdown_document.specs.ChainRest.{cut_shape}
use Rattle.markdown_document.specs.Document.{Shape, leaf, enclosed, TreeNode}
use Rattle.markdown_delims.proofs.SumLemmas.{sum_of}
use Rattle.markdown_inline.specs.ResolvedDocument.{resolved_chain}
use Rattle.markdown_inline.specs.ResolvedShapes.{IsMadeShape, IsMadeTag, IsPairedTag, ShapesLaw}
use Rattle.markdown_inline.proofs.EndOrderLemmas.{total, total_append, total_ends}
use Rattle.markdown_inline.proofs.ResolvedEndsLemmas.{Keeps, resolved_holds}

-- 1 for what the test does not accept
abbrev unless_passed : Bool → List ℕ
unless_passed b = if b then [] else 1 ∷ []

passed_none : (b : Bool) → b ≡ true → unless_passed b ≡ []
passed_none true e = refl
passed_none false e = cc e

none_passed : (b : Bool) → total (unless_passed b) ≡ 0 → b ≡ true
none_passed true e = refl
none_passed false e = cc e

mark_made : (tag : TagView) → IsPairedTag tag → IsMadeTag tag
mark_made (link v) h = tt
mark_made (image v) h = tt
mark_made other h = h

module _ (passes : Shape → Bool) (made : (shape : Shape) → IsMadeShape shape → passes shape ≡ true)
    (cuts : (n : ℕ) (shape : Shape) → passes (cut_shape n shape) ≡ passes shape) where
  abbrev own : Shape → List ℕ
  own shape = unless_passed (passes shape)

  none_made : (shape : Shape) → IsMadeShape shape → own shape ≡ []
  none_made shape h = passed_none (passes shape) (made shape h)

  passes_keep : Keeps own (λ ns limit. total ns ≡ 0)
  passes_keep = record {
    numbers = record {
      lone = λ e origins h. none_made (leaf e origins) h;
      mark = λ tag h. none_made (enclosed tag []) (mark_made tag h);
    };
    cut = λ n shape. ap unless_passed (cuts n shape);
    other_link = λ v titles e. none_made (enclosed (link v) titles) tt;
    other_image = λ v titles e. none_made (enclosed (image v) titles) tt;
    less = λ ns ms limit w e. omega (arith, w.sums, e);
    link_found = λ ns limit v h e. omega
        (arith, total_append ns (own (enclosed (link v) [])), e, ap total (none_made (enclosed (link v) []) tt));
    image_found = λ ns limit v h e. omega (
      arith,
      total_append ns (own (enclosed (image v) [])),
      e,
      ap total (none_made (enclosed (image v) []) tt),
    );
  }

  module _ {A : Type 0} where
    none_in : (f : Forest (TreeNode A)) → Each (λ (a : TreeNode A). passes a.part.shape ≡ true) f
        → Each (λ (a : TreeNode A). own a.part.shape ≡ []) f
    none_in nil h = tt
    none_in (node a below after) h = (passed_none (passes a.part.shape) h.0, none_in below h.1, none_in after h.2)

    all_pass : (f : Forest (TreeNode A)) → sum_of (λ (a : TreeNode A). total (own a.part.shape)) f ≡ 0
        → Each (λ (a : TreeNode A). passes a.part.shape ≡ true) f
    all_pass nil e = tt
    all_pass (node a below after) e = (
      none_passed (passes a.part.shape) (omega (arith, e)),
      all_pass below (omega (arith, e)),
      all_pass after
          (omega (arith, e)),
    )

pub shapes-law : {A : Type 0} → ShapesLaw A
shapes-law passes made cuts s notes above chain state h =
    let trees = (resolved_chain s notes above chain state).trees in
    let none = resolved_holds (own passes made cuts) (λ ns limit. total ns ≡ 0) (passes_keep passes made cuts) s notes
    above chain state
    (none_in passes made cuts chain h) refl in
    all_pass passes made cuts trees (omega (arith, none, total_ends (own passes made cuts) trees []))
