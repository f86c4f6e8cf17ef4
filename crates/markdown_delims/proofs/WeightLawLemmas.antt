-- Pairing does not increase the weight of a chain: what it makes weighs at most what it replaces.
use Rattle.std.proofs.Common.{◌≡◌, ℕ, ◌≤◌, Bool, false, refl, sym, subst, arith}
use Rattle.markdown_base.specs.Forest.{Forest, nil, node}
use Rattle.markdown_document.specs.Document.{TreeNode, is_unresolved}
use Rattle.markdown_document.specs.TreeNodes.{weight}
use Rattle.markdown_document.specs.Setting.{Setting}
use Rattle.markdown_document.specs.Totals.{weight_if}
use Rattle.markdown_document.proofs.PlaceLemmas.{some_weight}
use Rattle.markdown_delims.specs.Layers.{extensions_of}
use Rattle.markdown_delims.specs.PairingLaws.{PairingWeightLaw}
use Rattle.markdown_delims.specs.Pairing.{paired}
use Rattle.markdown_delims.specs.Quotes.{kind_of_shape, is_closed_later, is_end}
use Rattle.markdown_delims.proofs.LayerLawLemmas.{one-closed, two-closed, turn-made}
use Rattle.markdown_delims.proofs.SumLemmas.{sum_of, CountsNoMore, sum-paired}

abbrev pub weighs : {A : Type 0} → TreeNode A → ℕ
weighs a = weight_if (is_unresolved a.part.shape)

-- what is not open weighs least
least : (b c : Bool) → b ≡ false → weight_if b ≤ weight_if c
least b c e = subst (λ x. weight_if x ≤ weight_if c) (sym e) (some_weight c)

pub weights-count : {A : Type 0} (s : Setting) → CountsNoMore {A = A} s weighs
weights-count s = record {
  text = λ a. some_weight (is_unresolved a.part.shape);
  one = λ d x v. least _ (is_unresolved x.part.shape) (one-closed (extensions_of s.rules.syntax) d _);
  two = λ d x v. least _ (is_unresolved x.part.shape) (two-closed (extensions_of s.rules.syntax) d _);
  quote = λ a after single double.
      turn-made (λ shape. weight_if (is_unresolved shape) ≤ weighs a) (λ c. some_weight (is_unresolved a.part.shape))
      (kind_of_shape a.part.shape) a.part.shape single double (is_closed_later after) (is_end after)
      (omega arith);
}

weight_sum : {A : Type 0} (f : Forest (TreeNode A)) → weight f ≡ sum_of weighs f
weight_sum nil = refl
weight_sum (node a below after) = omega (arith, weight_sum below, weight_sum after)

pub weight-law : {A : Type 0} → PairingWeightLaw A
weight-law s chain = omega (
  arith,
  weight_sum (paired s chain),
  weight_sum chain,
  sum-paired s weighs (weights-count s)
      chain,
)
