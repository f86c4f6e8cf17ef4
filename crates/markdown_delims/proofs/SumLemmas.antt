-- Pairing does not increase sums over the nodes of a chain, if the nodes that it makes do not: each node that is made
-- replaces a character.
use Rattle.std.proofs.Common.{◌≡◌, ℕ, ◌+◌, ◌≤◌, Bool, false, arith}
use Rattle.markdown_base.specs.Forest.{Forest, nil, node}
use Rattle.markdown_document.specs.ChainRest.{joined_chains}
use Rattle.markdown_document.specs.Document.{TreeNode, shaped, as_text}
use Rattle.markdown_document.specs.Setting.{Setting}
use Rattle.markdown_delims.specs.declared.run.Delimiter.{Delimiter}
use Rattle.markdown_delims.specs.Layers.{extensions_of, layer_of_one, layer_of_two, spanned}
use Rattle.markdown_delims.specs.Pairing.{paired}
use Rattle.markdown_delims.specs.Quotes.{first_turn, quotes_after, with_quotes}
use Rattle.markdown_delims.proofs.ChainLawLemmas.{KeptByPairing, kept-by-pairing}

-- the sum over the nodes of a forest
abbrev pub sum_of : {A : Type 0} → (TreeNode A → ℕ) → Forest (TreeNode A) → ℕ
sum_of g nil = 0
sum_of g (node a below after) = g a + (sum_of g below + sum_of g after)

-- what is made counts no more than what it is made of
pub record CountsNoMore {A : Type 0} (s : Setting) (g : TreeNode A → ℕ) : Type 0 where
  pub text : (a : TreeNode A) → g (as_text s.text a) ≤ g a
  pub one : (d : Delimiter) (x v : TreeNode A) → g (spanned s.text (layer_of_one
      (extensions_of s.rules.syntax) d) x v) ≤ g x
  pub two : (d : Delimiter) (x v : TreeNode A) → g (spanned s.text (layer_of_two
      (extensions_of s.rules.syntax) d) x v) ≤ g x
  pub quote : (a : TreeNode A) (after : Forest (TreeNode A)) (single double : Bool)
      → g (shaped (first_turn a after single double).made a) ≤ g a

module _ {A : Type 0} (s : Setting) (g : TreeNode A → ℕ) (no_more : CountsNoMore s g) where
  sum_joined : (f h : Forest (TreeNode A)) → sum_of g (joined_chains f h) ≡ sum_of g f + sum_of g h
  sum_joined nil h = omega arith
  sum_joined (node a below after) h = omega (arith, sum_joined after h)

  -- a chain counts n at most
  abbrev AtMost : ℕ → Forest (TreeNode A) → Type 0
  AtMost n chain = sum_of g chain ≤ n

  at_most_kept : KeptByPairing s AtMost
  at_most_kept = record {
    after = λ a below f h less n k. omega (arith, k, less (sum_of g f) (omega arith));
    text = λ a below f h less n k. omega (arith, k, less (sum_of g f) (omega arith), no_more.text a);
    closed = λ a below after opens n k. omega (arith, k, no_more.text a);
    one = λ d x v inside rest c n k. omega (arith, k, no_more.one d x v, sum_joined inside (node v nil rest));
    two = λ d x y v w inside rest c n k.
        omega (arith, k, no_more.two d y w, sum_joined inside (node v nil (node w nil rest)));
  }

  sum_quotes : (single double : Bool) (chain : Forest (TreeNode A)) → sum_of g
      (quotes_after single double chain) ≤ sum_of
      g chain
  sum_quotes single double nil = omega arith
  sum_quotes single double (node a below after) =
      omega (
        arith,
        no_more.quote a after single double,
        sum_quotes (first_turn a after single double).single
            (first_turn a after single double).double after,
      )

  -- pairing raises no such sum
  pub sum-paired : (chain : Forest (TreeNode A)) → sum_of g (paired s chain) ≤ sum_of g chain
  unfolding paired with_quotes
  sum-paired chain =
      let quoted : Forest (TreeNode A) = quotes_after false false chain in
      omega (
        arith,
        kept-by-pairing s AtMost at_most_kept (sum_of g quoted) quoted (omega arith),
        sum_quotes false false chain,
      )
