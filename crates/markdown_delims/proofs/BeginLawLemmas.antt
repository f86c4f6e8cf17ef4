-- A chain whose first tree reads as more than what is below it begins with an event, once it is paired.
use Rattle.std.proofs.Common.{◌≡◌, false, refl}
use Rattle.std.specs.Prelude.{⊤}
use Rattle.markdown_base.specs.Forest.{Forest, nil, node}
use Rattle.markdown_document.specs.Document.{Shape, plain, TreeNode}
use Rattle.markdown_document.specs.TreeNodes.{GivesFirst, Begins, is_plain}
use Rattle.markdown_document.specs.Setting.{Setting}
use Rattle.markdown_delims.specs.Layers.{extensions_of}
use Rattle.markdown_delims.specs.Pairing.{paired}
use Rattle.markdown_delims.specs.PairingLaws.{PairingBeginsLaw}
use Rattle.markdown_delims.specs.Quotes.{kind_of_shape, is_closed_later, is_end, quotes_after, with_quotes}
use Rattle.markdown_delims.proofs.ChainLawLemmas.{KeptByPairing, kept-by-pairing}
use Rattle.markdown_delims.proofs.KeepLemmas.{EachTree, IsClosedTree, paired-closed}
use Rattle.markdown_delims.proofs.LayerLawLemmas.{one-gives, two-gives, gives-first, turn-made}

-- the first tree of a chain, which is not empty, reads as more than what is below it: this holds at each step
abbrev IsMore : {A : Type 0} → ⊤ → Forest (TreeNode A) → Type 0
IsMore any nil = ⊥
IsMore any (node a below after) = is_plain a.part.shape ≡ false

gives_more : (shape : Shape) → GivesFirst shape → is_plain shape ≡ false
gives_more plain h = absurd h
gives_more other h = refl

more_kept : {A : Type 0} (s : Setting) → KeptByPairing {A = A} s IsMore
more_kept s = record {
  after = λ a below f g h i k. k;
  text = λ a below f g h i k. refl;
  closed = λ a below after opens i k. refl;
  one = λ d x v inside rest c i k. gives_more _ (one-gives (extensions_of s.rules.syntax) d _);
  two = λ d x y v w inside rest c i k. gives_more _ (two-gives (extensions_of s.rules.syntax) d _);
}

more_begins : {A : Type 0} (chain : Forest (TreeNode A)) → IsMore tt chain → EachTree IsClosedTree chain → Begins chain
more_begins nil h c = h
more_begins (node a below after) h c = gives-first a.part.shape h c.0

pub begins-law : {A : Type 0} → PairingBeginsLaw A
unfolding paired with_quotes
begins-law {A} s a below after p =
    more_begins (paired s (node a below after))
    (kept-by-pairing s IsMore (more_kept s) tt (quotes_after false false (node a below after))
    (turn-made (λ shape. is_plain shape ≡ false) (λ c. refl) (kind_of_shape a.part.shape) a.part.shape false false
    (is_closed_later after) (is_end after) p))
    (paired-closed s (node a below after))
