-- The laws of pairing, from its lemmas.
use Rattle.std.proofs.Common.{◌≡◌, Bool, true, false, List, [], ◌∷◌, Option, Some, None, refl, ap, sym, ◌∙◌}
use Rattle.std.specs.Prelude.{not, ◌&&◌, IfSome, IfNone}
use Rattle.markdown_base.specs.Forest.{Forest, nil, node, Each}
use Rattle.markdown_document.specs.Document.{TreeNode, is_unresolved, shaped, as_text}
use Rattle.markdown_document.specs.TreeNodes.{annotated, annotate}
use Rattle.markdown_document.specs.Setting.{Setting}
use Rattle.markdown_document.specs.Waiting.{text_if, as_closed}
use Rattle.markdown_delims.specs.declared.run.Run.{Run}
use Rattle.markdown_delims.specs.MayPair.{may_pair}
use Rattle.markdown_delims.specs.Pairing.{Read, done_read, waiting, texts_before, FoundOpener, found_if, nearest_opener}
use Rattle.markdown_delims.specs.Pairing.{paired, NothingOpen}
use Rattle.markdown_delims.specs.PairingFinds.{finds_in}
use Rattle.markdown_delims.specs.Layers.{extensions_of}
use Rattle.markdown_delims.specs.PairingLaws.{below_trees, NonePairs, PairingClosedLaw, PairingOrderLaw, JoinsLaw}
use Rattle.markdown_delims.specs.PairingLaws.{MissesNoneLaw, KeepsLaw, PairingNoteLaw}
use Rattle.markdown_delims.specs.Quotes.{first_turn, quotes_after, with_quotes}
use Rattle.markdown_delims.proofs.KeepLemmas.{EachTree, MakesTrees, IsReadable, runs-keep, IsClosedTree}
use Rattle.markdown_delims.proofs.KeepLemmas.{as_closed-closed, paired-closed}
use Rattle.markdown_delims.proofs.LayerLawLemmas.{one-closed, two-closed}
use Rattle.markdown_delims.proofs.OrderLemmas.{deep, paired-deep, finds-deep}

closed_nothing : {A : Type 0} (f : Forest (TreeNode A)) → EachTree IsClosedTree f → NothingOpen f
closed_nothing nil h = tt
closed_nothing (node a below after) h = (h.0, closed_nothing after h.1)

pub closed-law : {A : Type 0} → PairingClosedLaw A
closed-law s chain = closed_nothing (paired s chain) (paired-closed s chain)

-- a change below each tree, and no other
below_same : {A : Type 0} (change : Forest (TreeNode A) → Forest (TreeNode A)) (f : Forest (TreeNode A))
    → deep (λ x. x) change f ≡ below_trees change f
below_same change nil = refl
below_same change (node a below after) = ap (node a (change below)) (below_same change after)

pub order-law : {A : Type 0} → PairingOrderLaw A
order-law s change none stays chain =
    ap (paired s) (sym (below_same change chain))
    ∙ paired-deep (λ x. x) change s none (λ f h. stays f (closed_nothing f h)
    ∙ sym (below_same change f)) chain ∙ below_same change (paired s chain)

-- other notes, and no other change
notes_same : {A B : Type 0} (f : A → B) (g : Forest (TreeNode A)) → deep f (annotated f) g ≡ annotated f g
notes_same f nil = refl
notes_same f (node a below after) = ap (node (annotate f a) (annotated f below)) (notes_same f after)

pub tag-law : {A B : Type 0} → PairingNoteLaw A B
tag-law f s chain = ap (paired s) (sym (notes_same f chain))
    ∙ paired-deep f (annotated f) s refl (λ g h. sym (notes_same f g)) chain
    ∙ notes_same f (paired s chain)

-- nor do searches depend on them
pub tag-finds : {A B : Type 0} (f : A → B) (s : Setting) (chain : Forest (TreeNode A)) → finds_in s (annotated f chain)
    ≡ finds_in s chain
tag-finds f s chain = ap (finds_in s) (sym (notes_same f chain))
    ∙ finds-deep f (annotated f) s refl (λ g h. sym (notes_same f g)) chain

-- what holds for each node at every depth, and for a node that is not open if it held for one with the same block
module _ {A : Type 0} (p : TreeNode A → Type 0) (stays : (a b : TreeNode A) → p a → b.part.block ≡ a.part.block
    → is_unresolved b.part.shape ≡ false → p b) (s : Setting) where
  abbrev HoldsBelow : TreeNode A → Forest (TreeNode A) → Type 0
  HoldsBelow a below = p a × Each p below

  each_holds : (f : Forest (TreeNode A)) → EachTree HoldsBelow f → Each p f
  each_holds nil h = tt
  each_holds (node a below after) h = (h.0.0, h.0.1, each_holds after h.1)

  makes_such : MakesTrees s p HoldsBelow
  makes_such = record {
    text = λ x h. (h, tt);
    one = λ d x v inside h i. (stays x _ h refl (one-closed (extensions_of s.rules.syntax) d _), each_holds inside i);
    two = λ d x v inside h i. (stays x _ h refl (two-closed (extensions_of s.rules.syntax) d _), each_holds inside i);
  }

  same_block : (b : Bool) (a : TreeNode A) → (text_if b s.text a).part.block ≡ a.part.block
  same_block true a = refl
  same_block false a = refl

  quotes_readable : (single double : Bool) (chain : Forest (TreeNode A)) → Each p chain
      → EachTree (IsReadable p HoldsBelow s) (quotes_after single double chain)
  quotes_readable single double nil h = tt
  quotes_readable single double (node a below after) h =
      let quoted : TreeNode A = shaped (first_turn a after single double).made a in (
        (
          stays a (as_text s.text quoted) h.0 refl refl,
          (
            stays a (as_closed s.text quoted) h.0 (same_block (is_unresolved quoted.part.shape)
                quoted) (as_closed-closed s.text quoted),
            h.1,
          ),
        ),
        quotes_readable (first_turn a after single double).single (first_turn a after single double).double after h.2,
      )

  pub paired-keeps : (chain : Forest (TreeNode A)) → Each p chain → Each p (paired s chain)
  unfolding paired with_quotes
  paired-keeps chain h = each_holds (paired s chain) (runs-keep p HoldsBelow s makes_such (with_quotes chain)
      (quotes_readable false false chain h))

pub keeps-law : {A : Type 0} → KeepsLaw A
keeps-law passes stays s chain h = paired-keeps (λ a. passes a ≡ true) stays s chain h

-- a search
joins_if : {A : Type 0} (closer : Run) (dropped : Bool) (f : FoundOpener A) (o : Option (FoundOpener A)) (b : Bool)
    → may_pair f.run closer ≡ b → IfSome o (λ g. may_pair g.run closer ≡ true)
    → IfSome (found_if (not dropped && b) f o) (λ g. may_pair g.run closer ≡ true)
joins_if closer true f o b e h = h
joins_if closer false f o true e h = e
joins_if closer false f o false e h = h

pub joins-law : {A : Type 0} → JoinsLaw A
joins-law closer [] inside = tt
joins-law closer (done_read a below ∷ rs) inside = joins-law closer rs (node a below inside)
joins-law closer (waiting dropped run xs ∷ rs) inside =
    joins_if closer dropped (record { inside = inside; run = run; characters = xs; before = rs })
    (nearest_opener closer rs (texts_before xs inside)) (may_pair run closer) refl
    (joins-law closer rs (texts_before xs inside))

misses_if : {A : Type 0} (closer run : Run) (dropped : Bool) (rs : List (Read A)) (f : FoundOpener A)
    (o : Option (FoundOpener A)) (b : Bool) → may_pair run closer ≡ b → IfNone o (NonePairs closer rs)
    → IfNone (found_if (not dropped && b) f o) ((dropped ≡ false → may_pair run closer ≡ false) × NonePairs closer rs)
misses_if closer run true rs f None b e h = (λ d. absurd (no_drop d), h)
  where
    no_drop : true ≡ false → ⊥
    no_drop d = cc
misses_if closer run true rs f (Some g) b e h = tt
misses_if closer run false rs f o true e h = tt
misses_if closer run false rs f None false e h = (λ d. e, h)
misses_if closer run false rs f (Some g) false e h = tt

pub misses-law : {A : Type 0} → MissesNoneLaw A
misses-law closer [] inside = tt
misses-law closer (done_read a below ∷ rs) inside = misses-law closer rs (node a below inside)
misses-law closer (waiting dropped run xs ∷ rs) inside =
    misses_if closer run dropped rs (record { inside = inside; run = run; characters = xs; before = rs })
    (nearest_opener closer rs (texts_before xs inside)) (may_pair run closer) refl
    (misses-law closer rs (texts_before xs inside))
