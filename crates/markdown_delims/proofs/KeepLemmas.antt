-- What holds for the characters of a chain as Texts and for its trees, and for a layer if it holds for what the layer
-- is made from, holds for each tree that pairing makes from the chain. So nothing of the chain stays open.
use Rattle.std.proofs.Common.{◌≡◌, ℕ, zero, suc, Bool, true, false, List, [], ◌∷◌, refl, map}
use Rattle.std.specs.Prelude.{⊤, IfSome, not, ◌&&◌}
use Rattle.std.specs.List.{AllByRecursion}
use Rattle.std.proofs.lemmas.Option.{IfSome_then}
use Rattle.markdown_base.specs.Forest.{Forest, nil, node}
use Rattle.markdown_document.specs.Document.{TreeNode, is_unresolved, as_text}
use Rattle.markdown_document.specs.Setting.{Setting}
use Rattle.markdown_document.specs.Waiting.{text_if, as_closed}
use Rattle.markdown_delims.specs.declared.run.Delimiter.{Delimiter}
use Rattle.markdown_delims.specs.declared.run.Run.{Run}
use Rattle.markdown_delims.specs.Layers.{extensions_of, layer_of_one, layer_of_two, spanned}
use Rattle.markdown_delims.specs.MayPair.{may_pair}
use Rattle.markdown_delims.specs.Pairing.{Read, done_read, waiting, texts_before, characters_done, read_trees}
use Rattle.markdown_delims.specs.Pairing.{FoundOpener, nearest_opener, drop_read, Layers, layers, trees_done}
use Rattle.markdown_delims.specs.Pairing.{still_waiting, last_first, opened_if, after_layers, first_texts, reads_from}
use Rattle.markdown_delims.specs.Pairing.{runs_paired, paired}
use Rattle.markdown_delims.specs.Quotes.{with_quotes}
use Rattle.markdown_delims.proofs.LayerLawLemmas.{one-closed, two-closed}
use Rattle.markdown_delims.proofs.StepLawLemmas.{later, StaysTrue, found-if, reads-stay}

-- t holds of each tree of a chain: of its node and of what is below it
abbrev pub EachTree : {A : Type 0} → (TreeNode A → Forest (TreeNode A) → Type 0) → Forest (TreeNode A) → Type 0
EachTree t nil = ⊤
EachTree t (node a below after) = t a below × EachTree t after

-- t holds of each tree that is made where c holds of the characters and t of the trees
pub record MakesTrees {A : Type 0} (s : Setting) (c : TreeNode A → Type 0) (t : TreeNode A → Forest (TreeNode A)
    → Type 0) : Type
    0 where
  pub text : (x : TreeNode A) → c x → t x nil
  pub one : (d : Delimiter) (x v : TreeNode A) (inside : Forest (TreeNode A)) → c x → EachTree t inside
      → t (spanned s.text (layer_of_one (extensions_of s.rules.syntax) d) x v) inside
  pub two : (d : Delimiter) (x v : TreeNode A) (inside : Forest (TreeNode A)) → c x → EachTree t inside
      → t (spanned s.text (layer_of_two (extensions_of s.rules.syntax) d) x v) inside

pub turned-all : {A : Type 0} (c : TreeNode A → Type 0) (xs ys : List (TreeNode A)) → AllByRecursion c xs
    → AllByRecursion c ys → AllByRecursion c (last_first xs ys)
turned-all c [] ys h k = k
turned-all c (x ∷ xs) ys h k = turned-all c xs (x ∷ ys) h.1 (h.0, k)

-- w holds of each run that is open, with its characters, and t of each tree that was read
module _ {A : Type 0} (w : Run → List (TreeNode A) → Type 0) (t : TreeNode A → Forest (TreeNode A) → Type 0) where
  abbrev pub EachReadOf : List (Read A) → Type 0
  EachReadOf [] = ⊤
  EachReadOf (done_read a below ∷ rs) = t a below × EachReadOf rs
  EachReadOf (waiting dropped run xs ∷ rs) = w run xs × EachReadOf rs

  abbrev pub FoundOf : FoundOpener A → Type 0
  FoundOf f = EachTree t f.inside × w f.run f.characters × EachReadOf f.before

  pub dropped-keep : (d : Delimiter) (rs : List (Read A)) → EachReadOf rs → EachReadOf (map (drop_read d) rs)
  dropped-keep d [] h = h
  dropped-keep d (done_read a below ∷ rs) h = (h.0, dropped-keep d rs h.1)
  dropped-keep d (waiting dropped run xs ∷ rs) h = (h.0, dropped-keep d rs h.1)

  pub done-trees-keep : (f : Forest (TreeNode A)) (rs : List (Read A)) → EachTree t f → EachReadOf rs
      → EachReadOf (trees_done f rs)
  done-trees-keep nil rs h k = k
  done-trees-keep (node a below after) rs h k = done-trees-keep after (done_read a below ∷ rs) h.1 (h.0, k)

  pub still-keeps : (run : Run) (xs : List (TreeNode A)) (rs : List (Read A)) → w run xs → EachReadOf rs
      → EachReadOf (still_waiting run xs rs)
  still-keeps run [] rs h k = k
  still-keeps run (x ∷ xs) rs h k = (h, k)

  -- the characters may become Texts
  abbrev pub AreTexts : List (TreeNode A) → Type 0
  AreTexts xs = AllByRecursion (λ (x : TreeNode A). t x nil) xs

  texts_keep : (xs : List (TreeNode A)) (chain : Forest (TreeNode A)) → AreTexts xs → EachTree t chain
      → EachTree t (texts_before xs chain)
  texts_keep [] chain h k = k
  texts_keep (x ∷ xs) chain h k = texts_keep xs (node x nil chain) h.1 (h.0, k)

  done_keeps : (xs : List (TreeNode A)) (rs : List (Read A)) → AreTexts xs → EachReadOf rs
      → EachReadOf (characters_done xs rs)
  done_keeps [] rs h k = k
  done_keeps (x ∷ xs) rs h k = (h.0, done_keeps xs rs h.1 k)

  pub opened-keeps : (b : Bool) (run : Run) (xs : List (TreeNode A)) (rs : List (Read A)) → (b ≡ true → w run xs)
      → AreTexts xs → EachReadOf rs → EachReadOf (opened_if b run xs rs)
  opened-keeps true run xs rs o h k = (o refl, k)
  opened-keeps false run xs rs o h k = done_keeps xs rs h k

  module _ (texts : (run : Run) (xs : List (TreeNode A)) → w run xs → AreTexts xs) where
    pub trees-keep : (rs : List (Read A)) (after : Forest (TreeNode A)) → EachReadOf rs → EachTree t after
        → EachTree t (read_trees rs after)
    trees-keep [] after h k = k
    trees-keep (done_read a below ∷ rs) after h k = trees-keep rs (node a below after) h.1 (h.0, k)
    trees-keep (waiting dropped run xs ∷ rs) after h k =
        trees-keep rs (texts_before xs after) h.1 (texts_keep xs after (texts run xs h.0) k)

    pub nearest-keeps-of : (closer : Run) (rs : List (Read A)) (inside : Forest (TreeNode A)) → EachReadOf rs
        → EachTree t inside → IfSome (nearest_opener closer rs inside) FoundOf
    nearest-keeps-of closer [] inside h k = tt
    nearest-keeps-of closer (done_read a below ∷ rs) inside h k =
        nearest-keeps-of closer rs (node a below inside) h.1 (h.0, k)
    nearest-keeps-of closer (waiting dropped run xs ∷ rs) inside h k =
        found-if FoundOf (not dropped && may_pair run closer)
        (record { inside = inside; run = run; characters = xs; before = rs })
        (nearest_opener closer rs (texts_before xs inside)) (k, h.0, h.1)
        (nearest-keeps-of closer rs (texts_before xs inside) h.1 (texts_keep xs inside (texts run xs h.0) k))

module _ {A : Type 0} (c : TreeNode A → Type 0) (t : TreeNode A → Forest (TreeNode A) → Type 0) where
  -- a tree that is still to be read
  abbrev pub IsReadable : Setting → TreeNode A → Forest (TreeNode A) → Type 0
  IsReadable s a below = c (as_text s.text a) × t (as_closed s.text a) below

  -- what was read
  abbrev AreOpen : Run → List (TreeNode A) → Type 0
  AreOpen run xs = AllByRecursion c xs

  abbrev pub EachRead : List (Read A) → Type 0
  EachRead rs = EachReadOf AreOpen t rs

  abbrev pub EachFound : FoundOpener A → Type 0
  EachFound f = FoundOf AreOpen t f

  abbrev EachLayer : Layers A → Type 0
  EachLayer l = EachTree t l.whole × AllByRecursion c l.opening × AllByRecursion c l.closing

  module _ (s : Setting) (makes : MakesTrees s c t) where
    are_texts : (run : Run) (xs : List (TreeNode A)) → AreOpen run xs → AreTexts AreOpen t xs
    are_texts run [] h = tt
    are_texts run (x ∷ xs) h = (makes.text x h.0, are_texts run xs h.1)

    pub nearest-keeps : (closer : Run) (rs : List (Read A)) (inside : Forest (TreeNode A)) → EachRead rs
        → EachTree t inside → IfSome (nearest_opener closer rs inside) EachFound
    nearest-keeps closer rs inside h k = nearest-keeps-of AreOpen t are_texts closer rs inside h k

    layers_keep : (d : Delimiter) (xs vs : List (TreeNode A)) (inside : Forest (TreeNode A)) → AllByRecursion c xs
        → AllByRecursion c vs
        → EachTree t inside → EachLayer (layers s d xs vs inside)
    layers_keep d [] vs inside h k i = (i, tt, k)
    layers_keep d (x ∷ xs) [] inside h k i = (i, h, tt)
    layers_keep d (x ∷ []) (v ∷ vs) inside h k i = ((makes.one d x v inside h.0 i, tt), tt, k.1)
    layers_keep d (x ∷ y ∷ xs) (v ∷ []) inside h k i = ((makes.one d x v inside h.0 i, tt), h.1, tt)
    layers_keep d (x ∷ y ∷ xs) (v ∷ w ∷ vs) inside h k i =
        layers_keep d xs vs (node (spanned s.text (layer_of_two
        (extensions_of s.rules.syntax) d) y w) inside nil) h.1.1
        k.1.1
        (makes.two d y w inside h.1.0 i, tt)

    pub firsts-keep : (n : ℕ) (chain : Forest (TreeNode A)) → EachTree (IsReadable s) chain
        → AllByRecursion c (first_texts s.text n chain)
        × EachTree (IsReadable s) (later n chain)
    firsts-keep zero chain h = (tt, h)
    firsts-keep (suc n) nil h = (tt, tt)
    firsts-keep (suc n) (node a below after) h = ((h.0.0, (firsts-keep n after h.1).0), (firsts-keep n after h.1).1)

    -- a closer's characters, what was read and what is still to be read
    abbrev pub Holds : List (TreeNode A) → List (Read A) → Forest (TreeNode A) → Type 0
    Holds vs rs rest = AllByRecursion c vs × EachRead rs × EachTree (IsReadable s) rest

    pub found-keeps : (vs : List (TreeNode A)) (rest : Forest (TreeNode A)) (f : FoundOpener A) → AllByRecursion c vs
        → EachTree (IsReadable s) rest → EachFound f
        → Holds (layers s f.run.delimiter f.characters vs f.inside).closing
        (after_layers f (layers s f.run.delimiter f.characters vs f.inside)) rest
    found-keeps vs rest f h k g =
        let made : Layers A = layers s f.run.delimiter f.characters vs f.inside in
        let l = layers_keep f.run.delimiter f.characters vs f.inside g.1 h g.0 in (
          l.2,
          done-trees-keep AreOpen t made.whole (still_waiting f.run made.opening f.before) l.0
              (still-keeps AreOpen t f.run made.opening f.before l.1 g.2),
          k,
        )

    pub holds-on : StaysTrue s Holds
    holds-on = record {
      tree = λ a below after rs h. (tt, (h.2.0.1, h.1), h.2.1);
      skip = λ a below after rs h. (tt, h.1, h.2.1);
      texts = λ n chain rs h. ((firsts-keep n chain h.2).0, h.1, (firsts-keep n chain h.2).1);
      dropped = λ d vs rs rest h. (h.0, dropped-keep AreOpen t d rs h.1, h.2);
      left = λ closer vs rs rest h.
          let turned = turned-all c vs [] h.0 tt in (
            tt,
            opened-keeps AreOpen t closer.can_open closer (last_first vs []) rs (λ _. turned)
                (are_texts closer (last_first vs []) turned) h.1,
            h.2,
          );
      found = λ closer vs rs rest h. IfSome_then (nearest_opener closer rs nil) (nearest-keeps closer rs nil h.1 tt)
          (λ f g. found-keeps vs rest f h.0 h.2 g);
    }

    pub runs-keep : (chain : Forest (TreeNode A)) → EachTree (IsReadable s) chain → EachTree t (runs_paired s chain)
    unfolding runs_paired
    runs-keep chain h = trees-keep AreOpen t are_texts (reads_from s 0 chain []) nil
        (reads-stay s Holds holds-on 0 chain [] (tt, tt, h)).1 tt

-- a node is not open; nor is that of a tree
abbrev pub IsClosed : {A : Type 0} → TreeNode A → Type 0
IsClosed a = is_unresolved a.part.shape ≡ false

abbrev pub IsClosedTree : {A : Type 0} → TreeNode A → Forest (TreeNode A) → Type 0
IsClosedTree a below = IsClosed a

closed_text : {A : Type 0} (source : List ℕ) (b : Bool) (a : TreeNode A) → is_unresolved a.part.shape ≡ b
    → IsClosed (text_if b source a)
closed_text source true a e = refl
closed_text source false a e = e

pub as_closed-closed : {A : Type 0} (source : List ℕ) (a : TreeNode A) → IsClosed (as_closed source a)
as_closed-closed source a = closed_text source (is_unresolved a.part.shape) a refl

-- it becomes so, whatever it was
pub readable : {A : Type 0} (s : Setting) (chain : Forest (TreeNode A)) → EachTree (IsReadable IsClosed IsClosedTree s)
    chain
readable s nil = tt
readable s (node a below after) = ((refl, as_closed-closed s.text a), readable s after)

pub makes-closed : {A : Type 0} (s : Setting) → MakesTrees {A = A} s IsClosed IsClosedTree
makes-closed s = record {
  text = λ x h. h;
  one = λ d x v inside h i. one-closed (extensions_of s.rules.syntax) d _;
  two = λ d x v inside h i. two-closed (extensions_of s.rules.syntax) d _;
}

-- nothing of the chain stays open
pub paired-closed : {A : Type 0} (s : Setting) (chain : Forest (TreeNode A)) → EachTree IsClosedTree (paired s chain)
unfolding paired
paired-closed s chain = runs-keep IsClosed IsClosedTree s (makes-closed s) (with_quotes chain)
    (readable s (with_quotes chain))
