-- What was read, a closer's characters and what is still to be read stand in one chain. So a law of chains that holds
-- after each change of trees that pairing makes holds of what it makes of a whole chain.
use Rattle.std.proofs.Common.{◌≡◌, ℕ, zero, suc, ◌-◌, ◌<◌, Bool, true, false, List, [], ◌∷◌, map, refl, ap, sym, ◌∙◌}
use Rattle.std.proofs.Common.{subst, arith}
use Rattle.std.specs.Prelude.{IfSome, not, ◌&&◌}
use Rattle.markdown_base.specs.Forest.{Forest, nil, node}
use Rattle.markdown_base.proofs.OptionLemmas.{if_both}
use Rattle.markdown_document.specs.ChainRest.{joined_chains}
use Rattle.markdown_document.specs.Document.{TreeNode, is_unresolved, as_text}
use Rattle.markdown_document.specs.Setting.{Setting}
use Rattle.markdown_document.specs.Waiting.{text_if, as_closed}
use Rattle.markdown_delims.specs.declared.run.Delimiter.{Delimiter}
use Rattle.markdown_delims.specs.declared.run.Run.{Run}
use Rattle.markdown_delims.specs.Layers.{extensions_of, layer_of_one, layer_of_two, spanned}
use Rattle.markdown_delims.specs.MayPair.{may_pair}
use Rattle.markdown_delims.specs.Pairing.{Read, done_read, waiting, texts_before, characters_done, read_trees}
use Rattle.markdown_delims.specs.Pairing.{FoundOpener, nearest_opener, drop_read, Layers, layers, trees_done}
use Rattle.markdown_delims.specs.Pairing.{still_waiting, last_first, opened_if, left_over, after_layers, first_texts}
use Rattle.markdown_delims.specs.Pairing.{runs_paired}
use Rattle.markdown_delims.proofs.KeepLemmas.{EachTree, EachFound, IsClosedTree, IsClosed, Holds, holds-on}
use Rattle.markdown_delims.proofs.KeepLemmas.{nearest-keeps, found-keeps, makes-closed, readable}
use Rattle.markdown_delims.proofs.LayerLawLemmas.{two-closed}
use Rattle.markdown_delims.proofs.StepLawLemmas.{Any, StaysTrueOf, found-if, later, of_any, reads-stay-of, run-long}

module _ {A : Type 0} where
  -- characters before a chain, the first one first
  abbrev pub forward : List (TreeNode A) → Forest (TreeNode A) → Forest (TreeNode A)
  forward [] chain = chain
  forward (v ∷ vs) chain = node v nil (forward vs chain)

  -- what is added to what was read precedes the chain
  dropped_before : (d : Delimiter) (rs : List (Read A)) (chain : Forest (TreeNode A))
      → read_trees (map (drop_read d) rs) chain ≡ read_trees rs chain
  dropped_before d [] chain = refl
  dropped_before d (done_read a below ∷ rs) chain = dropped_before d rs (node a below chain)
  dropped_before d (waiting dropped run xs ∷ rs) chain = dropped_before d rs (texts_before xs chain)

  done_before : (xs : List (TreeNode A)) (rs : List (Read A)) (chain : Forest (TreeNode A))
      → read_trees (characters_done xs rs) chain ≡ read_trees rs (texts_before xs chain)
  done_before [] rs chain = refl
  done_before (x ∷ xs) rs chain = done_before xs rs (node x nil chain)

  opened_before : (b : Bool) (run : Run) (xs : List (TreeNode A)) (rs : List (Read A)) (chain : Forest (TreeNode A))
      → read_trees (opened_if b run xs rs) chain ≡ read_trees rs (texts_before xs chain)
  opened_before true run xs rs chain = refl
  opened_before false run xs rs chain = done_before xs rs chain

  turned : (vs ys : List (TreeNode A)) (chain : Forest (TreeNode A))
      → texts_before (last_first vs ys) chain ≡ texts_before ys (forward vs chain)
  turned [] ys chain = refl
  turned (v ∷ vs) ys chain = turned vs (v ∷ ys) chain

  left_before : (run : Run) (vs : List (TreeNode A)) (rs : List (Read A)) (chain : Forest (TreeNode A))
      → read_trees (left_over run vs rs) chain ≡ read_trees rs (forward vs chain)
  left_before run vs rs chain = opened_before run.can_open run (last_first vs []) rs chain
      ∙ ap (read_trees rs) (turned vs [] chain)

  still_before : (run : Run) (xs : List (TreeNode A)) (rs : List (Read A)) (chain : Forest (TreeNode A))
      → read_trees (still_waiting run xs rs) chain ≡ read_trees rs (texts_before xs chain)
  still_before run [] rs chain = refl
  still_before run (x ∷ xs) rs chain = refl

  pub trees_before : (f : Forest (TreeNode A)) (rs : List (Read A)) (chain : Forest (TreeNode A))
      → read_trees (trees_done f rs) chain ≡ read_trees rs (joined_chains f chain)
  trees_before nil rs chain = refl
  trees_before (node a below after) rs chain = trees_before after (done_read a below ∷ rs) chain

  pub nothing_follows : (chain : Forest (TreeNode A)) → joined_chains chain nil ≡ chain
  nothing_follows nil = refl
  nothing_follows (node a below after) = ap (node a below) (nothing_follows after)

  texts_joined : (xs : List (TreeNode A)) (f g : Forest (TreeNode A))
      → texts_before xs (joined_chains f g) ≡ joined_chains (texts_before xs f) g
  texts_joined [] f g = refl
  texts_joined (x ∷ xs) f g = texts_joined xs (node x nil f) g

  -- what holds of a chain holds of it with the run that a search finds in its place
  nearest_stands : (q : Forest (TreeNode A) → Type 0) (rest : Forest (TreeNode A)) (closer : Run) (rs : List (Read A))
      (inside : Forest (TreeNode A)) → q (read_trees rs (joined_chains inside rest))
      → IfSome (nearest_opener closer rs inside)
      (λ f. q (read_trees f.before (texts_before f.characters (joined_chains f.inside rest))))
  nearest_stands q rest closer [] inside h = tt
  nearest_stands q rest closer (done_read a below ∷ rs) inside h
      = nearest_stands q rest closer rs (node a below inside) h
  nearest_stands q rest closer (waiting dropped run xs ∷ rs) inside h =
      found-if (λ f. q (read_trees f.before (texts_before f.characters (joined_chains f.inside rest))))
      (not dropped && may_pair run closer) (record { inside = inside; run = run; characters = xs; before = rs })
      (nearest_opener closer rs (texts_before xs inside)) h
      (nearest_stands q rest closer rs (texts_before xs inside)
      (subst (λ f. q (read_trees rs f)) (texts_joined xs inside rest) h))

-- a chain may be replaced by another one, wherever p holds of it
abbrev pub Keeps : {I A : Type 0} → (I → Forest (TreeNode A) → Type 0) → (f g : Forest (TreeNode A)) → Type 0
Keeps {I} p f g = (i : I) → p i f → p i g

-- this is so after a tree where it is so, a character and an open tree may become Texts, and a layer in which nothing
-- is open may replace the characters that it is made from; of two characters on each side, the inner ones go
pub record KeptByPairing {I A : Type 0} (s : Setting) (p : I → Forest (TreeNode A) → Type 0) : Type 0 where
  pub after : (a : TreeNode A) (below f g : Forest (TreeNode A)) → Keeps p f g → Keeps p (node a below f)
      (node a below g)
  pub text : (a : TreeNode A) (below f g : Forest (TreeNode A)) → Keeps p f g
      → Keeps p (node a below f) (node (as_text s.text a) nil g)
  pub closed : (a : TreeNode A) (below after : Forest (TreeNode A)) → is_unresolved a.part.shape ≡ true
      → Keeps p (node a below after) (node (as_text s.text a) below after)
  pub one : (d : Delimiter) (x v : TreeNode A) (inside rest : Forest (TreeNode A)) → EachTree IsClosedTree inside
      → Keeps p (node x nil (joined_chains inside (node v nil rest)))
      (node (spanned s.text (layer_of_one (extensions_of s.rules.syntax) d) x v) inside rest)
  pub two : (d : Delimiter) (x y v w : TreeNode A) (inside rest : Forest (TreeNode A)) → EachTree IsClosedTree inside
      → Keeps p (node y nil (node x nil (joined_chains inside (node v nil (node w nil rest)))))
      (node (spanned s.text (layer_of_two (extensions_of s.rules.syntax) d) y w) inside rest)

module _ {I A : Type 0} (s : Setting) (p : I → Forest (TreeNode A) → Type 0) (kept : KeptByPairing s p) where
  texts_after : (xs : List (TreeNode A)) (f g : Forest (TreeNode A)) → Keeps p f g
      → Keeps p (texts_before xs f) (texts_before xs g)
  texts_after [] f g h = h
  texts_after (x ∷ xs) f g h = texts_after xs (node x nil f) (node x nil g) (kept.after x nil f g h)

  after_read : (rs : List (Read A)) (f g : Forest (TreeNode A)) → Keeps p f g
      → Keeps p (read_trees rs f) (read_trees rs g)
  after_read [] f g h = h
  after_read (done_read a below ∷ rs) f g h = after_read rs (node a below f) (node a below g)
      (kept.after a below f g h)
  after_read (waiting dropped run xs ∷ rs) f g h = after_read rs (texts_before xs f) (texts_before xs g)
      (texts_after xs f g h)

  closed_if : (b : Bool) (a : TreeNode A) (below after : Forest (TreeNode A)) → is_unresolved a.part.shape ≡ b
      → Keeps p (node a below after) (node (text_if b s.text a) below after)
  closed_if true a below after opens = kept.closed a below after opens
  closed_if false a below after opens = λ i h. h

  firsts : (n : ℕ) (chain : Forest (TreeNode A)) → Keeps p chain (forward (first_texts s.text n chain) (later n chain))
  firsts zero chain = λ i h. h
  firsts (suc n) nil = λ i h. h
  firsts (suc n) (node a below after) =
      kept.text a below after (forward (first_texts s.text n after) (later n after)) (firsts n after)

  run_texts : (n : ℕ) (a : TreeNode A) (below after : Forest (TreeNode A)) → 0 < n
      → Keeps p (node a below after) (forward (first_texts s.text n (node a below after)) (later (n - 1) after))
  run_texts zero a below after some = absurd (omega arith)
  run_texts (suc n) a below after some =
      rw (← (let e : n ≡ suc n - 1 = omega arith in e)) (firsts (suc n) (node a below after))

  abbrev made_before : Layers A → Forest (TreeNode A) → Forest (TreeNode A)
  made_before l rest = texts_before l.opening (joined_chains l.whole (forward l.closing rest))

  layers_keep : (d : Delimiter) (xs vs : List (TreeNode A)) (inside rest : Forest (TreeNode A))
      → EachTree IsClosedTree inside
      → Keeps p (texts_before xs (joined_chains inside (forward vs rest))) (made_before (layers s d xs vs inside) rest)
  layers_keep d [] vs inside rest c = λ i h. h
  layers_keep d (x ∷ xs) [] inside rest c = λ i h. h
  layers_keep d (x ∷ []) (v ∷ vs) inside rest c = kept.one d x v inside (forward vs rest) c
  layers_keep d (x ∷ y ∷ xs) (v ∷ []) inside rest c =
      texts_after (y ∷ xs) (node x nil (joined_chains inside (node v nil rest)))
      (node (spanned s.text (layer_of_one (extensions_of s.rules.syntax) d) x v) inside rest)
      (kept.one d x v inside rest c)
  layers_keep d (x ∷ y ∷ xs) (v ∷ w ∷ vs) inside rest c =
      let made : TreeNode A = spanned s.text (layer_of_two (extensions_of s.rules.syntax) d) y w in
      let after : Forest (TreeNode A) = forward vs rest in
      λ i h. layers_keep d xs vs (node made inside nil) rest (two-closed (extensions_of s.rules.syntax) d _, tt) i
      (texts_after xs (node y nil (node x nil (joined_chains inside (node v nil (node w nil after)))))
      (node made inside after) (kept.two d x y v w inside after c) i h)

  pair_keeps : (i : I) (vs : List (TreeNode A)) (rest : Forest (TreeNode A)) (f : FoundOpener A)
      → p i (read_trees f.before (texts_before f.characters (joined_chains f.inside (forward vs rest))))
      → EachTree IsClosedTree f.inside
      → (let l : Layers A = layers s f.run.delimiter f.characters vs f.inside in
      p i (read_trees (after_layers f l) (forward l.closing rest)))
  pair_keeps i vs rest f h c =
      let l : Layers A = layers s f.run.delimiter f.characters vs f.inside in
      subst (p i) (sym (trees_before l.whole (still_waiting f.run l.opening f.before) (forward l.closing rest)
      ∙ still_before f.run l.opening f.before (joined_chains l.whole (forward l.closing rest))))
      (after_read f.before (texts_before f.characters (joined_chains f.inside (forward vs rest)))
      (made_before l rest) (layers_keep f.run.delimiter f.characters vs f.inside rest c) i h)

  -- a closer's characters, what was read and what is still to be read
  abbrev Stands : I → List (TreeNode A) → List (Read A) → Forest (TreeNode A) → Type 0
  Stands i vs rs rest = p i (read_trees rs (forward vs rest))
      × Holds IsClosed IsClosedTree s (makes-closed s) vs rs rest

  stands_on : (i : I) → StaysTrueOf s Any (Stands i)
  stands_on i =
      let closed = of_any s (Holds IsClosed IsClosedTree s (makes-closed s))
      (holds-on IsClosed IsClosedTree s (makes-closed s)) in
      record {
        tree = λ a below after rs e h. (
          after_read rs (node a below after) (node (as_closed s.text a) below after)
              (closed_if (is_unresolved a.part.shape) a below after refl) i h.0,
          closed.tree a below after rs e h.1,
        );
        run = λ run a below after rs e h.
            let vs : List (TreeNode A) = first_texts s.text run.length (node a below after) in (
              tt,
              (
                after_read rs (node a below after) (forward vs (later (run.length - 1) after))
                    (run_texts run.length a below after (run-long s.text a.part run e)) i h.0,
                (closed.run run a below after rs e h.1).1,
              ),
            );
        dropped = λ d vs rs rest h. (
          subst (p i) (sym (dropped_before d rs (forward vs rest))) h.0,
          closed.dropped d vs rs rest h.1,
        );
        left = λ closer vs rs rest any h. (
          subst (p i) (sym (left_before closer vs rs rest)) h.0,
          closed.left closer vs rs rest any h.1,
        );
        found = λ closer vs rs rest can any h. if_both (nearest_opener closer rs nil)
            (λ f. p i (read_trees f.before (texts_before f.characters (joined_chains f.inside (forward vs rest)))))
            (EachFound IsClosed IsClosedTree)
            (λ f. let l : Layers A = layers s f.run.delimiter f.characters vs f.inside in
            Any closer l.closing × Stands i l.closing (after_layers f l) rest)
            (nearest_stands (p i) (forward vs rest) closer rs nil h.0)
            (nearest-keeps IsClosed IsClosedTree s (makes-closed s) closer rs nil h.1.1 tt)
            (λ f stands keeps. (
              tt,
              (
                pair_keeps i vs rest f stands keeps.0,
                found-keeps IsClosed IsClosedTree s (makes-closed s) vs rest f h.1.0 h.1.2 keeps,
              ),
            ));
      }

  -- the whole chain
  pub kept-by-pairing : (i : I) (chain : Forest (TreeNode A)) → p i chain → p i (runs_paired s chain)
  unfolding runs_paired
  kept-by-pairing i chain h =
      (reads-stay-of s Any (Stands i) (stands_on i) 0 chain [] (h, (tt, tt, readable s chain))).0
