-- What each step in reading a chain keeps, reading the chain keeps.
use Rattle.std.proofs.Common.{◌≡◌, ℕ, zero, suc, ◌-◌, ◌<◌, Bool, true, false, List, [], ◌∷◌, map, length, Option, Some}
use Rattle.std.proofs.Common.{None, refl, subst, arith}
use Rattle.std.specs.Prelude.{⊤, IfSome}
use Rattle.std.proofs.lemmas.Option.{IfSome_then}
use Rattle.markdown_base.specs.Forest.{Forest, nil, node}
use Rattle.markdown_base.specs.declared.item.ItemBody.TheVariants as body
use Rattle.markdown_document.specs.Document.{Shape, unresolved, Part, TreeNode}
use Rattle.markdown_document.specs.Setting.{Setting}
use Rattle.markdown_document.specs.Waiting.{as_closed}
use Rattle.markdown_delims.specs.declared.run.Delimiter.{Delimiter}
use Rattle.markdown_delims.specs.declared.run.Run.{Run}
use Rattle.markdown_delims.specs.Layers.{run_of_shape, run_of}
use Rattle.markdown_delims.specs.Pairing.{Read, done_read, FoundOpener, found_if, nearest_opener, drop_read, layers}
use Rattle.markdown_delims.specs.Pairing.{left_over, after_layers, after_search, closed_by, run_read, first_texts}
use Rattle.markdown_delims.specs.Pairing.{after_tree, reads_from}

-- a chain without its first trees
abbrev pub later : {A : Type 0} → ℕ → Forest (TreeNode A) → Forest (TreeNode A)
later zero chain = chain
later (suc n) nil = nil
later (suc n) (node a below after) = later n after

-- i holds for the characters of a closer, for what was read before them and for the trees that are still to be read:
-- this stays true when a tree or the characters of a run are read or passed over, when open runs are dropped, when
-- characters are left open or as text, and when they pair with a run that was found
pub record StaysTrue {A : Type 0} (s : Setting) (i : List (TreeNode A) → List (Read A) → Forest (TreeNode A)
    → Type 0) : Type
    0 where
  pub tree : (a : TreeNode A) (below after : Forest (TreeNode A)) (rs : List (Read A)) → i [] rs (node a below after)
      → i [] (done_read (as_closed s.text a) below ∷ rs) after
  pub skip : (a : TreeNode A) (below after : Forest (TreeNode A)) (rs : List (Read A)) → i [] rs (node a below after)
      → i [] rs after
  pub texts : (n : ℕ) (chain : Forest (TreeNode A)) (rs : List (Read A)) → i [] rs chain
      → i (first_texts s.text n chain) rs (later n chain)
  pub dropped : (d : Delimiter) (vs : List (TreeNode A)) (rs : List (Read A)) (rest : Forest (TreeNode A))
      → i vs rs rest
      → i vs (map (drop_read d) rs) rest
  pub left : (closer : Run) (vs : List (TreeNode A)) (rs : List (Read A)) (rest : Forest (TreeNode A)) → i vs rs rest
      → i [] (left_over closer vs rs) rest
  pub found : (closer : Run) (vs : List (TreeNode A)) (rs : List (Read A)) (rest : Forest (TreeNode A)) → i vs rs rest
      → IfSome (nearest_opener closer rs nil) (λ f. i (layers s f.run.delimiter f.characters vs f.inside).closing
      (after_layers f (layers s f.run.delimiter f.characters vs f.inside)) rest)

-- of a run that may be found
pub found-if : {A : Type 0} (p : FoundOpener A → Type 0) (b : Bool) (f : FoundOpener A) (o : Option (FoundOpener A))
    → p f → IfSome o p
    → IfSome (found_if b f o) p
found-if p true f o h k = h
found-if p false f o h k = k

-- the same, where g holds for a run and its characters when it is read, and for those that are left of them while it
-- closes
pub record StaysTrueOf {A : Type 0} (s : Setting) (g : Run → List (TreeNode A) → Type 0)
    (i : List (TreeNode A) → List (Read A) → Forest (TreeNode A) → Type 0) : Type 0 where
  pub tree : (a : TreeNode A) (below after : Forest (TreeNode A)) (rs : List (Read A)) → run_of s.text a.part ≡ None
      → i [] rs (node a below after) → i [] (done_read (as_closed s.text a) below ∷ rs) after
  pub run : (run : Run) (a : TreeNode A) (below after : Forest (TreeNode A)) (rs : List (Read A)) → run_of s.text a.part
      ≡ Some run
      → i [] rs (node a below after)
      → g run (first_texts s.text run.length (node a below after))
      × i (first_texts s.text run.length (node a below after)) rs (later (run.length - 1) after)
  pub dropped : (d : Delimiter) (vs : List (TreeNode A)) (rs : List (Read A)) (rest : Forest (TreeNode A))
      → i vs rs rest
      → i vs (map (drop_read d) rs) rest
  pub left : (closer : Run) (vs : List (TreeNode A)) (rs : List (Read A)) (rest : Forest (TreeNode A)) → g closer vs
      → i vs rs rest
      → i [] (left_over closer vs rs) rest
  pub found : (closer : Run) (vs : List (TreeNode A)) (rs : List (Read A)) (rest : Forest (TreeNode A))
      → closer.can_close
      ≡ true
      → g closer vs → i vs rs rest
      → IfSome (nearest_opener closer rs nil) (λ f. g closer (layers s f.run.delimiter f.characters vs f.inside).closing
      × i (layers s f.run.delimiter f.characters vs f.inside).closing
      (after_layers f (layers s f.run.delimiter f.characters vs f.inside)) rest)

-- a run has a character
pub some-long : (shape : Shape) (d : Option Delimiter) → IfSome (run_of_shape shape d) (λ run. 0 < run.length)
some-long (unresolved (body.MaybeEmphasis zero opens closes)) None = tt
some-long (unresolved (body.MaybeEmphasis zero opens closes)) (Some d) = tt
some-long (unresolved (body.MaybeEmphasis (suc n) opens closes)) None = tt
some-long (unresolved (body.MaybeEmphasis (suc n) opens closes)) (Some d) = omega arith
some-long other d = tt

pub run-long : (source : List ℕ) (part : Part) (run : Run) → run_of source part ≡ Some run → 0 < run.length
run-long source part run e = subst (λ o. IfSome o (λ run. 0 < run.length)) e (some-long part.shape _)

module _ {A : Type 0} (s : Setting) (g : Run → List (TreeNode A) → Type 0)
    (i : List (TreeNode A) → List (Read A) → Forest (TreeNode A) → Type 0) (stays : StaysTrueOf s g i) where
  searched_stays : (again : List (TreeNode A) → List (Read A) → List (Read A)) (closer : Run) (vs : List (TreeNode A))
      (rs : List (Read A)) (rest : Forest (TreeNode A)) (o : Option (FoundOpener A))
      → ((left : List (TreeNode A)) (others : List (Read A)) → g closer left → i left others rest
      → i [] (again left others) rest)
      → g closer vs → i vs rs rest
      → IfSome o (λ f. g closer (layers s f.run.delimiter f.characters vs f.inside).closing
      × i (layers s f.run.delimiter f.characters vs f.inside).closing
      (after_layers f (layers s f.run.delimiter f.characters vs f.inside)) rest)
      → i [] (after_search s again closer vs rs o) rest
  searched_stays again closer vs rs rest None h q k f = stays.left closer vs
      (map (drop_read closer.delimiter) rs) rest q (stays.dropped closer.delimiter vs rs rest k)
  searched_stays again closer vs rs rest (Some f) h q k found =
      h (layers s f.run.delimiter f.characters vs f.inside).closing
      (after_layers f (layers s f.run.delimiter f.characters vs f.inside))
      found.0 found.1

  closed_stays : (turns : ℕ) (closer : Run) (vs : List (TreeNode A)) (rs : List (Read A)) (rest : Forest (TreeNode A))
      → closer.can_close ≡ true
      → g closer vs → i vs rs rest → i [] (closed_by s turns closer vs rs) rest
  unfolding closed_by
  closed_stays zero closer [] rs rest c q h = h
  closed_stays (suc turns) closer [] rs rest c q h = h
  closed_stays zero closer (v ∷ vs) rs rest c q h = stays.left closer (v ∷ vs) rs rest q h
  closed_stays (suc turns) closer (v ∷ vs) rs rest c q h =
      searched_stays (λ left others. closed_by s turns closer left others) closer (v ∷ vs) rs rest
      (nearest_opener closer rs nil)
      (λ left others p k. closed_stays turns closer left others rest c p k) q h
      (stays.found closer (v ∷ vs) rs rest c q h)

  read_stays : (closes : Bool) (run : Run) (vs : List (TreeNode A)) (rs : List (Read A)) (rest : Forest (TreeNode A))
      → run.can_close ≡ closes
      → g run vs → i vs rs rest → i [] (run_read s closes run vs rs) rest
  read_stays true run vs rs rest c q h = closed_stays (length vs) run vs rs rest c q h
  read_stays false run vs rs rest c q h = stays.left run vs rs rest q h

  pub run-stays-of : (run : Run) (vs : List (TreeNode A)) (rs : List (Read A)) (rest : Forest (TreeNode A)) → g run vs
      → i vs rs rest
      → i [] (run_read s run.can_close run vs rs) rest
  run-stays-of run vs rs rest q h = read_stays run.can_close run vs rs rest refl q h

  tree_stays : (go_on : ℕ → List (Read A) → List (Read A)) (a : TreeNode A) (below after : Forest (TreeNode A))
      (rs : List (Read A)) (o : Option Run) → run_of s.text a.part ≡ o
      → ((skip : ℕ) (others : List (Read A)) → i [] others (later skip after) → i [] (go_on skip others) nil)
      → i [] rs (node a below after)
      → i [] (after_tree s go_on a below after rs o) nil
  tree_stays go_on a below after rs None e h k = h 0 (done_read (as_closed s.text a) below ∷ rs)
      (stays.tree a below after rs e k)
  tree_stays go_on a below after rs (Some run) e h k =
      let r = stays.run run a below after rs e k in
      h (run.length - 1) (run_read s run.can_close run (first_texts s.text run.length (node a below after)) rs)
      (run-stays-of run (first_texts s.text run.length (node a below after)) rs (later (run.length - 1) after) r.0 r.1)

  pub reads-stay-of : (skip : ℕ) (chain : Forest (TreeNode A)) (rs : List (Read A)) → i [] rs (later skip chain)
      → i [] (reads_from s skip chain rs) nil
  unfolding reads_from
  reads-stay-of zero nil rs h = h
  reads-stay-of (suc skip) nil rs h = h
  reads-stay-of (suc skip) (node a below after) rs h = reads-stay-of skip after rs h
  reads-stay-of zero (node a below after) rs h =
      tree_stays (λ skip others. reads_from s skip after others) a below after rs (run_of s.text a.part) refl
      (λ skip others k. reads-stay-of skip after others k) h

-- where nothing is known of runs
abbrev pub Any : {A : Type 0} → Run → List (TreeNode A) → Type 0
Any run vs = ⊤

module _ {A : Type 0} (s : Setting) (i : List (TreeNode A) → List (Read A) → Forest (TreeNode A) → Type 0)
    (stays : StaysTrue s i) where
  -- of a run of n the first character is read here
  texts_stay : (n : ℕ) (a : TreeNode A) (below after : Forest (TreeNode A)) (rs : List (Read A))
      → i [] rs (node a below after)
      → i (first_texts s.text n (node a below after)) rs (later (n - 1) after)
  texts_stay zero a below after rs h = stays.skip a below after rs h
  texts_stay (suc n) a below after rs h =
      rw (← (let e : n ≡ suc n - 1 = omega arith in e)) (stays.texts (suc n) (node a below after) rs h)

  pub of_any : StaysTrueOf s Any i
  of_any = record {
    tree = λ a below after rs e h. stays.tree a below after rs h;
    run = λ run a below after rs e h. (tt, texts_stay run.length a below after rs h);
    dropped = λ d vs rs rest h. stays.dropped d vs rs rest h;
    left = λ closer vs rs rest q h. stays.left closer vs rs rest h;
    found = λ closer vs rs rest c q h. IfSome_then (nearest_opener closer rs nil) (stays.found closer vs rs rest h)
        (λ f k. (tt, k));
  }

  pub run-stays : (run : Run) (vs : List (TreeNode A)) (rs : List (Read A)) (rest : Forest (TreeNode A)) → i vs rs rest
      → i [] (run_read s run.can_close run vs rs) rest
  run-stays run vs rs rest h = run-stays-of s Any i of_any run vs rs rest tt h

  pub reads-stay : (skip : ℕ) (chain : Forest (TreeNode A)) (rs : List (Read A)) → i [] rs (later skip chain)
      → i [] (reads_from s skip chain rs) nil
  reads-stay skip chain rs h = reads-stay-of s Any i of_any skip chain rs h
