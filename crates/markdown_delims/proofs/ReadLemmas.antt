-- A whole run is read at its first character, and another tree by itself.
use Rattle.std.proofs.Common.{◌≡◌, ℕ, zero, suc, ◌+◌, ◌-◌, ◌<◌, ◌≤◌, Bool, false, List, ◌∷◌, Option, Some, None, length}
use Rattle.std.proofs.Common.{refl, ap, sym, ◌∙◌, subst, arith}
use Rattle.std.specs.Prelude.{is_some}
use Rattle.markdown_base.specs.declared.item.Item.{Item}
use Rattle.markdown_base.specs.declared.item.ItemBody.{ItemBody}
use Rattle.markdown_base.specs.declared.item.ItemBody.TheVariants as body
use Rattle.markdown_base.specs.Arena.{Arena, sibling_of}
use Rattle.markdown_base.specs.BlockTree.{item_at}
use Rattle.markdown_base.specs.Forest.{Forest, nil, node}
use Rattle.markdown_document.specs.Counts.{comparisons_per_delimiter}
use Rattle.markdown_document.specs.Document.{Part, TreeNode, is_unresolved, shape_of, part_of}
use Rattle.markdown_document.specs.Setting.{Setting}
use Rattle.markdown_document.specs.Tables.{Tables}
use Rattle.markdown_document.specs.Waiting.{text_if, as_closed}
use Rattle.markdown_delims.specs.declared.extensions.Extensions.{Extensions}
use Rattle.markdown_delims.specs.declared.run.Run.{Run}
use Rattle.markdown_delims.specs.ChainReading.{HasCount, ShowsCount, trees_after, BeginsRun, IsWhole, AreWhole, one_if}
use Rattle.markdown_delims.specs.ChainReading.{runs_in, MakesLiteral, StandsWhole, ReadFurther, CanReadTree}
use Rattle.markdown_delims.specs.ChainStanding.{Chain, view, flat, RunRead}
use Rattle.markdown_delims.specs.Layers.{run_of}
use Rattle.markdown_delims.specs.OpenRuns.{Openers}
use Rattle.markdown_delims.specs.Pairing.{Read, done_read, run_read, first_texts, reads_from}
use Rattle.markdown_delims.specs.PairingFinds.{run_finds, finds_from}
use Rattle.markdown_delims.specs.Views.{Rises}
use Rattle.markdown_delims.proofs.CutLemmas.{Rises-lower, step_right}
use Rattle.markdown_delims.proofs.StepLawLemmas.{run-long}
use Rattle.markdown_delims.proofs.WriteLemmas.{kept_none, kept_both}

-- the count that a body's shape shows is the body's
pub has_count : (tables : Tables) (source : List ℕ) (b : ItemBody) → ShowsCount (shape_of tables source b) → HasCount b
has_count tables source (body.MaybeEmphasis n opens closes) h = h
has_count tables source other h = tt

-- what the code reads is what the chain shows
pub shown_run : (text source : List ℕ) (tables : Tables) (item i : Item) (o : Option Run) → source ≡ text → item ≡ i
    → HasCount i.body
    → ((tables : Tables) → HasCount item.body → o ≡ run_of text (part_of text tables item))
    → run_of source (part_of source tables i) ≡ o
shown_run text source tables item i o e f h is =
    ap (λ t. run_of t (part_of t tables i)) e ∙ ap (λ x. run_of text (part_of text tables x)) (sym f)
    ∙ sym (is tables (subst (λ (x : Item). HasCount x.body) (sym f) h))

-- the trees of a run that was read are passed over
skip_run : (s : Setting) (n : ℕ) (chain : Forest (TreeNode ℕ)) (rs : List (Read ℕ))
    → (reads_from s n chain rs ≡ reads_from s 0 (trees_after n chain) rs)
    × (finds_from s n chain rs ≡ finds_from s 0 (trees_after n chain) rs)
unfolding reads_from finds_from
skip_run s zero chain rs = (refl, refl)
skip_run s (suc n) nil rs = (refl, refl)
skip_run s (suc n) (node a below after) rs = skip_run s n after rs

-- what is whole, counted or in order remains so without the first trees
whole_after : (text : List ℕ) (n : ℕ) (chain : Forest (TreeNode ℕ)) → AreWhole text chain
    → AreWhole text (trees_after n chain)
whole_after text zero chain w = w
whole_after text (suc n) nil w = w
whole_after text (suc n) (node a below after) w = whole_after text n after w.2

fewer_after : (text : List ℕ) (n : ℕ) (chain : Forest (TreeNode ℕ)) → runs_in text (trees_after n chain) ≤ runs_in text
    chain
fewer_after text zero chain = omega arith
fewer_after text (suc n) nil = omega arith
fewer_after text (suc n) (node a below after) = omega (arith, fewer_after text n after)

rises_after : (own : ℕ → Bool) (lo n : ℕ) (chain : Forest (TreeNode ℕ)) (hi : ℕ) → Rises own lo chain hi
    → Rises own lo (trees_after n chain) hi
rises_after own lo zero chain hi r = r
rises_after own lo (suc n) nil hi r = r
rises_after own lo (suc n) (node a below after) hi r =
    rises_after own lo n after hi (Rises-lower own (suc a.note) lo after hi (omega (arith, r.0)) r.2)

-- the trees after the first of a run
after_first : (n : ℕ) (a : TreeNode ℕ) (below after : Forest (TreeNode ℕ)) → 0 < n → trees_after n (node a below after)
    ≡ trees_after (n - 1) after
after_first zero a below after some = absurd (omega arith)
after_first (suc n) a below after some = ap (λ m. trees_after m after) (let e : n ≡ suc n - 1 = omega arith in e)

closed_stays : (source : List ℕ) (a : TreeNode ℕ) → is_unresolved a.part.shape ≡ false → as_closed source a ≡ a
closed_stays source a e = ap (λ b. text_if b source a) e

-- one tree, by the run that it begins
module _ (s : Setting) (a : TreeNode ℕ) (below after : Forest (TreeNode ℕ)) (rs : List (Read ℕ)) where
  pub reads_none : run_of s.text a.part ≡ None → is_unresolved a.part.shape ≡ false
      → (reads_from s 0 (node a below after) rs ≡ reads_from s 0 after (done_read a below ∷ rs))
      × (finds_from s 0 (node a below after) rs ≡ finds_from s 0 after (done_read a below ∷ rs))
  unfolding reads_from finds_from
  reads_none e c =
      let same = closed_stays s.text a c in (
        rw e (ap (λ (x : TreeNode ℕ). reads_from s 0 after (done_read x below ∷ rs)) same),
        rw e (ap (λ (x : TreeNode ℕ). finds_from s 0 after (done_read x below ∷ rs)) same),
      )

  reads_some : (run : Run) → run_of s.text a.part ≡ Some run
      → (let rest : Forest (TreeNode ℕ) = trees_after run.length (node a below after) in
      let vs : List (TreeNode ℕ) = first_texts s.text run.length (node a below after) in
      let read : List (Read ℕ) = run_read s run.can_close run vs rs in
      (reads_from s 0 (node a below after) rs ≡ reads_from s 0 rest read)
      × (finds_from s 0 (node a below after) rs ≡ run_finds s run.can_close run vs rs + finds_from s 0 rest read))
  unfolding reads_from finds_from
  reads_some run e =
      let vs : List (TreeNode ℕ) = first_texts s.text run.length (node a below after) in
      let read : List (Read ℕ) = run_read s run.can_close run vs rs in
      let skip = skip_run s (run.length - 1) after read in
      let first = sym (after_first run.length a below after (run-long s.text a.part run e)) in (
        rw e (skip.0 ∙ ap (λ f. reads_from s 0 f read) first),
        rw e (ap (λ n. run_finds s run.can_close run vs rs + n) (skip.1 ∙ ap (λ f. finds_from s 0 f read) first)),
      )

-- the first tree of the rest, at the link to it
module _ (h : Chain) (s : Arena Item) (rs : List (Read ℕ)) (last : Option ℕ) (ix : ℕ) (o : Openers) where
  abbrev here : Part
  here = part_of h.setting.text h.tables (item_at s.nodes ix)

  pub head_within : (chain : Forest (TreeNode ℕ)) → StandsWhole h s rs last (Some ix) chain o → ix < length s.nodes
  head_within nil st = let no : Some ix ≡ None = st.stands.cut.right in cc
  head_within (node a below after) st =
      let link : Some ix ≡ Some a.note = st.stands.cut.right.0 in
      let e : ix ≡ a.note = cc in omega (arith, st.stands.cut.right.1, e)

  head_part : (a : TreeNode ℕ) (below after : Forest (TreeNode ℕ)) → StandsWhole h s rs last (Some ix)
      (node a below after) o
      → (a.note ≡ ix) × (here ≡ a.part)
  head_part a below after st =
      let link : Some ix ≡ Some a.note = st.stands.cut.right.0 in
      let e : a.note ≡ ix = cc in (e, ap (view h s).item (sym e) ∙ st.stands.cut.right.2)

  pub head_count : (chain : Forest (TreeNode ℕ)) → StandsWhole h s rs last (Some ix) chain o
      → HasCount (item_at s.nodes ix).body
  head_count nil st = let no : Some ix ≡ None = st.stands.cut.right in cc
  head_count (node a below after) st =
      has_count h.tables _ (item_at s.nodes ix).body
      (subst (λ (p : Part). ShowsCount p.shape) (sym (head_part a below after st).1) st.whole.0)

  pub read_none : (chain : Forest (TreeNode ℕ)) → StandsWhole h s rs last (Some ix) chain o → run_of h.setting.text here
      ≡ None
      → ReadFurther h s s rs chain o o (Some ix) (sibling_of s.nodes ix) (suc ix)
  read_none nil st e = let no : Some ix ≡ None = st.stands.cut.right in cc
  read_none (node a below after) st e =
      let p = head_part a below after st in
      let none : run_of h.setting.text a.part ≡ None = ap (run_of h.setting.text) (sym p.1) ∙ e in
      let closed : is_unresolved a.part.shape ≡ false = subst (λ o. IsWhole o a below after) none st.whole.1 in
      rw (← p.0)
      (record {
        rs = done_read a below ∷ rs;
        rest = after;
        stands = record {
          stands = record {
            cut = step_right h.touched (view h s) h.first (flat rs) (Some ix) a below after h.bound st.stands.cut;
            last_is = refl;
            left_touched = (st.stands.rest_touched.0, st.stands.left_touched);
            rest_touched = st.stands.rest_touched.1;
            few = st.stands.few;
          };
          whole = st.whole.2;
          are = st.are;
        };
        kept = kept_none h.touched s;
        same = sym (reads_none h.setting a below after rs none closed).0;
        paid = omega arith;
        found = omega (arith, (reads_none h.setting a below after rs none closed).1);
        further = st.stands.cut.rises_right.2;
      })

  -- a run that begins here
  pub record RunHere (run : Run) (chain : Forest (TreeNode ℕ)) : Type 0 where
    pub begins : BeginsRun ix run.length chain
    pub some : 0 < run.length
    pub same : reads_from h.setting 0 chain rs ≡ reads_from h.setting 0 (trees_after run.length chain)
        (run_read h.setting run.can_close run (first_texts h.setting.text run.length chain) rs)
    pub finds : finds_from h.setting 0 chain rs
        ≡ run_finds h.setting run.can_close run (first_texts h.setting.text run.length chain) rs
        + finds_from h.setting 0 (trees_after run.length chain)
        (run_read h.setting run.can_close run (first_texts h.setting.text run.length chain) rs)
    pub whole : AreWhole h.setting.text (trees_after run.length chain)
    pub fewer : suc (runs_in h.setting.text (trees_after run.length chain)) ≤ runs_in h.setting.text chain
    pub rises : Rises h.touched (suc ix) (trees_after run.length chain) h.bound

  pub run_here : (run : Run) (chain : Forest (TreeNode ℕ)) → StandsWhole h s rs last (Some ix) chain o
      → run_of h.setting.text here ≡ Some run
      → RunHere run chain
  run_here run nil st e = let no : Some ix ≡ None = st.stands.cut.right in cc
  run_here run (node a below after) st e =
      let p = head_part a below after st in
      let is : run_of h.setting.text a.part ≡ Some run = ap (run_of h.setting.text) (sym p.1) ∙ e in
      let many : 0 < run.length = run-long h.setting.text a.part run is in
      let rest = after_first run.length a below after many in
      record {
        begins = rw (← p.0) (subst (λ o. IsWhole o a below after) is st.whole.1);
        some = many;
        same = (reads_some h.setting a below after rs run is).0;
        finds = (reads_some h.setting a below after rs run is).1;
        whole = rw rest (whole_after h.setting.text (run.length - 1) after st.whole.2);
        fewer = omega (
          arith,
          ap (runs_in h.setting.text) rest,
          fewer_after h.setting.text (run.length - 1) after,
          ap (λ o. one_if (is_some o)) is,
        );
        rises = rw rest (rises_after h.touched (suc ix) (run.length - 1) after h.bound (subst (λ n. Rises h.touched
            (suc n) after h.bound) p.0 st.stands.cut.rises_right.2));
      }

  pub read_some : (run : Run) (chain : Forest (TreeNode ℕ)) (new : Openers) (last' l : Option ℕ) (t u : Arena Item)
      → StandsWhole h s rs last (Some ix) chain o → RunHere run chain
      → MakesLiteral (record { run = run; number = ix; count = run.length }) s t
      → new.potential ≤ o.potential + comparisons_per_delimiter
      → RunRead h t u run (first_texts h.setting.text run.length chain) rs o new last' l (trees_after run.length chain)
      → ReadFurther h s u rs chain o new last' l (suc ix)
  read_some run chain new last' l t u st r makes_literal paid on =
      record {
        rs = run_read h.setting run.can_close run (first_texts h.setting.text run.length chain) rs;
        rest = trees_after run.length chain;
        stands = record { stands = on.is_read.reads.stands; whole = r.whole; are = on.is_read.are };
        kept = kept_both h.touched s t u (makes_literal h rs last chain st.stands r.begins).1 on.is_read.reads.kept;
        same = sym r.same;
        paid = omega (arith, paid, r.fewer);
        found = omega (arith, on.found, r.finds);
        further = r.rises;
      }

-- the run that is met in a chain that can be read
pub met_here : (m : Extensions) (text : List ℕ) (ix : ℕ) (last : Option ℕ) (s : Arena Item) (o : Openers)
    (p : CanReadTree m text ix last s o) (item : Item) (run : Run) → item ≡ item_at s.nodes ix
    → ((tables : Tables) → HasCount item.body → Some run ≡ run_of text (part_of text tables item))
    → RunHere p.chain s p.rs last ix o run p.rest
met_here m text ix last s o p item run e is =
    run_here p.chain s p.rs last ix o run p.rest p.stands
    (shown_run text p.chain.setting.text p.chain.tables item (item_at s.nodes ix) (Some run) p.text_is e
    (head_count p.chain s p.rs last ix o p.rest p.stands) is)
