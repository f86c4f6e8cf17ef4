-- A chain is read from its first node to its last.
use Rattle.std.proofs.Common.{◌≡◌, ℕ, suc, ◌+◌, ◌-◌, ◌*◌, ◌<◌, ◌≤◌, Bool, true, false, List, [], ◌∷◌, Option, Some}
use Rattle.std.proofs.Common.{None, length, refl, ap, sym, ◌∙◌, subst, arith}
use Rattle.std.specs.Prelude.{◌==◌, ◌||◌, ◌^◌}
use Rattle.std.specs.List.{AllByRecursion}
use Rattle.std.proofs.lemmas.Bool.{eq-eqb}
use Rattle.markdown_base.specs.declared.item.Item.{Item}
use Rattle.markdown_base.specs.declared.node.Node.{Node}
use Rattle.markdown_base.specs.Arena.{Arena, child_of, sibling_of}
use Rattle.markdown_base.specs.ArenaForest.{links_of, Spells}
use Rattle.markdown_base.specs.Forest.{Forest, nil, node, Each, roots, relabelled}
use Rattle.markdown_document.specs.Counts.{comparisons_per_delimiter}
use Rattle.markdown_document.specs.Document.{Part, TreeNode, part_of}
use Rattle.markdown_document.specs.Setting.{Setting}
use Rattle.markdown_document.specs.Tables.{Tables}
use Rattle.markdown_delims.specs.declared.extensions.Extensions.{Extensions}
use Rattle.markdown_delims.specs.ChainForest.{RisesFrom}
use Rattle.markdown_delims.specs.ChainReading.{runs_in, StandsWhole, ReadFurther, ReadsTree, PaysForTree, CanReadTree}
use Rattle.markdown_delims.specs.ChainReading.{is_among, NoneBelow, labels, IsSpelled, IsChainAt, IsPaired}
use Rattle.markdown_delims.specs.ChainStanding.{Chain, view, left_texts, flat, read_back}
use Rattle.markdown_delims.specs.Layers.{extensions_of}
use Rattle.markdown_delims.specs.OpenRuns.{Openers}
use Rattle.markdown_delims.specs.Pairing.{Read, done_read, waiting, texts_before, read_trees, reads_from, runs_paired}
use Rattle.markdown_delims.specs.PairingFinds.{finds_from}
use Rattle.markdown_delims.specs.Views.{View, parts_of, Holds, Between, Rises, next_number, Cut, AllTouched}
use Rattle.markdown_delims.proofs.CutLemmas.{Rises-lower, step_left}
use Rattle.markdown_delims.proofs.EncloseLemmas.{next_number-from}
use Rattle.markdown_delims.proofs.PairLemmas.{CutSomewhere}
use Rattle.markdown_delims.proofs.PairingLemmas.{paired_none}
use Rattle.markdown_delims.proofs.WriteLemmas.{kept_none, kept_both}

-- the numbers of a chain
abbrev pub numbers_of : Forest (TreeNode ℕ) → Forest ℕ
numbers_of f = relabelled (λ a. a.note) f

pub numbers_of-labels : (s : Setting) (tables : Tables) (nodes : List (Node Item)) (f : Forest ℕ)
    → numbers_of (labels s tables nodes f) ≡ f
numbers_of-labels s tables nodes nil = refl
numbers_of-labels s tables nodes (node ix below after) =
    ap (λ g. node ix g (numbers_of (labels s tables nodes after))) (numbers_of-labels s tables nodes below)
    ∙ ap (node ix below) (numbers_of-labels s tables nodes after)

-- links lead through a chain of numbers where they lead through its nodes
module _ (s : Setting) (tables : Tables) (nodes : List (Node Item)) where
  abbrev seen : View Part
  seen = parts_of (part_of s.text tables) nodes

  pub holds_spelled : (l : Option ℕ) (f : Forest ℕ) → Spells (links_of nodes) l f
      → Holds seen l (labels s tables nodes f)
  holds_spelled l nil h = h
  holds_spelled l (node ix below after) h =
      (h.0, h.1, refl, holds_spelled (child_of nodes ix) below h.2, holds_spelled (sibling_of nodes ix) after h.3)

  pub spelled_holds : (l : Option ℕ) (f : Forest (TreeNode ℕ)) → Holds seen l f → Spells (links_of nodes) l
      (numbers_of f)
  spelled_holds l nil h = h
  spelled_holds l (node a below after) h =
      (h.0, h.1, spelled_holds (child_of nodes a.note) below h.3, spelled_holds (sibling_of nodes a.note) after h.4)

  pub nodes_hold : (l : Option ℕ) (f : Forest (TreeNode ℕ)) → Holds seen l f → labels s tables nodes (numbers_of f) ≡ f
  nodes_hold l nil h = refl
  nodes_hold l (node a below after) h =
      rw (h.2, nodes_hold (child_of nodes a.note) below h.3, nodes_hold (sibling_of nodes a.note) after h.4) refl

  -- a forest without numbers of the chain may occur anywhere below
  Between-none : (own : ℕ → Bool) (lo : ℕ) (f : Forest ℕ) (hi : ℕ) → Each (λ n. own n ≡ false) f
      → Between own lo (labels s tables nodes f) hi
  Between-none own lo nil hi h = tt
  Between-none own lo (node ix below after) hi h = (
    λ o. let no : false ≡ true = sym h.0 ∙ o in cc,
    Between-none own lo below hi h.1,
    Between-none own lo after hi
        h.2,
  )

  -- a chain whose numbers rise
  pub rises_chain : (own : ℕ → Bool) (l : Option ℕ) (f : Forest ℕ) (lo : ℕ) → lo ≤ length nodes
      → Spells (links_of nodes) l f
      → RisesFrom lo (roots f) → NoneBelow own f → Rises own lo (labels s tables nodes f) (length nodes)
  rises_chain own l nil lo h k r n = h
  rises_chain own l (node ix below after) lo h k r n =
      let later = rises_chain own (sibling_of nodes ix) after (suc ix) k.1 k.3 r.1 n.1 in
      let end = next_number-from own (suc ix) (labels s tables nodes after) (length nodes) later in (
        r.0,
        (end, Between-none own (suc ix) below (next_number (labels s tables nodes after) (length nodes)) n.0),
        later,
      )

  pub touched_chain : (touched : ℕ → Bool) (f : Forest ℕ) → AllByRecursion (λ ix. touched ix ≡ true) (roots f)
      → AllTouched touched (labels s tables nodes f)
  touched_chain touched nil h = tt
  touched_chain touched (node ix below after) h = (h.0, touched_chain touched after h.1)

pub rising_numbers : (own : ℕ → Bool) (lo : ℕ) (f : Forest (TreeNode ℕ)) (hi : ℕ) → Rises own lo f hi
    → RisesFrom lo (roots (numbers_of f))
rising_numbers own lo nil hi r = tt
rising_numbers own lo (node a below after) hi r = (r.0, rising_numbers own (suc a.note) after hi r.2)

-- each number of a forest is among its numbers
among_more : (x : ℕ) (xs ys : List ℕ) → AllByRecursion (λ ix. is_among xs ix ≡ true) ys
    → AllByRecursion (λ ix. is_among (x ∷ xs) ix ≡ true) ys
among_more x xs [] h = tt
among_more x xs (y ∷ ys) h = (or_right (x == y) (is_among xs y) h.0, among_more x xs ys h.1)
  where
    or_right : (a b : Bool) → b ≡ true → (a || b) ≡ true
    or_right true b e = refl
    or_right false b e = e

pub among_all : (xs : List ℕ) → AllByRecursion (λ ix. is_among xs ix ≡ true) xs
among_all [] = tt
among_all (x ∷ xs) = (ap (λ b. b || is_among xs x) (eq-eqb x x refl), among_more x xs xs (among_all xs))

-- the cut goes back to the beginning
pub over_all : (own : ℕ → Bool) (k : View Part) (first : Option ℕ) (left : Forest (TreeNode ℕ)) (l : Option ℕ)
    (right : Forest (TreeNode ℕ))
    (hi : ℕ) → Cut own k first left l right hi → CutSomewhere own k first nil (read_back left right) hi
over_all own k first nil l right hi c = record { link = l; cut = c }
over_all own k first (node a below before) l right hi c = over_all own k first before (Some a.note) (node a below right)
    hi
    (step_left own k first a below before l right hi c)

-- no link leads to nothing
pub nothing_left : (k : View Part) (g : Forest (TreeNode ℕ)) → Holds k None g → g ≡ nil
nothing_left k nil h = refl
nothing_left k (node b below after) h = let no : None ≡ Some b.note = h.0 in cc

-- a chain of an arena, before anything of it is read
module _ (s : Setting) (tables : Tables) (old : Arena Item) (first : ℕ) (f : Forest ℕ) (c : IsSpelled old.nodes first f)
  where
    unfoldable pub whole_chain : Chain
    whole_chain = record {
      setting = s;
      tables = tables;
      touched = is_among (roots f);
      first = Some first;
      bound = length old.nodes;
    }

    abbrev pub chain : Forest (TreeNode ℕ)
    chain = labels s tables old.nodes f

    pub chain_cut : Cut (is_among (roots f)) (view whole_chain old) (Some first) nil (Some first) chain
        (length old.nodes)
    unfolding whole_chain
    chain_cut = record {
      left = refl;
      right = holds_spelled s tables old.nodes (Some first) f c.spelled;
      rises_left = tt;
      rises_right = rises_chain s tables old.nodes (is_among (roots f)) (Some first) f 0 (omega arith) c.spelled
          c.rising c.apart;
    }

    pub chain_touched : AllTouched (is_among (roots f)) chain
    chain_touched = touched_chain s tables old.nodes (is_among (roots f)) f (among_all (roots f))

    -- and after all of it is: the chain as it is now
    pub record AllRead (new : Arena Item) (now : Forest (TreeNode ℕ)) : Type 0 where
      pub spelled : Spells (links_of new.nodes) (Some first) (numbers_of now)
      pub nodes_are : labels s tables new.nodes (numbers_of now) ≡ now
      pub rising : RisesFrom 0 (roots (numbers_of now))

    pub chain_read : (new : Arena Item) (left rest : Forest (TreeNode ℕ)) (l : Option ℕ) → l ≡ None
        → Cut (is_among (roots f)) (view whole_chain new) (Some first) left l rest (length old.nodes)
        → AllRead new (read_back left nil) × (rest ≡ nil)
    unfolding whole_chain
    chain_read new left rest l none cut =
        let is = nothing_left (view whole_chain new) rest
        (subst (λ m. Holds (view whole_chain new) m rest) none cut.right) in
        let r = over_all (is_among (roots f)) (view whole_chain new) (Some first) left l nil (length old.nodes)
        (rw is at cut) in
        let holds = subst (λ m. Holds (view whole_chain new) m (read_back left nil)) r.cut.left r.cut.right in (
          record {
            spelled = spelled_holds s tables new.nodes (Some first) (read_back left nil) holds;
            nodes_are = nodes_hold s tables new.nodes (Some first) (read_back left nil) holds;
            rising = rising_numbers (is_among (roots f)) 0 (read_back left nil) (length old.nodes) r.cut.rises_right;
          },
          is,
        )

-- what was read, as trees
back_texts : (xs : List (TreeNode ℕ)) (before after : Forest (TreeNode ℕ)) → read_back (left_texts xs before) after
    ≡ read_back before (texts_before xs after)
back_texts [] before after = refl
back_texts (x ∷ xs) before after = back_texts xs before (node x nil after)

flat_back : (rs : List (Read ℕ)) (after : Forest (TreeNode ℕ)) → read_trees rs after ≡ read_back (flat rs) after
flat_back [] after = refl
flat_back (done_read a below ∷ rs) after = flat_back rs (node a below after)
flat_back (waiting dropped run xs ∷ rs) after = flat_back rs (texts_before xs after)
    ∙ sym (back_texts xs (flat rs) after)

-- a chain whose runs are whole
module _ (s : Setting) (tables : Tables) (old : Arena Item) (first count : ℕ) (f : Forest ℕ)
    (c : IsChainAt s tables old.nodes first count f) where
  abbrev pub runs_chain : Chain
  runs_chain = whole_chain s tables old first f c.is

  -- it may have no runs
  pub none_paired : count ≡ 0 → IsPaired s tables old old first f
      × (finds_from s 0 (labels s tables old.nodes f) [] ≡ 0)
  none_paired e =
      let r = paired_none s (labels s tables old.nodes f) c.whole (omega (arith, c.counted, e)) in (
        record {
          forest = f;
          spelled = c.is.spelled;
          pairs = sym r.0;
          rising = c.is.rising;
          kept = kept_none (is_among (roots f)) old;
        },
        r.1,
      )

  -- it is read up to a link
  abbrev pub RunsRead : Arena Item → Openers → Openers → (last l : Option ℕ) → Type 0
  RunsRead t o now last l = ReadFurther runs_chain old t [] (labels s tables old.nodes f) o now last l 0

  pub starts_reading : (o : Openers) → o.runs ≡ [] → RunsRead old o o None (Some first)
  unfolding whole_chain
  starts_reading o e = record {
    rs = [];
    rest = labels s tables old.nodes f;
    stands = record {
      stands = record {
        cut = chain_cut s tables old first f c.is;
        last_is = refl;
        left_touched = tt;
        rest_touched = chain_touched s tables old first f c.is;
        few = c.few;
      };
      whole = c.whole;
      are = e;
    };
    kept = kept_none (is_among (roots f)) old;
    same = refl;
    paid = omega arith;
    found = omega arith;
    further = (chain_cut s tables old first f c.is).rises_right;
  }

  module _ (t : Arena Item) (o now : Openers) (last : Option ℕ) where
    -- a tree more
    pub read_on : (m : Extensions) (text : List ℕ) (u : Arena Item) (new : Openers) (last' l : Option ℕ) (ix : ℕ)
        → extensions_of s.rules.syntax ≡ m
        → s.text ≡ text → (a : RunsRead t o now last (Some ix)) → ReadsTree m text ix last t u now new last' l
        → ReadFurther runs_chain t u a.rs a.rest now new last' l (suc ix)
    unfolding whole_chain
    read_on m text u new last' l ix is e a step = step runs_chain a.rs a.rest is e a.stands

    pub reads_more : (m : Extensions) (text : List ℕ) (u : Arena Item) (new : Openers) (last' l : Option ℕ) (ix : ℕ)
        → extensions_of s.rules.syntax ≡ m → s.text ≡ text → RunsRead t o now last (Some ix)
        → ReadsTree m text ix last t u now new last' l
        → RunsRead u o new last' l
    unfolding whole_chain
    reads_more m text u new last' l ix is e a step =
        let b = read_on m text u new last' l ix is e a step in
        record {
          rs = b.rs;
          rest = b.rest;
          stands = b.stands;
          kept = kept_both (is_among (roots f)) old t u a.kept b.kept;
          same = b.same ∙ a.same;
          paid = omega (arith, a.paid, b.paid);
          found = omega (arith, a.found, b.found);
          further = Rises-lower (is_among (roots f)) (suc ix) 0 b.rest (length old.nodes) (omega arith) b.further;
        }

    -- what was paid so far, and at a tree at which memory was refused
    pub all_paid : (l : Option ℕ) (a : RunsRead t o now last l) → now.potential + comparisons_per_delimiter * runs_in
        s.text a.rest
        ≤ o.potential + comparisons_per_delimiter * runs_in s.text (labels s tables old.nodes f)
    unfolding whole_chain
    all_paid l a = a.paid

    pub pays : (text : List ℕ) (ix : ℕ) (new : Openers) → s.text ≡ text → (rs : List (Read ℕ))
        (rest : Forest (TreeNode ℕ))
        → StandsWhole runs_chain t rs last (Some ix) rest now → PaysForTree text ix last t now new
        → new.potential ≤ now.potential + comparisons_per_delimiter * runs_in s.text rest
    unfolding whole_chain
    pays text ix new e rs rest st paid = omega (arith, paid runs_chain rs rest e st, ap (λ x. runs_in x rest) e)

    pub can_go_on : (m : Extensions) (text : List ℕ) (ix : ℕ) → extensions_of s.rules.syntax ≡ m → s.text ≡ text
        → o.potential + comparisons_per_delimiter * runs_in text (labels s tables old.nodes f) < 2 ^ 128
        → RunsRead t o now last (Some ix) → CanReadTree m text ix last t now
    unfolding whole_chain
    can_go_on m text ix is e room a = record {
      chain = runs_chain;
      extensions_are = is;
      text_is = e;
      rs = a.rs;
      rest = a.rest;
      stands = a.stands;
      room = omega (
        arith,
        a.paid,
        room,
        ap (λ x. runs_in x a.rest) e,
        ap (λ x. runs_in x (labels s tables old.nodes f))
            e,
      );
    }

    -- all is read
    pub all_read : RunsRead t o now last None → IsPaired s tables old t first f
    unfolding whole_chain runs_paired reads_from
    all_read a =
        let r = chain_read s tables old first f c.is t (flat a.rs) a.rest None refl a.stands.stands.cut in
        let rs : a.rs ≡ reads_from s 0 (labels s tables old.nodes f) [] = read_end a.rs
        ∙ ap (λ g. reads_from s 0 g a.rs) (sym r.1) ∙ a.same in
        record {
          forest = numbers_of (read_back (flat a.rs) nil);
          spelled = r.0.spelled;
          pairs = r.0.nodes_are ∙ sym (flat_back a.rs nil) ∙ ap (λ fs. read_trees fs nil) rs;
          rising = r.0.rising;
          kept = a.kept;
        }
      where
        read_end : (rs : List (Read ℕ)) → rs ≡ reads_from s 0 nil rs
        read_end rs = refl

    -- and all that found was counted
    pub all_found : RunsRead t o now last None
        → o.examined + finds_from s 0 (labels s tables old.nodes f) [] ≤ now.examined
    unfolding whole_chain finds_from
    all_found a =
        let r = chain_read s tables old first f c.is t (flat a.rs) a.rest None refl a.stands.stands.cut in
        let none : finds_from s 0 a.rest a.rs ≡ 0 = ap (λ g. finds_from s 0 g a.rs) r.1 in
        omega (arith, a.found, none)

-- how many numbers are not below a link
abbrev pub numbers_left : ℕ → Option ℕ → ℕ
numbers_left size None = 0
numbers_left size (Some ix) = size - ix

-- a link to a chain whose numbers are above one
pub fewer_left : (own : ℕ → Bool) (k : View Part) (l : Option ℕ) (f : Forest (TreeNode ℕ)) (ix hi : ℕ) → ix < k.size
    → Holds k l f
    → Rises own (suc ix) f hi → numbers_left k.size l < k.size - ix
fewer_left own k None f ix hi w h r = omega arith
fewer_left own k (Some j) nil ix hi w h r = cc
fewer_left own k (Some j) (node a below after) ix hi w h r = let e : j ≡ a.note = cc in omega (arith, e, r.0)

pub goes_down : (h : Chain) (t u : Arena Item) (begun : List (Read ℕ)) (chain : Forest (TreeNode ℕ)) (old new : Openers)
    (last l : Option ℕ)
    (ix : ℕ) → ix < length t.nodes → length u.nodes ≡ length t.nodes → ReadFurther h t u begun chain old new last l
    (suc ix)
    → numbers_left (length u.nodes) l < length t.nodes - ix
goes_down h t u begun chain old new last l ix w e a =
    rw (← e) (fewer_left h.touched (view h u) l a.rest ix h.bound (rw e w) a.stands.stands.cut.right a.further)
