-- What is between an opener and its closer goes below the opener's node: the chain as it is then.
use Rattle.std.proofs.Common.{◌≡◌, ℕ, zero, suc, ◌+◌, ◌<◌, ◌≤◌, Bool, true, false, List, [], ◌∷◌, ◌++◌, length, Option}
use Rattle.std.proofs.Common.{Some, None, refl, sym, ap, ◌∙◌, subst, ⊎_elim, arith}
use Rattle.std.proofs.lemmas.Bool.{cases_eq, cases_lt}
use Rattle.std.specs.Prelude.{IfSome}
use Rattle.std.specs.Option.{option_map}
use Rattle.markdown_base.specs.Arena.{Arena, child_of, sibling_of}
use Rattle.markdown_base.specs.ArenaChanges.{changed_at}
use Rattle.markdown_base.specs.ArenaForest.{Spells, forest_at, links_of}
use Rattle.markdown_base.specs.ArenaRules.{next_at}
use Rattle.markdown_base.specs.BlockTree.{Numbered, numbered, item_at}
use Rattle.markdown_base.specs.Forest.{Forest, nil, node, Each, relabelled, roots}
use Rattle.markdown_base.specs.Item.{is_open}
use Rattle.markdown_base.specs.WellFormed.{RunCharacter, run_character, RunGoesOn, StandsInRun}
use Rattle.markdown_base.specs.declared.item.Item.{Item}
use Rattle.markdown_base.specs.declared.node.Node.{Node}
use Rattle.markdown_base.proofs.ArenaForestLemmas.{opens, Opened, forest_at-none}
use Rattle.markdown_base.proofs.ArenaLemmas.{length-changed_at}
use Rattle.markdown_document.specs.Document.{tree_node_of}
use Rattle.markdown_document.specs.Places.{tree_node_at, trees_from}
use Rattle.markdown_document.specs.PlacedNodes.{IsSameAt, IsPlaced}
use Rattle.markdown_document.specs.Tables.{Tables}
use Rattle.markdown_document.specs.NamedEntries.{Named, naming, times_named}
use Rattle.markdown_document.specs.Totals.{total, same, weight_at, weight_if}
use Rattle.markdown_document.proofs.FoundLemmas.{found}
use Rattle.markdown_document.proofs.PlaceLemmas.{times-past}
use Rattle.markdown_document.proofs.TablesLemmas.{same-refl, grown-nothing}
use Rattle.markdown_resolver.specs.ClosedOver.{first_trees, trees_past, last_inside, CanClose, IsEnclosed}
use Rattle.markdown_resolver.proofs.ChainOrderLemmas.{StandsPast, rest_past}
use Rattle.markdown_resolver.proofs.ComposeLemmas.{same_trans, Moves}
use Rattle.markdown_resolver.proofs.NodeChangeLemmas.{changed_other, changed_here}
use Rattle.markdown_resolver.proofs.PutLemmas.{no_run_here}
use Rattle.markdown_resolver.proofs.PutPairLemmas.{past_at}

-- a sum over a forest is that over its first trees and over those past them
pub total_parts : (count : ℕ → ℕ) (k : ℕ) (f : Forest ℕ) → total count f ≡ total count (first_trees k f) + total count
    (trees_past k f)
total_parts count zero f = omega arith
total_parts count (suc k) nil = omega arith
total_parts count (suc k) (node ix below after) = omega (arith, total_parts count k after)

pub total_equal : (g h : ℕ → ℕ) (f : Forest ℕ) → ((n : ℕ) → h n ≡ g n) → total h f ≡ total g f
total_equal g h nil e = refl
total_equal g h (node n below after) e = rw (e n, total_equal g h below e, total_equal g h after e) refl

-- they read as the first trees of what is read, and those past them
pub read_first : {A : Type 0} (g : ℕ → A) (k : ℕ) (f : Forest ℕ) → relabelled g (first_trees k f)
    ≡ first_trees k (relabelled g f)
read_first g zero f = refl
read_first g (suc k) nil = refl
read_first g (suc k) (node ix below after) = ap (λ t. node (g ix) (relabelled g below) t) (read_first g k after)

pub read_past : {A : Type 0} (g : ℕ → A) (k : ℕ) (f : Forest ℕ) → relabelled g (trees_past k f)
    ≡ trees_past k (relabelled g f)
read_past g zero f = refl
read_past g (suc k) nil = refl
read_past g (suc k) (node ix below after) = read_past g k after

read_equal : {A : Type 0} (g h : ℕ → A) (f : Forest ℕ) → ((n : ℕ) → h n ≡ g n) → relabelled h f ≡ relabelled g f
read_equal g h nil e = refl
read_equal g h (node n below after) e = rw (e n, read_equal g h below e, read_equal g h after e) refl

-- a fact of each number that is in a forest
same_equal : (n m : ℕ) → 0 < same n m → n ≡ m
same_equal zero zero h = refl
same_equal zero (suc m) h = absurd (omega (arith, h))
same_equal (suc n) zero h = absurd (omega (arith, h))
same_equal (suc n) (suc m) h = ap suc (same_equal n m h)

each_from : (p : ℕ → Type 0) (f : Forest ℕ) → ((n : ℕ) → 0 < total (same n) f → p n) → Each p f
each_from p nil h = tt
each_from p (node ix below after) h = (
  h ix (omega (arith, same-refl ix)),
  each_from p below (λ n some. h n (omega (arith, some))),
  each_from p after (λ n some. h n (omega (arith, some))),
)

each_at : (p : ℕ → Type 0) (f : Forest ℕ) → Each p f → (n : ℕ) → 0 < total (same n) f → p n
each_at p nil e n some = absurd (omega (arith, some))
each_at p (node ix below after) e n some =
    by (same n ix) (total (same n) below) refl refl (λ m. each_at p below e.1 n m) (λ m. each_at p after e.2 n m)
  where
    by : (here deeper : ℕ) → same n ix ≡ here → total (same n) below ≡ deeper → (0 < total (same n) below → p n)
        → (0 < total (same n) after → p n) → p n
    by (suc here) deeper q r in_below in_after = subst p (sym (same_equal n ix (omega (arith, q)))) e.0
    by zero (suc deeper) q r in_below in_after = in_below (omega (arith, r))
    by zero zero q r in_below in_after = in_after (omega (arith, q, r, some))

-- a chain that begins with these trees, and then has a closer
pub record OpensAt (k closer : ℕ) (after : List ℕ) (f : Forest ℕ) : Type 0 where
  pub below : Forest ℕ
  pub is : trees_past k f ≡ node closer below (trees_past (suc k) f)
  pub follow : roots (trees_past (suc k) f) ≡ after

pub opens_at : (inside after : List ℕ) (closer : ℕ) (f : Forest ℕ) → roots f ≡ inside ++ closer ∷ after
    → OpensAt (length inside) closer after f
opens_at [] after closer nil e = cc e
opens_at [] after closer (node n below rest) e =
    let is : n ≡ closer = cc e in
    record { below = below; is = ap (λ m. node m below rest) is; follow = cc e }
opens_at (x ∷ inside) after closer nil e = cc e
opens_at (x ∷ inside) after closer (node n below rest) e =
    let o = opens_at inside after closer rest (cc e) in record { below = o.below; is = o.is; follow = o.follow }

-- links that stay spell what they did
pub spelled_kept : (old new : List (Node Item)) (l : Option ℕ) (f : Forest ℕ) → length old ≤ length new
    → ((n : ℕ) → 0 < total (same n) f → IsSameAt old new n) → Spells (links_of old) l f → Spells (links_of new) l f
spelled_kept old new l nil more kept s = s
spelled_kept old new l (node ix below after) more kept s =
    let at = kept ix (omega (arith, same-refl ix)) in (
      s.0,
      omega (arith, s.1, more),
      rw at.child (spelled_kept old new (child_of old ix) below more (λ n l. kept n (omega (arith, l))) s.2),
      rw at.next (spelled_kept old new (sibling_of old ix) after more (λ n l. kept n (omega (arith, l))) s.3),
    )

pub spelled_past : (nodes : List (Node Item)) (inside after : List ℕ) (closer : ℕ) (l : Option ℕ) (f : Forest ℕ)
    → roots f ≡ inside ++ closer ∷ after → Spells (links_of nodes) l f
    → Spells (links_of nodes) (Some closer) (trees_past (length inside) f)
spelled_past nodes [] after closer l nil e s = cc e
spelled_past nodes [] after closer l (node n below rest) e s =
    let is : n ≡ closer = cc e in
    subst (λ (m : ℕ). Spells (links_of nodes) (Some m) (node n below rest)) is (rw s.0 at s)
spelled_past nodes (x ∷ inside) after closer l nil e s = cc e
spelled_past nodes (x ∷ inside) after closer l (node n below rest) e s = spelled_past nodes inside after closer
    (sibling_of nodes n) rest (cc e) s.3

-- a chain is cut after a node: the links lead through the trees up to there, and the next is the closer
record CutAfter (old new : List (Node Item)) (l : Option ℕ) (last closer k : ℕ) (f : Forest ℕ) : Type 0 where
  spelled : Spells (links_of new) l (first_trees k f)
  there : 0 < total (same last) (first_trees k f)
  next : sibling_of old last ≡ Some closer

cut_after : (old new : List (Node Item)) (last closer x : ℕ) (inside after : List ℕ) (l : Option ℕ) (f : Forest ℕ)
    → length old ≤ length new
    → child_of new last ≡ child_of old last → sibling_of new last ≡ None → last_inside x inside ≡ last
    → roots f ≡ x ∷ (inside ++ closer ∷ after)
    → ((n : ℕ) → total (same n) f ≤ 1) → ((n : ℕ) → 0 < total (same n) f → (n ≡ last → ⊥) → IsSameAt old new n)
    → Spells (links_of old) l f → CutAfter old new l last closer (suc (length inside)) f
cut_after old new last closer x [] after l nil more child next is e once kept s = cc e
cut_after old new last closer x [] after l (node n below rest) more child next is e once kept s =
    let here : n ≡ last = cc (e, is) in
    let one = once n in
    let self = same-refl n in
    let first_of : roots rest ≡ closer ∷ after = cc e in
    let first : sibling_of old n ≡ Some closer = leads rest first_of s.3 in
    record {
      spelled = (
        s.0,
        omega (arith, s.1, more),
        rw (subst (λ (m : ℕ). child_of new m ≡ child_of old m) (sym here) child)
            (spelled_kept old new (child_of old n) below more (λ m l. kept m (omega (arith, l))
            (λ q. let z : 0 < total (same n) below = subst (λ (p : ℕ). 0 < total (same p) below) (q
            ∙ sym here) l in absurd (omega (arith, one, self, z)))) s.2),
        subst (λ (m : ℕ). sibling_of new m ≡ None) (sym here) next,
      );
      there = subst (λ (m : ℕ). 0 < total (same m) (node n below nil)) here (omega (arith, self));
      next = subst (λ (m : ℕ). sibling_of old m ≡ Some closer) here first;
    }
  where
    leads : (g : Forest ℕ) → roots g ≡ closer ∷ after → Spells (links_of old) (sibling_of old n) g → sibling_of old n
        ≡ Some closer
    leads nil q t = cc q
    leads (node m b a) q t = let is' : m ≡ closer = cc q in t.0 ∙ ap (λ i. Some i) is'
cut_after old new last closer x (y ∷ inside) after l nil more child next is e once kept s = cc e
cut_after old new last closer x (y ∷ inside) after l (node n below rest) more child next is e once kept s =
    let r = cut_after old new last closer y inside after (sibling_of old n) rest more child next is (cc e)
    (λ m. let z = once m
    in omega arith) (λ m l d. kept m (omega (arith, l)) d) s.3 in
    let in_rest = total_parts (same last) (suc (length inside)) rest in
    let there = r.there in
    let one = once last in
    let other : n ≡ last → ⊥ = λ q. let self : same last n ≡ 1 = subst (λ (m : ℕ). same last m ≡ 1) (sym q)
    (same-refl last)
    in absurd (omega (arith, one, self, in_rest, there)) in
    let at = kept n (omega (arith, same-refl n)) other in
    record {
      spelled = (
        s.0,
        omega (arith, s.1, more),
        rw at.child (spelled_kept old new (child_of old n) below more (λ m l. kept m (omega (arith, l))
            (λ q. let z : 0 < total (same last) below = subst (λ (p : ℕ). 0 < total (same p) below) q l
            in absurd (omega (arith, one, in_rest, there, z)))) s.2),
        rw at.next r.spelled,
      );
      there = omega (arith, there);
      next = r.next;
    }

last_there : (x : ℕ) (inside later : List ℕ) (f : Forest ℕ) → roots f ≡ x ∷ (inside ++ later)
    → 0 < total (same (last_inside x inside)) f
last_there x [] later nil e = cc e
last_there x [] later (node n below rest) e =
    let is : n ≡ x = cc e in subst (λ (m : ℕ). 0 < total (same m) (node n below rest)) is (omega (arith, same-refl n))
last_there x (y ∷ inside) later nil e = cc e
last_there x (y ∷ inside) later (node n below rest) e = omega (arith, last_there y inside later rest (cc e))

-- the links below the opener lead through what is inside then, and the last of it is no longer in what is left
record CutsAt (old new : List (Node Item)) (opener last closer k : ℕ) (f : Forest ℕ) : Type 0 where
  inside : Spells (links_of new) (child_of new opener) (first_trees k f)
  last_before : (last ≡ opener → ⊥) → sibling_of old last ≡ Some closer
  last_held : 0 < same last opener + total (same last) f
  apart : (n : ℕ) → 0 < total (same n) (trees_past k f) → n ≡ last → ⊥

cuts_at : (old new : List (Node Item)) (opener last closer : ℕ) (inside after : List ℕ) (f : Forest ℕ)
    → IsEnclosed old new opener last closer → last_inside opener inside ≡ last
    → roots f ≡ inside ++ closer ∷ after → Spells (links_of old) (sibling_of old opener) f
    → ((n : ℕ) → same n opener + total (same n) f ≤ 1) → CutsAt old new opener last closer (length inside) f
cuts_at old new opener last closer [] after f v is e s once =
    let one : same last opener ≡ 1 = subst (λ (m : ℕ). same m opener ≡ 1) is (same-refl opener) in
    record {
      inside = v.none_inside (sym is);
      last_before = λ d. absurd (d (sym is));
      last_held = omega (arith, one);
      apart = λ n l q.
          let here : 0 < total (same last) f = subst (λ (m : ℕ). 0 < total (same m) f) q l in
          absurd (let z = once last in omega (arith, one, here));
    }
cuts_at old new opener last closer (x ∷ inside) after f v is e s once =
    let there : 0 < total (same last) f = subst (λ (m : ℕ). 0 < total (same m) f) is
    (last_there x inside (closer ∷ after) f e) in
    let d : last ≡ opener → ⊥ = λ q. let one : same last opener ≡ 1 = subst (λ (m : ℕ). same last m ≡ 1) q
    (same-refl last)
    in absurd (let z = once last in omega (arith, one, there)) in
    let other : (n : ℕ) → 0 < total (same n) f → n ≡ opener → ⊥ = λ n l q. let one : same n opener
    ≡ 1 = subst (λ (m : ℕ). same n m ≡ 1) q (same-refl n) in absurd (let z = once n in omega (arith, one, l)) in
    let size = v.size in
    let r = cut_after old new last closer x inside after (sibling_of old opener) f (omega (arith, size))
    (v.last_child d) (v.last_next d) is e (λ n. let z = once n in omega arith) (λ n l q. v.others n (other n l) q) s in
    let held = r.there in
    record {
      inside = rw (v.inside_is d) r.spelled;
      last_before = λ q. r.next;
      last_held = omega (arith, there);
      apart = λ n l q.
          let here : 0 < total (same last) (trees_past (suc (length inside)) f) =
          subst (λ (m : ℕ). 0 < total (same m) (trees_past (suc (length inside)) f)) q l in
          absurd (let z = once last in let parts = total_parts (same last) (suc (length inside)) f in omega
          (arith, here, held));
    }

-- a run whose next item is not a character of a run is complete, so nothing has to follow it
goes_on_none : (source : List ℕ) (a b : Numbered) (count : ℕ) (opens closes : Bool) → run_character b.item.body ≡ None
    → RunGoesOn source a count opens closes (Some b) → RunGoesOn source a count opens closes None
goes_on_none source a b zero opens closes none h = h
goes_on_none source a b (suc zero) opens closes none h = tt
goes_on_none source a b (suc (suc n)) opens closes none h = cc (none, h.body)

pub run_none : (source : List ℕ) (a b : Numbered) (o : Option RunCharacter) → run_character b.item.body ≡ None
    → IfSome o (StandsInRun source a (Some b)) → IfSome o (StandsInRun source a None)
run_none source a b None none h = h
run_none source a b (Some c) none h = record {
  one_byte = h.one_byte;
  delimiter = h.delimiter;
  goes_on = goes_on_none source a b c.count c.can_open c.can_close none h.goes_on;
}

following_is : (old new : List (Node Item)) (l : Option ℕ) → ((n : ℕ) → item_at new n ≡ item_at old n)
    → option_map (numbered new) l ≡ option_map (numbered old) l
following_is old new None h = refl
following_is old new (Some n) h = rw (h n) refl

-- the chain then
module _ {source : List ℕ} {tables : Tables} {old new : List (Node Item)} {opener last closer : ℕ} {inside : List ℕ}
    {byte : ℕ} (can : CanClose source tables old opener closer inside byte)
    (is : last_inside opener inside ≡ last) (v : IsEnclosed old new opener last closer) where
  abbrev f : Forest ℕ
  f = forest_at (links_of old) (sibling_of old opener)

  abbrev k : ℕ
  k = length inside

  opened : Opened (links_of old) (IsPlaced source tables old) opener
  opened = opens (links_of old) (IsPlaced source tables old) opener can.ready.reaches

  pub whole_is : forest_at (links_of old) (Some opener) ≡ node opener nil f
  whole_is =
      opened.here ∙ ap (λ l. node opener (forest_at (links_of old) l) f) can.childless
      ∙ ap (λ g. node opener g f) (forest_at-none (links_of old))

  whole_once : (n : ℕ) → same n opener + total (same n) f ≤ 1
  whole_once n = let x = rw whole_is at (can.ready.once n) in omega arith

  not_opener : (n : ℕ) → 0 < total (same n) f → n ≡ opener → ⊥
  not_opener n l q = let one : same n opener ≡ 1 = subst (λ (m : ℕ). same n m ≡ 1) q (same-refl n)
      in absurd (let z = whole_once n in omega (arith, one, l))

  cuts : CutsAt old new opener last closer k f
  cuts = cuts_at old new opener last closer inside can.after f v is can.follows opened.after.spelled whole_once

  -- past the inside nodes are as they were
  pub rest_kept : (n : ℕ) → 0 < total (same n) (trees_past k f) → IsSameAt old new n
  rest_kept n l = let parts = total_parts (same n) k f in v.others n (not_opener n (omega (arith, l))) (cuts.apart n l)

  rest_spelled : Spells (links_of new) (Some closer) (trees_past k f)
  rest_spelled =
      let size = v.size in
      spelled_kept old new (Some closer) (trees_past k f) (omega (arith, size)) rest_kept
      (spelled_past old inside can.after closer (sibling_of old opener) f can.follows opened.after.spelled)

  abbrev now : Forest ℕ
  now = node opener (first_trees k f) (trees_past k f)

  now_spelled : Spells (links_of new) (Some opener) now
  now_spelled = let size = v.size in let within = opened.within
      in (refl, omega (arith, size, within), cuts.inside, rw v.next_is rest_spelled)

  now_total : (count : ℕ → ℕ) → total count now ≡ total count (node opener nil f)
  now_total count = let parts = total_parts count k f in omega arith

  now_here : forest_at (links_of new) (Some opener) ≡ now
  now_here = found (links_of new) (Some opener) now now_spelled
      (λ n. let z = whole_once n in let t = now_total (same n) in omega arith)

  pub inside_forest : forest_at (links_of new) (child_of new opener) ≡ first_trees k f
  inside_forest = found (links_of new) (child_of new opener) (first_trees k f) cuts.inside (λ n. let z = whole_once n
      in let parts = total_parts (same n) k f in omega arith)

  -- it reads so
  labels : (n : ℕ) → tree_node_at source tables new n ≡ tree_node_at source tables old n
  labels n = ap (λ x. tree_node_of source tables x) (v.items n)

  pub inside_reads : trees_from source tables new (child_of new opener)
      ≡ first_trees k (trees_from source tables old (sibling_of old opener))
  inside_reads =
      ap (λ (g : Forest ℕ). relabelled (tree_node_at source tables new) g) inside_forest
      ∙ read_equal (tree_node_at source tables old) (tree_node_at source tables new) (first_trees k f) labels
      ∙ read_first (tree_node_at source tables old) k f

  -- its items are placed
  closer_past : StandsPast old opener (item_at old opener).end closer
  closer_past = past_at old opener (item_at old opener).end closer inside can.after
      (rw can.follows at (rest_past can.ready))

  placed_opener : IsPlaced source tables old opener → IsPlaced source tables new opener
  placed_opener p = record {
    lies = rw (v.items opener) p.lies;
    named = rw (v.items opener) p.named;
    slices = rw (v.items opener) p.slices;
    keeps = record {
      in_order = rw v.next_is (λ x y. record {
        ends = rw (v.items opener, v.items closer) closer_past.start;
        numbers = closer_past.number;
      });
      markup_is_there = rw (v.items opener) p.keeps.markup_is_there;
      runs_are_whole = no_run_here source (numbered new opener) (next_at new opener)
          (rw (v.items opener) can.opener_closed);
      childless = λ e. absurd (let no : true ≡ false = sym e ∙ (rw (v.items opener) can.opener_closed) in cc no);
    };
  }

  placed_last : (last ≡ opener → ⊥) → IsPlaced source tables old last → IsPlaced source tables new last
  placed_last d p =
      let before : option_map (numbered old) (sibling_of old last) ≡ Some (numbered old closer) =
      ap (λ (l : Option ℕ). option_map (numbered old) l) (cuts.last_before d) in
      record {
        lies = rw (v.items last) p.lies;
        named = rw (v.items last) p.named;
        slices = rw (v.items last) p.slices;
        keeps = record {
          in_order = rw (v.last_next d) tt;
          markup_is_there = rw (v.items last) p.keeps.markup_is_there;
          runs_are_whole = rw (v.last_next d, v.items last)
              (run_none source (numbered old last) (numbered old closer) (run_character (item_at old last).body)
              can.closer_no_run (rw before at p.keeps.runs_are_whole));
          childless = rw (v.items last, v.last_child d) p.keeps.childless;
        };
      }

  placed_other : (n : ℕ) → IsSameAt old new n → IsPlaced source tables old n → IsPlaced source tables new n
  placed_other n at p = record {
    lies = rw at.item p.lies;
    named = rw at.item p.named;
    slices = rw at.item p.slices;
    keeps = rw (at.next, at.child, at.item, following_is old new (sibling_of old n) v.items) p.keeps;
  }

  placed_new : (n : ℕ) → IsPlaced source tables old n → IsPlaced source tables new n
  placed_new n p = ⊎_elim (λ (e : n ≡ opener). subst (IsPlaced source tables new) (sym e)
      (placed_opener (subst (IsPlaced source tables old) e p))) (λ (d : n ≡ opener → ⊥). ⊎_elim
      (λ (e : n ≡ last). subst (IsPlaced source tables new) (sym e)
      (placed_last (λ q. d (e ∙ q)) (subst (IsPlaced source tables old) e p)))
      (λ (d' : n ≡ last → ⊥). placed_other n (v.others n d d') p) (cases_eq n last)) (cases_eq n opener)

  now_placed : Each (IsPlaced source tables new) now
  now_placed = each_from (IsPlaced source tables new) now (λ n some.
      let t = now_total (same n) in
      placed_new n (each_at (IsPlaced source tables old) (node opener nil f) (rw whole_is at can.ready.reaches.each) n
      (omega (arith, t, some))))

  -- so it has changed in place
  pub enclosed_moves : Moves source (Some opener) (Some opener) old new tables tables
  enclosed_moves =
      let size = v.size in
      let named : (n : Named) → total (naming new n) now ≡ total (naming old n) (node opener nil f) =
      λ n. total_equal (naming old n) (naming new n) now (λ m. ap (λ (x : Item). times_named n x.body) (v.items m))
      ∙ now_total (naming old n) in
      let weight : total (weight_at new) now ≡ total (weight_at old) (node opener nil f) =
      total_equal (weight_at old) (weight_at new) now (λ m. ap (λ (x : Item). weight_if (is_open x.body)) (v.items m))
      ∙ now_total (weight_at old) in
      record {
        stands = record {
          reaches = record { spelled = rw now_here now_spelled; each = rw now_here now_placed };
          once = λ n. rw now_here (let z = whole_once n in let t = now_total (same n) in omega arith);
          named_once = λ n. rw now_here
              (let z = rw whole_is at (can.ready.named_once n) in let t = named n in omega arith);
        };
        of_chain = λ n l. rw (now_here, whole_is) (let t = now_total (same n) in omega arith);
        more_nodes = omega (arith, size);
        outside = λ n l z.
            let none : same n opener + total (same n) f ≡ 0 = (let x = rw whole_is at z in omega arith) in
            let held = cuts.last_held in
            v.others n (λ q. let one : same n opener ≡ 1 = subst (λ (m : ℕ). same n m ≡ 1) q (same-refl n) in absurd
            (omega (arith, one, none))) (λ q. let here : 0 < same n opener + total (same n) f = subst
            (λ (m : ℕ). 0 < same m opener + total (same m) f) (sym q) held
            in absurd (omega (arith, here, none)));
        grown = grown-nothing tables;
        named = λ n l. rw (now_here, whole_is) (let t = named n in omega arith);
        no_heavier = rw (now_here, whole_is) (omega (arith, weight));
      }

-- the writes that do so
next_items : (nodes : List (Node Item)) (jx : ℕ) (next : Option ℕ) (n : ℕ)
    → item_at (changed_at jx (λ m. record m { next = next }) nodes) n ≡ item_at nodes n
next_items [] jx next n = refl
next_items (m ∷ nodes) zero next zero = refl
next_items (m ∷ nodes) zero next (suc n) = refl
next_items (m ∷ nodes) (suc jx) next zero = refl
next_items (m ∷ nodes) (suc jx) next (suc n) = next_items nodes jx next n

child_items : (nodes : List (Node Item)) (jx : ℕ) (child : Option ℕ) (n : ℕ)
    → item_at (changed_at jx (λ m. record m { child = child }) nodes) n ≡ item_at nodes n
child_items [] jx child n = refl
child_items (m ∷ nodes) zero child zero = refl
child_items (m ∷ nodes) zero child (suc n) = refl
child_items (m ∷ nodes) (suc jx) child zero = refl
child_items (m ∷ nodes) (suc jx) child (suc n) = child_items nodes jx child n

abbrev pub with_next : ℕ → Option ℕ → List (Node Item) → List (Node Item)
with_next ix next nodes = changed_at ix (λ n. record n { next = next }) nodes

abbrev pub with_child : ℕ → Option ℕ → List (Node Item) → List (Node Item)
with_child ix child nodes = changed_at ix (λ n. record n { child = child }) nodes

pub enclosed_nodes : (old : List (Node Item)) (opener last closer : ℕ) (inside : Option ℕ) → opener < length old
    → last < length old → inside ≡ sibling_of (with_next last None old) opener
    → IsEnclosed old (with_next opener (Some closer) (with_child opener inside (with_next last None old))) opener last
    closer
enclosed_nodes old opener last closer inside within last_within inside_is =
    let a = with_next last None old in
    let b = with_child opener inside a in
    let c = with_next opener (Some closer) b in
    let ends : Node Item → Node Item = λ n. record n { next = None } in
    let hangs : Node Item → Node Item = λ n. record n { child = inside } in
    let leads : Node Item → Node Item = λ n. record n { next = Some closer } in
    let size_a = length-changed_at last ends old in
    let size_b = length-changed_at opener hangs a in
    let size_c = length-changed_at opener leads b in
    let p = changed_here old last ends last_within in
    let q = changed_here a opener hangs (omega (arith, size_a, within)) in
    let r = changed_here b opener leads (omega (arith, size_b, size_a, within)) in
    record {
      size = size_c ∙ size_b ∙ size_a;
      items = λ n. next_items b opener (Some closer) n ∙ child_items a opener inside n ∙ next_items old last None n;
      next_is = r.next;
      none_inside = λ e. r.child ∙ q.child ∙ inside_is ∙ subst (λ (m : ℕ). sibling_of a m ≡ None) e p.next;
      inside_is = λ d. r.child ∙ q.child ∙ inside_is ∙ (changed_other old last ends opener (λ e. d (sym e))).next;
      last_next = λ d. (changed_other b opener leads last d).next ∙ (changed_other a opener hangs last d).next ∙ p.next;
      last_child = λ d. (changed_other b opener leads last d).child ∙ (changed_other a opener hangs last d).child
          ∙ p.child;
      others = λ n d e. same_trans (same_trans (changed_other old last ends n e) (changed_other a opener hangs n d))
          (changed_other b opener leads n d);
    }

pub enclosed_tree : (s t u w : Arena Item) (opener last closer : ℕ) (inside : Option ℕ) → opener < length s.nodes
    → last < length s.nodes → inside ≡ sibling_of t.nodes opener
    → t ≡ record s { nodes = with_next last None s.nodes } → u ≡ record t { nodes = with_child opener inside t.nodes }
    → w ≡ record u { nodes = with_next opener (Some closer) u.nodes } → IsEnclosed s.nodes w.nodes opener last closer
enclosed_tree s t u w opener last closer inside within last_within inside_is e1 e2 e3 =
    let t_is : t.nodes ≡ with_next last None s.nodes = ap (λ (a : Arena Item). a.nodes) e1 in
    let u_is : u.nodes ≡ with_child opener inside (with_next last None s.nodes) = ap (λ (a : Arena Item). a.nodes) e2
    ∙ ap (λ (ns : List (Node Item)). with_child opener inside ns) t_is in
    let w_is : w.nodes ≡ with_next opener (Some closer) (with_child opener inside (with_next last None s.nodes)) =
    ap (λ (a : Arena Item). a.nodes) e3 ∙ ap (λ (ns : List (Node Item)). with_next opener (Some closer) ns) u_is in
    rw w_is (enclosed_nodes s.nodes opener last closer inside within last_within (inside_is
    ∙ ap (λ (ns : List (Node Item)). sibling_of ns opener) t_is))

-- they keep its size
pub size_next : (s t : Arena Item) (ix : ℕ) (next : Option ℕ) → t ≡ record s { nodes = with_next ix next s.nodes }
    → length t.nodes ≡ length s.nodes
size_next s t ix next e = ap (λ (a : Arena Item). length a.nodes) e
    ∙ length-changed_at ix (λ n. record n { next = next }) s.nodes

pub size_child : (s t : Arena Item) (ix : ℕ) (child : Option ℕ) → t ≡ record s { nodes = with_child ix child s.nodes }
    → length t.nodes ≡ length s.nodes
size_child s t ix child e = ap (λ (a : Arena Item). length a.nodes) e
    ∙ length-changed_at ix (λ n. record n { child = child }) s.nodes

-- the nodes that are written are there
pub record AreWithin (nodes : List (Node Item)) (opener last closer : ℕ) : Type 0 where
  pub first : opener < length nodes
  pub inner : last < length nodes
  pub end : closer < length nodes

last_within : (nodes : List (Node Item)) (opener closer : ℕ) (inside after : List ℕ) (l : Option ℕ) (f : Forest ℕ)
    → opener < length nodes → roots f ≡ inside ++ closer ∷ after
    → Spells (links_of nodes) l f → last_inside opener inside < length nodes
last_within nodes opener closer [] after l f within e s = within
last_within nodes opener closer (x ∷ inside) after l f within e s =
    let there = last_there x inside (closer ∷ after) f e in
    ⊎_elim (λ h. h) (λ h. absurd (omega (arith, times-past (links_of nodes) l f (last_inside x inside) s h, there)))
    (cases_lt (last_inside x inside) (length nodes))

pub closer_within : {source : List ℕ} {tables : Tables} {nodes : List (Node Item)} {opener closer : ℕ} {inside : List ℕ}
    {byte : ℕ} → CanClose source tables nodes opener closer inside byte → closer < length nodes
closer_within {source} {tables} {nodes} {opener} {closer} {inside} {byte} can =
    let o = opens (links_of nodes) (IsPlaced source tables nodes) opener can.ready.reaches in
    let f = forest_at (links_of nodes) (sibling_of nodes opener) in
    let at = opens_at inside can.after closer f can.follows in
    let spelled : Spells (links_of nodes) (Some closer) (node closer at.below (trees_past (suc (length inside)) f)) =
    rw at.is at (spelled_past nodes inside can.after closer (sibling_of nodes opener) f can.follows o.after.spelled) in
    spelled.1

pub are_within : {source : List ℕ} {tables : Tables} {nodes : List (Node Item)} {opener last closer : ℕ}
    {inside : List ℕ} {byte : ℕ} → CanClose source tables nodes opener closer inside byte
    → last_inside opener inside ≡ last → AreWithin nodes opener last closer
are_within {source} {tables} {nodes} {opener} {last} {closer} {inside} {byte} can is =
    let o = opens (links_of nodes) (IsPlaced source tables nodes) opener can.ready.reaches in
    let f = forest_at (links_of nodes) (sibling_of nodes opener) in
    record {
      first = o.within;
      inner = subst (λ (n : ℕ). n < length nodes) is
          (last_within nodes opener closer inside can.after (sibling_of nodes opener) f o.within
          can.follows o.after.spelled);
      end = closer_within can;
    }
