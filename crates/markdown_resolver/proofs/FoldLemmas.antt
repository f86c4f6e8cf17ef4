-- What was inside went below the opener's node in some form, and the closer follows that: the chain as it is then. What
-- is below the opener is no more than was inside.
use Rattle.std.proofs.Common.{◌≡◌, ℕ, zero, suc, ◌+◌, ◌<◌, ◌≤◌, true, false, List, [], ◌∷◌, ◌++◌, length, Some, refl}
use Rattle.std.proofs.Common.{sym, ap, ◌∙◌, arith, nat_le}
use Rattle.std.proofs.lemmas.Bool.Decides.{nat_tests}
use Rattle.markdown_base.specs.Arena.{child_of, sibling_of}
use Rattle.markdown_base.specs.ArenaForest.{Spells, forest_at, links_of}
use Rattle.markdown_base.specs.ArenaRules.{next_at}
use Rattle.markdown_base.specs.ArenaWalk.{Reaches}
use Rattle.markdown_base.specs.BlockTree.{numbered, item_at}
use Rattle.markdown_base.specs.Forest.{Forest, nil, node, Each, relabelled, roots}
use Rattle.markdown_base.specs.Item.{is_open}
use Rattle.markdown_base.specs.declared.item.Item.{Item}
use Rattle.markdown_base.specs.declared.node.Node.{Node}
use Rattle.markdown_base.proofs.ArenaForestLemmas.{opens, Opened, forest_at-none}
use Rattle.markdown_document.specs.Places.{tree_node_at, trees_from}
use Rattle.markdown_document.specs.PlacedNodes.{IsSameAt, IsPlaced}
use Rattle.markdown_document.specs.ResolverStates.{times_in, named_in, weight_in}
use Rattle.markdown_document.specs.Tables.{Tables}
use Rattle.markdown_document.specs.NamedEntries.{Named, naming, times_named}
use Rattle.markdown_document.specs.Totals.{total, same, weight_at, weight_if}
use Rattle.markdown_document.proofs.FoundLemmas.{found}
use Rattle.markdown_document.proofs.FrameLemmas.{Framed, framed, stay_throughout}
use Rattle.markdown_document.proofs.TablesLemmas.{same-refl, same_entry-refl, grown-longer, grown-nothing}
use Rattle.markdown_resolver.specs.ClosedOver.{first_trees, trees_past, last_inside, CanClose, IsEnclosed}
use Rattle.markdown_resolver.specs.Rewritten.{first_past}
use Rattle.markdown_resolver.proofs.ChainOrderLemmas.{AllPast, StandsPast, rest_past}
use Rattle.markdown_resolver.proofs.ComposeLemmas.{Stands, Moves}
use Rattle.markdown_resolver.proofs.EncloseLemmas.{OpensAt, opens_at, enclosed_moves, inside_forest, read_past}
use Rattle.markdown_resolver.proofs.EncloseLemmas.{rest_kept, spelled_past, total_equal, total_parts}
use Rattle.markdown_resolver.proofs.PutLemmas.{first_kept, first_there, no_run_here}
use Rattle.markdown_resolver.proofs.PutPairLemmas.{past_at}

-- the chain after an opener's node, of which the first k trees are inside
pub record IsFolded (source : List ℕ) (tables : Tables) (old new : List (Node Item)) (opener closer k : ℕ) : Type 0
  where
    pub size : length new ≡ length old
    pub item_is : item_at new opener ≡ item_at old opener
    pub next_is : sibling_of new opener ≡ Some closer
    -- what is below it then
    pub below : Stands source tables new (child_of new opener)
    pub below_of : (n : ℕ) → times_in new (child_of new opener) n ≤ total (same n)
        (first_trees k (forest_at (links_of old) (sibling_of old opener)))
    pub below_named : (n : Named) → named_in new (child_of new opener) n ≤ total (naming old n)
        (first_trees k (forest_at (links_of old) (sibling_of old opener)))
    pub below_weight : weight_in new (child_of new opener) ≤ total (weight_at old)
        (first_trees k (forest_at (links_of old) (sibling_of old opener)))
    -- from the closer on all is unchanged, and so is what is not of the chain
    pub after : (n : ℕ) → 0 < total (same n) (trees_past k (forest_at (links_of old) (sibling_of old opener)))
        → IsSameAt old new n
    pub outside : (n : ℕ) → n < length old → times_in old (Some opener) n ≡ 0 → IsSameAt old new n

each_past : (p : ℕ → Type 0) (k : ℕ) (f : Forest ℕ) → Each p f → Each p (trees_past k f)
each_past p zero f e = e
each_past p (suc k) nil e = e
each_past p (suc k) (node ix below after) e = each_past p k after e.2

-- the first nodes of a chain; each counts in a sum over it
pub first_roots : (inside rest : List ℕ) (f : Forest ℕ) → roots f ≡ inside ++ rest
    → roots (first_trees (length inside) f) ≡ inside
first_roots [] rest f e = refl
first_roots (x ∷ inside) rest nil e = cc e
first_roots (x ∷ inside) rest (node n below after) e =
    let is : n ≡ x = cc e in
    rw is (ap (λ (ns : List ℕ). x ∷ ns) (first_roots inside rest after (cc e)))

pub counted_among : (count : ℕ → ℕ) (n : ℕ) (before after : List ℕ) (f : Forest ℕ) → roots f ≡ before ++ n ∷ after
    → count n ≤ total count f
counted_among count n [] after nil e = cc e
counted_among count n [] after (node m below rest) e =
    let is : m ≡ n = cc e in
    let one : count n ≡ count m = ap count (sym is) in
    omega (arith, one)
counted_among count n (x ∷ before) after nil e = cc e
counted_among count n (x ∷ before) after (node m below rest) e = omega
    (arith, counted_among count n before after rest (cc e))

-- of numbers past a number, those after others; and those whose items stay
past_after : (nodes : List (Node Item)) (low byte : ℕ) (before after : List ℕ)
    → AllPast nodes low byte (before ++ after) → AllPast nodes low byte after
past_after nodes low byte [] after h = h
past_after nodes low byte (n ∷ before) after h = past_after nodes low byte before after h.1

past_kept : (old new : List (Node Item)) (low byte : ℕ) (f : Forest ℕ)
    → ((n : ℕ) → 0 < total (same n) f → item_at new n ≡ item_at old n) → AllPast old low byte (roots f)
    → AllPast new low byte (roots f)
past_kept old new low byte nil kept all = tt
past_kept old new low byte (node n below after) kept all =
    let p = all.0 in (
      record { number = p.number; start = rw (kept n (omega (arith, same-refl n))) p.start },
      past_kept old new low byte after (λ m l. kept m (omega (arith, l))) all.1,
    )

-- the chain before that
module _ {source : List ℕ} {tables : Tables} {old : List (Node Item)} {opener closer : ℕ} {inside : List ℕ} {byte : ℕ}
    (can : CanClose source tables old opener closer inside byte) where
  abbrev f : Forest ℕ
  f = forest_at (links_of old) (sibling_of old opener)

  abbrev k : ℕ
  k = length inside

  opened : Opened (links_of old) (IsPlaced source tables old) opener
  opened = opens (links_of old) (IsPlaced source tables old) opener can.ready.reaches

  pub whole_childless : forest_at (links_of old) (Some opener) ≡ node opener nil f
  whole_childless = opened.here ∙ ap (λ l. node opener (forest_at (links_of old) l) f) can.childless
      ∙ ap (λ g. node opener g f) (forest_at-none (links_of old))

  pub stands_once : (n : ℕ) → same n opener + total (same n) f ≤ 1
  stands_once n = let x = rw whole_childless at (can.ready.once n) in omega arith

  pub closer_opens : OpensAt k closer can.after f
  closer_opens = opens_at inside can.after closer f can.follows

  pub closer_old : Spells (links_of old) (Some closer) (trees_past k f)
  closer_old = spelled_past old inside can.after closer (sibling_of old opener) f can.follows opened.after.spelled

  pub closer_forest : forest_at (links_of old) (Some closer) ≡ trees_past k f
  closer_forest = found (links_of old) (Some closer) (trees_past k f) closer_old (λ n. let z = stands_once n
      in let parts = total_parts (same n) k f in omega arith)

  pub closer_reaches : Reaches (links_of old) (IsPlaced source tables old) (Some closer)
  closer_reaches = record {
    spelled = rw closer_forest closer_old;
    each = rw closer_forest (each_past (IsPlaced source tables old) k f opened.after.each);
  }

  pub closer_stands_there : 0 < total (same closer) (trees_past k f)
  closer_stands_there =
      let one : total (same closer) (trees_past k f) ≡ same closer closer + (total (same closer) closer_opens.below
      + total (same closer) (trees_past (suc k) f)) =
      ap (λ (g : Forest ℕ). total (same closer) g) closer_opens.is in
      omega (arith, one, same-refl closer)

  pub closer_past : StandsPast old opener (item_at old opener).end closer
  closer_past = past_at old opener (item_at old opener).end closer inside can.after
      (rw can.follows at (rest_past can.ready))

  closer_roots : roots (trees_past k f) ≡ closer ∷ can.after
  closer_roots = ap (λ (g : Forest ℕ). roots g) closer_opens.is ∙ ap (λ (ns : List ℕ). closer ∷ ns) closer_opens.follow

  -- the chain after the closer
  after_opened : Opened (links_of old) (IsPlaced source tables old) closer
  after_opened = opens (links_of old) (IsPlaced source tables old) closer closer_reaches

  pub after_spelled : Spells (links_of old) (sibling_of old closer) (forest_at (links_of old) (sibling_of old closer))
  after_spelled = after_opened.after.spelled

  pub after_is : forest_at (links_of old) (sibling_of old closer) ≡ trees_past (suc k) f
  after_is = let both = sym after_opened.here ∙ closer_forest ∙ closer_opens.is in cc both

  pub next_after : first_past old byte can.after
      ≡ first_past old byte (roots (forest_at (links_of old) (sibling_of old closer)))
  next_after = ap (λ (ns : List ℕ). first_past old byte ns)
      (sym closer_opens.follow ∙ ap (λ (g : Forest ℕ). roots g) (sym after_is))

  -- where all from the closer on stays, it reads as it did
  module _ (new : List (Node Item)) (size : length new ≡ length old)
      (after : (n : ℕ) → 0 < total (same n) (trees_past k f) → IsSameAt old new n) where
    pub after_framed : Framed source tables tables old new (Some closer)
    after_framed =
        framed source tables tables old new (Some closer) (omega (arith, size))
        (grown-longer tables tables (grown-nothing tables))
        closer_reaches (rw closer_forest (stay_throughout tables tables old new (trees_past k f) refl after
        (λ n l. same_entry-refl tables n)))

    pub after_forest : forest_at (links_of new) (Some closer) ≡ trees_past k f
    after_forest = after_framed.forest ∙ closer_forest

    pub after_reads : trees_from source tables new (Some closer)
        ≡ trees_past k (trees_from source tables old (sibling_of old opener))
    after_reads = after_framed.trees ∙ ap (λ (g : Forest ℕ). relabelled
        (tree_node_at source tables old) g) closer_forest
        ∙ read_past (tree_node_at source tables old) k f

    -- the first past a byte offset after the closer is the same
    pub first_after : first_past new byte (roots (forest_at (links_of new) (Some closer)))
        ≡ first_past old byte can.after
    first_after =
        let ends = can.closer_ends in
        let test : nat_le (item_at old closer).end byte ≡ true = grind (arith, nat_tests, ends) in
        let skip : first_past old byte (closer ∷ can.after) ≡ first_past old byte can.after = rw test refl in
        ap (λ (g : Forest ℕ). first_past new byte (roots g)) after_forest ∙ first_kept old new byte (trees_past k f)
        (λ n l. (after n l).item) ∙ ap (λ (ns : List ℕ). first_past old byte ns) closer_roots ∙ skip

    -- it is past the opener
    pub after_past : AllPast new opener (item_at old opener).end (roots (forest_at (links_of new) (Some closer)))
    after_past =
        let all : AllPast old opener (item_at old opener).end (inside ++ closer ∷ can.after) = rw can.follows at
        (rest_past can.ready) in
        let some : AllPast old opener (item_at old opener).end (roots (trees_past k f)) = rw closer_roots
        (past_after old opener (item_at old opener).end inside (closer ∷ can.after) all) in
        rw after_forest (past_kept old new opener (item_at old opener).end (trees_past k f) (λ n l. (after n l).item)
        some)

    pub item_after : (n : ℕ) → first_past old byte can.after ≡ Some n → item_at new n ≡ item_at old n
    item_after n e =
        let there : first_past new byte (roots (trees_past k f))
        ≡ Some n = ap (λ (g : Forest ℕ). first_past new byte (roots g)) (sym after_forest) ∙ first_after ∙ e in
        (after n (first_there new byte n (trees_past k f) there)).item

  -- folded, it is changed in place
  module _ (new : List (Node Item)) (v : IsFolded source tables old new opener closer k) where
    rest : Framed source tables tables old new (Some closer)
    rest = after_framed new v.size v.after

    abbrev now : Forest ℕ
    now = node opener (forest_at (links_of new) (child_of new opener)) (forest_at (links_of new) (Some closer))

    now_spelled : Spells (links_of new) (Some opener) now
    now_spelled = let size = v.size in let within = opened.within
        in (refl, omega (arith, size, within), v.below.reaches.spelled, rw v.next_is rest.reaches.spelled)

    now_times : (n : ℕ) → total (same n) now ≤ total (same n) (node opener nil f)
    now_times n =
        let below = v.below_of n in
        let parts = total_parts (same n) k f in
        let after : times_in new (Some closer) n
        ≡ total (same n) (trees_past k f) = ap (λ (g : Forest ℕ). total (same n) g)
        (after_forest new v.size v.after) in
        omega (arith, below, parts, after)

    now_here : forest_at (links_of new) (Some opener) ≡ now
    now_here = found (links_of new) (Some opener) now now_spelled
        (λ n. let z = stands_once n in let t = now_times n in omega arith)

    now_named : (n : Named) → total (naming new n) now ≤ total (naming old n) (node opener nil f)
    now_named n =
        let below = v.below_named n in
        let parts = total_parts (naming old n) k f in
        let after : named_in new (Some closer) n ≡ total (naming old n) (trees_past k f) = rest.naming n
        ∙ ap (λ (g : Forest ℕ). total (naming old n) g) closer_forest in
        rw v.item_is (omega (arith, below, parts, after))

    now_weight : total (weight_at new) now ≤ total (weight_at old) (node opener nil f)
    now_weight =
        let below = v.below_weight in
        let parts = total_parts (weight_at old) k f in
        let after : weight_in new (Some closer) ≡ total (weight_at old) (trees_past k f) = rest.weight
        ∙ ap (λ (g : Forest ℕ). total (weight_at old) g) closer_forest in
        rw v.item_is (omega (arith, below, parts, after))

    opener_placed : IsPlaced source tables new opener
    opener_placed =
        let p = opened.holds in
        let at = v.after closer closer_stands_there in
        record {
          lies = rw v.item_is p.lies;
          named = rw v.item_is p.named;
          slices = rw v.item_is p.slices;
          keeps = record {
            in_order = rw v.next_is
                (λ x y. record { ends = rw (v.item_is, at.item) closer_past.start; numbers = closer_past.number });
            markup_is_there = rw v.item_is p.keeps.markup_is_there;
            runs_are_whole = no_run_here source (numbered new opener) (next_at new opener)
                (rw v.item_is can.opener_closed);
            childless = λ e. absurd (let no : true ≡ false = sym e ∙ (rw v.item_is can.opener_closed) in cc no);
          };
        }

    pub folded_moves : Moves source (Some opener) (Some opener) old new tables tables
    folded_moves =
        let size = v.size in
        record {
          stands = record {
            reaches = record {
              spelled = rw now_here now_spelled;
              each = rw now_here (opener_placed, v.below.reaches.each, rest.reaches.each);
            };
            once = λ n. rw now_here (let z = stands_once n in let t = now_times n in omega arith);
            named_once = λ n. rw now_here (let z = rw whole_childless at (can.ready.named_once n) in let t = now_named n
                in omega (arith, z, t));
          };
          of_chain = λ n l. rw (now_here, whole_childless) (now_times n);
          more_nodes = omega (arith, size);
          outside = v.outside;
          grown = grown-nothing tables;
          named = λ n l. rw (now_here, whole_childless) (now_named n);
          no_heavier = rw (now_here, whole_childless) now_weight;
        }

-- what is enclosed is folded
pub enclosed_folds : {source : List ℕ} {tables : Tables} {old new : List (Node Item)} {opener last closer : ℕ}
    {inside : List ℕ} {byte : ℕ} → CanClose source tables old opener closer inside byte
    → last_inside opener inside ≡ last → IsEnclosed old new opener last closer
    → IsFolded source tables old new opener closer (length inside)
enclosed_folds {source} {tables} {old} {new} {opener} {last} {closer} {inside} {byte} can is v =
    let m = enclosed_moves can is v in
    let o = opens (links_of new) (IsPlaced source tables new) opener m.stands.reaches in
    let here = inside_forest can is v in
    let g = first_trees (length inside) (forest_at (links_of old) (sibling_of old opener)) in
    record {
      size = v.size;
      item_is = v.items opener;
      next_is = v.next_is;
      below = record {
        reaches = o.below;
        once = λ n. let x = rw o.here at (m.stands.once n) in omega arith;
        named_once = λ n. let x = rw o.here at (m.stands.named_once n) in omega arith;
      };
      below_of = λ n. rw here (omega arith);
      below_named = λ n. rw here
          (let e = total_equal (naming old n) (naming new n) g (λ m. ap (λ (x : Item). times_named n x.body)
          (v.items m)) in omega (arith, e));
      below_weight = rw here
          (let e = total_equal (weight_at old) (weight_at new) g (λ m. ap (λ (x : Item). weight_if (is_open x.body))
          (v.items m)) in omega (arith, e));
      after = rest_kept can is v;
      outside = m.outside;
    }
