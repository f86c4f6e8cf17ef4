-- A wikilink is put into the node of its opener, with a Text for its name below it, in a node that was inside.
use Rattle.std.proofs.Common.{◌≡◌, ℕ, ◌+◌, ◌<◌, ◌≤◌, List, [], ◌∷◌, ◌++◌, length, Option, Some, None, refl, sym, ap}
use Rattle.std.proofs.Common.{◌∙◌, subst, ⊎_elim, arith}
use Rattle.std.proofs.lemmas.Bool.{cases_lt}
use Rattle.markdown_base.specs.Arena.{Arena, child_of, sibling_of}
use Rattle.markdown_base.specs.ArenaForest.{Spells, forest_at, links_of}
use Rattle.markdown_base.specs.ArenaRules.{next_at}
use Rattle.markdown_base.specs.BlockTree.{numbered, item_at}
use Rattle.markdown_base.specs.Forest.{Forest, nil, node, roots}
use Rattle.markdown_base.specs.Item.{is_open}
use Rattle.markdown_base.specs.declared.item.Item.{Item}
use Rattle.markdown_base.specs.declared.node.Node.{Node}
use Rattle.markdown_base.proofs.ArenaForestLemmas.{opens}
use Rattle.markdown_base.proofs.ArenaLemmas.{length-changed_at}
use Rattle.markdown_document.specs.Document.{tree_node_of}
use Rattle.markdown_document.specs.Places.{tree_node_at, trees_from, origin_start}
use Rattle.markdown_document.specs.PlacedNodes.{IsSameAt, IsPlaced}
use Rattle.markdown_document.specs.ResolverStates.{times_in}
use Rattle.markdown_document.specs.Tables.{Tables}
use Rattle.markdown_document.specs.NamedEntries.{HasGrown, Named, times_named}
use Rattle.markdown_document.specs.Totals.{total, same, weight_at}
use Rattle.markdown_document.proofs.FoundLemmas.{found}
use Rattle.markdown_document.proofs.ItemRulesLemmas.{keeps-closed}
use Rattle.markdown_document.proofs.PlaceLemmas.{times-past, slices-none, some_weight}
use Rattle.markdown_document.proofs.TablesLemmas.{same-refl}
use Rattle.markdown_resolver.specs.ClosedOver.{first_trees, trees_past, over_text, CanClose, CanPutOver, PutsOver}
use Rattle.markdown_resolver.specs.Rewritten.{CanPut, IsRestPast}
use Rattle.markdown_resolver.specs.declared.continuation.Continuation.{Continuation}
use Rattle.markdown_resolver.specs.LiteralText.{IsWritten, begun_from}
use Rattle.markdown_resolver.proofs.ComposeLemmas.{same_trans}
use Rattle.markdown_resolver.proofs.EncloseLemmas.{with_child, with_next, total_parts}
use Rattle.markdown_resolver.proofs.FoldLemmas.{IsFolded, counted_among, first_roots, stands_once, whole_childless}
use Rattle.markdown_resolver.proofs.NodeChangeLemmas.{IsChanged, changed_other, changed_here}
use Rattle.markdown_resolver.proofs.PutLinkLemmas.{fold_puts}
use Rattle.markdown_resolver.proofs.PutPairLemmas.{entries_of_none, tree_node_of_none}

-- a Text is below the opener, in a node that was inside; nothing else has changed
pub record IsHungIn (old new : List (Node Item)) (opener first : ℕ) (inside : Item) : Type 0 where
  pub size : length new ≡ length old
  pub opener_item : item_at new opener ≡ item_at old opener
  pub opener_child : child_of new opener ≡ Some first
  pub item_is : item_at new first ≡ inside
  pub child_is : child_of new first ≡ None
  pub next_is : sibling_of new first ≡ None
  pub others : (n : ℕ) → (n ≡ opener → ⊥) → (n ≡ first → ⊥) → IsSameAt old new n

pub hung_tree : (s t u : Arena Item) (hung : List (Node Item)) (opener first : ℕ) (inside : Item)
    → opener < length s.nodes → first < length s.nodes → (opener ≡ first → ⊥)
    → t ≡ record s { nodes = with_child opener (Some first) s.nodes } → u
    ≡ record t { nodes = with_child first None t.nodes } → IsWritten u.nodes hung first inside None
    → IsHungIn s.nodes hung opener first inside
hung_tree s t u hung opener first inside opener_within first_within apart e1 e2 w =
    let a = with_child opener (Some first) s.nodes in
    let b = with_child first None a in
    let t_is : t.nodes ≡ a = ap (λ (x : Arena Item). x.nodes) e1 in
    let u_is : u.nodes ≡ b = ap (λ (x : Arena Item). x.nodes) e2
    ∙ ap (λ (ns : List (Node Item)). with_child first None ns) t_is in
    let w' : IsWritten b hung first inside None = rw u_is at w in
    let hangs : Node Item → Node Item = λ n. record n { child = Some first } in
    let ends : Node Item → Node Item = λ n. record n { child = None } in
    let size_a = length-changed_at opener hangs s.nodes in
    let size_b = length-changed_at first ends a in
    let p = changed_here s.nodes opener hangs opener_within in
    let q = changed_here a first ends (omega (arith, size_a, first_within)) in
    let kept = changed_other a first ends opener apart in
    let last = w'.others opener apart in
    record {
      size = w'.size ∙ size_b ∙ size_a;
      opener_item = last.item ∙ kept.item ∙ p.item;
      opener_child = last.child ∙ kept.child ∙ p.child;
      item_is = w'.item_is;
      child_is = w'.child_is ∙ q.child;
      next_is = w'.next_is;
      others = λ n d d'. same_trans (same_trans (changed_other s.nodes opener hangs n d)
          (changed_other a first ends n d')) (w'.others n d');
    }

-- the opener and a node inside are there, and are two
pub record AreThere (nodes : List (Node Item)) (opener first : ℕ) : Type 0 where
  pub within : opener < length nodes
  pub first_within : first < length nodes
  pub apart : opener ≡ first → ⊥

pub are_there : {source : List ℕ} {tables : Tables} {nodes : List (Node Item)} {opener closer : ℕ} {inside : List ℕ}
    {byte : ℕ} (skipped : List ℕ) (first : ℕ) (shown : List ℕ)
    → CanClose source tables nodes opener closer inside byte → inside ≡ skipped ++ first ∷ shown
    → AreThere nodes opener first
are_there {source} {tables} {nodes} {opener} {closer} {inside} {byte} skipped first shown can inside_is =
    let o = opens (links_of nodes) (IsPlaced source tables nodes) opener can.ready.reaches in
    let f = forest_at (links_of nodes) (sibling_of nodes opener) in
    let there : 0 < total (same first) (first_trees (length inside) f) =
    omega (
      arith,
      counted_among (same first) first skipped shown (first_trees (length inside) f)
          (first_roots inside (closer ∷ can.after) f can.follows ∙ inside_is),
      same-refl first,
    ) in
    let parts = total_parts (same first) (length inside) f in
    let once = stands_once can first in
    record {
      within = o.within;
      first_within = ⊎_elim (λ h. h) (λ h. absurd (omega (
        arith,
        times-past (links_of nodes) (sibling_of nodes opener) f first o.after.spelled h,
        there,
        parts,
      ))) (cases_lt first (length nodes));
      apart = λ e. let one : same first opener ≡ 1 = subst (λ (m : ℕ). same first m ≡ 1) (sym e) (same-refl first)
          in absurd (omega (arith, one, once, there, parts));
    }

-- once the closer follows the opener, that is folded
module _ (source : List ℕ) (tables t : Tables) (grown : HasGrown tables t) (old hung : List (Node Item))
    (opener closer : ℕ) (inside skipped : List ℕ) (first : ℕ) (shown : List ℕ)
    (text : Item) (byte : ℕ) (can : CanClose source tables old opener closer inside byte)
    (puts : CanPut source tables t text) (names_nothing : (n : Named) → times_named n text.body ≡ 0)
    (inside_is : inside ≡ skipped ++ first ∷ shown) where
  abbrev k : ℕ
  k = length inside

  abbrev f : Forest ℕ
  f = forest_at (links_of old) (sibling_of old opener)

  abbrev folded : List (Node Item)
  folded = with_next opener (Some closer) hung

  listed : roots (first_trees k f) ≡ skipped ++ first ∷ shown
  listed = first_roots inside (closer ∷ can.after) f can.follows ∙ inside_is

  counted : (count : ℕ → ℕ) → count first ≤ total count (first_trees k f)
  counted count = counted_among count first skipped shown (first_trees k f) listed

  both : AreThere old opener first
  both = are_there skipped first shown can inside_is

  module _ (v : IsHungIn old hung opener first text) where
    folded_size : length folded ≡ length old
    folded_size = length-changed_at opener (λ n. record n { next = Some closer }) hung ∙ v.size

    leads : IsChanged (λ n. record n { next = Some closer }) hung opener
    leads = let size = v.size in changed_here hung opener (λ n. record n { next = Some closer })
        (omega (arith, size, both.within))

    first_same : IsSameAt hung folded first
    first_same = changed_other hung opener (λ n. record n { next = Some closer }) first (λ e. both.apart (sym e))

    item_is : item_at folded first ≡ text
    item_is = first_same.item ∙ v.item_is

    follows : sibling_of folded first ≡ None
    follows = first_same.next ∙ v.next_is

    child_is : child_of folded opener ≡ Some first
    child_is = leads.child ∙ v.opener_child

    spelled : Spells (links_of folded) (Some first) (node first nil nil)
    spelled = (refl, omega (arith, folded_size, both.first_within), first_same.child ∙ v.child_is, follows)

    first_once : (n : ℕ) → total (same n) (node first nil nil) ≤ 1
    first_once n =
        let once = stands_once can n in
        let parts = total_parts (same n) k f in
        let there = counted (same n) in
        omega (arith, once, parts, there)

    here : forest_at (links_of folded) (Some first) ≡ node first nil nil
    here = found (links_of folded) (Some first) (node first nil nil) spelled first_once

    placed : IsPlaced source tables folded first
    placed = record {
      lies = rw item_is puts.lies;
      named = rw item_is (entries_of_none tables t text.body grown names_nothing puts.named);
      slices = rw item_is (slices-none source tables (origin_start source text.start) text.end text.body names_nothing);
      keeps = keeps-closed source (numbered folded first) (child_of folded first) (next_at folded first)
          (rw item_is puts.closed) (rw follows tt);
    }

    other_same : (n : ℕ) → (n ≡ opener → ⊥) → (n ≡ first → ⊥) → IsSameAt old folded n
    other_same n d d' = same_trans (v.others n d d')
        (changed_other hung opener (λ n. record n { next = Some closer }) n d)

    after_same : (n : ℕ) → 0 < total (same n) (trees_past k f) → IsSameAt old folded n
    after_same n l =
        let once = stands_once can n in
        let parts = total_parts (same n) k f in
        let there = counted (same n) in
        other_same n (λ e. let one : same n opener ≡ 1 = subst (λ (m : ℕ). same n m ≡ 1) e (same-refl n) in absurd
        (omega (arith, once, one, parts, l)))
        (λ e. let one : same n first ≡ 1 = subst (λ (m : ℕ). same n m ≡ 1) e (same-refl n)
        in absurd (omega (arith, once, one, there, parts, l)))

    outside_same : (n : ℕ) → n < length old → times_in old (Some opener) n ≡ 0 → IsSameAt old folded n
    outside_same n l z =
        let none : same n opener + total (same n) f ≡ 0 = (let x = rw (whole_childless can) at z
        in omega arith) in
        let parts = total_parts (same n) k f in
        let there = counted (same n) in
        other_same n (λ e. let one : same n opener ≡ 1 = subst (λ (m : ℕ). same n m ≡ 1) e (same-refl n) in absurd
        (omega (arith, none, one))) (λ e. let one : same n first ≡ 1 = subst (λ (m : ℕ). same n m ≡ 1) e (same-refl n)
        in absurd (omega (arith, none, one, there, parts)))

    name_folds : IsFolded source tables old folded opener closer k
    name_folds =
        let weight = counted (weight_at old) in
        let two : 2 ≤ weight_at old first = some_weight (is_open (item_at old first).body) in
        record {
          size = folded_size;
          item_is = leads.item ∙ v.opener_item;
          next_is = leads.next;
          below = rw child_is (record {
            reaches = record { spelled = rw here spelled; each = rw here (placed, tt, tt) };
            once = λ n. rw here (first_once n);
            named_once = λ n. rw (here, item_is) (let z = names_nothing n in omega (arith, z));
          });
          below_of = λ n. rw (child_is, here) (let there = counted (same n) in omega (arith, there));
          below_named = λ n. rw (child_is, here, item_is) (let z = names_nothing n in omega (arith, z));
          below_weight = rw (child_is, here, item_is, puts.closed) (omega (arith, weight, two));
          after = after_same;
          outside = outside_same;
        }

    name_reads : trees_from source tables folded (child_of folded opener) ≡ node (tree_node_of source t text) nil nil
    name_reads =
        let label : tree_node_at source tables folded first ≡ tree_node_of source t text =
        tree_node_of_none source tables t folded first grown (λ n. rw item_is (names_nothing n))
        ∙ ap (λ (x : Item). tree_node_of source t x) item_is in
        rw (child_is, here, label) refl

    written : (mid : List (Node Item)) (item : Item) (next : Option ℕ) → IsWritten hung mid opener item next
        → IsWritten folded mid opener item next
    written mid item next w = record {
      size = w.size ∙ sym (length-changed_at opener (λ n. record n { next = Some closer }) hung);
      item_is = w.item_is;
      child_is = w.child_is ∙ sym leads.child;
      next_is = w.next_is;
      others = λ n d.
          let p = changed_other hung opener (λ n. record n { next = Some closer }) n d in
          let q = w.others n d in
          record { child = q.child ∙ sym p.child; next = q.next ∙ sym p.next; item = q.item ∙ sym p.item };
    }

-- so a wikilink is put over its name
pub name_puts : (source : List ℕ) (opener closer : ℕ) (item text : Item) (inside skipped : List ℕ) (first : ℕ)
    (shown : List ℕ) (rest : Continuation) (old hung mid : List (Node Item)) (tables t : Tables)
    → HasGrown tables t → CanClose source tables old opener closer inside item.end
    → CanPutOver source tables t old opener item item.end → CanPut source tables t text
    → ((n : Named) → times_named n text.body ≡ 0) → inside ≡ skipped ++ first ∷ shown
    → IsHungIn old hung opener first text
    → IsRestPast old item.end (sibling_of old closer) rest → IsWritten hung mid opener item rest.next
    → PutsOver source opener closer inside (over_text source t item text) item.end (opener ∷ []) rest old
    (begun_from rest.next item.end mid) tables t
name_puts source opener closer item text inside skipped first shown rest old hung mid tables t grown can over puts
    names_nothing inside_is v past w =
    fold_puts grown can over
    (name_folds source tables t grown old hung opener closer inside skipped first shown text item.end can puts
    names_nothing inside_is v)
    past (written source tables t grown old hung opener closer inside skipped first shown text item.end can puts
    names_nothing inside_is v mid item rest.next w) (λ g. node (tree_node_of source t text) nil nil)
    (name_reads source tables t grown old hung opener closer inside skipped first shown text
    item.end can puts names_nothing inside_is v)
