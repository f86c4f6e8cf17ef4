-- Left lists as lists: one with its nearest opener, lists that differ in openers' states alone, and the trees of
-- two that are joined.
use Rattle.std.proofs.Common.{◌≡◌, Bool, true, false, List, [], ◌∷◌, ◌++◌, Option, Some, None, refl, ap, subst}
use Rattle.std.specs.Prelude.{IfSome, if◌then◌else◌}
use Rattle.std.specs.Option.{option_map}
use Rattle.markdown_base.specs.Forest.{Forest, nil, node}
use Rattle.markdown_document.specs.Document.{TreeNode}
use Rattle.markdown_brackets.specs.LeftList.{OpenerState, Entry, done, waits, trees_onto, Split, with_entry, nearest}
use Rattle.markdown_brackets.specs.LeftList.{change_nearest, on_states, second_folded, disabled_state, without_bracket}
use Rattle.markdown_brackets.specs.LeftList.{without_wikilink, before_link, before_wikilink, before_footnote}

pub onto_append : {A : Type 0} (after left : List (Entry A)) (f : Forest (TreeNode A)) → trees_onto (after ++ left) f
    ≡ trees_onto left (trees_onto after f)
onto_append [] left f = refl
onto_append (done a below ∷ after) left f = onto_append after left (node a below f)
onto_append (waits m a ∷ after) left f = onto_append after left (node a nil f)

-- a left list is split at an opener, and so is the list in which the opener's state is changed
pub record IsSplitBy {A : Type 0} (f : OpenerState → OpenerState) (left left' : List (Entry A))
    (o : Split A) : Type 0 where
  pub is : left ≡ o.after ++ waits o.state o.opener ∷ o.before
  pub changed : left' ≡ o.after ++ waits (f o.state) o.opener ∷ o.before

split_after : {A : Type 0} (f : OpenerState → OpenerState) (e : Entry A) (left left' : List (Entry A))
    (o : Option (Split A))
    → IfSome o (IsSplitBy f left left') → IfSome (option_map (with_entry e) o) (IsSplitBy f (e ∷ left) (e ∷ left'))
split_after f e left left' None h = tt
split_after f e left left' (Some o) h = record { is = ap (λ l. e ∷ l) h.is; changed = ap (λ l. e ∷ l) h.changed }

-- so it is at the nearest opener that passes a test
pub split_nearest : {A : Type 0} (test : OpenerState → Bool) (f : OpenerState → OpenerState) (left : List (Entry A))
    → IfSome (nearest test left) (IsSplitBy f left (change_nearest test f left))
split_nearest test f [] = tt
split_nearest test f (done a below ∷ left) = split_after f (done a below) left (change_nearest test f left)
    (nearest test left) (split_nearest test f left)
split_nearest {A} test f (waits m a ∷ left) = by (test m) (split_nearest test f left)
  where
    by : (b : Bool) → IfSome (nearest test left) (IsSplitBy f left (change_nearest test f left))
        → IfSome (if b then Some (record { state = m; opener = a; after = []; before = left })
        else option_map (with_entry (waits m a)) (nearest test left))
        (IsSplitBy f (waits m a ∷ left) (if b then waits (f m) a ∷ left else waits m a ∷ change_nearest test f left))
    by true h = record { is = refl; changed = refl }
    by false h = split_after f (waits m a) left (change_nearest test f left) (nearest test left) h

pub split_at : {A : Type 0} (test : OpenerState → Bool) (left : List (Entry A)) (o : Split A)
    → nearest test left ≡ Some o
    → left ≡ o.after ++ waits o.state o.opener ∷ o.before
split_at {A} test left o e =
    let h : IsSplitBy (λ m. m) left (change_nearest test (λ m. m) left) o =
    subst (λ (o : Option (Split A)). IfSome o (IsSplitBy (λ m. m) left (change_nearest test (λ m. m) left))) e
    (split_nearest test (λ m. m) left) in
    h.is

-- a relation of left lists that holds where they differ in states alone, and each state changes as `low` says
pub record Marked {A : Type 0} (low : OpenerState → OpenerState → Type 0) (same : List (Entry A) → List (Entry A)
    → Type 0)
    : Type 0 where
  pub equal : (m : OpenerState) → low m m
  pub bracket : (m : OpenerState) → low m (without_bracket m)
  pub wikilink : (m : OpenerState) → low m (without_wikilink m)
  pub disabled : (m : OpenerState) → low m (disabled_state m)
  pub empty : same [] []
  pub tree : (a : TreeNode A) (below : Forest (TreeNode A)) (left left' : List (Entry A)) → same left left'
      → same (done a below ∷ left) (done a below ∷ left')
  pub opener : (m m' : OpenerState) (a : TreeNode A) (left left' : List (Entry A)) → low m m' → same left left'
      → same (waits m a ∷ left) (waits m' a ∷ left')
  pub twice : (left left' left'' : List (Entry A)) → same left left' → same left' left'' → same left left''

module _ {A : Type 0} {low : OpenerState → OpenerState → Type 0} {same : List (Entry A) → List (Entry A) → Type 0}
    (k : Marked low same) where
  same_list : (left : List (Entry A)) → same left left
  same_list [] = k.empty
  same_list (done a below ∷ left) = k.tree a below left left (same_list left)
  same_list (waits m a ∷ left) = k.opener m m a left left (k.equal m) (same_list left)

  pub same_marks : (f : OpenerState → OpenerState) → ((m : OpenerState) → low m (f m)) → (left : List (Entry A))
      → same left (on_states f left)
  same_marks f lower [] = k.empty
  same_marks f lower (done a below ∷ left) = k.tree a below left (on_states f left) (same_marks f lower left)
  same_marks f lower (waits m a ∷ left) = k.opener m (f m) a left (on_states f left) (lower m) (same_marks f lower left)

  pub same_change : (test : OpenerState → Bool) (f : OpenerState → OpenerState) → ((m : OpenerState) → low m (f m)) →
      (left : List (Entry A)) → same left (change_nearest test f left)
  same_change test f lower [] = k.empty
  same_change test f lower (done a below ∷ left) =
      k.tree a below left (change_nearest test f left) (same_change test f lower left)
  same_change test f lower (waits m a ∷ left) = by (test m) (same_change test f lower left)
    where
      by : (b : Bool) → same left (change_nearest test f left)
          → same (waits m a ∷ left) (if b then waits (f m) a ∷ left else waits m a ∷ change_nearest test f left)
      by true h = k.opener m (f m) a left left (lower m) (same_list left)
      by false h = k.opener m m a left (change_nearest test f left) (k.equal m) h

  -- what precedes a find
  same_second : (left : List (Entry A)) → same left (second_folded left)
  same_second [] = k.empty
  same_second (done a below ∷ left) = same_list (done a below ∷ left)
  same_second (waits m a ∷ left) = k.opener m (without_wikilink m) a left left (k.wikilink m) (same_list left)

  pub same_before_link : (is_image : Bool) (left : List (Entry A)) → same left (before_link is_image left)
  same_before_link true left = same_second left
  same_before_link false left =
      k.twice left (second_folded left) (before_link false left) (same_second left)
      (same_marks disabled_state k.disabled (second_folded left))

  pub same_before_wikilink : (left : List (Entry A)) → same left (before_wikilink left)
  same_before_wikilink left =
      k.twice left (on_states disabled_state left) (before_wikilink left) (same_marks disabled_state k.disabled left)
      (same_marks without_wikilink k.wikilink (on_states disabled_state left))

  pub same_before_footnote : (left : List (Entry A)) → same left (before_footnote left)
  same_before_footnote left =
      k.twice left (second_folded left) (before_footnote left) (same_second left)
      (same_marks without_bracket k.bracket (second_folded left))
