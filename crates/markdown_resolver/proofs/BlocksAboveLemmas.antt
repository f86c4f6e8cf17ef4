-- The last block among items that were entered, and what is known of them as one more is entered and left.
use Rattle.std.proofs.Common.{◌≡◌, ◌≤◌, ◌<◌, ℕ, zero, suc, Bool, true, false, List, [], ◌∷◌, ◌++◌, Option, Some}
use Rattle.std.proofs.Common.{None, ◌+◌, ◌-◌, get_or, map, length, take, refl, sym, ap, ◌∙◌, append-nil, arith, ⊎_elim}
use Rattle.std.proofs.Math.Seq.{take-append_seam, take-length}
use Rattle.std.proofs.lemmas.Bool.{cases_lt}
use Rattle.std.specs.Prelude.{if◌then◌else◌}
use Rattle.std.specs.List.{slice_get}
use Rattle.std.proofs.lemmas.List.{length-append, length-map, length-take-le, map_more, take-append-le, take-map}
use Rattle.std.proofs.lemmas.List.Elements.{filter-append}
use Rattle.markdown_base.specs.BlockTree.{item_at}
use Rattle.markdown_base.specs.Item.{is_block, is_table_cell}
use Rattle.markdown_base.specs.declared.item.Item.{Item}
use Rattle.markdown_base.specs.declared.node.Node.{Node}
use Rattle.markdown_spans.specs.ContainerPrefix.{has_prefix}
use Rattle.markdown_resolver.specs.BlocksAbove.{Above, IsKnownOf, blocks_in, containers_in, place_inside, up_to_block}
use Rattle.markdown_resolver.specs.Chains.{AreAbove}
use Rattle.markdown_resolver.proofs.ChainPlaceLemmas.{no_prefix}

-- how many items there are up to the last block where one precedes them
up_to_after : (first : Bool) → ℕ → ℕ
up_to_after first n = elim n as (λ m. ℕ) [ zero ↦ if first then 1 else 0 | suc m ↦ suc (suc m) ]

pub up_to_more : (items : List Item) (item : Item)
    → up_to_block (items ++ item ∷ []) ≡ (if is_block item.body then suc (length items) else up_to_block items)
unfolding up_to_block up_to_after
up_to_more [] item = refl
up_to_more (a ∷ items) item =
    ap (up_to_after (is_block a.body)) (up_to_more items item) ∙ told (is_block item.body)
  where
    told : (is : Bool) → up_to_after (is_block a.body) (if is then suc (length items) else up_to_block items)
        ≡ (if is then suc (suc (length items)) else up_to_after (is_block a.body) (up_to_block items))
    told true = refl
    told false = refl

pub up_to_within : (items : List Item) → up_to_block items ≤ length items
unfolding up_to_block
up_to_within [] = omega arith
up_to_within (a ∷ items) = bound (is_block a.body) (up_to_block items) (up_to_within items)
  where
    bound : (is : Bool) (n : ℕ) → n ≤ length items
        → elim n as (λ m. ℕ) [ zero ↦ if is then 1 else 0 | suc m ↦ suc (suc m) ] ≤ suc (length items)
    bound true zero w = omega arith
    bound false zero w = omega arith
    bound is (suc n) w = omega (arith, w)

-- where no item is a block, nothing is inside one
pub none_inside : (items : List Item) (before : ℕ × Bool) → up_to_block items ≡ 0
    → place_inside (blocks_in items) before ≡ before
unfolding place_inside up_to_block
none_inside [] before none = refl
none_inside (a ∷ items) before none =
    by (up_to_block items) refl (is_block a.body) refl (none_inside items before)
  where
    by : (n : ℕ) → up_to_block items ≡ n → (is : Bool) → is_block a.body ≡ is
        → (up_to_block items ≡ 0 → place_inside (blocks_in items) before ≡ before)
        → place_inside (blocks_in (a ∷ items)) before ≡ before
    by zero e true f later = cc (rw (e, f) at none)
    by zero e false f later = rw f (later e)
    by (suc n) e is f later = cc (rw e at none)

-- and else they are inside the last
pub last_inside : (items : List Item) (before : ℕ × Bool) (i : ℕ) (item : Item) → up_to_block items ≡ suc i
    → slice_get items i ≡ Some item → place_inside (blocks_in items) before ≡ (item.end, is_table_cell item.body)
unfolding place_inside up_to_block
last_inside [] before i item up at = cc up
last_inside (a ∷ items) before i item up at =
    by (up_to_block items) refl (is_block a.body) refl i up at (λ outer. none_inside items outer)
    (λ outer j. last_inside items outer j item)
  where
    by : (n : ℕ) → up_to_block items ≡ n → (is : Bool) → is_block a.body ≡ is → (i : ℕ)
        → up_to_block (a ∷ items) ≡ suc i → slice_get (a ∷ items) i ≡ Some item
        → ((outer : ℕ × Bool) → up_to_block items ≡ 0 → place_inside (blocks_in items) outer ≡ outer)
        → ((outer : ℕ × Bool) (j : ℕ) → up_to_block items ≡ suc j → slice_get items j ≡ Some item
        → place_inside (blocks_in items) outer ≡ (item.end, is_table_cell item.body))
        → place_inside (blocks_in (a ∷ items)) before ≡ (item.end, is_table_cell item.body)
    by zero e true f zero up at none later =
        rw f (none (a.end, is_table_cell a.body) e
        ∙ ap (λ (found : Option Item). elim found as (λ x. ℕ × Bool)
        [ None ↦ before | Some x ↦ (x.end, is_table_cell x.body) ]) at)
    by zero e true f (suc i) up at none later = cc (rw (e, f) at up)
    by zero e false f i up at none later = cc (rw (e, f) at up)
    by (suc n) e true f zero up at none later = cc (rw e at up)
    by (suc n) e true f (suc i) up at none later =
        rw f (later (a.end, is_table_cell a.body) i (e ∙ cc (rw e at up)) at)
    by (suc n) e false f zero up at none later = cc (rw e at up)
    by (suc n) e false f (suc i) up at none later = rw f (later before i (e ∙ cc (rw e at up)) at)

-- one more item is entered
pub known_more : (gfm : Bool) (items : List Item) (item : Item) (a : Above) → IsKnownOf gfm items a
    → IsKnownOf gfm (items ++ item ∷ []) (record a { containers = a.containers ++ containers_in gfm (item ∷ []) })
known_more gfm items item a k = record {
  style = k.style;
  containers = ap (λ (l : List Item). l ++ containers_in gfm (item ∷ [])) k.containers
      ∙ sym (filter-append (λ i. has_prefix gfm i.body) items (item ∷ []));
  within = omega (arith, k.within, length-append items (item ∷ []));
  block = k.block ∙ ap up_to_block (sym (take-append-le a.searched items (item ∷ []) k.within));
  inside = k.inside;
}

-- what is no container is entered
pub known_other : (gfm : Bool) (items : List Item) (item : Item) (a : Above) → has_prefix gfm item.body ≡ false
    → IsKnownOf gfm items a → IsKnownOf gfm (items ++ item ∷ []) a
known_other gfm items item a other k =
    let more = known_more gfm items item a k in
    record {
      style = k.style;
      containers = sym (append-nil a.containers) ∙ (rw other at more.containers);
      within = more.within;
      block = more.block;
      inside = k.inside;
    }

-- an item is left of which nothing was noted but that it is a container
pub known_less : (gfm : Bool) (items : List Item) (item : Item) (a : Above) (containers : List Item)
    → IsKnownOf gfm (items ++ item ∷ []) a → a.searched ≤ length items → containers ≡ containers_in gfm items
    → IsKnownOf gfm items (record a { containers = containers })
known_less gfm items item a containers k within is = record {
  style = k.style;
  containers = is;
  within = within;
  block = k.block ∙ ap up_to_block (take-append-le a.searched items (item ∷ []) within);
  inside = k.inside;
}

-- before a walk, and after it, no item was entered
pub known_none : (gfm : Bool) (a : Above) → a.gfm_footnotes ≡ gfm
    → IsKnownOf gfm [] (record a { containers = []; searched = 0; block = 0 })
unfolding up_to_block
known_none gfm a style = record {
  style = style;
  containers = refl;
  within = omega arith;
  block = refl;
  inside = λ low. omega (arith, low);
}

whole : (items : List Item) (item : Item) → take (suc (length items)) (items ++ item ∷ []) ≡ items ++ item ∷ []
whole [] item = refl
whole (a ∷ items) item = ap (λ (l : List Item). a ∷ l) (whole items item)

-- an item with a part in lines is a block, and so it is not the last of those searched
pub block_searched : (gfm : Bool) (items : List Item) (item : Item) (a : Above)
    → IsKnownOf gfm (items ++ item ∷ []) a → is_block item.body ≡ true → a.searched ≤ length items
block_searched gfm items item a k is =
    ⊎_elim (λ (low : length items < a.searched). absurd (beyond low)) (λ (within : a.searched ≤ length items). within)
    (cases_lt (length items) a.searched)
  where
    beyond : length items < a.searched → ⊥
    beyond low =
        let all : a.searched ≡ suc (length items) = omega (arith, low, k.within, length-append items (item ∷ [])) in
        let block : a.block ≡ suc (length items) = k.block
        ∙ ap (λ (n : ℕ). up_to_block (take n (items ++ item ∷ []))) all ∙ ap up_to_block (whole items item)
        ∙ up_to_more items item ∙ ap (λ (b : Bool). if b then suc (length items) else up_to_block items) is in
        let inside = k.inside (omega (arith, low)) in
        omega (arith, all, block, inside)

-- so the last of those searched is none
last_searched : (gfm : Bool) (items : List Item) (item : Item) (a : Above) → IsKnownOf gfm (items ++ item ∷ []) a
    → length items < a.searched → is_block item.body ≡ false
last_searched gfm items item a k low = by (is_block item.body) refl
  where
    by : (is : Bool) → is_block item.body ≡ is → is_block item.body ≡ false
    by true e = absurd (omega (arith, low, block_searched gfm items item a k e))
    by false e = e

pub container_searched : (gfm : Bool) (items : List Item) (item : Item) (a : Above)
    → IsKnownOf gfm (items ++ item ∷ []) a → has_prefix gfm item.body ≡ true → a.searched ≤ length items
container_searched gfm items item a k has = by (is_block item.body) refl
  where
    by : (is : Bool) → is_block item.body ≡ is → a.searched ≤ length items
    by true e = block_searched gfm items item a k e
    by false e = cc (has, no_prefix gfm item.body e)

-- what is no container is left: the containers stay
same_containers : (gfm : Bool) (items : List Item) (item : Item) → has_prefix gfm item.body ≡ false
    → containers_in gfm (items ++ item ∷ []) ≡ containers_in gfm items
same_containers gfm items item other =
    filter-append (λ i. has_prefix gfm i.body) items (item ∷ []) ∙ rw other (append-nil (containers_in gfm items))

-- and what was searched is cut
pub known_fewer : (gfm : Bool) (items : List Item) (item : Item) (a : Above) → IsKnownOf gfm (items ++ item ∷ []) a
    → has_prefix gfm item.body ≡ false → a.searched ≤ length items → IsKnownOf gfm items a
known_fewer gfm items item a k other within =
    known_less gfm items item a a.containers k within (k.containers ∙ same_containers gfm items item other)

module _ (gfm : Bool) (items : List Item) (item : Item) (a : Above) (k : IsKnownOf gfm (items ++ item ∷ []) a)
    (other : has_prefix gfm item.body ≡ false) where
  pub known_reset : IsKnownOf gfm items (record a { searched = 0; block = 0 })
  unfolding up_to_block
  known_reset = record {
    style = k.style;
    containers = k.containers ∙ same_containers gfm items item other;
    within = omega arith;
    block = refl;
    inside = λ low. omega (arith, low);
  }

  pub known_cut : length items < a.searched → a.block < length items
      → IsKnownOf gfm items (record a { searched = length items })
  known_cut low inside =
      let no_block = last_searched gfm items item a k low in
      let all : a.searched ≡ suc (length items) = omega (arith, low, k.within, length-append items (item ∷ [])) in
      record {
        style = k.style;
        containers = k.containers ∙ same_containers gfm items item other;
        within = omega arith;
        block = k.block
            ∙ ap (λ (n : ℕ). up_to_block (take n (items ++ item ∷ []))) all ∙ ap up_to_block (whole items item)
            ∙ up_to_more items item
            ∙ ap (λ (b : Bool). if b then suc (length items) else up_to_block items) no_block
            ∙ ap up_to_block (sym (take-length items));
        inside = λ _. inside;
      }

-- the last block was searched among all items, of which the last is none
pub known_searched : (gfm : Bool) (items : List Item) (a : Above) (block : ℕ) → IsKnownOf gfm items a
    → block ≡ up_to_block items → block < length items
    → IsKnownOf gfm items (record a { searched = length items; block = block })
known_searched gfm items a block k is low = record {
  style = k.style;
  containers = k.containers;
  within = omega arith;
  block = is ∙ ap up_to_block (sym (take-length items));
  inside = λ _. low;
}

-- the last of a list is taken off
pub without_last : (all popped outer : List Item) (item : Item) (n : ℕ) → popped ≡ take (n - 1) all
    → all ≡ outer ++ item ∷ [] → n ≡ length all → popped ≡ outer
without_last all popped outer item n is whole count =
    let one : n - 1 ≡ length outer = omega (arith, count, ap length whole, length-append outer (item ∷ [])) in
    is ∙ ap (λ (m : ℕ). take m all) one ∙ ap (take (length outer)) whole ∙ take-append_seam outer (item ∷ [])

-- the nodes of a spine are in the tree
pub above_within : (source : List ℕ) (nodes : List (Node Item)) (l : Option ℕ) (spine : List ℕ) (i : ℕ)
    → AreAbove source nodes l spine → i < length spine → get_or spine i 0 < length nodes
above_within source nodes l [] i above low = absurd (omega (arith, low))
above_within source nodes l (ix ∷ deeper) zero above low = above.0.within
above_within source nodes l (ix ∷ deeper) (suc i) above low =
    above_within source nodes l deeper i above.1 (omega (arith, low))

-- up to the last of some nodes
pub up_to_last : (nodes : List (Node Item)) (spine : List ℕ) (count : ℕ) (item : Item) → 0 < count
    → count ≤ length spine → item ≡ item_at nodes (get_or spine (count - 1) 0)
    → up_to_block (take count (map (item_at nodes) spine))
    ≡ (if is_block item.body then count else up_to_block (take (count - 1) (map (item_at nodes) spine)))
up_to_last nodes spine count item some low is =
    let n = count - 1 in
    let one : n + 1 ≡ count = omega (arith, some) in
    let before : length (map (item_at nodes) (take n spine)) ≡ n =
    length-map (take n spine) (item_at nodes) ∙ length-take-le n spine (omega (arith, low)) in
    ap (λ (m : ℕ). up_to_block (take m (map (item_at nodes) spine))) (sym one)
    ∙ ap up_to_block (take-map (item_at nodes) (n + 1) spine
    ∙ map_more (item_at nodes) spine n 0 (omega (arith, some, low)))
    ∙ up_to_more (map (item_at nodes) (take n spine)) (item_at nodes (get_or spine n 0))
    ∙ ap (λ (i : Item). if is_block i.body then suc (length (map (item_at nodes) (take n spine)))
    else up_to_block (map (item_at nodes) (take n spine))) (sym is)
    ∙ ap (λ (m : ℕ). if is_block item.body then suc m else up_to_block (map (item_at nodes) (take n spine))) before
    ∙ ap (λ (m : ℕ). if is_block item.body then m else up_to_block (map (item_at nodes) (take n spine)))
    (omega (arith, some))
    ∙ ap (λ (l : List Item). if is_block item.body then count else up_to_block l)
    (sym (take-map (item_at nodes) n spine))
