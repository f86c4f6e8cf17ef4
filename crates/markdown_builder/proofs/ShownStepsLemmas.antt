-- What each step of a builder makes of the levels that its callers see, with what their items refer to: a part that is
-- added changes nothing of what earlier items refer to.
use Rattle.std.proofs.Common.{◌-◌, ◌≡◌, ℕ, zero, suc, List, [], ◌∷◌, Some, Bool, map, refl, ap, cond, arith, ◌≤◌, ◌<◌}
use Rattle.std.proofs.Common.{◌++◌, length, ◌+◌}
use Rattle.markdown_builder.specs.TreeSteps.{texts_appended, run_marked}
use Rattle.markdown_builder.proofs.LaidLemmas.{run_levels, append_levels, enter_levels}
use Rattle.markdown_base.specs.declared.item.Item.{Item}
use Rattle.markdown_base.specs.declared.item.ItemBody.{ItemBody}
use Rattle.markdown_base.specs.declared.item.ItemBody.TheVariants as body
use Rattle.markdown_base.specs.declared.tag.Alignment.{Alignment}
use Rattle.markdown_base.specs.Forest.{Forest, nil, node, relabelled, Each}
use Rattle.markdown_base.specs.HeadingWords.{HeadingWords, words_of}
use Rattle.markdown_builder.specs.Shown.{Parts, plain_item, chain_of, shown_item, shown_trees, shown_levels, unnumbered}
use Rattle.markdown_builder.specs.Shown.{text_shown, heading_shown, alignments_shown, run_items, tight_shown}
use Rattle.markdown_builder.specs.Shown.{settled_below, with_block, synthesized_item, stored_parts}
use Rattle.markdown_builder.specs.Tightness.{is_tight_list}
use Rattle.markdown_builder.specs.TreeLevels.{followed_by, with_trees, with_closed, with_closed_by, below_closed}
use Rattle.markdown_builder.specs.TreeLevels.{tight_body, tight_if_paragraph, roots_changed, items_changed, run_trees}
use Rattle.markdown_builder.specs.TreeLevels.{all_but_last, in_last, levels_in, levels_of}
use Rattle.std.specs.Prelude.{slice_get}
use Rattle.std.specs.List.{AllByRecursion}
use Rattle.std.proofs.lemmas.List.{length-append, length-map, map-append}
use Rattle.markdown_base.specs.Arena.{Arena}
use Rattle.markdown_base.specs.ArenaForest.{numbers_below}
use Rattle.markdown_base.specs.BlockTree.{item_at, numbered, tree_of}
use Rattle.markdown_base.specs.WellFormed.{PartCounts, PartsAreNamed}
use Rattle.markdown_builder.specs.BuilderRules.{KeepsNodes}
use Rattle.markdown_builder.proofs.FormedLemmas.{throughout_below}
use Rattle.markdown_base.specs.ArenaChanges.{appended}
use Rattle.markdown_builder.specs.Levels.{IsLaidOut}
use Rattle.markdown_builder.specs.Standing.{entered}
use Rattle.std.specs.declared.alloc.Global.{Global}
use Rattle.std.specs.declared.vec.Vec.{Vec}
use Rattle.markdown_base.specs.CowText.{text_of}
use Rattle.markdown_base.specs.declared.block_parts.HeadingAttributes.{HeadingAttributes}
use Rattle.markdown_base.specs.declared.cow_str.CowStr.{CowStr}
use Rattle.markdown_base.specs.declared.index.CowIndex.{CowIndex}
use Rattle.markdown_builder.specs.BuilderView.{with_items}

-- ---- relabelled levels

pub relabelled_followed : {A B : Type 0} (f : A → B) (g h : Forest A)
    → relabelled f (followed_by g h) ≡ followed_by (relabelled f g) (relabelled f h)
relabelled_followed f nil h = refl
relabelled_followed f (node a below after) h = cc (relabelled_followed f after h)

relabelled_trees : {A B : Type 0} (f : A → B) (levels : List (Forest A)) (trees : Forest A)
    → map (relabelled f) (with_trees levels trees) ≡ with_trees (map (relabelled f) levels) (relabelled f trees)
relabelled_trees f [] trees = refl
relabelled_trees f (level ∷ []) trees = ap (λ g. g ∷ []) (relabelled_followed f level trees)
relabelled_trees f (level ∷ inner ∷ levels) trees = cc (relabelled_trees f (inner ∷ levels) trees)

relabelled_closed : {A B : Type 0} (f : A → B) (c : A → Forest A → Forest A) (d : B → Forest B → Forest B)
    → ((a : A) (g : Forest A) → relabelled f (c a g) ≡ d (f a) (relabelled f g)) → (levels : List (Forest A)) (a : A)
    → map (relabelled f) (with_closed_by c levels a) ≡ with_closed_by d (map (relabelled f) levels) (f a)
relabelled_closed f c d h [] a = refl
relabelled_closed f c d h (level ∷ []) a = refl
relabelled_closed f c d h (level ∷ inside ∷ []) a = search (arith, relabelled_followed, inside)
relabelled_closed f c d h (level ∷ inside ∷ deeper ∷ levels) a =
    cc (relabelled_closed f c d h (inside ∷ deeper ∷ levels) a)

relabelled_roots : {A B : Type 0} (f : A → B) (c : A → A) (d : B → B) → ((a : A) → f (c a) ≡ d (f a))
    → (g : Forest A) → relabelled f (roots_changed c g) ≡ roots_changed d (relabelled f g)
relabelled_roots f c d h nil = refl
relabelled_roots f c d h (node a below after) = cc (h a, relabelled_roots f c d h after)

relabelled_items : {A B : Type 0} (f : A → B) (c : A → A) (d : B → B) → ((a : A) → f (c a) ≡ d (f a))
    → (g : Forest A) → relabelled f (items_changed c g) ≡ items_changed d (relabelled f g)
relabelled_items f c d h nil = refl
relabelled_items f c d h (node a below after) = cc (relabelled_roots f c d h below, relabelled_items f c d h after)

-- ---- tight paragraphs

tight_unnumbered : (b : ItemBody) → unnumbered (tight_body b) ≡ tight_body (unnumbered b)
tight_unnumbered b = grind (arith)

tight_text : (texts : List (List ℕ)) (b : ItemBody) → text_shown texts (tight_body b) ≡ text_shown texts b
tight_text texts b = grind (arith)

tight_heading : (headings : List HeadingWords) (b : ItemBody)
    → heading_shown headings (tight_body b) ≡ heading_shown headings b
tight_heading headings b = grind (arith)

tight_alignments : (alignments : List (List Alignment)) (b : ItemBody)
    → alignments_shown alignments (tight_body b) ≡ alignments_shown alignments b
tight_alignments alignments b = grind (arith)

tight_is : (parts : Parts) (item : Item)
    → shown_item parts (tight_if_paragraph item) ≡ tight_shown (shown_item parts item)
tight_is parts item = search (arith, tight_unnumbered, tight_text, tight_heading, tight_alignments)

tight_list_is : (b : ItemBody) → is_tight_list (unnumbered b) ≡ is_tight_list b
tight_list_is b = grind (arith)

settled_is : (parts : Parts) (a : Item) (g : Forest Item)
    → shown_trees parts (below_closed a g) ≡ settled_below (shown_item parts a) (shown_trees parts g)
settled_is parts a g = search (
  arith,
  is_tight_list,
  cond,
  items_changed,
  tight_shown,
  shown_trees,
  tight_list_is,
  tight_if_paragraph,
  relabelled_items,
  shown_item,
  tight_is,
)

-- ---- the steps

-- trees at the end of the innermost level
pub trees_shown : (parts : Parts) (levels : List (Forest Item)) (trees : Forest Item)
    → shown_levels parts (with_trees levels trees) ≡ with_trees (shown_levels parts levels) (shown_trees parts trees)
trees_shown parts levels trees = relabelled_trees (shown_item parts) levels trees

-- the innermost block closed
pub closed_shown : (parts : Parts) (levels : List (Forest Item)) (a : Item)
    → shown_levels parts (with_closed levels a) ≡ with_block (shown_levels parts levels) (shown_item parts a)
closed_shown parts levels a =
    relabelled_closed (shown_item parts) below_closed settled_below (settled_is parts) levels a

-- a delimiter run
pub run_shown : (parts : Parts) (stop : ℕ) (opens closes : Bool) (count : ℕ) → count ≤ stop
    → shown_trees parts (run_trees stop opens closes count) ≡ chain_of (run_items stop opens closes count)
run_shown parts stop opens closes zero le = refl
run_shown parts stop opens closes (suc count) le =
    let fewer = run_shown parts stop opens closes count (omega (arith, le)) in
    search (arith, node, plain_item, nil, shown_trees, run_trees, fewer, body.MaybeEmphasis)

-- ---- a part that is added

-- how many parts there are
abbrev pub counts_in : Parts → PartCounts
counts_in parts = record {
  texts = length parts.texts;
  alignments = length parts.alignments;
  attributes = length parts.headings;
}

-- each item of some levels refers to parts that are there
abbrev pub AreNamed : PartCounts → List (Forest Item) → Type 0
AreNamed counts levels = AllByRecursion (λ trees. Each (λ item. PartsAreNamed counts item.body) trees) levels

-- ---- what is found in a longer list

pub get_of_more : {A : Type 0} (xs ys : List A) (n : ℕ) → n < length xs → slice_get (xs ++ ys) n ≡ slice_get xs n
get_of_more [] ys n lt = absurd (omega (arith, lt))
get_of_more (x ∷ xs) ys zero lt = refl
get_of_more (x ∷ xs) ys (suc n) lt = get_of_more xs ys n (omega (arith, lt))

-- what is found among some parts is found among more
pub record Extends (parts more : Parts) : Type 0 where
  pub texts : (n : ℕ) → n < length parts.texts → slice_get more.texts n ≡ slice_get parts.texts n
  pub headings : (n : ℕ) → n < length parts.headings → slice_get more.headings n ≡ slice_get parts.headings n
  pub alignments : (n : ℕ) → n < length parts.alignments → slice_get more.alignments n ≡ slice_get parts.alignments n

shown_of_more : (parts more : Parts) → Extends parts more → (a : Item) → PartsAreNamed (counts_in parts) a.body
    → shown_item more a ≡ shown_item parts a
shown_of_more parts more e a named = grind (arith, e.texts, e.headings, e.alignments)

-- ---- the same labels

same_labels : {A B : Type 0} (f g : A → B) (P : A → Type 0) (trees : Forest A)
    → ((a : A) → P a → f a ≡ g a) → Each P trees → relabelled f trees ≡ relabelled g trees
same_labels f g P nil h e = refl
same_labels f g P (node a below after) h e =
    search (arith, same_labels f g P below h e.1, same_labels f g P after h e.2)

-- items refer to what they did
pub more_shown : (parts more : Parts) (levels : List (Forest Item))
    → Extends parts more → AreNamed (counts_in parts) levels → shown_levels more levels ≡ shown_levels parts levels
more_shown parts more [] e named = refl
more_shown parts more (level ∷ levels) e named =
    search (arith, same_labels, shown_of_more, more_shown parts more levels e named.1)

-- ---- each item refers to parts that are there

but_last : (trees : Forest Item) (Q : Item → Type 0) → Each Q trees → Each Q (all_but_last trees)
but_last nil Q e = tt
but_last (node a below nil) Q e = tt
but_last (node a below (node b inside after)) Q e = (e.0, e.1, but_last (node b inside after) Q e.2)

in_the_last : (trees : Forest Item) (Q : Item → Type 0) → Each Q trees → Each Q (in_last trees)
in_the_last nil Q e = tt
in_the_last (node a below nil) Q e = e.1
in_the_last (node a below (node b inside after)) Q e = in_the_last (node b inside after) Q e.2

each_level : (spine : List ℕ) (trees : Forest Item) (Q : Item → Type 0)
    → Each Q trees → AllByRecursion (λ t. Each Q t) (levels_in spine trees)
each_level [] trees Q e = (e, tt)
each_level (number ∷ spine) trees Q e = (but_last trees Q e, each_level spine (in_last trees) Q (in_the_last trees Q e))

each_relabelled : {A B : Type 0} (f : A → B) (P : B → Type 0) (trees : Forest A)
    → Each (λ a. P (f a)) trees → Each P (relabelled f trees)
each_relabelled f P nil e = tt
each_relabelled f P (node a below after) e = (e.0, each_relabelled f P below e.1, each_relabelled f P after e.2)

pub levels_named : (text : List ℕ) (counts : PartCounts) (tree : Arena Item)
    → KeepsNodes text counts tree.nodes → AreNamed counts (levels_of tree)
levels_named text counts tree k =
    each_level tree.spine (relabelled (λ n. n.item) (tree_of tree.nodes)) (λ item. PartsAreNamed counts item.body)
    (each_relabelled (λ n. n.item) (λ item. PartsAreNamed counts item.body) (tree_of tree.nodes)
    (each_relabelled (numbered tree.nodes) (λ n. PartsAreNamed counts n.item.body) (numbers_below tree.nodes)
    (throughout_below tree.nodes (λ i below after. PartsAreNamed counts (item_at tree.nodes i).body) k.rising
    (λ i below after low high spelled down next. (k.items i low high).parts_are_named))))

-- ---- the steps, with parts

-- one more at the end of a list, and of what is mapped from it
pub length_snoc : {A : Type 0} (xs : List A) (x : A) {ys : List A} → ys ≡ xs ++ x ∷ [] → length ys ≡ length xs + 1
length_snoc xs x e = rw e (length-append xs (x ∷ []))

pub map_snoc : {A B : Type 0} (g : A → B) (xs : List A) (x : A) {ys : List A}
    → ys ≡ xs ++ x ∷ [] → map g ys ≡ map g xs ++ g x ∷ []
map_snoc g xs x e = rw e (map-append g xs (x ∷ []))

-- each item refers to stored parts
pub stored_named : {text : List ℕ} (texts : List CowStr)
    (headings : List HeadingAttributes) (alignments : List (Vec Alignment Global)) (tree : Arena Item)
    → KeepsNodes text (record { texts = length texts; alignments = length alignments; attributes = length headings })
    tree.nodes → AreNamed (counts_in (stored_parts texts headings alignments)) (levels_of tree)
stored_named {text} texts headings alignments tree k = let counts : counts_in (stored_parts texts headings alignments)
    ≡ record { texts = length texts; alignments = length alignments; attributes = length headings } = λ i. record {
      texts = length-map texts text_of i;
      alignments = length-map alignments (λ a. a.items) i;
      attributes = length-map headings words_of i;
    } in
    rw counts (levels_named text _ tree k)

-- an item that refers to nothing is appended
pub appended_shown : (parts : Parts) {tree new : Arena Item} {start end : ℕ} {b : ItemBody}
    → new ≡ appended tree (record { start = start; end = end; body = b }) → IsLaidOut tree
    → shown_item parts (record { start = start; end = end; body = b }) ≡ plain_item start end b → shown_levels
    parts (levels_of new) ≡ with_items (shown_levels parts (levels_of tree)) (plain_item start end b ∷ [])
appended_shown parts h1 h2 h3 = grind (arith, append_levels, trees_shown, levels_of)

-- the last of a longer list
pub get_last : {A : Type 0} (xs : List A) (y : A) → slice_get (xs ++ y ∷ []) (length xs) ≡ Some y
get_last [] y = refl
get_last (x ∷ xs) y = get_last xs y

-- an item for a text is appended, and the text
pub text_shown_too : (parts : Parts) {tree new : Arena Item} (start end : ℕ) (ix : CowIndex) (t : List ℕ)
    → new ≡ appended tree (record { start = start; end = end; body = body.SynthesizeText ix })
    → IsLaidOut tree → ix.0 ≡ length parts.texts → AreNamed (counts_in parts) (levels_of tree)
    → shown_levels (record parts { texts = parts.texts ++ t ∷ [] }) (levels_of new)
    ≡ with_items (shown_levels parts (levels_of tree)) (synthesized_item start end t ∷ [])
text_shown_too parts {tree} start end ix t h1 h2 h3 named =
    let more : Parts = record parts { texts = parts.texts ++ t ∷ [] } in
    let kept : Extends parts more = search (arith, get_of_more) in
    grind (arith, get_last, append_levels, trees_shown, more_shown parts more (levels_of tree) kept named)

-- a block is opened, and a part may be added
pub opened_shown : (parts more : Parts) {tree new : Arena Item} (x : Item)
    → new ≡ entered tree x → IsLaidOut tree → shown_levels more (levels_of tree) ≡ shown_levels parts (levels_of tree)
    → shown_levels more (levels_of new) ≡ shown_levels parts (levels_of tree) ++ nil ∷ []
opened_shown parts more {tree} {new} x made laid same =
    cc (enter_levels tree x laid, map-append (shown_trees more) (levels_of tree) (nil ∷ []))

-- a delimiter run is appended
pub run_shown_too : (parts : Parts) (tree new : Arena Item) (start end : ℕ) (opens closes : Bool)
    → new ≡ run_marked (texts_appended tree start (end - start)) end opens closes (end - start)
    → IsLaidOut tree → shown_levels parts (levels_of new)
    ≡ with_items (shown_levels parts (levels_of tree)) (run_items end opens closes (end - start))
run_shown_too parts tree new start end opens closes made laid = let n = end - start in
    let levels = run_levels tree start end n opens closes laid in
    rw (made, levels, trees_shown parts (levels_of tree) _, run_shown parts end opens closes n (omega arith)) refl
