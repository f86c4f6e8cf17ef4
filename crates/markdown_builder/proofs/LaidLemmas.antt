-- Forests that are laid out, and the arena of the tree so far: what an item that is appended, entered, left or written
-- and the characters of a delimiter run make of it, and that the levels read off it are those it was laid out of. A
-- block that is left becomes the last tree of the level around it, and the paragraphs of a tight list are made tight
-- where they are laid out: after each step of a loop over its roots, those before the link are changed, and the others
-- are as they were.
use Rattle.std.proofs.Common.{◌≡◌, ℕ, zero, suc, ◌+◌, List, [], ◌∷◌, ◌++◌, Option, Some, None, length, refl, sym, ap}
use Rattle.std.proofs.Common.{◌∙◌, arith, map, ◌-◌, Bool, ◌<◌, ◌≤◌, false, true}
use Rattle.std.proofs.lemmas.List.{length-append, append_assoc, append-nil}
use Rattle.markdown_base.specs.declared.item.Item.{Item}
use Rattle.markdown_base.specs.declared.node.Node.{Node}
use Rattle.markdown_base.specs.ArenaChanges.{single, changed_at, innermost, follower, led_to, appended}
use Rattle.markdown_base.specs.Forest.{Forest, nil, node, relabelled}
use Rattle.markdown_builder.specs.Levels.{size, link, laid, last_root, Frame, rebuilt, number_in, numbers_in}
use Rattle.markdown_builder.specs.Levels.{innermost_in, root, laid_out, IsLaidOut}
use Rattle.markdown_builder.specs.TreeLevels.{followed_by, run_item, run_trees, all_but_last, in_last, levels_in}
use Rattle.markdown_builder.specs.TreeLevels.{levels_of, tight_body, tight_if_paragraph, roots_tightened}
use Rattle.markdown_builder.specs.TreeLevels.{items_tightened, below_closed, with_trees, with_closed}
use Rattle.std.specs.Prelude.{slice_index_or, cond}
use Rattle.markdown_base.specs.Arena.{child_of, sibling_of, Arena}
use Rattle.markdown_builder.specs.Standing.{with_item, entered}
use Rattle.markdown_builder.specs.TreeSteps.{byte_text, texts_appended, run_marked, is_paragraph, ChangesLaid}
use Rattle.markdown_builder.specs.TreeSteps.{TightensList}
use Rattle.markdown_base.specs.ArenaForest.{links_of, forest_at, Spells}
use Rattle.markdown_base.specs.BlockTree.{item_at, numbered, tree_of, no_item}
use Rattle.markdown_base.proofs.ArenaForestLemmas.{height, forest_at-fits}
use Rattle.markdown_builder.specs.Tightness.{is_tight_list}
use Rattle.markdown_builder.proofs.ClosedListLemmas.{tightens_stays}

-- ---- forests

pub followed_by-assoc : {A : Type 0} (f g h : Forest A)
    → followed_by (followed_by f g) h ≡ followed_by f (followed_by g h)
followed_by-assoc nil g h = refl
followed_by-assoc {A} (node a below after) g h = cc (followed_by-assoc after g h)

pub followed_by-nil : {A : Type 0} (f : Forest A) → followed_by f nil ≡ f
followed_by-nil nil = refl
followed_by-nil {A} (node a below after) = cc (followed_by-nil after)

pub size-followed_by : (f g : Forest Item) → size (followed_by f g) ≡ size f + size g
size-followed_by nil g = omega arith
size-followed_by (node a below after) g = let more = size-followed_by after g in omega (arith, more)

-- ---- lists of nodes

-- a change behind a prefix
pub changed_behind : (xs ys : List (Node Item)) (n i : ℕ) (change : Node Item → Node Item)
    → n ≡ length xs → changed_at (n + i) change (xs ++ ys) ≡ xs ++ changed_at i change ys
changed_behind [] ys n i change e = ap (λ j. changed_at j change ys) (omega (arith, e))
changed_behind (x ∷ xs) ys zero i change e = absurd (omega (arith, e))
changed_behind (x ∷ xs) ys (suc n) i change e =
    search (arith, changed_at, changed_behind xs ys n i change (omega (arith, e)))

-- ---- forests laid out

pub length-laid : (end : Option ℕ) (n : ℕ) (f : Forest Item) → length (laid end n f) ≡ size f
length-laid end n nil = refl
length-laid end n (node a below after) = let inner = length-laid None (n + 1) below in
    let outer = length-laid end (n + 1 + size below) after in
    search (arith, length-append, laid, size, inner, outer)

-- one forest and then another, laid out: the first leads to the second
pub laid-followed_by : (end : Option ℕ) (n k : ℕ) (f g : Forest Item)
    → k ≡ n + size f → laid end n (followed_by f g) ≡ laid (link end k g) n f ++ laid end k g
laid-followed_by end n k nil g e = ap (λ i. laid end i g) (omega (arith, e))
laid-followed_by end n k (node a below after) g e = let m = n + 1 + size below in
    let more : laid end m (followed_by after g) ≡ laid (link end k g) m after ++ laid end k g =
    laid-followed_by end m k after g (omega (arith, e)) in
    search (arith, append_assoc)

-- the place of the last root among the nodes of a forest
abbrev pub last_index : Forest Item → ℕ
last_index nil = 0
last_index (node a below nil) = 0
last_index (node a below (node b inside after)) = suc (size below + last_index (node b inside after))

pub last_root_is : (n : ℕ) (a : Item) (below after : Forest Item)
    → last_root n (node a below after) ≡ Some (n + last_index (node a below after))
last_root_is n a below nil = ap (λ m. Some m) (omega arith)
last_root_is n a below (node b inside after) =
    last_root_is (n + 1 + size below) b inside after ∙ ap (λ m. Some m) (omega arith)

-- a node that leads to a number
abbrev pub leads_to : ℕ → Node Item → Node Item
leads_to k n = record n { next = Some k }

-- one tree more at the end of a forest: a node is appended, and the last root leads to it
pub laid_appended : (n k : ℕ) (x a : Item) (below after : Forest Item)
    → k ≡ n + size (node a below after) → laid None n (followed_by (node a below after) (node x nil nil))
    ≡ changed_at (last_index (node a below after)) (leads_to k) (laid None n (node a below after) ++ single x ∷ [])
laid_appended n k x a below nil e = let same : n + 1 + size below ≡ k = omega (arith, e) in
    rw (same, append-nil (laid None (n + 1) below)) refl
laid_appended n k x a below (node b inside after) e = let m = n + 1 + size below in
    let front = laid None (n + 1) below in
    let rest = laid None m (node b inside after) in
    let i = last_index (node b inside after) in
    cc (
      laid_appended m k x b inside after (omega (arith, e)),
      changed_behind front (rest ++ single x ∷ []) (size below) i (leads_to k) (sym (length-laid None (n + 1) below)),
      append_assoc front rest (single x ∷ []),
    )

-- the last root's number, where another forest follows
pub last_root-followed_by : (n k : ℕ) (f : Forest Item) (a : Item) (below after : Forest Item)
    → k ≡ n + size f → last_root n (followed_by f (node a below after)) ≡ last_root k (node a below after)
last_root-followed_by n k nil a below after e = ap (λ m. last_root m (node a below after)) (omega (arith, e))
last_root-followed_by n k (node b inside nil) a below after e =
    ap (λ m. last_root m (node a below after)) (omega (arith, e))
last_root-followed_by n k (node b inside (node c deeper others)) a below after e =
    last_root-followed_by (n + 1 + size inside) k (node c deeper others) a below after (omega (arith, e))

-- ---- the nodes before the last tree

-- a node, and the trees in it before its last one
abbrev pub ahead_in : ℕ → Item → Forest Item → List (Node Item)
ahead_in parent a before = record { item = a; child = Some (parent + 1); next = None } ∷ laid
    (Some (parent + 1 + size before)) (parent + 1) before

pub length-ahead_in : (parent : ℕ) (a : Item) (before : Forest Item)
    → length (ahead_in parent a before) ≡ suc (size before)
length-ahead_in parent a before = ap suc (length-laid (Some (parent + 1 + size before)) (parent + 1) before)

link_filled : (n : ℕ) (f : Forest Item) (x : Item) (below after : Forest Item)
    → link None n (followed_by f (node x below after)) ≡ Some n
link_filled n nil x below after = refl
link_filled n (node a inside others) x below after = refl

laid_ahead : (parent : ℕ) (a : Item) (before : Forest Item) (x : Item) (below after : Forest Item)
    → laid None parent (node a (followed_by before (node x below after)) nil)
    ≡ ahead_in parent a before ++ laid None (parent + 1 + size before) (node x below after)
laid_ahead parent a before x below after = let last : Forest Item = node x below after in
    rw (
      link_filled (parent + 1) before x below after,
      laid-followed_by None (parent + 1) (parent + 1 + size before) before last refl,
    ) (ap (λ (xs : List (Node Item)). record { item = a; child = Some (parent + 1); next = None } ∷ xs) (append-nil
    (laid (Some (parent + 1 + size before)) (parent + 1) before ++ laid None (parent + 1 + size before) last)))

-- the nodes before that of the innermost open block
abbrev pub around : ℕ → Item → List Frame → List (Node Item)
around parent a [] = []
around parent a (frame ∷ frames) = ahead_in parent a frame.before ++ around (number_in parent frame) frame.item frames

pub length-around : (parent : ℕ) (a : Item) (frames : List Frame)
    → innermost_in parent frames ≡ parent + length (around parent a frames)
length-around parent a [] = omega arith
length-around parent a (frame ∷ frames) = let front = ahead_in parent a frame.before in
    let both = length-append front (around (number_in parent frame) frame.item frames) in
    omega (arith, both, length-ahead_in parent a frame.before, length-around (number_in parent frame) frame.item frames)

-- the item of the innermost open block
abbrev pub innermost_item : Item → List Frame → Item
innermost_item a [] = a
innermost_item a (frame ∷ frames) = innermost_item frame.item frames

pub laid_around : (parent : ℕ) (a : Item) (frames : List Frame) (inside : Forest Item)
    → laid None parent (node a (rebuilt frames inside) nil)
    ≡ around parent a frames ++ laid None (innermost_in parent frames) (node (innermost_item a frames) inside nil)
laid_around parent a [] inside = refl
laid_around parent a (frame ∷ frames) inside = let front = ahead_in parent a frame.before in
    let n = number_in parent frame in
    laid_ahead parent a frame.before frame.item (rebuilt frames inside) nil
    ∙ (ap (λ (xs : List (Node Item)). front ++ xs) (laid_around n frame.item frames inside)
    ∙ sym (append_assoc front (around n frame.item frames)
    (laid None (innermost_in n frames) (node (innermost_item frame.item frames) inside nil))))

-- the nodes before the last tree in the innermost open block
abbrev pub ahead : List Frame → Forest Item → List (Node Item)
ahead frames before = around 0 root frames ++ ahead_in (innermost_in 0 frames) (innermost_item root frames) before

-- the number of that tree
abbrev pub number_after : List Frame → Forest Item → ℕ
number_after frames before = innermost_in 0 frames + 1 + size before

pub length-ahead : (frames : List Frame) (before : Forest Item)
    → number_after frames before ≡ length (ahead frames before)
length-ahead frames before = let front = around 0 root frames in
    let last = ahead_in (innermost_in 0 frames) (innermost_item root frames) before in
    let one : innermost_in 0 frames ≡ length front = length-around 0 root frames ∙ omega arith in
    omega (
      arith,
      length-append front last,
      one,
      length-ahead_in (innermost_in 0 frames) (innermost_item root frames) before,
    )

pub laid_last : (frames : List Frame) (before : Forest Item) (x : Item) (below after : Forest Item)
    → (laid_out frames (followed_by before (node x below after))).nodes
    ≡ ahead frames before ++ laid None (number_after frames before) (node x below after)
laid_last frames before x below after = search (arith, laid_around, laid_ahead, append_assoc)

-- so many nodes there are
pub length-laid_out : (frames : List Frame) (inside : Forest Item)
    → length (laid_out frames inside).nodes ≡ number_after frames inside
length-laid_out frames inside = let front = around 0 root frames in
    let n = innermost_in 0 frames in
    let last : Forest Item = node (innermost_item root frames) inside nil in
    let one : innermost_in 0 frames ≡ length front = length-around 0 root frames ∙ omega arith in
    let two = length-append front (laid None n last) in
    let all : length (laid_out frames inside).nodes ≡ length (front ++ laid None n last) =
    ap length (laid_around 0 root frames inside) in
    let three : length (laid None n last) ≡ suc (size inside + 0) = length-laid None n last in
    omega (arith, one, two, three, all)

-- ---- an item is written

-- the root of the last tree has another item
pub last_written : (frames : List Frame) (before : Forest Item) (x y : Item) (below after : Forest Item) (n : ℕ)
    → n ≡ number_after frames before → with_item (laid_out frames (followed_by before (node x below after))) n y
    ≡ laid_out frames (followed_by before (node y below after))
last_written frames before x y below after n e = let front = ahead frames before in
    let m = number_after frames before in
    let change : Node Item → Node Item = λ k. record k { item = y } in
    let same : n ≡ m + 0 = omega (arith, e) in
    let nodes : changed_at n change (laid_out frames (followed_by before (node x below after))).nodes
    ≡ (laid_out frames (followed_by before (node y below after))).nodes =
    let changed = changed_behind front (laid None m (node x below after)) m 0 change (length-ahead frames before) in
    cc (laid_last frames before x below after, same, changed, laid_last frames before y below after) in
    search (arith, last_root-followed_by, other_root)
  where
    other_root : (m : ℕ) (after : Forest Item) → last_root m (node x below after) ≡ last_root m (node y below after)
    other_root m nil = refl
    other_root m (node z inside others) = refl

-- ---- an item is appended

-- a field behind a prefix
pub field_behind : {X : Type 0} (g : Node Item → X) (d : X) (xs ys : List (Node Item)) (n i : ℕ)
    → n ≡ length xs → slice_index_or (map g (xs ++ ys)) (n + i) d ≡ slice_index_or (map g ys) i d
field_behind g d [] ys n i e = ap (λ j. slice_index_or (map g ys) j d) (omega (arith, e))
field_behind g d (x ∷ xs) ys zero i e = absurd (omega (arith, e))
field_behind g d (x ∷ xs) ys (suc n) i e = let next : suc n + i ≡ suc (n + i) = omega arith in
    cc (next, field_behind g d xs ys n i (omega (arith, e)))

-- nothing follows the last root of a forest
last_alone : (n : ℕ) (f : Forest Item) → sibling_of (laid None n f) (last_index f) ≡ None
last_alone n nil = refl
last_alone n (node a below nil) = refl
last_alone n (node a below (node b inside after)) = let m = n + 1 + size below in
    field_behind (λ k. k.next) None (laid None (n + 1) below) (laid None m (node b inside after)) (size below)
    (last_index (node b inside after)) (sym (length-laid None (n + 1) below)) ∙ last_alone m (node b inside after)

-- the innermost of the open blocks' numbers
innermost_numbers : (s : ℕ) (frames : List Frame) → innermost (s ∷ numbers_in s frames) ≡ innermost_in s frames
innermost_numbers s [] = refl
innermost_numbers s (frame ∷ frames) = innermost_numbers (number_in s frame) frames

innermost_is : (frames : List Frame) → innermost (numbers_in 0 frames) ≡ innermost_in 0 frames
innermost_is frames = grind (arith, innermost_numbers, number_in)

-- the nodes, with one more in the innermost open block
grown : (frames : List Frame) (inside : Forest Item) (x : Item) (k : ℕ) → k ≡ number_after frames inside
    → (follower (laid_out frames inside).nodes (laid_out frames inside).spine (laid_out frames inside).cursor ≡ None)
    × (led_to k (laid_out frames inside).spine (laid_out frames inside).cursor
    ((laid_out frames inside).nodes ++ single x ∷ []) ≡ (laid_out frames (followed_by inside (node x nil nil))).nodes)
grown frames nil x k e = let front = around 0 root frames in
    let q = innermost_in 0 frames in
    let i = innermost_item root frames in
    let here : List (Node Item) = laid None q (node i nil nil) in
    let change : Node Item → Node Item = λ n. record n { child = Some k } in
    let ahead_of : q ≡ length front = length-around 0 root frames ∙ omega arith in
    let at : q ≡ q + 0 = omega arith in
    let number : k ≡ q + 1 = omega (arith, e) in
    let last : Node Item = record { item = i; child = Some (q + 1); next = None } in
    let old : (laid_out frames nil).nodes ≡ front ++ here = laid_around 0 root frames nil in
    rw (innermost_is frames) (
      ap (λ (xs : List (Node Item)). child_of xs q) old
          ∙ (ap (λ j. child_of (front ++ here) j) at ∙ field_behind (λ n. n.child) None front here q 0 ahead_of),
      ap (λ (xs : List (Node Item)). changed_at q change (xs ++ single x ∷ [])) old
          ∙ (ap (λ j. changed_at j change ((front ++ here) ++ single x ∷ [])) at
          ∙ (ap (λ (xs : List (Node Item)). changed_at (q + 0) change xs) (append_assoc front here (single x ∷ []))
          ∙ (changed_behind front (here ++ single x ∷ []) q 0 change ahead_of
          ∙ (ap (λ j. front ++ record { item = i; child = Some j; next = None } ∷ single x ∷ []) number
          ∙ (sym (append_assoc front (last ∷ []) (single x ∷ [])) ∙ sym (laid_last frames nil x nil nil)))))),
    )
grown frames (node b below after) x k e = let inside : Forest Item = node b below after in
    let front = around 0 root frames in
    let q = innermost_in 0 frames in
    let i = innermost_item root frames in
    let li = last_index inside in
    let trees = laid None (q + 1) inside in
    let first : Node Item = record { item = i; child = Some (q + 1); next = None } in
    let ahead_of : q ≡ length front = length-around 0 root frames ∙ omega arith in
    let at : (q + 1) + li ≡ q + suc li = omega arith in
    let here : laid None q (node i inside nil) ≡ first ∷ trees = cc (append-nil trees) in
    let more : laid None q (node i (followed_by inside (node x nil nil)) nil)
    ≡ first ∷ laid None (q + 1) (followed_by inside (node x nil nil)) =
    cc (append-nil (laid None (q + 1) (followed_by inside (node x nil nil)))) in
    let old : (laid_out frames inside).nodes ≡ front ++ first ∷ trees = cc (laid_around 0 root frames inside, here) in
    let new : (laid_out frames (followed_by inside (node x nil nil))).nodes
    ≡ front ++ first ∷ laid None (q + 1) (followed_by inside (node x nil nil)) =
    cc (laid_around 0 root frames (followed_by inside (node x nil nil)), more) in
    rw (last_root_is (q + 1) b below after) (
      ap (λ (xs : List (Node Item)). sibling_of xs ((q + 1) + li)) old
          ∙ (ap (λ j. sibling_of (front ++ first ∷ trees) j) at
          ∙ (field_behind (λ n. n.next) None front (first ∷ trees) q (suc li) ahead_of ∙ last_alone (q + 1) inside)),
      ap (λ (xs : List (Node Item)). changed_at ((q + 1) + li) (leads_to k) (xs ++ single x ∷ [])) old
          ∙ (ap (λ j. changed_at j (leads_to k) ((front ++ first ∷ trees) ++ single x ∷ [])) at
          ∙ (ap (λ (xs : List (Node Item)). changed_at (q + suc li) (leads_to k) xs)
          (append_assoc front (first ∷ trees) (single x ∷ []))
          ∙ (changed_behind front ((first ∷ trees) ++ single x ∷ []) q (suc li) (leads_to k) ahead_of
          ∙ (ap (λ (xs : List (Node Item)). front ++ first ∷ xs)
          (sym (laid_appended (q + 1) k x b below after (omega (arith, e)))) ∙ sym new)))),
    )

pub append_laid : (frames : List Frame) (inside : Forest Item) (x : Item)
    → appended (laid_out frames inside) x ≡ laid_out frames (followed_by inside (node x nil nil))
append_laid frames inside x = let n = length-laid_out frames inside in
    let g = grown frames inside x (length (laid_out frames inside).nodes) n in
    search (arith, inside, last_root-followed_by, number_after, g.0, g.1)

-- ---- the steps of a builder

-- two arenas of equal parts are equal
pub same_arena : (t u : Arena Item) → t.nodes ≡ u.nodes → t.spine ≡ u.spine → t.cursor ≡ u.cursor → t ≡ u
same_arena t u nodes spine cursor = λ i. record { nodes = nodes i; spine = spine i; cursor = cursor i }

-- ---- one more open block

rebuilt_more : (frames : List Frame) (frame : Frame) (inside : Forest Item)
    → rebuilt (frames ++ frame ∷ []) inside ≡ rebuilt frames (followed_by frame.before (node frame.item inside nil))
rebuilt_more [] frame inside = refl
rebuilt_more (f ∷ frames) frame inside = cc (rebuilt_more frames frame inside)

numbers_more : (parent : ℕ) (frames : List Frame) (frame : Frame) → numbers_in parent (frames ++ frame ∷ [])
    ≡ numbers_in parent frames ++ number_in (innermost_in parent frames) frame ∷ []
numbers_more parent [] frame = refl
numbers_more parent (f ∷ frames) frame = cc (numbers_more (number_in parent f) frames frame)

innermost_more : (parent : ℕ) (frames : List Frame) (frame : Frame)
    → innermost_in parent (frames ++ frame ∷ []) ≡ number_in (innermost_in parent frames) frame
innermost_more parent [] frame = refl
innermost_more parent (f ∷ frames) frame = innermost_more (number_in parent f) frames frame

-- the nodes are those of the block as the last tree of its level
nodes_more : (frames : List Frame) (frame : Frame) (inside : Forest Item)
    → (laid_out (frames ++ frame ∷ []) inside).nodes
    ≡ (laid_out frames (followed_by frame.before (node frame.item inside nil))).nodes
nodes_more frames frame inside = cc (rebuilt_more frames frame inside)

-- an arena whose entered nodes end with a number is that of some open blocks and the innermost
pub record EndsWithFrame (parent : ℕ) (frames : List Frame) (outer : List ℕ) (ix : ℕ) : Type 0 where
  pub others : List Frame
  pub last : Frame
  pub whole : frames ≡ others ++ last ∷ []
  pub spine : numbers_in parent others ≡ outer
  pub number : number_in (innermost_in parent others) last ≡ ix

last_frame : (parent : ℕ) (frames : List Frame) (outer : List ℕ) (ix : ℕ)
    → numbers_in parent frames ≡ outer ++ ix ∷ [] → EndsWithFrame parent frames outer ix
last_frame parent [] [] ix e = cc (e)
last_frame parent [] (o ∷ outer) ix e = cc (e)
last_frame parent (f ∷ []) [] ix e = record { others = []; last = f; whole = refl; spine = refl; number = cc (e) }
last_frame parent (f ∷ g ∷ frames) [] ix e = cc (e)
last_frame parent (f ∷ []) (o ∷ []) ix e = cc (e)
last_frame parent (f ∷ []) (o ∷ p ∷ outer) ix e = cc (e)
last_frame parent (f ∷ g ∷ frames) (o ∷ outer) ix e = let first : number_in parent f ≡ o = cc (e) in
    let rest : numbers_in (number_in parent f) (g ∷ frames) ≡ outer ++ ix ∷ [] = cc (e) in
    let r = last_frame (number_in parent f) (g ∷ frames) outer ix rest in
    record {
      others = f ∷ r.others;
      last = r.last;
      whole = ap (λ (fs : List Frame). f ∷ fs) r.whole;
      spine = cc (r.spine, first);
      number = r.number;
    }

-- ---- an item is appended, and entered

pub append_is_laid : (tree : Arena Item) (x : Item) → IsLaidOut tree → IsLaidOut (appended tree x)
append_is_laid tree x k = search (arith, followed_by, node, nil, appended, append_laid, k.inside, k.frames)

-- the newest node has no children
newest_childless : (frames : List Frame) (inside : Forest Item) (x : Item)
    → child_of (appended (laid_out frames inside) x).nodes (length (laid_out frames inside).nodes) ≡ None
newest_childless frames inside x = let n = length (laid_out frames inside).nodes in
    let front = ahead frames inside in
    let size_is : n ≡ length front = length-laid_out frames inside ∙ length-ahead frames inside in
    let at : n ≡ n + 0 = omega arith in
    search (arith, append_laid, inside, laid_last, field_behind)

pub enter_laid : (frames : List Frame) (inside : Forest Item) (x : Item)
    → entered (laid_out frames inside) x ≡ laid_out (frames ++ record { before = inside; item = x } ∷ []) nil
enter_laid frames inside x = search (
  arith,
  appended,
  laid_out,
  nil,
  append_laid,
  nodes_more,
  numbers_in,
  length,
  length-laid_out,
  numbers_more,
  same_arena,
  entered,
  newest_childless,
)

pub enter_is_laid : (tree : Arena Item) (x : Item) → IsLaidOut tree → IsLaidOut (entered tree x)
enter_is_laid tree x k = search (arith, nil, entered, enter_laid, k.frames, k.inside)

-- ---- the innermost open block

-- it is left, with another item
pub record IsLeftTree (old tree : Arena Item) (ix : ℕ) (y : Item) : Type 0 where
  pub frames : List Frame
  pub before : Forest Item
  pub item : Item
  pub below : Forest Item
  pub was : old ≡ laid_out (frames ++ record { before = before; item = item } ∷ []) below
  pub is : tree ≡ laid_out frames (followed_by before (node y below nil))
  pub number : number_after frames before ≡ ix

pub leave_laid : (tree : Arena Item) (outer : List ℕ) (ix : ℕ) (y : Item) → IsLaidOut tree
    → tree.spine ≡ outer ++ ix ∷ [] → IsLeftTree tree (record {
      nodes = changed_at ix (λ n. record n { item = y }) tree.nodes;
      spine = outer;
      cursor = Some ix;
    }) ix y
leave_laid tree outer ix y k e =
    let r = last_frame 0 k.frames outer ix (sym (ap (λ (t : Arena Item). t.spine) k.is) ∙ e) in
    search (arith, number_after, nodes_more, last_written, last_root-followed_by, same_arena)

-- it has another item
pub record IsWrittenTree (first tree : Arena Item) : Type 0 where
  pub frames : List Frame
  pub old : Frame
  pub now : Frame
  pub inside : Forest Item
  pub same : now.before ≡ old.before
  pub was : first ≡ laid_out (frames ++ old ∷ []) inside
  pub is : tree ≡ laid_out (frames ++ now ∷ []) inside

pub write_laid : (tree : Arena Item) (outer : List ℕ) (ix : ℕ) (y : Item)
    → IsLaidOut tree → tree.spine ≡ outer ++ ix ∷ [] → IsWrittenTree tree (with_item tree ix y)
write_laid tree outer ix y k e =
    let r = last_frame 0 k.frames outer ix (sym (ap (λ (t : Arena Item). t.spine) k.is) ∙ e) in
    let before = r.last.before in
    let frame : Frame = record { before = before; item = y } in
    let change : Node Item → Node Item = λ m. record m { item = y } in
    let was : tree.nodes ≡ (laid_out r.others (followed_by before (node r.last.item k.inside nil))).nodes =
    cc (k.is, r.whole, nodes_more r.others r.last k.inside) in
    let nodes : changed_at ix change tree.nodes ≡ (laid_out (r.others ++ frame ∷ []) k.inside).nodes =
    search (arith, last_written, nodes_more, r.others, r.last.item, k.inside, r.number) in
    let spine : tree.spine ≡ numbers_in 0 (r.others ++ frame ∷ []) =
    search (arith, numbers_more, k.is, r.whole, r.others, r.last) in
    let cursor : tree.cursor ≡ last_root (innermost_in 0 (r.others ++ frame ∷ []) + 1) k.inside =
    search (arith, innermost_more, k.is, k.inside, r.whole, r.others, r.last) in
    record {
      frames = r.others;
      old = r.last;
      now = frame;
      inside = k.inside;
      same = refl;
      was = cc (k.is, r.whole);
      is = same_arena (with_item tree ix y) (laid_out (r.others ++ frame ∷ []) k.inside) nodes spine cursor;
    }

pub write_is_laid : (tree : Arena Item) (outer : List ℕ) (ix : ℕ) (y : Item)
    → IsLaidOut tree → tree.spine ≡ outer ++ ix ∷ [] → IsLaidOut (with_item tree ix y)
write_is_laid tree outer ix y k e = let w = write_laid tree outer ix y k e in
    record { frames = w.frames ++ w.now ∷ []; inside = w.inside; is = w.is }

-- ---- a delimiter run

-- a Text for each of `count` bytes from a byte offset on
abbrev pub byte_texts : ℕ → ℕ → Forest Item
byte_texts start zero = nil
byte_texts start (suc count) = followed_by (byte_texts start count) (node (byte_text (start + count)) nil nil)

size-byte_texts : (start count : ℕ) → size (byte_texts start count) ≡ count
size-byte_texts start zero = refl
size-byte_texts start (suc count) =
    let more = size-followed_by (byte_texts start count) (node (byte_text (start + count)) nil nil) in
    omega (arith, more, size-byte_texts start count)

pub texts_laid : (frames : List Frame) (inside : Forest Item) (start count : ℕ) → texts_appended
    (laid_out frames inside) start count ≡ laid_out frames (followed_by inside (byte_texts start count))
texts_laid frames inside start zero = cc (followed_by-nil inside)
texts_laid frames inside start (suc count) = search (
  arith,
  byte_text,
  append_laid,
  followed_by-assoc,
  texts_laid frames inside start count,
)

-- the characters of a run, of which the last `count` are made of Texts
marked_laid : (frames : List Frame) (inside : Forest Item) (start stop total left count : ℕ) (opens closes : Bool)
    → left + count ≡ total
    → run_marked (laid_out frames (followed_by inside (byte_texts start total))) stop opens closes count
    ≡ laid_out frames (followed_by inside (followed_by (byte_texts start left) (run_trees stop opens closes count)))
marked_laid frames inside start stop total left zero opens closes e = let all : total ≡ left = omega (arith, e) in
    ap (λ n. laid_out frames (followed_by inside (byte_texts start n))) all
    ∙ ap (λ (r : Forest Item). laid_out frames (followed_by inside r)) (sym (followed_by-nil (byte_texts start left)))
marked_laid frames inside start stop total left (suc count) opens closes e =
    let texts = laid_out frames (followed_by inside (byte_texts start total)) in
    let before = byte_texts start left in
    let after = run_trees stop opens closes count in
    let x = byte_text (start + left) in
    let y = run_item stop opens closes (suc count) in
    let n = length texts.nodes - suc count in
    let number : n ≡ number_after frames (followed_by inside before) = omega (
      arith,
      e,
      length-laid_out frames (followed_by inside (byte_texts start total)),
      size-followed_by inside (byte_texts start total),
      size-byte_texts start total,
      size-followed_by inside before,
      size-byte_texts start left,
    ) in
    let split : (z : Item) → followed_by inside (followed_by before (node z nil after))
    ≡ followed_by (followed_by inside before) (node z nil after) =
    λ z. sym (followed_by-assoc inside before (node z nil after)) in
    ap (λ (t : Arena Item). with_item t n y) (marked_laid frames inside start stop total
    (suc left) count opens closes (omega (arith, e)) ∙ ap (λ (r : Forest Item). laid_out frames r)
    (ap (λ (r : Forest Item). followed_by inside r) (followed_by-assoc before (node x nil nil) after) ∙ split x))
    ∙ (last_written frames (followed_by inside before) x y nil after n number
    ∙ ap (λ (r : Forest Item). laid_out frames r) (sym (split y)))

pub run_laid : (frames : List Frame) (inside : Forest Item) (start stop total : ℕ) (opens closes : Bool)
    → run_marked (texts_appended (laid_out frames inside) start total) stop opens closes total
    ≡ laid_out frames (followed_by inside (run_trees stop opens closes total))
run_laid frames inside start stop total opens closes =
    let marked = marked_laid frames inside start stop total 0 total opens closes (omega arith) in
    cc (texts_laid frames inside start total, marked)

pub run_is_laid : (tree : Arena Item) (start stop total : ℕ) (opens closes : Bool)
    → IsLaidOut tree → IsLaidOut (run_marked (texts_appended tree start total) stop opens closes total)
run_is_laid tree start stop total opens closes k =
    search (arith, followed_by, run_trees, run_marked, texts_appended, run_laid, k.inside, k.frames)

-- ---- the levels that are read off an arena

-- the numbers of a forest that is laid out from a number on
abbrev numbers : ℕ → Forest Item → Forest ℕ
numbers n nil = nil
numbers n (node a below after) = node n (numbers (n + 1) below) (numbers (n + 1 + size below) after)

height-numbers : (n : ℕ) (f : Forest Item) → height (numbers n f) ≤ size f
height-numbers n nil = omega arith
height-numbers n (node a below after) = let one = height-numbers (n + 1) below in
    let two = height-numbers (n + 1 + size below) after in omega (arith, one, two)

-- a forest is laid out from a number on
record IsLaidAt (nodes : List (Node Item)) (n : ℕ) (f : Forest Item) : Type 0 where
  front : List (Node Item)
  back : List (Node Item)
  is : nodes ≡ front ++ (laid None n f ++ back)
  number : n ≡ length front

-- then so are the forests below its first root and after that, and its item and its links are there
record IsLaidRoot (nodes : List (Node Item)) (n : ℕ) (a : Item) (below after : Forest Item) : Type 0 where
  low : n < length nodes
  item : item_at nodes n ≡ a
  child : child_of nodes n ≡ link None (n + 1) below
  next : sibling_of nodes n ≡ link None (n + 1 + size below) after
  inside : IsLaidAt nodes (n + 1) below
  others : IsLaidAt nodes (n + 1 + size below) after

laid_root : (nodes : List (Node Item)) (n : ℕ) (a : Item) (below after : Forest Item)
    → IsLaidAt nodes n (node a below after) → IsLaidRoot nodes n a below after
laid_root nodes n a below after k = let front = k.front in
    let back = k.back in
    let m = n + 1 + size below in
    let first : Node Item = record { item = a; child = link None (n + 1) below; next = link None m after } in
    let under = laid None (n + 1) below in
    let rest = laid None m after in
    let at : n ≡ n + 0 = omega arith in
    let inside : nodes ≡ (front ++ first ∷ []) ++ (under ++ (rest ++ back)) = search (arith, append_assoc, k.is) in
    let others : nodes ≡ (front ++ first ∷ under) ++ (rest ++ back) = search (arith, append_assoc, k.is) in
    search (arith, inside, length-append, field_behind, length-laid, k.number, k.is)

-- the links lead through its numbers
spells_laid : (nodes : List (Node Item)) (n : ℕ) (f : Forest Item)
    → IsLaidAt nodes n f → Spells (links_of nodes) (link None n f) (numbers n f)
spells_laid nodes n nil k = refl
spells_laid nodes n (node a below after) k = let r = laid_root nodes n a below after k in (
  refl,
  r.low,
  rw r.child (spells_laid nodes (n + 1) below r.inside),
  rw r.next (spells_laid nodes (n + 1 + size below) after r.others),
)

-- the items of these numbers are its own
items_laid : (nodes : List (Node Item)) (n : ℕ) (f : Forest Item)
    → IsLaidAt nodes n f → relabelled (λ m. m.item) (relabelled (numbered nodes) (numbers n f)) ≡ f
items_laid nodes n nil k = refl
items_laid nodes n (node a below after) k = let r = laid_root nodes n a below after k in
    cc (items_laid nodes (n + 1) below r.inside, items_laid nodes (n + 1 + size below) after r.others)

-- the tree that is read off an arena is the one that was laid out
pub tree_laid : (f : Forest Item) → relabelled (λ m. m.item) (tree_of (laid None 0 (node root f nil))) ≡ f
tree_laid f = let nodes = laid None 0 (node root f nil) in
    let whole : IsLaidAt nodes 0 (node root f nil) = record {
      front = [];
      back = [];
      is = sym (append-nil nodes);
      number = refl;
    } in
    let r = laid_root nodes 0 root f nil whole in
    let found : forest_at (links_of nodes) (link None 1 f) ≡ numbers 1 f =
    forest_at-fits (links_of nodes) (link None 1 f) (numbers 1 f) (spells_laid nodes 1 f r.inside)
    (omega (arith, height-numbers 1 f, length-laid None 0 (node root f nil))) in
    cc (found, items_laid nodes 1 f r.inside)

-- ---- levels

but_last-followed_by : (f : Forest Item) (x : Item) (below : Forest Item)
    → all_but_last (followed_by f (node x below nil)) ≡ f
but_last-followed_by nil x below = refl
but_last-followed_by (node a inside nil) x below = refl
but_last-followed_by (node a inside (node b deeper others)) x below =
    cc (but_last-followed_by (node b deeper others) x below)

in_last-followed_by : (f : Forest Item) (x : Item) (below : Forest Item)
    → in_last (followed_by f (node x below nil)) ≡ below
in_last-followed_by nil x below = refl
in_last-followed_by (node a inside nil) x below = refl
in_last-followed_by (node a inside (node b deeper others)) x below = in_last-followed_by (node b deeper others) x below

levels_rebuilt : (parent : ℕ) (frames : List Frame) (inside : Forest Item)
    → levels_in (numbers_in parent frames) (rebuilt frames inside) ≡ map (λ f. f.before) frames ++ inside ∷ []
levels_rebuilt parent [] inside = refl
levels_rebuilt parent (frame ∷ frames) inside = let deeper = levels_rebuilt (number_in parent frame) frames inside in
    search (arith, but_last-followed_by, rebuilt, in_last-followed_by, number_in, deeper, frame.before, frame.item)

-- the levels that are read off an arena are those that were laid out
pub levels_laid : (frames : List Frame) (inside : Forest Item)
    → levels_of (laid_out frames inside) ≡ map (λ f. f.before) frames ++ inside ∷ []
levels_laid frames inside = cc (tree_laid (rebuilt frames inside), levels_rebuilt 0 frames inside)

-- ---- one item

-- an item written in its own place changes nothing
same_written : (nodes : List (Node Item)) (number : ℕ)
    → number < length nodes → changed_at number (λ n. record n { item = item_at nodes number }) nodes ≡ nodes
same_written [] number h = absurd (omega (arith, h))
same_written (n ∷ nodes) zero h = refl
same_written (n ∷ nodes) (suc number) h = cc (same_written nodes number (omega (arith, h)))

pub same_item_written : (tree : Arena Item) (number : ℕ)
    → number < length tree.nodes → with_item tree number (item_at tree.nodes number) ≡ tree
same_item_written tree number h = rw (same_written tree.nodes number h) refl

pub other_stays : (item : Item) → is_paragraph item.body ≡ false → tight_if_paragraph item ≡ item
other_stays item h1 = grind (arith, is_paragraph, tight_body)

-- ---- the shape stays

pub size-roots_tightened : (f : Forest Item) → size (roots_tightened f) ≡ size f
size-roots_tightened nil = refl
size-roots_tightened (node a below after) = let more = size-roots_tightened after in omega (arith, more)

pub link_roots : (n : ℕ) (f : Forest Item) → link None n (roots_tightened f) ≡ link None n f
link_roots n f = grind (arith)

pub link_items : (n : ℕ) (f : Forest Item) → link None n (items_tightened f) ≡ link None n f
link_items n f = grind (arith)

-- ---- a loop over the roots

-- the rest of the forest, from the link on, and what the nodes are when it is changed too
pub record IsRest (change : Forest Item → Forest Item) (goal nodes : List (Node Item)) (here : Option ℕ) : Type 0 where
  pub front : List (Node Item)
  pub back : List (Node Item)
  pub rest : Forest Item
  pub is : nodes ≡ front ++ (laid None (length front) rest ++ back)
  pub at : here ≡ link None (length front) rest
  pub last : goal ≡ front ++ (laid None (length front) (change rest) ++ back)

-- whatever forest it is
pub record LaidLeft (change : Forest Item → Forest Item) (old : List (Node Item)) (first : Option ℕ)
    (nodes : List (Node Item)) (here : Option ℕ) : Type 0 where
  pub left : (front back : List (Node Item)) (f : Forest Item)
      → old ≡ front ++ (laid None (length front) f ++ back) → first ≡ link None (length front) f
      → IsRest change (front ++ (laid None (length front) (change f) ++ back)) nodes here

pub all_left_laid : (change : Forest Item → Forest Item) (old : List (Node Item)) (first : Option ℕ)
    → LaidLeft change old first old first
all_left_laid change old first = search (arith)

pub none_left_laid : (change : Forest Item → Forest Item)
    → change nil ≡ nil → (old : List (Node Item)) (first : Option ℕ) (nodes : List (Node Item)) (here : Option ℕ)
    → ((number : ℕ) → here ≡ Some number → ⊥)
    → LaidLeft change old first nodes here → ChangesLaid change first old nodes
none_left_laid change h1 old first nodes here h2 h3 = grind (arith, link, laid)

-- the first tree of the rest is changed, and the loop goes on after it
next_laid : (change : Forest Item → Forest Item) (goal nodes : List (Node Item))
    (here : Option ℕ) (front back : List (Node Item)) (a b : Item) (inside below after : Forest Item)
    → change (node a inside after) ≡ node b below (change after)
    → ((n : ℕ) → link None n (change after) ≡ link None n after)
    → nodes ≡ front ++ (laid None (length front) (node b below after) ++ back)
    → goal ≡ front ++ (laid None (length front) (change (node a inside after)) ++ back)
    → here ≡ sibling_of nodes (length front) → IsRest change goal nodes here
next_laid change goal nodes here front back a b inside below after made shape is last at = let n = length front in
    let m = n + 1 + size below in
    let first : Forest Item → Node Item =
    λ g. record { item = b; child = link None (n + 1) below; next = link None m g } in
    let front_more = front ++ (first after ∷ laid None (n + 1) below) in
    let size_is : length front_more ≡ m =
    omega (arith, length-append front (first after ∷ laid None (n + 1) below), length-laid None (n + 1) below) in
    let split : (g : Forest Item) → link None m g ≡ link None m after
    → front ++ (laid None n (node b below g) ++ back) ≡ front_more ++ (laid None (length front_more) g ++ back) =
    search (arith, append_assoc) in
    let zero_on : n ≡ n + 0 = omega arith in
    search (arith, field_behind)

-- one sibling after another
pub sibling_laid : (old : List (Node Item)) (first : Option ℕ) (nodes new : List (Node Item))
    (here next : Option ℕ) (number : ℕ) → LaidLeft roots_tightened old first nodes here → here ≡ Some number
    → new ≡ changed_at number (λ n. record n { item = tight_if_paragraph (item_at nodes number) }) nodes
    → next ≡ sibling_of new number → LaidLeft roots_tightened old first new next
sibling_laid old first nodes new here next number k some written at = search (arith, step, k.left)
  where
    step : (goal front back : List (Node Item)) (rest : Forest Item)
        → nodes ≡ front ++ (laid None (length front) rest ++ back) → Some number ≡ link None (length front) rest
        → goal ≡ front ++ (laid None (length front) (roots_tightened rest) ++ back)
        → IsRest roots_tightened goal new next
    step goal front back nil is e last = cc (e)
    step goal front back (node a below after) is e last = let n = length front in
        let here : number ≡ n = cc (e) in
        let zero_on : n ≡ n + 0 = omega arith in
        let made : List (Node Item) = laid None n (node (tight_if_paragraph a) below after) ++ back in
        let item : item_at nodes number ≡ a = search (arith, field_behind) in
        let whole : new ≡ front ++ made = search (arith, written, changed_behind) in
        next_laid roots_tightened goal new next front back a (tight_if_paragraph a) below below after refl
        (λ j. link_roots j after) whole last (at ∙ ap (λ j. sibling_of new j) here)

-- one item of a list after another, whose children are changed
pub item_laid : (old : List (Node Item)) (first : Option ℕ) (nodes new : List (Node Item))
    (here below next : Option ℕ) (number : ℕ) → LaidLeft items_tightened old first nodes here
    → here ≡ Some number → below ≡ child_of nodes number → ChangesLaid roots_tightened below nodes new
    → next ≡ sibling_of new number → LaidLeft items_tightened old first new next
item_laid old first nodes new here below next number k some child changes at = search (arith, step, k.left)
  where
    step : (goal front back : List (Node Item)) (rest : Forest Item)
        → nodes ≡ front ++ (laid None (length front) rest ++ back) → Some number ≡ link None (length front) rest
        → goal ≡ front ++ (laid None (length front) (items_tightened rest) ++ back)
        → IsRest items_tightened goal new next
    step goal front back nil is e last = cc (e)
    step goal front back (node a inside after) is e last = let n = length front in
        let m = n + 1 + size inside in
        let here : number ≡ n = cc (e) in
        let zero_on : n ≡ n + 0 = omega arith in
        let first : ℕ → Forest Item → Node Item =
        λ j g. record { item = a; child = link None (n + 1) g; next = link None j after } in
        let ahead : List (Node Item) = front ++ first m inside ∷ [] in
        let ahead_size : length ahead ≡ n + 1 = length-append front (first m inside ∷ []) in
        let behind : List (Node Item) = laid None m after ++ back in
        let split : (j : ℕ) (g : Forest Item) → j ≡ n + 1
        → front ++ (first m inside ∷ ((laid None (n + 1) g ++ laid None m after) ++ back))
        ≡ ahead ++ (laid None j g ++ behind) = search (arith, inside, append_assoc, ahead) in
        let child_is : below ≡ link None (length ahead) inside = search (arith, field_behind, inside) in
        let changed : new ≡ ahead ++ (laid None (length ahead) (roots_tightened inside) ++ behind) =
        changes.made ahead behind inside (is ∙ split (length ahead) inside ahead_size) child_is in
        let same : m ≡ n + 1 + size (roots_tightened inside) = omega (arith, size-roots_tightened inside) in
        let whole : new ≡ front ++ (laid None n (node a (roots_tightened inside) after) ++ back) =
        search (arith, changed, ahead, inside, link_roots) in
        next_laid items_tightened goal new next front back a a inside (roots_tightened inside) after refl
        (λ j. link_items j after) whole last (at ∙ ap (λ j. sibling_of new j) here)

-- ---- a block that is closed

-- the root of the last tree
last_item : (frames : List Frame) (before : Forest Item) (x : Item) (below after : Forest Item)
    → item_at (laid_out frames (followed_by before (node x below after))).nodes (number_after frames before) ≡ x
last_item frames before x below after = let n = number_after frames before in
    let at : n ≡ n + 0 = omega arith in
    let last = laid None n (node x below after) in
    ap (λ (xs : List (Node Item)). item_at xs n) (laid_last frames before x below after)
    ∙ (ap (λ j. item_at (ahead frames before ++ last) j) at
    ∙ field_behind (λ k. k.item) no_item (ahead frames before) last n 0 (length-ahead frames before))

-- its first child
last_child : (frames : List Frame) (before : Forest Item) (x : Item) (below after : Forest Item)
    → child_of (laid_out frames (followed_by before (node x below after))).nodes (number_after frames before)
    ≡ link None (number_after frames before + 1) below
last_child frames before x below after = let n = number_after frames before in
    let at : n ≡ n + 0 = omega arith in
    let last = laid None n (node x below after) in
    ap (λ (xs : List (Node Item)). child_of xs n) (laid_last frames before x below after)
    ∙ (ap (λ j. child_of (ahead frames before ++ last) j) at
    ∙ field_behind (λ k. k.child) None (ahead frames before) last n 0 (length-ahead frames before))

-- the cursor does not depend on what is in the last tree
last_cursor : (frames : List Frame) (before : Forest Item) (x : Item) (below : Forest Item)
    → (laid_out frames (followed_by before (node x below nil))).cursor ≡ Some (number_after frames before)
last_cursor frames before x below =
    last_root-followed_by (innermost_in 0 frames + 1) (number_after frames before) before x below nil refl

-- the nodes, with those in the last tree apart
last_apart : (frames : List Frame) (before : Forest Item) (x : Item) (below : Forest Item) (n m : ℕ) (l : Option ℕ)
    → n ≡ number_after frames before
    → m ≡ n + 1 → l ≡ link None (n + 1) below → (laid_out frames (followed_by before (node x below nil))).nodes
    ≡ (ahead frames before ++ record { item = x; child = l; next = None } ∷ []) ++ (laid None m below ++ [])
last_apart frames before x below n m l e size first = search (arith, laid_last, nil, ahead, link, laid, append_assoc)

-- the paragraphs of a tight list that was left
pub tighten_laid : (frames : List Frame) (before : Forest Item) (y : Item) (below : Forest Item) (new : Arena Item)
    → TightensList (number_after frames before) (laid_out frames (followed_by before (node y below nil))) new
    → new ≡ laid_out frames (followed_by before (node y (below_closed y below) nil))
tighten_laid frames before y below new t = by_kind (is_tight_list y.body) refl
  where
    by_kind : (b : Bool)
        → is_tight_list y.body ≡ b → new ≡ laid_out frames (followed_by before (node y (below_closed y below) nil))
    by_kind true e = let n = number_after frames before in
        let l = link None (n + 1) below in
        let front : List (Node Item) = ahead frames before ++ record { item = y; child = l; next = None } ∷ [] in
        let size : length front ≡ n + 1 = omega (
          arith,
          length-append (ahead frames before) (record { item = y; child = l; next = None } ∷ []),
          length-ahead frames before,
        ) in
        search (arith, last_item, last_child, last_apart, link_items, tightens_stays, same_arena, last_cursor, cond)
    by_kind false e = search (arith, last_item, cond, t.same)

pub close_laid : (first old new : Arena Item) (ix : ℕ) (y : Item) (k : IsLeftTree first old ix y)
    → TightensList ix old new → new ≡ laid_out k.frames (followed_by k.before (node y (below_closed y k.below) nil))
close_laid first old new ix y k t =
    search (arith, number_after, laid_out, followed_by, node, nil, tighten_laid, k.frames, k.before, k.below, k.is)

pub close_is_laid : (first old new : Arena Item) (ix : ℕ) (y : Item)
    → IsLeftTree first old ix y → TightensList ix old new → IsLaidOut new
close_is_laid first old new ix y k t = record {
  frames = k.frames;
  inside = followed_by k.before (node y (below_closed y k.below) nil);
  is = close_laid first old new ix y k t;
}

-- ---- the levels after each step

-- the closed trees before each open block
abbrev befores : List Frame → List (Forest Item)
befores frames = map (λ f. f.before) frames

befores_more : (frames : List Frame) (frame : Frame)
    → befores (frames ++ frame ∷ []) ≡ befores frames ++ frame.before ∷ []
befores_more [] frame = refl
befores_more (f ∷ frames) frame = cc (befores_more frames frame)

-- trees at the end of the innermost level
trees_last : (outer : List (Forest Item)) (level trees : Forest Item)
    → with_trees (outer ++ level ∷ []) trees ≡ outer ++ followed_by level trees ∷ []
trees_last [] level trees = refl
trees_last (a ∷ []) level trees = refl
trees_last (a ∷ b ∷ outer) level trees = cc (trees_last (b ∷ outer) level trees)

-- the innermost block closed
closed_last : (outer : List (Forest Item)) (level inside : Forest Item) (item : Item)
    → with_closed ((outer ++ level ∷ []) ++ inside ∷ []) item
    ≡ outer ++ followed_by level (node item (below_closed item inside) nil) ∷ []
closed_last [] level inside item = refl
closed_last (a ∷ []) level inside item = refl
closed_last (a ∷ b ∷ []) level inside item = refl
closed_last (a ∷ b ∷ c ∷ outer) level inside item = cc (closed_last (b ∷ c ∷ outer) level inside item)

-- an arena with trees at the end of the innermost block
more_levels : (frames : List Frame) (inside trees : Forest Item) (tree new : Arena Item) → tree ≡ laid_out frames inside
    → new ≡ laid_out frames (followed_by inside trees) → levels_of new ≡ with_trees (levels_of tree) trees
more_levels frames inside trees tree new was now = let last = trees_last (befores frames) inside trees in
    cc (now, levels_laid frames (followed_by inside trees), last, was, levels_laid frames inside)

-- an item is appended
pub append_levels : (tree : Arena Item) (x : Item)
    → IsLaidOut tree → levels_of (appended tree x) ≡ with_trees (levels_of tree) (node x nil nil)
append_levels tree x k = more_levels k.frames k.inside (node x nil nil) tree (appended tree x) k.is
    (ap (λ (t : Arena Item). appended t x) k.is ∙ append_laid k.frames k.inside x)

-- Texts are appended
pub texts_levels : (tree : Arena Item) (start count : ℕ) → IsLaidOut tree
    → levels_of (texts_appended tree start count) ≡ with_trees (levels_of tree) (byte_texts start count)
texts_levels tree start count h1 = grind (arith, more_levels, texts_appended, texts_laid)

-- a delimiter run is appended
pub run_levels : (tree : Arena Item) (start stop total : ℕ) (opens closes : Bool)
    → IsLaidOut tree → levels_of (run_marked (texts_appended tree start total) stop opens closes total)
    ≡ with_trees (levels_of tree) (run_trees stop opens closes total)
run_levels tree start stop total opens closes h1 =
    grind (arith, more_levels, run_trees, run_marked, texts_appended, run_laid)

-- an item is appended and entered
pub enter_levels : (tree : Arena Item) (x : Item)
    → IsLaidOut tree → levels_of (entered tree x) ≡ levels_of tree ++ nil ∷ []
enter_levels tree x h1 = grind (arith, levels_of, entered, enter_laid, levels_laid, befores_more)

-- the innermost open block has another item
pub write_levels : (tree : Arena Item) (outer : List ℕ) (ix : ℕ) (y : Item)
    → IsLaidOut tree → tree.spine ≡ outer ++ ix ∷ [] → levels_of (with_item tree ix y) ≡ levels_of tree
write_levels tree outer ix y k e = let w : IsWrittenTree tree (with_item tree ix y) = write_laid tree outer ix y k e in
    ap levels_of w.is ∙ (levels_laid (w.frames ++ w.now ∷ []) w.inside
    ∙ (ap (λ (ls : List (Forest Item)). ls ++ w.inside ∷ []) (befores_more w.frames w.now
    ∙ (ap (λ (f : Forest Item). befores w.frames ++ f ∷ []) w.same ∙ sym (befores_more w.frames w.old)))
    ∙ sym (ap levels_of w.was ∙ levels_laid (w.frames ++ w.old ∷ []) w.inside)))

-- the innermost open block is closed
pub close_levels : (first old new : Arena Item) (ix : ℕ) (y : Item)
    → IsLeftTree first old ix y → TightensList ix old new → levels_of new ≡ with_closed (levels_of first) y
close_levels first old new ix y k t = let frame : Frame = record { before = k.before; item = k.item } in
    ap levels_of (close_laid first old new ix y k t)
    ∙ (levels_laid k.frames (followed_by k.before (node y (below_closed y k.below) nil))
    ∙ (sym (closed_last (befores k.frames) k.before k.below y)
    ∙ ap (λ (ls : List (Forest Item)). with_closed ls y) (sym (ap levels_of k.was
    ∙ (levels_laid (k.frames ++ frame ∷ []) k.below
    ∙ ap (λ (ls : List (Forest Item)). ls ++ k.below ∷ []) (befores_more k.frames frame))))))
