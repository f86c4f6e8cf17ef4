-- The left list: what pass one has read of a chain so far, the nearest first. It is CommonMark's bracket stack together
-- with what was read: trees that are complete, and openers `[` and `![` that wait for their `]`.
use Rattle.std.specs.Prelude.{Bool, true, false, not, if◌then◌else◌, List, [], ◌∷◌, map, Option, Some, None}
use Rattle.std.specs.Option.{option_map}
use Rattle.markdown_base.specs.Forest.{Forest, nil, node}
use Rattle.markdown_document.specs.Document.{TreeNode}

-- whether an opener can still become something; it is gone once it was tried for a `]`
pub data Flag : Type 0 where
  live : Flag
  disabled : Flag
  gone : Flag

-- the state of an opener: whether it is that of an image, and whether it can still open a link or an image, and a
-- wikilink
pub record OpenerState : Type 0 where
  pub is_image : Bool
  pub bracket : Flag
  pub wikilink : Flag

-- a complete tree; or a waiting opener, with the node of the Text that it remains if it becomes nothing
pub data Entry (A : Type 0) : Type 0 where
  done : TreeNode A → Forest (TreeNode A) → Entry A
  waits : OpenerState → TreeNode A → Entry A

-- an opener was taken off
abbrev pub is_gone : Flag → Bool
is_gone gone = true
is_gone other = false

-- an opener can still become a link
abbrev pub is_live : Flag → Bool
is_live live = true
is_live other = false

-- the trees of a left list from left to right, followed by `later`
abbrev pub trees_onto : {A : Type 0} → List (Entry A) → Forest (TreeNode A) → Forest (TreeNode A)
trees_onto [] later = later
trees_onto (done a below ∷ left) later = trees_onto left (node a below later)
trees_onto (waits m a ∷ left) later = trees_onto left (node a nil later)

-- the trees of a chain, added to a left list
abbrev pub all_done : {A : Type 0} → Forest (TreeNode A) → List (Entry A) → List (Entry A)
all_done nil left = left
all_done (node a below after) left = all_done after (done a below ∷ left)

-- a left list, split at one of its openers: the opener, the entries after it, the nearest first, and those before it
pub record Split (A : Type 0) : Type 0 where
  pub state : OpenerState
  pub opener : TreeNode A
  pub after : List (Entry A)
  pub before : List (Entry A)

-- the trees after the opener
abbrev pub inside : {A : Type 0} → Split A → Forest (TreeNode A)
inside o = trees_onto o.after nil

-- a split with one more entry after its opener
abbrev pub with_entry : {A : Type 0} → Entry A → Split A → Split A
with_entry e o = record o { after = e ∷ o.after }

-- the left list, split at the nearest opener that passes a test
abbrev pub nearest : {A : Type 0} → (OpenerState → Bool) → List (Entry A) → Option (Split A)
nearest test [] = None
nearest test (done a below ∷ left) = option_map (with_entry (done a below)) (nearest test left)
nearest test (waits m a ∷ left) =
    if test m then Some (record { state = m; opener = a; after = []; before = left })
    else option_map (with_entry (waits m a)) (nearest test left)

-- a left list with the state of that opener changed
abbrev pub change_nearest : {A : Type 0} → (OpenerState → Bool) → (OpenerState → OpenerState) → List (Entry A) → List
    (Entry A)
change_nearest test f [] = []
change_nearest test f (done a below ∷ left) = done a below ∷ change_nearest test f left
change_nearest test f (waits m a ∷ left) =
    if test m then waits (f m) a ∷ left else waits m a ∷ change_nearest test f left

-- the opener still waits to open a link or an image
abbrev pub opens_bracket : OpenerState → Bool
opens_bracket m = not (is_gone m.bracket)

-- the opener still waits to open a wikilink
abbrev pub opens_wikilink : OpenerState → Bool
opens_wikilink m = not (is_gone m.wikilink)

-- the opener no longer waits to open a link or an image
abbrev pub without_bracket : OpenerState → OpenerState
without_bracket m = record m { bracket = gone }

-- the opener no longer waits to open a wikilink
abbrev pub without_wikilink : OpenerState → OpenerState
without_wikilink m = record m { wikilink = gone }

-- the nearest opener that waits to open a link or an image is taken off
abbrev pub bracket_taken : {A : Type 0} → List (Entry A) → List (Entry A)
bracket_taken left = change_nearest opens_bracket without_bracket left

-- the nearest opener that waits to open a wikilink is taken off
abbrev pub wikilink_taken : {A : Type 0} → List (Entry A) → List (Entry A)
wikilink_taken left = change_nearest opens_wikilink without_wikilink left

-- an entry with the state changed, if it is an opener
abbrev pub on_state : {A : Type 0} → (OpenerState → OpenerState) → Entry A → Entry A
on_state f (done a below) = done a below
on_state f (waits m a) = waits (f m) a

-- a left list with the state of each opener changed
abbrev pub on_states : {A : Type 0} → (OpenerState → OpenerState) → List (Entry A) → List (Entry A)
on_states f left = map (on_state f) left

-- a live opener is disabled
abbrev pub disabled_flag : Flag → Flag
disabled_flag gone = gone
disabled_flag other = disabled

-- a `[` can no longer become a link; an image's opener can still become an image
abbrev pub disabled_state : OpenerState → OpenerState
disabled_state m =
    if m.is_image then m
    else record m { bracket = disabled_flag m.bracket; wikilink = disabled_flag m.wikilink }

-- the entry just before what was found no longer opens a wikilink: what was found began with its second bracket
abbrev pub second_folded : {A : Type 0} → List (Entry A) → List (Entry A)
second_folded [] = []
second_folded (e ∷ left) = on_state without_wikilink e ∷ left

-- the entries before a finished link or image: after a link, no `[` can become a link, since links contain no other
-- links
abbrev pub before_link : {A : Type 0} → (is_image : Bool) → List (Entry A) → List (Entry A)
before_link true left = second_folded left
before_link false left = on_states disabled_state (second_folded left)

-- the entries before a finished wikilink, as a link or as an image
abbrev pub before_wikilink : {A : Type 0} → List (Entry A) → List (Entry A)
before_wikilink left = on_states without_wikilink (on_states disabled_state left)

-- the entries before a footnote reference
abbrev pub before_footnote : {A : Type 0} → List (Entry A) → List (Entry A)
before_footnote left = on_states without_bracket (second_folded left)
