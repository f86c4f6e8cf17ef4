-- Pairing of a chain: it is read from left to right, and a closer encloses what lies between its opener and itself
-- (CommonMark 6.2, and the appendix's "process emphasis").
use Rattle.std.specs.Prelude.{◌≡◌, ℕ, zero, suc, ◌-◌, ⊤, Bool, true, false, not, ◌&&◌, ◌||◌, List, [], ◌∷◌, map}
use Rattle.std.specs.Prelude.{length, Option, Some, None}
use Rattle.markdown_base.specs.Forest.{Forest, nil, node}
use Rattle.markdown_document.specs.Document.{TreeNode, as_text, is_unresolved}
use Rattle.markdown_document.specs.Setting.{Setting}
use Rattle.markdown_document.specs.Waiting.{as_closed}
use Rattle.markdown_delims.specs.declared.run.Delimiter.{Delimiter}
use Rattle.markdown_delims.specs.declared.run.Run.{Run}
use Rattle.markdown_delims.specs.Layers.{extensions_of, layer_of_one, layer_of_two, spanned, run_of}
use Rattle.markdown_delims.specs.MayPair.{drops, may_pair}
use Rattle.markdown_delims.specs.Quotes.{with_quotes}

-- what was read of a chain: a tree; or a run that is still open, dropped or not, with its characters that are not
-- paired, the last one first
pub data Read (A : Type 0) : Type 0 where
  done_read : TreeNode A → Forest (TreeNode A) → Read A
  waiting : (dropped : Bool) → Run → List (TreeNode A) → Read A

-- characters that remain text, the last one first, before a chain: each is a tree of its own
abbrev pub texts_before : {A : Type 0} → List (TreeNode A) → Forest (TreeNode A) → Forest (TreeNode A)
texts_before [] chain = chain
texts_before (x ∷ xs) chain = texts_before xs (node x nil chain)

-- the characters as trees that were read, before what was read already: they no longer open
abbrev pub characters_done : {A : Type 0} → List (TreeNode A) → List (Read A) → List (Read A)
characters_done [] rs = rs
characters_done (x ∷ xs) rs = done_read x nil ∷ characters_done xs rs

-- the chain that was read, the nearest tree first, followed by another chain; a run that is still open becomes text
abbrev pub read_trees : {A : Type 0} → List (Read A) → Forest (TreeNode A) → Forest (TreeNode A)
read_trees [] after = after
read_trees (done_read a below ∷ rs) after = read_trees rs (node a below after)
read_trees (waiting dropped run xs ∷ rs) after = read_trees rs (texts_before xs after)

-- an opener that was found, with what lies between it and its closer, and what precedes it
pub record FoundOpener (A : Type 0) : Type 0 where
  pub inside : Forest (TreeNode A)
  pub run : Run
  pub characters : List (TreeNode A)
  pub before : List (Read A)

-- the opener that was found, if it may be taken, and otherwise the result of the further search
abbrev pub found_if : {A : Type 0} → Bool → FoundOpener A → Option (FoundOpener A) → Option (FoundOpener A)
found_if true found further = Some found
found_if false found further = further

-- the nearest open run that is not dropped and may pair; `inside` is what the search has passed already
abbrev pub nearest_opener : {A : Type 0} → Run → List (Read A) → Forest (TreeNode A) → Option (FoundOpener A)
nearest_opener closer [] inside = None
nearest_opener closer (done_read a below ∷ rs) inside = nearest_opener closer rs (node a below inside)
nearest_opener closer (waiting dropped run xs ∷ rs) inside =
    found_if (not dropped && may_pair run closer) (record { inside = inside; run = run; characters = xs; before = rs })
    (nearest_opener closer rs (texts_before xs inside))

-- a part of what was read, after a failed search by a closer of this character
abbrev pub drop_read : {A : Type 0} → Delimiter → Read A → Read A
drop_read d (done_read a below) = done_read a below
drop_read d (waiting dropped run xs) = waiting (dropped || drops d run.delimiter) run xs

-- layers around a chain, and the characters of the opener and of the closer that are left
pub record Layers (A : Type 0) : Type 0 where
  pub whole : Forest (TreeNode A)
  pub opening : List (TreeNode A)
  pub closing : List (TreeNode A)

-- the characters of an opener, the last one first, pair with those of a closer from the inside out: two at a time while
-- both have two, and then one
abbrev pub layers : {A : Type 0} → Setting → Delimiter → (opener closer : List (TreeNode A)) → Forest (TreeNode A)
    → Layers A
layers s d [] vs inside = record { whole = inside; opening = []; closing = vs }
layers s d (x ∷ xs) [] inside = record { whole = inside; opening = x ∷ xs; closing = [] }
layers s d (x ∷ y ∷ xs) (v ∷ w ∷ vs) inside =
    layers s d xs vs (node (spanned s.text (layer_of_two (extensions_of s.rules.syntax) d) y w) inside nil)
layers s d (x ∷ xs) (v ∷ vs) inside =
    let outer : TreeNode _ = spanned s.text (layer_of_one (extensions_of s.rules.syntax) d) x v in
    record { whole = node outer inside nil; opening = xs; closing = vs }

-- the trees of a chain, added to what was read
abbrev pub trees_done : {A : Type 0} → Forest (TreeNode A) → List (Read A) → List (Read A)
trees_done nil rs = rs
trees_done (node a below after) rs = trees_done after (done_read a below ∷ rs)

-- the opener's characters that did not pair stay open
abbrev pub still_waiting : {A : Type 0} → Run → List (TreeNode A) → List (Read A) → List (Read A)
still_waiting run [] rs = rs
still_waiting run (x ∷ xs) rs = waiting false run (x ∷ xs) ∷ rs

-- a list in reverse, before others
abbrev pub last_first : {X : Type 0} → List X → List X → List X
last_first [] others = others
last_first (x ∷ xs) others = last_first xs (x ∷ others)

-- characters that cannot close, or whose search failed, open if they can, and otherwise become text
abbrev pub opened_if : {A : Type 0} → (opens : Bool) → Run → List (TreeNode A) → List (Read A) → List (Read A)
opened_if true run xs rs = waiting false run xs ∷ rs
opened_if false run xs rs = characters_done xs rs

-- what is left of a run that closes nothing more: it opens if it can
abbrev pub left_over : {A : Type 0} → Run → List (TreeNode A) → List (Read A) → List (Read A)
left_over run vs rs = opened_if run.can_open run (last_first vs []) rs

-- after a pair: its layers, and what is left of its opener
abbrev pub after_layers : {A : Type 0} → FoundOpener A → Layers A → List (Read A)
after_layers f made = trees_done made.whole (still_waiting f.run made.opening f.before)

-- after a search: a closer with characters left searches again
abbrev pub after_search : {A : Type 0} → Setting → (again : List (TreeNode A) → List (Read A) → List (Read A)) → Run
    → List (TreeNode A) → List (Read A) → Option (FoundOpener A) → List (Read A)
after_search s again closer vs rs None = left_over closer vs (map (drop_read closer.delimiter) rs)
after_search s again closer vs rs (Some f) =
    again (layers s f.run.delimiter f.characters vs f.inside).closing
    (after_layers f (layers s f.run.delimiter f.characters vs f.inside))

-- the searches of a closer while it has characters left; each that succeeds uses at least one character, so one turn
-- for each is enough
unfoldable pub closed_by : {A : Type 0} → Setting → ℕ → Run → List (TreeNode A) → List (Read A) → List (Read A)
closed_by s turns closer [] rs = rs
closed_by s zero closer (v ∷ vs) rs = left_over closer (v ∷ vs) rs
closed_by s (suc turns) closer (v ∷ vs) rs =
    after_search s (λ left others. closed_by s turns closer left others) closer (v ∷ vs) rs
    (nearest_opener closer rs nil)

-- a run is read: it closes if it can, and then opens if it can
abbrev pub run_read : {A : Type 0} → Setting → (closes : Bool) → Run → List (TreeNode A) → List (Read A) → List (Read A)
run_read s true run vs rs = closed_by s (length vs) run vs rs
run_read s false run vs rs = left_over run vs rs

-- the first characters of a chain, as Texts
abbrev pub first_texts : {A : Type 0} → List ℕ → ℕ → Forest (TreeNode A) → List (TreeNode A)
first_texts source zero chain = []
first_texts source (suc n) nil = []
first_texts source (suc n) (node a below after) = as_text source a ∷ first_texts source n after

-- a tree is read, or all of a run if the tree is its first character; a tree that is open and not part of a run becomes
-- a Text
abbrev pub after_tree : {A : Type 0} → Setting → (go_on : ℕ → List (Read A) → List (Read A)) → TreeNode A
    → (below after : Forest (TreeNode A)) → List (Read A) → Option Run → List (Read A)
after_tree s go_on a below after rs None = go_on 0 (done_read (as_closed s.text a) below ∷ rs)
after_tree s go_on a below after rs (Some run) =
    go_on (run.length - 1) (run_read s run.can_close run (first_texts s.text run.length (node a below after)) rs)

-- a chain is read from left to right; the first `skip` trees belong to a run that was read already
unfoldable pub reads_from : {A : Type 0} → Setting → ℕ → Forest (TreeNode A) → List (Read A) → List (Read A)
reads_from s skip nil rs = rs
reads_from s (suc skip) (node a below after) rs = reads_from s skip after rs
reads_from s zero (node a below after) rs =
    after_tree s (λ skip others. reads_from s skip after others) a below after rs (run_of s.text a.part)

-- a chain with its runs paired: at its end all open runs become text
unfoldable pub runs_paired : {A : Type 0} → Setting → Forest (TreeNode A) → Forest (TreeNode A)
runs_paired s chain = read_trees (reads_from s 0 chain []) nil

-- a chain resolved after pass one: its quotes and its last break, and then its runs
unfoldable pub paired : {A : Type 0} → Setting → Forest (TreeNode A) → Forest (TreeNode A)
paired s chain = runs_paired s (with_quotes chain)

-- no tree of a chain is open
abbrev pub NothingOpen : {A : Type 0} → Forest (TreeNode A) → Type 0
NothingOpen nil = ⊤
NothingOpen (node a below after) = (is_unresolved a.part.shape ≡ false) × NothingOpen after
