-- Laws of pairing, in a reader's words.
use Rattle.std.specs.Prelude.{◌≡◌, ◌≢◌, ℕ, zero, suc, ◌-◌, ◌≤◌, ⊤, Bool, true, false, List, [], ◌∷◌, Option, Some, None}
use Rattle.std.specs.Prelude.{IfSome, IfNone}
use Rattle.markdown_base.specs.Forest.{Forest, nil, node, Each, Throughout}
use Rattle.markdown_document.specs.Document.{Shape, leaf, TreeNode, Plain, is_unresolved}
use Rattle.markdown_document.specs.TreeNodes.{Begins, is_plain, weight, annotate, annotated}
use Rattle.markdown_document.specs.Setting.{Setting}
use Rattle.markdown_delims.specs.declared.run.Delimiter.{Delimiter}
use Rattle.markdown_delims.specs.declared.run.Delimiter.TheVariants.{Star, Underscore, Tilde, Caret}
use Rattle.markdown_delims.specs.declared.run.Run.{Run}
use Rattle.markdown_delims.specs.Layers.{run_of}
use Rattle.markdown_delims.specs.MayPair.{may_pair}
use Rattle.markdown_delims.specs.Pairing.{Read, done_read, waiting, nearest_opener, paired, NothingOpen}

-- a chain with the forest below each of its trees changed
abbrev pub below_trees : {A : Type 0} → (Forest (TreeNode A) → Forest (TreeNode A)) → Forest (TreeNode A) → Forest
    (TreeNode A)
below_trees change nil = nil
below_trees change (node a below after) = node a (change below) (below_trees change after)

-- pairing leaves nothing of its chain open
abbrev pub PairingClosedLaw : Type 0 → Type 0
PairingClosedLaw A = (s : Setting) (chain : Forest (TreeNode A)) → NothingOpen (paired s chain)

-- a chain and the chains below it may be resolved in either order, if a change of a chain in which nothing is open
-- changes only what is below its trees
abbrev pub PairingOrderLaw : Type 0 → Type 0
PairingOrderLaw A =
    (s : Setting) (change : Forest (TreeNode A) → Forest (TreeNode A)) → change nil ≡ nil
    → ((f : Forest (TreeNode A)) → NothingOpen f → change f ≡ below_trees change f)
    → (chain : Forest (TreeNode A)) → paired s (below_trees change chain) ≡ below_trees change (paired s chain)

-- a closer pairs only with a run with which it may pair
abbrev pub JoinsLaw : Type 0 → Type 0
JoinsLaw A =
    (closer : Run) (rs : List (Read A)) (inside : Forest (TreeNode A))
    → IfSome (nearest_opener closer rs inside) (λ f. may_pair f.run closer ≡ true)

-- no open run that is not dropped may pair with a closer
abbrev pub NonePairs : {A : Type 0} → Run → List (Read A) → Type 0
NonePairs closer [] = ⊤
NonePairs closer (done_read a below ∷ rs) = NonePairs closer rs
NonePairs closer (waiting dropped run xs ∷ rs) = (dropped ≡ false → may_pair run closer ≡ false) × NonePairs closer rs

-- no open run that is not dropped may pair with a closer whose search finds nothing
abbrev pub MissesNoneLaw : Type 0 → Type 0
MissesNoneLaw A =
    (closer : Run) (rs : List (Read A)) (inside : Forest (TreeNode A))
    → IfNone (nearest_opener closer rs inside) (NonePairs closer rs)

-- a run, and its byte offset
pub record RunAt : Type 0 where
  pub start : ℕ
  pub run : Run

-- a run with its byte offset, if there is a run
abbrev pub run_at : (start : ℕ) → Option Run → Option RunAt
run_at start None = None
run_at start (Some run) = Some (record { start = start; run = run })

-- the number of characters of a run after its first
abbrev pub further : Option RunAt → ℕ
further None = 0
further (Some r) = r.run.length - 1

-- no run
abbrev pub no_run : {A : Type 0} → A → Option RunAt
no_run a = None

-- a chain in which the note of each character of a run is that run, and no other node, at any depth, has a note; the
-- first `more` trees continue the run `before`
abbrev pub with_runs : {A : Type 0} → Setting → ℕ → Option RunAt → Forest (TreeNode A) → Forest (TreeNode
    (Option RunAt))
with_runs s more before nil = nil
with_runs s (suc more) before (node a below after) =
    node (annotate (λ _. before) a) (annotated no_run below) (with_runs s more before after)
with_runs s zero before (node a below after) =
    let here : Option RunAt = run_at a.part.range.start (run_of s.text a.part) in
    node (annotate (λ _. here) a) (annotated no_run below) (with_runs s (further here) here after)

-- a chain without its notes
abbrev pub without_notes : {A : Type 0} → Forest (TreeNode A) → Forest Plain
without_notes chain = annotated (λ _. tt) chain

-- the run of a tree that is a character that remained text
abbrev pub run_if_text : Shape → Option RunAt → Option RunAt
run_if_text (leaf e origins) r = r
run_if_text other r = None

-- the run of a character that remained text
abbrev pub kept_run : TreeNode (Option RunAt) → Option RunAt
kept_run a = run_if_text a.part.shape a.note

-- the delimiters whose runs a failed search can drop
abbrev pub is_tilde_or_caret : Delimiter → Bool
is_tilde_or_caret Star = false
is_tilde_or_caret Underscore = false
is_tilde_or_caret Tilde = true
is_tilde_or_caret Caret = true

-- two runs may not pair, if the earlier one is of `*` or `_` and can open, and the later one can close
abbrev pub DoNotPair : (earlier later : Option RunAt) → Type 0
DoNotPair (Some p) (Some q) =
    p.start ≢ q.start → is_tilde_or_caret p.run.delimiter ≡ false → p.run.can_open ≡ true → q.run.can_close ≡ true
    → may_pair p.run q.run ≡ false
DoNotPair _ _ = ⊤

-- this holds for one run and each run that has a character in a chain
abbrev pub NonePairsLater : (earlier : Option RunAt) → Forest (TreeNode (Option RunAt)) → Type 0
NonePairsLater r nil = ⊤
NonePairsLater r (node a below after) = DoNotPair r (kept_run a) × NonePairsLater r after

-- this holds for any two runs that have characters in the same chain, at any depth
abbrev pub NoneMissed : Forest (TreeNode (Option RunAt)) → Type 0
NoneMissed chain = Throughout (λ a below after. NonePairsLater (kept_run a) after) chain

-- pairing misses no pair: of two runs that may pair and both keep characters, some pair encloses those of one and not
-- those of the other. Having the runs as tags changes nothing else
abbrev pub NoneMissedLaw : Type 0 → Type 0
NoneMissedLaw A =
    (s : Setting) (chain : Forest (TreeNode A)) → NoneMissed (paired s (with_runs s 0 None chain))
    × (without_notes (paired s (with_runs s 0 None chain)) ≡ without_notes (paired s chain))

-- each node that is made has the block of a node of the chain, and is not open: so a test that such nodes pass holds
-- for each node at every depth, if it held before
abbrev pub KeepsLaw : Type 0 → Type 0
KeepsLaw A =
    (passes : TreeNode A → Bool)
    → ((a b : TreeNode A) → passes a ≡ true → b.part.block ≡ a.part.block → is_unresolved b.part.shape ≡ false
    → passes b ≡ true)
    → (s : Setting) (chain : Forest (TreeNode A))
    → Each (λ a. passes a ≡ true) chain → Each (λ a. passes a ≡ true) (paired s chain)

-- a chain whose first tree reads as more than what is below it begins with an event once it is paired
abbrev pub PairingBeginsLaw : Type 0 → Type 0
PairingBeginsLaw A =
    (s : Setting) (a : TreeNode A) (below after : Forest (TreeNode A)) → is_plain a.part.shape ≡ false
    → Begins (paired s (node a below after))

-- pairing does not increase the weight of a chain
abbrev pub PairingWeightLaw : Type 0 → Type 0
PairingWeightLaw A = (s : Setting) (chain : Forest (TreeNode A)) → weight (paired s chain) ≤ weight chain

-- pairing does not depend on notes
abbrev pub PairingNoteLaw : Type 0 → Type 0 → Type 0
PairingNoteLaw A B =
    (f : A → B) (s : Setting) (chain : Forest (TreeNode A)) → paired s (annotated f chain) ≡ annotated f
    (paired s chain)
