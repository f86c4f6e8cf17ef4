-- The number of searches by closers that find an opener when a chain is paired as in `Pairing`.
use Rattle.std.specs.Prelude.{ℕ, zero, suc, ◌+◌, ◌-◌, Bool, true, false, List, [], ◌∷◌, length, Option, Some, None}
use Rattle.markdown_base.specs.Forest.{Forest, nil, node}
use Rattle.markdown_document.specs.Document.{TreeNode}
use Rattle.markdown_document.specs.Setting.{Setting}
use Rattle.markdown_document.specs.Waiting.{as_closed}
use Rattle.markdown_delims.specs.declared.run.Run.{Run}
use Rattle.markdown_delims.specs.Layers.{run_of}
use Rattle.markdown_delims.specs.Pairing.{Read, done_read, FoundOpener, nearest_opener, layers, after_layers}
use Rattle.markdown_delims.specs.Pairing.{run_read, first_texts}
use Rattle.markdown_delims.specs.Quotes.{with_quotes}

-- a search that finds an opener counts one; then a closer with characters left searches again
abbrev pub search_finds : {A : Type 0} → Setting → (again : List (TreeNode A) → List (Read A) → ℕ) → List (TreeNode A)
    → Option (FoundOpener A) → ℕ
search_finds s again vs None = 0
search_finds s again vs (Some f) =
    suc (again (layers s f.run.delimiter f.characters vs f.inside).closing
    (after_layers f (layers s f.run.delimiter f.characters vs f.inside)))

-- the number of successful searches by a closer's characters
unfoldable pub closer_finds : {A : Type 0} → Setting → ℕ → Run → List (TreeNode A) → List (Read A) → ℕ
closer_finds s turns closer [] rs = 0
closer_finds s zero closer (v ∷ vs) rs = 0
closer_finds s (suc turns) closer (v ∷ vs) rs =
    search_finds s (λ left others. closer_finds s turns closer left others) (v ∷ vs) (nearest_opener closer rs nil)

-- the number of successful searches by a run
abbrev pub run_finds : {A : Type 0} → Setting → (closes : Bool) → Run → List (TreeNode A) → List (Read A) → ℕ
run_finds s true run vs rs = closer_finds s (length vs) run vs rs
run_finds s false run vs rs = 0

-- the number of successful searches from a tree on, which may begin a run
abbrev pub tree_finds : {A : Type 0} → Setting → (go_on : ℕ → List (Read A) → ℕ) → TreeNode A
    → (below after : Forest (TreeNode A)) → List (Read A) → Option Run → ℕ
tree_finds s go_on a below after rs None = go_on 0 (done_read (as_closed s.text a) below ∷ rs)
tree_finds s go_on a below after rs (Some run) =
    run_finds s run.can_close run (first_texts s.text run.length (node a below after)) rs
    + go_on (run.length - 1) (run_read s run.can_close run (first_texts s.text run.length (node a below after)) rs)

-- the number of successful searches in a chain; the first `skip` trees belong to a run that was read already
unfoldable pub finds_from : {A : Type 0} → Setting → ℕ → Forest (TreeNode A) → List (Read A) → ℕ
finds_from s skip nil rs = 0
finds_from s (suc skip) (node a below after) rs = finds_from s skip after rs
finds_from s zero (node a below after) rs =
    tree_finds s (λ skip others. finds_from s skip after others) a below after rs (run_of s.text a.part)

-- the number of successful searches when `paired` pairs a chain
unfoldable pub finds_in : {A : Type 0} → Setting → Forest (TreeNode A) → ℕ
finds_in s chain = finds_from s 0 (with_quotes chain) []
