-- A chain that is read tree by tree, whose runs are whole.
use Rattle.std.specs.Prelude.{◌≡◌, ℕ, zero, suc, ◌+◌, ◌*◌, ◌<◌, ◌≤◌, ◌^◌, Bool, true, false, List, [], Option}
use Rattle.std.specs.Prelude.{Some, None}
use Rattle.std.specs.Prelude.{IfSome, is_some, ◌∷◌, ◌||◌, ◌==◌, length}
use Rattle.markdown_base.specs.declared.item.Item.{Item}
use Rattle.markdown_base.specs.declared.item.ItemBody.{ItemBody}
use Rattle.markdown_base.specs.declared.node.Node.{Node}
use Rattle.markdown_base.specs.Arena.{Arena}
use Rattle.markdown_base.specs.ArenaForest.{links_of, Spells}
use Rattle.markdown_base.specs.BlockTree.{item_at}
use Rattle.markdown_base.specs.Forest.{Forest, nil, node, Each, roots, relabelled}
use Rattle.markdown_base.specs.WellFormed.{run_character}
use Rattle.markdown_document.specs.Counts.{comparisons_per_delimiter}
use Rattle.markdown_document.specs.Document.{Shape, unresolved, TreeNode, part_of, is_unresolved}
use Rattle.markdown_document.specs.Setting.{Setting}
use Rattle.markdown_document.specs.Tables.{Tables}
use Rattle.markdown_delims.specs.declared.extensions.Extensions.{Extensions}
use Rattle.markdown_delims.specs.declared.run.Characters.{Characters}
use Rattle.markdown_delims.specs.declared.run.Run.{Run}
use Rattle.markdown_delims.specs.ChainForest.{RisesFrom}
use Rattle.markdown_delims.specs.ChainStanding.{Chain, AreOpen, Stands, StandsAt}
use Rattle.markdown_delims.specs.Layers.{extensions_of, run_of}
use Rattle.markdown_delims.specs.OpenRuns.{Openers}
use Rattle.markdown_delims.specs.Pairing.{Read, first_texts, reads_from, runs_paired}
use Rattle.markdown_delims.specs.PairingFinds.{finds_from}
use Rattle.markdown_delims.specs.Views.{Rises, Kept}

-- a character of a run tells of at least one character
abbrev pub HasCount : ItemBody → Type 0
HasCount b = IfSome (run_character b) (λ c. 0 < c.count)

-- the same of a shape
abbrev pub ShowsCount : Shape → Type 0
ShowsCount (unresolved b) = HasCount b
ShowsCount other = Unit {0}

-- a chain without its first n trees
abbrev pub trees_after : ℕ → Forest (TreeNode ℕ) → Forest (TreeNode ℕ)
trees_after zero chain = chain
trees_after (suc n) nil = nil
trees_after (suc n) (node a below after) = trees_after n after

-- a chain begins with n characters, of consecutive numbers and without children
abbrev pub BeginsRun : ℕ → ℕ → Forest (TreeNode ℕ) → Type 0
BeginsRun number zero chain = Unit {0}
BeginsRun number (suc n) nil = ⊥
BeginsRun number (suc n) (node a below after) = (a.note ≡ number) × (below ≡ nil) × (a.part.block ≡ None)
    × BeginsRun (suc number) n after

-- a tree of a chain: if it begins a run, the chain begins with all of the run; otherwise it is not open
abbrev pub IsWhole : Option Run → TreeNode ℕ → (below after : Forest (TreeNode ℕ)) → Type 0
IsWhole None a below after = is_unresolved a.part.shape ≡ false
IsWhole (Some run) a below after = BeginsRun a.note run.length (node a below after)

-- each tree of a chain is such a tree
abbrev pub AreWhole : List ℕ → Forest (TreeNode ℕ) → Type 0
AreWhole text nil = Unit {0}
AreWhole text (node a below after) =
    ShowsCount a.part.shape × IsWhole (run_of text a.part) a below after × AreWhole text after

-- 1 where there is a run, and 0 otherwise
abbrev pub one_if : Bool → ℕ
one_if true = 1
one_if false = 0

-- the number of trees of a chain that begin a run
abbrev pub runs_in : List ℕ → Forest (TreeNode ℕ) → ℕ
runs_in text nil = 0
runs_in text (node a below after) = one_if (is_some (run_of text a.part)) + runs_in text after

-- the next trees became Texts
abbrev pub MakesLiteral : Characters → Arena Item → Arena Item → Type 0
MakesLiteral met s t =
    (h : Chain) (rs : List (Read ℕ)) (last : Option ℕ) (chain : Forest (TreeNode ℕ))
    → Stands h s rs last (Some met.number) chain → BeginsRun met.number met.count chain
    → StandsAt h t rs last met (first_texts h.setting.text met.count chain) (trees_after met.count chain)
    × Kept h.touched s t

-- there are such trees
pub record CanMakeLiteral (met : Characters) (s : Arena Item) : Type 0 where
  pub chain : Chain
  pub rs : List (Read ℕ)
  pub last : Option ℕ
  pub rest : Forest (TreeNode ℕ)
  pub stands : Stands chain s rs last (Some met.number) rest
  pub begins : BeginsRun met.number met.count rest
  pub some : 0 < met.count

-- what was read of a chain whose runs are whole is this, and the open runs are those of it
pub record StandsWhole (h : Chain) (s : Arena Item) (rs : List (Read ℕ)) (last l : Option ℕ)
    (rest : Forest (TreeNode ℕ)) (openers : Openers) : Type 0 where
  pub stands : Stands h s rs last l rest
  pub whole : AreWhole h.setting.text rest
  pub are : AreOpen openers.runs rs

-- a chain was read somewhat further: the pairing of the whole is the same, and each successful search was counted
pub record ReadFurther (h : Chain) (s t : Arena Item) (begun : List (Read ℕ)) (chain : Forest (TreeNode ℕ))
    (old new : Openers) (last l : Option ℕ) (from : ℕ) : Type 0 where
  pub rs : List (Read ℕ)
  pub rest : Forest (TreeNode ℕ)
  pub stands : StandsWhole h t rs last l rest new
  pub kept : Kept h.touched s t
  pub same : reads_from h.setting 0 rest rs ≡ reads_from h.setting 0 chain begun
  pub paid : new.potential + comparisons_per_delimiter * runs_in h.setting.text rest
      ≤ old.potential + comparisons_per_delimiter * runs_in h.setting.text chain
  pub found : old.examined + finds_from h.setting 0 chain begun ≤ new.examined + finds_from h.setting 0 rest rs
  pub further : Rises h.touched from rest h.bound

-- a tree is read: the first of the rest, or all characters of a run
abbrev pub ReadsTree : Extensions → List ℕ → ℕ → Option ℕ → Arena Item → Arena Item → Openers → Openers → Option ℕ
    → Option ℕ
    → Type 0
ReadsTree m text ix last s t old new last' l =
    (h : Chain) (rs : List (Read ℕ)) (chain : Forest (TreeNode ℕ)) → extensions_of h.setting.rules.syntax ≡ m
    → h.setting.text ≡ text → StandsWhole h s rs last (Some ix) chain old
    → ReadFurther h s t rs chain old new last' l (suc ix)

-- memory was refused: no more comparisons were made than the runs of the rest allow
abbrev pub PaysForTree : List ℕ → ℕ → Option ℕ → Arena Item → Openers → Openers → Type 0
PaysForTree text ix last s old new =
    (h : Chain) (rs : List (Read ℕ)) (chain : Forest (TreeNode ℕ)) → h.setting.text ≡ text
    → StandsWhole h s rs last (Some ix) chain old
    → new.potential ≤ old.potential + comparisons_per_delimiter * runs_in text chain

-- there is such a tree
pub record CanReadTree (m : Extensions) (text : List ℕ) (ix : ℕ) (last : Option ℕ) (s : Arena Item)
    (openers : Openers) : Type 0
  where
    pub chain : Chain
    pub extensions_are : extensions_of chain.setting.rules.syntax ≡ m
    pub text_is : chain.setting.text ≡ text
    pub rs : List (Read ℕ)
    pub rest : Forest (TreeNode ℕ)
    pub stands : StandsWhole chain s rs last (Some ix) rest openers
    pub room : openers.potential + comparisons_per_delimiter * runs_in text rest < 2 ^ 128

-- a number is among others
abbrev pub is_among : List ℕ → ℕ → Bool
is_among [] ix = false
is_among (x ∷ xs) ix = (x == ix) || is_among xs ix

-- no number of a chain occurs below one of its trees
abbrev pub NoneBelow : (ℕ → Bool) → Forest ℕ → Type 0
NoneBelow own nil = Unit {0}
NoneBelow own (node ix below after) = Each (λ n. own n ≡ false) below × NoneBelow own after

-- the nodes of a chain of an arena, each with the number of its node
abbrev pub labels : Setting → Tables → List (Node Item) → Forest ℕ → Forest (TreeNode ℕ)
labels s tables nodes f = relabelled (λ ix. record { note = ix; part = part_of s.text tables (item_at nodes ix) }) f

-- the links from `first` on lead through a chain of these nodes, whose numbers rise
pub record IsSpelled (nodes : List (Node Item)) (first : ℕ) (f : Forest ℕ) : Type 0 where
  pub spelled : Spells (links_of nodes) (Some first) f
  pub rising : RisesFrom 0 (roots f)
  pub apart : NoneBelow (is_among (roots f)) f

-- such a chain, whose runs are whole and have at most `count` characters
pub record IsChainAt (s : Setting) (tables : Tables) (nodes : List (Node Item)) (first count : ℕ)
    (f : Forest ℕ) : Type 0
  where
    pub is : IsSpelled nodes first f
    pub counted : runs_in s.text (labels s tables nodes f) ≤ count
    pub whole : AreWhole s.text (labels s tables nodes f)
    pub few : length nodes ≤ 2 ^ 63

-- the links from `first` on now lead through the chain with its runs paired, whose numbers rise, and only nodes of the
-- chain itself have changed
pub record IsPaired (s : Setting) (tables : Tables) (old new : Arena Item) (first : ℕ) (f : Forest ℕ) : Type 0 where
  pub forest : Forest ℕ
  pub spelled : Spells (links_of new.nodes) (Some first) forest
  pub pairs : labels s tables new.nodes forest ≡ runs_paired s (labels s tables old.nodes f)
  pub rising : RisesFrom 0 (roots forest)
  pub kept : Kept (is_among (roots f)) old new

-- the runs of any such chain are paired
abbrev pub PairsRuns : Extensions → List ℕ → Arena Item → Arena Item → (first count : ℕ) → Type 0
PairsRuns m text old new first count =
    (s : Setting) (tables : Tables) (f : Forest ℕ) → extensions_of s.rules.syntax ≡ m → s.text ≡ text
    → IsChainAt s tables old.nodes first count f
    → IsPaired s tables old new first f

-- each search that finds was counted
abbrev pub CountsFinds : Extensions → List ℕ → List (Node Item) → (first count : ℕ) → Openers → Openers → Type 0
CountsFinds m text nodes first count old new =
    (s : Setting) (tables : Tables) (f : Forest ℕ) → extensions_of s.rules.syntax ≡ m → s.text ≡ text
    → IsChainAt s tables nodes first count f
    → old.examined + finds_from s 0 (labels s tables nodes f) [] ≤ new.examined

-- no more comparisons were made than the runs of the chain allow
abbrev pub PaysForRuns : Extensions → List ℕ → List (Node Item) → (first count : ℕ) → Openers → Openers → Type 0
PaysForRuns m text nodes first count old new =
    (s : Setting) (tables : Tables) (f : Forest ℕ) → extensions_of s.rules.syntax ≡ m → s.text ≡ text
    → IsChainAt s tables nodes first count f
    → new.potential ≤ old.potential + comparisons_per_delimiter * runs_in text (labels s tables nodes f)

-- no run is open, and no comparison is accounted for in advance
pub record IsEmptied (openers : Openers) : Type 0 where
  pub runs : openers.runs ≡ []
  pub potential : openers.potential ≡ openers.examined

-- there is such a chain, and its comparisons can be counted
pub record CanPairAll (m : Extensions) (text : List ℕ) (nodes : List (Node Item)) (first count : ℕ)
    (openers : Openers) : Type 0
  where
    pub setting : Setting
    pub extensions_are : extensions_of setting.rules.syntax ≡ m
    pub text_is : setting.text ≡ text
    pub tables : Tables
    pub forest : Forest ℕ
    pub chain : IsChainAt setting tables nodes first count forest
    pub room : openers.examined + comparisons_per_delimiter * runs_in text (labels setting tables nodes forest)
        < 2 ^ 128
