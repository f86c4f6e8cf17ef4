-- The part of a chain of an arena that has been read, and the rest.
use Rattle.std.specs.Prelude.{◌≡◌, ℕ, suc, ◌+◌, ◌≤◌, ◌^◌, Bool, List, [], ◌∷◌, length, Option, Some, None}
use Rattle.markdown_base.specs.declared.item.Item.{Item}
use Rattle.markdown_base.specs.Arena.{Arena}
use Rattle.markdown_base.specs.Forest.{Forest, nil, node}
use Rattle.markdown_document.specs.Document.{Part, TreeNode, part_of}
use Rattle.markdown_document.specs.Setting.{Setting}
use Rattle.markdown_document.specs.Tables.{Tables}
use Rattle.markdown_delims.specs.declared.extensions.Extensions.{Extensions}
use Rattle.markdown_delims.specs.declared.run.Characters.{Characters}
use Rattle.markdown_delims.specs.declared.run.Run.{Run}
use Rattle.markdown_delims.specs.Layers.{extensions_of}
use Rattle.markdown_delims.specs.OpenRuns.{Openers}
use Rattle.markdown_delims.specs.Pairing.{Read, done_read, waiting, FoundOpener, nearest_opener, layers, after_layers}
use Rattle.markdown_delims.specs.Pairing.{left_over, run_read}
use Rattle.markdown_delims.specs.PairingFinds.{run_finds}
use Rattle.markdown_delims.specs.RunSearch.{OpenRun}
use Rattle.markdown_delims.specs.Views.{View, parts_of, Cut, Kept, AllTouched, top}

-- a chain: the setting and the tables by which its items are read, which nodes may be written, the link to its first
-- node, and a number above those of its nodes
pub record Chain : Type 0 where
  pub setting : Setting
  pub tables : Tables
  pub touched : ℕ → Bool
  pub first : Option ℕ
  pub bound : ℕ

-- an arena as the chain reads it
abbrev pub view : Chain → Arena Item → View Part
view h s = parts_of (part_of h.setting.text h.tables) s.nodes

-- characters, the first one first, as trees before a chain
abbrev pub texts : List (TreeNode ℕ) → Forest (TreeNode ℕ) → Forest (TreeNode ℕ)
texts [] after = after
texts (v ∷ vs) after = node v nil (texts vs after)

-- characters, the last one first, as trees of a left list: a chain in reverse, whose nearest tree comes first
abbrev pub left_texts : List (TreeNode ℕ) → Forest (TreeNode ℕ) → Forest (TreeNode ℕ)
left_texts [] before = before
left_texts (x ∷ xs) before = node x nil (left_texts xs before)

-- what was read, as a left list
abbrev pub flat : List (Read ℕ) → Forest (TreeNode ℕ)
flat [] = nil
flat (done_read a below ∷ rs) = node a below (flat rs)
flat (waiting dropped run xs ∷ rs) = left_texts xs (flat rs)

-- the chain of a left list, followed by another chain
abbrev pub read_back : Forest (TreeNode ℕ) → Forest (TreeNode ℕ) → Forest (TreeNode ℕ)
read_back nil after = after
read_back (node a below before) after = read_back before (node a below after)

-- characters, the first one first, are nodes of consecutive numbers from this one on
abbrev pub FirstFrom : ℕ → List (TreeNode ℕ) → Type 0
FirstFrom number [] = Unit {0}
FirstFrom number (v ∷ vs) = (v.note ≡ number) × (v.part.block ≡ None) × FirstFrom (suc number) vs

-- the same for characters, the last one first
abbrev pub LastFrom : ℕ → List (TreeNode ℕ) → Type 0
LastFrom number [] = Unit {0}
LastFrom number (x ∷ xs) = (x.note ≡ number + length xs) × (x.part.block ≡ None) × LastFrom number xs

-- characters, the first one first, are those that are left of a closer
pub record AreFirst (c : Characters) (vs : List (TreeNode ℕ)) : Type 0 where
  pub from : FirstFrom c.number vs
  pub count : length vs ≡ c.count

-- characters, the last one first, are those that are left of an opener
pub record AreLast (c : Characters) (xs : List (TreeNode ℕ)) : Type 0 where
  pub from : LastFrom c.number xs
  pub count : length xs ≡ c.count

-- an open run of the stack is this one
pub record IsOpen (r : OpenRun) (dropped : Bool) (run : Run) (xs : List (TreeNode ℕ)) : Type 0 where
  pub dropped_is : r.dropped ≡ dropped
  pub run_is : r.opener.run ≡ run
  pub are : AreLast r.opener xs

-- the stack holds the open runs of what was read
abbrev pub AreOpen : List OpenRun → List (Read ℕ) → Type 0
AreOpen runs [] = runs ≡ []
AreOpen runs (done_read a below ∷ rs) = AreOpen runs rs
AreOpen [] (waiting dropped run xs ∷ rs) = ⊥
AreOpen (r ∷ runs) (waiting dropped run xs ∷ rs) = IsOpen r dropped run xs × AreOpen runs rs

-- what was read of the chain is this, and `last` is its last node; the rest follows from the link l on
pub record Stands (h : Chain) (s : Arena Item) (rs : List (Read ℕ)) (last l : Option ℕ)
    (rest : Forest (TreeNode ℕ)) : Type 0
  where
    pub cut : Cut h.touched (view h s) h.first (flat rs) l rest h.bound
    pub last_is : last ≡ top (flat rs)
    pub left_touched : AllTouched h.touched (flat rs)
    pub rest_touched : AllTouched h.touched rest
    pub few : length s.nodes ≤ 2 ^ 63

-- t is s with the chain read further, and nothing else changed
pub record Reads (h : Chain) (s t : Arena Item) (rs : List (Read ℕ)) (last l : Option ℕ)
    (rest : Forest (TreeNode ℕ)) : Type 0
  where
    pub stands : Stands h t rs last l rest
    pub kept : Kept h.touched s t

-- the rest begins with the characters of a closer
pub record StandsAt (h : Chain) (s : Arena Item) (rs : List (Read ℕ)) (last : Option ℕ) (closer : Characters)
    (vs : List (TreeNode ℕ)) (after : Forest (TreeNode ℕ)) : Type 0 where
  pub stands : Stands h s rs last (Some closer.number) (texts vs after)
  pub are : AreFirst closer vs

-- a closer's search finds this opener
pub record Finds (rs : List (Read ℕ)) (opener closer : Characters) (found : FoundOpener ℕ) : Type 0 where
  pub finds : nearest_opener closer.run rs nil ≡ Some found
  pub run_is : opener.run ≡ found.run
  pub are : AreLast opener found.characters

-- a closer pairs with the opener that its search finds
abbrev pub Pairs : Extensions → Characters → Characters → ℕ → Arena Item → Arena Item → ℕ → Option ℕ → Type 0
Pairs m opener closer last s t root rest =
    (h : Chain) (rs : List (Read ℕ)) (vs : List (TreeNode ℕ)) (after : Forest (TreeNode ℕ)) (found : FoundOpener ℕ)
    → extensions_of h.setting.rules.syntax ≡ m → StandsAt h s rs (Some last) closer vs after
    → Finds rs opener closer found
    → Reads h s t (after_layers found (layers h.setting found.run.delimiter found.characters vs found.inside))
    (Some root) rest (texts (layers h.setting found.run.delimiter found.characters vs found.inside).closing after)

-- there is a chain in which the closer's search finds that opener
pub record CanPair (m : Extensions) (opener closer : Characters) (last : ℕ) (s : Arena Item) : Type 0 where
  pub chain : Chain
  pub extensions_are : extensions_of chain.setting.rules.syntax ≡ m
  pub rs : List (Read ℕ)
  pub vs : List (TreeNode ℕ)
  pub after : Forest (TreeNode ℕ)
  pub found : FoundOpener ℕ
  pub stands : StandsAt chain s rs (Some last) closer vs after
  pub finds : Finds rs opener closer found

-- what was read of the chain is this, and the open runs are those of it
pub record IsRead (h : Chain) (s t : Arena Item) (rs : List (Read ℕ)) (runs : List OpenRun) (last l : Option ℕ)
    (rest : Forest (TreeNode ℕ)) : Type 0 where
  pub reads : Reads h s t rs last l rest
  pub are : AreOpen runs rs

-- the characters of a run that closes nothing more are read
abbrev pub Keeps : Characters → Arena Item → List OpenRun → List OpenRun → Option ℕ → Option ℕ → Type 0
Keeps left s runs runs' last' l =
    (h : Chain) (rs : List (Read ℕ)) (last : Option ℕ) (vs : List (TreeNode ℕ)) (after : Forest (TreeNode ℕ))
    → StandsAt h s rs last left vs after → AreOpen runs rs
    → IsRead h s s (left_over left.run vs rs) runs' last' l after

-- a run is read, and each search that finds was counted
pub record RunRead (h : Chain) (s t : Arena Item) (run : Run) (vs : List (TreeNode ℕ)) (rs : List (Read ℕ))
    (old new : Openers) (last l : Option ℕ) (after : Forest (TreeNode ℕ)) : Type 0 where
  pub is_read : IsRead h s t (run_read h.setting run.can_close run vs rs) new.runs last l after
  pub found : old.examined + run_finds h.setting run.can_close run vs rs ≤ new.examined

-- the characters of a run are read
abbrev pub ReadsRun : Extensions → Characters → Option ℕ → Arena Item → Arena Item → Openers → Openers → Option ℕ
    → Option ℕ
    → Type 0
ReadsRun m met last s t old new last' l =
    (h : Chain) (rs : List (Read ℕ)) (vs : List (TreeNode ℕ)) (after : Forest (TreeNode ℕ))
    → extensions_of h.setting.rules.syntax ≡ m → StandsAt h s rs last met vs after → AreOpen old.runs rs
    → RunRead h s t met.run vs rs old new last' l after

-- there is such a chain
pub record CanRead (m : Extensions) (met : Characters) (last : Option ℕ) (s : Arena Item) (runs : List OpenRun) : Type 0
  where
    pub chain : Chain
    pub extensions_are : extensions_of chain.setting.rules.syntax ≡ m
    pub rs : List (Read ℕ)
    pub vs : List (TreeNode ℕ)
    pub after : Forest (TreeNode ℕ)
    pub stands : StandsAt chain s rs last met vs after
    pub are : AreOpen runs rs
