-- An opener's characters in an arena while they become nodes around a chain.
use Rattle.std.specs.Prelude.{◌≡◌, ℕ, ◌+◌, ◌-◌, ◌≤◌, ◌^◌, List, length, Option, Some}
use Rattle.markdown_base.specs.declared.item.Item.{Item}
use Rattle.markdown_base.specs.declared.item.ItemBody.{ItemBody}
use Rattle.markdown_base.specs.Arena.{Arena, sibling_of}
use Rattle.markdown_base.specs.Forest.{Forest, nil, node}
use Rattle.markdown_document.specs.Document.{Shape, TreeNode, shape_of}
use Rattle.markdown_document.specs.Tables.{Tables}
use Rattle.markdown_delims.specs.declared.extensions.Extensions.{Extensions}
use Rattle.markdown_delims.specs.declared.run.Characters.{Characters}
use Rattle.markdown_delims.specs.ChainStanding.{Chain, view, texts, left_texts, AreFirst, AreLast}
use Rattle.markdown_delims.specs.Layers.{extensions_of}
use Rattle.markdown_delims.specs.Pairing.{Layers, layers}
use Rattle.markdown_delims.specs.Views.{Holds, Rises, Cut, Kept, AllTouched, IsMade}

-- a body reads so, whatever items refer to, and is made by pairing
pub record IsLayer (b : ItemBody) (shape : List ℕ → Shape) : Type 0 where
  pub reads : (tables : Tables) (source : List ℕ) → shape_of tables source b ≡ shape source
  pub made : IsMade b

-- what precedes an opener, its characters, the last one first, what lies between it and its closer, the closer's
-- characters, the first one first, and what follows it
pub record ChainParts : Type 0 where
  pub before : Forest (TreeNode ℕ)
  pub opening : List (TreeNode ℕ)
  pub inside : Forest (TreeNode ℕ)
  pub closing : List (TreeNode ℕ)
  pub after : Forest (TreeNode ℕ)

-- the opener's characters precede the link to what lies inside; the closer is apart
pub record Encloses (h : Chain) (g : ChainParts) (s : Arena Item) (opener closer : Characters)
    (inner : Option ℕ) : Type 0
  where
    pub opener_are : AreLast opener g.opening
    pub closer_are : AreFirst closer g.closing
    pub hi : ℕ
    pub low : hi ≤ closer.number
    pub cut : Cut h.touched (view h s) h.first (left_texts g.opening g.before) inner g.inside hi
    pub right : Holds (view h s) (Some closer.number) (texts g.closing g.after)
    pub rises : Rises h.touched closer.number (texts g.closing g.after) h.bound
    pub left_touched : AllTouched h.touched (left_texts g.opening g.before)
    pub inside_touched : AllTouched h.touched g.inside
    pub right_touched : AllTouched h.touched (texts g.closing g.after)
    pub few : length s.nodes ≤ 2 ^ 63

-- the link to what follows the last of an opener's characters
abbrev pub inner_of : Characters → Arena Item → Option ℕ
inner_of opener s = sibling_of s.nodes (opener.number + (opener.count - 1))

-- there is such an opener
pub record CanEnclose (m : Extensions) (opener closer : Characters) (s : Arena Item) : Type 0 where
  pub chain : Chain
  pub extensions_are : extensions_of chain.setting.rules.syntax ≡ m
  pub around : ChainParts
  pub encloses : Encloses chain around s opener closer (inner_of opener s)

-- the chain, cut after the outermost layer
pub record IsEnclosed (h : Chain) (g : ChainParts) (s t : Arena Item) (made : Layers ℕ) (root : ℕ) (rest : Option ℕ)
    : Type 0
  where
    pub whole : TreeNode ℕ
    pub inside : Forest (TreeNode ℕ)
    pub cut : Cut h.touched (view h t) h.first (node whole inside (left_texts made.opening g.before)) rest
        (texts made.closing g.after) h.bound
    pub whole_is : made.whole ≡ node whole inside nil
    pub last : whole.note ≡ root
    pub left_touched : AllTouched h.touched (node whole inside (left_texts made.opening g.before))
    pub right_touched : AllTouched h.touched (texts made.closing g.after)
    pub kept : Kept h.touched s t

-- the characters pair, and enclose what lies inside
abbrev pub EnclosesAll : Extensions → Characters → Characters → Arena Item → Arena Item → ℕ → Option ℕ → Type 0
EnclosesAll m opener closer s t root rest =
    (h : Chain) (g : ChainParts) → extensions_of h.setting.rules.syntax ≡ m → Encloses h g s opener closer
    (inner_of opener s)
    → IsEnclosed h g s t (layers h.setting opener.run.delimiter g.opening g.closing g.inside) root rest
