-- No link contains a link other than an autolink (CommonMark 6.3), at any depth. Autolinks to addresses are among these
-- where addresses are on.
use Rattle.std.specs.Prelude.{◌≡◌, ⊤, Bool, true, false, List, [], ◌∷◌, ◌++◌}
use Rattle.markdown_base.specs.Event.{TagView, link}
use Rattle.markdown_base.specs.Forest.{Forest, nil, Each, Throughout}
use Rattle.markdown_base.specs.declared.tag.LinkType.{LinkType}
use Rattle.markdown_base.specs.declared.tag.LinkType.TheVariants as kind
use Rattle.markdown_document.specs.Document.{Shape, enclosed, TreeNode}
use Rattle.markdown_document.specs.Setting.{ReferenceState}
use Rattle.markdown_brackets.specs.BracketDecision.{BracketContext, Progress}
use Rattle.markdown_brackets.specs.LeftList.{Entry, done, waits, trees_onto}
use Rattle.markdown_brackets.specs.ReadChain.{Reader, begun, read_chain}

-- the link is an autolink: to a URI or, where addresses are on, to an address
abbrev pub is_autolink : (addresses : Bool) → LinkType → Bool
is_autolink addresses kind.Autolink = true
is_autolink addresses kind.Email = addresses
is_autolink addresses other = false

-- the tag opens no link other than an autolink; no other tag is a link
abbrev pub OpensNoLink : (addresses : Bool) → TagView → Type 0
OpensNoLink addresses (link v) = is_autolink addresses v.kind ≡ true
OpensNoLink addresses other = ⊤

-- a tree of this shape is not a link other than an autolink
abbrev pub IsNoLink : (addresses : Bool) → Shape → Type 0
IsNoLink addresses (enclosed tag origins) = OpensNoLink addresses tag
IsNoLink addresses other = ⊤

-- no tree is such a link, at any depth
abbrev pub IsFreeOfLinks : {A : Type 0} → (addresses : Bool) → Forest (TreeNode A) → Type 0
IsFreeOfLinks addresses f = Each (λ a. IsNoLink addresses a.part.shape) f

-- if the tag is that of a link, no such link is below it
abbrev pub ClosesOverNone : {A : Type 0} → (addresses : Bool) → TagView → Forest (TreeNode A) → Type 0
ClosesOverNone addresses (link v) below = IsFreeOfLinks addresses below
ClosesOverNone addresses other below = ⊤

-- if the shape is that of a link, no such link is below it
abbrev pub HasNoneBelow : {A : Type 0} → (addresses : Bool) → Shape → Forest (TreeNode A) → Type 0
HasNoneBelow addresses (enclosed tag origins) below = ClosesOverNone addresses tag below
HasNoneBelow addresses other below = ⊤

-- no link contains such a link, at any depth
abbrev pub HasNoLinkInLink : {A : Type 0} → (addresses : Bool) → Forest (TreeNode A) → Type 0
HasNoLinkInLink addresses f = Throughout (λ a below after. HasNoneBelow addresses a.part.shape below) f

-- all entries are complete trees, without such links
abbrev pub AreFreeTrees : {A : Type 0} → (addresses : Bool) → List (Entry A) → Type 0
AreFreeTrees addresses [] = ⊤
AreFreeTrees addresses (done a below ∷ more) =
    IsNoLink addresses a.part.shape × IsFreeOfLinks addresses below × AreFreeTrees addresses more
AreFreeTrees addresses (waits m a ∷ more) = ⊥

-- a left list with such trees added
pub record HasMoreTrees {A : Type 0} (addresses : Bool) (left left' : List (Entry A)) : Type 0 where
  pub more : List (Entry A)
  pub free : AreFreeTrees addresses more
  pub grown : left' ≡ more ++ left

-- a chain without such links is read so that no link contains one, if the rule for items other than brackets adds trees
-- without them
abbrev pub NoLinkLaw : Type 0 → Type 0
NoLinkLaw A = (addresses : Bool) (w : BracketContext) (others : Reader A)
    → ((a : TreeNode A) (below rest : Forest (TreeNode A)) (p : Progress A) → IsNoLink addresses a.part.shape
    → IsFreeOfLinks addresses below
    → HasMoreTrees addresses p.left (others a below rest p).left)
    → (chain : Forest (TreeNode A)) (state : ReferenceState) → IsFreeOfLinks addresses chain
    → HasNoLinkInLink addresses (trees_onto (read_chain w others chain (begun state)).left nil)
