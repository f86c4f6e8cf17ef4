-- Laws of the parts that a block result refers to: they exist, also where there are more.
use Rattle.std.proofs.Common.{◌≡◌, true, false, ℕ, ◌<◌, ◌≤◌, List, ◌++◌, Option, Some, None, arith}
use Rattle.std.specs.Prelude.{IfSome, IsTrue}
use Rattle.std.specs.List.{AllByRecursion, filter_map, cons_option}
use Rattle.std.proofs.lemmas.List.Elements.{filter_map-append}
use Rattle.markdown_base.specs.declared.item.ItemBody.{ItemBody}
use Rattle.markdown_base.specs.BlockTree.{Numbered}
use Rattle.markdown_base.specs.Forest.{Forest, nil, node, Each, preorder, first_root}
use Rattle.markdown_base.specs.Item.{text_named, alignments_named, is_inline, is_childless, is_open}
use Rattle.markdown_base.specs.WellFormed.{run_character, PartCounts, PartsAreNamed, KeepsRules, AllKeepRules}
use Rattle.markdown_base.specs.WellFormed.{all_named}
use Rattle.markdown_base.proofs.ForestLemmas.{Throughout-weaker, All-append}

-- there are at least as many parts of each kind
pub record HasMore (few many : PartCounts) : Type 0 where
  pub texts : few.texts ≤ many.texts
  pub alignments : few.alignments ≤ many.alignments
  pub attributes : few.attributes ≤ many.attributes

-- a fact about an optional number, weakened
some_weaker : (o : Option ℕ) (p q : ℕ → Type 0) → ((ix : ℕ) → p ix → q ix) → IfSome o p → IfSome o q
some_weaker None p q h s = tt
some_weaker (Some ix) p q h s = h ix s

-- parts that exist still exist where there are more parts
pub named_more : (few many : PartCounts) (b : ItemBody) → HasMore few many → PartsAreNamed few b → PartsAreNamed many b
named_more few many b more n = record {
  text = some_weaker _ (λ ix. ix < few.texts) (λ ix. ix < many.texts) (λ ix k. omega (arith, k, more.texts)) n.text;
  alignments = some_weaker _ (λ ix. ix < few.alignments) (λ ix. ix < many.alignments)
      (λ ix k. omega (arith, k, more.alignments))
      n.alignments;
  attributes = some_weaker _ (λ ix. (1 ≤ ix) × (ix ≤ few.attributes)) (λ ix. (1 ≤ ix) × (ix ≤ many.attributes))
      (λ ix k. (k.0, omega (arith, k.1, more.attributes))) n.attributes;
}

-- a fact about the number that each item holds is one about all numbers that are held
all_named-Each : (name : ItemBody → Option ℕ) (p : ℕ → Type 0) (f : Forest Numbered)
    → Each (λ n. IfSome (name n.item.body) p) f
    → AllByRecursion p (all_named name f)
all_named-Each name p nil e = tt
all_named-Each name p (node a below after) e =
    let parts = filter_map-append (λ (n : Numbered). name n.item.body) (preorder below) (preorder after) in
    let others = All-append p (all_named name below) (all_named name after) (all_named-Each name p below e.1)
    (all_named-Each name p after e.2) in
    first_named (name a.item.body) (filter_map (λ (n : Numbered). name n.item.body) (preorder below ++ preorder after))
    e.0
    (rw parts others)
  where
    first_named : (o : Option ℕ) (others : List ℕ) → IfSome o p → AllByRecursion p others
        → AllByRecursion p (cons_option o others)
    first_named None others h a = a
    first_named (Some ix) others h a = (h, a)

-- the texts that are referred to exist
pub texts_there : (text : List ℕ) (counts : PartCounts) (f : Forest Numbered) → AllKeepRules text counts f
    → AllByRecursion (λ ix. ix < counts.texts) (all_named text_named f)
texts_there text counts f t =
    all_named-Each text_named (λ ix. ix < counts.texts) f
    (Throughout-weaker (λ a below after. KeepsRules text counts a below (first_root after)) _
    (λ a below after k. k.parts_are_named.text) f
    t)

-- likewise the alignments
pub alignments_there : (text : List ℕ) (counts : PartCounts) (f : Forest Numbered) → AllKeepRules text counts f
    → AllByRecursion (λ ix. ix < counts.alignments) (all_named alignments_named f)
alignments_there text counts f t =
    all_named-Each alignments_named (λ ix. ix < counts.alignments) f
    (Throughout-weaker (λ a below after. KeepsRules text counts a below (first_root after)) _
    (λ a below after k. k.parts_are_named.alignments) f t)

-- an inline item has no children, and one that is not open is no character of a delimiter run
pub inline_childless : (b : ItemBody) → is_inline b ≡ true → IsTrue (is_childless b)
inline_childless b h = grind (arith)

pub closed_no_run : (b : ItemBody) → is_open b ≡ false → run_character b ≡ None
closed_no_run b h = grind (arith)
