-- The items of a chain in order, by their numbers and in the text; and the links that lead through them.
use Rattle.markdown_resolver.proofs.ChainLeadsLemmas.{no_block}
use Rattle.std.proofs.Common.{◌≡◌, ℕ, suc, ◌<◌, ◌≤◌, Bool, true, false, List, [], ◌∷◌, length, Option, Some, None, refl}
use Rattle.std.proofs.Common.{sym, ◌∙◌, subst, arith, if◌then◌else◌, nat_le}
use Rattle.std.proofs.lemmas.Bool.Decides.{nat_tests}
use Rattle.std.specs.Prelude.{⊤, IfSome}
use Rattle.std.specs.Option.{option_map}
use Rattle.markdown_base.specs.Arena.{sibling_of}
use Rattle.markdown_base.specs.ArenaForest.{Spells, forest_at, links_of}
use Rattle.markdown_base.specs.BlockTree.{Numbered, numbered, item_at}
use Rattle.markdown_base.specs.Forest.{Forest, nil, node, Each, relabelled, roots}
use Rattle.markdown_base.specs.Item.{is_block}
use Rattle.markdown_base.specs.declared.item.Item.{Item}
use Rattle.markdown_base.specs.declared.node.Node.{Node}
use Rattle.markdown_base.proofs.ArenaForestLemmas.{opens}
use Rattle.markdown_document.specs.ItemRules.{ComesBefore}
use Rattle.markdown_document.specs.Places.{tree_node_at}
use Rattle.markdown_document.specs.PlacedNodes.{IsSameAt, IsPlaced}
use Rattle.markdown_document.specs.Tables.{Tables}
use Rattle.markdown_document.specs.Totals.{total, same}
use Rattle.markdown_document.proofs.TablesLemmas.{same-refl}
use Rattle.markdown_spans.specs.ChainInArena.{LeadsThrough}
use Rattle.markdown_resolver.specs.Chains.{CanResolve}
use Rattle.markdown_resolver.specs.Kept.{IsQuietBelow}
use Rattle.markdown_resolver.specs.Rewritten.{begun_item, first_past, numbered_past_byte}

-- numbers are past a number, and their items past a byte offset
pub record StandsPast (nodes : List (Node Item)) (low byte n : ℕ) : Type 0 where
  pub number : low < n
  pub start : byte ≤ (item_at nodes n).start

abbrev pub AllPast : List (Node Item) → (low byte : ℕ) → List ℕ → Type 0
AllPast nodes low byte [] = ⊤
AllPast nodes low byte (n ∷ ns) = StandsPast nodes low byte n × AllPast nodes low byte ns

-- the item after one is past it
next_past : (source : List ℕ) (tables : Tables) (nodes : List (Node Item)) (ix : ℕ) (l : Option ℕ) (f : Forest ℕ)
    → is_block (item_at nodes ix).body ≡ false → Spells (links_of nodes) l f
    → IsQuietBelow (relabelled (tree_node_at source tables nodes) f)
    → ComesBefore (numbered nodes ix) (option_map (numbered nodes) l)
    → IfSome l (λ n. StandsPast nodes ix (item_at nodes ix).end n)
next_past source tables nodes ix l nil here s quiet h = rw s tt
next_past source tables nodes ix l (node jx below after) here s quiet h =
    let p = (rw s.0 at h) here (no_block (item_at nodes jx).body quiet.0) in
    rw s.0 (record { number = p.numbers; start = p.ends })

past_more : (nodes : List (Node Item)) (low low' byte byte' : ℕ) (l : Option ℕ) → low ≤ low' → byte ≤ byte'
    → IfSome l (λ n. StandsPast nodes low' byte' n) → IfSome l (λ n. StandsPast nodes low byte n)
past_more nodes low low' byte byte' None a b h = tt
past_more nodes low low' byte byte' (Some n) a b h = record
    { number = omega (arith, h.number, a); start = omega (arith, h.start, b) }

all_past : (source : List ℕ) (tables : Tables) (nodes : List (Node Item)) (low byte : ℕ) (l : Option ℕ) (f : Forest ℕ)
    → Spells (links_of nodes) l f → Each (IsPlaced source tables nodes) f
    → IsQuietBelow (relabelled (tree_node_at source tables nodes) f) → IfSome l (λ n. StandsPast nodes low byte n)
    → AllPast nodes low byte (roots f)
all_past source tables nodes low byte l nil s placed quiet first = tt
all_past source tables nodes low byte l (node ix below after) s placed quiet first =
    let p = rw s.0 at first in
    let ordered = placed.0.lies.ordered in
    let start = p.start in
    let number = p.number in
    let next = next_past source tables nodes ix (sibling_of nodes ix) after (no_block
    (item_at nodes ix).body quiet.0) s.3 quiet.2 placed.0.keeps.in_order in (
      p,
      all_past source tables nodes low byte (sibling_of nodes ix) after s.3 placed.2 quiet.2
          (past_more nodes low ix byte (item_at nodes ix).end (sibling_of nodes ix) (omega arith) (omega arith) next),
    )

-- all that follow the first item of a chain are past it
pub rest_past : {source : List ℕ} {tables : Tables} {nodes : List (Node Item)} {ix : ℕ}
    → CanResolve source tables nodes (Some ix)
    → AllPast nodes ix (item_at nodes ix).end (roots (forest_at (links_of nodes) (sibling_of nodes ix)))
rest_past {source} {tables} {nodes} {ix} ready =
    let o = opens (links_of nodes) (IsPlaced source tables nodes) ix ready.reaches in
    let quiet = rw o.here at ready.quiet_below in
    all_past source tables nodes ix (item_at nodes ix).end (sibling_of nodes ix)
    (forest_at (links_of nodes) (sibling_of nodes ix)) o.after.spelled o.after.each quiet.2
    (next_past source tables nodes ix (sibling_of nodes ix) (forest_at (links_of nodes) (sibling_of nodes ix))
    (no_block (item_at nodes ix).body quiet.0) o.after.spelled quiet.2 o.holds.keeps.in_order)

-- so is the first of them that ends past a byte offset
pub record IsFirstPast (nodes : List (Node Item)) (low byte i ix : ℕ) : Type 0 where
  pub place : StandsPast nodes low byte ix
  pub ends : i < (item_at nodes ix).end

first_if : (b : Bool) (nodes : List (Node Item)) (low byte i n ix : ℕ) (l : Option ℕ) → nat_le (item_at nodes n).end i
    ≡ b → StandsPast nodes low byte n → (l ≡ Some ix → IsFirstPast nodes low byte i ix)
    → (if b then l else Some n) ≡ Some ix → IsFirstPast nodes low byte i ix
first_if true nodes low byte i n ix l test here rest e = rest e
first_if false nodes low byte i n ix l test here rest e =
    let same : n ≡ ix = cc e in
    let ends : i < (item_at nodes n).end = grind (arith, nat_tests, test) in
    subst (λ (m : ℕ). IsFirstPast nodes low byte i m) same (record { place = here; ends = ends })

pub first_is_past : (nodes : List (Node Item)) (low byte i ix : ℕ) (ns : List ℕ) → AllPast nodes low byte ns
    → first_past nodes i ns ≡ Some ix → IsFirstPast nodes low byte i ix
first_is_past nodes low byte i ix [] h e = cc e
first_is_past nodes low byte i ix (n ∷ ns) h e =
    first_if (nat_le (item_at nodes n).end i) nodes low byte i n ix (first_past nodes i ns) refl h.0
    (λ k. first_is_past nodes low byte i ix ns h.1 k) e

-- links lead on from a lower number too
pub leads_lower : (nodes : List (Node Item)) (low low' : ℕ) (l : Option ℕ) (chain : List Numbered) → low ≤ low'
    → LeadsThrough nodes low' l chain → LeadsThrough nodes low l chain
leads_lower nodes low low' l [] le h = h
leads_lower nodes low low' l (a ∷ after) le h = (h.0, omega (arith, le, h.1), h.2, h.3, h.4)

-- through nodes that stay
pub leads_kept : (old new : List (Node Item)) (l : Option ℕ) (f : Forest ℕ) (low : ℕ) (chain : List Numbered)
    → Spells (links_of old) l f → length old ≤ length new
    → ((n : ℕ) → n < length old → 0 < total (same n) f → IsSameAt old new n) → LeadsThrough old low l chain
    → LeadsThrough new low l chain
leads_kept old new l f low [] s more kept h = h
leads_kept old new l nil low (a ∷ after) s more kept h = absurd
    (let no : ◌≡◌ {A = Option ℕ} None (Some a.number) = sym s ∙ h.0 in cc no)
leads_kept old new l (node ix below rest) low (a ∷ after) s more kept h =
    let e : Some ix ≡ Some a.number = sym s.0 ∙ h.0 in
    let same_number : ix ≡ a.number = cc e in
    let one = same-refl ix in
    let at : IsSameAt old new a.number = subst (λ (n : ℕ). IsSameAt old new n) same_number
    (kept ix s.1 (omega (arith, one))) in
    let spelled : Spells (links_of old) (sibling_of old a.number) rest = subst
    (λ (n : ℕ). Spells (links_of old) (sibling_of old n) rest) same_number s.3 in
    let go = leads_kept old new (sibling_of old a.number) rest (suc a.number) after spelled more
    (λ n l k. kept n l (omega (arith, k))) h.4 in
    (h.0, h.1, omega (arith, h.2, more), at.item ∙ h.3, rw at.next go)

-- through numbers that are no lower, where nodes stay
pub leads_above : (old new : List (Node Item)) (l : Option ℕ) (low : ℕ) (chain : List Numbered)
    → length old ≤ length new → ((n : ℕ) → low ≤ n → IsSameAt old new n)
    → LeadsThrough old low l chain → LeadsThrough new low l chain
leads_above old new l low [] more kept h = h
leads_above old new l low (a ∷ after) more kept h =
    let at = kept a.number h.1 in
    let least = h.1 in
    let go = leads_above old new (sibling_of old a.number) (suc a.number) after more
    (λ n le. kept n (omega (arith, le, least))) h.4 in
    (h.0, h.1, omega (arith, h.2, more), at.item ∙ h.3, rw at.next go)

-- what is left of a chain past a byte offset, with the first item as it is; and with that begun there
abbrev pub numbered_left : ℕ → List Numbered → List Numbered
numbered_left i [] = []
numbered_left i (a ∷ after) = if nat_le a.item.end i then numbered_left i after else a ∷ after

abbrev pub numbered_begun : ℕ → List Numbered → List Numbered
numbered_begun i [] = []
numbered_begun i (a ∷ after) = record { number = a.number; item = begun_item i a.item } ∷ after

past_if : (b : Bool) (i : ℕ) (a : Numbered) (after : List Numbered) → numbered_past_byte i after
    ≡ numbered_begun i (numbered_left i after)
    → (if b then numbered_past_byte i after else record { number = a.number; item = begun_item i a.item } ∷ after)
    ≡ numbered_begun i (if b then numbered_left i after else a ∷ after)
past_if true i a after e = e
past_if false i a after e = refl

pub numbered_past_is : (i : ℕ) (chain : List Numbered) → numbered_past_byte i chain
    ≡ numbered_begun i (numbered_left i chain)
numbered_past_is i [] = refl
numbered_past_is i (a ∷ after) = past_if (nat_le a.item.end i) i a after (numbered_past_is i after)

left_if : (b : Bool) (nodes : List (Node Item)) (low : ℕ) (l : Option ℕ) (a : Numbered) (after left : List Numbered)
    → LeadsThrough nodes low l left → LeadsThrough nodes low (Some a.number) (a ∷ after)
    → LeadsThrough nodes low (if b then l else Some a.number) (if b then left else a ∷ after)
left_if true nodes low l a after left rest all = rest
left_if false nodes low l a after left rest all = all

-- links lead on past a byte
pub leads_left : (nodes : List (Node Item)) (i : ℕ) (l : Option ℕ) (f : Forest ℕ) (low : ℕ) (chain : List Numbered)
    → Spells (links_of nodes) l f → LeadsThrough nodes low l chain
    → LeadsThrough nodes low (first_past nodes i (roots f)) (numbered_left i chain)
leads_left nodes i l nil low [] s h = refl
leads_left nodes i l nil low (a ∷ after) s h = absurd (let no : ◌≡◌ {A = Option ℕ} None (Some a.number) = sym s
    ∙ h.0 in cc no)
leads_left nodes i l (node ix below rest) low [] s h = absurd (let no : ◌≡◌ {A = Option ℕ} None (Some ix) = sym h
    ∙ s.0 in cc no)
leads_left nodes i l (node ix below rest) low (a ∷ after) s h =
    let e : Some ix ≡ Some a.number = sym s.0 ∙ h.0 in
    let same_number : ix ≡ a.number = cc e in
    let spelled : Spells (links_of nodes) (sibling_of nodes a.number) rest = subst
    (λ (n : ℕ). Spells (links_of nodes) (sibling_of nodes n) rest) same_number s.3 in
    let least = h.1 in
    let go = leads_lower nodes low (suc a.number) (first_past nodes i (roots rest)) (numbered_left i after)
    (omega (arith, least)) (leads_left nodes i (sibling_of nodes a.number) rest (suc a.number) after spelled h.4) in
    let all = left_if (nat_le a.item.end i) nodes low (first_past nodes i (roots rest)) a after (numbered_left i after)
    go (refl, h.1, h.2, h.3, h.4) in
    let item_is : item_at nodes ix ≡ a.item = subst (λ (n : ℕ). item_at nodes n ≡ a.item) (sym same_number) h.3 in
    rw (item_is, same_number) all
