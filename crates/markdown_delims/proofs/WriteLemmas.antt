-- What a change of one node is to the view of an arena.
use Rattle.std.proofs.Common.{◌≡◌, ℕ, zero, suc, ◌<◌, Bool, true, false, List, [], ◌∷◌, Option, length, refl, ap, sym}
use Rattle.std.proofs.Common.{◌∙◌, subst, arith, inl, inr}
use Rattle.std.specs.Prelude.{◌⊎◌, ◌==◌, slice_range}
use Rattle.std.proofs.lemmas.Bool.{eqb-true, eqb-false}
use Rattle.markdown_base.specs.declared.item.Item.{Item}
use Rattle.markdown_base.specs.declared.node.Node.{Node}
use Rattle.markdown_base.specs.Arena.{Arena, child_of, sibling_of}
use Rattle.markdown_base.specs.ArenaChanges.{changed_at}
use Rattle.markdown_base.specs.BlockTree.{item_at}
use Rattle.markdown_base.specs.declared.item.ItemBody.{ItemBody}
use Rattle.markdown_document.specs.Document.{Shape, Part, TreeNode, shaped, part_of, shape_of, block_of}
use Rattle.markdown_document.specs.Tables.{Tables}
use Rattle.markdown_base.proofs.ArenaLemmas.{length-changed_at}
use Rattle.markdown_delims.specs.Views.{View, view_of, parts_of, SameAt, Writes, Wrote, IsMade, Kept}

same_at_other : (ix j : ℕ) (change : Node Item → Node Item) (nodes : List (Node Item)) → (j ≡ ix → ⊥)
    → SameAt (view_of nodes) (view_of (changed_at ix change nodes)) j
same_at_other ix j change [] d = record { item = refl; child = refl; next = refl }
same_at_other zero zero change (n ∷ nodes) d = absurd (d refl)
same_at_other zero (suc j) change (n ∷ nodes) d = record { item = refl; child = refl; next = refl }
same_at_other (suc ix) zero change (n ∷ nodes) d = record { item = refl; child = refl; next = refl }
same_at_other (suc ix) (suc j) change (n ∷ nodes) d =
    let rest = same_at_other ix j change nodes (λ e. d (ap suc e)) in
    record { item = rest.item; child = rest.child; next = rest.next }

-- what the node that is changed becomes
pub record ChangedTo (nodes changed : List (Node Item)) (ix : ℕ) (change : Node Item → Node Item) : Type 0 where
  pub item : item_at changed ix
      ≡ (change (record { item = item_at nodes ix; child = child_of nodes ix; next = sibling_of nodes ix })).item
  pub child : child_of changed ix
      ≡ (change (record { item = item_at nodes ix; child = child_of nodes ix; next = sibling_of nodes ix })).child
  pub next : sibling_of changed ix
      ≡ (change (record { item = item_at nodes ix; child = child_of nodes ix; next = sibling_of nodes ix })).next

changed_to : (ix : ℕ) (change : Node Item → Node Item) (nodes : List (Node Item)) → ix < length nodes
    → ChangedTo nodes (changed_at ix change nodes) ix change
changed_to ix change [] l = absurd (omega (arith, l))
changed_to zero change (n ∷ nodes) l = record { item = refl; child = refl; next = refl }
changed_to (suc ix) change (n ∷ nodes) l =
    let rest = changed_to ix change nodes (omega (arith, l)) in
    record { item = rest.item; child = rest.child; next = rest.next }

-- a change is a write
pub changed_writes : (ix : ℕ) (change : Node Item → Node Item) (nodes : List (Node Item)) → ix < length nodes
    → Writes (view_of nodes) (view_of (changed_at ix change nodes)) ix
    (change (record { item = item_at nodes ix; child = child_of nodes ix; next = sibling_of nodes ix })).item
    (change (record { item = item_at nodes ix; child = child_of nodes ix; next = sibling_of nodes ix })).child
    (change (record { item = item_at nodes ix; child = child_of nodes ix; next = sibling_of nodes ix })).next
changed_writes ix change nodes l =
    let here = changed_to ix change nodes l in
    record {
      size = length-changed_at ix change nodes;
      item = here.item;
      child = here.child;
      next = here.next;
      others = λ j d. same_at_other ix j change nodes d;
    }

same_both : (k k' k'' : View Item) (ix : ℕ) → SameAt k k' ix → SameAt k' k'' ix → SameAt k k'' ix
same_both k k' k'' ix v w =
    record { item = w.item ∙ v.item; child = w.child ∙ v.child; next = w.next ∙ v.next }

-- two writes at one node
pub writes_twice : (k k' k'' : View Item) (ix : ℕ) (i j : Item) (c d n m : Option ℕ) → Writes k k' ix i c n
    → Writes k' k'' ix j d m
    → Writes k k'' ix j d m
writes_twice k k' k'' ix i j c d n m v w =
    record {
      size = w.size ∙ v.size;
      item = w.item;
      child = w.child;
      next = w.next;
      others = λ x e. same_both k k' k'' x (v.others x e) (w.others x e);
    }

-- of arenas
pub wrote_once : (s t : Arena Item) (ix : ℕ) (change : Node Item → Node Item) → ix < length s.nodes
    → t ≡ record s { nodes = changed_at ix change s.nodes }
    → Wrote s t ix
    (change (record { item = item_at s.nodes ix; child = child_of s.nodes ix; next = sibling_of s.nodes ix })).item
    (change (record { item = item_at s.nodes ix; child = child_of s.nodes ix; next = sibling_of s.nodes ix })).child
    (change (record { item = item_at s.nodes ix; child = child_of s.nodes ix; next = sibling_of s.nodes ix })).next
wrote_once s t ix change l e = rw e (record { spine = refl; cursor = refl; nodes = changed_writes ix change s.nodes l })

pub wrote_twice : (s t u : Arena Item) (ix : ℕ) (i j : Item) (c d n m : Option ℕ) → Wrote s t ix i c n
    → Wrote t u ix j d m
    → Wrote s u ix j d m
wrote_twice s t u ix i j c d n m v w =
    record {
      spine = w.spine ∙ v.spine;
      cursor = w.cursor ∙ v.cursor;
      nodes = writes_twice (view_of s.nodes) (view_of t.nodes) (view_of u.nodes) ix i j c d n m v.nodes w.nodes;
    }

-- the same write, its parts named otherwise
pub wrote_as : (s t : Arena Item) (ix : ℕ) (i j : Item) (c d n m : Option ℕ) → Wrote s t ix i c n → i ≡ j → c ≡ d → n
    ≡ m
    → Wrote s t ix j d m
wrote_as s t ix i j c d n m w e f g = rw (← e, ← f, ← g) w

-- a write, in the view of parts
pub parts_written : (part : Item → Part) (nodes new : List (Node Item)) (ix : ℕ) (i : Item) (c n : Option ℕ)
    → Writes (view_of nodes) (view_of new) ix i c n → Writes (parts_of part nodes) (parts_of part new) ix (part i) c n
parts_written part nodes new ix i c n w =
    record {
      size = w.size;
      item = ap part w.item;
      child = w.child;
      next = w.next;
      others = λ j d. let same = w.others j d in record
          { item = ap part same.item; child = same.child; next = same.next };
    }

-- another body with a shape and the same block, in the view of nodes
pub body_part : (source : List ℕ) (tables : Tables) (item : Item) (a : TreeNode ℕ) (b : ItemBody) (shape : Shape)
    → part_of source tables item ≡ a.part → shape_of tables (slice_range source item.start item.end) b ≡ shape
    → block_of b ≡ a.part.block
    → part_of source tables (record { start = item.start; end = item.end; body = b }) ≡ (shaped shape a).part
body_part source tables item a b shape is e f = rw (e, f, ← is) refl

-- an item stays, or is made by pairing
abbrev StaysOr : (new old : Item) → Type 0
StaysOr new old = (new ≡ old) ⊎ IsMade new.body

stays_both : (x y z : Item) → StaysOr z y → StaysOr y x → StaysOr z x
stays_both x y z (inr m) k = inr m
stays_both x y z (inl e) (inl f) = inl (e ∙ f)
stays_both x y z (inl e) (inr m) = inr (subst (λ (i : Item). IsMade i.body) (sym e) m)

item_written : (nodes new : List (Node Item)) (ix : ℕ) (i : Item) (c n : Option ℕ)
    → Writes (view_of nodes) (view_of new) ix i c n
    → StaysOr i (item_at nodes ix) → (j : ℕ) (b : Bool) → (j == ix) ≡ b → StaysOr (item_at new j) (item_at nodes j)
item_written nodes new ix i c n w m j true e =
    let is : j ≡ ix = eqb-true j ix e in
    rw is (subst (λ x. StaysOr x (item_at nodes ix)) (sym w.item) m)
item_written nodes new ix i c n w m j false e = inl (w.others j (eqb-false j ix e)).item

-- writes of nodes that may be written, one after another
pub kept_none : (touched : ℕ → Bool) (s : Arena Item) → Kept touched s s
kept_none touched s = record {
  spine = refl;
  cursor = refl;
  size = refl;
  others = λ ix e. record { item = refl; child = refl; next = refl };
  items = λ ix. inl refl;
}

pub kept_both : (touched : ℕ → Bool) (s t u : Arena Item) → Kept touched s t → Kept touched t u → Kept touched s u
kept_both touched s t u k m =
    record {
      spine = m.spine ∙ k.spine;
      cursor = m.cursor ∙ k.cursor;
      size = m.size ∙ k.size;
      others = λ j e. same_both (view_of s.nodes) (view_of t.nodes) (view_of u.nodes) j (k.others j e) (m.others j e);
      items = λ j. stays_both (item_at s.nodes j) (item_at t.nodes j) (item_at u.nodes j) (m.items j) (k.items j);
    }

kept_once : (touched : ℕ → Bool) (s t : Arena Item) (ix : ℕ) (i : Item) (c n : Option ℕ) → touched ix ≡ true
    → Wrote s t ix i c n
    → StaysOr i (item_at s.nodes ix) → Kept touched s t
kept_once touched s t ix i c n p w m =
    record {
      spine = w.spine;
      cursor = w.cursor;
      size = w.nodes.size;
      others = λ j e. w.nodes.others j (λ q. let f : touched ix ≡ false = subst (λ x. touched x ≡ false) q e in cc);
      items = λ j. item_written s.nodes t.nodes ix i c n w.nodes m j (j == ix) refl;
    }

pub kept_made : (touched : ℕ → Bool) (s t u : Arena Item) (ix : ℕ) (i : Item) (c n : Option ℕ) → Kept touched s t
    → touched ix ≡ true
    → Wrote t u ix i c n → IsMade i.body → Kept touched s u
kept_made touched s t u ix i c n k p w m = kept_both touched s t u k (kept_once touched t u ix i c n p w (inr m))

pub kept_links : (touched : ℕ → Bool) (s t : Arena Item) (ix : ℕ) (c n : Option ℕ) → touched ix ≡ true
    → Wrote s t ix (item_at s.nodes ix) c n → Kept touched s t
kept_links touched s t ix c n p w = kept_once touched s t ix (item_at s.nodes ix) c n p w (inl refl)
