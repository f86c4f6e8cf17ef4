-- A chain that is cut at a link: steps over a tree, and writes.
use Rattle.std.proofs.Common.{◌≡◌, ℕ, suc, ◌<◌, ◌≤◌, Bool, true, Option, Some, refl, sym, ◌∙◌, subst, arith}
use Rattle.markdown_base.specs.Forest.{Forest, nil, node}
use Rattle.markdown_document.specs.Document.{Part, TreeNode}
use Rattle.markdown_delims.specs.Views.{View, Writes, Holds, LeftHolds, next_number, Between, Inside, Rises, LeftRises}
use Rattle.markdown_delims.specs.Views.{Cut}

pub Rises-le : (own : ℕ → Bool) (lo : ℕ) (f : Forest (TreeNode ℕ)) (hi : ℕ) → Rises own lo f hi → lo ≤ hi
Rises-le own lo nil hi r = r
Rises-le own lo (node a below after) hi r = omega (arith, r.0, Rises-le own (suc a.note) after hi r.2)

-- a chain's first number is not above its end
pub next_number-le : (own : ℕ → Bool) (lo : ℕ) (f : Forest (TreeNode ℕ)) (hi : ℕ) → Rises own lo f hi
    → next_number f hi ≤ hi
next_number-le own lo nil hi r = omega arith
next_number-le own lo (node a below after) hi r = omega (arith, Rises-le own (suc a.note) after hi r.2)

-- what is below a tree may lie in a wider span of numbers
pub Between-wider : (own : ℕ → Bool) (lo lo' : ℕ) (f : Forest (TreeNode ℕ)) (hi hi' : ℕ) → lo' ≤ lo → hi ≤ hi'
    → Between own lo f hi
    → Between own lo' f hi'
Between-wider own lo lo' nil hi hi' l h b = tt
Between-wider own lo lo' (node a below after) hi hi' l h b = (
  λ o. let here = b.0 o in (omega (arith, here.0), omega (arith, here.1)),
  Between-wider own lo lo' below hi hi' l h b.1,
  Between-wider
      own lo lo' after hi hi' l h b.2,
)

pub Inside-further : (own : ℕ → Bool) (lo : ℕ) (f : Forest (TreeNode ℕ)) (hi hi' : ℕ) → hi ≤ hi' → Inside own lo f hi
    → Inside own lo f hi'
Inside-further own lo f hi hi' l b = (omega (arith, b.0), Between-wider own lo lo f hi hi' (omega arith) l b.1)

-- a chain may occur below a tree
pub Between-of : (own : ℕ → Bool) (lo : ℕ) (f : Forest (TreeNode ℕ)) (hi : ℕ) → Rises own lo f hi → Between own lo f hi
Between-of own lo nil hi r = tt
Between-of own lo (node a below after) hi r =
    let later : suc a.note ≤ hi = Rises-le own (suc a.note) after hi r.2 in
    let end : next_number after hi ≤ hi = next_number-le own (suc a.note) after hi r.2 in (
      λ o. (r.0, omega arith),
      Between-wider own (suc a.note) lo below (next_number after hi) hi (omega (arith, r.0)) end r.1.1,
      Between-wider own (suc a.note) lo after hi hi (omega (arith, r.0)) (omega arith)
          (Between-of own (suc a.note) after hi r.2),
    )

pub Inside-of : (own : ℕ → Bool) (lo : ℕ) (f : Forest (TreeNode ℕ)) (hi : ℕ) → Rises own lo f hi → Inside own lo f hi
Inside-of own lo f hi r = (Rises-le own lo f hi r, Between-of own lo f hi r)

-- it may begin earlier, or where its first number is
pub Rises-lower : (own : ℕ → Bool) (lo lo' : ℕ) (f : Forest (TreeNode ℕ)) (hi : ℕ) → lo' ≤ lo → Rises own lo f hi
    → Rises own lo' f hi
Rises-lower own lo lo' nil hi l r = omega (arith, r)
Rises-lower own lo lo' (node a below after) hi l r = (omega (arith, r.0), r.1, r.2)

pub Rises-raise : (own : ℕ → Bool) (lo lo' : ℕ) (f : Forest (TreeNode ℕ)) (hi : ℕ) → lo' ≤ next_number f hi
    → Rises own lo f hi
    → Rises own lo' f hi
Rises-raise own lo lo' nil hi l r = l
Rises-raise own lo lo' (node a below after) hi l r = (l, r.1, r.2)

-- a write at a node of the chain does not change what has other numbers: all before it, and all after it
module _ (own : ℕ → Bool) (k k' : View Part) (ix : ℕ) (item : Part) (child next : Option ℕ)
    (w : Writes k k' ix item child next) (o : own ix ≡ true) where
  Holds-inside : (l : Option ℕ) (lo : ℕ) (f : Forest (TreeNode ℕ)) (hi : ℕ)
      → ((n : ℕ) → lo ≤ n → n < hi → n ≡ ix → ⊥) → Between own lo f hi → Holds k l f → Holds k' l f
  Holds-inside l lo nil hi b r h = h
  Holds-inside l lo (node a below after) hi b r h =
      let same = w.others a.note
      (λ e. let here = r.0 (subst (λ n. own n ≡ true) (sym e) o) in b a.note here.0 here.1 e) in (
        h.0,
        rw w.size h.1,
        same.item ∙ h.2,
        rw same.child (Holds-inside (k.child a.note) lo below hi b r.1 h.3),
        rw same.next (Holds-inside (k.next a.note) lo after hi b r.2 h.4),
      )

  pub Holds-inside_before : (l : Option ℕ) (lo : ℕ) (f : Forest (TreeNode ℕ)) (hi : ℕ) → ix < lo → Inside own lo f hi
      → Holds k l f → Holds k' l f
  Holds-inside_before l lo f hi b r h = Holds-inside l lo f hi (λ n p q e. omega arith) r.1 h

  pub Holds-write_before : (l : Option ℕ) (lo : ℕ) (f : Forest (TreeNode ℕ)) (hi : ℕ) → ix < lo → Rises own lo f hi
      → Holds k l f → Holds k' l f
  Holds-write_before l lo f hi b r h = Holds-inside_before l lo f hi b (Inside-of own lo f hi r) h

  -- a write after a left list's numbers does not change it
  pub LeftHolds-write_after : (first : Option ℕ) (f : Forest (TreeNode ℕ)) (l : Option ℕ) (hi : ℕ) → hi ≤ ix
      → LeftRises own f hi → LeftHolds k first f l → LeftHolds k' first f l
  LeftHolds-write_after first nil l hi b r h = h
  LeftHolds-write_after first (node a below before) l hi b r h =
      let within : suc a.note ≤ hi = r.0.0 in
      let same = w.others a.note (λ e. omega arith) in (
        rw w.size h.0,
        same.item ∙ h.1,
        rw same.child (Holds-inside (k.child a.note) (suc a.note) below hi (λ n p q e. omega arith) r.0.1 h.2),
        same.next ∙ h.3,
        LeftHolds-write_after first before (Some a.note) a.note (omega arith) r.1 h.4,
      )

-- over one tree, to the right and to the left
pub step_right : (own : ℕ → Bool) (k : View Part) (first : Option ℕ) (left : Forest (TreeNode ℕ)) (l : Option ℕ)
    (a : TreeNode ℕ) (below after : Forest (TreeNode ℕ)) (hi : ℕ)
    → Cut own k first left l (node a below after) hi → Cut own k first (node a below left) (k.next a.note) after hi
step_right own k first left l a below after hi c =
    record {
      left = (c.right.1, c.right.2, c.right.3, refl, subst (λ m. LeftHolds k first left m) c.right.0 c.left);
      right = c.right.4;
      rises_left = (c.rises_right.1, c.rises_left);
      rises_right = Rises-lower own (suc a.note) 0 after hi (omega arith) c.rises_right.2;
    }

pub step_left : (own : ℕ → Bool) (k : View Part) (first : Option ℕ) (a : TreeNode ℕ)
    (below before : Forest (TreeNode ℕ)) (l : Option ℕ) (right : Forest (TreeNode ℕ)) (hi : ℕ)
    → Cut own k first (node a below before) l right hi → Cut own k first before (Some a.note) (node a below right) hi
step_left own k first a below before l right hi c =
    let above : suc a.note ≤ next_number right hi = c.rises_left.0.0 in
    record {
      left = c.left.4;
      right = (refl, c.left.0, c.left.1, c.left.2, rw c.left.3 c.right);
      rises_left = c.rises_left.1;
      rises_right = (omega arith, c.rises_left.0, Rises-raise own 0 (suc a.note) right hi above c.rises_right);
    }

-- a node that a left list leads to encloses a chain
pub enclosing : (own : ℕ → Bool) (k k' : View Part) (first : Option ℕ) (before : Forest (TreeNode ℕ)) (a : TreeNode ℕ)
    (l m : Option ℕ) (inside : Forest (TreeNode ℕ)) (hi : ℕ) → own a.note ≡ true
    → a.note < k.size → LeftHolds k first before (Some a.note) → LeftRises own before a.note → Holds k l inside
    → Inside own (suc a.note) inside hi
    → Writes k k' a.note a.part l m → LeftHolds k' first (node a inside before) m
enclosing own k k' first before a l m inside hi o within left rises h r w = (
  rw w.size within,
  w.item,
  rw w.child (Holds-inside_before own k k' a.note a.part l m w o l (suc a.note) inside hi (omega arith) r h),
  w.next,
  LeftHolds-write_after own k k' a.note a.part l m w o first before (Some a.note) a.note (omega arith) rises left,
)

-- the nearest tree now leads elsewhere; the chain that followed it is unchanged
pub record Parted (k : View Part) (first : Option ℕ) (before : Forest (TreeNode ℕ)) (m : Option ℕ) (l : Option ℕ)
    (after : Forest (TreeNode ℕ)) : Type 0
  where
    pub left : LeftHolds k first before m
    pub right : Holds k l after

pub parted : (own : ℕ → Bool) (k k' : View Part) (first : Option ℕ) (a : TreeNode ℕ)
    (below before : Forest (TreeNode ℕ)) (l m : Option ℕ) (right : Forest (TreeNode ℕ)) (hi : ℕ)
    → Cut own k first (node a below before) l right hi → own a.note ≡ true
    → Writes k k' a.note (k.item a.note) (k.child a.note) m
    → Parted k' first (node a below before) m l right
parted own k k' first a below before l m right hi c o w =
    let above : suc a.note ≤ next_number right hi = c.rises_left.0.0 in
    record {
      left = enclosing own k k' first before a (k.child a.note) m below (next_number right hi) o c.left.0 c.left.4
          c.rises_left.1 c.left.2 c.rises_left.0
          (subst (λ p. Writes k k' a.note p (k.child a.note) m) c.left.1 w);
      right = Holds-write_before own k k' a.note (k.item a.note) (k.child a.note) m w o l (suc a.note) right hi
          (omega arith) (Rises-raise own 0 (suc a.note) right hi above c.rises_right) c.right;
    }
