-- If the trees of a chain are in order, each after the one before it, those that pairing leaves are too, at every
-- depth.
use Rattle.std.proofs.Common.{◌≡◌, ℕ, suc, ◌<◌, ◌≤◌, Bool, false, List, refl, sym, subst, arith, inl}
use Rattle.std.specs.Prelude.{⊤, ◌⊎◌, IfSome}
use Rattle.std.specs.Str.{IsCharBoundary}
use Rattle.markdown_base.specs.Forest.{Forest, nil, node, Throughout, first_root}
use Rattle.markdown_document.specs.ChainRest.{joined_chains}
use Rattle.markdown_document.specs.Document.{TreeNode, is_unresolved, as_text}
use Rattle.markdown_document.specs.Setting.{Setting}
use Rattle.markdown_delims.specs.Layers.{extensions_of, layer_of_one, layer_of_two, spanned}
use Rattle.markdown_delims.specs.Pairing.{paired}
use Rattle.markdown_delims.specs.Quotes.{first_turn, quotes_after, with_quotes}
use Rattle.markdown_delims.proofs.ChainLawLemmas.{KeptByPairing, kept-by-pairing, nothing_follows}
use Rattle.markdown_delims.proofs.KeepLemmas.{EachTree, IsClosedTree, paired-closed}

-- the range of a node lies in a text, between characters
pub record Lies (text : List ℕ) (a : TreeNode ℕ) : Type 0 where
  pub ordered : a.part.range.start ≤ a.part.range.end
  pub start : IsCharBoundary text a.part.range.start
  pub end : IsCharBoundary text a.part.range.end

-- one node precedes another, in the text and by its number
pub record Precedes (a b : TreeNode ℕ) : Type 0 where
  pub ends : a.part.range.end ≤ b.part.range.start
  pub numbers : a.note < b.note

-- a tree is not open, lies in the text and precedes the next; or it is one of those of which `deep` holds
abbrev pub IsRight : List ℕ → (ℕ → Type 0) → TreeNode ℕ → Forest (TreeNode ℕ) → Type 0
IsRight text deep a after = ((is_unresolved a.part.shape ≡ false) × Lies text a
    × IfSome (first_root after) (Precedes a)) ⊎ deep a.note

-- so are all of a forest
abbrev pub AreRight : List ℕ → (ℕ → Type 0) → Forest (TreeNode ℕ) → Type 0
AreRight text deep f = Throughout (λ a below after. IsRight text deep a after) f

-- the trees of a chain are in order, from byte offset i and number n on, and what is below them is right
abbrev pub InOrder : List ℕ → (ℕ → Type 0) → (i n : ℕ) → Forest (TreeNode ℕ) → Type 0
InOrder text deep i n nil = ⊤
InOrder text deep i n (node a below after) =
    (i ≤ a.part.range.start) × (n ≤ a.note) × Lies text a × AreRight text deep below
    × InOrder text deep a.part.range.end (suc a.note) after

module _ (text : List ℕ) (deep : ℕ → Type 0) where
  abbrev Ordered : (i n : ℕ) → Forest (TreeNode ℕ) → Type 0
  Ordered i n f = InOrder text deep i n f

  earlier : (i j n k : ℕ) (f : Forest (TreeNode ℕ)) → i ≤ j → n ≤ k → Ordered j k f → Ordered i n f
  earlier i j n k nil x y h = tt
  earlier i j n k (node a below after) x y h = (omega (arith, h.0), omega (arith, h.1), h.2, h.3, h.4)

  -- a change that keeps order wherever it begins keeps it in a chain
  abbrev KeepsOrder : Forest (TreeNode ℕ) → Forest (TreeNode ℕ) → Type 0
  KeepsOrder f g = (i n : ℕ) → Ordered i n f → Ordered i n g

  under_tree : (a : TreeNode ℕ) (below f g : Forest (TreeNode ℕ)) → KeepsOrder f g
      → KeepsOrder (node a below f) (node a below g)
  under_tree a below f g h i n o = (o.0, o.1, o.2, o.3, h a.part.range.end (suc a.note) o.4)

  -- what comes after a chain
  pub record After (i n : ℕ) (f : Forest (TreeNode ℕ)) : Type 0 where
    pub byte : ℕ
    pub number : ℕ
    pub bytes : i ≤ byte
    pub numbers : n ≤ number
    pub ordered : Ordered byte number f

  past : (i n : ℕ) (f after : Forest (TreeNode ℕ)) → Ordered i n (joined_chains f after) → After i n after
  past i n nil after h = record { byte = i; number = n; bytes = omega arith; numbers = omega arith; ordered = h }
  past i n (node a below rest) after h =
      let r = past a.part.range.end (suc a.note) rest after h.4 in
      record {
        byte = r.byte;
        number = r.number;
        bytes = omega (arith, h.0, h.2.ordered, r.bytes);
        numbers = omega (arith, h.1, r.numbers);
        ordered = r.ordered;
      }

  -- a chain in order, none of whose trees is open, is right
  all_right : (i n : ℕ) (f after : Forest (TreeNode ℕ)) → EachTree IsClosedTree f → Ordered i n (joined_chains f after)
      → AreRight text deep f
  all_right i n nil after c h = tt
  all_right i n (node a below nil) after c h = (inl (c.0, h.2, tt), h.3, tt)
  all_right i n (node a below (node b inside rest)) after c h = (
    inl (c.0, h.2, record { ends = h.4.0; numbers = omega (arith, h.4.1) }),
    h.3,
    all_right a.part.range.end (suc a.note) (node b inside rest) after c.1 h.4,
  )

  -- a layer around a chain, over the characters x to v
  around : (x v made : TreeNode ℕ) (inside after : Forest (TreeNode ℕ)) → made.note ≡ x.note → made.part.range.start
      ≡ x.part.range.start
      → made.part.range.end ≡ v.part.range.end → EachTree IsClosedTree inside
      → KeepsOrder (node x nil (joined_chains inside (node v nil after))) (node made inside after)
  around x v made inside after t b e c i n h =
      let r = past x.part.range.end (suc x.note) inside (node v nil after) h.4 in
      let o = r.ordered in (
        omega (arith, h.0, b),
        omega (arith, h.1, t),
        record {
          ordered = omega (arith, b, e, h.2.ordered, r.bytes, o.0, o.2.ordered);
          start = subst (λ j. IsCharBoundary text j) (sym b) h.2.start;
          end = subst (λ j. IsCharBoundary text j) (sym e) o.2.end;
        },
        all_right x.part.range.end (suc x.note) inside (node v nil after) c h.4,
        earlier made.part.range.end v.part.range.end (suc made.note) (suc v.note) after (omega (arith, e))
            (omega (arith, t, r.numbers, o.1))
            o.4,
      )

  -- without a tree
  without : (a : TreeNode ℕ) (below after : Forest (TreeNode ℕ)) → KeepsOrder (node a below after) after
  without a below after i n h = earlier i a.part.range.end n (suc a.note) after (omega (arith, h.0, h.2.ordered))
      (omega (arith, h.1)) h.4

  without_last : (v : TreeNode ℕ) (inside after : Forest (TreeNode ℕ)) → KeepsOrder (joined_chains inside
      (node v nil after))
      (joined_chains inside after)
  without_last v nil after = without v nil after
  without_last v (node a below rest) after = under_tree a below (joined_chains rest (node v nil after))
      (joined_chains rest after)
      (without_last v rest after)

  -- without the inner characters of two
  without_inner : (x v : TreeNode ℕ) (inside after : Forest (TreeNode ℕ))
      → KeepsOrder (node x nil (joined_chains inside (node v nil after)))
      (joined_chains inside after)
  without_inner x v inside after i n h = without_last v inside after i n
      (without x nil (joined_chains inside (node v nil after)) i n h)

  -- a chain is in order from a byte offset and a number on
  abbrev From : ℕ × ℕ → Forest (TreeNode ℕ) → Type 0
  From i chain = Ordered i.0 i.1 chain

  ordered_kept : (s : Setting) → KeptByPairing s From
  ordered_kept s = record {
    after = λ a below f g l i h. (h.0, h.1, h.2, h.3, l (a.part.range.end, suc a.note) h.4);
    text = λ a below f g l i h.
        (h.0, h.1, as_text_lies s.text a h.2, tt, l (a.part.range.end, suc a.note) h.4);
    closed = λ a below after opens i h. (h.0, h.1, as_text_lies s.text a h.2, h.3, h.4);
    one = λ d x v inside rest c i. around x v (spanned s.text (layer_of_one
        (extensions_of s.rules.syntax) d) x v) inside
        rest refl refl refl c i.0 i.1;
    two = λ d x y v w inside rest c i h.
        around y w (spanned s.text (layer_of_two
        (extensions_of s.rules.syntax) d) y w) inside rest refl refl refl c i.0 i.1
        (h.0, h.1, h.2, h.3, without_inner x v inside (node w nil rest) y.part.range.end (suc y.note) h.4);
  }
    where
      as_text_lies : (source : List ℕ) (a : TreeNode ℕ) → Lies text a → Lies text (as_text source a)
      as_text_lies source a l = record { ordered = l.ordered; start = l.start; end = l.end }

  quotes_ordered : (single double : Bool) (chain : Forest (TreeNode ℕ))
      → KeepsOrder chain (quotes_after single double chain)
  quotes_ordered single double nil i n h = h
  quotes_ordered single double (node a below after) i n h = (
    h.0,
    h.1,
    record { ordered = h.2.ordered; start = h.2.start; end = h.2.end },
    h.3,
    quotes_ordered (first_turn a after single double).single (first_turn a after single double).double after
        a.part.range.end (suc a.note) h.4,
  )

  -- the whole chain
  pub paired_right : (s : Setting) (chain : Forest (TreeNode ℕ)) → Ordered 0 0 chain → AreRight text deep
      (paired s chain)
  unfolding paired with_quotes
  paired_right s chain h =
      all_right 0 0 (paired s chain) nil (paired-closed s chain)
      (rw (nothing_follows (paired s chain))
      (kept-by-pairing s From (ordered_kept s) (0, 0) (quotes_after false false chain)
      (quotes_ordered false false chain 0 0 h)))
