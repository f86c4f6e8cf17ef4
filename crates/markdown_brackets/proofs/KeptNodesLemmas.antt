-- What holds for each node that brackets make, and for those that the rule for other items makes, holds for each node
-- that is left of a chain.
use Rattle.std.proofs.Common.{ℕ, Bool, true, false, List, [], ◌∷◌, Some, ◌≡◌, ◌++◌, subst}
use Rattle.std.specs.Prelude.{⊤}
use Rattle.markdown_base.specs.Event.{EventView, TagView}
use Rattle.markdown_base.specs.Forest.{Forest, nil, node, Each}
use Rattle.markdown_brackets.specs.BracketDecision.{BracketContext, Closing, Progress, over, past_second, wikilink_in}
use Rattle.markdown_brackets.specs.ClosingBracket.{footnote_onto}
use Rattle.markdown_brackets.specs.KeptShapes.{EachLeft}
use Rattle.markdown_brackets.specs.LeftList.{Entry, OpenerState, Split, before_footnote, done, inside, nearest}
use Rattle.markdown_brackets.specs.LeftList.{opens_bracket}
use Rattle.markdown_brackets.specs.LeftList.{opens_wikilink, trees_onto, waits, without_bracket, without_wikilink}
use Rattle.markdown_brackets.specs.ReadChain.{Reader, begun, closing_of, read_chain}
use Rattle.markdown_brackets.proofs.ClosingBracketLemmas.{Cases, in_each_case, some_of}
use Rattle.markdown_brackets.proofs.NoLinkLemmas.{wikilink_keeps, from_keeps}
use Rattle.markdown_document.specs.ChainRest.{begun_at, past_byte, start_of}
use Rattle.markdown_document.specs.Document.{TreeNode, Origin, as_text, enclosed, leaf}
use Rattle.markdown_document.specs.Setting.{ReferenceState}
use Rattle.markdown_brackets.proofs.LeftListLemmas.{Marked, same_change, same_before_link, same_before_wikilink}
use Rattle.markdown_brackets.proofs.LeftListLemmas.{same_before_footnote, split_at}
use Rattle.markdown_brackets.proofs.ReadChainLemmas.{Reads, chain_keeps}

-- it holds of what is made of any node, and of a Text in place of one of the chain, and of a node that begins later
pub record KeepsNodes {A : Type 0} (base p : TreeNode A → Type 0) : Type 0 where
  pub event : (a : TreeNode A) (e : EventView) (origins : List Origin) (start end : ℕ)
      → p (over a (leaf e origins) start end)
  pub tag : (a : TreeNode A) (t : TagView) (origins : List Origin) (start end : ℕ)
      → p (over a (enclosed t origins) start end)
  pub text : (source : List ℕ) (a : TreeNode A) → base a → p (as_text source a)
  pub cut : (i : ℕ) (a : TreeNode A) → p a → p (begun_at i a)
  pub cut_base : (i : ℕ) (a : TreeNode A) → base a → base (begun_at i a)

-- the items of a chain, and each node below them
abbrev pub EachBelow : {A : Type 0} → (base p : TreeNode A → Type 0) → Forest (TreeNode A) → Type 0
EachBelow base p nil = ⊤
EachBelow base p (node a below after) = base a × Each p below × EachBelow base p after

module _ {A : Type 0} {base p : TreeNode A → Type 0} (k : KeepsNodes base p) where
  abbrev Left : List (Entry A) → Type 0
  Left left = EachLeft p left

  abbrev All : Forest (TreeNode A) → Type 0
  All f = Each p f

  -- the trees of a left list, and trees that are put onto one
  pub each_onto : (left : List (Entry A)) (later : Forest (TreeNode A)) → Left left → All later
      → All (trees_onto left later)
  each_onto [] later h g = g
  each_onto (done a below ∷ left) later h g = each_onto left (node a below later) h.2 (h.0, h.1, g)
  each_onto (waits m a ∷ left) later h g = each_onto left (node a nil later) h.1 (h.0, tt, g)

  -- flags have no effect
  each_marked : Marked (λ m n. ⊤) (λ left left'. Left left → Left left')
  each_marked = record {
    equal = λ m. tt;
    bracket = λ m. tt;
    wikilink = λ m. tt;
    disabled = λ m. tt;
    empty = λ h. h;
    tree = λ a below left left' g h. (h.0, h.1, g h.2);
    opener = λ m n a left left' low g h. (h.0, g h.1);
    twice = λ one two three f g h. g (f h);
  }

  -- so the parts of a left list at an opener
  each_split : (after before : List (Entry A)) (m : OpenerState) (a : TreeNode A) → Left (after ++ waits m a ∷ before)
      → Left after × Left before
  each_split [] before m a h = (tt, h.1)
  each_split (done b below ∷ after) before m a h =
      let r = each_split after before m a h.2 in ((h.0, h.1, r.0), r.1)
  each_split (waits n b ∷ after) before m a h = let r = each_split after before m a h.1 in ((h.0, r.0), r.1)

  each_nearest : (opens : OpenerState → Bool) (left : List (Entry A)) (o : Split A) → nearest opens left ≡ Some o
      → Left left
      → Left o.after × Left o.before
  each_nearest opens left o e h =
      each_split o.after o.before o.state o.opener (subst Left (split_at opens left o e) h)

  -- trees from a byte on, and those of a wikilink
  each_from : (i : ℕ) (f : Forest (TreeNode A)) → All f → All (past_byte i f)
  each_from = from_keeps All (λ i a below after h. ((k.cut i a h.0, h.1, h.2), h.2))

  each_past : (f : Forest (TreeNode A)) → All f → All (past_second f)
  each_past nil h = tt
  each_past (node a below after) h = h.2

  module _ (w : BracketContext) where
    module _ (c : Closing A) where
      each_footnote : (is_image : Bool) (a : TreeNode A) (name : List ℕ) (before : List (Entry A)) → Left before
          → Left (footnote_onto w c is_image a name before)
      each_footnote true a name before h = (k.event c.node _ _ _ _, tt, (k.event a _ _ _ _, tt, h))
      each_footnote false a name before h = (k.event a _ _ _ _, tt, h)

      each_case : base c.node → Cases w c Left Left
      each_case here = record {
        bracket_goes = same_change each_marked opens_bracket without_bracket (λ m. tt);
        wikilink_goes = same_change each_marked opens_wikilink without_wikilink (λ m. tt);
        text = λ left h. (k.text w.setting.text c.node here, tt, h);
        link = λ left o target titles end h found live.
            let at = each_nearest opens_bracket left o found h in (
              k.tag o.opener _ _ _ _,
              each_onto o.after nil at.0 tt,
              same_before_link each_marked o.state.is_image o.before at.1,
            );
        footnote = λ left o name h found live.
            let at = each_nearest opens_bracket left o found h in
            each_footnote o.state.is_image o.opener name (before_footnote o.before)
            (same_before_footnote each_marked o.before at.1);
        wikilink = λ left o v end h found live is.
            let at = each_nearest opens_wikilink left o found h in
            let shown = some_of (wikilink_in w (past_second (inside o)) (start_of c.node)) v (λ v. All v.children) is
            (wikilink_keeps w All (λ a x y. (k.event a _ _ _ _, tt, tt)) each_from (past_second (inside o))
            (start_of c.node)
            (each_past (inside o) (each_onto o.after nil at.0 tt))) in (
              k.tag o.opener _ _ _ _,
              shown,
              same_before_wikilink each_marked o.before at.1,
            );
      }

    module _ (others : Reader A) (rule : (a : TreeNode A) (below rest : Forest (TreeNode A)) (q : Progress A) → base a
        → All below → Left q.left
        → Left (others a below rest q).left) where
      each_reads : Reads w others (λ chain q. EachBelow base p chain × Left q.left)
      each_reads = record {
        opens = λ i a below rest q h. (h.0.2, (k.text w.setting.text a h.0.0, h.1));
        closes = λ could a below rest q e h. (
          h.0.2,
          in_each_case w (closing_of could a rest q) Left Left
              (each_case (closing_of could a rest q) h.0.0) q h.1,
        );
        other = λ a below rest q h. (h.0.2, rule a below rest q h.0.0 h.0.1 h.1);
        passes = λ a below rest q h. (h.0.2, h.1);
        cuts = λ i a below rest q h. ((k.cut_base i a h.0.0, h.0.1, h.0.2), h.1);
      }

      -- of a chain that is read
      pub each_left : (chain : Forest (TreeNode A)) (state : ReferenceState) → EachBelow base p chain
          → All (trees_onto (read_chain w others chain (begun state)).left nil)
      each_left chain state g = each_onto (read_chain w others chain (begun state)).left nil
          (chain_keeps each_reads chain (begun state) (g, tt)).1 tt
