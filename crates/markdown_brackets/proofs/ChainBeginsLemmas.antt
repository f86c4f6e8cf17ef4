-- What is first in a left list stays first, or becomes a link, an image or a footnote reference: so it passes a test
-- that events and enclosing tags pass.
use Rattle.std.proofs.Common.{◌≡◌, ℕ, Bool, true, false, List, [], ◌∷◌, Some, ◌++◌, refl, subst}
use Rattle.std.specs.Prelude.{⊤}
use Rattle.markdown_base.specs.Event.{EventView, TagView}
use Rattle.markdown_base.specs.Forest.{Forest, nil, node}
use Rattle.markdown_base.specs.declared.item.ItemBody.{ItemBody}
use Rattle.markdown_base.specs.declared.item.ItemBody.TheVariants as body
use Rattle.markdown_document.specs.ChainRest.{open_body}
use Rattle.markdown_document.specs.Document.{Origin, Shape, leaf, enclosed, TreeNode, is_unresolved}
use Rattle.markdown_document.specs.Setting.{ReferenceState}
use Rattle.markdown_brackets.specs.BracketDecision.{BracketContext, Closing, Progress}
use Rattle.markdown_brackets.specs.ChainBegins.{BeginsLaw, BeginsSo, BeginsWith, trees_of}
use Rattle.markdown_brackets.specs.ClosingBracket.{footnote_onto}
use Rattle.markdown_brackets.specs.LeftList.{Entry, OpenerState, Split, before_footnote, done, nearest, opens_bracket}
use Rattle.markdown_brackets.specs.LeftList.{opens_wikilink, trees_onto, waits, without_bracket, without_wikilink}
use Rattle.markdown_brackets.specs.ReadChain.{Reader, begun, closing_of, read, read_as, read_chain}
use Rattle.markdown_brackets.proofs.ClosingBracketLemmas.{Cases, in_each_case}
use Rattle.markdown_brackets.proofs.LeftListLemmas.{Marked, same_change, same_before_link, same_before_wikilink}
use Rattle.markdown_brackets.proofs.LeftListLemmas.{same_before_footnote, split_at}
use Rattle.markdown_brackets.proofs.ReadChainLemmas.{Reads, chain_keeps}

-- what is added after a tree does not change how the trees begin: so a rule that adds more trees keeps the first one
pub begins_onto : {A : Type 0} (test : Shape → Bool) (left : List (Entry A)) (one other : Forest (TreeNode A))
    → (BeginsWith test one → BeginsWith test other)
    → BeginsWith test (trees_onto left one) → BeginsWith test (trees_onto left other)
begins_onto test [] one other k h = k h
begins_onto test (done a below ∷ left) one other k h = begins_onto test left (node a below one) (node a below other)
    (λ first. first) h
begins_onto test (waits m a ∷ left) one other k h = begins_onto test left (node a nil one) (node a nil other)
    (λ first. first) h

module _ {A : Type 0} (w : BracketContext) (test : Shape → Bool) (events : (e : EventView) (origins : List Origin)
    → test (leaf e origins) ≡ true) (tags : (tag : TagView) (origins : List Origin)
    → test (enclosed tag origins) ≡ true) where
  -- the first tree of a left list passes, or this is true where there is none
  abbrev First : Bool → List (Entry A) → Type 0
  First none [] = none ≡ true
  First none (done a below ∷ left) = First (test a.part.shape) left
  First none (waits m a ∷ left) = First (test a.part.shape) left

  abbrev begins : Forest (TreeNode A) → Bool
  begins nil = false
  begins (node a below after) = test a.part.shape

  first-from_trees : (left : List (Entry A)) (later : Forest (TreeNode A)) → BeginsWith test (trees_onto left later)
      → First (begins later) left
  first-from_trees [] nil h = absurd h
  first-from_trees [] (node a below after) h = h
  first-from_trees (done a below ∷ left) later h = first-from_trees left (node a below later) h
  first-from_trees (waits m a ∷ left) later h = first-from_trees left (node a nil later) h

  first-trees : (left : List (Entry A)) (later : Forest (TreeNode A)) → First (begins later) left
      → BeginsWith test (trees_onto left later)
  first-trees [] nil h = cc h
  first-trees [] (node a below after) h = h
  first-trees (done a below ∷ left) later h = first-trees left (node a below later) h
  first-trees (waits m a ∷ left) later h = first-trees left (node a nil later) h

  -- what follows it has no effect
  first_or : {none other : Bool} (left : List (Entry A)) → (none ≡ true → other ≡ true) → First none left
      → First other left
  first_or [] k h = k h
  first_or (done a below ∷ left) k h = h
  first_or (waits m a ∷ left) k h = h

  -- nor do flags
  first_marked : Marked {A = A} (λ m n. ⊤) (λ left left'. (none : Bool) → First none left → First none left')
  first_marked = record {
    equal = λ m. tt;
    bracket = λ m. tt;
    wikilink = λ m. tt;
    disabled = λ m. tt;
    empty = λ none h. h;
    tree = λ a below left left' k none h. k (test a.part.shape) h;
    opener = λ m n a left left' low k none h. k (test a.part.shape) h;
    twice = λ one two three k l none h. l none (k none h);
  }

  -- before an opener; where nothing is before it, it is first itself
  abbrev IsFirstAt : Split A → Type 0
  IsFirstAt o = First (test o.opener.part.shape) o.before

  first_split : (none : Bool) (after before : List (Entry A)) (m : OpenerState) (a : TreeNode A)
      → First none (after ++ waits m a ∷ before) → First (test a.part.shape) before
  first_split none [] before m a h = h
  first_split none (done b below ∷ after) before m a h = first_split (test b.part.shape) after before m a h
  first_split none (waits n b ∷ after) before m a h = first_split (test b.part.shape) after before m a h

  first_nearest : (opens : OpenerState → Bool) (left : List (Entry A)) (o : Split A) → nearest opens left ≡ Some o
      → First true left → IsFirstAt o
  first_nearest opens left o e h =
      first_split true o.after o.before o.state o.opener (subst (First true) (split_at opens left o e) h)

  module _ (c : Closing A) where
    first_footnote : (is_image : Bool) (a : TreeNode A) (name : List ℕ) (none : Bool) (before : List (Entry A))
        → First none before
        → First false (footnote_onto w c is_image a name before)
    first_footnote true a name none before h = first_or before (λ k. events _ _) h
    first_footnote false a name none before h = first_or before (λ k. events _ _) h

    -- a `]` puts a tree where there is none, and keeps what is first
    first_cases : Cases w c (First true) (First false)
    first_cases = record {
      bracket_goes = λ left. same_change first_marked opens_bracket without_bracket (λ m. tt) left true;
      wikilink_goes = λ left. same_change first_marked opens_wikilink without_wikilink (λ m. tt) left true;
      text = λ left h. first_or left (λ k. events _ _) h;
      link = λ left o target titles end h found live.
          let at = first_nearest opens_bracket left o found h in
          same_before_link first_marked o.state.is_image o.before _ (first_or o.before (λ k. tags _ _) at);
      footnote = λ left o name h found live.
          let at = first_nearest opens_bracket left o found h in
          first_footnote o.state.is_image o.opener name _ (before_footnote o.before)
          (same_before_footnote first_marked o.before _ at);
      wikilink = λ left o v end h found live is.
          let at = first_nearest opens_wikilink left o found h in
          same_before_wikilink first_marked o.before _ (first_or o.before (λ k. tags _ _) at);
    }

  module _ (others : Reader A) (rule : BeginsSo test others) where
    -- an open item puts a first tree
    first_put : (b : ItemBody) (a : TreeNode A) (below rest : Forest (TreeNode A)) (state : ReferenceState)
        → is_unresolved a.part.shape ≡ true
        → First false (read_as w others b a below rest (begun state)).left
    first_put body.MaybeLinkOpen a below rest state h = events _ _
    first_put body.MaybeImage a below rest state h = events _ _
    first_put (body.MaybeLinkClose could) a below rest state h =
        in_each_case w (closing_of could a rest (begun state)) (First true) (First false)
        (first_cases (closing_of could a rest (begun state)))
        (begun state) refl
    first_put other a below rest state h = first-from_trees (others a below rest (begun state)).left nil
        (rule.puts a below rest state h)

    -- and each later item keeps one
    first_reads : Reads w others (λ chain p. First false p.left)
    first_reads = record {
      opens = λ i a below rest p h. first_or p.left (λ k. events _ _) h;
      closes = λ could a below rest p e h.
          let c : Closing A = closing_of could a rest p in
          in_each_case w c (First true) (First false) (first_cases c) p (first_or p.left (λ k. refl) h);
      other = λ a below rest p h. first-from_trees (others a below rest p).left nil
          (rule.keeps a below rest p (first-trees p.left nil h));
      passes = λ a below rest p h. h;
      cuts = λ i a below rest p h. h;
    }

    pub read_begins : (a : TreeNode A) (below rest : Forest (TreeNode A)) (state : ReferenceState)
        → is_unresolved a.part.shape ≡ true
        → BeginsWith test (trees_of (read_chain w others (node a below rest) (begun state)))
    unfolding read_chain
    read_begins a below rest state h =
        let first : Progress A = read w others a below rest (begun state) in
        first-trees (read_chain w others rest first).left nil
        (chain_keeps first_reads rest first (first_put (open_body a.part.shape) a below rest state h))

pub begins_law : {A : Type 0} → BeginsLaw A
begins_law w others test events tags rule a below rest state h = read_begins w test events tags others rule a below
    rest
    state h
