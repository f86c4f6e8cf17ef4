-- Brackets do not increase the weight of a chain: each find removes at least as many nodes as it leaves.
use Rattle.std.proofs.Common.{◌≡◌, ℕ, ◌+◌, ◌-◌, ◌≤◌, Bool, true, false, List, [], ◌∷◌, Some, refl, ◌∙◌, arith, ◌++◌, ap}
use Rattle.std.specs.Prelude.{IfSome, ⊤}
use Rattle.markdown_base.specs.Forest.{Forest, nil, node}
use Rattle.markdown_document.specs.TreeNodes.{weight}
use Rattle.markdown_document.specs.Document.{Shape, plain, TreeNode, is_unresolved}
use Rattle.markdown_document.specs.Setting.{ReferenceState}
use Rattle.markdown_document.specs.ChainRest.{begun_at, cut_shape, start_of}
use Rattle.markdown_brackets.specs.BracketDecision.{BracketContext, Closing, Progress, wikilink_in, past_second}
use Rattle.markdown_brackets.specs.ClosingBracket.{footnote_onto, closed}
use Rattle.markdown_brackets.specs.LeftList.{OpenerState, Entry, done, waits, trees_onto, Split, inside, nearest}
use Rattle.markdown_brackets.specs.LeftList.{opens_bracket, opens_wikilink, without_bracket, without_wikilink}
use Rattle.markdown_brackets.specs.LeftList.{before_footnote}
use Rattle.markdown_brackets.specs.ReadChain.{Reader, begun, closing_of, read_chain}
use Rattle.markdown_document.specs.Totals.{weight_if}
use Rattle.markdown_document.proofs.PlaceLemmas.{some_weight}
use Rattle.markdown_brackets.proofs.ClosingBracketLemmas.{Cases, in_each_case, some_of}
use Rattle.markdown_brackets.specs.BracketWeight.{node_weight, weight_left}
use Rattle.markdown_brackets.proofs.LeftListLemmas.{Marked, same_change, same_before_link, same_before_wikilink}
use Rattle.markdown_brackets.proofs.LeftListLemmas.{same_before_footnote, split_at}
use Rattle.markdown_brackets.proofs.ReadChainLemmas.{Reads, chain_keeps}
use Rattle.markdown_brackets.proofs.NoLinkLemmas.{wikilink_keeps, from_keeps}

w_onto : {A : Type 0} (left : List (Entry A)) (later : Forest (TreeNode A)) → weight (trees_onto left later)
    ≡ weight_left left + weight later
w_onto [] later = omega arith
w_onto (done a below ∷ left) later = omega (arith, w_onto left (node a below later))
w_onto (waits m a ∷ left) later = omega (arith, w_onto left (node a nil later))

-- flags weigh nothing
weights_marked : {A : Type 0} → Marked {A = A} (λ m n. ⊤) (λ left left'. weight_left left' ≡ weight_left left)
weights_marked = record {
  equal = λ m. tt;
  bracket = λ m. tt;
  wikilink = λ m. tt;
  disabled = λ m. tt;
  empty = refl;
  tree = λ a below left left' h. omega (arith, h);
  opener = λ m n a left left' low h. omega (arith, h);
  twice = λ one two three h k. k ∙ h;
}

-- a left list at an opener
w_split : {A : Type 0} (after before : List (Entry A)) (m : OpenerState) (a : TreeNode A)
    → weight_left (after ++ waits m a ∷ before) ≡ weight_left after + (node_weight a + weight_left before)
w_split [] before m a = omega arith
w_split (done b below ∷ after) before m a = omega (arith, w_split after before m a)
w_split (waits n b ∷ after) before m a = omega (arith, w_split after before m a)

w_nearest : {A : Type 0} (test : OpenerState → Bool) (left : List (Entry A)) (o : Split A) → nearest test left ≡ Some o
    → weight_left left ≡ weight_left o.after + (node_weight o.opener + weight_left o.before)
w_nearest test left o e = ap weight_left (split_at test left o e) ∙ w_split o.after o.before o.state o.opener

-- trees from a byte on
w_begun : {A : Type 0} (i : ℕ) (a : TreeNode A) → node_weight (begun_at i a) ≡ node_weight a
w_begun i a = by (i - a.part.range.start) a.part.shape
  where
    by : (n : ℕ) (shape : Shape) → weight_if (is_unresolved (cut_shape n shape)) ≡ weight_if (is_unresolved shape)
    by n plain = refl
    by n other = refl

-- what a wikilink shows
w_wikilink : {A : Type 0} (w : BracketContext) (trees : Forest (TreeNode A)) (end : ℕ)
    → IfSome (wikilink_in w trees end) (λ found. weight found.children ≤ weight trees)
w_wikilink w nil end = tt
w_wikilink w (node first below after) end =
    let all : Forest (TreeNode _) = node first below after in
    let least = some_weight (is_unresolved first.part.shape) in
    wikilink_keeps w (λ f. weight f ≤ weight all) (λ a i j. omega (arith, least))
    (from_keeps (λ f. weight f ≤ weight all) (λ i a below after h. (omega (arith, w_begun i a, h), omega (arith, h))))
    all end (omega arith)

w_past : {A : Type 0} (f : Forest (TreeNode A)) → weight (past_second f) ≤ weight f
w_past nil = omega arith
w_past (node a below after) = omega arith

module _ {A : Type 0} (w : BracketContext) (c : Closing A) (n : ℕ) where
  abbrev Weighs : List (Entry A) → Type 0
  Weighs left = weight_left left ≡ n

  abbrev Fits : List (Entry A) → Type 0
  Fits left = weight_left left ≤ n + node_weight c.node

  least : (a : TreeNode A) → 2 ≤ node_weight a
  least a = some_weight (is_unresolved a.part.shape)

  w_footnote : (i : Bool) (a : TreeNode A) (name : List ℕ) (before : List (Entry A))
      → weight_left (footnote_onto w c i a name before) ≤ 4
      + weight_left before
  w_footnote true a name before = omega arith
  w_footnote false a name before = omega arith

  weight_cases : Cases w c Weighs Fits
  weight_cases = record {
    bracket_goes = λ left h. same_change weights_marked opens_bracket without_bracket (λ m. tt) left ∙ h;
    wikilink_goes = λ left h. same_change weights_marked opens_wikilink without_wikilink (λ m. tt) left ∙ h;
    text = λ left h. let l = least c.node in omega (arith, h, l);
    link = λ left o target titles end h found live.
        let at = w_nearest opens_bracket left o found in
        let before = same_before_link weights_marked o.state.is_image o.before in
        let inner = w_onto o.after nil in
        let l = least o.opener in
        omega (arith, at, h, before, inner, l);
    footnote = λ left o name h found live.
        let at = w_nearest opens_bracket left o found in
        let before = same_before_footnote weights_marked o.before in
        let made = w_footnote o.state.is_image o.opener name (before_footnote o.before) in
        let l = least o.opener in
        let m = least c.node in
        omega (arith, at, h, before, made, l, m);
    wikilink = λ left o v end h found live is.
        let at = w_nearest opens_wikilink left o found in
        let shown = some_of (wikilink_in w (past_second (inside o)) (start_of c.node)) v
        (λ v. weight v.children ≤ weight (past_second (inside o))) is
        (w_wikilink w (past_second (inside o)) (start_of c.node)) in
        let past = w_past (inside o) in
        let before = same_before_wikilink weights_marked o.before in
        let inner = w_onto o.after nil in
        let l = least o.opener in
        omega (arith, at, h, shown, past, before, inner, l);
  }

closed_weight : {A : Type 0} (w : BracketContext) (c : Closing A) (p : Progress A)
    → weight_left (closed w c p).left ≤ weight_left p.left
    + node_weight c.node
closed_weight w c p =
    in_each_case w c (Weighs w c (weight_left p.left)) (Fits w c (weight_left p.left))
    (weight_cases w c (weight_left p.left)) p refl

module _ {A : Type 0} (w : BracketContext) (others : Reader A)
    (rule : (a : TreeNode A) (below rest : Forest (TreeNode A)) (p : Progress A) → weight_left
    (others a below rest p).left ≤
    weight_left p.left
    + (node_weight a + weight below)) where
  weight_reads : (n : ℕ) → Reads w others (λ chain p. weight_left p.left + weight chain ≤ n)
  weight_reads n = record {
    opens = λ i a below rest p h. let l = some_weight (is_unresolved a.part.shape) in omega (arith, l, h);
    closes = λ could a below rest p e h.
        let fits = closed_weight w (closing_of could a rest p) p in
        omega (arith, fits, h);
    other = λ a below rest p h. let fits = rule a below rest p in omega (arith, fits, h);
    passes = λ a below rest p h. omega (arith, h);
    cuts = λ i a below rest p h. omega (arith, w_begun i a, h);
  }

  pub no_heavier : (chain : Forest (TreeNode A)) (state : ReferenceState)
      → weight (trees_onto (read_chain w others chain (begun state)).left nil) ≤ weight chain
  no_heavier chain state =
      let whole = chain_keeps (weight_reads (weight chain)) chain (begun state) (omega arith) in
      let read = w_onto (read_chain w others chain (begun state)).left nil in
      omega (arith, whole, read)
