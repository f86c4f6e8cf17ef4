-- If the trees of a chain are in order, they are at each step of reading it: what a pair encloses lies between its
-- characters, and what follows lies after the last of them.
use Rattle.std.proofs.Common.{ℕ, ◌≤◌, Bool, false, List, Option, Some, None, arith}
use Rattle.std.specs.declared.ops.Range.{Range}
use Rattle.markdown_base.specs.Forest.{Forest, nil, node}
use Rattle.markdown_document.specs.ChainRest.{start_of, end_of, joined_chains}
use Rattle.markdown_document.specs.Document.{Shape, TreeNode}
use Rattle.markdown_document.specs.Setting.{Setting}
use Rattle.markdown_delims.specs.Layers.{extensions_of, layer_of_one, layer_of_two, spanned}
use Rattle.markdown_delims.specs.NestedPairs.{EachInPairs, IfOfRun, IsFilled, LieInOrder, NestOrLieApart, NestLaw}
use Rattle.markdown_delims.specs.Pairing.{paired}
use Rattle.markdown_delims.specs.PairingLaws.{RunAt, with_runs}
use Rattle.markdown_delims.specs.Quotes.{first_turn, quotes_after, with_quotes}
use Rattle.markdown_delims.proofs.ChainLawLemmas.{KeptByPairing, kept-by-pairing}

abbrev Chain : Type 0
Chain = Forest (TreeNode (Option RunAt))

-- what lies in order lies between its bounds, and between wider ones
filled_spans : (note : Option RunAt) (i k : ℕ) (below : Type 0) → (below → i ≤ k) → IsFilled note i k below → i ≤ k
filled_spans None i k below f h = h
filled_spans (Some p) i k below f h = f h

spans : (i k : ℕ) (chain : Chain) → LieInOrder i k chain → i ≤ k
spans i k nil h = h
spans i k (node a below after) h = omega (
  arith,
  h.0,
  filled_spans a.note (start_of a) (end_of a) _ (spans (start_of a) (end_of a) below) h.1,
  spans (end_of a) k after h.2,
)

own_spans : (a : TreeNode (Option RunAt)) (below : Chain)
    → IsFilled a.note (start_of a) (end_of a) (LieInOrder (start_of a) (end_of a) below) → start_of a ≤ end_of a
own_spans a below h = filled_spans a.note (start_of a) (end_of a) _ (spans (start_of a) (end_of a) below) h

fill : (note : Option RunAt) (i k : ℕ) (below : Chain) → LieInOrder i k below → IsFilled note i k (LieInOrder i k below)
fill None i k below h = spans i k below h
fill (Some p) i k below h = h

if_filled : (note : Option RunAt) (i k : ℕ) (below other : Type 0) → (below → other) → IsFilled note i k below
    → IfOfRun note other
if_filled None i k below other f h = tt
if_filled (Some p) i k below other f h = f h

wider : (i j k l : ℕ) (chain : Chain) → i ≤ j → k ≤ l → LieInOrder j k chain → LieInOrder i l chain
wider i j k l nil b e h =
    let between : j ≤ k = h in
    let around : i ≤ l = omega (arith, b, e, between) in
    around
wider i j k l (node a below after) b e h
    = (omega (arith, b, h.0), h.1, wider (end_of a) (end_of a) k l after (omega arith) e h.2)

all_between : (i j k l : ℕ) (chain : Chain) → i ≤ j → k ≤ l → LieInOrder j k chain
    → EachInPairs (λ range. (i ≤ range.start) × (range.end ≤ l)) chain
all_between i j k l nil b e h = tt
all_between i j k l (node a below after) b e h =
    let below_spans = own_spans a below h.1 in
    let after_spans : end_of a ≤ k = spans (end_of a) k after h.2 in (
      (omega (arith, b, h.0), omega (arith, e, after_spans)),
      if_filled a.note (start_of a) (end_of a) _ _
          (all_between i (start_of a) (end_of a) l below (omega (arith, b, h.0)) (omega (arith, e, after_spans))) h.1,
      all_between i (end_of a) k l after (omega (arith, b, h.0, below_spans)) e h.2,
    )

of_run_also : (note : Option RunAt) (below other : Type 0) → (below → other) → IfOfRun note below → IfOfRun note other
of_run_also None below other f h = tt
of_run_also (Some p) below other f h = f h

each_first : (i k : ℕ) (chain : Chain) → EachInPairs (λ range. (i ≤ range.start) × (range.end ≤ k)) chain
    → EachInPairs (λ range. i ≤ range.start) chain
each_first i k nil h = tt
each_first i k (node a below after) h =
    (h.0.0, of_run_also a.note _ _ (each_first i k below) h.1, each_first i k after h.2)

begin_after : (i k : ℕ) (chain : Chain) → LieInOrder i k chain → EachInPairs (λ range. i ≤ range.start) chain
begin_after i k chain h = each_first i k chain (all_between i i k k chain (omega arith) (omega arith) h)

-- then any two trees nest or lie apart
nest_or_apart : (i k : ℕ) (chain : Chain) → LieInOrder i k chain → NestOrLieApart chain
nest_or_apart i k nil h = tt
nest_or_apart i k (node a below after) h = (
  if_filled a.note (start_of a) (end_of a) _ _
      (λ (g : LieInOrder (start_of a) (end_of a) below). (
        all_between (start_of a) (start_of a) (end_of a) (end_of a) below (omega arith) (omega arith) g,
        nest_or_apart (start_of a) (end_of a) below g,
      )) h.1,
  begin_after (end_of a) k after h.2,
  nest_or_apart (end_of a) k after h.2,
)

-- two chains, one after the other
record IsCut (i k : ℕ) (f g : Chain) : Type 0 where
  at : ℕ
  first : LieInOrder i at f
  rest : LieInOrder at k g

cut : (i k : ℕ) (f g : Chain) → LieInOrder i k (joined_chains f g) → IsCut i k f g
cut i k nil g h = let same : i ≤ i = omega arith in record { at = i; first = same; rest = h }
cut i k (node a below after) g h =
    let c = cut (end_of a) k after g h.2 in record { at = c.at; first = (h.0, h.1, c.first); rest = c.rest }

-- what lies between two characters, and what follows the second
record Encloses (i k : ℕ) (x v : TreeNode (Option RunAt)) (inside rest : Chain) : Type 0 where
  begins : i ≤ start_of x
  ends : end_of v ≤ k
  between : LieInOrder (start_of x) (end_of v) inside
  later : LieInOrder (end_of v) k rest

encloses : (i k : ℕ) (x v : TreeNode (Option RunAt)) (inside rest : Chain)
    → LieInOrder i k (node x nil (joined_chains inside (node v nil rest))) → Encloses i k x v inside rest
encloses i k x v inside rest h =
    let c = cut (end_of x) k inside (node v nil rest) h.2 in
    let own : start_of x ≤ end_of x = own_spans x nil h.1 in
    let last : start_of v ≤ end_of v = own_spans v nil c.rest.1 in
    record {
      begins = h.0;
      ends = spans (end_of v) k rest c.rest.2;
      between = wider (start_of x) (end_of x) c.at (end_of v) inside own (omega (arith, c.rest.0, last)) c.first;
      later = c.rest.2;
    }

module _ (s : Setting) where
  -- a chain lies between two bounds
  abbrev LiesIn : ℕ × ℕ → Chain → Type 0
  LiesIn i chain = LieInOrder i.0 i.1 chain

  lies_kept : KeptByPairing s LiesIn
  lies_kept = record {
    after = λ a below f g l i h. (h.0, h.1, l (end_of a, i.1) h.2);
    text = λ a below f g l i h. (
      h.0,
      fill a.note (start_of a) (end_of a) nil (own_spans a below h.1),
      l (end_of a, i.1) h.2,
    );
    closed = λ a below after opens i h. h;
    one = λ d x v inside rest c i h.
        let e = encloses i.0 i.1 x v inside rest h in
        (e.begins, fill x.note (start_of x) (end_of v) inside e.between, e.later);
    two = λ d x y v w inside rest c i h.
        let own : start_of y ≤ end_of y = own_spans y nil h.1 in
        let e = encloses (end_of y) i.1 x v inside (node w nil rest) h.2 in
        let last : start_of w ≤ end_of w = own_spans w nil e.later.1 in (
          h.0,
          fill y.note (start_of y) (end_of w) inside
              (wider (start_of y) (start_of x) (end_of v) (end_of w) inside (omega (arith, own, e.begins))
              (omega (arith, e.later.0, last)) e.between),
          e.later.2,
        );
  }

  quotes_lie : (single double : Bool) (i k : ℕ) (chain : Chain) → LieInOrder i k chain
      → LieInOrder i k (quotes_after single double chain)
  quotes_lie single double i k nil h = h
  quotes_lie single double i k (node a below after) h = (
    h.0,
    h.1,
    quotes_lie (first_turn a after single double).single (first_turn a after single double).double
        (end_of a) k after h.2,
  )

pub nest-law : {A : Type 0} → NestLaw A
unfolding paired with_quotes
nest-law s i k chain h =
    let own : Chain = with_runs s 0 None chain in
    let lies : LieInOrder i k (paired s own) =
    kept-by-pairing s (LiesIn s) (lies_kept s) (i, k) (quotes_after false false own)
    (quotes_lie s false false i k own h) in
    (lies, nest_or_apart i k (paired s own) lies)
