-- What was learned of a chain, as a chain is read on.
use Rattle.std.proofs.Common.{◌≡◌, ℕ, suc, ◌<◌, ◌≤◌, List, [], ◌∷◌, ◌++◌, Option, Some, None, true, false, refl, arith}
use Rattle.std.proofs.Common.{subst, sym, ◌∙◌, ap, append_assoc, eq-eqb}
use Rattle.std.specs.Prelude.{option_to_list, ◌==◌}
use Rattle.std.proofs.lemmas.Bool.Decides.{nat_tests}
use Rattle.markdown_base.specs.declared.item.Item.{Item}
use Rattle.markdown_base.specs.declared.item.ItemBody.{ItemBody}
use Rattle.markdown_base.specs.declared.item.ItemBody.TheVariants as body
use Rattle.markdown_base.specs.declared.node.Node.{Node}
use Rattle.markdown_base.specs.Arena.{sibling_of}
use Rattle.markdown_base.specs.BlockTree.{Numbered, numbered}
use Rattle.markdown_spans.specs.ChainInArena.{LeadsThrough, HasChain}
use Rattle.markdown_spans.specs.SpanClosers.{AllBefore, HoldsFrom, HoldsOf, IsBefore, KnowsClosers, Learned}
use Rattle.markdown_spans.specs.SpanMarks.{known_closers, first_with, known_after, known_closer, mark_at, marks_in}
use Rattle.markdown_spans.proofs.ChainWalkLemmas.{chain_at}
use Rattle.markdown_spans.specs.declared.span_marks.KnownCloser.{KnownCloser}
use Rattle.markdown_spans.specs.declared.span_marks.SpanMark.{SpanMark}
use Rattle.markdown_spans.specs.declared.span_text.SpanKind.{SpanKind}
use Rattle.markdown_spans.specs.declared.span_text.SpanKind.TheVariants.{Code, Math}

-- a link leads through one list of items, from the greatest bound on
same_chain : (nodes : List (Node Item)) (low low' : ℕ) (link : Option ℕ) (chain chain' : List Numbered)
    → LeadsThrough nodes low link chain → LeadsThrough nodes low' link chain' → LeadsThrough nodes low' link chain
same_chain nodes low low' link [] chain' h h' = h
same_chain nodes low low' link (a ∷ after) [] h h' = cc (h.0, h')
same_chain nodes low low' link (a ∷ after) (b ∷ after') h h' =
    let e : a.number ≡ b.number = cc (h.0, h'.0) in
    let above : low' ≤ a.number = omega (arith, h'.1) in
    (h.0, above, h.2, h.3, h.4)

after_of : (nodes : List (Node Item)) (ix low low' : ℕ) (chain after : List Numbered) →
    LeadsThrough nodes low (Some ix) chain
    → LeadsThrough nodes low' (sibling_of nodes ix) after → LeadsThrough nodes (suc ix) (sibling_of nodes ix) after
after_of nodes ix low low' [] after h h' = cc
after_of nodes ix low low' (a ∷ later) after h h' =
    let e : a.number ≡ ix = cc (h.0) in
    let P : ℕ → Type 0 = λ n. LeadsThrough nodes low' (sibling_of nodes n) after →
    LeadsThrough nodes (suc n) (sibling_of nodes n) after in
    subst P e (λ leads. same_chain nodes low' (suc a.number) (sibling_of nodes a.number) after later leads h.4) h'

pub from_opener : (nodes : List (Node Item)) (ix low : ℕ) (after : List Numbered) → HasChain nodes (Some ix)
    → LeadsThrough nodes low (sibling_of nodes ix) after → LeadsThrough nodes ix (Some ix) (numbered nodes ix ∷ after)
from_opener nodes ix low after h leads =
    let below : ix ≤ ix = omega arith in
    (refl, below, (chain_at nodes ix h).within, refl, after_of nodes ix h.low low h.chain after h.leads leads)

-- a mark has the number of its item
pub mark_number : (kind : SpanKind) (number : ℕ) (b : ItemBody) (m : SpanMark) → mark_at kind number b ≡ Some m →
    m.number ≡ number
mark_number Code number (body.MaybeCode count escaped) m h = cc
mark_number Code number other m h = cc
mark_number Math number (body.MaybeMath opens closes context) m h = cc
mark_number Math number other m h = cc

-- past what is known of marks before an item
known_closer-past : (a : Numbered) (after : List Numbered) (passed later : List KnownCloser) →
    AllBefore (a ∷ after) passed
    → known_closer a.number (passed ++ later) ≡ known_closer a.number later
known_closer-past a after [] later h = refl
known_closer-past a after (k ∷ passed) later h =
    let other : (k.number == a.number) ≡ false = apart k.number a.number h.0 in
    rw other (known_closer-past a after passed later h.1)
  where
    apart : (m n : ℕ) → m < n → (m == n) ≡ false
    apart m n l = grind (arith, nat_tests)

known_after-past : (a : Numbered) (after : List Numbered) (passed later : List KnownCloser) →
    AllBefore (a ∷ after) passed
    → known_after a.number (passed ++ later) ≡ known_after a.number later
known_after-past a after [] later h = refl
known_after-past a after (k ∷ passed) later h =
    let other : (k.number == a.number) ≡ false = apart k.number a.number h.0 in
    rw other (known_after-past a after passed later h.1)
  where
    apart : (m n : ℕ) → m < n → (m == n) ≡ false
    apart m n l = grind (arith, nat_tests)

-- what is known of a mark, and of those after it
pub record KnownHere (kind : SpanKind) (number : ℕ) (m : SpanMark) (after : List Numbered)
    (known : List KnownCloser) : Type 0 where
  pub closer : known_closer number known ≡ first_with m.wanted (marks_in kind after)
  pub later : known_after number known ≡ known_closers (marks_in kind after)

pub known_here : (kind : SpanKind) (a : Numbered) (after : List Numbered) (m : SpanMark) (known : List KnownCloser)
    → KnowsClosers kind known (a ∷ after) → mark_at kind a.number a.item.body ≡ Some m →
    KnownHere kind a.number m after known
known_here kind a after m known k is =
    let parts : known ≡ k.passed ++ known_closers (m ∷ marks_in kind after) =
    k.closers ∙ ap (λ (o : Option SpanMark). k.passed ++ known_closers (option_to_list o ++ marks_in kind after)) is in
    let it : (m.number == a.number) ≡ true = eq-eqb m.number a.number (mark_number kind a.number a.item.body m is) in
    record {
      closer = ap (known_closer a.number) parts
          ∙ (known_closer-past a after k.passed (known_closers (m ∷ marks_in kind after)) k.before ∙ rw it refl);
      later = ap (known_after a.number) parts
          ∙ (known_after-past a after k.passed (known_closers (m ∷ marks_in kind after)) k.before ∙ rw it refl);
    }

-- what was known of a chain from an item on is known of the items after it
before_next : (nodes : List (Node Item)) (n k : ℕ) (link : Option ℕ) (after : List Numbered) → k ≤ n →
    LeadsThrough nodes (suc n) link after → IsBefore after k
before_next nodes n k link [] le h = tt
before_next nodes n k link (a ∷ after) le h = omega (arith, h.1)

all_before_next : (nodes : List (Node Item)) (a : Numbered) (link : Option ℕ) (after : List Numbered)
    (passed : List KnownCloser)
    → LeadsThrough nodes (suc a.number) link after → AllBefore (a ∷ after) passed → AllBefore after passed
all_before_next nodes a link after [] h b = tt
all_before_next nodes a link after (k ∷ passed) h b =
    let below : k.number ≤ a.number = omega (arith, b.0) in
    (before_next nodes a.number k.number link after below h, all_before_next nodes a link after passed h b.1)

all_before-push : (chain : List Numbered) (passed : List KnownCloser) (k : KnownCloser) → AllBefore chain passed →
    IsBefore chain k.number → AllBefore chain (passed ++ k ∷ [])
all_before-push chain [] k b h = (h, tt)
all_before-push chain (j ∷ passed) k b h = (b.0, all_before-push chain passed k b.1 h)

knows_next : (kind : SpanKind) (nodes : List (Node Item)) (a : Numbered) (link : Option ℕ) (after : List Numbered)
    (known : List KnownCloser)
    → LeadsThrough nodes (suc a.number) link after → KnowsClosers kind known (a ∷ after) → KnowsClosers kind known after
knows_next kind nodes a link after known h k = cases (mark_at kind a.number a.item.body) refl
  where
    cases : (o : Option SpanMark) → mark_at kind a.number a.item.body ≡ o → KnowsClosers kind known after
    cases None e = record {
      passed = k.passed;
      before = all_before_next nodes a link after k.passed h k.before;
      closers = k.closers ∙ ap (λ (o : Option SpanMark). k.passed ++ known_closers
          (option_to_list o ++ marks_in kind after)) e;
    }
    cases (Some m) e =
        let mine : KnownCloser = record { number = m.number; closer = first_with m.wanted (marks_in kind after) } in
        let le : m.number ≤ a.number = omega (arith, mark_number kind a.number a.item.body m e) in
        record {
          passed = k.passed ++ mine ∷ [];
          before = all_before-push after k.passed mine (all_before_next nodes a link after k.passed h k.before)
              (before_next nodes a.number m.number link after le h);
          closers = k.closers ∙ (ap (λ (o : Option SpanMark). k.passed ++ known_closers
              (option_to_list o ++ marks_in kind after)) e
              ∙ sym (append_assoc k.passed (mine ∷ []) (known_closers (marks_in kind after))));
        }

pub holds_next_of : (kind : SpanKind) (nodes : List (Node Item)) (a : Numbered) (link : Option ℕ)
    (after : List Numbered)
    (learned : Learned)
    → LeadsThrough nodes (suc a.number) link after → HoldsOf kind learned (a ∷ after) → HoldsOf kind learned after
holds_next_of kind nodes a link after None h k = tt
holds_next_of kind nodes a link after (Some known) h k = knows_next kind nodes a link after known h k

pub holds_next : (kind : SpanKind) (nodes : List (Node Item)) (ix : ℕ) (learned : Learned) → HasChain nodes (Some ix)
    → HoldsFrom kind learned nodes (Some ix) → HoldsFrom kind learned nodes (sibling_of nodes ix)
holds_next kind nodes ix learned h holds low after leads =
    let whole = from_opener nodes ix low after h leads in
    holds_next_of kind nodes (numbered nodes ix) (sibling_of nodes ix) after learned whole.4
    (holds ix (numbered nodes ix ∷ after) whole)

-- nothing was learned of it before, and all closers of it now
pub knows_all : (kind : SpanKind) (chain : List Numbered) (known : List KnownCloser) → known
    ≡ known_closers (marks_in kind chain) → KnowsClosers kind known chain
knows_all kind chain known e = record { passed = []; before = tt; closers = e }
