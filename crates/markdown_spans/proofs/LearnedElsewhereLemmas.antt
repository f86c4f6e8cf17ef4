-- What was learned of a chain, where the chain was read on by some items, or an arena was written before it: for those
-- who resolve a chain in place.
use Rattle.std.proofs.Common.{◌≡◌, ℕ, suc, List, [], ◌∷◌, ◌++◌, Option, Some, None, refl, subst, sym, ◌∙◌, ap}
use Rattle.markdown_base.specs.declared.item.Item.{Item}
use Rattle.markdown_base.specs.declared.node.Node.{Node}
use Rattle.markdown_base.specs.Arena.{sibling_of}
use Rattle.markdown_base.specs.BlockTree.{Numbered, item_at}
use Rattle.markdown_spans.specs.ChainInArena.{LeadsThrough}
use Rattle.markdown_spans.specs.SpanClosers.{AllBefore, HoldsFrom, HoldsOf, IsBefore, Learned}
use Rattle.markdown_spans.specs.SpanMarks.{known_closers, marks_in}
use Rattle.markdown_spans.proofs.LearnedLemmas.{holds_next_of}
use Rattle.markdown_spans.specs.declared.span_marks.KnownCloser.{KnownCloser}
use Rattle.markdown_spans.specs.declared.span_text.SpanKind.{SpanKind}

-- links lead through one list of items
pub one_chain : (nodes : List (Node Item)) (low low' : ℕ) (link : Option ℕ) (chain chain' : List Numbered) →
    LeadsThrough nodes low link chain
    → LeadsThrough nodes low' link chain' → chain ≡ chain'
one_chain nodes low low' link [] [] h h' = refl
one_chain nodes low low' link [] (b ∷ after') h h' = cc (h, h'.0)
one_chain nodes low low' link (a ∷ after) [] h h' = cc (h.0, h')
one_chain nodes low low' link (a ∷ after) (b ∷ after') h h' =
    let number : a.number ≡ b.number = cc (h.0, h'.0) in
    let item : a.item ≡ b.item = sym h.3 ∙ (ap (item_at nodes) number ∙ h'.3) in
    let same : a ≡ b = ap (λ (n : ℕ). let c : Numbered = record { number = n; item = a.item } in c) number
    ∙ ap (λ (i : Item). let c : Numbered = record { number = b.number; item = i } in c) item in
    let P : ℕ → Type 0 = λ n. LeadsThrough nodes (suc n) (sibling_of nodes n) after in
    let later : after ≡ after' = one_chain nodes (suc b.number) (suc b.number)
    (sibling_of nodes b.number) after after' (subst P number h.4) h'.4 in
    ap (λ (c : Numbered). c ∷ after) same ∙ ap (λ after. b ∷ after) later

pub holds_from : (kind : SpanKind) (nodes : List (Node Item)) (low : ℕ) (link : Option ℕ) (chain : List Numbered)
    (learned : Learned)
    → LeadsThrough nodes low link chain → HoldsOf kind learned chain → HoldsFrom kind learned nodes link
holds_from kind nodes low link chain learned h holds low' chain' h' =
    subst (HoldsOf kind learned) (one_chain nodes low low' link chain chain' h h') holds

-- it holds of the items after some
pub holds_past : (kind : SpanKind) (nodes : List (Node Item)) (low : ℕ) (link : Option ℕ)
    (passed rest : List Numbered) (learned : Learned)
    → LeadsThrough nodes low link (passed ++ rest) → HoldsOf kind learned (passed ++ rest) → HoldsOf kind learned rest
holds_past kind nodes low link [] rest learned h holds = holds
holds_past kind nodes low link (a ∷ passed) rest learned h holds =
    holds_past kind nodes (suc a.number) (sibling_of nodes a.number) passed rest learned h.4
    (holds_next_of kind nodes a (sibling_of nodes a.number) (passed ++ rest) learned h.4 holds)

-- the same for a chain with the same marks, if what precedes the one chain precedes the other
before_alike : (chain chain' : List Numbered) (known : List KnownCloser) →
    ((n : ℕ) → IsBefore chain n → IsBefore chain' n) → AllBefore chain known → AllBefore chain' known
before_alike chain chain' [] f b = tt
before_alike chain chain' (k ∷ known) f b = (f k.number b.0, before_alike chain chain' known f b.1)

pub holds_alike : (kind : SpanKind) (chain chain' : List Numbered) (learned : Learned) →
    ((n : ℕ) → IsBefore chain n → IsBefore chain' n)
    → marks_in kind chain ≡ marks_in kind chain' → HoldsOf kind learned chain → HoldsOf kind learned chain'
holds_alike kind chain chain' None f e k = tt
holds_alike kind chain chain' (Some known) f e k = record {
  passed = k.passed;
  before = before_alike chain chain' k.passed f k.before;
  closers = k.closers ∙ ap (λ marks. k.passed ++ known_closers marks) e;
}
