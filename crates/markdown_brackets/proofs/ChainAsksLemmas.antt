-- Reading a chain asks on top of what was asked: no question is taken back, and none is put before another.
use Rattle.std.proofs.Common.{◌≡◌, List, [], ◌++◌, refl, sym, ◌∙◌, ap, append-nil, append_assoc}
use Rattle.markdown_base.specs.Forest.{Forest}
use Rattle.markdown_base.specs.Questions.{Question}
use Rattle.markdown_document.specs.Document.{TreeNode}
use Rattle.markdown_brackets.specs.BracketDecision.{BracketContext, Progress}
use Rattle.markdown_brackets.specs.ReadChain.{Reader, closing_of, read_chain}
use Rattle.markdown_brackets.proofs.AsksAboutLemmas.{closed_told}
use Rattle.markdown_brackets.proofs.ReadChainLemmas.{Reads, chain_keeps}
use Rattle.markdown_brackets.specs.ClosingBracket.{closed}

-- what was asked is what was asked before, and then more
pub record AsksMore {A : Type 0} (q p : Progress A) : Type 0 where
  pub more : List Question
  pub asked : q.asked ≡ p.asked ++ more

pub asks_nothing : {A : Type 0} (q p : Progress A) → q.asked ≡ p.asked → AsksMore q p
asks_nothing q p e = record { more = []; asked = e ∙ sym (append-nil p.asked) }

pub asks_on : {A : Type 0} (r q p : Progress A) → AsksMore r q → AsksMore q p → AsksMore r p
asks_on r q p later here = record {
  more = here.more ++ later.more;
  asked = later.asked ∙ ap (λ (asked : List Question). asked ++ later.more) here.asked
      ∙ append_assoc p.asked here.more later.more;
}

module _ {A : Type 0} (w : BracketContext) (others : Reader A)
    (rule : (a : TreeNode A) (below rest : Forest (TreeNode A)) (p : Progress A)
    → AsksMore (others a below rest p) p) where
  asks_reads : (p : Progress A) → Reads w others (λ chain q. AsksMore q p)
  asks_reads p = record {
    opens = λ i a below rest q h. record { more = h.more; asked = h.asked };
    closes = λ could a below rest q e h.
        let r = closed_told w (closing_of could a rest q) q in
        asks_on (closed w (closing_of could a rest q) q) q p (record { more = r.more; asked = r.asked }) h;
    other = λ a below rest q h. asks_on (others a below rest q) q p (rule a below rest q) h;
    passes = λ a below rest q h. h;
    cuts = λ i a below rest q h. record { more = h.more; asked = h.asked };
  }

  -- a chain
  pub read_asks : (chain : Forest (TreeNode A)) (p : Progress A) → AsksMore (read_chain w others chain p) p
  read_asks chain p = chain_keeps (asks_reads p) chain p (asks_nothing p p refl)
