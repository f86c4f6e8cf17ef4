-- Where memory is refused before a question was asked, the questions of the rest come first: reading a chain adds to
-- the questions that were asked.
use Rattle.std.proofs.Common.{◌≡◌, ℕ, List, [], ◌++◌, Option, refl, sym, ap, ◌∙◌, append-nil}
use Rattle.markdown_base.specs.Forest.{Forest}
use Rattle.markdown_base.specs.Questions.{Question, Answer}
use Rattle.markdown_brackets.specs.BracketDecision.{Progress}
use Rattle.markdown_brackets.specs.LeftList.{Entry}
use Rattle.markdown_brackets.specs.declared.spent_ends.SpentEnds.{SpentEnds}
use Rattle.markdown_brackets.proofs.ChainAsksLemmas.{AsksMore, asks_nothing, read_asks}
use Rattle.markdown_document.specs.EnclosingBlocks.{EnclosingBlocks}
use Rattle.markdown_document.specs.Document.{Plain, no_notes}
use Rattle.markdown_document.specs.Setting.{Setting}
use Rattle.markdown_document.specs.ResolverStates.{ResolverState, chain_at}
use Rattle.markdown_resolver.specs.PassOne.{bracket_context, read_other}
use Rattle.markdown_resolver.specs.ReadOn.{StopsOn, all_read, at_left}

pub all_asks : (s : Setting) (above : EnclosingBlocks) (chain : Forest Plain) (p : Progress (Unit {0}))
    → AsksMore (all_read s above chain p) p
all_asks s above chain p =
    let r = read_asks (bracket_context s above) (read_other s no_notes above)
    (λ a below rest q. asks_nothing (read_other s no_notes above a below rest q) q refl) chain p in
    record { more = r.more; asked = r.asked }

-- no question was asked
pub stops_here : {C : Type 0} (step : C → Question → Option Answer → C → Type 0) (s : Setting) (above : EnclosingBlocks)
    (at : Option ℕ) (left : List (Entry ℕ)) (old : ResolverState C) (spent : SpentEnds)
    (callback' : Option C) → callback' ≡ old.callback → StopsOn step s above at left old spent callback'
stops_here step s above at left old spent callback' same = record {
  answers = [];
  questions = [];
  asked = sym same;
  begins = λ p later are.
      let r = all_asks s above (chain_at s.text old at) (at_left left old later p) in
      (r.more, r.asked ∙ ap (λ (asked : List Question). asked ++ r.more) (sym (append-nil p.asked)));
}
