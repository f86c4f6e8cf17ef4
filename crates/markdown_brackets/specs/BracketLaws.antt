-- Laws of brackets, in a reader's words.
use Rattle.std.specs.Prelude.{◌≡◌, ◌+◌, ◌-◌, ◌≤◌, ◌++◌, length}
use Rattle.markdown_base.specs.Forest.{Forest}
use Rattle.markdown_base.specs.Questions.{Answers}
use Rattle.markdown_document.specs.Document.{TreeNode}
use Rattle.markdown_brackets.specs.BracketDecision.{BracketContext, Closing, Progress, Step}
use Rattle.markdown_brackets.specs.ClosingBracket.{closed}
use Rattle.markdown_brackets.specs.ReadChain.{Reader, read_chain}

-- the same progress, with more answers to be given at the end
abbrev pub with_later : {A : Type 0} → Answers → Progress A → Progress A
with_later later p = record p { state = record p.state { answers = p.state.answers ++ later } }

-- a step in reading a chain asks questions, and each takes one answer, as long as there are any; if each question has
-- an answer, the step has the same effect whatever answers follow, and leaves those
pub record HandsOn {A : Type 0} (step : Step A) (p : Progress A) : Type 0 where
  pub asks : length p.asked ≤ length (step p).asked
  pub takes : length (step p).state.answers ≡ length p.state.answers - (length (step p).asked - length p.asked)
  pub hands_on : (later : Answers) → length (step p).asked ≤ length p.asked + length p.state.answers
      → step (with_later later p) ≡ with_later later (step p)

-- a `]` is such a step, asks at most one question, and asks none if references may not expand to any more bytes
pub record ClosesInOne {A : Type 0} (w : BracketContext) (c : Closing A) (p : Progress A) : Type 0 where
  pub once : length (closed w c p).asked ≤ length p.asked + 1
  pub silent : p.state.limit ≡ 0 → length (closed w c p).asked ≡ length p.asked
  pub hands_on : HandsOn (closed w c) p

-- this holds whatever was read before the `]`
abbrev pub ClosedLaw : Type 0 → Type 0
ClosedLaw A = (w : BracketContext) (c : Closing A) (p : Progress A) → ClosesInOne w c p

-- reading a whole chain is such a step, if the rule for items other than brackets is
abbrev pub ChainLaw : Type 0 → Type 0
ChainLaw A = (w : BracketContext) (others : Reader A)
    → ((a : TreeNode A) (below rest : Forest (TreeNode A)) (p : Progress A) → HandsOn (others a below rest) p)
    → (chain : Forest (TreeNode A)) (p : Progress A) → HandsOn (read_chain w others chain) p
