-- The other laws of resolving, each by what pass one makes of the chain, and by the law of pairing.
use Rattle.std.proofs.Common.{◌≡◌, ◌≤◌, [], ◌∷◌, ◌++◌, length, refl, ap, ◌∙◌, arith}
use Rattle.markdown_base.specs.Forest.{Forest}
use Rattle.markdown_base.specs.Questions.{Answers}
use Rattle.markdown_brackets.specs.BracketDecision.{Progress}
use Rattle.markdown_brackets.specs.ReadChain.{begun}
use Rattle.markdown_document.specs.EnclosingBlocks.{EnclosingBlocks}
use Rattle.markdown_document.specs.Document.{Notes, TreeNode}
use Rattle.markdown_document.specs.TreeNodes.{weight, annotated}
use Rattle.markdown_document.specs.Setting.{Setting, ReferenceState}
use Rattle.markdown_delims.proofs.LawLemmas.{tag-law}
use Rattle.markdown_delims.proofs.WeightLawLemmas.{weight-law}
use Rattle.markdown_resolver.specs.Laws.{Follows, with_answers}
use Rattle.markdown_resolver.specs.PassOne.{Outcome, outcome, pass_one, read_on}
use Rattle.markdown_resolver.specs.Resolved.{resolved, then_paired}
use Rattle.markdown_resolver.proofs.PassOneLemmas.{pass_one-annotate, pass_one-weight, read_hands_on}

-- each question takes one answer, and pairing asks nothing
none_left : (l : Answers) → length l ≡ 0 → (later : Answers) → l ++ later ≡ later
none_left [] e later = refl
none_left (a ∷ l) e later = absurd (omega (arith, e))

pub answers_handed_on : {A : Type 0} (s : Setting) (notes : Notes A) (above : EnclosingBlocks)
    (chain : Forest (TreeNode A)) (state : ReferenceState) (answers later : Answers)
    → length (resolved s notes above chain (with_answers answers state)).questions ≡ length answers
    → resolved s notes above chain (with_answers (answers ++ later) state) ≡ record {
      questions = (resolved s notes above chain (with_answers answers state)).questions;
      forest = (resolved s notes above chain (with_answers answers state)).forest;
      state = with_answers later (resolved s notes above chain (with_answers answers state)).state;
    }
unfolding resolved pass_one
answers_handed_on {A} s notes above chain state answers later e =
    let p : Progress A = begun (with_answers answers state) in
    let q : Progress A = read_on s notes above chain p in
    let read = read_hands_on s notes above chain p in
    let none : length q.state.answers ≡ 0 = omega (arith, read.takes, e) in
    ap (λ (q : Progress A). then_paired s (outcome q)) (read.hands_on later (omega (arith, e)))
    ∙ ap (λ l. then_paired s (outcome (record q { state = record q.state { answers = l } })))
    (none_left q.state.answers none later)

-- neither pass makes a chain heavier
pub no_heavier : {A : Type 0} (s : Setting) (notes : Notes A) (above : EnclosingBlocks) (chain : Forest (TreeNode A))
    (state : ReferenceState) → weight (resolved s notes above chain state).forest ≤ weight chain
unfolding resolved
no_heavier s notes above chain state =
    let read = pass_one-weight s notes above chain state in
    let pairs = weight-law s (pass_one s notes above chain state).forest in
    omega arith

-- neither depends on notes
pub same_notes : {A B : Type 0} (f : A → B) (s : Setting) (notes : Notes A) (notes' : Notes B) → Follows f notes notes'
    → (above : EnclosingBlocks) (chain : Forest (TreeNode A)) (state : ReferenceState) → resolved s notes' above
    (annotated f chain) state
    ≡ record {
      questions = (resolved s notes above chain state).questions;
      forest = annotated f (resolved s notes above chain state).forest;
      state = (resolved s notes above chain state).state;
    }
unfolding resolved
same_notes {B = B} f s notes notes' follows above chain state =
    let r = pass_one s notes above chain state in
    ap (then_paired s) (pass_one-annotate f s notes notes' follows above chain state)
    ∙ ap (λ (g : Forest (TreeNode B)). let o : Outcome B = record {
      questions = r.questions;
      forest = g;
      state =
          r.state;
    }
    in o) (tag-law f s r.forest)
