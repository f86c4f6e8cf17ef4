-- What a callback is asked between two states of it, and what it answers.
use Rattle.std.proofs.Common.{◌≡◌, ◌∙◌, ◌++◌, ◌∷◌, ℕ, List, [], Ok, Option, Some, None, ap, ap₂, drop, false, length}
use Rattle.std.proofs.Common.{map, append-nil, append_assoc, refl, subst, sym, MatchOption}
use Rattle.std.specs.Borrow.{Bor}
use Rattle.std.proofs.lemmas.List.{drop-map, length-map}
use Rattle.std.proofs.Math.Seq.{drop-append_seam}
use Rattle.markdown_base.specs.Questions.{Answer, Answers, Question}
use Rattle.markdown_defs.specs.Callback.{Asks}
use Rattle.markdown_defs.specs.CallbackViews.{question_of}
use Rattle.markdown_defs.specs.declared.callback.BrokenLink.{BrokenLink}
use Rattle.markdown_text_records.specs.AnswerTable.{Table, answers_by}
use Rattle.markdown_text_records.specs.AnsweringView.{AnswersByTable, table_left}
use Rattle.markdown_text_records.specs.Recording.{KeptAll, asked_by, asked_number}
use Rattle.markdown_text_records.specs.declared.answering.Answering.{Answering}

-- calls lead to a callback that keeps what was asked, and the answers are those of the table
pub record AskedAll (old : Answering) (questions : List Question) (answers : Answers)
    (new : Option Answering) : Type 0 where
  pub last : Answering
  pub is : new ≡ Some last
  pub by_table : answers ≡ answers_by (table_left old) questions
  pub kept : last.is_refused ≡ false → (old.is_refused ≡ false)
      × (map question_of last.asked.items ≡ map question_of old.asked.items ++ questions)

answered_more : (table : Table) (q : Question) (questions : List Question)
    → answers_by table (q ∷ questions) ≡ answers_by table (q ∷ []) ++ answers_by (drop 1 table) questions
answered_more [] q questions = refl
answered_more (a ∷ table) q questions = refl

pub asked_all : (old : Answering) (questions : List Question) (answers : Answers) (new : Option Answering)
    → Asks AnswersByTable (Some old) questions answers new → AskedAll old questions answers new
asked_all old [] [] new asked = record {
  last = old;
  is = sym asked;
  by_table = refl;
  kept = λ whole. (whole, sym (append-nil (map question_of old.asked.items)));
}
asked_all old [] (a ∷ answers) new asked = absurd asked
asked_all old (q ∷ questions) [] new asked = absurd asked
asked_all old (q ∷ questions) (a ∷ answers) new (then, step, asked) =
    let rest = asked_all then questions answers new asked in
    record {
      last = rest.last;
      is = rest.is;
      by_table = ap₂ (λ xs ys. xs ++ ys) step.by_table (rest.by_table
          ∙ ap (λ table. answers_by table questions) step.left)
          ∙ sym (answered_more (table_left old) q questions);
      kept = λ whole.
          let later = rest.kept whole in
          let first = step.kept later.0 in (
            first.0,
            later.1 ∙ ap (λ qs. qs ++ questions) first.1
                ∙ append_assoc (map question_of old.asked.items) (q ∷ []) questions,
          );
    }

-- the callback of a walk, as it is lent
abbrev pub IsLent : Option (Bor Answering) → Option Answering → Type 0
IsLent lent callback = MatchOption lent (callback ≡ None) (λ c. callback ≡ Some c.now)

-- without a callback nothing is asked
asked_none : (old new : Option Answering) (questions : List Question) (answers : Answers) → old ≡ None
    → Asks AnswersByTable old questions answers new → (questions ≡ []) × (new ≡ None)
asked_none old new [] [] is asked = (refl, sym asked ∙ is)
asked_none old new [] (a ∷ answers) is asked = absurd asked
asked_none old new (q ∷ questions) [] is asked = absurd asked
asked_none old new (q ∷ questions) (a ∷ answers) is asked = absurd (rw is at asked)

-- the questions between two states are those after the ones that were asked before
pub asked_between : (before after : Option (Bor Answering)) (old new : Option Answering) (questions : List Question)
    (answers : Answers) → IsLent before old → IsLent after new → KeptAll after
    → Asks AnswersByTable old questions answers new
    → map question_of (drop (asked_number before) (asked_by after)) ≡ questions
asked_between None None old new questions answers is was all asked =
    let nothing = asked_none old new questions answers is asked in
    sym nothing.0
asked_between None (Some d) old new questions answers is was all asked =
    let nothing = asked_none old new questions answers is asked in
    let gone = nothing.1 in
    absurd (cc (gone, was))
asked_between (Some c) None old new questions answers is was all asked =
    let more = asked_all c.now questions answers new (rw is at asked) in
    let there = more.is in
    absurd (cc (there, was))
asked_between (Some c) (Some d) old new questions answers is was all asked =
    let more = asked_all c.now questions answers new (rw is at asked) in
    let there = more.is in
    let same : more.last ≡ d.now = cc (there, was) in
    let whole = subst (λ (l : Answering). l.is_refused ≡ false → (c.now.is_refused ≡ false)
    × (map question_of l.asked.items ≡ map question_of c.now.asked.items ++ questions)) same more.kept all in
    sym (drop-map question_of (length c.now.asked.items) d.now.asked.items)
    ∙ ap₂ drop (sym (length-map c.now.asked.items question_of)) whole.1
    ∙ drop-append_seam (map question_of c.now.asked.items) questions
