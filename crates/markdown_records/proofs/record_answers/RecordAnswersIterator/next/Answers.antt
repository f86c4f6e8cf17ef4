-- The first entry is an answer, or it is none.
use Rattle.std.proofs.Common.{ℕ, ◌∙◌, ap, refl, sym, ◌∷◌}
use Rattle.std.specs.Option.{option_map}
use Rattle.std.specs.declared.ops.Range.{Range}
use Rattle.markdown_records.specs.Decoded.{entry_in}
use Rattle.markdown_records.specs.EntryOf.{answer_view}
use Rattle.markdown_records.specs.RecordEntry as entry
use Rattle.markdown_records.specs.RecordEntry.{RecordEntry}
use Rattle.markdown_records.specs.GroupOf.{group_view}
use Rattle.markdown_records.specs.SaidBy.{list_or_none, said_entries}
use Rattle.markdown_records.proofs.AnswerLemmas.{answer_first, begins_as, goes_on, no_answer}
use Rattle.markdown_records.proofs.SaidLemmas.{first_said}
use Rattle.markdown_records.proofs.record_answers.RecordAnswersIterator.next.Goals as goal

pub invariant_of-self : goal.invariant_of-self
invariant_of-self c =
    let s = c.args.self.now.source.now in
    let p = c.args.self.now.pool.now in
    record { reads = (first_said s p (entry_in s p) c.args.self.now.reads c.in_ok-group.ensures).on }

pub returns-then-group-ne-ANSWER-clause-steps : goal.returns-then-group-ne-ANSWER-clause-steps
returns-then-group-ne-ANSWER-clause-steps c =
    let s = c.args.self.now.source.now in
    let p = c.args.self.now.pool.now in
    let f = first_said s p (entry_in s p) c.args.self.now.reads c.in_ok-group.ensures in (
      begins_as _ _ f.first f.all f.on
          ∙ no_answer s p (group_view c.in_ok-group.group) f.first f.is c.if-group-ne-ANSWER.true,
      refl,
    )

pub returns-clause-steps : goal.returns-clause-steps
returns-clause-steps c =
    let s = c.args.self.now.source.now in
    let p = c.args.self.now.pool.now in
    let f = first_said s p (entry_in s p) c.args.self.now.reads c.in_ok-group.ensures in
    let rest = list_or_none (said_entries s p c.in_ok-group.rest.now) in
    let given = option_map answer_view c.in_ok-answer.answer in
    goes_on _ _ f.first f.all f.on
    ∙ ap (λ (v : RecordEntry). v ∷ rest)
    (answer_first s p (group_view c.in_ok-group.group) f.first given f.is c.if-group-ne-ANSWER.false
    (sym c.in_ok-answer.ensures))
    ∙ ap (λ (r : Range ℕ). entry.answer_entry r given ∷ rest) (sym c.span.ensures)
