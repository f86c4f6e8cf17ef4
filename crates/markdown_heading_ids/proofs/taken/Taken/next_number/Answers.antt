-- A number more is passed over where its id is taken, and is the next where it is not.
use Rattle.std.proofs.Common.{rules, arith, ◌≡◌, ◌+◌, true, false, is_some, string_bytes, inl, inr}
use Rattle.std.specs.BTreeMap.{get_by_text}
use Rattle.std.proofs.lemmas.Bool.{cases_eq}
use Rattle.markdown_heading_ids.proofs.TakenLemmas.{none_of}
use Rattle.markdown_heading_ids.proofs.taken.Taken.next_number.Goals as goal

pub returns-then-not-contains_key-clause-number : goal.returns-then-not-contains_key-clause-number
returns-then-not-contains_key-clause-number c =
    let inv = c.loop-number.invariant in
    let free : is_some (get_by_text c.args.self.now.numbers (string_bytes c.in_ok-id.id)) ≡ false = search rules in
    record {
      later = omega (arith, inv.from);
      small = omega (arith, c.loop-number-test.true, c.len-number-end.ensures.small);
      free = none_of _ (rw c.in_ok-id.ensures.id at free);
      passed = λ n after before. inv.passed n after (omega (arith, before));
    }

pub loop-number-preserved : goal.loop-number-preserved
loop-number-preserved c =
    let inv = c.loop-number.invariant in
    let held : is_some (get_by_text c.args.self.now.numbers (string_bytes c.in_ok-id.id)) ≡ true = search rules in
    record {
      from = omega (arith, inv.from);
      passed = λ n after within. elim (cases_eq n (c.loop-number.number + 1)) [
        | inl here ↦ rw here (rw c.in_ok-id.ensures.id at held)
        | inr before ↦ inv.passed n after (omega (arith, within, before))
      ];
    }
