-- The last flag is written.
use Rattle.std.proofs.Common.{◌<◌, true, length, arith}
use Rattle.std.proofs.lemmas.List.{length_push}
use Rattle.markdown_plain.proofs.OpenListsLemmas.{last_set}
use Rattle.markdown_plain.proofs.looseness.Looseness.loosen.Goals as goal

pub returns-clause-loose : goal.returns-clause-loose
returns-clause-loose c = λ outer before e.
    let more = length_push outer before in
    let some : 0 < length c.args.self.now.lists.items = rw e (omega (arith, more)) in
    rw e (last_set outer before true _ (rw (← e) (omega (arith, some))))
