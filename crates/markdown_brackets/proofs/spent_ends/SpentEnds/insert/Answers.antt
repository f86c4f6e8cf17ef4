use Rattle.std.proofs.Common.{Ok, sym, is_ok}
use Rattle.markdown_brackets.proofs.SpentEndsLemmas.{in_already, inserted_in, ordered_insert, search_finds}
use Rattle.markdown_brackets.proofs.spent_ends.SpentEnds.insert.Goals as goal

pub invariant_of-self-in-Err : goal.invariant_of-self-in-Err
invariant_of-self-in-Err c =
    let spent = c.args.self.now in
    record {
      sorted = rw c.insert.ensures.items (ordered_insert spent.ends.items c.args.end spent.sorted c.in-Err.at
          (rw (c.deref.ensures.value, c.in-Err.is) at c.binary_search.ensures.position) (is_ok c.insert.result));
    }

pub returns-in_ok-insert-clause-put : goal.returns-in_ok-insert-clause-put
returns-in_ok-insert-clause-put c other = rw c.in_ok-insert.ensures.items
    (inserted_in c.args.self.now.ends.items c.args.end c.in-Err.at other)

pub returns-in_default-clause-put : goal.returns-in_default-clause-put
returns-in_default-clause-put c =
    let spent = c.args.self.now in
    in_already spent.ends.items c.args.end (sym (search_finds spent.ends.items c.args.end spent.sorted
    (Ok c.in_default.field-0) (rw (c.deref.ensures.value, c.in_default.is) at c.binary_search.ensures.position)))
