-- The last flag is taken off.
use Rattle.std.proofs.Common.{refl, false, rules}
use Rattle.markdown_plain.proofs.OpenListsLemmas.{list_closed, some_flag}
use Rattle.markdown_plain.specs.declared.looseness.Looseness.{Looseness}
use Rattle.markdown_plain.proofs.looseness.Looseness.close_list.Goals as goal

pub returns-in-Some-clause-ends : goal.returns-in-Some-clause-ends
returns-in-Some-clause-ends c = λ frames f inside list before.
    let old = c.args.self.now in let new : Looseness = record old { lists = c.pop.new.self; item_is_empty = false } in
    list_closed old new c.in-Some.loose frames f inside c.in-Some.ensures.items refl list before

pub returns-in-None-clause-ends : goal.returns-in-None-clause-ends
returns-in-None-clause-ends c = λ frames f inside list before.
    absurd (some_flag c.args.self.now frames f inside list before (search rules))
