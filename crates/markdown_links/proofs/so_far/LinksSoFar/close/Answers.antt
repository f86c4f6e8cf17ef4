-- The innermost of those that are open has its end, or none is open.
use Rattle.std.proofs.Common.{◌≡◌, ap, arith, length, refl}
use Rattle.std.proofs.lemmas.List.{nil_from_length}
use Rattle.markdown_links.proofs.FoundLinksLemmas.{changed_at, ended_all, ended_kept, innermost_within}
use Rattle.markdown_links.proofs.FoundLinksLemmas.{nothing_ends}
use Rattle.markdown_links.proofs.so_far.LinksSoFar.close.Goals as goal

pub index_mut-requires : goal.index_mut-requires
index_mut-requires c =
    let last = rw c.in-Some.is at c.pop.ensures.items in
    let within = innermost_within c.args.self.now c.pop.new.self.items c.in-Some.innermost c.requires last in
    omega (arith, within, c.args.self.now.found.ok.0)

pub returns-in-Some-clause-kept : goal.returns-in-Some-clause-kept
returns-in-Some-clause-kept c =
    let last = rw c.in-Some.is at c.pop.ensures.items in
    ended_kept c.args.self.now _ c.in-Some.innermost c.index_mut.result.now c.requires last refl
    (changed_at c.args.self.now.found.items c.in-Some.innermost c.index_mut.result.now _ _ c.index_mut.ensures.value
    (ap length c.as_bytes.ensures.value))

pub returns-in-Some-clause-ends : goal.returns-in-Some-clause-ends
returns-in-Some-clause-ends c =
    let last = rw c.in-Some.is at c.pop.ensures.items in
    ended_all c.args.self.now c.pop.new.self.items _ c.in-Some.innermost c.index_mut.result.now c.requires last
    (changed_at c.args.self.now.found.items c.in-Some.innermost c.index_mut.result.now _ _ c.index_mut.ensures.value
    (ap length c.as_bytes.ensures.value))

pub returns-in_default-clause-ends : goal.returns-in_default-clause-ends
returns-in_default-clause-ends c = λ e h later.
    let empty = rw c.in_default.is at c.pop.ensures.cases in
    let none : length c.args.self.now.open.items ≡ 0 = omega (arith, empty.0, c.args.self.now.open.ok.0) in
    nothing_ends c.args.self.now c.requires (nil_from_length c.args.self.now.open.items none) e h later
