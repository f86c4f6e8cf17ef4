-- An anchor that is not held is given as it is, and otherwise the one with the next number.
use Rattle.std.proofs.Common.{rules, ◌≡◌, ◌∙◌, None, Some, ap, string_bytes, subst, sym, ◌∷◌}
use Rattle.std.specs.BTreeMap.{get_by_text}
use Rattle.markdown_heading_ids.specs.Anchors.{heading_anchor}
use Rattle.markdown_heading_ids.specs.HeadingIds.{anchor_id, free_id}
use Rattle.markdown_heading_ids.specs.TakenIds.{IsNextNumber, SetsNumber, StandsFor}
use Rattle.markdown_heading_ids.proofs.TakenLemmas.{gives_next, gives_plain, stands_first, stands_next}
use Rattle.markdown_heading_ids.proofs.taken.Taken.give.Goals as goal

pub returns-in_ok-set-in-None-clause-id : goal.returns-in_ok-set-in-None-clause-id
returns-in_ok-set-in-None-clause-id c = λ taken st.
    let none : get_by_text c.args.self.now.numbers (string_bytes c.in_ok-anchor.anchor) ≡ None = search rules in
    c.in_ok-anchor.ensures.anchor
    ∙ gives_plain c.args.self.now taken (heading_anchor c.args.words.now) st (rw c.in_ok-anchor.ensures.anchor at none)

pub returns-in_ok-set-in-None-clause-taken : goal.returns-in_ok-set-in-None-clause-taken
returns-in_ok-set-in-None-clause-taken c = λ taken st.
    let sets = subst (λ a. SetsNumber c.args.self.now c.set.new.self a 0) c.as_str-in-None.ensures.value
    c.in_ok-set-in-None.ensures.sets in
    stands_first c.args.self.now c.set.new.self taken (string_bytes c.in_ok-anchor.anchor) sets st

pub returns-in_ok-set-in-Some-2-clause-id : goal.returns-in_ok-set-in-Some-2-clause-id
returns-in_ok-set-in-Some-2-clause-id c = λ taken st.
    let is : get_by_text c.args.self.now.numbers (string_bytes c.in_ok-anchor.anchor) ≡ Some c.in-Some.last =
    search rules in
    let next = subst (λ a. IsNextNumber c.args.self.now a c.in-Some.last c.in_ok-number-in-Some.number)
    c.as_str-in-Some.ensures.value c.in_ok-number-in-Some.ensures.number in
    c.in_ok-id-in-Some.ensures.id
    ∙ ap (λ a. anchor_id a c.in_ok-number-in-Some.number) c.as_str-in-Some-2.ensures.value
    ∙ gives_next c.args.self.now taken (string_bytes c.in_ok-anchor.anchor) c.in-Some.last
    c.in_ok-number-in-Some.number st is next
    ∙ ap (free_id taken) c.in_ok-anchor.ensures.anchor

pub returns-in_ok-set-in-Some-2-clause-taken : goal.returns-in_ok-set-in-Some-2-clause-taken
returns-in_ok-set-in-Some-2-clause-taken c = λ taken st.
    let anchor = string_bytes c.in_ok-anchor.anchor in
    let last = c.in-Some.last in
    let number = c.in_ok-number-in-Some.number in
    let is : get_by_text c.args.self.now.numbers anchor ≡ Some last = search rules in
    let next = subst (λ a. IsNextNumber c.args.self.now a last number)
    c.as_str-in-Some.ensures.value c.in_ok-number-in-Some.ensures.number in
    let id : string_bytes c.in_ok-id-in-Some.id ≡ anchor_id anchor number =
    c.in_ok-id-in-Some.ensures.id ∙ ap (λ a. anchor_id a number) c.as_str-in-Some-2.ensures.value in
    let first = subst (λ i. SetsNumber c.args.self.now c.set-in-Some.new.self i 0)
    (c.as_str-in-Some-3.ensures.value ∙ id) c.in_ok-set-in-Some.ensures.sets in
    let second = subst (λ a. SetsNumber c.set-in-Some.new.self c.set-in-Some-2.new.self a number)
    c.as_str-in-Some-4.ensures.value c.in_ok-set-in-Some-2.ensures.sets in
    subst (λ i. StandsFor c.set-in-Some-2.new.self (i ∷ taken)) (sym id)
    (stands_next c.args.self.now taken anchor last number st is next c.set-in-Some.new.self c.set-in-Some-2.new.self
    first second)
