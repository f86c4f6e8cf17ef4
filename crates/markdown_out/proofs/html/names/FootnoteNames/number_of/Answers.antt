-- A known name is at its position, and its entry stays as it was; a new one is added after all others.
use Rattle.std.proofs.Common.{rules, ◌≡◌, ◌+◌, ◌++◌, ◌∷◌, [], length, None, Some, sym, ap, ◌∙◌, arith}
use Rattle.std.proofs.lemmas.Grind.{common_steps}
use Rattle.std.specs.BTreeMap.{get, insert_entry, Updates}
use Rattle.std.specs.List.{list_any, position_or_len}
use Rattle.markdown_base.specs.CowText.{text_of}
use Rattle.markdown_out.specs.FootnoteNames.{name_cmp, names_in}
use Rattle.markdown_out.specs.LookBacks.{are_same_names}
use Rattle.markdown_out.proofs.FootnoteNamesLemmas.{known_name, new_place, names_in-inserted, IsNumbered-inserted}
use Rattle.markdown_out.proofs.FootnoteNamesLemmas.{insert_same, with_known}
use Rattle.markdown_out.proofs.FootnoteNamesLemmas.{with_new}
use Rattle.markdown_out.proofs.html.names.FootnoteNames.number_of.Goals as goal
use Rattle.markdown_out.proofs.html.names.FootnoteNames.number_of.Goals.{in-Occupied, in-Vacant}

pub overflow_add-result : goal.overflow_add-result
overflow_add-result c =
    let found : get name_cmp c.self.inside.places c.args.name ≡ Some c.into_mut.result.now = search rules in
    let k = known_name c.args.name c.self.inside.places.entries c.into_mut.result.now c.self.invariant found in
    omega (arith, k.small, c.len-count.ensures.len, c.len-count.ensures.small)

pub invariant_of-self-2 : goal.invariant_of-self-2
invariant_of-self-2 c =
    let es = c.self.inside.places.entries in
    elim c.match-branch-2.branch [
      | in-Occupied w ↦
          let found : get name_cmp c.self.inside.places c.args.name ≡ Some w.into_mut.result.now = search rules in
          let made : c.match-branch-2.self-inside.places.entries
          ≡ insert_entry name_cmp es c.args.name w.into_mut.result.now = search rules
          in
          let size : length c.match-branch-2.self-inside.places.entries
          ≡ length es = first_of (search rules, grind (arith, common_steps))
          in
          rw (made ∙ insert_same c.args.name w.into_mut.result.now es found (sym (ap length made) ∙ size))
          c.self.invariant
      | in-Vacant w ↦
          let absent : get name_cmp c.self.inside.places c.args.name ≡ None = search rules in
          let made : c.match-branch-2.self-inside.places.entries
          ≡ insert_entry name_cmp es c.args.name c.len-count.result = search rules in
          let updates : Updates name_cmp c.self.inside.places c.match-branch-2.self-inside.places c.args.name
          (Some c.len-count.result) =
          search rules in
          let at = c.len-count.ensures.len in
          IsNumbered-inserted c.args.name es c.match-branch-2.self-inside.places.entries c.self.invariant absent
          (made ∙ ap (insert_entry name_cmp es c.args.name) at) (rw at at updates.0)
    ]

pub returns-clause-number : goal.returns-clause-number
returns-clause-number c =
    let es = c.self.inside.places.entries in
    let t = are_same_names (text_of c.args.name.text) in
    elim c.match-branch-2.branch [
      | in-Occupied w ↦
          let found : get name_cmp c.self.inside.places c.args.name ≡ Some w.into_mut.result.now = search rules in
          let k = known_name c.args.name es w.into_mut.result.now c.self.invariant found in
          rw w.result-is (ap (λ n. n + 1) (k.place ∙ ap (position_or_len t) c.self.view_is))
      | in-Vacant w ↦
          let absent : get name_cmp c.self.inside.places c.args.name ≡ None = search rules in
          let k = new_place c.args.name es c.self.invariant absent in
          rw w.result-is (ap (λ n. n + 1) (c.len-count.ensures.len ∙ (k.place ∙ ap (position_or_len t) c.self.view_is)))
    ]

pub returns-clause-known : goal.returns-clause-known
returns-clause-known c =
    let es = c.self.inside.places.entries in
    let name = text_of c.args.name.text in
    let t = are_same_names name in
    elim c.match-branch-2.branch [
      | in-Occupied w ↦
          let found : get name_cmp c.self.inside.places c.args.name ≡ Some w.into_mut.result.now = search rules in
          let made : c.match-branch-2.self-inside.places.entries
          ≡ insert_entry name_cmp es c.args.name w.into_mut.result.now = search rules
          in
          let size : length c.match-branch-2.self-inside.places.entries
          ≡ length es = first_of (search rules, grind (arith, common_steps))
          in
          let k = known_name c.args.name es w.into_mut.result.now c.self.invariant found in
          rw w.result-is (ap names_in
          (made ∙ insert_same c.args.name w.into_mut.result.now es found (sym (ap length made) ∙ size))
          ∙ (c.self.view_is ∙ sym (with_known name c.args.self.now (sym (ap (list_any t) c.self.view_is) ∙ k.known))))
      | in-Vacant w ↦
          let absent : get name_cmp c.self.inside.places c.args.name ≡ None = search rules in
          let made : c.match-branch-2.self-inside.places.entries
          ≡ insert_entry name_cmp es c.args.name c.len-count.result = search rules in
          let k = new_place c.args.name es c.self.invariant absent in
          rw w.result-is (ap names_in (made ∙ ap (insert_entry name_cmp es c.args.name) c.len-count.ensures.len)
          ∙ (names_in-inserted c.args.name es c.self.invariant absent ∙ (ap (λ names. names ++ name ∷ []) c.self.view_is
          ∙ sym (with_new name c.args.self.now (sym (ap (list_any t) c.self.view_is) ∙ k.new)))))
    ]
