-- A list that begins is tight.
use Rattle.std.proofs.Common.{◌≡◌, ◌++◌, ◌∷◌, [], false, true, refl, rules}
use Rattle.markdown_plain.proofs.OpenListsLemmas.{list_begun}
use Rattle.markdown_plain.specs.declared.looseness.Looseness.{Looseness}
use Rattle.markdown_plain.proofs.looseness.Looseness.open_list.Goals as goal

pub returns-clause-begins : goal.returns-clause-begins
returns-clause-begins c = λ frames inside list item.
    let old = c.args.self.now in let new : Looseness = record old { lists = c.push.new.self; item_is_empty = true } in
    let more : new.lists.items ≡ old.lists.items ++ false ∷ [] = search rules in
    list_begun old new frames inside list item more refl
