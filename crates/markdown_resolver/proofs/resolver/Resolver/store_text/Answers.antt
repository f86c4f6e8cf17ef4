-- A text that is put in is found there, as it was made.
use Rattle.std.proofs.Common.{◌∙◌}
use Rattle.markdown_resolver.proofs.MarkupLemmas.{if_ok}
use Rattle.markdown_resolver.proofs.CodeSpanLemmas.{cow_stored, cow_text}
use Rattle.markdown_resolver.proofs.resolver.Resolver.store_text.Goals as goal

pub returns-clause-stored : goal.returns-clause-stored
returns-clause-stored g c =
    let made = c.in_ok-text.ensures in
    cow_stored c.args.place.now.text.now c.args.content.start c.args.content.end c.args.self.now.lookup.tables
    c.allocate_cow.new.self c.in_ok-text.text _ c.allocate_cow.result
    made.origin made.slice c.allocate_cow.ensures.number c.allocate_cow.ensures.put

pub returns-clause-text : goal.returns-clause-text
returns-clause-text g c =
    if_ok c.allocate_cow.result _ _ (λ cow same. λ tree rules stands gfm. same
    ∙ c.in_ok-text.ensures.value tree rules stands gfm)
    (cow_text c.args.self.now.lookup.tables c.allocate_cow.new.self c.in_ok-text.text c.allocate_cow.result
    c.allocate_cow.ensures.number c.allocate_cow.ensures.put)
