-- The entity is the one that the definition reads, and ends between characters.
use Rattle.markdown_items.specs.Found.{entity_at}
use Rattle.markdown_items.proofs.ItemLemmas.{entity_fits, entity_found_is, entity_none_is}
use Rattle.markdown_items.proofs.found.find_entity.Goals as goal

pub returns-in-Some-clause-value : goal.returns-in-Some-clause-value
unfolding entity_at
returns-in-Some-clause-value c =
    let bytes = c.as_bytes.ensures.value in
    entity_found_is c.args.at _ c.in-Some.length _ (rw bytes at c.in-Some.ensures.value)

pub returns-in-None-clause-value : goal.returns-in-None-clause-value
unfolding entity_at
returns-in-None-clause-value c =
    let bytes = c.as_bytes.ensures.value in
    entity_none_is c.args.at _ (rw bytes at c.in-None.ensures.value)

pub returns-in-Some-clause-fits : goal.returns-in-Some-clause-fits
returns-in-Some-clause-fits c =
    let bytes = c.as_bytes.ensures.value in
    let fits = entity_fits c.args.line.extensions.names c.args.text.now c.args.line c.args.at c.in-Some.length _
    c.utf8.text c.requires
    (rw bytes at c.entity_begins_and_ends.ensures) (rw bytes at c.in-Some.ensures.value)
    (rw bytes at c.in-Some.ensures.within) in
    (fits.0, fits.1, c.in-Some.ensures.few)
