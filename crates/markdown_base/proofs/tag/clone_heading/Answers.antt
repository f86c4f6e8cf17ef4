use Rattle.std.proofs.Common.{flat_map}
use Rattle.std.specs.Option.{option_to_list}
use Rattle.markdown_base.specs.CopiedTexts.{texts_of_attribute}
use Rattle.markdown_base.proofs.CopiedTextsLemmas.{keeps-append}
use Rattle.markdown_base.proofs.tag.clone_heading.Goals as goal

pub returns-clause-slices : goal.returns-clause-slices
returns-clause-slices c =
    keeps-append (option_to_list c.args.id.now) (option_to_list c.in_ok-id.id) _ _ c.in_ok-id.ensures.slices
    (keeps-append c.args.classes.now c.in_ok-classes.classes.items
    (flat_map texts_of_attribute c.args.attrs.now) (flat_map texts_of_attribute c.in_ok-attrs.attrs.items)
    c.in_ok-classes.ensures.slices c.in_ok-attrs.ensures.slices)
