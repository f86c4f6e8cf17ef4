-- The parts of the tag are those of the link.
use Rattle.std.proofs.Common.{sym, ap}
use Rattle.markdown_base.specs.Event.{link}
use Rattle.markdown_document.specs.Tables.{tables_of}
use Rattle.markdown_inline.proofs.TakingLemmas.{leads_from, link_at-read, titles_at-read}
use Rattle.markdown_inline.proofs.bodies.link_tag.Goals as goal

pub returns-clause-tag : goal.returns-clause-tag
returns-clause-tag c = ap link
    (sym (link_at-read c.args.tables.now.links c.args.ix.0 c.take_link-link_type.result c.requires
    c.take_link-link_type.ensures.taken))

pub returns-clause-from : goal.returns-clause-from
returns-clause-from c source start end slices =
    leads_from source start end (tables_of c.args.tables.now) c.args.ix.0 c.take_link-link_type.result c.requires
    c.take_link-link_type.ensures.taken
    slices

pub returns-clause-titles : goal.returns-clause-titles
returns-clause-titles c =
    sym (titles_at-read c.args.tables.now.links c.args.ix.0 c.take_link-link_type.result c.requires
    c.take_link-link_type.ensures.taken)
