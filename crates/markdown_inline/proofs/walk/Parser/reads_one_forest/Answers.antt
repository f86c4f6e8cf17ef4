-- The invariant of a parser says it.
use Rattle.markdown_document.specs.Tables.{tables_of}
use Rattle.markdown_inline.proofs.OneForestLemmas.{one_forest}
use Rattle.markdown_inline.proofs.walk.Parser.reads_one_forest.Goals as goal

pub returns : goal.returns
returns g c =
    let p = c.args.self.now in
    one_forest p.resolver.text.now (tables_of p.resolver.lookup.tables) p.tree p.stands
