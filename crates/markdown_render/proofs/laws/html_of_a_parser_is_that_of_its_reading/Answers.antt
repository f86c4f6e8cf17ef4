use Rattle.markdown_render.proofs.RenderingLemmas.{of_all, of_deep, of_first, of_text}
use Rattle.markdown_render.proofs.laws.html_of_a_parser_is_that_of_its_reading.Goals as goal

pub returns-clause-document : goal.returns-clause-document
returns-clause-document g c s old new reads rendered =
    of_text g.F.BrokenLinkCallback.answers s c.args.parser.now old new reads rendered

pub returns-clause-rest : goal.returns-clause-rest
returns-clause-rest g c old new rendered = of_all g.F.BrokenLinkCallback.answers c.args.parser.now old new rendered

pub returns-clause-error : goal.returns-clause-error
returns-clause-error g c old new fault stopped = of_first g.F.BrokenLinkCallback.answers c.args.parser.now old new fault
    stopped

pub returns-clause-deep : goal.returns-clause-deep
returns-clause-deep g c old new deep = of_deep g.F.BrokenLinkCallback.answers c.args.parser.now old new deep
