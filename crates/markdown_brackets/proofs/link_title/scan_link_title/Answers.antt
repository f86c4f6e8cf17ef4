use Rattle.std.proofs.lemmas.Str.{IsCharBoundary-after_ascii}
use Rattle.markdown_brackets.proofs.link_title.scan_link_title.Goals as goal

pub scan_title_text-requires-clause-start : goal.scan_title_text-requires-clause-start
scan_title_text-requires-clause-start g c =
    let ascii = c.in-Some.ensures.ascii in
    IsCharBoundary-after_ascii c.args.text.now c.args.at c.utf8.text ascii.0 ascii.1
