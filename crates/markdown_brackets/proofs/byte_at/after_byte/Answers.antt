use Rattle.std.proofs.Common.{◌<◌, get_or, arith}
use Rattle.std.proofs.lemmas.Str.{IsCharBoundary-after_ascii}
use Rattle.markdown_brackets.proofs.byte_at.after_byte.Goals as goal

pub range_from-requires : goal.range_from-requires
range_from-requires c _ =
    let here = c.stands_at.ensures.here c.if-stands_at.true in
    let ascii : get_or c.args.text.now 0 0 < 128 = omega (arith, here.1, c.requires.ascii) in
    IsCharBoundary-after_ascii c.args.text.now 0 c.utf8.text here.0 ascii
