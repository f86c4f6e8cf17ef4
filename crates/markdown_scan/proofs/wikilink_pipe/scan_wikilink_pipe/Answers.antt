-- A pipe is ASCII: the text may be cut after it.
use Rattle.std.proofs.Common.{◌<◌, ◌+◌, ◌-◌, take, drop, arith, get_or}
use Rattle.markdown_scan.proofs.BoundaryLemmas.{after_ascii_of_part}
use Rattle.markdown_scan.proofs.wikilink_pipe.scan_wikilink_pipe.Goals as goal

pub returns-clause-boundary : goal.returns-clause-boundary
returns-clause-boundary c =
    let body = c.range-body.ensures.value in
    let bytes = c.as_bytes.ensures.value in
    let here = rw (bytes, body) at c.in_ok-name_length.ensures.here in
    let ascii : get_or (take (c.args.start + c.args.length - c.args.start) (drop c.args.start c.args.text.now))
    c.in_ok-name_length.name_length 0 < 128 = omega (arith, here.1) in
    after_ascii_of_part c.args.text.now c.args.start (c.args.start + c.args.length - c.args.start)
    c.in_ok-name_length.name_length
    c.utf8.text here.0 ascii
