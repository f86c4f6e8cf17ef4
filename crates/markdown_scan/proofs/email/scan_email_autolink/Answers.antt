-- The closing bracket is ASCII: the text may be cut after it.
use Rattle.std.proofs.Common.{◌<◌, drop, arith, get_or}
use Rattle.markdown_scan.proofs.BoundaryLemmas.{after_ascii_of_rest}
use Rattle.markdown_scan.proofs.email.scan_email_autolink.Goals as goal

pub returns-clause-boundary : goal.returns-clause-boundary
returns-clause-boundary c =
    let rest = c.range_from-rest.ensures.value in
    let bytes = c.as_bytes.ensures.value in
    let here = rw (bytes, rest) at c.in_ok-length.ensures.here in
    let ascii : get_or (drop c.args.at c.args.text.now) c.in_ok-length.length 0 < 128 = omega (arith, here.1) in
    after_ascii_of_rest c.args.text.now c.args.at c.in_ok-length.length c.utf8.text here.0 ascii
