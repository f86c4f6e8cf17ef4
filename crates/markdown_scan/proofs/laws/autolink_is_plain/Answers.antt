use Rattle.std.proofs.Common.{◌&&◌, ◌==◌, drop}
use Rattle.std.specs.Prelude.{slice_index}
use Rattle.markdown_scan.specs.Autolink.{begins_scheme, uri_length, is_uri_byte}
use Rattle.markdown_scan.proofs.ScanLawsLemmas.{all_taken, if_found}
use Rattle.markdown_scan.proofs.laws.autolink_is_plain.Goals as goal

pub returns : goal.returns
returns c =
    let bytes = drop c.args.at c.args.text.now in
    if_found (begins_scheme bytes && (slice_index bytes (uri_length bytes) == 62)) c.args.at (uri_length bytes) bytes
    is_uri_byte
    (all_taken is_uri_byte bytes)
