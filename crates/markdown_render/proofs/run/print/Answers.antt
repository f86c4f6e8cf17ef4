-- The writer has all of it where its last call fails.
use Rattle.std.proofs.Common.{subst}
use Rattle.std.specs.Io.KnownBytes.{Appends}
use Rattle.markdown_render.proofs.OutcomeLemmas.{at_any_error, kept_prefix, whole_prefix}
use Rattle.markdown_render.proofs.run.print.Goals as goal

pub returns-clause-cut : goal.returns-clause-cut
returns-clause-cut g c =
    let html = c.args.html.now in
    let written = subst (Appends _ _) c.as_bytes.ensures.value c.in_ok-write_whole.ensures.written in
    at_any_error c.map_err.result (kept_prefix html (whole_prefix html written) c.flush.ensures.bytes)
