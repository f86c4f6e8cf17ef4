-- A request ends by its conversion.
use Rattle.std.proofs.Common.{inl}
use Rattle.markdown_tool_output.proofs.ConversionLemmas.{ends}
use Rattle.markdown_tool_output.proofs.run.run_tool.Goals as goal

pub returns-in-Ok : goal.returns-in-Ok
returns-in-Ok g c = record {
  ends = inl (
    c.in-Ok.request,
    c.in-Ok.ensures.request,
    ends c.in-Ok.request c.convert.result c.report.result _ _ c.report.ensures c.convert.ensures.ok
        c.convert.ensures.err,
  );
}
