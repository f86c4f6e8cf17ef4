-- With the Texts that the events left begin with, the text so far is that of all; and nothing is asked.
use Rattle.std.proofs.Common.{◌≡◌, ◌++◌, [], None, string_bytes}
use Rattle.markdown_inline.specs.Elements.{events_of}
use Rattle.markdown_inline.specs.ParserLeft.{elements, parser_callback, parser_steps}
use Rattle.markdown_tool_output.specs.Metadata.{leading_text}
use Rattle.markdown_tool_output.proofs.metadata.leading_text.Given as goal

abbrev pub invariant-events : goal.invariant-events
invariant-events l = record {
  alone : parser_callback l.events ≡ None;
  texts : string_bytes l.text ++ leading_text (events_of (elements l.events []))
      ≡ leading_text (events_of (elements l.fn.events []));
}

abbrev pub decreases-events : goal.decreases-events
decreases-events l = parser_steps l.events
