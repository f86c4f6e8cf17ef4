-- The items so far are events, and the old text is followed by their lines.
use Rattle.std.specs.String.{string_bytes}
use Rattle.markdown_positions.specs.PositionsOf.{positions_text}
use Rattle.markdown_lint_json.proofs.PlacedEventsLemmas.{WrotePlaces}
use Rattle.markdown_lint_json.proofs.events.push_json_with_places.Given as goal

abbrev pub invariant-loop-item : goal.invariant-loop-item
invariant-loop-item g l =
    WrotePlaces (positions_text l.positions) (string_bytes l.initial.s) (string_bytes l.s) l.yielded
