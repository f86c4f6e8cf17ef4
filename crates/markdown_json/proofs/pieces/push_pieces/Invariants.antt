-- The old text is followed by the pieces so far.
use Rattle.std.specs.String.{string_bytes}
use Rattle.markdown_out.proofs.ByteListsLemmas.{StandsTo}
use Rattle.markdown_json.specs.JsonPieces.{piece_json}
use Rattle.markdown_json.proofs.pieces.push_pieces.Given as goal

abbrev pub invariant-loop-piece : goal.invariant-loop-piece
invariant-loop-piece l = StandsTo piece_json (string_bytes l.s) (string_bytes l.initial.s) l.pieces
    l.piece-index
