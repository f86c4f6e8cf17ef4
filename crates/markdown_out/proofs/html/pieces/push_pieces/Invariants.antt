use Rattle.std.specs.String.{string_bytes}
use Rattle.markdown_out.specs.Writer.{piece_bytes}
use Rattle.markdown_out.proofs.ByteListsLemmas.{StandsTo}
use Rattle.markdown_out.proofs.html.pieces.push_pieces.Given as goal

abbrev pub invariant-loop-piece : goal.invariant-loop-piece
invariant-loop-piece l = StandsTo piece_bytes (string_bytes l.s) (string_bytes l.initial.s) l.pieces
    l.piece-index
