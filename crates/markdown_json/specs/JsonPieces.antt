-- Pieces of JSON, one after another: each a text, written unchanged or as a string.
use Rattle.std.specs.Prelude.{ℕ, List, map}
use Rattle.markdown_out.specs.ByteLists.{joined}
use Rattle.markdown_json.specs.Json.{string}
use Rattle.markdown_json.specs.declared.pieces.Piece.{Piece}
use Rattle.markdown_json.specs.declared.pieces.Piece.TheVariants as piece

-- the bytes of a piece
abbrev pub piece_json : Piece → List ℕ
piece_json (piece.Raw s) = s.now
piece_json (piece.Text s) = string s.now

-- the bytes of pieces, one after another
abbrev pub spelled : List Piece → List ℕ
spelled pieces = joined (map piece_json pieces)
