use Rattle.std.proofs.Common.{◌++◌, ap, ◌∙◌}
use Rattle.std.specs.String.{string_bytes}
use Rattle.std.proofs.lemmas.Result.{err_from_is_err_and}
use Rattle.markdown_out.proofs.ByteListsLemmas.{StandsTo-none, StandsTo-more, StandsTo-all, StandsTo-prefix}
use Rattle.markdown_json.specs.JsonPieces.{piece_json}
use Rattle.markdown_json.proofs.JsonPartsLemmas.{spelled-flat_map}
use Rattle.markdown_json.proofs.pieces.push_pieces.Goals as goal

pub loop-piece-init : goal.loop-piece-init
loop-piece-init c = StandsTo-none _ _ _

pub returns-in_err-push_piece-clause-err : goal.returns-in_err-push_piece-clause-err
returns-in_err-push_piece-clause-err c =
    let p = err_from_is_err_and c.from_residual.result c.from_residual.ensures.1 in
    rw (p.1, ← spelled-flat_map c.args.pieces.now) (StandsTo-prefix piece_json _ _ _ _ _ _
    c.loop-piece-test.true c.in_err-push_piece.ensures.err c.loop-piece.invariant)

pub loop-piece-preserved : goal.loop-piece-preserved
loop-piece-preserved c = StandsTo-more piece_json _ _ _ _ _ _ c.loop-piece-test.true
    c.in_ok-push_piece.ensures.ok c.loop-piece.invariant

pub returns-clause-ok : goal.returns-clause-ok
returns-clause-ok c =
    StandsTo-all piece_json _ _ _ _ c.loop-piece-test.false c.loop-piece.invariant
    ∙ ap (λ x. string_bytes c.args.s.now ++ x) (spelled-flat_map c.args.pieces.now)
