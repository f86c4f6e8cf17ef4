-- The last two blocks are the innermost and the block around it.
use Rattle.std.proofs.Common.{◌∙◌, Bool, sym, ap, arith}
use Rattle.std.specs.Prelude.{not}
use Rattle.markdown_plain.proofs.ContainersLemmas.{begins_of}
use Rattle.markdown_plain.proofs.stretches.begins_deep.Goals as goal

pub returns : goal.returns
returns c =
    ap (λ (b : Bool). not b) c.are_alike.ensures
    ∙ sym (begins_of c.args.old c.args.blocks.now _ _ _ (omega arith) (omega arith))
