-- The last of the nodes entered is the innermost.
use Rattle.std.proofs.Common.{sym, arith}
use Rattle.std.proofs.lemmas.Option.{slice_get_within}
use Rattle.markdown_base.proofs.ArenaLemmas.{innermost-last}
use Rattle.markdown_base.proofs.tree.parent.Goals as goal

pub returns-in-Some : goal.returns-in-Some
returns-in-Some c =
    let there = c.in-Some.ensures.value in
    sym (innermost-last c.args.spine.now _ _ (omega (arith, slice_get_within c.args.spine.now _ _ (sym there))) there)
