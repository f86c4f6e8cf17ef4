-- The first characters are Texts, for any chain.
use Rattle.std.proofs.Common.{List, Option, Some, ℕ}
use Rattle.markdown_base.specs.Forest.{Forest}
use Rattle.markdown_document.specs.Document.{TreeNode}
use Rattle.markdown_delims.specs.ChainReading.{BeginsRun}
use Rattle.markdown_delims.specs.ChainStanding.{Chain, Stands}
use Rattle.markdown_delims.specs.Pairing.{Read}
use Rattle.markdown_delims.proofs.LiteralRunLemmas.{LiteralTextAt}
use Rattle.markdown_delims.proofs.read.make_run_literal.Given as goal

abbrev pub invariant-make_literal : goal.invariant-make_literal
invariant-make_literal l =
    (h : Chain) (rs : List (Read ℕ)) (last : Option ℕ) (chain : Forest (TreeNode ℕ))
    → Stands h l.fn.tree rs last (Some l.met.number) chain
    → BeginsRun l.met.number l.met.count chain → LiteralTextAt h l.fn.tree l.tree rs l.met.number l.met.count l.i chain
