-- The bound is that of a walk that keeps its invariant in the tree.
use Rattle.std.proofs.Common.{ℕ, ◌≤◌, Option, Some, None, IfSome, arith}
use Rattle.std.specs.Prelude.{SomeIff}
use Rattle.markdown_document.specs.Tables.{tables_of}
use Rattle.markdown_inline.proofs.WalkTotalsLemmas.{steps_of-few}
use Rattle.markdown_inline.proofs.walk.Parser.most_left.Goals as goal

-- an upper end is a bound where it fits
fitting : (P : Type 0) (steps most : ℕ) (o : Option ℕ) → SomeIff o P most → steps ≤ most → IfSome o (λ n. steps ≤ n)
fitting P steps most None s h = tt
fitting P steps most (Some n) s h = omega (arith, s.1, h)

pub returns : goal.returns
returns g c =
    let p = c.args.self.now in
    let few = steps_of-few p.resolver.text.now (tables_of p.resolver.lookup.tables) p.tree.nodes p.tree.cursor
    p.tree.spine p.stands in
    fitting _ _ _ c.checked_add.result c.checked_add.ensures (omega (
      arith,
      few,
      c.in_ok-checked_mul.ensures.1,
      c.len.ensures.count,
    ))
