-- A parser of a block result is before its first block, and all of its reading is left.
use Rattle.std.proofs.Common.{ℕ, List, length, max, refl, ap, ◌∙◌}
use Rattle.markdown_defs.specs.AllocationCalls.{HoldsParts}
use Rattle.markdown_inline.proofs.StartLemmas.{starts_stands, starts_left, tables_held}
use Rattle.markdown_inline.proofs.walk.Parser.from_blocks.Goals as goal

pub invariant_of-result : goal.invariant_of-result
invariant_of-result g c =
    let parts = c.into_parts-tree.result in
    let rules = c.into_parts-tree.ensures.rules in
    record {
      entered = rw c.reset.ensures c.new-above.ensures;
      stands = rw (c.reset.ensures, tables_held parts.3 c.in_ok-tables.tables c.in_ok-tables.ensures.holds)
          (starts_stands parts.0.now parts.2.nodes parts.3 rules);
    }

pub returns-clause-left : goal.returns-clause-left
returns-clause-left g c answers =
    let parts = c.into_parts-tree.ensures.parts in
    let held : HoldsParts c.into_parts-tree.result.3 c.in_ok-tables.tables = c.in_ok-tables.ensures.holds in
    starts_left c.args.blocks _ answers parts.0 c.syntax-syntax.ensures (rw parts.3 at held)
    c.into_parts-tree.result.2 parts.2 c.reset.ensures
    (c.max.ensures ∙ ap (λ (text : List ℕ). max (length text) 100000) parts.0)

pub returns-clause-text : goal.returns-clause-text
returns-clause-text g c = c.into_parts-tree.ensures.parts.0

pub returns-clause-callback : goal.returns-clause-callback
returns-clause-callback g c = refl
