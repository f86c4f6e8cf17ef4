-- Examples that have their trees have their block results: what these are is defined.
use Rattle.std.proofs.Common.{◌≡◌, List, [], ◌∷◌, ap, drop, ◌∙◌}
use Rattle.markdown_block_laws.specs.ExampleTrees.{Example, HasResult, ResultsAreWritten}
use Rattle.markdown_block_laws.specs.ExampleTrees.{blocks_as_defined, with_depths}

-- the first of some examples, or this one
abbrev first_or : Example → List Example → Example
first_or other [] = other
first_or other (e ∷ examples) = e

has_result : (e : Example) → blocks_as_defined e.text ≡ e → HasResult e
has_result e known nodes parts result = record {
  tree = ap (with_depths 0) result.tree ∙ ap (λ x. x.tree) known;
  definitions = result.definitions ∙ ap (λ x. x.definitions) known;
}

pub results_written : ResultsAreWritten
results_written [] known = tt
results_written (e ∷ examples) known =
    (has_result e (ap (first_or e) known), results_written examples (ap (drop 1) known))
