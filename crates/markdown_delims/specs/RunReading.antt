-- A chain whose runs are whole, and the number of its delimiter characters.
use Rattle.std.specs.Prelude.{◌≡◌, ℕ, ◌+◌, List, Option, Some, None, IfSome}
use Rattle.markdown_base.specs.BlockTree.{Numbered}
use Rattle.markdown_base.specs.Forest.{Forest, nil, node, first_root}
use Rattle.markdown_base.specs.WellFormed.{RunCharacter, StandsInRun, run_character}

-- a character of a run is followed by all that the run continues with, and has no children
pub record StandsWhole (text : List ℕ) (a : Numbered) (below after : Forest Numbered) (c : RunCharacter) : Type 0 where
  pub stands : StandsInRun text a (first_root after) c
  pub childless : below ≡ nil

-- each run of a chain is whole. Chains at greater depth are not restricted.
abbrev pub HasWholeRuns : List ℕ → Forest Numbered → Type 0
HasWholeRuns text nil = Unit {0}
HasWholeRuns text (node a below after) = IfSome (run_character a.item.body) (StandsWhole text a below after)
    × HasWholeRuns text after

-- 1 for a character of a run, and 0 otherwise
abbrev pub counts_one : Option RunCharacter → ℕ
counts_one None = 0
counts_one (Some c) = 1

-- the number of delimiter characters of a chain
abbrev pub delimiters_of : Forest Numbered → ℕ
delimiters_of nil = 0
delimiters_of (node a below after) = counts_one (run_character a.item.body) + delimiters_of after
