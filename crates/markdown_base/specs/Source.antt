-- A text and what is read of it: the argument of each definition on texts.
use Rattle.std.specs.Prelude.{ℕ, List}
use Rattle.markdown_base.specs.declared.syntax.Syntax.{Syntax}

pub record Source : Type 0 where
  pub text : List ℕ
  pub syntax : Syntax

-- a text of which this is read
abbrev pub source_as : Syntax → List ℕ → Source
source_as syntax text = record { text = text; syntax = syntax }
