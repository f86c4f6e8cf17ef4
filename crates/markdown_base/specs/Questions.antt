-- The questions that a callback for broken links receives, and the answers that it returns.
use Rattle.std.specs.Prelude.{ℕ, List, Option}
use Rattle.std.specs.declared.ops.Range.{Range}
use Rattle.markdown_base.specs.declared.tag.LinkType.{LinkType}

-- what a callback receives: the source range of the reference in bytes, its form, and its link label
pub record Question : Type 0 where
  pub span : Range ℕ
  pub link_type : LinkType
  pub reference : List ℕ

-- what a callback returns: where the link leads, and its title
pub record Answer : Type 0 where
  pub destination : List ℕ
  pub title : List ℕ

-- the answers still to be given, `None` where the callback resolves nothing
abbrev pub Answers : Type 0
Answers = List (Option Answer)
