-- What resolving a chain depends on: what stays the same over a whole document, and what passes from one chain to the
-- next.
use Rattle.std.specs.Prelude.{ℕ, Bool, List, Option, Some, None, is_some}
use Rattle.std.specs.Option.{option_map}
use Rattle.markdown_base.specs.BlockParts.{DefinitionView, definition_view}
use Rattle.markdown_base.specs.Questions.{Answers}
use Rattle.markdown_base.specs.declared.syntax.Syntax.{Syntax}
use Rattle.markdown_defs.specs.Allocations.{Allocated}
use Rattle.markdown_defs.specs.Definitions.{Labelled, find_definition}
use Rattle.markdown_defs.specs.Footnotes.{footnote_at}
use Rattle.markdown_defs.specs.declared.footnotes.FootnoteDef.{FootnoteDef}
use Rattle.markdown_defs.specs.declared.footnotes.FootnoteDefs.{FootnoteDefs}

-- what each link label refers to, if it is defined
abbrev pub DefinitionsByLabel : Type 0
DefinitionsByLabel = List ℕ → Option DefinitionView

-- what labels refer to by these definitions
abbrev pub by_label : List Labelled → DefinitionsByLabel
by_label definitions = λ label. option_map definition_view (find_definition label definitions)

-- what is read, what link labels refer to, which names are those of footnotes, and whether there is a callback
pub record Rules : Type 0 where
  pub syntax : Syntax
  pub definitions : DefinitionsByLabel
  pub is_footnote : List ℕ → Bool
  pub asks : Bool

-- the rules of a chain with this syntax, reference definitions and footnotes
abbrev pub rules_from : Syntax → Allocated → Bool → Rules
rules_from syntax held asks = record {
  syntax = syntax;
  definitions = by_label held.refdefs;
  is_footnote = λ name. is_some (footnote_at held.footdefs name);
  asks = asks;
}

-- a text, and the rules by which its chains are resolved
pub record Setting : Type 0 where
  pub text : List ℕ
  pub rules : Rules

-- a setting from its two parts
abbrev pub setting_of : List ℕ → Rules → Setting
setting_of source rules = record { text = source; rules = rules }

-- how often a footnote was used; 0 where there is none
abbrev pub use_count : Option FootnoteDef → ℕ
use_count None = 0
use_count (Some footnote) = footnote.use_count

-- how often each footnote was used, by its name
abbrev pub uses_of : FootnoteDefs → List ℕ → ℕ
uses_of footnotes name = use_count (footnote_at footnotes name)

-- the state of references when a chain is reached: how many bytes they may still expand to, the answers of the callback
-- that are still to come, and how often each footnote was used, by its name
pub record ReferenceState : Type 0 where
  pub limit : ℕ
  pub answers : Answers
  pub uses : List ℕ → ℕ
