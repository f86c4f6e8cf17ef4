-- The command line, in clap's words: the arguments that it takes, and what their words ask for.
use Rattle.std.specs.Prelude.{◌≡◌, ◌⊎◌, ℕ, true, List, [], ◌∷◌, map, Some, codes}
use Rattle.clap.specs.Simple.{on_top}
use Rattle.clap.specs.Words.{App, HasKind, Rule, fault_of, kind_of, matches_of, new_app, new_rule, with_rule}
use Rattle.clap.specs.declared.builder.action.ArgAction.TheVariants.{Append, SetTrue}
use Rattle.clap.specs.declared.builder.value_parser.ValueParser.{ValueParser}
use Rattle.clap.specs.declared.builder.value_parser.ValueParser.TheVariants as parser
use Rattle.clap.specs.declared.error.Error.{Error}
use Rattle.markdown_tool_command.specs.Choices.{format_names}
use Rattle.markdown_tool_command.specs.Requests.{IsRequestOf, IsWrong}
use Rattle.markdown_tool_command.specs.declared.request.Request.{Request}

-- an argument with a value, by its name
abbrev pub valued : List ℕ → Rule
valued name = record (new_rule name) { long = Some name; value_names = 1 }

-- an argument without a value
abbrev pub flag : List ℕ → Rule
flag name = record (new_rule name) { long = Some name; action = Some SetTrue }

-- the files, in any number
abbrev pub file_rule : Rule
file_rule = record (new_rule (codes "file")) { value_names = 1; action = Some Append }

-- the format: one of these
abbrev pub to_rule : ValueParser → Rule
to_rule formats =
    record (valued (codes "to")) { short = Some 116; defaults = codes "html" ∷ []; parser = Some formats }

-- a list of extensions
abbrev pub extension_rule : Rule
extension_rule = record (valued (codes "extension")) { short = Some 101; action = Some Append }

-- the file to write
abbrev pub output_rule : Rule
output_rule = record (valued (codes "output")) { short = Some 111; defaults = codes "-" ∷ [] }

-- the version is shown by a flag
abbrev pub versioned : App → App
versioned app = on_top (λ shape. record shape { has_version = true }) app

-- a command with the arguments for safe HTML, for what becomes of images in it, and for a prefix of its ids
abbrev pub with_safe_rules : App → App
with_safe_rules app = with_rule (with_rule (with_rule app (flag (codes "safe"))) (valued (codes "images")))
    (valued (codes "id-prefix"))

-- a command with those for links to other sites, and for nesting
abbrev pub with_bound_rules : App → App
with_bound_rules app = with_rule (with_rule app (flag (codes "no-rel"))) (valued (codes "nesting"))

-- a command with the arguments for extensions
abbrev pub with_extension_rules : App → App
with_extension_rules app = with_rule (with_rule (with_rule app extension_rule)
    (record (flag (codes "all-extensions")) { short = Some 97 }))
    (flag (codes "gfm"))

-- a command with those for a page, its title and its style sheet
abbrev pub with_page_rules : App → App
with_page_rules app = with_rule (with_rule (with_rule app
    (record (flag (codes "full-page")) { short = Some 102 }))
    (valued (codes "title")))
    (valued (codes "css"))

-- a command with those for the language and the contents of a page
abbrev pub with_contents_rules : App → App
with_contents_rules app = with_rule (with_rule app (valued (codes "lang"))) (flag (codes "toc"))

-- a command with those for files
abbrev pub with_file_rules : App → App
with_file_rules app = with_rule (with_rule (with_rule (with_rule app (flag (codes "lossy"))) (valued (codes "limit")))
    output_rule) file_rule

-- the command, with all arguments
abbrev pub tool : (formats : ValueParser) → App
tool formats = with_file_rules (with_rule (with_contents_rules (with_page_rules (with_extension_rules
    (with_bound_rules (with_safe_rules (with_rule (versioned (new_app (codes "markdown"))) (to_rule formats)))))))
    (flag (codes "positions")))

module _ (formats : ValueParser) (words : List (List ℕ)) where
  -- this is the request of the words, where these formats are offered
  abbrev pub IsRequestBy : Request → Type 0
  IsRequestBy request = IsRequestOf (matches_of (tool formats) words) request

  -- this is why they make none: what clap says of them, or what is wrong with what it reads
  pub record IsRefusedBy (error : Error) : Type 0 where
    pub why : HasKind (fault_of (tool formats) words) error
        ⊎ IsWrong (matches_of (tool formats) words) (kind_of error)

-- exactly these names are values
abbrev pub AreNames : ValueParser → List (List ℕ) → Type 0
AreNames (parser.Names names) texts = map (λ name. name.now) names.now ≡ texts
AreNames other texts = ⊥

-- this is the request of the words of a command line
pub record IsRequestFor (words : List (List ℕ)) (request : Request) : Type 0 where
  pub formats : ValueParser
  pub formats_offered : AreNames formats format_names
  pub asked : IsRequestBy formats words request

-- this is why they make none
pub record IsRefusedFor (words : List (List ℕ)) (error : Error) : Type 0 where
  pub formats : ValueParser
  pub formats_offered : AreNames formats format_names
  pub refused : IsRefusedBy formats words error
