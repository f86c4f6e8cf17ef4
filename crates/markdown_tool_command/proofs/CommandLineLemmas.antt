-- The command is one whose matches and faults clap defines, and what follows for a request.
use Rattle.std.proofs.Common.{◌≡◌, ◌∙◌, Err, List, ap, refl, subst, true}
use Rattle.std.specs.Result.{IsOk, is_err}
use Rattle.clap.proofs.OnLiterals.{clap_on_literals}
use Rattle.clap.specs.Words.{App, HasKind, HasMatchesOf, Row, Text, fault_of, found_of, is_simple, is_simple_and_free}
use Rattle.clap.specs.Words.{matches_of, rows_of}
use Rattle.clap.specs.declared.builder.value_parser.ValueParser.{ValueParser}
use Rattle.clap.specs.declared.error.Error.{Error}
use Rattle.clap.specs.declared.error.kind.ErrorKind.{ErrorKind}
use Rattle.clap.specs.declared.error.kind.ErrorKind.TheVariants as kinds
use Rattle.clap.specs.declared.parser.matches.ArgMatches.{ArgMatches}
use Rattle.markdown_tool_command.specs.CommandLine.{tool}
use Rattle.markdown_tool_command.specs.Requests.{IsRefusal, IsRequestOf, IsWrong, IsWrongValue, format_asked}
use Rattle.markdown_tool_command.specs.declared.choices.Misuse.{Misuse}
use Rattle.markdown_tool_command.specs.declared.request.Refusal.{Refusal}
use Rattle.markdown_tool_command.specs.declared.request.Refusal.TheVariants as refusals
use Rattle.markdown_tool_command.specs.declared.request.Request.{Request}
use Rattle.markdown_tool_command.specs.declared.request.WrongValue.{WrongValue}

module _ (formats : ValueParser) where
  pub is_simple_tool : is_simple (tool formats) ≡ true
  unfolding clap_on_literals
  is_simple_tool = refl

  pub is_free_tool : is_simple_and_free (tool formats) ≡ true
  unfolding clap_on_literals
  is_free_tool = refl

-- what is read of the matches of a command is read of those that clap defines for it
module _ (words : List Text) (command wanted : App) (is : command ≡ wanted) where
  rows_by : is_simple wanted ≡ true → (m : ArgMatches) → HasMatchesOf command words m
      → rows_of (found_of m) ≡ matches_of wanted words
  rows_by simple m has = (has (ap is_simple is ∙ simple)).0 ∙ ap (λ (a : App). matches_of a words) is

  pub asked_by : is_simple wanted ≡ true → (m : ArgMatches) → HasMatchesOf command words m → (request : Request)
      → IsRequestOf (rows_of (found_of m)) request → IsRequestOf (matches_of wanted words) request
  asked_by simple m has request asked =
      subst (λ (rows : List Row). IsRequestOf rows request) (rows_by simple m has) asked

  pub wrong_by : is_simple wanted ≡ true → (m : ArgMatches) → HasMatchesOf command words m → (kind : ErrorKind)
      → IsWrong (rows_of (found_of m)) kind → IsWrong (matches_of wanted words) kind
  wrong_by simple m has kind why = subst (λ (rows : List Row). IsWrong rows kind) (rows_by simple m has) why

  pub refused_by : is_simple_and_free wanted ≡ true → (error : Error)
      → (is_simple_and_free command ≡ true → HasKind (fault_of command words) error)
      → HasKind (fault_of wanted words) error
  refused_by free error kinds =
      subst (λ (a : App). HasKind (fault_of a words) error) is (kinds (ap is_simple_and_free is ∙ free))

-- what is wrong by a refusal of either kind
module _ (rows : List Row) (refusal : Refusal) (kind : ErrorKind) (refused : IsRefusal rows refusal) where
  pub wrong_choices : (misuse : Misuse) → refusal ≡ refusals.Misuse misuse → kind ≡ kinds.ArgumentConflict
      → IsWrong rows kind
  wrong_choices misuse is kind_is =
      let why : format_asked rows ≡ Err misuse = subst (λ (r : Refusal). IsRefusal rows r) is refused in
      rw kind_is (ap is_err why)

  pub wrong_value : (value : WrongValue) → refusal ≡ refusals.WrongValue value → kind ≡ kinds.InvalidValue
      → IsWrong rows kind
  wrong_value value is kind_is =
      let why : IsOk (format_asked rows) × IsWrongValue rows value =
      subst (λ (r : Refusal). IsRefusal rows r) is refused in
      rw kind_is (why.0, (value, why.1))
