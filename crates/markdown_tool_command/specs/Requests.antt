-- The request of a command line, by the values of its words: for each argument a row, under its name.
use Rattle.std.specs.Prelude.{◌≡◌, ◌⊎◌, ◌<◌, ◌^◌, ℕ, Bool, false, not, ◌||◌, List, [], ◌∷◌, map, Option, Some, None}
use Rattle.std.specs.Prelude.{Result, Ok, Err, if◌then◌else◌, codes, is_some, option_map, string_bytes, unwrap_or}
use Rattle.std.specs.Option.{option_map_or}
use Rattle.std.specs.Result.{IsErr, IsOk}
use Rattle.std.specs.Str.{bytes_eq}
use Rattle.std.specs.Str.Parse.{IsNumeral, digits_value, without_leading_plus}
use Rattle.clap.specs.Words.{Row, all_of, first_of}
use Rattle.clap.specs.declared.error.kind.ErrorKind.{ErrorKind}
use Rattle.clap.specs.declared.error.kind.ErrorKind.TheVariants as kind
use Rattle.markdown_safe.specs.SafeRules.{SafeRulesView, default_rules}
use Rattle.markdown_safe.specs.declared.rules.Images.{Images}
use Rattle.markdown_safe.specs.declared.rules.Images.TheVariants as images
use Rattle.markdown_tool_command.specs.Choices.{checked_format, format_named}
use Rattle.markdown_tool_command.specs.Extensions.{all_enabled, unknown_part}
use Rattle.markdown_tool_command.specs.Lists.{list_parts}
use Rattle.markdown_tool_command.specs.declared.choices.Choices.{Choices}
use Rattle.markdown_tool_command.specs.declared.choices.Format.{Format}
use Rattle.markdown_tool_command.specs.declared.choices.Misuse.{Misuse}
use Rattle.markdown_tool_command.specs.declared.choices.Misuse.TheVariants.{UnknownFormat}
use Rattle.markdown_tool_command.specs.declared.extensions.Enabled.{Enabled}
use Rattle.markdown_tool_command.specs.declared.extensions.Sets.{Sets}
use Rattle.markdown_tool_command.specs.declared.request.Page.{Page}
use Rattle.markdown_tool_command.specs.declared.request.Refusal.{Refusal}
use Rattle.markdown_tool_command.specs.declared.request.Refusal.TheVariants as refusal
use Rattle.markdown_tool_command.specs.declared.request.Request.{Request}
use Rattle.markdown_tool_command.specs.declared.request.WrongValue.{WrongValue}
use Rattle.markdown_tool_command.specs.declared.request.WrongValue.TheVariants as wrong
use Rattle.markdown_tool_command.specs.declared.rules.Rules.{Rules}

-- the name of standard input, and of standard output
abbrev pub standard : List ℕ
standard = codes "-"

-- whether a flag is given
abbrev pub is_given : List ℕ → List Row → Bool
is_given name rows = option_map_or (λ value. bytes_eq value (codes "true")) (first_of name rows) false

-- the values of an argument, in order
abbrev pub values_given : List ℕ → List Row → List (List ℕ)
values_given name rows = unwrap_or (all_of name rows) []

-- the parts of the lists of extensions
abbrev pub parts_asked : List Row → List (List ℕ)
parts_asked rows = list_parts (values_given (codes "extension") rows)

-- the sets of extensions
abbrev pub sets_asked : List Row → Sets
sets_asked rows = record {
  all = is_given (codes "all-extensions") rows;
  gfm = is_given (codes "gfm") rows;
  page = is_given (codes "full-page") rows;
}

-- this is what is enabled; there is nothing where a part of a list is unknown
pub record AreEnabledBy (rows : List Row) (found : Enabled) : Type 0 where
  pub known : unknown_part (parts_asked rows) ≡ None
  pub are : found ≡ all_enabled (sets_asked rows) (parts_asked rows)

-- a part of a page is asked for
abbrev pub asks_part : List Row → Bool
asks_part rows =
    ((is_some (first_of (codes "title") rows) || is_some (first_of (codes "css") rows))
    || is_some (first_of (codes "lang") rows))
    || is_given (codes "toc") rows

-- a rule of safe HTML is asked for
abbrev pub asks_rule : List Row → Bool
asks_rule rows =
    ((is_some (first_of (codes "images") rows) || is_some (first_of (codes "id-prefix") rows))
    || is_given (codes "no-rel") rows)
    || is_some (first_of (codes "nesting") rows)

-- what is chosen beside the format
abbrev pub choices_asked : List Row → Choices
choices_asked rows = record {
  safe = is_given (codes "safe") rows;
  page = is_given (codes "full-page") rows;
  part = asks_part rows;
  rule = asks_rule rows;
  positions = is_given (codes "positions") rows;
}

-- the format that is named; None where it is not offered
abbrev pub named_format : List Row → Option Format
named_format rows = format_named (unwrap_or (first_of (codes "to") rows) (codes "html"))

-- the format that is asked for, or what does not go together with it
abbrev pub checked_name : Option Format → List Row → Result Format Misuse
checked_name None rows = Err UnknownFormat
checked_name (Some named) rows = checked_format named (choices_asked rows)

abbrev pub format_asked : List Row → Result Format Misuse
format_asked rows = checked_name (named_format rows) rows

-- a page: its title, its style sheet and its language, where they are given, and whether it has a table of contents
pub record PageView : Type 0 where
  pub title : Option (List ℕ)
  pub style : Option (List ℕ)
  pub language : Option (List ℕ)
  pub contents : Bool

abbrev pub page_view : Page → PageView
page_view page = record {
  title = option_map string_bytes page.title;
  style = option_map string_bytes page.style;
  language = option_map string_bytes page.language;
  contents = page.contents;
}

-- the page that is asked for, if one is
abbrev pub page_asked : List Row → Option PageView
page_asked rows =
    if is_given (codes "full-page") rows then Some (record {
      title = first_of (codes "title") rows;
      style = first_of (codes "css") rows;
      language = first_of (codes "lang") rows;
      contents = is_given (codes "toc") rows;
    })
    else None

-- what becomes of images, by its name; None where it has another
abbrev pub images_named : List ℕ → Option Images
images_named name =
    if bytes_eq name (codes "shown") then Some images.Shown
    else if bytes_eq name (codes "links") then Some images.Links
    else if bytes_eq name (codes "text") then Some images.Text
    else None

-- what becomes of images as is asked for
abbrev pub images_asked : List Row → Option Images
images_asked rows = images_named (unwrap_or (first_of (codes "images") rows) (codes "shown"))

-- the number that a text says
abbrev pub number_said : List ℕ → ℕ
number_said text = digits_value 10 (without_leading_plus text)

-- a text says a number, below 2^64
abbrev pub IsNumber : List ℕ → Type 0
IsNumber text = IsNumeral 10 (without_leading_plus text) × (number_said text < 2 ^ 64)

-- this number is asked for by an argument; None where it is not given
pub record IsNumberAsked (name : List ℕ) (rows : List Row) (found : Option ℕ) : Type 0 where
  pub is : found ≡ option_map number_said (first_of name rows)
  pub number : (text : List ℕ) → first_of name rows ≡ Some text → IsNumber text

-- an argument that asks for a number has this value, which says none
abbrev pub IsNoNumber : (name : List ℕ) → List Row → (text : List ℕ) → Type 0
IsNoNumber name rows text = (first_of name rows ≡ Some text) × (IsNumber text → ⊥)

-- so many tags may stand in one another, as is asked for
pub record IsNestingAsked (rows : List Row) (nesting : ℕ) : Type 0 where
  pub asked : Option ℕ
  pub is : IsNumberAsked (codes "nesting") rows asked
  pub most : nesting ≡ unwrap_or asked default_rules.nesting

-- these rules of safe HTML are asked for
pub record AreRulesAsked (rows : List Row) (rules : SafeRulesView) : Type 0 where
  pub prefix : rules.prefix ≡ unwrap_or (first_of (codes "id-prefix") rows) []
  pub images : images_asked rows ≡ Some rules.images
  pub rel : rules.rel ≡ not (is_given (codes "no-rel") rows)
  pub nesting : IsNestingAsked rows rules.nesting

-- the rules of safe HTML that a request has
abbrev pub request_rules : Rules → SafeRulesView
request_rules r = record { prefix = string_bytes r.prefix; images = r.images; rel = r.rel; nesting = r.nesting }

-- these names, or that of standard input where there is none
abbrev pub or_standard : List (List ℕ) → List (List ℕ)
or_standard [] = standard ∷ []
or_standard (name ∷ names) = name ∷ names

-- this is the request that these rows make
pub record IsRequestOf (rows : List Row) (request : Request) : Type 0 where
  pub format : format_asked rows ≡ Ok request.format
  pub enabled : AreEnabledBy rows request.enabled
  pub rules : AreRulesAsked rows (request_rules request.rules)
  pub page : option_map page_view request.page ≡ page_asked rows
  pub positions : request.positions ≡ is_given (codes "positions") rows
  pub lossy : request.lossy ≡ is_given (codes "lossy") rows
  pub limit : IsNumberAsked (codes "limit") rows request.limit
  pub output : string_bytes request.output ≡ unwrap_or (first_of (codes "output") rows) standard
  pub inputs : map string_bytes request.inputs.items ≡ or_standard (values_given (codes "file") rows)

-- this value of these rows is none of those that it may be: a part of a list enables and disables nothing, images
-- become nothing of that name, or what has to be a number is none
abbrev pub IsWrongValue : List Row → WrongValue → Type 0
IsWrongValue rows (wrong.Extension part) = unknown_part (parts_asked rows) ≡ Some part.now
IsWrongValue rows (wrong.Images name) =
    (first_of (codes "images") rows ≡ Some name.now) × (images_named name.now ≡ None)
IsWrongValue rows (wrong.Number text) =
    IsNoNumber (codes "nesting") rows text.now ⊎ IsNoNumber (codes "limit") rows text.now

-- this is why values of these rows are not taken: one is wrong; or an allocation may have been refused
abbrev pub IsValueRefusal : List Row → Refusal → Type 0
IsValueRefusal rows refusal.Memory = Unit {0}
IsValueRefusal rows (refusal.Misuse misuse) = ⊥
IsValueRefusal rows (refusal.WrongValue value) = IsWrongValue rows value

-- this is why these rows make no request: choices that do not go together, and only then a value that is wrong; or an
-- allocation may have been refused
abbrev pub IsRefusal : List Row → Refusal → Type 0
IsRefusal rows refusal.Memory = Unit {0}
IsRefusal rows (refusal.Misuse misuse) = format_asked rows ≡ Err misuse
IsRefusal rows (refusal.WrongValue value) = IsOk (format_asked rows) × IsWrongValue rows value

-- the same by the kind of the error
abbrev pub IsWrong : List Row → ErrorKind → Type 0
IsWrong rows kind.ArgumentConflict = IsErr (format_asked rows)
IsWrong rows kind.InvalidValue = IsOk (format_asked rows) × ((value : WrongValue) × IsWrongValue rows value)
IsWrong rows other = ⊥
