-- The extensions that the command line offers, and what flags and lists of extensions enable.
use Rattle.std.specs.Prelude.{ℕ, Bool, true, false, not, ◌&&◌, ◌||◌, List, [], ◌∷◌, Option, if◌then◌else◌, codes}
use Rattle.std.specs.List.{find, list_any}
use Rattle.markdown_base.specs.EnabledOptions.{both_options, no_options}
use Rattle.markdown_base.specs.declared.options.Options.{Options}
use Rattle.markdown_base.specs.declared.options.TheConstants.Options as enable
use Rattle.markdown_tool_command.specs.Lists.{disables, enables}
use Rattle.markdown_tool_command.specs.declared.extensions.Enabler.{Enabler}
use Rattle.markdown_tool_command.specs.declared.extensions.Enabler.TheVariants.{AllGfmAndPage, AllAndGfm}
use Rattle.markdown_tool_command.specs.declared.extensions.Enabler.TheVariants.{All, NameAlone}
use Rattle.markdown_tool_command.specs.declared.extensions.Effect.{Effect}
use Rattle.markdown_tool_command.specs.declared.extensions.Effect.TheVariants as effects
use Rattle.markdown_tool_command.specs.declared.extensions.Enabled.{Enabled}
use Rattle.markdown_tool_command.specs.declared.extensions.Sets.{Sets}

-- an extension that is offered: its name, what it enables, and what else enables it
pub record Offered : Type 0 where
  pub name : List ℕ
  pub effect : Effect
  pub enabler : Enabler

-- a row of the table
abbrev pub row : List ℕ → Effect → Enabler → Offered
row name effect enabler = record { name = name; effect = effect; enabler = enabler }

-- a row of an option of the parser
abbrev pub option_row : List ℕ → Options → Enabler → Offered
option_row name option enabler = row name (effects.Option option) enabler

-- the extensions that are offered
unfoldable pub extensions : List Offered
extensions =
    option_row (codes "alerts") enable.ENABLE_GFM AllAndGfm
    ∷ row (codes "autolinks") effects.Autolinks AllAndGfm
    ∷ option_row (codes "footnotes") enable.ENABLE_FOOTNOTES AllAndGfm
    ∷ option_row (codes "heading-attributes") enable.ENABLE_HEADING_ATTRIBUTES All
    ∷ row (codes "heading-ids") effects.HeadingIds AllGfmAndPage
    ∷ option_row (codes "math") enable.ENABLE_MATH All
    ∷ option_row (codes "old-footnotes") enable.ENABLE_OLD_FOOTNOTES NameAlone
    ∷ option_row (codes "pluses") enable.ENABLE_PLUSES_DELIMITED_METADATA_BLOCKS All
    ∷ option_row (codes "smart") enable.ENABLE_SMART_PUNCTUATION All
    ∷ option_row (codes "strikethrough") enable.ENABLE_STRIKETHROUGH AllAndGfm
    ∷ option_row (codes "subscript") enable.ENABLE_SUBSCRIPT All
    ∷ option_row (codes "superscript") enable.ENABLE_SUPERSCRIPT All
    ∷ option_row (codes "tables") enable.ENABLE_TABLES AllAndGfm
    ∷ option_row (codes "tasklists") enable.ENABLE_TASKLISTS AllAndGfm
    ∷ option_row (codes "wikilinks") enable.ENABLE_WIKILINKS All
    ∷ option_row (codes "yaml") enable.ENABLE_YAML_STYLE_METADATA_BLOCKS All
    ∷ []

-- a flag enables an extension, of these that are given
abbrev pub enabled_by : Sets → Enabler → Bool
enabled_by sets AllGfmAndPage = (sets.all || sets.gfm) || sets.page
enabled_by sets AllAndGfm = sets.all || sets.gfm
enabled_by sets All = sets.all
enabled_by sets NameAlone = false

-- an extension is enabled: a flag or a part of the lists enables it, and no part disables it
abbrev pub is_enabled : Sets → (parts : List (List ℕ)) → Offered → Bool
is_enabled sets parts e =
    (enabled_by sets e.enabler || list_any (enables e.name) parts) && not (list_any (disables e.name) parts)

-- nothing is enabled
abbrev pub nothing_enabled : Enabled
nothing_enabled = record { options = no_options; autolinks = false; heading_ids = false }

-- what is enabled, with one effect more
abbrev pub with_effect : Effect → Enabled → Enabled
with_effect (effects.Option option) e = record e { options = both_options e.options option }
with_effect effects.Autolinks e = record e { autolinks = true }
with_effect effects.HeadingIds e = record e { heading_ids = true }

-- what is enabled, with what these extensions enable of which each is enabled or not
abbrev pub with_enabled : Sets → (parts : List (List ℕ)) → List Offered → Enabled → Enabled
with_enabled sets parts [] found = found
with_enabled sets parts (e ∷ more) found =
    with_enabled sets parts more (if is_enabled sets parts e then with_effect e.effect found else found)

-- what is enabled of all that is offered
abbrev pub all_enabled : Sets → (parts : List (List ℕ)) → Enabled
all_enabled sets parts = with_enabled sets parts extensions nothing_enabled

-- a part enables or disables one of these
abbrev pub says_of : List Offered → (part : List ℕ) → Bool
says_of offered part = list_any (λ e. enables e.name part || disables e.name part) offered

-- the first part that neither enables nor disables an extension that is offered, if there is one
abbrev pub unknown_part : (parts : List (List ℕ)) → Option (List ℕ)
unknown_part parts = find (λ part. not (says_of extensions part)) parts
