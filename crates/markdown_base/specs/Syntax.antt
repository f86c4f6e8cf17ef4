-- What is read of a text beside CommonMark, by the options of a caller: what the profile reads, or all.
use Rattle.std.specs.Prelude.{Bool, true, false, not, ◌&&◌, ◌||◌}
use Rattle.markdown_base.specs.declared.options.Options.{Options}
use Rattle.markdown_base.specs.declared.options.TheConstants.Options as enable
use Rattle.markdown_base.specs.declared.syntax.Syntax.{Syntax}
use Rattle.markdown_base.specs.declared.tag.MetadataBlockKind.{MetadataBlockKind}
use Rattle.markdown_base.specs.declared.tag.MetadataBlockKind.TheVariants as kind
use Rattle.markdown_base.specs.EnabledOptions.{is_on, no_options}

-- what the profile reads
abbrev pub profile_syntax : Options → Syntax
profile_syntax options = record {
  strikethrough = is_on enable.ENABLE_STRIKETHROUGH options;
  superscript = is_on enable.ENABLE_SUPERSCRIPT options;
  subscript = is_on enable.ENABLE_SUBSCRIPT options;
  quotes = is_on enable.ENABLE_SMART_PUNCTUATION options;
  math = is_on enable.ENABLE_MATH options;
  wikilinks = is_on enable.ENABLE_WIKILINKS options;
  footnotes = is_on enable.ENABLE_FOOTNOTES options;
  old_footnotes = is_on enable.ENABLE_OLD_FOOTNOTES options;
  tables = false;
  tasks = false;
  alerts = false;
  attributes = false;
  yaml = false;
  pluses = false;
  dashes = false;
  entities = false;
  addresses = false;
}

-- all that the options ask for, with HTML's entities, addresses, and dashes beside quotation marks
abbrev pub full_syntax : Options → Syntax
full_syntax options = record (profile_syntax options) {
  tables = is_on enable.ENABLE_TABLES options;
  tasks = is_on enable.ENABLE_TASKLISTS options;
  alerts = is_on enable.ENABLE_GFM options;
  attributes = is_on enable.ENABLE_HEADING_ATTRIBUTES options;
  yaml = is_on enable.ENABLE_YAML_STYLE_METADATA_BLOCKS options;
  pluses = is_on enable.ENABLE_PLUSES_DELIMITED_METADATA_BLOCKS options;
  dashes = is_on enable.ENABLE_SMART_PUNCTUATION options;
  entities = true;
  addresses = true;
}

-- CommonMark, and nothing else
abbrev pub commonmark : Syntax
commonmark = profile_syntax no_options

-- footnotes in GitHub's style
abbrev pub gfm_footnotes : Syntax → Bool
gfm_footnotes syntax = syntax.footnotes && not syntax.old_footnotes

-- metadata of a kind
abbrev pub reads_metadata : Syntax → MetadataBlockKind → Bool
reads_metadata syntax kind.YamlStyle = syntax.yaml
reads_metadata syntax kind.PlusesStyle = syntax.pluses

-- metadata of one kind or the other
abbrev pub any_metadata : Syntax → Bool
any_metadata syntax = syntax.yaml || syntax.pluses
