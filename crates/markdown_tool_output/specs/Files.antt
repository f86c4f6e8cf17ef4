-- The views of one of the files that are read, and of what is asked for of each.
use Rattle.markdown_safe.specs.SafeRules.{rules_view}
use Rattle.markdown_tool_output.specs.Outputs.{AskedView, FileView}
use Rattle.markdown_tool_output.specs.declared.file.Asked.{Asked}
use Rattle.markdown_tool_output.specs.declared.file.File.{File}

abbrev pub file_view : File → FileView
file_view f = record { name = f.name.now; number = f.number; several = f.several; text = f.text.now }

abbrev pub asked_view : Asked → AskedView
asked_view a = record {
  format = a.format;
  positions = a.positions;
  enabled = a.enabled;
  rules = rules_view a.rules;
}
