-- A row of the table of extensions, as the definition has it. Only private clauses cite this.
use Rattle.markdown_tool_command.specs.Extensions.{Offered, row}
use Rattle.markdown_tool_command.specs.declared.extensions.Extension.{Extension}

abbrev pub offered : Extension → Offered
offered e = row e.name.now e.effect e.enabler
