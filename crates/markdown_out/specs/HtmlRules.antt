-- The rules by which upstream writes HTML.
use Rattle.std.specs.Prelude.{false}
use Rattle.markdown_out.specs.declared.html.rules.HtmlRules.{HtmlRules}

-- the alignment of a cell is its style, and no link has a `rel`
abbrev pub upstream_rules : HtmlRules
upstream_rules = record { align = false; rel = false }
