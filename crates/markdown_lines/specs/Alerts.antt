-- Alerts: block quotes whose first line names a kind, such as `> [!NOTE]`.
use Rattle.std.specs.Prelude.{ℕ, Bool, ◌==◌, ◌&&◌, List, Option, Some, None, codes, drop, length}
use Rattle.std.specs.Prelude.{if◌then◌else◌}
use Rattle.std.specs.List.{list_all}
use Rattle.markdown_base.specs.declared.syntax.Syntax.{Syntax}
use Rattle.markdown_base.specs.declared.tag.BlockQuoteKind.{BlockQuoteKind}
use Rattle.markdown_base.specs.declared.tag.BlockQuoteKind.TheVariants as kind
use Rattle.markdown_lines.specs.HtmlKinds.{begins_ignoring_case}
use Rattle.markdown_lines.specs.Lines.{is_space_or_tab}
use Rattle.markdown_scan.specs.LineStart.{LineLeft}

-- bytes are an alert's marker, in either case, and then spaces and tabs alone
abbrev pub is_alert_marker : List ℕ → List ℕ → Bool
is_alert_marker bytes marker =
    begins_ignoring_case bytes marker && list_all is_space_or_tab (drop (length marker) bytes)

-- the kind that these bytes name
abbrev pub alert_kind : List ℕ → Option BlockQuoteKind
alert_kind bytes =
    if is_alert_marker bytes (codes "[!note]") then Some kind.Note
    else if is_alert_marker bytes (codes "[!tip]") then Some kind.Tip
    else if is_alert_marker bytes (codes "[!important]") then Some kind.Important
    else if is_alert_marker bytes (codes "[!warning]") then Some kind.Warning
    else if is_alert_marker bytes (codes "[!caution]") then Some kind.Caution
    else None

-- The kind of the alert that a block quote is, from what is left of its line after its marker and at most one column of
-- space, where alerts are read. Columns that a tab owes are more space than that.
abbrev pub alert_read : Syntax → LineLeft → Option BlockQuoteKind
alert_read syntax rest =
    if syntax.alerts && (rest.owed == 0) then alert_kind rest.bytes else None
