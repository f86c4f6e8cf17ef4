-- The text of a label while it is read, for private clauses: labels are defined in `Label`.
use Rattle.std.specs.Prelude.{ℕ, List, ◌++◌, take}
use Rattle.markdown_scan.specs.declared.label_text.LabelText.{LabelText}
use Rattle.markdown_scan.specs.Label.{collapse_whitespace}
use Rattle.markdown_scan.specs.LabelScan.{own_or}

-- the text so far
abbrev pub so_far : LabelText → List ℕ
so_far label = own_or label.own (take label.same label.source.now)

-- the whole text, if the white space of these bytes is still to be collapsed
abbrev pub completed : LabelText → List ℕ → List ℕ
completed label rest = so_far label ++ collapse_whitespace label.begun label.waiting rest
