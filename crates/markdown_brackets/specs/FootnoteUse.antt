-- The style of footnotes, and which footnote labels are references.
use Rattle.std.specs.Prelude.{Bool, true, if◌then◌else◌}
use Rattle.markdown_base.specs.declared.syntax.Syntax.{Syntax}
use Rattle.markdown_brackets.specs.declared.footnote.FootnoteStyle.{FootnoteStyle}
use Rattle.markdown_brackets.specs.declared.footnote.FootnoteStyle.TheVariants as style

-- the style of the footnotes that are read
abbrev pub footnote_style : Syntax → FootnoteStyle
footnote_style syntax =
    if syntax.old_footnotes then style.Old else if syntax.footnotes then style.Gfm else style.Off

-- a footnote label is a reference if its name is defined, and always in the old style
abbrev pub is_reference : FootnoteStyle → Bool → Bool
is_reference style.Off is_defined = is_defined
is_reference style.Gfm is_defined = is_defined
is_reference style.Old is_defined = true
