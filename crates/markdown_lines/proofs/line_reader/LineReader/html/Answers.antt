-- What begins with `<` was looked at up to the end of the line.
use Rattle.std.proofs.Common.{◌≡◌, ◌∙◌, ℕ, List, [], ◌∷◌, true, Option, Some, None, codes, refl, sym, ap, arith}
use Rattle.std.specs.Prelude.{slice_index}
use Rattle.std.specs.Option.{option_map}
use Rattle.markdown_scan.specs.Beginnings.{begins_with}
use Rattle.markdown_scan.specs.LineStart.{LineLeft}
use Rattle.markdown_lines.specs.declared.block_start.Before.{Before}
use Rattle.markdown_lines.specs.declared.html_kind.HtmlKind.{HtmlKind}
use Rattle.markdown_lines.specs.BlockBeginnings.{begins_html, first_found, html_in_line, is_paragraph}
use Rattle.markdown_lines.specs.BlockStarts.{left_at}
use Rattle.markdown_lines.specs.HtmlBeginnings.{html_kind_of}
use Rattle.markdown_lines.proofs.BlockStartsLemmas.{cut_before}
use Rattle.markdown_lines.proofs.line_reader.LineReader.html.Goals as goal

begins : (bytes : List ℕ) → slice_index bytes 0 ≡ 60 → begins_with (codes "<") bytes ≡ true
begins [] is = absurd (omega (arith, is))
begins (b ∷ bytes) is = rw is refl

-- the kind of what begins with `<`
html_read : (before : Before) (left : LineLeft) (found : Option HtmlKind) → slice_index left.bytes 0 ≡ 60
    → found ≡ html_kind_of left.bytes (is_paragraph before) → option_map begins_html found ≡ html_in_line before left
html_read before left found byte is = rw (begins left.bytes byte, is) refl

pub returns-in-Some : goal.returns-in-Some
returns-in-Some c =
    let reader = c.args.self.now in
    let at = c.args.here.at in
    let cut = cut_before reader.text.now at reader.stop 59 c.requires (omega arith) in
    let part = c.part_of-content.ensures.cut (omega (arith, cut.0)) cut.1 reader.boundary in
    ap (λ found. Some (first_found (found ∷ [])))
    (html_read c.args.before (left_at reader c.args.here) (Some c.in-Some.kind) c.requires
    (rw (← part, ← c.is_paragraph.ensures) (sym c.in-Some.is ∙ c.in_ok-kind.ensures)))

pub returns-in-None : goal.returns-in-None
returns-in-None c =
    let reader = c.args.self.now in
    let at = c.args.here.at in
    let cut = cut_before reader.text.now at reader.stop 59 c.requires (omega arith) in
    let part = c.part_of-content.ensures.cut (omega (arith, cut.0)) cut.1 reader.boundary in
    ap (λ found. Some (first_found (found ∷ [])))
    (html_read c.args.before (left_at reader c.args.here) None c.requires
    (rw (← part, ← c.is_paragraph.ensures) (sym c.in-None.is ∙ c.in_ok-kind.ensures)))
