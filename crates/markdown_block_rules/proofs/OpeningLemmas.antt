-- Only a line directly under the root opens metadata.
use Rattle.std.proofs.Common.{◌≡◌, ℕ, Bool, true, false, List, [], ◌∷◌, Option, Some, None}
use Rattle.std.proofs.Common.{length, ◌+◌, ◌||◌, ◌==◌, codes}
use Rattle.std.proofs.lemmas.Bool.{true≢false}
use Rattle.std.specs.Prelude.{⊤, if◌then◌else◌, slice_index, unwrap_or}
use Rattle.std.specs.Option.{option_and_then, option_map}
use Rattle.markdown_base.specs.Bytes.{backtick, tilde}
use Rattle.markdown_base.specs.declared.tag.BlockQuoteKind.{BlockQuoteKind}
use Rattle.markdown_lines.specs.Alerts.{alert_read}
use Rattle.markdown_lines.specs.AtxHeadings.{atx_heading_at}
use Rattle.markdown_lines.specs.BlockBeginnings as line
use Rattle.markdown_base.specs.Source.{Source}
use Rattle.markdown_lines.specs.BlockBeginnings.{Beginning, begins, begins_after, break_in_line, fence_in_line}
use Rattle.markdown_lines.specs.BlockBeginnings.{first_found, footnote_in_line, footnote_marker, heading_in_line}
use Rattle.markdown_lines.specs.BlockBeginnings.{html_in_line, is_paragraph, is_reached, item_in_line, item_of}
use Rattle.markdown_lines.specs.BlockBeginnings.{metadata_begun, metadata_in_line, past_bytes, quote_in_line, quote_of}
use Rattle.markdown_lines.specs.BlockBeginnings.{quote_or_alert, underline_in_line, whole_heading}
use Rattle.markdown_lines.specs.CodeFences.{opening_fence_at}
use Rattle.markdown_lines.specs.HtmlBeginnings.{html_kind_of}
use Rattle.markdown_lines.specs.ListMarkers.{list_marker_at}
use Rattle.markdown_lines.specs.MetadataBlocks.{metadata_opened}
use Rattle.markdown_lines.specs.SourceLines.{SourceLine}
use Rattle.markdown_lines.specs.ThematicBreaks.{is_thematic_break, setext_level}
use Rattle.markdown_lines.specs.declared.block_start.Before.{Before}
use Rattle.markdown_scan.specs.Beginnings.{begins_with}
use Rattle.markdown_scan.specs.LineStart.{LineLeft, leading_space, past_marker}
use Rattle.markdown_block_rules.proofs.BlockBeginningsLemmas.{either}

-- metadata begins
abbrev pub Opens : Beginning → Type 0
Opens (line.begins_metadata kind) = ⊤
Opens other = ⊥

-- no metadata begins
abbrev OpensNone : Beginning → Type 0
OpensNone b = Opens b → ⊥

abbrev IfOpensNone : Option Beginning → Type 0
IfOpensNone None = ⊤
IfOpensNone (Some b) = OpensNone b

mapped_none : {A : Type 0} (f : A → Beginning) (found : Option A) → ((a : A) → OpensNone (f a))
    → IfOpensNone (option_map f found)
mapped_none f None none = tt
mapped_none f (Some a) none = none a

abbrev EachOpensNone : List (Option Beginning) → Type 0
EachOpensNone [] = ⊤
EachOpensNone (o ∷ others) = IfOpensNone o × EachOpensNone others

first_none : (found : List (Option Beginning)) → EachOpensNone found → OpensNone (first_found found)
first_none [] each opens = opens
first_none (None ∷ others) each opens = first_none others each.1 opens
first_none (Some b ∷ others) each opens = each.0 opens

quote_none : (rest : LineLeft) (alert : Option BlockQuoteKind) → OpensNone (quote_or_alert rest alert)
quote_none rest None opens = opens
quote_none rest (Some kind) opens = opens

after_none : (s : Source) (before : Before) (columns : ℕ) (here : LineLeft)
    → OpensNone (begins_after s before columns here)
after_none s before columns here =
    let stop = here.scanned + length here.bytes in
    let byte = slice_index here.bytes 0 in
    first_none
    (quote_in_line s here ∷ heading_in_line s here ∷ fence_in_line s columns here ∷ html_in_line before here ∷
    footnote_in_line s.syntax here ∷ underline_in_line before here ∷ break_in_line here ∷
    item_in_line s before columns here ∷ []) (
      either IfOpensNone (begins_with (codes ">") here.bytes) (Some (quote_of s.syntax (past_marker here))) None
          (quote_none (past_marker here) (alert_read s.syntax (past_marker here))) tt,
      (
        mapped_none (λ heading. line.begins_heading (whole_heading s.syntax here heading))
            (atx_heading_at s.text here.scanned stop) (λ a opens. opens),
        (
          either IfOpensNone ((byte == backtick) || (byte == tilde))
              (option_map line.begins_fence (opening_fence_at s.text here.scanned stop byte columns)) None
              (mapped_none line.begins_fence (opening_fence_at s.text here.scanned stop byte columns)
              (λ a opens. opens)) tt,
          (
            either IfOpensNone (begins_with (codes "<") here.bytes)
                (option_map line.begins_html (html_kind_of here.bytes (is_paragraph before))) None
                (mapped_none line.begins_html (html_kind_of here.bytes (is_paragraph before)) (λ a opens. opens)) tt,
            (
              either IfOpensNone s.syntax.footnotes
                  (option_map (λ marker. line.begins_footnote marker.0 (past_bytes marker.1 here))
                  (footnote_marker here.bytes)) None
                  (mapped_none (λ (marker : List ℕ × ℕ). line.begins_footnote marker.0 (past_bytes marker.1 here))
                  (footnote_marker here.bytes) (λ a opens. opens)) tt,
              (
                either IfOpensNone (is_reached before)
                    (option_map line.begins_underline (setext_level here.bytes)) None
                    (mapped_none line.begins_underline (setext_level here.bytes) (λ a opens. opens)) tt,
                (
                  either IfOpensNone (is_thematic_break here.bytes) (Some line.begins_break) None (λ opens. opens) tt,
                  (
                    mapped_none (item_of columns here)
                        (list_marker_at s.text here.scanned stop (is_reached before)) (λ a opens. opens),
                    tt,
                  ),
                ),
              ),
            ),
          ),
        ),
      ),
    )

found_or_none : (found : Option Beginning) (other : Beginning) → IfOpensNone found → OpensNone other
    → OpensNone (unwrap_or found other)
found_or_none None other first second = second
found_or_none (Some b) other first second = first

-- inside a container no metadata begins
none_there : (outermost : Bool) (found : Option Beginning) → outermost ≡ false
    → IfOpensNone (if outermost then found else None)
none_there false found inner = tt
none_there true found inner = absurd (true≢false inner)

pub begins_inside : (s : Source) (before : Before) (l : SourceLine) → l.outermost ≡ false
    → OpensNone (begins s before l)
begins_inside s before l inner =
    let space = leading_space 4 l.left in
    either OpensNone (space.columns == 4)
    (if is_paragraph before then line.begins_text else line.begins_indented space.after)
    (unwrap_or (metadata_in_line s before l) (begins_after s before space.columns space.after))
    (either OpensNone (is_paragraph before) line.begins_text (line.begins_indented space.after) (λ opens. opens)
    (λ opens. opens))
    (found_or_none (metadata_in_line s before l) (begins_after s before space.columns space.after)
    (none_there l.outermost
    (option_and_then (metadata_begun before) (metadata_opened s.syntax s.text l.left.bytes l.next)) inner)
    (after_none s before space.columns space.after))
