-- The HTML of a list of events by rules: the bytes of each event, which depend on the events before it, one after
-- another. The words without `by` are those of upstream's rules.
use Rattle.std.specs.Prelude.{ℕ, zero, suc, Bool, true, false, List, [], ◌∷◌, ◌++◌, codes, if◌then◌else◌, reverse}
use Rattle.std.specs.Prelude.{Option, Some, None}
use Rattle.markdown_base.specs.Event.{EventView, start, end, text, code, inline_math, display_math, html, inline_html}
use Rattle.markdown_base.specs.Event.{footnote_reference, soft_break, hard_break, rule, task_list_marker}
use Rattle.markdown_out.specs.AltText.{alt_parts}
use Rattle.markdown_out.specs.ByteLists.{joined, fresh_after_bytes}
use Rattle.markdown_out.specs.Escapes.{text_escaped, attribute_escaped}
use Rattle.markdown_out.specs.HtmlRules.{upstream_rules}
use Rattle.markdown_out.specs.LookBacks.{Past, OpenImageView, footnote_number, image_before, names_before, told_by}
use Rattle.markdown_out.specs.LookBacks.{metadata_after, head_after, cell_column_after, alignments_after}
use Rattle.markdown_out.specs.TagHtml.{new_line, start_parts, end_parts, image_end}
use Rattle.markdown_out.specs.declared.html.rules.HtmlRules.{HtmlRules}

-- a footnote reference, from its name and its number
abbrev pub reference_parts : List ℕ → List ℕ → List (List ℕ)
reference_parts name number =
    codes "<sup class=\"footnote-reference\"><a href=\"#" ∷ attribute_escaped name
    ∷ codes "\">" ∷ number ∷ codes "</a></sup>" ∷ []

-- what an event writes outside images
abbrev pub outside_parts : Past → EventView → List (List ℕ)
outside_parts past (start tag) = start_parts past tag
outside_parts past (end tag) = end_parts past tag
outside_parts past (text t) = if past.in_metadata then [] else text_escaped t ∷ []
outside_parts past (code t) = codes "<code>" ∷ text_escaped t ∷ codes "</code>" ∷ []
outside_parts past (inline_math t) =
    codes "<span class=\"math math-inline\">" ∷ attribute_escaped t ∷ codes "</span>" ∷ []
outside_parts past (display_math t) =
    codes "<span class=\"math math-display\">" ∷ attribute_escaped t ∷ codes "</span>" ∷ []
outside_parts past (html t) = t ∷ []
outside_parts past (inline_html t) = t ∷ []
outside_parts past (footnote_reference name) = reference_parts name (footnote_number past name)
outside_parts past soft_break = codes "\n" ∷ []
outside_parts past hard_break = codes "<br />\n" ∷ []
outside_parts past rule = new_line past.fresh ∷ codes "<hr />\n" ∷ []
outside_parts past (task_list_marker true) = codes "<input disabled=\"\" type=\"checkbox\" checked=\"\"/>\n" ∷ []
outside_parts past (task_list_marker false) = codes "<input disabled=\"\" type=\"checkbox\"/>\n" ∷ []

-- what an event writes inside an image: its part of the alt text, or what closes the image where the event is the End
-- that matches the image's Start. `alt_parts` has a case for each of the other events.
abbrev pub inside_bytes : Past → ℕ → List ℕ → EventView → List ℕ
inside_bytes past starts title (start tag) = []
inside_bytes past zero title (end tag) = image_end title
inside_bytes past (suc starts) title (end tag) = []
inside_bytes past starts title e = joined (alt_parts past e)

-- the bytes of an event inside the image that is open, or outside images
abbrev pub bytes_by_image : Option OpenImageView → Past → EventView → List ℕ
bytes_by_image None past e = joined (outside_parts past e)
bytes_by_image (Some i) past e = inside_bytes past i.starts i.title e

-- the bytes of an event
abbrev pub event_bytes : Past → EventView → List ℕ
event_bytes past e = bytes_by_image past.open_image past e

-- whether the line is fresh after an empty Text
abbrev pub fresh_after_empty : Option OpenImageView → Past → Bool
fresh_after_empty None past = if past.in_metadata then past.fresh else false
fresh_after_empty (Some i) past = past.fresh

-- whether the line is fresh after an event: where the last byte written is a newline, but not after an empty Text
-- outside metadata and images
abbrev pub fresh_after : Past → EventView → Bool
fresh_after past (text []) = fresh_after_empty past.open_image past
fresh_after past e = fresh_after_bytes past.fresh (event_bytes past e)

-- what closes the image that is open, if there is one
abbrev pub closing : Option OpenImageView → List ℕ
closing None = []
closing (Some i) = image_end i.title

-- what closes an image whose End is not among these events
abbrev pub closing_after : List EventView → List ℕ
closing_after events = closing (image_before (reverse events))

module _ (rules : HtmlRules) where
  -- what the HTML of an event after these events depends on, where the line is fresh or not
  abbrev pub past_with_by : (fresh : Bool) → List EventView → Past
  past_with_by fresh before = record {
    rules = rules;
    fresh = fresh;
    in_metadata = told_by metadata_after false before;
    in_head = told_by head_after true before;
    column = told_by cell_column_after 0 before;
    alignments = told_by alignments_after [] before;
    names = names_before before;
    open_image = image_before before;
  }

  -- whether the line is fresh after these events
  abbrev pub fresh_before_by : List EventView → Bool
  fresh_before_by [] = true
  fresh_before_by (e ∷ before) = fresh_after (past_with_by (fresh_before_by before) before) e

  -- what the HTML of an event after these events depends on
  abbrev pub past_by : List EventView → Past
  past_by before = past_with_by (fresh_before_by before) before

  -- the bytes of these events
  abbrev pub bytes_before_by : List EventView → List ℕ
  bytes_before_by [] = []
  bytes_before_by (e ∷ before) = bytes_before_by before ++ event_bytes (past_by before) e

  -- the bytes of an event after these events
  abbrev pub bytes_after_by : List EventView → EventView → List ℕ
  bytes_after_by events e = event_bytes (past_by (reverse events)) e

  -- the HTML of a list of events, without the closing bytes of an image whose End is not in it
  abbrev pub open_html_by : List EventView → List ℕ
  open_html_by events = bytes_before_by (reverse events)

  -- the HTML of a list of events
  abbrev pub html_by : List EventView → List ℕ
  html_by events = open_html_by events ++ closing_after events

-- the same by upstream's rules: what the HTML of an event after these events depends on, where the line is fresh or not
abbrev pub past_with : (fresh : Bool) → List EventView → Past
past_with = past_with_by upstream_rules

-- whether the line is fresh after these events
abbrev pub fresh_before : List EventView → Bool
fresh_before = fresh_before_by upstream_rules

-- what the HTML of an event after these events depends on
abbrev pub past_of : List EventView → Past
past_of = past_by upstream_rules

-- the bytes of these events
abbrev pub bytes_before : List EventView → List ℕ
bytes_before = bytes_before_by upstream_rules

-- the bytes of an event after these events
abbrev pub bytes_after : List EventView → EventView → List ℕ
bytes_after = bytes_after_by upstream_rules

-- the HTML of a list of events, without the closing bytes of an image whose End is not in it
abbrev pub open_html : List EventView → List ℕ
open_html = open_html_by upstream_rules

-- the HTML of a list of events
abbrev pub html_of : List EventView → List ℕ
html_of = html_by upstream_rules
