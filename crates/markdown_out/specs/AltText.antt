-- The alt text of an image: what each event between its Start and the matching End adds to it.
use Rattle.std.specs.Prelude.{ℕ, true, false, List, [], ◌∷◌, codes}
use Rattle.markdown_base.specs.Event.{EventView, start, end, text, code, inline_math, display_math}
use Rattle.markdown_base.specs.Event.{html, inline_html, footnote_reference, soft_break, hard_break}
use Rattle.markdown_base.specs.Event.{rule, task_list_marker}
use Rattle.markdown_out.specs.Escapes.{attribute_escaped}
use Rattle.markdown_out.specs.LookBacks.{Past, footnote_number}

-- what an event adds to the alt text, in parts
abbrev pub alt_parts : Past → EventView → List (List ℕ)
alt_parts past (start tag) = []
alt_parts past (end tag) = []
alt_parts past (text t) = attribute_escaped t ∷ []
alt_parts past (code t) = attribute_escaped t ∷ []
alt_parts past (inline_math t) = codes "$" ∷ attribute_escaped t ∷ codes "$" ∷ []
alt_parts past (display_math t) = codes "$$" ∷ attribute_escaped t ∷ codes "$$" ∷ []
alt_parts past (html t) = []
alt_parts past (inline_html t) = attribute_escaped t ∷ []
alt_parts past (footnote_reference name) = codes "[" ∷ footnote_number past name ∷ codes "]" ∷ []
alt_parts past soft_break = codes " " ∷ []
alt_parts past hard_break = codes " " ∷ []
alt_parts past rule = codes " " ∷ []
alt_parts past (task_list_marker true) = codes "[x]" ∷ []
alt_parts past (task_list_marker false) = codes "[ ]" ∷ []
