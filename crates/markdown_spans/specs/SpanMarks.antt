-- Marks of spans as a search sees them: backticks, which open and close code, and `$`, which open and close math. The
-- key of a mark is its number of backticks or its brace context, and each mark determines the key of its closer.
use Rattle.std.specs.Prelude.{ℕ, ◌==◌, Bool, false, List, [], ◌∷◌, ◌++◌, Option, Some, None, if◌then◌else◌}
use Rattle.std.specs.Prelude.{option_to_list}
use Rattle.markdown_base.specs.declared.item.ItemBody.{ItemBody}
use Rattle.markdown_base.specs.declared.item.ItemBody.TheVariants as body
use Rattle.markdown_base.specs.BlockTree.{Numbered}
use Rattle.markdown_spans.specs.Closers.{closing_count}
use Rattle.markdown_spans.specs.declared.span_marks.SpanMark.{SpanMark}
use Rattle.markdown_spans.specs.declared.span_marks.KnownCloser.{KnownCloser}
use Rattle.markdown_spans.specs.declared.span_text.SpanKind.{SpanKind}
use Rattle.markdown_spans.specs.declared.span_text.SpanKind.TheVariants.{Code, Math}

-- the mark of an item of backticks
abbrev pub code_mark : (number : ℕ) → ItemBody → Option SpanMark
code_mark number (body.MaybeCode count escaped) =
    Some (record { number = number; key = count; wanted = closing_count count escaped })
code_mark number other = None

-- the mark of a `$`, by its brace context
abbrev pub math_mark : (number : ℕ) → ItemBody → Option SpanMark
math_mark number (body.MaybeMath opens closes context) =
    Some (record { number = number; key = context; wanted = context })
math_mark number other = None

-- the mark of an item, for this kind of span
abbrev pub mark_at : SpanKind → (number : ℕ) → ItemBody → Option SpanMark
mark_at Code number b = code_mark number b
mark_at Math number b = math_mark number b

-- the marks of a chain
abbrev pub marks_in : SpanKind → List Numbered → List SpanMark
marks_in kind [] = []
marks_in kind (a ∷ after) = option_to_list (mark_at kind a.number a.item.body) ++ marks_in kind after

-- a mark has the wanted key, if a key is wanted
abbrev pub is_wanted : Option ℕ → Option SpanMark → Bool
is_wanted wanted None = false
is_wanted None (Some m) = false
is_wanted (Some key) (Some m) = m.key == key

-- the number of the first mark with a key
abbrev pub first_with : (key : ℕ) → List SpanMark → Option ℕ
first_with key [] = None
first_with key (m ∷ later) = if m.key == key then Some m.number else first_with key later

-- each mark with the first later mark that has the wanted key
abbrev pub known_closers : List SpanMark → List KnownCloser
known_closers [] = []
known_closers (m ∷ later) = record { number = m.number; closer = first_with m.wanted later } ∷ known_closers later

-- the known closer of the mark with this number
abbrev pub known_closer : (number : ℕ) → List KnownCloser → Option ℕ
known_closer number [] = None
known_closer number (k ∷ later) = if k.number == number then k.closer else known_closer number later

-- the known closers of the marks after the one with this number
abbrev pub known_after : (number : ℕ) → List KnownCloser → List KnownCloser
known_after number [] = []
known_after number (k ∷ later) = if k.number == number then later else known_after number later
