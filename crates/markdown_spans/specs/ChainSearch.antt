-- What searches for closers in a chain find, count, record and learn.
use Rattle.std.specs.Prelude.{◌≡◌, ℕ, ◌==◌, List, [], ◌∷◌, ◌++◌, Option, Some, None, if◌then◌else◌, length}
use Rattle.std.specs.Prelude.{option_to_list}
use Rattle.std.specs.Option.{option_map}
use Rattle.markdown_base.specs.declared.item.Item.{Item}
use Rattle.markdown_base.specs.declared.node.Node.{Node}
use Rattle.markdown_base.specs.BlockTree.{Numbered, item_at}
use Rattle.markdown_spans.specs.Closers.{code_closer, math_close}
use Rattle.markdown_spans.specs.CloserSearches.{looked_for_code, looked_for_math}
use Rattle.markdown_spans.specs.SpanClosers.{Learned, RisesBy, found_math, item_in}
use Rattle.markdown_spans.specs.SpanMarks.{known_closers, known_after, known_closer, mark_at, marks_in}
use Rattle.markdown_spans.specs.declared.span_closers.FoundMath.{FoundMath}
use Rattle.markdown_spans.specs.declared.math_opener.MathOpener.{MathOpener}
use Rattle.markdown_spans.specs.declared.span_marks.KnownCloser.{KnownCloser}
use Rattle.markdown_spans.specs.declared.span_marks.SpanMark.{SpanMark}
use Rattle.markdown_spans.specs.declared.span_text.SpanKind.{SpanKind}
use Rattle.markdown_spans.specs.declared.span_text.SpanKind.TheVariants.{Code, Math}

-- a search that fails learns the closer of each mark of a chain
abbrev pub learned_by : {A : Type 0} → Option A → SpanKind → List Numbered → Learned
learned_by (Some found) kind chain = None
learned_by None kind chain = Some (known_closers (marks_in kind chain))

-- a search for a mark of `wanted` backticks
pub record SearchesCode (wanted : ℕ) (chain : List Numbered) (found : Option ℕ) (learned : Learned)
    (visits visits' : ℕ) : Type 0 where
  pub finds : option_map (λ a. a.number) (code_closer item_in wanted chain) ≡ found
  pub learns : learned ≡ learned_by found Code chain
  pub counts : RisesBy (looked_for_code item_in wanted chain) visits visits'

-- a search for what closes an opener of math, among the items after it
pub record NotesMath (opener : MathOpener) (after : List Numbered) (found : Option FoundMath)
    (old new : List SpanMark) (visits visits' : ℕ) : Type 0 where
  pub finds : option_map found_math (math_close item_in opener.end opener.context after) ≡ found
  pub notes : found ≡ None → new ≡ old ++ marks_in Math after
  pub counts : RisesBy (looked_for_math item_in opener.end opener.context after) visits visits'

-- a search that continues to the end, from a `$` that does not close
pub record NotesRest (nodes : List (Node Item)) (ix : ℕ) (after : List Numbered) (old new : List SpanMark)
    (visits visits' : ℕ) : Type 0 where
  pub notes : new ≡ old ++ (option_to_list (mark_at Math ix (item_at nodes ix).body) ++ marks_in Math after)
  pub counts : RisesBy (length after) visits visits'

-- a search for the end of a math span: what it finds, what it learns, and the number of items that it examines
pub record SearchesMath (opener : MathOpener) (after : List Numbered) (found : Option FoundMath) (learned : Learned)
    (visits visits' : ℕ) : Type 0 where
  pub finds : option_map found_math (math_close item_in opener.end opener.context after) ≡ found
  pub learns : learned ≡ learned_by found Math after
  pub counts : RisesBy (looked_for_math item_in opener.end opener.context after) visits visits'

-- the known closer of the next mark
abbrev pub next_closer : List KnownCloser → Option ℕ
next_closer [] = None
next_closer (k ∷ later) = k.closer

-- the first `$` of an opener's brace context after the opener, or after its second `$` if it has one
abbrev pub past_second : (second first after_second : Option ℕ) → Option ℕ
past_second None first after_second = first
past_second (Some second) None after_second = None
past_second (Some second) (Some first) after_second = if first == second then after_second else Some first

-- the `$` at which math closes, by the known closers
abbrev pub known_dollar : MathOpener → List KnownCloser → Option ℕ
known_dollar opener known =
    past_second opener.second (known_closer opener.number known) (next_closer (known_after opener.number known))
