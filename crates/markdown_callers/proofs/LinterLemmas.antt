-- The position after one more byte.
use Rattle.std.proofs.Common.{◌≡◌, ℕ, suc, ◌+◌, ◌<◌, ◌∙◌, cond, List, [], ◌∷◌, ◌++◌, Bool, true, false, add-one, ap}
use Rattle.std.proofs.Common.{append-nil, arith, get_or, length, map, refl, sym, take}
use Rattle.std.specs.Prelude.{filter}
use Rattle.std.specs.declared.ops.Range.{Range}
use Rattle.std.proofs.lemmas.List.{map-append, take_more}
use Rattle.std.proofs.lemmas.List.Sums.{sum_by-cons}
use Rattle.markdown.specs.EventWords.{Event, event_view}
use Rattle.markdown.specs.ReadingWords.{Ranged, viewed}
use Rattle.markdown_callers.specs.Linter.{bytes_before_in_line, ends_line_at, html_positions, is_html, lines_before}
use Rattle.markdown_callers.specs.Linter.{offsets_before, position_at}
use Rattle.markdown_callers.specs.declared.linter.LineColumn.{LineColumn}

-- the position after a byte, from the number of lines that end before it, and of the bytes of its line before it
pub record ComesTo (text : List ℕ) (at line column : ℕ) : Type 0 where
  pub lines : lines_before text (at + 1) ≡ line
  pub bytes : bytes_before_in_line text (at + 1) ≡ column

-- one more line ends before the next offset, if one ends with the byte
lines_more : (text : List ℕ) (at : ℕ)
    → lines_before text (suc at) ≡ cond (ends_line_at text at) 1 0 + lines_before text at
lines_more text at = sum_by-cons (λ k. cond (ends_line_at text k) 1 0) at (offsets_before at)

-- where a line ends with the byte, the next begins
pub line_ended : (text : List ℕ) (at : ℕ) → ends_line_at text at ≡ true → ComesTo text at (lines_before text at + 1) 0
line_ended text at ends = record {
  lines = rw (add-one at, lines_more text at, ends) (omega arith);
  bytes = rw (add-one at, ends) refl;
}

-- otherwise the same line continues
pub line_continued : (text : List ℕ) (at : ℕ) → ends_line_at text at ≡ false
    → ComesTo text at (lines_before text at) (bytes_before_in_line text at + 1)
line_continued text at goes_on = record {
  lines = rw (add-one at, lines_more text at, goes_on) (omega arith);
  bytes = rw (add-one at, goes_on) (omega arith);
}

-- the positions of one more event follow those of the others
html_if : (text : List ℕ) (es : List Ranged) (e x : Ranged) (b : Bool)
    → html_positions text (es ++ e ∷ []) ≡ html_positions text es ++ html_positions text (e ∷ [])
    → map (λ (y : Ranged). position_at text y.1.start)
    (cond b (x ∷ filter (λ y. is_html y.0) (es ++ e ∷ [])) (filter (λ y. is_html y.0) (es ++ e ∷ [])))
    ≡ map (λ (y : Ranged). position_at text y.1.start)
    (cond b (x ∷ filter (λ y. is_html y.0) es) (filter (λ y. is_html y.0) es))
    ++ html_positions text (e ∷ [])
html_if text es e x true more = ap (λ (ps : List LineColumn). position_at text x.1.start ∷ ps) more
html_if text es e x false more = more

html_more : (text : List ℕ) (es : List Ranged) (e : Ranged)
    → html_positions text (es ++ e ∷ []) ≡ html_positions text es ++ html_positions text (e ∷ [])
html_more text [] e = refl
html_more text (x ∷ es) e = html_if text es e x (is_html x.0) (html_more text es e)

-- an event has one position if it is raw HTML, and otherwise none
html_one : (text : List ℕ) (e : Ranged) (b : Bool) → b ≡ is_html e.0
    → html_positions text (e ∷ []) ≡ map (λ (y : Ranged). position_at text y.1.start) (cond b (e ∷ []) [])
html_one text e b h = ap (λ (b : Bool). map (λ (y : Ranged). position_at text y.1.start) (cond b (e ∷ []) [])) (sym h)

-- the view of an event, with its range
abbrev see : Event × Range ℕ → Ranged
see e = (event_view e.0, e.1)

-- one more event adds its position, if it is raw HTML
module _ (text : List ℕ) (items : List (Event × Range ℕ)) (i : ℕ) (x : Event × Range ℕ)
    (positions : List LineColumn) where
  taken_one : i < length items → x ≡ get_or items i x → viewed (take (i + 1) items)
      ≡ viewed (take i items) ++ see x ∷ []
  taken_one l is = ap viewed (take_more items i x l) ∙ map-append see (take i items) (get_or items i x ∷ [])
      ∙ ap (λ (y : Event × Range ℕ). viewed (take i items) ++ see y ∷ []) (sym is)

  added : (b : Bool) → i < length items → x ≡ get_or items i x → b ≡ is_html (event_view x.0)
      → positions ≡ html_positions text (viewed (take i items))
      → positions ++ map (λ (y : Ranged). position_at text y.1.start) (cond b (see x ∷ []) [])
      ≡ html_positions text (viewed (take (i + 1) items))
  added b l is html so_far =
      ap (λ (ps : List LineColumn). ps ++ map (λ (y : Ranged). position_at text y.1.start) (cond b (see x ∷ []) []))
      so_far
      ∙ ap (λ (ps : List LineColumn). html_positions text (viewed (take i items)) ++ ps)
      (sym (html_one text (see x) b html))
      ∙ sym (html_more text (viewed (take i items)) (see x))
      ∙ ap (λ (es : List Ranged). html_positions text es) (sym (taken_one l is))

  pub positions-more : i < length items → x ≡ get_or items i x → true ≡ is_html (event_view x.0)
      → positions ≡ html_positions text (viewed (take i items))
      → positions ++ position_at text x.1.start ∷ [] ≡ html_positions text (viewed (take (i + 1) items))
  positions-more l is html so_far = added true l is html so_far

  pub positions-same : i < length items → x ≡ get_or items i x → false ≡ is_html (event_view x.0)
      → positions ≡ html_positions text (viewed (take i items))
      → positions ≡ html_positions text (viewed (take (i + 1) items))
  positions-same l is html so_far = sym (append-nil positions) ∙ added false l is html so_far
