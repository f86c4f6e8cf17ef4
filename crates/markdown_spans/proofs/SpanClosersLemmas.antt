-- What is learned of a chain where a search fails, and what later searches read of it.
use Rattle.std.proofs.Common.{◌≡◌, ℕ, List, [], ◌∷◌, ◌++◌, Option, Some, None, reverse, sym, ◌∙◌, ap, append_assoc}
use Rattle.std.proofs.Common.{append-nil}
use Rattle.std.specs.Prelude.{if◌then◌else◌, ◌==◌}
use Rattle.std.proofs.lemmas.List.{reverse-append}
use Rattle.markdown_spans.specs.SpanMarks.{known_closers, first_with, known_after, known_closer}
use Rattle.markdown_spans.specs.declared.span_marks.KnownCloser.{KnownCloser}
use Rattle.markdown_spans.specs.declared.span_marks.SpanMark.{SpanMark}

-- of the marks noted, the closers of the later ones were found, and the nearest mark of each key is the first of those
pub record Fills (all noted : List SpanMark) (ahead : List KnownCloser) (nearest : ℕ → Option ℕ) : Type 0 where
  pub later : List SpanMark
  pub parts : all ≡ noted ++ later
  pub closers : reverse ahead ≡ known_closers later
  pub first : (key : ℕ) → nearest key ≡ first_with key later

pub fills_none : (all : List SpanMark) (ahead : List KnownCloser) (nearest : ℕ → Option ℕ) → ahead ≡ [] →
    ((key : ℕ) → nearest key ≡ None)
    → Fills all all ahead nearest
fills_none all ahead nearest e none = record
    { later = []; parts = sym (append-nil all); closers = ap reverse e; first = none }

pub fills_one : (all noted : List SpanMark) (m : SpanMark) (ahead ahead' : List KnownCloser)
    (nearest nearest' : ℕ → Option ℕ) (closer : Option ℕ)
    → Fills all (noted ++ m ∷ []) ahead nearest → closer ≡ nearest m.wanted
    → ahead' ≡ ahead ++ record { number = m.number; closer = closer } ∷ []
    → ((key : ℕ) → nearest' key ≡ (if m.key == key then Some m.number else nearest key)) →
    Fills all noted ahead' nearest'
fills_one all noted m ahead ahead' nearest nearest' closer f is push put = record {
  later = m ∷ f.later;
  parts = f.parts ∙ append_assoc noted (m ∷ []) f.later;
  closers = ap reverse push ∙ (reverse-append ahead (record { number = m.number; closer = closer } ∷ [])
      ∙ (ap (λ (later : List KnownCloser). record { number = m.number; closer = closer } ∷ later) f.closers
      ∙ ap (λ (o : Option ℕ). let k : KnownCloser = record { number = m.number; closer = o } in
      k ∷ known_closers f.later) (is ∙ f.first m.wanted)));
  first = λ key. put key ∙ ap (λ (o : Option ℕ). if m.key == key then Some m.number else o) (f.first key);
}

-- what is known of marks up to one is taken off
pub record Takes (number : ℕ) (old new : List KnownCloser) : Type 0 where
  pub closer : known_closer number (reverse old) ≡ known_closer number (reverse new)
  pub later : known_after number (reverse old) ≡ known_after number (reverse new)
