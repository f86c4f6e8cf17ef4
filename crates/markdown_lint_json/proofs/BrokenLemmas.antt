-- The lines of references, by their questions, and what a callback keeps that answers None to each.
use Rattle.std.proofs.Common.{◌≡◌, ◌∙◌, ◌++◌, ◌∷◌, ℕ, List, [], Option, Some, None, ap, false, map, refl, subst, sym}
use Rattle.std.proofs.Common.{true, append-nil, append_assoc, is_some}
use Rattle.std.specs.List.{flat_map}
use Rattle.std.proofs.lemmas.List.Folds.{flat_map-map}
use Rattle.markdown_base.specs.Questions.{Answers, Question}
use Rattle.markdown_base.specs.Source.{Source}
use Rattle.markdown_defs.specs.Callback.{Asks}
use Rattle.markdown_defs.specs.CallbackViews.{question_of}
use Rattle.markdown_defs.specs.declared.callback.BrokenLink.{BrokenLink}
use Rattle.markdown_inline.specs.Elements.{Element, questions_of}
use Rattle.markdown_inline.specs.NextGives.{IsPlacedOf}
use Rattle.markdown_inline.specs.ParserLeft.{ReadsText, elements, parser_callback}
use Rattle.markdown_inline.specs.ReadingOfText.{reading_of_text}
use Rattle.markdown_inline.specs.Runs.{GaveRest}
use Rattle.markdown_inline.specs.declared.walk.Parser.{Parser}
use Rattle.markdown_base.specs.declared.event.Event.{Event}
use Rattle.std.specs.declared.ops.Range.{Range}
use Rattle.markdown_lint_json.specs.AskedLinks.{Keeps}
use Rattle.markdown_lint_json.specs.BrokenJson.{bare_broken_line, broken_of_text, placed_broken_line}
use Rattle.markdown_lint_json.specs.declared.asked.Asked.{Asked}
use Rattle.markdown_lint_json.proofs.UnansweredLemmas.{AreNone, reading_unanswered}

-- the line of a reference in a text, by its question
abbrev pub line_of_broken : (text : List ℕ) → BrokenLink → List ℕ
line_of_broken text link = bare_broken_line text (question_of link)

pub lines_of_broken : (text : List ℕ) (links : List BrokenLink)
    → flat_map (line_of_broken text) links ≡ flat_map (bare_broken_line text) (map question_of links)
lines_of_broken text links = sym (flat_map-map (bare_broken_line text) question_of links)

-- and with its place
abbrev pub line_of_broken_in : (text : List ℕ) → BrokenLink → List ℕ
line_of_broken_in text link = placed_broken_line text (question_of link)

pub lines_of_broken_in : (text : List ℕ) (links : List BrokenLink)
    → flat_map (line_of_broken_in text) links ≡ flat_map (placed_broken_line text) (map question_of links)
lines_of_broken_in text links = sym (flat_map-map (placed_broken_line text) question_of links)

-- what a callback was asked is kept, unless an allocation was refused
abbrev KeptAll : Asked → List Question → Asked → Type 0
KeptAll old questions new = new.is_refused ≡ false
    → (old.is_refused ≡ false) × (map question_of new.links.items ≡ map question_of old.links.items ++ questions)

-- calls lead to a callback that keeps what was asked, and each answer is None
record AskedAll (old : Asked) (questions : List Question) (answers : Answers) (new : Option Asked) : Type 0 where
  pub last : Asked
  pub is : new ≡ Some last
  pub none : AreNone answers
  pub kept : KeptAll old questions last

asked_all : (old : Asked) (questions : List Question) (answers : Answers) (new : Option Asked)
    → Asks Keeps (Some old) questions answers new → AskedAll old questions answers new
asked_all old [] [] new asked = record {
  last = old;
  is = sym asked;
  none = tt;
  kept = λ whole. (whole, sym (append-nil (map question_of old.links.items)));
}
asked_all old [] (a ∷ answers) new asked = absurd asked
asked_all old (q ∷ questions) [] new asked = absurd asked
asked_all old (q ∷ questions) (a ∷ answers) new (then, keeps, asked) =
    let rest = asked_all then questions answers new asked in
    record {
      last = rest.last;
      is = rest.is;
      none = (keeps.unanswered, rest.none);
      kept = λ whole.
          let later = rest.kept whole in
          let first = keeps.kept later.0 in (
            first.0,
            later.1 ∙ ap (λ qs. qs ++ questions) first.1
                ∙ append_assoc (map question_of old.links.items) (q ∷ []) questions,
          );
    }

-- a callback that was asked nothing before, of a new parser, keeps the questions of the text
module _ (s : Source) (p : Parser Asked) (first : Asked) (given : List (Event × Range ℕ)) (new : Option Asked)
    (reads : ReadsText s p) (callback : parser_callback p ≡ Some first)
    (rest : GaveRest IsPlacedOf Keeps p given new) where
  asked_rest : AskedAll first (questions_of (elements p rest.answers)) rest.answers new
  asked_rest = asked_all first (questions_of (elements p rest.answers)) rest.answers new
      (subst (λ (c : Option Asked). Asks Keeps c (questions_of (elements p rest.answers)) rest.answers new) callback
      rest.asked)

  pub asked_some : new ≡ None → ⊥
  asked_some none = let is = asked_rest.is in cc (is, none)

  pub broken_asked : first.links.items ≡ [] → (last : Asked) → new ≡ Some last → last.is_refused ≡ false
      → map question_of last.links.items ≡ broken_of_text s
  broken_asked empty last is =
      let all = asked_rest in
      let there = all.is in
      let same : all.last ≡ last = cc (there, is) in
      let left : elements p rest.answers ≡ reading_of_text s true rest.answers =
      reads.left rest.answers ∙ ap (λ (c : Option Asked). reading_of_text s (is_some c) rest.answers) callback in
      subst (λ (l : Asked). l.is_refused ≡ false → map question_of l.links.items ≡ broken_of_text s) same (λ whole.
      (all.kept whole).1
      ∙ ap (λ (links : List BrokenLink). map question_of links ++ questions_of (elements p rest.answers)) empty
      ∙ ap (λ (es : List Element). questions_of es)
      (left ∙ sym (reading_unanswered s true rest.answers all.none)))
