-- What an event that a parser without a callback returns says of the metadata in what was left of it.
use Rattle.std.proofs.Common.{◌≡◌, ◌∙◌, List, [], ◌∷◌, Ok, Option, Some, None}
use Rattle.std.proofs.Common.{Result, ap, option_and_then, refl, sym}
use Rattle.markdown_base.specs.Event.{EventView, event_view}
use Rattle.markdown_base.specs.Questions.{Answer, Answers, Question}
use Rattle.markdown_base.specs.declared.event.Event.{Event}
use Rattle.markdown_base.specs.declared.fault.Fault.{Fault}
use Rattle.markdown_defs.specs.Callback.{Asks}
use Rattle.markdown_inline.specs.Elements.{Element, Placed, event, events_of}
use Rattle.markdown_inline.specs.NextGives.{GivesItem, IsEventOf, NextGives}
use Rattle.markdown_inline.specs.ParserLeft.{elements, parser_callback}
use Rattle.markdown_inline.specs.declared.walk.Parser.{Parser}
use Rattle.markdown_inline.proofs.RunLemmas.{events_of-questions}
use Rattle.markdown_page.specs.MetadataTitle.{metadata_title}
use Rattle.markdown_tool_output.specs.Metadata.{leading_text, leading_title, opened_metadata, text_then}

-- the events that are left of a parser without a callback
abbrev pub events_left : {F : Type 0} → Parser F → List Placed
events_left p = events_of (elements p [])

-- with no callback nothing is asked, and there is none afterwards
unasked : {F : Type 0} (step : F → Question → Option Answer → F → Type 0) (after : Option F) (questions : List Question)
    (answers : Answers) → Asks step None questions answers after → (answers ≡ []) × (after ≡ None)
unasked step after [] [] asked = (refl, sym asked)
unasked step after [] (a ∷ answers) asked = absurd asked
unasked step after (q ∷ questions) [] asked = absurd asked
unasked step after (q ∷ questions) (a ∷ answers) asked = absurd asked

module _ {F : Type 0} (step : F → Question → Option Answer → F → Type 0) (p q : Parser F)
    (item : Result Event Fault) (e : Event)
    (next : NextGives step IsEventOf p (Some item) q) (is : item ≡ Ok e) (none : parser_callback p ≡ None) where
  -- what was left is the event, and what is left now
  record Takes : Type 0 where
    pub placed : Placed
    pub view : placed.0 ≡ event_view e
    pub left : events_left p ≡ placed ∷ events_left q
    pub alone : parser_callback q ≡ None

  taken : GivesItem step IsEventOf p e q → Takes
  taken g =
      let asked = rw none at g.asked in
      let nobody = unasked step (parser_callback q) g.questions g.answers asked in
      let left = rw nobody.0 at (g.left []) in
      record {
        placed = g.placed;
        view = g.is_item.view;
        left = ap (λ (es : List Element). events_of es) left
            ∙ events_of-questions g.questions (event g.placed ∷ elements q []);
        alone = nobody.1;
      }

  takes : Takes
  takes = let n = rw is at next in taken n.gives

  pub stays_alone : parser_callback q ≡ None
  stays_alone = let t = takes in t.alone

  pub text_taken : leading_text (events_left p) ≡ text_then (event_view e) (leading_text (events_left q))
  text_taken =
      let t = takes in
      ap leading_text t.left ∙ ap (λ (v : EventView). text_then v (leading_text (events_left q))) t.view

  pub title_taken : leading_title (events_left p)
      ≡ option_and_then (λ kind. metadata_title kind (leading_text (events_left q))) (opened_metadata (event_view e))
  title_taken =
      let t = takes in
      ap leading_title t.left
      ∙ ap (λ (v : EventView). option_and_then (λ kind. metadata_title kind (leading_text (events_left q)))
      (opened_metadata v)) t.view
