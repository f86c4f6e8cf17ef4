-- The forms in which the texts of an event are held: a merge passes them on, and boxes what it joins.
use Rattle.std.specs.Prelude.{List, [], ◌∷◌, map}
use Rattle.markdown_base.specs.CopiedTexts.{texts_of_event}
use Rattle.markdown_base.specs.declared.cow_str.CowStr.{CowStr}
use Rattle.markdown_base.specs.declared.cow_str.CowStr.TheVariants.{Boxed, Borrowed, Inlined}
use Rattle.markdown_base.specs.declared.event.Event.{Event}

-- how a text is held: in a box, as a slice of the source, or in place
pub data TextForm : Type 0 where
  boxed_form : TextForm
  slice_form : TextForm
  inline_form : TextForm

-- the form of a text
abbrev pub text_form : CowStr → TextForm
text_form (Boxed boxed) = boxed_form
text_form (Borrowed slice) = slice_form
text_form (Inlined inlined) = inline_form

-- the forms of the texts of an event
abbrev pub event_forms : Event → List TextForm
event_forms event = map text_form (texts_of_event event)

-- where an event is, and the forms of its texts
abbrev pub Formed : Type 0 → Type 0
Formed P = P × List TextForm

-- an event with its range, and with the forms of its texts
abbrev pub with_forms : {T P : Type 0} → (T → Event × P) → T → Event × Formed P
with_forms parts x = ((parts x).0, ((parts x).1, event_forms (parts x).0))

-- Texts that are joined become a boxed one, from the range of the first to that of the last
abbrev pub boxed_through : {P : Type 0} → (P → P → P) → Formed P → Formed P → Formed P
boxed_through through first last = (through first.0 last.0, boxed_form ∷ [])
