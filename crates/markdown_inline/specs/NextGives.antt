-- What a call of `next` gives, of what was left of a parser.
use Rattle.std.specs.Prelude.{◌≡◌, ℕ, List, [], ◌∷◌, ◌++◌, map, Option, None, Result, MatchOption, MatchResult}
use Rattle.std.specs.declared.ops.Range.{Range}
use Rattle.markdown_base.specs.Event.{event_view}
use Rattle.markdown_base.specs.Questions.{Question, Answer, Answers}
use Rattle.markdown_base.specs.declared.event.Event.{Event}
use Rattle.markdown_base.specs.declared.fault.Fault.{Fault}
use Rattle.markdown_base.specs.declared.fault.Fault.TheVariants.{Memory}
use Rattle.markdown_defs.specs.Callback.{Asks}
use Rattle.markdown_document.specs.Counts.{WorkRises}
use Rattle.markdown_resolver.specs.ChainCounts.{RisesInPart}
use Rattle.markdown_inline.specs.Elements.{Placed, Element, question, event}
use Rattle.markdown_inline.specs.ParserLeft.{parser_text, parser_definitions, parser_callback, elements, parser_counts}
use Rattle.markdown_inline.specs.ParserLeft.{parser_work, IsOver}
use Rattle.markdown_inline.specs.Slices.{slice_start, texts_of, AreFrom, StartIsFrom}
use Rattle.markdown_inline.specs.declared.walk.Parser.{Parser}

-- an event is this one of a reading of the source: its texts, and the title of an inline link, have the same bytes and
-- the origins of the reading, and the destination of a link comes from its range in the source as its type says
pub record IsEventOf (source : List ℕ) (e : Event) (placed : Placed) : Type 0 where
  pub view : placed.0 ≡ event_view e
  pub texts : AreFrom source (slice_start source e placed.1.start) placed.1.end placed.2 (texts_of e)
  pub start : StartIsFrom source placed.1.start placed.1.end placed.2 e

-- the same for an event with its range
pub record IsPlacedOf (source : List ℕ) (e : Event × Range ℕ) (placed : Placed) : Type 0 where
  pub is_event : IsEventOf source e.0 placed
  pub range : placed.1 ≡ e.1

-- From s to t an item was given: the callback returned these answers to these questions, and, whatever answers follow,
-- what was left is the questions, then the event that the item is, and then what is left now. The counts rose by those
-- of the chain that was resolved, if there was one.
pub record GivesItem {F I : Type 0} (step : F → Question → Option Answer → F → Type 0) (is_of : List ℕ → I → Placed
    → Type 0)
    (s : Parser F) (item : I) (t : Parser F) : Type 0 where
  pub questions : List Question
  pub answers : Answers
  pub asked : Asks step (parser_callback s) questions answers (parser_callback t)
  pub placed : Placed
  pub is_item : is_of (parser_text s) item placed
  pub left : (later : Answers) → elements s (answers ++ later) ≡ map question questions
      ++ event placed ∷ elements t later
  pub counts : (later : Answers) → WorkRises (parser_counts s (answers ++ later)) (parser_work s) (parser_work t)

-- an error was given, which is one of memory: the callback returned these answers to these questions, with which what
-- was left begins, and the walk is over. The counts rose by a part of those of the chain that was to be resolved.
pub record GivesError {F : Type 0} (step : F → Question → Option Answer → F → Type 0) (s : Parser F) (fault : Fault)
    (t : Parser F) : Type 0 where
  pub memory : fault ≡ Memory
  pub questions : List Question
  pub answers : Answers
  pub asked : Asks step (parser_callback s) questions answers (parser_callback t)
  pub begins : (later : Answers) → (others : List Element) × (elements s (answers ++ later) ≡ map question questions
      ++ others)
  pub over : IsOver t
  pub counts : (later : Answers) → RisesInPart (parser_counts s (answers ++ later)) (parser_work s) (parser_work t)

-- None was given: nothing was left, nothing was asked, and the walk is over. The counts rose as they do at an event.
pub record GivesNone {F : Type 0} (s t : Parser F) : Type 0 where
  pub none_left : (answers : Answers) → elements s answers ≡ []
  pub callback : parser_callback t ≡ parser_callback s
  pub over : IsOver t
  pub counts : (answers : Answers) → WorkRises (parser_counts s answers) (parser_work s) (parser_work t)

-- one of these three; also, the text and its reference definitions stay the same, and a walk that is over gives None
-- and stays over
pub record NextGives {F I : Type 0} (step : F → Question → Option Answer → F → Type 0) (is_of : List ℕ → I → Placed
    → Type 0)
    (s : Parser F) (r : Option (Result I Fault)) (t : Parser F) : Type 0 where
  pub gives : MatchOption r (GivesNone s t) (λ item. MatchResult item (λ e. GivesItem step is_of s e t)
      (λ fault. GivesError step s fault t))
  pub text : parser_text t ≡ parser_text s
  pub definitions : parser_definitions t ≡ parser_definitions s
  pub stays : IsOver s → (r ≡ None) × IsOver t
