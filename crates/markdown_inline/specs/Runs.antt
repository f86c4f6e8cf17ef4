-- All items of a parser, from a call of `next` up to its None.
use Rattle.std.specs.Prelude.{◌≡◌, ◌⊎◌, ℕ, List, [], ◌∷◌, ◌++◌, map, Ok, Err, Option, Result}
use Rattle.markdown_base.specs.Questions.{Question, Answer, Answers}
use Rattle.markdown_base.specs.declared.fault.Fault.{Fault}
use Rattle.markdown_base.specs.declared.fault.Fault.TheVariants.{Memory}
use Rattle.markdown_defs.specs.Callback.{Asks}
use Rattle.markdown_inline.specs.Elements.{Element, Placed, events_of, questions_of}
use Rattle.markdown_inline.specs.ParserLeft.{parser_text, parser_callback, elements}
use Rattle.markdown_inline.specs.declared.walk.Parser.{Parser}

module _ {I : Type 0} (is_of : List ℕ → I → Placed → Type 0) where
  -- these items are these events of a reading of the source, one by one
  abbrev pub AreOf : List ℕ → List I → List Placed → Type 0
  AreOf source [] [] = Unit {0}
  AreOf source [] (placed ∷ events) = ⊥
  AreOf source (item ∷ items) [] = ⊥
  AreOf source (item ∷ items) (placed ∷ events) = is_of source item placed × AreOf source items events

  -- the items are all events that were left, for the answers of the callback to all questions that were left
  pub record GaveRest {F : Type 0} (step : F → Question → Option Answer → F → Type 0) (p : Parser F) (given : List I)
      (callback : Option F) : Type 0 where
    pub events : List Placed
    pub are : AreOf (parser_text p) given events
    pub answers : Answers
    pub asked : Asks step (parser_callback p) (questions_of (elements p answers)) answers callback
    pub left : (later : Answers) → events_of (elements p (answers ++ later)) ≡ events

  -- the items are the events of a beginning of what was left, for the answers of the callback to the questions of this
  -- beginning, and for all answers that could have followed
  pub record GaveBeginning {F : Type 0} (step : F → Question → Option Answer → F → Type 0) (p : Parser F)
      (given : List I) (callback : Option F) : Type 0 where
    pub first : List Element
    pub are : AreOf (parser_text p) given (events_of first)
    pub answers : Answers
    pub asked : Asks step (parser_callback p) (questions_of first) answers callback
    pub begins : (later : Answers) → (others : List Element) × (elements p (answers ++ later) ≡ first ++ others)

  -- the items are all events that were left
  pub record GaveAll {F : Type 0} (step : F → Question → Option Answer → F → Type 0) (p : Parser F)
      (all : List (Result I Fault)) : Type 0 where
    pub given : List I
    pub no_fault : all ≡ map (λ item. Ok item) given
    pub callback : Option F
    pub rest : GaveRest step p given callback

  -- the items are the events of a beginning of what was left, and then an error, after which nothing came
  pub record WasRefused {F : Type 0} (step : F → Question → Option Answer → F → Type 0) (p : Parser F)
      (all : List (Result I Fault)) : Type 0 where
    pub given : List I
    pub one_fault : all ≡ map (λ item. Ok item) given ++ Err Memory ∷ []
    pub callback : Option F
    pub beginning : GaveBeginning step p given callback

  -- a run ends in one of these two ways
  abbrev pub IsRun : {F : Type 0} → (F → Question → Option Answer → F → Type 0) → Parser F → List (Result I Fault)
      → Type 0
  IsRun step p all = GaveAll step p all ⊎ WasRefused step p all
