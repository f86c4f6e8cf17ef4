-- What a step of a parser does.
use Rattle.markdown_base.specs.declared.event.Event.TheVariants as events
use Rattle.markdown_inline.specs.declared.bodies.Visit.TheVariants as visit
use Rattle.markdown_inline.specs.declared.walk.Stop.TheVariants as stop
use Rattle.std.specs.Prelude.{◌≡◌, ℕ, ◌<◌, ◌≤◌, List, [], ◌∷◌, ◌++◌, map, Option, Some, None, ◌⊎◌}
use Rattle.std.specs.Prelude.{slice_range}
use Rattle.std.specs.declared.ops.Range.{Range}
use Rattle.markdown_base.specs.Questions.{Question, Answer, Answers}
use Rattle.markdown_base.specs.declared.event.Event.{Event}
use Rattle.markdown_defs.specs.Callback.{Asks}
use Rattle.markdown_inline.specs.Elements.{Placed, Element, Passage, event_first, question, event}
use Rattle.markdown_document.specs.declared.work.Work.{Work}
use Rattle.markdown_document.specs.Counts.{no_counts, WorkRises}
use Rattle.markdown_resolver.specs.ChainCounts.{RisesInPart}
use Rattle.markdown_inline.specs.NextGives.{IsPlacedOf}
use Rattle.markdown_inline.specs.ParserLeft.{parser_text, parser_callback, parser_steps, parser_definitions}
use Rattle.markdown_inline.specs.ParserLeft.{parser_work, parser_counts, parser_left, elements, IsOver}
use Rattle.markdown_inline.specs.declared.walk.Parser.{Parser}
use Rattle.markdown_base.specs.Item.{range_of}
use Rattle.markdown_base.specs.declared.fault.Fault.{Fault}
use Rattle.markdown_base.specs.declared.fault.Fault.TheVariants.{Memory}
use Rattle.markdown_base.specs.declared.item.Item.{Item}
use Rattle.markdown_defs.specs.Allocations.{Allocated}
use Rattle.markdown_document.specs.Document.{Shape, shape_of}
use Rattle.markdown_document.specs.Tables.{tables_of}
use Rattle.markdown_inline.specs.WalkSteps.{CanBegin, OpensWith, TakesOnly, TreeStands, visit_at, events_first}
use Rattle.markdown_inline.specs.declared.bodies.Visit.{Visit}
use Rattle.markdown_inline.specs.declared.walk.Stop.{Stop}

-- an event is read first
pub record BeginsWithEvent (p : Passage) : Type 0 where
  pub first : Placed
  pub rest : Passage
  pub is : p ≡ event_first first rest

-- calls of the callback led from state c to d, and from x to y: for these answers, x is the questions, then the events
-- given, and then y
pub record Leads {C : Type 0} (step : C → Question → Option Answer → C → Type 0) (c d : Option C) (x y : Answers
    → List Element) (given : List Placed) : Type 0 where
  pub answers : Answers
  pub questions : List Question
  pub asked : Asks step c questions answers d
  pub left : (later : Answers) → x (answers ++ later) ≡ map question questions ++ (map event given ++ y later)

-- the text and its reference definitions stay the same
pub record Keeps {F : Type 0} (s t : Parser F) : Type 0 where
  pub text : parser_text t ≡ parser_text s
  pub definitions : parser_definitions t ≡ parser_definitions s

-- from s to t nothing was asked, and these events were given
pub record Gave {F : Type 0} (s t : Parser F) (given : List Placed) : Type 0 where
  pub callback : parser_callback s ≡ parser_callback t
  pub left : (later : Answers) → parser_left s later ≡ events_first given (parser_left t later)
  pub work : parser_work t ≡ parser_work s

-- from s to t the walk went on and gave nothing; where it asked, an event comes next
pub record WentOn {F : Type 0} (step : F → Question → Option Answer → F → Type 0) (s t : Parser F) : Type 0 where
  pub leads : Leads step (parser_callback s) (parser_callback t) (elements s) (elements t) []
  pub asked : Gave s t [] ⊎ ((answers : Answers) → BeginsWithEvent (parser_left t answers))
  -- the counts have risen so that what rises from t on also rises from s on, for the answers that were given
  pub counts : (later : Answers) (work : Work) → WorkRises (parser_counts t later) (parser_work t) work
      → WorkRises (parser_counts s (leads.answers ++ later)) (parser_work s) work
  pub part : (later : Answers) (work : Work) → RisesInPart (parser_counts t later) (parser_work t) work
      → RisesInPart (parser_counts s (leads.answers ++ later)) (parser_work s) work

-- the walk was over, and still is
pub record Ended {F : Type 0} (s t : Parser F) : Type 0 where
  pub was : IsOver s
  pub is : IsOver t
  pub callback : parser_callback s ≡ parser_callback t
  pub ahead : (answers : Answers) → parser_counts s answers ≡ no_counts
  pub work : parser_work t ≡ parser_work s

-- memory was refused, and the walk is over: the callback returned these answers to these questions, with which what was
-- left begins; the counts rose by a part of what was to be counted for these answers
pub record Failed {F : Type 0} (step : F → Question → Option Answer → F → Type 0) (s t : Parser F) : Type 0 where
  pub is : IsOver t
  pub more : 0 < parser_steps s
  pub questions : List Question
  pub answers : Answers
  pub asked : Asks step (parser_callback s) questions answers (parser_callback t)
  pub begins : (later : Answers) → (others : List Element) × (elements s (answers ++ later) ≡ map question questions
      ++ others)
  pub counts : (later : Answers) → RisesInPart (parser_counts s (answers ++ later)) (parser_work s) (parser_work t)

-- an event was given with this range
pub record GaveEvent {F : Type 0} (s t : Parser F) (e : Event) (range : Range ℕ) : Type 0 where
  pub placed : Placed
  pub is_item : IsPlacedOf (parser_text s) (e, range) placed
  pub gave : Gave s t (placed ∷ [])

-- from s to t the walk has gone on and has given nothing
pub record HasGone {F : Type 0} (step : F → Question → Option Answer → F → Type 0) (s t : Parser F) : Type 0 where
  pub went : WentOn step s t
  pub keeps : Keeps s t
  pub over : IsOver s → IsOver t
  pub steps : parser_steps t ≤ parser_steps s

-- the shape of an item, from the text and the tables of a parser
abbrev pub shape_in : {F : Type 0} → Parser F → Item → Shape
shape_in p item = shape_of (tables_of p.resolver.lookup.tables) (slice_range (parser_text p) item.start item.end)
    item.body

-- the event of an item can be made, and the walk keeps its invariant when what the item refers to is taken
pub record IsToBegin {F : Type 0} (s : Parser F) (item : Item) (w : Visit) : Type 0 where
  pub can : CanBegin (parser_text s) (tables_of s.resolver.lookup.tables) item
  pub stands : (held : Allocated) → TakesOnly item.body s.resolver.lookup.tables held
      → TreeStands (parser_text s) (tables_of held) s.tree
  pub goes : visit_at item.body ≡ w

-- what an item refers to was taken, and nothing else was done
pub record Took {F : Type 0} (s t : Parser F) (item : Item) : Type 0 where
  pub text : t.resolver.text ≡ s.resolver.text
  pub syntax : t.resolver.syntax ≡ s.resolver.syntax
  pub callback : t.resolver.lookup.callback ≡ s.resolver.lookup.callback
  pub limit : t.resolver.lookup.limit ≡ s.resolver.lookup.limit
  pub work : t.resolver.work ≡ s.resolver.work
  pub tree : t.tree ≡ s.tree
  pub tables : TakesOnly item.body s.resolver.lookup.tables t.resolver.lookup.tables

-- the event of an item was made
pub record Began {F : Type 0} (s t : Parser F) (item : Item) (e : Event) : Type 0 where
  pub took : Took s t item
  pub opens : OpensWith (parser_text s) (range_of item) (shape_in s item) e

-- the event was not made, since memory was refused, and the walk is over
pub record RefusedAt {F : Type 0} (s t : Parser F) (fault : Fault) : Type 0 where
  pub memory : fault ≡ Memory
  pub is : IsOver t
  pub callback : t.resolver.lookup.callback ≡ s.resolver.lookup.callback
  pub work : t.resolver.work ≡ s.resolver.work
  pub keeps : Keeps s t

-- the walk went past the beginning of an item, whose event is given once it is made
pub record WentPast {F : Type 0} (s t : Parser F) (item : Item) (w : Visit) : Type 0 where
  pub ready : IsToBegin t item w
  pub gave : (u : Parser F) (e : Event) → Took t u item → OpensWith (parser_text t) (range_of item) (shape_in t item) e
      → GaveEvent s u e (range_of item)
  pub callback : parser_callback t ≡ parser_callback s
  pub work : parser_work t ≡ parser_work s
  pub falls : parser_steps t < parser_steps s

-- what one step of the walk does; None where the walk goes on
abbrev pub Moved : {F : Type 0} → (F → Question → Option Answer → F → Type 0) → Parser F → Parser F → Option Stop
    → Type 0
Moved step s t None = WentOn step s t × (parser_steps t < parser_steps s)
Moved step s t (Some stop.Over) = Ended s t
Moved step s t (Some (stop.Leaf item)) = WentPast s t item visit.Leaf
Moved step s t (Some (stop.Start item)) = WentPast s t item visit.Start
Moved step s t (Some (stop.End e item)) = GaveEvent s t (events.End e) (range_of item)
    × (parser_steps t < parser_steps s)
Moved step s t (Some stop.Refused) = Failed step s t

-- the walk went on, and then it stopped
pub record Stops {F : Type 0} (step : F → Question → Option Answer → F → Type 0) (s t : Parser F) (stop : Stop) : Type 0
  where
    pub before : Parser F
    pub gone : HasGone step s before
    pub moved : Moved step before t (Some stop)
    pub keeps : Keeps before t
