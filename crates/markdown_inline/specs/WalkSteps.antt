-- What one step of a walk over a tree gives.
use Rattle.markdown_base.specs.declared.event.Event.TheVariants as events
use Rattle.markdown_inline.specs.declared.bodies.Visit.TheVariants as visit
use Rattle.markdown_inline.specs.declared.step.Step.TheVariants as step
use Rattle.std.specs.Prelude.{◌≡◌, ℕ, ◌<◌, true, if◌then◌else◌, List, [], ◌∷◌, Option, Some, None, slice_range}
use Rattle.std.specs.declared.ops.Range.{Range}
use Rattle.markdown_base.specs.Arena.{Arena}
use Rattle.markdown_base.specs.BlockTree.{item_at}
use Rattle.markdown_base.specs.Event.{EventView, TagView, event_view, start, hard_break}
use Rattle.markdown_base.specs.Item.{LiesIn, is_open, range_of, reference_of, refers}
use Rattle.markdown_base.specs.declared.event.Event.{Event}
use Rattle.markdown_base.specs.declared.item.Item.{Item}
use Rattle.markdown_base.specs.declared.item.ItemBody.{ItemBody}
use Rattle.markdown_base.specs.declared.tag.TagEnd.{TagEnd}
use Rattle.markdown_defs.specs.Allocations.{Allocated}
use Rattle.markdown_document.specs.Document.{Origin, Shape, leaf, enclosed, plain, backslash_break, unresolved}
use Rattle.markdown_document.specs.Document.{shape_of}
use Rattle.markdown_document.specs.PlacedNodes.{ComesFromPlace}
use Rattle.markdown_inline.specs.Elements.{Placed, Passage, event_first}
use Rattle.markdown_document.specs.Setting.{Rules, ReferenceState, setting_of}
use Rattle.markdown_inline.specs.Slices.{slice_start, texts_of, AreFrom, StartIsFrom}
use Rattle.markdown_inline.specs.Standing.{Stands}
use Rattle.markdown_document.specs.NamedEntries.{times_named, Named, NamesEntries, IsSameEntry, IsNoShorter}
use Rattle.markdown_document.specs.Tables.{Tables, tables_of, no_tables}
use Rattle.markdown_inline.specs.Walk.{end_of_body, tree_left}
use Rattle.markdown_inline.specs.declared.bodies.Visit.{Visit}
use Rattle.markdown_inline.specs.declared.step.Step.{Step}
use Rattle.markdown_inline.specs.WalkTotals.{tree_steps}

-- the event that a tree of this shape begins with, with the origins of its texts
abbrev pub beginning : Shape → Option (EventView × List Origin)
beginning (leaf e origins) = Some (e, origins)
beginning (enclosed tag origins) = Some (start tag, origins)
beginning plain = None
beginning backslash_break = Some (hard_break, [])
beginning (unresolved b) = None

-- an item of this shape over this range begins with this event, whose texts have the origins that the shape determines
pub record OpensWith (source : List ℕ) (range : Range ℕ) (shape : Shape) (e : Event) : Type 0 where
  pub origins : List Origin
  pub begins : beginning shape ≡ Some (event_view e, origins)
  pub texts : AreFrom source (slice_start source e range.start) range.end origins (texts_of e)
  pub start : StartIsFrom source range.start range.end origins e

-- how a walk moves at a tree of this shape
abbrev pub visit_at_shape : Shape → Visit
visit_at_shape (leaf e origins) = visit.Leaf
visit_at_shape (enclosed tag origins) = visit.Start
visit_at_shape plain = visit.Plain
visit_at_shape backslash_break = visit.Leaf
visit_at_shape (unresolved b) = visit.Open

-- the way depends on the body alone
abbrev pub visit_at : ItemBody → Visit
visit_at b = visit_at_shape (shape_of no_tables [] b)

-- the tag of a tree of this shape, where it reads as a Start and an End
abbrev pub enclosing_tag : Shape → Option TagView
enclosing_tag (leaf e origins) = None
enclosing_tag (enclosed tag origins) = Some tag
enclosing_tag plain = None
enclosing_tag backslash_break = None
enclosing_tag (unresolved b) = None

-- the tag of a body that reads as a Start and an End and refers to nothing
abbrev pub container_of : ItemBody → Option TagView
container_of b = if refers (reference_of b) then None else enclosing_tag (shape_of no_tables [] b)

-- the event of an item can be made: the item lies in the text, and the entries that it refers to exist
pub record CanBegin (source : List ℕ) (tables : Tables) (item : Item) : Type 0 where
  pub lies : LiesIn source item
  pub named : NamesEntries tables item.body
  pub slices : ComesFromPlace source tables item

-- a tree with this body at its root ends with this End, or without one
abbrev pub ClosesTo : ItemBody → Option TagEnd → Type 0
ClosesTo body e = end_of_body body ≡ e

-- only the entry that a body refers to may have changed
pub record TakesOnly (body : ItemBody) (old new : Allocated) : Type 0 where
  pub tables : new ≡ record old { cows = new.cows; links = new.links; alignments = new.alignments }
  pub longer : IsNoShorter (tables_of old) (tables_of new)
  pub others : (n : Named) → times_named n body ≡ 0 → IsSameEntry (tables_of old) (tables_of new) n

-- the invariant of the walk of a tree, with these tables
abbrev pub TreeStands : List ℕ → Tables → Arena Item → Type 0
TreeStands source tables arena = Stands source tables arena.nodes arena.cursor arena.spine

-- the walk is over: it has no cursor, and no node is entered
pub record HasEnded (arena : Arena Item) : Type 0 where
  pub cursor : arena.cursor ≡ None
  pub spine : arena.spine ≡ []

-- these events, and then the rest
abbrev pub events_first : List Placed → (rest : Passage) → Passage
events_first [] rest = rest
events_first (e ∷ given) rest = event_first e (events_first given rest)

-- a step from s to t gave these events, whatever the rules by which chains are resolved
pub record Went (source : List ℕ) (s t : Arena Item) (held held' : Allocated) (given : List Placed) : Type 0 where
  pub stands : TreeStands source (tables_of held') t
  pub tables : held' ≡ record held { cows = held'.cows; links = held'.links; alignments = held'.alignments }
  pub left : (rules : Rules) (state : ReferenceState) → tree_left (setting_of source rules) (tables_of held) s state
      ≡ events_first given (tree_left (setting_of source rules) (tables_of held') t state)
  pub falls : tree_steps t < tree_steps s

-- a step gave this event with this range
pub record Gives (source : List ℕ) (s t : Arena Item) (held held' : Allocated) (e : Event) (range : Range ℕ) : Type 0
  where
    pub origins : List Origin
    pub texts : AreFrom source (slice_start source e range.start) range.end origins (texts_of e)
    pub start : StartIsFrom source range.start range.end origins e
    pub went : Went source s t held held' ((event_view e, range, origins) ∷ [])

-- a step went past the beginning of an item, whose event is not made yet: the event is given once it is made, whatever
-- remains of the entry that the item refers to
pub record PassedBeginning (source : List ℕ) (s t : Arena Item) (held : Allocated) (item : Item) : Type 0 where
  pub can : CanBegin source (tables_of held) item
  pub stays : TreeStands source (tables_of held) t
  pub stands : (held' : Allocated) → TakesOnly item.body held held' → TreeStands source (tables_of held') t
  pub went : (held' : Allocated) (e : EventView) (origins : List Origin) → TakesOnly item.body held held'
      → beginning (shape_of (tables_of held) (slice_range source item.start item.end) item.body) ≡ Some (e, origins)
      → Went source s t held held' ((e, range_of item, origins) ∷ [])
  pub falls : tree_steps t < tree_steps s

-- a step was refused memory: it left the tree unchanged, and the walk was not over
pub record IsRefused (s t : Arena Item) : Type 0 where
  pub same : t ≡ s
  pub steps : 0 < tree_steps s

-- the walk is before a chain, at its first open item
pub record IsBeforeChain (s : Arena Item) (first : ℕ) : Type 0 where
  pub cursor : s.cursor ≡ Some first
  pub is_open : is_open (item_at s.nodes first).body ≡ true

-- what a step over the tree gives
abbrev pub StepGives : List ℕ → Arena Item → Arena Item → Allocated → Step → Type 0
StepGives source s t held step.Done = HasEnded s × (t ≡ s)
StepGives source s t held step.Skip = Went source s t held held []
StepGives source s t held (step.Leaf item) = PassedBeginning source s t held item × (visit_at item.body ≡ visit.Leaf)
StepGives source s t held (step.Start item) = PassedBeginning source s t held item × (visit_at item.body ≡ visit.Start)
StepGives source s t held (step.End e item) = Gives source s t held held (events.End e) (range_of item)
StepGives source s t held (step.Chain first) = IsBeforeChain s first × (t ≡ s)

-- the event that a tree reads as, with the origins of its texts, where it reads as one event
abbrev pub event_of_shape : Shape → Option (EventView × List Origin)
event_of_shape (leaf e origins) = Some (e, origins)
event_of_shape backslash_break = Some (hard_break, [])
event_of_shape other = None
