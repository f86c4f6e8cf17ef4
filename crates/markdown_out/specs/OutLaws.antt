-- Laws of the merge, and of the HTML of merged events.
use Rattle.std.specs.Prelude.{◌≡◌, ◌⊎◌, ℕ, false, List, [], ◌∷◌, ◌++◌, map, Ok, Err, Result, Option, None}
use Rattle.std.specs.List.{flat_map, AllByRecursion}
use Rattle.std.specs.Iterator.{Count, Drains, Yields}
use Rattle.std.specs.declared.ops.Range.{Range}
use Rattle.markdown_base.specs.Event.{EventView, text, event_view}
use Rattle.markdown_base.specs.declared.event.Event.{Event}
use Rattle.markdown_base.specs.declared.fault.Fault.{Fault}
use Rattle.markdown_out.specs.EventHtml.{html_of, open_html}
use Rattle.markdown_out.specs.HtmlCorrect.{items}
use Rattle.markdown_out.specs.LookBacks.{IsTooDeep}
use Rattle.markdown_out.specs.Merge.{Item, text_of_item, merged}
use Rattle.markdown_out.specs.MergeNext.{Gave, MergeState, CallsMerge, item_view}
use Rattle.markdown_out.specs.EventRanges.{bare, nowhere, through_ranges}

-- at most one of the two is a Text
abbrev pub AreApart : {P : Type 0} → Item P → Item P → Type 0
AreApart x y = (text_of_item x ≡ None) ⊎ (text_of_item y ≡ None)

-- no two Texts are neighbours
abbrev pub HasNoNeighbours : {P : Type 0} → List (Item P) → Type 0
HasNoNeighbours [] = Unit {0}
HasNoNeighbours (x ∷ []) = Unit {0}
HasNoNeighbours (x ∷ y ∷ ys) = AreApart x y × HasNoNeighbours (y ∷ ys)

-- an event, as an item
abbrev pub event_item : EventView → Item (Unit {0})
event_item e = Ok (e, tt)

-- the event that an item is, if it is one
abbrev pub item_events : Item (Unit {0}) → List EventView
item_events (Ok placed) = placed.0 ∷ []
item_events (Err fault) = []

-- the merge of a list of events
abbrev pub merged_events : List EventView → List EventView
merged_events events = flat_map item_events (merged nowhere (map event_item events))

-- an event with its range
abbrev pub RangedEvent : Type 0
RangedEvent = EventView × Range ℕ

-- an event with its range, as an item
abbrev pub ranged_item : RangedEvent → Item (Range ℕ)
ranged_item placed = Ok placed

-- the event with its range that an item is, if it is one
abbrev pub item_ranged : Item (Range ℕ) → List RangedEvent
item_ranged (Ok placed) = placed ∷ []
item_ranged (Err fault) = []

-- the merge of a list of events with their ranges
abbrev pub merged_ranged : List RangedEvent → List RangedEvent
merged_ranged events = flat_map item_ranged (merged through_ranges (map ranged_item events))

-- an event is not an empty Text
abbrev pub IsNoEmptyText : EventView → Type 0
IsNoEmptyText (text []) = ⊥
IsNoEmptyText e = Unit {0}

-- where no Text is empty, merging changes no byte of the HTML
abbrev pub MergingKeepsHtml : Type 0
MergingKeepsHtml = (events : List EventView) → AllByRecursion IsNoEmptyText events
    → html_of (merged_events events) ≡ html_of events

-- in every state that calls of the iterator lead to, None is followed only by None
abbrev pub StaysEnded : {S A : Type 0} → (S → Option A → S → Type 0) → S → Type 0
StaysEnded {S} {A} steps it = (answers : List (Option A)) (s t u : S) (r : Option A)
    → Gave steps it answers s → steps s None t → steps t r u → r ≡ None

module _ {S T P : Type 0} (through : P → P → P) (view : Result T Fault → Item P)
    (steps : S → Option (Result T Fault) → S → Type 0) (it : S) (given : List (Result T Fault)) where
  -- these are all items of the iterator up to its first None, and those returned are their merge
  pub record IsMergeOfAll : Type 0 where
    pub all : List (Result T Fault)
    pub read : Drains steps it all
    pub merges : merged through (map view all) ≡ map view given

  -- these items of the iterator were read, and those returned are a prefix of their merge
  pub record IsMergeSoFar : Type 0 where
    pub so_far : List (Result T Fault)
    pub left : S
    pub read : Yields steps it so_far left
    pub missing : List (Item P)
    pub merges : merged through (map view so_far) ≡ map view given ++ missing

module _ {M S T P : Type 0} (through : P → P → P) (view : Result T Fault → Item P)
    (steps : S → Option (Result T Fault) → S → Type 0) (can : S → Type 0) (rest : S → Count)
    (state : M → MergeState S P) where
  -- a call of `next` of a merge
  abbrev pub merge_steps : M → Option (Result T Fault) → M → Type 0
  merge_steps m r t = CallsMerge through view steps can rest (state m) r (state t)

  -- over an iterator that stays ended, where no allocation was refused: up to its first None a new merge
  -- returns the merge of all items, and at all times it has returned a prefix of the merge of those read
  pub record GivesTheMerge (m : M) : Type 0 where
    pub all : (given : List (Result T Fault)) (t u : M) → Yields merge_steps m given t
        → merge_steps t None u → (state u).over ≡ false
        → IsMergeOfAll through view steps (state m).iter given
    pub so_far : (given : List (Result T Fault)) (t : M) → Yields merge_steps m given t
        → (state t).over ≡ false → IsMergeSoFar through view steps (state m).iter given

-- a merge has read nothing yet, and no allocation has been refused
pub record IsNewMerge {S P : Type 0} (m : MergeState S P) : Type 0 where
  pub holds : m.held ≡ []
  pub goes_on : m.over ≡ false

module _ {S : Type 0} (steps : S → Option (Result Event Fault) → S → Type 0) (it : S)
    (old new : List ℕ) where
  -- these are all events up to the first None, and the old text is followed by the HTML of their merge
  pub record IsRenderedMerged : Type 0 where
    pub events : List Event
    pub read : Drains steps it (items events)
    pub stands : new ≡ old ++ html_of (merged_events (map event_view events))

  -- the item after these events is this error, and the old text is followed by the open HTML of their merge
  pub record StopsAtErrorMerged (fault : Fault) : Type 0 where
    pub events : List Event
    pub left : S
    pub read : Yields steps it (items events ++ Err fault ∷ []) left
    pub stands : new ≡ old ++ open_html (merged_events (map event_view events))

  -- the merge was refused memory; the old text is followed by the open HTML of a prefix of the merge of the events read
  pub record IsRefusedMerged : Type 0 where
    pub events : List Event
    pub prefix : IsMergeSoFar nowhere (item_view bare) steps it (items events)
    pub stands : new ≡ old ++ open_html (map event_view events)

  -- more Starts are open in an image than can be counted, in a prefix of the merge of the events read,
  -- and the old text is followed by the open HTML of that prefix
  pub record GoesTooDeepMerged : Type 0 where
    pub events : List Event
    pub left : S
    pub read : Yields steps it (items events) left
    pub given : List EventView
    pub missing : List EventView
    pub prefix : merged_events (map event_view events) ≡ given ++ missing
    pub stands : new ≡ old ++ open_html given
    pub deep : IsTooDeep given
