-- What a call of `next` of a `HeadingIds` returns, over any iterator.
use Rattle.std.specs.Prelude.{◌≡◌, ◌⊎◌, ◌+◌, ℕ, Bool, true, false, cond}
use Rattle.std.specs.Prelude.{List, [], ◌∷◌, ◌++◌, length, map, Ok, Err, Result}
use Rattle.std.specs.Prelude.{Option, Some, None, MatchOption}
use Rattle.std.specs.Iterator.{Count, IsFinite, Yields, YieldsThen, size}
use Rattle.std.specs.declared.ops.Range.{Range}
use Rattle.markdown_base.specs.Event.{HeadingView, event_view}
use Rattle.markdown_base.specs.declared.event.Event.{Event}
use Rattle.markdown_base.specs.declared.fault.Fault.{Fault}
use Rattle.markdown_base.specs.declared.fault.Fault.TheVariants.{Memory}
use Rattle.markdown_heading_ids.specs.HeadingIds.{Id}
use Rattle.markdown_heading_ids.specs.HeadingItems.{RangedItem, items_with_ids}
use Rattle.markdown_heading_ids.specs.TakenIds.{StandsFor}
use Rattle.markdown_heading_ids.specs.declared.taken.Taken.{Taken}
use Rattle.markdown_out.specs.EventRanges.{with_range}
use Rattle.markdown_out.specs.MergeNext.{item_view}
use Rattle.markdown_outline.specs.Outline.{opened_heading}

-- an item of the iterator
abbrev pub SourceItem : Type 0
SourceItem = Result (Event × Range ℕ) Fault

-- the same in the form in which the ids are defined
abbrev pub item_seen : SourceItem → RangedItem
item_seen item = item_view with_range item

-- an adapter between calls: its iterator, the items that have been read and not returned yet, whether the next item of
-- the iterator is inside a heading, the ids that are taken, and whether the iterator has ended, or memory was refused
pub record IdsState (S : Type 0) : Type 0 where
  pub iter : S
  pub kept : List RangedItem
  pub inside : Bool
  pub taken : Taken
  pub over : Bool

-- what follows, where the iterator has not ended
abbrev pub unless_over : Bool → List RangedItem → List RangedItem
unless_over true later = []
unless_over false later = later

-- the items that an adapter still has to return, where these ids are taken and these items of the iterator follow
abbrev pub items_to_come : {S : Type 0} → IdsState S → (taken : List Id) → (later : List RangedItem) → List RangedItem
items_to_come s taken later = s.kept ++ items_with_ids s.inside taken (unless_over s.over later)

-- the most items that an adapter has left, from the count of those that its iterator has left
abbrev pub count_to_come : {S : Type 0} → (S → Count) → IdsState S → ℕ
count_to_come rest s = length s.kept + cond s.over 0 (size (rest s.iter))

-- where the iterator has not ended, it may be called, and ends
pub record MayCallSource {S : Type 0} (can : S → Type 0) (rest : S → Count) (s : IdsState S) : Type 0 where
  pub callable : s.over ≡ false → can s.iter
  pub ends : s.over ≡ false → IsFinite (rest s.iter)

module _ {S : Type 0} (steps : S → Option SourceItem → S → Type 0) where
  -- calls of the iterator led from s to t and returned these items, and then None if it has ended now and had not
  -- before; once it has ended it is not called
  abbrev pub CallsSource : (over_before over_now : Bool) → S → List SourceItem → S → Type 0
  CallsSource true now s items t = (now ≡ true) × (items ≡ []) × (s ≡ t)
  CallsSource false true s items t = YieldsThen steps s items None t
  CallsSource false false s items t = Yields steps s items t

  -- where these ids are taken, and whatever items follow, what was to come is the item returned and what is to come now
  pub record GivesOne (s : IdsState S) (read : List SourceItem) (item : SourceItem) (t : IdsState S) (taken : List Id)
      : Type 0 where
    pub after : List Id
    pub stands : StandsFor t.taken after
    pub gives : (later : List RangedItem) → items_to_come s taken (map item_seen read ++ unless_over t.over later)
        ≡ item_seen item ∷ items_to_come t after later

  -- items of the iterator were read, and an item is returned: one that was kept, where the iterator has ended
  pub record PassesItem (s : IdsState S) (item : SourceItem) (t : IdsState S) : Type 0 where
    pub kept : s.over ≡ true → s.kept ≡ item_seen item ∷ t.kept
    pub items : List SourceItem
    pub read : CallsSource s.over t.over s.iter items t.iter
    pub leaves : (taken : List Id) → StandsFor s.taken taken → GivesOne s items item t taken

  -- memory is refused when the Start of a heading without an id has been read: an error is returned, and nothing is to
  -- come
  pub record IsRefusedAnId (s : IdsState S) (item : SourceItem) (t : IdsState S) : Type 0 where
    pub is : item ≡ Err Memory
    pub goes_on : s.over ≡ false
    pub event : Event × Range ℕ
    pub left : S
    pub read : steps s.iter (Some (Ok event)) left
    pub heading : HeadingView
    pub opens : opened_heading (event_view event.0) ≡ Some heading
    pub lacks : heading.id ≡ None
    pub outside : s.inside ≡ false
    pub nothing : t.kept ≡ []
    pub over : t.over ≡ true

  -- nothing was to come, and nothing is
  pub record HasReturnedAll (s t : IdsState S) : Type 0 where
    pub read : CallsSource s.over true s.iter [] t.iter
    pub none : s.kept ≡ []
    pub nothing : t.kept ≡ []
    pub over : t.over ≡ true

  -- a call: it returns the next item, memory is refused, or all has been returned
  abbrev pub GivesIds : IdsState S → Option SourceItem → IdsState S → Type 0
  GivesIds s r t = MatchOption r (HasReturnedAll s t) (λ item. PassesItem s item t ⊎ IsRefusedAnId s item t)

  -- a call of what has this state
  abbrev pub ids_steps : {M : Type 0} → (M → IdsState S) → M → Option SourceItem → M → Type 0
  ids_steps state h r t = GivesIds (state h) r (state t)
