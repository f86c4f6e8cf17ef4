-- What a call of `next` of an `Autolinks` returns, over any iterator.
use Rattle.std.specs.Prelude.{◌≡◌, ◌⊎◌, ◌+◌, ◌*◌, ◌^◌, ℕ, Bool, true, false, cond}
use Rattle.std.specs.Prelude.{List, [], ◌∷◌, ◌++◌, length, map, Err, Result}
use Rattle.std.specs.Prelude.{Option, None, MatchOption}
use Rattle.std.specs.Iterator.{Count, IsFinite, Yields, YieldsThen, size}
use Rattle.std.specs.declared.ops.Range.{Range}
use Rattle.markdown_base.specs.declared.event.Event.{Event}
use Rattle.markdown_base.specs.declared.fault.Fault.{Fault}
use Rattle.markdown_base.specs.declared.fault.Fault.TheVariants.{Memory}
use Rattle.markdown_out.specs.EventRanges.{with_range}
use Rattle.markdown_out.specs.Merge.{Item}
use Rattle.markdown_out.specs.MergeNext.{item_view}
use Rattle.markdown_autolinks.specs.LinkedEvents.{items_with_addresses}

-- an item of the iterator
abbrev pub SourceItem : Type 0
SourceItem = Result (Event × Range ℕ) Fault

-- the same in the form in which links are defined
abbrev pub item_read : SourceItem → Item (Range ℕ)
item_read item = item_view with_range item

-- an adapter between calls: the source of its events, its iterator, the items that have been read and not returned yet,
-- the number of open places in which no addresses are looked for, and whether the iterator has ended, or memory was
-- refused
pub record LinkedState (S : Type 0) : Type 0 where
  pub source : List ℕ
  pub iter : S
  pub kept : List (Item (Range ℕ))
  pub inside : ℕ
  pub over : Bool

-- what follows, where the iterator has not ended
abbrev pub unless_ended : Bool → List (Item (Range ℕ)) → List (Item (Range ℕ))
unless_ended true later = []
unless_ended false later = later

-- the items that an adapter still has to return, where these items of the iterator follow
abbrev pub links_to_come : {S : Type 0} → LinkedState S → (later : List (Item (Range ℕ))) → List (Item (Range ℕ))
links_to_come s later = s.kept ++ items_with_addresses s.source s.inside [] (unless_ended s.over later)

-- the most items that an adapter has left, from the count of those that its iterator has left: an item becomes as many
-- as fit in memory at most
abbrev pub most_to_come : {S : Type 0} → (S → Count) → LinkedState S → ℕ
most_to_come rest s = length s.kept + cond s.over 0 (2 ^ 64 * size (rest s.iter))

-- where the iterator has not ended, it may be called, and ends
pub record MayReadOn {S : Type 0} (can : S → Type 0) (rest : S → Count) (s : LinkedState S) : Type 0 where
  pub callable : s.over ≡ false → can s.iter
  pub ends : s.over ≡ false → IsFinite (rest s.iter)

module _ {S : Type 0} (steps : S → Option SourceItem → S → Type 0) where
  -- calls of the iterator led from s to t and returned these items, and then None if it has ended now and had not
  -- before; once it has ended it is not called
  abbrev pub CallsSource : (over_before over_now : Bool) → S → List SourceItem → S → Type 0
  CallsSource true now s items t = (now ≡ true) × (items ≡ []) × (s ≡ t)
  CallsSource false true s items t = YieldsThen steps s items None t
  CallsSource false false s items t = Yields steps s items t

  -- items of the iterator were read, and an item is returned: whatever follows, what was to come is the item and what
  -- is to come now
  pub record PassesItem (s : LinkedState S) (item : SourceItem) (t : LinkedState S) : Type 0 where
    pub source : t.source ≡ s.source
    pub items : List SourceItem
    pub read : CallsSource s.over t.over s.iter items t.iter
    pub gives : (later : List (Item (Range ℕ))) → links_to_come s (map item_read items ++ unless_ended t.over later)
        ≡ item_read item ∷ links_to_come t later

  -- memory is refused: an error is returned, and nothing is to come
  pub record IsRefused (s : LinkedState S) (item : SourceItem) (t : LinkedState S) : Type 0 where
    pub is : item ≡ Err Memory
    pub goes_on : s.over ≡ false
    pub nothing : t.kept ≡ []
    pub over : t.over ≡ true

  -- nothing is to come of the items that were read
  pub record HasReturnedAll (s t : LinkedState S) : Type 0 where
    pub items : List SourceItem
    pub read : CallsSource s.over true s.iter items t.iter
    pub none : links_to_come s (map item_read items) ≡ []
    pub nothing : t.kept ≡ []
    pub over : t.over ≡ true

  -- a call: it returns the next item, memory is refused, or all has been returned
  abbrev pub GivesLinked : LinkedState S → Option SourceItem → LinkedState S → Type 0
  GivesLinked s r t = MatchOption r (HasReturnedAll s t) (λ item. PassesItem s item t ⊎ IsRefused s item t)

  -- a call of what has this state
  abbrev pub linked_steps : {M : Type 0} → (M → LinkedState S) → M → Option SourceItem → M → Type 0
  linked_steps state m r t = GivesLinked (state m) r (state t)
