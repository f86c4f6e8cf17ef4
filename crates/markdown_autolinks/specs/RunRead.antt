-- What the adapter has read of a run of Texts, and what it keeps of it. Only private clauses cite this.
use Rattle.std.specs.Prelude.{◌≡◌, ℕ, Bool, true, false, is_none, List, [], ◌∷◌, ◌++◌, ◌+◌, length, map, Ok, Err}
use Rattle.std.specs.Prelude.{Option, Some, None, IfSome}
use Rattle.std.specs.Prelude.{option_to_list}
use Rattle.std.specs.List.{AllByRecursion}
use Rattle.std.specs.declared.ops.Range.{Range}
use Rattle.markdown_base.specs.Event.{EventView, event_view, text}
use Rattle.markdown_base.specs.declared.event.Event.{Event}
use Rattle.markdown_out.specs.Merge.{Item}
use Rattle.markdown_out.specs.OutLaws.{RangedEvent}
use Rattle.markdown_autolinks.specs.AutolinksLaws.{events_read}
use Rattle.markdown_autolinks.specs.AutolinksNext.{CallsSource, LinkedState, SourceItem, item_read, links_to_come}
use Rattle.markdown_autolinks.specs.AutolinksNext.{unless_ended}
use Rattle.markdown_autolinks.specs.LinkedEvents.{Texts, items_with_addresses, left_alone_after}
use Rattle.markdown_autolinks.specs.LinkedRuns.{RunTextView}
use Rattle.markdown_autolinks.specs.declared.runs.RunText.{RunText}

-- a Text of a run, without the memory that holds its bytes
abbrev pub run_text_view : RunText → RunTextView
run_text_view t = record { searched = t.searched.now; shown = t.shown.now; range = t.range; exact = t.exact }

-- a Text of which the source's bytes are searched has as many as its range
abbrev pub FitsRange : RunTextView → Type 0
FitsRange t = t.exact ≡ true → t.range.start + length t.searched ≡ t.range.end

abbrev pub FitRanges : List RunTextView → Type 0
FitRanges run = AllByRecursion FitsRange run

-- whether an event is a Text
abbrev pub is_text : EventView → Bool
is_text (text t) = true
is_text event = false

-- whether an item is a Text
abbrev pub is_text_item : SourceItem → Bool
is_text_item (Ok e) = is_text (event_view e.0)
is_text_item (Err fault) = false

-- the number of open places in which no addresses are looked for, after an item; an error changes nothing
abbrev pub left_alone_after_item : ℕ → SourceItem → ℕ
left_alone_after_item inside (Ok e) = left_alone_after inside (event_view e.0)
left_alone_after_item inside (Err fault) = inside

-- the bytes of a Text; none of another event
abbrev pub shown_text : EventView → List ℕ
shown_text (text t) = t
shown_text event = []

-- the Texts among events that are Texts
abbrev pub texts_of : List (Event × Range ℕ) → Texts
texts_of events = map (λ e. (shown_text (event_view e.0), e.1)) events

-- these events are Texts
abbrev pub AreTexts : List (Event × Range ℕ) → Type 0
AreTexts events = AllByRecursion (λ e. is_text (event_view e.0) ≡ true) events

-- the item that was read last, and what follows it; nothing where the iterator has ended
abbrev pub items_after : List ℕ → ℕ → Option SourceItem → List (Item (Range ℕ)) → List (Item (Range ℕ))
items_after source inside None later = []
items_after source inside (Some item) later =
    item_read item ∷ items_with_addresses source (left_alone_after_item inside item) [] later

module _ {S : Type 0} (steps : S → Option SourceItem → S → Type 0) where
  -- Texts were read after these, up to an item that is none, or to the end
  pub record RunIsRead (s : S) (before run : List (Event × Range ℕ)) (after : Option SourceItem) (t : S) : Type 0 where
    pub more : List (Event × Range ℕ)
    pub is : run ≡ before ++ more
    pub texts : AreTexts run
    pub read : CallsSource steps false (is_none after) s (events_read more ++ option_to_list after) t
    pub ends : IfSome after (λ item. is_text_item item ≡ false)

  -- after a Text the rest of its run was read, and this is made of the run
  pub record TextsAreRead (source : List ℕ) (s : S) (first : RangedEvent) (made : List (Item (Range ℕ)))
      (after : Option SourceItem) (t : S) : Type 0 where
    pub items : List SourceItem
    pub read : CallsSource steps false (is_none after) s items t
    pub makes : (later : List (Item (Range ℕ)))
        → items_with_addresses source 0 [] (Ok first ∷ (map item_read items ++ unless_ended (is_none after) later))
        ≡ made ++ items_after source 0 after later

  -- an item was read, or a run of Texts and the item after it, and this is made of the run
  pub record NextIsRead (source : List ℕ) (inside : ℕ) (s : S) (made : List (Item (Range ℕ)))
      (after : Option SourceItem) (t : S) : Type 0 where
    pub items : List SourceItem
    pub read : CallsSource steps false (is_none after) s items t
    pub makes : (later : List (Item (Range ℕ)))
        → items_with_addresses source inside [] (map item_read items ++ unless_ended (is_none after) later)
        ≡ made ++ items_after source inside after later

  -- items were read, and are kept as what becomes of them; if nothing is kept, the iterator has ended
  pub record Fills (s t : LinkedState S) : Type 0 where
    pub source : t.source ≡ s.source
    pub items : List SourceItem
    pub read : CallsSource steps false t.over s.iter items t.iter
    pub keeps : (later : List (Item (Range ℕ)))
        → items_with_addresses s.source s.inside [] (map item_read items ++ unless_ended t.over later)
        ≡ links_to_come t later
    pub ends : t.kept ≡ [] → t.over ≡ true
