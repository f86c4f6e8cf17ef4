-- What `push_html_by` has read of an iterator and what the string then holds, by rules: at the end, at an error among
-- the items, and at an error of its own. The words without `By` are those of `push_html`, by upstream's rules.
use Rattle.std.specs.Prelude.{◌≡◌, ◌⊎◌, ℕ, List, [], ◌∷◌, ◌++◌, map, Ok, Err, Result, Option}
use Rattle.std.specs.Iterator.{Yields, Drains}
use Rattle.markdown_base.specs.Event.{event_view}
use Rattle.markdown_base.specs.declared.event.Event.{Event}
use Rattle.markdown_base.specs.declared.fault.Fault.{Fault}
use Rattle.markdown_base.specs.declared.fault.Fault.TheVariants.{Memory, Blocks, Depth}
use Rattle.markdown_out.specs.ByteLists.{AppendsPrefix}
use Rattle.markdown_out.specs.EventHtml.{html_by, open_html_by, bytes_after_by, closing_after}
use Rattle.markdown_out.specs.HtmlRules.{upstream_rules}
use Rattle.markdown_out.specs.LookBacks.{IsTooDeep}
use Rattle.markdown_out.specs.declared.html.rules.HtmlRules.{HtmlRules}

-- events, with their ranges or without, as items of an iterator
abbrev pub items : {T : Type 0} → List T → List (Result T Fault)
items events = map (λ e. Ok e) events

module _ (rules : HtmlRules) {S : Type 0} (steps : S → Option (Result Event Fault) → S → Type 0)
    (it : S) (old new : List ℕ) where
  -- these are all events up to the first None, and the old text is followed by their HTML
  pub record IsRenderedBy : Type 0 where
    pub events : List Event
    pub read : Drains steps it (items events)
    pub stands : new ≡ old ++ html_by rules (map event_view events)

  -- the item after these events is this error, and the old text is followed by their open HTML
  pub record StopsAtErrorBy (fault : Fault) : Type 0 where
    pub events : List Event
    pub left : S
    pub read : Yields steps it (items events ++ Err fault ∷ []) left
    pub stands : new ≡ old ++ open_html_by rules (map event_view events)

  -- an allocation was refused at the last event read: the old text is followed by the open HTML of the
  -- events before it, and then by a prefix of its own bytes
  pub record IsCutShortBy : Type 0 where
    pub events : List Event
    pub last : Event
    pub left : S
    pub read : Yields steps it (items (events ++ last ∷ [])) left
    pub stands : AppendsPrefix (old ++ open_html_by rules (map event_view events)) new
        (bytes_after_by rules (map event_view events) (event_view last))

  -- an allocation was refused after the last event, where an image was to be closed: the old text is
  -- followed by the open HTML of all events, and then by a prefix of what closes the image
  pub record IsCutAtEndBy : Type 0 where
    pub events : List Event
    pub read : Drains steps it (items events)
    pub stands : AppendsPrefix (old ++ open_html_by rules (map event_view events)) new
        (closing_after (map event_view events))

  -- more Starts are open in an image than can be counted; the old text is followed by the open HTML of the events read
  pub record GoesTooDeepBy : Type 0 where
    pub events : List Event
    pub left : S
    pub read : Yields steps it (items events) left
    pub stands : new ≡ old ++ open_html_by rules (map event_view events)
    pub deep : IsTooDeep (map event_view events)

  -- an error of the function's own
  abbrev pub IsOwnFaultBy : Fault → Type 0
  IsOwnFaultBy Memory = IsCutShortBy ⊎ IsCutAtEndBy
  IsOwnFaultBy Depth = GoesTooDeepBy
  IsOwnFaultBy Blocks = ⊥

module _ {S : Type 0} (steps : S → Option (Result Event Fault) → S → Type 0)
    (it : S) (old new : List ℕ) where
  -- the same by upstream's rules: these are all events up to the first None, and the old text is followed by their HTML
  abbrev pub IsRendered : Type 0
  IsRendered = IsRenderedBy upstream_rules steps it old new

  -- the item after these events is this error, and the old text is followed by their open HTML
  abbrev pub StopsAtError : Fault → Type 0
  StopsAtError fault = StopsAtErrorBy upstream_rules steps it old new fault

  -- an allocation was refused at the last event read
  abbrev pub IsCutShort : Type 0
  IsCutShort = IsCutShortBy upstream_rules steps it old new

  -- an allocation was refused after the last event, where an image was to be closed
  abbrev pub IsCutAtEnd : Type 0
  IsCutAtEnd = IsCutAtEndBy upstream_rules steps it old new

  -- more Starts are open in an image than can be counted
  abbrev pub GoesTooDeep : Type 0
  GoesTooDeep = GoesTooDeepBy upstream_rules steps it old new

  -- an error of the function's own
  abbrev pub IsOwnFault : Fault → Type 0
  IsOwnFault fault = IsOwnFaultBy upstream_rules steps it old new fault
