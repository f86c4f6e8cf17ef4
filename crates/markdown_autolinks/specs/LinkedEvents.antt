-- Events with the bare addresses in their Texts as links.
use Rattle.std.specs.Prelude.{ℕ, zero, ◌+◌, ◌-◌, List, [], ◌∷◌, ◌++◌, map, Ok, Err, if◌then◌else◌}
use Rattle.std.specs.declared.ops.Range.{Range}
use Rattle.markdown_base.specs.Event.{EventView, start, end, text, tag_end}
use Rattle.markdown_out.specs.Merge.{Item}
use Rattle.markdown_out.specs.OutLaws.{RangedEvent}
use Rattle.markdown_autolinks.specs.LinkedRuns.{is_left_alone, run_events, run_text}

-- the number of open places in which no addresses are looked for, after an event
abbrev pub left_alone_after : ℕ → EventView → ℕ
left_alone_after inside (start tag) = if is_left_alone (tag_end tag) then inside + 1 else inside
left_alone_after inside (end tag) = if is_left_alone tag then inside - 1 else inside
left_alone_after inside event = inside

-- the bytes of Texts that stand together, with their ranges
abbrev pub Texts : Type 0
Texts = List (List ℕ × Range ℕ)

module _ (source : List ℕ) where
  -- the events of Texts that stand together
  abbrev pub texts_events : Texts → List RangedEvent
  texts_events texts = run_events (map (run_text source) texts)

  -- the events of Texts that stand together, and what follows them, in so many places in which no addresses are looked
  -- for
  abbrev pub with_addresses_after : (inside : ℕ) → Texts → List RangedEvent → List RangedEvent
  with_addresses_after inside texts [] = texts_events texts
  with_addresses_after zero texts ((text t, range) ∷ events) =
      with_addresses_after zero (texts ++ (t, range) ∷ []) events
  with_addresses_after inside texts (e ∷ events) =
      texts_events texts ++ e ∷ with_addresses_after (left_alone_after inside e.0) [] events

  -- events of a source, with the bare addresses in their Texts as links, and Texts that stand together as one; in a
  -- link, an image, a code block, an HTML block and metadata all stays
  abbrev pub with_addresses : List RangedEvent → List RangedEvent
  with_addresses events = with_addresses_after 0 [] events

  -- the same of items, which are events with their ranges, and errors: an error ends Texts that stand together too
  abbrev pub items_with_addresses : (inside : ℕ) → Texts → List (Item (Range ℕ)) → List (Item (Range ℕ))
  items_with_addresses inside texts [] = map (λ e. Ok e) (texts_events texts)
  items_with_addresses inside texts (Err fault ∷ items) =
      map (λ e. Ok e) (texts_events texts) ++ Err fault ∷ items_with_addresses inside [] items
  items_with_addresses zero texts (Ok (text t, range) ∷ items) =
      items_with_addresses zero (texts ++ (t, range) ∷ []) items
  items_with_addresses inside texts (Ok e ∷ items) =
      map (λ e. Ok e) (texts_events texts) ++ Ok e ∷ items_with_addresses (left_alone_after inside e.0) [] items
