-- What the loop over the events keeps, and what follows from it where the loop is left.
use Rattle.std.proofs.Common.{◌≡◌, ◌≤◌, ◌^◌, ◌++◌, List, ℕ, [], ◌∷◌, length, map, reverse, refl, sym, ap, subst, ◌∙◌}
use Rattle.std.proofs.Common.{append_assoc, append-nil, inl, inr, Result, Ok, Err, Option, Some, None}
use Rattle.std.proofs.lemmas.List.{map-append, reverse-append}
use Rattle.std.proofs.iter.Next.{Yields-more}
use Rattle.std.specs.Iterator.{Yields}
use Rattle.std.specs.Option.{IsSomeAnd}
use Rattle.markdown_base.specs.Event.{EventView, event_view}
use Rattle.markdown_base.specs.declared.event.Event.{Event}
use Rattle.markdown_base.specs.declared.fault.Fault.{Fault}
use Rattle.markdown_base.specs.declared.fault.Fault.TheVariants.{Memory, Blocks, Depth}
use Rattle.markdown_out.specs.ByteLists.{AppendsPrefix}
use Rattle.markdown_out.specs.EventHtml.{past_by, event_bytes, bytes_before_by, closing, open_html_by, bytes_after_by}
use Rattle.markdown_out.specs.EventHtml.{closing_after}
use Rattle.markdown_out.specs.HtmlCorrect.{items, IsRenderedBy, StopsAtErrorBy, IsOwnFaultBy}
use Rattle.markdown_out.specs.LookBacks.{Past, image_before, IsTooDeep}
use Rattle.markdown_out.specs.Writer.{view_after, MayRefuse, IsFull}
use Rattle.markdown_out.specs.declared.html.rules.HtmlRules.{HtmlRules}
use Rattle.markdown_out.proofs.ByteListsLemmas.{prefix-empty}
use Rattle.markdown_out.proofs.WriterLemmas.{capped, highest, event_bytes-capped, view_after-capped, full_deep}
use Rattle.markdown_out.proofs.WriterLemmas.{full_silent}

-- these events were read and their bytes appended, and the writer remembers what they tell
pub record Wrote (rules : HtmlRules) (told : Past) (old new : List ℕ) (yielded : List (Result Event Fault)) : Type 0
  where
    pub events : List Event
    pub read : yielded ≡ items events
    pub tells : told ≡ capped (past_by rules (reverse (map event_view events)))
    pub stands : new ≡ old ++ bytes_before_by rules (reverse (map event_view events))

-- the last event is the first of those before
past-more : (es : List Event) (e : Event)
    → reverse (map event_view (es ++ e ∷ [])) ≡ event_view e ∷ reverse (map event_view es)
past-more es e = ap reverse (map-append event_view es (e ∷ []))
    ∙ reverse-append (map event_view es) (event_view e ∷ [])

items-more : (es : List Event) (e : Event) (yielded : List (Result Event Fault))
    (item : Result Event Fault)
    → yielded ≡ items es → item ≡ Ok e → yielded ++ item ∷ [] ≡ items (es ++ e ∷ [])
items-more es e yielded item y i =
    ap (λ ys. ys ++ item ∷ []) y ∙ (ap (λ x. items es ++ x ∷ []) i
    ∙ sym (map-append (λ (e : Event). Ok e) es (e ∷ [])))

module _ {rules : HtmlRules} where
  -- no event was read yet
  pub Wrote-none : (told : Past) (old : List ℕ) (yielded : List (Result Event Fault))
      → told ≡ past_by rules [] → yielded ≡ [] → Wrote rules told old old yielded
  Wrote-none told old yielded t y = record {
    events = [];
    read = y;
    tells = t;
    stands = sym
        (append-nil old);
  }

  -- the bytes that the writer gives an event are those that the events before it tell
  told_bytes : {told : Past} {old new : List ℕ} {yielded : List (Result Event Fault)} (e : EventView)
      (w : Wrote rules told old new yielded)
      → length told.alignments ≤ highest
      → event_bytes told e ≡ event_bytes (past_by rules (reverse (map event_view w.events))) e
  told_bytes {told} e w h =
      let past = past_by rules (reverse (map event_view w.events)) in
      ap (λ t. event_bytes t e) w.tells
      ∙ event_bytes-capped past e (subst (λ t. length t.alignments ≤ highest) w.tells h)

  -- one more event was written
  pub Wrote-more : {told told' : Past} {old new new' : List ℕ} {yielded : List (Result Event Fault)}
      {item : Result Event Fault} (e : Event)
      → length told.alignments ≤ highest → Wrote rules told old new yielded → item ≡ Ok e
      → new' ≡ new ++ event_bytes told (event_view e) → told' ≡ view_after told (event_view e)
      → Wrote rules told' old new' (yielded ++ item ∷ [])
  Wrote-more {told} {told'} {old} {new} {new'} {yielded} {item} e h w i n t =
      let before = reverse (map event_view w.events) in
      record {
        events = w.events ++ e ∷ [];
        read = items-more w.events e yielded item w.read i;
        tells = t ∙ (ap (λ p. view_after p (event_view e)) w.tells
            ∙ (view_after-capped {rules = rules} before (event_view e) (subst (λ p. length p.alignments ≤ highest)
            w.tells h)
            ∙ ap (λ b. capped (past_by rules b)) (sym (past-more w.events e))));
        stands = n ∙ (ap (λ x. x ++ event_bytes told (event_view e)) w.stands
            ∙ (ap (λ x. (old ++ bytes_before_by rules before) ++ x) (told_bytes (event_view e) w h)
            ∙ (append_assoc old (bytes_before_by rules before) (event_bytes (past_by rules before) (event_view e))
            ∙ ap (λ b. old ++ bytes_before_by rules b) (sym (past-more w.events e)))));
      }

  -- a prefix of one more event
  prefix-event : {told : Past} {old new out : List ℕ} {yielded : List (Result Event Fault)} (e : Event)
      (w : Wrote rules told old new yielded)
      → length told.alignments ≤ highest → AppendsPrefix new out (event_bytes told (event_view e))
      → AppendsPrefix (old ++ open_html_by rules (map event_view w.events)) out
      (bytes_after_by rules (map event_view w.events) (event_view e))
  prefix-event {told} {old} {new} {out} e w h f =
      let bytes = bytes_after_by rules (map event_view w.events) (event_view e) in
      subst (λ n. AppendsPrefix n out bytes) w.stands
      (subst (AppendsPrefix new out) (told_bytes (event_view e) w h) f)

  -- a prefix of what closes an image
  prefix-closing : {told : Past} {old new out : List ℕ} {yielded : List (Result Event Fault)}
      (w : Wrote rules told old new yielded)
      → AppendsPrefix new out (closing told.open_image)
      → AppendsPrefix (old ++ open_html_by rules (map event_view w.events)) out
      (closing_after (map event_view w.events))
  prefix-closing {told} {old} {new} {out} w f =
      let bytes = closing_after (map event_view w.events) in
      subst (λ n. AppendsPrefix n out bytes) w.stands
      (subst (λ p. AppendsPrefix new out (closing p.open_image)) w.tells f)

  module _ {S : Type 0} (steps : S → Option (Result Event Fault) → S → Type 0) where
    pub StopsAtError-from : (it t u : S) {told : Past} {old new : List ℕ} {yielded : List
        (Result Event Fault)} {item : Result Event Fault} (fault : Fault)
        → Yields steps it yielded t → steps t (Some item) u → item ≡ Err fault
        → Wrote rules told old new yielded → StopsAtErrorBy rules steps it old new fault
    StopsAtError-from it t u {told} {old} {new} {yielded} {item} fault y p i w =
        record {
          events = w.events;
          left = u;
          stands = w.stands;
          read = subst (λ ys. Yields steps it ys u) (ap (λ ys. ys ++ item ∷ []) w.read
              ∙ ap (λ x. items w.events ++ x ∷ []) i) (Yields-more steps it yielded t item u y p);
        }

    -- the writer refused an event
    pub IsOwnFault-event : (it t u : S) {told : Past} {old new out : List ℕ} {yielded : List
        (Result Event Fault)} {item : Result Event Fault} (fault : Fault) (e : Event)
        → length told.alignments ≤ highest → Yields steps it yielded t → steps t (Some item) u
        → item ≡ Ok e → Wrote rules told old new yielded → MayRefuse told (event_view e) fault
        → AppendsPrefix new out (event_bytes told (event_view e)) → IsOwnFaultBy rules steps it old out fault
    unfolding Wrote-more
    IsOwnFault-event it t u {told} {old} {new} {out} {yielded} {item} fault e h y p i w m f = by_fault
        fault m
      where
        read : Yields steps it (items (w.events ++ e ∷ [])) u
        read = subst (λ ys. Yields steps it ys u) (items-more w.events e yielded item w.read i)
            (Yields-more steps it yielded t item u y p)

        deep : IsFull told.open_image (event_view e) → IsTooDeep (map event_view (w.events ++ e ∷ []))
        deep full =
            let before = reverse (map event_view w.events) in
            let full' = subst (λ p. IsFull p.open_image (event_view e)) w.tells full in
            subst (λ b. IsSomeAnd (image_before b) (λ i. 2 ^ 64 ≤ i.starts))
            (sym (past-more w.events e)) (full_deep (image_before before) (event_view e) full')

        silent : IsFull told.open_image (event_view e) → out ≡ new ++ event_bytes told (event_view e)
        silent full =
            let none = full_silent told.open_image told (event_view e) full in
            prefix-empty new out (subst (AppendsPrefix new out) none f)
            ∙ (sym (append-nil new) ∙ ap (λ bytes. new ++ bytes) (sym none))

        by_fault : (fault : Fault) → MayRefuse told (event_view e) fault
            → IsOwnFaultBy rules steps it old out fault
        by_fault Memory m = inl (record {
          events = w.events;
          last = e;
          left = u;
          read = read;
          stands = prefix-event e w h f;
        })
        by_fault Depth m = record {
          events = w.events
              ++ e ∷ [];
          left = u;
          read = read;
          stands = (Wrote-more e h w i (silent m) refl).stands;
          deep = deep m;
        }
        by_fault Blocks m = absurd m

    -- memory ran out at the end
    pub IsOwnFault-end : (it t u : S) {told : Past} {old new out : List ℕ} {yielded : List
        (Result Event Fault)} (fault : Fault)
        → Yields steps it yielded t → steps t None u → Wrote rules told old new yielded → fault ≡ Memory
        → AppendsPrefix new out (closing told.open_image) → IsOwnFaultBy rules steps it old out fault
    IsOwnFault-end it t u {told} {old} {new} {out} {yielded} fault y p w m f =
        subst (IsOwnFaultBy rules steps it old out) (sym m)
        (inr (record {
          events = w.events;
          read = (u, (t, subst (λ ys. Yields steps it ys t) w.read y, p));
          stands = prefix-closing w f;
        }))

    -- all events were written
    pub IsRendered-from : (it t u : S) {told : Past} {old new out : List ℕ} {yielded : List
        (Result Event Fault)}
        → Yields steps it yielded t → steps t None u → Wrote rules told old new yielded
        → out ≡ new ++ closing told.open_image → IsRenderedBy rules steps it old out
    IsRendered-from it t u {told} {old} {new} {out} {yielded} y p w e =
        let before = reverse (map event_view w.events) in
        record {
          events = w.events;
          read = (u, (t, subst (λ ys. Yields steps it ys t) w.read y, p));
          stands = e ∙ (ap (λ x. x ++ closing told.open_image) w.stands
              ∙ (ap (λ (p : Past). (old ++ bytes_before_by rules before) ++ closing p.open_image) w.tells
              ∙ append_assoc old (bytes_before_by rules before) (closing (image_before before))));
        }
