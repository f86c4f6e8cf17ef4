-- What a parser gives, and the adapters over what gives some events.
use Rattle.std.proofs.Common.{◌≡◌, ⊎_elim, ℕ, Bool, true, false, List, [], ◌∷◌, ◌++◌, map, Ok, Err, Option, Some, None}
use Rattle.std.proofs.Common.{Result, ap, refl, subst, sym, ◌∙◌, is_some}
use Rattle.std.specs.Iterator.{Drains, Yields}
use Rattle.std.specs.declared.ops.Range.{Range}
use Rattle.either.specs.Iterator.{either_steps}
use Rattle.either.specs.declared.Either.{Either}
use Rattle.either.specs.declared.Either.TheVariants.{Left, Right}
use Rattle.markdown_additions.specs.Additions.{AdditionsView, AreFirstAdded, AreFirstOfText, AreFirstTextEvents}
use Rattle.markdown_additions.specs.Additions.{AreFirstWithLinks, AreFirstWithPrefix, AreFirstWithTheirIds}
use Rattle.markdown_additions.specs.Additions.{IdsView, added_events, adds_ids, adds_no_ids, adds_prefixed_ids}
use Rattle.markdown_additions.specs.Additions.{text_events}
use Rattle.markdown_additions.specs.GivenEvents.{GivesEvents}
use Rattle.markdown_additions.specs.TextEvents.{IsNewAdded, IsNewParser, IsNewText, IsNewWithAddedIds, IsNewWithIds}
use Rattle.markdown_additions.specs.TextEvents.{IsNewWithLinks, NestedEvents, ParsedEvents, calls_with_ids}
use Rattle.markdown_additions.specs.TextEvents.{nested_calls, nested_events, nobody_answers, parsed_calls, parser_calls}
use Rattle.markdown_additions.specs.TextEvents.{text_steps}
use Rattle.markdown_additions.specs.declared.events.TextEvents.{TextEvents}
use Rattle.markdown_autolinks.specs.AutolinksLaws.{ReturnsLinked}
use Rattle.markdown_autolinks.specs.AutolinksNext.{LinkedState, linked_steps}
use Rattle.markdown_autolinks.specs.AutolinksState.{linked_state}
use Rattle.markdown_autolinks.specs.LinkedEvents.{with_addresses}
use Rattle.markdown_autolinks.specs.declared.adapter.Autolinks.{Autolinks}
use Rattle.markdown_autolinks.proofs.LinkedRunLemmas.{returns_linked}
use Rattle.markdown_base.specs.Questions.{Question, Answer, Answers}
use Rattle.markdown_base.specs.Source.{Source}
use Rattle.markdown_base.specs.declared.event.Event.{Event}
use Rattle.markdown_base.specs.declared.fault.Fault.{Fault}
use Rattle.markdown_base.specs.declared.fault.Fault.TheVariants.{Memory}
use Rattle.markdown_blocks.specs.Blocks.{IsBlocksOf}
use Rattle.markdown_blocks.specs.declared.blocks.Blocks.{Blocks}
use Rattle.markdown_defs.specs.Callback.{Asks}
use Rattle.markdown_heading_ids.specs.HeadingIds.{Id, with_ids}
use Rattle.markdown_heading_ids.specs.HeadingIdsLaws.{AreFirstOf, ReturnsWithIds}
use Rattle.markdown_heading_ids.specs.HeadingIdsNext.{IdsState, ids_steps}
use Rattle.markdown_heading_ids.specs.HeadingIdsState.{ids_state}
use Rattle.markdown_heading_ids.specs.IdsOfText.{taken_in_text}
use Rattle.markdown_heading_ids.specs.TakenIds.{StandsFor}
use Rattle.markdown_heading_ids.specs.declared.adapter.HeadingIds.{HeadingIds}
use Rattle.markdown_heading_ids.specs.declared.taken.Taken.{Taken}
use Rattle.markdown_heading_ids.proofs.HeadingIdsRunLemmas.{returns_with_ids}
use Rattle.markdown_heading_ids.proofs.PrefixedLemmas.{all_prefixed, first_prefixed}
use Rattle.markdown_inline.specs.ReadingOfText.{events_of_text}
use Rattle.markdown_heading_ids.specs.PrefixedItems.{AreAllPrefixed, AreFirstPrefixed, IsPrefixedItem}
use Rattle.markdown_heading_ids.specs.PrefixedItems.{prefix_of, prefixed_steps, unprefixed_source}
use Rattle.markdown_heading_ids.specs.Prefixes.{prefixed_events}
use Rattle.markdown_heading_ids.specs.declared.prefixed.Prefixed.{Prefixed}
use Rattle.markdown_inline.specs.Balanced.{ranged}
use Rattle.markdown_inline.specs.Elements.{Element, event, events_of}
use Rattle.markdown_inline.specs.NextGives.{NextGives, IsPlacedOf}
use Rattle.markdown_inline.specs.ParserLeft.{ReadsBlocks, elements, offset_parser, parser_callback, reading_of}
use Rattle.markdown_inline.specs.declared.walk.OffsetIter.{OffsetIter}
use Rattle.markdown_inline.proofs.ReadingOfTextLemmas.{text-law}
use Rattle.markdown_inline.proofs.RunLemmas.{events_of-questions}
use Rattle.markdown_outline.specs.Outline.{Ranged}
use Rattle.markdown_outline.specs.OutlineRead.{event_items, ranged_view}

-- an event with its range, and an item that holds one or an error
abbrev Placed : Type 0
Placed = Event × Range ℕ

abbrev Item : Type 0
Item = Result Placed Fault

-- with no callback nothing is asked, and there is none afterwards
unasked : {F : Type 0} (step : F → Question → Option Answer → F → Type 0) (after : Option F) (questions : List Question)
    (answers : Answers) → Asks step None questions answers after → (answers ≡ []) × (after ≡ None)
unasked step after [] [] asked = (refl, sym asked)
unasked step after [] (a ∷ answers) asked = absurd asked
unasked step after (q ∷ questions) [] asked = absurd asked
unasked step after (q ∷ questions) (a ∷ answers) asked = absurd asked

module _ {F : Type 0} (step : F → Question → Option Answer → F → Type 0) where
  -- calls of `next` of a parser
  abbrev Steps : OffsetIter F → Option Item → OffsetIter F → Type 0
  Steps o item t = NextGives step IsPlacedOf (offset_parser o) item (offset_parser t)

  -- an error item is one of memory
  memory_alone : (o left : OffsetIter F) (given : List Placed) (fault : Fault)
      → Yields Steps o (event_items given ++ Err fault ∷ []) left → fault ≡ Memory
  memory_alone o left [] fault (j, h, y) = h.gives.memory
  memory_alone o left (e ∷ given) fault (j, h, y) = memory_alone j left given fault y

  -- without a callback, the events returned are those of what was left
  drained : (o : OffsetIter F) (given : List Placed) → Drains Steps o (event_items given)
      → parser_callback (offset_parser o) ≡ None
      → map ranged_view given ≡ ranged (events_of (elements (offset_parser o) []))
  drained o [] (u, (t, y, z)) none = rw (y, z.gives.none_left []) refl
  drained o (e ∷ given) (u, (t, (j, h, y), z)) none =
      let g = h.gives in
      let asked = rw none at g.asked in
      let nobody = unasked step (parser_callback (offset_parser j)) g.questions g.answers asked in
      let left = rw nobody.0 at (g.left []) in
      let rest = drained j given (u, (t, y, z)) nobody.1 in
      rw (
        left,
        events_of-questions g.questions (event g.placed ∷ elements (offset_parser j) []),
        g.is_item.is_event.view,
        g.is_item.range,
        rest,
      ) refl

  -- and at any time they are the first of these
  begun : (o t : OffsetIter F) (given : List Placed) → Yields Steps o (event_items given) t
      → parser_callback (offset_parser o) ≡ None
      → AreFirstOf (map ranged_view given) (ranged (events_of (elements (offset_parser o) [])))
  begun o t [] y none = record { missing = ranged (events_of (elements (offset_parser o) [])); is = refl }
  begun o t (e ∷ given) (j, h, y) none =
      let g = h.gives in
      let asked = rw none at g.asked in
      let nobody = unasked step (parser_callback (offset_parser j)) g.questions g.answers asked in
      let left = rw nobody.0 at (g.left []) in
      let rest = begun j t given y nobody.1 in
      record {
        missing = rest.missing;
        is = rw (
          left,
          events_of-questions g.questions (event g.placed ∷ elements (offset_parser j) []),
          g.is_item.is_event.view,
          g.is_item.range,
          rest.is,
        ) refl;
      }

  -- so a new parser of a block result of a text, without a callback, gives the events of the text
  gives_text : (s : Source) (blocks : Blocks) (o : OffsetIter F) → IsBlocksOf s blocks
      → ReadsBlocks blocks (offset_parser o) → parser_callback (offset_parser o) ≡ None
      → GivesEvents Steps o (ranged (events_of_text s)) (AreFirstOfText s)
  gives_text s blocks o of reads none =
      let left : ranged (events_of (elements (offset_parser o) [])) ≡ ranged (events_of_text s) =
      ap (λ (es : List Element). ranged (events_of es))
      (reads [] ∙ ap (λ (c : Option F). reading_of blocks (is_some c) []) none ∙ text-law s blocks of false []) in
      record {
        whole = λ given d. drained o given d none ∙ left;
        first = λ given t y. rw left at (begun o t given y none);
        memory = λ given t fault y. memory_alone o t given fault y;
      }

-- a new adapter of links gives the events with their bare addresses as links
module _ {S M : Type 0} (steps : S → Option Item → S → Type 0) (state : M → LinkedState S) where
  gives_links : (source : List ℕ) (m : M) (events : List Ranged) (begins : List Ranged → Type 0)
      → ReturnsLinked steps state source m → GivesEvents steps (state m).iter events begins
      → GivesEvents (linked_steps steps state) m (with_addresses source events) (AreFirstWithLinks source begins)
  gives_links source m events begins returns gives = record {
    whole = λ given d. let a = returns.all given d in
        a.are ∙ ap (with_addresses source) (gives.whole a.events a.read);
    first = λ given t y. let f = returns.first given t y in
        record {
          events = map ranged_view f.events;
          begin = gives.first f.events f.left f.read;
          first = record { missing = f.first.missing; is = f.first.is };
        };
    memory = λ given t fault y. ⊎_elim (λ e. gives.memory e.events e.left fault e.read) (λ is. is)
        (returns.error given t fault y);
  }

-- a new adapter of ids gives the events with the ids of their headings
module _ {S M : Type 0} (steps : S → Option Item → S → Type 0) (state : M → IdsState S) where
  gives_ids : (taken : List Id) (m : M) (events : List Ranged) (begins : List Ranged → Type 0)
      → ReturnsWithIds steps state taken m → GivesEvents steps (state m).iter events begins
      → GivesEvents (ids_steps steps state) m (with_ids taken events) (AreFirstWithTheirIds taken begins)
  gives_ids taken m events begins returns gives = record {
    whole = λ given d. let a = returns.all given d in a.are ∙ ap (with_ids taken) (gives.whole a.events a.read);
    first = λ given t y. let f = returns.first given t y in
        record {
          events = map ranged_view f.events;
          begin = gives.first f.events f.left f.read;
          first = f.first;
        };
    memory = λ given t fault y. ⊎_elim (λ e. gives.memory e.events e.left fault e.read) (λ is. is)
        (returns.error given t fault y);
  }

-- an adapter of a prefix gives the events with the prefix of their ids
module _ {I : Type 0} (steps : I → Option Item → I → Type 0) where
  -- an error is one of memory, where each of the iterator is
  memory_prefixed : (p left : Prefixed I) (given : List Placed) (fault : Fault)
      → ((read : List Placed) (l : I) (f : Fault)
      → Yields steps (unprefixed_source p) (event_items read ++ Err f ∷ []) l → f ≡ Memory)
      → Yields (prefixed_steps steps) p (event_items given ++ Err fault ∷ []) left → fault ≡ Memory
  memory_prefixed p left [] fault memory (j, h, y) = by_item h.0.0 h.0.1 h.0.2
    where
      by_item : (item : Item) → steps (unprefixed_source p) (Some item) (unprefixed_source j)
          → IsPrefixedItem (prefix_of p) item (Err fault) → fault ≡ Memory
      by_item (Ok e) read made = made
      by_item (Err other) read made =
          let same : fault ≡ other = cc made in
          same ∙ memory [] (unprefixed_source j) other (unprefixed_source j, read, refl)
  memory_prefixed p left (e ∷ given) fault memory (j, h, y) =
      by_item h.0.0 h.0.1 h.0.2 (λ later. memory_prefixed j left given fault later y)
    where
      by_item : (item : Item) → steps (unprefixed_source p) (Some item) (unprefixed_source j)
          → IsPrefixedItem (prefix_of p) item (Ok e)
          → (((read : List Placed) (l : I) (f : Fault)
          → Yields steps (unprefixed_source j) (event_items read ++ Err f ∷ []) l → f ≡ Memory) → fault ≡ Memory)
          → fault ≡ Memory
      by_item (Ok got) read made rest =
          rest (λ events l f z. memory (got ∷ events) l f (unprefixed_source j, read, z))
      by_item (Err other) read made rest = cc made

  gives_prefixed : (prefix : List ℕ) (p : Prefixed I) (events : List Ranged) (begins : List Ranged → Type 0)
      → prefix_of p ≡ prefix → GivesEvents steps (unprefixed_source p) events begins
      → ((given : List Placed) → Drains (prefixed_steps steps) p (event_items given) → AreAllPrefixed steps p given)
      → ((given : List Placed) (t : Prefixed I) → Yields (prefixed_steps steps) p (event_items given) t
      → AreFirstPrefixed steps p t given)
      → GivesEvents (prefixed_steps steps) p (prefixed_events prefix events) (AreFirstWithPrefix prefix begins)
  gives_prefixed prefix p events begins is gives all first = record {
    whole = λ given d. let a = all given d in
        a.2 ∙ ap (λ (x : List ℕ). prefixed_events x (map ranged_view a.0)) is
        ∙ ap (prefixed_events prefix) (gives.whole a.0 a.1);
    first = λ given t y. let f = first given t y in
        record {
          events = map ranged_view f.0;
          begin = gives.first f.0 (unprefixed_source t) f.1;
          is = f.2 ∙ ap (λ (x : List ℕ). prefixed_events x (map ranged_view f.0)) is;
        };
    memory = λ given t fault y. memory_prefixed p t given fault gives.memory y;
  }

-- an iterator in another one, each call of which is one of it
module _ {S E : Type 0} (inner : S → Option Item → S → Type 0) (outer : E → Option Item → E → Type 0) (into : S → E)
    (one : (s : S) (r : Option Item) (t : E) → outer (into s) r t → (u : S) × inner s r u × (t ≡ into u)) where
  -- runs are runs of it
  yields_inside : (s : S) (read : List Item) (t : E) → Yields outer (into s) read t
      → (u : S) × Yields inner s read u × (t ≡ into u)
  yields_inside s [] t y = (s, refl, sym y)
  yields_inside s (item ∷ read) t (j, step, y) =
      let call = one s (Some item) j step in
      let rest = yields_inside call.0 read t (rw call.2 at y) in
      (rest.0, (call.0, call.1, rest.1), rest.2)

  drains_inside : (s : S) (read : List Item) → Drains outer (into s) read → Drains inner s read
  drains_inside s read (end, (t, y, z)) =
      let run = yields_inside s read t y in
      let call = one run.0 None end (rw run.2 at z) in
      (call.0, (run.0, run.1, call.1))

  -- so it gives the same events
  gives_inside : {events : List Ranged} {begins : List Ranged → Type 0} (s : S) → GivesEvents inner s events begins
      → GivesEvents outer (into s) events begins
  gives_inside s gives = record {
    whole = λ given d. gives.whole given (drains_inside s (event_items given) d);
    first = λ given t y. let run = yields_inside s (event_items given) t y in gives.first given run.0 run.1;
    memory = λ given t fault y.
        let run = yields_inside s (event_items given ++ Err fault ∷ []) t y in
        gives.memory given run.0 fault run.1;
  }

-- one of two iterators gives what it gives
module _ {A B : Type 0} (lefts : A → Option Item → A → Type 0) (rights : B → Option Item → B → Type 0) where
  abbrev EitherSteps : Either A B → Option Item → Either A B → Type 0
  EitherSteps = either_steps lefts rights

  one_left : (s : A) (r : Option Item) (t : Either A B) → EitherSteps (Left s) r t
      → (u : A) × lefts s r u × (t ≡ Left u)
  one_left s r (Left t) step = (t, step, refl)
  one_left s r (Right t) step = absurd step

  one_right : (s : B) (r : Option Item) (t : Either A B) → EitherSteps (Right s) r t
      → (u : B) × rights s r u × (t ≡ Right u)
  one_right s r (Left t) step = absurd step
  one_right s r (Right t) step = (t, step, refl)

  module _ {events : List Ranged} {begins : List Ranged → Type 0} where
    gives_left : (s : A) → GivesEvents lefts s events begins → GivesEvents EitherSteps (Left s) events begins
    gives_left s gives = gives_inside lefts EitherSteps (λ x. Left x) one_left s gives

    gives_right : (s : B) → GivesEvents rights s events begins → GivesEvents EitherSteps (Right s) events begins
    gives_right s gives = gives_inside rights EitherSteps (λ x. Right x) one_right s gives

-- ---- new events of a text

module _ {F : Type 0} (step : F → Question → Option Answer → F → Type 0) where
  gives_new_parser : (s : Source) (o : OffsetIter F) → IsNewParser s o
      → GivesEvents (parser_calls step) o (text_events false s) (AreFirstOfText s)
  gives_new_parser s o new = gives_text step s new.blocks o new.of_text new.reads new.alone

  abbrev LinksSteps : Autolinks (OffsetIter F) → Option Item → Autolinks (OffsetIter F) → Type 0
  LinksSteps = linked_steps (parser_calls step) linked_state

  gives_new_links : (s : Source) (l : Autolinks (OffsetIter F)) → IsNewWithLinks s l
      → GivesEvents LinksSteps l (text_events true s) (AreFirstTextEvents true s)
  gives_new_links s l new =
      gives_links (parser_calls step) linked_state s.text l (text_events false s) (AreFirstOfText s)
      (returns_linked (parser_calls step) linked_state l s.text new.links)
      (gives_new_parser s (linked_state l).iter new.parser)

  gives_new_text : (autolinks : Bool) (s : Source) (events : ParsedEvents F) → IsNewText autolinks s events
      → GivesEvents (parsed_calls step) events (text_events autolinks s) (AreFirstTextEvents autolinks s)
  gives_new_text false s (Left o) new = gives_left (parser_calls step) LinksSteps o (gives_new_parser s o new)
  gives_new_text true s (Right l) new = gives_right (parser_calls step) LinksSteps l (gives_new_links s l new)
  gives_new_text autolinks s events new = absurd new

  gives_new_ids : (a : Bool) (s : Source) (h : HeadingIds (ParsedEvents F)) → IsNewWithIds a s h
      → GivesEvents (calls_with_ids step) h (with_ids (taken_in_text s) (text_events a s))
      (AreFirstWithTheirIds (taken_in_text s) (AreFirstTextEvents a s))
  gives_new_ids a s h new =
      gives_ids (parsed_calls step) ids_state (taken_in_text s) h (text_events a s) (AreFirstTextEvents a s)
      (returns_with_ids (parsed_calls step) ids_state h (taken_in_text s) new.ids)
      (gives_new_text a s (ids_state h).iter new.text)

  abbrev PrefixSteps : Prefixed (HeadingIds (ParsedEvents F)) → Option Item → Prefixed (HeadingIds (ParsedEvents F))
      → Type 0
  PrefixSteps = prefixed_steps (calls_with_ids step)

  gives_new_prefixed : (a : Bool) (s : Source) (prefix : List ℕ) (p : Prefixed (HeadingIds (ParsedEvents F)))
      → IsNewWithIds a s (unprefixed_source p) → prefix_of p ≡ prefix
      → GivesEvents PrefixSteps p (prefixed_events prefix (with_ids (taken_in_text s) (text_events a s)))
      (AreFirstWithPrefix prefix (AreFirstWithTheirIds (taken_in_text s) (AreFirstTextEvents a s)))
  gives_new_prefixed a s prefix p new is =
      gives_prefixed (calls_with_ids step) prefix p _ _ is (gives_new_ids a s (unprefixed_source p) new)
      (λ given d. all_prefixed (calls_with_ids step) p given d)
      (λ given t y. first_prefixed (calls_with_ids step) p t given y)

  abbrev WithIdsSteps : Either (HeadingIds (ParsedEvents F)) (Prefixed (HeadingIds (ParsedEvents F))) → Option Item
      → Either (HeadingIds (ParsedEvents F)) (Prefixed (HeadingIds (ParsedEvents F))) → Type 0
  WithIdsSteps = either_steps (calls_with_ids step) PrefixSteps

  gives_new_nested : (view : IdsView) (a : Bool) (s : Source) (events : NestedEvents F)
      → IsNewWithAddedIds view a s events
      → GivesEvents (nested_calls step) events (added_events (record { autolinks = a; ids = view }) s)
      (AreFirstAdded (record { autolinks = a; ids = view }) s)
  gives_new_nested adds_no_ids a s (Left events) new =
      gives_left (parsed_calls step) WithIdsSteps events (gives_new_text a s events new)
  gives_new_nested adds_ids a s (Right (Left h)) new =
      gives_right (parsed_calls step) WithIdsSteps (Left h)
      (gives_left (calls_with_ids step) PrefixSteps h (gives_new_ids a s h new))
  gives_new_nested (adds_prefixed_ids prefix) a s (Right (Right p)) new =
      gives_right (parsed_calls step) WithIdsSteps (Right p)
      (gives_right (calls_with_ids step) PrefixSteps p (gives_new_prefixed a s prefix p new.0 new.1))
  gives_new_nested view a s events new = absurd new

-- an iterator whose calls are those of one in it gives the same events
module _ {S E : Type 0} (inner : S → Option Item → S → Type 0) (of : E → S) where
  abbrev Outer : E → Option Item → E → Type 0
  Outer s r t = inner (of s) r (of t)

  yields_of : (s : E) (read : List Item) (t : E) → Yields Outer s read t → Yields inner (of s) read (of t)
  yields_of s [] t y = ap of y
  yields_of s (item ∷ read) t (j, step, y) = (of j, step, yields_of j read t y)

  gives_of : {events : List Ranged} {begins : List Ranged → Type 0} (s : E) → GivesEvents inner (of s) events begins
      → GivesEvents Outer s events begins
  gives_of s gives = record {
    whole = λ given (u, (t, y, z)). gives.whole given (of u, (of t, yields_of s (event_items given) t y, z));
    first = λ given t y. gives.first given (of t) (yields_of s (event_items given) t y);
    memory = λ given t fault y. gives.memory given (of t) fault (yields_of s (event_items given ++ Err fault ∷ []) t y);
  }

-- so new events of a text with what is added are these
pub gives_new_added : (view : AdditionsView) (s : Source) (events : TextEvents) → IsNewAdded view s events
    → GivesEvents text_steps events (added_events view s) (AreFirstAdded view s)
gives_new_added view s events new =
    gives_of (nested_calls nobody_answers) nested_events events
    (gives_new_nested nobody_answers view.ids view.autolinks s (nested_events events) new)

-- a new adapter of links over a new parser
pub new_with_links : {F : Type 0} (s : Source) (text : List ℕ) (l : Autolinks (OffsetIter F)) (o : OffsetIter F)
    → linked_state l ≡ record { source = text; iter = o; kept = []; inside = 0; over = false } → s.text ≡ text
    → IsNewParser s o → IsNewWithLinks s l
new_with_links {F} s text l o is same new = record {
  parser =
      subst (λ (x : OffsetIter F). IsNewParser s x) (sym (ap (λ (st : LinkedState (OffsetIter F)). st.iter) is)) new;
  links = record {
    of = ap (λ (st : LinkedState (OffsetIter F)). st.source) is ∙ sym same;
    nothing = ap (λ (st : LinkedState (OffsetIter F)). st.kept) is;
    outside = ap (λ (st : LinkedState (OffsetIter F)). st.inside) is;
    goes_on = ap (λ (st : LinkedState (OffsetIter F)). st.over) is;
  };
}

-- a new adapter of ids over new events
pub new_with_ids : {F : Type 0} (autolinks : Bool) (s : Source) (h : HeadingIds (ParsedEvents F)) (o : ParsedEvents F)
    (t : Taken) → ids_state h ≡ record { iter = o; kept = []; inside = false; taken = t; over = false }
    → IsNewText autolinks s o → StandsFor t (taken_in_text s) → IsNewWithIds autolinks s h
new_with_ids {F} autolinks s h o t is new stands = record {
  text = subst (λ (x : ParsedEvents F). IsNewText autolinks s x)
      (sym (ap (λ (st : IdsState (ParsedEvents F)). st.iter) is)) new;
  ids = record {
    nothing = ap (λ (st : IdsState (ParsedEvents F)). st.kept) is;
    outside = ap (λ (st : IdsState (ParsedEvents F)). st.inside) is;
    goes_on = ap (λ (st : IdsState (ParsedEvents F)). st.over) is;
    stands = subst (λ (x : Taken). StandsFor x (taken_in_text s))
        (sym (ap (λ (st : IdsState (ParsedEvents F)). st.taken) is)) stands;
  };
}
