-- What is written of a parser whose events are made safe: the HTML of the safe events of the parser.
use Rattle.std.proofs.Common.{◌≡◌, ◌⊎◌, ℕ, false, Bool, None, List, [], ◌∷◌, ◌++◌, map, Ok, Err, Option, Some}
use Rattle.std.proofs.Common.{ap, inl, inr, refl, subst, sym, ◌∙◌, is_some}
use Rattle.std.specs.Iterator.{Yields}
use Rattle.markdown_base.specs.Event.{EventView, event_view}
use Rattle.markdown_base.specs.Source.{Source}
use Rattle.markdown_base.specs.Questions.{Question, Answer, Answers}
use Rattle.markdown_base.specs.declared.event.Event.{Event}
use Rattle.markdown_base.specs.declared.fault.Fault.{Fault}
use Rattle.markdown_base.specs.declared.fault.Fault.TheVariants.{Memory, Blocks, Depth}
use Rattle.markdown_blocks.specs.Blocks.{IsBlocksOf}
use Rattle.markdown_blocks.specs.declared.blocks.Blocks as block
use Rattle.markdown_event_laws.proofs.NestedTextsLemmas.{nested_readings}
use Rattle.markdown_event_laws.proofs.WholeTablesLemmas.{alone_readings, headings_of_readings, items_of_readings}
use Rattle.markdown_event_laws.proofs.WholeTablesLemmas.{whole_readings}
use Rattle.markdown_inline.specs.NextGives.{NextGives, IsEventOf}
use Rattle.markdown_inline.specs.ParserLeft.{ReadsText, parser_callback, reading_of}
use Rattle.markdown_inline.specs.ReadingOfText.{events_of_text}
use Rattle.markdown_inline.specs.declared.walk.Parser.{Parser}
use Rattle.markdown_inline.proofs.ReadingOfTextLemmas.{text-law}
use Rattle.markdown_out.specs.EventHtml.{html_by}
use Rattle.markdown_out.specs.declared.html.rules.HtmlRules.{HtmlRules}
use Rattle.markdown_out.specs.HtmlCorrect.{GoesTooDeepBy, IsOwnFaultBy, IsRenderedBy, StopsAtErrorBy, items}
use Rattle.markdown_render.specs.HtmlOfText.{views_of}
use Rattle.markdown_render.proofs.RenderingLemmas.{drained, events_alone, first_alone, first_by_rules}
use Rattle.markdown_render.proofs.RenderingLemmas.{first_drained, memory_alone, read_by_rules}
use Rattle.markdown_safe.specs.PlacedTree.{IsPlacedTree}
use Rattle.markdown_safe.specs.SafeEvents.{safe_html_of}
use Rattle.markdown_safe.specs.SafeHtml.{IsSafeHtml}
use Rattle.markdown_safe.specs.SafeItems.{IsSafeItem, SafeReading}
use Rattle.markdown_safe.specs.SafeRendering.{IsSafeHtmlFor, IsSafeTextTooDeep, IsSafeTooDeepFor, safe_html_of_text}
use Rattle.markdown_safe.specs.SafeRules.{SafeRulesView, html_rules}
use Rattle.markdown_safe.specs.SafeSource.{new_reading, safe_reading, safe_steps}
use Rattle.markdown_safe.specs.SafeTexts.{TextsAreSafe, TextsAreTrees}
use Rattle.markdown_safe.specs.declared.adapter.Safe.{Safe}
use Rattle.markdown_safe.proofs.SafeEventsByRulesLemmas.{html_is_placed, html_is_safe}
use Rattle.markdown_safe.proofs.SafeItemsLemmas.{AreAllSafe, AreFirstSafe, Item, all_safe, first_safe}

-- the safe HTML of a reading of a text is a tree of elements that stand where a browser leaves them
tree_of_reading : (rules : SafeRulesView) (s : Source) (blocks : block.Blocks) → IsBlocksOf s blocks → (asks : Bool)
    (answers : Answers) (events : List EventView) → views_of (reading_of blocks asks answers) ≡ events
    → IsPlacedTree (safe_html_of rules events)
tree_of_reading rules s blocks of asks answers events are =
    subst (λ (es : List EventView). IsPlacedTree (safe_html_of rules es)) are
    (html_is_placed rules (views_of (reading_of blocks asks answers)) (nested_readings blocks asks answers)
    (whole_readings s blocks of asks answers) (alone_readings s blocks of asks answers)
    (items_of_readings s blocks of asks answers) (headings_of_readings s blocks of asks answers))

-- an iterator that makes the events of a parser safe, of which nothing was read yet
module _ {F : Type 0} (step : F → Question → Option Answer → F → Type 0) (rules : SafeRulesView) (s : Source)
    (callback : Option F) (p : Parser F) (i : Safe (Parser F)) (new_one : safe_reading i ≡ new_reading p rules)
    (of : ReadsText s p) (holds : parser_callback p ≡ callback) (form : HtmlRules) (by : form ≡ html_rules rules) where
  abbrev steps : Safe (Parser F) → Option Item → Safe (Parser F) → Type 0
  steps = safe_steps (NextGives step IsEventOf)

  -- the HTML of a new parser, made safe
  pub rendering : (old new : List ℕ) → old ≡ [] → IsRenderedBy form steps i old new
      → IsSafeHtmlFor rules step callback s new
  rendering old new empty r =
      let a : AreAllSafe (NextGives step IsEventOf) safe_reading (new_reading p rules) r.events =
      subst (λ (x : SafeReading (Parser F)). AreAllSafe (NextGives step IsEventOf) safe_reading x r.events) new_one
      (all_safe (NextGives step IsEventOf) safe_reading i r.events r.read) in
      let d = drained step p a.0 a.1 in
      let events : List EventView = map event_view a.0 in
      let is : new ≡ safe_html_of rules events =
      r.stands ∙ (ap (λ bytes. bytes ++ html_by form (map event_view r.events)) empty
      ∙ (ap (λ (h : HtmlRules). html_by h (map event_view r.events)) by ∙ ap (html_by (html_rules rules)) a.2)) in
      subst (λ (c : Option F). IsSafeHtmlFor rules step c s new) holds (record {
        events = events;
        read = read_by_rules step s p of events d;
        is = is;
        tree = subst IsPlacedTree (sym is) (tree_of_reading rules s of.blocks of.of_text (is_some (parser_callback p))
            (d.answers ++ []) events (rw (← of.of_blocks (d.answers ++ [])) (d.are [])));
      })

  -- an error among the items is one of memory
  error_alone : (j left : Safe (Parser F)) (given : List Event) (fault : Fault)
      → Yields steps j (items given ++ Err fault ∷ []) left → fault ≡ Memory
  error_alone j left [] fault (k, h, y) = by_item h.1.0 h.1.1 h.1.2
    where
      by_item : (x : Item) → NextGives step IsEventOf (safe_reading j).source (Some x) (safe_reading k).source
          → IsSafeItem (safe_reading j).rules (safe_reading j).past x (Err fault) (safe_reading k).past
          → fault ≡ Memory
      by_item (Ok e) h made = made
      by_item (Err other) h made =
          let same : fault ≡ other = cc made in
          same ∙ memory_alone step (safe_reading j).source (safe_reading k).source [] other
          ((safe_reading k).source, h, refl)
  error_alone j left (e ∷ given) fault (k, h, y) = error_alone k left given fault y

  -- so safe rendering fails by memory, or where too many Starts are open
  too_deep : (old new : List ℕ) → GoesTooDeepBy form steps i old new
      → IsSafeTooDeepFor rules step callback s
  too_deep old new d =
      let a : AreFirstSafe (NextGives step IsEventOf) safe_reading (new_reading p rules) (safe_reading d.left).source
      d.events =
      subst (λ (x : SafeReading (Parser F)).
      AreFirstSafe (NextGives step IsEventOf) safe_reading x (safe_reading d.left).source d.events) new_one
      (first_safe (NextGives step IsEventOf) safe_reading i d.left d.events d.read) in
      subst (λ (c : Option F). IsSafeTooDeepFor rules step c s) holds (record {
        events = map event_view a.0;
        read = first_by_rules step s p of (map event_view a.0)
            (first_drained step p (safe_reading d.left).source a.0 a.1);
        deep = rw a.2 at d.deep;
      })

  own_fault : (old new : List ℕ) (fault : Fault) → IsOwnFaultBy form steps i old new fault
      → (fault ≡ Memory) ⊎ ((fault ≡ Depth) × IsSafeTooDeepFor rules step callback s)
  own_fault old new Memory own = inl refl
  own_fault old new Depth own = inr (refl, too_deep old new own)
  own_fault old new Blocks own = absurd own

  pub faults : (old new : List ℕ) (fault : Fault) → StopsAtErrorBy form steps i old new fault
      ⊎ IsOwnFaultBy form steps i old new fault
      → (fault ≡ Memory) ⊎ ((fault ≡ Depth) × IsSafeTooDeepFor rules step callback s)
  faults old new fault (inl stop) = inl (error_alone i stop.left stop.events fault stop.read)
  faults old new fault (inr own) = own_fault old new fault own

module _ {F : Type 0} (step : F → Question → Option Answer → F → Type 0) (rules : SafeRulesView)
    (callback : Option F) (s : Source) where
  -- it is safe HTML
  pub is_safe : (html : List ℕ) → IsSafeHtmlFor rules step callback s html → IsSafeHtml html
  is_safe html r = subst IsSafeHtml (sym r.is) (html_is_safe rules (html_rules rules) r.events)

  -- without a callback it is the safe HTML that is defined of the text
  pub html_alone : (html : List ℕ) → IsSafeHtmlFor rules step callback s html → callback ≡ None
      → html ≡ safe_html_of_text rules s
  html_alone html r none =
      r.is ∙ ap (λ (es : List EventView). safe_html_of rules es) (events_alone step callback s r.events r.read none)

-- and without a callback it fails by memory, or where the text is too deep
pub faults_alone : {F : Type 0} (step : F → Question → Option Answer → F → Type 0) (rules : SafeRulesView)
    (callback : Option F) (s : Source) (fault : Fault)
    → (fault ≡ Memory) ⊎ ((fault ≡ Depth) × IsSafeTooDeepFor rules step callback s) → callback ≡ None
    → (fault ≡ Memory) ⊎ ((fault ≡ Depth) × IsSafeTextTooDeep rules s)
faults_alone step rules callback s fault (inl e) none = inl e
faults_alone step rules None s fault (inr (e, d)) none =
    let first = first_alone step s d.events d.read in
    inr (e, record { given = d.events; missing = first.0; whole = first.1; deep = d.deep })
faults_alone step rules (Some f) s fault (inr d) none = absurd (cc none)

-- ---- laws of texts

pub texts_are_safe : TextsAreSafe
texts_are_safe rules s = html_is_safe rules (html_rules rules) (map (λ e. e.0) (events_of_text s))

pub texts_are_trees : TextsAreTrees
texts_are_trees rules s blocks of =
    tree_of_reading rules s blocks of false [] (map (λ e. e.0) (events_of_text s))
    (ap views_of (text-law s blocks of false []))
