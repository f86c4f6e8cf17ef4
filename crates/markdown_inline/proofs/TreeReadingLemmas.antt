-- A tree reads as its events, the questions for it, and then what comes after it, with what is known then: so does a
-- chain, and a whole document.
use Rattle.std.proofs.Common.{◌≡◌, ℕ, Bool, false, List, [], ◌∷◌, ◌++◌, map, refl, sym, subst, ap, ◌∙◌, append_assoc}
use Rattle.std.proofs.Common.{append-nil}
use Rattle.std.specs.declared.ops.Range.{Range}
use Rattle.markdown_base.specs.Event.{start, end, tag_end, hard_break}
use Rattle.markdown_base.specs.Forest.{Forest, nil, node}
use Rattle.markdown_base.specs.Questions.{Answers, Question}
use Rattle.markdown_blocks.specs.Blocks.{block_parts, text_of_blocks, block_arena}
use Rattle.markdown_blocks.specs.declared.blocks.Blocks.{Blocks}
use Rattle.markdown_delims.specs.Pairing.{NothingOpen}
use Rattle.markdown_document.specs.EnclosingBlocks.{EnclosingBlocks, inside_node, no_blocks}
use Rattle.markdown_document.specs.ChainRest.{joined_chains}
use Rattle.markdown_document.specs.Document.{Shape, leaf, enclosed, plain, backslash_break, unresolved, is_unresolved}
use Rattle.markdown_document.specs.Document.{Plain, document, no_notes}
use Rattle.markdown_document.specs.Setting.{ReferenceState, Setting, setting_of}
use Rattle.markdown_document.specs.Tables.{tables_at_start}
use Rattle.markdown_inline.specs.Elements.{Element, Placed, Reading, event, events_of, nothing_read, question}
use Rattle.markdown_inline.specs.Elements.{questions_of, then_reads}
use Rattle.markdown_inline.specs.ParserLeft.{state_at_start, reading_of, rules_of}
use Rattle.markdown_inline.specs.Reading.{chain_reading, reading_opened, reading, closed_reading}
use Rattle.markdown_inline.specs.ResolvedDocument.{Resolution, Resolving, resolved_blocks, resolved_chain}
use Rattle.markdown_inline.specs.ResolvedDocument.{resolved_document, resolved_tree}
use Rattle.markdown_inline.specs.TreeReading.{SplitLaw, TreeLaw, events_in, tree_events}
use Rattle.markdown_inline.proofs.RunLemmas.{events_of-questions, questions_of-questions}
use Rattle.markdown_resolver.specs.PassOne.{Outcome}
use Rattle.markdown_resolver.specs.Resolved.{all_paired, resolved}

-- what is read before what follows: these events and these questions, and then what follows with what is known then
record Reads (reads : Reading → Reading) (state : ReferenceState) (es : List Placed) (qs : List Question)
    (later : ReferenceState) : Type
    0 where
  events : (after : Reading) → events_of (reads after state).elements ≡ es ++ events_of (after later).elements
  questions : (after : Reading) → questions_of (reads after state).elements ≡ qs ++ questions_of (after later).elements
  goes_on : (after : Reading) → (reads after state).elements
      ≡ (reads nothing_read state).elements ++ (after later).elements

reads_nothing : (state : ReferenceState) → Reads (λ after. after) state [] [] state
reads_nothing state = record { events = λ after. refl; questions = λ after. refl; goes_on = λ after. refl }

-- one event before others
one_reads : (e : Placed) (reads : Reading → Reading) (state later : ReferenceState) (es : List Placed)
    (qs : List Question)
    → Reads reads state es qs later → Reads (λ after. then_reads e (reads after)) state (e ∷ es) qs later
one_reads e reads state later es qs r = record {
  events = λ after. ap (λ (l : List Placed). e ∷ l) (r.events after);
  questions = λ after. r.questions after;
  goes_on = λ after. ap (λ (l : List Element). event e ∷ l) (r.goes_on after);
}

-- what is below a tree, and what comes after it
both_read : (below after : Reading → Reading) (state middle later : ReferenceState) (es fs : List Placed)
    (qs ps : List Question) → Reads below state es qs middle → Reads after middle fs ps later
    → Reads (λ rest. below (after rest)) state (es ++ fs) (qs ++ ps) later
both_read below after state middle later es fs qs ps b a = record {
  events = λ rest. b.events (after rest) ∙ ap (λ (l : List Placed). es ++ l) (a.events rest)
      ∙ sym (append_assoc es fs (events_of (rest later).elements));
  questions = λ rest. b.questions (after rest) ∙ ap (λ (l : List Question). qs ++ l) (a.questions rest)
      ∙ sym (append_assoc qs ps (questions_of (rest later).elements));
  goes_on = λ rest. b.goes_on (after rest) ∙ ap (λ (l : List Element). (below nothing_read state).elements ++ l)
      (a.goes_on rest)
      ∙ sym (append_assoc (below nothing_read state).elements (after nothing_read middle).elements
      (rest later).elements)
      ∙ ap (λ (l : List Element). l ++ (rest later).elements) (sym (b.goes_on (after nothing_read)));
}

-- a tree that encloses what is below it
enclosed_reads : (first last : Placed) (below after : Reading → Reading) (state middle later : ReferenceState)
    (es fs : List Placed) (qs ps : List Question) → Reads below state es qs middle → Reads after middle fs ps later
    → Reads (λ rest. then_reads first (below (then_reads last (after rest)))) state (first ∷ (es ++ last ∷ fs))
    (qs ++ ps) later
enclosed_reads first last below after state middle later es fs qs ps b a =
    one_reads first (λ rest. below (then_reads last (after rest))) state later (es ++ last ∷ fs) (qs ++ ps)
    (both_read below (λ rest. then_reads last (after rest)) state middle later es (last ∷ fs) qs ps b
    (one_reads last after middle later fs ps a))

-- a resolved forest
settled_by : (shape : Shape) (range : Range ℕ) (under rest : Reading → Reading) (state : ReferenceState)
    (es fs : List Placed) → Reads under state es [] state → Reads rest state fs [] state
    → Reads (λ after. reading_opened shape range under (rest after) (rest after)) state (tree_events shape range es fs)
    [] state
settled_by (leaf e origins) range under rest state es fs i b = one_reads (e, range, origins) rest state state fs [] b
settled_by (enclosed tag origins) range under rest state es fs i b =
    enclosed_reads (start tag, range, origins) (end (tag_end tag), range, []) under rest state state state es fs [] []
    i b
settled_by plain range under rest state es fs i b = both_read under rest state state state es fs [] [] i b
settled_by backslash_break range under rest state es fs i b = one_reads (hard_break, range, []) rest state state fs [] b
settled_by (unresolved x) range under rest state es fs i b = b

literal_reads : (f : Forest Plain) (state : ReferenceState) → Reads (λ after. closed_reading f after) state
    (events_in f) []
    state
literal_reads nil state = reads_nothing state
literal_reads (node a below later) state =
    settled_by a.part.shape a.part.range (λ inner. closed_reading below inner) (λ after. closed_reading later after)
    state
    (events_in below) (events_in later) (literal_reads below state) (literal_reads later state)

-- a tree that is not open, before the same
closed_after : (shape : Shape) (range : Range ℕ) (inside : Reading → Reading) (after after' whole whole' : Reading)
    → is_unresolved shape ≡ false → after ≡ after'
    → reading_opened shape range inside after whole ≡ reading_opened shape range inside after' whole'
closed_after (unresolved b) range inside after after' whole whole' h a = cc h
closed_after other range inside after after' whole whole' h a = rw a refl

-- what is made of a part of a document is what is read of it
abbrev ReadsAs : (reads : Reading → Reading) → ReferenceState → Resolution (Unit {0}) → Type 0
ReadsAs reads state r = Reads reads state (events_in r.trees) r.questions r.state

module _ (s : Setting) where
  -- a chain
  chain_reads : (above : EnclosingBlocks) (chain : Forest Plain) (state : ReferenceState)
      → ReadsAs (λ after. chain_reading s no_notes above chain after) state
      (resolved_chain s no_notes above chain state)
  chain_reads above chain state =
      let r : Outcome (Unit {0}) = resolved s no_notes above chain state in
      let f : Forest Plain = all_paired s r.forest in
      let h = literal_reads f r.state in
      record {
        events = λ after. events_of-questions r.questions (closed_reading f after r.state).elements ∙ h.events after;
        questions = λ after. questions_of-questions r.questions (closed_reading f after r.state).elements
            ∙ ap (λ (l : List Question). r.questions ++ l) (h.questions after);
        goes_on = λ after. ap (λ (l : List Element). map question r.questions ++ l) (h.goes_on after)
            ∙ sym (append_assoc (map question r.questions) (closed_reading f nothing_read r.state).elements
            (after r.state).elements);
      }

  -- a tree, by its shape
  tree_reads : (shape : Shape) (a : Plain) (under rest whole : Reading → Reading)
      (below after chain : Resolving (Unit {0}))
      → a.part.shape ≡ shape → ((state : ReferenceState) → ReadsAs under state (below state))
      → ((state : ReferenceState) → ReadsAs rest state (after state))
      → ((state : ReferenceState) → ReadsAs whole state (chain state)) → (state : ReferenceState)
      → ReadsAs (λ later. reading_opened shape a.part.range under (rest later) (whole later)) state
      (resolved_tree shape a below after chain state)
  tree_reads (leaf e origins) a under rest whole below after chain is b r w state =
      let shows : tree_events (leaf e origins) a.part.range [] (events_in (after state).trees)
      ≡ tree_events a.part.shape a.part.range [] (events_in (after state).trees) =
      ap (λ (shape : Shape). tree_events shape a.part.range [] (events_in (after state).trees)) (sym is) in
      subst (λ (l : List Placed). Reads (λ later. then_reads (e, a.part.range, origins) (rest later)) state l
      (after state).questions
      (after state).state) shows
      (one_reads (e, a.part.range, origins) rest state (after state).state (events_in (after state).trees)
      (after state).questions (r state))
  tree_reads (enclosed tag origins) a under rest whole below after chain is b r w state =
      let middle : ReferenceState = (below state).state in
      let first : Placed = (start tag, a.part.range, origins) in
      let last : Placed = (end (tag_end tag), a.part.range, []) in
      let inside : List Placed = events_in (below state).trees in
      let beyond : List Placed = events_in (after middle).trees in
      subst (λ (l : List Placed). Reads (λ later. then_reads first (under (then_reads last (rest later)))) state l
      ((below state).questions ++ (after middle).questions) (after middle).state)
      (ap (λ (shape : Shape). tree_events shape a.part.range inside beyond) (sym is))
      (enclosed_reads first last under rest state middle (after middle).state inside beyond (below state).questions
      (after middle).questions
      (b state) (r middle))
  tree_reads plain a under rest whole below after chain is b r w state =
      let middle : ReferenceState = (below state).state in
      let inside : List Placed = events_in (below state).trees in
      let beyond : List Placed = events_in (after middle).trees in
      subst (λ (l : List Placed). Reads (λ later. under (rest later)) state l
      ((below state).questions ++ (after middle).questions)
      (after middle).state) (ap (λ (shape : Shape). tree_events shape a.part.range inside beyond) (sym is))
      (both_read under rest state middle (after middle).state inside beyond (below state).questions
      (after middle).questions (b state)
      (r middle))
  tree_reads backslash_break a under rest whole below after chain is b r w state =
      subst (λ (l : List Placed). Reads (λ later. then_reads (hard_break, a.part.range, []) (rest later)) state l
      (after state).questions
      (after state).state) (ap (λ (shape : Shape). tree_events shape a.part.range [] (events_in (after state).trees))
      (sym is))
      (one_reads (hard_break, a.part.range, []) rest state (after state).state (events_in (after state).trees)
      (after state).questions
      (r state))
  tree_reads (unresolved x) a under rest whole below after chain is b r w state = w state

  -- a document
  document_reads : (above : EnclosingBlocks) (f : Forest Plain) (state : ReferenceState)
      → ReadsAs (λ after. reading s no_notes above f after) state (resolved_document s no_notes above f state)
  document_reads above nil state = reads_nothing state
  document_reads above (node a below later) state =
      tree_reads a.part.shape a (λ inner. reading s no_notes (inside_node a above) below inner)
      (λ after. reading s no_notes above later after)
      (λ after. chain_reading s no_notes above (node a below later) after)
      (λ state. resolved_document s no_notes (inside_node a above) below state)
      (λ state. resolved_document s no_notes above later state)
      (λ state. resolved_chain s no_notes above (node a below later) state) refl
      (λ state. document_reads (inside_node a above) below state) (λ state. document_reads above later state)
      (λ state. chain_reads above (node a below later) state) state

  -- the first trees of a document, where none is open, and then the others
  parts_read : (above : EnclosingBlocks) (first others : Forest Plain) (after : Reading) → NothingOpen first
      → reading s no_notes above (joined_chains first others) after
      ≡ reading s no_notes above first (reading s no_notes above others after)
  parts_read above nil others after h = refl
  parts_read above (node a below later) others after h =
      closed_after a.part.shape a.part.range (λ inner. reading s no_notes (inside_node a above) below inner)
      (reading s no_notes above (joined_chains later others) after)
      (reading s no_notes above later (reading s no_notes above others after))
      (chain_reading s no_notes above (node a below (joined_chains later others)) after)
      (chain_reading s no_notes above (node a below later) (reading s no_notes above others after)) h.0
      (parts_read above later others after h.1)

pub tree-law : TreeLaw
tree-law s above f state after =
    let r = document_reads s above f state in
    record { events = r.events after; questions = r.questions after; goes_on = r.goes_on after }

pub split-law : SplitLaw
split-law s above first others state after h =
    ap (λ (r : Reading). (r state).elements) (parts_read s above first others after h)
    ∙ (document_reads s above first state).goes_on (reading s no_notes above others after)

-- of a block result
pub blocks_read : (blocks : Blocks) (asks : Bool) (answers : Answers)
    → (events_of (reading_of blocks asks answers) ≡ events_in (resolved_blocks blocks asks answers).trees)
    × (questions_of (reading_of blocks asks answers) ≡ (resolved_blocks blocks asks answers).questions)
blocks_read blocks asks answers =
    let source : List ℕ = text_of_blocks blocks in
    let r = document_reads (setting_of source (rules_of blocks asks)) (no_blocks source)
    (document source (tables_at_start (block_parts blocks)) (block_arena blocks).nodes) (state_at_start source answers)
    in (
      r.events nothing_read ∙ append-nil (events_in (resolved_blocks blocks asks answers).trees),
      r.questions nothing_read ∙ append-nil (resolved_blocks blocks asks answers).questions,
    )
