-- The outline of what a parser returns with its ranges is that of its reading, and so has the entries of the tree read.
use Rattle.std.proofs.Common.{◌≡◌, ℕ, false, List, [], ◌∷◌, ◌++◌, map, Err, Option, Some, None, Result, refl, sym, ap}
use Rattle.std.proofs.Common.{subst, ◌∙◌, append_assoc, append-nil}
use Rattle.std.specs.Prelude.{is_some}
use Rattle.std.specs.Iterator.{Drains, Yields}
use Rattle.std.specs.declared.ops.Range.{Range}
use Rattle.markdown_base.specs.Questions.{Question, Answer, Answers}
use Rattle.markdown_base.specs.declared.event.Event.{Event}
use Rattle.markdown_base.specs.declared.fault.Fault.{Fault}
use Rattle.markdown_base.specs.declared.fault.Fault.TheVariants.{Memory}
use Rattle.markdown_base.specs.Source.{Source}
use Rattle.markdown_blocks.specs.Blocks.{IsBlocksOf}
use Rattle.markdown_blocks.specs.declared.blocks.Blocks.{Blocks}
use Rattle.markdown_defs.specs.Callback.{Asks}
use Rattle.markdown_inline.specs.Balanced.{ranged}
use Rattle.markdown_inline.specs.Elements.{Element, Placed, events_of}
use Rattle.markdown_inline.specs.NextGives.{NextGives, IsPlacedOf}
use Rattle.markdown_inline.specs.ParserLeft.{ReadsBlocks, ReadsText, elements, offset_parser, parser_callback}
use Rattle.markdown_inline.specs.ParserLeft.{parser_text, reading_of}
use Rattle.markdown_inline.specs.ResolvedDocument.{resolved_blocks}
use Rattle.markdown_inline.specs.Runs.{AreOf, GaveRest}
use Rattle.markdown_inline.specs.declared.walk.OffsetIter.{OffsetIter}
use Rattle.markdown_inline.proofs.ReadingOfTextLemmas.{text-law}
use Rattle.markdown_inline.proofs.RunLemmas.{GaveFirst, gave_none, gave_more, gave_rest}
use Rattle.markdown_inline.proofs.WholeReadingLemmas.{block_tree-law}
use Rattle.markdown_outline.specs.Outline.{Ranged, EntryView, entries_of}
use Rattle.markdown_outline.specs.OutlineRead.{IsOutlineOfAll, MeetsError, event_items, ranged_view}
use Rattle.markdown_outline.specs.OutlineOfText.{outline_of_text}
use Rattle.markdown_outline.specs.TreeOutline.{AreEntriesOf, HeadingsApart}
use Rattle.markdown_outline.proofs.TreeOutlineLemmas.{outline_of_trees}
use Rattle.markdown_outline.proofs.TreeHeadingsLemmas.{blocks_apart}

-- events that are those of a reading, one by one, without their origins
views : (source : List ℕ) (given : List (Event × Range ℕ)) (events : List Placed) → AreOf IsPlacedOf source given events
    → map ranged_view given ≡ ranged events
views source [] [] a = refl
views source [] (placed ∷ events) a = absurd a
views source (e ∷ given) [] a = absurd a
views source (e ∷ given) (placed ∷ events) a = rw (a.0.is_event.view, a.0.range, views source given events a.1) refl

module _ {F : Type 0} (step : F → Question → Option Answer → F → Type 0) where
  -- calls of `next`, and the first events that they returned
  abbrev Steps : OffsetIter F → Option (Result (Event × Range ℕ) Fault) → OffsetIter F → Type 0
  Steps o r t = NextGives step IsPlacedOf (offset_parser o) r (offset_parser t)

  abbrev Gave : OffsetIter F → OffsetIter F → List (Event × Range ℕ) → Type 0
  Gave o t given = GaveFirst step IsPlacedOf offset_parser o t given

  -- after some events come others
  then_more : (o q t : OffsetIter F) (given more : List (Event × Range ℕ)) → Gave o q given
      → Yields Steps q (event_items more) t
      → Gave o t (given ++ more)
  then_more o q t given [] g y =
      subst (Gave o t) (sym (append-nil given)) (subst (λ (r : OffsetIter F). Gave o r given) y g)
  then_more o q t given (e ∷ more) g (j, h, y) =
      subst (Gave o t) (append_assoc given (e ∷ []) more)
      (then_more o j t (given ++ e ∷ []) more (gave_more step IsPlacedOf offset_parser o q j given e g h) y)

  -- a run without an error returned all that was left
  drained : (o : OffsetIter F) (given : List (Event × Range ℕ)) → Drains Steps o (event_items given)
      → (after : Option F) × GaveRest IsPlacedOf step (offset_parser o) given after
  drained o given (u, (t, y, z)) = (
    parser_callback (offset_parser u),
    gave_rest step IsPlacedOf offset_parser o t u given
        (then_more o o t [] given (gave_none step IsPlacedOf offset_parser o) y) z,
  )

  -- an error item is one of memory
  pub memory_alone : (o left : OffsetIter F) (given : List (Event × Range ℕ)) (fault : Fault)
      → Yields Steps o (event_items given ++ Err fault ∷ []) left → fault ≡ Memory
  memory_alone o left [] fault (j, h, y) = h.gives.memory
  memory_alone o left (e ∷ given) fault (j, h, y) = memory_alone j left given fault y

  -- without a callback there is no answer
  unasked : (old : Option F) (questions : List Question) (answers : Answers) (after : Option F) → old ≡ None
      → Asks step old questions answers after → answers ≡ []
  unasked old [] [] after n a = refl
  unasked old [] (x ∷ answers) after n a = absurd a
  unasked old (q ∷ questions) [] after n a = absurd a
  unasked None (q ∷ questions) (x ∷ answers) after n a = absurd a
  unasked (Some c) (q ∷ questions) (x ∷ answers) after n a = cc n

  -- so the outline is that of the reading of a block result, for any answers
  outline_reads : (blocks : Blocks) (o : OffsetIter F) (entries : List EntryView) → ReadsBlocks blocks (offset_parser o)
      → parser_callback (offset_parser o) ≡ None → IsOutlineOfAll Steps o entries
      → (answers : Answers) → entries ≡ entries_of (ranged (events_of (reading_of blocks false answers)))
  outline_reads blocks o entries reads nobody outline answers =
      let r = (drained o outline.events outline.read).1 in
      let none = unasked (parser_callback (offset_parser o)) _ r.answers _ nobody r.asked in
      let left : events_of (elements (offset_parser o) answers) ≡ r.events =
      ap (λ (first : Answers). events_of (elements (offset_parser o) (first ++ answers))) (sym none) ∙ r.left answers in
      let read : elements (offset_parser o) answers ≡ reading_of blocks false answers =
      reads answers ∙ ap (λ (c : Option F). reading_of blocks (is_some c) answers) nobody in
      outline.are
      ∙ ap entries_of (views _ outline.events r.events r.are)
      ∙ ap (λ (es : List Placed). entries_of (ranged es)) (sym left)
      ∙ ap (λ (es : List Element). entries_of (ranged (events_of es))) read

  -- and so has the entries of its tree
  pub entries_of_blocks : (blocks : Blocks) (o : OffsetIter F) (entries : List EntryView)
      → ReadsBlocks blocks (offset_parser o)
      → parser_callback (offset_parser o) ≡ None → IsOutlineOfAll Steps o entries → HeadingsApart blocks
      → AreEntriesOf blocks entries
  entries_of_blocks blocks o entries reads nobody outline apart answers =
      let law = block_tree-law blocks false answers in
      outline_reads blocks o entries reads nobody outline answers
      ∙ ap (λ (es : List Placed). entries_of (ranged es)) law.events
      ∙ outline_of_trees (resolved_blocks blocks false answers).trees (blocks_apart blocks false answers apart) law.both

  -- of a block result of a source they are those of the source
  pub entries_of_source : (s : Source) (blocks : Blocks) (o : OffsetIter F) (entries : List EntryView)
      → IsBlocksOf s blocks → ReadsBlocks blocks (offset_parser o) → parser_callback (offset_parser o) ≡ None
      → IsOutlineOfAll Steps o entries → entries ≡ outline_of_text s
  entries_of_source s blocks o entries of reads nobody outline =
      outline_reads blocks o entries reads nobody outline []
      ∙ ap (λ (es : List Element). entries_of (ranged (events_of es))) (text-law s blocks of false [])

  -- and so they are of a new parser
  pub entries_of_text : (s : Source) (o : OffsetIter F) (entries : List EntryView) → ReadsText s (offset_parser o)
      → parser_callback (offset_parser o) ≡ None → IsOutlineOfAll Steps o entries → entries ≡ outline_of_text s
  entries_of_text s o entries reads = entries_of_source s reads.blocks o entries reads.of_text reads.of_blocks

  -- an error is one of memory
  pub fault_of_memory : (o : OffsetIter F) (fault : Fault) → MeetsError Steps o fault → fault ≡ Memory
  fault_of_memory o fault m = memory_alone o m.left m.events fault m.read
