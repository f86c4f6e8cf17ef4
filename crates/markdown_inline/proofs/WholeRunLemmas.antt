-- Events that are given have the views and the ranges of those that were left: so they keep the laws of a whole
-- document.
use Rattle.std.proofs.Common.{◌≡◌, ℕ, List, [], ◌∷◌, Option, Bool, refl, sym, subst, ap, ◌∙◌, append-nil}
use Rattle.std.specs.Prelude.{is_some}
use Rattle.std.specs.declared.ops.Range.{Range}
use Rattle.markdown_base.specs.Questions.{Question, Answer, Answers}
use Rattle.markdown_base.specs.declared.event.Event.{Event}
use Rattle.markdown_brackets.proofs.BracketLawLemmas.{closed_law}
use Rattle.markdown_defs.specs.Callback.{Asks}
use Rattle.markdown_blocks.specs.Blocks.{text_of_blocks, block_arena, block_parts}
use Rattle.markdown_blocks.specs.declared.blocks.Blocks.{Blocks}
use Rattle.markdown_document.specs.EnclosingBlocks.{EnclosingBlocks}
use Rattle.markdown_document.specs.Document.{document, no_notes}
use Rattle.markdown_document.specs.Setting.{ReferenceState, setting_of}
use Rattle.markdown_document.specs.Tables.{tables_at_start}
use Rattle.markdown_resolver.proofs.ChainQuestionsLemmas.{resolved_asks}
use Rattle.markdown_inline.specs.Balanced.{ranged}
use Rattle.markdown_inline.specs.Elements.{Element, Placed, events_of, questions_of}
use Rattle.markdown_inline.specs.NextGives.{IsPlacedOf}
use Rattle.markdown_inline.specs.ParserLeft.{elements, state_at_start, parser_callback, reading_of, rules_of}
use Rattle.markdown_inline.specs.QuestionLaws.{AsksApart}
use Rattle.markdown_inline.specs.Runs.{AreOf, GaveRest}
use Rattle.markdown_inline.specs.WholeRun.{AsksApartAndOnce, AsksOnce, IsWhole, IsWholeFromStart, viewed}
use Rattle.markdown_inline.specs.declared.walk.Parser.{Parser}
use Rattle.markdown_inline.proofs.BalancedLemmas.{balanced-law}
use Rattle.markdown_inline.proofs.LimitLawLemmas.{limit-law}
use Rattle.markdown_inline.proofs.NoLinkInLinkEventsLemmas.{no-link-law}
use Rattle.markdown_inline.proofs.QuestionLawsLemmas.{document_asks, document_ends, each_also}

-- events that are those of a reading, one by one
viewed-ranged : (source : List ℕ) (given : List (Event × Range ℕ)) (events : List Placed)
    → AreOf IsPlacedOf source given events
    → viewed given ≡ ranged events
viewed-ranged source [] [] h = refl
viewed-ranged source [] (p ∷ events) h = absurd h
viewed-ranged source (e ∷ given) [] h = absurd h
viewed-ranged source (e ∷ given) (p ∷ events) h =
    let rest = viewed-ranged source given events h.1 in
    rw (h.0.is_event.view, h.0.range, rest) refl

-- the three laws, of a reading
whole_reading : (blocks : Blocks) (asks : Bool) (answers : Answers)
    → IsWhole (text_of_blocks blocks) ((rules_of blocks asks).syntax.addresses)
    (ranged (events_of (reading_of blocks asks answers)))
whole_reading blocks asks answers =
    record {
      balanced = balanced-law blocks asks answers;
      links_apart = no-link-law blocks asks answers;
      expands = limit-law blocks asks
          answers;
    }

-- what a reading asks
asks_once : (blocks : Blocks) (asks : Bool) (answers : Answers)
    → AsksOnce blocks asks (questions_of (reading_of blocks asks answers))
asks_once blocks asks answers =
    let source = text_of_blocks blocks in
    let nodes = (block_arena blocks).nodes in
    let tables = tables_at_start (block_parts blocks) in
    let rules = rules_of blocks asks in
    let s = setting_of source rules in
    record {
      at_most = (document_asks source nodes tables rules (state_at_start source answers)).once;
      when_read = closed_law;
      in_chains = each_also (AsksApart s) (λ chain. (above : EnclosingBlocks) (state : ReferenceState)
          → AsksApartAndOnce s above state chain)
          (λ chain apart above state. record
          { at_most = resolved_asks s no_notes above chain state; apart = apart above state })
          (document source tables nodes)
          (document_ends source nodes (block_parts blocks) tables rules blocks.well_formed);
    }

-- what `into_events` returns keeps the laws
pub whole_run : {F : Type 0} (step : F → Question → Option Answer → F → Type 0) (p : Parser F)
    (given : List (Event × Range ℕ)) (callback : Option F)
    → GaveRest IsPlacedOf step p given callback → IsWholeFromStart step p given callback
whole_run step p given callback r blocks reads =
    let asks = is_some (parser_callback p) in
    let all : events_of (elements p r.answers) ≡ r.events =
    ap (λ (answers : Answers). events_of (elements p answers)) (sym (append-nil r.answers)) ∙ r.left [] in
    let same : viewed given ≡ ranged (events_of (reading_of blocks asks r.answers)) =
    viewed-ranged _ given r.events r.are ∙ ap ranged (sym all)
    ∙ ap (λ es. ranged (events_of es)) (reads r.answers) in
    record {
      events = subst (IsWhole (text_of_blocks blocks) ((rules_of blocks asks).syntax.addresses)) (sym same)
          (whole_reading blocks asks r.answers);
      answers = r.answers;
      are = same;
      asked = subst (λ (es : List Element). Asks step (parser_callback p) (questions_of es) r.answers callback)
          (reads r.answers) r.asked;
      once = asks_once blocks asks r.answers;
    }
