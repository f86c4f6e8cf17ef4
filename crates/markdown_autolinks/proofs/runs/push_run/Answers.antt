-- A run without addresses: a single Text stays, and others become one.
use Rattle.std.proofs.Common.{◌≢◌, ◌++◌, ◌∷◌, [], ap, sym, ◌∙◌, List, map, Ok, ℕ, length}
use Rattle.std.specs.declared.ops.Range.{Range}
use Rattle.std.proofs.lemmas.List.{map-append}
use Rattle.markdown_base.specs.declared.event.Event.{Event}
use Rattle.markdown_out.specs.OutLaws.{RangedEvent}
use Rattle.markdown_autolinks.specs.AutolinksNext.{item_read}
use Rattle.markdown_autolinks.specs.LinkedRuns.{run_text, searched_bytes, text_of_run}
use Rattle.markdown_autolinks.specs.RunRead.{run_text_view, texts_of}
use Rattle.markdown_autolinks.proofs.ReadLemmas.{texts_many, texts_one, texts_size}
use Rattle.markdown_autolinks.specs.declared.runs.RunText.{RunText}
use Rattle.markdown_autolinks.proofs.runs.push_run.Goals as goal

pub returns-then-len-ne1 : goal.returns-then-len-ne1
returns-then-len-ne1 c =
    let source = c.args.source.now in
    let is = c.in_ok-texts.ensures.texts
    ∙ ap (λ (run : List (Event × Range ℕ)). map (run_text source) (texts_of run)) c.as_slice.ensures.value in
    let bytes = c.as_bytes.ensures.value ∙ c.in_ok-searched.ensures
    ∙ ap (λ (ts : List RunText). searched_bytes (map run_text_view ts)) c.as_slice-2.ensures.value in
    let none = sym c.first_address.ensures ∙ c.in_default.is in
    let many : length (texts_of c.args.run.items) ≢ 1 = λ one. c.if-len-ne1.true (c.len.ensures
    ∙ c.args.run.ok.0 ∙ sym (texts_size c.args.run.items) ∙ one) in
    c.in_ok-push_text.ensures
    ∙ ap (λ (ts : List RunText). map item_read c.args.made.now.items
    ++ map (λ e. Ok e) (text_of_run (map run_text_view ts))) c.as_slice-then-len-ne1.ensures.value
    ∙ ap (λ (events : List RangedEvent). map item_read c.args.made.now.items ++ map (λ e. Ok e) events)
    (sym (texts_many source (map run_text_view c.in_ok-texts.texts.items) (texts_of c.args.run.items)
    c.as_bytes.result.now is bytes none many))

pub returns : goal.returns
returns c =
    let source = c.args.source.now in
    let event = c.in-Some-pop.event in
    let is = c.in_ok-texts.ensures.texts
    ∙ ap (λ (run : List (Event × Range ℕ)). map (run_text source) (texts_of run)) c.as_slice.ensures.value in
    let bytes = c.as_bytes.ensures.value ∙ c.in_ok-searched.ensures
    ∙ ap (λ (ts : List RunText). searched_bytes (map run_text_view ts)) c.as_slice-2.ensures.value in
    let none = sym c.first_address.ensures ∙ c.in_default.is in
    ap (map item_read) c.in_ok-push.ensures.items ∙ map-append item_read c.args.made.now.items (Ok event ∷ [])
    ∙ ap (λ (events : List RangedEvent). map item_read c.args.made.now.items ++ map (λ e. Ok e) events)
    (sym (texts_one source (map run_text_view c.in_ok-texts.texts.items) c.args.run.items c.pop.new.self.items event
    c.as_bytes.result.now is bytes none c.requires.texts c.in-Some-pop.ensures.items
    (sym c.args.run.ok.0 ∙ sym c.len.ensures ∙ c.if-len-ne1.false)))
