-- The first event tells the kind, and the Texts after it are the metadata.
use Rattle.std.proofs.Common.{◌∙◌, ap, option_and_then, sym}
use Rattle.std.proofs.lemmas.Result.{IfOk-weaker}
use Rattle.markdown_page.specs.MetadataTitle.{metadata_title}
use Rattle.markdown_tool_output.specs.Metadata.{leading_text}
use Rattle.markdown_tool_output.proofs.MetadataLemmas.{events_left, stays_alone, title_taken}
use Rattle.markdown_tool_output.proofs.metadata.leading_title.Goals as goal

pub returns-in_default-opened-clause-title : goal.returns-in_default-opened-clause-title
returns-in_default-opened-clause-title c =
    let title = title_taken _ _ _ _ c.in_ok-first.first c.in-Some.ensures.steps c.in_ok-first.was c.requires.alone in
    sym (title
    ∙ ap (option_and_then (λ kind. metadata_title kind (leading_text (events_left c.next.new.self))))
    (sym c.opened_metadata-opened.ensures ∙ c.in_default-opened.is))

pub leading_text-requires : goal.leading_text-requires
leading_text-requires c = record {
  alone = stays_alone _ _ _ _ c.in_ok-first.first c.in-Some.ensures.steps c.in_ok-first.was c.requires.alone;
}

pub returns-clause-title : goal.returns-clause-title
returns-clause-title c =
    let title = title_taken _ _ _ _ c.in_ok-first.first c.in-Some.ensures.steps c.in_ok-first.was c.requires.alone in
    IfOk-weaker c.metadata_title.result _ _
    (λ found is. is
    ∙ ap (metadata_title c.in-Some-opened.kind) (c.as_str.ensures.value ∙ c.in_ok-text.ensures.text)
    ∙ sym (title
    ∙ ap (option_and_then (λ kind. metadata_title kind (leading_text (events_left c.next.new.self))))
    (sym c.opened_metadata-opened.ensures ∙ c.in-Some-opened.is))) c.metadata_title.ensures.title
