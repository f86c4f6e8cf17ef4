-- The lines written are those of all that was left of a new parser; an error is the parser's, or one of writing.
use Rattle.std.proofs.Common.{⊎_elim}
use Rattle.std.proofs.lemmas.Result.{err_from_is_err_and}
use Rattle.markdown_base.specs.Source.{source_as}
use Rattle.markdown_text_json.proofs.TextJsonLemmas.{json_written, stopped_by_memory}
use Rattle.markdown_text_json.proofs.text.text_json_source.Goals as goal

pub returns-clause-json : goal.returns-clause-json
returns-clause-json c =
    json_written _ (source_as c.args.syntax c.args.text.now) c.in_ok-parser.parser _ _ _ c.into_offset_iter.ensures
    c.in_ok-parser.ensures.left c.in_ok-parser.ensures.callback c.new-json.ensures.bytes c.in_ok-push_json.ensures.ok

pub returns-in_err-push_json-clause-refused : goal.returns-in_err-push_json-clause-refused
returns-in_err-push_json-clause-refused c =
    let p = err_from_is_err_and c.from_residual-in_err-push_json.result c.from_residual-in_err-push_json.ensures.1 in
    rw (p.1, p.2) (⊎_elim (λ s. stopped_by_memory _ _ _ _ _ s) (λ r. r.0) c.in_err-push_json.ensures.err)
