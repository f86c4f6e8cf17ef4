-- One more file is read.
use Rattle.std.proofs.Common.{[], ◌∙◌, ◌∷◌, List, ap, map, string_bytes, subst, sym, ◌+◌, ℕ}
use Rattle.std.proofs.lemmas.List.{map-append}
use Rattle.std.proofs.lemmas.Result.{err_from_is_err_and}
use Rattle.markdown_tool_output.specs.Steps.{ReadsFile}
use Rattle.markdown_tool_output.proofs.StepsLemmas.{ReadSoFar, read_all, read_more, read_none, reads_more, file_alone}
use Rattle.markdown_tool_output.proofs.run.read_texts.Goals as goal

pub names-init : goal.names-init
names-init g c =
    rw c.new-texts.ensures.items (read_none c.args.lossy c.args.names.now (g.F.Files.steps c.args.files.now))

pub returns-in_err-read_text-clause-failed : goal.returns-in_err-read_text-clause-failed
returns-in_err-read_text-clause-failed g c =
    let p = err_from_is_err_and c.from_residual.result c.from_residual.ensures.1 in
    rw p.1
    (reads_more (g.F.Files.steps c.args.files.now) (g.F.Files.steps c.names.files)
    (g.F.Files.steps c.read_text.new.files) c.names.invariant.reading c.in_err-read_text.ensures.failed)

pub returns-in_err-push-clause-failed : goal.returns-in_err-push-clause-failed
returns-in_err-push-clause-failed g c =
    let p = err_from_is_err_and c.from_residual-in_err-push.result c.from_residual-in_err-push.ensures.1 in
    rw p.1
    (reads_more (g.F.Files.steps c.args.files.now) (g.F.Files.steps c.names.files)
    (g.F.Files.steps c.read_text.new.files) c.names.invariant.reading
    (file_alone c.args.lossy (g.F.Files.steps c.names.files) (g.F.Files.steps c.read_text.new.files)
    c.as_str.result.now (string_bytes c.in_ok-read_text.field-0) c.in_ok-read_text.ensures.read))

pub names-preserved : goal.names-preserved
names-preserved g c =
    subst (λ (texts : List (List ℕ)). ReadSoFar c.args.lossy c.args.names.now (c.names.name-index + 1) texts
    (g.F.Files.steps c.args.files.now) (g.F.Files.steps c.read_text.new.files))
    (sym (ap (map string_bytes) c.in_ok-push.ensures.items
    ∙ map-append string_bytes c.names.texts.items (c.in_ok-read_text.field-0 ∷ [])))
    (read_more c.args.lossy c.args.names.now c.names.name-index (map string_bytes c.names.texts.items)
    (g.F.Files.steps c.args.files.now) (g.F.Files.steps c.names.files) c.name-item.result
    (string_bytes c.in_ok-read_text.field-0) (g.F.Files.steps c.read_text.new.files) c.names-test.true c.name-item.is
    (subst (λ (name : List ℕ). ReadsFile c.args.lossy (g.F.Files.steps c.names.files)
    (g.F.Files.steps c.read_text.new.files) name (string_bytes c.in_ok-read_text.field-0)) c.as_str.ensures.value
    c.in_ok-read_text.ensures.read)
    c.names.invariant)

pub returns-clause-read : goal.returns-clause-read
returns-clause-read g c =
    read_all c.args.lossy c.args.names.now c.names.name-index (map string_bytes c.names.texts.items)
    (g.F.Files.steps c.args.files.now) (g.F.Files.steps c.names.files) c.names-test.false c.names.invariant
