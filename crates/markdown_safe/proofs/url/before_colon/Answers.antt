-- Each byte leaves what was found before it, by the lemma on its kind.
use Rattle.std.proofs.Common.{◌∙◌, Some, ap, append-nil, arith, sym}
use Rattle.std.proofs.lemmas.List.{drop_all}
use Rattle.std.proofs.lemmas.Result.{IfOk-from_err}
use Rattle.markdown_safe.specs.SafeUrl.{before_colon}
use Rattle.markdown_safe.proofs.UrlLemmas.{at_colon, no_scheme, one_more, onto, onto-none, passed_over}
use Rattle.markdown_safe.proofs.url.before_colon.Goals as goal

pub loop-byte-init : goal.loop-byte-init
loop-byte-init c = rw c.new-found.ensures.items (sym (onto-none (before_colon c.args.url.now)))

pub loop-byte-preserved-then-byte-lt33 : goal.loop-byte-preserved-then-byte-lt33
loop-byte-preserved-then-byte-lt33 c =
    let found = c.loop-byte.found.items in
    c.loop-byte.invariant
    ∙ passed_over c.args.url.now found c.loop-byte.byte-index c.loop-byte-test.true c.if-byte-lt33.true

pub returns-then-byte-eq58 : goal.returns-then-byte-eq58
returns-then-byte-eq58 c =
    let found = c.loop-byte.found.items in
    c.loop-byte.invariant
    ∙ (at_colon c.args.url.now found c.loop-byte.byte-index c.loop-byte-test.true c.if-byte-eq58.true
    ∙ ap Some (append-nil found))

pub returns-then-not-may_be_in_scheme : goal.returns-then-not-may_be_in_scheme
returns-then-not-may_be_in_scheme c =
    let found = c.loop-byte.found.items in
    c.loop-byte.invariant
    ∙ no_scheme c.args.url.now found c.loop-byte.byte-index c.loop-byte-test.true c.if-byte-lt33.false
    c.if-byte-eq58.false (sym c.may_be_in_scheme.ensures ∙ c.if-not-may_be_in_scheme.true)

pub returns-in_err-push : goal.returns-in_err-push
returns-in_err-push c = IfOk-from_err _ _ c.from_residual.ensures.0

pub loop-byte-preserved : goal.loop-byte-preserved
loop-byte-preserved c =
    let found = c.loop-byte.found.items in
    rw c.in_ok-push.ensures.items
    (c.loop-byte.invariant
    ∙ one_more c.args.url.now found c.loop-byte.byte-index c.loop-byte-test.true c.if-byte-lt33.false
    c.if-byte-eq58.false (sym c.may_be_in_scheme.ensures ∙ c.if-not-may_be_in_scheme.false))

pub returns : goal.returns
returns c =
    c.loop-byte.invariant
    ∙ ap (λ rest. onto c.loop-byte.found.items (before_colon rest))
    (drop_all c.loop-byte.byte-index c.args.url.now (omega arith))
