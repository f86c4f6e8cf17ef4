-- What is held was tested, and what is refused is not well formed.
use Rattle.std.proofs.Common.{◌∙◌, ap, refl}
use Rattle.std.proofs.lemmas.Result.{err_from_is_err_and}
use Rattle.markdown_base.specs.Source.{source_as}
use Rattle.markdown_base.specs.declared.syntax.Syntax.{Syntax}
use Rattle.markdown_blocks.proofs.blocks.Blocks.checked.Goals as goal

pub is_well_formed-requires : goal.is_well_formed-requires
is_well_formed-requires c =
    let found = rw c.in-Some.is at c.in_ok-reached_once.ensures.found in
    record {
      rooted = c.in_ok-reached_once.ensures.rooted;
      once = found.0;
      order = c.deref.ensures.value ∙ found.1;
    }

pub invariant_of-result : goal.invariant_of-result
invariant_of-result c = record { well_formed = c.in_ok-is_well_formed-in-Some.ensures.0 cc }

pub returns-then-branch-clause-holds : goal.returns-then-branch-clause-holds
returns-then-branch-clause-holds c =
    (ap (λ (s : Syntax). source_as s c.args.text.now) c.profile.ensures, refl, refl, refl)

pub returns-then-branch-clause-rules : goal.returns-then-branch-clause-rules
returns-then-branch-clause-rules c = c.in_ok-is_well_formed-in-Some.ensures.0 cc

pub returns-clause-refused : goal.returns-clause-refused
returns-clause-refused c = λ is well. let yes = c.in_ok-is_well_formed-in-Some.ensures.1 well in cc

pub returns-in-None-clause-refused : goal.returns-in-None-clause-refused
returns-in-None-clause-refused c = λ is well. (rw c.in-None.is at c.in_ok-reached_once.ensures.found) well.reached_once

-- memory was refused
pub returns-in_err-reached_once : goal.returns-in_err-reached_once
returns-in_err-reached_once c =
    let error = err_from_is_err_and c.from_residual.result c.from_residual.ensures.1 in
    rw (error.1, error.2)
    (record { holds = tt; rules = tt; refused = λ is. cc is; faults = λ is. cc is })

pub returns-in_err-is_well_formed-in-Some : goal.returns-in_err-is_well_formed-in-Some
returns-in_err-is_well_formed-in-Some c =
    let error = err_from_is_err_and c.from_residual-in_err-is_well_formed-in-Some.result
    c.from_residual-in_err-is_well_formed-in-Some.ensures.1 in
    rw (error.1, error.2)
    (record { holds = tt; rules = tt; refused = λ is. cc is; faults = λ is. cc is })
