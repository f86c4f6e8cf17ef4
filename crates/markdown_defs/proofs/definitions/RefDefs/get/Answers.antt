-- The index contains the position of what the key finds.
use Rattle.std.proofs.Common.{◌≡◌, sym, ◌∙◌}
use Rattle.markdown_defs.specs.Folding.{case_folding, folded_text}
use Rattle.markdown_defs.proofs.IndexLemmas.{not_found, in_range, found_at}
use Rattle.markdown_defs.proofs.definitions.RefDefs.get.Goals as goal

pub returns-in-None-clause-found : goal.returns-in-None-clause-found
returns-in-None-clause-found c =
    let text : c.as_str.result.now ≡ folded_text c.args.key.now = c.as_str.ensures.value
    ∙ c.in_ok-folded.ensures.folded in
    rw (← c.self.view_is) (not_found _ _ (sym (c.self.invariant.0 (case_folding c.args.key.now))
    ∙ sym (rw text at c.in-None.ensures.value)))

pub index-requires : goal.index-requires
index-requires c =
    let text : c.as_str.result.now ≡ folded_text c.args.key.now = c.as_str.ensures.value
    ∙ c.in_ok-folded.ensures.folded in
    rw c.self.inside.definitions.ok.0
    (in_range (case_folding c.args.key.now) _ _ (sym (c.self.invariant.0 (case_folding c.args.key.now))
    ∙ sym (rw text at c.in-Some.ensures.value)))

pub returns-clause-found : goal.returns-clause-found
returns-clause-found c =
    let text : c.as_str.result.now ≡ folded_text c.args.key.now = c.as_str.ensures.value
    ∙ c.in_ok-folded.ensures.folded in
    rw (← c.self.view_is) (found_at _ _ _ _ (sym (c.self.invariant.0 (case_folding c.args.key.now))
    ∙ sym (rw text at c.in-Some.ensures.value)) c.index.ensures)
