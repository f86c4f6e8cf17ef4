-- One more is kept, and its number is that of an open one.
use Rattle.std.proofs.Common.{◌∙◌, ap, ◌∷◌, ◌++◌, [], ℕ, refl}
use Rattle.markdown_links.proofs.FoundLinksLemmas.{opened_all, opened_kept}
use Rattle.markdown_links.proofs.so_far.LinksSoFar.open.Goals as goal

pub returns-clause-kept : goal.returns-clause-kept
returns-clause-kept c = λ begins.
    opened_kept c.args.self.now _ c.args.begun c.requires refl c.in_ok-push-2.ensures.items
    (c.in_ok-push.ensures.items
    ∙ ap (λ (n : ℕ). c.args.self.now.open.items ++ n ∷ []) (c.len.ensures ∙ c.args.self.now.found.ok.0)) begins

pub returns-clause-ok : goal.returns-clause-ok
returns-clause-ok c = opened_all c.args.self.now c.args.begun _ c.in_ok-push-2.ensures.items
