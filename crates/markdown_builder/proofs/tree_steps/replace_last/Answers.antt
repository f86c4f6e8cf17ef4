-- The last of some blocks is written.
use Rattle.std.proofs.Common.{◌≡◌, ℕ, zero, suc, List, [], ◌∷◌, ◌++◌, length, set, refl, ap, arith}
use Rattle.std.proofs.lemmas.List.{length-append}
use Rattle.markdown_builder.specs.declared.open_block.OpenBlock.{OpenBlock}
use Rattle.markdown_builder.proofs.tree_steps.replace_last.Goals as goal

last_set : (outer : List OpenBlock) (last block : OpenBlock) (i : ℕ)
    → suc i ≡ length (outer ++ last ∷ []) → set (outer ++ last ∷ []) i block ≡ outer ++ block ∷ []
last_set [] last block zero n = refl
last_set [] last block (suc i) n = absurd (omega (arith, n))
last_set (first ∷ outer) last block zero n = let l = length-append outer (last ∷ []) in absurd (omega (arith, n, l))
last_set (first ∷ outer) last block (suc i) n = ap (λ (x : List OpenBlock). first ∷ x)
    (last_set outer last block i (omega (arith, n)))

pub returns : goal.returns
returns c = λ outer last e. rw e (last_set outer last c.args.block _ (rw (← e) (omega (arith, c.requires))))
