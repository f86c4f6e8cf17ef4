-- Where the innermost open block is no row, there is nothing to count when it is closed.
use Rattle.std.proofs.Common.{◌≡◌, suc, ◌-◌, List, [], ◌∷◌, ◌++◌, Some, false, length, refl, sym, ◌∙◌, arith}
use Rattle.std.proofs.lemmas.List.{append_assoc}
use Rattle.markdown_builder.specs.declared.open_block.OpenBlock.{OpenBlock}
use Rattle.markdown_builder.specs.BuilderView.{BuilderView, innermost_block}
use Rattle.markdown_builder.specs.EvenRows.{InnermostRowIsEven, is_in_row}

-- the last of some blocks is the innermost
pub innermost_of : (outer : List OpenBlock) (block : OpenBlock) → innermost_block (outer ++ block ∷ []) ≡ Some block
innermost_of [] block = refl
innermost_of (b ∷ []) block = refl
innermost_of (b ∷ c ∷ outer) block =
    let next : length (b ∷ c ∷ outer ++ block ∷ []) - 1 ≡ suc (length (c ∷ outer ++ block ∷ []) - 1) = omega arith in
    cc (next, innermost_of (c ∷ outer) block)

pub no_row_inside : (view : BuilderView) → is_in_row view.blocks ≡ false → InnermostRowIsEven view
no_row_inside view h outer table row levels cells e l t r = let whole : view.blocks ≡
    (outer ++ table ∷ []) ++ row ∷ [] = e ∙ sym (append_assoc outer (table ∷ []) (row ∷ [])) in
    search (arith, innermost_of, row.body)
