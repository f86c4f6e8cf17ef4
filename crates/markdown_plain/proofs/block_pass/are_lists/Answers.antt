-- The blocks that were looked at are the outermost.
use Rattle.std.proofs.Common.{◌≡◌, ◌∷◌, [], Bool, Bor, ℕ, false, length, take, refl, sym, ap, ◌∙◌}
use Rattle.markdown_plain.proofs.Names.{list_all, ItemBody, OpenBlock}
use Rattle.std.proofs.lemmas.Iterator.{YieldsList-from_slice, YieldsList-from_take}
use Rattle.std.proofs.lemmas.Iterator.Consumers.{YieldsList-end, YieldsList-turn}
use Rattle.std.proofs.lemmas.List.Folds.{list_all-append, list_all-map, list_all_at}
use Rattle.markdown_plain.specs.OpenBlocks.{is_list}
use Rattle.markdown_base.specs.declared.item.ItemBody.TheVariants as body
use Rattle.markdown_plain.proofs.block_pass.are_lists.Goals as goal

pub returns : goal.returns
returns c =
    let all = YieldsList-end (YieldsList-from_take c.args.depth (YieldsList-from_slice c.args.blocks.now (cc)) (cc))
    c.loop-block.yielded _ c.loop-block.yielded_by _ _ c.in-None.is c.next.ensures.steps in
    sym c.loop-block.invariant
    ∙ (sym (list_all-map (λ block. is_list block.body) (λ block. block.now) c.loop-block.yielded)
    ∙ ap (list_all (λ block. is_list block.body)) all.0)

pub loop-block-preserved : goal.loop-block-preserved
loop-block-preserved c =
    let is = λ (block : Bor OpenBlock). is_list block.now.body in
    let all = list_all-append is c.loop-block.yielded (c.in-Some.block ∷ []) in
    rw (all, c.loop-block.invariant, c.in-List.is) refl

no_list : (b : ItemBody) → ((tight : Bool) (character first : ℕ) → b ≡ body.List tight character first → ⊥)
    → is_list b ≡ false
no_list (body.List tight character first) other = absurd (other tight character first refl)
no_list b other = refl

-- the block that is no list is one of them
pub returns-in_default : goal.returns-in_default
returns-in_default c =
    let block = c.in-Some.block.now in let blocks = c.args.blocks.now in
    let turn = YieldsList-turn (YieldsList-from_take c.args.depth (YieldsList-from_slice blocks (cc)) (cc))
    c.loop-block.yielded _ c.loop-block.yielded_by _ _ _ c.in-Some.is c.next.ensures.steps in
    sym (list_all_at (λ (b : OpenBlock). is_list b.body) (take c.args.depth blocks) (length c.loop-block.yielded) block
    turn.0 (ap (λ (b : OpenBlock). is_list b.body) (sym turn.1) ∙ no_list block.body c.in_default.not-List))
