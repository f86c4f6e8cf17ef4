-- What is read of a block's text, and that nothing is read past its end.
use Rattle.std.proofs.Common.{rules, ◌≡◌, ℕ, ◌<◌, ◌≤◌, Bool, List, Option, Some, None, Result, Ok, Err, length, take}
use Rattle.std.proofs.Common.{arith, ◌+◌, ◌&&◌, true, false, refl, if◌then◌else◌}
use Rattle.std.proofs.lemmas.List.{get_or-take, length-take}
use Rattle.std.specs.Prelude.{IfOk, slice_range}
use Rattle.std.specs.Str.{IsCharBoundary}
use Rattle.std.specs.Option.{option_and_then, option_map, option_or}
use Rattle.markdown_base.specs.Arena.{sibling_of}
use Rattle.markdown_base.specs.BlockTree.{item_at}
use Rattle.markdown_base.specs.declared.item.Item.{Item}
use Rattle.markdown_base.specs.declared.node.Node.{Node}
use Rattle.markdown_document.specs.declared.chain_place.ChainPlace.{ChainPlace}
use Rattle.markdown_brackets.specs.BracketDecision.{BracketContext, Written, inline_link, reference_written}
use Rattle.markdown_brackets.specs.FootnoteUse.{footnote_style}
use Rattle.markdown_brackets.specs.ChainAhead.{reaches_closer, starts_from}
use Rattle.markdown_brackets.specs.LeftList.{Split}
use Rattle.markdown_brackets.specs.LinkTail as scanned
use Rattle.markdown_brackets.specs.LinkTailView.{ReadsTail}
use Rattle.markdown_brackets.specs.Reference.{collapsed, shortcut, is_closing_bracket, is_opener, stands_at}
use Rattle.markdown_brackets.specs.WrittenView.{written_at}
use Rattle.markdown_scan.specs.declared.entity.EntityNames.{EntityNames}
use Rattle.markdown_brackets.proofs.LabelLengthLemmas.{no_label_past_block}
use Rattle.markdown_brackets.proofs.LinkTailLemmas.{tail_past_end}
use Rattle.markdown_brackets.proofs.ReferenceLemmas.{form_past}

-- where there is no tail, a reference is written
pub other_written : (names : EntityNames) (in_table : Bool) (o : Split ℕ) (other : Option (Written ℕ))
    (t : Option scanned.LinkTail) → ReadsTail names in_table t None
    → other ≡ option_or (option_map (inline_link o) t) other
other_written names in_table o other None h = refl
other_written names in_table o other (Some t) h = absurd h

pub whole_range : (text : List ℕ) (end : ℕ) → slice_range text 0 end ≡ take end text
whole_range text end = search rules

-- a boundary of a text is one of the text's beginning up to some byte after it
pub boundary_before : (text : List ℕ) (end i : ℕ) → IsCharBoundary text i → i ≤ end → IsCharBoundary (take end text) i
boundary_before text end i at before = (
  omega (arith, length-take end text, at.0, before),
  λ inside high.
      let below : i < end = omega (arith, length-take end text, inside) in
      let within : i < length text = omega (arith, length-take end text, inside) in
      let byte = get_or-take end text i 0 below in
      omega (arith, byte, at.1 within (omega (arith, byte, high))),
)

-- what follows of a result that is no error
pub ok_map : {X E : Type 0} (r : Result X E) (P G : X → Type 0) → IfOk r P → ((x : X) → P x → G x) → IfOk r G
ok_map (Ok x) P G h f = f x h
ok_map (Err e) P G h f = tt

-- if the bytes from the opener to the `]` are no label, the `]` is not a collapsed or shortcut reference
no_reference : (w : BracketContext) (o : Split ℕ) (could_be : Bool) (end : ℕ) (closes : ℕ → Bool) (empty : Bool)
    → reference_written w o end closes (if could_be then None else None) (if empty then collapsed else shortcut) ≡ None
no_reference w o true end closes true = refl
no_reference w o false end closes true = refl
no_reference w o true end closes false = refl
no_reference w o false end closes false = refl

-- past the block's end nothing is written
pub nothing_past_block : (nodes : List (Node Item)) (place : ChainPlace) (skipped : List ℕ → Option ℕ) (closer : ℕ)
    (w : BracketContext) (o : Split ℕ) (could_be : Bool) (start : ℕ) → place.block_end < (item_at nodes closer).end
    → written_at nodes place skipped closer w o could_be start ≡ None
nothing_past_block nodes place skipped closer w o could_be start past =
    let end = (item_at nodes closer).end in
    let text : List ℕ = take place.block_end place.text.now in
    let next = sibling_of nodes closer in
    let within : length text ≤ end = omega (arith, past, length-take place.block_end place.text.now) in
    let after : Option Item = option_map (item_at nodes) next in
    let second : Option Item = option_map (item_at nodes) (option_and_then (sibling_of nodes) next) in
    rw (
      tail_past_end skipped (starts_from nodes next) text end within,
      no_label_past_block place.in_table (footnote_style place.syntax) skipped place.text.now place.block_end start end
          past,
      form_past (footnote_style place.syntax) skipped place.in_table text end after second within,
    ) (no_reference w o could_be end (λ i. reaches_closer nodes i next)
    (stands_at end is_opener after && stands_at (end + 1) is_closing_bracket second))
