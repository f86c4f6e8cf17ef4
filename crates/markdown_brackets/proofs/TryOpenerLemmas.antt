-- What is read in an arena at an opener and its `]` is what the definition reads from their nodes, and the result is
-- the same.
use Rattle.std.proofs.Common.{◌≡◌, ℕ, ◌-◌, ◌<◌, Bool, true, false, List, Option, Some, None, refl, sym, ◌∙◌, ap, take}
use Rattle.std.proofs.Math.Path.{fun_ext}
use Rattle.std.specs.Option.{option_and_then, option_map, option_or}
use Rattle.std.specs.Prelude.{if◌then◌else◌}
use Rattle.markdown_base.specs.Forest.{first_root}
use Rattle.markdown_base.specs.Arena.{sibling_of}
use Rattle.markdown_base.specs.BlockTree.{item_at}
use Rattle.markdown_base.specs.Questions.{Question, Answer}
use Rattle.markdown_base.specs.declared.item.Item.{Item}
use Rattle.markdown_base.specs.declared.item.ItemBody.{ItemBody}
use Rattle.markdown_base.specs.declared.node.Node.{Node}
use Rattle.markdown_document.specs.ChainRest.{as_item, end_of, start_of}
use Rattle.markdown_document.specs.declared.chain_place.ChainPlace.{ChainPlace}
use Rattle.markdown_brackets.specs.BracketDecision.{BracketContext, Closing, bracket_found, closer_ends_at, inline_link}
use Rattle.markdown_brackets.specs.BracketDecision.{lines, past_second, reference_written, start_of_first_past, written}
use Rattle.markdown_brackets.specs.FootnoteUse.{footnote_style}
use Rattle.markdown_brackets.specs.ChainAhead.{reaches_closer, starts_from}
use Rattle.markdown_brackets.specs.DecisionView.{opener_of}
use Rattle.markdown_brackets.specs.LeftList.{Split, is_live}
use Rattle.markdown_brackets.specs.LinkTail.{link_tail}
use Rattle.markdown_brackets.specs.Reference.{Form, FoundLabel, reference, collapsed, shortcut, form_at, own_label}
use Rattle.markdown_brackets.specs.StandsAt.{TriesOpener, ComesTo, bracket_context_by}
use Rattle.markdown_brackets.specs.WrittenView.{form_ahead, written_at}
use Rattle.markdown_brackets.specs.declared.closing_bracket.ClosedBracket.{ClosedBracket}
use Rattle.markdown_brackets.specs.declared.closing_bracket.ClosedBracket.TheVariants.{Text}
use Rattle.markdown_brackets.specs.declared.look_up.LabelLookup.{LabelLookup}
use Rattle.markdown_brackets.specs.declared.openers.Opener.{Opener}
use Rattle.markdown_brackets.specs.declared.spent_ends.SpentEnds.{SpentEnds}
use Rattle.markdown_brackets.proofs.AheadOfBracketLemmas.{EndsAfter, closers_ahead, form_ahead_is, form_after}
use Rattle.markdown_brackets.proofs.AheadOfBracketLemmas.{starts_ahead}
use Rattle.markdown_brackets.proofs.ComesToLemmas.{comes_to_text, found_as}

-- a reference by two tests that agree past byte 0
reference_same : (w : BracketContext) (o : Split ℕ) (end : ℕ) (closes closes' : ℕ → Bool) (own : Option FoundLabel)
    (form : Form) → EndsAfter 0 form → ((i : ℕ) → 0 < i → closes i ≡ closes' i)
    → reference_written w o end closes own form ≡ reference_written w o end closes' own form
reference_same w o end closes closes' own (reference label to) after same = rw (same to after) refl
reference_same w o end closes closes' own collapsed after same = refl
reference_same w o end closes closes' own shortcut after same = refl

module _ {C : Type 0} (step : C → Question → Option Answer → C → Type 0) (nodes : List (Node Item)) (place : ChainPlace)
    (skipped : List ℕ → ℕ) (bodies : List ItemBody) (old new : LabelLookup C) (closer : ℕ) (could_be : Bool)
    (c : Closing ℕ) where
  abbrev w : BracketContext
  w = bracket_context_by place skipped bodies old

  -- what is written there
  pub written_is : (taken : Option (Opener × Bool)) (all : Option (Split ℕ)) (o : Split ℕ) (start : ℕ)
      → TriesOpener nodes closer could_be taken c all → 0 < (item_at nodes closer).end
      → start ≡ end_of o.opener - 1 → written_at nodes place (lines w) closer w o could_be start ≡ written w c o
  written_is taken all o start t some e =
      let next = sibling_of nodes closer in
      let text = take place.block_end place.text.now in
      let end = (item_at nodes closer).end in
      let form : Form = form_ahead nodes place (lines w) closer in
      let form_is : form ≡ form_at (footnote_style place.syntax) (lines w) place.in_table text end
      (option_map as_item (first_root c.rest)) (option_map as_item (first_root (past_second c.rest))) =
      form_ahead_is t.source t.tables nodes (footnote_style place.syntax) (lines w) place.in_table text end next c.rest
      t.rest in
      let after : EndsAfter 0 form = form_after (footnote_style place.syntax) (lines w) place.in_table text end
      (option_map (item_at nodes) next)
      (option_map (item_at nodes) (option_and_then (sibling_of nodes) next)) some in
      let starts : starts_from nodes next
      ≡ start_of_first_past c.rest = fun_ext (starts_ahead t.source t.tables nodes next c.rest t.rest
      t.rest_found) in
      let own : Option FoundLabel = if could_be
      then own_label (footnote_style place.syntax) (lines w) place.in_table text start end else None in
      ap (λ other. option_or (option_map (inline_link o) (link_tail (lines w) (starts_from nodes next) text end)) other)
      (reference_same w o end (λ i. reaches_closer nodes i next) (λ i. closer_ends_at i c.rest) own form after
      (closers_ahead t.source t.tables nodes next c.rest t.rest t.rest_found))
      ∙ rw (form_is, starts, t.ends, e, ← t.could) refl

  -- the opener is live
  pub comes_by_live : (opener : Opener) (live : Bool) (o : Option (Split ℕ)) (spent spent' : SpentEnds)
      (found : ClosedBracket)
      → live ≡ true → 0 < (item_at nodes closer).end → (rule : List ℕ → Option ℕ) → rule ≡ lines w
      → ((o : Split ℕ) → opener ≡ opener_of o → (item_at nodes opener.node).start ≡ start_of o.opener
      → ComesTo step w (written_at nodes place rule closer w o could_be ((item_at nodes opener.node).end - 1)) old new
      spent spent' found)
      → TriesOpener nodes closer could_be (Some (opener, live)) c o
      → ComesTo step w (option_and_then (bracket_found w c) o) old new spent spent' found
  comes_by_live opener live None spent spent' found e some rule goes comes t = absurd t.openers
  comes_by_live opener live (Some o) spent spent' found e some rule goes comes t =
      let is : is_live o.state.bracket ≡ true = sym t.openers.live ∙ e in
      found_as (rw (goes, is) (written_is (Some (opener, live)) (Some o) o ((item_at nodes opener.node).end - 1) t some
      (ap (λ n. n - 1) t.openers.ends))) (comes o t.openers.opener t.openers.starts)

  -- there is none, or it is not live
  pub comes_by_none : (o : Option (Split ℕ)) (spent : SpentEnds) → TriesOpener nodes closer could_be None c o
      → ComesTo step w (option_and_then (bracket_found w c) o) old old spent spent Text
  comes_by_none None spent t = comes_to_text step w old spent
  comes_by_none (Some o) spent t = absurd t.openers

  pub comes_by_dead : (opener : Opener) (live : Bool) (o : Option (Split ℕ)) (spent : SpentEnds) → live ≡ false
      → TriesOpener nodes closer could_be (Some (opener, live)) c o
      → ComesTo step w (option_and_then (bracket_found w c) o) old old spent spent Text
  comes_by_dead opener live None spent e t = absurd t.openers
  comes_by_dead opener live (Some o) spent e t =
      let dead : is_live o.state.bracket ≡ false = sym t.openers.live ∙ e in
      found_as (rw dead refl) (comes_to_text step w old spent)
