-- The decision at a `]` is the wikilink that was found, or what its opener comes to.
use Rattle.std.proofs.Common.{◌≡◌, ℕ, ◌++◌, Bool, List, [], Option, Some, None, refl, sym, ◌∙◌, ap, append-nil}
use Rattle.std.specs.Option.{option_and_then}
use Rattle.std.specs.Prelude.{IfSome}
use Rattle.markdown_base.specs.Arena.{sibling_of}
use Rattle.markdown_base.specs.BlockTree.{item_at}
use Rattle.markdown_base.specs.Questions.{Question, Answer}
use Rattle.markdown_base.specs.declared.item.Item.{Item}
use Rattle.markdown_base.specs.declared.node.Node.{Node}
use Rattle.markdown_document.specs.Setting.{ReferenceState, uses_of}
use Rattle.markdown_brackets.specs.BracketDecision.{BracketContext, Closing, Decision, Progress, a_wikilink}
use Rattle.markdown_brackets.specs.BracketDecision.{bracket_found, to_be}
use Rattle.markdown_brackets.specs.Decides.{Decides, StandsBefore}
use Rattle.markdown_brackets.specs.DecisionView.{knowing}
use Rattle.markdown_brackets.specs.LeftList.{Entry, Split, nearest, opens_bracket, without_bracket, bracket_taken}
use Rattle.markdown_brackets.specs.LeftList.{wikilink_taken}
use Rattle.markdown_brackets.specs.HeldOpeners.{brackets_of}
use Rattle.markdown_brackets.specs.Openers.{Waiting}
use Rattle.markdown_brackets.specs.ReadChain.{begun}
use Rattle.markdown_brackets.specs.StandsAt.{AreTaken, TriesOpener, TakesNone, TakesOne, ComesTo}
use Rattle.markdown_brackets.specs.declared.closing_bracket.ClosedBracket.{ClosedBracket}
use Rattle.markdown_brackets.specs.declared.look_up.LabelLookup.{LabelLookup}
use Rattle.markdown_brackets.specs.declared.openers.Opener.{Opener}
use Rattle.markdown_brackets.specs.declared.spent_ends.SpentEnds.{SpentEnds}
use Rattle.markdown_brackets.proofs.AheadOfBracketLemmas.{same_start, same_end}
use Rattle.markdown_brackets.proofs.BracketStandsLemmas.{found_at}
use Rattle.markdown_brackets.proofs.OpenerHeldLemmas.{SplitsAt, brackets_stay, splits_at, top_bracket, wikilinks_stay}
use Rattle.markdown_brackets.proofs.OpenerHeldLemmas.{for_bracket}
use Rattle.markdown_brackets.proofs.SplitLemmas.{opener_splits, taken_splits}
use Rattle.markdown_brackets.proofs.TakeWikilinkLemmas.{closer_found, opener_holds, rest_brackets, rest_found, rest_of}
use Rattle.markdown_brackets.proofs.TakeWikilinkLemmas.{left_of, IsNearest, TakenOff, is_nearest}

module _ {C : Type 0} (step : C → Question → Option Answer → C → Type 0) (w : BracketContext) (c : Closing ℕ)
    (left : List (Entry ℕ)) (lookup : LabelLookup C) (spent : SpentEnds)
    (taken : Option (Opener × Bool)) (old new held : List Waiting) (old_is : old ≡ brackets_of left)
    (m : TakenOff taken old new) (found : ClosedBracket) where
  pub decides_wikilink : TakesOne w c left held found
      → Decides step w c left lookup.limit lookup.limit (uses_of lookup.tables.footdefs)
      (uses_of lookup.tables.footdefs) spent spent
      lookup.callback lookup.callback new held found
  decides_wikilink t = record {
    answers = [];
    questions = [];
    asked = refl;
    becomes = a_wikilink t.opener t.wikilink t.end;
    is = t.is;
    left_then = bracket_taken (wikilink_taken left);
    splits = t.splits;
    more = [];
    decides = λ p later.
        let now : Progress ℕ = knowing lookup.limit later (uses_of lookup.tables.footdefs) p in
        t.decides now
        ∙ ap (λ (asked : List Question). to_be (a_wikilink t.opener t.wikilink t.end)
        (record now { left = bracket_taken (wikilink_taken left); asked = asked })) (sym (append-nil p.asked));
    spends = λ end. refl;
    brackets_are = left_of taken old new m
        ∙ (ap rest_of (old_is ∙ sym (brackets_stay left)) ∙ rest_brackets (wikilink_taken left));
    wikilinks_are = t.held_is;
  }

  pub decides_one : (lookup' : LabelLookup C) (spent' : SpentEnds) (t : TakesNone w c left held)
      → ComesTo step w (option_and_then (bracket_found w c) (nearest opens_bracket t.left_then)) lookup lookup' spent
      spent' found
      → Decides step w c left lookup.limit lookup'.limit (uses_of lookup.tables.footdefs)
      (uses_of lookup'.tables.footdefs) spent spent'
      lookup.callback lookup'.callback new held found
  decides_one lookup' spent' t h = record {
    answers = h.answers;
    questions = h.questions;
    asked = h.asked;
    becomes = h.becomes;
    is = h.is;
    left_then = bracket_taken t.left_then;
    splits =
        let none : ReferenceState = record { limit = 0; answers = []; uses = λ name. 0 } in
        let start : Progress ℕ = begun none in
        rw (ap (λ (d : Decision ℕ). d.becomes) (h.comes start [])) at
        (opener_splits w c (bracket_taken t.left_then) (nearest opens_bracket t.left_then)
        (knowing lookup.limit (h.answers ++ []) (uses_of lookup.tables.footdefs) start)
        (taken_splits opens_bracket without_bracket t.left_then));
    more = h.more;
    decides = λ p later.
        t.decides (knowing lookup.limit (h.answers ++ later) (uses_of lookup.tables.footdefs) p)
        ∙ h.comes (record p { left = bracket_taken t.left_then }) later;
    spends = h.spends;
    brackets_are = left_of taken old new m ∙ (ap rest_of (old_is ∙ sym t.brackets) ∙ rest_brackets t.left_then);
    wikilinks_are = t.held_is ∙ sym (wikilinks_stay t.left_then);
  }

  -- the opener that was taken off is the nearest one
  pub tries_nearest : (nodes : List (Node Item)) (closer : ℕ) (could_be : Bool) (s : StandsBefore nodes closer left c)
      → c.could_be_reference ≡ could_be
      → (t : TakesNone w c left held) → TriesOpener nodes closer could_be taken c (nearest opens_bracket t.left_then)
  tries_nearest nodes closer could_be s could t =
      let there = rest_found nodes closer left c s in
      record {
        source = s.source;
        tables = s.tables;
        rest = there.holds;
        rest_found = found_at s.source s.tables nodes (sibling_of nodes closer) c.rest there;
        ends = rw s.number at
            (same_end s.source s.tables nodes c.node (closer_found nodes closer left c s).holds.2);
        could = could;
        openers = by taken (nearest opens_bracket t.left_then)
            (is_nearest for_bracket taken old new _ _ _ m (old_is ∙ sym t.brackets) (top_bracket t.left_then))
            (splits_at opens_bracket t.left_then);
      }
    where
      by : (taken : Option (Opener × Bool)) (o : Option (Split ℕ)) → IsNearest for_bracket taken o
          → IfSome o (SplitsAt t.left_then) → AreTaken nodes taken o
      by None None k splits = tt
      by (Some k) (Some o) is splits =
          let number : k.0.node ≡ o.opener.note = ap (λ (p : Opener). p.node) is.0 in
          let here = opener_holds nodes closer left c s t.left_then t.trees o splits in
          record {
            opener = is.0;
            live = is.1;
            starts = ap (λ n. (item_at nodes n).start) number ∙ same_start s.source s.tables nodes o.opener here.2;
            ends = ap (λ n. (item_at nodes n).end) number ∙ same_end s.source s.tables nodes o.opener here.2;
          }
      by taken o is splits = absurd is
