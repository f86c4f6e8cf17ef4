-- A left list whose nearest opener was taken off is split at that opener, and so is what a `]` becomes by it.
use Rattle.std.proofs.Common.{ℕ, Bool, List, [], Option, Some, None, refl}
use Rattle.std.specs.Prelude.{IfSome, unwrap_or}
use Rattle.std.specs.Option.{option_and_then, option_map}
use Rattle.markdown_base.specs.Event.{LinkView}
use Rattle.markdown_brackets.specs.BracketDecision.{BracketContext, Closing, Written, LinkReference, Progress, a_link}
use Rattle.markdown_brackets.specs.BracketDecision.{a_text, bracket_found, carried_out, question_at}
use Rattle.markdown_brackets.specs.Finish.{IsSplit, SplitsAs}
use Rattle.markdown_brackets.specs.LeftList.{Entry, OpenerState, Split, change_nearest, nearest}
use Rattle.markdown_brackets.specs.Lookup.{look_up}
use Rattle.markdown_brackets.proofs.ClosingBracketLemmas.{bracket_cases, either}
use Rattle.markdown_brackets.proofs.LeftListLemmas.{IsSplitBy, split_nearest}

-- the nearest opener that passes a test, changed in place
pub taken_splits : (test : OpenerState → Bool) (f : OpenerState → OpenerState) (left : List (Entry ℕ))
    → IfSome (nearest test left) (IsSplit (change_nearest test f left))
taken_splits test f left = by (nearest test left) (split_nearest test f left)
  where
    by : (o : Option (Split ℕ)) → IfSome o (IsSplitBy f left (change_nearest test f left))
        → IfSome o (IsSplit (change_nearest test f left))
    by None h = tt
    by (Some o) h = record
        { after_then = o.after; mark_then = f o.state; left_is = h.changed; same_trees = λ later. refl }

-- what a `]` becomes by an opener splits the left list there
pub opener_splits : (w : BracketContext) (c : Closing ℕ) (left : List (Entry ℕ)) (o : Option (Split ℕ)) (p : Progress ℕ)
    → IfSome o (IsSplit left)
    → SplitsAs left (carried_out w (option_and_then (bracket_found w c) o) p).becomes
opener_splits w c left None p h = tt
opener_splits w c left (Some o) p h =
    let Splits : Option (Written ℕ) → Type 0 = λ x. SplitsAs left (carried_out w x p).becomes in
    let rules = w.setting.rules in
    either Splits (bracket_found w c o) tt (bracket_cases w c o (λ x. Splits (Some x)) (λ live. record {
      inline = λ t is. h;
      refers = λ r way. target r
          (look_up rules.definitions rules.asks p.state.limit p.state.answers (question_at o r)).target;
      footnote = λ name. h;
    }))
  where
    target : (r : LinkReference) (t : Option LinkView)
        → SplitsAs left (unwrap_or (option_map (λ t. a_link o t [] r.end r.next) t) a_text)
    target r None = tt
    target r (Some t) = h
