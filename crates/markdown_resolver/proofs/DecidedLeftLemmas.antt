-- What is decided at a `]` leaves a left list from which openers that were tried were taken off: a property of a left
-- list that stays true where an opener is taken off is true of what is left.
use Rattle.std.proofs.Common.{◌≡◌, ℕ, List, Option, Some, None, refl, sym, subst}
use Rattle.markdown_base.specs.declared.item.Item.{Item}
use Rattle.markdown_base.specs.declared.node.Node.{Node}
use Rattle.markdown_brackets.specs.BracketDecision.{BracketContext, Becomes, Closing, Decision, Written, Progress}
use Rattle.markdown_brackets.specs.BracketDecision.{carried_out, decided, found, inline_link, left_for_one, second_end}
use Rattle.markdown_brackets.specs.LeftList.{Entry, bracket_taken, opens_bracket, opens_wikilink, without_bracket}
use Rattle.markdown_brackets.specs.LeftList.{without_wikilink}
use Rattle.markdown_brackets.proofs.ClosingBracketLemmas.{Stays, all_stays}
use Rattle.markdown_document.specs.Tables.{Tables}
use Rattle.markdown_resolver.specs.ReadOn.{StandsTo}
use Rattle.markdown_resolver.proofs.StandsToLemmas.{taken_stands}

-- what is carried out leaves the left list
carried_left : {A : Type 0} (w : BracketContext) (x : Option (Written A)) (q : Progress A) →
    (carried_out w x q).progress.left
    ≡ q.left
carried_left w None q = refl
carried_left w (Some (inline_link o t)) q = refl
carried_left w (Some other) q = refl

pub decided_left : {A : Type 0} (w : BracketContext) (c : Closing A) (p : List (Entry A) → Type 0) → Stays p →
    (q : Progress A) → p q.left → p (decided w c q).progress.left
unfolding decided
decided_left w c p stays q h =
    let second = second_end w c.rest in
    subst p (sym (carried_left w (found w c second q.left)
    (record q { left = bracket_taken (left_for_one second q.left) }))) (all_stays w c p stays second q.left h)

-- so the left list is still where it was
pub decided_stands : (source : List ℕ) (tables : Tables) (nodes : List (Node Item)) (first : ℕ) (at : Option ℕ)
    (left left_then : List (Entry ℕ)) (w : BracketContext) (c : Closing ℕ) (becomes : Becomes ℕ)
    (p q : Progress ℕ) → p.left ≡ left → q.left ≡ left_then → decided w c p ≡ record { becomes = becomes; progress = q }
    → StandsTo source tables nodes first at left → StandsTo source tables nodes first at left_then
decided_stands source tables nodes first at left left_then w c becomes p q is is_then decides h =
    let stands = StandsTo source tables nodes first at in
    let stays : Stays stands = record {
      bracket = λ l k. taken_stands source tables nodes first at l k opens_bracket without_bracket;
      wikilink = λ l k. taken_stands source tables nodes first at l k opens_wikilink without_wikilink;
    } in
    subst stands is_then (subst (λ (d : Decision ℕ). stands d.progress.left) decides
    (decided_left w c stands stays p (subst stands (sym is) h)))
