-- Pieces of raw HTML, from one comment to the next.
use Rattle.std.proofs.Common.{◌≡◌, ◌<◌, ◌≤◌, ◌++◌, ℕ, zero, suc, Bool, true, false, List, [], ◌∷◌, length, take, refl}
use Rattle.std.proofs.Common.{sym, ap, ◌∙◌, append-nil, arith, subst, ⊎_elim, None}
use Rattle.std.proofs.Math.ListN.{drop}
use Rattle.std.specs.Prelude.{codes, nat_eq}
use Rattle.std.specs.List.{starts_with}
use Rattle.std.specs.Bool.{MatchBool}
use Rattle.std.specs.Str.Pattern.{FindsText, HasMatch, LacksTextAt}
use Rattle.std.proofs.Math.Bool.{or-true}
use Rattle.std.proofs.lemmas.Bool.{cases_Bool, or_from, or_parts}
use Rattle.std.proofs.lemmas.Str.Pattern.{contains_text}
use Rattle.std.proofs.lemmas.Bool.Decides.{Decides-eqb}
use Rattle.std.proofs.lemmas.Slice.Eq.{starts_is}
use Rattle.markdown_safe.specs.Comments.{opens_comment, closes_comment, has_comment, has_opening, shown_html}
use Rattle.markdown_safe.specs.CommentSteps.{IsReadTo}

-- bytes in which a text does not occur at the beginning do not begin with it
lacks : (html mark : List ℕ) → LacksTextAt mark html 0 → starts_with nat_eq html mark ≡ false
lacks html mark h =
    ⊎_elim (λ e. absurd (h _ ((starts_is Decides-eqb html mark _ refl).0 e))) (λ e. e)
    (cases_Bool (starts_with nat_eq html mark))

-- in a comment that does not end, nothing is kept
pub endless : (html : List ℕ) → ((k : ℕ) → k ≤ length html → LacksTextAt (codes "-->") html k)
    → IsReadTo true html [] true []
endless [] h = record { text = refl; place = refl }
endless (b ∷ rest) h =
    let not_yet : closes_comment (b ∷ rest) ≡ false = lacks (b ∷ rest) (codes "-->") (h 0 (omega arith)) in
    let on = endless rest (λ k l. h (suc k) (omega arith)) in
    record { text = rw not_yet on.text; place = rw not_yet on.place }

-- a comment ends with the first `-->`
pub ends_at : (html rest : List ℕ) (i : ℕ) → ((k : ℕ) → k < i → LacksTextAt (codes "-->") html k)
    → drop i html ≡ codes "-->" ++ rest → IsReadTo true html [] false rest
ends_at html rest zero before at =
    subst (λ h. IsReadTo true h [] false rest) (sym at) (record { text = refl; place = refl })
ends_at [] rest (suc i) before at = absurd (cc)
ends_at (b ∷ more) rest (suc i) before at =
    let not_yet : closes_comment (b ∷ more) ≡ false = lacks (b ∷ more) (codes "-->") (before 0 (omega arith)) in
    let on = ends_at more rest i (λ k l. before (suc k) (omega arith)) at in
    record { text = rw not_yet on.text; place = rw not_yet on.place }

-- where `<!--` occurs nowhere, no comment begins
pub no_opening : (html : List ℕ) → ((k : ℕ) → k ≤ length html → LacksTextAt (codes "<!--") html k)
    → has_opening html ≡ false
no_opening [] h = refl
no_opening (b ∷ rest) h =
    or_from _ _ (lacks (b ∷ rest) (codes "<!--") (h 0 (omega arith)))
    (no_opening rest (λ k l. h (suc k) (omega arith)))

-- where it occurs, one begins
opening : (before after : List ℕ) → has_opening (before ++ (codes "<!--" ++ after)) ≡ true
opening [] after = refl
opening (b ∷ before) after = rw (opening before after) (or-true _)

-- the search for `<!--` tells whether a comment begins
pub contains_opening : (found : Bool) (html : List ℕ)
    → MatchBool found (HasMatch (FindsText (codes "<!--")) html) (FindsText (codes "<!--") html None)
    → found ≡ has_opening html
contains_opening true html h =
    let at = (contains_text true (codes "<!--") html h).0 refl in
    sym (ap has_opening at.2 ∙ opening at.0 at.1)
contains_opening false html none = sym (no_opening html none)

-- in a text in which no comment begins, all is kept
pub no_comment : (html : List ℕ) → has_opening html ≡ false → IsReadTo false html html false []
no_comment [] h = record { text = refl; place = refl }
no_comment (b ∷ rest) h =
    let none = or_parts (opens_comment (b ∷ rest)) (has_opening rest) h in
    let on = no_comment rest none.1 in
    record { text = rw none.0 (ap (λ t. b ∷ t) on.text); place = rw none.0 on.place }

-- a comment begins with the first `<!--`, and what is before it is kept
pub begins_at : (html rest : List ℕ) (i : ℕ) → ((k : ℕ) → k < i → LacksTextAt (codes "<!--") html k)
    → drop i html ≡ codes "<!--" ++ rest → IsReadTo false html (take i html) true (drop (suc i) html)
begins_at html rest zero before at =
    subst (λ h. IsReadTo false h [] true (drop 1 h)) (sym at) (record { text = refl; place = refl })
begins_at [] rest (suc i) before at = absurd (cc)
begins_at (b ∷ more) rest (suc i) before at =
    let none : opens_comment (b ∷ more) ≡ false = lacks (b ∷ more) (codes "<!--") (before 0 (omega arith)) in
    let on = begins_at more rest i (λ k l. before (suc k) (omega arith)) at in
    record { text = rw none (ap (λ t. b ∷ t) on.text); place = rw none on.place }

-- a piece with no part of a comment is shown as it is
pub unchanged : (within : Bool) (html : List ℕ) → has_comment within html ≡ false → html ≡ shown_html within html
unchanged within html none =
    let parts = or_parts within (has_opening html) none in
    rw (parts.0, parts.1) (sym ((no_comment html parts.1).text ∙ append-nil html))
