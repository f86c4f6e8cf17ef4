-- The tail of an inline link closes with a `)`, so that what is found at a `]` ends after an ASCII byte.
use Rattle.std.proofs.Common.{◌≡◌, ℕ, ◌+◌, ◌-◌, ◌<◌, ◌≤◌, Bool, true, false, ◌==◌, List, [], Option, Some, None, length}
use Rattle.std.proofs.Common.{get_or, refl, ap, ◌∙◌, subst, arith}
use Rattle.std.specs.Prelude.{IfSome, if◌then◌else◌, slice_index}
use Rattle.std.proofs.lemmas.Bool.{eqb-true}
use Rattle.markdown_brackets.specs.LinkTail.{LinkTail, after_destination, after_title, closed_at, link_tail}
use Rattle.markdown_brackets.specs.LinkTail.{past_separator}
use Rattle.markdown_brackets.proofs.TailTitleLemmas.{IsTitleAt, title_is_at}
use Rattle.markdown_document.specs.LinkTitle.{Title, title_at}
use Rattle.markdown_resolver.proofs.MarkupEndLemmas.{byte_there}

-- a tail ends after a byte, which is a `)` of the text
pub record TailCloses (text : List ℕ) (at : ℕ) (t : LinkTail) : Type 0 where
  pub after : at < t.ends
  pub within : t.ends ≤ length text
  pub closed : get_or text (t.ends - 1) 0 ≡ 41

abbrev Closes : List ℕ → ℕ → Option LinkTail → Type 0
Closes text at found = IfSome found (TailCloses text at)

closes_at : (text : List ℕ) (at i : ℕ) (written title : List ℕ) (joined : Bool) → at ≤ i
    → Closes text at (closed_at text i written title joined)
closes_at text at i written title joined le = by (slice_index text i == 41) refl
  where
    by : (closes : Bool) → (slice_index text i == 41) ≡ closes → Closes text at (if closes then Some
        (record { ends = i + 1; destination = written; title = title; is_joined = joined }) else None)
    by true e =
        let place : i + 1 - 1 ≡ i = omega arith in
        let inside = byte_there text i 40 e in
        record {
          after = omega (arith, le);
          within = omega (arith, inside);
          closed = ap (λ (n : ℕ). get_or text n 0) place ∙ eqb-true (get_or text i 0) 41 e;
        }
    by false e = tt

closes_titled : (skipped : List ℕ → Option ℕ) (text : List ℕ) (at i : ℕ) (written : List ℕ) (found : Option Title)
    → at ≤ i → IsTitleAt text i found → Closes text at (after_title skipped text i written found)
closes_titled skipped text at i written None le h = closes_at text at i written [] false le
closes_titled skipped text at i written (Some t) le h = closes_at text at (past_separator skipped text t.ends) written
    t.text t.is_joined (omega (arith, le, h.0))

closes_found : (skipped : List ℕ → Option ℕ) (starts : ℕ → Option ℕ) (text : List ℕ) (at i : ℕ)
    (found : Option (ℕ × List ℕ)) → at ≤ i → Closes text at (after_destination skipped starts text i found)
closes_found skipped starts text at i None le = tt
closes_found skipped starts text at i (Some d) le =
    let next : ℕ = past_separator skipped text (i + d.0) in
    let later : at ≤ past_separator skipped text (i + d.0) = omega (arith, le) in
    closes_titled skipped text at next d.1 (title_at starts text next) later (title_is_at starts text next)

-- so does what is at a `]`
tail_ends : (skipped : List ℕ → Option ℕ) (starts : ℕ → Option ℕ) (text : List ℕ) (at : ℕ)
    → Closes text at (link_tail skipped starts text at)
tail_ends skipped starts text at = by (slice_index text at == 40) _
  where
    by : (opens : Bool) (found : Option (ℕ × List ℕ))
        → Closes text at (if opens then after_destination skipped starts text (past_separator skipped text (at + 1))
        found else None)
    by true found = closes_found skipped starts text at (past_separator skipped text (at + 1)) found (omega arith)
    by false found = tt

pub tail_closes : (skipped : List ℕ → Option ℕ) (starts : ℕ → Option ℕ) (text : List ℕ) (at : ℕ) (t : LinkTail)
    → link_tail skipped starts text at ≡ Some t → TailCloses text at t
tail_closes skipped starts text at t e = subst (λ (found : Option LinkTail). IfSome found (TailCloses text at)) e
    (tail_ends skipped starts text at)
