-- Places between characters, as a test and as a fact.
use Rattle.std.proofs.Common.{◌≡◌, ◌<◌, ◌≤◌, ℕ, Bool, true, false, List, length, refl, arith}
use Rattle.std.specs.Prelude.{nat_lt}
use Rattle.std.specs.Str.{IsCharBoundary}
use Rattle.std.proofs.lemmas.Bool.Decides.{nat_tests}
use Rattle.std.proofs.lemmas.List.{get_or_past}
use Rattle.markdown_autolinks.specs.AddressBytes.{byte_at}
use Rattle.markdown_autolinks.specs.LinkedRuns.{is_cut_at}

-- no byte stands after the text
nothing_after : (text : List ℕ) (at : ℕ) → length text ≤ at → byte_at text at ≡ 0
nothing_after text at over = get_or_past text at 0 over

pub boundary_cut : (text : List ℕ) (at : ℕ) → IsCharBoundary text at → is_cut_at text at ≡ true
boundary_cut text at b = cases (nat_lt at (length text)) refl
  where
    cases : (t : Bool) → nat_lt at (length text) ≡ t → is_cut_at text at ≡ true
    cases true e =
        let within : at < length text = grind (arith, nat_tests) in
        let lead = b.1 within in grind (arith, nat_tests, b.0, lead)
    cases false e =
        let none = nothing_after text at (grind (arith, nat_tests)) in grind (arith, nat_tests, b.0, none)

pub cut_boundary : (text : List ℕ) (at : ℕ) → is_cut_at text at ≡ true → IsCharBoundary text at
cut_boundary text at cut = (grind (arith, nat_tests), λ within large. grind (arith, nat_tests, large))
