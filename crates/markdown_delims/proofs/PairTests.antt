-- What a test of two runs says of lengths and flags.
use Rattle.std.proofs.Common.{◌≡◌, ℕ, ◌%◌, Bool, true, false, refl, sym, ◌∙◌}
use Rattle.std.specs.Prelude.{not, ◌&&◌, ◌||◌, ◌==◌}
use Rattle.std.proofs.Math.Nat.{add-mod-mod, mod-mod}
use Rattle.markdown_delims.specs.declared.run.Run.{Run}
use Rattle.markdown_delims.specs.declared.run.Characters.{Characters}
use Rattle.markdown_delims.specs.MayPair.{can_do_both, lengths_agree, may_pair, needs_equal_length}
use Rattle.markdown_delims.specs.Bounds.{IsOutOfStep, IsOfBoth}

-- only the remainder of the closer's length counts
pub lengths_agree-mod : (o c : ℕ) → lengths_agree o (c % 3) ≡ lengths_agree o c
lengths_agree-mod o c = rw (add-mod-mod, mod-mod) refl

failed_by_length : (s bo bc l e : Bool) → (s && ((not bo && not bc) || l) && (not false || e)) ≡ false → s ≡ true → l
    ≡ false
failed_by_length true true true false e h p = refl
failed_by_length true true true true e h p = h
failed_by_length true true false false e h p = refl
failed_by_length true true false true e h p = h
failed_by_length true false true false e h p = refl
failed_by_length true false true true e h p = h
failed_by_length true false false false e h p = refl
failed_by_length true false false true e h p = h
failed_by_length false bo bc l e h p = cc

failed_by_flags : (s bo bc l e : Bool) → bc ≡ false → (s && ((not bo && not bc) || l) && (not false || e)) ≡ false → s
    ≡ true → bo ≡ true
failed_by_flags true true bc l e q h p = refl
failed_by_flags true false true l e q h p = cc
failed_by_flags true false false l e q h p = cc
failed_by_flags false bo bc l e q h p = cc

fails : (s bo bc l n : Bool) → (s ≡ true → l ≡ false) → (bc ≡ false → s ≡ true → bo ≡ true)
    → (s && ((not bo && not bc) || l) && n) ≡ false
fails false bo bc l n h k = refl
fails true true bc l n h k = rw (h refl) refl
fails true false true l n h k = rw (h refl) refl
fails true false false l n h k = let e : false ≡ true = k refl refl in cc

module _ (opener : Characters) (closer : Run) where
  -- a run that failed against a closer fails by its length against each closer of that remainder
  pub IsOutOfStep-failed : needs_equal_length closer.delimiter ≡ false → may_pair opener.run closer ≡ false
      → IsOutOfStep closer.delimiter (closer.length % 3) opener
  IsOutOfStep-failed n h s =
      lengths_agree-mod opener.run.length closer.length
      ∙ failed_by_length _ (can_do_both opener.run) (can_do_both closer) _ (opener.run.length == closer.length)
      (rw n at h) s

  -- one that failed against a closer that cannot open can do both
  pub IsOfBoth-failed : needs_equal_length closer.delimiter ≡ false → can_do_both closer ≡ false
      → may_pair opener.run closer ≡ false
      → IsOfBoth closer.delimiter opener
  IsOfBoth-failed n b h s =
      failed_by_flags _ (can_do_both opener.run) (can_do_both closer) (lengths_agree opener.run.length closer.length)
      (opener.run.length == closer.length)
      b (rw n at h) s

  -- one that is out of step with a closer, or can do both where the closer cannot, may not pair with it
  pub may_pair-fails : IsOutOfStep closer.delimiter (closer.length % 3) opener
      → (can_do_both closer ≡ false → IsOfBoth closer.delimiter opener)
      → may_pair opener.run closer ≡ false
  may_pair-fails l b =
      fails _ (can_do_both opener.run) (can_do_both closer) _ _
      (λ s. sym (lengths_agree-mod opener.run.length closer.length) ∙ l s) b
