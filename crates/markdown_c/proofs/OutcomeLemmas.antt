-- What the library returns for a text, as the outcome of its bytes.
use Rattle.std.proofs.Common.{◌≡◌, ◌⊎◌, ◌≤◌, ◌<◌, ℕ, true, List, Result, Ok, Err, MatchResult, inl, inr}
use Rattle.std.proofs.Common.{length, subst, sym}
use Rattle.std.specs.Str.{IsUtf8}
use Rattle.markdown_additions.specs.Additions.{AdditionsView}
use Rattle.markdown_additions.specs.Written.{FormView, IsFaultOfWritingText}
use Rattle.markdown_base.specs.Source.{Source, source_as}
use Rattle.markdown_base.specs.declared.fault.Fault.{Fault}
use Rattle.markdown_base.specs.declared.fault.Fault.TheVariants as fault
use Rattle.markdown_base.specs.declared.syntax.Syntax.{Syntax}
use Rattle.markdown_safe.specs.SafeRules.{SafeRulesView}
use Rattle.markdown_c.specs.CallsFromC.{IsChosenOutcome, IsOutcome, SafeChoiceView, are_choices, are_known}
use Rattle.markdown_c.specs.CallsFromC.{refusal_of, rules_chosen, syntax_by_bits}
use Rattle.markdown_c.specs.SafeChoice.{IsNoChoice}
use Rattle.markdown_c.specs.declared.readings.Refusal.{Refusal}
use Rattle.markdown_c.specs.declared.readings.Refusal.TheVariants.{NotUtf8, Memory, Depth, UnknownOption}
use Rattle.markdown_c.specs.declared.readings.Refusal.TheVariants.{NotRecords, OverLimit, TooLong}

-- what was read as the bits ask
module _ (IsOf : Source → List ℕ → Type 0) (IsDeep : Source → Type 0) (text bytes : List ℕ) (syntax : Syntax)
    (bits : ℕ) (set : (syntax ≡ syntax_by_bits bits) × (are_known bits ≡ true))
    (same : (text ≡ bytes) × IsUtf8 bytes) where
  pub written_of : (written : List ℕ) → IsOf (source_as syntax text) written
      → IsOutcome IsOf IsDeep bits bytes (Ok written)
  written_of written is = (set.1, same.1, rw (same.0, set.0) at is)

  -- the errors are Memory, and Depth where the text is too deep
  pub refused_of : (f : Fault) → (f ≡ fault.Memory) ⊎ ((f ≡ fault.Depth) × IsDeep (source_as syntax text))
      → IsOutcome IsOf IsDeep bits bytes (Err (refusal_of f))
  refused_of f (inl e) = rw e tt
  refused_of f (inr (e, deep)) = rw e (rw (same.0, set.0) at deep)

-- what is added has another name
pub faults_as_asked : (form : FormView) (s : Source) {a b : AdditionsView} (f : Fault) → a ≡ b
    → IsFaultOfWritingText form a s f → IsFaultOfWritingText form b s f
faults_as_asked form s f is why = subst (λ v. IsFaultOfWritingText form v s f) is why

-- the outcome of a call that chooses
module _ (IsBy : SafeRulesView → Result (List ℕ) Refusal → Type 0) (c : SafeChoiceView) (rules : SafeRulesView)
    (by : rules ≡ rules_chosen c) where
  -- the choice means nothing
  pub no_choice : (refusal : Refusal) → IsNoChoice c refusal → IsChosenOutcome IsBy c (Err refusal)
  no_choice UnknownOption why = inl why
  no_choice NotUtf8 why = inl why
  no_choice Memory why = absurd why
  no_choice Depth why = absurd why
  no_choice NotRecords why = absurd why
  no_choice TooLong why = absurd why
  no_choice OverLimit why = absurd why

  -- there is nothing by the rules, which have no limit
  pub none_by_rules : (refusal : Refusal) → (IsBy rules (Err OverLimit) → ⊥) → IsBy rules (Err refusal)
      → IsChosenOutcome IsBy c (Err refusal)
  none_by_rules UnknownOption unlimited why = inr (rw by at why)
  none_by_rules NotUtf8 unlimited why = inr (rw by at why)
  none_by_rules Memory unlimited why = tt
  none_by_rules Depth unlimited why = rw by at why
  none_by_rules NotRecords unlimited why = rw by at why
  none_by_rules TooLong unlimited why = rw by at why
  none_by_rules OverLimit unlimited why = absurd (unlimited why)

  -- there is, within the limit or not
  pub by_limit : (html : List ℕ) (result : Result (List ℕ) Refusal) → (are_choices c.bits ≡ true) × IsUtf8 c.prefix
      → IsBy rules (Ok html)
      → MatchResult result (λ kept. (kept ≡ html) × (length html ≤ c.limit))
      (λ refusal. (refusal ≡ OverLimit) × (c.limit < length html))
      → IsChosenOutcome IsBy c result
  by_limit html (Ok kept) known is fits = (known.0, known.1, rw (sym fits.0, by) at is, rw fits.0 fits.1)
  by_limit html (Err refusal) known is over = rw over.0 (html, rw by at is, over.1)
