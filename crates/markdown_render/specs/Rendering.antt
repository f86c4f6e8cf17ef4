-- What rendering a text without a callback gives.
use Rattle.std.specs.Prelude.{◌≡◌, ◌⊎◌, ℕ, List, Result, IfOk, IfErr, String, string_bytes}
use Rattle.std.specs.declared.alloc.Global.{Global}
use Rattle.markdown_base.specs.Source.{Source}
use Rattle.markdown_base.specs.declared.fault.Fault.{Fault}
use Rattle.markdown_base.specs.declared.fault.Fault.TheVariants.{Memory, Depth}

-- What is rendered is what is defined of the text. There is nothing only where an allocation failed, or where the text
-- is too deep.
pub record Renders (of_text : Source → List ℕ) (IsDeep : Source → Type 0) (s : Source)
    (rendered : Result (String Global) Fault) : Type 0 where
  pub output : IfOk rendered (λ output. string_bytes output ≡ of_text s)
  pub faults : IfErr rendered (λ fault. (fault ≡ Memory) ⊎ ((fault ≡ Depth) × IsDeep s))
