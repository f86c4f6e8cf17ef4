-- The main theorem's statement: what rendering a text gives.
use Rattle.std.specs.Prelude.{◌≡◌, ◌⊎◌, ℕ, List, Result, IfOk, IfErr, String, string_bytes}
use Rattle.std.specs.declared.alloc.Global.{Global}
use Rattle.markdown_base.specs.Source.{Source}
use Rattle.markdown_base.specs.declared.fault.Fault.{Fault}
use Rattle.markdown_base.specs.declared.fault.Fault.TheVariants.{Memory, Depth}
use Rattle.markdown_render.specs.HtmlOfText.{IsTextTooDeep, html_of_text}
use Rattle.markdown_safe.specs.PlacedTree.{IsPlacedTree}
use Rattle.markdown_safe.specs.SafeHtml.{IsSafeHtml}
use Rattle.markdown_safe.specs.SafeRendering.{IsSafeTextTooDeep, safe_html_of_text}
use Rattle.markdown_safe.specs.SafeRules.{default_rules}

-- The HTML is the one that is defined of the text. There is none only where an allocation failed, or where more Starts
-- are open in an image than can be counted.
pub record Correct (s : Source) (rendered : Result (String Global) Fault) : Type 0 where
  pub html : IfOk rendered (λ html. string_bytes html ≡ html_of_text s)
  pub faults : IfErr rendered (λ fault. (fault ≡ Memory) ⊎ ((fault ≡ Depth) × IsTextTooDeep s))

-- the same of safe HTML, by the rules of a caller who chooses nothing; it is also safe, and a tree whose elements stand
-- where a browser leaves them
pub record CorrectAndSafe (s : Source) (rendered : Result (String Global) Fault) : Type 0 where
  pub html : IfOk rendered (λ html. string_bytes html ≡ safe_html_of_text default_rules s)
  pub safe : IfOk rendered (λ html. IsSafeHtml (string_bytes html))
  pub placed : IfOk rendered (λ html. IsPlacedTree (string_bytes html))
  pub faults : IfErr rendered (λ fault. (fault ≡ Memory) ⊎ ((fault ≡ Depth) × IsSafeTextTooDeep default_rules s))
