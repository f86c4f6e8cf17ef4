-- What a caller chooses of safe HTML.
use Rattle.std.specs.Prelude.{ℕ, Bool, true, List, []}
use Rattle.markdown_out.specs.declared.html.rules.HtmlRules.{HtmlRules}
use Rattle.markdown_safe.specs.declared.rules.Images.{Images}
use Rattle.markdown_safe.specs.declared.rules.Images.TheVariants as images
use Rattle.markdown_safe.specs.declared.rules.SafeRules.{SafeRules}

-- the rules
pub record SafeRulesView : Type 0 where
  -- what follows `user-content-` in the ids of the text
  pub prefix : List ℕ
  -- what becomes of an image
  pub images : Images
  -- whether a link that leads to another site says so, by its `rel`
  pub rel : Bool
  -- how many tags may stand in one another
  pub nesting : ℕ

-- the rules that a struct has
abbrev pub rules_view : SafeRules → SafeRulesView
rules_view r = record { prefix = r.prefix.now; images = r.images; rel = r.rel; nesting = r.nesting }

-- those of a caller who chooses nothing
abbrev pub default_rules : SafeRulesView
default_rules = record { prefix = []; images = images.Shown; rel = true; nesting = 128 }

-- the rules by which the HTML of safe events is written
abbrev pub html_rules : SafeRulesView → HtmlRules
html_rules r = record { align = true; rel = r.rel }
