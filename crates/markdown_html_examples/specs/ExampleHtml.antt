-- Examples: a text, and its HTML.
use Rattle.std.specs.Prelude.{◌≡◌, ℕ, List, map}
use Rattle.markdown_base.specs.Source.{source_as}
use Rattle.markdown_base.specs.Syntax.{commonmark}
use Rattle.markdown_render.specs.HtmlOfText.{html_of_text}

pub record HtmlExample : Type 0 where
  pub text : List ℕ
  pub html : List ℕ

abbrev pub with_html : List ℕ → List ℕ → HtmlExample
with_html text html = record { text = text; html = html }

-- a text with the HTML that it has
abbrev pub html_as_defined : List ℕ → HtmlExample
html_as_defined text = with_html text (html_of_text (source_as commonmark text))

-- the examples have the HTML that is written with them
abbrev pub HaveHtml : List HtmlExample → Type 0
HaveHtml examples = map (λ e. html_as_defined e.text) examples ≡ examples
