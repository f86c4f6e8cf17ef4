-- What a `MarkupFound` represents.
use Rattle.std.specs.Prelude.{ℕ, Bool, true, false, Option, Some, None, string_bytes}
use Rattle.markdown_spans.specs.AfterLess.{Markup, autolink, html_markup}
use Rattle.markdown_spans.specs.declared.after_less.MarkupFound.{MarkupFound}
use Rattle.markdown_spans.specs.declared.after_less.MarkupFound.TheVariants.{Autolink, Html, OwnedHtml}

-- the markup, as `AfterLess` defines it
abbrev pub markup_of : MarkupFound → Markup
markup_of (Autolink found) = autolink found.kind found.end found.destination.now
markup_of (Html end) = html_markup end None
markup_of (OwnedHtml end text) = html_markup end (Some (string_bytes text))

-- the byte offset after the markup
abbrev pub markup_end : MarkupFound → ℕ
markup_end (Autolink found) = found.end
markup_end (Html end) = end
markup_end (OwnedHtml end text) = end

-- what was found contains no line prefix
abbrev pub is_unbroken : Option Markup → Bool
is_unbroken (Some (html_markup end (Some bytes))) = false
is_unbroken found = true
