-- What begins at a `<`: an autolink (CommonMark 6.5), to an absolute URI or to an email address, raw HTML (6.6), or
-- nothing.
use Rattle.std.specs.Prelude.{ℕ, ◌+◌, ◌==◌, Bool, List, Option, None, if◌then◌else◌, slice_index}
use Rattle.std.specs.Option.{option_map, option_or}
use Rattle.markdown_base.specs.Bytes.{exclamation_mark, question_mark}
use Rattle.markdown_scan.specs.Autolink.{uri_autolink}
use Rattle.markdown_scan.specs.EmailAutolink.{email_autolink}
use Rattle.markdown_raw_html.specs.RawHtml.{cdata_section, comment, declaration, end_from, processing_instruction}
use Rattle.markdown_raw_html.specs.TagSource.{tag_at}
use Rattle.markdown_spans.specs.declared.after_less.AutolinkKind.{AutolinkKind}
use Rattle.markdown_spans.specs.declared.after_less.AutolinkKind.TheVariants.{Uri, Email}

-- an autolink of a kind, with the byte offset after its `>` and its URI or address; or raw HTML, with the byte offset
-- after its `>` and, if it contains line prefixes, its bytes without them
pub data Markup : Type 0 where
  autolink : AutolinkKind → ℕ → List ℕ → Markup
  html_markup : ℕ → Option (List ℕ) → Markup

-- the byte offset after a comment, a CDATA section or a declaration, from the offset after its `<!` on
abbrev pub declared_end : List ℕ → ℕ → Option ℕ
declared_end text at =
    option_or (end_from comment text at) (option_or (end_from cdata_section text at) (end_from declaration text at))

-- what was found, without line prefixes
abbrev pub unbroken : Option ℕ → Option (ℕ × Option (List ℕ))
unbroken found = option_map (λ end. (end, None)) found

-- the raw HTML whose `<` is at the byte offset `start`; `at` is the offset after the `<`
abbrev pub html_at : (skipped : List ℕ → Option ℕ) → List ℕ → (start at : ℕ) → Option (ℕ × Option (List ℕ))
html_at skipped text start at =
    if slice_index text at == exclamation_mark then unbroken (declared_end text (at + 1))
    else if slice_index text at == question_mark then unbroken (end_from processing_instruction text (at + 1))
    else tag_at skipped text start

-- the autolink to an address whose `<` is the byte before `at`, where addresses are on
abbrev pub address_at : (addresses : Bool) → List ℕ → ℕ → Option (ℕ × List ℕ)
address_at addresses text at = if addresses then email_autolink text at else None

-- what begins at the `<` at the byte offset `start`: the first that there is of an autolink to a URI, one to an address
-- where addresses are on, and raw HTML; `at` is the offset after the `<`
unfoldable pub markup_at : (skipped : List ℕ → Option ℕ) → (addresses : Bool) → List ℕ → (start at : ℕ)
    → Option Markup
markup_at skipped addresses text start at =
    option_or (option_map (λ found. autolink Uri found.0 found.1) (uri_autolink text at))
    (option_or (option_map (λ found. autolink Email found.0 found.1) (address_at addresses text at))
    (option_map (λ found. html_markup found.0 found.1) (html_at skipped text start at)))
