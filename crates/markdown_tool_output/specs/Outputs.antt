-- What is written for files, by format, and for a request.
use Rattle.std.specs.Prelude.{◌≡◌, ℕ, suc, Bool, not, ◌&&◌, if◌then◌else◌, List, [], ◌∷◌, ◌++◌, length}
use Rattle.std.specs.Prelude.{◌⊎◌, ◌==◌, Option, Some, None, bytes_eq, is_some}
use Rattle.std.specs.Prelude.{option_map, codes, decimal, map, nat_lt, slice_get, string_bytes, unwrap_or}
use denote.Ref.{Bor}
use Rattle.markdown_additions.specs.Additions.{AdditionsView, IdsView, added_events, adds_ids}
use Rattle.markdown_additions.specs.Additions.{adds_no_ids, adds_prefixed_ids}
use Rattle.markdown_additions.specs.Written.{FormView, IsFaultOfWritingText, as_html, as_lines, as_safe_html}
use Rattle.markdown_additions.specs.Written.{headings_of_text, links_with_additions, written_of_text}
use Rattle.markdown_base.specs.Source.{Source, source_as}
use Rattle.markdown_base.specs.Syntax.{full_syntax}
use Rattle.markdown_base.specs.declared.fault.Fault.{Fault}
use Rattle.markdown_base.specs.declared.fault.Fault.TheVariants as fault_kind
use Rattle.markdown_contents.specs.Contents.{contents_in_file}
use Rattle.markdown_json.specs.Json.{string}
use Rattle.markdown_contents.specs.HtmlList.{html_list_of}
use Rattle.markdown_lint_json.specs.BrokenJson.{broken_lines, broken_of_text, placed_broken_lines}
use Rattle.markdown_lint_json.specs.LinkJson.{link_lines, placed_link_lines}
use Rattle.markdown_lint_json.specs.PlacedEvents.{placed_event_lines}
use Rattle.markdown_lint_json.specs.PlacedOutline.{placed_outline_lines}
use Rattle.markdown_outline.specs.Outline.{EntryView}
use Rattle.markdown_page.specs.FileTitle.{file_title}
use Rattle.markdown_page.specs.MetadataTitle.{shown_title}
use Rattle.markdown_page.specs.PageHtml.{page_html, style_of}
use Rattle.markdown_safe.specs.SafeRules.{SafeRulesView}
use Rattle.markdown_text_json.specs.OutlineJson.{outline_lines, outline_lines_with_ids}
use Rattle.markdown_tool_command.specs.Requests.{PageView, page_view, request_rules, standard}
use Rattle.markdown_tool_command.specs.declared.choices.Format.{Format}
use Rattle.markdown_tool_command.specs.declared.choices.Format.TheVariants as format
use Rattle.markdown_tool_command.specs.declared.extensions.Enabled.{Enabled}
use Rattle.markdown_tool_command.specs.declared.request.Request.{Request}
use Rattle.markdown_tool_output.specs.FileText.{without_mark}
use Rattle.markdown_tool_output.specs.Metadata.{title_in_metadata}

-- one of the files that are read: its name, its number from 1, whether there are several, and its text
pub record FileView : Type 0 where
  pub name : List ℕ
  pub number : ℕ
  pub several : Bool
  pub text : List ℕ

-- what is asked for of each file: a format, whether its lines have places, what is enabled, and by which rules HTML is
-- made safe
pub record AskedView : Type 0 where
  pub format : Format
  pub positions : Bool
  pub enabled : Enabled
  pub rules : SafeRulesView

-- what a request asks for of each file
abbrev pub asked_of : Request → AskedView
asked_of r = record {
  format = r.format;
  positions = r.positions;
  enabled = r.enabled;
  rules = request_rules r.rules;
}

-- what begins all ids of one of several files, of which none begins with that of another
abbrev pub file_prefix : ℕ → List ℕ
file_prefix number = codes "f" ++ decimal number ++ codes "-"

-- the ids that are added to the events of a file that becomes lines
abbrev pub line_ids : Enabled → IdsView
line_ids e = if e.heading_ids then adds_ids else adds_no_ids

-- and to those of a file that becomes HTML: those of several files begin with the number of theirs
abbrev pub html_ids : Enabled → FileView → IdsView
html_ids e f = if e.heading_ids && f.several then adds_prefixed_ids (file_prefix f.number) else line_ids e

-- what is added to the events of a file that becomes HTML
abbrev pub html_additions : Enabled → FileView → AdditionsView
html_additions e f = record { autolinks = e.autolinks; ids = html_ids e f }

-- and to those of a file that becomes lines
abbrev pub line_additions : Enabled → AdditionsView
line_additions e = record { autolinks = e.autolinks; ids = line_ids e }

-- and to those of a file whose headings are listed with links to them
abbrev pub contents_additions : Enabled → AdditionsView
contents_additions e = record { autolinks = e.autolinks; ids = adds_ids }

-- the source that a file's text is: without a byte order mark
abbrev pub file_source : Enabled → FileView → Source
file_source e f = source_as (full_syntax e.options) (without_mark f.text)

-- the lines of the events of a file, with the places of their ranges where positions are asked for
abbrev pub events_of_file : (positions : Bool) → Enabled → FileView → List ℕ
events_of_file positions e f =
    if positions
    then placed_event_lines (without_mark f.text) (added_events (line_additions e) (file_source e f))
    else written_of_text as_lines (line_additions e) (file_source e f)

-- the headings of a file, with their ids where those are enabled
abbrev pub line_headings : Enabled → FileView → List EntryView
line_headings e f = headings_of_text None (line_additions e) (file_source e f)

-- the lines of the headings of a file without places, with their ids where those are enabled
abbrev pub bare_outline : Enabled → FileView → List ℕ
bare_outline e f =
    if e.heading_ids then outline_lines_with_ids (line_headings e f) else outline_lines (line_headings e f)

-- the same, with the places of their ranges where positions are asked for
abbrev pub outline_of_file : (positions : Bool) → Enabled → FileView → List ℕ
outline_of_file positions e f =
    if positions then placed_outline_lines (without_mark f.text) e.heading_ids (line_headings e f)
    else bare_outline e f

-- the lines of the links and images of a file
abbrev pub links_of_file : (positions : Bool) → Enabled → FileView → List ℕ
links_of_file positions e f =
    if positions
    then placed_link_lines (without_mark f.text) (links_with_additions (line_additions e) (file_source e f))
    else link_lines (links_with_additions (line_additions e) (file_source e f))

-- the lines of the references of a file whose link label no definition has
abbrev pub broken_of_file : (positions : Bool) → Enabled → FileView → List ℕ
broken_of_file positions e f =
    if positions then placed_broken_lines (without_mark f.text) (broken_of_text (file_source e f))
    else broken_lines (without_mark f.text) (broken_of_text (file_source e f))

-- the name by which links lead to a file: none if it is the only one, or standard input
abbrev pub link_name : FileView → List ℕ
link_name f = if f.several && not (bytes_eq f.name standard) then f.name else []

-- what is written for a file that becomes HTML, safe or not
abbrev pub html_of_file : FormView → Enabled → FileView → List ℕ
html_of_file form e f = written_of_text form (html_additions e f) (file_source e f)

-- what is written for a file in a format, with places in its lines where positions are asked for
abbrev pub output_in : Format → AskedView → FileView → List ℕ
output_in format.Html a f = html_of_file as_html a.enabled f
output_in format.SafeHtml a f = html_of_file (as_safe_html a.rules) a.enabled f
output_in format.Events a f = events_of_file a.positions a.enabled f
output_in format.Outline a f = outline_of_file a.positions a.enabled f
output_in format.Links a f = links_of_file a.positions a.enabled f
output_in format.Broken a f = broken_of_file a.positions a.enabled f
output_in format.Contents a f = contents_in_file (link_name f)
    (headings_of_text None (contents_additions a.enabled) (file_source a.enabled f))

-- what is written for a file
abbrev pub output_of_file : AskedView → FileView → List ℕ
output_of_file a f = output_in a.format a f

-- this is why a file does not become HTML
abbrev pub IsFaultOfHtml : FormView → Enabled → FileView → Fault → Type 0
IsFaultOfHtml form e f fault = IsFaultOfWritingText form (html_additions e f) (file_source e f) fault

-- this is why nothing is written for a file in a format: an allocation was refused, or its text is too deep for HTML
abbrev pub IsFaultIn : Format → AskedView → FileView → Fault → Type 0
IsFaultIn format.Html a f fault = IsFaultOfHtml as_html a.enabled f fault
IsFaultIn format.SafeHtml a f fault = IsFaultOfHtml (as_safe_html a.rules) a.enabled f fault
IsFaultIn format.Events a f fault =
    IsFaultOfWritingText as_lines (line_additions a.enabled) (file_source a.enabled f) fault
IsFaultIn format.Outline a f fault = fault ≡ fault_kind.Memory
IsFaultIn format.Links a f fault = fault ≡ fault_kind.Memory
IsFaultIn format.Broken a f fault = fault ≡ fault_kind.Memory
IsFaultIn format.Contents a f fault = fault ≡ fault_kind.Memory

-- this is why nothing is written for a file
abbrev pub IsFaultOfFile : AskedView → FileView → Fault → Type 0
IsFaultOfFile a f fault = IsFaultIn a.format a f fault

-- the line that names one of several files before its lines of JSON
abbrev pub named_line : FileView → List ℕ
named_line f = if f.several then codes "{\"file\":" ++ string f.name ++ codes "}\n" else []

abbrev pub file_line : Format → FileView → List ℕ
file_line format.Html f = []
file_line format.SafeHtml f = []
file_line format.Events f = named_line f
file_line format.Outline f = named_line f
file_line format.Links f = named_line f
file_line format.Broken f = named_line f
file_line format.Contents f = []

-- the files of a request with these texts, of which the first is after this number of others
abbrev pub files_from : Request → (several : Bool) → ℕ → (texts : List (List ℕ)) → List FileView
files_from r several before [] = []
files_from r several before (text ∷ texts) = record {
  name = unwrap_or (slice_get (map string_bytes r.inputs.items) before) standard;
  number = suc before;
  several = several;
  text = text;
} ∷ files_from r several (suc before) texts

-- the files of a request whose files hold these texts
abbrev pub files_of : Request → (texts : List (List ℕ)) → List FileView
files_of r texts = files_from r (nat_lt 1 (length texts)) 0 texts

-- what is written for files, one after another
abbrev pub outputs_of : AskedView → List FileView → List ℕ
outputs_of a [] = []
outputs_of a (f ∷ files) = (file_line a.format f ++ output_of_file a f) ++ outputs_of a files

-- this is why nothing is written for files: for one of them nothing is
abbrev pub IsFaultOfFiles : AskedView → List FileView → Fault → Type 0
IsFaultOfFiles a [] fault = fault ≡ fault_kind.Memory
IsFaultOfFiles a (f ∷ files) fault = IsFaultOfFile a f fault ⊎ IsFaultOfFiles a files fault

-- the text of the first heading of level 1 that has one
abbrev pub first_title : List EntryView → Option (List ℕ)
first_title [] = None
first_title (e ∷ entries) = if e.level == 1 && is_some (shown_title e.text) then shown_title e.text
    else first_title entries

-- the rules by which the events of a file are made safe, where they are
abbrev pub safe_in : Format → SafeRulesView → Option SafeRulesView
safe_in format.SafeHtml rules = Some rules
safe_in other rules = None

-- the headings of a file as its HTML shows them
abbrev pub headings_of_file : AskedView → FileView → List EntryView
headings_of_file a f =
    headings_of_text (safe_in a.format a.rules) (html_additions a.enabled f) (file_source a.enabled f)

-- the title that a file's first heading of level 1 with a text gives a page, or otherwise its name
abbrev pub title_of_headings : AskedView → FileView → List ℕ
title_of_headings a f = unwrap_or (first_title (headings_of_file a f)) (file_title f.name)

-- the title of a page without one of its own: that in the metadata of the first file, or of its headings
abbrev pub title_of_file : AskedView → FileView → List ℕ
title_of_file a f = unwrap_or (title_in_metadata (file_source a.enabled f)) (title_of_headings a f)

abbrev pub title_of_files : AskedView → List FileView → List ℕ
title_of_files a [] = []
title_of_files a (f ∷ files) = title_of_file a f

-- the contents of a page: for each file the list of its headings
abbrev pub contents_of_files : AskedView → List FileView → List ℕ
contents_of_files a [] = []
contents_of_files a (f ∷ files) = html_list_of (headings_of_file a f) ++ contents_of_files a files

-- a text as a field of a page, wherever it is in memory
abbrev pub text_of_page : List ℕ → Bor (List ℕ)
text_of_page text = record { ref_ptr = (0, 0); now = text }

-- the title of a page: its own, or that of its files
abbrev pub title_shown : PageView → AskedView → List FileView → List ℕ
title_shown page a files = unwrap_or page.title (title_of_files a files)

-- a page with this title, these contents and this HTML
abbrev pub page_around : PageView → (title contents html : List ℕ) → List ℕ
page_around page title contents html = page_html (record {
  language = option_map text_of_page page.language;
  title = text_of_page title;
  style = style_of (option_map text_of_page page.style);
  contents = text_of_page contents;
  html = text_of_page html;
})

-- the contents of a page, where they are asked for
abbrev pub contents_asked : PageView → AskedView → List FileView → List ℕ
contents_asked page a files = if page.contents then contents_of_files a files else []

-- what is written, in a page where one is asked for
abbrev pub in_page : Option PageView → AskedView → List FileView → (outputs : List ℕ) → List ℕ
in_page None a files outputs = outputs
in_page (Some page) a files outputs =
    page_around page (title_shown page a files) (contents_asked page a files) outputs

-- what is written for a request whose files hold these texts
abbrev pub output_of : Request → (texts : List (List ℕ)) → List ℕ
output_of r texts = in_page (option_map page_view r.page) (asked_of r) (files_of r texts)
    (outputs_of (asked_of r) (files_of r texts))

-- this is why nothing is written for a request
abbrev pub IsFaultOfOutput : Request → (texts : List (List ℕ)) → Fault → Type 0
IsFaultOfOutput r texts fault = IsFaultOfFiles (asked_of r) (files_of r texts) fault
